-- Of which kinds of refusals and faults the script at the span says more than the kind does.
use Rattle.std.specs.Prelude.{Bool, true, false}
use Rattle.txs_check.specs.declared.error.CheckErrorKind.{CheckErrorKind}
use Rattle.txs_check.specs.declared.error.CheckErrorKind.TheVariants as check
use Rattle.txs_resolve_expand.specs.declared.error.ResolveErrorKind.{ResolveErrorKind}
use Rattle.txs_resolve_expand.specs.declared.error.ResolveErrorKind.TheVariants as resolve
use Rattle.txs_value_data.specs.declared.fault.FaultKind.{FaultKind}
use Rattle.txs_value_data.specs.declared.fault.FaultKind.TheVariants as fault

-- a count, a place or a function that isn't pure
abbrev pub check_seen : CheckErrorKind → Bool
check_seen check.RecurCount = true
check_seen check.Arity = true
check_seen check.NotPure = true
check_seen check.InsideOnly = true
check_seen check.OutsideOnly = true
check_seen check.RecurNotTail = false
check_seen check.RecurAcrossDosync = false
check_seen check.CodeTooLarge = false
check_seen check.Memory = false

-- a name
abbrev pub name_seen : ResolveErrorKind → Bool
name_seen resolve.UnknownName = true
name_seen resolve.NotCallable = true
name_seen resolve.LocalCalled = true
name_seen resolve.Redefined = true
name_seen resolve.SelfCall = true
name_seen resolve.BadForm = false
name_seen resolve.TooMany = false
name_seen resolve.Memory = false

-- a name or a form
abbrev pub resolve_seen : ResolveErrorKind → Bool
resolve_seen resolve.BadForm = true
resolve_seen resolve.TooMany = false
resolve_seen resolve.Memory = false
resolve_seen kind = name_seen kind

-- a value of another kind than the one that is taken, or one that a validator refuses
abbrev pub fault_seen : FaultKind → Bool
fault_seen fault.InvalidState = true
fault_seen fault.NotANumber = true
fault_seen fault.NotAVector = true
fault_seen fault.NotACell = true
fault_seen fault.NotARef = true
fault_seen fault.NotAnAtom = true
fault_seen fault.NotAnAgent = true
fault_seen fault.OutsideOnly = true
fault_seen fault.Overflow = false
fault_seen fault.DivideByZero = false
fault_seen fault.IndexOut = false
fault_seen fault.PopEmpty = false
fault_seen fault.SetAfterCommute = false
fault_seen fault.RetryLimit = false
fault_seen fault.AgentFailed = false
fault_seen fault.TooDeep = false
fault_seen fault.TooLong = false
