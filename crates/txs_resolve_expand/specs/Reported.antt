-- How the reasons of refusals are reported.
use Rattle.std.specs.Prelude.{ℕ, List, codes}
use Rattle.txs_resolve_expand.specs.declared.error.ResolveErrorKind.{ResolveErrorKind}
use Rattle.txs_resolve_expand.specs.declared.error.ResolveErrorKind.TheVariants.{UnknownName, Redefined, BadForm, NotCallable, LocalCalled, SelfCall, TooMany, Memory}

-- the number that is printed for a reason
abbrev pub report_number : ResolveErrorKind → ℕ
report_number UnknownName = 11
report_number Redefined = 12
report_number BadForm = 13
report_number NotCallable = 14
report_number LocalCalled = 15
report_number SelfCall = 16
report_number TooMany = 17
report_number Memory = 0

-- the name that is printed for a reason
abbrev pub report_name : ResolveErrorKind → List ℕ
report_name UnknownName = codes "UnknownName"
report_name Redefined = codes "Redefined"
report_name BadForm = codes "BadForm"
report_name NotCallable = codes "NotCallable"
report_name LocalCalled = codes "LocalCalled"
report_name SelfCall = codes "SelfCall"
report_name TooMany = codes "TooMany"
report_name Memory = codes "Memory"
