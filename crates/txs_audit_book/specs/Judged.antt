-- What is found of the pieces of an audit.
use Rattle.std.specs.Prelude.{◌≡◌, ℕ, Bool, true, false, List, Option, Some, Result, Ok, Err}
use Rattle.txs_value_data.specs.declared.fault.Fault.{Fault}
use Rattle.txs_value_data.specs.declared.fault.Span.{Span}
use Rattle.txs_value_data.specs.declared.op.Callee.{Callee}
use Rattle.txs_value_cell.specs.Cells.{validators_of, validator_at}
use Rattle.txs_value_cell.specs.declared.action.Action.{Action}
use Rattle.txs_value_data.specs.declared.value.Value.{Value}
use Rattle.txs_world_protocol.specs.Ask.{same_new}
use Rattle.txs_tree_eval.specs.Told.{PureGives}
use Rattle.txs_tree_eval.specs.declared.pure_call.EvalStop.{EvalStop}
use Rattle.txs_tree_eval.specs.declared.pure_call.EvalStop.TheVariants as stop
use Rattle.txs_tree_meaning.specs.Pure.{pure_meaning}
use Rattle.txs_tree_meaning.specs.Tree.{PlainFunction, PlainProgram}
use Rattle.txs_tree_eval.specs.declared.action.ActionMeaning.{ActionMeaning}
use Rattle.txs_tree_eval.specs.declared.meaning.Needs.TheVariants as needs
use Rattle.txs_theorem_audit.specs.Evaluated.{accepted_by, end_by_answers, ValidatorGives}
use Rattle.txs_theorem_audit.specs.Evaluated as evaluated
use Rattle.txs_theorem_audit.specs.Audited as audited
use Rattle.txs_audit_book.specs.declared.acts.ActionEnd.{ActionEnd}
use Rattle.txs_audit_book.specs.declared.acts.ActionEnd.TheVariants as ends
use Rattle.txs_audit_book.specs.declared.finding.Finding.{Finding}
use Rattle.txs_audit_book.specs.declared.finding.Finding.TheVariants as found

-- a finding as the definition of an audit has it
abbrev pub as_found : Finding → audited.Finding
as_found found.Fine = audited.Fine
as_found (found.Off a i) = audited.Off a i
as_found (found.Short a i) = audited.Short a i

-- whether nothing is wrong
abbrev pub is_fine : audited.Finding → Bool
is_fine audited.Fine = true
is_fine (audited.Off a i) = false
is_fine (audited.Short a i) = false

-- whether an action came to this value
abbrev pub new_value : Value → Result Value Fault → Bool
new_value v new = same_new (Ok v) new

-- whether it came to this fault
abbrev pub new_fault : Fault → Result Value Fault → Bool
new_fault f new = same_new (Err f) new

-- whether there was no memory
abbrev pub is_no_memory : Result Value EvalStop → Bool
is_no_memory (Ok v) = false
is_no_memory (Err (stop.Fault f)) = false
is_no_memory (Err stop.Turns) = false
is_no_memory (Err stop.Memory) = true

-- of a callee on these values this is answered, and there was memory
abbrev pub CalleeGives : ℕ → List PlainFunction → Callee → List Value → Result Value EvalStop → Type 0
CalleeGives n functions f vs q = PureGives q (pure_meaning n functions f vs) × (q ≡ Err stop.Memory → ⊥)

-- a value, by what some evaluation answers of this validator, if there is one
abbrev pub AcceptedBy : PlainProgram → ℕ → Option Callee → Span → Value → Result Value EvalStop → Type 0
AcceptedBy p n guard span v s = (q : Result Value EvalStop) × (s ≡ accepted_by guard span v q) × ValidatorGives n p.functions guard v q

-- how an action ends, as the definition of an audit has it
abbrev pub as_end : ActionEnd → evaluated.ActionEnd
as_end (ends.HandedIn new) = evaluated.HandedIn new
as_end ends.LacksEvent = evaluated.LacksEvent
as_end ends.LacksTurns = evaluated.LacksTurns
as_end ends.Disallows = evaluated.Disallows

-- how an action ends that has this value, by what some evaluation answers of the agent's validator on it
abbrev pub ValueEnds : PlainProgram → ℕ → Action → Value → evaluated.ActionEnd → Type 0
ValueEnds p n x v end =
    (q : Result Value EvalStop) × (end ≡ evaluated.end_of_state (accepted_by (validator_at (validators_of p.cells) x.agent.number) x.span v q)) × ValidatorGives n p.functions (validator_at (validators_of p.cells) x.agent.number) v q

-- how an action ends of which this is answered, by what some evaluation answers of the agent's validator on its value
abbrev pub EndsBy : PlainProgram → ℕ → Action → ActionMeaning → evaluated.ActionEnd → Type 0
EndsBy p n x m end =
    (q : Result Value EvalStop) × (end ≡ end_by_answers m (validator_at (validators_of p.cells) x.agent.number) x.span q)
    × ((v : Value) → m.needs ≡ needs.Nothing → m.result ≡ Some (Ok v) → ValidatorGives n p.functions (validator_at (validators_of p.cells) x.agent.number) v q)
