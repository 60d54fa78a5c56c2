-- Acts of agents, as a trace names them, and what is found of actions.
use Rattle.std.specs.Prelude.{◌≡◌, ◌≤◌, ℕ, suc, Bool, false, List, ◌++◌, drop, take, Option, Some, None, Result}
use Rattle.txs_value_data.specs.Places.{nth}
use Rattle.txs_value_data.specs.declared.fault.Fault.{Fault}
use Rattle.txs_value_cell.specs.declared.action.Action.{Action}
use Rattle.txs_value_data.specs.declared.value.Value.{Value}
use Rattle.txs_world_book.specs.Served.{cells_of}
use Rattle.txs_world_protocol.specs.declared.event.Event.{Event}
use Rattle.txs_world_protocol.specs.declared.event.EventKind.{EventKind}
use Rattle.txs_world_protocol.specs.declared.event.EventKind.TheVariants.{Act as Acted}
use Rattle.txs_tree_meaning.specs.Tree.{PlainProgram}
use Rattle.txs_theorem_threads.specs.Noted.{txs_of}
use Rattle.txs_theorem_runs.specs.Told.{Place, seen_of}
use Rattle.txs_theorem_serial.specs.Whole.{is_act, is_act_kind}
use Rattle.txs_theorem_audit.specs.Audited.{PlainReport, books_of, Finding, and_then}
use Rattle.txs_theorem_audit.specs.Pieces.{acts_print, part_of}
use Rattle.txs_theorem_audit.specs.Verdict.{act_ends, calm_found, covered_all, noted_in, rest_ends}
use Rattle.txs_theorem_audit.specs.Evaluated.{means_on}
use Rattle.txs_audit_evidence.specs.Evidence.{PlainBooks}
use Rattle.txs_audit_evidence.specs.declared.acts.Act.{Act}
use Rattle.txs_audit_evidence.specs.declared.acts.Ending.{Ending}
use Rattle.txs_audit_evidence.specs.declared.acts.Ending.TheVariants as ending

-- what is known of an event of this kind with so many before it: what an act says, of any other nothing
abbrev pub IsAct : EventKind → ℕ → Option Act → Type 0
IsAct k at None = is_act_kind k ≡ false
IsAct k at (Some a) = (k ≡ Acted a.agent a.number a.new.now a.sends.now) × (a.at ≡ at)

-- the store's book has this act
abbrev pub HasAct : PlainBooks → Act → Type 0
HasAct b a = (e : Event) × (nth b.report.book a.at ≡ Some e) × (e.kind ≡ Acted a.agent a.number a.new.now a.sends.now)

-- what an entry of a trace names: an act of the store's book, or none
abbrev pub NamesAct : PlainBooks → Place → Option Act → Type 0
NamesAct b q None = is_act (nth (books_of b.report q.book) q.at) ≡ false
NamesAct b q (Some a) = (q.book ≡ 0) × (a.at ≡ q.at) × HasAct b a

-- the transactions of an action on this state and the events of a part of a trace, of which the first is the i-th of the actor's
abbrev pub calm_since : PlainProgram → PlainReport → ℕ → ℕ → ℕ → Action → Value → List Place → Finding
calm_since p r n a i x v since = calm_found (cells_of p.cells) (books_of r) a i since (noted_in (means_on p n x v) (seen_of p.cells (books_of r) since))

-- the end of an action that is over, against its act
abbrev pub acted_end : PlainProgram → PlainReport → ℕ → ℕ → ℕ → ℕ → List Event → Action → Value → List Place → Result Value Fault → List Action → Finding
acted_end p r n a i k done x v since new sends =
    act_ends (cells_of p.cells) done x.span a i k (means_on p n x v) (seen_of p.cells (books_of r) since) new sends (means_on p n x v (seen_of p.cells (books_of r) since))

-- all that is found of it
abbrev pub acted : PlainProgram → PlainReport → ℕ → ℕ → ℕ → ℕ → List Event → Action → Value → List Place → Result Value Fault → List Action → Finding
acted p r n a i k done x v since new sends = and_then (calm_since p r n a i x v since) (acted_end p r n a i k done x v since new sends)

-- the end of an action that isn't over and has printed this, by whether its agent's actor was stopped for a full book
abbrev pub waited_end : PlainProgram → PlainReport → ℕ → Bool → ℕ → ℕ → ℕ → Action → Value → List Place → List ℕ → Finding
waited_end p r n full a i k x v since out =
    rest_ends (books_of r) full a i k (means_on p n x v) (seen_of p.cells (books_of r) since) out (means_on p n x v (seen_of p.cells (books_of r) since))

-- all that is found of it
abbrev pub waited : PlainProgram → PlainReport → ℕ → Bool → ℕ → ℕ → ℕ → Action → Value → List Place → List ℕ → Finding
waited p r n full a i k x v since out = and_then (calm_since p r n a i x v since) (waited_end p r n full a i k x v since out)

-- the end of an action, by what it is judged by
abbrev pub end_by : PlainProgram → PlainReport → ℕ → ℕ → ℕ → ℕ → Action → Value → List Place → Ending → Finding
end_by p r n a i k x v since (ending.Act act) = acted_end p r n a i k (take act.at r.book) x v since act.new.now act.sends.now
end_by p r n a i k x v since (ending.Waits full out) = waited_end p r n full a i k x v since out.now

-- all that is found of it
abbrev pub judged : PlainProgram → PlainReport → ℕ → ℕ → ℕ → ℕ → Action → Value → List Place → Ending → Finding
judged p r n a i k x v since e = and_then (calm_since p r n a i x v since) (end_by p r n a i k x v since e)

-- whether its commits are covered
abbrev pub covered_since : PlainProgram → PlainReport → ℕ → Action → Value → List Place → Bool
covered_since p r n x v since = covered_all (books_of r) since (txs_of (means_on p n x v (seen_of p.cells (books_of r) since)))

-- The entry at index k of a trace is gone through, where the action there began at the i-th entry, and the next one begins at the j-th: what was
-- printed, and what the rest prints, are as before.
pub record PrintsOn (p : PlainProgram) (r : PlainReport) (n : ℕ) (trace : List Place) (i k : ℕ) (old : List ℕ) (j : ℕ) (new : List ℕ) : Type 0 where
  pub began : j ≤ suc k
  pub prints : new ++ acts_print p r n (part_of j (suc k) trace) (drop (suc k) trace) ≡ old ++ acts_print p r n (part_of i k trace) (drop k trace)
