-- What differs in an action that is over with an act that an entry names, and at an agent's end.
use Rattle.std.proofs.Common.{◌≡◌, ◌-◌, ℕ, List, length, take, Option, Some, None, refl, sym, ap, ◌∙◌, false}
use Rattle.txs_value_data.specs.Places.{nth}
use Rattle.txs_world_protocol.specs.declared.event.Event.{Event}
use Rattle.txs_world_protocol.specs.declared.event.EventKind.{EventKind}
use Rattle.txs_world_protocol.specs.declared.event.EventKind.TheVariants.{Read, Commit, Retry, Fail, Refused, Send, SendRefused, Act, Swap, Broke}
use Rattle.txs_world.specs.Store.{next_action}
use Rattle.txs_world_book.specs.Served.{cells_of}
use Rattle.std.proofs.lemmas.Bool.{false≢true}
use Rattle.txs_tree_meaning.specs.Tree.{PlainProgram}
use Rattle.txs_tree_meaning.specs.View.{program_of}
use Rattle.txs_theorem_runs.specs.Told.{Place}
use Rattle.txs_theorem_serial.specs.Whole.{is_act, is_act_kind}
use Rattle.txs_theorem_audit.specs.Audited.{PlainReport, books_of}
use Rattle.txs_audit_evidence.specs.Acted.{NamesAct}
use Rattle.txs_audit_evidence.specs.Evidence.{PlainBooks}
use Rattle.txs_audit_evidence.specs.declared.acts.Act as act
use Rattle.txs_audit_event.specs.declared.what.What.TheVariants as what
use Rattle.txs_audit_difference.specs.Pieces.{act_what, at_event, kind_what, over_what}
use Rattle.txs_audit_difference.specs.declared.told.Difference.{Difference}

kind_unknown : (p : PlainProgram) (r : PlainReport) (n a j : ℕ) (since : List Place) (k : ℕ) (q : Place) (d : EventKind) → is_act_kind d ≡ false → at_event (what.Event None) a j ≡ kind_what p r n a j since k q d
kind_unknown p r n a j since k q (Read c) h = refl
kind_unknown p r n a j since k q (Commit at view ws sends) h = refl
kind_unknown p r n a j since k q (Retry from c cause) h = refl
kind_unknown p r n a j since k q (Fail at view) h = refl
kind_unknown p r n a j since k q (Refused at view g) h = refl
kind_unknown p r n a j since k q (Send x) h = refl
kind_unknown p r n a j since k q (SendRefused g) h = refl
kind_unknown p r n a j since k q (Act g number new sends) h = absurd (false≢true (sym h))
kind_unknown p r n a j since k q (Swap new) h = refl
kind_unknown p r n a j since k q (Broke at) h = refl

-- an entry that names no act
pub no_act : (p : PlainProgram) (r : PlainReport) (n a j : ℕ) (since : List Place) (k : ℕ) (q : Place) (o : Option Event) → is_act o ≡ false → at_event (what.Event None) a j ≡ act_what p r n a j since k q o
no_act p r n a j since k q None h = refl
no_act p r n a j since k q (Some e) h = kind_unknown p r n a j since k q e.kind h

-- an act of the store's book
module _ (b : PlainBooks) (n : ℕ) (q : Place) (x : act.Act) (names : NamesAct b q (Some x)) where
  abbrev p : PlainProgram
  p = program_of b.program

  abbrev r : PlainReport
  r = b.report

  there : nth (books_of r q.book) q.at ≡ Some names.2.0
  there = ap (λ k. nth (books_of r k) q.at) names.0 ∙ ap (nth r.book) (sym names.1) ∙ names.2.1

  its_done : take q.at (books_of r q.book) ≡ take x.at r.book
  its_done = ap (λ k. take q.at (books_of r k)) names.0 ∙ ap (λ k. take k r.book) (sym names.1)

  abbrev over : ℕ → ℕ → ℕ → List Event → List Place → Difference
  over a j i done since = over_what p r n a j i done x.agent since x.new.now x.sends.now (next_action (cells_of p.cells) done x.agent)

  -- what differs in its action, whose events are those of this part of the trace
  pub act_here : (a j k i : ℕ) (part since : List Place) → part ≡ since → i ≡ j - (k - length since) → (d : Difference) → d ≡ over a j i (take x.at r.book) part → d ≡ act_what p r n a j since k q (nth (books_of r q.book) q.at)
  act_here a j k i part since same begin d is =
      is ∙ ap (over a j i (take x.at r.book)) same ∙ ap (λ m. over a j m (take x.at r.book) since) begin
      ∙ sym (ap (act_what p r n a j since k q) there ∙ ap (kind_what p r n a j since k q) names.2.2 ∙ ap (λ (l : List Event). over a j (j - (k - length since)) l since) its_done)
