-- One after the other, an actor has as many transactions as commits and refusals.
use Rattle.std.proofs.Common.{◌≡◌, ℕ, suc, Bool, true, false, ◌==◌, ◌&&◌, List, [], ◌∷◌, length, refl, sym, ap, ◌∙◌, if◌then◌else◌}
use Rattle.std.proofs.lemmas.Bool.{eqb-true}
use Rattle.txs_world_protocol.specs.declared.event.Event.{Event}
use Rattle.txs_world_protocol.specs.declared.event.EventKind.{EventKind}
use Rattle.txs_world_protocol.specs.declared.event.EventKind.TheVariants.{Read, Commit, Retry, Fail, Refused, Send, SendRefused, Act, Swap, Broke}
use Rattle.txs_world_book.specs.Book.{changed}
use Rattle.txs_value_cell.specs.Cells.{World, Validators}
use Rattle.txs_tree_meaning.specs.Thread.{TxRun}
use Rattle.txs_tree_meaning.specs.Tree.{PlainFunction}
use Rattle.txs_theorem_serial.specs.Laws.{OneForEach}
use Rattle.txs_theorem_serial.specs.Whole.{with_runs, EventAlone, OneByOne, ends_one, ends_by}

module _ (functions : List PlainFunction) (validators : Validators) (threads : ℕ) where
  abbrev After : (ℕ → List TxRun) → World → List Event → Type 0
  After runs W es = OneByOne functions validators threads runs W es

  module _ (e : Event) (es : List Event) (W : World) (runs : ℕ → List TxRun) (next : (V : World) (left : ℕ → List TxRun) → After left V es → (a : ℕ) → length (left a) ≡ ends_by a es) (a : ℕ) where
    -- the actor's first transaction is the event's
    taken : (x : TxRun) (xs : List TxRun) → runs e.actor ≡ x ∷ xs → length (with_runs e.actor xs runs a) ≡ ends_by a es → length (runs a) ≡ (if e.actor == a && true then suc (ends_by a es) else ends_by a es)
    taken x xs first rest = test (e.actor == a) refl rest
      where
        test : (own : Bool) → (e.actor == a) ≡ own → length (if own then xs else runs a) ≡ ends_by a es → length (runs a) ≡ (if own && true then suc (ends_by a es) else ends_by a es)
        test true same h = ap (λ b. length (runs b)) (sym (eqb-true e.actor a same)) ∙ ap length first ∙ ap suc h
        test false other h = h

    -- the event is none that ends a transaction
    untaken : length (runs a) ≡ ends_by a es → length (runs a) ≡ (if e.actor == a && false then suc (ends_by a es) else ends_by a es)
    untaken h = test (e.actor == a)
      where
        test : (own : Bool) → length (runs a) ≡ (if own && false then suc (ends_by a es) else ends_by a es)
        test true = h
        test false = h

    counted : (d : EventKind) → EventAlone functions validators threads e.actor W d runs (λ rest. After rest (changed d W) es) → length (runs a) ≡ (if e.actor == a && ends_one d then suc (ends_by a es) else ends_by a es)
    counted (Commit at view ws sends) h = taken h.0 h.1 h.2 (next (changed (Commit at view ws sends) W) (with_runs e.actor h.1 runs) h.4 a)
    counted (Refused at view g) h = taken h.0 h.1 h.2 (next (changed (Refused at view g) W) (with_runs e.actor h.1 runs) h.4 a)
    counted (Read c) h = untaken (next (changed (Read c) W) runs h a)
    counted (Retry since c cause) h = untaken (next (changed (Retry since c cause) W) runs h a)
    counted (Fail at view) h = untaken (next (changed (Fail at view) W) runs h a)
    counted (Send x) h = untaken (next (changed (Send x) W) runs h a)
    counted (SendRefused g) h = untaken (next (changed (SendRefused g) W) runs h a)
    counted (Act g n new sends) h = untaken (next (changed (Act g n new sends) W) runs h a)
    counted (Swap new) h = untaken (next (changed (Swap new) W) runs h a)
    counted (Broke at) h = untaken (next (changed (Broke at) W) runs h a)

  as_many : (runs : ℕ → List TxRun) (W : World) (es : List Event) → After runs W es → (a : ℕ) → length (runs a) ≡ ends_by a es
  as_many runs W [] h a = ap length (h a)
  as_many runs W (e ∷ es) h a = counted e es W runs (λ V left g b. as_many left V es g b) a e.kind h

pub one_for_each : OneForEach
one_for_each functions validators threads runs W es h a = as_many functions validators threads runs W es h a
