-- What is kept of an atom behind some events of its book.
use Rattle.std.specs.Prelude.{◌≡◌, ◌≤◌, ℕ, Bool, true, ◌&&◌, nat_lt, List, [], ◌∷◌, ◌++◌, length, slice_index}
use Rattle.txs_tree_eval_transaction.specs.Pasts.{Ascend, latest}
use Rattle.txs_tree_eval_transaction.specs.Views.{held}
use Rattle.txs_value_data.specs.declared.value.CellId.{CellId}
use Rattle.txs_value_data.specs.declared.value.Value.{Value}
use Rattle.txs_world_book.specs.Atom.{atom_after}
use Rattle.txs_world_book.specs.Book.{value_or}
use Rattle.txs_world_book.specs.Stands.{StandsAt}
use Rattle.txs_world_protocol.specs.declared.event.Event.{Event}
use Rattle.txs_world_protocol.specs.declared.event.EventKind.{EventKind}
use Rattle.txs_world_protocol.specs.declared.event.EventKind.TheVariants.{Read, Commit, Retry, Fail, Refused, Send, SendRefused, Act, Swap, Broke}
use Rattle.txs_theorem_audit.specs.Verdict.{is_legal_swap}
use Rattle.txs_audit_book.specs.Replayed.{IsLegalBook, IsOffAt}
use Rattle.txs_audit_book.specs.declared.replay.Gone.{Gone}
use Rattle.txs_audit_book.specs.declared.replay.Gone.TheVariants.{Through, UpTo}

-- the swaps after an event that is the last of so many
abbrev pub swaps_put : ℕ → EventKind → List (ℕ × Value) → List (ℕ × Value)
swaps_put n (Read c) h = h
swaps_put n (Commit at view ws sends) h = h
swaps_put n (Retry since c cause) h = h
swaps_put n (Fail at view) h = h
swaps_put n (Refused at view g) h = h
swaps_put n (Send x) h = h
swaps_put n (SendRefused g) h = h
swaps_put n (Act g number new sends) h = h
swaps_put n (Swap new) h = h ++ (n, new) ∷ []
swaps_put n (Broke at) h = h

-- the swaps of an atom at each index of its book: whatever it opened with, there it has the value of the last one
abbrev pub SwapsAre : List (ℕ × Value) → List Event → Type 0
SwapsAre h done = (v : Value) (p : ℕ) → atom_after v done p ≡ value_or (held h p) v

-- what is kept agrees with the events that were gone through
pub record GoneSwaps (h : List (ℕ × Value)) (views : List ℕ) (done : List Event) : Type 0 where
  pub are : SwapsAre h done
  pub within : latest 0 h ≤ length done
  pub ascend : Ascend 0 h
  pub all : (a : ℕ) → StandsAt true done a (slice_index views a)

-- whether an event may stand behind these in an atom's book
abbrev pub atom_test : CellId → ℕ → List Event → Event → Bool
atom_test cell actors done e = nat_lt e.actor actors && is_legal_swap cell done e.actor e.kind

-- an atom's book was gone through, or up to an event that may not stand there
abbrev pub WentAtom : CellId → ℕ → List Event → Gone (List (ℕ × Value)) → Type 0
WentAtom cell actors book (Through h) = IsLegalBook (atom_test cell actors) book × SwapsAre h book
WentAtom cell actors book (UpTo i) = IsOffAt (atom_test cell actors) book i
