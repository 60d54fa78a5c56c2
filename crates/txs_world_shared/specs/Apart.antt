-- When a store and atoms, each with its book, are the parts of a state.
use Rattle.std.specs.Prelude.{◌≡◌, ◌<◌, ◌==◌, ◌&&◌, nat_lt, ℕ, Bool, false, List, [], ◌∷◌, map, Option, Some, None}
use Rattle.txs_world_protocol.specs.declared.ask.Ask.{Ask}
use Rattle.txs_world_protocol.specs.declared.event.Event.{Event}
use Rattle.txs_value_cell.specs.Forms.{same_kind}
use Rattle.txs_value_cell.specs.declared.cell.CellDefinition.{CellDefinition}
use Rattle.txs_value_data.specs.declared.value.CellId.{CellId}
use Rattle.txs_world_book.specs.Atom.{PlainAtom, LegalAtom}
use Rattle.txs_world_book.specs.Book.{actors}
use Rattle.txs_world_book.specs.Served.{cells_of}
use Rattle.txs_world.specs.Store.{PlainStore}
use Rattle.txs_world_shared.specs.Kept.{atoms_of, without_book, atom_named, names_place}

-- each event is of an actor, of which there are so many
abbrev pub MadeByActors : ℕ → List Event → Type 0
MadeByActors n [] = Unit {0}
MadeByActors n (e ∷ es) = (e.actor < n) × MadeByActors n es

-- so is each event of these atoms
abbrev pub AllByActors : ℕ → List PlainAtom → Type 0
AllByActors n [] = Unit {0}
AllByActors n (a ∷ as1) = MadeByActors n a.book × AllByActors n as1

-- the book of each of these atoms is legal
abbrev pub AreLegal : List PlainAtom → Type 0
AreLegal [] = Unit {0}
AreLegal (a ∷ as1) = LegalAtom a.cell a.book × AreLegal as1

-- The parts of a state of these cells: the store is one of them, the atoms are theirs in their order, each with the value that it opened with, and actors of theirs made the atoms' events.
pub record ArePartsOf (cells : List CellDefinition) (store : PlainStore) (atoms : List PlainAtom) : Type 0 where
  pub store_is : store.cells ≡ cells_of cells
  pub atoms_are : map without_book atoms ≡ atoms_of 0 cells
  pub by_actors : AllByActors (actors store.threads store.cells) atoms

-- whether this is that cell
abbrev pub is_cell : Option CellId → CellId → Bool
is_cell None d = false
is_cell (Some c) d = same_kind c.kind d.kind && c.number == d.number

-- whether an actor, which is one of so many, may ask this of this atom: the ask names it, and the actor may name the place
abbrev pub may_ask_atom : ℕ → ℕ → Ask → PlainAtom → Bool
may_ask_atom n a q x = nat_lt a n && (is_cell (atom_named q) x.cell && names_place a q x.book)
