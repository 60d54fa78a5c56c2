-- How the state keeps the store and the atoms' books beside each other.
use Rattle.std.specs.Prelude.{◌≡◌, ℕ, suc, Bool, true, ◌&&◌, nat_lt, List, [], ◌∷◌, map, Option, Some, None, if◌then◌else◌}
use Rattle.std.proofs.Common.{get_or, set}
use Rattle.txs_world_protocol.specs.declared.ask.Ask.{Ask}
use Rattle.txs_world_protocol.specs.declared.ask.Ask.TheVariants.{Begin, Look, View, Commit, Fail, Peek, Send, Take, Finish, OpenAt, CloseAt, Broke}
use Rattle.txs_world_protocol.specs.declared.ask.Reply.{Reply}
use Rattle.txs_world_protocol.specs.declared.event.Event.{Event}
use Rattle.txs_value_cell.specs.Forms.{same_kind}
use Rattle.txs_value_cell.specs.declared.cell.CellDefinition.{CellDefinition}
use Rattle.txs_value_data.specs.declared.value.CellId.{CellId}
use Rattle.txs_value_data.specs.declared.value.CellKind.TheVariants.{Atom}
use Rattle.txs_value_data.specs.declared.value.Value.TheVariants.{Nil}
use Rattle.txs_world_book.specs.Atom.{PlainAtom, AtomAnswers, atom_with, serve_atom}
use Rattle.txs_world_book.specs.Book.{may_name}
use Rattle.txs_world.specs.Store.{PlainStore}
use Rattle.txs_world_book.specs.Served.{cells_of}
use Rattle.txs_theorem_runs.specs.Invariant.{SharedStands}
use Rattle.txs_theorem_runs.specs.Shared.{is_atom, may_close}
use Rattle.txs_world_shared.specs.SharedState.{PlainShared, shared_of}

-- the state of these cells with this store and these atoms
abbrev pub state_of : List CellDefinition → PlainStore → List PlainAtom → PlainShared
state_of cells store atoms = record { cells = cells; threads = store.threads; books = store.book ∷ map (λ a. a.book) atoms; taken = store.taken }

-- the cell of an atom with this number
abbrev pub atom_id : ℕ → CellId
atom_id k = record { kind = Atom; number = k }

-- the atom of a definition with this number, before its first event
abbrev pub new_atom : ℕ → CellDefinition → PlainAtom
new_atom k d = record { cell = atom_id k; opening = d.opening; book = [] }

-- whether a definition with this number is of an atom that a cell id can name
abbrev pub opens_atom : ℕ → CellDefinition → Bool
opens_atom k d = same_kind d.kind Atom && nat_lt k 65536

-- the atoms of these definitions, the first of which has this number
abbrev pub atoms_of : ℕ → List CellDefinition → List PlainAtom
atoms_of k [] = []
atoms_of k (d ∷ ds) = if opens_atom k d then new_atom k d ∷ atoms_of (suc k) ds else atoms_of (suc k) ds

-- an atom without its events
abbrev pub without_book : PlainAtom → PlainAtom
without_book a = atom_with a []

-- of each of these definitions how many atoms there are before it, where n are before the first, and how many there are in all
abbrev pub places_of : ℕ → List CellDefinition → List ℕ
places_of n [] = n ∷ []
places_of n (d ∷ ds) = n ∷ places_of (if same_kind d.kind Atom then suc n else n) ds

-- the state's parts agree: the store is one of these cells, the atoms are those of the cells in their order, and each place is that of its cell; and what is shared is legal
pub record IsKept (cells : List CellDefinition) (store : PlainStore) (atoms : List PlainAtom) (places : List ℕ) : Type 0 where
  pub cells_are : store.cells ≡ cells_of cells
  pub atoms_are : map without_book atoms ≡ atoms_of 0 cells
  pub places_are : places ≡ places_of 0 cells
  pub stands : SharedStands cells store.threads (shared_of (state_of cells store atoms))

-- the stand-in for an atom that is not there
abbrev pub no_atom : PlainAtom
no_atom = record { cell = atom_id 0; opening = Nil; book = [] }

-- the atom whose book an ask is for, if it is for an atom's
abbrev pub atom_named : Ask → Option CellId
atom_named Begin = None
atom_named (Look c at) = None
atom_named (View cs) = None
atom_named (Commit at sets ensured view commuted sends) = None
atom_named (Fail at view) = None
atom_named (Peek c) = if is_atom c then Some c else None
atom_named (Send x) = None
atom_named (Take g) = None
atom_named (Finish g new sends) = None
atom_named (OpenAt c) = Some c
atom_named (CloseAt c at new) = Some c
atom_named (Broke c at) = Some c

-- whether the actor may name the place of an atom's book that it asks with, if it names one
abbrev pub names_place : ℕ → Ask → List Event → Bool
names_place a Begin book = true
names_place a (Look c at) book = true
names_place a (View cs) book = true
names_place a (Commit at sets ensured view commuted sends) book = true
names_place a (Fail at view) book = true
names_place a (Peek c) book = true
names_place a (Send x) book = true
names_place a (Take g) book = true
names_place a (Finish g new sends) book = true
names_place a (OpenAt c) book = true
names_place a (CloseAt c at new) book = may_close book a at
names_place a (Broke c at) book = may_name true book a at

-- the atom at a place answers what its book serves, and the others stay as they were
pub record AnswersAt (atoms : List PlainAtom) (place a : ℕ) (q : Ask) (r : Reply) (later : List PlainAtom) : Type 0 where
  pub atom : PlainAtom
  pub answers : AtomAnswers (get_or atoms place no_atom) (serve_atom (get_or atoms place no_atom).cell (get_or atoms place no_atom).opening a q (get_or atoms place no_atom).book) r atom
  pub others : later ≡ set atoms place atom
