-- What a key of a state has to hold, so that states with the same key are alike.
use Rattle.std.specs.Prelude.{◌≡◌, ◌≤◌, ℕ, zero, suc, Bool, List, [], ◌∷◌, length, Option, Some, None, if◌then◌else◌}
use Rattle.txs_world_protocol.specs.SeenEvent.{home}
use Rattle.txs_world_protocol.specs.declared.event.Event.{Event}
use Rattle.txs_value_data.specs.Places.{nth}
use Rattle.txs_value_data.specs.declared.fault.Fault.{Fault}
use Rattle.txs_value_data.specs.declared.value.CellKind.{CellKind}
use Rattle.txs_value_data.specs.declared.value.CellKind.TheVariants.{Ref, Atom, Agent}
use Rattle.txs_value_data.specs.declared.value.Value.{Value}
use Rattle.txs_value_cell.specs.declared.action.Action.{Action}
use Rattle.txs_value_cell.specs.declared.cell.CellDefinition.{CellDefinition}
use Rattle.txs_world_book.specs.Atom.{atom_newest}
use Rattle.txs_world_book.specs.Book.{is_of_kind, opening, newest, written, times_written, mail_after}
use Rattle.txs_world_book.specs.Served.{cells_of}
use Rattle.txs_world_book.specs.declared.cell.StoreCell.{StoreCell}
use Rattle.txs_world.specs.Kept.{kept_at}
use Rattle.txs_theorem_runs.specs.Shared.{Shared, atom_of}
use Rattle.txs_theorem_alike.specs.Books.{up_to_eleven, SamePoint, SameView, Alike}

-- what a function has for so many numbers, from this one on
abbrev pub each : {A : Type 0} → (ℕ → A) → ℕ → ℕ → List A
each f n zero = []
each f n (suc m) = f n ∷ each f (suc n) m

-- this of a cell of that kind, and nothing of others
abbrev pub of_kind : {A : Type 0} → CellKind → List StoreCell → (ℕ → A) → ℕ → Option A
of_kind kind cells f k = if is_of_kind kind (nth cells k) then Some (f k) else None

-- an atom's newest value, by its number
abbrev pub atom_value : List CellDefinition → Shared → ℕ → Value
atom_value cells sh k = atom_newest (atom_of cells (record { kind = Atom; number = k }) (sh.books (home cells (record { kind = Atom; number = k }))))

-- a key of a state: the newest values of refs, agents and atoms, of agents the actions that wait and the faults, and whose actions are taken
pub record StateKey : Type 0 where
  pub refs : List (Option Value)
  pub agents : List (Option Value)
  pub atoms : List (Option Value)
  pub waiting : List (Option (List Action))
  pub faults : List (Option (Option Fault))
  pub taken : List Bool

abbrev pub key_of : List CellDefinition → Shared → StateKey
key_of cells sh = record {
  refs = each (of_kind Ref (cells_of cells) (λ k. newest (opening (cells_of cells)) (sh.books 0) k)) 0 (length (cells_of cells));
  agents = each (of_kind Agent (cells_of cells) (λ k. newest (opening (cells_of cells)) (sh.books 0) k)) 0 (length (cells_of cells));
  atoms = each (of_kind Atom (cells_of cells) (atom_value cells sh)) 0 (length (cells_of cells));
  waiting = each (of_kind Agent (cells_of cells) (λ k. (mail_after (cells_of cells) (sh.books 0) k).actions)) 0 (length (cells_of cells));
  faults = each (of_kind Agent (cells_of cells) (λ k. (mail_after (cells_of cells) (sh.books 0) k).fault)) 0 (length (cells_of cells));
  taken = sh.taken;
}

-- a key of a read point: of each ref the value that is kept of it there, if one is, and how often it was written since
pub record PointKey : Type 0 where
  pub values : List (Option (Option Value))
  pub times : List (Option ℕ)

abbrev pub point_key : List StoreCell → List Event → ℕ → PointKey
point_key cells b p = record {
  values = each (of_kind Ref cells (λ k. kept_at (opening cells) k p b)) 0 (length cells);
  times = each (of_kind Ref cells (λ k. up_to_eleven (times_written k p b))) 0 (length cells);
}

-- a key of a view: of each ref whether it was written since
abbrev pub view_key : List StoreCell → List Event → ℕ → List (Option Bool)
view_key cells b p = each (of_kind Ref cells (λ k. written k p b)) 0 (length cells)

-- states with the same key are alike
abbrev pub KeyIsExact : Type 0
KeyIsExact = (cells : List CellDefinition) (sh th : Shared) → key_of cells sh ≡ key_of cells th → Alike cells sh th

-- read points with the same key tell the same
abbrev pub PointKeyIsExact : Type 0
PointKeyIsExact = (cells : List StoreCell) (b c : List Event) (p q : ℕ) → p ≤ length b → q ≤ length c → point_key cells b p ≡ point_key cells c q → SamePoint cells b c p q

-- and so do views
abbrev pub ViewKeyIsExact : Type 0
ViewKeyIsExact = (cells : List StoreCell) (b c : List Event) (p q : ℕ) → p ≤ length b → q ≤ length c → view_key cells b p ≡ view_key cells c q → SameView cells b c p q
