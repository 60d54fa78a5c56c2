-- How a frame keeps what a transaction has done.
use Rattle.std.specs.Prelude.{◌≡◌, ◌≤◌, ℕ, suc, Bool, true, false, ◌==◌, List, [], ◌∷◌, map, length, set, insert, Option, Some, None, Result, Ok, Err, if◌then◌else◌}
use Rattle.std.specs.List.{slice_get}
use Rattle.std.specs.List.Sorted.{IsSearchInRange}
use Rattle.std.specs.Prelude.{nat_lt}
use Rattle.txs_world_protocol.specs.Ask.{Writes}
use Rattle.txs_value_cell.specs.declared.action.Action.{Action}
use Rattle.txs_value_data.specs.declared.value.CellId.{CellId}
use Rattle.txs_value_data.specs.declared.value.CellKind.TheVariants.{Ref}
use Rattle.txs_frame.specs.Frame.{PlainTxFrame, refs_of}
use Rattle.txs_frame.specs.declared.frame.Commute.{Commute}
use Rattle.txs_frame.specs.declared.own.How.{How}
use Rattle.txs_frame.specs.declared.own.How.TheVariants as how
use Rattle.txs_frame.specs.declared.own.Own.{Own}

-- ---- lists by ascending number

-- numbers that rise, from this one on
abbrev pub Ascends : {X : Type 0} → (X → ℕ) → ℕ → List X → Type 0
Ascends n least [] = Unit {0}
Ascends n least (x ∷ xs) = (least ≤ n x) × Ascends n (suc (n x)) xs

-- the item with this number
abbrev pub item_of : {X : Type 0} → (X → ℕ) → List X → ℕ → Option X
item_of n [] k = None
item_of n (x ∷ xs) k = if n x == k then Some x else item_of n xs k

-- an item joins the others: in the place of that with its number, else in order
abbrev pub with_item : {X : Type 0} → (X → ℕ) → List X → X → List X
with_item n [] y = y ∷ []
with_item n (x ∷ xs) y =
    if n x == n y then y ∷ xs
    else if nat_lt (n y) (n x) then y ∷ x ∷ xs
    else x ∷ with_item n xs y

-- the item at a place that a search found
abbrev pub item_at : {X : Type 0} → List X → Result ℕ ℕ → Option X
item_at xs (Ok i) = slice_get xs i
item_at xs (Err i) = None

-- an item put at a place that a search found
abbrev pub put_at : {X : Type 0} → List X → Result ℕ ℕ → X → List X
put_at xs (Ok i) y = set xs i y
put_at xs (Err i) y = insert xs i y

-- what a search for a number found: the item is there, or in no place, and one with this number is put there
pub record IsPlaceOf {X : Type 0} (n : X → ℕ) (xs : List X) (k : ℕ) (place : Result ℕ ℕ) : Type 0 where
  pub within : IsSearchInRange place (length xs)
  pub is : item_of n xs k ≡ item_at xs place
  pub puts : (y : X) → n y ≡ k → with_item n xs y ≡ put_at xs place y

-- the number of a cell
abbrev pub cell_number : CellId → ℕ
cell_number c = c.number

-- ---- own values

-- the number of an own value's ref
abbrev pub number_of : Own → ℕ
number_of o = o.number

-- the ref with this number
abbrev pub ref_cell : ℕ → CellId
ref_cell k = record { kind = Ref; number = k }

-- whether a ref whose value came so was set
abbrev pub was_set : How → Bool
was_set how.Set = true
was_set how.Commuted = false
was_set how.Both = true

-- whether it was commuted
abbrev pub was_commuted : How → Bool
was_commuted how.Set = false
was_commuted how.Commuted = true
was_commuted how.Both = true

-- whether it was commuted and not set
abbrev pub only_commuted : How → Bool
only_commuted how.Set = false
only_commuted how.Commuted = true
only_commuted how.Both = false

-- whether it was commuted, where it has a value
abbrev pub was_commuted_if : Option How → Bool
was_commuted_if None = false
was_commuted_if (Some h) = was_commuted h

-- how the value of a ref came that is commuted now
abbrev pub with_commute : Option How → How
with_commute None = how.Commuted
with_commute (Some how.Set) = how.Both
with_commute (Some how.Commuted) = how.Commuted
with_commute (Some how.Both) = how.Both

-- how an own value came, if there is one
abbrev pub how_of : Option Own → Option How
how_of None = None
how_of (Some o) = Some o.how

-- how the own value at a place came, if there is one
abbrev pub how_at : List Own → Result ℕ ℕ → Option How
how_at os place = how_of (item_at os place)

-- the refs whose values came in one of some ways
abbrev pub cells_by : (How → Bool) → List Own → List CellId
cells_by f [] = []
cells_by f (o ∷ os) = if f o.how then ref_cell o.number ∷ cells_by f os else cells_by f os

-- those refs with their values
abbrev pub writes_by : (How → Bool) → List Own → Writes
writes_by f [] = []
writes_by f (o ∷ os) = if f o.how then (ref_cell o.number, o.value) ∷ writes_by f os else writes_by f os

-- all refs with their values
abbrev pub writes_of : List Own → Writes
writes_of os = map (λ o. (ref_cell o.number, o.value)) os

-- ---- the frame

-- what the parts of a frame say together
abbrev pub work_of : List Own → List CellId → List Commute → List Action → PlainTxFrame
work_of os es cs ss = record { values = writes_of os; sets = cells_by was_set os; ensures = es; commutes = cs; sends = ss }

-- the parts of a frame agree
pub record IsKept (os : List Own) (es : List CellId) (cs : List Commute) : Type 0 where
  pub own : Ascends number_of 0 os
  pub ensured : Ascends cell_number 0 es
  pub commuted : refs_of cs ≡ cells_by was_commuted os
