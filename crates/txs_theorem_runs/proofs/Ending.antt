-- The end of a transaction, by whether there is a view at it: none where validators alone look at what was set.
use Rattle.std.proofs.Common.{◌≡◌, ◌==◌, nat_lt, Bool, true, false, List, [], ◌∷◌, ◌++◌, map, Option, Some, None, refl, ap, ◌∙◌, if◌then◌else◌}
use Rattle.txs_world_protocol.specs.Ask.{Writes, with_write}
use Rattle.txs_frame.specs.Frame.{PlainTxFrame, commuted, by_ref, written}
use Rattle.txs_frame.specs.Phase.{with_validation, validations, tasks_of}
use Rattle.txs_frame.specs.declared.phase.Task.TheVariants.{Redoes}
use Rattle.txs_value_data.specs.declared.op.Callee.{Callee}
use Rattle.txs_value_cell.specs.Cells.{Validators, validator_at}
use Rattle.txs_value_data.specs.declared.value.CellId.{CellId}
use Rattle.txs_value_data.specs.declared.value.Value.{Value}
use Rattle.txs_theorem_runs.specs.Staged.{redoes_some}

-- there is no view: none of the tasks redoes a commute, and no value was viewed
abbrev pub IsUnviewedEnd : Bool → Writes → Type 0
IsUnviewedEnd true ws = ⊥
IsUnviewedEnd false [] = Unit {0}
IsUnviewedEnd false (w ∷ ws) = ⊥

-- this holds where there is none
abbrev pub WhereUnviewed : Type 0 → Bool → Writes → Type 0
WhereUnviewed P true ws = Unit {0}
WhereUnviewed P false [] = P
WhereUnviewed P false (w ∷ ws) = Unit {0}

-- this holds where there is one
abbrev pub WhereViewed : Type 0 → Bool → Writes → Type 0
WhereViewed P true ws = P
WhereViewed P false [] = Unit {0}
WhereViewed P false (w ∷ ws) = P

pub unviewed_so : (P Q : Type 0) (b : Bool) (ws : Writes) → (IsUnviewedEnd b ws → P → Q) → WhereUnviewed P b ws → WhereUnviewed Q b ws
unviewed_so P Q true ws f h = tt
unviewed_so P Q false [] f h = f tt h
unviewed_so P Q false (w ∷ ws) f h = tt

pub viewed_so : (P : Type 0) (b : Bool) (ws : Writes) → P → WhereViewed P b ws
viewed_so P true ws p = p
viewed_so P false [] p = tt
viewed_so P false (w ∷ ws) p = p

-- a value that was viewed is there behind each write
pub put_viewed : (P : Type 0) (b : Bool) (ws : Writes) (c : CellId) (v : Value) → WhereUnviewed P b (with_write ws c v)
put_viewed P true ws c v = tt
put_viewed P false [] c v = tt
put_viewed P false (x ∷ xs) c v = go (x.0.number == c.number) (nat_lt c.number x.0.number)
  where
    go : (s t : Bool) → WhereUnviewed P false (if s then (c, v) ∷ xs else if t then (c, v) ∷ x ∷ xs else x ∷ with_write xs c v)
    go true t = tt
    go false true = tt
    go false false = tt

-- validators redo nothing
pub no_redoes : (vs : Validators) (cs : List CellId) → redoes_some (validations vs cs) ≡ false
no_redoes vs [] = refl
no_redoes vs (c ∷ cs) = by (validator_at vs c.number) (no_redoes vs cs)
  where
    by : (o : Option Callee) → redoes_some (validations vs cs) ≡ false → redoes_some (with_validation c o (validations vs cs)) ≡ false
    by None h = h
    by (Some f) h = h

-- where no ref was commuted and not set, validators are all that is left
pub tasks_redo_none : (vs : Validators) (w : PlainTxFrame) → commuted w ≡ [] → redoes_some (tasks_of vs w) ≡ false
tasks_redo_none vs w e = ap (λ l. redoes_some (map Redoes (by_ref l w.commutes) ++ validations vs (written w))) e ∙ no_redoes vs (written w)
