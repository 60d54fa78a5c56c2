-- Where no cell has a validator, nothing is to be validated.
use Rattle.std.proofs.Common.{◌≡◌, ℕ, zero, suc, ◌||◌, Bool, true, false, is_some, List, [], ◌∷◌, ◌++◌, map, Option, Some, None, refl, ap, ◌∙◌}
use Rattle.txs_frame.specs.Frame.{PlainTxFrame, commuted, phase_work, by_ref, written}
use Rattle.txs_frame.specs.Phase.{tasks_of, validations, with_validation}
use Rattle.txs_frame.specs.declared.phase.Task.{Task}
use Rattle.txs_frame.specs.declared.phase.Task.TheVariants.{Redoes}
use Rattle.txs_value_data.specs.declared.op.Callee.{Callee}
use Rattle.txs_value_cell.specs.Cells.{validators_of, validator_at}
use Rattle.txs_value_cell.specs.declared.cell.CellDefinition.{CellDefinition}
use Rattle.txs_value_data.specs.declared.value.CellId.{CellId}
use Rattle.txs_code_meaning.specs.Validating.{has_validator, is_validated}

-- neither of two holds
neither : (a b : Bool) → (a || b) ≡ false → (a ≡ false) × (b ≡ false)
neither true b e = cc
neither false b e = (refl, e)

-- there is none
is_none : {A : Type 0} (o : Option A) → is_some o ≡ false → o ≡ None
is_none None e = refl
is_none (Some x) e = cc

-- none has one
pub none_at : (ds : List CellDefinition) (k : ℕ) → has_validator ds ≡ false → validator_at (validators_of ds) k ≡ None
none_at [] k e = refl
none_at (d ∷ ds) zero e = is_none d.validator (neither (is_validated d) (has_validator ds) e).0
none_at (d ∷ ds) (suc k) e = none_at ds k (neither (is_validated d) (has_validator ds) e).1

-- so they look at nothing
pub no_validations : (ds : List CellDefinition) (refs : List CellId) → has_validator ds ≡ false → validations (validators_of ds) refs ≡ []
no_validations ds [] e = refl
no_validations ds (c ∷ cs) e = ap (λ (o : Option Callee). with_validation c o (validations (validators_of ds) cs)) (none_at ds c.number e) ∙ no_validations ds cs e

-- and a transaction that has no commutes to do again has nothing to do at its end
pub no_tasks : (ds : List CellDefinition) (w : PlainTxFrame) → has_validator ds ≡ false → commuted w ≡ [] → tasks_of (validators_of ds) w ≡ []
no_tasks ds w e none =
    ap (λ (ts : List Task). map Redoes (phase_work w) ++ ts) (no_validations ds (written w) e) ∙ ap (λ (cs : List CellId). map Redoes (by_ref cs w.commutes) ++ []) none
