-- The machine's words for a commute phase, and those of txs_frame's `Phase`.
use Rattle.std.proofs.Common.{◌≡◌, List, [], ◌∷◌, length, Option, Some, None, refl, ap, arith}
use Rattle.txs_world_protocol.specs.Ask.{Writes, buffered}
use Rattle.txs_value_data.specs.declared.value.CellId.{CellId}
use Rattle.txs_value_data.specs.declared.value.Value.{Value}
use Rattle.txs_frame.specs.Phase.{blank, filled, arguments_of, value_or_nil}
use Rattle.txs_frame.specs.declared.frame.Commute.{Commute}
use Rattle.txs_code_meaning.specs.ActorState.{paired, with_first}
use Rattle.txs_code_meaning.specs.Machine as machine

-- the values that were viewed, paired with their refs, are the refs filled with them
pub paired_fills : (cs : List CellId) (vs : List Value) → length vs ≡ length cs → paired cs vs ≡ Some (filled (blank cs) vs)
paired_fills [] [] e = refl
paired_fills [] (v ∷ vs) e = absurd (omega (arith, e))
paired_fills (c ∷ cs) [] e = absurd (omega (arith, e))
paired_fills (c ∷ cs) (v ∷ vs) e = ap (with_first c v) (paired_fills cs vs (omega (arith, e)))

-- a commute's callee is called on the same
pub same_arguments : (k : Commute) (ws : Writes) → machine.arguments_of k ws ≡ arguments_of k ws
same_arguments k ws = ap (λ v. v ∷ k.args) (same_value (buffered ws k.cell.number))
  where
    same_value : (o : Option Value) → machine.value_or_nil o ≡ value_or_nil o
    same_value None = refl
    same_value (Some v) = refl
