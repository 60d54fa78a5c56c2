use Rattle.std.proofs.Common.{subst, sym}
use Rattle.txs_value_cell.specs.Cells.{validators_of}
use Rattle.txs_verify.specs.Verdict.{IsRefusedBehind, OrMemory}
use Rattle.txs_verify.proofs.Ends.{pure_of, wrong_of_all}
use Rattle.txs_verify.proofs.bodies.walk_with_validators.Goals as goal

pub returns-in-Ok-clause-pure : goal.returns-in-Ok-clause-pure
returns-in-Ok-clause-pure c = pure_of c.look_at_purity.result (validators_of c.args.cells.now) c.walk_functions.new.kinds.items c.as_slice.result.now c.as_slice.ensures.value c.look_at_purity.ensures.right

pub returns-in-Ok-clause-wrong : goal.returns-in-Ok-clause-wrong
returns-in-Ok-clause-wrong c =
    wrong_of_all c.look_at_purity.result c.args.functions.now (validators_of c.args.cells.now) c.walk_functions.new.kinds.items c.as_slice.result.now c.walk_functions.new.rooms.items c.as_slice.ensures.value c.in-Ok.ensures.walked c.in-Ok.ensures.many c.look_at_purity.ensures.wrong

pub returns-in-Err-clause-wrong : goal.returns-in-Err-clause-wrong
returns-in-Err-clause-wrong c =
    c.first_refusal.ensures.refused c.args.functions.now (subst (λ ks. OrMemory c.in-Err.refused.kind (IsRefusedBehind c.args.functions.now ks c.in-Err.refused)) (sym c.as_slice-in-Err.ensures.value) c.in-Err.ensures.wrong)
