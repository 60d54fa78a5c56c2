use Rattle.txs_opt.proofs.Programs.{functions_more}
use Rattle.txs_opt.proofs.fold_program.fold_functions.Goals as goal

pub loop-function-preserved : goal.loop-function-preserved
loop-function-preserved c =
    functions_more c.args.functions.now c.loop-function.anew.items c.push.new.self.items c.loop-function.function-index c.function-item.result c.in_ok-fold_function.field-0 c.loop-function-test.true c.function-item.is c.loop-function.invariant c.in_ok-push.ensures.items c.in_ok-fold_function.ensures
