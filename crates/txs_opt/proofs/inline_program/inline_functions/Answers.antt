use Rattle.std.proofs.Common.{List, [], sym, subst}
use Rattle.txs_tree_meaning.specs.Scoped.{ScopedFunctions}
use Rattle.txs_tree_meaning.specs.View.{functions_of}
use Rattle.txs_tree_meaning.specs.declared.node.Function.{Function}
use Rattle.txs_tree_meaning.proofs.Copies.{function_reach}
use Rattle.txs_opt.specs.Inline.{functions_inlined}
use Rattle.txs_opt.proofs.InlinedRows.{functions_step}
use Rattle.txs_opt.proofs.inline_program.inline_functions.Goals as goal

pub inline_function-requires : goal.inline_function-requires
inline_function-requires c =
    let scoped = subst (λ (l : List Function). ScopedFunctions [] (functions_of l)) (sym c.functions-functions.ensures) c.is_sound.ensures.scoped.functions in
    function_reach c.functions-functions.result.now [] c.loop-function.function-index c.function-item.result scoped c.loop-function-test.true c.function-item.is

pub loop-function-preserved : goal.loop-function-preserved
loop-function-preserved c =
    functions_step c.functions-functions.result.now c.loop-function.done.items c.as_slice.result.now c.push.new.self.items c.loop-function.budget c.inline_function.new.budget c.loop-function.function-index c.function-item.result c.in_ok-one.one
    (functions_inlined [] c.args.budget.now (functions_of c.functions-functions.result.now)) c.as_slice.ensures.value c.loop-function-test.true c.function-item.is c.loop-function.invariant c.in_ok-push.ensures.items c.in_ok-one.ensures.0 c.in_ok-one.ensures.1
