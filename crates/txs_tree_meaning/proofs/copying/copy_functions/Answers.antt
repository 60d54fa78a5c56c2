use Rattle.std.proofs.Common.{List, [], sym, subst}
use Rattle.txs_tree_meaning.specs.Scoped.{ScopedFunctions}
use Rattle.txs_tree_meaning.specs.View.{functions_of}
use Rattle.txs_tree_meaning.specs.declared.node.Function.{Function}
use Rattle.txs_tree_meaning.proofs.Copies.{functions_more, function_top}
use Rattle.txs_tree_meaning.proofs.copying.copy_functions.Goals as goal

pub copy_function-requires : goal.copy_function-requires
copy_function-requires c =
    let scoped = subst (λ (l : List Function). ScopedFunctions [] (functions_of l)) (sym c.functions-functions.ensures) c.is_sound.ensures.scoped.functions in
    function_top c.functions-functions.result.now [] c.loop-function.function-index c.function-item.result scoped c.loop-function-test.true c.function-item.is

pub loop-function-preserved : goal.loop-function-preserved
loop-function-preserved c =
    functions_more c.functions-functions.result.now c.loop-function.copies.items c.push.new.self.items c.loop-function.function-index c.function-item.result c.in_ok-copy_function.field-0 c.loop-function-test.true c.function-item.is c.loop-function.invariant c.in_ok-push.ensures.items c.in_ok-copy_function.ensures
