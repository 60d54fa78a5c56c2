use Rattle.std.proofs.Common.{[], sym, subst, subst₂}
use Rattle.txs_tree_meaning.specs.Pure.{pure_meaning}
use Rattle.txs_tree_meaning.specs.Known.{known}
use Rattle.txs_tree_meaning.specs.Sound.{SoundCells, SoundFunctions}
use Rattle.txs_tree_meaning.specs.View.{functions_of}
use Rattle.txs_value_data.specs.declared.op.Callee.TheVariants.{Function}
use Rattle.txs_tree_eval.proofs.Ends.{whole_of, waitless}
use Rattle.txs_tree_eval.proofs.PureEnds.{callable_here, told_pure}
use Rattle.txs_tree_eval.proofs.pure_call.call_function.Goals as goal

pub new-context-requires : goal.new-context-requires
new-context-requires c =
    let functions = subst (λ fs. SoundFunctions [] (functions_of fs)) (sym c.functions.ensures) c.is_sound.ensures.functions in
    let cells = subst₂ (λ fs ds. SoundCells (known (functions_of fs)) ds) (sym c.functions.ensures) (sym c.cells.ensures) c.is_sound.ensures.cells in
    record { functions = functions; cells = cells }

pub apply_callee-given-requires : goal.apply_callee-given-requires
apply_callee-given-requires c =
    let p = c.args.program.now in
    let whole = whole_of c.new-context.result c.cells.result.now p.cells c.functions.result.now p.functions c.args.turns _ c.new-context.ensures c.cells.ensures c.functions.ensures in
    callable_here p.cells p.functions c.args.turns c.args.number c.args.values.now c.in_ok-copies.copies.items c.new-context.result whole c.in_ok-copies.ensures c.requires

pub answer-requires : goal.answer-requires
answer-requires c = waitless c.apply_callee-given.result tt _ c.apply_callee-given.ensures

pub returns : goal.returns
returns c =
    let p = c.args.program.now in
    let whole = whole_of c.new-context.result c.cells.result.now p.cells c.functions.result.now p.functions c.args.turns _ c.new-context.ensures c.cells.ensures c.functions.ensures in
    c.answer.ensures (pure_meaning c.args.turns (functions_of p.functions) (Function c.args.number) c.args.values.now)
    (told_pure p.cells p.functions c.args.turns c.args.number c.args.values.now c.in_ok-copies.copies.items c.new-context.result whole c.in_ok-copies.ensures c.apply_callee-given.result c.apply_callee-given.ensures)
