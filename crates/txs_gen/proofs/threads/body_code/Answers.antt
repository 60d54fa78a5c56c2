use Rattle.std.proofs.Common.{ap, ◌∙◌}
use Rattle.txs_tree_meaning.specs.View.{tree_of}
use Rattle.txs_gen.specs.Bodies.{finished, outermost}
use Rattle.txs_gen.specs.Emission.{emits, with_instr}
use Rattle.txs_gen.proofs.Bodies.{fresh_is}
use Rattle.txs_gen.proofs.threads.body_code.Goals as goal

pub returns : goal.returns
unfolding finished
returns c =
    let d = c.args.parameters in
    let start = fresh_is c.new.result.items c.new-2.result.items d c.args.constants.items c.new.ensures.items c.new-2.ensures.items in
    c.in_ok-put.ensures
    ∙ ap (λ x. with_instr c.args.last c.args.span x) (c.in_ok-emit.ensures ∙ ap (λ x. emits (tree_of c.args.body.now) (outermost d) x) start)
