use Rattle.std.proofs.Common.{◌+◌, nat_le, sym, ap, ◌∙◌, arith}
use Rattle.txs_value_data.specs.Limits.{most_locals}
use Rattle.txs_tree_meaning.proofs.Soundness.{count-trees_of}
use Rattle.txs_tree_meaning.specs.Tree.{count}
use Rattle.txs_tree_meaning.specs.View.{tree_of, trees_of}
use Rattle.txs_tree_meaning.specs.Locals.{reach, reach_let}
use Rattle.txs_tree_meaning.specs.Shift.{shifted}
use Rattle.txs_opt.specs.Inline.{bound}
use Rattle.txs_opt.proofs.Calls.{true_le, few_args, body_reach}
use Rattle.txs_opt.proofs.Reach.{within_max}
use Rattle.txs_opt.proofs.call.let_has_few.Goals as goal

pub has_few-requires : goal.has_few-requires
has_few-requires c =
    let es = trees_of c.args.args.now in
    let few = few_args c.args.live es (true_le (reach_let c.args.live (bound c.args.live 0 es)) most_locals (sym c.if-not-values_have_few.ensures)) in
    (omega (arith, few, count-trees_of c.args.args.now), c.requires)

pub returns : goal.returns
returns c = λ m.
    let es = trees_of c.args.args.now in
    let d = c.args.live in
    let body = tree_of c.args.body.now in
    let inner = ap (λ x. nat_le x most_locals) (body_reach d body es ∙ ap (λ n. reach n body + d) (count-trees_of c.args.args.now)) in
    c.has_few.ensures ∙ sym (within_max (reach_let d (bound d 0 es)) (reach (d + count (bound d 0 es)) (shifted 0 d body)) most_locals (sym c.if-not-values_have_few.ensures) ∙ inner)
