use Rattle.std.proofs.Common.{◌+◌, sym, ap, arith}
use Rattle.txs_tree_meaning.proofs.Soundness.{count-trees_of}
use Rattle.txs_tree_meaning.specs.View.{trees_of}
use Rattle.txs_opt.proofs.Reach.{let_above}
use Rattle.txs_opt.proofs.locals.behind.Goals as goal

pub overflow_add-result : goal.overflow_add-result
overflow_add-result c = omega (arith, c.requires, let_above (trees_of c.args.values.now) c.args.live, count-trees_of c.args.values.now)

pub returns : goal.returns
returns c = ap (λ n. c.args.live + n) (sym (count-trees_of c.args.values.now))
