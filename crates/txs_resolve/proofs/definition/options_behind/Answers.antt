use Rattle.std.proofs.Common.{◌+◌, drop, Option, sym, ap, ◌∙◌, arith}
use Rattle.txs_resolve.specs.Names.{Options, options_from, with_options}
use Rattle.txs_resolve.specs.Scripts.{options_as}
use Rattle.txs_resolve_expand.specs.Parts.{plain}
use Rattle.txs_resolve.proofs.CellOptions.{options_pair, options_odd}
use Rattle.txs_resolve.proofs.definition.options_behind.Goals as goal

pub loop-at-preserved : goal.loop-at-preserved
loop-at-preserved c =
    let k = c.args.kind in
    let fs = c.args.behind.now in
    let i = c.loop-at.at in
    record {
      same =
          c.loop-at.invariant.same
          ∙ options_pair k (options_as c.loop-at.options) fs i c.index-behind-at.result c.index-behind-at-in-loop-at.result c.loop-at-test.true c.index-behind-at.is c.index-behind-at-in-loop-at.is
          ∙ ap (λ (o : Option Options). with_options o (λ p. options_from k p (plain (drop (i + 2) fs)))) (sym c.in_ok-options.ensures);
      inside = omega (arith, c.loop-at-test.true);
    }

pub returns-then-at-behind : goal.returns-then-at-behind
returns-then-at-behind c =
    sym (c.loop-at.invariant.same ∙ options_odd c.args.kind (options_as c.loop-at.options) c.args.behind.now c.loop-at.at (omega (arith, c.loop-at-test.false, c.if-at-behind.true)))
