use Rattle.std.proofs.Common.{sym, ap, ◌∙◌, arith}
use Rattle.txs_reader.specs.Tree.{tree}
use Rattle.txs_resolve_expand.specs.Expressions.{is_symbol}
use Rattle.txs_resolve_expand.proofs.Rows.{pairs_no, pairs_yes, pairs_odd_at, pairs_end}
use Rattle.txs_resolve_expand.proofs.shapes.are_pairs.Goals as goal

pub returns-then-not-is_symbol : goal.returns-then-not-is_symbol
returns-then-not-is_symbol c =
    sym (c.loop-at.invariant.same
    ∙ pairs_no c.args.pairs.now c.loop-at.at c.index-pairs-at.result c.index-pairs-at.result c.loop-at-test.true
    (ap (λ f. is_symbol (tree f)) (sym c.index-pairs-at.is) ∙ sym c.if-not-is_symbol.ensures))

pub loop-at-preserved : goal.loop-at-preserved
loop-at-preserved c = record {
  same =
      c.loop-at.invariant.same
      ∙ pairs_yes c.args.pairs.now c.loop-at.at c.index-pairs-at.result c.index-pairs-at.result c.loop-at-test.true
      (ap (λ f. is_symbol (tree f)) (sym c.index-pairs-at.is) ∙ sym c.if-not-is_symbol.ensures);
  inside = omega (arith, c.loop-at-test.true);
}

pub returns-then-at-pairs : goal.returns-then-at-pairs
returns-then-at-pairs c = sym (c.loop-at.invariant.same ∙ pairs_odd_at c.args.pairs.now c.loop-at.at (omega (arith, c.loop-at-test.false, c.if-at-pairs.true)))

pub returns : goal.returns
returns c = sym (c.loop-at.invariant.same ∙ pairs_end c.args.pairs.now c.loop-at.at c.if-at-pairs.false)
