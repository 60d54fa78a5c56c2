use Rattle.std.proofs.Common.{sym, ap, ◌∙◌}
use Rattle.txs_reader.specs.Tree.{PlainForms as Forms, tree}
use Rattle.txs_resolve_expand.specs.Expressions.{parted, row}
use Rattle.txs_resolve_expand.specs.declared.shapes.Sequence.TheVariants as sequence
use Rattle.txs_resolve_expand.proofs.Tables.{operands_chain, operands_plain}
use Rattle.txs_resolve_expand.proofs.plans.operation.Goals as goal

pub returns-then-not-is_chain-clause-core : goal.returns-then-not-is_chain-clause-core
returns-then-not-is_chain-clause-core c at =
    ap (λ (l : Forms). parted (row (sequence.Core c.args.op) l)) (operands_plain c.args.op at (tree c.args.head.now) c.args.args.now (sym c.is_chain.ensures ∙ c.if-not-is_chain.true))

pub returns-clause-core : goal.returns-clause-core
returns-clause-core c at =
    ap (λ (l : Forms). parted (row (sequence.Core c.args.op) l)) (operands_chain c.args.op at c.args.head.now c.args.args.now c.in-Some.prefix.now c.in-Some.last.now (sym c.requires ∙ c.in-Some.ensures.cases.0) (sym c.is_chain.ensures ∙ c.if-not-is_chain.false))
