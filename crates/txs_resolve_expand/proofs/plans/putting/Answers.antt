use Rattle.std.proofs.Common.{List, Some, sym, ap, ◌∙◌}
use Rattle.txs_value_cell.specs.declared.form.CellForm.TheVariants.{Put}
use Rattle.txs_reader.specs.declared.form.Form.{Form}
use Rattle.txs_reader.specs.Tree.{first, tree}
use Rattle.txs_resolve_expand.specs.Expressions.{of_family}
use Rattle.txs_resolve_expand.specs.Parts.{plain}
use Rattle.txs_resolve_expand.proofs.Tables.{puts_more}
use Rattle.txs_resolve_expand.proofs.plans.putting.Goals as goal

pub returns-then-rest-ne0-clause-core : goal.returns-then-rest-ne0-clause-core
returns-then-rest-ne0-clause-core c s =
    puts_more c.args.form s.span (tree c.args.cell.now) c.in_ok-value.value.now c.in_ok-value.rest.now c.if-rest-ne0.true
    ∙ sym (ap (λ (l : List Form). of_family (Some (Put c.args.form)) s.span (first (tree c.args.cell.now) (plain l))) c.in_ok-value.ensures.cases.0)
