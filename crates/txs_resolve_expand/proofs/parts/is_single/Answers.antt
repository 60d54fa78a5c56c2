use Rattle.std.proofs.Common.{ap, ◌∙◌}
use Rattle.txs_reader.specs.declared.form.Form.{Form}
use Rattle.txs_reader.specs.Tree.{tree}
use Rattle.txs_resolve_expand.specs.Expansions.{form_at, is_alone}
use Rattle.txs_resolve_expand.proofs.Singles.{single_other, single_two}
use Rattle.txs_resolve_expand.proofs.parts.is_single.Goals as goal

pub returns-then-forms-ne2-clause-value : goal.returns-then-forms-ne2-clause-value
returns-then-forms-ne2-clause-value c = single_other c.args.forms.now c.if-forms-ne2.true

pub returns-clause-value : goal.returns-clause-value
returns-clause-value c =
    c.is_alone.ensures ∙ ap is_alone (c.form_at.ensures ∙ ap (λ (f : Form). form_at (tree f)) c.index-forms-0.is) ∙ single_two c.args.forms.now c.index-forms-0.result c.if-forms-ne2.false
