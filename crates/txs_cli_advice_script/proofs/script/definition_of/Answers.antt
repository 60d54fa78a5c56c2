use Rattle.std.proofs.Common.{sym, ap, ◌∙◌, if◌then◌else◌, List}
use Rattle.txs_reader.specs.Tree.{PlainForm, tree}
use Rattle.txs_cli_advice_script.specs.Forms.{defines, parts_of}
use Rattle.txs_cli_advice_script.proofs.Lists.{last_more}
use Rattle.txs_cli_advice_script.proofs.script.definition_of.Goals as goal

pub loop-form-preserved : goal.loop-form-preserved
loop-form-preserved c =
    c.definition_or-found.ensures
    ∙ ap (λ (before : List PlainForm). if defines c.args.name.now (parts_of (tree c.form-item.result)) then parts_of (tree c.form-item.result) else before) c.loop-form.invariant
    ∙ sym (last_more c.args.name.now c.args.forms.now c.loop-form.form-index c.form-item.result c.loop-form-test.true c.form-item.is)
