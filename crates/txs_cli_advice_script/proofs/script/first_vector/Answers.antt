use Rattle.std.proofs.Common.{sym, ap, ◌∙◌}
use Rattle.std.specs.Option.{option_map}
use Rattle.txs_reader.specs.Tree.{trees}
use Rattle.txs_cli_advice_script.proofs.Lists.{first_found, first_passed}
use Rattle.txs_cli_advice_script.proofs.script.first_vector.Goals as goal

pub returns-in-Some : goal.returns-in-Some
returns-in-Some c =
    first_found c.args.forms.now c.loop-form.form-index c.form-item.result _ c.loop-form-test.true c.form-item.is
    (sym c.items_of.ensures ∙ ap (option_map (λ items. trees items.now)) c.in-Some.is) c.loop-form.invariant

pub loop-form-preserved : goal.loop-form-preserved
loop-form-preserved c =
    first_passed c.args.forms.now c.loop-form.form-index c.form-item.result c.loop-form-test.true c.form-item.is
    (sym c.items_of.ensures ∙ ap (option_map (λ items. trees items.now)) c.in_default.is) c.loop-form.invariant
