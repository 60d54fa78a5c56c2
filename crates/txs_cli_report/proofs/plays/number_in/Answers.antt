use Rattle.std.proofs.Common.{◌≡◌, ◌<◌, ◌^◌, true, false, rules, sym, ◌∙◌}
use Rattle.std.specs.Char.{is_ascii_digit}
use Rattle.std.specs.List.{list_all}
use Rattle.txs_cli_report.proofs.Numbers.{number_of_others, number_of_parsed, number_of_unparsed}
use Rattle.txs_cli_report.proofs.plays.number_in.Goals as goal

pub returns-then-not-all_digits-clause-value : goal.returns-then-not-all_digits-clause-value
returns-then-not-all_digits-clause-value c =
    let others : list_all is_ascii_digit c.args.text.now ≡ false = search rules in
    sym (number_of_others c.args.least c.args.most c.args.text.now others)

pub returns-in-Ok-clause-value : goal.returns-in-Ok-clause-value
returns-in-Ok-clause-value c =
    let digits : list_all is_ascii_digit c.args.text.now ≡ true = search rules in
    c.ranged.ensures.value ∙ sym (number_of_parsed c.args.least c.args.most c.in-Ok.number c.args.text.now c.parse.result digits c.parse.ensures.value.0 c.in-Ok.is)

pub returns-in-Err-clause-value : goal.returns-in-Err-clause-value
returns-in-Err-clause-value c =
    let digits : list_all is_ascii_digit c.args.text.now ≡ true = search rules in
    let small : c.args.most < 2 ^ 32 = c.ranges.most.fits in
    sym (number_of_unparsed c.args.least c.args.most c.args.text.now c.parse.result c.in-Err.field-0 digits c.parse.ensures.value.0 c.in-Err.is small)
