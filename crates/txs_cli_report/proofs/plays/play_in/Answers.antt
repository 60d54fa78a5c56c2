use Rattle.std.proofs.Common.{◌≡◌, Some, None, rules, sym, ap, ◌∙◌, arith}
use Rattle.std.specs.Option.{option_map}
use Rattle.std.proofs.lemmas.Str.Pattern.{strip_prefix_char}
use Rattle.txs_machine.specs.declared.schedule.Play.TheVariants.{Ask}
use Rattle.txs_cli_report.specs.Plays.{thread_in}
use Rattle.txs_cli_report.proofs.Cutting.{unled}
use Rattle.txs_cli_report.proofs.plays.play_in.Goals as goal

pub returns-in_err-thread_in-in-None : goal.returns-in_err-thread_in-in-None
returns-in_err-thread_in-in-None c =
    let text = c.args.text.now in
    let nothing : c.from_residual-in_err-thread_in-in-None.result ≡ None = search rules in
    let none : thread_in text ≡ None = search rules in
    nothing ∙ ap (option_map Ask) (sym none) ∙ sym (unled text (rw c.in-None.is at (strip_prefix_char 116 text c.strip_prefix.result c.strip_prefix.ensures.cases (omega arith))))

pub returns-in_ok-thread_in-in-None : goal.returns-in_ok-thread_in-in-None
returns-in_ok-thread_in-in-None c =
    let text = c.args.text.now in
    let some : thread_in text ≡ Some c.in_ok-thread_in-in-None.field-0 = search rules in
    ap (option_map Ask) (sym some) ∙ sym (unled text (rw c.in-None.is at (strip_prefix_char 116 text c.strip_prefix.result c.strip_prefix.ensures.cases (omega arith))))
