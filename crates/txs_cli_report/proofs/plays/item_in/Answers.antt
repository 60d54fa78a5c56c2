use Rattle.std.proofs.Common.{◌≡◌, ℕ, Option, Some, None, rules, ap, ◌∙◌, arith}
use Rattle.std.proofs.lemmas.Str.Pattern.{split_parts}
use Rattle.txs_machine.specs.declared.schedule.Play.{Play}
use Rattle.txs_cli_report.specs.Plays.{play_in, number_in, repeated}
use Rattle.txs_cli_report.proofs.Cutting.{many_said, one_said, no_times}
use Rattle.txs_cli_report.proofs.plays.item_in.Goals as goal

pub returns-in_err-play_in-in-Some-clause-none : goal.returns-in_err-play_in-in-Some-clause-none
returns-in_err-play_in-in-Some-clause-none c _ =
    let play = c.in-Some.play in
    let times = c.in-Some.times in
    let cut = rw c.in-Some.is at (split_parts 120 c.args.text.now c.split_once.result c.split_once.ensures.cases (omega arith)) in
    let none : play_in play.now ≡ None = search rules in
    many_said c.args.text.now play.now times.now cut.0 cut.1 ∙ ap (λ (p : Option Play). repeated p (number_in 1 100000 times.now)) none

pub returns-in_err-number_in-in-Some-clause-none : goal.returns-in_err-number_in-in-Some-clause-none
returns-in_err-number_in-in-Some-clause-none c _ =
    let play = c.in-Some.play in
    let times = c.in-Some.times in
    let cut = rw c.in-Some.is at (split_parts 120 c.args.text.now c.split_once.result c.split_once.ensures.cases (omega arith)) in
    let none : number_in 1 100000 times.now ≡ None = search rules in
    many_said c.args.text.now play.now times.now cut.0 cut.1 ∙ ap (λ (n : Option ℕ). repeated (play_in play.now) n) none ∙ no_times (play_in play.now)

pub returns-in_err-play_in-in-None-clause-none : goal.returns-in_err-play_in-in-None-clause-none
returns-in_err-play_in-in-None-clause-none c _ =
    let text = c.args.text.now in
    let without = rw c.in-None.is at (split_parts 120 text c.split_once.result c.split_once.ensures.cases (omega arith)) in
    let none : play_in text ≡ None = search rules in
    one_said text without ∙ ap (λ (p : Option Play). repeated p (Some 1)) none

pub returns-in_ok-number_in-in-Some-clause-said : goal.returns-in_ok-number_in-in-Some-clause-said
returns-in_ok-number_in-in-Some-clause-said c =
    let play = c.in-Some.play in
    let times = c.in-Some.times in
    let cut = rw c.in-Some.is at (split_parts 120 c.args.text.now c.split_once.result c.split_once.ensures.cases (omega arith)) in
    let some : play_in play.now ≡ Some c.in_ok-play_in-in-Some.field-0 = search rules in
    let number : number_in 1 100000 times.now ≡ Some c.in_ok-number_in-in-Some.field-0 = search rules in
    many_said c.args.text.now play.now times.now cut.0 cut.1 ∙ ap (λ (p : Option Play). repeated p (number_in 1 100000 times.now)) some ∙ ap (λ (n : Option ℕ). repeated (Some c.in_ok-play_in-in-Some.field-0) n) number

pub returns-in_ok-play_in-in-None-clause-said : goal.returns-in_ok-play_in-in-None-clause-said
returns-in_ok-play_in-in-None-clause-said c =
    let text = c.args.text.now in
    let without = rw c.in-None.is at (split_parts 120 text c.split_once.result c.split_once.ensures.cases (omega arith)) in
    let some : play_in text ≡ Some c.in_ok-play_in-in-None.field-0 = search rules in
    one_said text without ∙ ap (λ (p : Option Play). repeated p (Some 1)) some
