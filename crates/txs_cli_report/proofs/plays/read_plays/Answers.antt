use Rattle.std.proofs.Common.{◌≡◌, ◌+◌, ◌-◌, ◌∷◌, suc, Result, Err, IfErr, Vec, Global, length, eqb, false, rules, sym, ap, ◌∙◌, subst, arith, length-append}
use Rattle.std.proofs.lemmas.Str.Pattern.{split_parts}
use Rattle.txs_machine.specs.Schedule.{spread}
use Rattle.txs_machine.specs.declared.schedule.Repeated.{Repeated}
use Rattle.txs_cli_report.specs.Plays.{plays_of, items_in, IsListError}
use Rattle.txs_cli_report.specs.declared.plays.ListError.{ListError}
use Rattle.txs_cli_report.proofs.Reading.{begun_on, some_last, text_said, said_more, said_last, item_wrong, last_wrong}
use Rattle.txs_cli_report.proofs.plays.read_plays.Goals as goal

pub returns-in_err-push_item-clause-wrong : goal.returns-in_err-push_item-clause-wrong
returns-in_err-push_item-clause-wrong c =
    let text = c.args.text.now in
    let rest = c.loop-item.rest.now in
    let item = c.in-Some.item in
    let later = c.in-Some.later in
    let cut = rw c.in-Some.is at (split_parts 44 rest c.split_once.result c.split_once.ensures.cases (omega arith)) in
    let some : eqb (length text) 0 ≡ false = search rules in
    let whole = c.loop-item.invariant.whole ∙ sym (text_said text some) in
    let e = c.in_err-push_item.field-0.0 in
    let is : c.from_residual.result ≡ Err e = search rules in
    subst (λ (r : Result (Vec Repeated Global) ListError). IfErr r (λ (e : ListError). IsListError text e)) (sym is)
    (item_wrong (spread c.loop-item.plays.items) (length text - length rest) text rest item.now later.now e cut.0 cut.1 whole c.loop-item.invariant.begun c.in_err-push_item.ensures.wrong)

pub loop-item-preserved : goal.loop-item-preserved
loop-item-preserved c =
    let text = c.args.text.now in
    let rest = c.loop-item.rest.now in
    let item = c.in-Some.item in
    let later = c.in-Some.later in
    let cut = rw c.in-Some.is at (split_parts 44 rest c.split_once.result c.split_once.ensures.cases (omega arith)) in
    let said = c.in_ok-push_item.ensures.said in
    let long : length rest ≡ length item.now + suc (length later.now) = ap length cut.0 ∙ length-append item.now (44 ∷ later.now) in
    let within = c.loop-item.invariant.within in
    record {
      whole = said_more (spread c.loop-item.plays.items) said.0 (spread c.push_item.new.plays.items) (length text - length rest) (length text - length later.now) rest item.now later.now (plays_of 0 (items_in text)) cut.0 cut.1 said.1 said.2
          (omega (arith, long, within)) c.loop-item.invariant.whole;
      within = omega (arith, long, within);
      kept = omega (arith, long, c.in_ok-push_item.ensures.kept, c.loop-item.invariant.kept);
      begun = begun_on said.0 text rest item.now later.now later.now cut.0 cut.1 said.1 c.loop-item.invariant.begun;
      utf8 = search rules;
    }

pub returns-in_err-push_item-2-clause-wrong : goal.returns-in_err-push_item-2-clause-wrong
returns-in_err-push_item-2-clause-wrong c =
    let text = c.args.text.now in
    let rest = c.loop-item.rest.now in
    let without = rw c.in_default.is at (split_parts 44 rest c.split_once.result c.split_once.ensures.cases (omega arith)) in
    let some : eqb (length text) 0 ≡ false = search rules in
    let whole = c.loop-item.invariant.whole ∙ sym (text_said text some) in
    let e = c.in_err-push_item-2.field-0.0 in
    let is : c.from_residual-in_err-push_item-2.result ≡ Err e = search rules in
    subst (λ (r : Result (Vec Repeated Global) ListError). IfErr r (λ (e : ListError). IsListError text e)) (sym is)
    (last_wrong (spread c.loop-item.plays.items) (length text - length rest) text rest e without whole c.loop-item.invariant.begun c.in_err-push_item-2.ensures.wrong)

pub returns-clause-plays : goal.returns-clause-plays
returns-clause-plays c =
    let text = c.args.text.now in
    let rest = c.loop-item.rest.now in
    let without = rw c.in_default.is at (split_parts 44 rest c.split_once.result c.split_once.ensures.cases (omega arith)) in
    let some : eqb (length text) 0 ≡ false = search rules in
    let said = c.in_ok-push_item-2.ensures.said in
    text_said text some ∙ said_last (spread c.loop-item.plays.items) said.0 (spread c.push_item-2.new.plays.items) (length text - length rest) rest (plays_of 0 (items_in text)) without said.1 said.2 c.loop-item.invariant.whole

pub returns-clause-kept : goal.returns-clause-kept
returns-clause-kept c =
    let said = c.in_ok-push_item-2.ensures.said in
    let some = some_last said.0 c.loop-item.rest.now said.1 in
    omega (arith, some, c.in_ok-push_item-2.ensures.kept, c.loop-item.invariant.kept)
