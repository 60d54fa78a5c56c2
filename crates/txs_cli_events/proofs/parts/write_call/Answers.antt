use Rattle.std.proofs.Common.{◌++◌, ◌∙◌, List, ap}
use Rattle.txs_value_data.proofs.PrintedLemmas.{then_more}
use Rattle.txs_value_data.specs.declared.value.Value.{Value}
use Rattle.txs_cli_events.specs.LongLines.{argument_words, callee_words, each}
use Rattle.txs_cli_events.proofs.Pieces.{on_ok}
use Rattle.txs_cli_events.proofs.parts.write_call.Goals as goal

pub returns : goal.returns
returns c =
    let old = c.args.out.now.items in
    let a = c.args.action.now in
    let first = c.write_callee.new.out.items in
    let new = c.write_arguments.new.out.items in
    let callee = callee_words a.callee in
    on_ok c.write_arguments.result (λ e. then_more old callee first (each argument_words 0 a.args) new c.in_ok-write_callee.ensures (e ∙ ap (λ (vs : List Value). first ++ each argument_words 0 vs) c.as_slice.ensures)) c.write_arguments.ensures
