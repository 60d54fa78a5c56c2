use Rattle.txs_value_data.specs.View.{plain_of}
use Rattle.txs_value_data.proofs.PrintedLemmas.{then_more}
use Rattle.txs_cli_events.specs.Shown.{shown}
use Rattle.txs_cli_events.proofs.Pieces.{on_ok}
use Rattle.txs_cli_events.proofs.parts.write_value.Goals as goal

pub returns : goal.returns
returns c =
    let value = shown (plain_of c.args.value.now) in
    on_ok c.write_shown.result (then_more c.args.out.now.items c.args.before.now c.extend_from_slice.new.self.items value c.write_shown.new.out.items c.in_ok-extend_from_slice.ensures.items) c.write_shown.ensures
