use Rattle.txs_cli_explore.proofs.Blocks.{block_is}
use Rattle.txs_cli_explore.proofs.written.add_block.Goals as goal

pub returns : goal.returns
returns c =
    block_is c.add_change.result c.args.first.now c.args.outcome.now c.args.number c.as_slice-2.result.now c.as_slice-3.result.now c.as_slice.result.now c.args.output.now.items c.add_head.new.output.items c.add_change.new.output.items
    c.as_slice.ensures.value c.as_slice-2.ensures.value c.as_slice-3.ensures.value c.in_ok-add_head.ensures c.add_change.ensures
