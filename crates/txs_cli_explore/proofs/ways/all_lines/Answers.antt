use Rattle.txs_cli_explore.proofs.Ran.{lines_are}
use Rattle.txs_cli_explore.proofs.ways.all_lines.Goals as goal

pub returns : goal.returns
returns c =
    let t = c.args.told.now in
    lines_are t.threads.items t.agents.items c.as_slice.result.now c.as_slice-2.result.now t.output.items c.as_slice-3.result.now t.errors.items c.as_slice-4.result.now c.new-lines.result.items c.add_printed.new.lines.items c.add_printed-2.new.lines.items
    c.extend_from_slice.new.self.items c.extend_from_slice-2.new.self.items c.as_slice.ensures.value c.as_slice-2.ensures.value c.as_slice-3.ensures.value c.as_slice-4.ensures.value c.new-lines.ensures.items c.in_ok-add_printed.ensures c.in_ok-add_printed-2.ensures
    c.in_ok-extend_from_slice.ensures.items c.in_ok-extend_from_slice-2.ensures.items
