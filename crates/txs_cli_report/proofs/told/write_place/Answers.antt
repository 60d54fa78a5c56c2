use Rattle.std.proofs.Common.{◌++◌, codes, decimal}
use Rattle.txs_value_data.proofs.PrintedLemmas.{ended_by}
use Rattle.txs_cli_report.proofs.Lessons.{two_pairs}
use Rattle.txs_cli_report.proofs.told.write_place.Goals as goal

pub returns : goal.returns
returns c =
    let old = c.args.line.now.items in
    let at = c.args.at in
    let second = c.write_number-2.new.out.items in
    let written = two_pairs old (codes " at ") (decimal at.from) (codes "..") (decimal at.to) c.write_number.new.out.items second c.in_ok-write_number.ensures.ok c.in_ok-write_number-2.ensures.ok in
    ended_by c.extend_from_slice.result old (codes " at " ++ decimal at.from ++ codes ".." ++ decimal at.to) second (codes "\n") c.extend_from_slice.new.self.items written c.extend_from_slice.ensures.items
