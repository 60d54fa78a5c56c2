use Rattle.std.proofs.Common.{Some, None, codes}
use Rattle.txs_cli_explore.proofs.LastLine.{added, complete_line, cut_line}
use Rattle.txs_cli_explore.proofs.explore.add_last.Goals as goal

pub returns-then-explored : goal.returns-then-explored
returns-then-explored c =
    let e = c.args.explored.now in
    complete_line c.add_ends.result e.whole e.within c.args.asks c.args.outcomes c.args.output.now.items c.extend_from_slice.new.self.items c.add_ends.new.output.items c.if-explored.true c.in_ok-extend_from_slice.ensures.items c.add_ends.ensures

pub returns-in-None : goal.returns-in-None
returns-in-None c =
    let e = c.args.explored.now in
    cut_line c.extend_from_slice-in-None.result e.whole e.within None c.args.asks c.args.outcomes c.args.output.now.items c.write_number.new.out.items c.extend_from_slice-2.new.self.items c.extend_from_slice-in-None.new.self.items
    c.if-explored.false c.in-None.is c.in_ok-write_number.ensures.ok c.in_ok-extend_from_slice-2.ensures.items
    (added c.extend_from_slice-in-None.result c.extend_from_slice-2.new.self.items (codes "\n") c.extend_from_slice-in-None.new.self.items c.extend_from_slice-in-None.ensures.items)

pub returns-in-Some : goal.returns-in-Some
returns-in-Some c =
    let e = c.args.explored.now in
    cut_line c.add_few.result e.whole e.within (Some c.in-Some.most) c.args.asks c.args.outcomes c.args.output.now.items c.write_number.new.out.items c.extend_from_slice-2.new.self.items c.add_few.new.output.items
    c.if-explored.false c.in-Some.is c.in_ok-write_number.ensures.ok c.in_ok-extend_from_slice-2.ensures.items c.add_few.ensures
