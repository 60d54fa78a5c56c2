use Rattle.txs_value_data.proofs.PrintedLemmas.{Extends-after, Extends-by, ended_by}
use Rattle.txs_cli_report.proofs.text.write_both.Goals as goal

pub returns-in_err-extend_from_slice-clause-kept :
    goal.returns-in_err-extend_from_slice-clause-kept
returns-in_err-extend_from_slice-clause-kept c =
    Extends-by c.extend_from_slice.result c.args.out.now.items _ c.extend_from_slice.new.self.items c.extend_from_slice.ensures.items

pub returns-clause-ok : goal.returns-clause-ok
returns-clause-ok c =
    ended_by c.extend_from_slice-2.result c.args.out.now.items c.args.first.now c.extend_from_slice.new.self.items c.args.second.now c.extend_from_slice-2.new.self.items c.in_ok-extend_from_slice.ensures.items
    c.extend_from_slice-2.ensures.items

pub returns-clause-kept : goal.returns-clause-kept
returns-clause-kept c =
    let between = c.extend_from_slice.new.self.items in
    let new = c.extend_from_slice-2.new.self.items in
    Extends-after c.args.out.now.items _ between new c.in_ok-extend_from_slice.ensures.items (Extends-by c.extend_from_slice-2.result between _ new c.extend_from_slice-2.ensures.items)
