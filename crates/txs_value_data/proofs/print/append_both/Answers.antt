use Rattle.txs_value_data.proofs.PrintedLemmas.{Extends-after, Extends-by, ended_by}
use Rattle.txs_value_data.proofs.print.append_both.Goals as goal

pub returns-in_default-clause-kept : goal.returns-in_default-clause-kept
returns-in_default-clause-kept c = Extends-by c.extend_from_slice.result c.args.out.now.items _ c.extend_from_slice.new.self.items c.extend_from_slice.ensures.items

pub returns-in-Ok-clause-kept : goal.returns-in-Ok-clause-kept
returns-in-Ok-clause-kept c =
    let mid = c.extend_from_slice.new.self.items in
    let put = c.extend_from_slice-in-Ok in
    Extends-after c.args.out.now.items _ mid put.new.self.items c.in-Ok.ensures.items (Extends-by put.result mid _ put.new.self.items put.ensures.items)

pub returns-in-Ok-clause-ok : goal.returns-in-Ok-clause-ok
returns-in-Ok-clause-ok c =
    let put = c.extend_from_slice-in-Ok in
    ended_by put.result c.args.out.now.items c.args.a.now c.extend_from_slice.new.self.items c.args.b.now put.new.self.items c.in-Ok.ensures.items put.ensures.items
