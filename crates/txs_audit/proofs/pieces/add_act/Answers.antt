use Rattle.std.proofs.Common.{◌+◌, arith, refl}
use Rattle.std.specs.Prelude.{map}
use Rattle.std.proofs.lemmas.List.{length-map}
use Rattle.txs_theorem_audit.specs.Audited.{books_of, place_of}
use Rattle.txs_audit_evidence.proofs.Printing.{there_below}
use Rattle.txs_audit.specs.Pieced.{pieces_as}
use Rattle.txs_audit.proofs.Counting.{act_joins, entry_joins}
use Rattle.txs_audit.proofs.pieces.add_act.Goals as goal

pub returns-then-not-is_act : goal.returns-then-not-is_act
returns-then-not-is_act c =
    entry_joins (books_of c.args.books.now.report) c.args.agent c.args.trace.now c.args.from c.args.at c.args.place c.requires (pieces_as c.args.pieces.now.items) c.is_act.result c.is_act.ensures c.if-not-is_act.true

pub overflow_add-result : goal.overflow_add-result
overflow_add-result c =
    let lt = there_below (map place_of c.args.trace.now) c.args.at (place_of c.args.place) c.requires in
    let long = length-map c.args.trace.now place_of in
    omega (arith, lt, long)

pub returns : goal.returns
returns c =
    act_joins (books_of c.args.books.now.report) c.args.agent c.args.trace.now c.args.from c.args.at c.args.place c.requires c.args.pieces.now.items c.push.new.self.items (c.args.at + 1) c.is_act.result c.is_act.ensures c.if-not-is_act.false refl c.in_ok-push.ensures.items
