use Rattle.std.proofs.Common.{◌+◌, ◌++◌, ◌∙◌, ap, arith, refl, subst, take}
use Rattle.txs_theorem_audit.specs.Audited.{place_of}
use Rattle.txs_audit_evidence.specs.Acted.{NamesAct}
use Rattle.txs_audit_order.specs.Named.{plain_trace}
use Rattle.txs_world.specs.Store.{next_action}
use Rattle.txs_world_book.specs.Served.{cells_of}
use Rattle.txs_tree_meaning.specs.View.{program_of}
use Rattle.txs_theorem_audit.specs.Verdict.{action_prints}
use Rattle.std.proofs.lemmas.List.{length-map}
use Rattle.txs_audit_evidence.proofs.Printing.{prints_more, prints_same, there_below}
use Rattle.txs_audit_evidence.proofs.acts.print_next.Goals as goal

pub returns-in_default : goal.returns-in_default
returns-in_default c =
    let b = c.args.books.now in
    let q = c.args.place in
    prints_same b c.args.turns (plain_trace c.args.trace.now) c.args.from c.args.at c.requires.order (place_of q) c.requires.here c.args.all.now.items (subst (NamesAct b (place_of q)) c.in_default.is c.act_of.ensures)

pub part_of-requires-clause-within : goal.part_of-requires-clause-within
part_of-requires-clause-within c =
    let lt = there_below (plain_trace c.args.trace.now) c.args.at (place_of c.args.place) c.requires.here in
    let long = length-map c.args.trace.now place_of in
    omega (arith, lt, long)

pub act_prints-requires : goal.act_prints-requires
act_prints-requires c = (subst (NamesAct c.args.books.now (place_of c.args.place)) c.in-Some.is c.act_of.ensures).2

pub overflow_add-result : goal.overflow_add-result
overflow_add-result c =
    let lt = there_below (plain_trace c.args.trace.now) c.args.at (place_of c.args.place) c.requires.here in
    let long = length-map c.args.trace.now place_of in
    omega (arith, lt, long)

pub returns : goal.returns
returns c =
    let b = c.args.books.now in
    let q = c.args.place in
    let printed = c.in_ok-printed.ensures ∙ ap (λ l. action_prints (program_of b.program) b.report c.args.turns (take c.in-Some.act.at b.report.book) c.in-Some.act.agent l (next_action (cells_of b.program.cells) (take c.in-Some.act.at b.report.book) c.in-Some.act.agent)) c.part_of.ensures.part in
    prints_more b c.args.turns (plain_trace c.args.trace.now) c.args.from c.args.at c.requires.order (place_of q) c.requires.here c.args.all.now.items c.extend_from_slice.new.self.items c.in_ok-printed.printed (c.args.at + 1) c.in-Some.act
    (subst (NamesAct b (place_of q)) c.in-Some.is c.act_of.ensures) refl printed (c.in_ok-extend_from_slice.ensures.items ∙ ap (λ l. c.args.all.now.items ++ l) c.as_slice.ensures)
