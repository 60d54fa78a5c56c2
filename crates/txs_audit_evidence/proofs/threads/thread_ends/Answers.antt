use Rattle.std.proofs.Common.{◌<◌, ◌∙◌, length, subst, sym}
use Rattle.txs_tree_eval_node.specs.Events.{seen_events}
use Rattle.txs_tree_meaning.specs.Sound.{Sound}
use Rattle.txs_tree_meaning.specs.View.{Parts, program_of}
use Rattle.txs_theorem_audit.specs.Audited.{books_of, ran_as}
use Rattle.txs_audit_book.specs.Judged.{as_found}
use Rattle.txs_audit_evidence.proofs.ThreadFound.{full_end_is, other_end, so}
use Rattle.txs_audit_evidence.proofs.threads.thread_ends.Goals as goal

pub returns-then-is_full_stop : goal.returns-then-is_full_stop
returns-then-is_full_stop c = λ t there tells.
    let b = c.args.books.now in
    let sound = subst (λ (q : Parts). Sound (program_of q)) c.program.ensures c.is_sound.ensures in
    c.full_end.ensures
    ∙ full_end_is c.full_is_answered.ensures (books_of b.report) (program_of b.program) sound c.args.turns c.args.thread t there c.args.seen.now (ran_as c.args.ran.now) (sym c.is_full_stop.ensures ∙ c.if-is_full_stop.true) c.args.meaning.now c.is_full-full.result c.is_full-full.ensures c.as_slice-out.result.now c.as_slice-out.ensures.value tells

pub end_found-requires : goal.end_found-requires
end_found-requires c = subst (λ (p : Parts). c.args.thread < length p.threads) (sym c.program-2.ensures) c.requires

pub returns : goal.returns
returns c =
    let b = c.args.books.now in
    so c.end_found.result c.end_found.ensures
    (λ g ends. other_end c.program-2.result.now b.program c.program-2.ensures (books_of b.report) (seen_events c.args.seen.now) c.args.turns c.args.thread (ran_as c.args.ran.now) (sym c.is_full_stop.ensures ∙ c.if-is_full_stop.false) c.args.meaning.now (as_found g) ends)
