use Rattle.std.proofs.Common.{length, subst, sym}
use Rattle.txs_tree_eval_node.specs.Events.{seen_events}
use Rattle.txs_tree_meaning.specs.View.{program_of}
use Rattle.txs_audit_evidence.proofs.ThreadFound.{so}
use Rattle.txs_audit_event.specs.Meant.{MayDo, TellsMeant, doer_means}
use Rattle.txs_audit_event.specs.declared.meant.Doer.{Doer}
use Rattle.txs_audit_event.proofs.Answered.{there_of}
use Rattle.txs_audit_event.proofs.meant.mean.Goals as goal

pub thread_means-requires : goal.thread_means-requires
thread_means-requires c = let b = c.args.books.now in there_of b.program c.in-Thread.thread (subst (MayDo (program_of b.program)) c.in-Thread.is c.requires)

pub action_means-requires : goal.action_means-requires
action_means-requires c = subst (MayDo (program_of c.args.books.now.program)) c.in-Action.is c.requires

pub returns-in-Thread : goal.returns-in-Thread
returns-in-Thread c =
    let b = c.args.books.now in
    so c.thread_means.result c.thread_means.ensures
    (λ m told. subst (λ (d : Doer). TellsMeant m (length c.args.seen.now) (doer_means (program_of b.program) c.args.bound d (seen_events c.args.seen.now))) (sym c.in-Thread.is) told)

pub returns-in-Action : goal.returns-in-Action
returns-in-Action c =
    let b = c.args.books.now in
    so c.action_means.result c.action_means.ensures
    (λ m told. subst (λ (d : Doer). TellsMeant m (length c.args.seen.now) (doer_means (program_of b.program) c.args.bound d (seen_events c.args.seen.now))) (sym c.in-Action.is) told)
