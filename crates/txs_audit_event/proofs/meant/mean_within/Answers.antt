use Rattle.std.proofs.Common.{length, refl, subst}
use Rattle.txs_tree_eval_node.specs.Events.{seen_events}
use Rattle.txs_tree_meaning.specs.Sound.{Sound}
use Rattle.txs_tree_meaning.specs.View.{Parts, program_of}
use Rattle.txs_audit_event.proofs.Meaning.{within}
use Rattle.txs_audit_event.proofs.meant.mean_within.Goals as goal

pub returns-then-not-wants_turns : goal.returns-then-not-wants_turns
returns-then-not-wants_turns c =
    let b = c.args.books.now in
    let sound = subst (λ (q : Parts). Sound (program_of q)) c.program.ensures c.is_sound.ensures in
    within (program_of b.program) sound c.loop-meant.bound c.args.turns c.loop-meant.invariant (seen_events c.args.seen.now) c.args.doer c.requires c.in_ok-meant.meant (length c.args.seen.now) c.in_ok-meant.ensures (c.if-not-wants_turns.ensures.enough refl)
