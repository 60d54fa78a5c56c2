use Rattle.std.proofs.Common.{◌∙◌, length, subst}
use Rattle.txs_tree_eval_node.specs.Events.{seen_events}
use Rattle.txs_tree_meaning.specs.Sound.{Sound}
use Rattle.txs_tree_meaning.specs.View.{Parts, program_of}
use Rattle.txs_audit_event.specs.Meant.{Known}
use Rattle.txs_audit_event.proofs.Meaning.{known_right}
use Rattle.txs_audit_event.proofs.meant.allows.Goals as goal

pub returns-then-is_known : goal.returns-then-is_known
returns-then-is_known c =
    let b = c.args.books.now in
    let sound = subst (λ (q : Parts). Sound (program_of q)) c.program.ensures c.is_sound.ensures in
    let long = length c.args.seen.now in
    c.is_right.ensures
    ∙ known_right (program_of b.program) sound c.loop-meant.bound c.args.turns c.loop-meant.invariant (seen_events c.args.seen.now) c.args.doer c.requires.may c.in_ok-meant.meant long c.in_ok-meant.ensures c.requires.some
    (subst (Known c.in_ok-meant.meant long c.loop-meant.bound c.args.turns) c.if-is_known.true c.is_known.ensures)

pub next_bound-bound-requires : goal.next_bound-bound-requires
next_bound-bound-requires c = subst (Known c.in_ok-meant.meant (length c.args.seen.now) c.loop-meant.bound c.args.turns) c.if-is_known.false c.is_known.ensures
