use Rattle.std.proofs.Common.{◌∙◌, refl, subst}
use Rattle.txs_tree_eval_node.specs.Events.{seen_events}
use Rattle.txs_tree_meaning.specs.Sound.{Sound}
use Rattle.txs_tree_meaning.specs.View.{Parts, program_of}
use Rattle.txs_audit_evidence.proofs.Bounded.{bounded_prints}
use Rattle.txs_audit_evidence.proofs.acts.prints_within.Goals as goal

pub returns-then-not-wants_turns : goal.returns-then-not-wants_turns
returns-then-not-wants_turns c =
    let p = program_of c.args.books.now.program in
    let sound = subst (λ (q : Parts). Sound (program_of q)) c.program.ensures c.is_sound.ensures in
    c.printed_of.ensures
    ∙ bounded_prints p c.args.action.now c.args.state.now (seen_events c.args.seen.now) sound c.requires c.action_is_answered.ensures c.loop-meaning.bound c.args.turns c.loop-meaning.invariant c.in_ok-meaning.meaning c.in_ok-meaning.ensures
    (c.if-not-wants_turns.ensures.enough refl)
