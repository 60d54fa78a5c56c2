use Rattle.std.proofs.Common.{◌∙◌, ap, subst, sym}
use Rattle.txs_tree_meaning.specs.Sound.{Sound}
use Rattle.txs_tree_meaning.specs.View.{Parts, program_of}
use Rattle.txs_theorem_audit.specs.Verdict.{begins}
use Rattle.txs_audit_evidence.proofs.ActionFound.{least_none, least_printed}
use Rattle.txs_audit_evidence.proofs.acts.prints_least.Goals as goal

pub returns-then-is_empty : goal.returns-then-is_empty
returns-then-is_empty c =
    let b = c.args.books.now in
    least_none (program_of b.program) c.args.turns c.args.action.now c.args.state.now c.args.seen.now c.args.out.now (sym c.is_empty.ensures ∙ c.if-is_empty.true)

pub returns : goal.returns
returns c =
    let b = c.args.books.now in
    let p = program_of b.program in
    let x = c.args.action.now in
    let v = c.args.state.now in
    let n = c.args.turns in
    let sound = subst (λ (q : Parts). Sound (program_of q)) c.program.ensures c.is_sound.ensures in
    c.begins.ensures
    ∙ ap (λ l. begins l c.args.out.now)
    (c.as_slice.ensures ∙ c.printed_of-printed.ensures
    ∙ least_printed p n x v c.args.seen.now c.split_at.result.0.now sound c.requires (sym c.is_empty.ensures ∙ c.if-is_empty.false) c.split_at.ensures.front c.in_ok-least.least c.in_ok-least.ensures c.action_is_answered.ensures)
