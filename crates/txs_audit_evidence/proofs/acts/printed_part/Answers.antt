use Rattle.std.proofs.Common.{◌∙◌, ◌&&◌, ap, sym}
use Rattle.txs_tree_eval_node.specs.Events.{seen_events}
use Rattle.txs_tree_meaning.specs.View.{program_of}
use Rattle.txs_theorem_audit.specs.Verdict.{begins, least_of}
use Rattle.txs_theorem_audit.specs.Evaluated.{means_on}
use Rattle.txs_audit_evidence.proofs.ThreadFound.{so}
use Rattle.txs_audit_evidence.proofs.acts.printed_part.Goals as goal

pub returns-then-not-begins : goal.returns-then-not-begins
returns-then-not-begins c =
    let p = program_of c.args.books.now.program in
    let least = begins (least_of (means_on p c.args.turns c.args.action.now c.args.state.now) (seen_events c.args.seen.now)) c.args.out.now in
    sym (ap (λ t. t && least) (sym c.begins.ensures ∙ c.if-not-begins.true))

pub returns : goal.returns
returns c =
    let p = program_of c.args.books.now.program in
    let least = begins (least_of (means_on p c.args.turns c.args.action.now c.args.state.now) (seen_events c.args.seen.now)) c.args.out.now in
    so c.prints_least.result c.prints_least.ensures (λ t is. is ∙ sym (ap (λ u. u && least) (sym c.begins.ensures ∙ c.if-not-begins.false)))
