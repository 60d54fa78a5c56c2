use Rattle.std.proofs.Common.{◌∙◌, List, ap, sym}
use Rattle.txs_value_cell.specs.declared.action.Action.{Action}
use Rattle.txs_world_protocol.specs.Ask.{Writes}
use Rattle.txs_tree_meaning.specs.View.{program_of}
use Rattle.txs_audit_evidence.proofs.ThreadFound.{so}
use Rattle.txs_audit_event.specs.Asking.{asked_by}
use Rattle.txs_audit_event.specs.Transactions.{asked_on, commit_what, refusal, wrong_what}
use Rattle.txs_audit_event.proofs.events.wrong_what.Goals as goal

pub returns-in-Commit : goal.returns-in-Commit
returns-in-Commit c =
    let q = c.args.question in
    let p = program_of q.books.now.program in
    let x = asked_by q in
    let f = asked_on x x.event.R x.event.C refusal in
    let writes = ap (λ (ws : Writes). commit_what p q.turns x ws c.as_slice-in-Commit.result.now f) c.as_slice.ensures in
    let sends = ap (λ (ss : List Action). commit_what p q.turns x c.in-Commit.writes ss f) c.as_slice-in-Commit.ensures in
    so c.commit_what.result c.commit_what.ensures (λ w told. told ∙ writes ∙ sends ∙ ap (wrong_what p q.turns x) (sym c.in-Commit.is))

pub returns-in-Retry : goal.returns-in-Retry
returns-in-Retry c =
    let q = c.args.question in
    so c.cause_what.result c.cause_what.ensures
    (λ w told. told ∙ ap (wrong_what (program_of q.books.now.program) q.turns (asked_by q)) (sym c.in-Retry.is))
