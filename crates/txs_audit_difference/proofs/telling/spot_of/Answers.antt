use Rattle.std.proofs.Common.{◌∙◌, ap, option_copied, sym}
use Rattle.txs_theorem_audit.specs.Audited.{PlainReport, entry_of}
use Rattle.txs_theorem_audit.specs.Verdict.{index_if}
use Rattle.txs_audit_difference.proofs.Named.{named_is, none_is}
use Rattle.txs_audit_difference.proofs.telling.spot_of.Goals as goal

pub returns-in-Some : goal.returns-in-Some
returns-in-Some c =
    let e = c.in-Some.event.now in
    let q = c.args.place in
    named_is c.args.books.now.report q e c.index_of.result (sym c.event_at.ensures ∙ ap option_copied c.in-Some.is)
    (c.index_of.ensures ∙ ap (λ (x : PlainReport). index_if q.book q.at (entry_of x e.actor)) c.report.ensures)

pub returns-in-None : goal.returns-in-None
returns-in-None c = sym (none_is c.args.books.now.report c.args.place (sym c.event_at.ensures ∙ ap option_copied c.in-None.is))
