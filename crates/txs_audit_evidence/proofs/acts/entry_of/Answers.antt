use Rattle.std.proofs.Common.{◌≡◌, ◌∙◌, ap, option_copied, sym}
use Rattle.txs_value_data.specs.Places.{nth}
use Rattle.txs_audit_order.specs.Named.{plain_entry}
use Rattle.txs_audit_order.proofs.Locating.{entry_nth}
use Rattle.txs_audit_order.proofs.Lending.{got}
use Rattle.txs_audit_evidence.proofs.acts.entry_of.Goals as goal

pub returns : goal.returns
returns c =
    let r = c.report-report.result.now in
    let is : option_copied c.get.result ≡ nth r.agents.items c.args.agent =
    got c.deref.result.now c.from.result c.get.result c.get.ensures.lookup.3 ∙ ap (λ l. nth l c.from.result) c.deref.ensures.value ∙ ap (nth r.agents.items) c.from.ensures in
    ap plain_entry is ∙ sym (entry_nth r.agents.items c.args.agent) ∙ ap (λ x. nth x.agents c.args.agent) c.report-report.ensures
