use Rattle.std.proofs.Common.{◌+◌, ◌∙◌, ap, length, option_copied, sym}
use Rattle.txs_value_data.specs.Places.{nth}
use Rattle.txs_tree_meaning.specs.View.{program_of}
use Rattle.txs_theorem_audit.specs.Audited.{ran_as}
use Rattle.txs_theorem_audit.specs.Pieces.{act_finding_at, act_finding_in, act_serial}
use Rattle.txs_audit_order.specs.Named.{plain_entry}
use Rattle.txs_audit_evidence.proofs.Printing.{there_below}
use Rattle.txs_audit_evidence.proofs.ThreadFound.{so}
use Rattle.txs_audit_evidence.proofs.acts.act_found.Goals as goal

pub actor_of-requires : goal.actor_of-requires
actor_of-requires c = there_below c.args.books.now.report.agents c.args.agent (ran_as c.in-Some.ran.now) (sym c.entry_of.ensures ∙ ap (λ o. plain_entry (option_copied o)) c.in-Some.is)

pub returns-in-Some-clause-finding : goal.returns-in-Some-clause-finding
returns-in-Some-clause-finding c =
    let b = c.args.books.now in
    let p = program_of b.program in
    let r = b.report in
    let n = c.args.turns in
    let ran = ran_as c.in-Some.ran.now in
    let here = sym c.entry_of.ensures ∙ ap (λ o. plain_entry (option_copied o)) c.in-Some.is in
    so c.act_at.result c.act_at.ensures.finding
    (λ f is. is ∙ ap (λ a. act_finding_at p r n a c.args.from c.args.at ran (nth ran.trace c.args.at)) c.actor_of.ensures ∙ sym (ap (act_finding_in p r n (length p.threads + c.args.agent) c.args.from c.args.at) here))

pub returns-in-Some-clause-serial : goal.returns-in-Some-clause-serial
returns-in-Some-clause-serial c =
    let b = c.args.books.now in
    let p = program_of b.program in
    let r = b.report in
    let n = c.args.turns in
    let here = sym c.entry_of.ensures ∙ ap (λ o. plain_entry (option_copied o)) c.in-Some.is in
    so c.act_at.result c.act_at.ensures.serial (λ f is fine. is fine ∙ sym (ap (act_serial p r n c.args.from c.args.at) here))

pub returns-in-None : goal.returns-in-None
returns-in-None c =
    let b = c.args.books.now in
    let p = program_of b.program in
    let r = b.report in
    let n = c.args.turns in
    let here = sym c.entry_of.ensures ∙ ap (λ o. plain_entry (option_copied o)) c.in-None.is in
    record {
      finding = c.fine.ensures.finding ∙ sym (ap (act_finding_in p r n (length p.threads + c.args.agent) c.args.from c.args.at) here);
      serial = λ nothing. c.fine.ensures.serial ∙ sym (ap (act_serial p r n c.args.from c.args.at) here);
    }
