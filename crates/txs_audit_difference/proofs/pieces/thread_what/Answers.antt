use Rattle.std.proofs.Common.{◌≡◌, ◌∙◌, ap, option_copied, sym}
use Rattle.txs_value_data.specs.Places.{nth}
use Rattle.txs_tree_meaning.specs.View.{program_of}
use Rattle.txs_theorem_audit.specs.Audited.{ran_as}
use Rattle.txs_audit_order.specs.Named.{plain_entry}
use Rattle.txs_audit_order.proofs.Locating.{entry_nth}
use Rattle.txs_audit_order.proofs.Lending.{got}
use Rattle.txs_audit_evidence.proofs.ThreadFound.{so, thread_below}
use Rattle.txs_audit_event.specs.Meant.{thread_means}
use Rattle.txs_audit_difference.specs.Pieces.{thread_what}
use Rattle.txs_audit_difference.proofs.Piecing.{no_thread}
use Rattle.txs_audit_difference.proofs.pieces.thread_what.Goals as goal

pub thread_at-requires : goal.thread_at-requires
thread_at-requires c =
    let b = c.args.books.now in
    let r = c.report.result.now in
    let is : option_copied c.get.result ≡ nth r.threads.items c.args.thread =
    got c.deref.result.now c.from.result c.get.result c.get.ensures.lookup.3 ∙ ap (λ l. nth l c.from.result) c.deref.ensures.value ∙ ap (nth r.threads.items) c.from.ensures in
    let entry = sym (ap (λ x. nth x.threads c.args.thread) c.report.ensures) ∙ entry_nth r.threads.items c.args.thread ∙ sym (ap plain_entry is) in
    thread_below b.program b.report c.are_legal.ensures.fits c.args.thread (ran_as c.in-Some.ran.now) (entry ∙ ap (λ o. plain_entry (option_copied o)) c.in-Some.is)

pub returns-in-Some : goal.returns-in-Some
returns-in-Some c =
    let b = c.args.books.now in
    let p = program_of b.program in
    let n = c.args.turns in
    let r = c.report.result.now in
    let is : option_copied c.get.result ≡ nth r.threads.items c.args.thread =
    got c.deref.result.now c.from.result c.get.result c.get.ensures.lookup.3 ∙ ap (λ l. nth l c.from.result) c.deref.ensures.value ∙ ap (nth r.threads.items) c.from.ensures in
    let entry = sym (ap (λ x. nth x.threads c.args.thread) c.report.ensures) ∙ entry_nth r.threads.items c.args.thread ∙ sym (ap plain_entry is) in
    let here = entry ∙ ap (λ o. plain_entry (option_copied o)) c.in-Some.is in
    so c.thread_at.result c.thread_at.ensures (λ w told. told ∙ sym (ap (thread_what p b.report n (thread_means p n (nth p.threads c.args.thread)) c.args.at) here))

pub returns-in-None : goal.returns-in-None
returns-in-None c =
    let b = c.args.books.now in
    let p = program_of b.program in
    let n = c.args.turns in
    let r = c.report.result.now in
    let is : option_copied c.get.result ≡ nth r.threads.items c.args.thread =
    got c.deref.result.now c.from.result c.get.result c.get.ensures.lookup.3 ∙ ap (λ l. nth l c.from.result) c.deref.ensures.value ∙ ap (nth r.threads.items) c.from.ensures in
    let entry = sym (ap (λ x. nth x.threads c.args.thread) c.report.ensures) ∙ entry_nth r.threads.items c.args.thread ∙ sym (ap plain_entry is) in
    let here = entry ∙ ap (λ o. plain_entry (option_copied o)) c.in-None.is in
    c.unknown.ensures ∙ no_thread p b.report n (thread_means p n (nth p.threads c.args.thread)) c.args.at (nth b.report.threads c.args.thread) here
