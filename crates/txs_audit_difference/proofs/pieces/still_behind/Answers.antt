use Rattle.std.proofs.Common.{◌∙◌, ◌++◌, List, ap, sym, if◌then◌else◌}
use Rattle.txs_world_protocol.specs.SeenEvent.{SeenEvent}
use Rattle.txs_tree_meaning.specs.View.{program_of}
use Rattle.txs_theorem_audit.specs.Audited.{books_of}
use Rattle.txs_theorem_audit.specs.Verdict.{least_of, printed_by}
use Rattle.txs_theorem_audit.specs.Evaluated.{means_on}
use Rattle.txs_audit_order.specs.Named.{plain_trace}
use Rattle.txs_audit_evidence.proofs.ThreadFound.{so}
use Rattle.txs_audit_event.specs.Lines.{full_what, part_what}
use Rattle.txs_audit_difference.specs.Pieces.{needed_of, still_full, still_printed, unvalidated}
use Rattle.txs_audit_difference.proofs.pieces.still_behind.Goals as goal

pub returns-then-end : goal.returns-then-end
returns-then-end c =
    let b = c.args.books.now in
    let p = program_of b.program in
    let r = b.report in
    let n = c.args.turns in
    let x = c.args.action.now in
    let v = c.args.state.now in
    let end = c.args.end in
    let since = plain_trace c.args.since.now in
    so c.still_full.result c.still_full.ensures
    (λ w is.
    is ∙ ap (λ (es : List SeenEvent). full_what (books_of r) (needed_of (unvalidated p n x v es)) (end.outs.now ++ printed_by (means_on p n x v es)) end.out.now) c.requires.events
    ∙ sym (ap (λ t. if t then still_full p r n x v since end.outs.now end.out.now else still_printed p r n x v since end.outs.now end.out.now) c.if-end.true))

pub returns : goal.returns
returns c =
    let b = c.args.books.now in
    let p = program_of b.program in
    let r = b.report in
    let n = c.args.turns in
    let x = c.args.action.now in
    let v = c.args.state.now in
    let end = c.args.end in
    let since = plain_trace c.args.since.now in
    so c.still_printed.result c.still_printed.ensures
    (λ w is.
    is ∙ ap (λ (es : List SeenEvent). part_what (end.outs.now ++ printed_by (means_on p n x v es)) (end.outs.now ++ least_of (means_on p n x v) es) end.out.now) c.requires.events
    ∙ sym (ap (λ t. if t then still_full p r n x v since end.outs.now end.out.now else still_printed p r n x v since end.outs.now end.out.now) c.if-end.false))
