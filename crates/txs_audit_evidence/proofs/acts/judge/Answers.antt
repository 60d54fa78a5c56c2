use Rattle.std.proofs.Common.{◌≡◌, ◌∙◌, ◌∷◌, List, ap, false, subst, sym, true}
use Rattle.txs_world_book.specs.Served.{cells_of}
use Rattle.txs_world_protocol.specs.SeenEvent.{SeenEvent}
use Rattle.txs_tree_eval.specs.ActionTold.{TellsAction}
use Rattle.txs_tree_meaning.specs.Sound.{Sound}
use Rattle.txs_tree_meaning.specs.View.{Parts, program_of}
use Rattle.txs_theorem_audit.specs.Audited.{books_of}
use Rattle.txs_theorem_audit.specs.Evaluated.{calm_found_by, covered_all_by}
use Rattle.txs_audit_book.specs.Judged.{as_found, is_fine}
use Rattle.txs_audit_evidence.specs.Acted.{end_by}
use Rattle.txs_audit_order.specs.Named.{plain_trace}
use Rattle.txs_audit_evidence.proofs.ActionFound.{end_covered, end_last, off_first}
use Rattle.txs_audit_evidence.proofs.ThreadFound.{fine_is, no_fine}
use Rattle.txs_audit_evidence.proofs.acts.judge.Goals as goal

pub returns-then-not-is_fine : goal.returns-then-not-is_fine
returns-then-not-is_fine c =
    let b = c.args.books.now in
    let p = program_of b.program in
    let r = b.report in
    let n = c.args.turns in
    let a = c.args.stretch.actor in
    let i = c.args.stretch.first in
    let k = c.args.stretch.index in
    let x = c.args.action.now in
    let v = c.args.state.now in
    let m = c.args.meaning.now in
    let since = plain_trace c.args.since.now in
    let sound = subst (λ (q : Parts). Sound (program_of q)) c.program.ensures c.is_sound.ensures in
    let tells = subst (λ (es : List SeenEvent). TellsAction m p x.callee x.span (v ∷ x.args) n es) c.requires.events c.requires.tells in
    let f = as_found c.in_ok-calm.calm.finding in
    let calm = c.in_ok-calm.ensures.found ∙ ap (λ ms. calm_found_by (cells_of p.cells) (books_of r) a i since ms) c.as_slice-txs.ensures in
    let not : is_fine f ≡ false = sym c.is_fine.ensures ∙ c.if-not-is_fine.true in
    record {
      finding = off_first p r n x v since sound c.requires.sent m tells c.calm_is_answered.ensures c.action_is_answered.ensures a i f calm not (end_by p r n a i k x v since c.args.ending);
      serial = λ fine. no_fine f not fine;
    }

pub returns : goal.returns
returns c =
    let b = c.args.books.now in
    let p = program_of b.program in
    let r = b.report in
    let n = c.args.turns in
    let a = c.args.stretch.actor in
    let i = c.args.stretch.first in
    let k = c.args.stretch.index in
    let x = c.args.action.now in
    let v = c.args.state.now in
    let m = c.args.meaning.now in
    let since = plain_trace c.args.since.now in
    let sound = subst (λ (q : Parts). Sound (program_of q)) c.program.ensures c.is_sound.ensures in
    let tells = subst (λ (es : List SeenEvent). TellsAction m p x.callee x.span (v ∷ x.args) n es) c.requires.events c.requires.tells in
    let f = as_found c.in_ok-calm.calm.finding in
    let calm = c.in_ok-calm.ensures.found ∙ ap (λ ms. calm_found_by (cells_of p.cells) (books_of r) a i since ms) c.as_slice-txs.ensures in
    let fine : is_fine f ≡ true = sym c.is_fine.ensures ∙ c.if-not-is_fine.false in
    let g = as_found c.in_ok-finding.finding in
    let is = c.in_ok-finding.ensures in
    record {
      finding = is ∙ end_last p r n x v since sound c.requires.sent m tells c.calm_is_answered.ensures c.action_is_answered.ensures a i f calm fine (end_by p r n a i k x v since c.args.ending);
      serial = λ nothing.
          c.in_ok-calm.ensures.serial (fine_is f fine) ∙ ap (covered_all_by (books_of r) since) c.as_slice-txs.ensures
          ∙ end_covered p r n x v since sound c.requires.sent m tells c.covered_is_answered.ensures c.action_is_answered.ensures a i k c.args.ending g is nothing;
    }
