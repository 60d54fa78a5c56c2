use Rattle.std.proofs.Common.{◌≡◌, ◌∙◌, List, false, subst, sym, true}
use Rattle.txs_world_protocol.specs.SeenEvent.{SeenEvent}
use Rattle.txs_world_book.specs.Served.{cells_of}
use Rattle.txs_tree_eval.specs.Told.{Tells}
use Rattle.txs_tree_meaning.specs.View.{program_of}
use Rattle.txs_theorem_threads.specs.FollowsAll.{source_of}
use Rattle.txs_theorem_audit.specs.Audited.{books_of, ran_as}
use Rattle.txs_audit_book.specs.Judged.{as_found, is_fine}
use Rattle.txs_audit_evidence.proofs.ThreadFound.{covered_found, end_found_last, end_so, fine_is, no_fine, off_found, told_covered, told_found}
use Rattle.txs_audit_evidence.proofs.threads.judge.Goals as goal

pub returns-then-not-is_fine : goal.returns-then-not-is_fine
returns-then-not-is_fine c =
    let b = c.args.books.now in
    let p = program_of b.program in
    let m = c.args.meaning.now in
    let f = as_found c.in_ok-found.found.finding in
    let calm = told_found (cells_of p.cells) (books_of b.report) c.args.thread f c.as_slice-trace.result.now c.args.ran.now.trace.items c.as_slice.result.now m.txs c.as_slice-trace.ensures.value c.as_slice.ensures c.in_ok-found.ensures.found in
    let not : is_fine f ≡ false = sym c.is_fine.ensures ∙ c.if-not-is_fine.true in
    record {
      finding = λ t e tells. off_found p b.report c.args.turns c.args.thread t (ran_as c.args.ran.now) c.calm_is_answered.ensures c.noted_are_answered.ensures m (subst (λ (es : List SeenEvent). Tells m (source_of p t) c.args.turns es) c.requires.events tells) f calm not;
      serial = λ t e tells fine. no_fine f not fine;
    }

pub returns : goal.returns
returns c =
    let b = c.args.books.now in
    let p = program_of b.program in
    let m = c.args.meaning.now in
    let n = c.args.turns in
    let a = c.args.thread in
    let ran = ran_as c.args.ran.now in
    let f = as_found c.in_ok-found.found.finding in
    let calm = told_found (cells_of p.cells) (books_of b.report) c.args.thread f c.as_slice-trace.result.now c.args.ran.now.trace.items c.as_slice.result.now m.txs c.as_slice-trace.ensures.value c.as_slice.ensures c.in_ok-found.ensures.found in
    let g = as_found c.in_ok-finding.finding in
    let fine : is_fine f ≡ true = sym c.is_fine.ensures ∙ c.if-not-is_fine.false in
    let ends = end_so p (books_of b.report) _ _ c.requires.events n a ran m g c.in_ok-finding.ensures in
    record {
      finding = λ t e tells.
          let told = subst (λ (es : List SeenEvent). Tells m (source_of p t) n es) c.requires.events tells in
          end_found_last p b.report n a t ran c.calm_is_answered.ensures c.noted_are_answered.ensures m told f calm fine g (ends t e tells);
      serial = λ t e tells is.
          let told = subst (λ (es : List SeenEvent). Tells m (source_of p t) n es) c.requires.events tells in
          told_covered (books_of b.report) c.in_ok-found.found.serial c.as_slice-trace.result.now c.args.ran.now.trace.items c.as_slice.result.now m.txs c.as_slice-trace.ensures.value c.as_slice.ensures (c.in_ok-found.ensures.serial (fine_is f fine)) ∙ covered_found p b.report n a t ran c.covered_is_answered.ensures c.noted_are_answered.ensures m told g (ends t e tells) is;
    }
