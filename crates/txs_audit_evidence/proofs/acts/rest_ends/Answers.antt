use Rattle.std.proofs.Common.{◌∙◌, ◌∷◌, ap, arith, if◌then◌else◌, subst, sym}
use Rattle.txs_tree_eval_node.specs.Events.{seen_events}
use Rattle.txs_tree_meaning.specs.Sound.{Sound}
use Rattle.txs_tree_meaning.specs.View.{Parts, program_of}
use Rattle.txs_theorem_audit.specs.Audited.{books_of}
use Rattle.txs_theorem_audit.specs.Verdict.{full_ends, part_printed, still_ends}
use Rattle.txs_theorem_audit.specs.Evaluated.{means_on}
use Rattle.txs_audit_book.specs.Judged.{EndsBy, as_end, as_found}
use Rattle.txs_audit_evidence.proofs.ActionFound.{eaten_few, full_is, still_is}
use Rattle.txs_audit_evidence.proofs.ThreadFound.{many_seen}
use Rattle.txs_audit_evidence.proofs.acts.rest_ends.Goals as goal

pub full_ends-requires : goal.full_ends-requires
full_ends-requires c =
    let x = c.args.action.now in
    let es = seen_events c.args.seen.now in
    let ate = eaten_few (program_of c.args.books.now.program) x.callee x.span (c.args.state.now ∷ x.args) c.args.turns es c.args.meaning.now c.requires.tells in
    let all = many_seen c.args.seen.now in
    omega (arith, ate, all, c.requires.fits)

pub still_ends-requires : goal.still_ends-requires
still_ends-requires c =
    let x = c.args.action.now in
    let es = seen_events c.args.seen.now in
    let ate = eaten_few (program_of c.args.books.now.program) x.callee x.span (c.args.state.now ∷ x.args) c.args.turns es c.args.meaning.now c.requires.tells in
    let all = many_seen c.args.seen.now in
    omega (arith, ate, all, c.requires.fits)

pub returns-then-full : goal.returns-then-full
returns-then-full c =
    let b = c.args.books.now in
    let p = program_of b.program in
    let n = c.args.turns in
    let x = c.args.action.now in
    let v = c.args.state.now in
    let m = c.args.meaning.now in
    let es = seen_events c.args.seen.now in
    let s = c.args.stretch in
    let sound = subst (λ (q : Parts). Sound (program_of q)) c.program.ensures c.is_sound.ensures in
    let ends = subst (λ (q : Parts). EndsBy (program_of q) n x m (as_end c.in_ok-end.end)) c.program-2.ensures c.in_ok-end.ensures in
    full_is p n x v es sound c.requires.sent m c.requires.tells s.actor s.first s.index (as_end c.in_ok-end.end) ends (as_found c.full_ends.result) s.events (c.requires.many ∙ sym (many_seen c.args.seen.now)) c.args.out.now
    c.rest_full_is_answered.ensures (books_of b.report) c.is_full-store.result c.is_full-needed.result c.is_full-store.ensures c.is_full-needed.ensures c.full_ends.ensures
    ∙ sym (ap (λ t. if t then full_ends (books_of b.report) s.actor s.first s.index (means_on p n x v) es c.args.out.now (means_on p n x v es) else still_ends s.actor s.first s.index (means_on p n x v) es c.args.out.now (means_on p n x v es)) c.if-full.true)

pub returns : goal.returns
returns c =
    let b = c.args.books.now in
    let p = program_of b.program in
    let n = c.args.turns in
    let x = c.args.action.now in
    let v = c.args.state.now in
    let m = c.args.meaning.now in
    let es = seen_events c.args.seen.now in
    let s = c.args.stretch in
    let out = c.args.out.now in
    let sound = subst (λ (q : Parts). Sound (program_of q)) c.program.ensures c.is_sound.ensures in
    let ends = subst (λ (q : Parts). EndsBy (program_of q) n x m (as_end c.in_ok-end.end)) c.program-2.ensures c.in_ok-end.ensures in
    let part = c.in_ok-part.ensures ∙ ap (part_printed (means_on p n x v) es out) c.as_slice-whole.ensures in
    still_is p n x v es sound c.requires.sent m c.requires.tells s.actor s.first s.index (as_end c.in_ok-end.end) ends (as_found c.still_ends.result) s.events (c.requires.many ∙ sym (many_seen c.args.seen.now)) out c.still_is_answered.ensures c.in_ok-part.part part c.still_ends.ensures
    ∙ sym (ap (λ t. if t then full_ends (books_of b.report) s.actor s.first s.index (means_on p n x v) es out (means_on p n x v es) else still_ends s.actor s.first s.index (means_on p n x v) es out (means_on p n x v es)) c.if-full.false)
