use Rattle.std.proofs.Common.{◌∙◌, ◌∷◌, ap, arith, subst, sym, take}
use Rattle.txs_world_book.specs.Book.{first_failed}
use Rattle.txs_world_book.specs.Served.{cells_of}
use Rattle.txs_tree_eval_node.specs.Events.{seen_events}
use Rattle.txs_tree_meaning.specs.Sound.{Sound}
use Rattle.txs_tree_meaning.specs.View.{Parts, program_of}
use Rattle.txs_audit_book.specs.Judged.{EndsBy, as_end, as_found}
use Rattle.txs_audit_evidence.proofs.ActionFound.{eaten_few, over_is}
use Rattle.txs_audit_evidence.proofs.ThreadFound.{many_seen}
use Rattle.txs_audit_evidence.proofs.acts.over_ends.Goals as goal

pub act_ends-requires : goal.act_ends-requires
act_ends-requires c =
    let x = c.args.action.now in
    let es = seen_events c.args.seen.now in
    let ate = eaten_few (program_of c.args.books.now.program) x.callee x.span (c.args.state.now ∷ x.args) c.args.turns es c.args.meaning.now c.requires.tells in
    let all = many_seen c.args.seen.now in
    omega (arith, ate, all, c.requires.fits)

pub returns : goal.returns
returns c =
    let b = c.args.books.now in
    let p = program_of b.program in
    let n = c.args.turns in
    let x = c.args.action.now in
    let v = c.args.state.now in
    let m = c.args.meaning.now in
    let act = c.args.act in
    let done = take act.at b.report.book in
    let es = seen_events c.args.seen.now in
    let s = c.args.stretch in
    let sound = subst (λ (q : Parts). Sound (program_of q)) c.program.ensures c.is_sound.ensures in
    let ends = subst (λ (q : Parts). EndsBy (program_of q) n x m (as_end c.in_ok-end.end)) c.program-2.ensures c.in_ok-end.ensures in
    let failed = sym (c.first_failed-failed.ensures ∙ ap (first_failed (cells_of p.cells) done) c.as_slice.ensures) in
    over_is p n x v es sound c.requires.sent m c.requires.tells s.actor s.first s.index (as_end c.in_ok-end.end) ends (as_found c.act_ends.result) s.events (c.requires.many ∙ sym (many_seen c.args.seen.now))
    c.act_is_answered.ensures (cells_of p.cells) done act.new.now act.sends.now (c.act_ends.ensures (cells_of p.cells) done failed)
