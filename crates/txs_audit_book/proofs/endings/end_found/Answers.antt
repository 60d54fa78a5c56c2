use Rattle.std.proofs.Common.{◌≡◌, Some, subst, sym, ◌∙◌}
use Rattle.txs_value_data.specs.Places.{nth}
use Rattle.txs_tree_meaning.specs.View.{program_of}
use Rattle.txs_audit_book.proofs.Sources.{end_told}
use Rattle.txs_audit_book.proofs.endings.end_found.Goals as goal

pub returns : goal.returns
returns c = λ t e tells.
    let p = program_of c.args.program.now in
    let there = subst (λ k. nth p.threads k ≡ Some t) (sym c.from-number.ensures) e in
    c.end_with.ensures ∙ end_told c.end_is_answered.ensures p c.is_sound.ensures c.args.thread c.args.turns t e c.args.seen.now c.args.ran.now c.args.meaning.now c.in_ok-part.part (c.in_ok-part.ensures t there) tells
