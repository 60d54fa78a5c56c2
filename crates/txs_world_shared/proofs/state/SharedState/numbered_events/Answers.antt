use Rattle.std.proofs.Common.{◌≡◌, ◌<◌, ◌-◌, ◌∙◌, ℕ, suc, [], ◌∷◌, length, map, get_or, sym, ap, arith}
use Rattle.std.proofs.lemmas.List.{get_or_default}
use Rattle.txs_world_book.specs.Atom.{PlainAtom}
use Rattle.txs_world_shared.specs.Kept.{no_atom}
use Rattle.txs_world_shared.specs.SharedState.{numbered_book}
use Rattle.txs_world_shared.proofs.Placing.{book_at}
use Rattle.txs_world_shared.proofs.state.SharedState.numbered_events.Goals as goal

pub returns-then-number-len : goal.returns-then-number-len
returns-then-number-len c =
    let x = c.self.inside in
    let n = c.args.number in
    let i = n - 1 in
    let a = c.index.result.now in
    let some = c.if-number-eq0.false in
    let most = c.if-number-len.true in
    let len = c.len.ensures in
    let size = x.atoms.ok.0 in
    let within : i < length x.atoms.items = omega (arith, some, most, len, size) in
    let place : suc i ≡ n = omega (arith, some) in
    c.events-then-number-len.ensures.value
    ∙ ap (λ (y : PlainAtom). y.book) (c.index.ensures ∙ get_or_default x.atoms.items i a no_atom within)
    ∙ sym (book_at x.atoms.items i)
    ∙ ap (λ (k : ℕ). get_or (x.store.book ∷ map (λ y. y.book) x.atoms.items) k []) place
    ∙ ap (λ s. numbered_book s n) c.self.view_is
