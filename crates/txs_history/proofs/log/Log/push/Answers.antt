use Rattle.std.proofs.Common.{◌≡◌, ◌<◌, length, sym, ◌∙◌, ap, arith, subst}
use Rattle.std.proofs.lemmas.Bool.Decides.{nat_tests}
use mathlib.Core.List.{IsPrefix}
use Rattle.txs_history.specs.History.{events_of, locks_in, WasAdded}
use Rattle.txs_history.proofs.Beginnings.{locks_prefix}
use Rattle.txs_history.proofs.Adding.{adds_moves, was_added, added_len, added_prefix}
use Rattle.txs_history.proofs.log.Log.push.Goals as goal

pub compare_exchange-found-requires : goal.compare_exchange-found-requires
compare_exchange-found-requires g c =
    let h = c.self.invariant.0 in
    let key : c.self.inside.word.key ≡ c.self.inside.key = ap (λ w. w.key) h in
    let offer = c.plain-offer.ensures in
    let pen = c.no_pen-pen.ensures in
    let learn = c.learn.ensures in
    let book : c.learn.new.self.book ≡ c.self.inside.word.book = learn.0 ∙ (ap (λ s. s.book) c.again-seen.ensures ∙ (c.self.invariant.1 ∙ sym (ap (λ w. w.book) h))) in
    let first : IsPrefix c.self.inside.seen.log c.learn.new.self.log = subst (λ s. IsPrefix s.log c.learn.new.self.log) c.again-seen.ensures learn.2 in (
      ap (λ w. w.tracked) h,
      book,
      pen.0 ∙ book,
      offer.0,
      rw (pen.1, offer.1, offer.3, ← key) (adds_moves c.self.inside.seen.log c.learn.new.self.log (g.M.StandsFor.event c.args.about.now) c.self.inside.word.key c.self.inside.len (rw key (sym c.self.invariant.2)) (rw key c.self.invariant.3) first),
    )

pub invariant_of-self : goal.invariant_of-self
invariant_of-self g c =
    let key : c.self.inside.word.key ≡ c.self.inside.key = ap (λ w. w.key) c.self.invariant.0 in
    let e = g.M.StandsFor.event c.args.about.now in
    let k = c.self.inside.word.key in
    let own = c.self.inside.seen.log in
    let past = c.past.inside.seen.log in
    let v = c.learn.new.self.log in
    let w = c.compare_exchange-found.new.seen.log in
    let len = c.self.inside.len in
    let has : len ≡ length (events_of k own) = rw key c.self.invariant.2 in
    let same : c.compare_exchange-found.result ≡ len = grind (arith, nat_tests, c.if-found-len.false) in
    let heard = rw (c.plain-offer.ensures.1, ← key) at c.compare_exchange-found.ensures.7 in
    let first : IsPrefix own v = subst (λ s. IsPrefix s.log v) c.again-seen.ensures c.learn.ensures.2 in
    let added : WasAdded k own past w e = was_added k len c.compare_exchange-found.result own past v w e first c.learn.ensures.3 has same heard in
    let less : c.self.inside.key < locks_in own = c.self.invariant.3 in (
      c.self.invariant.0,
      c.compare_exchange-found.ensures.0 ∙ (c.learn.ensures.0 ∙ (ap (λ s. s.book) c.again-seen.ensures ∙ c.self.invariant.1)),
      rw (← key) (added_len k len own past w e has added),
      omega (arith, less, locks_prefix c.self.inside.key own w less (added_prefix k own past w e added)),
    )

pub returns-clause-pushed : goal.returns-clause-pushed
returns-clause-pushed g c ok =
    let key : c.self.inside.word.key ≡ c.self.inside.key = ap (λ w. w.key) c.self.invariant.0 in
    let e = g.M.StandsFor.event c.args.about.now in
    let k = c.self.inside.word.key in
    let own = c.self.inside.seen.log in
    let past = c.past.inside.seen.log in
    let v = c.learn.new.self.log in
    let w = c.compare_exchange-found.new.seen.log in
    let len = c.self.inside.len in
    let has : len ≡ length (events_of k own) = rw key c.self.invariant.2 in
    let same : c.compare_exchange-found.result ≡ len = grind (arith, nat_tests, c.if-found-len.false) in
    let heard = rw (c.plain-offer.ensures.1, ← key) at c.compare_exchange-found.ensures.7 in
    let first : IsPrefix own v = subst (λ s. IsPrefix s.log v) c.again-seen.ensures c.learn.ensures.2 in
    let added : WasAdded k own past w e = was_added k len c.compare_exchange-found.result own past v w e first c.learn.ensures.3 has same heard in
    rw (← ap (λ p. p.key) c.self.view_is, ← ap (λ p. p.log) c.self.view_is, ← c.past.view_is, ← key) added
