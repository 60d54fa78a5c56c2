use Rattle.std.proofs.Common.{◌≡◌, ◌<◌, ◌∙◌, [], MatchOption, ap, arith, get_or, subst, sym, take, true}
use Rattle.std.proofs.lemmas.List.{get_or_read}
use Rattle.std.specs.List.Sorted.{IsNonDecreasingBy}
use Rattle.txs_audit_order.specs.Going.{are_taken, free_in}
use Rattle.txs_audit_order.specs.declared.links.Before.{Before}
use Rattle.txs_audit_order.proofs.Passing.{gone_many, takes, within}
use Rattle.txs_audit_order.proofs.taking.Taking.take.Goals as goal

pub pass-requires-clause-past : goal.pass-requires-clause-past
pass-requires-clause-past c =
    let rows = c.args.rows.now in
    let b = c.args.book in
    let cut = c.args.self.now.cut.items in
    let passed = c.args.self.now.passed.items in
    let at = c.number_at-at.ensures in
    let many = c.requires.ready.many in
    let as_many = c.requires.taking.many in
    let here = c.number_at.ensures in
    let out = c.if-at-number_at.false in
    let low = within c.args.lengths.now b c.number_at-at.result (omega (arith, out, here)) in
    let row = c.as_slice-row.ensures ∙ get_or_read rows b c.index-rows-book.result (omega (arith, low, many)) c.index-rows-book.is [] in
    let p = get_or_read passed b c.index_mut-passed.result.now (omega (arith, low, as_many)) c.index_mut-passed.ensures.value 0 in
    subst (λ l. are_taken l (take c.index_mut-passed.result.now c.as_slice-row.result.now) ≡ true) (sym c.as_slice-2.ensures.value)
    (subst (λ n. are_taken cut (take n c.as_slice-row.result.now) ≡ true) (sym p) (subst (λ r. are_taken cut (take (get_or passed b 0) r) ≡ true) (sym row) (c.requires.taking.past b)))

pub pass-requires-clause-ascends : goal.pass-requires-clause-ascends
pass-requires-clause-ascends c =
    let rows = c.args.rows.now in
    let b = c.args.book in
    let many = c.requires.ready.many in
    let here = c.number_at.ensures in
    let out = c.if-at-number_at.false in
    let low = within c.args.lengths.now b c.number_at-at.result (omega (arith, out, here)) in
    let row = c.as_slice-row.ensures ∙ get_or_read rows b c.index-rows-book.result (omega (arith, low, many)) c.index-rows-book.is [] in
    subst (IsNonDecreasingBy (λ (x : Before). x.at)) (sym row) (c.requires.ready.ascends b)

pub index_mut-requires : goal.index_mut-requires
index_mut-requires c =
    let here = c.number_at.ensures in
    let out = c.if-at-number_at.false in
    let low = within c.args.lengths.now c.args.book c.number_at-at.result (omega (arith, out, here)) in
    let many = gone_many c.args.lengths.now c.args.rows.now c.requires.taking.gone in
    let is = c.args.self.now.cut.ok.0 in
    omega (arith, low, many, is)

pub returns-in-None : goal.returns-in-None
returns-in-None c =
    let lengths = c.args.lengths.now in
    let rows = c.args.rows.now in
    let b = c.args.book in
    let k = c.number_at-at.result in
    let cut = c.args.self.now.cut.items in
    let many = c.requires.ready.many in
    let here = c.number_at.ensures in
    let out = c.if-at-number_at.false in
    let lt : k < get_or lengths b 0 = omega (arith, out, here) in
    let low = within lengths b k lt in
    let row = c.as_slice-row.ensures ∙ get_or_read rows b c.index-rows-book.result (omega (arith, low, many)) c.index-rows-book.is [] in
    let at : k ≡ get_or cut b 0 = c.number_at-at.ensures ∙ ap (λ l. get_or l b 0) c.as_slice.ensures.value in
    let free = subst (λ o. MatchOption o (free_in c.as_slice-row.result.now c.as_slice-2.result.now k ≡ true) (λ x. Unit {0})) c.in-None.is c.pass.ensures.free in
    takes lengths rows cut c.args.self.now.passed.items b k c.pass.new.passed c.requires.taking at lt
    (subst (λ l. free_in (get_or rows b []) l k ≡ true) c.as_slice-2.ensures.value (subst (λ r. free_in r c.as_slice-2.result.now k ≡ true) row free))
    (subst (λ l. are_taken l (take c.pass.new.passed (get_or rows b [])) ≡ true) c.as_slice-2.ensures.value (subst (λ r. are_taken c.as_slice-2.result.now (take c.pass.new.passed r) ≡ true) row c.pass.ensures.past))
