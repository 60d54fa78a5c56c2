use Rattle.std.proofs.Common.{◌≡◌, refl, ap, subst, sym, ◌∙◌, List, Err, length}
use Rattle.std.specs.List.Sorted.{IsSearchInRange}
use Rattle.std.proofs.lemmas.Result.{err_from_is_err_and}
use Rattle.txs_frame.specs.Frame.{set_ref}
use Rattle.txs_frame.specs.declared.own.How.TheVariants as how
use Rattle.txs_frame.specs.declared.own.Own.{Own}
use Rattle.txs_frame.specs.Kept.{number_of, IsKept, IsPlaceOf, was_commuted_if, how_at, put_at, work_of}
use Rattle.txs_frame.proofs.Frames.{set_call, set_call_refused, answers_set, answers_refused, answers_memory}
use Rattle.txs_frame.proofs.frame.TxFrame.set.Goals as goal

pub returns-then-was_commuted : goal.returns-then-was_commuted
returns-then-was_commuted c =
    let s = c.self.inside in
    let os = s.own.items in
    let place = c.find-place.result in
    let k = c.args.cell.number in
    let p : IsPlaceOf number_of os k place = subst (λ (x : List Own). IsPlaceOf number_of x k place) c.as_slice.ensures.value c.find-place.ensures in
    let came : c.how_at.result ≡ how_at os place = c.how_at.ensures ∙ ap (λ (x : List Own). how_at x place) c.as_slice-2.ensures.value in
    let so = sym (c.was_commuted.ensures ∙ ap was_commuted_if came) ∙ c.if-was_commuted.true in
    answers_refused _ c.args.self.now (ap (set_ref c.args.cell c.args.value) (sym c.self.view_is) ∙ set_call_refused os s.ensured.items s.commutes.items s.sends.items c.self.invariant c.args.cell c.requires c.args.value place p so)

pub returns-in_err-put : goal.returns-in_err-put
returns-in_err-put c =
    let s = c.self.inside in
    let os = s.own.items in
    let place = c.find-place.result in
    let k = c.args.cell.number in
    let p : IsPlaceOf number_of os k place = subst (λ (x : List Own). IsPlaceOf number_of x k place) c.as_slice.ensures.value c.find-place.ensures in
    let came : c.how_at.result ≡ how_at os place = c.how_at.ensures ∙ ap (λ (x : List Own). how_at x place) c.as_slice-2.ensures.value in
    let so = sym (c.was_commuted.ensures ∙ ap was_commuted_if came) ∙ c.if-was_commuted.false in
    let item : Own = record { number = k; value = c.args.value; how = how.Set } in
    let done = set_call os s.ensured.items s.commutes.items s.sends.items c.self.invariant c.args.cell c.requires c.args.value place p so (put_at os place item) refl in
    let refused = err_from_is_err_and c.from_residual.result c.from_residual.ensures.1 in
    answers_memory _ c.args.self.now _ _ c.from_residual.result (ap (set_ref c.args.cell c.args.value) (sym c.self.view_is) ∙ done.0) (refused.1 ∙ ap Err refused.2) (ap (λ (x : List Own). work_of x s.ensured.items s.commutes.items s.sends.items) c.in_err-put.ensures.kept ∙ c.self.view_is)

pub invariant_of-self-2 : goal.invariant_of-self-2
invariant_of-self-2 c =
    let s = c.self.inside in
    let os = s.own.items in
    let place = c.find-place.result in
    let k = c.args.cell.number in
    let p : IsPlaceOf number_of os k place = subst (λ (x : List Own). IsPlaceOf number_of x k place) c.as_slice.ensures.value c.find-place.ensures in
    let came : c.how_at.result ≡ how_at os place = c.how_at.ensures ∙ ap (λ (x : List Own). how_at x place) c.as_slice-2.ensures.value in
    let so = sym (c.was_commuted.ensures ∙ ap was_commuted_if came) ∙ c.if-was_commuted.false in
    (set_call os s.ensured.items s.commutes.items s.sends.items c.self.invariant c.args.cell c.requires c.args.value place p so c.put.new.own.items c.in_ok-put.ensures.put).1

pub returns : goal.returns
returns c =
    let s = c.self.inside in
    let os = s.own.items in
    let place = c.find-place.result in
    let k = c.args.cell.number in
    let p : IsPlaceOf number_of os k place = subst (λ (x : List Own). IsPlaceOf number_of x k place) c.as_slice.ensures.value c.find-place.ensures in
    let came : c.how_at.result ≡ how_at os place = c.how_at.ensures ∙ ap (λ (x : List Own). how_at x place) c.as_slice-2.ensures.value in
    let so = sym (c.was_commuted.ensures ∙ ap was_commuted_if came) ∙ c.if-was_commuted.false in
    let done = set_call os s.ensured.items s.commutes.items s.sends.items c.self.invariant c.args.cell c.requires c.args.value place p so c.put.new.own.items c.in_ok-put.ensures.put in
    answers_set _ c.args.self.now _ (ap (set_ref c.args.cell c.args.value) (sym c.self.view_is) ∙ done.0)

pub invariant_of-self : goal.invariant_of-self
invariant_of-self c =
    let s = c.self.inside in
    subst (λ (os : List Own). IsKept os s.ensured.items s.commutes.items) (sym c.in_err-put.ensures.kept) c.self.invariant

pub put-requires : goal.put-requires
put-requires c = (subst (λ (x : List Own). IsPlaceOf number_of x c.args.cell.number c.find-place.result) c.as_slice.ensures.value c.find-place.ensures).within

pub how_at-requires : goal.how_at-requires
how_at-requires c = subst (λ (x : List Own). IsSearchInRange c.find-place.result (length x)) (sym c.as_slice-2.ensures.value) (subst (λ (x : List Own). IsPlaceOf number_of x c.args.cell.number c.find-place.result) c.as_slice.ensures.value c.find-place.ensures).within
