use Rattle.std.proofs.Common.{◌≡◌, ap, subst, sym, ◌∙◌, List, ◌++◌, ◌∷◌, [], length}
use Rattle.std.specs.List.Sorted.{IsSearchInRange}
use Rattle.txs_frame.specs.Frame.{commute_ref}
use Rattle.txs_frame.specs.declared.frame.Commute.{Commute}
use Rattle.txs_frame.specs.declared.own.Own.{Own}
use Rattle.txs_frame.specs.Kept.{number_of, IsKept, IsPlaceOf, with_commute, how_at}
use Rattle.txs_frame.proofs.Frames.{commute_call}
use Rattle.txs_frame.proofs.frame.TxFrame.commute.Goals as goal

pub invariant_of-self-2 : goal.invariant_of-self-2
invariant_of-self-2 c =
    let s = c.self.inside in
    let os = s.own.items in
    let place = c.find-place.result in
    let k = c.args.cell.number in
    let p : IsPlaceOf number_of os k place = subst (λ (x : List Own). IsPlaceOf number_of x k place) c.as_slice.ensures.value c.find-place.ensures in
    let came : c.how_at.result ≡ how_at os place = c.how_at.ensures ∙ ap (λ (x : List Own). how_at x place) c.as_slice-2.ensures.value in
    let more = c.push_reserved.ensures.items ∙ ap (λ (x : List Commute). x ++ record { cell = c.args.cell; callee = c.args.callee; args = c.args.args } ∷ []) c.in_ok-reserve.ensures.items in
    (commute_call os s.ensured.items s.commutes.items s.sends.items c.self.invariant c.args.cell c.requires c.args.value place p c.args.callee c.args.args c.with_commute.result (c.with_commute.ensures ∙ ap with_commute came) c.put.new.own.items c.in_ok-put.ensures.put c.push_reserved.new.self.items more).1

pub returns-clause-kept : goal.returns-clause-kept
returns-clause-kept c =
    let s = c.self.inside in
    let os = s.own.items in
    let place = c.find-place.result in
    let k = c.args.cell.number in
    let p : IsPlaceOf number_of os k place = subst (λ (x : List Own). IsPlaceOf number_of x k place) c.as_slice.ensures.value c.find-place.ensures in
    let came : c.how_at.result ≡ how_at os place = c.how_at.ensures ∙ ap (λ (x : List Own). how_at x place) c.as_slice-2.ensures.value in
    let more = c.push_reserved.ensures.items ∙ ap (λ (x : List Commute). x ++ record { cell = c.args.cell; callee = c.args.callee; args = c.args.args } ∷ []) c.in_ok-reserve.ensures.items in
    (commute_call os s.ensured.items s.commutes.items s.sends.items c.self.invariant c.args.cell c.requires c.args.value place p c.args.callee c.args.args c.with_commute.result (c.with_commute.ensures ∙ ap with_commute came) c.put.new.own.items c.in_ok-put.ensures.put c.push_reserved.new.self.items more).0
    ∙ ap (commute_ref c.args.cell c.args.callee c.args.args c.args.value) c.self.view_is

pub invariant_of-self : goal.invariant_of-self
invariant_of-self c =
    let s = c.self.inside in
    subst (λ (cs : List Commute). IsKept s.own.items s.ensured.items cs) (sym c.in_err-reserve.ensures.items) c.self.invariant

pub invariant_of-self-in_err-put : goal.invariant_of-self-in_err-put
invariant_of-self-in_err-put c =
    let s = c.self.inside in
    let reserved = subst (λ (cs : List Commute). IsKept s.own.items s.ensured.items cs) (sym c.in_ok-reserve.ensures.items) c.self.invariant in
    subst (λ (os : List Own). IsKept os s.ensured.items c.reserve.new.self.items) (sym c.in_err-put.ensures.kept) reserved

pub put-requires : goal.put-requires
put-requires c = (subst (λ (x : List Own). IsPlaceOf number_of x c.args.cell.number c.find-place.result) c.as_slice.ensures.value c.find-place.ensures).within

pub how_at-requires : goal.how_at-requires
how_at-requires c = subst (λ (x : List Own). IsSearchInRange c.find-place.result (length x)) (sym c.as_slice-2.ensures.value) (subst (λ (x : List Own). IsPlaceOf number_of x c.args.cell.number c.find-place.result) c.as_slice.ensures.value c.find-place.ensures).within
