use Rattle.std.proofs.Common.{ap, subst, sym, ◌∙◌, ◌||◌, List, is_some}
use Rattle.txs_world_protocol.specs.Ask.{buffered}
use Rattle.txs_frame.specs.Frame.{PlainTxFrame, is_set, is_commuted}
use Rattle.txs_frame.specs.declared.own.Own.{Own}
use Rattle.txs_frame.specs.Kept.{number_of, IsPlaceOf}
use Rattle.txs_frame.proofs.Owns.{value_if, buffered_by}
use Rattle.txs_frame.proofs.Frames.{own_exactly, found, missing}
use Rattle.txs_frame.proofs.frame.TxFrame.value.Goals as goal

pub returns-in-Ok-clause-value : goal.returns-in-Ok-clause-value
returns-in-Ok-clause-value c =
    let os = c.self.inside.own.items in
    let k = c.args.number in
    let p : IsPlaceOf number_of os k c.find.result = subst (λ (x : List Own). IsPlaceOf number_of x k c.find.result) c.as_slice.ensures.value c.find.ensures in
    let there = found os k c.find.result c.in-Ok.i c.index.result.now p c.in-Ok.is c.index.ensures in
    sym (ap (λ (w : PlainTxFrame). buffered w.values k) (sym c.self.view_is) ∙ buffered_by os k ∙ ap value_if there)

pub returns-in-Ok-clause-own : goal.returns-in-Ok-clause-own
returns-in-Ok-clause-own c =
    let os = c.self.inside.own.items in
    let k = c.args.number in
    let p : IsPlaceOf number_of os k c.find.result = subst (λ (x : List Own). IsPlaceOf number_of x k c.find.result) c.as_slice.ensures.value c.find.ensures in
    let there = found os k c.find.result c.in-Ok.i c.index.result.now p c.in-Ok.is c.index.ensures in
    sym (ap is_some there)
    ∙ own_exactly os c.self.inside.ensured.items c.self.inside.commutes.items c.self.inside.sends.items k c.self.invariant
    ∙ ap (λ (w : PlainTxFrame). is_set w k || is_commuted w k) c.self.view_is

pub returns-in-Err-clause-value : goal.returns-in-Err-clause-value
returns-in-Err-clause-value c =
    let os = c.self.inside.own.items in
    let k = c.args.number in
    let p : IsPlaceOf number_of os k c.find.result = subst (λ (x : List Own). IsPlaceOf number_of x k c.find.result) c.as_slice.ensures.value c.find.ensures in
    sym (ap (λ (w : PlainTxFrame). buffered w.values k) (sym c.self.view_is) ∙ buffered_by os k ∙ ap value_if (missing os k c.find.result c.in-Err.field-0 p c.in-Err.is))

pub returns-in-Err-clause-own : goal.returns-in-Err-clause-own
returns-in-Err-clause-own c =
    let os = c.self.inside.own.items in
    let k = c.args.number in
    let p : IsPlaceOf number_of os k c.find.result = subst (λ (x : List Own). IsPlaceOf number_of x k c.find.result) c.as_slice.ensures.value c.find.ensures in
    sym (ap is_some (missing os k c.find.result c.in-Err.field-0 p c.in-Err.is))
    ∙ own_exactly os c.self.inside.ensured.items c.self.inside.commutes.items c.self.inside.sends.items k c.self.invariant
    ∙ ap (λ (w : PlainTxFrame). is_set w k || is_commuted w k) c.self.view_is
