use Rattle.std.proofs.Common.{◌∙◌, ap, arith, subst, sym}
use Rattle.txs_tree_eval_transaction.proofs.Halves.{ascend_take, ascend_drop, found_left, found_right}
use Rattle.txs_tree_eval_transaction.specs.Pasts.{Ascend, begins_by, entry_at}
use Rattle.txs_tree_eval_transaction.proofs.past.+entry_at.Goals as goal

pub entry_at-requires : goal.entry_at-requires
entry_at-requires t c =
    let s = c.split_at.ensures in
    let more = c.if-items-le1.false in
    ((let a = s.front_len in let b = s.back_len in omega (arith, a, b, more)), subst (Ascend 0) (sym s.back) (ascend_drop _ c.args.items.now c.requires))

pub returns-then-begins_by : goal.returns-then-begins_by
returns-then-begins_by t c =
    let s = c.split_at.ensures in
    c.entry_at.ensures ∙ ap (λ l. entry_at l c.args.place) s.back ∙ found_right _ c.args.items.now c.args.place (ap (λ l. begins_by l c.args.place) (sym s.back) ∙ sym c.begins_by.ensures ∙ c.if-begins_by.true)

pub entry_at-requires-2 : goal.entry_at-requires-2
entry_at-requires-2 t c =
    let s = c.split_at.ensures in
    let more = c.if-items-le1.false in
    ((let a = s.front_len in let b = s.back_len in omega (arith, a, b, more)), subst (Ascend 0) (sym s.front) (ascend_take _ c.args.items.now c.requires))

pub returns : goal.returns
returns t c =
    let s = c.split_at.ensures in
    c.entry_at-2.ensures ∙ ap (λ l. entry_at l c.args.place) s.front ∙ found_left _ c.args.items.now c.args.place c.requires (ap (λ l. begins_by l c.args.place) (sym s.back) ∙ sym c.begins_by.ensures ∙ c.if-begins_by.false)
