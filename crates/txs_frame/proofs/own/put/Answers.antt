use Rattle.std.proofs.Common.{◌∙◌, ℕ, Result, List, [], ◌∷◌, ◌++◌, ap, sym}
use Rattle.txs_frame.specs.declared.own.Own.{Own}
use Rattle.txs_frame.specs.Kept.{put_at}
use Rattle.txs_frame.proofs.Places.{insert_last}
use Rattle.txs_frame.proofs.own.put.Goals as goal

pub returns-in_ok-insert-in-Err-clause-put : goal.returns-in_ok-insert-in-Err-clause-put
returns-in_ok-insert-in-Err-clause-put c = c.in_ok-insert-in-Err.ensures.items ∙ ap (λ (p : Result ℕ ℕ). put_at c.args.own.now.items p c.args.item) (sym c.in-Err.is)

pub returns-in_ok-reserve-in-Err-clause-put : goal.returns-in_ok-reserve-in-Err-clause-put
returns-in_ok-reserve-in-Err-clause-put c =
    let os : List Own = c.args.own.now.items in
    c.push_reserved.ensures.items
    ∙ ap (λ (xs : List Own). xs ++ c.args.item ∷ []) c.in_ok-reserve-in-Err.ensures.items
    ∙ insert_last os c.in-Err.i c.args.item (c.if-i-len.true ∙ c.len.ensures ∙ c.args.own.now.ok.0)
    ∙ ap (λ (p : Result ℕ ℕ). put_at os p c.args.item) (sym c.in-Err.is)

pub returns-in-Ok-clause-put : goal.returns-in-Ok-clause-put
returns-in-Ok-clause-put c = ap (λ (p : Result ℕ ℕ). put_at c.args.own.now.items p c.args.item) (sym c.in-Ok.is)
