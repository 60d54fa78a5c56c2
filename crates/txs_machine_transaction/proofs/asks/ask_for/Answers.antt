use Rattle.std.proofs.Common.{◌≡◌, ◌∙◌, ℕ, List, Result, Ok, Err, None, Some, ◌⊎◌, inl, inr, ap, sym, subst}
use Rattle.std.specs.Prelude.{IfErr, IfOk}
use Rattle.txs_world_protocol.specs.declared.ask.Ask.{Ask}
use Rattle.txs_world_protocol.specs.declared.ask.Ask.TheVariants as ask
use Rattle.txs_frame.specs.Frame.{PlainTxFrame}
use Rattle.txs_machine_transaction.specs.Asks.{applied_in, ask_for, AskWantsMemory}
use Rattle.txs_machine_transaction.specs.Transaction.{is_running}
use Rattle.txs_machine_transaction.specs.declared.state.Pending.{Pending}
use Rattle.txs_machine_transaction.specs.declared.state.Pending.TheVariants.{Hold}
use Rattle.txs_value_cell.specs.declared.action.Action.{Action}
use Rattle.txs_machine_transaction.specs.declared.state.Transaction.{Transaction}
use Rattle.txs_machine_transaction.proofs.asks.ask_for.Goals as goal

-- what is asked for this
abbrev asked : Transaction → ℕ → ℕ → PlainTxFrame → Pending → Ask
asked tx at view w p = ask_for p (is_running tx) at view (applied_in tx) w

-- what holds in any case does so of an error
of_error : {A B P : Type 0} (r : Result A B) → P → IfErr r (λ e. P)
of_error (Ok x) p = tt
of_error (Err e) p = p

-- what is asked for, whatever sends are held
held : (tx : Transaction) (at view : ℕ) (w : PlainTxFrame) (xs : List Action) {E : Type 0} (r : Result Ask E) → IfOk r (λ q. (ys : List Action) → q ≡ asked tx at view w (Hold ys)) → IfOk r (λ q. q ≡ asked tx at view w (Hold xs))
held tx at view w xs (Ok q) h = h xs
held tx at view w xs (Err e) h = h

pub returns-in-Begin-clause-ask : goal.returns-in-Begin-clause-ask
returns-in-Begin-clause-ask c = ap (asked c.args.tx.now c.args.at c.args.view c.args.frame.now) (sym c.in-Begin.is)

pub returns-in-Read-clause-ask : goal.returns-in-Read-clause-ask
returns-in-Read-clause-ask c = c.ask_of_read.ensures ∙ ap (asked c.args.tx.now c.args.at c.args.view c.args.frame.now) (sym c.in-Read.is)

pub returns-in_ok-commuted-in-View-clause-ask : goal.returns-in_ok-commuted-in-View-clause-ask
returns-in_ok-commuted-in-View-clause-ask c = ap ask.View (c.from_vec.ensures ∙ c.in_ok-commuted-in-View.ensures) ∙ ap (asked c.args.tx.now c.args.at c.args.view c.args.frame.now) (sym c.in-View.is)

pub returns-in_err-commuted-in-View-clause-memory : goal.returns-in_err-commuted-in-View-clause-memory
returns-in_err-commuted-in-View-clause-memory c = of_error c.from_residual.result (subst AskWantsMemory (sym c.in-View.is) tt)

pub returns-in-Swap-clause-ask : goal.returns-in-Swap-clause-ask
returns-in-Swap-clause-ask c = ap (asked c.args.tx.now c.args.at c.args.view c.args.frame.now) (sym c.in-Swap.is)

pub returns-in_ok-copy_action-in-Send-clause-ask : goal.returns-in_ok-copy_action-in-Send-clause-ask
returns-in_ok-copy_action-in-Send-clause-ask c = ap ask.Send c.in_ok-copy_action-in-Send.ensures ∙ ap (asked c.args.tx.now c.args.at c.args.view c.args.frame.now) (sym c.in-Send.is)

pub returns-in_err-copy_action-in-Send-clause-memory : goal.returns-in_err-copy_action-in-Send-clause-memory
returns-in_err-copy_action-in-Send-clause-memory c =
    of_error c.from_residual-in_err-copy_action-in-Send.result (subst AskWantsMemory (sym c.in-Send.is) tt)

pub returns-in-Commit-clause-ask : goal.returns-in-Commit-clause-ask
returns-in-Commit-clause-ask c =
    subst (λ (x : Ask). IfOk c.ask_of_commit.result (λ q. q ≡ x)) (ap (asked c.args.tx.now c.args.at c.args.view c.args.frame.now) (sym c.in-Commit.is)) c.ask_of_commit.ensures

pub returns-in-Commit-clause-memory : goal.returns-in-Commit-clause-memory
returns-in-Commit-clause-memory c = of_error c.ask_of_commit.result (subst AskWantsMemory (sym c.in-Commit.is) tt)

pub returns-in-Hold-clause-ask : goal.returns-in-Hold-clause-ask
returns-in-Hold-clause-ask c =
    subst (λ (x : Ask). IfOk c.ask_to_hold.result (λ q. q ≡ x)) (ap (asked c.args.tx.now c.args.at c.args.view c.args.frame.now) (sym c.in-Hold.is)) (held c.args.tx.now c.args.at c.args.view c.args.frame.now c.in-Hold.field-0 c.ask_to_hold.result c.ask_to_hold.ensures)

pub returns-in-Hold-clause-memory : goal.returns-in-Hold-clause-memory
returns-in-Hold-clause-memory c = of_error c.ask_to_hold.result (subst AskWantsMemory (sym c.in-Hold.is) tt)

pub returns-in-Fail-clause-ask : goal.returns-in-Fail-clause-ask
returns-in-Fail-clause-ask c = ap (asked c.args.tx.now c.args.at c.args.view c.args.frame.now) (sym c.in-Fail.is)

pub returns-in-Broke-clause-ask : goal.returns-in-Broke-clause-ask
returns-in-Broke-clause-ask c = ap (asked c.args.tx.now c.args.at c.args.view c.args.frame.now) (sym c.in-Broke.is)

pub returns-in-Take-clause-ask : goal.returns-in-Take-clause-ask
returns-in-Take-clause-ask c = ap (asked c.args.tx.now c.args.at c.args.view c.args.frame.now) (sym c.in-Take.is)

pub returns-in_ok-copy_value-in-Reset-clause-ask : goal.returns-in_ok-copy_value-in-Reset-clause-ask
returns-in_ok-copy_value-in-Reset-clause-ask c =
    ap (ask.CloseAt c.in-Reset.cell None) c.in_ok-copy_value-in-Reset.ensures ∙ ap (asked c.args.tx.now c.args.at c.args.view c.args.frame.now) (sym c.in-Reset.is)

pub returns-in_err-copy_value-in-Reset-clause-memory : goal.returns-in_err-copy_value-in-Reset-clause-memory
returns-in_err-copy_value-in-Reset-clause-memory c =
    of_error c.from_residual-in_err-copy_value-in-Reset.result (subst AskWantsMemory (sym c.in-Reset.is) tt)

pub returns-in_ok-copy_value-in-Close-clause-ask : goal.returns-in_ok-copy_value-in-Close-clause-ask
returns-in_ok-copy_value-in-Close-clause-ask c =
    ap (ask.CloseAt c.in-Close.cell (Some c.in-Close.at)) c.in_ok-copy_value-in-Close.ensures ∙ ap (asked c.args.tx.now c.args.at c.args.view c.args.frame.now) (sym c.in-Close.is)

pub returns-in_err-copy_value-in-Close-clause-memory : goal.returns-in_err-copy_value-in-Close-clause-memory
returns-in_err-copy_value-in-Close-clause-memory c =
    of_error c.from_residual-in_err-copy_value-in-Close.result (subst AskWantsMemory (sym c.in-Close.is) tt)

-- from either of two
either : {A B C : Type 0} → (A → C) → (B → C) → A ⊎ B → C
either f g (inl a) = f a
either f g (inr b) = g b

pub returns-in-Ensure-clause-ask : goal.returns-in-Ensure-clause-ask
returns-in-Ensure-clause-ask c =
    either (λ h. ap (asked c.args.tx.now c.args.at c.args.view c.args.frame.now) (sym h.1)) (λ h. ap (asked c.args.tx.now c.args.at c.args.view c.args.frame.now) (sym h.2)) c.in-Ensure.is
