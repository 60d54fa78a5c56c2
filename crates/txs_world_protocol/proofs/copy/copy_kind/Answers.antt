use Rattle.std.proofs.Common.{◌≡◌, ◌∙◌, ℕ, List, Result, ap, sym}
use Rattle.std.proofs.lemmas.Result.{err_from_is_err_and}
use Rattle.txs_value_data.specs.declared.fault.Fault.{Fault}
use Rattle.txs_value_data.specs.declared.value.CellId.{CellId}
use Rattle.txs_value_data.specs.declared.value.Value.{Value}
use Rattle.txs_value_cell.specs.declared.action.Action.{Action}
use Rattle.txs_world_protocol.specs.Ask.{Writes}
use Rattle.txs_world_protocol.specs.declared.event.EventKind.{EventKind}
use Rattle.txs_world_protocol.specs.declared.event.EventKind.TheVariants.{Commit, Send, Act, Swap}
use Rattle.txs_world_protocol.proofs.copy.copy_kind.Goals as goal

-- a commit whose parts are the same is the same
commit : (kind : EventKind) (at view : ℕ) (writes writes1 : Writes) (sends sends1 : List Action) → writes1 ≡ writes → sends1 ≡ sends → kind ≡ Commit at view writes sends → Commit at view writes1 sends1 ≡ kind
commit kind at view writes writes1 sends sends1 a b is = cc

-- and so is an action that was run
act : (kind : EventKind) (agent : CellId) (number : ℕ) (new new1 : Result Value Fault) (sends sends1 : List Action) → new1 ≡ new → sends1 ≡ sends → kind ≡ Act agent number new sends → Act agent number new1 sends1 ≡ kind
act kind agent number new new1 sends sends1 a b is = cc

pub returns-in-Read : goal.returns-in-Read
returns-in-Read c = sym c.in-Read.is

pub returns-in-Retry : goal.returns-in-Retry
returns-in-Retry c = sym c.in-Retry.is

pub returns-in-Fail : goal.returns-in-Fail
returns-in-Fail c = sym c.in-Fail.is

pub returns-in-Refused : goal.returns-in-Refused
returns-in-Refused c = sym c.in-Refused.is

pub returns-in-SendRefused : goal.returns-in-SendRefused
returns-in-SendRefused c = sym c.in-SendRefused.is

pub returns-in-Broke : goal.returns-in-Broke
returns-in-Broke c = sym c.in-Broke.is

pub returns-in_ok-sends-in-Commit : goal.returns-in_ok-sends-in-Commit
returns-in_ok-sends-in-Commit c =
    let of = c.in-Commit in
    commit c.args.kind.now of.at of.view of.writes c.in_ok-writes-in-Commit.writes of.sends c.in_ok-sends-in-Commit.sends c.in_ok-writes-in-Commit.ensures c.in_ok-sends-in-Commit.ensures of.is

pub returns-in_ok-copy_action-in-Send : goal.returns-in_ok-copy_action-in-Send
returns-in_ok-copy_action-in-Send c = ap Send c.in_ok-copy_action-in-Send.ensures ∙ sym c.in-Send.is

pub returns-in_ok-new-in-Act : goal.returns-in_ok-new-in-Act
returns-in_ok-new-in-Act c =
    let of = c.in-Act in
    act c.args.kind.now of.agent of.number of.new c.in_ok-new-in-Act.new of.sends c.in_ok-sends-in-Act.sends c.in_ok-new-in-Act.ensures c.in_ok-sends-in-Act.ensures of.is

pub returns-in_ok-copy_value-in-Swap : goal.returns-in_ok-copy_value-in-Swap
returns-in_ok-copy_value-in-Swap c = ap Swap c.in_ok-copy_value-in-Swap.ensures ∙ sym c.in-Swap.is

pub returns-in_err-writes-in-Commit : goal.returns-in_err-writes-in-Commit
returns-in_err-writes-in-Commit c = rw (err_from_is_err_and c.from_residual.result c.from_residual.ensures.1).1 tt

pub returns-in_err-sends-in-Commit : goal.returns-in_err-sends-in-Commit
returns-in_err-sends-in-Commit c = rw (err_from_is_err_and c.from_residual-in_err-sends-in-Commit.result c.from_residual-in_err-sends-in-Commit.ensures.1).1 tt

pub returns-in_err-copy_action-in-Send : goal.returns-in_err-copy_action-in-Send
returns-in_err-copy_action-in-Send c = rw (err_from_is_err_and c.from_residual-in_err-copy_action-in-Send.result c.from_residual-in_err-copy_action-in-Send.ensures.1).1 tt

pub returns-in_err-sends-in-Act : goal.returns-in_err-sends-in-Act
returns-in_err-sends-in-Act c = rw (err_from_is_err_and c.from_residual-in_err-sends-in-Act.result c.from_residual-in_err-sends-in-Act.ensures.1).1 tt

pub returns-in_err-new-in-Act : goal.returns-in_err-new-in-Act
returns-in_err-new-in-Act c = rw (err_from_is_err_and c.from_residual-in_err-new-in-Act.result c.from_residual-in_err-new-in-Act.ensures.1).1 tt

pub returns-in_err-copy_value-in-Swap : goal.returns-in_err-copy_value-in-Swap
returns-in_err-copy_value-in-Swap c = rw (err_from_is_err_and c.from_residual-in_err-copy_value-in-Swap.result c.from_residual-in_err-copy_value-in-Swap.ensures.1).1 tt
