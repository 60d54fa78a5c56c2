use Rattle.std.proofs.Common.{◌≡◌, ◌∙◌, ℕ, ap, sym}
use Rattle.std.proofs.lemmas.Result.{err_from_is_err_and}
use Rattle.txs_value_data.specs.declared.value.Value.{Value}
use Rattle.txs_value_cell.specs.declared.action.Action.{Action}
use Rattle.txs_world_protocol.specs.declared.ask.Reply.{Reply}
use Rattle.txs_world_protocol.specs.declared.ask.Reply.TheVariants as reply
use Rattle.txs_world_protocol.proofs.copy.copy_reply.Goals as goal

-- an action's answer whose parts are the same is the same
acted : (told : Reply) (number : ℕ) (action action1 : Action) (state state1 : Value) → action1 ≡ action → state1 ≡ state → told ≡ reply.Action number action state → reply.Action number action1 state1 ≡ told
acted told number action action1 state state1 a b is = cc

pub returns-in-At : goal.returns-in-At
returns-in-At c = sym c.in-At.is

pub returns-in-Done : goal.returns-in-Done
returns-in-Done c = sym c.in-Done.is

pub returns-in-Retry : goal.returns-in-Retry
returns-in-Retry c = sym c.in-Retry.is

pub returns-in-Changed : goal.returns-in-Changed
returns-in-Changed c = sym c.in-Changed.is

pub returns-in-AgentIsFailed : goal.returns-in-AgentIsFailed
returns-in-AgentIsFailed c = sym c.in-AgentIsFailed.is

pub returns-in-Idle : goal.returns-in-Idle
returns-in-Idle c = sym c.in-Idle.is

pub returns-in-Full : goal.returns-in-Full
returns-in-Full c = sym c.in-Full.is

pub returns-in-Memory : goal.returns-in-Memory
returns-in-Memory c = sym c.in-Memory.is

pub returns-in_ok-copy_value-in-Is : goal.returns-in_ok-copy_value-in-Is
returns-in_ok-copy_value-in-Is c = ap reply.Is c.in_ok-copy_value-in-Is.ensures ∙ sym c.in-Is.is

pub returns-in_ok-copy_values-in-Views : goal.returns-in_ok-copy_values-in-Views
returns-in_ok-copy_values-in-Views c = ap (reply.Views c.in-Views.view) c.in_ok-copy_values-in-Views.ensures ∙ sym c.in-Views.is

pub returns-in_ok-state-in-Action : goal.returns-in_ok-state-in-Action
returns-in_ok-state-in-Action c =
    let of = c.in-Action in
    acted c.args.reply.now of.number of.action c.in_ok-action-in-Action.action of.state c.in_ok-state-in-Action.state c.in_ok-action-in-Action.ensures c.in_ok-state-in-Action.ensures of.is

pub returns-in_ok-copy_value-in-Opened : goal.returns-in_ok-copy_value-in-Opened
returns-in_ok-copy_value-in-Opened c = ap (reply.Opened c.in-Opened.at) c.in_ok-copy_value-in-Opened.ensures ∙ sym c.in-Opened.is

pub returns-in_err-copy_value-in-Is : goal.returns-in_err-copy_value-in-Is
returns-in_err-copy_value-in-Is c = rw (err_from_is_err_and c.from_residual.result c.from_residual.ensures.1).1 tt

pub returns-in_err-copy_values-in-Views : goal.returns-in_err-copy_values-in-Views
returns-in_err-copy_values-in-Views c = rw (err_from_is_err_and c.from_residual-in_err-copy_values-in-Views.result c.from_residual-in_err-copy_values-in-Views.ensures.1).1 tt

pub returns-in_err-action-in-Action : goal.returns-in_err-action-in-Action
returns-in_err-action-in-Action c = rw (err_from_is_err_and c.from_residual-in_err-action-in-Action.result c.from_residual-in_err-action-in-Action.ensures.1).1 tt

pub returns-in_err-state-in-Action : goal.returns-in_err-state-in-Action
returns-in_err-state-in-Action c = rw (err_from_is_err_and c.from_residual-in_err-state-in-Action.result c.from_residual-in_err-state-in-Action.ensures.1).1 tt

pub returns-in_err-copy_value-in-Opened : goal.returns-in_err-copy_value-in-Opened
returns-in_err-copy_value-in-Opened c = rw (err_from_is_err_and c.from_residual-in_err-copy_value-in-Opened.result c.from_residual-in_err-copy_value-in-Opened.ensures.1).1 tt
