use Rattle.std.proofs.Common.{◌≡◌, ◌∙◌, ℕ, List, Result, ap, sym}
use Rattle.std.proofs.lemmas.Result.{err_from_is_err_and}
use Rattle.txs_value_data.specs.declared.fault.Fault.{Fault}
use Rattle.txs_value_data.specs.declared.value.CellId.{CellId}
use Rattle.txs_value_data.specs.declared.value.Value.{Value}
use Rattle.txs_value_cell.specs.declared.action.Action.{Action}
use Rattle.txs_world_protocol.specs.Ask.{Writes}
use Rattle.txs_world_protocol.specs.declared.ask.Ask.{Ask}
use Rattle.txs_world_protocol.specs.declared.ask.Ask.TheVariants.{View, Commit, Send, Finish, CloseAt}
use Rattle.txs_world_protocol.proofs.copy.copy_ask.Goals as goal

-- a commit whose parts are the same is the same
commit : (ask : Ask) (at view : ℕ) (sets sets1 : Writes) (ensured ensured1 : List CellId) (commuted commuted1 : Writes) (sends sends1 : List Action) → sets1 ≡ sets → ensured1 ≡ ensured → commuted1 ≡ commuted → sends1 ≡ sends
    → ask ≡ Commit at sets ensured view commuted sends → Commit at sets1 ensured1 view commuted1 sends1 ≡ ask
commit ask at view sets sets1 ensured ensured1 commuted commuted1 sends sends1 a b d e is = cc

-- and so is what an action came to
finish : (ask : Ask) (agent : CellId) (new new1 : Result Value Fault) (sends sends1 : List Action) → new1 ≡ new → sends1 ≡ sends → ask ≡ Finish agent new sends → Finish agent new1 sends1 ≡ ask
finish ask agent new new1 sends sends1 a b is = cc

pub returns-in-Begin : goal.returns-in-Begin
returns-in-Begin c = sym c.in-Begin.is

pub returns-in-Look : goal.returns-in-Look
returns-in-Look c = sym c.in-Look.is

pub returns-in-Fail : goal.returns-in-Fail
returns-in-Fail c = sym c.in-Fail.is

pub returns-in-Peek : goal.returns-in-Peek
returns-in-Peek c = sym c.in-Peek.is

pub returns-in-Take : goal.returns-in-Take
returns-in-Take c = sym c.in-Take.is

pub returns-in-OpenAt : goal.returns-in-OpenAt
returns-in-OpenAt c = sym c.in-OpenAt.is

pub returns-in-Broke : goal.returns-in-Broke
returns-in-Broke c = sym c.in-Broke.is

pub returns-in_ok-from_slice-in-View : goal.returns-in_ok-from_slice-in-View
returns-in_ok-from_slice-in-View c = ap View (c.from_vec.ensures ∙ c.in_ok-from_slice-in-View.ensures.items ∙ c.as_slice.ensures) ∙ sym c.in-View.is

pub returns-in_ok-sends-in-Commit : goal.returns-in_ok-sends-in-Commit
returns-in_ok-sends-in-Commit c =
    let of = c.in-Commit in
    let ensured = c.from_vec-in-Commit.ensures ∙ c.in_ok-ensured-in-Commit.ensures.items ∙ c.as_slice-in-Commit.ensures in
    commit c.args.ask.now of.at of.view of.sets c.in_ok-sets-in-Commit.sets of.ensured c.from_vec-in-Commit.result of.commuted c.in_ok-commuted-in-Commit.commuted of.sends c.in_ok-sends-in-Commit.sends
    c.in_ok-sets-in-Commit.ensures ensured c.in_ok-commuted-in-Commit.ensures c.in_ok-sends-in-Commit.ensures of.is

pub returns-in_ok-copy_action-in-Send : goal.returns-in_ok-copy_action-in-Send
returns-in_ok-copy_action-in-Send c = ap Send c.in_ok-copy_action-in-Send.ensures ∙ sym c.in-Send.is

pub returns-in_ok-new-in-Finish : goal.returns-in_ok-new-in-Finish
returns-in_ok-new-in-Finish c =
    let of = c.in-Finish in
    finish c.args.ask.now of.agent of.new c.in_ok-new-in-Finish.new of.sends c.in_ok-sends-in-Finish.sends c.in_ok-new-in-Finish.ensures c.in_ok-sends-in-Finish.ensures of.is

pub returns-in_ok-copy_value-in-CloseAt : goal.returns-in_ok-copy_value-in-CloseAt
returns-in_ok-copy_value-in-CloseAt c = ap (CloseAt c.in-CloseAt.cell c.in-CloseAt.at) c.in_ok-copy_value-in-CloseAt.ensures ∙ sym c.in-CloseAt.is

pub returns-in_err-from_slice-in-View : goal.returns-in_err-from_slice-in-View
returns-in_err-from_slice-in-View c = rw (err_from_is_err_and c.from_residual.result c.from_residual.ensures.1).1 tt

pub returns-in_err-ensured-in-Commit : goal.returns-in_err-ensured-in-Commit
returns-in_err-ensured-in-Commit c = rw (err_from_is_err_and c.from_residual-in_err-ensured-in-Commit.result c.from_residual-in_err-ensured-in-Commit.ensures.1).1 tt

pub returns-in_err-sets-in-Commit : goal.returns-in_err-sets-in-Commit
returns-in_err-sets-in-Commit c = rw (err_from_is_err_and c.from_residual-in_err-sets-in-Commit.result c.from_residual-in_err-sets-in-Commit.ensures.1).1 tt

pub returns-in_err-commuted-in-Commit : goal.returns-in_err-commuted-in-Commit
returns-in_err-commuted-in-Commit c = rw (err_from_is_err_and c.from_residual-in_err-commuted-in-Commit.result c.from_residual-in_err-commuted-in-Commit.ensures.1).1 tt

pub returns-in_err-sends-in-Commit : goal.returns-in_err-sends-in-Commit
returns-in_err-sends-in-Commit c = rw (err_from_is_err_and c.from_residual-in_err-sends-in-Commit.result c.from_residual-in_err-sends-in-Commit.ensures.1).1 tt

pub returns-in_err-copy_action-in-Send : goal.returns-in_err-copy_action-in-Send
returns-in_err-copy_action-in-Send c = rw (err_from_is_err_and c.from_residual-in_err-copy_action-in-Send.result c.from_residual-in_err-copy_action-in-Send.ensures.1).1 tt

pub returns-in_err-sends-in-Finish : goal.returns-in_err-sends-in-Finish
returns-in_err-sends-in-Finish c = rw (err_from_is_err_and c.from_residual-in_err-sends-in-Finish.result c.from_residual-in_err-sends-in-Finish.ensures.1).1 tt

pub returns-in_err-new-in-Finish : goal.returns-in_err-new-in-Finish
returns-in_err-new-in-Finish c = rw (err_from_is_err_and c.from_residual-in_err-new-in-Finish.result c.from_residual-in_err-new-in-Finish.ensures.1).1 tt

pub returns-in_err-copy_value-in-CloseAt : goal.returns-in_err-copy_value-in-CloseAt
returns-in_err-copy_value-in-CloseAt c = rw (err_from_is_err_and c.from_residual-in_err-copy_value-in-CloseAt.result c.from_residual-in_err-copy_value-in-CloseAt.ensures.1).1 tt
