use Rattle.std.proofs.Common.{◌≡◌, length, rules}
use Rattle.txs_theorem_runs.specs.Shared.{untouched}
use Rattle.txs_world_shared.specs.SharedState.{shared_of}
use Rattle.txs_cli_events.proofs.Staging.{staged_first}
use Rattle.txs_cli_events.proofs.stage.Stage.open.Goals as goal

pub returns : goal.returns
returns c =
    let code = c.args.code.now in
    let s = c.in_ok-shared.shared in
    let cells : s.cells ≡ code.cells = search rules in
    let threads : s.threads ≡ length code.threads = search rules in
    let unused : shared_of s ≡ untouched code.cells = search rules in
    staged_first code c.args.max_steps _ s c.open_players.new.players c.requires.few cells threads unused c.in_ok-open_players.ensures
