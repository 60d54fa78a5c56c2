-- What holds of all actors, and of what they share, between two plays.
use Rattle.std.specs.Prelude.{◌≡◌, ◌<◌, ◌≤◌, ◌+◌, ℕ, List, length, All}
use Rattle.txs_code_meaning.specs.PlainCode.{PlainCode}
use Rattle.txs_machine.specs.Agents.{actors_of}
use Rattle.txs_machine.specs.RunOver.{IsStateOf}
use Rattle.txs_machine.specs.Running.{ArePlaying}
use Rattle.txs_cli_events.specs.declared.making.Made.{Made}
use Rattle.txs_cli_events.specs.declared.stage.Stage.{Stage}

-- They are those of a run of this code, in which none makes more steps than the limit.
pub record IsStaged (code : PlainCode) (limit : ℕ) (s : Stage) : Type 0 where
  pub of : IsStateOf code s.shared
  pub playing : ArePlaying code limit s.shared s.players
  pub many : length s.players.threads.items + length s.players.agents.items ≡ actors_of code
  pub few : actors_of code ≤ 65535

-- Each of these steps is an actor's that the code has.
abbrev pub AreMade : PlainCode → List Made → Type 0
AreMade code = All (λ (m : Made). m.actor < actors_of code)
