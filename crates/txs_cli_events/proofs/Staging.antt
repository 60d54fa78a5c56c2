-- What holds of all actors before the first play, and behind each; and of the steps that plays made.
use Rattle.std.proofs.Common.{◌≡◌, ◌<◌, ◌≤◌, ◌+◌, ◌++◌, ℕ, List, [], ◌∷◌, length, sym, subst, arith}
use Rattle.std.proofs.lemmas.List.Elements.{All-push}
use Rattle.txs_value_cell.proofs.AgentsLemmas.{agents_few}
use Rattle.txs_code_meaning.specs.PlainCode.{PlainCode}
use Rattle.txs_theorem_runs.specs.Shared.{untouched}
use Rattle.txs_world_shared.specs.SharedState.{PlainShared, shared_of}
use Rattle.txs_machine.specs.Agents.{actors_of}
use Rattle.txs_machine.specs.Plays.{AreReady, IsPlayAt}
use Rattle.txs_machine.specs.Scheduled.{AreTurnsOf}
use Rattle.txs_machine.specs.declared.player.Players.{Players}
use Rattle.txs_machine.proofs.Scheduled.{still}
use Rattle.txs_cli_events.specs.Staged.{AreMade, IsStaged}
use Rattle.txs_cli_events.specs.declared.making.Made.{Made}
use Rattle.txs_cli_events.specs.declared.stage.Stage.{Stage}

-- nothing was done yet
pub staged_first : (code : PlainCode) (limit n : ℕ) (s : PlainShared) (all : Players) → length code.threads + length code.cells ≤ 65535 → s.cells ≡ code.cells → s.threads ≡ length code.threads → shared_of s ≡ untouched code.cells
    → AreReady code limit n all → IsStaged code limit (record { players = all; shared = s })
staged_first code limit n s all few cells threads unused h = record {
  of = record { cells = cells; threads = threads };
  playing = ([], h.playing s unused);
  many = (let playing = h.playing s unused in let a = playing.many in let b = h.agents in omega (arith, a, b));
  few = (let a = agents_few 0 code.cells in omega (arith, a, few));
}

-- behind one more play
pub staged_next : (code : PlainCode) (limit k n : ℕ) (a : Stage) (t : PlainShared) (next : Players) → IsPlayAt code limit k n a.shared a.players t next → IsStaged code limit a → IsStaged code limit (record { players = next; shared = t })
staged_next code limit k n a t next h at = record {
  of = h.of;
  playing = still code limit (AreTurnsOf code limit k n) a.shared t a.players next h.goes at.playing;
  many = (let m = h.many in let g = h.agents in let b = at.many in omega (arith, m, g, b));
  few = at.few;
}

-- one more play that made steps
pub made_more : (code : PlainCode) (xs ys : List Made) (m : Made) → ys ≡ xs ++ m ∷ [] → m.actor < actors_of code → AreMade code xs → AreMade code ys
made_more code xs ys m e below h = subst (AreMade code) (sym e) (All-push (λ (x : Made). x.actor < actors_of code) xs m h below)
