-- What a play of one actor makes of it, and of all actors: before the first play, after each, and what a report says behind the last.
use Rattle.std.proofs.Common.{◌⊎◌}
use Rattle.std.specs.Prelude.{◌≡◌, ◌≤◌, ◌<◌, ℕ, Bool, true, List, [], length, Option, None}
use Rattle.txs_world_protocol.specs.declared.event.Outcome.{Outcome}
use Rattle.txs_value_data.specs.declared.value.CellId.{CellId}
use Rattle.txs_code_meaning.specs.PlainCode.{PlainCode}
use Rattle.txs_machine_actor.specs.PlainActor.{PlainActor, Lives, unanswered}
use Rattle.txs_theorem_runs.proofs.Growing.{Grown}
use Rattle.txs_theorem_runs.specs.Shared.{untouched}
use Rattle.txs_world_shared.specs.SharedState.{PlainShared, shared_of}
use Rattle.txs_machine.specs.Agents.{agents_of, AgentsAreDone, AreDrained, AreExplainedBy}
use Rattle.txs_machine.specs.Lawfully.{RunLawfully}
use Rattle.txs_machine.specs.Playing.{AllEnded, AreBetween, AreLater, AreNew, ArePlayedAt, HaveSteps, IsBetween, IsPlayed}
use Rattle.txs_machine.specs.RunOver.{IsAfter, IsLimited, IsStateOf, books_of}
use Rattle.txs_machine.specs.Running.{AreAttending, AreIdle, ArePlayingBy, GoesAs, GoOnBy, HasWork, IsAttending, IsLive, attendants, left_all}
use Rattle.txs_theorem_runs.specs.Run as run
use Rattle.txs_machine.specs.Scheduled.{AreTurnsOf, AreScheduled, IsScheduledRun}
use Rattle.txs_machine.specs.Schedule.{AreDone, ArePlayed, HaveEnded, IsExplainedBy}
use Rattle.txs_machine.specs.declared.player.AgentPlayer.{AgentPlayer}
use Rattle.txs_world_protocol.specs.declared.event.Place.{Place}
use Rattle.txs_machine.specs.declared.player.Player.{Player}
use Rattle.txs_machine.specs.declared.player.Players.{Players}
use Rattle.txs_machine.specs.declared.schedule.Play.{Play}
use Rattle.txs_machine.specs.declared.schedule.Entries.{Entries}

-- ---- a play

-- a thread's actor after turns of it, with the ask that they came to served: it has ended so, or has made a step at least
pub record IsRound (code : PlainCode) (k n : ℕ) (s : PlainShared) (a : PlainActor) (tr : List Place) (o : Option Outcome) (t : PlainShared) (z : PlainActor) (new : List Place) : Type 0 where
  pub lives : Lives code z
  pub after : IsAfter z o
  pub free : unanswered z ≡ None
  pub progress : o ≡ None → a.steps < z.steps
  pub limited : IsLimited a.limit z
  pub of : IsStateOf code t
  pub over : RunLawfully code k (books_of t) new z
  pub grown : Grown k (books_of s) (books_of t)
  pub goes : a.outcome ≡ None → GoesAs code k n s a tr t z new

-- a thread's actor after a play of it
pub record IsThreadsPlay (code : PlainCode) (k limit n : ℕ) (s : PlainShared) (x : Player) (t : PlainShared) (y : Player) : Type 0 where
  pub of : IsStateOf code t
  pub between : IsBetween code k limit (books_of t) y
  pub grown : Grown k (books_of s) (books_of t)
  pub goes : GoesAs code k n s x.actor x.trace.items t y.actor y.trace.items
  pub played : IsPlayed x.actor y.actor
  pub rests : (x.actor.outcome ≡ None) ⊎ ((y ≡ x) × (t ≡ s))

-- an agent's actor after a play of it: one that hasn't ended has made as many steps at least, and more where it had something to do; it has made a step, or
-- has ended, or all is as it was
pub record IsAgentsPlay (code : PlainCode) (k limit n : ℕ) (s : PlainShared) (x : AgentPlayer) (t : PlainShared) (y : AgentPlayer) : Type 0 where
  pub of : IsStateOf code t
  pub attending : IsAttending code x.agent k limit y
  pub grown : Grown k (books_of s) (books_of t)
  pub goes : GoesAs code k n s x.player.actor x.player.trace.items t y.player.actor y.player.trace.items
  pub later : y.player.actor.outcome ≡ None → (x.player.actor.outcome ≡ None) × (x.player.actor.steps ≤ y.player.actor.steps)
  pub progress : y.player.actor.outcome ≡ None → HasWork code s x.agent → x.player.actor.steps < y.player.actor.steps
  pub rests : ((x.player.actor.outcome ≡ None) × (y.player.actor.outcome ≡ None → x.player.actor.steps < y.player.actor.steps)) ⊎ ((y ≡ x) × (t ≡ s))

-- all actors after a play of the k-th, of up to so many turns
pub record IsPlayAt (code : PlainCode) (limit k n : ℕ) (s : PlainShared) (all : Players) (t : PlainShared) (next : Players) : Type 0 where
  pub of : IsStateOf code t
  pub goes : GoOnBy code limit (AreTurnsOf code limit k n) s all t next
  pub many : length next.threads.items ≡ length all.threads.items
  pub agents : length next.agents.items ≡ length all.agents.items
  pub played : k < length all.threads.items → ArePlayedAt k all.threads.items next.threads.items
  pub later : AreLater all.threads.items next.threads.items
  pub left : left_all next ≤ left_all all
  pub live : IsLive code s all k → left_all next < left_all all
  pub still : (left_all next < left_all all) ⊎ ((next.threads.items ≡ all.threads.items) × (next.agents.items ≡ all.agents.items) × (t ≡ s))

-- ---- before the first play

-- the actors of so many threads
pub record AreOpened (code : PlainCode) (limit n : ℕ) (xs : List Player) : Type 0 where
  pub many : length xs ≡ n
  pub between : AreBetween code limit (λ i. []) 0 xs
  pub opened : AreNew code limit 0 xs

-- the actors of these agents, of which the first is the k-th actor
pub record AreOpenedFor (code : PlainCode) (limit k : ℕ) (gs : List CellId) (xs : List AgentPlayer) : Type 0 where
  pub attending : AreAttending code limit k gs xs
  pub opened : AreNew code limit k (attendants xs)

-- all actors, so many of threads and one of each agent, are where nothing was done yet
pub record AreReady (code : PlainCode) (limit n : ℕ) (all : Players) : Type 0 where
  pub many : length all.threads.items ≡ n
  pub agents : length all.agents.items ≡ length (agents_of code)
  pub playing : (s : PlainShared) → shared_of s ≡ untouched code.cells → ArePlayingBy code limit s all []

-- ---- behind the last play

-- all actors after the plays of a schedule, and with rounds behind them
pub record ArePlayedOut (code : PlainCode) (limit : ℕ) (ys : List Play) (rounds : Bool) (t : PlainShared) (all : Players) : Type 0 where
  pub of : IsStateOf code t
  pub turns : List run.Play
  pub scheduled : AreScheduled code limit ys rounds turns
  pub playing : ArePlayingBy code limit t all turns
  pub steps : HaveSteps ys 0 all.threads.items
  pub ended : rounds ≡ true → AllEnded all.threads.items
  pub idle : rounds ≡ true → AreIdle code t all.agents.items

-- what a report says of the plays of a schedule, and of rounds behind them
pub record SaysOf (code : PlainCode) (limit : ℕ) (ys : List Play) (rounds : Bool) (t : PlainShared) (report : Entries) : Type 0 where
  pub done : AreDone code limit (books_of t) report.threads.items
  pub played : ArePlayed ys report.threads.items
  pub ended : rounds ≡ true → HaveEnded report.threads.items
  pub explained : IsExplainedBy code (shared_of t) report.threads.items
  pub agents : AgentsAreDone code limit (books_of t) report.agents.items
  pub drained : rounds ≡ true → AreDrained code (shared_of t) report.agents.items
  pub all_explained : AreExplainedBy code (shared_of t) report.threads.items report.agents.items
  pub scheduled : IsScheduledRun code limit ys rounds t report.threads.items report.agents.items
