-- An actor that ran, as its code is the run's.
use Rattle.std.proofs.Common.{◌≡◌, ℕ, true, List, [], None, refl, sym, ap, subst, ◌∙◌, inr}
use Rattle.txs_world_protocol.specs.Ask.{may_add_event}
use Rattle.txs_world_protocol.specs.declared.ask.Ask.{Ask}
use Rattle.txs_world_protocol.specs.declared.ask.Reply.TheVariants as reply
use Rattle.txs_world_protocol.specs.declared.event.Place.{Place}
use Rattle.txs_code_meaning.specs.PlainCode.{PlainCode}
use Rattle.txs_machine_actor.specs.Laws.{ActorsRun}
use Rattle.txs_machine_actor.specs.PlainActor.{PlainActor, Lives, MayAnswer, answered, unanswered}
use Rattle.txs_machine_actor.specs.Turns.{Says, TurnsOf}
use Rattle.txs_machine_actor.specs.declared.outcome.Turn.{Turn}
use Rattle.txs_world_shared.specs.SharedState.{PlainShared}
use Rattle.txs_history.specs.Asked.{History}
use Rattle.txs_machine.proofs.Limits.{turns_limited}
use Rattle.txs_machine.proofs.RunOver.{served_may}
use Rattle.txs_history_run.specs.Actor.{IsFollowing, IsInStep, IsWaiting}
use Rattle.txs_history_run.specs.declared.step.Step.{Step}
use Rattle.txs_history_run.specs.declared.step.Step.TheVariants as step
use Rattle.txs_history_run.proofs.Answering.{memory_follows}
use Rattle.txs_history_run.proofs.Numbers.{turns_number}
use Rattle.txs_history_run.proofs.On.{answer_same}
use Rattle.txs_history_run.proofs.Turning.{IsTurned, turns_follow}

-- an ask that may add an event may be refused for memory
pub refused_may : (q : Ask) → may_add_event q ≡ true → MayAnswer q reply.Memory
refused_may q adds = served_may nothing nothing 0 q reply.Memory [] [] (inr (record { adds = adds; replied = refl; state = refl; places = refl }))
  where
    nothing : PlainShared
    nothing = record { cells = []; threads = 0; books = []; taken = [] }

module _ (laws : ActorsRun) (code own : PlainCode) (same : code ≡ own) (n : ℕ) (a b : PlainActor) (r : Turn) (tr : List Place) (m : ℕ) (h : History) (st : Step) (runs : st ≡ step.Runs) (turns : TurnsOf code n a r b) (says : Says r b) (lives : Lives code b) (was : IsInStep own a tr m h st) where
  follows : IsFollowing own a tr m h
  follows = subst (IsInStep own a tr m h) runs was

  pub ran : IsTurned own r b tr m h
  ran = turns_follow laws own n a b r tr m h follows.is.waits (subst (λ d. TurnsOf d n a r b) same turns) says (subst (λ d. Lives d b) same lives) follows

  pub ran_limit : b.limit ≡ a.limit
  ran_limit = (turns_limited own a.limit n a b r (subst (λ d. TurnsOf d n a r b) same turns) follows.on.limited).limited

  pub ran_number : b.number ≡ a.number
  ran_number = turns_number code n a b r turns

-- an actor that asks, where there is no memory for the place of the event that the ask may add
pub stopped_so : ActorsRun → (code own : PlainCode) → code ≡ own → (b c : PlainActor) (q : Ask) (tr : List Place) (m : ℕ) (h : History) → IsWaiting own b q tr m h → may_add_event q ≡ true → c ≡ answered b reply.Memory → Lives code c → unanswered c ≡ None
    → IsFollowing own c tr m h × (c.limit ≡ b.limit) × (c.number ≡ b.number)
stopped_so laws code own same b c q tr m h w adds is lives free =
    let may = refused_may q adds in (
      subst (λ x. IsFollowing own x tr m h) (sym is)
          (memory_follows laws own b q tr m h w (subst (λ x. Lives own x) is (subst (λ d. Lives d c) same lives)) (subst (λ x. unanswered x ≡ None) is free) may),
      ap (λ (x : PlainActor). x.limit) is ∙ (answer_same b q reply.Memory w.waits may).0,
      ap (λ (x : PlainActor). x.number) is ∙ (answer_same b q reply.Memory w.waits may).1,
    )
