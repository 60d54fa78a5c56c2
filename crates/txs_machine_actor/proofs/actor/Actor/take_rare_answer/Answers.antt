use Rattle.std.proofs.Common.{◌≡◌, ◌∙◌, ℕ, Option, Some, None, length, ap, sym, subst, refl, rules}
use Rattle.txs_world_protocol.specs.declared.ask.Reply.{Reply}
use Rattle.txs_world_protocol.specs.declared.ask.Reply.TheVariants as reply
use Rattle.txs_world_protocol.specs.declared.event.Outcome.TheVariants as outcome
use Rattle.txs_machine_transaction.specs.declared.state.Pending.{Pending}
use Rattle.txs_machine_transaction.specs.declared.state.Pending.TheVariants.{Begin, Read, Ensure, Open, View, Reset, Send, Swap, Close, Commit, Hold, Fail, Broke, Take, Finish}
use Rattle.txs_value_data.specs.declared.value.CellId.{CellId}
use Rattle.txs_machine_actor.specs.PlainActor.{PlainActor, answered, answered_if, run_again, stops_as}
use Rattle.txs_machine_actor.specs.Turns.{HasJudged, TakesAnswer}
use Rattle.txs_machine_actor.proofs.actor.Actor.take_rare_answer.Goals as goal

-- a full book ends the actor
full : (a : PlainActor) (many : ℕ) (o : Option Pending) → TakesAnswer a many o reply.Full → stops_as a outcome.JournalFull ≡ answered_if a o reply.Full
full a many None w = absurd w
full a many (Some (Begin left from)) w = refl
full a many (Some (Read c)) w = refl
full a many (Some (Ensure c es)) w = refl
full a many (Some (Open c n kept)) w = refl
full a many (Some (View phase)) w = refl
full a many (Some (Reset c v)) w = refl
full a many (Some (Send x n)) w = refl
full a many (Some (Swap c n from)) w = refl
full a many (Some (Close c p v)) w = refl
full a many (Some Commit) w = refl
full a many (Some (Hold xs)) w = refl
full a many (Some (Fail f)) w = refl
full a many (Some (Broke c p f)) w = refl
full a many (Some (Take g)) w = refl
full a many (Some (Finish g new)) w = refl

-- so does want of memory
memory : (a : PlainActor) (many : ℕ) (o : Option Pending) → TakesAnswer a many o reply.Memory → stops_as a outcome.Memory ≡ answered_if a o reply.Memory
memory a many None w = absurd w
memory a many (Some (Begin left from)) w = refl
memory a many (Some (Read c)) w = refl
memory a many (Some (Ensure c es)) w = refl
memory a many (Some (Open c n kept)) w = refl
memory a many (Some (View phase)) w = refl
memory a many (Some (Reset c v)) w = refl
memory a many (Some (Send x n)) w = refl
memory a many (Some (Swap c n from)) w = refl
memory a many (Some (Close c p v)) w = refl
memory a many (Some Commit) w = refl
memory a many (Some (Hold xs)) w = refl
memory a many (Some (Fail f)) w = refl
memory a many (Some (Broke c p f)) w = refl
memory a many (Some (Take g)) w = refl
memory a many (Some (Finish g new)) w = refl

-- a look and a commit that are refused run the transaction again
again : (a : PlainActor) (many : ℕ) (d : CellId) (o : Option Pending) → TakesAnswer a many o (reply.Retry d) → run_again a a.tx ≡ answered_if a o (reply.Retry d)
again a many d None w = absurd w
again a many d (Some (Begin left from)) w = absurd w
again a many d (Some (Read c)) w = refl
again a many d (Some (Ensure c es)) w = refl
again a many d (Some (Open c n kept)) w = refl
again a many d (Some (View phase)) w = absurd w
again a many d (Some (Reset c v)) w = absurd w
again a many d (Some (Send x n)) w = absurd w
again a many d (Some (Swap c n from)) w = absurd w
again a many d (Some (Close c p v)) w = absurd w
again a many d (Some Commit) w = refl
again a many d (Some (Hold xs)) w = refl
again a many d (Some (Fail f)) w = absurd w
again a many d (Some (Broke c p f)) w = absurd w
again a many d (Some (Take g)) w = absurd w
again a many d (Some (Finish g new)) w = absurd w

-- where a transaction runs again, or ends again, the value at which an agent's validator looks is there
judged_again : (a : PlainActor) (many : ℕ) (d : CellId) (o : Option Pending) → TakesAnswer a many o (reply.Retry d) → HasJudged a.role
judged_again a many d None w = absurd w
judged_again a many d (Some (Begin left from)) w = absurd w
judged_again a many d (Some (Read c)) w = w
judged_again a many d (Some (Ensure c es)) w = w
judged_again a many d (Some (Open c n kept)) w = w
judged_again a many d (Some (View phase)) w = absurd w
judged_again a many d (Some (Reset c v)) w = absurd w
judged_again a many d (Some (Send x n)) w = absurd w
judged_again a many d (Some (Swap c n from)) w = absurd w
judged_again a many d (Some (Close c p v)) w = absurd w
judged_again a many d (Some Commit) w = w
judged_again a many d (Some (Hold xs)) w = w
judged_again a many d (Some (Fail f)) w = absurd w
judged_again a many d (Some (Broke c p f)) w = absurd w
judged_again a many d (Some (Take g)) w = absurd w
judged_again a many d (Some (Finish g new)) w = absurd w

judged_changed : (a : PlainActor) (many : ℕ) (d : CellId) (o : Option Pending) → TakesAnswer a many o (reply.Changed d) → HasJudged a.role
judged_changed a many d None w = absurd w
judged_changed a many d (Some (Begin left from)) w = absurd w
judged_changed a many d (Some (Read c)) w = absurd w
judged_changed a many d (Some (Ensure c es)) w = absurd w
judged_changed a many d (Some (Open c n kept)) w = absurd w
judged_changed a many d (Some (View phase)) w = absurd w
judged_changed a many d (Some (Reset c v)) w = absurd w
judged_changed a many d (Some (Send x n)) w = absurd w
judged_changed a many d (Some (Swap c n from)) w = absurd w
judged_changed a many d (Some (Close c p v)) w = w
judged_changed a many d (Some Commit) w = w
judged_changed a many d (Some (Hold xs)) w = w
judged_changed a many d (Some (Fail f)) w = absurd w
judged_changed a many d (Some (Broke c p f)) w = absurd w
judged_changed a many d (Some (Take g)) w = absurd w
judged_changed a many d (Some (Finish g new)) w = absurd w

pub run_again-requires : goal.run_again-requires
run_again-requires c =
    let a = c.args.self.now in
    let many = length c.args.instrs.now in
    judged_again a many c.in-Retry.field-0 a.pending (subst (λ (r : Reply). TakesAnswer a many a.pending r) c.in-Retry.is c.requires.takes)

pub end_again-requires : goal.end_again-requires
end_again-requires c =
    let a = c.args.self.now in
    let many = length c.args.instrs.now in
    judged_changed a many c.in-Changed.field-0 a.pending (subst (λ (r : Reply). TakesAnswer a many a.pending r) c.in-Changed.is c.requires.takes)

pub returns-in-Full : goal.returns-in-Full
returns-in-Full c =
    let a = c.args.self.now in
    let many = length c.args.instrs.now in
    let w = subst (λ (r : Reply). TakesAnswer a many a.pending r) c.in-Full.is c.requires.takes in
    c.stop.ensures ∙ full a many a.pending w ∙ ap (answered a) (sym c.in-Full.is)

pub returns-in-Memory : goal.returns-in-Memory
returns-in-Memory c =
    let a = c.args.self.now in
    let many = length c.args.instrs.now in
    let w = subst (λ (r : Reply). TakesAnswer a many a.pending r) c.in-Memory.is c.requires.takes in
    c.stop-in-Memory.ensures ∙ memory a many a.pending w ∙ ap (answered a) (sym c.in-Memory.is)

pub returns-in-Retry : goal.returns-in-Retry
returns-in-Retry c =
    let a = c.args.self.now in
    let many = length c.args.instrs.now in
    let w = subst (λ (r : Reply). TakesAnswer a many a.pending r) c.in-Retry.is c.requires.takes in
    c.run_again.ensures ∙ again a many c.in-Retry.field-0 a.pending w ∙ ap (answered a) (sym c.in-Retry.is)

pub returns-in-Changed : goal.returns-in-Changed
returns-in-Changed c = search rules

pub returns-in-Views : goal.returns-in-Views
returns-in-Views c = c.take_views.ensures ∙ ap (answered c.args.self.now) (sym c.in-Views.is)

pub returns-in-Action : goal.returns-in-Action
returns-in-Action c = c.take_action.ensures ∙ ap (answered c.args.self.now) (sym c.in-Action.is)

pub returns-in-Idle : goal.returns-in-Idle
returns-in-Idle c = c.take_none.ensures ∙ ap (answered c.args.self.now) (sym c.in-Idle.is)

pub returns-in-AgentIsFailed : goal.returns-in-AgentIsFailed
returns-in-AgentIsFailed c = c.take_refusal.ensures c.in-AgentIsFailed.field-0 ∙ ap (answered c.args.self.now) (sym c.in-AgentIsFailed.is)
