-- What a turn and an answer leave of an actor's number, and of how many steps it may make.
use Rattle.std.proofs.Common.{◌≡◌, ◌≤◌, ℕ, zero, suc, Bool, true, false, nat_lt, Option, Some, None, refl, sym, ap, subst, ◌∙◌, arith}
use Rattle.txs_world_protocol.specs.declared.ask.Reply.TheVariants as reply
use Rattle.txs_world_protocol.specs.declared.event.Outcome.{Outcome}
use Rattle.txs_world_protocol.specs.declared.event.Outcome.TheVariants as outcome
use Rattle.txs_code_meaning.specs.PlainCode.{PlainCode}
use Rattle.txs_machine_actor.specs.PlainActor.{PlainActor, answered, answered_for, answered_if}
use Rattle.txs_machine_actor.specs.Turns.{Answers, GoesOnAfter, Moves, Turns, TurnsFrom, TurnsOf}
use Rattle.txs_machine_actor.specs.declared.outcome.Turn.{Turn}
use Rattle.txs_machine_actor.specs.declared.outcome.Turn.TheVariants as turned
use Rattle.txs_machine_transaction.specs.declared.state.Pending.{Pending}
use Rattle.txs_machine_transaction.specs.declared.state.Pending.TheVariants.{Begin, Read, Ensure, Open, View, Reset, Send, Swap, Close, Commit, Hold, Fail, Broke, Take, Finish}
use Rattle.txs_machine.specs.RunOver.{IsLimited}
use Rattle.txs_machine.proofs.Answered.{idle_outcome}

step_number : (code : PlainCode) (a b : PlainActor) (r : Turn) → Answers code a r b → b.number ≡ a.number
step_number code a b turned.Went u = u.1.number
step_number code a b (turned.Asks q) u = u.1.number
step_number code a b (turned.Ended outcome.Done) u = u.1.number
step_number code a b (turned.Ended (outcome.Failed f)) u = u.1.number
step_number code a b (turned.Ended outcome.StepsSpent) u = absurd u
step_number code a b (turned.Ended outcome.JournalFull) u = absurd u
step_number code a b (turned.Ended outcome.Memory) u = u.1.number

move_number : (code : PlainCode) (a b : PlainActor) (r : Turn) (may : Bool) → Moves code a may r b → b.number ≡ a.number
move_number code a b r true u = step_number code a b r u
move_number code a b r false u = ap (λ (x : PlainActor). x.number) u.1

-- a turn leaves whose actor it is
pub turn_number : (code : PlainCode) (a b : PlainActor) (r : Turn) (o : Option Outcome) → TurnsFrom code a o r b → b.number ≡ a.number
turn_number code a b r None u = move_number code a b r (nat_lt a.steps a.limit) u
turn_number code a b r (Some o) u = ap (λ (x : PlainActor). x.number) u.1

-- so do many turns
pub turns_number : (code : PlainCode) (n : ℕ) (a b : PlainActor) (r : Turn) → TurnsOf code n a r b → b.number ≡ a.number
turns_number code zero a b r t = ap (λ (x : PlainActor). x.number) t.1
turns_number code (suc n) a b r t = after_turn (λ g. turns_number code n t.1 b r g) t.0 t.2 t.3
  where
    after_turn : (TurnsOf code n t.1 r b → b.number ≡ t.1.number) → (s : Turn) → Turns code a s t.1 → GoesOnAfter s (TurnsOf code n t.1 r b) ((r ≡ s) × (b ≡ t.1)) → b.number ≡ a.number
    after_turn go turned.Went u g = go g ∙ turn_number code a t.1 turned.Went a.outcome u
    after_turn go (turned.Asks q) u g = ap (λ (x : PlainActor). x.number) g.1 ∙ turn_number code a t.1 (turned.Asks q) a.outcome u
    after_turn go (turned.Ended o) u g = ap (λ (x : PlainActor). x.number) g.1 ∙ turn_number code a t.1 (turned.Ended o) a.outcome u

-- an actor of the same limit and number, with no more steps
abbrev NoMore : PlainActor → PlainActor → Type 0
NoMore a b = (b.limit ≡ a.limit) × (b.steps ≤ a.steps) × (b.number ≡ a.number)

idle_for : (a : PlainActor) (p : Pending) → NoMore a (answered_for a p reply.Idle)
idle_for a (Begin left from) = (refl, omega arith, refl)
idle_for a (Read c) = (refl, omega arith, refl)
idle_for a (Ensure c es) = (refl, omega arith, refl)
idle_for a (Open c n kept) = (refl, omega arith, refl)
idle_for a (View phase) = (refl, omega arith, refl)
idle_for a (Reset c v) = (refl, omega arith, refl)
idle_for a (Send x n) = (refl, omega arith, refl)
idle_for a (Swap c n from) = (refl, omega arith, refl)
idle_for a (Close c p v) = (refl, omega arith, refl)
idle_for a Commit = (refl, omega arith, refl)
idle_for a (Hold xs) = (refl, omega arith, refl)
idle_for a (Fail f) = (refl, omega arith, refl)
idle_for a (Broke c p f) = (refl, omega arith, refl)
idle_for a (Take g) = (refl, omega arith, refl)
idle_for a (Finish g new) = (refl, omega arith, refl)

abbrev IsGoing : Option Outcome → Type 0
IsGoing None = Unit {0}
IsGoing (Some o) = ⊥

-- where there is no action for it, an agent has the limit that it had, and the number
pub idle_same : (a : PlainActor) → ((answered a reply.Idle).limit ≡ a.limit) × ((answered a reply.Idle).number ≡ a.number)
idle_same a = go a.pending
  where
    go : (o : Option Pending) → ((answered_if a o reply.Idle).limit ≡ a.limit) × ((answered_if a o reply.Idle).number ≡ a.number)
    go None = (refl, refl)
    go (Some p) = let h = idle_for a p in (h.0, h.2)

-- and keeps to it
pub idle_limited : (a : PlainActor) → a.outcome ≡ None → IsLimited a.limit a → IsLimited (answered a reply.Idle).limit (answered a reply.Idle)
idle_limited a e h = record {
  limited = refl;
  within = omega (arith, less.0, less.1, h.within);
  spent = λ s. absurd (subst IsGoing (sym e ∙ sym (idle_outcome a) ∙ s) tt);
}
  where
    less : NoMore a (answered a reply.Idle)
    less = go a.pending
      where
        go : (o : Option Pending) → NoMore a (answered_if a o reply.Idle)
        go None = (refl, omega arith, refl)
        go (Some p) = idle_for a p
