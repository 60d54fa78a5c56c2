-- How many steps an actor makes.
use Rattle.std.proofs.Common.{◌≡◌, ℕ, zero, suc, ◌+◌, ◌-◌, ◌<◌, ◌≤◌, Bool, true, false, nat_lt, Option, Some, None, refl, sym, ap, subst, ◌∙◌, arith}
use Rattle.std.proofs.lemmas.Bool.{ltb-false, ltb-true}
use Rattle.txs_world_protocol.specs.declared.ask.Reply.{Reply}
use Rattle.txs_world_protocol.specs.declared.event.Outcome.{Outcome}
use Rattle.txs_world_protocol.specs.declared.event.Outcome.TheVariants as outcome
use Rattle.txs_code_meaning.specs.PlainCode.{PlainCode}
use Rattle.txs_machine_actor.specs.PlainActor.{PlainActor, answered, unanswered}
use Rattle.txs_machine_actor.specs.Turns.{Answers, Moves, TurnsFrom, Turns, GoesOnAfter, TurnsOf}
use Rattle.txs_machine_actor.specs.declared.outcome.Turn.{Turn}
use Rattle.txs_machine_actor.specs.declared.outcome.Turn.TheVariants as turned
use Rattle.txs_machine.specs.RunOver.{IsLimited}
use Rattle.txs_machine.proofs.Answered.{Differs, Leaves}

limited_as : (limit : ℕ) (a b : PlainActor) → b.limit ≡ a.limit → Differs b.outcome → b.steps ≤ limit → IsLimited limit a → IsLimited limit b
limited_as limit a b e d n h = record { limited = e ∙ h.limited; within = n; spent = λ s. absurd (subst Differs s d) }

-- ---- turns

-- one step more is within the limit
one_more : (limit : ℕ) (a b : PlainActor) → nat_lt a.steps a.limit ≡ true → b.steps ≡ a.steps + 1 → IsLimited limit a → b.steps ≤ limit
one_more limit a b e s h = omega (arith, ltb-true a.steps a.limit e, s, h.limited)

step_limited : (code : PlainCode) (limit : ℕ) (a b : PlainActor) (r : Turn) → nat_lt a.steps a.limit ≡ true → Answers code a r b → IsLimited limit a → IsLimited limit b
step_limited code limit a b turned.Went e t h = limited_as limit a b t.1.limited (subst Differs (sym t.1.outcome) tt) (one_more limit a b e t.1.counted h) h
step_limited code limit a b (turned.Asks q) e t h = limited_as limit a b t.1.limited (subst Differs (sym t.1.outcome) tt) (one_more limit a b e t.1.counted h) h
step_limited code limit a b (turned.Ended outcome.Done) e t h = limited_as limit a b t.1.limited (subst Differs (sym t.1.outcome) tt) (one_more limit a b e t.1.counted h) h
step_limited code limit a b (turned.Ended (outcome.Failed f)) e t h = limited_as limit a b t.1.limited (subst Differs (sym t.1.outcome) tt) (one_more limit a b e t.1.counted h) h
step_limited code limit a b (turned.Ended outcome.StepsSpent) e t h = absurd t
step_limited code limit a b (turned.Ended outcome.JournalFull) e t h = absurd t
step_limited code limit a b (turned.Ended outcome.Memory) e t h = limited_as limit a b t.1.limited (subst Differs (sym t.1.outcome) tt) (one_more limit a b e t.1.counted h) h

spent_at : (limit steps most : ℕ) → nat_lt steps most ≡ false → most ≡ limit → limit ≤ steps
spent_at limit steps most e f = subst (λ n. n ≤ steps) f (ltb-false steps most e)

move_limited : (code : PlainCode) (limit : ℕ) (a b : PlainActor) (r : Turn) (may : Bool) → nat_lt a.steps a.limit ≡ may → Moves code a may r b → IsLimited limit a → IsLimited limit b
move_limited code limit a b r true e t h = step_limited code limit a b r e t h
move_limited code limit a b r false e t h =
    subst (IsLimited limit) (sym t.1) (record { limited = h.limited; within = h.within; spent = λ s. spent_at limit a.steps a.limit e h.limited })

pub turn_limited : (code : PlainCode) (limit : ℕ) (a b : PlainActor) (r : Turn) (o : Option Outcome) → TurnsFrom code a o r b → IsLimited limit a → IsLimited limit b
turn_limited code limit a b r None t h = move_limited code limit a b r (nat_lt a.steps a.limit) refl t h
turn_limited code limit a b r (Some o) t h = subst (IsLimited limit) (sym t.1) h

-- so many turns keep to the limit
pub turns_limited : (code : PlainCode) (limit n : ℕ) (a b : PlainActor) (r : Turn) → TurnsOf code n a r b → IsLimited limit a → IsLimited limit b
turns_limited code limit zero a b r t h = subst (IsLimited limit) (sym t.1) h
turns_limited code limit (suc n) a b r t h = after_turn (λ g x. turns_limited code limit n t.1 b r g x) t.0 t.2 t.3
  where
    after_turn : (TurnsOf code n t.1 r b → IsLimited limit t.1 → IsLimited limit b)
        → (s : Turn) → Turns code a s t.1 → GoesOnAfter s (TurnsOf code n t.1 r b) ((r ≡ s) × (b ≡ t.1)) → IsLimited limit b
    after_turn go turned.Went u g = go g (turn_limited code limit a t.1 turned.Went a.outcome u h)
    after_turn go (turned.Asks q) u g = subst (IsLimited limit) (sym g.1) (turn_limited code limit a t.1 (turned.Asks q) a.outcome u h)
    after_turn go (turned.Ended o) u g = subst (IsLimited limit) (sym g.1) (turn_limited code limit a t.1 (turned.Ended o) a.outcome u h)

-- ---- answers

-- an answer makes no step
pub answered_limited : (limit : ℕ) (a : PlainActor) (r : Reply) → a.outcome ≡ None → Leaves a (answered a r) → IsLimited limit a → IsLimited limit (answered a r)
answered_limited limit a r e leaves h = limited_as limit a (answered a r) leaves.limit (leaves.unspent e) (subst (λ n. n ≤ limit) (sym leaves.steps) h.within) h

-- ---- the beginning

pub new_limited : (limit : ℕ) (a : PlainActor) → a.limit ≡ limit → a.outcome ≡ None → a.steps ≡ 0 → IsLimited limit a
new_limited limit a e o n = record { limited = e; within = omega (arith, n); spent = λ s. absurd (subst Differs (sym o ∙ s) tt) }

-- what keeps to a limit keeps to its own
pub self_limited : (limit : ℕ) (a : PlainActor) → IsLimited limit a → IsLimited a.limit a
self_limited limit a h = subst (λ n. IsLimited n a) (sym h.limited) h

-- ---- progress

-- a turn that goes on, or asks, is one step more
abbrev GoesOn : Turn → Type 0
GoesOn turned.Went = Unit {0}
GoesOn (turned.Asks q) = Unit {0}
GoesOn (turned.Ended o) = ⊥

move_steps : (code : PlainCode) (a b : PlainActor) (r : Turn) (may : Bool) → Moves code a may r b → a.steps ≤ b.steps
move_steps code a b turned.Went true t = omega (arith, t.1.counted)
move_steps code a b (turned.Asks q) true t = omega (arith, t.1.counted)
move_steps code a b (turned.Ended outcome.Done) true t = omega (arith, t.1.counted)
move_steps code a b (turned.Ended (outcome.Failed f)) true t = omega (arith, t.1.counted)
move_steps code a b (turned.Ended outcome.StepsSpent) true t = absurd t
move_steps code a b (turned.Ended outcome.JournalFull) true t = absurd t
move_steps code a b (turned.Ended outcome.Memory) true t = omega (arith, t.1.counted)
move_steps code a b r false t = subst (λ (x : PlainActor). a.steps ≤ x.steps) (sym t.1) (omega arith)

move_counts : (code : PlainCode) (a b : PlainActor) (r : Turn) (may : Bool) → GoesOn r → Moves code a may r b → a.steps < b.steps
move_counts code a b turned.Went true g t = omega (arith, t.1.counted)
move_counts code a b (turned.Asks q) true g t = omega (arith, t.1.counted)
move_counts code a b (turned.Ended o) true g t = absurd g
move_counts code a b r false g t = absurd (subst GoesOn t.0 g)

turn_steps : (code : PlainCode) (a b : PlainActor) (r : Turn) (o : Option Outcome) → TurnsFrom code a o r b → a.steps ≤ b.steps
turn_steps code a b r None t = move_steps code a b r (nat_lt a.steps a.limit) t
turn_steps code a b r (Some o) t = subst (λ (x : PlainActor). a.steps ≤ x.steps) (sym t.1) (omega arith)

turn_counts : (code : PlainCode) (a b : PlainActor) (r : Turn) (o : Option Outcome) → GoesOn r → TurnsFrom code a o r b → a.steps < b.steps
turn_counts code a b r None g t = move_counts code a b r (nat_lt a.steps a.limit) g t
turn_counts code a b r (Some o) g t = absurd (subst GoesOn t.0 g)

turns_steps : (code : PlainCode) (n : ℕ) (a b : PlainActor) (r : Turn) → TurnsOf code n a r b → a.steps ≤ b.steps
turns_steps code zero a b r t = subst (λ (x : PlainActor). a.steps ≤ x.steps) (sym t.1) (omega arith)
turns_steps code (suc n) a b r t = after_turn (λ g. turns_steps code n t.1 b r g) t.0 t.2 t.3
  where
    after_turn : (TurnsOf code n t.1 r b → t.1.steps ≤ b.steps) → (s : Turn) → Turns code a s t.1 → GoesOnAfter s (TurnsOf code n t.1 r b) ((r ≡ s) × (b ≡ t.1)) → a.steps ≤ b.steps
    after_turn go turned.Went u g = omega (arith, turn_steps code a t.1 turned.Went a.outcome u, go g)
    after_turn go (turned.Asks q) u g = subst (λ (x : PlainActor). a.steps ≤ x.steps) (sym g.1) (turn_steps code a t.1 (turned.Asks q) a.outcome u)
    after_turn go (turned.Ended o) u g = subst (λ (x : PlainActor). a.steps ≤ x.steps) (sym g.1) (turn_steps code a t.1 (turned.Ended o) a.outcome u)

-- some turns of which none ends make a step
pub turns_count : (code : PlainCode) (n : ℕ) (a b : PlainActor) (r : Turn) → 0 < n → GoesOn r → TurnsOf code n a r b → a.steps < b.steps
turns_count code zero a b r some goes t = absurd (omega (arith, some))
turns_count code (suc n) a b r some goes t = after_turn t.0 t.2 t.3
  where
    after_turn : (s : Turn) → Turns code a s t.1 → GoesOnAfter s (TurnsOf code n t.1 r b) ((r ≡ s) × (b ≡ t.1)) → a.steps < b.steps
    after_turn turned.Went u g = omega (arith, turn_counts code a t.1 turned.Went a.outcome tt u, turns_steps code n t.1 b r g)
    after_turn (turned.Asks q) u g = subst (λ (x : PlainActor). a.steps < x.steps) (sym g.1) (turn_counts code a t.1 (turned.Asks q) a.outcome tt u)
    after_turn (turned.Ended o) u g = absurd (subst GoesOn g.0 goes)

-- ---- numbers

step_number : (code : PlainCode) (a b : PlainActor) (r : Turn) → Answers code a r b → b.number ≡ a.number
step_number code a b turned.Went t = t.1.number
step_number code a b (turned.Asks q) t = t.1.number
step_number code a b (turned.Ended outcome.Done) t = t.1.number
step_number code a b (turned.Ended (outcome.Failed f)) t = t.1.number
step_number code a b (turned.Ended outcome.StepsSpent) t = absurd t
step_number code a b (turned.Ended outcome.JournalFull) t = absurd t
step_number code a b (turned.Ended outcome.Memory) t = t.1.number

move_number : (code : PlainCode) (a b : PlainActor) (r : Turn) (may : Bool) → Moves code a may r b → b.number ≡ a.number
move_number code a b r true t = step_number code a b r t
move_number code a b r false t = ap (λ (x : PlainActor). x.number) t.1

turn_number : (code : PlainCode) (a b : PlainActor) (r : Turn) (o : Option Outcome) → TurnsFrom code a o r b → b.number ≡ a.number
turn_number code a b r None t = move_number code a b r (nat_lt a.steps a.limit) t
turn_number code a b r (Some o) t = ap (λ (x : PlainActor). x.number) t.1

-- turns leave an actor's number
pub turns_number : (code : PlainCode) (n : ℕ) (a b : PlainActor) (r : Turn) → TurnsOf code n a r b → b.number ≡ a.number
turns_number code zero a b r t = ap (λ (x : PlainActor). x.number) t.1
turns_number code (suc n) a b r t = after_turn (λ g. turns_number code n t.1 b r g) t.0 t.2 t.3
  where
    after_turn : (TurnsOf code n t.1 r b → b.number ≡ t.1.number) → (s : Turn) → Turns code a s t.1 → GoesOnAfter s (TurnsOf code n t.1 r b) ((r ≡ s) × (b ≡ t.1)) → b.number ≡ a.number
    after_turn go turned.Went u g = go g ∙ turn_number code a t.1 turned.Went a.outcome u
    after_turn go (turned.Asks q) u g = ap (λ (x : PlainActor). x.number) g.1 ∙ turn_number code a t.1 (turned.Asks q) a.outcome u
    after_turn go (turned.Ended o) u g = ap (λ (x : PlainActor). x.number) g.1 ∙ turn_number code a t.1 (turned.Ended o) a.outcome u

-- how many rounds there may still be: none after the end
abbrev pub rounds_left : Option Outcome → PlainActor → ℕ
rounds_left None a = suc (a.limit - a.steps)
rounds_left (Some o) a = 0

-- ---- after the end

-- an answer that isn't an ask
abbrev pub NoAsk : Turn → Type 0
NoAsk turned.Went = Unit {0}
NoAsk (turned.Asks q) = ⊥
NoAsk (turned.Ended o) = Unit {0}

step_free : (code : PlainCode) (a b : PlainActor) (r : Turn) → NoAsk r → Answers code a r b → unanswered b ≡ None
step_free code a b turned.Went n t = t.1.unanswered
step_free code a b (turned.Asks q) n t = absurd n
step_free code a b (turned.Ended outcome.Done) n t = t.1.unanswered
step_free code a b (turned.Ended (outcome.Failed f)) n t = t.1.unanswered
step_free code a b (turned.Ended outcome.StepsSpent) n t = absurd t
step_free code a b (turned.Ended outcome.JournalFull) n t = absurd t
step_free code a b (turned.Ended outcome.Memory) n t = t.1.unanswered

move_free : (code : PlainCode) (a b : PlainActor) (r : Turn) (may : Bool) → NoAsk r → unanswered a ≡ None → Moves code a may r b → unanswered b ≡ None
move_free code a b r true n f t = step_free code a b r n t
move_free code a b r false n f t = subst (λ (x : PlainActor). unanswered x ≡ None) (sym t.1) f

turn_free : (code : PlainCode) (a b : PlainActor) (r : Turn) (o : Option Outcome) → NoAsk r → unanswered a ≡ None → TurnsFrom code a o r b → unanswered b ≡ None
turn_free code a b r None n f t = move_free code a b r (nat_lt a.steps a.limit) n f t
turn_free code a b r (Some o) n f t = subst (λ (x : PlainActor). unanswered x ≡ None) (sym t.1) f

-- after turns of which the last asks nothing, nothing is asked
pub turns_free : (code : PlainCode) (n : ℕ) (a b : PlainActor) (r : Turn) → NoAsk r → unanswered a ≡ None → TurnsOf code n a r b → unanswered b ≡ None
turns_free code zero a b r no_ask f t = subst (λ (x : PlainActor). unanswered x ≡ None) (sym t.1) f
turns_free code (suc n) a b r no_ask f t = after_turn (λ e g. turns_free code n t.1 b r no_ask e g) t.0 t.2 t.3
  where
    after_turn : (unanswered t.1 ≡ None → TurnsOf code n t.1 r b → unanswered b ≡ None) → (s : Turn) → Turns code a s t.1 → GoesOnAfter s (TurnsOf code n t.1 r b) ((r ≡ s) × (b ≡ t.1)) → unanswered b ≡ None
    after_turn go turned.Went u g = go (turn_free code a t.1 turned.Went a.outcome tt f u) g
    after_turn go (turned.Asks q) u g = absurd (subst NoAsk g.0 no_ask)
    after_turn go (turned.Ended o) u g = subst (λ (x : PlainActor). unanswered x ≡ None) (sym g.1) (turn_free code a t.1 (turned.Ended o) a.outcome tt f u)
