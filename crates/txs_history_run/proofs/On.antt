-- What a turn and an answer leave of what an actor has done on its entries.
use Rattle.std.proofs.Common.{false, ◌≡◌, ◌<◌, ℕ, zero, suc, List, [], ◌∷◌, ◌++◌, length, map, Option, Some, None, refl, sym, ap, subst, ◌∙◌, inl, inr}
use Rattle.txs_world_protocol.specs.declared.ask.Ask.{Ask}
use Rattle.txs_world_protocol.specs.declared.ask.Reply.{Reply}
use Rattle.txs_world_protocol.specs.declared.ask.Reply.TheVariants as reply
use Rattle.txs_world_protocol.specs.declared.event.Outcome.{Outcome}
use Rattle.txs_code_meaning.specs.Opening.{opening}
use Rattle.txs_code_meaning.specs.PlainCode.{PlainCode}
use Rattle.txs_code_meaning.specs.WellTyped.{WellTyped}
use Rattle.txs_machine_actor.specs.Laws.{ActorsRun}
use Rattle.txs_machine_actor.specs.PlainActor.{PlainActor, CanGoOn, AttendsOn, Lives, MayAnswer, Stops, answered, unanswered, asked_for, configuration_of, code_of, HasRun, HasCome}
use Rattle.txs_machine_transaction.specs.Asks.{applied_in}
use Rattle.txs_machine_transaction.specs.Transaction.{is_running}
use Rattle.txs_machine_actor.specs.Turns.{IsNew, Turns, GoesOnAfter, TurnsOf}
use Rattle.txs_machine_actor.specs.declared.outcome.Turn.{Turn}
use Rattle.txs_machine_actor.specs.declared.outcome.Turn.TheVariants as turned
use Rattle.txs_machine_transaction.specs.declared.state.Pending.{Pending}
use Rattle.txs_machine_actor.proofs.Saying.{turn_says}
use Rattle.txs_theorem_runs.specs.Lawful.{TypedStands}
use Rattle.txs_theorem_runs.specs.Standing.{StandingCode}
use Rattle.txs_theorem_runs.specs.Staged.{StagedCode, stage_of}
use Rattle.txs_theorem_runs.specs.Stages.{Stage, Idle, stage_after}
use Rattle.txs_theorem_runs.specs.Told.{Entry, exchange_of, AreStaged}
use Rattle.txs_theorem_runs.proofs.Known.{standing_staged}
use Rattle.txs_machine.specs.RunOver.{IsLimited, AskedOn}
use Rattle.txs_machine.proofs.Answered.{Leaves, answer_leaves, stop_ends, idle_number}
use Rattle.txs_machine.proofs.Limits.{new_limited, turn_limited, answered_limited}
use Rattle.txs_machine.proofs.RunOver.{as_is, as_known, turn_keeps, standing_of, stands_staged, turn_asked, no_entry, in_after, map_append, answer_asked, more_asked, idle_never}
use Rattle.txs_history_run.specs.Actor.{IsOn, IsThreadOn}
use Rattle.txs_history_run.proofs.Numbers.{turn_number, idle_same, idle_limited}

-- a new one has no entries
pub new_on : ActorsRun → TypedStands → (code : PlainCode) (function_rooms thread_rooms : List ℕ) (limit : ℕ) (a : PlainActor) → WellTyped code function_rooms thread_rooms → IsNew code a.number limit a → IsOn code [] a
new_on laws law code function_rooms thread_rooms limit a well n = record {
  ran = laws.begins code a.number limit a n;
  limited = new_limited a.limit a refl n.unended n.unused;
  thread = λ below. record {
    stands = standing_of law code function_rooms thread_rooms a.number well below;
    stage = Idle;
    staged = refl;
    here = as_is a Idle None None n.unended n.unasking (ap (stage_of false) n.opens);
    asked = λ before e rest s. absurd (no_entry before e rest s);
  };
}

-- a turn keeps what a thread's is
turn_thread : (code : PlainCode) (es : List Entry) (a b : PlainActor) (r : Turn) → unanswered a ≡ None → HasRun code (map exchange_of es) a → Turns code a r b → IsThreadOn code es a → IsThreadOn code es b
turn_thread code es a b r f ran t h =
    let known : StagedCode (code_of code a.number) = standing_staged false (code_of code a.number) h.stands in
    let staged = stands_staged code (map exchange_of es) a known f ran in
    let kept = turn_keeps code a b r h.stage a.outcome staged refl f t (as_known a h.stage a.outcome None refl f h.here) in
    record {
      stands = subst (λ n. StandingCode (code_of code n)) (sym kept.0) h.stands;
      stage = h.stage;
      staged = h.staged;
      here = kept.1;
      asked = λ before e rest s. subst (λ n. AskedOn (code_of code n) before b) (sym kept.0) (turn_asked code before a b r a.outcome t (h.asked before e rest s));
    }

-- and what each has done
pub turn_on : ActorsRun → (code : PlainCode) (es : List Entry) (a b : PlainActor) (r : Turn) → unanswered a ≡ None → Turns code a r b → IsOn code es a → (b.number ≡ a.number) × IsOn code es b
turn_on laws code es a b r f t h =
    let same : b.number ≡ a.number = turn_number code a b r a.outcome t in
    let limited : IsLimited a.limit b = turn_limited code a.limit a b r a.outcome t h.limited in (
      same,
      record {
        ran = laws.turns code (map exchange_of es) a b r f h.ran t;
        limited = subst (λ n. IsLimited n b) (sym limited.limited) limited;
        thread = λ below. turn_thread code es a b r f h.ran t (h.thread (subst (λ n. n < length code.threads) same below));
      },
    )

-- and so do up to so many
pub turns_on : ActorsRun → (code : PlainCode) (es : List Entry) (n : ℕ) (a b : PlainActor) (r : Turn) → unanswered a ≡ None → TurnsOf code n a r b → IsOn code es a → (b.number ≡ a.number) × IsOn code es b
turns_on laws code es zero a b r f t h = (ap (λ (x : PlainActor). x.number) t.1, subst (IsOn code es) (sym t.1) h)
turns_on laws code es (suc n) a b r f t h = go (λ c g x y. turns_on laws code es n c b r g x y) t.0 t.1 t.2 t.3
  where
    go : ((c : PlainActor) → unanswered c ≡ None → TurnsOf code n c r b → IsOn code es c → (b.number ≡ c.number) × IsOn code es b)
        → (s : Turn) (c : PlainActor) → Turns code a s c → GoesOnAfter s (TurnsOf code n c r b) ((r ≡ s) × (b ≡ c)) → (b.number ≡ a.number) × IsOn code es b
    go more turned.Went c u g =
        let one = turn_on laws code es a c turned.Went f u h in
        let all = more c (turn_says code a c turned.Went a.outcome refl u) g one.1 in
        (all.0 ∙ one.0, all.1)
    go more (turned.Asks q) c u g =
        let one = turn_on laws code es a c (turned.Asks q) f u h in
        (ap (λ (x : PlainActor). x.number) g.1 ∙ one.0, subst (IsOn code es) (sym g.1) one.1)
    go more (turned.Ended e) c u g =
        let one = turn_on laws code es a c (turned.Ended e) f u h in
        (ap (λ (x : PlainActor). x.number) g.1 ∙ one.0, subst (IsOn code es) (sym g.1) one.1)

staged_append : (st mid end : Stage) (es fs : List Entry) → AreStaged false st es mid → AreStaged false mid fs end → AreStaged false st (es ++ fs) end
staged_append st mid end [] fs e h = subst (λ i. AreStaged false i fs end) (sym e) h
staged_append st mid end (x ∷ es) fs g h = (g.0, staged_append (stage_after st x.ask x.reply) mid end es fs g.1 h)

-- so does a reply that a thread's actor goes on with, and its entry
heard_thread : (code : PlainCode) (es : List Entry) (a : PlainActor) (q : Ask) (r : Reply) (at : ℕ) → a.outcome ≡ None → unanswered a ≡ Some q → unanswered (answered a r) ≡ None → MayAnswer q r → (Stops r → ⊥) → (r ≡ reply.Idle → ⊥) → HasRun code (map exchange_of es) a → IsThreadOn code es a
    → IsThreadOn code (es ++ record { ask = q; reply = r; at = at } ∷ []) (answered a r)
heard_thread code es a q r at e f free may on unless ran h =
    let known = as_known a h.stage None (Some q) e f h.here in
    let leaves = answer_leaves a q r f may unless in
    let own : Entry = record { ask = q; reply = r; at = at } in
    record {
      stands = subst (λ n. StandingCode (code_of code n)) (sym leaves.number) h.stands;
      stage = stage_after h.stage q r;
      staged = staged_append Idle h.stage (stage_after h.stage q r) es (own ∷ []) h.staged (known.0, refl);
      here = as_is (answered a r) (stage_after h.stage q r) (answered a r).outcome None refl free (in_after (answered a r) (stage_after h.stage q r) (answered a r).outcome (known.1 r may on));
      asked = λ before x rest s. subst (λ n. AskedOn (code_of code n) before (answered a r)) (sym leaves.number)
          (more_asked (code_of code a.number) es own a q r leaves
          (subst (λ x. HasCome (code_of code a.number) (map exchange_of es) a x (Some q)) e (subst (λ y. HasCome (code_of code a.number) (map exchange_of es) a a.outcome y) f ran)) h.asked before x rest s);
    }

-- and of each
pub heard_on : ActorsRun → (code : PlainCode) (es : List Entry) (a : PlainActor) (q : Ask) (r : Reply) (at : ℕ) → a.outcome ≡ None → unanswered a ≡ Some q → unanswered (answered a r) ≡ None → MayAnswer q r → (Stops r → ⊥) → (r ≡ reply.Idle → ⊥) → IsOn code es a
    → IsOn code (es ++ record { ask = q; reply = r; at = at } ∷ []) (answered a r)
heard_on laws code es a q r at e f free may on unless h =
    let leaves = answer_leaves a q r f may unless in
    let own : Entry = record { ask = q; reply = r; at = at } in
    let limited = answered_limited a.limit a r e leaves h.limited in
    record {
      ran = subst (λ xs. HasRun code xs (answered a r)) (sym (map_append es own)) (laws.answers code (map exchange_of es) a q r e f may on unless h.ran);
      limited = subst (λ n. IsLimited n (answered a r)) (sym leaves.limit) limited;
      thread = λ below. heard_thread code es a q r at e f free may on unless h.ran (h.thread (subst (λ n. n < length code.threads) leaves.number below));
    }

-- one that stops a thread's
stopped_thread : (code : PlainCode) (es : List Entry) (a : PlainActor) (q : Ask) (r : Reply) → unanswered a ≡ Some q → MayAnswer q r → Stops r → IsThreadOn code es a → IsThreadOn code es (answered a r)
stopped_thread code es a q r f may stop h =
    let ends = stop_ends a q r f stop in
    let leaves = answer_leaves a q r f may (λ i. subst Stops i stop) in
    record {
      stands = subst (λ n. StandingCode (code_of code n)) (sym leaves.number) h.stands;
      stage = h.stage;
      staged = h.staged;
      here = as_is (answered a r) h.stage (Some ends.0) (unanswered (answered a r)) ends.1 refl tt;
      asked = λ before x rest s. subst (λ n. AskedOn (code_of code n) before (answered a r)) (sym leaves.number) (answer_asked (code_of code a.number) before a r leaves (h.asked before x rest s));
    }

-- and each
pub stopped_on : ActorsRun → (code : PlainCode) (es : List Entry) (a : PlainActor) (q : Ask) (r : Reply) → a.outcome ≡ None → unanswered a ≡ Some q → MayAnswer q r → Stops r → IsOn code es a → IsOn code es (answered a r)
stopped_on laws code es a q r e f may stop h =
    let leaves = answer_leaves a q r f may (λ i. subst Stops i stop) in
    let limited = answered_limited a.limit a r e leaves h.limited in
    record {
      ran = laws.stops code (map exchange_of es) a q r e f may stop h.ran;
      limited = subst (λ n. IsLimited n (answered a r)) (sym leaves.limit) limited;
      thread = λ below. stopped_thread code es a q r f may stop (h.thread (subst (λ n. n < length code.threads) leaves.number below));
    }

-- an agent without an action is where it was; no thread asks for one
pub idle_on : ActorsRun → (code : PlainCode) (es : List Entry) (a : PlainActor) (q : Ask) → a.outcome ≡ None → unanswered a ≡ Some q → MayAnswer q reply.Idle → IsOn code es a → IsOn code es (answered a reply.Idle)
idle_on laws code es a q e f may h = record {
  ran = laws.idles code (map exchange_of es) a q e f may h.ran;
  limited = idle_limited a e h.limited;
  thread = λ below. (let t = h.thread (subst (λ n. n < length code.threads) (idle_number a) below) in absurd (idle_never t.stage q (as_known a t.stage None (Some q) e f t.here).0 may));
}

-- an actor of the same limit and number
abbrev pub IsSameActor : PlainActor → PlainActor → Type 0
IsSameActor a b = (b.limit ≡ a.limit) × (b.number ≡ a.number)

same_actor : (a b : PlainActor) → Leaves a b → IsSameActor a b
same_actor a b k = (k.limit, k.number)

-- a reply leaves an actor its limit and its number
pub answer_same : (a : PlainActor) (q : Ask) (r : Reply) → unanswered a ≡ Some q → MayAnswer q r → IsSameActor a (answered a r)
answer_same a q reply.Idle f may = idle_same a
answer_same a q (reply.At p) f may = same_actor a (answered a (reply.At p)) (answer_leaves a q (reply.At p) f may (λ i. cc))
answer_same a q (reply.Is v) f may = same_actor a (answered a (reply.Is v)) (answer_leaves a q (reply.Is v) f may (λ i. cc))
answer_same a q (reply.Views p vs) f may = same_actor a (answered a (reply.Views p vs)) (answer_leaves a q (reply.Views p vs) f may (λ i. cc))
answer_same a q reply.Done f may = same_actor a (answered a reply.Done) (answer_leaves a q reply.Done f may (λ i. cc))
answer_same a q (reply.Retry c) f may = same_actor a (answered a (reply.Retry c)) (answer_leaves a q (reply.Retry c) f may (λ i. cc))
answer_same a q (reply.Changed c) f may = same_actor a (answered a (reply.Changed c)) (answer_leaves a q (reply.Changed c) f may (λ i. cc))
answer_same a q (reply.AgentIsFailed g) f may = same_actor a (answered a (reply.AgentIsFailed g)) (answer_leaves a q (reply.AgentIsFailed g) f may (λ i. cc))
answer_same a q (reply.Action n x v) f may = same_actor a (answered a (reply.Action n x v)) (answer_leaves a q (reply.Action n x v) f may (λ i. cc))
answer_same a q (reply.Opened p v) f may = same_actor a (answered a (reply.Opened p v)) (answer_leaves a q (reply.Opened p v) f may (λ i. cc))
answer_same a q reply.Full f may = same_actor a (answered a reply.Full) (answer_leaves a q reply.Full f may (λ i. cc))
answer_same a q reply.Memory f may = same_actor a (answered a reply.Memory) (answer_leaves a q reply.Memory f may (λ i. cc))

-- an actor that has ended asks nothing
pub ended_free : (code : PlainCode) (a : PlainActor) (o : Outcome) → Lives code a → a.outcome ≡ Some o → unanswered a ≡ None
ended_free code a o (inl h) e = go a.pending (subst (λ x. CanGoOn code h.kinds h.body a x a.pending) e h.goes)
  where
    go : (p : Option Pending) → CanGoOn code h.kinds h.body a (Some o) p → asked_for p (is_running a.tx) a.at a.view (applied_in a.tx) a.done ≡ None
    go None x = refl
    go (Some p) x = absurd x
ended_free code a o (inr h) e = go a.pending (subst (λ x. AttendsOn code h.agent a x a.pending) e h.attends)
  where
    go : (p : Option Pending) → AttendsOn code h.agent a (Some o) p → asked_for p (is_running a.tx) a.at a.view (applied_in a.tx) a.done ≡ None
    go None x = refl
    go (Some p) x = absurd x

-- a new actor is the one of its own number
pub renewed : (code : PlainCode) (k limit : ℕ) (a : PlainActor) → IsNew code k limit a → IsNew code a.number limit a
renewed code k limit a n = record {
  number = refl;
  opens = subst (λ i. configuration_of a ≡ opening (code_of code i) []) (sym n.number) n.opens;
  unended = n.unended;
  unasking = n.unasking;
  unused = n.unused;
  limited = n.limited;
}
