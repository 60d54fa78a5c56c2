-- An actor that takes the answer to its ask follows the history.
use Rattle.std.proofs.Common.{◌≡◌, ◌++◌, ◌∷◌, [], ℕ, suc, Bool, true, false, nat_lt, List, length, Option, None, refl, sym, ap, subst, ◌∙◌}
use Rattle.txs_world_protocol.specs.declared.ask.Ask.{Ask}
use Rattle.txs_world_protocol.specs.declared.ask.Reply.{Reply}
use Rattle.txs_world_protocol.specs.declared.ask.Reply.TheVariants as reply
use Rattle.txs_world_protocol.specs.declared.event.Event.{Event}
use Rattle.txs_world_protocol.specs.declared.event.Place.{Place}
use Rattle.txs_code_meaning.specs.PlainCode.{PlainCode}
use Rattle.txs_machine_actor.specs.Laws.{ActorsRun}
use Rattle.txs_machine_actor.specs.PlainActor.{PlainActor, Lives, MayAnswer, MayAnswerIf, answered, unanswered}
use Rattle.txs_history.specs.declared.log.Entry.TheVariants as entered
use Rattle.txs_theorem_runs.specs.Shared.{book_for, may_ask, serve_on}
use Rattle.txs_history.specs.Asked.{History, asked_by, shared_by}
use Rattle.txs_history.specs.Logged.{WasDone, WasServed, is_memory}
use Rattle.txs_history.specs.declared.serve.Served.{Served}
use Rattle.txs_machine.specs.declared.player.Player.{Player}
use Rattle.txs_machine.proofs.RunOver.{memory_may, serve_may}
use Rattle.txs_gate.specs.declared.gate.Made.{Made}
use Rattle.txs_machine_actor.specs.declared.outcome.Turn.{Turn}
use Rattle.txs_machine_actor.specs.declared.outcome.Turn.TheVariants as turned
use Rattle.txs_history_run.specs.Actor.{HasAsked, HasTaken, IsFollowing, IsLogged, IsReady, IsTaken, IsWaiting, made_with, noted, step_of}
use Rattle.txs_history_run.specs.Callees.{HandsOutSent}
use Rattle.txs_history_run.specs.declared.actor.AfterAsk.TheVariants as came
use Rattle.txs_history_run.specs.declared.actor.AfterReply.{AfterReply}
use Rattle.txs_history_run.specs.declared.actor.AfterReply.TheVariants as after
use Rattle.txs_history_run.proofs.Answering.{answer_follows, memory_follows, waits_longer}
use Rattle.txs_history_run.proofs.Kept.{ready_so}
use Rattle.txs_history_run.proofs.On.{IsSameActor, answer_same}

-- An actor's ask was served under the lock with this number, and the actor hasn't taken the answer yet.
record IsServed (code : PlainCode) (a : PlainActor) (lock : ℕ) (v : Served) (trace : List Place) (asks : ℕ) (h : History) : Type 0 where
  ask : Ask
  old : History
  made : ℕ
  waiting : IsWaiting code a ask trace made old
  served : WasServed code.cells (length code.threads) lock a.number ask old h v
  counted : asks ≡ made_with (is_memory v.reply) made

-- a reply that says there was no memory
memory_so : (r : Reply) → is_memory r ≡ true → r ≡ reply.Memory
memory_so (reply.At p) e = absurd (cc e)
memory_so (reply.Is v) e = absurd (cc e)
memory_so (reply.Views p vs) e = absurd (cc e)
memory_so reply.Done e = absurd (cc e)
memory_so (reply.Retry c) e = absurd (cc e)
memory_so (reply.Changed c) e = absurd (cc e)
memory_so (reply.AgentIsFailed g) e = absurd (cc e)
memory_so (reply.Action n x v) e = absurd (cc e)
memory_so reply.Idle e = absurd (cc e)
memory_so (reply.Opened p v) e = absurd (cc e)
memory_so reply.Full e = absurd (cc e)
memory_so reply.Memory e = refl

memory_not : (r : Reply) → is_memory r ≡ false → r ≡ reply.Memory → ⊥
memory_not r e f = go (sym (ap is_memory f) ∙ e)
  where
    go : true ≡ false → ⊥
    go g = absurd (cc g)

module _ (code : PlainCode) (a : PlainActor) (lock : ℕ) (v : Served) (tr : List Place) (m : ℕ) (h : History) (s : IsServed code a lock v tr m h) where
  abbrev q : Ask
  q = s.ask

  abbrev before : History
  before = s.served.before

  abbrev home : List Event
  home = (shared_by code.cells before).books lock

  -- what the reply may be
  replies : (b : Bool) → is_memory v.reply ≡ b → WasDone b code.cells lock a.number q s.old before h v → MayAnswer q v.reply
  replies true e d = subst (MayAnswer q) (sym (memory_so v.reply e)) (memory_may q (serve_on code.cells a.number q home).reply (serve_may code.cells a.number q home) d.2)
  replies false e d = subst (MayAnswer q) (sym d.0.reply) (serve_may code.cells a.number q home)

  may_take : MayAnswer q v.reply
  may_take = replies (is_memory v.reply) refl s.served.done

  module _ (laws : ActorsRun) (lives : Lives code (answered a v.reply)) (free : unanswered (answered a v.reply) ≡ None) where
    -- nothing was served
    undone : is_memory v.reply ≡ true → WasDone true code.cells lock a.number q s.old before h v → m ≡ s.made → IsFollowing code (answered a v.reply) (noted v.added lock v.at tr) m h
    undone e d n =
        let is = memory_so v.reply e in
        let f = memory_follows laws code a q tr s.made s.old s.waiting (subst (λ r. Lives code (answered a r)) is lives) (subst (λ r. unanswered (answered a r) ≡ None) is free) (subst (MayAnswer q) is may_take) in
        subst (λ i. IsFollowing code (answered a v.reply) (noted v.added lock v.at tr) i h) (sym n)
        (subst (λ b. IsFollowing code (answered a v.reply) (noted b lock v.at tr) s.made h) (sym d.0)
        (subst (λ g. IsFollowing code (answered a v.reply) tr s.made g) (sym d.1)
        (subst (λ r. IsFollowing code (answered a r) tr s.made s.old) (sym is) f)))

    -- the answer is that of the book there
    done : is_memory v.reply ≡ false → WasDone false code.cells lock a.number q s.old before h v → m ≡ suc s.made → IsFollowing code (answered a v.reply) (noted v.added lock v.at tr) m h
    done e d n =
        let own : lock ≡ book_for code.cells q = s.served.lock in
        let w = waits_longer code a q tr s.made s.old before s.served.past s.waiting in
        let there : (shared_by code.cells before).books lock ≡ (shared_by code.cells before).books (book_for code.cells q) = ap (shared_by code.cells before).books own in
        let lawful = subst (λ b. may_ask code.cells (length code.threads) (shared_by code.cells before).taken a.number q b ≡ true) there s.served.may in
        let f = answer_follows laws code a q tr s.made before w lock own lawful v.reply lives free may_take (memory_not v.reply e) (d.0.reply ∙ ap (λ b. (serve_on code.cells a.number q b).reply) there) in
        subst (λ i. IsFollowing code (answered a v.reply) (noted v.added lock v.at tr) i h) (sym n)
        (subst (λ g. IsFollowing code (answered a v.reply) (noted v.added lock v.at tr) (suc s.made) g) (sym d.1)
        (subst (λ b. IsFollowing code (answered a v.reply) (noted b lock v.at tr) (suc s.made) (before ++ entered.Event lock (asked_by a.number q) ∷ [])) (sym (d.0.added ∙ ap (λ b. nat_lt (length b) (length (serve_on code.cells a.number q b).book)) there))
        (subst (λ i. IsFollowing code (answered a v.reply) (noted (nat_lt (length (home_of there)) (length (serve_on code.cells a.number q (home_of there)).book)) lock i tr) (suc s.made) (before ++ entered.Event lock (asked_by a.number q) ∷ [])) (sym (d.0.at ∙ ap (λ (b : List Event). length b) there)) f)))
      where
        home_of : (shared_by code.cells before).books lock ≡ (shared_by code.cells before).books (book_for code.cells q) → List Event
        home_of t = (shared_by code.cells before).books (book_for code.cells q)

    case : (b : Bool) → is_memory v.reply ≡ b → WasDone b code.cells lock a.number q s.old before h v → m ≡ made_with b s.made → IsFollowing code (answered a v.reply) (noted v.added lock v.at tr) m h
    case true e d n = undone e d n
    case false e d n = done e d n

    -- an actor that takes its answer follows the history, with the place of the event that was added
    taken_follows : IsFollowing code (answered a v.reply) (noted v.added lock v.at tr) m h
    taken_follows = case (is_memory v.reply) refl s.served.done s.counted

-- ---- an actor that was ready to ask

module _ (code : PlainCode) (lock : ℕ) (q : Ask) (old : Player) (before : ℕ) (h g : History) (v : Served) (ready : IsReady code old q before h) (was : WasServed code.cells (length code.threads) lock old.actor.number q h g v) where
  -- it may take the answer
  pub asked_may : MayAnswerIf (unanswered old.actor) v.reply
  asked_may =
      subst (λ (o : Option Ask). MayAnswerIf o v.reply) (sym ready.waiting.waits)
      (may_take code old.actor lock v old.trace.items (made_with (is_memory v.reply) before) g (record { ask = q; old = h; made = before; waiting = ready.waiting; served = was; counted = refl }))

  module _ (new : Player) (m : ℕ) (t : HasTaken code lock v old new before m) where
    -- once it has, it follows the history
    pub asked_follows : ActorsRun → IsFollowing code new.actor new.trace.items m g
    asked_follows laws =
        let s : IsServed code old.actor lock v old.trace.items m g = record { ask = q; old = h; made = before; waiting = ready.waiting; served = was; counted = t.counted } in
        let f = taken_follows code old.actor lock v old.trace.items m g s laws (subst (Lives code) t.took t.lives) (subst (λ (b : PlainActor). unanswered b ≡ None) t.took t.free) in
        subst (λ (b : PlainActor). IsFollowing code b new.trace.items m g) (sym t.took) (subst (λ (tr : List Place). IsFollowing code (answered old.actor v.reply) tr m g) (sym t.traced) f)

    -- and is the same actor
    taken_same : IsSameActor old.actor new.actor
    taken_same =
        let s : IsServed code old.actor lock v old.trace.items m g = record { ask = q; old = h; made = before; waiting = ready.waiting; served = was; counted = t.counted } in
        subst (IsSameActor old.actor) (sym t.took) (answer_same old.actor q v.reply ready.waiting.waits (may_take code old.actor lock v old.trace.items m g s))

  -- so is one that took none
  pub asked_same : (n : AfterReply) (new : Player) (m : ℕ) → ((n ≡ after.Broken → ⊥) → HasTaken code lock v old new before m) → (n ≡ after.Broken → new ≡ old) → IsSameActor old.actor new.actor
  asked_same after.GoesOn new m t s = taken_same new m (t (λ e. cc e))
  asked_same after.Redoes new m t s = taken_same new m (t (λ e. cc e))
  asked_same after.Again new m t s = taken_same new m (t (λ e. cc e))
  asked_same after.Idle new m t s = taken_same new m (t (λ e. cc e))
  asked_same after.Broken new m t s = (ap (λ (p : Player). p.actor.limit) (s refl), ap (λ (p : Player). p.actor.number) (s refl))

  module _ (own : PlainCode) (is : own ≡ code) (r : AfterReply) (new : Player) (m : ℕ) (took : (r ≡ after.Broken → ⊥) → HasTaken own lock v old new before m) (none : r ≡ after.Broken → (HandsOutSent own v.reply → ⊥) × (new ≡ old)) where
    took_so : (r ≡ after.Broken → ⊥) → HasTaken code lock v old new before m
    took_so k = subst (λ d. HasTaken d lock v old new before m) is (took k)

    -- whatever it is to do next, it is the same actor
    pub same_after : IsSameActor old.actor new.actor
    same_after = asked_same r new m took_so (λ e. (none e).1)

    -- and has asked so
    pub has_asked : (made : Made) → made ≡ record { lock = lock; at = v.at; added = v.added } → (x : Made) (n : AfterReply) → came.Took made r ≡ came.Took x n → HasAsked code lock q old new before m h g x n
    has_asked made e x n f =
        let a : made ≡ x = cc f in
        let b : r ≡ n = cc f in
        record {
          served = v;
          was = was;
          made = sym a ∙ e;
          took = λ k. took_so (λ z. k (sym b ∙ z));
          broken = λ z o. (none (b ∙ z)).0 (subst (λ d. HandsOutSent d v.reply) (sym is) o);
        }

-- an actor whose last turn came to the ask follows the history then
pub gone_follows : ActorsRun → (code : PlainCode) (limit lock : ℕ) (old new : Player) (before later : ℕ) (h g : History) (b : Bool) (t : Turn) → IsLogged code limit (record { player = old; asks = before; past = h; step = step_of b t }) → IsTaken b t
    → (q : Ask) → t ≡ turned.Asks q → (m : Made) (n : AfterReply) → HasAsked code lock q old new before later h g m n → (n ≡ after.Broken → ⊥) → IsFollowing code new.actor new.trace.items later g
gone_follows laws code limit lock old new before later h g b t l k q e m n a goes =
    asked_follows code lock q old before h g a.served (ready_so code limit old before h b t l k q e) a.was new later (a.took goes) laws
