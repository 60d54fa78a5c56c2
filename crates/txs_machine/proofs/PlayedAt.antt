-- What a play of one actor makes of it, and of all actors.
use Rattle.std.proofs.Common.{◌≡◌, ◌<◌, ◌+◌, ℕ, zero, suc, List, [], ◌∷◌, ◌++◌, length, set, Option, Some, None, refl, sym, ap, subst, ◌∙◌, ◌⊎◌, inl, inr, arith}
use Rattle.std.proofs.lemmas.List.{length-set}
use Rattle.txs_world_protocol.specs.declared.event.Outcome.{Outcome}
use Rattle.txs_value_data.specs.Places.{nth}
use Rattle.txs_code_meaning.specs.OwnCells.{NamesOwnCells}
use Rattle.txs_code_meaning.specs.PlainCode.{PlainCode}
use Rattle.txs_code_meaning.specs.WellTyped.{WellTyped}
use Rattle.txs_machine_actor.specs.PlainActor.{PlainActor}
use Rattle.txs_value_data.specs.declared.value.CellId.{CellId}
use Rattle.txs_world.specs.Laws.{ServeKeeps}
use Rattle.txs_world.specs.Store.{next_action}
use Rattle.txs_world_book.specs.Served.{cells_of}
use Rattle.txs_theorem_runs.specs.Lawful.{RunAsksLawful}
use Rattle.txs_theorem_runs.specs.Report.{RunTraced}
use Rattle.txs_theorem_runs.proofs.Typed.{typed_agents_stand}
use Rattle.txs_world_shared.specs.SharedState.{PlainShared}
use Rattle.txs_machine.specs.Agents.{agents_of}
use Rattle.txs_machine.specs.Playing.{AreLater, ArePlayedAt, IsBetween}
use Rattle.txs_machine.specs.Plays.{IsRound, IsThreadsPlay, IsAgentsPlay, IsPlayAt}
use Rattle.txs_machine.specs.RunOver.{IsAfter, IsLimited, IsStateOf, books_of}
use Rattle.txs_machine.specs.Running.{ArePlaying, GoesAs, IsAtRest, IsAttending, IsLive, left_all}
use Rattle.txs_machine.specs.Turning.{MayGoOn}
use Rattle.txs_machine.specs.declared.player.AgentPlayer.{AgentPlayer}
use Rattle.txs_machine.specs.declared.player.Player.{Player}
use Rattle.txs_machine.specs.declared.player.Players.{Players}
use Rattle.txs_machine.proofs.Going.{stays}
use Rattle.txs_machine.proofs.Mail.{next_may, values_known}
use Rattle.txs_machine.proofs.Played.{thread_playing, thread_left, thread_live, run_after, agent_playing, agent_left, agent_less, agent_live}
use Rattle.txs_machine.proofs.Playing.{played_at, played_later, later_itself}
use Rattle.txs_machine.proofs.Resting.{rests_goes}
use Rattle.txs_machine.proofs.RunOver.{not_grown}
use Rattle.txs_machine.proofs.Together.{attending_at}
use Rattle.txs_machine.proofs.Turning.{agent_asks}

abbrev is_some : {A : Type 0} → Option A → Type 0
is_some None = ⊥
is_some (Some x) = Unit {0}

abbrev or_else : {A : Type 0} → A → Option A → A
or_else d None = d
or_else d (Some x) = x

-- ---- one thread's actor

-- one that has ended stays as it is
pub thread_rests : (code : PlainCode) (k limit n : ℕ) (s : PlainShared) (x : Player) → IsStateOf code s → IsBetween code k limit (books_of s) x → (x.actor.outcome ≡ None → ⊥) → IsThreadsPlay code k limit n s x s x
thread_rests code k limit n s x of h ended = record {
  of = of;
  between = h;
  grown = not_grown k (books_of s);
  goes = stays code k n s x.actor x.trace.items ended;
  played = λ o. absurd (ended o);
  rests = inr (refl, refl);
}

none_after : (a : PlainActor) (o : Option Outcome) → IsAfter a o → a.outcome ≡ None → o ≡ None
none_after a None h e = refl
none_after a (Some o) h e = absurd (subst is_some (sym h ∙ e) tt)

-- one that hasn't makes turns
pub thread_plays : (code : PlainCode) (k limit n : ℕ) (s : PlainShared) (x : Player) → IsBetween code k limit (books_of s) x → x.actor.outcome ≡ None → (o : Option Outcome) (t : PlainShared) (y : Player)
    → IsRound code k n s x.actor x.trace.items o t y.actor y.trace.items → IsThreadsPlay code k limit n s x t y
thread_plays code k limit n s x h going o t y r = record {
  of = r.of;
  between = record { lives = r.lives; free = r.free; limited = subst (λ n. IsLimited n y.actor) h.limited.limited r.limited; over = r.over };
  grown = r.grown;
  goes = r.goes going;
  played = λ e. (going, r.progress (none_after y.actor o r.after e));
  rests = inl going;
}

-- ---- all actors

-- an item put in its own place
set_same : {A : Type 0} (xs : List A) (k : ℕ) (x : A) → nth xs k ≡ Some x → set xs k x ≡ xs
set_same [] k x e = refl
set_same (y ∷ xs) zero x e = ap (λ z. z ∷ xs) (sym (ap (or_else y) e))
set_same (y ∷ xs) (suc k) x e = ap (λ l. y ∷ l) (set_same xs k x e)

pub thread_play_at : RunTraced → (code : PlainCode) (limit k n : ℕ) (s t : PlainShared) (all next : Players) (x y : Player) → ArePlaying code limit s all → k < length all.threads.items → nth all.threads.items k ≡ Some x → IsThreadsPlay code k limit n s x t y
    → next.threads.items ≡ set all.threads.items k y → next.agents.items ≡ all.agents.items → IsPlayAt code limit k n s all t next
thread_play_at law code limit k n s t all next x y h below there p new news =
    let xs = all.threads.items in
    let gs = all.agents.items in
    let played = played_at k xs x y there p.played in
    let live : IsLive code s all k → left_all next < left_all all = thread_live law code limit s t xs gs all next refl refl h.0 h.1 k n x y there below p.between p.grown p.goes new news played in
    record {
      of = p.of;
      goes = λ turns playing. thread_playing law code limit s t xs gs all next refl refl turns playing k n x y there below p.between p.grown p.goes new news;
      many = ap length new ∙ length-set xs k y;
      agents = ap length news;
      played = λ b. subst (ArePlayedAt k xs) (sym new) played;
      later = subst (AreLater xs) (sym new) (played_later k xs (set xs k y) played);
      left = thread_left law code limit s t xs gs all next refl refl h.0 h.1 k n x y there below p.between p.grown p.goes new news played;
      live = live;
      still = still live p.rests;
    }
  where
    still : (IsLive code s all k → left_all next < left_all all) → (x.actor.outcome ≡ None) ⊎ ((y ≡ x) × (t ≡ s))
        → (left_all next < left_all all) ⊎ ((next.threads.items ≡ all.threads.items) × (next.agents.items ≡ all.agents.items) × (t ≡ s))
    still live (inl e) = inl (live (inl (x, there, e)))
    still live (inr e) = inr (new ∙ ap (set all.threads.items k) e.0 ∙ set_same all.threads.items k x there, news, e.1)

pub agent_play_at : RunTraced → ServeKeeps → (code : PlainCode) (limit k i n : ℕ) (s t : PlainShared) (all next : Players) (x y : AgentPlayer) → NamesOwnCells code → ArePlaying code limit s all → k ≡ length all.threads.items + i → nth all.agents.items i ≡ Some x
    → IsAgentsPlay code k limit n s x t y → next.threads.items ≡ all.threads.items → next.agents.items ≡ set all.agents.items i y → IsPlayAt code limit k n s all t next
agent_play_at law keeps code limit k i n s t all next x y mine h place there p new news =
    let xs = all.threads.items in
    let gs = all.agents.items in
    let a = attending_at code limit (length code.threads) i (agents_of code) gs x h.1.agents there in
    record {
      of = p.of;
      goes = λ turns playing.
          (let after = run_after law code limit s t xs gs all next refl refl turns playing k i n x y place there p.attending p.grown p.goes new news in
          agent_playing law code limit s t xs gs all next refl refl turns playing k i n x y place there p.attending p.grown p.goes new news (values_known keeps code mine t xs (set gs i y) (turns ++ after.0) after.2));
      many = ap length new;
      agents = ap length news ∙ length-set gs i y;
      played = λ below. absurd (omega (arith, place, below));
      later = subst (AreLater xs) (sym new) (later_itself xs);
      left = agent_left law code limit s t xs gs all next refl refl h.0 h.1 k i n x y place there p.attending p.grown p.goes new news a.2.limited p.later;
      live = agent_live law code limit s t xs gs all next refl refl h.0 h.1 k i n x y place there p.attending p.grown p.goes new news a.2.limited p.later p.progress;
      still = still (agent_less law code limit s t xs gs all next refl refl h.0 h.1 k i n x y place there p.attending p.grown p.goes new news a.2.limited p.later) p.rests;
    }
  where
    still : (x.player.actor.outcome ≡ None → (y.player.actor.outcome ≡ None → x.player.actor.steps < y.player.actor.steps) → left_all next < left_all all)
        → ((x.player.actor.outcome ≡ None) × (y.player.actor.outcome ≡ None → x.player.actor.steps < y.player.actor.steps)) ⊎ ((y ≡ x) × (t ≡ s))
        → (left_all next < left_all all) ⊎ ((next.threads.items ≡ all.threads.items) × (next.agents.items ≡ all.agents.items) × (t ≡ s))
    still less (inl e) = inl (less e.0 e.1)
    still less (inr e) = inr (new, news ∙ ap (set all.agents.items i) e.0 ∙ set_same all.agents.items i x there, e.1)

-- what an agent's actor comes to ask it may ask
pub agent_may : RunAsksLawful → ServeKeeps → (code : PlainCode) (function_rooms thread_rooms : List ℕ) → WellTyped code function_rooms thread_rooms → NamesOwnCells code → (limit i n : ℕ) (s : PlainShared) (all : Players) (x : AgentPlayer) → IsStateOf code s
    → ArePlaying code limit s all → nth all.agents.items i ≡ Some x → x.player.actor.outcome ≡ None → MayGoOn code s n x.player.actor
agent_may law keeps code function_rooms thread_rooms well mine limit i n s all x of h there going =
    let a = attending_at code limit (length code.threads) i (agents_of code) all.agents.items x h.1.agents there in
    agent_asks code (length code.threads + i) limit s x of (subst (λ g. IsAttending code g (length code.threads + i) limit x) (sym a.2.agent) a.2) n going law
    (typed_agents_stand code function_rooms thread_rooms x.agent well) mine (record { turns = h.0; shared = h.1.run.shared; player = h.1.run.agents i x there })
    (next_may keeps code function_rooms thread_rooms well s all.threads.items all.agents.items h.0 h.1.run)

-- where it has nothing to do it stays as it is
pub agent_rest : RunAsksLawful → ServeKeeps → (code : PlainCode) (function_rooms thread_rooms : List ℕ) → WellTyped code function_rooms thread_rooms → NamesOwnCells code → (limit k n : ℕ) (s : PlainShared) (x : AgentPlayer) (g : CellId)
    → IsAttending code g k limit x → 0 < n → IsAtRest code k n s x
agent_rest law keeps code function_rooms thread_rooms well mine limit k n s x g h some =
    subst (λ i. x.player.actor.outcome ≡ None → x.player.actor.steps < x.player.actor.limit → next_action (cells_of code.cells) (books_of s 0) i ≡ None → GoesAs code k n s x.player.actor x.player.trace.items s x.player.actor x.player.trace.items) (sym h.agent)
    (rests_goes keeps law code g k h.at (typed_agents_stand code function_rooms thread_rooms g well) mine n s x.player.actor x.player.trace.items some)
