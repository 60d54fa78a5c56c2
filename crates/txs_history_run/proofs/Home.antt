-- Where each actor is in the run that a history is.
use Rattle.std.proofs.Common.{◌≡◌, ◌⊎◌, inl, inr, ◌+◌, ◌<◌, ℕ, zero, suc, Bool, true, false, nat_lt, List, [], ◌∷◌, ◌++◌, length, map, Some, refl, sym, ap, subst, ◌∙◌, arith}
use Rattle.std.proofs.lemmas.Bool.Decides.{nat_tests}
use Rattle.txs_world_protocol.specs.declared.event.Event.{Event}
use Rattle.txs_value_data.specs.Places.{nth}
use Rattle.txs_value_data.specs.declared.value.CellId.{CellId}
use Rattle.txs_code_meaning.specs.PlainCode.{PlainCode}
use Rattle.txs_machine_actor.specs.PlainActor.{Lives, code_of}
use Rattle.txs_theorem_runs.specs.Run.{Actor, Play, new_actor}
use Rattle.txs_theorem_runs.specs.Shared.{Shared}
use Rattle.txs_history.specs.Following.{AreBelow, FollowsAll, HistoryIsRun}
use Rattle.txs_history.specs.Asked.{History, asks_in, shared_by, sum_to}
use Rattle.txs_world_shared.specs.SharedState.{PlainShared, shared_of}
use Rattle.txs_machine.specs.Agents.{actors_of, agents_of}
use Rattle.txs_machine.specs.RunOver.{IsLimited, books_of}
use Rattle.txs_machine.specs.Running.{AreAttending, IsAttending, IsPlayerOf, IsRunBy, attendants}
use Rattle.txs_machine.specs.Scheduled.{AreTurnsBelow, run_of}
use Rattle.txs_machine.specs.declared.player.AgentPlayer.{AgentPlayer}
use Rattle.txs_machine.specs.declared.player.Player.{Player}
use Rattle.txs_machine.specs.declared.player.Players.{Players}
use Rattle.txs_machine.proofs.Together.{agent_at}
use Rattle.txs_history_run.specs.Actor.{IsOn, PlainLogged}
use Rattle.txs_history_run.specs.Back.{player_of}
use Rattle.txs_history_run.specs.Settled.{AreSettled, ArePlayersOf, IsSettled, asks_by}
use Rattle.txs_history_run.proofs.Lists.{is_some, or_else, within_of, there_at, mapped_at, first_at, second_at, length_map, same_at}

-- an actor made as many asks as its place says
asks_at : (ps : List PlainLogged) (k : ℕ) (p : PlainLogged) → nth ps k ≡ Some p → p.asks ≡ asks_by ps k
asks_at [] k p e = absurd (subst is_some (sym e) tt)
asks_at (q ∷ ps) zero p e = sym (ap (λ o. (or_else q o).asks) e)
asks_at (q ∷ ps) (suc k) p e = asks_at ps k p e

-- turns below a number, as the machine says it
turns_below : (m : ℕ) (ys : List Play) → AreBelow m ys → AreTurnsBelow m ys
turns_below m [] h = tt
turns_below m (y ∷ ys) h = (h.0, turns_below m ys h.1)

-- the actors of agents in their order
attending : (code : PlainCode) (limit k : ℕ) (xs : List AgentPlayer) → ((i : ℕ) (x : AgentPlayer) → nth xs i ≡ Some x → IsAttending code x.agent (k + i) limit x) → AreAttending code limit k (map (λ (x : AgentPlayer). x.agent) xs) xs
attending code limit k [] h = tt
attending code limit k (x ∷ xs) h = (
  subst (λ n. IsAttending code x.agent n limit x) (omega arith) (h 0 x refl),
  attending code limit (suc k) xs (λ i y e. subst (λ n. IsAttending code y.agent n limit y) (omega arith) (h (suc i) y e)),
)

attendants_at : (xs : List AgentPlayer) (i : ℕ) (x : AgentPlayer) → nth xs i ≡ Some x → nth (attendants xs) i ≡ Some x.player
attendants_at [] i x e = absurd (subst is_some (sym e) tt)
attendants_at (y ∷ xs) zero x e = ap (λ o. Some (or_else y o).player) e
attendants_at (y ∷ xs) (suc i) x e = attendants_at xs i x e

-- The k-th actor is where a run's k-th actor is.
pub record IsHome (code : PlainCode) (limit k : ℕ) (books : ℕ → List Event) (x : Player) (y : Actor) : Type 0 where
  pub lives : Lives code x.actor
  pub of : IsPlayerOf code k books x.actor x.trace.items y
  pub limited : IsLimited limit x.actor
  pub on : IsOn code y.entries x.actor

module _ (law : HistoryIsRun) (code : PlainCode) (limit : ℕ) (s : PlainShared) (h : History) (ps : List PlainLogged) (all : Players) (settled : AreSettled code limit s h ps) (players : ArePlayersOf code ps all) where
  -- one of the actors
  record IsThere (k : ℕ) : Type 0 where
    logged : PlainLogged
    there : nth ps k ≡ Some logged
    is : IsSettled code limit k h logged

  found : (k : ℕ) → (b : Bool) → nat_lt k (length ps) ≡ b → IsThere k ⊎ (k < length ps → ⊥)
  found k true e =
      let less : k < length ps = grind (arith, nat_tests, e) in
      let x = there_at ps k less in
      inl (record { logged = x.0; there = x.1; is = settled.each k x.0 x.1 })
  found k false e = inr (λ less. absurd (grind (arith, nat_tests, e, less)))

  -- where the history leads an actor
  end_of : (k : ℕ) → IsThere k ⊎ (k < length ps → ⊥) → Actor
  end_of k (inl x) = x.is.follows.place
  end_of k (inr none) = new_actor (code_of code k)

  abbrev ends : ℕ → Actor
  ends k = end_of k (found k (nat_lt k (length ps)) refl)

  end_follows : (k : ℕ) (o : IsThere k ⊎ (k < length ps → ⊥)) → k < length ps → FollowsAll code.cells (length code.threads) (code_of code k) k (asks_by ps k) h (end_of k o)
  unfolding end_of
  end_follows k (inl x) less =
      subst (λ m. FollowsAll code.cells (length code.threads) (code_of code k) k m h x.is.follows.place) (asks_at ps k x.logged x.there)
      (subst (λ i. FollowsAll code.cells (length code.threads) (code_of code i) i x.logged.asks h x.is.follows.place) x.is.number x.is.follows.follows)
  end_follows k (inr none) less = absurd (none less)

  same_books : (shared_by code.cells h).books ≡ books_of s
  same_books = sym (ap (λ (sh : Shared). sh.books) settled.shared)

  end_home : (k : ℕ) (x : Player) (o : IsThere k ⊎ (k < length ps → ⊥)) → nth (map player_of ps) k ≡ Some x → IsHome code limit k (books_of s) x (end_of k o)
  unfolding end_of
  end_home k x (inr none) e = absurd (none (let l = within_of (map player_of ps) k x e in let m = length_map player_of ps in omega (arith, l, m)))
  end_home k x (inl y) e = subst (λ (z : Player). IsHome code limit k (books_of s) z y.is.follows.place) same own
    where
      same : y.logged.player ≡ x
      same = same_at (map player_of ps) k y.logged.player x (mapped_at player_of ps k y.logged y.there) e

      own : IsHome code limit k (books_of s) y.logged.player y.is.follows.place
      own = record {
        lives = y.is.follows.lives;
        of = subst (λ (b : ℕ → List Event). IsPlayerOf code k b y.logged.player.actor y.logged.player.trace.items y.is.follows.place) same_books
            (subst (λ i. IsPlayerOf code i (shared_by code.cells h).books y.logged.player.actor y.logged.player.trace.items y.is.follows.place) y.is.number y.is.follows.is);
        limited = subst (λ n. IsLimited n y.logged.player.actor) y.is.limited y.is.follows.on.limited;
        on = y.is.follows.on;
      }

  -- the actors of the code
  each_follows : (k : ℕ) → k < actors_of code → FollowsAll code.cells (length code.threads) (code_of code k) k (asks_by ps k) h (ends k)
  each_follows k less = end_follows k (found k (nat_lt k (length ps)) refl) (subst (λ n. k < n) (sym settled.one_each) less)

  all_made : sum_to (actors_of code) (asks_by ps) ≡ asks_in h
  all_made = subst (λ n. sum_to n (asks_by ps) ≡ asks_in h) settled.one_each settled.all

  -- the run
  pub record IsTheRun : Type 0 where
    pub turns : List Play
    pub below : AreTurnsBelow (actors_of code) turns
    pub shared : shared_of s ≡ (run_of code turns).shared
    pub home : (k : ℕ) (x : Player) → nth (map player_of ps) k ≡ Some x → IsHome code limit k (books_of s) x ((run_of code turns).actors k)

  pub the_run : IsTheRun
  the_run = made (law code.cells (length code.threads) (code_of code) (actors_of code) h (asks_by ps) ends each_follows all_made)
    where
      made : (ys : List Play) × AreBelow (actors_of code) ys × ((run_of code ys).shared ≡ shared_by code.cells h) × ((k : ℕ) → k < actors_of code → (run_of code ys).actors k ≡ ends k) → IsTheRun
      made r = record {
        turns = r.0;
        below = turns_below (actors_of code) r.0 r.1;
        shared = settled.shared ∙ sym r.2;
        home = λ k x e. subst (λ (y : Actor). IsHome code limit k (books_of s) x y) (sym (r.3 k (within k x e))) (end_home k x (found k (nat_lt k (length ps)) refl) e);
      }
        where
          within : (k : ℕ) (x : Player) → nth (map player_of ps) k ≡ Some x → k < actors_of code
          within k x e = let l = within_of (map player_of ps) k x e in let m = length_map player_of ps in let n = settled.one_each in subst (λ j. k < j) (m ∙ n) l

  module _ (run : IsTheRun) where
    -- a thread's actor, and an agent's, in the order of all
    pub thread_home : (k : ℕ) (x : Player) → nth all.threads.items k ≡ Some x → IsHome code limit k (books_of s) x ((run_of code run.turns).actors k)
    thread_home k x e = run.home k x (subst (λ (l : List Player). nth l k ≡ Some x) (sym players.players) (first_at all.threads.items (attendants all.agents.items) k x e))

    agent_home : (i : ℕ) (x : AgentPlayer) → nth all.agents.items i ≡ Some x → IsHome code limit (length code.threads + i) (books_of s) x.player ((run_of code run.turns).actors (length code.threads + i))
    agent_home i x e =
        run.home (length code.threads + i) x.player
        (subst (λ (l : List Player). nth l (length code.threads + i) ≡ Some x.player) (sym players.players)
        (subst (λ n. nth (all.threads.items ++ attendants all.agents.items) (n + i) ≡ Some x.player) players.threads
        (second_at all.threads.items (attendants all.agents.items) i x.player (attendants_at all.agents.items i x e))))

    pub by_turns : IsRunBy code s all.threads.items all.agents.items run.turns
    by_turns = record {
      shared = run.shared;
      threads = λ k x e. (thread_home k x e).of;
      agents = λ i x e. (agent_home i x e).of;
    }

    named : (i : ℕ) (x : AgentPlayer) → nth all.agents.items i ≡ Some x → nth (agents_of code) i ≡ Some x.agent
    named i x e = subst (λ (l : List CellId). nth l i ≡ Some x.agent) players.agents (mapped_at (λ (y : AgentPlayer). y.agent) all.agents.items i x e)

    attends : (i : ℕ) (x : AgentPlayer) → nth all.agents.items i ≡ Some x → IsAttending code x.agent (length code.threads + i) limit x
    attends i x e =
        let y = agent_home i x e in
        record {
          agent = refl;
          at = agent_at code i x.agent (named i x e);
          lives = y.lives;
          free = y.of.waits;
          number = y.of.number;
          limited = y.limited;
        }

    pub all_attend : AreAttending code limit (length code.threads) (agents_of code) all.agents.items
    all_attend = subst (λ (l : List CellId). AreAttending code limit (length code.threads) l all.agents.items) players.agents (attending code limit (length code.threads) all.agents.items attends)
