-- Where actors are behind asks: before the first, behind each, and which actors those are.
use Rattle.std.proofs.Common.{◌≡◌, ◌⊎◌, inl, inr, ◌<◌, ◌≤◌, ◌+◌, ◌-◌, ℕ, suc, true, List, [], ◌∷◌, ◌++◌, length, Option, Some, None, refl, sym, ap, subst, ◌∙◌, arith}
use Rattle.std.specs.Prelude.{◌^◌}
use Rattle.std.proofs.lemmas.List.{length-append}
use Rattle.txs_world_protocol.specs.declared.event.Outcome.{Outcome}
use Rattle.txs_world_protocol.specs.declared.event.Outcome.TheVariants as outcome
use Rattle.txs_value_data.specs.Places.{nth}
use Rattle.txs_value_cell.specs.Agents.{agents_from, with_agent}
use Rattle.txs_value_cell.specs.declared.cell.CellDefinition.{CellDefinition}
use Rattle.txs_value_data.specs.declared.value.CellKind.{CellKind}
use Rattle.txs_value_data.specs.declared.value.CellKind.TheVariants.{Ref, Atom, Agent}
use Rattle.txs_code_meaning.specs.PlainCode.{PlainCode}
use Rattle.txs_machine_actor.specs.PlainActor.{PlainActor}
use Rattle.txs_theorem_runs.specs.Run as run
use Rattle.txs_theorem_runs.specs.Run.{Stop, JournalFull, Memory, TurnsSpent, State}
use Rattle.txs_theorem_runs.specs.Shared.{untouched}
use Rattle.txs_theorem_serial.proofs.Together.{agents_many}
use Rattle.txs_explore.specs.System.{System, has, turns, MayGo}
use Rattle.txs_explore.specs.Runners.{many, asking, seen, runner_of, next_plays, played}
use Rattle.txs_explore.proofs.Playing.{one_turn, enough, those_below}
use Rattle.txs_world_shared.specs.SharedState.{PlainShared, shared_of}
use Rattle.txs_machine.specs.Agents.{agents_of}
use Rattle.txs_machine.specs.Plays.{AreReady, IsPlayAt}
use Rattle.txs_machine.specs.RunOver.{books_of}
use Rattle.txs_machine.specs.Running.{ArePlayingBy, IsPlacedAs, IsPlayerOf, attendants}
use Rattle.txs_machine.specs.Scheduled.{after_turns, run_of}
use Rattle.txs_machine.specs.declared.player.Player.{Player}
use Rattle.txs_machine.specs.declared.player.Players.{Players}
use Rattle.txs_machine.proofs.Exact.{IsOut, turns_lack, turns_one}
use Rattle.txs_machine.proofs.Going.{turns_append}
use Rattle.txs_machine.proofs.Playing.{between_of}
use Rattle.txs_machine.proofs.Together.{as_attending, attendant_at, attendants_many, attending_at}
use Rattle.txs_explore.specs.Told.{explored, begins}
use Rattle.txs_explore.specs.Looked.{AreAt, AreFresh, IsFresh, state_at}
use Rattle.txs_explore.specs.Node.{AreBelow}
use Rattle.txs_explore.proofs.Lists.{is_some, same_some, nth_either, nth_there}
use Rattle.txs_explore.proofs.Turns.{own_are_next}

-- one turn behind others
turns_more : (y : System) (ks : List ℕ) (k : ℕ) (s : y.State) → turns y (ks ++ k ∷ []) s ≡ y.turn k (turns y ks s)
turns_more y [] k s = refl
turns_more y (j ∷ ks) k s = turns_more y ks k (y.turn j s)

pub may_more : (y : System) (ks : List ℕ) (k : ℕ) (s : y.State) → MayGo y ks s → has k (y.enabled (turns y ks s)) ≡ true → MayGo y (ks ++ k ∷ []) s
may_more y [] k s h m = (m, tt)
may_more y (j ∷ ks) k s h m = (h.0, may_more y ks k (y.turn j s) h.1 m)

-- there are no more agents than cells
agents_few : (n : ℕ) (ds : List CellDefinition) → length (agents_from n ds) ≤ length ds
agents_few n [] = omega arith
agents_few n (d ∷ ds) = by d.kind (agents_few (suc n) ds)
  where
    by : (k : CellKind) → length (agents_from (suc n) ds) ≤ length ds → length (with_agent k n (agents_from (suc n) ds)) ≤ suc (length ds)
    by Ref h = omega (arith, h)
    by Atom h = omega (arith, h)
    by Agent h = omega (arith, h)

-- one that was stopped for memory has ended so
ended_out : (a : PlainActor) (o : Option Outcome) (x : run.Actor) → IsPlacedAs a o x.at x.stopped → IsOut x → o ≡ Some outcome.Memory
ended_out a None x h out = absurd (subst is_some (sym out.why ∙ h.1) tt)
ended_out a (Some outcome.Done) x h out = absurd (subst is_some (sym out.why ∙ h.1) tt)
ended_out a (Some (outcome.Failed f)) x h out = absurd (subst is_some (sym out.why ∙ h.1) tt)
ended_out a (Some outcome.StepsSpent) x h out = absurd (subst IsMemory (same_some Memory TurnsSpent (sym out.why ∙ h.1)) tt)
  where
    IsMemory : Stop → Type 0
    IsMemory JournalFull = ⊥
    IsMemory Memory = Unit {0}
    IsMemory TurnsSpent = ⊥
    IsMemory run.Unlawful = ⊥
ended_out a (Some outcome.JournalFull) x h out = absurd (subst IsMemory (same_some Memory JournalFull (sym out.why ∙ h.3)) tt)
  where
    IsMemory : Stop → Type 0
    IsMemory JournalFull = ⊥
    IsMemory Memory = Unit {0}
    IsMemory TurnsSpent = ⊥
    IsMemory run.Unlawful = ⊥
ended_out a (Some outcome.Memory) x h out = refl

module _ (code : PlainCode) (limit : ℕ) where
  -- ---- asks

  pub state_more : (ks : List ℕ) (k : ℕ) → state_at code limit (ks ++ k ∷ []) ≡ (asking (explored code limit)).turn k (state_at code limit ks)
  state_more ks k = turns_more (asking (explored code limit)) ks k (seen (explored code limit) (begins code))

  -- those that may go on are actors
  pub enabled_one : (k : ℕ) (s : (asking (explored code limit)).State) → has k ((asking (explored code limit)).enabled s) ≡ true → k < many (explored code limit)
  enabled_one k s h = let l = those_below (explored code limit) _ 0 (many (explored code limit)) k h in omega (arith, l)

  pub may_below : (ks : List ℕ) (s : (asking (explored code limit)).State) → MayGo (asking (explored code limit)) ks s → AreBelow (many (explored code limit)) ks
  may_below [] s h = tt
  may_below (k ∷ ks) s h = (enabled_one k s h.0, may_below ks ((asking (explored code limit)).turn k s) h.1)

  -- ---- all actors

  -- the k-th actor is that of the run
  pub player_at : (s : PlainShared) (all : Players) (ts : List run.Play) → ArePlayingBy code limit s all ts → (k : ℕ) (x : Player) → nth (all.threads.items ++ attendants all.agents.items) k ≡ Some x
      → IsPlayerOf code k (books_of s) x.actor x.trace.items ((run_of code ts).actors k)
  player_at s all ts h k x e = by (nth_either all.threads.items (attendants all.agents.items) k x e)
    where
      by : (nth all.threads.items k ≡ Some x) ⊎ ((i : ℕ) × (k ≡ length all.threads.items + i) × (nth (attendants all.agents.items) i ≡ Some x)) → IsPlayerOf code k (books_of s) x.actor x.trace.items ((run_of code ts).actors k)
      by (inl f) = h.run.threads k x f
      by (inr f) =
          let y = attendant_at all.agents.items f.0 x f.2 in
          let place : length code.threads + f.0 ≡ k = ap (λ n. n + f.0) (sym h.many) ∙ sym f.1 in
          subst (λ n. IsPlayerOf code n (books_of s) x.actor x.trace.items ((run_of code ts).actors n)) place
          (subst (λ (z : Player). IsPlayerOf code (length code.threads + f.0) (books_of s) z.actor z.trace.items ((run_of code ts).actors (length code.threads + f.0))) y.2 (h.run.agents f.0 y.0 y.1))

  -- it may make turns
  pub all_fresh : (s : PlainShared) (all : Players) (ts : List run.Play) → ArePlayingBy code limit s all ts → AreFresh code limit (all.threads.items ++ attendants all.agents.items)
  all_fresh s all ts h k x e = by (nth_either all.threads.items (attendants all.agents.items) k x e)
    where
      by : (nth all.threads.items k ≡ Some x) ⊎ ((i : ℕ) × (k ≡ length all.threads.items + i) × (nth (attendants all.agents.items) i ≡ Some x)) → IsFresh code limit x.actor
      by (inl f) =
          let b = between_of code limit (books_of s) k all.threads.items x f h.threads in
          record { lives = b.lives; free = b.free; limited = b.limited.limited; within = b.limited.within }
      by (inr f) =
          let y = attendant_at all.agents.items f.0 x f.2 in
          let a = attending_at code limit (length code.threads) f.0 (agents_of code) all.agents.items y.0 h.agents y.1 in
          subst (λ (z : Player). IsFresh code limit z.actor) y.2 (record { lives = a.2.lives; free = a.2.free; limited = a.2.limited.limited; within = a.2.limited.within })

  -- how many there are
  pub all_many : (s : PlainShared) (all : Players) (ts : List run.Play) → ArePlayingBy code limit s all ts → length (all.threads.items ++ attendants all.agents.items) ≡ many (explored code limit)
  all_many s all ts h =
      let a = length-append all.threads.items (attendants all.agents.items) in
      let b = attendants_many all.agents.items in
      let c = as_attending code limit (length code.threads) (agents_of code) all.agents.items h.agents in
      let d = agents_many 0 code.cells in
      let m = h.many in
      omega (arith, a, b, c, d, m)

  pub both_many : (s : PlainShared) (all : Players) (ts : List run.Play) → ArePlayingBy code limit s all ts → length all.threads.items + length all.agents.items ≡ many (explored code limit)
  both_many s all ts h =
      let c = as_attending code limit (length code.threads) (agents_of code) all.agents.items h.agents in
      let d = agents_many 0 code.cells in
      let m = h.many in
      omega (arith, c, d, m)

  pub many_few : many (explored code limit) ≤ length code.threads + length code.cells
  many_few = let a = agents_many 0 code.cells in let b = agents_few 0 code.cells in omega (arith, a, b)

  -- ---- behind asks

  pub opened_at : (n : ℕ) (s : PlainShared) (all : Players) → s.cells ≡ code.cells → s.threads ≡ length code.threads → shared_of s ≡ untouched code.cells → AreReady code limit n all → AreAt code limit [] s all
  opened_at n s all cells threads shared h = record { of = record { cells = cells; threads = threads }; turns = []; playing = h.playing s shared; same = refl }

  pub played_at : limit + 1 < 2 ^ 64 - 1 → (ks : List ℕ) (k : ℕ) (s t : PlainShared) (all next : Players) → k < many (explored code limit) → IsPlayAt code limit k (2 ^ 64 - 1) s all t next
      → ((x : Player) → nth (next.threads.items ++ attendants next.agents.items) k ≡ Some x → x.actor.outcome ≡ Some outcome.Memory → ⊥) → AreAt code limit ks s all → AreAt code limit (ks ++ k ∷ []) t next
  played_at small ks k s t all next one h out at =
      let g = h.goes at.turns at.playing in
      let st : State = run_of code at.turns in
      let end : run_of code (at.turns ++ g.0) ≡ after_turns code g.0 st = turns_append code at.turns g.0 (begins code) in
      let there = nth_there (next.threads.items ++ attendants next.agents.items) k (let m = all_many t next (at.turns ++ g.0) g.2 in omega (arith, one, m)) in
      let p = player_at t next (at.turns ++ g.0) g.2 k there.0 there.1 in
      let in_memory : IsOut ((after_turns code g.0 st).actors k) → ⊥ =
      λ o. out there.0 there.1 (ended_out there.0.actor there.0.actor.outcome ((run_of code (at.turns ++ g.0)).actors k) p.placed (subst (λ (u : State). IsOut (u.actors k)) (sym end) o))
      in
      let same : g.0 ≡ next_plays (explored code limit) k (2 ^ 64 - 1) st =
      turns_one code limit k (2 ^ 64 - 1) st g.0 g.1 (turns_lack code limit k (2 ^ 64 - 1) st g.0 g.1 in_memory) ∙ own_are_next code limit k (2 ^ 64 - 1) st
      in
      let turn = one_turn (explored code limit) k one (2 ^ 64 - 1) st (enough (explored code limit) (runner_of (st.actors k)) (2 ^ 64 - 1) small) in
      record {
        of = h.of;
        turns = at.turns ++ g.0;
        playing = g.2;
        same =
            ap (seen (explored code limit)) end
            ∙ ap (λ us. seen (explored code limit) (played (explored code limit) us st)) same
            ∙ turn.same
            ∙ ap ((asking (explored code limit)).turn k) at.same
            ∙ sym (state_more ks k);
      }
