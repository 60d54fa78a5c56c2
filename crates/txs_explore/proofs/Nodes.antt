-- What was seen of actors is what the searches have there: who may go on, whose asks may be exchanged, and what is told of an end.
use Rattle.std.proofs.Common.{◌≡◌, ◌<◌, ◌+◌, ℕ, zero, suc, Bool, true, not, ◌&&◌, ◌==◌, nat_lt, List, [], ◌∷◌, ◌++◌, length, map, Option, Some, None, if◌then◌else◌, refl, sym, ap, subst, ◌∙◌, arith}
use Rattle.std.proofs.lemmas.Bool.Decides.{nat_tests}
use Rattle.txs_value_data.specs.Places.{nth}
use Rattle.txs_value_cell.specs.declared.cell.CellDefinition.{CellDefinition}
use Rattle.txs_code_meaning.specs.PlainCode.{PlainCode}
use Rattle.txs_machine_actor.specs.PlainActor.{code_of}
use Rattle.txs_theorem_runs.specs.Shared.{Shared}
use Rattle.txs_explore.specs.Search.{apart_from}
use Rattle.txs_explore.specs.Actors.{All, settled}
use Rattle.txs_explore.specs.Runners as runs
use Rattle.txs_explore.specs.Runners.{Runner, are_apart, is_due, those, many, next_ask, runner_of, runners, asking}
use Rattle.txs_world_shared.specs.Parts.{values_from, faults_from}
use Rattle.txs_world_shared.specs.SharedState.{PlainShared, shared_of}
use Rattle.txs_machine.specs.Running.{attendants}
use Rattle.txs_machine.specs.Scheduled.{run_of}
use Rattle.txs_machine.specs.declared.player.Players.{Players}
use Rattle.txs_explore.specs.declared.ending.Ending.{Ending}
use Rattle.txs_explore.specs.declared.look.Look.{Look}
use Rattle.txs_explore.specs.declared.look.Node.{Node}
use Rattle.txs_explore.specs.Told.{each_of, end_of, explored, fault_in, value_in}
use Rattle.txs_explore.specs.Ways.{as_end, as_ending}
use Rattle.txs_explore.specs.Looked.{AreAt, AreLooks, IsLook, IsLookAt, IsNode, ask_at, runner_at, state_at}
use Rattle.txs_explore.specs.Node.{AreBelow, IsEndingOf, apart_in, asks_in, due_in, ends_of, kept_by}
use Rattle.txs_explore.proofs.Lists.{nth_there, nth_below, same_some}
use Rattle.txs_explore.proofs.Settling.{looked_waits, told}
use Rattle.txs_explore.proofs.Stages.{all_fresh, all_many, player_at}

-- ---- lists

asks_there : (ls : List Look) (k : ℕ) (l : Look) → nth ls k ≡ Some l → asks_in ls k ≡ l.ask
asks_there [] k l e = absurd (subst Lists_is_some (sym e) tt)
  where
    Lists_is_some : Option Look → Type 0
    Lists_is_some None = ⊥
    Lists_is_some (Some x) = Unit {0}
asks_there (m ∷ ls) zero l e = ap (λ (z : Look). z.ask) (same_some m l e)
asks_there (m ∷ ls) (suc k) l e = asks_there ls k l e

those_same : (f g : ℕ → Bool) (k n : ℕ) → ((m : ℕ) → m < k + n → f m ≡ g m) → those f k n ≡ those g k n
those_same f g k zero h = refl
those_same f g k (suc n) h =
    ap (λ b. if b then k ∷ those f (suc k) n else those f (suc k) n) (h k (omega arith))
    ∙ ap (λ l. if g k then k ∷ l else l) (those_same f g (suc k) n (λ m l. h m (omega (arith, l))))

each_same : (f : ℕ → runs.End) (k : ℕ) (ls : List Look) → ((i : ℕ) (l : Look) → nth ls i ≡ Some l → as_end l.end ≡ f (k + i)) → map as_end (ends_of ls) ≡ each_of f k (length ls)
each_same f k [] h = refl
each_same f k (l ∷ ls) h =
    let first : k + 0 ≡ k = omega arith in
    ap (λ e. e ∷ map as_end (ends_of ls)) (h 0 l refl ∙ ap f first) ∙ ap (λ es. f k ∷ es) (each_same f (suc k) ls (λ i m e. h (suc i) m e ∙ ap f (next i)))
  where
    next : (i : ℕ) → k + suc i ≡ suc k + i
    next i = omega arith

is_below : (m n : ℕ) → m < n → nat_lt m n ≡ true
is_below m n h = grind (arith, nat_tests, h)

module _ (code : PlainCode) (limit : ℕ) where
  -- ---- what was seen

  seen_at : (ks : List ℕ) (s : PlainShared) (all : Players) (looks : List Look) → AreAt code limit ks s all → AreLooks code (all.threads.items ++ attendants all.agents.items) looks
      → (k : ℕ) (l : Look) → nth looks k ≡ Some l → IsLookAt code limit ks k l
  seen_at ks s all looks at seen k l e =
      let xs = all.threads.items ++ attendants all.agents.items in
      let less = nth_below looks k l e in
      let many_are = all_many code limit s all at.turns at.playing in
      let same_many = seen.0 in
      let there = nth_there xs k (omega (arith, less, same_many)) in
      let p = player_at code limit s all at.turns at.playing k there.0 there.1 in
      let f = all_fresh code limit s all at.turns at.playing k there.0 there.1 in
      let look : IsLook code there.0.actor l = seen.1 k there.0 l there.1 e in
      let mine : Runner = runner_of ((run_of code at.turns).actors k) in
      let w = looked_waits code limit k (is_below k (many (explored code limit)) (omega (arith, less, same_many, many_are))) there.0.actor look.after mine l.ask p.number f.limited p.placed p.counted look.looked in
      let here : settled (runners (explored code limit)) k mine ≡ runner_at code limit ks k = ap (λ (u : All (runners (explored code limit))). settled (runners (explored code limit)) k (u.actors k)) at.same in
      record {
        ask = sym w.ask ∙ ap (λ (r : Runner). next_ask (code_of code k) r.at r.stopped) here;
        end =
            ap (λ o. told o l.end.printed) look.ended
            ∙ ap (told look.after.outcome) look.printed
            ∙ sym w.end
            ∙ ap end_of here;
      }

  pub node_is : (ks : List ℕ) (s : PlainShared) (all : Players) (v : Node) → AreAt code limit ks s all → AreLooks code (all.threads.items ++ attendants all.agents.items) v.looks.items → v.shared ≡ s → IsNode code limit ks v
  node_is ks s all v at seen same = record {
    cells = ap (λ (u : PlainShared). u.cells) same ∙ at.of.cells;
    threads = ap (λ (u : PlainShared). u.threads) same ∙ at.of.threads;
    shared = ap shared_of same ∙ at.playing.run.shared ∙ ap (λ (u : All (runners (explored code limit))). u.shared) at.same;
    one_each = seen.0 ∙ all_many code limit s all at.turns at.playing;
    each = seen_at ks s all v.looks.items at seen;
  }

  -- ---- at a place of the search

  asks_are : (ks : List ℕ) (v : Node) → IsNode code limit ks v → (k : ℕ) → k < length v.looks.items → asks_in v.looks.items k ≡ ask_at code limit ks k
  asks_are ks v h k less =
      let t = nth_there v.looks.items k less in
      asks_there v.looks.items k t.0 t.1 ∙ (h.each k t.0 t.1).ask

  pub due_are : (ks : List ℕ) (v : Node) → IsNode code limit ks v → due_in v ≡ (asking (explored code limit)).enabled (state_at code limit ks)
  due_are ks v h =
      those_same (λ k. is_due v.shared.cells v.shared.threads (shared_of v.shared) k (asks_in v.looks.items k)) (λ k. is_due code.cells (length code.threads) (state_at code limit ks).shared k (ask_at code limit ks k)) 0
      (length v.looks.items) (λ m l. at m (omega (arith, l)))
      ∙ ap (those (λ k. is_due code.cells (length code.threads) (state_at code limit ks).shared k (ask_at code limit ks k)) 0) h.one_each
    where
      at : (m : ℕ) → m < length v.looks.items
          → is_due v.shared.cells v.shared.threads (shared_of v.shared) m (asks_in v.looks.items m) ≡ is_due code.cells (length code.threads) (state_at code limit ks).shared m (ask_at code limit ks m)
      at m l =
          ap (λ c. is_due c v.shared.threads (shared_of v.shared) m (asks_in v.looks.items m)) h.cells
          ∙ ap (λ n. is_due code.cells n (shared_of v.shared) m (asks_in v.looks.items m)) h.threads
          ∙ ap (λ (sh : Shared). is_due code.cells (length code.threads) sh m (asks_in v.looks.items m)) h.shared
          ∙ ap (is_due code.cells (length code.threads) (state_at code limit ks).shared m) (asks_are ks v h m l)

  apart_is : (ks : List ℕ) (v : Node) → IsNode code limit ks v → (k j : ℕ) → k < length v.looks.items → j < length v.looks.items → apart_in v k j ≡ (asking (explored code limit)).apart (state_at code limit ks) k j
  apart_is ks v h k j one other =
      ap (λ c. not (k == j) && are_apart c (shared_of v.shared) (asks_in v.looks.items k) (asks_in v.looks.items j)) h.cells
      ∙ ap (λ (sh : Shared). not (k == j) && are_apart code.cells sh (asks_in v.looks.items k) (asks_in v.looks.items j)) h.shared
      ∙ ap (λ q. not (k == j) && are_apart code.cells (state_at code limit ks).shared q (asks_in v.looks.items j)) (asks_are ks v h k one)
      ∙ ap (λ q. not (k == j) && are_apart code.cells (state_at code limit ks).shared (ask_at code limit ks k) q) (asks_are ks v h j other)

  pub apart_are : (ks : List ℕ) (v : Node) → IsNode code limit ks v → (k : ℕ) → k < length v.looks.items → (js : List ℕ) → AreBelow (length v.looks.items) js
      → kept_by (λ j. apart_in v k j) js ≡ apart_from (asking (explored code limit)) (state_at code limit ks) k js
  apart_are ks v h k one [] b = refl
  apart_are ks v h k one (j ∷ js) b =
      ap (λ z. if z then j ∷ kept_by (λ i. apart_in v k i) js else kept_by (λ i. apart_in v k i) js) (apart_is ks v h k j one b.0)
      ∙ ap (λ l. if (asking (explored code limit)).apart (state_at code limit ks) k j then j ∷ l else l) (apart_are ks v h k one js b.1)

  pub ending_is : (ks : List ℕ) (v : Node) (e : Ending) → IsNode code limit ks v → IsEndingOf v e → as_ending e ≡ (asking (explored code limit)).outcome (state_at code limit ks)
  ending_is ks v e h g =
      let sh = (state_at code limit ks).shared in
      let actors : map as_end e.actors ≡ each_of (λ k. end_of (runner_at code limit ks k)) 0 (many (explored code limit)) =
      ap (map as_end) g.actors ∙ each_same (λ k. end_of (runner_at code limit ks k)) 0 v.looks.items (λ i l q. (h.each i l q).end ∙ ap (λ k. end_of (runner_at code limit ks k)) (from i)) ∙ ap (each_of (λ k. end_of (runner_at code limit ks k)) 0) h.one_each
      in
      let cells : e.cells ≡ values_from (value_in code.cells sh) 0 code.cells =
      g.cells ∙ ap (λ (c : List CellDefinition). values_from (value_in c (shared_of v.shared)) 0 c) h.cells ∙ ap (λ (z : Shared). values_from (value_in code.cells z) 0 code.cells) h.shared
      in
      let failed : e.failed ≡ faults_from (fault_in code.cells sh) 0 code.cells =
      g.failed ∙ ap (λ (c : List CellDefinition). faults_from (fault_in c (shared_of v.shared)) 0 c) h.cells ∙ ap (λ (z : Shared). faults_from (fault_in code.cells z) 0 code.cells) h.shared
      in
      λ i. record { actors = actors i; cells = cells i; failed = failed i }
    where
      from : (i : ℕ) → i ≡ 0 + i
      from i = omega arith
