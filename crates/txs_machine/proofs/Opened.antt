-- The actors of a run before its first play, and how many there are.
use Rattle.std.proofs.Common.{◌≡◌, ◌+◌, ℕ, zero, suc, List, [], ◌∷◌, ◌++◌, length, Option, Some, None, refl, sym, ap, subst, ◌∙◌, arith}
use Rattle.txs_world_protocol.specs.declared.event.Event.{Event}
use Rattle.txs_value_data.specs.Places.{nth}
use Rattle.txs_code_meaning.specs.Machine.{Unfinished}
use Rattle.txs_code_meaning.specs.Opening.{opening}
use Rattle.txs_code_meaning.specs.PlainCode.{PlainCode}
use Rattle.txs_machine_actor.specs.Laws.{ActorsRun}
use Rattle.txs_machine_actor.specs.PlainActor.{code_of}
use Rattle.txs_machine_actor.specs.Turns.{IsNew}
use Rattle.txs_theorem_runs.specs.Run.{new_actor}
use Rattle.txs_theorem_runs.specs.Shared.{Shared, untouched}
use Rattle.txs_world_shared.specs.SharedState.{PlainShared, shared_of}
use Rattle.txs_machine.specs.Agents.{agents_of}
use Rattle.txs_machine.specs.Playing.{AreBetween, AreNew}
use Rattle.txs_machine.specs.RunOver.{places_of}
use Rattle.txs_machine.specs.Running.{AreAttending, ArePlayingBy, IsPlacedAs, IsPlayerOf, IsRunBy, attendants}
use Rattle.txs_machine.specs.declared.player.AgentPlayer.{AgentPlayer}
use Rattle.txs_machine.specs.declared.player.Player.{Player}
use Rattle.txs_machine.specs.declared.player.Players.{Players}
use Rattle.txs_machine.proofs.Played.{attendant_there}

abbrev is_some : {A : Type 0} → Option A → Type 0
is_some None = ⊥
is_some (Some x) = Unit {0}

abbrev or_else : {A : Type 0} → A → Option A → A
or_else d None = d
or_else d (Some x) = x

-- ---- actors that are new

-- one more behind the others
pub new_more : (code : PlainCode) (limit k : ℕ) (xs : List Player) (x : Player) → AreNew code limit k xs → IsNew code (k + length xs) limit x.actor → x.trace.items ≡ [] → AreNew code limit k (xs ++ x ∷ [])
new_more code limit k [] x h n e = (subst (λ m. IsNew code m limit x.actor) (omega arith) n, e, tt)
new_more code limit k (y ∷ xs) x h n e = (h.0, h.1, new_more code limit (suc k) xs x h.2 (subst (λ m. IsNew code m limit x.actor) (omega arith) n) e)

-- the one at a place
new_at : (code : PlainCode) (limit k i : ℕ) (xs : List Player) (x : Player) → AreNew code limit k xs → nth xs i ≡ Some x → IsNew code (k + i) limit x.actor × (x.trace.items ≡ [])
new_at code limit k i [] x h e = absurd (subst is_some (sym e) tt)
new_at code limit k zero (y ∷ xs) x h e =
    subst (λ (z : Player). IsNew code (k + 0) limit z.actor × (z.trace.items ≡ [])) (ap (or_else y) e) (subst (λ m. IsNew code m limit y.actor) (omega arith) h.0, h.1)
new_at code limit k (suc i) (y ∷ xs) x h e =
    let r = new_at code limit (suc k) i xs x h.2 e in (subst (λ m. IsNew code m limit x.actor) (omega arith) r.0, r.1)

-- is that of a run in which nothing was done yet
new_player : ActorsRun → (code : PlainCode) (k limit : ℕ) (books : ℕ → List Event) (x : Player) → IsNew code k limit x.actor → x.trace.items ≡ [] → IsPlayerOf code k books x.actor x.trace.items (new_actor (code_of code k))
new_player laws code k limit books x n e = record {
  number = n.number;
  waits = n.unasking;
  placed = subst (λ o. IsPlacedAs x.actor o (Unfinished (opening (code_of code k) [])) None) (sym n.unended) (ap (λ c. Unfinished c) (sym n.opens), refl);
  ran = laws.begins code k limit x.actor n;
  counted = n.unused;
  traced = ap places_of e;
  full = λ o. absurd (subst is_some (sym o ∙ n.unended) tt);
  stops = λ o. absurd (subst is_some (sym o ∙ n.unended) tt);
}

opened_run : ActorsRun → (code : PlainCode) (limit : ℕ) (s : PlainShared) (xs : List Player) (gs : List AgentPlayer) → shared_of s ≡ untouched code.cells → AreNew code limit 0 xs → AreNew code limit (length code.threads) (attendants gs) → IsRunBy code s xs gs []
opened_run laws code limit s xs gs same threads agents = record {
  shared = same;
  threads = λ k x e. (let n = new_at code limit 0 k xs x threads e in new_player laws code k limit (shared_of s).books x (subst (λ m. IsNew code m limit x.actor) (omega arith) n.0) n.1);
  agents = λ i x e. (let n = new_at code limit (length code.threads) i (attendants gs) x.player agents (attendant_there gs i x e) in new_player laws code (length code.threads + i) limit (shared_of s).books x.player n.0 n.1);
}

-- what holds of all actors before the first play
pub opened_playing : ActorsRun → (code : PlainCode) (limit k : ℕ) (s : PlainShared) (all : Players) → shared_of s ≡ untouched code.cells → k ≡ length code.threads → length all.threads.items ≡ k → AreBetween code limit (λ n. []) 0 all.threads.items → AreNew code limit 0 all.threads.items
    → AreAttending code limit k (agents_of code) all.agents.items → AreNew code limit k (attendants all.agents.items) → ArePlayingBy code limit s all []
opened_playing laws code limit k s all same count many between new attending agents = record {
  many = many ∙ count;
  threads = subst (λ (sh : Shared). AreBetween code limit sh.books 0 all.threads.items) (sym same) between;
  agents = subst (λ n. AreAttending code limit n (agents_of code) all.agents.items) count attending;
  run = opened_run laws code limit s all.threads.items all.agents.items same new (subst (λ n. AreNew code limit n (attendants all.agents.items)) count agents);
}
