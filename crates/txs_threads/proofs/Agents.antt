-- The agents of a code, in the order of its cells, and what the workers left of them.
use Rattle.std.proofs.Common.{◌≡◌, ◌<◌, ◌+◌, ℕ, zero, suc, true, List, [], ◌∷◌, length, get_or, Option, Some, None, sym, ap, subst, ◌∙◌, arith}
use Rattle.txs_value_data.specs.Places.{nth}
use Rattle.txs_value_data.specs.declared.value.CellId.{CellId}
use Rattle.txs_code_meaning.specs.PlainCode.{PlainCode}
use Rattle.txs_machine_actor.specs.PlainActor.{IsActorOf}
use Rattle.txs_world_book.specs.Book.{has_agent}
use Rattle.txs_world_book.specs.Served.{cells_of}
use Rattle.txs_world.specs.Store.{next_action}
use Rattle.txs_world_shared.specs.SharedState.{PlainShared, shared_of}
use Rattle.txs_machine.specs.Agents.{agents_of, AreDrained}
use Rattle.txs_machine.specs.RunOver.{IsStateOf}
use Rattle.txs_world_protocol.specs.declared.report.ActorReport.{ActorReport}
use Rattle.txs_machine.proofs.Together.{agent_at}
use Rattle.txs_threads.specs.Run.{AreAgents, IsDrained, AllDrained}

abbrev is_some : {A : Type 0} → Option A → Type 0
is_some None = ⊥
is_some (Some x) = Unit {0}

abbrev or_else : {A : Type 0} → A → Option A → A
or_else d None = d
or_else d (Some x) = x

-- ---- which agents there are

pub nth_at : (gs : List CellId) (i : ℕ) (g : CellId) → i < length gs → g ≡ get_or gs i g → nth gs i ≡ Some g
nth_at [] i g l e = absurd (omega (arith, l))
nth_at (x ∷ gs) zero g l e = ap Some (sym e)
nth_at (x ∷ gs) (suc i) g l e = nth_at gs i g (omega (arith, l)) e

-- the actor of the i-th agent
pub acts_at : (code : PlainCode) (gs : List CellId) (i threads number : ℕ) (g : CellId) → gs ≡ agents_of code → threads ≡ length code.threads → number ≡ threads + i → i < length gs → g ≡ get_or gs i g → IsActorOf code number g
acts_at code gs i threads number g all many place below read =
    let there : nth (agents_of code) i ≡ Some g = subst (λ l. nth l i ≡ Some g) all (nth_at gs i g below read) in
    subst (λ n. IsActorOf code n g) (sym (place ∙ ap (λ n. n + i) many)) (agent_at code i g there).acts

-- the agents of a code are agents of a state of its cells
pub are_agents : (code : PlainCode) (s : PlainShared) (gs : List CellId) → IsStateOf code s → gs ≡ agents_of code → AreAgents s gs
are_agents code s gs of all i g e =
    subst (λ cs. has_agent (cells_of cs) g ≡ true) (sym of.cells) (agent_at code i g (subst (λ l. nth l i ≡ Some g) all e)).has

-- ---- what is left of them

drained_at : (s : PlainShared) (gs : List CellId) (rs : List ActorReport) (i : ℕ) (g : CellId) (r : ActorReport) → AllDrained s gs rs → nth gs i ≡ Some g → nth rs i ≡ Some r → IsDrained s g r
drained_at s [] rs i g r h e f = absurd (subst is_some (sym e) tt)
drained_at s (x ∷ gs) [] i g r h e f = absurd (subst is_some (sym f) tt)
drained_at s (x ∷ gs) (y ∷ rs) zero g r h e f = subst (λ z. IsDrained s z r) (ap (or_else g) e) (subst (IsDrained s x) (ap (or_else r) f) h.0)
drained_at s (x ∷ gs) (y ∷ rs) (suc i) g r h e f = drained_at s gs rs i g r h.1 e f

-- what is tested of the agents of a code
pub are_drained : (code : PlainCode) (s : PlainShared) (gs : List CellId) (rs : List ActorReport) → IsStateOf code s → gs ≡ agents_of code → AllDrained s gs rs → AreDrained code (shared_of s) rs
are_drained code s gs rs of all h i g r e f n =
    ap (λ cs. next_action (cells_of cs) ((shared_of s).books 0) g) (sym of.cells) ∙ drained_at s gs rs i g r h (subst (λ l. nth l i ≡ Some g) (sym all) e) f n
