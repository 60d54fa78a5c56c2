-- Which agents have something to do.
use Rattle.std.proofs.Common.{◌≡◌, ◌<◌, ◌≤◌, ℕ, zero, suc, Bool, true, false, List, [], ◌∷◌, ◌++◌, length, Option, Some, None, refl, sym, ap, subst, ◌∙◌, arith}
use Rattle.txs_world_protocol.specs.declared.event.Event.{Event}
use Rattle.txs_value_data.specs.Places.{nth}
use Rattle.txs_value_cell.specs.declared.action.Action.{Action}
use Rattle.txs_value_data.specs.declared.value.CellId.{CellId}
use Rattle.txs_code_meaning.specs.PlainCode.{PlainCode}
use Rattle.txs_world_book.specs.Book.{has_agent, is_failed, mail_after}
use Rattle.txs_world_book.specs.Served.{cells_of}
use Rattle.txs_world.specs.Store.{first_action, next_action}
use Rattle.txs_world_book.specs.declared.cell.StoreCell.{StoreCell}
use Rattle.txs_world_shared.specs.SharedState.{PlainShared, numbered_book}
use Rattle.txs_machine.specs.Agents.{agents_of}
use Rattle.txs_machine.specs.Playing.{IsUnended}
use Rattle.txs_machine.specs.RunOver.{IsStateOf, books_of}
use Rattle.txs_machine.specs.Running.{AreAttending, AreIdle, IsWorking}
use Rattle.txs_machine.specs.declared.player.AgentPlayer.{AgentPlayer}
use Rattle.txs_machine.specs.declared.player.Player.{Player}
use Rattle.txs_machine.proofs.Together.{attending_at}

abbrev is_some : {A : Type 0} → Option A → Type 0
is_some None = ⊥
is_some (Some x) = Unit {0}

-- what waits for an agent that hasn't failed it runs next
pub next_there : (cells : List StoreCell) (book : List Event) (g : CellId) → is_failed cells book g ≡ false → 0 < length (mail_after cells book g.number).actions → (x : Action) × (next_action cells book g ≡ Some x)
next_there cells book g e n =
    let r = first (mail_after cells book g.number).actions n in (r.0, ap (λ b. first_action b (mail_after cells book g.number).actions) e ∙ r.1)
  where
    first : (xs : List Action) → 0 < length xs → (x : Action) × (first_action false xs ≡ Some x)
    first [] n = absurd (omega (arith, n))
    first (x ∷ xs) n = (x, refl)

-- and where nothing does, none is next
pub none_next : (cells : List StoreCell) (book : List Event) (g : CellId) → length (mail_after cells book g.number).actions ≤ 0 → next_action cells book g ≡ None
none_next cells book g few = go (is_failed cells book g) (mail_after cells book g.number).actions few
  where
    go : (b : Bool) (xs : List Action) → length xs ≤ 0 → first_action b xs ≡ None
    go true [] n = refl
    go false [] n = refl
    go true (x ∷ xs) n = absurd (omega (arith, n))
    go false (x ∷ xs) n = absurd (omega (arith, n))

pub attends_has : (code : PlainCode) (s : PlainShared) (limit k i : ℕ) (xs : List AgentPlayer) (x : AgentPlayer) → IsStateOf code s → AreAttending code limit k (agents_of code) xs → nth xs i ≡ Some x → has_agent (cells_of s.cells) x.agent ≡ true
attends_has code s limit k i xs x of h e =
    let a = attending_at code limit k i (agents_of code) xs x h e in
    subst (λ cs. has_agent (cells_of cs) x.agent ≡ true) (sym of.cells) (subst (λ g. has_agent (cells_of code.cells) g ≡ true) (sym a.2.agent) a.2.at.has)

pub works_at : (code : PlainCode) (s : PlainShared) (i : ℕ) (xs : List AgentPlayer) (x : AgentPlayer) → IsStateOf code s → nth xs i ≡ Some x → x.player.actor.outcome ≡ None → (y : Action) × (next_action (cells_of s.cells) (numbered_book s 0) x.agent ≡ Some y) → IsWorking code s i xs
works_at code s i xs x of e o w = (x, e, o, (w.0, ap (λ cs. next_action (cells_of cs) (books_of s 0) x.agent) (sym of.cells) ∙ w.1))

pub idle_more : (code : PlainCode) (s : PlainShared) (xs : List AgentPlayer) (x : AgentPlayer) → IsStateOf code s → AreIdle code s xs → (x.player.actor.outcome ≡ None → next_action (cells_of s.cells) (numbered_book s 0) x.agent ≡ None) → AreIdle code s (xs ++ x ∷ [])
idle_more code s [] x of h n = (λ o w. subst is_some (sym w.1 ∙ ap (λ cs. next_action (cells_of cs) (books_of s 0) x.agent) (sym of.cells) ∙ n o) tt, tt)
idle_more code s (y ∷ xs) x of h n = (h.0, idle_more code s xs x of h.1 n)

pub thread_there : (xs : List Player) (k : ℕ) → IsUnended k xs → (x : Player) × (nth xs k ≡ Some x) × (x.actor.outcome ≡ None)
thread_there [] k u = absurd u
thread_there (x ∷ xs) zero u = (x, refl, u)
thread_there (x ∷ xs) (suc k) u = thread_there xs k u
