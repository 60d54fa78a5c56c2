-- Which of all actors was stopped for memory.
use Rattle.std.proofs.Common.{◌≡◌, ◌+◌, ℕ, List, ◌++◌, length, Some, sym, ap, ◌∙◌}
use Rattle.txs_value_data.specs.Places.{nth}
use Rattle.txs_world_protocol.specs.declared.event.Outcome.TheVariants.{Memory}
use Rattle.txs_machine.specs.Running.{attendants}
use Rattle.txs_machine.specs.declared.player.AgentPlayer.{AgentPlayer}
use Rattle.txs_machine.specs.declared.player.Player.{Player}
use Rattle.txs_machine.proofs.Played.{attendant_there}
use Rattle.txs_explore.proofs.Lists.{nth_left, nth_behind, same_some}

pub thread_out : (xs ys : List Player) (k : ℕ) (y x : Player) → nth xs k ≡ Some y → nth (xs ++ ys) k ≡ Some x → (y.actor.outcome ≡ Some Memory → ⊥) → x.actor.outcome ≡ Some Memory → ⊥
thread_out xs ys k y x there is never memory =
    let same : y ≡ x = same_some y x (sym (nth_left xs ys k y there) ∙ is) in never (ap (λ (z : Player). z.actor.outcome) same ∙ memory)

pub agent_out : (xs : List Player) (gs : List AgentPlayer) (k i : ℕ) (g : AgentPlayer) (x : Player) → k ≡ length xs + i → nth gs i ≡ Some g → nth (xs ++ attendants gs) k ≡ Some x → (g.player.actor.outcome ≡ Some Memory → ⊥) → x.actor.outcome ≡ Some Memory → ⊥
agent_out xs gs k i g x place there is never memory =
    let same : g.player ≡ x = same_some g.player x (sym (nth_behind xs (attendants gs) k i g.player place (attendant_there gs i g there)) ∙ is) in never (ap (λ (z : Player). z.actor.outcome) same ∙ memory)
