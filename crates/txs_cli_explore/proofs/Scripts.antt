-- What is wanted of a script's code is so of code that is well typed and names its own cells alone.
use Rattle.std.proofs.Common.{◌≡◌, ◌∙◌, ℕ, true, List, length, ap, subst, sym}
use Rattle.txs_code_meaning.specs.Machine.{agent_code}
use Rattle.txs_code_meaning.specs.OwnCells.{NamesOwnCells}
use Rattle.txs_code_meaning.specs.PlainCode.{PlainCode, library_of}
use Rattle.txs_code_meaning.specs.WellTyped.{WellTyped}
use Rattle.txs_explore.specs.Told.{explored}
use Rattle.txs_machine.proofs.Attending.{agent_names}
use Rattle.txs_machine.proofs.OwnCells.{code_known, openings_known}
use Rattle.txs_machine.proofs.Together.{agent_acts, agent_at}
use Rattle.txs_machine_actor.specs.PlainActor.{code_of}
use Rattle.txs_explore.specs.Ends.{IsScript}
use Rattle.txs_theorem_runs.proofs.Typed.{typed_agents_stand}
use Rattle.txs_theorem_runs.specs.Lawful.{NamesOwn}
use Rattle.txs_theorem_runs.specs.Standing.{StandingActor}
use Rattle.txs_value_data.specs.declared.value.CellId.{CellId}
use Rattle.txs_world_book.specs.Book as world
use Rattle.txs_world_book.specs.Book.{has_agent}
use Rattle.txs_world_book.specs.Served.{cells_of}

pub is_script : (code : PlainCode) (limit : ℕ) (function_rooms thread_rooms : List ℕ) → WellTyped code function_rooms thread_rooms → NamesOwnCells code → IsScript (explored code limit)
is_script code limit function_rooms thread_rooms well own = record {
  opened = openings_known code own;
  known = λ a. code_known code a own;
  names = λ g h. subst (NamesOwn g) (sym (acts g h)) (agent_names code g);
  stands = λ g h. subst (StandingActor true) (sym (acts g h)) (typed_agents_stand code function_rooms thread_rooms g well);
}
  where
    acts : (g : CellId) → has_agent (cells_of code.cells) g ≡ true → code_of code (world.actor_of (length code.threads) (cells_of code.cells) g) ≡ agent_code (library_of code) g
    acts g h = let a = agent_acts code g h in ap (code_of code) a.2 ∙ (agent_at code a.0 g a.1).acts
