use Rattle.std.proofs.Common.{◌≡◌, ◌++◌, ℕ, List, length, drop}
use Rattle.txs_cli_report.specs.AgentLines.{AreAgentsTold, failure_of, named_from, status_of_agents}
use Rattle.txs_cli_report.specs.Lent.{script_of}
use Rattle.txs_cli_report.proofs.agents.add_agents.Given as goal

-- there is an entry for each agent among the cells to come; with what is told of these, what is told so far is what is told of all
abbrev pub invariant-loop-number : goal.invariant-loop-number
invariant-loop-number l =
    record {
      left : length l.rest ≡ length (named_from l.number (drop l.number l.cells));
      output : l.told.output.items ≡ l.fn.told.output.items;
      errors : (lines : List ℕ)
          × (l.told.errors.items ≡ l.fn.told.errors.items ++ lines)
          × ((more : List ℕ) → AreAgentsTold (script_of l.script) (failure_of l.shared) (named_from l.number (drop l.number l.cells)) l.rest more → AreAgentsTold (script_of l.script) (failure_of l.shared) (named_from 0 l.cells) l.agents (lines ++ more));
      status : status_of_agents l.told.status (failure_of l.shared) (named_from l.number (drop l.number l.cells)) l.rest ≡ status_of_agents l.fn.told.status (failure_of l.shared) (named_from 0 l.cells) l.agents;
    }
