use Rattle.std.proofs.Common.{◌≡◌, ◌++◌, ℕ, List, [], drop}
use Rattle.txs_cli_report.specs.Lent.{script_of}
use Rattle.txs_cli_report.specs.Lines.{status_from, AreLessons}
use Rattle.txs_cli_report.proofs.told.of_ends.Given as goal

-- with what is told of the threads to come, what is told so far is what is told of all
abbrev pub invariant-loop-k : goal.invariant-loop-k
invariant-loop-k l =
    record {
      output : l.told.output.items ≡ [];
      errors : (rest : List ℕ) → AreLessons (script_of l.script) l.k (drop l.k l.report.threads.items) rest → AreLessons (script_of l.script) 0 l.report.threads.items (l.told.errors.items ++ rest);
      status : status_from l.told.status (drop l.k l.report.threads.items) ≡ status_from 0 l.report.threads.items;
    }
