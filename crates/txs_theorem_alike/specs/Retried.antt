-- A computed run in which a transaction has to run again: so there are runs as the law of retries is about.
use Rattle.std.specs.Prelude.{◌≡◌, ℕ, List, []}
use Rattle.txs_value_cell.specs.declared.cell.CellDefinition.{CellDefinition}
use Rattle.txs_value_data.specs.declared.fault.Span.{Span}
use Rattle.txs_code_meaning.specs.Machine.{ThreadCode}
use Rattle.txs_theorem_runs.specs.Run.{plays}
use Rattle.txs_theorem_alike.specs.Free.{reruns_in}
use Rattle.txs_theorem_alike.specs.Needed.{one_ref}
use Rattle.txs_theorem_alike.specs.Safe.{StandsBefore, OnlyTries}
use Rattle.txs_theorem_alike.specs.States.{after_turns}

-- Two threads run the same code. The first stands where it begins a transaction. In some turns it only tries that, with turns of the second between them, and stands where it begins it anew. It has one retry in the
-- store's journal.
pub record TriesInVain (cells : List CellDefinition) : Type 0 where
  pub codes : ℕ → ThreadCode
  pub span : Span
  pub turns : List ℕ
  pub begins : StandsBefore (codes 0) span ((plays cells 2 codes []).actors 0)
  pub tries : OnlyTries cells 2 codes 0 turns (plays cells 2 codes [])
  pub anew : StandsBefore (codes 0) span ((after_turns cells 2 codes turns (plays cells 2 codes [])).actors 0)
  pub retried : reruns_in 0 ((after_turns cells 2 codes turns (plays cells 2 codes [])).shared.books 0) ≡ 1

abbrev pub RetriesOccur : Type 0
RetriesOccur = (d : CellDefinition) → TriesInVain (one_ref d)
