-- How all actors ended.
use Rattle.std.proofs.Common.{◌≡◌, ℕ, List, length, Option, sym, ap, ◌∙◌}
use Rattle.std.specs.Prelude.{map}
use Rattle.txs_value_cell.specs.Agents.{agents_from}
use Rattle.txs_value_data.specs.declared.value.CellId.{CellId}
use Rattle.txs_world_book.specs.Served.{cells_of}
use Rattle.txs_world_protocol.specs.declared.report.ActorReport.{ActorReport}
use Rattle.txs_world_protocol.specs.declared.report.Report.{Report}
use Rattle.txs_tree_meaning.specs.View.{Parts, program_of}
use Rattle.txs_theorem_audit.specs.Audited.{PlainReport, PlainTerms, Finding, Fine, Off, and_then, ran_as, report_as}
use Rattle.txs_theorem_audit.specs.Verdict.{agents_over, ends_found, threads_over}
use Rattle.txs_audit_order.specs.Named.{off_in}

module _ (p : Parts) (w : PlainTerms) (b : PlainReport) (r : Report) (same : report_as r ≡ b) (ts : List ActorReport) (ts_are : ts ≡ r.threads.items) where
  abbrev of_agents : Finding
  of_agents = agents_over w (cells_of p.cells) r.book.items (length (program_of p).threads) (agents_from 0 p.cells) (map ran_as r.agents.items)

  both_are : and_then (threads_over w 0 (map ran_as ts)) of_agents ≡ ends_found (program_of p) w b
  both_are = ap (λ l. and_then (threads_over w 0 (map ran_as l)) of_agents) ts_are ∙ ap (ends_found (program_of p) w) same

  -- a thread's end is wrong
  pub by_threads : (a i : ℕ) → Off a i ≡ threads_over w 0 (map ran_as ts) → Off a i ≡ ends_found (program_of p) w b
  by_threads a i off = ap (λ f. and_then f of_agents) off ∙ both_are

  -- none is
  pub by_agents : Fine ≡ threads_over w 0 (map ran_as ts) → (o : Option (ℕ × ℕ)) (gs : List CellId) (rans : List ActorReport) → gs ≡ agents_from 0 p.cells → rans ≡ r.agents.items
      → off_in o ≡ agents_over w (cells_of p.cells) b.book (length (program_of p).threads) gs (map ran_as rans) → off_in o ≡ ends_found (program_of p) w b
  by_agents fine o gs rans gs_are rans_are off =
      off
      ∙ ap (λ x. agents_over w (cells_of p.cells) x.book (length (program_of p).threads) gs (map ran_as rans)) (sym same)
      ∙ ap (λ l. agents_over w (cells_of p.cells) r.book.items (length (program_of p).threads) l (map ran_as rans)) gs_are
      ∙ ap (λ l. agents_over w (cells_of p.cells) r.book.items (length (program_of p).threads) (agents_from 0 p.cells) (map ran_as l)) rans_are
      ∙ ap (λ f. and_then f of_agents) fine
      ∙ both_are
