-- Where an audit starts its workers.
use Rattle.std.specs.Prelude.{◌≡◌, suc, true, length, ◌++◌}
use Rattle.txs_tree_meaning.specs.Tree.{PlainProgram}
use Rattle.txs_theorem_audit.specs.Audited.{PlainReport, PlainTerms, Finding, Fine, and_then, books_of}
use Rattle.txs_theorem_audit.specs.Verdict.{atoms_found, atoms_from, ends_found, fits_sizes, order_found, store_found, traces_found}

-- what is found of how actors ended, and then of the order of all events
abbrev pub actors_found : PlainProgram → PlainTerms → PlainReport → Finding
actors_found p w r = and_then (ends_found p w r) (order_found p r)

-- Without workers an audit has found nothing: the report has the sizes of the program's, its traces name its events, its books are legal and leave its
-- cells, its actors ended as the run's terms say, and all events have an order.
pub record NeedsWorkers (p : PlainProgram) (w : PlainTerms) (r : PlainReport) : Type 0 where
  pub sizes : fits_sizes p r ≡ true
  pub traces : traces_found (books_of r) (suc (length r.atom_books)) 0 (r.threads ++ r.agents) ≡ Fine
  pub store : store_found p r ≡ Fine
  pub atoms : atoms_found p r (atoms_from 0 p.cells) ≡ Fine
  pub ends : ends_found p w r ≡ Fine
  pub order : order_found p r ≡ Fine
