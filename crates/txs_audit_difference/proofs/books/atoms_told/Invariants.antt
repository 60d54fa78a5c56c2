use Rattle.std.proofs.Common.{◌≡◌, drop}
use Rattle.txs_tree_meaning.specs.View.{program_of}
use Rattle.txs_theorem_audit.specs.Audited.{report_as}
use Rattle.txs_audit_difference.specs.Difference.{atoms_told}
use Rattle.txs_audit_difference.proofs.books.atoms_told.Given as goal

-- what is told is what the other atoms tell
abbrev pub invariant-loop-n : goal.invariant-loop-n
invariant-loop-n l = atoms_told (program_of l.program) (report_as l.report) (drop l.n l.atoms) ≡ atoms_told (program_of l.program) (report_as l.report) l.atoms
