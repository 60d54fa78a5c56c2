use Rattle.std.proofs.Common.{◌≡◌, ◌≤◌, drop, length}
use Rattle.txs_tree_meaning.specs.View.{program_of}
use Rattle.txs_theorem_audit.specs.Audited.{report_as}
use Rattle.txs_theorem_audit.specs.Verdict.{atoms_found}
use Rattle.txs_audit_evidence.specs.Evidence.{AreSwaps}
use Rattle.txs_audit_evidence.proofs.opening.open_each.Given as goal

-- the books so far are gone through, and what is found is what the others give
abbrev pub invariant-loop-n : goal.invariant-loop-n
invariant-loop-n l =
    record {
      swaps : AreSwaps l.program l.report l.all.items;
      many : length l.all.items ≡ l.n;
      few : l.n ≤ length l.atoms;
      rest : atoms_found (program_of l.program) (report_as l.report) (drop l.n l.atoms) ≡ atoms_found (program_of l.program) (report_as l.report) l.atoms;
    }
