use Rattle.std.proofs.Common.{arith, subst}
use Rattle.txs_theorem_audit.specs.Verdict.{atoms_from}
use Rattle.txs_theorem_audit.proofs.Listing.{within}
use Rattle.txs_audit_evidence.specs.Evidence.{AtomsOpened, StoreOpened}
use Rattle.txs_audit_evidence.proofs.opening.open_books.Goals as goal

pub invariant_of-result : goal.invariant_of-result
invariant_of-result c =
    let p = c.args.program.now in
    let r = c.args.report.now in
    let store = subst (StoreOpened p r) c.in-Ok.is c.in_ok-replay.ensures in
    let atoms = subst (AtomsOpened p r) c.in-Ok-2.is c.in_ok-swaps.ensures in
    let many = atoms.1 in
    record {
      legal = record {
        fits = c.requires;
        store = store.1;
        atoms = λ n d there. (let lt = within (atoms_from 0 p.cells) n d there in atoms.0.legal n d (omega (arith, lt, many)) there);
      };
      replayed = store.0;
      many = many;
      swapped = atoms.0.swapped;
      table = c.in_ok-functions.ensures;
    }
