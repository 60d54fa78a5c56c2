use Rattle.std.proofs.Common.{◌≡◌, ◌≤◌, ◌∙◌, length, rules, arith}
use Rattle.txs_world_shared.specs.Kept.{atoms_of}
use Rattle.txs_world_shared.proofs.Apart.{each_new}
use Rattle.txs_machine.proofs.schedule.Entries.into_report.Goals as goal

-- one book for each atom, since each cell has a number that a cell id has
pub returns-clause-report : goal.returns-clause-report
returns-clause-report c =
    let few : length c.args.shared.cells ≤ 65535 = search rules in
    let atoms : length c.in_ok-book.atom_books.items ≡ length (atoms_of 0 c.args.shared.cells) = search rules in
    record {
      books = search rules;
      atoms = atoms ∙ each_new 0 c.args.shared.cells (omega (arith, few));
      cells = search rules;
      failed = search rules;
    }
