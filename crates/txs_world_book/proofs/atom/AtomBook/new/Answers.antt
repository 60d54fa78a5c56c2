use Rattle.std.proofs.Common.{rules}
use Rattle.txs_world_book.proofs.Atoms.{atom_opened}
use Rattle.txs_world_book.proofs.atom.AtomBook.new.Goals as goal

pub invariant_of-result : goal.invariant_of-result
invariant_of-result c = atom_opened _ _ _ _ (search rules) (search rules)
