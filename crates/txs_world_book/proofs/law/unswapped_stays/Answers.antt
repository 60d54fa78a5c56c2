use Rattle.txs_world_book.proofs.Atoms.{atom_unswapped}
use Rattle.txs_world_book.proofs.law.unswapped_stays.Goals as goal

pub returns : goal.returns
returns c = λ v book p h. atom_unswapped v book p h
