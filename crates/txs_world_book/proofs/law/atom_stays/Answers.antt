use Rattle.txs_world_book.proofs.Atoms.{atom_front}
use Rattle.txs_world_book.proofs.law.atom_stays.Goals as goal

pub returns : goal.returns
returns c = λ v book more k le. atom_front v book more k le
