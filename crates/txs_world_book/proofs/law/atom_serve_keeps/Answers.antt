use Rattle.txs_world_book.proofs.Atoms.{atom_serves}
use Rattle.txs_world_book.proofs.law.atom_serve_keeps.Goals as goal

pub returns : goal.returns
returns c = λ cell v a q book l h. atom_serves cell v a q book l h
