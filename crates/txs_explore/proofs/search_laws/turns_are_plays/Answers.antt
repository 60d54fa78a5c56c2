use Rattle.txs_explore.proofs.Playing.{turns_are_plays}
use Rattle.txs_explore.proofs.search_laws.turns_are_plays.Goals as goal

pub returns : goal.returns
returns c = turns_are_plays
