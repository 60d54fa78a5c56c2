use Rattle.txs_explore.proofs.Endings.{ends_over}
use Rattle.txs_explore.proofs.search_laws.ends_are_over.Goals as goal

pub returns : goal.returns
returns c = ends_over c.serve_keeps.ensures c.every_ask_is_lawful.ensures c.opening_holds.ensures c.play_holds.ensures
