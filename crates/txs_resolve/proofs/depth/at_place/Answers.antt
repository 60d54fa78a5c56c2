use Rattle.std.proofs.Common.{sym, ◌∙◌}
use Rattle.txs_resolve.proofs.LevelLists.{place_missing, place_found}
use Rattle.txs_resolve.proofs.depth.at_place.Goals as goal

pub returns-in-None : goal.returns-in-None
returns-in-None c = sym (place_missing c.args.known.now c.args.number c.from.result c.from.ensures (sym c.in-None.ensures.lookup.0))

pub returns-in-Some : goal.returns-in-Some
returns-in-Some c = c.from-in-Some.ensures ∙ c.in-Some.ensures.lookup.1 ∙ place_found c.args.known.now c.from.result c.args.number c.in-Some.levels.now c.from.ensures (sym c.in-Some.ensures.lookup.0)
