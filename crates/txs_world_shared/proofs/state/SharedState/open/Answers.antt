use Rattle.txs_world_shared.proofs.Opening.{opened_kept, opened_shared}
use Rattle.txs_world_shared.proofs.state.SharedState.open.Goals as goal

pub invariant_of-result : goal.invariant_of-result
invariant_of-result c = opened_kept c.args.cells.now c.in_ok-copies.copies.items c.args.threads c.in_ok-store.store c.in_ok-atoms.atoms.items c.in_ok-places.places.items c.in_ok-copies.ensures c.in_ok-store.ensures c.in_ok-atoms.ensures c.in_ok-places.ensures

pub returns-clause-untouched : goal.returns-clause-untouched
returns-clause-untouched c = opened_shared c.args.cells.now c.in_ok-copies.copies.items c.args.threads c.in_ok-store.store c.in_ok-atoms.atoms.items c.in_ok-copies.ensures c.in_ok-store.ensures c.in_ok-atoms.ensures
