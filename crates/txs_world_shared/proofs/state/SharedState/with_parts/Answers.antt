use Rattle.std.proofs.Common.{rules}
use Rattle.txs_world_shared.proofs.Apart.{joined_kept}
use Rattle.txs_world_shared.proofs.state.SharedState.with_parts.Goals as goal

pub invariant_of-result : goal.invariant_of-result
invariant_of-result c =
    let x = c.self.inside in
    joined_kept c.args.self.cells x.cells.items c.args.store c.args.atoms.items x.places.items (search rules) (search rules) c.requires.parts c.requires.legal c.requires.stands
