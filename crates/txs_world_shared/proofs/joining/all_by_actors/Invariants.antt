use Rattle.std.proofs.Common.{drop}
use Rattle.txs_world_shared.specs.Apart.{AllByActors, AreLegal}
use Rattle.txs_world_shared.proofs.joining.all_by_actors.Given as goal

abbrev pub invariant-loop-atom : goal.invariant-loop-atom
invariant-loop-atom l =
    record {
      on : AllByActors l.actors l.atoms → AllByActors l.actors (drop l.atom-index l.atoms);
      back : AllByActors l.actors (drop l.atom-index l.atoms) → AllByActors l.actors l.atoms;
      legal : AreLegal (drop l.atom-index l.atoms) → AreLegal l.atoms;
    }
