use Rattle.std.proofs.Common.{◌≡◌, length}
use Rattle.std.specs.Vec.Iter.{into_iter_items, into_iter_len}
use Rattle.txs_audit.specs.Parted.{sought_by}
use Rattle.txs_audit.specs.Pieced.{IsFound, Sought, both}
use Rattle.txs_audit.proofs.joining.joined.Given as goal

-- what is found so far, and what is sought of the other workers, are all
abbrev pub invariant-loop-handle : goal.invariant-loop-handle
invariant-loop-handle g l =
    (s : Sought) × IsFound s l.all × (both s (sought_by g.J.Judge (into_iter_items l.handle-iterator)) ≡ sought_by g.J.Judge l.fn.handles.items)
    × (into_iter_len l.handle-iterator ≡ length (into_iter_items l.handle-iterator))
