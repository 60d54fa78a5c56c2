use Rattle.std.proofs.Common.{refl, sym, ap, subst, ◌∙◌, arith, length}
use Rattle.std.specs.Vec.Iter.{into_iter_items}
use Rattle.txs_audit.specs.Parted.{sought_by, sought_in}
use Rattle.txs_audit.specs.Pieced.{IsFound, both, nothing}
use Rattle.txs_audit.proofs.Parting.{both_nothing, both_three, nothing_left}
use Rattle.txs_audit.proofs.joining.joined.Goals as goal

pub loop-handle-init : goal.loop-handle-init
loop-handle-init g c =
    let gives = c.into_iter-handle-iterator.ensures.into_iter_gives in
    let many = ap length gives.0 in
    let whole = c.args.handles.ok.0 in (
      nothing,
      record { finding = refl; serial = λ fine. refl },
      ap (sought_by g.J.Judge) gives.0,
      omega (arith, gives.1, many, whole),
    )

pub loop-handle-preserved : goal.loop-handle-preserved
loop-handle-preserved g c =
    let inv = c.loop-handle.invariant in
    let steps = c.in-Some.ensures.steps in
    let t = sought_in g.J.Judge c.in-Some.handle.promise in
    let rest = into_iter_items c.next.new.self in
    let fewer = steps.1 in
    let was = inv.3 in
    let more = ap length steps.0 in (
      both inv.0 t,
      c.both-all.ensures inv.0 t inv.1 c.in_ok-found.ensures,
      both_three inv.0 t (sought_by g.J.Judge rest) ∙ (ap (λ hs. both inv.0 (sought_by g.J.Judge hs)) (sym steps.0) ∙ inv.2),
      omega (arith, fewer, was, more),
    )

pub returns : goal.returns
returns g c =
    let inv = c.loop-handle.invariant in
    let none = c.in-None.ensures.steps in
    let empty = nothing_left (into_iter_items c.loop-handle.handle-iterator) (sym inv.3 ∙ none.0) in
    subst (λ s. IsFound s c.loop-handle.all) (sym (both_nothing inv.0) ∙ (ap (λ hs. both inv.0 (sought_by g.J.Judge hs)) (sym empty) ∙ inv.2)) inv.1
