use Rattle.std.proofs.Common.{◌≡◌, ◌+◌, ◌≤◌, ◌^◌, length, arith, refl, sym, subst, ◌∙◌}
use mathlib.Core.List.{IsPrefix}
use Rattle.txs_history.specs.Asked.{History}
use Rattle.txs_history_run.specs.Back.{AreWhole, AtomsLeft}
use Rattle.txs_history_run.proofs.Back.{atom_lacks, atoms_over, left_next, read_nth}
use Rattle.txs_history_run.proofs.ending.count_atoms.Goals as goal

pub whole-requires : goal.whole-requires
whole-requires g c =
    let xs = c.args.atoms.now in
    let x = c.index-atoms-i.result in
    let seen : IsPrefix x.log.log c.args.past.now = c.requires c.loop-i.i x c.loop-i-test.true (read_nth xs c.loop-i.i x c.loop-i-test.true c.index-atoms-i.is) in
    record { seen = subst (λ (h : History). IsPrefix x.log.log h) (sym c.loop-i.invariant.0) seen }

pub loop-i-init : goal.loop-i-init
loop-i-init g c = (refl, record { each = λ k a less there. absurd (omega (arith, less)); counted = refl })

pub returns-in_err-count-clause-lacks : goal.returns-in_err-count-clause-lacks
returns-in_err-count-clause-lacks g c none =
    let xs = c.args.atoms.now in
    let x = c.index-atoms-i.result in
    let at = read_nth xs c.loop-i.i x c.loop-i-test.true c.index-atoms-i.is in
    atom_lacks g.J.Run.code.cells c.loop-i.past c.whole.new.past xs c.loop-i.i x at (c.whole.ensures.lacks c.in_err-count.was)

pub returns-in_err-sum-clause-lacks : goal.returns-in_err-sum-clause-lacks
returns-in_err-sum-clause-lacks g c none w =
    let cells = g.J.Run.code.cells in
    let xs = c.args.atoms.now in
    let x = c.index-atoms-i.result in
    let at = read_nth xs c.loop-i.i x c.loop-i-test.true c.index-atoms-i.is in
    let over : 2 ^ 64 ≤ c.loop-i.sum + c.in_ok-count.count = omega (arith, c.in_err-sum.ensures) in
    atoms_over cells c.loop-i.past xs c.loop-i.i x c.loop-i.sum c.in_ok-count.count at c.in_ok-count.ensures.count c.loop-i.invariant.1 c.loop-i-test.true over
    (subst (λ (h : History). AreWhole cells h xs) c.in_ok-count.ensures.seen w)

pub loop-i-preserved : goal.loop-i-preserved
loop-i-preserved g c =
    let cells = g.J.Run.code.cells in
    let h = c.loop-i.past in
    let xs = c.args.atoms.now in
    let x = c.index-atoms-i.result in
    let at = read_nth xs c.loop-i.i x c.loop-i-test.true c.index-atoms-i.is in
    let sum : c.loop-i.sum + c.in_ok-count.count ≡ c.in_ok-sum.sum = omega (arith, c.in_ok-sum.ensures.1) in
    let next = subst (λ n. AtomsLeft cells h (c.loop-i.i + 1) xs n) sum (left_next cells h xs c.loop-i.i x c.loop-i.sum c.in_ok-count.count at c.in_ok-count.ensures.atom c.in_ok-count.ensures.count c.loop-i.invariant.1) in
    (c.in_ok-count.ensures.seen ∙ c.loop-i.invariant.0, subst (λ (k : History). AtomsLeft cells k (c.loop-i.i + 1) xs c.in_ok-sum.sum) (sym c.in_ok-count.ensures.seen) next)

pub returns-clause-seen : goal.returns-clause-seen
returns-clause-seen g c = c.loop-i.invariant.0

pub returns-clause-left : goal.returns-clause-left
returns-clause-left g c =
    let cells = g.J.Run.code.cells in
    let xs = c.args.atoms.now in
    let all : c.loop-i.i ≡ length xs = omega (arith, c.loop-i-test.false, c.loop-i.auto.i-end) in
    subst (λ (h : History). AtomsLeft cells h (length xs) xs c.loop-i.sum) c.loop-i.invariant.0 (subst (λ n. AtomsLeft cells c.loop-i.past n xs c.loop-i.sum) all c.loop-i.invariant.1)
