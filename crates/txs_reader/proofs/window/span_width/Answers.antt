use Rattle.std.proofs.Common.{◌≡◌, ap, ◌∙◌, arith}
use Rattle.std.proofs.lemmas.Bool.Decides.{nat_tests}
use Rattle.txs_reader.specs.Sign.{signs, width}
use Rattle.txs_reader.specs.Window.{total, first_within, begun}
use Rattle.txs_reader.proofs.Signs.{signs-empty, begun-none}
use Rattle.txs_reader.proofs.window.span_width.Goals as goal

pub returns-else-not-is_empty : goal.returns-else-not-is_empty
returns-else-not-is_empty c =
    let l = c.loop-begun in
    let none = ap (λ ss. total width (begun l.begun (first_within l.left ss))) (signs-empty l.rest.now (grind (arith, nat_tests))) in
    omega (arith, none, l.invariant.rest)

pub returns-after-loop-begun : goal.returns-after-loop-begun
returns-after-loop-begun c =
    let l = c.loop-begun in
    let ss = first_within l.left (signs l.rest.now) in
    let over : l.begun ≡ 0 = omega (arith, c.loop-begun-test.false) in
    let none = ap (λ n. total width (begun n ss)) over ∙ begun-none ss in
    omega (arith, none, l.invariant.rest)
