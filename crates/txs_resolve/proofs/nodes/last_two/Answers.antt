use Rattle.std.proofs.Common.{◌∷◌, [], ◌++◌, ap, ◌∙◌, length, length-append, append_assoc, arith}
use Rattle.txs_resolve.proofs.nodes.last_two.Goals as goal

pub boxed_last-requires-2 : goal.boxed_last-requires-2
boxed_last-requires-2 c = omega (arith, c.requires, ap length c.in_ok-other.ensures, length-append c.boxed_last.new.nodes.items (c.in_ok-other.other.value ∷ []))

pub returns : goal.returns
returns c =
    let one = c.in_ok-one.one.value in
    let other = c.in_ok-other.other.value in
    c.in_ok-other.ensures ∙ ap (λ l. l ++ other ∷ []) c.in_ok-one.ensures ∙ append_assoc c.boxed_last-2.new.nodes.items (one ∷ []) (other ∷ [])
