use Rattle.std.proofs.Common.{◌≡◌, ◌∙◌, ◌∷◌, [], ap, arith, length}
use Rattle.std.proofs.lemmas.List.{length-append}
use Rattle.txs_value_data.specs.Rows.{stored}
use Rattle.txs_value_data.specs.View.{plain_of}
use Rattle.txs_value_data.proofs.value.Body.push.Goals as goal

pub invariant_of-self-then-len-lt-ROW : goal.invariant_of-self-then-len-lt-ROW
invariant_of-self-then-len-lt-ROW c = omega (arith, ap length c.in_ok-push.ensures.ok, length-append c.self.inside.tail (plain_of c.args.item ∷ []), c.len.ensures)

pub push_leaf-requires-clause-full : goal.push_leaf-requires-clause-full
push_leaf-requires-clause-full c =
    let many : length c.self.inside.tail ≡ 32 = omega (arith, c.len.ensures, c.self.invariant) in
    ap length (c.in_ok-shared.ensures.ok ∙ c.replace-full.ensures.value) ∙ many

pub push_leaf-requires-clause-room : goal.push_leaf-requires-clause-room
push_leaf-requires-clause-room c =
    let es = c.self.inside.tail in
    let many : length es ≡ 32 = omega (arith, c.len.ensures, c.self.invariant) in
    omega (arith, c.requires, ap length c.self.view_is, length-append (stored c.self.inside.root) es, many)
