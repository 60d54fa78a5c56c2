use Rattle.std.proofs.Common.{◌∙◌, ◌≤◌, ◌<◌, ap, arith, rules, sym, Ok}
use Rattle.txs_value_data.specs.Limits.{most_depth}
use Rattle.txs_value_data.specs.PlainValue.{row_depth, plain_row}
use Rattle.txs_value_data.specs.View.{plains_of}
use Rattle.txs_value_data.specs.declared.value.Value.TheVariants.{Vector}
use Rattle.txs_value_apply.proofs.AssocLemmas.{vector_of-long, vector_of-deep, vector_of-made}
use Rattle.txs_value_apply.proofs.vectors.make_vector.Goals as goal

pub returns-then-len-gt-MOST_ITEMS : goal.returns-then-len-gt-MOST_ITEMS
returns-then-len-gt-MOST_ITEMS c = vector_of-long c.args.items.items (omega arith)

pub returns-then-not-are_within : goal.returns-then-not-are_within
returns-then-not-are_within c =
    let vs = c.args.items.items in
    let deep : most_depth ≤ row_depth (plain_row (plains_of vs)) = search rules in
    vector_of-deep vs (omega arith) deep

pub returns : goal.returns
returns c =
    let vs = c.args.items.items in
    let shallow : row_depth (plain_row (plains_of vs)) < most_depth = search rules in
    vector_of-made vs (omega arith) shallow ∙ ap (λ v. Ok (Vector v)) (sym c.in_ok-from_vec.ensures)
