use Rattle.std.proofs.Common.{rules, ◌≡◌, ◌<◌, ◌+◌, ◌*◌, Err, refl, ap, ◌∙◌, arith}
use Rattle.txs_tree_meaning.specs.Sound.{nodes_in}
use Rattle.txs_tree_meaning.specs.View.{tree_of, trees_of}
use Rattle.txs_check.specs.Refused.{◌>>◌, inner, checked_all}
use Rattle.txs_check.specs.Rows.{rows, place_behind}
use Rattle.txs_check.specs.Signatures.{known_as}
use Rattle.txs_check.proofs.InTurn.{checked_by, nodes_of, rows_fewer}
use Rattle.txs_check.proofs.walk.+walk.Goals as goal

pub check_node-check_all-requires : goal.check_node-check_all-requires
check_node-check_all-requires t c =
    let low : 2 * nodes_in (trees_of c.rows_in_turn.result.0.now) + 1 < t = omega (arith, c.decreases, rows_fewer (tree_of c.args.node.now), ap nodes_of c.rows_in_turn.ensures) in
    (low, tt)

pub check_node-check_all-requires-2 : goal.check_node-check_all-requires-2
check_node-check_all-requires-2 t c =
    let low : 2 * nodes_in (trees_of c.rows_in_turn.result.1.now) + 1 < t = omega (arith, c.decreases, rows_fewer (tree_of c.args.node.now), ap nodes_of c.rows_in_turn.ensures) in
    (low, tt)

pub check_node-check_all-requires-3 : goal.check_node-check_all-requires-3
check_node-check_all-requires-3 t c =
    let low : 2 * nodes_in (trees_of c.rows_in_turn.result.2.now) + 1 < t = omega (arith, c.decreases, rows_fewer (tree_of c.args.node.now), ap nodes_of c.rows_in_turn.ensures) in
    (low, tt)

pub check_node-returns-in_err-check_all : goal.check_node-returns-in_err-check_all
check_node-returns-in_err-check_all t c =
    let ks = known_as c.args.signatures.now in
    let z = c.args.zone in
    let e = tree_of c.args.node.now in
    let r = c.rows_in_turn.result in
    let p = place_behind z c.args.target e in
    let first = checked_all ks z (inner c.args.target) (trees_of r.0.now) in
    let behind = checked_all ks p.0 p.1 (trees_of r.1.now) >> checked_all ks p.0 p.1 (trees_of r.2.now) in
    let refused : c.from_residual-in_err-check_all.result ≡ Err c.in_err-check_all.field-0.0 = search rules in
    refused ∙ ap (λ x. x >> behind) (c.in_err-check_all.ensures ∙ ap (λ own. checked_all ks z own (trees_of r.0.now)) c.inner.ensures)
    ∙ ap (λ x. x >> (first >> behind)) c.in_ok-check_here.ensures
    ∙ checked_by ks z c.args.target e (rows (trees_of r.0.now) (trees_of r.1.now) (trees_of r.2.now)) p c.rows_in_turn.ensures refl

pub check_node-returns-in_err-check_all-2 : goal.check_node-returns-in_err-check_all-2
check_node-returns-in_err-check_all-2 t c =
    let ks = known_as c.args.signatures.now in
    let z = c.args.zone in
    let e = tree_of c.args.node.now in
    let r = c.rows_in_turn.result in
    let p = c.place_behind-zone.result in
    let first = checked_all ks z (inner c.args.target) (trees_of r.0.now) in
    let third = checked_all ks p.0 p.1 (trees_of r.2.now) in
    let behind = checked_all ks p.0 p.1 (trees_of r.1.now) >> third in
    let refused : c.from_residual-in_err-check_all-2.result ≡ Err c.in_err-check_all-2.field-0.0 = search rules in
    refused ∙ ap (λ x. x >> third) c.in_err-check_all-2.ensures
    ∙ ap (λ x. x >> behind) (c.in_ok-check_all.ensures ∙ ap (λ own. checked_all ks z own (trees_of r.0.now)) c.inner.ensures)
    ∙ ap (λ x. x >> (first >> behind)) c.in_ok-check_here.ensures
    ∙ checked_by ks z c.args.target e (rows (trees_of r.0.now) (trees_of r.1.now) (trees_of r.2.now)) p c.rows_in_turn.ensures c.place_behind-zone.ensures

pub check_node-returns : goal.check_node-returns
check_node-returns t c =
    let ks = known_as c.args.signatures.now in
    let z = c.args.zone in
    let e = tree_of c.args.node.now in
    let r = c.rows_in_turn.result in
    let p = c.place_behind-zone.result in
    let first = checked_all ks z (inner c.args.target) (trees_of r.0.now) in
    let third = checked_all ks p.0 p.1 (trees_of r.2.now) in
    let behind = checked_all ks p.0 p.1 (trees_of r.1.now) >> third in
    c.check_all-3.ensures ∙ ap (λ x. x >> third) c.in_ok-check_all-2.ensures
    ∙ ap (λ x. x >> behind) (c.in_ok-check_all.ensures ∙ ap (λ own. checked_all ks z own (trees_of r.0.now)) c.inner.ensures)
    ∙ ap (λ x. x >> (first >> behind)) c.in_ok-check_here.ensures
    ∙ checked_by ks z c.args.target e (rows (trees_of r.0.now) (trees_of r.1.now) (trees_of r.2.now)) p c.rows_in_turn.ensures c.place_behind-zone.ensures
