use Rattle.txs_audit_order.proofs.Passing.{none_taken}
use Rattle.txs_audit_order.proofs.taking.last_cut.Goals as goal

pub reach_all-requires-clause-taking : goal.reach_all-requires-clause-taking
reach_all-requires-clause-taking c =
    none_taken c.args.lengths.now c.args.rows.now c.in_ok-cut.cut.items c.in_ok-passed.passed.items (c.in_ok-cut.ensures.items_if_clones_equal (λ y e. e)) (c.in_ok-passed.ensures.items_if_clones_equal (λ y e. e))
