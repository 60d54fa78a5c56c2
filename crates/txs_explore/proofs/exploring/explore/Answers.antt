use Rattle.std.proofs.Common.{◌≡◌, [], true, Some, refl, rules, sym, ap, subst}
use Rattle.txs_explore.specs.Found.{AreWays}
use Rattle.txs_explore.proofs.Promised.{all_are_found, few_are_all, no_ways, ways_are_runs}
use Rattle.txs_explore.proofs.exploring.explore.Goals as goal

pub returns-clause-runs : goal.returns-clause-runs
returns-clause-runs c =
    let code = c.args.code.now in
    let limit = c.args.limits.max_steps in
    ways_are_runs code limit c.search_all.new.found.ways.items (c.in_ok-whole.ensures.ways (c.in_ok-within.ensures.ways (subst (AreWays code limit) (sym c.new.ensures.items) (no_ways code limit))))

pub returns-clause-all : goal.returns-clause-all
returns-clause-all c whole =
    let code = c.args.code.now in
    let limit = c.args.limits.max_steps in
    let new = c.search_all.new.found.ways.items in
    all_are_found code limit c.args.limits.depth new (c.in_ok-whole.ensures.all whole new (λ e h. h))

pub returns-clause-few : goal.returns-clause-few
returns-clause-few c most is =
    let code = c.args.code.now in
    let limit = c.args.limits.max_steps in
    let new = c.search_all.new.found.ways.items in
    few_are_all code limit c.args.limits.depth most new (c.in_ok-within.ensures.all most is new c.in_ok-whole.ensures.kept)
