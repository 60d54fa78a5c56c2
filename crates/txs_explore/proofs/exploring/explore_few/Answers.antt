use Rattle.std.proofs.Common.{◌≡◌, true, None, refl, rules, sym, ap}
use Rattle.txs_explore.proofs.Loops.{few_begun, few_next, few_stopped}
use Rattle.txs_explore.proofs.exploring.explore_few.Goals as goal

pub loop-most-init : goal.loop-most-init
loop-most-init c = few_begun c.args.code.now c.args.limits.max_steps c.args.limits.depth c.args.found.now.ways.items c.args.found.now.ways.items refl

pub returns-then-not-whole : goal.returns-then-not-whole
returns-then-not-whole c =
    few_stopped c.args.code.now c.args.limits.max_steps c.args.limits.depth c.loop-most.most c.args.found.now.ways.items c.loop-most.found.ways.items c.search_few.new.found.ways.items c.loop-most.within c.in_ok-whole.whole c.loop-most.invariant c.in_ok-whole.ensures

pub returns-then-asks_now-asks_before : goal.returns-then-asks_now-asks_before
returns-then-asks_now-asks_before c =
    let went : c.in_ok-whole.whole ≡ true = search rules in
    few_next c.args.code.now c.args.limits.max_steps c.args.limits.depth c.loop-most.most c.args.found.now.ways.items c.loop-most.found.ways.items c.search_few.new.found.ways.items c.loop-most.within c.in_ok-whole.whole went c.loop-most.invariant c.in_ok-whole.ensures

pub loop-most-preserved : goal.loop-most-preserved
loop-most-preserved c =
    let went : c.in_ok-whole.whole ≡ true = search rules in
    few_next c.args.code.now c.args.limits.max_steps c.args.limits.depth c.loop-most.most c.args.found.now.ways.items c.loop-most.found.ways.items c.search_few.new.found.ways.items c.loop-most.within c.in_ok-whole.whole went c.loop-most.invariant c.in_ok-whole.ensures
