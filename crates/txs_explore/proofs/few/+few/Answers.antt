use Rattle.std.proofs.Common.{◌≡◌, ◌<◌, ◌≤◌, ◌+◌, ◌-◌, ◌*◌, ◌∷◌, ◌++◌, [], Bool, Some, true, false, nat_le, length, get_or, suc, refl, rules, sym, ap, subst, ◌∙◌, arith}
use Rattle.std.proofs.lemmas.Bool.Decides.{nat_tests}
use Rattle.txs_explore.specs.System.{has}
use Rattle.txs_explore.specs.Runners.{asking, seen}
use Rattle.txs_explore.specs.Told.{explored, begins}
use Rattle.txs_explore.specs.Looked.{state_at}
use Rattle.txs_explore.specs.Found.{HasAfforded, HasSearchedFew, switched_in}
use Rattle.txs_explore.proofs.Adding.{ended_few, few_branched, few_refused, few_turned, not_searched, searched_as}
use Rattle.txs_explore.proofs.Lists.{none_there}
use Rattle.txs_explore.proofs.Loops.{afford_begun, afford_done, afford_next}
use Rattle.txs_explore.proofs.Nodes.{due_are}
use Rattle.txs_explore.proofs.Stages.{many_few, may_below, may_more}
use Rattle.txs_explore.proofs.Tests.{has_at}
use Rattle.txs_explore.proofs.few.+few.Goals as goal

-- ---- a place of the search

pub search_few-look_behind-requires-clause-named : goal.search_few-look_behind-requires-clause-named
search_few-look_behind-requires-clause-named t c =
    may_below c.args.code.now c.args.max_steps c.args.asks.now (seen (explored c.args.code.now c.args.max_steps) (begins c.args.code.now)) c.requires.may

pub search_few-due-requires : goal.search_few-due-requires
search_few-due-requires t c =
    let m = c.in_ok-node.ensures.one_each in
    let f = many_few c.args.code.now c.args.max_steps in
    let r = c.requires.few in
    omega (arith, m, f, r)

pub search_few-end_at-requires : goal.search_few-end_at-requires
search_few-end_at-requires t c =
    let same = ap length c.in_ok-node.ensures.cells in
    let r = c.requires.few in
    omega (arith, same, r)

pub search_few-returns-then-is_empty : goal.search_few-returns-then-is_empty
search_few-returns-then-is_empty t c =
    let none = none_there c.in_ok-due.due.items c.in_ok-due.due.len (omega (arith, c.in_ok-due.due.ok.0)) (sym c.is_empty.ensures ∙ c.if-is_empty.true) in
    ended_few c.args.code.now c.args.max_steps c.args.asks.now c.in_ok-node.node c.in_ok-node.ensures c.requires.may c.in_ok-due.due.items c.in_ok-due.ensures none c.args.found.now.ways.items c.spend.new.self.ways.items c.end_at.new.found.ways.items
    c.spend.ensures c.in_ok-end_at.ensures c.args.depth c.args.left c.args.last true

pub search_few-returns-then-depth-eq0 : goal.search_few-returns-then-depth-eq0
search_few-returns-then-depth-eq0 t c =
    not_searched c.args.code.now c.args.max_steps (HasSearchedFew c.args.code.now c.args.max_steps c.args.depth c.args.left c.args.last c.args.asks.now) c.args.found.now.ways.items c.spend.new.self.ways.items c.spend.ensures

pub search_few-returns-then-found-eq0 : goal.search_few-returns-then-found-eq0
search_few-returns-then-found-eq0 t c =
    not_searched c.args.code.now c.args.max_steps (HasSearchedFew c.args.code.now c.args.max_steps c.args.depth c.args.left c.args.last c.args.asks.now) c.args.found.now.ways.items c.spend.new.self.ways.items c.spend.ensures

pub search_few-branch_few-requires : goal.search_few-branch_few-requires
search_few-branch_few-requires t c =
    let low : 3 * (c.args.depth - 1) + 2 < t = omega (arith, c.decreases, c.if-depth-eq0.false) in
    (low, (c.requires.few, (c.requires.small, (c.requires.may, search (rules, c.in_ok-due.ensures ∙ due_are c.args.code.now c.args.max_steps c.args.asks.now c.in_ok-node.node c.in_ok-node.ensures)))))

pub search_few-returns : goal.search_few-returns
search_few-returns t c =
    let code = c.args.code.now in
    let limit = c.args.max_steps in
    let due = c.in_ok-due.due.items in
    let some : (due ≡ [] → ⊥) = search rules in
    let n = c.args.depth - 1 in
    let deep : c.args.depth ≡ suc n = omega (arith, c.if-depth-eq0.false) in
    let is = c.in_ok-due.ensures ∙ due_are code limit c.args.asks.now c.in_ok-node.node c.in_ok-node.ensures in
    searched_as code limit (HasAfforded code limit n c.args.left c.args.last c.args.asks.now due) (HasSearchedFew code limit c.args.depth c.args.left c.args.last c.args.asks.now) c.args.found.now.ways.items c.spend.new.self.ways.items
    c.branch_few.new.found.ways.items c.in_ok-whole.whole c.spend.ensures (few_branched code limit c.args.asks.now due n c.args.depth c.args.left c.args.last is some deep) (search (rules, c.in_ok-whole.ensures))

-- ---- behind an ask of each

pub branch_few-loop-k-init : goal.branch_few-loop-k-init
branch_few-loop-k-init t c = afford_begun c.args.code.now c.args.max_steps c.args.depth c.args.asks.now c.args.due.now c.args.found.now.ways.items c.args.left c.args.last c.args.found.now.ways.items refl

pub branch_few-turn_few-requires : goal.branch_few-turn_few-requires
branch_few-turn_few-requires t c =
    let within : c.loop-k.k-index < length c.args.due.now = search rules in
    let low : 3 * c.args.depth + 1 < t = omega (arith, c.decreases) in
    (low, (c.requires.few, (c.requires.small, (c.requires.may, (c.requires.due, search (rules, has_at c.args.due.now c.loop-k.k-index within))))))

pub branch_few-loop-k-preserved : goal.branch_few-loop-k-preserved
branch_few-loop-k-preserved t c =
    let within : c.loop-k.k-index < length c.args.due.now = search rules in
    afford_next c.args.code.now c.args.max_steps c.args.depth c.args.asks.now c.args.due.now c.args.found.now.ways.items c.args.left c.args.last c.loop-k.k-index c.loop-k.found.ways.items c.turn_few.new.found.ways.items c.loop-k.whole c.in_ok-there.there within
    c.loop-k.invariant (search (rules, c.in_ok-there.ensures))

pub branch_few-returns : goal.branch_few-returns
branch_few-returns t c =
    let past : length c.args.due.now ≤ c.loop-k.k-index = search rules in
    afford_done c.args.code.now c.args.max_steps c.args.depth c.args.asks.now c.args.due.now c.args.found.now.ways.items c.args.left c.args.last c.loop-k.k-index c.loop-k.found.ways.items c.loop-k.whole past c.loop-k.invariant

-- ---- one of them

pub turn_few-returns-then-cost-left : goal.turn_few-returns-then-cost-left
turn_few-returns-then-cost-left t c =
    let cost : c.switched-cost.result ≡ switched_in c.args.due.now c.args.last c.args.k = c.switched-cost.ensures in
    let past = c.if-cost-left.true in
    let refused : nat_le (switched_in c.args.due.now c.args.last c.args.k) c.args.left ≡ false = grind (arith, nat_tests, cost, past) in
    few_refused c.args.code.now c.args.max_steps c.args.depth c.args.left c.args.asks.now c.args.due.now c.args.last c.args.k c.args.found.now.ways.items c.args.found.now.ways.items true c.requires.due refused refl

pub turn_few-search_few-requires : goal.turn_few-search_few-requires
turn_few-search_few-requires t c =
    let code = c.args.code.now in
    let limit = c.args.max_steps in
    let low : 3 * c.args.depth < t = omega (arith, c.decreases) in
    let more : c.in_ok-more.more.items ≡ c.args.asks.now ++ c.args.k ∷ [] = c.in_ok-more.ensures in
    let one : has c.args.k ((asking (explored code limit)).enabled (state_at code limit c.args.asks.now)) ≡ true = ap (has c.args.k) (sym c.requires.due) ∙ c.requires.one in
    let may = may_more (asking (explored code limit)) c.args.asks.now c.args.k (seen (explored code limit) (begins code)) c.requires.may one in
    (low, (c.requires.few, (c.requires.small, search (rules, more, may))))

pub turn_few-returns : goal.turn_few-returns
turn_few-returns t c =
    let code = c.args.code.now in
    let limit = c.args.max_steps in
    let cost : c.switched-cost.result ≡ switched_in c.args.due.now c.args.last c.args.k = c.switched-cost.ensures in
    let within = c.if-cost-left.false in
    let afforded : nat_le (switched_in c.args.due.now c.args.last c.args.k) c.args.left ≡ true = grind (arith, nat_tests, cost, within) in
    few_turned code limit c.args.depth c.args.left (c.args.left - c.switched-cost.result) c.args.asks.now c.in_ok-more.more.items c.args.due.now c.args.last c.args.k c.args.found.now.ways.items c.search_few.new.found.ways.items c.in_ok-whole.whole c.requires.due afforded
    (ap (λ d. c.args.left - d) cost) c.in_ok-more.ensures (search (rules, c.in_ok-whole.ensures))
