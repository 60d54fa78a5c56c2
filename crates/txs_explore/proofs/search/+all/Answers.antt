use Rattle.std.proofs.Common.{◌≡◌, ◌<◌, ◌≤◌, ◌+◌, ◌-◌, ◌*◌, ◌∷◌, ◌++◌, ◌&&◌, [], Bool, true, false, length, get_or, take, suc, refl, rules, sym, ap, subst, ◌∙◌, arith}
use Rattle.txs_explore.specs.System.{has}
use Rattle.txs_explore.specs.Runners.{asking, many, seen}
use Rattle.txs_explore.specs.Told.{explored, begins}
use Rattle.txs_explore.specs.Looked.{state_at}
use Rattle.txs_explore.specs.Node.{AreBelow, apart_in, kept_by}
use Rattle.txs_explore.specs.Found.{HasBranched, HasSearched, MayGoTo}
use Rattle.txs_explore.proofs.Adding.{all_branched, ended_all, not_searched, searched_as, turned_asleep, turned_awake}
use Rattle.txs_explore.proofs.Lists.{none_there}
use Rattle.txs_explore.proofs.Loops.{branch_begun, branch_done, branch_next}
use Rattle.txs_explore.proofs.Nodes.{apart_are, due_are}
use Rattle.txs_explore.proofs.Stages.{enabled_one, many_few, may_below, may_more}
use Rattle.txs_explore.proofs.Tests.{below_by, has_at}
use Rattle.txs_explore.proofs.search.+all.Goals as goal

-- ---- a place of the search

pub search_all-look_behind-requires-clause-named : goal.search_all-look_behind-requires-clause-named
search_all-look_behind-requires-clause-named t c =
    may_below c.args.code.now c.args.max_steps c.args.asks.now (seen (explored c.args.code.now c.args.max_steps) (begins c.args.code.now)) c.requires.may

pub search_all-due-requires : goal.search_all-due-requires
search_all-due-requires t c =
    let m = c.in_ok-node.ensures.one_each in
    let f = many_few c.args.code.now c.args.max_steps in
    let r = c.requires.few in
    omega (arith, m, f, r)

pub search_all-end_at-requires : goal.search_all-end_at-requires
search_all-end_at-requires t c =
    let same = ap length c.in_ok-node.ensures.cells in
    let r = c.requires.few in
    omega (arith, same, r)

pub search_all-returns-then-is_empty : goal.search_all-returns-then-is_empty
search_all-returns-then-is_empty t c =
    let none = none_there c.in_ok-due.due.items c.in_ok-due.due.len (omega (arith, c.in_ok-due.due.ok.0)) (sym c.is_empty.ensures ∙ c.if-is_empty.true) in
    ended_all c.args.code.now c.args.max_steps c.args.asks.now c.in_ok-node.node c.in_ok-node.ensures c.requires.may c.in_ok-due.due.items c.in_ok-due.ensures none c.args.found.now.ways.items c.spend.new.self.ways.items c.end_at.new.found.ways.items
    c.spend.ensures c.in_ok-end_at.ensures c.args.depth c.args.asleep.now true

pub search_all-returns-then-depth-eq0 : goal.search_all-returns-then-depth-eq0
search_all-returns-then-depth-eq0 t c =
    not_searched c.args.code.now c.args.max_steps (HasSearched c.args.code.now c.args.max_steps c.args.depth c.args.asleep.now c.args.asks.now) c.args.found.now.ways.items c.spend.new.self.ways.items c.spend.ensures

pub search_all-returns-then-found-eq0 : goal.search_all-returns-then-found-eq0
search_all-returns-then-found-eq0 t c =
    not_searched c.args.code.now c.args.max_steps (HasSearched c.args.code.now c.args.max_steps c.args.depth c.args.asleep.now c.args.asks.now) c.args.found.now.ways.items c.spend.new.self.ways.items c.spend.ensures

pub search_all-branch_all-requires : goal.search_all-branch_all-requires
search_all-branch_all-requires t c =
    let low : 3 * (c.args.depth - 1) + 2 < t = omega (arith, c.decreases, c.if-depth-eq0.false) in
    (low, (c.requires.few, (c.requires.small, (c.requires.may, (c.requires.sleepers, (c.in_ok-node.ensures, search (rules, c.in_ok-due.ensures ∙ due_are c.args.code.now c.args.max_steps c.args.asks.now c.in_ok-node.node c.in_ok-node.ensures)))))))

pub search_all-returns : goal.search_all-returns
search_all-returns t c =
    let code = c.args.code.now in
    let limit = c.args.max_steps in
    let due = c.in_ok-due.due.items in
    let some : (due ≡ [] → ⊥) = search rules in
    let n = c.args.depth - 1 in
    let deep : c.args.depth ≡ suc n = omega (arith, c.if-depth-eq0.false) in
    let is = c.in_ok-due.ensures ∙ due_are code limit c.args.asks.now c.in_ok-node.node c.in_ok-node.ensures in
    searched_as code limit (HasBranched code limit n c.args.asleep.now c.args.asks.now due) (HasSearched code limit c.args.depth c.args.asleep.now c.args.asks.now) c.args.found.now.ways.items c.spend.new.self.ways.items c.branch_all.new.found.ways.items c.in_ok-whole.whole
    c.spend.ensures (all_branched code limit c.args.asks.now c.args.asleep.now due n c.args.depth is some deep) (search (rules, c.in_ok-whole.ensures))

-- ---- behind an ask of each

pub branch_all-loop-k-init : goal.branch_all-loop-k-init
branch_all-loop-k-init t c =
    let same : c.in_ok-sleepers.sleepers.items ≡ c.args.asleep.now = search rules in
    record {
      at = branch_begun c.args.code.now c.args.max_steps c.args.depth c.args.asks.now c.args.due.now c.args.found.now.ways.items c.args.asleep.now c.in_ok-sleepers.sleepers.items c.args.found.now.ways.items same refl;
      below = subst (AreBelow (many (explored c.args.code.now c.args.max_steps))) (sym same) c.requires.sleepers;
    }

pub branch_all-turn_all-requires : goal.branch_all-turn_all-requires
branch_all-turn_all-requires t c =
    let within : c.loop-k.k-index < length c.args.due.now = search rules in
    let one : has (get_or c.args.due.now c.loop-k.k-index 0) ((asking (explored c.args.code.now c.args.max_steps)).enabled (state_at c.args.code.now c.args.max_steps c.args.asks.now)) ≡ true =
    ap (has (get_or c.args.due.now c.loop-k.k-index 0)) (sym c.requires.due) ∙ has_at c.args.due.now c.loop-k.k-index within
    in
    let low : 3 * c.args.depth + 1 < t = omega (arith, c.decreases) in
    (low, (c.requires.few, (c.requires.small, (c.requires.may, (c.loop-k.invariant.below, (c.requires.node, search (rules, one)))))))

pub branch_all-loop-k-preserved : goal.branch_all-loop-k-preserved
branch_all-loop-k-preserved t c =
    let within : c.loop-k.k-index < length c.args.due.now = search rules in
    record {
      at = branch_next c.args.code.now c.args.max_steps c.args.depth c.args.asks.now c.args.due.now c.args.found.now.ways.items c.args.asleep.now c.loop-k.k-index c.loop-k.sleepers.items c.turn_all.new.sleepers.items c.loop-k.found.ways.items c.turn_all.new.found.ways.items
          c.loop-k.whole c.in_ok-there.there within c.loop-k.invariant.at (search (rules, c.in_ok-there.ensures.searched));
      below = c.in_ok-there.ensures.sleepers;
    }

pub branch_all-returns : goal.branch_all-returns
branch_all-returns t c =
    let past : length c.args.due.now ≤ c.loop-k.k-index = search rules in
    branch_done c.args.code.now c.args.max_steps c.args.depth c.args.asks.now c.args.due.now c.args.found.now.ways.items c.args.asleep.now c.loop-k.k-index c.loop-k.sleepers.items c.loop-k.found.ways.items c.loop-k.whole past c.loop-k.invariant.at

-- ---- one of them

pub turn_all-returns-then-is_among : goal.turn_all-returns-then-is_among
turn_all-returns-then-is_among t c =
    let asleep : has c.args.k c.args.sleepers.now.items ≡ true = search rules in
    record {
      searched = turned_asleep c.args.code.now c.args.max_steps c.args.depth c.args.asks.now c.args.sleepers.now.items c.args.sleepers.now.items c.args.k c.args.found.now.ways.items c.args.found.now.ways.items true asleep refl refl;
      sleepers = c.requires.sleepers;
    }

pub turn_all-apart_from-requires : goal.turn_all-apart_from-requires
turn_all-apart_from-requires t c =
    let m = c.requires.node.one_each in
    let one = enabled_one c.args.code.now c.args.max_steps c.args.k (state_at c.args.code.now c.args.max_steps c.args.asks.now) c.requires.due in
    record { one = omega (arith, m, one); others = search (rules, subst (λ n. AreBelow n c.args.sleepers.now.items) (sym m) c.requires.sleepers) }

pub turn_all-search_all-requires : goal.turn_all-search_all-requires
turn_all-search_all-requires t c =
    let code = c.args.code.now in
    let limit = c.args.max_steps in
    let low : 3 * c.args.depth < t = omega (arith, c.decreases) in
    let more : c.in_ok-more.more.items ≡ c.args.asks.now ++ c.args.k ∷ [] = c.in_ok-more.ensures in
    let may = may_more (asking (explored code limit)) c.args.asks.now c.args.k (seen (explored code limit) (begins code)) c.requires.may c.requires.due in
    let below = below_by (many (explored code limit)) (λ j. apart_in c.args.node.now c.args.k j) c.args.sleepers.now.items c.requires.sleepers in
    let kept : c.in_ok-apart.apart.items ≡ kept_by (λ j. apart_in c.args.node.now c.args.k j) c.as_slice-2.result.now = c.in_ok-apart.ensures in
    let apart = c.as_slice-3.ensures.value ∙ kept ∙ ap (kept_by (λ j. apart_in c.args.node.now c.args.k j)) c.as_slice-2.ensures.value in
    let there = c.as_slice-4.ensures.value ∙ more in
    (low, (c.requires.few, (c.requires.small, (subst (MayGoTo code limit) (sym there) may, subst (AreBelow (many (explored code limit))) (sym apart) below))))

pub turn_all-returns : goal.turn_all-returns
turn_all-returns t c =
    let code = c.args.code.now in
    let limit = c.args.max_steps in
    let ks = c.args.asks.now in
    let old = c.args.sleepers.now.items in
    let awake : has c.args.k old ≡ false = search rules in
    let m = c.requires.node.one_each in
    let one = enabled_one code limit c.args.k (state_at code limit ks) c.requires.due in
    let later : c.insert.new.self.items ≡ c.args.k ∷ old = search rules in
    let kept : c.in_ok-apart.apart.items ≡ kept_by (λ j. apart_in c.args.node.now c.args.k j) c.as_slice-2.result.now = c.in_ok-apart.ensures in
    let apart = kept ∙ ap (kept_by (λ j. apart_in c.args.node.now c.args.k j)) c.as_slice-2.ensures.value ∙ apart_are code limit ks c.args.node.now c.requires.node c.args.k (omega (arith, m, one)) old (subst (λ n. AreBelow n old) (sym m) c.requires.sleepers) in
    record {
      searched = turned_awake code limit c.args.depth ks c.in_ok-more.more.items old c.insert.new.self.items c.in_ok-apart.apart.items c.args.k c.args.found.now.ways.items c.search_all.new.found.ways.items c.in_ok-whole.whole awake later c.in_ok-more.ensures apart
          (search (rules, c.in_ok-whole.ensures));
      sleepers = subst (AreBelow (many (explored code limit))) (sym later) (one, c.requires.sleepers);
    }
