use Rattle.std.proofs.Common.{◌≡◌, ◌<◌, ◌≤◌, ◌+◌, length, get_or, take, rules, subst}
use Rattle.std.proofs.lemmas.List.{take_more, take_all}
use Rattle.txs_explore.specs.Node.{apart_in, kept_by}
use Rattle.txs_explore.proofs.Tests.{below_at, kept_next}
use Rattle.txs_explore.proofs.look.Node.apart_from.Goals as goal

pub are_apart-wanted-requires-clause-other : goal.are_apart-wanted-requires-clause-other
are_apart-wanted-requires-clause-other c =
    let within : c.loop-j.j-index < length c.args.asleep.now = search rules in
    let below = below_at (length c.args.self.now.looks.items) c.args.asleep.now c.loop-j.j-index c.requires.others within in
    search (rules, below)

pub loop-j-preserved : goal.loop-j-preserved
loop-j-preserved c =
    let v = c.args.self.now in
    let xs = c.args.asleep.now in
    let i = c.loop-j.j-index in
    let within : i < length xs = search rules in
    let wanted : c.are_apart-wanted.result ≡ apart_in v c.args.k (get_or xs i 0) = search rules in
    let pushed = c.in_ok-push_if.ensures in
    kept_next (λ j. apart_in v c.args.k j) (take i xs) (take (i + 1) xs) (get_or xs i 0) c.loop-j.apart.items c.push_if.new.list.items c.are_apart-wanted.result (take_more xs i 0 within) wanted c.loop-j.invariant (search (rules, pushed))

pub returns : goal.returns
returns c =
    let past : length c.args.asleep.now ≤ c.loop-j.j-index = search rules in
    subst (λ js. c.loop-j.apart.items ≡ kept_by (λ j. apart_in c.args.self.now c.args.k j) js) (take_all c.loop-j.j-index c.args.asleep.now past) c.loop-j.invariant
