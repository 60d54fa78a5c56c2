use Rattle.std.proofs.Common.{◌≡◌, ◌<◌, rules, sym, arith}
use Rattle.txs_machine.proofs.Repeats.{none_named, some_named}
use Rattle.txs_machine.proofs.schedule.is_named.Goals as goal

pub returns-then-run-eq0 : goal.returns-then-run-eq0
returns-then-run-eq0 c =
    let none : c.args.run.now.times ≡ 0 = search rules in
    sym (none_named c.args.actors c.args.run.now.times c.args.run.now.play none)

pub returns : goal.returns
returns c =
    let some : 0 < c.args.run.now.times = search (rules, arith) in
    let is = some_named c.args.actors c.args.run.now.times c.args.run.now.play some in
    first_of (search (rules, is), cc)
