use Rattle.std.proofs.Common.{◌<◌, ◌+◌, ◌∙◌, ap, arith, drop, length, sym}
use Rattle.txs_audit_event.specs.Transactions.{or_else}
use Rattle.txs_audit_difference.specs.Difference.{value_what}
use Rattle.txs_audit_difference.specs.Left.{newest_what}
use Rattle.txs_audit_difference.proofs.Leaving.{newest_so, value_by, values_end}
use Rattle.txs_audit_difference.proofs.books.value_what.Goals as goal

pub returns-in-Some : goal.returns-in-Some
returns-in-Some c = λ r same.
    let all = c.args.cells.now in
    let vs = c.args.values.now in
    let i = c.loop-i.i in
    let d = c.index-cells-i.result in
    let v = c.index-values-i.result in
    let lt = c.loop-i-test.true in
    let many = c.requires.many in
    let less : i < length vs = omega (arith, lt, many) in
    let new = newest_so c.args.replay.now all r c.requires.same same i lt in
    let by = value_by all r all vs i d v lt less c.index-cells-i.is c.index-values-i.is c.in_ok-what.field-0 (c.in_ok-what.ensures ∙ ap (λ o. newest_what (record { kind = d.kind; number = i }) o v) new) in
    sym (by ∙ ap (λ o. or_else o (value_what all r (i + 1) (drop (i + 1) all) (drop (i + 1) vs))) c.in-Some.is) ∙ c.loop-i.invariant r same

pub loop-i-preserved : goal.loop-i-preserved
loop-i-preserved c = λ r same.
    let all = c.args.cells.now in
    let vs = c.args.values.now in
    let i = c.loop-i.i in
    let d = c.index-cells-i.result in
    let v = c.index-values-i.result in
    let lt = c.loop-i-test.true in
    let many = c.requires.many in
    let less : i < length vs = omega (arith, lt, many) in
    let new = newest_so c.args.replay.now all r c.requires.same same i lt in
    let by = value_by all r all vs i d v lt less c.index-cells-i.is c.index-values-i.is c.in_ok-what.field-0 (c.in_ok-what.ensures ∙ ap (λ o. newest_what (record { kind = d.kind; number = i }) o v) new) in
    sym (by ∙ ap (λ o. or_else o (value_what all r (i + 1) (drop (i + 1) all) (drop (i + 1) vs))) c.in_default.is) ∙ c.loop-i.invariant r same

pub returns : goal.returns
returns c = λ r same. sym (values_end c.args.cells.now r c.args.cells.now c.args.values.now c.loop-i.i c.loop-i-test.false) ∙ c.loop-i.invariant r same
