use Rattle.std.proofs.Common.{◌≡◌, ◌+◌, length, rules, sym, ◌∙◌, arith}
use Rattle.std.proofs.lemmas.List.{length-append}
use Rattle.txs_explore.specs.Reported.{entries_of}
use Rattle.txs_explore.proofs.Telling.{ends_all, ends_more}
use Rattle.txs_explore.proofs.told.have_ends.Goals as goal

pub loop-i-preserved : goal.loop-i-preserved
loop-i-preserved c =
    ends_more c.args.ends.now (entries_of c.args.report.now) c.loop-i.i c.index-ends-i.result c.entry_at.result.now c.loop-i-test.true c.index-ends-i.is c.entry_at.ensures (c.has_end.ensures c.if-not-has_end.false) c.loop-i.invariant

pub returns : goal.returns
returns c = λ t.
    (let r = c.args.report.now in
    let many : length c.args.ends.now ≡ length r.threads.items + length r.agents.items = search rules in
    ends_all c.args.ends.now (entries_of r) c.loop-i.i (omega (arith, c.loop-i-test.false)) (many ∙ sym (length-append r.threads.items r.agents.items)) c.loop-i.invariant)
