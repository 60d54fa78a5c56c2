use Rattle.std.proofs.Common.{◌≡◌, ◌<◌, ◌∙◌, ap, arith, length, sym}
use Rattle.txs_world_protocol.specs.declared.report.ActorReport.{ActorReport}
use Rattle.txs_cli.proofs.Recording.{none_printed, printed_more}
use Rattle.txs_cli.proofs.record.same_printed.Goals as goal

pub loop-i-preserved : goal.loop-i-preserved
loop-i-preserved c =
    let xs = c.args.a.now in
    let ys = c.args.b.now in
    let k = c.loop-i.i in
    let x = c.index-a-i.result in
    let y = c.index-b-i.result in
    let first : c.as_slice.result.now ≡ x.printed.items = c.as_slice.ensures.value ∙ ap (λ (r : ActorReport). r.printed.items) (sym c.index-a-i.is) in
    let second : c.as_slice-in-loop-i.result.now ≡ y.printed.items = c.as_slice-in-loop-i.ensures.value ∙ ap (λ (r : ActorReport). r.printed.items) (sym c.index-b-i.is) in
    let within : k < length ys = omega arith in
    printed_more xs ys k x y c.loop-i-test.true within c.index-a-i.is c.index-b-i.is (sym first ∙ c.same_bytes-same.ensures c.if-not-same.false ∙ second) c.loop-i.invariant

pub returns : goal.returns
returns c = λ shown. c.loop-i.invariant (none_printed c.args.a.now c.args.b.now c.loop-i.i c.loop-i-test.false c.if-a-b.false)
