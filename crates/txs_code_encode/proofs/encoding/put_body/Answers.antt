use Rattle.std.proofs.Common.{◌≡◌, ◌<◌, ◌≤◌, ◌∷◌, length}
use Rattle.std.specs.Int.{w32, to_be_bytes}
use Rattle.txs_code_meaning.specs.declared.instr.Instr.TheVariants.{Halt}
use Rattle.txs_code_encode.proofs.WrittenLemmas.{pairs_next, pairs_done}
use Rattle.txs_code_encode.proofs.encoding.put_body.Goals as goal

pub loop-i-preserved : goal.loop-i-preserved
loop-i-preserved c =
    let b = c.args.body.now in
    let n : length b.spans ≡ length b.instrs = rw c.spans-spans.ensures.value at c.spans-spans.ensures.as_many in
    let lt : c.loop-i.i < length b.instrs = rw c.instrs-instrs.ensures at c.loop-i-test.true in
    let ex = rw c.instrs-instrs.ensures at c.placed_at-instr.ensures.instr in
    let ey = rw c.spans-spans.ensures.value at c.placed_at-instr.ensures.span in
    pairs_next b.instrs b.spans c.loop-i.i Halt (record { from = 0; to = 0 }) c.placed_at-instr.result.0 c.placed_at-instr.result.1 c.args.out.now.items (b.parameters ∷ b.locals ∷ to_be_bytes w32 (length b.instrs)) c.loop-i.out.items c.put_placed.new.out.items n lt ex ey c.loop-i.invariant c.in_ok-put_placed.ensures

pub returns : goal.returns
returns c =
    let b = c.args.body.now in
    let n : length b.spans ≡ length b.instrs = rw c.spans-spans.ensures.value at c.spans-spans.ensures.as_many in
    let le : length b.instrs ≤ c.loop-i.i = rw c.instrs-instrs.ensures at c.loop-i-test.false in
    pairs_done b.instrs b.spans c.loop-i.i c.args.out.now.items c.loop-i.out.items b.parameters b.locals n le c.loop-i.invariant

pub placed_at-instr-requires-clause-span : goal.placed_at-instr-requires-clause-span
placed_at-instr-requires-clause-span c =
    let lt : c.loop-i.i < length c.args.body.now.instrs = rw c.instrs-instrs.ensures at c.loop-i-test.true in
    rw c.spans-spans.ensures.as_many lt
