use Rattle.std.proofs.Common.{◌<◌, ap, arith, length}
use Rattle.std.specs.Prelude.{option_copied}
use Rattle.txs_world.proofs.Versions.{at_found, at_passed}
use Rattle.txs_world.proofs.slot.Slot.value_at.Goals as goal

pub returns-then-version-at : goal.returns-then-version-at
returns-then-version-at c =
    let xs = c.args.self.now.ring.items in
    let end = c.loop-newer-test.true in
    let many = c.len-newer-end.ensures.len in
    let lt : c.loop-newer.newer < length xs = omega (arith, end, many) in
    at_found c.args.at c.loop-newer.newer xs c.unwrap-version.result.now (option_copied c.nth_back.result) lt (ap option_copied c.unwrap-version.ensures) c.nth_back.ensures c.loop-newer.invariant c.if-version-at.true

pub loop-newer-preserved : goal.loop-newer-preserved
loop-newer-preserved c =
    let xs = c.args.self.now.ring.items in
    let end = c.loop-newer-test.true in
    let many = c.len-newer-end.ensures.len in
    let lt : c.loop-newer.newer < length xs = omega (arith, end, many) in
    let not = c.if-version-at.false in
    at_passed c.args.at c.loop-newer.newer xs c.unwrap-version.result.now (option_copied c.nth_back.result) lt (ap option_copied c.unwrap-version.ensures) c.nth_back.ensures c.loop-newer.invariant (omega (arith, not))
