use Rattle.std.proofs.Common.{◌+◌, ◌++◌, ◌∙◌, ap, drop}
use Rattle.std.specs.Prelude.{map}
use Rattle.txs_theorem_audit.specs.Audited.{ran_as}
use Rattle.txs_theorem_audit.specs.Pieces.{thread_pieces}
use Rattle.txs_audit.specs.Pieced.{pieces_as}
use Rattle.txs_audit.proofs.Counting.{threads_end, threads_next}
use Rattle.txs_audit.proofs.pieces.add_threads.Goals as goal

pub loop-i-preserved : goal.loop-i-preserved
loop-i-preserved c =
    let i = c.loop-i.i in
    let rans = c.args.threads.now in
    ap (λ l. pieces_as l ++ thread_pieces (i + 1) (map ran_as (drop (i + 1) rans))) c.in_ok-push.ensures.items
    ∙ threads_next c.loop-i.pieces.items rans i (pieces_as c.args.pieces.now.items ++ thread_pieces 0 (map ran_as rans)) c.loop-i-test.true c.loop-i.invariant

pub returns : goal.returns
returns c =
    let i = c.loop-i.i in
    let rans = c.args.threads.now in
    let end = c.loop-i-test.false in
    threads_end (pieces_as c.loop-i.pieces.items) rans i (pieces_as c.args.pieces.now.items ++ thread_pieces 0 (map ran_as rans)) end c.loop-i.invariant
