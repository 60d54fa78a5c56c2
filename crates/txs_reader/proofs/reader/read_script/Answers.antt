use Rattle.std.proofs.Common.{arith, refl, ◌≤◌, length}
use Rattle.txs_reader.specs.Script.{no_text, too_long}
use Rattle.txs_reader.proofs.reader.read_script.Goals as goal

pub returns-then-bytes-gt-MOST_SCRIPT-clause-stops : goal.returns-then-bytes-gt-MOST_SCRIPT-clause-stops
returns-then-bytes-gt-MOST_SCRIPT-clause-stops c = λ other. rw c.span_of.ensures (too_long (omega arith) refl refl)

pub returns-in-Err-clause-stops : goal.returns-in-Err-clause-stops
returns-in-Err-clause-stops c = λ other.
    let bytes = c.args.bytes.now in
    let short : length bytes ≤ 1048576 = omega arith in
    rw (c.span_of-in-Err.ensures, c.valid_up_to-at.ensures) (no_text _ short c.in-Err.ensures.cases.1 refl refl)
