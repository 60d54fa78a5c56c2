use Rattle.std.proofs.Common.{◌<◌, ◌≤◌, length, arith}
use Rattle.txs_reader.specs.OpenForms.{opens, inner}
use Rattle.txs_reader.specs.Tree.{trees}
use Rattle.txs_reader.proofs.Rows.{length-divided}
use Rattle.txs_reader.proofs.Steps.{step_open, stop_deep}
use Rattle.txs_reader.proofs.reader.open.Goals as goal

pub returns-clause-ok : goal.returns-clause-ok
returns-clause-ok c =
    let old = c.args.state.now in
    let few : length (opens old) < 100 = omega (arith, length-divided old.open.items (trees old.forms.items)) in
    rw (c.in_ok-open.ensures.open, c.in_ok-open.ensures.forms) (step_open c.args.script.now (opens old) (inner old) c.args.at c.args.bracket c.requires.reached c.requires.inside c.requires.byte few c.requires.room)

pub returns-then-len-ge-MOST_NESTING-clause-err : goal.returns-then-len-ge-MOST_NESTING-clause-err
returns-then-len-ge-MOST_NESTING-clause-err c =
    let old = c.args.state.now in
    let many : 100 ≤ length (opens old) = omega (arith, length-divided old.open.items (trees old.forms.items)) in
    rw c.span_of.ensures (stop_deep c.args.script.now (opens old) (inner old) c.args.at c.args.bracket c.requires.reached c.requires.inside c.requires.byte many c.requires.room)
