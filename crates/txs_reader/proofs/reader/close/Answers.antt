use Rattle.std.proofs.Common.{◌+◌, drop}
use Rattle.txs_reader.specs.OpenForms.{opens, inner}
use Rattle.txs_reader.proofs.Keeps.{close_keeps}
use Rattle.txs_reader.proofs.Steps.{stop_unopened}
use Rattle.txs_reader.proofs.reader.close.Goals as goal

pub returns-clause-ok : goal.returns-clause-ok
returns-clause-ok c =
    c.in_ok-add.ensures c.args.script.now (drop (c.args.at + 1) c.args.script.now) (close_keeps c.args.script.now c.args.state.now _ c.args.bracket _ c.args.at c.in_ok-form.ensures c.requires.reached c.requires.inside c.requires.byte)

pub returns-then-not-fits-clause-err : goal.returns-then-not-fits-clause-err
returns-then-not-fits-clause-err c =
    rw c.span_of.ensures (stop_unopened c.args.script.now (opens c.args.state.now) (inner c.args.state.now) c.args.at c.args.bracket c.requires.reached c.requires.inside c.requires.byte (c.fits.ensures.no c.if-not-fits.true))
