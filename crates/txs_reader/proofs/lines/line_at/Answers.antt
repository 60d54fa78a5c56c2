use Rattle.txs_reader.specs.Place.{is_newline}
use Rattle.txs_reader.proofs.Parts.{line_is}
use Rattle.txs_reader.proofs.lines.line_at.Goals as goal

pub returns : goal.returns
returns c =
    line_is is_newline c.args.text.now c.args.offset c.before-front.result.now c.last_line.result.now c.behind.result.now c.first_line.result.now
    c.before-front.ensures c.last_line.ensures c.behind.ensures c.first_line.ensures
