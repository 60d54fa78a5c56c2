use Rattle.txs_reader.proofs.LineSteps.{newline_ends, line_goes_on}
use Rattle.txs_reader.proofs.law.places_follow.Goals as goal

pub returns-clause-newline : goal.returns-clause-newline
returns-clause-newline c = newline_ends

pub returns-clause-within : goal.returns-clause-within
returns-clause-within c = line_goes_on
