use Rattle.txs_reader.proofs.Numbers.{number_utf8, parsed_err}
use Rattle.txs_reader.proofs.word.number_of.Goals as goal

pub unreachable-requires : goal.unreachable-requires
unreachable-requires c = c.in-Err.ensures.cases.0 (number_utf8 c.args.word.now c.requires)

pub returns-in-Err-parse-clause-none : goal.returns-in-Err-parse-clause-none
returns-in-Err-parse-clause-none c =
    parsed_err c.args.word.now c.parse.result c.in-Err-parse.field-0 (rw c.in-Ok.ensures.cases.0 at c.parse.ensures.value.0) c.in-Err-parse.is c.requires
