use Rattle.std.proofs.Common.{rules}
use Rattle.txs_reader.specs.OpenForms.{opens, inner}
use Rattle.txs_reader.proofs.Steps.{stop_left_out, word_byte}
use Rattle.txs_reader.proofs.reader.part.Goals as goal

pub word-requires-clause-byte : goal.word-requires-clause-byte
word-requires-clause-byte c = let h = c.in_default in word_byte _ c.requires.byte (search rules) (search rules) (search rules) (search rules) (search rules)

pub returns-then-is_left_out_byte-clause-err : goal.returns-then-is_left_out_byte-clause-err
returns-then-is_left_out_byte-clause-err c =
    rw c.span_of.ensures (stop_left_out c.args.script.now (opens c.args.state.now) (inner c.args.state.now) c.args.at c.requires.reached c.requires.inside (search rules) c.requires.room)
