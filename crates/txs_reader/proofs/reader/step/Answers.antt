use Rattle.std.proofs.Common.{rules}
use Rattle.txs_reader.specs.OpenForms.{opens, inner}
use Rattle.txs_reader.proofs.Steps.{step_white, step_comment, stop_full, part_byte}
use Rattle.txs_reader.proofs.reader.step.Goals as goal

pub returns-then-is_white-clause-ok : goal.returns-then-is_white-clause-ok
returns-then-is_white-clause-ok c =
    step_white c.args.script.now (opens c.args.state.now) (inner c.args.state.now) c.args.at c.requires.reached c.requires.inside (search rules)

pub returns-in-59-clause-ok : goal.returns-in-59-clause-ok
returns-in-59-clause-ok c =
    step_comment c.args.script.now (opens c.args.state.now) (inner c.args.state.now) c.args.at c.line_len.result c.requires.reached c.requires.inside (search rules) (rw c.rest_at.ensures at c.line_len.ensures)

pub part-requires-clause-byte : goal.part-requires-clause-byte
part-requires-clause-byte c = let h = c.in_default in part_byte _ (search rules) (search rules) (search rules) (search rules)

pub returns-then-is_full-clause-err : goal.returns-then-is_full-clause-err
returns-then-is_full-clause-err c =
    let h = c.in_default in
    rw c.span_of.ensures (stop_full c.args.script.now (opens c.args.state.now) (inner c.args.state.now) c.args.at c.requires.reached c.requires.inside (part_byte _ (search rules) (search rules) (search rules) (search rules)) (c.is_full.ensures.yes (search rules)))
