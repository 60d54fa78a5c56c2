use Rattle.std.proofs.Common.{◌+◌, drop, arith}
use Rattle.std.specs.Prelude.{string_bytes}
use Rattle.std.proofs.lemmas.Result.{err_from_is_err_and}
use Rattle.txs_reader.specs.OpenForms.{opens, inner}
use Rattle.txs_reader.proofs.Steps.{step_text, stop_text, stop_text_as, text_too_long}
use Rattle.txs_reader.proofs.Trees.{tree-Text}
use Rattle.txs_reader.proofs.reader.text.Goals as goal

pub returns-in_err-end-clause-err : goal.returns-in_err-end-clause-err
returns-in_err-end-clause-err c =
    let old = c.args.state.now in
    let p = err_from_is_err_and c.from_residual.result c.from_residual.ensures.1 in
    rw (p.1, p.2) (stop_text_as c.args.script.now (opens old) (inner old) c.args.at _ _ c.requires.reached c.requires.inside c.requires.room c.in_err-end.ensures.err)

pub returns-then-len-gt-MOST_TEXT-clause-err : goal.returns-then-len-gt-MOST_TEXT-clause-err
returns-then-len-gt-MOST_TEXT-clause-err c =
    let old = c.args.state.now in
    let ok = c.in_ok-end.ensures.ok in
    rw c.span_of-span.ensures (stop_text c.args.script.now (opens old) (inner old) c.args.at _ _ c.requires.reached c.requires.inside c.requires.room (text_too_long c.args.script.now c.args.at _ _ ok.0 ok.2 ok.1 (omega (arith, c.len.ensures))))

pub returns-clause-ok : goal.returns-clause-ok
returns-clause-ok c =
    let old = c.args.state.now in
    let ok = c.in_ok-end.ensures.ok in
    c.in_ok-add.ensures c.args.script.now (drop (c.in_ok-end.end + 1) c.args.script.now)
    (rw (tree-Text, c.in_ok-text.ensures, c.span_of-span.ensures) (step_text c.args.script.now (opens old) (inner old) c.args.at _ (string_bytes c.read_quoted.new.text) c.requires.reached c.requires.inside ok.0 ok.2 ok.1 (omega (arith, c.len.ensures)) c.requires.room))
