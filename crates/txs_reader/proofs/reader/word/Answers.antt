use Rattle.std.proofs.Common.{◌+◌, drop}
use Rattle.std.proofs.lemmas.Result.{err_from_is_err_and}
use Rattle.txs_reader.specs.OpenForms.{opens, inner}
use Rattle.txs_reader.proofs.Steps.{step_word, stop_word_as}
use Rattle.txs_reader.proofs.reader.word.Goals as goal

pub returns-clause-ok : goal.returns-clause-ok
returns-clause-ok c =
    let old = c.args.state.now in
    let ok = c.in_ok-form.ensures.ok in
    let run = rw c.rest_at-rest.ensures at c.word_len-len.ensures in
    c.in_ok-add.ensures c.args.script.now (drop (c.args.at + c.word_len-len.result) c.args.script.now)
    (rw (ok.2, c.span_of-span.ensures) (step_word c.args.script.now (opens old) (inner old) c.args.at c.word_len-len.result ok.0 c.requires.reached c.requires.inside c.requires.byte run (rw (c.split_at.ensures.front, c.rest_at-rest.ensures) at ok.1) c.requires.room))

pub returns-in_err-form-clause-err : goal.returns-in_err-form-clause-err
returns-in_err-form-clause-err c =
    let old = c.args.state.now in
    let run = rw c.rest_at-rest.ensures at c.word_len-len.ensures in
    let p = err_from_is_err_and c.from_residual.result c.from_residual.ensures.1 in
    rw (p.1, p.2) (stop_word_as c.args.script.now (opens old) (inner old) c.args.at c.word_len-len.result _ _ c.requires.reached c.requires.inside c.requires.byte run c.requires.room (rw (c.split_at.ensures.front, c.rest_at-rest.ensures, c.span_of-span.ensures) at c.in_err-form.ensures.err))
