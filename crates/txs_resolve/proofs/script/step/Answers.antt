use Rattle.txs_resolve.specs.Scripts.{state_of}
use Rattle.txs_resolve.proofs.Openings.{leaf_step, is_nil, is_truth, is_number, is_text, is_keyword, is_symbol}
use Rattle.txs_resolve.proofs.script.step.Goals as goal

pub returns-in-Nil-clause-state : goal.returns-in-Nil-clause-state
returns-in-Nil-clause-state c =
    let s = state_of c.args.script.now in
    leaf_step s s c.args.form.now _ _ _ (is_nil _ _ c.in-Nil.is) c.refused-in-Nil.ensures

pub returns-in-Truth-clause-state : goal.returns-in-Truth-clause-state
returns-in-Truth-clause-state c =
    let s = state_of c.args.script.now in
    leaf_step s s c.args.form.now _ _ _ (is_truth _ _ _ c.in-Truth.is) c.refused-in-Truth.ensures

pub returns-in-Number-clause-state : goal.returns-in-Number-clause-state
returns-in-Number-clause-state c =
    let s = state_of c.args.script.now in
    leaf_step s s c.args.form.now _ _ _ (is_number _ _ _ c.in-Number.is) c.refused-in-Number.ensures

pub returns-in-Text-clause-state : goal.returns-in-Text-clause-state
returns-in-Text-clause-state c =
    let s = state_of c.args.script.now in
    leaf_step s s c.args.form.now _ _ _ (is_text _ _ _ c.in-Text.is) c.refused-in-Text.ensures

pub returns-in-Keyword-clause-state : goal.returns-in-Keyword-clause-state
returns-in-Keyword-clause-state c =
    let s = state_of c.args.script.now in
    leaf_step s s c.args.form.now _ _ _ (is_keyword _ _ _ c.in-Keyword.is) c.refused-in-Keyword.ensures

pub returns-in-Symbol-clause-state : goal.returns-in-Symbol-clause-state
returns-in-Symbol-clause-state c =
    let s = state_of c.args.script.now in
    leaf_step s s c.args.form.now _ _ _ (is_symbol _ _ _ c.in-Symbol.is) c.refused-in-Symbol.ensures
