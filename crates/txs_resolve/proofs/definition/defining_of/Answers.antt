use Rattle.std.proofs.Common.{◌∙◌}
use Rattle.txs_resolve.proofs.Openings.{leaf_opening, is_nil, is_truth, is_number, is_text, is_keyword, is_symbol}
use Rattle.txs_resolve.proofs.definition.defining_of.Goals as goal

pub returns-in-Nil : goal.returns-in-Nil
returns-in-Nil c = c.only_literal-in-Nil.ensures ∙ leaf_opening c.args.form.now _ _ (is_nil _ _ c.in-Nil.is)

pub returns-in-Truth : goal.returns-in-Truth
returns-in-Truth c = c.only_literal-in-Truth.ensures ∙ leaf_opening c.args.form.now _ _ (is_truth _ _ _ c.in-Truth.is)

pub returns-in-Number : goal.returns-in-Number
returns-in-Number c = c.only_literal-in-Number.ensures ∙ leaf_opening c.args.form.now _ _ (is_number _ _ _ c.in-Number.is)

pub returns-in-Text : goal.returns-in-Text
returns-in-Text c = c.only_literal-in-Text.ensures ∙ leaf_opening c.args.form.now _ _ (is_text _ _ _ c.in-Text.is)

pub returns-in-Keyword : goal.returns-in-Keyword
returns-in-Keyword c = c.only_literal-in-Keyword.ensures ∙ leaf_opening c.args.form.now _ _ (is_keyword _ _ _ c.in-Keyword.is)

pub returns-in-Symbol : goal.returns-in-Symbol
returns-in-Symbol c = c.only_literal-in-Symbol.ensures ∙ leaf_opening c.args.form.now _ _ (is_symbol _ _ _ c.in-Symbol.is)
