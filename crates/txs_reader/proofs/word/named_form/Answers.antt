use Rattle.std.proofs.Common.{◌≡◌, ap, sym, ◌∙◌, true, false, List, ℕ}
use Rattle.std.proofs.lemmas.Result.{err_from_is_err_and}
use Rattle.txs_reader.specs.Bytes.{is_keyword, is_symbol}
use Rattle.txs_reader.specs.Tree.{keyword, symbol, leaf}
use Rattle.txs_reader.proofs.Meanings.{meaning_keyword, meaning_symbol, meaning_unread, named_ok, keyword_name, symbol_name, name_refused, unread_refused}
use Rattle.txs_reader.proofs.Trees.{tree-Keyword, tree-Symbol}
use Rattle.txs_reader.proofs.word.named_form.Goals as goal

pub name_of-requires-clause-some : goal.name_of-requires-clause-some
name_of-requires-clause-some c = rw c.without_first.ensures (keyword_name _ (sym c.is_keyword.ensures ∙ c.if-is_keyword.true)).some

pub name_of-requires-clause-each : goal.name_of-requires-clause-each
name_of-requires-clause-each c = rw c.without_first.ensures (keyword_name _ (sym c.is_keyword.ensures ∙ c.if-is_keyword.true)).each

pub name_of-requires-then-is_symbol-clause-some : goal.name_of-requires-then-is_symbol-clause-some
name_of-requires-then-is_symbol-clause-some c = (symbol_name _ (sym c.is_symbol.ensures ∙ c.if-is_symbol.true)).some

pub name_of-requires-then-is_symbol-clause-each : goal.name_of-requires-then-is_symbol-clause-each
name_of-requires-then-is_symbol-clause-each c = (symbol_name _ (sym c.is_symbol.ensures ∙ c.if-is_symbol.true)).each

pub returns-in_err-name-clause-err : goal.returns-in_err-name-clause-err
returns-in_err-name-clause-err c =
    let p = err_from_is_err_and c.from_residual.result c.from_residual.ensures.1 in
    let is : is_keyword c.args.word.now ≡ true = sym c.is_keyword.ensures ∙ c.if-is_keyword.true in
    rw (p.1, p.2) (name_refused keyword _ _ _ _ _ (meaning_keyword c.args.word.now c.requires is) (rw c.without_first.ensures at c.in_err-name.ensures.err))

pub returns-in_err-name-2-clause-err : goal.returns-in_err-name-2-clause-err
returns-in_err-name-2-clause-err c =
    let p = err_from_is_err_and c.from_residual-in_err-name-2.result c.from_residual-in_err-name-2.ensures.1 in
    let is : is_symbol c.args.word.now ≡ true = sym c.is_symbol.ensures ∙ c.if-is_symbol.true in
    let isnt : is_keyword c.args.word.now ≡ false = sym c.is_keyword.ensures ∙ c.if-is_keyword.false in
    rw (p.1, p.2) (name_refused symbol _ _ _ _ _ (meaning_symbol c.args.word.now c.requires isnt is) c.in_err-name-2.ensures.err)

pub returns-in_ok-name-clause-ok : goal.returns-in_ok-name-clause-ok
returns-in_ok-name-clause-ok c =
    let is : is_keyword c.args.word.now ≡ true = sym c.is_keyword.ensures ∙ c.if-is_keyword.true in
    let ok = rw c.without_first.ensures at c.in_ok-name.ensures.ok in
    (keyword _, meaning_keyword c.args.word.now c.requires is ∙ named_ok keyword _ ok.1, tree-Keyword _ c.args.span ∙ ap (λ (n : List ℕ). leaf (keyword n) c.args.span) ok.0)

pub returns-in_ok-name-2-clause-ok : goal.returns-in_ok-name-2-clause-ok
returns-in_ok-name-2-clause-ok c =
    let is : is_symbol c.args.word.now ≡ true = sym c.is_symbol.ensures ∙ c.if-is_symbol.true in
    let isnt : is_keyword c.args.word.now ≡ false = sym c.is_keyword.ensures ∙ c.if-is_keyword.false in
    let ok = c.in_ok-name-2.ensures.ok in
    (symbol _, meaning_symbol c.args.word.now c.requires isnt is ∙ named_ok symbol _ ok.1, tree-Symbol _ c.args.span ∙ ap (λ (n : List ℕ). leaf (symbol n) c.args.span) ok.0)

pub returns-else-is_symbol-clause-err : goal.returns-else-is_symbol-clause-err
returns-else-is_symbol-clause-err c =
    let is : is_symbol c.args.word.now ≡ false = sym c.is_symbol.ensures ∙ c.if-is_symbol.false in
    let isnt : is_keyword c.args.word.now ≡ false = sym c.is_keyword.ensures ∙ c.if-is_keyword.false in
    rw c.unread.ensures (unread_refused c.args.word.now c.args.span (meaning_unread c.args.word.now c.requires isnt is))
