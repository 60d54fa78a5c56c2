use Rattle.std.proofs.Common.{◌+◌, ◌&&◌, drop, sym, ap, ◌∙◌}
use Rattle.txs_reader.specs.Tree.{tree}
use Rattle.txs_resolve_expand.specs.Expressions.{is_symbol}
use Rattle.txs_resolve.specs.Names.{are_symbols}
use Rattle.txs_resolve_expand.specs.Parts.{plain}
use Rattle.txs_resolve_expand.proofs.Rows.{plain_at, drop_all}
use Rattle.txs_resolve.proofs.script.are_symbols.Goals as goal

pub returns-then-not-is_symbol : goal.returns-then-not-is_symbol
returns-then-not-is_symbol c =
    let fs = c.args.forms.now in
    let i = c.loop-form.form-index in
    sym (c.loop-form.invariant
    ∙ ap are_symbols (plain_at fs i c.form-item.result c.loop-form-test.true)
    ∙ ap (λ b. b && are_symbols (plain (drop (i + 1) fs))) (ap (λ f. is_symbol (tree f)) (sym c.form-item.is) ∙ sym c.if-not-is_symbol.ensures))

pub loop-form-preserved : goal.loop-form-preserved
loop-form-preserved c =
    let fs = c.args.forms.now in
    let i = c.loop-form.form-index in
    c.loop-form.invariant
    ∙ ap are_symbols (plain_at fs i c.form-item.result c.loop-form-test.true)
    ∙ ap (λ b. b && are_symbols (plain (drop (i + 1) fs))) (ap (λ f. is_symbol (tree f)) (sym c.form-item.is) ∙ sym c.if-not-is_symbol.ensures)

pub returns : goal.returns
returns c = sym (c.loop-form.invariant ∙ ap (λ l. are_symbols (plain l)) (drop_all c.args.forms.now c.loop-form.form-index c.loop-form-test.false))
