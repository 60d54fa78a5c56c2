use Rattle.std.proofs.Common.{sym, ap, ◌∙◌, Some}
use Rattle.txs_reader.proofs.Trees.{tree-Symbol}
use Rattle.txs_reader.specs.Tree.{tree, first}
use Rattle.txs_resolve.specs.Names.{named_form}
use Rattle.txs_resolve_expand.specs.Parts.{plain}
use Rattle.txs_resolve.proofs.TopLevel.{not_one_form, one_form}
use Rattle.txs_resolve.proofs.script.named_form.Goals as goal

pub returns-then-behind-ne1 : goal.returns-then-behind-ne1
returns-then-behind-ne1 c =
    let behind = c.in_ok-first.behind.now in
    sym (ap (λ l. named_form (plain l)) c.in_ok-first.ensures.cases.0 ∙ ap (λ f. named_form (first (tree f) (plain behind))) (c.in-Symbol.is) ∙ ap (λ t. named_form (first t (plain behind))) (tree-Symbol c.in-Symbol.name c.in-Symbol.at) ∙ not_one_form c.in-Symbol.name c.in-Symbol.at behind c.if-behind-ne1.true)

pub returns : goal.returns
returns c =
    let behind = c.in_ok-first.behind.now in
    sym (ap (λ l. named_form (plain l)) c.in_ok-first.ensures.cases.0 ∙ ap (λ f. named_form (first (tree f) (plain behind))) c.in-Symbol.is
    ∙ ap (λ t. named_form (first t (plain behind))) (tree-Symbol c.in-Symbol.name c.in-Symbol.at)
    ∙ one_form c.in-Symbol.name c.in-Symbol.at behind c.index-behind-0.result c.if-behind-ne1.false
    ∙ ap (λ f. Some (record { name = c.in-Symbol.name; at = c.in-Symbol.at; form = tree f })) (sym c.index-behind-0.is))
