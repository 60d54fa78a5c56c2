use Rattle.std.proofs.Common.{List, ℕ, Ok, sym, ap, ◌∙◌}
use Rattle.txs_reader.specs.Tree.{tree}
use Rattle.txs_reader.proofs.Trees.{tree-Keyword, tree-Text}
use Rattle.txs_value_data.specs.declared.value.Value.TheVariants.{Key, Text}
use Rattle.txs_resolve.specs.Made.{scalar}
use Rattle.txs_resolve.proofs.values.scalar.Goals as goal

pub returns-in_ok-share-in-Text-clause-value : goal.returns-in_ok-share-in-Text-clause-value
returns-in_ok-share-in-Text-clause-value c =
    ap scalar (ap tree c.in-Text.is ∙ tree-Text c.in-Text.text c.in-Text.field-1) ∙ ap (λ (n : List ℕ). Ok (Text n)) (sym c.in_ok-share-in-Text.ensures)

pub returns-in_ok-share-in-Keyword-clause-value : goal.returns-in_ok-share-in-Keyword-clause-value
returns-in_ok-share-in-Keyword-clause-value c =
    ap scalar (ap tree c.in-Keyword.is ∙ tree-Keyword c.in-Keyword.name c.in-Keyword.field-1) ∙ ap (λ (n : List ℕ). Ok (Key n)) (sym c.in_ok-share-in-Keyword.ensures)
