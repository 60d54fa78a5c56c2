use Rattle.std.proofs.Common.{ap, sym, ◌∙◌, List}
use Rattle.txs_reader.specs.declared.form.Form.{Form}
use Rattle.txs_reader.specs.Tree.{group, tree, trees, trees_of}
use Rattle.txs_reader.proofs.Trees.{tree-Group}
use Rattle.txs_cli_advice_script.proofs.around.group_of.Goals as goal

pub returns-in-Group : goal.returns-in-Group
returns-in-Group c =
    let x = c.in-Group in
    ap tree x.is ∙ tree-Group x.bracket x.parts x.span ∙ ap (λ (l : List Form). group x.bracket (trees_of (trees l)) x.span) (sym c.deref.ensures.value)
