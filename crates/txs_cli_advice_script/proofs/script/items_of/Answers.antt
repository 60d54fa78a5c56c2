use Rattle.std.proofs.Common.{◌≡◌, rules, ap, sym, ◌∙◌, Some, List}
use Rattle.txs_reader.specs.declared.form.Bracket.TheVariants.{Square}
use Rattle.txs_reader.specs.declared.form.Form.{Form, Group, the_lemmas}
use Rattle.txs_reader.specs.Tree.{PlainForm, group, tree, trees, trees_of}
use Rattle.txs_reader.proofs.Trees.{tree-Group}
use Rattle.txs_cli_advice_script.specs.Forms.{items_of}
use Rattle.txs_cli_advice_script.proofs.Lists.{list_of-trees_of}
use Rattle.txs_cli_advice_script.proofs.script.items_of.Goals as goal

pub returns : goal.returns
returns c =
    let x = c.in-Group-Square-default-default in
    let whole : c.args.form.now ≡ Group Square x.items x.field-2 = search (rules, the_lemmas) in
    let made : tree c.args.form.now ≡ group Square (trees_of (trees x.items.items)) x.field-2 = ap tree whole ∙ tree-Group Square x.items x.field-2 in
    ap (λ (l : List Form). Some (trees l)) c.deref.ensures.value ∙ sym (ap items_of made ∙ ap (λ (l : List PlainForm). Some l) (list_of-trees_of (trees x.items.items)))
