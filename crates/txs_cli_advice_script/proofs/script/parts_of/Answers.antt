use Rattle.std.proofs.Common.{◌≡◌, rules, ap, sym, ◌∙◌}
use Rattle.txs_reader.specs.declared.form.Bracket.TheVariants.{Round}
use Rattle.txs_reader.specs.declared.form.Form.{Group, the_lemmas}
use Rattle.txs_reader.specs.Tree.{group, tree, trees, trees_of}
use Rattle.txs_reader.proofs.Trees.{tree-Group}
use Rattle.txs_cli_advice_script.specs.Forms.{parts_of}
use Rattle.txs_cli_advice_script.proofs.Lists.{list_of-trees_of}
use Rattle.txs_cli_advice_script.proofs.script.parts_of.Goals as goal

pub returns : goal.returns
returns c =
    let x = c.in-Group-Round-default-default in
    let whole : c.args.form.now ≡ Group Round x.parts x.field-2 = search (rules, the_lemmas) in
    let made : tree c.args.form.now ≡ group Round (trees_of (trees x.parts.items)) x.field-2 = ap tree whole ∙ tree-Group Round x.parts x.field-2 in
    ap trees c.deref.ensures.value ∙ sym (ap parts_of made ∙ list_of-trees_of (trees x.parts.items))
