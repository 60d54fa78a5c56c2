use Rattle.std.proofs.Common.{◌≡◌, List, length, sym, ap, ◌∙◌, rules}
use Rattle.txs_reader.specs.declared.form.Bracket.TheVariants.{Round, Square}
use Rattle.txs_reader.specs.declared.form.Form.{Form, Group, the_lemmas}
use Rattle.txs_reader.specs.Tree.{group, tree}
use Rattle.txs_reader.proofs.Trees.{tree-Group}
use Rattle.txs_resolve_expand.specs.Namespace.{is_namespace}
use Rattle.txs_resolve_expand.specs.Parts.{plain}
use Rattle.txs_resolve_expand.proofs.Namespaces.{no_list}
use Rattle.txs_resolve_expand.proofs.namespace.is_namespace.Goals as goal

pub returns-in_default : goal.returns-in_default
returns-in_default c =
    let x = c.in_default in
    let whole : c.args.form.now ≡ Group Square x.field-1 x.field-2 = search (rules, the_lemmas) in
    sym (ap is_namespace (ap tree whole ∙ tree-Group Square x.field-1 x.field-2))

pub returns-in_default-split_first : goal.returns-in_default-split_first
returns-in_default-split_first c =
    let x = c.in-Group-Round-default-default in
    let whole : c.args.form.now ≡ Group Round x.forms x.field-2 = search (rules, the_lemmas) in
    let none : length x.forms.items ≡ 0 = ap (λ (l : List Form). length l) (sym c.deref.ensures.value) ∙ c.in_default-split_first.ensures.cases in
    sym (ap is_namespace (ap tree whole ∙ tree-Group Round x.forms x.field-2) ∙ no_list x.forms.items x.field-2 none)

pub returns : goal.returns
returns c =
    let x = c.in-Group-Round-default-default in
    let whole : c.args.form.now ≡ Group Round x.forms x.field-2 = search (rules, the_lemmas) in
    c.names_space.ensures
    ∙ sym (ap is_namespace
    (ap tree whole
    ∙ tree-Group Round x.forms x.field-2
    ∙ ap (λ (l : List Form). group Round (plain l) x.field-2) (sym c.deref.ensures.value ∙ c.in-Some.ensures.cases.0)))
