use Rattle.std.proofs.Common.{◌≡◌, List, length, true, false, sym, ap, ◌∙◌, rules}
use Rattle.txs_reader.specs.declared.form.Bracket.TheVariants.{Round, Square}
use Rattle.txs_reader.specs.declared.form.Form.{Form, Group, the_lemmas}
use Rattle.txs_reader.specs.Tree.{group, tree}
use Rattle.txs_reader.proofs.Trees.{tree-Group}
use Rattle.txs_resolve_expand.specs.Expansions.{alone}
use Rattle.txs_resolve_expand.specs.Parts.{is_single, plain}
use Rattle.txs_resolve_expand.proofs.Singles.{alone_other, alone_single}
use Rattle.txs_resolve_expand.proofs.parts.+innermost.Goals as goal

pub returns-in_default : goal.returns-in_default
returns-in_default t c =
    let x = c.in_default in
    let whole : c.args.form.now ≡ Group Square x.field-1 x.field-2 = search (rules, the_lemmas) in
    let made : tree c.args.form.now ≡ group Square (plain x.field-1.items) x.field-2 = ap tree whole ∙ tree-Group Square x.field-1 x.field-2 in
    made ∙ sym (ap alone made)

pub returns-then-not-is_single : goal.returns-then-not-is_single
returns-then-not-is_single t c =
    let x = c.in-Group-Round-default-default in
    let whole : c.args.form.now ≡ Group Round x.forms x.field-2 = search (rules, the_lemmas) in
    let made : tree c.args.form.now ≡ group Round (plain x.forms.items) x.field-2 = ap tree whole ∙ tree-Group Round x.forms x.field-2 in
    let other : is_single (plain x.forms.items) ≡ false = ap (λ (l : List Form). is_single (plain l)) (sym c.deref.ensures.value) ∙ sym c.is_single.ensures.value ∙ c.if-not-is_single.true in
    made ∙ sym (ap alone made ∙ alone_other x.forms.items x.field-2 other)

pub returns : goal.returns
returns t c =
    let x = c.in-Group-Round-default-default in
    let whole : c.args.form.now ≡ Group Round x.forms x.field-2 = search (rules, the_lemmas) in
    let made : tree c.args.form.now ≡ group Round (plain x.forms.items) x.field-2 = ap tree whole ∙ tree-Group Round x.forms x.field-2 in
    let one : is_single (plain x.forms.items) ≡ true = ap (λ (l : List Form). is_single (plain l)) (sym c.deref.ensures.value) ∙ sym c.is_single.ensures.value ∙ c.if-not-is_single.false in
    let two : length x.forms.items ≡ 2 = ap (λ (l : List Form). length l) (sym c.deref.ensures.value) ∙ c.is_single.ensures.len c.if-not-is_single.false in
    c.innermost.ensures
    ∙ ap (λ (f : Form). alone (tree f)) c.index.ensures
    ∙ sym (ap alone made ∙ alone_single x.forms.items c.index.result.now x.field-2 two one)
