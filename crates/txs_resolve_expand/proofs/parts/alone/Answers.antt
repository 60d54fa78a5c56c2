use Rattle.std.proofs.Common.{◌≡◌, sym, ap, subst, ◌∙◌}
use Rattle.txs_reader.specs.declared.form.Form.{Form}
use Rattle.txs_reader.specs.Tree.{tree}
use Rattle.txs_resolve_expand.specs.Expansions.{alone}
use Rattle.txs_resolve_expand.specs.Parts.{part_form}
use Rattle.txs_resolve_expand.proofs.Singles.{alone_many, alone_named, alone_not, alone_other, alone_single}
use Rattle.txs_resolve_expand.proofs.parts.alone.Goals.{else-forms-eq1-via-then-forms-eq1+else-is_alone, else-forms-eq1-via-else-forms-eq1}
use Rattle.txs_resolve_expand.proofs.parts.alone.Goals as goal

pub returns-else-forms-eq1-clause-form : goal.returns-else-forms-eq1-clause-form
returns-else-forms-eq1-clause-form c at =
    let name = c.in-List.name in
    let forms = c.in-List.forms.now in
    subst (λ p. alone (part_form at p) ≡ part_form at p) (sym c.in-List.is)
    (elim c.else-forms-eq1.branch [
      | else-forms-eq1-via-then-forms-eq1+else-is_alone w ↦ alone_not name forms at (sym w.is_alone.ensures ∙ w.if-is_alone.false)
      | else-forms-eq1-via-else-forms-eq1 w ↦ alone_many name forms at w.if-forms-eq1.false
    ])

pub returns-then-is_alone-clause-form : goal.returns-then-is_alone-clause-form
returns-then-is_alone-clause-form c at =
    subst (λ p. alone (part_form at p) ≡ tree c.innermost-then-is_alone.result.now) (sym c.in-List.is)
    (alone_named c.in-List.name c.in-List.forms.now c.index-forms-0.result at c.if-forms-eq1.true (sym c.is_alone.ensures ∙ c.if-is_alone.true)
    ∙ ap (λ (f : Form). alone (tree f)) (sym c.index-forms-0.is)
    ∙ sym c.innermost-then-is_alone.ensures)

pub returns-then-is_single-clause-form : goal.returns-then-is_single-clause-form
returns-then-is_single-clause-form c at =
    subst (λ p. alone (part_form at p) ≡ tree c.innermost-then-is_single.result.now) (sym c.in-Prefix.is)
    (alone_single c.in-Prefix.forms.now c.index-forms-1.result at (c.is_single.ensures.len c.if-is_single.true) (sym c.is_single.ensures.value ∙ c.if-is_single.true)
    ∙ ap (λ (f : Form). alone (tree f)) (sym c.index-forms-1.is)
    ∙ sym c.innermost-then-is_single.ensures)

pub returns-else-is_single-clause-form : goal.returns-else-is_single-clause-form
returns-else-is_single-clause-form c at =
    subst (λ p. alone (part_form at p) ≡ part_form at p) (sym c.in-Prefix.is)
    (alone_other c.in-Prefix.forms.now at (sym c.is_single.ensures.value ∙ c.if-is_single.false))
