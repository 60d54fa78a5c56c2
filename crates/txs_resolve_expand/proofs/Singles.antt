-- Lists of one part, which are that part.
use Rattle.std.proofs.Common.{◌≡◌, Bool, true, false, List, [], ◌∷◌, Some, length, get_or, if◌then◌else◌, refl, ap, ◌∙◌, arith}
use Rattle.txs_value_data.specs.declared.fault.Span.{Span}
use Rattle.txs_reader.specs.declared.form.Bracket.TheVariants.{Round}
use Rattle.txs_reader.specs.declared.form.Form.{Form}
use Rattle.txs_reader.specs.Tree.{PlainForm as FormTree, group, tree, first}
use Rattle.txs_reader.specs.Tree.{none as no_forms}
use Rattle.txs_resolve_expand.specs.declared.names.FormName.{FormName}
use Rattle.txs_resolve_expand.specs.Expansions.{alone, form_at, is_alone, list}
use Rattle.txs_resolve_expand.specs.Parts.{is_single, plain}
use Rattle.txs_resolve_expand.proofs.Tables.{head_form, head_named}

pub single_other : (fs : List Form) → (length fs ≡ 2 → ⊥) → false ≡ is_single (plain fs)
single_other [] h = refl
single_other (f ∷ []) h = refl
single_other (f ∷ g ∷ []) h = absurd (h refl)
single_other (f ∷ g ∷ e ∷ fs) h = refl

pub single_two : (fs : List Form) (d : Form) → length fs ≡ 2 → is_alone (form_at (tree (get_or fs 0 d))) ≡ is_single (plain fs)
single_two [] d h = absurd (omega (arith, h))
single_two (f ∷ []) d h = absurd (omega (arith, h))
single_two (f ∷ g ∷ []) d h = refl
single_two (f ∷ g ∷ e ∷ fs) d h = absurd (omega (arith, h))

-- a list of one part, by whether it is that part
abbrev by_alone : FormTree → FormTree → Span → Bool → FormTree
by_alone head e at b = if b then alone e else group Round (first head (first e no_forms)) at

pub alone_single : (fs : List Form) (d : Form) (at : Span) → length fs ≡ 2 → is_single (plain fs) ≡ true → alone (group Round (plain fs) at) ≡ alone (tree (get_or fs 1 d))
alone_single [] d at h is = absurd (omega (arith, h))
alone_single (f ∷ []) d at h is = absurd (omega (arith, h))
alone_single (f ∷ g ∷ []) d at h is = ap (by_alone (tree f) (tree g) at) is
alone_single (f ∷ g ∷ e ∷ fs) d at h is = absurd (omega (arith, h))

pub alone_other : (fs : List Form) (at : Span) → is_single (plain fs) ≡ false → alone (group Round (plain fs) at) ≡ group Round (plain fs) at
alone_other [] at is = refl
alone_other (f ∷ []) at is = refl
alone_other (f ∷ g ∷ []) at is = ap (by_alone (tree f) (tree g) at) is
alone_other (f ∷ g ∷ e ∷ fs) at is = refl

-- the same of the list of a form's name and these parts
pub alone_named : (name : FormName) (fs : List Form) (d : Form) (at : Span) → length fs ≡ 1 → is_alone (Some name) ≡ true → alone (list name (plain fs) at) ≡ alone (tree (get_or fs 0 d))
alone_named name [] d at h is = absurd (omega (arith, h))
alone_named name (f ∷ []) d at h is = ap (by_alone (head_form name at) (tree f) at) (ap is_alone (head_named name at) ∙ is)
alone_named name (f ∷ g ∷ fs) d at h is = absurd (omega (arith, h))

pub alone_many : (name : FormName) (fs : List Form) (at : Span) → (length fs ≡ 1 → ⊥) → alone (list name (plain fs) at) ≡ list name (plain fs) at
alone_many name [] at h = refl
alone_many name (f ∷ []) at h = absurd (h refl)
alone_many name (f ∷ g ∷ fs) at h = refl

pub alone_not : (name : FormName) (fs : List Form) (at : Span) → is_alone (Some name) ≡ false → alone (list name (plain fs) at) ≡ list name (plain fs) at
alone_not name [] at is = refl
alone_not name (f ∷ []) at is = ap (by_alone (head_form name at) (tree f) at) (ap is_alone (head_named name at) ∙ is)
alone_not name (f ∷ g ∷ fs) at is = refl
