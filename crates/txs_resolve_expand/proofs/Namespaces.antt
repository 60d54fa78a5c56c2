-- What `(ns name)` is made of.
use Rattle.std.proofs.Common.{◌≡◌, false, List, [], ◌∷◌, length, slice_index_or, Some, refl, arith}
use Rattle.txs_value_data.specs.declared.fault.Span.{Span}
use Rattle.txs_reader.specs.declared.form.Bracket.TheVariants.{Round}
use Rattle.txs_reader.specs.declared.form.Form.{Form}
use Rattle.txs_reader.specs.Tree.{group, tree}
use Rattle.txs_resolve_expand.specs.declared.names.FormName.TheVariants.{Ns}
use Rattle.txs_resolve_expand.specs.Expressions.{is_symbol}
use Rattle.txs_resolve_expand.specs.Namespace.{is_namespace, names_space}
use Rattle.txs_resolve_expand.specs.Parts.{plain}

pub not_one_name : (fs : List Form) → (length fs ≡ 1 → ⊥) → names_space (Some Ns) (plain fs) ≡ false
not_one_name [] h = refl
not_one_name (f ∷ []) h = absurd (h refl)
not_one_name (f ∷ g ∷ fs) h = refl

pub one_name : (fs : List Form) (d : Form) → length fs ≡ 1 → names_space (Some Ns) (plain fs) ≡ is_symbol (tree (slice_index_or fs 0 d))
one_name [] d h = absurd (omega (arith, h))
one_name (f ∷ []) d h = refl
one_name (f ∷ g ∷ fs) d h = absurd (omega (arith, h))

pub no_list : (fs : List Form) (at : Span) → length fs ≡ 0 → is_namespace (group Round (plain fs) at) ≡ false
no_list [] at none = refl
no_list (f ∷ fs) at none = absurd (omega (arith, none))
