-- The options of a cell, from one on.
use Rattle.std.proofs.Common.{◌≡◌, ◌<◌, ◌+◌, ℕ, List, [], ◌∷◌, length, drop, get_or, None, refl, sym, ap, ◌∙◌, arith, length-drop}
use Rattle.txs_value_data.specs.declared.value.CellKind.{CellKind}
use Rattle.txs_reader.specs.declared.form.Form.{Form}
use Rattle.txs_reader.specs.Tree.{tree, first}
use Rattle.txs_resolve_expand.specs.Parts.{plain}
use Rattle.txs_resolve_expand.proofs.Rows.{plain_at}
use Rattle.txs_resolve.specs.Names.{Options, with_option, with_options, options_from}

-- a keyword and a form, and what stands behind them
pub options_pair : (k : CellKind) (o : Options) (fs : List Form) (i : ℕ) (d e : Form) → i + 1 < length fs → d ≡ get_or fs i d → e ≡ get_or fs (i + 1) e
    → options_from k o (plain (drop i fs)) ≡ with_options (with_option k (tree d) (tree e) o) (λ p. options_from k p (plain (drop (i + 2) fs)))
options_pair k o fs i d e lt here next =
    ap (options_from k o)
    (plain_at fs i d (omega (arith, lt)) ∙ ap (first (tree (get_or fs i d))) (plain_at fs (i + 1) e lt ∙ ap (λ (n : ℕ). first (tree (get_or fs (i + 1) e)) (plain (drop n fs))) (omega arith)))
    ∙ ap (λ (f : Form). with_options (with_option k (tree f) (tree (get_or fs (i + 1) e)) o) (λ p. options_from k p (plain (drop (i + 2) fs)))) (sym here)
    ∙ ap (λ (f : Form). with_options (with_option k (tree d) (tree f) o) (λ p. options_from k p (plain (drop (i + 2) fs)))) (sym next)

one_form : (k : CellKind) (o : Options) (fs : List Form) → length fs ≡ 1 → options_from k o (plain fs) ≡ None
one_form k o [] one = absurd (omega (arith, one))
one_form k o (f ∷ []) one = refl
one_form k o (f ∷ g ∷ fs) one = absurd (omega (arith, one))

pub options_odd : (k : CellKind) (o : Options) (fs : List Form) (i : ℕ) → i + 1 ≡ length fs → options_from k o (plain (drop i fs)) ≡ None
options_odd k o fs i one = one_form k o (drop i fs) (omega (arith, one, length-drop i fs))
