-- Laws of sets of cells.
use Rattle.std.proofs.Common.{◌≡◌, ℕ, ◌==◌, ◌||◌, Bool, true, false, if◌then◌else◌, List, [], ◌∷◌, refl, sym, ap, ◌∙◌}
use Rattle.std.proofs.lemmas.Bool.{eqb-true, true≢false}
use Rattle.txs_value_data.specs.declared.value.CellId.{CellId}
use Rattle.txs_frame.specs.Frame.{has_number, outside_of}

pub set_not_commuted : (ds cs : List CellId) (k : ℕ) → has_number ds k ≡ true → has_number (outside_of ds cs) k ≡ false
set_not_commuted ds [] k e = refl
set_not_commuted ds (c ∷ cs) k e = test (has_number ds c.number) (c.number == k) refl refl (set_not_commuted ds cs k e)
  where
    test : (a b : Bool) → has_number ds c.number ≡ a → (c.number == k) ≡ b → has_number (outside_of ds cs) k ≡ false → has_number (if a then outside_of ds cs else c ∷ outside_of ds cs) k ≡ false
    test true b f g rest = rest
    test false true f g rest = absurd (true≢false (sym (ap (has_number ds) (eqb-true c.number k g) ∙ e) ∙ f))
    test false false f g rest = ap (λ x. x || has_number (outside_of ds cs) k) g ∙ rest
