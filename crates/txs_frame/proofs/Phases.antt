-- The work of the commute phase, commute by commute and ref by ref.
use Rattle.std.proofs.Common.{◌≡◌, ℕ, ◌==◌, Bool, true, false, if◌then◌else◌, List, [], ◌∷◌, ◌++◌, refl, sym, ap, ◌∙◌, append_assoc}
use Rattle.txs_value_data.specs.declared.value.CellId.{CellId}
use Rattle.txs_frame.specs.Frame.{commutes_of, by_ref}
use Rattle.txs_frame.specs.declared.frame.Commute.{Commute}

pub commutes_append : (k : ℕ) (cs ds : List Commute) → commutes_of k (cs ++ ds) ≡ commutes_of k cs ++ commutes_of k ds
commutes_append k [] ds = refl
commutes_append k (c ∷ cs) ds = test (c.cell.number == k) (commutes_append k cs ds)
  where
    test : (b : Bool) → commutes_of k (cs ++ ds) ≡ commutes_of k cs ++ commutes_of k ds → (if b then c ∷ commutes_of k (cs ++ ds) else commutes_of k (cs ++ ds)) ≡ (if b then c ∷ commutes_of k cs else commutes_of k cs) ++ commutes_of k ds
    test true rest = ap (λ xs. c ∷ xs) rest
    test false rest = rest

pub by_ref_more : (ds : List CellId) (d : CellId) (cs : List Commute) → by_ref (ds ++ d ∷ []) cs ≡ by_ref ds cs ++ commutes_of d.number cs
by_ref_more [] d cs = nothing_behind (commutes_of d.number cs)
  where
    nothing_behind : (xs : List Commute) → xs ++ [] ≡ xs
    nothing_behind [] = refl
    nothing_behind (x ∷ xs) = ap (λ ys. x ∷ ys) (nothing_behind xs)
by_ref_more (e ∷ ds) d cs = ap (λ xs. commutes_of e.number cs ++ xs) (by_ref_more ds d cs) ∙ sym (append_assoc (commutes_of e.number cs) (by_ref ds cs) (commutes_of d.number cs))
