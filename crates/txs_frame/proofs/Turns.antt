-- What is made of lists item by item, with one item more.
use Rattle.std.proofs.Common.{◌≡◌, ◌⊎◌, ℕ, ◌+◌, ◌<◌, ◌==◌, Bool, true, false, if◌then◌else◌, List, [], ◌∷◌, ◌++◌, inl, inr, length, map, take, get_or, sym, ap, ◌∙◌}
use Rattle.std.proofs.lemmas.Bool.{eq-eqb, ne_eqb}
use Rattle.std.proofs.lemmas.List.{append-nil, take_more, map-append}
use Rattle.txs_frame.specs.Frame.{commutes_of}
use Rattle.txs_frame.specs.declared.frame.Commute.{Commute}
use Rattle.txs_frame.specs.declared.own.How.{How}
use Rattle.txs_frame.specs.declared.own.How.TheVariants as how
use Rattle.txs_frame.specs.declared.own.Own.{Own}
use Rattle.txs_frame.specs.Kept.{cells_by, writes_by, ref_cell, was_set, only_commuted}
use Rattle.txs_frame.proofs.Owns.{all_cells, cells_by_append, writes_by_append}
use Rattle.txs_frame.proofs.Phases.{commutes_append}

-- what was set was not only commuted
pub was_set_so : (h : How) → (h ≡ how.Set) ⊎ (h ≡ how.Both) → was_set h ≡ true
was_set_so h (inl e) = ap was_set e
was_set_so h (inr e) = ap was_set e

pub not_only_commuted : (h : How) → (h ≡ how.Set) ⊎ (h ≡ how.Both) → only_commuted h ≡ false
not_only_commuted h (inl e) = ap only_commuted e
not_only_commuted h (inr e) = ap only_commuted e

module _ {X : Type 0} (xs : List X) (i : ℕ) (x : X) (lt : i < length xs) (is : x ≡ get_or xs i x) where
  -- one item more
  pub one_more : take (i + 1) xs ≡ take i xs ++ x ∷ []
  one_more = take_more xs i x lt ∙ ap (λ y. take i xs ++ y ∷ []) (sym is)

module _ (f : How → Bool) (os : List Own) (i : ℕ) (o : Own) (lt : i < length os) (is : o ≡ get_or os i o) where
  cells_next : cells_by f (take (i + 1) os) ≡ cells_by f (take i os) ++ (if f o.how then ref_cell o.number ∷ [] else [])
  cells_next = ap (cells_by f) (one_more os i o lt is) ∙ cells_by_append f (take i os) (o ∷ [])

  -- one ref more, and none
  pub cells_join : f o.how ≡ true → cells_by f (take (i + 1) os) ≡ cells_by f (take i os) ++ ref_cell o.number ∷ []
  cells_join e = cells_next ∙ ap (λ (b : Bool). cells_by f (take i os) ++ (if b then ref_cell o.number ∷ [] else [])) e

  pub cells_stay : f o.how ≡ false → cells_by f (take (i + 1) os) ≡ cells_by f (take i os)
  cells_stay e = cells_next ∙ ap (λ (b : Bool). cells_by f (take i os) ++ (if b then ref_cell o.number ∷ [] else [])) e ∙ append-nil (cells_by f (take i os))

  writes_next : writes_by f (take (i + 1) os) ≡ writes_by f (take i os) ++ (if f o.how then (ref_cell o.number, o.value) ∷ [] else [])
  writes_next = ap (writes_by f) (one_more os i o lt is) ∙ writes_by_append f (take i os) (o ∷ [])

  -- one write more, and none
  pub writes_join : f o.how ≡ true → writes_by f (take (i + 1) os) ≡ writes_by f (take i os) ++ (ref_cell o.number, o.value) ∷ []
  writes_join e = writes_next ∙ ap (λ (b : Bool). writes_by f (take i os) ++ (if b then (ref_cell o.number, o.value) ∷ [] else [])) e

  pub writes_stay : f o.how ≡ false → writes_by f (take (i + 1) os) ≡ writes_by f (take i os)
  writes_stay e = writes_next ∙ ap (λ (b : Bool). writes_by f (take i os) ++ (if b then (ref_cell o.number, o.value) ∷ [] else [])) e ∙ append-nil (writes_by f (take i os))

module _ (k : ℕ) (cs : List Commute) (i : ℕ) (c : Commute) (lt : i < length cs) (is : c ≡ get_or cs i c) where
  commutes_next : commutes_of k (take (i + 1) cs) ≡ commutes_of k (take i cs) ++ (if c.cell.number == k then c ∷ [] else [])
  commutes_next = ap (commutes_of k) (one_more cs i c lt is) ∙ commutes_append k (take i cs) (c ∷ [])

  -- one commute more, and none
  pub commutes_join : c.cell.number ≡ k → commutes_of k (take (i + 1) cs) ≡ commutes_of k (take i cs) ++ c ∷ []
  commutes_join e = commutes_next ∙ ap (λ (b : Bool). commutes_of k (take i cs) ++ (if b then c ∷ [] else [])) (eq-eqb c.cell.number k e)

  pub commutes_stay : (c.cell.number ≡ k → ⊥) → commutes_of k (take (i + 1) cs) ≡ commutes_of k (take i cs)
  commutes_stay e = commutes_next ∙ ap (λ (b : Bool). commutes_of k (take i cs) ++ (if b then c ∷ [] else [])) (ne_eqb c.cell.number k e) ∙ append-nil (commutes_of k (take i cs))

module _ (os : List Own) (i : ℕ) (o : Own) (lt : i < length os) (is : o ≡ get_or os i o) where
  -- one ref more of all
  pub all_cells_more : all_cells (take (i + 1) os) ≡ all_cells (take i os) ++ ref_cell o.number ∷ []
  all_cells_more = ap (λ (xs : List Own). map (λ x. ref_cell x.number) xs) (one_more os i o lt is) ∙ map-append (λ x. ref_cell x.number) (take i os) (o ∷ [])
