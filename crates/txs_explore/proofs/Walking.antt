-- That an actor goes on alone is so many instructions of its own.
use Rattle.std.proofs.Common.{◌≡◌, ℕ, zero, suc, Bool, true, false, ◌==◌, List, [], ◌∷◌, if◌then◌else◌, refl, sym, ap, ◌∙◌}
use Rattle.txs_value_data.proofs.SameLemmas.{numbers, number-itself}
use Rattle.txs_explore.specs.Actors.{Next, Quiet, Asks, Rests, Actors, All, put, does, instruction, instructions, by_next, walks, settle}
use Rattle.txs_explore.proofs.Calming.{same_all}

module _ (y : Actors) where
  -- an actor in the place of what it was
  abbrev with_actor : ℕ → y.Local → All y → All y
  with_actor k l s = record { shared = s.shared; actors = put k l s.actors }

  in_place : (k : ℕ) (s : All y) → s ≡ with_actor k (s.actors k) s
  in_place k s = same_all y s (with_actor k (s.actors k) s) refl (λ j. at j (k == j) refl)
    where
      at : (j : ℕ) (b : Bool) → (k == j) ≡ b → s.actors j ≡ (if b then s.actors k else s.actors j)
      at j true q = ap s.actors (sym (numbers k j q))
      at j false q = refl

  put_twice : (k : ℕ) (l m : y.Local) (s : All y) → with_actor k m (with_actor k l s) ≡ with_actor k m s
  put_twice k l m s = same_all y (with_actor k m (with_actor k l s)) (with_actor k m s) refl (λ j. at (k == j) (s.actors j))
    where
      at : (b : Bool) (z : y.Local) → (if b then m else if b then l else z) ≡ (if b then m else z)
      at true z = refl
      at false z = refl

  found_there : (k : ℕ) (l : y.Local) (s : All y) → (with_actor k l s).actors k ≡ l
  found_there k l s = ap (λ b. if b then l else s.actors k) (number-itself k)

  -- these instructions come there
  abbrev Walk : All y → All y → Type 0
  Walk s e = (ks : List ℕ) × (instructions y ks s ≡ e)

  -- an actor that goes on alone, for so many instructions at most
  walk_from : (k n : ℕ) (l : y.Local) (s : All y) → Walk (with_actor k l s) (with_actor k (walks y k n l) s)
  walk_from k zero l s = ([], refl)
  walk_from k (suc n) l s = by (λ m. walk_from k n m s) (y.next k l) refl
    where
      quiet : (m : y.Local) → y.next k l ≡ Quiet m → instruction y k (with_actor k l s) ≡ with_actor k m s
      quiet m e = ap (λ x. does y k x (with_actor k l s)) (ap (y.next k) (found_there k l s) ∙ e) ∙ put_twice k l m s

      by : ((m : y.Local) → Walk (with_actor k m s) (with_actor k (walks y k n m) s)) → (x : Next y.Local) → y.next k l ≡ x
          → Walk (with_actor k l s) (with_actor k (by_next (λ m. walks y k n m) x l) s)
      by again (Quiet m) e = let w = again m in (k ∷ w.0, ap (instructions y w.0) (quiet m e) ∙ w.1)
      by again Asks e = ([], refl)
      by again Rests e = ([], refl)

  -- up to where it asks or rests
  pub settle_walks : (k : ℕ) (s : All y) → (ks : List ℕ) × (instructions y ks s ≡ settle y k s)
  settle_walks k s =
      let w = walk_from k (y.left (s.actors k)) (s.actors k) s in
      (w.0, ap (instructions y w.0) (in_place k s) ∙ w.1)
