-- Instructions of actors that go on alone can be left out: each list of instructions comes to where a list of asks comes to.
use Rattle.std.proofs.Common.{◌≡◌, ◌<◌, ◌≤◌, ℕ, zero, suc, Bool, true, false, ◌==◌, List, [], ◌∷◌, if◌then◌else◌, refl, sym, ap, subst, ◌∙◌, arith}
use Rattle.txs_value_data.proofs.SameLemmas.{numbers, number-itself}
use Rattle.txs_explore.specs.System.{turns}
use Rattle.txs_explore.specs.Actors.{Next, Quiet, Asks, Rests, Actors, All, put, does, instruction, instructions, by_next, walks, settled, settle, calm, by_asks}

-- it asks or rests
abbrev pub IsCalm : {L : Type 0} → Next L → Type 0
IsCalm (Quiet m) = ⊥
IsCalm Asks = Unit {0}
IsCalm Rests = Unit {0}

-- an instruction alone leaves fewer
abbrev pub Falls : Actors → Type 0
Falls y = (k : ℕ) (l m : y.Local) → y.next k l ≡ Quiet m → y.left m < y.left l

-- states with the same actors and the same shared
pub same_all : (y : Actors) (s t : All y) → s.shared ≡ t.shared → ((k : ℕ) → s.actors k ≡ t.actors k) → s ≡ t
same_all y s t e f = λ i. record { shared = e i; actors = λ k. f k i }

-- an actor in its own place
pub put_itself : {A : Type 0} (k : ℕ) (a : A) (f : ℕ → A) → put k a f k ≡ a
put_itself k a f = ap (λ b. if b then a else f k) (number-itself k)

module _ (y : Actors) (falls : Falls y) where
  -- ---- one actor

  -- one that asks or rests stays where it is
  stays : (k n : ℕ) (l : y.Local) → IsCalm (y.next k l) → walks y k n l ≡ l
  stays k zero l c = refl
  stays k (suc n) l c = by (y.next k l) c
    where
      by : (x : Next y.Local) → IsCalm x → by_next (λ m. walks y k n m) x l ≡ l
      by (Quiet m) c = absurd c
      by Asks c = refl
      by Rests c = refl

  -- with room for its walk it comes to where it asks or rests
  comes : (k n : ℕ) (l : y.Local) → y.left l ≤ n → IsCalm (y.next k (walks y k n l))
  comes k zero l h = by (y.next k l) refl
    where
      by : (x : Next y.Local) → y.next k l ≡ x → IsCalm x
      by (Quiet m) e = absurd (omega (arith, falls k l m e, h))
      by Asks e = tt
      by Rests e = tt
  comes k (suc n) l h = by (λ m g. comes k n m g) (y.next k l) refl
    where
      by : ((m : y.Local) → y.left m ≤ n → IsCalm (y.next k (walks y k n m))) → (x : Next y.Local) → y.next k l ≡ x → IsCalm (y.next k (by_next (λ m. walks y k n m) x l))
      by again (Quiet m) e = again m (omega (arith, falls k l m e, h))
      by again Asks e = subst IsCalm (sym e) tt
      by again Rests e = subst IsCalm (sym e) tt

  -- two walks with room for them come to the same
  agree : (k n m : ℕ) (l : y.Local) → y.left l ≤ n → y.left l ≤ m → walks y k n l ≡ walks y k m l
  agree k zero m l h g = sym (stays k m l (comes k zero l h))
  agree k (suc n) zero l h g = stays k (suc n) l (comes k zero l g)
  agree k (suc n) (suc m) l h g = by (λ x a b. agree k n m x a b) (y.next k l) refl
    where
      by : ((x : y.Local) → y.left x ≤ n → y.left x ≤ m → walks y k n x ≡ walks y k m x) → (x : Next y.Local) → y.next k l ≡ x → by_next (λ z. walks y k n z) x l ≡ by_next (λ z. walks y k m z) x l
      by again (Quiet z) e = again z (omega (arith, falls k l z e, h)) (omega (arith, falls k l z e, g))
      by again Asks e = refl
      by again Rests e = refl

  pub settles : (k : ℕ) (l : y.Local) → IsCalm (y.next k (settled y k l))
  settles k l = comes k (y.left l) l (omega arith)

  -- one that asks or rests is where it settles
  pub settled_there : (k : ℕ) (l : y.Local) → IsCalm (y.next k l) → settled y k l ≡ l
  settled_there k l c = stays k (y.left l) l c

  settled_once : (k : ℕ) (l : y.Local) → settled y k (settled y k l) ≡ settled y k l
  settled_once k l = settled_there k (settled y k l) (settles k l)

  -- after an instruction alone it settles where it did before
  pub settled_next : (k : ℕ) (l m : y.Local) → y.next k l ≡ Quiet m → settled y k m ≡ settled y k l
  settled_next k l m e =
      agree k (y.left m) (y.left l) m (omega arith) (omega (arith, falls k l m e)) ∙ sym one ∙ agree k (suc (y.left l)) (y.left l) l (omega arith) (omega arith)
    where
      one : walks y k (suc (y.left l)) l ≡ walks y k (y.left l) m
      one = ap (λ x. by_next (λ z. walks y k (y.left l) z) x l) e

  -- ---- all actors

  pub calm_once : (s : All y) → calm y (calm y s) ≡ calm y s
  calm_once s = same_all y (calm y (calm y s)) (calm y s) refl (λ k. settled_once k (s.actors k))

  -- that one actor goes on alone changes nothing where all do
  calm_settled : (k : ℕ) (s : All y) → calm y (settle y k s) ≡ calm y s
  calm_settled k s = same_all y (calm y (settle y k s)) (calm y s) refl (λ j. at j (k == j) refl)
    where
      at : (j : ℕ) (b : Bool) → (k == j) ≡ b → settled y j (if b then settled y k (s.actors k) else s.actors j) ≡ settled y j (s.actors j)
      at j true q = subst (λ z. settled y z (settled y k (s.actors k)) ≡ settled y z (s.actors z)) (numbers k j q) (settled_once k (s.actors k))
      at j false q = refl

  -- an instruction alone
  quiet : (k : ℕ) (s : All y) (m : y.Local) → y.next k (s.actors k) ≡ Quiet m → calm y (instruction y k s) ≡ calm y s
  quiet k s m e = ap (λ x. calm y (does y k x s)) e ∙ same_all y (calm y (does y k (Quiet m) s)) (calm y s) refl (λ j. at j (k == j) refl)
    where
      at : (j : ℕ) (b : Bool) → (k == j) ≡ b → settled y j (if b then m else s.actors j) ≡ settled y j (s.actors j)
      at j true q = subst (λ z. settled y z m ≡ settled y z (s.actors z)) (numbers k j q) (settled_next k (s.actors k) m e)
      at j false q = refl

  -- an ask
  asks : (k : ℕ) (s : All y) → y.next k (s.actors k) ≡ Asks → calm y (instruction y k s) ≡ calm y (instruction y k (calm y s))
  asks k s e = ap (λ x. calm y (does y k x s)) e ∙ same ∙ sym (ap (λ x. calm y (does y k x (calm y s))) (ap (y.next k) here ∙ e))
    where
      here : settled y k (s.actors k) ≡ s.actors k
      here = settled_there k (s.actors k) (subst IsCalm (sym e) tt)

      at : (a : y.Local) (j : ℕ) (b : Bool) → settled y j (if b then a else s.actors j) ≡ settled y j (if b then a else settled y j (s.actors j))
      at a j true = refl
      at a j false = sym (settled_once j (s.actors j))

      with_answer : (l : y.Local) → l ≡ s.actors k
          → calm y (record { shared = (y.answer k (s.actors k) s.shared).shared; actors = put k (y.answer k (s.actors k) s.shared).actor s.actors })
          ≡ calm y (record { shared = (y.answer k l s.shared).shared; actors = put k (y.answer k l s.shared).actor (λ j. settled y j (s.actors j)) })
      with_answer l q =
          same_all y (calm y (record { shared = (y.answer k (s.actors k) s.shared).shared; actors = put k (y.answer k (s.actors k) s.shared).actor s.actors }))
          (calm y (record { shared = (y.answer k (s.actors k) s.shared).shared; actors = put k (y.answer k (s.actors k) s.shared).actor (λ j. settled y j (s.actors j)) }))
          refl (λ j. at (y.answer k (s.actors k) s.shared).actor j (k == j))
          ∙ ap (λ z. calm y (record { shared = (y.answer k z s.shared).shared; actors = put k (y.answer k z s.shared).actor (λ j. settled y j (s.actors j)) })) (sym q)

      same : calm y (does y k Asks s) ≡ calm y (does y k Asks (calm y s))
      same = with_answer (settled y k (s.actors k)) here

  -- an actor that asks or rests may make its instruction before or after the others went on alone
  pub calm_first : (k : ℕ) (s : All y) → IsCalm (y.next k (s.actors k)) → calm y (instruction y k s) ≡ calm y (instruction y k (calm y s))
  calm_first k s c = by (y.next k (s.actors k)) refl c
    where
      by : (x : Next y.Local) → y.next k (s.actors k) ≡ x → IsCalm x → calm y (instruction y k s) ≡ calm y (instruction y k (calm y s))
      by (Quiet m) e c = absurd c
      by Asks e c = asks k s e
      by Rests e c =
          ap (λ x. calm y (does y k x s)) e ∙ sym (calm_once s) ∙ sym (ap (λ x. calm y (does y k x (calm y s))) (ap (y.next k) (settled_there k (s.actors k) (subst IsCalm (sym e) tt)) ∙ e))

  -- a turn is one instruction, where all wait
  pub turn_calm : (k : ℕ) (s : All y) → calm y ((by_asks y).turn k s) ≡ calm y (instruction y k (calm y s))
  turn_calm k s = calm_first k (settle y k s) (subst (λ l. IsCalm (y.next k l)) (sym (put_itself k (settled y k (s.actors k)) s.actors)) (settles k (s.actors k))) ∙ ap (λ t. calm y (instruction y k t)) (calm_settled k s)

  -- an actor that asks or rests makes its turn by one instruction
  pub calm_turn : (k : ℕ) (s : All y) → IsCalm (y.next k (s.actors k)) → (by_asks y).turn k s ≡ instruction y k s
  calm_turn k s c = ap (instruction y k) (same_all y (settle y k s) s refl (λ j. at j (k == j) refl))
    where
      at : (j : ℕ) (b : Bool) → (k == j) ≡ b → (if b then settled y k (s.actors k) else s.actors j) ≡ s.actors j
      at j true q = settled_there k (s.actors k) c ∙ ap s.actors (numbers k j q)
      at j false q = refl

  -- an instruction alone is the first of a turn
  pub quiet_turn : (k : ℕ) (s : All y) (m : y.Local) → y.next k (s.actors k) ≡ Quiet m → (by_asks y).turn k (instruction y k s) ≡ (by_asks y).turn k s
  quiet_turn k s m e =
      ap (λ x. instruction y k (settle y k (does y k x s))) e
      ∙ ap (instruction y k) (same_all y (settle y k (does y k (Quiet m) s)) (settle y k s) refl (λ j. at j (k == j)))
    where
      there : settled y k (put k m s.actors k) ≡ settled y k (s.actors k)
      there = ap (settled y k) (put_itself k m s.actors) ∙ settled_next k (s.actors k) m e

      at : (j : ℕ) (b : Bool) → (if b then settled y k (put k m s.actors k) else if b then m else s.actors j) ≡ (if b then settled y k (s.actors k) else s.actors j)
      at j true = there
      at j false = refl

  -- and where the actor rests behind it, it is the whole turn
  pub quiet_end : (k : ℕ) (s : All y) (m : y.Local) → y.next k (s.actors k) ≡ Quiet m → y.next k m ≡ Rests → (by_asks y).turn k s ≡ instruction y k s
  quiet_end k s m e r =
      sym (quiet_turn k s m e) ∙ calm_turn k (instruction y k s) (subst IsCalm (sym rests) tt) ∙ ap (λ x. does y k x (instruction y k s)) rests
    where
      rests : y.next k ((instruction y k s).actors k) ≡ Rests
      rests = ap (λ x. y.next k ((does y k x s).actors k)) e ∙ ap (y.next k) (put_itself k m s.actors) ∙ r

  -- turns from states that are the same where all wait come to such states
  pub turn_same : (k : ℕ) (s t : All y) → calm y s ≡ calm y t → calm y ((by_asks y).turn k s) ≡ calm y ((by_asks y).turn k t)
  turn_same k s t e = turn_calm k s ∙ ap (λ u. calm y (instruction y k u)) e ∙ sym (turn_calm k t)

  turns_same : (ks : List ℕ) (s t : All y) → calm y s ≡ calm y t → calm y (turns (by_asks y) ks s) ≡ calm y (turns (by_asks y) ks t)
  turns_same [] s t e = e
  turns_same (k ∷ ks) s t e = turns_same ks ((by_asks y).turn k s) ((by_asks y).turn k t) (turn_same k s t e)

  -- each list of instructions comes to where asks come to
  pub record ComeTo (s e : All y) : Type 0 where
    pub by : List ℕ
    pub there : calm y (turns (by_asks y) by s) ≡ calm y e

  one_more : (k : ℕ) (s e : All y) → calm y (instruction y k s) ≡ calm y ((by_asks y).turn k s) → ComeTo (instruction y k s) e → ComeTo s e
  one_more k s e q c = record { by = k ∷ c.by; there = turns_same c.by ((by_asks y).turn k s) (instruction y k s) (sym q) ∙ c.there }

  none_more : (k : ℕ) (s e : All y) → calm y (instruction y k s) ≡ calm y s → ComeTo (instruction y k s) e → ComeTo s e
  none_more k s e q c = record { by = c.by; there = turns_same c.by s (instruction y k s) (sym q) ∙ c.there }

  pub come : (ks : List ℕ) (s : All y) → ComeTo s (instructions y ks s)
  come [] s = record { by = []; there = refl }
  come (k ∷ ks) s = by (come ks (instruction y k s)) (y.next k (s.actors k)) refl
    where
      by : ComeTo (instruction y k s) (instructions y ks (instruction y k s)) → (x : Next y.Local) → y.next k (s.actors k) ≡ x → ComeTo s (instructions y ks (instruction y k s))
      by c (Quiet m) e = none_more k s (instructions y ks (instruction y k s)) (quiet k s m e) c
      by c Asks e = one_more k s (instructions y ks (instruction y k s)) (calm_first k s (subst IsCalm (sym e) tt) ∙ sym (turn_calm k s)) c
      by c Rests e = none_more k s (instructions y ks (instruction y k s)) (ap (λ x. calm y (does y k x s)) e) c
