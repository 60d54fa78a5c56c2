-- When states that are the same where all wait can't be told apart by asks.
use Rattle.std.proofs.Common.{◌≡◌, ℕ, Bool, true, false, ◌==◌, if◌then◌else◌, refl, sym, ap, subst, ◌∙◌}
use Rattle.std.proofs.lemmas.Bool.{false≢true}
use Rattle.txs_value_data.proofs.SameLemmas.{numbers, number-itself}
use Rattle.txs_explore.specs.System.{has, AreAlike}
use Rattle.txs_explore.specs.Actors.{Next, Quiet, Asks, Rests, Actors, All, put, does, instruction, calm, by_asks}
use Rattle.txs_explore.proofs.Calming.{IsCalm, Falls, same_all, settles, calm_once, calm_first, turn_calm, turn_same}

-- each actor asks or rests
abbrev pub AreCalm : (y : Actors) → All y → Type 0
AreCalm y s = (k : ℕ) → IsCalm (y.next k (s.actors k))

-- What is wanted of actors: where all wait, one that may not go on changes nothing, and two whose asks are apart may be exchanged.
pub record AreCareful (y : Actors) : Type 0 where
  pub falls : Falls y
  pub rests : (k : ℕ) (s : All y) → AreCalm y s → has k (y.live s.shared s.actors) ≡ false → instruction y k s ≡ s
  pub differ : (k j : ℕ) (s : All y) → y.apart s.shared s.actors k j ≡ true → (k == j) ≡ false
  pub exchanged : (k j : ℕ) (s : All y) → AreCalm y s → y.apart s.shared s.actors k j ≡ true → instruction y j (instruction y k s) ≡ instruction y k (instruction y j s)

pub turned_about : (k j : ℕ) → (k == j) ≡ false → (j == k) ≡ false
turned_about k j d = go (j == k) refl
  where
    go : (b : Bool) → (j == k) ≡ b → b ≡ false
    go false e = refl
    go true e = absurd (false≢true (sym d ∙ ap (λ z. k == z) (numbers j k e) ∙ number-itself k))

-- another actor is where it was
pub other : (y : Actors) (k j : ℕ) (s : All y) → (k == j) ≡ false → (instruction y k s).actors j ≡ s.actors j
other y k j s d = by (y.next k (s.actors k))
  where
    by : (x : Next y.Local) → (does y k x s).actors j ≡ s.actors j
    by (Quiet m) = ap (λ b. if b then m else s.actors j) d
    by Asks = ap (λ b. if b then (y.answer k (s.actors k) s.shared).actor else s.actors j) d
    by Rests = refl

-- where one rests, its instruction may come before or after another's
pub rested : (y : Actors) (k j : ℕ) (s : All y) → (k == j) ≡ false → y.next k (s.actors k) ≡ Rests → instruction y j (instruction y k s) ≡ instruction y k (instruction y j s)
rested y k j s d e =
    ap (instruction y j) (ap (λ n. does y k n s) e)
    ∙ sym (ap (λ n. does y k n (instruction y j s)) (ap (y.next k) (other y j k s (turned_about k j d)) ∙ e))

-- where both ask, and are answered the same in both orders, so may theirs
module _ (y : Actors) (k j : ℕ) (s : All y) (d : (k == j) ≡ false) (e : y.next k (s.actors k) ≡ Asks) (f : y.next j (s.actors j) ≡ Asks)
    (first : (y.answer k (s.actors k) (y.answer j (s.actors j) s.shared).shared).actor ≡ (y.answer k (s.actors k) s.shared).actor)
    (second : (y.answer j (s.actors j) (y.answer k (s.actors k) s.shared).shared).actor ≡ (y.answer j (s.actors j) s.shared).actor)
    (both : (y.answer j (s.actors j) (y.answer k (s.actors k) s.shared).shared).shared ≡ (y.answer k (s.actors k) (y.answer j (s.actors j) s.shared).shared).shared) where
  -- one behind the other
  one_behind : (k j : ℕ) → (k == j) ≡ false → y.next k (s.actors k) ≡ Asks → y.next j (s.actors j) ≡ Asks
      → instruction y j (instruction y k s)
      ≡ record {
        shared = (y.answer j (s.actors j) (y.answer k (s.actors k) s.shared).shared).shared;
        actors = put j (y.answer j (s.actors j) (y.answer k (s.actors k) s.shared).shared).actor (put k (y.answer k (s.actors k) s.shared).actor s.actors);
      }
  one_behind k j d e f =
      ap (instruction y j) (ap (λ n. does y k n s) e)
      ∙ ap (λ n. does y j n (does y k Asks s)) (ap (y.next j) there ∙ f)
      ∙ ap (λ l. record {
        shared = (y.answer j l (y.answer k (s.actors k) s.shared).shared).shared;
        actors = put j (y.answer j l (y.answer k (s.actors k) s.shared).shared).actor (put k (y.answer k (s.actors k) s.shared).actor s.actors);
      }) there
    where
      there : put k (y.answer k (s.actors k) s.shared).actor s.actors j ≡ s.actors j
      there = ap (λ b. if b then (y.answer k (s.actors k) s.shared).actor else s.actors j) d

  pub exchanged_asks : instruction y j (instruction y k s) ≡ instruction y k (instruction y j s)
  exchanged_asks =
      one_behind k j d e f
      ∙ same_all y
      (record {
        shared = (y.answer j (s.actors j) (y.answer k (s.actors k) s.shared).shared).shared;
        actors = put j (y.answer j (s.actors j) (y.answer k (s.actors k) s.shared).shared).actor (put k (y.answer k (s.actors k) s.shared).actor s.actors);
      })
      (record {
        shared = (y.answer k (s.actors k) (y.answer j (s.actors j) s.shared).shared).shared;
        actors = put k (y.answer k (s.actors k) (y.answer j (s.actors j) s.shared).shared).actor (put j (y.answer j (s.actors j) s.shared).actor s.actors);
      })
      both (λ i. at i (j == i) (k == i) refl refl)
      ∙ sym (one_behind j k (turned_about k j d) f e)
    where
      at : (i : ℕ) (u v : Bool) → (j == i) ≡ u → (k == i) ≡ v
          → (if u then (y.answer j (s.actors j) (y.answer k (s.actors k) s.shared).shared).actor else if v then (y.answer k (s.actors k) s.shared).actor else s.actors i)
          ≡ (if v then (y.answer k (s.actors k) (y.answer j (s.actors j) s.shared).shared).actor else if u then (y.answer j (s.actors j) s.shared).actor else s.actors i)
      at i true true p q = absurd (false≢true (sym d ∙ ap (λ z. k == z) (numbers j i p) ∙ q))
      at i true false p q = second
      at i false true p q = sym first
      at i false false p q = refl

module _ (y : Actors) (h : AreCareful y) where
  calm_is : (s : All y) → AreCalm y (calm y s)
  calm_is s k = settles y h.falls k (s.actors k)

  -- one turn behind another is its instruction behind the other's, where all wait
  both_turns : (k j : ℕ) (s : All y) → (k == j) ≡ false → calm y ((by_asks y).turn j ((by_asks y).turn k s)) ≡ calm y (instruction y j (instruction y k (calm y s)))
  both_turns k j s d =
      turn_calm y h.falls j ((by_asks y).turn k s)
      ∙ ap (λ t. calm y (instruction y j t)) (turn_calm y h.falls k s)
      ∙ sym (calm_first y h.falls j (instruction y k (calm y s)) (subst (λ l. IsCalm (y.next j l)) (sym (other y k j (calm y s) d)) (calm_is s j)))

  may_exchange : (k j : ℕ) (s : All y) → (by_asks y).apart s k j ≡ true → calm y ((by_asks y).turn j ((by_asks y).turn k s)) ≡ calm y ((by_asks y).turn k ((by_asks y).turn j s))
  may_exchange k j s a =
      let d = h.differ k j (calm y s) a in
      both_turns k j s d ∙ ap (calm y) (h.exchanged k j (calm y s) (calm_is s) a) ∙ sym (both_turns j k s (turned_about k j d))

  pub asks_are_alike : AreAlike (by_asks y) (λ s t. calm y s ≡ calm y t)
  asks_are_alike = record {
    itself = λ s. refl;
    back = λ s t e. sym e;
    on = λ s t u e f. e ∙ f;
    enabled = λ s t e. ap (λ (u : All y). y.live u.shared u.actors) e;
    turn = λ k s t e. turn_same y h.falls k s t e;
    outcome = λ s t e. ap (λ (u : All y). y.told u.shared u.actors) e;
    both_apart = λ k j s t e. ap (λ (u : All y). y.apart u.shared u.actors k j) e;
    rests = λ k s r. turn_calm y h.falls k s ∙ ap (calm y) (h.rests k (calm y s) (calm_is s) r) ∙ calm_once y h.falls s;
    exchanged = λ k j s a. may_exchange k j s a;
  }
