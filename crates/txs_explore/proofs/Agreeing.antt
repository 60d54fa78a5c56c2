-- Searches from states that nobody can tell apart find the same.
use Rattle.std.proofs.Common.{◌≡◌, ◌-◌, ℕ, zero, suc, Bool, true, false, nat_le, List, [], ◌∷◌, Option, Some, if◌then◌else◌, refl, ap, ◌∙◌}
use Rattle.txs_explore.specs.System.{System, has, AreAlike}
use Rattle.txs_explore.specs.Search.{Found, apart_from, joined, branches, ended, cut, among, search}
use Rattle.txs_explore.specs.Switches.{switched, affordable, among_few, search_few}
use Rattle.txs_explore.proofs.FewSwitches.{switched_alike}

module _ (y : System) (Alike : y.State → y.State → Type 0) (h : AreAlike y Alike) (s t : y.State) (a : Alike s t) where
  same_ended : ended y s ≡ ended y t
  same_ended = ap (λ o. record { ways = record { outcome = o; turns = [] } ∷ []; whole = true }) (h.outcome s t a)

  same_cut : (es : List ℕ) → cut y s es ≡ cut y t es
  same_cut [] = same_ended
  same_cut (k ∷ ks) = refl

  same_apart : (k : ℕ) (js : List ℕ) → apart_from y s k js ≡ apart_from y t k js
  same_apart k [] = refl
  same_apart k (j ∷ js) =
      ap (λ b. if b then j ∷ apart_from y s k js else apart_from y s k js) (h.both_apart k j s t a)
      ∙ ap (λ l. if y.apart t k j then j ∷ l else l) (same_apart k js)

  module _ (go to : ℕ → List ℕ → Found y) (each : (k : ℕ) (sl : List ℕ) → go k sl ≡ to k sl) where
    same_branches : (ks asleep : List ℕ) → branches y go s asleep ks ≡ branches y to t asleep ks
    same_branches [] asleep = refl
    same_branches (k ∷ ks) asleep = by (same_branches ks asleep) (same_branches ks (k ∷ asleep)) (has k asleep)
      where
        by : branches y go s asleep ks ≡ branches y to t asleep ks → branches y go s (k ∷ asleep) ks ≡ branches y to t (k ∷ asleep) ks → (b : Bool)
            → (if b then branches y go s asleep ks else joined y k (go k (apart_from y s k asleep)) (branches y go s (k ∷ asleep) ks))
            ≡ (if b then branches y to t asleep ks else joined y k (to k (apart_from y t k asleep)) (branches y to t (k ∷ asleep) ks))
        by e f true = e
        by e f false =
            ap (λ g. joined y k g (branches y go s (k ∷ asleep) ks)) (ap (go k) (same_apart k asleep) ∙ each k (apart_from y t k asleep))
            ∙ ap (joined y k (to k (apart_from y t k asleep))) f

    same_among : (asleep es : List ℕ) → among y go s asleep es ≡ among y to t asleep es
    same_among asleep [] = same_ended
    same_among asleep (k ∷ ks) = same_branches (k ∷ ks) asleep

  module _ (go to : ℕ → ℕ → Found y) (each : (k l : ℕ) → go k l ≡ to k l) (left : ℕ) (last : Option ℕ) where
    same_affordable : (ks : List ℕ) → affordable y go s left last ks ≡ affordable y to t left last ks
    same_affordable [] = refl
    same_affordable (k ∷ ks) =
        ap (λ m. if nat_le m left then joined y k (go k (left - m)) (affordable y go s left last ks) else affordable y go s left last ks) (switched_alike y Alike h last k s t a)
        ∙ by (same_affordable ks) (nat_le (switched y t last k) left)
      where
        by : affordable y go s left last ks ≡ affordable y to t left last ks → (b : Bool)
            → (if b then joined y k (go k (left - switched y t last k)) (affordable y go s left last ks) else affordable y go s left last ks)
            ≡ (if b then joined y k (to k (left - switched y t last k)) (affordable y to t left last ks) else affordable y to t left last ks)
        by e true = ap (λ g. joined y k g (affordable y go s left last ks)) (each k (left - switched y t last k)) ∙ ap (joined y k (to k (left - switched y t last k))) e
        by e false = e

    same_among_few : (es : List ℕ) → among_few y go s left last es ≡ among_few y to t left last es
    same_among_few [] = same_ended
    same_among_few (k ∷ ks) = same_affordable (k ∷ ks)

module _ (y : System) (Alike : y.State → y.State → Type 0) (h : AreAlike y Alike) where
  pub same_search : (n : ℕ) (asleep : List ℕ) (s t : y.State) → Alike s t → search y n asleep s ≡ search y n asleep t
  same_search zero asleep s t a = same_cut y Alike h s t a (y.enabled s) ∙ ap (cut y t) (h.enabled s t a)
  same_search (suc n) asleep s t a =
      same_among y Alike h s t a (λ k sleepers. search y n sleepers (y.turn k s)) (λ k sleepers. search y n sleepers (y.turn k t))
      (λ k sl. same_search n sl (y.turn k s) (y.turn k t) (h.turn k s t a)) asleep (y.enabled s)
      ∙ ap (among y (λ k sleepers. search y n sleepers (y.turn k t)) t asleep) (h.enabled s t a)

  pub same_search_few : (n left : ℕ) (last : Option ℕ) (s t : y.State) → Alike s t → search_few y n left last s ≡ search_few y n left last t
  same_search_few zero left last s t a = same_cut y Alike h s t a (y.enabled s) ∙ ap (cut y t) (h.enabled s t a)
  same_search_few (suc n) left last s t a =
      same_among_few y Alike h s t a (λ k l. search_few y n l (Some k) (y.turn k s)) (λ k l. search_few y n l (Some k) (y.turn k t))
      (λ k l. same_search_few n l (Some k) (y.turn k s) (y.turn k t) (h.turn k s t a)) left last (y.enabled s)
      ∙ ap (among_few y (λ k l. search_few y n l (Some k) (y.turn k t)) t left last) (h.enabled s t a)
