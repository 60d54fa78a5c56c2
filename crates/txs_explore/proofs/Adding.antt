-- What is added to what was found: no ending is lost, and each way is one.
use Rattle.std.proofs.Common.{◌≡◌, ◌⊎◌, inl, inr, ◌<◌, ◌≤◌, ◌+◌, ◌-◌, ℕ, zero, suc, Bool, true, false, nat_le, List, [], ◌∷◌, ◌++◌, map, Option, Some, None, if◌then◌else◌, refl, sym, ap, subst, ◌∙◌, arith}
use Rattle.std.proofs.lemmas.Bool.{false≢true}
use Rattle.txs_code_meaning.specs.PlainCode.{PlainCode}
use Rattle.txs_explore.specs.System.{System, has, IsIn, MayGo, turns}
use Rattle.txs_explore.specs.Search as searched
use Rattle.txs_explore.specs.Search.{Found, IsWay, Tells, apart_from, branches, search}
use Rattle.txs_explore.specs.Switches.{switched, search_few}
use Rattle.txs_explore.specs.Runners as runs
use Rattle.txs_explore.specs.Runners.{asking, seen}
use Rattle.txs_explore.proofs.Sound.{in_cases}
use Rattle.txs_explore.specs.declared.ending.Ending.{Ending}
use Rattle.txs_explore.specs.declared.look.Node.{Node}
use Rattle.txs_explore.specs.declared.ways.Way.{Way}
use Rattle.txs_explore.specs.Told.{explored, begins}
use Rattle.txs_explore.specs.Ways.{as_ending, as_way, as_ways}
use Rattle.txs_explore.specs.Looked.{IsNode, state_at}
use Rattle.txs_explore.specs.Node.{due_in}
use Rattle.txs_explore.specs.Found.{Adds, AreWays, Covers, EndsAt, HasEnding, HasBranched, HasSearched, HasTurned, HasSearchedFew, HasAfforded, HasTurnedFew, IsSearched, Keeps, MayGoTo, go_on, go_few, switched_in}
use Rattle.txs_explore.proofs.Covering as covering
use Rattle.txs_explore.proofs.Covering.{Covered}
use Rattle.txs_explore.proofs.Nodes.{due_are, ending_is}
use Rattle.txs_explore.proofs.Stages.{state_more}

-- ---- lists

in_left : {A : Type 0} (x : A) (xs ys : List A) → IsIn x xs → IsIn x (xs ++ ys)
in_left x [] ys i = absurd i
in_left x (z ∷ xs) ys (inl e) = inl e
in_left x (z ∷ xs) ys (inr i) = inr (in_left x xs ys i)

in_last : {A : Type 0} (x : A) (xs : List A) → IsIn x (xs ++ x ∷ [])
in_last x [] = inl refl
in_last x (z ∷ xs) = inr (in_last x xs)

pub in_at : {A : Type 0} (xs ys : List A) (x : A) → IsIn x (xs ++ x ∷ ys)
in_at [] ys x = inl refl
in_at (z ∷ xs) ys x = inr (in_at xs ys x)

-- ---- one more

pub adds_kept : (e : Ending) (ks : List ℕ) (old new : List Way) → Adds e ks old new → Keeps old new
adds_kept e ks old new (inl h) = λ o m. subst (HasEnding o) (sym h.1) m
adds_kept e ks old new (inr (w, a, b, c)) = λ o m. subst (HasEnding o) (sym c) (m.0, in_left m.0 old (w ∷ []) m.1, m.2)

adds_has : (e : Ending) (ks : List ℕ) (old new : List Way) → Adds e ks old new → HasEnding (as_ending e) new
adds_has e ks old new (inl h) = subst (HasEnding (as_ending e)) (sym h.1) h.0
adds_has e ks old new (inr (w, a, b, c)) = subst (HasEnding (as_ending e)) (sym c) (w, in_last w old, ap as_ending (sym a))

pub kept_same : (old new : List Way) → new ≡ old → Keeps old new
kept_same old new e = λ o m. subst (HasEnding o) (sym e) m

pub kept_on : (old mid new : List Way) → Keeps old mid → Keeps mid new → Keeps old new
kept_on old mid new a b = λ o m. b o (a o m)

module _ (code : PlainCode) (limit : ℕ) where
  abbrev way_here : runs.Ending → List ℕ → searched.Way (asking (explored code limit))
  way_here o ks = record { outcome = o; turns = ks }

  adds_ways : (e : Ending) (ks : List ℕ) (old new : List Way) → Adds e ks old new → IsWay (asking (explored code limit)) (seen (explored code limit) (begins code)) (way_here (as_ending e) ks) → AreWays code limit old → AreWays code limit new
  adds_ways e ks old new (inl h) is each = subst (AreWays code limit) (sym h.1) each
  adds_ways e ks old new (inr (w, a, b, c)) is each = subst (AreWays code limit) (sym c) (λ v i. by v (in_cases v old (w ∷ []) i))
    where
      this : IsWay (asking (explored code limit)) (seen (explored code limit) (begins code)) (as_way code limit w)
      this =
          subst (λ (z : Ending). IsWay (asking (explored code limit)) (seen (explored code limit) (begins code)) (way_here (as_ending z) w.asks.items)) (sym a)
          (subst (λ l. IsWay (asking (explored code limit)) (seen (explored code limit) (begins code)) (way_here (as_ending e) l)) (sym b) is)

      by : (v : Way) → IsIn v old ⊎ IsIn v (w ∷ []) → IsWay (asking (explored code limit)) (seen (explored code limit) (begins code)) (as_way code limit v)
      by v (inl i) = each v i
      by v (inr (inl q)) = subst (λ (z : Way). IsWay (asking (explored code limit)) (seen (explored code limit) (begins code)) (as_way code limit z)) (sym q) this
      by v (inr (inr i)) = absurd i

  pub covers : (f : Found (asking (explored code limit))) (ws : List Way) → Covered (asking (explored code limit)) (λ o. HasEnding o ws) f → Covers code limit f ws
  covers f ws c = record { whole = c.whole; told = c.told }

  pub covered : (f : Found (asking (explored code limit))) (ws : List Way) → Covers code limit f ws → Covered (asking (explored code limit)) (λ o. HasEnding o ws) f
  covered f ws c = record { whole = c.whole; told = c.told }

  -- ---- at an end

  module _ (ks : List ℕ) (v : Node) (node : IsNode code limit ks v) (may : MayGoTo code limit ks) (due : List ℕ) (is : due ≡ due_in v) where
    enabled_is : due ≡ (asking (explored code limit)).enabled (state_at code limit ks)
    enabled_is = is ∙ due_are code limit ks v node

    module _ (none : due ≡ []) (old mid new : List Way) (same : mid ≡ old) (ends : EndsAt v ks mid new) where
      ended : (asking (explored code limit)).enabled (state_at code limit ks) ≡ []
      ended = sym enabled_is ∙ none

      told : as_ending ends.0 ≡ (asking (explored code limit)).outcome (state_at code limit ks)
      told = ending_is code limit ks v ends.0 node ends.1

      adds : Adds ends.0 ks old new
      adds = subst (λ l. Adds ends.0 ks l new) same ends.2

      listed : (vs : List Way) → Keeps new vs → HasEnding ((asking (explored code limit)).outcome (state_at code limit ks)) vs
      listed vs k = k ((asking (explored code limit)).outcome (state_at code limit ks)) (subst (λ o. HasEnding o new) told (adds_has ends.0 ks old new adds))

      way : IsWay (asking (explored code limit)) (seen (explored code limit) (begins code)) (way_here (as_ending ends.0) ks)
      way = record { may = may; ends = ended; outcome = told }

      pub ended_all : (n : ℕ) (asleep : List ℕ) (whole : Bool) → IsSearched code limit (HasSearched code limit n asleep ks) old new whole
      ended_all n asleep whole = record {
        kept = adds_kept ends.0 ks old new adds;
        ways = adds_ways ends.0 ks old new adds way;
        all = λ w vs k. covers (search (asking (explored code limit)) n asleep (state_at code limit ks)) vs
            (covering.search_ended (asking (explored code limit)) (λ o. HasEnding o vs) n asleep (state_at code limit ks) ended (listed vs k));
      }

      pub ended_few : (n left : ℕ) (last : Option ℕ) (whole : Bool) → IsSearched code limit (HasSearchedFew code limit n left last ks) old new whole
      ended_few n left last whole = record {
        kept = adds_kept ends.0 ks old new adds;
        ways = adds_ways ends.0 ks old new adds way;
        all = λ w vs k. covers (search_few (asking (explored code limit)) n left last (state_at code limit ks)) vs
            (covering.few_ended (asking (explored code limit)) (λ o. HasEnding o vs) n left last (state_at code limit ks) ended (listed vs k));
      }

  -- nothing was found, and it is said that the search didn't go everywhere
  pub not_searched : (All : List Way → Type 0) (old new : List Way) → new ≡ old → IsSearched code limit All old new false
  not_searched All old new e = record { kept = kept_same old new e; ways = subst (AreWays code limit) (sym e); all = λ w vs k. absurd (false≢true w) }

  -- the same of what holds as well
  pub searched_as : (P Q : List Way → Type 0) (old mid new : List Way) (whole : Bool) → mid ≡ old → ((vs : List Way) → P vs → Q vs) → IsSearched code limit P mid new whole → IsSearched code limit Q old new whole
  searched_as P Q old mid new whole e f h = subst (λ l. IsSearched code limit Q l new whole) e (record { kept = h.kept; ways = h.ways; all = λ w vs k. f vs (h.all w vs k) })

  -- ---- through all schedules

  -- where some may go on
  pub all_branched : (ks asleep due : List ℕ) (n m : ℕ) → due ≡ (asking (explored code limit)).enabled (state_at code limit ks) → (due ≡ [] → ⊥) → m ≡ suc n → (vs : List Way) → HasBranched code limit n asleep ks due vs → HasSearched code limit m asleep ks vs
  all_branched ks asleep [] n m e some q vs h = absurd (some refl)
  all_branched ks asleep (k ∷ due) n m e some q vs h =
      subst (λ d. HasSearched code limit d asleep ks vs) (sym q)
      (covers (search (asking (explored code limit)) (suc n) asleep (state_at code limit ks)) vs
      (covering.search_branched (asking (explored code limit)) (λ o. HasEnding o vs) n asleep (state_at code limit ks) k due (sym e)
      (covered (branches (asking (explored code limit)) (go_on code limit n ks) (state_at code limit ks) asleep (k ∷ due)) vs h)))

  -- one that sleeps
  pub turned_asleep : (n : ℕ) (ks sleepers later : List ℕ) (k : ℕ) (old new : List Way) (whole : Bool) → has k sleepers ≡ true → later ≡ sleepers → new ≡ old → IsSearched code limit (HasTurned code limit n ks k sleepers later) old new whole
  turned_asleep n ks sleepers later k old new whole e l same = record {
    kept = kept_same old new same;
    ways = subst (AreWays code limit) (sym same);
    all = λ w vs kept es h. covers (branches (asking (explored code limit)) (go_on code limit n ks) (state_at code limit ks) sleepers (k ∷ es)) vs
        (covering.branch_asleep (asking (explored code limit)) (λ o. HasEnding o vs) (go_on code limit n ks) (state_at code limit ks) sleepers k es e
        (covered (branches (asking (explored code limit)) (go_on code limit n ks) (state_at code limit ks) sleepers es) vs (subst (λ z. HasBranched code limit n z ks es vs) l h)));
  }

  -- one that doesn't
  pub turned_awake : (n : ℕ) (ks more sleepers later apart : List ℕ) (k : ℕ) (old new : List Way) (whole : Bool) → has k sleepers ≡ false → later ≡ k ∷ sleepers → more ≡ ks ++ k ∷ []
      → apart ≡ apart_from (asking (explored code limit)) (state_at code limit ks) k sleepers → IsSearched code limit (HasSearched code limit n apart more) old new whole → IsSearched code limit (HasTurned code limit n ks k sleepers later) old new whole
  turned_awake n ks more sleepers later apart k old new whole e l m a h = record {
    kept = h.kept;
    ways = h.ways;
    all = λ w vs kept es g. covers (branches (asking (explored code limit)) (go_on code limit n ks) (state_at code limit ks) sleepers (k ∷ es)) vs
        (covering.branch_awake (asking (explored code limit)) (λ o. HasEnding o vs) (go_on code limit n ks) (state_at code limit ks) sleepers k es e
        (covered (go_on code limit n ks k (apart_from (asking (explored code limit)) (state_at code limit ks) k sleepers)) vs
        (subst (λ s. Covers code limit (search (asking (explored code limit)) n (apart_from (asking (explored code limit)) (state_at code limit ks) k sleepers) s) vs) (state_more code limit ks k)
        (subst (λ z. HasSearched code limit n z (ks ++ k ∷ []) vs) a (subst (λ z. HasSearched code limit n apart z vs) m (h.all w vs kept)))))
        (covered (branches (asking (explored code limit)) (go_on code limit n ks) (state_at code limit ks) (k ∷ sleepers) es) vs (subst (λ z. HasBranched code limit n z ks es vs) l g)));
  }

  -- ---- with few switches

  pub few_branched : (ks due : List ℕ) (n m left : ℕ) (last : Option ℕ) → due ≡ (asking (explored code limit)).enabled (state_at code limit ks) → (due ≡ [] → ⊥) → m ≡ suc n → (vs : List Way) → HasAfforded code limit n left last ks due vs
      → HasSearchedFew code limit m left last ks vs
  few_branched ks [] n m left last e some q vs h = absurd (some refl)
  few_branched ks (k ∷ due) n m left last e some q vs h =
      subst (λ d. HasSearchedFew code limit d left last ks vs) (sym q)
      (covers (search_few (asking (explored code limit)) (suc n) left last (state_at code limit ks)) vs
      (covering.few_branched (asking (explored code limit)) (λ o. HasEnding o vs) n left last (state_at code limit ks) k due (sym e)
      (covered _ vs h)))

  -- how many switches an ask is
  switched_is : (ks due : List ℕ) (last : Option ℕ) (k : ℕ) → due ≡ (asking (explored code limit)).enabled (state_at code limit ks) → switched_in due last k ≡ switched (asking (explored code limit)) (state_at code limit ks) last k
  switched_is ks due None k e = refl
  switched_is ks due (Some j) k e = ap (λ es. switched_in es (Some j) k) e

  pub few_refused : (n left : ℕ) (ks due : List ℕ) (last : Option ℕ) (k : ℕ) (old new : List Way) (whole : Bool) → due ≡ (asking (explored code limit)).enabled (state_at code limit ks) → nat_le (switched_in due last k) left ≡ false → new ≡ old
      → IsSearched code limit (HasTurnedFew code limit n left last ks k) old new whole
  few_refused n left ks due last k old new whole e c same = record {
    kept = kept_same old new same;
    ways = subst (AreWays code limit) (sym same);
    all = λ w vs kept es h. covers _ vs
        (covering.few_refused (asking (explored code limit)) (λ o. HasEnding o vs) (go_few code limit n ks) (state_at code limit ks) left last k es (ap (λ d. nat_le d left) (sym (switched_is ks due last k e)) ∙ c)
        (covered _ vs h));
  }

  pub few_turned : (n left less : ℕ) (ks more due : List ℕ) (last : Option ℕ) (k : ℕ) (old new : List Way) (whole : Bool) → due ≡ (asking (explored code limit)).enabled (state_at code limit ks) → nat_le (switched_in due last k) left ≡ true
      → less ≡ left - switched_in due last k → more ≡ ks ++ k ∷ [] → IsSearched code limit (HasSearchedFew code limit n less (Some k) more) old new whole → IsSearched code limit (HasTurnedFew code limit n left last ks k) old new whole
  few_turned n left less ks more due last k old new whole e c l m h = record {
    kept = h.kept;
    ways = h.ways;
    all = λ w vs kept es g. covers _ vs
        (covering.few_turned (asking (explored code limit)) (λ o. HasEnding o vs) (go_few code limit n ks) (state_at code limit ks) left last k es (ap (λ d. nat_le d left) (sym (switched_is ks due last k e)) ∙ c)
        (covered (go_few code limit n ks k (left - switched (asking (explored code limit)) (state_at code limit ks) last k)) vs
        (subst (λ s. Covers code limit (search_few (asking (explored code limit)) n (left - switched (asking (explored code limit)) (state_at code limit ks) last k) (Some k) s) vs) (state_more code limit ks k)
        (subst (λ d. HasSearchedFew code limit n d (Some k) (ks ++ k ∷ []) vs) (l ∙ ap (λ d. left - d) (switched_is ks due last k e)) (subst (λ z. HasSearchedFew code limit n less (Some k) z vs) m (h.all w vs kept)))))
        (covered _ vs g));
  }
