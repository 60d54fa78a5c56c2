-- The searches behind an ask of each of several actors, one after the other.
use Rattle.std.proofs.Common.{◌≡◌, ◌<◌, ◌≤◌, ◌+◌, ℕ, Bool, true, false, ◌&&◌, List, [], ◌∷◌, length, drop, get_or, Option, None, Some, refl, sym, ap, subst, ◌∙◌}
use Rattle.std.proofs.lemmas.Bool.{false≢true}
use Rattle.std.proofs.lemmas.List.{drop_more, drop_all}
use Rattle.txs_value_data.proofs.SameLemmas.{and_both}
use Rattle.txs_code_meaning.specs.PlainCode.{PlainCode}
use Rattle.txs_explore.specs.Search.{branches}
use Rattle.txs_explore.specs.Switches.{affordable}
use Rattle.txs_explore.specs.Runners.{asking}
use Rattle.txs_explore.specs.declared.ways.Way.{Way}
use Rattle.txs_explore.specs.Told.{explored}
use Rattle.txs_explore.specs.Looked.{state_at}
use Rattle.txs_explore.specs.Found.{AreSearchedFew, AreWays, HasEnding, HasAfforded, HasBranched, HasSearchedFew, HasTurned, HasTurnedFew, IsSearched, Keeps, go_few, go_on}
use Rattle.txs_explore.proofs.Adding.{covers, kept_on, kept_same}
use Rattle.txs_explore.proofs.Covering.{covered_none}

abbrev is_some : {A : Type 0} → Option A → Type 0
is_some None = ⊥
is_some (Some x) = Unit {0}

abbrev or_else : {A : Type 0} → A → Option A → A
or_else d None = d
or_else d (Some x) = x

module _ (code : PlainCode) (limit n : ℕ) (ks due : List ℕ) (old : List Way) where
  -- ---- through all schedules

  -- so far, with these asleep: where all of those before were gone through, all is where that of the others is
  pub record BranchAt (asleep : List ℕ) (i : ℕ) (sleepers : List ℕ) (now : List Way) (whole : Bool) : Type 0 where
    pub kept : Keeps old now
    pub ways : AreWays code limit old → AreWays code limit now
    pub all : whole ≡ true → (vs : List Way) → Keeps now vs → HasBranched code limit n sleepers ks (drop i due) vs → HasBranched code limit n asleep ks due vs

  pub branch_begun : (asleep sleepers : List ℕ) (now : List Way) → sleepers ≡ asleep → now ≡ old → BranchAt asleep 0 sleepers now true
  branch_begun asleep sleepers now e same = record {
    kept = kept_same old now same;
    ways = subst (AreWays code limit) (sym same);
    all = λ w vs k h. subst (λ s. HasBranched code limit n s ks due vs) e h;
  }

  pub branch_next : (asleep : List ℕ) (i : ℕ) (sleepers later : List ℕ) (mid new : List Way) (whole there : Bool) → i < length due → BranchAt asleep i sleepers mid whole
      → IsSearched code limit (HasTurned code limit n ks (get_or due i 0) sleepers later) mid new there → BranchAt asleep (i + 1) later new (whole && there)
  branch_next asleep i sleepers later mid new whole there less at h = record {
    kept = kept_on old mid new at.kept h.kept;
    ways = λ w. h.ways (at.ways w);
    all = λ w vs k g.
        (let b = and_both whole there w in
        at.all b.0 vs (kept_on mid new vs h.kept k) (subst (λ es. HasBranched code limit n sleepers ks es vs) (sym (drop_more due i 0 less)) (h.all b.1 vs k (drop (i + 1) due) g)));
  }

  pub branch_done : (asleep : List ℕ) (i : ℕ) (sleepers : List ℕ) (now : List Way) (whole : Bool) → length due ≤ i → BranchAt asleep i sleepers now whole → IsSearched code limit (HasBranched code limit n asleep ks due) old now whole
  branch_done asleep i sleepers now whole past at = record {
    kept = at.kept;
    ways = at.ways;
    all = λ w vs k. at.all w vs k (subst (λ es. HasBranched code limit n sleepers ks es vs) (sym (drop_all i due past)) (none vs));
  }
    where
      none : (vs : List Way) → HasBranched code limit n sleepers ks [] vs
      none vs = covers code limit (branches (asking (explored code limit)) (go_on code limit n ks) (state_at code limit ks) sleepers []) vs (covered_none (asking (explored code limit)) (λ o. HasEnding o vs))

  -- ---- with few switches

  pub record AffordAt (left : ℕ) (last : Option ℕ) (i : ℕ) (now : List Way) (whole : Bool) : Type 0 where
    pub kept : Keeps old now
    pub ways : AreWays code limit old → AreWays code limit now
    pub all : whole ≡ true → (vs : List Way) → Keeps now vs → HasAfforded code limit n left last ks (drop i due) vs → HasAfforded code limit n left last ks due vs

  pub afford_begun : (left : ℕ) (last : Option ℕ) (now : List Way) → now ≡ old → AffordAt left last 0 now true
  afford_begun left last now same = record { kept = kept_same old now same; ways = subst (AreWays code limit) (sym same); all = λ w vs k h. h }

  pub afford_next : (left : ℕ) (last : Option ℕ) (i : ℕ) (mid new : List Way) (whole there : Bool) → i < length due → AffordAt left last i mid whole
      → IsSearched code limit (HasTurnedFew code limit n left last ks (get_or due i 0)) mid new there → AffordAt left last (i + 1) new (whole && there)
  afford_next left last i mid new whole there less at h = record {
    kept = kept_on old mid new at.kept h.kept;
    ways = λ w. h.ways (at.ways w);
    all = λ w vs k g.
        (let b = and_both whole there w in
        at.all b.0 vs (kept_on mid new vs h.kept k) (subst (λ es. HasAfforded code limit n left last ks es vs) (sym (drop_more due i 0 less)) (h.all b.1 vs k (drop (i + 1) due) g)));
  }

  pub afford_done : (left : ℕ) (last : Option ℕ) (i : ℕ) (now : List Way) (whole : Bool) → length due ≤ i → AffordAt left last i now whole → IsSearched code limit (HasAfforded code limit n left last ks due) old now whole
  afford_done left last i now whole past at = record {
    kept = at.kept;
    ways = at.ways;
    all = λ w vs k. at.all w vs k (subst (λ es. HasAfforded code limit n left last ks es vs) (sym (drop_all i due past)) (none vs));
  }
    where
      none : (vs : List Way) → HasAfforded code limit n left last ks [] vs
      none vs = covers code limit (affordable (asking (explored code limit)) (go_few code limit n ks) (state_at code limit ks) left last []) vs (covered_none (asking (explored code limit)) (λ o. HasEnding o vs))

-- ---- one search after another

pub few_begun : (code : PlainCode) (limit n : ℕ) (old now : List Way) → now ≡ old → AreSearchedFew code limit n old now None
few_begun code limit n old now same = record { kept = kept_same old now same; ways = subst (AreWays code limit) (sym same); all = λ most e. absurd (subst is_some (sym e) tt) }

-- one that didn't go everywhere
pub few_stopped : (code : PlainCode) (limit n most : ℕ) (old mid new : List Way) (within : Option ℕ) (whole : Bool) → AreSearchedFew code limit n old mid within → IsSearched code limit (HasSearchedFew code limit n most None []) mid new whole
    → AreSearchedFew code limit n old new within
few_stopped code limit n most old mid new within whole h g = record {
  kept = kept_on old mid new h.kept g.kept;
  ways = λ w. g.ways (h.ways w);
  all = λ m e vs k. h.all m e vs (kept_on mid new vs g.kept k);
}

-- one that did
pub few_next : (code : PlainCode) (limit n most : ℕ) (old mid new : List Way) (within : Option ℕ) (whole : Bool) → whole ≡ true → AreSearchedFew code limit n old mid within → IsSearched code limit (HasSearchedFew code limit n most None []) mid new whole
    → AreSearchedFew code limit n old new (Some most)
few_next code limit n most old mid new within whole w h g = record {
  kept = kept_on old mid new h.kept g.kept;
  ways = λ v. g.ways (h.ways v);
  all = λ m e vs k. subst (λ d. HasSearchedFew code limit n d None [] vs) (ap (or_else most) e) (g.all w vs k);
}
