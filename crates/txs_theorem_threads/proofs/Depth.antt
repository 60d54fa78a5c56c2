-- How deep calls of pure functions go: no deeper than there are pure functions, whichever others are defined between them.
use Rattle.std.proofs.Common.{◌≡◌, ◌<◌, ◌≤◌, ◌+◌, ◌∙◌, ℕ, zero, suc, Bool, true, false, not, List, [], ◌∷◌, Option, Some, None, refl, sym, ap, subst, take, arith}
use Rattle.std.proofs.lemmas.Bool.{false≢true}
use Rattle.txs_value_data.specs.Places.{nth}
use Rattle.txs_value_data.specs.declared.value.Value.{Value}
use Rattle.txs_tree_meaning.specs.Known.{Known, is_pure, pure_in, known}
use Rattle.txs_tree_meaning.specs.Meaning.{Completion, Completes, Recurs, Faults, Retries, Waits, OutOfTurns, Invalid, bind, give, turns, eval, call_at}
use Rattle.txs_tree_meaning.specs.Pure.{no_effects}
use Rattle.txs_tree_meaning.specs.Sound.{SoundFunctions}
use Rattle.txs_tree_meaning.specs.Tree.{PlainFunction}
use Rattle.txs_tree_meaning.proofs.Callable.{function_at}
use Rattle.txs_tree_meaning.proofs.PureLaw.{Agrees, turns_agrees, tree_agrees}
use Rattle.txs_theorem_threads.specs.Behaves.{IsProper}

-- ---- pure functions and others, counted

-- one more, where this holds
abbrev pub counted : Bool → ℕ → ℕ
counted true n = suc n
counted false n = n

-- how many of the functions before this one are pure
abbrev pub pures : List Known → ℕ → ℕ
pures [] f = 0
pures (k ∷ ks) zero = 0
pures (k ∷ ks) (suc f) = counted k.pure (pures ks f)

-- and how many are not
abbrev pub others : List Known → ℕ → ℕ
others [] f = 0
others (k ∷ ks) zero = 0
others (k ∷ ks) (suc f) = counted (not k.pure) (others ks f)

-- together they are no more than come before it
pub both_kinds : (ks : List Known) (f : ℕ) → pures ks f + others ks f ≤ f
both_kinds [] f = omega arith
both_kinds (k ∷ ks) zero = omega arith
both_kinds (k ∷ ks) (suc f) = go k.pure (both_kinds ks f)
  where
    go : (b : Bool) → pures ks f + others ks f ≤ f → counted b (pures ks f) + counted (not b) (others ks f) ≤ suc f
    go true h = omega (arith, h)
    go false h = omega (arith, h)

counted_less : (b : Bool) (m n : ℕ) → m < n → counted b m < counted b n
counted_less true m n l = omega (arith, l)
counted_less false m n l = l

some_more : (b : Bool) (n : ℕ) → b ≡ true → 0 < counted b n
some_more true n e = omega arith
some_more false n e = absurd (false≢true e)

-- a pure function before another counts there
pub pure_before : (ks : List Known) (g f : ℕ) → g < f → is_pure (nth ks g) ≡ true → pures ks g < pures ks f
pure_before [] g f l h = absurd (false≢true h)
pure_before (k ∷ ks) g zero l h = absurd (omega (arith, l))
pure_before (k ∷ ks) zero (suc f) l h = some_more k.pure (pures ks f) h
pure_before (k ∷ ks) (suc g) (suc f) l h = counted_less k.pure (pures ks g) (pures ks f) (pure_before ks g f (omega (arith, l)) h)

abbrev IsThere : Option Known → Type 0
IsThere None = ⊥
IsThere (Some k) = Unit {0}

turned : (b : Bool) → b ≡ false → not b ≡ true
turned true e = absurd (false≢true (sym e))
turned false e = refl

-- so does another one that is there
pub other_before : (ks : List Known) (g f : ℕ) → g < f → IsThere (nth ks g) → is_pure (nth ks g) ≡ false → others ks g < others ks f
other_before [] g f l t h = absurd t
other_before (k ∷ ks) g zero l t h = absurd (omega (arith, l))
other_before (k ∷ ks) zero (suc f) l t h = some_more (not k.pure) (others ks f) (turned k.pure h)
other_before (k ∷ ks) (suc g) (suc f) l t h = counted_less (not k.pure) (others ks g) (others ks f) (other_before ks g f (omega (arith, l)) t h)

pub known_there : (ks : List Known) (f : ℕ) (k : Known) → nth ks f ≡ Some k → IsThere (nth ks f)
known_there ks f k e = subst IsThere (sym e) tt

-- a pure one among the first functions comes before the rest, and is pure among all
pure_among : (b : ℕ) (ks : List Known) (f : ℕ) → is_pure (nth (take b ks) f) ≡ true → (f < b) × (is_pure (nth ks f) ≡ true)
pure_among zero [] f h = absurd (false≢true h)
pure_among zero (k ∷ ks) f h = absurd (false≢true h)
pure_among (suc b) [] f h = absurd (false≢true h)
pure_among (suc b) (k ∷ ks) zero h = (omega arith, h)
pure_among (suc b) (k ∷ ks) (suc f) h = let r = pure_among b ks f h in (omega (arith, r.0), r.1)

-- ---- pure calls at two depths

module _ (n : ℕ) (functions : List PlainFunction) (sound : SoundFunctions [] functions) where
  abbrev ks : List Known
  ks = known functions

  abbrev calls : ℕ → Bool → ℕ → List Value → Unit {0} → Completion (Unit {0}) Value
  calls = call_at (λ d. no_effects) n functions

  -- a pure call means the same at any depth that is more than the pure functions before it
  pub shallow : (b c f : ℕ) (vs : List Value) → pures ks f < b → b ≤ c → is_pure (nth ks f) ≡ true → Agrees tt (calls b false f vs tt) (calls c false f vs tt)
  shallow zero c f vs l le pure = absurd (omega (arith, l))
  shallow (suc b) zero f vs l le pure = absurd (omega (arith, le))
  shallow (suc b) (suc c) f vs l le pure = go (nth functions f) refl (λ g us lt is. shallow b c g us lt (omega (arith, le)) is)
    where
      go : (o : Option PlainFunction) → nth functions f ≡ o → ((g : ℕ) (us : List Value) → pures ks g < b → is_pure (nth ks g) ≡ true → Agrees tt (calls b false g us tt) (calls c false g us tt))
          → Agrees tt (bind (give o tt) (λ fun t. turns (suc n) fun.parameters (λ ws t1. eval no_effects (calls b) n false fun.body ws t1) vs t))
          (bind (give o tt) (λ fun t. turns (suc n) fun.parameters (λ ws t1. eval no_effects (calls c) n false fun.body ws t1) vs t))
      go None found below = refl
      go (Some fun) found below =
          let at_place = function_at functions f fun sound found in
          let body : pure_in (take f ks) fun.body ≡ true = sym (ap is_pure at_place.0) ∙ pure in
          turns_agrees tt (suc n) fun.parameters (λ ws t1. eval no_effects (calls b) n false fun.body ws t1) (λ ws t1. eval no_effects (calls c) n false fun.body ws t1)
          (λ ws. tree_agrees tt no_effects n false (take f ks) (calls b) (calls c)
          (λ g us is. let a = pure_among f ks g is in let before = pure_before ks g f a.0 a.1 in below g us (omega (arith, before, l)) a.1) fun.body ws body)
          vs

-- what agrees with a proper answer is proper
pub agrees_proper : (p c : Completion (Unit {0}) Value) → Agrees tt p c → IsProper c → IsProper p
agrees_proper (Completes v u) c h z = tt
agrees_proper (Recurs vs u) c h z = subst IsProper h z
agrees_proper (Faults f u) c h z = tt
agrees_proper (Retries u) c h z = absurd h
agrees_proper (Waits u) c h z = absurd h
agrees_proper (OutOfTurns u) c h z = tt
agrees_proper Invalid c h z = subst IsProper h z
