-- What functions weigh, so that each calls such alone that weigh less: pure ones are counted first, and then the others. So a form
-- outside pure functions stands where calls go deeper than there are pure functions, which validators are.
use Rattle.std.proofs.Common.{◌≡◌, ℕ, zero, suc, ◌+◌, ◌<◌, ◌≤◌, Bool, true, false, List, [], ◌∷◌, length, take, Option, Some, None, refl, sym, ap, ◌∙◌, arith}
use Rattle.std.proofs.lemmas.Bool.{false≢true}
use Rattle.txs_value_data.specs.Places.{nth}
use Rattle.txs_value_data.specs.declared.op.Callee.{Callee}
use Rattle.txs_value_data.specs.declared.op.Callee.TheVariants.{Core as CoreOp, Function}
use Rattle.txs_value_cell.specs.Cells.{validators_of}
use Rattle.txs_value_cell.specs.declared.cell.CellDefinition.{CellDefinition}
use Rattle.txs_tree_meaning.proofs.Callable.{function_at, nth-length, length-known}
use Rattle.txs_tree_meaning.specs.Known.{Known, is_pure, pure_in, known}
use Rattle.txs_tree_meaning.specs.Sound.{in_thread, SoundTree, SoundFunctions, SoundValidator, SoundCells}
use Rattle.txs_tree_meaning.specs.Tree.{Tree, PlainFunction}
use Rattle.txs_theorem_threads.proofs.Depth.{pures, others, both_kinds, pure_before, other_before, known_there}
use Rattle.txs_opt.proofs.Below.{Below, Lower, Defined, Pure, wider_below, pure_below}
use Rattle.txs_opt.proofs.InlinedFunctions.{Under, under_there, under_from}
use Rattle.txs_opt.proofs.OneWorld.{ValidFine, AllValid}
use Rattle.txs_opt.proofs.ScopedOf.{number, sound_under, sound_defined}

nth_there : (ks : List Known) (f : ℕ) → f < length ks → (k : Known) × (nth ks f ≡ Some k)
nth_there [] f lt = absurd (omega (arith, lt))
nth_there (k ∷ ks) zero lt = (k, refl)
nth_there (k ∷ ks) (suc f) lt = nth_there ks f (omega (arith, lt))

-- what is pure among the first ones comes before the rest, and is pure among all
among_first : (b : ℕ) (ks : List Known) (f : ℕ) → is_pure (nth (take b ks) f) ≡ true → (f < b) × (is_pure (nth ks f) ≡ true)
among_first zero [] f h = absurd (false≢true h)
among_first zero (k ∷ ks) f h = absurd (false≢true h)
among_first (suc b) [] f h = absurd (false≢true h)
among_first (suc b) (k ∷ ks) zero h = (omega arith, h)
among_first (suc b) (k ∷ ks) (suc f) h = let r = among_first b ks f h in (omega (arith, r.0), r.1)

-- how many functions are pure
abbrev pub pure_ones : List PlainFunction → ℕ
pure_ones fs = pures (known fs) (length fs)

abbrev weighed : List PlainFunction → Bool → ℕ → ℕ
weighed fs true f = pures (known fs) f
weighed fs false f = pure_ones fs + others (known fs) f

-- a pure function weighs as many as there are pure ones before it; another one all of those, and the others before it
abbrev pub weight : List PlainFunction → ℕ → ℕ
weight fs f = weighed fs (is_pure (nth (known fs) f)) f

module _ (fs : List PlainFunction) where
  pure_weighs : (f : ℕ) → is_pure (nth (known fs) f) ≡ true → weight fs f ≡ pures (known fs) f
  pure_weighs f e = ap (λ b. weighed fs b f) e

  other_weighs : (f : ℕ) → is_pure (nth (known fs) f) ≡ false → weight fs f ≡ pure_ones fs + others (known fs) f
  other_weighs f e = ap (λ b. weighed fs b f) e

  -- one that isn't pure counts among the others before a later one
  counts : (g f : ℕ) → g < f → g < length fs → is_pure (nth (known fs) g) ≡ false → others (known fs) g < others (known fs) f
  counts g f lt le e =
      let t = nth_there (known fs) g (omega (arith, le, length-known fs)) in
      other_before (known fs) g f lt (known_there (known fs) g t.0 t.1) e

  -- a pure function weighs less than all pure ones
  pure_light : (f : ℕ) → f < length fs → is_pure (nth (known fs) f) ≡ true → weight fs f < pure_ones fs
  pure_light f lt e = let before = pure_before (known fs) f (length fs) lt e in omega (arith, before, pure_weighs f e)

  -- each weighs less than there are functions
  pub light : (f : ℕ) → f < length fs → weight fs f < length fs
  light f lt = go (is_pure (nth (known fs) f)) refl
    where
      go : (b : Bool) → is_pure (nth (known fs) f) ≡ b → weight fs f < length fs
      go true e = omega (arith, pure_light f lt e, both_kinds (known fs) (length fs))
      go false e = omega (arith, other_weighs f e, counts f (length fs) lt lt e, both_kinds (known fs) (length fs))

  -- there are no more pure ones than functions
  pub few_pure : pure_ones fs ≤ length fs
  few_pure = omega (arith, both_kinds (known fs) (length fs))

  -- one that isn't pure weighs more than those before it
  lighter : (g f : ℕ) → g < f → f < length fs → is_pure (nth (known fs) f) ≡ false → weight fs g < weight fs f
  lighter g f lt le e = go (is_pure (nth (known fs) g)) refl
    where
      here : g < length fs
      here = omega (arith, lt, le)

      go : (b : Bool) → is_pure (nth (known fs) g) ≡ b → weight fs g < weight fs f
      go true q = omega (arith, pure_light g here q, other_weighs f e)
      go false q = omega (arith, other_weighs g q, other_weighs f e, counts g f lt here q)

  module _ (sound : SoundFunctions [] fs) where
    body_below : (f : ℕ) (fun : PlainFunction) → nth fs f ≡ Some fun → Below (Lower (weight fs) (pure_ones fs) (weight fs f)) fun.body
    body_below f fun found = go (is_pure (nth (known fs) f)) refl
      where
        place : f < length fs
        place = nth-length fs f fun found

        go : (b : Bool) → is_pure (nth (known fs) f) ≡ b → Below (Lower (weight fs) (pure_ones fs) (weight fs f)) fun.body
        go true e =
            let at = function_at fs f fun sound found in
            let body : pure_in (take f (known fs)) fun.body ≡ true = sym (ap is_pure at.0) ∙ e in
            wider_below (Pure (take f (known fs))) (Lower (weight fs) (pure_ones fs) (weight fs f))
            (λ g is. let a = among_first f (known fs) g is in omega (arith, pure_weighs g a.1, pure_weighs f e, pure_before (known fs) g f a.0 a.1))
            (λ h. absurd h) fun.body (pure_below (take f (known fs)) fun.body body)
        go false e =
            wider_below (Lower number 0 f) (Lower (weight fs) (pure_ones fs) (weight fs f)) (λ g lt. lighter g f lt place e) (λ h. omega (arith, other_weighs f e)) fun.body
            (under_there number 0 fs f fun (sound_under fs sound) found)

    pub weighs_under : Under (weight fs) (pure_ones fs) 0 fs
    weighs_under = under_from (weight fs) (pure_ones fs) fs body_below

    -- a thread calls functions that are there
    pub main_below : (e : Tree) → SoundTree (known fs) in_thread 0 None e → Below (Lower (weight fs) (pure_ones fs) (length fs)) e
    main_below e h =
        wider_below (Defined (known fs)) (Lower (weight fs) (pure_ones fs) (length fs)) (λ f lt. light f (omega (arith, lt, length-known fs))) (λ u. few_pure) e (sound_defined fs e sound h)

  -- the validators of sound cells weigh less than all pure functions
  pub validators_light : (ds : List CellDefinition) → SoundCells (known fs) ds → (d : ℕ) → pure_ones fs ≤ d → AllValid (Lower (weight fs) (pure_ones fs) d) (validators_of ds)
  validators_light [] h d le = tt
  validators_light (c ∷ ds) h d le = (one c.validator h.0, validators_light ds h.1 d le)
    where
      one : (o : Option Callee) → SoundValidator (known fs) o → ValidFine (Lower (weight fs) (pure_ones fs) d) o
      one None g = tt
      one (Some (CoreOp op)) g = tt
      one (Some (Function f)) g =
          let lt = nth-length (known fs) f g.function g.found in
          omega (arith, pure_light f (omega (arith, lt, length-known fs)) (ap is_pure g.found ∙ g.pure), le)
