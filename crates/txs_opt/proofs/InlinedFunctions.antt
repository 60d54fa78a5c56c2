-- Where a function with its calls inlined stands.
use Rattle.std.proofs.Common.{◌≡◌, ℕ, zero, suc, ◌+◌, ◌<◌, ◌≤◌, List, [], ◌∷◌, ◌++◌, length, Some, None, refl, sym, ap, ◌∙◌, subst, length-append, arith}
use Rattle.txs_value_data.specs.Places.{nth}
use Rattle.txs_tree_meaning.proofs.Callable.{missing, same_some}
use Rattle.txs_tree_meaning.specs.Tree.{Tree, PlainFunction}
use Rattle.txs_opt.proofs.Below.{Below, Lower, wider_below, inlined_below}
use Rattle.txs_opt.specs.Inline.{inlined, functions_inlined}

-- the functions of the first stand at their places in the second
abbrev pub Within : List PlainFunction → List PlainFunction → Type 0
Within fs gs = (f : ℕ) (fun : PlainFunction) → nth fs f ≡ Some fun → nth gs f ≡ Some fun

-- the function with calls inlined of functions before it
abbrev pub with_inlined : List PlainFunction → ℕ → PlainFunction → PlainFunction
with_inlined fs budget fun = record fun { body = (inlined fs fun.parameters budget fun.body).tree }

-- it stands at this place, and what was inlined stands there too
pub record InlinedAt (gs : List PlainFunction) (f : ℕ) (fun : PlainFunction) : Type 0 where
  pub front : List PlainFunction
  pub budget : ℕ
  pub found : nth gs f ≡ Some (with_inlined front budget fun)
  pub within : Within front gs
  pub place : length front ≡ f

pub within_append : (xs ys : List PlainFunction) → Within xs (xs ++ ys)
within_append [] ys f fun is = absurd (missing fun is)
within_append (x ∷ xs) ys zero fun is = is
within_append (x ∷ xs) ys (suc f) fun is = within_append xs ys f fun is

nth_seam : (xs : List PlainFunction) (y : PlainFunction) (ys : List PlainFunction) → nth (xs ++ y ∷ ys) (length xs) ≡ Some y
nth_seam [] y ys = refl
nth_seam (x ∷ xs) y ys = nth_seam xs y ys

pub within_inlined : (fs done : List PlainFunction) (budget : ℕ) → Within done (functions_inlined done budget fs).functions
within_inlined [] done budget f fun is = is
within_inlined (g ∷ fs) done budget f fun is =
    let x = inlined done g.parameters budget g.body in
    within_inlined fs (done ++ with_inlined done budget g ∷ []) x.budget f fun (within_append done (with_inlined done budget g ∷ []) f fun is)

pub length_inlined : (fs done : List PlainFunction) (budget : ℕ) → length (functions_inlined done budget fs).functions ≡ length done + length fs
length_inlined [] done budget = omega arith
length_inlined (g ∷ fs) done budget =
    let x = inlined done g.parameters budget g.body in
    omega (arith, length_inlined fs (done ++ with_inlined done budget g ∷ []) x.budget, length-append done (with_inlined done budget g ∷ []))

inlined_from : (fs done : List PlainFunction) (budget f i : ℕ) (fun : PlainFunction) → f ≡ length done + i → nth fs i ≡ Some fun → InlinedAt (functions_inlined done budget fs).functions f fun
inlined_from [] done budget f i fun at is = absurd (missing fun is)
inlined_from (g ∷ fs) done budget f zero fun at is =
    let x = inlined done g.parameters budget g.body in
    let here : f ≡ length done = omega (arith, at) in
    let gs = (functions_inlined (done ++ with_inlined done budget g ∷ []) x.budget fs).functions in
    let seam : nth gs (length done) ≡ Some (with_inlined done budget g) = within_inlined fs (done ++ with_inlined done budget g ∷ []) x.budget (length done) (with_inlined done budget g) (nth_seam done (with_inlined done budget g) []) in
    record {
      front = done;
      budget = budget;
      found = ap (nth gs) here ∙ seam ∙ ap (λ h. Some (with_inlined done budget h)) (same_some g fun is);
      within = within_inlined (g ∷ fs) done budget;
      place = sym here;
    }
inlined_from (g ∷ fs) done budget f (suc i) fun at is =
    let x = inlined done g.parameters budget g.body in
    inlined_from fs (done ++ with_inlined done budget g ∷ []) x.budget f i fun (omega (arith, at, length-append done (with_inlined done budget g ∷ []))) is

pub inlined_at : (fs : List PlainFunction) (budget f : ℕ) (fun : PlainFunction) → nth fs f ≡ Some fun → InlinedAt (functions_inlined [] budget fs).functions f fun
inlined_at fs budget f fun is = inlined_from fs [] budget f f fun (omega arith) is

missing_from : (fs done : List PlainFunction) (budget f i : ℕ) → f ≡ length done + i → nth fs i ≡ None → nth (functions_inlined done budget fs).functions f ≡ None
missing_from [] done budget f i at is = beyond done f i at
  where
    beyond : (gs : List PlainFunction) (f i : ℕ) → f ≡ length gs + i → nth gs f ≡ None
    beyond [] f i at = refl
    beyond (g ∷ gs) zero i at = absurd (omega (arith, at))
    beyond (g ∷ gs) (suc f) i at = beyond gs f i (omega (arith, at))
missing_from (g ∷ fs) done budget f zero at is = absurd (missing g (sym is))
missing_from (g ∷ fs) done budget f (suc i) at is =
    let x = inlined done g.parameters budget g.body in
    missing_from fs (done ++ with_inlined done budget g ∷ []) x.budget f i (omega (arith, at, length-append done (with_inlined done budget g ∷ []))) is

-- a function that isn't there isn't there with calls inlined
pub inlined_missing : (fs : List PlainFunction) (budget f : ℕ) → nth fs f ≡ None → nth (functions_inlined [] budget fs).functions f ≡ None
inlined_missing fs budget f is = missing_from fs [] budget f f (omega arith) is

-- ---- each function calls functions that weigh less alone

module _ (weight : ℕ → ℕ) (p : ℕ) where
  abbrev pub Under : ℕ → List PlainFunction → Type 0
  Under i [] = Unit {0}
  Under i (f ∷ fs) = Below (Lower weight p (weight i)) f.body × Under (suc i) fs

  -- where d is more, the same stands there
  pub lower_wider : (d e : ℕ) → d ≤ e → (t : Tree) → Below (Lower weight p d) t → Below (Lower weight p e) t
  lower_wider d e le t h = wider_below (Lower weight p d) (Lower weight p e) (λ f lt. omega (arith, lt, le)) (λ lt. omega (arith, lt, le)) t h

  pub under_at : (fs : List PlainFunction) (i f : ℕ) (fun : PlainFunction) → Under i fs → nth fs f ≡ Some fun → Below (Lower weight p (weight (i + f))) fun.body
  under_at [] i f fun h is = absurd (missing fun is)
  under_at (x ∷ fs) i zero fun h is =
      let here : i ≡ i + 0 = omega arith in
      subst (λ n. Below (Lower weight p (weight n)) fun.body) here (subst (λ (y : PlainFunction). Below (Lower weight p (weight i)) y.body) (same_some x fun is) h.0)
  under_at (x ∷ fs) i (suc f) fun h is =
      let next : suc i + f ≡ i + suc f = omega arith in
      subst (λ n. Below (Lower weight p (weight n)) fun.body) next (under_at fs (suc i) f fun h.1 is)

  pub under_there : (fs : List PlainFunction) (f : ℕ) (fun : PlainFunction) → Under 0 fs → nth fs f ≡ Some fun → Below (Lower weight p (weight f)) fun.body
  under_there fs f fun h is = let same : 0 + f ≡ f = omega arith in subst (λ n. Below (Lower weight p (weight n)) fun.body) same (under_at fs 0 f fun h is)

  under_all : (fs : List PlainFunction) (i : ℕ) → ((f : ℕ) (fun : PlainFunction) → nth fs f ≡ Some fun → Below (Lower weight p (weight (i + f))) fun.body) → Under i fs
  under_all [] i h = tt
  under_all (x ∷ fs) i h =
      let here : i + 0 ≡ i = omega arith in (
        subst (λ n. Below (Lower weight p (weight n)) x.body) here (h 0 x refl),
        under_all fs (suc i) (λ f fun is. let next : i + suc f ≡ suc i + f = omega arith in subst (λ n. Below (Lower weight p (weight n)) fun.body) next (h (suc f) fun is)),
      )

  -- from each function's body
  pub under_from : (fs : List PlainFunction) → ((f : ℕ) (fun : PlainFunction) → nth fs f ≡ Some fun → Below (Lower weight p (weight f)) fun.body) → Under 0 fs
  under_from fs h = under_all fs 0 (λ f fun is. let same : f ≡ 0 + f = omega arith in subst (λ n. Below (Lower weight p (weight n)) fun.body) same (h f fun is))

  under_push : (fs : List PlainFunction) (i : ℕ) (fun : PlainFunction) → Under i fs → Below (Lower weight p (weight (i + length fs))) fun.body → Under i (fs ++ fun ∷ [])
  under_push [] i fun h low = let here : i + 0 ≡ i = omega arith in (subst (λ n. Below (Lower weight p (weight n)) fun.body) here low, tt)
  under_push (x ∷ fs) i fun h low =
      let next : i + suc (length fs) ≡ suc i + length fs = omega arith in
      (h.0, under_push fs (suc i) fun h.1 (subst (λ n. Below (Lower weight p (weight n)) fun.body) next low))

  pub under_inlined : (fs done : List PlainFunction) (budget : ℕ) → Under 0 done → Under (length done) fs → Under 0 (functions_inlined done budget fs).functions
  under_inlined [] done budget h hs = h
  under_inlined (g ∷ fs) done budget h hs =
      let x = inlined done g.parameters budget g.body in
      let i = length done in
      let kind = Lower weight p (weight i) in
      let bodies = λ (f : ℕ) (fun : PlainFunction) (is : nth done f ≡ Some fun) (lt : weight f < weight i). lower_wider (weight f) (weight i) (omega (arith, lt)) fun.body (under_there done f fun h is) in
      let low : Below kind x.tree = inlined_below kind done bodies g.parameters budget g.body hs.0 in
      let end : i ≡ 0 + i = omega arith in
      let pushed = under_push done 0 (with_inlined done budget g) h (subst (λ n. Below (Lower weight p (weight n)) x.tree) end low) in
      let longer : suc i ≡ length (done ++ with_inlined done budget g ∷ []) = omega (arith, length-append done (with_inlined done budget g ∷ [])) in
      under_inlined fs (done ++ with_inlined done budget g ∷ []) x.budget pushed (subst (λ n. Under n fs) longer hs.1)
