-- The innermost opening.
use Rattle.std.proofs.Common.{◌≡◌, ◌-◌, ℕ, zero, suc, List, [], ◌∷◌, ◌++◌, length, take, drop, Some, None, refl, sym, ap, ◌∙◌, subst, arith}
use Rattle.std.specs.Prelude.{slice_get}
use Rattle.txs_reader.specs.declared.open_form.OpenForm.{OpenForm}
use Rattle.txs_reader.specs.Rows.{divided}
use Rattle.txs_reader.specs.declared.form.Bracket.{Bracket}
use Rattle.txs_reader.specs.Tree.{PlainForm}
use Rattle.txs_reader.specs.Script.{Open, opened, FitsLast, StandsLast, EndsWithDeref, HasAll, IsFull}

pub FitsLast-push : (os : List Open) (o : Open) (b : Bracket) → o.bracket ≡ Some b → FitsLast (os ++ o ∷ []) b
FitsLast-push [] o b e = e
FitsLast-push (p ∷ []) o b e = e
FitsLast-push (p ∷ q ∷ os) o b e = FitsLast-push (q ∷ os) o b e

pub FitsLast-last : (os : List Open) (o : Open) (b : Bracket) → FitsLast (os ++ o ∷ []) b → o.bracket ≡ Some b
FitsLast-last [] o b h = h
FitsLast-last (p ∷ []) o b h = h
FitsLast-last (p ∷ q ∷ os) o b h = FitsLast-last (q ∷ os) o b h

pub StandsLast-push : (os : List Open) (o : Open) → StandsLast (os ++ o ∷ []) o.from
StandsLast-push [] o = refl
StandsLast-push (p ∷ []) o = refl
StandsLast-push (p ∷ q ∷ os) o = StandsLast-push (q ∷ os) o

pub EndsWithDeref-push : (os : List Open) (o : Open) → o.bracket ≡ None → EndsWithDeref (os ++ o ∷ [])
EndsWithDeref-push [] o e = e
EndsWithDeref-push (p ∷ []) o e = e
EndsWithDeref-push (p ∷ q ∷ os) o e = EndsWithDeref-push (q ∷ os) o e

pub EndsWithDeref-last : (os : List Open) (o : Open) → EndsWithDeref (os ++ o ∷ []) → o.bracket ≡ None
EndsWithDeref-last [] o h = h
EndsWithDeref-last (p ∷ []) o h = h
EndsWithDeref-last (p ∷ q ∷ os) o h = EndsWithDeref-last (q ∷ os) o h

pub IsFull-push : (os : List Open) (o : Open) (fs : List PlainForm) → HasAll o.bracket (length fs) → IsFull (os ++ o ∷ []) fs
IsFull-push [] o fs h = h
IsFull-push (p ∷ []) o fs h = h
IsFull-push (p ∷ q ∷ os) o fs h = IsFull-push (q ∷ os) o fs h

pub IsFull-last : (os : List Open) (o : Open) (fs : List PlainForm) → IsFull (os ++ o ∷ []) fs → HasAll o.bracket (length fs)
IsFull-last [] o fs h = h
IsFull-last (p ∷ []) o fs h = h
IsFull-last (p ∷ q ∷ os) o fs h = IsFull-last (q ∷ os) o fs h

-- the last in memory is the innermost
pub record EndsIn (os : List Open) (x : OpenForm) : Type 0 where
  pub init : List Open
  pub before : List PlainForm
  pub is : os ≡ init ++ opened x.bracket x.from before ∷ []

last_at : (xs : List OpenForm) (ts : List PlainForm) (n : ℕ) (x : OpenForm) → length xs ≡ suc n → Some x ≡ slice_get xs n → EndsIn (divided xs ts) x
last_at [] ts n x len e = absurd (omega (arith, len))
last_at (y ∷ []) ts zero x len e =
    let k : x ≡ y = cc in
    record { init = []; before = take y.before ts; is = ap (λ (z : OpenForm). opened z.bracket z.from (take y.before ts) ∷ []) (sym k) }
last_at (y ∷ []) ts (suc n) x len e = absurd (omega (arith, len))
last_at (y ∷ z ∷ ys) ts zero x len e = absurd (omega (arith, len))
last_at (y ∷ z ∷ ys) ts (suc n) x len e =
    let r = last_at (z ∷ ys) (drop y.before ts) n x (omega (arith, len)) e in
    let o = opened y.bracket y.from (take y.before ts) in
    record { init = o ∷ r.init; before = r.before; is = ap (λ (os : List Open). o ∷ os) r.is }

pub innermost : (xs : List OpenForm) (ts : List PlainForm) (x : OpenForm) → Some x ≡ slice_get xs (length xs - 1) → EndsIn (divided xs ts) x
innermost [] ts x e = absurd cc
innermost (y ∷ ys) ts x e =
    let k : length (y ∷ ys) - 1 ≡ length ys = omega arith in
    last_at (y ∷ ys) ts (length ys) x (omega arith) (e ∙ ap (slice_get (y ∷ ys)) k)

pub fits_at : (os : List Open) (x : OpenForm) (b : Bracket) → EndsIn os x → x.bracket ≡ Some b → FitsLast os b
fits_at os x b r e = subst (λ (ps : List Open). FitsLast ps b) (sym r.is) (FitsLast-push r.init _ b e)

pub at_fits : (os : List Open) (x : OpenForm) (b : Bracket) → EndsIn os x → FitsLast os b → x.bracket ≡ Some b
at_fits os x b r h = FitsLast-last r.init _ b (subst (λ (ps : List Open). FitsLast ps b) r.is h)

pub deref_at : (os : List Open) (x : OpenForm) → EndsIn os x → x.bracket ≡ None → EndsWithDeref os
deref_at os x r e = subst EndsWithDeref (sym r.is) (EndsWithDeref-push r.init _ e)

pub at_deref : (os : List Open) (x : OpenForm) → EndsIn os x → EndsWithDeref os → x.bracket ≡ None
at_deref os x r h = EndsWithDeref-last r.init _ (subst EndsWithDeref r.is h)

pub full_at : (os : List Open) (x : OpenForm) (fs : List PlainForm) → EndsIn os x → HasAll x.bracket (length fs) → IsFull os fs
full_at os x fs r h = subst (λ (ps : List Open). IsFull ps fs) (sym r.is) (IsFull-push r.init _ fs h)

pub at_full : (os : List Open) (x : OpenForm) (fs : List PlainForm) → EndsIn os x → IsFull os fs → HasAll x.bracket (length fs)
at_full os x fs r h = IsFull-last r.init _ fs (subst (λ (ps : List Open). IsFull ps fs) r.is h)
