-- What looking at a place keeps, and what a refusal there says.
use Rattle.std.proofs.Common.{arith, inl, inr, ◌≡◌, ◌⊎◌, ◌∙◌, ℕ, zero, suc, ◌+◌, ◌-◌, ◌<◌, ◌≤◌, List, [], ◌∷◌, ◌++◌, length, set, Bool, true, false, nat_eq, nat_lt, if◌then◌else◌, Option, Some, None, Result, Ok, Err, refl, sym, ap, subst, length-append}
use Rattle.std.proofs.lemmas.Bool.{eqb-true, eqb-false, ltb-true, ltb-false}
use Rattle.std.proofs.lemmas.List.{length-set}
use Rattle.txs_value_data.specs.Places.{nth}
use Rattle.txs_code_meaning.specs.declared.instr.Instr.{Instr}
use Rattle.txs_code_meaning.specs.declared.instr.Instr.TheVariants.{Const, Local, Store, Pop, Jump, JumpFalse, Core, Call, Return, Vector, Print, Look, Put, TxBegin, TxEnd, Open, Close, Send, Halt}
use Rattle.txs_verify.specs.declared.error.Refusal.{Refusal}
use Rattle.txs_verify.specs.declared.error.VerifyErrorKind.TheVariants.{StackLow, StackDiffers, TxNesting, FallsOff}
use Rattle.txs_verify.specs.declared.walk.Mark.{Mark}
use Rattle.txs_verify.specs.Going.{JumpsWithin, AllJumpWithin, no_marks, unmarked, AreReached, IsGoing, Goes}
use Rattle.txs_verify.specs.Marks.{Marks, mark_at, mark_behind, IsDone, IsClosed}
use Rattle.txs_verify.specs.Paths.{wants, depth_behind, MayEnd, txs_behind, LeadsTo, ComesIn}
use Rattle.txs_verify.specs.Refused.{Comes, GoesPast, of_none, behind, BreaksOff}
use Rattle.txs_verify.specs.declared.error.Stop.{Stop}
use Rattle.txs_verify.specs.declared.error.Stop.TheVariants.{Refused, Memory}
use Rattle.txs_verify.specs.Walk.{Walk, Gives, WhereRefused, IsIn, refusal, reached, ◌>>=◌, reached_each, next_places, ends_nothing, passed, looked}

some_is : {A : Type 0} (x y : A) → Some x ≡ Some y → x ≡ y
some_is x y e = cc

ok_is : (x y : Walk) → (let r : Result Walk Refusal = Ok x in r) ≡ Ok y → x ≡ y
ok_is x y e = cc

err_is : (x y : Refusal) → (let r : Result Walk Refusal = Err x in r) ≡ Err y → x ≡ y
err_is x y e = cc

none_is : {A : Type 0} (x : A) → None ≡ Some x → ⊥
none_is x e = absurd cc

same_by : (p q : ℕ) (b : Bool) → nat_eq p q ≡ b → (p ≡ q) ⊎ (p ≡ q → ⊥)
same_by p q true e = inl (eqb-true p q e)
same_by p q false e = inr (eqb-false p q e)

same_or : (p q : ℕ) → (p ≡ q) ⊎ (p ≡ q → ⊥)
same_or p q = same_by p q (nat_eq p q) refl

-- ---- places that wait

in_front : (p : ℕ) (ws xs : List ℕ) → IsIn p ws → IsIn p (ws ++ xs)
in_front p [] xs h = absurd h
in_front p (w ∷ ws) xs (inl e) = inl e
in_front p (w ∷ ws) xs (inr h) = inr (in_front p ws xs h)

in_last : (p q : ℕ) (ws : List ℕ) → p ≡ q → IsIn p (ws ++ q ∷ [])
in_last p q [] e = inl e
in_last p q (w ∷ ws) e = inr (in_last p q ws e)

shift : (p w : ℕ) (ws : List ℕ) (q : ℕ) → IsIn p ws ⊎ (p ≡ q) → IsIn p (w ∷ ws) ⊎ (p ≡ q)
shift p w ws q (inl h) = inl (inr h)
shift p w ws q (inr e) = inr e

in_split : (p : ℕ) (ws : List ℕ) (q : ℕ) → IsIn p (ws ++ q ∷ []) → IsIn p ws ⊎ (p ≡ q)
in_split p [] q (inl e) = inr e
in_split p [] q (inr h) = absurd h
in_split p (w ∷ ws) q (inl e) = inl (inl e)
in_split p (w ∷ ws) q (inr h) = shift p w ws q (in_split p ws q h)

-- ---- marks

mark_set_same : (ms : Marks) (q : ℕ) (m : Mark) → q < length ms → mark_at (set ms q (Some m)) q ≡ Some m
mark_set_same [] q m h = absurd (omega (arith, h))
mark_set_same (x ∷ ms) zero m h = refl
mark_set_same (x ∷ ms) (suc q) m h = mark_set_same ms q m (omega (arith, h))

mark_set_other : (ms : Marks) (q p : ℕ) (m : Mark) → (p ≡ q → ⊥) → mark_at (set ms q (Some m)) p ≡ mark_at ms p
mark_set_other [] q p m h = refl
mark_set_other (x ∷ ms) zero zero m h = absurd (h refl)
mark_set_other (x ∷ ms) zero (suc p) m h = refl
mark_set_other (x ∷ ms) (suc q) zero m h = refl
mark_set_other (x ∷ ms) (suc q) (suc p) m h = mark_set_other ms q p m (λ e. h (ap suc e))

unmarked_set : (ms : Marks) (q : ℕ) (m : Mark) → q < length ms → mark_at ms q ≡ None → unmarked ms ≡ suc (unmarked (set ms q (Some m)))
unmarked_set [] q m h e = absurd (omega (arith, h))
unmarked_set (None ∷ ms) zero m h e = refl
unmarked_set (Some x ∷ ms) zero m h e = absurd (none_is x (sym e))
unmarked_set (None ∷ ms) (suc q) m h e = ap suc (unmarked_set ms q m (omega (arith, h)) e)
unmarked_set (Some x ∷ ms) (suc q) m h e = unmarked_set ms q m (omega (arith, h)) e

pub marked_below : (ms : Marks) (p : ℕ) (m : Mark) → mark_at ms p ≡ Some m → p < length ms
marked_below [] p m e = absurd (none_is m e)
marked_below (x ∷ ms) zero m e = omega arith
marked_below (x ∷ ms) (suc p) m e = omega (arith, marked_below ms p m e)

same_mark : (a b : Mark) → a.depth ≡ b.depth → a.txs ≡ b.txs → a ≡ b
same_mark a b d t = ap (λ x. record { depth = x; txs = a.txs }) d ∙ ap (λ x. record { depth = b.depth; txs = x }) t

-- ---- what marking places does

-- new marks are this one, at places among these, which wait then
record Grows (m : Mark) (qs : List ℕ) (s u : Walk) : Type 0 where
  long : length u.0 ≡ length s.0
  keeps : (p : ℕ) (x : Mark) → mark_at s.0 p ≡ Some x → mark_at u.0 p ≡ Some x
  old : (p : ℕ) (x : Mark) → mark_at u.0 p ≡ Some x → (mark_at s.0 p ≡ Some x) ⊎ ((x ≡ m) × IsIn p u.1 × IsIn p qs × (suc (unmarked u.0) ≤ unmarked s.0))
  waits : (p : ℕ) → IsIn p s.1 → IsIn p u.1
  within : (p : ℕ) → IsIn p u.1 → IsIn p s.1 ⊎ (p < length u.0)
  size : unmarked u.0 + length u.1 ≡ unmarked s.0 + length s.1
  fewer : unmarked u.0 ≤ unmarked s.0
  marked : (q : ℕ) → IsIn q qs → mark_at u.0 q ≡ Some m

grows_not : (m : Mark) (s : Walk) → Grows m [] s s
grows_not m s =
    record {
      long = refl;
      keeps = λ p x e. e;
      old = λ p x e. inl e;
      waits = λ p h. h;
      within = λ p h. inl h;
      size = refl;
      fewer = omega arith;
      marked = λ q h. absurd h;
    }

grows_same : (q : ℕ) (m : Mark) (s : Walk) → mark_at s.0 q ≡ Some m → Grows m (q ∷ []) s s
grows_same q m s is =
    record {
      long = refl;
      keeps = λ p x e. e;
      old = λ p x e. inl e;
      waits = λ p h. h;
      within = λ p h. inl h;
      size = refl;
      fewer = omega arith;
      marked = λ p h. elim h [ inl e ↦ ap (mark_at s.0) e ∙ is | inr f ↦ absurd f ];
    }

abbrev put : Walk → ℕ → Mark → Walk
put s q m = (set s.0 q (Some m), s.1 ++ q ∷ [])

module _ (q : ℕ) (m : Mark) (s : Walk) (below : q < length s.0) (none : mark_at s.0 q ≡ None) where
  put_keeps : (p : ℕ) (x : Mark) → (p ≡ q) ⊎ (p ≡ q → ⊥) → mark_at s.0 p ≡ Some x → mark_at (put s q m).0 p ≡ Some x
  put_keeps p x (inl e) h = absurd (none_is x (sym none ∙ ap (mark_at s.0) (sym e) ∙ h))
  put_keeps p x (inr n) h = mark_set_other s.0 q p m n ∙ h

  less : suc (unmarked (put s q m).0) ≤ unmarked s.0
  less = omega (arith, unmarked_set s.0 q m below none)

  put_old : (p : ℕ) (x : Mark) → (p ≡ q) ⊎ (p ≡ q → ⊥) → mark_at (put s q m).0 p ≡ Some x → (mark_at s.0 p ≡ Some x) ⊎ ((x ≡ m) × IsIn p (put s q m).1 × IsIn p (q ∷ []) × (suc (unmarked (put s q m).0) ≤ unmarked s.0))
  put_old p x (inl e) h = inr (some_is x m (sym h ∙ ap (mark_at (put s q m).0) e ∙ mark_set_same s.0 q m below), in_last p q s.1 e, inl e, less)
  put_old p x (inr n) h = inl (sym (mark_set_other s.0 q p m n) ∙ h)

  put_within : (p : ℕ) → IsIn p s.1 ⊎ (p ≡ q) → IsIn p s.1 ⊎ (p < length (put s q m).0)
  put_within p (inl h) = inl h
  put_within p (inr e) = inr (omega (arith, e, below, length-set s.0 q (Some m)))

  grows_new : Grows m (q ∷ []) s (put s q m)
  grows_new =
      record {
        long = length-set s.0 q (Some m);
        keeps = λ p x e. put_keeps p x (same_or p q) e;
        old = λ p x e. put_old p x (same_or p q) e;
        waits = λ p h. in_front p s.1 (q ∷ []) h;
        within = λ p h. put_within p (in_split p s.1 q h);
        size = omega (arith, unmarked_set s.0 q m below none, length-append s.1 (q ∷ []));
        fewer = omega (arith, less);
        marked = λ p h. elim h [ inl e ↦ ap (mark_at (put s q m).0) e ∙ mark_set_same s.0 q m below | inr f ↦ absurd f ];
      }

one_tested : (q : ℕ) (m old : Mark) (s u : Walk) (x y : Bool) → mark_at s.0 q ≡ Some old → nat_eq old.depth m.depth ≡ x → nat_eq old.txs m.txs ≡ y → (if x then (if y then Ok s else Err (refusal TxNesting q)) else Err (refusal StackDiffers q)) ≡ Ok u → Grows m (q ∷ []) s u
one_tested q m old s u true true is d t e = subst (λ z. Grows m (q ∷ []) s z) (ok_is s u e) (grows_same q m s (is ∙ ap Some (same_mark old m (eqb-true old.depth m.depth d) (eqb-true old.txs m.txs t))))
one_tested q m old s u true false is d t e = absurd cc
one_tested q m old s u false y is d t e = absurd cc

one_by : (q : ℕ) (m : Mark) (s u : Walk) (o : Option Mark) → mark_at s.0 q ≡ o → q < length s.0 → reached o s q m ≡ Ok u → Grows m (q ∷ []) s u
one_by q m s u None is below e = subst (λ z. Grows m (q ∷ []) s z) (ok_is (put s q m) u e) (grows_new q m s below is)
one_by q m s u (Some old) is below e = one_tested q m old s u (nat_eq old.depth m.depth) (nat_eq old.txs m.txs) is refl refl e

one_on : (q : ℕ) (m : Mark) (s u : Walk) → q < length s.0 → reached (mark_at s.0 q) s q m ≡ Ok u → Grows m (q ∷ []) s u
one_on q m s u below e = one_by q m s u (mark_at s.0 q) refl below e

module _ (q : ℕ) (qs : List ℕ) (m : Mark) (s t u : Walk) (a : Grows m (q ∷ []) s t) (b : Grows m qs t u) where
  then_old_first : (p : ℕ) (x : Mark) → (mark_at s.0 p ≡ Some x) ⊎ ((x ≡ m) × IsIn p t.1 × IsIn p (q ∷ []) × (suc (unmarked t.0) ≤ unmarked s.0)) → (mark_at s.0 p ≡ Some x) ⊎ ((x ≡ m) × IsIn p u.1 × IsIn p (q ∷ qs) × (suc (unmarked u.0) ≤ unmarked s.0))
  then_old_first p x (inl e) = inl e
  then_old_first p x (inr n) = inr (n.0, b.waits p n.1, in_front p (q ∷ []) qs n.2, omega (arith, n.3, b.fewer))

  then_old : (p : ℕ) (x : Mark) → (mark_at t.0 p ≡ Some x) ⊎ ((x ≡ m) × IsIn p u.1 × IsIn p qs × (suc (unmarked u.0) ≤ unmarked t.0)) → (mark_at s.0 p ≡ Some x) ⊎ ((x ≡ m) × IsIn p u.1 × IsIn p (q ∷ qs) × (suc (unmarked u.0) ≤ unmarked s.0))
  then_old p x (inl e) = then_old_first p x (a.old p x e)
  then_old p x (inr n) = inr (n.0, n.1, inr n.2, omega (arith, n.3, a.fewer))

  then_within_first : (p : ℕ) → IsIn p s.1 ⊎ (p < length t.0) → IsIn p s.1 ⊎ (p < length u.0)
  then_within_first p (inl h) = inl h
  then_within_first p (inr h) = inr (omega (arith, h, b.long))

  then_within : (p : ℕ) → IsIn p t.1 ⊎ (p < length u.0) → IsIn p s.1 ⊎ (p < length u.0)
  then_within p (inl h) = then_within_first p (a.within p h)
  then_within p (inr h) = inr h

  then_marked : (p : ℕ) → IsIn p (q ∷ qs) → mark_at u.0 p ≡ Some m
  then_marked p (inl e) = b.keeps p m (a.marked p (inl e))
  then_marked p (inr h) = b.marked p h

  grows_then : Grows m (q ∷ qs) s u
  grows_then =
      record {
        long = b.long ∙ a.long;
        keeps = λ p x e. b.keeps p x (a.keeps p x e);
        old = λ p x e. then_old p x (b.old p x e);
        waits = λ p h. b.waits p (a.waits p h);
        within = λ p h. then_within p (b.within p h);
        size = b.size ∙ a.size;
        fewer = omega (arith, a.fewer, b.fewer);
        marked = λ p h. then_marked p h;
      }

each_by : (q : ℕ) (qs : List ℕ) (m : Mark) (s u : Walk) (r : Result Walk Refusal) → reached (mark_at s.0 q) s q m ≡ r → ((p : ℕ) → IsIn p (q ∷ qs) → p < length s.0) → ((t : Walk) → ((p : ℕ) → IsIn p qs → p < length t.0) → reached_each qs m t ≡ Ok u → Grows m qs t u) → (r >>= reached_each qs m) ≡ Ok u → Grows m (q ∷ qs) s u
each_by q qs m s u (Ok t) is within rest e =
    let a = one_on q m s t (within q (inl refl)) is in
    grows_then q qs m s t u a (rest t (λ p h. subst (λ n. p < n) (sym a.long) (within p (inr h))) e)
each_by q qs m s u (Err r) is within rest e = absurd cc

each_on : (qs : List ℕ) (m : Mark) (s u : Walk) → ((p : ℕ) → IsIn p qs → p < length s.0) → reached_each qs m s ≡ Ok u → Grows m qs s u
each_on [] m s u within e = subst (λ z. Grows m [] s z) (ok_is s u e) (grows_not m s)
each_on (q ∷ qs) m s u within e = each_by q qs m s u (reached (mark_at s.0 q) s q m) refl within (λ t w h. each_on qs m t u w h) e

-- ---- paths and refusals

module _ (ps : List ℕ) (is : List Instr) where
  grown_by : (m : Mark) (qs : List ℕ) (s u : Walk) → AreReached ps is s.0 → ((q : ℕ) → IsIn q qs → Comes ps is q m.depth m.txs) → (p : ℕ) (x : Mark) → (mark_at s.0 p ≡ Some x) ⊎ ((x ≡ m) × IsIn p u.1 × IsIn p qs × (suc (unmarked u.0) ≤ unmarked s.0)) → Comes ps is p x.depth x.txs
  grown_by m qs s u reached comes p x (inl e) = reached p x e
  grown_by m qs s u reached comes p x (inr n) = subst (λ y. Comes ps is p y.depth y.txs) (sym n.0) (comes p n.2)

  grown_reached : (m : Mark) (qs : List ℕ) (s u : Walk) → Grows m qs s u → AreReached ps is s.0 → ((q : ℕ) → IsIn q qs → Comes ps is q m.depth m.txs) → AreReached ps is u.0
  grown_reached m qs s u g reached comes = λ p x e. grown_by m qs s u reached comes p x (g.old p x e)

  refused_tested : (q : ℕ) (m old : Mark) (s : Walk) (r : Refusal) (x y : Bool) → Comes ps is q old.depth old.txs → Comes ps is q m.depth m.txs → nat_eq old.depth m.depth ≡ x → nat_eq old.txs m.txs ≡ y → (if x then (if y then Ok s else Err (refusal TxNesting q)) else Err (refusal StackDiffers q)) ≡ Err r → BreaksOff ps is r.kind r.at
  refused_tested q m old s r true true before now d t e = absurd cc
  refused_tested q m old s r true false before now d t e = subst (λ z. BreaksOff ps is z.kind z.at) (err_is (refusal TxNesting q) r e) (inl (old.depth, old.txs, m.depth, m.txs, before, now, eqb-false old.txs m.txs t))
  refused_tested q m old s r false y before now d t e = subst (λ z. BreaksOff ps is z.kind z.at) (err_is (refusal StackDiffers q) r e) (old.depth, old.txs, m.depth, m.txs, before, now, eqb-false old.depth m.depth d)

  one_refused : (q : ℕ) (m : Mark) (s : Walk) (r : Refusal) (o : Option Mark) → mark_at s.0 q ≡ o → AreReached ps is s.0 → Comes ps is q m.depth m.txs → reached o s q m ≡ Err r → BreaksOff ps is r.kind r.at
  one_refused q m s r None is_o reached comes e = absurd cc
  one_refused q m s r (Some old) is_o reached comes e = refused_tested q m old s r (nat_eq old.depth m.depth) (nat_eq old.txs m.txs) (reached q old is_o) comes refl refl e

  each_refused_by : (q : ℕ) (qs : List ℕ) (m : Mark) (s : Walk) (r : Refusal) (o : Result Walk Refusal) → reached (mark_at s.0 q) s q m ≡ o → AreReached ps is s.0 → ((p : ℕ) → IsIn p (q ∷ qs) → Comes ps is p m.depth m.txs) → ((p : ℕ) → IsIn p (q ∷ qs) → p < length s.0) → ((t : Walk) → AreReached ps is t.0 → ((p : ℕ) → IsIn p qs → p < length t.0) → reached_each qs m t ≡ Err r → BreaksOff ps is r.kind r.at) → (o >>= reached_each qs m) ≡ Err r → BreaksOff ps is r.kind r.at
  each_refused_by q qs m s r (Ok t) is_o known comes within rest e =
      let a = one_on q m s t (within q (inl refl)) is_o in
      rest t (grown_reached m (q ∷ []) s t a known (λ p h. comes p (in_front p (q ∷ []) qs h))) (λ p h. subst (λ n. p < n) (sym a.long) (within p (inr h))) e
  each_refused_by q qs m s r (Err o) is_o known comes within rest e = one_refused q m s r (mark_at s.0 q) refl known (comes q (inl refl)) (is_o ∙ e)

  each_refused : (qs : List ℕ) (m : Mark) (s : Walk) (r : Refusal) → AreReached ps is s.0 → ((p : ℕ) → IsIn p qs → Comes ps is p m.depth m.txs) → ((p : ℕ) → IsIn p qs → p < length s.0) → reached_each qs m s ≡ Err r → BreaksOff ps is r.kind r.at
  each_refused [] m s r known comes within e = absurd cc
  each_refused (q ∷ qs) m s r known comes within e = each_refused_by q qs m s r (reached (mark_at s.0 q) s q m) refl known comes within (λ t k w h. each_refused qs m t r k (λ p i. comes p (inr i)) w h) e

  comes_on : (p d t : ℕ) (i : Instr) (q : ℕ) → Comes ps is p d t → nth is p ≡ Some i → wants ps i ≤ d → MayEnd i t → LeadsTo p i q → Comes ps is q (depth_behind ps i d) (txs_behind i t)
  unfolding ComesIn
  comes_on p d t i q comes stands enough within leads = (suc comes.0, (p, d, t, comes.1, record { instr = i; stands = stands; enough = enough; within = within; leads = leads; depth = refl; txs = refl }))

-- ---- where instructions lead

one_of : (q x : ℕ) → IsIn q (x ∷ []) → q ≡ x
one_of q x (inl e) = e
one_of q x (inr h) = absurd h

leads_of : (p : ℕ) (i : Instr) (q : ℕ) → IsIn q (next_places p i) → LeadsTo p i q
leads_of p (Jump to) q h = one_of q to h
leads_of p (JumpFalse to) q (inl e) = inl e
leads_of p (JumpFalse to) q (inr h) = inr (one_of q (p + 1) h)
leads_of p Return q h = absurd h
leads_of p Halt q h = absurd h
leads_of p _ q h = one_of q (p + 1) h

in_next : (p : ℕ) (i : Instr) (q : ℕ) → LeadsTo p i q → IsIn q (next_places p i)
in_next p (JumpFalse to) q (inl e) = inl e
in_next p (JumpFalse to) q (inr e) = inr (inl e)
in_next p Return q h = absurd h
in_next p Halt q h = absurd h
in_next p _ q e = inl e

pub jumps_further : (n k : ℕ) (i : Instr) → n ≤ k → JumpsWithin n i → JumpsWithin k i
jumps_further n k (Jump to) le h = omega (arith, le, h)
jumps_further n k (JumpFalse to) le h = omega (arith, le, h)
jumps_further n k _ le h = tt

next_within : (n p : ℕ) (i : Instr) → p < n → JumpsWithin n i → (q : ℕ) → IsIn q (next_places p i) → q < n + 1
next_within n p (Jump to) below h q (inl e) = omega (arith, e, h)
next_within n p (Jump to) below h q (inr f) = absurd f
next_within n p (JumpFalse to) below h q (inl e) = omega (arith, e, h)
next_within n p (JumpFalse to) below h q (inr f) = omega (arith, one_of q (p + 1) f, below)
next_within n p Return below h q f = absurd f
next_within n p Halt below h q f = absurd f
next_within n p _ below h q f = omega (arith, one_of q (p + 1) f, below)

deeper : (ps : List ℕ) (i : Instr) (d : ℕ) → depth_behind ps i d ≤ d + 1
deeper ps (Const k) d = omega arith
deeper ps (Local i) d = omega arith
deeper ps (Store i) d = omega arith
deeper ps Pop d = omega arith
deeper ps (Jump to) d = omega arith
deeper ps (JumpFalse to) d = omega arith
deeper ps (Core op n) d = omega arith
deeper ps (Call f) d = omega arith
deeper ps Return d = omega arith
deeper ps (Vector n) d = omega arith
deeper ps (Print n) d = omega arith
deeper ps (Look look) d = omega arith
deeper ps (Put put) d = omega arith
deeper ps TxBegin d = omega arith
deeper ps TxEnd d = omega arith
deeper ps (Open by n) d = omega arith
deeper ps (Close by) d = omega arith
deeper ps (Send callee n) d = omega arith
deeper ps Halt d = omega arith

nests : (i : Instr) (t : ℕ) → txs_behind i t ≤ t + 1
nests TxBegin t = omega arith
nests TxEnd t = omega arith
nests _ t = omega arith

pub may_end : (i : Instr) (t : ℕ) → ends_nothing i t ≡ false → MayEnd i t
may_end TxEnd zero e = absurd (eqb-false 0 0 e refl)
may_end TxEnd (suc t) e = omega arith
may_end _ t e = tt

no_end : (i : Instr) (t : ℕ) → ends_nothing i t ≡ true → MayEnd i t → ⊥
no_end TxEnd t e h = absurd (omega (arith, eqb-true t 0 e, h))
no_end _ t e h = absurd cc

stands_below : (is : List Instr) (p : ℕ) (i : Instr) → nth is p ≡ Some i → p < length is
stands_below [] p i e = absurd (none_is i e)
stands_below (x ∷ is) zero i e = omega arith
stands_below (x ∷ is) (suc p) i e = omega (arith, stands_below is p i e)

none_past : (is : List Instr) (q : ℕ) → nth is q ≡ None → length is ≤ q
none_past [] q e = omega arith
none_past (i ∷ is) zero e = absurd (none_is i (sym e))
none_past (i ∷ is) (suc q) e = omega (arith, none_past is q e)

empty_is : (is : List Instr) → nth is 0 ≡ None → is ≡ []
empty_is [] e = refl
empty_is (i ∷ is) e = absurd (none_is i (sym e))

-- past the end leads the instruction before alone, since no jump does
leads_past : (is : List Instr) (p : ℕ) (i : Instr) (q : ℕ) → JumpsWithin (length is) i → length is ≤ q → LeadsTo p i q → q ≡ p + 1
leads_past is p (Jump to) q within past e = absurd (omega (arith, within, past, e))
leads_past is p (JumpFalse to) q within past (inl e) = absurd (omega (arith, within, past, e))
leads_past is p (JumpFalse to) q within past (inr e) = e
leads_past is p Return q within past h = absurd h
leads_past is p Halt q within past h = absurd h
leads_past is p _ q within past e = e

past_in : (ps : List ℕ) (is : List Instr) → AllJumpWithin is → (n p d t : ℕ) → ComesIn ps is n p d t → nth is p ≡ None → GoesPast ps is (p - 1)
unfolding ComesIn
past_in ps is jumps zero p d t comes none = of_none (empty_is is (subst (λ q. nth is q ≡ None) comes.0 none)) (omega (arith, comes.0))
past_in ps is jumps (suc n) p d t comes none =
    let q = comes.0 in
    let step = comes.4 in
    let next : p ≡ q + 1 = leads_past is q step.instr p (jumps q step.instr step.stands) (none_past is p none) step.leads in
    let at : q ≡ p - 1 = omega (arith, next) in
    subst (λ x. GoesPast ps is x) at (behind comes.1 comes.2 p d t (n, comes.3) step none)

-- ---- a place is looked at

module _ (ps : List ℕ) (is : List Instr) (jumps : AllJumpWithin is) (p : ℕ) (m : Mark) (s : Walk) (going : IsGoing ps is s.0 s.1 (λ x. x ≡ p)) (here : mark_at s.0 p ≡ Some m) where
  -- what its instruction leads to is come to
  ahead : (i : Instr) → nth is p ≡ Some i → wants ps i ≤ m.depth → MayEnd i m.txs → (q : ℕ) → IsIn q (next_places p i) → Comes ps is q (mark_behind ps i m).depth (mark_behind ps i m).txs
  ahead i stands enough within q h = comes_on ps is p m.depth m.txs i q (going.reached p m here) stands enough within (leads_of p i q h)

  inside : (i : Instr) → nth is p ≡ Some i → (q : ℕ) → IsIn q (next_places p i) → q < length s.0
  inside i stands q h = omega (arith, going.many, next_within (length is) p i (stands_below is p i stands) (jumps p i stands) q h)

  module _ (i : Instr) (stands : nth is p ≡ Some i) (enough : wants ps i ≤ m.depth) (within : MayEnd i m.txs) (u : Walk) (g : Grows (mark_behind ps i m) (next_places p i) s u) where
    still : (p' : ℕ) (x : Mark) → IsDone ps is s.0 p' x → IsDone ps is u.0 p' x
    still p' x d = record { instr = d.instr; stands = d.stands; enough = d.enough; within = d.within; next = λ q l. g.keeps q (mark_behind ps d.instr x) (d.next q l) }

    now_done : IsDone ps is u.0 p m
    now_done = record { instr = i; stands = stands; enough = enough; within = within; next = λ q l. g.marked q (in_next p i q l) }

    low_by : (p' : ℕ) (x : Mark) → (mark_at s.0 p' ≡ Some x) ⊎ ((x ≡ mark_behind ps i m) × IsIn p' u.1 × IsIn p' (next_places p i) × (suc (unmarked u.0) ≤ unmarked s.0)) → (x.depth + unmarked u.0 ≤ length is) × (x.txs + unmarked u.0 ≤ length is)
    low_by p' x (inl e) =
        let l = going.low p' x e in
        (omega (arith, l.0, g.fewer), omega (arith, l.1, g.fewer))
    low_by p' x (inr n) =
        let l = going.low p m here in
        (omega (arith, l.0, n.3, ap (λ (y : Mark). y.depth) n.0, deeper ps i m.depth), omega (arith, l.1, n.3, ap (λ (y : Mark). y.txs) n.0, nests i m.txs))

    within_by : (q : ℕ) → IsIn q s.1 ⊎ (q < length u.0) → q < length u.0
    within_by q (inl h) = omega (arith, going.within q h, g.long)
    within_by q (inr h) = h

    here_done : (p' : ℕ) (x : Mark) → p' ≡ p → mark_at s.0 p' ≡ Some x → IsDone ps is u.0 p' x
    here_done p' x e h =
        let same : m ≡ x = some_is m x (sym here ∙ ap (mark_at s.0) (sym e) ∙ h) in
        subst (λ y. IsDone ps is u.0 p' y) same (subst (λ y. IsDone ps is u.0 y m) (sym e) now_done)

    done_old : (p' : ℕ) (x : Mark) → mark_at s.0 p' ≡ Some x → IsDone ps is s.0 p' x ⊎ (IsIn p' s.1 ⊎ (p' ≡ p)) → IsDone ps is u.0 p' x ⊎ (IsIn p' u.1 ⊎ ⊥)
    done_old p' x h (inl d) = inl (still p' x d)
    done_old p' x h (inr (inl w)) = inr (inl (g.waits p' w))
    done_old p' x h (inr (inr e)) = inl (here_done p' x e h)

    done_by : (p' : ℕ) (x : Mark) → (mark_at s.0 p' ≡ Some x) ⊎ ((x ≡ mark_behind ps i m) × IsIn p' u.1 × IsIn p' (next_places p i) × (suc (unmarked u.0) ≤ unmarked s.0)) → IsDone ps is u.0 p' x ⊎ (IsIn p' u.1 ⊎ ⊥)
    done_by p' x (inl h) = done_old p' x h (going.done p' x h)
    done_by p' x (inr n) = inr (inl n.1)

    goes_on : Goes ps is u.0 u.1
    goes_on =
        record {
          many = g.long ∙ going.many;
          first = g.keeps 0 (record { depth = 0; txs = 0 }) going.first;
          reached = grown_reached ps is (mark_behind ps i m) (next_places p i) s u g going.reached (ahead i stands enough within);
          low = λ p' x e. low_by p' x (g.old p' x e);
          within = λ q h. within_by q (g.within q h);
          done = λ p' x e. done_by p' x (g.old p' x e);
        }

  tested_on : (i : Instr) → nth is p ≡ Some i → (u : Walk) (x y : Bool) → nat_lt m.depth (wants ps i) ≡ x → ends_nothing i m.txs ≡ y → (if x then Err (refusal StackLow p) else (if y then Err (refusal TxNesting p) else reached_each (next_places p i) (mark_behind ps i m) s)) ≡ Ok u → Goes ps is u.0 u.1 × (unmarked u.0 + length u.1 ≡ unmarked s.0 + length s.1)
  tested_on i stands u false false low nothing e =
      let g = each_on (next_places p i) (mark_behind ps i m) s u (inside i stands) e in
      (goes_on i stands (ltb-false m.depth (wants ps i) low) (may_end i m.txs nothing) u g, g.size)
  tested_on i stands u false true low nothing e = absurd cc
  tested_on i stands u true y low nothing e = absurd cc

  passed_on : (u : Walk) (o : Option Instr) → nth is p ≡ o → passed ps p m o s ≡ Ok u → Goes ps is u.0 u.1 × (unmarked u.0 + length u.1 ≡ unmarked s.0 + length s.1)
  passed_on u None is_o e = absurd cc
  passed_on u (Some i) is_o e = tested_on i is_o u (nat_lt m.depth (wants ps i)) (ends_nothing i m.txs) refl refl e

  tested_refused : (i : Instr) → nth is p ≡ Some i → (r : Refusal) (x y : Bool) → nat_lt m.depth (wants ps i) ≡ x → ends_nothing i m.txs ≡ y → (if x then Err (refusal StackLow p) else (if y then Err (refusal TxNesting p) else reached_each (next_places p i) (mark_behind ps i m) s)) ≡ Err r → BreaksOff ps is r.kind r.at
  tested_refused i stands r false false low nothing e = each_refused ps is (next_places p i) (mark_behind ps i m) s r going.reached (ahead i stands (ltb-false m.depth (wants ps i) low) (may_end i m.txs nothing)) (inside i stands) e
  tested_refused i stands r false true low nothing e = subst (λ z. BreaksOff ps is z.kind z.at) (err_is (refusal TxNesting p) r e) (inr (m.depth, m.txs, i, record { comes = going.reached p m here; stands = stands }, no_end i m.txs nothing))
  tested_refused i stands r true y low nothing e = subst (λ z. BreaksOff ps is z.kind z.at) (err_is (refusal StackLow p) r e) (m.depth, m.txs, i, record { comes = going.reached p m here; stands = stands }, ltb-true m.depth (wants ps i) low)

  passed_refused : (r : Refusal) (o : Option Instr) → nth is p ≡ o → passed ps p m o s ≡ Err r → BreaksOff ps is r.kind r.at
  passed_refused r None is_o e =
      let comes = going.reached p m here in
      subst (λ z. BreaksOff ps is z.kind z.at) (err_is (refusal FallsOff (p - 1)) r e) (past_in ps is jumps comes.0 p m.depth m.txs comes.1 is_o)
  passed_refused r (Some i) is_o e = tested_refused i is_o r (nat_lt m.depth (wants ps i)) (ends_nothing i m.txs) refl refl e

nothing_here : (ps : List ℕ) (is : List Instr) (p : ℕ) (s : Walk) → IsGoing ps is s.0 s.1 (λ x. x ≡ p) → mark_at s.0 p ≡ None → Goes ps is s.0 s.1
nothing_here ps is p s going none =
    let done_by : (p' : ℕ) (x : Mark) → mark_at s.0 p' ≡ Some x → IsDone ps is s.0 p' x ⊎ (IsIn p' s.1 ⊎ (p' ≡ p)) → IsDone ps is s.0 p' x ⊎ (IsIn p' s.1 ⊎ ⊥) = λ p' x h o. elim o [ inl d ↦ inl d | inr w ↦ elim w [ inl v ↦ inr (inl v) | inr e ↦ absurd (none_is x (sym none ∙ ap (mark_at s.0) (sym e) ∙ h)) ] ] in
    record { many = going.many; first = going.first; reached = going.reached; low = going.low; within = going.within; done = λ p' x h. done_by p' x h (going.done p' x h) }

looked_by : (ps : List ℕ) (is : List Instr) → AllJumpWithin is → (p : ℕ) (s u : Walk) → IsGoing ps is s.0 s.1 (λ x. x ≡ p) → (o : Option Mark) → mark_at s.0 p ≡ o → looked ps is p o s ≡ Ok u → Goes ps is u.0 u.1 × (unmarked u.0 + length u.1 ≡ unmarked s.0 + length s.1)
looked_by ps is jumps p s u going None is_o e = subst (λ z. Goes ps is z.0 z.1 × (unmarked z.0 + length z.1 ≡ unmarked s.0 + length s.1)) (ok_is s u e) (nothing_here ps is p s going is_o, refl)
looked_by ps is jumps p s u going (Some m) is_o e = passed_on ps is jumps p m s going is_o u (nth is p) refl e

-- a place was looked at
pub looked_on : (ps : List ℕ) (is : List Instr) → AllJumpWithin is → (p : ℕ) (s u : Walk) → IsGoing ps is s.0 s.1 (λ x. x ≡ p) → looked ps is p (mark_at s.0 p) s ≡ Ok u → Goes ps is u.0 u.1 × (unmarked u.0 + length u.1 ≡ unmarked s.0 + length s.1)
looked_on ps is jumps p s u going e = looked_by ps is jumps p s u going (mark_at s.0 p) refl e

refused_by : (ps : List ℕ) (is : List Instr) → AllJumpWithin is → (p : ℕ) (s : Walk) (r : Refusal) → IsGoing ps is s.0 s.1 (λ x. x ≡ p) → (o : Option Mark) → mark_at s.0 p ≡ o → looked ps is p o s ≡ Err r → BreaksOff ps is r.kind r.at
refused_by ps is jumps p s r going None is_o e = absurd cc
refused_by ps is jumps p s r going (Some m) is_o e = passed_refused ps is jumps p m s going is_o r (nth is p) refl e

-- a place was refused
pub looked_refused : (ps : List ℕ) (is : List Instr) → AllJumpWithin is → (p : ℕ) (s : Walk) (r : Refusal) → IsGoing ps is s.0 s.1 (λ x. x ≡ p) → looked ps is p (mark_at s.0 p) s ≡ Err r → BreaksOff ps is r.kind r.at
looked_refused ps is jumps p s r going e = refused_by ps is jumps p s r going (mark_at s.0 p) refl e

-- ---- the loop

-- the last place that waits is to be looked at
pub taken : (ps : List ℕ) (is : List Instr) (ms : Marks) (ws : List ℕ) (p : ℕ) → Goes ps is ms (ws ++ p ∷ []) → IsGoing ps is ms ws (λ x. x ≡ p)
taken ps is ms ws p goes =
    let done_by : (q : ℕ) (x : Mark) → IsDone ps is ms q x ⊎ (IsIn q (ws ++ p ∷ []) ⊎ ⊥) → IsDone ps is ms q x ⊎ (IsIn q ws ⊎ (q ≡ p)) = λ q x o. elim o [ inl d ↦ inl d | inr w ↦ elim w [ inl v ↦ inr (in_split q ws p v) | inr f ↦ absurd f ] ] in
    record { many = goes.many; first = goes.first; reached = goes.reached; low = goes.low; within = λ q h. goes.within q (in_front q ws (p ∷ []) h); done = λ q x h. done_by q x (goes.done q x h) }

-- it is a place
pub taken_below : (ps : List ℕ) (is : List Instr) (ms : Marks) (ws : List ℕ) (p : ℕ) → Goes ps is ms (ws ++ p ∷ []) → p < length ms
taken_below ps is ms ws p goes = goes.within p (in_last p p ws refl)

-- where none waits, the marks are closed
pub closed : (ps : List ℕ) (is : List Instr) (ms : Marks) → Goes ps is ms [] → IsClosed ps is ms
closed ps is ms goes = record { first = goes.first; done = λ p x h. elim (goes.done p x h) [ inl d ↦ d | inr w ↦ elim w [ inl v ↦ absurd v | inr f ↦ absurd f ] ] }

-- ---- the start

none_there : (n p : ℕ) (m : Mark) → mark_at (no_marks n) p ≡ Some m → ⊥
none_there zero p m e = none_is m e
none_there (suc n) zero m e = none_is m e
none_there (suc n) (suc p) m e = none_there n p m e

none_marked : (n : ℕ) → unmarked (no_marks n) ≡ n
none_marked zero = refl
none_marked (suc n) = ap suc (none_marked n)

as_long : (n : ℕ) → length (no_marks n) ≡ n
as_long zero = refl
as_long (suc n) = omega (arith, as_long n)

no_more_by : (n : ℕ) → no_marks n ++ None ∷ [] ≡ no_marks (suc n)
no_more_by zero = refl
no_more_by (suc n) = ap (λ ms. None ∷ ms) (no_more_by n)

suc_is : (n : ℕ) → suc n ≡ n + 1
suc_is n = omega arith

pub no_more : (n : ℕ) → no_marks n ++ None ∷ [] ≡ no_marks (n + 1)
no_more n = no_more_by n ∙ ap no_marks (suc_is n)

-- the first place alone has a mark, and waits
abbrev beginning : ℕ → Marks
beginning n = Some (record { depth = 0; txs = 0 }) ∷ no_marks n

module _ (ps : List ℕ) (is : List Instr) where
  begun : (p : ℕ) (m : Mark) → mark_at (beginning (length is)) p ≡ Some m → (p ≡ 0) × (m ≡ record { depth = 0; txs = 0 })
  begun zero m e = (refl, sym (some_is (record { depth = 0; txs = 0 }) m e))
  begun (suc p) m e = absurd (none_there (length is) p m e)

  begins_at : Comes ps is 0 0 0
  unfolding ComesIn
  begins_at = (0, (refl, refl, refl))

  comes_first : (p : ℕ) (m : Mark) → (p ≡ 0) × (m ≡ record { depth = 0; txs = 0 }) → Comes ps is p m.depth m.txs
  comes_first p m e = subst (λ q. Comes ps is q m.depth m.txs) (sym e.0) (subst (λ (x : Mark). Comes ps is 0 x.depth x.txs) (sym e.1) begins_at)

  low_first : (p : ℕ) (m : Mark) → (p ≡ 0) × (m ≡ record { depth = 0; txs = 0 }) → (m.depth + unmarked (beginning (length is)) ≤ length is) × (m.txs + unmarked (beginning (length is)) ≤ length is)
  low_first p m e =
      let none = none_marked (length is) in
      (omega (arith, none, ap (λ (x : Mark). x.depth) e.1), omega (arith, none, ap (λ (x : Mark). x.txs) e.1))

  goes_first : Goes ps is (beginning (length is)) (0 ∷ [])
  goes_first =
      record {
        many = omega (arith, as_long (length is));
        first = refl;
        reached = λ p m e. comes_first p m (begun p m e);
        low = λ p m e. low_first p m (begun p m e);
        within = λ q h. omega (arith, one_of q 0 h);
        done = λ p m e. inr (inl (inl (begun p m e).0));
      }

  marked_first : (n : ℕ) → n ≡ suc (length is) → set (no_marks n) 0 (Some (record { depth = 0; txs = 0 })) ≡ beginning (length is)
  marked_first n e = ap (λ k. set (no_marks k) 0 (Some (record { depth = 0; txs = 0 }))) e

  pub goes_from : (ms : Marks) (ws : List ℕ) → ms ≡ set (no_marks (length is + 1)) 0 (Some (record { depth = 0; txs = 0 })) → ws ≡ 0 ∷ [] → Goes ps is ms ws
  goes_from ms ws e w =
      let marks : ms ≡ beginning (length is) = e ∙ marked_first (length is + 1) (omega arith) in
      subst (λ x. Goes ps is x ws) (sym marks) (subst (λ x. Goes ps is (beginning (length is)) x) (sym w) goes_first)

-- a refusal, or want of memory
pub stop_is : (ps : List ℕ) (is : List Instr) → AllJumpWithin is → (p : ℕ) (s left : Walk) (stop : Stop) → IsGoing ps is s.0 s.1 (λ x. x ≡ p) → Gives (Err stop) left (looked ps is p (mark_at s.0 p) s) → WhereRefused (λ r. BreaksOff ps is r.kind r.at) stop
stop_is ps is jumps p s left (Refused r) going e = looked_refused ps is jumps p s r going e
stop_is ps is jumps p s left Memory going e = tt

done_is : (P : Type 0) → P ⊎ (⊥ ⊎ ⊥) → P
done_is P (inl x) = x
done_is P (inr (inl bad)) = absurd bad
done_is P (inr (inr bad)) = absurd bad

-- where no place waits, the marks are closed
pub closed_is : (ps : List ℕ) (is : List Instr) (ms : Marks) → Goes ps is ms [] → IsClosed ps is ms
closed_is ps is ms goes = record { first = goes.first; done = λ p m e. done_is (IsDone ps is ms p m) (goes.done p m e) }
