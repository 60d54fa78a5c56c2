-- What is seen of a body, place by place.
use Rattle.std.proofs.Common.{arith, inl, inr, ◌≡◌, ◌⊎◌, ◌∙◌, ℕ, ◌+◌, ◌<◌, List, Bool, true, false, ◌||◌, nat_lt, Option, Some, None, Result, Ok, Err, refl, sym, ap, subst}
use Rattle.std.proofs.lemmas.Bool.{ltb-true, ltb-false}
use Rattle.txs_value_data.specs.Places.{nth}
use Rattle.txs_code_meaning.specs.declared.instr.Instr.{Instr}
use Rattle.txs_verify.specs.declared.error.Refusal.{Refusal}
use Rattle.txs_verify.specs.declared.standing.Kind.{Kind}
use Rattle.txs_verify.specs.declared.walk.Mark.{Mark}
use Rattle.txs_verify.specs.Marks.{Marks, mark_at}
use Rattle.txs_verify.specs.Standing.{pure_kind, kind_of, joined, seen_from, Flag, for_inside, for_outside, not_pure, has, wrong, unless_wrong, judged, IsMarked, IsSeen, IsWrong}

some_is : {A : Type 0} (x y : A) → Some x ≡ Some y → x ≡ y
some_is x y e = cc

none_is : {A : Type 0} (x : A) → None ≡ Some x → ⊥
none_is x e = absurd cc

ok_is : (x y : Kind) → (let r : Result Kind Refusal = Ok x in r) ≡ Ok y → x ≡ y
ok_is x y e = cc

err_is : (x y : Refusal) → (let r : Result Kind Refusal = Err x in r) ≡ Err y → x ≡ y
err_is x y e = cc

lt_by : (p n : ℕ) (b : Bool) → nat_lt p n ≡ b → p < n + 1 → (p < n) ⊎ (p ≡ n)
lt_by p n true e h = inl (ltb-true p n e)
lt_by p n false e h = inr (omega (arith, ltb-false p n e, h))

lt_or : (p n : ℕ) → p < n + 1 → (p < n) ⊎ (p ≡ n)
lt_or p n h = lt_by p n (nat_lt p n) refl h

either : (a b : Bool) → (a || b) ≡ true → (a ≡ true) ⊎ (b ≡ true)
either true b e = inl refl
either false b e = inr e

or_left : (a b : Bool) → a ≡ true → (a || b) ≡ true
or_left true b e = refl
or_left false b e = absurd cc

or_right : (a b : Bool) → b ≡ true → (a || b) ≡ true
or_right true b e = refl
or_right false b e = e

has_none : (flag : Flag) → has flag pure_kind ≡ true → ⊥
has_none for_inside e = absurd cc
has_none for_outside e = absurd cc
has_none not_pure e = absurd cc

of_both : (flag : Flag) (a b : Kind) → has flag (joined a b) ≡ has flag a || has flag b
of_both for_inside a b = refl
of_both for_outside a b = refl
of_both not_pure a b = refl

module _ (ks : List Kind) (thread : Bool) (is : List Instr) (ms : Marks) where
  pub seen_first : IsSeen ks thread is ms 0 pure_kind
  seen_first =
      record {
        right = λ p m i below marked. absurd (omega (arith, below));
        from = λ flag h. absurd (has_none flag h);
        all = λ flag p m i below marked h. absurd (omega (arith, below));
      }

  -- no mark
  module _ (n : ℕ) (kind : Kind) (seen : IsSeen ks thread is ms n kind) (none : mark_at ms n ≡ None) where
    skipped : (p : ℕ) (m : Mark) (i : Instr) → IsMarked is ms p m i → (p < n) ⊎ (p ≡ n) → p < n
    skipped p m i marked (inl h) = h
    skipped p m i marked (inr e) = absurd (none_is m (sym none ∙ ap (mark_at ms) (sym e) ∙ marked.mark))

    seen_past : IsSeen ks thread is ms (n + 1) kind
    seen_past =
        record {
          right = λ p m i below marked. seen.right p m i (skipped p m i marked (lt_or p n below)) marked;
          from = seen.from;
          all = λ flag p m i below marked h. seen.all flag p m i (skipped p m i marked (lt_or p n below)) marked h;
        }

  -- a mark
  module _ (n : ℕ) (kind : Kind) (seen : IsSeen ks thread is ms n kind) (m : Mark) (i : Instr) (here : IsMarked is ms n m i) (right : wrong ks thread is n m i ≡ None) where
    same_mark : (p : ℕ) (x : Mark) (j : Instr) → p ≡ n → IsMarked is ms p x j → m ≡ x
    same_mark p x j e marked = some_is m x (sym here.mark ∙ ap (mark_at ms) (sym e) ∙ marked.mark)

    same_instr : (p : ℕ) (x : Mark) (j : Instr) → p ≡ n → IsMarked is ms p x j → i ≡ j
    same_instr p x j e marked = some_is i j (sym here.stands ∙ ap (nth is) (sym e) ∙ marked.stands)

    right_by : (p : ℕ) (x : Mark) (j : Instr) → IsMarked is ms p x j → (p < n) ⊎ (p ≡ n) → wrong ks thread is p x j ≡ None
    right_by p x j marked (inl h) = seen.right p x j h marked
    right_by p x j marked (inr e) = ap (λ q. wrong ks thread is q x j) e ∙ ap (λ y. wrong ks thread is n y j) (sym (same_mark p x j e marked)) ∙ ap (wrong ks thread is n m) (sym (same_instr p x j e marked)) ∙ right

    from_by : (flag : Flag) → (has flag kind ≡ true) ⊎ (has flag (seen_from m.txs (kind_of ks i)) ≡ true) → (p : ℕ) × (x : Mark) × (j : Instr) × IsMarked is ms p x j × (has flag (seen_from x.txs (kind_of ks j)) ≡ true)
    from_by flag (inl h) = seen.from flag h
    from_by flag (inr h) = (n, m, i, here, h)

    all_by : (flag : Flag) (p : ℕ) (x : Mark) (j : Instr) → IsMarked is ms p x j → (p < n) ⊎ (p ≡ n) → has flag (seen_from x.txs (kind_of ks j)) ≡ true → (has flag kind ≡ true) ⊎ (has flag (seen_from m.txs (kind_of ks i)) ≡ true)
    all_by flag p x j marked (inl below) h = inl (seen.all flag p x j below marked h)
    all_by flag p x j marked (inr e) h = inr (ap (λ (y : Mark). has flag (seen_from y.txs (kind_of ks i))) (same_mark p x j e marked) ∙ ap (λ k. has flag (seen_from x.txs (kind_of ks k))) (same_instr p x j e marked) ∙ h)

    or_by : (a b : Bool) → (a ≡ true) ⊎ (b ≡ true) → (a || b) ≡ true
    or_by a b (inl h) = or_left a b h
    or_by a b (inr h) = or_right a b h

    seen_here : IsSeen ks thread is ms (n + 1) (joined kind (seen_from m.txs (kind_of ks i)))
    seen_here =
        record {
          right = λ p x j below marked. right_by p x j marked (lt_or p n below);
          from = λ flag h. from_by flag (either (has flag kind) (has flag (seen_from m.txs (kind_of ks i))) (sym (of_both flag kind (seen_from m.txs (kind_of ks i))) ∙ h));
          all = λ flag p x j below marked h. of_both flag kind (seen_from m.txs (kind_of ks i)) ∙ or_by (has flag kind) (has flag (seen_from m.txs (kind_of ks i))) (all_by flag p x j marked (lt_or p n below) h);
        }

  judged_right : (n : ℕ) (kind after : Kind) (m : Mark) (i : Instr) → IsSeen ks thread is ms n kind → IsMarked is ms n m i → (w : Option Refusal) → wrong ks thread is n m i ≡ w → unless_wrong w (joined kind (seen_from m.txs (kind_of ks i))) ≡ Ok after → IsSeen ks thread is ms (n + 1) after
  judged_right n kind after m i seen here None is_w e = subst (λ k. IsSeen ks thread is ms (n + 1) k) (ok_is (joined kind (seen_from m.txs (kind_of ks i))) after e) (seen_here n kind seen m i here is_w)
  judged_right n kind after m i seen here (Some r) is_w e = absurd cc

  -- one place more
  pub seen_on : (n : ℕ) (kind after : Kind) (o : Option Mark) (i : Instr) → IsSeen ks thread is ms n kind → mark_at ms n ≡ o → nth is n ≡ Some i → judged ks thread is n o i kind ≡ Ok after → IsSeen ks thread is ms (n + 1) after
  seen_on n kind after None i seen is_o stands e = subst (λ k. IsSeen ks thread is ms (n + 1) k) (ok_is kind after e) (seen_past n kind seen is_o)
  seen_on n kind after (Some m) i seen is_o stands e = judged_right n kind after m i seen (record { mark = is_o; stands = stands }) (wrong ks thread is n m i) refl e

  wrong_by : (n : ℕ) (kind : Kind) (r : Refusal) (m : Mark) (i : Instr) → IsMarked is ms n m i → (w : Option Refusal) → wrong ks thread is n m i ≡ w → unless_wrong w (joined kind (seen_from m.txs (kind_of ks i))) ≡ Err r → IsWrong ks thread is ms r
  wrong_by n kind r m i here None is_w e = absurd cc
  wrong_by n kind r m i here (Some x) is_w e = (n, m, i, here, is_w ∙ ap Some (err_is x r e))

  -- what is wrong there
  pub wrong_on : (n : ℕ) (kind : Kind) (r : Refusal) (o : Option Mark) (i : Instr) → mark_at ms n ≡ o → nth is n ≡ Some i → judged ks thread is n o i kind ≡ Err r → IsWrong ks thread is ms r
  wrong_on n kind r None i is_o stands e = absurd cc
  wrong_on n kind r (Some m) i is_o stands e = wrong_by n kind r m i (record { mark = is_o; stands = stands }) (wrong ks thread is n m i) refl e
