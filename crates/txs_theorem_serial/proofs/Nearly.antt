-- What of a transaction's state is the same on two worlds. A ref that was commuted and not set is loose: its value may differ, since
-- nobody looks at it but the commutes that come after.
use Rattle.std.proofs.Common.{◌≡◌, ℕ, Bool, true, false, ◌||◌, ◌==◌, List, [], ◌∷◌, ◌++◌, append-nil, Option, Some, None, is_some, refl, sym, ap, ◌∙◌, subst, if◌then◌else◌}
use Rattle.std.specs.Prelude.{nat_lt}
use Rattle.std.proofs.lemmas.Bool.{eqb-true}
use Rattle.txs_world_protocol.specs.Ask.{Writes, buffered, with_write}
use Rattle.txs_value_cell.specs.Cells.{World}
use Rattle.txs_frame.specs.Frame.{with_cell, has_number, outside_of, refs_of, commutes_of, writes_to}
use Rattle.txs_frame.specs.declared.frame.Commute.{Commute}
use Rattle.txs_frame.proofs.Laws.{set_not_commuted}
use Rattle.txs_tree_meaning.specs.Meaning.{Completion, Completes, Recurs, Faults, Retries, Waits, OutOfTurns, Invalid, bind, Applies}
use Rattle.txs_value_data.specs.declared.value.CellId.{CellId}
use Rattle.txs_value_data.specs.declared.value.Value.{Value}
use Rattle.txs_theorem_threads.proofs.Owned.{others}
use Rattle.txs_theorem_serial.proofs.Depth.{HasValue}
use Rattle.txs_theorem_serial.proofs.Finding.{true_false, stays, kept_outside, refs_more, of_append}

-- ---- commutes that are made again

-- commutes of one ref, one after the other, from a value on
abbrev pub remade : Applies (Unit {0}) → List Commute → Value → Completion (Unit {0}) Value
remade q [] v = Completes v tt
remade q (c ∷ cs) v = bind (q c.callee (v ∷ c.args) tt) (λ w s. remade q cs w)

pub remade_append : (q : Applies (Unit {0})) (cs ds : List Commute) (v : Value) → remade q (cs ++ ds) v ≡ bind (remade q cs v) (λ w s. remade q ds w)
remade_append q [] ds v = refl
remade_append q (c ∷ cs) ds v = go (λ w. remade_append q cs ds w) (q c.callee (v ∷ c.args) tt)
  where
    go : ((w : Value) → remade q (cs ++ ds) w ≡ bind (remade q cs w) (λ u s. remade q ds u)) → (x : Completion (Unit {0}) Value) → bind x (λ w s. remade q (cs ++ ds) w) ≡ bind (bind x (λ w s. remade q cs w)) (λ w s. remade q ds w)
    go rest (Completes w u) = rest w
    go rest (Recurs vs u) = refl
    go rest (Faults f u) = refl
    go rest (Retries u) = refl
    go rest (Waits u) = refl
    go rest (OutOfTurns u) = refl
    go rest Invalid = refl

-- what has a value had one at its first part
pub bind_inverts : {A B : Type 0} (x : Completion (Unit {0}) A) (go : A → Unit {0} → Completion (Unit {0}) B) (v : B) → bind x go ≡ Completes v tt → (w : A) × (x ≡ Completes w tt) × (go w tt ≡ Completes v tt)
bind_inverts (Completes a tt) go v h = (a, refl, h)
bind_inverts (Recurs vs u) go v h = absurd (subst HasValue (sym h) tt)
bind_inverts (Faults f u) go v h = absurd (subst HasValue (sym h) tt)
bind_inverts (Retries u) go v h = absurd (subst HasValue (sym h) tt)
bind_inverts (Waits u) go v h = absurd (subst HasValue (sym h) tt)
bind_inverts (OutOfTurns u) go v h = absurd (subst HasValue (sym h) tt)
bind_inverts Invalid go v h = absurd (subst HasValue (sym h) tt)

abbrev value_in : {S A : Type 0} → A → Completion S A → A
value_in d (Completes a s) = a
value_in d _ = d

abbrev given : {A : Type 0} → A → Completion (Unit {0}) A
given a = Completes a tt

pub one_value : {A : Type 0} (v w : A) → given v ≡ given w → v ≡ w
one_value v w h = ap (value_in v) h

-- ---- own values

-- the same refs, with the same values where they aren't loose
abbrev pub AlikeWrites : (ℕ → Bool) → Writes → Writes → Type 0
AlikeWrites L [] [] = Unit {0}
AlikeWrites L (w ∷ ws) (x ∷ xs) = (w.0 ≡ x.0) × (L w.0.number ≡ false → w.1 ≡ x.1) × AlikeWrites L ws xs
AlikeWrites L _ _ = ⊥

pub weaker : (L M : ℕ → Bool) → ((k : ℕ) → M k ≡ false → L k ≡ false) → (ws xs : Writes) → AlikeWrites L ws xs → AlikeWrites M ws xs
weaker L M h [] [] a = tt
weaker L M h [] (x ∷ xs) a = absurd a
weaker L M h (w ∷ ws) [] a = absurd a
weaker L M h (w ∷ ws) (x ∷ xs) a = (a.0, λ e. a.1 (h w.0.number e), weaker L M h ws xs a.2)

-- neither has one, or both have, and the same where it isn't loose
abbrev pub SameOwn : Bool → Option Value → Option Value → Type 0
SameOwn l None None = Unit {0}
SameOwn l (Some v) (Some u) = l ≡ false → v ≡ u
SameOwn l _ _ = ⊥

pub alike_own : (L : ℕ → Bool) (ws xs : Writes) (k : ℕ) → AlikeWrites L ws xs → SameOwn (L k) (buffered ws k) (buffered xs k)
alike_own L [] [] k a = tt
alike_own L [] (x ∷ xs) k a = absurd a
alike_own L (w ∷ ws) [] k a = absurd a
alike_own L (w ∷ ws) (x ∷ xs) k a =
    subst (λ (d : CellId). SameOwn (L k) (buffered (w ∷ ws) k) (if d.number == k then Some x.1 else buffered xs k)) a.0 (test (w.0.number == k) refl (alike_own L ws xs k a.2))
  where
    test : (b : Bool) → (w.0.number == k) ≡ b → SameOwn (L k) (buffered ws k) (buffered xs k) → SameOwn (L k) (if b then Some w.1 else buffered ws k) (if b then Some x.1 else buffered xs k)
    test true e rest = λ l. a.1 (ap L (eqb-true w.0.number k e) ∙ l)
    test false e rest = rest

pub alike_write : (L : ℕ → Bool) (c : CellId) (v u : Value) → (L c.number ≡ false → v ≡ u) → (ws xs : Writes) → AlikeWrites L ws xs → AlikeWrites L (with_write ws c v) (with_write xs c u)
alike_write L c v u e [] [] a = (refl, e, tt)
alike_write L c v u e [] (x ∷ xs) a = absurd a
alike_write L c v u e (w ∷ ws) [] a = absurd a
alike_write L c v u e (w ∷ ws) (x ∷ xs) a =
    subst (λ (d : CellId). AlikeWrites L (with_write (w ∷ ws) c v) (if d.number == c.number then (c, u) ∷ xs else if nat_lt c.number d.number then (c, u) ∷ (d, x.1) ∷ xs else (d, x.1) ∷ with_write xs c u)) a.0
    (test (w.0.number == c.number) (nat_lt c.number w.0.number) (alike_write L c v u e ws xs a.2))
  where
    test : (b l : Bool) → AlikeWrites L (with_write ws c v) (with_write xs c u)
        → AlikeWrites L (if b then (c, v) ∷ ws else if l then (c, v) ∷ w ∷ ws else w ∷ with_write ws c v) (if b then (c, u) ∷ xs else if l then (c, u) ∷ (w.0, x.1) ∷ xs else (w.0, x.1) ∷ with_write xs c u)
    test true l rest = (refl, e, a.2)
    test false true rest = (refl, e, (refl, a.1, a.2))
    test false false rest = (refl, a.1, rest)

-- of refs that aren't loose the writes are the same
pub alike_sets : (L : ℕ → Bool) (ds : List CellId) → ((k : ℕ) → has_number ds k ≡ true → L k ≡ false) → (ws xs : Writes) → AlikeWrites L ws xs → writes_to ds ws ≡ writes_to ds xs
alike_sets L ds h [] [] a = refl
alike_sets L ds h [] (x ∷ xs) a = absurd a
alike_sets L ds h (w ∷ ws) [] a = absurd a
alike_sets L ds h (w ∷ ws) (x ∷ xs) a =
    subst (λ (d : CellId). writes_to ds (w ∷ ws) ≡ (if has_number ds d.number then (d, x.1) ∷ writes_to ds xs else writes_to ds xs)) a.0 (test (has_number ds w.0.number) refl (alike_sets L ds h ws xs a.2))
  where
    test : (b : Bool) → has_number ds w.0.number ≡ b → writes_to ds ws ≡ writes_to ds xs → (if b then w ∷ writes_to ds ws else writes_to ds ws) ≡ (if b then (w.0, x.1) ∷ writes_to ds xs else writes_to ds xs)
    test true e rest = ap (λ l. w ∷ l) rest ∙ ap (λ z. (w.0, z) ∷ writes_to ds xs) (a.1 (h w.0.number e))
    test false e rest = rest

-- ---- loose refs

abbrev pub loose : List CellId → List Commute → ℕ → Bool
loose sets cs k = has_number (outside_of sets (refs_of cs)) k

-- one that is set isn't
pub set_tight : (sets : List CellId) (cs : List Commute) (k : ℕ) → has_number sets k ≡ true → loose sets cs k ≡ false
set_tight sets cs k h = set_not_commuted sets (refs_of cs) k h

-- one that isn't set is, if it was commuted
pub unset_loose : (sets : List CellId) (cs : List Commute) (k : ℕ) → has_number sets k ≡ false → loose sets cs k ≡ has_number (refs_of cs) k
unset_loose sets cs k h = kept_outside sets (refs_of cs) k h

-- a loose one isn't set, and was commuted
pub loose_unset : (sets : List CellId) (cs : List Commute) (k : ℕ) → loose sets cs k ≡ true → has_number sets k ≡ false
loose_unset sets cs k h = test (has_number sets k) refl
  where
    test : (b : Bool) → has_number sets k ≡ b → b ≡ false
    test true e = absurd (true_false (sym h ∙ set_tight sets cs k e))
    test false e = refl

pub loose_commuted : (sets : List CellId) (cs : List Commute) (k : ℕ) → loose sets cs k ≡ true → has_number (refs_of cs) k ≡ true
loose_commuted sets cs k h = sym (unset_loose sets cs k (loose_unset sets cs k h)) ∙ h

-- what wasn't there after one joined wasn't there before
unjoined : (ds : List CellId) (c : CellId) (k : ℕ) → has_number (with_cell ds c) k ≡ false → has_number ds k ≡ false
unjoined ds c k h = test (has_number ds k) refl
  where
    test : (b : Bool) → has_number ds k ≡ b → b ≡ false
    test true e = absurd (true_false (sym (stays ds c k e) ∙ h))
    test false e = refl

-- a number that is among them is none that isn't
pub apart : (ds : List CellId) (c : CellId) (k : ℕ) → has_number ds c.number ≡ false → has_number ds k ≡ true → (c.number == k) ≡ false
apart ds c k out there = test (c.number == k) refl
  where
    test : (b : Bool) → (c.number == k) ≡ b → b ≡ false
    test true e = absurd (true_false (sym there ∙ sym (ap (λ n. has_number ds n) (eqb-true c.number k e)) ∙ out))
    test false e = refl

module _ (sets : List CellId) (cs : List Commute) (k : ℕ) where
  -- where a ref is set that wasn't commuted, the loose ones are those that were
  pub loose_after_set : (c : CellId) → has_number (refs_of cs) c.number ≡ false → loose sets cs k ≡ true → loose (with_cell sets c) cs k ≡ true
  loose_after_set c out h =
      let far = apart (refs_of cs) c k out (loose_commuted sets cs k h) in
      unset_loose (with_cell sets c) cs k (others sets c k far ∙ loose_unset sets cs k h) ∙ loose_commuted sets cs k h

  pub loose_before_set : (c : CellId) → loose (with_cell sets c) cs k ≡ true → loose sets cs k ≡ true
  loose_before_set c h =
      unset_loose sets cs k (unjoined sets c k (loose_unset (with_cell sets c) cs k h)) ∙ loose_commuted (with_cell sets c) cs k h

  -- where a ref is commuted, it may join them
  pub loose_after_commute : (x : Commute) → loose sets cs k ≡ true → loose sets (cs ++ x ∷ []) k ≡ true
  loose_after_commute x h =
      unset_loose sets (cs ++ x ∷ []) k (loose_unset sets cs k h)
      ∙ ap (λ ds. has_number ds k) (refs_more cs x)
      ∙ stays (refs_of cs) x.cell k (loose_commuted sets cs k h)

  pub loose_before_commute : (x : Commute) → (x.cell.number == k) ≡ false → loose sets (cs ++ x ∷ []) k ≡ true → loose sets cs k ≡ true
  loose_before_commute x far h =
      unset_loose sets cs k (loose_unset sets (cs ++ x ∷ []) k h)
      ∙ sym (others (refs_of cs) x.cell k far)
      ∙ sym (ap (λ ds. has_number ds k) (refs_more cs x))
      ∙ loose_commuted sets (cs ++ x ∷ []) k h

  -- the commutes of a ref, with one more of it, or of another
  pub of_same : (x : Commute) → (x.cell.number == k) ≡ true → commutes_of k (cs ++ x ∷ []) ≡ commutes_of k cs ++ x ∷ []
  of_same x e = of_append k cs (x ∷ []) ∙ ap (λ b. commutes_of k cs ++ (if b then x ∷ [] else [])) e

  pub of_other : (x : Commute) → (x.cell.number == k) ≡ false → commutes_of k (cs ++ x ∷ []) ≡ commutes_of k cs
  of_other x e = of_append k cs (x ∷ []) ∙ ap (λ b. commutes_of k cs ++ (if b then x ∷ [] else [])) e ∙ append-nil (commutes_of k cs)

-- ---- states

-- A state to which the transaction may come on the second world too: no commute's result was used, the worlds agree on what was
-- read, and the commutes of each loose ref have a value on the second world.
pub record Fine (q : Applies (Unit {0})) (R C : World) (used : Bool) (reads sets : List CellId) (cs : List Commute) : Type 0 where
  pub unused : used ≡ false
  pub agree : (k : ℕ) → has_number reads k ≡ true → R k ≡ C k
  pub remakes : (k : ℕ) → loose sets cs k ≡ true → (v : Value) × (remade q (commutes_of k cs) (C k) ≡ Completes v tt)

-- The own values on the second world, beside those on the first: of what was set the same, of a loose ref what its commutes make of
-- the second world.
pub record Near (q : Applies (Unit {0})) (C : World) (values : Writes) (sets : List CellId) (cs : List Commute) (xs : Writes) : Type 0 where
  pub kept : (k : ℕ) → is_some (buffered values k) ≡ (has_number sets k || has_number (refs_of cs) k)
  pub alike : AlikeWrites (loose sets cs) values xs
  pub remakes : (k : ℕ) → loose sets cs k ≡ true → (v : Value) × (buffered xs k ≡ Some v) × (remade q (commutes_of k cs) (C k) ≡ Completes v tt)
