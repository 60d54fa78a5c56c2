-- Where the final writes are made, the commutes of each loose ref have a value.
use Rattle.std.proofs.Common.{◌≡◌, ℕ, Bool, true, false, ◌||◌, ◌==◌, List, [], ◌∷◌, ◌++◌, Some, refl, sym, ap, ◌∙◌, subst, if◌then◌else◌}
use Rattle.std.proofs.lemmas.Bool.{eqb-true, false≢true}
use Rattle.txs_world_protocol.specs.Ask.{Writes, buffered, with_write}
use Rattle.txs_value_data.specs.declared.fault.Span.{Span}
use Rattle.txs_value_cell.specs.Cells.{World, Validators}
use Rattle.txs_frame.specs.Frame.{PlainTxFrame, has_number, commuted, set_writes, commutes_of, by_ref}
use Rattle.txs_frame.specs.declared.frame.Commute.{Commute}
use Rattle.txs_value_data.specs.declared.op.Callee.{Callee}
use Rattle.txs_tree_meaning.specs.Meaning.{Completion, Completes, Recurs, Faults, Retries, Waits, OutOfTurns, Invalid, bind, Applies}
use Rattle.txs_tree_meaning.specs.Transaction.{value_or, valued, merged, redone, commute_writes, if_accepted, final_writes}
use Rattle.txs_value_data.specs.declared.value.CellId.{CellId}
use Rattle.txs_value_data.specs.declared.value.Value.{Value}
use Rattle.txs_value_data.specs.declared.value.Value.TheVariants.{Nil}
use Rattle.txs_theorem_threads.proofs.Quiet.{carried, Each, AllCommutes}
use Rattle.txs_theorem_serial.proofs.Depth.{HasValue}
use Rattle.txs_theorem_threads.proofs.Owned.{own_found, other_found}
use Rattle.txs_theorem_serial.proofs.Nearly.{remade}

-- what has a value had one at its first part
pub splits : {S A B : Type 0} (x : Completion S A) (go : A → S → Completion S B) (v : B) (t : S) → bind x go ≡ Completes v t → (w : A) × (s : S) × (x ≡ Completes w s) × (go w s ≡ Completes v t)
splits (Completes a s) go v t h = (a, s, refl, h)
splits (Recurs vs s) go v t h = absurd (subst HasValue (sym h) tt)
splits (Faults f s) go v t h = absurd (subst HasValue (sym h) tt)
splits (Retries s) go v t h = absurd (subst HasValue (sym h) tt)
splits (Waits s) go v t h = absurd (subst HasValue (sym h) tt)
splits (OutOfTurns s) go v t h = absurd (subst HasValue (sym h) tt)
splits Invalid go v t h = absurd (subst HasValue (sym h) tt)

-- a commute of this ref, or of another, with such a callee
abbrev IsOf : (Callee → Type 0) → Bool → ℕ → Commute → Type 0
IsOf P b k c = ((c.cell.number == k) ≡ b) × P c.callee

of_each : (P : Callee → Type 0) (k : ℕ) (cs : List Commute) → AllCommutes P cs → Each (IsOf P true k) (commutes_of k cs)
of_each P k [] h = tt
of_each P k (c ∷ cs) h = test (c.cell.number == k) refl (of_each P k cs h.1)
  where
    test : (b : Bool) → (c.cell.number == k) ≡ b → Each (IsOf P true k) (commutes_of k cs) → Each (IsOf P true k) (if b then c ∷ commutes_of k cs else commutes_of k cs)
    test true e rest = ((e, h.0), rest)
    test false e rest = rest

-- those of another ref
far_each : (P : Callee → Type 0) (j k : ℕ) → (j == k) ≡ false → (cs : List Commute) → Each (IsOf P true j) cs → Each (IsOf P false k) cs
far_each P j k far [] h = tt
far_each P j k far (c ∷ cs) h = ((ap (λ n. n == k) (eqb-true c.cell.number j h.0.0) ∙ far, h.0.1), far_each P j k far cs h.1)

valued_found : (cs : List CellId) (C : World) (k : ℕ) → has_number cs k ≡ true → buffered (valued cs C) k ≡ Some (C k)
valued_found [] C k h = absurd (false≢true h)
valued_found (c ∷ cs) C k h = test (c.number == k) refl h (valued_found cs C k)
  where
    test : (b : Bool) → (c.number == k) ≡ b → (b || has_number cs k) ≡ true → (has_number cs k ≡ true → buffered (valued cs C) k ≡ Some (C k)) → (if b then Some (C c.number) else buffered (valued cs C) k) ≡ Some (C k)
    test true e g rest = ap (λ n. Some (C n)) (eqb-true c.number k e)
    test false e g rest = rest g

module _ {S : Type 0} (P : Callee → Type 0) (validators : Validators) (span : Span) (f : Applies S) (p q : Applies (Unit {0})) (left : (c : Callee) (us : List Value) (s : S) → P c → f c us s ≡ carried s (p c us tt))
    (forth : (c : Callee) (us : List Value) (v : Value) → P c → p c us tt ≡ Completes v tt → q c us tt ≡ Completes v tt) where
  -- the first commute has a value, and the others were made after it
  first : (c : Commute) (cs : List Commute) (ws xs : Writes) (s t : S) → P c.callee → redone f (c ∷ cs) ws s ≡ Completes xs t
      → (v : Value) × (q c.callee (value_or (buffered ws c.cell.number) Nil ∷ c.args) tt ≡ Completes v tt) × (redone f cs (with_write ws c.cell v) s ≡ Completes xs t)
  first c cs ws xs s t suits h =
      let us : List Value = value_or (buffered ws c.cell.number) Nil ∷ c.args in
      part (p c.callee us tt) refl (sym (ap (λ x. bind x (λ v s1. redone f cs (with_write ws c.cell v) s1)) (left c.callee us s suits)) ∙ h)
    where
      part : (z : Completion (Unit {0}) Value) → p c.callee (value_or (buffered ws c.cell.number) Nil ∷ c.args) tt ≡ z → bind (carried s z) (λ v s1. redone f cs (with_write ws c.cell v) s1) ≡ Completes xs t
          → (v : Value) × (q c.callee (value_or (buffered ws c.cell.number) Nil ∷ c.args) tt ≡ Completes v tt) × (redone f cs (with_write ws c.cell v) s ≡ Completes xs t)
      part (Completes v tt) e g = (v, forth c.callee (value_or (buffered ws c.cell.number) Nil ∷ c.args) v suits e, g)
      part (Recurs vs u) e g = absurd (subst HasValue (sym g) tt)
      part (Faults x u) e g = absurd (subst HasValue (sym g) tt)
      part (Retries u) e g = absurd (subst HasValue (sym g) tt)
      part (Waits u) e g = absurd (subst HasValue (sym g) tt)
      part (OutOfTurns u) e g = absurd (subst HasValue (sym g) tt)
      part Invalid e g = absurd (subst HasValue (sym g) tt)

  -- commutes of one ref
  ones : (k : ℕ) (as1 rest : List Commute) (ws xs : Writes) (v : Value) (s t : S) → Each (IsOf P true k) as1 → buffered ws k ≡ Some v → redone f (as1 ++ rest) ws s ≡ Completes xs t → (u : Value) × (remade q as1 v ≡ Completes u tt)
  ones k [] rest ws xs v s t all own h = (v, refl)
  ones k (c ∷ cs) rest ws xs v s t all own h =
      let r = first c (cs ++ rest) ws xs s t all.0.1 h in
      let number : c.cell.number ≡ k = eqb-true c.cell.number k all.0.0 in
      let there : buffered ws c.cell.number ≡ Some v = ap (λ n. buffered ws n) number ∙ own in
      let applied : q c.callee (v ∷ c.args) tt ≡ Completes r.0 tt = sym (ap (λ o. q c.callee (value_or o Nil ∷ c.args) tt) there) ∙ r.1 in
      let next = ones k cs rest (with_write ws c.cell r.0) xs r.0 s t all.1 (subst (λ n. buffered (with_write ws c.cell r.0) n ≡ Some r.0) number (own_found ws c.cell r.0)) r.2 in
      (next.0, ap (λ x. bind x (λ w u. remade q cs w)) applied ∙ next.1)

  -- commutes of other refs leave this one
  skips : (k : ℕ) (as1 rest : List Commute) (ws xs : Writes) (s t : S) → Each (IsOf P false k) as1 → redone f (as1 ++ rest) ws s ≡ Completes xs t → (ys : Writes) × (buffered ys k ≡ buffered ws k) × (redone f rest ys s ≡ Completes xs t)
  skips k [] rest ws xs s t all h = (ws, refl, h)
  skips k (c ∷ cs) rest ws xs s t all h =
      let r = first c (cs ++ rest) ws xs s t all.0.1 h in
      let next = skips k cs rest (with_write ws c.cell r.0) xs s t all.1 r.2 in
      (next.0, next.1 ∙ other_found ws c.cell r.0 k all.0.0, next.2)

  phased : (cs : List Commute) → AllCommutes P cs → (ds : List CellId) (k : ℕ) (ws xs : Writes) (v : Value) (s t : S) → has_number ds k ≡ true → buffered ws k ≡ Some v → redone f (by_ref ds cs) ws s ≡ Completes xs t → (u : Value) × (remade q (commutes_of k cs) v ≡ Completes u tt)
  phased cs suits [] k ws xs v s t there own h = absurd (false≢true there)
  phased cs suits (d ∷ ds) k ws xs v s t there own h = test (d.number == k) refl there (λ ys g o. phased cs suits ds k ys xs v s t g o)
    where
      test : (b : Bool) → (d.number == k) ≡ b → (b || has_number ds k) ≡ true
          → ((ys : Writes) → has_number ds k ≡ true → buffered ys k ≡ Some v → redone f (by_ref ds cs) ys s ≡ Completes xs t → (u : Value) × (remade q (commutes_of k cs) v ≡ Completes u tt)) → (u : Value) × (remade q (commutes_of k cs) v ≡ Completes u tt)
      test true e g next =
          let number : d.number ≡ k = eqb-true d.number k e in
          ones k (commutes_of k cs) (by_ref ds cs) ws xs v s t (of_each P k cs suits) own (subst (λ n. redone f (commutes_of n cs ++ by_ref ds cs) ws s ≡ Completes xs t) number h)
      test false e g next =
          let r = skips k (commutes_of d.number cs) (by_ref ds cs) ws xs s t (far_each P d.number k e (commutes_of d.number cs) (of_each P d.number cs suits)) h in
          next r.0 g (r.1 ∙ own) r.2

  -- the commutes of each loose ref, from the world's value on
  pub remakes : (w : PlainTxFrame) (C : World) (xs : Writes) (s t : S) → AllCommutes P w.commutes → final_writes f validators span w C s ≡ Completes xs t → (k : ℕ) → has_number (commuted w) k ≡ true → (u : Value) × (remade q (commutes_of k w.commutes) (C k) ≡ Completes u tt)
  remakes w C xs s t suits h k there =
      let r = splits (commute_writes f w C s) (λ ws s1. if_accepted f validators span (merged (set_writes w) ws) s1) xs t h in
      phased w.commutes suits (commuted w) k (valued (commuted w) C) r.0 (C k) s r.1 there (valued_found (commuted w) C k there) r.2
