-- Parts of a transaction's body on two worlds. Where the first world's part comes to a fine state, the second world's comes to the
-- same state but for the values of loose refs, with the same result where that is wanted.
use Rattle.std.proofs.Common.{◌≡◌, ℕ, zero, suc, Bool, true, false, ◌||◌, ◌==◌, List, [], ◌∷◌, ◌++◌, Option, Some, None, is_some, Result, Ok, Err, length, nat_eq, refl, sym, ap, ◌∙◌, subst, if◌then◌else◌}
use Rattle.std.proofs.lemmas.Bool.{eqb-true, false≢true}
use Rattle.txs_world_protocol.specs.Ask.{Writes, buffered, with_write}
use Rattle.txs_value_cell.specs.Cells.{World}
use Rattle.txs_value_cell.specs.declared.action.Action.{Action}
use Rattle.txs_frame.specs.Frame.{with_cell, has_number, refs_of, commutes_of, is_commuted, set_ref, ensure_ref, commute_ref, hold_send}
use Rattle.txs_frame.specs.declared.frame.Commute.{Commute}
use Rattle.txs_value_apply.specs.Truth.{choose}
use Rattle.txs_value_data.specs.declared.fault.FaultKind.{FaultKind}
use Rattle.txs_value_data.specs.declared.fault.FaultKind.TheVariants.{SetAfterCommute}
use Rattle.txs_value_data.specs.declared.fault.Span.{Span}
use Rattle.txs_value_data.specs.declared.op.Callee.{Callee}
use Rattle.txs_value_cell.specs.declared.form.LookForm.{LookForm}
use Rattle.txs_value_cell.specs.declared.form.LookForm.TheVariants.{Deref, Ensure}
use Rattle.txs_value_cell.specs.declared.form.PutForm.{PutForm}
use Rattle.txs_value_cell.specs.declared.form.PutForm.TheVariants.{RefSet, Reset}
use Rattle.txs_value_cell.specs.declared.form.UpdateForm.{UpdateForm}
use Rattle.txs_value_cell.specs.declared.form.UpdateForm.TheVariants.{Alter, Commute as CommuteForm, Swap}
use Rattle.txs_tree_meaning.specs.Meaning.{Completion, Completes, Recurs, Faults, Retries, Waits, OutOfTurns, Invalid, bind, again, closed, give, result_of, Applies, turns}
use Rattle.txs_tree_meaning.specs.Transaction.{TxState, value_or, own, current, noted, taken, done_as, tx_look, tx_put, tx_update}
use Rattle.txs_tree_meaning.specs.Tree.{Mark}
use Rattle.txs_value_data.specs.declared.value.CellId.{CellId}
use Rattle.txs_value_data.specs.declared.value.Value.{Value}
use Rattle.txs_value_data.specs.declared.value.Value.TheVariants.{Nil, Truth, Int, Key, Text, Vector, Cell}
use Rattle.txs_theorem_threads.proofs.Functions.{or_first, or_second}
use Rattle.txs_theorem_threads.proofs.Owned.{itself, own_found, other_found, joined, others}
use Rattle.txs_theorem_threads.proofs.Quiet.{carried, AllCommutes, commutes_both}
use Rattle.txs_theorem_serial.proofs.Finding.{true_false, stays, refs_more, no_commutes}
use Rattle.txs_theorem_serial.proofs.Nearly.{remade, remade_append, bind_inverts, one_value, weaker, SameOwn, alike_own, alike_write, loose, set_tight, unset_loose, loose_after_set, loose_before_set, loose_after_commute, loose_before_commute, of_same, of_other, apart, loose_commuted, Fine, Near}

-- the state, with these own values
abbrev pub moved : Writes → TxState → TxState
moved xs s = record s { done = record s.done { values = xs } }

true_or : (a : Bool) → (a || true) ≡ true
true_or true = refl
true_or false = refl

module _ (q : Applies (Unit {0})) (R C : World) (P : Callee → Type 0) where
  abbrev pub FineAt : TxState → Type 0
  FineAt s = Fine q R C s.used s.reads s.done.sets s.done.commutes

  abbrev pub NearAt : TxState → Writes → Type 0
  NearAt s xs = Near q C s.done.values s.done.sets s.done.commutes xs

  -- where it comes to a fine state, it began in one
  abbrev pub Rises : {A : Type 0} → TxState → Completion TxState A → Type 0
  Rises s (Completes a s1) = FineAt s1 → FineAt s
  Rises s (Recurs vs s1) = FineAt s1 → FineAt s
  Rises s _ = Unit {0}

  -- where the first comes to a fine state, the second comes to one near it, with the same value where it is wanted
  abbrev pub Goes : {A : Type 0} → Bool → Completion TxState A → Completion TxState A → Type 0
  Goes {A = A} w (Completes a s1) y = FineAt s1 → (b : A) × (xs : Writes) × (y ≡ Completes b (moved xs s1)) × (w ≡ true → a ≡ b) × NearAt s1 xs
  Goes w (Recurs vs s1) y = FineAt s1 → (xs : Writes) × (y ≡ Recurs vs (moved xs s1)) × NearAt s1 xs
  Goes w _ y = Unit {0}

  -- where each commute has such a callee, each has one after it
  abbrev pub Suits : TxState → Type 0
  Suits s = AllCommutes P s.done.commutes

  abbrev pub Stays : {A : Type 0} → TxState → Completion TxState A → Type 0
  Stays s (Completes a s1) = Suits s → Suits s1
  Stays s (Recurs vs s1) = Suits s → Suits s1
  Stays s _ = Unit {0}

  -- a part of which all three hold
  abbrev pub Carried : {A : Type 0} → Bool → TxState → Completion TxState A → (Writes → Completion TxState A) → Type 0
  Carried w s x Y = Rises s x × ((xs : Writes) → NearAt s xs → Goes w x (Y xs)) × Stays s x

  -- ---- parts behind parts

  rises_on : {A : Type 0} (s s1 : TxState) (z : Completion TxState A) → (FineAt s1 → FineAt s) → Rises s1 z → Rises s z
  rises_on s s1 (Completes a s2) up h = λ f. up (h f)
  rises_on s s1 (Recurs vs s2) up h = λ f. up (h f)
  rises_on s s1 (Faults f s2) up h = tt
  rises_on s s1 (Retries s2) up h = tt
  rises_on s s1 (Waits s2) up h = tt
  rises_on s s1 (OutOfTurns s2) up h = tt
  rises_on s s1 Invalid up h = tt

  stays_on : {A : Type 0} (s s1 : TxState) (z : Completion TxState A) → (Suits s → Suits s1) → Stays s1 z → Stays s z
  stays_on s s1 (Completes a s2) up h = λ f. h (up f)
  stays_on s s1 (Recurs vs s2) up h = λ f. h (up f)
  stays_on s s1 (Faults f s2) up h = tt
  stays_on s s1 (Retries s2) up h = tt
  stays_on s s1 (Waits s2) up h = tt
  stays_on s s1 (OutOfTurns s2) up h = tt
  stays_on s s1 Invalid up h = tt

  goes_on : {A : Type 0} (w : Bool) (s1 : TxState) (z y : Completion TxState A) → Rises s1 z → (FineAt s1 → Goes w z y) → Goes w z y
  goes_on w s1 (Completes a s2) y up h = λ f. h (up f) f
  goes_on w s1 (Recurs vs s2) y up h = λ f. h (up f) f
  goes_on w s1 (Faults f s2) y up h = tt
  goes_on w s1 (Retries s2) y up h = tt
  goes_on w s1 (Waits s2) y up h = tt
  goes_on w s1 (OutOfTurns s2) y up h = tt
  goes_on w s1 Invalid y up h = tt

  pub bind_carried : {A B : Type 0} (w : Bool) (s : TxState) (x : Completion TxState A) (Y : Writes → Completion TxState A) (f g : A → TxState → Completion TxState B)
      → Carried true s x Y → ((a : A) (s1 : TxState) → Carried w s1 (f a s1) (λ xs. g a (moved xs s1))) → Carried w s (bind x f) (λ xs. bind (Y xs) g)
  bind_carried w s (Completes a s1) Y f g h next =
      let later = next a s1 in (
        rises_on s s1 (f a s1) h.0 later.0,
        λ xs near. goes_on w s1 (f a s1) (bind (Y xs) g) later.0 (λ fine.
            let r = h.1 xs near fine in
            subst (λ y. Goes w (f a s1) (bind y g)) (sym r.2) (subst (λ b. Goes w (f a s1) (g b (moved r.1 s1))) (r.3 refl) (later.1 r.1 r.4))),
        stays_on s s1 (f a s1) h.2 later.2,
      )
  bind_carried w s (Recurs vs s1) Y f g h next = (tt, λ xs near. tt, tt)
  bind_carried w s (Faults e s1) Y f g h next = (tt, λ xs near. tt, tt)
  bind_carried w s (Retries s1) Y f g h next = (tt, λ xs near. tt, tt)
  bind_carried w s (Waits s1) Y f g h next = (tt, λ xs near. tt, tt)
  bind_carried w s (OutOfTurns s1) Y f g h next = (tt, λ xs near. tt, tt)
  bind_carried w s Invalid Y f g h next = (tt, λ xs near. tt, tt)

  -- a part whose value is let go
  pub then_carried : {A B : Type 0} (w : Bool) (s : TxState) (x : Completion TxState A) (Y : Writes → Completion TxState A) (f g : TxState → Completion TxState B)
      → Carried false s x Y → ((s1 : TxState) → Carried w s1 (f s1) (λ xs. g (moved xs s1))) → Carried w s (bind x (λ a s1. f s1)) (λ xs. bind (Y xs) (λ a s1. g s1))
  then_carried w s (Completes a s1) Y f g h next =
      let later = next s1 in (
        rises_on s s1 (f s1) h.0 later.0,
        λ xs near. goes_on w s1 (f s1) (bind (Y xs) (λ b t. g t)) later.0 (λ fine.
            let r = h.1 xs near fine in
            subst (λ y. Goes w (f s1) (bind y (λ b t. g t))) (sym r.2) (later.1 r.1 r.4)),
        stays_on s s1 (f s1) h.2 later.2,
      )
  then_carried w s (Recurs vs s1) Y f g h next = (tt, λ xs near. tt, tt)
  then_carried w s (Faults e s1) Y f g h next = (tt, λ xs near. tt, tt)
  then_carried w s (Retries s1) Y f g h next = (tt, λ xs near. tt, tt)
  then_carried w s (Waits s1) Y f g h next = (tt, λ xs near. tt, tt)
  then_carried w s (OutOfTurns s1) Y f g h next = (tt, λ xs near. tt, tt)
  then_carried w s Invalid Y f g h next = (tt, λ xs near. tt, tt)

  pub again_carried : {A : Type 0} (w : Bool) (s : TxState) (x : Completion TxState A) (Y : Writes → Completion TxState A) (f g : List Value → TxState → Completion TxState A)
      → Carried w s x Y → ((vs : List Value) (s1 : TxState) → Carried w s1 (f vs s1) (λ xs. g vs (moved xs s1))) → Carried w s (again x f) (λ xs. again (Y xs) g)
  again_carried w s (Completes a s1) Y f g h next =
      (h.0, λ xs near fine. let r = h.1 xs near fine in (r.0, r.1, ap (λ y. again y g) r.2, r.3, r.4), h.2)
  again_carried w s (Recurs vs s1) Y f g h next =
      let later = next vs s1 in (
        rises_on s s1 (f vs s1) h.0 later.0,
        λ xs near. goes_on w s1 (f vs s1) (again (Y xs) g) later.0 (λ fine.
            let r = h.1 xs near fine in
            subst (λ y. Goes w (f vs s1) (again y g)) (sym r.1) (later.1 r.0 r.2)),
        stays_on s s1 (f vs s1) h.2 later.2,
      )
  again_carried w s (Faults e s1) Y f g h next = (tt, λ xs near. tt, tt)
  again_carried w s (Retries s1) Y f g h next = (tt, λ xs near. tt, tt)
  again_carried w s (Waits s1) Y f g h next = (tt, λ xs near. tt, tt)
  again_carried w s (OutOfTurns s1) Y f g h next = (tt, λ xs near. tt, tt)
  again_carried w s Invalid Y f g h next = (tt, λ xs near. tt, tt)

  pub closed_carried : {A : Type 0} (w : Bool) (s : TxState) (x : Completion TxState A) (Y : Writes → Completion TxState A) → Carried w s x Y → Carried w s (closed x) (λ xs. closed (Y xs))
  closed_carried w s x Y h = again_carried w s x Y (λ vs t. Invalid) (λ vs t. Invalid) h (λ vs s1. (tt, λ xs near. tt, tt))

  -- what holds of a wanted result holds of any
  pub loosened : {A : Type 0} (w : Bool) (s : TxState) (x : Completion TxState A) (Y : Writes → Completion TxState A) → Carried true s x Y → Carried w s x Y
  loosened w s (Completes a s1) Y h = (h.0, λ xs near fine. let r = h.1 xs near fine in (r.0, r.1, r.2, λ e. r.3 refl, r.4), h.2)
  loosened w s (Recurs vs s1) Y h = h
  loosened w s (Faults e s1) Y h = h
  loosened w s (Retries s1) Y h = h
  loosened w s (Waits s1) Y h = h
  loosened w s (OutOfTurns s1) Y h = h
  loosened w s Invalid Y h = h

  pub turns_carried : (w : Bool) (n d : ℕ) (f g : List Value → TxState → Completion TxState Value)
      → ((vs : List Value) (s : TxState) → Carried w s (f vs s) (λ xs. g vs (moved xs s))) → (vs : List Value) (s : TxState) → Carried w s (turns n d f vs s) (λ xs. turns n d g vs (moved xs s))
  turns_carried w zero d f g h vs s = (tt, λ xs near. tt, tt)
  turns_carried w (suc n) d f g h vs s = turn (nat_eq (length vs) d) (λ ws s1. turns_carried w n d f g h ws s1)
    where
      turn : (b : Bool) → ((ws : List Value) (s1 : TxState) → Carried w s1 (turns n d f ws s1) (λ xs. turns n d g ws (moved xs s1)))
          → Carried w s (if b then again (f vs s) (turns n d f) else Invalid) (λ xs. if b then again (g vs (moved xs s)) (turns n d g) else Invalid)
      turn true next = again_carried w s (f vs s) (λ xs. g vs (moved xs s)) (turns n d f) (turns n d g) (h vs s) next
      turn false next = (tt, λ xs near. tt, tt)

  pub choose_carried : (w : Bool) (s : TxState) (v : Value) (x1 x2 : Completion TxState Value) (Y1 Y2 : Writes → Completion TxState Value) → Carried w s x1 Y1 → Carried w s x2 Y2 → Carried w s (choose v x1 x2) (λ xs. choose v (Y1 xs) (Y2 xs))
  choose_carried w s Nil x1 x2 Y1 Y2 h1 h2 = h2
  choose_carried w s (Truth false) x1 x2 Y1 Y2 h1 h2 = h2
  choose_carried w s (Truth true) x1 x2 Y1 Y2 h1 h2 = h1
  choose_carried w s (Int z) x1 x2 Y1 Y2 h1 h2 = h1
  choose_carried w s (Key bs) x1 x2 Y1 Y2 h1 h2 = h1
  choose_carried w s (Text bs) x1 x2 Y1 Y2 h1 h2 = h1
  choose_carried w s (Vector vs) x1 x2 Y1 Y2 h1 h2 = h1
  choose_carried w s (Cell c) x1 x2 Y1 Y2 h1 h2 = h1

  pub value_carried : {A : Type 0} (w : Bool) (s : TxState) (a : A) → Carried w s (Completes a s) (λ xs. Completes a (moved xs s))
  value_carried w s a = (λ f. f, λ xs near fine. (a, xs, refl, λ e. refl, near), λ f. f)

  pub recur_carried : {A : Type 0} (w : Bool) (s : TxState) (vs : List Value) → Carried {A = A} w s (Recurs vs s) (λ xs. Recurs vs (moved xs s))
  recur_carried w s vs = (λ f. f, λ xs near fine. (xs, refl, near), λ f. f)

  pub give_carried : {A : Type 0} (w : Bool) (s : TxState) (o : Option A) → Carried w s (give o s) (λ xs. give o (moved xs s))
  give_carried w s None = (tt, λ xs near. tt, tt)
  give_carried w s (Some a) = value_carried w s a

  pub result_carried : {A : Type 0} (w : Bool) (s : TxState) (r : Result A FaultKind) (span : Span) → Carried w s (result_of r span s) (λ xs. result_of r span (moved xs s))
  result_carried w s (Ok a) span = value_carried w s a
  result_carried w s (Err k) span = (tt, λ xs near. tt, tt)

  -- ---- looks

  taken_rises : (c : CellId) (s : TxState) (o : Option Value) → FineAt (noted c o s) → FineAt s
  taken_rises c s None f = record { unused = f.unused; agree = λ k h. f.agree k (stays s.reads c k h); remakes = f.remakes }
  taken_rises c s (Some v) f = record { unused = or_first s.used (loose s.done.sets s.done.commutes c.number) f.unused; agree = f.agree; remakes = f.remakes }

  taken_goes : (c : CellId) (s : TxState) (xs : Writes) → NearAt s xs → (o p : Option Value) → SameOwn (loose s.done.sets s.done.commutes c.number) o p
      → Goes true (Completes (value_or o (R c.number)) (noted c o s)) (Completes (value_or p (C c.number)) (noted c p (moved xs s)))
  taken_goes c s xs near None None a = λ fine. (C c.number, xs, refl, λ e. fine.agree c.number (joined s.reads c), near)
  taken_goes c s xs near (Some v) (Some u) a = λ fine. (u, xs, refl, λ e. a (or_second s.used (loose s.done.sets s.done.commutes c.number) fine.unused), near)
  taken_goes c s xs near None (Some u) a = absurd a
  taken_goes c s xs near (Some v) None a = absurd a

  taken_stays : (c : CellId) (s : TxState) (o : Option Value) → Suits s → Suits (noted c o s)
  taken_stays c s None f = f
  taken_stays c s (Some v) f = f

  pub taken_carried : (c : CellId) (s : TxState) → Carried true s (taken R c s) (λ xs. taken C c (moved xs s))
  taken_carried c s = (
    taken_rises c s (own s.done c.number),
    λ xs near. taken_goes c s xs near (own s.done c.number) (buffered xs c.number) (alike_own (loose s.done.sets s.done.commutes) s.done.values xs c.number near.alike),
    taken_stays c s (own s.done c.number),
  )

  pub look_carried : (w : Bool) (form : LookForm) (c : CellId) (s : TxState) → Carried w s (tx_look R form c s) (λ xs. tx_look C form c (moved xs s))
  look_carried w Deref c s = loosened w s (taken R c s) (λ xs. taken C c (moved xs s)) (taken_carried c s)
  look_carried w Ensure c s =
      bind_carried w s (taken R c s) (λ xs. taken C c (moved xs s)) (λ v t. Completes v (record t { done = ensure_ref c t.done })) (λ v t. Completes v (record t { done = ensure_ref c t.done })) (taken_carried c s)
      (λ v s1. (λ f. record { unused = f.unused; agree = f.agree; remakes = f.remakes }, λ xs near fine. (v, xs, refl, λ e. refl, near), λ f. f))

  -- ---- sets

  near_set : (c : CellId) (v : Value) (values : Writes) (sets : List CellId) (cs : List Commute) (xs : Writes) → has_number (refs_of cs) c.number ≡ false → Near q C values sets cs xs → Near q C (with_write values c v) (with_cell sets c) cs (with_write xs c v)
  near_set c v values sets cs xs out near = record {
    kept = λ k. kept k (c.number == k) refl;
    alike = alike_write (loose (with_cell sets c) cs) c v v (λ l. refl) values xs (weaker (loose sets cs) (loose (with_cell sets c) cs) (λ k l. tight k (loose sets cs k) refl l) values xs near.alike);
    remakes = λ k l.
        let r = near.remakes k (loose_before_set sets cs k c l) in
        (r.0, other_found xs c v k (apart (refs_of cs) c k out (loose_commuted (with_cell sets c) cs k l)) ∙ r.1, r.2);
  }
    where
      kept : (k : ℕ) (b : Bool) → (c.number == k) ≡ b → is_some (buffered (with_write values c v) k) ≡ (has_number (with_cell sets c) k || has_number (refs_of cs) k)
      kept k true e =
          subst (λ j. is_some (buffered (with_write values c v) j) ≡ (has_number (with_cell sets c) j || has_number (refs_of cs) j)) (eqb-true c.number k e)
          (ap is_some (own_found values c v) ∙ sym (ap (λ b. b || has_number (refs_of cs) c.number) (joined sets c)))
      kept k false e = ap is_some (other_found values c v k e) ∙ near.kept k ∙ sym (ap (λ b. b || has_number (refs_of cs) k) (others sets c k e))

      tight : (k : ℕ) (b : Bool) → loose sets cs k ≡ b → loose (with_cell sets c) cs k ≡ false → b ≡ false
      tight k true e l = absurd (true_false (sym (loose_after_set sets cs k c out e) ∙ l))
      tight k false e l = refl

  fine_set : (c : CellId) (used : Bool) (reads sets : List CellId) (cs : List Commute) → has_number (refs_of cs) c.number ≡ false → Fine q R C used reads (with_cell sets c) cs → Fine q R C used reads sets cs
  fine_set c used reads sets cs out f = record { unused = f.unused; agree = f.agree; remakes = λ k l. f.remakes k (loose_after_set sets cs k c out l) }

  pub set_carried : (w : Bool) (c : CellId) (v : Value) (span : Span) (s : TxState) → Carried w s (done_as (set_ref c v s.done) span v s) (λ xs. done_as (set_ref c v (moved xs s).done) span v (moved xs s))
  set_carried w c v span s = test (is_commuted s.done c.number) refl
    where
      test : (b : Bool) → is_commuted s.done c.number ≡ b
          → Carried w s (done_as (if b then Err SetAfterCommute else Ok (record s.done { values = with_write s.done.values c v; sets = with_cell s.done.sets c })) span v s)
          (λ xs. done_as (if b then Err SetAfterCommute else Ok (record (moved xs s).done { values = with_write xs c v; sets = with_cell s.done.sets c })) span v (moved xs s))
      test true e = (tt, λ xs near. tt, tt)
      test false e = (
        fine_set c s.used s.reads s.done.sets s.done.commutes e,
        λ xs near fine. (v, with_write xs c v, refl, λ i. refl, near_set c v s.done.values s.done.sets s.done.commutes xs e near),
        λ f. f,
      )

  pub put_carried : (w : Bool) (form : PutForm) (span : Span) (c : CellId) (v : Value) (s : TxState) → Carried w s (tx_put form span c v s) (λ xs. tx_put form span c v (moved xs s))
  put_carried w RefSet span c v s = set_carried w c v span s
  put_carried w Reset span c v s = (tt, λ xs near. tt, tt)

  -- ---- commutes

  fine_commute : (x : Commute) (m : Bool) (used : Bool) (reads sets : List CellId) (cs : List Commute) → Fine q R C (used || m) reads sets (cs ++ x ∷ []) → Fine q R C used reads sets cs
  fine_commute x m used reads sets cs f = record {
    unused = or_first used m f.unused;
    agree = f.agree;
    remakes = λ k l. let r = f.remakes k (loose_after_commute sets cs k x l) in before k r.0 r.1 (x.cell.number == k) refl;
  }
    where
      before : (k : ℕ) (v : Value) → remade q (commutes_of k (cs ++ x ∷ [])) (C k) ≡ Completes v tt → (b : Bool) → (x.cell.number == k) ≡ b → (u : Value) × (remade q (commutes_of k cs) (C k) ≡ Completes u tt)
      before k v h true e =
          let r = bind_inverts (remade q (commutes_of k cs) (C k)) (λ w s. remade q (x ∷ []) w) v (sym (ap (λ l. remade q l (C k)) (of_same sets cs k x e) ∙ remade_append q (commutes_of k cs) (x ∷ []) (C k)) ∙ h) in
          (r.0, r.1)
      before k v h false e = (v, sym (ap (λ l. remade q l (C k)) (of_other sets cs k x e)) ∙ h)

  near_commute : (x : Commute) (v u : Value) (values : Writes) (sets : List CellId) (cs : List Commute) (xs : Writes)
      → (loose sets (cs ++ x ∷ []) x.cell.number ≡ false → v ≡ u) → (loose sets (cs ++ x ∷ []) x.cell.number ≡ true → remade q (commutes_of x.cell.number (cs ++ x ∷ [])) (C x.cell.number) ≡ Completes u tt)
      → Near q C values sets cs xs → Near q C (with_write values x.cell v) sets (cs ++ x ∷ []) (with_write xs x.cell u)
  near_commute x v u values sets cs xs same made near = record {
    kept = λ k. kept k (x.cell.number == k) refl;
    alike = alike_write (loose sets (cs ++ x ∷ [])) x.cell v u same values xs (weaker (loose sets cs) (loose sets (cs ++ x ∷ [])) (λ k l. tight k (loose sets cs k) refl l) values xs near.alike);
    remakes = λ k l. remakes k l (x.cell.number == k) refl;
  }
    where
      kept : (k : ℕ) (b : Bool) → (x.cell.number == k) ≡ b → is_some (buffered (with_write values x.cell v) k) ≡ (has_number sets k || has_number (refs_of (cs ++ x ∷ [])) k)
      kept k true e =
          subst (λ j. is_some (buffered (with_write values x.cell v) j) ≡ (has_number sets j || has_number (refs_of (cs ++ x ∷ [])) j)) (eqb-true x.cell.number k e)
          (ap is_some (own_found values x.cell v)
          ∙ sym (ap (λ ds. has_number sets x.cell.number || has_number ds x.cell.number) (refs_more cs x) ∙ ap (λ b. has_number sets x.cell.number || b) (joined (refs_of cs) x.cell) ∙ true_or (has_number sets x.cell.number)))
      kept k false e =
          ap is_some (other_found values x.cell v k e) ∙ near.kept k ∙ sym (ap (λ ds. has_number sets k || has_number ds k) (refs_more cs x) ∙ ap (λ b. has_number sets k || b) (others (refs_of cs) x.cell k e))

      tight : (k : ℕ) (b : Bool) → loose sets cs k ≡ b → loose sets (cs ++ x ∷ []) k ≡ false → b ≡ false
      tight k true e l = absurd (true_false (sym (loose_after_commute sets cs k x e) ∙ l))
      tight k false e l = refl

      remakes : (k : ℕ) → loose sets (cs ++ x ∷ []) k ≡ true → (b : Bool) → (x.cell.number == k) ≡ b
          → (y : Value) × (buffered (with_write xs x.cell u) k ≡ Some y) × (remade q (commutes_of k (cs ++ x ∷ [])) (C k) ≡ Completes y tt)
      remakes k l true e =
          let same_number = eqb-true x.cell.number k e in (
            u,
            subst (λ j. buffered (with_write xs x.cell u) j ≡ Some u) same_number (own_found xs x.cell u),
            subst (λ j. remade q (commutes_of j (cs ++ x ∷ [])) (C j) ≡ Completes u tt) same_number (made (subst (λ j. loose sets (cs ++ x ∷ []) j ≡ true) (sym same_number) l)),
          )
      remakes k l false e =
          let r = near.remakes k (loose_before_commute sets cs k x e l) in
          (r.0, other_found xs x.cell u k e ∙ r.1, ap (λ cs1. remade q cs1 (C k)) (of_other sets cs k x e) ∙ r.2)

  -- the value that a set ref has is the same on both
  own_same : (k : ℕ) (o p : Option Value) (l : Bool) → l ≡ false → SameOwn l o p → is_some o ≡ true → value_or o (R k) ≡ value_or p (C k)
  own_same k None None l e a h = absurd (false≢true h)
  own_same k (Some v) (Some u) l e a h = a e
  own_same k None (Some u) l e a h = absurd a
  own_same k (Some v) None l e a h = absurd a

  -- a ref without a value of its own has none on the second world either
  no_own : (k : ℕ) (o p : Option Value) (l : Bool) → SameOwn l o p → is_some o ≡ false → value_or p (C k) ≡ C k
  no_own k None None l a h = refl
  no_own k (Some v) p l a h = absurd (true_false h)
  no_own k None (Some u) l a h = absurd a

  -- a pure callee
  module _ (fR fC : Applies TxState) (callee : Callee) (p : List Value → Completion (Unit {0}) Value)
      (left : (us : List Value) (s : TxState) → fR callee us s ≡ carried s (p us)) (right : (us : List Value) (s : TxState) → fC callee us s ≡ carried s (p us))
      (suits : P callee) (back : (us : List Value) (v : Value) → q callee us tt ≡ Completes v tt → p us ≡ Completes v tt) where
    pure_carried : (us : List Value) (s : TxState) → Carried true s (fR callee us s) (λ xs. fC callee us (moved xs s))
    pure_carried us s =
        let r = part (p us) in
        (subst (Rises s) (sym (left us s)) r.0, λ xs near. subst (λ x. Goes true x (fC callee us (moved xs s))) (sym (left us s)) (subst (λ y. Goes true (carried s (p us)) y) (sym (right us (moved xs s))) (r.1 xs near)), subst (Stays s) (sym (left us s)) r.2)
      where
        part : (z : Completion (Unit {0}) Value) → Carried true s (carried s z) (λ xs. carried (moved xs s) z)
        part (Completes v u) = value_carried true s v
        part (Recurs vs u) = recur_carried true s vs
        part (Faults f u) = (tt, λ xs near. tt, tt)
        part (Retries u) = (tt, λ xs near. tt, tt)
        part (Waits u) = (tt, λ xs near. tt, tt)
        part (OutOfTurns u) = (tt, λ xs near. tt, tt)
        part Invalid = (tt, λ xs near. tt, tt)

    alter_carried : (w : Bool) (m : Mark) (c : CellId) (vs : List Value) (s : TxState) → Carried w s (tx_update R Alter m c callee vs fR s) (λ xs. tx_update C Alter m c callee vs fC (moved xs s))
    alter_carried w m c vs s =
        bind_carried w s (taken R c s) (λ xs. taken C c (moved xs s)) (λ v t1. bind (fR callee (v ∷ vs) t1) (λ u t2. done_as (set_ref c u t2.done) m.span u t2)) (λ v t1. bind (fC callee (v ∷ vs) t1) (λ u t2. done_as (set_ref c u t2.done) m.span u t2)) (taken_carried c s)
        (λ v s1. bind_carried w s1 (fR callee (v ∷ vs) s1) (λ xs. fC callee (v ∷ vs) (moved xs s1)) (λ u t2. done_as (set_ref c u t2.done) m.span u t2) (λ u t2. done_as (set_ref c u t2.done) m.span u t2) (pure_carried (v ∷ vs) s1)
        (λ u s2. set_carried w c u m.span s2))

    module _ (w : Bool) (m : Mark) (marked : w ≡ true → m.wanted ≡ true) (c : CellId) (vs : List Value) (s : TxState) where
      abbrev x : Commute
      x = record { cell = c; callee = callee; args = vs }

      abbrev ending : Value → TxState → Completion TxState Value
      ending v t = Completes v (record t { done = commute_ref c callee vs v t.done; used = t.used || m.wanted })

      abbrev behind : Value → TxState
      behind v = record s { done = commute_ref c callee vs v s.done; used = s.used || m.wanted }

      -- what the second world's commute finds, and what its callee makes of it
      record Found (v : Value) (xs : Writes) : Type 0 where
        value : Value
        applied : p (current C (moved xs s).done c ∷ vs) ≡ Completes value tt
        same : loose s.done.sets (s.done.commutes ++ x ∷ []) c.number ≡ false → v ≡ value
        made : loose s.done.sets (s.done.commutes ++ x ∷ []) c.number ≡ true → remade q (commutes_of c.number (s.done.commutes ++ x ∷ [])) (C c.number) ≡ Completes value tt

      found_set : (v : Value) (xs : Writes) → p (current R s.done c ∷ vs) ≡ Completes v tt → NearAt s xs → has_number s.done.sets c.number ≡ true → Found v xs
      found_set v xs h near e =
          let tight = set_tight s.done.sets s.done.commutes c.number e in
          let there : is_some (own s.done c.number) ≡ true = near.kept c.number ∙ ap (λ b. b || has_number (refs_of s.done.commutes) c.number) e in
          let same_value = own_same c.number (own s.done c.number) (buffered xs c.number) (loose s.done.sets s.done.commutes c.number) tight (alike_own (loose s.done.sets s.done.commutes) s.done.values xs c.number near.alike) there in
          record {
            value = v;
            applied = ap (λ u. p (u ∷ vs)) (sym same_value) ∙ h;
            same = λ l. refl;
            made = λ l. absurd (true_false (sym l ∙ set_tight s.done.sets (s.done.commutes ++ x ∷ []) c.number e));
          }

      found_loose : (v : Value) (xs : Writes) → FineAt (behind v) → NearAt s xs → has_number s.done.sets c.number ≡ false → Found v xs
      found_loose v xs fine near e =
          let cs = s.done.commutes in
          let is_loose : loose s.done.sets (cs ++ x ∷ []) c.number ≡ true = unset_loose s.done.sets (cs ++ x ∷ []) c.number e ∙ ap (λ ds. has_number ds c.number) (refs_more cs x) ∙ joined (refs_of cs) c in
          let r = fine.remakes c.number is_loose in
          let split = bind_inverts (remade q (commutes_of c.number cs) (C c.number)) (λ u t. remade q (x ∷ []) u) r.0 (sym (ap (λ l. remade q l (C c.number)) (of_same s.done.sets cs c.number x (itself c.number)) ∙ remade_append q (commutes_of c.number cs) (x ∷ []) (C c.number)) ∙ r.1) in
          let last = bind_inverts (q callee (split.0 ∷ vs) tt) (λ u t. Completes u tt) r.0 split.2 in
          let before : current C (moved xs s).done c ≡ split.0 = value_before (has_number (refs_of cs) c.number) refl split.0 split.1 in
          record {
            value = r.0;
            applied = ap (λ u. p (u ∷ vs)) before ∙ back (split.0 ∷ vs) r.0 (last.1 ∙ last.2);
            same = λ l. absurd (true_false (sym is_loose ∙ l));
            made = λ l. r.1;
          }
        where
          value_before : (b : Bool) → has_number (refs_of s.done.commutes) c.number ≡ b → (u : Value) → remade q (commutes_of c.number s.done.commutes) (C c.number) ≡ Completes u tt → value_or (buffered xs c.number) (C c.number) ≡ u
          value_before true f u h =
              let r = near.remakes c.number (unset_loose s.done.sets s.done.commutes c.number e ∙ f) in
              ap (λ o. value_or o (C c.number)) r.1 ∙ one_value r.0 u (sym r.2 ∙ h)
          value_before false f u h =
              let out : is_some (own s.done c.number) ≡ false = near.kept c.number ∙ ap (λ b. b || has_number (refs_of s.done.commutes) c.number) e ∙ f in
              no_own c.number (own s.done c.number) (buffered xs c.number) (loose s.done.sets s.done.commutes c.number) (alike_own (loose s.done.sets s.done.commutes) s.done.values xs c.number near.alike) out
              ∙ one_value (C c.number) u (sym (ap (λ l. remade q l (C c.number)) (no_commutes s.done.commutes c.number f)) ∙ h)

      found : (v : Value) (xs : Writes) → p (current R s.done c ∷ vs) ≡ Completes v tt → FineAt (behind v) → NearAt s xs → (b : Bool) → has_number s.done.sets c.number ≡ b → Found v xs
      found v xs h fine near true e = found_set v xs h near e
      found v xs h fine near false e = found_loose v xs fine near e

      commuted_goes : (v : Value) (xs : Writes) → p (current R s.done c ∷ vs) ≡ Completes v tt → NearAt s xs → Goes w (Completes v (behind v)) (tx_update C CommuteForm m c callee vs fC (moved xs s))
      commuted_goes v xs h near = λ fine.
          let r = found v xs h fine near (has_number s.done.sets c.number) refl in (
            r.value,
            with_write xs c r.value,
            ap (λ y. bind y ending) (right (current C (moved xs s).done c ∷ vs) (moved xs s) ∙ ap (carried (moved xs s)) r.applied),
            λ e. absurd (true_false (sym (marked e) ∙ or_second s.used m.wanted fine.unused)),
            near_commute x v r.value s.done.values s.done.sets s.done.commutes xs r.same r.made near,
          )

      pub commute_carried : Carried w s (tx_update R CommuteForm m c callee vs fR s) (λ xs. tx_update C CommuteForm m c callee vs fC (moved xs s))
      commute_carried =
          let r = part (p (current R s.done c ∷ vs)) refl in
          let is = ap (λ y. bind y ending) (left (current R s.done c ∷ vs) s) in
          (subst (Rises s) (sym is) r.0, λ xs near. subst (λ y. Goes w y (tx_update C CommuteForm m c callee vs fC (moved xs s))) (sym is) (r.1 xs near), subst (Stays s) (sym is) r.2)
        where
          part : (z : Completion (Unit {0}) Value) → p (current R s.done c ∷ vs) ≡ z → Carried w s (bind (carried s z) ending) (λ xs. tx_update C CommuteForm m c callee vs fC (moved xs s))
          part (Completes v u) h = (λ fine. fine_commute x m.wanted s.used s.reads s.done.sets s.done.commutes fine, λ xs near. commuted_goes v xs h near, λ f. commutes_both P s.done.commutes (x ∷ []) f (suits, tt))
          part (Recurs us u) h = (tt, λ xs near. tt, tt)
          part (Faults f u) h = (tt, λ xs near. tt, tt)
          part (Retries u) h = (tt, λ xs near. tt, tt)
          part (Waits u) h = (tt, λ xs near. tt, tt)
          part (OutOfTurns u) h = (tt, λ xs near. tt, tt)
          part Invalid h = (tt, λ xs near. tt, tt)

    pub update_carried : (w : Bool) (form : UpdateForm) (m : Mark) → (w ≡ true → m.wanted ≡ true) → (c : CellId) (vs : List Value) (s : TxState) → Carried w s (tx_update R form m c callee vs fR s) (λ xs. tx_update C form m c callee vs fC (moved xs s))
    update_carried w Alter m marked c vs s = alter_carried w m c vs s
    update_carried w CommuteForm m marked c vs s = commute_carried w m marked c vs s
    update_carried w Swap m marked c vs s = (tt, λ xs near. tt, tt)

  -- ---- sends

  pub send_carried : (w : Bool) (v : Value) (a : Action) (s : TxState) → Carried w s (Completes v (record s { done = hold_send a s.done })) (λ xs. Completes v (record (moved xs s) { done = hold_send a (moved xs s).done }))
  send_carried w v a s = (λ f. record { unused = f.unused; agree = f.agree; remakes = f.remakes }, λ xs near fine. (v, xs, refl, λ e. refl, near), λ f. f)

  -- a form on a cell that it takes
  pub cell_carried : (w : Bool) (r : Result CellId FaultKind) (span : Span) (f g : CellId → TxState → Completion TxState Value) (s : TxState) → ((c : CellId) → Carried w s (f c s) (λ xs. g c (moved xs s))) → Carried w s (bind (result_of r span s) f) (λ xs. bind (result_of r span (moved xs s)) g)
  cell_carried w (Ok c) span f g s h = h c
  cell_carried w (Err k) span f g s h = (tt, λ xs near. tt, tt)
