-- What is known of functions: each stands where those before it are defined, pure ones are for inside and outside, and what a
-- function may stand in, a thread or transaction that calls it may.
use Rattle.std.proofs.Common.{◌≡◌, ℕ, zero, suc, ◌+◌, ◌<◌, Bool, true, false, ◌&&◌, ◌||◌, List, [], ◌∷◌, ◌++◌, length, length-append, Option, Some, None, refl, sym, ap, ◌∙◌, subst, arith}
use Rattle.std.proofs.lemmas.Bool.{false≢true}
use Rattle.txs_tree_meaning.specs.Known.{Known, only_inside, only_outside, is_inside, is_outside, is_pure, inside_in, any_inside, outside_in, any_outside, pure_in, all_pure, known_of, known_from, known}
use Rattle.txs_tree_meaning.specs.Sound.{MayStand, in_function, in_thread, in_dosync, SoundCall, SoundTree, SoundAll, SoundLet, SoundDo, SoundFunction, SoundFunctions}
use Rattle.txs_tree_meaning.specs.Tree.{Tree, Const, Local, If, Do, Let, Loop, Recur, Core, Call, VectorOf, Println, Dosync, Look, Put, Update, Send, Trees, none, more, count, PlainFunction}
use Rattle.txs_value_cell.specs.Forms.{rule}
use Rattle.txs_value_data.specs.Places.{nth}
use Rattle.txs_value_cell.specs.declared.form.CellForm.TheVariants as form_of
use Rattle.txs_value_cell.specs.declared.form.Standing.{Standing}
use Rattle.txs_value_cell.specs.declared.form.Standing.TheVariants.{Anywhere, Inside, Outside}

abbrev IsThere : {A : Type 0} → Option A → Type 0
IsThere None = ⊥
IsThere (Some a) = Unit {0}

true_false : true ≡ false → ⊥
true_false e = false≢true (sym e)

pub or_first : (a b : Bool) → (a || b) ≡ false → a ≡ false
or_first true b e = absurd (true_false e)
or_first false b e = refl

pub or_second : (a b : Bool) → (a || b) ≡ false → b ≡ false
or_second true b e = absurd (true_false e)
or_second false b e = e

and_first : (a b : Bool) → (a && b) ≡ true → a ≡ true
and_first true b e = refl
and_first false b e = absurd (false≢true e)

and_second : (a b : Bool) → (a && b) ≡ true → b ≡ true
and_second true b e = e
and_second false b e = absurd (false≢true e)

none_of : (a b : Bool) → a ≡ false → b ≡ false → (a || b) ≡ false
none_of true b e f = e
none_of false b e f = f

-- what is not for transactions alone may stand in a thread
thread_stands : (s : Standing) → only_inside s ≡ false → MayStand in_thread s
thread_stands Anywhere e = tt
thread_stands Inside e = absurd (true_false e)
thread_stands Outside e = tt

-- what is not for outside alone may stand in a transaction
dosync_stands : (s : Standing) → only_outside s ≡ false → MayStand in_dosync s
dosync_stands Anywhere e = tt
dosync_stands Inside e = tt
dosync_stands Outside e = absurd (true_false e)

-- a function that is for no transaction may be called in a thread
thread_call : (ks : List Known) (f n : ℕ) → SoundCall ks in_function f n → is_inside (nth ks f) ≡ false → SoundCall ks in_thread f n
thread_call ks f n h e = record {
  function = h.function;
  found = h.found;
  arity = h.arity;
  zoned = sym (ap is_inside h.found) ∙ e;
}

-- what stands in a function outside all that is for transactions alone may stand in a thread
mutual
  pub thread_sound : (ks : List Known) (e : Tree) (d : ℕ) (tail : Option ℕ) → SoundTree ks in_function d tail e → inside_in ks e ≡ false → SoundTree ks in_thread d tail e
  thread_sound ks (Const v m) d tail h o = tt
  thread_sound ks (Local i m) d tail h o = h
  thread_sound ks (If c a b m) d tail h o =
      let r = or_second (inside_in ks c) (inside_in ks a || inside_in ks b) o in (
        thread_sound ks c d None h.0 (or_first (inside_in ks c) (inside_in ks a || inside_in ks b) o),
        thread_sound ks a d tail h.1 (or_first (inside_in ks a) (inside_in ks b) r),
        thread_sound ks b d tail h.2 (or_second (inside_in ks a) (inside_in ks b) r),
      )
  thread_sound ks (Do items m) d tail h o = thread_do ks items d tail h o
  thread_sound ks (Let values body m) d tail h o =
      (thread_let ks values d h.0 (or_first (any_inside ks values) (inside_in ks body) o), thread_sound ks body (d + count values) tail h.1 (or_second (any_inside ks values) (inside_in ks body) o))
  thread_sound ks (Loop values body m) d tail h o =
      (thread_let ks values d h.0 (or_first (any_inside ks values) (inside_in ks body) o), thread_sound ks body (d + count values) (Some (count values)) h.1 (or_second (any_inside ks values) (inside_in ks body) o))
  thread_sound ks (Recur values m) d tail h o = (h.0, thread_all ks values d h.1 o)
  thread_sound ks (Core op args m) d tail h o = (h.0, thread_all ks args d h.1 o)
  thread_sound ks (Call f args m) d tail h o =
      (thread_call ks f (count args) h.0 (or_first (is_inside (nth ks f)) (any_inside ks args) o), thread_all ks args d h.1 (or_second (is_inside (nth ks f)) (any_inside ks args) o))
  thread_sound ks (VectorOf items m) d tail h o = (h.0, thread_all ks items d h.1 o)
  thread_sound ks (Println args m) d tail h o = (tt, h.1, thread_all ks args d h.2 o)
  thread_sound ks (Dosync body m) d tail h o = h
  thread_sound ks (Look form cell m) d tail h o =
      let here = only_inside (rule (form_of.Look form)).stands in
      (thread_stands (rule (form_of.Look form)).stands (or_first here (inside_in ks cell) o), thread_sound ks cell d None h.1 (or_second here (inside_in ks cell) o))
  thread_sound ks (Put form cell value m) d tail h o =
      let here = only_inside (rule (form_of.Put form)).stands in
      let rest = or_second here (inside_in ks cell || inside_in ks value) o in
      (thread_stands (rule (form_of.Put form)).stands (or_first here (inside_in ks cell || inside_in ks value) o), thread_sound ks cell d None h.1 (or_first (inside_in ks cell) (inside_in ks value) rest), thread_sound ks value d None h.2 (or_second (inside_in ks cell) (inside_in ks value) rest))
  thread_sound ks (Update form cell callee args m) d tail h o =
      let here = only_inside (rule (form_of.Update form)).stands in
      let rest = or_second here (inside_in ks cell || any_inside ks args) o in
      (thread_stands (rule (form_of.Update form)).stands (or_first here (inside_in ks cell || any_inside ks args) o), thread_sound ks cell d None h.1 (or_first (inside_in ks cell) (any_inside ks args) rest), h.2, thread_all ks args d h.3 (or_second (inside_in ks cell) (any_inside ks args) rest))
  thread_sound ks (Send cell callee args m) d tail h o =
      (thread_sound ks cell d None h.0 (or_first (inside_in ks cell) (any_inside ks args) o), h.1, thread_all ks args d h.2 (or_second (inside_in ks cell) (any_inside ks args) o))

  pub thread_all : (ks : List Known) (es : Trees) (d : ℕ) → SoundAll ks in_function d es → any_inside ks es ≡ false → SoundAll ks in_thread d es
  thread_all ks none d h o = tt
  thread_all ks (more e rest) d h o =
      (thread_sound ks e d None h.0 (or_first (inside_in ks e) (any_inside ks rest) o), thread_all ks rest d h.1 (or_second (inside_in ks e) (any_inside ks rest) o))

  pub thread_let : (ks : List Known) (es : Trees) (d : ℕ) → SoundLet ks in_function d es → any_inside ks es ≡ false → SoundLet ks in_thread d es
  thread_let ks none d h o = h
  thread_let ks (more e rest) d h o =
      (thread_sound ks e d None h.0 (or_first (inside_in ks e) (any_inside ks rest) o), thread_let ks rest (d + 1) h.1 (or_second (inside_in ks e) (any_inside ks rest) o))

  pub thread_do : (ks : List Known) (es : Trees) (d : ℕ) (tail : Option ℕ) → SoundDo ks in_function d tail es → any_inside ks es ≡ false → SoundDo ks in_thread d tail es
  thread_do ks none d tail h o = h
  thread_do ks (more e none) d tail h o = thread_sound ks e d tail h (or_first (inside_in ks e) false o)
  thread_do ks (more e (more f rest)) d tail h o =
      (thread_sound ks e d None h.0 (or_first (inside_in ks e) (any_inside ks (more f rest)) o), thread_do ks (more f rest) d tail h.1 (or_second (inside_in ks e) (any_inside ks (more f rest)) o))

-- a function that is not for outside alone may be called in a transaction
dosync_call : (ks : List Known) (f n : ℕ) → SoundCall ks in_function f n → is_outside (nth ks f) ≡ false → SoundCall ks in_dosync f n
dosync_call ks f n h e = record {
  function = h.function;
  found = h.found;
  arity = h.arity;
  zoned = sym (ap is_outside h.found) ∙ e;
}

-- what stands in a function and is not for outside alone may stand in a transaction
mutual
  pub dosync_sound : (ks : List Known) (e : Tree) (d : ℕ) (tail : Option ℕ) → SoundTree ks in_function d tail e → outside_in ks e ≡ false → SoundTree ks in_dosync d tail e
  dosync_sound ks (Const v m) d tail h o = tt
  dosync_sound ks (Local i m) d tail h o = h
  dosync_sound ks (If c a b m) d tail h o =
      let r = or_second (outside_in ks c) (outside_in ks a || outside_in ks b) o in (
        dosync_sound ks c d None h.0 (or_first (outside_in ks c) (outside_in ks a || outside_in ks b) o),
        dosync_sound ks a d tail h.1 (or_first (outside_in ks a) (outside_in ks b) r),
        dosync_sound ks b d tail h.2 (or_second (outside_in ks a) (outside_in ks b) r),
      )
  dosync_sound ks (Do items m) d tail h o = dosync_do ks items d tail h o
  dosync_sound ks (Let values body m) d tail h o =
      (dosync_let ks values d h.0 (or_first (any_outside ks values) (outside_in ks body) o), dosync_sound ks body (d + count values) tail h.1 (or_second (any_outside ks values) (outside_in ks body) o))
  dosync_sound ks (Loop values body m) d tail h o =
      (dosync_let ks values d h.0 (or_first (any_outside ks values) (outside_in ks body) o), dosync_sound ks body (d + count values) (Some (count values)) h.1 (or_second (any_outside ks values) (outside_in ks body) o))
  dosync_sound ks (Recur values m) d tail h o = (h.0, dosync_all ks values d h.1 o)
  dosync_sound ks (Core op args m) d tail h o = (h.0, dosync_all ks args d h.1 o)
  dosync_sound ks (Call f args m) d tail h o =
      (dosync_call ks f (count args) h.0 (or_first (is_outside (nth ks f)) (any_outside ks args) o), dosync_all ks args d h.1 (or_second (is_outside (nth ks f)) (any_outside ks args) o))
  dosync_sound ks (VectorOf items m) d tail h o = (h.0, dosync_all ks items d h.1 o)
  dosync_sound ks (Println args m) d tail h o = absurd (true_false o)
  dosync_sound ks (Dosync body m) d tail h o = h
  dosync_sound ks (Look form cell m) d tail h o =
      let here = only_outside (rule (form_of.Look form)).stands in
      (dosync_stands (rule (form_of.Look form)).stands (or_first here (outside_in ks cell) o), dosync_sound ks cell d None h.1 (or_second here (outside_in ks cell) o))
  dosync_sound ks (Put form cell value m) d tail h o =
      let here = only_outside (rule (form_of.Put form)).stands in
      let rest = or_second here (outside_in ks cell || outside_in ks value) o in
      (dosync_stands (rule (form_of.Put form)).stands (or_first here (outside_in ks cell || outside_in ks value) o), dosync_sound ks cell d None h.1 (or_first (outside_in ks cell) (outside_in ks value) rest), dosync_sound ks value d None h.2 (or_second (outside_in ks cell) (outside_in ks value) rest))
  dosync_sound ks (Update form cell callee args m) d tail h o =
      let here = only_outside (rule (form_of.Update form)).stands in
      let rest = or_second here (outside_in ks cell || any_outside ks args) o in
      (dosync_stands (rule (form_of.Update form)).stands (or_first here (outside_in ks cell || any_outside ks args) o), dosync_sound ks cell d None h.1 (or_first (outside_in ks cell) (any_outside ks args) rest), h.2, dosync_all ks args d h.3 (or_second (outside_in ks cell) (any_outside ks args) rest))
  dosync_sound ks (Send cell callee args m) d tail h o =
      (dosync_sound ks cell d None h.0 (or_first (outside_in ks cell) (any_outside ks args) o), h.1, dosync_all ks args d h.2 (or_second (outside_in ks cell) (any_outside ks args) o))

  dosync_all : (ks : List Known) (es : Trees) (d : ℕ) → SoundAll ks in_function d es → any_outside ks es ≡ false → SoundAll ks in_dosync d es
  dosync_all ks none d h o = tt
  dosync_all ks (more e rest) d h o =
      (dosync_sound ks e d None h.0 (or_first (outside_in ks e) (any_outside ks rest) o), dosync_all ks rest d h.1 (or_second (outside_in ks e) (any_outside ks rest) o))

  dosync_let : (ks : List Known) (es : Trees) (d : ℕ) → SoundLet ks in_function d es → any_outside ks es ≡ false → SoundLet ks in_dosync d es
  dosync_let ks none d h o = h
  dosync_let ks (more e rest) d h o =
      (dosync_sound ks e d None h.0 (or_first (outside_in ks e) (any_outside ks rest) o), dosync_let ks rest (d + 1) h.1 (or_second (outside_in ks e) (any_outside ks rest) o))

  dosync_do : (ks : List Known) (es : Trees) (d : ℕ) (tail : Option ℕ) → SoundDo ks in_function d tail es → any_outside ks es ≡ false → SoundDo ks in_dosync d tail es
  dosync_do ks none d tail h o = h
  dosync_do ks (more e none) d tail h o = dosync_sound ks e d tail h (or_first (outside_in ks e) false o)
  dosync_do ks (more e (more f rest)) d tail h o =
      (dosync_sound ks e d None h.0 (or_first (outside_in ks e) (any_outside ks (more f rest)) o), dosync_do ks (more f rest) d tail h.1 (or_second (outside_in ks e) (any_outside ks (more f rest)) o))

-- a pure function is for transactions and for outside
abbrev pub IsFree : Known → Type 0
IsFree k = k.pure ≡ true → (k.inside ≡ false) × (k.outside ≡ false)

abbrev pub AreFree : List Known → Type 0
AreFree ks = (f : ℕ) (k : Known) → nth ks f ≡ Some k → IsFree k

free_call : (ks : List Known) → AreFree ks → (f : ℕ) → is_pure (nth ks f) ≡ true → (is_inside (nth ks f) ≡ false) × (is_outside (nth ks f) ≡ false)
free_call ks w f = go (nth ks f) refl
  where
    go : (o : Option Known) → nth ks f ≡ o → is_pure o ≡ true → (is_inside o ≡ false) × (is_outside o ≡ false)
    go None q e = (refl, refl)
    go (Some k) q e = w f k q e

-- a pure body
mutual
  pub free_tree : (ks : List Known) → AreFree ks → (e : Tree) → pure_in ks e ≡ true → (inside_in ks e ≡ false) × (outside_in ks e ≡ false)
  free_tree ks w (Const v m) p = (refl, refl)
  free_tree ks w (Local i m) p = (refl, refl)
  free_tree ks w (If c a b m) p =
      let r = and_second (pure_in ks c) (pure_in ks a && pure_in ks b) p in
      let x = free_tree ks w c (and_first (pure_in ks c) (pure_in ks a && pure_in ks b) p) in
      let y = free_tree ks w a (and_first (pure_in ks a) (pure_in ks b) r) in
      let z = free_tree ks w b (and_second (pure_in ks a) (pure_in ks b) r) in
      (none_of (inside_in ks c) (inside_in ks a || inside_in ks b) x.0 (none_of (inside_in ks a) (inside_in ks b) y.0 z.0), none_of (outside_in ks c) (outside_in ks a || outside_in ks b) x.1 (none_of (outside_in ks a) (outside_in ks b) y.1 z.1))
  free_tree ks w (Do items m) p = free_all ks w items p
  free_tree ks w (Let values body m) p =
      let x = free_all ks w values (and_first (all_pure ks values) (pure_in ks body) p) in
      let y = free_tree ks w body (and_second (all_pure ks values) (pure_in ks body) p) in
      (none_of (any_inside ks values) (inside_in ks body) x.0 y.0, none_of (any_outside ks values) (outside_in ks body) x.1 y.1)
  free_tree ks w (Loop values body m) p =
      let x = free_all ks w values (and_first (all_pure ks values) (pure_in ks body) p) in
      let y = free_tree ks w body (and_second (all_pure ks values) (pure_in ks body) p) in
      (none_of (any_inside ks values) (inside_in ks body) x.0 y.0, none_of (any_outside ks values) (outside_in ks body) x.1 y.1)
  free_tree ks w (Recur values m) p = free_all ks w values p
  free_tree ks w (Core op args m) p = free_all ks w args p
  free_tree ks w (Call f args m) p =
      let x = free_call ks w f (and_first (is_pure (nth ks f)) (all_pure ks args) p) in
      let y = free_all ks w args (and_second (is_pure (nth ks f)) (all_pure ks args) p) in
      (none_of (is_inside (nth ks f)) (any_inside ks args) x.0 y.0, none_of (is_outside (nth ks f)) (any_outside ks args) x.1 y.1)
  free_tree ks w (VectorOf items m) p = free_all ks w items p
  free_tree ks w (Println args m) p = absurd (false≢true p)
  free_tree ks w (Dosync body m) p = absurd (false≢true p)
  free_tree ks w (Look form cell m) p = absurd (false≢true p)
  free_tree ks w (Put form cell value m) p = absurd (false≢true p)
  free_tree ks w (Update form cell callee args m) p = absurd (false≢true p)
  free_tree ks w (Send cell callee args m) p = absurd (false≢true p)

  free_all : (ks : List Known) → AreFree ks → (es : Trees) → all_pure ks es ≡ true → (any_inside ks es ≡ false) × (any_outside ks es ≡ false)
  free_all ks w none p = (refl, refl)
  free_all ks w (more e rest) p =
      let x = free_tree ks w e (and_first (pure_in ks e) (all_pure ks rest) p) in
      let y = free_all ks w rest (and_second (pure_in ks e) (all_pure ks rest) p) in
      (none_of (inside_in ks e) (any_inside ks rest) x.0 y.0, none_of (outside_in ks e) (any_outside ks rest) x.1 y.1)

-- one more at the end
pub at_end : (P : Known → Type 0) (ks : List Known) (x : Known) → ((f : ℕ) (k : Known) → nth ks f ≡ Some k → P k) → P x → (f : ℕ) (k : Known) → nth (ks ++ x ∷ []) f ≡ Some k → P k
at_end P [] x h p zero k e = let same : x ≡ k = cc in subst P same p
at_end P [] x h p (suc f) k e = absurd (subst IsThere (sym e) tt)
at_end P (y ∷ ks) x h p zero k e = h 0 k e
at_end P (y ∷ ks) x h p (suc f) k e = at_end P ks x (λ g l q. h (suc g) l q) p f k e

free_from : (ks : List Known) → AreFree ks → (fs : List PlainFunction) → AreFree (known_from ks fs)
free_from ks w [] = w
free_from ks w (f ∷ fs) = free_from (ks ++ known_of ks f ∷ []) (at_end IsFree ks (known_of ks f) w (λ p. free_tree ks w f.body p)) fs

-- pure functions are for transactions and for outside
pub known_free : (fs : List PlainFunction) → AreFree (known fs)
known_free fs = free_from [] (λ f k e. absurd (subst IsThere (sym e) tt)) fs

-- what is there stays where it is
pub nth_front : (ks ls : List Known) (f : ℕ) (k : Known) → nth ks f ≡ Some k → nth (ks ++ ls) f ≡ Some k
nth_front [] ls f k e = absurd (subst IsThere (sym e) tt)
nth_front (x ∷ ks) ls zero k e = e
nth_front (x ∷ ks) ls (suc f) k e = nth_front ks ls f k e

pub nth_last : (ks : List Known) (x : Known) → nth (ks ++ x ∷ []) (length ks) ≡ Some x
nth_last [] x = refl
nth_last (y ∷ ks) x = nth_last ks x

pub known_front : (ks : List Known) (fs : List PlainFunction) (f : ℕ) (k : Known) → nth ks f ≡ Some k → nth (known_from ks fs) f ≡ Some k
known_front ks [] f k e = e
known_front ks (g ∷ fs) f k e = known_front (ks ++ known_of ks g ∷ []) fs f k (nth_front ks (known_of ks g ∷ []) f k e)

pub nth_below : {A : Type 0} (xs : List A) (i : ℕ) (x : A) → nth xs i ≡ Some x → i < length xs
nth_below [] i x e = absurd (subst IsThere (sym e) tt)
nth_below (y ∷ xs) zero x e = omega arith
nth_below (y ∷ xs) (suc i) x e = omega (arith, nth_below xs i x e)

pub nth_there : {A : Type 0} (xs : List A) (i : ℕ) → i < length xs → (x : A) × (nth xs i ≡ Some x)
nth_there [] i l = absurd (omega (arith, l))
nth_there (y ∷ xs) zero l = (y, refl)
nth_there (y ∷ xs) (suc i) l = nth_there xs i (omega (arith, l))

-- one is known for each function
known_length : (ks : List Known) (fs : List PlainFunction) → length (known_from ks fs) ≡ length ks + length fs
known_length ks [] = omega arith
known_length ks (f ∷ fs) = omega (arith, known_length (ks ++ known_of ks f ∷ []) fs, length-append ks (known_of ks f ∷ []))

-- a function among others of which so much is known: it is sound where those before it are defined
pub record Defined (all : List Known) (f : ℕ) (fun : PlainFunction) : Type 0 where
  pub before : List Known
  pub sound : SoundFunction before fun
  pub found : nth all f ≡ Some (known_of before fun)
  pub earlier : (g : ℕ) (k : Known) → nth before g ≡ Some k → (g < f) × (nth all g ≡ Some k)
  pub free : AreFree before

defined_from : (ks : List Known) → AreFree ks → (fs : List PlainFunction) → SoundFunctions ks fs → (j : ℕ) (fun : PlainFunction) → nth fs j ≡ Some fun → Defined (known_from ks fs) (length ks + j) fun
defined_from ks w [] h j fun e = absurd (subst IsThere (sym e) tt)
defined_from ks w (g ∷ fs) h zero fun e =
    let same : g ≡ fun = cc in
    let z : length ks ≡ length ks + 0 = omega arith in
    let all = known_from ks (g ∷ fs) in
    subst (λ x. Defined all (length ks + 0) x) same (record {
      before = ks;
      sound = h.0;
      found = subst (λ n. nth all n ≡ Some (known_of ks g)) z (known_front (ks ++ known_of ks g ∷ []) fs (length ks) (known_of ks g) (nth_last ks (known_of ks g)));
      earlier = λ i k q. (omega (arith, nth_below ks i k q), known_front ks (g ∷ fs) i k q);
      free = w;
    })
defined_from ks w (g ∷ fs) h (suc j) fun e =
    let more_known = ks ++ known_of ks g ∷ [] in
    let z : length (ks ++ known_of ks g ∷ []) + j ≡ length ks + suc j = omega (arith, length-append ks (known_of ks g ∷ [])) in
    subst (λ n. Defined (known_from more_known fs) n fun) z
    (defined_from more_known (at_end IsFree ks (known_of ks g) w (λ p. free_tree ks w g.body p)) fs h.1 j fun e)

-- each function of sound ones
pub defined : (fs : List PlainFunction) → SoundFunctions [] fs → (f : ℕ) (fun : PlainFunction) → nth fs f ≡ Some fun → Defined (known fs) f fun
defined fs h f fun e =
    let z : length {A = Known} [] + f ≡ f = omega arith in
    subst (λ n. Defined (known fs) n fun) z (defined_from [] (λ g k q. absurd (subst IsThere (sym q) tt)) fs h f fun e)

-- what is known of is there
pub there : (fs : List PlainFunction) (f : ℕ) (k : Known) → nth (known fs) f ≡ Some k → (fun : PlainFunction) × (nth fs f ≡ Some fun)
there fs f k e = nth_there fs f (omega (arith, nth_below (known fs) f k e, known_length [] fs))
