-- In a format that is exact what is read is spelled so, and what is spelled so is read, whatever follows. Each way to put
-- formats together keeps that.
use Rattle.std.proofs.Common.{◌≡◌, ℕ, zero, suc, ◌+◌, ◌-◌, ◌<◌, ◌≤◌, Bool, true, false, cond, ltb, eqb, List, [], ◌∷◌, ◌++◌, length, map, get_or, take, drop, Option, Some, None, Result, Ok, Err, refl, sym, ap, subst, ◌∙◌, append_assoc, arith, inl, inr}
use Rattle.std.specs.Int.{Width, w16, w32, w64, byte_len, from_be_bytes, to_be_bytes}
use Rattle.std.specs.List.{flat_map, AllByRecursion}
use Rattle.std.proofs.lemmas.Bool.{eqb-true, cases_lt, ltb-false, le-ltb}
use Rattle.std.proofs.lemmas.List.{append-nil, nil_from_length, take_at, drop_at, take-append-drop, length-append, length-take, get_or-drop, get_or-take, get_or_past}
use Rattle.std.proofs.lemmas.List.Concat.{flat_map-cons}
use Rattle.std.proofs.lemmas.Nat.{be_bytes_2, be_bytes_4, be_bytes_8, from_be_bytes-to_be_bytes_2, from_be_bytes-to_be_bytes_4, from_be_bytes-to_be_bytes_8}
use Rattle.txs_value_data.specs.Places.{nth, numbers_from}
use Rattle.txs_code_decode.specs.declared.error.CodeErrorKind.{CodeErrorKind}
use Rattle.txs_code_decode.specs.declared.error.CodeErrorKind.TheVariants.{Truncated, Trailing}
use Rattle.txs_code_decode.specs.declared.error.Refusal.{Refusal}
use Rattle.txs_code_decode.specs.Format.{Read, refuse, ◌>>=◌, Test, judge, judge_left, found, Format, byte_at, byte, bytes_at, some_bytes, limit, number_at, number, tested, tested_before, one_of, only, never, pair, mapped, many_at, many, counted, tagged, sharing_form, SharingFits, sharing_at, sharing, whole}

abbrev pub IsBytes : List ℕ → Type 0
IsBytes bytes = (i : ℕ) → get_or bytes i 0 < 256

IsBytes-drop : (n : ℕ) (bytes : List ℕ) → IsBytes bytes → IsBytes (drop n bytes)
IsBytes-drop n bytes h i = rw get_or-drop (h (n + i))

IsBytes-take : (n : ℕ) (bytes : List ℕ) → IsBytes bytes → IsBytes (take n bytes)
IsBytes-take n bytes h i =
    elim (cases_lt i n) [
      | inl lt ↦ rw (get_or-take n bytes i 0 lt) (h i)
      | inr le ↦ rw (get_or_past (take n bytes) i 0 (omega (arith, length-take n bytes))) (omega arith)
    ]

IsBytes-rest : (b : ℕ) (bytes : List ℕ) → IsBytes (b ∷ bytes) → IsBytes bytes
IsBytes-rest b bytes h i = h (suc i)

abbrev done : {A : Type 0} → A → Result A Refusal
done x = Ok x

pub ok_is : {A : Type 0} (x y : A) → done x ≡ done y → x ≡ y
ok_is x y e = cc

-- the value of a step that was not refused
pub bind_ok : {A B : Type 0} (r : Result A Refusal) (f : A → Result B Refusal) (y : B) → (r >>= f) ≡ Ok y → (x : A) × (r ≡ Ok x) × (f x ≡ Ok y)
bind_ok (Ok x) f y e = (x, refl, e)
bind_ok (Err d) f y e = absurd cc

-- a field that was not refused
judge_ok : {A : Type 0} (o : Option CodeErrorKind) (bytes : List ℕ) (a : A) (rest : List ℕ) (x : A × List ℕ) → judge o bytes a rest ≡ Ok x → (o ≡ None) × ((a, rest) ≡ x)
judge_ok None bytes a rest x e = (refl, ok_is (a, rest) x e)
judge_ok (Some k) bytes a rest x e = absurd cc

pub guard_ok : {A : Type 0} (b : Bool) (bytes : List ℕ) (r : Result A Refusal) (y : A) → cond b (refuse Truncated bytes) r ≡ Ok y → (b ≡ false) × (r ≡ Ok y)
guard_ok true bytes r y e = absurd cc
guard_ok false bytes r y e = (refl, e)

-- the bytes are those that spell the value, and the rest
pub record Takes {A : Type 0} (f : Format A) (bytes : List ℕ) (x : A × List ℕ) : Type 0 where
  pub parts : bytes ≡ f.form x.0 ++ x.1
  pub rest : IsBytes x.1
  pub fits : f.fits x.0

pub record Exact {A : Type 0} (f : Format A) : Type 0 where
  -- what is read is spelled so
  pub takes : (bytes : List ℕ) (x : A × List ℕ) → IsBytes bytes → f.read bytes ≡ Ok x → Takes f bytes x
  -- what is spelled so is read
  pub again : (a : A) (rest : List ℕ) → f.fits a → f.read (f.form a ++ rest) ≡ Ok (a, rest)

-- ---- fields

byte_takes : (bytes : List ℕ) (x : ℕ × List ℕ) → IsBytes bytes → byte_at bytes ≡ Ok x → Takes byte bytes x
unfolding byte_at
byte_takes [] x fits e = absurd cc
byte_takes (b ∷ rest) x fits e =
    subst (λ (x : ℕ × List ℕ). Takes byte (b ∷ rest) x) (ok_is (b, rest) x e) (record { parts = refl; rest = IsBytes-rest b rest fits; fits = fits 0 })

byte_again : (a : ℕ) (rest : List ℕ) → byte_at (a ∷ rest) ≡ Ok (a, rest)
unfolding byte_at
byte_again a rest = refl

pub byte_exact : Exact byte
byte_exact = record { takes = byte_takes; again = λ a rest fits. byte_again a rest }

some_takes : (n : ℕ) (bytes : List ℕ) (x : List ℕ × List ℕ) → IsBytes bytes → bytes_at n bytes ≡ Ok x → Takes (some_bytes n) bytes x
unfolding bytes_at
some_takes n bytes x fits e =
    let g = guard_ok (ltb (length bytes) n) [] (Ok (take n bytes, drop n bytes)) x e in
    let long : n ≤ length bytes = ltb-false _ _ g.0 in
    subst (λ (x : List ℕ × List ℕ). Takes (some_bytes n) bytes x) (ok_is (take n bytes, drop n bytes) x g.1) (record { parts = sym (take-append-drop n bytes); rest = IsBytes-drop n bytes fits; fits = omega (arith, length-take n bytes) })

some_again : (n : ℕ) (a rest : List ℕ) → length a ≡ n → bytes_at n (a ++ rest) ≡ Ok (a, rest)
unfolding bytes_at
some_again n a rest len =
    let long : ltb (length (a ++ rest)) n ≡ false = le-ltb _ _ (omega (arith, length-append a rest)) in
    rw (long, take_at a rest n len, drop_at a rest n len) refl

pub some_exact : (n : ℕ) → Exact (some_bytes n)
some_exact n = record { takes = some_takes n; again = some_again n }

pub record IsWide (w : Width) : Type 0 where
  pub len : (n : ℕ) → length (to_be_bytes w n) ≡ byte_len w
  pub back : (bytes : List ℕ) → length bytes ≡ byte_len w → IsBytes bytes → to_be_bytes w (from_be_bytes w bytes) ≡ bytes
  pub again : (n : ℕ) → n < limit w → from_be_bytes w (to_be_bytes w n) ≡ n
  pub below : (bytes : List ℕ) → IsBytes bytes → from_be_bytes w bytes < limit w

pub wide16 : IsWide w16
wide16 = record {
  len = λ n. refl;
  back = λ bytes len fits. be_bytes_2 bytes _ len fits refl;
  again = λ n lt. from_be_bytes-to_be_bytes_2 n lt;
  below = λ bytes fits. omega (arith, fits 0, fits 1);
}

pub wide32 : IsWide w32
wide32 = record {
  len = λ n. refl;
  back = λ bytes len fits. be_bytes_4 bytes _ len fits refl;
  again = λ n lt. from_be_bytes-to_be_bytes_4 n lt;
  below = λ bytes fits. omega (arith, fits 0, fits 1, fits 2, fits 3);
}

pub wide64 : IsWide w64
wide64 = record {
  len = λ n. refl;
  back = λ bytes len fits. be_bytes_8 bytes _ len fits refl;
  again = λ n lt. from_be_bytes-to_be_bytes_8 n lt;
  below = λ bytes fits. omega (arith, fits 0, fits 1, fits 2, fits 3, fits 4, fits 5, fits 6, fits 7);
}

number_takes : (w : Width) (wide : IsWide w) (bytes : List ℕ) (x : ℕ × List ℕ) → IsBytes bytes → number_at w bytes ≡ Ok x → Takes (number w) bytes x
unfolding number_at
number_takes w wide bytes x fits e =
    let n = from_be_bytes w (take (byte_len w) bytes) in
    let g = guard_ok (ltb (length bytes) (byte_len w)) [] (Ok (n, drop (byte_len w) bytes)) x e in
    let long : byte_len w ≤ length bytes = ltb-false _ _ g.0 in
    let front : to_be_bytes w n ≡ take (byte_len w) bytes = wide.back (take (byte_len w) bytes) (omega (arith, length-take (byte_len w) bytes)) (IsBytes-take (byte_len w) bytes fits) in
    subst (λ (x : ℕ × List ℕ). Takes (number w) bytes x) (ok_is (n, drop (byte_len w) bytes) x g.1) (record {
      parts = rw front (sym (take-append-drop (byte_len w) bytes));
      rest = IsBytes-drop (byte_len w) bytes fits;
      fits = wide.below (take (byte_len w) bytes) (IsBytes-take (byte_len w) bytes fits);
    })

number_again : (w : Width) (wide : IsWide w) (n : ℕ) (rest : List ℕ) → n < limit w → number_at w (to_be_bytes w n ++ rest) ≡ Ok (n, rest)
unfolding number_at
number_again w wide n rest lt =
    let len = wide.len n in
    let long : ltb (length (to_be_bytes w n ++ rest)) (byte_len w) ≡ false = le-ltb _ _ (omega (arith, length-append (to_be_bytes w n) rest)) in
    rw (long, take_at (to_be_bytes w n) rest (byte_len w) len, drop_at (to_be_bytes w n) rest (byte_len w) len, wide.again n lt) refl

pub number_exact : (w : Width) → IsWide w → Exact (number w)
number_exact w wide = record { takes = number_takes w wide; again = number_again w wide }

tested_takes : {A : Type 0} (f : Format A) (test : Test A) → Exact f → (bytes : List ℕ) (z : A × List ℕ) → IsBytes bytes → (tested f test).read bytes ≡ Ok z → Takes (tested f test) bytes z
tested_takes {A} f test h bytes z fits e =
    let p = bind_ok (f.read bytes) (λ x. judge (test x.0) bytes x.0 x.1) z e in
    let t = h.takes bytes p.0 fits p.1 in
    let j = judge_ok (test p.0.0) bytes p.0.0 p.0.1 z p.2 in
    subst (λ (z : A × List ℕ). Takes (tested f test) bytes z) j.1 (record { parts = t.parts; rest = t.rest; fits = (t.fits, j.0) })

tested_again : {A : Type 0} (f : Format A) (test : Test A) → Exact f → (a : A) (rest : List ℕ) → (tested f test).fits a → (tested f test).read (f.form a ++ rest) ≡ Ok (a, rest)
tested_again {A} f test h a rest fits =
    ap (λ (r : Read A). r >>= λ x. judge (test x.0) (f.form a ++ rest) x.0 x.1) (h.again a rest fits.0) ∙ ap (λ (o : Option CodeErrorKind). judge o (f.form a ++ rest) a rest) fits.1

pub tested_exact : {A : Type 0} (f : Format A) (test : Test A) → Exact f → Exact (tested f test)
tested_exact f test h = record { takes = tested_takes f test h; again = tested_again f test h }

judge_left_ok : {A : Type 0} (o : Option CodeErrorKind) (left : ℕ) (a : A) (rest : List ℕ) (x : A × List ℕ) → judge_left o left a rest ≡ Ok x → (o ≡ None) × ((a, rest) ≡ x)
judge_left_ok None left a rest x e = (refl, ok_is (a, rest) x e)
judge_left_ok (Some k) left a rest x e = absurd cc

before_takes : {A : Type 0} (k : ℕ) (f : Format A) (test : Test A) → Exact f → (bytes : List ℕ) (z : A × List ℕ) → IsBytes bytes → (tested_before k f test).read bytes ≡ Ok z → Takes (tested_before k f test) bytes z
before_takes {A} k f test h bytes z fits e =
    let p = bind_ok (f.read bytes) (λ x. judge_left (test x.0) (length bytes + k) x.0 x.1) z e in
    let t = h.takes bytes p.0 fits p.1 in
    let j = judge_left_ok (test p.0.0) (length bytes + k) p.0.0 p.0.1 z p.2 in
    subst (λ (z : A × List ℕ). Takes (tested_before k f test) bytes z) j.1 (record { parts = t.parts; rest = t.rest; fits = (t.fits, j.0) })

before_again : {A : Type 0} (k : ℕ) (f : Format A) (test : Test A) → Exact f → (a : A) (rest : List ℕ) → (tested_before k f test).fits a → (tested_before k f test).read (f.form a ++ rest) ≡ Ok (a, rest)
before_again {A} k f test h a rest fits =
    ap (λ (r : Read A). r >>= λ x. judge_left (test x.0) (length (f.form a ++ rest) + k) x.0 x.1) (h.again a rest fits.0)
    ∙ ap (λ (o : Option CodeErrorKind). judge_left o (length (f.form a ++ rest) + k) a rest) fits.1

pub before_exact : {A : Type 0} (k : ℕ) (f : Format A) (test : Test A) → Exact f → Exact (tested_before k f test)
before_exact k f test h = record { takes = before_takes k f test h; again = before_again k f test h }

pub only_exact : {A : Type 0} (a : A) → Exact (only a)
only_exact a = record {
  takes = λ bytes x fits e. subst (λ x. Takes (only a) bytes x) (ok_is (a, bytes) x e) (record { parts = refl; rest = fits; fits = refl });
  again = λ b rest e. ap (λ x. Ok (x, rest)) (sym e);
}

never_takes : {A : Type 0} (bytes : List ℕ) (x : A × List ℕ) → IsBytes bytes → (never {A = A}).read bytes ≡ Ok x → Takes (never {A = A}) bytes x
never_takes bytes x fits e = absurd cc

pub never_exact : {A : Type 0} → Exact (never {A = A})
never_exact = record { takes = never_takes; again = λ a rest h. absurd h }

-- ---- one of a list

found_ok : {A : Type 0} (kind : CodeErrorKind) (o : Option A) (bytes : List ℕ) (rest : List ℕ) (x : A × List ℕ) → found kind o bytes rest ≡ Ok x → (a : A) × (o ≡ Some a) × ((a, rest) ≡ x)
found_ok kind None bytes rest x e = absurd cc
found_ok kind (Some a) bytes rest x e = (a, refl, ok_is (a, rest) x e)

-- each item of a list stands at its place, from this one on
abbrev pub InOrder : {A : Type 0} → (A → ℕ) → ℕ → List A → Type 0
InOrder place n [] = Unit {0}
InOrder place n (x ∷ xs) = (place x ≡ n) × InOrder place (suc n) xs

-- where the places are the numbers from this one on
pub in_order_by : {A : Type 0} (place : A → ℕ) (n : ℕ) (all : List A) → map place all ≡ numbers_from n (length all) → InOrder place n all
in_order_by place n [] e = tt
in_order_by place n (x ∷ xs) e = (ap (λ ns. get_or ns 0 n) e, in_order_by place (suc n) xs (ap (drop 1) e))

pub some_is : {A : Type 0} (x y : A) → Some x ≡ Some y → x ≡ y
some_is x y e = cc

pub placed : {A : Type 0} (place : A → ℕ) (n : ℕ) (all : List A) → InOrder place n all → (i : ℕ) (a : A) → nth all i ≡ Some a → place a ≡ n + i
placed place n [] h i a e = absurd cc
placed place n (x ∷ xs) h zero a e = ap place (sym (some_is x a e)) ∙ h.0 ∙ (omega arith)
placed place n (x ∷ xs) h (suc i) a e = placed place (suc n) xs h.1 i a e ∙ (omega arith)

-- from the first on
pub placed_at : {A : Type 0} (place : A → ℕ) (all : List A) → InOrder place 0 all → (i : ℕ) (a : A) → nth all i ≡ Some a → place a ≡ i
placed_at place all h i a e = omega (arith, placed place 0 all h i a e)

one_of_takes : {A : Type 0} (field : Format ℕ) (all : List A) (place : A → ℕ) (kind : CodeErrorKind) → Exact field → InOrder place 0 all
    → (bytes : List ℕ) (z : A × List ℕ) → IsBytes bytes → (one_of field all place kind).read bytes ≡ Ok z → Takes (one_of field all place kind) bytes z
one_of_takes {A} field all place kind h order bytes z fits e =
    let p = bind_ok (field.read bytes) (λ n. found kind (nth all n.0) bytes n.1) z e in
    let t = h.takes bytes p.0 fits p.1 in
    let f = found_ok kind (nth all p.0.0) bytes p.0.1 z p.2 in
    let at : p.0.0 ≡ place f.0 = sym (placed_at place all order p.0.0 f.0 f.1) in
    subst (λ (z : A × List ℕ). Takes (one_of field all place kind) bytes z) f.2 (record {
      parts = t.parts ∙ ap (λ (n : ℕ). field.form n ++ p.0.1) at;
      rest = t.rest;
      fits = (subst (λ (n : ℕ). field.fits n) at t.fits, ap (nth all) (sym at) ∙ f.1);
    })

one_of_again : {A : Type 0} (field : Format ℕ) (all : List A) (place : A → ℕ) (kind : CodeErrorKind) → Exact field
    → (a : A) (rest : List ℕ) → (one_of field all place kind).fits a → (one_of field all place kind).read ((one_of field all place kind).form a ++ rest) ≡ Ok (a, rest)
one_of_again {A} field all place kind h a rest fits =
    ap (λ (r : Read ℕ). r >>= λ n. found kind (nth all n.0) (field.form (place a) ++ rest) n.1) (h.again (place a) rest fits.0)
    ∙ ap (λ (o : Option A). found kind o (field.form (place a) ++ rest) rest) fits.1

pub one_of_exact : {A : Type 0} (field : Format ℕ) (all : List A) (place : A → ℕ) (kind : CodeErrorKind) → Exact field → InOrder place 0 all → Exact (one_of field all place kind)
one_of_exact field all place kind h order = record { takes = one_of_takes field all place kind h order; again = one_of_again field all place kind h }

-- ---- put together

pair_takes : {A B : Type 0} (f : Format A) (g : A → Format B) → Exact f → ((a : A) → Exact (g a)) → (bytes : List ℕ) (z : (A × B) × List ℕ) → IsBytes bytes → (pair f g).read bytes ≡ Ok z → Takes (pair f g) bytes z
pair_takes {A} {B} f g h k bytes z fits e =
    let p = bind_ok (f.read bytes) (λ x. (g x.0).read x.1 >>= λ y. Ok ((x.0, y.0), y.1)) z e in
    let q = bind_ok ((g p.0.0).read p.0.1) (λ y. Ok ((p.0.0, y.0), y.1)) z p.2 in
    let t = h.takes bytes p.0 fits p.1 in
    let u = (k p.0.0).takes p.0.1 q.0 t.rest q.1 in
    let whole : bytes ≡ (f.form p.0.0 ++ (g p.0.0).form q.0.0) ++ q.0.1 = t.parts ∙ ap (λ r. f.form p.0.0 ++ r) u.parts ∙ sym (append_assoc (f.form p.0.0) ((g p.0.0).form q.0.0) q.0.1) in
    subst (λ (z : (A × B) × List ℕ). Takes (pair f g) bytes z) (ok_is ((p.0.0, q.0.0), q.0.1) z q.2) (record { parts = whole; rest = u.rest; fits = (t.fits, u.fits) })

pair_again : {A B : Type 0} (f : Format A) (g : A → Format B) → Exact f → ((a : A) → Exact (g a)) → (z : A × B) (rest : List ℕ) → (pair f g).fits z → (pair f g).read ((pair f g).form z ++ rest) ≡ Ok (z, rest)
pair_again {A} {B} f g h k z rest fits =
    ap (pair f g).read (append_assoc (f.form z.0) ((g z.0).form z.1) rest)
    ∙ ap (λ (r : Read A). r >>= λ x. (g x.0).read x.1 >>= λ y. Ok ((x.0, y.0), y.1)) (h.again z.0 ((g z.0).form z.1 ++ rest) fits.0)
    ∙ ap (λ (r : Read B). r >>= λ y. Ok ((z.0, y.0), y.1)) ((k z.0).again z.1 rest fits.1)

pub pair_exact : {A B : Type 0} (f : Format A) (g : A → Format B) → Exact f → ((a : A) → Exact (g a)) → Exact (pair f g)
pair_exact f g h k = record { takes = pair_takes f g h k; again = pair_again f g h k }

mapped_takes : {A B : Type 0} (to : A → B) (from : B → A) (f : Format A) → Exact f → ((a : A) → f.fits a → from (to a) ≡ a) → (bytes : List ℕ) (z : B × List ℕ) → IsBytes bytes → (mapped to from f).read bytes ≡ Ok z → Takes (mapped to from f) bytes z
mapped_takes {A} {B} to from f h back bytes z fits e =
    let p = bind_ok (f.read bytes) (λ x. Ok (to x.0, x.1)) z e in
    let t = h.takes bytes p.0 fits p.1 in
    let b = back p.0.0 t.fits in
    subst (λ (z : B × List ℕ). Takes (mapped to from f) bytes z) (ok_is (to p.0.0, p.0.1) z p.2) (record {
      parts = t.parts ∙ ap (λ a. f.form a ++ p.0.1) (sym b);
      rest = t.rest;
      fits = (subst (λ a. f.fits a) (sym b) t.fits, ap to b);
    })

mapped_again : {A B : Type 0} (to : A → B) (from : B → A) (f : Format A) → Exact f → (b : B) (rest : List ℕ) → (mapped to from f).fits b → (mapped to from f).read ((mapped to from f).form b ++ rest) ≡ Ok (b, rest)
mapped_again {A} {B} to from f h b rest fits =
    ap (λ (r : Read A). r >>= λ x. Ok (to x.0, x.1)) (h.again (from b) rest fits.0) ∙ ap (λ (b : B). Ok (b, rest)) fits.1

pub mapped_exact : {A B : Type 0} (to : A → B) (from : B → A) (f : Format A) → Exact f → ((a : A) → f.fits a → from (to a) ≡ a) → Exact (mapped to from f)
mapped_exact to from f h back = record { takes = mapped_takes to from f h back; again = mapped_again to from f h }

many_takes : {A : Type 0} (f : Format A) → Exact f → (n : ℕ) (bytes : List ℕ) (z : List A × List ℕ) → IsBytes bytes → many_at f.read n bytes ≡ Ok z → Takes (many n f) bytes z
unfolding many_at
many_takes {A} f h zero bytes z fits e =
    subst (λ (z : List A × List ℕ). Takes (many 0 f) bytes z) (ok_is ([], bytes) z e) (record { parts = refl; rest = fits; fits = (refl, tt) })
many_takes {A} f h (suc n) bytes z fits e =
    let p = bind_ok (f.read bytes) (λ x. many_at f.read n x.1 >>= λ xs. Ok (x.0 ∷ xs.0, xs.1)) z e in
    let q = bind_ok (many_at f.read n p.0.1) (λ xs. Ok (p.0.0 ∷ xs.0, xs.1)) z p.2 in
    let t = h.takes bytes p.0 fits p.1 in
    let u = many_takes f h n p.0.1 q.0 t.rest q.1 in
    let whole : bytes ≡ (f.form p.0.0 ++ flat_map f.form q.0.0) ++ q.0.1 = t.parts ∙ ap (λ r. f.form p.0.0 ++ r) u.parts ∙ sym (append_assoc (f.form p.0.0) (flat_map f.form q.0.0) q.0.1) in
    subst (λ (z : List A × List ℕ). Takes (many (suc n) f) bytes z) (ok_is (p.0.0 ∷ q.0.0, q.0.1) z q.2) (record { parts = rw flat_map-cons whole; rest = u.rest; fits = (ap suc u.fits.0, (t.fits, u.fits.1)) })

many_again : {A : Type 0} (f : Format A) → Exact f → (xs : List A) (rest : List ℕ) → AllByRecursion f.fits xs → many_at f.read (length xs) (flat_map f.form xs ++ rest) ≡ Ok (xs, rest)
unfolding many_at
many_again f h [] rest fits = refl
many_again {A} f h (x ∷ xs) rest fits =
    ap (many_at f.read (suc (length xs))) (ap (λ (bs : List ℕ). bs ++ rest) (flat_map-cons f.form x xs) ∙ append_assoc (f.form x) (flat_map f.form xs) rest)
    ∙ ap (λ (r : Read A). r >>= λ x. many_at f.read (length xs) x.1 >>= λ xs. Ok (x.0 ∷ xs.0, xs.1)) (h.again x (flat_map f.form xs ++ rest) fits.0)
    ∙ ap (λ (r : Read (List A)). r >>= λ xs. Ok (x ∷ xs.0, xs.1)) (many_again f h xs rest fits.1)

pub many_exact : {A : Type 0} (n : ℕ) (f : Format A) → Exact f → Exact (many n f)
many_exact n f h = record {
  takes = many_takes f h n;
  again = λ xs rest fits. subst (λ (k : ℕ). many_at f.read k (flat_map f.form xs ++ rest) ≡ Ok (xs, rest)) fits.0 (many_again f h xs rest fits.1);
}

pub counted_exact : {A : Type 0} (count : Format ℕ) (f : Format A) → Exact count → Exact f → Exact (counted count f)
counted_exact count f h k =
    mapped_exact (λ p. p.1) (λ xs. (length xs, xs)) (pair count (λ n. many n f)) (pair_exact count (λ n. many n f) h (λ n. many_exact n f k)) (λ p fits. ap (λ n. (n, p.1)) fits.1.0)

tagged_takes : {A T : Type 0} (field : Format T) (tag : A → T) (body : T → Format A) → Exact field → ((t : T) → Exact (body t)) → ((t : T) (a : A) → (body t).fits a → tag a ≡ t) → (bytes : List ℕ) (z : A × List ℕ) → IsBytes bytes → (tagged field tag body).read bytes ≡ Ok z → Takes (tagged field tag body) bytes z
tagged_takes {A} {T} field tag body k h tells bytes z fits e =
    let p = bind_ok (field.read bytes) (λ t. (body t.0).read t.1) z e in
    let t = k.takes bytes p.0 fits p.1 in
    let u = (h p.0.0).takes p.0.1 z t.rest p.2 in
    let same = sym (tells p.0.0 z.0 u.fits) in
    record {
      parts = t.parts ∙ ap (λ (r : List ℕ). field.form p.0.0 ++ r) u.parts ∙ sym (append_assoc (field.form p.0.0) ((body p.0.0).form z.0) z.1) ∙ ap (λ (k : T). (field.form k ++ (body k).form z.0) ++ z.1) same;
      rest = u.rest;
      fits = (subst (λ (k : T). field.fits k) same t.fits, subst (λ (k : T). (body k).fits z.0) same u.fits);
    }

tagged_again : {A T : Type 0} (field : Format T) (tag : A → T) (body : T → Format A) → Exact field → ((t : T) → Exact (body t)) → (a : A) (rest : List ℕ) → (tagged field tag body).fits a → (tagged field tag body).read ((tagged field tag body).form a ++ rest) ≡ Ok (a, rest)
tagged_again {A} {T} field tag body k h a rest fits =
    ap (tagged field tag body).read (append_assoc (field.form (tag a)) ((body (tag a)).form a) rest)
    ∙ ap (λ (r : Read T). r >>= λ t. (body t.0).read t.1) (k.again (tag a) ((body (tag a)).form a ++ rest) fits.0) ∙ (h (tag a)).again a rest fits.1

pub tagged_exact : {A T : Type 0} (field : Format T) (tag : A → T) (body : T → Format A) → Exact field → ((t : T) → Exact (body t)) → ((t : T) (a : A) → (body t).fits a → tag a ≡ t) → Exact (tagged field tag body)
tagged_exact field tag body k h tells = record { takes = tagged_takes field tag body k h tells; again = tagged_again field tag body k h }

-- ---- values that share a limit

sharing_takes : {A : Type 0} (size : A → ℕ) (f : ℕ → Format A) → ((left : ℕ) → Exact (f left)) → (n left : ℕ) (bytes : List ℕ) (z : List A × List ℕ) → IsBytes bytes → sharing_at size f n left bytes ≡ Ok z → Takes (sharing size f n left) bytes z
unfolding sharing_at sharing_form SharingFits
sharing_takes {A} size f h zero left bytes z fits e =
    subst (λ (z : List A × List ℕ). Takes (sharing size f 0 left) bytes z) (ok_is ([], bytes) z e) (record { parts = refl; rest = fits; fits = tt })
sharing_takes {A} size f h (suc n) left bytes z fits e =
    let p = bind_ok ((f left).read bytes) (λ x. sharing_at size f n (left - size x.0) x.1 >>= λ xs. Ok (x.0 ∷ xs.0, xs.1)) z e in
    let rest = left - size p.0.0 in
    let q = bind_ok (sharing_at size f n rest p.0.1) (λ xs. Ok (p.0.0 ∷ xs.0, xs.1)) z p.2 in
    let t = (h left).takes bytes p.0 fits p.1 in
    let u = sharing_takes size f h n rest p.0.1 q.0 t.rest q.1 in
    let whole : bytes ≡ ((f left).form p.0.0 ++ sharing_form size f rest q.0.0) ++ q.0.1 = t.parts ∙ ap (λ r. (f left).form p.0.0 ++ r) u.parts ∙ sym (append_assoc ((f left).form p.0.0) (sharing_form size f rest q.0.0) q.0.1) in
    subst (λ (z : List A × List ℕ). Takes (sharing size f (suc n) left) bytes z) (ok_is (p.0.0 ∷ q.0.0, q.0.1) z q.2) (record { parts = whole; rest = u.rest; fits = (t.fits, u.fits) })

sharing_again : {A : Type 0} (size : A → ℕ) (f : ℕ → Format A) → ((left : ℕ) → Exact (f left)) → (n left : ℕ) (xs : List A) (rest : List ℕ) → SharingFits size f n left xs
    → sharing_at size f n left (sharing_form size f left xs ++ rest) ≡ Ok (xs, rest)
unfolding sharing_at sharing_form SharingFits
sharing_again size f h zero left [] rest fits = refl
sharing_again size f h zero left (x ∷ xs) rest fits = absurd fits
sharing_again size f h (suc n) left [] rest fits = absurd fits
sharing_again {A} size f h (suc n) left (x ∷ xs) rest fits =
    let more = sharing_form size f (left - size x) xs in
    ap (sharing_at size f (suc n) left) (append_assoc ((f left).form x) more rest)
    ∙ ap (λ (r : Read A). r >>= λ y. sharing_at size f n (left - size y.0) y.1 >>= λ xs. Ok (y.0 ∷ xs.0, xs.1)) ((h left).again x (more ++ rest) fits.0)
    ∙ ap (λ (r : Read (List A)). r >>= λ xs. Ok (x ∷ xs.0, xs.1)) (sharing_again size f h n (left - size x) xs rest fits.1)

pub sharing_exact : {A : Type 0} (size : A → ℕ) (f : ℕ → Format A) → ((left : ℕ) → Exact (f left)) → (n left : ℕ) → Exact (sharing size f n left)
sharing_exact size f h n left = record { takes = sharing_takes size f h n left; again = sharing_again size f h n left }

-- ---- all of the bytes

ended : {A : Type 0} (b : Bool) (bytes : List ℕ) (x y : A) → cond b (Ok x) (refuse Trailing bytes) ≡ Ok y → (b ≡ true) × (x ≡ y)
ended true bytes x y e = (refl, ok_is x y e)
ended false bytes x y e = absurd cc

pub whole_takes : {A : Type 0} (f : Format A) → Exact f → (bytes : List ℕ) (a : A) → IsBytes bytes → whole f bytes ≡ Ok a → f.fits a × (bytes ≡ f.form a)
whole_takes {A} f h bytes a fits e =
    let p = bind_ok (f.read bytes) (λ x. cond (eqb (length x.1) 0) (Ok x.0) (refuse Trailing x.1)) a e in
    let g = ended (eqb (length p.0.1) 0) p.0.1 p.0.0 a p.2 in
    let t = h.takes bytes p.0 fits p.1 in
    let nothing : p.0.1 ≡ [] = nil_from_length p.0.1 (eqb-true _ _ g.0) in
    let parts : bytes ≡ f.form p.0.0 = t.parts ∙ ap (λ (r : List ℕ). f.form p.0.0 ++ r) nothing ∙ append-nil (f.form p.0.0) in
    subst (λ (a : A). f.fits a × (bytes ≡ f.form a)) g.1 (t.fits, parts)

pub whole_again : {A : Type 0} (f : Format A) → Exact f → (a : A) → f.fits a → whole f (f.form a) ≡ Ok a
whole_again {A} f h a fits =
    ap (whole f) (sym (append-nil (f.form a))) ∙ ap (λ (r : Read A). r >>= λ x. cond (eqb (length x.1) 0) (Ok x.0) (refuse Trailing x.1)) (h.again a [] fits)
