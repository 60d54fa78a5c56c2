-- Lines of texts, one after another, and what two lists of lines have in common.
use Rattle.std.proofs.Common.{◌≡◌, ◌<◌, ◌≤◌, ◌+◌, ◌-◌, ◌++◌, ◌∙◌, ℕ, zero, suc, true, false, List, [], ◌∷◌, length, take, drop, get_or, Result, Ok, Err, OnOk, refl, sym, ap, subst, codes, append_assoc, arith}
use Rattle.std.specs.Prelude.{if◌then◌else◌}
use Rattle.std.specs.Borrow.{Bor}
use Rattle.std.proofs.lemmas.List.{drop_more, drop_all, take_more, take_more_same, append-nil, take_all, take-append-drop, length-drop}
use Rattle.txs_cli_explore.specs.Changes.{IsChange, is_newline, led_by, lines_in, lines_of, signed}

-- ---- lists

pub dropped : {A : Type 0} (xs : List A) (i : ℕ) (x : A) → i < length xs → x ≡ get_or xs i x → drop i xs ≡ x ∷ drop (i + 1) xs
dropped xs i x l e = drop_more xs i x l ∙ ap (λ z. z ∷ drop (i + 1) xs) (sym e)

pub taken : {A : Type 0} (xs : List A) (i : ℕ) (x : A) → i < length xs → x ≡ get_or xs i x → take (i + 1) xs ≡ take i xs ++ x ∷ []
taken xs i x l e = take_more xs i x l ∙ ap (λ z. take i xs ++ z ∷ []) (sym e)

-- what is behind so many items, up to the end
pub rest_is : {A : Type 0} (n : ℕ) (xs : List A) → take (length xs - n) (drop n xs) ≡ drop n xs
rest_is n xs = take_all (length xs - n) (drop n xs) (let e = length-drop n xs in omega (arith, e))

-- ---- the lines of a text

-- a newline ends the first line
pub line_split : (text : List ℕ) (i : ℕ) → i < length text → ((k : ℕ) → k < i → is_newline (get_or text k 0) ≡ false) → is_newline (get_or text i 0) ≡ true → lines_in text ≡ take i text ∷ lines_in (drop (i + 1) text)
line_split [] i l none here = absurd (omega (arith, l))
line_split (b ∷ bs) zero l none here =
    let one : zero + 1 ≡ 1 = omega arith in
    ap (λ z. if z then [] ∷ lines_in bs else led_by b (lines_in bs)) here ∙ ap (λ n. [] ∷ lines_in (drop n (b ∷ bs))) (sym one)
line_split (b ∷ bs) (suc i) l none here =
    let on : suc (i + 1) ≡ suc i + 1 = omega arith in
    ap (λ z. if z then [] ∷ lines_in bs else led_by b (lines_in bs)) (none zero (omega arith))
    ∙ ap (led_by b) (line_split bs i (omega (arith, l)) (λ k h. none (suc k) (omega (arith, h))) here)
    ∙ ap (λ n. (b ∷ take i bs) ∷ lines_in (drop n (b ∷ bs))) on

-- without one it is the only one
pub line_last : (text : List ℕ) → 0 < length text → ((k : ℕ) → k < length text → is_newline (get_or text k 0) ≡ false) → lines_in text ≡ text ∷ []
line_last [] l none = absurd (omega (arith, l))
line_last (b ∷ []) l none = ap (λ z. if z then [] ∷ [] else led_by b []) (none zero (omega arith))
line_last (b ∷ c ∷ cs) l none =
    ap (λ z. if z then [] ∷ lines_in (c ∷ cs) else led_by b (lines_in (c ∷ cs))) (none zero (omega arith))
    ∙ ap (led_by b) (line_last (c ∷ cs) (omega arith) (λ k h. none (suc k) (omega (arith, h))))

lines_push : (ls : List (Bor (List ℕ))) (l : Bor (List ℕ)) → lines_of (ls ++ l ∷ []) ≡ lines_of ls ++ l.now ∷ []
lines_push [] l = refl
lines_push (x ∷ ls) l = ap (λ z. x.now ∷ z) (lines_push ls l)

-- one line more of a text
pub line_added : (ls new : List (Bor (List ℕ))) (l : Bor (List ℕ)) (rest later : List ℕ) (all : List (List ℕ)) → new ≡ ls ++ l ∷ [] → lines_in rest ≡ l.now ∷ lines_in later → lines_of ls ++ lines_in rest ≡ all → lines_of new ++ lines_in later ≡ all
line_added ls new l rest later all e f h =
    ap (λ z. lines_of z ++ lines_in later) e ∙ ap (λ z. z ++ lines_in later) (lines_push ls l) ∙ append_assoc (lines_of ls) (l.now ∷ []) (lines_in later) ∙ ap (λ z. lines_of ls ++ z) (sym f) ∙ h

-- the last line of a text
pub lines_done : (ls : List (Bor (List ℕ))) (rest : List ℕ) (all : List (List ℕ)) → rest ≡ [] → lines_of ls ++ lines_in rest ≡ all → lines_of ls ≡ all
lines_done ls rest all e h = sym (append-nil (lines_of ls)) ∙ ap (λ r. lines_of ls ++ lines_in r) (sym e) ∙ h

-- ---- lines with a sign

-- one line more
pub signed_more : (out new sign all : List ℕ) (ls : List (Bor (List ℕ))) (i : ℕ) (l : Bor (List ℕ)) → i < length ls → l ≡ get_or ls i l → new ≡ ((out ++ sign) ++ l.now) ++ codes "\n"
    → out ++ signed sign (lines_of (drop i ls)) ≡ all → new ++ signed sign (lines_of (drop (i + 1) ls)) ≡ all
signed_more out new sign all ls i l lt is e h =
    let rest : List ℕ = signed sign (lines_of (drop (i + 1) ls)) in
    ap (λ z. z ++ rest) e ∙ ap (λ z. (z ++ codes "\n") ++ rest) (append_assoc out sign l.now) ∙ ap (λ z. z ++ rest) (append_assoc out (sign ++ l.now) (codes "\n")) ∙ append_assoc out ((sign ++ l.now) ++ codes "\n") rest
    ∙ ap (λ ds. out ++ signed sign (lines_of ds)) (sym (dropped ls i l lt is)) ∙ h

pub signed_done : (out sign all : List ℕ) (ls : List (Bor (List ℕ))) (i : ℕ) → length ls ≤ i → out ++ signed sign (lines_of (drop i ls)) ≡ all → out ≡ all
signed_done out sign all ls i le h = sym (append-nil out) ∙ ap (λ ds. out ++ signed sign (lines_of ds)) (sym (drop_all i ls le)) ∙ h

-- ---- what two lists of lines have in common

lines_length : (ls : List (Bor (List ℕ))) → length (lines_of ls) ≡ length ls
lines_length [] = refl
lines_length (l ∷ ls) = ap suc (lines_length ls)

lines_drop : (n : ℕ) (ls : List (Bor (List ℕ))) → lines_of (drop n ls) ≡ drop n (lines_of ls)
lines_drop zero ls = refl
lines_drop (suc n) [] = refl
lines_drop (suc n) (l ∷ ls) = lines_drop n ls

lines_take : (n : ℕ) (ls : List (Bor (List ℕ))) → lines_of (take n ls) ≡ take n (lines_of ls)
lines_take zero ls = refl
lines_take (suc n) [] = refl
lines_take (suc n) (l ∷ ls) = ap (λ z. l.now ∷ z) (lines_take n ls)

line_at : (ls : List (Bor (List ℕ))) (i : ℕ) (d : Bor (List ℕ)) (e : List ℕ) → i < length ls → get_or (lines_of ls) i e ≡ (get_or ls i d).now
line_at [] i d e lt = absurd (omega (arith, lt))
line_at (x ∷ ls) zero d e lt = refl
line_at (x ∷ ls) (suc i) d e lt = line_at ls i d e (omega (arith, lt))

module _ (a b : List (Bor (List ℕ))) where
  -- one line more from the first on
  pub first_more : (i : ℕ) (d e : Bor (List ℕ)) → i < length a → i < length b → (get_or a i d).now ≡ (get_or b i e).now → take i (lines_of a) ≡ take i (lines_of b) → take (i + 1) (lines_of a) ≡ take (i + 1) (lines_of b)
  first_more i d e l m same h =
      take_more_same (lines_of a) (lines_of b) i [] (subst (λ n. i < n) (sym (lines_length a)) l) (subst (λ n. i < n) (sym (lines_length b)) m) h (line_at a i d [] l ∙ same ∙ sym (line_at b i e [] m))

  drop_at : (ls : List (Bor (List ℕ))) (i j : ℕ) (d : Bor (List ℕ)) → i < length ls → j ≡ length ls - i - 1 → drop (length ls - (i + 1)) (lines_of ls) ≡ (get_or ls j d).now ∷ drop (length ls - i) (lines_of ls)
  drop_at ls i j d l e =
      let below : j < length ls = omega (arith, l, e) in
      let this : length ls - (i + 1) ≡ j = omega (arith, l, e) in
      let next : j + 1 ≡ length ls - i = omega (arith, l, e) in
      ap (λ n. drop n (lines_of ls)) this ∙ drop_more (lines_of ls) j [] (subst (λ n. j < n) (sym (lines_length ls)) below) ∙ ap (λ z. z ∷ drop (j + 1) (lines_of ls)) (line_at ls j d [] below)
      ∙ ap (λ n. (get_or ls j d).now ∷ drop n (lines_of ls)) next

  -- one line more from the last on
  pub last_more : (i j k : ℕ) (d e : Bor (List ℕ)) → i < length a → i < length b → j ≡ length a - i - 1 → k ≡ length b - i - 1 → (get_or a j d).now ≡ (get_or b k e).now
      → drop (length a - i) (lines_of a) ≡ drop (length b - i) (lines_of b) → drop (length a - (i + 1)) (lines_of a) ≡ drop (length b - (i + 1)) (lines_of b)
  last_more i j k d e l m p q same h =
      drop_at a i j d l p ∙ ap (λ z. z ∷ drop (length a - i) (lines_of a)) same ∙ ap (λ z. (get_or b k e).now ∷ z) h ∙ sym (drop_at b i k e m q)

  none_last : (ls : List (Bor (List ℕ))) → drop (length ls - 0) (lines_of ls) ≡ []
  none_last ls = drop_all (length ls - 0) (lines_of ls) (let e = lines_length ls in omega (arith, e))

  -- at first none
  pub last_none : drop (length a - 0) (lines_of a) ≡ drop (length b - 0) (lines_of b)
  last_none = none_last a ∙ sym (none_last b)

  parts : (ls rest : List (Bor (List ℕ))) (front n : ℕ) → rest ≡ drop front ls → lines_of ls ≡ take front (lines_of ls) ++ (lines_of (take n rest) ++ drop n (lines_of rest))
  parts ls rest front n e =
      sym (take-append-drop front (lines_of ls))
      ∙ ap (λ z. take front (lines_of ls) ++ z) (sym (lines_drop front ls) ∙ ap lines_of (sym e) ∙ sym (take-append-drop n (lines_of rest)) ∙ ap (λ z. z ++ drop n (lines_of rest)) (sym (lines_take n rest)))

  -- what is between the lines that both have is the change
  pub change_is : (c d : List (Bor (List ℕ))) (front n m : ℕ) (change : List ℕ) → c ≡ drop front a → d ≡ drop front b → take front (lines_of a) ≡ take front (lines_of b) → drop n (lines_of c) ≡ drop m (lines_of d)
      → change ≡ signed (codes "- ") (lines_of (take n c)) ++ signed (codes "+ ") (lines_of (take m d)) → IsChange (lines_of a) (lines_of b) change
  change_is c d front n m change e f begin end is = record {
    before = take front (lines_of a);
    without = lines_of (take n c);
    instead = lines_of (take m d);
    behind = drop n (lines_of c);
    of_first = parts a c front n e;
    of_others = parts b d front m f ∙ ap (λ z. z ++ (lines_of (take m d) ++ drop m (lines_of d))) (sym begin) ∙ ap (λ z. take front (lines_of a) ++ (lines_of (take m d) ++ z)) (sym end);
    written = is;
  }

-- the change is appended
pub differing_is : {A E : Type 0} (r : Result A E) (a b c d : List (Bor (List ℕ))) (front n m : ℕ) (old mid new : List ℕ) → c ≡ drop front a → d ≡ drop front b → take front (lines_of a) ≡ take front (lines_of b) → drop n (lines_of c) ≡ drop m (lines_of d)
    → mid ≡ old ++ signed (codes "- ") (lines_of (take n c)) → OnOk r (new ≡ mid ++ signed (codes "+ ") (lines_of (take m d))) → OnOk r ((change : List ℕ) × IsChange (lines_of a) (lines_of b) change × (new ≡ old ++ change))
differing_is (Ok x) a b c d front n m old mid new e f begin end first next =
    let without : List ℕ = signed (codes "- ") (lines_of (take n c)) in
    let instead : List ℕ = signed (codes "+ ") (lines_of (take m d)) in
    (without ++ instead, change_is a b c d front n m (without ++ instead) e f begin end refl, next ∙ ap (λ z. z ++ instead) first ∙ append_assoc old without instead)
differing_is (Err x) a b c d front n m old mid new e f begin end first next = tt
