-- Plays that are made many times in a row.
use Rattle.std.proofs.Common.{◌≡◌, ◌<◌, ◌+◌, ℕ, zero, suc, Bool, true, false, ◌&&◌, nat_lt, List, [], ◌∷◌, ◌++◌, length, get_or, take, drop, replicate, refl, sym, ap, ◌∙◌, append_assoc, append-nil, arith}
use Rattle.std.proofs.lemmas.List.{drop_more, replicate_more, take_more}
use Rattle.std.proofs.lemmas.Bool.Decides.{nat_tests}
use Rattle.txs_value_data.proofs.SameLemmas.{and_both}
use Rattle.txs_machine.specs.Schedule.{player, all_named, spread}
use Rattle.txs_machine.specs.declared.schedule.Play.{Play}
use Rattle.txs_machine.specs.declared.schedule.Repeated.{Repeated}

and_first : (a b c : Bool) → a && (b && c) ≡ (a && b) && c
and_first true b c = refl
and_first false b c = refl

-- ---- whom plays name

pub named_both : (n : ℕ) (xs ys : List Play) → all_named n (xs ++ ys) ≡ all_named n xs && all_named n ys
named_both n [] ys = refl
named_both n (x ∷ xs) ys = ap (λ b. nat_lt (player x) n && b) (named_both n xs ys) ∙ and_first (nat_lt (player x) n) (all_named n xs) (all_named n ys)

pub none_named : (n t : ℕ) (y : Play) → t ≡ 0 → all_named n (replicate t y) ≡ true
none_named n t y e = ap (λ k. all_named n (replicate k y)) e

all_true : (n t : ℕ) (y : Play) → nat_lt (player y) n ≡ true → all_named n (replicate t y) ≡ true
all_true n zero y e = refl
all_true n (suc t) y e = ap (λ b. b && all_named n (replicate t y)) e ∙ all_true n t y e

pub some_named : (n t : ℕ) (y : Play) → 0 < t → all_named n (replicate t y) ≡ nat_lt (player y) n
some_named n zero y some = absurd (omega (arith, some))
some_named n (suc t) y some = go (nat_lt (player y) n) refl
  where
    go : (b : Bool) → nat_lt (player y) n ≡ b → nat_lt (player y) n && all_named n (replicate t y) ≡ nat_lt (player y) n
    go true e = ap (λ b. b && all_named n (replicate t y)) e ∙ all_true n t y e ∙ sym e
    go false e = ap (λ b. b && all_named n (replicate t y)) e ∙ sym e

-- those of one that is named, and of those behind it, are those from it on
pub named_from : (n i : ℕ) (rs : List Repeated) (d : Repeated) → i < length rs
    → all_named n (spread (drop i rs)) ≡ all_named n (replicate (get_or rs i d).times (get_or rs i d).play) && all_named n (spread (drop (i + 1) rs))
named_from n i rs d lt =
    let r = get_or rs i d in
    ap (λ l. all_named n (spread l)) (drop_more rs i d lt) ∙ named_both n (replicate r.times r.play) (spread (drop (i + 1) rs))

pub named_on : (n i : ℕ) (rs : List Repeated) (d : Repeated) → i < length rs → all_named n (replicate (get_or rs i d).times (get_or rs i d).play) ≡ true
    → all_named n (spread (drop i rs)) ≡ all_named n (spread rs) → all_named n (spread (drop (i + 1) rs)) ≡ all_named n (spread rs)
named_on n i rs d lt named before = sym (ap (λ b. b && all_named n (spread (drop (i + 1) rs))) named) ∙ sym (named_from n i rs d lt) ∙ before

pub unnamed_on : (n i : ℕ) (rs : List Repeated) (d : Repeated) → i < length rs → all_named n (replicate (get_or rs i d).times (get_or rs i d).play) ≡ false
    → all_named n (spread (drop i rs)) ≡ all_named n (spread rs) → false ≡ all_named n (spread rs)
unnamed_on n i rs d lt named before = sym (ap (λ b. b && all_named n (spread (drop (i + 1) rs))) named) ∙ sym (named_from n i rs d lt) ∙ before

-- one that is made is of an actor that is there, where all are
pub named_at : (n i : ℕ) (rs : List Repeated) (d : Repeated) → i < length rs → all_named n (spread rs) ≡ true → 0 < (get_or rs i d).times → player (get_or rs i d).play < n
named_at n i [] d lt named some = absurd (omega (arith, lt))
named_at n zero (r ∷ rs) d lt named some =
    let here = (and_both (all_named n (replicate r.times r.play)) (all_named n (spread rs)) (sym (named_both n (replicate r.times r.play) (spread rs)) ∙ named)).0 in
    let is : nat_lt (player r.play) n ≡ true = sym (some_named n r.times r.play some) ∙ here in
    grind (arith, nat_tests, is)
named_at n (suc i) (r ∷ rs) d lt named some =
    named_at n i rs d (omega (arith, lt)) (and_both (all_named n (replicate r.times r.play)) (all_named n (spread rs)) (sym (named_both n (replicate r.times r.play) (spread rs)) ∙ named)).1 some

-- ---- one more

-- of one that is made many times
pub made_more : (ys : List Play) (n : ℕ) (y : Play) → (ys ++ replicate n y) ++ y ∷ [] ≡ ys ++ replicate (n + 1) y
made_more ys n y = append_assoc ys (replicate n y) (y ∷ []) ∙ ap (λ l. ys ++ l) (replicate_more n y)

pub spread_last : (rs : List Repeated) (r : Repeated) → spread (rs ++ r ∷ []) ≡ spread rs ++ replicate r.times r.play
spread_last [] r = append-nil (replicate r.times r.play)
spread_last (x ∷ rs) r = ap (λ l. replicate x.times x.play ++ l) (spread_last rs r) ∙ sym (append_assoc (replicate x.times x.play) (spread rs) (replicate r.times r.play))

pub spread_more : (rs : List Repeated) (i : ℕ) (d : Repeated) → i < length rs → spread (take i rs) ++ replicate (get_or rs i d).times (get_or rs i d).play ≡ spread (take (i + 1) rs)
spread_more rs i d lt = sym (spread_last (take i rs) (get_or rs i d)) ∙ ap spread (sym (take_more rs i d lt))

-- plays that are each made once
pub once_more : (rs new : List Repeated) (ys : List Play) (i : ℕ) (d : Play) → i < length ys → new ≡ rs ++ (record { play = get_or ys i d; times = 1 }) ∷ [] → spread rs ≡ take i ys → spread new ≡ take (i + 1) ys
once_more rs new ys i d lt pushed before =
    ap spread pushed ∙ spread_last rs (record { play = get_or ys i d; times = 1 }) ∙ ap (λ l. l ++ get_or ys i d ∷ []) before ∙ sym (take_more ys i d lt)
