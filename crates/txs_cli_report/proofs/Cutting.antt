-- Texts cut at a byte.
use Rattle.std.proofs.Common.{◌≡◌, ◌≢◌, ℕ, suc, ◌<◌, Bool, true, false, eqb, List, [], ◌∷◌, ◌++◌, length, get_or, Option, Some, None, refl, ap, ◌∙◌, if◌then◌else◌, inl, inr, arith}
use Rattle.std.specs.Option.{option_map}
use Rattle.std.proofs.lemmas.Bool.Decides.{eqb_tells}
use Rattle.txs_machine.specs.declared.schedule.Play.{Play}
use Rattle.txs_machine.specs.declared.schedule.Play.TheVariants.{Turn, Ask}
use Rattle.txs_cli_report.specs.Plays.{number_in, thread_in, play_in, repeated, times_in, item_in, lead, cut_at, led_by, items_in}

-- the byte stands nowhere
abbrev pub IsWithout : ℕ → List ℕ → Type 0
IsWithout c bs = (i : ℕ) → i < length bs → get_or bs i 0 ≢ c

on : (c : ℕ) → eqb c c ≡ true
on c = elim (eqb_tells c c) [ inl t ↦ t.0 | inr t ↦ absurd (t.1 refl) ]

off : (c b : ℕ) (bs : List ℕ) → IsWithout c (b ∷ bs) → eqb b c ≡ false
off c b bs h = elim (eqb_tells b c) [ inl t ↦ absurd (h 0 (omega arith) t.1) | inr t ↦ t.0 ]

behind : (c b : ℕ) (bs : List ℕ) → IsWithout c (b ∷ bs) → IsWithout c bs
behind c b bs h i lt = h (suc i) (omega (arith, lt))

abbrev cut_if : ℕ → ℕ → List ℕ → Bool → Option (List ℕ × List ℕ)
cut_if c b bs t = if t then Some ([], bs) else option_map (lead b) (cut_at c bs)

abbrev items_if : ℕ → List ℕ → Bool → List (List ℕ)
items_if b bs t = if t then [] ∷ items_in bs else led_by b (items_in bs)

abbrev play_if : ℕ → List ℕ → Bool → Option Play
play_if b bs t = if t then option_map Turn (thread_in bs) else option_map Ask (thread_in (b ∷ bs))

-- without the byte there is no cut
pub uncut : (c : ℕ) (bs : List ℕ) → IsWithout c bs → cut_at c bs ≡ None
uncut c [] h = refl
uncut c (b ∷ bs) h = ap (cut_if c b bs) (off c b bs h) ∙ ap (option_map (lead b)) (uncut c bs (behind c b bs h))

-- the cut is at the first such byte
pub cut_there : (c : ℕ) (xs ys : List ℕ) → IsWithout c xs → cut_at c (xs ++ c ∷ ys) ≡ Some (xs, ys)
cut_there c [] ys h = ap (cut_if c c ys) (on c)
cut_there c (x ∷ xs) ys h = ap (cut_if c x (xs ++ c ∷ ys)) (off c x xs h) ∙ ap (option_map (lead x)) (cut_there c xs ys (behind c x xs h))

-- a text without a comma is one item
pub one_item : (bs : List ℕ) → IsWithout 44 bs → items_in bs ≡ bs ∷ []
one_item [] h = refl
one_item (b ∷ bs) h = ap (items_if b bs) (off 44 b bs h) ∙ ap (led_by b) (one_item bs (behind 44 b bs h))

-- the first item stands before the first comma
pub first_item : (xs ys : List ℕ) → IsWithout 44 xs → items_in (xs ++ 44 ∷ ys) ≡ xs ∷ items_in ys
first_item [] ys h = refl
first_item (x ∷ xs) ys h = ap (items_if x (xs ++ 44 ∷ ys)) (off 44 x xs h) ∙ ap (led_by x) (first_item xs ys (behind 44 x xs h))

-- a text that doesn't begin with `t` says the other play
pub unled : (bs : List ℕ) → ((rest : List ℕ) → bs ≢ 116 ∷ rest) → play_in bs ≡ option_map Ask (thread_in bs)
unfolding number_in
unled [] h = refl
unled (b ∷ bs) h =
    let other : eqb b 116 ≡ false = elim (eqb_tells b 116) [ inl t ↦ absurd (h bs (ap (λ (x : ℕ). x ∷ bs) t.1)) | inr t ↦ t.0 ] in
    ap (play_if b bs) other

-- an item with an `x` says its play as often as the number behind it says, and one without says it once
pub many_said : (text play times : List ℕ) → text ≡ play ++ 120 ∷ times → IsWithout 120 play → item_in text ≡ repeated (play_in play) (number_in 1 100000 times)
many_said text play times cut without = ap (times_in text) (ap (cut_at 120) cut ∙ cut_there 120 play times without)

pub one_said : (text : List ℕ) → IsWithout 120 text → item_in text ≡ repeated (play_in text) (Some 1)
one_said text without = ap (times_in text) (uncut 120 text without)

-- without a play or a number nothing is said
pub no_play : (times : Option ℕ) → repeated None times ≡ None
no_play times = refl

pub no_times : (play : Option Play) → repeated play None ≡ None
no_times None = refl
no_times (Some p) = refl
