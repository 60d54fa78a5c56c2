-- The values of literals that a loop has built, and those of a vector.
use Rattle.std.proofs.Common.{◌≡◌, ◌≢◌, ◌<◌, ◌≤◌, ◌+◌, ◌-◌, ◌==◌, ℕ, Bool, true, false, ◌||◌, nat_lt, List, [], ◌∷◌, ◌++◌, append-nil, Some, None, Result, Ok, Err, length, drop, get_or, cond, refl, sym, ap, ◌∙◌, arith, Vec, Global}
use Rattle.std.specs.Prelude.{IfOk}
use Rattle.txs_resolve.specs.declared.stop.Stop.{Stop}
use Rattle.std.proofs.lemmas.Bool.Decides.{nat_tests}
use Rattle.txs_value_data.specs.declared.fault.Span.{Span}
use Rattle.txs_value_data.specs.declared.value.Value.{Value}
use Rattle.txs_value_data.specs.declared.value.Value.TheVariants.{Vector}
use Rattle.txs_value_data.specs.PlainValue.{depth, row_depth, plain_row}
use Rattle.txs_value_data.specs.View.{plain_of, plains_of}
use Rattle.txs_reader.specs.declared.form.Bracket.TheVariants.{Square}
use Rattle.txs_reader.specs.declared.form.Form.{Form, Group}
use Rattle.txs_reader.proofs.Trees.{tree-Group}
use Rattle.txs_reader.specs.Tree.{tree}
use Rattle.txs_resolve_expand.specs.declared.error.ResolveErrorKind.TheVariants.{TooMany}
use Rattle.txs_resolve_expand.specs.Expressions.{Answer}
use Rattle.txs_resolve_expand.specs.declared.error.ResolveError.{ResolveError}
use Rattle.txs_resolve.specs.BodyGiven.{refusal_of}
use Rattle.txs_resolve.specs.Literals.{literal, literals}
use Rattle.txs_resolve_expand.specs.Answers.{◌>>=◌, refuse}
use Rattle.txs_resolve_expand.specs.Parts.{plain}
use Rattle.txs_resolve_expand.proofs.Rows.{drop_all, plain_at, parts_plain}

-- these values, and then those of the rest
abbrev pub values_after : List Value → Answer (List Value) → Answer (List Value)
values_after vs (Err e) = Err e
values_after vs (Ok ws) = Ok (vs ++ ws)

append_one : (vs : List Value) (v : Value) (ws : List Value) → vs ++ v ∷ ws ≡ (vs ++ v ∷ []) ++ ws
append_one [] v ws = refl
append_one (u ∷ vs) v ws = ap (λ l. u ∷ l) (append_one vs v ws)

values_snoc : (vs : List Value) (v : Value) (a : Answer (List Value)) → values_after vs (a >>= λ ws. Ok (v ∷ ws)) ≡ values_after (vs ++ v ∷ []) a
values_snoc vs v (Err e) = refl
values_snoc vs v (Ok ws) = ap (λ x. Ok x) (append_one vs v ws)

module _ (room : ℕ) (fs : List Form) (i : ℕ) (vs : List Value) where
  pub literals_step : (d : Form) (v : Value) → i < length fs → literal room (tree (get_or fs i d)) ≡ Ok v → values_after vs (literals room (plain (drop i fs))) ≡ values_after (vs ++ v ∷ []) (literals room (plain (drop (i + 1) fs)))
  literals_step d v lt e =
      let rest = literals room (plain (drop (i + 1) fs)) in
      ap (λ l. values_after vs (literals room l)) (plain_at fs i d lt)
      ∙ ap (λ (o : Answer Value). values_after vs (o >>= λ w. rest >>= λ ws. Ok (w ∷ ws))) e
      ∙ values_snoc vs v rest

  pub literals_stop : (d : Form) (e : ResolveError) → i < length fs → literal room (tree (get_or fs i d)) ≡ Err e → values_after vs (literals room (plain (drop i fs))) ≡ Err e
  literals_stop d e lt h =
      let rest = literals room (plain (drop (i + 1) fs)) in
      ap (λ l. values_after vs (literals room l)) (plain_at fs i d lt) ∙ ap (λ (o : Answer Value). values_after vs (o >>= λ w. rest >>= λ ws. Ok (w ∷ ws))) h

-- behind the last value
pub values_end : (room : ℕ) (fs : List Form) (i : ℕ) (vs : List Value) → length fs ≤ i → values_after vs (literals room (plain (drop i fs))) ≡ Ok vs
values_end room fs i vs le = ap (λ l. values_after vs (literals room (plain l))) (drop_all fs i le) ∙ ap (λ l. Ok l) (append-nil vs)

-- a value without levels has no more than any number
pub flat_low : (r : Result Value Stop) (n : ℕ) → IfOk r (λ v. depth (plain_of v) ≡ 0) → IfOk r (λ v. depth (plain_of v) ≤ n)
flat_low (Ok v) n h = omega (arith, h)
flat_low (Err e) n h = tt

-- one value more
pub deeper : (vs : List Value) (v : Value) (n : ℕ) → row_depth (plain_row (plains_of vs)) ≤ n → depth (plain_of v) ≤ n → row_depth (plain_row (plains_of (vs ++ v ∷ []))) ≤ n
deeper [] v n some one = omega (arith, one)
deeper (u ∷ vs) v n some one = omega (arith, some, deeper vs v n (omega (arith, some)) one)

-- ---- vectors

or_true : (a b : Bool) → b ≡ true → (a || b) ≡ true
or_true true b p = refl
or_true false b p = p

not_zero : (n : ℕ) → n ≢ 0 → (n == 0) ≡ false
not_zero n h = grind (arith, nat_tests)

is_more : (m n : ℕ) → m < n → nat_lt m n ≡ true
is_more m n h = grind (arith, nat_tests)

not_more : (m n : ℕ) → n ≤ m → nat_lt m n ≡ false
not_more m n h = grind (arith, nat_tests)

-- what a vector of so many parts is
abbrev vector_of : Span → Bool → Answer (List Value) → Answer Value
vector_of at wide items = cond wide (refuse TooMany at) (items >>= λ vs. Ok (Vector (plains_of vs)))

module _ (room : ℕ) (form : Form) (v : Vec Form Global) (at : Span) (is : form ≡ Group Square v at) where
  square : literal room (tree form) ≡ vector_of at (room == 0 || nat_lt 65535 (length v.items)) (literals (room - 1) (plain v.items))
  square = ap (literal room) (ap tree is ∙ tree-Group Square v at) ∙ ap (λ (k : ℕ). vector_of at (room == 0 || nat_lt 65535 k) (literals (room - 1) (plain v.items))) (parts_plain v.items)

  pub square_roomless : room ≡ 0 → literal room (tree form) ≡ refuse TooMany at
  square_roomless h = square ∙ ap (λ (r : ℕ). vector_of at (r == 0 || nat_lt 65535 (length v.items)) (literals (room - 1) (plain v.items))) h

  pub square_wide : 65535 < length v.items → literal room (tree form) ≡ refuse TooMany at
  square_wide lt = square ∙ ap (λ b. vector_of at b (literals (room - 1) (plain v.items))) (or_true (room == 0) (nat_lt 65535 (length v.items)) (is_more 65535 (length v.items) lt))

  pub square_fits : room ≢ 0 → length v.items ≤ 65535 → literal room (tree form) ≡ (literals (room - 1) (plain v.items) >>= λ vs. Ok (Vector (plains_of vs)))
  square_fits some few =
      square
      ∙ ap (λ b. vector_of at (b || nat_lt 65535 (length v.items)) (literals (room - 1) (plain v.items))) (not_zero room some)
      ∙ ap (λ b. vector_of at b (literals (room - 1) (plain v.items))) (not_more 65535 (length v.items) few)

-- ---- what is refused of literals

refused_behind : (a : Answer Value) (b : Answer (List Value)) → None ≡ refusal_of a → refusal_of (a >>= λ v. b >>= λ vs. Ok (v ∷ vs)) ≡ refusal_of b
refused_behind (Ok v) (Ok vs) h = refl
refused_behind (Ok v) (Err e) h = refl
refused_behind (Err e) b h = absurd cc

refused_first : (a : Answer Value) (b : Answer (List Value)) (e : ResolveError) → Some e ≡ refusal_of a → Some e ≡ refusal_of (a >>= λ v. b >>= λ vs. Ok (v ∷ vs))
refused_first (Ok v) b e h = absurd cc
refused_first (Err x) b e h = h

module _ (room : ℕ) (fs : List Form) (i : ℕ) (d : Form) (lt : i < length fs) where
  -- nothing is refused of the next form
  pub fits_step : None ≡ refusal_of (literal room (tree (get_or fs i d))) → refusal_of (literals room (plain (drop i fs))) ≡ refusal_of (literals room (plain (drop (i + 1) fs)))
  fits_step h =
      ap (λ l. refusal_of (literals room l)) (plain_at fs i d lt) ∙ refused_behind (literal room (tree (get_or fs i d))) (literals room (plain (drop (i + 1) fs))) h

  -- the next form is refused
  pub fits_stop : (e : ResolveError) → Some e ≡ refusal_of (literal room (tree (get_or fs i d))) → Some e ≡ refusal_of (literals room (plain (drop i fs)))
  fits_stop e h =
      refused_first (literal room (tree (get_or fs i d))) (literals room (plain (drop (i + 1) fs))) e h ∙ sym (ap (λ l. refusal_of (literals room l)) (plain_at fs i d lt))

pub fitting_whole : (a : Answer (List Value)) → refusal_of (a >>= λ vs. Ok (Vector (plains_of vs))) ≡ refusal_of a
fitting_whole (Ok vs) = refl
fitting_whole (Err e) = refl
