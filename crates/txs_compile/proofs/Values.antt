-- Literals have a byte form.
use Rattle.std.proofs.Common.{◌≡◌, ℕ, zero, suc, ◌-◌, ◌<◌, ◌≤◌, Bool, true, false, not, ◌&&◌, ◌||◌, List, [], ◌∷◌, length, Some, None, ℤ, pos, negsuc, refl, sym, ap, subst, arith}
use Rattle.std.specs.Prelude.{◌==◌, nat_lt, nat_le, IsUtf8, slice_index, slice_index_or, bytes_eq, codes}
use Rattle.std.specs.Int.{w64}
use Rattle.std.specs.List.{AllByRecursion}
use Rattle.std.specs.Str.{is_utf8}
use Rattle.std.proofs.lemmas.Bool.{false≢true, and_from}
use Rattle.std.proofs.lemmas.Bool.Decides.{nat_tests}
use Rattle.std.proofs.lemmas.Int.{to_z-of_z}
use Rattle.std.proofs.lemmas.Str.{is_utf8-from_IsUtf8}
use mir.Val.{of_z}
use Rattle.txs_value_data.specs.Limits.{most_items, most_text}
use Rattle.txs_value_data.specs.Names.{IsName}
use Rattle.txs_value_data.specs.PlainValue.{PlainValue, PlainValues, nil, truth, int, key, text, vector, cell, end, more, plain_list}
use Rattle.txs_value_data.specs.View.{plain_of}
use Rattle.txs_value_cell.specs.declared.cell.CellDefinition.{CellDefinition}
use Rattle.txs_value_data.specs.declared.value.CellId.{CellId}
use Rattle.txs_value_data.specs.declared.value.CellKind.{CellKind}
use Rattle.txs_value_data.specs.declared.value.CellKind.TheVariants.{Ref}
use Rattle.txs_value_data.specs.declared.value.Value.{Value}
use Rattle.txs_reader.specs.Bytes.{is_i64, is_symbol, is_numeric, is_sign, IsOther}
use Rattle.txs_reader.proofs.Numbers.{fits_from_i64}
use Rattle.txs_code_meaning.specs.OwnCells.{kind_at, IsDefined, HoldsDefined, RowHoldsDefined, NameDefined}
use Rattle.txs_code_decode.specs.declared.error.CodeErrorKind.{CodeErrorKind}
use Rattle.txs_code_decode.specs.declared.error.CodeErrorKind.TheVariants.{BadOperand}
use Rattle.txs_code_decode.specs.CellForm.{constant_format, kinds_of}
use Rattle.txs_code_decode.specs.Format.{Format, never}
use Rattle.txs_code_decode.specs.Names.{begins_number, begins_foreign, is_literal_word, names_keyword, names_cell}
use Rattle.txs_code_decode.specs.ValueForm.{must, name_over, keyword_format, cell_name_format, text_format, tag_format, value_over, value_format}
use Rattle.txs_code_decode.proofs.ValueExact.{value_again, plain_list_again}
use Rattle.txs_compile.specs.ReadForms.{IsSymbol}
use Rattle.txs_compile.specs.ReadProgram.{IsLiteralIn, AreLiteralsIn, IsLiteral}

-- a test that holds doesn't refuse
pub must_true : (kind : CodeErrorKind) (b : Bool) → b ≡ true → must kind b ≡ None
must_true kind true e = refl
must_true kind false e = absurd (false≢true e)

pub is_below : (m n : ℕ) → m < n → nat_lt m n ≡ true
is_below m n h = grind (arith, nat_tests)

pub is_within : (m n : ℕ) → m ≤ n → nat_le m n ≡ true
is_within m n h = grind (arith, nat_tests)

-- ---- names

name_fits : (test : List ℕ → Bool) (bs : List ℕ) → 1 ≤ length bs → length bs ≤ 255 → test bs ≡ true → (name_over test).fits bs
name_fits test bs some short holds =
    (((omega (arith, short), must_true BadOperand (nat_lt 0 (length bs)) (is_below 0 (length bs) (omega (arith, some)))), (refl, must_true BadOperand (test bs) holds)), refl)

and_left : (a b : Bool) → (a && b) ≡ true → a ≡ true
and_left true b h = refl
and_left false b h = absurd (false≢true h)

and_right : (a b : Bool) → (a && b) ≡ true → b ≡ true
and_right true b h = h
and_right false b h = absurd (false≢true h)

both_not : (a b : Bool) → not a ≡ true → not b ≡ true → not (a || b) ≡ true
both_not true b h k = absurd (false≢true h)
both_not false b h k = k

not_false : (b : Bool) → b ≡ false → not b ≡ true
not_false true e = absurd (false≢true (sym e))
not_false false e = refl

no_number : (w : List ℕ) → not (is_numeric w) ≡ true → not (begins_number w) ≡ true
unfolding is_numeric begins_number is_sign
no_number [] h = refl
no_number (b ∷ []) h = h
no_number (b ∷ c ∷ w) h = h

no_foreign : (w : List ℕ) → not (slice_index w 0 == 39) ≡ true → not (slice_index w 0 == 46) ≡ true → not (begins_foreign w) ≡ true
unfolding begins_foreign
no_foreign [] h k = refl
no_foreign (b ∷ w) h k = both_not (b == 39) (b == 46) h k

-- the name of a symbol is one that a cell may have
symbol_named : (w : List ℕ) → is_symbol w ≡ true → IsOther w → names_cell w ≡ true
unfolding is_symbol names_cell is_literal_word
symbol_named w h o =
    let four = and_left _ _ h in
    let three = and_left _ _ four in
    let two = and_left _ _ three in
    and_from _ _ (and_from _ _ (and_from _ _ (and_left _ _ two) (no_number w (and_right _ _ three))) (no_foreign w (and_right _ _ four) (and_right _ _ h)))
    (not_false _ (neither o))
  where
    or_false : (a b : Bool) → a ≡ false → b ≡ false → (a || b) ≡ false
    or_false a b p q = subst (λ (x : Bool). (x || b) ≡ false) (sym p) q

    neither : IsOther w → ((bytes_eq w (codes "nil") || bytes_eq w (codes "true")) || bytes_eq w (codes "false")) ≡ false
    neither o = or_false _ _ (or_false _ _ o.no_nil o.no_true) o.no_false

pub cell_name_fits : (name : List ℕ) → IsSymbol name → cell_name_format.fits name
unfolding cell_name_format
cell_name_fits name h = name_fits names_cell name h.0.0 h.0.1 (symbol_named name h.1 h.2)

-- ---- numbers

small_code : (z : ℤ) → is_i64 z ≡ true → of_z w64 z < 18446744073709551616
small_code (pos n) h = grind (arith, nat_tests)
small_code (negsuc n) h = omega arith

one_less : (n : ℕ) → suc n - 1 ≡ n
one_less n = omega arith

-- ---- values

module _ (cells : Bool) (defs : List CellDefinition) (may : (c : CellId) → IsDefined defs c → cells ≡ true) (few : length defs ≤ 1000) where
  -- what a value needs, whose vectors have items of a format
  abbrev Has : ℕ → Format PlainValue → PlainValue → Type 0
  Has room item nil = Unit {0}
  Has room item (truth b) = Unit {0}
  Has room item (int z) = is_i64 z ≡ true
  Has room item (key bs) = IsName bs
  Has room item (text bs) = IsUtf8 bs × (length bs ≤ most_text)
  Has room item (vector vs) = (0 < room) × (length (plain_list vs) ≤ most_items) × AllByRecursion item.fits (plain_list vs)
  Has room item (cell c) = IsDefined defs c

  kind_there : (ds : List CellDefinition) (n : ℕ) (k : CellKind) → kind_at ds n ≡ Some k → (n < length (kinds_of ds)) × (slice_index_or (kinds_of ds) n Ref ≡ k)
  kind_there [] n k e = absurd cc
  kind_there (d ∷ ds) zero k e = (omega arith, cc)
  kind_there (d ∷ ds) (suc n) k e = let h = kind_there ds n k e in (omega (arith, h.0), h.1)

  kinds_length : (ds : List CellDefinition) → length (kinds_of ds) ≡ length ds
  kinds_length [] = refl
  kinds_length (d ∷ ds) = ap suc (kinds_length ds)

  over_fits : (room : ℕ) (item : Format PlainValue) (v : PlainValue) → Has room item v → (value_over cells (kinds_of defs) room item).fits v
  unfolding tag_format keyword_format text_format
  over_fits room item nil h = (((omega arith, refl), refl), refl)
  over_fits room item (truth false) h = (((omega arith, refl), refl), refl)
  over_fits room item (truth true) h = (((omega arith, refl), refl), refl)
  over_fits room item (int z) h = (((omega arith, refl), refl), (small_code z h, ap int (to_z-of_z w64 z (fits_from_i64 z h))))
  over_fits room item (key bs) h = (((omega arith, refl), refl), (name_fits names_keyword bs h.0 h.1 h.2, refl))
  over_fits room item (text bs) h =
      (((omega arith, refl), refl), ((((omega (arith, h.1)), (refl, must_true BadOperand (is_utf8 bs) (is_utf8-from_IsUtf8 bs h.0))), refl), refl))
  over_fits room item (vector vs) h =
      (((omega arith, refl), must_true BadOperand (nat_lt 0 room) (is_below 0 room h.0)), (((omega (arith, h.1), (refl, h.2)), refl), ap vector (plain_list_again vs)))
  over_fits room item (cell c) h =
      let there = kind_there defs c.number c.kind h in (
        ((omega arith, refl), must_true BadOperand cells (may c h)),
        (
          (omega (arith, there.0, few, kinds_length defs), must_true BadOperand (nat_lt c.number (length (kinds_of defs))) (is_below c.number (length (kinds_of defs)) there.0)),
          ap (λ (k : CellKind). cell (record { kind = k; number = c.number })) there.1,
        ),
      )

  mutual
    unfolding value_format

    value_fits : (room : ℕ) (v : PlainValue) → IsLiteralIn v room → HoldsDefined defs v → (value_format cells (kinds_of defs) room).fits v
    value_fits zero nil h k = over_fits 0 never nil tt
    value_fits zero (truth b) h k = over_fits 0 never (truth b) tt
    value_fits zero (int z) h k = over_fits 0 never (int z) h
    value_fits zero (key bs) h k = over_fits 0 never (key bs) h
    value_fits zero (text bs) h k = over_fits 0 never (text bs) h
    value_fits zero (vector vs) h k = absurd (omega (arith, h.0))
    value_fits zero (cell c) h k = over_fits 0 never (cell c) k
    value_fits (suc room) nil h k = over_fits (suc room) (value_format cells (kinds_of defs) room) nil tt
    value_fits (suc room) (truth b) h k = over_fits (suc room) (value_format cells (kinds_of defs) room) (truth b) tt
    value_fits (suc room) (int z) h k = over_fits (suc room) (value_format cells (kinds_of defs) room) (int z) h
    value_fits (suc room) (key bs) h k = over_fits (suc room) (value_format cells (kinds_of defs) room) (key bs) h
    value_fits (suc room) (text bs) h k = over_fits (suc room) (value_format cells (kinds_of defs) room) (text bs) h
    value_fits (suc room) (vector vs) h k = over_fits (suc room) (value_format cells (kinds_of defs) room) (vector vs) (h.0, h.1, row_fits room vs (subst (AreLiteralsIn vs) (one_less room) h.2) k)
    value_fits (suc room) (cell c) h k = over_fits (suc room) (value_format cells (kinds_of defs) room) (cell c) k

    row_fits : (room : ℕ) (vs : PlainValues) → AreLiteralsIn vs room → RowHoldsDefined defs vs → AllByRecursion (value_format cells (kinds_of defs) room).fits (plain_list vs)
    row_fits room end h k = tt
    row_fits room (more v vs) h k = (value_fits room v h.0 k.0, row_fits room vs h.1 k.1)

  pub constant_fits : (v : Value) → IsLiteral v → HoldsDefined defs (plain_of v) → (constant_format cells (kinds_of defs)).fits v
  unfolding constant_format
  constant_fits v h k = (value_fits 32 (plain_of v) h k, value_again v)

pub no_cell : (c : CellId) → IsDefined [] c → false ≡ true
no_cell c e = absurd cc

pub constants_fit : (defs : List CellDefinition) → length defs ≤ 1000 → (vs : List Value) → AllByRecursion IsLiteral vs → NameDefined defs vs → AllByRecursion (constant_format true (kinds_of defs)).fits vs
constants_fit defs few [] h k = tt
constants_fit defs few (v ∷ vs) h k = (constant_fits true defs (λ c e. refl) few v h.0 k.0, constants_fit defs few vs h.1 k.1)
