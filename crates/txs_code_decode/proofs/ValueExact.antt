-- The formats of names, texts and values are exact, as each that they are put together from.
use Rattle.std.proofs.Common.{◌≡◌, ℕ, zero, suc, ◌^◌, ◌<◌, Bool, true, false, List, [], ◌∷◌, refl, sym, ap}
use Rattle.std.specs.Int.{w16, w32, w64}
use Rattle.std.proofs.lemmas.Int.{of_z-to_z}
use mir.Val.{to_z, of_z}
use Rattle.txs_value_data.specs.PlainValue.{PlainValue, PlainValues, nil, truth, int, key, text, vector, cell, end, more, plain_row, plain_list}
use Rattle.txs_value_data.specs.View.{plain_of, value_of}
use Rattle.txs_value_data.specs.declared.value.CellKind.{CellKind}
use Rattle.txs_value_data.specs.declared.value.Value.{Value}
use Rattle.txs_value_data.specs.declared.value.Value.TheVariants.{Nil, Truth, Int, Key, Text, Vector, Cell}
use Rattle.txs_code_decode.specs.declared.error.CodeErrorKind.TheVariants.{BadOpcode}
use Rattle.txs_code_decode.specs.declared.tag.Tag.{Tag}
use Rattle.txs_code_decode.specs.declared.tag.Tag.TheVariants as tag
use Rattle.txs_code_decode.specs.CellForm.{constant_format}
use Rattle.txs_code_decode.specs.Format.{Format, byte, some_bytes, number, one_of, never, counted}
use Rattle.txs_code_decode.specs.Names.{names_cell, names_keyword}
use Rattle.txs_code_decode.specs.ValueForm.{name_over, keyword_format, cell_name_format, text_format, tags, tag_byte, tag_of, tag_test, tag_format, key_of, text_of, items_of, cell_number, cell_at, value_body, value_over, value_format}
use Rattle.txs_code_decode.proofs.Exact.{Exact, InOrder, in_order_by, byte_exact, some_exact, wide16, wide32, wide64, number_exact, tested_exact, one_of_exact, only_exact, never_exact, pair_exact, mapped_exact, counted_exact, tagged_exact}

pub n16 : Exact (number w16)
n16 = number_exact w16 wide16

pub n32 : Exact (number w32)
n32 = number_exact w32 wide32

-- ---- names and texts

name_exact : (test : List ℕ → Bool) → Exact (name_over test)
name_exact test =
    mapped_exact _ _ _ (pair_exact _ _ (tested_exact byte _ byte_exact) (λ n. tested_exact (some_bytes n) _ (some_exact n))) (λ p fits. ap (λ (n : ℕ). (n, p.1)) fits.1.0)

keyword_exact : Exact keyword_format
unfolding keyword_format
keyword_exact = name_exact names_keyword

pub cell_name_exact : Exact cell_name_format
unfolding cell_name_format
cell_name_exact = name_exact names_cell

text_exact : Exact text_format
unfolding text_format
text_exact = mapped_exact _ _ _ (pair_exact _ _ n16 (λ n. tested_exact (some_bytes n) _ (some_exact n))) (λ p fits. ap (λ (n : ℕ). (n, p.1)) fits.1.0)

-- ---- values

pub plain_row_again : (vs : List PlainValue) → plain_list (plain_row vs) ≡ vs
plain_row_again [] = refl
plain_row_again (v ∷ vs) = ap (λ ws. v ∷ ws) (plain_row_again vs)

pub plain_list_again : (vs : PlainValues) → plain_row (plain_list vs) ≡ vs
plain_list_again end = refl
plain_list_again (more v vs) = ap (more v) (plain_list_again vs)

number_back : (n : ℕ) → n < 2 ^ 64 → of_z w64 (to_z w64 n) ≡ n
number_back n lt = of_z-to_z w64 n lt

tags_in_order : InOrder tag_byte 0 tags
tags_in_order = in_order_by tag_byte 0 tags refl

tag_exact : (cells : Bool) (room : ℕ) → Exact (tag_format cells room)
unfolding tag_format
tag_exact cells room = tested_exact (one_of byte tags tag_byte BadOpcode) (tag_test cells room) (one_of_exact byte tags tag_byte BadOpcode byte_exact tags_in_order)

value_body_exact : (kinds : List CellKind) (item : Format PlainValue) → Exact item → (t : Tag) → Exact (value_body kinds item t)
value_body_exact kinds item h tag.Nil = only_exact nil
value_body_exact kinds item h tag.False = only_exact (truth false)
value_body_exact kinds item h tag.True = only_exact (truth true)
value_body_exact kinds item h tag.Int = mapped_exact _ _ _ (number_exact w64 wide64) number_back
value_body_exact kinds item h tag.Key = mapped_exact key key_of keyword_format keyword_exact (λ bs fits. refl)
value_body_exact kinds item h tag.Text = mapped_exact text text_of text_format text_exact (λ bs fits. refl)
value_body_exact kinds item h tag.Vector = mapped_exact (λ vs. vector (plain_row vs)) items_of (counted (number w16) item) (counted_exact (number w16) item n16 h) (λ vs fits. plain_row_again vs)
value_body_exact kinds item h tag.Cell = mapped_exact (cell_at kinds) cell_number _ (tested_exact (number w16) _ n16) (λ n fits. refl)

-- the tag of what a tag's format is for is that tag
value_tells : (kinds : List CellKind) (item : Format PlainValue) (t : Tag) (v : PlainValue) → (value_body kinds item t).fits v → tag_of v ≡ t
value_tells kinds item tag.Nil v fits = ap tag_of fits
value_tells kinds item tag.False v fits = ap tag_of fits
value_tells kinds item tag.True v fits = ap tag_of fits
value_tells kinds item tag.Int v fits = ap tag_of (sym fits.1)
value_tells kinds item tag.Key v fits = ap tag_of (sym fits.1)
value_tells kinds item tag.Text v fits = ap tag_of (sym fits.1)
value_tells kinds item tag.Vector v fits = ap tag_of (sym fits.1)
value_tells kinds item tag.Cell v fits = ap tag_of (sym fits.1)

over_exact : (cells : Bool) (kinds : List CellKind) (room : ℕ) (item : Format PlainValue) → Exact item → Exact (value_over cells kinds room item)
over_exact cells kinds room item h = tagged_exact (tag_format cells room) tag_of (value_body kinds item) (tag_exact cells room) (value_body_exact kinds item h) (value_tells kinds item)

pub value_exact : (cells : Bool) (kinds : List CellKind) (room : ℕ) → Exact (value_format cells kinds room)
unfolding value_format
value_exact cells kinds zero = over_exact cells kinds 0 never never_exact
value_exact cells kinds (suc room) = over_exact cells kinds (suc room) (value_format cells kinds room) (value_exact cells kinds room)

plain_again : (d : PlainValue) → plain_of (value_of d) ≡ d
plain_again nil = refl
plain_again (truth b) = refl
plain_again (int z) = refl
plain_again (key bs) = refl
plain_again (text bs) = refl
plain_again (vector vs) = ap vector (plain_list_again vs)
plain_again (cell c) = refl

pub constant_exact : (cells : Bool) (kinds : List CellKind) → Exact (constant_format cells kinds)
unfolding constant_format
constant_exact cells kinds = mapped_exact value_of plain_of _ (value_exact cells kinds 32) (λ d fits. plain_again d)

-- a value is the value that it is as plain data
pub value_again : (v : Value) → value_of (plain_of v) ≡ v
value_again Nil = refl
value_again (Truth b) = refl
value_again (Int z) = refl
value_again (Key bs) = refl
value_again (Text bs) = refl
value_again (Vector ds) = ap Vector (plain_row_again ds)
value_again (Cell c) = refl
