-- A text, read: its bytes are tested as they stand. And the bytes of a name.
use Rattle.std.proofs.Common.{◌≡◌, ◌≤◌, ℕ, Bool, true, false, length, List, [], Ok, refl, sym, ◌∙◌, inl, inr}
use Rattle.std.specs.Prelude.{◌↔◌, IsTrue, IsUtf8}
use Rattle.std.specs.Int.{w16}
use Rattle.std.specs.List.{list_all}
use Rattle.std.specs.Str.{is_utf8}
use Rattle.std.proofs.lemmas.Bool.{cases_Bool}
use Rattle.std.proofs.lemmas.Str.{IsUtf8-from_is_utf8, is_utf8-from_IsUtf8}
use Rattle.txs_value_data.specs.Names.{IsName, is_symbol_byte}
use Rattle.txs_value_data.specs.PlainValue.{text}
use Rattle.txs_code_decode.specs.declared.error.CodeErrorKind.TheVariants.{BadOperand}
use Rattle.txs_code_decode.specs.declared.tag.Tag.TheVariants as tag
use Rattle.txs_code_decode.specs.Format.{bytes_at, never, number_at, refuse}
use Rattle.txs_code_decode.specs.ValueForm.{text_format, value_body}

pub text_reads : (bytes rest bs after : List ℕ) (n : ℕ) → number_at w16 bytes ≡ Ok (n, rest) → bytes_at n rest ≡ Ok (bs, after) → IsUtf8 bs → (value_body [] never tag.Text).read bytes ≡ Ok (text bs, after)
unfolding text_format
text_reads bytes rest bs after n h k u = rw (h, k, is_utf8-from_IsUtf8 bs u) refl

pub text_refused : (bytes rest bs after : List ℕ) (n : ℕ) → number_at w16 bytes ≡ Ok (n, rest) → bytes_at n rest ≡ Ok (bs, after) → ¬ (IsUtf8 bs) → (value_body [] never tag.Text).read bytes ≡ refuse BadOperand rest
unfolding text_format
text_refused bytes rest bs after n h k other =
    elim (cases_Bool (is_utf8 bs)) [
      | inl holds ↦ absurd (other (IsUtf8-from_is_utf8 bs holds))
      | inr fails ↦ rw (h, k, fails) refl
    ]

-- of 1 to 255 bytes: they are a name where all are symbol characters
pub symbols_of_name : (r : Bool) (bs : List ℕ) → (IsTrue r ↔ IsName bs) → 1 ≤ length bs → length bs ≤ 255 → r ≡ list_all is_symbol_byte bs
symbols_of_name true bs h some few = sym (h.0 refl).2
symbols_of_name false bs h some few =
    elim (cases_Bool (list_all is_symbol_byte bs)) [
      | inl holds ↦ h.1 (some, few, holds) ∙ sym holds
      | inr fails ↦ sym fails
    ]
