-- What a word is, by the tests that it passes.
use Rattle.std.proofs.Common.{◌≡◌, ℕ, ◌<◌, ◌≤◌, Bool, true, false, cond, ltb, ◌&&◌, List, length, length-drop, drop, Result, Ok, Err, ℤ, refl, sym, ap, ◌∙◌, arith}
use Rattle.std.proofs.lemmas.Bool.Decides.{nat_tests}
use Rattle.std.proofs.lemmas.Bool.{false≢true}
use borrow.Author.Tests.{ltb-true}
use Rattle.std.specs.List.{list_all}
use Rattle.std.specs.Prelude.{codes, bytes_eq}
use Rattle.std.specs.Str.Parse.{signed_digits_value}
use Rattle.txs_value_data.specs.declared.fault.Span.{Span}
use Rattle.txs_value_data.specs.Names.{is_symbol_byte}
use Rattle.txs_reader.specs.declared.error.ReadErrorKind.{ReadErrorKind}
use Rattle.txs_reader.specs.declared.error.ReadErrorKind.TheVariants.{LeftOut, BadToken, TooLarge, Memory}
use Rattle.txs_reader.specs.Refused.{RefusedAs, NameRefusedAs}
use Rattle.txs_reader.specs.Bytes.{is_number, is_i64, is_keyword, is_symbol, is_left_out, unread, IsOther, named, meaning}
use Rattle.txs_reader.specs.Tree.{Leaf, nil, truth, number, keyword, symbol}

pub meaning_number : (w : List ℕ) (z : ℤ) → is_number w ≡ true → z ≡ signed_digits_value 10 w → is_i64 z ≡ true → meaning w ≡ Ok (number z)
unfolding meaning
meaning_number w z is e fits = rw (is, ← e, fits) refl

pub meaning_true : (w : List ℕ) → is_number w ≡ false → bytes_eq w (codes "nil") ≡ false → bytes_eq w (codes "true") ≡ true → meaning w ≡ Ok (truth true)
unfolding meaning
meaning_true w no_number no_nil is = rw (no_number, no_nil, is) refl

pub meaning_false : (w : List ℕ) → is_number w ≡ false → bytes_eq w (codes "nil") ≡ false → bytes_eq w (codes "true") ≡ false → bytes_eq w (codes "false") ≡ true → meaning w ≡ Ok (truth false)
unfolding meaning
meaning_false w no_number no_nil no_true is = rw (no_number, no_nil, no_true, is) refl

pub meaning_keyword : (w : List ℕ) → IsOther w → is_keyword w ≡ true → meaning w ≡ named keyword (drop 1 w)
unfolding meaning
meaning_keyword w o is = rw (o.no_number, o.no_nil, o.no_true, o.no_false, is) refl

pub meaning_symbol : (w : List ℕ) → IsOther w → is_keyword w ≡ false → is_symbol w ≡ true → meaning w ≡ named symbol w
unfolding meaning
meaning_symbol w o not_keyword is = rw (o.no_number, o.no_nil, o.no_true, o.no_false, not_keyword, is) refl

pub meaning_unread : (w : List ℕ) → IsOther w → is_keyword w ≡ false → is_symbol w ≡ false → meaning w ≡ Err (unread w)
unfolding meaning
meaning_unread w o not_keyword not_symbol = rw (o.no_number, o.no_nil, o.no_true, o.no_false, not_keyword, not_symbol) refl

few : (n : ℕ) → n ≤ 255 → ltb 255 n ≡ false
few n le = grind (arith, nat_tests)

many : (n : ℕ) → 255 < n → ltb 255 n ≡ true
many n lt = grind (arith, nat_tests)

pub named_ok : (made : List ℕ → Leaf) (name : List ℕ) → length name ≤ 255 → named made name ≡ Ok (made name)
named_ok made name le = rw (few (length name) le) refl

pub named_long : (made : List ℕ → Leaf) (name : List ℕ) → 255 < length name → named made name ≡ Err TooLarge
named_long made name lt = rw (many (length name) lt) refl

and_left : (a b : Bool) → (a && b) ≡ true → a ≡ true
and_left true b h = refl
and_left false b h = absurd (false≢true h)

and_right : (a b : Bool) → (a && b) ≡ true → b ≡ true
and_right true b h = h
and_right false b h = absurd (false≢true h)

-- what a name needs
pub record NameBytes (bs : List ℕ) : Type 0 where
  pub some : 1 ≤ length bs
  pub each : list_all is_symbol_byte bs ≡ true

later : (w : List ℕ) → ltb 1 (length w) ≡ true → 1 ≤ length (drop 1 w)
later w h = omega (arith, length-drop 1 w, ltb-true 1 (length w) h)

pub keyword_name : (w : List ℕ) → is_keyword w ≡ true → NameBytes (drop 1 w)
unfolding is_keyword
keyword_name w h = record { some = later w (and_right _ _ h); each = and_right _ _ (and_left _ _ h) }

pub symbol_name : (w : List ℕ) → is_symbol w ≡ true → NameBytes w
unfolding is_symbol
symbol_name w h =
    let two = and_left _ _ (and_left _ _ (and_left _ _ h)) in
    record { some = omega (arith, ltb-true 0 (length w) (and_right _ _ two)); each = and_left _ _ two }

abbrev err : ReadErrorKind → Result Leaf ReadErrorKind
err k = Err k

-- the refusal of a name is that of the word
pub name_refused : (made : List ℕ → Leaf) (w name : List ℕ) (span : Span) (k : ReadErrorKind) (s : Span) → meaning w ≡ named made name → NameRefusedAs name span k s → RefusedAs w span k s
name_refused made w name span Memory s e r = r
name_refused made w name span k s e r = (e ∙ named_long made name r.0 ∙ ap err (sym r.1), r.2)

either_refused : (w : List ℕ) (span : Span) (b : Bool) → meaning w ≡ Err (cond b LeftOut BadToken) → RefusedAs w span (cond b LeftOut BadToken) span
either_refused w span true e = (e, refl)
either_refused w span false e = (e, refl)

pub unread_refused : (w : List ℕ) (span : Span) → meaning w ≡ Err (unread w) → RefusedAs w span (unread w) span
unread_refused w span e = either_refused w span (is_left_out w) e
