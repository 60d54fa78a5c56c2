-- What the reader makes of a word.
use Rattle.std.proofs.Common.{◌≡◌, ℕ, ◌<◌, ◌≤◌, Bool, true, false, ltb, eqb, cond, ◌&&◌, List, [], ◌∷◌, length, drop, Result, Ok, Err, refl, sym, subst, arith}
use Rattle.std.specs.Prelude.{codes, bytes_eq, if◌then◌else◌}
use Rattle.std.specs.Char.{is_ascii_digit}
use Rattle.std.specs.List.{list_all, AllByRecursion}
use Rattle.std.specs.Str.Parse.{signed_digits_value}
use Rattle.std.proofs.lemmas.Bool.{false≢true}
use Rattle.std.proofs.lemmas.Bool.Decides.{nat_tests}
use Rattle.std.proofs.lemmas.Slice.Eq.{bytes_eq-Decides}
use Rattle.txs_value_data.specs.Names.{is_symbol_byte}
use Rattle.txs_reader.specs.declared.error.ReadErrorKind.{ReadErrorKind}
use Rattle.txs_reader.specs.declared.error.ReadErrorKind.TheVariants.{TooLarge, NumberTooLarge}
use Rattle.txs_reader.specs.Bytes.{is_number, is_numeral, is_i64, is_keyword, is_symbol, is_numeric, is_sign, unread, IsOther, named, meaning}
use Rattle.txs_reader.specs.Tree.{Leaf, nil, truth, number, keyword, symbol}
use Rattle.txs_reader.proofs.Meanings.{symbol_name, keyword_name}
use Rattle.txs_compile.specs.ReadForms.{IsSymbol, LeafIsRead}

abbrev Read : Type 0
Read = Result Leaf ReadErrorKind

abbrev ok : Leaf → Read
ok x = Ok x

ok_is : (x y : Leaf) → ok x ≡ ok y → x ≡ y
ok_is x y e = cc

no_ok : (x : Leaf) (k : ReadErrorKind) (r : Read) → r ≡ Err k → r ≡ Ok x → ⊥
no_ok x k r e f = absurd cc

and_left : (a b : Bool) → (a && b) ≡ true → a ≡ true
and_left true b h = refl
and_left false b h = absurd (false≢true h)

and_right : (a b : Bool) → (a && b) ≡ true → b ≡ true
and_right true b h = h
and_right false b h = absurd (false≢true h)

-- ---- ASCII

abbrev pub IsAscii : List ℕ → Type 0
IsAscii w = AllByRecursion (λ b. b < 128) w

symbol_byte_small : (b : ℕ) → is_symbol_byte b ≡ true → b < 128
unfolding is_symbol_byte
symbol_byte_small b h = by_test (ltb b 128) refl
  where
    by_test : (t : Bool) → ltb b 128 ≡ t → b < 128
    by_test true e = grind (arith, nat_tests)
    by_test false e = absurd (grind (arith, nat_tests))

symbols_small : (w : List ℕ) → list_all is_symbol_byte w ≡ true → IsAscii w
symbols_small [] h = tt
symbols_small (b ∷ w) h = (symbol_byte_small b (and_left _ _ h), symbols_small w (and_right _ _ h))

digits_small : (w : List ℕ) → list_all is_ascii_digit w ≡ true → IsAscii w
digits_small [] h = tt
digits_small (b ∷ w) h = (digit_small b (and_left _ _ h), digits_small w (and_right _ _ h))
  where
    digit_small : (d : ℕ) → is_ascii_digit d ≡ true → d < 128
    digit_small d h = grind (arith, nat_tests)

signed_small : (b : ℕ) (bs : List ℕ) (minus plus : Bool) → eqb b 45 ≡ minus → eqb b 43 ≡ plus → list_all is_ascii_digit (cond minus bs (drop (cond plus 1 0) (b ∷ bs))) ≡ true → IsAscii (b ∷ bs)
signed_small b bs true plus m p h = (grind (arith, nat_tests), digits_small bs h)
signed_small b bs false true m p h = (grind (arith, nat_tests), digits_small bs h)
signed_small b bs false false m p h = digits_small (b ∷ bs) h

number_small : (w : List ℕ) → is_number w ≡ true → IsAscii w
unfolding is_number is_numeral
number_small [] h = tt
number_small (b ∷ bs) h = signed_small b bs _ _ refl refl (and_left _ _ (and_left _ _ h))

keyword_small : (w : List ℕ) → is_keyword w ≡ true → IsAscii w
unfolding is_keyword
keyword_small [] h = tt
keyword_small (b ∷ bs) h = (colon (and_left _ _ (and_left _ _ h)), symbols_small bs (and_right _ _ (and_left _ _ h)))
  where
    colon : eqb b 58 ≡ true → b < 128
    colon e = grind (arith, nat_tests)

all_is : (w c : List ℕ) → bytes_eq w c ≡ true → IsAscii c → IsAscii w
all_is w c e h = subst IsAscii (sym ((bytes_eq-Decides w c).0 e)) h

-- ---- what a word is

pub record WordIsRead (w : List ℕ) (x : Leaf) : Type 0 where
  pub leaf : LeafIsRead IsSymbol x
  pub ascii : IsAscii w

abbrev from_symbol : List ℕ → Result Leaf ReadErrorKind
from_symbol w = if is_symbol w then named symbol w else Err (unread w)

abbrev from_keyword : List ℕ → Result Leaf ReadErrorKind
from_keyword w = if is_keyword w then named keyword (drop 1 w) else from_symbol w

abbrev from_false : List ℕ → Result Leaf ReadErrorKind
from_false w = if bytes_eq w (codes "false") then Ok (truth false) else from_keyword w

abbrev from_true : List ℕ → Result Leaf ReadErrorKind
from_true w = if bytes_eq w (codes "true") then Ok (truth true) else from_false w

abbrev from_nil : List ℕ → Result Leaf ReadErrorKind
from_nil w = if bytes_eq w (codes "nil") then Ok nil else from_true w

short_name : (n : ℕ) → ltb 255 n ≡ false → n ≤ 255
short_name n e = grind (arith, nat_tests)

module _ (w : List ℕ) (x : Leaf) where
  by_symbol : IsOther w → (b l : Bool) → is_symbol w ≡ b → ltb 255 (length w) ≡ l → (if b then (if l then Err TooLarge else Ok (symbol w)) else Err (unread w)) ≡ Ok x → WordIsRead w x
  by_symbol o true true s l e = absurd (no_ok x TooLarge _ refl e)
  by_symbol o true false s l e =
      let name = symbol_name w s in
      record { leaf = subst (LeafIsRead IsSymbol) (ok_is (symbol w) x e) ((name.some, short_name (length w) l, name.each), s, o); ascii = symbols_small w name.each }
  by_symbol o false l s k e = absurd (no_ok x (unread w) _ refl e)

  by_keyword : IsOther w → (b l : Bool) → is_keyword w ≡ b → ltb 255 (length (drop 1 w)) ≡ l → (if b then (if l then Err TooLarge else Ok (keyword (drop 1 w))) else from_symbol w) ≡ Ok x → WordIsRead w x
  by_keyword o true true s l e = absurd (no_ok x TooLarge _ refl e)
  by_keyword o true false s l e =
      let name = keyword_name w s in
      record { leaf = subst (LeafIsRead IsSymbol) (ok_is (keyword (drop 1 w)) x e) (name.some, short_name (length (drop 1 w)) l, name.each); ascii = keyword_small w s }
  by_keyword o false l s k e = by_symbol o (is_symbol w) (ltb 255 (length w)) refl refl e

  by_false : is_number w ≡ false → bytes_eq w (codes "nil") ≡ false → bytes_eq w (codes "true") ≡ false → (b : Bool) → bytes_eq w (codes "false") ≡ b → (if b then Ok (truth false) else from_keyword w) ≡ Ok x → WordIsRead w x
  by_false n i t true s e =
      record { leaf = subst (LeafIsRead IsSymbol) (ok_is (truth false) x e) tt; ascii = all_is w (codes "false") s (omega arith, (omega arith, (omega arith, (omega arith, (omega arith, tt))))) }
  by_false n i t false s e = by_keyword (record { no_number = n; no_nil = i; no_true = t; no_false = s }) (is_keyword w) (ltb 255 (length (drop 1 w))) refl refl e

  by_true : is_number w ≡ false → bytes_eq w (codes "nil") ≡ false → (b : Bool) → bytes_eq w (codes "true") ≡ b → (if b then Ok (truth true) else from_false w) ≡ Ok x → WordIsRead w x
  by_true n i true s e = record { leaf = subst (LeafIsRead IsSymbol) (ok_is (truth true) x e) tt; ascii = all_is w (codes "true") s (omega arith, (omega arith, (omega arith, (omega arith, tt)))) }
  by_true n i false s e = by_false n i s (bytes_eq w (codes "false")) refl e

  by_nil : is_number w ≡ false → (b : Bool) → bytes_eq w (codes "nil") ≡ b → (if b then Ok nil else from_true w) ≡ Ok x → WordIsRead w x
  by_nil n true s e = record { leaf = subst (LeafIsRead IsSymbol) (ok_is nil x e) tt; ascii = all_is w (codes "nil") s (omega arith, (omega arith, (omega arith, tt))) }
  by_nil n false s e = by_true n s (bytes_eq w (codes "true")) refl e

  by_number : (b i : Bool) → is_number w ≡ b → is_i64 (signed_digits_value 10 w) ≡ i → (if b then (if i then Ok (number (signed_digits_value 10 w)) else Err NumberTooLarge) else from_nil w) ≡ Ok x → WordIsRead w x
  by_number true true s i e = record { leaf = subst (LeafIsRead IsSymbol) (ok_is (number (signed_digits_value 10 w)) x e) i; ascii = number_small w s }
  by_number true false s i e = absurd (no_ok x NumberTooLarge _ refl e)
  by_number false i s k e = by_nil s (bytes_eq w (codes "nil")) refl e

-- a word that means something is of ASCII, and what it means is such as the reader reads
pub word_read : (w : List ℕ) (x : Leaf) → meaning w ≡ Ok x → WordIsRead w x
unfolding meaning
word_read w x m = by_number w x (is_number w) (is_i64 (signed_digits_value 10 w)) refl refl m

-- the sign `@` stands for a symbol
pub deref_read : IsSymbol (codes "deref")
unfolding is_number is_numeral is_symbol is_numeric is_sign is_symbol_byte
deref_read = ((omega arith, omega arith, refl), refl, record { no_number = refl; no_nil = refl; no_true = refl; no_false = refl })
