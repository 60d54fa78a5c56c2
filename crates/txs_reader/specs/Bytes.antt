-- Which bytes are what, and which words are numbers and symbols.
use Rattle.std.specs.Prelude.{ℕ, ℤ, pos, negsuc, ◌≡◌, ◌≤◌, ◌^◌, Bool, true, false, not, ◌&&◌, ◌||◌, ◌==◌, nat_le, nat_lt, List, [], ◌∷◌, Result, Ok, Err, if◌then◌else◌, codes, bytes_eq, take, drop, slice_index, length}
use Rattle.txs_value_data.specs.Names.{is_symbol_byte}
use Rattle.std.specs.Char.{is_ascii_digit}
use Rattle.std.specs.List.{list_all, list_any}
use Rattle.std.specs.Str.Parse.{signed_digits_value, without_leading_sign}
use Rattle.txs_reader.specs.declared.error.ReadErrorKind.{ReadErrorKind}
use Rattle.txs_reader.specs.declared.error.ReadErrorKind.TheVariants.{NumberTooLarge, BadToken, LeftOut, TooLarge}
use Rattle.txs_reader.specs.Tree.{Leaf, nil, truth, number, keyword, symbol}

-- tab to return, 28 to the space, the comma: what Clojure's reader takes for white space in ASCII
unfoldable pub is_white : ℕ → Bool
is_white b = (nat_le 9 b && nat_le b 13) || (nat_le 28 b && nat_le b 32) || b == 44

-- a line feed or a carriage return ends a comment, as in Clojure's reader
abbrev pub is_line_end : ℕ → Bool
is_line_end b = b == 10 || b == 13

-- `{` `}` `^` `~` `\` and the backquote
unfoldable pub is_left_out_byte : ℕ → Bool
is_left_out_byte b = b == 123 || b == 125 || b == 94 || b == 126 || b == 92 || b == 96

-- `;` `(` `)` `[` `]` `@` `"`
unfoldable pub is_mark : ℕ → Bool
is_mark b = b == 59 || b == 40 || b == 41 || b == 91 || b == 93 || b == 64 || b == 34

-- a byte of a word is any other byte
unfoldable pub is_word_byte : ℕ → Bool
is_word_byte b = not (is_white b || is_left_out_byte b || is_mark b)

-- what begins a part of a list: all but white space, `;`, `)` and `]`
unfoldable pub begins_part : ℕ → Bool
begins_part b = not (is_white b || b == 59 || b == 41 || b == 93)

-- neither a quote nor a backslash
unfoldable pub is_plain : ℕ → Bool
is_plain b = not (b == 34 || b == 92)

-- one of `'#/&%$|:`
unfoldable pub is_foreign_byte : ℕ → Bool
is_foreign_byte b = b == 39 || b == 35 || b == 47 || b == 38 || b == 37 || b == 36 || b == 124 || b == 58

-- `+` or `-`
unfoldable pub is_sign : ℕ → Bool
is_sign b = b == 43 || b == 45

-- the word begins with a digit, or with a sign and a digit
unfoldable pub is_numeric : List ℕ → Bool
is_numeric w = is_ascii_digit (slice_index w 0) || (is_sign (slice_index w 0) && is_ascii_digit (slice_index w 1))

-- `0`, or digits of which the first isn't 0
unfoldable pub is_numeral : List ℕ → Bool
is_numeral ds = list_all is_ascii_digit ds && nat_lt 0 (length ds) && (nat_lt (length ds) 2 || not (slice_index ds 0 == 48))

-- a numeral, with a sign before it or none
unfoldable pub is_number : List ℕ → Bool
is_number w = is_numeral (without_leading_sign w)

-- from -2^63, which is negsuc (2 ^ 63 - 1), up to 2^63 - 1
abbrev pub is_i64 : ℤ → Bool
is_i64 (pos n) = nat_lt n (2 ^ 63)
is_i64 (negsuc n) = nat_lt n (2 ^ 63)

-- symbol bytes, of which the first is none of a digit, `'` and `.`, nor a sign with a digit behind it
unfoldable pub is_symbol : List ℕ → Bool
is_symbol w =
    list_all is_symbol_byte w && nat_lt 0 (length w) && not (is_numeric w) && not (slice_index w 0 == 39) && not (slice_index w 0 == 46)

-- a word that Clojure may read and this profile does not: with a foreign byte, or begun like a number, or by a dot
unfoldable pub is_left_out : List ℕ → Bool
is_left_out w = list_any is_foreign_byte w || is_numeric w || slice_index w 0 == 46

-- a colon and symbol bytes
unfoldable pub is_keyword : List ℕ → Bool
is_keyword w = slice_index w 0 == 58 && list_all is_symbol_byte (drop 1 w) && nat_lt 1 (length w)

-- a name of at most 255 bytes
abbrev pub named : (List ℕ → Leaf) → List ℕ → Result Leaf ReadErrorKind
named made name = if nat_lt 255 (length name) then Err TooLarge else Ok (made name)

-- why a word that is nothing else is refused
abbrev pub unread : List ℕ → ReadErrorKind
unread w = if is_left_out w then LeftOut else BadToken

-- what a word is, or why it is refused
unfoldable pub meaning : List ℕ → Result Leaf ReadErrorKind
meaning w =
    if is_number w then (if is_i64 (signed_digits_value 10 w) then Ok (number (signed_digits_value 10 w)) else Err NumberTooLarge)
    else if bytes_eq w (codes "nil") then Ok nil
    else if bytes_eq w (codes "true") then Ok (truth true)
    else if bytes_eq w (codes "false") then Ok (truth false)
    else if is_keyword w then named keyword (drop 1 w)
    else if is_symbol w then named symbol w
    else Err (unread w)

-- neither a number nor a word of the language
pub record IsOther (w : List ℕ) : Type 0 where
  pub no_number : is_number w ≡ false
  pub no_nil : bytes_eq w (codes "nil") ≡ false
  pub no_true : bytes_eq w (codes "true") ≡ false
  pub no_false : bytes_eq w (codes "false") ≡ false

-- the first byte of the text, if there is one, passes the test
abbrev pub begins_with : (ℕ → Bool) → List ℕ → Bool
begins_with test [] = false
begins_with test (b ∷ bs) = test b

-- just the first n bytes pass the test one after another
pub record IsRun (test : ℕ → Bool) (bytes : List ℕ) (n : ℕ) : Type 0 where
  pub short : n ≤ length bytes
  pub each : list_all test (take n bytes) ≡ true
  pub ends : begins_with test (drop n bytes) ≡ false
