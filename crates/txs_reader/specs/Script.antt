-- What a script is, and where the reading of one stops.
use Rattle.std.specs.Prelude.{ℕ, ◌≡◌, ◌<◌, ◌≤◌, ◌+◌, ◌-◌, ◌&&◌, ◌==◌, if◌then◌else◌, Bool, true, false, not, Option, None, Some, List, [], ◌∷◌, ◌++◌, Ok, Err, length, drop, flat_map, bytes_eq, IsUtf8}
use Rattle.std.specs.List.{list_all, AllByRecursion}
use Rattle.std.specs.Str.{IsValidUpTo}
use Rattle.txs_value_data.specs.Limits.{most_items, most_text, most_script, most_nesting}
use Rattle.txs_value_data.specs.declared.fault.Span.{Span}
use Rattle.txs_reader.specs.declared.form.Bracket.{Bracket}
use Rattle.txs_reader.specs.declared.form.Bracket.TheVariants.{Round, Square}
use Rattle.txs_reader.specs.declared.error.ReadErrorKind.{ReadErrorKind}
use Rattle.txs_reader.specs.declared.error.ReadErrorKind.TheVariants.{NotUtf8, Unclosed, Unopened, BadEscape, TooDeep, TooLarge, LeftOut}
use Rattle.txs_reader.specs.Bytes.{is_white, is_line_end, is_left_out_byte, is_word_byte, begins_part, begins_with, meaning}
use Rattle.txs_reader.specs.Quoted.{Part, part_text, IsPart, part_value, IsAtPart}
use Rattle.txs_reader.specs.Tree.{Leaf, symbol, text, PlainForm, leaf, group, place, PlainForms, none, first, height_of_all, IsNarrow, deref}

-- ---- the text

-- A script's text is pieces put end to end.
pub data Piece : Type 0 where
  White : ℕ → Piece
  -- what is behind the semicolon
  Comment : List ℕ → Piece
  -- an opening bracket, or none for the sign `@`
  Opening : Option Bracket → Piece
  Closing : Bracket → Piece
  -- what is between two quotes
  Quoted : List Part → Piece
  Word : List ℕ → Leaf → Piece

-- `@`, `(` and `[`
abbrev pub opening_byte : Option Bracket → ℕ
opening_byte None = 64
opening_byte (Some Round) = 40
opening_byte (Some Square) = 91

-- `)` and `]`
abbrev pub closing_byte : Bracket → ℕ
closing_byte Round = 41
closing_byte Square = 93

-- what a piece is written as
abbrev pub written : Piece → List ℕ
written (White b) = b ∷ []
written (Comment c) = 59 ∷ c
written (Opening b) = opening_byte b ∷ []
written (Closing b) = closing_byte b ∷ []
written (Quoted ps) = 34 ∷ (flat_map part_text ps ++ 34 ∷ [])
written (Word w x) = w

-- one byte or more, each of them a byte of a word
abbrev pub IsWord : List ℕ → Type 0
IsWord w = (0 < length w) × (list_all is_word_byte w ≡ true)

-- The piece is what its name says: white space, a comment in one line, a text within its limit, a word that means something.
abbrev pub IsPiece : Piece → Type 0
IsPiece (White b) = is_white b ≡ true
IsPiece (Comment c) = list_all (λ b. not (is_line_end b)) c ≡ true
IsPiece (Opening b) = Unit {0}
IsPiece (Closing b) = Unit {0}
IsPiece (Quoted ps) = AllByRecursion IsPart ps × (length (flat_map part_value ps) ≤ most_text)
IsPiece (Word w x) = IsWord w × (meaning w ≡ Ok x)

-- The piece ends where this text follows: no two words touch, and a comment goes up to the end of its line.
abbrev pub EndsAt : Piece → List ℕ → Type 0
EndsAt (Word w x) rest = begins_with is_word_byte rest ≡ false
EndsAt (Comment c) rest = begins_with (λ b. not (is_line_end b)) rest ≡ false
EndsAt (White b) rest = Unit {0}
EndsAt (Opening b) rest = Unit {0}
EndsAt (Closing b) rest = Unit {0}
EndsAt (Quoted ps) rest = Unit {0}

-- the bytes are these pieces, and then the rest
abbrev pub Splits : List ℕ → List Piece → List ℕ → Type 0
Splits bytes [] rest = bytes ≡ rest
Splits bytes (p ∷ ps) rest = (more : List ℕ) × (bytes ≡ written p ++ more) × IsPiece p × EndsAt p more × Splits more ps rest

-- ---- the tokens

-- what a token is: an opening, a closing, or a form without parts
pub data Sign : Type 0 where
  opens : Option Bracket → Sign
  closes : Bracket → Sign
  stands_for : Leaf → Sign

-- a token, and the bytes where it is
pub record Token : Type 0 where
  pub sign : Sign
  pub span : Span

-- from one offset up to another
abbrev pub between : ℕ → ℕ → Span
between from to = record { from = from; to = to }

-- the token that a piece is, at this offset, if it is one
abbrev pub token : ℕ → Piece → List Token
token at (White b) = []
token at (Comment c) = []
token at (Opening b) = record { sign = opens b; span = between at (at + 1) } ∷ []
token at (Closing b) = record { sign = closes b; span = between at (at + 1) } ∷ []
token at (Quoted ps) = record { sign = stands_for (text (flat_map part_value ps)); span = between at (at + length (written (Quoted ps))) } ∷ []
token at (Word w x) = record { sign = stands_for x; span = between at (at + length w) } ∷ []

-- the tokens of pieces, of which the first is at this offset
abbrev pub tokens : ℕ → List Piece → List Token
tokens at [] = []
tokens at (p ∷ ps) = token at p ++ tokens (at + length (written p)) ps

-- The list was written with the sign `@`: its first part is the symbol of the sign, which begins where the list does, and it ends where its second does.
abbrev pub is_sugar : Bracket → PlainForms → Span → Bool
is_sugar Round (first (leaf (symbol s) at) (first t none)) span = bytes_eq s deref && at.from == span.from && at.to == span.from + 1 && (place t).to == span.to
is_sugar b ts span = false

-- the form that the sign `@` at an offset and a form make
abbrev pub sugar : ℕ → PlainForm → PlainForm
sugar at t = group Round (first (leaf (symbol deref) (between at (at + 1))) (first t none)) (between at (place t).to)

-- the tokens that a form is made of
abbrev mutual
  pub spelled : PlainForm → List Token
  spelled (leaf x span) = record { sign = stands_for x; span = span } ∷ []
  spelled (group b ts span) =
      -- the symbol that `@` stands for is no token of its own
      if is_sugar b ts span then record { sign = opens None; span = between span.from (span.from + 1) } ∷ drop 1 (spelled_within ts)
      else record { sign = opens (Some b); span = between span.from (span.from + 1) } ∷ (spelled_within ts ++ record { sign = closes b; span = between (span.to - 1) span.to } ∷ [])

  -- the tokens of forms in a row
  pub spelled_within : PlainForms → List Token
  spelled_within none = []
  spelled_within (first t ts) = spelled t ++ spelled_within ts

-- ---- the script

-- An opening whose form isn't whole yet: where it is, and the forms before it in what it is in.
pub record Open : Type 0 where
  pub bracket : Option Bracket
  pub from : ℕ
  pub before : List PlainForm

-- what is opened behind these forms
abbrev pub opened : Option Bracket → ℕ → List PlainForm → Open
opened b at fs = record { bracket = b; from = at; before = fs }

-- forms, and an opening behind them
abbrev pub begun : Open → List Token
begun o = flat_map spelled o.before ++ record { sign = opens o.bracket; span = between o.from (o.from + 1) } ∷ []

-- at this level each form is narrow, and none nests too deep
abbrev pub FitAt : ℕ → List PlainForm → Type 0
FitAt level forms = (level + height_of_all forms ≤ most_nesting) × AllByRecursion IsNarrow forms

-- how many forms are whole behind an opening, and how many begun
abbrev pub whole : List Open → List PlainForm → ℕ
whole [] forms = length forms
whole (o ∷ os) forms = length o.before

-- an opening behind these forms counts as one more
abbrev pub begun_behind : List Open → ℕ
begun_behind [] = 0
begun_behind (o ∷ os) = 1

-- a bracket holds at most 65,535 parts; behind the sign `@` no form is whole, since its first one ends it
abbrev pub MayHold : Option Bracket → ℕ → ℕ → Type 0
MayHold None done more = done ≡ 0
MayHold (Some b) done more = done + more ≤ most_items

-- at this level and below, all fits
abbrev pub WithinLimits : ℕ → List Open → List PlainForm → Type 0
WithinLimits level [] forms = FitAt level forms
WithinLimits level (o ∷ os) forms = FitAt level o.before × MayHold o.bracket (whole os forms) (begun_behind os) × WithinLimits (level + 1) os forms

-- The bytes up to the rest are whole forms, then an opening and whole forms, and so on, the innermost opening last.
pub record Holds (bytes : List ℕ) (open_forms : List Open) (forms : List PlainForm) (rest : List ℕ) : Type 0 where
  pub pieces : List Piece
  pub splits : Splits bytes pieces rest
  pub spells : tokens 0 pieces ≡ flat_map begun open_forms ++ flat_map spelled forms
  pub limits : WithinLimits 0 open_forms forms

-- A script is a text of at most 1,048,576 bytes: white space, comments and these forms.
pub record Reads (bytes : List ℕ) (forms : List PlainForm) : Type 0 where
  pub short : length bytes ≤ most_script
  pub utf8 : IsUtf8 bytes
  pub holds : Holds bytes [] forms []

-- ---- refusals

-- the innermost opening has this bracket
abbrev pub FitsLast : List Open → Bracket → Type 0
FitsLast [] b = ⊥
FitsLast (o ∷ []) b = o.bracket ≡ Some b
FitsLast (o ∷ p ∷ os) b = FitsLast (p ∷ os) b

-- the innermost opening is at this offset
abbrev pub StandsLast : List Open → ℕ → Type 0
StandsLast [] at = ⊥
StandsLast (o ∷ []) at = o.from ≡ at
StandsLast (o ∷ p ∷ os) at = StandsLast (p ∷ os) at

-- the innermost opening is a `@`
abbrev pub EndsWithDeref : List Open → Type 0
EndsWithDeref [] = ⊥
EndsWithDeref (o ∷ []) = o.bracket ≡ None
EndsWithDeref (o ∷ p ∷ os) = EndsWithDeref (p ∷ os)

-- a bracket with all the parts that it may have
abbrev pub HasAll : Option Bracket → ℕ → Type 0
HasAll None parts = ⊥
HasAll (Some b) parts = most_items ≤ parts

-- the innermost opening is such a bracket
abbrev pub IsFull : List Open → List PlainForm → Type 0
IsFull [] forms = ⊥
IsFull (o ∷ []) forms = HasAll o.bracket (length forms)
IsFull (o ∷ p ∷ os) forms = IsFull (p ∷ os) forms

-- A quote and these parts of a text, behind which no part begins, are refused so.
pub data RefusesText (ps : List Part) (rest : List ℕ) (at : ℕ) (kind : ReadErrorKind) (span : Span) : Type 0 where
  -- the end of the script, before that of the text
  at_text_end : rest ≡ [] → kind ≡ Unclosed → span ≡ between at (at + 1) → RefusesText ps rest at kind span
  -- a backslash that begins no escape
  at_backslash : (more : List ℕ) → rest ≡ 92 ∷ more → kind ≡ BadEscape → span ≡ between (at + 1 + length (flat_map part_text ps)) (at + 1 + length (flat_map part_text ps) + 1) → RefusesText ps rest at kind span
  -- a text of too many bytes
  at_quote : (more : List ℕ) → rest ≡ 34 ∷ more → most_text < length (flat_map part_value ps) → kind ≡ TooLarge → span ≡ between at (at + length (written (Quoted ps))) → RefusesText ps rest at kind span

-- With these openings, what is at this offset is refused so.
pub data Refuses (os : List Open) (forms : List PlainForm) (rest : List ℕ) (at : ℕ) (kind : ReadErrorKind) (span : Span) : Type 0 where
  -- the end, with something open
  at_end : (from : ℕ) → rest ≡ [] → StandsLast os from → kind ≡ Unclosed → span ≡ between from (from + 1) → Refuses os forms rest at kind span
  -- a closing byte that doesn't fit
  at_closing : (b : Bracket) (more : List ℕ) → rest ≡ closing_byte b ∷ more → ¬ FitsLast os b → kind ≡ Unopened → span ≡ between at (at + 1) → Refuses os forms rest at kind span
  -- whatever would begin one part too many
  at_full : (b : ℕ) (more : List ℕ) → rest ≡ b ∷ more → begins_part b ≡ true → IsFull os forms → kind ≡ TooLarge → span ≡ between at (at + 1) → Refuses os forms rest at kind span
  -- an opening inside a hundred others
  at_opening : (b : Option Bracket) (more : List ℕ) → rest ≡ opening_byte b ∷ more → most_nesting ≤ length os → ¬ IsFull os forms → kind ≡ TooDeep → span ≡ between at (at + 1) → Refuses os forms rest at kind span
  -- a byte that is left out
  at_byte : (b : ℕ) (more : List ℕ) → rest ≡ b ∷ more → is_left_out_byte b ≡ true → ¬ IsFull os forms → kind ≡ LeftOut → span ≡ between at (at + 1) → Refuses os forms rest at kind span
  -- a text that is refused
  at_text : (ps : List Part) (more : List ℕ) → rest ≡ 34 ∷ (flat_map part_text ps ++ more) → AllByRecursion IsPart ps → ¬ IsAtPart more → RefusesText ps more at kind span → ¬ IsFull os forms → Refuses os forms rest at kind span
  -- a whole word that is refused
  at_word : (w more : List ℕ) → rest ≡ w ++ more → IsWord w → begins_with is_word_byte more ≡ false → meaning w ≡ Err kind → span ≡ between at (at + length w) → ¬ IsFull os forms → Refuses os forms rest at kind span

-- Up to somewhere all is well, and what is there is refused.
pub record StopsWithin (bytes : List ℕ) (kind : ReadErrorKind) (span : Span) : Type 0 where
  pub open_forms : List Open
  pub forms : List PlainForm
  pub rest : List ℕ
  pub holds : Holds bytes open_forms forms rest
  pub refuses : Refuses open_forms forms rest (length bytes - length rest) kind span

-- The bytes are too many, else no UTF-8, else refused somewhere.
pub data ReadStops (bytes : List ℕ) (kind : ReadErrorKind) (span : Span) : Type 0 where
  too_long : most_script < length bytes → kind ≡ TooLarge → span ≡ between most_script (most_script + 1) → ReadStops bytes kind span
  no_text : (n : ℕ) → length bytes ≤ most_script → IsValidUpTo bytes n → kind ≡ NotUtf8 → span ≡ between n (n + 1) → ReadStops bytes kind span
  within : length bytes ≤ most_script → IsUtf8 bytes → StopsWithin bytes kind span → ReadStops bytes kind span
