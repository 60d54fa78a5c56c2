-- What is at the front of a text's inside, and how far one has been read.
use Rattle.std.specs.Prelude.{ℕ, ◌≡◌, ◌+◌, List, ◌∷◌, ◌++◌, length, drop, flat_map, encode_utf8}
use Rattle.std.specs.List.{AllByRecursion}
use Rattle.txs_value_data.specs.declared.fault.Span.{Span}
use Rattle.txs_reader.specs.declared.error.ReadErrorKind.{ReadErrorKind}
use Rattle.txs_reader.specs.declared.error.ReadErrorKind.TheVariants.{Memory}
use Rattle.txs_reader.specs.declared.error.ReadError.{ReadError}
use Rattle.txs_reader.specs.Quoted.{Part, part_text, part_value, IsPart, IsAtPart}
use Rattle.txs_reader.specs.Script.{between, RefusesText}

-- a part of this length, which stands for this character
pub record BeginsEscape (bytes : List ℕ) (c len : ℕ) : Type 0 where
  pub part : Part
  pub after : List ℕ
  pub is : IsPart part
  pub front : bytes ≡ part_text part ++ after
  pub value : part_value part ≡ encode_utf8 c
  pub size : length (part_text part) ≡ len

-- from the quote at `at` up to `to` stand parts that make these bytes
pub record TextUpTo (bytes : List ℕ) (at to : ℕ) (out : List ℕ) : Type 0 where
  pub parts : List Part
  pub each : AllByRecursion IsPart parts
  pub front : drop at bytes ≡ 34 ∷ (flat_map part_text parts ++ drop to bytes)
  pub value : flat_map part_value parts ≡ out
  pub size : at + 1 + length (flat_map part_text parts) ≡ to

-- the text whose quote is at `at` is refused so
pub record TextStops (bytes : List ℕ) (at : ℕ) (kind : ReadErrorKind) (span : Span) : Type 0 where
  pub parts : List Part
  pub rest : List ℕ
  pub each : AllByRecursion IsPart parts
  pub front : drop at bytes ≡ 34 ∷ (flat_map part_text parts ++ rest)
  pub ends : ¬ IsAtPart rest
  pub refuses : RefusesText parts rest at kind span

-- why it is refused, unless memory ran out
abbrev pub TextStopsAs : List ℕ → ℕ → ReadErrorKind → Span → Type 0
TextStopsAs bytes at Memory span = span ≡ between 0 0
TextStopsAs bytes at kind span = TextStops bytes at kind span

-- the error tells why the text at this offset is refused
abbrev pub IsTextRefusal : List ℕ → ℕ → ReadError → Type 0
IsTextRefusal bytes at e = TextStopsAs bytes at e.kind e.at
