-- What each form of a script has, since it was read.
use Rattle.std.specs.Prelude.{◌≡◌, ◌≤◌, ℕ, true, List, length, IsUtf8}
use Rattle.std.specs.List.{AllByRecursion}
use Rattle.txs_value_data.specs.Limits.{most_text}
use Rattle.txs_value_data.specs.Names.{IsName}
use Rattle.txs_code_meaning.specs.Spans.{IsOrdered}
use Rattle.txs_reader.specs.Bytes.{is_i64, is_symbol, IsOther}
use Rattle.txs_reader.specs.Script.{Reads}
use Rattle.txs_reader.specs.Tree.{Leaf, nil, truth, number, text, keyword, symbol, PlainForm, leaf, group, PlainForms, none, first}

-- the reader reads these bytes as a symbol, and as nothing else
abbrev pub IsSymbol : List ℕ → Type 0
IsSymbol name = IsName name × (is_symbol name ≡ true) × IsOther name

-- a number of 64 bits, a text of UTF-8 within its limit, the name of a keyword, or a symbol of which this holds
abbrev pub LeafIsRead : (List ℕ → Type 0) → Leaf → Type 0
LeafIsRead P nil = Unit {0}
LeafIsRead P (truth b) = Unit {0}
LeafIsRead P (number z) = is_i64 z ≡ true
LeafIsRead P (text bytes) = IsUtf8 bytes × (length bytes ≤ most_text)
LeafIsRead P (keyword name) = IsName name
LeafIsRead P (symbol name) = P name

-- each part of a form is such a one, and the span of each is in order
abbrev mutual
  pub IsRead : (List ℕ → Type 0) → PlainForm → Type 0
  IsRead P (leaf x span) = LeafIsRead P x × IsOrdered span
  IsRead P (group b ts span) = AreRead P ts × IsOrdered span

  -- so is each of these
  pub AreRead : (List ℕ → Type 0) → PlainForms → Type 0
  AreRead P none = Unit {0}
  AreRead P (first t ts) = IsRead P t × AreRead P ts

-- each form of a script is such as the reader reads
abbrev pub FormsAreRead : Type 0
FormsAreRead = (bytes : List ℕ) (forms : List PlainForm) → Reads bytes forms → AllByRecursion (IsRead IsSymbol) forms
