-- What the program of a script has, since its forms were read.
use Rattle.std.specs.Prelude.{◌≡◌, ◌<◌, ◌≤◌, ◌-◌, ℕ, true, length, IsUtf8}
use Rattle.std.specs.List.{AllByRecursion}
use Rattle.txs_value_data.specs.Limits.{most_depth, most_items, most_text}
use Rattle.txs_value_data.specs.Names.{IsName}
use Rattle.txs_value_data.specs.PlainValue.{PlainValue, nil, truth, int, key, text, vector, cell as a_cell, PlainValues, end, more as behind, plain_list}
use Rattle.txs_value_data.specs.View.{plain_of}
use Rattle.txs_value_cell.specs.declared.cell.CellDefinition.{CellDefinition}
use Rattle.txs_value_cell.specs.declared.cell.ErrorMode.{ErrorMode}
use Rattle.txs_value_cell.specs.declared.cell.ErrorMode.TheVariants.{Fail}
use Rattle.txs_value_data.specs.declared.value.CellKind.{CellKind}
use Rattle.txs_value_data.specs.declared.value.CellKind.TheVariants.{Ref, Atom, Agent}
use Rattle.txs_value_data.specs.declared.value.Value.{Value}
use Rattle.txs_reader.specs.Bytes.{is_i64}
use Rattle.txs_code_meaning.specs.Spans.{IsOrdered}
use Rattle.txs_tree_meaning.specs.Tree.{Tree, Trees, PlainFunction, PlainThread, PlainProgram}
use Rattle.txs_tree_meaning.specs.Everywhere.{Facts, Everywhere, EverywhereIn, InFunction, InThread}
use Rattle.txs_compile.specs.ReadForms.{IsSymbol}

-- A value that a literal may be, with vectors in at most so many levels: numbers of 64 bits, names, texts of UTF-8, short vectors. Of a cell
-- nothing is said.
abbrev mutual
  pub IsLiteralIn : PlainValue → ℕ → Type 0
  IsLiteralIn nil levels = Unit {0}
  IsLiteralIn (truth b) levels = Unit {0}
  IsLiteralIn (int z) levels = is_i64 z ≡ true
  IsLiteralIn (key bytes) levels = IsName bytes
  IsLiteralIn (text bytes) levels = IsUtf8 bytes × (length bytes ≤ most_text)
  IsLiteralIn (vector vs) levels = (0 < levels) × (length (plain_list vs) ≤ most_items) × AreLiteralsIn vs (levels - 1)
  IsLiteralIn (a_cell c) levels = Unit {0}

  -- so is each of these
  pub AreLiteralsIn : PlainValues → ℕ → Type 0
  AreLiteralsIn end levels = Unit {0}
  AreLiteralsIn (behind v vs) levels = IsLiteralIn v levels × AreLiteralsIn vs levels

-- a value that a literal may be
abbrev pub IsLiteral : Value → Type 0
IsLiteral v = IsLiteralIn (plain_of v) most_depth

-- every cell that isn't an agent fails
abbrev pub HasMode : CellKind → ErrorMode → Type 0
HasMode Ref mode = mode ≡ Fail
HasMode Atom mode = mode ≡ Fail
HasMode Agent mode = Unit {0}

-- a cell with the name of a symbol, that opens with a literal
pub record CellIsRead (d : CellDefinition) : Type 0 where
  pub name : IsSymbol d.name
  pub mode : HasMode d.kind d.error_mode
  pub opening : IsLiteral d.opening

-- each constant is a literal or a cell, and the span of each node is in order
abbrev pub is_read : Facts
is_read = record { constant = IsLiteral; span = IsOrdered; send = λ f n span. IsOrdered span }

-- so it is in a tree
abbrev pub TreeIsRead : Tree → Type 0
TreeIsRead e = Everywhere is_read e

-- so it is in each of these
abbrev pub TreesAreRead : Trees → Type 0
TreesAreRead es = EverywhereIn is_read es

-- so it is in a function, and of its own span
abbrev pub FunctionIsRead : PlainFunction → Type 0
FunctionIsRead f = InFunction is_read f

-- so it is in a thread
abbrev pub ThreadIsRead : PlainThread → Type 0
ThreadIsRead t = InThread is_read t

-- so is a program: its functions, its threads and its cells
pub record ProgramIsRead (p : PlainProgram) : Type 0 where
  pub functions : AllByRecursion FunctionIsRead p.functions
  pub threads : AllByRecursion ThreadIsRead p.threads
  pub cells : AllByRecursion CellIsRead p.cells
