-- Which programs the resolution of names gives: each local and function that is named is there, and the limits are kept.
use Rattle.std.specs.Prelude.{◌≡◌, ◌<◌, ◌≤◌, ◌+◌, ℕ, List, [], ◌∷◌, ◌++◌, length, Option, Some, None}
use Rattle.txs_value_data.specs.Limits.{most_items, most_locals, most_threads, most_parameters, most_levels, most_definitions}
use Rattle.txs_value_data.specs.declared.op.Callee.{Callee}
use Rattle.txs_value_data.specs.declared.op.Callee.TheVariants.{Core as CoreOp, Function}
use Rattle.txs_tree_meaning.specs.Known.{Known, known_of, known, levels}
use Rattle.txs_tree_meaning.specs.Tree.{Tree, Const, Local, If, Do, Let, Loop, Recur, Core, Call, VectorOf, Println, Dosync, Look, Put, Update, Send, Trees, none, more, count, PlainFunction, PlainThread, PlainProgram}
use Rattle.txs_value_cell.specs.declared.cell.CellDefinition.{CellDefinition}

-- an operation is always there, a function where it is defined before
abbrev pub ScopedCallee : List Known → Callee → Type 0
ScopedCallee ks (CoreOp op) = Unit {0}
ScopedCallee ks (Function f) = f < length ks

-- a node with so many locals, where these functions are defined
abbrev mutual
  pub ScopedTree : List Known → ℕ → Tree → Type 0
  ScopedTree ks d (Const v m) = Unit {0}
  ScopedTree ks d (Local i m) = i < d
  ScopedTree ks d (If c a b m) = ScopedTree ks d c × ScopedTree ks d a × ScopedTree ks d b
  -- there is at least one item
  ScopedTree ks d (Do items m) = (0 < count items) × ScopedAll ks d items
  ScopedTree ks d (Let values body m) = ScopedLet ks d values × ScopedTree ks (d + count values) body
  ScopedTree ks d (Loop values body m) = ScopedLet ks d values × ScopedTree ks (d + count values) body
  ScopedTree ks d (Recur values m) = ScopedAll ks d values
  ScopedTree ks d (Core op args m) = (count args ≤ most_items) × ScopedAll ks d args
  ScopedTree ks d (Call f args m) = (f < length ks) × ScopedAll ks d args
  ScopedTree ks d (VectorOf items m) = (count items ≤ most_items) × ScopedAll ks d items
  ScopedTree ks d (Println args m) = (count args ≤ most_items) × ScopedAll ks d args
  ScopedTree ks d (Dosync body m) = ScopedTree ks d body
  ScopedTree ks d (Look form cell m) = ScopedTree ks d cell
  ScopedTree ks d (Put form cell value m) = ScopedTree ks d cell × ScopedTree ks d value
  ScopedTree ks d (Update form cell callee args m) =
      ScopedTree ks d cell × ScopedCallee ks callee × (count args < most_items) × ScopedAll ks d args
  ScopedTree ks d (Send cell callee args m) =
      ScopedTree ks d cell × ScopedCallee ks callee × (count args < most_items) × ScopedAll ks d args

  -- each of these with the same locals
  pub ScopedAll : List Known → ℕ → Trees → Type 0
  ScopedAll ks d none = Unit {0}
  ScopedAll ks d (more e rest) = ScopedTree ks d e × ScopedAll ks d rest

  -- each value sees the locals before it; at most 200 are live at once
  pub ScopedLet : List Known → ℕ → Trees → Type 0
  ScopedLet ks d none = d ≤ most_locals
  ScopedLet ks d (more e rest) = ScopedTree ks d e × ScopedLet ks (d + 1) rest

-- a function's body sees its parameters, and the functions before it
abbrev pub ScopedFunction : List Known → PlainFunction → Type 0
ScopedFunction ks f = (f.parameters ≤ most_parameters) × ScopedTree ks f.parameters f.body × (levels ks f.body ≤ most_levels)

-- functions in order, each of which sees those before it alone
abbrev pub ScopedFunctions : List Known → List PlainFunction → Type 0
ScopedFunctions ks [] = Unit {0}
ScopedFunctions ks (f ∷ fs) = ScopedFunction ks f × ScopedFunctions (ks ++ known_of ks f ∷ []) fs

-- a thread's body has no locals yet, and sees all functions
abbrev pub ScopedThread : List Known → PlainThread → Type 0
ScopedThread ks t = ScopedTree ks 0 t.body × (levels ks t.body ≤ most_levels)

-- each of these threads
abbrev pub ScopedThreads : List Known → List PlainThread → Type 0
ScopedThreads ks [] = Unit {0}
ScopedThreads ks (t ∷ ts) = ScopedThread ks t × ScopedThreads ks ts

-- a validator is there
abbrev pub ScopedValidator : List Known → Option Callee → Type 0
ScopedValidator ks None = Unit {0}
ScopedValidator ks (Some callee) = ScopedCallee ks callee

-- so is that of each of these cells
abbrev pub ScopedCells : List Known → List CellDefinition → Type 0
ScopedCells ks [] = Unit {0}
ScopedCells ks (d ∷ ds) = ScopedValidator ks d.validator × ScopedCells ks ds

-- a program of which names are resolved
pub record Scoped (p : PlainProgram) : Type 0 where
  pub functions : ScopedFunctions [] p.functions
  pub threads : ScopedThreads (known p.functions) p.threads
  pub cells : ScopedCells (known p.functions) p.cells
  -- of each cell it is said where its validator stands
  pub placed : length p.validator_spans ≡ length p.cells
  pub few_cells : length p.cells ≤ most_definitions
  pub few_functions : length p.functions ≤ most_definitions
  pub few_threads : length p.threads ≤ most_threads
