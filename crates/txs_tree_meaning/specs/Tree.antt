-- What a program is, as plain data.
use Rattle.std.specs.Prelude.{ℕ, suc, Bool, true, false, List}
use Rattle.txs_value_cell.specs.declared.cell.CellDefinition.{CellDefinition}
use Rattle.txs_value_data.specs.declared.fault.Span.{Span}
use Rattle.txs_value_cell.specs.declared.form.LookForm.{LookForm}
use Rattle.txs_value_cell.specs.declared.form.PutForm.{PutForm}
use Rattle.txs_value_cell.specs.declared.form.UpdateForm.{UpdateForm}
use Rattle.txs_value_data.specs.declared.op.Op.{Op}
use Rattle.txs_value_data.specs.declared.op.Callee.{Callee}
use Rattle.txs_value_data.specs.declared.value.Value.{Value}

-- where a node is in the script, and whether its result is wanted
pub record Mark : Type 0 where
  pub span : Span
  pub wanted : Bool

mutual
  -- A part of a program: one constructor for each form that isn't made of others. The others are written out as these when names
  -- are resolved.
  pub data Tree : Type 0 where
    Const : (value : Value) (mark : Mark) → Tree
    -- locals are numbered by nesting, parameters first
    Local : (i : ℕ) (mark : Mark) → Tree
    If : (test yes no : Tree) (mark : Mark) → Tree
    Do : (items : Trees) (mark : Mark) → Tree
    Let : (values : Trees) (body : Tree) (mark : Mark) → Tree
    Loop : (values : Trees) (body : Tree) (mark : Mark) → Tree
    Recur : (values : Trees) (mark : Mark) → Tree
    Core : (op : Op) (args : Trees) (mark : Mark) → Tree
    Call : (f : ℕ) (args : Trees) (mark : Mark) → Tree
    VectorOf : (items : Trees) (mark : Mark) → Tree
    Println : (args : Trees) (mark : Mark) → Tree
    Dosync : (body : Tree) (mark : Mark) → Tree
    -- the forms on cells, in families
    Look : (form : LookForm) (cell : Tree) (mark : Mark) → Tree
    Put : (form : PutForm) (cell value : Tree) (mark : Mark) → Tree
    Update : (form : UpdateForm) (cell : Tree) (callee : Callee) (args : Trees) (mark : Mark) → Tree
    Send : (cell : Tree) (callee : Callee) (args : Trees) (mark : Mark) → Tree

  -- parts in a row
  pub data Trees : Type 0 where
    none : Trees
    more : (item : Tree) (rest : Trees) → Trees

-- how many there are
abbrev pub count : Trees → ℕ
count none = 0
count (more e rest) = suc (count rest)

-- whether there is none
abbrev pub is_none : Trees → Bool
is_none none = true
is_none (more e rest) = false

-- a function: the number of its parameters, its body, and where its definition is; it calls functions before it alone
pub record PlainFunction : Type 0 where
  pub parameters : ℕ
  pub body : Tree
  pub span : Span

-- a thread: the body of a future, and where the future is
pub record PlainThread : Type 0 where
  pub body : Tree
  pub span : Span

-- A program: functions, the definitions of cells in the order of their numbers, and threads. Of each cell it says where the cell's
-- validator stands, or its definition where it has none.
pub record PlainProgram : Type 0 where
  pub functions : List PlainFunction
  pub cells : List CellDefinition
  pub validator_spans : List Span
  pub threads : List PlainThread

-- one thread with the functions that it may call, and the definitions of cells
pub record ThreadSource : Type 0 where
  pub functions : List PlainFunction
  pub cells : List CellDefinition
  pub main : Tree
