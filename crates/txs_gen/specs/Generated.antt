-- Which code is that of a program: the instructions of each function and thread, the span of each, and the constants.
use Rattle.std.specs.Prelude.{◌≡◌, ℕ, zero, suc, List, [], ◌∷◌, ◌++◌, length}
use Rattle.std.specs.List.{range_with_len}
use Rattle.txs_value_data.specs.declared.fault.Span.{Span}
use Rattle.txs_value_data.specs.declared.value.Value.{Value}
use Rattle.txs_tree_meaning.specs.Tree.{Tree, Const, Local, If, Do, Let, Loop, Recur, Core, Call, VectorOf, Println, Dosync, Look, Put, Update, Send, Trees, none, more, count, PlainFunction, PlainThread, PlainProgram}
use Rattle.txs_code_meaning.specs.declared.instr.Instr.{Instr}
use Rattle.txs_code_meaning.specs.declared.instr.Instr.TheVariants as instr
use Rattle.txs_code_meaning.specs.PlainCode.{CodeBody, PlainCode, parameters_of, plain_body}
use Rattle.txs_gen.specs.Gen.{function_code, body_code}

-- so many times the same span
abbrev pub copies : ℕ → Span → List Span
copies zero span = []
copies (suc n) span = span ∷ copies n span

-- The span of each instruction of a tree's code: that of the node whose form it belongs to. So a pop has the span of its
-- do, and a store that of its let.
abbrev mutual
  pub spans_of : Tree → List Span
  spans_of (Const v m) = m.span ∷ []
  spans_of (Local i m) = m.span ∷ []
  spans_of (If c a b m) = spans_of c ++ m.span ∷ (spans_of a ++ m.span ∷ spans_of b)
  spans_of (Do items m) = spans_of_do m.span items
  spans_of (Let values body m) = spans_of_let m.span values ++ spans_of body
  spans_of (Loop values body m) = spans_of_let m.span values ++ spans_of body
  spans_of (Recur values m) = spans_of_all values ++ copies (suc (count values)) m.span
  spans_of (Core op args m) = spans_of_all args ++ m.span ∷ []
  spans_of (Call f args m) = spans_of_all args ++ m.span ∷ []
  spans_of (VectorOf items m) = spans_of_all items ++ m.span ∷ []
  spans_of (Println args m) = spans_of_all args ++ m.span ∷ []
  spans_of (Dosync body m) = m.span ∷ (spans_of body ++ m.span ∷ [])
  spans_of (Look form cell m) = spans_of cell ++ m.span ∷ []
  spans_of (Put form cell value m) = spans_of cell ++ (spans_of value ++ m.span ∷ [])
  spans_of (Update form cell callee args m) = spans_of cell ++ (spans_of_all args ++ copies 3 m.span)
  spans_of (Send cell callee args m) = spans_of cell ++ (spans_of_all args ++ m.span ∷ [])

  -- the spans of these, one tree's after another's
  pub spans_of_all : Trees → List Span
  spans_of_all none = []
  spans_of_all (more e rest) = spans_of e ++ spans_of_all rest

  -- each value is stored
  pub spans_of_let : Span → Trees → List Span
  spans_of_let span none = []
  spans_of_let span (more e rest) = spans_of e ++ span ∷ spans_of_let span rest

  -- each item but the last is popped
  pub spans_of_do : Span → Trees → List Span
  spans_of_do span none = []
  spans_of_do span (more e none) = spans_of e
  spans_of_do span (more e (more f rest)) = spans_of e ++ span ∷ spans_of_do span (more f rest)

-- the constants of a tree, in the order of its code
abbrev mutual
  pub constants_of : Tree → List Value
  constants_of (Const v m) = v ∷ []
  constants_of (Local i m) = []
  constants_of (If c a b m) = constants_of c ++ (constants_of a ++ constants_of b)
  constants_of (Do items m) = constants_in items
  constants_of (Let values body m) = constants_in values ++ constants_of body
  constants_of (Loop values body m) = constants_in values ++ constants_of body
  constants_of (Recur values m) = constants_in values
  constants_of (Core op args m) = constants_in args
  constants_of (Call f args m) = constants_in args
  constants_of (VectorOf items m) = constants_in items
  constants_of (Println args m) = constants_in args
  constants_of (Dosync body m) = constants_of body
  constants_of (Look form cell m) = constants_of cell
  constants_of (Put form cell value m) = constants_of cell ++ constants_of value
  constants_of (Update form cell callee args m) = constants_of cell ++ constants_in args
  constants_of (Send cell callee args m) = constants_of cell ++ constants_in args

  -- the constants of these, one tree's after another's
  pub constants_in : Trees → List Value
  constants_in none = []
  constants_in (more e rest) = constants_of e ++ constants_in rest

-- the constants of functions, one function's after another's
abbrev pub constants_of_functions : List PlainFunction → List Value
constants_of_functions [] = []
constants_of_functions (f ∷ fs) = constants_of f.body ++ constants_of_functions fs

-- the constants of threads, one thread's after another's
abbrev pub constants_of_threads : List PlainThread → List Value
constants_of_threads [] = []
constants_of_threads (t ∷ ts) = constants_of t.body ++ constants_of_threads ts

-- the numbers of the constants that instructions push, in their order
abbrev pub numbers_in : List Instr → List ℕ
numbers_in [] = []
numbers_in (instr.Const k ∷ is) = k ∷ numbers_in is
numbers_in (instr.Local i ∷ is) = numbers_in is
numbers_in (instr.Store i ∷ is) = numbers_in is
numbers_in (instr.Pop ∷ is) = numbers_in is
numbers_in (instr.Jump t ∷ is) = numbers_in is
numbers_in (instr.JumpFalse t ∷ is) = numbers_in is
numbers_in (instr.Core op n ∷ is) = numbers_in is
numbers_in (instr.Call f ∷ is) = numbers_in is
numbers_in (instr.Return ∷ is) = numbers_in is
numbers_in (instr.Vector n ∷ is) = numbers_in is
numbers_in (instr.Print n ∷ is) = numbers_in is
numbers_in (instr.Look form ∷ is) = numbers_in is
numbers_in (instr.Put form ∷ is) = numbers_in is
numbers_in (instr.TxBegin ∷ is) = numbers_in is
numbers_in (instr.TxEnd ∷ is) = numbers_in is
numbers_in (instr.Open form n ∷ is) = numbers_in is
numbers_in (instr.Close form ∷ is) = numbers_in is
numbers_in (instr.Send callee n ∷ is) = numbers_in is
numbers_in (instr.Halt ∷ is) = numbers_in is

-- the numbers of the constants that bodies push, one body's after another's
abbrev pub numbers_in_all : List CodeBody → List ℕ
numbers_in_all [] = []
numbers_in_all (b ∷ bs) = numbers_in b.instrs ++ numbers_in_all bs

-- the body of a function: its instructions are those of the tree and a return, each with its span, and the return has that
-- of the definition; ps is how many parameters each function has
pub record IsFunctionOf (ps : List ℕ) (constants : List Value) (b : CodeBody) (f : PlainFunction) : Type 0 where
  pub parameters : b.parameters ≡ f.parameters
  pub code : plain_body ps constants b ≡ function_code f
  pub spans : b.spans ≡ spans_of f.body ++ f.span ∷ []
  pub as_many : length b.spans ≡ length b.instrs

-- a body for each function, in order
abbrev pub AreFunctionsOf : List ℕ → List Value → List CodeBody → List PlainFunction → Type 0
AreFunctionsOf ps ks [] [] = Unit {0}
AreFunctionsOf ps ks [] (f ∷ fs) = ⊥
AreFunctionsOf ps ks (b ∷ bs) [] = ⊥
AreFunctionsOf ps ks (b ∷ bs) (f ∷ fs) = IsFunctionOf ps ks b f × AreFunctionsOf ps ks bs fs

-- the body of a thread: its instructions are those of the tree, each with its span, and the last one has that of the future
pub record IsBodyOf (ps : List ℕ) (constants : List Value) (b : CodeBody) (t : PlainThread) : Type 0 where
  pub parameters : b.parameters ≡ 0
  pub code : plain_body ps constants b ≡ body_code t.body
  pub spans : b.spans ≡ spans_of t.body ++ t.span ∷ []
  pub as_many : length b.spans ≡ length b.instrs

-- a body for each thread, in order
abbrev pub AreBodiesOf : List ℕ → List Value → List CodeBody → List PlainThread → Type 0
AreBodiesOf ps ks [] [] = Unit {0}
AreBodiesOf ps ks [] (t ∷ ts) = ⊥
AreBodiesOf ps ks (b ∷ bs) [] = ⊥
AreBodiesOf ps ks (b ∷ bs) (t ∷ ts) = IsBodyOf ps ks b t × AreBodiesOf ps ks bs ts

-- The code of a program: its cells, a body for each function and for each thread, and each constant that is pushed has an
-- entry of its own, in order, those of functions first.
pub record IsCodeOf (code : PlainCode) (p : PlainProgram) : Type 0 where
  pub cells : code.cells ≡ p.cells
  pub functions : AreFunctionsOf (parameters_of code.functions) code.constants code.functions p.functions
  pub threads : AreBodiesOf (parameters_of code.functions) code.constants code.threads p.threads
  pub constants : code.constants ≡ constants_of_functions p.functions ++ constants_of_threads p.threads
  pub entries : numbers_in_all code.functions ++ numbers_in_all code.threads ≡ range_with_len 0 (length code.constants)
