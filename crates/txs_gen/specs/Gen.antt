-- The code of a tree. Places count from the start of the body.
use Rattle.std.specs.Prelude.{ℕ, zero, suc, ◌+◌, max, Bool, true, false, List, [], ◌∷◌, ◌++◌, length}
use Rattle.txs_value_data.specs.declared.fault.Span.{Span}
use Rattle.txs_value_data.specs.declared.op.Callee.{Callee}
use Rattle.txs_value_data.specs.declared.op.Callee.TheVariants.{Core as CoreOp, Function}
use Rattle.txs_value_cell.specs.declared.form.UpdateForm.{UpdateForm}
use Rattle.txs_value_cell.specs.declared.form.UpdateForm.TheVariants as update
use Rattle.txs_tree_meaning.specs.Tree.{Tree, Const, Local, If, Do, Let, Loop, Recur, Core, Call, VectorOf, Println, Dosync, Look, Put, Update, Send, Trees, none, more, count, is_none, PlainFunction, ThreadSource}
use Rattle.txs_code_meaning.specs.declared.instr.OpenForm.{OpenForm}
use Rattle.txs_code_meaning.specs.declared.instr.OpenForm.TheVariants as open_form
use Rattle.txs_code_meaning.specs.Machine.{PlainInstr, Push, Load, Store, Pop, Jump, JumpFalse, CoreOf, CallOf, Return, MakeVector, PrintOf, TxBegin, TxEnd, LookOf, PutOf, OpenOf, CloseOf, SendOf, Halt, PlainBody, ThreadCode}
use Rattle.txs_value_cell.specs.Cells.{validators_of}

-- code that begins at a place, and what follows it
abbrev pub then_code : ℕ → List PlainInstr → (ℕ → List PlainInstr) → List PlainInstr
then_code pc is rest = is ++ rest (pc + length is)

-- a choice, after its test
abbrev pub if_code : ℕ → List PlainInstr → (ℕ → List PlainInstr) → List PlainInstr
if_code pc a b =
    JumpFalse (pc + 1 + length a + 1) ∷ (a ++ Jump (pc + 1 + length a + 1 + length (b (pc + 1 + length a + 1))) ∷ b (pc + 1 + length a + 1))

-- the topmost values become the locals from i on
abbrev pub stores : ℕ → ℕ → List PlainInstr
stores i zero = []
stores i (suc n) = stores (i + 1) n ++ Store i ∷ []

-- an item of a do, the last one or another
abbrev pub do_code : Bool → ℕ → List PlainInstr → (ℕ → List PlainInstr) → List PlainInstr
do_code true pc a rest = a
do_code false pc a rest = then_code pc a (λ p. Pop ∷ rest (p + 1))

-- what an update opens with: the form, and the callee where the machine has to know it before it is applied
abbrev pub opening : UpdateForm → Callee → OpenForm
opening update.Alter callee = open_form.Alter
opening update.Commute callee = open_form.Commute callee
opening update.Swap callee = open_form.Swap callee

-- what an update calls, on so many values
abbrev pub callee_code : Callee → ℕ → Span → PlainInstr
callee_code (CoreOp op) args span = CoreOf op args span
callee_code (Function f) args span = CallOf f args

-- depth: the number of locals. base and start: those at the nearest loop or function, and the place of its body
abbrev mutual
  pub gen : Tree → ℕ → ℕ → ℕ → ℕ → List PlainInstr
  gen (Const v m) depth base start pc = Push v ∷ []
  gen (Local i m) depth base start pc = Load i ∷ []
  gen (If c a b m) depth base start pc =
      then_code pc (gen c depth base start pc) (λ p. if_code p (gen a depth base start (p + 1)) (gen b depth base start))
  gen (Do items m) depth base start pc = gen_do items depth base start pc
  gen (Let values body m) depth base start pc =
      then_code pc (gen_let values depth base start pc) (gen body (depth + count values) base start)
  gen (Loop values body m) depth base start pc =
      then_code pc (gen_let values depth base start pc) (λ p. gen body (depth + count values) depth p p)
  gen (Recur values m) depth base start pc =
      then_code pc (gen_all values depth base start pc) (λ p. stores base (count values) ++ Jump start ∷ [])
  gen (Core op args m) depth base start pc = gen_all args depth base start pc ++ CoreOf op (count args) m.span ∷ []
  gen (Call f args m) depth base start pc = gen_all args depth base start pc ++ CallOf f (count args) ∷ []
  gen (VectorOf items m) depth base start pc = gen_all items depth base start pc ++ MakeVector (count items) m.span ∷ []
  gen (Println args m) depth base start pc = gen_all args depth base start pc ++ PrintOf (count args) ∷ []
  gen (Dosync body m) depth base start pc = TxBegin m.span ∷ (gen body depth base start (pc + 1) ++ TxEnd ∷ [])
  gen (Look form cell m) depth base start pc = gen cell depth base start pc ++ LookOf form m.span ∷ []
  gen (Put form cell value m) depth base start pc =
      then_code pc (gen cell depth base start pc) (λ p. gen value depth base start p ++ PutOf form m.span ∷ [])
  gen (Update form cell callee args m) depth base start pc =
      then_code pc (gen cell depth base start pc) (λ p.
      gen_all args depth base start p ++ (OpenOf (opening form callee) (count args) m.span ∷ callee_code callee (suc (count args)) m.span ∷ CloseOf form m.span ∷ []))
  gen (Send cell callee args m) depth base start pc =
      then_code pc (gen cell depth base start pc) (λ p. gen_all args depth base start p ++ SendOf callee (count args) m.span ∷ [])

  -- the code of these, one after another
  pub gen_all : Trees → ℕ → ℕ → ℕ → ℕ → List PlainInstr
  gen_all none depth base start pc = []
  gen_all (more e rest) depth base start pc = then_code pc (gen e depth base start pc) (gen_all rest depth base start)

  -- the code of these, each of which is stored as a local
  pub gen_let : Trees → ℕ → ℕ → ℕ → ℕ → List PlainInstr
  gen_let none depth base start pc = []
  gen_let (more e rest) depth base start pc =
      then_code pc (gen e depth base start pc) (λ p. Store depth ∷ gen_let rest (depth + 1) base start (p + 1))

  -- the code of these, of which each but the last is popped
  pub gen_do : Trees → ℕ → ℕ → ℕ → ℕ → List PlainInstr
  gen_do none depth base start pc = []
  gen_do (more e rest) depth base start pc = do_code (is_none rest) pc (gen e depth base start pc) (gen_do rest depth base start)

-- how many locals are live at once, where so many are already
abbrev mutual
  pub locals_in : Tree → ℕ → ℕ
  locals_in (Const v m) d = d
  locals_in (Local i m) d = d
  locals_in (If c a b m) d = max (locals_in c d) (max (locals_in a d) (locals_in b d))
  locals_in (Do items m) d = locals_in_all items d
  locals_in (Let values body m) d = max (locals_in_let values d) (locals_in body (d + count values))
  locals_in (Loop values body m) d = max (locals_in_let values d) (locals_in body (d + count values))
  locals_in (Recur values m) d = locals_in_all values d
  locals_in (Core op args m) d = locals_in_all args d
  locals_in (Call f args m) d = locals_in_all args d
  locals_in (VectorOf items m) d = locals_in_all items d
  locals_in (Println args m) d = locals_in_all args d
  locals_in (Dosync body m) d = locals_in body d
  locals_in (Look form cell m) d = locals_in cell d
  locals_in (Put form cell value m) d = max (locals_in cell d) (locals_in value d)
  locals_in (Update form cell callee args m) d = max (locals_in cell d) (locals_in_all args d)
  locals_in (Send cell callee args m) d = max (locals_in cell d) (locals_in_all args d)

  -- how many locals are live at once in these, which are beside one another
  pub locals_in_all : Trees → ℕ → ℕ
  locals_in_all none d = d
  locals_in_all (more e rest) d = max (locals_in e d) (locals_in_all rest d)

  -- the same where each value becomes a local for those behind it
  pub locals_in_let : Trees → ℕ → ℕ
  locals_in_let none d = d
  locals_in_let (more e rest) d = max (locals_in e d) (locals_in_let rest (d + 1))

-- a function whose parameters are the first locals
abbrev pub function_code : PlainFunction → PlainBody
function_code f = record { locals = locals_in f.body f.parameters; instrs = gen f.body f.parameters 0 0 0 ++ Return ∷ [] }

-- the code of functions, in order
abbrev pub functions_code : List PlainFunction → List PlainBody
functions_code [] = []
functions_code (f ∷ fs) = function_code f ∷ functions_code fs

-- the body of a thread
abbrev pub body_code : Tree → PlainBody
body_code body = record { locals = locals_in body 0; instrs = gen body 0 0 0 0 ++ Halt ∷ [] }

-- the code of a thread with that of its functions
abbrev pub generated : ThreadSource → ThreadCode
generated p = record { functions = functions_code p.functions; validators = validators_of p.cells; main = body_code p.main }
