-- Which marks of trees are right: each says whether the result of its node is wanted.
use Rattle.std.specs.Prelude.{◌≡◌, Bool, true, false, List, [], ◌∷◌}
use Rattle.txs_tree_meaning.specs.Tree.{Tree, Const, Local, If, Do, Let, Loop, Recur, Core, Call, VectorOf, Println, Dosync, Look, Put, Update, Send, Trees, none, more, PlainFunction, PlainThread, PlainProgram}

-- A result is marked as wanted where it is used, and nowhere else. The resolver makes such marks.
abbrev pub Exactly : Bool → Bool → Type 0
Exactly used wanted = wanted ≡ used

-- A result is marked as wanted at least where it is used. Every program has such marks. A function's body may replace a call and
-- keep its own marks, also where the result of the call isn't used: then these marks stay right, and exact ones don't.
abbrev pub AtLeast : Bool → Bool → Type 0
AtLeast used wanted = used ≡ true → wanted ≡ true

abbrev mutual
  -- The marks of a node whose result is used or not. The last item of a `do`, the branches of an `if`, and the body of a `let` or
  -- `loop` are used as their form is; the other items of a `do` aren't used. The body of a `dosync` is used where the mark of the
  -- `dosync` says that it is wanted. All else is used.
  pub MarkedBy : (Bool → Bool → Type 0) → Bool → Tree → Type 0
  MarkedBy says used (Const v m) = says used m.wanted
  MarkedBy says used (Local i m) = says used m.wanted
  MarkedBy says used (If c a b m) = says used m.wanted × MarkedBy says true c × MarkedBy says used a × MarkedBy says used b
  MarkedBy says used (Do items m) = says used m.wanted × DoMarkedBy says used items
  MarkedBy says used (Let values body m) = says used m.wanted × AllMarkedBy says values × MarkedBy says used body
  MarkedBy says used (Loop values body m) = says used m.wanted × AllMarkedBy says values × MarkedBy says used body
  MarkedBy says used (Recur values m) = says used m.wanted × AllMarkedBy says values
  MarkedBy says used (Core op args m) = says used m.wanted × AllMarkedBy says args
  MarkedBy says used (Call f args m) = says used m.wanted × AllMarkedBy says args
  MarkedBy says used (VectorOf items m) = says used m.wanted × AllMarkedBy says items
  MarkedBy says used (Println args m) = says used m.wanted × AllMarkedBy says args
  MarkedBy says used (Dosync body m) = says used m.wanted × MarkedBy says m.wanted body
  MarkedBy says used (Look form cell m) = says used m.wanted × MarkedBy says true cell
  MarkedBy says used (Put form cell value m) = says used m.wanted × MarkedBy says true cell × MarkedBy says true value
  MarkedBy says used (Update form cell callee args m) = says used m.wanted × MarkedBy says true cell × AllMarkedBy says args
  MarkedBy says used (Send cell callee args m) = says used m.wanted × MarkedBy says true cell × AllMarkedBy says args

  -- each of these is used
  pub AllMarkedBy : (Bool → Bool → Type 0) → Trees → Type 0
  AllMarkedBy says none = Unit {0}
  AllMarkedBy says (more e rest) = MarkedBy says true e × AllMarkedBy says rest

  -- the last one is used or not, the others aren't
  pub DoMarkedBy : (Bool → Bool → Type 0) → Bool → Trees → Type 0
  DoMarkedBy says used none = Unit {0}
  DoMarkedBy says used (more e none) = MarkedBy says used e
  DoMarkedBy says used (more e (more f rest)) = MarkedBy says false e × DoMarkedBy says used (more f rest)

-- what a function gives is used
abbrev pub FunctionsMarkedBy : (Bool → Bool → Type 0) → List PlainFunction → Type 0
FunctionsMarkedBy says [] = Unit {0}
FunctionsMarkedBy says (f ∷ fs) = MarkedBy says true f.body × FunctionsMarkedBy says fs

-- what a thread's body gives isn't
abbrev pub ThreadsMarkedBy : (Bool → Bool → Type 0) → List PlainThread → Type 0
ThreadsMarkedBy says [] = Unit {0}
ThreadsMarkedBy says (t ∷ ts) = MarkedBy says false t.body × ThreadsMarkedBy says ts

-- a program with such marks
pub record ProgramMarkedBy (says : Bool → Bool → Type 0) (p : PlainProgram) : Type 0 where
  pub functions : FunctionsMarkedBy says p.functions
  pub threads : ThreadsMarkedBy says p.threads

-- ---- the marks that every program has: a result is marked as wanted at least where it is used

-- those of a node
abbrev pub Marked : Bool → Tree → Type 0
Marked used t = MarkedBy AtLeast used t

-- of nodes whose results are used
abbrev pub MarkedAll : Trees → Type 0
MarkedAll ts = AllMarkedBy AtLeast ts

-- of the items of a `do`
abbrev pub MarkedDo : Bool → Trees → Type 0
MarkedDo used ts = DoMarkedBy AtLeast used ts

-- of functions
abbrev pub MarkedFunctions : List PlainFunction → Type 0
MarkedFunctions fs = FunctionsMarkedBy AtLeast fs

-- of threads
abbrev pub MarkedThreads : List PlainThread → Type 0
MarkedThreads ts = ThreadsMarkedBy AtLeast ts

-- of a program
abbrev pub MarkedProgram : PlainProgram → Type 0
MarkedProgram p = ProgramMarkedBy AtLeast p
