-- Which programs are sound: those that the checks accept.
use Rattle.std.specs.Prelude.{◌≡◌, ◌<◌, ◌≤◌, ◌+◌, ℕ, suc, true, false, List, [], ◌∷◌, ◌++◌, Option, Some, None}
use Rattle.txs_value_apply.specs.Core.{takes}
use Rattle.txs_value_cell.specs.Forms.{rule}
use Rattle.txs_value_data.specs.Limits.{most_items, most_locals, most_parameters, most_levels, most_nodes}
use Rattle.txs_value_data.specs.Places.{nth}
use Rattle.txs_value_cell.specs.declared.form.CellForm.TheVariants as form_of
use Rattle.txs_value_cell.specs.declared.form.Standing.{Standing}
use Rattle.txs_value_cell.specs.declared.form.Standing.TheVariants.{Anywhere, Inside, Outside}
use Rattle.txs_value_data.specs.declared.op.Op.{Op}
use Rattle.txs_value_data.specs.declared.op.Callee.{Callee}
use Rattle.txs_value_data.specs.declared.op.Callee.TheVariants.{Core as CoreOp, Function}
use Rattle.txs_tree_meaning.specs.Known.{Known, known_of, known, levels}
use Rattle.txs_tree_meaning.specs.Scoped.{Scoped}
use Rattle.txs_tree_meaning.specs.Tree.{Tree, Const, Local, If, Do, Let, Loop, Recur, Core, Call, VectorOf, Println, Dosync, Look, Put, Update, Send, Trees, none, more, count, PlainFunction, PlainThread, PlainProgram, ThreadSource}
use Rattle.txs_value_cell.specs.declared.cell.CellDefinition.{CellDefinition}

-- where a node is: in a function, which may be called inside transactions and outside; in a thread outside every
-- transaction; or in a transaction
pub data Zone : Type 0 where
  in_function in_thread in_dosync : Zone

-- what is placed so may be here
abbrev pub MayStand : Zone → Standing → Type 0
MayStand in_function s = Unit {0}
MayStand in_thread Anywhere = Unit {0}
MayStand in_thread Inside = ⊥
MayStand in_thread Outside = Unit {0}
MayStand in_dosync Anywhere = Unit {0}
MayStand in_dosync Inside = Unit {0}
MayStand in_dosync Outside = ⊥

-- this function may be called here
abbrev pub MayCall : Zone → Known → Type 0
MayCall in_function k = Unit {0}
MayCall in_thread k = k.inside ≡ false
MayCall in_dosync k = k.outside ≡ false

-- an operation takes so many arguments, and an instruction can name as many
abbrev pub TakesFew : Op → ℕ → Type 0
TakesFew op n = (takes op n ≡ true) × (n ≤ most_items)

-- a function that is defined before takes so many arguments, and may be called here
pub record SoundCall (ks : List Known) (zone : Zone) (f n : ℕ) : Type 0 where
  pub function : Known
  pub found : nth ks f ≡ Some function
  pub arity : function.parameters ≡ n
  pub zoned : MayCall zone function

-- a pure function that is defined before takes so many arguments
pub record PureCall (ks : List Known) (f n : ℕ) : Type 0 where
  pub function : Known
  pub found : nth ks f ≡ Some function
  pub arity : function.parameters ≡ n
  pub pure : function.pure ≡ true

-- a callee of so many arguments, the cell's value among them
abbrev pub SoundCallee : List Known → Callee → ℕ → Type 0
SoundCallee ks (CoreOp op) n = TakesFew op n
SoundCallee ks (Function f) n = PureCall ks f n

-- a function that is defined before takes so many arguments, and isn't for transactions alone
pub record SentCall (ks : List Known) (f n : ℕ) : Type 0 where
  pub function : Known
  pub found : nth ks f ≡ Some function
  pub arity : function.parameters ≡ n
  pub zoned : function.inside ≡ false

-- what may be sent, of so many arguments, the agent's state among them
abbrev pub SoundSent : List Known → Callee → ℕ → Type 0
SoundSent ks (CoreOp op) n = TakesFew op n
SoundSent ks (Function f) n = SentCall ks f n

-- what may be applied as an action to so many values, the agent's state among them: an operation that takes them, or a function that may be sent
abbrev pub SentCallee : List Known → Callee → ℕ → Type 0
SentCallee ks (CoreOp op) n = takes op n ≡ true
SentCallee ks (Function f) n = SentCall ks f n

-- A node with so many locals, where these functions are defined, in this zone. In tail position of a loop or function the
-- number of its values is given: a recur is there alone, with as many.
abbrev mutual
  pub SoundTree : List Known → Zone → ℕ → Option ℕ → Tree → Type 0
  SoundTree ks zone d tail (Const v m) = Unit {0}
  SoundTree ks zone d tail (Local i m) = i < d
  SoundTree ks zone d tail (If c a b m) = SoundTree ks zone d None c × SoundTree ks zone d tail a × SoundTree ks zone d tail b
  SoundTree ks zone d tail (Do items m) = SoundDo ks zone d tail items
  SoundTree ks zone d tail (Let values body m) =
      SoundLet ks zone d values × SoundTree ks zone (d + count values) tail body
  SoundTree ks zone d tail (Loop values body m) =
      SoundLet ks zone d values × SoundTree ks zone (d + count values) (Some (count values)) body
  SoundTree ks zone d tail (Recur values m) = (tail ≡ Some (count values)) × SoundAll ks zone d values
  SoundTree ks zone d tail (Core op args m) = TakesFew op (count args) × SoundAll ks zone d args
  SoundTree ks zone d tail (Call f args m) = SoundCall ks zone f (count args) × SoundAll ks zone d args
  SoundTree ks zone d tail (VectorOf items m) = (count items ≤ most_items) × SoundAll ks zone d items
  -- printing is for outside
  SoundTree ks zone d tail (Println args m) = MayStand zone Outside × (count args ≤ most_items) × SoundAll ks zone d args
  -- a barrier for recur; an inner one joins
  SoundTree ks zone d tail (Dosync body m) = SoundTree ks in_dosync d None body
  -- the forms on cells are where the table says, and apply pure callees
  SoundTree ks zone d tail (Look form cell m) = MayStand zone (rule (form_of.Look form)).stands × SoundTree ks zone d None cell
  SoundTree ks zone d tail (Put form cell value m) =
      MayStand zone (rule (form_of.Put form)).stands × SoundTree ks zone d None cell × SoundTree ks zone d None value
  SoundTree ks zone d tail (Update form cell callee args m) =
      MayStand zone (rule (form_of.Update form)).stands × SoundTree ks zone d None cell × SoundCallee ks callee (suc (count args)) × SoundAll ks zone d args
  SoundTree ks zone d tail (Send cell callee args m) =
      SoundTree ks zone d None cell × SoundSent ks callee (suc (count args)) × SoundAll ks zone d args

  -- each of these, none of them in tail position
  pub SoundAll : List Known → Zone → ℕ → Trees → Type 0
  SoundAll ks zone d none = Unit {0}
  SoundAll ks zone d (more e rest) = SoundTree ks zone d None e × SoundAll ks zone d rest

  -- each value sees the locals before it
  pub SoundLet : List Known → Zone → ℕ → Trees → Type 0
  SoundLet ks zone d none = d ≤ most_locals
  SoundLet ks zone d (more e rest) = SoundTree ks zone d None e × SoundLet ks zone (d + 1) rest

  -- the last one is in tail position
  pub SoundDo : List Known → Zone → ℕ → Option ℕ → Trees → Type 0
  SoundDo ks zone d tail none = ⊥
  SoundDo ks zone d tail (more e none) = SoundTree ks zone d tail e
  SoundDo ks zone d tail (more e (more f rest)) = SoundTree ks zone d None e × SoundDo ks zone d tail (more f rest)

-- in tail position of some loop, or of none
pub record InSomeTail (P : Option ℕ → Type 0) : Type 0 where
  pub tail : Option ℕ
  pub sound : P tail

-- how many nodes there are
abbrev mutual
  pub nodes : Tree → ℕ
  nodes (Const v m) = 1
  nodes (Local i m) = 1
  nodes (If c a b m) = suc (nodes c + (nodes a + nodes b))
  nodes (Do items m) = suc (nodes_in items)
  nodes (Let values body m) = suc (nodes_in values + nodes body)
  nodes (Loop values body m) = suc (nodes_in values + nodes body)
  nodes (Recur values m) = suc (nodes_in values)
  nodes (Core op args m) = suc (nodes_in args)
  nodes (Call f args m) = suc (nodes_in args)
  nodes (VectorOf items m) = suc (nodes_in items)
  nodes (Println args m) = suc (nodes_in args)
  nodes (Dosync body m) = suc (nodes body)
  nodes (Look form cell m) = suc (nodes cell)
  nodes (Put form cell value m) = suc (nodes cell + nodes value)
  nodes (Update form cell callee args m) = suc (nodes cell + nodes_in args)
  nodes (Send cell callee args m) = suc (nodes cell + nodes_in args)

  -- how many nodes these have together
  pub nodes_in : Trees → ℕ
  nodes_in none = 0
  nodes_in (more e rest) = nodes e + nodes_in rest

-- a function's body: its parameters are its first locals, and it is a target of recur
abbrev pub SoundFunction : List Known → PlainFunction → Type 0
SoundFunction ks f = (f.parameters ≤ most_parameters) × SoundTree ks in_function f.parameters (Some f.parameters) f.body × (levels ks f.body ≤ most_levels)

-- each function calls those before it alone
abbrev pub SoundFunctions : List Known → List PlainFunction → Type 0
SoundFunctions ks [] = Unit {0}
SoundFunctions ks (f ∷ fs) = SoundFunction ks f × SoundFunctions (ks ++ known_of ks f ∷ []) fs

-- a thread's body: outside every transaction, with no locals yet
abbrev pub SoundThread : List Known → PlainThread → Type 0
SoundThread ks t = SoundTree ks in_thread 0 None t.body × (levels ks t.body ≤ most_levels)

-- each of these threads
abbrev pub SoundThreads : List Known → List PlainThread → Type 0
SoundThreads ks [] = Unit {0}
SoundThreads ks (t ∷ ts) = SoundThread ks t × SoundThreads ks ts

-- how many nodes the bodies of functions have together
abbrev pub nodes_of_functions : List PlainFunction → ℕ
nodes_of_functions [] = 0
nodes_of_functions (f ∷ fs) = nodes f.body + nodes_of_functions fs

-- how many nodes the bodies of threads have together
abbrev pub nodes_of_all : List PlainThread → ℕ
nodes_of_all [] = 0
nodes_of_all (t ∷ ts) = nodes t.body + nodes_of_all ts

-- a validator is a callee of one value
abbrev pub SoundValidator : List Known → Option Callee → Type 0
SoundValidator ks None = Unit {0}
SoundValidator ks (Some callee) = SoundCallee ks callee 1

-- so is that of each of these cells
abbrev pub SoundCells : List Known → List CellDefinition → Type 0
SoundCells ks [] = Unit {0}
SoundCells ks (d ∷ ds) = SoundValidator ks d.validator × SoundCells ks ds

-- a program that the checks accept: one of which names are resolved, whose bodies are sound, and which has not too many nodes
pub record Sound (p : PlainProgram) : Type 0 where
  pub scoped : Scoped p
  pub functions : SoundFunctions [] p.functions
  pub cells : SoundCells (known p.functions) p.cells
  pub threads : SoundThreads (known p.functions) p.threads
  pub few_nodes : nodes_of_functions p.functions + nodes_of_all p.threads ≤ most_nodes

-- one thread that the checks accept
pub record SoundSource (p : ThreadSource) : Type 0 where
  pub functions : SoundFunctions [] p.functions
  pub cells : SoundCells (known p.functions) p.cells
  pub main : SoundTree (known p.functions) in_thread 0 None p.main
