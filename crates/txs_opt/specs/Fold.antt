-- What folding makes of a program: parts whose value is known stand as that value, and what has no use goes.
use Rattle.std.specs.Prelude.{Bool, true, false, List, [], ◌∷◌, length, Option, Some, None, Result, Ok, Err}
use Rattle.txs_value_apply.specs.Core.{core, takes, vector_of}
use Rattle.txs_value_apply.specs.Truth.{choose}
use Rattle.txs_value_data.specs.declared.fault.FaultKind.{FaultKind}
use Rattle.txs_value_data.specs.declared.op.Op.{Op}
use Rattle.txs_value_data.specs.declared.value.Value.{Value}
use Rattle.txs_tree_meaning.specs.Tree.{Mark, Tree, Const, Local, If, Do, Let, Loop, Recur, Core, Call, VectorOf, Println, Dosync, Look, Put, Update, Send, Trees, none, more, PlainFunction, PlainThread, PlainProgram}

-- the value of a constant
abbrev pub value_of : Tree → Option Value
value_of (Const v m) = Some v
value_of _ = None

-- one more value in front
abbrev pub with_value : Option Value → Option (List Value) → Option (List Value)
with_value None vs = None
with_value (Some v) None = None
with_value (Some v) (Some vs) = Some (v ∷ vs)

-- the values of these, where each is a constant
abbrev pub constants : Trees → Option (List Value)
constants none = Some []
constants (more e rest) = with_value (value_of e) (constants rest)

-- the value that was found is where the node was; a fault stays in the program
abbrev pub settled : Result Value FaultKind → Mark → Tree → Tree
settled (Ok v) m e = Const v m
settled (Err k) m e = e

-- an operation on as many constants as it takes
abbrev pub settled_on : Bool → List Value → Op → Trees → Mark → Tree
settled_on false vs op args m = Core op args m
settled_on true vs op args m = settled (core op vs) m (Core op args m)

-- an operation whose arguments may be constants
abbrev pub settled_core : Option (List Value) → Op → Trees → Mark → Tree
settled_core None op args m = Core op args m
settled_core (Some vs) op args m = settled_on (takes op (length vs)) vs op args m

-- a vector of constants
abbrev pub settled_vector : Option (List Value) → Trees → Mark → Tree
settled_vector None items m = VectorOf items m
settled_vector (Some vs) items m = settled (vector_of vs) m (VectorOf items m)

-- a choice by a constant is the branch that it takes
abbrev pub chosen : Option Value → Tree → Tree → Tree → Mark → Tree
chosen None c a b m = If c a b m
chosen (Some v) c a b m = choose v a b

-- an item before others, which goes where it is a constant
abbrev pub before : Option Value → Tree → Trees → Trees
before None e rest = more e rest
before (Some v) e rest = rest

-- the items of which something is seen: the last one, and those before it that are no constants
abbrev pub seen_items : Trees → Trees
seen_items none = none
seen_items (more e none) = more e none
seen_items (more e (more f rest)) = before (value_of e) e (seen_items (more f rest))

-- one item alone stands for the whole
abbrev pub whole : Trees → Mark → Tree
whole none m = Do none m
whole (more e none) m = e
whole (more e (more f rest)) m = Do (more e (more f rest)) m

abbrev mutual
  -- a tree folded, from the leaves up
  pub folded : Tree → Tree
  folded (Const v m) = Const v m
  folded (Local i m) = Local i m
  folded (If c a b m) = chosen (value_of (folded c)) (folded c) (folded a) (folded b) m
  folded (Do items m) = whole (seen_items (folded_all items)) m
  folded (Let values body m) = Let (folded_all values) (folded body) m
  folded (Loop values body m) = Loop (folded_all values) (folded body) m
  folded (Recur values m) = Recur (folded_all values) m
  folded (Core op args m) = settled_core (constants (folded_all args)) op (folded_all args) m
  folded (Call f args m) = Call f (folded_all args) m
  folded (VectorOf items m) = settled_vector (constants (folded_all items)) (folded_all items) m
  folded (Println args m) = Println (folded_all args) m
  folded (Dosync body m) = Dosync (folded body) m
  folded (Look form cell m) = Look form (folded cell) m
  folded (Put form cell value m) = Put form (folded cell) (folded value) m
  folded (Update form cell callee args m) = Update form (folded cell) callee (folded_all args) m
  folded (Send cell callee args m) = Send (folded cell) callee (folded_all args) m

  -- each of these folded
  pub folded_all : Trees → Trees
  folded_all none = none
  folded_all (more e rest) = more (folded e) (folded_all rest)

-- a function with its body folded
abbrev pub folded_function : PlainFunction → PlainFunction
folded_function f = record f { body = folded f.body }

-- functions with their bodies folded
abbrev pub folded_functions : List PlainFunction → List PlainFunction
folded_functions [] = []
folded_functions (f ∷ fs) = folded_function f ∷ folded_functions fs

-- a thread with its body folded
abbrev pub folded_thread : PlainThread → PlainThread
folded_thread t = record t { body = folded t.body }

-- threads with their bodies folded
abbrev pub folded_threads : List PlainThread → List PlainThread
folded_threads [] = []
folded_threads (t ∷ ts) = folded_thread t ∷ folded_threads ts

-- a program with all bodies folded
abbrev pub folded_program : PlainProgram → PlainProgram
folded_program p = record { functions = folded_functions p.functions; cells = p.cells; validator_spans = p.validator_spans; threads = folded_threads p.threads }
