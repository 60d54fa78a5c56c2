-- What inlining makes of a program: calls of small functions stand as the functions' bodies.
use Rattle.std.specs.Prelude.{ℕ, suc, min, ◌+◌, ◌-◌, nat_eq, nat_le, Bool, true, false, ◌&&◌, ◌||◌, not, List, [], ◌∷◌, ◌++◌, Option, Some, None}
use Rattle.txs_value_data.specs.Places.{nth}
use Rattle.txs_value_data.specs.Limits.{most_locals, most_nodes}
use Rattle.txs_tree_meaning.specs.Sound.{nodes, nodes_of_functions, nodes_of_all}
use Rattle.txs_tree_meaning.specs.Locals.{reach}
use Rattle.txs_tree_meaning.specs.Shift.{shifted}
use Rattle.txs_tree_meaning.specs.Tree.{Mark, Tree, Const, Local, If, Do, Let, Loop, Recur, Core, Call, VectorOf, Println, Dosync, Look, Put, Update, Send, Trees, none, more, count, PlainFunction, PlainThread, PlainProgram}

-- arguments as the values of a let with d locals, each of which sees the j values before it
abbrev pub bound : ℕ → ℕ → Trees → Trees
bound d j none = none
bound d j (more e rest) = more (shifted d j e) (bound d (suc j) rest)

abbrev mutual
  -- whether there is in it a recur to the function whose body this is
  pub recurs : Tree → Bool
  recurs (Const v m) = false
  recurs (Local i m) = false
  recurs (If c a b m) = recurs a || recurs b
  recurs (Do items m) = last_recurs items
  recurs (Let values body m) = recurs body
  recurs (Loop values body m) = false
  recurs (Recur values m) = true
  recurs (Core op args m) = false
  recurs (Call f args m) = false
  recurs (VectorOf items m) = false
  recurs (Println args m) = false
  recurs (Dosync body m) = false
  recurs (Look form cell m) = false
  recurs (Put form cell value m) = false
  recurs (Update form cell callee args m) = false
  recurs (Send cell callee args m) = false

  -- whether one is in the last of these
  pub last_recurs : Trees → Bool
  last_recurs none = false
  last_recurs (more e none) = recurs e
  last_recurs (more e (more f rest)) = last_recurs (more f rest)

-- the nodes that a function's body may have, so that calls of it become its body
abbrev pub most_inlined : ℕ
most_inlined = 40

-- the let that takes a call's place where d locals are live: of the parameters, with the function's body
abbrev pub let_of_call : ℕ → Tree → Trees → Mark → Tree
let_of_call d body args m = Let (bound d 0 args) (shifted 0 d body) m

-- Whether a call of this function on these arguments becomes its body, where so many locals are live and the program may get so
-- many nodes more: the body is small, no recur in it goes to the function itself, and the limits still hold.
abbrev pub may_inline : ℕ → PlainFunction → Trees → Mark → ℕ → Bool
may_inline d fun args m budget =
    nat_le (nodes fun.body) most_inlined && (not (recurs fun.body) && (nat_eq fun.parameters (count args) && (nat_le (nodes fun.body) budget && nat_le (reach d (let_of_call d fun.body args m)) most_locals)))

-- a tree, and how many nodes more the program may get
pub record InlinedTree : Type 0 where
  pub tree : Tree
  pub budget : ℕ

-- trees, and how many nodes more the program may get
pub record InlinedTrees : Type 0 where
  pub trees : Trees
  pub budget : ℕ

-- a call where so many locals are live: the let with the function's body, or the call as it was
abbrev pub opened : Bool → ℕ → ℕ → PlainFunction → Trees → Mark → ℕ → InlinedTree
opened true d f fun args m budget = record { tree = let_of_call d fun.body args m; budget = budget - nodes fun.body }
opened false d f fun args m budget = record { tree = Call f args m; budget = budget }

-- a call of the function that is there
abbrev pub called : Option PlainFunction → ℕ → ℕ → Trees → Mark → ℕ → InlinedTree
called None d f args m budget = record { tree = Call f args m; budget = budget }
called (Some fun) d f args m budget = opened (may_inline d fun args m budget) d f fun args m budget

abbrev mutual
  -- a tree with so many locals, where these functions are defined, with calls inlined from left to right, those in arguments first
  pub inlined : List PlainFunction → ℕ → ℕ → Tree → InlinedTree
  inlined fs d budget (Const v m) = record { tree = Const v m; budget = budget }
  inlined fs d budget (Local i m) = record { tree = Local i m; budget = budget }
  inlined fs d budget (If c a b m) =
      let x = inlined fs d budget c in
      let y = inlined fs d x.budget a in
      let z = inlined fs d y.budget b in
      record { tree = If x.tree y.tree z.tree m; budget = z.budget }
  inlined fs d budget (Do items m) = let x = all_inlined fs d budget items in record { tree = Do x.trees m; budget = x.budget }
  inlined fs d budget (Let values body m) =
      let x = let_inlined fs d budget values in
      let y = inlined fs (d + count values) x.budget body in
      record { tree = Let x.trees y.tree m; budget = y.budget }
  inlined fs d budget (Loop values body m) =
      let x = let_inlined fs d budget values in
      let y = inlined fs (d + count values) x.budget body in
      record { tree = Loop x.trees y.tree m; budget = y.budget }
  inlined fs d budget (Recur values m) = let x = all_inlined fs d budget values in record { tree = Recur x.trees m; budget = x.budget }
  inlined fs d budget (Core op args m) = let x = all_inlined fs d budget args in record { tree = Core op x.trees m; budget = x.budget }
  inlined fs d budget (Call f args m) = let x = all_inlined fs d budget args in called (nth fs f) d f x.trees m x.budget
  inlined fs d budget (VectorOf items m) = let x = all_inlined fs d budget items in record { tree = VectorOf x.trees m; budget = x.budget }
  inlined fs d budget (Println args m) = let x = all_inlined fs d budget args in record { tree = Println x.trees m; budget = x.budget }
  inlined fs d budget (Dosync body m) = let x = inlined fs d budget body in record { tree = Dosync x.tree m; budget = x.budget }
  inlined fs d budget (Look form cell m) = let x = inlined fs d budget cell in record { tree = Look form x.tree m; budget = x.budget }
  inlined fs d budget (Put form cell value m) =
      let x = inlined fs d budget cell in
      let y = inlined fs d x.budget value in
      record { tree = Put form x.tree y.tree m; budget = y.budget }
  inlined fs d budget (Update form cell callee args m) =
      let x = inlined fs d budget cell in
      let y = all_inlined fs d x.budget args in
      record { tree = Update form x.tree callee y.trees m; budget = y.budget }
  inlined fs d budget (Send cell callee args m) =
      let x = inlined fs d budget cell in
      let y = all_inlined fs d x.budget args in
      record { tree = Send x.tree callee y.trees m; budget = y.budget }

  -- each of these, with the same locals
  pub all_inlined : List PlainFunction → ℕ → ℕ → Trees → InlinedTrees
  all_inlined fs d budget none = record { trees = none; budget = budget }
  all_inlined fs d budget (more e rest) =
      let x = inlined fs d budget e in
      let y = all_inlined fs d x.budget rest in
      record { trees = more x.tree y.trees; budget = y.budget }

  -- the values of a let, each of which sees those before it
  pub let_inlined : List PlainFunction → ℕ → ℕ → Trees → InlinedTrees
  let_inlined fs d budget none = record { trees = none; budget = budget }
  let_inlined fs d budget (more e rest) =
      let x = inlined fs d budget e in
      let y = let_inlined fs (d + 1) x.budget rest in
      record { trees = more x.tree y.trees; budget = y.budget }

-- functions, and how many nodes more the program may get
pub record InlinedFunctions : Type 0 where
  pub functions : List PlainFunction
  pub budget : ℕ

-- further functions in order, each with the calls in its body inlined, of functions before it as they stand by then
abbrev pub functions_inlined : List PlainFunction → ℕ → List PlainFunction → InlinedFunctions
functions_inlined done budget [] = record { functions = done; budget = budget }
functions_inlined done budget (f ∷ fs) =
    let x = inlined done f.parameters budget f.body in
    functions_inlined (done ++ record f { body = x.tree } ∷ []) x.budget fs

-- threads in order
abbrev pub threads_inlined : List PlainFunction → ℕ → List PlainThread → List PlainThread
threads_inlined fs budget [] = []
threads_inlined fs budget (t ∷ ts) =
    let x = inlined fs 0 budget t.body in
    record t { body = x.tree } ∷ threads_inlined fs x.budget ts

-- how many nodes more a program may get that is to have at most so many, and no more than any program
abbrev pub budget_of : ℕ → PlainProgram → ℕ
budget_of limit p = min limit most_nodes - (nodes_of_functions p.functions + nodes_of_all p.threads)

-- a program with the calls in functions and then in threads inlined, as long as it has no more nodes than the limit
abbrev pub inlined_program : ℕ → PlainProgram → PlainProgram
inlined_program limit p =
    let x = functions_inlined [] (budget_of limit p) p.functions in
    record { functions = x.functions; cells = p.cells; validator_spans = p.validator_spans; threads = threads_inlined x.functions x.budget p.threads }
