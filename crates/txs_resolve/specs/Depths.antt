-- How many nodes are in one another, where the levels of functions are known by their numbers.
use Rattle.std.specs.Prelude.{ℕ, zero, suc, max, List, [], ◌∷◌}
use Rattle.txs_value_data.specs.declared.op.Callee.{Callee}
use Rattle.txs_value_data.specs.declared.op.Callee.TheVariants.{Core as CoreOp, Function}
use Rattle.txs_tree_meaning.specs.Tree.{Tree, Const, Local, If, Do, Let, Loop, Recur, Core, Call, VectorOf, Println, Dosync, Look, Put, Update, Send, Trees, none, more}

-- the number at a place, nought where there is none
abbrev pub at_place : List ℕ → ℕ → ℕ
at_place [] n = 0
at_place (x ∷ xs) zero = x
at_place (x ∷ xs) (suc n) = at_place xs n

-- how many levels a callee has below it: an operation none, a function those of its body
abbrev pub callee_depth : List ℕ → Callee → ℕ
callee_depth ls (CoreOp op) = 0
callee_depth ls (Function f) = at_place ls f

abbrev mutual
  -- how many nodes are in one another, a call or callee counted with the function's levels
  pub depths : List ℕ → Tree → ℕ
  depths ls (Const v m) = 1
  depths ls (Local i m) = 1
  depths ls (If c a b m) = suc (max (depths ls c) (max (depths ls a) (depths ls b)))
  depths ls (Do items m) = suc (depths_in ls items)
  depths ls (Let values body m) = suc (max (depths_in ls values) (depths ls body))
  depths ls (Loop values body m) = suc (max (depths_in ls values) (depths ls body))
  depths ls (Recur values m) = suc (depths_in ls values)
  depths ls (Core op args m) = suc (depths_in ls args)
  depths ls (Call f args m) = suc (max (at_place ls f) (depths_in ls args))
  depths ls (VectorOf items m) = suc (depths_in ls items)
  depths ls (Println args m) = suc (depths_in ls args)
  depths ls (Dosync body m) = suc (depths ls body)
  depths ls (Look form cell m) = suc (depths ls cell)
  depths ls (Put form cell value m) = suc (max (depths ls cell) (depths ls value))
  depths ls (Update form cell callee args m) = suc (max (callee_depth ls callee) (max (depths ls cell) (depths_in ls args)))
  depths ls (Send cell callee args m) = suc (max (callee_depth ls callee) (max (depths ls cell) (depths_in ls args)))

  -- the most of these, which are beside one another
  pub depths_in : List ℕ → Trees → ℕ
  depths_in ls none = 0
  depths_in ls (more e rest) = max (depths ls e) (depths_in ls rest)
