-- How many locals a tree has, and which it names.
use Rattle.std.specs.Prelude.{ℕ, suc, max, ◌+◌}
use Rattle.txs_tree_meaning.specs.Tree.{Tree, Const, Local, If, Do, Let, Loop, Recur, Core, Call, VectorOf, Println, Dosync, Look, Put, Update, Send, Trees, none, more, count}

abbrev mutual
  -- how many locals there must be, so that a tree can name those that it names: one more than the greatest number
  pub top : Tree → ℕ
  top (Const v m) = 0
  top (Local i m) = suc i
  top (If c a b m) = max (top c) (max (top a) (top b))
  top (Do items m) = top_all items
  top (Let values body m) = max (top_all values) (top body)
  top (Loop values body m) = max (top_all values) (top body)
  top (Recur values m) = top_all values
  top (Core op args m) = top_all args
  top (Call f args m) = top_all args
  top (VectorOf items m) = top_all items
  top (Println args m) = top_all args
  top (Dosync body m) = top body
  top (Look form cell m) = top cell
  top (Put form cell value m) = max (top cell) (top value)
  top (Update form cell callee args m) = max (top cell) (top_all args)
  top (Send cell callee args m) = max (top cell) (top_all args)

  -- so many that each of these can
  pub top_all : Trees → ℕ
  top_all none = 0
  top_all (more e rest) = max (top e) (top_all rest)

abbrev mutual
  -- how many locals are live at once, at most, in a tree where d are live before it; a local that it names counts as live
  pub reach : ℕ → Tree → ℕ
  reach d (Const v m) = d
  reach d (Local i m) = max d (suc i)
  reach d (If c a b m) = max (reach d c) (max (reach d a) (reach d b))
  reach d (Do items m) = reach_all d items
  reach d (Let values body m) = max (reach_let d values) (reach (d + count values) body)
  reach d (Loop values body m) = max (reach_let d values) (reach (d + count values) body)
  reach d (Recur values m) = reach_all d values
  reach d (Core op args m) = reach_all d args
  reach d (Call f args m) = reach_all d args
  reach d (VectorOf items m) = reach_all d items
  reach d (Println args m) = reach_all d args
  reach d (Dosync body m) = reach d body
  reach d (Look form cell m) = reach d cell
  reach d (Put form cell value m) = max (reach d cell) (reach d value)
  reach d (Update form cell callee args m) = max (reach d cell) (reach_all d args)
  reach d (Send cell callee args m) = max (reach d cell) (reach_all d args)

  -- the most in each of these, which see the same locals
  pub reach_all : ℕ → Trees → ℕ
  reach_all d none = d
  reach_all d (more e rest) = max (reach d e) (reach_all d rest)

  -- the most in the values of a let, each of which sees those before it, and behind them
  pub reach_let : ℕ → Trees → ℕ
  reach_let d none = d
  reach_let d (more e rest) = max (reach d e) (reach_let (d + 1) rest)
