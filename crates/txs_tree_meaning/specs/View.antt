-- Nodes as plain trees.
use Rattle.std.specs.Prelude.{Bool, List, [], ◌∷◌}
use Rattle.txs_value_cell.specs.declared.cell.CellDefinition.{CellDefinition}
use Rattle.txs_value_data.specs.declared.fault.Span.{Span}
use Rattle.txs_tree_meaning.specs.Tree.{Tree, Trees, Mark, none, more, PlainFunction, PlainThread, PlainProgram}
use Rattle.txs_tree_meaning.specs.Tree as tree
use Rattle.txs_tree_meaning.specs.declared.node.Node.{Node}
use Rattle.txs_tree_meaning.specs.declared.node.NodeKind.{NodeKind, Const, Local, If', Do', Let', Loop', Recur', Core', Vector', Println', Dosync', Look', Put', Update', Send', Call', Row_of-Node, end_of-Node, more_of-Node}
use Rattle.txs_tree_meaning.specs.declared.node.Function.{Function}
use Rattle.txs_tree_meaning.specs.declared.node.Thread.{Thread}

-- the mark of a node with this span, whose result is wanted or not
abbrev pub mark_of : Span → Bool → Mark
mark_of span wanted = record { span = span; wanted = wanted }

abbrev mutual
  -- the tree of a node of this kind
  pub kind_tree : NodeKind → Mark → Tree
  kind_tree (Const v) m = tree.Const v m
  kind_tree (Local i) m = tree.Local i m
  kind_tree (If' q test span wanted r first span1 wanted1 s second span2 wanted2) m =
      tree.If (kind_tree test (mark_of span wanted)) (kind_tree first (mark_of span1 wanted1)) (kind_tree second (mark_of span2 wanted2)) m
  kind_tree (Do' shape items) m = tree.Do (row_trees items) m
  kind_tree (Let' shape values q body span wanted) m = tree.Let (row_trees values) (kind_tree body (mark_of span wanted)) m
  kind_tree (Loop' shape values q body span wanted) m = tree.Loop (row_trees values) (kind_tree body (mark_of span wanted)) m
  kind_tree (Recur' shape values) m = tree.Recur (row_trees values) m
  kind_tree (Core' op shape args) m = tree.Core op (row_trees args) m
  kind_tree (Call' f shape args) m = tree.Call f (row_trees args) m
  kind_tree (Vector' shape items) m = tree.VectorOf (row_trees items) m
  kind_tree (Println' shape args) m = tree.Println (row_trees args) m
  kind_tree (Dosync' q body span wanted) m = tree.Dosync (kind_tree body (mark_of span wanted)) m
  kind_tree (Look' form q cell span wanted) m = tree.Look form (kind_tree cell (mark_of span wanted)) m
  kind_tree (Put' form q cell span wanted r value span1 wanted1) m = tree.Put form (kind_tree cell (mark_of span wanted)) (kind_tree value (mark_of span1 wanted1)) m
  kind_tree (Update' form q cell span wanted callee shape args) m = tree.Update form (kind_tree cell (mark_of span wanted)) callee (row_trees args) m
  kind_tree (Send' q cell span wanted callee shape args) m = tree.Send (kind_tree cell (mark_of span wanted)) callee (row_trees args) m

  -- the trees of nodes in a row
  pub row_trees : {n : _} → Row_of-Node n → Trees
  row_trees end_of-Node = none
  row_trees (more_of-Node k span wanted rest) = more (kind_tree k (mark_of span wanted)) (row_trees rest)

-- the tree of a node
abbrev pub tree_of : Node → Tree
tree_of n = kind_tree n.kind (mark_of n.span n.wanted)

-- the trees of a list of nodes
abbrev pub trees_of : List Node → Trees
trees_of [] = none
trees_of (n ∷ ns) = more (tree_of n) (trees_of ns)

-- a function, with its body as a tree
abbrev pub function_of : Function → PlainFunction
function_of f = record { parameters = f.parameters; body = tree_of f.body; span = f.span }

-- functions, with their bodies as trees
abbrev pub functions_of : List Function → List PlainFunction
functions_of [] = []
functions_of (f ∷ fs) = function_of f ∷ functions_of fs

-- a thread, with its body as a tree
abbrev pub thread_of : Thread → PlainThread
thread_of t = record { body = tree_of t.body; span = t.span }

-- threads, with their bodies as trees
abbrev pub threads_of : List Thread → List PlainThread
threads_of [] = []
threads_of (t ∷ ts) = thread_of t ∷ threads_of ts

-- what a program is made of: its cells, where their validators stand, its functions and threads, each in script order
pub record Parts : Type 0 where
  pub cells : List CellDefinition
  pub validator_spans : List Span
  pub functions : List Function
  pub threads : List Thread

-- the program of these parts
abbrev pub program_of : Parts → PlainProgram
program_of p = record { functions = functions_of p.functions; cells = p.cells; validator_spans = p.validator_spans; threads = threads_of p.threads }
