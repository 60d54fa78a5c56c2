-- The trees of what nodes are seen as.
use Rattle.txs_tree_meaning.specs.Tree as tree
use Rattle.txs_tree_meaning.specs.Tree.{Mark, Tree, Trees}
use Rattle.txs_tree_meaning.specs.View.{tree_of, trees_of}
use Rattle.txs_tree_meaning.specs.declared.parts.Row.{Row}
use Rattle.txs_tree_meaning.specs.declared.parts.Row.TheVariants as row_of
use Rattle.txs_tree_meaning.specs.declared.parts.Shape.{Shape}
use Rattle.txs_tree_meaning.specs.declared.parts.Shape.TheVariants.{Const, Local, If, Row as ARow, Let, Loop, Dosync, Look, Put, Update, Send}

-- a form that is a row of parts
abbrev pub row_tree : Row → Trees → Mark → Tree
row_tree row_of.Do es m = tree.Do es m
row_tree row_of.Recur es m = tree.Recur es m
row_tree (row_of.Core op) es m = tree.Core op es m
row_tree (row_of.Call f) es m = tree.Call f es m
row_tree row_of.Vector es m = tree.VectorOf es m
row_tree row_of.Println es m = tree.Println es m

-- what a node is, as a tree
abbrev pub view_tree : Shape → Mark → Tree
view_tree (Const v) m = tree.Const v.now m
view_tree (Local i) m = tree.Local i m
view_tree (If c a b) m = tree.If (tree_of c.now) (tree_of a.now) (tree_of b.now) m
view_tree (ARow r es) m = row_tree r (trees_of es.now) m
view_tree (Let es e) m = tree.Let (trees_of es.now) (tree_of e.now) m
view_tree (Loop es e) m = tree.Loop (trees_of es.now) (tree_of e.now) m
view_tree (Dosync e) m = tree.Dosync (tree_of e.now) m
view_tree (Look form e) m = tree.Look form (tree_of e.now) m
view_tree (Put form e v) m = tree.Put form (tree_of e.now) (tree_of v.now) m
view_tree (Update form e c es) m = tree.Update form (tree_of e.now) c (trees_of es.now) m
view_tree (Send e c es) m = tree.Send (tree_of e.now) c (trees_of es.now) m
