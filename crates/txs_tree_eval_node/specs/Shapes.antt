-- How nodes are evaluated.
use Rattle.std.specs.Prelude.{◌≡◌}
use Rattle.txs_tree_meaning.specs.Tree.{Mark, Tree, Trees, none, more}
use Rattle.txs_tree_meaning.specs.Tree as tree
use Rattle.txs_tree_meaning.specs.View.{tree_of, trees_of}
use Rattle.txs_value_cell.specs.declared.form.CellForm.{CellForm}
use Rattle.txs_value_cell.specs.declared.form.CellForm.TheVariants as form_of
use Rattle.txs_tree_eval_node.specs.declared.shape.Act.{Act}
use Rattle.txs_tree_eval_node.specs.declared.shape.Act.TheVariants.{Look as a_look, Put as a_put, Update as an_update, Send as a_send}
use Rattle.txs_tree_eval_node.specs.declared.shape.Shape.{Shape}
use Rattle.txs_tree_eval_node.specs.declared.shape.Shape.TheVariants.{Const, Local, If, Do, Let, Loop, Strict as AStrict, Dosync, Form}
use Rattle.txs_tree_eval_node.specs.declared.shape.Strict.{Strict}
use Rattle.txs_tree_eval_node.specs.declared.shape.Strict.TheVariants.{Recur as a_recur, Core as a_core, Call as a_call, Vector as a_vector, Println as a_println}

-- the form of an act
abbrev pub form_of_act : Act → CellForm
form_of_act (a_look form) = form_of.Look form
form_of_act (a_put form) = form_of.Put form
form_of_act (an_update form callee) = form_of.Update form
form_of_act (a_send callee) = form_of.Send

-- the tree whose parts all come first, by what is done with their values
abbrev pub strict_tree : Strict → Trees → Mark → Tree
strict_tree a_recur es m = tree.Recur es m
strict_tree (a_core op) es m = tree.Core op es m
strict_tree (a_call f) es m = tree.Call f es m
strict_tree a_vector es m = tree.VectorOf es m
strict_tree a_println es m = tree.Println es m

-- the tree of a form on a cell, with its cell and its arguments
abbrev pub IsForm : Act → Tree → Trees → Mark → Tree → Type 0
IsForm (a_look form) cell args m e = (e ≡ tree.Look form cell m) × (args ≡ none)
IsForm (a_put form) cell args m e = (v : Tree) × (e ≡ tree.Put form cell v m) × (args ≡ more v none)
IsForm (an_update form callee) cell args m e = e ≡ tree.Update form cell callee args m
IsForm (a_send callee) cell args m e = e ≡ tree.Send cell callee args m

-- the tree of a node that is evaluated so
abbrev pub IsShape : Shape → Mark → Tree → Type 0
IsShape (Const v) m e = e ≡ tree.Const v.now m
IsShape (Local i) m e = e ≡ tree.Local i m
IsShape (If test first second) m e = e ≡ tree.If (tree_of test.now) (tree_of first.now) (tree_of second.now) m
IsShape (Do items) m e = e ≡ tree.Do (trees_of items.now) m
IsShape (Let values body) m e = e ≡ tree.Let (trees_of values.now) (tree_of body.now) m
IsShape (Loop values body) m e = e ≡ tree.Loop (trees_of values.now) (tree_of body.now) m
IsShape (AStrict strict parts) m e = e ≡ strict_tree strict (trees_of parts.now) m
IsShape (Dosync body) m e = e ≡ tree.Dosync (tree_of body.now) m
IsShape (Form act cell args) m e = IsForm act (tree_of cell.now) (trees_of args.now) m e
