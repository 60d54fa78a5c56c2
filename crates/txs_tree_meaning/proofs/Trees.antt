-- A node as a tree, with its children as a list.
use Rattle.std.proofs.Common.{rules, ◌≡◌, ℕ, List, refl, sym, ap, ◌∙◌, Vec, Global, Box}
use Rattle.txs_value_cell.specs.declared.form.LookForm.{LookForm}
use Rattle.txs_value_cell.specs.declared.form.PutForm.{PutForm}
use Rattle.txs_value_cell.specs.declared.form.UpdateForm.{UpdateForm}
use Rattle.txs_value_data.specs.declared.op.Callee.{Callee}
use Rattle.txs_value_data.specs.declared.op.Op.{Op}
use Rattle.txs_value_data.specs.declared.value.Value.{Value}
use Rattle.txs_tree_meaning.specs.Tree.{Mark, more}
use Rattle.txs_tree_meaning.specs.Tree as tree
use Rattle.txs_tree_meaning.specs.View.{kind_tree, row_trees, tree_of, trees_of, mark_of}
use Rattle.txs_tree_meaning.specs.declared.node.Node.{Node}
use Rattle.txs_tree_meaning.specs.declared.node.NodeKind.{Row_of-Node, end_of-Node, more_of-Node, items-the_row-Node, the_lemmas}
use Rattle.txs_tree_meaning.specs.declared.node.NodeKind.TheVariants.{Const, Local, If, Do, Let, Loop, Recur, Core, Call, Vector, Println, Dosync, Look, Put, Update, Send}

pub row_list : {n : _} (row : Row_of-Node n) → row_trees row ≡ trees_of (items-the_row-Node n row)
row_list end_of-Node = refl
row_list (more_of-Node k span wanted rest) = ap (more (kind_tree k (mark_of span wanted))) (row_list rest)

pub if_tree : (test first second : Box Node Global) (m : Mark) → kind_tree (If test first second) m ≡ tree.If (tree_of test.value) (tree_of first.value) (tree_of second.value) m
if_tree test first second m = search (rules, the_lemmas)

pub do_tree : (items : Vec Node Global) (m : Mark) → kind_tree (Do items) m ≡ tree.Do (trees_of items.items) m
do_tree items m = search (rules, the_lemmas, row_list)

pub let_tree : (values : Vec Node Global) (body : Box Node Global) (m : Mark) → kind_tree (Let values body) m ≡ tree.Let (trees_of values.items) (tree_of body.value) m
let_tree values body m = search (rules, the_lemmas, row_list)

pub loop_tree : (values : Vec Node Global) (body : Box Node Global) (m : Mark) → kind_tree (Loop values body) m ≡ tree.Loop (trees_of values.items) (tree_of body.value) m
loop_tree values body m = search (rules, the_lemmas, row_list)

pub recur_tree : (values : Vec Node Global) (m : Mark) → kind_tree (Recur values) m ≡ tree.Recur (trees_of values.items) m
recur_tree values m = search (rules, the_lemmas, row_list)

pub core_tree : (op : Op) (args : Vec Node Global) (m : Mark) → kind_tree (Core op args) m ≡ tree.Core op (trees_of args.items) m
core_tree op args m = search (rules, the_lemmas, row_list)

pub call_tree : (f : ℕ) (args : Vec Node Global) (m : Mark) → kind_tree (Call f args) m ≡ tree.Call f (trees_of args.items) m
call_tree f args m = search (rules, the_lemmas, row_list)

pub vector_tree : (items : Vec Node Global) (m : Mark) → kind_tree (Vector items) m ≡ tree.VectorOf (trees_of items.items) m
vector_tree items m = search (rules, the_lemmas, row_list)

pub println_tree : (args : Vec Node Global) (m : Mark) → kind_tree (Println args) m ≡ tree.Println (trees_of args.items) m
println_tree args m = search (rules, the_lemmas, row_list)

pub dosync_tree : (body : Box Node Global) (m : Mark) → kind_tree (Dosync body) m ≡ tree.Dosync (tree_of body.value) m
dosync_tree body m = search (rules, the_lemmas)

pub look_tree : (form : LookForm) (cell : Box Node Global) (m : Mark) → kind_tree (Look form cell) m ≡ tree.Look form (tree_of cell.value) m
look_tree form cell m = search (rules, the_lemmas)

pub put_tree : (form : PutForm) (cell value : Box Node Global) (m : Mark) → kind_tree (Put form cell value) m ≡ tree.Put form (tree_of cell.value) (tree_of value.value) m
put_tree form cell value m = search (rules, the_lemmas)

pub update_tree : (form : UpdateForm) (cell : Box Node Global) (callee : Callee) (args : Vec Node Global) (m : Mark) → kind_tree (Update form cell callee args) m ≡ tree.Update form (tree_of cell.value) callee (trees_of args.items) m
update_tree form cell callee args m = search (rules, the_lemmas, row_list)

pub send_tree : (cell : Box Node Global) (callee : Callee) (args : Vec Node Global) (m : Mark) → kind_tree (Send cell callee args) m ≡ tree.Send (tree_of cell.value) callee (trees_of args.items) m
send_tree cell callee args m = search (rules, the_lemmas, row_list)

-- a node by its kind, with its children as they were read
module _ (n : Node) where
  pub const_node : (v : Value) → n.kind ≡ Const v → tree_of n ≡ tree.Const v (mark_of n.span n.wanted)
  const_node v is = ap (λ k. kind_tree k (mark_of n.span n.wanted)) is

  pub local_node : (i : ℕ) → n.kind ≡ Local i → tree_of n ≡ tree.Local i (mark_of n.span n.wanted)
  local_node i is = ap (λ k. kind_tree k (mark_of n.span n.wanted)) is

  pub if_node : (test first second : Box Node Global) (a b c : Node) → n.kind ≡ If test first second → a ≡ test.value → b ≡ first.value → c ≡ second.value → tree_of n ≡ tree.If (tree_of a) (tree_of b) (tree_of c) (mark_of n.span n.wanted)
  if_node test first second a b c is same_test same_first same_second =
      let m = mark_of n.span n.wanted in
      ap (λ k. kind_tree k m) is ∙ if_tree test first second m ∙ ap (λ x. tree.If (tree_of x) (tree_of first.value) (tree_of second.value) m) (sym same_test)
      ∙ ap (λ x. tree.If (tree_of a) (tree_of x) (tree_of second.value) m) (sym same_first) ∙ ap (λ x. tree.If (tree_of a) (tree_of b) (tree_of x) m) (sym same_second)

  pub do_node : (items : Vec Node Global) (ns : List Node) → n.kind ≡ Do items → ns ≡ items.items → tree_of n ≡ tree.Do (trees_of ns) (mark_of n.span n.wanted)
  do_node items ns is same =
      let m = mark_of n.span n.wanted in
      ap (λ k. kind_tree k m) is ∙ do_tree items m ∙ ap (λ l. tree.Do (trees_of l) m) (sym same)

  pub let_node : (values : Vec Node Global) (body : Box Node Global) (ns : List Node) (b : Node) → n.kind ≡ Let values body → ns ≡ values.items → b ≡ body.value → tree_of n ≡ tree.Let (trees_of ns) (tree_of b) (mark_of n.span n.wanted)
  let_node values body ns b is same same_body =
      let m = mark_of n.span n.wanted in
      ap (λ k. kind_tree k m) is ∙ let_tree values body m ∙ ap (λ l. tree.Let (trees_of l) (tree_of body.value) m) (sym same) ∙ ap (λ x. tree.Let (trees_of ns) (tree_of x) m) (sym same_body)

  pub loop_node : (values : Vec Node Global) (body : Box Node Global) (ns : List Node) (b : Node) → n.kind ≡ Loop values body → ns ≡ values.items → b ≡ body.value → tree_of n ≡ tree.Loop (trees_of ns) (tree_of b) (mark_of n.span n.wanted)
  loop_node values body ns b is same same_body =
      let m = mark_of n.span n.wanted in
      ap (λ k. kind_tree k m) is ∙ loop_tree values body m ∙ ap (λ l. tree.Loop (trees_of l) (tree_of body.value) m) (sym same) ∙ ap (λ x. tree.Loop (trees_of ns) (tree_of x) m) (sym same_body)

  pub recur_node : (values : Vec Node Global) (ns : List Node) → n.kind ≡ Recur values → ns ≡ values.items → tree_of n ≡ tree.Recur (trees_of ns) (mark_of n.span n.wanted)
  recur_node values ns is same =
      let m = mark_of n.span n.wanted in
      ap (λ k. kind_tree k m) is ∙ recur_tree values m ∙ ap (λ l. tree.Recur (trees_of l) m) (sym same)

  pub core_node : (op : Op) (args : Vec Node Global) (ns : List Node) → n.kind ≡ Core op args → ns ≡ args.items → tree_of n ≡ tree.Core op (trees_of ns) (mark_of n.span n.wanted)
  core_node op args ns is same =
      let m = mark_of n.span n.wanted in
      ap (λ k. kind_tree k m) is ∙ core_tree op args m ∙ ap (λ l. tree.Core op (trees_of l) m) (sym same)

  pub call_node : (f : ℕ) (args : Vec Node Global) (ns : List Node) → n.kind ≡ Call f args → ns ≡ args.items → tree_of n ≡ tree.Call f (trees_of ns) (mark_of n.span n.wanted)
  call_node f args ns is same =
      let m = mark_of n.span n.wanted in
      ap (λ k. kind_tree k m) is ∙ call_tree f args m ∙ ap (λ l. tree.Call f (trees_of l) m) (sym same)

  pub vector_node : (items : Vec Node Global) (ns : List Node) → n.kind ≡ Vector items → ns ≡ items.items → tree_of n ≡ tree.VectorOf (trees_of ns) (mark_of n.span n.wanted)
  vector_node items ns is same =
      let m = mark_of n.span n.wanted in
      ap (λ k. kind_tree k m) is ∙ vector_tree items m ∙ ap (λ l. tree.VectorOf (trees_of l) m) (sym same)

  pub println_node : (args : Vec Node Global) (ns : List Node) → n.kind ≡ Println args → ns ≡ args.items → tree_of n ≡ tree.Println (trees_of ns) (mark_of n.span n.wanted)
  println_node args ns is same =
      let m = mark_of n.span n.wanted in
      ap (λ k. kind_tree k m) is ∙ println_tree args m ∙ ap (λ l. tree.Println (trees_of l) m) (sym same)

  pub dosync_node : (body : Box Node Global) (b : Node) → n.kind ≡ Dosync body → b ≡ body.value → tree_of n ≡ tree.Dosync (tree_of b) (mark_of n.span n.wanted)
  dosync_node body b is same =
      let m = mark_of n.span n.wanted in
      ap (λ k. kind_tree k m) is ∙ dosync_tree body m ∙ ap (λ x. tree.Dosync (tree_of x) m) (sym same)

  pub look_node : (form : LookForm) (cell : Box Node Global) (b : Node) → n.kind ≡ Look form cell → b ≡ cell.value → tree_of n ≡ tree.Look form (tree_of b) (mark_of n.span n.wanted)
  look_node form cell b is same =
      let m = mark_of n.span n.wanted in
      ap (λ k. kind_tree k m) is ∙ look_tree form cell m ∙ ap (λ x. tree.Look form (tree_of x) m) (sym same)

  pub put_node : (form : PutForm) (cell value : Box Node Global) (b c : Node) → n.kind ≡ Put form cell value → b ≡ cell.value → c ≡ value.value → tree_of n ≡ tree.Put form (tree_of b) (tree_of c) (mark_of n.span n.wanted)
  put_node form cell value b c is same_cell same_value =
      let m = mark_of n.span n.wanted in
      ap (λ k. kind_tree k m) is ∙ put_tree form cell value m ∙ ap (λ x. tree.Put form (tree_of x) (tree_of value.value) m) (sym same_cell) ∙ ap (λ x. tree.Put form (tree_of b) (tree_of x) m) (sym same_value)

  pub update_node : (form : UpdateForm) (cell : Box Node Global) (callee : Callee) (args : Vec Node Global) (b : Node) (ns : List Node) → n.kind ≡ Update form cell callee args → b ≡ cell.value → ns ≡ args.items → tree_of n ≡ tree.Update form (tree_of b) callee (trees_of ns) (mark_of n.span n.wanted)
  update_node form cell callee args b ns is same_cell same =
      let m = mark_of n.span n.wanted in
      ap (λ k. kind_tree k m) is ∙ update_tree form cell callee args m ∙ ap (λ l. tree.Update form (tree_of cell.value) callee (trees_of l) m) (sym same) ∙ ap (λ x. tree.Update form (tree_of x) callee (trees_of ns) m) (sym same_cell)

  pub send_node : (cell : Box Node Global) (callee : Callee) (args : Vec Node Global) (b : Node) (ns : List Node) → n.kind ≡ Send cell callee args → b ≡ cell.value → ns ≡ args.items → tree_of n ≡ tree.Send (tree_of b) callee (trees_of ns) (mark_of n.span n.wanted)
  send_node cell callee args b ns is same_cell same =
      let m = mark_of n.span n.wanted in
      ap (λ k. kind_tree k m) is ∙ send_tree cell callee args m ∙ ap (λ l. tree.Send (tree_of cell.value) callee (trees_of l) m) (sym same) ∙ ap (λ x. tree.Send (tree_of x) callee (trees_of ns) m) (sym same_cell)
