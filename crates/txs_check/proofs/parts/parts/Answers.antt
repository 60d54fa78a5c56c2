use Rattle.std.proofs.Common.{◌≡◌, ◌⊎◌, ℕ, List, inl, inr, sym, ap, ◌∙◌, Vec, Global, Box}
use Rattle.txs_value_cell.specs.declared.form.UpdateForm.{UpdateForm}
use Rattle.txs_value_data.specs.declared.op.Callee.{Callee}
use Rattle.txs_value_data.specs.declared.op.Op.{Op}
use Rattle.txs_tree_meaning.specs.declared.node.Node.{Node}
use Rattle.txs_tree_meaning.specs.declared.node.NodeKind.TheVariants.{Do, Let, Loop, Recur, Core, Call, Vector, Println, Update, Send}
use Rattle.txs_tree_meaning.specs.Tree.{none}
use Rattle.txs_tree_meaning.specs.View.{tree_of, trees_of}
use Rattle.txs_tree_meaning.proofs.Trees.{do_node, let_node, loop_node, recur_node, core_node, call_node, vector_node, println_node, update_node, send_node}
use Rattle.txs_check.specs.Rows.{alone, rows, rows_of}
use Rattle.txs_check.proofs.parts.parts.Goals as goal

module _ (n : Node) (ns : List Node) where
  of_row : (v : Vec Node Global) → ns ≡ v.items → (n.kind ≡ Do v) ⊎ ((n.kind ≡ Recur v) ⊎ (((op : Op) × (n.kind ≡ Core op v)) ⊎ (((f : ℕ) × (n.kind ≡ Call f v)) ⊎ ((n.kind ≡ Vector v) ⊎ (n.kind ≡ Println v)))))
      → rows_of (tree_of n) ≡ rows (trees_of ns) none none
  of_row v same (inl is) = ap rows_of (do_node n v ns is same)
  of_row v same (inr (inl is)) = ap rows_of (recur_node n v ns is same)
  of_row v same (inr (inr (inl is))) = ap rows_of (core_node n is.0 v ns is.1 same)
  of_row v same (inr (inr (inr (inl is)))) = ap rows_of (call_node n is.0 v ns is.1 same)
  of_row v same (inr (inr (inr (inr (inl is))))) = ap rows_of (vector_node n v ns is same)
  of_row v same (inr (inr (inr (inr (inr is))))) = ap rows_of (println_node n v ns is same)

  of_binding : (v : Vec Node Global) (body : Box Node Global) (b : Node) → ns ≡ v.items → b ≡ body.value → (n.kind ≡ Let v body) ⊎ (n.kind ≡ Loop v body)
      → rows_of (tree_of n) ≡ rows (trees_of ns) (alone (tree_of b)) none
  of_binding v body b same there (inl is) = ap rows_of (let_node n v body ns b is same there)
  of_binding v body b same there (inr is) = ap rows_of (loop_node n v body ns b is same there)

  of_change : (cell : Box Node Global) (v : Vec Node Global) (b : Node) → b ≡ cell.value → ns ≡ v.items → ((form : UpdateForm) × (callee : Callee) × (n.kind ≡ Update form cell callee v)) ⊎ ((callee : Callee) × (n.kind ≡ Send cell callee v))
      → rows_of (tree_of n) ≡ rows (alone (tree_of b)) (trees_of ns) none
  of_change cell v b there same (inl is) = ap rows_of (update_node n is.0 cell is.1 v b ns is.2 there same)
  of_change cell v b there same (inr is) = ap rows_of (send_node n cell is.0 v b ns is.1 there same)

pub returns-in-Do : goal.returns-in-Do
returns-in-Do c = of_row c.args.node.now c.deref-in-Do.result.now c.in-Do.items c.deref-in-Do.ensures.value c.in-Do.is

pub returns-in-Let : goal.returns-in-Let
returns-in-Let c =
    let b = c.deref-in-Let-2.result.now in
    let ns = c.deref-in-Let.result.now in
    of_binding c.args.node.now ns c.in-Let.values c.in-Let.body b c.deref-in-Let.ensures.value c.deref-in-Let-2.ensures c.in-Let.is
    ∙ ap (λ l. rows (trees_of ns) (trees_of l) none) (sym c.from_ref-in-Let.ensures.value)

pub returns-in-Update : goal.returns-in-Update
returns-in-Update c =
    let b = c.deref-in-Update.result.now in
    let ns = c.deref-in-Update-2.result.now in
    of_change c.args.node.now ns c.in-Update.cell c.in-Update.args b c.deref-in-Update.ensures c.deref-in-Update-2.ensures.value c.in-Update.is
    ∙ ap (λ l. rows (trees_of l) (trees_of ns) none) (sym c.from_ref-in-Update.ensures.value)
