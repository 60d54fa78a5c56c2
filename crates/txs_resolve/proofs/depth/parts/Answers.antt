use Rattle.std.proofs.Common.{◌≡◌, ◌⊎◌, ℕ, suc, max, List, [], ◌∷◌, inl, inr, ap, arith, Vec, Global, Box}
use Rattle.txs_value_cell.specs.declared.form.UpdateForm.{UpdateForm}
use Rattle.txs_value_data.specs.declared.op.Callee.{Callee}
use Rattle.txs_value_data.specs.declared.op.Op.{Op}
use Rattle.txs_tree_meaning.specs.declared.node.Node.{Node}
use Rattle.txs_tree_meaning.specs.declared.node.NodeKind.TheVariants.{Do, Let, Loop, Recur, Core, Vector, Println, Update, Send}
use Rattle.txs_tree_meaning.specs.View.{tree_of, trees_of}
use Rattle.txs_tree_meaning.proofs.Trees.{do_node, let_node, loop_node, recur_node, core_node, call_node, vector_node, println_node, update_node, send_node}
use Rattle.txs_resolve.specs.Depths.{callee_depth, depths, depths_in}
use Rattle.txs_resolve.proofs.depth.parts.Goals as goal

module _ (known : List ℕ) where
  -- a part that is a row of its own
  alone : (ns : List Node) (b : Node) → ns ≡ b ∷ [] → depths_in known (trees_of ns) ≡ depths known (tree_of b)
  alone ns b is = omega (arith, ap (λ l. depths_in known (trees_of l)) is)

  module _ (n : Node) (ns : List Node) where
    of_row : (v : Vec Node Global) → ns ≡ v.items → (n.kind ≡ Do v) ⊎ ((n.kind ≡ Recur v) ⊎ (((op : Op) × (n.kind ≡ Core op v)) ⊎ ((n.kind ≡ Vector v) ⊎ (n.kind ≡ Println v))))
        → depths known (tree_of n) ≡ suc (depths_in known (trees_of ns))
    of_row v same (inl is) = ap (depths known) (do_node n v ns is same)
    of_row v same (inr (inl is)) = ap (depths known) (recur_node n v ns is same)
    of_row v same (inr (inr (inl is))) = ap (depths known) (core_node n is.0 v ns is.1 same)
    of_row v same (inr (inr (inr (inl is)))) = ap (depths known) (vector_node n v ns is same)
    of_row v same (inr (inr (inr (inr is)))) = ap (depths known) (println_node n v ns is same)

    of_binding : (v : Vec Node Global) (body : Box Node Global) (b : Node) → ns ≡ v.items → b ≡ body.value → (n.kind ≡ Let v body) ⊎ (n.kind ≡ Loop v body)
        → depths known (tree_of n) ≡ suc (max (depths_in known (trees_of ns)) (depths known (tree_of b)))
    of_binding v body b same there (inl is) = ap (depths known) (let_node n v body ns b is same there)
    of_binding v body b same there (inr is) = ap (depths known) (loop_node n v body ns b is same there)

    of_change : (cell : Box Node Global) (callee : Callee) (v : Vec Node Global) (b : Node) → b ≡ cell.value → ns ≡ v.items → ((form : UpdateForm) × (n.kind ≡ Update form cell callee v)) ⊎ (n.kind ≡ Send cell callee v)
        → depths known (tree_of n) ≡ suc (max (callee_depth known callee) (max (depths known (tree_of b)) (depths_in known (trees_of ns))))
    of_change cell callee v b there same (inl is) = ap (depths known) (update_node n is.0 cell callee v b ns is.1 there same)
    of_change cell callee v b there same (inr is) = ap (depths known) (send_node n cell callee v b ns is there same)

pub returns-in-Do : goal.returns-in-Do
returns-in-Do c =
    let e = of_row c.args.known.now c.args.node.now c.deref-in-Do.result.now c.in-Do.items c.deref-in-Do.ensures.value c.in-Do.is in
    omega (arith, e)

pub returns-in-Call : goal.returns-in-Call
returns-in-Call c =
    let e = ap (depths c.args.known.now) (call_node c.args.node.now c.in-Call.number c.in-Call.args c.deref-in-Call.result.now c.in-Call.is c.deref-in-Call.ensures.value) in
    omega (arith, e, c.at_place.ensures)

pub returns-in-Let : goal.returns-in-Let
returns-in-Let c =
    let known = c.args.known.now in
    let body = c.deref-in-Let-2 in
    let e = of_binding known c.args.node.now c.deref-in-Let.result.now c.in-Let.values c.in-Let.body body.result.now c.deref-in-Let.ensures.value body.ensures c.in-Let.is in
    omega (arith, e, alone known c.from_ref-in-Let.result.now body.result.now c.from_ref-in-Let.ensures.value)

pub returns-in-Update : goal.returns-in-Update
returns-in-Update c =
    let known = c.args.known.now in
    let cell = c.deref-in-Update in
    let e = of_change known c.args.node.now c.deref-in-Update-2.result.now c.in-Update.cell c.in-Update.callee c.in-Update.args cell.result.now cell.ensures c.deref-in-Update-2.ensures.value c.in-Update.is in
    omega (arith, e, c.of_callee.ensures, alone known c.from_ref-in-Update.result.now cell.result.now c.from_ref-in-Update.ensures.value)
