use Rattle.std.proofs.Common.{arith, ◌≡◌, ◌+◌, ◌-◌, Some, None, [], ◌∷◌, eqb, length, drop, refl, sym, ap, ◌∙◌, subst, OnOk, length-drop, length-append}
use Rattle.txs_tree_meaning.specs.Sound.{nodes, nodes_in}
use Rattle.txs_tree_meaning.specs.Tree.{count, is_none}
use Rattle.txs_tree_meaning.specs.View.{tree_of, trees_of, mark_of}
use Rattle.txs_code_meaning.specs.declared.instr.Instr.TheVariants as instr
use Rattle.txs_gen.specs.Emission.{Emission, emission, above, emits, emits_all, emits_do, emits_let, in_transaction, IsPlaced, IsPlacedAll, IsPlacedLet, IsWithin, with_instr, with_locals, with_pop, with_room, with_set, with_stores, with_update}
use Rattle.txs_gen.proofs.Emissions.{IsPlacedLeft, around, emits_const, emits_local, emits_do_is, emits_core, emits_call, emits_vector, emits_println, emits_bound_is, bound_made, emits_if_is, emits_loop_is, emits_dosync_is, emits_look, emits_put, emits_update_is, whole_update, emits_send, emits_recur_is, emits_all_none, emits_all_more, emits_let_none, emits_let_more, emits_do_none, emits_do_more, is_none_trees, left_placed, left_first, left_rest, within_more, nodes_positive, emits_constants, emits_let_constants, emits_instrs, emits_let_instrs, let_locals, left_is, nothing_left, nodes_left, pop_constants, pop_instrs, put_instrs, set_instrs, emits_grows, if_tested, if_first, if_else, if_made, loop_made, dosync_made, recur_made, callee_few, sent_few}
use Rattle.txs_tree_meaning.proofs.Soundness.{count-trees_of}
use Rattle.txs_tree_meaning.proofs.Trees.{const_node, local_node, if_node, do_node, let_node, loop_node, recur_node, core_node, call_node, vector_node, println_node, dosync_node, look_node, put_node, update_node, send_node}
use Rattle.txs_gen.proofs.emit.+emit.Goals as goal

pub emit_do-loop-item-init : goal.emit_do-loop-item-init
emit_do-loop-item-init t c = record {
  made = refl;
  part = left_placed c.args.at.depth c.args.at.base (trees_of c.args.items.now) c.requires.part;
  few_constants = c.requires.few_constants;
  few_instrs = c.requires.few_instrs;
  low = c.requires.low;
  left = omega arith;
}

pub emit-emit_do-requires : goal.emit-emit_do-requires
emit-emit_do-requires t c =
    let e = do_node c.args.node.now c.in-Do.items c.deref-in-Do.result.now c.in-Do.is c.deref-in-Do.ensures.value in
    let n = ap nodes e in
    let p = subst (λ x. IsPlaced c.args.at.depth c.args.at.base x) e c.requires.part in
    (omega (arith, n), (p, (omega (arith, n, c.requires.few_constants), (omega (arith, n, c.requires.few_instrs), omega (arith, n, c.requires.low)))))

pub emit-emit_if-requires : goal.emit-emit_if-requires
emit-emit_if-requires t c =
    let x = c.deref.result.now in
    let y = c.deref-in-If.result.now in
    let z = c.deref-in-If-2.result.now in
    let at = c.args.at in
    let e = if_node c.args.node.now c.in-If.test c.in-If.first c.in-If.second x y z c.in-If.is c.deref.ensures c.deref-in-If.ensures c.deref-in-If-2.ensures in
    let n = ap nodes e in
    let p = subst (λ t. IsPlaced at.depth at.base t) e c.requires.part in
    (omega (arith, n), ((p.0, None, tt, p.3.0), ((p.0, p.1, p.2, p.3.1), ((p.0, p.1, p.2, p.3.2), (omega (arith, n, c.requires.few_constants), (omega (arith, n, c.requires.few_instrs), omega (arith, n, c.requires.low)))))))

pub emit-emit_loop-requires : goal.emit-emit_loop-requires
emit-emit_loop-requires t c =
    let xs = c.deref-in-Loop.result.now in
    let b = c.deref-in-Loop-2.result.now in
    let e = loop_node c.args.node.now c.in-Loop.values c.in-Loop.body xs b c.in-Loop.is c.deref-in-Loop.ensures.value c.deref-in-Loop-2.ensures in
    let n = ap nodes e in
    let p = subst (λ x. IsPlaced c.args.at.depth c.args.at.base x) e c.requires.part in
    (omega (arith, n), ((p.0, p.3.0), ((p.0, Some (count (trees_of xs)), (omega arith, let_locals (trees_of xs) p.0 c.args.at.depth p.3.0), p.3.1), (omega (arith, n, c.requires.few_constants), (omega (arith, n, c.requires.few_instrs), omega (arith, n, c.requires.low))))))

pub emit-emit_recur-requires : goal.emit-emit_recur-requires
emit-emit_recur-requires t c =
    let xs = c.deref-in-Recur.result.now in
    let at = c.args.at in
    let e = recur_node c.args.node.now c.in-Recur.values xs c.in-Recur.is c.deref-in-Recur.ensures.value in
    let n = ap nodes e in
    let p = subst (λ x. IsPlaced at.depth at.base x) e c.requires.part in
    let w = subst (λ l. IsWithin at.base l at.depth) p.3.0 p.2 in
    (omega (arith, n), ((p.0, p.3.1), (w, (omega (arith, n, c.requires.few_constants), (omega (arith, n, c.requires.few_instrs), omega (arith, n, c.requires.low))))))

pub emit-returns-in-If : goal.emit-returns-in-If
emit-returns-in-If t c =
    let x = c.deref.result.now in
    let y = c.deref-in-If.result.now in
    let z = c.deref-in-If-2.result.now in
    let e = if_node c.args.node.now c.in-If.test c.in-If.first c.in-If.second x y z c.in-If.is c.deref.ensures c.deref-in-If.ensures c.deref-in-If-2.ensures in
    let m = mark_of c.args.node.now.span c.args.node.now.wanted in
    subst (λ l. OnOk c.emit_if.result (emission c.emit_if.new.to ≡ l))
    (emits_if_is (tree_of x) (tree_of y) (tree_of z) m c.args.at (emission c.args.to.now) ∙ ap (λ x. emits x c.args.at (emission c.args.to.now)) (sym e))
    c.emit_if.ensures

pub emit-returns-in-Do : goal.emit-returns-in-Do
emit-returns-in-Do t c =
    let xs = c.deref-in-Do.result.now in
    let e = do_node c.args.node.now c.in-Do.items xs c.in-Do.is c.deref-in-Do.ensures.value in
    let m = mark_of c.args.node.now.span c.args.node.now.wanted in
    subst (λ l. OnOk c.emit_do.result (emission c.emit_do.new.to ≡ l))
    (emits_do_is (trees_of xs) m c.args.at (emission c.args.to.now) ∙ ap (λ x. emits x c.args.at (emission c.args.to.now)) (sym e))
    c.emit_do.ensures

pub emit-returns-in-Loop : goal.emit-returns-in-Loop
emit-returns-in-Loop t c =
    let xs = c.deref-in-Loop.result.now in
    let b = c.deref-in-Loop-2.result.now in
    let e = loop_node c.args.node.now c.in-Loop.values c.in-Loop.body xs b c.in-Loop.is c.deref-in-Loop.ensures.value c.deref-in-Loop-2.ensures in
    let m = mark_of c.args.node.now.span c.args.node.now.wanted in
    subst (λ l. OnOk c.emit_loop.result (emission c.emit_loop.new.to ≡ l))
    (emits_loop_is (trees_of xs) (tree_of b) m c.args.at (emission c.args.to.now) ∙ ap (λ x. emits x c.args.at (emission c.args.to.now)) (sym e))
    c.emit_loop.ensures

pub emit-returns-in-Recur : goal.emit-returns-in-Recur
emit-returns-in-Recur t c =
    let xs = c.deref-in-Recur.result.now in
    let e = recur_node c.args.node.now c.in-Recur.values xs c.in-Recur.is c.deref-in-Recur.ensures.value in
    let m = mark_of c.args.node.now.span c.args.node.now.wanted in
    subst (λ l. OnOk c.emit_recur.result (emission c.emit_recur.new.to ≡ l))
    (emits_recur_is (trees_of xs) m c.args.at (emission c.args.to.now) ∙ ap (λ x. emits x c.args.at (emission c.args.to.now)) (sym e))
    c.emit_recur.ensures

pub emit_all-emit-requires : goal.emit_all-emit-requires
emit_all-emit-requires t c =
    let i = c.loop-arg.arg-index in
    let e = left_is c.args.args.now i c.arg-item.result c.loop-arg-test.true c.arg-item.is in
    let p = subst (λ x. IsPlacedAll c.args.at.depth x) e c.loop-arg.invariant.part in
    let k = ap nodes_in e in
    let w = nodes_left c.args.args.now i in
    (omega (arith, k, w), ((p.0, None, tt, p.1.0), (omega (arith, k, c.loop-arg.invariant.few_constants), (omega (arith, k, c.loop-arg.invariant.few_instrs), omega (arith, k, c.loop-arg.invariant.low)))))

pub emit_all-loop-arg-preserved : goal.emit_all-loop-arg-preserved
emit_all-loop-arg-preserved t c =
    let i = c.loop-arg.arg-index in
    let n = c.arg-item.result in
    let at = c.args.at in
    let h = c.loop-arg.height in
    let here = around at.depth h at.base at.start in
    let next = around at.depth (h + 1) at.base at.start in
    let rest = trees_of (drop (i + 1) c.args.args.now) in
    let e = left_is c.args.args.now i n c.loop-arg-test.true c.arg-item.is in
    let p = subst (λ x. IsPlacedAll at.depth x) e c.loop-arg.invariant.part in
    let k = ap nodes_in e in
    let l = ap (λ (x : Emission). length x.constants) c.in_ok-emit.ensures in
    let o = ap (λ (x : Emission). length x.instrs) c.in_ok-emit.ensures in
    let m = emits_constants (tree_of n) here (emission c.loop-arg.to) in
    let q = emits_instrs (tree_of n) here (emission c.loop-arg.to) in
    let z = nodes_positive (tree_of n) in
    record {
      made = ap (λ x. emits_all rest next x) c.in_ok-emit.ensures
          ∙ sym (emits_all_more (tree_of n) rest at.depth h at.base at.start (emission c.loop-arg.to))
          ∙ ap (λ x. emits_all x here (emission c.loop-arg.to)) (sym e)
          ∙ c.loop-arg.invariant.made;
      part = (p.0, p.1.1);
      few_constants = omega (arith, k, l, m, c.loop-arg.invariant.few_constants);
      few_instrs = omega (arith, k, o, q, c.loop-arg.invariant.few_instrs);
      low = omega (arith, k, z, c.loop-arg.invariant.low);
    }

pub emit_all-returns : goal.emit_all-returns
emit_all-returns t c =
    let at = c.args.at in
    let e = nothing_left c.args.args.now c.loop-arg.arg-index c.loop-arg-test.false in
    sym (emits_all_none (around at.depth c.loop-arg.height at.base at.start) (emission c.loop-arg.to))
    ∙ ap (λ x. emits_all x (around at.depth c.loop-arg.height at.base at.start) (emission c.loop-arg.to)) (sym e)
    ∙ c.loop-arg.invariant.made

pub emit_do-emit-requires : goal.emit_do-emit-requires
emit_do-emit-requires t c =
    let i = c.loop-item.item-index in
    let n = c.item-item.result in
    let at = c.args.at in
    let e = left_is c.args.items.now i n c.loop-item-test.true c.item-item.is in
    let p = subst (λ x. IsPlacedLeft at.depth at.base x) e c.loop-item.invariant.part in
    let k = ap nodes_in e in
    let w = nodes_left c.args.items.now i in
    (omega (arith, k, w), (left_first p.0 at.depth at.base p.1 (tree_of n) (trees_of (drop (i + 1) c.args.items.now)) p.2 p.3, (omega (arith, k, c.loop-item.invariant.few_constants), (omega (arith, k, c.loop-item.invariant.few_instrs), omega (arith, k, c.loop-item.invariant.low)))))

pub emit_do-loop-item-preserved : goal.emit_do-loop-item-preserved
emit_do-loop-item-preserved t c =
    let xs = c.args.items.now in
    let i = c.loop-item.item-index in
    let n = c.item-item.result in
    let at = c.args.at in
    let rest = trees_of (drop (i + 1) xs) in
    let e = left_is xs i n c.loop-item-test.true c.item-item.is in
    let p = subst (λ x. IsPlacedLeft at.depth at.base x) e c.loop-item.invariant.part in
    let k = ap nodes_in e in
    let l = ap (λ (x : Emission). length x.constants) c.in_ok-emit.ensures in
    let m = emits_constants (tree_of n) at (emission c.loop-item.to) in
    let z : length (drop (i + 1) xs) ≡ c.loop-item.left - 1 = omega (arith, length-drop (i + 1) xs, c.loop-item.invariant.left) in
    let last = is_none_trees (drop (i + 1) xs) (c.loop-item.left - 1) z in
    let q = ap (λ (x : Emission). length x.constants) c.in_ok-pop_unless.ensures in
    let r = ap length (pop_constants (eqb (c.loop-item.left - 1) 0) c.args.span (emission c.emit.new.to)) in
    let o = ap (λ (x : Emission). length x.instrs) c.in_ok-emit.ensures in
    let u = emits_instrs (tree_of n) at (emission c.loop-item.to) in
    let v = ap (λ (x : Emission). length x.instrs) c.in_ok-pop_unless.ensures in
    let w = pop_instrs (eqb (c.loop-item.left - 1) 0) c.args.span (emission c.emit.new.to) in
    record {
      made = ap (λ x. emits_do rest c.args.span at x) c.in_ok-pop_unless.ensures
          ∙ ap (λ b. emits_do rest c.args.span at (with_pop b c.args.span (emission c.emit.new.to))) (sym last)
          ∙ ap (λ x. emits_do rest c.args.span at (with_pop (is_none rest) c.args.span x)) c.in_ok-emit.ensures
          ∙ sym (emits_do_more (tree_of n) rest c.args.span at (emission c.loop-item.to))
          ∙ ap (λ x. emits_do x c.args.span at (emission c.loop-item.to)) (sym e)
          ∙ c.loop-item.invariant.made;
      part = (p.0, p.1, p.2, left_rest p.0 at.depth p.1 (tree_of n) rest p.3);
      few_constants = omega (arith, k, l, m, q, r, c.loop-item.invariant.few_constants);
      few_instrs = omega (arith, k, o, u, v, w, c.loop-item.invariant.few_instrs);
      low = omega (arith, k, c.loop-item.invariant.low);
      left = omega (arith, c.loop-item.invariant.left);
    }

pub emit_do-returns : goal.emit_do-returns
emit_do-returns t c =
    let e = nothing_left c.args.items.now c.loop-item.item-index c.loop-item-test.false in
    sym (emits_do_none c.args.span c.args.at (emission c.loop-item.to))
    ∙ ap (λ x. emits_do x c.args.span c.args.at (emission c.loop-item.to)) (sym e)
    ∙ c.loop-item.invariant.made

pub emit_let-emit-requires : goal.emit_let-emit-requires
emit_let-emit-requires t c =
    let i = c.loop-value.value-index in
    let e = left_is c.args.values.now i c.value-item.result c.loop-value-test.true c.value-item.is in
    let p = subst (λ x. IsPlacedLet c.loop-value.depth x) e c.loop-value.invariant.part in
    let k = ap nodes_in e in
    let w = nodes_left c.args.values.now i in
    (omega (arith, k, w), ((p.0, None, tt, p.1.0), (omega (arith, k, c.loop-value.invariant.few_constants), (omega (arith, k, c.loop-value.invariant.few_instrs), omega (arith, k, c.loop-value.invariant.low)))))

pub emit_let-store-requires : goal.emit_let-store-requires
emit_let-store-requires t c =
    let e = left_is c.args.values.now c.loop-value.value-index c.value-item.result c.loop-value-test.true c.value-item.is in
    let p = subst (λ x. IsPlacedLet c.loop-value.depth x) e c.loop-value.invariant.part in
    omega (arith, let_locals (trees_of (drop (c.loop-value.value-index + 1) c.args.values.now)) p.0 (c.loop-value.depth + 1) p.1.1)

pub emit_let-overflow_add-depth : goal.emit_let-overflow_add-depth
emit_let-overflow_add-depth t c =
    let e = left_is c.args.values.now c.loop-value.value-index c.value-item.result c.loop-value-test.true c.value-item.is in
    let p = subst (λ x. IsPlacedLet c.loop-value.depth x) e c.loop-value.invariant.part in
    omega (arith, let_locals (trees_of (drop (c.loop-value.value-index + 1) c.args.values.now)) p.0 (c.loop-value.depth + 1) p.1.1)

pub emit_let-loop-value-preserved : goal.emit_let-loop-value-preserved
emit_let-loop-value-preserved t c =
    let xs = c.args.values.now in
    let i = c.loop-value.value-index in
    let n = c.value-item.result in
    let at = c.args.at in
    let d = c.loop-value.depth in
    let here = around d at.height at.base at.start in
    let next = around (d + 1) at.height at.base at.start in
    let rest = trees_of (drop (i + 1) xs) in
    let e = left_is xs i n c.loop-value-test.true c.value-item.is in
    let p = subst (λ x. IsPlacedLet d x) e c.loop-value.invariant.part in
    let k = ap nodes_in e in
    let o = ap count e in
    let l = ap (λ (x : Emission). length x.constants) c.in_ok-emit.ensures in
    let m = emits_constants (tree_of n) here (emission c.loop-value.to) in
    let q = ap (λ (x : Emission). length x.constants) c.in_ok-store.ensures in
    let u = ap (λ (x : Emission). length x.instrs) c.in_ok-emit.ensures in
    let v = emits_instrs (tree_of n) here (emission c.loop-value.to) in
    let w = ap (λ (x : Emission). length x.instrs) c.in_ok-store.ensures in
    let y = length-append c.emit.new.to.instrs.items (instr.Store d ∷ []) in
    record {
      made = ap (λ x. emits_let rest c.args.span next x) c.in_ok-store.ensures
          ∙ ap (λ x. emits_let rest c.args.span next (with_instr (instr.Store d) c.args.span (with_locals (d + 1) x))) c.in_ok-emit.ensures
          ∙ sym (emits_let_more (tree_of n) rest c.args.span d at.height at.base at.start (emission c.loop-value.to))
          ∙ ap (λ x. emits_let x c.args.span here (emission c.loop-value.to)) (sym e)
          ∙ c.loop-value.invariant.made;
      part = (p.0, p.1.1);
      few_constants = omega (arith, k, l, m, q, c.loop-value.invariant.few_constants);
      few_instrs = omega (arith, k, u, v, w, y, c.loop-value.invariant.few_instrs);
      low = omega (arith, k, c.loop-value.invariant.low);
      locals = omega (arith, o, c.loop-value.invariant.locals);
    }

pub emit_let-returns-clause-code : goal.emit_let-returns-clause-code
emit_let-returns-clause-code t c =
    let at = c.args.at in
    let here = around c.loop-value.depth at.height at.base at.start in
    let e = nothing_left c.args.values.now c.loop-value.value-index c.loop-value-test.false in
    sym (emits_let_none c.args.span here (emission c.loop-value.to))
    ∙ ap (λ x. emits_let x c.args.span here (emission c.loop-value.to)) (sym e)
    ∙ c.loop-value.invariant.made

pub emit_if-place-to_second-requires : goal.emit_if-place-to_second-requires
emit_if-place-to_second-requires t c =
    let l = ap (λ (x : Emission). length x.instrs) c.in_ok-emit.ensures in
    let o = emits_instrs (tree_of c.args.test.now) c.args.at (emission c.args.to.now) in
    omega (arith, l, o, c.requires.few_instrs)

pub emit_if-emit-requires-2 : goal.emit_if-emit-requires-2
emit_if-emit-requires-2 t c =
    let e0 = emission c.args.to.now in
    let l1 = ap (λ (x : Emission). length x.instrs) c.in_ok-emit.ensures in
    let k1 = ap (λ (x : Emission). length x.constants) c.in_ok-emit.ensures in
    let o1 = emits_instrs (tree_of c.args.test.now) c.args.at e0 in
    let m1 = emits_constants (tree_of c.args.test.now) c.args.at e0 in
    let l2 = ap (λ (x : Emission). length x.instrs) c.in_ok-put.ensures in
    let k2 = ap (λ (x : Emission). length x.constants) c.in_ok-put.ensures in
    let o2 = put_instrs (instr.JumpFalse 0) c.args.span (emission c.emit.new.to) in
    (omega arith, (c.requires.first, (omega (arith, k1, m1, k2, c.requires.few_constants), (omega (arith, l1, o1, l2, o2, c.requires.few_instrs), omega (arith, c.requires.low)))))

pub emit_if-place-to_end-requires : goal.emit_if-place-to_end-requires
emit_if-place-to_end-requires t c =
    let l1 = ap (λ (x : Emission). length x.instrs) c.in_ok-emit.ensures in
    let o1 = emits_instrs (tree_of c.args.test.now) c.args.at (emission c.args.to.now) in
    let l2 = ap (λ (x : Emission). length x.instrs) c.in_ok-put.ensures in
    let o2 = put_instrs (instr.JumpFalse 0) c.args.span (emission c.emit.new.to) in
    let l3 = ap (λ (x : Emission). length x.instrs) c.in_ok-emit-2.ensures in
    let o3 = emits_instrs (tree_of c.args.first.now) c.args.at (emission c.put.new.self) in
    omega (arith, l1, o1, l2, o2, l3, o3, c.requires.few_instrs)

pub emit_if-place-requires : goal.emit_if-place-requires
emit_if-place-requires t c =
    let l1 = ap (λ (x : Emission). length x.instrs) c.in_ok-emit.ensures in
    let o1 = emits_instrs (tree_of c.args.test.now) c.args.at (emission c.args.to.now) in
    let l2 = ap (λ (x : Emission). length x.instrs) c.in_ok-put.ensures in
    let o2 = put_instrs (instr.JumpFalse 0) c.args.span (emission c.emit.new.to) in
    let l3 = ap (λ (x : Emission). length x.instrs) c.in_ok-emit-2.ensures in
    let o3 = emits_instrs (tree_of c.args.first.now) c.args.at (emission c.put.new.self) in
    let l4 = ap (λ (x : Emission). length x.instrs) c.in_ok-put-2.ensures in
    let o4 = put_instrs (instr.Jump 0) c.args.span (emission c.emit-2.new.to) in
    omega (arith, l1, o1, l2, o2, l3, o3, l4, o4, c.requires.few_instrs)

pub emit_if-set-requires : goal.emit_if-set-requires
emit_if-set-requires t c =
    let l2 = ap (λ (x : Emission). length x.instrs) c.in_ok-put.ensures in
    let o2 = put_instrs (instr.JumpFalse 0) c.args.span (emission c.emit.new.to) in
    let l3 = ap (λ (x : Emission). length x.instrs) c.in_ok-emit-2.ensures in
    let o3 = emits_grows (tree_of c.args.first.now) c.args.at (emission c.put.new.self) in
    let l4 = ap (λ (x : Emission). length x.instrs) c.in_ok-put-2.ensures in
    let o4 = put_instrs (instr.Jump 0) c.args.span (emission c.emit-2.new.to) in
    omega (arith, c.place-to_second.ensures, l2, o2, l3, o3, l4, o4)

pub emit_if-emit-requires-3 : goal.emit_if-emit-requires-3
emit_if-emit-requires-3 t c =
    let e0 = emission c.args.to.now in
    let l1 = ap (λ (x : Emission). length x.instrs) c.in_ok-emit.ensures in
    let k1 = ap (λ (x : Emission). length x.constants) c.in_ok-emit.ensures in
    let o1 = emits_instrs (tree_of c.args.test.now) c.args.at e0 in
    let m1 = emits_constants (tree_of c.args.test.now) c.args.at e0 in
    let l2 = ap (λ (x : Emission). length x.instrs) c.in_ok-put.ensures in
    let k2 = ap (λ (x : Emission). length x.constants) c.in_ok-put.ensures in
    let o2 = put_instrs (instr.JumpFalse 0) c.args.span (emission c.emit.new.to) in
    let l3 = ap (λ (x : Emission). length x.instrs) c.in_ok-emit-2.ensures in
    let k3 = ap (λ (x : Emission). length x.constants) c.in_ok-emit-2.ensures in
    let o3 = emits_instrs (tree_of c.args.first.now) c.args.at (emission c.put.new.self) in
    let m3 = emits_constants (tree_of c.args.first.now) c.args.at (emission c.put.new.self) in
    let l4 = ap (λ (x : Emission). length x.instrs) c.in_ok-put-2.ensures in
    let k4 = ap (λ (x : Emission). length x.constants) c.in_ok-put-2.ensures in
    let o4 = put_instrs (instr.Jump 0) c.args.span (emission c.emit-2.new.to) in
    let l5 = ap (λ (x : Emission). length x.instrs) c.set.ensures in
    let k5 = ap (λ (x : Emission). length x.constants) c.set.ensures in
    let o5 = set_instrs c.place-to_second.result (instr.JumpFalse c.place.result) (emission c.put-2.new.self) in
    (omega arith, (c.requires.second, (omega (arith, k1, m1, k2, k3, m3, k4, k5, c.requires.few_constants), (omega (arith, l1, o1, l2, o2, l3, o3, l4, o4, l5, o5, c.requires.few_instrs), omega (arith, c.requires.low)))))

pub emit_if-place-requires-2 : goal.emit_if-place-requires-2
emit_if-place-requires-2 t c =
    let l1 = ap (λ (x : Emission). length x.instrs) c.in_ok-emit.ensures in
    let o1 = emits_instrs (tree_of c.args.test.now) c.args.at (emission c.args.to.now) in
    let l2 = ap (λ (x : Emission). length x.instrs) c.in_ok-put.ensures in
    let o2 = put_instrs (instr.JumpFalse 0) c.args.span (emission c.emit.new.to) in
    let l3 = ap (λ (x : Emission). length x.instrs) c.in_ok-emit-2.ensures in
    let o3 = emits_instrs (tree_of c.args.first.now) c.args.at (emission c.put.new.self) in
    let l4 = ap (λ (x : Emission). length x.instrs) c.in_ok-put-2.ensures in
    let o4 = put_instrs (instr.Jump 0) c.args.span (emission c.emit-2.new.to) in
    let l5 = ap (λ (x : Emission). length x.instrs) c.set.ensures in
    let o5 = set_instrs c.place-to_second.result (instr.JumpFalse c.place.result) (emission c.put-2.new.self) in
    let l6 = ap (λ (x : Emission). length x.instrs) c.in_ok-emit-3.ensures in
    let o6 = emits_instrs (tree_of c.args.second.now) c.args.at (emission c.set.new.self) in
    omega (arith, l1, o1, l2, o2, l3, o3, l4, o4, l5, o5, l6, o6, c.requires.few_instrs)

pub emit_if-set-requires-2 : goal.emit_if-set-requires-2
emit_if-set-requires-2 t c =
    let l4 = ap (λ (x : Emission). length x.instrs) c.in_ok-put-2.ensures in
    let o4 = put_instrs (instr.Jump 0) c.args.span (emission c.emit-2.new.to) in
    let l5 = ap (λ (x : Emission). length x.instrs) c.set.ensures in
    let o5 = set_instrs c.place-to_second.result (instr.JumpFalse c.place.result) (emission c.put-2.new.self) in
    let l6 = ap (λ (x : Emission). length x.instrs) c.in_ok-emit-3.ensures in
    let o6 = emits_grows (tree_of c.args.second.now) c.args.at (emission c.set.new.self) in
    omega (arith, c.place-to_end.ensures, l4, o4, l5, o5, l6, o6)

pub emit_if-returns : goal.emit_if-returns
emit_if-returns t c =
    let at = c.args.at in
    let span = c.args.span in
    let x = tree_of c.args.test.now in
    let y = tree_of c.args.first.now in
    let z = tree_of c.args.second.now in
    let e = emission c.args.to.now in
    let q2 = c.in_ok-put.ensures ∙ ap (λ f. with_instr (instr.JumpFalse 0) span f) c.in_ok-emit.ensures in
    let q3 = c.in_ok-emit-2.ensures ∙ ap (λ f. emits y at f) q2 in
    let q4 = c.in_ok-put-2.ensures ∙ ap (λ f. with_instr (instr.Jump 0) span f) q3 in
    let n1 = length (emits x at e).instrs in
    let n4 = length (if_first x y span at e).instrs in
    let q5 = c.set.ensures
    ∙ ap (λ n. with_set n (instr.JumpFalse c.place.result) (emission c.put-2.new.self)) (c.place-to_second.ensures ∙ ap (λ (f : Emission). length f.instrs) c.in_ok-emit.ensures)
    ∙ ap (λ n. with_set n1 (instr.JumpFalse n) (emission c.put-2.new.self)) (c.place.ensures ∙ ap (λ (f : Emission). length f.instrs) q4)
    ∙ ap (λ f. with_set n1 (instr.JumpFalse n4) f) q4 in
    let q6 = c.in_ok-emit-3.ensures ∙ ap (λ f. emits z at f) q5 in
    let n3 = length (emits y at (if_tested x span at e)).instrs in
    let n6 = length (emits z at (if_else x y span at e)).instrs in
    c.set-2.ensures
    ∙ ap (λ n. with_set n (instr.Jump c.place-2.result) (emission c.emit-3.new.to)) (c.place-to_end.ensures ∙ ap (λ (f : Emission). length f.instrs) q3)
    ∙ ap (λ n. with_set n3 (instr.Jump n) (emission c.emit-3.new.to)) (c.place-2.ensures ∙ ap (λ (f : Emission). length f.instrs) q6)
    ∙ ap (λ f. with_set n3 (instr.Jump n6) f) q6
    ∙ if_made x y z span at e

pub emit_loop-place-requires : goal.emit_loop-place-requires
emit_loop-place-requires t c =
    let l = ap (λ (x : Emission). length x.instrs) c.in_ok-depth.ensures.code in
    let o = emits_let_instrs (trees_of c.args.values.now) c.args.span c.args.at (emission c.args.to.now) in
    omega (arith, l, o, c.requires.few_instrs)

pub emit_loop-emit-requires : goal.emit_loop-emit-requires
emit_loop-emit-requires t c =
    let at = c.args.at in
    let ts = trees_of c.args.values.now in
    let b = tree_of c.args.body.now in
    let l = ap (λ (x : Emission). length x.instrs) c.in_ok-depth.ensures.code in
    let o = emits_let_instrs ts c.args.span at (emission c.args.to.now) in
    let k = ap (λ (x : Emission). length x.constants) c.in_ok-depth.ensures.code in
    let m = emits_let_constants ts c.args.span at (emission c.args.to.now) in
    (omega arith, (subst (λ d. IsPlaced d at.depth b) (sym c.in_ok-depth.ensures.locals) c.requires.body, (omega (arith, k, m, c.requires.few_constants), (omega (arith, l, o, c.requires.few_instrs), omega (arith, c.requires.low)))))

pub emit_loop-returns : goal.emit_loop-returns
emit_loop-returns t c =
    let at = c.args.at in
    let ts = trees_of c.args.values.now in
    let b = tree_of c.args.body.now in
    let e = emission c.args.to.now in
    let d = at.depth + count ts in
    let n = length (emits_let ts c.args.span at e).instrs in
    subst (λ l. OnOk c.emit.result (emission c.emit.new.to ≡ l))
    (ap (λ m. emits b (around m at.height at.depth c.place.result) (emission c.emit_let.new.to)) c.in_ok-depth.ensures.locals
    ∙ ap (λ m. emits b (around d at.height at.depth m) (emission c.emit_let.new.to)) (c.place.ensures ∙ ap (λ (x : Emission). length x.instrs) c.in_ok-depth.ensures.code)
    ∙ ap (λ x. emits b (around d at.height at.depth n) x) c.in_ok-depth.ensures.code
    ∙ loop_made ts b c.args.span at e)
    c.emit.ensures

pub emit_recur-overflow_cast-values : goal.emit_recur-overflow_cast-values
emit_recur-overflow_cast-values t c =
    omega (arith, c.requires.within.0, c.requires.within.1, count-trees_of c.args.values.now)

pub emit_recur-store_all-requires : goal.emit_recur-store_all-requires
emit_recur-store_all-requires t c =
    omega (arith, c.requires.within.0, c.requires.within.1, count-trees_of c.args.values.now)

pub emit_recur-returns : goal.emit_recur-returns
emit_recur-returns t c =
    let at = c.args.at in
    let ts = trees_of c.args.values.now in
    let span = c.args.span in
    let j = instr.Jump at.start in
    subst (λ l. OnOk c.put.result (emission c.put.new.self ≡ l))
    (ap (λ x. with_instr j span x) c.in_ok-store_all.ensures
    ∙ ap (λ n. with_instr j span (with_stores at.base n span (emission c.rise.new.self))) (sym (count-trees_of c.args.values.now))
    ∙ ap (λ x. with_instr j span (with_stores at.base (count ts) span x)) c.rise.ensures
    ∙ ap (λ x. with_instr j span (with_stores at.base (count ts) span (with_room (at.height + 1) x))) c.in_ok-emit_all.ensures
    ∙ recur_made ts span at (emission c.args.to.now))
    c.put.ensures

pub emit-emit_dosync-requires : goal.emit-emit_dosync-requires
emit-emit_dosync-requires t c =
    let e = dosync_node c.args.node.now c.in-Dosync.body c.deref-in-Dosync.result.now c.in-Dosync.is c.deref-in-Dosync.ensures in
    let n = ap nodes e in
    let p = subst (λ x. IsPlaced c.args.at.depth c.args.at.base x) e c.requires.part in
    (omega (arith, n), ((in_transaction p.0, None, tt, p.3), (omega (arith, n, c.requires.few_constants), (omega (arith, n, c.requires.few_instrs), omega (arith, n, c.requires.low)))))

pub emit-returns-in-Dosync : goal.emit-returns-in-Dosync
emit-returns-in-Dosync t c =
    let x = c.deref-in-Dosync.result.now in
    let e = dosync_node c.args.node.now c.in-Dosync.body x c.in-Dosync.is c.deref-in-Dosync.ensures in
    let m = mark_of c.args.node.now.span c.args.node.now.wanted in
    subst (λ l. OnOk c.emit_dosync.result (emission c.emit_dosync.new.to ≡ l))
    (emits_dosync_is (tree_of x) m c.args.at (emission c.args.to.now) ∙ ap (λ x. emits x c.args.at (emission c.args.to.now)) (sym e))
    c.emit_dosync.ensures

pub emit-overflow_cast-instr : goal.emit-overflow_cast-instr
emit-overflow_cast-instr t c =
    let xs = c.in-Core.args.items in
    let e = core_node c.args.node.now c.in-Core.op c.in-Core.args xs c.in-Core.is refl in
    let p = subst (λ x. IsPlaced c.args.at.depth c.args.at.base x) e c.requires.part in
    omega (arith, p.3.0.1, count-trees_of xs)

pub emit-emit_applied-requires : goal.emit-emit_applied-requires
emit-emit_applied-requires t c =
    let e = core_node c.args.node.now c.in-Core.op c.in-Core.args c.deref-in-Core.result.now c.in-Core.is c.deref-in-Core.ensures.value in
    let n = ap nodes e in
    let p = subst (λ x. IsPlaced c.args.at.depth c.args.at.base x) e c.requires.part in
    (omega (arith, n), ((p.0, p.3.1), (omega (arith, n, c.requires.few_constants), (omega (arith, n, c.requires.few_instrs), omega (arith, n, c.requires.low)))))

pub emit-emit_applied-requires-in-Call : goal.emit-emit_applied-requires-in-Call
emit-emit_applied-requires-in-Call t c =
    let e = call_node c.args.node.now c.in-Call.function c.in-Call.args c.deref-in-Call.result.now c.in-Call.is c.deref-in-Call.ensures.value in
    let n = ap nodes e in
    let p = subst (λ x. IsPlaced c.args.at.depth c.args.at.base x) e c.requires.part in
    (omega (arith, n), ((p.0, p.3.1), (omega (arith, n, c.requires.few_constants), (omega (arith, n, c.requires.few_instrs), omega (arith, n, c.requires.low)))))

pub emit-overflow_cast-instr-in-Vector : goal.emit-overflow_cast-instr-in-Vector
emit-overflow_cast-instr-in-Vector t c =
    let xs = c.in-Vector.items.items in
    let e = vector_node c.args.node.now c.in-Vector.items xs c.in-Vector.is refl in
    let p = subst (λ x. IsPlaced c.args.at.depth c.args.at.base x) e c.requires.part in
    omega (arith, p.3.0, count-trees_of xs)

pub emit-emit_applied-requires-in-Vector : goal.emit-emit_applied-requires-in-Vector
emit-emit_applied-requires-in-Vector t c =
    let e = vector_node c.args.node.now c.in-Vector.items c.deref-in-Vector.result.now c.in-Vector.is c.deref-in-Vector.ensures.value in
    let n = ap nodes e in
    let p = subst (λ x. IsPlaced c.args.at.depth c.args.at.base x) e c.requires.part in
    (omega (arith, n), ((p.0, p.3.1), (omega (arith, n, c.requires.few_constants), (omega (arith, n, c.requires.few_instrs), omega (arith, n, c.requires.low)))))

pub emit-overflow_cast-instr-in-Println : goal.emit-overflow_cast-instr-in-Println
emit-overflow_cast-instr-in-Println t c =
    let xs = c.in-Println.args.items in
    let e = println_node c.args.node.now c.in-Println.args xs c.in-Println.is refl in
    let p = subst (λ x. IsPlaced c.args.at.depth c.args.at.base x) e c.requires.part in
    omega (arith, p.3.1, count-trees_of xs)

pub emit-emit_applied-requires-in-Println : goal.emit-emit_applied-requires-in-Println
emit-emit_applied-requires-in-Println t c =
    let e = println_node c.args.node.now c.in-Println.args c.deref-in-Println.result.now c.in-Println.is c.deref-in-Println.ensures.value in
    let n = ap nodes e in
    let p = subst (λ x. IsPlaced c.args.at.depth c.args.at.base x) e c.requires.part in
    (omega (arith, n), ((p.0, p.3.2), (omega (arith, n, c.requires.few_constants), (omega (arith, n, c.requires.few_instrs), omega (arith, n, c.requires.low)))))

pub emit-returns-in-Core : goal.emit-returns-in-Core
emit-returns-in-Core t c =
    let xs = c.deref-in-Core.result.now in
    let e = core_node c.args.node.now c.in-Core.op c.in-Core.args xs c.in-Core.is c.deref-in-Core.ensures.value in
    let m = mark_of c.args.node.now.span c.args.node.now.wanted in
    let k : c.len.result ≡ count (trees_of xs) = omega (arith, count-trees_of xs, ap length c.deref-in-Core.ensures.value) in
    subst (λ l. OnOk c.emit_applied.result (emission c.emit_applied.new.to ≡ l))
    (ap (λ n. with_instr (instr.Core c.in-Core.op n) m.span (with_room 0 (emits_all (trees_of xs) c.args.at (emission c.args.to.now)))) k
    ∙ emits_core c.in-Core.op (trees_of xs) m c.args.at (emission c.args.to.now) ∙ ap (λ x. emits x c.args.at (emission c.args.to.now)) (sym e))
    c.emit_applied.ensures

pub emit-returns-in-Call : goal.emit-returns-in-Call
emit-returns-in-Call t c =
    let xs = c.deref-in-Call.result.now in
    let e = call_node c.args.node.now c.in-Call.function c.in-Call.args xs c.in-Call.is c.deref-in-Call.ensures.value in
    let m = mark_of c.args.node.now.span c.args.node.now.wanted in
    subst (λ l. OnOk c.emit_applied-in-Call.result (emission c.emit_applied-in-Call.new.to ≡ l))
    (emits_call c.in-Call.function (trees_of xs) m c.args.at (emission c.args.to.now) ∙ ap (λ x. emits x c.args.at (emission c.args.to.now)) (sym e))
    c.emit_applied-in-Call.ensures

pub emit-returns-in-Vector : goal.emit-returns-in-Vector
emit-returns-in-Vector t c =
    let xs = c.deref-in-Vector.result.now in
    let e = vector_node c.args.node.now c.in-Vector.items xs c.in-Vector.is c.deref-in-Vector.ensures.value in
    let m = mark_of c.args.node.now.span c.args.node.now.wanted in
    let k : c.len-in-Vector.result ≡ count (trees_of xs) = omega (arith, count-trees_of xs, ap length c.deref-in-Vector.ensures.value) in
    subst (λ l. OnOk c.emit_applied-in-Vector.result (emission c.emit_applied-in-Vector.new.to ≡ l))
    (ap (λ n. with_instr (instr.Vector n) m.span (with_room (c.args.at.height + 1) (emits_all (trees_of xs) c.args.at (emission c.args.to.now)))) k
    ∙ emits_vector (trees_of xs) m c.args.at (emission c.args.to.now) ∙ ap (λ x. emits x c.args.at (emission c.args.to.now)) (sym e))
    c.emit_applied-in-Vector.ensures

pub emit-returns-in-Println : goal.emit-returns-in-Println
emit-returns-in-Println t c =
    let xs = c.deref-in-Println.result.now in
    let e = println_node c.args.node.now c.in-Println.args xs c.in-Println.is c.deref-in-Println.ensures.value in
    let m = mark_of c.args.node.now.span c.args.node.now.wanted in
    let k : c.len-in-Println.result ≡ count (trees_of xs) = omega (arith, count-trees_of xs, ap length c.deref-in-Println.ensures.value) in
    subst (λ l. OnOk c.emit_applied-in-Println.result (emission c.emit_applied-in-Println.new.to ≡ l))
    (ap (λ n. with_instr (instr.Print n) m.span (with_room (c.args.at.height + 1) (emits_all (trees_of xs) c.args.at (emission c.args.to.now)))) k
    ∙ emits_println (trees_of xs) m c.args.at (emission c.args.to.now) ∙ ap (λ x. emits x c.args.at (emission c.args.to.now)) (sym e))
    c.emit_applied-in-Println.ensures

pub emit-emit_then-requires : goal.emit-emit_then-requires
emit-emit_then-requires t c =
    let e = look_node c.args.node.now c.in-Look.form c.in-Look.cell c.deref-in-Look.result.now c.in-Look.is c.deref-in-Look.ensures in
    let n = ap nodes e in
    let p = subst (λ x. IsPlaced c.args.at.depth c.args.at.base x) e c.requires.part in
    (omega (arith, n), ((p.0, None, tt, p.3.1), (omega (arith, n, c.requires.few_constants), (omega (arith, n, c.requires.few_instrs), omega (arith, n, c.requires.low)))))

pub emit-emit_put-requires : goal.emit-emit_put-requires
emit-emit_put-requires t c =
    let x = c.deref-in-Put.result.now in
    let y = c.deref-in-Put-2.result.now in
    let e = put_node c.args.node.now c.in-Put.form c.in-Put.cell c.in-Put.value x y c.in-Put.is c.deref-in-Put.ensures c.deref-in-Put-2.ensures in
    let n = ap nodes e in
    let p = subst (λ l. IsPlaced c.args.at.depth c.args.at.base l) e c.requires.part in
    (omega (arith, n), ((p.0, None, tt, p.3.1), ((p.0, None, tt, p.3.2), (omega (arith, n, c.requires.few_constants), (omega (arith, n, c.requires.few_instrs), omega (arith, n, c.requires.low))))))

pub emit-emit_update-requires : goal.emit-emit_update-requires
emit-emit_update-requires t c =
    let x = c.deref-in-Update.result.now in
    let xs = c.deref-in-Update-2.result.now in
    let e = update_node c.args.node.now c.in-Update.form c.in-Update.cell c.in-Update.callee c.in-Update.args x xs c.in-Update.is c.deref-in-Update.ensures c.deref-in-Update-2.ensures.value in
    let n = ap nodes e in
    let p = subst (λ l. IsPlaced c.args.at.depth c.args.at.base l) e c.requires.part in
    (omega (arith, n), ((p.0, None, tt, p.3.1), (callee_few p.0 c.in-Update.callee (count (trees_of xs)) p.3.2, ((p.0, p.3.3), (omega (arith, n, c.requires.few_constants), (omega (arith, n, c.requires.few_instrs), omega (arith, n, c.requires.low)))))))

pub emit-overflow_cast-instr-in-Send : goal.emit-overflow_cast-instr-in-Send
emit-overflow_cast-instr-in-Send t c =
    let xs = c.in-Send.args.items in
    let e = send_node c.args.node.now c.in-Send.cell c.in-Send.callee c.in-Send.args c.in-Send.cell.value xs c.in-Send.is refl refl in
    let p = subst (λ x. IsPlaced c.args.at.depth c.args.at.base x) e c.requires.part in
    omega (arith, sent_few p.0 c.in-Send.callee (count (trees_of xs)) p.3.1, count-trees_of xs)

pub emit-emit_send-requires : goal.emit-emit_send-requires
emit-emit_send-requires t c =
    let x = c.deref-in-Send.result.now in
    let xs = c.deref-in-Send-2.result.now in
    let e = send_node c.args.node.now c.in-Send.cell c.in-Send.callee c.in-Send.args x xs c.in-Send.is c.deref-in-Send.ensures c.deref-in-Send-2.ensures.value in
    let n = ap nodes e in
    let p = subst (λ l. IsPlaced c.args.at.depth c.args.at.base l) e c.requires.part in
    (omega (arith, n), ((p.0, None, tt, p.3.0), ((p.0, p.3.2), (omega (arith, n, c.requires.few_constants), (omega (arith, n, c.requires.few_instrs), omega (arith, n, c.requires.low))))))

pub emit-returns-in-Look : goal.emit-returns-in-Look
emit-returns-in-Look t c =
    let form = c.in-Look.form in
    let x = c.deref-in-Look.result.now in
    let e = look_node c.args.node.now form c.in-Look.cell x c.in-Look.is c.deref-in-Look.ensures in
    let m = mark_of c.args.node.now.span c.args.node.now.wanted in
    subst (λ l. OnOk c.emit_then.result (emission c.emit_then.new.to ≡ l))
    (emits_look form (tree_of x) m c.args.at (emission c.args.to.now) ∙ ap (λ x. emits x c.args.at (emission c.args.to.now)) (sym e))
    c.emit_then.ensures

pub emit-returns-in-Put : goal.emit-returns-in-Put
emit-returns-in-Put t c =
    let at = c.args.at in
    let form = c.in-Put.form in
    let x = c.deref-in-Put.result.now in
    let y = c.deref-in-Put-2.result.now in
    let e = put_node c.args.node.now form c.in-Put.cell c.in-Put.value x y c.in-Put.is c.deref-in-Put.ensures c.deref-in-Put-2.ensures in
    let m = mark_of c.args.node.now.span c.args.node.now.wanted in
    subst (λ l. OnOk c.emit_put.result (emission c.emit_put.new.to ≡ l))
    (emits_put form (tree_of x) (tree_of y) m at (emission c.args.to.now) ∙ ap (λ l. emits l at (emission c.args.to.now)) (sym e))
    c.emit_put.ensures

pub emit-returns-in-Update : goal.emit-returns-in-Update
emit-returns-in-Update t c =
    let at = c.args.at in
    let form = c.in-Update.form in
    let callee = c.in-Update.callee in
    let x = c.deref-in-Update.result.now in
    let xs = c.deref-in-Update-2.result.now in
    let e = update_node c.args.node.now form c.in-Update.cell callee c.in-Update.args x xs c.in-Update.is c.deref-in-Update.ensures c.deref-in-Update-2.ensures.value in
    let m = mark_of c.args.node.now.span c.args.node.now.wanted in
    subst (λ l. OnOk c.emit_update.result (emission c.emit_update.new.to ≡ l))
    (emits_update_is form (tree_of x) callee (trees_of xs) m at (emission c.args.to.now) ∙ ap (λ l. emits l at (emission c.args.to.now)) (sym e))
    c.emit_update.ensures

pub emit-returns-in-Send : goal.emit-returns-in-Send
emit-returns-in-Send t c =
    let at = c.args.at in
    let callee = c.in-Send.callee in
    let x = c.deref-in-Send.result.now in
    let xs = c.deref-in-Send-2.result.now in
    let ts = trees_of xs in
    let e = send_node c.args.node.now c.in-Send.cell callee c.in-Send.args x xs c.in-Send.is c.deref-in-Send.ensures c.deref-in-Send-2.ensures.value in
    let m = mark_of c.args.node.now.span c.args.node.now.wanted in
    let k : c.len-in-Send.result ≡ count ts = omega (arith, count-trees_of xs, ap length c.deref-in-Send-2.ensures.value) in
    subst (λ l. OnOk c.emit_send.result (emission c.emit_send.new.to ≡ l))
    (ap (λ n. with_instr (instr.Send callee n) m.span (with_room 0 (emits_all ts (above at) (emits (tree_of x) at (emission c.args.to.now))))) k
    ∙ emits_send (tree_of x) callee ts m at (emission c.args.to.now) ∙ ap (λ l. emits l at (emission c.args.to.now)) (sym e))
    c.emit_send.ensures

pub emit_dosync-returns : goal.emit_dosync-returns
emit_dosync-returns t c =
    let b = tree_of c.args.body.now in
    let span = c.args.span in
    subst (λ l. OnOk c.emit_then.result (emission c.emit_then.new.to ≡ l))
    (ap (λ f. with_instr instr.TxEnd span (emits b c.args.at f)) c.in_ok-put.ensures ∙ dosync_made b span c.args.at (emission c.args.to.now))
    c.emit_then.ensures

pub emit_put-emit_then-requires : goal.emit_put-emit_then-requires
emit_put-emit_then-requires t c =
    let x = tree_of c.args.cell.now in
    let l = ap (λ (e : Emission). length e.instrs) c.in_ok-emit.ensures in
    let k = ap (λ (e : Emission). length e.constants) c.in_ok-emit.ensures in
    let o = emits_instrs x c.args.at (emission c.args.to.now) in
    let m = emits_constants x c.args.at (emission c.args.to.now) in
    (omega arith, (c.requires.part, (omega (arith, k, m, c.requires.few_constants), (omega (arith, l, o, c.requires.few_instrs), omega (arith, nodes_positive x, c.requires.low)))))

pub emit_send-emit_applied-requires : goal.emit_send-emit_applied-requires
emit_send-emit_applied-requires t c =
    let x = tree_of c.args.cell.now in
    let l = ap (λ (e : Emission). length e.instrs) c.in_ok-emit.ensures in
    let k = ap (λ (e : Emission). length e.constants) c.in_ok-emit.ensures in
    let o = emits_instrs x c.args.at (emission c.args.to.now) in
    let m = emits_constants x c.args.at (emission c.args.to.now) in
    (omega arith, (c.requires.part, (omega (arith, k, m, c.requires.few_constants), (omega (arith, l, o, c.requires.few_instrs), omega (arith, nodes_positive x, c.requires.low)))))

pub emit_update-overflow_cast-count : goal.emit_update-overflow_cast-count
emit_update-overflow_cast-count t c = omega (arith, c.requires.few_args, count-trees_of c.args.args.now)

pub emit_update-emit_all-requires : goal.emit_update-emit_all-requires
emit_update-emit_all-requires t c =
    let x = tree_of c.args.cell.now in
    let l = ap (λ (e : Emission). length e.instrs) c.in_ok-emit.ensures in
    let k = ap (λ (e : Emission). length e.constants) c.in_ok-emit.ensures in
    let o = emits_instrs x c.args.at (emission c.args.to.now) in
    let m = emits_constants x c.args.at (emission c.args.to.now) in
    (omega arith, (c.requires.part, (omega (arith, k, m, c.requires.few_constants), (omega (arith, l, o, c.requires.few_instrs), omega (arith, nodes_positive x, c.requires.low)))))

pub emit_update-overflow_add-at : goal.emit_update-overflow_add-at
emit_update-overflow_add-at t c = omega (arith, c.from.ensures, c.requires.few_args, count-trees_of c.args.args.now, c.requires.low)

pub emit_update-overflow_add-at-2 : goal.emit_update-overflow_add-at-2
emit_update-overflow_add-at-2 t c = omega (arith, c.from.ensures, c.requires.few_args, count-trees_of c.args.args.now, c.requires.low)

pub emit_update-update-requires : goal.emit_update-update-requires
emit_update-update-requires t c = omega (arith, c.requires.few_args, count-trees_of c.args.args.now)

pub emit_update-returns : goal.emit_update-returns
emit_update-returns t c =
    let at = c.args.at in
    let span = c.args.span in
    let form = c.args.form in
    let callee = c.args.callee in
    let xs = c.args.args.now in
    let ts = trees_of xs in
    let x = tree_of c.args.cell.now in
    let n : length xs ≡ count ts = sym (count-trees_of xs) in
    let updated = λ (f : Emission). with_update form callee (count ts) span f in
    let risen = λ (f : Emission). updated (with_room (at.height + count ts + 2) f) in
    subst (λ l. OnOk c.update.result (emission c.update.new.self ≡ l))
    (ap (λ k. with_update form callee k span (emission c.rise.new.self)) n
    ∙ ap (λ f. updated f) c.rise.ensures
    ∙ ap (λ k. updated (with_room (at.height + k + 2) (emission c.emit_all.new.to))) (c.from.ensures ∙ n)
    ∙ ap (λ f. risen f) c.in_ok-emit_all.ensures
    ∙ ap (λ f. risen (emits_all ts (above at) f)) c.in_ok-emit.ensures
    ∙ whole_update form x callee ts span at (emission c.args.to.now))
    c.update.ensures

pub emit-returns-in-Const : goal.emit-returns-in-Const
emit-returns-in-Const t c =
    let e = const_node c.args.node.now c.in-Const.value c.in-Const.is in
    let m = mark_of c.args.node.now.span c.args.node.now.wanted in
    subst (λ l. OnOk c.constant.result (emission c.constant.new.self ≡ l))
    (emits_const c.in-Const.value m c.args.at (emission c.args.to.now) ∙ ap (λ x. emits x c.args.at (emission c.args.to.now)) (sym e))
    c.constant.ensures

pub emit-returns-in-Local : goal.emit-returns-in-Local
emit-returns-in-Local t c =
    let e = local_node c.args.node.now c.in-Local.local c.in-Local.is in
    let m = mark_of c.args.node.now.span c.args.node.now.wanted in
    subst (λ l. OnOk c.local.result (emission c.local.new.self ≡ l))
    (emits_local c.in-Local.local m c.args.at (emission c.args.to.now) ∙ ap (λ x. emits x c.args.at (emission c.args.to.now)) (sym e))
    c.local.ensures

pub emit-emit_bound-requires : goal.emit-emit_bound-requires
emit-emit_bound-requires t c =
    let xs = c.deref-in-Let.result.now in
    let b = c.deref-in-Let-2.result.now in
    let at = c.args.at in
    let e = let_node c.args.node.now c.in-Let.values c.in-Let.body xs b c.in-Let.is c.deref-in-Let.ensures.value c.deref-in-Let-2.ensures in
    let n = ap nodes e in
    let p = subst (λ x. IsPlaced at.depth at.base x) e c.requires.part in
    let q : IsPlaced (at.depth + count (trees_of xs)) at.base (tree_of b) = (p.0, p.1, within_more at.base p.1 at.depth (count (trees_of xs)) (let_locals (trees_of xs) p.0 at.depth p.3.0) p.2, p.3.1) in
    (omega (arith, n), ((p.0, p.3.0), (q, (omega (arith, n, c.requires.few_constants), (omega (arith, n, c.requires.few_instrs), omega (arith, n, c.requires.low))))))

pub emit-returns-in-Let : goal.emit-returns-in-Let
emit-returns-in-Let t c =
    let xs = c.deref-in-Let.result.now in
    let b = c.deref-in-Let-2.result.now in
    let e = let_node c.args.node.now c.in-Let.values c.in-Let.body xs b c.in-Let.is c.deref-in-Let.ensures.value c.deref-in-Let-2.ensures in
    let m = mark_of c.args.node.now.span c.args.node.now.wanted in
    subst (λ l. OnOk c.emit_bound.result (emission c.emit_bound.new.to ≡ l))
    (emits_bound_is (trees_of xs) (tree_of b) m c.args.at (emission c.args.to.now) ∙ ap (λ x. emits x c.args.at (emission c.args.to.now)) (sym e))
    c.emit_bound.ensures

pub emit_bound-emit-requires : goal.emit_bound-emit-requires
emit_bound-emit-requires t c =
    let at = c.args.at in
    let ts = trees_of c.args.values.now in
    let b = tree_of c.args.body.now in
    let l = ap (λ (x : Emission). length x.instrs) c.in_ok-depth.ensures.code in
    let o = emits_let_instrs ts c.args.span at (emission c.args.to.now) in
    let k = ap (λ (x : Emission). length x.constants) c.in_ok-depth.ensures.code in
    let m = emits_let_constants ts c.args.span at (emission c.args.to.now) in
    (omega arith, (subst (λ d. IsPlaced d at.base b) (sym c.in_ok-depth.ensures.locals) c.requires.body, (omega (arith, k, m, c.requires.few_constants), (omega (arith, l, o, c.requires.few_instrs), omega (arith, c.requires.low)))))

pub emit_bound-returns : goal.emit_bound-returns
emit_bound-returns t c =
    let at = c.args.at in
    let ts = trees_of c.args.values.now in
    let b = tree_of c.args.body.now in
    subst (λ l. OnOk c.emit.result (emission c.emit.new.to ≡ l))
    (ap (λ m. emits b (around m at.height at.base at.start) (emission c.emit_let.new.to)) c.in_ok-depth.ensures.locals
    ∙ ap (λ x. emits b (around (at.depth + count ts) at.height at.base at.start) x) c.in_ok-depth.ensures.code
    ∙ bound_made ts b c.args.span at (emission c.args.to.now))
    c.emit.ensures

pub emit-constant-requires : goal.emit-constant-requires
emit-constant-requires t c = omega (arith, nodes_positive (tree_of c.args.node.now), c.requires.few_constants)

pub emit-overflow_add-at : goal.emit-overflow_add-at
emit-overflow_add-at t c = omega (arith, c.requires.low)

pub emit-overflow_add-at-in-Local : goal.emit-overflow_add-at-in-Local
emit-overflow_add-at-in-Local t c = omega (arith, c.requires.low)

pub emit-overflow_add-at-in-Call : goal.emit-overflow_add-at-in-Call
emit-overflow_add-at-in-Call t c = omega (arith, c.requires.low)

pub emit-overflow_add-at-in-Vector : goal.emit-overflow_add-at-in-Vector
emit-overflow_add-at-in-Vector t c = omega (arith, c.requires.low)

pub emit-overflow_add-at-in-Println : goal.emit-overflow_add-at-in-Println
emit-overflow_add-at-in-Println t c = omega (arith, c.requires.low)

pub emit_all-loop-arg-init : goal.emit_all-loop-arg-init
emit_all-loop-arg-init t c = record {
  made = refl;
  part = c.requires.part;
  few_constants = c.requires.few_constants;
  few_instrs = c.requires.few_instrs;
  low = c.requires.low;
}

pub emit_all-overflow_add-height : goal.emit_all-overflow_add-height
emit_all-overflow_add-height t c = omega (arith, c.loop-arg.invariant.low)

pub emit_applied-emit_all-requires : goal.emit_applied-emit_all-requires
emit_applied-emit_all-requires t c = (omega arith, (c.requires.part, (c.requires.few_constants, (c.requires.few_instrs, c.requires.low))))

pub emit_applied-returns : goal.emit_applied-returns
emit_applied-returns t c =
    subst (λ l. OnOk c.put.result (emission c.put.new.self ≡ l))
    (ap (λ f. with_instr c.args.instr c.args.span f) (c.rise.ensures ∙ ap (λ f. with_room c.args.room f) c.in_ok-emit_all.ensures))
    c.put.ensures

pub emit_bound-emit_let-requires : goal.emit_bound-emit_let-requires
emit_bound-emit_let-requires t c = (omega arith, (c.requires.part, (omega (arith, c.requires.few_constants), (omega (arith, c.requires.few_instrs), omega (arith, c.requires.low)))))

pub emit_do-overflow_sub-left : goal.emit_do-overflow_sub-left
emit_do-overflow_sub-left t c = omega (arith, c.loop-item.invariant.left, c.loop-item-test.true)

pub emit_dosync-emit_then-requires : goal.emit_dosync-emit_then-requires
emit_dosync-emit_then-requires t c =
    let l = ap (λ (x : Emission). length x.instrs) c.in_ok-put.ensures in
    let k = ap (λ (x : Emission). length x.constants) c.in_ok-put.ensures in
    let o = put_instrs instr.TxBegin c.args.span (emission c.args.to.now) in
    (omega arith, (c.requires.part, (omega (arith, k, c.requires.few_constants), (omega (arith, l, o, c.requires.few_instrs), omega (arith, c.requires.low)))))

pub emit_if-emit-requires : goal.emit_if-emit-requires
emit_if-emit-requires t c = (omega arith, (c.requires.test, (omega (arith, c.requires.few_constants), (omega (arith, c.requires.few_instrs), omega (arith, c.requires.low)))))

pub emit_let-loop-value-init : goal.emit_let-loop-value-init
emit_let-loop-value-init t c = record {
  made = refl;
  part = c.requires.part;
  few_constants = c.requires.few_constants;
  few_instrs = c.requires.few_instrs;
  low = c.requires.low;
  locals = refl;
}

pub emit_let-returns-clause-locals : goal.emit_let-returns-clause-locals
emit_let-returns-clause-locals t c =
    let e = ap count (nothing_left c.args.values.now c.loop-value.value-index c.loop-value-test.false) in
    omega (arith, e, c.loop-value.invariant.locals)

pub emit_loop-emit_let-requires : goal.emit_loop-emit_let-requires
emit_loop-emit_let-requires t c = (omega arith, (c.requires.part, (omega (arith, c.requires.few_constants), (omega (arith, c.requires.few_instrs), omega (arith, c.requires.low)))))

pub emit_put-emit-requires : goal.emit_put-emit-requires
emit_put-emit-requires t c = (omega arith, (c.requires.cell, (omega (arith, c.requires.few_constants), (omega (arith, c.requires.few_instrs), omega (arith, c.requires.low)))))

pub emit_put-overflow_add-height : goal.emit_put-overflow_add-height
emit_put-overflow_add-height t c = omega (arith, c.requires.low)

pub emit_put-returns : goal.emit_put-returns
emit_put-returns t c =
    subst (λ l. OnOk c.emit_then.result (emission c.emit_then.new.to ≡ l))
    (ap (λ f. with_instr c.args.instr c.args.span (emits (tree_of c.args.value.now) (above c.args.at) f)) c.in_ok-emit.ensures)
    c.emit_then.ensures

pub emit_recur-emit_all-requires : goal.emit_recur-emit_all-requires
emit_recur-emit_all-requires t c = (omega arith, (c.requires.part, (omega (arith, c.requires.few_constants), (omega (arith, c.requires.few_instrs), omega (arith, c.requires.low)))))

pub emit_recur-overflow_add-at : goal.emit_recur-overflow_add-at
emit_recur-overflow_add-at t c = omega (arith, c.requires.low)

pub emit_send-emit-requires : goal.emit_send-emit-requires
emit_send-emit-requires t c = (omega arith, (c.requires.cell, (omega (arith, c.requires.few_constants), (omega (arith, c.requires.few_instrs), omega (arith, c.requires.low)))))

pub emit_send-overflow_add-height : goal.emit_send-overflow_add-height
emit_send-overflow_add-height t c = omega (arith, c.requires.low)

pub emit_send-returns : goal.emit_send-returns
emit_send-returns t c =
    subst (λ l. OnOk c.emit_applied.result (emission c.emit_applied.new.to ≡ l))
    (ap (λ f. with_instr c.args.instr c.args.span (with_room 0 (emits_all (trees_of c.args.args.now) (above c.args.at) f))) c.in_ok-emit.ensures)
    c.emit_applied.ensures

pub emit_then-emit-requires : goal.emit_then-emit-requires
emit_then-emit-requires t c = (omega arith, (c.requires.part, (c.requires.few_constants, (c.requires.few_instrs, c.requires.low))))

pub emit_then-returns : goal.emit_then-returns
emit_then-returns t c =
    subst (λ l. OnOk c.put.result (emission c.put.new.self ≡ l))
    (ap (λ f. with_instr c.args.instr c.args.span f) c.in_ok-emit.ensures)
    c.put.ensures

pub emit_update-emit-requires : goal.emit_update-emit-requires
emit_update-emit-requires t c = (omega arith, (c.requires.cell, (omega (arith, c.requires.few_constants), (omega (arith, c.requires.few_instrs), omega (arith, c.requires.low)))))

pub emit_update-overflow_add-height : goal.emit_update-overflow_add-height
emit_update-overflow_add-height t c = omega (arith, c.requires.low)
