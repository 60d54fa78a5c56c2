-- What an emitter makes, step by step.
use Rattle.std.proofs.Common.{◌≡◌, ℕ, zero, suc, ◌+◌, ◌*◌, ◌<◌, ◌≤◌, max, eqb, Bool, true, false, List, [], ◌∷◌, ◌++◌, length, Option, Some, None, refl, sym, ap, ◌∙◌, append_assoc, length-append, eq-eqb, get_or, drop, arith}
use Rattle.std.specs.Prelude.{slice_set}
use Rattle.std.proofs.Math.Seq.{drop-cons}
use Rattle.std.proofs.lemmas.List.{append-nil, drop_all}
use Rattle.std.proofs.lemmas.Bool.Decides.{nat_tests}
use Rattle.txs_value_data.specs.declared.fault.Span.{Span}
use Rattle.txs_value_cell.specs.declared.form.LookForm.{LookForm}
use Rattle.txs_value_cell.specs.declared.form.PutForm.{PutForm}
use Rattle.txs_value_cell.specs.declared.form.UpdateForm.{UpdateForm}
use Rattle.txs_value_data.specs.declared.op.Callee.{Callee}
use Rattle.txs_value_data.specs.declared.op.Callee.TheVariants.{Core as CoreOp, Function}
use Rattle.txs_value_data.specs.declared.op.Op.{Op}
use Rattle.txs_value_data.specs.declared.value.Value.{Value}
use Rattle.txs_tree_meaning.specs.Sound.{nodes, nodes_in, SoundCallee, SoundSent, SoundLet, SoundDo}
use Rattle.txs_tree_meaning.specs.Tree.{Mark, Tree, Const, Local, If, Do, Let, Loop, Recur, Core, Call, VectorOf, Println, Dosync, Look, Put, Update, Send, Trees, none, more, count, is_none}
use Rattle.txs_tree_meaning.specs.View.{tree_of, trees_of}
use Rattle.txs_tree_meaning.specs.declared.node.Node.{Node}
use Rattle.txs_code_meaning.specs.declared.instr.Instr.{Instr}
use Rattle.txs_code_meaning.specs.declared.instr.Instr.TheVariants as instr
use Rattle.txs_gen.specs.Generated.{copies, spans_of, spans_of_all, spans_of_let, spans_of_do, constants_of, constants_in}
use Rattle.txs_gen.specs.Emission.{Emission, above, then_instrs, if_instrs, stores_from, callee_instrs, update_instrs, instrs_of, instrs_of_all, instrs_of_let, instrs_of_do, stored, stored_in, stored_let, top, top_in, top_args, emits, emits_all, emits_let, emits_do, emits_if, emits_bound, emits_loop, emits_dosync, emits_update, emits_recur, with_instr, with_constant, with_room, with_locals, with_pop, with_stores, with_update, with_set, Place, IsWithin, IsPlaced, IsPlacedDo}
use Rattle.txs_gen.specs.declared.emit.Around.{Around}

abbrev pub make : List Instr → List Span → List Value → ℕ → ℕ → Emission
make is ss cs l r = record { instrs = is; spans = ss; constants = cs; locals = l; room = r }

same : (is js : List Instr) (ss ts : List Span) (cs ds : List Value) (l m r q : ℕ) → is ≡ js → ss ≡ ts → cs ≡ ds → l ≡ m → r ≡ q → make is ss cs l r ≡ make js ts ds m q
same is js ss ts cs ds l m r q a b c d e =
    ap (λ x. make x ss cs l r) a ∙ ap (λ x. make js x cs l r) b ∙ ap (λ x. make js ts x l r) c ∙ ap (λ x. make js ts ds x r) d ∙ ap (λ x. make js ts ds m x) e

max-zero : (n : ℕ) → max n 0 ≡ n
max-zero n = omega arith

copies_more : (n : ℕ) (span : Span) → copies n span ++ span ∷ [] ≡ copies (suc n) span
copies_more zero span = refl
copies_more (suc n) span = ap (λ l. span ∷ l) (copies_more n span)

-- x more, and then y
middle : {A : Type 0} (a b : List A) (x : A) (c : List A) → ((a ++ b) ++ x ∷ []) ++ c ≡ a ++ (b ++ x ∷ c)
middle a b x c = append_assoc (a ++ b) (x ∷ []) c ∙ append_assoc a b (x ∷ c)

-- instructions that know their place and the number of constants, behind others
then_made : (is js : List Instr) (cs ds : List Value) (f : ℕ → ℕ → List Instr) →
    (is ++ js) ++ f (length (is ++ js)) (length (cs ++ ds)) ≡ is ++ (js ++ f (length is + length js) (length cs + length ds))
then_made is js cs ds f =
    ap (λ n. (is ++ js) ++ f n (length (cs ++ ds))) (length-append is js)
    ∙ ap (λ n. (is ++ js) ++ f (length is + length js) n) (length-append cs ds)
    ∙ append_assoc is js (f (length is + length js) (length cs + length ds))

-- the same, with an instruction between
then_one_made : (is js : List Instr) (i : Instr) (cs ds : List Value) (f : ℕ → ℕ → List Instr) →
    ((is ++ js) ++ i ∷ []) ++ f (length ((is ++ js) ++ i ∷ [])) (length (cs ++ ds)) ≡ is ++ (js ++ i ∷ f (length is + length js + 1) (length cs + length ds))
then_one_made is js i cs ds f =
    let e : length ((is ++ js) ++ i ∷ []) ≡ length is + length js + 1 = omega (arith, length-append (is ++ js) (i ∷ []), length-append is js) in
    ap (λ n. ((is ++ js) ++ i ∷ []) ++ f n (length (cs ++ ds))) e
    ∙ ap (λ n. ((is ++ js) ++ i ∷ []) ++ f (length is + length js + 1) n) (length-append cs ds)
    ∙ middle is js i (f (length is + length js + 1) (length cs + length ds))

set_middle : (is : List Instr) (i j : Instr) (js : List Instr) → slice_set (is ++ i ∷ js) (length is) j ≡ is ++ j ∷ js
set_middle [] i j js = refl
set_middle (h ∷ is) i j js = ap (λ l. h ∷ l) (set_middle is i j js)

-- both jumps of a choice behind others, at first to nowhere, and then to their places
module _ (is js : List Instr) (fa fb : ℕ → List Instr) where
  tested : List Instr → ℕ → List Instr
  tested bs q = (is ++ js) ++ instr.JumpFalse q ∷ (bs ++ instr.Jump 0 ∷ [])

  branched : List Instr → List Instr
  branched bs = (((is ++ js) ++ instr.JumpFalse 0 ∷ []) ++ bs) ++ instr.Jump 0 ∷ []

  first_set : List Instr → List Instr
  first_set bs = slice_set (branched bs) (length (is ++ js)) (instr.JumpFalse (length (branched bs)))

  second_set : List Instr → List Instr → List Instr → List Instr
  second_set bs vs us = slice_set (vs ++ us) (length (((is ++ js) ++ instr.JumpFalse 0 ∷ []) ++ bs)) (instr.Jump (length (vs ++ us)))

  first_set_is : (bs : List Instr) → first_set bs ≡ tested bs (length is + length js + 1 + length bs + 1)
  unfolding first_set branched tested
  first_set_is bs =
      let x = is ++ js in
      let w = instr.Jump 0 ∷ [] in
      let n : length (((x ++ instr.JumpFalse 0 ∷ []) ++ bs) ++ w) ≡ length is + length js + 1 + length bs + 1 =
      omega (arith, length-append ((x ++ instr.JumpFalse 0 ∷ []) ++ bs) w, length-append (x ++ instr.JumpFalse 0 ∷ []) bs, length-append x (instr.JumpFalse 0 ∷ []), length-append is js) in
      ap (λ m. slice_set (((x ++ instr.JumpFalse 0 ∷ []) ++ bs) ++ w) (length x) (instr.JumpFalse m)) n
      ∙ ap (λ l. slice_set l (length x) (instr.JumpFalse (length is + length js + 1 + length bs + 1))) (append_assoc (x ++ instr.JumpFalse 0 ∷ []) bs w ∙ append_assoc x (instr.JumpFalse 0 ∷ []) (bs ++ w))
      ∙ set_middle x (instr.JumpFalse 0) (instr.JumpFalse (length is + length js + 1 + length bs + 1)) (bs ++ w)

  tested_length : (bs : List Instr) (q : ℕ) → length (tested bs q) ≡ length is + length js + 1 + length bs + 1
  unfolding tested
  tested_length bs q =
      omega (arith, length-append (is ++ js) (instr.JumpFalse q ∷ (bs ++ instr.Jump 0 ∷ [])), length-append is js, length-append bs (instr.Jump 0 ∷ []))

  second_set_is : (bs us : List Instr) (q : ℕ) → second_set bs (tested bs q) us ≡ is ++ (js ++ instr.JumpFalse q ∷ (bs ++ instr.Jump (length is + length js + 1 + length bs + 1 + length us) ∷ us))
  unfolding second_set tested
  second_set_is bs us q =
      let x = is ++ js in
      let y = instr.JumpFalse q ∷ bs in
      let w = instr.Jump 0 ∷ [] in
      let r = length is + length js + 1 + length bs + 1 + length us in
      let n : length ((x ++ instr.JumpFalse q ∷ (bs ++ w)) ++ us) ≡ r =
      omega (arith, length-append (x ++ instr.JumpFalse q ∷ (bs ++ w)) us, length-append x (instr.JumpFalse q ∷ (bs ++ w)), length-append is js, length-append bs w) in
      let m : length ((x ++ instr.JumpFalse 0 ∷ []) ++ bs) ≡ length (x ++ y) =
      omega (arith, length-append (x ++ instr.JumpFalse 0 ∷ []) bs, length-append x (instr.JumpFalse 0 ∷ []), length-append x y) in
      let l : (x ++ instr.JumpFalse q ∷ (bs ++ w)) ++ us ≡ (x ++ y) ++ instr.Jump 0 ∷ us =
      append_assoc x (instr.JumpFalse q ∷ (bs ++ w)) us ∙ ap (λ z. x ++ instr.JumpFalse q ∷ z) (append_assoc bs w us) ∙ sym (append_assoc x y (instr.Jump 0 ∷ us)) in
      ap (λ z. slice_set ((x ++ instr.JumpFalse q ∷ (bs ++ w)) ++ us) (length ((x ++ instr.JumpFalse 0 ∷ []) ++ bs)) (instr.Jump z)) n
      ∙ ap (λ z. slice_set ((x ++ instr.JumpFalse q ∷ (bs ++ w)) ++ us) z (instr.Jump r)) m
      ∙ ap (λ z. slice_set z (length (x ++ y)) (instr.Jump r)) l
      ∙ set_middle (x ++ y) (instr.Jump 0) (instr.Jump r) us
      ∙ append_assoc x y (instr.Jump r ∷ us)
      ∙ append_assoc is js (y ++ instr.Jump r ∷ us)

  chosen : List Instr → List Instr → List Instr
  chosen bs vs = second_set bs vs (fb (length vs))

  choice_made : chosen (fa (length ((is ++ js) ++ instr.JumpFalse 0 ∷ []))) (first_set (fa (length ((is ++ js) ++ instr.JumpFalse 0 ∷ [])))) ≡ is ++ then_instrs (length is) js (λ p. if_instrs p (fa (p + 1)) fb)
  unfolding chosen
  choice_made =
      let n : length ((is ++ js) ++ instr.JumpFalse 0 ∷ []) ≡ length is + length js + 1 = omega (arith, length-append (is ++ js) (instr.JumpFalse 0 ∷ []), length-append is js) in
      let bs = fa (length is + length js + 1) in
      let q = length is + length js + 1 + length bs + 1 in
      ap (λ m. chosen (fa m) (first_set (fa m))) n
      ∙ ap (λ vs. chosen bs vs) (first_set_is bs)
      ∙ ap (λ m. second_set bs (tested bs q) (fb m)) (tested_length bs q)
      ∙ second_set_is bs (fb q) q

abbrev pub around : ℕ → ℕ → ℕ → ℕ → Around
around d h base start = record { depth = d; height = h; base = base; start = start }

-- a constant
pub emits_const : (v : Value) (m : Mark) (at : Around) (e : Emission) → with_instr (instr.Const (length e.constants)) m.span (with_constant v (with_room (at.height + 1) e)) ≡ emits (Const v m) at e
unfolding emits
emits_const v m at e = same _ _ _ _ _ _ _ _ _ _ refl refl refl (sym (max-zero e.locals)) refl

pub emits_local : (i : ℕ) (m : Mark) (at : Around) (e : Emission) → with_instr (instr.Local i) m.span (with_room (at.height + 1) e) ≡ emits (Local i m) at e
unfolding emits
emits_local i m at e = same _ _ _ _ _ _ _ _ _ _ refl refl (sym (append-nil e.constants)) (sym (max-zero e.locals)) refl

pub emits_do_is : (ts : Trees) (m : Mark) (at : Around) (e : Emission) → emits_do ts m.span at e ≡ emits (Do ts m) at e
unfolding emits emits_do
emits_do_is ts m at e = refl

pub emits_if_is : (c a b : Tree) (m : Mark) (at : Around) (e : Emission) → emits_if c a b m.span at e ≡ emits (If c a b m) at e
unfolding emits emits_if
emits_if_is c a b m at e = refl

pub emits_loop_is : (ts : Trees) (body : Tree) (m : Mark) (at : Around) (e : Emission) → emits_loop ts body m.span at e ≡ emits (Loop ts body m) at e
unfolding emits emits_loop
emits_loop_is ts body m at e = refl

pub emits_recur_is : (ts : Trees) (m : Mark) (at : Around) (e : Emission) → emits_recur ts m.span at e ≡ emits (Recur ts m) at e
unfolding emits emits_recur
emits_recur_is ts m at e = refl

pub emits_core : (op : Op) (ts : Trees) (m : Mark) (at : Around) (e : Emission) → with_instr (instr.Core op (count ts)) m.span (with_room 0 (emits_all ts at e)) ≡ emits (Core op ts m) at e
unfolding emits emits_all
emits_core op ts m at e =
    same _ _ _ _ _ _ _ _ _ _ (append_assoc e.instrs (instrs_of_all ts at.depth at.base at.start (length e.instrs) (length e.constants)) (instr.Core op (count ts) ∷ [])) (append_assoc e.spans (spans_of_all ts) (m.span ∷ [])) refl refl (max-zero (max e.room (top_args ts at.height)))

pub emits_call : (f : ℕ) (ts : Trees) (m : Mark) (at : Around) (e : Emission) → with_instr (instr.Call f) m.span (with_room (at.height + 1) (emits_all ts at e)) ≡ emits (Call f ts m) at e
unfolding emits emits_all
emits_call f ts m at e =
    let r : max (max e.room (top_args ts at.height)) (at.height + 1) ≡ max e.room (max (top_args ts at.height) (at.height + 1)) = omega arith in
    same _ _ _ _ _ _ _ _ _ _ (append_assoc e.instrs (instrs_of_all ts at.depth at.base at.start (length e.instrs) (length e.constants)) (instr.Call f ∷ [])) (append_assoc e.spans (spans_of_all ts) (m.span ∷ [])) refl refl r

pub emits_vector : (ts : Trees) (m : Mark) (at : Around) (e : Emission) → with_instr (instr.Vector (count ts)) m.span (with_room (at.height + 1) (emits_all ts at e)) ≡ emits (VectorOf ts m) at e
unfolding emits emits_all
emits_vector ts m at e =
    let r : max (max e.room (top_args ts at.height)) (at.height + 1) ≡ max e.room (max (top_args ts at.height) (at.height + 1)) = omega arith in
    same _ _ _ _ _ _ _ _ _ _ (append_assoc e.instrs (instrs_of_all ts at.depth at.base at.start (length e.instrs) (length e.constants)) (instr.Vector (count ts) ∷ [])) (append_assoc e.spans (spans_of_all ts) (m.span ∷ [])) refl refl r

pub emits_println : (ts : Trees) (m : Mark) (at : Around) (e : Emission) → with_instr (instr.Print (count ts)) m.span (with_room (at.height + 1) (emits_all ts at e)) ≡ emits (Println ts m) at e
unfolding emits emits_all
emits_println ts m at e =
    let r : max (max e.room (top_args ts at.height)) (at.height + 1) ≡ max e.room (max (top_args ts at.height) (at.height + 1)) = omega arith in
    same _ _ _ _ _ _ _ _ _ _ (append_assoc e.instrs (instrs_of_all ts at.depth at.base at.start (length e.instrs) (length e.constants)) (instr.Print (count ts) ∷ [])) (append_assoc e.spans (spans_of_all ts) (m.span ∷ [])) refl refl r

pub emits_bound_is : (ts : Trees) (body : Tree) (m : Mark) (at : Around) (e : Emission) → emits_bound ts body m.span at e ≡ emits (Let ts body m) at e
unfolding emits emits_bound
emits_bound_is ts body m at e = refl

pub bound_made : (ts : Trees) (body : Tree) (span : Span) (at : Around) (e : Emission) → emits body (around (at.depth + count ts) at.height at.base at.start) (emits_let ts span at e) ≡ emits_bound ts body span at e
unfolding emits emits_let emits_bound
bound_made ts body span at e =
    let l : max (max e.locals (stored_let ts at.depth)) (stored body (at.depth + count ts)) ≡ max e.locals (max (stored_let ts at.depth) (stored body (at.depth + count ts))) = omega arith in
    let r : max (max e.room (top_in ts at.height)) (top body at.height) ≡ max e.room (max (top_in ts at.height) (top body at.height)) = omega arith in
    same _ _ _ _ _ _ _ _ _ _
    (then_made e.instrs (instrs_of_let ts at.depth at.base at.start (length e.instrs) (length e.constants)) e.constants (constants_in ts) (instrs_of body (at.depth + count ts) at.base at.start))
    (append_assoc e.spans (spans_of_let span ts) (spans_of body)) (append_assoc e.constants (constants_in ts) (constants_of body)) l r

pub loop_made : (ts : Trees) (body : Tree) (span : Span) (at : Around) (e : Emission) → emits body (around (at.depth + count ts) at.height at.depth (length (emits_let ts span at e).instrs)) (emits_let ts span at e) ≡ emits_loop ts body span at e
unfolding emits emits_let emits_loop
loop_made ts body span at e =
    let l : max (max e.locals (stored_let ts at.depth)) (stored body (at.depth + count ts)) ≡ max e.locals (max (stored_let ts at.depth) (stored body (at.depth + count ts))) = omega arith in
    let r : max (max e.room (top_in ts at.height)) (top body at.height) ≡ max e.room (max (top_in ts at.height) (top body at.height)) = omega arith in
    same _ _ _ _ _ _ _ _ _ _
    (then_made e.instrs (instrs_of_let ts at.depth at.base at.start (length e.instrs) (length e.constants)) e.constants (constants_in ts) (λ p k. instrs_of body (at.depth + count ts) at.depth p p k))
    (append_assoc e.spans (spans_of_let span ts) (spans_of body)) (append_assoc e.constants (constants_in ts) (constants_of body)) l r

pub recur_made : (ts : Trees) (span : Span) (at : Around) (e : Emission) → with_instr (instr.Jump at.start) span (with_stores at.base (count ts) span (with_room (at.height + 1) (emits_all ts at e))) ≡ emits_recur ts span at e
unfolding emits emits_all emits_recur
recur_made ts span at e =
    let is = instrs_of_all ts at.depth at.base at.start (length e.instrs) (length e.constants) in
    let js = stores_from at.base (count ts) in
    let r : max (max e.room (top_args ts at.height)) (at.height + 1) ≡ max e.room (max (top_args ts at.height) (at.height + 1)) = omega arith in
    same _ _ _ _ _ _ _ _ _ _
    (append_assoc (e.instrs ++ is) js (instr.Jump at.start ∷ []) ∙ append_assoc e.instrs is (js ++ instr.Jump at.start ∷ []))
    (append_assoc (e.spans ++ spans_of_all ts) (copies (count ts) span) (span ∷ []) ∙ append_assoc e.spans (spans_of_all ts) (copies (count ts) span ++ span ∷ []) ∙ ap (λ l. e.spans ++ (spans_of_all ts ++ l)) (copies_more (count ts) span))
    refl refl r

pub emits_dosync_is : (body : Tree) (m : Mark) (at : Around) (e : Emission) → emits_dosync body m.span at e ≡ emits (Dosync body m) at e
unfolding emits emits_dosync
emits_dosync_is body m at e = refl

pub emits_look : (form : LookForm) (cell : Tree) (m : Mark) (at : Around) (e : Emission) → with_instr (instr.Look form) m.span (emits cell at e) ≡ emits (Look form cell m) at e
unfolding emits
emits_look form cell m at e =
    same _ _ _ _ _ _ _ _ _ _ (append_assoc e.instrs (instrs_of cell at.depth at.base at.start (length e.instrs) (length e.constants)) (instr.Look form ∷ [])) (append_assoc e.spans (spans_of cell) (m.span ∷ [])) refl refl refl

pub emits_put : (form : PutForm) (cell value : Tree) (m : Mark) (at : Around) (e : Emission) → with_instr (instr.Put form) m.span (emits value (above at) (emits cell at e)) ≡ emits (Put form cell value m) at e
unfolding emits
emits_put form cell value m at e =
    let d = at.depth in
    let is = instrs_of cell d at.base at.start (length e.instrs) (length e.constants) in
    let xs = e.instrs ++ is in
    let js = instrs_of value d at.base at.start (length xs) (length (e.constants ++ constants_of cell)) in
    let last = instr.Put form ∷ [] in
    let l : max (max e.locals (stored cell d)) (stored value d) ≡ max e.locals (max (stored cell d) (stored value d)) = omega arith in
    let r : max (max e.room (top cell at.height)) (top value (at.height + 1)) ≡ max e.room (max (top cell at.height) (top value (at.height + 1))) = omega arith in
    same _ _ _ _ _ _ _ _ _ _
    (append_assoc xs js last ∙ then_made e.instrs is e.constants (constants_of cell) (λ p k. instrs_of value d at.base at.start p k ++ last))
    (append_assoc (e.spans ++ spans_of cell) (spans_of value) (m.span ∷ []) ∙ append_assoc e.spans (spans_of cell) (spans_of value ++ m.span ∷ []))
    (append_assoc e.constants (constants_of cell) (constants_of value)) l r

pub dosync_made : (body : Tree) (span : Span) (at : Around) (e : Emission) → with_instr instr.TxEnd span (emits body at (with_instr instr.TxBegin span e)) ≡ emits_dosync body span at e
unfolding emits emits_dosync
dosync_made body span at e =
    let k = length e.constants in
    let first = instr.TxBegin ∷ [] in
    let last = instr.TxEnd ∷ [] in
    let is = instrs_of body at.depth at.base at.start (length e.instrs + 1) k in
    let n : length (e.instrs ++ first) ≡ length e.instrs + 1 = omega (arith, length-append e.instrs first) in
    same _ _ _ _ _ _ _ _ _ _
    (ap (λ m. ((e.instrs ++ first) ++ instrs_of body at.depth at.base at.start m k) ++ last) n ∙ append_assoc (e.instrs ++ first) is last ∙ append_assoc e.instrs first (is ++ last))
    (append_assoc (e.spans ++ span ∷ []) (spans_of body) (span ∷ []) ∙ append_assoc e.spans (span ∷ []) (spans_of body ++ span ∷ []))
    refl refl refl

pub emits_update_is : (form : UpdateForm) (cell : Tree) (callee : Callee) (args : Trees) (m : Mark) (at : Around) (e : Emission) → emits_update form cell callee args m.span at e ≡ emits (Update form cell callee args m) at e
unfolding emits emits_update
emits_update_is form cell callee args m at e = refl

pub whole_update : (form : UpdateForm) (cell : Tree) (callee : Callee) (args : Trees) (span : Span) (at : Around) (e : Emission) → with_update form callee (count args) span (with_room (at.height + count args + 2) (emits_all args (above at) (emits cell at e))) ≡ emits_update form cell callee args span at e
unfolding emits emits_all emits_update
whole_update form cell callee args span at e =
    let d = at.depth in
    let h = at.height in
    let is = instrs_of cell d at.base at.start (length e.instrs) (length e.constants) in
    let xs = e.instrs ++ is in
    let js = instrs_of_all args d at.base at.start (length xs) (length (e.constants ++ constants_of cell)) in
    let us = update_instrs form callee (count args) in
    let spans = e.spans ++ spans_of cell in
    let l : max (max e.locals (stored cell d)) (stored_in args d) ≡ max e.locals (max (stored cell d) (stored_in args d)) = omega arith in
    let r : max (max (max e.room (top cell h)) (top_args args (h + 1))) (h + count args + 2) ≡ max e.room (max (top cell h) (max (top_args args (h + 1)) (h + count args + 2))) = omega arith in
    same _ _ _ _ _ _ _ _ _ _
    (append_assoc xs js us ∙ then_made e.instrs is e.constants (constants_of cell) (λ p k. instrs_of_all args d at.base at.start p k ++ us))
    (append_assoc spans (spans_of_all args) (copies 3 span) ∙ append_assoc e.spans (spans_of cell) (spans_of_all args ++ copies 3 span))
    (append_assoc e.constants (constants_of cell) (constants_in args)) l r

pub emits_send : (cell : Tree) (callee : Callee) (args : Trees) (m : Mark) (at : Around) (e : Emission) → with_instr (instr.Send callee (count args)) m.span (with_room 0 (emits_all args (above at) (emits cell at e))) ≡ emits (Send cell callee args m) at e
unfolding emits emits_all
emits_send cell callee args m at e =
    let d = at.depth in
    let h = at.height in
    let is = instrs_of cell d at.base at.start (length e.instrs) (length e.constants) in
    let xs = e.instrs ++ is in
    let js = instrs_of_all args d at.base at.start (length xs) (length (e.constants ++ constants_of cell)) in
    let last = instr.Send callee (count args) ∷ [] in
    let l : max (max e.locals (stored cell d)) (stored_in args d) ≡ max e.locals (max (stored cell d) (stored_in args d)) = omega arith in
    let r : max (max (max e.room (top cell h)) (top_args args (h + 1))) 0 ≡ max e.room (max (top cell h) (top_args args (h + 1))) = omega arith in
    same _ _ _ _ _ _ _ _ _ _
    (append_assoc xs js last ∙ then_made e.instrs is e.constants (constants_of cell) (λ p k. instrs_of_all args d at.base at.start p k ++ last))
    (append_assoc (e.spans ++ spans_of cell) (spans_of_all args) (m.span ∷ []) ∙ append_assoc e.spans (spans_of cell) (spans_of_all args ++ m.span ∷ []))
    (append_assoc e.constants (constants_of cell) (constants_in args)) l r

-- the test of a choice, and the jump past its first branch, as yet to nowhere
abbrev pub if_tested : Tree → Span → Around → Emission → Emission
if_tested c span at e = with_instr (instr.JumpFalse 0) span (emits c at e)

-- the first branch, and the jump past the second
abbrev pub if_first : Tree → Tree → Span → Around → Emission → Emission
if_first c a span at e = with_instr (instr.Jump 0) span (emits a at (if_tested c span at e))

-- the first jump leads to the second branch
abbrev pub if_else : Tree → Tree → Span → Around → Emission → Emission
if_else c a span at e =
    with_set (length (emits c at e).instrs) (instr.JumpFalse (length (if_first c a span at e).instrs)) (if_first c a span at e)

pub if_made : (c a b : Tree) (span : Span) (at : Around) (e : Emission) →
    with_set (length (emits a at (if_tested c span at e)).instrs) (instr.Jump (length (emits b at (if_else c a span at e)).instrs)) (emits b at (if_else c a span at e)) ≡ emits_if c a b span at e
unfolding emits emits_if chosen first_set second_set branched
if_made c a b span at e =
    let d = at.depth in
    let is = instrs_of c d at.base at.start (length e.instrs) (length e.constants) in
    let fa = λ (p : ℕ) (k : ℕ). instrs_of a d at.base at.start p k in
    let fb = λ (p : ℕ) (k : ℕ). instrs_of b d at.base at.start p k in
    let cc = constants_of c in
    let ca = constants_of a in
    let made = λ (n : ℕ) (m : ℕ). chosen e.instrs is (λ p. fa p n) (λ p. fb p m) (fa (length ((e.instrs ++ is) ++ instr.JumpFalse 0 ∷ [])) n) (first_set e.instrs is (λ p. fa p n) (λ p. fb p m) (fa (length ((e.instrs ++ is) ++ instr.JumpFalse 0 ∷ [])) n)) in
    let n : length (e.constants ++ cc) ≡ length e.constants + length cc = length-append e.constants cc in
    let m : length ((e.constants ++ cc) ++ ca) ≡ length e.constants + length cc + length ca = omega (arith, length-append (e.constants ++ cc) ca, n) in
    let l : max (max (max e.locals (stored c d)) (stored a d)) (stored b d) ≡ max e.locals (max (stored c d) (max (stored a d) (stored b d))) = omega arith in
    let r : max (max (max e.room (top c at.height)) (top a at.height)) (top b at.height) ≡ max e.room (max (top c at.height) (max (top a at.height) (top b at.height))) = omega arith in
    let spans : ((((e.spans ++ spans_of c) ++ span ∷ []) ++ spans_of a) ++ span ∷ []) ++ spans_of b ≡ e.spans ++ (spans_of c ++ span ∷ (spans_of a ++ span ∷ spans_of b)) =
    middle ((e.spans ++ spans_of c) ++ span ∷ []) (spans_of a) span (spans_of b) ∙ middle e.spans (spans_of c) span (spans_of a ++ span ∷ spans_of b) in
    same _ _ _ _ _ _ _ _ _ _
    (ap (λ x. made x (length ((e.constants ++ cc) ++ ca))) n ∙ ap (λ x. made (length e.constants + length cc) x) m
    ∙ choice_made e.instrs is (λ p. fa p (length e.constants + length cc)) (λ p. fb p (length e.constants + length cc + length ca)))
    spans
    (append_assoc (e.constants ++ cc) ca (constants_of b) ∙ append_assoc e.constants cc (ca ++ constants_of b)) l r

pub emits_all_none : (at : Around) (e : Emission) → emits_all none at e ≡ e
unfolding emits_all
emits_all_none at e = same _ _ _ _ _ _ _ _ _ _ (append-nil e.instrs) (append-nil e.spans) (append-nil e.constants) (max-zero e.locals) (max-zero e.room)

pub emits_all_more : (t : Tree) (ts : Trees) (d h base start : ℕ) (e : Emission) → emits_all (more t ts) (around d h base start) e ≡ emits_all ts (around d (h + 1) base start) (emits t (around d h base start) e)
unfolding emits emits_all
emits_all_more t ts d h base start e =
    let l : max e.locals (max (stored t d) (stored_in ts d)) ≡ max (max e.locals (stored t d)) (stored_in ts d) = omega arith in
    let r : max e.room (max (top t h) (top_args ts (h + 1))) ≡ max (max e.room (top t h)) (top_args ts (h + 1)) = omega arith in
    same _ _ _ _ _ _ _ _ _ _
    (sym (then_made e.instrs (instrs_of t d base start (length e.instrs) (length e.constants)) e.constants (constants_of t) (instrs_of_all ts d base start)))
    (sym (append_assoc e.spans (spans_of t) (spans_of_all ts))) (sym (append_assoc e.constants (constants_of t) (constants_in ts))) l r

pub emits_let_none : (span : Span) (at : Around) (e : Emission) → emits_let none span at e ≡ e
unfolding emits_let
emits_let_none span at e = same _ _ _ _ _ _ _ _ _ _ (append-nil e.instrs) (append-nil e.spans) (append-nil e.constants) (max-zero e.locals) (max-zero e.room)

pub emits_let_more : (t : Tree) (ts : Trees) (span : Span) (d h base start : ℕ) (e : Emission) → emits_let (more t ts) span (around d h base start) e ≡ emits_let ts span (around (d + 1) h base start) (with_instr (instr.Store d) span (with_locals (d + 1) (emits t (around d h base start) e)))
unfolding emits emits_let
emits_let_more t ts span d h base start e =
    let l : max e.locals (max (stored t d) (max (d + 1) (stored_let ts (d + 1)))) ≡ max (max (max e.locals (stored t d)) (d + 1)) (stored_let ts (d + 1)) = omega arith in
    let r : max e.room (max (top t h) (top_in ts h)) ≡ max (max e.room (top t h)) (top_in ts h) = omega arith in
    same _ _ _ _ _ _ _ _ _ _
    (sym (then_one_made e.instrs (instrs_of t d base start (length e.instrs) (length e.constants)) (instr.Store d) e.constants (constants_of t) (instrs_of_let ts (d + 1) base start)))
    (sym (middle e.spans (spans_of t) span (spans_of_let span ts))) (sym (append_assoc e.constants (constants_of t) (constants_in ts))) l r

pub emits_do_more : (t : Tree) (ts : Trees) (span : Span) (at : Around) (e : Emission) → emits_do (more t ts) span at e ≡ emits_do ts span at (with_pop (is_none ts) span (emits t at e))
unfolding emits emits_do
emits_do_more t none span at e =
    let l : max e.locals (max (stored t at.depth) 0) ≡ max (max e.locals (stored t at.depth)) 0 = omega arith in
    let r : max e.room (max (top t at.height) 0) ≡ max (max e.room (top t at.height)) 0 = omega arith in
    same _ _ _ _ _ _ _ _ _ _
    (sym (append-nil (e.instrs ++ instrs_of t at.depth at.base at.start (length e.instrs) (length e.constants)))) (sym (append-nil (e.spans ++ spans_of t))) (sym (append_assoc e.constants (constants_of t) [])) l r
emits_do_more t (more u ts) span at e =
    let l : max e.locals (max (stored t at.depth) (stored_in (more u ts) at.depth)) ≡ max (max e.locals (stored t at.depth)) (stored_in (more u ts) at.depth) = omega arith in
    let r : max e.room (max (top t at.height) (top_in (more u ts) at.height)) ≡ max (max e.room (top t at.height)) (top_in (more u ts) at.height) = omega arith in
    same _ _ _ _ _ _ _ _ _ _
    (sym (then_one_made e.instrs (instrs_of t at.depth at.base at.start (length e.instrs) (length e.constants)) instr.Pop e.constants (constants_of t) (instrs_of_do (more u ts) at.depth at.base at.start)))
    (sym (middle e.spans (spans_of t) span (spans_of_do span (more u ts)))) (sym (append_assoc e.constants (constants_of t) (constants_in (more u ts)))) l r

pub emits_do_none : (span : Span) (at : Around) (e : Emission) → emits_do none span at e ≡ e
unfolding emits_do
emits_do_none span at e = same _ _ _ _ _ _ _ _ _ _ (append-nil e.instrs) (append-nil e.spans) (append-nil e.constants) (max-zero e.locals) (max-zero e.room)

-- one store, and then those of the locals before it
pub stores_more : (i n : ℕ) (span : Span) (e : Emission) → with_stores i (suc n) span e ≡ with_stores i n span (with_instr (instr.Store (i + n)) span e)
stores_more i n span e =
    same _ _ _ _ _ _ _ _ _ _ (sym (append_assoc e.instrs (instr.Store (i + n) ∷ []) (stores_from i n))) (sym (append_assoc e.spans (span ∷ []) (copies n span))) refl refl refl

pub is_none_trees : (ns : List Node) (n : ℕ) → length ns ≡ n → is_none (trees_of ns) ≡ eqb n 0
is_none_trees [] n e = sym (eq-eqb n 0 (sym e))
is_none_trees (x ∷ ns) n e = sym (grind (arith, nat_tests))

-- what is left of a do: nothing after the last item
abbrev pub IsLeft : Place → ℕ → Option ℕ → Trees → Type 0
IsLeft p d tail none = Unit {0}
IsLeft p d tail (more t ts) = SoundDo p.known p.zone d tail (more t ts)

abbrev pub IsPlacedLeft : ℕ → ℕ → Trees → Type 0
IsPlacedLeft d base ts = (p : Place) × (tail : Option ℕ) × IsWithin base tail d × IsLeft p d tail ts

pub left_of : (p : Place) (d : ℕ) (tail : Option ℕ) (ts : Trees) → SoundDo p.known p.zone d tail ts → IsLeft p d tail ts
left_of p d tail none q = absurd q
left_of p d tail (more t ts) q = q

pub left_placed : (d base : ℕ) (ts : Trees) → IsPlacedDo d base ts → IsPlacedLeft d base ts
left_placed d base ts p = (p.0, p.1, p.2, left_of p.0 d p.1 ts p.3)

pub left_first : (p : Place) (d base : ℕ) (tail : Option ℕ) (t : Tree) (ts : Trees) → IsWithin base tail d → SoundDo p.known p.zone d tail (more t ts) → IsPlaced d base t
left_first p d base tail t none w q = (p, tail, w, q)
left_first p d base tail t (more u ts) w q = (p, None, tt, q.0)

pub left_rest : (p : Place) (d : ℕ) (tail : Option ℕ) (t : Tree) (ts : Trees) → SoundDo p.known p.zone d tail (more t ts) → IsLeft p d tail ts
left_rest p d tail t none q = tt
left_rest p d tail t (more u ts) q = q.1

pub within_more : (base : ℕ) (tail : Option ℕ) (d n : ℕ) → d + n ≤ 200 → IsWithin base tail d → IsWithin base tail (d + n)
within_more base None d n l w = tt
within_more base (Some m) d n l w = (omega (arith, w.0), l)

pub nodes_positive : (t : Tree) → 1 ≤ nodes t
nodes_positive (Const v m) = omega arith
nodes_positive (Local i m) = omega arith
nodes_positive (If c a b m) = omega arith
nodes_positive (Do items m) = omega arith
nodes_positive (Let values body m) = omega arith
nodes_positive (Loop values body m) = omega arith
nodes_positive (Recur values m) = omega arith
nodes_positive (Core op args m) = omega arith
nodes_positive (Call f args m) = omega arith
nodes_positive (VectorOf items m) = omega arith
nodes_positive (Println args m) = omega arith
nodes_positive (Dosync body m) = omega arith
nodes_positive (Look form cell m) = omega arith
nodes_positive (Put form cell value m) = omega arith
nodes_positive (Update form cell callee args m) = omega arith
nodes_positive (Send cell callee args m) = omega arith

mutual
  pub constants_nodes : (t : Tree) → length (constants_of t) ≤ nodes t
  constants_nodes (Const v m) = omega arith
  constants_nodes (Local i m) = omega arith
  constants_nodes (If c a b m) = omega (arith, length-append (constants_of c) (constants_of a ++ constants_of b), length-append (constants_of a) (constants_of b), constants_nodes c, constants_nodes a, constants_nodes b)
  constants_nodes (Do items m) = omega (arith, constants_nodes_in items)
  constants_nodes (Let values body m) = omega (arith, length-append (constants_in values) (constants_of body), constants_nodes_in values, constants_nodes body)
  constants_nodes (Loop values body m) = omega (arith, length-append (constants_in values) (constants_of body), constants_nodes_in values, constants_nodes body)
  constants_nodes (Recur values m) = omega (arith, constants_nodes_in values)
  constants_nodes (Core op args m) = omega (arith, constants_nodes_in args)
  constants_nodes (Call f args m) = omega (arith, constants_nodes_in args)
  constants_nodes (VectorOf items m) = omega (arith, constants_nodes_in items)
  constants_nodes (Println args m) = omega (arith, constants_nodes_in args)
  constants_nodes (Dosync body m) = omega (arith, constants_nodes body)
  constants_nodes (Look form cell m) = omega (arith, constants_nodes cell)
  constants_nodes (Put form cell value m) = omega (arith, length-append (constants_of cell) (constants_of value), constants_nodes cell, constants_nodes value)
  constants_nodes (Update form cell callee args m) = omega (arith, length-append (constants_of cell) (constants_in args), constants_nodes cell, constants_nodes_in args)
  constants_nodes (Send cell callee args m) = omega (arith, length-append (constants_of cell) (constants_in args), constants_nodes cell, constants_nodes_in args)

  pub constants_nodes_in : (ts : Trees) → length (constants_in ts) ≤ nodes_in ts
  constants_nodes_in none = omega arith
  constants_nodes_in (more t ts) = omega (arith, length-append (constants_of t) (constants_in ts), constants_nodes t, constants_nodes_in ts)

stores_length : (i n : ℕ) → length (stores_from i n) ≡ n
stores_length i zero = refl
stores_length i (suc n) = ap suc (stores_length i n)

pub callee_few : (p : Place) (c : Callee) (n : ℕ) → SoundCallee p.known c (suc n) → n < 65535
callee_few p (CoreOp op) n q = omega (arith, q.1)
callee_few p (Function f) n q = omega (arith, q.arity, (p.lawful f q.function q.found).0)

pub sent_few : (p : Place) (c : Callee) (n : ℕ) → SoundSent p.known c (suc n) → n < 65535
sent_few p (CoreOp op) n q = omega (arith, q.1)
sent_few p (Function f) n q = omega (arith, q.arity, (p.lawful f q.function q.found).0)

callee_length : (c : Callee) (n : ℕ) → length (callee_instrs c n) ≤ 1
callee_length (CoreOp op) n = omega arith
callee_length (Function f) n = omega arith

-- no more than three instructions come of a node
mutual
  pub instrs_nodes : (t : Tree) (d base start at k : ℕ) → length (instrs_of t d base start at k) + 1 ≤ 3 * nodes t
  instrs_nodes (Const v m) d base start at k = omega arith
  instrs_nodes (Local i m) d base start at k = omega arith
  instrs_nodes (If c a b m) d base start at k =
      let is = instrs_of c d base start at k in
      let kc = k + length (constants_of c) in
      let n1 = at + length is in
      let js = instrs_of a d base start (n1 + 1) kc in
      let n2 = n1 + 1 + length js + 1 in
      let ls = instrs_of b d base start n2 (kc + length (constants_of a)) in
      omega (
        arith,
        length-append is (instr.JumpFalse n2 ∷ (js ++ instr.Jump (n2 + length ls) ∷ ls)),
        length-append js (instr.Jump (n2 + length ls) ∷ ls),
        instrs_nodes c d base start at k,
        instrs_nodes a d base start (n1 + 1) kc,
        instrs_nodes b d base start n2 (kc + length (constants_of a)),
      )
  instrs_nodes (Do items m) d base start at k = omega (arith, instrs_nodes_do items d base start at k)
  instrs_nodes (Let values body m) d base start at k =
      let is = instrs_of_let values d base start at k in
      let kv = k + length (constants_in values) in
      omega (arith, length-append is (instrs_of body (d + count values) base start (at + length is) kv), instrs_nodes_let values d base start at k, instrs_nodes body (d + count values) base start (at + length is) kv)
  instrs_nodes (Loop values body m) d base start at k =
      let is = instrs_of_let values d base start at k in
      let kv = k + length (constants_in values) in
      omega (arith, length-append is (instrs_of body (d + count values) d (at + length is) (at + length is) kv), instrs_nodes_let values d base start at k, instrs_nodes body (d + count values) d (at + length is) (at + length is) kv)
  instrs_nodes (Recur values m) d base start at k =
      let js = stores_from base (count values) in
      omega (arith, length-append (instrs_of_all values d base start at k) (js ++ instr.Jump start ∷ []), length-append js (instr.Jump start ∷ []), stores_length base (count values), instrs_nodes_all values d base start at k)
  instrs_nodes (Core op args m) d base start at k = omega (arith, length-append (instrs_of_all args d base start at k) (instr.Core op (count args) ∷ []), instrs_nodes_all args d base start at k)
  instrs_nodes (Call f args m) d base start at k = omega (arith, length-append (instrs_of_all args d base start at k) (instr.Call f ∷ []), instrs_nodes_all args d base start at k)
  instrs_nodes (VectorOf items m) d base start at k = omega (arith, length-append (instrs_of_all items d base start at k) (instr.Vector (count items) ∷ []), instrs_nodes_all items d base start at k)
  instrs_nodes (Println args m) d base start at k = omega (arith, length-append (instrs_of_all args d base start at k) (instr.Print (count args) ∷ []), instrs_nodes_all args d base start at k)
  instrs_nodes (Dosync body m) d base start at k = omega (arith, length-append (instrs_of body d base start (at + 1) k) (instr.TxEnd ∷ []), instrs_nodes body d base start (at + 1) k)
  instrs_nodes (Look form cell m) d base start at k = omega (arith, length-append (instrs_of cell d base start at k) (instr.Look form ∷ []), instrs_nodes cell d base start at k)
  instrs_nodes (Put form cell value m) d base start at k =
      let is = instrs_of cell d base start at k in
      let kc = k + length (constants_of cell) in
      let js = instrs_of value d base start (at + length is) kc in
      omega (arith, length-append is (js ++ instr.Put form ∷ []), length-append js (instr.Put form ∷ []), instrs_nodes cell d base start at k, instrs_nodes value d base start (at + length is) kc)
  instrs_nodes (Update form cell callee args m) d base start at k =
      let is = instrs_of cell d base start at k in
      let kc = k + length (constants_of cell) in
      let js = instrs_of_all args d base start (at + length is) kc in
      let call = callee_instrs callee (suc (count args)) in
      let rest = update_instrs form callee (count args) in
      omega (
        arith,
        length-append is (js ++ rest),
        length-append js rest,
        length-append call (instr.Close form ∷ []),
        callee_length callee (suc (count args)),
        instrs_nodes cell d base start at k,
        instrs_nodes_all args d base start (at + length is) kc,
      )
  instrs_nodes (Send cell callee args m) d base start at k =
      let is = instrs_of cell d base start at k in
      let kc = k + length (constants_of cell) in
      let js = instrs_of_all args d base start (at + length is) kc in
      omega (arith, length-append is (js ++ instr.Send callee (count args) ∷ []), length-append js (instr.Send callee (count args) ∷ []), instrs_nodes cell d base start at k, instrs_nodes_all args d base start (at + length is) kc)

  instrs_nodes_all : (ts : Trees) (d base start at k : ℕ) → length (instrs_of_all ts d base start at k) + count ts ≤ 3 * nodes_in ts
  instrs_nodes_all none d base start at k = omega arith
  instrs_nodes_all (more t ts) d base start at k =
      let is = instrs_of t d base start at k in
      let kt = k + length (constants_of t) in
      omega (arith, length-append is (instrs_of_all ts d base start (at + length is) kt), instrs_nodes t d base start at k, instrs_nodes_all ts d base start (at + length is) kt)

  pub instrs_nodes_let : (ts : Trees) (d base start at k : ℕ) → length (instrs_of_let ts d base start at k) ≤ 3 * nodes_in ts
  instrs_nodes_let none d base start at k = omega arith
  instrs_nodes_let (more t ts) d base start at k =
      let is = instrs_of t d base start at k in
      let kt = k + length (constants_of t) in
      omega (arith, length-append is (instr.Store d ∷ instrs_of_let ts (d + 1) base start (at + length is + 1) kt), instrs_nodes t d base start at k, instrs_nodes_let ts (d + 1) base start (at + length is + 1) kt)

  instrs_nodes_do : (ts : Trees) (d base start at k : ℕ) → length (instrs_of_do ts d base start at k) ≤ 3 * nodes_in ts
  instrs_nodes_do none d base start at k = omega arith
  instrs_nodes_do (more t none) d base start at k = omega (arith, instrs_nodes t d base start at k)
  instrs_nodes_do (more t (more u ts)) d base start at k =
      let is = instrs_of t d base start at k in
      let kt = k + length (constants_of t) in
      omega (arith, length-append is (instr.Pop ∷ instrs_of_do (more u ts) d base start (at + length is + 1) kt), instrs_nodes t d base start at k, instrs_nodes_do (more u ts) d base start (at + length is + 1) kt)

-- no more constants come than there are nodes
pub emits_constants : (t : Tree) (at : Around) (e : Emission) → length (emits t at e).constants ≤ length e.constants + nodes t
unfolding emits
emits_constants t at e = omega (arith, length-append e.constants (constants_of t), constants_nodes t)

pub emits_let_constants : (ts : Trees) (span : Span) (at : Around) (e : Emission) → length (emits_let ts span at e).constants ≤ length e.constants + nodes_in ts
unfolding emits_let
emits_let_constants ts span at e = omega (arith, length-append e.constants (constants_in ts), constants_nodes_in ts)

pub emits_instrs : (t : Tree) (at : Around) (e : Emission) → length (emits t at e).instrs + 1 ≤ length e.instrs + 3 * nodes t
unfolding emits
emits_instrs t at e =
    omega (arith, length-append e.instrs (instrs_of t at.depth at.base at.start (length e.instrs) (length e.constants)), instrs_nodes t at.depth at.base at.start (length e.instrs) (length e.constants))

pub emits_grows : (t : Tree) (at : Around) (e : Emission) → length e.instrs ≤ length (emits t at e).instrs
unfolding emits
emits_grows t at e = omega (arith, length-append e.instrs (instrs_of t at.depth at.base at.start (length e.instrs) (length e.constants)))

pub emits_let_instrs : (ts : Trees) (span : Span) (at : Around) (e : Emission) → length (emits_let ts span at e).instrs ≤ length e.instrs + 3 * nodes_in ts
unfolding emits_let
emits_let_instrs ts span at e =
    omega (arith, length-append e.instrs (instrs_of_let ts at.depth at.base at.start (length e.instrs) (length e.constants)), instrs_nodes_let ts at.depth at.base at.start (length e.instrs) (length e.constants))

pub let_locals : (ts : Trees) (p : Place) (d : ℕ) → SoundLet p.known p.zone d ts → d + count ts ≤ 200
let_locals none p d q = omega (arith, q)
let_locals (more t ts) p d q = omega (arith, let_locals ts p (d + 1) q.1)

-- a step of a loop over nodes: what is left is the item and what is left after it
pub left_is : (ns : List Node) (i : ℕ) (n : Node) → i < length ns → n ≡ get_or ns i n → trees_of (drop i ns) ≡ more (tree_of n) (trees_of (drop (i + 1) ns))
left_is ns i n l e =
    let f : suc i ≡ i + 1 = omega arith in
    ap trees_of (drop-cons ns i n l) ∙ ap (λ x. more (tree_of x) (trees_of (drop (suc i) ns))) (sym e) ∙ ap (λ k. more (tree_of n) (trees_of (drop k ns))) f

pub nothing_left : (ns : List Node) (i : ℕ) → length ns ≤ i → trees_of (drop i ns) ≡ none
nothing_left ns i l = ap trees_of (drop_all i ns l)

pub pop_constants : (b : Bool) (span : Span) (e : Emission) → (with_pop b span e).constants ≡ e.constants
pop_constants true span e = refl
pop_constants false span e = refl

pub put_instrs : (i : Instr) (span : Span) (e : Emission) → length (with_instr i span e).instrs ≡ length e.instrs + 1
put_instrs i span e = omega (arith, length-append e.instrs (i ∷ []))

set_length : (is : List Instr) (n : ℕ) (i : Instr) → length (slice_set is n i) ≡ length is
set_length [] n i = refl
set_length (j ∷ is) zero i = refl
set_length (j ∷ is) (suc n) i = ap suc (set_length is n i)

pub set_instrs : (n : ℕ) (i : Instr) (e : Emission) → length (with_set n i e).instrs ≡ length e.instrs
set_instrs n i e = set_length e.instrs n i

pub pop_instrs : (b : Bool) (span : Span) (e : Emission) → length (with_pop b span e).instrs ≤ length e.instrs + 1
pop_instrs true span e = omega arith
pop_instrs false span e = omega (arith, length-append e.instrs (instr.Pop ∷ []))

-- no more nodes are left than there are
pub nodes_left : (ns : List Node) (i : ℕ) → nodes_in (trees_of (drop i ns)) ≤ nodes_in (trees_of ns)
nodes_left ns zero = omega arith
nodes_left [] (suc i) = omega arith
nodes_left (n ∷ ns) (suc i) = omega (arith, nodes_left ns i)
