-- A folded program is sound where the program is.
use Rattle.std.proofs.Common.{◌≡◌, ℕ, suc, ◌+◌, ◌≤◌, Bool, true, false, ◌||◌, ◌&&◌, List, [], ◌∷◌, ◌++◌, length, Option, Some, None, Result, Ok, Err, refl, sym, ap, ◌∙◌, subst, arith}
use Rattle.txs_value_apply.specs.Core.{core, takes, vector_of}
use Rattle.txs_value_apply.specs.Truth.{choose}
use Rattle.txs_value_data.specs.Places.{nth}
use Rattle.txs_value_data.specs.declared.fault.FaultKind.{FaultKind}
use Rattle.txs_value_data.specs.declared.op.Op.{Op}
use Rattle.txs_value_data.specs.declared.op.Callee.{Callee}
use Rattle.txs_value_cell.specs.declared.cell.CellDefinition.{CellDefinition}
use Rattle.txs_value_data.specs.declared.op.Callee.TheVariants.{Core as CoreOp, Function}
use Rattle.txs_value_data.specs.declared.value.Value.{Value}
use Rattle.txs_value_data.specs.declared.value.Value.TheVariants.{Nil, Truth, Int, Key, Text, Vector, Cell}
use Rattle.txs_tree_meaning.proofs.Callable.{both}
use Rattle.txs_tree_meaning.specs.Known.{Known, inside_in, outside_in, pure_in, levels, known_of, known_from, known}
use Rattle.txs_tree_meaning.specs.Sound.{SoundValidator, SoundCells, Sound, Zone, in_function, in_thread, in_dosync, MayCall, SoundCall, PureCall, SoundCallee, SoundSent, SoundTree, SoundAll, SoundLet, SoundDo, SoundFunctions, SoundThreads, nodes, nodes_in, nodes_of_functions, nodes_of_all}
use Rattle.txs_tree_meaning.specs.Tree.{Mark, Tree, Const, Local, If, Do, Let, Loop, Recur, Core, Call, VectorOf, Println, Dosync, Look, Put, Update, Send, Trees, none, more, count, PlainFunction, PlainThread, PlainProgram}
use Rattle.txs_opt.specs.Fold.{value_of, constants, settled, settled_on, settled_core, settled_vector, chosen, before, seen_items, whole, folded, folded_all, folded_function, folded_functions, folded_threads, folded_program}
use Rattle.txs_opt.proofs.FoldedProgram.{length_folded}
use Rattle.txs_opt.proofs.Folding.{count_folded}
use Rattle.txs_opt.proofs.Keeping.{neither, Eases, EasesAt, AllEase, eases_at, callee_at, all_ease_push, Kept, AllKept, none_kept, more_kept, less_kept, const_kept, local_kept, if_kept, do_kept, recur_kept, core_kept, vector_kept, println_kept, dosync_kept, call_kept, let_kept, loop_kept, look_kept, put_kept, update_kept, send_kept}
use Rattle.txs_opt.proofs.ScopedOf.{scoped_of}

-- ---- calls

module _ (ks ls : List Known) (all : AllEase ks ls) where
  may_call : (zone : Zone) (k l : Known) → Eases k l → MayCall zone k → MayCall zone l
  may_call in_function k l e h = tt
  may_call in_thread k l e h = e.inside h
  may_call in_dosync k l e h = e.outside h

  pub call_sound : (zone : Zone) (f n : ℕ) → SoundCall ks zone f n → SoundCall ls zone f n
  call_sound zone f n h = go (nth ls f) refl
    where
      go : (o : Option Known) → nth ls f ≡ o → SoundCall ls zone f n
      go None is = absurd (subst (λ p. EasesAt p None) h.found (subst (λ p. EasesAt (nth ks f) p) is (eases_at ks ls all f)))
      go (Some l) is =
          let e : Eases h.function l = subst (λ p. EasesAt p (Some l)) h.found (subst (λ p. EasesAt (nth ks f) p) is (eases_at ks ls all f)) in
          record { function = l; found = is; arity = e.parameters ∙ h.arity; zoned = may_call zone h.function l e h.zoned }

  pub pure_call_sound : (f n : ℕ) → PureCall ks f n → PureCall ls f n
  pure_call_sound f n h = go (nth ls f) refl
    where
      go : (o : Option Known) → nth ls f ≡ o → PureCall ls f n
      go None is = absurd (subst (λ p. EasesAt p None) h.found (subst (λ p. EasesAt (nth ks f) p) is (eases_at ks ls all f)))
      go (Some l) is =
          let e : Eases h.function l = subst (λ p. EasesAt p (Some l)) h.found (subst (λ p. EasesAt (nth ks f) p) is (eases_at ks ls all f)) in
          record { function = l; found = is; arity = e.parameters ∙ h.arity; pure = e.pure h.pure }

  pub callee_sound : (c : Callee) (n : ℕ) → SoundCallee ks c n → SoundCallee ls c n
  callee_sound (CoreOp op) n h = h
  callee_sound (Function f) n h = pure_call_sound f n h

  -- what may be sent
  pub sent_sound : (c : Callee) (n : ℕ) → SoundSent ks c n → SoundSent ls c n
  sent_sound (CoreOp op) n h = h
  sent_sound (Function f) n h =
      let there = call_sound in_thread f n (record { function = h.function; found = h.found; arity = h.arity; zoned = h.zoned }) in
      record { function = there.function; found = there.found; arity = there.arity; zoned = there.zoned }

  -- ---- what is known of a folded body

  first_kept : (c a b a1 : Tree) (m : Mark) → Kept ks ls a a1 → Kept ks ls (If c a b m) a1
  first_kept c a b a1 m y = record {
    inside = λ h. let p = neither (inside_in ks c) (inside_in ks a || inside_in ks b) h in let q = neither (inside_in ks a) (inside_in ks b) p.1 in y.inside q.0;
    outside = λ h. let p = neither (outside_in ks c) (outside_in ks a || outside_in ks b) h in let q = neither (outside_in ks a) (outside_in ks b) p.1 in y.outside q.0;
    pure = λ h. let p = both (pure_in ks c) (pure_in ks a && pure_in ks b) h in let q = both (pure_in ks a) (pure_in ks b) p.1 in y.pure q.0;
    deep = omega (arith, y.deep);
  }

  second_kept : (c a b b1 : Tree) (m : Mark) → Kept ks ls b b1 → Kept ks ls (If c a b m) b1
  second_kept c a b b1 m z = record {
    inside = λ h. let p = neither (inside_in ks c) (inside_in ks a || inside_in ks b) h in let q = neither (inside_in ks a) (inside_in ks b) p.1 in z.inside q.1;
    outside = λ h. let p = neither (outside_in ks c) (outside_in ks a || outside_in ks b) h in let q = neither (outside_in ks a) (outside_in ks b) p.1 in z.outside q.1;
    pure = λ h. let p = both (pure_in ks c) (pure_in ks a && pure_in ks b) h in let q = both (pure_in ks a) (pure_in ks b) p.1 in z.pure q.1;
    deep = omega (arith, z.deep);
  }

  branch_kept : (v : Value) (c a b a1 b1 : Tree) (m : Mark) → Kept ks ls a a1 → Kept ks ls b b1 → Kept ks ls (If c a b m) (choose v a1 b1)
  branch_kept Nil c a b a1 b1 m y z = second_kept c a b b1 m z
  branch_kept (Truth true) c a b a1 b1 m y z = first_kept c a b a1 m y
  branch_kept (Truth false) c a b a1 b1 m y z = second_kept c a b b1 m z
  branch_kept (Int n) c a b a1 b1 m y z = first_kept c a b a1 m y
  branch_kept (Key bs) c a b a1 b1 m y z = first_kept c a b a1 m y
  branch_kept (Text bs) c a b a1 b1 m y z = first_kept c a b a1 m y
  branch_kept (Vector vs) c a b a1 b1 m y z = first_kept c a b a1 m y
  branch_kept (Cell x) c a b a1 b1 m y z = first_kept c a b a1 m y

  chosen_kept : (o : Option Value) (c a b c1 a1 b1 : Tree) (m : Mark) → Kept ks ls c c1 → Kept ks ls a a1 → Kept ks ls b b1 → Kept ks ls (If c a b m) (chosen o c1 a1 b1 m)
  chosen_kept None c a b c1 a1 b1 m x y z = if_kept ks ls m m c a b c1 a1 b1 x y z
  chosen_kept (Some v) c a b c1 a1 b1 m x y z = branch_kept v c a b a1 b1 m y z

  settled_kept : (e e1 : Tree) (m : Mark) (r : Result Value FaultKind) → Kept ks ls e e1 → 1 ≤ levels ks e → Kept ks ls e (settled r m e1)
  settled_kept e e1 m (Ok v) a deep = record { inside = λ h. refl; outside = λ h. refl; pure = λ h. refl; deep = deep }
  settled_kept e e1 m (Err k) a deep = a

  settled_on_kept : (b : Bool) (vs : List Value) (op : Op) (es es1 : Trees) (m : Mark) → AllKept ks ls es es1 → Kept ks ls (Core op es m) (settled_on b vs op es1 m)
  settled_on_kept false vs op es es1 m a = core_kept ks ls m m op es es1 a
  settled_on_kept true vs op es es1 m a = settled_kept (Core op es m) (Core op es1 m) m (core op vs) (core_kept ks ls m m op es es1 a) (omega arith)

  settled_core_kept : (o : Option (List Value)) (op : Op) (es es1 : Trees) (m : Mark) → AllKept ks ls es es1 → Kept ks ls (Core op es m) (settled_core o op es1 m)
  settled_core_kept None op es es1 m a = core_kept ks ls m m op es es1 a
  settled_core_kept (Some vs) op es es1 m a = settled_on_kept (takes op (length vs)) vs op es es1 m a

  settled_vector_kept : (o : Option (List Value)) (es es1 : Trees) (m : Mark) → AllKept ks ls es es1 → Kept ks ls (VectorOf es m) (settled_vector o es1 m)
  settled_vector_kept None es es1 m a = vector_kept ks ls m m es es1 a
  settled_vector_kept (Some vs) es es1 m a = settled_kept (VectorOf es m) (VectorOf es1 m) m (vector_of vs) (vector_kept ks ls m m es es1 a) (omega arith)

  before_kept : (o : Option Value) (e e1 : Tree) (es es1 : Trees) → Kept ks ls e e1 → AllKept ks ls es es1 → AllKept ks ls (more e es) (before o e1 es1)
  before_kept None e e1 es es1 a b = more_kept ks ls e e1 es es1 a b
  before_kept (Some v) e e1 es es1 a b = less_kept ks ls e es es1 b

  whole_kept : (es es1 : Trees) (m : Mark) → AllKept ks ls es es1 → Kept ks ls (Do es m) (whole es1 m)
  whole_kept es none m a = do_kept ks ls m m es none a
  whole_kept es (more e none) m a = record {
    inside = λ h. (neither (inside_in ls e) false (a.inside h)).0;
    outside = λ h. (neither (outside_in ls e) false (a.outside h)).0;
    pure = λ h. (both (pure_in ls e) true (a.pure h)).0;
    deep = omega (arith, a.deep);
  }
  whole_kept es (more e (more f rest)) m a = do_kept ks ls m m es (more e (more f rest)) a

  mutual
    pub folded_kept : (e : Tree) → Kept ks ls e (folded e)
    folded_kept (Const v m) = const_kept ks ls m m v
    folded_kept (Local i m) = local_kept ks ls m m i i
    folded_kept (If c a b m) = chosen_kept (value_of (folded c)) c a b (folded c) (folded a) (folded b) m (folded_kept c) (folded_kept a) (folded_kept b)
    folded_kept (Do items m) = whole_kept items (seen_items (folded_all items)) m (seen_kept items)
    folded_kept (Let values body m) = let_kept ks ls m m values (folded_all values) body (folded body) (all_folded_kept values) (folded_kept body)
    folded_kept (Loop values body m) = loop_kept ks ls m m values (folded_all values) body (folded body) (all_folded_kept values) (folded_kept body)
    folded_kept (Recur es m) = recur_kept ks ls m m es (folded_all es) (all_folded_kept es)
    folded_kept (Core op es m) = settled_core_kept (constants (folded_all es)) op es (folded_all es) m (all_folded_kept es)
    folded_kept (Call f es m) = call_kept ks ls m m f es (folded_all es) (eases_at ks ls all f) (all_folded_kept es)
    folded_kept (VectorOf es m) = settled_vector_kept (constants (folded_all es)) es (folded_all es) m (all_folded_kept es)
    folded_kept (Println es m) = println_kept ks ls m m es (folded_all es) (all_folded_kept es)
    folded_kept (Dosync body m) = dosync_kept ks ls m m body (folded body) (folded_kept body)
    folded_kept (Look form cell m) = look_kept ks ls m m form cell (folded cell) (folded_kept cell)
    folded_kept (Put form cell value m) = put_kept ks ls m m form cell value (folded cell) (folded value) (folded_kept cell) (folded_kept value)
    folded_kept (Update form cell callee es m) = update_kept ks ls m m form cell (folded cell) callee es (folded_all es) (callee_at ks ls (eases_at ks ls all) callee) (folded_kept cell) (all_folded_kept es)
    folded_kept (Send cell callee es m) = send_kept ks ls m m cell (folded cell) callee es (folded_all es) (callee_at ks ls (eases_at ks ls all) callee) (folded_kept cell) (all_folded_kept es)

    all_folded_kept : (es : Trees) → AllKept ks ls es (folded_all es)
    all_folded_kept none = none_kept ks ls
    all_folded_kept (more e es) = more_kept ks ls e (folded e) es (folded_all es) (folded_kept e) (all_folded_kept es)

    seen_kept : (es : Trees) → AllKept ks ls es (seen_items (folded_all es))
    seen_kept none = none_kept ks ls
    seen_kept (more e none) = more_kept ks ls e (folded e) none none (folded_kept e) (none_kept ks ls)
    seen_kept (more e (more f es)) = before_kept (value_of (folded e)) e (folded e) (more f es) (seen_items (folded_all (more f es))) (folded_kept e) (seen_kept (more f es))

  -- ---- soundness

  branch_sound : (zone : Zone) (d : ℕ) (tail : Option ℕ) (v : Value) (a b : Tree) → SoundTree ls zone d tail a → SoundTree ls zone d tail b → SoundTree ls zone d tail (choose v a b)
  branch_sound zone d tail Nil a b y z = z
  branch_sound zone d tail (Truth true) a b y z = y
  branch_sound zone d tail (Truth false) a b y z = z
  branch_sound zone d tail (Int n) a b y z = y
  branch_sound zone d tail (Key bs) a b y z = y
  branch_sound zone d tail (Text bs) a b y z = y
  branch_sound zone d tail (Vector vs) a b y z = y
  branch_sound zone d tail (Cell x) a b y z = y

  chosen_sound : (zone : Zone) (d : ℕ) (tail : Option ℕ) (o : Option Value) (c a b : Tree) (m : Mark) → SoundTree ls zone d None c → SoundTree ls zone d tail a → SoundTree ls zone d tail b → SoundTree ls zone d tail (chosen o c a b m)
  chosen_sound zone d tail None c a b m x y z = (x, y, z)
  chosen_sound zone d tail (Some v) c a b m x y z = branch_sound zone d tail v a b y z

  settled_sound : (zone : Zone) (d : ℕ) (tail : Option ℕ) (r : Result Value FaultKind) (m : Mark) (e : Tree) → SoundTree ls zone d tail e → SoundTree ls zone d tail (settled r m e)
  settled_sound zone d tail (Ok v) m e h = tt
  settled_sound zone d tail (Err k) m e h = h

  settled_on_sound : (zone : Zone) (d : ℕ) (tail : Option ℕ) (b : Bool) (vs : List Value) (op : Op) (es : Trees) (m : Mark) → SoundTree ls zone d tail (Core op es m) → SoundTree ls zone d tail (settled_on b vs op es m)
  settled_on_sound zone d tail false vs op es m h = h
  settled_on_sound zone d tail true vs op es m h = settled_sound zone d tail (core op vs) m (Core op es m) h

  settled_core_sound : (zone : Zone) (d : ℕ) (tail : Option ℕ) (o : Option (List Value)) (op : Op) (es : Trees) (m : Mark) → SoundTree ls zone d tail (Core op es m) → SoundTree ls zone d tail (settled_core o op es m)
  settled_core_sound zone d tail None op es m h = h
  settled_core_sound zone d tail (Some vs) op es m h = settled_on_sound zone d tail (takes op (length vs)) vs op es m h

  settled_vector_sound : (zone : Zone) (d : ℕ) (tail : Option ℕ) (o : Option (List Value)) (es : Trees) (m : Mark) → SoundTree ls zone d tail (VectorOf es m) → SoundTree ls zone d tail (settled_vector o es m)
  settled_vector_sound zone d tail None es m h = h
  settled_vector_sound zone d tail (Some vs) es m h = settled_sound zone d tail (vector_of vs) m (VectorOf es m) h

  do_front : (zone : Zone) (d : ℕ) (tail : Option ℕ) (e : Tree) (es : Trees) → SoundTree ls zone d None e → SoundDo ls zone d tail es → SoundDo ls zone d tail (more e es)
  do_front zone d tail e none h hs = absurd hs
  do_front zone d tail e (more f es) h hs = (h, hs)

  before_sound : (zone : Zone) (d : ℕ) (tail : Option ℕ) (o : Option Value) (e : Tree) (es : Trees) → SoundTree ls zone d None e → SoundDo ls zone d tail es → SoundDo ls zone d tail (before o e es)
  before_sound zone d tail None e es h hs = do_front zone d tail e es h hs
  before_sound zone d tail (Some v) e es h hs = hs

  whole_sound : (zone : Zone) (d : ℕ) (tail : Option ℕ) (es : Trees) (m : Mark) → SoundDo ls zone d tail es → SoundTree ls zone d tail (whole es m)
  whole_sound zone d tail none m h = h
  whole_sound zone d tail (more e none) m h = h
  whole_sound zone d tail (more e (more f es)) m h = h

  mutual
    pub folded_sound : (e : Tree) (zone : Zone) (d : ℕ) (tail : Option ℕ) → SoundTree ks zone d tail e → SoundTree ls zone d tail (folded e)
    folded_sound (Const v m) zone d tail h = h
    folded_sound (Local i m) zone d tail h = h
    folded_sound (If c a b m) zone d tail h = chosen_sound zone d tail (value_of (folded c)) (folded c) (folded a) (folded b) m (folded_sound c zone d None h.0) (folded_sound a zone d tail h.1) (folded_sound b zone d tail h.2)
    folded_sound (Do items m) zone d tail h = whole_sound zone d tail (seen_items (folded_all items)) m (do_sound items zone d tail h)
    folded_sound (Let values body m) zone d tail h =
        (let_sound values zone d h.0, subst (λ n. SoundTree ls zone (d + n) tail (folded body)) (sym (count_folded values)) (folded_sound body zone (d + count values) tail h.1))
    folded_sound (Loop values body m) zone d tail h =
        (let_sound values zone d h.0, subst (λ n. SoundTree ls zone (d + n) (Some n) (folded body)) (sym (count_folded values)) (folded_sound body zone (d + count values) (Some (count values)) h.1))
    folded_sound (Recur es m) zone d tail h = (h.0 ∙ ap Some (sym (count_folded es)), all_sound es zone d h.1)
    folded_sound (Core op es m) zone d tail h =
        settled_core_sound zone d tail (constants (folded_all es)) op (folded_all es) m ((subst (λ n. takes op n ≡ true) (sym (count_folded es)) h.0.0, omega (arith, h.0.1, count_folded es)), all_sound es zone d h.1)
    folded_sound (Call f es m) zone d tail h = (subst (λ n. SoundCall ls zone f n) (sym (count_folded es)) (call_sound zone f (count es) h.0), all_sound es zone d h.1)
    folded_sound (VectorOf es m) zone d tail h = settled_vector_sound zone d tail (constants (folded_all es)) (folded_all es) m (omega (arith, h.0, count_folded es), all_sound es zone d h.1)
    folded_sound (Println es m) zone d tail h = (h.0, omega (arith, h.1, count_folded es), all_sound es zone d h.2)
    folded_sound (Dosync body m) zone d tail h = folded_sound body in_dosync d None h
    folded_sound (Look form cell m) zone d tail h = (h.0, folded_sound cell zone d None h.1)
    folded_sound (Put form cell value m) zone d tail h = (h.0, folded_sound cell zone d None h.1, folded_sound value zone d None h.2)
    folded_sound (Update form cell callee es m) zone d tail h =
        (h.0, folded_sound cell zone d None h.1, subst (λ n. SoundCallee ls callee (suc n)) (sym (count_folded es)) (callee_sound callee (suc (count es)) h.2), all_sound es zone d h.3)
    folded_sound (Send cell callee es m) zone d tail h =
        (folded_sound cell zone d None h.0, subst (λ n. SoundSent ls callee (suc n)) (sym (count_folded es)) (sent_sound callee (suc (count es)) h.1), all_sound es zone d h.2)

    all_sound : (es : Trees) (zone : Zone) (d : ℕ) → SoundAll ks zone d es → SoundAll ls zone d (folded_all es)
    all_sound none zone d h = tt
    all_sound (more e es) zone d h = (folded_sound e zone d None h.0, all_sound es zone d h.1)

    let_sound : (es : Trees) (zone : Zone) (d : ℕ) → SoundLet ks zone d es → SoundLet ls zone d (folded_all es)
    let_sound none zone d h = h
    let_sound (more e es) zone d h = (folded_sound e zone d None h.0, let_sound es zone (d + 1) h.1)

    do_sound : (es : Trees) (zone : Zone) (d : ℕ) (tail : Option ℕ) → SoundDo ks zone d tail es → SoundDo ls zone d tail (seen_items (folded_all es))
    do_sound none zone d tail h = h
    do_sound (more e none) zone d tail h = folded_sound e zone d tail h
    do_sound (more e (more f es)) zone d tail h = before_sound zone d tail (value_of (folded e)) (folded e) (seen_items (folded_all (more f es))) (folded_sound e zone d None h.0) (do_sound (more f es) zone d tail h.1)

-- ---- nodes

branch_nodes : (v : Value) (a b : Tree) → nodes (choose v a b) ≤ nodes a + nodes b
branch_nodes Nil a b = omega arith
branch_nodes (Truth true) a b = omega arith
branch_nodes (Truth false) a b = omega arith
branch_nodes (Int n) a b = omega arith
branch_nodes (Key bs) a b = omega arith
branch_nodes (Text bs) a b = omega arith
branch_nodes (Vector vs) a b = omega arith
branch_nodes (Cell x) a b = omega arith

chosen_nodes : (o : Option Value) (c a b : Tree) (m : Mark) → nodes (chosen o c a b m) ≤ suc (nodes c + (nodes a + nodes b))
chosen_nodes None c a b m = omega arith
chosen_nodes (Some v) c a b m = omega (arith, branch_nodes v a b)

settled_nodes : (r : Result Value FaultKind) (m : Mark) (e : Tree) → 1 ≤ nodes e → nodes (settled r m e) ≤ nodes e
settled_nodes (Ok v) m e h = h
settled_nodes (Err k) m e h = omega arith

settled_on_nodes : (b : Bool) (vs : List Value) (op : Op) (es : Trees) (m : Mark) → nodes (settled_on b vs op es m) ≤ suc (nodes_in es)
settled_on_nodes false vs op es m = omega arith
settled_on_nodes true vs op es m = settled_nodes (core op vs) m (Core op es m) (omega arith)

settled_core_nodes : (o : Option (List Value)) (op : Op) (es : Trees) (m : Mark) → nodes (settled_core o op es m) ≤ suc (nodes_in es)
settled_core_nodes None op es m = omega arith
settled_core_nodes (Some vs) op es m = settled_on_nodes (takes op (length vs)) vs op es m

settled_vector_nodes : (o : Option (List Value)) (es : Trees) (m : Mark) → nodes (settled_vector o es m) ≤ suc (nodes_in es)
settled_vector_nodes None es m = omega arith
settled_vector_nodes (Some vs) es m = settled_nodes (vector_of vs) m (VectorOf es m) (omega arith)

before_nodes : (o : Option Value) (e : Tree) (es : Trees) → nodes_in (before o e es) ≤ nodes e + nodes_in es
before_nodes None e es = omega arith
before_nodes (Some v) e es = omega arith

whole_nodes : (es : Trees) (m : Mark) → nodes (whole es m) ≤ suc (nodes_in es)
whole_nodes none m = omega arith
whole_nodes (more e none) m = omega arith
whole_nodes (more e (more f es)) m = omega arith

mutual
  pub folded_nodes : (e : Tree) → nodes (folded e) ≤ nodes e
  folded_nodes (Const v m) = omega arith
  folded_nodes (Local i m) = omega arith
  folded_nodes (If c a b m) = omega (arith, chosen_nodes (value_of (folded c)) (folded c) (folded a) (folded b) m, folded_nodes c, folded_nodes a, folded_nodes b)
  folded_nodes (Do es m) = omega (arith, whole_nodes (seen_items (folded_all es)) m, seen_nodes es)
  folded_nodes (Let es body m) = omega (arith, all_folded_nodes es, folded_nodes body)
  folded_nodes (Loop es body m) = omega (arith, all_folded_nodes es, folded_nodes body)
  folded_nodes (Recur es m) = omega (arith, all_folded_nodes es)
  folded_nodes (Core op es m) = omega (arith, settled_core_nodes (constants (folded_all es)) op (folded_all es) m, all_folded_nodes es)
  folded_nodes (Call f es m) = omega (arith, all_folded_nodes es)
  folded_nodes (VectorOf es m) = omega (arith, settled_vector_nodes (constants (folded_all es)) (folded_all es) m, all_folded_nodes es)
  folded_nodes (Println es m) = omega (arith, all_folded_nodes es)
  folded_nodes (Dosync body m) = omega (arith, folded_nodes body)
  folded_nodes (Look form cell m) = omega (arith, folded_nodes cell)
  folded_nodes (Put form cell value m) = omega (arith, folded_nodes cell, folded_nodes value)
  folded_nodes (Update form cell callee es m) = omega (arith, folded_nodes cell, all_folded_nodes es)
  folded_nodes (Send cell callee es m) = omega (arith, folded_nodes cell, all_folded_nodes es)

  all_folded_nodes : (es : Trees) → nodes_in (folded_all es) ≤ nodes_in es
  all_folded_nodes none = omega arith
  all_folded_nodes (more e es) = omega (arith, folded_nodes e, all_folded_nodes es)

  seen_nodes : (es : Trees) → nodes_in (seen_items (folded_all es)) ≤ nodes_in es
  seen_nodes none = omega arith
  seen_nodes (more e none) = omega (arith, folded_nodes e)
  seen_nodes (more e (more f es)) = omega (arith, before_nodes (value_of (folded e)) (folded e) (seen_items (folded_all (more f es))), folded_nodes e, seen_nodes (more f es))

functions_nodes : (fs : List PlainFunction) → nodes_of_functions (folded_functions fs) ≤ nodes_of_functions fs
functions_nodes [] = omega arith
functions_nodes (f ∷ fs) = omega (arith, folded_nodes f.body, functions_nodes fs)

threads_nodes : (ts : List PlainThread) → nodes_of_all (folded_threads ts) ≤ nodes_of_all ts
threads_nodes [] = omega arith
threads_nodes (t ∷ ts) = omega (arith, folded_nodes t.body, threads_nodes ts)

-- ---- the program

function_eases : (ks ls : List Known) (all : AllEase ks ls) (f : PlainFunction) → Eases (known_of ks f) (known_of ls (folded_function f))
function_eases ks ls all f =
    let h = folded_kept ks ls all f.body in
    record { parameters = refl; inside = h.inside; outside = h.outside; pure = h.pure; levels = h.deep }

pub functions_sound : (fs : List PlainFunction) (ks ls : List Known) → AllEase ks ls → SoundFunctions ks fs → SoundFunctions ls (folded_functions fs) × AllEase (known_from ks fs) (known_from ls (folded_functions fs))
functions_sound [] ks ls all h = (tt, all)
functions_sound (f ∷ fs) ks ls all h =
    let rest = functions_sound fs (ks ++ known_of ks f ∷ []) (ls ++ known_of ls (folded_function f) ∷ []) (all_ease_push ks ls (known_of ks f) (known_of ls (folded_function f)) all (function_eases ks ls all f)) h.1 in
    (((h.0.0, folded_sound ks ls all f.body in_function f.parameters (Some f.parameters) h.0.1, omega (arith, h.0.2, (folded_kept ks ls all f.body).deep)), rest.0), rest.1)

threads_sound : (ts : List PlainThread) (ks ls : List Known) → AllEase ks ls → SoundThreads ks ts → SoundThreads ls (folded_threads ts)
threads_sound [] ks ls all h = tt
threads_sound (t ∷ ts) ks ls all h = ((folded_sound ks ls all t.body in_thread 0 None h.0.0, omega (arith, h.0.1, (folded_kept ks ls all t.body).deep)), threads_sound ts ks ls all h.1)

-- validators that are sound stay so
pub cells_sound : (ds : List CellDefinition) (ks ls : List Known) → AllEase ks ls → SoundCells ks ds → SoundCells ls ds
cells_sound [] ks ls all h = tt
cells_sound (d ∷ ds) ks ls all h = (one d.validator h.0, cells_sound ds ks ls all h.1)
  where
    one : (o : Option Callee) → SoundValidator ks o → SoundValidator ls o
    one None g = tt
    one (Some c) g = callee_sound ks ls all c 1 g

length_threads : (ts : List PlainThread) → length (folded_threads ts) ≡ length ts
length_threads [] = refl
length_threads (t ∷ ts) = ap suc (length_threads ts)

pub folded_program_sound : (p : PlainProgram) → Sound p → Sound (folded_program p)
folded_program_sound p h =
    let fs = functions_sound p.functions [] [] tt h.functions in
    let ts = threads_sound p.threads (known p.functions) (known (folded_functions p.functions)) fs.1 h.threads in
    let cs = cells_sound p.cells (known p.functions) (known (folded_functions p.functions)) fs.1 h.cells in
    record {
      scoped = scoped_of (folded_program p) fs.0 ts cs h.scoped.placed h.scoped.few_cells (omega (arith, h.scoped.few_functions, length_folded p.functions)) (omega (arith, h.scoped.few_threads, length_threads p.threads));
      functions = fs.0;
      cells = cs;
      threads = ts;
      few_nodes = omega (arith, h.few_nodes, functions_nodes p.functions, threads_nodes p.threads);
    }
