-- A tree that is shifted is as sound as it was where the limit on locals still holds, and no worse.
use Rattle.std.proofs.Common.{◌≡◌, ℕ, suc, max, ◌+◌, ◌<◌, ◌≤◌, nat_lt, Bool, true, false, if◌then◌else◌, List, Option, Some, None, refl, sym, ap, ◌∙◌, subst, arith}
use Rattle.std.proofs.lemmas.Bool.{false≢true}
use Rattle.txs_value_apply.specs.Core.{takes}
use Rattle.txs_value_data.specs.Places.{nth}
use Rattle.txs_value_data.specs.Limits.{most_locals}
use Rattle.txs_value_data.specs.declared.op.Callee.{Callee}
use Rattle.txs_value_data.specs.declared.op.Callee.TheVariants.{Core as CoreOp, Function}
use Rattle.txs_tree_meaning.specs.Known.{Known, callee_levels, levels_of}
use Rattle.txs_tree_meaning.specs.Sound.{Zone, in_dosync, SoundCall, SoundCallee, SoundSent, SoundTree, SoundAll, SoundLet, SoundDo, nodes, nodes_in}
use Rattle.txs_tree_meaning.specs.Tree.{Tree, Const, Local, If, Do, Let, Loop, Recur, Core, Call, VectorOf, Println, Dosync, Look, Put, Update, Send, Trees, none, more, count}
use Rattle.txs_tree_meaning.specs.Locals.{reach, reach_all, reach_let}
use Rattle.txs_tree_meaning.specs.Shift.{moved, shifted, all_shifted}
use Rattle.txs_opt.specs.Inline.{bound, recurs, last_recurs}
use Rattle.txs_opt.proofs.Keeping.{EasesAt, eases_itself, neither, Kept, AllKept, none_kept, more_kept, const_kept, local_kept, if_kept, do_kept, recur_kept, core_kept, vector_kept, println_kept, dosync_kept, call_kept, let_kept, loop_kept, look_kept, put_kept, update_kept, send_kept}
use Rattle.txs_opt.proofs.Shifting.{count_shifted}

moved_below : (c k i d : ℕ) → i < d → c ≤ d → (b : Bool) → nat_lt i c ≡ b → (if b then i else i + k) < d + k
moved_below c k i d lt le true is = omega (arith, lt)
moved_below c k i d lt le false is = omega (arith, lt)

left_max : (a b n : ℕ) → max a b ≤ n → a ≤ n
left_max a b n h = omega (arith, h)

right_max : (a b n : ℕ) → max a b ≤ n → b ≤ n
right_max a b n h = omega (arith, h)

module _ (c k : ℕ) (ks : List Known) where
  mutual
    pub shifted_sound : (e : Tree) (zone : Zone) (d : ℕ) (tail : Option ℕ) → c ≤ d → SoundTree ks zone d tail e → reach (d + k) (shifted c k e) ≤ most_locals → SoundTree ks zone (d + k) tail (shifted c k e)
    shifted_sound (Const v m) zone d tail le h few = tt
    shifted_sound (Local i m) zone d tail le h few = moved_below c k i d h le (nat_lt i c) refl
    shifted_sound (If t a b m) zone d tail le h few =
        let x = reach (d + k) (shifted c k t) in
        let y = reach (d + k) (shifted c k a) in
        let z = reach (d + k) (shifted c k b) in
        (shifted_sound t zone d None le h.0 (left_max x (max y z) most_locals few), shifted_sound a zone d tail le h.1 (left_max y z most_locals (right_max x (max y z) most_locals few)), shifted_sound b zone d tail le h.2 (right_max y z most_locals (right_max x (max y z) most_locals few)))
    shifted_sound (Do items m) zone d tail le h few = do_shifted_sound items zone d tail le h few
    shifted_sound (Let values body m) zone d tail le h few =
        let n = count values in
        let n1 = count (all_shifted c k values) in
        let same : d + k + n1 ≡ d + n + k = omega (arith, count_shifted c k values) in
        let x = reach_let (d + k) (all_shifted c k values) in
        let y = reach (d + k + n1) (shifted c k body) in
        let few1 : reach (d + n + k) (shifted c k body) ≤ most_locals = subst (λ j. reach j (shifted c k body) ≤ most_locals) same (right_max x y most_locals few) in
        (let_shifted_sound values zone d le h.0 (left_max x y most_locals few), subst (λ j. SoundTree ks zone j tail (shifted c k body)) (sym same) (shifted_sound body zone (d + n) tail (omega (arith, le)) h.1 few1))
    shifted_sound (Loop values body m) zone d tail le h few =
        let n = count values in
        let n1 = count (all_shifted c k values) in
        let same : d + k + n1 ≡ d + n + k = omega (arith, count_shifted c k values) in
        let x = reach_let (d + k) (all_shifted c k values) in
        let y = reach (d + k + n1) (shifted c k body) in
        let few1 : reach (d + n + k) (shifted c k body) ≤ most_locals = subst (λ j. reach j (shifted c k body) ≤ most_locals) same (right_max x y most_locals few) in (
          let_shifted_sound values zone d le h.0 (left_max x y most_locals few),
          subst (λ j. SoundTree ks zone j (Some n1) (shifted c k body)) (sym same)
              (subst (λ j. SoundTree ks zone (d + n + k) (Some j) (shifted c k body)) (sym (count_shifted c k values)) (shifted_sound body zone (d + n) (Some n) (omega (arith, le)) h.1 few1)),
        )
    shifted_sound (Recur es m) zone d tail le h few = (h.0 ∙ ap Some (sym (count_shifted c k es)), all_shifted_sound es zone d le h.1 few)
    shifted_sound (Core op es m) zone d tail le h few =
        ((subst (λ n. takes op n ≡ true) (sym (count_shifted c k es)) h.0.0, omega (arith, h.0.1, count_shifted c k es)), all_shifted_sound es zone d le h.1 few)
    shifted_sound (Call f es m) zone d tail le h few = (subst (λ n. SoundCall ks zone f n) (sym (count_shifted c k es)) h.0, all_shifted_sound es zone d le h.1 few)
    shifted_sound (VectorOf es m) zone d tail le h few = (omega (arith, h.0, count_shifted c k es), all_shifted_sound es zone d le h.1 few)
    shifted_sound (Println es m) zone d tail le h few = (h.0, omega (arith, h.1, count_shifted c k es), all_shifted_sound es zone d le h.2 few)
    shifted_sound (Dosync body m) zone d tail le h few = shifted_sound body in_dosync d None le h few
    shifted_sound (Look form cell m) zone d tail le h few = (h.0, shifted_sound cell zone d None le h.1 few)
    shifted_sound (Put form cell value m) zone d tail le h few =
        let x = reach (d + k) (shifted c k cell) in
        let y = reach (d + k) (shifted c k value) in
        (h.0, shifted_sound cell zone d None le h.1 (left_max x y most_locals few), shifted_sound value zone d None le h.2 (right_max x y most_locals few))
    shifted_sound (Update form cell callee es m) zone d tail le h few =
        let x = reach (d + k) (shifted c k cell) in
        let y = reach_all (d + k) (all_shifted c k es) in
        (h.0, shifted_sound cell zone d None le h.1 (left_max x y most_locals few), subst (λ n. SoundCallee ks callee (suc n)) (sym (count_shifted c k es)) h.2, all_shifted_sound es zone d le h.3 (right_max x y most_locals few))
    shifted_sound (Send cell callee es m) zone d tail le h few =
        let x = reach (d + k) (shifted c k cell) in
        let y = reach_all (d + k) (all_shifted c k es) in
        (shifted_sound cell zone d None le h.0 (left_max x y most_locals few), subst (λ n. SoundSent ks callee (suc n)) (sym (count_shifted c k es)) h.1, all_shifted_sound es zone d le h.2 (right_max x y most_locals few))

    all_shifted_sound : (es : Trees) (zone : Zone) (d : ℕ) → c ≤ d → SoundAll ks zone d es → reach_all (d + k) (all_shifted c k es) ≤ most_locals → SoundAll ks zone (d + k) (all_shifted c k es)
    all_shifted_sound none zone d le h few = tt
    all_shifted_sound (more e es) zone d le h few =
        let x = reach (d + k) (shifted c k e) in
        let y = reach_all (d + k) (all_shifted c k es) in
        (shifted_sound e zone d None le h.0 (left_max x y most_locals few), all_shifted_sound es zone d le h.1 (right_max x y most_locals few))

    let_shifted_sound : (es : Trees) (zone : Zone) (d : ℕ) → c ≤ d → SoundLet ks zone d es → reach_let (d + k) (all_shifted c k es) ≤ most_locals → SoundLet ks zone (d + k) (all_shifted c k es)
    let_shifted_sound none zone d le h few = few
    let_shifted_sound (more e es) zone d le h few =
        let x = reach (d + k) (shifted c k e) in
        let y = reach_let (d + k + 1) (all_shifted c k es) in
        let same : d + k + 1 ≡ d + 1 + k = omega arith in (
          shifted_sound e zone d None le h.0 (left_max x y most_locals few),
          subst (λ j. SoundLet ks zone j (all_shifted c k es)) (sym same) (let_shifted_sound es zone (d + 1) (omega (arith, le)) h.1 (subst (λ j. reach_let j (all_shifted c k es) ≤ most_locals) same (right_max x y most_locals few))),
        )

    do_shifted_sound : (es : Trees) (zone : Zone) (d : ℕ) (tail : Option ℕ) → c ≤ d → SoundDo ks zone d tail es → reach_all (d + k) (all_shifted c k es) ≤ most_locals → SoundDo ks zone (d + k) tail (all_shifted c k es)
    do_shifted_sound none zone d tail le h few = h
    do_shifted_sound (more e none) zone d tail le h few = shifted_sound e zone d tail le h (left_max (reach (d + k) (shifted c k e)) (d + k) most_locals few)
    do_shifted_sound (more e (more f es)) zone d tail le h few =
        let x = reach (d + k) (shifted c k e) in
        let y = reach_all (d + k) (all_shifted c k (more f es)) in
        (shifted_sound e zone d None le h.0 (left_max x y most_locals few), do_shifted_sound (more f es) zone d tail le h.1 (right_max x y most_locals few))

-- a shifted tree has as many nodes
module _ (c k : ℕ) where
  mutual
    pub shifted_nodes : (e : Tree) → nodes (shifted c k e) ≡ nodes e
    shifted_nodes (Const v m) = refl
    shifted_nodes (Local i m) = refl
    shifted_nodes (If t a b m) = omega (arith, shifted_nodes t, shifted_nodes a, shifted_nodes b)
    shifted_nodes (Do es m) = ap suc (all_shifted_nodes es)
    shifted_nodes (Let es body m) = omega (arith, all_shifted_nodes es, shifted_nodes body)
    shifted_nodes (Loop es body m) = omega (arith, all_shifted_nodes es, shifted_nodes body)
    shifted_nodes (Recur es m) = ap suc (all_shifted_nodes es)
    shifted_nodes (Core op es m) = ap suc (all_shifted_nodes es)
    shifted_nodes (Call f es m) = ap suc (all_shifted_nodes es)
    shifted_nodes (VectorOf es m) = ap suc (all_shifted_nodes es)
    shifted_nodes (Println es m) = ap suc (all_shifted_nodes es)
    shifted_nodes (Dosync body m) = ap suc (shifted_nodes body)
    shifted_nodes (Look form cell m) = ap suc (shifted_nodes cell)
    shifted_nodes (Put form cell value m) = omega (arith, shifted_nodes cell, shifted_nodes value)
    shifted_nodes (Update form cell callee es m) = omega (arith, shifted_nodes cell, all_shifted_nodes es)
    shifted_nodes (Send cell callee es m) = omega (arith, shifted_nodes cell, all_shifted_nodes es)

    all_shifted_nodes : (es : Trees) → nodes_in (all_shifted c k es) ≡ nodes_in es
    all_shifted_nodes none = refl
    all_shifted_nodes (more e es) = omega (arith, shifted_nodes e, all_shifted_nodes es)

-- ---- where no recur goes to the function itself, the tail position may be any

module _ (ks : List Known) where
  mutual
    pub straight_sound : (e : Tree) (zone : Zone) (d : ℕ) (tail other : Option ℕ) → recurs e ≡ false → SoundTree ks zone d tail e → SoundTree ks zone d other e
    straight_sound (Const v m) zone d tail other no_one h = h
    straight_sound (Local i m) zone d tail other no_one h = h
    straight_sound (If c a b m) zone d tail other no_one h =
        let p = neither (recurs a) (recurs b) no_one in
        (h.0, straight_sound a zone d tail other p.0 h.1, straight_sound b zone d tail other p.1 h.2)
    straight_sound (Do es m) zone d tail other no_one h = last_sound es zone d tail other no_one h
    straight_sound (Let es body m) zone d tail other no_one h = (h.0, straight_sound body zone (d + count es) tail other no_one h.1)
    straight_sound (Loop es body m) zone d tail other no_one h = h
    straight_sound (Recur es m) zone d tail other no_one h = absurd (false≢true (sym no_one))
    straight_sound (Core op es m) zone d tail other no_one h = h
    straight_sound (Call f es m) zone d tail other no_one h = h
    straight_sound (VectorOf es m) zone d tail other no_one h = h
    straight_sound (Println es m) zone d tail other no_one h = h
    straight_sound (Dosync body m) zone d tail other no_one h = h
    straight_sound (Look form cell m) zone d tail other no_one h = h
    straight_sound (Put form cell value m) zone d tail other no_one h = h
    straight_sound (Update form cell callee es m) zone d tail other no_one h = h
    straight_sound (Send cell callee es m) zone d tail other no_one h = h

    last_sound : (es : Trees) (zone : Zone) (d : ℕ) (tail other : Option ℕ) → last_recurs es ≡ false → SoundDo ks zone d tail es → SoundDo ks zone d other es
    last_sound none zone d tail other no_one h = h
    last_sound (more e none) zone d tail other no_one h = straight_sound e zone d tail other no_one h
    last_sound (more e (more f es)) zone d tail other no_one h = (h.0, last_sound (more f es) zone d tail other no_one h.1)

-- ---- a sound tree is no worse, shifted and where more functions are defined

module _ (c k : ℕ) (ks ls : List Known) (grows : (f : ℕ) (known : Known) → nth ks f ≡ Some known → nth ls f ≡ Some known) where
  at_found : (f : ℕ) (known : Known) → nth ks f ≡ Some known → EasesAt (nth ks f) (nth ls f)
  at_found f known found = subst (λ o. EasesAt o (nth ls f)) (sym found) (subst (λ o. EasesAt (Some known) o) (sym (grows f known found)) (eases_itself (Some known)))

  callee_found : (callee : Callee) (n : ℕ) → SoundCallee ks callee n → callee_levels ls callee ≤ callee_levels ks callee
  callee_found (CoreOp op) n h = omega arith
  callee_found (Function f) n h = omega (arith, ap levels_of h.found, ap levels_of (grows f h.function h.found))

  sent_found : (callee : Callee) (n : ℕ) → SoundSent ks callee n → callee_levels ls callee ≤ callee_levels ks callee
  sent_found (CoreOp op) n h = omega arith
  sent_found (Function f) n h = omega (arith, ap levels_of h.found, ap levels_of (grows f h.function h.found))

  mutual
    pub shifted_kept : (e : Tree) (zone : Zone) (d : ℕ) (tail : Option ℕ) → SoundTree ks zone d tail e → Kept ks ls e (shifted c k e)
    shifted_kept (Const v m) zone d tail h = const_kept ks ls m m v
    shifted_kept (Local i m) zone d tail h = local_kept ks ls m m i (moved c k i)
    shifted_kept (If t a b m) zone d tail h = if_kept ks ls m m t a b (shifted c k t) (shifted c k a) (shifted c k b) (shifted_kept t zone d None h.0) (shifted_kept a zone d tail h.1) (shifted_kept b zone d tail h.2)
    shifted_kept (Do es m) zone d tail h = do_kept ks ls m m es (all_shifted c k es) (do_shifted_kept es zone d tail h)
    shifted_kept (Let es body m) zone d tail h = let_kept ks ls m m es (all_shifted c k es) body (shifted c k body) (let_shifted_kept es zone d h.0) (shifted_kept body zone (d + count es) tail h.1)
    shifted_kept (Loop es body m) zone d tail h = loop_kept ks ls m m es (all_shifted c k es) body (shifted c k body) (let_shifted_kept es zone d h.0) (shifted_kept body zone (d + count es) (Some (count es)) h.1)
    shifted_kept (Recur es m) zone d tail h = recur_kept ks ls m m es (all_shifted c k es) (all_shifted_kept es zone d h.1)
    shifted_kept (Core op es m) zone d tail h = core_kept ks ls m m op es (all_shifted c k es) (all_shifted_kept es zone d h.1)
    shifted_kept (Call f es m) zone d tail h = call_kept ks ls m m f es (all_shifted c k es) (at_found f h.0.function h.0.found) (all_shifted_kept es zone d h.1)
    shifted_kept (VectorOf es m) zone d tail h = vector_kept ks ls m m es (all_shifted c k es) (all_shifted_kept es zone d h.1)
    shifted_kept (Println es m) zone d tail h = println_kept ks ls m m es (all_shifted c k es) (all_shifted_kept es zone d h.2)
    shifted_kept (Dosync body m) zone d tail h = dosync_kept ks ls m m body (shifted c k body) (shifted_kept body in_dosync d None h)
    shifted_kept (Look form cell m) zone d tail h = look_kept ks ls m m form cell (shifted c k cell) (shifted_kept cell zone d None h.1)
    shifted_kept (Put form cell value m) zone d tail h = put_kept ks ls m m form cell value (shifted c k cell) (shifted c k value) (shifted_kept cell zone d None h.1) (shifted_kept value zone d None h.2)
    shifted_kept (Update form cell callee es m) zone d tail h = update_kept ks ls m m form cell (shifted c k cell) callee es (all_shifted c k es) (callee_found callee (suc (count es)) h.2) (shifted_kept cell zone d None h.1) (all_shifted_kept es zone d h.3)
    shifted_kept (Send cell callee es m) zone d tail h = send_kept ks ls m m cell (shifted c k cell) callee es (all_shifted c k es) (sent_found callee (suc (count es)) h.1) (shifted_kept cell zone d None h.0) (all_shifted_kept es zone d h.2)

    all_shifted_kept : (es : Trees) (zone : Zone) (d : ℕ) → SoundAll ks zone d es → AllKept ks ls es (all_shifted c k es)
    all_shifted_kept none zone d h = none_kept ks ls
    all_shifted_kept (more e es) zone d h = more_kept ks ls e (shifted c k e) es (all_shifted c k es) (shifted_kept e zone d None h.0) (all_shifted_kept es zone d h.1)

    let_shifted_kept : (es : Trees) (zone : Zone) (d : ℕ) → SoundLet ks zone d es → AllKept ks ls es (all_shifted c k es)
    let_shifted_kept none zone d h = none_kept ks ls
    let_shifted_kept (more e es) zone d h = more_kept ks ls e (shifted c k e) es (all_shifted c k es) (shifted_kept e zone d None h.0) (let_shifted_kept es zone (d + 1) h.1)

    do_shifted_kept : (es : Trees) (zone : Zone) (d : ℕ) (tail : Option ℕ) → SoundDo ks zone d tail es → AllKept ks ls es (all_shifted c k es)
    do_shifted_kept none zone d tail h = none_kept ks ls
    do_shifted_kept (more e none) zone d tail h = more_kept ks ls e (shifted c k e) none none (shifted_kept e zone d tail h) (none_kept ks ls)
    do_shifted_kept (more e (more f es)) zone d tail h = more_kept ks ls e (shifted c k e) (more f es) (all_shifted c k (more f es)) (shifted_kept e zone d None h.0) (do_shifted_kept (more f es) zone d tail h.1)

-- ---- arguments as the values of a let

pub count_bound : (d j : ℕ) (es : Trees) → count (bound d j es) ≡ count es
count_bound d j none = refl
count_bound d j (more e es) = ap suc (count_bound d (suc j) es)

pub bound_nodes : (d j : ℕ) (es : Trees) → nodes_in (bound d j es) ≡ nodes_in es
bound_nodes d j none = refl
bound_nodes d j (more e es) = omega (arith, shifted_nodes d j e, bound_nodes d (suc j) es)

module _ (ks : List Known) where
  pub bound_kept : (d j : ℕ) (es : Trees) (zone : Zone) → SoundAll ks zone d es → AllKept ks ks es (bound d j es)
  bound_kept d j none zone h = none_kept ks ks
  bound_kept d j (more e es) zone h = more_kept ks ks e (shifted d j e) es (bound d (suc j) es) (shifted_kept d j ks ks (λ f known found. found) e zone d None h.0) (bound_kept d (suc j) es zone h.1)

  pub bound_sound : (d j : ℕ) (es : Trees) (zone : Zone) → SoundAll ks zone d es → reach_let (d + j) (bound d j es) ≤ most_locals → SoundLet ks zone (d + j) (bound d j es)
  bound_sound d j none zone h few = few
  bound_sound d j (more e es) zone h few =
      let x = reach (d + j) (shifted d j e) in
      let y = reach_let (d + j + 1) (bound d (suc j) es) in
      let same : d + j + 1 ≡ d + suc j = omega arith in (
        shifted_sound d j ks e zone d None (omega arith) h.0 (left_max x y most_locals few),
        subst (λ i. SoundLet ks zone i (bound d (suc j) es)) (sym same) (bound_sound d (suc j) es zone h.1 (subst (λ i. reach_let i (bound d (suc j) es) ≤ most_locals) same (right_max x y most_locals few))),
      )
