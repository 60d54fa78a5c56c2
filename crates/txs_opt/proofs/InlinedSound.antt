-- A program with calls inlined is sound where the program is.
use Rattle.std.proofs.Common.{◌≡◌, ℕ, suc, max, ◌+◌, ◌≤◌, nat_le, Bool, true, false, List, [], ◌∷◌, ◌++◌, length, take, Option, Some, None, refl, sym, ap, ◌∙◌, subst, arith}
use Rattle.std.proofs.Math.Nat.{min-le_right}
use Rattle.txs_value_apply.specs.Core.{takes}
use Rattle.txs_value_data.specs.Places.{nth}
use Rattle.txs_value_data.specs.Limits.{most_locals, most_nodes}
use Rattle.txs_tree_meaning.proofs.Callable.{both, same_some, nth-take, function_at, tree-widened, tree-outside, tree-inside}
use Rattle.txs_tree_meaning.specs.Known.{Known, is_inside, is_outside, is_pure, levels_of, inside_in, any_inside, outside_in, any_outside, pure_in, all_pure, known_of, known_from, known}
use Rattle.txs_tree_meaning.specs.Sound.{Sound, Zone, in_function, in_thread, in_dosync, MayCall, SoundCall, SoundCallee, SoundSent, SoundTree, SoundAll, SoundLet, SoundDo, SoundFunction, SoundFunctions, SoundThreads, nodes, nodes_in, nodes_of_functions, nodes_of_all}
use Rattle.txs_tree_meaning.specs.Tree.{Mark, Tree, Const, Local, If, Do, Let, Loop, Recur, Core, Call, VectorOf, Println, Dosync, Look, Put, Update, Send, Trees, none, more, count, PlainFunction, PlainThread, PlainProgram}
use Rattle.txs_tree_meaning.specs.Locals.{reach, reach_let}
use Rattle.txs_tree_meaning.specs.Shift.{shifted}
use Rattle.txs_opt.specs.Inline.{bound, may_inline, opened, called, inlined, all_inlined, let_inlined, functions_inlined, threads_inlined, budget_of, inlined_program}
use Rattle.txs_opt.proofs.FoldedSound.{call_sound, callee_sound, sent_sound, cells_sound}
use Rattle.txs_opt.proofs.InlinedFunctions.{with_inlined, length_inlined}
use Rattle.txs_opt.proofs.Inlining.{count_inlined, count_let_inlined, Opens, opens_of}
use Rattle.txs_opt.proofs.Keeping.{neither, nor, also, Eases, AllEase, eases_at, all_ease_push, callee_at, inside_at, outside_at, pure_at, levels_at, Kept, AllKept, all_kept_trans, none_kept, more_kept, const_kept, local_kept, if_kept, do_kept, recur_kept, core_kept, vector_kept, println_kept, dosync_kept, call_kept, let_kept, loop_kept, look_kept, put_kept, update_kept, send_kept}
use Rattle.txs_opt.proofs.ScopedOf.{scoped_of}
use Rattle.txs_opt.proofs.ShiftedSound.{shifted_sound, shifted_nodes, straight_sound, shifted_kept, count_bound, bound_nodes, bound_kept, bound_sound}

least_number : (a b : ℕ) → nat_le a b ≡ true → a ≤ b
least_number a b h = grind (arith, h)

-- a function that is defined already, with what is known of those before it
module _ (done : List PlainFunction) (sound : SoundFunctions [] done) where
  abbrev L : List Known
  L = known done

  grows : (f : ℕ) (g : ℕ) (k : Known) → nth (take f L) g ≡ Some k → nth L g ≡ Some k
  grows f g k is = (nth-take f L g k is).1

  stands : (f : ℕ) (fun : PlainFunction) → nth done f ≡ Some fun → nth L f ≡ Some (known_of (take f L) fun)
  stands f fun found = (function_at done f fun sound found).0

  of_function : (f : ℕ) (fun : PlainFunction) → nth done f ≡ Some fun → SoundFunction (take f L) fun
  of_function f fun found = (function_at done f fun sound found).1

  zoned : (before : List Known) (fun : PlainFunction) (zone : Zone) (tail : Option ℕ) → MayCall zone (known_of before fun) → SoundTree before in_function fun.parameters tail fun.body → SoundTree before zone fun.parameters tail fun.body
  zoned before fun in_function tail may h = h
  zoned before fun in_thread tail may h = tree-outside before fun.body fun.parameters tail h may
  zoned before fun in_dosync tail may h = tree-inside before fun.body fun.parameters tail h may

  same_known : (f n : ℕ) (zone : Zone) (k : Known) → nth L f ≡ Some k → SoundCall L zone f n → (k.parameters ≡ n) × MayCall zone k
  same_known f n zone k found h =
      let e : h.function ≡ k = same_some h.function k (sym h.found ∙ found) in
      (ap (λ x. x.parameters) (sym e) ∙ h.arity, subst (λ x. MayCall zone x) e h.zoned)

  -- a call that becomes the function's body
  pub opened_sound : (f : ℕ) (fun : PlainFunction) (es : Trees) (m : Mark) (zone : Zone) (d budget : ℕ) (tail : Option ℕ) → nth done f ≡ Some fun → Opens d fun es m budget → SoundCall L zone f (count es) → SoundAll L zone d es
      → SoundTree L zone d tail (Let (bound d 0 es) (shifted 0 d fun.body) m)
  opened_sound f fun es m zone d budget tail found opens call args =
      let before = take f L in
      let whole = of_function f fun found in
      let info = same_known f (count es) zone (known_of before fun) (stands f fun found) call in
      let body1 : SoundTree before in_function fun.parameters tail fun.body = straight_sound before fun.body in_function fun.parameters (Some fun.parameters) tail opens.straight whole.1 in
      let body2 : SoundTree L zone fun.parameters tail fun.body = tree-widened before L (grows f) fun.body zone fun.parameters tail (zoned before fun zone tail info.1 body1) in
      let same : fun.parameters + d ≡ d + count (bound d 0 es) = omega (arith, count_bound d 0 es, info.0) in
      let values = reach_let d (bound d 0 es) in
      let behind = reach (d + count (bound d 0 es)) (shifted 0 d fun.body) in
      let limit : max values behind ≤ most_locals = least_number (max values behind) most_locals opens.few_locals in
      let few : reach (fun.parameters + d) (shifted 0 d fun.body) ≤ most_locals = subst (λ i. reach i (shifted 0 d fun.body) ≤ most_locals) (sym same) (omega (arith, limit)) in
      let body3 : SoundTree L zone (fun.parameters + d) tail (shifted 0 d fun.body) = shifted_sound 0 d L fun.body zone fun.parameters tail (omega arith) body2 few in
      let start : d + 0 ≡ d = omega arith in
      let few_args : reach_let (d + 0) (bound d 0 es) ≤ most_locals = subst (λ i. reach_let i (bound d 0 es) ≤ most_locals) (sym start) (omega (arith, limit)) in
      (subst (λ i. SoundLet L zone i (bound d 0 es)) start (bound_sound L d 0 es zone args few_args), subst (λ i. SoundTree L zone i tail (shifted 0 d fun.body)) same body3)

  -- it is no worse than the call
  pub opened_kept : (ks : List Known) → AllEase ks L → (f : ℕ) (fun : PlainFunction) (es es1 : Trees) (m : Mark) (d : ℕ) (zone : Zone) → nth done f ≡ Some fun → SoundAll L zone d es1 → AllKept ks L es es1 → Kept ks L (Call f es m) (Let (bound d 0 es1) (shifted 0 d fun.body) m)
  opened_kept ks all f fun es es1 m d zone found args a =
      let before = take f L in
      let at = eases_at ks L all f in
      let whole = of_function f fun found in
      let is = stands f fun found in
      let b = shifted_kept 0 d before L (grows f) fun.body in_function fun.parameters (Some fun.parameters) whole.1 in
      let values = all_kept_trans ks L L es es1 (bound d 0 es1) a (bound_kept L d 0 es1 zone args) in
      let e = shifted 0 d fun.body in
      record {
        inside = λ h. let p = neither (is_inside (nth ks f)) (any_inside ks es) h in nor (any_inside L (bound d 0 es1)) (inside_in L e) (values.inside p.1) (b.inside (sym (ap is_inside is) ∙ inside_at (nth ks f) (nth L f) at p.0));
        outside = λ h. let p = neither (is_outside (nth ks f)) (any_outside ks es) h in nor (any_outside L (bound d 0 es1)) (outside_in L e) (values.outside p.1) (b.outside (sym (ap is_outside is) ∙ outside_at (nth ks f) (nth L f) at p.0));
        pure = λ h. let p = both (is_pure (nth ks f)) (all_pure ks es) h in also (all_pure L (bound d 0 es1)) (pure_in L e) (values.pure p.1) (b.pure (sym (ap is_pure is) ∙ pure_at (nth ks f) (nth L f) at p.0));
        deep = omega (arith, levels_at (nth ks f) (nth L f) at, ap levels_of is, values.deep, b.deep);
      }

  module _ (ks : List Known) (all : AllEase ks L) where
    -- a call, maybe opened
    called_sound : (f : ℕ) (es1 : Trees) (m : Mark) (zone : Zone) (d budget : ℕ) (tail : Option ℕ) → SoundCall L zone f (count es1) → SoundAll L zone d es1 → SoundTree L zone d tail (called (nth done f) d f es1 m budget).tree
    called_sound f es1 m zone d budget tail call args = go (nth done f) refl
      where
        test : (fun : PlainFunction) → nth done f ≡ Some fun → (b : Bool) → may_inline d fun es1 m budget ≡ b → SoundTree L zone d tail (opened b d f fun es1 m budget).tree
        test fun found true may = opened_sound f fun es1 m zone d budget tail found (opens_of d fun es1 m budget may) call args
        test fun found false may = (call, args)

        go : (o : Option PlainFunction) → nth done f ≡ o → SoundTree L zone d tail (called o d f es1 m budget).tree
        go None found = (call, args)
        go (Some fun) found = test fun found (may_inline d fun es1 m budget) refl

    called_kept : (f : ℕ) (es es1 : Trees) (m : Mark) (zone : Zone) (d budget : ℕ) → SoundAll L zone d es1 → AllKept ks L es es1 → Kept ks L (Call f es m) (called (nth done f) d f es1 m budget).tree
    called_kept f es es1 m zone d budget args a = go (nth done f) refl
      where
        test : (fun : PlainFunction) → nth done f ≡ Some fun → (b : Bool) → Kept ks L (Call f es m) (opened b d f fun es1 m budget).tree
        test fun found true = opened_kept ks all f fun es es1 m d zone found args a
        test fun found false = call_kept ks L m m f es es1 (eases_at ks L all f) a

        go : (o : Option PlainFunction) → nth done f ≡ o → Kept ks L (Call f es m) (called o d f es1 m budget).tree
        go None found = call_kept ks L m m f es es1 (eases_at ks L all f) a
        go (Some fun) found = test fun found (may_inline d fun es1 m budget)

    mutual
      pub inlined_sound : (e : Tree) (zone : Zone) (d : ℕ) (tail : Option ℕ) (budget : ℕ) → SoundTree ks zone d tail e → SoundTree L zone d tail (inlined done d budget e).tree
      inlined_sound (Const v m) zone d tail budget h = tt
      inlined_sound (Local i m) zone d tail budget h = h
      inlined_sound (If c a b m) zone d tail budget h =
          let x = inlined done d budget c in
          let y = inlined done d x.budget a in
          (inlined_sound c zone d None budget h.0, inlined_sound a zone d tail x.budget h.1, inlined_sound b zone d tail y.budget h.2)
      inlined_sound (Do es m) zone d tail budget h = do_inlined_sound es zone d tail budget h
      inlined_sound (Let es body m) zone d tail budget h =
          let x = let_inlined done d budget es in
          let same = sym (count_let_inlined done d budget es) in
          (let_inlined_sound es zone d budget h.0, subst (λ n. SoundTree L zone (d + n) tail (inlined done (d + count es) x.budget body).tree) same (inlined_sound body zone (d + count es) tail x.budget h.1))
      inlined_sound (Loop es body m) zone d tail budget h =
          let x = let_inlined done d budget es in
          let same = sym (count_let_inlined done d budget es) in
          (let_inlined_sound es zone d budget h.0, subst (λ n. SoundTree L zone (d + n) (Some n) (inlined done (d + count es) x.budget body).tree) same (inlined_sound body zone (d + count es) (Some (count es)) x.budget h.1))
      inlined_sound (Recur es m) zone d tail budget h = (h.0 ∙ ap Some (sym (count_inlined done d budget es)), all_inlined_sound es zone d budget h.1)
      inlined_sound (Core op es m) zone d tail budget h =
          ((subst (λ n. takes op n ≡ true) (sym (count_inlined done d budget es)) h.0.0, omega (arith, h.0.1, count_inlined done d budget es)), all_inlined_sound es zone d budget h.1)
      inlined_sound (Call f es m) zone d tail budget h =
          let x = all_inlined done d budget es in
          called_sound f x.trees m zone d x.budget tail (subst (λ n. SoundCall L zone f n) (sym (count_inlined done d budget es)) (call_sound ks L all zone f (count es) h.0)) (all_inlined_sound es zone d budget h.1)
      inlined_sound (VectorOf es m) zone d tail budget h = (omega (arith, h.0, count_inlined done d budget es), all_inlined_sound es zone d budget h.1)
      inlined_sound (Println es m) zone d tail budget h = (h.0, omega (arith, h.1, count_inlined done d budget es), all_inlined_sound es zone d budget h.2)
      inlined_sound (Dosync body m) zone d tail budget h = inlined_sound body in_dosync d None budget h
      inlined_sound (Look form cell m) zone d tail budget h = (h.0, inlined_sound cell zone d None budget h.1)
      inlined_sound (Put form cell value m) zone d tail budget h =
          let x = inlined done d budget cell in
          (h.0, inlined_sound cell zone d None budget h.1, inlined_sound value zone d None x.budget h.2)
      inlined_sound (Update form cell callee es m) zone d tail budget h =
          let x = inlined done d budget cell in
          (h.0, inlined_sound cell zone d None budget h.1, subst (λ n. SoundCallee L callee (suc n)) (sym (count_inlined done d x.budget es)) (callee_sound ks L all callee (suc (count es)) h.2), all_inlined_sound es zone d x.budget h.3)
      inlined_sound (Send cell callee es m) zone d tail budget h =
          let x = inlined done d budget cell in
          (inlined_sound cell zone d None budget h.0, subst (λ n. SoundSent L callee (suc n)) (sym (count_inlined done d x.budget es)) (sent_sound ks L all callee (suc (count es)) h.1), all_inlined_sound es zone d x.budget h.2)

      pub all_inlined_sound : (es : Trees) (zone : Zone) (d budget : ℕ) → SoundAll ks zone d es → SoundAll L zone d (all_inlined done d budget es).trees
      all_inlined_sound none zone d budget h = tt
      all_inlined_sound (more e es) zone d budget h =
          let x = inlined done d budget e in
          (inlined_sound e zone d None budget h.0, all_inlined_sound es zone d x.budget h.1)

      let_inlined_sound : (es : Trees) (zone : Zone) (d budget : ℕ) → SoundLet ks zone d es → SoundLet L zone d (let_inlined done d budget es).trees
      let_inlined_sound none zone d budget h = h
      let_inlined_sound (more e es) zone d budget h =
          let x = inlined done d budget e in
          (inlined_sound e zone d None budget h.0, let_inlined_sound es zone (d + 1) x.budget h.1)

      do_inlined_sound : (es : Trees) (zone : Zone) (d : ℕ) (tail : Option ℕ) (budget : ℕ) → SoundDo ks zone d tail es → SoundDo L zone d tail (all_inlined done d budget es).trees
      do_inlined_sound none zone d tail budget h = h
      do_inlined_sound (more e none) zone d tail budget h = inlined_sound e zone d tail budget h
      do_inlined_sound (more e (more f es)) zone d tail budget h =
          let x = inlined done d budget e in
          (inlined_sound e zone d None budget h.0, do_inlined_sound (more f es) zone d tail x.budget h.1)

    mutual
      pub inlined_kept : (e : Tree) (zone : Zone) (d : ℕ) (tail : Option ℕ) (budget : ℕ) → SoundTree ks zone d tail e → Kept ks L e (inlined done d budget e).tree
      inlined_kept (Const v m) zone d tail budget h = const_kept ks L m m v
      inlined_kept (Local i m) zone d tail budget h = local_kept ks L m m i i
      inlined_kept (If c a b m) zone d tail budget h =
          let x = inlined done d budget c in
          let y = inlined done d x.budget a in
          if_kept ks L m m c a b x.tree y.tree (inlined done d y.budget b).tree (inlined_kept c zone d None budget h.0) (inlined_kept a zone d tail x.budget h.1) (inlined_kept b zone d tail y.budget h.2)
      inlined_kept (Do es m) zone d tail budget h = do_kept ks L m m es (all_inlined done d budget es).trees (do_inlined_kept es zone d tail budget h)
      inlined_kept (Let es body m) zone d tail budget h =
          let x = let_inlined done d budget es in
          let_kept ks L m m es x.trees body (inlined done (d + count es) x.budget body).tree (let_inlined_kept es zone d budget h.0) (inlined_kept body zone (d + count es) tail x.budget h.1)
      inlined_kept (Loop es body m) zone d tail budget h =
          let x = let_inlined done d budget es in
          loop_kept ks L m m es x.trees body (inlined done (d + count es) x.budget body).tree (let_inlined_kept es zone d budget h.0) (inlined_kept body zone (d + count es) (Some (count es)) x.budget h.1)
      inlined_kept (Recur es m) zone d tail budget h = recur_kept ks L m m es (all_inlined done d budget es).trees (all_inlined_kept es zone d budget h.1)
      inlined_kept (Core op es m) zone d tail budget h = core_kept ks L m m op es (all_inlined done d budget es).trees (all_inlined_kept es zone d budget h.1)
      inlined_kept (Call f es m) zone d tail budget h =
          let x = all_inlined done d budget es in
          called_kept f es x.trees m zone d x.budget (all_inlined_sound es zone d budget h.1) (all_inlined_kept es zone d budget h.1)
      inlined_kept (VectorOf es m) zone d tail budget h = vector_kept ks L m m es (all_inlined done d budget es).trees (all_inlined_kept es zone d budget h.1)
      inlined_kept (Println es m) zone d tail budget h = println_kept ks L m m es (all_inlined done d budget es).trees (all_inlined_kept es zone d budget h.2)
      inlined_kept (Dosync body m) zone d tail budget h = dosync_kept ks L m m body (inlined done d budget body).tree (inlined_kept body in_dosync d None budget h)
      inlined_kept (Look form cell m) zone d tail budget h = look_kept ks L m m form cell (inlined done d budget cell).tree (inlined_kept cell zone d None budget h.1)
      inlined_kept (Put form cell value m) zone d tail budget h =
          let x = inlined done d budget cell in
          put_kept ks L m m form cell value x.tree (inlined done d x.budget value).tree (inlined_kept cell zone d None budget h.1) (inlined_kept value zone d None x.budget h.2)
      inlined_kept (Update form cell callee es m) zone d tail budget h =
          let x = inlined done d budget cell in
          update_kept ks L m m form cell x.tree callee es (all_inlined done d x.budget es).trees (callee_at ks L (eases_at ks L all) callee) (inlined_kept cell zone d None budget h.1) (all_inlined_kept es zone d x.budget h.3)
      inlined_kept (Send cell callee es m) zone d tail budget h =
          let x = inlined done d budget cell in
          send_kept ks L m m cell x.tree callee es (all_inlined done d x.budget es).trees (callee_at ks L (eases_at ks L all) callee) (inlined_kept cell zone d None budget h.0) (all_inlined_kept es zone d x.budget h.2)

      all_inlined_kept : (es : Trees) (zone : Zone) (d budget : ℕ) → SoundAll ks zone d es → AllKept ks L es (all_inlined done d budget es).trees
      all_inlined_kept none zone d budget h = none_kept ks L
      all_inlined_kept (more e es) zone d budget h =
          let x = inlined done d budget e in
          more_kept ks L e x.tree es (all_inlined done d x.budget es).trees (inlined_kept e zone d None budget h.0) (all_inlined_kept es zone d x.budget h.1)

      let_inlined_kept : (es : Trees) (zone : Zone) (d budget : ℕ) → SoundLet ks zone d es → AllKept ks L es (let_inlined done d budget es).trees
      let_inlined_kept none zone d budget h = none_kept ks L
      let_inlined_kept (more e es) zone d budget h =
          let x = inlined done d budget e in
          more_kept ks L e x.tree es (let_inlined done (d + 1) x.budget es).trees (inlined_kept e zone d None budget h.0) (let_inlined_kept es zone (d + 1) x.budget h.1)

      do_inlined_kept : (es : Trees) (zone : Zone) (d : ℕ) (tail : Option ℕ) (budget : ℕ) → SoundDo ks zone d tail es → AllKept ks L es (all_inlined done d budget es).trees
      do_inlined_kept none zone d tail budget h = none_kept ks L
      do_inlined_kept (more e none) zone d tail budget h = more_kept ks L e (inlined done d budget e).tree none none (inlined_kept e zone d tail budget h) (none_kept ks L)
      do_inlined_kept (more e (more f es)) zone d tail budget h =
          let x = inlined done d budget e in
          more_kept ks L e x.tree (more f es) (all_inlined done d x.budget (more f es)).trees (inlined_kept e zone d None budget h.0) (do_inlined_kept (more f es) zone d tail x.budget h.1)

-- ---- nodes

called_nodes : (o : Option PlainFunction) (d f : ℕ) (es : Trees) (m : Mark) (budget : ℕ) → nodes (called o d f es m budget).tree + (called o d f es m budget).budget ≡ suc (nodes_in es) + budget
called_nodes None d f es m budget = refl
called_nodes (Some fun) d f es m budget = go (may_inline d fun es m budget) refl
  where
    go : (b : Bool) → may_inline d fun es m budget ≡ b → nodes (opened b d f fun es m budget).tree + (opened b d f fun es m budget).budget ≡ suc (nodes_in es) + budget
    go true may = omega (arith, bound_nodes d 0 es, shifted_nodes 0 d fun.body, least_number (nodes fun.body) budget (opens_of d fun es m budget may).fits)
    go false may = refl

module _ (fs : List PlainFunction) where
  mutual
    pub inlined_nodes : (e : Tree) (d budget : ℕ) → nodes (inlined fs d budget e).tree + (inlined fs d budget e).budget ≡ nodes e + budget
    inlined_nodes (Const v m) d budget = refl
    inlined_nodes (Local i m) d budget = refl
    inlined_nodes (If c a b m) d budget =
        let x = inlined fs d budget c in
        let y = inlined fs d x.budget a in
        omega (arith, inlined_nodes c d budget, inlined_nodes a d x.budget, inlined_nodes b d y.budget)
    inlined_nodes (Do es m) d budget = omega (arith, all_inlined_nodes es d budget)
    inlined_nodes (Let es body m) d budget = omega (arith, let_inlined_nodes es d budget, inlined_nodes body (d + count es) (let_inlined fs d budget es).budget)
    inlined_nodes (Loop es body m) d budget = omega (arith, let_inlined_nodes es d budget, inlined_nodes body (d + count es) (let_inlined fs d budget es).budget)
    inlined_nodes (Recur es m) d budget = omega (arith, all_inlined_nodes es d budget)
    inlined_nodes (Core op es m) d budget = omega (arith, all_inlined_nodes es d budget)
    inlined_nodes (Call f es m) d budget =
        let x = all_inlined fs d budget es in
        omega (arith, called_nodes (nth fs f) d f x.trees m x.budget, all_inlined_nodes es d budget)
    inlined_nodes (VectorOf es m) d budget = omega (arith, all_inlined_nodes es d budget)
    inlined_nodes (Println es m) d budget = omega (arith, all_inlined_nodes es d budget)
    inlined_nodes (Dosync body m) d budget = omega (arith, inlined_nodes body d budget)
    inlined_nodes (Look form cell m) d budget = omega (arith, inlined_nodes cell d budget)
    inlined_nodes (Put form cell value m) d budget = omega (arith, inlined_nodes cell d budget, inlined_nodes value d (inlined fs d budget cell).budget)
    inlined_nodes (Update form cell callee es m) d budget = omega (arith, inlined_nodes cell d budget, all_inlined_nodes es d (inlined fs d budget cell).budget)
    inlined_nodes (Send cell callee es m) d budget = omega (arith, inlined_nodes cell d budget, all_inlined_nodes es d (inlined fs d budget cell).budget)

    all_inlined_nodes : (es : Trees) (d budget : ℕ) → nodes_in (all_inlined fs d budget es).trees + (all_inlined fs d budget es).budget ≡ nodes_in es + budget
    all_inlined_nodes none d budget = refl
    all_inlined_nodes (more e es) d budget = omega (arith, inlined_nodes e d budget, all_inlined_nodes es d (inlined fs d budget e).budget)

    let_inlined_nodes : (es : Trees) (d budget : ℕ) → nodes_in (let_inlined fs d budget es).trees + (let_inlined fs d budget es).budget ≡ nodes_in es + budget
    let_inlined_nodes none d budget = refl
    let_inlined_nodes (more e es) d budget = omega (arith, inlined_nodes e d budget, let_inlined_nodes es (d + 1) (inlined fs d budget e).budget)

nodes_append : (fs gs : List PlainFunction) → nodes_of_functions (fs ++ gs) ≡ nodes_of_functions fs + nodes_of_functions gs
nodes_append [] gs = omega arith
nodes_append (f ∷ fs) gs = omega (arith, nodes_append fs gs)

functions_nodes : (fs done : List PlainFunction) (budget : ℕ) → nodes_of_functions (functions_inlined done budget fs).functions + (functions_inlined done budget fs).budget ≡ nodes_of_functions done + nodes_of_functions fs + budget
functions_nodes [] done budget = omega arith
functions_nodes (f ∷ fs) done budget =
    let x = inlined done f.parameters budget f.body in
    omega (arith, functions_nodes fs (done ++ with_inlined done budget f ∷ []) x.budget, nodes_append done (with_inlined done budget f ∷ []), inlined_nodes done f.body f.parameters budget)

threads_nodes : (fs : List PlainFunction) (ts : List PlainThread) (budget : ℕ) → nodes_of_all (threads_inlined fs budget ts) ≤ nodes_of_all ts + budget
threads_nodes fs [] budget = omega arith
threads_nodes fs (t ∷ ts) budget =
    let x = inlined fs 0 budget t.body in
    omega (arith, inlined_nodes fs t.body 0 budget, threads_nodes fs ts x.budget)

-- ---- the program

known_push : (fs : List PlainFunction) (f : PlainFunction) (ks : List Known) → known_from ks (fs ++ f ∷ []) ≡ known_from ks fs ++ known_of (known_from ks fs) f ∷ []
known_push [] f ks = refl
known_push (g ∷ fs) f ks = known_push fs f (ks ++ known_of ks g ∷ [])

sound_push : (fs : List PlainFunction) (f : PlainFunction) (ks : List Known) → SoundFunctions ks fs → SoundFunction (known_from ks fs) f → SoundFunctions ks (fs ++ f ∷ [])
sound_push [] f ks h one = (one, tt)
sound_push (g ∷ fs) f ks h one = (h.0, sound_push fs f (ks ++ known_of ks g ∷ []) h.1 one)

pub functions_sound : (fs done : List PlainFunction) (ks : List Known) (budget : ℕ) → AllEase ks (known done) → SoundFunctions [] done → SoundFunctions ks fs
    → SoundFunctions [] (functions_inlined done budget fs).functions × AllEase (known_from ks fs) (known (functions_inlined done budget fs).functions)
functions_sound [] done ks budget all sound h = (sound, all)
functions_sound (f ∷ fs) done ks budget all sound h =
    let x = inlined done f.parameters budget f.body in
    let g = with_inlined done budget f in
    let kept = inlined_kept done sound ks all f.body in_function f.parameters (Some f.parameters) budget h.0.1 in
    let one : SoundFunction (known done) g = (h.0.0, inlined_sound done sound ks all f.body in_function f.parameters (Some f.parameters) budget h.0.1, omega (arith, h.0.2, kept.deep)) in
    let eases : Eases (known_of ks f) (known_of (known done) g) = record { parameters = refl; inside = kept.inside; outside = kept.outside; pure = kept.pure; levels = kept.deep } in
    let pushed = all_ease_push ks (known done) (known_of ks f) (known_of (known done) g) all eases in
    functions_sound fs (done ++ g ∷ []) (ks ++ known_of ks f ∷ []) x.budget (subst (λ l. AllEase (ks ++ known_of ks f ∷ []) l) (sym (known_push done g [])) pushed) (sound_push done g [] sound one) h.1

threads_sound : (ts : List PlainThread) (done : List PlainFunction) (ks : List Known) (budget : ℕ) → AllEase ks (known done) → SoundFunctions [] done → SoundThreads ks ts → SoundThreads (known done) (threads_inlined done budget ts)
threads_sound [] done ks budget all sound h = tt
threads_sound (t ∷ ts) done ks budget all sound h =
    let x = inlined done 0 budget t.body in
    let kept = inlined_kept done sound ks all t.body in_thread 0 None budget h.0.0 in
    ((inlined_sound done sound ks all t.body in_thread 0 None budget h.0.0, omega (arith, h.0.1, kept.deep)), threads_sound ts done ks x.budget all sound h.1)

length_threads : (fs : List PlainFunction) (ts : List PlainThread) (budget : ℕ) → length (threads_inlined fs budget ts) ≡ length ts
length_threads fs [] budget = refl
length_threads fs (t ∷ ts) budget = ap suc (length_threads fs ts (inlined fs 0 budget t.body).budget)

pub inlined_program_nodes : (limit : ℕ) (p : PlainProgram) → nodes_of_functions (inlined_program limit p).functions + nodes_of_all (inlined_program limit p).threads ≤ nodes_of_functions p.functions + nodes_of_all p.threads + budget_of limit p
inlined_program_nodes limit p =
    let x = functions_inlined [] (budget_of limit p) p.functions in
    omega (arith, functions_nodes p.functions [] (budget_of limit p), threads_nodes x.functions p.threads x.budget)

pub inlined_program_sound : (limit : ℕ) (p : PlainProgram) → Sound p → Sound (inlined_program limit p)
inlined_program_sound limit p h =
    let x = functions_inlined [] (budget_of limit p) p.functions in
    let fs = functions_sound p.functions [] [] (budget_of limit p) tt tt h.functions in
    let ts = threads_sound p.threads x.functions (known p.functions) x.budget fs.1 fs.0 h.threads in
    let cs = cells_sound p.cells (known p.functions) (known x.functions) fs.1 h.cells in
    record {
      scoped = scoped_of (inlined_program limit p) fs.0 ts cs h.scoped.placed h.scoped.few_cells (omega (arith, h.scoped.few_functions, length_inlined p.functions [] (budget_of limit p))) (omega (arith, h.scoped.few_threads, length_threads x.functions p.threads x.budget));
      functions = fs.0;
      cells = cs;
      threads = ts;
      few_nodes = omega (arith, h.few_nodes, inlined_program_nodes limit p, min-le_right limit most_nodes);
    }
