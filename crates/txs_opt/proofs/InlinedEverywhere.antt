-- What holds everywhere in a program holds everywhere in it with calls inlined.
use Rattle.std.proofs.Common.{◌≡◌, ℕ, zero, suc, ◌+◌, Bool, true, false, List, [], ◌∷◌, ◌++◌, Option, Some, None, refl, sym, subst}
use Rattle.std.specs.List.{AllByRecursion}
use Rattle.txs_value_data.specs.Places.{nth}
use Rattle.txs_tree_meaning.proofs.Callable.{missing, same_some}
use Rattle.txs_tree_meaning.specs.Tree.{Mark, Tree, Const, Local, If, Do, Let, Loop, Recur, Core, Call, VectorOf, Println, Dosync, Look, Put, Update, Send, Trees, none, more, count, PlainFunction, PlainThread, PlainProgram}
use Rattle.txs_tree_meaning.specs.Everywhere.{Facts, Everywhere, EverywhereIn, InFunction, InThread, InProgram}
use Rattle.txs_tree_meaning.specs.Shift.{shifted, all_shifted}
use Rattle.txs_opt.specs.Inline.{bound, may_inline, opened, called, inlined, all_inlined, let_inlined, functions_inlined, threads_inlined, budget_of, inlined_program}
use Rattle.txs_opt.proofs.InlinedFunctions.{with_inlined}
use Rattle.txs_opt.proofs.Inlining.{count_inlined}
use Rattle.txs_opt.proofs.Shifting.{count_shifted}

module _ (F : Facts) where
  -- ---- shifted

  module _ (c k : ℕ) where
    mutual
      shifted_has : (e : Tree) → Everywhere F e → Everywhere F (shifted c k e)
      shifted_has (Const v m) h = h
      shifted_has (Local i m) h = h
      shifted_has (If t a b m) h = (shifted_has t h.0, shifted_has a h.1, shifted_has b h.2, h.3)
      shifted_has (Do items m) h = (all_shifted_have items h.0, h.1)
      shifted_has (Let values body m) h = (all_shifted_have values h.0, shifted_has body h.1, h.2)
      shifted_has (Loop values body m) h = (all_shifted_have values h.0, shifted_has body h.1, h.2)
      shifted_has (Recur values m) h = (all_shifted_have values h.0, h.1)
      shifted_has (Core op args m) h = (all_shifted_have args h.0, h.1)
      shifted_has (Call f args m) h = (all_shifted_have args h.0, h.1)
      shifted_has (VectorOf items m) h = (all_shifted_have items h.0, h.1)
      shifted_has (Println args m) h = (all_shifted_have args h.0, h.1)
      shifted_has (Dosync body m) h = (shifted_has body h.0, h.1)
      shifted_has (Look form cell m) h = (shifted_has cell h.0, h.1)
      shifted_has (Put form cell value m) h = (shifted_has cell h.0, shifted_has value h.1, h.2)
      shifted_has (Update form cell callee args m) h = (shifted_has cell h.0, all_shifted_have args h.1, h.2)
      shifted_has (Send cell callee args m) h = (shifted_has cell h.0, all_shifted_have args h.1, subst (λ n. F.send callee n m.span) (sym (count_shifted c k args)) h.2)

      all_shifted_have : (es : Trees) → EverywhereIn F es → EverywhereIn F (all_shifted c k es)
      all_shifted_have none h = tt
      all_shifted_have (more e rest) h = (shifted_has e h.0, all_shifted_have rest h.1)

  bound_have : (d j : ℕ) (es : Trees) → EverywhereIn F es → EverywhereIn F (bound d j es)
  bound_have d j none h = tt
  bound_have d j (more e rest) h = (shifted_has d j e h.0, bound_have d (suc j) rest h.1)

  -- ---- calls

  body_has : (fs : List PlainFunction) (f : ℕ) (fun : PlainFunction) → AllByRecursion (InFunction F) fs → nth fs f ≡ Some fun → Everywhere F fun.body
  body_has [] f fun h is = absurd (missing fun is)
  body_has (g ∷ fs) zero fun h is = subst (λ (x : PlainFunction). Everywhere F x.body) (same_some g fun is) h.0.0
  body_has (g ∷ fs) (suc f) fun h is = body_has fs f fun h.1 is

  opened_has : (b : Bool) (d f : ℕ) (fun : PlainFunction) (es : Trees) (m : Mark) (budget : ℕ) → F.span m.span → Everywhere F fun.body → EverywhereIn F es → Everywhere F (opened b d f fun es m budget).tree
  opened_has true d f fun es m budget s body h = (bound_have d 0 es h, shifted_has 0 d fun.body body, s)
  opened_has false d f fun es m budget s body h = (h, s)

  module _ (fs : List PlainFunction) (bodies : AllByRecursion (InFunction F) fs) where
    called_has : (d f : ℕ) (es : Trees) (m : Mark) (budget : ℕ) → F.span m.span → EverywhereIn F es → Everywhere F (called (nth fs f) d f es m budget).tree
    called_has d f es m budget s h = go (nth fs f) refl
      where
        go : (o : Option PlainFunction) → nth fs f ≡ o → Everywhere F (called o d f es m budget).tree
        go None is = (h, s)
        go (Some fun) is = opened_has (may_inline d fun es m budget) d f fun es m budget s (body_has fs f fun bodies is) h

    mutual
      inlined_has : (e : Tree) (d budget : ℕ) → Everywhere F e → Everywhere F (inlined fs d budget e).tree
      inlined_has (Const v m) d budget h = h
      inlined_has (Local i m) d budget h = h
      inlined_has (If c a b m) d budget h =
          let x = inlined fs d budget c in
          let y = inlined fs d x.budget a in
          (inlined_has c d budget h.0, inlined_has a d x.budget h.1, inlined_has b d y.budget h.2, h.3)
      inlined_has (Do items m) d budget h = (all_inlined_have items d budget h.0, h.1)
      inlined_has (Let values body m) d budget h = (let_inlined_have values d budget h.0, inlined_has body (d + count values) (let_inlined fs d budget values).budget h.1, h.2)
      inlined_has (Loop values body m) d budget h = (let_inlined_have values d budget h.0, inlined_has body (d + count values) (let_inlined fs d budget values).budget h.1, h.2)
      inlined_has (Recur values m) d budget h = (all_inlined_have values d budget h.0, h.1)
      inlined_has (Core op args m) d budget h = (all_inlined_have args d budget h.0, h.1)
      inlined_has (Call f args m) d budget h = let x = all_inlined fs d budget args in called_has d f x.trees m x.budget h.1 (all_inlined_have args d budget h.0)
      inlined_has (VectorOf items m) d budget h = (all_inlined_have items d budget h.0, h.1)
      inlined_has (Println args m) d budget h = (all_inlined_have args d budget h.0, h.1)
      inlined_has (Dosync body m) d budget h = (inlined_has body d budget h.0, h.1)
      inlined_has (Look form cell m) d budget h = (inlined_has cell d budget h.0, h.1)
      inlined_has (Put form cell value m) d budget h = (inlined_has cell d budget h.0, inlined_has value d (inlined fs d budget cell).budget h.1, h.2)
      inlined_has (Update form cell callee args m) d budget h = (inlined_has cell d budget h.0, all_inlined_have args d (inlined fs d budget cell).budget h.1, h.2)
      inlined_has (Send cell callee args m) d budget h =
          let x = inlined fs d budget cell in
          (inlined_has cell d budget h.0, all_inlined_have args d x.budget h.1, subst (λ n. F.send callee n m.span) (sym (count_inlined fs d x.budget args)) h.2)

      all_inlined_have : (es : Trees) (d budget : ℕ) → EverywhereIn F es → EverywhereIn F (all_inlined fs d budget es).trees
      all_inlined_have none d budget h = tt
      all_inlined_have (more e rest) d budget h = (inlined_has e d budget h.0, all_inlined_have rest d (inlined fs d budget e).budget h.1)

      let_inlined_have : (es : Trees) (d budget : ℕ) → EverywhereIn F es → EverywhereIn F (let_inlined fs d budget es).trees
      let_inlined_have none d budget h = tt
      let_inlined_have (more e rest) d budget h = (inlined_has e d budget h.0, let_inlined_have rest (d + 1) (inlined fs d budget e).budget h.1)

  -- ---- the program

  bodies_push : (fs : List PlainFunction) (f : PlainFunction) → AllByRecursion (InFunction F) fs → InFunction F f → AllByRecursion (InFunction F) (fs ++ f ∷ [])
  bodies_push [] f h one = (one, tt)
  bodies_push (g ∷ fs) f h one = (h.0, bodies_push fs f h.1 one)

  functions_have : (fs done : List PlainFunction) (budget : ℕ) → AllByRecursion (InFunction F) done → AllByRecursion (InFunction F) fs → AllByRecursion (InFunction F) (functions_inlined done budget fs).functions
  functions_have [] done budget h hs = h
  functions_have (f ∷ fs) done budget h hs =
      functions_have fs (done ++ with_inlined done budget f ∷ []) (inlined done f.parameters budget f.body).budget (bodies_push done (with_inlined done budget f) h (inlined_has done h f.body f.parameters budget hs.0.0, hs.0.1)) hs.1

  threads_have : (fs : List PlainFunction) → AllByRecursion (InFunction F) fs → (ts : List PlainThread) (budget : ℕ) → AllByRecursion (InThread F) ts → AllByRecursion (InThread F) (threads_inlined fs budget ts)
  threads_have fs bodies [] budget h = tt
  threads_have fs bodies (t ∷ ts) budget h = ((inlined_has fs bodies t.body 0 budget h.0.0, h.0.1), threads_have fs bodies ts (inlined fs 0 budget t.body).budget h.1)

  pub inlined_program_has : (limit : ℕ) (p : PlainProgram) → InProgram F p → InProgram F (inlined_program limit p)
  inlined_program_has limit p h =
      let x = functions_inlined [] (budget_of limit p) p.functions in
      let bodies = functions_have p.functions [] (budget_of limit p) tt h.functions in
      record { functions = bodies; threads = threads_have x.functions bodies p.threads x.budget h.threads }
