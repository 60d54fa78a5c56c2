-- The marks of a program with calls inlined are right where those of the program are.
use Rattle.std.proofs.Common.{◌≡◌, ℕ, zero, suc, ◌+◌, Bool, true, false, List, [], ◌∷◌, ◌++◌, Option, Some, None, refl, subst}
use Rattle.txs_value_data.specs.Places.{nth}
use Rattle.txs_tree_meaning.proofs.Callable.{missing}
use Rattle.txs_tree_meaning.proofs.Marks.{marked_less}
use Rattle.txs_tree_meaning.specs.Marked.{AtLeast, Marked, MarkedAll, MarkedDo, MarkedFunctions, MarkedThreads, MarkedProgram}
use Rattle.txs_tree_meaning.specs.Tree.{Mark, Tree, Const, Local, If, Do, Let, Loop, Recur, Core, Call, VectorOf, Println, Dosync, Look, Put, Update, Send, Trees, none, more, count, PlainFunction, PlainThread, PlainProgram}
use Rattle.txs_tree_meaning.specs.Shift.{shifted, all_shifted}
use Rattle.txs_opt.specs.Inline.{bound, may_inline, opened, called, inlined, all_inlined, let_inlined, functions_inlined, threads_inlined, budget_of, inlined_program}
use Rattle.txs_opt.proofs.InlinedFunctions.{with_inlined}

-- ---- shifted

module _ (c k : ℕ) where
  mutual
    shifted_marked : (e : Tree) (used : Bool) → Marked used e → Marked used (shifted c k e)
    shifted_marked (Const v m) used h = h
    shifted_marked (Local i m) used h = h
    shifted_marked (If t a b m) used h = (h.0, shifted_marked t true h.1, shifted_marked a used h.2, shifted_marked b used h.3)
    shifted_marked (Do items m) used h = (h.0, do_shifted_marked items used h.1)
    shifted_marked (Let values body m) used h = (h.0, all_shifted_marked values h.1, shifted_marked body used h.2)
    shifted_marked (Loop values body m) used h = (h.0, all_shifted_marked values h.1, shifted_marked body used h.2)
    shifted_marked (Recur values m) used h = (h.0, all_shifted_marked values h.1)
    shifted_marked (Core op args m) used h = (h.0, all_shifted_marked args h.1)
    shifted_marked (Call f args m) used h = (h.0, all_shifted_marked args h.1)
    shifted_marked (VectorOf items m) used h = (h.0, all_shifted_marked items h.1)
    shifted_marked (Println args m) used h = (h.0, all_shifted_marked args h.1)
    shifted_marked (Dosync body m) used h = (h.0, shifted_marked body m.wanted h.1)
    shifted_marked (Look form cell m) used h = (h.0, shifted_marked cell true h.1)
    shifted_marked (Put form cell value m) used h = (h.0, shifted_marked cell true h.1, shifted_marked value true h.2)
    shifted_marked (Update form cell callee args m) used h = (h.0, shifted_marked cell true h.1, all_shifted_marked args h.2)
    shifted_marked (Send cell callee args m) used h = (h.0, shifted_marked cell true h.1, all_shifted_marked args h.2)

    all_shifted_marked : (es : Trees) → MarkedAll es → MarkedAll (all_shifted c k es)
    all_shifted_marked none h = tt
    all_shifted_marked (more e rest) h = (shifted_marked e true h.0, all_shifted_marked rest h.1)

    do_shifted_marked : (es : Trees) (used : Bool) → MarkedDo used es → MarkedDo used (all_shifted c k es)
    do_shifted_marked none used h = tt
    do_shifted_marked (more e none) used h = shifted_marked e used h
    do_shifted_marked (more e (more f rest)) used h = (shifted_marked e false h.0, do_shifted_marked (more f rest) used h.1)

bound_marked : (d j : ℕ) (es : Trees) → MarkedAll es → MarkedAll (bound d j es)
bound_marked d j none h = tt
bound_marked d j (more e rest) h = (shifted_marked d j e true h.0, bound_marked d (suc j) rest h.1)

-- ---- calls

-- each function's body has right marks
function_marked : (fs : List PlainFunction) (f : ℕ) (fun : PlainFunction) → MarkedFunctions fs → nth fs f ≡ Some fun → Marked true fun.body
function_marked [] f fun h is = absurd (missing fun is)
function_marked (g ∷ fs) zero fun h is = let same : g ≡ fun = cc in subst (λ (x : PlainFunction). Marked true x.body) same h.0
function_marked (g ∷ fs) (suc f) fun h is = function_marked fs f fun h.1 is

-- a body that replaces a call keeps its own marks: they are right also where the call isn't used
opened_marked : (b : Bool) (d f : ℕ) (fun : PlainFunction) (es : Trees) (m : Mark) (budget : ℕ) (used : Bool) → AtLeast used m.wanted → Marked true fun.body → MarkedAll es → Marked used (opened b d f fun es m budget).tree
opened_marked true d f fun es m budget used at body h = (at, bound_marked d 0 es h, marked_less true used (λ u. refl) (shifted 0 d fun.body) (shifted_marked 0 d fun.body true body))
opened_marked false d f fun es m budget used at body h = (at, h)

module _ (fs : List PlainFunction) (right : MarkedFunctions fs) where
  called_marked : (d f : ℕ) (es : Trees) (m : Mark) (budget : ℕ) (used : Bool) → AtLeast used m.wanted → MarkedAll es → Marked used (called (nth fs f) d f es m budget).tree
  called_marked d f es m budget used at h = go (nth fs f) refl
    where
      go : (o : Option PlainFunction) → nth fs f ≡ o → Marked used (called o d f es m budget).tree
      go None is = (at, h)
      go (Some fun) is = opened_marked (may_inline d fun es m budget) d f fun es m budget used at (function_marked fs f fun right is) h

  mutual
    inlined_marked : (e : Tree) (d budget : ℕ) (used : Bool) → Marked used e → Marked used (inlined fs d budget e).tree
    inlined_marked (Const v m) d budget used h = h
    inlined_marked (Local i m) d budget used h = h
    inlined_marked (If c a b m) d budget used h =
        let x = inlined fs d budget c in
        let y = inlined fs d x.budget a in
        (h.0, inlined_marked c d budget true h.1, inlined_marked a d x.budget used h.2, inlined_marked b d y.budget used h.3)
    inlined_marked (Do items m) d budget used h = (h.0, do_inlined_marked items d budget used h.1)
    inlined_marked (Let values body m) d budget used h = (h.0, let_inlined_marked values d budget h.1, inlined_marked body (d + count values) (let_inlined fs d budget values).budget used h.2)
    inlined_marked (Loop values body m) d budget used h = (h.0, let_inlined_marked values d budget h.1, inlined_marked body (d + count values) (let_inlined fs d budget values).budget used h.2)
    inlined_marked (Recur values m) d budget used h = (h.0, all_inlined_marked values d budget h.1)
    inlined_marked (Core op args m) d budget used h = (h.0, all_inlined_marked args d budget h.1)
    inlined_marked (Call f args m) d budget used h = let x = all_inlined fs d budget args in called_marked d f x.trees m x.budget used h.0 (all_inlined_marked args d budget h.1)
    inlined_marked (VectorOf items m) d budget used h = (h.0, all_inlined_marked items d budget h.1)
    inlined_marked (Println args m) d budget used h = (h.0, all_inlined_marked args d budget h.1)
    inlined_marked (Dosync body m) d budget used h = (h.0, inlined_marked body d budget m.wanted h.1)
    inlined_marked (Look form cell m) d budget used h = (h.0, inlined_marked cell d budget true h.1)
    inlined_marked (Put form cell value m) d budget used h = (h.0, inlined_marked cell d budget true h.1, inlined_marked value d (inlined fs d budget cell).budget true h.2)
    inlined_marked (Update form cell callee args m) d budget used h = (h.0, inlined_marked cell d budget true h.1, all_inlined_marked args d (inlined fs d budget cell).budget h.2)
    inlined_marked (Send cell callee args m) d budget used h = (h.0, inlined_marked cell d budget true h.1, all_inlined_marked args d (inlined fs d budget cell).budget h.2)

    all_inlined_marked : (es : Trees) (d budget : ℕ) → MarkedAll es → MarkedAll (all_inlined fs d budget es).trees
    all_inlined_marked none d budget h = tt
    all_inlined_marked (more e rest) d budget h = (inlined_marked e d budget true h.0, all_inlined_marked rest d (inlined fs d budget e).budget h.1)

    let_inlined_marked : (es : Trees) (d budget : ℕ) → MarkedAll es → MarkedAll (let_inlined fs d budget es).trees
    let_inlined_marked none d budget h = tt
    let_inlined_marked (more e rest) d budget h = (inlined_marked e d budget true h.0, let_inlined_marked rest (d + 1) (inlined fs d budget e).budget h.1)

    do_inlined_marked : (es : Trees) (d budget : ℕ) (used : Bool) → MarkedDo used es → MarkedDo used (all_inlined fs d budget es).trees
    do_inlined_marked none d budget used h = tt
    do_inlined_marked (more e none) d budget used h = inlined_marked e d budget used h
    do_inlined_marked (more e (more f rest)) d budget used h = (inlined_marked e d budget false h.0, do_inlined_marked (more f rest) d (inlined fs d budget e).budget used h.1)

-- ---- the program

marked_push : (fs : List PlainFunction) (f : PlainFunction) → MarkedFunctions fs → Marked true f.body → MarkedFunctions (fs ++ f ∷ [])
marked_push [] f h one = (one, tt)
marked_push (g ∷ fs) f h one = (h.0, marked_push fs f h.1 one)

functions_marked : (fs done : List PlainFunction) (budget : ℕ) → MarkedFunctions done → MarkedFunctions fs → MarkedFunctions (functions_inlined done budget fs).functions
functions_marked [] done budget h hs = h
functions_marked (f ∷ fs) done budget h hs =
    functions_marked fs (done ++ with_inlined done budget f ∷ []) (inlined done f.parameters budget f.body).budget (marked_push done (with_inlined done budget f) h (inlined_marked done h f.body f.parameters budget true hs.0)) hs.1

threads_marked : (fs : List PlainFunction) → MarkedFunctions fs → (ts : List PlainThread) (budget : ℕ) → MarkedThreads ts → MarkedThreads (threads_inlined fs budget ts)
threads_marked fs right [] budget h = tt
threads_marked fs right (t ∷ ts) budget h = (inlined_marked fs right t.body 0 budget false h.0, threads_marked fs right ts (inlined fs 0 budget t.body).budget h.1)

pub inlined_program_marked : (limit : ℕ) (p : PlainProgram) → MarkedProgram p → MarkedProgram (inlined_program limit p)
inlined_program_marked limit p h =
    let x = functions_inlined [] (budget_of limit p) p.functions in
    let right = functions_marked p.functions [] (budget_of limit p) tt h.functions in
    record { functions = right; threads = threads_marked x.functions right p.threads x.budget h.threads }
