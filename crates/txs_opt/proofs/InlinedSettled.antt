-- With calls inlined, nothing is left to fold in a folded program: what takes a call's place is no constant, as the call was none.
use Rattle.std.proofs.Common.{◌≡◌, ℕ, zero, suc, ◌+◌, Bool, true, false, List, [], ◌∷◌, ◌++◌, Option, Some, None, refl, sym, ◌∙◌, subst}
use Rattle.txs_value_data.specs.Places.{nth}
use Rattle.txs_tree_meaning.proofs.Callable.{missing, same_some}
use Rattle.txs_tree_meaning.specs.Tree.{Mark, Tree, Const, Local, If, Do, Let, Loop, Recur, Core, Call, VectorOf, Println, Dosync, Look, Put, Update, Send, Trees, none, more, count, PlainFunction, PlainThread, PlainProgram}
use Rattle.txs_tree_meaning.specs.Shift.{shifted, all_shifted}
use Rattle.txs_opt.specs.Fold.{value_of, with_value, constants, folded_program}
use Rattle.txs_opt.specs.Inline.{bound, may_inline, opened, called, inlined, all_inlined, let_inlined, functions_inlined, threads_inlined, budget_of, inlined_program}
use Rattle.txs_opt.proofs.InlinedFunctions.{with_inlined}
use Rattle.txs_opt.proofs.Settled.{CoreStays, VectorStays, Several, AllSeen, IsSettled, AreSettled, FunctionsSettled, ThreadsSettled, functions_settled, threads_settled, program_same}

-- ---- shifted

module _ (c k : ℕ) where
  shifted_value : (e : Tree) → value_of (shifted c k e) ≡ value_of e
  shifted_value (Const v m) = refl
  shifted_value (Local i m) = refl
  shifted_value (If t a b m) = refl
  shifted_value (Do items m) = refl
  shifted_value (Let values body m) = refl
  shifted_value (Loop values body m) = refl
  shifted_value (Recur values m) = refl
  shifted_value (Core op args m) = refl
  shifted_value (Call f args m) = refl
  shifted_value (VectorOf items m) = refl
  shifted_value (Println args m) = refl
  shifted_value (Dosync body m) = refl
  shifted_value (Look form cell m) = refl
  shifted_value (Put form cell value m) = refl
  shifted_value (Update form cell callee args m) = refl
  shifted_value (Send cell callee args m) = refl

  shifted_constants : (es : Trees) → constants (all_shifted c k es) ≡ constants es
  shifted_constants none = refl
  shifted_constants (more e rest) = let p = shifted_value e in let q = shifted_constants rest in λ i. with_value (p i) (q i)

  shifted_several : (es : Trees) → Several es → Several (all_shifted c k es)
  shifted_several none h = tt
  shifted_several (more e none) h = h
  shifted_several (more e (more f rest)) h = tt

  shifted_seen : (es : Trees) → AllSeen es → AllSeen (all_shifted c k es)
  shifted_seen none h = tt
  shifted_seen (more e none) h = tt
  shifted_seen (more e (more f rest)) h = (shifted_value e ∙ h.0, shifted_seen (more f rest) h.1)

  mutual
    shifted_settled : (e : Tree) → IsSettled e → IsSettled (shifted c k e)
    shifted_settled (Const v m) h = tt
    shifted_settled (Local i m) h = tt
    shifted_settled (If t a b m) h = (shifted_value t ∙ h.0, shifted_settled t h.1, shifted_settled a h.2, shifted_settled b h.3)
    shifted_settled (Do items m) h = (shifted_several items h.0, shifted_seen items h.1, all_shifted_settled items h.2)
    shifted_settled (Let values body m) h = (all_shifted_settled values h.0, shifted_settled body h.1)
    shifted_settled (Loop values body m) h = (all_shifted_settled values h.0, shifted_settled body h.1)
    shifted_settled (Recur values m) h = all_shifted_settled values h
    shifted_settled (Core op args m) h = (subst (λ o. CoreStays o op) (sym (shifted_constants args)) h.0, all_shifted_settled args h.1)
    shifted_settled (Call f args m) h = all_shifted_settled args h
    shifted_settled (VectorOf items m) h = (subst VectorStays (sym (shifted_constants items)) h.0, all_shifted_settled items h.1)
    shifted_settled (Println args m) h = all_shifted_settled args h
    shifted_settled (Dosync body m) h = shifted_settled body h
    shifted_settled (Look form cell m) h = shifted_settled cell h
    shifted_settled (Put form cell value m) h = (shifted_settled cell h.0, shifted_settled value h.1)
    shifted_settled (Update form cell callee args m) h = (shifted_settled cell h.0, all_shifted_settled args h.1)
    shifted_settled (Send cell callee args m) h = (shifted_settled cell h.0, all_shifted_settled args h.1)

    all_shifted_settled : (es : Trees) → AreSettled es → AreSettled (all_shifted c k es)
    all_shifted_settled none h = tt
    all_shifted_settled (more e rest) h = (shifted_settled e h.0, all_shifted_settled rest h.1)

bound_settled : (d j : ℕ) (es : Trees) → AreSettled es → AreSettled (bound d j es)
bound_settled d j none h = tt
bound_settled d j (more e rest) h = (shifted_settled d j e h.0, bound_settled d (suc j) rest h.1)

-- ---- calls

called_value : (o : Option PlainFunction) (d f : ℕ) (es : Trees) (m : Mark) (budget : ℕ) → value_of (called o d f es m budget).tree ≡ None
called_value None d f es m budget = refl
called_value (Some fun) d f es m budget = go (may_inline d fun es m budget)
  where
    go : (b : Bool) → value_of (opened b d f fun es m budget).tree ≡ None
    go true = refl
    go false = refl

body_settled : (fs : List PlainFunction) (f : ℕ) (fun : PlainFunction) → FunctionsSettled fs → nth fs f ≡ Some fun → IsSettled fun.body
body_settled [] f fun h is = absurd (missing fun is)
body_settled (g ∷ fs) zero fun h is = subst (λ (x : PlainFunction). IsSettled x.body) (same_some g fun is) h.0
body_settled (g ∷ fs) (suc f) fun h is = body_settled fs f fun h.1 is

opened_settled : (b : Bool) (d f : ℕ) (fun : PlainFunction) (es : Trees) (m : Mark) (budget : ℕ) → IsSettled fun.body → AreSettled es → IsSettled (opened b d f fun es m budget).tree
opened_settled true d f fun es m budget body h = (bound_settled d 0 es h, shifted_settled 0 d fun.body body)
opened_settled false d f fun es m budget body h = h

module _ (fs : List PlainFunction) (bodies : FunctionsSettled fs) where
  called_settled : (d f : ℕ) (es : Trees) (m : Mark) (budget : ℕ) → AreSettled es → IsSettled (called (nth fs f) d f es m budget).tree
  called_settled d f es m budget h = go (nth fs f) refl
    where
      go : (o : Option PlainFunction) → nth fs f ≡ o → IsSettled (called o d f es m budget).tree
      go None is = h
      go (Some fun) is = opened_settled (may_inline d fun es m budget) d f fun es m budget (body_settled fs f fun bodies is) h

  inlined_value : (e : Tree) (d budget : ℕ) → value_of (inlined fs d budget e).tree ≡ value_of e
  inlined_value (Const v m) d budget = refl
  inlined_value (Local i m) d budget = refl
  inlined_value (If c a b m) d budget = refl
  inlined_value (Do items m) d budget = refl
  inlined_value (Let values body m) d budget = refl
  inlined_value (Loop values body m) d budget = refl
  inlined_value (Recur values m) d budget = refl
  inlined_value (Core op args m) d budget = refl
  inlined_value (Call f args m) d budget = let x = all_inlined fs d budget args in called_value (nth fs f) d f x.trees m x.budget
  inlined_value (VectorOf items m) d budget = refl
  inlined_value (Println args m) d budget = refl
  inlined_value (Dosync body m) d budget = refl
  inlined_value (Look form cell m) d budget = refl
  inlined_value (Put form cell value m) d budget = refl
  inlined_value (Update form cell callee args m) d budget = refl
  inlined_value (Send cell callee args m) d budget = refl

  inlined_constants : (es : Trees) (d budget : ℕ) → constants (all_inlined fs d budget es).trees ≡ constants es
  inlined_constants none d budget = refl
  inlined_constants (more e rest) d budget = let p = inlined_value e d budget in let q = inlined_constants rest d (inlined fs d budget e).budget in λ i. with_value (p i) (q i)

  inlined_several : (es : Trees) (d budget : ℕ) → Several es → Several (all_inlined fs d budget es).trees
  inlined_several none d budget h = tt
  inlined_several (more e none) d budget h = h
  inlined_several (more e (more f rest)) d budget h = tt

  inlined_seen : (es : Trees) (d budget : ℕ) → AllSeen es → AllSeen (all_inlined fs d budget es).trees
  inlined_seen none d budget h = tt
  inlined_seen (more e none) d budget h = tt
  inlined_seen (more e (more f rest)) d budget h = (inlined_value e d budget ∙ h.0, inlined_seen (more f rest) d (inlined fs d budget e).budget h.1)

  mutual
    inlined_settled : (e : Tree) (d budget : ℕ) → IsSettled e → IsSettled (inlined fs d budget e).tree
    inlined_settled (Const v m) d budget h = tt
    inlined_settled (Local i m) d budget h = tt
    inlined_settled (If c a b m) d budget h =
        let x = inlined fs d budget c in
        let y = inlined fs d x.budget a in
        (inlined_value c d budget ∙ h.0, inlined_settled c d budget h.1, inlined_settled a d x.budget h.2, inlined_settled b d y.budget h.3)
    inlined_settled (Do items m) d budget h = (inlined_several items d budget h.0, inlined_seen items d budget h.1, all_inlined_settled items d budget h.2)
    inlined_settled (Let values body m) d budget h = (let_inlined_settled values d budget h.0, inlined_settled body (d + count values) (let_inlined fs d budget values).budget h.1)
    inlined_settled (Loop values body m) d budget h = (let_inlined_settled values d budget h.0, inlined_settled body (d + count values) (let_inlined fs d budget values).budget h.1)
    inlined_settled (Recur values m) d budget h = all_inlined_settled values d budget h
    inlined_settled (Core op args m) d budget h = (subst (λ o. CoreStays o op) (sym (inlined_constants args d budget)) h.0, all_inlined_settled args d budget h.1)
    inlined_settled (Call f args m) d budget h = let x = all_inlined fs d budget args in called_settled d f x.trees m x.budget (all_inlined_settled args d budget h)
    inlined_settled (VectorOf items m) d budget h = (subst VectorStays (sym (inlined_constants items d budget)) h.0, all_inlined_settled items d budget h.1)
    inlined_settled (Println args m) d budget h = all_inlined_settled args d budget h
    inlined_settled (Dosync body m) d budget h = inlined_settled body d budget h
    inlined_settled (Look form cell m) d budget h = inlined_settled cell d budget h
    inlined_settled (Put form cell value m) d budget h = (inlined_settled cell d budget h.0, inlined_settled value d (inlined fs d budget cell).budget h.1)
    inlined_settled (Update form cell callee args m) d budget h = (inlined_settled cell d budget h.0, all_inlined_settled args d (inlined fs d budget cell).budget h.1)
    inlined_settled (Send cell callee args m) d budget h = (inlined_settled cell d budget h.0, all_inlined_settled args d (inlined fs d budget cell).budget h.1)

    all_inlined_settled : (es : Trees) (d budget : ℕ) → AreSettled es → AreSettled (all_inlined fs d budget es).trees
    all_inlined_settled none d budget h = tt
    all_inlined_settled (more e rest) d budget h = (inlined_settled e d budget h.0, all_inlined_settled rest d (inlined fs d budget e).budget h.1)

    let_inlined_settled : (es : Trees) (d budget : ℕ) → AreSettled es → AreSettled (let_inlined fs d budget es).trees
    let_inlined_settled none d budget h = tt
    let_inlined_settled (more e rest) d budget h = (inlined_settled e d budget h.0, let_inlined_settled rest (d + 1) (inlined fs d budget e).budget h.1)

-- ---- programs

bodies_push : (fs : List PlainFunction) (f : PlainFunction) → FunctionsSettled fs → IsSettled f.body → FunctionsSettled (fs ++ f ∷ [])
bodies_push [] f h one = (one, tt)
bodies_push (g ∷ fs) f h one = (h.0, bodies_push fs f h.1 one)

functions_inlined_settled : (fs done : List PlainFunction) (budget : ℕ) → FunctionsSettled done → FunctionsSettled fs → FunctionsSettled (functions_inlined done budget fs).functions
functions_inlined_settled [] done budget h hs = h
functions_inlined_settled (f ∷ fs) done budget h hs =
    functions_inlined_settled fs (done ++ with_inlined done budget f ∷ []) (inlined done f.parameters budget f.body).budget (bodies_push done (with_inlined done budget f) h (inlined_settled done h f.body f.parameters budget hs.0)) hs.1

threads_inlined_settled : (fs : List PlainFunction) → FunctionsSettled fs → (ts : List PlainThread) (budget : ℕ) → ThreadsSettled ts → ThreadsSettled (threads_inlined fs budget ts)
threads_inlined_settled fs bodies [] budget h = tt
threads_inlined_settled fs bodies (t ∷ ts) budget h = (inlined_settled fs bodies t.body 0 budget h.0, threads_inlined_settled fs bodies ts (inlined fs 0 budget t.body).budget h.1)

-- folding a folded program once more, with calls inlined, changes nothing
pub inlined_same : (limit : ℕ) (p : PlainProgram) → folded_program (inlined_program limit (folded_program p)) ≡ inlined_program limit (folded_program p)
inlined_same limit p =
    let q = folded_program p in
    let x = functions_inlined [] (budget_of limit q) q.functions in
    let bodies = functions_inlined_settled q.functions [] (budget_of limit q) tt (functions_settled p.functions) in
    program_same (inlined_program limit q) bodies (threads_inlined_settled x.functions bodies q.threads x.budget (threads_settled p.threads))
