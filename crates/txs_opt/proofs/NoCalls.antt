-- Where there is no call, there is nothing to inline.
use Rattle.std.proofs.Common.{◌≡◌, ℕ, ◌+◌, false, ◌||◌, List, [], ◌∷◌, ◌++◌, refl, sym, ap, ◌∙◌, append_assoc}
use Rattle.std.proofs.lemmas.Bool.{false≢true}
use Rattle.std.proofs.lemmas.List.{append-nil}
use Rattle.txs_tree_meaning.specs.Tree.{Tree, Const, Local, If, Do, Let, Loop, Recur, Core, Call, VectorOf, Println, Dosync, Look, Put, Update, Send, Trees, none, more, count, PlainFunction, PlainThread, PlainProgram}
use Rattle.txs_opt.specs.Fold.{folded_program}
use Rattle.txs_opt.specs.Inline.{InlinedTree, InlinedTrees, InlinedFunctions, inlined, all_inlined, let_inlined, functions_inlined, threads_inlined, budget_of, inlined_program}
use Rattle.txs_opt.specs.Optimised.{calls, some_call, functions_call, threads_call, optimised}
use Rattle.txs_opt.proofs.InlinedSettled.{inlined_same}
use Rattle.txs_opt.proofs.Keeping.{neither}

-- a tree as it is, with what the program may get
abbrev as_it_is : Tree → ℕ → InlinedTree
as_it_is e budget = record { tree = e; budget = budget }

abbrev as_they_are : Trees → ℕ → InlinedTrees
as_they_are es budget = record { trees = es; budget = budget }

abbrev functions_with : ℕ → List PlainFunction → InlinedFunctions
functions_with budget fs = record { functions = fs; budget = budget }

abbrev with_functions : PlainProgram → InlinedFunctions → PlainProgram
with_functions q x = record { functions = x.functions; cells = q.cells; validator_spans = q.validator_spans; threads = threads_inlined x.functions x.budget q.threads }

abbrev with_threads : PlainProgram → List PlainThread → PlainProgram
with_threads q ts = record { functions = q.functions; cells = q.cells; validator_spans = q.validator_spans; threads = ts }

module _ (fs : List PlainFunction) where
  -- ---- forms of more than one part

  two : (a b : Tree) (d budget : ℕ) → inlined fs d budget a ≡ as_it_is a budget → inlined fs d budget b ≡ as_it_is b budget → (form : Tree → Tree → ℕ → InlinedTree)
      → (let x = inlined fs d budget a in let y = inlined fs d x.budget b in form x.tree y.tree y.budget) ≡ form a b budget
  two a b d budget p q form = ap (λ x. let y = inlined fs d x.budget b in form x.tree y.tree y.budget) p ∙ ap (λ y. form a y.tree y.budget) q

  three : (a b c : Tree) (d budget : ℕ) → inlined fs d budget a ≡ as_it_is a budget → inlined fs d budget b ≡ as_it_is b budget → inlined fs d budget c ≡ as_it_is c budget → (form : Tree → Tree → Tree → ℕ → InlinedTree)
      → (let x = inlined fs d budget a in let y = inlined fs d x.budget b in let z = inlined fs d y.budget c in form x.tree y.tree z.tree z.budget) ≡ form a b c budget
  three a b c d budget p q r form =
      ap (λ x. let y = inlined fs d x.budget b in let z = inlined fs d y.budget c in form x.tree y.tree z.tree z.budget) p
      ∙ ap (λ y. let z = inlined fs d y.budget c in form a y.tree z.tree z.budget) q ∙ ap (λ z. form a b z.tree z.budget) r

  one_and_all : (a : Tree) (es : Trees) (d budget : ℕ) → inlined fs d budget a ≡ as_it_is a budget → all_inlined fs d budget es ≡ as_they_are es budget → (form : Tree → Trees → ℕ → InlinedTree)
      → (let x = inlined fs d budget a in let y = all_inlined fs d x.budget es in form x.tree y.trees y.budget) ≡ form a es budget
  one_and_all a es d budget p q form = ap (λ x. let y = all_inlined fs d x.budget es in form x.tree y.trees y.budget) p ∙ ap (λ y. form a y.trees y.budget) q

  bound_two : (es : Trees) (body : Tree) (d budget : ℕ) → let_inlined fs d budget es ≡ as_they_are es budget → inlined fs (d + count es) budget body ≡ as_it_is body budget → (form : Trees → Tree → ℕ → InlinedTree)
      → (let x = let_inlined fs d budget es in let y = inlined fs (d + count es) x.budget body in form x.trees y.tree y.budget) ≡ form es body budget
  bound_two es body d budget p q form = ap (λ x. let y = inlined fs (d + count es) x.budget body in form x.trees y.tree y.budget) p ∙ ap (λ y. form es y.tree y.budget) q

  -- ---- trees

  mutual
    tree_same : (e : Tree) (d budget : ℕ) → calls e ≡ false → inlined fs d budget e ≡ as_it_is e budget
    tree_same (Const v m) d budget h = refl
    tree_same (Local i m) d budget h = refl
    tree_same (If c a b m) d budget h =
        let p = neither (calls c) (calls a || calls b) h in
        let q = neither (calls a) (calls b) p.1 in
        three c a b d budget (tree_same c d budget p.0) (tree_same a d budget q.0) (tree_same b d budget q.1) (λ x y z budget1. record { tree = If x y z m; budget = budget1 })
    tree_same (Do items m) d budget h = ap (λ x. record { tree = Do x.trees m; budget = x.budget }) (all_same items d budget h)
    tree_same (Let values body m) d budget h =
        let p = neither (some_call values) (calls body) h in
        bound_two values body d budget (let_same values d budget p.0) (tree_same body (d + count values) budget p.1) (λ x y budget1. record { tree = Let x y m; budget = budget1 })
    tree_same (Loop values body m) d budget h =
        let p = neither (some_call values) (calls body) h in
        bound_two values body d budget (let_same values d budget p.0) (tree_same body (d + count values) budget p.1) (λ x y budget1. record { tree = Loop x y m; budget = budget1 })
    tree_same (Recur values m) d budget h = ap (λ x. record { tree = Recur x.trees m; budget = x.budget }) (all_same values d budget h)
    tree_same (Core op args m) d budget h = ap (λ x. record { tree = Core op x.trees m; budget = x.budget }) (all_same args d budget h)
    tree_same (Call f args m) d budget h = absurd (false≢true (sym h))
    tree_same (VectorOf items m) d budget h = ap (λ x. record { tree = VectorOf x.trees m; budget = x.budget }) (all_same items d budget h)
    tree_same (Println args m) d budget h = ap (λ x. record { tree = Println x.trees m; budget = x.budget }) (all_same args d budget h)
    tree_same (Dosync body m) d budget h = ap (λ x. record { tree = Dosync x.tree m; budget = x.budget }) (tree_same body d budget h)
    tree_same (Look form cell m) d budget h = ap (λ x. record { tree = Look form x.tree m; budget = x.budget }) (tree_same cell d budget h)
    tree_same (Put form cell value m) d budget h =
        let p = neither (calls cell) (calls value) h in
        two cell value d budget (tree_same cell d budget p.0) (tree_same value d budget p.1) (λ x y budget1. record { tree = Put form x y m; budget = budget1 })
    tree_same (Update form cell callee args m) d budget h =
        let p = neither (calls cell) (some_call args) h in
        one_and_all cell args d budget (tree_same cell d budget p.0) (all_same args d budget p.1) (λ x y budget1. record { tree = Update form x callee y m; budget = budget1 })
    tree_same (Send cell callee args m) d budget h =
        let p = neither (calls cell) (some_call args) h in
        one_and_all cell args d budget (tree_same cell d budget p.0) (all_same args d budget p.1) (λ x y budget1. record { tree = Send x callee y m; budget = budget1 })

    all_same : (es : Trees) (d budget : ℕ) → some_call es ≡ false → all_inlined fs d budget es ≡ as_they_are es budget
    all_same none d budget h = refl
    all_same (more e rest) d budget h =
        let p = neither (calls e) (some_call rest) h in
        ap (λ x. let y = all_inlined fs d x.budget rest in record { trees = more x.tree y.trees; budget = y.budget }) (tree_same e d budget p.0)
        ∙ ap (λ y. record { trees = more e y.trees; budget = y.budget }) (all_same rest d budget p.1)

    let_same : (es : Trees) (d budget : ℕ) → some_call es ≡ false → let_inlined fs d budget es ≡ as_they_are es budget
    let_same none d budget h = refl
    let_same (more e rest) d budget h =
        let p = neither (calls e) (some_call rest) h in
        ap (λ x. let y = let_inlined fs (d + 1) x.budget rest in record { trees = more x.tree y.trees; budget = y.budget }) (tree_same e d budget p.0)
        ∙ ap (λ y. record { trees = more e y.trees; budget = y.budget }) (let_same rest (d + 1) budget p.1)

-- ---- programs

functions_same : (fs done : List PlainFunction) (budget : ℕ) → functions_call fs ≡ false → functions_inlined done budget fs ≡ functions_with budget (done ++ fs)
functions_same [] done budget h = ap (functions_with budget) (sym (append-nil done))
functions_same (f ∷ fs) done budget h =
    let p = neither (calls f.body) (functions_call fs) h in
    ap (λ (x : InlinedTree). functions_inlined (done ++ record f { body = x.tree } ∷ []) x.budget fs) (tree_same done f.body f.parameters budget p.0) ∙ functions_same fs (done ++ f ∷ []) budget p.1
    ∙ ap (functions_with budget) (append_assoc done (f ∷ []) fs)

threads_same : (fs : List PlainFunction) (ts : List PlainThread) (budget : ℕ) → threads_call ts ≡ false → threads_inlined fs budget ts ≡ ts
threads_same fs [] budget h = refl
threads_same fs (t ∷ ts) budget h =
    let p = neither (calls t.body) (threads_call ts) h in
    ap (λ (x : InlinedTree). record t { body = x.tree } ∷ threads_inlined fs x.budget ts) (tree_same fs t.body 0 budget p.0) ∙ ap (λ l. t ∷ l) (threads_same fs ts budget p.1)

program_same : (limit : ℕ) (q : PlainProgram) → (functions_call q.functions || threads_call q.threads) ≡ false → inlined_program limit q ≡ q
program_same limit q h =
    let p = neither (functions_call q.functions) (threads_call q.threads) h in
    ap (with_functions q) (functions_same q.functions [] (budget_of limit q) p.0)
    ∙ ap (with_threads q) (threads_same q.functions q.threads (budget_of limit q) p.1)

-- ---- optimised programs

-- a folded program with calls inlined is the optimised one
pub with_calls : (limit : ℕ) (p q r : PlainProgram) → q ≡ folded_program p → r ≡ inlined_program limit q → r ≡ optimised limit p
with_calls limit p q r is made = made ∙ ap (inlined_program limit) is ∙ sym (inlined_same limit p)

-- a folded program without a call is the optimised one
pub without_calls : (limit : ℕ) (p q : PlainProgram) → q ≡ folded_program p → (functions_call q.functions || threads_call q.threads) ≡ false → q ≡ optimised limit p
without_calls limit p q is no_call = with_calls limit p q q is (sym (program_same limit q no_call))
