-- A tree with calls inlined means what the tree meant, where a function that was inlined means what its body does.
use Rattle.std.proofs.Common.{◌≡◌, ℕ, suc, ◌+◌, nat_eq, nat_le, Bool, true, false, ◌&&◌, not, List, [], ◌∷◌, ◌++◌, length, Option, Some, None, refl, sym, ap, ◌∙◌, subst, length-append, arith}
use Rattle.std.proofs.lemmas.Bool.{false≢true}
use Rattle.txs_value_data.specs.Places.{nth}
use Rattle.txs_value_data.specs.Limits.{most_locals}
use Rattle.txs_value_data.specs.declared.value.Value.{Value}
use Rattle.txs_tree_meaning.proofs.Callable.{both}
use Rattle.txs_tree_meaning.specs.Meaning.{Completion, Effects, eval, eval_all, eval_let}
use Rattle.txs_tree_meaning.specs.Sound.{nodes}
use Rattle.txs_tree_meaning.specs.Tree.{Mark, Tree, Const, Local, If, Do, Let, Loop, Recur, Core, Call, VectorOf, Println, Dosync, Look, Put, Update, Send, Trees, none, more, count, is_none, PlainFunction}
use Rattle.txs_tree_meaning.specs.Locals.{reach}
use Rattle.txs_tree_meaning.specs.Shift.{shifted}
use Rattle.txs_opt.specs.Inline.{bound, recurs, most_inlined, let_of_call, may_inline, opened, called, inlined, all_inlined, let_inlined}
use Rattle.txs_opt.proofs.Below.{Kind, Below, AllBelow, all_inlined_below}
use Rattle.txs_opt.proofs.Like.{Likeness, PartsLike, bind_like_in, like_trans}
use Rattle.txs_opt.proofs.Opened.{bound_like}
use Rattle.txs_opt.proofs.Parts.{FormsLike, CallsLike, all_counts, Means, MeanAll, MeanLet, MeanDo, const_like, local_like, if_like, let_like, loop_like, recur_like, core_like, call_like, vector_like, println_like, dosync_like, look_like, put_like, update_like, send_like, all_none, all_more, let_none, let_more, do_none, do_more}
use Rattle.txs_opt.proofs.Shifting.{Wider, wider_before, shifted_like}

pub count_inlined : (fs : List PlainFunction) (d budget : ℕ) (es : Trees) → count (all_inlined fs d budget es).trees ≡ count es
count_inlined fs d budget none = refl
count_inlined fs d budget (more e es) = ap suc (count_inlined fs d (inlined fs d budget e).budget es)

pub count_let_inlined : (fs : List PlainFunction) (d budget : ℕ) (es : Trees) → count (let_inlined fs d budget es).trees ≡ count es
count_let_inlined fs d budget none = refl
count_let_inlined fs d budget (more e es) = ap suc (count_let_inlined fs (d + 1) (inlined fs d budget e).budget es)

none_inlined : (fs : List PlainFunction) (d budget : ℕ) (es : Trees) → is_none (all_inlined fs d budget es).trees ≡ is_none es
none_inlined fs d budget none = refl
none_inlined fs d budget (more e es) = refl

not_true : (b : Bool) → not b ≡ true → b ≡ false
not_true true h = absurd (false≢true h)
not_true false h = refl

same_number : (a b : ℕ) → nat_eq a b ≡ true → a ≡ b
same_number a b h = grind (arith, h)

-- what is known where a call becomes the function's body
pub record Opens (d : ℕ) (fun : PlainFunction) (args : Trees) (m : Mark) (budget : ℕ) : Type 0 where
  pub small : nat_le (nodes fun.body) most_inlined ≡ true
  pub straight : recurs fun.body ≡ false
  pub arity : nat_eq fun.parameters (count args) ≡ true
  pub fits : nat_le (nodes fun.body) budget ≡ true
  pub few_locals : nat_le (reach d (let_of_call d fun.body args m)) most_locals ≡ true

pub opens_of : (d : ℕ) (fun : PlainFunction) (args : Trees) (m : Mark) (budget : ℕ) → may_inline d fun args m budget ≡ true → Opens d fun args m budget
opens_of d fun args m budget h =
    let q4 = nat_le (reach d (let_of_call d fun.body args m)) most_locals in
    let q3 = nat_le (nodes fun.body) budget in
    let q2 = nat_eq fun.parameters (count args) in
    let q1 = not (recurs fun.body) in
    let h0 = both (nat_le (nodes fun.body) most_inlined) (q1 && (q2 && (q3 && q4))) h in
    let h1 = both q1 (q2 && (q3 && q4)) h0.1 in
    let h2 = both q2 (q3 && q4) h1.1 in
    let h3 = both q3 q4 h2.1 in
    record { small = h0.0; straight = not_true (recurs fun.body) h1.0; arity = h2.0; fits = h3.0; few_locals = h3.1 }

module _ (S : Type 0) (k : Likeness S) (same : (s t : S) → k.rel s t → k.rel t t) (trans : (s t u : S) → k.rel s t → k.rel t u → k.rel s u)
    (May : Kind) (Linked Own : Tree → List Value → Tree → List Value → Type 0) (fx gx : Effects S) (cf cg : Bool → ℕ → List Value → S → Completion S Value) (n : ℕ) (fs : List PlainFunction)
    (forms : FormsLike S k May Linked fx gx) (calls : CallsLike S k May cf cg) (own_forms : FormsLike S k May Own gx gx) (own_calls : CallsLike S k May cg cg)
    (linked : (d budget : ℕ) (e : Tree) (env : List Value) → Below May e → length env ≡ d → Linked e env (inlined fs d budget e).tree env)
    (own_linked : (c j : ℕ) (e : Tree) (env env1 : List Value) → Below May e → Wider c j env env1 → Own e env (shifted c j e) env1)
    (bodies : (f : ℕ) (fun : PlainFunction) → nth fs f ≡ Some fun → May.calls f → Below May fun.body)
    (opens : (f : ℕ) (fun : PlainFunction) → nth fs f ≡ Some fun → recurs fun.body ≡ false → May.calls f → (inside : Bool) (vs : List Value) → length vs ≡ fun.parameters → PartsLike S k (cg inside f vs) (eval gx cg n inside fun.body vs)) where
  called_like : (inside : Bool) (f : ℕ) (es es1 : Trees) (m : Mark) (env : List Value) (d budget : ℕ) → May.calls f → AllBelow May es1 → count es1 ≡ count es → length env ≡ d → MeanAll S k May Linked fx gx cf cg n forms calls inside es env es1 env
      → Means S k May Linked fx gx cf cg n forms calls inside (Call f es m) env (called (nth fs f) d f es1 m budget).tree env
  called_like inside f es es1 m env d budget may low many is h = go (nth fs f) refl
    where
      here : (fun : PlainFunction) → nth fs f ≡ Some fun → recurs fun.body ≡ false → fun.parameters ≡ count es1 → Means S k May Linked fx gx cf cg n forms calls inside (Call f es m) env (Let (bound d 0 es1) (shifted 0 d fun.body) m) env
      here fun found straight arity s t r =
          bind_like_in S k (λ vs. length vs ≡ count es) (eval_all fx cf n inside es env s) (eval_let gx cg n inside (bound d 0 es1) env t) (λ vs s1. cf inside f vs s1) (λ vs t1. eval gx cg n inside (shifted 0 d fun.body) (env ++ vs) t1)
          (all_counts S fx cf n inside es env s)
          (like_trans S k trans (eval_all fx cf n inside es env s) (eval_all gx cg n inside es1 env t) (eval_let gx cg n inside (bound d 0 es1) env t) (h s t r)
          (bound_like S k May Own gx gx cg cg n own_forms own_calls own_linked inside es1 env d low is t t (same s t r)))
          (λ vs s1 t1 are r1. like_trans S k trans (cf inside f vs s1) (cg inside f vs t1) (eval gx cg n inside (shifted 0 d fun.body) (env ++ vs) t1) (calls inside f vs may s1 t1 r1)
          (like_trans S k trans (cg inside f vs t1) (eval gx cg n inside fun.body vs t1) (eval gx cg n inside (shifted 0 d fun.body) (env ++ vs) t1) (opens f fun found straight may inside vs (are ∙ sym many ∙ sym arity) t1 t1 (same s1 t1 r1))
          (shifted_like S k May Own gx gx cg cg n own_forms own_calls 0 d (own_linked 0 d) inside fun.body vs (env ++ vs) (bodies f fun found may) (subst (λ j. Wider 0 j vs (env ++ vs)) is (wider_before env vs)) t1 t1 (same s1 t1 r1))))

      test : (fun : PlainFunction) → nth fs f ≡ Some fun → (b : Bool) → may_inline d fun es1 m budget ≡ b → Means S k May Linked fx gx cf cg n forms calls inside (Call f es m) env (opened b d f fun es1 m budget).tree env
      test fun found true may_be s t r =
          let o = opens_of d fun es1 m budget may_be in
          here fun found o.straight (same_number fun.parameters (count es1) o.arity) s t r
      test fun found false isnt s t r = call_like S k May Linked fx gx cf cg n forms calls inside m env env f es es1 may h s t r

      go : (o : Option PlainFunction) → nth fs f ≡ o → Means S k May Linked fx gx cf cg n forms calls inside (Call f es m) env (called o d f es1 m budget).tree env
      go None found s t r = call_like S k May Linked fx gx cf cg n forms calls inside m env env f es es1 may h s t r
      go (Some fun) found s t r = test fun found (may_inline d fun es1 m budget) refl s t r

  longer : (env vs : List Value) (d c : ℕ) → length env ≡ d → length vs ≡ c → length (env ++ vs) ≡ d + c
  longer env vs d c is are = omega (arith, length-append env vs, is, are)

  mutual
    pub inlined_like : (inside : Bool) (e : Tree) (env : List Value) (d budget : ℕ) → Below May e → length env ≡ d → Means S k May Linked fx gx cf cg n forms calls inside e env (inlined fs d budget e).tree env
    inlined_like inside (Const v m) env d budget h is = const_like S k May Linked fx gx cf cg n forms calls inside v m m env env
    inlined_like inside (Local i m) env d budget h is = local_like S k May Linked fx gx cf cg n forms calls inside i i m env env refl
    inlined_like inside (If c a b m) env d budget h is =
        let x = inlined fs d budget c in
        let y = inlined fs d x.budget a in
        if_like S k May Linked fx gx cf cg n forms calls inside m env env c a b x.tree y.tree (inlined fs d y.budget b).tree (inlined_like inside c env d budget h.0 is) (inlined_like inside a env d x.budget h.1 is) (inlined_like inside b env d y.budget h.2 is)
    inlined_like inside (Do items m) env d budget h is = do_inlined_like inside items env d budget h is
    inlined_like inside (Let values body m) env d budget h is =
        let x = let_inlined fs d budget values in
        let_like S k May Linked fx gx cf cg n forms calls inside m env env values body x.trees (inlined fs (d + count values) x.budget body).tree (let_inlined_like inside values env d budget h.0 is)
        (λ vs are. inlined_like inside body (env ++ vs) (d + count values) x.budget h.1 (longer env vs d (count values) is are))
    inlined_like inside (Loop values body m) env d budget h is =
        let x = let_inlined fs d budget values in
        loop_like S k May Linked fx gx cf cg n forms calls inside m env env values body x.trees (inlined fs (d + count values) x.budget body).tree (count_let_inlined fs d budget values) (let_inlined_like inside values env d budget h.0 is)
        (λ vs are. inlined_like inside body (env ++ vs) (d + count values) x.budget h.1 (longer env vs d (count values) is are))
    inlined_like inside (Recur es m) env d budget h is = recur_like S k May Linked fx gx cf cg n forms calls inside m env env es (all_inlined fs d budget es).trees (all_inlined_like inside es env d budget h is)
    inlined_like inside (Core op es m) env d budget h is = core_like S k May Linked fx gx cf cg n forms calls inside m env env op es (all_inlined fs d budget es).trees (all_inlined_like inside es env d budget h is)
    inlined_like inside (Call f es m) env d budget h is =
        let x = all_inlined fs d budget es in
        called_like inside f es x.trees m env d x.budget h.1 (all_inlined_below May fs bodies d budget es h.0) (count_inlined fs d budget es) is (all_inlined_like inside es env d budget h.0 is)
    inlined_like inside (VectorOf es m) env d budget h is = vector_like S k May Linked fx gx cf cg n forms calls inside m env env es (all_inlined fs d budget es).trees (all_inlined_like inside es env d budget h is)
    inlined_like inside (Println es m) env d budget h is = println_like S k May Linked fx gx cf cg n forms calls inside m env env es (all_inlined fs d budget es).trees (all_inlined_like inside es env d budget h is)
    inlined_like inside (Dosync body m) env d budget h is = dosync_like S k May Linked fx gx cf cg n forms calls inside m env env body (inlined fs d budget body).tree (linked d budget body env h.0 is) h.1 (inlined_like true body env d budget h.0 is)
    inlined_like inside (Look form cell m) env d budget h is = look_like S k May Linked fx gx cf cg n forms calls inside m env env form cell (inlined fs d budget cell).tree (inlined_like inside cell env d budget h is)
    inlined_like inside (Put form cell value m) env d budget h is =
        let x = inlined fs d budget cell in
        put_like S k May Linked fx gx cf cg n forms calls inside m env env form cell value x.tree (inlined fs d x.budget value).tree h.2 (inlined_like inside cell env d budget h.0 is) (inlined_like inside value env d x.budget h.1 is)
    inlined_like inside (Update form cell callee es m) env d budget h is =
        let x = inlined fs d budget cell in
        update_like S k May Linked fx gx cf cg n forms calls inside m env env form cell x.tree callee es (all_inlined fs d x.budget es).trees h.2 h.3 (inlined_like inside cell env d budget h.0 is) (all_inlined_like inside es env d x.budget h.1 is)
    inlined_like inside (Send cell callee es m) env d budget h is =
        let x = inlined fs d budget cell in
        send_like S k May Linked fx gx cf cg n forms calls inside m env env cell x.tree callee es (all_inlined fs d x.budget es).trees (inlined_like inside cell env d budget h.0 is) (all_inlined_like inside es env d x.budget h.1 is)

    all_inlined_like : (inside : Bool) (es : Trees) (env : List Value) (d budget : ℕ) → AllBelow May es → length env ≡ d → MeanAll S k May Linked fx gx cf cg n forms calls inside es env (all_inlined fs d budget es).trees env
    all_inlined_like inside none env d budget h is = all_none S k May Linked fx gx cf cg n forms calls inside env env
    all_inlined_like inside (more e es) env d budget h is =
        let x = inlined fs d budget e in
        all_more S k May Linked fx gx cf cg n forms calls inside env env e x.tree es (all_inlined fs d x.budget es).trees (inlined_like inside e env d budget h.0 is) (all_inlined_like inside es env d x.budget h.1 is)

    let_inlined_like : (inside : Bool) (es : Trees) (env : List Value) (d budget : ℕ) → AllBelow May es → length env ≡ d → MeanLet S k May Linked fx gx cf cg n forms calls inside es env (let_inlined fs d budget es).trees env
    let_inlined_like inside none env d budget h is = let_none S k May Linked fx gx cf cg n forms calls inside env env
    let_inlined_like inside (more e es) env d budget h is =
        let x = inlined fs d budget e in
        let_more S k May Linked fx gx cf cg n forms calls inside env env e x.tree es (let_inlined fs (d + 1) x.budget es).trees (inlined_like inside e env d budget h.0 is)
        (λ v. let_inlined_like inside es (env ++ v ∷ []) (d + 1) x.budget h.1 (longer env (v ∷ []) d 1 is refl))

    do_inlined_like : (inside : Bool) (es : Trees) (env : List Value) (d budget : ℕ) → AllBelow May es → length env ≡ d → MeanDo S k May Linked fx gx cf cg n forms calls inside es env (all_inlined fs d budget es).trees env
    do_inlined_like inside none env d budget h is = do_none S k May Linked fx gx cf cg n forms calls inside env env
    do_inlined_like inside (more e es) env d budget h is =
        let x = inlined fs d budget e in
        do_more S k May Linked fx gx cf cg n forms calls inside env env e x.tree es (all_inlined fs d x.budget es).trees (none_inlined fs d x.budget es) (inlined_like inside e env d budget h.0 is) (do_inlined_like inside es env d x.budget h.1 is)
