-- Trees whose parts are alike are alike, where what is made of the forms on cells is alike.
use Rattle.std.proofs.Common.{◌≡◌, ℕ, suc, Bool, true, List, [], ◌∷◌, ◌++◌, length, refl, sym, ap, subst}
use Rattle.txs_value_apply.specs.Core.{core, vector_of}
use Rattle.txs_value_apply.specs.Truth.{choose}
use Rattle.txs_value_data.specs.Places.{nth}
use Rattle.txs_value_cell.specs.declared.form.LookForm.{LookForm}
use Rattle.txs_value_cell.specs.declared.form.PutForm.{PutForm}
use Rattle.txs_value_cell.specs.declared.form.UpdateForm.{UpdateForm}
use Rattle.txs_value_data.specs.declared.op.Op.{Op}
use Rattle.txs_value_data.specs.declared.op.Callee.{Callee}
use Rattle.txs_value_data.specs.declared.value.Value.{Value}
use Rattle.txs_tree_meaning.specs.Meaning.{Completion, Completes, Recurs, Faults, Retries, Waits, OutOfTurns, Invalid, bind, closed, give, result_of, Applies, Effects, turns, last_or, apply, eval, eval_all, eval_let, eval_do}
use Rattle.txs_tree_meaning.specs.Tree.{Mark, Tree, Const, Local, If, Let, Loop, Recur, Core, Call, VectorOf, Println, Dosync, Look, Put, Update, Send, Trees, none, more, is_none, count}
use Rattle.txs_opt.proofs.Below.{Kind, Fine}
use Rattle.txs_opt.proofs.Like.{Likeness, Like, bind_like, EndsIn, bind_ends, bind_like_in, closed_like, choose_like, give_like, result_like, last_like, turns_like, PartsLike, AppliesLike, apply_like}

-- what is made of the forms on cells is alike, where such may stand, and bodies of transactions are linked so
pub record FormsLike (S : Type 0) (k : Likeness S) (May : Kind) (Linked : Tree → List Value → Tree → List Value → Type 0) (fx gx : Effects S) : Type 0 where
  pub print : (inside : Bool) (vs : List Value) → PartsLike S k (fx.print inside vs) (gx.print inside vs)
  pub look : (form : LookForm) (inside : Bool) (m : Mark) (c : Value) → PartsLike S k (fx.look form inside m c) (gx.look form inside m c)
  pub put : (form : PutForm) (inside : Bool) (m : Mark) (c v : Value) (f g : Applies S) → May.forms → AppliesLike S k May f g → PartsLike S k (fx.put form inside m c v f) (gx.put form inside m c v g)
  pub update : (form : UpdateForm) (inside : Bool) (m : Mark) (c : Value) (callee : Callee) (vs : List Value) (f g : Applies S) → Fine May callee → May.forms → AppliesLike S k May f g → PartsLike S k (fx.update form inside m c callee vs f) (gx.update form inside m c callee vs g)
  pub send : (inside : Bool) (m : Mark) (c : Value) (callee : Callee) (vs : List Value) → PartsLike S k (fx.send inside m c callee vs) (gx.send inside m c callee vs)
  pub dosync : (inside : Bool) (m : Mark) (e e1 : Tree) (env env1 : List Value) (b b1 : S → Completion S Value) (f g : Applies S) → Linked e env e1 env1 → May.forms → PartsLike S k b b1 → AppliesLike S k May f g → PartsLike S k (fx.dosync inside m e env b f) (gx.dosync inside m e1 env1 b1 g)

-- the meanings of functions of a kind are alike
abbrev pub CallsLike : (S : Type 0) → Likeness S → Kind → (Bool → ℕ → List Value → S → Completion S Value) → (Bool → ℕ → List Value → S → Completion S Value) → Type 0
CallsLike S k May cf cg = (inside : Bool) (f : ℕ) (vs : List Value) → May.calls f → PartsLike S k (cf inside f vs) (cg inside f vs)

-- the values of a let are as many as it has
pub let_counts : (S : Type 0) (fx : Effects S) (cf : Bool → ℕ → List Value → S → Completion S Value) (n : ℕ) (inside : Bool) (es : Trees) (env : List Value) (s : S) → EndsIn (λ vs. length vs ≡ count es) (eval_let fx cf n inside es env s)
let_counts S fx cf n inside none env s = refl
let_counts S fx cf n inside (more e es) env s =
    bind_ends (λ vs. length vs ≡ suc (count es)) (eval fx cf n inside e env s) (λ v s1. bind (eval_let fx cf n inside es (env ++ v ∷ []) s1) (λ vs s2. Completes (v ∷ vs) s2))
    (λ v s1. more_counts v (eval_let fx cf n inside es (env ++ v ∷ []) s1) (let_counts S fx cf n inside es (env ++ v ∷ []) s1))
  where
    more_counts : (v : Value) (x : Completion S (List Value)) → EndsIn (λ vs. length vs ≡ count es) x → EndsIn (λ vs. length vs ≡ suc (count es)) (bind x (λ vs s2. Completes (v ∷ vs) s2))
    more_counts v (Completes vs t) h = ap suc h
    more_counts v (Recurs vs t) h = tt
    more_counts v (Faults f t) h = tt
    more_counts v (Retries t) h = tt
    more_counts v (Waits t) h = tt
    more_counts v (OutOfTurns t) h = tt
    more_counts v Invalid h = tt

-- the values of arguments are as many as they are
pub all_counts : (S : Type 0) (fx : Effects S) (cf : Bool → ℕ → List Value → S → Completion S Value) (n : ℕ) (inside : Bool) (es : Trees) (env : List Value) (s : S) → EndsIn (λ vs. length vs ≡ count es) (eval_all fx cf n inside es env s)
all_counts S fx cf n inside none env s = refl
all_counts S fx cf n inside (more e es) env s =
    bind_ends (λ vs. length vs ≡ suc (count es)) (eval fx cf n inside e env s) (λ v s1. bind (eval_all fx cf n inside es env s1) (λ vs s2. Completes (v ∷ vs) s2))
    (λ v s1. more_counts v (eval_all fx cf n inside es env s1) (all_counts S fx cf n inside es env s1))
  where
    more_counts : (v : Value) (x : Completion S (List Value)) → EndsIn (λ vs. length vs ≡ count es) x → EndsIn (λ vs. length vs ≡ suc (count es)) (bind x (λ vs s2. Completes (v ∷ vs) s2))
    more_counts v (Completes vs t) h = ap suc h
    more_counts v (Recurs vs t) h = tt
    more_counts v (Faults f t) h = tt
    more_counts v (Retries t) h = tt
    more_counts v (Waits t) h = tt
    more_counts v (OutOfTurns t) h = tt
    more_counts v Invalid h = tt

module _ (S : Type 0) (k : Likeness S) (May : Kind) (Linked : Tree → List Value → Tree → List Value → Type 0) (fx gx : Effects S) (cf cg : Bool → ℕ → List Value → S → Completion S Value) (n : ℕ)
    (forms : FormsLike S k May Linked fx gx) (calls : CallsLike S k May cf cg) where
  -- a tree with its locals and another with its own are alike
  abbrev pub Means : Bool → Tree → List Value → Tree → List Value → Type 0
  Means inside e env e1 env1 = PartsLike S k (eval fx cf n inside e env) (eval gx cg n inside e1 env1)

  abbrev pub MeanAll : Bool → Trees → List Value → Trees → List Value → Type 0
  MeanAll inside es env es1 env1 = PartsLike S k (eval_all fx cf n inside es env) (eval_all gx cg n inside es1 env1)

  abbrev pub MeanLet : Bool → Trees → List Value → Trees → List Value → Type 0
  MeanLet inside es env es1 env1 = PartsLike S k (eval_let fx cf n inside es env) (eval_let gx cg n inside es1 env1)

  abbrev pub MeanDo : Bool → Trees → List Value → Trees → List Value → Type 0
  MeanDo inside es env es1 env1 = PartsLike S k (eval_do fx cf n inside es env) (eval_do gx cg n inside es1 env1)

  pub const_like : (inside : Bool) (v : Value) (m m1 : Mark) (env env1 : List Value) → Means inside (Const v m) env (Const v m1) env1
  const_like inside v m m1 env env1 s t r = (refl, r)

  pub local_like : (inside : Bool) (i j : ℕ) (m : Mark) (env env1 : List Value) → nth env1 j ≡ nth env i → Means inside (Local i m) env (Local j m) env1
  local_like inside i j m env env1 same s t r = subst (λ o. Like k (give (nth env i) s) (give o t)) (sym same) (give_like S k (nth env i) s t r)

  module _ (inside : Bool) (m : Mark) (env env1 : List Value) where
    pub if_like : (c a b c1 a1 b1 : Tree) → Means inside c env c1 env1 → Means inside a env a1 env1 → Means inside b env b1 env1 → Means inside (If c a b m) env (If c1 a1 b1 m) env1
    if_like c a b c1 a1 b1 hc ha hb s t r =
        bind_like S k (eval fx cf n inside c env s) (eval gx cg n inside c1 env1 t)
        (λ v s1. choose v (eval fx cf n inside a env s1) (eval fx cf n inside b env s1)) (λ v t1. choose v (eval gx cg n inside a1 env1 t1) (eval gx cg n inside b1 env1 t1)) (hc s t r)
        (λ v s1 t1 r1. choose_like S k v (eval fx cf n inside a env s1) (eval fx cf n inside b env s1) (eval gx cg n inside a1 env1 t1) (eval gx cg n inside b1 env1 t1) (ha s1 t1 r1) (hb s1 t1 r1))

    pub let_like : (values : Trees) (body : Tree) (values1 : Trees) (body1 : Tree) → MeanLet inside values env values1 env1 → ((vs : List Value) → length vs ≡ count values → Means inside body (env ++ vs) body1 (env1 ++ vs)) → Means inside (Let values body m) env (Let values1 body1 m) env1
    let_like values body values1 body1 hv hb s t r =
        bind_like_in S k (λ vs. length vs ≡ count values) (eval_let fx cf n inside values env s) (eval_let gx cg n inside values1 env1 t) (λ vs s1. eval fx cf n inside body (env ++ vs) s1) (λ vs t1. eval gx cg n inside body1 (env1 ++ vs) t1)
        (let_counts S fx cf n inside values env s) (hv s t r) (λ vs s1 t1 are r1. hb vs are s1 t1 r1)

    pub loop_like : (values : Trees) (body : Tree) (values1 : Trees) (body1 : Tree) → count values1 ≡ count values → MeanLet inside values env values1 env1 → ((vs : List Value) → length vs ≡ count values → Means inside body (env ++ vs) body1 (env1 ++ vs)) → Means inside (Loop values body m) env (Loop values1 body1 m) env1
    loop_like values body values1 body1 same hv hb s t r =
        subst (λ d. Like k (eval fx cf n inside (Loop values body m) env s) (bind (eval_let gx cg n inside values1 env1 t) (λ vs t1. turns n d (λ ws t2. eval gx cg n inside body1 (env1 ++ ws) t2) vs t1))) (sym same)
        (bind_like S k (eval_let fx cf n inside values env s) (eval_let gx cg n inside values1 env1 t)
        (λ vs s1. turns n (count values) (λ ws s2. eval fx cf n inside body (env ++ ws) s2) vs s1) (λ vs t1. turns n (count values) (λ ws t2. eval gx cg n inside body1 (env1 ++ ws) t2) vs t1) (hv s t r)
        (λ vs s1 t1 r1. turns_like S k n (count values) (λ ws s2. eval fx cf n inside body (env ++ ws) s2) (λ ws t2. eval gx cg n inside body1 (env1 ++ ws) t2) hb vs s1 t1 r1))

    pub recur_like : (es es1 : Trees) → MeanAll inside es env es1 env1 → Means inside (Recur es m) env (Recur es1 m) env1
    recur_like es es1 h s t r = bind_like S k (eval_all fx cf n inside es env s) (eval_all gx cg n inside es1 env1 t) (λ vs s1. Recurs vs s1) (λ vs t1. Recurs vs t1) (h s t r) (λ vs s1 t1 r1. (refl, r1))

    pub core_like : (op : Op) (es es1 : Trees) → MeanAll inside es env es1 env1 → Means inside (Core op es m) env (Core op es1 m) env1
    core_like op es es1 h s t r =
        bind_like S k (eval_all fx cf n inside es env s) (eval_all gx cg n inside es1 env1 t) (λ vs s1. result_of (core op vs) m.span s1) (λ vs t1. result_of (core op vs) m.span t1) (h s t r) (λ vs s1 t1 r1. result_like S k (core op vs) m.span s1 t1 r1)

    pub call_like : (f : ℕ) (es es1 : Trees) → May.calls f → MeanAll inside es env es1 env1 → Means inside (Call f es m) env (Call f es1 m) env1
    call_like f es es1 may h s t r =
        bind_like S k (eval_all fx cf n inside es env s) (eval_all gx cg n inside es1 env1 t) (λ vs s1. cf inside f vs s1) (λ vs t1. cg inside f vs t1) (h s t r) (λ vs s1 t1 r1. calls inside f vs may s1 t1 r1)

    pub vector_like : (es es1 : Trees) → MeanAll inside es env es1 env1 → Means inside (VectorOf es m) env (VectorOf es1 m) env1
    vector_like es es1 h s t r =
        bind_like S k (eval_all fx cf n inside es env s) (eval_all gx cg n inside es1 env1 t) (λ vs s1. result_of (vector_of vs) m.span s1) (λ vs t1. result_of (vector_of vs) m.span t1) (h s t r) (λ vs s1 t1 r1. result_like S k (vector_of vs) m.span s1 t1 r1)

    pub println_like : (es es1 : Trees) → MeanAll inside es env es1 env1 → Means inside (Println es m) env (Println es1 m) env1
    println_like es es1 h s t r =
        bind_like S k (eval_all fx cf n inside es env s) (eval_all gx cg n inside es1 env1 t) (λ vs s1. fx.print inside vs s1) (λ vs t1. gx.print inside vs t1) (h s t r) (λ vs s1 t1 r1. forms.print inside vs s1 t1 r1)

    pub dosync_like : (e e1 : Tree) → Linked e env e1 env1 → May.forms → Means true e env e1 env1 → Means inside (Dosync e m) env (Dosync e1 m) env1
    dosync_like e e1 linked here h s t r =
        forms.dosync inside m e e1 env env1 (λ s1. closed (eval fx cf n true e env s1)) (λ t1. closed (eval gx cg n true e1 env1 t1)) (apply (cf true) m.span) (apply (cg true) m.span) linked here
        (λ s1 t1 r1. closed_like S k (eval fx cf n true e env s1) (eval gx cg n true e1 env1 t1) (h s1 t1 r1))
        (apply_like S k May (cf true) (cg true) (λ f vs may s1 t1 r1. calls true f vs may s1 t1 r1) m.span) s t r

    pub look_like : (form : LookForm) (e e1 : Tree) → Means inside e env e1 env1 → Means inside (Look form e m) env (Look form e1 m) env1
    look_like form e e1 h s t r =
        bind_like S k (eval fx cf n inside e env s) (eval gx cg n inside e1 env1 t) (λ c s1. fx.look form inside m c s1) (λ c t1. gx.look form inside m c t1) (h s t r) (λ c s1 t1 r1. forms.look form inside m c s1 t1 r1)

    pub put_like : (form : PutForm) (e v e1 v1 : Tree) → May.forms → Means inside e env e1 env1 → Means inside v env v1 env1 → Means inside (Put form e v m) env (Put form e1 v1 m) env1
    put_like form e v e1 v1 here h hv s t r =
        bind_like S k (eval fx cf n inside e env s) (eval gx cg n inside e1 env1 t)
        (λ c s1. bind (eval fx cf n inside v env s1) (λ w s2. fx.put form inside m c w (apply (cf inside) m.span) s2)) (λ c t1. bind (eval gx cg n inside v1 env1 t1) (λ w t2. gx.put form inside m c w (apply (cg inside) m.span) t2)) (h s t r)
        (λ c s1 t1 r1. bind_like S k (eval fx cf n inside v env s1) (eval gx cg n inside v1 env1 t1) (λ w s2. fx.put form inside m c w (apply (cf inside) m.span) s2) (λ w t2. gx.put form inside m c w (apply (cg inside) m.span) t2) (hv s1 t1 r1)
        (λ w s2 t2 r2. forms.put form inside m c w (apply (cf inside) m.span) (apply (cg inside) m.span) here (apply_like S k May (cf inside) (cg inside) (λ f ws may s3 t3 r3. calls inside f ws may s3 t3 r3) m.span) s2 t2 r2))

    pub update_like : (form : UpdateForm) (e e1 : Tree) (callee : Callee) (es es1 : Trees) → Fine May callee → May.forms → Means inside e env e1 env1 → MeanAll inside es env es1 env1 → Means inside (Update form e callee es m) env (Update form e1 callee es1 m) env1
    update_like form e e1 callee es es1 fine here h ha s t r =
        bind_like S k (eval fx cf n inside e env s) (eval gx cg n inside e1 env1 t)
        (λ c s1. bind (eval_all fx cf n inside es env s1) (λ vs s2. fx.update form inside m c callee vs (apply (cf inside) m.span) s2))
        (λ c t1. bind (eval_all gx cg n inside es1 env1 t1) (λ vs t2. gx.update form inside m c callee vs (apply (cg inside) m.span) t2)) (h s t r)
        (λ c s1 t1 r1. bind_like S k (eval_all fx cf n inside es env s1) (eval_all gx cg n inside es1 env1 t1) (λ vs s2. fx.update form inside m c callee vs (apply (cf inside) m.span) s2) (λ vs t2. gx.update form inside m c callee vs (apply (cg inside) m.span) t2) (ha s1 t1 r1)
        (λ vs s2 t2 r2. forms.update form inside m c callee vs (apply (cf inside) m.span) (apply (cg inside) m.span) fine here (apply_like S k May (cf inside) (cg inside) (λ f ws may s3 t3 r3. calls inside f ws may s3 t3 r3) m.span) s2 t2 r2))

    pub send_like : (e e1 : Tree) (callee : Callee) (es es1 : Trees) → Means inside e env e1 env1 → MeanAll inside es env es1 env1 → Means inside (Send e callee es m) env (Send e1 callee es1 m) env1
    send_like e e1 callee es es1 h ha s t r =
        bind_like S k (eval fx cf n inside e env s) (eval gx cg n inside e1 env1 t)
        (λ c s1. bind (eval_all fx cf n inside es env s1) (λ vs s2. fx.send inside m c callee vs s2))
        (λ c t1. bind (eval_all gx cg n inside es1 env1 t1) (λ vs t2. gx.send inside m c callee vs t2)) (h s t r)
        (λ c s1 t1 r1. bind_like S k (eval_all fx cf n inside es env s1) (eval_all gx cg n inside es1 env1 t1) (λ vs s2. fx.send inside m c callee vs s2) (λ vs t2. gx.send inside m c callee vs t2) (ha s1 t1 r1)
        (λ vs s2 t2 r2. forms.send inside m c callee vs s2 t2 r2))

  module _ (inside : Bool) (env env1 : List Value) where
    pub all_none : MeanAll inside none env none env1
    all_none s t r = (refl, r)

    pub all_more : (e e1 : Tree) (es es1 : Trees) → Means inside e env e1 env1 → MeanAll inside es env es1 env1 → MeanAll inside (more e es) env (more e1 es1) env1
    all_more e e1 es es1 h hs s t r =
        bind_like S k (eval fx cf n inside e env s) (eval gx cg n inside e1 env1 t)
        (λ v s1. bind (eval_all fx cf n inside es env s1) (λ vs s2. Completes (v ∷ vs) s2)) (λ v t1. bind (eval_all gx cg n inside es1 env1 t1) (λ vs t2. Completes (v ∷ vs) t2)) (h s t r)
        (λ v s1 t1 r1. bind_like S k (eval_all fx cf n inside es env s1) (eval_all gx cg n inside es1 env1 t1) (λ vs s2. Completes (v ∷ vs) s2) (λ vs t2. Completes (v ∷ vs) t2) (hs s1 t1 r1) (λ vs s2 t2 r2. (refl, r2)))

    pub let_none : MeanLet inside none env none env1
    let_none s t r = (refl, r)

    pub let_more : (e e1 : Tree) (es es1 : Trees) → Means inside e env e1 env1 → ((v : Value) → MeanLet inside es (env ++ v ∷ []) es1 (env1 ++ v ∷ [])) → MeanLet inside (more e es) env (more e1 es1) env1
    let_more e e1 es es1 h hs s t r =
        bind_like S k (eval fx cf n inside e env s) (eval gx cg n inside e1 env1 t)
        (λ v s1. bind (eval_let fx cf n inside es (env ++ v ∷ []) s1) (λ vs s2. Completes (v ∷ vs) s2)) (λ v t1. bind (eval_let gx cg n inside es1 (env1 ++ v ∷ []) t1) (λ vs t2. Completes (v ∷ vs) t2)) (h s t r)
        (λ v s1 t1 r1. bind_like S k (eval_let fx cf n inside es (env ++ v ∷ []) s1) (eval_let gx cg n inside es1 (env1 ++ v ∷ []) t1) (λ vs s2. Completes (v ∷ vs) s2) (λ vs t2. Completes (v ∷ vs) t2) (hs v s1 t1 r1) (λ vs s2 t2 r2. (refl, r2)))

    pub do_none : MeanDo inside none env none env1
    do_none s t r = tt

    pub do_more : (e e1 : Tree) (es es1 : Trees) → is_none es1 ≡ is_none es → Means inside e env e1 env1 → MeanDo inside es env es1 env1 → MeanDo inside (more e es) env (more e1 es1) env1
    do_more e e1 es es1 same h hs s t r =
        subst (λ b. Like k (eval_do fx cf n inside (more e es) env s) (last_or b (eval gx cg n inside e1 env1 t) (λ t1. eval_do gx cg n inside es1 env1 t1))) (sym same)
        (last_like S k (is_none es) (eval fx cf n inside e env s) (eval gx cg n inside e1 env1 t) (λ s1. eval_do fx cf n inside es env s1) (λ t1. eval_do gx cg n inside es1 env1 t1) (h s t r) hs)
