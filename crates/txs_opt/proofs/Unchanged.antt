-- A tree is like itself, where what is made of the forms on cells and of functions is alike.
use Rattle.std.proofs.Common.{ℕ, Bool, true, List, ◌++◌, ◌∷◌, [], refl}
use Rattle.txs_value_data.specs.declared.value.Value.{Value}
use Rattle.txs_tree_meaning.specs.Meaning.{Completion, Effects}
use Rattle.txs_tree_meaning.specs.Tree.{Tree, Const, Local, If, Do, Let, Loop, Recur, Core, Call, VectorOf, Println, Dosync, Look, Put, Update, Send, Trees, none, more}
use Rattle.txs_opt.proofs.Below.{Kind, Below, AllBelow}
use Rattle.txs_opt.proofs.Like.{Likeness}
use Rattle.txs_opt.proofs.Parts.{FormsLike, CallsLike, Means, MeanAll, MeanLet, MeanDo, const_like, local_like, if_like, let_like, loop_like, recur_like, core_like, call_like, vector_like, println_like, dosync_like, look_like, put_like, update_like, send_like, all_none, all_more, let_none, let_more, do_none, do_more}

module _ (S : Type 0) (k : Likeness S) (May : Kind) (Linked : Tree → List Value → Tree → List Value → Type 0) (fx gx : Effects S) (cf cg : Bool → ℕ → List Value → S → Completion S Value) (n : ℕ)
    (forms : FormsLike S k May Linked fx gx) (calls : CallsLike S k May cf cg) (linked : (e : Tree) (env : List Value) → Below May e → Linked e env e env) where
  mutual
    pub unchanged : (inside : Bool) (e : Tree) (env : List Value) → Below May e → Means S k May Linked fx gx cf cg n forms calls inside e env e env
    unchanged inside (Const v m) env h = const_like S k May Linked fx gx cf cg n forms calls inside v m m env env
    unchanged inside (Local i m) env h = local_like S k May Linked fx gx cf cg n forms calls inside i i m env env refl
    unchanged inside (If c a b m) env h = if_like S k May Linked fx gx cf cg n forms calls inside m env env c a b c a b (unchanged inside c env h.0) (unchanged inside a env h.1) (unchanged inside b env h.2)
    unchanged inside (Do items m) env h = do_unchanged inside items env h
    unchanged inside (Let values body m) env h = let_like S k May Linked fx gx cf cg n forms calls inside m env env values body values body (let_unchanged inside values env h.0) (λ vs are. unchanged inside body (env ++ vs) h.1)
    unchanged inside (Loop values body m) env h = loop_like S k May Linked fx gx cf cg n forms calls inside m env env values body values body refl (let_unchanged inside values env h.0) (λ vs are. unchanged inside body (env ++ vs) h.1)
    unchanged inside (Recur es m) env h = recur_like S k May Linked fx gx cf cg n forms calls inside m env env es es (all_unchanged inside es env h)
    unchanged inside (Core op es m) env h = core_like S k May Linked fx gx cf cg n forms calls inside m env env op es es (all_unchanged inside es env h)
    unchanged inside (Call f es m) env h = call_like S k May Linked fx gx cf cg n forms calls inside m env env f es es h.1 (all_unchanged inside es env h.0)
    unchanged inside (VectorOf es m) env h = vector_like S k May Linked fx gx cf cg n forms calls inside m env env es es (all_unchanged inside es env h)
    unchanged inside (Println es m) env h = println_like S k May Linked fx gx cf cg n forms calls inside m env env es es (all_unchanged inside es env h)
    unchanged inside (Dosync body m) env h = dosync_like S k May Linked fx gx cf cg n forms calls inside m env env body body (linked body env h.0) h.1 (unchanged true body env h.0)
    unchanged inside (Look form cell m) env h = look_like S k May Linked fx gx cf cg n forms calls inside m env env form cell cell (unchanged inside cell env h)
    unchanged inside (Put form cell value m) env h = put_like S k May Linked fx gx cf cg n forms calls inside m env env form cell value cell value h.2 (unchanged inside cell env h.0) (unchanged inside value env h.1)
    unchanged inside (Update form cell callee es m) env h = update_like S k May Linked fx gx cf cg n forms calls inside m env env form cell cell callee es es h.2 h.3 (unchanged inside cell env h.0) (all_unchanged inside es env h.1)
    unchanged inside (Send cell callee es m) env h = send_like S k May Linked fx gx cf cg n forms calls inside m env env cell cell callee es es (unchanged inside cell env h.0) (all_unchanged inside es env h.1)

    pub all_unchanged : (inside : Bool) (es : Trees) (env : List Value) → AllBelow May es → MeanAll S k May Linked fx gx cf cg n forms calls inside es env es env
    all_unchanged inside none env h = all_none S k May Linked fx gx cf cg n forms calls inside env env
    all_unchanged inside (more e es) env h = all_more S k May Linked fx gx cf cg n forms calls inside env env e e es es (unchanged inside e env h.0) (all_unchanged inside es env h.1)

    let_unchanged : (inside : Bool) (es : Trees) (env : List Value) → AllBelow May es → MeanLet S k May Linked fx gx cf cg n forms calls inside es env es env
    let_unchanged inside none env h = let_none S k May Linked fx gx cf cg n forms calls inside env env
    let_unchanged inside (more e es) env h = let_more S k May Linked fx gx cf cg n forms calls inside env env e e es es (unchanged inside e env h.0) (λ v. let_unchanged inside es (env ++ v ∷ []) h.1)

    do_unchanged : (inside : Bool) (es : Trees) (env : List Value) → AllBelow May es → MeanDo S k May Linked fx gx cf cg n forms calls inside es env es env
    do_unchanged inside none env h = do_none S k May Linked fx gx cf cg n forms calls inside env env
    do_unchanged inside (more e es) env h = do_more S k May Linked fx gx cf cg n forms calls inside env env e e es es refl (unchanged inside e env h.0) (do_unchanged inside es env h.1)
