-- A folded tree means what the tree meant.
use Rattle.std.proofs.Common.{◌≡◌, ℕ, suc, Bool, true, false, List, [], ◌∷◌, ◌++◌, length, Option, Some, None, Result, Ok, Err, refl, sym, ap, ◌∙◌, subst}
use Rattle.txs_value_apply.specs.Core.{core, takes, vector_of}
use Rattle.txs_value_apply.specs.Truth.{choose}
use Rattle.txs_value_data.specs.declared.fault.FaultKind.{FaultKind}
use Rattle.txs_value_data.specs.declared.op.Op.{Op}
use Rattle.txs_value_data.specs.declared.value.Value.{Value}
use Rattle.txs_value_data.specs.declared.value.Value.TheVariants.{Nil, Truth, Int, Key, Text, Vector, Cell}
use Rattle.txs_tree_meaning.proofs.Callable.{missing, same_some}
use Rattle.txs_tree_meaning.specs.Meaning.{Completion, Completes, Recurs, Faults, Retries, Waits, OutOfTurns, Invalid, bind, result_of, Effects, eval, eval_all, eval_do}
use Rattle.txs_tree_meaning.specs.Tree.{Mark, Tree, Const, Local, If, Do, Let, Loop, Recur, Core, Call, VectorOf, Println, Dosync, Look, Put, Update, Send, Trees, none, more, count, is_none}
use Rattle.txs_opt.specs.Fold.{value_of, with_value, constants, settled, settled_on, settled_core, settled_vector, chosen, before, seen_items, whole, folded, folded_all}
use Rattle.txs_opt.proofs.Below.{Kind, Below, AllBelow}
use Rattle.txs_opt.proofs.Like.{Likeness, Like, PartsLike, loose_any}
use Rattle.txs_opt.proofs.Parts.{FormsLike, CallsLike, Means, MeanAll, MeanLet, MeanDo, const_like, local_like, if_like, let_like, loop_like, recur_like, core_like, call_like, vector_like, println_like, dosync_like, look_like, put_like, update_like, send_like, all_none, all_more, let_none, let_more, do_none, do_more}

pub count_folded : (es : Trees) → count (folded_all es) ≡ count es
count_folded none = refl
count_folded (more e es) = ap suc (count_folded es)

-- of constants alone the values are these, whatever surrounds them
module _ (S : Type 0) (gx : Effects S) (cg : Bool → ℕ → List Value → S → Completion S Value) (n : ℕ) (inside : Bool) (env : List Value) where
  const_value : (e : Tree) (v : Value) (t : S) → value_of e ≡ Some v → eval gx cg n inside e env t ≡ Completes v t
  const_value (Const w m) v t is = ap (λ x. Completes x t) (same_some w v is)
  const_value (Local i m) v t is = absurd (missing v is)
  const_value (If c a b m) v t is = absurd (missing v is)
  const_value (Do items m) v t is = absurd (missing v is)
  const_value (Let values body m) v t is = absurd (missing v is)
  const_value (Loop values body m) v t is = absurd (missing v is)
  const_value (Recur values m) v t is = absurd (missing v is)
  const_value (Core op args m) v t is = absurd (missing v is)
  const_value (Call f args m) v t is = absurd (missing v is)
  const_value (VectorOf items m) v t is = absurd (missing v is)
  const_value (Println args m) v t is = absurd (missing v is)
  const_value (Dosync body m) v t is = absurd (missing v is)
  const_value (Look form cell m) v t is = absurd (missing v is)
  const_value (Put form cell value m) v t is = absurd (missing v is)
  const_value (Update form cell callee args m) v t is = absurd (missing v is)
  const_value (Send cell callee args m) v t is = absurd (missing v is)

  consts_values : (es : Trees) (vs : List Value) (t : S) → constants es ≡ Some vs → eval_all gx cg n inside es env t ≡ Completes vs t
  consts_values none vs t is = ap (λ x. Completes x t) (same_some [] vs is)
  consts_values (more e es) vs t is = both (value_of e) (constants es) refl refl is (λ ws are. consts_values es ws t are)
    where
      both : (o : Option Value) (p : Option (List Value)) → value_of e ≡ o → constants es ≡ p → with_value o p ≡ Some vs → ((ws : List Value) → constants es ≡ Some ws → eval_all gx cg n inside es env t ≡ Completes ws t) → eval_all gx cg n inside (more e es) env t ≡ Completes vs t
      both None p one rest all ih = absurd (missing vs all)
      both (Some v) None one rest all ih = absurd (missing vs all)
      both (Some v) (Some ws) one rest all ih =
          ap (λ x. bind x (λ w s1. bind (eval_all gx cg n inside es env s1) (λ us s2. Completes (w ∷ us) s2))) (const_value e v t one)
          ∙ ap (λ x. bind x (λ us s2. Completes (v ∷ us) s2)) (ih ws rest) ∙ ap (λ x. Completes x t) (same_some (v ∷ ws) vs all)

module _ (S : Type 0) (k : Likeness S) where
  -- a part that is like a value goes on with it
  after_value : {A B : Type 0} (x : Completion S A) (a : A) (t : S) (f : A → S → Completion S B) (y : Completion S B) → Like k x (Completes a t) → ((s : S) → k.rel s t → Like k (f a s) y) → Like k (bind x f) y
  after_value (Completes b s) a t f y h go = subst (λ c. Like k (f c s) y) (sym h.0) (go s h.1)
  after_value (Recurs vs s) a t f y h go = absurd h
  after_value (Faults g s) a t f y h go = absurd h
  after_value (Retries s) a t f y h go = absurd h
  after_value (Waits s) a t f y h go = absurd h
  after_value (OutOfTurns s) a t f y h go = absurd h
  after_value Invalid a t f y h go = loose_any S k y h

  chosen_like : (gx : Effects S) (cg : Bool → ℕ → List Value → S → Completion S Value) (n : ℕ) (inside : Bool) (env : List Value) (t : S) (v : Value) (x1 x2 : Completion S Value) (a b : Tree) → Like k x1 (eval gx cg n inside a env t) → Like k x2 (eval gx cg n inside b env t)
      → Like k (choose v x1 x2) (eval gx cg n inside (choose v a b) env t)
  chosen_like gx cg n inside env t Nil x1 x2 a b h1 h2 = h2
  chosen_like gx cg n inside env t (Truth true) x1 x2 a b h1 h2 = h1
  chosen_like gx cg n inside env t (Truth false) x1 x2 a b h1 h2 = h2
  chosen_like gx cg n inside env t (Int z) x1 x2 a b h1 h2 = h1
  chosen_like gx cg n inside env t (Key bs) x1 x2 a b h1 h2 = h1
  chosen_like gx cg n inside env t (Text bs) x1 x2 a b h1 h2 = h1
  chosen_like gx cg n inside env t (Vector vs) x1 x2 a b h1 h2 = h1
  chosen_like gx cg n inside env t (Cell c) x1 x2 a b h1 h2 = h1

none_before : (o : Option Value) (e : Tree) (es : Trees) → is_none es ≡ false → is_none (before o e es) ≡ false
none_before None e es h = refl
none_before (Some v) e es h = h

none_seen : (e : Tree) (es : Trees) → is_none (seen_items (more e es)) ≡ false
none_seen e none = refl
none_seen e (more f es) = none_before (value_of e) e (seen_items (more f es)) (none_seen f es)

module _ (S : Type 0) (k : Likeness S) (May : Kind) (Linked : Tree → List Value → Tree → List Value → Type 0) (fx gx : Effects S) (cf cg : Bool → ℕ → List Value → S → Completion S Value) (n : ℕ)
    (forms : FormsLike S k May Linked fx gx) (calls : CallsLike S k May cf cg) (linked : (e : Tree) (env : List Value) → Below May e → Linked e env (folded e) env) where
  settled_core_like : (inside : Bool) (op : Op) (es es1 : Trees) (m : Mark) (env : List Value) → MeanAll S k May Linked fx gx cf cg n forms calls inside es env es1 env
      → Means S k May Linked fx gx cf cg n forms calls inside (Core op es m) env (settled_core (constants es1) op es1 m) env
  settled_core_like inside op es es1 m env h = go (constants es1) refl
    where
      plain : Means S k May Linked fx gx cf cg n forms calls inside (Core op es m) env (Core op es1 m) env
      plain = core_like S k May Linked fx gx cf cg n forms calls inside m env env op es es1 h

      with_result : (vs : List Value) → constants es1 ≡ Some vs → (r : Result Value FaultKind) → core op vs ≡ r → Means S k May Linked fx gx cf cg n forms calls inside (Core op es m) env (settled r m (Core op es1 m)) env
      with_result vs are (Err e) is s t r = plain s t r
      with_result vs are (Ok v) is s t r =
          after_value S k (eval_all fx cf n inside es env s) vs t (λ ws s1. result_of (core op ws) m.span s1) (Completes v t) (subst (λ x. Like k (eval_all fx cf n inside es env s) x) (consts_values S gx cg n inside env es1 vs t are) (h s t r))
          (λ s1 r1. subst (λ x. Like k (result_of x m.span s1) (Completes v t)) (sym is) (refl, r1))

      test : (vs : List Value) → constants es1 ≡ Some vs → (b : Bool) → Means S k May Linked fx gx cf cg n forms calls inside (Core op es m) env (settled_on b vs op es1 m) env
      test vs are false s t r = plain s t r
      test vs are true s t r = with_result vs are (core op vs) refl s t r

      go : (o : Option (List Value)) → constants es1 ≡ o → Means S k May Linked fx gx cf cg n forms calls inside (Core op es m) env (settled_core o op es1 m) env
      go None are s t r = plain s t r
      go (Some vs) are s t r = test vs are (takes op (length vs)) s t r

  settled_vector_like : (inside : Bool) (es es1 : Trees) (m : Mark) (env : List Value) → MeanAll S k May Linked fx gx cf cg n forms calls inside es env es1 env
      → Means S k May Linked fx gx cf cg n forms calls inside (VectorOf es m) env (settled_vector (constants es1) es1 m) env
  settled_vector_like inside es es1 m env h = go (constants es1) refl
    where
      plain : Means S k May Linked fx gx cf cg n forms calls inside (VectorOf es m) env (VectorOf es1 m) env
      plain = vector_like S k May Linked fx gx cf cg n forms calls inside m env env es es1 h

      with_result : (vs : List Value) → constants es1 ≡ Some vs → (r : Result Value FaultKind) → vector_of vs ≡ r → Means S k May Linked fx gx cf cg n forms calls inside (VectorOf es m) env (settled r m (VectorOf es1 m)) env
      with_result vs are (Err e) is s t r = plain s t r
      with_result vs are (Ok v) is s t r =
          after_value S k (eval_all fx cf n inside es env s) vs t (λ ws s1. result_of (vector_of ws) m.span s1) (Completes v t) (subst (λ x. Like k (eval_all fx cf n inside es env s) x) (consts_values S gx cg n inside env es1 vs t are) (h s t r))
          (λ s1 r1. subst (λ x. Like k (result_of x m.span s1) (Completes v t)) (sym is) (refl, r1))

      go : (o : Option (List Value)) → constants es1 ≡ o → Means S k May Linked fx gx cf cg n forms calls inside (VectorOf es m) env (settled_vector o es1 m) env
      go None are s t r = plain s t r
      go (Some vs) are s t r = with_result vs are (vector_of vs) refl s t r

  chosen_means : (inside : Bool) (c a b c1 a1 b1 : Tree) (m : Mark) (env : List Value) → Means S k May Linked fx gx cf cg n forms calls inside c env c1 env → Means S k May Linked fx gx cf cg n forms calls inside a env a1 env → Means S k May Linked fx gx cf cg n forms calls inside b env b1 env
      → Means S k May Linked fx gx cf cg n forms calls inside (If c a b m) env (chosen (value_of c1) c1 a1 b1 m) env
  chosen_means inside c a b c1 a1 b1 m env hc ha hb = go (value_of c1) refl
    where
      go : (o : Option Value) → value_of c1 ≡ o → Means S k May Linked fx gx cf cg n forms calls inside (If c a b m) env (chosen o c1 a1 b1 m) env
      go None is s t r = if_like S k May Linked fx gx cf cg n forms calls inside m env env c a b c1 a1 b1 hc ha hb s t r
      go (Some v) is s t r =
          after_value S k (eval fx cf n inside c env s) v t (λ w s1. choose w (eval fx cf n inside a env s1) (eval fx cf n inside b env s1)) (eval gx cg n inside (choose v a1 b1) env t)
          (subst (λ x. Like k (eval fx cf n inside c env s) x) (const_value S gx cg n inside env c1 v t is) (hc s t r))
          (λ s1 r1. chosen_like S k gx cg n inside env t v (eval fx cf n inside a env s1) (eval fx cf n inside b env s1) a1 b1 (ha s1 t r1) (hb s1 t r1))

  whole_means : (inside : Bool) (es : Trees) (m : Mark) (env : List Value) (x : S → Completion S Value) → PartsLike S k x (eval_do gx cg n inside es env) → PartsLike S k x (eval gx cg n inside (whole es m) env)
  whole_means inside none m env x h = h
  whole_means inside (more e none) m env x h = h
  whole_means inside (more e (more f es)) m env x h = h

  before_means : (inside : Bool) (e e1 f : Tree) (es es1 : Trees) (env : List Value) → is_none es1 ≡ false → Means S k May Linked fx gx cf cg n forms calls inside e env e1 env → MeanDo S k May Linked fx gx cf cg n forms calls inside (more f es) env es1 env
      → MeanDo S k May Linked fx gx cf cg n forms calls inside (more e (more f es)) env (before (value_of e1) e1 es1) env
  before_means inside e e1 f es es1 env some h hs = go (value_of e1) refl
    where
      go : (o : Option Value) → value_of e1 ≡ o → MeanDo S k May Linked fx gx cf cg n forms calls inside (more e (more f es)) env (before o e1 es1) env
      go None is s t r = do_more S k May Linked fx gx cf cg n forms calls inside env env e e1 (more f es) es1 some h hs s t r
      go (Some v) is s t r =
          after_value S k (eval fx cf n inside e env s) v t (λ w s1. eval_do fx cf n inside (more f es) env s1) (eval_do gx cg n inside es1 env t)
          (subst (λ x. Like k (eval fx cf n inside e env s) x) (const_value S gx cg n inside env e1 v t is) (h s t r)) (λ s1 r1. hs s1 t r1)

  mutual
    pub folded_like : (inside : Bool) (e : Tree) (env : List Value) → Below May e → Means S k May Linked fx gx cf cg n forms calls inside e env (folded e) env
    folded_like inside (Const v m) env h = const_like S k May Linked fx gx cf cg n forms calls inside v m m env env
    folded_like inside (Local i m) env h = local_like S k May Linked fx gx cf cg n forms calls inside i i m env env refl
    folded_like inside (If c a b m) env h = chosen_means inside c a b (folded c) (folded a) (folded b) m env (folded_like inside c env h.0) (folded_like inside a env h.1) (folded_like inside b env h.2)
    folded_like inside (Do items m) env h = whole_means inside (seen_items (folded_all items)) m env (eval_do fx cf n inside items env) (do_folded inside items env h)
    folded_like inside (Let values body m) env h = let_like S k May Linked fx gx cf cg n forms calls inside m env env values body (folded_all values) (folded body) (let_folded inside values env h.0) (λ vs are. folded_like inside body (env ++ vs) h.1)
    folded_like inside (Loop values body m) env h =
        loop_like S k May Linked fx gx cf cg n forms calls inside m env env values body (folded_all values) (folded body) (count_folded values) (let_folded inside values env h.0) (λ vs are. folded_like inside body (env ++ vs) h.1)
    folded_like inside (Recur es m) env h = recur_like S k May Linked fx gx cf cg n forms calls inside m env env es (folded_all es) (all_folded_like inside es env h)
    folded_like inside (Core op es m) env h = settled_core_like inside op es (folded_all es) m env (all_folded_like inside es env h)
    folded_like inside (Call f es m) env h = call_like S k May Linked fx gx cf cg n forms calls inside m env env f es (folded_all es) h.1 (all_folded_like inside es env h.0)
    folded_like inside (VectorOf es m) env h = settled_vector_like inside es (folded_all es) m env (all_folded_like inside es env h)
    folded_like inside (Println es m) env h = println_like S k May Linked fx gx cf cg n forms calls inside m env env es (folded_all es) (all_folded_like inside es env h)
    folded_like inside (Dosync body m) env h = dosync_like S k May Linked fx gx cf cg n forms calls inside m env env body (folded body) (linked body env h.0) h.1 (folded_like true body env h.0)
    folded_like inside (Look form cell m) env h = look_like S k May Linked fx gx cf cg n forms calls inside m env env form cell (folded cell) (folded_like inside cell env h)
    folded_like inside (Put form cell value m) env h = put_like S k May Linked fx gx cf cg n forms calls inside m env env form cell value (folded cell) (folded value) h.2 (folded_like inside cell env h.0) (folded_like inside value env h.1)
    folded_like inside (Update form cell callee es m) env h = update_like S k May Linked fx gx cf cg n forms calls inside m env env form cell (folded cell) callee es (folded_all es) h.2 h.3 (folded_like inside cell env h.0) (all_folded_like inside es env h.1)
    folded_like inside (Send cell callee es m) env h = send_like S k May Linked fx gx cf cg n forms calls inside m env env cell (folded cell) callee es (folded_all es) (folded_like inside cell env h.0) (all_folded_like inside es env h.1)

    all_folded_like : (inside : Bool) (es : Trees) (env : List Value) → AllBelow May es → MeanAll S k May Linked fx gx cf cg n forms calls inside es env (folded_all es) env
    all_folded_like inside none env h = all_none S k May Linked fx gx cf cg n forms calls inside env env
    all_folded_like inside (more e es) env h = all_more S k May Linked fx gx cf cg n forms calls inside env env e (folded e) es (folded_all es) (folded_like inside e env h.0) (all_folded_like inside es env h.1)

    let_folded : (inside : Bool) (es : Trees) (env : List Value) → AllBelow May es → MeanLet S k May Linked fx gx cf cg n forms calls inside es env (folded_all es) env
    let_folded inside none env h = let_none S k May Linked fx gx cf cg n forms calls inside env env
    let_folded inside (more e es) env h = let_more S k May Linked fx gx cf cg n forms calls inside env env e (folded e) es (folded_all es) (folded_like inside e env h.0) (λ v. let_folded inside es (env ++ v ∷ []) h.1)

    do_folded : (inside : Bool) (es : Trees) (env : List Value) → AllBelow May es → MeanDo S k May Linked fx gx cf cg n forms calls inside es env (seen_items (folded_all es)) env
    do_folded inside none env h = do_none S k May Linked fx gx cf cg n forms calls inside env env
    do_folded inside (more e none) env h = do_more S k May Linked fx gx cf cg n forms calls inside env env e (folded e) none none refl (folded_like inside e env h.0) (do_none S k May Linked fx gx cf cg n forms calls inside env env)
    do_folded inside (more e (more f es)) env h =
        before_means inside e (folded e) f es (seen_items (folded_all (more f es))) env (none_seen (folded f) (folded_all es)) (folded_like inside e env h.0) (do_folded inside (more f es) env h.1)
