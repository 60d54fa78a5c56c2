-- A let of the arguments gives the values that the arguments give.
use Rattle.std.proofs.Common.{◌≡◌, ℕ, suc, Bool, List, [], ◌∷◌, ◌++◌, length, refl, sym, subst, append_assoc, length-append, arith}
use Rattle.std.proofs.lemmas.List.{append-nil}
use Rattle.txs_value_data.specs.declared.value.Value.{Value}
use Rattle.txs_tree_meaning.specs.Meaning.{Completion, Completes, Effects, bind, eval, eval_all, eval_let}
use Rattle.txs_tree_meaning.specs.Tree.{Tree, Trees, none, more}
use Rattle.txs_tree_meaning.specs.Shift.{shifted}
use Rattle.txs_opt.specs.Inline.{bound}
use Rattle.txs_opt.proofs.Below.{Kind, Below, AllBelow}
use Rattle.txs_opt.proofs.Like.{Likeness, PartsLike, bind_like}
use Rattle.txs_opt.proofs.Parts.{FormsLike, CallsLike}
use Rattle.txs_opt.proofs.Shifting.{Wider, wider_behind, shifted_like}

module _ (S : Type 0) (k : Likeness S) (May : Kind) (Linked : Tree → List Value → Tree → List Value → Type 0) (fx gx : Effects S) (cf cg : Bool → ℕ → List Value → S → Completion S Value) (n : ℕ)
    (forms : FormsLike S k May Linked fx gx) (calls : CallsLike S k May cf cg) (linked : (c j : ℕ) (e : Tree) (env env1 : List Value) → Below May e → Wider c j env env1 → Linked e env (shifted c j e) env1) where
  moved_on : (inside : Bool) (es : Trees) (env front locals : List Value) (j : ℕ) → locals ≡ env ++ front → length front ≡ j → PartsLike S k (eval_all fx cf n inside es env) (eval_let gx cg n inside (bound (length env) (length front) es) (env ++ front))
      → PartsLike S k (eval_all fx cf n inside es env) (eval_let gx cg n inside (bound (length env) j es) locals)
  moved_on inside es env front locals j at_locals at_j h =
      subst (λ i. PartsLike S k (eval_all fx cf n inside es env) (eval_let gx cg n inside (bound (length env) i es) locals)) at_j
      (subst (λ l. PartsLike S k (eval_all fx cf n inside es env) (eval_let gx cg n inside (bound (length env) (length front) es) l)) (sym at_locals) h)

  bound_from : (inside : Bool) (es : Trees) (env front : List Value) → AllBelow May es → PartsLike S k (eval_all fx cf n inside es env) (eval_let gx cg n inside (bound (length env) (length front) es) (env ++ front))
  bound_from inside none env front h s t r = (refl, r)
  bound_from inside (more e es) env front h s t r =
      let j = length front in
      let e1 = shifted (length env) j e in
      let es1 = bound (length env) (suc j) es in
      bind_like S k (eval fx cf n inside e env s) (eval gx cg n inside e1 (env ++ front) t)
      (λ v s1. bind (eval_all fx cf n inside es env s1) (λ vs s2. Completes (v ∷ vs) s2)) (λ v t1. bind (eval_let gx cg n inside es1 (env ++ front ++ v ∷ []) t1) (λ vs t2. Completes (v ∷ vs) t2))
      (shifted_like S k May Linked fx gx cf cg n forms calls (length env) j (linked (length env) j) inside e env (env ++ front) h.0 (wider_behind env front) s t r)
      (λ v s1 t1 r1. bind_like S k (eval_all fx cf n inside es env s1) (eval_let gx cg n inside es1 (env ++ front ++ v ∷ []) t1) (λ vs s2. Completes (v ∷ vs) s2) (λ vs t2. Completes (v ∷ vs) t2)
      (moved_on inside es env (front ++ v ∷ []) (env ++ front ++ v ∷ []) (suc j) (append_assoc env front (v ∷ [])) (omega (arith, length-append front (v ∷ []))) (λ s3 t3 r3. bound_from inside es env (front ++ v ∷ []) h.1 s3 t3 r3) s1 t1 r1) (λ vs s2 t2 r2. (refl, r2)))

  -- a let of these, with so many locals
  pub bound_like : (inside : Bool) (es : Trees) (env : List Value) (d : ℕ) → AllBelow May es → length env ≡ d → PartsLike S k (eval_all fx cf n inside es env) (eval_let gx cg n inside (bound d 0 es) env)
  bound_like inside es env d h is =
      subst (λ i. PartsLike S k (eval_all fx cf n inside es env) (eval_let gx cg n inside (bound i 0 es) env)) is (moved_on inside es env [] env 0 (sym (append-nil env)) refl (bound_from inside es env [] h))
