-- Where more locals come in, a tree that is shifted by as many means what it meant.
use Rattle.std.proofs.Common.{◌≡◌, ℕ, zero, suc, ◌+◌, ◌-◌, ◌<◌, ◌≤◌, nat_lt, Bool, true, false, if◌then◌else◌, List, [], ◌∷◌, ◌++◌, length, refl, sym, ap, ◌∙◌, append_assoc, arith}
use Rattle.std.proofs.lemmas.List.{append-nil}
use Rattle.txs_value_data.specs.Places.{nth}
use Rattle.txs_value_data.specs.declared.value.Value.{Value}
use Rattle.txs_tree_meaning.specs.Meaning.{Completion, Effects}
use Rattle.txs_tree_meaning.specs.Tree.{Tree, Const, Local, If, Do, Let, Loop, Recur, Core, Call, VectorOf, Println, Dosync, Look, Put, Update, Send, Trees, none, more, count, is_none}
use Rattle.txs_tree_meaning.specs.Shift.{moved, shifted, all_shifted}
use Rattle.txs_opt.proofs.Below.{Kind, Below, AllBelow}
use Rattle.txs_opt.proofs.Like.{Likeness}
use Rattle.txs_opt.proofs.Parts.{FormsLike, CallsLike, Means, MeanAll, MeanLet, MeanDo, const_like, local_like, if_like, let_like, loop_like, recur_like, core_like, call_like, vector_like, println_like, dosync_like, look_like, put_like, update_like, send_like, all_none, all_more, let_none, let_more, do_none, do_more}

-- the second list has k more before the items from c on
pub record Wider (c k : ℕ) (env env1 : List Value) : Type 0 where
  pub front : List Value
  pub fresh : List Value
  pub back : List Value
  pub plain : env ≡ front ++ back
  pub wide : env1 ≡ front ++ fresh ++ back
  pub place : length front ≡ c
  pub number : length fresh ≡ k

pub wider_more : (c k : ℕ) (env env1 vs : List Value) → Wider c k env env1 → Wider c k (env ++ vs) (env1 ++ vs)
wider_more c k env env1 vs w = record {
  front = w.front;
  fresh = w.fresh;
  back = w.back ++ vs;
  plain = ap (λ l. l ++ vs) w.plain ∙ append_assoc w.front w.back vs;
  wide = ap (λ l. l ++ vs) w.wide ∙ append_assoc (w.front ++ w.fresh) w.back vs;
  place = w.place;
  number = w.number;
}

nth_front : (xs ys : List Value) (i : ℕ) → i < length xs → nth (xs ++ ys) i ≡ nth xs i
nth_front [] ys i lt = absurd (omega (arith, lt))
nth_front (x ∷ xs) ys zero lt = refl
nth_front (x ∷ xs) ys (suc i) lt = nth_front xs ys i (omega (arith, lt))

nth_back : (xs ys : List Value) (j : ℕ) → nth (xs ++ ys) (length xs + j) ≡ nth ys j
nth_back [] ys j = ap (nth ys) (omega arith)
nth_back (x ∷ xs) ys j =
    let e : suc (length xs) + j ≡ suc (length xs + j) = omega arith in
    ap (nth (x ∷ xs ++ ys)) e ∙ nth_back xs ys j

lower : (i c : ℕ) → nat_lt i c ≡ true → i < c
lower i c h = grind (arith, h)

higher : (i c : ℕ) → nat_lt i c ≡ false → c ≤ i
higher i c h = grind (arith, h)

moved_at : (xs fresh ys : List Value) (i : ℕ) (b : Bool) → nat_lt i (length xs) ≡ b → nth (xs ++ fresh ++ ys) (if b then i else i + length fresh) ≡ nth (xs ++ ys) i
moved_at xs fresh ys i true h =
    let lt = lower i (length xs) h in
    ap (λ l. nth l i) (append_assoc xs fresh ys) ∙ nth_front xs (fresh ++ ys) i lt ∙ sym (nth_front xs ys i lt)
moved_at xs fresh ys i false h =
    let le = higher i (length xs) h in
    let j = i - length xs in
    let e : i ≡ length xs + j = omega (arith, le) in
    let e1 : i + length fresh ≡ length xs + (length fresh + j) = omega (arith, le) in
    ap (λ l. nth l (i + length fresh)) (append_assoc xs fresh ys) ∙ ap (nth (xs ++ (fresh ++ ys))) e1 ∙ nth_back xs (fresh ++ ys) (length fresh + j) ∙ nth_back fresh ys j ∙ sym (nth_back xs ys j) ∙ ap (nth (xs ++ ys)) (sym e)

pub wider_at : (c k : ℕ) (env env1 : List Value) (i : ℕ) → Wider c k env env1 → nth env1 (moved c k i) ≡ nth env i
wider_at c k env env1 i w =
    ap (λ l. nth l (moved c k i)) w.wide ∙ ap (λ d. nth (w.front ++ w.fresh ++ w.back) (moved d k i)) (sym w.place) ∙ ap (λ d. nth (w.front ++ w.fresh ++ w.back) (moved (length w.front) d i)) (sym w.number)
    ∙ moved_at w.front w.fresh w.back i (nat_lt i (length w.front)) refl ∙ ap (λ l. nth l i) (sym w.plain)

-- more locals behind all that were there
pub wider_behind : (env vs : List Value) → Wider (length env) (length vs) env (env ++ vs)
wider_behind env vs = record { front = env; fresh = vs; back = []; plain = sym (append-nil env); wide = sym (append-nil (env ++ vs)); place = refl; number = refl }

-- more locals before all that were there
pub wider_before : (env vs : List Value) → Wider 0 (length env) vs (env ++ vs)
wider_before env vs = record { front = []; fresh = env; back = vs; plain = refl; wide = refl; place = refl; number = refl }

pub count_shifted : (c k : ℕ) (es : Trees) → count (all_shifted c k es) ≡ count es
count_shifted c k none = refl
count_shifted c k (more e es) = ap suc (count_shifted c k es)

pub none_shifted : (c k : ℕ) (es : Trees) → is_none (all_shifted c k es) ≡ is_none es
none_shifted c k none = refl
none_shifted c k (more e es) = refl

module _ (S : Type 0) (k : Likeness S) (May : Kind) (Linked : Tree → List Value → Tree → List Value → Type 0) (fx gx : Effects S) (cf cg : Bool → ℕ → List Value → S → Completion S Value) (n : ℕ)
    (forms : FormsLike S k May Linked fx gx) (calls : CallsLike S k May cf cg) (c j : ℕ) (linked : (e : Tree) (env env1 : List Value) → Below May e → Wider c j env env1 → Linked e env (shifted c j e) env1) where
  mutual
    pub shifted_like : (inside : Bool) (e : Tree) (env env1 : List Value) → Below May e → Wider c j env env1 → Means S k May Linked fx gx cf cg n forms calls inside e env (shifted c j e) env1
    shifted_like inside (Const v m) env env1 h w = const_like S k May Linked fx gx cf cg n forms calls inside v m m env env1
    shifted_like inside (Local i m) env env1 h w = local_like S k May Linked fx gx cf cg n forms calls inside i (moved c j i) m env env1 (wider_at c j env env1 i w)
    shifted_like inside (If t a b m) env env1 h w =
        if_like S k May Linked fx gx cf cg n forms calls inside m env env1 t a b (shifted c j t) (shifted c j a) (shifted c j b) (shifted_like inside t env env1 h.0 w) (shifted_like inside a env env1 h.1 w) (shifted_like inside b env env1 h.2 w)
    shifted_like inside (Do items m) env env1 h w = do_shifted inside items env env1 h w
    shifted_like inside (Let values body m) env env1 h w =
        let_like S k May Linked fx gx cf cg n forms calls inside m env env1 values body (all_shifted c j values) (shifted c j body) (let_shifted inside values env env1 h.0 w)
        (λ vs are. shifted_like inside body (env ++ vs) (env1 ++ vs) h.1 (wider_more c j env env1 vs w))
    shifted_like inside (Loop values body m) env env1 h w =
        loop_like S k May Linked fx gx cf cg n forms calls inside m env env1 values body (all_shifted c j values) (shifted c j body) (count_shifted c j values) (let_shifted inside values env env1 h.0 w)
        (λ vs are. shifted_like inside body (env ++ vs) (env1 ++ vs) h.1 (wider_more c j env env1 vs w))
    shifted_like inside (Recur es m) env env1 h w = recur_like S k May Linked fx gx cf cg n forms calls inside m env env1 es (all_shifted c j es) (all_shifted_like inside es env env1 h w)
    shifted_like inside (Core op es m) env env1 h w = core_like S k May Linked fx gx cf cg n forms calls inside m env env1 op es (all_shifted c j es) (all_shifted_like inside es env env1 h w)
    shifted_like inside (Call f es m) env env1 h w = call_like S k May Linked fx gx cf cg n forms calls inside m env env1 f es (all_shifted c j es) h.1 (all_shifted_like inside es env env1 h.0 w)
    shifted_like inside (VectorOf es m) env env1 h w = vector_like S k May Linked fx gx cf cg n forms calls inside m env env1 es (all_shifted c j es) (all_shifted_like inside es env env1 h w)
    shifted_like inside (Println es m) env env1 h w = println_like S k May Linked fx gx cf cg n forms calls inside m env env1 es (all_shifted c j es) (all_shifted_like inside es env env1 h w)
    shifted_like inside (Dosync body m) env env1 h w = dosync_like S k May Linked fx gx cf cg n forms calls inside m env env1 body (shifted c j body) (linked body env env1 h.0 w) h.1 (shifted_like true body env env1 h.0 w)
    shifted_like inside (Look form cell m) env env1 h w = look_like S k May Linked fx gx cf cg n forms calls inside m env env1 form cell (shifted c j cell) (shifted_like inside cell env env1 h w)
    shifted_like inside (Put form cell value m) env env1 h w =
        put_like S k May Linked fx gx cf cg n forms calls inside m env env1 form cell value (shifted c j cell) (shifted c j value) h.2 (shifted_like inside cell env env1 h.0 w) (shifted_like inside value env env1 h.1 w)
    shifted_like inside (Update form cell callee es m) env env1 h w =
        update_like S k May Linked fx gx cf cg n forms calls inside m env env1 form cell (shifted c j cell) callee es (all_shifted c j es) h.2 h.3 (shifted_like inside cell env env1 h.0 w) (all_shifted_like inside es env env1 h.1 w)
    shifted_like inside (Send cell callee es m) env env1 h w =
        send_like S k May Linked fx gx cf cg n forms calls inside m env env1 cell (shifted c j cell) callee es (all_shifted c j es) (shifted_like inside cell env env1 h.0 w) (all_shifted_like inside es env env1 h.1 w)

    all_shifted_like : (inside : Bool) (es : Trees) (env env1 : List Value) → AllBelow May es → Wider c j env env1 → MeanAll S k May Linked fx gx cf cg n forms calls inside es env (all_shifted c j es) env1
    all_shifted_like inside none env env1 h w = all_none S k May Linked fx gx cf cg n forms calls inside env env1
    all_shifted_like inside (more e es) env env1 h w =
        all_more S k May Linked fx gx cf cg n forms calls inside env env1 e (shifted c j e) es (all_shifted c j es) (shifted_like inside e env env1 h.0 w) (all_shifted_like inside es env env1 h.1 w)

    let_shifted : (inside : Bool) (es : Trees) (env env1 : List Value) → AllBelow May es → Wider c j env env1 → MeanLet S k May Linked fx gx cf cg n forms calls inside es env (all_shifted c j es) env1
    let_shifted inside none env env1 h w = let_none S k May Linked fx gx cf cg n forms calls inside env env1
    let_shifted inside (more e es) env env1 h w =
        let_more S k May Linked fx gx cf cg n forms calls inside env env1 e (shifted c j e) es (all_shifted c j es) (shifted_like inside e env env1 h.0 w) (λ v. let_shifted inside es (env ++ v ∷ []) (env1 ++ v ∷ []) h.1 (wider_more c j env env1 (v ∷ []) w))

    do_shifted : (inside : Bool) (es : Trees) (env env1 : List Value) → AllBelow May es → Wider c j env env1 → MeanDo S k May Linked fx gx cf cg n forms calls inside es env (all_shifted c j es) env1
    do_shifted inside none env env1 h w = do_none S k May Linked fx gx cf cg n forms calls inside env env1
    do_shifted inside (more e es) env env1 h w =
        do_more S k May Linked fx gx cf cg n forms calls inside env env1 e (shifted c j e) es (all_shifted c j es) (none_shifted c j es) (shifted_like inside e env env1 h.0 w) (do_shifted inside es env env1 h.1 w)
