-- A transaction's body on two worlds: one induction on trees, and one on the depth of calls.
use Rattle.std.proofs.Common.{◌≡◌, ℕ, zero, suc, ◌<◌, Bool, true, false, List, [], ◌∷◌, ◌++◌, Option, Some, None, length, take, refl, sym, ap, ◌∙◌, subst, arith}
use Rattle.std.proofs.lemmas.Bool.{false≢true}
use Rattle.txs_value_cell.specs.Cells.{World}
use Rattle.txs_value_cell.specs.Forms.{rule, cell_of}
use Rattle.txs_value_cell.specs.declared.form.CellForm.TheVariants as form_of
use Rattle.txs_value_cell.specs.declared.form.LookForm.{LookForm}
use Rattle.txs_value_cell.specs.declared.form.PutForm.{PutForm}
use Rattle.txs_value_cell.specs.declared.form.UpdateForm.{UpdateForm}
use Rattle.txs_frame.specs.Frame.{hold_send}
use Rattle.txs_value_apply.specs.Core.{core, vector_of}
use Rattle.txs_value_apply.specs.Truth.{choose}
use Rattle.txs_value_data.specs.Places.{nth}
use Rattle.txs_value_data.specs.declared.op.Callee.{Callee}
use Rattle.txs_value_data.specs.declared.op.Callee.TheVariants.{Core as CoreOp, Function}
use Rattle.txs_tree_meaning.specs.Known.{Known, is_pure, known}
use Rattle.txs_tree_meaning.specs.Meaning.{Completion, Completes, Recurs, Invalid, bind, give, result_of, Applies, turns, apply, eval, eval_all, eval_let, eval_do, call_at}
use Rattle.txs_tree_meaning.specs.Pure.{nowhere}
use Rattle.txs_tree_meaning.specs.Sound.{in_function, in_dosync, SoundTree, SoundCallee, SoundFunctions}
use Rattle.txs_tree_meaning.specs.Transaction.{TxState, tx_look, tx_put, tx_update, in_transaction}
use Rattle.txs_tree_meaning.specs.Tree.{Mark, Tree, Const, Local, If, Do, Let, Loop, Recur, Core, Call, VectorOf, Println, Dosync, Look, Put, Update, Send, Trees, none, more, count, PlainFunction}
use Rattle.txs_tree_meaning.proofs.Marks.{marked_less}
use Rattle.txs_tree_meaning.proofs.Callable.{function_at, nth-take, nth-length, length-known}
use Rattle.txs_value_data.specs.declared.value.Value.{Value}
use Rattle.txs_theorem_threads.proofs.Callees.{Rules, Keeps, KeepAll, keeps_in, IsPure, sound_pure}
use Rattle.txs_theorem_threads.proofs.Quiet.{quietly, callee_carried}
use Rattle.txs_tree_meaning.specs.Marked.{Marked, MarkedAll, MarkedDo, MarkedFunctions}
use Rattle.txs_theorem_serial.proofs.Depth.{Below, same_value}
use Rattle.txs_theorem_serial.proofs.Carrying.{moved, Carried, bind_carried, then_carried, closed_carried, loosened, turns_carried, choose_carried, value_carried, recur_carried, give_carried, result_carried, look_carried, put_carried, update_carried, send_carried, cell_carried}

IsThere : {A : Type 0} → Option A → Type 0
IsThere None = ⊥
IsThere (Some a) = Unit {0}

-- each of marked functions
pub marked_at : (fs : List PlainFunction) (f : ℕ) (fun : PlainFunction) → MarkedFunctions fs → nth fs f ≡ Some fun → Marked true fun.body
unfolding IsThere
marked_at [] f fun h e = absurd (subst IsThere (sym e) tt)
marked_at (g ∷ fs) zero fun h e = let same : g ≡ fun = cc in subst (λ x. Marked true x.body) same h.0
marked_at (g ∷ fs) (suc f) fun h e = marked_at fs f fun h.1 e

-- a pure function is one of all
pub pure_below : (fs : List PlainFunction) (c : Callee) → IsPure (known fs) c → Below (length fs) c
pure_below fs (CoreOp op) h = tt
pure_below fs (Function f) h = go (nth (known fs) f) refl h
  where
    go : (o : Option Known) → nth (known fs) f ≡ o → is_pure o ≡ true → f < length fs
    go None e p = absurd (false≢true p)
    go (Some k) e p = subst (λ n. f < n) (length-known fs) (nth-length (known fs) f k e)

-- what stands in a body from which calls go so deep: pure callees and calls, of functions below that depth
abbrev pub within : List PlainFunction → ℕ → Rules
within fs b = record {
  callee = λ c. IsPure (known fs) c × Below b c;
  form = λ inside form. Unit {0};
  call = λ inside g. g < b;
}

-- the body of a function, one call deeper
function_within : (fs : List PlainFunction) → SoundFunctions [] fs → (b : ℕ) (inside : Bool) (f : ℕ) (fun : PlainFunction) → nth fs f ≡ Some fun → f < suc b → Keeps (within fs b) inside fun.body
function_within fs sound b inside f fun found le =
    let here = function_at fs f fun sound found in
    keeps_in (take f (known fs)) (within fs b) (λ z i. Unit {0}) tt callees (λ z i form at m. tt)
    (λ z i g n at m. let l = (nth-take f (known fs) g m.function m.found).0 in omega (arith, l, le)) fun.body in_function inside fun.parameters (Some fun.parameters) tt here.1.1
  where
    callees : (c : Callee) (n : ℕ) → SoundCallee (take f (known fs)) c n → IsPure (known fs) c × Below b c
    callees (CoreOp op) n h = (tt, tt)
    callees (Function g) n h =
        let at = nth-take f (known fs) g h.function h.found in
        let l = at.0 in
        (ap is_pure at.1 ∙ h.pure, omega (arith, l, le))

-- the body of a sound transaction
pub body_within : (fs : List PlainFunction) (e : Tree) (d : ℕ) → SoundTree (known fs) in_dosync d None e → Keeps (within fs (length fs)) true e
body_within fs e d h =
    keeps_in (known fs) (within fs (length fs)) (λ z i. Unit {0}) tt (λ c n s. let p = sound_pure (known fs) c n s in (p, pure_below fs c p)) (λ z i form at m. tt)
    (λ z i g n at m. subst (λ k. g < k) (length-known fs) (nth-length (known fs) g m.function m.found)) e in_dosync true d None tt h

module _ (n : ℕ) (functions : List PlainFunction) (sound : SoundFunctions [] functions) (marks : MarkedFunctions functions) (R C : World) where
  abbrev q : Applies (Unit {0})
  q = quietly n functions (length functions) nowhere

  abbrev P : Callee → Type 0
  P = IsPure (known functions)

  abbrev pub callR : ℕ → Bool → ℕ → List Value → TxState → Completion TxState Value
  callR b = call_at (λ e. in_transaction R) n functions b

  abbrev pub callC : ℕ → Bool → ℕ → List Value → TxState → Completion TxState Value
  callC b = call_at (λ e. in_transaction C) n functions b

  abbrev CallsCarried : ℕ → Type 0
  CallsCarried b = (inside : Bool) (g : ℕ) (us : List Value) (s : TxState) → g < b → Carried q R C P true s (callR b inside g us s) (λ xs. callC b inside g us (moved xs s))

  module _ (b : ℕ) (calls : CallsCarried b) where
    abbrev onR : Bool → Tree → List Value → TxState → Completion TxState Value
    onR inside e env s = eval (in_transaction R) (callR b) n inside e env s

    abbrev onC : Bool → Tree → List Value → TxState → Completion TxState Value
    onC inside e env s = eval (in_transaction C) (callC b) n inside e env s

    looks : (w : Bool) (form : LookForm) (inside : Bool) (m : Mark) (v : Value) (s : TxState) → Carried q R C P w s ((in_transaction R).look form inside m v s) (λ xs. (in_transaction C).look form inside m v (moved xs s))
    looks w form inside m v s = cell_carried q R C P w (cell_of (rule (form_of.Look form)) true v) m.span (tx_look R form) (tx_look C form) s (λ c. look_carried q R C P w form c s)

    puts : (w : Bool) (form : PutForm) (inside : Bool) (m : Mark) (v u : Value) (f g : Applies TxState) (s : TxState) → Carried q R C P w s ((in_transaction R).put form inside m v u f s) (λ xs. (in_transaction C).put form inside m v u g (moved xs s))
    puts w form inside m v u f g s = cell_carried q R C P w (cell_of (rule (form_of.Put form)) true v) m.span (λ c t. tx_put form m.span c u t) (λ c t. tx_put form m.span c u t) s (λ c. put_carried q R C P w form m.span c u s)

    updates : (w : Bool) (form : UpdateForm) (inside : Bool) (m : Mark) → (w ≡ true → m.wanted ≡ true) → (v : Value) (callee : Callee) → IsPure (known functions) callee × Below b callee → (vs : List Value) (s : TxState)
        → Carried q R C P w s ((in_transaction R).update form inside m v callee vs (apply (callR b inside) m.span) s) (λ xs. (in_transaction C).update form inside m v callee vs (apply (callC b inside) m.span) (moved xs s))
    updates w form inside m marked v callee h vs s =
        let f : Applies TxState = apply (callR b inside) m.span in
        let g : Applies TxState = apply (callC b inside) m.span in
        cell_carried q R C P w (cell_of (rule (form_of.Update form)) true v) m.span (λ c t. tx_update R form m c callee vs f t) (λ c t. tx_update C form m c callee vs g t) s
        (λ c. update_carried q R C P f g callee (λ us. quietly n functions b m.span callee us tt)
        (λ us t. (callee_carried (λ e. in_transaction R) n inside functions sound b m.span callee us t h.0).0)
        (λ us t. (callee_carried (λ e. in_transaction C) n inside functions sound b m.span callee us t h.0).0)
        h.0 (λ us u e. same_value n functions sound (length functions) b nowhere m.span callee us u (pure_below functions callee h.0) h.1 e)
        w form m marked c vs s)

    sends : (w : Bool) (inside : Bool) (m : Mark) (v : Value) (callee : Callee) (vs : List Value) (s : TxState) → Carried q R C P w s ((in_transaction R).send inside m v callee vs s) (λ xs. (in_transaction C).send inside m v callee vs (moved xs s))
    sends w inside m v callee vs s =
        cell_carried q R C P w (cell_of (rule form_of.Send) true v) m.span
        (λ c t. Completes v (record t { done = hold_send (record { agent = c; callee = callee; args = vs; span = m.span }) t.done })) (λ c t. Completes v (record t { done = hold_send (record { agent = c; callee = callee; args = vs; span = m.span }) t.done })) s
        (λ c. send_carried q R C P w v (record { agent = c; callee = callee; args = vs; span = m.span }) s)

    mutual
      pub tree_carried : (e : Tree) (inside w : Bool) (env : List Value) (s : TxState) → Keeps (within functions b) inside e → Marked w e → Carried q R C P w s (onR inside e env s) (λ xs. onC inside e env (moved xs s))
      tree_carried (Const v m) inside w env s p k = value_carried q R C P w s v
      tree_carried (Local i m) inside w env s p k = give_carried q R C P w s (nth env i)
      tree_carried (If c x y m) inside w env s p k =
          bind_carried q R C P w s (onR inside c env s) (λ xs. onC inside c env (moved xs s)) (λ v s1. choose v (onR inside x env s1) (onR inside y env s1)) (λ v s1. choose v (onC inside x env s1) (onC inside y env s1))
          (tree_carried c inside true env s p.0 k.1)
          (λ v s1. choose_carried q R C P w s1 v (onR inside x env s1) (onR inside y env s1) (λ xs. onC inside x env (moved xs s1)) (λ xs. onC inside y env (moved xs s1)) (tree_carried x inside w env s1 p.1 k.2) (tree_carried y inside w env s1 p.2 k.3))
      tree_carried (Do items m) inside w env s p k = do_carried items inside w env s p k.1
      tree_carried (Let values body m) inside w env s p k =
          bind_carried q R C P w s (eval_let (in_transaction R) (callR b) n inside values env s) (λ xs. eval_let (in_transaction C) (callC b) n inside values env (moved xs s)) (λ vs s1. onR inside body (env ++ vs) s1) (λ vs s1. onC inside body (env ++ vs) s1)
          (let_carried values inside env s p.0 k.1) (λ vs s1. tree_carried body inside w (env ++ vs) s1 p.1 k.2)
      tree_carried (Loop values body m) inside w env s p k =
          bind_carried q R C P w s (eval_let (in_transaction R) (callR b) n inside values env s) (λ xs. eval_let (in_transaction C) (callC b) n inside values env (moved xs s))
          (λ vs s1. turns n (count values) (λ us s2. onR inside body (env ++ us) s2) vs s1) (λ vs s1. turns n (count values) (λ us s2. onC inside body (env ++ us) s2) vs s1)
          (let_carried values inside env s p.0 k.1)
          (λ vs s1. turns_carried q R C P w n (count values) (λ us s2. onR inside body (env ++ us) s2) (λ us s2. onC inside body (env ++ us) s2) (λ us s2. tree_carried body inside w (env ++ us) s2 p.1 k.2) vs s1)
      tree_carried (Recur values m) inside w env s p k =
          bind_carried q R C P w s (eval_all (in_transaction R) (callR b) n inside values env s) (λ xs. eval_all (in_transaction C) (callC b) n inside values env (moved xs s)) (λ vs s1. Recurs vs s1) (λ vs s1. Recurs vs s1)
          (all_carried values inside env s p k.1) (λ vs s1. recur_carried q R C P w s1 vs)
      tree_carried (Core op args m) inside w env s p k =
          bind_carried q R C P w s (eval_all (in_transaction R) (callR b) n inside args env s) (λ xs. eval_all (in_transaction C) (callC b) n inside args env (moved xs s)) (λ vs s1. result_of (core op vs) m.span s1) (λ vs s1. result_of (core op vs) m.span s1)
          (all_carried args inside env s p k.1) (λ vs s1. result_carried q R C P w s1 (core op vs) m.span)
      tree_carried (Call f args m) inside w env s p k =
          bind_carried q R C P w s (eval_all (in_transaction R) (callR b) n inside args env s) (λ xs. eval_all (in_transaction C) (callC b) n inside args env (moved xs s)) (λ vs s1. callR b inside f vs s1) (λ vs s1. callC b inside f vs s1)
          (all_carried args inside env s p.1 k.1) (λ vs s1. loosened q R C P w s1 (callR b inside f vs s1) (λ xs. callC b inside f vs (moved xs s1)) (calls inside f vs s1 p.0))
      tree_carried (VectorOf items m) inside w env s p k =
          bind_carried q R C P w s (eval_all (in_transaction R) (callR b) n inside items env s) (λ xs. eval_all (in_transaction C) (callC b) n inside items env (moved xs s)) (λ vs s1. result_of (vector_of vs) m.span s1) (λ vs s1. result_of (vector_of vs) m.span s1)
          (all_carried items inside env s p k.1) (λ vs s1. result_carried q R C P w s1 (vector_of vs) m.span)
      tree_carried (Println args m) inside w env s p k =
          bind_carried q R C P w s (eval_all (in_transaction R) (callR b) n inside args env s) (λ xs. eval_all (in_transaction C) (callC b) n inside args env (moved xs s)) (λ vs s1. Invalid) (λ vs s1. Invalid)
          (all_carried args inside env s p k.1) (λ vs s1. (tt, λ xs near. tt, tt))
      tree_carried (Dosync body m) inside w env s p k = closed_carried q R C P w s (onR true body env s) (λ xs. onC true body env (moved xs s)) (tree_carried body true w env s p (marked_less m.wanted w k.0 body k.1))
      tree_carried (Look form cell m) inside w env s p k =
          bind_carried q R C P w s (onR inside cell env s) (λ xs. onC inside cell env (moved xs s)) (λ c s1. (in_transaction R).look form inside m c s1) (λ c s1. (in_transaction C).look form inside m c s1)
          (tree_carried cell inside true env s p.1 k.1) (λ c s1. looks w form inside m c s1)
      tree_carried (Put form cell value m) inside w env s p k =
          bind_carried q R C P w s (onR inside cell env s) (λ xs. onC inside cell env (moved xs s))
          (λ c s1. bind (onR inside value env s1) (λ v s2. (in_transaction R).put form inside m c v (apply (callR b inside) m.span) s2)) (λ c s1. bind (onC inside value env s1) (λ v s2. (in_transaction C).put form inside m c v (apply (callC b inside) m.span) s2))
          (tree_carried cell inside true env s p.1 k.1)
          (λ c s1. bind_carried q R C P w s1 (onR inside value env s1) (λ xs. onC inside value env (moved xs s1)) (λ v s2. (in_transaction R).put form inside m c v (apply (callR b inside) m.span) s2) (λ v s2. (in_transaction C).put form inside m c v (apply (callC b inside) m.span) s2)
          (tree_carried value inside true env s1 p.2 k.2) (λ v s2. puts w form inside m c v (apply (callR b inside) m.span) (apply (callC b inside) m.span) s2))
      tree_carried (Update form cell callee args m) inside w env s p k =
          bind_carried q R C P w s (onR inside cell env s) (λ xs. onC inside cell env (moved xs s))
          (λ c s1. bind (eval_all (in_transaction R) (callR b) n inside args env s1) (λ vs s2. (in_transaction R).update form inside m c callee vs (apply (callR b inside) m.span) s2))
          (λ c s1. bind (eval_all (in_transaction C) (callC b) n inside args env s1) (λ vs s2. (in_transaction C).update form inside m c callee vs (apply (callC b inside) m.span) s2))
          (tree_carried cell inside true env s p.1 k.1)
          (λ c s1. bind_carried q R C P w s1 (eval_all (in_transaction R) (callR b) n inside args env s1) (λ xs. eval_all (in_transaction C) (callC b) n inside args env (moved xs s1))
          (λ vs s2. (in_transaction R).update form inside m c callee vs (apply (callR b inside) m.span) s2) (λ vs s2. (in_transaction C).update form inside m c callee vs (apply (callC b inside) m.span) s2)
          (all_carried args inside env s1 p.3 k.2) (λ vs s2. updates w form inside m k.0 c callee p.2 vs s2))
      tree_carried (Send cell callee args m) inside w env s p k =
          bind_carried q R C P w s (onR inside cell env s) (λ xs. onC inside cell env (moved xs s))
          (λ c s1. bind (eval_all (in_transaction R) (callR b) n inside args env s1) (λ vs s2. (in_transaction R).send inside m c callee vs s2))
          (λ c s1. bind (eval_all (in_transaction C) (callC b) n inside args env s1) (λ vs s2. (in_transaction C).send inside m c callee vs s2))
          (tree_carried cell inside true env s p.0 k.1)
          (λ c s1. bind_carried q R C P w s1 (eval_all (in_transaction R) (callR b) n inside args env s1) (λ xs. eval_all (in_transaction C) (callC b) n inside args env (moved xs s1))
          (λ vs s2. (in_transaction R).send inside m c callee vs s2) (λ vs s2. (in_transaction C).send inside m c callee vs s2)
          (all_carried args inside env s1 p.1 k.2) (λ vs s2. sends w inside m c callee vs s2))

      all_carried : (es : Trees) (inside : Bool) (env : List Value) (s : TxState) → KeepAll (within functions b) inside es → MarkedAll es → Carried q R C P true s (eval_all (in_transaction R) (callR b) n inside es env s) (λ xs. eval_all (in_transaction C) (callC b) n inside es env (moved xs s))
      all_carried none inside env s p k = value_carried q R C P true s []
      all_carried (more e rest) inside env s p k =
          bind_carried q R C P true s (onR inside e env s) (λ xs. onC inside e env (moved xs s))
          (λ v s1. bind (eval_all (in_transaction R) (callR b) n inside rest env s1) (λ vs s2. Completes (v ∷ vs) s2)) (λ v s1. bind (eval_all (in_transaction C) (callC b) n inside rest env s1) (λ vs s2. Completes (v ∷ vs) s2))
          (tree_carried e inside true env s p.0 k.0)
          (λ v s1. bind_carried q R C P true s1 (eval_all (in_transaction R) (callR b) n inside rest env s1) (λ xs. eval_all (in_transaction C) (callC b) n inside rest env (moved xs s1)) (λ vs s2. Completes (v ∷ vs) s2) (λ vs s2. Completes (v ∷ vs) s2)
          (all_carried rest inside env s1 p.1 k.1) (λ vs s2. value_carried q R C P true s2 (v ∷ vs)))

      let_carried : (es : Trees) (inside : Bool) (env : List Value) (s : TxState) → KeepAll (within functions b) inside es → MarkedAll es → Carried q R C P true s (eval_let (in_transaction R) (callR b) n inside es env s) (λ xs. eval_let (in_transaction C) (callC b) n inside es env (moved xs s))
      let_carried none inside env s p k = value_carried q R C P true s []
      let_carried (more e rest) inside env s p k =
          bind_carried q R C P true s (onR inside e env s) (λ xs. onC inside e env (moved xs s))
          (λ v s1. bind (eval_let (in_transaction R) (callR b) n inside rest (env ++ v ∷ []) s1) (λ vs s2. Completes (v ∷ vs) s2)) (λ v s1. bind (eval_let (in_transaction C) (callC b) n inside rest (env ++ v ∷ []) s1) (λ vs s2. Completes (v ∷ vs) s2))
          (tree_carried e inside true env s p.0 k.0)
          (λ v s1. bind_carried q R C P true s1 (eval_let (in_transaction R) (callR b) n inside rest (env ++ v ∷ []) s1) (λ xs. eval_let (in_transaction C) (callC b) n inside rest (env ++ v ∷ []) (moved xs s1)) (λ vs s2. Completes (v ∷ vs) s2) (λ vs s2. Completes (v ∷ vs) s2)
          (let_carried rest inside (env ++ v ∷ []) s1 p.1 k.1) (λ vs s2. value_carried q R C P true s2 (v ∷ vs)))

      do_carried : (es : Trees) (inside w : Bool) (env : List Value) (s : TxState) → KeepAll (within functions b) inside es → MarkedDo w es → Carried q R C P w s (eval_do (in_transaction R) (callR b) n inside es env s) (λ xs. eval_do (in_transaction C) (callC b) n inside es env (moved xs s))
      do_carried none inside w env s p k = (tt, λ xs near. tt, tt)
      do_carried (more e none) inside w env s p k = tree_carried e inside w env s p.0 k
      do_carried (more e (more f rest)) inside w env s p k =
          then_carried q R C P w s (onR inside e env s) (λ xs. onC inside e env (moved xs s)) (λ s1. eval_do (in_transaction R) (callR b) n inside (more f rest) env s1) (λ s1. eval_do (in_transaction C) (callC b) n inside (more f rest) env s1)
          (tree_carried e inside false env s p.0 k.0) (λ s1. do_carried (more f rest) inside w env s1 p.1 k.1)

  -- one call deeper
  call_carried : (b : ℕ) → CallsCarried b → CallsCarried (suc b)
  call_carried b calls inside g us s le = go (nth functions g) refl
    where
      go : (o : Option PlainFunction) → nth functions g ≡ o
          → Carried q R C P true s (bind (give o s) (λ fun s1. turns (suc n) fun.parameters (λ ws s2. eval (in_transaction R) (callR b) n inside fun.body ws s2) us s1))
          (λ xs. bind (give o (moved xs s)) (λ fun s1. turns (suc n) fun.parameters (λ ws s2. eval (in_transaction C) (callC b) n inside fun.body ws s2) us s1))
      go None e = (tt, λ xs near. tt, tt)
      go (Some fun) e =
          turns_carried q R C P true (suc n) fun.parameters (λ ws s2. eval (in_transaction R) (callR b) n inside fun.body ws s2) (λ ws s2. eval (in_transaction C) (callC b) n inside fun.body ws s2)
          (λ ws s2. tree_carried b calls fun.body inside true ws s2 (function_within functions sound b inside g fun e le) (marked_at functions g fun marks e)) us s

  pub calls_carried : (b : ℕ) → CallsCarried b
  calls_carried zero inside g us s le = (tt, λ xs near. tt, tt)
  calls_carried (suc b) inside g us s le = call_carried b (calls_carried b) inside g us s le
