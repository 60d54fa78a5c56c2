-- A tree in which no recur stands in tail position doesn't end in a recur, where the forms on cells don't.
use Rattle.std.proofs.Common.{◌≡◌, ℕ, zero, suc, Bool, true, false, ◌||◌, List, ◌++◌, Option, Some, None, Result, Ok, Err, length, nat_eq, if◌then◌else◌, refl, sym}
use Rattle.std.proofs.lemmas.Bool.{false≢true}
use Rattle.txs_value_apply.specs.Core.{core, vector_of}
use Rattle.txs_value_apply.specs.Truth.{choose}
use Rattle.txs_value_data.specs.Places.{nth}
use Rattle.txs_value_data.specs.declared.fault.FaultKind.{FaultKind}
use Rattle.txs_value_data.specs.declared.fault.Span.{Span}
use Rattle.txs_value_cell.specs.declared.form.LookForm.{LookForm}
use Rattle.txs_value_cell.specs.declared.form.PutForm.{PutForm}
use Rattle.txs_value_cell.specs.declared.form.UpdateForm.{UpdateForm}
use Rattle.txs_value_data.specs.declared.op.Callee.{Callee}
use Rattle.txs_value_data.specs.declared.op.Callee.TheVariants.{Core as CoreOp, Function}
use Rattle.txs_value_data.specs.declared.value.Value.{Value}
use Rattle.txs_value_data.specs.declared.value.Value.TheVariants.{Nil, Truth, Int, Key, Text, Vector, Cell}
use Rattle.txs_tree_meaning.specs.Meaning.{Completion, Completes, Recurs, Faults, Retries, Waits, OutOfTurns, Invalid, bind, again, closed, give, result_of, Applies, Effects, turns, apply, eval, eval_all, eval_let, eval_do, call_at}
use Rattle.txs_tree_meaning.specs.Tree.{Mark, Tree, Const, Local, If, Do, Let, Loop, Recur, Core, Call, VectorOf, Println, Dosync, Look, Put, Update, Send, Trees, none, more, count, PlainFunction}
use Rattle.txs_opt.specs.Inline.{recurs, last_recurs}

-- it is no recur
abbrev pub IsEnd : {S A : Type 0} → Completion S A → Type 0
IsEnd (Completes a s) = Unit {0}
IsEnd (Recurs vs s) = ⊥
IsEnd (Faults f s) = Unit {0}
IsEnd (Retries s) = Unit {0}
IsEnd (Waits s) = Unit {0}
IsEnd (OutOfTurns s) = Unit {0}
IsEnd Invalid = Unit {0}

pub bind_end : {S A B : Type 0} (x : Completion S A) (go : A → S → Completion S B) → ((a : A) (s : S) → IsEnd (go a s)) → IsEnd (bind x go)
bind_end (Completes a s) go h = h a s
bind_end (Recurs vs s) go h = tt
bind_end (Faults f s) go h = tt
bind_end (Retries s) go h = tt
bind_end (Waits s) go h = tt
bind_end (OutOfTurns s) go h = tt
bind_end Invalid go h = tt

pub again_end : {S A : Type 0} (x : Completion S A) (go : List Value → S → Completion S A) → ((vs : List Value) (s : S) → IsEnd (go vs s)) → IsEnd (again x go)
again_end (Completes a s) go h = tt
again_end (Recurs vs s) go h = h vs s
again_end (Faults f s) go h = tt
again_end (Retries s) go h = tt
again_end (Waits s) go h = tt
again_end (OutOfTurns s) go h = tt
again_end Invalid go h = tt

-- what goes on after a recur has no say where there is none
pub again_ended : {S A : Type 0} (x : Completion S A) (go : List Value → S → Completion S A) → IsEnd x → again x go ≡ x
again_ended (Completes a s) go h = refl
again_ended (Recurs vs s) go h = absurd h
again_ended (Faults f s) go h = refl
again_ended (Retries s) go h = refl
again_ended (Waits s) go h = refl
again_ended (OutOfTurns s) go h = refl
again_ended Invalid go h = refl

pub closed_end : {S A : Type 0} (x : Completion S A) → IsEnd (closed x)
closed_end x = again_end x (λ vs s. Invalid) (λ vs s. tt)

pub give_end : {S A : Type 0} (o : Option A) (s : S) → IsEnd (give o s)
give_end None s = tt
give_end (Some a) s = tt

pub result_end : {S A : Type 0} (r : Result A FaultKind) (span : Span) (s : S) → IsEnd (result_of r span s)
result_end (Ok v) span s = tt
result_end (Err e) span s = tt

choose_end : {S : Type 0} (v : Value) (x y : Completion S Value) → IsEnd x → IsEnd y → IsEnd (choose v x y)
choose_end Nil x y h j = j
choose_end (Truth false) x y h j = j
choose_end (Truth true) x y h j = h
choose_end (Int z) x y h j = h
choose_end (Key bs) x y h j = h
choose_end (Text bs) x y h j = h
choose_end (Vector vs) x y h j = h
choose_end (Cell c) x y h j = h

pub turns_end : {S : Type 0} (n d : ℕ) (go : List Value → S → Completion S Value) (vs : List Value) (s : S) → IsEnd (turns n d go vs s)
turns_end {S} zero d go vs s = tt
turns_end {S} (suc n) d go vs s = turn (nat_eq (length vs) d) (λ ws t. turns_end n d go ws t)
  where
    turn : (b : Bool) → ((ws : List Value) (t : S) → IsEnd (turns n d go ws t)) → IsEnd (if b then again (go vs s) (turns n d go) else Invalid)
    turn true next = again_end (go vs s) (turns n d go) next
    turn false next = tt

-- a call of a function is no recur of its caller
pub call_end : {S : Type 0} (fx : ℕ → Effects S) (n : ℕ) (functions : List PlainFunction) (d : ℕ) (inside : Bool) (f : ℕ) (vs : List Value) (s : S) → IsEnd (call_at fx n functions d inside f vs s)
call_end fx n functions zero inside f vs s = tt
call_end fx n functions (suc d) inside f vs s =
    bind_end (give (nth functions f) s) (λ fun s1. turns (suc n) fun.parameters (λ ws s2. eval (fx d) (call_at fx n functions d) n inside fun.body ws s2) vs s1)
    (λ fun s1. turns_end (suc n) fun.parameters (λ ws s2. eval (fx d) (call_at fx n functions d) n inside fun.body ws s2) vs s1)

abbrev pub CalleesEnd : {S : Type 0} → Applies S → Type 0
CalleesEnd {S} f = (c : Callee) (vs : List Value) (s : S) → IsEnd (f c vs s)

-- the forms on cells don't end in a recur
pub record FormsEnd (S : Type 0) (fx : Effects S) : Type 0 where
  pub print : (inside : Bool) (vs : List Value) (s : S) → IsEnd (fx.print inside vs s)
  pub look : (form : LookForm) (inside : Bool) (m : Mark) (c : Value) (s : S) → IsEnd (fx.look form inside m c s)
  pub put : (form : PutForm) (inside : Bool) (m : Mark) (c v : Value) (f : Applies S) (s : S) → CalleesEnd f → IsEnd (fx.put form inside m c v f s)
  pub update : (form : UpdateForm) (inside : Bool) (m : Mark) (c : Value) (callee : Callee) (vs : List Value) (f : Applies S) (s : S) → CalleesEnd f → IsEnd (fx.update form inside m c callee vs f s)
  pub send : (inside : Bool) (m : Mark) (c : Value) (callee : Callee) (vs : List Value) (s : S) → IsEnd (fx.send inside m c callee vs s)
  pub dosync : (inside : Bool) (m : Mark) (e : Tree) (env : List Value) (b : S → Completion S Value) (f : Applies S) (s : S) → ((t : S) → IsEnd (b t)) → CalleesEnd f → IsEnd (fx.dosync inside m e env b f s)

either_not : (a b : Bool) → (a || b) ≡ false → (a ≡ false) × (b ≡ false)
either_not true b h = absurd (false≢true (sym h))
either_not false b h = (refl, h)

module _ (S : Type 0) (fx : Effects S) (call : Bool → ℕ → List Value → S → Completion S Value) (n : ℕ) (forms : FormsEnd S fx) (calls : (inside : Bool) (f : ℕ) (vs : List Value) (s : S) → IsEnd (call inside f vs s)) where
  apply_end : (inside : Bool) (span : Span) → CalleesEnd (apply (call inside) span)
  apply_end inside span (CoreOp op) vs s = result_end (core op vs) span s
  apply_end inside span (Function f) vs s = calls inside f vs s

  mutual
    pub eval_end : (inside : Bool) (e : Tree) (env : List Value) (s : S) → recurs e ≡ false → IsEnd (eval fx call n inside e env s)
    eval_end inside (Const v m) env s h = tt
    eval_end inside (Local i m) env s h = give_end (nth env i) s
    eval_end inside (If c a b m) env s h =
        let parts = either_not (recurs a) (recurs b) h in
        bind_end (eval fx call n inside c env s) (λ v s1. choose v (eval fx call n inside a env s1) (eval fx call n inside b env s1))
        (λ v s1. choose_end v (eval fx call n inside a env s1) (eval fx call n inside b env s1) (eval_end inside a env s1 parts.0) (eval_end inside b env s1 parts.1))
    eval_end inside (Do items m) env s h = do_end inside items env s h
    eval_end inside (Let values body m) env s h =
        bind_end (eval_let fx call n inside values env s) (λ vs s1. eval fx call n inside body (env ++ vs) s1) (λ vs s1. eval_end inside body (env ++ vs) s1 h)
    eval_end inside (Loop values body m) env s h =
        bind_end (eval_let fx call n inside values env s) (λ vs s1. turns n (count values) (λ ws s2. eval fx call n inside body (env ++ ws) s2) vs s1)
        (λ vs s1. turns_end n (count values) (λ ws s2. eval fx call n inside body (env ++ ws) s2) vs s1)
    eval_end inside (Recur values m) env s h = absurd (false≢true (sym h))
    eval_end inside (Core op args m) env s h = bind_end (eval_all fx call n inside args env s) (λ vs s1. result_of (core op vs) m.span s1) (λ vs s1. result_end (core op vs) m.span s1)
    eval_end inside (Call f args m) env s h = bind_end (eval_all fx call n inside args env s) (λ vs s1. call inside f vs s1) (λ vs s1. calls inside f vs s1)
    eval_end inside (VectorOf items m) env s h = bind_end (eval_all fx call n inside items env s) (λ vs s1. result_of (vector_of vs) m.span s1) (λ vs s1. result_end (vector_of vs) m.span s1)
    eval_end inside (Println args m) env s h = bind_end (eval_all fx call n inside args env s) (λ vs s1. fx.print inside vs s1) (λ vs s1. forms.print inside vs s1)
    eval_end inside (Dosync body m) env s h =
        forms.dosync inside m body env (λ s1. closed (eval fx call n true body env s1)) (apply (call true) m.span) s (λ s1. closed_end (eval fx call n true body env s1)) (apply_end true m.span)
    eval_end inside (Look form cell m) env s h = bind_end (eval fx call n inside cell env s) (λ c s1. fx.look form inside m c s1) (λ c s1. forms.look form inside m c s1)
    eval_end inside (Put form cell value m) env s h =
        bind_end (eval fx call n inside cell env s) (λ c s1. bind (eval fx call n inside value env s1) (λ v s2. fx.put form inside m c v (apply (call inside) m.span) s2))
        (λ c s1. bind_end (eval fx call n inside value env s1) (λ v s2. fx.put form inside m c v (apply (call inside) m.span) s2) (λ v s2. forms.put form inside m c v (apply (call inside) m.span) s2 (apply_end inside m.span)))
    eval_end inside (Update form cell callee args m) env s h =
        bind_end (eval fx call n inside cell env s) (λ c s1. bind (eval_all fx call n inside args env s1) (λ vs s2. fx.update form inside m c callee vs (apply (call inside) m.span) s2))
        (λ c s1. bind_end (eval_all fx call n inside args env s1) (λ vs s2. fx.update form inside m c callee vs (apply (call inside) m.span) s2) (λ vs s2. forms.update form inside m c callee vs (apply (call inside) m.span) s2 (apply_end inside m.span)))
    eval_end inside (Send cell callee args m) env s h =
        bind_end (eval fx call n inside cell env s) (λ c s1. bind (eval_all fx call n inside args env s1) (λ vs s2. fx.send inside m c callee vs s2))
        (λ c s1. bind_end (eval_all fx call n inside args env s1) (λ vs s2. fx.send inside m c callee vs s2) (λ vs s2. forms.send inside m c callee vs s2))

    do_end : (inside : Bool) (es : Trees) (env : List Value) (s : S) → last_recurs es ≡ false → IsEnd (eval_do fx call n inside es env s)
    do_end inside none env s h = tt
    do_end inside (more e none) env s h = eval_end inside e env s h
    do_end inside (more e (more f rest)) env s h = bind_end (eval fx call n inside e env s) (λ v s1. eval_do fx call n inside (more f rest) env s1) (λ v s1. do_end inside (more f rest) env s1 h)
