-- What a tree does, where each loop makes at most n turns. What the forms on cells do is handed in.
use Rattle.std.specs.Prelude.{ℕ, zero, suc, Bool, true, false, List, [], ◌∷◌, ◌++◌, Option, Some, None, Result, Ok, Err, length, nat_eq, if◌then◌else◌}
use Rattle.txs_value_apply.specs.Core.{core, vector_of}
use Rattle.txs_value_data.specs.Places.{nth, fault_at}
use Rattle.txs_value_apply.specs.Truth.{choose}
use Rattle.txs_value_data.specs.declared.fault.Fault.{Fault}
use Rattle.txs_value_data.specs.declared.fault.FaultKind.{FaultKind}
use Rattle.txs_value_data.specs.declared.fault.Span.{Span}
use Rattle.txs_value_cell.specs.declared.form.LookForm.{LookForm}
use Rattle.txs_value_cell.specs.declared.form.PutForm.{PutForm}
use Rattle.txs_value_cell.specs.declared.form.UpdateForm.{UpdateForm}
use Rattle.txs_value_data.specs.declared.op.Callee.{Callee}
use Rattle.txs_value_data.specs.declared.op.Callee.TheVariants.{Core as CoreOp, Function}
use Rattle.txs_value_data.specs.declared.value.Value.{Value}
use Rattle.txs_tree_meaning.specs.Tree.{Mark, Tree, Const, Local, If, Do, Let, Loop, Recur, Core, Call, VectorOf, Println, Dosync, Look, Put, Update, Send, Trees, none, more, is_none, count, PlainFunction}

-- how a part of a tree ends, with the state that it leaves
pub data Completion (S A : Type 0) : Type 0 where
  Completes : (a : A) (s : S) → Completion S A
  -- a recur with these values
  Recurs : (vs : List Value) (s : S) → Completion S A
  Faults : (f : Fault) (s : S) → Completion S A
  -- the transaction has to run again
  Retries : (s : S) → Completion S A
  -- what it needs from outside isn't there
  Waits : (s : S) → Completion S A
  -- a loop's turns don't suffice
  OutOfTurns : (s : S) → Completion S A
  -- no meaning, which never comes of a sound program
  Invalid : Completion S A

-- continues with what was given; the first part is no recur's tail position
abbrev pub bind : {S A B : Type 0} → Completion S A → (A → S → Completion S B) → Completion S B
bind (Completes a s) go = go a s
bind (Recurs vs s) go = Invalid
bind (Faults f s) go = Faults f s
bind (Retries s) go = Retries s
bind (Waits s) go = Waits s
bind (OutOfTurns s) go = OutOfTurns s
bind Invalid go = Invalid

-- a recur continues, all else stays
abbrev pub again : {S A : Type 0} → Completion S A → (List Value → S → Completion S A) → Completion S A
again (Completes a s) go = Completes a s
again (Recurs vs s) go = go vs s
again (Faults f s) go = Faults f s
again (Retries s) go = Retries s
again (Waits s) go = Waits s
again (OutOfTurns s) go = OutOfTurns s
again Invalid go = Invalid

-- a place that no recur leaves
abbrev pub closed : {S A : Type 0} → Completion S A → Completion S A
closed r = again r (λ vs s. Invalid)

-- the value that is there; a sound program never names one that isn't
abbrev pub give : {S A : Type 0} → Option A → S → Completion S A
give None s = Invalid
give (Some v) s = Completes v s

-- what there is, or the fault at the form that names it
abbrev pub result_of : {S A : Type 0} → Result A FaultKind → Span → S → Completion S A
result_of (Ok v) span s = Completes v s
result_of (Err k) span s = Faults (fault_at k span) s

-- a form that has no meaning elsewhere
abbrev pub allowed : {S A : Type 0} → Bool → Completion S A → Completion S A
allowed true r = r
allowed false r = Invalid

-- a callee on values, with a state that goes through
abbrev pub Applies : Type 0 → Type 0
Applies S = Callee → List Value → S → Completion S Value

-- What the forms on cells do, one handler for each family. The truth value says whether a transaction is running; the mark has
-- the form's span and whether its result is wanted.
pub record Effects (S : Type 0) : Type 0 where
  pub print : Bool → List Value → S → Completion S Value
  pub look : LookForm → Bool → Mark → Value → S → Completion S Value
  -- with what applies a callee
  pub put : PutForm → Bool → Mark → Value → Value → Applies S → S → Completion S Value
  -- with the callee, its further arguments, and what applies it
  pub update : UpdateForm → Bool → Mark → Value → Callee → List Value → Applies S → S → Completion S Value
  pub send : Bool → Mark → Value → Callee → List Value → S → Completion S Value
  -- with the body, its locals, what the body does in a running transaction, and what applies the callees of commutes
  pub dosync : Bool → Mark → Tree → List Value → (S → Completion S Value) → Applies S → S → Completion S Value

-- at most n turns, each with d values
abbrev pub turns : {S : Type 0} → ℕ → ℕ → (List Value → S → Completion S Value) → List Value → S → Completion S Value
turns zero d body vs s = OutOfTurns s
turns (suc n) d body vs s = if nat_eq (length vs) d then again (body vs s) (turns n d body) else Invalid

-- the last item's completion stands for all; that of another is let go, and what comes after it continues
abbrev pub last_or : {S : Type 0} → Bool → Completion S Value → (S → Completion S Value) → Completion S Value
last_or true r go = r
last_or false r go = bind r (λ v s. go s)

-- a callee on its arguments: the table's answer for an operation, the meaning of a function
abbrev pub apply : {S : Type 0} → (ℕ → List Value → S → Completion S Value) → Span → Applies S
apply call span (CoreOp op) vs s = result_of (core op vs) span s
apply call span (Function f) vs s = call f vs s

abbrev mutual
  -- What a tree does from a state on, by Clojure's reference on special forms, form by form: with these effects, these meanings of
  -- functions, at most n turns of each loop, inside a transaction or not, and these locals.
  pub eval : {S : Type 0} → Effects S → (Bool → ℕ → List Value → S → Completion S Value) → ℕ → Bool → Tree → List Value → S → Completion S Value
  -- a constant is its value
  eval fx call n inside (Const v m) env s = Completes v s
  -- a local is the value that it was bound to
  eval fx call n inside (Local i m) env s = give (nth env i) s
  -- the test, and then one branch alone
  eval fx call n inside (If c a b m) env s =
      bind (eval fx call n inside c env s) (λ v s1. choose v (eval fx call n inside a env s1) (eval fx call n inside b env s1))
  -- the items in order, with the last one's result
  eval fx call n inside (Do items m) env s = eval_do fx call n inside items env s
  -- the values in order, each of which sees the earlier ones, and then the body
  eval fx call n inside (Let values body m) env s =
      bind (eval_let fx call n inside values env s) (λ vs s1. eval fx call n inside body (env ++ vs) s1)
  -- a let whose body a recur runs again
  eval fx call n inside (Loop values body m) env s =
      bind (eval_let fx call n inside values env s) (λ vs s1. turns n (count values) (λ ws s2. eval fx call n inside body (env ++ ws) s2) vs s1)
  -- the values in order, for the next turn of the nearest loop or function
  eval fx call n inside (Recur values m) env s = bind (eval_all fx call n inside values env s) (λ vs s1. Recurs vs s1)
  -- the arguments from left to right, and then the operation
  eval fx call n inside (Core op args m) env s = bind (eval_all fx call n inside args env s) (λ vs s1. result_of (core op vs) m.span s1)
  -- the arguments from left to right, and then the function
  eval fx call n inside (Call f args m) env s = bind (eval_all fx call n inside args env s) (λ vs s1. call inside f vs s1)
  -- the vector of the items
  eval fx call n inside (VectorOf items m) env s = bind (eval_all fx call n inside items env s) (λ vs s1. result_of (vector_of vs) m.span s1)
  -- the arguments from left to right, and then they are printed
  eval fx call n inside (Println args m) env s = bind (eval_all fx call n inside args env s) (λ vs s1. fx.print inside vs s1)
  -- the body in a transaction, which no recur leaves
  eval fx call n inside (Dosync body m) env s =
      fx.dosync inside m body env (λ s1. closed (eval fx call n true body env s1)) (apply (call true) m.span) s
  -- the cell, and then its value
  eval fx call n inside (Look form cell m) env s = bind (eval fx call n inside cell env s) (λ c s1. fx.look form inside m c s1)
  -- the cell, the value, and then the cell gets it
  eval fx call n inside (Put form cell value m) env s =
      bind (eval fx call n inside cell env s) (λ c s1.
      bind (eval fx call n inside value env s1) (λ v s2. fx.put form inside m c v (apply (call inside) m.span) s2))
  -- the cell, the arguments, and then the cell gets what the callee makes of its value and the arguments
  eval fx call n inside (Update form cell callee args m) env s =
      bind (eval fx call n inside cell env s) (λ c s1.
      bind (eval_all fx call n inside args env s1) (λ vs s2. fx.update form inside m c callee vs (apply (call inside) m.span) s2))
  -- the agent, the arguments, and then the action is sent
  eval fx call n inside (Send cell callee args m) env s =
      bind (eval fx call n inside cell env s) (λ c s1.
      bind (eval_all fx call n inside args env s1) (λ vs s2. fx.send inside m c callee vs s2))

  -- the values, in order
  pub eval_all : {S : Type 0} → Effects S → (Bool → ℕ → List Value → S → Completion S Value) → ℕ → Bool → Trees → List Value → S → Completion S (List Value)
  eval_all fx call n inside none env s = Completes [] s
  eval_all fx call n inside (more e rest) env s =
      bind (eval fx call n inside e env s) (λ v s1. bind (eval_all fx call n inside rest env s1) (λ vs s2. Completes (v ∷ vs) s2))

  -- the new locals, of which each sees the earlier ones
  pub eval_let : {S : Type 0} → Effects S → (Bool → ℕ → List Value → S → Completion S Value) → ℕ → Bool → Trees → List Value → S → Completion S (List Value)
  eval_let fx call n inside none env s = Completes [] s
  eval_let fx call n inside (more e rest) env s =
      bind (eval fx call n inside e env s) (λ v s1. bind (eval_let fx call n inside rest (env ++ v ∷ []) s1) (λ vs s2. Completes (v ∷ vs) s2))

  -- the last one's value
  pub eval_do : {S : Type 0} → Effects S → (Bool → ℕ → List Value → S → Completion S Value) → ℕ → Bool → Trees → List Value → S → Completion S Value
  eval_do fx call n inside none env s = Invalid
  eval_do fx call n inside (more e rest) env s =
      last_or (is_none rest) (eval fx call n inside e env s) (λ s1. eval_do fx call n inside rest env s1)

-- a function's meaning, where calls go at most b deep; at most n recurs go to it. What the forms do may depend on that depth too
abbrev pub call_at : {S : Type 0} → (ℕ → Effects S) → ℕ → List PlainFunction → ℕ → Bool → ℕ → List Value → S → Completion S Value
call_at fx n functions zero inside f vs s = Invalid
call_at fx n functions (suc b) inside f vs s =
    bind (give (nth functions f) s) (λ fun s1. turns (suc n) fun.parameters (λ ws s2. eval (fx b) (call_at fx n functions b) n inside fun.body ws s2) vs s1)
