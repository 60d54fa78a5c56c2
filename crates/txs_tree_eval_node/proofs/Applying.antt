-- A pure callee gives the same wherever it is applied, and leaves the state as it was.
use Rattle.std.proofs.Common.{ℕ, Bool, true, false, List, [], ◌∷◌, length, Option, Some, None, Result, Ok, Err, refl, sym, subst}
use Rattle.std.proofs.lemmas.Bool.{false≢true}
use Rattle.txs_value_apply.specs.Core.{core}
use Rattle.txs_value_data.specs.declared.fault.Span.{Span}
use Rattle.txs_value_data.specs.declared.op.Callee.{Callee}
use Rattle.txs_value_data.specs.declared.op.Callee.TheVariants.{Core as CoreOp, Function}
use Rattle.txs_value_cell.specs.Cells.{validators_of, validator_at}
use Rattle.txs_value_cell.specs.declared.cell.CellDefinition.{CellDefinition}
use Rattle.txs_value_data.specs.declared.value.Value.{Value}
use Rattle.txs_value_data.specs.declared.value.Value.TheVariants.{Nil, Truth, Int, Key, Text, Vector, Cell}
use Rattle.txs_world_protocol.specs.Ask.{Writes}
use Rattle.txs_tree_eval_node.specs.Evaluated.{AnswersAt, applied, around_it, in_state, wholly}
use Rattle.txs_tree_eval_transaction.specs.Worked.{Gives, Told}
use Rattle.txs_tree_meaning.specs.Known.{Known}
use Rattle.txs_tree_meaning.specs.Meaning.{Completion, Completes, Recurs, Faults, Retries, Waits, OutOfTurns, Invalid, Applies, Effects, bind, apply, call_at}
use Rattle.txs_tree_meaning.specs.Pure.{no_effects}
use Rattle.txs_tree_eval_node.specs.Setting.{Setting, callable, deepest}
use Rattle.txs_tree_meaning.specs.Sound.{SoundCallee, SoundCells, SoundValidator, SoundFunctions}
use Rattle.txs_tree_meaning.specs.Thread.{ThreadState}
use Rattle.txs_tree_meaning.specs.Transaction.{judged, validated, accepted}
use Rattle.txs_tree_meaning.specs.View.{functions_of}
use Rattle.txs_tree_eval_transaction.specs.declared.stop.ThreadStop.{ThreadStop}
use Rattle.txs_tree_eval_transaction.specs.declared.stop.ThreadStop.TheVariants.{Fault, Event, Wrong, Turns, Memory}
use Rattle.txs_tree_eval_node.proofs.Called.{pure_among, validator_sound}
use Rattle.txs_tree_meaning.proofs.PureLaw.{Agrees, bind_agrees, call_agrees, result_agrees, pure_value, pure_fault, pure_turns}

-- what agrees with an answer that leaves some state is told so
pub told_from : {S A : Type 0} (s s1 : S) (r : Result A ThreadStop) (p : Completion (Unit {0}) A) (c : Completion S A) → Agrees s p c → Gives true r s1 c → Told r p
told_from s s1 (Ok v) p c h g = pure_value s p c h v s1 g
told_from s s1 (Err (Fault f)) p c h g = pure_fault s p c h f s1 g
told_from s s1 (Err Event) p c h g = absurd (false≢true (sym g.0))
told_from s s1 (Err Wrong) p c h g = absurd (false≢true (sym g.0))
told_from s s1 (Err Turns) p c h g = pure_turns s p c h s1 g
told_from s s1 (Err Memory) p c h g = tt

-- the same at an event
pub answers_from : {S A : Type 0} (s : S) (r : Result A ThreadStop) (p : Completion (Unit {0}) A) (c : Completion S A) → Agrees s p c → Told r p → AnswersAt r s c
answers_from s (Ok v) p c h t = subst (λ x. Agrees s x c) t h
answers_from s (Err (Fault f)) p c h t = subst (λ x. Agrees s x c) t h
answers_from s (Err Event) p c h t = absurd (false≢true (sym t.0))
answers_from s (Err Wrong) p c h t = absurd (false≢true (sym t.0))
answers_from s (Err Turns) p c h t = subst (λ x. Agrees s x c) t h
answers_from s (Err Memory) p c h t = tt

module _ {S : Type 0} (b : Bool) (s : S) where
  pub carried : {A : Type 0} (r : Result A ThreadStop) (p : Completion (Unit {0}) A) (c : Completion S A) → Agrees s p c → Told r p → Gives b r s c
  carried (Ok v) p c h t = subst (λ x. Agrees s x c) t h
  carried (Err (Fault f)) p c h t = subst (λ x. Agrees s x c) t h
  carried (Err Event) p c h t = absurd (false≢true (sym t.0))
  carried (Err Wrong) p c h t = absurd (false≢true (sym t.0))
  carried (Err Turns) p c h t = subst (λ x. Agrees s x c) t h
  carried (Err Memory) p c h t = tt

  module _ (x : Setting) (sound : SoundFunctions [] (functions_of x.functions)) (fx : ℕ → Effects S) (inside : Bool) (span : Span) where
    -- of however many values
    pub pure_agrees : (callee : Callee) (k : ℕ) (vs : List Value) → SoundCallee (callable x) callee k → Agrees s (applied x callee vs span) (apply (call_at fx x.turns (functions_of x.functions) x.depth inside) span callee vs s)
    pure_agrees (CoreOp op) k vs h = result_agrees s (core op vs) span
    pure_agrees (Function f) k vs h = call_agrees s fx x.turns inside (functions_of x.functions) sound x.depth f vs (pure_among x f k h)

    pub callee_agrees : (callee : Callee) (vs : List Value) → SoundCallee (callable x) callee (length vs)
        → Agrees s (applied x callee vs span) (apply (call_at fx x.turns (functions_of x.functions) x.depth inside) span callee vs s)
    callee_agrees callee vs h = pure_agrees callee (length vs) vs h

    -- what is told of it is what it gives in any state
    pub told_applies : (callee : Callee) (vs : List Value) (r : Result Value ThreadStop) → SoundCallee (callable x) callee (length vs) → Told r (applied x callee vs span)
        → Gives b r s (apply (call_at fx x.turns (functions_of x.functions) x.depth inside) span callee vs s)
    told_applies callee vs r h t = carried r (applied x callee vs span) (apply (call_at fx x.turns (functions_of x.functions) x.depth inside) span callee vs s) (callee_agrees callee vs h) t

-- a pure answer, in any state
agrees_in : {S A : Type 0} (s : S) (p : Completion (Unit {0}) A) → Agrees tt p p → Agrees s p (in_state s p)
agrees_in s (Completes a u) h = refl
agrees_in s (Recurs vs u) h = refl
agrees_in s (Faults f u) h = refl
agrees_in s (Retries u) h = absurd h
agrees_in s (Waits u) h = absurd h
agrees_in s (OutOfTurns u) h = refl
agrees_in s Invalid h = refl

-- a pure callee that is applied outside transactions
pub whole_agrees : (x : Setting) (sound : SoundFunctions [] (functions_of x.functions)) (span : Span) (callee : Callee) (k : ℕ) (vs : List Value) (t : ThreadState) → SoundCallee (callable (deepest x)) callee k
    → Agrees t (applied (deepest x) callee vs span) (wholly (around_it x) span callee vs t)
whole_agrees x sound span callee k vs t h =
    agrees_in t (applied (deepest x) callee vs span) (pure_agrees true tt (deepest x) sound (λ b. no_effects) false span callee k vs h)

-- ---- validators

judged_agrees : {S : Type 0} (s : S) (answer : Value) (span : Span) (v : Value) → Agrees s (judged answer span v tt) (judged answer span v s)
judged_agrees s Nil span v = refl
judged_agrees s (Truth false) span v = refl
judged_agrees s (Truth true) span v = refl
judged_agrees s (Int z) span v = refl
judged_agrees s (Key bs) span v = refl
judged_agrees s (Text bs) span v = refl
judged_agrees s (Vector vs) span v = refl
judged_agrees s (Cell c) span v = refl

-- where this agrees with a callee's answer, it does so with a validator's
module _ {S : Type 0} (ks : List Known) (q : Applies (Unit {0})) (real : Applies S) (agrees : (callee : Callee) (k : ℕ) (vs : List Value) (s : S) → SoundCallee ks callee k → Agrees s (q callee vs tt) (real callee vs s)) where
  pub validated_agrees : (o : Option Callee) → SoundValidator ks o → (span : Span) (v : Value) (s : S) → Agrees s (validated q o span v tt) (validated real o span v s)
  validated_agrees None h span v s = refl
  validated_agrees (Some f) h span v s =
      bind_agrees s (q f (v ∷ []) tt) (real f (v ∷ []) s) (λ answer u. judged answer span v u) (λ answer t. judged answer span v t) (agrees f 1 (v ∷ []) s h) (λ answer. judged_agrees s answer span v)

  -- what a callee makes, where the cell's validator accepts it
  pub made_agrees : (ds : List CellDefinition) → SoundCells ks ds → (callee : Callee) (j k : ℕ) (vs : List Value) (span : Span) (s : S) → SoundCallee ks callee j
      → Agrees s (bind (q callee vs tt) (λ v u. validated q (validator_at (validators_of ds) k) span v tt)) (bind (real callee vs s) (λ v t. validated real (validator_at (validators_of ds) k) span v t))
  made_agrees ds cells callee j k vs span s h =
      let o = validator_at (validators_of ds) k in
      bind_agrees s (q callee vs tt) (real callee vs s) (λ v u. validated q o span v tt) (λ v t. validated real o span v t) (agrees callee j vs s h) (λ v. validated_agrees o (validator_sound ks ds k cells) span v s)

  -- each of these writes is accepted
  pub accepted_agrees : (ds : List CellDefinition) → SoundCells ks ds → (span : Span) (ws : Writes) (s : S) → Agrees s (accepted q (validators_of ds) span ws tt) (accepted real (validators_of ds) span ws s)
  accepted_agrees ds cells span [] s = refl
  accepted_agrees ds cells span (w ∷ ws) s =
      let o = validator_at (validators_of ds) w.0.number in
      bind_agrees s (validated q o span w.1 tt) (validated real o span w.1 s) (λ v u. accepted q (validators_of ds) span ws u) (λ v t. accepted real (validators_of ds) span ws t)
      (validated_agrees o (validator_sound ks ds w.0.number cells) span w.1 s) (λ v. accepted_agrees ds cells span ws s)
