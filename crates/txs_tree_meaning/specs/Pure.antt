-- What pure code means: code with no form on cells, that prints nothing and runs no transaction.
use Rattle.std.specs.Prelude.{◌≡◌, ℕ, Bool, true, false, List, length}
use Rattle.txs_value_apply.specs.Core.{takes}
use Rattle.txs_value_data.specs.declared.fault.Span.{Span}
use Rattle.txs_value_data.specs.declared.op.Callee.{Callee}
use Rattle.txs_value_data.specs.declared.op.Callee.TheVariants.{Core as CoreOp, Function}
use Rattle.txs_value_data.specs.declared.value.Value.{Value}
use Rattle.txs_tree_meaning.specs.Known.{Known}
use Rattle.txs_tree_meaning.specs.Meaning.{Completion, Completes, Recurs, Faults, Retries, Waits, OutOfTurns, Invalid, Effects, apply, call_at}
use Rattle.txs_tree_meaning.specs.Sound.{PureCall}
use Rattle.txs_tree_meaning.specs.Tree.{PlainFunction}

-- the forms that pure code hasn't
abbrev pub no_effects : Effects (Unit {0})
no_effects = record {
  print = λ inside vs s. Invalid;
  look = λ form inside m c s. Invalid;
  put = λ form inside m c v f s. Invalid;
  update = λ form inside m c callee vs f s. Invalid;
  send = λ inside m c callee vs s. Invalid;
  dosync = λ inside m node env body f s. Invalid;
}

-- what functions mean as pure code, where calls go at most d deep
abbrev pub pure_calls : ℕ → List PlainFunction → ℕ → Bool → ℕ → List Value → Unit {0} → Completion (Unit {0}) Value
pure_calls n functions d = call_at (λ b. no_effects) n functions d

-- an operation as callee is at no place of the script
abbrev pub nowhere : Span
nowhere = record { from = 0; to = 0 }

-- the pure meaning: a callee on these values, where each loop and each recur to a function makes at most n turns
abbrev pub pure_meaning : ℕ → List PlainFunction → Callee → List Value → Completion (Unit {0}) Value
pure_meaning n functions callee vs = apply (pure_calls n functions (length functions) false) nowhere callee vs tt

-- an answer, and that of a greater number of turns: only where turns don't suffice may it be another
abbrev pub Lasts : {A : Type 0} → Completion (Unit {0}) A → Completion (Unit {0}) A → Type 0
Lasts (Completes a s) q = q ≡ Completes a s
Lasts (Recurs vs s) q = q ≡ Recurs vs s
Lasts (Faults f s) q = q ≡ Faults f s
Lasts (Retries s) q = q ≡ Retries s
Lasts (Waits s) q = q ≡ Waits s
Lasts (OutOfTurns s) q = Unit {0}
Lasts Invalid q = q ≡ Invalid

-- a pure callee that takes so many values
abbrev pub PureCallee : List Known → Callee → ℕ → Type 0
PureCallee ks (CoreOp op) n = takes op n ≡ true
PureCallee ks (Function f) n = PureCall ks f n
