-- A pure callee means the same wherever calls may go deep enough for it.
use Rattle.std.proofs.Common.{◌≡◌, ℕ, zero, suc, ◌<◌, Bool, false, List, [], Option, Some, None, Result, Ok, Err, take, refl, sym, ◌∙◌, subst, inl, arith}
use Rattle.txs_value_apply.specs.Core.{core}
use Rattle.txs_value_data.specs.Places.{nth}
use Rattle.txs_value_data.specs.declared.fault.FaultKind.{FaultKind}
use Rattle.txs_value_data.specs.declared.fault.Span.{Span}
use Rattle.txs_value_data.specs.declared.op.Callee.{Callee}
use Rattle.txs_value_data.specs.declared.op.Callee.TheVariants.{Core as CoreOp, Function}
use Rattle.txs_value_data.specs.declared.value.Value.{Value}
use Rattle.txs_tree_meaning.specs.Known.{known}
use Rattle.txs_tree_meaning.specs.Meaning.{Completion, Completes, bind, give, result_of, turns, eval, call_at}
use Rattle.txs_tree_meaning.specs.Pure.{no_effects}
use Rattle.txs_tree_meaning.specs.Sound.{in_function, SoundFunctions}
use Rattle.txs_tree_meaning.specs.Tree.{PlainFunction}
use Rattle.txs_tree_meaning.proofs.Callable.{function_at, nth-take}
use Rattle.txs_theorem_threads.proofs.Callees.{Rules, Keeps, keeps_in}
use Rattle.txs_theorem_threads.proofs.Quiet.{quietly}
use Rattle.txs_theorem_threads.proofs.Related.{Link, Related, turns_related, Alike, eval_related}
use Rattle.txs_theorem_threads.proofs.Same.{same_link, IsLong, same_long}

-- it has a value
abbrev pub HasValue : {S A : Type 0} → Completion S A → Type 0
HasValue (Completes a s) = Unit {0}
HasValue _ = ⊥

-- an operation, or a function below this number
abbrev pub Below : ℕ → Callee → Type 0
Below b (CoreOp op) = Unit {0}
Below b (Function f) = f < b

-- calls of functions below this one alone
abbrev calls_below : ℕ → Rules
calls_below f = record {
  callee = λ c. Unit {0};
  form = λ inside form. Unit {0};
  call = λ inside g. g < f;
}

-- the function's body calls those before it alone
body_below : (functions : List PlainFunction) → SoundFunctions [] functions → (inside : Bool) (f : ℕ) (fun : PlainFunction) → nth functions f ≡ Some fun → Keeps (calls_below f) inside fun.body
body_below functions sound inside f fun found =
    let here = function_at functions f fun sound found in
    keeps_in (take f (known functions)) (calls_below f) (λ z i. Unit {0}) tt (λ c n h. tt) (λ z i form at m. tt) (λ z i g n at m. (nth-take f (known functions) g m.function m.found).0) fun.body in_function inside fun.parameters (Some fun.parameters) tt here.1.1

module _ (n : ℕ) (functions : List PlainFunction) (sound : SoundFunctions [] functions) where
  abbrev quiet : ℕ → Bool → ℕ → List Value → Unit {0} → Completion (Unit {0}) Value
  quiet d = call_at (λ b. no_effects) n functions d

  abbrev k : Link (Unit {0}) (Unit {0})
  k = same_link (Unit {0})

  quiet_alike : (b d f : ℕ) → Alike (Unit {0}) (Unit {0}) k no_effects no_effects (quiet b) (quiet d) n n (λ i. Unit {0}) (calls_below f)
  quiet_alike b d f = record {
    print = λ inside vs s t m r. refl;
    look = λ form inside m c s t q i r. refl;
    put = λ form inside m c v s t q i h r. refl;
    update = λ form inside m c callee vs s t q i p h r. refl;
    send = λ inside m c callee vs s t i r. refl;
    dosync = λ inside m e env s t i p h a r. refl;
  }

  -- how deep calls may go makes no difference where it is deep enough
  pub deep : (b d : ℕ) (inside : Bool) (f : ℕ) (vs : List Value) (s t : Unit {0}) → f < b → f < d → s ≡ t → Related k (quiet b inside f vs s) (quiet d inside f vs t)
  deep zero d inside f vs s t lb ld r = absurd (omega (arith, lb))
  deep (suc b) zero inside f vs s t lb ld r = absurd (omega (arith, ld))
  deep (suc b) (suc d) inside f vs s t lb ld r = go (λ i g us s3 t3 l r3. deep b d i g us s3 t3 (omega (arith, l, lb)) (omega (arith, l, ld)) r3) (nth functions f) refl
    where
      go : ((i : Bool) (g : ℕ) (us : List Value) (s3 t3 : Unit {0}) → g < f → s3 ≡ t3 → Related k (quiet b i g us s3) (quiet d i g us t3)) → (o : Option PlainFunction) → nth functions f ≡ o
          → Related k (bind (give o s) (λ fun s1. turns (suc n) fun.parameters (λ ws s2. eval no_effects (quiet b) n inside fun.body ws s2) vs s1)) (bind (give o t) (λ fun t1. turns (suc n) fun.parameters (λ ws t2. eval no_effects (quiet d) n inside fun.body ws t2) vs t1))
      go below None e = refl
      go below (Some fun) e =
          turns_related (Unit {0}) (Unit {0}) k (suc n) (suc n) (inl refl) fun.parameters (λ ws s2. eval no_effects (quiet b) n inside fun.body ws s2) (λ ws t2. eval no_effects (quiet d) n inside fun.body ws t2)
          (λ ws s2 t2 r2. eval_related (Unit {0}) (Unit {0}) k no_effects no_effects (quiet b) (quiet d) n n (λ i. Unit {0}) (calls_below f) (inl refl) (quiet_alike b d f)
          (λ i g us s3 t3 l m r3. below i g us s3 t3 l r3) fun.body inside ws s2 t2 (body_below functions sound inside f fun e) tt r2)
          vs s t r

  pub same_value : (b d : ℕ) (p r : Span) (c : Callee) (vs : List Value) (v : Value) → Below b c → Below d c → quietly n functions b p c vs tt ≡ Completes v tt → quietly n functions d r c vs tt ≡ Completes v tt
  same_value b d p r (CoreOp op) vs v lb ld e = go (core op vs) e
    where
      go : (x : Result Value FaultKind) → result_of {S = Unit {0}} x p (tt {0}) ≡ Completes v (tt {0}) → result_of {S = Unit {0}} x r (tt {0}) ≡ Completes v (tt {0})
      go (Ok w) h = h
      go (Err f) h = absurd (subst HasValue (sym h) tt)
  same_value b d p r (Function f) vs v lb ld e =
      same_long (Unit {0}) (quiet b false f vs tt) (quiet d false f vs tt) (deep b d false f vs tt tt lb ld refl) (subst (λ x. IsLong (Unit {0}) x) (sym e) tt) ∙ e
