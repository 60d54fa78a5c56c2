-- The code of functions does what they mean.
use Rattle.std.proofs.Common.{◌≡◌, ℕ, zero, suc, ◌+◌, true, List, [], ◌∷◌, ◌++◌, length, Option, Some, None, refl, sym, ap, ◌∙◌, subst, arith, append_assoc, length-append}
use Rattle.std.proofs.lemmas.Bool.{false≢true}
use Rattle.txs_value_data.specs.Places.{nth}
use Rattle.txs_value_data.specs.declared.value.Value.{Value}
use Rattle.txs_tree_meaning.specs.Known.{Known, is_pure, known}
use Rattle.txs_tree_meaning.specs.Meaning.{bind, give, turns, eval, call_at}
use Rattle.txs_tree_meaning.specs.Sound.{SoundFunctions}
use Rattle.txs_tree_meaning.specs.Tree.{PlainFunction}
use Rattle.txs_code_meaning.specs.ActorState.{ActorState}
use Rattle.txs_code_meaning.specs.Machine.{PlainInstr, Return, PlainBody, ThreadCode, locals_of, body_of, instr_at, is_inside, Configuration, Unfinished, stack_after, doing_after, state_after}
use Rattle.txs_theorem_threads.specs.OnReplies.{on_replies}
use Rattle.txs_theorem_threads.proofs.Accepted.{AllValidators}
use Rattle.txs_theorem_threads.proofs.Callees.{IsPure, function_callees}
use Rattle.txs_theorem_threads.proofs.Functions.{Defined, defined}
use Rattle.txs_theorem_threads.proofs.Quiet.{quietly, callee_carried}
use Rattle.txs_gen.specs.Gen.{gen, function_code, functions_code}
use Rattle.txs_gen.proofs.Kept.{body_kept}
use Rattle.txs_gen.proofs.Lists.{Stands, holds_opening, stands_front, stands_back}
use Rattle.txs_gen.proofs.Simulates.{AtLoop, bound_to, Called, expression_simulates, call_turns_simulate}
use Rattle.txs_gen.proofs.Steps.{configuration, frame, Lands, of, Simulates, one_to, to_from, onward}
use Rattle.txs_gen.proofs.Validated.{Clear, AtValue, Never, CallSimulates, acts}
use Rattle.txs_value_cell.specs.Cells.{Validators}

-- a body's instructions stand in it
nth_seam : {A : Type 0} (pre is : List A) (i : A) → nth (pre ++ i ∷ is) (length pre) ≡ Some i
nth_seam [] is i = refl
nth_seam (x ∷ pre) is i = nth_seam pre is i

pub stands_from : (code : ThreadCode) (b : ℕ) (body : PlainBody) → body_of code b ≡ Some body → (is pre : List PlainInstr) → body.instrs ≡ pre ++ is → Stands code b (length pre) is (length pre + length is)
stands_from code b body at [] pre e = omega arith
stands_from code b body at (i ∷ is) pre e =
    let here = ap (λ o. instr_at o (length pre)) at ∙ ap (λ l. nth l (length pre)) e ∙ nth_seam pre is i in
    let n : length (pre ++ i ∷ []) ≡ length pre + 1 = omega (arith, length-append pre (i ∷ [])) in
    let m : length (pre ++ i ∷ []) + length is ≡ length pre + length (i ∷ is) = omega (arith, length-append pre (i ∷ [])) in
    let rest = stands_from code b body at is (pre ++ i ∷ []) (e ∙ sym (append_assoc pre (i ∷ []) is)) in
    (here, subst (λ k. Stands code b k is (length pre + length (i ∷ is))) n (subst (λ k. Stands code b (length (pre ++ i ∷ [])) is k) m rest))

abbrev on_some : {A B : Type 0} → (A → B) → Option A → Option B
on_some f None = None
on_some f (Some x) = Some (f x)

nth_code : (fs : List PlainFunction) (i : ℕ) → nth (functions_code fs) i ≡ on_some function_code (nth fs i)
nth_code [] i = refl
nth_code (f ∷ fs) zero = refl
nth_code (f ∷ fs) (suc i) = nth_code fs i

-- what is pure among the functions before one is pure among all
pub pure_before : (all before : List Known) → ((g : ℕ) (k : Known) → nth before g ≡ Some k → nth all g ≡ Some k) → (g : ℕ) → is_pure (nth before g) ≡ true → is_pure (nth all g) ≡ true
pure_before all before h g = go (nth before g) refl
  where
    go : (o : Option Known) → nth before g ≡ o → is_pure o ≡ true → is_pure (nth all g) ≡ true
    go None e p = absurd (false≢true p)
    go (Some k) e p = ap is_pure (h g k e) ∙ p

module _ (fs : List PlainFunction) (sound : SoundFunctions [] fs) (main : PlainBody) (validators : Validators) (valid : AllValidators (IsPure (known fs)) validators) where
  -- the code of these functions, with some body of the actor's own
  abbrev pub code_with : ThreadCode
  code_with = record { functions = functions_code fs; validators = validators; main = main }

  -- where calls go so deep, all is known of functions once their code does what they mean
  pub called_with : (n bd : ℕ) → CallSimulates code_with n (known fs) (call_at (λ d. on_replies validators) n fs bd) → Called code_with n (known fs) (call_at (λ d. on_replies validators) n fs bd)
  called_with n bd calls = record {
    calls = calls;
    quietly = λ span. quietly n fs bd span;
    quiet = λ inside span c vs s w. callee_carried (λ d. on_replies validators) n inside fs sound bd span c vs s w;
    valid = valid;
    kept = λ e env s w k. body_kept fs sound validators n bd e env s w k;
  }

  -- every function's code does what the function means
  pub calls_simulate : (n bd : ℕ) → CallSimulates code_with n (known fs) (call_at (λ d. on_replies validators) n fs bd)
  calls_simulate n zero f vs b pc st L fr doing awaits s ok clear = tt
  calls_simulate n (suc bd) f vs b pc st L fr doing awaits s ok clear = go (nth fs f) refl (called_with n bd (calls_simulate n bd))
    where
      go : (o : Option PlainFunction) → nth fs f ≡ o → Called code_with n (known fs) (call_at (λ d. on_replies validators) n fs bd) →
          Simulates code_with n (of doing) (λ v s1 c1. (c1 ≡ configuration b pc (stack_after awaits v st) L fr (doing_after awaits v doing) (state_after awaits v s1)) × Clear s1) Never (configuration (suc f) 0 [] (locals_of (nth (functions_code fs) f) vs) (frame b pc st L awaits ∷ fr) doing s)
          (bind (give o s) (λ fun s1. turns (suc n) fun.parameters (λ ws s2. eval (on_replies validators) (call_at (λ d. on_replies validators) n fs bd) n (is_inside doing) fun.body ws s2) vs s1))
      go None e called = tt
      go (Some fun) e called =
          let code = code_with in
          let all = known fs in
          let call = call_at (λ d. on_replies validators) n fs bd in
          let fr1 = frame b pc st L awaits ∷ fr in
          let after : Value → ActorState → Configuration = λ v s1. configuration b pc (stack_after awaits v st) L fr (doing_after awaits v doing) (state_after awaits v s1) in
          let G : Lands Value = λ v s1 c1. (c1 ≡ after v s1) × Clear s1 in
          let here : Defined all f fun = defined fs sound f fun e in
          let sub = pure_before all here.before (λ g k q. (here.earlier g k q).1) in
          let pure = bound_to doing (λ p. sym (ap is_pure here.found) ∙ p) ok in
          let is = gen fun.body fun.parameters 0 0 0 in
          let has = stands_from code (suc f) (function_code fun) (nth_code fs f ∙ ap (on_some function_code) e) (is ++ Return ∷ []) [] refl in
          let rear = stands_back code (suc f) 0 is (Return ∷ []) _ has in
          let stop = 0 + length is in
          call_turns_simulate code n all call called (suc f) fr1 fun.parameters 0 [] [] doing G Never (λ ws s2. eval (on_replies validators) call n (is_inside doing) fun.body ws s2)
          (λ ws L1 s1 len h1 k1. onward code n (of doing) (AtValue (suc f) stop [] ws fr1 doing) (AtLoop (suc f) 0 [] [] fr1 doing) G (configuration (suc f) 0 [] L1 fr1 doing s1) (eval (on_replies validators) call n (is_inside doing) fun.body ws s1)
          (expression_simulates code n all call called (suc f) fr1 here.before sub fun.body doing [] [] ws L1 fun.parameters 0 0 0 stop s1 (function_callees fs sound (is_inside doing) f fun e tt) pure (stands_front code (suc f) 0 is (Return ∷ []) _ has) (record { inner = ws; within = refl; size = refl; depth = sym len }) h1 k1)
          (λ v s2 c2 g.
          let there = configuration (suc f) stop (v ∷ []) g.0 fr1 doing s2 in
          (after v s2, (refl, g.3), to_from code c2 there (after v s2) g.2 (one_to code there (after v s2) (acts code n all call called.calls (suc f) fr1 there Return (Unfinished (after v s2)) rear.0 refl)))))
          vs (locals_of (nth (functions_code fs) f) vs) s (holds_opening (nth (functions_code fs) f) vs) clear
