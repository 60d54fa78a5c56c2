-- Pure code means the same whatever the forms on cells do, and leaves the state as it was.
use Rattle.std.proofs.Common.{◌≡◌, ℕ, zero, suc, Bool, true, false, ◌&&◌, List, [], ◌∷◌, ◌++◌, Option, Some, None, Result, Ok, Err, length, take, nat_eq, if◌then◌else◌, refl, sym, ap, ◌∙◌, subst}
use Rattle.std.proofs.lemmas.Bool.{false≢true}
use Rattle.txs_value_apply.specs.Core.{core, vector_of}
use Rattle.txs_value_data.specs.Places.{nth}
use Rattle.txs_value_apply.specs.Truth.{choose}
use Rattle.txs_value_data.specs.declared.fault.Fault.{Fault}
use Rattle.txs_value_data.specs.declared.fault.FaultKind.{FaultKind}
use Rattle.txs_value_data.specs.declared.fault.Span.{Span}
use Rattle.txs_value_data.specs.declared.value.Value.{Value}
use Rattle.txs_value_data.specs.declared.value.Value.TheVariants.{Nil, Truth, Int, Key, Text, Vector, Cell}
use Rattle.txs_tree_meaning.specs.Known.{Known, is_pure, pure_in, all_pure, known}
use Rattle.txs_tree_meaning.specs.Meaning.{Completion, Completes, Recurs, Faults, Retries, Waits, OutOfTurns, Invalid, bind, again, give, result_of, turns, Effects, eval, eval_all, eval_let, eval_do, call_at}
use Rattle.txs_tree_meaning.specs.Pure.{no_effects}
use Rattle.txs_tree_meaning.specs.Sound.{SoundFunctions}
use Rattle.txs_tree_meaning.specs.Tree.{Tree, Const, Local, If, Do, Let, Loop, Recur, Core, Call, VectorOf, Println, Dosync, Look, Put, Update, Send, Trees, none, more, count, PlainFunction}
use Rattle.txs_tree_meaning.proofs.Callable.{both, function_at}

-- the same with no state
abbrev plain : {S A : Type 0} → Completion S A → Completion (Unit {0}) A
plain (Completes a s) = Completes a tt
plain (Recurs vs s) = Recurs vs tt
plain (Faults f s) = Faults f tt
plain (Retries s) = Retries tt
plain (Waits s) = Waits tt
plain (OutOfTurns s) = OutOfTurns tt
plain Invalid = Invalid

module _ {S : Type 0} (s : S) where
  -- a pure answer, and the same with a state as it was; pure code waits for nothing
  abbrev pub Agrees : {A : Type 0} → Completion (Unit {0}) A → Completion S A → Type 0
  Agrees (Completes a t) c = c ≡ Completes a s
  Agrees (Recurs vs t) c = c ≡ Recurs vs s
  Agrees (Faults f t) c = c ≡ Faults f s
  Agrees (Retries t) c = ⊥
  Agrees (Waits t) c = ⊥
  Agrees (OutOfTurns t) c = c ≡ OutOfTurns s
  Agrees Invalid c = c ≡ Invalid

  plain-agrees : {A : Type 0} (p : Completion (Unit {0}) A) (c : Completion S A) → Agrees p c → p ≡ plain c
  plain-agrees (Completes a tt) c h = sym (ap plain h)
  plain-agrees (Recurs vs tt) c h = sym (ap plain h)
  plain-agrees (Faults f tt) c h = sym (ap plain h)
  plain-agrees (Retries t) c h = absurd h
  plain-agrees (Waits t) c h = absurd h
  plain-agrees (OutOfTurns tt) c h = sym (ap plain h)
  plain-agrees Invalid c h = sym (ap plain h)

  module _ {A : Type 0} (p : Completion (Unit {0}) A) (c : Completion S A) (h : Agrees p c) where
    pub pure_value : (v : A) (t : S) → c ≡ Completes v t → p ≡ Completes v tt
    pure_value v t is = plain-agrees p c h ∙ ap plain is

    pub pure_fault : (f : Fault) (t : S) → c ≡ Faults f t → p ≡ Faults f tt
    pure_fault f t is = plain-agrees p c h ∙ ap plain is

    pub pure_turns : (t : S) → c ≡ OutOfTurns t → p ≡ OutOfTurns tt
    pure_turns t is = plain-agrees p c h ∙ ap plain is

  pub bind_agrees : {A B : Type 0} (p : Completion (Unit {0}) A) (c : Completion S A) (go : A → Unit {0} → Completion (Unit {0}) B) (on : A → S → Completion S B)
      → Agrees p c → ((a : A) → Agrees (go a tt) (on a s)) → Agrees (bind p go) (bind c on)
  bind_agrees (Completes a tt) c go on h each = subst (λ x. Agrees (go a tt) (bind x on)) (sym h) (each a)
  bind_agrees (Recurs vs t) c go on h each = ap (λ x. bind x on) h
  bind_agrees (Faults f t) c go on h each = ap (λ x. bind x on) h
  bind_agrees (Retries t) c go on h each = h
  bind_agrees (Waits t) c go on h each = h
  bind_agrees (OutOfTurns t) c go on h each = ap (λ x. bind x on) h
  bind_agrees Invalid c go on h each = ap (λ x. bind x on) h

  again_agrees : (p : Completion (Unit {0}) Value) (c : Completion S Value) (go : List Value → Unit {0} → Completion (Unit {0}) Value) (on : List Value → S → Completion S Value)
      → Agrees p c → ((vs : List Value) → Agrees (go vs tt) (on vs s)) → Agrees (again p go) (again c on)
  again_agrees (Completes a t) c go on h each = ap (λ x. again x on) h
  again_agrees (Recurs vs tt) c go on h each = subst (λ x. Agrees (go vs tt) (again x on)) (sym h) (each vs)
  again_agrees (Faults f t) c go on h each = ap (λ x. again x on) h
  again_agrees (Retries t) c go on h each = h
  again_agrees (Waits t) c go on h each = h
  again_agrees (OutOfTurns t) c go on h each = ap (λ x. again x on) h
  again_agrees Invalid c go on h each = ap (λ x. again x on) h

  either_agrees : (b : Bool) (p : Completion (Unit {0}) Value) (c : Completion S Value) → Agrees p c → Agrees (if b then p else Invalid) (if b then c else Invalid)
  either_agrees true p c h = h
  either_agrees false p c h = refl

  pub turns_agrees : (k d : ℕ) (go : List Value → Unit {0} → Completion (Unit {0}) Value) (on : List Value → S → Completion S Value) → ((ws : List Value) → Agrees (go ws tt) (on ws s))
      → (vs : List Value) → Agrees (turns k d go vs tt) (turns k d on vs s)
  turns_agrees zero d go on each vs = refl
  turns_agrees (suc k) d go on each vs =
      either_agrees (nat_eq (length vs) d) (again (go vs tt) (turns k d go)) (again (on vs s) (turns k d on))
      (again_agrees (go vs tt) (on vs s) (turns k d go) (turns k d on) (each vs) (λ ws. turns_agrees k d go on each ws))

  give_agrees : {A : Type 0} (o : Option A) → Agrees (give o tt) (give o s)
  give_agrees None = refl
  give_agrees (Some v) = refl

  pub result_agrees : (r : Result Value FaultKind) (span : Span) → Agrees (result_of r span tt) (result_of r span s)
  result_agrees (Ok v) span = refl
  result_agrees (Err k) span = refl

  choose_agrees : (v : Value) (p q : Completion (Unit {0}) Value) (c d : Completion S Value) → Agrees p c → Agrees q d → Agrees (choose v p q) (choose v c d)
  choose_agrees Nil p q c d f g = g
  choose_agrees (Truth true) p q c d f g = f
  choose_agrees (Truth false) p q c d f g = g
  choose_agrees (Int z) p q c d f g = f
  choose_agrees (Key bs) p q c d f g = f
  choose_agrees (Text bs) p q c d f g = f
  choose_agrees (Vector vs) p q c d f g = f
  choose_agrees (Cell x) p q c d f g = f

  module _ (fx : Effects S) (n : ℕ) (inside : Bool) (ks : List Known) (quiet : Bool → ℕ → List Value → Unit {0} → Completion (Unit {0}) Value) (call : Bool → ℕ → List Value → S → Completion S Value)
      (calls : (f : ℕ) (vs : List Value) → is_pure (nth ks f) ≡ true → Agrees (quiet false f vs tt) (call inside f vs s)) where
    mutual
      pub tree_agrees : (e : Tree) (env : List Value) → pure_in ks e ≡ true → Agrees (eval no_effects quiet n false e env tt) (eval fx call n inside e env s)
      tree_agrees (Const v m) env pure = refl
      tree_agrees (Local i m) env pure = give_agrees (nth env i)
      tree_agrees (If c a b m) env pure =
          let test = both (pure_in ks c) (pure_in ks a && pure_in ks b) pure in
          let branches = both (pure_in ks a) (pure_in ks b) test.1 in
          bind_agrees (eval no_effects quiet n false c env tt) (eval fx call n inside c env s)
          (λ v t. choose v (eval no_effects quiet n false a env t) (eval no_effects quiet n false b env t))
          (λ v t. choose v (eval fx call n inside a env t) (eval fx call n inside b env t))
          (tree_agrees c env test.0)
          (λ v. choose_agrees v (eval no_effects quiet n false a env tt) (eval no_effects quiet n false b env tt) (eval fx call n inside a env s) (eval fx call n inside b env s) (tree_agrees a env branches.0) (tree_agrees b env branches.1))
      tree_agrees (Do items m) env pure = do_agrees items env pure
      tree_agrees (Let values body m) env pure =
          let parts = both (all_pure ks values) (pure_in ks body) pure in
          bind_agrees (eval_let no_effects quiet n false values env tt) (eval_let fx call n inside values env s)
          (λ vs t. eval no_effects quiet n false body (env ++ vs) t) (λ vs t. eval fx call n inside body (env ++ vs) t)
          (let_agrees values env parts.0) (λ vs. tree_agrees body (env ++ vs) parts.1)
      tree_agrees (Loop values body m) env pure =
          let parts = both (all_pure ks values) (pure_in ks body) pure in
          bind_agrees (eval_let no_effects quiet n false values env tt) (eval_let fx call n inside values env s)
          (λ vs t. turns n (count values) (λ ws t1. eval no_effects quiet n false body (env ++ ws) t1) vs t)
          (λ vs t. turns n (count values) (λ ws t1. eval fx call n inside body (env ++ ws) t1) vs t)
          (let_agrees values env parts.0)
          (λ vs. turns_agrees n (count values) (λ ws t1. eval no_effects quiet n false body (env ++ ws) t1) (λ ws t1. eval fx call n inside body (env ++ ws) t1) (λ ws. tree_agrees body (env ++ ws) parts.1) vs)
      tree_agrees (Recur values m) env pure =
          bind_agrees (eval_all no_effects quiet n false values env tt) (eval_all fx call n inside values env s) (λ vs t. Recurs vs t) (λ vs t. Recurs vs t) (all_agrees values env pure) (λ vs. refl)
      tree_agrees (Core op args m) env pure =
          bind_agrees (eval_all no_effects quiet n false args env tt) (eval_all fx call n inside args env s) (λ vs t. result_of (core op vs) m.span t) (λ vs t. result_of (core op vs) m.span t)
          (all_agrees args env pure) (λ vs. result_agrees (core op vs) m.span)
      tree_agrees (Call f args m) env pure =
          let parts = both (is_pure (nth ks f)) (all_pure ks args) pure in
          bind_agrees (eval_all no_effects quiet n false args env tt) (eval_all fx call n inside args env s) (λ vs t. quiet false f vs t) (λ vs t. call inside f vs t)
          (all_agrees args env parts.1) (λ vs. calls f vs parts.0)
      tree_agrees (VectorOf items m) env pure =
          bind_agrees (eval_all no_effects quiet n false items env tt) (eval_all fx call n inside items env s) (λ vs t. result_of (vector_of vs) m.span t) (λ vs t. result_of (vector_of vs) m.span t)
          (all_agrees items env pure) (λ vs. result_agrees (vector_of vs) m.span)
      tree_agrees (Println args m) env pure = absurd (false≢true pure)
      tree_agrees (Dosync body m) env pure = absurd (false≢true pure)
      tree_agrees (Look form cell m) env pure = absurd (false≢true pure)
      tree_agrees (Put form cell value m) env pure = absurd (false≢true pure)
      tree_agrees (Update form cell callee args m) env pure = absurd (false≢true pure)
      tree_agrees (Send cell callee args m) env pure = absurd (false≢true pure)

      all_agrees : (es : Trees) (env : List Value) → all_pure ks es ≡ true → Agrees (eval_all no_effects quiet n false es env tt) (eval_all fx call n inside es env s)
      all_agrees none env pure = refl
      all_agrees (more e rest) env pure =
          let parts = both (pure_in ks e) (all_pure ks rest) pure in
          bind_agrees (eval no_effects quiet n false e env tt) (eval fx call n inside e env s)
          (λ v t. bind (eval_all no_effects quiet n false rest env t) (λ vs t1. Completes (v ∷ vs) t1)) (λ v t. bind (eval_all fx call n inside rest env t) (λ vs t1. Completes (v ∷ vs) t1))
          (tree_agrees e env parts.0)
          (λ v. bind_agrees (eval_all no_effects quiet n false rest env tt) (eval_all fx call n inside rest env s) (λ vs t1. Completes (v ∷ vs) t1) (λ vs t1. Completes (v ∷ vs) t1) (all_agrees rest env parts.1) (λ vs. refl))

      let_agrees : (es : Trees) (env : List Value) → all_pure ks es ≡ true → Agrees (eval_let no_effects quiet n false es env tt) (eval_let fx call n inside es env s)
      let_agrees none env pure = refl
      let_agrees (more e rest) env pure =
          let parts = both (pure_in ks e) (all_pure ks rest) pure in
          bind_agrees (eval no_effects quiet n false e env tt) (eval fx call n inside e env s)
          (λ v t. bind (eval_let no_effects quiet n false rest (env ++ v ∷ []) t) (λ vs t1. Completes (v ∷ vs) t1)) (λ v t. bind (eval_let fx call n inside rest (env ++ v ∷ []) t) (λ vs t1. Completes (v ∷ vs) t1))
          (tree_agrees e env parts.0)
          (λ v. bind_agrees (eval_let no_effects quiet n false rest (env ++ v ∷ []) tt) (eval_let fx call n inside rest (env ++ v ∷ []) s) (λ vs t1. Completes (v ∷ vs) t1) (λ vs t1. Completes (v ∷ vs) t1)
          (let_agrees rest (env ++ v ∷ []) parts.1) (λ vs. refl))

      do_agrees : (es : Trees) (env : List Value) → all_pure ks es ≡ true → Agrees (eval_do no_effects quiet n false es env tt) (eval_do fx call n inside es env s)
      do_agrees none env pure = refl
      do_agrees (more e none) env pure = tree_agrees e env (both (pure_in ks e) true pure).0
      do_agrees (more e (more f rest)) env pure =
          let parts = both (pure_in ks e) (all_pure ks (more f rest)) pure in
          bind_agrees (eval no_effects quiet n false e env tt) (eval fx call n inside e env s)
          (λ v t. eval_do no_effects quiet n false (more f rest) env t) (λ v t. eval_do fx call n inside (more f rest) env t)
          (tree_agrees e env parts.0) (λ v. do_agrees (more f rest) env parts.1)

  pure-before : (b : ℕ) (ks : List Known) (f : ℕ) → is_pure (nth (take b ks) f) ≡ true → is_pure (nth ks f) ≡ true
  pure-before zero [] f h = absurd (false≢true h)
  pure-before zero (k ∷ ks) f h = absurd (false≢true h)
  pure-before (suc b) [] f h = absurd (false≢true h)
  pure-before (suc b) (k ∷ ks) zero h = h
  pure-before (suc b) (k ∷ ks) (suc f) h = pure-before b ks f h

  module _ (fx : ℕ → Effects S) (n : ℕ) (inside : Bool) (functions : List PlainFunction) (sound : SoundFunctions [] functions) where
    function_agrees : (b f : ℕ) (vs : List Value)
        → ((g : ℕ) (us : List Value) → is_pure (nth (known functions) g) ≡ true → Agrees (call_at (λ d. no_effects) n functions b false g us tt) (call_at fx n functions b inside g us s))
        → is_pure (nth (known functions) f) ≡ true → (o : Option PlainFunction) → nth functions f ≡ o
        → Agrees (bind (give o tt) (λ fun t. turns (suc n) fun.parameters (λ ws t1. eval no_effects (call_at (λ d. no_effects) n functions b) n false fun.body ws t1) vs t))
        (bind (give o s) (λ fun t. turns (suc n) fun.parameters (λ ws t1. eval (fx b) (call_at fx n functions b) n inside fun.body ws t1) vs t))
    function_agrees b f vs below pure None found = refl
    function_agrees b f vs below pure (Some fun) found =
        let at_place = function_at functions f fun sound found in
        let body : pure_in (take f (known functions)) fun.body ≡ true = sym (ap is_pure at_place.0) ∙ pure in
        turns_agrees (suc n) fun.parameters (λ ws t1. eval no_effects (call_at (λ d. no_effects) n functions b) n false fun.body ws t1) (λ ws t1. eval (fx b) (call_at fx n functions b) n inside fun.body ws t1)
        (λ ws. tree_agrees (fx b) n inside (take f (known functions)) (call_at (λ d. no_effects) n functions b) (call_at fx n functions b)
        (λ g us is. below g us (pure-before f (known functions) g is)) fun.body ws body)
        vs

    -- a pure function means the same as pure code
    pub call_agrees : (b f : ℕ) (vs : List Value) → is_pure (nth (known functions) f) ≡ true → Agrees (call_at (λ d. no_effects) n functions b false f vs tt) (call_at fx n functions b inside f vs s)
    call_agrees zero f vs pure = refl
    call_agrees (suc b) f vs pure = function_agrees b f vs (λ g us is. call_agrees b g us is) pure (nth functions f) refl
