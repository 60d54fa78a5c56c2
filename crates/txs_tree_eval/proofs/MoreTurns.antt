-- More turns change no answer of pure code.
use Rattle.std.proofs.Common.{◌≤◌, ℕ, zero, suc, Bool, true, false, List, [], ◌∷◌, ◌++◌, length, nat_eq, if◌then◌else◌, refl, sym, ap, subst, arith}
use Rattle.txs_value_apply.specs.Core.{core, vector_of}
use Rattle.txs_value_data.specs.Places.{nth}
use Rattle.txs_value_apply.specs.Truth.{choose}
use Rattle.txs_value_data.specs.declared.op.Callee.{Callee}
use Rattle.txs_value_data.specs.declared.op.Callee.TheVariants.{Core as CoreOp, Function}
use Rattle.txs_value_data.specs.declared.value.Value.{Value}
use Rattle.txs_value_data.specs.declared.value.Value.TheVariants.{Nil, Truth, Int, Key, Text, Vector, Cell}
use Rattle.txs_tree_meaning.specs.Meaning.{Completion, Completes, Recurs, Faults, Retries, Waits, OutOfTurns, Invalid, bind, again, give, result_of, turns, eval, eval_all, eval_let, eval_do}
use Rattle.txs_tree_meaning.specs.Pure.{Lasts, no_effects, pure_calls, pure_meaning, nowhere}
use Rattle.txs_tree_meaning.specs.Tree.{Tree, Const, Local, If, Do, Let, Loop, Recur, Core, Call, VectorOf, Println, Dosync, Look, Put, Update, Send, Trees, none, more, count, PlainFunction}

-- the one state of pure code
abbrev State : Type 0
State = Unit {0}

lasts-same : {A : Type 0} (p : Completion State A) → Lasts p p
lasts-same (Completes a s) = refl
lasts-same (Recurs vs s) = refl
lasts-same (Faults f s) = refl
lasts-same (Retries s) = refl
lasts-same (Waits s) = refl
lasts-same (OutOfTurns s) = tt
lasts-same Invalid = refl

bind_lasts : {A B : Type 0} (p q : Completion State A) (f g : A → State → Completion State B) → Lasts p q → ((a : A) (s : State) → Lasts (f a s) (g a s)) → Lasts (bind p f) (bind q g)
bind_lasts (Completes a s) q f g h each = subst (λ x. Lasts (f a s) (bind x g)) (sym h) (each a s)
bind_lasts (Recurs vs s) q f g h each = ap (λ x. bind x g) h
bind_lasts (Faults x s) q f g h each = ap (λ y. bind y g) h
bind_lasts (Retries s) q f g h each = ap (λ x. bind x g) h
bind_lasts (Waits s) q f g h each = ap (λ x. bind x g) h
bind_lasts (OutOfTurns s) q f g h each = tt
bind_lasts Invalid q f g h each = ap (λ x. bind x g) h

again_lasts : (p q : Completion State Value) (f g : List Value → State → Completion State Value) → Lasts p q → ((vs : List Value) (s : State) → Lasts (f vs s) (g vs s)) → Lasts (again p f) (again q g)
again_lasts (Completes a s) q f g h each = ap (λ x. again x g) h
again_lasts (Recurs vs s) q f g h each = subst (λ x. Lasts (f vs s) (again x g)) (sym h) (each vs s)
again_lasts (Faults x s) q f g h each = ap (λ y. again y g) h
again_lasts (Retries s) q f g h each = ap (λ x. again x g) h
again_lasts (Waits s) q f g h each = ap (λ x. again x g) h
again_lasts (OutOfTurns s) q f g h each = tt
again_lasts Invalid q f g h each = ap (λ x. again x g) h

either_lasts : (b : Bool) (p q : Completion State Value) → Lasts p q → Lasts (if b then p else Invalid) (if b then q else Invalid)
either_lasts true p q h = h
either_lasts false p q h = refl

turns_lasts : (j k d : ℕ) (f g : List Value → State → Completion State Value) → j ≤ k → ((ws : List Value) (s : State) → Lasts (f ws s) (g ws s)) → (vs : List Value) (s : State)
    → Lasts (turns j d f vs s) (turns k d g vs s)
turns_lasts zero k d f g le each vs s = tt
turns_lasts (suc j) zero d f g le each vs s = absurd (omega (arith, le))
turns_lasts (suc j) (suc k) d f g le each vs s =
    either_lasts (nat_eq (length vs) d) (again (f vs s) (turns j d f)) (again (g vs s) (turns k d g))
    (again_lasts (f vs s) (g vs s) (turns j d f) (turns k d g) (each vs s) (λ ws t. turns_lasts j k d f g (omega (arith, le)) each ws t))

choose_lasts : (v : Value) (p q x y : Completion State Value) → Lasts p x → Lasts q y → Lasts (choose v p q) (choose v x y)
choose_lasts Nil p q x y f g = g
choose_lasts (Truth true) p q x y f g = f
choose_lasts (Truth false) p q x y f g = g
choose_lasts (Int z) p q x y f g = f
choose_lasts (Key bs) p q x y f g = f
choose_lasts (Text bs) p q x y f g = f
choose_lasts (Vector vs) p q x y f g = f
choose_lasts (Cell c) p q x y f g = f

module _ (n m : ℕ) (le : n ≤ m) where
  module _ (low high : Bool → ℕ → List Value → State → Completion State Value) (calls : (f : ℕ) (vs : List Value) (s : State) → Lasts (low false f vs s) (high false f vs s)) where
    mutual
      tree_lasts : (e : Tree) (env : List Value) (s : State) → Lasts (eval no_effects low n false e env s) (eval no_effects high m false e env s)
      tree_lasts (Const v k) env s = refl
      tree_lasts (Local i k) env s = lasts-same (give (nth env i) s)
      tree_lasts (If c a b k) env s =
          bind_lasts (eval no_effects low n false c env s) (eval no_effects high m false c env s)
          (λ v t. choose v (eval no_effects low n false a env t) (eval no_effects low n false b env t)) (λ v t. choose v (eval no_effects high m false a env t) (eval no_effects high m false b env t))
          (tree_lasts c env s)
          (λ v t. choose_lasts v (eval no_effects low n false a env t) (eval no_effects low n false b env t) (eval no_effects high m false a env t) (eval no_effects high m false b env t) (tree_lasts a env t) (tree_lasts b env t))
      tree_lasts (Do items k) env s = do_lasts items env s
      tree_lasts (Let values body k) env s =
          bind_lasts (eval_let no_effects low n false values env s) (eval_let no_effects high m false values env s)
          (λ vs t. eval no_effects low n false body (env ++ vs) t) (λ vs t. eval no_effects high m false body (env ++ vs) t)
          (let_lasts values env s) (λ vs t. tree_lasts body (env ++ vs) t)
      tree_lasts (Loop values body k) env s =
          bind_lasts (eval_let no_effects low n false values env s) (eval_let no_effects high m false values env s)
          (λ vs t. turns n (count values) (λ ws u. eval no_effects low n false body (env ++ ws) u) vs t) (λ vs t. turns m (count values) (λ ws u. eval no_effects high m false body (env ++ ws) u) vs t)
          (let_lasts values env s)
          (λ vs t. turns_lasts n m (count values) (λ ws u. eval no_effects low n false body (env ++ ws) u) (λ ws u. eval no_effects high m false body (env ++ ws) u) le (λ ws u. tree_lasts body (env ++ ws) u) vs t)
      tree_lasts (Recur values k) env s =
          bind_lasts (eval_all no_effects low n false values env s) (eval_all no_effects high m false values env s) (λ vs t. Recurs vs t) (λ vs t. Recurs vs t) (all_lasts values env s) (λ vs t. refl)
      tree_lasts (Core op args k) env s =
          bind_lasts (eval_all no_effects low n false args env s) (eval_all no_effects high m false args env s) (λ vs t. result_of (core op vs) k.span t) (λ vs t. result_of (core op vs) k.span t)
          (all_lasts args env s) (λ vs t. lasts-same (result_of (core op vs) k.span t))
      tree_lasts (Call f args k) env s =
          bind_lasts (eval_all no_effects low n false args env s) (eval_all no_effects high m false args env s) (λ vs t. low false f vs t) (λ vs t. high false f vs t) (all_lasts args env s) (λ vs t. calls f vs t)
      tree_lasts (VectorOf items k) env s =
          bind_lasts (eval_all no_effects low n false items env s) (eval_all no_effects high m false items env s) (λ vs t. result_of (vector_of vs) k.span t) (λ vs t. result_of (vector_of vs) k.span t)
          (all_lasts items env s) (λ vs t. lasts-same (result_of (vector_of vs) k.span t))
      tree_lasts (Println args k) env s =
          bind_lasts {B = Value} (eval_all no_effects low n false args env s) (eval_all no_effects high m false args env s) (λ vs t. Invalid) (λ vs t. Invalid) (all_lasts args env s) (λ vs t. refl)
      tree_lasts (Dosync body k) env s = refl
      tree_lasts (Look form cell k) env s =
          bind_lasts {B = Value} (eval no_effects low n false cell env s) (eval no_effects high m false cell env s) (λ v t. Invalid) (λ v t. Invalid) (tree_lasts cell env s) (λ v t. refl)
      tree_lasts (Put form cell value k) env s =
          bind_lasts {B = Value} (eval no_effects low n false cell env s) (eval no_effects high m false cell env s)
          (λ c t. bind (eval no_effects low n false value env t) (λ v u. Invalid)) (λ c t. bind (eval no_effects high m false value env t) (λ v u. Invalid))
          (tree_lasts cell env s)
          (λ c t. bind_lasts {B = Value} (eval no_effects low n false value env t) (eval no_effects high m false value env t) (λ v u. Invalid) (λ v u. Invalid) (tree_lasts value env t) (λ v u. refl))
      tree_lasts (Update form cell callee args k) env s =
          bind_lasts {B = Value} (eval no_effects low n false cell env s) (eval no_effects high m false cell env s)
          (λ c t. bind (eval_all no_effects low n false args env t) (λ v u. Invalid)) (λ c t. bind (eval_all no_effects high m false args env t) (λ v u. Invalid))
          (tree_lasts cell env s)
          (λ c t. bind_lasts {B = Value} (eval_all no_effects low n false args env t) (eval_all no_effects high m false args env t) (λ v u. Invalid) (λ v u. Invalid) (all_lasts args env t) (λ v u. refl))
      tree_lasts (Send cell callee args k) env s =
          bind_lasts {B = Value} (eval no_effects low n false cell env s) (eval no_effects high m false cell env s)
          (λ c t. bind (eval_all no_effects low n false args env t) (λ v u. Invalid)) (λ c t. bind (eval_all no_effects high m false args env t) (λ v u. Invalid))
          (tree_lasts cell env s)
          (λ c t. bind_lasts {B = Value} (eval_all no_effects low n false args env t) (eval_all no_effects high m false args env t) (λ v u. Invalid) (λ v u. Invalid) (all_lasts args env t) (λ v u. refl))

      all_lasts : (es : Trees) (env : List Value) (s : State) → Lasts (eval_all no_effects low n false es env s) (eval_all no_effects high m false es env s)
      all_lasts none env s = refl
      all_lasts (more e rest) env s =
          bind_lasts (eval no_effects low n false e env s) (eval no_effects high m false e env s)
          (λ v t. bind (eval_all no_effects low n false rest env t) (λ vs u. Completes (v ∷ vs) u)) (λ v t. bind (eval_all no_effects high m false rest env t) (λ vs u. Completes (v ∷ vs) u))
          (tree_lasts e env s)
          (λ v t. bind_lasts (eval_all no_effects low n false rest env t) (eval_all no_effects high m false rest env t) (λ vs u. Completes (v ∷ vs) u) (λ vs u. Completes (v ∷ vs) u) (all_lasts rest env t) (λ vs u. refl))

      let_lasts : (es : Trees) (env : List Value) (s : State) → Lasts (eval_let no_effects low n false es env s) (eval_let no_effects high m false es env s)
      let_lasts none env s = refl
      let_lasts (more e rest) env s =
          bind_lasts (eval no_effects low n false e env s) (eval no_effects high m false e env s)
          (λ v t. bind (eval_let no_effects low n false rest (env ++ v ∷ []) t) (λ vs u. Completes (v ∷ vs) u)) (λ v t. bind (eval_let no_effects high m false rest (env ++ v ∷ []) t) (λ vs u. Completes (v ∷ vs) u))
          (tree_lasts e env s)
          (λ v t. bind_lasts (eval_let no_effects low n false rest (env ++ v ∷ []) t) (eval_let no_effects high m false rest (env ++ v ∷ []) t) (λ vs u. Completes (v ∷ vs) u) (λ vs u. Completes (v ∷ vs) u)
          (let_lasts rest (env ++ v ∷ []) t) (λ vs u. refl))

      do_lasts : (es : Trees) (env : List Value) (s : State) → Lasts (eval_do no_effects low n false es env s) (eval_do no_effects high m false es env s)
      do_lasts none env s = refl
      do_lasts (more e none) env s = tree_lasts e env s
      do_lasts (more e (more f rest)) env s =
          bind_lasts (eval no_effects low n false e env s) (eval no_effects high m false e env s)
          (λ v t. eval_do no_effects low n false (more f rest) env t) (λ v t. eval_do no_effects high m false (more f rest) env t)
          (tree_lasts e env s) (λ v t. do_lasts (more f rest) env t)

  calls_last : (fs : List PlainFunction) (b f : ℕ) (vs : List Value) (s : State) → Lasts (pure_calls n fs b false f vs s) (pure_calls m fs b false f vs s)
  calls_last fs zero f vs s = refl
  calls_last fs (suc b) f vs s =
      bind_lasts (give (nth fs f) s) (give (nth fs f) s)
      (λ fun t. turns (suc n) fun.parameters (λ ws u. eval no_effects (pure_calls n fs b) n false fun.body ws u) vs t)
      (λ fun t. turns (suc m) fun.parameters (λ ws u. eval no_effects (pure_calls m fs b) m false fun.body ws u) vs t)
      (lasts-same (give (nth fs f) s))
      (λ fun t. turns_lasts (suc n) (suc m) fun.parameters (λ ws u. eval no_effects (pure_calls n fs b) n false fun.body ws u) (λ ws u. eval no_effects (pure_calls m fs b) m false fun.body ws u) (omega (arith, le))
      (λ ws u. tree_lasts (pure_calls n fs b) (pure_calls m fs b) (λ g us x. calls_last fs b g us x) fun.body ws u) vs t)

  pub meaning_lasts : (fs : List PlainFunction) (callee : Callee) (vs : List Value) → Lasts (pure_meaning n fs callee vs) (pure_meaning m fs callee vs)
  meaning_lasts fs (CoreOp op) vs = lasts-same (result_of (core op vs) nowhere tt)
  meaning_lasts fs (Function f) vs = calls_last fs (length fs) f vs tt
