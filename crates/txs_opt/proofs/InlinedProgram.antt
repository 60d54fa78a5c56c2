-- A program with calls inlined means what the program meant: exactly, where each function calls functions before it alone, or
-- wherever the program has a meaning.
use Rattle.std.proofs.Common.{◌≡◌, ℕ, zero, suc, Bool, true, false, List, [], length, nat_eq, if◌then◌else◌, Option, Some, None, refl, sym, subst, arith}
use Rattle.txs_value_data.specs.Places.{nth}
use Rattle.txs_value_data.specs.declared.value.Value.{Value}
use Rattle.txs_tree_meaning.specs.Meaning.{Completion, Invalid, bind, again, give, Effects, turns, eval, call_at}
use Rattle.txs_tree_meaning.specs.Tree.{Tree, PlainFunction}
use Rattle.txs_tree_meaning.specs.Shift.{shifted}
use Rattle.txs_opt.specs.Inline.{recurs, inlined, functions_inlined}
use Rattle.txs_opt.proofs.Below.{Kind, Below}
use Rattle.txs_opt.proofs.Inlining.{inlined_like}
use Rattle.txs_opt.proofs.InlinedFunctions.{Within, inlined_at, inlined_missing}
use Rattle.txs_opt.proofs.Like.{Likeness, Like, PartsLike, loose_any, turns_like}
use Rattle.txs_opt.proofs.Parts.{FormsLike, CallsLike}
use Rattle.txs_opt.proofs.Recurring.{FormsEnd, again_ended, call_end, eval_end}
use Rattle.txs_opt.proofs.Shifting.{Wider, shifted_like}
use Rattle.txs_opt.proofs.Unchanged.{unchanged}

-- the bodies of functions that may be called one deeper call such as may be called here
abbrev pub Bodies : (ℕ → Kind) → List PlainFunction → Type 0
Bodies May gs = (d f : ℕ) (fun : PlainFunction) → nth gs f ≡ Some fun → (May (suc d)).calls f → Below (May d) fun.body

-- Functions and what their bodies say of the forms on cells, one call deeper. Where calls go d deep, those of May d are called; where
-- they go 0 deep, there is none of these, or the second meaning may be any.
module _ (S : Type 0) (k : Likeness S) (May : ℕ → Kind) (bottom : (f : ℕ) → (May 0).calls f → k.loose) (deeper : (d f : ℕ) → (May d).calls f → (May (suc d)).calls f)
    (Own Deep : ℕ → Tree → List Value → Tree → List Value → Type 0) (gxs : ℕ → Effects S) (m : ℕ) (gs : List PlainFunction) (bodies : Bodies May gs)
    (own_forms : (d : ℕ) → FormsLike S k (May d) (Own d) (gxs d) (gxs d)) (own_same : (d : ℕ) (e : Tree) (env : List Value) → Below (May d) e → Own d e env e env)
    (deep_forms : (d : ℕ) → FormsLike S k (May d) (Deep d) (gxs d) (gxs (suc d))) (deep_same : (d : ℕ) (e : Tree) (env : List Value) → Below (May d) e → Deep d e env e env)
    (ends : (d : ℕ) → FormsEnd S (gxs d)) where
  abbrev C : ℕ → Bool → ℕ → List Value → S → Completion S Value
  C d = call_at gxs m gs d

  own_deeper : (d : ℕ) → CallsLike S k (May d) (C d) (C d) → CallsLike S k (May (suc d)) (C (suc d)) (C (suc d))
  own_deeper d below inside f vs may s t r = go (nth gs f) refl
    where
      go : (o : Option PlainFunction) → nth gs f ≡ o → Like k (bind (give o s) (λ fun s1. turns (suc m) fun.parameters (λ ws s2. eval (gxs d) (C d) m inside fun.body ws s2) vs s1))
          (bind (give o t) (λ fun t1. turns (suc m) fun.parameters (λ ws t2. eval (gxs d) (C d) m inside fun.body ws t2) vs t1))
      go None found = tt
      go (Some fun) found =
          turns_like S k (suc m) fun.parameters (λ ws s2. eval (gxs d) (C d) m inside fun.body ws s2) (λ ws t2. eval (gxs d) (C d) m inside fun.body ws t2)
          (λ ws are. unchanged S k (May d) (Own d) (gxs d) (gxs d) (C d) (C d) m (own_forms d) below (own_same d) inside fun.body ws (bodies d f fun found may)) vs s t r

  -- a call is like itself
  pub own_calls : (d : ℕ) → CallsLike S k (May d) (C d) (C d)
  own_calls zero inside f vs may s t r = tt
  own_calls (suc d) inside f vs may s t r = own_deeper d (own_calls d) inside f vs may s t r

  pub own_body : (d : ℕ) (inside : Bool) (e : Tree) (env : List Value) → Below (May d) e → PartsLike S k (eval (gxs d) (C d) m inside e env) (eval (gxs d) (C d) m inside e env)
  own_body d inside e env low = unchanged S k (May d) (Own d) (gxs d) (gxs d) (C d) (C d) m (own_forms d) (own_calls d) (own_same d) inside e env low

  deep_deeper : (d : ℕ) → CallsLike S k (May d) (C d) (C (suc d)) → CallsLike S k (May (suc d)) (C (suc d)) (C (suc (suc d)))
  deep_deeper d below inside f vs may s t r = go (nth gs f) refl
    where
      go : (o : Option PlainFunction) → nth gs f ≡ o → Like k (bind (give o s) (λ fun s1. turns (suc m) fun.parameters (λ ws s2. eval (gxs d) (C d) m inside fun.body ws s2) vs s1))
          (bind (give o t) (λ fun t1. turns (suc m) fun.parameters (λ ws t2. eval (gxs (suc d)) (C (suc d)) m inside fun.body ws t2) vs t1))
      go None found = tt
      go (Some fun) found =
          turns_like S k (suc m) fun.parameters (λ ws s2. eval (gxs d) (C d) m inside fun.body ws s2) (λ ws t2. eval (gxs (suc d)) (C (suc d)) m inside fun.body ws t2)
          (λ ws are. unchanged S k (May d) (Deep d) (gxs d) (gxs (suc d)) (C d) (C (suc d)) m (deep_forms d) below (deep_same d) inside fun.body ws (bodies d f fun found may)) vs s t r

  -- a call is like the call where calls go one deeper
  pub deep_calls : (d : ℕ) → CallsLike S k (May d) (C d) (C (suc d))
  deep_calls zero inside f vs may s t r = loose_any S k (C 1 inside f vs t) (bottom f may)
  deep_calls (suc d) inside f vs may s t r = deep_deeper d (deep_calls d) inside f vs may s t r

  pub deep_body : (d : ℕ) (inside : Bool) (e : Tree) (env : List Value) → Below (May d) e → PartsLike S k (eval (gxs d) (C d) m inside e env) (eval (gxs (suc d)) (C (suc d)) m inside e env)
  deep_body d inside e env low = unchanged S k (May d) (Deep d) (gxs d) (gxs (suc d)) (C d) (C (suc d)) m (deep_forms d) (deep_calls d) (deep_same d) inside e env low

  pub moved_body : (own_moved : (d c j : ℕ) (e : Tree) (env env1 : List Value) → Below (May d) e → Wider c j env env1 → Own d e env (shifted c j e) env1)
      → (d : ℕ) (inside : Bool) (c j : ℕ) (e : Tree) (env env1 : List Value) → Below (May d) e → Wider c j env env1 → PartsLike S k (eval (gxs d) (C d) m inside e env) (eval (gxs d) (C d) m inside (shifted c j e) env1)
  moved_body own_moved d inside c j e env env1 low w = shifted_like S k (May d) (Own d) (gxs d) (gxs d) (C d) (C d) m (own_forms d) (own_calls d) c j (own_moved d c j) inside e env env1 low w

  same_count : (vs : List Value) (n : ℕ) → length vs ≡ n → nat_eq (length vs) n ≡ true
  same_count vs n are = many (length vs) n are
    where
      many : (a b : ℕ) → a ≡ b → nat_eq a b ≡ true
      many a b h = grind (arith, h)

  -- a call of a function in which no recur goes to the function itself, on as many values as it takes, is like its body
  pub opens_body : (d f : ℕ) (fun : PlainFunction) → nth gs f ≡ Some fun → recurs fun.body ≡ false → (May d).calls f → (inside : Bool) (vs : List Value) → length vs ≡ fun.parameters → PartsLike S k (C d inside f vs) (eval (gxs d) (C d) m inside fun.body vs)
  opens_body zero f fun found straight may inside vs are s t r = loose_any S k (eval (gxs 0) (C 0) m inside fun.body vs t) (bottom f may)
  opens_body (suc d) f fun found straight may inside vs are s t r =
      subst (λ o. Like k (bind (give o s) (λ g s1. turns (suc m) g.parameters (λ ws s2. eval (gxs d) (C d) m inside g.body ws s2) vs s1)) (eval (gxs (suc d)) (C (suc d)) m inside fun.body vs t)) (sym found)
      (subst (λ b. Like k (if b then again (eval (gxs d) (C d) m inside fun.body vs s) (turns m fun.parameters (λ ws s2. eval (gxs d) (C d) m inside fun.body ws s2)) else Invalid) (eval (gxs (suc d)) (C (suc d)) m inside fun.body vs t)) (sym (same_count vs fun.parameters are))
      (subst (λ x. Like k x (eval (gxs (suc d)) (C (suc d)) m inside fun.body vs t))
      (sym (again_ended (eval (gxs d) (C d) m inside fun.body vs s) (turns m fun.parameters (λ ws s2. eval (gxs d) (C d) m inside fun.body ws s2))
      (eval_end S (gxs d) (C d) m (ends d) (λ i g ws s1. call_end gxs m gs d i g ws s1) inside fun.body vs s straight)))
      (deep_body d inside fun.body vs (bodies d f fun found may) s t r)))

module _ (S : Type 0) (k : Likeness S) (May : ℕ → Kind) (bottom : (f : ℕ) → (May 0).calls f → k.loose) (deeper : (d f : ℕ) → (May d).calls f → (May (suc d)).calls f) (same : (s t : S) → k.rel s t → k.rel t t) (trans : (s t u : S) → k.rel s t → k.rel t u → k.rel s u)
    (Linked Own Deep : ℕ → Tree → List Value → Tree → List Value → Type 0) (fxs gxs : ℕ → Effects S) (m : ℕ) (fs : List PlainFunction) (budget : ℕ) (bodies : Bodies May fs) (own_bodies : Bodies May (functions_inlined [] budget fs).functions)
    (forms : (d : ℕ) → FormsLike S k (May d) (Linked d) (fxs d) (gxs d))
    (linked : (d : ℕ) (front : List PlainFunction) → Within front (functions_inlined [] budget fs).functions → (c left : ℕ) (e : Tree) (env : List Value) → Below (May d) e → length env ≡ c → Linked d e env (inlined front c left e).tree env)
    (own_forms : (d : ℕ) → FormsLike S k (May d) (Own d) (gxs d) (gxs d)) (own_same : (d : ℕ) (e : Tree) (env : List Value) → Below (May d) e → Own d e env e env)
    (own_moved : (d c j : ℕ) (e : Tree) (env env1 : List Value) → Below (May d) e → Wider c j env env1 → Own d e env (shifted c j e) env1)
    (deep_forms : (d : ℕ) → FormsLike S k (May d) (Deep d) (gxs d) (gxs (suc d))) (deep_same : (d : ℕ) (e : Tree) (env : List Value) → Below (May d) e → Deep d e env e env)
    (ends : (d : ℕ) → FormsEnd S (gxs d)) where
  abbrev G : List PlainFunction
  G = (functions_inlined [] budget fs).functions

  -- of the functions that may be called here, the bodies call such too
  low_bodies : (d : ℕ) (front : List PlainFunction) → Within front G → (f : ℕ) (fun : PlainFunction) → nth front f ≡ Some fun → (May d).calls f → Below (May d) fun.body
  low_bodies d front within f fun found may = own_bodies d f fun (within f fun found) (deeper d f may)

  body_like : (d : ℕ) → CallsLike S k (May d) (call_at fxs m fs d) (call_at gxs m G d) → (front : List PlainFunction) → Within front G → (inside : Bool) (e : Tree) (env : List Value) (c left : ℕ) → Below (May d) e → length env ≡ c
      → PartsLike S k (eval (fxs d) (call_at fxs m fs d) m inside e env) (eval (gxs d) (call_at gxs m G d) m inside (inlined front c left e).tree env)
  body_like d below front within inside e env c left low is =
      inlined_like S k same trans (May d) (Linked d) (Own d) (fxs d) (gxs d) (call_at fxs m fs d) (call_at gxs m G d) m front (forms d) below (own_forms d)
      (own_calls S k May bottom deeper Own Deep gxs m G own_bodies own_forms own_same deep_forms deep_same ends d) (linked d front within) (own_moved d) (low_bodies d front within)
      (λ f fun found straight may. opens_body S k May bottom deeper Own Deep gxs m G own_bodies own_forms own_same deep_forms deep_same ends d f fun (within f fun found) straight may) inside e env c left low is

  one_deeper : (d : ℕ) → CallsLike S k (May d) (call_at fxs m fs d) (call_at gxs m G d) → CallsLike S k (May (suc d)) (call_at fxs m fs (suc d)) (call_at gxs m G (suc d))
  one_deeper d below inside f vs may s t r = go (nth fs f) refl
    where
      go : (o : Option PlainFunction) → nth fs f ≡ o → Like k (bind (give o s) (λ fun s1. turns (suc m) fun.parameters (λ ws s2. eval (fxs d) (call_at fxs m fs d) m inside fun.body ws s2) vs s1)) (call_at gxs m G (suc d) inside f vs t)
      go None is =
          subst (λ o. Like {A = Value} k Invalid (bind (give o t) (λ g t1. turns (suc m) g.parameters (λ ws t2. eval (gxs d) (call_at gxs m G d) m inside g.body ws t2) vs t1))) (sym (inlined_missing fs budget f is)) tt
      go (Some fun) is =
          let at = inlined_at fs budget f fun is in
          let left = turns (suc m) fun.parameters (λ ws s2. eval (fxs d) (call_at fxs m fs d) m inside fun.body ws s2) vs s in
          subst (λ o. Like k left (bind (give o t) (λ g t1. turns (suc m) g.parameters (λ ws t2. eval (gxs d) (call_at gxs m G d) m inside g.body ws t2) vs t1))) (sym at.found)
          (turns_like S k (suc m) fun.parameters (λ ws s2. eval (fxs d) (call_at fxs m fs d) m inside fun.body ws s2)
          (λ ws t2. eval (gxs d) (call_at gxs m G d) m inside (inlined at.front fun.parameters at.budget fun.body).tree ws t2)
          (λ ws are. body_like d below at.front at.within inside fun.body ws fun.parameters at.budget (bodies d f fun is may) are) vs s t r)

  pub calls_inlined : (d : ℕ) → CallsLike S k (May d) (call_at fxs m fs d) (call_at gxs m G d)
  calls_inlined zero inside f vs may s t r = tt
  calls_inlined (suc d) inside f vs may s t r = one_deeper d (calls_inlined d) inside f vs may s t r

  pub bodies_inlined : (d : ℕ) (front : List PlainFunction) → Within front G → (inside : Bool) (e : Tree) (env : List Value) (c left : ℕ) → Below (May d) e → length env ≡ c
      → PartsLike S k (eval (fxs d) (call_at fxs m fs d) m inside e env) (eval (gxs d) (call_at gxs m G d) m inside (inlined front c left e).tree env)
  bodies_inlined d front within inside e env c left low is = body_like d (calls_inlined d) front within inside e env c left low is
