-- What the parts of a top-level form are.
use Rattle.std.proofs.Common.{◌≡◌, ℕ, List, [], ◌∷◌, length, slice_index_or, Option, Some, None, Ok, Err, IsOk, refl, sym, ap, ◌∙◌, subst, arith}
use Rattle.txs_value_data.specs.declared.fault.Span.{Span}
use Rattle.txs_reader.specs.declared.form.Form.{Form}
use Rattle.txs_reader.specs.Tree.{tree, leaf, symbol, first}
use Rattle.txs_resolve_expand.specs.Expressions.{Answer}
use Rattle.txs_resolve_expand.specs.Answers.{◌>>=◌}
use Rattle.txs_resolve.specs.Walk.{Becomes}
use Rattle.txs_tree_meaning.specs.Tree.{Tree}
use Rattle.txs_resolve.specs.Given.{Ends, Leaves}
use Rattle.txs_resolve_expand.specs.declared.error.ResolveError.{ResolveError}
use Rattle.txs_value_data.specs.declared.value.Value.{Value}
use Rattle.txs_resolve.specs.BodyGiven.{Gives, refusal_of}
use Rattle.txs_value_data.specs.declared.op.Callee.{Callee}
use Rattle.txs_resolve.specs.Names.{State, named_form}
use Rattle.txs_resolve.specs.declared.stop.Stop.{Stop}
use Rattle.txs_resolve.specs.declared.stop.Stop.TheVariants.{Refused, Memory}
use Rattle.txs_resolve_expand.specs.Parts.{plain}

pub not_one_form : (name : List ℕ) (at : Span) (fs : List Form) → (length fs ≡ 1 → ⊥) → named_form (first (leaf (symbol name) at) (plain fs)) ≡ None
not_one_form name at [] h = refl
not_one_form name at (f ∷ []) h = absurd (h refl)
not_one_form name at (f ∷ g ∷ fs) h = refl

pub one_form : (name : List ℕ) (at : Span) (fs : List Form) (d : Form) → length fs ≡ 1 → named_form (first (leaf (symbol name) at) (plain fs)) ≡ Some (record { name = name; at = at; form = tree (slice_index_or fs 0 d) })
one_form name at [] d h = absurd (omega (arith, h))
one_form name at (f ∷ []) d h = refl
one_form name at (f ∷ g ∷ fs) d h = absurd (omega (arith, h))

-- a body that is refused, or for which memory was wanted
pub failed_body : {C : Type 0} (s : Stop) (now : C) (a : Answer Tree) (f : Tree → C) (b : Answer C) → Becomes (Err s) a → b ≡ (a >>= λ t. Ok (f t)) → Leaves (Err s) now b
failed_body (Refused e) now a f b h is = is ∙ ap (λ (x : Answer Tree). x >>= λ t. Ok (f t)) h
failed_body {C = C} Memory now a f b h is = subst (λ (x : Answer C). IsOk x) (sym is) (then_ok a h) where
  then_ok : (a : Answer Tree) → IsOk a → IsOk (a >>= λ t. Ok (f t))
  then_ok (Ok t) h = refl
  then_ok (Err e) h = absurd cc

-- a form that is refused, or for which memory was wanted, among others
pub failed_step : {C : Type 0} (s : Stop) (now later : C) (a b : Answer C) → Leaves (Err s) now a → ((e : ResolveError) → a ≡ Err e → b ≡ Err e) → Ends (Err s) later b
failed_step (Refused e) now later a b h go = go e h
failed_step Memory now later a b h go = tt

-- where memory was wanted, the form isn't refused
pub wanted_at : {C : Type 0} (s : Stop) (now : C) (a : Answer C) → Leaves (Err s) now a → s ≡ Memory → IsOk a
wanted_at (Refused e) now a h is = absurd cc
wanted_at Memory now a h is = h

-- ---- a definition, by its literal, what its validator calls, and its name

abbrev pub enter_by : (Value → Option Callee → List ℕ → State) → Answer Value → Answer (Option Callee) → Answer (List ℕ) → Answer State
enter_by made value callee name = value >>= λ v. callee >>= λ f. name >>= λ n. Ok (made v f n)

module _ (made : Value → Option Callee → List ℕ → State) where
  pub unfit : (value : Answer Value) (callee : Answer (Option Callee)) (name : Answer (List ℕ)) (e : ResolveError) → Some e ≡ refusal_of value → enter_by made value callee name ≡ Err e
  unfit (Ok v) callee name e h = absurd cc
  unfit (Err x) callee name e h = cc

  pub uncalled : (value : Answer Value) (callee : Answer (Option Callee)) (name : Answer (List ℕ)) (e : ResolveError) → None ≡ refusal_of value → callee ≡ Err e → enter_by made value callee name ≡ Err e
  uncalled (Ok v) callee name e h is = ap (λ (a : Answer (Option Callee)). enter_by made (Ok v) a name) is
  uncalled (Err x) callee name e h is = absurd cc

  pub unnamed : (value : Answer Value) (callee : Answer (Option Callee)) (name : Answer (List ℕ)) (f : Option Callee) (e : ResolveError) → None ≡ refusal_of value → callee ≡ Ok f → name ≡ Err e → enter_by made value callee name ≡ Err e
  unnamed (Ok v) callee name f e h is other = ap (λ (a : Answer (Option Callee)). enter_by made (Ok v) a name) is ∙ ap (enter_by made (Ok v) (Ok f)) other
  unnamed (Err x) callee name f e h is other = absurd cc

  pub entering : (value : Answer Value) (callee : Answer (Option Callee)) (name : Answer (List ℕ)) (f : Option Callee) (n : List ℕ) → None ≡ refusal_of value → callee ≡ Ok f → name ≡ Ok n → IsOk (enter_by made value callee name)
  entering (Ok v) callee name f n h is also = subst (λ (a : Answer (Option Callee)). IsOk (enter_by made (Ok v) a name)) (sym is) (subst (λ (a : Answer (List ℕ)). IsOk (enter_by made (Ok v) (Ok f) a)) (sym also) refl)
  entering (Err x) callee name f n h is also = absurd cc

  pub unvalued : (stop : Stop) (now : State) (value : Answer Value) (callee : Answer (Option Callee)) (name : Answer (List ℕ)) (f : Option Callee) (n : List ℕ) → None ≡ refusal_of value → callee ≡ Ok f → name ≡ Ok n
      → Gives (λ (v : Value). v) (Err stop) value → Leaves (Err stop) now (enter_by made value callee name)
  unvalued (Refused e) now value callee name f n h is also gives = ap (λ (a : Answer Value). enter_by made a callee name) gives
  unvalued Memory now value callee name f n h is also gives = entering value callee name f n h is also

  pub entered_as : (value : Answer Value) (callee : Answer (Option Callee)) (name : Answer (List ℕ)) (v : Value) (f : Option Callee) (n : List ℕ) → value ≡ Ok v → callee ≡ Ok f → name ≡ Ok n → enter_by made value callee name ≡ Ok (made v f n)
  entered_as value callee name v f n is1 is2 is3 =
      ap (λ (a : Answer Value). enter_by made a callee name) is1 ∙ ap (λ (a : Answer (Option Callee)). enter_by made (Ok v) a name) is2 ∙ ap (enter_by made (Ok v) (Ok f)) is3
