-- What `and` and `or` mean.
use Rattle.std.proofs.Common.{◌≡◌, ℕ, zero, suc, ◌<◌, Bool, true, nat_lt, List, [], ◌∷◌, ◌++◌, length, Some, Ok, refl, ap, ◌∙◌, arith, if◌then◌else◌}
use Rattle.std.proofs.lemmas.Bool.Decides.{nat_tests}
use Rattle.txs_value_apply.specs.Truth.{choose}
use Rattle.txs_value_data.specs.Places.{nth}
use Rattle.txs_value_data.specs.declared.fault.Span.{Span}
use Rattle.txs_value_data.specs.declared.value.Value.{Value}
use Rattle.txs_value_data.specs.declared.value.Value.TheVariants.{Truth, Nil}
use Rattle.txs_reader.specs.Tree.{PlainForm as Form, PlainForms as Forms, first}
use Rattle.txs_reader.specs.Tree.{none as no_forms}
use Rattle.txs_tree_meaning.specs.Meaning.{Completion, Completes, Recurs, Faults, Retries, Waits, OutOfTurns, Invalid, bind, give, Effects, eval}
use Rattle.txs_tree_meaning.specs.Tree.{Tree, Const, Local, If, Let, none, more}
use Rattle.txs_tree_meaning.specs.View.{mark_of}
use Rattle.txs_resolve_expand.specs.declared.names.FormName.TheVariants as kind
use Rattle.txs_resolve_expand.specs.Scope.{Scope, a_local, may_bind, meaning, with_local}
use Rattle.txs_resolve_expand.specs.Answers.{◌>>=◌, refuse}
use Rattle.txs_resolve_expand.specs.Expansions.{hidden, list, three, body}
use Rattle.txs_resolve_expand.specs.declared.error.ResolveErrorKind.TheVariants.{TooMany}
use Rattle.txs_resolve_expand.specs.Expressions.{bound_name, named, named_bindings, spot_at, symbol_node}
use Rattle.txs_theorem_language.specs.Logic.{and_then, or_else, and_tree, or_tree}

-- ---- which tree

hidden_binds : (scope : Scope) (at : Span) → length scope.locals < 200 → bound_name scope (hidden at) ≡ Ok []
unfolding may_bind
hidden_binds scope at lt =
    let yes : nat_lt (length scope.locals) 200 ≡ true = grind (arith, nat_tests, lt) in
    ap (λ (y : Bool). if y then Ok [] else refuse TooMany at) yes

hidden_meaning : (scope : Scope) → meaning [] (with_local [] scope) ≡ a_local (length scope.locals)
unfolding meaning
hidden_meaning scope = refl

hidden_is : (room : ℕ) (scope : Scope) (wanted : Bool) (at : Span) → named (suc room) (with_local [] scope) wanted (hidden at) ≡ Ok (Local (length scope.locals) (mark_of at wanted))
unfolding named
hidden_is room scope wanted at = ap (λ k. symbol_node k (spot_at (suc room) at wanted)) (hidden_meaning scope)

-- the values of the hidden binding
binding_is : (room : ℕ) (scope : Scope) (at : Span) (e : Form) (x : Tree) → length scope.locals < 200 → named room scope true e ≡ Ok x
    → named_bindings (named room) scope (first (hidden at) (first e no_forms)) ≡ Ok (record { values = more x none; scope = with_local [] scope })
binding_is room scope at e x lt is =
    ap (λ a. a >>= λ value. bound_name scope (hidden at) >>= λ name. named_bindings (named room) (with_local name scope) no_forms >>= λ bound. Ok (record { values = more value bound.values; scope = bound.scope })) is
    ∙ ap (λ a. a >>= λ name. named_bindings (named room) (with_local name scope) no_forms >>= λ bound. Ok (record { values = more x bound.values; scope = bound.scope })) (hidden_binds scope at lt)

and_choice : (room : ℕ) (scope : Scope) (wanted : Bool) (at : Span) (f : Form) (rest : Forms) (y : Tree) → named (suc room) (with_local [] scope) wanted (list kind.And (first f rest) at) ≡ Ok y
    → named (suc (suc room)) (with_local [] scope) wanted (body (first (list kind.If (three (hidden at) (list kind.And (first f rest) at) (hidden at)) at) no_forms) at)
    ≡ Ok (If (Local (length scope.locals) (mark_of at true)) y (Local (length scope.locals) (mark_of at wanted)) (mark_of at wanted))
unfolding named
and_choice room scope wanted at f rest y is =
    ap (λ a. a >>= λ test. named (suc room) (with_local [] scope) wanted (list kind.And (first f rest) at) >>= λ one. named (suc room) (with_local [] scope) wanted (hidden at) >>= λ other. Ok (If test one other (mark_of at wanted))) (hidden_is room scope true at)
    ∙ ap (λ a. a >>= λ one. named (suc room) (with_local [] scope) wanted (hidden at) >>= λ other. Ok (If (Local (length scope.locals) (mark_of at true)) one other (mark_of at wanted))) is
    ∙ ap (λ a. a >>= λ other. Ok (If (Local (length scope.locals) (mark_of at true)) y other (mark_of at wanted))) (hidden_is room scope wanted at)

or_choice : (room : ℕ) (scope : Scope) (wanted : Bool) (at : Span) (f : Form) (rest : Forms) (y : Tree) → named (suc room) (with_local [] scope) wanted (list kind.Or (first f rest) at) ≡ Ok y
    → named (suc (suc room)) (with_local [] scope) wanted (body (first (list kind.If (three (hidden at) (hidden at) (list kind.Or (first f rest) at)) at) no_forms) at)
    ≡ Ok (If (Local (length scope.locals) (mark_of at true)) (Local (length scope.locals) (mark_of at wanted)) y (mark_of at wanted))
unfolding named
or_choice room scope wanted at f rest y is =
    ap (λ a. a >>= λ test. named (suc room) (with_local [] scope) wanted (hidden at) >>= λ one. named (suc room) (with_local [] scope) wanted (list kind.Or (first f rest) at) >>= λ other. Ok (If test one other (mark_of at wanted))) (hidden_is room scope true at)
    ∙ ap (λ a. a >>= λ one. named (suc room) (with_local [] scope) wanted (list kind.Or (first f rest) at) >>= λ other. Ok (If (Local (length scope.locals) (mark_of at true)) one other (mark_of at wanted))) (hidden_is room scope wanted at)
    ∙ ap (λ a. a >>= λ other. Ok (If (Local (length scope.locals) (mark_of at true)) (Local (length scope.locals) (mark_of at wanted)) other (mark_of at wanted))) is

module _ (room : ℕ) (scope : Scope) (wanted : Bool) (at : Span) (e f : Form) (rest : Forms) (x y : Tree) (lt : length scope.locals < 200) (is_x : named (suc (suc room)) scope true e ≡ Ok x) where
  pub and_is : named (suc room) (with_local [] scope) wanted (list kind.And (first f rest) at) ≡ Ok y
      → named (suc (suc (suc room))) scope wanted (list kind.And (first e (first f rest)) at) ≡ Ok (and_tree (length scope.locals) x y at wanted)
  unfolding named
  and_is is_y =
      let forms = body (first (list kind.If (three (hidden at) (list kind.And (first f rest) at) (hidden at)) at) no_forms) at in
      ap (λ a. a >>= λ bound. named (suc (suc room)) bound.scope wanted forms >>= λ node. Ok (Let bound.values node (mark_of at wanted))) (binding_is (suc (suc room)) scope at e x lt is_x)
      ∙ ap (λ a. a >>= λ node. Ok (Let (more x none) node (mark_of at wanted))) (and_choice room scope wanted at f rest y is_y)

  pub or_is : named (suc room) (with_local [] scope) wanted (list kind.Or (first f rest) at) ≡ Ok y
      → named (suc (suc (suc room))) scope wanted (list kind.Or (first e (first f rest)) at) ≡ Ok (or_tree (length scope.locals) x y at wanted)
  unfolding named
  or_is is_y =
      let forms = body (first (list kind.If (three (hidden at) (hidden at) (list kind.Or (first f rest) at)) at) no_forms) at in
      ap (λ a. a >>= λ bound. named (suc (suc room)) bound.scope wanted forms >>= λ node. Ok (Let bound.values node (mark_of at wanted))) (binding_is (suc (suc room)) scope at e x lt is_x)
      ∙ ap (λ a. a >>= λ node. Ok (Let (more x none) node (mark_of at wanted))) (or_choice room scope wanted at f rest y is_y)

-- ---- none, and one

pub and_none : (room : ℕ) (scope : Scope) (wanted : Bool) (at : Span) → named (suc room) scope wanted (list kind.And no_forms at) ≡ Ok (Const (Truth true) (mark_of at wanted))
unfolding named
and_none room scope wanted at = refl

pub or_none : (room : ℕ) (scope : Scope) (wanted : Bool) (at : Span) → named (suc room) scope wanted (list kind.Or no_forms at) ≡ Ok (Const Nil (mark_of at wanted))
unfolding named
or_none room scope wanted at = refl

pub and_one : (room : ℕ) (scope : Scope) (wanted : Bool) (e : Form) (at : Span) → named room scope wanted (list kind.And (first e no_forms) at) ≡ named room scope wanted e
unfolding named
and_one zero scope wanted e at = refl
and_one (suc room) scope wanted e at = refl

pub or_one : (room : ℕ) (scope : Scope) (wanted : Bool) (e : Form) (at : Span) → named room scope wanted (list kind.Or (first e no_forms) at) ≡ named room scope wanted e
unfolding named
or_one zero scope wanted e at = refl
or_one (suc room) scope wanted e at = refl

-- ---- what they do

last_value : (env : List Value) (v : Value) → nth (env ++ v ∷ []) (length env) ≡ Some v
last_value [] v = refl
last_value (w ∷ env) v = last_value env v

module _ {S : Type 0} (fx : Effects S) (call : Bool → ℕ → List Value → S → Completion S Value) (n : ℕ) (inside : Bool) (x y : Tree) (at : Span) (wanted : Bool) (env : List Value) where
  after : (v : Value) (s : S) → (f : Value → S → Completion S Value) → bind (give (nth (env ++ v ∷ []) (length env)) s) f ≡ f v s
  after v s f = ap (λ o. bind (give o s) f) (last_value env v)

  and_after : (r : Completion S Value) → bind (bind r (λ v s1. Completes (v ∷ []) s1)) (λ vs s1. bind (give (nth (env ++ vs) (length env)) s1) (λ v s2. choose v (eval fx call n inside y (env ++ vs) s2) (give (nth (env ++ vs) (length env)) s2)))
      ≡ and_then r (λ v s1. eval fx call n inside y (env ++ v ∷ []) s1)
  and_after (Completes v s) =
      after v s (λ w s2. choose w (eval fx call n inside y (env ++ v ∷ []) s2) (give (nth (env ++ v ∷ []) (length env)) s2))
      ∙ ap (λ o. choose v (eval fx call n inside y (env ++ v ∷ []) s) (give o s)) (last_value env v)
  and_after (Recurs vs s) = refl
  and_after (Faults f s) = refl
  and_after (Retries s) = refl
  and_after (Waits s) = refl
  and_after (OutOfTurns s) = refl
  and_after Invalid = refl

  or_after : (r : Completion S Value) → bind (bind r (λ v s1. Completes (v ∷ []) s1)) (λ vs s1. bind (give (nth (env ++ vs) (length env)) s1) (λ v s2. choose v (give (nth (env ++ vs) (length env)) s2) (eval fx call n inside y (env ++ vs) s2)))
      ≡ or_else r (λ v s1. eval fx call n inside y (env ++ v ∷ []) s1)
  or_after (Completes v s) =
      after v s (λ w s2. choose w (give (nth (env ++ v ∷ []) (length env)) s2) (eval fx call n inside y (env ++ v ∷ []) s2))
      ∙ ap (λ o. choose v (give o s) (eval fx call n inside y (env ++ v ∷ []) s)) (last_value env v)
  or_after (Recurs vs s) = refl
  or_after (Faults f s) = refl
  or_after (Retries s) = refl
  or_after (Waits s) = refl
  or_after (OutOfTurns s) = refl
  or_after Invalid = refl

  pub and_does : (s : S) → eval fx call n inside (and_tree (length env) x y at wanted) env s ≡ and_then (eval fx call n inside x env s) (λ v s1. eval fx call n inside y (env ++ v ∷ []) s1)
  and_does s = and_after (eval fx call n inside x env s)

  pub or_does : (s : S) → eval fx call n inside (or_tree (length env) x y at wanted) env s ≡ or_else (eval fx call n inside x env s) (λ v s1. eval fx call n inside y (env ++ v ∷ []) s1)
  or_does s = or_after (eval fx call n inside x env s)
