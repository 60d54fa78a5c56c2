-- What `and` and `or` do, told without what they stand for.
use Rattle.std.specs.Prelude.{◌≡◌, ℕ, Bool, true, List, [], ◌∷◌, ◌++◌, length}
use Rattle.txs_value_apply.specs.Truth.{choose}
use Rattle.txs_value_data.specs.declared.fault.Span.{Span}
use Rattle.txs_value_data.specs.declared.value.Value.{Value}
use Rattle.txs_tree_meaning.specs.Meaning.{Completion, Completes, bind, Effects, eval}
use Rattle.txs_tree_meaning.specs.Tree.{Tree, Local, If, Let, none, more}
use Rattle.txs_tree_meaning.specs.View.{mark_of}

-- `(and x y ..)` is x's value where that is nil or false, else what `(and y ..)` is (clojure.core/and)
abbrev pub and_then : {S : Type 0} → Completion S Value → (Value → S → Completion S Value) → Completion S Value
and_then x rest = bind x (λ v s. choose v (rest v s) (Completes v s))

-- `(or x y ..)` is x's value where that is neither nil nor false, else what `(or y ..)` is (clojure.core/or)
abbrev pub or_else : {S : Type 0} → Completion S Value → (Value → S → Completion S Value) → Completion S Value
or_else x rest = bind x (λ v s. choose v (Completes v s) (rest v s))

-- the tree of `(and e f ..)`: x is that of e, and y that of the rest, which sees the value of x as one more local, of this number
abbrev pub and_tree : ℕ → Tree → Tree → Span → Bool → Tree
and_tree h x y at wanted = Let (more x none) (If (Local h (mark_of at true)) y (Local h (mark_of at wanted)) (mark_of at wanted)) (mark_of at wanted)

-- the tree of `(or e f ..)`
abbrev pub or_tree : ℕ → Tree → Tree → Span → Bool → Tree
or_tree h x y at wanted = Let (more x none) (If (Local h (mark_of at true)) (Local h (mark_of at wanted)) y (mark_of at wanted)) (mark_of at wanted)

-- an `and` does what its first part does, and with a value of it that is true what the rest does behind that value
abbrev pub AndDoes : Type 0 → Type 0
AndDoes S = (fx : Effects S) (call : Bool → ℕ → List Value → S → Completion S Value) (n : ℕ) (inside : Bool) (x y : Tree) (at : Span) (wanted : Bool) (env : List Value) (s : S)
    → eval fx call n inside (and_tree (length env) x y at wanted) env s ≡ and_then (eval fx call n inside x env s) (λ v s1. eval fx call n inside y (env ++ v ∷ []) s1)

-- an `or` does what its first part does, and with a value of it that isn't true what the rest does behind that value
abbrev pub OrDoes : Type 0 → Type 0
OrDoes S = (fx : Effects S) (call : Bool → ℕ → List Value → S → Completion S Value) (n : ℕ) (inside : Bool) (x y : Tree) (at : Span) (wanted : Bool) (env : List Value) (s : S)
    → eval fx call n inside (or_tree (length env) x y at wanted) env s ≡ or_else (eval fx call n inside x env s) (λ v s1. eval fx call n inside y (env ++ v ∷ []) s1)
