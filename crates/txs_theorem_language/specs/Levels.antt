-- What the limit of levels refuses.
use Rattle.std.specs.Prelude.{◌≡◌, List, Ok, Err}
use Rattle.txs_value_data.specs.declared.fault.Span.{Span}
use Rattle.txs_reader.specs.Tree.{PlainForm as Form}
use Rattle.txs_resolve_expand.specs.Scope.{Scope}
use Rattle.txs_resolve_expand.specs.declared.error.ResolveErrorKind.TheVariants.{TooMany}
use Rattle.txs_resolve_expand.specs.Answers.{refuse}
use Rattle.txs_resolve_expand.specs.Expressions.{Answer}
use Rattle.txs_resolve.specs.Names.{State, nothing, steps}

-- these forms resolve to what is in this state, and the scope has their definitions, whatever its locals are and whichever function is being defined
abbrev pub ScopeBehind : List Form → State → Scope → Type 0
ScopeBehind forms s scope = (steps nothing forms ≡ Ok s) × (scope.defined ≡ s.defined)

-- what an answer gives is so; a refusal gives nothing
abbrev pub IfGives : {A : Type 0} → (A → Type 0) → Answer A → Type 0
IfGives P (Ok x) = P x
IfGives P (Err e) = Unit {0}

-- An answer under a limit, beside the one under a wider limit: the same, or something is too much, and then what the wider limit
-- lets through, if it is anything, is too deep for this one.
pub data Limited (A : Type 0) (TooDeep : A → Type 0) (wider : Answer A) : Answer A → Type 0 where
  as_wider : Limited A TooDeep wider wider
  too_many : (at : Span) → IfGives TooDeep wider → Limited A TooDeep wider (refuse TooMany at)
