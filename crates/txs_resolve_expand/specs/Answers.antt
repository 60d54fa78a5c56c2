-- An answer of the resolver, and what is made of it.
use Rattle.std.specs.Prelude.{Result, Ok, Err}
use Rattle.txs_value_data.specs.declared.fault.Span.{Span}
use Rattle.txs_resolve_expand.specs.declared.error.ResolveError.{ResolveError}
use Rattle.txs_resolve_expand.specs.declared.error.ResolveErrorKind.{ResolveErrorKind}

-- an answer, and what is made of it: the first refusal is the answer
infixl 10 ◌>>=◌
abbrev pub ◌>>=◌ : {A B : Type 0} → Result A ResolveError → (A → Result B ResolveError) → Result B ResolveError
Ok x >>= f = f x
Err e >>= f = Err e

-- a refusal for this reason at this place
abbrev pub refuse : {A : Type 0} → ResolveErrorKind → Span → Result A ResolveError
refuse kind at = Err (record { kind = kind; at = at })
