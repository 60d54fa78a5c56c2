-- What the answers say of names that are bound, and of what is defined.
use Rattle.std.specs.Prelude.{◌≡◌, ℕ, List, Result, Ok, Err, IsOk}
use Rattle.txs_resolve_expand.specs.declared.error.ResolveError.{ResolveError}
use Rattle.txs_resolve_expand.specs.Expressions.{Answer}
use Rattle.txs_resolve.specs.declared.stop.Stop.{Stop}
use Rattle.txs_resolve.specs.declared.stop.Stop.TheVariants.{Refused, Memory}

-- the definition's names are those of the locals
abbrev pub GivesLocals : Result (Unit {0}) ResolveError → List (List ℕ) → Answer (List (List ℕ)) → Type 0
GivesLocals (Ok u) names wanted = wanted ≡ Ok names
GivesLocals (Err e) names wanted = wanted ≡ Err e

-- the definition's answer is what is here now, unless memory ran out
abbrev pub Ends : {A : Type 0} → Result (Unit {0}) Stop → A → Answer A → Type 0
Ends (Ok u) now wanted = wanted ≡ Ok now
Ends (Err (Refused e)) now wanted = wanted ≡ Err e
Ends (Err Memory) now wanted = Unit {0}

-- the same of one form: where it is refused, that is the answer, and never running out of memory
abbrev pub Leaves : {A : Type 0} → Result (Unit {0}) Stop → A → Answer A → Type 0
Leaves (Ok u) now wanted = wanted ≡ Ok now
Leaves (Err (Refused e)) now wanted = wanted ≡ Err e
Leaves (Err Memory) now wanted = IsOk wanted
