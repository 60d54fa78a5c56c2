-- The walk over the bodies of a program and the validators of its cells, in script order.
use Rattle.std.specs.Prelude.{◌≡◌, ℕ, nat_lt, if◌then◌else◌, List, [], ◌∷◌, map, Option, Some, None, Result, Ok, Err}
use Rattle.txs_tree_meaning.specs.Known.{Known}
use Rattle.txs_check.specs.declared.error.CheckError.{CheckError}
use Rattle.txs_check.specs.declared.validators.Taken.{Taken}
use Rattle.txs_check.specs.declared.validators.Validators.{Validators}
use Rattle.txs_check.specs.Refused.{Checked, Body, Validator, validates, validators_in, of_validator, checked_body, checked_each}

-- the validators that are left
abbrev pub left : Validators → List Validator
left v = validators_in v.cells.now v.spans.now

-- these are the validators: none, or the first and those behind it
abbrev pub taken_off : Option Taken → List Validator → Type 0
taken_off None vs = vs ≡ []
taken_off (Some t) vs = vs ≡ record { callee = t.callee; span = t.span } ∷ left t.rest

-- those that an answer leaves
abbrev pub left_by : Result Validators CheckError → Result (List Validator) CheckError
left_by (Ok v) = Ok (left v)
left_by (Err e) = Err e

-- what is made of an answer: the first refusal is the answer
abbrev pub further : {A B : Type 0} → Result A CheckError → (A → Result B CheckError) → Result B CheckError
further (Ok x) f = f x
further (Err e) f = Err e

-- the validators that don't stand before this place, where none of those before it is refused
abbrev pub behind : List Known → ℕ → List Validator → Result (List Validator) CheckError
behind ks from [] = Ok []
behind ks from (v ∷ vs) = if nat_lt v.span.from from then further (validates ks v.callee v.span) (λ u. behind ks from vs) else Ok (v ∷ vs)

-- the validators that stand behind these bodies, where no body is refused and no validator before them
abbrev pub passed : List Known → List Body → List Validator → Result (List Validator) CheckError
passed ks [] vs = Ok vs
passed ks (b ∷ bs) vs = further (behind ks b.span.from vs) (λ rest. further (checked_body ks b) (λ u. passed ks bs rest))

-- the first refusal in these bodies and of these validators
abbrev pub walked : List Known → List Body → List Validator → Checked
walked ks bs vs = further (passed ks bs vs) (λ rest. checked_each ks (map of_validator rest))
