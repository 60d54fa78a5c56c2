-- What it is that bodies are in script order.
use Rattle.std.specs.Prelude.{ℕ, ◌≤◌, List, [], ◌∷◌}
use Rattle.txs_check.specs.declared.place.Zone.{Zone}
use Rattle.txs_check.specs.declared.place.Zone.TheVariants.{InFunction, InFuture, InDosync}
use Rattle.txs_check.specs.Refused.{Body, Validator, Checkable, of_body, of_validator}

-- all of them begin at this place of the script or later
abbrev pub BeginFrom : ℕ → List Body → Type 0
BeginFrom from [] = Unit {0}
BeginFrom from (b ∷ bs) = (from ≤ b.span.from) × BeginFrom from bs

-- each begins no later than those after it
abbrev pub Ascend : List Body → Type 0
Ascend [] = Unit {0}
Ascend (b ∷ bs) = BeginFrom b.span.from bs × Ascend bs

-- with this body before the others, if it is a function's
abbrev pub with_function : Zone → Body → List Body → List Body
with_function InFunction b bs = b ∷ bs
with_function InFuture b bs = bs
with_function InDosync b bs = bs

-- with this body before the others, if it is a future's
abbrev pub with_future : Zone → Body → List Body → List Body
with_future InFunction b bs = bs
with_future InFuture b bs = b ∷ bs
with_future InDosync b bs = bs

-- the bodies of functions among these
abbrev pub functions_in : List Body → List Body
functions_in [] = []
functions_in (b ∷ bs) = with_function b.zone b (functions_in bs)

-- the bodies of futures among these
abbrev pub futures_in : List Body → List Body
futures_in [] = []
futures_in (b ∷ bs) = with_future b.zone b (futures_in bs)

-- ---- bodies and validators

-- where it begins
abbrev pub begin : Checkable → ℕ
begin (of_body b) = b.span.from
begin (of_validator v) = v.span.from

-- each of these begins at this place of the script or later
abbrev pub EachFrom : ℕ → List Checkable → Type 0
EachFrom from [] = Unit {0}
EachFrom from (c ∷ cs) = (from ≤ begin c) × EachFrom from cs

-- each begins no later than those after it
abbrev pub EachAscends : List Checkable → Type 0
EachAscends [] = Unit {0}
EachAscends (c ∷ cs) = EachFrom (begin c) cs × EachAscends cs

-- with this one before the others, if it is a body
abbrev pub with_body : Checkable → List Body → List Body
with_body (of_body b) bs = b ∷ bs
with_body (of_validator v) bs = bs

-- with this one before the others, if it is a validator
abbrev pub with_validator : Checkable → List Validator → List Validator
with_validator (of_body b) vs = vs
with_validator (of_validator v) vs = v ∷ vs

-- the bodies among these
abbrev pub bodies_in : List Checkable → List Body
bodies_in [] = []
bodies_in (c ∷ cs) = with_body c (bodies_in cs)

-- the validators among these
abbrev pub only_validators : List Checkable → List Validator
only_validators [] = []
only_validators (c ∷ cs) = with_validator c (only_validators cs)
