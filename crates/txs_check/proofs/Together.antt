-- Bodies and validators in script order are all of them, and stand in script order.
use Rattle.std.proofs.Common.{◌≡◌, ℕ, zero, suc, ◌≤◌, Bool, true, false, nat_lt, if◌then◌else◌, List, [], ◌∷◌, ◌++◌, map, take, drop, refl, ap, ◌∙◌, arith}
use Rattle.std.proofs.lemmas.Bool.{leb-true, ltb-false}
use Rattle.txs_check.specs.Order.{BeginFrom, Ascend, EachFrom, EachAscends, with_body, with_validator, bodies_in, only_validators}
use Rattle.txs_check.specs.Refused.{Body, Validator, Checkable, of_body, of_validator, earlier, together}

abbrev of_all : List Validator → List Checkable
of_all vs = map of_validator vs

with_body_append : (c : Checkable) (bs cs : List Body) → with_body c (bs ++ cs) ≡ with_body c bs ++ cs
with_body_append (of_body b) bs cs = refl
with_body_append (of_validator v) bs cs = refl

with_validator_append : (c : Checkable) (vs ws : List Validator) → with_validator c (vs ++ ws) ≡ with_validator c vs ++ ws
with_validator_append (of_body b) vs ws = refl
with_validator_append (of_validator v) vs ws = refl

bodies_append : (cs ds : List Checkable) → bodies_in (cs ++ ds) ≡ bodies_in cs ++ bodies_in ds
bodies_append [] ds = refl
bodies_append (c ∷ cs) ds = ap (λ l. with_body c l) (bodies_append cs ds) ∙ with_body_append c (bodies_in cs) (bodies_in ds)

validators_append : (cs ds : List Checkable) → only_validators (cs ++ ds) ≡ only_validators cs ++ only_validators ds
validators_append [] ds = refl
validators_append (c ∷ cs) ds = ap (λ l. with_validator c l) (validators_append cs ds) ∙ with_validator_append c (only_validators cs) (only_validators ds)

no_bodies : (vs : List Validator) → bodies_in (of_all vs) ≡ []
no_bodies [] = refl
no_bodies (v ∷ vs) = no_bodies vs

all_validators : (vs : List Validator) → only_validators (of_all vs) ≡ vs
all_validators [] = refl
all_validators (v ∷ vs) = ap (λ l. v ∷ l) (all_validators vs)

both_parts : (n : ℕ) (vs : List Validator) → take n vs ++ drop n vs ≡ vs
both_parts zero vs = refl
both_parts (suc n) [] = refl
both_parts (suc n) (v ∷ vs) = ap (λ l. v ∷ l) (both_parts n vs)

pub bodies_kept : (bs : List Body) (vs : List Validator) → bodies_in (together bs vs) ≡ bs
bodies_kept [] vs = no_bodies vs
bodies_kept (b ∷ bs) vs =
    let n = earlier b.span.from vs in
    bodies_append (of_all (take n vs)) (of_body b ∷ together bs (drop n vs))
    ∙ ap (λ l. l ++ b ∷ bodies_in (together bs (drop n vs))) (no_bodies (take n vs))
    ∙ ap (λ l. b ∷ l) (bodies_kept bs (drop n vs))

pub validators_kept : (bs : List Body) (vs : List Validator) → only_validators (together bs vs) ≡ vs
validators_kept [] vs = all_validators vs
validators_kept (b ∷ bs) vs =
    let n = earlier b.span.from vs in
    validators_append (of_all (take n vs)) (of_body b ∷ together bs (drop n vs))
    ∙ ap (λ l. l ++ only_validators (together bs (drop n vs))) (all_validators (take n vs))
    ∙ ap (λ l. take n vs ++ l) (validators_kept bs (drop n vs))
    ∙ both_parts n vs

-- ---- they ascend

from_later : (m n : ℕ) (cs : List Checkable) → m ≤ n → EachFrom n cs → EachFrom m cs
from_later m n [] le h = tt
from_later m n (c ∷ cs) le h = (omega (arith, le, h.0), from_later m n cs le h.1)

from_append : (n : ℕ) (cs ds : List Checkable) → EachFrom n cs → EachFrom n ds → EachFrom n (cs ++ ds)
from_append n [] ds g h = h
from_append n (c ∷ cs) ds g h = (g.0, from_append n cs ds g.1 h)

from_take : (k n : ℕ) (vs : List Validator) → EachFrom n (of_all vs) → EachFrom n (of_all (take k vs))
from_take zero n vs h = tt
from_take (suc k) n [] h = tt
from_take (suc k) n (v ∷ vs) h = (h.0, from_take k n vs h.1)

from_drop : (k n : ℕ) (vs : List Validator) → EachFrom n (of_all vs) → EachFrom n (of_all (drop k vs))
from_drop zero n vs h = h
from_drop (suc k) n [] h = tt
from_drop (suc k) n (v ∷ vs) h = from_drop k n vs h.1

ascend_drop : (k : ℕ) (vs : List Validator) → EachAscends (of_all vs) → EachAscends (of_all (drop k vs))
ascend_drop zero vs h = h
ascend_drop (suc k) [] h = tt
ascend_drop (suc k) (v ∷ vs) h = ascend_drop k vs h.1

-- what isn't before a place begins there or later
after_earlier : (from : ℕ) (vs : List Validator) → EachAscends (of_all vs) → EachFrom from (of_all (drop (earlier from vs) vs))
after_earlier from [] h = tt
after_earlier from (v ∷ vs) h = by (after_earlier from vs h.1) (nat_lt v.span.from from) refl
  where
    by : EachFrom from (of_all (drop (earlier from vs) vs)) → (x : Bool) → nat_lt v.span.from from ≡ x → EachFrom from (of_all (drop (if x then suc (earlier from vs) else 0) (v ∷ vs)))
    by rest true is = rest
    by rest false is = (ltb-false v.span.from from is, from_later from v.span.from (of_all vs) (ltb-false v.span.from from is) h.0)

-- validators before a place that ascend, and what ascends from there on
join : (from : ℕ) (vs : List Validator) (cs : List Checkable) → EachAscends (of_all vs) → EachAscends cs → EachFrom from cs → EachAscends (of_all (take (earlier from vs) vs) ++ cs)
join from [] cs g h k = h
join from (v ∷ vs) cs g h k = by (join from vs cs g.1 h k) (nat_lt v.span.from from) refl
  where
    by : EachAscends (of_all (take (earlier from vs) vs) ++ cs) → (x : Bool) → nat_lt v.span.from from ≡ x → EachAscends (of_all (take (if x then suc (earlier from vs) else 0) (v ∷ vs)) ++ cs)
    by rest true is =
        let le : v.span.from ≤ from = omega (arith, leb-true (suc v.span.from) from is) in
        (from_append v.span.from (of_all (take (earlier from vs) vs)) cs (from_take (earlier from vs) v.span.from vs g.0) (from_later v.span.from from cs le k), rest)
    by rest false is = h

from_together : (n : ℕ) (bs : List Body) (vs : List Validator) → BeginFrom n bs → EachFrom n (of_all vs) → EachFrom n (together bs vs)
from_together n [] vs g h = h
from_together n (b ∷ bs) vs g h =
    let k = earlier b.span.from vs in
    from_append n (of_all (take k vs)) (of_body b ∷ together bs (drop k vs)) (from_take k n vs h) (g.0, from_together n bs (drop k vs) g.1 (from_drop k n vs h))

pub together_ascends : (bs : List Body) (vs : List Validator) → Ascend bs → EachAscends (of_all vs) → EachAscends (together bs vs)
together_ascends [] vs g h = h
together_ascends (b ∷ bs) vs g h =
    let k = earlier b.span.from vs in
    let later = from_together b.span.from bs (drop k vs) g.0 (after_earlier b.span.from vs h) in
    join b.span.from vs (of_body b ∷ together bs (drop k vs)) h (later, together_ascends bs (drop k vs) g.1 (ascend_drop k vs h)) (omega arith, later)
