-- The bodies of a program in script order are all of them, and stand in script order.
use Rattle.std.proofs.Common.{◌≡◌, ℕ, zero, suc, ◌≤◌, Bool, true, false, nat_lt, if◌then◌else◌, List, [], ◌∷◌, ◌++◌, map, take, drop, refl, ap, ◌∙◌, arith}
use Rattle.std.proofs.lemmas.Bool.{leb-true, ltb-false}
use Rattle.txs_tree_meaning.specs.Tree.{PlainFunction, PlainThread}
use Rattle.txs_check.specs.declared.place.Zone.{Zone}
use Rattle.txs_check.specs.declared.place.Zone.TheVariants.{InFunction, InFuture, InDosync}
use Rattle.txs_check.specs.Order.{BeginFrom, Ascend, with_function, with_future, functions_in, futures_in}
use Rattle.txs_check.specs.Refused.{Body, function_body, thread_body, before, in_order}

with_function_append : (z : Zone) (b : Body) (bs cs : List Body) → with_function z b (bs ++ cs) ≡ with_function z b bs ++ cs
with_function_append InFunction b bs cs = refl
with_function_append InFuture b bs cs = refl
with_function_append InDosync b bs cs = refl

with_future_append : (z : Zone) (b : Body) (bs cs : List Body) → with_future z b (bs ++ cs) ≡ with_future z b bs ++ cs
with_future_append InFunction b bs cs = refl
with_future_append InFuture b bs cs = refl
with_future_append InDosync b bs cs = refl

functions_append : (bs cs : List Body) → functions_in (bs ++ cs) ≡ functions_in bs ++ functions_in cs
functions_append [] cs = refl
functions_append (b ∷ bs) cs = ap (λ l. with_function b.zone b l) (functions_append bs cs) ∙ with_function_append b.zone b (functions_in bs) (functions_in cs)

futures_append : (bs cs : List Body) → futures_in (bs ++ cs) ≡ futures_in bs ++ futures_in cs
futures_append [] cs = refl
futures_append (b ∷ bs) cs = ap (λ l. with_future b.zone b l) (futures_append bs cs) ∙ with_future_append b.zone b (futures_in bs) (futures_in cs)

no_functions : (ts : List PlainThread) → functions_in (map thread_body ts) ≡ []
no_functions [] = refl
no_functions (t ∷ ts) = no_functions ts

all_futures : (ts : List PlainThread) → futures_in (map thread_body ts) ≡ map thread_body ts
all_futures [] = refl
all_futures (t ∷ ts) = ap (λ l. thread_body t ∷ l) (all_futures ts)

threads_append : (n : ℕ) (ts : List PlainThread) → map thread_body (take n ts) ++ map thread_body (drop n ts) ≡ map thread_body ts
threads_append zero ts = refl
threads_append (suc n) [] = refl
threads_append (suc n) (t ∷ ts) = ap (λ l. thread_body t ∷ l) (threads_append n ts)

pub functions_ordered : (fs : List PlainFunction) (ts : List PlainThread) → functions_in (in_order fs ts) ≡ map function_body fs
functions_ordered [] ts = no_functions ts
functions_ordered (f ∷ fs) ts =
    let n = before f.span.from ts in
    functions_append (map thread_body (take n ts)) (function_body f ∷ in_order fs (drop n ts))
    ∙ ap (λ l. l ++ function_body f ∷ functions_in (in_order fs (drop n ts))) (no_functions (take n ts))
    ∙ ap (λ l. function_body f ∷ l) (functions_ordered fs (drop n ts))

pub futures_ordered : (fs : List PlainFunction) (ts : List PlainThread) → futures_in (in_order fs ts) ≡ map thread_body ts
futures_ordered [] ts = all_futures ts
futures_ordered (f ∷ fs) ts =
    let n = before f.span.from ts in
    futures_append (map thread_body (take n ts)) (function_body f ∷ in_order fs (drop n ts))
    ∙ ap (λ l. l ++ futures_in (in_order fs (drop n ts))) (all_futures (take n ts))
    ∙ ap (λ l. map thread_body (take n ts) ++ l) (futures_ordered fs (drop n ts))
    ∙ threads_append n ts

-- ---- they ascend

from_later : (m n : ℕ) (bs : List Body) → m ≤ n → BeginFrom n bs → BeginFrom m bs
from_later m n [] le h = tt
from_later m n (b ∷ bs) le h = (omega (arith, le, h.0), from_later m n bs le h.1)

from_append : (n : ℕ) (bs cs : List Body) → BeginFrom n bs → BeginFrom n cs → BeginFrom n (bs ++ cs)
from_append n [] cs g h = h
from_append n (b ∷ bs) cs g h = (g.0, from_append n bs cs g.1 h)

from_take : (k n : ℕ) (ts : List PlainThread) → BeginFrom n (map thread_body ts) → BeginFrom n (map thread_body (take k ts))
from_take zero n ts h = tt
from_take (suc k) n [] h = tt
from_take (suc k) n (t ∷ ts) h = (h.0, from_take k n ts h.1)

from_drop : (k n : ℕ) (ts : List PlainThread) → BeginFrom n (map thread_body ts) → BeginFrom n (map thread_body (drop k ts))
from_drop zero n ts h = h
from_drop (suc k) n [] h = tt
from_drop (suc k) n (t ∷ ts) h = from_drop k n ts h.1

ascend_drop : (k : ℕ) (ts : List PlainThread) → Ascend (map thread_body ts) → Ascend (map thread_body (drop k ts))
ascend_drop zero ts h = h
ascend_drop (suc k) [] h = tt
ascend_drop (suc k) (t ∷ ts) h = ascend_drop k ts h.1

-- what isn't before a place begins there or later
after_before : (from : ℕ) (ts : List PlainThread) → Ascend (map thread_body ts) → BeginFrom from (map thread_body (drop (before from ts) ts))
after_before from [] h = tt
after_before from (t ∷ ts) h = by (after_before from ts h.1) (nat_lt t.span.from from) refl
  where
    by : BeginFrom from (map thread_body (drop (before from ts) ts)) → (x : Bool) → nat_lt t.span.from from ≡ x → BeginFrom from (map thread_body (drop (if x then suc (before from ts) else 0) (t ∷ ts)))
    by rest true is = rest
    by rest false is = (ltb-false t.span.from from is, from_later from t.span.from (map thread_body ts) (ltb-false t.span.from from is) h.0)

-- bodies before a place that ascend, and bodies from there on that ascend
join : (from : ℕ) (ts : List PlainThread) (bs : List Body) → Ascend (map thread_body ts) → Ascend bs → BeginFrom from bs →
    Ascend (map thread_body (take (before from ts) ts) ++ bs)
join from [] bs g h k = h
join from (t ∷ ts) bs g h k = by (join from ts bs g.1 h k) (nat_lt t.span.from from) refl
  where
    by : Ascend (map thread_body (take (before from ts) ts) ++ bs) → (x : Bool) → nat_lt t.span.from from ≡ x → Ascend (map thread_body (take (if x then suc (before from ts) else 0) (t ∷ ts)) ++ bs)
    by rest true is =
        let le : t.span.from ≤ from = omega (arith, leb-true (suc t.span.from) from is) in
        (from_append t.span.from (map thread_body (take (before from ts) ts)) bs (from_take (before from ts) t.span.from ts g.0) (from_later t.span.from from bs le k), rest)
    by rest false is = h

from_order : (n : ℕ) (fs : List PlainFunction) (ts : List PlainThread) → BeginFrom n (map function_body fs) → BeginFrom n (map thread_body ts) → BeginFrom n (in_order fs ts)
from_order n [] ts g h = h
from_order n (f ∷ fs) ts g h =
    let k = before f.span.from ts in
    from_append n (map thread_body (take k ts)) (function_body f ∷ in_order fs (drop k ts)) (from_take k n ts h) (g.0, from_order n fs (drop k ts) g.1 (from_drop k n ts h))

pub order_ascends : (fs : List PlainFunction) (ts : List PlainThread) → Ascend (map function_body fs) → Ascend (map thread_body ts) → Ascend (in_order fs ts)
order_ascends [] ts g h = h
order_ascends (f ∷ fs) ts g h =
    let k = before f.span.from ts in
    let later = from_order f.span.from fs (drop k ts) g.0 (after_before f.span.from ts h) in
    join f.span.from ts (function_body f ∷ in_order fs (drop k ts)) h (later, order_ascends fs (drop k ts) g.1 (ascend_drop k ts h)) (omega arith, later)
