-- The walk over bodies and validators gives the first refusal in them.
use Rattle.std.proofs.Common.{◌≡◌, ℕ, zero, suc, ◌+◌, ◌<◌, Bool, true, false, nat_lt, if◌then◌else◌, List, [], ◌∷◌, ◌++◌, length, get_or, map, take, drop, Result, Ok, Err, refl, sym, ap, ◌∙◌}
use Rattle.txs_tree_meaning.specs.Known.{Known}
use Rattle.txs_tree_meaning.specs.View.{function_of, functions_of, threads_of}
use Rattle.txs_tree_meaning.specs.declared.node.Function.{Function}
use Rattle.txs_tree_meaning.specs.declared.node.Thread.{Thread}
use Rattle.txs_check.specs.declared.error.CheckError.{CheckError}
use Rattle.txs_check.specs.Refused.{Checked, fine, ◌>>◌, before, Body, function_body, thread_body, in_order, checked_body, checked_bodies, Validator, validates, Checkable, of_body, of_validator, earlier, together, checked_one, checked_each}
use Rattle.txs_check.specs.Walked.{further, behind, passed, walked}
use Rattle.txs_check.proofs.Steps.{first, second, both, then_same}
use Rattle.txs_check.proofs.Lists.{order_of}

-- ---- one after another

further_step : {A : Type 0} (a b : Checked) (f : Unit {0} → Result A CheckError) → further (a >> b) f ≡ further a (λ u. further b f)
further_step (Ok u) b f = refl
further_step (Err e) b f = refl

further_same : {A B D : Type 0} (a : Result A CheckError) (f : A → Result B CheckError) (g : B → Result D CheckError) → further (further a f) g ≡ further a (λ x. further (f x) g)
further_same (Ok x) f g = refl
further_same (Err e) f g = refl

pub each_append : (ks : List Known) (xs cs : List Checkable) → checked_each ks (xs ++ cs) ≡ checked_each ks xs >> checked_each ks cs
each_append ks [] cs = refl
each_append ks (x ∷ xs) cs = ap (λ y. checked_one ks x >> y) (each_append ks xs cs) ∙ sym (then_same (checked_one ks x) (checked_each ks xs) (checked_each ks cs))

module _ (ks : List Known) where
  abbrev all_of : List Validator → Checked
  all_of vs = checked_each ks (map of_validator vs)

  behind_is : (from : ℕ) (vs : List Validator) → behind ks from vs ≡ further (all_of (take (earlier from vs) vs)) (λ u. Ok (drop (earlier from vs) vs))
  behind_is from [] = refl
  behind_is from (v ∷ vs) = by (behind_is from vs) (nat_lt v.span.from from)
    where
      n : ℕ
      n = earlier from vs

      by : behind ks from vs ≡ further (all_of (take n vs)) (λ u. Ok (drop n vs)) → (x : Bool)
          → (if x then further (validates ks v.callee v.span) (λ u. behind ks from vs) else Ok (v ∷ vs))
          ≡ further (all_of (take (if x then suc n else 0) (v ∷ vs))) (λ u. Ok (drop (if x then suc n else 0) (v ∷ vs)))
      by rest true =
          ap (λ (y : Result (List Validator) CheckError). further (validates ks v.callee v.span) (λ u. y)) rest
          ∙ sym (further_step (validates ks v.callee v.span) (all_of (take n vs)) (λ u. Ok (drop n vs)))
      by rest false = refl

  regroup : (x y : Checked) (ds : List Validator) (f : List Validator → Result (List Validator) CheckError) (last : List Validator → Checked)
      → further (further (further x (λ u. Ok ds)) (λ rest. further y (λ u. f rest))) last ≡ x >> (y >> further (f ds) last)
  regroup (Ok u) (Ok w) ds f last = refl
  regroup (Ok u) (Err e) ds f last = refl
  regroup (Err e) y ds f last = refl

  pub walked_is : (bs : List Body) (vs : List Validator) → walked ks bs vs ≡ checked_each ks (together bs vs)
  walked_is [] vs = refl
  walked_is (b ∷ bs) vs =
      let n = earlier b.span.from vs in
      let x = all_of (take n vs) in
      let y = checked_body ks b in
      ap (λ (z : Result (List Validator) CheckError). further (further z (λ rest. further y (λ u. passed ks bs rest))) all_of) (behind_is b.span.from vs)
      ∙ regroup x y (drop n vs) (passed ks bs) all_of
      ∙ ap (λ z. x >> (y >> z)) (walked_is bs (drop n vs))
      ∙ sym (each_append ks (map of_validator (take n vs)) (of_body b ∷ together bs (drop n vs)))

  pub passed_append : (xs bs : List Body) (vs : List Validator) → passed ks (xs ++ bs) vs ≡ further (passed ks xs vs) (λ rest. passed ks bs rest)
  passed_append [] bs vs = refl
  passed_append (a ∷ xs) bs vs =
      (λ i. further (behind ks a.span.from vs) (λ rest. further (checked_body ks a) (λ u. passed_append xs bs rest i)))
      ∙ by (behind ks a.span.from vs) (checked_body ks a)
    where
      by : (x : Result (List Validator) CheckError) (y : Checked)
          → further x (λ rest. further y (λ u. further (passed ks xs rest) (λ r. passed ks bs r))) ≡ further (further x (λ rest. further y (λ u. passed ks xs rest))) (λ r. passed ks bs r)
      by (Ok r) (Ok u) = refl
      by (Ok r) (Err e) = refl
      by (Err e) y = refl

  -- the walk over some bodies, the next one, and the rest
  walked_step : (xs : List Body) (b : Body) (bs : List Body) (vs : List Validator)
      → walked ks (xs ++ b ∷ bs) vs ≡ further (passed ks xs vs) (λ r. further (passed ks (b ∷ []) r) (λ q. walked ks bs q))
  walked_step xs b bs vs =
      ap (λ (z : Result (List Validator) CheckError). further z all_of) (passed_append xs (b ∷ bs) vs ∙ (λ i. further (passed ks xs vs) (λ r. passed_append (b ∷ []) bs r i)))
      ∙ further_same (passed ks xs vs) (λ r. further (passed ks (b ∷ []) r) (λ q. passed ks bs q)) all_of
      ∙ (λ i. further (passed ks xs vs) (λ r. further_same (passed ks (b ∷ []) r) (λ q. passed ks bs q) all_of i))

  -- ---- nothing is refused

  validators_split : (n : ℕ) (vs : List Validator) → all_of (take n vs) >> all_of (drop n vs) ≡ all_of vs
  validators_split zero vs = refl
  validators_split (suc n) [] = refl
  validators_split (suc n) (v ∷ vs) =
      then_same (validates ks v.callee v.span) (all_of (take n vs)) (all_of (drop n vs)) ∙ ap (λ x. validates ks v.callee v.span >> x) (validators_split n vs)

  pub each_accepted : (bs : List Body) (vs : List Validator) → checked_each ks (together bs vs) ≡ fine → (checked_bodies ks bs ≡ fine) × (checked_each ks (map of_validator vs) ≡ fine)
  each_accepted [] vs h = (refl, h)
  each_accepted (b ∷ bs) vs h =
      let n = earlier b.span.from vs in
      let x = all_of (take n vs) in
      let y = checked_body ks b in
      let z = checked_each ks (together bs (drop n vs)) in
      let g : x >> (y >> z) ≡ fine = sym (each_append ks (map of_validator (take n vs)) (of_body b ∷ together bs (drop n vs))) ∙ h in
      let k : y >> z ≡ fine = second x (y >> z) g in
      let rest = each_accepted bs (drop n vs) (second y z k) in
      (both y (checked_bodies ks bs) (first y z k) rest.0, sym (validators_split n vs) ∙ both x (all_of (drop n vs)) (first x (y >> z) g) rest.1)

  pub accepted_each : (bs : List Body) (vs : List Validator) → checked_bodies ks bs ≡ fine → checked_each ks (map of_validator vs) ≡ fine → checked_each ks (together bs vs) ≡ fine
  accepted_each [] vs p q = q
  accepted_each (b ∷ bs) vs p q =
      let n = earlier b.span.from vs in
      let x = all_of (take n vs) in
      let w = all_of (drop n vs) in
      let y = checked_body ks b in
      let v = checked_bodies ks bs in
      let z = checked_each ks (together bs (drop n vs)) in
      let g : x >> w ≡ fine = validators_split n vs ∙ q in
      each_append ks (map of_validator (take n vs)) (of_body b ∷ together bs (drop n vs))
      ∙ both x (y >> z) (first x w g) (both y z (first y v p) (accepted_each bs (drop n vs) (second y v p) (second x w g)))
  -- ---- the first of the validators that are left

-- a step of the walk over the bodies in script order: the threads before the next function, and the function
pub bodies_step : (fs : List Function) (i : ℕ) (f : Function) → i < length fs → f ≡ get_or fs i f → (ts : List Thread) (n : ℕ) → n ≡ before f.span.from (threads_of ts) → (ks : List Known) (vs : List Validator)
    → walked ks (in_order (functions_of (drop i fs)) (threads_of ts)) vs
    ≡ further (passed ks (map thread_body (threads_of (take n ts))) vs) (λ r. further (passed ks (function_body (function_of f) ∷ []) r) (λ q. walked ks (in_order (functions_of (drop (i + 1) fs)) (threads_of (drop n ts))) q))
bodies_step fs i f lt is ts n many ks vs =
    ap (λ l. walked ks l vs) (order_of fs i f lt is ts n many)
    ∙ walked_step ks (map thread_body (threads_of (take n ts))) (function_body (function_of f)) (in_order (functions_of (drop (i + 1) fs)) (threads_of (drop n ts))) vs
