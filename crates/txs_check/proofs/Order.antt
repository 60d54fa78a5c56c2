-- The bodies of a program in script order are its functions and its threads.
use Rattle.std.proofs.Common.{◌≡◌, ℕ, zero, suc, ◌+◌, ◌-◌, ◌≤◌, Bool, true, false, leb, if◌then◌else◌, List, [], ◌∷◌, ◌++◌, map, take, drop, Result, Ok, Err, refl, sym, ap, ◌∙◌, arith}
use Rattle.std.proofs.lemmas.Bool.{leb-true, le-leb}
use Rattle.txs_value_data.specs.declared.fault.Span.{Span}
use Rattle.txs_tree_meaning.specs.Known.{Known}
use Rattle.txs_tree_meaning.specs.Sound.{nodes, nodes_of_functions, nodes_of_all}
use Rattle.txs_tree_meaning.specs.Tree.{Tree, PlainFunction, PlainThread}
use Rattle.txs_check.specs.declared.error.CheckError.{CheckError}
use Rattle.txs_check.specs.declared.error.CheckErrorKind.TheVariants.{CodeTooLarge}
use Rattle.txs_check.specs.Refused.{fine, ◌>>◌, Body, function_body, thread_body, before, in_order, checked_body, checked_bodies, taken, ◌>>=◌, room, few}
use Rattle.txs_check.proofs.Steps.{first, second, both, then_same, refused_not_fine}

pub bodies_append : (ks : List Known) (xs bs : List Body) → checked_bodies ks (xs ++ bs) ≡ checked_bodies ks xs >> checked_bodies ks bs
bodies_append ks [] bs = refl
bodies_append ks (a ∷ xs) bs = ap (λ x. checked_body ks a >> x) (bodies_append ks xs bs) ∙ sym (then_same (checked_body ks a) (checked_bodies ks xs) (checked_bodies ks bs))

bound_same : (r : Result ℕ CheckError) (f g : ℕ → Result ℕ CheckError) → (r >>= f) >>= g ≡ r >>= (λ x. f x >>= g)
bound_same (Ok x) f g = refl
bound_same (Err e) f g = refl

pub room_append : (left : ℕ) (xs bs : List Body) → room left (xs ++ bs) ≡ room left xs >>= (λ rest. room rest bs)
room_append left [] bs = refl
room_append left (a ∷ xs) bs =
    (λ i. taken left a.tree a.span >>= (λ rest. room_append rest xs bs i))
    ∙ sym (bound_same (taken left a.tree a.span) (λ rest. room rest xs) (λ rest. room rest bs))

module _ (ks : List Known) where
  threads_split : (n : ℕ) (ts : List PlainThread) → checked_bodies ks (map thread_body (take n ts)) >> checked_bodies ks (map thread_body (drop n ts)) ≡ checked_bodies ks (map thread_body ts)
  threads_split zero ts = refl
  threads_split (suc n) [] = refl
  threads_split (suc n) (t ∷ ts) =
      then_same (checked_body ks (thread_body t)) (checked_bodies ks (map thread_body (take n ts))) (checked_bodies ks (map thread_body (drop n ts)))
      ∙ ap (λ x. checked_body ks (thread_body t) >> x) (threads_split n ts)

  -- one function, with the threads before it
  order_more : (f : PlainFunction) (fs : List PlainFunction) (ts : List PlainThread) → checked_bodies ks (in_order (f ∷ fs) ts)
      ≡ checked_bodies ks (map thread_body (take (before f.span.from ts) ts)) >> (checked_body ks (function_body f) >> checked_bodies ks (in_order fs (drop (before f.span.from ts) ts)))
  order_more f fs ts = bodies_append ks (map thread_body (take (before f.span.from ts) ts)) (function_body f ∷ in_order fs (drop (before f.span.from ts) ts))

  pub order_accepted : (fs : List PlainFunction) (ts : List PlainThread) → checked_bodies ks (in_order fs ts) ≡ fine → (checked_bodies ks (map function_body fs) ≡ fine) × (checked_bodies ks (map thread_body ts) ≡ fine)
  order_accepted [] ts h = (refl, h)
  order_accepted (f ∷ fs) ts h =
      let n = before f.span.from ts in
      let x = checked_bodies ks (map thread_body (take n ts)) in
      let y = checked_body ks (function_body f) in
      let z = checked_bodies ks (in_order fs (drop n ts)) in
      let g : x >> (y >> z) ≡ fine = sym (order_more f fs ts) ∙ h in
      let k : y >> z ≡ fine = second x (y >> z) g in
      let rest = order_accepted fs (drop n ts) (second y z k) in (
        both y (checked_bodies ks (map function_body fs)) (first y z k) rest.0,
        sym (threads_split n ts) ∙ both x (checked_bodies ks (map thread_body (drop n ts))) (first x (y >> z) g) rest.1,
      )

  pub accepted_order : (fs : List PlainFunction) (ts : List PlainThread) → checked_bodies ks (map function_body fs) ≡ fine → checked_bodies ks (map thread_body ts) ≡ fine → checked_bodies ks (in_order fs ts) ≡ fine
  accepted_order [] ts p q = q
  accepted_order (f ∷ fs) ts p q =
      let n = before f.span.from ts in
      let x = checked_bodies ks (map thread_body (take n ts)) in
      let w = checked_bodies ks (map thread_body (drop n ts)) in
      let y = checked_body ks (function_body f) in
      let v = checked_bodies ks (map function_body fs) in
      let z = checked_bodies ks (in_order fs (drop n ts)) in
      let g : x >> w ≡ fine = threads_split n ts ∙ q in
      order_more f fs ts ∙ both x (y >> z) (first x w g) (both y z (first y v p) (accepted_order fs (drop n ts) (second y v p) (second x w g)))

-- how many nodes there are
abbrev pub total : List Body → ℕ
total [] = 0
total (b ∷ bs) = nodes b.tree + total bs

total_append : (xs bs : List Body) → total (xs ++ bs) ≡ total xs + total bs
total_append [] bs = omega arith
total_append (a ∷ xs) bs = omega (arith, total_append xs bs)

total_threads : (ts : List PlainThread) → total (map thread_body ts) ≡ nodes_of_all ts
total_threads [] = refl
total_threads (t ∷ ts) = ap (λ n. nodes t.body + n) (total_threads ts)

threads_whole : (n : ℕ) (ts : List PlainThread) → nodes_of_all (take n ts) + nodes_of_all (drop n ts) ≡ nodes_of_all ts
threads_whole zero ts = omega arith
threads_whole (suc n) [] = omega arith
threads_whole (suc n) (t ∷ ts) = omega (arith, threads_whole n ts)

pub total_order : (fs : List PlainFunction) (ts : List PlainThread) → total (in_order fs ts) ≡ nodes_of_functions fs + nodes_of_all ts
total_order [] ts = omega (arith, total_threads ts)
total_order (f ∷ fs) ts =
    let n = before f.span.from ts in
    omega (arith, total_append (map thread_body (take n ts)) (function_body f ∷ in_order fs (drop n ts)), total_threads (take n ts), total_order fs (drop n ts), threads_whole n ts)

pub taken_some : (left : ℕ) (e : Tree) (at : Span) → nodes e ≤ left → taken left e at ≡ Ok (left - nodes e)
taken_some left e at le = ap (λ x. if x then Ok (left - nodes e) else Err (record { kind = CodeTooLarge; at = at })) (le-leb (nodes e) left le)

pub room_few : (left : ℕ) (bs : List Body) → total bs ≤ left → few (room left bs) ≡ fine
room_few left [] le = refl
room_few left (b ∷ bs) le =
    ap (λ r. few (r >>= λ rest. room rest bs)) (taken_some left b.tree b.span (omega (arith, le)))
    ∙ room_few (left - nodes b.tree) bs (omega (arith, le))

pub few_room : (left : ℕ) (bs : List Body) → few (room left bs) ≡ fine → total bs ≤ left
few_room left [] h = omega arith
few_room left (b ∷ bs) h = by (few_room (left - nodes b.tree) bs) (leb (nodes b.tree) left) refl
  where
    by : (few (room (left - nodes b.tree) bs) ≡ fine → total bs ≤ left - nodes b.tree) → (x : Bool) → leb (nodes b.tree) left ≡ x → total (b ∷ bs) ≤ left
    by more true is =
        let le = leb-true (nodes b.tree) left is in
        omega (arith, le, more (sym (ap (λ r. few (r >>= λ rest. room rest bs)) (taken_some left b.tree b.span le)) ∙ h))
    by more false is = absurd (refused_not_fine CodeTooLarge b.span (sym (ap (λ x. few ((if x then Ok (left - nodes b.tree) else Err (record { kind = CodeTooLarge; at = b.span })) >>= λ rest. room rest bs)) is) ∙ h))
