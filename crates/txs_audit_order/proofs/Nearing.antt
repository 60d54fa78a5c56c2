-- What the next event of a book waits for.
use Rattle.std.proofs.Common.{◌≡◌, ◌<◌, ◌≤◌, ◌+◌, ◌-◌, ◌==◌, not, nat_le, nat_lt, ℕ, suc, Bool, true, false, List, [], ◌∷◌, ◌++◌, length, get_or, take, Option, Some, None, refl, sym, ap, ◌∙◌, subst, arith, if◌then◌else◌}
use Rattle.std.proofs.lemmas.Bool.{and_parts, eqb-true, false≢true, leb-false, leb-true, le-ltb, ltb-false, ltb-true}
use Rattle.std.proofs.lemmas.List.{get_or_append_left, get_or_past, get_or_push, length_push, length-take-le, take_more}
use Rattle.std.proofs.lemmas.List.Elements.{All-push, Contains-append_left, Contains-push}
use Rattle.std.specs.List.{All}
use Rattle.txs_theorem_serial.specs.Taken.{is_taken}
use Rattle.txs_audit_order.specs.declared.left.Wait.{Wait}
use Rattle.txs_audit_order.specs.declared.links.Before.{Before}
use Rattle.txs_audit_order.specs.Going.{earlier_of, stands_in}
use Rattle.txs_audit_order.specs.Waiting.{AreWaits, IsWait, Waits, left_from, nearest}

-- what is found by this link, the first that stands in the way
here_waits : (row : List Before) (cut : List ℕ) (k : ℕ) (x : Before) → All (λ (y : Before). stands_in cut k y ≡ true → x.book ≤ y.book) row → stands_in cut k x ≡ true → Waits (row ++ x ∷ []) cut k (record { at = x.at; first = x.book })
here_waits row cut k x low e = record {
  at = eqb-true x.at k (and_parts (x.at == k) (not (is_taken cut (earlier_of x))) e).0;
  there = (x, Contains-push row x, e, refl);
  least = All-push (λ (y : Before). stands_in cut k y ≡ true → x.book ≤ y.book) row x low (λ s. omega arith);
}

-- one link more
pub near_more : (row : List Before) (cut : List ℕ) (k : ℕ) (x : Before) (o : Option Wait) → IsWait row cut k o → (t : Bool) → stands_in cut k x ≡ t → IsWait (row ++ x ∷ []) cut k (if t then nearest x o else o)
near_more row cut k x None h true e = here_waits row cut k x (λ i d lt s. absurd (false≢true (sym (h i d lt) ∙ s))) e
near_more row cut k x None h false e = All-push (λ (y : Before). stands_in cut k y ≡ false) row x h e
near_more row cut k x (Some w) h false e = record {
  at = h.at;
  there = (h.there.0, Contains-append_left row (x ∷ []) h.there.0 h.there.1, h.there.2, h.there.3);
  least = All-push (λ (y : Before). stands_in cut k y ≡ true → w.first ≤ y.book) row x h.least (λ s. absurd (false≢true (sym e ∙ s)));
}
near_more row cut k x (Some w) h true e = go (nat_le w.first x.book) refl
  where
    go : (t : Bool) → nat_le w.first x.book ≡ t → IsWait (row ++ x ∷ []) cut k (if t then Some w else Some (record { at = x.at; first = x.book }))
    go true q = record {
      at = h.at;
      there = (h.there.0, Contains-append_left row (x ∷ []) h.there.0 h.there.1, h.there.2, h.there.3);
      least = All-push (λ (y : Before). stands_in cut k y ≡ true → w.first ≤ y.book) row x h.least (λ s. leb-true w.first x.book q);
    }
    go false q = here_waits row cut k x (λ i d lt s. (let far = leb-false w.first x.book q in let near = h.least i d lt s in omega (arith, far, near))) e

-- the row of one book more
pub waits_more : (rows : List (List Before)) (cut : List ℕ) (waits now : List (Option Wait)) (b : ℕ) (w : Option Wait) → b < length rows → AreWaits (take b rows) cut waits → IsWait (get_or rows b []) cut (get_or cut b 0) w → now ≡ waits ++ w ∷ [] → AreWaits (take (b + 1) rows) cut now
waits_more rows cut waits now b w lt h here is =
    subst (λ l. AreWaits (take (b + 1) rows) cut l) (sym is) (subst (λ rs. AreWaits rs cut (waits ++ w ∷ [])) (sym (take_more rows b [] lt)) (record {
      many = length_push waits w ∙ ap (λ n. n + 1) h.many ∙ sym (length_push front (get_or rows b []));
      each = λ c. go c (nat_lt c b) refl;
    }))
  where
    front : List (List Before)
    front = take b rows

    size : length front ≡ b
    size = length-take-le b rows (omega (arith, lt))

    many : length waits ≡ b
    many = h.many ∙ size

    go : (c : ℕ) → (t : Bool) → nat_lt c b ≡ t → IsWait (get_or (front ++ get_or rows b [] ∷ []) c []) cut (get_or cut c 0) (get_or (waits ++ w ∷ []) c None)
    go c true e =
        let low = ltb-true c b e in
        subst (λ r. IsWait r cut (get_or cut c 0) (get_or (waits ++ w ∷ []) c None)) (sym (get_or_append_left front (get_or rows b [] ∷ []) [] c (omega (arith, low, size))))
        (subst (λ o. IsWait (get_or front c []) cut (get_or cut c 0) o) (sym (get_or_append_left waits (w ∷ []) None c (omega (arith, low, many)))) (h.each c))
    go c false e = last c (ltb-false c b e) (nat_lt b c) refl
      where
        last : (c : ℕ) → b ≤ c → (t : Bool) → nat_lt b c ≡ t → IsWait (get_or (front ++ get_or rows b [] ∷ []) c []) cut (get_or cut c 0) (get_or (waits ++ w ∷ []) c None)
        last c high true q =
            let more = length_push front (get_or rows b []) in
            let also = length_push waits w in
            let far = ltb-true b c q in
            subst (λ r. IsWait r cut (get_or cut c 0) (get_or (waits ++ w ∷ []) c None)) (sym (get_or_past (front ++ get_or rows b [] ∷ []) c [] (omega (arith, more, size, far))))
            (subst (λ o. IsWait [] cut (get_or cut c 0) o) (sym (get_or_past (waits ++ w ∷ []) c None (omega (arith, also, many, far)))) (λ i d lt. absurd (omega (arith, lt))))
        last c high false q =
            let same : c ≡ b = (let near = ltb-false b c q in omega (arith, high, near)) in
            subst (λ j. IsWait (get_or (front ++ get_or rows b [] ∷ []) j []) cut (get_or cut j 0) (get_or (waits ++ w ∷ []) j None)) (sym same)
            (subst (λ r. IsWait r cut (get_or cut b 0) (get_or (waits ++ w ∷ []) b None)) (sym (get_or_push front (get_or rows b []) [] b size))
            (subst (λ o. IsWait (get_or rows b []) cut (get_or cut b 0) o) (sym (get_or_push waits w None b many)) here))

-- one book more is looked at, of which no event is left
pub left_more : (lengths cut : List ℕ) (b n : ℕ) → b < n → get_or lengths b 0 ≤ get_or cut b 0 → left_from lengths cut (b + 1) (n - (b + 1)) ≡ left_from lengths cut b (n - b)
left_more lengths cut b n lt le =
    ap (λ j. left_from lengths cut j (n - (b + 1))) one
    ∙ sym (ap (left_from lengths cut b) more ∙ ap (λ t. if t then Some b else left_from lengths cut (suc b) (n - (b + 1))) (le-ltb (get_or cut b 0) (get_or lengths b 0) le))
  where
    one : b + 1 ≡ suc b
    one = omega arith

    more : n - b ≡ suc (n - (b + 1))
    more = omega (arith, lt)
