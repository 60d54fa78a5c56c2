-- A book's events found one by one.
use Rattle.std.proofs.Common.{◌≡◌, ◌≤◌, ◌<◌, ◌+◌, ℕ, zero, suc, Bool, true, false, ◌&&◌, nat_lt, List, [], ◌∷◌, ◌++◌, length, take, drop, get_or, Some, refl, sym, ap, ◌∙◌, arith}
use Rattle.std.proofs.lemmas.Bool.{lt-ltb, le-ltb}
use Rattle.std.proofs.lemmas.List.{drop_more, take_more, length-take-le}
use Rattle.txs_value_data.specs.Places.{nth}
use Rattle.txs_value_data.specs.Limits.{most_events}
use Rattle.txs_world_protocol.specs.declared.event.Event.{Event}
use Rattle.txs_theorem_audit.specs.Audited.{Off, and_then, check}
use Rattle.txs_theorem_audit.specs.Verdict.{book_found}
use Rattle.txs_audit_book.specs.Replayed.{IsOffAt, actor_in}

nth_at : (xs : List Event) (i : ℕ) (x : Event) → i < length xs → x ≡ get_or xs i x → nth xs i ≡ Some x
nth_at [] i x lt is = absurd (omega (arith, lt))
nth_at (y ∷ xs) zero x lt is = ap Some (sym is)
nth_at (y ∷ xs) (suc i) x lt is = nth_at xs i x (omega (arith, lt)) is

module _ (test : List Event → Event → Bool) (book : List Event) (i : ℕ) (e : Event) (lt : i < length book) (is : e ≡ get_or book i e) where
  here : drop i book ≡ e ∷ drop (i + 1) book
  here = drop_more book i e lt ∙ ap (λ y. y ∷ drop (i + 1) book) (sym is)

  pub one_more : take (i + 1) book ≡ take i book ++ e ∷ []
  one_more = take_more book i e lt ∙ ap (λ y. take i book ++ y ∷ []) (sym is)

  pub long : length (take i book) ≡ i
  long = length-take-le i book (omega (arith, lt))

  found_one : (index : ℕ → ℕ → ℕ) → book_found test index (take i book) (drop i book)
      ≡ and_then (check (nat_lt i most_events && test (take i book) e) e.actor (index e.actor i)) (book_found test index (take (i + 1) book) (drop (i + 1) book))
  found_one index =
      ap (book_found test index (take i book)) here
      ∙ ap (λ n. and_then (check (nat_lt n most_events && test (take i book) e) e.actor (index e.actor n)) (book_found test index (take i book ++ e ∷ []) (drop (i + 1) book))) long
      ∙ ap (λ l. and_then (check (nat_lt i most_events && test (take i book) e) e.actor (index e.actor i)) (book_found test index l (drop (i + 1) book))) (sym one_more)

  -- an event that may stand there
  pub found_next : i < most_events → test (take i book) e ≡ true → (index : ℕ → ℕ → ℕ)
      → book_found test index (take i book) (drop i book) ≡ book_found test index (take (i + 1) book) (drop (i + 1) book)
  found_next few holds index =
      found_one index
      ∙ ap (λ b. and_then (check (b && test (take i book) e) e.actor (index e.actor i)) (book_found test index (take (i + 1) book) (drop (i + 1) book))) (lt-ltb i most_events few)
      ∙ ap (λ b. and_then (check b e.actor (index e.actor i)) (book_found test index (take (i + 1) book) (drop (i + 1) book))) holds

  there : nth book i ≡ Some e
  there = nth_at book i e lt is

  off : (nat_lt i most_events && test (take i book) e) ≡ false → ((index : ℕ → ℕ → ℕ) → book_found test index (take i book) (drop i book) ≡ book_found test index [] book) → IsOffAt test book i
  off fails rest = (
    lt,
    λ index. sym (rest index) ∙ found_one index
        ∙ ap (λ b. and_then (check b e.actor (index e.actor i)) (book_found test index (take (i + 1) book) (drop (i + 1) book))) fails
        ∙ ap (λ o. Off (actor_in o) (index (actor_in o) i)) (sym there),
  )

  -- one that may not
  pub found_full : most_events ≤ i → ((index : ℕ → ℕ → ℕ) → book_found test index (take i book) (drop i book) ≡ book_found test index [] book) → IsOffAt test book i
  found_full full rest = off (ap (λ b. b && test (take i book) e) (le-ltb i most_events full)) rest

  pub found_off : test (take i book) e ≡ false → ((index : ℕ → ℕ → ℕ) → book_found test index (take i book) (drop i book) ≡ book_found test index [] book) → IsOffAt test book i
  found_off fails rest = off (ap (λ b. nat_lt i most_events && b) fails ∙ and_none (nat_lt i most_events)) rest
    where
      and_none : (b : Bool) → (b && false) ≡ false
      and_none true = refl
      and_none false = refl
