-- Notes that are counted one after the other, by their actors or their books.
use Rattle.std.proofs.Common.{◌≡◌, ◌⊎◌, inl, inr, ◌<◌, ◌≤◌, ◌+◌, ◌==◌, ℕ, zero, suc, Bool, true, false, List, [], ◌∷◌, length, map, get_or, set, drop, replicate, None, refl, sym, ap, subst, ◌∙◌, arith}
use Rattle.std.specs.List.{filter, range_with_len}
use Rattle.std.specs.Prelude.{cond}
use Rattle.std.proofs.lemmas.Bool.{eqb-true, eqb-false}
use Rattle.std.proofs.lemmas.Grind.{get_or-set_at}
use Rattle.std.proofs.lemmas.List.{drop_more, drop_all, get_or-set_other, length-append}
use Rattle.std.proofs.lemmas.List.FromFn.{length-range_with_len, get_or-range_with_len}
use Rattle.txs_value_data.specs.Places.{nth}
use Rattle.txs_world_protocol.specs.declared.report.Report.{Report}
use Rattle.txs_cli_events.specs.declared.seen.Noted.{Noted}
use Rattle.txs_cli_events.specs.Noted.{AreInOrder, ArePrinted, AreTraced, RestOfBooks, RestOfPrints, RestOfTraces, RiseWithin, bytes_at, entries_of, events_in, many_of, of_actor, prints, trace_at, trace_of}

-- what is read where no note is
abbrev pub nothing : Noted
nothing = record { actor = 0; event = record { book = 0; at = 0 }; at = None; printed = 0 }

-- ---- lists of counts

-- none is counted
pub none_counted : (z n i : ℕ) → get_or (replicate n z) i z ≡ z
none_counted z zero i = refl
none_counted z (suc n) zero = refl
none_counted z (suc n) (suc i) = none_counted z n i

pub nothing_past : {A : Type 0} (xs : List A) (k : ℕ) → length xs ≤ k → nth xs k ≡ None
nothing_past [] k l = refl
nothing_past (x ∷ xs) zero l = absurd (omega (arith, l))
nothing_past (x ∷ xs) (suc k) l = nothing_past xs k (omega (arith, l))

within_or_past : (k n : ℕ) → (k < n) ⊎ (n ≤ k)
within_or_past k zero = inr (omega arith)
within_or_past zero (suc n) = inl (omega arith)
within_or_past (suc k) (suc n) = later (within_or_past k n)
  where
    later : (k < n) ⊎ (n ≤ k) → (suc k < suc n) ⊎ (suc n ≤ suc k)
    later (inl l) = inl (omega (arith, l))
    later (inr l) = inr (omega (arith, l))

module _ {B : Type 0} (key : Noted → ℕ) (val : Noted → B) (all : ℕ → List B) where
  -- behind so many of each, these are the others
  abbrev AreRest : List ℕ → List Noted → Type 0
  AreRest counts notes = (j : ℕ) → map val (filter (λ (y : Noted). key y == j) notes) ≡ drop (get_or counts j 0) (all j)

  -- one more is counted
  pub counted : (counts : List ℕ) (x : Noted) (k n : ℕ) → k ≡ key x → k < length counts → n ≡ get_or counts k 0 → n < length (all k) → get_or (all k) n (val x) ≡ val x
      → (xs : List Noted) → AreRest (set counts k (n + 1)) xs → AreRest counts (x ∷ xs)
  counted counts x k n here within is less value xs h j = by (key x == j) refl
    where
      others : List Noted
      others = filter (λ (y : Noted). key y == j) xs

      by : (b : Bool) → (key x == j) ≡ b → map val (cond b (x ∷ others) others) ≡ drop (get_or counts j 0) (all j)
      by true e =
          let same : k ≡ j = here ∙ eqb-true (key x) j e in
          let now : get_or (set counts k (n + 1)) j 0 ≡ n + 1 = get_or-set_at counts k j (n + 1) 0 (sym same) within in
          let first : drop n (all j) ≡ val x ∷ drop (n + 1) (all j) =
          drop_more (all j) n (val x) (subst (λ i. n < length (all i)) same less) ∙ ap (λ v. v ∷ drop (n + 1) (all j)) (subst (λ i. get_or (all i) n (val x) ≡ val x) same value)
          in
          ap (λ l. val x ∷ l) (h j ∙ ap (λ i. drop i (all j)) now) ∙ sym first ∙ ap (λ i. drop i (all j)) (is ∙ ap (λ i. get_or counts i 0) same)
      by false e = h j ∙ ap (λ i. drop i (all j)) (get_or-set_other counts k j (n + 1) 0 (λ f. eqb-false (key x) j e (sym here ∙ sym f)))

  -- all are counted
  pub all_counted : (counts : List ℕ) → ((j : ℕ) → j < length counts → get_or counts j 0 ≡ length (all j)) → ((j : ℕ) → length counts ≤ j → all j ≡ []) → AreRest counts []
  all_counted counts h past j = by (within_or_past j (length counts))
    where
      by : (j < length counts) ⊎ (length counts ≤ j) → [] ≡ drop (get_or counts j 0) (all j)
      by (inl l) = sym (drop_all (get_or counts j 0) (all j) (let e = h j l in omega (arith, e)))
      by (inr l) = sym (drop_all (get_or counts j 0) (all j) (let e : length (all j) ≡ 0 = ap length (past j l) in omega (arith, e)))

-- ---- traces

pub trace_begun : (r : Report) (n : ℕ) (notes : List Noted) → RestOfTraces r (replicate n 0) notes → AreTraced r notes
trace_begun r n notes h k = h k ∙ ap (λ i. drop i (trace_at r k)) (none_counted 0 n k)

pub trace_next : (r : Report) (counts : List ℕ) (x : Noted) (n : ℕ) → x.actor < length counts → n ≡ get_or counts x.actor 0 → n < length (trace_at r x.actor) → get_or (trace_at r x.actor) n x.event ≡ x.event
    → (xs : List Noted) → RestOfTraces r (set counts x.actor (n + 1)) xs → RestOfTraces r counts (x ∷ xs)
trace_next r counts x n = counted (λ (y : Noted). y.actor) (λ (y : Noted). y.event) (trace_at r) counts x x.actor n refl

pub trace_over : (r : Report) (counts : List ℕ) → length counts ≡ length r.threads.items + length r.agents.items → ((k : ℕ) → k < length counts → get_or counts k 0 ≡ length (trace_at r k)) → RestOfTraces r counts []
trace_over r counts many h = all_counted (λ (y : Noted). y.actor) (λ (y : Noted). y.event) (trace_at r) counts h (λ k l. ap trace_of (nothing_past (entries_of r) k (let e = length-append r.threads.items r.agents.items in omega (arith, e, many, l))))

-- ---- books

pub book_begun : (r : Report) (n : ℕ) (notes : List Noted) → RestOfBooks r (replicate n 0) notes → AreInOrder r notes
book_begun r n notes h b = h b ∙ ap (λ i. drop i (range_with_len 0 (events_in r b))) (none_counted 0 n b)

pub book_next : (r : Report) (counts : List ℕ) (x : Noted) (n : ℕ) → x.event.book < length counts → n ≡ get_or counts x.event.book 0 → n < events_in r x.event.book → n ≡ x.event.at
    → (xs : List Noted) → RestOfBooks r (set counts x.event.book (n + 1)) xs → RestOfBooks r counts (x ∷ xs)
book_next r counts x n within is less here =
    let m = events_in r x.event.book in
    let long : length (range_with_len 0 m) ≡ m = length-range_with_len 0 m in
    let same : 0 + n ≡ x.event.at = omega (arith, here) in
    counted (λ (y : Noted). y.event.book) (λ (y : Noted). y.event.at) (λ b. range_with_len 0 (events_in r b)) counts x x.event.book n refl within is (omega (arith, long, less)) (get_or-range_with_len 0 m n x.event.at less ∙ same)

pub book_over : (r : Report) (counts : List ℕ) → length counts ≡ 1 + length r.atom_books.items → ((b : ℕ) → b < length counts → get_or counts b 0 ≡ events_in r b) → RestOfBooks r counts []
book_over r counts many h =
    all_counted (λ (y : Noted). y.event.book) (λ (y : Noted). y.event.at) (λ b. range_with_len 0 (events_in r b)) counts (λ b l. h b l ∙ sym (length-range_with_len 0 (events_in r b)))
    (λ b l. ap (λ o. range_with_len 0 (many_of o)) (nothing_past (r.book.items ∷ r.atom_books.items) b (omega (arith, many, l))))

-- ---- prints

pub print_begun : (r : Report) (n : ℕ) (notes : List Noted) → RestOfPrints r (replicate n 0) notes → ArePrinted r notes
print_begun r n notes h k = subst (λ i. RiseWithin i (bytes_at r k) (prints (of_actor k notes))) (none_counted 0 n k) (h k)

pub print_next : (r : Report) (counts : List ℕ) (x : Noted) → x.actor < length counts → get_or counts x.actor 0 ≤ x.printed → x.printed ≤ bytes_at r x.actor
    → (xs : List Noted) → RestOfPrints r (set counts x.actor x.printed) xs → RestOfPrints r counts (x ∷ xs)
print_next r counts x within low high xs h k = by (x.actor == k) refl
  where
    by : (b : Bool) → (x.actor == k) ≡ b → RiseWithin (get_or counts k 0) (bytes_at r k) (prints (cond b (x ∷ of_actor k xs) (of_actor k xs)))
    by true e =
        let same : x.actor ≡ k = eqb-true x.actor k e in
        let now : get_or (set counts x.actor x.printed) k 0 ≡ x.printed = get_or-set_at counts x.actor k x.printed 0 (sym same) within in
        (subst (λ i. get_or counts i 0 ≤ x.printed) same low, subst (λ i. x.printed ≤ bytes_at r i) same high, subst (λ i. RiseWithin i (bytes_at r k) (prints (of_actor k xs))) now (h k))
    by false e = subst (λ i. RiseWithin i (bytes_at r k) (prints (of_actor k xs))) (get_or-set_other counts x.actor k x.printed 0 (λ f. eqb-false x.actor k e (sym f))) (h k)
