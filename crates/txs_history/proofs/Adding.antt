-- The exchange that adds an event keeps the rule.
use Rattle.std.proofs.Common.{◌≡◌, ◌≢◌, ℕ, ◌+◌, ◌<◌, ◌==◌, Bool, true, false, List, [], ◌∷◌, ◌++◌, length, if◌then◌else◌, slice_set, MatchBool, refl, ap, sym, ◌∙◌, arith, inl, length-append, None}
use Rattle.std.proofs.lemmas.List.{append-nil, get_or-set_same, get_or-set_other, length-set}
use Rattle.std.proofs.lemmas.Bool.Decides.{nat_tests}
use mathlib.Core.List.{IsPrefix}
use prog.Atomic.{either}
use Rattle.logbook.specs.Pages.{Cell, cell, keeps, no_nib, step, Moves, Goes}
use Rattle.txs_history.specs.declared.log.Entry.{Entry}
use Rattle.txs_history.specs.declared.log.Entry.TheVariants as entry
use Rattle.txs_history.specs.History.{events_of, locks_in, WasAdded}
use Rattle.txs_history.specs.Rules.{IsKept, Adds}
use Rattle.txs_history.proofs.Beginnings.{prefix_whole, prefix_trans, within_append, events_append, events_prefix, locks_prefix, locks_append}

abbrev pub shown : {E : Type 0} → List (Entry E) → List (Entry E)
shown log = []

abbrev pub moved : {E : Type 0} → List (Entry E) → List (Entry E) → ℕ → Type 0
moved xs ys n = Unit {0}

-- the events of a lock in one event
one_event : {E : Type 0} (k j : ℕ) (e : E) (b : Bool) → (k == j) ≡ b → events_of j (entry.Event k e ∷ []) ≡ (if b then e ∷ [] else [])
one_event k j e b is = rw is refl

-- the words after an event of the lock k
words_after : {E : Type 0} (cs : List Cell) (log : List (Entry E)) (e : E) (k : ℕ) → IsKept cs log → k < length cs
    → (j : ℕ) → j < length cs → (b : Bool) → (k == j) ≡ b
    → cell (slice_set cs k (length (events_of k log) + 1, true)) j ≡ (length (events_of j (log ++ entry.Event k e ∷ [])), true)
words_after cs log e k kept less j here true is =
    let same : j ≡ k = grind (arith, nat_tests) in
    let more : events_of j (log ++ entry.Event k e ∷ []) ≡ events_of j log ++ e ∷ [] = events_append j log (entry.Event k e ∷ []) ∙ ap (λ w. events_of j log ++ w) (one_event k j e _ is) in
    let n : length (events_of j (log ++ entry.Event k e ∷ [])) ≡ length (events_of k log) + 1 = omega (arith, ap length more, length-append (events_of j log) (e ∷ []), ap (λ i. length (events_of i log)) same) in
    rw (n, same) (get_or-set_same cs k (length (events_of k log) + 1, true) (0, false) less)
words_after cs log e k kept less j here false is =
    let other : j ≢ k = λ same. absurd (grind (arith, nat_tests)) in
    let more : events_of j (log ++ entry.Event k e ∷ []) ≡ events_of j log ++ [] = events_append j log (entry.Event k e ∷ []) ∙ ap (λ w. events_of j log ++ w) (one_event k j e _ is) in
    let n : length (events_of j (log ++ entry.Event k e ∷ [])) ≡ length (events_of j log) = ap length (more ∙ append-nil (events_of j log)) in
    rw n (get_or-set_other cs k j (length (events_of k log) + 1, true) (0, false) other ∙ kept.counted j here)

-- the words where nothing is added
words_same : {E : Type 0} (cs : List Cell) (log : List (Entry E)) (k : ℕ) → IsKept cs log → k < length cs
    → (j : ℕ) → j < length cs → (b : Bool) → (k == j) ≡ b
    → cell (slice_set cs k (length (events_of k log), true)) j ≡ (length (events_of j log), true)
words_same cs log k kept less j here true is =
    let same : j ≡ k = grind (arith, nat_tests) in
    rw same (get_or-set_same cs k (length (events_of k log), true) (0, false) less)
words_same cs log k kept less j here false is =
    let other : j ≢ k = λ same. absurd (grind (arith, nat_tests)) in
    get_or-set_other cs k j (length (events_of k log), true) (0, false) other ∙ kept.counted j here

adds_goes : {E : Type 0} (cs : List Cell) (log own v : List (Entry E)) (e : E) (k old : ℕ) → length (events_of k own) ≡ old → k < length cs → IsKept cs log → IsPrefix own v → IsPrefix v log
    → (b : Bool) → (length (events_of k log) == old) ≡ b
    → Goes IsKept shown moved k (v, (no_nib, None)) (λ n. either (n == old) (old + 1) n) (Adds (step k old (old + 1) (entry.Event k e)) (v, (no_nib, None))) cs log
adds_goes cs log own v e k old len less kept first pre true is =
    let found : (cell cs k).0 ≡ length (events_of k log) = ap (λ c. c.0) (kept.counted k less) in
    let here : length (events_of k log) ≡ old = grind (arith, nat_tests) in
    let m : either ((cell cs k).0 == old) (old + 1) (cell cs k).0 ≡ length (events_of k log) + 1 = rw (found, is) (omega (arith, here)) in
    let more : List (Entry _) = entry.Event k e ∷ [] in (
      keeps,
      more,
      None,
      tt,
      rw m (record {
        headed = locks_append log more (omega (arith, less, kept.headed)) ∙ (kept.headed ∙ sym (length-set cs k (length (events_of k log) + 1, true)));
        within = rw (length-set cs k (length (events_of k log) + 1, true)) (within_append (length cs) log more kept.within (less, tt));
        counted = λ j here. words_after cs log e k kept less j (omega (arith, here, length-set cs k (length (events_of k log) + 1, true))) (k == j) refl;
      }),
      inl (refl, refl),
      rw (found, is) (log, pre, here, refl),
    )
adds_goes cs log own v e k old len less kept first pre false is =
    let found : (cell cs k).0 ≡ length (events_of k log) = ap (λ c. c.0) (kept.counted k less) in
    let m : either ((cell cs k).0 == old) (old + 1) (cell cs k).0 ≡ length (events_of k log) = rw (found, is) refl in
    let all : log ++ [] ≡ log = append-nil log in (
      keeps,
      [],
      None,
      tt,
      rw (m, all) (record {
        headed = kept.headed ∙ sym (length-set cs k (length (events_of k log), true));
        within = rw (length-set cs k (length (events_of k log), true)) kept.within;
        counted = λ j here. words_same cs log k kept less j (omega (arith, here, length-set cs k (length (events_of k log), true))) (k == j) refl;
      }),
      inl (refl, refl),
      rw (found, is, all) refl,
    )

-- whatever the words are, the exchange adds the event behind those of its lock, or finds that there are more
pub adds_moves : {E : Type 0} (own v : List (Entry E)) (e : E) (k old : ℕ) → length (events_of k own) ≡ old → k < locks_in own → IsPrefix own v
    → Moves IsKept shown moved k (v, (no_nib, None)) (λ n. either (n == old) (old + 1) n) (Adds (step k old (old + 1) (entry.Event k e)) (v, (no_nib, None)))
adds_moves own v e k old len has first cs log kept pre away =
    let less : k < length cs = omega (arith, has, locks_prefix k own log has (prefix_trans own v log first pre), kept.headed) in
    (less, ap (λ c. c.1) (kept.counted k less), adds_goes cs log own v e k old len less kept first pre (length (events_of k log) == old) refl)

-- the events before the one added are those of the log's own
pub was_same : {E : Type 0} (k n : ℕ) (own v mid : List (Entry E)) → IsPrefix own v → IsPrefix v mid → n ≡ length (events_of k own) → length (events_of k mid) ≡ n → events_of k mid ≡ events_of k own
was_same k n own v mid p q has found =
    sym (prefix_whole (events_of k own) (events_of k mid) (events_prefix k own mid (prefix_trans own v mid p q)) (omega (arith, has, found)))

nat_same : (k : ℕ) → (k == k) ≡ true
nat_same k = grind (arith, nat_tests)

-- what a choice is where the test holds
if_is : {A : Type 0} (B : Type 0) (b : Bool) → b ≡ true → MatchBool b A B → A
if_is B true is x = x
if_is B false is x = absurd (cc is)

if_equal : {A : Type 0} (B : Type 0) (n m : ℕ) → n ≡ m → MatchBool (n == m) A B → A
if_equal B n m is x = if_is B (n == m) (grind (arith, nat_tests, is)) x

pub was_added : {E : Type 0} (k len found : ℕ) (own past v w : List (Entry E)) (e : E) → IsPrefix own v → IsPrefix past v → len ≡ length (events_of k own) → found ≡ len
    → MatchBool (found == len) ((mid : List (Entry E)) × IsPrefix v mid × (length (events_of k mid) ≡ len) × (w ≡ mid ++ entry.Event k e ∷ [])) (length (events_of k w) ≡ found)
    → WasAdded k own past w e
was_added k len found own past v w e p q has is heard =
    let t = if_equal (length (events_of k w) ≡ found) found len is heard in
    record {
      before = t.0;
      own = prefix_trans own v t.0 p t.1;
      past = prefix_trans past v t.0 q t.1;
      same = was_same k len own v t.0 p t.1 has t.2;
      added = t.3;
    }

pub added_events : {E : Type 0} (k : ℕ) (own past new : List (Entry E)) (e : E) → WasAdded k own past new e → events_of k new ≡ events_of k own ++ e ∷ []
added_events k own past new e a =
    ap (events_of k) a.added ∙ (events_append k a.before (entry.Event k e ∷ []) ∙ rw (a.same, nat_same k) refl)

pub added_prefix : {E : Type 0} (k : ℕ) (own past new : List (Entry E)) (e : E) → WasAdded k own past new e → IsPrefix own new
added_prefix k own past new e a = prefix_trans own a.before new a.own (entry.Event k e ∷ [], sym a.added)

pub added_len : {E : Type 0} (k len : ℕ) (own past new : List (Entry E)) (e : E) → len ≡ length (events_of k own) → WasAdded k own past new e → len + 1 ≡ length (events_of k new)
added_len k len own past new e has a = omega (arith, has, ap length (added_events k own past new e a), length-append (events_of k own) (e ∷ []))
