-- A run of bytes, from what is known of each place.
use Rattle.std.proofs.Common.{◌≡◌, ℕ, zero, suc, ◌<◌, ◌≤◌, Bool, true, false, not, List, [], ◌∷◌, length, get_or, take, drop, refl, arith}
use Rattle.std.specs.List.{list_all}
use Rattle.txs_reader.specs.Bytes.{begins_with, IsRun}

each_by_places : (test : ℕ → Bool) (bs : List ℕ) (n : ℕ) → n ≤ length bs → ((k : ℕ) → k < n → test (get_or bs k 0) ≡ true) → list_all test (take n bs) ≡ true
each_by_places test bs zero le h = refl
each_by_places test [] (suc n) le h = refl
each_by_places test (b ∷ bs) (suc n) le h =
    let e : test b ≡ true = h 0 (omega arith) in
    rw e (each_by_places test bs n (omega arith) (λ k lt. h (suc k) (omega arith)))

ends_by_place : (test : ℕ → Bool) (bs : List ℕ) (n : ℕ) → test (get_or bs n 0) ≡ false → begins_with test (drop n bs) ≡ false
ends_by_place test [] zero e = refl
ends_by_place test [] (suc n) e = refl
ends_by_place test (b ∷ bs) zero e = e
ends_by_place test (b ∷ bs) (suc n) e = ends_by_place test bs n e

ends_at_end : (test : ℕ → Bool) (bs : List ℕ) → begins_with test (drop (length bs) bs) ≡ false
ends_at_end test [] = refl
ends_at_end test (b ∷ bs) = ends_at_end test bs

pub run_up_to : (test : ℕ → Bool) (bs : List ℕ) (n : ℕ) → n ≤ length bs → ((k : ℕ) → k < n → test (get_or bs k 0) ≡ true) → test (get_or bs n 0) ≡ false → IsRun test bs n
run_up_to test bs n le h e = record { short = le; each = each_by_places test bs n le h; ends = ends_by_place test bs n e }

pub run_to_end : (test : ℕ → Bool) (bs : List ℕ) → ((k : ℕ) → k < length bs → test (get_or bs k 0) ≡ true) → IsRun test bs (length bs)
run_to_end test bs h = record { short = omega arith; each = each_by_places test bs (length bs) (omega arith) h; ends = ends_at_end test bs }

pub denied : (b : Bool) → (b ≡ true → ⊥) → not b ≡ true
denied true h = absurd (h refl)
denied false h = refl
