-- Events that are taken one after the other have times by their turns.
use Rattle.std.proofs.Common.{◌≡◌, ◌<◌, ◌≤◌, ◌⊎◌, nat_lt, ℕ, suc, Bool, true, false, List, [], length, replicate, Option, Some, None, if◌then◌else◌, inl, inr, refl, sym, ap, subst, ◌∙◌, arith}
use Rattle.std.proofs.lemmas.Bool.Decides.{nat_tests}
use Rattle.std.proofs.lemmas.Option.{none-some}
use Rattle.txs_tree_meaning.proofs.Callable.{both}
use Rattle.txs_value_data.specs.Places.{nth}
use Rattle.txs_world_protocol.specs.declared.event.Event.{Event}
use Rattle.txs_theorem_serial.specs.Order.{Link, IsOrdered}
use Rattle.txs_theorem_serial.specs.Taken.{taken_of, is_free, with_next, first_left, led_to, left_event, last_cut, AreWithin, IsReached, none_taken, one_more, NoneIsOrdered}
use Rattle.txs_theorem_serial.proofs.Cuts.{none_taken_of, each_count, next_grows, taken_less, free_behind, none_is, has_left, left_first}
use Rattle.txs_theorem_serial.proofs.Reached.{reached_length, last_reached}

module _ (books : ℕ → List Event) (ls : List Link) (n : ℕ) where
  -- the events that are taken have times in an order that fits, below a limit
  record IsTimed (cut : List ℕ) : Type 0 where
    time : ℕ → ℕ → ℕ
    limit : ℕ
    below : (b k : ℕ) → k < taken_of cut b → time b k < limit
    ascends : (b k : ℕ) → suc k < taken_of cut b → time b k < time b (suc k)
    linked : (i : ℕ) (l : Link) → nth ls i ≡ Some l → l.later.at < taken_of cut l.later.book
        → (l.earlier.at < taken_of cut l.earlier.book) × (time l.earlier.book l.earlier.at < time l.later.book l.later.at)

  none_timed : IsTimed (replicate n 0)
  none_timed = record {
    time = λ b k. 0;
    limit = 0;
    below = λ b k less. absurd (let none = none_taken_of n b in omega (arith, less, none));
    ascends = λ b k less. absurd (let none = none_taken_of n b in omega (arith, less, none));
    linked = λ i l there less. absurd (let none = none_taken_of n l.later.book in omega (arith, less, none));
  }

  module _ (cut : List ℕ) (b : ℕ) (within : b < length cut) (free : is_free ls cut b (taken_of cut b) ≡ true) (t : IsTimed cut) where
    -- the event that is taken now comes behind all others
    time_now : ℕ → ℕ → ℕ
    time_now c k = if nat_lt k (taken_of cut c) then t.time c k else t.limit

    time_old : (c k : ℕ) → k < taken_of cut c → time_now c k ≡ t.time c k
    unfolding time_now
    time_old c k less = let is : nat_lt k (taken_of cut c) ≡ true = grind (arith, nat_tests, less) in ap (λ x. if x then t.time c k else t.limit) is

    time_new : (c k : ℕ) → taken_of cut c ≤ k → time_now c k ≡ t.limit
    unfolding time_now
    time_new c k le = let is : nat_lt k (taken_of cut c) ≡ false = grind (arith, nat_tests, le) in ap (λ x. if x then t.time c k else t.limit) is

    -- an event is taken before, or now
    abbrev Which : ℕ → ℕ → Type 0
    Which c k = (k < taken_of cut c) ⊎ ((b ≡ c) × (taken_of cut c ≡ k))

    which_own : (k : ℕ) → k < suc (taken_of cut b) → (x : Bool) → nat_lt k (taken_of cut b) ≡ x → Which b k
    which_own k less true is = inl (grind (arith, nat_tests, is))
    which_own k less false is = inr (refl, grind (arith, nat_tests, is, less))

    which : (c k : ℕ) → k < taken_of (with_next cut b) c → Which c k
    which c k = each_count (λ d m. k < m → Which d k) cut b within (λ less. which_own k less (nat_lt k (taken_of cut b)) refl) (λ d away less. inl less) c

    below_case : (c k : ℕ) → Which c k → time_now c k < suc t.limit
    below_case c k (inl less) = omega (arith, time_old c k less, t.below c k less)
    below_case c k (inr (same, at)) = omega (arith, time_new c k (omega (arith, at)))

    ascends_case : (c k : ℕ) → Which c (suc k) → time_now c k < time_now c (suc k)
    ascends_case c k (inl less) = omega (arith, time_old c k (omega (arith, less)), time_old c (suc k) less, t.ascends c k less)
    ascends_case c k (inr (same, at)) = omega (arith, time_old c k (omega (arith, at)), time_new c (suc k) (omega (arith, at)), t.below c k (omega (arith, at)))

    linked_case : (i : ℕ) (l : Link) → nth ls i ≡ Some l → Which l.later.book l.later.at
        → (l.earlier.at < taken_of (with_next cut b) l.earlier.book) × (time_now l.earlier.book l.earlier.at < time_now l.later.book l.later.at)
    linked_case i l there (inl less) =
        let was = t.linked i l there less in
        let before = was.0 in
        let times = was.1 in (
          omega (arith, before, next_grows cut b within l.earlier.book),
          omega (arith, times, time_old l.earlier.book l.earlier.at before, time_old l.later.book l.later.at less),
        )
    linked_case i l there (inr (same, at)) =
        let own = subst (λ (c : ℕ). is_free ls cut c (taken_of cut c) ≡ true) same free in
        let before = taken_less cut l.earlier (free_behind ls cut i l there (subst (λ (k : ℕ). is_free ls cut l.later.book k ≡ true) at own)) in (
          omega (arith, before, next_grows cut b within l.earlier.book),
          omega (arith, t.below l.earlier.book l.earlier.at before, time_old l.earlier.book l.earlier.at before, time_new l.later.book l.later.at (omega (arith, at))),
        )

    next_timed : IsTimed (with_next cut b)
    next_timed = record {
      time = time_now;
      limit = suc t.limit;
      below = λ c k less. below_case c k (which c k less);
      ascends = λ c k less. ascends_case c k (which c (suc k) less);
      linked = λ i l there less. linked_case i l there (which l.later.book l.later.at less);
    }

  timed : (cut : List ℕ) → IsReached books ls n cut → IsTimed cut
  timed cut none_taken = none_timed
  timed cut (one_more d b r less may) =
      let size = reached_length books ls n d r in
      next_timed d b (omega (arith, less, size)) (both (nat_lt (taken_of d b) (length (books b))) (is_free ls d b (taken_of d b)) may).1 (timed d r)

  -- ---- all events

  no_event : (cut : List ℕ) (o : Option ℕ) → left_event ls cut o ≡ None → o ≡ None
  no_event cut None is = refl
  no_event cut (Some b) is = let c = led_to ls cut (length cut) b in absurd (none-some (record { book = c; at = taken_of cut c }) (sym is))

  module _ (empty : (b : ℕ) → nat_lt b n ≡ false → books b ≡ []) (cut : List ℕ) (none : first_left books cut 0 n ≡ None) where
    all_case : (b : ℕ) (t : Bool) → nat_lt b n ≡ t → length (books b) ≤ taken_of cut b
    all_case b true is =
        let less : b < n = grind (arith, nat_tests, is) in
        let past = none_is (has_left books cut) 0 n b (sym (left_first books cut 0 n) ∙ none) (omega arith) (omega (arith, less)) in
        grind (arith, nat_tests, past)
    all_case b false is = let size : length (books b) ≡ 0 = ap length (empty b is) in omega (arith, size)

    all_taken : (b : ℕ) → length (books b) ≤ taken_of cut b
    all_taken b = all_case b (nat_lt b n) refl

    in_order : AreWithin books n ls → IsTimed cut → IsOrdered books ls
    in_order within t = record {
      time = t.time;
      ascends = λ b k less. t.ascends b k (let all = all_taken b in omega (arith, less, all));
      linked = λ i l there.
          (let there_is = (within i l there).3 in
          let all = all_taken l.later.book in
          (t.linked i l there (omega (arith, there_is, all))).1);
    }

pub ordered : NoneIsOrdered
ordered books n ls empty within none =
    let cut = last_cut books ls n in
    in_order books ls n empty cut (no_event books ls n cut (first_left books cut 0 n) none) within (timed books ls n cut (last_reached books ls n))
