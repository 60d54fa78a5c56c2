-- Times of events: a number for each place of the books. Of places where no event is yet it is the next time that is free, so that what comes there later is later
-- than all that is there.
use Rattle.std.proofs.Common.{◌≡◌, ◌<◌, ◌≤◌, ℕ, suc, Bool, true, false, ◌&&◌, ◌==◌, nat_lt, List, [], ◌∷◌, ◌++◌, length, if◌then◌else◌, refl, sym, ap, ◌∙◌, subst, arith}
use Rattle.std.proofs.lemmas.Bool.Decides.{nat_tests}
use Rattle.txs_world_protocol.specs.declared.event.Event.{Event}
use Rattle.txs_value_data.proofs.SameLemmas.{numbers, number-itself}
use Rattle.txs_theorem_runs.specs.Told.{Place}

abbrev pub Time : Type 0
Time = ℕ → ℕ → ℕ

-- one place has a lesser time than another
abbrev pub Before : Time → Place → Place → Type 0
Before time p q = time p.book p.at < time q.book q.at

-- so each of these
abbrev pub AllBefore : Time → List Place → Place → Type 0
AllBefore time [] q = Unit {0}
AllBefore time (p ∷ ps) q = Before time p q × AllBefore time ps q

-- a place that has an event already
abbrev pub IsPast : Time → ℕ → Place → Type 0
IsPast time now p = time p.book p.at < now

abbrev pub AllPast : Time → ℕ → List Place → Type 0
AllPast time now [] = Unit {0}
AllPast time now (p ∷ ps) = IsPast time now p × AllPast time now ps

-- the times of what is in the books, all before now; where nothing is yet it is now
pub record Times (books : ℕ → List Event) (time : Time) (now : ℕ) : Type 0 where
  pub there : (b k : ℕ) → k < length (books b) → time b k < now
  pub beyond : (b k : ℕ) → length (books b) ≤ k → time b k ≡ now
  pub ascends : (b k : ℕ) → suc k < length (books b) → time b k < time b (suc k)

-- what was before another is so later
abbrev pub AreKept : Time → Time → Type 0
AreKept time later = (b k c l : ℕ) → time b k < time c l → later b k < later c l

pub all_kept : (time later : Time) → AreKept time later → (ps : List Place) (q : Place) → AllBefore time ps q → AllBefore later ps q
all_kept time later kept [] q h = tt
all_kept time later kept (p ∷ ps) q h = (kept p.book p.at q.book q.at h.0, all_kept time later kept ps q h.1)

-- all that is past is before what is now
pub past_before : (time : Time) (now : ℕ) (ps : List Place) (q : Place) → time q.book q.at ≡ now → AllPast time now ps → AllBefore time ps q
past_before time now [] q e h = tt
past_before time now (p ∷ ps) q e h = (subst (λ n. time p.book p.at < n) (sym e) h.0, past_before time now ps q e h.1)

-- ---- one more event

-- the times after one more event of a book
abbrev pub next_time : (ℕ → List Event) → Time → ℕ → ℕ → Time
next_time books time now home b k = if b == home && k == length (books home) then now else (if nat_lt k (length (books b)) then time b k else suc now)

-- a book has one event more, the others are as they were
pub record OneMore (books later : ℕ → List Event) (home : ℕ) (e : Event) : Type 0 where
  pub here : later home ≡ books home ++ e ∷ []
  pub others : (b : ℕ) → (b == home) ≡ false → later b ≡ books b

pub length_more : (xs : List Event) (e : Event) → length (xs ++ e ∷ []) ≡ suc (length xs)
length_more [] e = refl
length_more (x ∷ xs) e = ap suc (length_more xs e)

module _ (books : ℕ → List Event) (time : Time) (now : ℕ) (home : ℕ) (t : Times books time now) where
  abbrev next : Time
  next = next_time books time now home

  -- what was there keeps its time
  next_there : (b k : ℕ) → k < length (books b) → next b k ≡ time b k
  next_there b k h = go (b == home) refl
    where
      less : nat_lt k (length (books b)) ≡ true
      less = grind (arith, nat_tests, h)

      inside : (if nat_lt k (length (books b)) then time b k else suc now) ≡ time b k
      inside = ap (λ c. if c then time b k else suc now) less

      go : (c : Bool) → (b == home) ≡ c → (if c && k == length (books home) then now else (if nat_lt k (length (books b)) then time b k else suc now)) ≡ time b k
      go false e = inside
      go true e =
          let same : b ≡ home = numbers b home e in
          let l : length (books b) ≡ length (books home) = ap (λ i. length (books i)) same in
          let no_end : (k == length (books home)) ≡ false = grind (arith, nat_tests, h, l) in
          ap (λ c. if c then now else (if nat_lt k (length (books b)) then time b k else suc now)) no_end ∙ inside

  -- the new event has the time that was free
  pub next_new : next home (length (books home)) ≡ now
  next_new =
      ap (λ c. if c && length (books home) == length (books home) then now else (if nat_lt (length (books home)) (length (books home)) then time home (length (books home)) else suc now)) (number-itself home)
      ∙ ap (λ c. if c then now else (if nat_lt (length (books home)) (length (books home)) then time home (length (books home)) else suc now)) (number-itself (length (books home)))

  -- what wasn't there has no earlier time
  next_beyond : (b k : ℕ) → length (books b) ≤ k → now ≤ next b k
  next_beyond b k h = go (b == home && k == length (books home))
    where
      beyond : nat_lt k (length (books b)) ≡ false
      beyond = grind (arith, nat_tests, h)

      go : (c : Bool) → now ≤ (if c then now else (if nat_lt k (length (books b)) then time b k else suc now))
      go true = omega arith
      go false = subst (λ c. now ≤ (if c then time b k else suc now)) (sym beyond) (omega arith)

  pub next_kept : AreKept time next
  next_kept b k c l h = from (nat_lt k (length (books b))) refl
    where
      to : k < length (books b) → (s : Bool) → nat_lt l (length (books c)) ≡ s → next b k < next c l
      to there true e =
          let inside : l < length (books c) = grind (arith, nat_tests, e) in
          subst (λ n. n < next c l) (sym (next_there b k there)) (subst (λ n. time b k < n) (sym (next_there c l inside)) h)
      to there false e =
          let outside : length (books c) ≤ l = grind (arith, nat_tests, e) in
          let late = next_beyond c l outside in
          let early = t.there b k there in
          let same = next_there b k there in
          omega (arith, late, early, same)

      from : (s : Bool) → nat_lt k (length (books b)) ≡ s → next b k < next c l
      from true e =
          let inside : k < length (books b) = grind (arith, nat_tests, e) in
          to inside (nat_lt l (length (books c))) refl
      from false e =
          let outside : length (books b) ≤ k = grind (arith, nat_tests, e) in
          let first = t.beyond b k outside in
          absurd (too_late (nat_lt l (length (books c))) refl first)
        where
          too_late : (s : Bool) → nat_lt l (length (books c)) ≡ s → time b k ≡ now → ⊥
          too_late true e1 f =
              let inside : l < length (books c) = grind (arith, nat_tests, e1) in
              let early = t.there c l inside in
              omega (arith, early, f, h)
          too_late false e1 f =
              let outside : length (books c) ≤ l = grind (arith, nat_tests, e1) in
              let late = t.beyond c l outside in
              omega (arith, late, f, h)

  module _ (later : ℕ → List Event) (e : Event) (m : OneMore books later home e) where
    here_long : length (later home) ≡ suc (length (books home))
    here_long = ap length m.here ∙ length_more (books home) e

    -- a place of the later books was there, or is the new one
    data Place_of (b k : ℕ) : Type 0 where
      old : k < length (books b) → Place_of b k
      new : b ≡ home → k ≡ length (books home) → Place_of b k

    place_of : (b k : ℕ) → k < length (later b) → Place_of b k
    place_of b k h = go (b == home) refl
      where
        go : (c : Bool) → (b == home) ≡ c → Place_of b k
        go false f = old (subst (λ l. k < length l) (m.others b f) h)
        go true f = at (nat_lt k (length (books b))) refl
          where
            same : b ≡ home
            same = numbers b home f

            at : (c : Bool) → nat_lt k (length (books b)) ≡ c → Place_of b k
            at true g = old (grind (arith, nat_tests, g))
            at false g =
                let long : k < length (later home) = subst (λ i. k < length (later i)) same h in
                let l : length (books b) ≡ length (books home) = ap (λ i. length (books i)) same in
                new same (grind (arith, nat_tests, g, long, here_long, l))

    pub next_times : Times later next (suc now)
    next_times = record { there = there; beyond = beyond; ascends = ascends }
      where
        there : (b k : ℕ) → k < length (later b) → next b k < suc now
        there b k h = go (place_of b k h)
          where
            go : Place_of b k → next b k < suc now
            go (old l) =
                let same = next_there b k l in
                let early = t.there b k l in
                omega (arith, same, early)
            go (new f g) =
                let same : next b k ≡ now = ap (λ i. next i k) f ∙ ap (λ i. next home i) g ∙ next_new in
                omega (arith, same)

        beyond : (b k : ℕ) → length (later b) ≤ k → next b k ≡ suc now
        beyond b k h = go (b == home) refl
          where
            outside : length (books b) ≤ k → (if nat_lt k (length (books b)) then time b k else suc now) ≡ suc now
            outside l =
                let not_less : nat_lt k (length (books b)) ≡ false = grind (arith, nat_tests, l) in
                ap (λ c. if c then time b k else suc now) not_less

            go : (c : Bool) → (b == home) ≡ c → (if c && k == length (books home) then now else (if nat_lt k (length (books b)) then time b k else suc now)) ≡ suc now
            go false f = outside (subst (λ l. length l ≤ k) (m.others b f) h)
            go true f =
                let same : b ≡ home = numbers b home f in
                let long : length (later home) ≤ k = subst (λ i. length (later i) ≤ k) same h in
                let l : length (books b) ≡ length (books home) = ap (λ i. length (books i)) same in
                let no_end : (k == length (books home)) ≡ false = grind (arith, nat_tests, long, here_long) in
                ap (λ c. if c then now else (if nat_lt k (length (books b)) then time b k else suc now)) no_end ∙ outside (omega (arith, long, l, here_long))

        ascends : (b k : ℕ) → suc k < length (later b) → next b k < next b (suc k)
        ascends b k h = go (place_of b (suc k) h)
          where
            go : Place_of b (suc k) → next b k < next b (suc k)
            go (old l) = next_kept b k b (suc k) (t.ascends b k l)
            go (new f g) =
                let l : length (books b) ≡ length (books home) = ap (λ i. length (books i)) f in
                let inside : k < length (books b) = omega (arith, g, l) in
                let same = next_there b k inside in
                let early = t.there b k inside in
                let last : next b (suc k) ≡ now = ap (λ i. next i (suc k)) f ∙ ap (λ i. next home i) g ∙ next_new in
                omega (arith, same, early, last)
