-- Asks of two actors that may be exchanged come to the same in both orders.
use Rattle.std.proofs.Common.{◌≡◌, ◌⊎◌, inl, inr, ℕ, Bool, true, false, not, ◌&&◌, ◌||◌, ◌==◌, nat_lt, nat_le, List, length, if◌then◌else◌, refl, sym, ap, subst, ◌∙◌}
use Rattle.std.proofs.lemmas.Bool.{false≢true}
use Rattle.txs_world_protocol.specs.Ask.{may_add_event}
use Rattle.txs_world_protocol.specs.declared.ask.Ask.{Ask}
use Rattle.txs_world_protocol.specs.declared.ask.Ask.TheVariants as ask
use Rattle.txs_world_protocol.specs.declared.ask.Reply.{Reply}
use Rattle.txs_world_protocol.specs.declared.event.Event.{Event}
use Rattle.txs_value_data.proofs.SameLemmas.{and_both, numbers}
use Rattle.txs_value_cell.specs.declared.cell.CellDefinition.{CellDefinition}
use Rattle.txs_value_data.specs.declared.value.CellId.{CellId}
use Rattle.txs_world_book.specs.Book.{times_written, most_older}
use Rattle.txs_world_book.specs.Served.{Served}
use Rattle.txs_world.specs.Store.{taken_after}
use Rattle.txs_theorem_runs.specs.Shared.{Shared, book_for, serve_on, may_ask, shared_after}
use Rattle.txs_theorem_runs.proofs.Growing.{Serves}
use Rattle.txs_theorem_runs.proofs.Serving.{serves}
use Rattle.txs_explore.specs.Runners.{is_steady, may_exchange}
use Rattle.txs_explore.proofs.Careful.{turned_about}
use Rattle.txs_explore.proofs.Looking.{steady, leaves_here}
use Rattle.txs_explore.proofs.Marking.{Marks, marks_none, marks, marks_commute, marks_leave}

module _ (cells : List CellDefinition) (threads : ℕ) where
  -- whether the actor may ask this, what it is served, and what is shared behind it
  abbrev pub may : ℕ → Ask → Shared → Bool
  may a q sh = may_ask cells threads sh.taken a q (sh.books (book_for cells q))

  abbrev pub gets : ℕ → Ask → Shared → Served
  gets a q sh = serve_on cells a q (sh.books (book_for cells q))

  abbrev pub leaves : Bool → Ask → Served → Shared → Shared
  leaves true q v sh = shared_after cells q v sh
  leaves false q v sh = sh

  abbrev pub behind : ℕ → Ask → Shared → Shared
  behind a q sh = leaves (may a q sh) q (gets a q sh) sh

  -- an ask is answered the same behind another
  pub record Undisturbed (a : ℕ) (q : Ask) (sh later : Shared) : Type 0 where
    pub lawful : may_ask cells threads later.taken a q (later.books (book_for cells q)) ≡ may_ask cells threads sh.taken a q (sh.books (book_for cells q))
    pub heard : (serve_on cells a q (later.books (book_for cells q))).reply ≡ (serve_on cells a q (sh.books (book_for cells q))).reply

  -- two asks are answered the same in both orders, and come to the same
  pub record Exchange (a b : ℕ) (p q : Ask) (sh : Shared) : Type 0 where
    pub first : Undisturbed a p sh (behind b q sh)
    pub second : Undisturbed b q sh (behind a p sh)
    pub shared : behind b q (behind a p sh) ≡ behind a p (behind b q sh)

  -- ---- what is taken

  abbrev marked : Bool → Ask → Reply → List Bool → List Bool
  marked true q r t = taken_after q r t
  marked false q r t = t

  taken_is : (b : Bool) (q : Ask) (v : Served) (sh : Shared) → (leaves b q v sh).taken ≡ marked b q v.reply sh.taken
  taken_is true q v sh = refl
  taken_is false q v sh = refl

  is_marked : (a : ℕ) (q : Ask) (sh : Shared) (b : Bool) → may a q sh ≡ b → (r : Reply) → Marks cells threads a (marked b q r)
  is_marked a q sh true e r = marks cells threads a q r sh.taken (sh.books (book_for cells q)) e
  is_marked a q sh false e r = marks_none (λ t. refl)

  module _ (a b : ℕ) (d : (a == b) ≡ false) (p q : Ask) (sh : Shared) where
    same_taken : Undisturbed a p sh (behind b q sh) → Undisturbed b q sh (behind a p sh) → (behind b q (behind a p sh)).taken ≡ (behind a p (behind b q sh)).taken
    same_taken f s =
        taken_is (may b q (behind a p sh)) q (gets b q (behind a p sh)) (behind a p sh)
        ∙ ap (λ m. marked m q (gets b q (behind a p sh)).reply (behind a p sh).taken) s.lawful
        ∙ ap (λ r. marked (may b q sh) q r (behind a p sh).taken) s.heard
        ∙ ap (marked (may b q sh) q (gets b q sh).reply) (taken_is (may a p sh) p (gets a p sh) sh)
        ∙ marks_commute cells threads a b (marked (may a p sh) p (gets a p sh).reply) (marked (may b q sh) q (gets b q sh).reply) d
        (is_marked a p sh (may a p sh) refl (gets a p sh).reply) (is_marked b q sh (may b q sh) refl (gets b q sh).reply) sh.taken
        ∙ sym (taken_is (may a p (behind b q sh)) p (gets a p (behind b q sh)) (behind b q sh)
        ∙ ap (λ m. marked m p (gets a p (behind b q sh)).reply (behind b q sh).taken) f.lawful
        ∙ ap (λ r. marked (may a p sh) p r (behind b q sh).taken) f.heard
        ∙ ap (marked (may a p sh) p (gets a p sh).reply) (taken_is (may b q sh) q (gets b q sh) sh))

    exchange_by : (f : Undisturbed a p sh (behind b q sh)) (s : Undisturbed b q sh (behind a p sh))
        → ((n : ℕ) → (behind b q (behind a p sh)).books n ≡ (behind a p (behind b q sh)).books n) → Exchange a b p q sh
    exchange_by f s books = record { first = f; second = s; shared = λ i. record { books = λ n. books n i; taken = same_taken f s i } }

  -- ---- the books

  abbrev booked : Bool → ℕ → List Event → (ℕ → List Event) → ℕ → List Event
  booked true home es f n = if n == home then es else f n
  booked false home es f n = f n

  books_are : (b : Bool) (q : Ask) (v : Served) (sh : Shared) (n : ℕ) → (leaves b q v sh).books n ≡ booked b (book_for cells q) v.book sh.books n
  books_are true q v sh n = refl
  books_are false q v sh n = refl

  -- a book that an ask isn't for
  booked_other : (b : Bool) (home : ℕ) (es : List Event) (f : ℕ → List Event) (n : ℕ) → (n == home) ≡ false → booked b home es f n ≡ f n
  booked_other true home es f n e = ap (λ z. if z then es else f n) e
  booked_other false home es f n e = refl

  -- a book with what it had
  booked_same : (b : Bool) (home : ℕ) (es : List Event) (f : ℕ → List Event) (n : ℕ) → es ≡ f home → booked b home es f n ≡ f n
  booked_same true home es f n e = by (n == home) refl
    where
      by : (z : Bool) → (n == home) ≡ z → (if z then es else f n) ≡ f n
      by true q = e ∙ ap f (sym (numbers n home q))
      by false q = refl
  booked_same false home es f n e = refl

  booked_both : (b c : Bool) (g h : ℕ) (es fs : List Event) (f : ℕ → List Event) (n : ℕ) → (g == h) ≡ false → booked c h fs (booked b g es f) n ≡ booked b g es (booked c h fs f) n
  booked_both true true g h es fs f n d = by (n == h) (n == g) refl refl
    where
      by : (z w : Bool) → (n == h) ≡ z → (n == g) ≡ w → (if z then fs else (if w then es else f n)) ≡ (if w then es else (if z then fs else f n))
      by true true r s = absurd (false≢true (sym d ∙ ap (λ m. m == h) (sym (numbers n g s)) ∙ r))
      by true false r s = refl
      by false true r s = refl
      by false false r s = refl
  booked_both true false g h es fs f n d = refl
  booked_both false c g h es fs f n d = refl

  -- what is taken by another actor leaves what this one may ask of the same book
  may_beside : (a b : ℕ) → (a == b) ≡ false → (p q : Ask) (sh : Shared) (book : List Event) → may_ask cells threads (behind b q sh).taken a p book ≡ may_ask cells threads sh.taken a p book
  may_beside a b d p q sh book =
      ap (λ t. may_ask cells threads t a p book) (taken_is (may b q sh) q (gets b q sh) sh)
      ∙ marks_leave cells threads a b (marked (may b q sh) q (gets b q sh).reply) d (is_marked b q sh (may b q sh) refl (gets b q sh).reply) p sh.taken book

  -- an ask whose book is as it was
  undisturbed : (a b : ℕ) → (a == b) ≡ false → (p q : Ask) (sh : Shared) → (behind b q sh).books (book_for cells p) ≡ sh.books (book_for cells p) → Undisturbed a p sh (behind b q sh)
  undisturbed a b d p q sh e = record {
    lawful = ap (may_ask cells threads (behind b q sh).taken a p) e ∙ may_beside a b d p q sh (sh.books (book_for cells p));
    heard = ap (λ l. (serve_on cells a p l).reply) e;
  }

  -- ---- asks for different books

  pub by_books : (a b : ℕ) → (a == b) ≡ false → (p q : Ask) (sh : Shared) → (book_for cells p == book_for cells q) ≡ false → Exchange a b p q sh
  by_books a b d p q sh e =
      exchange_by a b d p q sh (undisturbed a b d p q sh behind_q) (undisturbed b a (turned_about a b d) q p sh behind_p) books
    where
      behind_q : (behind b q sh).books (book_for cells p) ≡ sh.books (book_for cells p)
      behind_q = books_are (may b q sh) q (gets b q sh) sh (book_for cells p) ∙ booked_other (may b q sh) (book_for cells q) (gets b q sh).book sh.books (book_for cells p) e

      behind_p : (behind a p sh).books (book_for cells q) ≡ sh.books (book_for cells q)
      behind_p = books_are (may a p sh) p (gets a p sh) sh (book_for cells q) ∙ booked_other (may a p sh) (book_for cells p) (gets a p sh).book sh.books (book_for cells q) (turned_about (book_for cells p) (book_for cells q) e)

      -- the books behind both, by the books at first
      behind_both : (i j : ℕ) → (i == j) ≡ false → (r s : Ask) → (behind i r sh).books (book_for cells s) ≡ sh.books (book_for cells s) → (n : ℕ)
          → (behind j s (behind i r sh)).books n ≡ booked (may j s sh) (book_for cells s) (gets j s sh).book (booked (may i r sh) (book_for cells r) (gets i r sh).book sh.books) n
      behind_both i j f r s at n =
          let u = undisturbed j i (turned_about i j f) s r sh at in
          books_are (may j s (behind i r sh)) s (gets j s (behind i r sh)) (behind i r sh) n
          ∙ ap (λ m. booked m (book_for cells s) (gets j s (behind i r sh)).book (behind i r sh).books n) u.lawful
          ∙ ap (λ l. booked (may j s sh) (book_for cells s) (serve_on cells j s l).book (behind i r sh).books n) at
          ∙ ap (λ g. booked (may j s sh) (book_for cells s) (gets j s sh).book g n) (λ k. λ m. books_are (may i r sh) r (gets i r sh) sh m k)

      books : (n : ℕ) → (behind b q (behind a p sh)).books n ≡ (behind a p (behind b q sh)).books n
      books n =
          behind_both a b d p q behind_p n
          ∙ booked_both (may a p sh) (may b q sh) (book_for cells p) (book_for cells q) (gets a p sh).book (gets b q sh).book sh.books n e
          ∙ sym (behind_both b a (turned_about a b d) q p behind_q n)

  -- ---- an ask that adds nothing, before another and behind it

  pub record IsStill (a b : ℕ) (p q : Ask) (sh : Shared) : Type 0 where
    pub before : (gets a p sh).book ≡ sh.books (book_for cells p)
    pub after : (gets a p (behind b q sh)).book ≡ (behind b q sh).books (book_for cells p)
    pub same : Undisturbed a p sh (behind b q sh)

  pub by_still : (a b : ℕ) → (a == b) ≡ false → (p q : Ask) (sh : Shared) → IsStill a b p q sh → Exchange a b p q sh
  by_still a b d p q sh s = exchange_by a b d p q sh s.same second books
    where
      -- the books behind it are those before it
      before : (n : ℕ) → (behind a p sh).books n ≡ sh.books n
      before n = books_are (may a p sh) p (gets a p sh) sh n ∙ booked_same (may a p sh) (book_for cells p) (gets a p sh).book sh.books n s.before

      after : (n : ℕ) → (behind a p (behind b q sh)).books n ≡ (behind b q sh).books n
      after n =
          books_are (may a p (behind b q sh)) p (gets a p (behind b q sh)) (behind b q sh) n
          ∙ booked_same (may a p (behind b q sh)) (book_for cells p) (gets a p (behind b q sh)).book (behind b q sh).books n s.after

      second : Undisturbed b q sh (behind a p sh)
      second = undisturbed b a (turned_about a b d) q p sh (before (book_for cells q))

      books : (n : ℕ) → (behind b q (behind a p sh)).books n ≡ (behind a p (behind b q sh)).books n
      books n =
          books_are (may b q (behind a p sh)) q (gets b q (behind a p sh)) (behind a p sh) n
          ∙ ap (λ m. booked m (book_for cells q) (gets b q (behind a p sh)).book (behind a p sh).books n) second.lawful
          ∙ ap (λ g. booked (may b q sh) (book_for cells q) (serve_on cells b q (g (book_for cells q))).book g n) (λ k. λ m. before m k)
          ∙ sym (books_are (may b q sh) q (gets b q sh) sh n)
          ∙ sym (after n)

  pub turned_exchange : (a b : ℕ) (p q : Ask) (sh : Shared) → Exchange b a q p sh → Exchange a b p q sh
  turned_exchange a b p q sh e = record { first = e.second; second = e.first; shared = sym e.shared }

  -- ---- two that add nothing

  -- an ask that never adds an event leaves its book
  still_book : (a : ℕ) (q : Ask) (book : List Event) → not (may_add_event q) ≡ true → (serve_on cells a q book).book ≡ book
  still_book a ask.Begin book e = refl
  still_book a (ask.Look c at) book e = absurd (false≢true e)
  still_book a (ask.View cs) book e = refl
  still_book a (ask.Commit at sets ensured view commuted sends) book e = absurd (false≢true e)
  still_book a (ask.Fail at view) book e = absurd (false≢true e)
  still_book a (ask.Peek c) book e = absurd (false≢true e)
  still_book a (ask.Send x) book e = absurd (false≢true e)
  still_book a (ask.Take g) book e = refl
  still_book a (ask.Finish g new sends) book e = absurd (false≢true e)
  still_book a (ask.OpenAt c) book e = refl
  still_book a (ask.CloseAt c at new) book e = absurd (false≢true e)
  still_book a (ask.Broke c at) book e = absurd (false≢true e)

  pub both_still : (a b : ℕ) → (a == b) ≡ false → (p q : Ask) (sh : Shared) → not (may_add_event p) ≡ true → not (may_add_event q) ≡ true → IsStill a b p q sh
  both_still a b d p q sh e f = record {
    before = still_book a p (sh.books (book_for cells p)) e;
    after = still_book a p ((behind b q sh).books (book_for cells p)) e;
    same = undisturbed a b d p q sh
        (books_are (may b q sh) q (gets b q sh) sh (book_for cells p)
        ∙ booked_same (may b q sh) (book_for cells q) (gets b q sh).book sh.books (book_for cells p) (still_book b q (sh.books (book_for cells q)) f));
  }

  -- ---- a read of a kept value

  -- of the same book
  module _ (a b : ℕ) (d : (a == b) ≡ false) (c : CellId) (at : ℕ) (q : Ask) (sh : Shared) (home : 0 ≡ book_for cells q)
      (there : nat_le at (length (sh.books 0)) ≡ true) (kept : nat_lt (times_written c.number at (sh.books 0)) most_older ≡ true) where
    -- the book behind the other's ask
    later : (m : Bool) → may b q sh ≡ m → (behind b q sh).books 0 ≡ (if m then (gets b q sh).book else sh.books 0)
    later m e = ap (λ z. (leaves z q (gets b q sh) sh).books 0) e ∙ at_home m
      where
        at_home : (m : Bool) → (leaves m q (gets b q sh) sh).books 0 ≡ (if m then (gets b q sh).book else sh.books 0)
        at_home true = ap (λ n. if 0 == n then (gets b q sh).book else sh.books 0) (sym home)
        at_home false = refl

    -- what it is, whichever book the read finds
    is_read : (book : List Event) → (behind b q sh).books 0 ≡ book
        → (serve_on cells a (ask.Look c at) book).book ≡ book
        → (serve_on cells a (ask.Look c at) book).reply ≡ (serve_on cells a (ask.Look c at) (sh.books 0)).reply
        → ((taken : List Bool) → may_ask cells threads taken a (ask.Look c at) book ≡ may_ask cells threads taken a (ask.Look c at) (sh.books 0))
        → IsStill a b (ask.Look c at) q sh
    is_read book e l r m = record {
      before = leaves_here cells threads a b (turned_about a b d) c at (sh.books 0) there kept;
      after = ap (λ k. (serve_on cells a (ask.Look c at) k).book) e ∙ l ∙ sym e;
      same = record {
        lawful = ap (may_ask cells threads (behind b q sh).taken a (ask.Look c at)) e ∙ m (behind b q sh).taken ∙ may_beside a b d (ask.Look c at) q sh (sh.books 0);
        heard = ap (λ k. (serve_on cells a (ask.Look c at) k).reply) e ∙ r;
      };
    }

    pub read_still : IsStill a b (ask.Look c at) q sh
    read_still = by (may b q sh) refl
      where
        by : (m : Bool) → may b q sh ≡ m → IsStill a b (ask.Look c at) q sh
        by true e =
            let k = steady cells threads a b (turned_about a b d) c at (sh.books 0) there kept (gets b q sh) (subst (λ n. Serves b (sh.books n) (gets b q sh)) (sym home) (serves b (sh.books (book_for cells q)) cells q)) in
            is_read (gets b q sh).book (later true e) k.leaves k.same k.may
        by false e = is_read (sh.books 0) (later false e) (leaves_here cells threads a b (turned_about a b d) c at (sh.books 0) there kept) refl (λ t. refl)

  pub steady_still : (a b : ℕ) → (a == b) ≡ false → (p q : Ask) (sh : Shared) → book_for cells p ≡ book_for cells q → is_steady (sh.books (book_for cells p)) p ≡ true → IsStill a b p q sh
  steady_still a b d ask.Begin q sh home e = absurd (false≢true e)
  steady_still a b d (ask.Look c at) q sh home e =
      let h = and_both (nat_le at (length (sh.books 0))) (nat_lt (times_written c.number at (sh.books 0)) most_older) e in
      read_still a b d c at q sh home h.0 h.1
  steady_still a b d (ask.View cs) q sh home e = absurd (false≢true e)
  steady_still a b d (ask.Commit at sets ensured view commuted sends) q sh home e = absurd (false≢true e)
  steady_still a b d (ask.Fail at view) q sh home e = absurd (false≢true e)
  steady_still a b d (ask.Peek c) q sh home e = absurd (false≢true e)
  steady_still a b d (ask.Send x) q sh home e = absurd (false≢true e)
  steady_still a b d (ask.Take g) q sh home e = absurd (false≢true e)
  steady_still a b d (ask.Finish g new sends) q sh home e = absurd (false≢true e)
  steady_still a b d (ask.OpenAt c) q sh home e = absurd (false≢true e)
  steady_still a b d (ask.CloseAt c at new) q sh home e = absurd (false≢true e)
  steady_still a b d (ask.Broke c at) q sh home e = absurd (false≢true e)

  -- ---- all of them

  or_cases : (b c : Bool) → (b || c) ≡ true → (b ≡ true) ⊎ ((b ≡ false) × (c ≡ true))
  or_cases true c h = inl refl
  or_cases false c h = inr (refl, h)

  same_home : (m n : ℕ) (b : Bool) → (m == n) ≡ b → not b ≡ false → m ≡ n
  same_home m n true e h = numbers m n e
  same_home m n false e h = absurd (false≢true (sym h))

  other_home : (b : Bool) → not b ≡ true → b ≡ false
  other_home true h = absurd (false≢true h)
  other_home false h = refl

  pub exchange : (a b : ℕ) → (a == b) ≡ false → (p q : Ask) (sh : Shared) → may_exchange cells sh p q ≡ true → Exchange a b p q sh
  exchange a b d p q sh m = by (or_cases (not (book_for cells p == book_for cells q))
      ((not (may_add_event p) && not (may_add_event q)) || (is_steady (sh.books (book_for cells p)) p || is_steady (sh.books (book_for cells q)) q)) m)
    where
      by_look : book_for cells p ≡ book_for cells q → (is_steady (sh.books (book_for cells p)) p ≡ true) ⊎ ((is_steady (sh.books (book_for cells p)) p ≡ false) × (is_steady (sh.books (book_for cells q)) q ≡ true)) → Exchange a b p q sh
      by_look home (inl e) = by_still a b d p q sh (steady_still a b d p q sh home e)
      by_look home (inr e) = turned_exchange a b p q sh (by_still b a (turned_about a b d) q p sh (steady_still b a (turned_about a b d) q p sh (sym home) e.1))

      by_book : book_for cells p ≡ book_for cells q → ((not (may_add_event p) && not (may_add_event q)) ≡ true) ⊎ (((not (may_add_event p) && not (may_add_event q)) ≡ false) × ((is_steady (sh.books (book_for cells p)) p || is_steady (sh.books (book_for cells q)) q) ≡ true)) → Exchange a b p q sh
      by_book home (inl e) = let h = and_both (not (may_add_event p)) (not (may_add_event q)) e in by_still a b d p q sh (both_still a b d p q sh h.0 h.1)
      by_book home (inr e) = by_look home (or_cases (is_steady (sh.books (book_for cells p)) p) (is_steady (sh.books (book_for cells q)) q) e.1)

      by : (not (book_for cells p == book_for cells q) ≡ true) ⊎ ((not (book_for cells p == book_for cells q) ≡ false) × (((not (may_add_event p) && not (may_add_event q)) || (is_steady (sh.books (book_for cells p)) p || is_steady (sh.books (book_for cells q)) q)) ≡ true)) → Exchange a b p q sh
      by (inl e) = by_books a b d p q sh (other_home (book_for cells p == book_for cells q) e)
      by (inr e) = by_book (same_home (book_for cells p) (book_for cells q) (book_for cells p == book_for cells q) refl e.0)
          (or_cases (not (may_add_event p) && not (may_add_event q)) (is_steady (sh.books (book_for cells p)) p || is_steady (sh.books (book_for cells q)) q) e.1)
