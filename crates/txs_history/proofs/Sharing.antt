-- What is shared after a history that goes on.
use Rattle.std.proofs.Common.{◌≡◌, ◌==◌, ℕ, zero, suc, Bool, true, false, List, [], ◌∷◌, ◌++◌, if◌then◌else◌, refl, ap, sym, ◌∙◌, subst, arith, append_assoc}
use Rattle.std.proofs.lemmas.List.{append-nil}
use Rattle.std.proofs.lemmas.Bool.Decides.{nat_tests}
use mathlib.Core.List.{IsPrefix}
use Rattle.txs_world_protocol.specs.declared.ask.Ask.{Ask}
use Rattle.txs_world_protocol.specs.declared.ask.Ask.TheVariants as ask
use Rattle.txs_world_protocol.specs.declared.ask.Reply.{Reply}
use Rattle.txs_world_protocol.specs.declared.event.Event.{Event}
use Rattle.txs_value_cell.specs.declared.cell.CellDefinition.{CellDefinition}
use Rattle.txs_world_book.specs.Served.{cells_of}
use Rattle.txs_world.specs.Store.{none_taken, taken_after}
use Rattle.txs_history.specs.declared.log.Entry.TheVariants as entry
use Rattle.txs_history.specs.History.{events_of}
use Rattle.txs_history.proofs.Beginnings.{events_append}
use Rattle.txs_theorem_runs.specs.Shared.{Shared, book_for, serve_on, shared_after}
use Rattle.txs_theorem_runs.specs.Told.{AllHold, trace_of}
use Rattle.txs_theorem_runs.specs.Told as told
use Rattle.txs_theorem_runs.proofs.Growing.{AreOwn, Grown, all_stay, trace_stays}
use Rattle.txs_theorem_runs.proofs.Serving.{serves}
use Rattle.txs_history.specs.declared.asked.Asked.{Asked}
use Rattle.txs_history.specs.Asked.{History, book_by, taken_by, shared_by}

eq_self : (n : ℕ) → (n == n) ≡ true
eq_self n = grind (arith, nat_tests)

-- ---- asks under one lock, one after another

book_append : (cells : List CellDefinition) (xs ys : List Asked) (b : List Event) → book_by cells (xs ++ ys) b ≡ book_by cells ys (book_by cells xs b)
book_append cells [] ys b = refl
book_append cells (x ∷ xs) ys b = book_append cells xs ys (serve_on cells x.actor x.ask b).book

taken_append : (cells : List CellDefinition) (xs ys : List Asked) (b : List Event) (t : List Bool) → taken_by cells (xs ++ ys) b t ≡ taken_by cells ys (book_by cells xs b) (taken_by cells xs b t)
taken_append cells [] ys b t = refl
taken_append cells (x ∷ xs) ys b t = taken_append cells xs ys (serve_on cells x.actor x.ask b).book (taken_after x.ask (serve_on cells x.actor x.ask b).reply t)

-- what is asked of an atom takes no action
pub taken_keeps : (cells : List CellDefinition) (q : Ask) (n : ℕ) (r : Reply) (t : List Bool) → book_for cells q ≡ suc n → taken_after q r t ≡ t
taken_keeps cells ask.Begin n r t is = refl
taken_keeps cells (ask.Look c at) n r t is = refl
taken_keeps cells (ask.View cs) n r t is = refl
taken_keeps cells (ask.Commit at sets ensured view commuted sends) n r t is = refl
taken_keeps cells (ask.Fail at view) n r t is = refl
taken_keeps cells (ask.Peek c) n r t is = refl
taken_keeps cells (ask.Send x) n r t is = refl
taken_keeps cells (ask.Take g) n r t is = absurd (cc is)
taken_keeps cells (ask.Finish g new sends) n r t is = absurd (cc is)
taken_keeps cells (ask.OpenAt c) n r t is = refl
taken_keeps cells (ask.CloseAt c at new) n r t is = refl
taken_keeps cells (ask.Broke c at) n r t is = refl

-- ---- the events of a lock

events_own : (h : History) (k : ℕ) (e : Asked) → events_of k (h ++ entry.Event k e ∷ []) ≡ events_of k h ++ e ∷ []
events_own h k e = events_append k h (entry.Event k e ∷ []) ∙ ap (λ t. events_of k h ++ (if t then e ∷ [] else [])) (eq_self k)

events_other : (h : History) (k n : ℕ) (e : Asked) → (k == n) ≡ false → events_of n (h ++ entry.Event k e ∷ []) ≡ events_of n h
events_other h k n e away = events_append n h (entry.Event k e ∷ []) ∙ (ap (λ t. events_of n h ++ (if t then e ∷ [] else [])) away ∙ append-nil (events_of n h))

module _ (cells : List CellDefinition) where
  -- ---- the books

  -- the book of a lock is that of its asks alone
  pub book_same : (k : ℕ) (h g : History) → events_of k h ≡ events_of k g → (shared_by cells h).books k ≡ (shared_by cells g).books k
  book_same k h g same = ap (λ es. book_by cells es []) same

  pub taken_same : (h g : History) → events_of 0 h ≡ events_of 0 g → (shared_by cells h).taken ≡ (shared_by cells g).taken
  taken_same h g same = ap (λ es. taken_by cells es [] (none_taken (cells_of cells))) same

  -- an ask under a lock is served by its book
  pub book_next : (h : History) (k : ℕ) (e : Asked) → (shared_by cells (h ++ entry.Event k e ∷ [])).books k ≡ (serve_on cells e.actor e.ask ((shared_by cells h).books k)).book
  book_next h k e = ap (λ es. book_by cells es []) (events_own h k e) ∙ book_append cells (events_of k h) (e ∷ []) []

  -- and leaves the others
  pub book_other : (h : History) (k n : ℕ) (e : Asked) → (k == n) ≡ false → (shared_by cells (h ++ entry.Event k e ∷ [])).books n ≡ (shared_by cells h).books n
  book_other h k n e away = book_same n (h ++ entry.Event k e ∷ []) h (events_other h k n e away)

  pub taken_next : (h : History) (e : Asked)
      → (shared_by cells (h ++ entry.Event 0 e ∷ [])).taken ≡ taken_after e.ask (serve_on cells e.actor e.ask ((shared_by cells h).books 0)).reply (shared_by cells h).taken
  taken_next h e =
      ap (λ es. taken_by cells es [] (none_taken (cells_of cells))) (events_own h 0 e) ∙ taken_append cells (events_of 0 h) (e ∷ []) [] (none_taken (cells_of cells))

  pub taken_other : (h : History) (k : ℕ) (e : Asked) → (k == 0) ≡ false → (shared_by cells (h ++ entry.Event k e ∷ [])).taken ≡ (shared_by cells h).taken
  taken_other h k e away = taken_same (h ++ entry.Event k e ∷ []) h (events_other h k 0 e away)

  -- ---- all that is shared

  abbrev shared : (ℕ → List Event) → List Bool → Shared
  shared b t = record { books = b; taken = t }

  same_shared : (b c : ℕ → List Event) (t u : List Bool) → ((n : ℕ) → b n ≡ c n) → t ≡ u → shared b t ≡ shared c u
  same_shared b c t u books taken =
      let all : b ≡ c = λ i. λ n. books n i in
      ap (λ (d : ℕ → List Event). shared d t) all ∙ ap (λ (v : List Bool). shared c v) taken

  book_case : (h : History) (k : ℕ) (e : Asked) (n : ℕ) (is : Bool) → (n == k) ≡ is
      → (shared_by cells (h ++ entry.Event k e ∷ [])).books n ≡ (if is then (serve_on cells e.actor e.ask ((shared_by cells h).books k)).book else (shared_by cells h).books n)
  book_case h k e n true is =
      let same : k ≡ n = grind (arith, nat_tests, is) in
      subst (λ (j : ℕ). (shared_by cells (h ++ entry.Event k e ∷ [])).books j ≡ (serve_on cells e.actor e.ask ((shared_by cells h).books k)).book) same (book_next h k e)
  book_case h k e n false is =
      let away : (k == n) ≡ false = grind (arith, nat_tests, is) in
      book_other h k n e away

  taken_case : (h : History) (k : ℕ) (e : Asked) → k ≡ book_for cells e.ask
      → (shared_by cells (h ++ entry.Event k e ∷ [])).taken ≡ taken_after e.ask (serve_on cells e.actor e.ask ((shared_by cells h).books k)).reply (shared_by cells h).taken
  taken_case h zero e home = taken_next h e
  taken_case h (suc n) e home =
      let away : (suc n == 0) ≡ false = grind (arith, nat_tests) in
      taken_other h (suc n) e away ∙ sym (taken_keeps cells e.ask n (serve_on cells e.actor e.ask ((shared_by cells h).books (suc n))).reply (shared_by cells h).taken (sym home))

  -- an ask under the lock of the book that answers it is served by all that is shared
  pub shared_next : (h : History) (k : ℕ) (e : Asked) → k ≡ book_for cells e.ask
      → shared_by cells (h ++ entry.Event k e ∷ []) ≡ shared_after cells e.ask (serve_on cells e.actor e.ask ((shared_by cells h).books k)) (shared_by cells h)
  shared_next h k e home =
      let v = serve_on cells e.actor e.ask ((shared_by cells h).books k) in
      same_shared (shared_by cells (h ++ entry.Event k e ∷ [])).books (shared_after cells e.ask v (shared_by cells h)).books
      (shared_by cells (h ++ entry.Event k e ∷ [])).taken (shared_after cells e.ask v (shared_by cells h)).taken
      (λ n. subst (λ (j : ℕ). (shared_by cells (h ++ entry.Event k e ∷ [])).books n ≡ (if n == j then v.book else (shared_by cells h).books n)) home (book_case h k e n (n == k) refl))
      (taken_case h k e home)

  -- the number of locks changes nothing
  pub locks_next : (h : History) (n : ℕ) → shared_by cells (h ++ entry.Locks n ∷ []) ≡ shared_by cells h
  locks_next h n =
      let none : (k : ℕ) → events_of k (h ++ entry.Locks n ∷ []) ≡ events_of k h = λ k. events_append k h (entry.Locks n ∷ []) ∙ append-nil (events_of k h) in
      same_shared (shared_by cells (h ++ entry.Locks n ∷ [])).books (shared_by cells h).books (shared_by cells (h ++ entry.Locks n ∷ [])).taken (shared_by cells h).taken
      (λ k. book_same k (h ++ entry.Locks n ∷ []) h (none k)) (taken_same (h ++ entry.Locks n ∷ []) h (none 0))

  -- ---- the books grow

  grown_case : (h : History) (k : ℕ) (e : Asked) (n : ℕ) (is : Bool) → (n == k) ≡ is
      → (shared_by cells (h ++ entry.Event k e ∷ [])).books n ≡ (shared_by cells h).books n ++ (if is then (serves e.actor ((shared_by cells h).books k) cells e.ask).more else [])
  grown_case h k e n true is =
      let same : k ≡ n = grind (arith, nat_tests, is) in
      let s = serves e.actor ((shared_by cells h).books k) cells e.ask in
      subst (λ (j : ℕ). (shared_by cells (h ++ entry.Event k e ∷ [])).books j ≡ (shared_by cells h).books j ++ s.more) same (book_next h k e ∙ s.grown)
  grown_case h k e n false is =
      let away : (k == n) ≡ false = grind (arith, nat_tests, is) in
      book_other h k n e away ∙ sym (append-nil ((shared_by cells h).books n))

  own_case : (h : History) (k : ℕ) (e : Asked) (is : Bool) → AreOwn e.actor (if is then (serves e.actor ((shared_by cells h).books k) cells e.ask).more else [])
  own_case h k e true = (serves e.actor ((shared_by cells h).books k) cells e.ask).own
  own_case h k e false = tt

  -- an ask adds events of its actor at most
  pub grown_next : (h : History) (k : ℕ) (e : Asked) → Grown e.actor (shared_by cells h).books (shared_by cells (h ++ entry.Event k e ∷ [])).books
  grown_next h k e = record {
    more = λ n. if n == k then (serves e.actor ((shared_by cells h).books k) cells e.ask).more else [];
    grown = λ n. grown_case h k e n (n == k) refl;
    own = λ n. own_case h k e (n == k);
  }

  -- what goes on where one entry is added goes on where a history goes on
  along : (P : (ℕ → List Event) → Type 0) → ((h : History) (k : ℕ) (e : Asked) → P (shared_by cells h).books → P (shared_by cells (h ++ entry.Event k e ∷ [])).books)
      → (h rest : History) → P (shared_by cells h).books → P (shared_by cells (h ++ rest)).books
  along P step h [] p = subst (λ (l : History). P (shared_by cells l).books) (sym (append-nil h)) p
  along P step h (entry.Locks n ∷ rest) p =
      subst (λ (l : History). P (shared_by cells l).books) (append_assoc h (entry.Locks n ∷ []) rest)
      (along P step (h ++ entry.Locks n ∷ []) rest (subst (λ (sh : Shared). P sh.books) (sym (locks_next h n)) p))
  along P step h (entry.Event k e ∷ rest) p =
      subst (λ (l : History). P (shared_by cells l).books) (append_assoc h (entry.Event k e ∷ []) rest) (along P step (h ++ entry.Event k e ∷ []) rest (step h k e p))

  pub along_prefix : (P : (ℕ → List Event) → Type 0) → ((h : History) (k : ℕ) (e : Asked) → P (shared_by cells h).books → P (shared_by cells (h ++ entry.Event k e ∷ [])).books)
      → (h g : History) → IsPrefix h g → P (shared_by cells h).books → P (shared_by cells g).books
  along_prefix P step h g p was = subst (λ (l : History). P (shared_by cells l).books) p.1 (along P step h p.0 was)

  -- so each book goes on from what it was
  pub books_grow : (h g : History) → IsPrefix h g → (n : ℕ) → IsPrefix ((shared_by cells h).books n) ((shared_by cells g).books n)
  books_grow h g p n =
      let b = (shared_by cells h).books n in
      along_prefix (λ bs. IsPrefix b (bs n))
      (λ l k e was. (
        was.0 ++ (grown_next l k e).more n,
        sym (append_assoc b was.0 ((grown_next l k e).more n)) ∙ (ap (λ es. es ++ (grown_next l k e).more n) was.1 ∙ sym ((grown_next l k e).grown n)),
      ))
      h g p ([], append-nil b)

  -- entries that hold go on to hold, and add the events that they added
  abbrev Stays : ℕ → ℕ → List told.Entry → (ℕ → List Event) → (ℕ → List Event) → Type 0
  Stays threads b es books later = AllHold cells threads later b es × (trace_of cells later b es ≡ trace_of cells books b es)

  pub hold_on : (threads b : ℕ) (es : List told.Entry) (h g : History) → IsPrefix h g → AllHold cells threads (shared_by cells h).books b es
      → AllHold cells threads (shared_by cells g).books b es × (trace_of cells (shared_by cells g).books b es ≡ trace_of cells (shared_by cells h).books b es)
  hold_on threads b es h g p hold =
      along_prefix (λ bs. Stays threads b es (shared_by cells h).books bs)
      (λ l k e was. (
        all_stay cells threads e.actor b (shared_by cells l).books (shared_by cells (l ++ entry.Event k e ∷ [])).books (grown_next l k e) es was.0,
        trace_stays cells threads e.actor b (shared_by cells l).books (shared_by cells (l ++ entry.Event k e ∷ [])).books (grown_next l k e) es was.0 ∙ was.1,
      ))
      h g p (hold, refl)
