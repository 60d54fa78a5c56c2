-- What is shared after an ask was served by the book that it is for.
use Rattle.std.proofs.Common.{◌≡◌, ◌≢◌, ◌⊎◌, ◌<◌, ℕ, zero, suc, Bool, true, false, ◌&&◌, ◌==◌, nat_lt, List, [], ◌∷◌, length, map, get_or, set, Option, Some, None, refl, sym, ap, subst, ◌∙◌, arith, inl, inr, if◌then◌else◌}
use Rattle.std.proofs.Math.Path.{fun_ext}
use Rattle.std.proofs.Math.Seq.{map-set_same}
use Rattle.std.proofs.lemmas.Bool.{false≢true}
use Rattle.std.proofs.lemmas.List.{map-set, set-get_or, get_or-set_same, get_or-set_other, length-map}
use Rattle.txs_world_protocol.specs.SeenEvent.{atoms_below}
use Rattle.txs_world_protocol.specs.declared.ask.Ask.{Ask}
use Rattle.txs_world_protocol.specs.declared.ask.Ask.TheVariants as ask
use Rattle.txs_world_protocol.specs.declared.ask.Reply.{Reply}
use Rattle.txs_world_protocol.specs.declared.ask.Reply.TheVariants as reply
use Rattle.txs_world_protocol.specs.declared.event.Event.{Event}
use Rattle.txs_value_data.proofs.SameLemmas.{and_both, numbers, number-itself}
use Rattle.txs_value_cell.specs.declared.cell.CellDefinition.{CellDefinition}
use Rattle.txs_value_data.specs.declared.value.CellId.{CellId}
use Rattle.txs_world_book.specs.Atom as world
use Rattle.txs_world_book.specs.Atom.{PlainAtom, AtomAnswers, AtomTakesMemory, atom_with}
use Rattle.txs_world_book.specs.Book.{actors}
use Rattle.txs_world.specs.Laws.{ServeKeeps}
use Rattle.txs_world.specs.Store as world_store
use Rattle.txs_world.specs.Store.{PlainStore, store_after, serve, taken_after, TakesMemory}
use Rattle.txs_world_book.specs.Served.{cells_of, Served}
use Rattle.txs_theorem_runs.specs.Invariant.{SharedStands}
use Rattle.txs_theorem_runs.specs.Shared.{has_atom, atom_of, book_for, shared_after}
use Rattle.txs_theorem_runs.proofs.Serving.{serving_stands}
use Rattle.txs_world_shared.specs.Kept.{state_of, atoms_of, without_book, no_atom, atom_named, names_place, IsKept, AnswersAt}
use Rattle.txs_world_shared.specs.SharedState.{PlainShared, shared_of, numbered_book, is_lawful, answer_to, IsAfter, Answers, TakesMemoryFor}
use Rattle.txs_world_shared.proofs.Asking.{AsksStore, asks_atom, asks_store}
use Rattle.txs_world_shared.proofs.Placing.{atom_is}

-- ---- what takes memory

-- what takes memory of an atom's book takes some of the store's, too
atom_takes_memory : (r : Reply) → AtomTakesMemory r → TakesMemory r
atom_takes_memory (reply.At p) h = absurd h
atom_takes_memory (reply.Is v) h = tt
atom_takes_memory (reply.Views p vs) h = absurd h
atom_takes_memory reply.Done h = tt
atom_takes_memory (reply.Retry c) h = absurd h
atom_takes_memory (reply.Changed c) h = absurd h
atom_takes_memory (reply.AgentIsFailed g) h = absurd h
atom_takes_memory (reply.Action n x v) h = absurd h
atom_takes_memory reply.Idle h = absurd h
atom_takes_memory (reply.Opened p v) h = tt
atom_takes_memory reply.Full h = absurd h
atom_takes_memory reply.Memory h = absurd h

-- an atom's book tells of want of memory where the reply to the ask takes some
pub atom_takes : (q : Ask) (r : Reply) → AtomTakesMemory r → TakesMemoryFor q r
atom_takes ask.Begin r h = atom_takes_memory r h
atom_takes (ask.Look c at) r h = atom_takes_memory r h
atom_takes (ask.View cs) r h = atom_takes_memory r h
atom_takes (ask.Commit at sets ensured view commuted sends) r h = atom_takes_memory r h
atom_takes (ask.Fail at view) r h = atom_takes_memory r h
atom_takes (ask.Peek c) r h = atom_takes_memory r h
atom_takes (ask.Send x) r h = atom_takes_memory r h
atom_takes (ask.Take g) r h = atom_takes_memory r h
atom_takes (ask.Finish g new sends) r h = atom_takes_memory r h
atom_takes (ask.OpenAt c) r h = h
atom_takes (ask.CloseAt c at new) r h = h
atom_takes (ask.Broke c at) r h = h

abbrev is_none : {A : Type 0} → Option A → Type 0
is_none None = Unit {0}
is_none (Some x) = ⊥

-- so does the store, of what is for no atom
pub store_takes : (q : Ask) (r : Reply) → atom_named q ≡ None → TakesMemory r → TakesMemoryFor q r
store_takes ask.Begin r e h = h
store_takes (ask.Look c at) r e h = h
store_takes (ask.View cs) r e h = h
store_takes (ask.Commit at sets ensured view commuted sends) r e h = h
store_takes (ask.Fail at view) r e h = h
store_takes (ask.Peek c) r e h = h
store_takes (ask.Send x) r e h = h
store_takes (ask.Take g) r e h = h
store_takes (ask.Finish g new sends) r e h = h
store_takes (ask.OpenAt c) r e h = absurd (subst is_none (sym e) tt)
store_takes (ask.CloseAt c at new) r e h = absurd (subst is_none (sym e) tt)
store_takes (ask.Broke c at) r e h = absurd (subst is_none (sym e) tt)

-- ---- by what the reply says

-- what is said to an actor that a part of the state served, and what the part is later: as it is next, or as it was for want of memory
pub record Outcome {X : Type 0} (t : X → PlainShared) (s : PlainShared) (q : Ask) (v : Served) (cur next : X) (r : Reply) (y : X) : Type 0 where
  pub answers : Answers s q v r (t y)
  pub which : (y ≡ next) ⊎ (y ≡ cur)

module _ {X : Type 0} (t : X → PlainShared) (s : PlainShared) (q : Ask) (v : Served) (cur next : X) (is_after : IsAfter s q v (t next)) (same : t cur ≡ s) where
  after : (y : X) → y ≡ next → IsAfter s q v (t y)
  after y e = subst (λ z. IsAfter s q v (t z)) (sym e) is_after

module _ (t : PlainAtom → PlainShared) (s : PlainShared) (q : Ask) (v : Served) (cur : PlainAtom) (is_after : IsAfter s q v (t (atom_with cur v.book))) (same : t cur ≡ s) where
  by_atom : (r : Reply) (y : PlainAtom) → AtomAnswers cur v r y → Outcome t s q v cur (atom_with cur v.book) r y
  by_atom (reply.At p) y h = record { answers = (h.0, after t s q v cur (atom_with cur v.book) is_after same y h.1); which = inl h.1 }
  by_atom (reply.Is x) y h = record { answers = (h.0, after t s q v cur (atom_with cur v.book) is_after same y h.1); which = inl h.1 }
  by_atom (reply.Views p xs) y h = record { answers = (h.0, after t s q v cur (atom_with cur v.book) is_after same y h.1); which = inl h.1 }
  by_atom reply.Done y h = record { answers = (h.0, after t s q v cur (atom_with cur v.book) is_after same y h.1); which = inl h.1 }
  by_atom (reply.Retry c) y h = record { answers = (h.0, after t s q v cur (atom_with cur v.book) is_after same y h.1); which = inl h.1 }
  by_atom (reply.Changed c) y h = record { answers = (h.0, after t s q v cur (atom_with cur v.book) is_after same y h.1); which = inl h.1 }
  by_atom (reply.AgentIsFailed g) y h = record { answers = (h.0, after t s q v cur (atom_with cur v.book) is_after same y h.1); which = inl h.1 }
  by_atom (reply.Action n x w) y h = record { answers = (h.0, after t s q v cur (atom_with cur v.book) is_after same y h.1); which = inl h.1 }
  by_atom reply.Idle y h = record { answers = (h.0, after t s q v cur (atom_with cur v.book) is_after same y h.1); which = inl h.1 }
  by_atom (reply.Opened p x) y h = record { answers = (h.0, after t s q v cur (atom_with cur v.book) is_after same y h.1); which = inl h.1 }
  by_atom reply.Full y h = record { answers = (h.0, after t s q v cur (atom_with cur v.book) is_after same y h.1); which = inl h.1 }
  by_atom reply.Memory y h = record { answers = (atom_takes q v.reply h.0, ap t h.1 ∙ same); which = inr h.1 }

module _ (t : PlainStore → PlainShared) (s : PlainShared) (q : Ask) (unnamed : atom_named q ≡ None) (v : Served) (cur : PlainStore) (is_after : IsAfter s q v (t (store_after cur q v))) (same : t cur ≡ s) where
  by_store : (r : Reply) (y : PlainStore) → world_store.Answers cur v (store_after cur q v) r y → Outcome t s q v cur (store_after cur q v) r y
  by_store (reply.At p) y h = record { answers = (h.0, after t s q v cur (store_after cur q v) is_after same y h.1); which = inl h.1 }
  by_store (reply.Is x) y h = record { answers = (h.0, after t s q v cur (store_after cur q v) is_after same y h.1); which = inl h.1 }
  by_store (reply.Views p xs) y h = record { answers = (h.0, after t s q v cur (store_after cur q v) is_after same y h.1); which = inl h.1 }
  by_store reply.Done y h = record { answers = (h.0, after t s q v cur (store_after cur q v) is_after same y h.1); which = inl h.1 }
  by_store (reply.Retry c) y h = record { answers = (h.0, after t s q v cur (store_after cur q v) is_after same y h.1); which = inl h.1 }
  by_store (reply.Changed c) y h = record { answers = (h.0, after t s q v cur (store_after cur q v) is_after same y h.1); which = inl h.1 }
  by_store (reply.AgentIsFailed g) y h = record { answers = (h.0, after t s q v cur (store_after cur q v) is_after same y h.1); which = inl h.1 }
  by_store (reply.Action n x w) y h = record { answers = (h.0, after t s q v cur (store_after cur q v) is_after same y h.1); which = inl h.1 }
  by_store reply.Idle y h = record { answers = (h.0, after t s q v cur (store_after cur q v) is_after same y h.1); which = inl h.1 }
  by_store (reply.Opened p x) y h = record { answers = (h.0, after t s q v cur (store_after cur q v) is_after same y h.1); which = inl h.1 }
  by_store reply.Full y h = record { answers = (h.0, after t s q v cur (store_after cur q v) is_after same y h.1); which = inl h.1 }
  by_store reply.Memory y h = record { answers = (store_takes q v.reply unnamed h.0, ap t h.1 ∙ same); which = inr h.1 }

-- ---- the books

not_same : (m n : ℕ) → (m == n) ≡ false → m ≢ n
not_same m n e h = false≢true (sym e ∙ ap (λ k. m == k) (sym h) ∙ number-itself m)

-- one of some books has this in the place of what it had
book_put : (atoms : List PlainAtom) (k n : ℕ) (y : PlainAtom) → k < length atoms → get_or (map (λ a. a.book) (set atoms k y)) n [] ≡ (if n == k then y.book else get_or (map (λ a. a.book) atoms) n [])
book_put atoms k n y lt = ap (λ l. get_or l n []) (map-set (λ a. a.book) atoms k y) ∙ go (n == k) refl
  where
    books : List (List Event)
    books = map (λ a. a.book) atoms

    go : (b : Bool) → (n == k) ≡ b → get_or (set books k y.book) n [] ≡ (if b then y.book else get_or books n [])
    go true e = ap (get_or (set books k y.book) n) refl ∙ subst (λ i. get_or (set books k y.book) i [] ≡ y.book) (sym (numbers n k e)) (get_or-set_same books k y.book [] (subst (λ m. k < m) (sym (length-map atoms (λ a. a.book))) lt))
    go false e = get_or-set_other books k n y.book [] (not_same n k e)

suc_eq : (n k : ℕ) → (suc n == suc k) ≡ (n == k)
suc_eq n k = go (n == k) refl
  where
    go : (b : Bool) → (n == k) ≡ b → (suc n == suc k) ≡ b
    go true e = subst (λ i. (suc n == suc i) ≡ true) (numbers n k e) (number-itself (suc n))
    go false e = other (suc n == suc k) refl
      where
        other : (b : Bool) → (suc n == suc k) ≡ b → (suc n == suc k) ≡ false
        other true h = absurd (not_same n k e (let m = numbers (suc n) (suc k) h in omega (arith, m)))
        other false h = h

suc_zero : (n : ℕ) → (suc n == 0) ≡ false
suc_zero n = go (suc n == 0) refl
  where
    go : (b : Bool) → (suc n == 0) ≡ b → (suc n == 0) ≡ false
    go true h = absurd (let m = numbers (suc n) 0 h in omega (arith, m))
    go false h = h

zero_suc : (n : ℕ) → (0 == suc n) ≡ false
zero_suc n = go (0 == suc n) refl
  where
    go : (b : Bool) → (0 == suc n) ≡ b → (0 == suc n) ≡ false
    go true h = absurd (let m = numbers 0 (suc n) h in omega (arith, m))
    go false h = h

module _ (cells : List CellDefinition) (store : PlainStore) (atoms : List PlainAtom) (q : Ask) (v : Served) where
  -- the store served it
  after_store : book_for cells q ≡ 0 → IsAfter (state_of cells store atoms) q v (state_of cells (store_after store q v) atoms)
  after_store e = record {
    cells = refl;
    threads = refl;
    shared = ap (λ (b : ℕ → List Event). record { books = b; taken = taken_after q v.reply store.taken }) (fun_ext put ∙ ap (λ k n. if n == k then v.book else get_or (store.book ∷ map (λ a. a.book) atoms) n []) (sym e));
  }
    where
      put : (n : ℕ) → get_or (v.book ∷ map (λ a. a.book) atoms) n [] ≡ (if n == 0 then v.book else get_or (store.book ∷ map (λ a. a.book) atoms) n [])
      put zero = refl
      put (suc n) = sym (ap (λ b. if b then v.book else get_or (map (λ a. a.book) atoms) n []) (suc_zero n))

  -- an atom served it
  after_atom : (k : ℕ) → k < length atoms → book_for cells q ≡ suc k → ((r : Reply) → taken_after q r store.taken ≡ store.taken)
      → IsAfter (state_of cells store atoms) q v (state_of cells store (set atoms k (atom_with (get_or atoms k no_atom) v.book)))
  after_atom k lt e untaken = record {
    cells = refl;
    threads = refl;
    shared = ap (λ (b : ℕ → List Event). record { books = b; taken = store.taken }) (fun_ext put ∙ ap (λ i n. if n == i then v.book else get_or (store.book ∷ map (λ a. a.book) atoms) n []) (sym e))
        ∙ ap (λ l. record { books = λ n. if n == book_for cells q then v.book else get_or (store.book ∷ map (λ a. a.book) atoms) n []; taken = l }) (sym (untaken v.reply));
  }
    where
      y : PlainAtom
      y = atom_with (get_or atoms k no_atom) v.book

      put : (n : ℕ) → get_or (store.book ∷ map (λ a. a.book) (set atoms k y)) n [] ≡ (if n == suc k then v.book else get_or (store.book ∷ map (λ a. a.book) atoms) n [])
      put zero = sym (ap (λ b. if b then v.book else store.book) (zero_suc k))
      put (suc n) = book_put atoms k n y lt ∙ ap (λ b. if b then v.book else get_or (map (λ a. a.book) atoms) n []) (sym (suc_eq n k))

-- ---- what is kept

module _ (keeps : ServeKeeps) (cells : List CellDefinition) (a : ℕ) where
  -- what is shared stands after a lawful ask was served
  stands_after : (s t : PlainShared) (q : Ask) → s.cells ≡ cells → is_lawful s a q ≡ true → SharedStands cells s.threads (shared_of s) → IsAfter s q (answer_to s a q) t → SharedStands cells t.threads (shared_of t)
  stands_after s t q c may st h =
      subst (λ n. SharedStands cells n (shared_of t)) (sym h.threads)
      (subst (SharedStands cells s.threads) (sym h.shared)
      (subst (λ cs. SharedStands cs s.threads (shared_after s.cells q (answer_to s a q) (shared_of s))) c
      (serving_stands keeps s.cells s.threads (shared_of s) a (subst (λ cs. SharedStands cs s.threads (shared_of s)) (sym c) st) q may)))

-- ---- an atom's answer

same_unbooked : (x y next : PlainAtom) → without_book next ≡ without_book x → (y ≡ next) ⊎ (y ≡ x) → without_book y ≡ without_book x
same_unbooked x y next h (inl e) = ap without_book e ∙ h
same_unbooked x y next h (inr e) = ap without_book e

-- what is known where an ask is for an atom's book
pub record AtomServes (cells : List CellDefinition) (store : PlainStore) (atoms : List PlainAtom) (a : ℕ) (q : Ask) (c : CellId) : Type 0 where
  pub within : atoms_below cells c.number < length atoms
  pub book_is : book_for cells q ≡ suc (atoms_below cells c.number)
  pub untaken : (r : Reply) → taken_after q r store.taken ≡ store.taken
  pub lawful : world.is_lawful_atom (get_or atoms (atoms_below cells c.number) no_atom).cell a q (get_or atoms (atoms_below cells c.number) no_atom).book ≡ true
  pub served : answer_to (state_of cells store atoms) a q
      ≡ world.serve_atom (get_or atoms (atoms_below cells c.number) no_atom).cell (get_or atoms (atoms_below cells c.number) no_atom).opening a q (get_or atoms (atoms_below cells c.number) no_atom).book

pub atom_serves : (cells : List CellDefinition) (store : PlainStore) (atoms : List PlainAtom) (a : ℕ) (q : Ask) (c : CellId) → map without_book atoms ≡ atoms_of 0 cells → c.number < 65536 → atom_named q ≡ Some c → is_lawful (state_of cells store atoms) a q ≡ true
    → AtomServes cells store atoms a q c
atom_serves cells store atoms a q c are lt named may =
    let s = state_of cells store atoms in
    let book = numbered_book s (book_for cells q) in
    let k = atoms_below cells c.number in
    let asks = asks_atom cells store.threads store.taken a book q c named in
    let has = (and_both (has_atom cells c) (names_place a q book) (and_both (nat_lt a (actors store.threads (cells_of cells))) (has_atom cells c && names_place a q book) (asks.may ∙ may)).1).0 in
    let is = atom_is cells atoms c are has lt in
    let at = asks.book_is ∙ is.home_is in
    let here : get_or atoms k no_atom ≡ atom_of cells c book = is.is ∙ ap (λ n. atom_of cells c (numbered_book s n)) (sym at) in
    record {
      within = is.within;
      book_is = at;
      untaken = asks.untaken;
      lawful = subst (λ (x : PlainAtom). world.is_lawful_atom x.cell a q x.book ≡ true) (sym here) (asks.lawful may);
      served = asks.served ∙ ap (λ (x : PlainAtom). world.serve_atom x.cell x.opening a q x.book) (sym here);
    }

module _ (keeps : ServeKeeps) (cells : List CellDefinition) (store : PlainStore) (atoms : List PlainAtom) (places : List ℕ) (a : ℕ) (q : Ask) (kept : IsKept cells store atoms places) (may : is_lawful (state_of cells store atoms) a q ≡ true) where
  -- the state stands also where there was no memory
  stands_anyway : (t : PlainShared) → IsAfter (state_of cells store atoms) q (answer_to (state_of cells store atoms) a q) t → SharedStands cells t.threads (shared_of t)
  stands_anyway t h = stands_after keeps cells a (state_of cells store atoms) t q refl may kept.stands h

  module _ (c : CellId) (lt : c.number < 65536) (named : atom_named q ≡ Some c) (r : Reply) (later : List PlainAtom) (h : AnswersAt atoms (atoms_below cells c.number) a q r later) where
    known : AtomServes cells store atoms a q c
    known = atom_serves cells store atoms a q c kept.atoms_are lt named may

    abbrev x : PlainAtom
    x = get_or atoms (atoms_below cells c.number) no_atom

    abbrev v : Served
    v = world.serve_atom x.cell x.opening a q x.book

    abbrev in_state : PlainAtom → PlainShared
    in_state y = state_of cells store (set atoms (atoms_below cells c.number) y)

    next_is : IsAfter (state_of cells store atoms) q v (in_state (atom_with x v.book))
    next_is = after_atom cells store atoms q v (atoms_below cells c.number) known.within known.book_is known.untaken

    same_is : in_state x ≡ state_of cells store atoms
    same_is = ap (state_of cells store) (set-get_or atoms (atoms_below cells c.number) no_atom)

    outcome : Outcome in_state (state_of cells store atoms) q v x (atom_with x v.book) r h.atom
    outcome = by_atom in_state (state_of cells store atoms) q v x next_is same_is r h.atom h.answers

    pub atom_answers : Answers (state_of cells store atoms) q (answer_to (state_of cells store atoms) a q) r (state_of cells store later)
    atom_answers =
        subst (λ l. Answers (state_of cells store atoms) q (answer_to (state_of cells store atoms) a q) r (state_of cells store l)) (sym h.others)
        (subst (λ w. Answers (state_of cells store atoms) q w r (in_state h.atom)) (sym known.served) outcome.answers)

    atom_stands : (y : PlainAtom) → (y ≡ atom_with x v.book) ⊎ (y ≡ x) → SharedStands cells store.threads (shared_of (in_state y))
    atom_stands y (inl e) = subst (λ z. SharedStands cells store.threads (shared_of (in_state z))) (sym e) (stands_anyway (in_state (atom_with x v.book)) (subst (λ w. IsAfter (state_of cells store atoms) q w (in_state (atom_with x v.book))) (sym known.served) next_is))
    atom_stands y (inr e) = subst (λ s. SharedStands cells store.threads (shared_of s)) (sym (ap in_state e ∙ same_is)) kept.stands

    pub atom_kept : IsKept cells store later places
    atom_kept = subst (λ l. IsKept cells store l places) (sym h.others) (record {
      cells_are = kept.cells_are;
      atoms_are = map-set_same without_book atoms (atoms_below cells c.number) h.atom no_atom (same_unbooked x h.atom (atom_with x v.book) refl outcome.which) ∙ kept.atoms_are;
      places_are = kept.places_are;
      stands = atom_stands h.atom outcome.which;
    })

  -- ---- the store's answer

  module _ (unnamed : atom_named q ≡ None) where
    asks : AsksStore cells store.threads store.taken a q (numbered_book (state_of cells store atoms) (book_for cells q))
    asks = asks_store cells store.threads store.taken a (numbered_book (state_of cells store atoms) (book_for cells q)) q unnamed

    book_there : numbered_book (state_of cells store atoms) (book_for cells q) ≡ store.book
    book_there = ap (numbered_book (state_of cells store atoms)) asks.book_is

    served : answer_to (state_of cells store atoms) a q ≡ serve store.cells a q store.book
    served = asks.served ∙ ap (serve (cells_of cells) a q) book_there ∙ ap (λ cs. serve cs a q store.book) (sym kept.cells_are)

    module _ (r : Reply) (later : PlainStore) (h : world_store.Answers store (serve store.cells a q store.book) (store_after store q (serve store.cells a q store.book)) r later) where
      abbrev w : Served
      w = serve store.cells a q store.book

      abbrev with_store : PlainStore → PlainShared
      with_store y = state_of cells y atoms

      next_store : IsAfter (state_of cells store atoms) q w (with_store (store_after store q w))
      next_store = after_store cells store atoms q w asks.book_is

      came : Outcome with_store (state_of cells store atoms) q w store (store_after store q w) r later
      came = by_store with_store (state_of cells store atoms) q unnamed w store next_store refl r later h

      pub store_answers : Answers (state_of cells store atoms) q (answer_to (state_of cells store atoms) a q) r (state_of cells later atoms)
      store_answers = subst (λ u. Answers (state_of cells store atoms) q u r (state_of cells later atoms)) (sym served) came.answers

      store_kept_by : (y : PlainStore) → (y ≡ store_after store q w) ⊎ (y ≡ store) → IsKept cells y atoms places
      store_kept_by y (inl e) = subst (λ z. IsKept cells z atoms places) (sym e) (record {
        cells_are = kept.cells_are;
        atoms_are = kept.atoms_are;
        places_are = kept.places_are;
        stands = stands_anyway (with_store (store_after store q w)) (subst (λ u. IsAfter (state_of cells store atoms) q u (with_store (store_after store q w))) (sym served) next_store);
      })
      store_kept_by y (inr e) = subst (λ z. IsKept cells z atoms places) (sym e) kept

      pub store_kept : IsKept cells later atoms places
      store_kept = store_kept_by later came.which
