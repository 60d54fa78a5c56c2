-- What the store or an atom answered is what is answered behind the history, and it is then what the history leaves.
use Rattle.std.proofs.Common.{◌≡◌, ℕ, Bool, true, false, nat_lt, List, [], ◌∷◌, ◌++◌, length, None, refl, sym, ap, subst, ◌∙◌}
use Rattle.std.proofs.lemmas.Bool.{false≢true}
use Rattle.std.proofs.lemmas.Bool.Decides.{nat_tests}
use Rattle.std.proofs.Common.{arith}
use Rattle.txs_value_cell.specs.declared.cell.CellDefinition.{CellDefinition}
use Rattle.txs_value_data.specs.declared.value.CellId.{CellId}
use Rattle.txs_world_protocol.specs.SeenEvent.{home}
use Rattle.txs_world_protocol.specs.declared.ask.Ask.{Ask}
use Rattle.txs_world_protocol.specs.declared.ask.Reply.{Reply}
use Rattle.txs_world_protocol.specs.declared.ask.Reply.TheVariants as reply
use Rattle.txs_code_meaning.specs.PlainCode.{PlainCode}
use Rattle.txs_world_book.specs.Atom as book
use Rattle.txs_world_book.specs.Atom.{PlainAtom, AtomAnswers, AtomTakesMemory, atom_with}
use Rattle.txs_world_book.specs.Book.{actors}
use Rattle.txs_world_book.specs.Served as base
use Rattle.txs_world_book.specs.Served.{cells_of}
use Rattle.txs_world.specs.Store.{PlainStore, store_with, is_lawful, serve, store_after, taken_after, TakesMemory, Answers}
use Rattle.txs_history.specs.declared.log.Entry.TheVariants as entry
use Rattle.txs_history.specs.History.{PlainLog, events_of}
use Rattle.txs_theorem_runs.specs.Shared.{store_of, atom_of, has_atom, may_ask, serve_on}
use Rattle.txs_history.specs.declared.asked.Asked.{Asked}
use Rattle.txs_history.specs.Asked.{History, asked_by, shared_by}
use Rattle.txs_history.proofs.Sharing.{book_same, taken_same, book_next, taken_next}
use Rattle.txs_world_shared.specs.Apart.{may_ask_atom}
use Rattle.txs_world_shared.specs.Kept.{atom_named}
use Rattle.txs_world_shared.specs.SharedState.{TakesMemoryFor}
use Rattle.txs_world_shared.proofs.Serving.{atom_takes, store_takes}
use Rattle.txs_world_shared.proofs.Asking.{AsksAtom, AsksStore, asks_atom, asks_store}
use Rattle.txs_history.specs.declared.serve.Served.{Served}
use Rattle.txs_history.specs.Logged.{IsLoggedStore, IsLoggedAtom, MayNot, is_memory, WasAnswered, WasDone, WasServed, StoreServed, AtomServed, Noted, WasNoted}
use Rattle.txs_history.proofs.Asking.{of_store, not_of_store, of_atom, not_of_atom}
use Rattle.txs_history.proofs.Locking.{locks_on}
use Rattle.txs_history.proofs.Noting.{noted_on}

nothing_more : (n : ℕ) → nat_lt n n ≡ false
nothing_more n = grind (arith, nat_tests)

-- ---- replies

-- what the store answered where there was memory
store_does : (s : PlainStore) (v : base.Served) (next : PlainStore) (r : Reply) (t : PlainStore) → is_memory r ≡ false → Answers s v next r t → (r ≡ v.reply) × (t ≡ next)
store_does s v next (reply.At p) t is h = h
store_does s v next (reply.Is x) t is h = h
store_does s v next (reply.Views p xs) t is h = h
store_does s v next reply.Done t is h = h
store_does s v next (reply.Retry c) t is h = h
store_does s v next (reply.Changed c) t is h = h
store_does s v next (reply.AgentIsFailed g) t is h = h
store_does s v next (reply.Action n x w) t is h = h
store_does s v next reply.Idle t is h = h
store_does s v next (reply.Opened p x) t is h = h
store_does s v next reply.Full t is h = h
store_does s v next reply.Memory t is h = absurd (false≢true (sym is))

-- and where there was none
store_stays : (s : PlainStore) (v : base.Served) (next : PlainStore) (r : Reply) (t : PlainStore) → is_memory r ≡ true → Answers s v next r t → TakesMemory v.reply × (t ≡ s)
store_stays s v next (reply.At p) t is h = absurd (false≢true is)
store_stays s v next (reply.Is x) t is h = absurd (false≢true is)
store_stays s v next (reply.Views p xs) t is h = absurd (false≢true is)
store_stays s v next reply.Done t is h = absurd (false≢true is)
store_stays s v next (reply.Retry c) t is h = absurd (false≢true is)
store_stays s v next (reply.Changed c) t is h = absurd (false≢true is)
store_stays s v next (reply.AgentIsFailed g) t is h = absurd (false≢true is)
store_stays s v next (reply.Action n x w) t is h = absurd (false≢true is)
store_stays s v next reply.Idle t is h = absurd (false≢true is)
store_stays s v next (reply.Opened p x) t is h = absurd (false≢true is)
store_stays s v next reply.Full t is h = absurd (false≢true is)
store_stays s v next reply.Memory t is h = h

-- the same of an atom
atom_does : (s : PlainAtom) (v : base.Served) (r : Reply) (t : PlainAtom) → is_memory r ≡ false → AtomAnswers s v r t → (r ≡ v.reply) × (t ≡ atom_with s v.book)
atom_does s v (reply.At p) t is h = h
atom_does s v (reply.Is x) t is h = h
atom_does s v (reply.Views p xs) t is h = h
atom_does s v reply.Done t is h = h
atom_does s v (reply.Retry c) t is h = h
atom_does s v (reply.Changed c) t is h = h
atom_does s v (reply.AgentIsFailed g) t is h = h
atom_does s v (reply.Action n x w) t is h = h
atom_does s v reply.Idle t is h = h
atom_does s v (reply.Opened p x) t is h = h
atom_does s v reply.Full t is h = h
atom_does s v reply.Memory t is h = absurd (false≢true (sym is))

atom_stays : (s : PlainAtom) (v : base.Served) (r : Reply) (t : PlainAtom) → is_memory r ≡ true → AtomAnswers s v r t → AtomTakesMemory v.reply × (t ≡ s)
atom_stays s v (reply.At p) t is h = absurd (false≢true is)
atom_stays s v (reply.Is x) t is h = absurd (false≢true is)
atom_stays s v (reply.Views p xs) t is h = absurd (false≢true is)
atom_stays s v reply.Done t is h = absurd (false≢true is)
atom_stays s v (reply.Retry c) t is h = absurd (false≢true is)
atom_stays s v (reply.Changed c) t is h = absurd (false≢true is)
atom_stays s v (reply.AgentIsFailed g) t is h = absurd (false≢true is)
atom_stays s v (reply.Action n x w) t is h = absurd (false≢true is)
atom_stays s v reply.Idle t is h = absurd (false≢true is)
atom_stays s v (reply.Opened p x) t is h = absurd (false≢true is)
atom_stays s v reply.Full t is h = absurd (false≢true is)
atom_stays s v reply.Memory t is h = h

-- an atom keeps its cell
pub cell_stays : (n : ℕ) (s : PlainAtom) (a : ℕ) (q : Ask) (v : Served) (t : PlainAtom) → AtomServed n s a q v t → t.cell ≡ s.cell
cell_stays n s a q v t h = go (is_memory v.reply) refl
  where
    go : (b : Bool) → is_memory v.reply ≡ b → t.cell ≡ s.cell
    go true is = ap (λ (x : PlainAtom). x.cell) (atom_stays s (book.serve_atom s.cell s.opening a q s.book) v.reply t is h.answers).1
    go false is = ap (λ (x : PlainAtom). x.cell) (atom_does s (book.serve_atom s.cell s.opening a q s.book) v.reply t is h.answers).1

-- ---- what is served is done behind the history

module _ (cells : List CellDefinition) (threads : ℕ) where
  -- what was served from the book under a lock, where the history has no more under it than the log, is served so behind that history
  done_there : (k a : ℕ) (q : Ask) (own past before new seen : History) (v : Served) → events_of k before ≡ events_of k own → Noted false k own past before new seen (asked_by a q)
      → WasAnswered cells a q ((shared_by cells own).books k) v → WasDone false cells k a q past before seen v
  done_there k a q own past before new seen v same d answered =
      (subst (λ b. WasAnswered cells a q b v) (sym (book_same cells k before own same)) answered, d.1 ∙ d.0)

  -- ---- the store

  store_may : (a : ℕ) (q : Ask) (own before : History) → events_of 0 before ≡ events_of 0 own → is_lawful (store_of cells threads (shared_by cells own)) a q ≡ true
      → may_ask cells threads (shared_by cells before).taken a q ((shared_by cells before).books 0) ≡ true
  store_may a q own before same lawful =
      let none = of_store (store_of cells threads (shared_by cells own)) a q lawful in
      let asks = asks_store cells threads (shared_by cells own).taken a ((shared_by cells own).books 0) q none in
      subst (λ t. may_ask cells threads t a q ((shared_by cells before).books 0) ≡ true) (sym (taken_same cells before own same))
      (subst (λ b. may_ask cells threads (shared_by cells own).taken a q b ≡ true) (sym (book_same cells 0 before own same)) (asks.may ∙ lawful))

  -- the store as the history that goes on leaves it
  store_on : (a : ℕ) (q : Ask) (own before new : History) (t : PlainStore) → atom_named q ≡ None → events_of 0 before ≡ events_of 0 own
      → new ≡ before ++ entry.Event 0 (asked_by a q) ∷ []
      → t ≡ store_after (store_of cells threads (shared_by cells own)) q (serve (cells_of cells) a q ((shared_by cells own).books 0))
      → t ≡ store_of cells threads (shared_by cells new)
  store_on a q own before new t none same added is =
      let e = asked_by a q in
      let b = (shared_by cells own).books 0 in
      let asks = asks_store cells threads (shared_by cells own).taken a b q none in
      let book_is : (shared_by cells new).books 0 ≡ (serve (cells_of cells) a q b).book =
      ap (λ h. (shared_by cells h).books 0) added ∙ (book_next cells before 0 e ∙ (ap (λ x. (serve_on cells a q x).book) (book_same cells 0 before own same) ∙ ap (λ (x : base.Served). x.book) asks.served)) in
      let taken_is : (shared_by cells new).taken ≡ taken_after q (serve (cells_of cells) a q b).reply (shared_by cells own).taken =
      ap (λ h. (shared_by cells h).taken) added
      ∙ (taken_next cells before e
      ∙ (ap (λ x. taken_after q (serve_on cells a q x).reply (shared_by cells before).taken) (book_same cells 0 before own same)
      ∙ (ap (λ (x : base.Served). taken_after q x.reply (shared_by cells before).taken) asks.served
      ∙ ap (λ x. taken_after q (serve (cells_of cells) a q b).reply x) (taken_same cells before own same)))) in
      is ∙ (ap (λ x. store_with (cells_of cells) threads x (taken_after q (serve (cells_of cells) a q b).reply (shared_by cells own).taken)) (sym book_is)
      ∙ ap (λ x. store_with (cells_of cells) threads ((shared_by cells new).books 0) x) (sym taken_is))

  -- what the store served, where it is as its history leaves it
  store_serves : (a : ℕ) (q : Ask) (own past new seen : History) (v : Served) (t : PlainStore)
      → StoreServed (store_of cells threads (shared_by cells own)) a q v t → WasNoted (is_memory v.reply) 0 own past new seen (asked_by a q)
      → WasServed cells threads 0 a q past seen v × (t ≡ store_of cells threads (shared_by cells new))
  store_serves a q own past new seen v t h n = go (is_memory v.reply) refl n.done
    where
      s : PlainStore
      s = store_of cells threads (shared_by cells own)

      none : atom_named q ≡ None
      none = of_store s a q h.lawful

      asks : AsksStore cells threads (shared_by cells own).taken a q ((shared_by cells own).books 0)
      asks = asks_store cells threads (shared_by cells own).taken a ((shared_by cells own).books 0) q none

      was : WasDone (is_memory v.reply) cells 0 a q past n.before seen v → WasServed cells threads 0 a q past seen v
      was d = record { before = n.before; past = n.past_is; lock = sym asks.book_is; may = store_may a q own n.before n.same h.lawful; done = d }

      go : (b : Bool) → is_memory v.reply ≡ b → Noted b 0 own past n.before new seen (asked_by a q)
          → WasServed cells threads 0 a q past seen v × (t ≡ store_of cells threads (shared_by cells new))
      go true is d =
          let stays = store_stays s (serve s.cells a q s.book) (store_after s q (serve s.cells a q s.book)) v.reply t is h.answers in
          let less : v.added ≡ false = h.added ∙ (ap (λ (x : PlainStore). nat_lt (length s.book) (length x.book)) stays.1 ∙ nothing_more (length s.book)) in
          let memory : TakesMemoryFor q (serve_on cells a q ((shared_by cells n.before).books 0)).reply =
          subst (λ b. TakesMemoryFor q (serve_on cells a q b).reply) (sym (book_same cells 0 n.before own n.same))
          (subst (λ (x : base.Served). TakesMemoryFor q x.reply) (sym asks.served) (store_takes q (serve s.cells a q s.book).reply none stays.0)) in (
            was (subst (λ b. WasDone b cells 0 a q past n.before seen v) (sym is) (less, d.1, memory)),
            stays.1 ∙ ap (λ l. store_of cells threads (shared_by cells l)) (sym d.0),
          )
      go false is d =
          let does = store_does s (serve s.cells a q s.book) (store_after s q (serve s.cells a q s.book)) v.reply t is h.answers in
          let answered : WasAnswered cells a q ((shared_by cells own).books 0) v = record {
            reply = does.0 ∙ ap (λ (x : base.Served). x.reply) (sym asks.served);
            at = h.at;
            added = h.added ∙ (ap (λ (x : PlainStore). nat_lt (length s.book) (length x.book)) does.1 ∙ ap (λ (x : base.Served). nat_lt (length s.book) (length x.book)) (sym asks.served));
          } in (
            was (subst (λ b. WasDone b cells 0 a q past n.before seen v) (sym is) (done_there 0 a q own past n.before new seen v n.same d answered)),
            store_on a q own n.before new t none n.same d.0 does.1,
          )

  -- ---- an atom

  -- an atom of this code, where it is as this history leaves it
  abbrev atom_by : CellId → ℕ → History → PlainAtom
  atom_by c k h = atom_of cells c ((shared_by cells h).books k)

  atom_asks : (a : ℕ) (q : Ask) (c : CellId) (k : ℕ) (own : History) (taken : List Bool) → may_ask_atom (actors threads (cells_of cells)) a q (atom_by c k own) ≡ true
      → AsksAtom cells threads taken a q ((shared_by cells own).books k) c
  atom_asks a q c k own taken may = asks_atom cells threads taken a ((shared_by cells own).books k) q c (of_atom (actors threads (cells_of cells)) a q (atom_by c k own) may).0

  atom_may : (a : ℕ) (q : Ask) (c : CellId) (k : ℕ) (own before : History) → has_atom cells c ≡ true → events_of k before ≡ events_of k own
      → may_ask_atom (actors threads (cells_of cells)) a q (atom_by c k own) ≡ true
      → may_ask cells threads (shared_by cells before).taken a q ((shared_by cells before).books k) ≡ true
  atom_may a q c k own before has same may =
      let named = of_atom (actors threads (cells_of cells)) a q (atom_by c k own) may in
      let asks = atom_asks a q c k own (shared_by cells before).taken may in
      subst (λ b. may_ask cells threads (shared_by cells before).taken a q b ≡ true) (sym (book_same cells k before own same))
      (sym asks.may ∙ rw (named.1, has, named.2) refl)

  -- what an atom served, where it is as its history leaves it
  atom_serves : (a : ℕ) (q : Ask) (c : CellId) (k : ℕ) (own past new seen : History) (v : Served) (t : PlainAtom) → has_atom cells c ≡ true → k ≡ home cells c
      → AtomServed (actors threads (cells_of cells)) (atom_by c k own) a q v t → WasNoted (is_memory v.reply) k own past new seen (asked_by a q)
      → WasServed cells threads k a q past seen v × (t ≡ atom_by c k new)
  atom_serves a q c k own past new seen v t has key h n = go (is_memory v.reply) refl n.done
    where
      s : PlainAtom
      s = atom_by c k own

      x : base.Served
      x = book.serve_atom s.cell s.opening a q s.book

      asks : AsksAtom cells threads [] a q s.book c
      asks = atom_asks a q c k own [] h.may

      was : WasDone (is_memory v.reply) cells k a q past n.before seen v → WasServed cells threads k a q past seen v
      was d = record { before = n.before; past = n.past_is; lock = key ∙ sym asks.book_is; may = atom_may a q c k own n.before has n.same h.may; done = d }

      go : (b : Bool) → is_memory v.reply ≡ b → Noted b k own past n.before new seen (asked_by a q) → WasServed cells threads k a q past seen v × (t ≡ atom_by c k new)
      go true is d =
          let stays = atom_stays s x v.reply t is h.answers in
          let less : v.added ≡ false = h.added ∙ (ap (λ (y : PlainAtom). nat_lt (length s.book) (length y.book)) stays.1 ∙ nothing_more (length s.book)) in
          let memory : TakesMemoryFor q (serve_on cells a q ((shared_by cells n.before).books k)).reply =
          subst (λ b. TakesMemoryFor q (serve_on cells a q b).reply) (sym (book_same cells k n.before own n.same))
          (subst (λ (y : base.Served). TakesMemoryFor q y.reply) (sym asks.served) (atom_takes q x.reply stays.0)) in (
            was (subst (λ b. WasDone b cells k a q past n.before seen v) (sym is) (less, d.1, memory)),
            stays.1 ∙ ap (λ l. atom_by c k l) (sym d.0),
          )
      go false is d =
          let does = atom_does s x v.reply t is h.answers in
          let answered : WasAnswered cells a q ((shared_by cells own).books k) v = record {
            reply = does.0 ∙ ap (λ (y : base.Served). y.reply) (sym asks.served);
            at = h.at;
            added = h.added ∙ (ap (λ (y : PlainAtom). nat_lt (length s.book) (length y.book)) does.1 ∙ ap (λ (y : base.Served). nat_lt (length s.book) (length y.book)) (sym asks.served));
          } in
          let book_is : (shared_by cells new).books k ≡ x.book =
          ap (λ l. (shared_by cells l).books k) d.0
          ∙ (book_next cells n.before k (asked_by a q) ∙ (ap (λ b. (serve_on cells a q b).book) (book_same cells k n.before own n.same) ∙ ap (λ (y : base.Served). y.book) asks.served)) in (
            was (subst (λ b. WasDone b cells k a q past n.before seen v) (sym is) (done_there k a q own past n.before new seen v n.same d answered)),
            does.1 ∙ ap (λ b. atom_of cells c b) (sym book_is),
          )

-- ---- what is under a lock goes on

pub store_goes : (code : PlainCode) (s : PlainStore) (l m : PlainLog Asked) (b : Bool) (a : ℕ) (q : Ask) (past seen : History) (v : Served) (t : PlainStore) (e : Asked)
    → b ≡ false → IsLoggedStore code s l b → StoreServed s a q v t → m.key ≡ l.key → WasNoted (is_memory v.reply) l.key l.log past m.log seen e → e ≡ asked_by a q
    → IsLoggedStore code t m b × WasServed code.cells (length code.threads) 0 a q past seen v
store_goes code s l m b a q past seen v t e works kept h key n is =
    let served = subst (λ x. StoreServed x a q v t) (kept.is works) h in
    let noted = subst (λ k. WasNoted (is_memory v.reply) k l.log past m.log seen (asked_by a q)) kept.key (subst (λ x. WasNoted (is_memory v.reply) l.key l.log past m.log seen x) is n) in
    let r = store_serves code.cells (length code.threads) a q l.log past m.log seen v t served noted in (
      record { key = key ∙ kept.key; locks = locks_on code.cells l.log m.log (noted_on (is_memory v.reply) l.key l.log past m.log seen e n) kept.locks; is = λ w. r.1 },
      r.0,
    )

-- what it refuses, no actor may ask there
pub store_refuses : (code : PlainCode) (s : PlainStore) (l : PlainLog Asked) (b : Bool) (a : ℕ) (q : Ask) → b ≡ false → IsLoggedStore code s l b → is_lawful s a q ≡ false
    → MayNot code.cells (length code.threads) 0 a q l.log
store_refuses code s l b a q works kept h = λ key room.
    not_of_store code.cells (length code.threads) (shared_by code.cells l.log).taken a ((shared_by code.cells l.log).books 0) q key (subst (λ x. is_lawful x a q ≡ false) (kept.is works) h)

pub atom_goes : (code : PlainCode) (n : ℕ) (s : PlainAtom) (l m : PlainLog Asked) (b : Bool) (a : ℕ) (q : Ask) (past seen : History) (v : Served) (t : PlainAtom) (e : Asked)
    → b ≡ false → IsLoggedAtom code n s l b → AtomServed n s a q v t → m.key ≡ l.key → WasNoted (is_memory v.reply) l.key l.log past m.log seen e → e ≡ asked_by a q
    → IsLoggedAtom code n t m b × WasServed code.cells (length code.threads) (home code.cells s.cell) a q past seen v
atom_goes code n s l m b a q past seen v t e works kept h key noted is =
    let cells = code.cells in
    let threads = length code.threads in
    let served = subst (λ x. AtomServed (actors threads (cells_of cells)) x a q v t) (kept.is works) (subst (λ k. AtomServed k s a q v t) kept.actors_are h) in
    let r = atom_serves cells threads a q s.cell l.key l.log past m.log seen v t kept.there kept.key served (subst (λ x. WasNoted (is_memory v.reply) l.key l.log past m.log seen x) is noted) in
    let cell = cell_stays n s a q v t h in (
      record {
        there = subst (λ c. has_atom cells c ≡ true) (sym cell) kept.there;
        actors_are = kept.actors_are;
        key = key ∙ (kept.key ∙ ap (home cells) (sym cell));
        locks = locks_on cells l.log m.log (noted_on (is_memory v.reply) l.key l.log past m.log seen e noted) kept.locks;
        is = λ w. r.1 ∙ (ap (λ c. atom_of cells c ((shared_by cells m.log).books l.key)) (sym cell) ∙ ap (λ k. atom_of cells t.cell ((shared_by cells m.log).books k)) (sym key));
      },
      subst (λ k. WasServed cells threads k a q past seen v) kept.key r.0,
    )

pub atom_refuses : (code : PlainCode) (n : ℕ) (s : PlainAtom) (l : PlainLog Asked) (b : Bool) (a : ℕ) (q : Ask) → b ≡ false → IsLoggedAtom code n s l b → may_ask_atom n a q s ≡ false
    → MayNot code.cells (length code.threads) (home code.cells s.cell) a q l.log
atom_refuses code n s l b a q works kept h = λ key room.
    subst (λ x. may_ask code.cells (length code.threads) (shared_by code.cells l.log).taken a q x ≡ false)
    (ap (λ (x : PlainAtom). x.book) (kept.is works) ∙ ap (λ k. (shared_by code.cells l.log).books k) kept.key)
    (not_of_atom code.cells (length code.threads) (shared_by code.cells l.log).taken a q s kept.there key (subst (λ k. may_ask_atom k a q s ≡ false) kept.actors_are h))
