-- What serving an ask does to the books: it adds an event of the actor at most, and keeps what holds of what is shared.
use Rattle.std.proofs.Common.{◌≡◌, ◌<◌, ℕ, zero, suc, Bool, true, false, not, ◌&&◌, ◌==◌, nat_lt, List, [], ◌∷◌, ◌++◌, if◌then◌else◌, length, Option, Some, None, Result, Err, refl, sym, ap, ◌∙◌, subst, arith}
use Rattle.std.proofs.lemmas.Bool.{false≢true, ltb-false}
use Rattle.std.proofs.lemmas.Bool.Decides.{nat_tests}
use Rattle.txs_world_protocol.specs.Ask.{Writes}
use Rattle.txs_world_protocol.specs.SeenEvent.{home, atoms_below}
use Rattle.txs_world_protocol.specs.declared.ask.Ask.{Ask}
use Rattle.txs_world_protocol.specs.declared.ask.Ask.TheVariants as ask
use Rattle.txs_world_protocol.specs.declared.ask.Reply.{Reply}
use Rattle.txs_world_protocol.specs.declared.ask.Reply.TheVariants as reply
use Rattle.txs_world_protocol.specs.declared.event.Event.{Event}
use Rattle.txs_world_protocol.specs.declared.event.EventKind.{EventKind}
use Rattle.txs_world_protocol.specs.declared.event.Cause.TheVariants as cause
use Rattle.txs_world_protocol.specs.declared.event.EventKind.TheVariants as event
use Rattle.txs_value_data.proofs.SameLemmas.{and_both, numbers}
use Rattle.txs_value_cell.specs.Forms.{same_kind}
use Rattle.txs_value_data.specs.Limits.{most_events}
use Rattle.txs_value_data.specs.Places.{nth, fault_at}
use Rattle.txs_value_data.specs.declared.fault.Fault.{Fault}
use Rattle.txs_value_data.specs.declared.fault.FaultKind.TheVariants.{AgentFailed}
use Rattle.txs_value_data.specs.declared.fault.Span.{Span}
use Rattle.txs_value_cell.specs.declared.action.Action.{Action}
use Rattle.txs_value_cell.specs.declared.cell.CellDefinition.{CellDefinition}
use Rattle.txs_value_data.specs.declared.value.CellId.{CellId}
use Rattle.txs_value_data.specs.declared.value.CellKind.{CellKind}
use Rattle.txs_value_data.specs.declared.value.CellKind.TheVariants.{Ref, Atom, Agent}
use Rattle.txs_value_data.specs.declared.value.Value.{Value}
use Rattle.txs_world_book.specs.Atom.{LegalAtom, LegalAtomKind, atom_newest, closes_at, swapped_since}
use Rattle.txs_world_book.specs.Book.{Each, actors, mail_after, may_name, has_cell, is_of_kind, is_outdated, least_written, cells_in, is_failed, first_failed, opening, after}
use Rattle.txs_world.specs.Laws.{ServeKeeps, StoreStands}
use Rattle.txs_world.specs.Store.{store_with, takes, next_action, is_lawful, looks, commits, sends_to, finishes, span_of, merged, serve, taken_after}
use Rattle.txs_world_book.specs.Served.{Served, served, adds, event_of, cells_of}
use Rattle.txs_theorem_runs.specs.Shared.{Shared, store_of, atom_of, is_atom, has_atom, book_for, serve_on, may_ask, shared_after}
use Rattle.txs_theorem_runs.specs.Told.{IsExchanged}
use Rattle.txs_theorem_runs.specs.Explains.{AreActors}
use Rattle.txs_theorem_runs.specs.Invariant.{SharedStands}
use Rattle.txs_theorem_runs.proofs.Fits.{added}
use Rattle.txs_theorem_runs.proofs.Growing.{IsFull, Serves}

append_nil : {A : Type 0} (xs : List A) → xs ++ [] ≡ xs
append_nil [] = refl
append_nil (x ∷ xs) = ap (λ l. x ∷ l) (append_nil xs)

-- ---- what is added

-- an actor doesn't go on with a full book
never_both : (r : Reply) → IsExchanged r → IsFull r → ⊥
never_both (reply.At p) ex f = f
never_both (reply.Is v) ex f = f
never_both (reply.Views p vs) ex f = f
never_both reply.Done ex f = f
never_both (reply.Retry c) ex f = f
never_both (reply.Changed c) ex f = f
never_both (reply.AgentIsFailed g) ex f = f
never_both (reply.Action n x v) ex f = f
never_both (reply.Opened p v) ex f = f
never_both reply.Idle ex f = f
never_both reply.Full ex f = ex
never_both reply.Memory ex f = f

module _ (a : ℕ) (book : List Event) where
  quiet_serves : (r : Reply) → (IsFull r → ⊥) → Serves a book (served r book)
  quiet_serves r never = record { more = []; grown = sym (append_nil book); own = tt; few = omega arith; stays = λ n. refl; full = λ f. absurd (never f) }

  adds_serves : (kind : EventKind) (r : Reply) → IsExchanged r → Serves a book (adds a kind r book)
  adds_serves kind r ex = go (nat_lt (length book) most_events) refl
    where
      go : (b : Bool) → nat_lt (length book) most_events ≡ b → Serves a book (added b a kind r book)
      go true e = record { more = event_of a kind ∷ []; grown = refl; own = (refl, tt); few = omega arith; stays = λ n. absurd (n ex); full = λ f. absurd (never_both r ex f) }
      go false e = record { more = []; grown = sym (append_nil book); own = tt; few = omega arith; stays = λ n. refl; full = λ f. ltb-false (length book) most_events e }

  looks_serve : (b : Bool) (cells : List CellDefinition) (c : CellId) (p : ℕ) → Serves a book (looks b (opening (cells_of cells)) a c p book)
  looks_serve true cells c p = adds_serves (event.Retry p c cause.Outdated) (reply.Retry c) tt
  looks_serve false cells c p = quiet_serves (reply.Is (after (opening (cells_of cells)) book p c.number)) (λ f. f)

  commits_serve : (o c g : Option CellId) (p q : ℕ) (ws : Writes) (sends : List Action) → Serves a book (commits o c g a p q ws sends book)
  commits_serve (Some d) c g p q ws sends = adds_serves (event.Retry p d cause.Held) (reply.Retry d) tt
  commits_serve None (Some d) g p q ws sends = adds_serves (event.Retry q d (cause.Commuted p)) (reply.Changed d) tt
  commits_serve None None (Some g) p q ws sends = adds_serves (event.Refused p q g) (reply.AgentIsFailed g) tt
  commits_serve None None None p q ws sends = adds_serves (event.Commit p q ws sends) reply.Done tt

  finishes_serve : (o : Option CellId) (g : CellId) (n : ℕ) (new : Result Value Fault) (sends : List Action) (span : Span) → Serves a book (finishes o a g n new sends span book)
  finishes_serve None g n new sends span = adds_serves (event.Act g n new sends) reply.Done tt
  finishes_serve (Some h) g n new sends span = adds_serves (event.Act g n (Err (fault_at AgentFailed span)) []) (reply.AgentIsFailed h) tt

  sends_serve : (b : Bool) (x : Action) → Serves a book (sends_to b a x book)
  sends_serve true x = adds_serves (event.SendRefused x.agent) (reply.AgentIsFailed x.agent) tt
  sends_serve false x = adds_serves (event.Send x) reply.Done tt

  closes_serve : (b : Bool) (c : CellId) (v : Value) → Serves a book (closes_at b a c v book)
  closes_serve true c v = quiet_serves (reply.Changed c) (λ f. f)
  closes_serve false c v = adds_serves (event.Swap v) reply.Done tt

  peek_serves : (cells : List CellDefinition) (b : Bool) (c : CellId) (v u : Value) → Serves a book (if b then adds a (event.Read c) (reply.Is v) book else adds a (event.Read c) (reply.Is u) book)
  peek_serves cells true c v u = adds_serves (event.Read c) (reply.Is v) tt
  peek_serves cells false c v u = adds_serves (event.Read c) (reply.Is u) tt

  never_full : (n : ℕ) (v : Value) (o : Option Action) → IsFull (takes o n v) → ⊥
  never_full n v None f = f
  never_full n v (Some x) f = f

  -- whatever is asked, an event of the actor is added at most
  pub serves : (cells : List CellDefinition) (q : Ask) → Serves a book (serve_on cells a q book)
  serves cells ask.Begin = quiet_serves (reply.At (length book)) (λ f. f)
  serves cells (ask.Look c p) = looks_serve (is_outdated c.number p book) cells c p
  serves cells (ask.View cs) = quiet_serves _ (λ f. f)
  serves cells (ask.Commit p sets ensured q commuted sends) =
      commits_serve (least_written book p (cells_in sets ++ ensured)) (least_written book q (cells_in commuted)) (first_failed (cells_of cells) book sends) p q (merged sets commuted) sends
  serves cells (ask.Fail p q) = adds_serves (event.Fail p q) reply.Done tt
  serves cells (ask.Peek c) = peek_serves cells (is_atom c) c _ _
  serves cells (ask.Send x) = sends_serve (is_failed (cells_of cells) book x.agent) x
  serves cells (ask.Take g) = quiet_serves _ (never_full _ _ (next_action (cells_of cells) book g))
  serves cells (ask.Finish g new sends) =
      finishes_serve (first_failed (cells_of cells) book sends) g (suc (mail_after (cells_of cells) book g.number).acts) new sends (span_of (mail_after (cells_of cells) book g.number).actions)
  serves cells (ask.OpenAt c) = quiet_serves _ (λ f. f)
  serves cells (ask.CloseAt c None v) = closes_serve false c v
  serves cells (ask.CloseAt c (Some p) v) = closes_serve (swapped_since p book) c v
  serves cells (ask.Broke c p) = adds_serves (event.Broke p) reply.Done tt

-- ---- the books of atoms

is_atom_kind : (k : CellKind) → same_kind k Atom ≡ true → k ≡ Atom
is_atom_kind Ref h = absurd (false≢true h)
is_atom_kind Atom h = refl
is_atom_kind Agent h = absurd (false≢true h)

turned_kind : (k : CellKind) → same_kind Atom k ≡ true → same_kind k Atom ≡ true
turned_kind Ref h = absurd (false≢true h)
turned_kind Atom h = refl
turned_kind Agent h = absurd (false≢true h)

-- whether the cell with this number is an atom, by the definitions
abbrev atom_at : List CellDefinition → ℕ → Bool
atom_at cells k = is_of_kind Atom (nth (cells_of cells) k)

-- atoms with as many atoms before them are the same
one_number : (cells : List CellDefinition) (j k : ℕ) → atom_at cells j ≡ true → atom_at cells k ≡ true → atoms_below cells j ≡ atoms_below cells k → j ≡ k
one_number [] j k hj hk e = absurd (false≢true hj)
one_number (d ∷ ds) zero zero hj hk e = refl
one_number (d ∷ ds) zero (suc k) hj hk e = absurd (go (same_kind d.kind Atom) (turned_kind d.kind hj) e)
  where
    go : (b : Bool) → b ≡ true → 0 ≡ (if b then suc (atoms_below ds k) else atoms_below ds k) → ⊥
    go true h e = omega (arith, e)
    go false h e = absurd (false≢true h)
one_number (d ∷ ds) (suc j) zero hj hk e = absurd (go (same_kind d.kind Atom) (turned_kind d.kind hk) e)
  where
    go : (b : Bool) → b ≡ true → (if b then suc (atoms_below ds j) else atoms_below ds j) ≡ 0 → ⊥
    go true h e = omega (arith, e)
    go false h e = absurd (false≢true h)
one_number (d ∷ ds) (suc j) (suc k) hj hk e = ap suc (one_number ds j k hj hk (go (same_kind d.kind Atom) e))
  where
    go : (b : Bool) → (if b then suc (atoms_below ds j) else atoms_below ds j) ≡ (if b then suc (atoms_below ds k) else atoms_below ds k) → atoms_below ds j ≡ atoms_below ds k
    go true e = omega (arith, e)
    go false e = e

same_id : (c d : CellId) → c.kind ≡ d.kind → c.number ≡ d.number → c ≡ d
same_id c d p q = rw (p, q) refl

atom_home : (cells : List CellDefinition) (c : CellId) → is_atom c ≡ true → home cells c ≡ suc (atoms_below cells c.number)
atom_home cells c h = ap (λ b. if b then suc (atoms_below cells c.number) else 0) h

store_home : (cells : List CellDefinition) (c : CellId) → is_atom c ≡ false → home cells c ≡ 0
store_home cells c h = ap (λ b. if b then suc (atoms_below cells c.number) else 0) h

-- an atom's kind and number
there : (cells : List CellDefinition) (c : CellId) → has_atom cells c ≡ true → (c.kind ≡ Atom) × (atom_at cells c.number ≡ true)
there cells c h =
    let g = and_both (is_atom c) (has_cell (cells_of cells) c) h in
    let k = is_atom_kind c.kind g.0 in
    (k, subst (λ i. is_of_kind i (nth (cells_of cells) c.number) ≡ true) k g.1)

-- two atoms with one book are one
one_book : (cells : List CellDefinition) (c d : CellId) → has_atom cells c ≡ true → has_atom cells d ≡ true → home cells c ≡ home cells d → c ≡ d
one_book cells c d hc hd e =
    let x = there cells c hc in
    let y = there cells d hd in
    let ic = (and_both (is_atom c) (has_cell (cells_of cells) c) hc).0 in
    let id = (and_both (is_atom d) (has_cell (cells_of cells) d) hd).0 in
    same_id c d (x.0 ∙ sym y.0) (one_number cells c.number d.number x.1 y.1 (one_less (atoms_below cells c.number) (atoms_below cells d.number) (sym (atom_home cells c ic) ∙ e ∙ atom_home cells d id)))
  where
    one_less : (m n : ℕ) → suc m ≡ suc n → m ≡ n
    one_less m n h = omega (arith, h)

-- ---- legal books of atoms

each_more : (P : List Event → Event → Type 0) (done es : List Event) (e : Event) → Each P done es → P (done ++ es) e → Each P done (es ++ e ∷ [])
each_more P done [] e h p = (subst (λ l. P l e) (append_nil done) p, tt)
each_more P done (d ∷ es) e h p = (h.0, each_more P (done ++ d ∷ []) es e h.1 (subst (λ l. P l e) (sym (apart done d es)) p))
  where
    apart : (xs : List Event) (x : Event) (ys : List Event) → (xs ++ x ∷ []) ++ ys ≡ xs ++ x ∷ ys
    apart [] x ys = refl
    apart (z ∷ xs) x ys = ap (λ l. z ∷ l) (apart xs x ys)

one_more : (es : List Event) (e : Event) → length (es ++ e ∷ []) ≡ suc (length es)
one_more [] e = refl
one_more (d ∷ es) e = ap suc (one_more es e)

adds_legal : (c : CellId) (a : ℕ) (book : List Event) (kind : EventKind) (r : Reply) → LegalAtomKind c book a kind → LegalAtom c book → LegalAtom c (adds a kind r book).book
adds_legal c a book kind r k l = go (nat_lt (length book) most_events) refl
  where
    go : (b : Bool) → nat_lt (length book) most_events ≡ b → LegalAtom c (added b a kind r book).book
    go false e = l
    go true e = record {
      few = (let n = one_more book (event_of a kind) in grind (arith, nat_tests, e, n));
      each = each_more (λ done x. LegalAtomKind c done x.actor x.kind) [] book (event_of a kind) l.each k;
    }

closes_legal : (b : Bool) (c : CellId) (a : ℕ) (v : Value) (book : List Event) → LegalAtom c book → LegalAtom c (closes_at b a c v book).book
closes_legal true c a v book l = l
closes_legal false c a v book l = adds_legal c a book (event.Swap v) reply.Done tt l

-- an event of an actor comes to a book of actors, or none
adds_actor : (threads a : ℕ) (book : List Event) (kind : EventKind) (r : Reply) → a < threads → AreActors threads book → AreActors threads (adds a kind r book).book
adds_actor threads a book kind r k l = go (nat_lt (length book) most_events)
  where
    go : (b : Bool) → AreActors threads (added b a kind r book).book
    go false = l
    go true = each_more (λ done x. x.actor < threads) [] book (event_of a kind) l k

closes_actor : (b : Bool) (c : CellId) (threads a : ℕ) (v : Value) (book : List Event) → a < threads → AreActors threads book → AreActors threads (closes_at b a c v book).book
closes_actor true c threads a v book k l = l
closes_actor false c threads a v book k l = adds_actor threads a book (event.Swap v) reply.Done k l

-- ---- what is shared

module _ (keeps : ServeKeeps) (cells : List CellDefinition) (threads : ℕ) (sh : Shared) (a : ℕ) (st : SharedStands cells threads sh) where
  -- the store served it
  by_store : (q : Ask) → book_for cells q ≡ 0 → is_lawful (store_of cells threads sh) a q ≡ true → SharedStands cells threads (shared_after cells q (serve (cells_of cells) a q (sh.books 0)) sh)
  by_store q h may = record {
    store = subst (λ n. StoreStands (store_with (cells_of cells) threads (if 0 == n then v.book else sh.books 0) (taken_after q v.reply sh.taken))) (sym h) (keeps (store_of cells threads sh) a q may st.store);
    atoms = λ c hc. subst (λ n. LegalAtom c (if home cells c == n then v.book else sh.books (home cells c))) (sym h)
        (subst (λ (b : Bool). LegalAtom c (if b then v.book else sh.books (home cells c))) (sym (not_store c hc)) (st.atoms c hc));
    by_threads = λ c hc. subst (λ n. AreActors (actors threads (cells_of cells)) (if home cells c == n then v.book else sh.books (home cells c))) (sym h)
        (subst (λ (b : Bool). AreActors (actors threads (cells_of cells)) (if b then v.book else sh.books (home cells c))) (sym (not_store c hc)) (st.by_threads c hc));
  }
    where
      v : Served
      v = serve (cells_of cells) a q (sh.books 0)

      not_zero : (n m : ℕ) → n ≡ suc m → (n == 0) ≡ false
      not_zero n m e = go (n == 0) refl
        where
          go : (b : Bool) → (n == 0) ≡ b → (n == 0) ≡ false
          go true g = absurd (let z = numbers n 0 g in omega (arith, e, z))
          go false g = g

      not_store : (c : CellId) → has_atom cells c ≡ true → (home cells c == 0) ≡ false
      not_store c hc = not_zero (home cells c) (atoms_below cells c.number) (atom_home cells c (and_both (is_atom c) (has_cell (cells_of cells) c) hc).0)

  -- an atom's book served it
  by_atom : (q : Ask) (c : CellId) → has_atom cells c ≡ true → book_for cells q ≡ home cells c → ((r : Reply) → taken_after q r sh.taken ≡ sh.taken) → (v : Served) → LegalAtom c v.book → AreActors (actors threads (cells_of cells)) v.book → SharedStands cells threads (shared_after cells q v sh)
  by_atom q c hc h same v l m = record {
    store = subst (λ n. StoreStands (store_with (cells_of cells) threads (if 0 == n then v.book else sh.books 0) (taken_after q v.reply sh.taken))) (sym h)
        (subst (λ (b : Bool). StoreStands (store_with (cells_of cells) threads (if b then v.book else sh.books 0) (taken_after q v.reply sh.taken))) (sym (not_atom (home cells c) (atoms_below cells c.number) (atom_home cells c (and_both (is_atom c) (has_cell (cells_of cells) c) hc).0)))
        (subst (λ t. StoreStands (store_with (cells_of cells) threads (sh.books 0) t)) (sym (same v.reply)) st.store));
    atoms = λ d hd. subst (λ n. LegalAtom d (if home cells d == n then v.book else sh.books (home cells d))) (sym h) (of d hd (home cells d == home cells c) refl);
    by_threads = λ d hd. subst (λ n. AreActors (actors threads (cells_of cells)) (if home cells d == n then v.book else sh.books (home cells d))) (sym h) (of_threads d hd (home cells d == home cells c));
  }
    where
      not_atom : (n m : ℕ) → n ≡ suc m → (0 == n) ≡ false
      not_atom n m e = go (0 == n) refl
        where
          go : (b : Bool) → (0 == n) ≡ b → (0 == n) ≡ false
          go true g = absurd (let z = numbers 0 n g in omega (arith, e, z))
          go false g = g

      of : (d : CellId) → has_atom cells d ≡ true → (b : Bool) → (home cells d == home cells c) ≡ b → LegalAtom d (if b then v.book else sh.books (home cells d))
      of d hd true e = subst (λ i. LegalAtom i v.book) (one_book cells c d hc hd (sym (numbers (home cells d) (home cells c) e))) l
      of d hd false e = st.atoms d hd

      of_threads : (d : CellId) → has_atom cells d ≡ true → (b : Bool) → AreActors (actors threads (cells_of cells)) (if b then v.book else sh.books (home cells d))
      of_threads d hd true = m
      of_threads d hd false = st.by_threads d hd

  an_actor : (b : Bool) → (nat_lt a (actors threads (cells_of cells)) && b) ≡ true → a < actors threads (cells_of cells)
  an_actor b h = let k = (and_both (nat_lt a (actors threads (cells_of cells))) b h).0 in grind (arith, nat_tests, k)

  tested : (b : Bool) → (nat_lt a (actors threads (cells_of cells)) && b) ≡ true → b ≡ true
  tested b h = (and_both (nat_lt a (actors threads (cells_of cells))) b h).1

  at_peek : (c : CellId) (u : Value) (b : Bool) → is_atom c ≡ b → (nat_lt a (actors threads (cells_of cells)) && has_cell (cells_of cells) c) ≡ true
      → SharedStands cells threads (shared_after cells (ask.Peek c) (if b then adds a (event.Read c) (reply.Is u) (sh.books (home cells c)) else serve (cells_of cells) a (ask.Peek c) (sh.books (home cells c))) sh)
  at_peek c u true e may =
      let hc = both e (tested (has_cell (cells_of cells) c) may) in
      by_atom (ask.Peek c) c hc refl (λ r. refl) (adds a (event.Read c) (reply.Is u) (sh.books (home cells c))) (adds_legal c a (sh.books (home cells c)) (event.Read c) (reply.Is u) refl (st.atoms c hc))
      (adds_actor (actors threads (cells_of cells)) a (sh.books (home cells c)) (event.Read c) (reply.Is u) (an_actor (has_cell (cells_of cells) c) may) (st.by_threads c hc))
    where
      both : is_atom c ≡ true → has_cell (cells_of cells) c ≡ true → has_atom cells c ≡ true
      both p q = rw (p, q) refl
  at_peek c u false e may =
      subst (λ n. SharedStands cells threads (shared_after cells (ask.Peek c) (serve (cells_of cells) a (ask.Peek c) (sh.books n)) sh)) (sym (store_home cells c e))
      (by_store (ask.Peek c) (store_home cells c e) (readable e may))
    where
      readable : is_atom c ≡ false → (nat_lt a (actors threads (cells_of cells)) && has_cell (cells_of cells) c) ≡ true → (nat_lt a (actors threads (cells_of cells)) && (not (is_atom c) && has_cell (cells_of cells) c)) ≡ true
      readable p q = subst (λ (b : Bool). (nat_lt a (actors threads (cells_of cells)) && (not b && has_cell (cells_of cells) c)) ≡ true) (sym p) q

  -- what is shared stands after an ask that may be made
  pub serving_stands : (q : Ask) → may_ask cells threads sh.taken a q (sh.books (book_for cells q)) ≡ true → SharedStands cells threads (shared_after cells q (serve_on cells a q (sh.books (book_for cells q))) sh)
  serving_stands ask.Begin may = by_store ask.Begin refl may
  serving_stands (ask.Look c p) may = by_store (ask.Look c p) refl may
  serving_stands (ask.View cs) may = by_store (ask.View cs) refl may
  serving_stands (ask.Commit p sets ensured q commuted sends) may = by_store (ask.Commit p sets ensured q commuted sends) refl may
  serving_stands (ask.Fail p q) may = by_store (ask.Fail p q) refl may
  serving_stands (ask.Peek c) may = at_peek c (atom_newest (atom_of cells c (sh.books (home cells c)))) (is_atom c) refl may
  serving_stands (ask.Send x) may = by_store (ask.Send x) refl may
  serving_stands (ask.Take g) may = by_store (ask.Take g) refl may
  serving_stands (ask.Finish g new sends) may = by_store (ask.Finish g new sends) refl may
  serving_stands (ask.OpenAt c) may = by_atom (ask.OpenAt c) c (tested (has_atom cells c) may) refl (λ r. refl) (serve_on cells a (ask.OpenAt c) (sh.books (home cells c))) (st.atoms c (tested (has_atom cells c) may)) (st.by_threads c (tested (has_atom cells c) may))
  serving_stands (ask.CloseAt c None v) may =
      let hc = (and_both (has_atom cells c) true (tested (has_atom cells c && true) may)).0 in
      by_atom (ask.CloseAt c None v) c hc refl (λ r. refl) (serve_on cells a (ask.CloseAt c None v) (sh.books (home cells c))) (closes_legal false c a v (sh.books (home cells c)) (st.atoms c hc))
      (closes_actor false c (actors threads (cells_of cells)) a v (sh.books (home cells c)) (an_actor (has_atom cells c && true) may) (st.by_threads c hc))
  serving_stands (ask.CloseAt c (Some p) v) may =
      let hc = (and_both (has_atom cells c) (may_name true (sh.books (home cells c)) a p) (tested (has_atom cells c && may_name true (sh.books (home cells c)) a p) may)).0 in
      by_atom (ask.CloseAt c (Some p) v) c hc refl (λ r. refl) (serve_on cells a (ask.CloseAt c (Some p) v) (sh.books (home cells c))) (closes_legal (swapped_since p (sh.books (home cells c))) c a v (sh.books (home cells c)) (st.atoms c hc))
      (closes_actor (swapped_since p (sh.books (home cells c))) c (actors threads (cells_of cells)) a v (sh.books (home cells c)) (an_actor (has_atom cells c && may_name true (sh.books (home cells c)) a p) may) (st.by_threads c hc))
  serving_stands (ask.Broke c p) may =
      let h = and_both (has_atom cells c) (may_name true (sh.books (home cells c)) a p) (tested (has_atom cells c && may_name true (sh.books (home cells c)) a p) may) in
      by_atom (ask.Broke c p) c h.0 refl (λ r. refl) (serve_on cells a (ask.Broke c p) (sh.books (home cells c))) (adds_legal c a (sh.books (home cells c)) (event.Broke p) reply.Done h.1 (st.atoms c h.0))
      (adds_actor (actors threads (cells_of cells)) a (sh.books (home cells c)) (event.Broke p) reply.Done (an_actor (has_atom cells c && may_name true (sh.books (home cells c)) a p) may) (st.by_threads c h.0))
