-- An act of an agent in legal books: the action and the state that it ran on.
use Rattle.std.proofs.Common.{◌≡◌, ℕ, zero, suc, ◌+◌, ◌<◌, ◌==◌, ◌&&◌, Bool, true, false, List, [], ◌∷◌, ◌++◌, length, take, Option, Some, None, Result, refl, sym, ap, ◌∙◌, subst, arith, if◌then◌else◌, Fits, w16}
use Rattle.std.specs.Prelude.{not, nat_lt}
use Rattle.std.proofs.lemmas.Bool.{eqb-true, false≢true, lt-ltb}
use Rattle.std.proofs.lemmas.List.{append-nil}
use Rattle.txs_value_data.specs.Places.{nth}
use Rattle.txs_value_data.specs.declared.fault.Fault.{Fault}
use Rattle.txs_value_cell.specs.Cells.{World}
use Rattle.txs_value_cell.specs.Forms.{same_kind}
use Rattle.txs_value_cell.specs.declared.action.Action.{Action}
use Rattle.txs_value_data.specs.Limits.{most_events}
use Rattle.txs_value_data.specs.declared.value.CellId.{CellId}
use Rattle.txs_value_data.specs.declared.value.CellKind.{CellKind}
use Rattle.txs_value_data.specs.declared.value.CellKind.TheVariants.{Agent}
use Rattle.txs_value_data.specs.declared.value.Value.{Value}
use Rattle.txs_world.specs.Store.{first_action, next_action}
use Rattle.txs_world_book.specs.Book.{actors, after, are_sends, changed, first_failed, has_agent, is_of_kind, is_failed, is_there, mail_after, makes, may_send, newest, opening, waits}
use Rattle.txs_world_book.specs.Served.{cells_of}
use Rattle.txs_world_book.specs.declared.cell.StoreCell.{StoreCell}
use Rattle.txs_world_protocol.specs.declared.event.Event.{Event}
use Rattle.txs_world_protocol.specs.declared.event.EventKind.{EventKind}
use Rattle.txs_world_protocol.specs.declared.event.EventKind.TheVariants.{Read, Commit, Retry, Fail, Refused, Send, SendRefused, Act, Swap, Broke}
use Rattle.txs_tree_meaning.proofs.Callable.{both}
use Rattle.txs_tree_meaning.proofs.Soundness.{threads-length}
use Rattle.txs_tree_meaning.specs.Sound.{Sound}
use Rattle.txs_tree_meaning.specs.declared.node.Thread.{Thread}
use Rattle.txs_tree_meaning.specs.View.{Parts, program_of, threads_of}
use Rattle.txs_theorem_runs.specs.Told.{Place}
use Rattle.txs_theorem_serial.specs.Whole.{is_act, is_act_kind}
use Rattle.txs_theorem_audit.proofs.Agreeing.{sized_of}
use Rattle.txs_theorem_audit.proofs.Findings.{and_fine, check_fine, not_there, not_true}
use Rattle.txs_theorem_audit.proofs.Listing.{there_is, within}
use Rattle.txs_theorem_audit.specs.Audited.{Fine, books_of, check}
use Rattle.txs_theorem_serial.specs.Order.{book_or_none}
use Rattle.txs_theorem_audit.specs.Verdict.{atoms_from, book_found, is_legal_kind, is_legal_swap}
use Rattle.txs_audit_book.specs.Replayed.{IsLegalBook, IsRun, value_there}
use Rattle.txs_audit_book.specs.Swapped.{atom_test}
use Rattle.txs_audit_book.specs.Tests.{store_test}
use Rattle.txs_audit_evidence.specs.Acted.{HasAct, IsAct, NamesAct}
use Rattle.txs_audit_evidence.specs.Evidence.{AreLegal, PlainBooks, replay_in}
use Rattle.txs_audit_evidence.specs.declared.acts.Act as act
use Rattle.txs_audit_evidence.proofs.Looking.{cells_many}
use Rattle.txs_audit_book.proofs.Numbering.{agents_few}

-- ---- legal books

some_is : (x y : Event) → Some x ≡ Some y → x ≡ y
some_is x y e = ap (λ o. event_or o) e
  where
    event_or : Option Event → Event
    event_or None = x
    event_or (Some w) = w

joined : (xs : List Event) (x : Event) (ys : List Event) → xs ++ x ∷ ys ≡ (xs ++ x ∷ []) ++ ys
joined [] x ys = refl
joined (z ∷ xs) x ys = ap (λ l. z ∷ l) (joined xs x ys)

module _ (test : List Event → Event → Bool) (index : ℕ → ℕ → ℕ) where
  passes : (done : List Event) (d : Event) (es : List Event) → book_found test index done (d ∷ es) ≡ Fine → (test done d ≡ true) × (book_found test index (done ++ d ∷ []) es ≡ Fine)
  passes done d es h =
      let parts = and_fine (check (nat_lt (length done) most_events && test done d) d.actor (index d.actor (length done))) (book_found test index (done ++ d ∷ []) es) h in
      ((both (nat_lt (length done) most_events) (test done d) (check_fine (nat_lt (length done) most_events && test done d) d.actor (index d.actor (length done)) parts.0)).1, parts.1)

  -- each event of a legal book passes the test behind those before it
  legal_behind : (done es : List Event) → book_found test index done es ≡ Fine → (k : ℕ) (e : Event) → nth es k ≡ Some e → test (done ++ take k es) e ≡ true
  legal_behind done [] h k e is = not_there is
  legal_behind done (d ∷ es) h zero e is =
      ap (λ l. test l e) (append-nil done) ∙ ap (test done) (sym (some_is d e is)) ∙ (passes done d es h).0
  legal_behind done (d ∷ es) h (suc k) e is =
      ap (λ l. test l e) (joined done d (take k es)) ∙ legal_behind (done ++ d ∷ []) es (passes done d es h).1 k e is

pub legal_at : (test : List Event → Event → Bool) (book : List Event) → IsLegalBook test book → (k : ℕ) (e : Event) → nth book k ≡ Some e → test (take k book) e ≡ true
legal_at test book h k e is = legal_behind test (λ a i. 0) [] book (h (λ a i. 0)) k e is

-- the value behind so many events is the newest one of their book
newest_at : (R : World) (es : List Event) (p k : ℕ) → newest R (take p es) k ≡ after R es p k
newest_at R [] zero k = refl
newest_at R [] (suc p) k = refl
newest_at R (e ∷ es) zero k = refl
newest_at R (e ∷ es) (suc p) k = newest_at (changed e.kind R) es p k

-- ---- an act of the store's book

-- what its legality says
record MayAct (cells : List StoreCell) (done : List Event) (g : CellId) (n : ℕ) : Type 0 where
  agent : has_agent cells g ≡ true
  goes : is_failed cells done g ≡ false
  waiting : waits (mail_after cells done g.number).actions ≡ true
  number : n ≡ suc (mail_after cells done g.number).acts

may_act : (cells : List StoreCell) (done : List Event) (a : ℕ) (g : CellId) (n : ℕ) (new : Result Value Fault) (sends : List Action) → is_legal_kind cells done a (Act g n new sends) ≡ true → MayAct cells done g n
may_act cells done a g n new sends h =
    let sent = may_send new sends && (are_sends cells sends && not (is_there (first_failed cells done sends))) in
    let last = n == suc (mail_after cells done g.number).acts && sent in
    let x = both (has_agent cells g) (not (is_failed cells done g) && (waits (mail_after cells done g.number).actions && last)) h in
    let y = both (not (is_failed cells done g)) (waits (mail_after cells done g.number).actions && last) x.1 in
    let z = both (waits (mail_after cells done g.number).actions) last y.1 in
    let w = both (n == suc (mail_after cells done g.number).acts) sent z.1 in
    record { agent = x.0; goes = not_true (is_failed cells done g) y.0; waiting = z.0; number = eqb-true n (suc (mail_after cells done g.number).acts) w.0 }

cell_within : (cells : List StoreCell) (k : CellKind) (n : ℕ) → is_of_kind k (nth cells n) ≡ true → n < length cells
cell_within [] k n h = absurd (false≢true h)
cell_within (c ∷ cells) k zero h = omega arith
cell_within (c ∷ cells) k (suc n) h = let lt = cell_within cells k n h in omega (arith, lt)

module _ (b : PlainBooks) (legal : AreLegal b) (a : act.Act) (has : HasAct b a) where
  abbrev cells : List StoreCell
  cells = cells_of b.program.cells

  abbrev before : List Event
  before = take a.at b.report.book

  stands : MayAct cells before a.agent a.number × (a.at < length b.report.book)
  stands =
      let e = has.0 in
      let test = legal_at (store_test cells (length b.program.threads)) b.report.book legal.store a.at e has.1 in
      let kind = (both (makes cells (length b.program.threads) e.actor e.kind) (is_legal_kind cells before e.actor e.kind) test).1 in (
        may_act cells before e.actor a.agent a.number a.new.now a.sends.now (subst (λ d. is_legal_kind cells before e.actor d ≡ true) has.2 kind),
        within b.report.book a.at e has.1,
      )

  -- its agent is there
  pub agent_within : a.agent.number < length cells
  agent_within = cell_within cells a.agent.kind a.agent.number (both (same_kind a.agent.kind Agent) (is_of_kind a.agent.kind (nth cells a.agent.number)) stands.0.agent).1

  -- the action with its number is the one that the agent runs next
  pub action_is : (o : Option Action) → (a.agent.number < length b.program.cells → IsRun (replay_in b) a.agent.number a.number o) → o ≡ next_action cells before a.agent
  action_is o run =
      first (mail_after cells before a.agent.number).actions refl stands.0.waiting
      ∙ ap (λ t. first_action t (mail_after cells before a.agent.number).actions) (sym stands.0.goes)
    where
      first : (xs : List Action) → (mail_after cells before a.agent.number).actions ≡ xs → waits xs ≡ true → o ≡ first_action false (mail_after cells before a.agent.number).actions
      first [] e h = absurd (false≢true h)
      first (x ∷ xs) e h =
          let lt = stands.1 in
          let cell = agent_within in
          let many = cells_many b in
          run (omega (arith, cell, many)) a.at (omega (arith, lt)) stands.0.number x xs e ∙ ap (first_action false) (sym e)

  -- and the state is the one before it
  pub state_is : (v : Option Value) → v ≡ value_there (replay_in b) a.agent.number a.at → v ≡ Some (newest (opening cells) before a.agent.number)
  state_is v is =
      is ∙ ap (λ t. if t then Some (after (opening cells) b.report.book a.at a.agent.number) else None) (lt-ltb a.agent.number (length cells) agent_within)
      ∙ ap Some (sym (newest_at (opening cells) b.report.book a.at a.agent.number))

-- the newest state of an agent is the one behind the whole book
pub last_state : (b : PlainBooks) (g : CellId) → g.number < length b.program.cells → (k : ℕ) → k ≡ length b.report.book → (v : Option Value) → v ≡ value_there (replay_in b) g.number k
    → v ≡ Some (newest (opening (cells_of b.program.cells)) b.report.book g.number)
last_state b g lt k all v is =
    let many = cells_many b in
    is ∙ ap (λ t. if t then Some (after (opening (cells_of b.program.cells)) b.report.book k g.number) else None) (lt-ltb g.number (length (cells_of b.program.cells)) (omega (arith, lt, many)))
    ∙ ap (λ m. Some (after (opening (cells_of b.program.cells)) b.report.book m g.number)) all

-- ---- an atom's book

-- there is no act there
not_act : (front : List Event) (c : CellId) (a : ℕ) (d : EventKind) → is_legal_swap c front a d ≡ true → is_act_kind d ≡ false
not_act front c a (Read d) h = refl
not_act front c a (Commit at view ws sends) h = refl
not_act front c a (Retry since d cause) h = refl
not_act front c a (Fail at view) h = refl
not_act front c a (Refused at view g) h = refl
not_act front c a (Send x) h = refl
not_act front c a (SendRefused g) h = refl
not_act front c a (Act g m new sends) h = absurd (false≢true h)
not_act front c a (Swap new) h = refl
not_act front c a (Broke at) h = refl

-- a book of atoms that has an event is that of an atom
book_within : (books : List (List Event)) (m at : ℕ) (e : Event) → nth (book_or_none (nth books m)) at ≡ Some e → m < length books
book_within [] m at e h = not_there h
book_within (x ∷ xs) zero at e h = omega arith
book_within (x ∷ xs) (suc m) at e h = let lt = book_within xs m at e h in omega (arith, lt)

atom_acts : (b : PlainBooks) → AreLegal b → (m at : ℕ) → is_act (nth (books_of b.report (suc m)) at) ≡ false
atom_acts b legal m at = by_event (nth (books_of b.report (suc m)) at) refl
  where
    by_event : (o : Option Event) → nth (books_of b.report (suc m)) at ≡ o → is_act o ≡ false
    by_event None e = refl
    by_event (Some x) e =
        let lt = book_within b.report.atom_books m at x e in
        let many = (sized_of (program_of b.program) b.report legal.fits).atoms in
        let c = there_is (atoms_from 0 b.program.cells) m (omega (arith, lt, many)) in
        let all = actors (length b.program.threads) (cells_of b.program.cells) in
        let ok = legal_at (atom_test c.0 all) (books_of b.report (suc m)) (legal.atoms m c.0 c.1) at x e in
        not_act (take at (books_of b.report (suc m))) c.0 x.actor x.kind (both (nat_lt x.actor all) (is_legal_swap c.0 (take at (books_of b.report (suc m))) x.actor x.kind) ok).1

-- ---- an entry of a trace

-- in a book that isn't the store's it names none
pub other_book : (b : PlainBooks) → AreLegal b → (k at : ℕ) → (k ≡ 0 → ⊥) → is_act (nth (books_of b.report k) at) ≡ false
other_book b legal zero at other = absurd (other refl)
other_book b legal (suc m) at other = atom_acts b legal m at

-- what an event of the store's book is, is what an entry names that names it
pub named_act : (b : PlainBooks) (q : Place) (e : Event) → q.book ≡ 0 → nth (books_of b.report q.book) q.at ≡ Some e → (o : Option act.Act) → IsAct e.kind q.at o → NamesAct b q o
named_act b q e home there None is = ap is_act there ∙ is
named_act b q e home there (Some a) is = (home, is.1, (e, ap (nth b.report.book) is.1 ∙ ap (λ k. nth (books_of b.report k) q.at) (sym home) ∙ there, is.0))

pub names_none : (b : PlainBooks) (q : Place) → nth (books_of b.report q.book) q.at ≡ None → NamesAct b q None
names_none b q there = ap is_act there

-- ---- numbers of actors

-- an actor's number is small
few_actors : (b : PlainBooks) → AreLegal b → Sound (program_of b.program) → (i : ℕ) → i < length b.report.agents → length b.program.threads + i < 65536
few_actors b legal sound i lt =
    let agents = (sized_of (program_of b.program) b.report legal.fits).agents in
    let few = agents_few b.program.cells in
    let cells = sound.scoped.few_cells in
    let threads = sound.scoped.few_threads in
    let many = threads-length b.program.threads in
    omega (arith, lt, agents, few, cells, threads, many)

fits_word : (n : ℕ) → n < 65536 → Fits w16 n
fits_word n lt = omega (arith, lt)

module _ (b : PlainBooks) (p : Parts) (ts : List Thread) (i : ℕ) (lt : i < length b.report.agents) (legal : AreLegal b) (same : p ≡ b.program) (threads : ts ≡ p.threads) (sound : Sound (program_of p)) where
  few_here : length ts + i < 65536
  few_here =
      subst (λ n. n + i < 65536) (ap (λ (x : Parts). length x.threads) (sym same) ∙ ap length (sym threads)) (few_actors b legal (subst (λ (x : Parts). Sound (program_of x)) same sound) i lt)

  pub threads_fit : Fits w16 (length ts)
  threads_fit = let few = few_here in fits_word (length ts) (omega (arith, few))

  pub actor_fits : Fits w16 (length ts + i)
  actor_fits = fits_word (length ts + i) few_here

  pub actor_is : length ts + i ≡ length (threads_of b.program.threads) + i
  actor_is = ap (λ n. n + i) (ap length threads ∙ ap (λ (x : Parts). length x.threads) same ∙ sym (threads-length b.program.threads))
