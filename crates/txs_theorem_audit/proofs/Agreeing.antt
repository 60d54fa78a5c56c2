-- A program explains a report on which an audit agrees.
use Rattle.std.proofs.Common.{◌≡◌, ◌<◌, ◌≤◌, ℕ, zero, suc, ◌+◌, ◌==◌, ◌&&◌, ◌||◌, Bool, true, false, List, [], ◌∷◌, ◌++◌, length, length-append, take, Option, Some, None, Result, Ok, Err, refl, sym, ap, ◌∙◌, subst, arith, ⊎_elim, ◌⊎◌, if◌then◌else◌, drop, append_assoc, inl, inr}
use Rattle.std.specs.Prelude.{not, nat_lt, ◌-◌, nat_le}
use Rattle.std.proofs.lemmas.Bool.{eqb-true, false≢true, eq-eqb, leb-true, cases_lt}
use Rattle.std.proofs.lemmas.Bool.Decides.{nat_tests}
use Rattle.std.proofs.lemmas.List.{append-nil}
use Rattle.txs_value_data.specs.Places.{nth, fault_at}
use Rattle.txs_value_data.specs.declared.fault.Fault.{Fault}
use Rattle.txs_value_data.specs.declared.op.Callee.{Callee}
use Rattle.txs_value_data.specs.declared.op.Callee.TheVariants.{Core as CoreOp, Function}
use Rattle.txs_value_cell.specs.Agents.{agents_from}
use Rattle.txs_value_cell.specs.Cells.{Validators, validators_of}
use Rattle.txs_value_cell.specs.Forms.{same_kind}
use Rattle.txs_value_cell.specs.declared.action.Action.{Action}
use Rattle.txs_value_cell.specs.declared.cell.CellDefinition.{CellDefinition}
use Rattle.txs_value_data.specs.Limits.{most_events, most_items}
use Rattle.txs_value_data.specs.declared.value.CellId.{CellId}
use Rattle.txs_value_data.specs.declared.value.CellKind.TheVariants.{Atom}
use Rattle.txs_value_data.specs.declared.value.Value.{Value}
use Rattle.txs_world_protocol.proofs.AskLemmas.{same_value-sound, same_cell-sound, same_ask-sound, same_actions-sound}
use Rattle.txs_world_protocol.specs.Ask.{same_value, same_fault, same_new, same_actions}
use Rattle.txs_world_protocol.specs.SeenEvent.{SeenEvent, home}
use Rattle.txs_world_protocol.specs.declared.ask.Ask.{Ask}
use Rattle.txs_world_protocol.specs.declared.ask.Ask.TheVariants as ask
use Rattle.txs_world_protocol.specs.declared.event.Event.{Event}
use Rattle.txs_world_protocol.specs.declared.event.EventKind.{EventKind}
use Rattle.txs_world_protocol.specs.declared.event.EventKind.TheVariants.{Read, Commit, Retry, Fail, Refused, Send, SendRefused, Act, Swap, Broke}
use Rattle.txs_world_protocol.specs.declared.event.Outcome.{Outcome}
use Rattle.txs_world_protocol.specs.declared.event.Outcome.TheVariants.{Done, Failed, StepsSpent, JournalFull, Memory}
use Rattle.txs_world_book.specs.Atom.{LegalAtomKind, atom_after}
use Rattle.txs_world_book.specs.Book.{Each, Legal, LegalKind, Untouched, has_ref, has_agent, are_refs, are_sends, cells_in, may_end, may_rerun, first_failed, is_failed, is_there, is_empty, mail_after, waits, makes, newest, opening, written, actors, may_send}
use Rattle.txs_world_book.specs.Served.{cells_of}
use Rattle.txs_world_book.specs.declared.cell.StoreCell.{StoreCell}
use Rattle.txs_world.specs.Store.{next_action}
use Rattle.txs_tree_meaning.proofs.Callable.{both}
use Rattle.txs_tree_meaning.specs.Known.{Known, known}
use Rattle.txs_tree_meaning.specs.Marked.{Marked, MarkedThreads, MarkedProgram}
use Rattle.txs_tree_meaning.specs.Meaning.{Completion, Completes, Recurs, Faults, Retries, Waits, OutOfTurns, Invalid}
use Rattle.txs_tree_meaning.specs.Right.{is_wrong, eats_right, right_meaning, right_events}
use Rattle.txs_tree_meaning.specs.Sound.{Sound, SoundSource, SoundThread, SoundThreads, SoundSent, SentCall}
use Rattle.txs_tree_meaning.specs.Thread.{TxRun, ThreadState, thread_meaning}
use Rattle.txs_tree_meaning.specs.Tree.{PlainFunction, PlainProgram, PlainThread, ThreadSource, Const}
use Rattle.txs_theorem_threads.specs.FollowsAgent.{SoundAction, IsHandedIn}
use Rattle.txs_theorem_threads.proofs.Account.{begin_of}
use Rattle.txs_theorem_threads.specs.FollowsAll.{source_of}
use Rattle.txs_theorem_threads.specs.Noted.{txs_of}
use Rattle.txs_theorem_threads.specs.RepliesFit.{HasEatenAll, HasWaited, halted}
use Rattle.txs_theorem_runs.specs.Agents.{ActionDid, meaning_after, IsBooked, ActMeans, StillMeans, EventMeans, OfEvent, AtEnd, ActsUpTo, StillActs, ActsInTurn}
use Rattle.txs_theorem_runs.specs.Full.{WaitsFull, StandsFull, EndsFull}
use Rattle.txs_theorem_runs.proofs.Rounds.{acts_map}
use Rattle.txs_theorem_runs.specs.Shared.{seen_in}
use Rattle.txs_theorem_runs.specs.Told.{Place, TraceHolds, places_in, places_by, seen_before, seen_of}
use Rattle.txs_theorem_runs.specs.Transactions.{SaidAt, SaidIf, SaidOf, undisturbed}
use Rattle.txs_theorem_serial.proofs.Noting.{threads_note, actions_note, action_holds, action_waits}
use Rattle.txs_theorem_serial.specs.Serial.{RunOf, RunsOf, Noted, EndsNoted}
use Rattle.txs_value_apply.specs.Core.{takes}
use Rattle.txs_value_data.specs.declared.fault.FaultKind.TheVariants.{AgentFailed}
use Rattle.txs_value_data.specs.declared.fault.Span.{Span}
use Rattle.txs_value_data.specs.declared.value.Value.TheVariants.{Nil}
use Rattle.txs_theorem_serial.specs.Taken.{NoneIsOrdered, NamedOnACycle}
use Rattle.txs_theorem_audit.specs.Audited.{PlainActorReport, PlainReport, books_of, entry_of, Finding, Fine, Off, Short, and_then, check}
use Rattle.txs_theorem_audit.specs.Explained.{Sized, Begins, Stopped, EndsAs, events_of, meaning_of, AtomExplained, AgentExplained}
use Rattle.txs_theorem_audit.specs.Laws.{AgreesIsExplained}
use Rattle.txs_theorem_audit.specs.Verdict.{atoms_from, fits_sizes, begins, same_numbers, runs_right, names_all, in_books, trace_found, traces_found, is_legal_kind, is_legal_swap, book_found, has_values, same_failure, has_failed, store_found, atom_found, atoms_found, ends_found, order_found, is_value, length_if, index_if, is_untouched, is_first_failed, is_calm, is_end, with_run, calm_at, calm_found, is_stopped, is_done, has_faulted, least_printed, printed_part, end_found, is_full_stop, is_full_book, full_found, thread_ends, noted_by, thread_found, threads_found, acts_found, agents_found, are_serial, found, printed_by, but_last, action_after, is_sent_known, is_sent_call, sends_if, held_by, noted_in, is_booked, act_ends, action_found, action_prints, least_of, part_printed, still_ends, full_ends, rest_ends, still_found, rest_found, agent_end, kind_found, event_found, agents_serial}
use Rattle.txs_theorem_audit.proofs.Findings.{answer_fine, and_fine, check_fine, off_fine, short_fine, not_true, none_there, not_there, empty, same_numbers_sound, begins_sound}
use Rattle.txs_theorem_audit.proofs.Beginning.{cut, action_cut}
use Rattle.txs_theorem_audit.proofs.Ends.{ends_truly}
use Rattle.txs_theorem_audit.proofs.Least.{least_is, least_begins}
use Rattle.txs_theorem_audit.proofs.Resuming.{thread_resumes, action_resumes}
use Rattle.txs_theorem_audit.proofs.Timed.{in_order}
use Rattle.txs_theorem_audit.proofs.Waiting.{HasEatenUp, eaten_up, waits_front}
use Rattle.txs_theorem_audit.proofs.Listing.{behind, atom_listed, among, no_book}

-- ---- traces

names_at : (books : ℕ → List Event) (a : ℕ) (trace : List Place) (count n : ℕ) → n < count → names_all books a trace count ≡ true → places_in n trace ≡ places_by a 0 (books n)
names_at books a trace zero n lt h = absurd (omega (arith, lt))
names_at books a trace (suc m) n lt h =
    let parts = both (same_numbers (places_in m trace) (places_by a 0 (books m))) (names_all books a trace m) h in
    test (n == m) refl (same_numbers_sound (places_in m trace) (places_by a 0 (books m)) parts.0) (λ l. names_at books a trace m n l parts.1)
  where
    test : (b : Bool) → (n == m) ≡ b → places_in m trace ≡ places_by a 0 (books m) → (n < m → places_in n trace ≡ places_by a 0 (books n)) → places_in n trace ≡ places_by a 0 (books n)
    test true e here rest = subst (λ j. places_in j trace ≡ places_by a 0 (books j)) (sym (eqb-true n m e)) here
    test false e here rest = rest (grind (arith, nat_tests, e, lt))

outside_books : (count n : ℕ) (trace : List Place) → in_books count trace ≡ true → count ≤ n → places_in n trace ≡ []
outside_books count n [] h le = refl
outside_books count n (p ∷ ps) h le =
    let parts = both (nat_lt p.book count) (in_books count ps) h in
    let lt : nat_lt p.book count ≡ true = parts.0 in
    let below : p.book < count = grind (arith, nat_tests, lt) in
    test (p.book == n) refl below (outside_books count n ps parts.1 le)
  where
    test : (b : Bool) → (p.book == n) ≡ b → p.book < count → places_in n ps ≡ [] → (if b then p.at ∷ places_in n ps else places_in n ps) ≡ []
    test true e below rest = let same = eqb-true p.book n e in absurd (omega (arith, same, below, le))
    test false e below rest = rest

trace_holds : (r : PlainReport) (a : ℕ) (trace : List Place) → trace_found (books_of r) (suc (length r.atom_books)) a trace ≡ Fine → TraceHolds (books_of r) a trace
trace_holds r a trace h n =
    let count = suc (length r.atom_books) in
    let parts = both (in_books count trace) (names_all (books_of r) a trace count) (check_fine (in_books count trace && names_all (books_of r) a trace count) a (runs_right (books_of r) a [] trace) h) in
    ⊎_elim
    (λ lt. names_at (books_of r) a trace count n lt parts.1)
    (λ le. outside_books count n trace parts.0 le ∙ ap (places_by a 0) (sym (no_book r n le)))
    (cases_lt n count)

pub traces_hold : (r : PlainReport) (a : ℕ) (rans : List PlainActorReport) → traces_found (books_of r) (suc (length r.atom_books)) a rans ≡ Fine → (i : ℕ) (ran : PlainActorReport) → nth rans i ≡ Some ran → TraceHolds (books_of r) (a + i) ran.trace
traces_hold r a [] h i ran there = not_there there
traces_hold r a (x ∷ xs) h zero ran there =
    let parts = and_fine (trace_found (books_of r) (suc (length r.atom_books)) a x.trace) (traces_found (books_of r) (suc (length r.atom_books)) (suc a) xs) h in
    let same : x ≡ ran = cc in
    let z : a ≡ a + 0 = omega arith in
    subst (λ b. TraceHolds (books_of r) b ran.trace) z (subst (λ (y : PlainActorReport). TraceHolds (books_of r) a y.trace) same (trace_holds r a x.trace parts.0))
traces_hold r a (x ∷ xs) h (suc i) ran there =
    let parts = and_fine (trace_found (books_of r) (suc (length r.atom_books)) a x.trace) (traces_found (books_of r) (suc (length r.atom_books)) (suc a) xs) h in
    let z : suc a + i ≡ a + suc i = omega arith in
    subst (λ b. TraceHolds (books_of r) b ran.trace) z (traces_hold r (suc a) xs parts.1 i ran there)

-- ---- books

legal_of : (cells : List StoreCell) (done : List Event) (a : ℕ) (d : EventKind) → is_legal_kind cells done a d ≡ true → LegalKind cells done a d
legal_of cells done a (Read c) h = h
legal_of cells done a (Commit at view ws sends) h =
    let x = both (are_refs cells 0 (cells_in ws)) (are_sends cells sends && (may_end done a at view && not (is_there (first_failed cells done sends)))) h in
    let y = both (are_sends cells sends) (may_end done a at view && not (is_there (first_failed cells done sends))) x.1 in
    let z = both (may_end done a at view) (not (is_there (first_failed cells done sends))) y.1 in
    (x.0, y.0, z.0, none_there (first_failed cells done sends) z.1)
legal_of cells done a (Retry since c cause) h =
    let x = both (has_ref cells c) (may_rerun done a since c cause && written c.number since done) h in
    let y = both (may_rerun done a since c cause) (written c.number since done) x.1 in
    (x.0, y.0, y.1)
legal_of cells done a (Fail at view) h = h
legal_of cells done a (Refused at view g) h =
    let x = both (has_agent cells g) (may_end done a at view && is_failed cells done g) h in
    let y = both (may_end done a at view) (is_failed cells done g) x.1 in
    (x.0, y.0, y.1)
legal_of cells done a (Send x) h =
    let y = both (has_agent cells x.agent) (not (is_failed cells done x.agent)) h in
    (y.0, not_true (is_failed cells done x.agent) y.1)
legal_of cells done a (SendRefused g) h = both (has_agent cells g) (is_failed cells done g) h
legal_of cells done a (Act g n new sends) h =
    let none = not (is_there (first_failed cells done sends)) in
    let sent = may_send new sends && (are_sends cells sends && none) in
    let last = n == suc (mail_after cells done g.number).acts && sent in
    let x = both (has_agent cells g) (not (is_failed cells done g) && (waits (mail_after cells done g.number).actions && last)) h in
    let y = both (not (is_failed cells done g)) (waits (mail_after cells done g.number).actions && last) x.1 in
    let z = both (waits (mail_after cells done g.number).actions) last y.1 in
    let w = both (n == suc (mail_after cells done g.number).acts) sent z.1 in
    let u = both (may_send new sends) (are_sends cells sends && none) w.1 in
    let t = both (are_sends cells sends) none u.1 in
    (x.0, not_true (is_failed cells done g) y.0, z.0, eqb-true n (suc (mail_after cells done g.number).acts) w.0, u.0, t.0, none_there (first_failed cells done sends) t.1)
legal_of cells done a (Swap new) h = absurd (false≢true h)
legal_of cells done a (Broke at) h = absurd (false≢true h)

legal_swap : (cell : CellId) (done : List Event) (a : ℕ) (d : EventKind) → is_legal_swap cell done a d ≡ true → LegalAtomKind cell done a d
legal_swap cell done a (Read c) h = same_cell-sound c cell h
legal_swap cell done a (Commit at view ws sends) h = absurd (false≢true h)
legal_swap cell done a (Retry since c cause) h = absurd (false≢true h)
legal_swap cell done a (Fail at view) h = absurd (false≢true h)
legal_swap cell done a (Refused at view g) h = absurd (false≢true h)
legal_swap cell done a (Send x) h = absurd (false≢true h)
legal_swap cell done a (SendRefused g) h = absurd (false≢true h)
legal_swap cell done a (Act g n new sends) h = absurd (false≢true h)
legal_swap cell done a (Swap new) h = tt
legal_swap cell done a (Broke at) h = h

module _ (test : List Event → Event → Bool) (index : ℕ → ℕ → ℕ) where
  book_each : (P : List Event → Event → Type 0) → ((done : List Event) (e : Event) → test done e ≡ true → P done e) → (done es : List Event) → book_found test index done es ≡ Fine → Each P done es
  book_each P k done [] h = tt
  book_each P k done (e ∷ es) h =
      let parts = and_fine (check (nat_lt (length done) most_events && test done e) e.actor (index e.actor (length done))) (book_found test index (done ++ e ∷ []) es) h in
      let here = both (nat_lt (length done) most_events) (test done e) (check_fine (nat_lt (length done) most_events && test done e) e.actor (index e.actor (length done)) parts.0) in
      (k done e here.1, book_each P k (done ++ e ∷ []) es parts.1)

  book_few : (done es : List Event) → length done ≤ most_events → book_found test index done es ≡ Fine → length done + length es ≤ most_events
  book_few done [] le h = omega (arith, le)
  book_few done (e ∷ es) le h =
      let parts = and_fine (check (nat_lt (length done) most_events && test done e) e.actor (index e.actor (length done))) (book_found test index (done ++ e ∷ []) es) h in
      let here = both (nat_lt (length done) most_events) (test done e) (check_fine (nat_lt (length done) most_events && test done e) e.actor (index e.actor (length done)) parts.0) in
      let lt : nat_lt (length done) most_events ≡ true = here.0 in
      let room : length done < most_events = grind (arith, nat_tests, lt) in
      let longer : length (done ++ e ∷ []) ≡ length done + 1 = length-append done (e ∷ []) in
      let rest = book_few (done ++ e ∷ []) es (omega (arith, longer, room)) parts.1 in
      omega (arith, longer, rest)

pub store_legal : (p : PlainProgram) (r : PlainReport) → store_found p r ≡ Fine → Legal (cells_of p.cells) (length p.threads) r.book
store_legal p r h =
    let cells = cells_of p.cells in
    let test : List Event → Event → Bool = λ done e. makes cells (length p.threads) e.actor e.kind && is_legal_kind cells done e.actor e.kind in
    let index : ℕ → ℕ → ℕ = λ a k. index_if 0 k (entry_of r a) in
    let parts = and_fine (book_found test index [] r.book) (check (has_values p.cells r 0 p.cells r.cells && has_failed cells r.book (agents_from 0 p.cells) r.failed) 0 (length_if (entry_of r 0))) h in
    let few = book_few test index [] r.book (omega arith) parts.0 in record {
      few = omega (arith, few);
      made = book_each test index (λ done e. makes cells (length p.threads) e.actor e.kind ≡ true) (λ done e t. (both (makes cells (length p.threads) e.actor e.kind) (is_legal_kind cells done e.actor e.kind) t).0) [] r.book parts.0;
      each = book_each test index (λ done e. LegalKind cells done e.actor e.kind)
          (λ done e t. legal_of cells done e.actor e.kind (both (makes cells (length p.threads) e.actor e.kind) (is_legal_kind cells done e.actor e.kind) t).1) [] r.book parts.0;
    }

value_is : (v : Value) (o : Option Value) → is_value v o ≡ true → o ≡ Some v
value_is v None h = absurd (false≢true h)
value_is v (Some w) h = ap Some (sym (same_value-sound v w h))

atom_means : (p : PlainProgram) (r : PlainReport) (c : CellId) → atom_found p r c ≡ Fine → AtomExplained p r c
atom_means p r c h =
    let test : List Event → Event → Bool = λ done e. nat_lt e.actor (actors (length p.threads) (cells_of p.cells)) && is_legal_swap c done e.actor e.kind in
    let index : ℕ → ℕ → ℕ = λ a k. index_if (home p.cells c) k (entry_of r a) in
    let book = books_of r (home p.cells c) in
    let ends_at = atom_after (opening (cells_of p.cells) c.number) book (length book) in
    let value = check (is_value ends_at (nth r.cells c.number)) 0 (length_if (entry_of r 0)) in
    let x = and_fine (book_found test index [] book) value h in
    let few = book_few test index [] book (omega arith) x.0 in record {
      legal = record {
        few = omega (arith, few);
        each = book_each test index (λ done e. LegalAtomKind c done e.actor e.kind) (λ done e t. legal_swap c done e.actor e.kind (both (nat_lt e.actor (actors (length p.threads) (cells_of p.cells))) (is_legal_swap c done e.actor e.kind) t).1) [] book x.0;
      };
      by_actors = book_each test index (λ done e. e.actor < actors (length p.threads) (cells_of p.cells))
          (λ done e t. let lt : nat_lt e.actor (actors (length p.threads) (cells_of p.cells)) ≡ true = (both (nat_lt e.actor (actors (length p.threads) (cells_of p.cells))) (is_legal_swap c done e.actor e.kind) t).0 in grind (arith, nat_tests, lt)) [] book x.0;
      value = value_is ends_at (nth r.cells c.number) (check_fine (is_value ends_at (nth r.cells c.number)) 0 (length_if (entry_of r 0)) x.1);
    }

pub atoms_mean : (p : PlainProgram) (r : PlainReport) (cs : List CellId) → atoms_found p r cs ≡ Fine → (i : ℕ) (c : CellId) → nth cs i ≡ Some c → AtomExplained p r c
atoms_mean p r [] h i c there = not_there there
atoms_mean p r (d ∷ ds) h zero c there =
    let x = and_fine (atom_found p r d) (atoms_found p r ds) h in
    let same : d ≡ c = cc in
    subst (AtomExplained p r) same (atom_means p r d x.0)
atoms_mean p r (d ∷ ds) h (suc i) c there = atoms_mean p r ds (and_fine (atom_found p r d) (atoms_found p r ds) h).1 i c there

values_are : (all : List CellDefinition) (r : PlainReport) (n : ℕ) (ds : List CellDefinition) (vs : List Value) → has_values all r n ds vs ≡ true
    → (k : ℕ) (d : CellDefinition) → nth ds k ≡ Some d → same_kind d.kind Atom ≡ false → nth vs k ≡ Some (newest (opening (cells_of all)) r.book (n + k))
values_are all r n [] vs h k d there kind = not_there there
values_are all r n (c ∷ cs) [] h k d there kind = absurd (false≢true h)
values_are all r n (c ∷ cs) (v ∷ vs) h zero d there kind =
    let x = both (same_kind c.kind Atom || same_value (newest (opening (cells_of all)) r.book n) v) (has_values all r (suc n) cs vs) h in
    let same : c ≡ d = cc in
    let z : n ≡ n + 0 = omega arith in
    let other : same_kind c.kind Atom ≡ false = ap (λ (y : CellDefinition). same_kind y.kind Atom) same ∙ kind in
    let equal : same_value (newest (opening (cells_of all)) r.book n) v ≡ true = sym (ap (λ b. b || same_value (newest (opening (cells_of all)) r.book n) v) other) ∙ x.0 in
    subst (λ j. Some v ≡ Some (newest (opening (cells_of all)) r.book j)) z (ap Some (sym (same_value-sound (newest (opening (cells_of all)) r.book n) v equal)))
values_are all r n (c ∷ cs) (v ∷ vs) h (suc k) d there kind =
    let x = both (same_kind c.kind Atom || same_value (newest (opening (cells_of all)) r.book n) v) (has_values all r (suc n) cs vs) h in
    let z : suc n + k ≡ n + suc k = omega arith in
    subst (λ j. nth vs k ≡ Some (newest (opening (cells_of all)) r.book j)) z (values_are all r (suc n) cs vs x.1 k d there kind)

-- ---- transactions

-- all events are eaten, so each commit and refusal has its transaction
pub runs_whole : (functions : List PlainFunction) (vs : Validators) (held : Option (List Action)) (n : ℕ) (es todo : List SeenEvent) (txs : List TxRun) → Noted functions vs held n es todo txs → todo ≡ [] → RunsOf functions vs held n es txs
runs_whole functions vs held n es todo txs h e = subst (λ l. RunsOf functions vs held n l txs) (sym (h.split ∙ ap (λ l. h.eaten ++ l) e ∙ append-nil h.eaten)) h.runs

-- it isn't wrong, and has eaten all
record HasEnded (m : Completion ThreadState Value) : Type 0 where
  right : is_wrong m ≡ false
  eaten : (functions : List PlainFunction) (vs : Validators) (held : Option (List Action)) (n : ℕ) (es : List SeenEvent) → EndsNoted functions vs held n es m → RunsOf functions vs held n es (txs_of m)

-- a meaning that has eaten all isn't wrong, and each commit and refusal has its transaction
eaten_ended : (out : List ℕ) (c : Completion ThreadState Value) → HasEatenAll out c → HasEnded c
eaten_ended out (Completes v t) h = record { right = refl; eaten = λ fs vs held n l g. runs_whole fs vs held n l t.todo t.txs g h.0 }
eaten_ended out (Recurs vs t) h = absurd h
eaten_ended out (Faults f t) h = record { right = refl; eaten = λ fs vs held n l g. runs_whole fs vs held n l t.todo t.txs g h.0 }
eaten_ended out (Retries t) h = absurd h
eaten_ended out (Waits t) h = record { right = refl; eaten = λ fs vs held n l g. runs_whole fs vs held n l t.todo t.txs g h.0 }
eaten_ended out (OutOfTurns t) h = record { right = refl; eaten = λ fs vs held n l g. runs_whole fs vs held n l t.todo t.txs g h.0 }
eaten_ended out Invalid h = absurd h

-- ---- threads

fault_of : Result Value Fault → Fault → Fault
fault_of (Ok v) g = g
fault_of (Err f) g = f

new_in : Ask → Result Value Fault → Result Value Fault
new_in (ask.Finish g new sends) d = new
new_in _ d = d

no_cell : CellId
no_cell = record { kind = Atom; number = 0 }

new_same : (x y : Result Value Fault) → same_new x y ≡ true → x ≡ y
unfolding new_in no_cell
new_same x y h = ap (λ q. new_in q x) (same_ask-sound (ask.Finish no_cell x []) (ask.Finish no_cell y []) (ap (λ b. b && true) h))

fault_same : (f g : Fault) → same_fault f g ≡ true → f ≡ g
unfolding fault_of
fault_same f g h = ap (λ r. fault_of r f) (new_same (Err f) (Err g) h)

failure_same : (x y : Option Fault) → same_failure x y ≡ true → y ≡ x
failure_same None None h = refl
failure_same None (Some g) h = absurd (false≢true h)
failure_same (Some f) None h = absurd (false≢true h)
failure_same (Some f) (Some g) h = ap Some (sym (fault_same f g h))

failures_are : (cells : List StoreCell) (book : List Event) (gs : List CellId) (fs : List (Option Fault)) → has_failed cells book gs fs ≡ true → (i : ℕ) (g : CellId) → nth gs i ≡ Some g → nth fs i ≡ Some (mail_after cells book g.number).fault
failures_are cells book [] fs h i g there = not_there there
failures_are cells book (c ∷ cs) [] h i g there = absurd (false≢true h)
failures_are cells book (c ∷ cs) (f ∷ fs) h zero g there =
    let x = both (same_failure (mail_after cells book c.number).fault f) (has_failed cells book cs fs) h in
    let same : c ≡ g = cc in
    ap Some (failure_same (mail_after cells book c.number).fault f x.0) ∙ ap (λ (y : CellId). Some (mail_after cells book y.number).fault) same
failures_are cells book (c ∷ cs) (f ∷ fs) h (suc i) g there =
    failures_are cells book cs fs (both (same_failure (mail_after cells book c.number).fault f) (has_failed cells book cs fs) h).1 i g there

-- the values and the failed agents that a report tells are those after the store's book
store_left : (p : PlainProgram) (r : PlainReport) → store_found p r ≡ Fine → (has_values p.cells r 0 p.cells r.cells ≡ true) × (has_failed (cells_of p.cells) r.book (agents_from 0 p.cells) r.failed ≡ true)
store_left p r h =
    let cells = cells_of p.cells in
    let test : List Event → Event → Bool = λ done e. makes cells (length p.threads) e.actor e.kind && is_legal_kind cells done e.actor e.kind in
    let left = has_values p.cells r 0 p.cells r.cells && has_failed cells r.book (agents_from 0 p.cells) r.failed in
    let parts = and_fine (book_found test (λ a k. index_if 0 k (entry_of r a)) [] r.book) (check left 0 (length_if (entry_of r 0))) h in
    both (has_values p.cells r 0 p.cells r.cells) (has_failed cells r.book (agents_from 0 p.cells) r.failed) (check_fine left 0 (length_if (entry_of r 0)) parts.1)

module _ (p : ThreadSource) (n a : ℕ) (es : List SeenEvent) (ran : PlainActorReport) where
  -- whether the entry has printed so much and no more
  abbrev part : List ℕ → Bool
  part whole = printed_part p n es ran.printed whole

  prints : (whole : List ℕ) → part whole ≡ true → Begins whole ran.printed × Begins ran.printed (least_printed p n es)
  prints whole h =
      let x = both (begins ran.printed whole) (begins (least_printed p n es) ran.printed) h in
      (begins_sound ran.printed whole x.0, begins_sound (least_printed p n es) ran.printed x.1)

  -- a thread that was stopped
  stops : (m : Completion ThreadState Value) (whole : List ℕ) → ((l : List ℕ) → whole ≡ l → HasEatenAll l m) → (o : Option Outcome) → (is_stopped o && part whole) ≡ true → EndsAs o ran.printed m
  stops m whole k None h = let x = prints whole h in (x.0.0, k (ran.printed ++ x.0.0) x.0.1)
  stops m whole k (Some Done) h = absurd (false≢true h)
  stops m whole k (Some (Failed f)) h = absurd (false≢true h)
  stops m whole k (Some StepsSpent) h = let x = prints whole h in (x.0.0, k (ran.printed ++ x.0.0) x.0.1)
  stops m whole k (Some JournalFull) h = let x = prints whole h in (x.0.0, k (ran.printed ++ x.0.0) x.0.1)
  stops m whole k (Some Memory) h = let x = prints whole h in (x.0.0, k (ran.printed ++ x.0.0) x.0.1)

  -- it has printed no less than this
  least_part : (whole : List ℕ) (o : Option Outcome) → (is_stopped o && part whole) ≡ true → Begins ran.printed (least_printed p n es)
  least_part whole o h = (prints whole (both (is_stopped o) (part whole) h).1).1

  -- the whole of a thread that is done, or part of one that was stopped
  abbrev done_test : Option Outcome → List ℕ → Bool
  done_test o whole = if is_done o then same_numbers ran.printed whole else is_stopped o && part whole

  done_as : (v : Value) (t : ThreadState) → t.todo ≡ [] → (o : Option Outcome) → done_test o t.printed ≡ true → EndsAs o ran.printed (Completes v t)
  done_as v t e None h = stops (Completes v t) t.printed (λ l q. (e, q)) None h
  done_as v t e (Some Done) h = (v, t, refl, e, sym (same_numbers_sound ran.printed t.printed h))
  done_as v t e (Some (Failed f)) h = absurd (false≢true h)
  done_as v t e (Some StepsSpent) h = stops (Completes v t) t.printed (λ l q. (e, q)) (Some StepsSpent) h
  done_as v t e (Some JournalFull) h = stops (Completes v t) t.printed (λ l q. (e, q)) (Some JournalFull) h
  done_as v t e (Some Memory) h = stops (Completes v t) t.printed (λ l q. (e, q)) (Some Memory) h

  done_least : (whole : List ℕ) (o : Option Outcome) → done_test o whole ≡ true → Stopped o → Begins ran.printed (least_printed p n es)
  done_least whole None h s = least_part whole None h
  done_least whole (Some Done) h s = absurd s
  done_least whole (Some (Failed f)) h s = absurd s
  done_least whole (Some StepsSpent) h s = least_part whole (Some StepsSpent) h
  done_least whole (Some JournalFull) h s = least_part whole (Some JournalFull) h
  done_least whole (Some Memory) h s = least_part whole (Some Memory) h

  -- the whole of a thread that has faulted so, or part of one that was stopped
  abbrev fault_test : Fault → Option Outcome → List ℕ → Bool
  fault_test f o whole = if has_faulted f o then same_numbers ran.printed whole else is_stopped o && part whole

  faulted_as : (f : Fault) (t : ThreadState) → t.todo ≡ [] → (o : Option Outcome) → fault_test f o t.printed ≡ true → EndsAs o ran.printed (Faults f t)
  faulted_as f t e None h = stops (Faults f t) t.printed (λ l q. (e, q)) None h
  faulted_as f t e (Some Done) h = absurd (false≢true h)
  faulted_as f t e (Some (Failed g)) h = test (same_fault f g) refl h
    where
      test : (b : Bool) → same_fault f g ≡ b → (if b then same_numbers ran.printed t.printed else false) ≡ true → EndsAs (Some (Failed g)) ran.printed (Faults f t)
      test true q k = (t, ap (λ x. Faults x t) (fault_same f g q), e, sym (same_numbers_sound ran.printed t.printed k))
      test false q k = absurd (false≢true k)
  faulted_as f t e (Some StepsSpent) h = stops (Faults f t) t.printed (λ l q. (e, q)) (Some StepsSpent) h
  faulted_as f t e (Some JournalFull) h = stops (Faults f t) t.printed (λ l q. (e, q)) (Some JournalFull) h
  faulted_as f t e (Some Memory) h = stops (Faults f t) t.printed (λ l q. (e, q)) (Some Memory) h

  fault_least : (f : Fault) (whole : List ℕ) (o : Option Outcome) → fault_test f o whole ≡ true → Stopped o → Begins ran.printed (least_printed p n es)
  fault_least f whole None h s = least_part whole None h
  fault_least f whole (Some Done) h s = absurd s
  fault_least f whole (Some (Failed g)) h s = absurd s
  fault_least f whole (Some StepsSpent) h s = least_part whole (Some StepsSpent) h
  fault_least f whole (Some JournalFull) h s = least_part whole (Some JournalFull) h
  fault_least f whole (Some Memory) h s = least_part whole (Some Memory) h

  -- what is tested where turns don't suffice
  short_test : (t : ThreadState) → end_found p n a es ran (OutOfTurns t) ≡ Fine → (t.todo ≡ []) × ((is_stopped ran.outcome && part t.printed) ≡ true)
  short_test t h =
      let x = both (length t.todo == 0) (is_stopped ran.outcome && part t.printed) (short (length t.todo == 0 && (is_stopped ran.outcome && part t.printed)) h) in
      (empty t.todo x.0, x.1)
    where
      short : (b : Bool) → (if b then Fine else Short a (length es - length t.todo)) ≡ Fine → b ≡ true
      short true k = refl
      short false k = short_fine a (length es - length t.todo) k

  -- what is tested elsewhere
  two_tests : (t : ThreadState) (b : Bool) → and_then (check (length t.todo == 0) a (length es - length t.todo)) (check b a (length es)) ≡ Fine → (t.todo ≡ []) × (b ≡ true)
  two_tests t b h =
      let x = and_fine (check (length t.todo == 0) a (length es - length t.todo)) (check b a (length es)) h in
      (empty t.todo (check_fine (length t.todo == 0) a (length es - length t.todo) x.0), check_fine b a (length es) x.1)

  pub ends_so : (m : Completion ThreadState Value) → end_found p n a es ran m ≡ Fine → EndsAs ran.outcome ran.printed m
  ends_so (Completes v t) h = let x = two_tests t (done_test ran.outcome t.printed) h in done_as v t x.0 ran.outcome x.1
  ends_so (Recurs vs t) h = off_fine a (eats_right p n [] es) h
  ends_so (Faults f t) h = let x = two_tests t (fault_test f ran.outcome t.printed) h in faulted_as f t x.0 ran.outcome x.1
  ends_so (Retries t) h = off_fine a (eats_right p n [] es) h
  ends_so (Waits t) h = let x = two_tests t (is_stopped ran.outcome && part t.printed) h in stops (Waits t) t.printed (λ l q. (x.0, q)) ran.outcome x.1
  ends_so (OutOfTurns t) h = let x = short_test t h in stops (OutOfTurns t) t.printed (λ l q. (x.0, q)) ran.outcome x.1
  ends_so Invalid h = off_fine a (eats_right p n [] es) h

  least_so : (m : Completion ThreadState Value) → end_found p n a es ran m ≡ Fine → Stopped ran.outcome → Begins ran.printed (least_printed p n es)
  least_so (Completes v t) h s = done_least t.printed ran.outcome (two_tests t (done_test ran.outcome t.printed) h).1 s
  least_so (Recurs vs t) h s = off_fine a (eats_right p n [] es) h
  least_so (Faults f t) h s = fault_least f t.printed ran.outcome (two_tests t (fault_test f ran.outcome t.printed) h).1 s
  least_so (Retries t) h s = off_fine a (eats_right p n [] es) h
  least_so (Waits t) h s = least_part t.printed ran.outcome (two_tests t (is_stopped ran.outcome && part t.printed) h).1
  least_so (OutOfTurns t) h s = least_part t.printed ran.outcome (short_test t h).1
  least_so Invalid h s = off_fine a (eats_right p n [] es) h

  not_wrong : (m : Completion ThreadState Value) → end_found p n a es ran m ≡ Fine → is_wrong m ≡ false
  not_wrong (Completes v t) h = refl
  not_wrong (Recurs vs t) h = off_fine a (eats_right p n [] es) h
  not_wrong (Faults f t) h = refl
  not_wrong (Retries t) h = off_fine a (eats_right p n [] es) h
  not_wrong (Waits t) h = refl
  not_wrong (OutOfTurns t) h = refl
  not_wrong Invalid h = off_fine a (eats_right p n [] es) h

  -- all events are eaten, so each commit and refusal has its transaction
  noted_all : (vs : Validators) (todo : List SeenEvent) (txs : List TxRun) → Noted p.functions vs None n es todo txs → todo ≡ [] → RunsOf p.functions vs None n es txs
  noted_all vs todo txs h e = runs_whole p.functions vs None n es todo txs h e

  runs_so : (vs : Validators) (m : Completion ThreadState Value) → end_found p n a es ran m ≡ Fine → EndsNoted p.functions vs None n es m → RunsOf p.functions vs None n es (txs_of m)
  runs_so vs (Completes v t) h k = noted_all vs t.todo t.txs k (two_tests t (done_test ran.outcome t.printed) h).0
  runs_so vs (Recurs us t) h k = off_fine a (eats_right p n [] es) h
  runs_so vs (Faults f t) h k = noted_all vs t.todo t.txs k (two_tests t (fault_test f ran.outcome t.printed) h).0
  runs_so vs (Retries t) h k = off_fine a (eats_right p n [] es) h
  runs_so vs (Waits t) h k = noted_all vs t.todo t.txs k (two_tests t (is_stopped ran.outcome && part t.printed) h).0
  runs_so vs (OutOfTurns t) h k = noted_all vs t.todo t.txs k (short_test t h).0
  runs_so vs Invalid h k = off_fine a (eats_right p n [] es) h

-- ---- a stop for a full book

pub full_is : (o : Option Outcome) → is_full_stop o ≡ true → o ≡ Some JournalFull
full_is None h = absurd (false≢true h)
full_is (Some Done) h = absurd (false≢true h)
full_is (Some (Failed f)) h = absurd (false≢true h)
full_is (Some StepsSpent) h = absurd (false≢true h)
full_is (Some JournalFull) h = refl
full_is (Some Memory) h = absurd (false≢true h)

-- the book that is needed is full
full_book : (books : ℕ → List Event) (o : Option ℕ) → is_full_book books o ≡ true → (b : ℕ) × (most_events ≤ length (books b)) × (o ≡ Some b)
full_book books None h = absurd (false≢true h)
full_book books (Some b) h = (b, leb-true most_events (length (books b)) h, refl)

-- a meaning that needs an event of a full book, with the state in which it waits
record IsFullWait (books : ℕ → List Event) (out : List ℕ) (m : Completion ThreadState Value) : Type 0 where
  state : ThreadState
  waits : m ≡ Waits state
  left : state.todo ≡ []
  printed : state.printed ≡ out
  full : WaitsFull books out m

module _ (books : ℕ → List Event) (p : ThreadSource) (n a : ℕ) (es : List SeenEvent) (out : List ℕ) where
  full_wait : (m : Completion ThreadState Value) → full_found books p n a es out m ≡ Fine → IsFullWait books out m
  full_wait (Completes v t) h = off_fine a (length es) (and_fine (check (length t.todo == 0) a (length es - length t.todo)) (Off a (length es)) h).1
  full_wait (Recurs vs t) h = off_fine a (eats_right p n [] es) h
  full_wait (Faults f t) h = off_fine a (length es) (and_fine (check (length t.todo == 0) a (length es - length t.todo)) (Off a (length es)) h).1
  full_wait (Retries t) h = off_fine a (eats_right p n [] es) h
  full_wait (Waits t) h =
      let test = is_full_book books t.asks && same_numbers out t.printed in
      let x = and_fine (check (length t.todo == 0) a (length es - length t.todo)) (check test a (length es)) h in
      let left : t.todo ≡ [] = empty t.todo (check_fine (length t.todo == 0) a (length es - length t.todo) x.0) in
      let y = both (is_full_book books t.asks) (same_numbers out t.printed) (check_fine test a (length es) x.1) in
      let b = full_book books t.asks y.0 in
      let printed : t.printed ≡ out = sym (same_numbers_sound out t.printed y.1) in
      record { state = t; waits = refl; left = left; printed = printed; full = (b.0, b.1, (b.2, left, printed)) }
  full_wait (OutOfTurns t) h = short_fine a (length es - length t.todo) h
  full_wait Invalid h = off_fine a (eats_right p n [] es) h

-- the end of a thread of which nothing is found
record EndParts (books : ℕ → List Event) (p : ThreadSource) (n : ℕ) (es : List SeenEvent) (o : Option Outcome) (out : List ℕ) (m : Completion ThreadState Value) : Type 0 where
  right : is_wrong m ≡ false
  ends : EndsAs o out m
  least : Stopped o → Begins out (least_printed p n es)
  runs : (vs : Validators) → EndsNoted p.functions vs None n es m → RunsOf p.functions vs None n es (txs_of m)
  full : o ≡ Some JournalFull → WaitsFull books out m

module _ (books : ℕ → List Event) (p : ThreadSource) (sound : SoundSource p) (n a : ℕ) (es : List SeenEvent) (ran : PlainActorReport) where
  abbrev meant : Completion ThreadState Value
  meant = thread_meaning p n es

  full_parts : ran.outcome ≡ Some JournalFull → full_found books p n a es ran.printed meant ≡ Fine → EndParts books p n es ran.outcome ran.printed meant
  full_parts is h =
      let w = full_wait books p n a es ran.printed meant h in
      let eats : HasEatenAll (ran.printed ++ []) meant = subst (HasEatenAll (ran.printed ++ [])) (sym w.waits) (w.left, w.printed ∙ sym (append-nil ran.printed)) in
      let ended = eaten_ended (ran.printed ++ []) meant eats in
      let least = least_begins (thread_meaning p n) (λ l fs. cut fs p n sound l) (λ l fs. thread_resumes fs p sound n l) es (eaten_up (ran.printed ++ []) meant eats) in
      record {
        right = ended.right;
        ends = subst (λ o. EndsAs o ran.printed meant) (sym is) ([], eats);
        least = λ s. subst (λ l. Begins ran.printed l) (sym (least_is p n es)) (subst (λ l. Begins l (least_of (thread_meaning p n) es)) (ap printed_by w.waits ∙ w.printed) least);
        runs = λ vs k. ended.eaten p.functions vs None n es k;
        full = λ e. w.full;
      }

  end_parts : thread_ends books p n a es ran meant ≡ Fine → EndParts books p n es ran.outcome ran.printed meant
  end_parts h = test (is_full_stop ran.outcome) refl h
    where
      test : (b : Bool) → is_full_stop ran.outcome ≡ b → (if b then full_found books p n a es ran.printed meant else end_found p n a es ran meant) ≡ Fine → EndParts books p n es ran.outcome ran.printed meant
      test true is g = full_parts (full_is ran.outcome is) g
      test false is g = record {
        right = not_wrong p n a es ran meant g;
        ends = ends_so p n a es ran meant g;
        least = least_so p n a es ran meant g;
        runs = λ vs k. runs_so p n a es ran vs meant g k;
        full = λ e. absurd (false≢true (sym is ∙ ap is_full_stop e));
      }

untouched_of : (done : List Event) (q : ℕ) (cs : List CellId) → is_untouched done q cs ≡ true → Untouched done q cs
untouched_of done q [] h = tt
untouched_of done q (c ∷ cs) h =
    let x = both (not (written c.number q done)) (is_untouched done q cs) h in
    (not_true (written c.number q done) x.0, untouched_of done q cs x.1)

first_of : (o : Option CellId) (g : CellId) → is_first_failed o g ≡ true → o ≡ Some g
first_of None g h = absurd (false≢true h)
first_of (Some c) g h = ap Some (same_cell-sound c g h)

module _ (functions : List PlainFunction) (held : Option (List Action)) (n : ℕ) (cells : List CellDefinition) (books : ℕ → List Event) (a : ℕ) where
  abbrev Runs : List Place → List TxRun → Type 0
  Runs ps xs = RunsOf functions (validators_of cells) held n (seen_of cells books ps) xs

  abbrev Calm : List Place → List TxRun → Type 0
  Calm ps xs = SaidOf (undisturbed cells books) books ps xs

  abbrev found_on : ℕ → List Place → List TxRun → Finding
  found_on i ps xs = calm_found (cells_of cells) books a i ps xs

  -- what is found of an event of this kind at a place
  abbrev found_here : ℕ → Place → List Place → EventKind → List TxRun → Finding
  found_here i p ps d xs = if is_end d then with_run xs (λ x ys. and_then (check (is_calm (cells_of cells) (take p.at (books p.book)) d x) a i) (found_on (suc i) ps ys)) else found_on (suc i) ps xs

  calm_step : (i : ℕ) (p : Place) (ps : List Place) (d : EventKind) (R Q C : ℕ → Value) → ((ys : List TxRun) → Runs ps ys → found_on (suc i) ps ys ≡ Fine → Calm ps ys) → (xs : List TxRun)
      → RunOf functions (validators_of cells) held n p.book d R Q C (λ ys. Runs ps ys) xs → found_here i p ps d xs ≡ Fine → SaidAt (undisturbed cells books) p d (λ ys. Calm ps ys) xs
  calm_step i p ps (Read c) R Q C next xs r u = next xs r u
  calm_step i p ps (Commit at view ws sends) R Q C next [] r u = absurd r
  calm_step i p ps (Commit at view ws sends) R Q C next (x ∷ xs) r u =
      let done = take p.at (books p.book) in
      let test = is_untouched done at x.state.done.sets && is_untouched done at x.state.done.ensures in
      let f = and_fine (check test a i) (found_on (suc i) ps xs) u in
      let y = both (is_untouched done at x.state.done.sets) (is_untouched done at x.state.done.ensures) (check_fine test a i f.0) in
      ((untouched_of done at x.state.done.sets y.0, untouched_of done at x.state.done.ensures y.1), next xs r.1 f.1)
  calm_step i p ps (Retry since c cause) R Q C next xs r u = next xs r u
  calm_step i p ps (Fail at view) R Q C next xs r u = next xs r u
  calm_step i p ps (Refused at view g) R Q C next [] r u = absurd r
  calm_step i p ps (Refused at view g) R Q C next (x ∷ xs) r u =
      let done = take p.at (books p.book) in
      let first = first_failed (cells_of cells) done x.state.done.sends in
      let test = is_untouched done at x.state.done.sets && (is_untouched done at x.state.done.ensures && is_first_failed first g) in
      let f = and_fine (check test a i) (found_on (suc i) ps xs) u in
      let y = both (is_untouched done at x.state.done.sets) (is_untouched done at x.state.done.ensures && is_first_failed first g) (check_fine test a i f.0) in
      let z = both (is_untouched done at x.state.done.ensures) (is_first_failed first g) y.1 in
      ((untouched_of done at x.state.done.sets y.0, untouched_of done at x.state.done.ensures z.0, first_of first g z.1), next xs r.1 f.1)
  calm_step i p ps (Send x) R Q C next xs r u = next xs r u
  calm_step i p ps (SendRefused g) R Q C next xs r u = next xs r u
  calm_step i p ps (Act g k new sends) R Q C next xs r u = next xs r u
  calm_step i p ps (Swap new) R Q C next xs r u = next xs r u
  calm_step i p ps (Broke at) R Q C next xs r u = next xs r u

  pub calm_said : (i : ℕ) (ps : List Place) (xs : List TxRun) → Runs ps xs → found_on i ps xs ≡ Fine → Calm ps xs
  calm_said i [] xs r u = r
  calm_said i (p ∷ ps) xs r u = go (nth (books p.book) p.at) r u (λ ys s v. calm_said (suc i) ps ys s v)
    where
      go : (o : Option Event) → RunsOf functions (validators_of cells) held n (seen_before cells books p o (seen_of cells books ps)) xs → calm_at (cells_of cells) books a i p o (λ ys. found_on (suc i) ps ys) xs ≡ Fine
          → ((ys : List TxRun) → Runs ps ys → found_on (suc i) ps ys ≡ Fine → Calm ps ys) → SaidIf (undisturbed cells books) p o (λ ys. Calm ps ys) xs
      go None s v next = next xs s v
      go (Some e) s v next = calm_step i p ps e.kind (seen_in cells p.book (books p.book) p.at e.kind).R (seen_in cells p.book (books p.book) p.at e.kind).Q (seen_in cells p.book (books p.book) p.at e.kind).C next xs s v

pub sound_thread : (fs : List PlainFunction) (ts : List PlainThread) (i : ℕ) (t : PlainThread) → SoundThreads (known fs) ts → nth ts i ≡ Some t → SoundThread (known fs) t
sound_thread fs [] i t h there = not_there there
sound_thread fs (u ∷ ts) zero t h there = let same : u ≡ t = cc in subst (SoundThread (known fs)) same h.0
sound_thread fs (u ∷ ts) (suc i) t h there = sound_thread fs ts i t h.1 there

pub marked_thread : (ts : List PlainThread) (i : ℕ) (t : PlainThread) → MarkedThreads ts → nth ts i ≡ Some t → Marked false t.body
marked_thread [] i t h there = not_there there
marked_thread (u ∷ ts) zero t h there = let same : u ≡ t = cc in subst (λ (x : PlainThread). Marked false x.body) same h.0
marked_thread (u ∷ ts) (suc i) t h there = marked_thread ts i t h.1 there

-- a thread of a sound program, of which nothing is found
pub record ThreadParts (p : PlainProgram) (r : PlainReport) (n : ℕ) (t : PlainThread) (ran : PlainActorReport) : Type 0 where
  pub ends : EndsAs ran.outcome ran.printed (meaning_of p r t ran n)
  pub least : Stopped ran.outcome → Begins ran.printed (least_printed (source_of p t) n (events_of p r ran))
  pub runs : RunsOf p.functions (validators_of p.cells) None n (events_of p r ran) (txs_of (meaning_of p r t ran n))
  pub calm : SaidOf (undisturbed p.cells (books_of r)) (books_of r) ran.trace (txs_of (meaning_of p r t ran n))
  pub full : ran.outcome ≡ Some JournalFull → WaitsFull (books_of r) ran.printed (meaning_of p r t ran n)

pub thread_parts : (p : PlainProgram) (r : PlainReport) → Sound p → MarkedProgram p → (n a i : ℕ) (t : PlainThread) (ran : PlainActorReport) → nth p.threads i ≡ Some t → thread_found p r n a t ran ≡ Fine → ThreadParts p r n t ran
thread_parts p r sound marks n a i t ran there h =
    let s = source_of p t in
    let es = events_of p r ran in
    let m = meaning_of p r t ran n in
    let x = and_fine (calm_found (cells_of p.cells) (books_of r) a 0 ran.trace (noted_by s n es m)) (thread_ends (books_of r) s n a es ran m) h in
    let main = sound_thread p.functions p.threads i t sound.threads there in
    let source : SoundSource s = record { functions = sound.functions; cells = sound.cells; main = main.0 } in
    let parts = end_parts (books_of r) s source n a es ran x.1 in
    let same : noted_by s n es m ≡ txs_of m = ap (λ b. if b then txs_of (right_meaning s n es) else txs_of m) parts.right in
    let noted = threads_note s n es source marks.functions (marked_thread p.threads i t marks.threads there) in
    let runs = parts.runs (validators_of p.cells) noted in
    record {
      ends = parts.ends;
      least = parts.least;
      runs = runs;
      calm = calm_said p.functions None n p.cells (books_of r) a 0 ran.trace (txs_of m) runs (subst (λ xs. calm_found (cells_of p.cells) (books_of r) a 0 ran.trace xs ≡ Fine) same x.0);
      full = parts.full;
    }

-- so it is of each thread
pub each_fine : (p : PlainProgram) (r : PlainReport) (n a : ℕ) (ts : List PlainThread) (rans : List PlainActorReport) → threads_found p r n a ts rans ≡ Fine → (i : ℕ) (t : PlainThread) (ran : PlainActorReport) → nth ts i ≡ Some t → nth rans i ≡ Some ran → (b : ℕ) × (thread_found p r n b t ran ≡ Fine)
each_fine p r n a [] rans h i t ran there here = not_there there
each_fine p r n a (u ∷ ts) [] h i t ran there here = not_there here
each_fine p r n a (u ∷ ts) (x ∷ xs) h zero t ran there here =
    let y = and_fine (thread_found p r n a u x) (threads_found p r n (suc a) ts xs) h in
    let one : u ≡ t = cc in
    let two : x ≡ ran = cc in
    (a, subst (λ (z : PlainActorReport). thread_found p r n a t z ≡ Fine) two (subst (λ (z : PlainThread). thread_found p r n a z x ≡ Fine) one y.0))
each_fine p r n a (u ∷ ts) (x ∷ xs) h (suc i) t ran there here =
    each_fine p r n (suc a) ts xs (and_fine (thread_found p r n a u x) (threads_found p r n (suc a) ts xs) h).1 i t ran there here

-- ---- agents

pub sent_of : (ks : List Known) (c : Callee) (n : ℕ) → is_sent_call ks c n ≡ true → SoundSent ks c n
sent_of ks (CoreOp op) n h = let x = both (takes op n) (nat_le n most_items) h in (x.0, leb-true n most_items x.1)
sent_of ks (Function f) n h = go (nth ks f) refl h
  where
    go : (o : Option Known) → nth ks f ≡ o → is_sent_known o n ≡ true → SentCall ks f n
    go None e g = absurd (false≢true g)
    go (Some k) e g = let x = both (k.parameters == n) (not k.inside) g in record { function = k; found = e; arity = eqb-true k.parameters n x.0; zoned = not_true k.inside x.1 }

-- ---- how an action ends

no_sends : (xs : List Action) → is_empty xs ≡ true → xs ≡ []
no_sends [] h = refl
no_sends (x ∷ xs) h = absurd (false≢true h)

booked_of : (o : Option CellId) (span : Span) (v : Value) (held : List Action) (new : Result Value Fault) (sends : List Action) → is_booked o span v held new sends ≡ true → IsBooked o span (Ok v) held new sends
booked_of None span v held new sends h =
    let x = both (same_new (Ok v) new) (same_actions held sends) h in
    (sym (new_same (Ok v) new x.0), sym (same_actions-sound held sends x.1))
booked_of (Some g) span v held new sends h =
    let x = both (same_new (Err (fault_at AgentFailed span)) new) (is_empty sends) h in
    (sym (new_same (Err (fault_at AgentFailed span)) new x.0), no_sends sends x.1)

-- it holds sends, so it holds these
some_held : (o : Option (List Action)) → begin_of o ≡ Some [] → o ≡ Some (sends_if o)
some_held None h = not_there h
some_held (Some sends) h = refl

-- what an action's meaning hands in, and how that is booked
record HandsIn (cells : List StoreCell) (done : List Event) (span : Span) (new : Result Value Fault) (sends : List Action) (m : Completion ThreadState Value) : Type 0 where
  result : Result Value Fault
  held : List Action
  handed : IsHandedIn result held (printed_by m) m
  booked : IsBooked (first_failed cells done held) span result held new sends

two_checks : (a i k : ℕ) (todo : List SeenEvent) (b : Bool) → and_then (check (length todo == 0) a i) (check b a k) ≡ Fine → (todo ≡ []) × (b ≡ true)
two_checks a i k todo b h =
    let x = and_fine (check (length todo == 0) a i) (check b a k) h in
    (empty todo (check_fine (length todo == 0) a i x.0), check_fine b a k x.1)

module _ (cells : List StoreCell) (done : List Event) (span : Span) (a i k : ℕ) (m : List SeenEvent → Completion ThreadState Value) (es : List SeenEvent) (new : Result Value Fault) (sends : List Action) where
  abbrev act_found : Completion ThreadState Value → Finding
  act_found c = act_ends cells done span a i k m es new sends c

  act_hands : (c : Completion ThreadState Value) → ((v : Value) (t : ThreadState) → c ≡ Completes v t → begin_of t.held ≡ Some []) → act_found c ≡ Fine → HandsIn cells done span new sends c
  act_hands (Completes v t) holds h =
      let x = two_checks a (i + (length es - length t.todo)) k t.todo (is_booked (first_failed cells done (held_by t)) span v (held_by t) new sends) h in
      record { result = Ok v; held = held_by t; handed = (t, refl, x.0, refl, some_held t.held (holds v t refl)); booked = booked_of (first_failed cells done (held_by t)) span v (held_by t) new sends x.1 }
  act_hands (Recurs vs t) holds h = off_fine a (i + right_events m [] es) h
  act_hands (Faults f t) holds h =
      let x = two_checks a (i + (length es - length t.todo)) k t.todo (same_new (Err f) new && is_empty sends) h in
      let y = both (same_new (Err f) new) (is_empty sends) x.1 in
      record { result = Err f; held = []; handed = (t, refl, x.0, refl, refl); booked = (sym (new_same (Err f) new y.0), no_sends sends y.1) }
  act_hands (Retries t) holds h = off_fine a (i + right_events m [] es) h
  act_hands (Waits t) holds h = off_fine a k h
  act_hands (OutOfTurns t) holds h = short_fine a (i + (length es - length t.todo)) h
  act_hands Invalid holds h = off_fine a (i + right_events m [] es) h

  act_ended : (c : Completion ThreadState Value) → act_found c ≡ Fine → HasEnded c
  act_ended (Completes v t) h =
      let x = two_checks a (i + (length es - length t.todo)) k t.todo (is_booked (first_failed cells done (held_by t)) span v (held_by t) new sends) h in
      record { right = refl; eaten = λ fs vs held n l g. runs_whole fs vs held n l t.todo t.txs g x.0 }
  act_ended (Recurs vs t) h = off_fine a (i + right_events m [] es) h
  act_ended (Faults f t) h =
      let x = two_checks a (i + (length es - length t.todo)) k t.todo (same_new (Err f) new && is_empty sends) h in
      record { right = refl; eaten = λ fs vs held n l g. runs_whole fs vs held n l t.todo t.txs g x.0 }
  act_ended (Retries t) h = off_fine a (i + right_events m [] es) h
  act_ended (Waits t) h = off_fine a k h
  act_ended (OutOfTurns t) h = short_fine a (i + (length es - length t.todo)) h
  act_ended Invalid h = off_fine a (i + right_events m [] es) h

-- what an action that isn't over has printed of what its meaning prints
record IsPart (m : List SeenEvent → Completion ThreadState Value) (es : List SeenEvent) (out : List ℕ) (c : Completion ThreadState Value) : Type 0 where
  rest : List ℕ
  eats : HasEatenAll (out ++ rest) c
  least : Begins out (least_of m es)

module _ (a i k : ℕ) (m : List SeenEvent → Completion ThreadState Value) (es : List SeenEvent) (out : List ℕ) where
  part_made : (c : Completion ThreadState Value) (whole : List ℕ) → ((l : List ℕ) → whole ≡ l → HasEatenAll l c) → part_printed m es out whole ≡ true → IsPart m es out c
  part_made c whole made h =
      let x = both (begins out whole) (begins (least_of m es) out) h in
      let y = begins_sound out whole x.0 in
      record { rest = y.0; eats = made (out ++ y.0) y.1; least = begins_sound (least_of m es) out x.1 }

  -- what is tested where turns don't suffice
  short_part : (t : ThreadState) → still_ends a i k m es out (OutOfTurns t) ≡ Fine → (t.todo ≡ []) × (part_printed m es out t.printed ≡ true)
  short_part t h =
      let x = both (length t.todo == 0) (part_printed m es out t.printed) (test (length t.todo == 0 && part_printed m es out t.printed) h) in
      (empty t.todo x.0, x.1)
    where
      test : (b : Bool) → (if b then Fine else Short a (i + (length es - length t.todo))) ≡ Fine → b ≡ true
      test true g = refl
      test false g = short_fine a (i + (length es - length t.todo)) g

  still_part : (c : Completion ThreadState Value) → still_ends a i k m es out c ≡ Fine → IsPart m es out c
  still_part (Completes v t) h = let x = two_checks a (i + (length es - length t.todo)) k t.todo (part_printed m es out t.printed) h in part_made (Completes v t) t.printed (λ l e. (x.0, e)) x.1
  still_part (Recurs vs t) h = off_fine a (i + right_events m [] es) h
  still_part (Faults f t) h = let x = two_checks a (i + (length es - length t.todo)) k t.todo (part_printed m es out t.printed) h in part_made (Faults f t) t.printed (λ l e. (x.0, e)) x.1
  still_part (Retries t) h = off_fine a (i + right_events m [] es) h
  still_part (Waits t) h = let x = two_checks a (i + (length es - length t.todo)) k t.todo (part_printed m es out t.printed) h in part_made (Waits t) t.printed (λ l e. (x.0, e)) x.1
  still_part (OutOfTurns t) h = let x = short_part t h in part_made (OutOfTurns t) t.printed (λ l e. (x.0, e)) x.1
  still_part Invalid h = off_fine a (i + right_events m [] es) h

-- an action of an agent's actor that was stopped for a full book
module _ (books : ℕ → List Event) (a i k : ℕ) (m : List SeenEvent → Completion ThreadState Value) (es : List SeenEvent) (out : List ℕ) where
  full_made : (c : Completion ThreadState Value) (t : ThreadState) → HasEatenAll t.printed c → t.printed ≡ out → Begins t.printed (least_of m es) → IsPart m es out c
  full_made c t eats e least = record { rest = []; eats = subst (λ l. HasEatenAll l c) (e ∙ sym (append-nil out)) eats; least = subst (λ l. Begins l (least_of m es)) e least }

  -- an action that is over, where the store's book is full
  over_part : (c : Completion ThreadState Value) (t : ThreadState) → HasEatenAll t.printed c → Begins t.printed (least_of m es) → (is_full_book books (Some 0) && same_numbers out t.printed) ≡ true → IsPart m es out c × (most_events ≤ length (books 0)) × (t.printed ≡ out)
  over_part c t eats least h =
      let y = both (is_full_book books (Some 0)) (same_numbers out t.printed) h in
      let printed : t.printed ≡ out = sym (same_numbers_sound out t.printed y.1) in
      (full_made c t eats printed least, leb-true most_events (length (books 0)) y.0, printed)

  full_part : (c : Completion ThreadState Value) → (HasEatenUp c → Begins (printed_by c) (least_of m es)) → full_ends books a i k m es out c ≡ Fine → IsPart m es out c × StandsFull books out c
  full_part (Completes v t) least h =
      let x = two_checks a (i + (length es - length t.todo)) k t.todo (is_full_book books (Some 0) && same_numbers out t.printed) h in
      let z = over_part (Completes v t) t (x.0, refl) (least x.0) x.1 in
      (z.0, (z.1, x.0, z.2))
  full_part (Recurs vs t) least h = off_fine a (i + right_events m [] es) h
  full_part (Faults f t) least h =
      let x = two_checks a (i + (length es - length t.todo)) k t.todo (is_full_book books (Some 0) && same_numbers out t.printed) h in
      let z = over_part (Faults f t) t (x.0, refl) (least x.0) x.1 in
      (z.0, (z.1, x.0, z.2))
  full_part (Retries t) least h = off_fine a (i + right_events m [] es) h
  full_part (Waits t) least h =
      let x = two_checks a (i + (length es - length t.todo)) k t.todo (is_full_book books t.asks && same_numbers out t.printed) h in
      let y = both (is_full_book books t.asks) (same_numbers out t.printed) x.1 in
      let printed : t.printed ≡ out = sym (same_numbers_sound out t.printed y.1) in
      let b = full_book books t.asks y.0 in
      (full_made (Waits t) t (x.0, refl) printed (least x.0), (b.0, b.1, (b.2, x.0, printed)))
  full_part (OutOfTurns t) least h = short_fine a (i + (length es - length t.todo)) h
  full_part Invalid least h = off_fine a (i + right_events m [] es) h

  -- by how the actor ended
  rest_part : (full : Bool) (c : Completion ThreadState Value) → (HasEatenUp c → Begins (printed_by c) (least_of m es)) → rest_ends books full a i k m es out c ≡ Fine → IsPart m es out c × (full ≡ true → StandsFull books out c)
  rest_part true c least h = let z = full_part c least h in (z.0, λ e. z.1)
  rest_part false c least h = (still_part a i k m es out c h, λ e. absurd (false≢true e))

-- ---- entries that name an event

abbrev pub IsNamed : (ℕ → List Event) → Place → Type 0
IsNamed books q = (e : Event) × (nth (books q.book) q.at ≡ Some e)

abbrev pub AreNamed : (ℕ → List Event) → List Place → Type 0
AreNamed books [] = Unit {0}
AreNamed books (q ∷ qs) = IsNamed books q × AreNamed books qs

pub named_both : (books : ℕ → List Event) (ps qs : List Place) → AreNamed books ps → AreNamed books qs → AreNamed books (ps ++ qs)
named_both books [] qs h k = k
named_both books (p ∷ ps) qs h k = (h.0, named_both books ps qs h.1 k)

-- an index among an actor's events is that of an event
among_there : (a from : ℕ) (es : List Event) (k : ℕ) → among k (places_by a from es) ≡ true → (j : ℕ) × (k ≡ from + j) × ((e : Event) × (nth es j ≡ Some e))
among_there a from [] k h = absurd (false≢true h)
among_there a from (d ∷ es) k h = go (d.actor == a) h (λ l. later (among_there a (suc from) es k l))
  where
    later : ((j : ℕ) × (k ≡ suc from + j) × ((e : Event) × (nth es j ≡ Some e))) → (j : ℕ) × (k ≡ from + j) × ((e : Event) × (nth (d ∷ es) j ≡ Some e))
    later r = let z = r.1 in let w : k ≡ from + suc r.0 = omega (arith, z) in (suc r.0, w, r.2)

    here : (b : Bool) → (from == k) ≡ b → (b || among k (places_by a (suc from) es)) ≡ true → (among k (places_by a (suc from) es) ≡ true → (j : ℕ) × (k ≡ from + j) × ((e : Event) × (nth (d ∷ es) j ≡ Some e)))
        → (j : ℕ) × (k ≡ from + j) × ((e : Event) × (nth (d ∷ es) j ≡ Some e))
    here true e l rest = let same = eqb-true from k e in let w : k ≡ from + 0 = omega (arith, same) in (0, w, (d, refl))
    here false e l rest = rest l

    go : (b : Bool) → among k (if b then from ∷ places_by a (suc from) es else places_by a (suc from) es) ≡ true → (among k (places_by a (suc from) es) ≡ true → (j : ℕ) × (k ≡ from + j) × ((e : Event) × (nth (d ∷ es) j ≡ Some e)))
        → (j : ℕ) × (k ≡ from + j) × ((e : Event) × (nth (d ∷ es) j ≡ Some e))
    go true l rest = here (from == k) refl l rest
    go false l rest = rest l

-- an entry of a trace is among those of its book
pub among_more : (k b : ℕ) (q : Place) (qs : List Place) → among k (places_in b qs) ≡ true → among k (places_in b (q ∷ qs)) ≡ true
among_more k b q qs h = go (q.book == b)
  where
    go : (c : Bool) → among k (if c then q.at ∷ places_in b qs else places_in b qs) ≡ true
    go true = ap (λ d. q.at == k || d) h ∙ or_one (q.at == k)
      where
        or_one : (d : Bool) → (d || true) ≡ true
        or_one true = refl
        or_one false = refl
    go false = h

pub among_first : (q : Place) (qs : List Place) → among q.at (places_in q.book (q ∷ qs)) ≡ true
among_first q qs = ap (λ c. among q.at (if c then q.at ∷ places_in q.book qs else places_in q.book qs)) (eq-eqb q.book q.book refl) ∙ ap (λ c. c || among q.at (places_in q.book qs)) (eq-eqb q.at q.at refl)

-- each entry of a trace that names an actor's events names an event
pub trace_named : (books : ℕ → List Event) (a : ℕ) (trace : List Place) → TraceHolds books a trace → AreNamed books trace
trace_named books a trace holds = go trace (λ q k. k)
  where
    one : (q : Place) → among q.at (places_in q.book trace) ≡ true → IsNamed books q
    one q h =
        let r = among_there a 0 (books q.book) q.at (subst (λ l. among q.at l ≡ true) (holds q.book) h) in
        let z = r.1 in
        let w : q.at ≡ r.0 = omega (arith, z) in
        (r.2.0, ap (nth (books q.book)) w ∙ r.2.1)

    go : (qs : List Place) → ((q : Place) → among q.at (places_in q.book qs) ≡ true → among q.at (places_in q.book trace) ≡ true) → AreNamed books qs
    go [] h = tt
    go (q ∷ qs) h = (one q (h q (among_first q qs)), go qs (λ p k. h p (among_more p.at p.book q qs k)))

-- ---- what came before the last event

-- the events of entries, each of which names one
pub seen_both : (cells : List CellDefinition) (books : ℕ → List Event) (ps qs : List Place) → seen_of cells books (ps ++ qs) ≡ seen_of cells books ps ++ seen_of cells books qs
seen_both cells books [] qs = refl
seen_both cells books (p ∷ ps) qs = go (nth (books p.book) p.at) (seen_both cells books ps qs)
  where
    go : (o : Option Event) → seen_of cells books (ps ++ qs) ≡ seen_of cells books ps ++ seen_of cells books qs → seen_before cells books p o (seen_of cells books (ps ++ qs)) ≡ seen_before cells books p o (seen_of cells books ps) ++ seen_of cells books qs
    go None h = h
    go (Some e) h = ap (λ l. seen_in cells p.book (books p.book) p.at e.kind ∷ l) h

pub seen_last : (cells : List CellDefinition) (books : ℕ → List Event) (q : Place) → IsNamed books q → (f : SeenEvent) × (seen_of cells books (q ∷ []) ≡ f ∷ [])
seen_last cells books q h = (seen_in cells q.book (books q.book) q.at h.0.kind, ap (λ o. seen_before cells books q o []) h.1)

-- all but the last
pub last_place : (q : Place) (qs : List Place) → (hs : List Place) × (p : Place) × (q ∷ qs ≡ hs ++ p ∷ [])
last_place q [] = ([], q, refl)
last_place q (p ∷ ps) = let r = last_place p ps in (q ∷ r.0, r.1, ap (λ l. q ∷ l) r.2)

pub named_part : (books : ℕ → List Event) (ps qs : List Place) → AreNamed books (ps ++ qs) → AreNamed books qs
named_part books [] qs h = h
named_part books (p ∷ ps) qs h = named_part books ps qs h.1

pub but_last_of : (es : List SeenEvent) (f : SeenEvent) → but_last (es ++ f ∷ []) ≡ es
but_last_of [] f = refl
but_last_of (e ∷ []) f = refl
but_last_of (e ∷ d ∷ es) f = ap (λ l. e ∷ l) (but_last_of (d ∷ es) f)

pub least_last : (m : List SeenEvent → Completion ThreadState Value) (es : List SeenEvent) (f : SeenEvent) → least_of m (es ++ f ∷ []) ≡ printed_by (m (but_last (es ++ f ∷ [])))
least_last m [] f = refl
least_last m (e ∷ es) f = refl

-- so many turns were allowed for each of these actions
abbrev pub EachTurns : ℕ → List ActionDid → Type 0
EachTurns n [] = Unit {0}
EachTurns n (d ∷ ds) = (d.turns ≡ n) × EachTurns n ds

-- ---- an agent's trace

module _ (p : PlainProgram) (r : PlainReport) (n a : ℕ) (sound : Sound p) (marks : MarkedProgram p) (g : CellId) where
  abbrev seen : List Place → List SeenEvent
  seen ps = seen_of p.cells (books_of r) ps

  -- a callee that may be sent is tested before the rest
  sent_first : (b : Bool) (f : Finding) (i : ℕ) → (if b then f else Off a i) ≡ Fine → (b ≡ true) × (f ≡ Fine)
  sent_first true f i h = (refl, h)
  sent_first false f i h = off_fine a i h

  -- the transactions that are looked at are those of all events
  noted_same : (m : List SeenEvent → Completion ThreadState Value) (es : List SeenEvent) → is_wrong (m es) ≡ false → noted_in m es ≡ txs_of (m es)
  noted_same m es right = ap (λ b. txs_of (if b then m (take (right_events m [] es) es) else m es)) right

  -- an action of which nothing is found, after these events of the store's book
  module _ (done : List Event) (x : Action) (since : List Place) (fits : SoundAction p.functions x) where
    abbrev state : Value
    state = newest (opening (cells_of p.cells)) done g.number

    abbrev means : List SeenEvent → Completion ThreadState Value
    means es = action_after p n done g x es

    abbrev did : ActionDid
    did = record { turns = n; trace = since; txs = txs_of (means (seen since)) }

    calm_of : (i : ℕ) → HasEnded (means (seen since)) → calm_found (cells_of p.cells) (books_of r) a i since (noted_in means (seen since)) ≡ Fine → SaidOf (undisturbed p.cells (books_of r)) (books_of r) since (txs_of (means (seen since)))
    calm_of i e h =
        let noted = actions_note p.cells p.functions n x state (seen since) sound.functions sound.cells marks.functions fits in
        let runs = e.eaten p.functions (validators_of p.cells) (Some []) n (seen since) noted in
        calm_said p.functions (Some []) n p.cells (books_of r) a i since (txs_of (means (seen since))) runs (subst (λ xs. calm_found (cells_of p.cells) (books_of r) a i since xs ≡ Fine) (noted_same means (seen since) e.right) h)

    act_means : (i k : ℕ) (new : Result Value Fault) (sends : List Action) → next_action (cells_of p.cells) done g ≡ Some x
        → and_then (calm_found (cells_of p.cells) (books_of r) a i since (noted_in means (seen since))) (act_ends (cells_of p.cells) done x.span a i k means (seen since) new sends (means (seen since))) ≡ Fine
        → ActMeans p.cells p.functions (books_of r) done g did (printed_by (means (seen since))) new sends
    act_means i k new sends next h =
        let y = and_fine (calm_found (cells_of p.cells) (books_of r) a i since (noted_in means (seen since))) (act_ends (cells_of p.cells) done x.span a i k means (seen since) new sends (means (seen since))) h in
        let holds = λ (v : Value) (t : ThreadState) (e : means (seen since) ≡ Completes v t). action_holds p.cells p.functions n x state (seen since) sound.functions sound.cells marks.functions v t e in
        let z = act_hands (cells_of p.cells) done x.span a i k means (seen since) new sends (means (seen since)) holds y.1 in
        record { action = x; next = next; sound = fits; result = z.result; held = z.held; means = z.handed; booked = z.booked; noted = refl; calm = calm_of i (act_ended (cells_of p.cells) done x.span a i k means (seen since) new sends (means (seen since)) y.1) y.0 }

    -- before the last event it waits, and has printed the least
    least_means : (out : List ℕ) → AreNamed (books_of r) since → HasEatenUp (means (seen since)) → Begins out (least_of means (seen since))
        → (since ≡ []) ⊎ ((hs : List Place) × (q : Place) × (since ≡ hs ++ q ∷ []) × (m : ℕ) × (part : List ℕ) × HasWaited part (halted (meaning_after p.cells p.functions (books_of r) done g m x hs)) × (more : List ℕ) × (out ≡ part ++ more))
    least_means out named up least = go since refl named up least
      where
        go : (l : List Place) → since ≡ l → AreNamed (books_of r) l → HasEatenUp (means (seen l)) → Begins out (least_of means (seen l))
            → (since ≡ []) ⊎ ((hs : List Place) × (q : Place) × (since ≡ hs ++ q ∷ []) × (m : ℕ) × (part : List ℕ) × HasWaited part (halted (meaning_after p.cells p.functions (books_of r) done g m x hs)) × (more : List ℕ) × (out ≡ part ++ more))
        go [] e named up least = inl e
        go (q ∷ qs) e named up least =
            let b = last_place q qs in
            let hs = b.0 in
            let last = seen_last p.cells (books_of r) b.1 (named_part (books_of r) hs (b.1 ∷ []) (subst (AreNamed (books_of r)) b.2 named)).0 in
            let all : seen (q ∷ qs) ≡ seen hs ++ last.0 ∷ [] = ap seen b.2 ∙ seen_both p.cells (books_of r) hs (b.1 ∷ []) ∙ ap (λ l. seen hs ++ l) last.1 in
            let source : ThreadSource = record { functions = p.functions; cells = p.cells; main = Const Nil (record { span = x.span; wanted = false }) } in
            let cut = action_cut (last.0 ∷ []) source n sound.functions x state (seen hs) in
            let w = waits_front last.0 (means (seen hs)) (means (seen hs ++ last.0 ∷ [])) cut (subst (λ l. HasEatenUp (means l)) all up) in
            let todo = action_waits p.cells p.functions n x state (seen hs) sound.functions sound.cells marks.functions w.0 w.1 in
            let waited : HasWaited w.0.printed (halted (means (seen hs))) = subst (λ c. HasWaited w.0.printed (halted c)) (sym w.1) (todo, refl) in
            let printed : least_of means (seen (q ∷ qs)) ≡ w.0.printed = ap (least_of means) all ∙ least_last means (seen hs) last.0 ∙ ap (λ l. printed_by (means l)) (but_last_of (seen hs) last.0) ∙ ap printed_by w.1 in
            inr (hs, b.1, e ∙ b.2, n, w.0.printed, waited, least.0, least.1 ∙ ap (λ l. l ++ least.0) printed)

  -- what an action has printed on all events but the last
  least_printed_of : (done : List Event) (x : Action) → SoundAction p.functions x → (es : List SeenEvent) → HasEatenUp (action_after p n done g x es) → Begins (printed_by (action_after p n done g x es)) (least_of (action_after p n done g x) es)
  least_printed_of done x fits es up =
      let v = newest (opening (cells_of p.cells)) done g.number in
      let source : ThreadSource = record { functions = p.functions; cells = p.cells; main = Const Nil (record { span = x.span; wanted = false }) } in
      let source_sound : SoundSource source = record { functions = sound.functions; cells = sound.cells; main = tt } in
      least_begins (action_after p n done g x) (λ l fs. action_cut fs source n sound.functions x v l) (λ l fs. action_resumes fs source source_sound n x v fits l) es up

  still_means : (full : Bool) (i k : ℕ) (x : Action) (since : List Place) (out : List ℕ) → SoundAction p.functions x → next_action (cells_of p.cells) r.book g ≡ Some x → AreNamed (books_of r) since
      → and_then (calm_found (cells_of p.cells) (books_of r) a i since (noted_in (action_after p n r.book g x) (seen since))) (rest_ends (books_of r) full a i k (action_after p n r.book g x) (seen since) out (action_after p n r.book g x (seen since))) ≡ Fine
      → (d : ActionDid) × (d.trace ≡ since) × (d.turns ≡ n) × StillMeans p.cells p.functions (books_of r) g d out × (full ≡ true → StandsFull (books_of r) out (action_after p n r.book g x (seen since)))
  still_means full i k x since out fits next named h =
      let m = action_after p n r.book g x in
      let y = and_fine (calm_found (cells_of p.cells) (books_of r) a i since (noted_in m (seen since))) (rest_ends (books_of r) full a i k m (seen since) out (m (seen since))) h in
      let part = rest_part (books_of r) a i k m (seen since) out full (m (seen since)) (λ up. least_printed_of r.book x fits (seen since) up) y.1 in
      let z = part.0 in
      let ended = eaten_ended (out ++ z.rest) (m (seen since)) z.eats in (
        did r.book x since fits,
        refl,
        refl,
        record {
          action = x;
          next = next;
          sound = fits;
          rest = z.rest;
          means = z.eats;
          least = least_means r.book x since fits out named (eaten_up (out ++ z.rest) (m (seen since)) z.eats) z.least;
          noted = refl;
          calm = calm_of r.book x since fits i ended y.0;
        },
        part.1,
      )

  -- what an agent's trace from some entry on means
  abbrev Means : PlainActorReport → List ℕ → (List ℕ → List ActionDid → Type 0) → Type 0
  Means ran outs P = Stopped ran.outcome × (out : List ℕ) × (ran.printed ≡ outs ++ out) × (ds : List ActionDid) × P out ds × EachTurns n ds

  -- what is said at its end, where it was stopped for a full book and where it wasn't
  abbrev pub EndOf : Bool → AtEnd
  EndOf full since out ds = StillActs p.cells p.functions (books_of r) g since out ds × (full ≡ true → EndsFull p.cells p.functions (books_of r) g since out ds)

  abbrev pub InTurn : Bool → List Place → List Place → List ℕ → List ActionDid → Type 0
  InTurn full qs since out ds = ActsUpTo p.cells p.functions (books_of r) g (EndOf full) qs since out ds

  dropped : (outs rest : List ℕ) → drop (length outs) (outs ++ rest) ≡ rest
  dropped [] rest = refl
  dropped (x ∷ xs) rest = dropped xs rest

  stopped_of : (o : Option Outcome) → is_stopped o ≡ true → Stopped o
  stopped_of None h = tt
  stopped_of (Some Done) h = absurd (false≢true h)
  stopped_of (Some (Failed f)) h = absurd (false≢true h)
  stopped_of (Some StepsSpent) h = tt
  stopped_of (Some JournalFull) h = tt
  stopped_of (Some Memory) h = tt

  -- what comes after the last act, where there is something
  still_turn : (full : Bool) (i k : ℕ) (since : List Place) (out : List ℕ) → AreNamed (books_of r) since → (o : Option Action) → next_action (cells_of p.cells) r.book g ≡ o → still_found p r n full a i k g since out o ≡ Fine
      → (ds : List ActionDid) × InTurn full [] since out ds × EachTurns n ds
  still_turn full i k since out named None e h = off_fine a i h
  still_turn full i k since out named (Some x) e h =
      let m = action_after p n r.book g x in
      let rest : Finding = and_then (calm_found (cells_of p.cells) (books_of r) a i since (noted_in m (seen since))) (rest_ends (books_of r) full a i k m (seen since) out (m (seen since))) in
      let f = sent_first (is_sent_call (known p.functions) x.callee (suc (length x.args))) rest i h in
      let d = still_means full i k x since out (sent_of (known p.functions) x.callee (suc (length x.args)) f.0) e named f.1 in
      (d.0 ∷ [], ((d.1, d.3), λ is. (d.1, x, e, n, d.4 is)), (d.2, tt))

  rest_means : (full : Bool) (i k : ℕ) (since : List Place) (out : List ℕ) → AreNamed (books_of r) since → rest_found p r n full a i k g since out ≡ Fine → (ds : List ActionDid) × InTurn full [] since out ds × EachTurns n ds
  rest_means true i k since out named h = still_turn true i k since out named (next_action (cells_of p.cells) r.book g) refl h
  rest_means false i k [] [] named h = ([], ((refl, refl), λ is. absurd (false≢true is)), tt)
  rest_means false i k [] (o ∷ os) named h = still_turn false i k [] (o ∷ os) named (next_action (cells_of p.cells) r.book g) refl h
  rest_means false i k (q ∷ qs) out named h = still_turn false i k (q ∷ qs) out named (next_action (cells_of p.cells) r.book g) refl h

  end_means : (since : List Place) (outs : List ℕ) (ran : PlainActorReport) → AreNamed (books_of r) since → agent_end p r n a g since outs ran ≡ Fine → Means ran outs (λ out ds. InTurn (is_full_stop ran.outcome) [] since out ds)
  end_means since outs ran named h =
      let k = length ran.trace in
      let b = is_stopped ran.outcome && begins outs ran.printed in
      let full = is_full_stop ran.outcome in
      let x = and_fine (check b a k) (rest_found p r n full a (k - length since) k g since (drop (length outs) ran.printed)) h in
      let y = both (is_stopped ran.outcome) (begins outs ran.printed) (check_fine b a k x.0) in
      let z = begins_sound outs ran.printed y.1 in
      let left : drop (length outs) ran.printed ≡ z.0 = ap (drop (length outs)) z.1 ∙ dropped outs z.0 in
      let d = rest_means full (k - length since) k since z.0 named (subst (λ l. rest_found p r n full a (k - length since) k g since l ≡ Fine) left x.1) in
      (stopped_of ran.outcome y.0, z.0, z.1, d.0, d.1, d.2)

  -- an act, by the action that was next
  acted_means : (i k : ℕ) (done : List Event) (since : List Place) (new : Result Value Fault) (sends : List Action) (o : Option Action) → next_action (cells_of p.cells) done g ≡ o → action_found p r n a i k done g since new sends o ≡ Fine
      → (d : ActionDid) × (d.trace ≡ since) × (d.turns ≡ n) × ActMeans p.cells p.functions (books_of r) done g d (action_prints p r n done g since o) new sends
  acted_means i k done since new sends None e h = off_fine a k h
  acted_means i k done since new sends (Some x) e h =
      let m = action_after p n done g x in
      let rest : Finding = and_then (calm_found (cells_of p.cells) (books_of r) a i since (noted_in m (seen since))) (act_ends (cells_of p.cells) done x.span a i k m (seen since) new sends (m (seen since))) in
      let f = sent_first (is_sent_call (known p.functions) x.callee (suc (length x.args))) rest k h in
      let fits = sent_of (known p.functions) x.callee (suc (length x.args)) f.0 in
      let prints : action_prints p r n done g since (Some x) ≡ printed_by (m (seen since)) = ap (λ b. if b then printed_by (m (seen since)) else []) f.0 in (
        did done x since fits,
        refl,
        refl,
        subst (λ out. ActMeans p.cells p.functions (books_of r) done g (did done x since fits) out new sends) (sym prints) (act_means done x since fits i k new sends e f.1),
      )

  -- an event of this kind
  module _ (k : ℕ) (q : Place) (qs since : List Place) (outs : List ℕ) (ran : PlainActorReport) (named : IsNamed (books_of r) q) (front : AreNamed (books_of r) since) where
    abbrev go_on : List Place → List ℕ → Finding
    go_on since1 outs1 = acts_found p r n a (suc k) g since1 outs1 qs ran

    abbrev full : Bool
    full = is_full_stop ran.outcome

    abbrev Next : Type 0
    Next = (since1 : List Place) (outs1 : List ℕ) → AreNamed (books_of r) since1 → go_on since1 outs1 ≡ Fine → Means ran outs1 (λ out ds. InTurn full qs since1 out ds)

    abbrev Here : EventKind → List ℕ → List ActionDid → Type 0
    Here d out ds = EventMeans p.cells p.functions (books_of r) g q d since out ds (λ since1 out1 ds1. InTurn full qs since1 out1 ds1)

    with_it : AreNamed (books_of r) (since ++ q ∷ [])
    with_it = named_both (books_of r) since (q ∷ []) front (named, tt)

    kind_means : (d : EventKind) → Next → kind_found p r n a k q g since outs d go_on ≡ Fine → Means ran outs (λ out ds. Here d out ds)
    kind_means (Act h number new sends) next f =
        let done = take q.at (books_of r q.book) in
        let o = next_action (cells_of p.cells) done g in
        let prints = action_prints p r n done g since o in
        let x = and_fine (action_found p r n a (k - length since) k done g since new sends o) (go_on [] (outs ++ prints)) f in
        let d = acted_means (k - length since) k done since new sends o refl x.0 in
        let y = next [] (outs ++ prints) tt x.1 in
        (y.0, prints ++ y.1, y.2 ∙ append_assoc outs prints y.1, d.0 ∷ y.3, (d.1, prints, y.1, refl, d.3, y.4), (d.2, y.5))
    kind_means (Read c) next f = next (since ++ q ∷ []) outs with_it f
    kind_means (Commit at view ws sends) next f = next (since ++ q ∷ []) outs with_it f
    kind_means (Retry from c cause) next f = next (since ++ q ∷ []) outs with_it f
    kind_means (Fail at view) next f = next (since ++ q ∷ []) outs with_it f
    kind_means (Refused at view h) next f = next (since ++ q ∷ []) outs with_it f
    kind_means (Send x) next f = next (since ++ q ∷ []) outs with_it f
    kind_means (SendRefused h) next f = next (since ++ q ∷ []) outs with_it f
    kind_means (Swap new) next f = next (since ++ q ∷ []) outs with_it f
    kind_means (Broke at) next f = next (since ++ q ∷ []) outs with_it f

  pub acts_mean : (k : ℕ) (qs since : List Place) (outs : List ℕ) (ran : PlainActorReport) → AreNamed (books_of r) qs → AreNamed (books_of r) since → acts_found p r n a k g since outs qs ran ≡ Fine → Means ran outs (λ out ds. InTurn (is_full_stop ran.outcome) qs since out ds)
  acts_mean k [] since outs ran named front h = end_means since outs ran front h
  acts_mean k (q ∷ qs) since outs ran named front h =
      let e = named.0.0 in
      let there = named.0.1 in
      let found : kind_found p r n a k q g since outs e.kind (λ since1 outs1. acts_found p r n a (suc k) g since1 outs1 qs ran) ≡ Fine = subst (λ o. event_found p r n a k q g since outs o (λ since1 outs1. acts_found p r n a (suc k) g since1 outs1 qs ran) ≡ Fine) there h in
      let y = kind_means k q qs since outs ran named.0 front e.kind (λ since1 outs1 front1 g1. acts_mean (suc k) qs since1 outs1 ran named.1 front1 g1) found in
      (y.0, y.1, y.2, y.3, subst (λ o. OfEvent o (λ d. EventMeans p.cells p.functions (books_of r) g q d.kind since y.1 y.3 (λ since1 out1 ds1. InTurn (is_full_stop ran.outcome) qs since1 out1 ds1))) (sym there) y.4, y.5)

-- what is said of an agent's trace
module _ (p : PlainProgram) (r : PlainReport) (n a : ℕ) (sound : Sound p) (marks : MarkedProgram p) (g : CellId) (full : Bool) where
  pub acts_told : (qs since : List Place) (out : List ℕ) (ds : List ActionDid) → InTurn p r n a sound marks g full qs since out ds → ActsInTurn p.cells p.functions (books_of r) g qs since out ds
  acts_told qs since out ds h = acts_map p.cells p.functions (books_of r) g (EndOf p r n a sound marks g full) (StillActs p.cells p.functions (books_of r) g) (λ s o l e. e.0) qs since out ds h

  pub full_told : full ≡ true → (qs since : List Place) (out : List ℕ) (ds : List ActionDid) → InTurn p r n a sound marks g full qs since out ds → ActsUpTo p.cells p.functions (books_of r) g (EndsFull p.cells p.functions (books_of r) g) qs since out ds
  full_told is qs since out ds h = acts_map p.cells p.functions (books_of r) g (EndOf p r n a sound marks g full) (EndsFull p.cells p.functions (books_of r) g) (λ s o l e. e.1 is) qs since out ds h

agent_means : (p : PlainProgram) (r : PlainReport) → Sound p → MarkedProgram p → (n a : ℕ) (g : CellId) (ran : PlainActorReport) → AreNamed (books_of r) ran.trace → acts_found p r n a 0 g [] [] ran.trace ran ≡ Fine → AgentExplained p r g ran
agent_means p r sound marks n a g ran named h =
    let y = acts_mean p r n a sound marks g 0 ran.trace [] [] ran named tt h in
    let full = is_full_stop ran.outcome in
    let told : InTurn p r n a sound marks g full ran.trace [] ran.printed y.3 = subst (λ l. InTurn p r n a sound marks g full ran.trace [] l y.3) (sym y.2) y.4 in
    record { unended = y.0; did = y.3; acts = acts_told p r n a sound marks g full ran.trace [] ran.printed y.3 told; full = λ e. full_told p r n a sound marks g full (ap is_full_stop e) ran.trace [] ran.printed y.3 told }

-- what is found of an agent's entry
pub agents_fine : (p : PlainProgram) (r : PlainReport) (n a : ℕ) (gs : List CellId) (rans : List PlainActorReport) → agents_found p r n a gs rans ≡ Fine → (i : ℕ) (g : CellId) (ran : PlainActorReport) → nth gs i ≡ Some g → nth rans i ≡ Some ran
    → (b : ℕ) × (acts_found p r n b 0 g [] [] ran.trace ran ≡ Fine)
agents_fine p r n a [] rans h i g ran there here = not_there there
agents_fine p r n a (f ∷ fs) [] h i g ran there here = not_there here
agents_fine p r n a (f ∷ fs) (x ∷ xs) h zero g ran there here =
    let y = and_fine (acts_found p r n a 0 f [] [] x.trace x) (agents_found p r n (suc a) fs xs) h in
    let one : f ≡ g = cc in
    let two : x ≡ ran = cc in
    (a, subst (λ (z : PlainActorReport). acts_found p r n a 0 g [] [] z.trace z ≡ Fine) two (subst (λ (z : CellId). acts_found p r n a 0 z [] [] x.trace x ≡ Fine) one y.0))
agents_fine p r n a (f ∷ fs) (x ∷ xs) h (suc i) g ran there here =
    agents_fine p r n (suc a) fs xs (and_fine (acts_found p r n a 0 f [] [] x.trace x) (agents_found p r n (suc a) fs xs) h).1 i g ran there here

-- ---- all

pub sized_of : (p : PlainProgram) (r : PlainReport) → fits_sizes p r ≡ true → Sized p r
sized_of p r h =
    let agents = length (agents_from 0 p.cells) in
    let atoms = length (atoms_from 0 p.cells) in
    let a = length r.threads == length p.threads in
    let b = length r.agents == agents in
    let c = length r.atom_books == atoms in
    let d = length r.cells == length p.cells in
    let e = length r.failed == agents in
    let x = both a (b && (c && (d && e))) h in
    let y = both b (c && (d && e)) x.1 in
    let z = both c (d && e) y.1 in
    let w = both d e z.1 in record {
      threads = eqb-true (length r.threads) (length p.threads) x.0;
      agents = eqb-true (length r.agents) agents y.0;
      atoms = eqb-true (length r.atom_books) atoms z.0;
      cells = eqb-true (length r.cells) (length p.cells) w.0;
      failed = eqb-true (length r.failed) agents w.1;
    }

pub agrees_is_explained : NoneIsOrdered → NamedOnACycle → AgreesIsExplained
agrees_is_explained ordered cycle p w r n serial sound marks h =
    let all = (answer_fine (found p w r n) (are_serial p r n p.threads r.threads && agents_serial p r n (agents_from 0 p.cells) r.agents) serial h).0 in
    let sizes = check (fits_sizes p r) 0 0 in
    let traces = traces_found (books_of r) (suc (length r.atom_books)) 0 (r.threads ++ r.agents) in
    let store = store_found p r in
    let atoms = atoms_found p r (atoms_from 0 p.cells) in
    let threads = threads_found p r n 0 p.threads r.threads in
    let agents = agents_found p r n (length p.threads) (agents_from 0 p.cells) r.agents in
    let order = and_then (order_found p r) (and_then threads agents) in
    let ends = and_then (ends_found p w r) order in
    let x = and_fine sizes (and_then traces (and_then store (and_then atoms ends))) all in
    let y = and_fine traces (and_then store (and_then atoms ends)) x.1 in
    let z = and_fine store (and_then atoms ends) y.1 in
    let u = and_fine atoms ends z.1 in
    let e = and_fine (ends_found p w r) order u.1 in
    let o = and_fine (order_found p r) (and_then threads agents) e.1 in
    let v = and_fine threads agents o.1 in
    let sized = sized_of p r (check_fine (fits_sizes p r) 0 0 x.0) in
    let traced : (a : ℕ) (ran : PlainActorReport) → nth (r.threads ++ r.agents) a ≡ Some ran → TraceHolds (books_of r) a ran.trace =
    λ a ran there. (let q : 0 + a ≡ a = omega arith in subst (λ b. TraceHolds (books_of r) b ran.trace) q (traces_hold r 0 (r.threads ++ r.agents) y.0 a ran there)) in
    let legal = store_legal p r z.0 in
    record {
      sized = sized;
      traced = traced;
      legal = legal;
      values = λ k d there kind. (let q : 0 + k ≡ k = omega arith in subst (λ j. nth r.cells k ≡ Some (newest (opening (cells_of p.cells)) r.book j)) q (values_are p.cells r 0 p.cells r.cells (store_left p r z.0).0 k d there kind));
      failures = λ i g there. failures_are (cells_of p.cells) r.book (agents_from 0 p.cells) r.failed (store_left p r z.0).1 i g there;
      atoms = λ c has. (let l = atom_listed p.cells c has in atoms_mean p r (atoms_from 0 p.cells) u.0 l.0 c l.1);
      ends = ends_truly p w r sized.agents e.0;
      ordered = in_order p r ordered cycle o.0;
      threads = λ a t ran there here.
          (let f = each_fine p r n 0 p.threads r.threads v.0 a t ran there here in
          let parts = thread_parts p r sound marks n f.0 a t ran there f.1 in
          record { turns = n; ends = parts.ends; least = parts.least; calm = parts.calm; full = λ e. (n, parts.full e) });
      agents = λ i g ran there here.
          (let f = agents_fine p r n (length p.threads) (agents_from 0 p.cells) r.agents v.1 i g ran there here in
          let entry : nth (r.threads ++ r.agents) (length r.threads + i) ≡ Some ran = behind r.threads r.agents i ∙ here in
          agent_means p r sound marks n f.0 g ran (trace_named (books_of r) (length r.threads + i) ran.trace (traced (length r.threads + i) ran entry)) f.1);
    }
