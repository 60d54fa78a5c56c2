-- An audit differs on no report that a sound program explains.
use Rattle.std.proofs.Common.{◌≡◌, ◌<◌, ◌≤◌, ℕ, zero, suc, ◌+◌, ◌==◌, ◌&&◌, ◌||◌, Bool, true, false, List, [], ◌∷◌, ◌++◌, length, length-append, take, Option, Some, None, Result, Ok, Err, refl, sym, ap, ◌∙◌, subst, arith, append_assoc, ⊎_elim, inl, inr, ◌⊎◌, if◌then◌else◌, drop}
use Rattle.std.specs.Prelude.{not, nat_lt, ◌-◌, nat_le}
use Rattle.std.proofs.lemmas.Bool.{eq-eqb, false≢true, cases_lt, le-leb}
use Rattle.std.proofs.lemmas.Bool.Decides.{nat_tests}
use Rattle.txs_value_data.specs.Places.{nth, fault_at}
use Rattle.txs_value_data.specs.declared.fault.Fault.{Fault}
use Rattle.txs_value_data.specs.declared.op.Callee.{Callee}
use Rattle.txs_value_data.specs.declared.op.Callee.TheVariants.{Core as CoreOp, Function}
use Rattle.txs_value_cell.specs.Agents.{agents_from}
use Rattle.txs_value_cell.specs.declared.action.Action.{Action}
use Rattle.txs_value_cell.specs.Forms.{same_kind}
use Rattle.txs_value_cell.specs.declared.cell.CellDefinition.{CellDefinition}
use Rattle.txs_value_data.specs.Limits.{most_events, most_items}
use Rattle.txs_value_data.specs.declared.value.CellId.{CellId}
use Rattle.txs_value_data.specs.declared.value.CellKind.TheVariants.{Atom}
use Rattle.txs_value_data.specs.declared.value.Value.{Value}
use Rattle.txs_world_protocol.proofs.AskLemmas.{same_value-itself, same_actions-itself}
use Rattle.txs_world_protocol.specs.Ask.{same_cell, same_value, same_fault, same_new, same_actions}
use Rattle.txs_world_protocol.specs.SeenEvent.{SeenEvent, home}
use Rattle.txs_world_protocol.specs.declared.event.Event.{Event}
use Rattle.txs_world_protocol.specs.declared.event.EventKind.{EventKind}
use Rattle.txs_world_protocol.specs.declared.event.EventKind.TheVariants.{Read, Commit, Retry, Fail, Refused, Send, SendRefused, Act, Swap, Broke}
use Rattle.txs_world_protocol.specs.declared.event.Outcome.{Outcome}
use Rattle.txs_world_protocol.specs.declared.event.Outcome.TheVariants.{Done, Failed, StepsSpent, JournalFull, Memory}
use Rattle.txs_world_book.specs.Atom.{LegalAtomKind, atom_after}
use Rattle.txs_world_book.specs.Book.{Each, LegalKind, Untouched, has_ref, has_agent, are_refs, are_sends, cells_in, may_end, may_rerun, first_failed, is_failed, is_there, is_empty, mail_after, waits, makes, newest, opening, written, actors, may_send}
use Rattle.txs_world_book.specs.Served.{cells_of}
use Rattle.txs_world_book.specs.declared.cell.StoreCell.{StoreCell}
use Rattle.txs_tree_meaning.specs.Known.{Known, known}
use Rattle.txs_tree_meaning.specs.Meaning.{Completion, Completes, Recurs, Faults, Retries, Waits, OutOfTurns, Invalid}
use Rattle.txs_tree_meaning.specs.Right.{is_wrong, right_meaning, right_events}
use Rattle.txs_tree_meaning.specs.Sound.{Sound, SoundSource, SoundSent}
use Rattle.txs_tree_meaning.specs.Thread.{TxRun, ThreadState, thread_meaning, action_meaning}
use Rattle.txs_tree_meaning.specs.Tree.{PlainFunction, PlainProgram, PlainThread, ThreadSource, Const}
use Rattle.txs_theorem_threads.proofs.Meant.{Any, none_some}
use Rattle.txs_theorem_threads.proofs.MoreEvents.{settled_same}
use Rattle.txs_theorem_threads.specs.EndsSo.{HasSettled, NeedsTurns}
use Rattle.txs_theorem_threads.specs.FollowsAgent.{SoundAction, IsHandedIn}
use Rattle.txs_theorem_threads.specs.FollowsAll.{source_of}
use Rattle.txs_theorem_threads.specs.Noted.{txs_of}
use Rattle.txs_theorem_threads.specs.RepliesFit.{HasEatenAll, HasWaited, halted}
use Rattle.txs_theorem_runs.specs.Agents.{meaning_after, ActMeans, ActionDid, IsBooked, StillMeans, EventMeans, OfEvent, AtEnd, ActsUpTo, StillActs, ActsInTurn}
use Rattle.txs_theorem_runs.specs.Full.{WaitsFull, StandsFull, EndsFull}
use Rattle.txs_theorem_runs.proofs.Rounds.{acts_map}
use Rattle.txs_theorem_runs.specs.Told.{Place, TraceHolds, places_in, places_by, seen_of}
use Rattle.txs_theorem_runs.specs.Transactions.{SaidAt, SaidIf, SaidOf, undisturbed}
use Rattle.txs_value_apply.specs.Core.{takes}
use Rattle.txs_value_data.specs.declared.fault.FaultKind.TheVariants.{AgentFailed}
use Rattle.txs_value_data.specs.declared.fault.Span.{Span}
use Rattle.txs_value_data.specs.declared.value.Value.TheVariants.{Nil}
use Rattle.txs_world.specs.Store.{next_action}
use Rattle.txs_theorem_serial.specs.Taken.{SomeIsNotOrdered}
use Rattle.txs_theorem_audit.specs.Audited.{PlainActorReport, PlainReport, PlainTerms, books_of, entry_of, Verdict, Agrees, Differs, Undecided, Finding, Fine, Off, Short, and_then, check, answer}
use Rattle.txs_theorem_audit.specs.Explained.{Sized, Begins, Stopped, EndsAs, events_of, meaning_of, ThreadExplained, AtomExplained, AgentExplained, IsExplained}
use Rattle.txs_theorem_audit.specs.Laws.{DiffersIsNotExplained}
use Rattle.txs_theorem_audit.specs.Verdict.{agents_serial, atoms_from, fits_sizes, begins, same_numbers, runs_right, names_all, in_books, trace_found, traces_found, is_legal_kind, is_legal_swap, book_found, has_values, same_failure, has_failed, store_found, atom_found, atoms_found, ends_found, order_found, is_value, length_if, index_if, printed_by, but_last, is_untouched, is_first_failed, is_calm, is_end, with_run, calm_at, calm_found, is_stopped, is_done, has_faulted, least_printed, printed_part, end_found, is_full_stop, is_full_book, full_found, thread_ends, noted_by, thread_found, threads_found, acts_found, agents_found, are_serial, found, action_after, is_sent_known, is_sent_call, sends_if, held_by, noted_in, is_booked, act_ends, action_found, action_prints, least_of, part_printed, still_ends, full_ends, rest_ends, still_found, rest_found, agent_end, kind_found, event_found}
use Rattle.txs_theorem_audit.proofs.Agreeing.{sound_thread, full_is, IsNamed, AreNamed, named_both, named_part, seen_both, seen_last, but_last_of, least_last}
use Rattle.txs_theorem_audit.proofs.Beginning.{k, cut, action_cut}
use Rattle.txs_theorem_audit.proofs.Findings.{and_fine, short_fine, NotOff, and_not, check_not, and_true, not_false, equal}
use Rattle.txs_theorem_audit.proofs.Least.{last_of}
use Rattle.txs_theorem_audit.proofs.Listing.{listed_atom, no_book}
use Rattle.txs_theorem_audit.proofs.Ends.{ends_not_off}
use Rattle.txs_theorem_audit.proofs.Timed.{order_not_off}
use Rattle.txs_theorem_audit.proofs.Waiting.{HasEatenUp, eaten_up, ends_up, waits_front}
use Rattle.txs_theorem_audit.proofs.Onward.{Onward, From, Step, none_later, thread_leads, action_leads}

-- ---- findings

abbrev DoesDiffer : Verdict → Type 0
DoesDiffer (Agrees s) = ⊥
DoesDiffer (Differs a i) = Unit {0}
DoesDiffer (Undecided a i) = ⊥

answer_not : (f : Finding) (s : Bool) (a i : ℕ) → answer f s ≡ Differs a i → NotOff f → ⊥
answer_not Fine s a i h n = subst DoesDiffer (sym h) tt
answer_not (Off b j) s a i h n = n
answer_not (Short b j) s a i h n = subst DoesDiffer (sym h) tt

-- ---- truth values and lists

some_one : {A : Type 0} (a b : A) → Some a ≡ Some b → a ≡ b
some_one a b h = ap (λ o. or_else a o) h
  where
    or_else : {A : Type 0} → A → Option A → A
    or_else d None = d
    or_else d (Some c) = c

no_item : {A B : Type 0} (x : A) (xs : List A) → x ∷ xs ≡ [] → B
no_item x xs h = let l : suc (length xs) ≡ 0 = ap length h in absurd (omega (arith, l))

same_itself : (xs : List ℕ) → same_numbers xs xs ≡ true
same_itself [] = refl
same_itself (x ∷ xs) = and_true (x == x) (same_numbers xs xs) (equal x) (same_itself xs)

same_true : (xs ys : List ℕ) → xs ≡ ys → same_numbers xs ys ≡ true
same_true xs ys h = subst (λ l. same_numbers xs l ≡ true) h (same_itself xs)

begins_front : (xs ys : List ℕ) → begins xs (xs ++ ys) ≡ true
begins_front [] ys = refl
begins_front (x ∷ xs) ys = and_true (x == x) (begins xs (xs ++ ys)) (equal x) (begins_front xs ys)

pub begins_true : (whole part : List ℕ) → Begins whole part → begins part whole ≡ true
begins_true whole part h = subst (λ l. begins part l ≡ true) (sym h.1) (begins_front part h.0)

cell_itself : (c : CellId) → same_cell c c ≡ true
cell_itself c = and_true _ _ (equal _) (equal c.number)

fault_itself : (f : Fault) → same_fault f f ≡ true
fault_itself f = and_true _ _ (equal _) (and_true _ _ (equal f.span.from) (equal f.span.to))

new_itself : (x : Result Value Fault) → same_new x x ≡ true
new_itself (Ok v) = same_value-itself v
new_itself (Err f) = fault_itself f

-- ---- sizes

sizes_true : (p : PlainProgram) (r : PlainReport) → Sized p r → fits_sizes p r ≡ true
sizes_true p r h =
    and_true _ _ (eq-eqb (length r.threads) (length p.threads) h.threads)
    (and_true _ _ (eq-eqb (length r.agents) (length (agents_from 0 p.cells)) h.agents)
    (and_true _ _ (eq-eqb (length r.atom_books) (length (atoms_from 0 p.cells)) h.atoms)
    (and_true _ _ (eq-eqb (length r.cells) (length p.cells) h.cells) (eq-eqb (length r.failed) (length (agents_from 0 p.cells)) h.failed))))

-- ---- traces

module _ (r : PlainReport) (a : ℕ) where
  names_true : (trace : List Place) → TraceHolds (books_of r) a trace → (count : ℕ) → names_all (books_of r) a trace count ≡ true
  names_true trace h zero = refl
  names_true trace h (suc n) = and_true (same_numbers (places_in n trace) (places_by a 0 (books_of r n))) (names_all (books_of r) a trace n) (same_true (places_in n trace) (places_by a 0 (books_of r n)) (h n)) (names_true trace h n)

  in_true : (count : ℕ) (ps : List Place) → ((n : ℕ) → count ≤ n → places_in n ps ≡ []) → in_books count ps ≡ true
  in_true count [] h = refl
  in_true count (q ∷ qs) h = test (nat_lt q.book count) refl (λ g. in_true count qs g)
    where
      tail_none : (b : Bool) (l : List ℕ) → (if b then q.at ∷ l else l) ≡ [] → l ≡ []
      tail_none true l e = no_item q.at l e
      tail_none false l e = e

      head_none : (b : Bool) (l : List ℕ) → b ≡ true → (if b then q.at ∷ l else l) ≡ [] → ⊥
      head_none true l c e = no_item q.at l e
      head_none false l c e = false≢true c

      test : (b : Bool) → nat_lt q.book count ≡ b → (((n : ℕ) → count ≤ n → places_in n qs ≡ []) → in_books count qs ≡ true) → (b && in_books count qs) ≡ true
      test true e rest = rest (λ n le. tail_none (q.book == n) (places_in n qs) (h n le))
      test false e rest = let le : count ≤ q.book = grind (arith, nat_tests, e) in absurd (head_none (q.book == q.book) (places_in q.book qs) (equal q.book) (h q.book le))

  trace_not : (trace : List Place) → TraceHolds (books_of r) a trace → NotOff (trace_found (books_of r) (suc (length r.atom_books)) a trace)
  trace_not trace h =
      let count = suc (length r.atom_books) in
      check_not (in_books count trace && names_all (books_of r) a trace count) a (runs_right (books_of r) a [] trace)
      (and_true (in_books count trace) (names_all (books_of r) a trace count) (in_true count trace (λ n le. h n ∙ ap (places_by a 0) (no_book r n le))) (names_true trace h count))

traces_not : (r : PlainReport) (a : ℕ) (rans : List PlainActorReport) → ((i : ℕ) (ran : PlainActorReport) → nth rans i ≡ Some ran → TraceHolds (books_of r) (a + i) ran.trace) → NotOff (traces_found (books_of r) (suc (length r.atom_books)) a rans)
traces_not r a [] h = tt
traces_not r a (x ∷ xs) h =
    let z : a + 0 ≡ a = omega arith in
    and_not (trace_found (books_of r) (suc (length r.atom_books)) a x.trace) (traces_found (books_of r) (suc (length r.atom_books)) (suc a) xs) (trace_not r a x.trace (subst (λ b. TraceHolds (books_of r) b x.trace) z (h 0 x refl)))
    (traces_not r (suc a) xs (λ i ran there. (let w : a + suc i ≡ suc a + i = omega arith in subst (λ b. TraceHolds (books_of r) b ran.trace) w (h (suc i) ran there))))

-- ---- books

legal_true : (cells : List StoreCell) (done : List Event) (a : ℕ) (d : EventKind) → LegalKind cells done a d → is_legal_kind cells done a d ≡ true
legal_true cells done a (Read c) h = h
legal_true cells done a (Commit at view ws sends) h =
    and_true (are_refs cells 0 (cells_in ws)) _ h.0 (and_true (are_sends cells sends) _ h.1 (and_true (may_end done a at view) _ h.2 (ap (λ o. not (is_there o)) h.3)))
legal_true cells done a (Retry since c cause) h = and_true (has_ref cells c) _ h.0 (and_true (may_rerun done a since c cause) (written c.number since done) h.1 h.2)
legal_true cells done a (Fail at view) h = h
legal_true cells done a (Refused at view g) h = and_true (has_agent cells g) _ h.0 (and_true (may_end done a at view) (is_failed cells done g) h.1 h.2)
legal_true cells done a (Send x) h = and_true (has_agent cells x.agent) (not (is_failed cells done x.agent)) h.0 (not_false (is_failed cells done x.agent) h.1)
legal_true cells done a (SendRefused g) h = and_true (has_agent cells g) (is_failed cells done g) h.0 h.1
legal_true cells done a (Act g n new sends) h =
    and_true (has_agent cells g) _ h.0
    (and_true (not (is_failed cells done g)) _ (not_false (is_failed cells done g) h.1)
    (and_true (waits (mail_after cells done g.number).actions) _ h.2
    (and_true (n == suc (mail_after cells done g.number).acts) _ (eq-eqb n (suc (mail_after cells done g.number).acts) h.3)
    (and_true (may_send new sends) _ h.4 (and_true (are_sends cells sends) (not (is_there (first_failed cells done sends))) h.5 (ap (λ o. not (is_there o)) h.6))))))
legal_true cells done a (Swap new) h = absurd h
legal_true cells done a (Broke at) h = absurd h

swap_true : (cell : CellId) (done : List Event) (a : ℕ) (d : EventKind) → LegalAtomKind cell done a d → is_legal_swap cell done a d ≡ true
swap_true cell done a (Read c) h = subst (λ x. same_cell c x ≡ true) h (cell_itself c)
swap_true cell done a (Commit at view ws sends) h = absurd h
swap_true cell done a (Retry since c cause) h = absurd h
swap_true cell done a (Fail at view) h = absurd h
swap_true cell done a (Refused at view g) h = absurd h
swap_true cell done a (Send x) h = absurd h
swap_true cell done a (SendRefused g) h = absurd h
swap_true cell done a (Act g n new sends) h = absurd h
swap_true cell done a (Swap new) h = refl
swap_true cell done a (Broke at) h = h

book_not : (test : List Event → Event → Bool) (index : ℕ → ℕ → ℕ) (P Q : List Event → Event → Type 0) → ((done : List Event) (e : Event) → P done e → Q done e → test done e ≡ true) → (done es : List Event) → length done + length es ≤ most_events → Each P done es → Each Q done es
    → NotOff (book_found test index done es)
book_not test index P Q g done [] le h k = tt
book_not test index P Q g done (e ∷ es) le h k =
    let few : length done < most_events = omega (arith, le) in
    let room : nat_lt (length done) most_events ≡ true = grind (arith, nat_tests, few) in
    let longer_by : length (done ++ e ∷ []) ≡ length done + 1 = length-append done (e ∷ []) in
    let rest : length (done ++ e ∷ []) + length es ≤ most_events = omega (arith, le, longer_by) in
    and_not (check (nat_lt (length done) most_events && test done e) e.actor (index e.actor (length done))) (book_found test index (done ++ e ∷ []) es)
    (check_not (nat_lt (length done) most_events && test done e) e.actor (index e.actor (length done)) (and_true (nat_lt (length done) most_events) (test done e) room (g done e h.0 k.0)))
    (book_not test index P Q g (done ++ e ∷ []) es rest h.1 k.1)

values_true : (all : List CellDefinition) (r : PlainReport) (n : ℕ) (ds : List CellDefinition) (vs : List Value) → length vs ≡ length ds
    → ((k : ℕ) (d : CellDefinition) → nth ds k ≡ Some d → same_kind d.kind Atom ≡ false → nth vs k ≡ Some (newest (opening (cells_of all)) r.book (n + k))) → has_values all r n ds vs ≡ true
values_true all r n [] vs many h = refl
values_true all r n (d ∷ ds) [] many h = absurd (omega (arith, many))
values_true all r n (d ∷ ds) (v ∷ vs) many h =
    let fewer : length vs ≡ length ds = omega (arith, many) in
    and_true (same_kind d.kind Atom || same_value (newest (opening (cells_of all)) r.book n) v) (has_values all r (suc n) ds vs) (here (same_kind d.kind Atom) refl)
    (values_true all r (suc n) ds vs fewer (λ k c there kind. (let z : n + suc k ≡ suc n + k = omega arith in subst (λ j. nth vs k ≡ Some (newest (opening (cells_of all)) r.book j)) z (h (suc k) c there kind))))
  where
    here : (b : Bool) → same_kind d.kind Atom ≡ b → (b || same_value (newest (opening (cells_of all)) r.book n) v) ≡ true
    here true e = refl
    here false e =
        let z : n + 0 ≡ n = omega arith in
        let is : v ≡ newest (opening (cells_of all)) r.book n = some_one v (newest (opening (cells_of all)) r.book n) (subst (λ j. Some v ≡ Some (newest (opening (cells_of all)) r.book j)) z (h 0 d refl e)) in
        subst (λ w. same_value w v ≡ true) is (same_value-itself v)

failure_itself : (o : Option Fault) → same_failure o o ≡ true
failure_itself None = refl
failure_itself (Some f) = fault_itself f

failed_true : (cells : List StoreCell) (book : List Event) (gs : List CellId) (fs : List (Option Fault)) → length fs ≡ length gs → ((i : ℕ) (g : CellId) → nth gs i ≡ Some g → nth fs i ≡ Some (mail_after cells book g.number).fault) → has_failed cells book gs fs ≡ true
failed_true cells book [] fs many h = refl
failed_true cells book (g ∷ gs) [] many h = absurd (omega (arith, many))
failed_true cells book (g ∷ gs) (f ∷ fs) many h =
    let fewer : length fs ≡ length gs = omega (arith, many) in
    let is : f ≡ (mail_after cells book g.number).fault = some_one f (mail_after cells book g.number).fault (h 0 g refl) in
    and_true (same_failure (mail_after cells book g.number).fault f) (has_failed cells book gs fs) (subst (λ o. same_failure o f ≡ true) is (failure_itself f)) (failed_true cells book gs fs fewer (λ i c there. h (suc i) c there))

store_not : (p : PlainProgram) (w : PlainTerms) (r : PlainReport) → IsExplained p w r → NotOff (store_found p r)
store_not p w r x =
    let cells = cells_of p.cells in
    let test : List Event → Event → Bool = λ done e. makes cells (length p.threads) e.actor e.kind && is_legal_kind cells done e.actor e.kind in
    let index : ℕ → ℕ → ℕ = λ a j. index_if 0 j (entry_of r a) in
    let left = has_values p.cells r 0 p.cells r.cells && has_failed cells r.book (agents_from 0 p.cells) r.failed in
    let few = x.legal.few in
    let room : 0 + length r.book ≤ most_events = omega (arith, few) in
    and_not (book_found test index [] r.book) (check left 0 (length_if (entry_of r 0)))
    (book_not test index (λ done e. makes cells (length p.threads) e.actor e.kind ≡ true) (λ done e. LegalKind cells done e.actor e.kind)
    (λ done e m l. and_true (makes cells (length p.threads) e.actor e.kind) (is_legal_kind cells done e.actor e.kind) m (legal_true cells done e.actor e.kind l)) [] r.book room x.legal.made x.legal.each)
    (check_not left 0 (length_if (entry_of r 0))
    (and_true (has_values p.cells r 0 p.cells r.cells) (has_failed cells r.book (agents_from 0 p.cells) r.failed)
    (values_true p.cells r 0 p.cells r.cells x.sized.cells (λ j d there kind. (let z : j ≡ 0 + j = omega arith in subst (λ i. nth r.cells j ≡ Some (newest (opening cells) r.book i)) z (x.values j d there kind))))
    (failed_true cells r.book (agents_from 0 p.cells) r.failed x.sized.failed x.failures)))

value_true : (v : Value) (o : Option Value) → o ≡ Some v → is_value v o ≡ true
value_true v o h = subst (λ c. is_value v c ≡ true) (sym h) (same_value-itself v)

atom_not : (p : PlainProgram) (r : PlainReport) (c : CellId) → AtomExplained p r c → NotOff (atom_found p r c)
atom_not p r c x =
    let test : List Event → Event → Bool = λ done e. nat_lt e.actor (actors (length p.threads) (cells_of p.cells)) && is_legal_swap c done e.actor e.kind in
    let index : ℕ → ℕ → ℕ = λ a j. index_if (home p.cells c) j (entry_of r a) in
    let book = books_of r (home p.cells c) in
    let ends_at = atom_after (opening (cells_of p.cells) c.number) book (length book) in
    let few = x.legal.few in
    let room : 0 + length book ≤ most_events = omega (arith, few) in
    and_not (book_found test index [] book) (check (is_value ends_at (nth r.cells c.number)) 0 (length_if (entry_of r 0)))
    (book_not test index (λ done e. e.actor < actors (length p.threads) (cells_of p.cells)) (λ done e. LegalAtomKind c done e.actor e.kind)
    (λ done e m l. and_true (nat_lt e.actor (actors (length p.threads) (cells_of p.cells))) (is_legal_swap c done e.actor e.kind) (grind (arith, nat_tests, m)) (swap_true c done e.actor e.kind l)) [] book room x.by_actors x.legal.each)
    (check_not (is_value ends_at (nth r.cells c.number)) 0 (length_if (entry_of r 0)) (value_true ends_at (nth r.cells c.number) x.value))

atoms_not : (p : PlainProgram) (r : PlainReport) (cs : List CellId) → ((i : ℕ) (c : CellId) → nth cs i ≡ Some c → AtomExplained p r c) → NotOff (atoms_found p r cs)
atoms_not p r [] h = tt
atoms_not p r (c ∷ cs) h = and_not (atom_found p r c) (atoms_found p r cs) (atom_not p r c (h 0 c refl)) (atoms_not p r cs (λ i d there. h (suc i) d there))

-- ---- the transactions of a thread

-- one of two lists begins the other
abbrev Fits : List TxRun → List TxRun → Type 0
Fits [] zs = Unit {0}
Fits (x ∷ xs) [] = Unit {0}
Fits (x ∷ xs) (z ∷ zs) = (x ≡ z) × Fits xs zs

fits_front : (xs ys : List TxRun) → Fits xs (xs ++ ys)
fits_front [] ys = tt
fits_front (x ∷ xs) ys = (refl, fits_front xs ys)

fits_longer : (zs ys : List TxRun) → Fits (zs ++ ys) zs
fits_longer [] [] = tt
fits_longer [] (y ∷ ys) = tt
fits_longer (z ∷ zs) ys = (refl, fits_longer zs ys)

fits_itself : (xs : List TxRun) → Fits xs xs
fits_itself [] = tt
fits_itself (x ∷ xs) = (refl, fits_itself xs)

untouched_true : (done : List Event) (at : ℕ) (cs : List CellId) → Untouched done at cs → is_untouched done at cs ≡ true
untouched_true done at [] h = refl
untouched_true done at (c ∷ cs) h = and_true (not (written c.number at done)) (is_untouched done at cs) (not_false (written c.number at done) h.0) (untouched_true done at cs h.1)

module _ (cells : List CellDefinition) (books : ℕ → List Event) (a : ℕ) where
  abbrev Calm : List Place → List TxRun → Type 0
  Calm ps zs = SaidOf (undisturbed cells books) books ps zs

  abbrev found_on : ℕ → List Place → List TxRun → Finding
  found_on i ps xs = calm_found (cells_of cells) books a i ps xs

  abbrev found_here : ℕ → Place → List Place → EventKind → List TxRun → Finding
  found_here i q ps d xs = if is_end d then with_run xs (λ x ys. and_then (check (is_calm (cells_of cells) (take q.at (books q.book)) d x) a i) (found_on (suc i) ps ys)) else found_on (suc i) ps xs

  calm_step : (i : ℕ) (q : Place) (ps : List Place) (d : EventKind) → ((xs zs : List TxRun) → Calm ps zs → Fits xs zs → NotOff (found_on (suc i) ps xs)) → (xs zs : List TxRun) → SaidAt (undisturbed cells books) q d (λ ys. Calm ps ys) zs → Fits xs zs → NotOff (found_here i q ps d xs)
  calm_step i q ps (Read c) next xs zs u f = next xs zs u f
  calm_step i q ps (Commit at view ws sends) next [] zs u f = tt
  calm_step i q ps (Commit at view ws sends) next (x ∷ xs) [] u f = absurd u
  calm_step i q ps (Commit at view ws sends) next (x ∷ xs) (z ∷ zs) u f =
      let done = take q.at (books q.book) in
      let calm = is_untouched done at z.state.done.sets && is_untouched done at z.state.done.ensures in
      let here : calm ≡ true = and_true (is_untouched done at z.state.done.sets) (is_untouched done at z.state.done.ensures) (untouched_true done at z.state.done.sets u.0.0) (untouched_true done at z.state.done.ensures u.0.1) in
      and_not (check (is_calm (cells_of cells) done (Commit at view ws sends) x) a i) (found_on (suc i) ps xs)
      (check_not (is_calm (cells_of cells) done (Commit at view ws sends) x) a i (ap (λ y. is_calm (cells_of cells) done (Commit at view ws sends) y) f.0 ∙ here)) (next xs zs u.1 f.1)
  calm_step i q ps (Retry since c cause) next xs zs u f = next xs zs u f
  calm_step i q ps (Fail at view) next xs zs u f = next xs zs u f
  calm_step i q ps (Refused at view g) next [] zs u f = tt
  calm_step i q ps (Refused at view g) next (x ∷ xs) [] u f = absurd u
  calm_step i q ps (Refused at view g) next (x ∷ xs) (z ∷ zs) u f =
      let done = take q.at (books q.book) in
      let first = first_failed (cells_of cells) done z.state.done.sends in
      let named : is_first_failed first g ≡ true = subst (λ o. is_first_failed o g ≡ true) (sym u.0.2) (cell_itself g) in
      let here : (is_untouched done at z.state.done.sets && (is_untouched done at z.state.done.ensures && is_first_failed first g)) ≡ true =
      and_true (is_untouched done at z.state.done.sets) _ (untouched_true done at z.state.done.sets u.0.0) (and_true (is_untouched done at z.state.done.ensures) (is_first_failed first g) (untouched_true done at z.state.done.ensures u.0.1) named) in
      and_not (check (is_calm (cells_of cells) done (Refused at view g) x) a i) (found_on (suc i) ps xs)
      (check_not (is_calm (cells_of cells) done (Refused at view g) x) a i (ap (λ y. is_calm (cells_of cells) done (Refused at view g) y) f.0 ∙ here)) (next xs zs u.1 f.1)
  calm_step i q ps (Send x) next xs zs u f = next xs zs u f
  calm_step i q ps (SendRefused g) next xs zs u f = next xs zs u f
  calm_step i q ps (Act g n new sends) next xs zs u f = next xs zs u f
  calm_step i q ps (Swap new) next xs zs u f = next xs zs u f
  calm_step i q ps (Broke at) next xs zs u f = next xs zs u f

  calm_not : (i : ℕ) (ps : List Place) (xs zs : List TxRun) → Calm ps zs → Fits xs zs → NotOff (found_on i ps xs)
  calm_not i [] xs zs u f = tt
  calm_not i (q ∷ ps) xs zs u f = go (nth (books q.book) q.at) u (λ ys ws v g. calm_not (suc i) ps ys ws v g)
    where
      go : (o : Option Event) → SaidIf (undisturbed cells books) q o (λ ys. Calm ps ys) zs → ((ys ws : List TxRun) → Calm ps ws → Fits ys ws → NotOff (found_on (suc i) ps ys)) → NotOff (calm_at (cells_of cells) books a i q o (λ ys. found_on (suc i) ps ys) xs)
      go None v next = next xs zs v f
      go (Some e) v next = calm_step i q ps e.kind next xs zs v f

-- ---- the end of a thread

-- which kind of end it is
abbrev IsValue : Completion ThreadState Value → Type 0
IsValue (Completes v t) = Unit {0}
IsValue (Recurs vs t) = ⊥
IsValue (Faults f t) = ⊥
IsValue (Retries t) = ⊥
IsValue (Waits t) = ⊥
IsValue (OutOfTurns t) = ⊥
IsValue Invalid = ⊥

abbrev IsFault : Completion ThreadState Value → Type 0
IsFault (Completes v t) = ⊥
IsFault (Recurs vs t) = ⊥
IsFault (Faults f t) = Unit {0}
IsFault (Retries t) = ⊥
IsFault (Waits t) = ⊥
IsFault (OutOfTurns t) = ⊥
IsFault Invalid = ⊥

state_in : ThreadState → Completion ThreadState Value → ThreadState
state_in d (Completes v t) = t
state_in d (Recurs vs t) = t
state_in d (Faults f t) = t
state_in d (Retries t) = t
state_in d (Waits t) = t
state_in d (OutOfTurns t) = t
state_in d Invalid = d

fault_in : Fault → Completion ThreadState Value → Fault
fault_in d (Faults f t) = f
fault_in d _ = d

abbrev value_at : Value → ThreadState → Completion ThreadState Value
value_at v t = Completes v t

abbrev fault_of : Fault → ThreadState → Completion ThreadState Value
fault_of f t = Faults f t

module _ (s : ThreadSource) (n a : ℕ) (es : List SeenEvent) (ran : PlainActorReport) where
  abbrev part : List ℕ → Bool
  part whole = printed_part s n es ran.printed whole

  part_true : (whole rest : List ℕ) → whole ≡ ran.printed ++ rest → Begins ran.printed (least_printed s n es) → part whole ≡ true
  part_true whole rest e least = and_true (begins ran.printed whole) (begins (least_printed s n es) ran.printed) (begins_true whole ran.printed (rest, e)) (begins_true ran.printed (least_printed s n es) least)

  value_true_at : (v : Value) (t : ThreadState) (o : Option Outcome) → EndsAs o ran.printed (Completes v t) → (Stopped o → Begins ran.printed (least_printed s n es)) → (if is_done o then same_numbers ran.printed t.printed else is_stopped o && part t.printed) ≡ true
  unfolding state_in
  value_true_at v t None h least = part_true t.printed h.0 h.1.1 (least tt)
  value_true_at v t (Some Done) h least =
      let one : t ≡ h.1 = ap (state_in t) h.2 in
      same_true ran.printed t.printed (sym (ap (λ (z : ThreadState). z.printed) one ∙ h.4))
  value_true_at v t (Some (Failed f)) h least = absurd (subst IsValue h.1 tt)
  value_true_at v t (Some StepsSpent) h least = part_true t.printed h.0 h.1.1 (least tt)
  value_true_at v t (Some JournalFull) h least = part_true t.printed h.0 h.1.1 (least tt)
  value_true_at v t (Some Memory) h least = part_true t.printed h.0 h.1.1 (least tt)

  fault_true_at : (f : Fault) (t : ThreadState) (o : Option Outcome) → EndsAs o ran.printed (Faults f t) → (Stopped o → Begins ran.printed (least_printed s n es)) → (if has_faulted f o then same_numbers ran.printed t.printed else is_stopped o && part t.printed) ≡ true
  unfolding state_in fault_in
  fault_true_at f t None h least = part_true t.printed h.0 h.1.1 (least tt)
  fault_true_at f t (Some Done) h least = absurd (subst IsFault h.2 tt)
  fault_true_at f t (Some (Failed g)) h least =
      let one : t ≡ h.0 = ap (state_in t) h.1 in
      let same_one : f ≡ g = ap (fault_in f) h.1 in
      let told : same_fault f g ≡ true = subst (λ z. same_fault f z ≡ true) same_one (fault_itself f) in
      ap (λ b. if b then same_numbers ran.printed t.printed else false) told ∙ same_true ran.printed t.printed (sym (ap (λ (z : ThreadState). z.printed) one ∙ h.3))
  fault_true_at f t (Some StepsSpent) h least = part_true t.printed h.0 h.1.1 (least tt)
  fault_true_at f t (Some JournalFull) h least = part_true t.printed h.0 h.1.1 (least tt)
  fault_true_at f t (Some Memory) h least = part_true t.printed h.0 h.1.1 (least tt)

  abbrev IsWait : Completion ThreadState Value → Type 0
  IsWait (Completes v t) = ⊥
  IsWait (Recurs vs t) = ⊥
  IsWait (Faults f t) = ⊥
  IsWait (Retries t) = ⊥
  IsWait (Waits t) = Unit {0}
  IsWait (OutOfTurns t) = ⊥
  IsWait Invalid = ⊥

  wait_true_at : (t : ThreadState) (o : Option Outcome) → EndsAs o ran.printed (Waits t) → (Stopped o → Begins ran.printed (least_printed s n es)) → (is_stopped o && part t.printed) ≡ true
  wait_true_at t None h least = part_true t.printed h.0 h.1.1 (least tt)
  wait_true_at t (Some Done) h least = absurd (subst IsWait h.2 tt)
  wait_true_at t (Some (Failed g)) h least = absurd (subst IsWait h.1 tt)
  wait_true_at t (Some StepsSpent) h least = part_true t.printed h.0 h.1.1 (least tt)
  wait_true_at t (Some JournalFull) h least = part_true t.printed h.0 h.1.1 (least tt)
  wait_true_at t (Some Memory) h least = part_true t.printed h.0 h.1.1 (least tt)

  none_left : (l : List SeenEvent) → l ≡ [] → (length l == 0) ≡ true
  none_left l e = ap (λ x. length x == 0) e

  short_not : (t : ThreadState) → NotOff (end_found s n a es ran (OutOfTurns t))
  short_not t = test (length t.todo == 0 && (is_stopped ran.outcome && part t.printed))
    where
      test : (b : Bool) → NotOff (if b then Fine else Short a (length es - length t.todo))
      test true = tt
      test false = tt

  two_not : (t : ThreadState) (b : Bool) → t.todo ≡ [] → b ≡ true → NotOff (and_then (check (length t.todo == 0) a (length es - length t.todo)) (check b a (length es)))
  two_not t b e h =
      and_not (check (length t.todo == 0) a (length es - length t.todo)) (check b a (length es)) (check_not (length t.todo == 0) a (length es - length t.todo) (none_left t.todo e)) (check_not b a (length es) h)

  end_not : (m : Completion ThreadState Value) → EndsAs ran.outcome ran.printed m → (Stopped ran.outcome → Begins ran.printed (least_printed s n es)) → NotOff (end_found s n a es ran m)
  end_not (Completes v t) h least = two_not t (if is_done ran.outcome then same_numbers ran.printed t.printed else is_stopped ran.outcome && part t.printed) (ends_up ran.outcome ran.printed (Completes v t) h) (value_true_at v t ran.outcome h least)
  end_not (Recurs vs t) h least = absurd (ends_up ran.outcome ran.printed (Recurs vs t) h)
  end_not (Faults f t) h least = two_not t (if has_faulted f ran.outcome then same_numbers ran.printed t.printed else is_stopped ran.outcome && part t.printed) (ends_up ran.outcome ran.printed (Faults f t) h) (fault_true_at f t ran.outcome h least)
  end_not (Retries t) h least = absurd (ends_up ran.outcome ran.printed (Retries t) h)
  end_not (Waits t) h least = two_not t (is_stopped ran.outcome && part t.printed) (ends_up ran.outcome ran.printed (Waits t) h) (wait_true_at t ran.outcome h least)
  end_not (OutOfTurns t) h least = short_not t
  end_not Invalid h least = absurd (ends_up ran.outcome ran.printed Invalid h)

-- ---- a stop for a full book

-- an event of a full book is needed, all are eaten, and this was printed
full_tests : (books : ℕ → List Event) (b : ℕ) (out : List ℕ) (t : ThreadState) → most_events ≤ length (books b) → t.asks ≡ Some b → t.printed ≡ out → (is_full_book books t.asks && same_numbers out t.printed) ≡ true
full_tests books b out t many asks printed =
    and_true (is_full_book books t.asks) (same_numbers out t.printed) (subst (λ o. is_full_book books o ≡ true) (sym asks) (le-leb most_events (length (books b)) many)) (same_true out t.printed (sym printed))

-- with other turns it is the same, or these don't suffice
abbrev IsOrShort : Completion ThreadState Value → Completion ThreadState Value → Type 0
IsOrShort y z = (y ≡ z) ⊎ ((u : ThreadState) × (y ≡ OutOfTurns u))

fewer_or_short : (y z : Completion ThreadState Value) → Step None Any y z → IsOrShort y z
fewer_or_short (Completes v t) z e = inl (sym e)
fewer_or_short (Recurs vs t) z e = inl (sym e)
fewer_or_short (Faults f t) z e = inl (sym e)
fewer_or_short (Retries t) z e = inl (sym e)
fewer_or_short (Waits t) z e = inl (sym e)
fewer_or_short (OutOfTurns u) z e = inr (u, refl)
fewer_or_short Invalid z e = inl (sym e)

more_or_short : (y z : Completion ThreadState Value) → Step None Any z y → (NeedsTurns z → ⊥) → IsOrShort y z
more_or_short y (Completes v t) e enough = inl e
more_or_short y (Recurs vs t) e enough = inl e
more_or_short y (Faults f t) e enough = inl e
more_or_short y (Retries t) e enough = inl e
more_or_short y (Waits t) e enough = inl e
more_or_short y (OutOfTurns u) e enough = absurd (enough tt)
more_or_short y Invalid e enough = inl e

waits_enough : (books : ℕ → List Event) (out : List ℕ) (m : Completion ThreadState Value) → WaitsFull books out m → NeedsTurns m → ⊥
waits_enough books out (Completes v t) h n = n
waits_enough books out (Recurs vs t) h n = n
waits_enough books out (Faults f t) h n = n
waits_enough books out (Retries t) h n = n
waits_enough books out (Waits t) h n = n
waits_enough books out (OutOfTurns t) h n = h.2
waits_enough books out Invalid h n = n

stands_enough : (books : ℕ → List Event) (out : List ℕ) (m : Completion ThreadState Value) → StandsFull books out m → NeedsTurns m → ⊥
stands_enough books out (Completes v t) h n = n
stands_enough books out (Recurs vs t) h n = n
stands_enough books out (Faults f t) h n = n
stands_enough books out (Retries t) h n = n
stands_enough books out (Waits t) h n = n
stands_enough books out (OutOfTurns t) h n = h
stands_enough books out Invalid h n = n

module _ (books : ℕ → List Event) (s : ThreadSource) (n a : ℕ) (es : List SeenEvent) (out : List ℕ) where
  full_not : (m : Completion ThreadState Value) → WaitsFull books out m → NotOff (full_found books s n a es out m)
  full_not (Completes v t) h = absurd h.2
  full_not (Recurs vs t) h = absurd h.2
  full_not (Faults f t) h = absurd h.2
  full_not (Retries t) h = absurd h.2
  full_not (Waits t) h =
      let test = is_full_book books t.asks && same_numbers out t.printed in
      and_not (check (length t.todo == 0) a (length es - length t.todo)) (check test a (length es)) (check_not (length t.todo == 0) a (length es - length t.todo) (ap (λ l. length l == 0) h.2.1))
      (check_not test a (length es) (full_tests books h.0 out t h.1 h.2.0 h.2.2))
  full_not (OutOfTurns t) h = absurd h.2
  full_not Invalid h = absurd h.2

-- a meaning that has eaten all isn't wrong
up_right : (m : Completion ThreadState Value) → HasEatenUp m → is_wrong m ≡ false
up_right (Completes v t) h = refl
up_right (Recurs vs t) h = absurd h
up_right (Faults f t) h = refl
up_right (Retries t) h = absurd h
up_right (Waits t) h = refl
up_right (OutOfTurns t) h = refl
up_right Invalid h = absurd h

-- ---- what was printed before the last event

module _ (s : ThreadSource) (sound : SoundSource s) where
  -- before the last event that is eaten the thread waits
  waits_before : (n : ℕ) (e : SeenEvent) (es : List SeenEvent) → HasEatenUp (thread_meaning s n (e ∷ es)) → (u : ThreadState) × (thread_meaning s n (but_last (e ∷ es)) ≡ Waits u)
  waits_before n e es h =
      let l = last_of e es in
      waits_front l.0 (thread_meaning s n (but_last (e ∷ es))) (thread_meaning s n (but_last (e ∷ es) ++ l.0 ∷ [])) (cut (l.0 ∷ []) s n sound (but_last (e ∷ es))) (subst (λ x. HasEatenUp (thread_meaning s n x)) l.1 h)

  pub settles : (n m : ℕ) (es : List SeenEvent) (u : ThreadState) → n ≤ m → thread_meaning s n es ≡ Waits u → thread_meaning s m es ≡ thread_meaning s n es
  settles n m es u le h = settled_same s sound es n m le (subst HasSettled (sym h) tt)

  -- so the least that was printed is the same
  least_same : (n m : ℕ) (es : List SeenEvent) → HasEatenUp (thread_meaning s n es) → HasEatenUp (thread_meaning s m es) → least_printed s n es ≡ least_printed s m es
  least_same n m [] h g = refl
  least_same n m (e ∷ es) h g =
      let x = waits_before n e es h in
      let y = waits_before m e es g in
      ⊎_elim
      (λ lt. (let le : n ≤ m = omega (arith, lt) in ap printed_by (sym (settles n m (but_last (e ∷ es)) x.0 le x.1))))
      (λ le. ap printed_by (settles m n (but_last (e ∷ es)) y.0 le y.1)) (cases_lt n m)

-- ---- a thread, with other turns

-- later it ends so too, where the thread was stopped
later_part : (u w : ThreadState) (o : Option Outcome) (out : List ℕ) (m : Completion ThreadState Value) → Onward u w → ((l : List ℕ) → w.todo ≡ [] → w.printed ≡ l → HasEatenAll l m) → EndsAs o out (OutOfTurns u) → EndsAs o out m
later_part u w None out m g made h = (h.0 ++ g.more, made (out ++ (h.0 ++ g.more)) (none_later u w g h.1.0) (g.prints ∙ ap (λ l. l ++ g.more) h.1.1 ∙ append_assoc out h.0 g.more))
later_part u w (Some Done) out m g made h = absurd (subst IsValue (sym h.2) tt)
later_part u w (Some (Failed f)) out m g made h = absurd (subst IsFault (sym h.1) tt)
later_part u w (Some StepsSpent) out m g made h = (h.0 ++ g.more, made (out ++ (h.0 ++ g.more)) (none_later u w g h.1.0) (g.prints ∙ ap (λ l. l ++ g.more) h.1.1 ∙ append_assoc out h.0 g.more))
later_part u w (Some JournalFull) out m g made h = (h.0 ++ g.more, made (out ++ (h.0 ++ g.more)) (none_later u w g h.1.0) (g.prints ∙ ap (λ l. l ++ g.more) h.1.1 ∙ append_assoc out h.0 g.more))
later_part u w (Some Memory) out m g made h = (h.0 ++ g.more, made (out ++ (h.0 ++ g.more)) (none_later u w g h.1.0) (g.prints ∙ ap (λ l. l ++ g.more) h.1.1 ∙ append_assoc out h.0 g.more))

notes_front : (u w : ThreadState) → Onward u w → Fits u.txs w.txs
notes_front u w g = subst (λ l. Fits u.txs l) (sym g.notes) (fits_front u.txs g.runs)

notes_longer : (u w : ThreadState) → Onward u w → Fits w.txs u.txs
notes_longer u w g = subst (λ l. Fits l u.txs) (sym g.notes) (fits_longer u.txs g.runs)

from_fits : (u : ThreadState) (z : Completion ThreadState Value) → From None Any u z → HasEatenUp z → Fits u.txs (txs_of z)
from_fits u (Completes v w) h e = notes_front u w h.1
from_fits u (Recurs vs w) h e = absurd e
from_fits u (Faults f w) h e = notes_front u w h
from_fits u (Retries w) h e = absurd e
from_fits u (Waits w) h e = notes_front u w h
from_fits u (OutOfTurns w) h e = notes_front u w h
from_fits u Invalid h e = absurd e

-- With other turns the thread ends so too, or these don't suffice; the transactions are the same as far as they go.
abbrev Judged : Option Outcome → List ℕ → Completion ThreadState Value → Completion ThreadState Value → Type 0
Judged o out y z = (EndsAs o out y × Fits (txs_of y) (txs_of z)) ⊎ ((u : ThreadState) × (y ≡ OutOfTurns u) × Fits u.txs (txs_of z))

module _ (o : Option Outcome) (out : List ℕ) where
  -- what ends otherwise has eaten nothing
  never : (m z : Completion ThreadState Value) → z ≡ m → EndsAs o out z → HasEatenUp m
  never m z e h = ends_up o out m (subst (λ c. EndsAs o out c) e h)

  -- with fewer turns
  fewer : (y z : Completion ThreadState Value) → Step None Any y z → EndsAs o out z → Judged o out y z
  fewer (Completes v t) z e h = inl (subst (λ c. EndsAs o out c) e h, subst (λ c. Fits t.txs (txs_of c)) (sym e) (fits_itself t.txs))
  fewer (Recurs vs t) z e h = absurd (never (Recurs vs t) z e h)
  fewer (Faults f t) z e h = inl (subst (λ c. EndsAs o out c) e h, subst (λ c. Fits t.txs (txs_of c)) (sym e) (fits_itself t.txs))
  fewer (Retries t) z e h = absurd (never (Retries t) z e h)
  fewer (Waits t) z e h = inl (subst (λ c. EndsAs o out c) e h, subst (λ c. Fits t.txs (txs_of c)) (sym e) (fits_itself t.txs))
  fewer (OutOfTurns u) z e h = inr (u, refl, from_fits u z e (ends_up o out z h))
  fewer Invalid z e h = absurd (never Invalid z e h)

  -- where turns didn't suffice, and now there are more
  beyond : (u : ThreadState) (y : Completion ThreadState Value) → From None Any u y → EndsAs o out (OutOfTurns u) → Judged o out y (OutOfTurns u)
  beyond u (Completes v w) e h = inl (later_part u w o out (Completes v w) e.1 (λ l q r. (q, r)) h, notes_longer u w e.1)
  beyond u (Recurs vs w) e h = absurd (none_some (length vs) e.0)
  beyond u (Faults f w) e h = inl (later_part u w o out (Faults f w) e (λ l q r. (q, r)) h, notes_longer u w e)
  beyond u (Retries w) e h = absurd e
  beyond u (Waits w) e h = inl (later_part u w o out (Waits w) e (λ l q r. (q, r)) h, notes_longer u w e)
  beyond u (OutOfTurns w) e h = inr (w, refl, notes_longer u w e)
  beyond u Invalid e h = absurd (e (ends_up o out (OutOfTurns u) h))

  -- with more turns
  further_on : (y z : Completion ThreadState Value) → Step None Any z y → EndsAs o out z → Judged o out y z
  further_on y (Completes v t) e h = inl (subst (λ c. EndsAs o out c) (sym e) h, subst (λ c. Fits (txs_of c) t.txs) (sym e) (fits_itself t.txs))
  further_on y (Recurs vs t) e h = absurd (ends_up o out (Recurs vs t) h)
  further_on y (Faults f t) e h = inl (subst (λ c. EndsAs o out c) (sym e) h, subst (λ c. Fits (txs_of c) t.txs) (sym e) (fits_itself t.txs))
  further_on y (Retries t) e h = absurd (ends_up o out (Retries t) h)
  further_on y (Waits t) e h = inl (subst (λ c. EndsAs o out c) (sym e) h, subst (λ c. Fits (txs_of c) t.txs) (sym e) (fits_itself t.txs))
  further_on y (OutOfTurns u) e h = beyond u y e h
  further_on y Invalid e h = absurd (ends_up o out Invalid h)

judged : (s : ThreadSource) → SoundSource s → (o : Option Outcome) (out : List ℕ) (n m : ℕ) (es : List SeenEvent) → EndsAs o out (thread_meaning s m es) → Judged o out (thread_meaning s n es) (thread_meaning s m es)
judged s sound o out n m es h =
    ⊎_elim
    (λ lt. (let le : n ≤ m = omega (arith, lt) in fewer o out (thread_meaning s n es) (thread_meaning s m es) (thread_leads s sound n m le es).1 h))
    (λ le. further_on o out (thread_meaning s n es) (thread_meaning s m es) (thread_leads s sound m n le es).1 h) (cases_lt n m)

-- the end of a thread that was stopped for a full book, with these turns
full_end_not : (books : ℕ → List Event) (s : ThreadSource) → SoundSource s → (n m a : ℕ) (es : List SeenEvent) (out : List ℕ) → WaitsFull books out (thread_meaning s m es) → NotOff (full_found books s n a es out (thread_meaning s n es))
full_end_not books s sound n m a es out h =
    ⊎_elim
    (λ same. full_not books s n a es out (thread_meaning s n es) (subst (WaitsFull books out) (sym same) h))
    (λ short. subst (λ c. NotOff (full_found books s n a es out c)) (sym short.1) tt)
    (⊎_elim
    (λ lt. (let le : n ≤ m = omega (arith, lt) in fewer_or_short (thread_meaning s n es) (thread_meaning s m es) (thread_leads s sound n m le es).1))
    (λ le. more_or_short (thread_meaning s n es) (thread_meaning s m es) (thread_leads s sound m n le es).1 (waits_enough books out (thread_meaning s m es) h)) (cases_lt n m))

-- the end of a thread, by how it ended
ends_not : (books : ℕ → List Event) (s : ThreadSource) → SoundSource s → (n a : ℕ) (es : List SeenEvent) (ran : PlainActorReport) → (ran.outcome ≡ Some JournalFull → (m : ℕ) × WaitsFull books ran.printed (thread_meaning s m es))
    → (is_full_stop ran.outcome ≡ false → NotOff (end_found s n a es ran (thread_meaning s n es))) → NotOff (thread_ends books s n a es ran (thread_meaning s n es))
ends_not books s sound n a es ran full others = test (is_full_stop ran.outcome) refl
  where
    test : (b : Bool) → is_full_stop ran.outcome ≡ b → NotOff (if b then full_found books s n a es ran.printed (thread_meaning s n es) else end_found s n a es ran (thread_meaning s n es))
    test true is = let x = full (full_is ran.outcome is) in full_end_not books s sound n x.0 a es ran.printed x.1
    test false is = others is

thread_not : (p : PlainProgram) (r : PlainReport) → Sound p → (n a i : ℕ) (t : PlainThread) (ran : PlainActorReport) → nth p.threads i ≡ Some t → ThreadExplained p r t ran → NotOff (thread_found p r n a t ran)
thread_not p r sound n a i t ran there x =
    let s = source_of p t in
    let es = events_of p r ran in
    let m = meaning_of p r t ran n in
    let z = meaning_of p r t ran x.turns in
    let main = sound_thread p.functions p.threads i t sound.threads there in
    let source_sound : SoundSource s = record { functions = sound.functions; cells = sound.cells; main = main.0 } in
    let on : List TxRun → Finding = λ xs. calm_found (cells_of p.cells) (books_of r) a 0 ran.trace xs in
    ⊎_elim
    (λ e.
    (let up : HasEatenUp m = ends_up ran.outcome ran.printed m e.0 in
    let noted : noted_by s n es m ≡ txs_of m = ap (λ b. if b then txs_of (right_meaning s n es) else txs_of m) (up_right m up) in
    let least : Stopped ran.outcome → Begins ran.printed (least_printed s n es) =
    λ st. subst (λ l. Begins ran.printed l) (least_same s source_sound x.turns n es (ends_up ran.outcome ran.printed z x.ends) up) (x.least st) in
    and_not (on (noted_by s n es m)) (thread_ends (books_of r) s n a es ran m) (subst (λ xs. NotOff (on xs)) (sym noted) (calm_not p.cells (books_of r) a 0 ran.trace (txs_of m) (txs_of z) x.calm e.1))
    (ends_not (books_of r) s source_sound n a es ran x.full (λ isnt. end_not s n a es ran m e.0 least))))
    (λ e.
    (let noted : noted_by s n es m ≡ e.0.txs = ap (noted_by s n es) e.1 in
    and_not (on (noted_by s n es m)) (thread_ends (books_of r) s n a es ran m) (subst (λ xs. NotOff (on xs)) (sym noted) (calm_not p.cells (books_of r) a 0 ran.trace e.0.txs (txs_of z) x.calm e.2))
    (ends_not (books_of r) s source_sound n a es ran x.full (λ isnt. subst (λ c. NotOff (end_found s n a es ran c)) (sym e.1) (short_not s n a es ran e.0)))))
    (judged s source_sound ran.outcome ran.printed n x.turns es x.ends)

threads_not : (p : PlainProgram) (r : PlainReport) (n a : ℕ) (ts : List PlainThread) (rans : List PlainActorReport) → ((b i : ℕ) (t : PlainThread) (ran : PlainActorReport) → nth ts i ≡ Some t → nth rans i ≡ Some ran → NotOff (thread_found p r n b t ran)) → NotOff (threads_found p r n a ts rans)
threads_not p r n a [] rans h = tt
threads_not p r n a (t ∷ ts) [] h = tt
threads_not p r n a (t ∷ ts) (x ∷ xs) h = and_not (thread_found p r n a t x) (threads_found p r n (suc a) ts xs) (h a 0 t x refl refl) (threads_not p r n (suc a) ts xs (λ b i u ran there here. h b (suc i) u ran there here))

-- ---- agents

sent_true : (ks : List Known) (c : Callee) (n : ℕ) → SoundSent ks c n → is_sent_call ks c n ≡ true
sent_true ks (CoreOp op) n h = and_true (takes op n) (nat_le n most_items) h.0 (le-leb n most_items h.1)
sent_true ks (Function f) n h = subst (λ o. is_sent_known o n ≡ true) (sym h.found) (and_true (h.function.parameters == n) (not h.function.inside) (eq-eqb h.function.parameters n h.arity) (not_false h.function.inside h.zoned))

-- the second of two tests matters where the first finds nothing
and_then_not : (f g : Finding) → NotOff f → (f ≡ Fine → NotOff g) → NotOff (and_then f g)
and_then_not Fine g h k = k refl
and_then_not (Off a i) g h k = absurd h
and_then_not (Short a i) g h k = tt

-- a test that needs turns finds something
never_fine : {A : Type 0} (f : Finding) (a i : ℕ) → and_then f (Short a i) ≡ Fine → A
never_fine f a i h = short_fine a i (and_fine f (Short a i) h).1

-- ---- an action with other turns

-- it is over
abbrev IsOver : Completion ThreadState Value → Type 0
IsOver (Completes v t) = Unit {0}
IsOver (Recurs vs t) = ⊥
IsOver (Faults f t) = Unit {0}
IsOver (Retries t) = ⊥
IsOver (Waits t) = ⊥
IsOver (OutOfTurns t) = ⊥
IsOver Invalid = ⊥

over_in : (new : Result Value Fault) (sends : List Action) (out : List ℕ) (m : Completion ThreadState Value) → IsHandedIn new sends out m → IsOver m × HasEatenUp m
over_in (Ok v) sends out m h = (subst IsOver (sym h.1) tt, subst HasEatenUp (sym h.1) h.2)
over_in (Err f) sends out m h = (subst IsOver (sym h.1) tt, subst HasEatenUp (sym h.1) h.2)

-- with other turns it is the same, or these don't suffice; the transactions are the same as far as they go
abbrev SameOrShort : Completion ThreadState Value → Completion ThreadState Value → Type 0
SameOrShort y z = (y ≡ z) ⊎ ((u : ThreadState) × (y ≡ OutOfTurns u) × Fits u.txs (txs_of z))

fewer_over : (y z : Completion ThreadState Value) → Step None Any y z → IsOver z → HasEatenUp z → SameOrShort y z
fewer_over (Completes v t) z e o h = inl (sym e)
fewer_over (Recurs vs t) z e o h = absurd (subst IsOver e o)
fewer_over (Faults f t) z e o h = inl (sym e)
fewer_over (Retries t) z e o h = absurd (subst IsOver e o)
fewer_over (Waits t) z e o h = absurd (subst IsOver e o)
fewer_over (OutOfTurns u) z e o h = inr (u, refl, from_fits u z e h)
fewer_over Invalid z e o h = absurd (subst IsOver e o)

more_over : (y z : Completion ThreadState Value) → Step None Any z y → IsOver z → SameOrShort y z
more_over y (Completes v t) e o = inl e
more_over y (Recurs vs t) e o = absurd o
more_over y (Faults f t) e o = inl e
more_over y (Retries t) e o = absurd o
more_over y (Waits t) e o = absurd o
more_over y (OutOfTurns u) e o = absurd o
more_over y Invalid e o = absurd o

module _ (p : PlainProgram) (sound : Sound p) (x : Action) (v : Value) (fits : SoundAction p.functions x) where
  abbrev meant_by : ℕ → List SeenEvent → Completion ThreadState Value
  meant_by n es = action_meaning p.cells p.functions n x v es

  -- the action as a source that has no body
  abbrev pub source : ThreadSource
  source = record { functions = p.functions; cells = p.cells; main = Const Nil (record { span = x.span; wanted = false }) }

  pub source_sound : SoundSource source
  source_sound = record { functions = sound.functions; cells = sound.cells; main = tt }

  steps : (n m : ℕ) (es : List SeenEvent) → n ≤ m → Step None Any (meant_by n es) (meant_by m es)
  steps n m es le = (action_leads source source_sound n m le x v fits es).1

  same_or_short : (n m : ℕ) (es : List SeenEvent) → IsOver (meant_by m es) → HasEatenUp (meant_by m es) → SameOrShort (meant_by n es) (meant_by m es)
  same_or_short n m es o h =
      ⊎_elim
      (λ lt. (let le : n ≤ m = omega (arith, lt) in fewer_over (meant_by n es) (meant_by m es) (steps n m es le) o h))
      (λ le. more_over (meant_by n es) (meant_by m es) (steps m n es le) o) (cases_lt n m)

  judged_action : (out : List ℕ) (n m : ℕ) (es : List SeenEvent) → EndsAs None out (meant_by m es) → Judged None out (meant_by n es) (meant_by m es)
  judged_action out n m es h =
      ⊎_elim
      (λ lt. (let le : n ≤ m = omega (arith, lt) in fewer None out (meant_by n es) (meant_by m es) (steps n m es le) h))
      (λ le. further_on None out (meant_by n es) (meant_by m es) (steps m n es le) h) (cases_lt n m)

  -- where it waits it is the same with more turns
  waits_same : (n m : ℕ) (es : List SeenEvent) (t u : ThreadState) → meant_by n es ≡ Waits t → meant_by m es ≡ Waits u → meant_by n es ≡ meant_by m es
  waits_same n m es t u e f =
      ⊎_elim
      (λ lt. (let le : n ≤ m = omega (arith, lt) in e ∙ sym (subst (λ c. Step None Any c (meant_by m es)) e (steps n m es le))))
      (λ le. subst (λ c. Step None Any c (meant_by n es)) f (steps m n es le) ∙ sym f) (cases_lt n m)

-- ---- the tests of an action

booked_true : (o : Option CellId) (span : Span) (v : Value) (held : List Action) (new : Result Value Fault) (sends : List Action) → IsBooked o span (Ok v) held new sends → is_booked o span v held new sends ≡ true
booked_true None span v held new sends h =
    and_true (same_new (Ok v) new) (same_actions held sends) (subst (λ w. same_new (Ok v) w ≡ true) (sym h.0) (new_itself (Ok v))) (subst (λ l. same_actions held l ≡ true) (sym h.1) (same_actions-itself held))
booked_true (Some g) span v held new sends h =
    and_true (same_new (Err (fault_at AgentFailed span)) new) (is_empty sends) (subst (λ w. same_new (Err (fault_at AgentFailed span)) w ≡ true) (sym h.0) (new_itself (Err (fault_at AgentFailed span)))) (ap is_empty h.1)

-- nothing is left
pub left_none : (l : List SeenEvent) → l ≡ [] → (length l == 0) ≡ true
left_none l e = ap (λ x. length x == 0) e

module _ (cells : List StoreCell) (done : List Event) (span : Span) (a i k : ℕ) (m : List SeenEvent → Completion ThreadState Value) (es : List SeenEvent) (new : Result Value Fault) (sends : List Action) where
  abbrev act_found : Completion ThreadState Value → Finding
  act_found c = act_ends cells done span a i k m es new sends c

  checks_not : (todo : List SeenEvent) (b : Bool) (j : ℕ) → todo ≡ [] → b ≡ true → NotOff (and_then (check (length todo == 0) a j) (check b a k))
  checks_not todo b j e h = and_not (check (length todo == 0) a j) (check b a k) (check_not (length todo == 0) a j (left_none todo e)) (check_not b a k h)

  -- what is handed in is what the act has
  handed_not : (result : Result Value Fault) (held : List Action) (out : List ℕ) (c : Completion ThreadState Value) → IsHandedIn result held out c → IsBooked (first_failed cells done held) span result held new sends → NotOff (act_found c) × (printed_by c ≡ out)
  handed_not (Ok v) held out c h b =
      let t = h.0 in
      let same : held_by t ≡ held = ap sends_if h.4 in
      let booked : is_booked (first_failed cells done (held_by t)) span v (held_by t) new sends ≡ true = subst (λ l. is_booked (first_failed cells done l) span v l new sends ≡ true) (sym same) (booked_true (first_failed cells done held) span v held new sends b) in (
        subst (λ d. NotOff (act_found d)) (sym h.1) (checks_not t.todo (is_booked (first_failed cells done (held_by t)) span v (held_by t) new sends) (i + (length es - length t.todo)) h.2 booked),
        ap printed_by h.1 ∙ h.3,
      )
  handed_not (Err f) held out c h b =
      let t = h.0 in
      let none : IsBooked (first_failed cells done []) span (Err f) [] new sends = subst (λ l. IsBooked (first_failed cells done l) span (Err f) l new sends) h.4 b in
      let booked : (same_new (Err f) new && is_empty sends) ≡ true = and_true (same_new (Err f) new) (is_empty sends) (subst (λ w. same_new (Err f) w ≡ true) (sym none.0) (new_itself (Err f))) (ap is_empty none.1) in (
        subst (λ d. NotOff (act_found d)) (sym h.1) (checks_not t.todo (same_new (Err f) new && is_empty sends) (i + (length es - length t.todo)) h.2 booked),
        ap printed_by h.1 ∙ h.3,
      )

module _ (a i k : ℕ) (m : List SeenEvent → Completion ThreadState Value) (es : List SeenEvent) (out : List ℕ) (least : begins (least_of m es) out ≡ true) where
  part_holds : (whole rest : List ℕ) → whole ≡ out ++ rest → part_printed m es out whole ≡ true
  part_holds whole rest e = and_true (begins out whole) (begins (least_of m es) out) (begins_true whole out (rest, e)) least

  part_checks : (todo : List SeenEvent) (b : Bool) (j : ℕ) → todo ≡ [] → b ≡ true → NotOff (and_then (check (length todo == 0) a j) (check b a k))
  part_checks todo b j e h = and_not (check (length todo == 0) a j) (check b a k) (check_not (length todo == 0) a j (left_none todo e)) (check_not b a k h)

  still_ends_not : (c : Completion ThreadState Value) (rest : List ℕ) → HasEatenAll (out ++ rest) c → NotOff (still_ends a i k m es out c)
  still_ends_not (Completes v t) rest h = part_checks t.todo (part_printed m es out t.printed) (i + (length es - length t.todo)) h.0 (part_holds t.printed rest h.1)
  still_ends_not (Recurs vs t) rest h = absurd h
  still_ends_not (Faults f t) rest h = part_checks t.todo (part_printed m es out t.printed) (i + (length es - length t.todo)) h.0 (part_holds t.printed rest h.1)
  still_ends_not (Retries t) rest h = absurd h
  still_ends_not (Waits t) rest h = part_checks t.todo (part_printed m es out t.printed) (i + (length es - length t.todo)) h.0 (part_holds t.printed rest h.1)
  still_ends_not (OutOfTurns t) rest h = test (length t.todo == 0 && part_printed m es out t.printed)
    where
      test : (b : Bool) → NotOff (if b then Fine else Short a (i + (length es - length t.todo)))
      test true = tt
      test false = tt
  still_ends_not Invalid rest h = absurd h

short_still : (a i k : ℕ) (m : List SeenEvent → Completion ThreadState Value) (es : List SeenEvent) (out : List ℕ) (t : ThreadState) → NotOff (still_ends a i k m es out (OutOfTurns t))
short_still a i k m es out t = test (length t.todo == 0 && part_printed m es out t.printed)
  where
    test : (b : Bool) → NotOff (if b then Fine else Short a (i + (length es - length t.todo)))
    test true = tt
    test false = tt

-- an action of an agent's actor that was stopped for a full book
module _ (books : ℕ → List Event) (a i k : ℕ) (m : List SeenEvent → Completion ThreadState Value) (es : List SeenEvent) (out : List ℕ) where
  stand_checks : (todo : List SeenEvent) (b : Bool) (j : ℕ) → todo ≡ [] → b ≡ true → NotOff (and_then (check (length todo == 0) a j) (check b a k))
  stand_checks todo b j e h = and_not (check (length todo == 0) a j) (check b a k) (check_not (length todo == 0) a j (left_none todo e)) (check_not b a k h)

  over_tests : (t : ThreadState) → most_events ≤ length (books 0) → t.printed ≡ out → (is_full_book books (Some 0) && same_numbers out t.printed) ≡ true
  over_tests t many printed = and_true (is_full_book books (Some 0)) (same_numbers out t.printed) (le-leb most_events (length (books 0)) many) (same_true out t.printed (sym printed))

  full_ends_not : (c : Completion ThreadState Value) → StandsFull books out c → NotOff (full_ends books a i k m es out c)
  full_ends_not (Completes v t) h = stand_checks t.todo (is_full_book books (Some 0) && same_numbers out t.printed) (i + (length es - length t.todo)) h.1 (over_tests t h.0 h.2)
  full_ends_not (Recurs vs t) h = absurd h
  full_ends_not (Faults f t) h = stand_checks t.todo (is_full_book books (Some 0) && same_numbers out t.printed) (i + (length es - length t.todo)) h.1 (over_tests t h.0 h.2)
  full_ends_not (Retries t) h = absurd h
  full_ends_not (Waits t) h = stand_checks t.todo (is_full_book books t.asks && same_numbers out t.printed) (i + (length es - length t.todo)) h.2.1 (full_tests books h.0 out t h.1 h.2.0 h.2.2)
  full_ends_not (OutOfTurns t) h = absurd h
  full_ends_not Invalid h = absurd h

-- what an action hands in is printed by its meaning
handed_prints : (result : Result Value Fault) (held : List Action) (out : List ℕ) (c : Completion ThreadState Value) → IsHandedIn result held out c → printed_by c ≡ out
handed_prints (Ok v) held out c h = ap printed_by h.1 ∙ h.3
handed_prints (Err f) held out c h = ap printed_by h.1 ∙ h.3

dropped : (outs rest : List ℕ) → drop (length outs) (outs ++ rest) ≡ rest
dropped [] rest = refl
dropped (x ∷ xs) rest = dropped xs rest

-- one list in two parts, of which the first are the same
same_rest : (p q a b : List ℕ) → p ≡ q → p ++ a ≡ q ++ b → a ≡ b
same_rest p q a b e h = sym (dropped p a) ∙ ap (λ l. drop (length l) (p ++ a)) e ∙ ap (drop (length q)) h ∙ dropped q b

-- Two things that are said at the end of a trace, for the same that was done: the actions print the same, so both are said of the same end.
module _ (cells : List CellDefinition) (functions : List PlainFunction) (books : ℕ → List Event) (g : CellId) (one two : AtEnd) where
  abbrev BothEnds : AtEnd
  BothEnds since out ds = one since out ds × two since out ds

  abbrev Up : AtEnd → List Place → List Place → List ℕ → List ActionDid → Type 0
  Up end qs since out ds = ActsUpTo cells functions books g end qs since out ds

  -- what one act printed
  same_prints : (done : List Event) (d : ActionDid) (new : Result Value Fault) (sends : List Action) (p q : List ℕ) → ActMeans cells functions books done g d p new sends → ActMeans cells functions books done g d q new sends → p ≡ q
  same_prints done d new sends p q x y =
      let same = some_one x.action y.action (sym x.next ∙ y.next) in
      sym (handed_prints x.result x.held p (meaning_after cells functions books done g d.turns x.action d.trace) x.means) ∙ ap (λ c. printed_by (meaning_after cells functions books done g d.turns c d.trace)) same
      ∙ handed_prints y.result y.held q (meaning_after cells functions books done g d.turns y.action d.trace) y.means

  event_both : (q : Place) (qs : List Place) → ((since : List Place) (out : List ℕ) (ds : List ActionDid) → Up one qs since out ds → Up two qs since out ds → Up BothEnds qs since out ds) → (kind : EventKind) (since : List Place) (out : List ℕ) (ds : List ActionDid)
      → EventMeans cells functions books g q kind since out ds (λ s o l. Up one qs s o l) → EventMeans cells functions books g q kind since out ds (λ s o l. Up two qs s o l) → EventMeans cells functions books g q kind since out ds (λ s o l. Up BothEnds qs s o l)
  event_both q qs next (Act h n new sends) since out [] e f = absurd e
  event_both q qs next (Act h n new sends) since out (d ∷ ds) e f =
      let prints = same_prints (take q.at (books q.book)) d new sends e.1 f.1 e.4 f.4 in
      let rest = same_rest e.1 f.1 e.2 f.2 prints (sym e.3 ∙ f.3) in
      (e.0, e.1, e.2, e.3, e.4, next [] e.2 ds e.5 (subst (λ l. Up two qs [] l ds) (sym rest) f.5))
  event_both q qs next (Read c) since out ds e f = next (since ++ q ∷ []) out ds e f
  event_both q qs next (Commit at view ws sends) since out ds e f = next (since ++ q ∷ []) out ds e f
  event_both q qs next (Retry from c cause) since out ds e f = next (since ++ q ∷ []) out ds e f
  event_both q qs next (Fail at view) since out ds e f = next (since ++ q ∷ []) out ds e f
  event_both q qs next (Refused at view h) since out ds e f = next (since ++ q ∷ []) out ds e f
  event_both q qs next (Send x) since out ds e f = next (since ++ q ∷ []) out ds e f
  event_both q qs next (SendRefused h) since out ds e f = next (since ++ q ∷ []) out ds e f
  event_both q qs next (Swap new) since out ds e f = next (since ++ q ∷ []) out ds e f
  event_both q qs next (Broke at) since out ds e f = next (since ++ q ∷ []) out ds e f

  acts_both : (qs since : List Place) (out : List ℕ) (ds : List ActionDid) → Up one qs since out ds → Up two qs since out ds → Up BothEnds qs since out ds
  acts_both [] since out ds h k = (h, k)
  acts_both (q ∷ qs) since out ds h k = go (nth (books q.book) q.at) h k (λ s o l e f. acts_both qs s o l e f)
    where
      go : (o : Option Event) → OfEvent o (λ e. EventMeans cells functions books g q e.kind since out ds (λ s u l. Up one qs s u l)) → OfEvent o (λ e. EventMeans cells functions books g q e.kind since out ds (λ s u l. Up two qs s u l))
          → ((s : List Place) (u : List ℕ) (l : List ActionDid) → Up one qs s u l → Up two qs s u l → Up BothEnds qs s u l) → OfEvent o (λ e. EventMeans cells functions books g q e.kind since out ds (λ s u l. Up BothEnds qs s u l))
      go None e f next = absurd e
      go (Some d) e f next = event_both q qs next d.kind since out ds e f

-- ---- an agent's trace

stopped_true : (o : Option Outcome) → Stopped o → is_stopped o ≡ true
stopped_true None h = refl
stopped_true (Some Done) h = absurd h
stopped_true (Some (Failed f)) h = absurd h
stopped_true (Some StepsSpent) h = refl
stopped_true (Some JournalFull) h = refl
stopped_true (Some Memory) h = refl

module _ (p : PlainProgram) (r : PlainReport) (sound : Sound p) (n a : ℕ) (g : CellId) where
  abbrev seen : List Place → List SeenEvent
  seen ps = seen_of p.cells (books_of r) ps

  abbrev calm_on : ℕ → List Place → List TxRun → Finding
  calm_on i since xs = calm_found (cells_of p.cells) (books_of r) a i since xs

  noted_same : (m : List SeenEvent → Completion ThreadState Value) (es : List SeenEvent) → is_wrong (m es) ≡ false → noted_in m es ≡ txs_of (m es)
  noted_same m es right = ap (λ b. txs_of (if b then m (take (right_events m [] es) es) else m es)) right

  calm_noted : (i : ℕ) (since : List Place) (m : List SeenEvent → Completion ThreadState Value) (zs : List TxRun) → is_wrong (m (seen since)) ≡ false → SaidOf (undisturbed p.cells (books_of r)) (books_of r) since zs → Fits (txs_of (m (seen since))) zs → NotOff (calm_on i since (noted_in m (seen since)))
  calm_noted i since m zs right calm f = subst (λ xs. NotOff (calm_on i since xs)) (sym (noted_same m (seen since) right)) (calm_not p.cells (books_of r) a i since (txs_of (m (seen since))) zs calm f)

  -- an action that is over
  acted_not : (i k : ℕ) (done : List Event) (since : List Place) (d : ActionDid) (out : List ℕ) (new : Result Value Fault) (sends : List Action) → d.trace ≡ since → (x : ActMeans p.cells p.functions (books_of r) done g d out new sends)
      → NotOff (action_found p r n a i k done g since new sends (Some x.action)) × (action_found p r n a i k done g since new sends (Some x.action) ≡ Fine → action_prints p r n done g since (Some x.action) ≡ out)
  acted_not i k done since d out new sends e x =
      let v = newest (opening (cells_of p.cells)) done g.number in
      let m = action_after p n done g x.action in
      let z = action_after p d.turns done g x.action (seen since) in
      let handed : IsHandedIn x.result x.held out z = subst (λ ps. IsHandedIn x.result x.held out (action_after p d.turns done g x.action (seen ps))) e x.means in
      let over = over_in x.result x.held out z handed in
      let txs : d.txs ≡ txs_of z = x.noted ∙ ap (λ ps. txs_of (action_after p d.turns done g x.action (seen ps))) e in
      let calm : SaidOf (undisturbed p.cells (books_of r)) (books_of r) since (txs_of z) = subst (λ xs. SaidOf (undisturbed p.cells (books_of r)) (books_of r) since xs) txs (subst (λ ps. SaidOf (undisturbed p.cells (books_of r)) (books_of r) ps d.txs) e x.calm) in
      let ends = λ (c : Completion ThreadState Value). act_ends (cells_of p.cells) done x.action.span a i k m (seen since) new sends c in
      let looks = and_then (calm_on i since (noted_in m (seen since))) (ends (m (seen since))) in
      let sent = sent_true (known p.functions) x.action.callee (suc (length x.action.args)) x.sound in
      let tested : (NotOff looks × (looks ≡ Fine → printed_by (m (seen since)) ≡ out)) =
      ⊎_elim
      (λ same.
      (let right : is_wrong (m (seen since)) ≡ false = ap is_wrong same ∙ up_right z over.1 in
      let fit : Fits (txs_of (m (seen since))) (txs_of z) = subst (λ c. Fits (txs_of c) (txs_of z)) (sym same) (fits_itself (txs_of z)) in
      let handed_so = handed_not (cells_of p.cells) done x.action.span a i k m (seen since) new sends x.result x.held out (m (seen since)) (subst (λ c. IsHandedIn x.result x.held out c) (sym same) handed) x.booked in
      (and_not (calm_on i since (noted_in m (seen since))) (ends (m (seen since))) (calm_noted i since m (txs_of z) right calm fit) handed_so.0, λ fine. handed_so.1)))
      (λ short.
      (let right : is_wrong (m (seen since)) ≡ false = ap is_wrong short.1 in
      let fit : Fits (txs_of (m (seen since))) (txs_of z) = subst (λ c. Fits (txs_of c) (txs_of z)) (sym short.1) short.2 in
      let j = i + (length (seen since) - length short.0.todo) in
      let is : ends (m (seen since)) ≡ Short a j = ap ends short.1 in (
        and_not (calm_on i since (noted_in m (seen since))) (ends (m (seen since))) (calm_noted i since m (txs_of z) right calm fit) (subst NotOff (sym is) tt),
        λ fine. never_fine (calm_on i since (noted_in m (seen since))) a j (ap (and_then (calm_on i since (noted_in m (seen since)))) (sym is) ∙ fine),
      )))
      (same_or_short p sound x.action v x.sound n d.turns (seen since) over.0 over.1) in
      let opened : (if is_sent_call (known p.functions) x.action.callee (suc (length x.action.args)) then looks else Off a k) ≡ looks = ap (λ b. if b then looks else Off a k) sent in
      let prints : action_prints p r n done g since (Some x.action) ≡ printed_by (m (seen since)) = ap (λ b. if b then printed_by (m (seen since)) else []) sent in
      (subst NotOff (sym opened) tested.0, λ fine. prints ∙ tested.1 (sym opened ∙ fine))

  -- what is told of the beginning of its events holds with these turns, too
  least_holds : (since : List Place) (d : ActionDid) (out : List ℕ) (x : StillMeans p.cells p.functions (books_of r) g d out) → d.trace ≡ since → AreNamed (books_of r) since → HasEatenUp (action_after p n r.book g x.action (seen since)) → begins (least_of (action_after p n r.book g x.action) (seen since)) out ≡ true
  least_holds since d out x e named up =
      let v = newest (opening (cells_of p.cells)) r.book g.number in
      let m = action_after p n r.book g x.action in
      ⊎_elim
      (λ none. (let is : since ≡ [] = sym e ∙ none in subst (λ l. begins (least_of m (seen l)) out ≡ true) (sym is) refl))
      (λ b.
      (let hs = b.0 in
      let split : since ≡ hs ++ b.1 ∷ [] = sym e ∙ b.2 in
      let last = seen_last p.cells (books_of r) b.1 (named_part (books_of r) hs (b.1 ∷ []) (subst (AreNamed (books_of r)) split named)).0 in
      let all : seen since ≡ seen hs ++ last.0 ∷ [] = ap seen split ∙ seen_both p.cells (books_of r) hs (b.1 ∷ []) ∙ ap (λ l. seen hs ++ l) last.1 in
      let cut = action_cut (last.0 ∷ []) (source p sound x.action v x.sound) n sound.functions x.action v (seen hs) in
      let w = waits_front last.0 (m (seen hs)) (m (seen hs ++ last.0 ∷ [])) cut (subst (λ l. HasEatenUp (m l)) all up) in
      let there = waited_is b.4 (action_after p b.3 r.book g x.action (seen hs)) b.5 in
      let same : m (seen hs) ≡ action_after p b.3 r.book g x.action (seen hs) = waits_same p sound x.action v x.sound n b.3 (seen hs) w.0 there.0 w.1 there.1 in
      let printed : least_of m (seen since) ≡ b.4 =
      ap (least_of m) all ∙ least_last m (seen hs) last.0 ∙ ap (λ l. printed_by (m l)) (but_last_of (seen hs) last.0) ∙ ap printed_by same ∙ ap printed_by there.1 ∙ there.2 in
      subst (λ l. begins l out ≡ true) (sym printed) (begins_true out b.4 (b.6, b.7)))) x.least
    where
      waited_is : (part : List ℕ) (c : Completion ThreadState Value) → HasWaited part (halted c) → (t : ThreadState) × (c ≡ Waits t) × (t.printed ≡ part)
      waited_is part (Completes v t) h = absurd h
      waited_is part (Recurs vs t) h = absurd h
      waited_is part (Faults f t) h = absurd h
      waited_is part (Retries t) h = absurd h
      waited_is part (Waits t) h = (t, refl, h.1)
      waited_is part (OutOfTurns t) h = absurd h
      waited_is part Invalid h = absurd h

  -- what an action means where its agent's actor was stopped for a full book, for some bound on its loops
  abbrev Stands : Action → List Place → List ℕ → Type 0
  Stands x since out = (m : ℕ) × StandsFull (books_of r) out (action_after p m r.book g x (seen since))

  -- its end, by how the actor ended
  rest_ends_not : (full : Bool) (i k : ℕ) (x : Action) → SoundAction p.functions x → (since : List Place) (out : List ℕ) → (full ≡ true → Stands x since out)
      → NotOff (still_ends a i k (action_after p n r.book g x) (seen since) out (action_after p n r.book g x (seen since))) → NotOff (rest_ends (books_of r) full a i k (action_after p n r.book g x) (seen since) out (action_after p n r.book g x (seen since)))
  rest_ends_not false i k x fits since out stands h = h
  rest_ends_not true i k x fits since out stands h =
      let v = newest (opening (cells_of p.cells)) r.book g.number in
      let m = action_after p n r.book g x in
      let st = stands refl in
      let z = action_after p st.0 r.book g x (seen since) in
      ⊎_elim
      (λ same. full_ends_not (books_of r) a i k m (seen since) out (m (seen since)) (subst (StandsFull (books_of r) out) (sym same) st.1))
      (λ short. subst (λ c. NotOff (full_ends (books_of r) a i k m (seen since) out c)) (sym short.1) tt)
      (⊎_elim
      (λ lt. (let le : n ≤ st.0 = omega (arith, lt) in fewer_or_short (m (seen since)) z (steps p sound x v fits n st.0 (seen since) le)))
      (λ le. more_or_short (m (seen since)) z (steps p sound x v fits st.0 n (seen since) le) (stands_enough (books_of r) out z st.1)) (cases_lt n st.0))

  -- an action that isn't over
  still_not : (full : Bool) (i k : ℕ) (since : List Place) (d : ActionDid) (out : List ℕ) → d.trace ≡ since → AreNamed (books_of r) since → (x : StillMeans p.cells p.functions (books_of r) g d out) → (full ≡ true → Stands x.action since out)
      → NotOff (still_found p r n full a i k g since out (Some x.action))
  still_not full i k since d out e named x stands =
      let v = newest (opening (cells_of p.cells)) r.book g.number in
      let m = action_after p n r.book g x.action in
      let z = action_after p d.turns r.book g x.action (seen since) in
      let means : HasEatenAll (out ++ x.rest) z = subst (λ ps. HasEatenAll (out ++ x.rest) (action_after p d.turns r.book g x.action (seen ps))) e x.means in
      let txs : d.txs ≡ txs_of z = x.noted ∙ ap (λ ps. txs_of (action_after p d.turns r.book g x.action (seen ps))) e in
      let calm : SaidOf (undisturbed p.cells (books_of r)) (books_of r) since (txs_of z) = subst (λ xs. SaidOf (undisturbed p.cells (books_of r)) (books_of r) since xs) txs (subst (λ ps. SaidOf (undisturbed p.cells (books_of r)) (books_of r) ps d.txs) e x.calm) in
      let ends = rest_ends (books_of r) full a i k m (seen since) out (m (seen since)) in
      let looks = and_then (calm_on i since (noted_in m (seen since))) ends in
      let sent = sent_true (known p.functions) x.action.callee (suc (length x.action.args)) x.sound in
      let tested : NotOff looks =
      ⊎_elim
      (λ h.
      (let up : HasEatenUp (m (seen since)) = eaten_up (out ++ h.0.0) (m (seen since)) h.0.1 in
      and_not (calm_on i since (noted_in m (seen since))) ends (calm_noted i since m (txs_of z) (up_right (m (seen since)) up) calm h.1)
      (rest_ends_not full i k x.action x.sound since out stands (still_ends_not a i k m (seen since) out (least_holds since d out x e named up) (m (seen since)) h.0.0 h.0.1))))
      (λ short.
      (let right : is_wrong (m (seen since)) ≡ false = ap is_wrong short.1 in
      let fit : Fits (txs_of (m (seen since))) (txs_of z) = subst (λ c. Fits (txs_of c) (txs_of z)) (sym short.1) short.2 in
      and_not (calm_on i since (noted_in m (seen since))) ends (calm_noted i since m (txs_of z) right calm fit)
      (rest_ends_not full i k x.action x.sound since out stands (subst (λ c. NotOff (still_ends a i k m (seen since) out c)) (sym short.1) (short_still a i k m (seen since) out short.0)))))
      (judged_action p sound x.action v x.sound out n d.turns (seen since) (x.rest, means)) in
      subst NotOff (sym (ap (λ b. if b then looks else Off a i) sent)) tested

  -- what is said at the end of its trace, where it was stopped for a full book and where it wasn't
  abbrev EndOf : Bool → AtEnd
  EndOf full since out ds = StillActs p.cells p.functions (books_of r) g since out ds × (full ≡ true → EndsFull p.cells p.functions (books_of r) g since out ds)

  abbrev InTurn : Bool → List Place → List Place → List ℕ → List ActionDid → Type 0
  InTurn full qs since out ds = ActsUpTo p.cells p.functions (books_of r) g (EndOf full) qs since out ds

  -- nothing came since, or this is found
  either_not : (full : Bool) (i k : ℕ) (since : List Place) (out : List ℕ) → NotOff (still_found p r n full a i k g since out (next_action (cells_of p.cells) r.book g)) → NotOff (rest_found p r n full a i k g since out)
  either_not true i k since out h = h
  either_not false i k [] [] h = tt
  either_not false i k [] (o ∷ os) h = h
  either_not false i k (q ∷ qs) out h = h

  none_not : (full : Bool) (i k : ℕ) → (full ≡ true → ⊥) → NotOff (rest_found p r n full a i k g [] [])
  none_not true i k h = absurd (h refl)
  none_not false i k h = tt

  rest_not : (full : Bool) (i k : ℕ) (since : List Place) (out : List ℕ) (ds : List ActionDid) → AreNamed (books_of r) since → InTurn full [] since out ds → NotOff (rest_found p r n full a i k g since out)
  rest_not full i k since out [] named h = subst (λ l. NotOff (rest_found p r n full a i k g l out)) (sym h.0.0) (subst (λ l. NotOff (rest_found p r n full a i k g [] l)) (sym h.0.1) (none_not full i k h.1))
  rest_not full i k since out (d ∷ []) named h =
      let x = h.0.1 in
      let stands : full ≡ true → Stands x.action since out =
      λ is.
      (let f = h.1 is in
      let same = some_one f.1 x.action (sym f.2 ∙ x.next) in
      (f.3, subst (λ y. StandsFull (books_of r) out (action_after p f.3 r.book g y (seen since))) same f.4)) in
      either_not full i k since out (subst (λ o. NotOff (still_found p r n full a i k g since out o)) (sym x.next) (still_not full i k since d out h.0.0 named x stands))
  rest_not full i k since out (d ∷ e ∷ ds) named h = absurd h.0

  end_not_off : (since : List Place) (outs out : List ℕ) (ds : List ActionDid) (ran : PlainActorReport) → AreNamed (books_of r) since → Stopped ran.outcome → ran.printed ≡ outs ++ out → InTurn (is_full_stop ran.outcome) [] since out ds → NotOff (agent_end p r n a g since outs ran)
  end_not_off since outs out ds ran named stopped e h =
      let k = length ran.trace in
      let b = is_stopped ran.outcome && begins outs ran.printed in
      let full = is_full_stop ran.outcome in
      let left : drop (length outs) ran.printed ≡ out = ap (drop (length outs)) e ∙ dropped outs out in
      and_not (check b a k) (rest_found p r n full a (k - length since) k g since (drop (length outs) ran.printed))
      (check_not b a k (and_true (is_stopped ran.outcome) (begins outs ran.printed) (stopped_true ran.outcome stopped) (begins_true ran.printed outs (out, e))))
      (subst (λ l. NotOff (rest_found p r n full a (k - length since) k g since l)) (sym left) (rest_not full (k - length since) k since out ds named h))

  module _ (ran : PlainActorReport) (stopped : Stopped ran.outcome) where
    abbrev Holds : ℕ → List Place → Type 0
    Holds k qs = (since : List Place) (outs out : List ℕ) (ds : List ActionDid) → AreNamed (books_of r) since → ran.printed ≡ outs ++ out → InTurn (is_full_stop ran.outcome) qs since out ds → NotOff (acts_found p r n a k g since outs qs ran)

    -- an event of this kind
    kind_not : (k : ℕ) (q : Place) (qs : List Place) → Holds (suc k) qs → IsNamed (books_of r) q → (d : EventKind) (since : List Place) (outs out : List ℕ) (ds : List ActionDid) → AreNamed (books_of r) since → ran.printed ≡ outs ++ out
        → EventMeans p.cells p.functions (books_of r) g q d since out ds (λ since1 out1 ds1. InTurn (is_full_stop ran.outcome) qs since1 out1 ds1) → NotOff (kind_found p r n a k q g since outs d (λ since1 outs1. acts_found p r n a (suc k) g since1 outs1 qs ran))
    kind_not k q qs next named (Act h number new sends) since outs out [] front e m = absurd m
    kind_not k q qs next named (Act h number new sends) since outs out (d ∷ ds) front e m =
        let done = take q.at (books_of r q.book) in
        let i = k - length since in
        let x = m.4 in
        let y = acted_not i k done since d m.1 new sends m.0 x in
        let o = next_action (cells_of p.cells) done g in
        let act = action_found p r n a i k done g since new sends o in
        let here : NotOff act = subst (λ b. NotOff (action_found p r n a i k done g since new sends b)) (sym x.next) y.0 in
        let behind : act ≡ Fine → NotOff (acts_found p r n a (suc k) g [] (outs ++ action_prints p r n done g since o) qs ran) =
        λ fine.
        (let prints : action_prints p r n done g since o ≡ m.1 = ap (action_prints p r n done g since) x.next ∙ y.1 (ap (λ b. action_found p r n a i k done g since new sends b) (sym x.next) ∙ fine) in
        next [] (outs ++ action_prints p r n done g since o) m.2 ds tt
        (e ∙ ap (λ l. outs ++ l) m.3 ∙ sym (append_assoc outs m.1 m.2) ∙ ap (λ l. (outs ++ l) ++ m.2) (sym prints)) m.5) in
        and_then_not act (acts_found p r n a (suc k) g [] (outs ++ action_prints p r n done g since o) qs ran) here behind
    kind_not k q qs next named (Read c) since outs out ds front e m = next (since ++ q ∷ []) outs out ds (named_both (books_of r) since (q ∷ []) front (named, tt)) e m
    kind_not k q qs next named (Commit at view ws sends) since outs out ds front e m = next (since ++ q ∷ []) outs out ds (named_both (books_of r) since (q ∷ []) front (named, tt)) e m
    kind_not k q qs next named (Retry from c cause) since outs out ds front e m = next (since ++ q ∷ []) outs out ds (named_both (books_of r) since (q ∷ []) front (named, tt)) e m
    kind_not k q qs next named (Fail at view) since outs out ds front e m = next (since ++ q ∷ []) outs out ds (named_both (books_of r) since (q ∷ []) front (named, tt)) e m
    kind_not k q qs next named (Refused at view h) since outs out ds front e m = next (since ++ q ∷ []) outs out ds (named_both (books_of r) since (q ∷ []) front (named, tt)) e m
    kind_not k q qs next named (Send x) since outs out ds front e m = next (since ++ q ∷ []) outs out ds (named_both (books_of r) since (q ∷ []) front (named, tt)) e m
    kind_not k q qs next named (SendRefused h) since outs out ds front e m = next (since ++ q ∷ []) outs out ds (named_both (books_of r) since (q ∷ []) front (named, tt)) e m
    kind_not k q qs next named (Swap new) since outs out ds front e m = next (since ++ q ∷ []) outs out ds (named_both (books_of r) since (q ∷ []) front (named, tt)) e m
    kind_not k q qs next named (Broke at) since outs out ds front e m = next (since ++ q ∷ []) outs out ds (named_both (books_of r) since (q ∷ []) front (named, tt)) e m

    acts_not : (k : ℕ) (qs : List Place) → Holds k qs
    acts_not k [] since outs out ds front e h = end_not_off since outs out ds ran front stopped e h
    acts_not k (q ∷ qs) since outs out ds front e h = go (nth (books_of r q.book) q.at) refl h (acts_not (suc k) qs)
      where
        go : (o : Option Event) → nth (books_of r q.book) q.at ≡ o → OfEvent o (λ d. EventMeans p.cells p.functions (books_of r) g q d.kind since out ds (λ since1 out1 ds1. InTurn (is_full_stop ran.outcome) qs since1 out1 ds1)) → Holds (suc k) qs
            → NotOff (event_found p r n a k q g since outs o (λ since1 outs1. acts_found p r n a (suc k) g since1 outs1 qs ran))
        go None there m next = absurd m
        go (Some d) there m next = kind_not k q qs next (d, there) d.kind since outs out ds front e m

-- what is said at the end of an agent's trace, in one
agent_turns : (p : PlainProgram) (r : PlainReport) (sound : Sound p) (n a : ℕ) (g : CellId) (full : Bool) (qs : List Place) (out : List ℕ) (ds : List ActionDid) → ActsInTurn p.cells p.functions (books_of r) g qs [] out ds
    → (full ≡ true → ActsUpTo p.cells p.functions (books_of r) g (EndsFull p.cells p.functions (books_of r) g) qs [] out ds) → InTurn p r sound n a g full qs [] out ds
agent_turns p r sound n a g true qs out ds h k =
    let one = StillActs p.cells p.functions (books_of r) g in
    let two = EndsFull p.cells p.functions (books_of r) g in
    acts_map p.cells p.functions (books_of r) g (BothEnds p.cells p.functions (books_of r) g one two) (EndOf p r sound n a g true) (λ s o l e. (e.0, λ is. e.1)) qs [] out ds
    (acts_both p.cells p.functions (books_of r) g one two qs [] out ds h (k refl))
agent_turns p r sound n a g false qs out ds h k =
    acts_map p.cells p.functions (books_of r) g (StillActs p.cells p.functions (books_of r) g) (EndOf p r sound n a g false) (λ s o l e. (e, λ is. absurd (false≢true is))) qs [] out ds h

agents_not : (p : PlainProgram) (r : PlainReport) → Sound p → (n a : ℕ) (gs : List CellId) (rans : List PlainActorReport) → ((i : ℕ) (g : CellId) (ran : PlainActorReport) → nth gs i ≡ Some g → nth rans i ≡ Some ran → AgentExplained p r g ran) → NotOff (agents_found p r n a gs rans)
agents_not p r sound n a [] rans h = tt
agents_not p r sound n a (g ∷ gs) [] h = tt
agents_not p r sound n a (g ∷ gs) (ran ∷ rans) h =
    let x = h 0 g ran refl refl in
    let full = is_full_stop ran.outcome in
    let acts = agent_turns p r sound n a g full ran.trace ran.printed x.did x.acts (λ is. x.full (full_is ran.outcome is)) in
    and_not (acts_found p r n a 0 g [] [] ran.trace ran) (agents_found p r n (suc a) gs rans)
    (acts_not p r sound n a g ran x.unended 0 ran.trace [] [] ran.printed x.did tt refl acts)
    (agents_not p r sound n (suc a) gs rans (λ i f y there here. h (suc i) f y there here))

-- ---- all

found_not : SomeIsNotOrdered → (p : PlainProgram) (w : PlainTerms) (r : PlainReport) → Sound p → IsExplained p w r → (n : ℕ) → NotOff (found p w r n)
found_not unordered p w r sound x n =
    let sizes = check (fits_sizes p r) 0 0 in
    let traces = traces_found (books_of r) (suc (length r.atom_books)) 0 (r.threads ++ r.agents) in
    let store = store_found p r in
    let atoms = atoms_found p r (atoms_from 0 p.cells) in
    let threads = threads_found p r n 0 p.threads r.threads in
    let agents = agents_found p r n (length p.threads) (agents_from 0 p.cells) r.agents in
    let order = and_then (order_found p r) (and_then threads agents) in
    let ends = and_then (ends_found p w r) order in
    and_not sizes (and_then traces (and_then store (and_then atoms ends))) (check_not (fits_sizes p r) 0 0 (sizes_true p r x.sized))
    (and_not traces (and_then store (and_then atoms ends))
    (traces_not r 0 (r.threads ++ r.agents) (λ a ran there. (let z : a ≡ 0 + a = omega arith in subst (λ b. TraceHolds (books_of r) b ran.trace) z (x.traced a ran there))))
    (and_not store (and_then atoms ends) (store_not p w r x)
    (and_not atoms ends (atoms_not p r (atoms_from 0 p.cells) (λ i c there. x.atoms c (listed_atom p.cells i c there)))
    (and_not (ends_found p w r) order (ends_not_off p w r x.ends)
    (and_not (order_found p r) (and_then threads agents) (order_not_off p r unordered x.ordered)
    (and_not threads agents (threads_not p r n 0 p.threads r.threads (λ b i t ran there here. thread_not p r sound n b i t ran there (x.threads i t ran there here)))
    (agents_not p r sound n (length p.threads) (agents_from 0 p.cells) r.agents x.agents)))))))

pub differs_is_not_explained : SomeIsNotOrdered → DiffersIsNotExplained
differs_is_not_explained unordered p w r n a i sound h x = answer_not (found p w r n) (are_serial p r n p.threads r.threads && agents_serial p r n (agents_from 0 p.cells) r.agents) a i h (found_not unordered p w r sound x n)
