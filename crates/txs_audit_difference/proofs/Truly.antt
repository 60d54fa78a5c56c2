-- Whatever is told to differ is true of the report.
use Rattle.std.proofs.Common.{◌≡◌, inl, inr, ℕ, zero, suc, ◌+◌, ◌-◌, ◌&&◌, nat_lt, Bool, true, false, List, [], ◌∷◌, ◌++◌, length, length-append, take, drop, Option, Some, None, Result, Ok, Err, refl, sym, ap, ◌∙◌, subst, arith, if◌then◌else◌}
use Rattle.txs_value_data.specs.Places.{nth, fault_at}
use Rattle.txs_value_data.specs.declared.fault.Fault.{Fault}
use Rattle.txs_value_data.specs.declared.fault.FaultKind.TheVariants.{AgentFailed}
use Rattle.txs_value_data.specs.declared.fault.Span.{Span}
use Rattle.txs_value_cell.specs.Agents.{agents_from}
use Rattle.txs_value_cell.specs.Forms.{same_kind}
use Rattle.txs_value_cell.specs.declared.action.Action.{Action}
use Rattle.txs_value_cell.specs.declared.cell.CellDefinition.{CellDefinition}
use Rattle.txs_value_data.specs.Limits.{most_events}
use Rattle.txs_value_data.specs.declared.value.CellId.{CellId}
use Rattle.txs_value_data.specs.declared.value.CellKind.TheVariants.{Atom}
use Rattle.txs_value_data.specs.declared.value.Value.{Value}
use Rattle.txs_world_protocol.specs.Ask.{same_value}
use Rattle.txs_world_protocol.specs.SeenEvent.{SeenEvent, home}
use Rattle.txs_world_protocol.specs.declared.event.Event.{Event}
use Rattle.txs_world_protocol.specs.declared.event.EventKind.{EventKind}
use Rattle.txs_world_protocol.specs.declared.event.EventKind.TheVariants.{Read, Commit, Retry, Fail, Refused, Send, SendRefused, Act, Swap, Broke}
use Rattle.txs_world_protocol.specs.declared.event.Outcome.{Outcome}
use Rattle.txs_world_protocol.specs.declared.event.Outcome.TheVariants.{Done, Failed, StepsSpent, JournalFull, Memory}
use Rattle.txs_world_book.specs.Book.{first_failed, mail_after, newest, opening, writes_of}
use Rattle.txs_world_book.specs.Served.{cells_of}
use Rattle.txs_world_book.specs.declared.cell.StoreCell.{StoreCell}
use Rattle.txs_world.specs.Store.{next_action}
use Rattle.txs_tree_meaning.specs.Known.{known}
use Rattle.txs_tree_meaning.specs.Meaning.{Completion, Completes, Recurs, Faults, Retries, Waits, OutOfTurns, Invalid}
use Rattle.txs_tree_meaning.specs.Thread.{ThreadState}
use Rattle.txs_tree_meaning.specs.Tree.{PlainProgram}
use Rattle.txs_theorem_runs.specs.Told.{Place, seen_before, seen_of}
use Rattle.txs_theorem_audit.specs.Audited.{PlainActorReport, PlainReport, PlainTerms, books_of, entry_of, Finding, Fine, Off, Short, and_then, check}
use Rattle.txs_theorem_audit.specs.Pieces.{Piece, OfThread, OfAct, OfEnd, acts_print, part_of, piece_finding, pieces_of}
use Rattle.txs_theorem_audit.specs.Verdict.{atoms_from, begins, book_found, ends_found, fits_sizes, has_failed, has_values, held_by, is_full_stop, is_sent_call, is_stopped, is_value, least_of, length_if, order_found, printed_by, same_failure, traces_found}
use Rattle.txs_theorem_audit.specs.Evaluated.{means_on}
use Rattle.txs_audit_event.specs.Lines.{full_what, outcome_of, part_what, printed_what}
use Rattle.txs_audit_event.specs.Meant.{thread_means}
use Rattle.txs_audit_event.specs.Transactions.{Asked, awaited, booked_what, event_what, gave_what, or_else, valued_what}
use Rattle.txs_audit_event.specs.Truth.{ActTrue, EndTrue, EventTrue, IsWritten, is_failure, is_send, refused_by, refused_for, retried_for, sends_in}
use Rattle.txs_audit_event.proofs.Truly.{acts_true, ends_true, events_true, full_says, line_says, part_says}
use Rattle.txs_audit_event.specs.declared.what.What.{What}
use Rattle.txs_audit_event.specs.declared.what.What.TheVariants as what
use Rattle.txs_audit_difference.specs.Difference.{actors_told, all_told, atom_leaves, atom_told, atom_what, atoms_told, book_told, books_told, cell_what, difference_in, event_in, failed_what, first, illegal_at, left_what, or_event, order_told, pieces_told, stopped_what, stopped_what_in, store_told, tells, value_what}
use Rattle.txs_audit_difference.specs.Pieces.{act_what, act_what_at, act_what_in, acted_what, at_event, at_or_behind, came_what, end_of_agent, end_what_in, kind_what, needed_of, over_what, part_at, piece_what, state_after, still_behind, still_what, thread_end, thread_what, unvalidated, waiting_what}
use Rattle.txs_audit_difference.specs.Truth.{DifferencesAreTrue, HasKind, IsEntry, SaysOf, came_to, steps_in}
use Rattle.txs_audit_difference.proofs.Tells.{atom_at, atom_differs, atom_has, atom_is, store_at, store_is, store_leaves}
use Rattle.txs_audit_difference.specs.declared.told.Difference.{Difference}
use Rattle.txs_audit_difference.specs.declared.told.Told.{Told}
use Rattle.txs_audit_difference.specs.declared.told.Told.TheVariants as told

-- ---- events

nth_taken : (es : List Event) (m i : ℕ) (d : Event) → nth (take m es) i ≡ Some d → nth es i ≡ Some d
nth_taken es zero i d e = absurd cc
nth_taken [] (suc m) i d e = absurd cc
nth_taken (x ∷ es) (suc m) zero d e = e
nth_taken (x ∷ es) (suc m) (suc i) d e = nth_taken es m i d e

abbrev kind_in : EventKind → Option SeenEvent → EventKind
kind_in k None = k
kind_in k (Some e) = e.kind

-- the event that was seen at an index is one of the books
abbrev Seen : (ℕ → List Event) → EventKind → Type 0
Seen books k = (b at : ℕ) × (d : Event) × (nth (books b) at ≡ Some d) × (d.kind ≡ k)

seen_there : (cells : List CellDefinition) (books : ℕ → List Event) (qs : List Place) (i : ℕ) (e : SeenEvent) → nth (seen_of cells books qs) i ≡ Some e → Seen books e.kind
seen_there cells books [] i e is = absurd cc
seen_there cells books (q ∷ qs) i e is = by (nth (books q.book) q.at) refl i is (λ j there. seen_there cells books qs j e there)
  where
    by : (o : Option Event) → nth (books q.book) q.at ≡ o → (i : ℕ) → nth (seen_before cells books q o (seen_of cells books qs)) i ≡ Some e → ((j : ℕ) → nth (seen_of cells books qs) j ≡ Some e → Seen books e.kind) → Seen books e.kind
    by None there i is rest = rest i is
    by (Some d) there zero is rest = (q.book, q.at, d, there, ap (kind_in d.kind) is)
    by (Some d) there (suc i) is rest = rest i is

module _ (p : PlainProgram) (w : PlainTerms) (r : PlainReport) (a i : ℕ) where
  abbrev Says : What → Type 0
  Says u = SaysOf p w r a i u

  -- of an event that is asked about, and stands in its book
  module _ (q : Place) (x : Asked) (seen : Seen (books_of r) x.event.kind) where
    abbrev o : Option Event
    o = nth (books_of r q.book) q.at

    kind_says : (P : EventKind → Type 0) → P x.event.kind → HasKind r P
    kind_says P h = (seen.0, seen.1, seen.2, seen.3, subst P (sym seen.4) h)

    event_says : (u : What) → EventTrue (take q.at (books_of r q.book)) o x u → Says u
    event_says (what.Wrote c u v s) h = (kind_says (λ k. IsWritten (writes_of k) c v) h.0, h.1)
    event_says (what.Sends n u v s) h = (kind_says (λ k. v ≡ nth (sends_in k) n) h.0, h.1)
    event_says (what.Disturbed c set by s) h = (q.book, h.0, nth_taken (books_of r q.book) q.at by h.0 h.1, h.2)
    event_says (what.Refusal z g s) h = refused o refl h
      where
        refused : (d : Option Event) → o ≡ d → refused_by d ≡ Some g → HasKind r (λ k. refused_for k ≡ Some g)
        refused None there e = absurd cc
        refused (Some d) there e = (q.book, q.at, d, there, e)
    event_says (what.Cause c s) h = kind_says (λ k. retried_for k ≡ Some c) h
    event_says (what.NoFault s) h = kind_says (λ k. is_failure k ≡ true) h
    event_says (what.Sent s) h = kind_says (λ k. is_send k ≡ true) h
    event_says (what.Over z) h = tt
    event_says (what.Event z) h = tt
    event_says (what.Faults f) h = tt
    event_says (what.Dosync s) h = tt
    event_says what.Sizes h = absurd h
    event_says what.Trace h = absurd h
    event_says what.Order h = absurd h
    event_says (what.Illegal b k) h = absurd h
    event_says (what.Cell c u v) h = absurd h
    event_says (what.Failure g u v) h = absurd h
    event_says what.Left h = tt
    event_says (what.Steps u v) h = absurd h
    event_says (what.NotFull b k) h = absurd h
    event_says (what.Line n u v) h = absurd h
    event_says (what.Ended u v) h = absurd h
    event_says (what.Gave u v) h = absurd h
    event_says what.Unfinished h = tt
    event_says what.Idle h = tt

  -- of the end of an entry
  module _ (ran : PlainActorReport) (entry : IsEntry r ran) (ends : Option Outcome) (needed : Option ℕ) (whole least : List ℕ) where
    end_says : (u : What) → EndTrue (books_of r) ends needed whole least ran u → Says u
    end_says (what.Line n u v) h = (ran, entry, h)
    end_says (what.Ended u v) h = (ran, entry, h.1)
    end_says (what.NotFull b k) h = (h.1, h.2)
    end_says (what.Wrote c u v s) h = absurd h
    end_says (what.Sends n u v s) h = absurd h
    end_says (what.Disturbed c set by s) h = absurd h
    end_says (what.Refusal z g s) h = absurd h
    end_says (what.Cause c s) h = absurd h
    end_says (what.NoFault s) h = absurd h
    end_says (what.Sent s) h = absurd h
    end_says (what.Over z) h = tt
    end_says (what.Event z) h = tt
    end_says (what.Faults f) h = tt
    end_says (what.Dosync s) h = tt
    end_says what.Sizes h = absurd h
    end_says what.Trace h = absurd h
    end_says what.Order h = absurd h
    end_says (what.Illegal b k) h = absurd h
    end_says (what.Cell c u v) h = absurd h
    end_says (what.Failure g u v) h = absurd h
    end_says what.Left h = tt
    end_says (what.Steps u v) h = absurd h
    end_says (what.Gave u v) h = absurd h
    end_says what.Unfinished h = tt
    end_says what.Idle h = tt

  -- of an act
  module _ (meant : Result Value Fault) (held : List Action) (new : Result Value Fault) (sends : List Action) (came : HasKind r (λ k. came_to k ≡ Some new)) (sent : HasKind r (λ k. sends ≡ sends_in k)) where
    act_says : (u : What) → ActTrue meant held new sends u → Says u
    act_says (what.Gave e f) h = (subst (λ z. HasKind r (λ k. came_to k ≡ Some z)) (sym h.1) came, h.2)
    act_says (what.Sends n u v s) h = ((sent.0, sent.1, sent.2, sent.3, h.1 ∙ ap (λ l. nth l n) sent.4), h.2)
    act_says (what.Event b) h = tt
    act_says (what.Line n u v) h = absurd h
    act_says (what.Ended u v) h = absurd h
    act_says (what.NotFull b k) h = absurd h
    act_says (what.Wrote c u v s) h = absurd h
    act_says (what.Disturbed c set by s) h = absurd h
    act_says (what.Refusal z g s) h = absurd h
    act_says (what.Cause c s) h = absurd h
    act_says (what.NoFault s) h = absurd h
    act_says (what.Sent s) h = absurd h
    act_says (what.Over z) h = tt
    act_says (what.Faults f) h = tt
    act_says (what.Dosync s) h = tt
    act_says what.Sizes h = absurd h
    act_says what.Trace h = absurd h
    act_says what.Order h = absurd h
    act_says (what.Illegal b k) h = absurd h
    act_says (what.Cell c u v) h = absurd h
    act_says (what.Failure g u v) h = absurd h
    act_says what.Left h = tt
    act_says (what.Steps u v) h = absurd h
    act_says what.Unfinished h = tt
    act_says what.Idle h = tt

    booked_says : (span : Span) → Says (booked_what span meant held new sends)
    booked_says span = act_says (booked_what span meant held new sends) (acts_true span meant held new sends)

  -- ---- parts of a trace

  module _ (n : ℕ) where
    -- at an event of a part of a trace, or behind it
    part_true : (m : List SeenEvent → Completion ThreadState Value) (held : Option (List Action)) (since : List Place) (k : ℕ) (behind : What) → Says behind → Says (part_at p r n m held since k behind)
    part_true m held since k behind h = by (nth (seen_of p.cells (books_of r) since) k) refl (nth since k)
      where
        by : (e : Option SeenEvent) → nth (seen_of p.cells (books_of r) since) k ≡ e → (q : Option Place) → Says (at_or_behind p r n m held (seen_of p.cells (books_of r) since) k e q behind)
        by None is q = h
        by (Some e) is None = tt
        by (Some e) is (Some q) =
            let es = seen_of p.cells (books_of r) since in
            event_says q (record { means = m; held = held; front = take k es; event = e }) (seen_there p.cells (books_of r) since k e is) (event_what p r n m held es k e q)
            (events_true p n (take q.at (books_of r q.book)) (nth (books_of r q.book) q.at) (record { means = m; held = held; front = take k es; event = e }))

    -- threads
    thread_true : (m : List SeenEvent → Completion ThreadState Value) (k : ℕ) (o : Option PlainActorReport) → ((ran : PlainActorReport) → o ≡ Some ran → IsEntry r ran) → Says (thread_what p r n m k o)
    thread_true m k None entry = tt
    thread_true m k (Some ran) entry =
        let es = seen_of p.cells (books_of r) ran.trace in
        part_true m None ran.trace k (thread_end r m es ran)
        (end_says ran (entry ran refl) (outcome_of (m es)) (awaited (m es)) (printed_by (m es)) (least_of m es) (thread_end r m es ran) (ends_true (books_of r) (outcome_of (m es)) (awaited (m es)) (printed_by (m es)) (least_of m es) ran))

    -- what an action came to
    module _ (new : Result Value Fault) (sends : List Action) (came : HasKind r (λ k. came_to k ≡ Some new)) (sent : HasKind r (λ k. sends ≡ sends_in k)) where
      valued_true : (o : Option CellId) (span : Span) (v : Value) (held : List Action) → Says (valued_what o span v held new sends)
      valued_true None span v held = booked_says (Ok v) held new sends came sent span
      valued_true (Some g) span v held = booked_says (Err (fault_at AgentFailed span)) [] new sends came sent span

      gave_true : (cells : List StoreCell) (done : List Event) (span : Span) (c : Completion ThreadState Value) → Says (gave_what cells done span new sends c)
      gave_true cells done span (Completes v t) = valued_true (first_failed cells done (held_by t)) span v (held_by t)
      gave_true cells done span (Recurs vs t) = tt
      gave_true cells done span (Faults f t) = booked_says (Err f) [] new sends came sent span
      gave_true cells done span (Retries t) = tt
      gave_true cells done span (Waits t) = tt
      gave_true cells done span (OutOfTurns t) = tt
      gave_true cells done span Invalid = tt

      over_true : (b j k : ℕ) (done : List Event) (g : CellId) (since : List Place) (o : Option Action) → Says (over_what p r n b j k done g since new sends o).what
      over_true b j k done g since None = tt
      over_true b j k done g since (Some x) = by (is_sent_call (known p.functions) x.callee (suc (length x.args)))
        where
          by : (c : Bool) → Says (if c then acted_what p r n done x (state_after p done g) since k new sends else what.Event None)
          by true =
              let v = state_after p done g in
              part_true (unvalidated p n x v) (Some []) since k (came_what p r n done x v since new sends) (gave_true (cells_of p.cells) done x.span (means_on p n x v (seen_of p.cells (books_of r) since)))
          by false = tt

    kind_true : (b j : ℕ) (since : List Place) (k : ℕ) (q : Place) (d : Event) → nth (books_of r q.book) q.at ≡ Some d → (e : EventKind) → d.kind ≡ e → Says (kind_what p r n b j since k q e).what
    kind_true b j since k q d there (Act g number new sends) is =
        over_true new sends (q.book, q.at, d, there, ap came_to is) (q.book, q.at, d, there, sym (ap sends_in is)) b j (j - (k - length since)) (take q.at (books_of r q.book)) g since
        (next_action (cells_of p.cells) (take q.at (books_of r q.book)) g)
    kind_true b j since k q d there (Read c) is = tt
    kind_true b j since k q d there (Commit at view ws sends) is = tt
    kind_true b j since k q d there (Retry at c cause) is = tt
    kind_true b j since k q d there (Fail at view) is = tt
    kind_true b j since k q d there (Refused at view g) is = tt
    kind_true b j since k q d there (Send x) is = tt
    kind_true b j since k q d there (SendRefused g) is = tt
    kind_true b j since k q d there (Swap new) is = tt
    kind_true b j since k q d there (Broke at) is = tt

    act_true : (b j : ℕ) (since : List Place) (k : ℕ) (q : Place) (o : Option Event) → nth (books_of r q.book) q.at ≡ o → Says (act_what p r n b j since k q o).what
    act_true b j since k q None there = tt
    act_true b j since k q (Some d) there = kind_true b j since k q d there d.kind refl

    act_at_true : (b j f k : ℕ) (ran : PlainActorReport) (o : Option Place) → Says (act_what_at p r n b j f k ran o).what
    act_at_true b j f k ran None = tt
    act_at_true b j f k ran (Some q) = act_true b j (part_of f k ran.trace) k q (nth (books_of r q.book) q.at) refl

    act_in_true : (b j f k : ℕ) (o : Option PlainActorReport) → Says (act_what_in p r n b j f k o).what
    act_in_true b j f k None = tt
    act_in_true b j f k (Some ran) = act_at_true b j f k ran (nth ran.trace k)

    -- ends
    module _ (ran : PlainActorReport) (entry : IsEntry r ran) where
      print_true : (xs : List ℕ) → Says (printed_what xs ran.printed)
      print_true xs = end_says ran entry None None [] [] (printed_what xs ran.printed) (line_says (books_of r) None None [] [] ran xs)

      behind_true : (full : Bool) (x : Action) (v : Value) (since : List Place) (outs : List ℕ) → Says (still_behind p r n full x v since outs ran.printed)
      behind_true true x v since outs =
          let es = seen_of p.cells (books_of r) since in
          let needed = needed_of (unvalidated p n x v es) in
          let whole = outs ++ printed_by (means_on p n x v es) in
          end_says ran entry None needed whole [] (full_what (books_of r) needed whole ran.printed) (full_says (books_of r) None needed whole [] ran)
      behind_true false x v since outs =
          let es = seen_of p.cells (books_of r) since in
          let whole = outs ++ printed_by (means_on p n x v es) in
          let least = outs ++ least_of (means_on p n x v) es in
          end_says ran entry None None whole least (part_what whole least ran.printed) (part_says (books_of r) None None whole least ran)

      still_true : (full : Bool) (b j k : ℕ) (g : CellId) (since : List Place) (outs : List ℕ) (o : Option Action) → Says (still_what p r n full b j k g since outs ran.printed o).what
      still_true full b j k g since outs None = tt
      still_true full b j k g since outs (Some x) = by (is_sent_call (known p.functions) x.callee (suc (length x.args)))
        where
          by : (c : Bool) → Says (if c then waiting_what p r n full x (state_after p r.book g) since k outs ran.printed else what.Event None)
          by true =
              let v = state_after p r.book g in
              part_true (unvalidated p n x v) (Some []) since k (still_behind p r n full x v since outs ran.printed) (behind_true full x v since outs)
          by false = tt

      end_true : (b j : ℕ) (g : CellId) (since : List Place) (outs : List ℕ) → Says (end_of_agent p r n b j g since outs ran).what
      end_true b j g since outs = by (is_stopped ran.outcome) (begins outs ran.printed)
        where
          by : (c d : Bool)
              → Says (if c then (if d then still_what p r n (is_full_stop ran.outcome) b j (j - (length ran.trace - length since)) g since outs ran.printed (next_action (cells_of p.cells) r.book g) else at_event (printed_what outs ran.printed) b j) else at_event (what.Ended None ran.outcome) b j).what
          by true true = still_true (is_full_stop ran.outcome) b j (j - (length ran.trace - length since)) g since outs (next_action (cells_of p.cells) r.book g)
          by true false = print_true outs
          by false d = (ran, entry, refl)

    end_in_true : (b j f : ℕ) (g : Option CellId) (o : Option PlainActorReport) → ((ran : PlainActorReport) → o ≡ Some ran → IsEntry r ran) → Says (end_what_in p r n b j f g o).what
    end_in_true b j f None o entry = tt
    end_in_true b j f (Some g) None entry = tt
    end_in_true b j f (Some g) (Some ran) entry = end_true ran (entry ran refl) b j g (drop f ran.trace) (acts_print p r n [] ran.trace)

    pub piece_true : (x : Piece) (b j : ℕ) → Says (piece_what p r n x b j).what
    piece_true (OfThread k) b j = thread_true (thread_means p n (nth p.threads k)) j (nth r.threads k) (λ ran e. (k, inl e))
    piece_true (OfAct k from at) b j = act_in_true b j from at (nth r.agents k)
    piece_true (OfEnd k from) b j = end_in_true b j from (nth (agents_from 0 p.cells) k) (nth r.agents k) (λ ran e. (k, inr e))

-- ---- what is told

abbrev TrueTold : PlainProgram → PlainTerms → PlainReport → Told → Type 0
TrueTold p w r told.Clear = Unit {0}
TrueTold p w r told.Open = Unit {0}
TrueTold p w r (told.So d) = SaysOf p w r d.actor d.event d.what

first_true : (p : PlainProgram) (w : PlainTerms) (r : PlainReport) (t u : Told) → TrueTold p w r t → TrueTold p w r u → TrueTold p w r (first t u)
first_true p w r told.Clear u h g = g
first_true p w r told.Open u h g = tt
first_true p w r (told.So d) u h g = h

tells_true : (p : PlainProgram) (w : PlainTerms) (r : PlainReport) (d : ℕ → ℕ → Difference) (f : Finding) → ((a i : ℕ) → f ≡ Off a i → TrueTold p w r (told.So (d a i))) → TrueTold p w r (tells d f)
tells_true p w r d Fine h = tt
tells_true p w r d (Off a i) h = h a i refl
tells_true p w r d (Short a i) h = tt

-- ---- books

-- the event that isn't legal is there
illegal_there : (test : List Event → Event → Bool) (index : ℕ → ℕ → ℕ) (done es : List Event) (a i : ℕ) → book_found test index done es ≡ Off a i
    → (m : ℕ) × (e : Event) × (event_in (book_found test (λ b k. k) done es) ≡ length done + m) × (nth es m ≡ Some e) × (a ≡ e.actor)
illegal_there test index done [] a i is = absurd cc
illegal_there test index done (x ∷ es) a i is = by (nat_lt (length done) most_events && test done x) is (λ e. illegal_there test index (done ++ x ∷ []) es a i e)
  where
    actor_same : (b c j k : ℕ) → Off b j ≡ Off c k → b ≡ c
    actor_same b c j k e = cc

    by : (b : Bool) → and_then (check b x.actor (index x.actor (length done))) (book_found test index (done ++ x ∷ []) es) ≡ Off a i
        → (book_found test index (done ++ x ∷ []) es ≡ Off a i → (m : ℕ) × (e : Event) × (event_in (book_found test (λ b k. k) (done ++ x ∷ []) es) ≡ length (done ++ x ∷ []) + m) × (nth es m ≡ Some e) × (a ≡ e.actor))
        → (m : ℕ) × (e : Event) × (event_in (and_then (check b x.actor (length done)) (book_found test (λ c k. k) (done ++ x ∷ []) es)) ≡ length done + m) × (nth (x ∷ es) m ≡ Some e) × (a ≡ e.actor)
    by true is rest =
        let h = rest is in
        let long : length (done ++ x ∷ []) ≡ length done + 1 = length-append done (x ∷ []) in
        let same = h.2 in
        let many : event_in (book_found test (λ c k. k) (done ++ x ∷ []) es) ≡ length done + suc h.0 = omega (arith, same, long) in
        (suc h.0, h.1, many, h.3, h.4)
    by false is rest =
        let none : length done ≡ length done + 0 = omega arith in
        (0, x, none, refl, sym (actor_same x.actor a (index x.actor (length done)) i is))

module _ (p : PlainProgram) (w : PlainTerms) (r : PlainReport) where
  abbrev True : Told → Type 0
  True t = TrueTold p w r t

  abbrev SaidOf : What → Type 0
  SaidOf u = SaysOf p w r 0 (length_if (entry_of r 0)) u

  abbrev IfSaid : Option What → Type 0
  IfSaid None = Unit {0}
  IfSaid (Some u) = SaidOf u

  or_said : (o u : Option What) → IfSaid o → IfSaid u → IfSaid (or_else o u)
  or_said None u h g = g
  or_said (Some v) u h g = h

  book_true : (test : List Event → Event → Bool) (index : ℕ → ℕ → ℕ) (b : ℕ) (book : List Event) → book ≡ books_of r b → True (book_told test index b book)
  book_true test index b book same =
      tells_true p w r (at_event (what.Illegal b (illegal_at test book))) (book_found test index [] book)
      (λ a i is.
      let h = illegal_there test index [] book a i is in
      let none : 0 + h.0 ≡ h.0 = omega arith in
      (h.1, ap (λ l. nth l (illegal_at test book)) (sym same) ∙ ap (nth book) (h.2 ∙ none) ∙ h.3, h.4))

  cell_true : (c : CellId) (v u : Value) → nth r.cells c.number ≡ Some u → IfSaid (cell_what c v u)
  cell_true c v u there = by (same_value v u) refl
    where
      by : (b : Bool) → same_value v u ≡ b → IfSaid (if b then None else Some (what.Cell c v u))
      by true e = tt
      by false e = (there, e)

  value_true : (n : ℕ) (ds : List CellDefinition) (vs : List Value) → ((k : ℕ) (u : Value) → nth vs k ≡ Some u → nth r.cells (n + k) ≡ Some u) → IfSaid (value_what p.cells r n ds vs)
  value_true n [] vs h = tt
  value_true n (d ∷ ds) [] h = tt
  value_true n (d ∷ ds) (v ∷ vs) h =
      by (value_true (suc n) ds vs (λ k u e. let next : n + suc k ≡ suc n + k = omega arith in sym (ap (nth r.cells) next) ∙ h (suc k) u e)) (same_kind d.kind Atom)
    where
      here : nth r.cells n ≡ Some v
      here = let none : n ≡ n + 0 = omega arith in ap (nth r.cells) none ∙ h 0 v refl

      by : IfSaid (value_what p.cells r (suc n) ds vs) → (b : Bool)
          → IfSaid (if b then value_what p.cells r (suc n) ds vs else or_else (cell_what (record { kind = d.kind; number = n }) (newest (opening (cells_of p.cells)) r.book n) v) (value_what p.cells r (suc n) ds vs))
      by rest true = rest
      by rest false =
          let now = newest (opening (cells_of p.cells)) r.book n in
          or_said (cell_what (record { kind = d.kind; number = n }) now v) (value_what p.cells r (suc n) ds vs) (cell_true (record { kind = d.kind; number = n }) now v here) rest

  failed_true : (gs : List CellId) (fs : List (Option Fault)) → IfSaid (failed_what (cells_of p.cells) r.book gs fs)
  failed_true [] fs = tt
  failed_true (g ∷ gs) [] = tt
  failed_true (g ∷ gs) (f ∷ fs) = by (failed_true gs fs) (same_failure (mail_after (cells_of p.cells) r.book g.number).fault f) refl
    where
      by : IfSaid (failed_what (cells_of p.cells) r.book gs fs) → (b : Bool) → same_failure (mail_after (cells_of p.cells) r.book g.number).fault f ≡ b
          → IfSaid (if b then failed_what (cells_of p.cells) r.book gs fs else Some (what.Failure g (mail_after (cells_of p.cells) r.book g.number).fault f))
      by rest true e = rest
      by rest false e = (refl, e)

  -- what a check finds at the end of the first trace
  check_true : (u : What) (b : Bool) → SaidOf u → True (tells (at_event u) (check b 0 (length_if (entry_of r 0))))
  check_true u true h = tt
  check_true u false h = h

  store_true : True (store_told p r)
  store_true =
      let V = value_what p.cells r 0 p.cells r.cells in
      let F = failed_what (cells_of p.cells) r.book (agents_from 0 p.cells) r.failed in
      first_true p w r (book_told (store_is p r) (store_at p r) 0 r.book) (tells (at_event (left_what p r)) (store_leaves p r)) (book_true (store_is p r) (store_at p r) 0 r.book refl)
      (check_true (left_what p r) (has_values p.cells r 0 p.cells r.cells && has_failed (cells_of p.cells) r.book (agents_from 0 p.cells) r.failed)
      (some (or_else V F) (or_said V F (value_true 0 p.cells r.cells (λ k u e. let none : 0 + k ≡ k = omega arith in ap (nth r.cells) none ∙ e)) (failed_true (agents_from 0 p.cells) r.failed))))
    where
      some : (o : Option What) → IfSaid o → SaidOf (or_event o)
      some None h = tt
      some (Some u) h = h

  atom_true : (c : CellId) → True (atom_told p r c)
  atom_true c =
      first_true p w r (book_told (atom_is p r c) (atom_at p r c) (home p.cells c) (books_of r (home p.cells c))) (tells (atom_differs p r c) (atom_has p r c))
      (book_true (atom_is p r c) (atom_at p r c) (home p.cells c) (books_of r (home p.cells c)) refl) (by (nth r.cells c.number) refl)
    where
      by : (o : Option Value) → nth r.cells c.number ≡ o → True (tells (at_event (atom_what c (atom_leaves p r c) o)) (check (is_value (atom_leaves p r c) o) 0 (length_if (entry_of r 0))))
      by None there = tt
      by (Some u) there = test (same_value (atom_leaves p r c) u) refl
        where
          test : (b : Bool) → same_value (atom_leaves p r c) u ≡ b → True (tells (at_event (what.Cell c (atom_leaves p r c) u)) (check b 0 (length_if (entry_of r 0))))
          test true e = tt
          test false e = (there, e)

  atoms_true : (cs : List CellId) → True (atoms_told p r cs)
  atoms_true [] = tt
  atoms_true (c ∷ cs) = first_true p w r (atom_told p r c) (atoms_told p r cs) (atom_true c) (atoms_true cs)

  -- ---- ends and pieces

  stop_true : (a i : ℕ) (o : Option PlainActorReport) → entry_of r a ≡ o → SaysOf p w r a i (stopped_what_in w o)
  stop_true a i None there = tt
  stop_true a i (Some ran) there = by ran.outcome
    where
      by : (o : Option Outcome) → SaysOf p w r a i (stopped_what w o ran.steps)
      by None = tt
      by (Some Done) = tt
      by (Some (Failed f)) = tt
      by (Some StepsSpent) = (refl, ap steps_in there)
      by (Some JournalFull) = tt
      by (Some Memory) = tt

  module _ (n : ℕ) where
    pieces_true : (xs : List Piece) → True (pieces_told p r n xs)
    pieces_true [] = tt
    pieces_true (x ∷ xs) =
        first_true p w r (tells (piece_what p r n x) (piece_finding p r n x)) (pieces_told p r n xs)
        (tells_true p w r (piece_what p r n x) (piece_finding p r n x) (λ a i is. piece_true p w r (piece_what p r n x a i).actor (piece_what p r n x a i).event n x a i)) (pieces_true xs)

    order_true : True (order_told p r n)
    order_true = first_true p w r (tells (at_event what.Order) (order_found p r)) (pieces_told p r n (pieces_of r)) (tells_true p w r (at_event what.Order) (order_found p r) (λ a i is. is)) (pieces_true (pieces_of r))

    abbrev stops : ℕ → ℕ → Difference
    stops a i = at_event (stopped_what_in w (entry_of r a)) a i

    actors_true : True (actors_told p w r n)
    actors_true = first_true p w r (tells stops (ends_found p w r)) (order_told p r n) (tells_true p w r stops (ends_found p w r) (λ a i is. stop_true a i (entry_of r a) refl)) order_true

    abbrev traces : Finding
    traces = traces_found (books_of r) (suc (length r.atom_books)) 0 (r.threads ++ r.agents)

    all_true : True (all_told p w r n)
    all_true =
        first_true p w r (tells (at_event what.Sizes) (check (fits_sizes p r) 0 0)) (first (tells (at_event what.Trace) traces) (first (books_told p r) (actors_told p w r n))) (sizes (fits_sizes p r) refl)
        (first_true p w r (tells (at_event what.Trace) traces) (first (books_told p r) (actors_told p w r n)) (tells_true p w r (at_event what.Trace) traces (λ a i is. is))
        (first_true p w r (books_told p r) (actors_told p w r n) (first_true p w r (store_told p r) (atoms_told p r (atoms_from 0 p.cells)) store_true (atoms_true (atoms_from 0 p.cells))) actors_true))
      where
        sizes : (b : Bool) → fits_sizes p r ≡ b → True (tells (at_event what.Sizes) (check b 0 0))
        sizes true e = tt
        sizes false e = e

pub differences_true : DifferencesAreTrue
differences_true p w r n d is = by (all_told p w r n) (all_true p w r n) is
  where
    by : (t : Told) → TrueTold p w r t → difference_in t ≡ Some d → SaysOf p w r d.actor d.event d.what
    by told.Clear h e = absurd cc
    by told.Open h e = absurd cc
    by (told.So x) h e = subst (λ (y : Difference). SaysOf p w r y.actor y.event y.what) (some e) h
      where
        some : Some x ≡ Some d → x ≡ d
        some e = cc
