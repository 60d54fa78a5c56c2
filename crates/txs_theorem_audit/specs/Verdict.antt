-- What an audit answers of a report: the tests in their order, the first that fails or needs more turns.
use Rattle.std.specs.Prelude.{ℕ, zero, suc, Bool, true, false, not, ◌&&◌, ◌||◌, ◌==◌, ◌-◌, ◌+◌, nat_le, nat_lt, List, [], ◌∷◌, ◌++◌, length, map, take, drop, Option, Some, None, Result, Ok, Err, if◌then◌else◌}
use Rattle.txs_value_data.specs.Places.{nth, fault_at}
use Rattle.txs_value_apply.specs.Core.{takes}
use Rattle.txs_value_data.specs.declared.fault.Fault.{Fault}
use Rattle.txs_value_data.specs.declared.fault.FaultKind.TheVariants.{AgentFailed}
use Rattle.txs_value_data.specs.declared.fault.Span.{Span}
use Rattle.txs_value_data.specs.declared.op.Callee.{Callee}
use Rattle.txs_value_data.specs.declared.op.Callee.TheVariants.{Core as CoreOp, Function}
use Rattle.txs_value_cell.specs.Agents.{agents_from}
use Rattle.txs_value_cell.specs.Forms.{same_kind}
use Rattle.txs_value_cell.specs.declared.action.Action.{Action}
use Rattle.txs_value_cell.specs.declared.cell.CellDefinition.{CellDefinition}
use Rattle.txs_value_data.specs.Limits.{most_events, most_items}
use Rattle.txs_value_data.specs.declared.value.CellId.{CellId}
use Rattle.txs_value_data.specs.declared.value.CellKind.TheVariants.{Atom}
use Rattle.txs_value_data.specs.declared.value.Value.{Value}
use Rattle.txs_world_protocol.specs.Ask.{same_cell, same_value, same_fault, same_new, same_actions}
use Rattle.txs_world_protocol.specs.SeenEvent.{SeenEvent, home}
use Rattle.txs_world_protocol.specs.declared.event.Event.{Event}
use Rattle.txs_world_protocol.specs.declared.event.EventKind.{EventKind}
use Rattle.txs_world_protocol.specs.declared.event.EventKind.TheVariants.{Read, Commit, Retry, Fail, Refused, Send, SendRefused, Act, Swap, Broke}
use Rattle.txs_world_protocol.specs.declared.event.Outcome.{Outcome}
use Rattle.txs_world_protocol.specs.declared.event.Outcome.TheVariants.{Done, Failed, StepsSpent, JournalFull, Memory}
use Rattle.txs_world_book.specs.Atom.{atom_after}
use Rattle.txs_world_book.specs.Book.{has_ref, has_agent, has_readable, are_refs, are_sends, cells_in, may_end, may_name, may_rerun, first_failed, is_failed, is_there, is_empty, may_send, actors, mail_after, waits, makes, newest, opening, written}
use Rattle.txs_world_book.specs.Served.{cells_of}
use Rattle.txs_world_book.specs.declared.cell.StoreCell.{StoreCell}
use Rattle.txs_world.specs.Store.{next_action}
use Rattle.txs_tree_meaning.specs.Known.{Known, known}
use Rattle.txs_tree_meaning.specs.Meaning.{Completion, Completes, Recurs, Faults, Retries, Waits, OutOfTurns, Invalid}
use Rattle.txs_tree_meaning.specs.Right.{is_wrong, right_events, eats_right, right_meaning}
use Rattle.txs_tree_meaning.specs.Thread.{TxRun, ThreadState, thread_meaning, action_meaning}
use Rattle.txs_tree_meaning.specs.Tree.{PlainProgram, PlainThread, ThreadSource}
use Rattle.txs_theorem_threads.specs.FollowsAll.{source_of}
use Rattle.txs_theorem_threads.specs.Noted.{txs_of}
use Rattle.txs_theorem_runs.specs.Told.{Place, places_in, places_by, seen_of}
use Rattle.txs_theorem_serial.specs.Serial.{is_covered}
use Rattle.txs_theorem_serial.specs.Order.{Link, all_links}
use Rattle.txs_theorem_serial.specs.Taken.{out_of_order}
use Rattle.txs_theorem_audit.specs.Audited.{PlainActorReport, PlainReport, PlainTerms, books_of, entry_of, Verdict, Finding, Fine, Off, Short, and_then, check, answer}

-- ---- cells and indices

-- the atoms among the cells from the n-th on, in their order
abbrev pub atoms_from : ℕ → List CellDefinition → List CellId
atoms_from n [] = []
atoms_from n (d ∷ ds) = if same_kind d.kind Atom then record { kind = Atom; number = n } ∷ atoms_from (suc n) ds else atoms_from (suc n) ds

-- which entry of a trace names the event at this index of this book; the trace's length where none does
abbrev pub index_in : ℕ → ℕ → List Place → ℕ
index_in book at [] = 0
index_in book at (p ∷ ps) = if p.book == book && p.at == at then 0 else suc (index_in book at ps)

-- the same in the trace of an entry, 0 where there is no entry
abbrev pub index_if : ℕ → ℕ → Option PlainActorReport → ℕ
index_if book at None = 0
index_if book at (Some ran) = index_in book at ran.trace

-- the length of the trace of an entry, 0 where there is no entry
abbrev pub length_if : Option PlainActorReport → ℕ
length_if None = 0
length_if (Some ran) = length ran.trace

-- ---- sizes

-- whether there is one entry for each thread, agent, atom, cell and agent
abbrev pub fits_sizes : PlainProgram → PlainReport → Bool
fits_sizes p r =
    length r.threads == length p.threads
    && (length r.agents == length (agents_from 0 p.cells)
    && (length r.atom_books == length (atoms_from 0 p.cells)
    && (length r.cells == length p.cells && length r.failed == length (agents_from 0 p.cells))))

-- ---- traces

-- whether these numbers begin the others
abbrev pub begins : List ℕ → List ℕ → Bool
begins [] ys = true
begins (x ∷ xs) [] = false
begins (x ∷ xs) (y ∷ ys) = x == y && begins xs ys

-- whether these are the same numbers
abbrev pub same_numbers : List ℕ → List ℕ → Bool
same_numbers [] [] = true
same_numbers (x ∷ xs) (y ∷ ys) = x == y && same_numbers xs ys
same_numbers _ _ = false

-- how many entries of a trace name, book by book, the actor's events in order; all of them where none is wrong
abbrev pub runs_right : (ℕ → List Event) → ℕ → List Place → List Place → ℕ
runs_right books a done [] = length done
runs_right books a done (p ∷ ps) =
    if begins (places_in p.book (done ++ p ∷ [])) (places_by a 0 (books p.book)) then runs_right books a (done ++ p ∷ []) ps else length done

-- whether a trace names all of the actor's events of the first n books
abbrev pub names_all : (ℕ → List Event) → ℕ → List Place → ℕ → Bool
names_all books a trace zero = true
names_all books a trace (suc n) = same_numbers (places_in n trace) (places_by a 0 (books n)) && names_all books a trace n

-- whether a trace names only events of the first n books
abbrev pub in_books : ℕ → List Place → Bool
in_books n [] = true
in_books n (p ∷ ps) = nat_lt p.book n && in_books n ps

-- a trace against the books
abbrev pub trace_found : (ℕ → List Event) → ℕ → ℕ → List Place → Finding
trace_found books count a trace = check (in_books count trace && names_all books a trace count) a (runs_right books a [] trace)

-- the traces of actors, from this one on
abbrev pub traces_found : (ℕ → List Event) → ℕ → ℕ → List PlainActorReport → Finding
traces_found books count a [] = Fine
traces_found books count a (ran ∷ rans) = and_then (trace_found books count a ran.trace) (traces_found books count (suc a) rans)

-- ---- books

-- whether an actor may have done this after these events of the store's book
abbrev pub is_legal_kind : List StoreCell → List Event → ℕ → EventKind → Bool
is_legal_kind cells done a (Read c) = has_readable cells c
is_legal_kind cells done a (Commit at view ws sends) = are_refs cells 0 (cells_in ws) && (are_sends cells sends && (may_end done a at view && not (is_there (first_failed cells done sends))))
is_legal_kind cells done a (Retry since c cause) = has_ref cells c && (may_rerun done a since c cause && written c.number since done)
is_legal_kind cells done a (Fail at view) = may_end done a at view
is_legal_kind cells done a (Refused at view g) = has_agent cells g && (may_end done a at view && is_failed cells done g)
is_legal_kind cells done a (Send x) = has_agent cells x.agent && not (is_failed cells done x.agent)
is_legal_kind cells done a (SendRefused g) = has_agent cells g && is_failed cells done g
is_legal_kind cells done a (Act g n new sends) =
    has_agent cells g && (not (is_failed cells done g) && (waits (mail_after cells done g.number).actions && (n == suc (mail_after cells done g.number).acts && (may_send new sends && (are_sends cells sends && not (is_there (first_failed cells done sends)))))))
is_legal_kind cells done a (Swap new) = false
is_legal_kind cells done a (Broke at) = false

-- the same of an atom's book
abbrev pub is_legal_swap : CellId → List Event → ℕ → EventKind → Bool
is_legal_swap cell done a (Read c) = same_cell c cell
is_legal_swap cell done a (Commit at view ws sends) = false
is_legal_swap cell done a (Retry since c cause) = false
is_legal_swap cell done a (Fail at view) = false
is_legal_swap cell done a (Refused at view g) = false
is_legal_swap cell done a (Send x) = false
is_legal_swap cell done a (SendRefused g) = false
is_legal_swap cell done a (Act g n new sends) = false
is_legal_swap cell done a (Swap new) = true
is_legal_swap cell done a (Broke at) = may_name true done a at

-- the events of a book behind some, one after the other; the index says which entry of its actor's trace names an event
abbrev pub book_found : (List Event → Event → Bool) → (ℕ → ℕ → ℕ) → List Event → List Event → Finding
book_found test index done [] = Fine
book_found test index done (e ∷ es) =
    and_then (check (nat_lt (length done) most_events && test done e) e.actor (index e.actor (length done))) (book_found test index (done ++ e ∷ []) es)

-- whether the values of the store's cells are these, from the n-th on
abbrev pub has_values : List CellDefinition → PlainReport → ℕ → List CellDefinition → List Value → Bool
has_values all r n [] vs = true
has_values all r n (d ∷ ds) [] = false
has_values all r n (d ∷ ds) (v ∷ vs) = (same_kind d.kind Atom || same_value (newest (opening (cells_of all)) r.book n) v) && has_values all r (suc n) ds vs

-- whether two faults that there may be are the same
abbrev pub same_failure : Option Fault → Option Fault → Bool
same_failure None None = true
same_failure (Some f) (Some g) = same_fault f g
same_failure _ _ = false

-- whether the agents have failed so
abbrev pub has_failed : List StoreCell → List Event → List CellId → List (Option Fault) → Bool
has_failed cells book [] fs = true
has_failed cells book (g ∷ gs) [] = false
has_failed cells book (g ∷ gs) (f ∷ fs) = same_failure (mail_after cells book g.number).fault f && has_failed cells book gs fs

-- the store's book, and then what it leaves
abbrev pub store_found : PlainProgram → PlainReport → Finding
store_found p r =
    and_then
    (book_found (λ done e. makes (cells_of p.cells) (length p.threads) e.actor e.kind && is_legal_kind (cells_of p.cells) done e.actor e.kind) (λ a k. index_if 0 k (entry_of r a)) [] r.book)
    (check (has_values p.cells r 0 p.cells r.cells && has_failed (cells_of p.cells) r.book (agents_from 0 p.cells) r.failed) 0 (length_if (entry_of r 0)))

-- the value of a cell that is there is this one
abbrev pub is_value : Value → Option Value → Bool
is_value v None = false
is_value v (Some w) = same_value v w

-- the book of an atom, and then what it leaves
abbrev pub atom_found : PlainProgram → PlainReport → CellId → Finding
atom_found p r c =
    and_then
    (book_found (λ done e. nat_lt e.actor (actors (length p.threads) (cells_of p.cells)) && is_legal_swap c done e.actor e.kind) (λ a k. index_if (home p.cells c) k (entry_of r a)) [] (books_of r (home p.cells c)))
    (check (is_value (atom_after (opening (cells_of p.cells) c.number) (books_of r (home p.cells c)) (length (books_of r (home p.cells c)))) (nth r.cells c.number)) 0 (length_if (entry_of r 0)))

-- the books of these atoms
abbrev pub atoms_found : PlainProgram → PlainReport → List CellId → Finding
atoms_found p r [] = Fine
atoms_found p r (c ∷ cs) = and_then (atom_found p r c) (atoms_found p r cs)

-- ---- ends

-- whether a stop for steps is true: the actor has made as many as it may
abbrev pub is_true_stop : ℕ → Option Outcome → ℕ → Bool
is_true_stop limit None steps = true
is_true_stop limit (Some Done) steps = true
is_true_stop limit (Some (Failed f)) steps = true
is_true_stop limit (Some StepsSpent) steps = steps == limit
is_true_stop limit (Some JournalFull) steps = true
is_true_stop limit (Some Memory) steps = true

-- a thread, which has ended where the run was to go on up to its end
abbrev pub thread_over : PlainTerms → ℕ → PlainActorReport → Finding
thread_over w a ran = check ((not w.finishes || is_there ran.outcome) && is_true_stop w.limit ran.outcome ran.steps) a (length ran.trace)

-- the threads, from this one on
abbrev pub threads_over : PlainTerms → ℕ → List PlainActorReport → Finding
threads_over w a [] = Fine
threads_over w a (ran ∷ rans) = and_then (thread_over w a ran) (threads_over w (suc a) rans)

-- an agent's actor, which has ended so, too, or has nothing to do, since the agent has failed or has no mail
abbrev pub agent_over : PlainTerms → List StoreCell → List Event → ℕ → CellId → PlainActorReport → Finding
agent_over w cells book a g ran =
    check ((not w.finishes || (is_there ran.outcome || not (is_there (next_action cells book g)))) && is_true_stop w.limit ran.outcome ran.steps) a (length ran.trace)

-- these agents, from this actor on
abbrev pub agents_over : PlainTerms → List StoreCell → List Event → ℕ → List CellId → List PlainActorReport → Finding
agents_over w cells book a [] rans = Fine
agents_over w cells book a (g ∷ gs) [] = Fine
agents_over w cells book a (g ∷ gs) (ran ∷ rans) = and_then (agent_over w cells book a g ran) (agents_over w cells book (suc a) gs rans)

-- how all actors ended
abbrev pub ends_found : PlainProgram → PlainTerms → PlainReport → Finding
ends_found p w r = and_then (threads_over w 0 r.threads) (agents_over w (cells_of p.cells) r.book (length p.threads) (agents_from 0 p.cells) r.agents)

-- ---- the order of all events

-- what the traces of a report say of the order
abbrev pub report_links : PlainProgram → PlainReport → List Link
report_links p r = all_links (books_of r) (map (λ (x : PlainActorReport). x.trace) r.threads) (agents_from 0 p.cells) (map (λ (x : PlainActorReport). x.trace) r.agents)

-- an event that comes before itself is off
abbrev pub named_off : PlainReport → Place → Option Event → Finding
named_off r q None = Fine
named_off r q (Some e) = Off e.actor (index_if q.book q.at (entry_of r e.actor))

abbrev pub place_off : PlainReport → Option Place → Finding
place_off r None = Fine
place_off r (Some q) = named_off r q (nth (books_of r q.book) q.at)

abbrev pub order_found : PlainProgram → PlainReport → Finding
order_found p r = place_off r (out_of_order (books_of r) (report_links p r) (suc (length r.atom_books)))

-- ---- threads

-- what a meaning prints
abbrev pub printed_by : Completion ThreadState Value → List ℕ
printed_by (Completes v t) = t.printed
printed_by (Recurs vs t) = t.printed
printed_by (Faults f t) = t.printed
printed_by (Retries t) = t.printed
printed_by (Waits t) = t.printed
printed_by (OutOfTurns t) = t.printed
printed_by Invalid = []

-- whether none of these cells is written at index p or later
abbrev pub is_untouched : List Event → ℕ → List CellId → Bool
is_untouched done p [] = true
is_untouched done p (c ∷ cs) = not (written c.number p done) && is_untouched done p cs

-- whether the first held send whose agent has failed is to this one
abbrev pub is_first_failed : Option CellId → CellId → Bool
is_first_failed None g = false
is_first_failed (Some h) g = same_cell h g

-- whether the transaction of an event was undisturbed
abbrev pub is_calm : List StoreCell → List Event → EventKind → TxRun → Bool
is_calm cells done (Commit at view ws sends) x = is_untouched done at x.state.done.sets && is_untouched done at x.state.done.ensures
is_calm cells done (Refused at view g) x = is_untouched done at x.state.done.sets && (is_untouched done at x.state.done.ensures && is_first_failed (first_failed cells done x.state.done.sends) g)
is_calm cells done _ x = true

-- whether an event has a transaction
abbrev pub is_end : EventKind → Bool
is_end (Read c) = false
is_end (Commit at view ws sends) = true
is_end (Retry since c cause) = false
is_end (Fail at view) = false
is_end (Refused at view g) = true
is_end (Send x) = false
is_end (SendRefused g) = false
is_end (Act g n new sends) = false
is_end (Swap new) = false
is_end (Broke at) = false

-- whether an event is a commit
abbrev pub is_commit : EventKind → Bool
is_commit (Read c) = false
is_commit (Commit at view ws sends) = true
is_commit (Retry since c cause) = false
is_commit (Fail at view) = false
is_commit (Refused at view g) = false
is_commit (Send x) = false
is_commit (SendRefused g) = false
is_commit (Act g n new sends) = false
is_commit (Swap new) = false
is_commit (Broke at) = false

-- a transaction that is there, and those behind it
abbrev pub with_run : List TxRun → (TxRun → List TxRun → Finding) → Finding
with_run [] go = Fine
with_run (x ∷ xs) go = go x xs

-- the transactions of a thread at the events of its trace, from the i-th on
abbrev pub calm_at : List StoreCell → (ℕ → List Event) → ℕ → ℕ → Place → Option Event → (List TxRun → Finding) → List TxRun → Finding
calm_at cells books a i p None rest xs = rest xs
calm_at cells books a i p (Some e) rest xs =
    if is_end e.kind then with_run xs (λ x ys. and_then (check (is_calm cells (take p.at (books p.book)) e.kind x) a i) (rest ys)) else rest xs

-- the same of a whole trace
abbrev pub calm_found : List StoreCell → (ℕ → List Event) → ℕ → ℕ → List Place → List TxRun → Finding
calm_found cells books a i [] xs = Fine
calm_found cells books a i (p ∷ ps) xs = calm_at cells books a i p (nth (books p.book) p.at) (λ ys. calm_found cells books a (suc i) ps ys) xs

-- whether an actor was stopped, or hasn't ended
abbrev pub is_stopped : Option Outcome → Bool
is_stopped None = true
is_stopped (Some Done) = false
is_stopped (Some (Failed f)) = false
is_stopped (Some StepsSpent) = true
is_stopped (Some JournalFull) = true
is_stopped (Some Memory) = true

-- whether an actor has done all
abbrev pub is_done : Option Outcome → Bool
is_done (Some Done) = true
is_done _ = false

-- whether an actor has faulted so
abbrev pub has_faulted : Fault → Option Outcome → Bool
has_faulted f (Some (Failed g)) = same_fault f g
has_faulted f _ = false

-- all but the last of these
abbrev pub but_last : List SeenEvent → List SeenEvent
but_last [] = []
but_last (e ∷ []) = []
but_last (e ∷ d ∷ es) = e ∷ but_last (d ∷ es)

-- what a thread's meaning prints on all events but the last; nothing where there is none
abbrev pub least_printed : ThreadSource → ℕ → List SeenEvent → List ℕ
least_printed p n [] = []
least_printed p n (e ∷ es) = printed_by (thread_meaning p n (but_last (e ∷ es)))

-- whether a stopped thread has printed so much and no more
abbrev pub printed_part : ThreadSource → ℕ → List SeenEvent → List ℕ → List ℕ → Bool
printed_part p n es out whole = begins out whole && begins (least_printed p n es) out

-- the end of a thread whose meaning on its events is this
abbrev pub end_found : ThreadSource → ℕ → ℕ → List SeenEvent → PlainActorReport → Completion ThreadState Value → Finding
end_found p n a es ran (Completes v t) =
    and_then (check (length t.todo == 0) a (length es - length t.todo))
    (check (if is_done ran.outcome then same_numbers ran.printed t.printed else is_stopped ran.outcome && printed_part p n es ran.printed t.printed) a (length es))
end_found p n a es ran (Recurs vs t) = Off a (eats_right p n [] es)
end_found p n a es ran (Faults f t) =
    and_then (check (length t.todo == 0) a (length es - length t.todo))
    (check (if has_faulted f ran.outcome then same_numbers ran.printed t.printed else is_stopped ran.outcome && printed_part p n es ran.printed t.printed) a (length es))
end_found p n a es ran (Retries t) = Off a (eats_right p n [] es)
end_found p n a es ran (Waits t) =
    and_then (check (length t.todo == 0) a (length es - length t.todo)) (check (is_stopped ran.outcome && printed_part p n es ran.printed t.printed) a (length es))
end_found p n a es ran (OutOfTurns t) =
    if length t.todo == 0 && (is_stopped ran.outcome && printed_part p n es ran.printed t.printed) then Fine else Short a (length es - length t.todo)
end_found p n a es ran Invalid = Off a (eats_right p n [] es)

-- whether an actor was stopped for a full book
abbrev pub is_full_stop : Option Outcome → Bool
is_full_stop (Some JournalFull) = true
is_full_stop _ = false

-- whether the book that is needed, if any is, is full
abbrev pub is_full_book : (ℕ → List Event) → Option ℕ → Bool
is_full_book books None = false
is_full_book books (Some b) = nat_le most_events (length (books b))

-- the end of a thread that was stopped for a full book, and printed this, whose meaning on its events is this: it needs an event of a full book
abbrev pub full_found : (ℕ → List Event) → ThreadSource → ℕ → ℕ → List SeenEvent → List ℕ → Completion ThreadState Value → Finding
full_found books p n a es out (Completes v t) = and_then (check (length t.todo == 0) a (length es - length t.todo)) (Off a (length es))
full_found books p n a es out (Recurs vs t) = Off a (eats_right p n [] es)
full_found books p n a es out (Faults f t) = and_then (check (length t.todo == 0) a (length es - length t.todo)) (Off a (length es))
full_found books p n a es out (Retries t) = Off a (eats_right p n [] es)
full_found books p n a es out (Waits t) =
    and_then (check (length t.todo == 0) a (length es - length t.todo)) (check (is_full_book books t.asks && same_numbers out t.printed) a (length es))
full_found books p n a es out (OutOfTurns t) = Short a (length es - length t.todo)
full_found books p n a es out Invalid = Off a (eats_right p n [] es)

-- the end of a thread, by how it ended
abbrev pub thread_ends : (ℕ → List Event) → ThreadSource → ℕ → ℕ → List SeenEvent → PlainActorReport → Completion ThreadState Value → Finding
thread_ends books p n a es ran m = if is_full_stop ran.outcome then full_found books p n a es ran.printed m else end_found p n a es ran m

-- the transactions that a thread's meaning on these events notes, up to an event that gives it no meaning
abbrev pub noted_by : ThreadSource → ℕ → List SeenEvent → Completion ThreadState Value → List TxRun
noted_by p n es m = if is_wrong m then txs_of (right_meaning p n es) else txs_of m

-- a thread: its transactions, and then its end
abbrev pub thread_found : PlainProgram → PlainReport → ℕ → ℕ → PlainThread → PlainActorReport → Finding
thread_found p r n a t ran =
    and_then (calm_found (cells_of p.cells) (books_of r) a 0 ran.trace (noted_by (source_of p t) n (seen_of p.cells (books_of r) ran.trace) (thread_meaning (source_of p t) n (seen_of p.cells (books_of r) ran.trace))))
    (thread_ends (books_of r) (source_of p t) n a (seen_of p.cells (books_of r) ran.trace) ran (thread_meaning (source_of p t) n (seen_of p.cells (books_of r) ran.trace)))

-- the threads, from this one on
abbrev pub threads_found : PlainProgram → PlainReport → ℕ → ℕ → List PlainThread → List PlainActorReport → Finding
threads_found p r n a [] rans = Fine
threads_found p r n a (t ∷ ts) [] = Fine
threads_found p r n a (t ∷ ts) (ran ∷ rans) = and_then (thread_found p r n a t ran) (threads_found p r n (suc a) ts rans)

-- ---- agents

-- what an action means on these events of its agent's actor, after these events of the store's book
abbrev pub action_after : PlainProgram → ℕ → List Event → CellId → Action → List SeenEvent → Completion ThreadState Value
action_after p n done g x es = action_meaning p.cells p.functions n x (newest (opening (cells_of p.cells)) done g.number) es

-- whether a function that is known isn't for transactions alone, and takes so many values
abbrev pub is_sent_known : Option Known → ℕ → Bool
is_sent_known None n = false
is_sent_known (Some k) n = k.parameters == n && not k.inside

-- whether a callee may be sent, of so many values
abbrev pub is_sent_call : List Known → Callee → ℕ → Bool
is_sent_call ks (CoreOp op) n = takes op n && nat_le n most_items
is_sent_call ks (Function f) n = is_sent_known (nth ks f) n

-- these sends, where there are some
abbrev pub sends_if : Option (List Action) → List Action
sends_if None = []
sends_if (Some held) = held

-- the sends that are held, none of a thread's
abbrev pub held_by : ThreadState → List Action
held_by t = sends_if t.held

-- the transactions that a meaning notes on these events, up to an event that gives it no meaning
abbrev pub noted_in : (List SeenEvent → Completion ThreadState Value) → List SeenEvent → List TxRun
noted_in m es = txs_of (if is_wrong (m es) then m (take (right_events m [] es) es) else m es)

-- whether what an action hands in is booked so, by the first agent of its sends that had failed
abbrev pub is_booked : Option CellId → Span → Value → List Action → Result Value Fault → List Action → Bool
is_booked None span v held new sends = same_new (Ok v) new && same_actions held sends
is_booked (Some h) span v held new sends = same_new (Err (fault_at AgentFailed span)) new && is_empty sends

-- an action that means this on its events, of which the first is the i-th of the actor's trace, against its act, which is the k-th
abbrev pub act_ends : List StoreCell → List Event → Span → ℕ → ℕ → ℕ → (List SeenEvent → Completion ThreadState Value) → List SeenEvent → Result Value Fault → List Action → Completion ThreadState Value → Finding
act_ends cells done span a i k m es new sends (Completes v t) =
    and_then (check (length t.todo == 0) a (i + (length es - length t.todo))) (check (is_booked (first_failed cells done (held_by t)) span v (held_by t) new sends) a k)
act_ends cells done span a i k m es new sends (Recurs vs t) = Off a (i + right_events m [] es)
act_ends cells done span a i k m es new sends (Faults f t) =
    and_then (check (length t.todo == 0) a (i + (length es - length t.todo))) (check (same_new (Err f) new && is_empty sends) a k)
act_ends cells done span a i k m es new sends (Retries t) = Off a (i + right_events m [] es)
-- an action that needs an event more isn't over
act_ends cells done span a i k m es new sends (Waits t) = Off a k
act_ends cells done span a i k m es new sends (OutOfTurns t) = Short a (i + (length es - length t.todo))
act_ends cells done span a i k m es new sends Invalid = Off a (i + right_events m [] es)

-- an action, on the events of this part of the actor's trace: its transactions, and then its end
abbrev pub action_found : PlainProgram → PlainReport → ℕ → ℕ → ℕ → ℕ → List Event → CellId → List Place → Result Value Fault → List Action → Option Action → Finding
action_found p r n a i k done g since new sends None = Off a k
action_found p r n a i k done g since new sends (Some x) =
    if is_sent_call (known p.functions) x.callee (suc (length x.args))
    then and_then (calm_found (cells_of p.cells) (books_of r) a i since (noted_in (action_after p n done g x) (seen_of p.cells (books_of r) since)))
    (act_ends (cells_of p.cells) done x.span a i k (action_after p n done g x) (seen_of p.cells (books_of r) since) new sends (action_after p n done g x (seen_of p.cells (books_of r) since)))
    else Off a k

-- what an action prints, where there is one that may be sent
abbrev pub action_prints : PlainProgram → PlainReport → ℕ → List Event → CellId → List Place → Option Action → List ℕ
action_prints p r n done g since None = []
action_prints p r n done g since (Some x) =
    if is_sent_call (known p.functions) x.callee (suc (length x.args)) then printed_by (action_after p n done g x (seen_of p.cells (books_of r) since)) else []

-- what a meaning prints on all events but the last; nothing where there is none
abbrev pub least_of : (List SeenEvent → Completion ThreadState Value) → List SeenEvent → List ℕ
least_of m [] = []
least_of m (e ∷ es) = printed_by (m (but_last (e ∷ es)))

-- whether an action that isn't over printed so much of this and no more
abbrev pub part_printed : (List SeenEvent → Completion ThreadState Value) → List SeenEvent → List ℕ → List ℕ → Bool
part_printed m es out whole = begins out whole && begins (least_of m es) out

-- an action that isn't over and means this on its events, of which the first is the i-th of the actor's trace, which has k; it has printed this
abbrev pub still_ends : ℕ → ℕ → ℕ → (List SeenEvent → Completion ThreadState Value) → List SeenEvent → List ℕ → Completion ThreadState Value → Finding
still_ends a i k m es out (Completes v t) = and_then (check (length t.todo == 0) a (i + (length es - length t.todo))) (check (part_printed m es out t.printed) a k)
still_ends a i k m es out (Recurs vs t) = Off a (i + right_events m [] es)
still_ends a i k m es out (Faults f t) = and_then (check (length t.todo == 0) a (i + (length es - length t.todo))) (check (part_printed m es out t.printed) a k)
still_ends a i k m es out (Retries t) = Off a (i + right_events m [] es)
still_ends a i k m es out (Waits t) = and_then (check (length t.todo == 0) a (i + (length es - length t.todo))) (check (part_printed m es out t.printed) a k)
still_ends a i k m es out (OutOfTurns t) = if length t.todo == 0 && part_printed m es out t.printed then Fine else Short a (i + (length es - length t.todo))
still_ends a i k m es out Invalid = Off a (i + right_events m [] es)

-- The same of an agent's actor that was stopped for a full book: the action needs an event of a full book, or is over and the store's book is full.
abbrev pub full_ends : (ℕ → List Event) → ℕ → ℕ → ℕ → (List SeenEvent → Completion ThreadState Value) → List SeenEvent → List ℕ → Completion ThreadState Value → Finding
full_ends books a i k m es out (Completes v t) =
    and_then (check (length t.todo == 0) a (i + (length es - length t.todo))) (check (is_full_book books (Some 0) && same_numbers out t.printed) a k)
full_ends books a i k m es out (Recurs vs t) = Off a (i + right_events m [] es)
full_ends books a i k m es out (Faults f t) =
    and_then (check (length t.todo == 0) a (i + (length es - length t.todo))) (check (is_full_book books (Some 0) && same_numbers out t.printed) a k)
full_ends books a i k m es out (Retries t) = Off a (i + right_events m [] es)
full_ends books a i k m es out (Waits t) =
    and_then (check (length t.todo == 0) a (i + (length es - length t.todo))) (check (is_full_book books t.asks && same_numbers out t.printed) a k)
full_ends books a i k m es out (OutOfTurns t) = Short a (i + (length es - length t.todo))
full_ends books a i k m es out Invalid = Off a (i + right_events m [] es)

-- an action that isn't over, by how its agent's actor ended
abbrev pub rest_ends : (ℕ → List Event) → Bool → ℕ → ℕ → ℕ → (List SeenEvent → Completion ThreadState Value) → List SeenEvent → List ℕ → Completion ThreadState Value → Finding
rest_ends books full a i k m es out c = if full then full_ends books a i k m es out c else still_ends a i k m es out c

-- the action that is first after the whole book, on the events after the last act
abbrev pub still_found : PlainProgram → PlainReport → ℕ → Bool → ℕ → ℕ → ℕ → CellId → List Place → List ℕ → Option Action → Finding
still_found p r n full a i k g since out None = Off a i
still_found p r n full a i k g since out (Some x) =
    if is_sent_call (known p.functions) x.callee (suc (length x.args))
    then and_then (calm_found (cells_of p.cells) (books_of r) a i since (noted_in (action_after p n r.book g x) (seen_of p.cells (books_of r) since)))
    (rest_ends (books_of r) full a i k (action_after p n r.book g x) (seen_of p.cells (books_of r) since) out (action_after p n r.book g x (seen_of p.cells (books_of r) since)))
    else Off a i

-- An actor's end, by whether it was stopped for a full book, its trace's part after the last act and what was printed since: nothing, or what the first action
-- means. One that was stopped for a full book has an action.
abbrev pub rest_found : PlainProgram → PlainReport → ℕ → Bool → ℕ → ℕ → ℕ → CellId → List Place → List ℕ → Finding
rest_found p r n false a i k g [] [] = Fine
rest_found p r n full a i k g since out = still_found p r n full a i k g since out (next_action (cells_of p.cells) r.book g)

-- an agent's end: it never ended, and printed what its actions print, one after another, and behind that what its first action prints
abbrev pub agent_end : PlainProgram → PlainReport → ℕ → ℕ → CellId → List Place → List ℕ → PlainActorReport → Finding
agent_end p r n a g since outs ran =
    and_then (check (is_stopped ran.outcome && begins outs ran.printed) a (length ran.trace))
    (rest_found p r n (is_full_stop ran.outcome) a (length ran.trace - length since) (length ran.trace) g since (drop (length outs) ran.printed))

-- what is found of an event of this kind
abbrev pub kind_found : PlainProgram → PlainReport → ℕ → ℕ → ℕ → Place → CellId → List Place → List ℕ → EventKind → (List Place → List ℕ → Finding) → Finding
kind_found p r n a k q g since outs (Act h number new sends) go =
    and_then
    (action_found p r n a (k - length since) k (take q.at (books_of r q.book)) g since new sends (next_action (cells_of p.cells) (take q.at (books_of r q.book)) g))
    (go [] (outs ++ action_prints p r n (take q.at (books_of r q.book)) g since (next_action (cells_of p.cells) (take q.at (books_of r q.book)) g)))
kind_found p r n a k q g since outs kind go = go (since ++ q ∷ []) outs

-- an event of an agent's trace: an act ends what came since the act before it, and any other event joins that
abbrev pub event_found : PlainProgram → PlainReport → ℕ → ℕ → ℕ → Place → CellId → List Place → List ℕ → Option Event → (List Place → List ℕ → Finding) → Finding
event_found p r n a k q g since outs None go = go (since ++ q ∷ []) outs
event_found p r n a k q g since outs (Some e) go = kind_found p r n a k q g since outs e.kind go

-- the actions of an agent from the k-th event of its trace on, and then its end
abbrev pub acts_found : PlainProgram → PlainReport → ℕ → ℕ → ℕ → CellId → List Place → List ℕ → List Place → PlainActorReport → Finding
acts_found p r n a k g since outs [] ran = agent_end p r n a g since outs ran
acts_found p r n a k g since outs (q ∷ qs) ran =
    event_found p r n a k q g since outs (nth (books_of r q.book) q.at) (λ since1 outs1. acts_found p r n a (suc k) g since1 outs1 qs ran)

-- the agents, from this actor on
abbrev pub agents_found : PlainProgram → PlainReport → ℕ → ℕ → List CellId → List PlainActorReport → Finding
agents_found p r n a [] rans = Fine
agents_found p r n a (g ∷ gs) [] = Fine
agents_found p r n a (g ∷ gs) (ran ∷ rans) = and_then (acts_found p r n a 0 g [] [] ran.trace ran) (agents_found p r n (suc a) gs rans)

-- ---- all

-- whether each commit of a trace is covered
abbrev pub covered_if : Option Event → (List TxRun → Bool) → List TxRun → Bool
covered_if None rest xs = rest xs
covered_if (Some e) rest [] = rest []
covered_if (Some e) rest (x ∷ xs) = if is_end e.kind then (not (is_commit e.kind) || is_covered x.state) && rest xs else rest (x ∷ xs)

-- the same of a whole trace
abbrev pub covered_all : (ℕ → List Event) → List Place → List TxRun → Bool
covered_all books [] xs = true
covered_all books (p ∷ ps) xs = covered_if (nth (books p.book) p.at) (λ ys. covered_all books ps ys) xs

-- whether every commit of these threads is covered
abbrev pub are_serial : PlainProgram → PlainReport → ℕ → List PlainThread → List PlainActorReport → Bool
are_serial p r n [] rans = true
are_serial p r n (t ∷ ts) [] = true
are_serial p r n (t ∷ ts) (ran ∷ rans) =
    covered_all (books_of r) ran.trace (txs_of (thread_meaning (source_of p t) n (seen_of p.cells (books_of r) ran.trace))) && are_serial p r n ts rans

-- whether every commit of an action is covered
abbrev pub action_covered : PlainProgram → PlainReport → ℕ → List Event → CellId → List Place → Option Action → Bool
action_covered p r n done g since None = true
action_covered p r n done g since (Some x) = covered_all (books_of r) since (txs_of (action_after p n done g x (seen_of p.cells (books_of r) since)))

-- the same of the actions of an agent, those that are over and the one that isn't
abbrev pub kind_covered : PlainProgram → PlainReport → ℕ → Place → CellId → List Place → EventKind → (List Place → Bool) → Bool
kind_covered p r n q g since (Act h number new sends) go =
    action_covered p r n (take q.at (books_of r q.book)) g since (next_action (cells_of p.cells) (take q.at (books_of r q.book)) g) && go []
kind_covered p r n q g since kind go = go (since ++ q ∷ [])

abbrev pub event_covered : PlainProgram → PlainReport → ℕ → Place → CellId → List Place → Option Event → (List Place → Bool) → Bool
event_covered p r n q g since None go = go (since ++ q ∷ [])
event_covered p r n q g since (Some e) go = kind_covered p r n q g since e.kind go

abbrev pub acts_covered : PlainProgram → PlainReport → ℕ → CellId → List Place → List Place → Bool
acts_covered p r n g since [] = action_covered p r n r.book g since (next_action (cells_of p.cells) r.book g)
acts_covered p r n g since (q ∷ qs) = event_covered p r n q g since (nth (books_of r q.book) q.at) (λ since1. acts_covered p r n g since1 qs)

-- whether every commit of these agents is covered
abbrev pub agents_serial : PlainProgram → PlainReport → ℕ → List CellId → List PlainActorReport → Bool
agents_serial p r n [] rans = true
agents_serial p r n (g ∷ gs) [] = true
agents_serial p r n (g ∷ gs) (ran ∷ rans) = acts_covered p r n g [] ran.trace && agents_serial p r n gs rans

-- what the tests find, in their order
abbrev pub found : PlainProgram → PlainTerms → PlainReport → ℕ → Finding
found p w r n =
    and_then (check (fits_sizes p r) 0 0)
    (and_then (traces_found (books_of r) (suc (length r.atom_books)) 0 (r.threads ++ r.agents))
    (and_then (store_found p r)
    (and_then (atoms_found p r (atoms_from 0 p.cells))
    (and_then (ends_found p w r)
    (and_then (order_found p r)
    (and_then (threads_found p r n 0 p.threads r.threads) (agents_found p r n (length p.threads) (agents_from 0 p.cells) r.agents)))))))

-- the verdict on a run that was to do this, where each loop makes at most n turns
abbrev pub verdict : PlainProgram → PlainTerms → PlainReport → ℕ → Verdict
verdict p w r n = answer (found p w r n) (are_serial p r n p.threads r.threads && agents_serial p r n (agents_from 0 p.cells) r.agents)
