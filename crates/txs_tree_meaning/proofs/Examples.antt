-- Worked examples of the meanings, each by computing.
use Rattle.std.proofs.Common.{ℕ, suc, true, false, List, [], ◌∷◌, Option, Some, None, ◌≡◌, refl}
use Rattle.std.specs.Fmt.{digits}
use Rattle.std.specs.Prelude.{pos, negsuc}
use Rattle.txs_world_protocol.specs.SeenEvent.{SeenEvent}
use Rattle.txs_world_protocol.specs.declared.event.Cause.{Cause}
use Rattle.txs_world_protocol.specs.declared.event.Cause.TheVariants.{Outdated, Held, Commuted}
use Rattle.txs_world_protocol.specs.declared.event.EventKind.{EventKind}
use Rattle.txs_world_protocol.specs.declared.event.EventKind.TheVariants.{Read, Commit, Retry, Fail, Refused, Send as Sent, SendRefused, Swap as Swapped, Broke}
use Rattle.txs_frame.specs.Frame.{PlainTxFrame}
use Rattle.txs_frame.specs.declared.frame.Commute.{Commute as KeptCommute}
use Rattle.txs_value_apply.specs.Core.{core}
use Rattle.txs_tree_meaning.specs.Meaning.{Completion, Completes, Recurs, Faults, Retries, Waits, OutOfTurns, Invalid, apply}
use Rattle.txs_tree_meaning.specs.Pure.{pure_calls, pure_meaning, nowhere}
use Rattle.txs_tree_meaning.specs.Sound.{SoundTree, in_thread}
use Rattle.txs_tree_meaning.specs.Right.{behind_retries, right_events, eats_right, right_meaning}
use Rattle.txs_tree_meaning.specs.Thread.{ThreadState, Surroundings, thread_in, thread_meaning, action_in}
use Rattle.txs_tree_meaning.specs.Transaction.{tx_start, tx_meaning, final_writes}
use Rattle.txs_tree_meaning.specs.Tree.{Mark, Tree, Const, Local, Do, Loop, Recur, Call, Core, VectorOf, Println, Dosync, Look, Put, Update, Send, none, more, PlainFunction, ThreadSource}
use Rattle.txs_value_cell.specs.Cells.{World}
use Rattle.txs_value_data.specs.Places.{fault_at}
use Rattle.txs_value_cell.specs.declared.action.Action.{Action}
use Rattle.txs_value_cell.specs.declared.cell.CellDefinition.{CellDefinition}
use Rattle.txs_value_cell.specs.declared.cell.ErrorMode.TheVariants.{Fail as FailMode}
use Rattle.txs_value_data.specs.declared.fault.FaultKind.TheVariants.{DivideByZero, InvalidState, NotANumber, NotARef, OutsideOnly, SetAfterCommute, RetryLimit, AgentFailed}
use Rattle.txs_value_data.specs.declared.fault.Span.{Span}
use Rattle.txs_value_cell.specs.declared.form.LookForm.TheVariants.{Deref, Ensure}
use Rattle.txs_value_cell.specs.declared.form.PutForm.TheVariants.{RefSet, Reset}
use Rattle.txs_value_cell.specs.declared.form.UpdateForm.TheVariants.{Alter, Commute, Swap}
use Rattle.txs_value_data.specs.declared.op.Callee.{Callee}
use Rattle.txs_value_data.specs.declared.op.Callee.TheVariants.{Core as CoreOp, Function}
use Rattle.txs_value_data.specs.declared.op.Op.TheVariants.{Add, Subtract, Multiply, Inc, Quot, IsZero, IsPositive, IsNegative}
use Rattle.txs_value_data.specs.declared.value.CellId.{CellId}
use Rattle.txs_value_data.specs.declared.value.CellKind.{CellKind}
use Rattle.txs_value_data.specs.declared.value.CellKind.TheVariants.{Ref, Atom, Agent}
use Rattle.txs_value_data.specs.declared.value.Value.{Value}
use Rattle.txs_value_data.specs.declared.value.Value.TheVariants.{Nil, Truth, Int, Key, Text, Cell}

-- ---- short words

abbrev ref_of : ℕ → CellId
ref_of n = record { kind = Ref; number = n }

abbrev an_atom : CellId
an_atom = record { kind = Atom; number = 0 }

abbrev an_agent : CellId
an_agent = record { kind = Agent; number = 0 }

abbrev int : ℕ → Value
int n = Int (pos n)

abbrev at : ℕ → ℕ → Span
at a b = record { from = a; to = b }

abbrev wanted : ℕ → ℕ → Mark
wanted a b = record { span = at a b; wanted = true }

abbrev unwanted : ℕ → ℕ → Mark
unwanted a b = record { span = at a b; wanted = false }

abbrev constant : Value → Tree
constant v = Const v (wanted 0 0)

abbrev in_turn : Tree → Tree → Tree
in_turn a b = Do (more a (more b none)) (unwanted 0 0)

-- a world in which each cell has this value
abbrev all_are : ℕ → World
all_are n = λ k. int n

-- no definitions of cells, so many tries, three turns of each loop
abbrev with_tries : ℕ → Surroundings
with_tries n = record { cells = []; tries = n; turns = 3; functions = [] }

abbrev seen : EventKind → World → World → World → SeenEvent
seen e R Q C = record { book = 0; kind = e; R = R; Q = Q; C = C }

abbrev seen_of_atom : EventKind → World → World → SeenEvent
seen_of_atom e R C = record { book = 1; kind = e; R = R; Q = R; C = C }

-- a thread's end, and how many events it has not eaten
abbrev Left : Type 0
Left = Completion ℕ Value

abbrev how_many : List SeenEvent → ℕ
how_many [] = 0
how_many (e ∷ es) = suc (how_many es)

abbrev brief : Completion ThreadState Value → Left
brief (Completes v t) = Completes v (how_many t.todo)
brief (Recurs vs t) = Recurs vs (how_many t.todo)
brief (Faults f t) = Faults f (how_many t.todo)
brief (Retries t) = Retries (how_many t.todo)
brief (Waits t) = Waits (how_many t.todo)
brief (OutOfTurns t) = OutOfTurns (how_many t.todo)
brief Invalid = Invalid

abbrev run : Tree → List SeenEvent → Left
run main es = brief (thread_in (with_tries 3) main es)

-- ---- commutes

-- alter and then commute: the ref was set, so that its commute isn't applied again, whatever the ref is at the commit
abbrev alter_commute : Tree
alter_commute =
    Dosync (in_turn (Update Alter (constant (Cell (ref_of 0))) (CoreOp Add) (more (constant (int 10)) none) (unwanted 0 0)) (Update Commute (constant (Cell (ref_of 0))) (CoreOp Multiply) (more (constant (int 2)) none) (unwanted 0 0))) (unwanted 0 0)

alter_then_commute : run alter_commute (seen (Commit 0 0 ((ref_of 0, int 22) ∷ []) []) (all_are 1) (all_are 1) (all_are 5) ∷ []) ≡ Completes (int 22) 0
unfolding core
alter_then_commute = refl

commute_applied_twice : run alter_commute (seen (Commit 0 0 ((ref_of 0, int 44) ∷ []) []) (all_are 1) (all_are 1) (all_are 1) ∷ []) ≡ Invalid
unfolding core
commute_applied_twice = refl

-- commute and then alter faults at the alter, after its callee was applied
abbrev commute_alter : Callee → Tree
commute_alter c =
    Dosync (in_turn (Update Commute (constant (Cell (ref_of 0))) (CoreOp Inc) none (unwanted 0 0)) (Update Alter (constant (Cell (ref_of 0))) c (more (constant (int 0)) none) (unwanted 48 61))) (unwanted 16 62)

commute_then_alter : run (commute_alter (CoreOp Add)) (seen (Fail 0 0) (all_are 1) (all_are 1) (all_are 1) ∷ []) ≡ Faults (fault_at SetAfterCommute (at 48 61)) 0
unfolding core
commute_then_alter = refl

callee_faults_first : run (commute_alter (CoreOp Quot)) (seen (Fail 0 0) (all_are 1) (all_are 1) (all_are 1) ∷ []) ≡ Faults (fault_at DivideByZero (at 48 61)) 0
unfolding core
callee_faults_first = refl

-- a commute gives what it makes of the ref at the read point, and writes what it makes of it at the commit
abbrev one_commute : Tree
one_commute = Dosync (Update Commute (constant (Cell (ref_of 0))) (CoreOp Inc) none (unwanted 5 20)) (unwanted 0 30)

commutes_at_commit : run one_commute (seen (Commit 0 1 ((ref_of 0, int 2) ∷ []) []) (all_are 0) (all_are 1) (all_are 1) ∷ []) ≡ Completes (int 1) 0
unfolding core
commutes_at_commit = refl

commutes_too_early : run one_commute (seen (Commit 0 1 ((ref_of 0, int 1) ∷ []) []) (all_are 0) (all_are 1) (all_are 1) ∷ []) ≡ Invalid
unfolding core
commutes_too_early = refl

-- its fault at the view stands at the dosync, that in the body at the form
abbrev truths : World
truths = λ k. Truth true

commute_faults_at_view : run one_commute (seen (Fail 0 1) (all_are 0) truths truths ∷ []) ≡ Faults (fault_at NotANumber (at 0 30)) 0
unfolding core
commute_faults_at_view = refl

commute_faults_in_body : run one_commute (seen (Fail 0 0) truths (all_are 0) (all_are 0) ∷ []) ≡ Faults (fault_at NotANumber (at 5 20)) 0
unfolding core
commute_faults_in_body = refl

-- one that calls a function faults inside it
abbrev halves : PlainFunction
halves = record { parameters = 2; body = Core Quot (more (Local 0 (wanted 0 0)) (more (Local 1 (wanted 0 0)) none)) (wanted 70 80); span = at 60 90 }

commute_faults_inside : brief (thread_in (record { cells = []; tries = 3; turns = 3; functions = halves ∷ [] })
    (Dosync (Update Commute (constant (Cell (ref_of 0))) (Function 0) (more (constant (int 2)) none) (unwanted 5 20)) (unwanted 0 30)) (seen (Fail 0 1) (all_are 9) truths truths ∷ []))
    ≡ Faults (fault_at NotANumber (at 70 80)) 0
unfolding core
commute_faults_inside = refl

-- ---- final writes

-- refs that were set and refs that were commuted, by ascending number, each ref's commutes in order
abbrev commute_of : ℕ → Callee → List Value → KeptCommute
commute_of n f vs = record { cell = ref_of n; callee = f; args = vs }

abbrev several : PlainTxFrame
several = record {
  values = (ref_of 0, int 7) ∷ (ref_of 1, int 100) ∷ (ref_of 2, int 8) ∷ [];
  sets = ref_of 1 ∷ [];
  ensures = [];
  commutes = commute_of 2 (CoreOp Add) (int 5 ∷ []) ∷ commute_of 0 (CoreOp Inc) [] ∷ commute_of 1 (CoreOp Inc) [] ∷ commute_of 2 (CoreOp Multiply) (int 2 ∷ []) ∷ [];
  sends = [];
}

writes_of_several : final_writes (apply (pure_calls 3 [] 0 false) (at 0 30)) [] (at 0 30) several (all_are 10) tt ≡ Completes ((ref_of 0, int 11) ∷ (ref_of 1, int 100) ∷ (ref_of 2, int 30) ∷ []) tt
unfolding core
writes_of_several = refl

-- validators look at all that is written: what commutes made, and what was set
writes_accepted : final_writes (apply (pure_calls 3 [] 0 false) (at 0 30)) (Some (CoreOp IsPositive) ∷ None ∷ Some (CoreOp IsPositive) ∷ []) (at 0 30) several (all_are 10) tt ≡ Completes ((ref_of 0, int 11) ∷ (ref_of 1, int 100) ∷ (ref_of 2, int 30) ∷ []) tt
unfolding core
writes_accepted = refl

set_refused : final_writes (apply (pure_calls 3 [] 0 false) (at 0 30)) (None ∷ Some (CoreOp IsNegative) ∷ []) (at 0 30) several (all_are 10) tt ≡ Faults (fault_at InvalidState (at 0 30)) tt
unfolding core
set_refused = refl

commuted_refused : final_writes (apply (pure_calls 3 [] 0 false) (at 0 30)) (None ∷ None ∷ Some (CoreOp IsZero) ∷ []) (at 0 30) several (all_are 10) tt ≡ Faults (fault_at InvalidState (at 0 30)) tt
unfolding core
commuted_refused = refl

-- ---- validators of threads' cells

-- one cell of this kind, with this validator
abbrev guarded : CellKind → Callee → CellDefinition
guarded kind f = record { kind = kind; name = []; opening = int 1; error_mode = FailMode; validator = Some f }

abbrev run_guarded : CellKind → Callee → Tree → List SeenEvent → Left
run_guarded kind f main es = brief (thread_in (record { cells = guarded kind f ∷ []; tries = 3; turns = 3; functions = [] }) main es)

-- (reset! a 0), (reset! a 7) where `pos?` looks at each value: the first eats nothing, the second its event
abbrev resets_to : ℕ → Tree
resets_to n = Put Reset (constant (Cell an_atom)) (constant (int n)) (wanted 3 9)

refused_reset_eats_nothing : run_guarded Atom (CoreOp IsPositive) (resets_to 0) (seen_of_atom (Swapped (int 7)) (all_are 5) (all_are 5) ∷ []) ≡ Faults (fault_at InvalidState (at 3 9)) 1
unfolding core
refused_reset_eats_nothing = refl

accepted_reset : run_guarded Atom (CoreOp IsPositive) (resets_to 7) (seen_of_atom (Swapped (int 7)) (all_are 5) (all_are 5) ∷ []) ≡ Completes (int 7) 0
unfolding core
accepted_reset = refl

-- (swap! a - 9): what the callee gives is looked at, so that a refused one is broken
abbrev swaps_down : Tree
swaps_down = Update Swap (constant (Cell an_atom)) (CoreOp Subtract) (more (constant (int 9)) none) (wanted 3 8)

refused_swap : run_guarded Atom (CoreOp IsPositive) swaps_down (seen_of_atom (Broke 0) (all_are 0) (all_are 4) ∷ []) ≡ Faults (fault_at InvalidState (at 3 8)) 0
unfolding core
refused_swap = refl

refused_swap_is_no_swap : run_guarded Atom (CoreOp IsPositive) swaps_down (seen_of_atom (Swapped (Int (negsuc 4))) (all_are 0) (all_are 4) ∷ []) ≡ Invalid
unfolding core
refused_swap_is_no_swap = refl

-- (dosync (ref-set r 0) (ref-set r 7)): only what is written at last is looked at
abbrev sets_twice : ℕ → ℕ → Tree
sets_twice a b = Dosync (in_turn (Put RefSet (constant (Cell (ref_of 0))) (constant (int a)) (unwanted 4 8)) (Put RefSet (constant (Cell (ref_of 0))) (constant (int b)) (wanted 9 12))) (unwanted 0 30)

set_past_validator : run_guarded Ref (CoreOp IsPositive) (sets_twice 0 7) (seen (Commit 0 0 ((ref_of 0, int 7) ∷ []) []) (all_are 1) (all_are 1) (all_are 1) ∷ []) ≡ Completes (int 7) 0
unfolding core
set_past_validator = refl

last_set_refused : run_guarded Ref (CoreOp IsPositive) (sets_twice 7 0) (seen (Fail 0 0) (all_are 1) (all_are 1) (all_are 1) ∷ []) ≡ Faults (fault_at InvalidState (at 0 30)) 0
unfolding core
last_set_refused = refl

refused_set_commits_nothing : run_guarded Ref (CoreOp IsPositive) (sets_twice 7 0) (seen (Commit 0 0 ((ref_of 0, int 0) ∷ []) []) (all_are 1) (all_are 1) (all_are 1) ∷ []) ≡ Invalid
unfolding core
refused_set_commits_nothing = refl

-- a validator that faults does so at the dosync, with its own fault
validator_faults : run_guarded Ref (CoreOp IsPositive) (Dosync (Put RefSet (constant (Cell (ref_of 0))) (constant Nil) (unwanted 4 8)) (unwanted 0 30)) (seen (Fail 0 0) (all_are 1) (all_are 1) (all_are 1) ∷ []) ≡ Faults (fault_at NotANumber (at 0 30)) 0
unfolding core
validator_faults = refl

-- what the commutes make of the viewed value is looked at, and not what the body saw
commute_refused_at_view : run_guarded Ref (CoreOp IsPositive) one_commute (seen (Fail 0 1) (all_are 1) (λ k. Int (negsuc 4)) (all_are 1) ∷ []) ≡ Faults (fault_at InvalidState (at 0 30)) 0
unfolding core
commute_refused_at_view = refl

-- ---- reads and uses

-- a ref joins the reads once, one that was set does not; ensured refs are kept
abbrev reads_twice : Tree
reads_twice =
    in_turn (in_turn (Look Deref (constant (Cell (ref_of 0))) (unwanted 0 0)) (Look Ensure (constant (Cell (ref_of 0))) (unwanted 0 0)))
    (in_turn (Put RefSet (constant (Cell (ref_of 1))) (constant (int 5)) (unwanted 0 0)) (Look Deref (constant (Cell (ref_of 1))) (unwanted 0 0)))

reads_once : tx_meaning 3 [] 0 reads_twice [] (all_are 1)
    ≡ Completes (int 5) (record { done = record { values = (ref_of 1, int 5) ∷ []; sets = ref_of 1 ∷ []; ensures = ref_of 0 ∷ []; commutes = []; sends = [] }; reads = ref_of 0 ∷ []; used = false })
reads_once = refl

-- alter reads the ref and sets it
alter_reads : tx_meaning 3 [] 0 (Update Alter (constant (Cell (ref_of 0))) (CoreOp Inc) none (unwanted 0 0)) [] (all_are 1)
    ≡ Completes (int 2) (record { done = record { values = (ref_of 0, int 2) ∷ []; sets = ref_of 0 ∷ []; ensures = []; commutes = []; sends = [] }; reads = ref_of 0 ∷ []; used = false })
unfolding core
alter_reads = refl

abbrev commuted_once : PlainTxFrame
commuted_once = record { values = (ref_of 0, int 2) ∷ []; sets = []; ensures = []; commutes = commute_of 0 (CoreOp Inc) [] ∷ []; sends = [] }

abbrev increment : Mark → Tree
increment m = Update Commute (constant (Cell (ref_of 0))) (CoreOp Inc) none m

-- a commuted ref doesn't join the reads; its result is used where it is wanted, or where the ref is read after it
not_used : tx_meaning 3 [] 0 (increment (unwanted 0 0)) [] (all_are 1) ≡ Completes (int 2) (record { done = commuted_once; reads = []; used = false })
unfolding core
not_used = refl

used_where_wanted : tx_meaning 3 [] 0 (increment (wanted 0 0)) [] (all_are 1) ≡ Completes (int 2) (record { done = commuted_once; reads = []; used = true })
unfolding core
used_where_wanted = refl

used_where_read : tx_meaning 3 [] 0 (in_turn (increment (unwanted 0 0)) (Look Deref (constant (Cell (ref_of 0))) (unwanted 0 0))) [] (all_are 1)
    ≡ Completes (int 2) (record { done = commuted_once; reads = []; used = true })
unfolding core
used_where_read = refl

-- ---- sends

abbrev one_send : Tree
one_send = Send (constant (Cell an_agent)) (CoreOp Inc) none (unwanted 4 9)

sent : run one_send (seen (Sent (record { agent = an_agent; callee = CoreOp Inc; args = []; span = at 4 9 })) (all_are 0) (all_are 0) (all_are 0) ∷ []) ≡ Completes (Cell an_agent) 0
sent = refl

send_refused : run one_send (seen (SendRefused an_agent) (all_are 0) (all_are 0) (all_are 0) ∷ []) ≡ Faults (fault_at AgentFailed (at 4 9)) 0
send_refused = refl

-- a transaction that holds a send to an agent that has failed is refused as a whole
abbrev held_send : Tree
held_send = Dosync (in_turn (Update Alter (constant (Cell (ref_of 1))) (CoreOp Inc) none (unwanted 0 1)) one_send) (unwanted 67 102)

refused : run held_send (seen (Refused 1 1 an_agent) (all_are 0) (all_are 0) (all_are 0) ∷ []) ≡ Faults (fault_at AgentFailed (at 67 102)) 0
unfolding core
refused = refl

-- a commit has the sends of its own try alone
kept_send : run one_commute (seen (Commit 1 1 ((ref_of 0, int 1) ∷ []) (record { agent = an_agent; callee = CoreOp Inc; args = []; span = at 4 9 } ∷ [])) (all_are 0) (all_are 0) (all_are 0) ∷ []) ≡ Invalid
unfolding core
kept_send = refl

-- ---- atoms

-- a swap is of the atom's own book, on its value at the swap's place
abbrev one_swap : Callee → Tree
one_swap c = Update Swap (constant (Cell an_atom)) c (more (constant (int 0)) none) (wanted 3 8)

swapped : run (one_swap (CoreOp Add)) (seen_of_atom (Swapped (int 4)) (all_are 0) (all_are 4) ∷ []) ≡ Completes (int 4) 0
unfolding core
swapped = refl

swap_of_older : run (one_swap (CoreOp Add)) (seen_of_atom (Swapped (int 0)) (all_are 0) (all_are 4) ∷ []) ≡ Invalid
unfolding core
swap_of_older = refl

swap_of_another_book : run (one_swap (CoreOp Add)) (seen (Swapped (int 4)) (all_are 4) (all_are 4) (all_are 4) ∷ []) ≡ Invalid
swap_of_another_book = refl

broke : run (one_swap (CoreOp Quot)) (seen_of_atom (Broke 0) (all_are 0) (all_are 4) ∷ []) ≡ Faults (fault_at DivideByZero (at 3 8)) 0
unfolding core
broke = refl

one_reset : run (Put Reset (constant (Cell an_atom)) (constant (int 7)) (wanted 0 0)) (seen_of_atom (Swapped (int 7)) (all_are 5) (all_are 5) ∷ []) ≡ Completes (int 7) 0
one_reset = refl

-- an atom in a transaction is not read, and no form for refs takes it
atom_read_inside : run (Dosync (Look Deref (constant (Cell an_atom)) (wanted 29 31)) (unwanted 0 0)) (seen (Fail 0 0) (all_are 0) (all_are 0) (all_are 0) ∷ []) ≡ Faults (fault_at OutsideOnly (at 29 31)) 0
atom_read_inside = refl

atom_altered : run (Dosync (Update Alter (constant (Cell an_atom)) (CoreOp Inc) none (wanted 3 4)) (unwanted 0 0)) (seen (Fail 0 0) (all_are 0) (all_are 0) (all_are 0) ∷ []) ≡ Faults (fault_at NotARef (at 3 4)) 0
atom_altered = refl

-- ---- tries

abbrev retry : Cause → SeenEvent
retry why = seen (Retry 0 (ref_of 0) why) (all_are 0) (all_are 0) (all_are 0)

-- with three tries the third retry is the last event, and one of the commutes alone counts too
limit_reached : run one_commute (retry Outdated ∷ retry (Commuted 0) ∷ retry Outdated ∷ []) ≡ Faults (fault_at RetryLimit (at 0 30)) 0
unfolding core
limit_reached = refl

limit_spared : run one_commute (retry Outdated ∷ retry (Commuted 0) ∷ seen (Commit 0 1 ((ref_of 0, int 1) ∷ []) []) (all_are 0) (all_are 0) (all_are 0) ∷ []) ≡ Completes (int 1) 0
unfolding core
limit_spared = refl

waits_for_its_end : run one_commute (retry Outdated ∷ []) ≡ Waits 0
unfolding core
waits_for_its_end = refl

-- a ref is outdated where the body comes to look at it, whatever comes after that; what it set, it has itself
read_as_outdated : run (Dosync (Look Deref (constant (Cell (ref_of 0))) (unwanted 0 0)) (unwanted 0 0)) (retry Outdated ∷ []) ≡ Waits 0
read_as_outdated = refl

alter_as_outdated : run alter_commute (retry Outdated ∷ []) ≡ Waits 0
unfolding core
alter_as_outdated = refl

faulted_as_outdated : run (commute_alter (CoreOp Quot)) (retry Outdated ∷ []) ≡ Waits 0
unfolding core
faulted_as_outdated = refl

other_as_outdated : run one_commute (seen (Retry 0 (ref_of 1) Outdated) (all_are 0) (all_are 0) (all_are 0) ∷ []) ≡ Invalid
unfolding core
other_as_outdated = refl

own_as_outdated : run (Dosync (in_turn (Put RefSet (constant (Cell (ref_of 0))) (constant (int 5)) (unwanted 0 0)) (Look Deref (constant (Cell (ref_of 0))) (unwanted 0 0))) (unwanted 0 0)) (retry Outdated ∷ []) ≡ Invalid
own_as_outdated = refl

-- a commute is no cause to run the body again, and what was set none to redo the commutes; the ref is the try's own
commute_as_held : run one_commute (retry Held ∷ []) ≡ Invalid
unfolding core
commute_as_held = refl

set_as_commuted : run alter_commute (retry (Commuted 0) ∷ []) ≡ Invalid
unfolding core
set_as_commuted = refl

set_as_held : run alter_commute (retry Held ∷ []) ≡ Waits 0
unfolding core
set_as_held = refl

other_as_commuted : run one_commute (seen (Retry 0 (ref_of 1) (Commuted 0)) (all_are 0) (all_are 0) (all_are 0) ∷ []) ≡ Invalid
unfolding core
other_as_commuted = refl

ensured_as_held : run (Dosync (Look Ensure (constant (Cell (ref_of 0))) (unwanted 0 0)) (unwanted 0 0)) (retry Held ∷ []) ≡ Waits 0
ensured_as_held = refl

read_as_held : run (Dosync (Look Deref (constant (Cell (ref_of 0))) (unwanted 0 0)) (unwanted 0 0)) (retry Held ∷ []) ≡ Invalid
read_as_held = refl

-- a body that faults comes to no end that a retry could be of
faulted_as_held : run (commute_alter (CoreOp Quot)) (retry Held ∷ []) ≡ Invalid
unfolding core
faulted_as_held = refl

-- a thread waits behind the retries that it allows
one_retry_is_right : right_events (λ es. thread_in (with_tries 3) one_commute es) [] (retry Outdated ∷ retry Held ∷ retry Outdated ∷ []) ≡ 1
unfolding core
one_retry_is_right = refl

behind_them : behind_retries 3 (record { mark = unwanted 0 30; body = one_commute; locals = []; on = λ R. Completes Nil tx_start; lacking = λ k R. Waits tx_start; validators = [] }) (retry Outdated ∷ retry Held ∷ retry Outdated ∷ []) ≡ retry Held ∷ retry Outdated ∷ []
behind_them = refl

-- ---- turns

-- with so many turns of each loop
abbrev with_turns : ℕ → List PlainFunction → Surroundings
with_turns n fs = record { cells = []; tries = 3; turns = n; functions = fs }

-- `(dosync @r (ref-set r (loop [] 1)))` on a commit that gives the ref 5: where the loop has no turn, the commit stays to come; where it has
-- one, it isn't allowed
abbrev sets_by_loop : Tree
sets_by_loop =
    Dosync (in_turn (Look Deref (constant (Cell (ref_of 0))) (unwanted 0 0)) (Put RefSet (constant (Cell (ref_of 0))) (Loop none (constant (int 1)) (wanted 0 0)) (unwanted 0 0))) (unwanted 0 0)

abbrev commit_of : ℕ → SeenEvent
commit_of n = seen (Commit 0 0 ((ref_of 0, int n) ∷ []) []) (all_are 0) (all_are 0) (all_are 0)

commit_stays_to_come : brief (thread_in (with_turns 0 []) sets_by_loop (retry Outdated ∷ commit_of 5 ∷ [])) ≡ OutOfTurns 1
commit_stays_to_come = refl

commit_is_read : brief (thread_in (with_turns 1 []) sets_by_loop (retry Outdated ∷ commit_of 5 ∷ [])) ≡ Invalid
commit_is_read = refl

commit_is_right : brief (thread_in (with_turns 1 []) sets_by_loop (retry Outdated ∷ commit_of 1 ∷ [])) ≡ Completes (int 1) 0
commit_is_right = refl

-- a retry of that try stays to come too, and is not asked for more than turns
retry_stays_to_come : brief (thread_in (with_turns 0 []) sets_by_loop (retry Outdated ∷ retry Held ∷ commit_of 5 ∷ [])) ≡ OutOfTurns 2
retry_stays_to_come = refl

retry_is_right : brief (thread_in (with_turns 1 []) sets_by_loop (retry Outdated ∷ retry Held ∷ commit_of 1 ∷ [])) ≡ Completes (int 1) 0
retry_is_right = refl

-- so does one that comes where a body looks at the ref behind a loop
abbrev looks_behind_loop : Tree
looks_behind_loop = Dosync (in_turn (Loop none (constant (int 1)) (unwanted 0 0)) (Look Deref (constant (Cell (ref_of 0))) (unwanted 0 0))) (unwanted 0 0)

outdated_stays_to_come : brief (thread_in (with_turns 0 []) looks_behind_loop (retry Outdated ∷ [])) ≡ OutOfTurns 1
outdated_stays_to_come = refl

outdated_is_right : brief (thread_in (with_turns 1 []) looks_behind_loop (retry Outdated ∷ [])) ≡ Waits 0
outdated_is_right = refl

-- a swap by a function that has no turn for its loop
abbrev gives_one_by_loop : PlainFunction
gives_one_by_loop = record { parameters = 1; body = Loop none (constant (int 1)) (wanted 0 0); span = at 0 0 }

abbrev swaps_by_loop : Tree
swaps_by_loop = Update Swap (constant (Cell an_atom)) (Function 0) none (unwanted 0 0)

swap_stays_to_come : brief (thread_in (with_turns 0 (gives_one_by_loop ∷ [])) swaps_by_loop (seen_of_atom (Swapped (int 5)) (all_are 0) (all_are 0) ∷ [])) ≡ OutOfTurns 1
swap_stays_to_come = refl

swap_is_read : brief (thread_in (with_turns 1 (gives_one_by_loop ∷ [])) swaps_by_loop (seen_of_atom (Swapped (int 5)) (all_are 0) (all_are 0) ∷ [])) ≡ Invalid
swap_is_read = refl

-- a call is no turn, each recur to a function is one
abbrev gives_seven : PlainFunction
gives_seven = record { parameters = 0; body = constant (int 7); span = at 0 0 }

called_without_turns : pure_meaning 0 (gives_seven ∷ []) (Function 0) [] ≡ Completes (int 7) tt
called_without_turns = refl

abbrev recurs_forever : PlainFunction
recurs_forever = record { parameters = 0; body = Recur none (wanted 0 0); span = at 0 0 }

recurs_are_turns : pure_meaning 2 (recurs_forever ∷ []) (Function 0) [] ≡ OutOfTurns tt
recurs_are_turns = refl

-- a read outside takes the value at its own place, of its own cell
one_read : run (Look Deref (constant (Cell (ref_of 0))) (wanted 0 0)) (seen (Read (ref_of 0)) (all_are 1) (all_are 1) (all_are 2) ∷ retry Outdated ∷ []) ≡ Completes (int 2) 1
one_read = refl

read_of_another : run (Look Deref (constant (Cell (ref_of 0))) (wanted 0 0)) (seen (Read (ref_of 1)) (all_are 1) (all_are 1) (all_are 2) ∷ []) ≡ Invalid
read_of_another = refl

-- ---- what is waited for

-- which book's event a thread waits for
abbrev waits_for : Completion ThreadState Value → Option ℕ
waits_for (Completes v t) = t.asks
waits_for (Recurs vs t) = t.asks
waits_for (Faults f t) = t.asks
waits_for (Retries t) = t.asks
waits_for (Waits t) = t.asks
waits_for (OutOfTurns t) = t.asks
waits_for Invalid = None

waits_for_a_commit : waits_for (thread_in (with_tries 3) one_commute (retry Outdated ∷ [])) ≡ Some 0
waits_for_a_commit = refl

abbrev sends_and_resets : Tree
sends_and_resets = in_turn one_send (Put Reset (constant (Cell an_atom)) (constant (int 7)) (wanted 0 0))

waits_for_a_send : waits_for (thread_in (with_tries 3) sends_and_resets []) ≡ Some 0
waits_for_a_send = refl

waits_for_a_swap : waits_for (thread_in (with_tries 3) sends_and_resets (seen (Sent (record { agent = an_agent; callee = CoreOp Inc; args = []; span = at 4 9 })) (all_are 0) (all_are 0) (all_are 0) ∷ [])) ≡ Some 1
waits_for_a_swap = refl

waits_for_none : waits_for (thread_in (with_tries 3) one_send (seen (Sent (record { agent = an_agent; callee = CoreOp Inc; args = []; span = at 4 9 })) (all_are 0) (all_are 0) (all_are 0) ∷ [])) ≡ None
waits_for_none = refl

-- ---- whole scripts

-- (def c (ref 0)) and two futures (future (dosync (commute c inc))): both views come before a commit, or the later one is redone
abbrev commutes_once : Tree
commutes_once = Dosync (Update Commute (constant (Cell (ref_of 0))) (CoreOp Inc) none (wanted 32 47)) (wanted 24 48)

first_of_two_commutes : run commutes_once (seen (Commit 0 0 ((ref_of 0, int 1) ∷ []) []) (all_are 0) (all_are 0) (all_are 0) ∷ []) ≡ Completes (int 1) 0
unfolding core
first_of_two_commutes = refl

second_of_two_commutes : run commutes_once (seen (Commit 0 1 ((ref_of 0, int 2) ∷ []) []) (all_are 0) (all_are 1) (all_are 1) ∷ []) ≡ Completes (int 1) 0
unfolding core
second_of_two_commutes = refl

second_of_two_commutes_redone : run commutes_once (seen (Retry 0 (ref_of 0) (Commuted 0)) (all_are 0) (all_are 0) (all_are 1) ∷ seen (Commit 0 2 ((ref_of 0, int 2) ∷ []) []) (all_are 0) (all_are 1) (all_are 1) ∷ []) ≡ Completes (int 1) 0
unfolding core
second_of_two_commutes_redone = refl

-- (def g (agent 10)) (future (send g quot 0) (send g inc)): two sends, and what the agent makes of them
abbrev sends_quot : Action
sends_quot = record { agent = an_agent; callee = CoreOp Quot; args = int 0 ∷ []; span = at 27 42 }

abbrev sends_inc : Action
sends_inc = record { agent = an_agent; callee = CoreOp Inc; args = []; span = at 43 55 }

abbrev two_sends : Tree
two_sends =
    Do (more (Send (constant (Cell an_agent)) (CoreOp Quot) (more (constant (int 0)) none) (unwanted 27 42)) (more (Send (constant (Cell an_agent)) (CoreOp Inc) none (wanted 43 55)) none)) (wanted 19 56)

both_sent : run two_sends (seen (Sent sends_quot) (all_are 0) (all_are 0) (all_are 0) ∷ seen (Sent sends_inc) (all_are 0) (all_are 0) (all_are 0) ∷ []) ≡ Completes (Cell an_agent) 0
both_sent = refl

second_send_refused : run two_sends (seen (Sent sends_quot) (all_are 0) (all_are 0) (all_are 0) ∷ seen (SendRefused an_agent) (all_are 0) (all_are 0) (all_are 0) ∷ []) ≡ Faults (fault_at AgentFailed (at 43 55)) 0
second_send_refused = refl

-- an event that the thread doesn't allow, how many come before it, and what the thread means on those
abbrev sent_twice : List SeenEvent
sent_twice = seen (Sent sends_quot) (all_are 0) (all_are 0) (all_are 0) ∷ seen (Sent sends_quot) (all_are 0) (all_are 0) (all_are 0) ∷ seen (Sent sends_inc) (all_are 0) (all_are 0) (all_are 0) ∷ []

abbrev sends_both : ThreadSource
sends_both = record { functions = []; cells = []; main = two_sends }

second_is_wrong : brief (thread_meaning sends_both 3 sent_twice) ≡ Invalid
second_is_wrong = refl

one_is_right : eats_right sends_both 3 [] sent_twice ≡ 1
one_is_right = refl

waits_behind_it : brief (right_meaning sends_both 3 sent_twice) ≡ Waits 0
waits_behind_it = refl

first_action_faults : pure_meaning 3 [] (CoreOp Quot) (int 10 ∷ int 0 ∷ []) ≡ Faults (fault_at DivideByZero nowhere) tt
unfolding core
first_action_faults = refl

second_action_gives : pure_meaning 3 [] (CoreOp Inc) (int 10 ∷ []) ≡ Completes (int 11) tt
unfolding core
second_action_gives = refl

-- (future (dosync (println 1))) and (future (alter r inc)) are not sound
prints_inside : SoundTree [] in_thread 0 None (Dosync (Println (more (constant (int 1)) none) (wanted 16 27)) (wanted 8 28)) → ⊥
prints_inside h = h.0

alters_outside : SoundTree [] in_thread 0 None (Update Alter (constant (Cell (ref_of 0))) (CoreOp Inc) none (wanted 24 37)) → ⊥
alters_outside h = h.0

-- (def a (atom 0)) (defn f [x] @x) (future (dosync (f a))): the fault stands inside the function
abbrev reads_its_argument : PlainFunction
reads_its_argument = record { parameters = 1; body = Look Deref (Local 0 (wanted 30 31)) (wanted 29 31); span = at 17 32 }

atom_read_in_function : brief (thread_in (record { cells = []; tries = 3; turns = 3; functions = reads_its_argument ∷ [] })
    (Dosync (Call 0 (more (constant (Cell an_atom)) none) (wanted 49 54)) (wanted 41 55)) (seen (Fail 0 0) (all_are 0) (all_are 0) (all_are 0) ∷ []))
    ≡ Faults (fault_at OutsideOnly (at 29 31)) 0
atom_read_in_function = refl

-- (def a (atom 1)) (future (println (swap! a + 1 2)) (println @a)) prints 4 and 4
abbrev printed_by : Completion ThreadState Value → List ℕ
printed_by (Completes v t) = t.printed
printed_by (Recurs vs t) = t.printed
printed_by (Faults f t) = t.printed
printed_by (Retries t) = t.printed
printed_by (Waits t) = t.printed
printed_by (OutOfTurns t) = t.printed
printed_by Invalid = []

abbrev swaps_and_reads : Tree
swaps_and_reads =
    in_turn (Println (more (Update Swap (constant (Cell an_atom)) (CoreOp Add) (more (constant (int 1)) (more (constant (int 2)) none)) (wanted 0 0)) none) (unwanted 0 0))
    (Println (more (Look Deref (constant (Cell an_atom)) (wanted 0 0)) none) (unwanted 0 0))

swapped_and_read : printed_by (thread_in (with_tries 3) swaps_and_reads (seen_of_atom (Swapped (int 4)) (all_are 1) (all_are 1) ∷ seen_of_atom (Read an_atom) (all_are 4) (all_are 4) ∷ [])) ≡ 52 ∷ 10 ∷ 52 ∷ 10 ∷ []
unfolding core digits
swapped_and_read = refl

-- (future (println [1 "a" :b nil] "x")) prints [1 a :b nil] x
abbrev prints_values : Tree
prints_values = Println (more (VectorOf (more (constant (int 1)) (more (constant (Text (97 ∷ []))) (more (constant (Key (98 ∷ []))) (more (constant Nil) none)))) (wanted 0 0)) (more (constant (Text (120 ∷ []))) none)) (unwanted 0 0)

values_printed : printed_by (thread_in (with_tries 3) prints_values []) ≡ 91 ∷ 49 ∷ 32 ∷ 97 ∷ 32 ∷ 58 ∷ 98 ∷ 32 ∷ 110 ∷ 105 ∷ 108 ∷ 93 ∷ 32 ∷ 120 ∷ 10 ∷ []
unfolding digits
values_printed = refl

-- (def r (ref 0)) (future (dosync (alter r inc))) beside a thread that commits each time between: as many retries as tries
abbrev alters_once : Tree
alters_once = Dosync (Update Alter (constant (Cell (ref_of 0))) (CoreOp Inc) none (wanted 32 45)) (wanted 24 46)

always_written_between : run alters_once (retry Held ∷ retry Held ∷ retry Held ∷ []) ≡ Faults (fault_at RetryLimit (at 24 46)) 0
unfolding core
always_written_between = refl

written_between_twice : run alters_once (retry Held ∷ retry Held ∷ seen (Commit 2 2 ((ref_of 0, int 3) ∷ []) []) (all_are 2) (all_are 2) (all_are 2) ∷ []) ≡ Completes (int 3) 0
unfolding core
written_between_twice = refl

-- ---- actions

-- what an action holds that came to a value
abbrev held_at : Completion ThreadState Value → Option (List Action)
held_at (Completes v t) = t.held
held_at (Recurs vs t) = None
held_at (Faults f t) = None
held_at (Retries t) = None
held_at (Waits t) = None
held_at (OutOfTurns t) = None
held_at Invalid = None

-- the send of an increment, as an action of its own
abbrev an_increment : Action
an_increment = record { agent = an_agent; callee = CoreOp Inc; args = []; span = at 4 9 }

-- (defn f [s] ..) with this body, sent to an agent whose state is 0
abbrev acts : Tree → List SeenEvent → Completion ThreadState Value
acts body es =
    action_in (record { cells = []; tries = 3; turns = 3; functions = record { parameters = 1; body = body; span = at 0 0 } ∷ [] }) (Function 0) (at 0 0) (int 0 ∷ []) es

-- a send outside transactions eats no event, and is held
send_held : held_at (acts one_send []) ≡ Some (an_increment ∷ [])
send_held = refl

-- a commit has none of the sends, which the action holds
abbrev commits : List Action → SeenEvent
commits sends = seen (Commit 1 1 ((ref_of 1, int 1) ∷ []) sends) (all_are 0) (all_are 0) (all_are 0)

commit_holds : held_at (acts held_send (commits [] ∷ [])) ≡ Some (an_increment ∷ [])
unfolding core
commit_holds = refl

commit_sends_nothing : brief (acts held_send (commits (an_increment ∷ []) ∷ [])) ≡ Invalid
unfolding core
commit_sends_nothing = refl

-- those of a try that ran again are dropped
tried_again : held_at (acts held_send (seen (Retry 0 (ref_of 1) Held) (all_are 0) (all_are 0) (all_are 0) ∷ commits [] ∷ [])) ≡ Some (an_increment ∷ [])
unfolding core
tried_again = refl

-- a fault stands at its form, as a thread's does
faults_behind_a_send : brief (acts (in_turn one_send (Core Quot (more (Local 0 (wanted 0 0)) (more (constant (int 0)) none)) (wanted 10 20))) []) ≡ Faults (fault_at DivideByZero (at 10 20)) 0
unfolding core
faults_behind_a_send = refl
