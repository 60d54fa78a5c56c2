-- Reports of small programs, and what an audit answers of them.
use Rattle.std.specs.Prelude.{◌≡◌, ℕ, suc, true, false, List, [], ◌∷◌, Option, Some, None, Result, Ok, Err}
use Rattle.txs_value_data.specs.declared.fault.Fault.{Fault}
use Rattle.txs_value_data.specs.declared.fault.FaultKind.TheVariants.{InvalidState, NotANumber}
use Rattle.txs_value_data.specs.declared.op.Op.{Op}
use Rattle.txs_value_data.specs.declared.op.Op.TheVariants.{Add, Multiply, Inc, Dec, Equal, IsPositive, Less}
use Rattle.txs_value_data.specs.declared.value.Value.{Value}
use Rattle.txs_value_data.specs.declared.value.Value.TheVariants.{Int, Nil, Cell}
use Rattle.txs_tree_meaning.specs.Tree.{Mark, Tree, Const, Local, If, Do, Loop, Recur, Core, Dosync, Look, Put, Update, Println, Send as SendTo, none, more, PlainProgram, PlainThread}
use Rattle.txs_world_protocol.specs.declared.event.Outcome.{Outcome}
use Rattle.txs_world_protocol.specs.declared.event.Outcome.TheVariants.{Done, Failed, StepsSpent, JournalFull}
use Rattle.std.specs.Prelude.{pos}
use Rattle.txs_world_protocol.specs.declared.event.Cause.TheVariants.{Held}
use Rattle.txs_world_protocol.specs.declared.event.Event.{Event}
use Rattle.txs_world_protocol.specs.declared.event.EventKind.TheVariants.{Act, Read, Commit, Retry, Fail as FailEvent, Send as Sent, Swap}
use Rattle.txs_value_cell.specs.declared.cell.ErrorMode.TheVariants.{Fail}
use Rattle.txs_value_cell.specs.declared.form.UpdateForm.TheVariants.{Alter, Commute, Swap as SwapForm}
use Rattle.txs_value_cell.specs.declared.form.PutForm.TheVariants.{Reset}
use Rattle.txs_value_cell.specs.declared.form.LookForm.{LookForm}
use Rattle.txs_value_cell.specs.declared.form.LookForm.TheVariants.{Deref, Ensure}
use Rattle.txs_value_cell.specs.declared.cell.CellDefinition.{CellDefinition}
use Rattle.txs_world_protocol.specs.Ask.{Writes}
use Rattle.txs_theorem_runs.specs.Told.{Place}
use Rattle.txs_value_data.specs.declared.op.Callee.TheVariants.{Core as CoreOp}
use Rattle.txs_value_data.specs.declared.value.CellId.{CellId}
use Rattle.txs_value_data.specs.declared.value.CellKind.{CellKind}
use Rattle.txs_value_data.specs.declared.value.CellKind.TheVariants.{Agent, Atom, Ref}
use Rattle.txs_value_cell.specs.declared.action.Action.{Action}
use Rattle.txs_theorem_audit.specs.Audited.{PlainActorReport, PlainReport, PlainTerms, Agrees, Differs, Undecided}
use Rattle.txs_theorem_audit.specs.Verdict.{verdict}

-- marks of no span
abbrev pub here : Mark
here = record { span = record { from = 0; to = 0 }; wanted = true }

-- a run that was to go on up to its end, with at most 1000 steps for each actor
abbrev pub finishing : PlainTerms
finishing = record { finishes = true; limit = 1000 }

-- `(future (loop [i 0] (if (< i 3) (recur (inc i)) nil)))`
abbrev pub counts_to_three : PlainProgram
counts_to_three = record {
  functions = [];
  cells = [];
  validator_spans = [];
  threads = record {
    body = Loop (more (Const (Int (pos 0)) here) none) (If (Core Less (more (Local 0 here) (more (Const (Int (pos 3)) here) none)) here) (Recur (more (Core Inc (more (Local 0 here) none) here) none) here) (Const Nil here) here) here;
    span = record { from = 0; to = 0 };
  } ∷ [];
}

-- its report, where the thread ended so, if it has, and made so many steps
abbrev pub counted_so : Option Outcome → ℕ → PlainReport
counted_so o k = record { threads = record { outcome = o; steps = k; printed = []; trace = [] } ∷ []; agents = []; book = []; atom_books = []; cells = []; failed = [] }

-- where it has done all
abbrev pub counted : PlainReport
counted = counted_so (Some Done) 40

-- a report without entries
abbrev pub nothing : PlainReport
nothing = record { threads = []; agents = []; book = []; atom_books = []; cells = []; failed = [] }

-- with too few turns it isn't known, with more it agrees, and a report without the thread differs
abbrev pub CountsAreAnswered : Type 0
CountsAreAnswered = (verdict counts_to_three finishing counted 2 ≡ Undecided 0 0) × (verdict counts_to_three finishing counted 100 ≡ Agrees true) × (verdict counts_to_three finishing nothing 100 ≡ Differs 0 0)

-- ---- one ref that two transactions count

-- marks of no span, of a result that isn't wanted
abbrev there : Mark
there = record { span = record { from = 0; to = 0 }; wanted = false }

-- the ref with the number 0
abbrev a_ref : CellId
a_ref = record { kind = Ref; number = 0 }

-- `(future (dosync (alter r inc)))`
abbrev counting : PlainThread
counting = record { body = Dosync (Update Alter (Const (Cell a_ref) here) (CoreOp Inc) none there) there; span = record { from = 0; to = 0 } }

-- `(def r (ref 0))` and two such threads
abbrev pub counted_by_two : PlainProgram
counted_by_two = record { functions = []; cells = record { kind = Ref; name = []; opening = Int (pos 0); error_mode = Fail; validator = None } ∷ []; validator_spans = here.span ∷ []; threads = counting ∷ counting ∷ [] }

-- a commit of this actor that began at an index and gave the ref this value
abbrev wrote : ℕ → ℕ → ℕ → Event
wrote a at v = record { actor = a; kind = Commit at at ((a_ref, Int (pos v)) ∷ []) [] }

-- a thread that is done, with these entries of its trace
abbrev pub ended : List Place → PlainActorReport
ended ps = record { outcome = Some Done; steps = 9; printed = []; trace = ps }

-- the report of both, with these events and this last value
abbrev pub report_of_two : List Event → ℕ → PlainReport
report_of_two es v = record {
  threads = ended (record { book = 0; at = 0 } ∷ []) ∷ ended (record { book = 0; at = 1 } ∷ []) ∷ [];
  agents = [];
  book = es;
  atom_books = [];
  cells = Int (pos v) ∷ [];
  failed = [];
}

-- What both counted is serial. A write that was changed, in book and cells, differs at its event; so does the second one, if it read
-- before the first was written (the lost update); and a last value that no event gave differs behind all events.
abbrev pub TwoAreAnswered : Type 0
TwoAreAnswered =
    (verdict counted_by_two finishing (report_of_two (wrote 0 0 1 ∷ wrote 1 1 2 ∷ []) 2) 9 ≡ Agrees true)
    × (verdict counted_by_two finishing (report_of_two (wrote 0 0 1 ∷ wrote 1 1 3 ∷ []) 3) 9 ≡ Differs 1 0)
    × (verdict counted_by_two finishing (report_of_two (wrote 0 0 1 ∷ wrote 1 0 1 ∷ []) 1) 9 ≡ Differs 1 0)
    × (verdict counted_by_two finishing (report_of_two (wrote 0 0 1 ∷ wrote 1 1 2 ∷ []) 5) 9 ≡ Differs 0 1)

-- ---- two refs of which each thread reads both and writes one

-- the ref with this number
abbrev pub ref_of : ℕ → CellId
ref_of n = record { kind = Ref; number = n }

-- a ref that opens with this number
abbrev opens_with : ℕ → CellDefinition
opens_with v = record { kind = Ref; name = []; opening = Int (pos v); error_mode = Fail; validator = None }

-- `(future (dosync (when (= 2 (+ @a @b)) (alter r dec))))`, or with `ensure` in the place of `deref`, for r the ref with this number
abbrev pub takes_one : LookForm → ℕ → PlainThread
takes_one form n = record {
  body = Dosync
      (If (Core Equal (more (Const (Int (pos 2)) here) (more (Core Add (more (Look form (Const (Cell (ref_of 0)) here) here) (more (Look form (Const (Cell (ref_of 1)) here) here) none)) here) none)) here)
      (Update Alter (Const (Cell (ref_of n)) here) (CoreOp Dec) none there) (Const Nil there) there) there;
  span = record { from = 0; to = 0 };
}

-- `(def a (ref 1)) (def b (ref 1))` and two such threads, one for each ref
abbrev pub skewed : LookForm → PlainProgram
skewed form = record { functions = []; cells = opens_with 1 ∷ opens_with 1 ∷ []; validator_spans = here.span ∷ here.span ∷ []; threads = takes_one form 0 ∷ takes_one form 1 ∷ [] }

-- an actor's commit with this read point and these writes
abbrev pub commits : ℕ → ℕ → Writes → Event
commits a at ws = record { actor = a; kind = Commit at at ws [] }

-- an index of the store's book
abbrev pub home_at : ℕ → Place
home_at k = record { book = 0; at = k }

-- both threads are done, with these traces, and the refs hold these numbers
abbrev pub report_of_skew : List Event → List Place → List Place → ℕ → ℕ → PlainReport
report_of_skew es ps qs v w = record {
  threads = ended ps ∷ ended qs ∷ [];
  agents = [];
  book = es;
  atom_books = [];
  cells = Int (pos v) ∷ Int (pos w) ∷ [];
  failed = [];
}

-- both took one from the sum that they saw
abbrev pub both_took : PlainReport
both_took = report_of_skew (commits 0 0 ((ref_of 0, Int (pos 0)) ∷ []) ∷ commits 1 0 ((ref_of 1, Int (pos 0)) ∷ []) ∷ []) (home_at 0 ∷ []) (home_at 1 ∷ []) 0 0

-- the second had to run again, and then took none
abbrev one_took : PlainReport
one_took =
    report_of_skew (commits 0 0 ((ref_of 0, Int (pos 0)) ∷ []) ∷ record { actor = 1; kind = Retry 0 (ref_of 0) Held } ∷ commits 1 2 [] ∷ []) (home_at 0 ∷ []) (home_at 1 ∷ home_at 2 ∷ []) 0 1

-- Write skew is explained and isn't serial. Where both refs are ensured it isn't explained; what comes then is serial.
abbrev pub SkewIsAnswered : Type 0
SkewIsAnswered = (verdict (skewed Deref) finishing both_took 9 ≡ Agrees false) × (verdict (skewed Ensure) finishing both_took 9 ≡ Differs 1 0) × (verdict (skewed Ensure) finishing one_took 9 ≡ Agrees true)

-- ---- a ref that is set and then commuted

-- `(def r (ref 1)) (future (dosync (alter r + 10) (commute r * 2)))`
abbrev pub altered : PlainProgram
altered = record {
  functions = [];
  cells = opens_with 1 ∷ [];
  validator_spans = here.span ∷ [];
  threads = record {
    body = Dosync
        (Do (more (Update Alter (Const (Cell a_ref) here) (CoreOp Add) (more (Const (Int (pos 10)) here) none) there) (more (Update Commute (Const (Cell a_ref) here) (CoreOp Multiply) (more (Const (Int (pos 2)) here) none) there) none)) there) there;
    span = record { from = 0; to = 0 };
  } ∷ [];
}

-- its report, where the commit wrote this number
abbrev pub report_of_altered : ℕ → PlainReport
report_of_altered v = record {
  threads = ended (home_at 0 ∷ []) ∷ [];
  agents = [];
  book = wrote 0 0 v ∷ [];
  atom_books = [];
  cells = Int (pos v) ∷ [];
  failed = [];
}

-- The right report agrees. One with another number written, in book and cells, differs at its event.
abbrev pub ChangedIsAnswered : Type 0
ChangedIsAnswered = (verdict altered finishing (report_of_altered 22) 9 ≡ Agrees true) × (verdict altered finishing (report_of_altered 21) 9 ≡ Differs 0 0)

-- ---- one thing changed

-- the agent with this number
abbrev agent_of : ℕ → CellId
agent_of n = record { kind = Agent; number = n }

-- a cell of this kind that opens with 0
abbrev zero_cell : CellKind → CellDefinition
zero_cell kind = record { kind = kind; name = []; opening = Int (pos 0); error_mode = Fail; validator = None }

-- `(def r (ref 0)) (def a (atom 0)) (def g (agent 0)) (future (println 1) (dosync (send g inc) (alter r inc)) (swap! a inc))`
abbrev pub of_each_kind : PlainProgram
of_each_kind = record {
  functions = [];
  cells = zero_cell Ref ∷ zero_cell Atom ∷ zero_cell Agent ∷ [];
  validator_spans = here.span ∷ here.span ∷ here.span ∷ [];
  threads = record {
    body = Do
        (more (Println (more (Const (Int (pos 1)) here) none) there)
        (more (Dosync (Do (more (SendTo (Const (Cell (agent_of 2)) here) (CoreOp Inc) none there) (more (Update Alter (Const (Cell (ref_of 0)) here) (CoreOp Inc) none there) none)) there) there)
        (more (Update SwapForm (Const (Cell (record { kind = Atom; number = 1 })) here) (CoreOp Inc) none there) none))) there;
    span = record { from = 0; to = 0 };
  } ∷ [];
}

-- a send of this operation to the agent
abbrev sends_op : Op → Action
sends_op op = record { agent = agent_of 2; callee = CoreOp op; args = []; span = record { from = 0; to = 0 } }

-- the commit of an actor with this read point, this write and this send
abbrev commits_with : ℕ → ℕ → ℕ → Op → Event
commits_with a at v op = record { actor = a; kind = Commit at at ((ref_of 0, Int (pos v)) ∷ []) (sends_op op ∷ []) }

-- the agent's action with this number, which gave it this state
abbrev acts_to : ℕ → ℕ → Event
acts_to n v = record { actor = 1; kind = Act (agent_of 2) n (Ok (Int (pos v))) [] }

-- the second event of the thread is that of the atom's book
abbrev swap_at : Place
swap_at = record { book = 1; at = 0 }

-- the thread's entry
abbrev thread_ran : Option Outcome → List ℕ → List Place → PlainActorReport
thread_ran o out ps = record { outcome = o; steps = 9; printed = out; trace = ps }

-- a report with this entry of the thread, this book, these values of ref and agent, and this fault of the agent
abbrev report_of_kinds : PlainActorReport → List Event → ℕ → ℕ → Option Fault → PlainReport
report_of_kinds ran es r g f = record {
  threads = ran ∷ [];
  agents = record { outcome = None; steps = 9; printed = []; trace = home_at 1 ∷ [] } ∷ [];
  book = es;
  atom_books = (record { actor = 0; kind = Swap (Int (pos 1)) } ∷ []) ∷ [];
  cells = Int (pos r) ∷ Int (pos 1) ∷ Int (pos g) ∷ [];
  failed = f ∷ [];
}

-- the thread's entry as it is right
abbrev right_ran : PlainActorReport
right_ran = thread_ran (Some Done) (49 ∷ 10 ∷ []) (home_at 0 ∷ swap_at ∷ [])

-- the store's book as it is right
abbrev right_book : List Event
right_book = commits_with 0 0 1 Inc ∷ acts_to 1 1 ∷ []

-- some fault
abbrev a_fault : Fault
a_fault = record { kind = NotANumber; span = record { from = 0; to = 0 } }

-- A report with this entry of the thread and this book, and right values.
abbrev pub with_these : PlainActorReport → List Event → PlainReport
with_these ran es = report_of_kinds ran es 1 1 None

-- The right report agrees. One with an event changed differs at it: the value written, its actor, its read point, what it sends; and the
-- number of an action, or what it came to.
abbrev pub EventsAreAnswered : Type 0
EventsAreAnswered =
    (verdict of_each_kind finishing (with_these right_ran right_book) 9 ≡ Agrees true)
    × (verdict of_each_kind finishing (report_of_kinds right_ran (commits_with 0 0 2 Inc ∷ acts_to 1 1 ∷ []) 2 1 None) 9 ≡ Differs 0 0)
    × (verdict of_each_kind finishing (with_these right_ran (commits_with 1 0 1 Inc ∷ acts_to 1 1 ∷ [])) 9 ≡ Differs 0 0)
    × (verdict of_each_kind finishing (with_these right_ran (commits_with 0 1 1 Inc ∷ acts_to 1 1 ∷ [])) 9 ≡ Differs 0 0)
    × (verdict of_each_kind finishing (with_these right_ran (commits_with 0 0 1 Dec ∷ acts_to 1 1 ∷ [])) 9 ≡ Differs 0 0)
    × (verdict of_each_kind finishing (with_these right_ran (commits_with 0 0 1 Inc ∷ acts_to 2 1 ∷ [])) 9 ≡ Differs 1 0)
    × (verdict of_each_kind finishing (report_of_kinds right_ran (commits_with 0 0 1 Inc ∷ acts_to 1 2 ∷ []) 1 2 None) 9 ≡ Differs 1 0)

-- One with the thread's entry changed differs too: a trace with an event more, with one less, in another order; another printed byte,
-- another outcome. So does one with the value of a cell changed, or with an agent that failed.
abbrev pub EntriesAreAnswered : Type 0
EntriesAreAnswered =
    (verdict of_each_kind finishing (with_these (thread_ran (Some Done) (49 ∷ 10 ∷ []) (home_at 0 ∷ swap_at ∷ home_at 1 ∷ [])) right_book) 9 ≡ Differs 0 2)
    × (verdict of_each_kind finishing (with_these (thread_ran (Some Done) (49 ∷ 10 ∷ []) (home_at 0 ∷ [])) right_book) 9 ≡ Differs 0 1)
    × (verdict of_each_kind finishing (with_these (thread_ran (Some Done) (49 ∷ 10 ∷ []) (swap_at ∷ home_at 0 ∷ [])) right_book) 9 ≡ Differs 0 0)
    × (verdict of_each_kind finishing (with_these (thread_ran (Some Done) (50 ∷ 10 ∷ []) (home_at 0 ∷ swap_at ∷ [])) right_book) 9 ≡ Differs 0 2)
    × (verdict of_each_kind finishing (with_these (thread_ran (Some (Failed a_fault)) (49 ∷ 10 ∷ []) (home_at 0 ∷ swap_at ∷ [])) right_book) 9 ≡ Differs 0 2)
    × (verdict of_each_kind finishing (report_of_kinds right_ran right_book 5 1 None) 9 ≡ Differs 0 2)
    × (verdict of_each_kind finishing (report_of_kinds right_ran right_book 1 1 (Some a_fault)) 9 ≡ Differs 0 2)

-- ---- values that a validator refuses

-- a cell of this kind that opens with 1, and whose validator is `pos?`
abbrev guarded_cell : CellKind → CellDefinition
guarded_cell kind = record { kind = kind; name = []; opening = Int (pos 1); error_mode = Fail; validator = Some (CoreOp IsPositive) }

-- such a cell, and a thread with this body
abbrev pub guarded : CellKind → Tree → PlainProgram
guarded kind body = record { functions = []; cells = guarded_cell kind ∷ []; validator_spans = here.span ∷ []; threads = record { body = body; span = record { from = 0; to = 0 } } ∷ [] }

-- `(def r (ref 1 :validator pos?)) (future (dosync (alter r dec)))`
abbrev pub guarded_ref : PlainProgram
guarded_ref = guarded Ref (Dosync (Update Alter (Const (Cell a_ref) here) (CoreOp Dec) none there) there)

-- `(def a (atom 1 :validator pos?)) (future (reset! a 0))`
abbrev pub guarded_atom : PlainProgram
guarded_atom = guarded Atom (Put Reset (Const (Cell (record { kind = Atom; number = 0 })) here) (Const (Int (pos 0)) here) there)

-- `(def g (agent 1 :validator pos?)) (future (send g dec))`
abbrev pub guarded_agent : PlainProgram
guarded_agent = guarded Agent (SendTo (Const (Cell (agent_of 0)) here) (CoreOp Dec) none there)

-- the fault of a value that is refused
abbrev refusal : Fault
refusal = record { kind = InvalidState; span = record { from = 0; to = 0 } }

-- a thread that has faulted so, with these entries of its trace
abbrev refused : List Place → PlainActorReport
refused ps = thread_ran (Some (Failed refusal)) [] ps

-- a report of one thread and one cell: the thread's entry, the books, and the cell's value
abbrev pub report_of_guarded : PlainActorReport → List Event → List (List Event) → ℕ → PlainReport
report_of_guarded ran es swaps v = record { threads = ran ∷ []; agents = []; book = es; atom_books = swaps; cells = Int (pos v) ∷ []; failed = [] }

-- the agent's first action came to this
abbrev acted_so : Result Value Fault → Event
acted_so new = record { actor = 1; kind = Act (agent_of 0) 1 new [] }

-- the thread sent the agent its action
abbrev sent_dec : Event
sent_dec = record { actor = 0; kind = Sent (record { agent = agent_of 0; callee = CoreOp Dec; args = []; span = record { from = 0; to = 0 } }) }

-- the report of the agent, whose one action came to this, with this state and this fault
abbrev pub report_of_agent : Result Value Fault → ℕ → Option Fault → PlainReport
report_of_agent new v f = record {
  threads = ended (home_at 0 ∷ []) ∷ [];
  agents = record { outcome = None; steps = 9; printed = []; trace = home_at 1 ∷ [] } ∷ [];
  book = sent_dec ∷ acted_so new ∷ [];
  atom_books = [];
  cells = Int (pos v) ∷ [];
  failed = f ∷ [];
}

-- What a validator refuses isn't written: a commit, a `reset!` and an action fault, and the right reports of that agree. A report in
-- which the refused value was written differs at the event, as does one of a thread that is done without it.
abbrev pub RefusedIsAnswered : Type 0
RefusedIsAnswered =
    (verdict guarded_ref finishing (report_of_guarded (refused (home_at 0 ∷ [])) (record { actor = 0; kind = FailEvent 0 0 } ∷ []) [] 1) 9 ≡ Agrees true)
    × (verdict guarded_ref finishing (report_of_guarded (ended (home_at 0 ∷ [])) (wrote 0 0 0 ∷ []) [] 0) 9 ≡ Differs 0 0)
    × (verdict guarded_atom finishing (report_of_guarded (refused []) [] ([] ∷ []) 1) 9 ≡ Agrees true)
    × (verdict guarded_atom finishing (report_of_guarded (ended (swap_at ∷ [])) [] ((record { actor = 0; kind = Swap (Int (pos 0)) } ∷ []) ∷ []) 0) 9 ≡ Differs 0 0)
    × (verdict guarded_atom finishing (report_of_guarded (ended []) [] ([] ∷ []) 1) 9 ≡ Differs 0 0)
    × (verdict guarded_agent finishing (report_of_agent (Err refusal) 1 (Some refusal)) 9 ≡ Agrees true)
    × (verdict guarded_agent finishing (report_of_agent (Ok (Int (pos 0))) 0 None) 9 ≡ Differs 1 0)

-- ---- how actors ended

-- a run that was stopped before its end
abbrev stopping : PlainTerms
stopping = record { finishes = false; limit = 1000 }

-- the report of the agent, which hasn't done its action
abbrev pub report_of_mail : PlainReport
report_of_mail = record {
  threads = ended (home_at 0 ∷ []) ∷ [];
  agents = record { outcome = None; steps = 0; printed = []; trace = [] } ∷ [];
  book = sent_dec ∷ [];
  atom_books = [];
  cells = Int (pos 1) ∷ [];
  failed = None ∷ [];
}

-- the same, where its actor says that a book is full
abbrev pub report_of_full_mail : PlainReport
report_of_full_mail = record report_of_mail { agents = record { outcome = Some JournalFull; steps = 0; printed = []; trace = [] } ∷ [] }

-- the report of one thread and one ref, where the thread says so before its first event
abbrev pub report_of_full_ref : PlainReport
report_of_full_ref = report_of_guarded (thread_ran (Some JournalFull) [] []) [] [] 1

-- A thread that hasn't ended differs where the run was to go on up to its end, as does an agent that has mail; where the run was stopped before, they agree. A thread
-- that is stopped for steps has made as many as it may, or it differs. So does one that is stopped for a full book and needs no event, or one of a book that isn't
-- full; and an agent whose action is over where the store's book isn't full.
abbrev pub UnfinishedIsAnswered : Type 0
UnfinishedIsAnswered =
    (verdict counts_to_three finishing (counted_so None 9) 100 ≡ Differs 0 0)
    × (verdict counts_to_three stopping (counted_so None 9) 100 ≡ Agrees true)
    × (verdict guarded_agent finishing report_of_mail 9 ≡ Differs 1 0)
    × (verdict guarded_agent stopping report_of_mail 9 ≡ Agrees true)
    × (verdict counts_to_three finishing (counted_so (Some StepsSpent) 1000) 100 ≡ Agrees true)
    × (verdict counts_to_three finishing (counted_so (Some StepsSpent) 999) 100 ≡ Differs 0 0)
    × (verdict counts_to_three stopping (counted_so (Some StepsSpent) 999) 100 ≡ Differs 0 0)
    × (verdict counts_to_three finishing (counted_so (Some JournalFull) 9) 100 ≡ Differs 0 0)
    × (verdict guarded_ref finishing report_of_full_ref 9 ≡ Differs 0 0)
    × (verdict guarded_agent finishing report_of_full_mail 9 ≡ Differs 1 0)

-- ---- two atoms of which each thread sets one and then reads the other

-- the atom with this number
abbrev atom_of : ℕ → CellId
atom_of n = record { kind = Atom; number = n }

-- `(future (reset! x 1) @y)`, for x and y the atoms with these numbers
abbrev pub sets_and_reads : ℕ → ℕ → PlainThread
sets_and_reads n m = record {
  body = Do (more (Put Reset (Const (Cell (atom_of n)) here) (Const (Int (pos 1)) here) there) (more (Look Deref (Const (Cell (atom_of m)) here) there) none)) there;
  span = record { from = 0; to = 0 };
}

-- `(def a (atom 0)) (def b (atom 0)) (future (reset! a 1) @b) (future (reset! b 1) @a)`
abbrev pub crossing : PlainProgram
crossing = record { functions = []; cells = zero_cell Atom ∷ zero_cell Atom ∷ []; validator_spans = here.span ∷ here.span ∷ []; threads = sets_and_reads 0 1 ∷ sets_and_reads 1 0 ∷ [] }

-- this actor set the atom of the book to 1
abbrev set_by : ℕ → Event
set_by a = record { actor = a; kind = Swap (Int (pos 1)) }

-- this actor read the atom with this number
abbrev read_by : ℕ → ℕ → Event
read_by a n = record { actor = a; kind = Read (atom_of n) }

-- an index of the book of the atom with this number
abbrev atom_at : ℕ → ℕ → Place
atom_at n k = record { book = suc n; at = k }

-- both threads are done, with these traces and these books of the atoms
abbrev pub report_of_crossing : List Place → List Place → List Event → List Event → PlainReport
report_of_crossing ps qs a b = record {
  threads = ended ps ∷ ended qs ∷ [];
  agents = [];
  book = [];
  atom_books = a ∷ b ∷ [];
  cells = Int (pos 1) ∷ Int (pos 1) ∷ [];
  failed = [];
}

-- Each read comes before the other thread's write in its atom's book, and behind its own thread's: there is no such order, and the report differs at a read. Where the
-- read of a comes behind the write of a it agrees.
abbrev pub CrossedIsAnswered : Type 0
CrossedIsAnswered =
    (verdict crossing finishing (report_of_crossing (atom_at 0 1 ∷ atom_at 1 0 ∷ []) (atom_at 1 1 ∷ atom_at 0 0 ∷ []) (read_by 1 0 ∷ set_by 0 ∷ []) (read_by 0 1 ∷ set_by 1 ∷ [])) 9 ≡ Differs 0 1)
    × (verdict crossing finishing (report_of_crossing (atom_at 0 0 ∷ atom_at 1 0 ∷ []) (atom_at 1 1 ∷ atom_at 0 1 ∷ []) (set_by 0 ∷ read_by 1 0 ∷ []) (read_by 0 1 ∷ set_by 1 ∷ [])) 9 ≡ Agrees true)
