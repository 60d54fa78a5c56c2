-- How a tree's run on replies goes with its thread's run on events: what the theorems on threads have in common.
use Rattle.std.proofs.Common.{ℕ, List, [], Option, Some, None, refl, ap, ◌≡◌, ◌∷◌, ◌++◌, ◌∙◌}
use Rattle.txs_world_protocol.specs.Ask.{Exchange}
use Rattle.txs_world_protocol.specs.SeenEvent.{SeenEvent}
use Rattle.txs_world_protocol.specs.declared.ask.Ask.{Ask}
use Rattle.txs_world_protocol.specs.declared.ask.Ask.TheVariants as ask
use Rattle.txs_world_protocol.specs.declared.ask.Reply.{Reply}
use Rattle.txs_world_protocol.specs.declared.ask.Reply.TheVariants as reply
use Rattle.txs_value_cell.specs.Cells.{World}
use Rattle.txs_value_cell.specs.declared.action.Action.{Action}
use Rattle.txs_value_cell.specs.declared.cell.CellDefinition.{CellDefinition}
use Rattle.txs_value_data.specs.declared.value.Value.{Value}
use Rattle.txs_tree_meaning.specs.Meaning.{Completion, Completes, Recurs, Faults, Retries, Waits, OutOfTurns, Invalid}
use Rattle.txs_frame.specs.Frame.{sends_of_commit, with_sends}
use Rattle.txs_tree_meaning.specs.Thread.{TxRun, ThreadState, holding}
use Rattle.txs_code_meaning.specs.ActorState as actor
use Rattle.txs_code_meaning.specs.ActorState.{ActorState, Reception, Replied, Unreplied, asks, InHand, held_in, now_holding}
use Rattle.txs_theorem_threads.proofs.Fitted.{reply_then}
use Rattle.txs_theorem_threads.proofs.Related.{Link, Related}
use Rattle.txs_theorem_threads.proofs.Worlds.{Fitting, Splits, IsShort, WantsOwn, asked_of, answered_by}
use Rattle.txs_theorem_threads.specs.EndsSo.{in_hand}
use Rattle.txs_theorem_threads.specs.Noted.{Commits}
use Rattle.txs_theorem_threads.specs.OnReplies.{retrying}
use Rattle.txs_theorem_threads.specs.RepliesFit.{Phase, Out, Goes, ReplyFits, Halt, Going, Stopped, Short, Rerun, book_asked, halted, HasWaited, HasWaitedFor, HasAsked, HasEaten}

-- which exchanges fit which events, where a thread has noted these transactions
abbrev pub Noting : Type 1
Noting = List TxRun → Fitting

-- what a body begins with that holds these sends: an action holds none yet, and a thread never does
abbrev pub begin_of : Option (List Action) → Option (List Action)
begin_of None = None
begin_of (Some sends) = Some []

-- what fits behind a reply: a commit that was done or refused is that of one more transaction
abbrev pub after_reply : Option (List Action) → Noting → List TxRun → Ask → Reply → List Exchange → Goes
after_reply from F txs (ask.Commit p ws rs q cs sends) reply.Done xs = λ ph es. (x : TxRun) → Commits from x (ask.Commit p ws rs q cs sends) → F (txs ++ x ∷ []) ph xs es
after_reply from F txs (ask.Commit p ws rs q cs sends) (reply.AgentIsFailed g) xs = λ ph es. (x : TxRun) → Commits from x (ask.Commit p ws rs q cs sends) → F (txs ++ x ∷ []) ph xs es
after_reply from F txs _ _ xs = λ ph es. F txs ph xs es

-- where nothing is said of what was noted
pub plain_splits : (cells : List CellDefinition) (from : Option (List Action)) (F : Fitting) → Splits cells F → (txs : List TxRun) (ph : Phase) (q : Ask) (r : Reply) (xs : List Exchange) (es : List SeenEvent) → F ph (record { ask = q; reply = r } ∷ xs) es → ReplyFits cells ph q r (after_reply from (λ l. F) txs q r xs) es
plain_splits cells from F splits txs ph q r xs es h = reply_then cells ph q r (λ ph1 es1. F ph1 xs es1) (after_reply from (λ l. F) txs q r xs) (plain q r) es (splits ph (record { ask = q; reply = r }) xs es h)
  where
    plain : (q1 : Ask) (r1 : Reply) (ph1 : Phase) (es1 : List SeenEvent) → F ph1 xs es1 → after_reply from (λ l. F) txs q1 r1 xs ph1 es1
    plain (ask.Commit p ws rs v cs sends) reply.Done ph1 es1 g = λ x c. g
    plain (ask.Commit p ws rs v cs sends) (reply.AgentIsFailed a) ph1 es1 g = λ x c. g
    plain _ _ ph1 es1 g = g

-- the body needs an event, printed the rest of this behind those bytes, has eaten all and noted these
abbrev pub HasWaitedOn : List ℕ → List ℕ → List TxRun → Halt ThreadState → Type 0
HasWaitedOn before out txs Going = ⊥
HasWaitedOn before out txs (Stopped t) = (t.todo ≡ []) × (before ++ t.printed ≡ out) × (t.txs ≡ txs)
HasWaitedOn before out txs (Short t) = ⊥
HasWaitedOn before out txs (Rerun t) = ⊥

-- so it does, and the event is to be of this book
abbrev pub HasAskedOn : Option ℕ → List ℕ → List ℕ → List TxRun → Halt ThreadState → Type 0
HasAskedOn book before out txs Going = ⊥
HasAskedOn book before out txs (Stopped t) = (t.asks ≡ book) × (t.todo ≡ []) × (before ++ t.printed ≡ out) × (t.txs ≡ txs)
HasAskedOn book before out txs (Short t) = ⊥
HasAskedOn book before out txs (Rerun t) = ⊥

pub asked_noted : (book : Option ℕ) (before out : List ℕ) (txs : List TxRun) (o : Halt ThreadState) → HasAskedOn book before out txs o → HasWaitedOn before out txs o
asked_noted book before out txs Going h = absurd h
asked_noted book before out txs (Stopped t) h = (h.1, h.2, h.3)
asked_noted book before out txs (Short t) h = absurd h
asked_noted book before out txs (Rerun t) h = absurd h

-- the body needs an event of this book, printed the rest of this and has eaten all
abbrev pub AskedBehind : Option ℕ → List ℕ → List ℕ → Halt ThreadState → Type 0
AskedBehind book before out Going = ⊥
AskedBehind book before out (Stopped t) = (t.asks ≡ book) × (t.todo ≡ []) × (before ++ t.printed ≡ out)
AskedBehind book before out (Short t) = ⊥
AskedBehind book before out (Rerun t) = ⊥

pub asked_on : (book : Option ℕ) (before out : List ℕ) (txs : List TxRun) (o : Halt ThreadState) → HasAskedOn book before out txs o → AskedBehind book before out o
asked_on book before out txs Going h = absurd h
asked_on book before out txs (Stopped t) h = (h.0, h.1, h.2)
asked_on book before out txs (Short t) h = absurd h
asked_on book before out txs (Rerun t) h = absurd h

-- the body needs an event, printed the rest of this and has eaten all
abbrev pub WaitedBehind : List ℕ → List ℕ → Halt ThreadState → Type 0
WaitedBehind before out Going = ⊥
WaitedBehind before out (Stopped t) = (t.todo ≡ []) × (before ++ t.printed ≡ out)
WaitedBehind before out (Short t) = ⊥
WaitedBehind before out (Rerun t) = ⊥

-- it needs an event or turns
abbrev pub EatenBehind : List ℕ → List ℕ → Halt ThreadState → Type 0
EatenBehind before out Going = ⊥
EatenBehind before out (Stopped t) = (t.todo ≡ []) × (before ++ t.printed ≡ out)
EatenBehind before out (Short t) = (t.todo ≡ []) × (before ++ t.printed ≡ out)
EatenBehind before out (Rerun t) = ⊥

pub waited_on : (before out : List ℕ) (txs : List TxRun) (o : Halt ThreadState) → HasWaitedOn before out txs o → WaitedBehind before out o
waited_on before out txs Going h = absurd h
waited_on before out txs (Stopped t) h = (h.0, h.1)
waited_on before out txs (Short t) h = absurd h
waited_on before out txs (Rerun t) h = absurd h

-- what goes on needs no event
pub asked_loose : (cells : List CellDefinition) (q : Option Ask) (out : List ℕ) → HasAsked cells q out Going → ⊥
asked_loose cells None out a = absurd a
asked_loose cells (Some q) out a = absurd a

-- what needs an event of a book needs an event
pub asked_waited : (cells : List CellDefinition) (q : Option Ask) (out : List ℕ) (h : Halt ThreadState) → HasAsked cells q out h → HasWaited out h
asked_waited cells None out h a = absurd a
asked_waited cells (Some q) out Going a = absurd a
asked_waited cells (Some q) out (Stopped t) a = (a.1, a.2)
asked_waited cells (Some q) out (Short t) a = absurd a
asked_waited cells (Some q) out (Rerun t) a = absurd a

-- what needs an event and has eaten all has eaten all
pub waited_eaten : (out : List ℕ) (h : Halt ThreadState) → HasWaited out h → HasEaten out h
waited_eaten out Going h = absurd h
waited_eaten out (Stopped t) h = h
waited_eaten out (Short t) h = absurd h
waited_eaten out (Rerun t) h = absurd h

pub waited_eaten_behind : (before out : List ℕ) (h : Halt ThreadState) → WaitedBehind before out h → EatenBehind before out h
waited_eaten_behind before out Going h = absurd h
waited_eaten_behind before out (Stopped t) h = h
waited_eaten_behind before out (Short t) h = absurd h
waited_eaten_behind before out (Rerun t) h = absurd h

pub asked_eaten_behind : (book : Option ℕ) (before out : List ℕ) (h : Halt ThreadState) → AskedBehind book before out h → EatenBehind before out h
asked_eaten_behind book before out Going h = absurd h
asked_eaten_behind book before out (Stopped t) h = (h.1, h.2)
asked_eaten_behind book before out (Short t) h = absurd h
asked_eaten_behind book before out (Rerun t) h = absurd h

-- behind nothing all was printed by the body
pub asked_plain : (book : ℕ) (out : List ℕ) (h : Halt ThreadState) → AskedBehind (Some book) [] out h → HasWaitedFor book out h
asked_plain book out Going h = absurd h
asked_plain book out (Stopped t) h = h
asked_plain book out (Short t) h = absurd h
asked_plain book out (Rerun t) h = absurd h

pub own_asked : (cells : List CellDefinition) (q : Option Ask) (out : List ℕ) (h : Halt ThreadState) → WantsOwn q → AskedBehind (asked_of cells q) [] out h → HasAsked cells q out h
own_asked cells None out h own a = absurd own
own_asked cells (Some q) out h own a = asked_plain (book_asked cells q) out h a

pub waited_plain : (out : List ℕ) (h : Halt ThreadState) → WaitedBehind [] out h → HasWaited out h
waited_plain out Going h = absurd h
waited_plain out (Stopped t) h = h
waited_plain out (Short t) h = absurd h
waited_plain out (Rerun t) h = absurd h

-- what was printed before the body begins, the sends that it begins with, which exchanges fit which events, the events behind those, and
-- what the body is where its tree waits or needs turns
pub record Account (cells : List CellDefinition) : Type 1 where
  pub before : List ℕ
  pub from : Option (List Action)
  pub fits : Noting
  pub splits : (txs : List TxRun) (ph : Phase) (q : Ask) (r : Reply) (xs : List Exchange) (es : List SeenEvent) → fits txs ph (record { ask = q; reply = r } ∷ xs) es → ReplyFits cells ph q r (after_reply from fits txs q r xs) es
  pub tail : List SeenEvent
  pub waits : ActorState → Halt ThreadState → Type 0
  pub short : ActorState → Halt ThreadState → Type 0
  pub waits_loose : (s : ActorState) → waits s Going → (o : Halt ThreadState) → waits s o
  pub short_loose : (s : ActorState) → short s Going → (o : Halt ThreadState) → short s o
  pub short_here : (s : ActorState) (t : ThreadState) (es : List SeenEvent) → fits t.txs Out s.todo es → t.todo ≡ es ++ tail → before ++ t.printed ≡ s.printed → short s (Short t)
  -- y is what the thread does on a list of events: with none left it needs one of the book that answers what is asked, and has eaten all
  pub waiting : (txs : List TxRun) (ph : Phase) (s : ActorState) (es : List SeenEvent) (y : List SeenEvent → Completion ThreadState Value) → WantsOwn s.wants → fits txs ph s.todo es → HasAskedOn (asked_of cells s.wants) before s.printed txs (halted (y [])) → waits s (halted (y (es ++ tail)))
  -- with none left it needs one, has eaten all, and on an end of what is in hand it needs turns
  pub shortage : (txs : List TxRun) (ph : Phase) (s : ActorState) (es : List SeenEvent) (y : List SeenEvent → Completion ThreadState Value) → fits txs ph s.todo es → HasWaitedOn before s.printed txs (halted (y []))
      → ((Q : World) → IsShort (halted (y (in_hand cells Q ph)))) → short s (halted (y (es ++ tail)))

-- an actor and a body: what the body printed was printed behind those bytes, the same sends are held, and it began with these
abbrev pub IsBeside : List ℕ → Option (List Action) → ActorState → ThreadState → Type 0
IsBeside before from s t = (before ++ t.printed ≡ s.printed) × (held_in s.acting ≡ t.held) × (begin_of t.held ≡ from)

-- a commit has the sends by what a body begins with
pub sends_begin : (held : Option (List Action)) (sends : List Action) → sends_of_commit held sends ≡ sends_of_commit (begin_of held) sends
sends_begin None sends = refl
sends_begin (Some held) sends = refl

held_now : (sends : List Action) (o : Option InHand) → held_in (now_holding sends o) ≡ with_sends sends (held_in o)
held_now sends None = refl
held_now sends (Some h) = refl

pub begin_with : (sends : List Action) (held : Option (List Action)) → begin_of (with_sends sends held) ≡ begin_of held
begin_with sends None = refl
begin_with sends (Some held) = refl

-- both hold these sends, too
pub holds_beside : (before : List ℕ) (from : Option (List Action)) (s : ActorState) (t : ThreadState) (xs ys : List Action) → xs ≡ ys → IsBeside before from s t → IsBeside before from (actor.holding xs s) (holding ys t)
holds_beside before from s t xs ys same pr =
    (pr.0, held_now xs s.acting ∙ ap (with_sends xs) pr.1 ∙ ap (λ l. with_sends l t.held) same, begin_with ys t.held ∙ pr.2)

-- outside of transactions: the same was printed, and what is to come fits, with what was noted
abbrev pub account_link : (cells : List CellDefinition) → Account cells → Link ActorState ThreadState
account_link cells a = record {
  rel = λ s t. IsBeside a.before a.from s t × (es : List SeenEvent) × (t.todo ≡ es ++ a.tail) × a.fits t.txs Out s.todo es;
  faults = λ s t. (a.before ++ t.printed ≡ s.printed) × (ph : Phase) × (es : List SeenEvent) × (t.todo ≡ es ++ a.tail) × a.fits t.txs ph s.todo es;
  waits = a.waits;
  out_of_turns = a.short;
  retries = λ s o. ⊥;
  waits_loose = a.waits_loose;
  out_of_turns_loose = a.short_loose;
  retries_loose = λ s h o. absurd h;
  faults_of = λ s t r. (r.0.0, Out, r.1, r.2, r.3);
  out_of_turns_of = λ s t r. a.short_here s t r.1 r.3 r.2 r.0.0;
  invalid = λ b. Unit {0};
  invalid_both = tt;
  invalid_loose = λ h b. tt;
  ahead = λ t. ⊥;
  ahead_stops = λ t h s. absurd h;
  ahead_invalid = λ t h. absurd h;
}

-- an ask has no reply yet, or one that fits
pub answered_in : (cells : List CellDefinition) (a : Account cells) (txs : List TxRun) (ph : Phase) (es : List SeenEvent) (q : Ask) (s : ActorState) (P : Reception → Type 0) → a.fits txs ph s.todo es → P (Unreplied (record s { wants = Some q }))
    → ((r : Reply) (xs : List Exchange) → ReplyFits cells ph q r (after_reply a.from a.fits txs q r xs) es → P (Replied r (record s { todo = xs }))) → P (asks q s)
answered_in cells a txs ph es q s P fits un he =
    answered_by cells (a.fits txs) ph es q (λ r xs. after_reply a.from a.fits txs q r xs) (λ r xs f. a.splits txs ph q r xs es f) s P fits un (λ r xs l m. he r xs m)

-- what never runs again as a whole is followed by nothing
pub not_retrying : (cells : List CellDefinition) (a : Account cells) (x : Completion ActorState Value) (y : Completion ThreadState Value) (go : ActorState → Completion ActorState Value) → Related (account_link cells a) x y → Related (account_link cells a) (retrying x go) y
not_retrying cells a (Completes v s) y go h = h
not_retrying cells a (Recurs vs s) y go h = tt
not_retrying cells a (Faults f s) y go h = h
not_retrying cells a (Retries s) y go h = absurd h
not_retrying cells a (Waits s) y go h = h
not_retrying cells a (OutOfTurns s) y go h = h
not_retrying cells a Invalid y go h = tt
