-- What an answer leaves of an actor, and what it ends.
use Rattle.std.proofs.Common.{◌≡◌, ◌-◌, ℕ, zero, suc, Bool, true, false, List, Option, Some, None, Ok, Err, refl, sym, ap, subst, ◌∙◌}
use Rattle.txs_world_protocol.specs.declared.ask.Ask.{Ask}
use Rattle.txs_world_protocol.specs.declared.ask.Reply.{Reply}
use Rattle.txs_world_protocol.specs.declared.ask.Reply.TheVariants as reply
use Rattle.txs_world_protocol.specs.declared.event.Outcome.{Outcome}
use Rattle.txs_world_protocol.specs.declared.event.Outcome.TheVariants as outcome
use Rattle.txs_frame.specs.Phase.{PlainPhase}
use Rattle.txs_value_data.specs.declared.fault.Fault.{Fault}
use Rattle.txs_value_data.specs.declared.value.CellId.{CellId}
use Rattle.txs_value_data.specs.declared.value.Value.{Value}
use Rattle.txs_machine_actor.specs.PlainActor.{PlainActor, MayAnswer, Stops, answered, answered_for, answered_if, asked_for, state_of, fails_as, run_again, end_again, refuse, views, attends_anew, unanswered}
use Rattle.txs_machine_transaction.specs.Asks.{applied_in, ask_for, ask_of_read}
use Rattle.txs_machine_transaction.specs.Transaction.{is_running}
use Rattle.txs_machine_transaction.specs.declared.state.Pending.{Pending}
use Rattle.txs_machine_transaction.specs.declared.state.Pending.TheVariants.{Begin, Read, Ensure, Open, View, Reset, Send, Swap, Close, Commit, Hold, Fail, Broke, Take, Finish}
use Rattle.txs_machine_transaction.specs.declared.state.Transaction.{Transaction}
use Rattle.txs_machine_transaction.specs.declared.state.Transaction.TheVariants.{Outside, Restarting, Running, Applying, Evaluating, Swapping, Judging, Weighing}
use Rattle.txs_machine_transaction.specs.declared.role.Role.{Role}
use Rattle.txs_machine_transaction.specs.declared.role.Role.TheVariants.{Thread, Attending, Acting}
use Rattle.txs_machine_actor.proofs.Replies.{by_reply}

-- an outcome that isn't want of steps
abbrev pub Differs : Option Outcome → Type 0
Differs None = Unit {0}
Differs (Some outcome.Done) = Unit {0}
Differs (Some (outcome.Failed f)) = Unit {0}
Differs (Some outcome.StepsSpent) = ⊥
Differs (Some outcome.JournalFull) = Unit {0}
Differs (Some outcome.Memory) = Unit {0}

-- The number, the steps, their limit and what was printed are as they were, and an actor that ends now doesn't end for want of steps.
pub record Leaves (a b : PlainActor) : Type 0 where
  pub number : b.number ≡ a.number
  pub steps : b.steps ≡ a.steps
  pub limit : b.limit ≡ a.limit
  pub printed : b.printed ≡ a.printed
  pub unspent : a.outcome ≡ None → Differs b.outcome

-- one that goes on
goes : (a b : PlainActor) → b.number ≡ a.number → b.steps ≡ a.steps → b.limit ≡ a.limit → b.printed ≡ a.printed → b.outcome ≡ a.outcome → Leaves a b
goes a b n s l p o = record { number = n; steps = s; limit = l; printed = p; unspent = λ e. subst Differs (sym (o ∙ e)) tt }

-- one that ends so
ends : (a b : PlainActor) (o : Outcome) → b.number ≡ a.number → b.steps ≡ a.steps → b.limit ≡ a.limit → b.printed ≡ a.printed → b.outcome ≡ Some o → Differs (Some o) → Leaves a b
ends a b o n s l p e d = record { number = n; steps = s; limit = l; printed = p; unspent = λ x. subst Differs (sym e) d }

-- a fault ends a thread's actor, and not that of an agent
fails_leaves : (a : PlainActor) (f : Fault) (role : Role) → Leaves a (fails_as a f role)
fails_leaves a f Thread = ends a _ (outcome.Failed f) refl refl refl refl refl tt
fails_leaves a f (Attending g o) = ends a _ (outcome.Failed f) refl refl refl refl refl tt
fails_leaves a f (Acting h judges aside) = goes a _ refl refl refl refl refl

again_leaves : (a : PlainActor) (tx : Transaction) → Leaves a (run_again a tx)
again_leaves a Outside = goes a _ refl refl refl refl refl
again_leaves a (Restarting left) = goes a _ refl refl refl refl refl
again_leaves a (Running zero inner from) = fails_leaves a _ a.role
again_leaves a (Running (suc left) inner from) = goes a _ refl refl refl refl refl
again_leaves a (Applying zero from phase) = fails_leaves a _ a.role
again_leaves a (Applying (suc left) from phase) = goes a _ refl refl refl refl refl
again_leaves a (Evaluating left from phase aside) = goes a _ refl refl refl refl refl
again_leaves a (Swapping c p from) = goes a _ refl refl refl refl refl
again_leaves a (Judging aside) = goes a _ refl refl refl refl refl
again_leaves a (Weighing c p from aside) = goes a _ refl refl refl refl refl

end_leaves : (a : PlainActor) (tx : Transaction) → Leaves a (end_again a tx)
end_leaves a Outside = goes a _ refl refl refl refl refl
end_leaves a (Restarting left) = goes a _ refl refl refl refl refl
end_leaves a (Running zero inner from) = fails_leaves a _ a.role
end_leaves a (Running (suc left) inner from) = goes a _ refl refl refl refl refl
end_leaves a (Applying zero from phase) = fails_leaves a _ a.role
end_leaves a (Applying (suc left) from phase) = goes a _ refl refl refl refl refl
end_leaves a (Evaluating left from phase aside) = goes a _ refl refl refl refl refl
end_leaves a (Swapping c p from) = goes a _ refl refl refl refl refl
end_leaves a (Judging aside) = goes a _ refl refl refl refl refl
end_leaves a (Weighing c p from aside) = goes a _ refl refl refl refl refl

refuse_leaves : (a : PlainActor) (tx : Transaction) → Leaves a (refuse a tx)
refuse_leaves a Outside = goes a _ refl refl refl refl refl
refuse_leaves a (Restarting left) = goes a _ refl refl refl refl refl
refuse_leaves a (Running left inner from) = fails_leaves a _ a.role
refuse_leaves a (Applying left from phase) = fails_leaves a _ a.role
refuse_leaves a (Evaluating left from phase aside) = goes a _ refl refl refl refl refl
refuse_leaves a (Swapping c p from) = goes a _ refl refl refl refl refl
refuse_leaves a (Judging aside) = goes a _ refl refl refl refl refl
refuse_leaves a (Weighing c p from aside) = goes a _ refl refl refl refl refl

views_leaves : (a : PlainActor) (phase : PlainPhase) (q : ℕ) (vs : List Value) (tx : Transaction) → Leaves a (views a phase q vs tx)
views_leaves a phase q vs Outside = goes a _ refl refl refl refl refl
views_leaves a phase q vs (Restarting left) = goes a _ refl refl refl refl refl
views_leaves a phase q vs (Running left inner from) = goes a _ refl refl refl refl refl
views_leaves a phase q vs (Applying left from before) = goes a _ refl refl refl refl refl
views_leaves a phase q vs (Evaluating left from before aside) = goes a _ refl refl refl refl refl
views_leaves a phase q vs (Swapping c p from) = goes a _ refl refl refl refl refl
views_leaves a phase q vs (Judging aside) = goes a _ refl refl refl refl refl
views_leaves a phase q vs (Weighing c p from aside) = goes a _ refl refl refl refl refl

anew_leaves : (a : PlainActor) (role : Role) → Leaves a (attends_anew a role)
anew_leaves a Thread = goes a _ refl refl refl refl refl
anew_leaves a (Attending g o) = goes a _ refl refl refl refl refl
anew_leaves a (Acting h judges aside) = goes a _ refl refl refl refl refl

full_leaves : (a : PlainActor) (p : Pending) → Leaves a (answered_for a p reply.Full)
full_leaves a (Begin left from) = ends a _ outcome.JournalFull refl refl refl refl refl tt
full_leaves a (Read c) = ends a _ outcome.JournalFull refl refl refl refl refl tt
full_leaves a (Ensure c es) = ends a _ outcome.JournalFull refl refl refl refl refl tt
full_leaves a (Open c n kept) = ends a _ outcome.JournalFull refl refl refl refl refl tt
full_leaves a (View phase) = ends a _ outcome.JournalFull refl refl refl refl refl tt
full_leaves a (Reset c v) = ends a _ outcome.JournalFull refl refl refl refl refl tt
full_leaves a (Send x n) = ends a _ outcome.JournalFull refl refl refl refl refl tt
full_leaves a (Swap c n from) = ends a _ outcome.JournalFull refl refl refl refl refl tt
full_leaves a (Close c p v) = ends a _ outcome.JournalFull refl refl refl refl refl tt
full_leaves a Commit = ends a _ outcome.JournalFull refl refl refl refl refl tt
full_leaves a (Hold xs) = ends a _ outcome.JournalFull refl refl refl refl refl tt
full_leaves a (Fail f) = ends a _ outcome.JournalFull refl refl refl refl refl tt
full_leaves a (Broke c p f) = ends a _ outcome.JournalFull refl refl refl refl refl tt
full_leaves a (Take g) = ends a _ outcome.JournalFull refl refl refl refl refl tt
full_leaves a (Finish g new) = ends a _ outcome.JournalFull refl refl refl refl refl tt

memory_leaves : (a : PlainActor) (p : Pending) → Leaves a (answered_for a p reply.Memory)
memory_leaves a (Begin left from) = ends a _ outcome.Memory refl refl refl refl refl tt
memory_leaves a (Read c) = ends a _ outcome.Memory refl refl refl refl refl tt
memory_leaves a (Ensure c es) = ends a _ outcome.Memory refl refl refl refl refl tt
memory_leaves a (Open c n kept) = ends a _ outcome.Memory refl refl refl refl refl tt
memory_leaves a (View phase) = ends a _ outcome.Memory refl refl refl refl refl tt
memory_leaves a (Reset c v) = ends a _ outcome.Memory refl refl refl refl refl tt
memory_leaves a (Send x n) = ends a _ outcome.Memory refl refl refl refl refl tt
memory_leaves a (Swap c n from) = ends a _ outcome.Memory refl refl refl refl refl tt
memory_leaves a (Close c p v) = ends a _ outcome.Memory refl refl refl refl refl tt
memory_leaves a Commit = ends a _ outcome.Memory refl refl refl refl refl tt
memory_leaves a (Hold xs) = ends a _ outcome.Memory refl refl refl refl refl tt
memory_leaves a (Fail f) = ends a _ outcome.Memory refl refl refl refl refl tt
memory_leaves a (Broke c p f) = ends a _ outcome.Memory refl refl refl refl refl tt
memory_leaves a (Take g) = ends a _ outcome.Memory refl refl refl refl refl tt
memory_leaves a (Finish g new) = ends a _ outcome.Memory refl refl refl refl refl tt

some : {A : Type 0} {x y : A} → Some x ≡ Some y → x ≡ y
some e = cc

-- where there is no action for an agent, a step less is counted
abbrev LeavesBy : Reply → PlainActor → PlainActor → Type 0
LeavesBy reply.Idle a b = Unit {0}
LeavesBy _ a b = Leaves a b

leaves_unless : (r : Reply) (a b : PlainActor) → (r ≡ reply.Idle → ⊥) → LeavesBy r a b → Leaves a b
leaves_unless (reply.At p) a b unless k = k
leaves_unless (reply.Is v) a b unless k = k
leaves_unless (reply.Views q vs) a b unless k = k
leaves_unless reply.Done a b unless k = k
leaves_unless (reply.Retry d) a b unless k = k
leaves_unless (reply.Changed d) a b unless k = k
leaves_unless (reply.AgentIsFailed h) a b unless k = k
leaves_unless (reply.Action n x v) a b unless k = k
leaves_unless reply.Idle a b unless k = absurd (unless refl)
leaves_unless (reply.Opened q v) a b unless k = k
leaves_unless reply.Full a b unless k = k
leaves_unless reply.Memory a b unless k = k

-- what an answer leaves, where it is one that the actor's ask may have, and hands out no want of an action
pub answer_leaves : (a : PlainActor) (q : Ask) (r : Reply) → unanswered a ≡ Some q → MayAnswer q r → (r ≡ reply.Idle → ⊥) → Leaves a (answered a r)
answer_leaves a q r e m unless = leaves_unless r a (answered a r) unless (go a.pending e)
  where
    go : (o : Option Pending) → asked_for o (is_running a.tx) a.at a.view (applied_in a.tx) a.done ≡ Some q → LeavesBy r a (answered_if a o r)
    go None e = cc
    go (Some p) e =
        by_reply (λ y i x. LeavesBy x a (answered_for a y x)) a.done
        (record {
          begins = λ left from i x. goes a _ refl refl refl refl refl;
          reads = λ c i v. goes a _ refl refl refl refl refl;
          reads_again = λ c d. again_leaves a a.tx;
          ensures = λ c es i v. goes a _ refl refl refl refl refl;
          ensures_again = λ c es i d. again_leaves a a.tx;
          opens = λ c n kept i v. goes a _ refl refl refl refl refl;
          opens_again = λ c n kept i d. again_leaves a a.tx;
          views = λ phase i q vs m. views_leaves a phase q vs a.tx;
          resets = λ c v i. goes a _ refl refl refl refl refl;
          sends = λ x n i. goes a _ refl refl refl refl refl;
          refused = λ x n i g. ends a _ (outcome.Failed _) refl refl refl refl refl tt;
          opens_atom = λ c n from i k v. goes a _ refl refl refl refl refl;
          closes_atom = λ c k v i. goes a _ refl refl refl refl refl;
          swaps_again = λ c k v i d. end_leaves a a.tx;
          commits = λ i. goes a _ refl refl refl refl refl;
          commits_again = λ i d. again_leaves a a.tx;
          changed = λ i d. end_leaves a a.tx;
          denied = λ i g. refuse_leaves a a.tx;
          holds = λ xs i. goes a _ refl refl refl refl refl;
          holds_again = λ xs i d. again_leaves a a.tx;
          holds_changed = λ xs i d. end_leaves a a.tx;
          holds_denied = λ xs i g. refuse_leaves a a.tx;
          fails = λ f i. fails_leaves a f a.role;
          breaks = λ c k f i. fails_leaves a f a.role;
          takes = λ g i n x v. goes a _ refl refl refl refl refl;
          idles = λ g i. tt;
          finishes = λ g new i. anew_leaves a a.role;
          refuses = λ g new i h. anew_leaves a a.role;
          full = λ y i. full_leaves a y;
          memory = λ y i. memory_leaves a y;
        }) p (is_running a.tx) a.at a.view (applied_in a.tx) r (subst (λ x. MayAnswer x r) (sym (some e)) m)

-- ---- ends

full_ends : (a : PlainActor) (p : Pending) → (answered_for a p reply.Full).outcome ≡ Some outcome.JournalFull
full_ends a (Begin left from) = refl
full_ends a (Read c) = refl
full_ends a (Ensure c es) = refl
full_ends a (Open c n kept) = refl
full_ends a (View phase) = refl
full_ends a (Reset c v) = refl
full_ends a (Send x n) = refl
full_ends a (Swap c n from) = refl
full_ends a (Close c p v) = refl
full_ends a Commit = refl
full_ends a (Hold xs) = refl
full_ends a (Fail f) = refl
full_ends a (Broke c p f) = refl
full_ends a (Take g) = refl
full_ends a (Finish g new) = refl

memory_ends : (a : PlainActor) (p : Pending) → (answered_for a p reply.Memory).outcome ≡ Some outcome.Memory
memory_ends a (Begin left from) = refl
memory_ends a (Read c) = refl
memory_ends a (Ensure c es) = refl
memory_ends a (Open c n kept) = refl
memory_ends a (View phase) = refl
memory_ends a (Reset c v) = refl
memory_ends a (Send x n) = refl
memory_ends a (Swap c n from) = refl
memory_ends a (Close c p v) = refl
memory_ends a Commit = refl
memory_ends a (Hold xs) = refl
memory_ends a (Fail f) = refl
memory_ends a (Broke c p f) = refl
memory_ends a (Take g) = refl
memory_ends a (Finish g new) = refl

-- the end of an actor that is stopped so
abbrev end_by : Reply → Option Outcome → Type 0
end_by reply.Full o = o ≡ Some outcome.JournalFull
end_by reply.Memory o = o ≡ Some outcome.Memory
end_by _ o = Unit {0}

pending_ends : (a : PlainActor) (p : Pending) (r : Reply) → end_by r (answered_for a p r).outcome
pending_ends a p (reply.At i) = tt
pending_ends a p (reply.Is v) = tt
pending_ends a p (reply.Views i vs) = tt
pending_ends a p reply.Done = tt
pending_ends a p (reply.Retry d) = tt
pending_ends a p (reply.Changed d) = tt
pending_ends a p (reply.AgentIsFailed g) = tt
pending_ends a p (reply.Action i x v) = tt
pending_ends a p reply.Idle = tt
pending_ends a p (reply.Opened i v) = tt
pending_ends a p reply.Full = full_ends a p
pending_ends a p reply.Memory = memory_ends a p

asker_ends : (a : PlainActor) (q : Ask) (r : Reply) → unanswered a ≡ Some q → end_by r (answered a r).outcome
asker_ends a q r e = go a.pending e
  where
    go : (o : Option Pending) → asked_for o (is_running a.tx) a.at a.view (applied_in a.tx) a.done ≡ Some q → end_by r (answered_if a o r).outcome
    go None e = cc
    go (Some p) e = pending_ends a p r

-- an actor that asks ends with a full book
pub full_stops : (a : PlainActor) (q : Ask) → unanswered a ≡ Some q → (answered a reply.Full).outcome ≡ Some outcome.JournalFull
full_stops a q e = asker_ends a q reply.Full e

-- and for want of memory
pub memory_stops : (a : PlainActor) (q : Ask) → unanswered a ≡ Some q → (answered a reply.Memory).outcome ≡ Some outcome.Memory
memory_stops a q e = asker_ends a q reply.Memory e

-- a reply that stops an actor which asks ends it
pub stop_ends : (a : PlainActor) (q : Ask) (r : Reply) → unanswered a ≡ Some q → Stops r → (o : Outcome) × ((answered a r).outcome ≡ Some o)
stop_ends a q reply.Full e h = (outcome.JournalFull, full_stops a q e)
stop_ends a q reply.Memory e h = (outcome.Memory, memory_stops a q e)
stop_ends a q (reply.At i) e h = absurd h
stop_ends a q (reply.Is v) e h = absurd h
stop_ends a q (reply.Views i vs) e h = absurd h
stop_ends a q reply.Done e h = absurd h
stop_ends a q (reply.Retry d) e h = absurd h
stop_ends a q (reply.Changed d) e h = absurd h
stop_ends a q (reply.AgentIsFailed g) e h = absurd h
stop_ends a q (reply.Action i x v) e h = absurd h
stop_ends a q reply.Idle e h = absurd h
stop_ends a q (reply.Opened i v) e h = absurd h

-- ---- what stays

full_stays : (a : PlainActor) (p : Pending) → state_of (answered_for a p reply.Full) ≡ state_of a
full_stays a (Begin left from) = refl
full_stays a (Read c) = refl
full_stays a (Ensure c es) = refl
full_stays a (Open c n kept) = refl
full_stays a (View phase) = refl
full_stays a (Reset c v) = refl
full_stays a (Send x n) = refl
full_stays a (Swap c n from) = refl
full_stays a (Close c p v) = refl
full_stays a Commit = refl
full_stays a (Hold xs) = refl
full_stays a (Fail f) = refl
full_stays a (Broke c p f) = refl
full_stays a (Take g) = refl
full_stays a (Finish g new) = refl

memory_stays : (a : PlainActor) (p : Pending) → state_of (answered_for a p reply.Memory) ≡ state_of a
memory_stays a (Begin left from) = refl
memory_stays a (Read c) = refl
memory_stays a (Ensure c es) = refl
memory_stays a (Open c n kept) = refl
memory_stays a (View phase) = refl
memory_stays a (Reset c v) = refl
memory_stays a (Send x n) = refl
memory_stays a (Swap c n from) = refl
memory_stays a (Close c p v) = refl
memory_stays a Commit = refl
memory_stays a (Hold xs) = refl
memory_stays a (Fail f) = refl
memory_stays a (Broke c p f) = refl
memory_stays a (Take g) = refl
memory_stays a (Finish g new) = refl

idle_stays : (a : PlainActor) (p : Pending) → (answered_for a p reply.Idle).number ≡ a.number
idle_stays a (Begin left from) = refl
idle_stays a (Read c) = refl
idle_stays a (Ensure c es) = refl
idle_stays a (Open c n kept) = refl
idle_stays a (View phase) = refl
idle_stays a (Reset c v) = refl
idle_stays a (Send x n) = refl
idle_stays a (Swap c n from) = refl
idle_stays a (Close c p v) = refl
idle_stays a Commit = refl
idle_stays a (Hold xs) = refl
idle_stays a (Fail f) = refl
idle_stays a (Broke c p f) = refl
idle_stays a (Take g) = refl
idle_stays a (Finish g new) = refl

idle_unended : (a : PlainActor) (p : Pending) → (answered_for a p reply.Idle).outcome ≡ a.outcome
idle_unended a (Begin left from) = refl
idle_unended a (Read c) = refl
idle_unended a (Ensure c es) = refl
idle_unended a (Open c n kept) = refl
idle_unended a (View phase) = refl
idle_unended a (Reset c v) = refl
idle_unended a (Send x n) = refl
idle_unended a (Swap c n from) = refl
idle_unended a (Close c p v) = refl
idle_unended a Commit = refl
idle_unended a (Hold xs) = refl
idle_unended a (Fail f) = refl
idle_unended a (Broke c p f) = refl
idle_unended a (Take g) = refl
idle_unended a (Finish g new) = refl

-- an actor that is stopped has printed and written what it had
pub full_state : (a : PlainActor) (q : Ask) → unanswered a ≡ Some q → state_of (answered a reply.Full) ≡ state_of a
full_state a q e = go a.pending
  where
    go : (o : Option Pending) → state_of (answered_if a o reply.Full) ≡ state_of a
    go None = refl
    go (Some p) = full_stays a p

pub memory_state : (a : PlainActor) (q : Ask) → unanswered a ≡ Some q → state_of (answered a reply.Memory) ≡ state_of a
memory_state a q e = go a.pending
  where
    go : (o : Option Pending) → state_of (answered_if a o reply.Memory) ≡ state_of a
    go None = refl
    go (Some p) = memory_stays a p

-- one that has no action to take has its number, and goes on
pub idle_number : (a : PlainActor) → (answered a reply.Idle).number ≡ a.number
idle_number a = go a.pending
  where
    go : (o : Option Pending) → (answered_if a o reply.Idle).number ≡ a.number
    go None = refl
    go (Some p) = idle_stays a p

pub idle_outcome : (a : PlainActor) → (answered a reply.Idle).outcome ≡ a.outcome
idle_outcome a = go a.pending
  where
    go : (o : Option Pending) → (answered_if a o reply.Idle).outcome ≡ a.outcome
    go None = refl
    go (Some p) = idle_unended a p

-- the ask that an agent without an action is told of is that for an action
read_never : (b : Bool) (c : CellId) (at : ℕ) → MayAnswer (ask_of_read c b at) reply.Idle → ⊥
read_never true c at m = m
read_never false c at m = m

pub idle_takes : (a : PlainActor) (p : Pending) → MayAnswer (ask_for p (is_running a.tx) a.at a.view (applied_in a.tx) a.done) reply.Idle → (j : CellId) × (p ≡ Take j)
idle_takes a (Begin left from) m = absurd m
idle_takes a (Read c) m = absurd (read_never (is_running a.tx) c a.at m)
idle_takes a (Ensure c es) m = absurd m
idle_takes a (Open c n kept) m = absurd m
idle_takes a (View phase) m = absurd m
idle_takes a (Reset c v) m = absurd m
idle_takes a (Send x n) m = absurd m
idle_takes a (Swap c n from) m = absurd m
idle_takes a (Close c p v) m = absurd m
idle_takes a Commit m = absurd m
idle_takes a (Hold xs) m = absurd m
idle_takes a (Fail f) m = absurd m
idle_takes a (Broke c p f) m = absurd m
idle_takes a (Take j) m = (j, refl)
idle_takes a (Finish g (Ok x)) m = absurd m
idle_takes a (Finish g (Err f)) m = absurd m

abbrev is_some : {A : Type 0} → Option A → Type 0
is_some None = ⊥
is_some (Some x) = Unit {0}

abbrev ask_or : Ask → Option Ask → Ask
ask_or q None = q
ask_or q (Some p) = p

-- it has counted the step, and counts it no more
pub idle_steps : (a : PlainActor) (q : Ask) → unanswered a ≡ Some q → MayAnswer q reply.Idle → (answered a reply.Idle).steps ≡ a.steps - 1
idle_steps a q e m = go a.pending e
  where
    go : (o : Option Pending) → asked_for o (is_running a.tx) a.at a.view (applied_in a.tx) a.done ≡ Some q → (answered_if a o reply.Idle).steps ≡ a.steps - 1
    go None f = absurd (subst is_some (sym f) tt)
    go (Some p) f = let w = idle_takes a p (subst (λ y. MayAnswer y reply.Idle) (sym (ap (ask_or q) f)) m) in ap (λ y. (answered_if a (Some y) reply.Idle).steps) w.1
