use Rattle.std.proofs.Common.{◌≡◌, ◌⊎◌, ◌∙◌, inl, inr, ℕ, Bool, List, Option, Result, false, true, refl, sym, subst, rules}
use Rattle.std.specs.Prelude.{IsTrue}
use Rattle.std.proofs.lemmas.Bool.{false≢true}
use Rattle.txs_world_protocol.specs.Ask.{Writes, may_add_event}
use Rattle.txs_world_protocol.specs.declared.ask.Ask.{Ask}
use Rattle.txs_world_protocol.specs.declared.ask.Ask.TheVariants as ask
use Rattle.txs_world_protocol.specs.declared.ask.Reply.{Reply}
use Rattle.txs_world_protocol.specs.declared.ask.Reply.TheVariants as reply
use Rattle.txs_value_cell.specs.declared.action.Action.{Action}
use Rattle.txs_value_data.specs.declared.fault.Fault.{Fault}
use Rattle.txs_value_data.specs.declared.value.CellId.{CellId}
use Rattle.txs_value_data.specs.declared.value.Value.{Value}
use Rattle.txs_machine_actor.specs.PlainActor.{MayAnswer}
use Rattle.txs_machine_actor.proofs.answer.may_answer.Goals as goal

-- a reply that an ask can't have
no : {A : Type 0} → (A → ⊥) → (IsTrue false → A) × (A → IsTrue false)
no n = (λ e. absurd (false≢true e), λ a. absurd (n a))

-- a reply that an ask can have
yes : {A : Type 0} → A → (IsTrue true → A) × (A → IsTrue true)
yes a = (λ e. a, λ b. refl)

-- an ask may find the book full where it may add an event
full_is : (q0 : Ask) (r : Bool) → r ≡ may_add_event q0 → (IsTrue r → MayAnswer q0 reply.Full) × (MayAnswer q0 reply.Full → IsTrue r)
full_is ask.Begin r e = (λ t. absurd (false≢true (sym e ∙ t)), λ m. absurd m)
full_is (ask.Look c p) r e = (λ t. tt, λ m. e)
full_is (ask.View cs) r e = (λ t. absurd (false≢true (sym e ∙ t)), λ m. absurd m)
full_is (ask.Commit p ws es q cs xs) r e = (λ t. tt, λ m. e)
full_is (ask.Fail p q) r e = (λ t. tt, λ m. e)
full_is (ask.Peek c) r e = (λ t. tt, λ m. e)
full_is (ask.Send x) r e = (λ t. tt, λ m. e)
full_is (ask.Take g) r e = (λ t. absurd (false≢true (sym e ∙ t)), λ m. absurd m)
full_is (ask.Finish g new sends) r e = (λ t. tt, λ m. e)
full_is (ask.OpenAt c) r e = (λ t. absurd (false≢true (sym e ∙ t)), λ m. absurd m)
full_is (ask.CloseAt c p v) r e = (λ t. tt, λ m. e)
full_is (ask.Broke c p) r e = (λ t. tt, λ m. e)

-- each ask but that of a beginning may find no memory
may_want_memory : (q0 : Ask) → (q0 ≡ ask.Begin → ⊥) → MayAnswer q0 reply.Memory
may_want_memory ask.Begin n0 = absurd (n0 refl)
may_want_memory (ask.Look c p) n0 = tt
may_want_memory (ask.View cs) n0 = tt
may_want_memory (ask.Commit p ws es q cs xs) n0 = tt
may_want_memory (ask.Fail p q) n0 = tt
may_want_memory (ask.Peek c) n0 = tt
may_want_memory (ask.Send x) n0 = tt
may_want_memory (ask.Take g) n0 = tt
may_want_memory (ask.Finish g new sends) n0 = tt
may_want_memory (ask.OpenAt c) n0 = tt
may_want_memory (ask.CloseAt c p v) n0 = tt
may_want_memory (ask.Broke c p) n0 = tt

-- only a beginning has a read point
no_read_point : (q0 : Ask) (n : ℕ) → (q0 ≡ ask.Begin → ⊥) → MayAnswer q0 (reply.At n) → ⊥
no_read_point ask.Begin n n0 m = n0 refl
no_read_point (ask.Look c p) n n0 m = m
no_read_point (ask.View cs) n n0 m = m
no_read_point (ask.Commit p ws es q cs xs) n n0 m = m
no_read_point (ask.Fail p q) n n0 m = m
no_read_point (ask.Peek c) n n0 m = m
no_read_point (ask.Send x) n n0 m = m
no_read_point (ask.Take g) n n0 m = m
no_read_point (ask.Finish g new sends) n n0 m = m
no_read_point (ask.OpenAt c) n n0 m = m
no_read_point (ask.CloseAt c p v) n n0 m = m
no_read_point (ask.Broke c p) n n0 m = m

-- only a look and a peek have a value
no_value : (q0 : Ask) (v0 : Value) → ((c : CellId) (p : ℕ) → q0 ≡ ask.Look c p → ⊥) → ((c : CellId) → q0 ≡ ask.Peek c → ⊥) → MayAnswer q0 (reply.Is v0) → ⊥
no_value ask.Begin v0 n0 n1 m = m
no_value (ask.Look c p) v0 n0 n1 m = n0 c p refl
no_value (ask.View cs) v0 n0 n1 m = m
no_value (ask.Commit p ws es q cs xs) v0 n0 n1 m = m
no_value (ask.Fail p q) v0 n0 n1 m = m
no_value (ask.Peek c) v0 n0 n1 m = n1 c refl
no_value (ask.Send x) v0 n0 n1 m = m
no_value (ask.Take g) v0 n0 n1 m = m
no_value (ask.Finish g new sends) v0 n0 n1 m = m
no_value (ask.OpenAt c) v0 n0 n1 m = m
no_value (ask.CloseAt c p v) v0 n0 n1 m = m
no_value (ask.Broke c p) v0 n0 n1 m = m

-- only a view has values
no_views : (q0 : Ask) (n : ℕ) (vs : List Value) → ((cs : List CellId) → q0 ≡ ask.View cs → ⊥) → MayAnswer q0 (reply.Views n vs) → ⊥
no_views ask.Begin n vs n0 m = m
no_views (ask.Look c p) n vs n0 m = m
no_views (ask.View cs) n vs n0 m = n0 cs refl
no_views (ask.Commit p ws es q cs xs) n vs n0 m = m
no_views (ask.Fail p q) n vs n0 m = m
no_views (ask.Peek c) n vs n0 m = m
no_views (ask.Send x) n vs n0 m = m
no_views (ask.Take g) n vs n0 m = m
no_views (ask.Finish g new sends) n vs n0 m = m
no_views (ask.OpenAt c) n vs n0 m = m
no_views (ask.CloseAt c p v) n vs n0 m = m
no_views (ask.Broke c p) n vs n0 m = m

-- what is done is a commit, a fault, a send, an action, or the close of an atom
not_done : (q0 : Ask) → ((p : ℕ) (ws : Writes) (es : List CellId) (q : ℕ) (cs : Writes) (xs : List Action) → q0 ≡ ask.Commit p ws es q cs xs → ⊥) → ((p q : ℕ) → q0 ≡ ask.Fail p q → ⊥) → ((x : Action) → q0 ≡ ask.Send x → ⊥) → ((g : CellId) (new : Result Value Fault) (xs : List Action) → q0 ≡ ask.Finish g new xs → ⊥) → ((c : CellId) (p : Option ℕ) (v : Value) → q0 ≡ ask.CloseAt c p v → ⊥) → ((c : CellId) (p : ℕ) → q0 ≡ ask.Broke c p → ⊥) → MayAnswer q0 reply.Done → ⊥
not_done ask.Begin n0 n1 n2 n3 n4 n5 m = m
not_done (ask.Look c p) n0 n1 n2 n3 n4 n5 m = m
not_done (ask.View cs) n0 n1 n2 n3 n4 n5 m = m
not_done (ask.Commit p ws es q cs xs) n0 n1 n2 n3 n4 n5 m = n0 p ws es q cs xs refl
not_done (ask.Fail p q) n0 n1 n2 n3 n4 n5 m = n1 p q refl
not_done (ask.Peek c) n0 n1 n2 n3 n4 n5 m = m
not_done (ask.Send x) n0 n1 n2 n3 n4 n5 m = n2 x refl
not_done (ask.Take g) n0 n1 n2 n3 n4 n5 m = m
not_done (ask.Finish g new sends) n0 n1 n2 n3 n4 n5 m = n3 g new sends refl
not_done (ask.OpenAt c) n0 n1 n2 n3 n4 n5 m = m
not_done (ask.CloseAt c p v) n0 n1 n2 n3 n4 n5 m = n4 c p v refl
not_done (ask.Broke c p) n0 n1 n2 n3 n4 n5 m = n5 c p refl

-- only a commit and a send are refused
not_refused : (q0 : Ask) (a : CellId) → ((p : ℕ) (ws : Writes) (es : List CellId) (q : ℕ) (cs : Writes) (xs : List Action) → q0 ≡ ask.Commit p ws es q cs xs → ⊥) → ((x : Action) → q0 ≡ ask.Send x → ⊥) → ((g : CellId) (new : Result Value Fault) (xs : List Action) → q0 ≡ ask.Finish g new xs → ⊥) → MayAnswer q0 (reply.AgentIsFailed a) → ⊥
not_refused ask.Begin a n0 n1 n2 m = m
not_refused (ask.Look c p) a n0 n1 n2 m = m
not_refused (ask.View cs) a n0 n1 n2 m = m
not_refused (ask.Commit p ws es q cs xs) a n0 n1 n2 m = n0 p ws es q cs xs refl
not_refused (ask.Fail p q) a n0 n1 n2 m = m
not_refused (ask.Peek c) a n0 n1 n2 m = m
not_refused (ask.Send x) a n0 n1 n2 m = n1 x refl
not_refused (ask.Take g) a n0 n1 n2 m = m
not_refused (ask.Finish g new sends) a n0 n1 n2 m = n2 g new sends refl
not_refused (ask.OpenAt c) a n0 n1 n2 m = m
not_refused (ask.CloseAt c p v) a n0 n1 n2 m = m
not_refused (ask.Broke c p) a n0 n1 n2 m = m

-- only the open of an atom opens it
not_opened : (q0 : Ask) (n : ℕ) (v0 : Value) → ((c : CellId) → q0 ≡ ask.OpenAt c → ⊥) → MayAnswer q0 (reply.Opened n v0) → ⊥
not_opened ask.Begin n v0 n0 m = m
not_opened (ask.Look c p) n v0 n0 m = m
not_opened (ask.View cs) n v0 n0 m = m
not_opened (ask.Commit p ws es q cs xs) n v0 n0 m = m
not_opened (ask.Fail p q) n v0 n0 m = m
not_opened (ask.Peek c) n v0 n0 m = m
not_opened (ask.Send x) n v0 n0 m = m
not_opened (ask.Take g) n v0 n0 m = m
not_opened (ask.Finish g new sends) n v0 n0 m = m
not_opened (ask.OpenAt c) n v0 n0 m = n0 c refl
not_opened (ask.CloseAt c p v) n v0 n0 m = m
not_opened (ask.Broke c p) n v0 n0 m = m

-- a look and a peek may have a value
has_value : (q0 : Ask) (v : Value) → ((c : CellId) × (p : ℕ) × (q0 ≡ ask.Look c p)) ⊎ ((c : CellId) × (q0 ≡ ask.Peek c)) → MayAnswer q0 (reply.Is v)
has_value q0 v (inl h) = subst (λ (q : Ask). MayAnswer q (reply.Is v)) (sym h.2) tt
has_value q0 v (inr h) = subst (λ (q : Ask). MayAnswer q (reply.Is v)) (sym h.1) tt

-- a look and a commit may be retried
has_retry : (q0 : Ask) (d : CellId) → ((c : CellId) × (p : ℕ) × (q0 ≡ ask.Look c p)) ⊎ ((p : ℕ) × (ws : Writes) × (es : List CellId) × (q : ℕ) × (cs : Writes) × (xs : List Action) × (q0 ≡ ask.Commit p ws es q cs xs)) → MayAnswer q0 (reply.Retry d)
has_retry q0 d (inl h) = subst (λ (q : Ask). MayAnswer q (reply.Retry d)) (sym h.2) tt
has_retry q0 d (inr h) = subst (λ (q : Ask). MayAnswer q (reply.Retry d)) (sym h.6) tt

-- a commit, a send and an action may be refused
has_refusal : (q0 : Ask) (a : CellId) → ((p : ℕ) × (ws : Writes) × (es : List CellId) × (q : ℕ) × (cs : Writes) × (xs : List Action) × (q0 ≡ ask.Commit p ws es q cs xs)) ⊎ ((x : Action) × (q0 ≡ ask.Send x)) ⊎ ((g : CellId) × (new : Result Value Fault) × (xs : List Action) × (q0 ≡ ask.Finish g new xs)) → MayAnswer q0 (reply.AgentIsFailed a)
has_refusal q0 a (inl h) = subst (λ (q : Ask). MayAnswer q (reply.AgentIsFailed a)) (sym h.6) tt
has_refusal q0 a (inr (inl h)) = subst (λ (q : Ask). MayAnswer q (reply.AgentIsFailed a)) (sym h.1) tt
has_refusal q0 a (inr (inr h)) = subst (λ (q : Ask). MayAnswer q (reply.AgentIsFailed a)) (sym h.3) tt

-- a commit, a fault, a send, an action and the close of an atom may be done
may_be_done : (q0 : Ask) → ((p : ℕ) × (ws : Writes) × (es : List CellId) × (q : ℕ) × (cs : Writes) × (xs : List Action) × (q0 ≡ ask.Commit p ws es q cs xs)) ⊎ ((p : ℕ) × (q : ℕ) × (q0 ≡ ask.Fail p q)) ⊎ ((x : Action) × (q0 ≡ ask.Send x)) ⊎ ((g : CellId) × (new : Result Value Fault) × (xs : List Action) × (q0 ≡ ask.Finish g new xs)) ⊎ ((c : CellId) × (p : Option ℕ) × (v : Value) × (q0 ≡ ask.CloseAt c p v)) ⊎ ((c : CellId) × (p : ℕ) × (q0 ≡ ask.Broke c p)) → MayAnswer q0 reply.Done
may_be_done q0 (inl h) = subst (λ (q : Ask). MayAnswer q reply.Done) (sym h.6) tt
may_be_done q0 (inr (inl h)) = subst (λ (q : Ask). MayAnswer q reply.Done) (sym h.2) tt
may_be_done q0 (inr (inr (inl h))) = subst (λ (q : Ask). MayAnswer q reply.Done) (sym h.1) tt
may_be_done q0 (inr (inr (inr (inl h)))) = subst (λ (q : Ask). MayAnswer q reply.Done) (sym h.3) tt
may_be_done q0 (inr (inr (inr (inr (inl h))))) = subst (λ (q : Ask). MayAnswer q reply.Done) (sym h.3) tt
may_be_done q0 (inr (inr (inr (inr (inr h))))) = subst (λ (q : Ask). MayAnswer q reply.Done) (sym h.2) tt

pub returns-in_default : goal.returns-in_default
returns-in_default c = no (λ m. no_read_point c.args.ask.now c.in-At.field-0 c.in_default.not-Begin (subst (λ (r : Reply). MayAnswer c.args.ask.now r) c.in-At.is m))

pub returns-in_default-ask : goal.returns-in_default-ask
returns-in_default-ask c = no (λ m. no_views c.args.ask.now c.in-Views.field-0 c.in-Views.values c.in_default-ask.not-View (subst (λ (r : Reply). MayAnswer c.args.ask.now r) c.in-Views.is m))

pub returns-in_default-matches : goal.returns-in_default-matches
returns-in_default-matches c = no (λ m. no_value c.args.ask.now c.in-Is.field-0 c.in_default-matches.not-Look c.in_default-matches.not-Peek (subst (λ (r : Reply). MayAnswer c.args.ask.now r) c.in-Is.is m))

pub returns-in_default-matches-2 : goal.returns-in_default-matches-2
returns-in_default-matches-2 c = no (λ m. not_done c.args.ask.now c.in_default-matches-2.not-Commit c.in_default-matches-2.not-Fail c.in_default-matches-2.not-Send c.in_default-matches-2.not-Finish c.in_default-matches-2.not-CloseAt c.in_default-matches-2.not-Broke (subst (λ (r : Reply). MayAnswer c.args.ask.now r) c.in-Done.is m))

pub returns-in_default-matches-5 : goal.returns-in_default-matches-5
returns-in_default-matches-5 c = no (λ m. not_refused c.args.ask.now c.in-AgentIsFailed.field-0 c.in_default-matches-5.not-Commit c.in_default-matches-5.not-Send c.in_default-matches-5.not-Finish (subst (λ (r : Reply). MayAnswer c.args.ask.now r) c.in-AgentIsFailed.is m))

pub returns-in_default-matches-6 : goal.returns-in_default-matches-6
returns-in_default-matches-6 c = no (λ m. not_opened c.args.ask.now c.in-Opened.field-0 c.in-Opened.field-1 c.in_default-matches-6.not-OpenAt (subst (λ (r : Reply). MayAnswer c.args.ask.now r) c.in-Opened.is m))

pub returns-in_default-matches-3 : goal.returns-in_default-matches-3
returns-in_default-matches-3 c = search rules

pub returns-in-Full : goal.returns-in-Full
returns-in-Full c =
    let is = full_is c.args.ask.now c.may_add_event.result c.may_add_event.ensures in
    (λ t. subst (λ (r : Reply). MayAnswer c.args.ask.now r) (sym c.in-Full.is) (is.0 t), λ m. is.1 (subst (λ (r : Reply). MayAnswer c.args.ask.now r) c.in-Full.is m))

pub returns-in_default-ask-2 : goal.returns-in_default-ask-2
returns-in_default-ask-2 c = yes (subst (λ (r : Reply). MayAnswer c.args.ask.now r) (sym c.in-Memory.is) (may_want_memory c.args.ask.now c.in_default-ask-2.not-Begin))

pub returns-in-Look : goal.returns-in-Look
returns-in-Look c = yes (subst (λ (r : Reply). MayAnswer c.args.ask.now r) (sym c.in-Is.is) (has_value c.args.ask.now c.in-Is.field-0 c.in-Look.is))

pub returns-in-Look-2 : goal.returns-in-Look-2
returns-in-Look-2 c = yes (subst (λ (r : Reply). MayAnswer c.args.ask.now r) (sym c.in-Is.is) (has_value c.args.ask.now c.in-Is.field-0 c.in-Look.is))

pub returns-in-Look-matches : goal.returns-in-Look-matches
returns-in-Look-matches c = yes (subst (λ (r : Reply). MayAnswer c.args.ask.now r) (sym c.in-Retry.is) (has_retry c.args.ask.now c.in-Retry.field-0 c.in-Look-matches.is))

pub returns-in-Look-matches-2 : goal.returns-in-Look-matches-2
returns-in-Look-matches-2 c = yes (subst (λ (r : Reply). MayAnswer c.args.ask.now r) (sym c.in-Retry.is) (has_retry c.args.ask.now c.in-Retry.field-0 c.in-Look-matches.is))

pub returns-in-Commit-matches-2 : goal.returns-in-Commit-matches-2
returns-in-Commit-matches-2 c = yes (subst (λ (r : Reply). MayAnswer c.args.ask.now r) (sym c.in-AgentIsFailed.is) (has_refusal c.args.ask.now c.in-AgentIsFailed.field-0 c.in-Commit-matches-2.is))

pub returns-in-Commit-matches-2-2 : goal.returns-in-Commit-matches-2-2
returns-in-Commit-matches-2-2 c = yes (subst (λ (r : Reply). MayAnswer c.args.ask.now r) (sym c.in-AgentIsFailed.is) (has_refusal c.args.ask.now c.in-AgentIsFailed.field-0 c.in-Commit-matches-2.is))

pub returns-in-Commit-matches-2-3 : goal.returns-in-Commit-matches-2-3
returns-in-Commit-matches-2-3 c = yes (subst (λ (r : Reply). MayAnswer c.args.ask.now r) (sym c.in-AgentIsFailed.is) (has_refusal c.args.ask.now c.in-AgentIsFailed.field-0 c.in-Commit-matches-2.is))

pub returns-in-Commit : goal.returns-in-Commit
returns-in-Commit c = yes (subst (λ (r : Reply). MayAnswer c.args.ask.now r) (sym c.in-Done.is) (may_be_done c.args.ask.now c.in-Commit.is))

pub returns-in-Commit-2 : goal.returns-in-Commit-2
returns-in-Commit-2 c = yes (subst (λ (r : Reply). MayAnswer c.args.ask.now r) (sym c.in-Done.is) (may_be_done c.args.ask.now c.in-Commit.is))

pub returns-in-Commit-3 : goal.returns-in-Commit-3
returns-in-Commit-3 c = yes (subst (λ (r : Reply). MayAnswer c.args.ask.now r) (sym c.in-Done.is) (may_be_done c.args.ask.now c.in-Commit.is))

pub returns-in-Commit-4 : goal.returns-in-Commit-4
returns-in-Commit-4 c = yes (subst (λ (r : Reply). MayAnswer c.args.ask.now r) (sym c.in-Done.is) (may_be_done c.args.ask.now c.in-Commit.is))

pub returns-in-Commit-5 : goal.returns-in-Commit-5
returns-in-Commit-5 c = yes (subst (λ (r : Reply). MayAnswer c.args.ask.now r) (sym c.in-Done.is) (may_be_done c.args.ask.now c.in-Commit.is))

pub returns-in-Commit-6 : goal.returns-in-Commit-6
returns-in-Commit-6 c = yes (subst (λ (r : Reply). MayAnswer c.args.ask.now r) (sym c.in-Done.is) (may_be_done c.args.ask.now c.in-Commit.is))
