-- A tree on replies that fit is the tree on their worlds.
use Rattle.std.proofs.Common.{ℕ, Bool, true, false, List, [], Option, Some, None, Result, Ok, Err, refl, sym, ap, subst, ⊎_elim, inl, inr, length, arith, ◌≡◌, ◌<◌, ◌==◌, ◌∷◌, ◌||◌, ◌⊎◌, if◌then◌else◌}
use Rattle.std.proofs.lemmas.Bool.{false≢true}
use Rattle.txs_world_protocol.proofs.AskLemmas.{same_ask-sound}
use Rattle.txs_world_protocol.specs.Ask.{buffered, with_write, Exchange, same_ask}
use Rattle.txs_world_protocol.specs.SeenEvent.{SeenEvent}
use Rattle.txs_world_protocol.specs.declared.ask.Ask.TheVariants as ask
use Rattle.txs_world_protocol.specs.declared.ask.Ask.{Ask}
use Rattle.txs_world_protocol.specs.declared.ask.Reply.TheVariants as reply
use Rattle.txs_world_protocol.specs.declared.ask.Reply.{Reply}
use Rattle.txs_world_protocol.specs.declared.event.EventKind.{EventKind}
use Rattle.txs_frame.specs.Frame.{PlainTxFrame, empty_frame, with_cell, is_commuted, set_ref, ensure_ref, commute_ref, hold_send}
use Rattle.txs_frame.specs.declared.frame.Commute.{Commute}
use Rattle.txs_value_cell.specs.Cells.{World, Validators, validators_of}
use Rattle.txs_value_cell.specs.Forms.{rule, may_stand, same_kind, cell_if, cell_of_kind, cell_of}
use Rattle.txs_value_cell.specs.declared.action.Action.{Action}
use Rattle.txs_value_cell.specs.declared.cell.CellDefinition.{CellDefinition}
use Rattle.txs_value_data.specs.declared.fault.FaultKind.{FaultKind}
use Rattle.txs_value_data.specs.declared.fault.FaultKind.TheVariants.{SetAfterCommute, OutsideOnly}
use Rattle.txs_value_data.specs.declared.fault.Span.{Span}
use Rattle.txs_value_cell.specs.declared.form.CellForm.TheVariants as form_of
use Rattle.txs_value_cell.specs.declared.form.FormRule.{FormRule}
use Rattle.txs_value_cell.specs.declared.form.LookForm.{LookForm}
use Rattle.txs_value_cell.specs.declared.form.LookForm.TheVariants.{Deref, Ensure}
use Rattle.txs_value_cell.specs.declared.form.PutForm.{PutForm}
use Rattle.txs_value_cell.specs.declared.form.PutForm.TheVariants.{RefSet, Reset}
use Rattle.txs_value_cell.specs.declared.form.UpdateForm.{UpdateForm}
use Rattle.txs_value_cell.specs.declared.form.UpdateForm.TheVariants as update_of
use Rattle.txs_value_data.specs.declared.op.Callee.{Callee}
use Rattle.txs_value_data.specs.declared.value.CellId.{CellId}
use Rattle.txs_value_data.specs.declared.value.CellKind.{CellKind}
use Rattle.txs_value_data.specs.declared.value.CellKind.TheVariants.{Ref}
use Rattle.txs_value_data.specs.declared.value.Value.{Value}
use Rattle.txs_value_data.specs.declared.value.Value.TheVariants.{Nil, Truth, Int, Key, Text, Vector, Cell}
use Rattle.txs_tree_meaning.specs.Known.{known}
use Rattle.txs_tree_meaning.specs.Meaning.{Completion, Completes, Recurs, Faults, Retries, Waits, OutOfTurns, Invalid, bind, closed, result_of, apply, Applies, eval, call_at}
use Rattle.txs_tree_meaning.specs.Sound.{SoundFunctions}
use Rattle.txs_tree_meaning.specs.Transaction.{TxState, value_or, own, noted, lacks, looked, taken_lacking, done_as, tx_look_lacking, tx_put, tx_update_lacking, in_transaction_lacking, tx_start, tx_meaning_lacking}
use Rattle.txs_tree_meaning.specs.Tree.{Mark, Tree, PlainFunction}
use Rattle.txs_code_meaning.specs.ActorState.{held_in, ActorState, Reception, Replied, Unreplied, receives, asks, StepResult, Continue, Break, Redo, Await, Malformed, on_step, step_of, heard, value_there, buffered_or, look, set_own, close_own, read_cell, assign_cell, send_action, send_to, print}
use Rattle.txs_theorem_threads.proofs.Callees.{Keeps, IsPure}
use Rattle.txs_theorem_threads.proofs.Owned.{Owned, owned_none, owned_set, owned_commute}
use Rattle.txs_theorem_threads.proofs.Placed.{MayCallAt, placed, function_placed}
use Rattle.txs_theorem_threads.proofs.Quiet.{carried, IsQuiet, quietly, callee_carried, AllCommutes, commutes_both}
use Rattle.txs_theorem_threads.proofs.Related.{Link, Related, Applied, ahead_of, bind_related, closed_related, Alike, eval_related, calls_related}
use Rattle.txs_theorem_threads.specs.OnReplies.{res, on_replies}
use Rattle.txs_theorem_threads.specs.RepliesFit.{Halt, Going, Stopped, Short, Rerun, Phase, Out, In, OnEvent, SaysOutdated, Goes, ReplyFits, RepliesFit, book_asked}

-- which exchanges fit which events, by the phase that they begin in
abbrev pub Fitting : Type 1
Fitting = Phase → List Exchange → List SeenEvent → Type 0

-- the first exchange fits, and those after it
abbrev pub Splits : List CellDefinition → Fitting → Type 0
Splits cells F = (ph : Phase) (x : Exchange) (xs : List Exchange) (es : List SeenEvent) → F ph (x ∷ xs) es → ReplyFits cells ph x.ask x.reply (λ ph1 es1. F ph1 xs es1) es

pub fit_splits : (cells : List CellDefinition) → Splits cells (RepliesFit cells)
fit_splits cells ph x xs es h = h

abbrev pub IsShort : {S : Type 0} → Halt S → Type 0
IsShort Going = ⊥
IsShort (Stopped s) = ⊥
IsShort (Short s) = Unit {0}
IsShort (Rerun s) = ⊥

abbrev pub HasStopped : {S : Type 0} → Halt S → Type 0
HasStopped Going = ⊥
HasStopped (Stopped s) = Unit {0}
HasStopped (Short s) = ⊥
HasStopped (Rerun s) = ⊥

-- an ask has no reply yet, or one that fits, and then fewer exchanges are left
pub answered_by : (cells : List CellDefinition) (F : Fitting) (ph : Phase) (es : List SeenEvent) (a : Ask) (next : Reply → List Exchange → Goes) → ((r : Reply) (xs : List Exchange) → F ph (record { ask = a; reply = r } ∷ xs) es → ReplyFits cells ph a r (next r xs) es)
    → (s : ActorState) (P : Reception → Type 0) → F ph s.todo es → P (Unreplied (record s { wants = Some a }))
    → ((r : Reply) (xs : List Exchange) → length xs < length s.todo → ReplyFits cells ph a r (next r xs) es → P (Replied r (record s { todo = xs }))) → P (asks a s)
unfolding asks
answered_by cells F ph es a next first s P fits un he = go s.todo refl fits
  where
    go : (l : List Exchange) → s.todo ≡ l → F ph l es → P (receives a s l)
    go [] q f = un
    go (x ∷ xs) q f = test (same_ask a x.ask) refl
      where
        test : (b : Bool) → same_ask a x.ask ≡ b → P (if b then Replied x.reply (record s { todo = xs }) else Unreplied (record s { wants = Some a }))
        test true e =
            let fewer : length xs < length s.todo = omega (arith, ap length q) in
            he x.reply xs fewer (first x.reply xs (subst (λ q1. F ph (record { ask = q1; reply = x.reply } ∷ xs) es) (sym (same_ask-sound a x.ask e)) f))
        test false e = un

pub answered_less : (cells : List CellDefinition) (F : Fitting) → Splits cells F → (ph : Phase) (es : List SeenEvent) (a : Ask) (s : ActorState) (P : Reception → Type 0) → F ph s.todo es → P (Unreplied (record s { wants = Some a })) →
    ((r : Reply) (xs : List Exchange) → length xs < length s.todo → ReplyFits cells ph a r (λ ph1 es1. F ph1 xs es1) es → P (Replied r (record s { todo = xs }))) → P (asks a s)
answered_less cells F splits ph es a s P fits un he = answered_by cells F ph es a (λ r xs ph1 es1. F ph1 xs es1) (λ r xs f. splits ph (record { ask = a; reply = r }) xs es f) s P fits un he

pub answered : (cells : List CellDefinition) (F : Fitting) → Splits cells F → (ph : Phase) (es : List SeenEvent) (a : Ask) (s : ActorState) (P : Reception → Type 0) → F ph s.todo es → P (Unreplied (record s { wants = Some a })) → ((r : Reply) (xs : List Exchange) → ReplyFits cells ph a r (λ ph1 es1. F ph1 xs es1) es → P (Replied r (record s { todo = xs }))) → P (asks a s)
answered cells F splits ph es a s P fits un he = answered_less cells F splits ph es a s P fits un (λ r xs l m. he r xs m)

-- a step that goes on, as parts of a tree
pub res_step : {A B : Type 0} (x : StepResult A) (go : A → ActorState → StepResult B) → res (on_step x go) ≡ bind (res x) (λ a s. res (go a s))
res_step (Continue a s) go = refl
res_step (Break f s) go = refl
res_step (Redo s) go = refl
res_step (Await s) go = refl
res_step Malformed go = refl

-- a step that changes the state alone goes on
pub step_then : {A B : Type 0} (x : StepResult A) (g : A → ActorState → ActorState) (go : A → ActorState → Completion ActorState B) → bind (res (on_step x (λ a s. Continue a (g a s)))) go ≡ bind (res x) (λ a s. go a (g a s))
step_then (Continue a s) g go = refl
step_then (Break f s) g go = refl
step_then (Redo s) g go = refl
step_then (Await s) g go = refl
step_then Malformed g go = refl

pub res_itself : {A : Type 0} (x : StepResult A) → bind (res x) (λ a s. Completes a s) ≡ res x
res_itself (Continue a s) = refl
res_itself (Break f s) = refl
res_itself (Redo s) = refl
res_itself (Await s) = refl
res_itself Malformed = refl

-- a pure part, in two worlds whose states go together
pub carried_related : (S T : Type 0) (k : Link S T) {A B : Type 0} (y : Completion (Unit {0}) A) (go1 : A → S → Completion S B) (go2 : A → T → Completion T B) (s : S) (t : T) → IsQuiet y → k.rel s t → ((a : A) → Related k (go1 a s) (go2 a t)) → Related k (bind (carried s y) go1) (bind (carried t y) go2)
carried_related S T k (Completes a u) go1 go2 s t q r h = h a
carried_related S T k (Recurs vs u) go1 go2 s t q r h = k.invalid_both
carried_related S T k (Faults f u) go1 go2 s t q r h = (refl, k.faults_of s t r)
carried_related S T k (Retries u) go1 go2 s t q r h = absurd q
carried_related S T k (Waits u) go1 go2 s t q r h = absurd q
carried_related S T k (OutOfTurns u) go1 go2 s t q r h = k.out_of_turns_of s t r
carried_related S T k Invalid go1 go2 s t q r h = k.invalid_both

-- a form on a cell that it takes
pub on_cell_related : (T : Type 0) (k : Link ActorState T) (rc : Result CellId FaultKind) (span : Span) (go1 : CellId → ActorState → StepResult Value) (go2 : CellId → T → Completion T Value) (s : ActorState) (t : T) → k.rel s t → ((c : CellId) → rc ≡ Ok c → Related k (res (go1 c s)) (go2 c t)) → Related k (res (on_step (step_of rc span s) go1)) (bind (result_of rc span t) go2)
on_cell_related T k (Ok c) span go1 go2 s t r h = h c refl
on_cell_related T k (Err e) span go1 go2 s t r h = (refl, k.faults_of s t r)

abbrev IsOk : Result CellId FaultKind → Type 0
IsOk (Ok c) = Unit {0}
IsOk (Err k) = ⊥

cell_if_is : (b : Bool) (k : FaultKind) (d c : CellId) → cell_if b k d ≡ Ok c → Cell d ≡ Cell c
cell_if_is true k d c e = cc
cell_if_is false k d c e = absurd (subst IsOk (sym e) tt)

cell_kind_is : (o : Option CellKind) (k : FaultKind) (inside : Bool) (d c : CellId) → cell_of_kind o k inside d ≡ Ok c → Cell d ≡ Cell c
cell_kind_is None k false d c e = cc
cell_kind_is None k true d c e = cell_if_is (same_kind d.kind Ref) OutsideOnly d c e
cell_kind_is (Some w) k inside d c e = cell_if_is (same_kind d.kind w) k d c e

-- the cell that a form takes is the value
pub cell_is : (r : FormRule) (inside : Bool) (v : Value) (c : CellId) → cell_of r inside v ≡ Ok c → v ≡ Cell c
cell_is r inside (Cell d) c e = cell_kind_is r.takes r.fault inside d c e
cell_is r inside Nil c e = absurd (subst IsOk (sym e) tt)
cell_is r inside (Truth b) c e = absurd (subst IsOk (sym e) tt)
cell_is r inside (Int z) c e = absurd (subst IsOk (sym e) tt)
cell_is r inside (Key bs) c e = absurd (subst IsOk (sym e) tt)
cell_is r inside (Text bs) c e = absurd (subst IsOk (sym e) tt)
cell_is r inside (Vector vs) c e = absurd (subst IsOk (sym e) tt)

-- what a transaction did so far: each commute is of such a callee, and each ref that it set has a value
abbrev pub Kept : (Callee → Type 0) → PlainTxFrame → Type 0
Kept P w = AllCommutes P w.commutes × Owned w

-- in a try on this world the first exchange fits, where it is a look
abbrev pub LooksFit : List CellDefinition → Fitting → Type 0
LooksFit cells F = (R : World) (c : CellId) (p : ℕ) (r : Reply) (xs : List Exchange) (es : List SeenEvent) → F (In R) (record { ask = ask.Look c p; reply = r } ∷ xs) es → ReplyFits cells (In R) (ask.Look c p) r (λ ph1 es1. F ph1 xs es1) es

-- an ask that a tree makes: agents ask for actions, and hand them in
abbrev pub IsOwn : Ask → Type 0
IsOwn (ask.Take g) = ⊥
IsOwn (ask.Finish g new sends) = ⊥
IsOwn _ = Unit {0}

-- what is waited for is the answer of such an ask
abbrev pub WantsOwn : Option Ask → Type 0
WantsOwn None = ⊥
WantsOwn (Some q) = IsOwn q

-- the book that answers what is asked
abbrev pub asked_of : List CellDefinition → Option Ask → Option ℕ
asked_of cells None = None
asked_of cells (Some q) = Some (book_asked cells q)

-- what is asked within a try is asked of the store
abbrev pub IsOfStore : Option Ask → Type 0
IsOfStore w = (cells : List CellDefinition) → asked_of cells w ≡ Some 0

-- an actor's state: this was printed, and these sends are held
abbrev pub HasPrinted : List ℕ → Option (List Action) → ActorState → Type 0
HasPrinted out sends s = (s.printed ≡ out) × (held_in s.acting ≡ sends)

-- ---- a world that may lack the value of a ref

abbrev pub MayLack : Option ℕ → Type 0
MayLack None = ⊥
MayLack (Some k) = Unit {0}

-- this is so, or the world lacks a value and the body on it waits already
abbrev pub Unless : {S : Type 0} → Option ℕ → Halt S → Type 0 → Type 0
Unless None o X = X
Unless (Some k) o X = HasStopped o ⊎ X

pub unless : {S : Type 0} (u : Option ℕ) (o : Halt S) (X : Type 0) → X → Unless u o X
unless None o X x = x
unless (Some k) o X x = inr x

pub unless_going : {S : Type 0} (u : Option ℕ) (o : Halt S) (X Y : Type 0) → (X → Y) → Unless {S = S} u Going X → Unless u o Y
unless_going None o X Y f h = f h
unless_going (Some k) o X Y f h = ⊎_elim (λ z. absurd z) (λ x. inr (f x)) h

pub unless_ahead : {S : Type 0} (u : Option ℕ) (t : S) (X : Type 0) → MayLack u → Unless u (Stopped t) X
unless_ahead None t X h = absurd h
unless_ahead (Some k) t X h = inl tt

-- the ref's value is there
abbrev pub IsThere : Option ℕ → CellId → Type 0
IsThere None c = Unit {0}
IsThere (Some k) c = (c.number == k) ≡ false

-- what is to come fits, and an answer of the store is waited for
abbrev pub FitsWaiting : Fitting → World → List SeenEvent → List ℕ → Option (List Action) → ActorState → Type 0
FitsWaiting F R es out sends s = F (In R) s.todo es × HasPrinted out sends s × WantsOwn s.wants × IsOfStore s.wants

-- what is to come fits, and turns don't suffice
abbrev pub FitsShort : Fitting → World → List SeenEvent → List ℕ → Option (List Action) → ActorState → Halt TxState → Type 0
FitsShort F R es out sends s o = IsShort o × F (In R) s.todo es × HasPrinted out sends s

-- a value was no longer kept, and the world has it
abbrev pub IsOutdated : Option ℕ → EventKind → Type 0
IsOutdated u kind = (c : CellId) × SaysOutdated c kind × IsThere u c

-- the next event is such a retry
abbrev pub Reruns : Fitting → Option ℕ → World → List SeenEvent → List ℕ → Option (List Action) → ActorState → Type 0
Reruns F u R es out sends s = (e : SeenEvent) × (es1 : List SeenEvent) × (es ≡ e ∷ es1) × (e.book ≡ 0) × (R ≡ e.R) × IsOutdated u e.kind × F Out s.todo es1 × HasPrinted out sends s

-- Within a try: what was done is the same, and is kept so, and what is to come fits. On a world that lacks a value the body may wait before.
abbrev pub tx_link : (Callee → Type 0) → Fitting → Option ℕ → World → List SeenEvent → List ℕ → Option (List Action) → Link ActorState TxState
tx_link P F u R es out sends = record {
  rel = λ s t. (s.done ≡ t.done) × Kept P s.done × F (In R) s.todo es × HasPrinted out sends s;
  faults = λ s t. F (In R) s.todo es × HasPrinted out sends s;
  waits = λ s o. Unless u o (FitsWaiting F R es out sends s);
  out_of_turns = λ s o. Unless u o (FitsShort F R es out sends s o);
  retries = λ s o. Unless u o (Reruns F u R es out sends s);
  waits_loose = λ s h o. unless_going u o (FitsWaiting F R es out sends s) (FitsWaiting F R es out sends s) (λ x. x) h;
  out_of_turns_loose = λ s h o. unless_going u o (FitsShort F R es out sends s Going) (FitsShort F R es out sends s o) (λ x. absurd x.0) h;
  retries_loose = λ s h o. unless_going u o (Reruns F u R es out sends s) (Reruns F u R es out sends s) (λ x. x) h;
  faults_of = λ s t r. (r.2, r.3);
  out_of_turns_of = λ s t r. unless u (Short t) (FitsShort F R es out sends s (Short t)) (tt, r.2, r.3);
  invalid = λ b. Unit {0};
  invalid_both = tt;
  invalid_loose = λ h b. tt;
  ahead = λ t. MayLack u;
  ahead_stops = λ t h s. (
    unless_ahead u t (FitsWaiting F R es out sends s) h,
    unless_ahead u t (FitsShort F R es out sends s (Stopped t)) h,
    unless_ahead u t (Reruns F u R es out sends s) h,
  );
  ahead_invalid = λ t h. tt;
}

module _ (cells : List CellDefinition) (F : Fitting) (looks : LooksFit cells F) (P : Callee → Type 0) (u : Option ℕ) (R : World) (out : List ℕ) (sends : Option (List Action)) (es : List SeenEvent) where
  abbrev k : Link ActorState TxState
  k = tx_link P F u R es out sends

  retry_read : (l : List SeenEvent) → es ≡ l → (c : CellId) (s : ActorState) (v : Value) (t : TxState) → IsThere u c → HasPrinted out sends s → OnEvent 0 (λ e. (R ≡ e.R) × SaysOutdated c e.kind) (λ es1. F Out s.todo es1) l → Related k (Retries s) (Completes v t)
  retry_read [] q c s v t there pr m = absurd m
  retry_read (e ∷ l) q c s v t there pr m = unless u Going (Reruns F u R es out sends s) (e, l, q, m.0, m.1.0, (c, m.1.1, there), m.2, pr)

  looked_related : (c : CellId) (s : ActorState) (t : TxState) (r : Reply) (xs : List Exchange) → k.rel s t → IsThere u c → ReplyFits cells (In R) (ask.Look c s.at) r (λ ph1 es1. F ph1 xs es1) es → Related k (res (heard value_there (Replied r (record s { todo = xs })))) (Completes (R c.number) t)
  looked_related c s t (reply.Is v) xs r there m = (sym m.0, (r.0, r.1, m.1, r.3))
  looked_related c s t (reply.Retry d) xs r there m = retry_read es refl c (record s { todo = xs }) (R c.number) t there r.3 m
  looked_related c s t _ xs r there m = tt

  -- the world's value of a ref, where it is there
  asked_at : (c : CellId) (s : ActorState) (t : TxState) → k.rel s t → IsThere u c → Related k (res (heard value_there (asks (ask.Look c s.at) s))) (Completes (R c.number) t)
  asked_at c s t r there =
      answered_by cells F (In R) es (ask.Look c s.at) (λ rep xs ph1 es1. F ph1 xs es1) (λ rep xs f. looks R c s.at rep xs es f) s (λ h. Related k (res (heard value_there h)) (Completes (R c.number) t)) r.2
      (unless u Going (FitsWaiting F R es out sends (record s { wants = Some (ask.Look c s.at) })) (r.2, r.3, tt, λ ds. refl)) (λ rep xs l m. looked_related c s t rep xs r there m)

  -- or where it may not be
  wanted_at : (w : Option ℕ) → w ≡ u → (c : CellId) (s : ActorState) (t : TxState) → k.rel s t → Related k (res (heard value_there (asks (ask.Look c s.at) s))) (if lacks w None c.number then Waits t else Completes (R c.number) t)
  wanted_at None same c s t r = asked_at c s t r (subst (λ x. IsThere x c) same tt)
  wanted_at (Some j) same c s t r = test (c.number == j) refl
    where
      test : (b : Bool) → (c.number == j) ≡ b → Related k (res (heard value_there (asks (ask.Look c s.at) s))) (if b then Waits t else Completes (R c.number) t)
      test true is = ahead_of ActorState TxState k (res (heard value_there (asks (ask.Look c s.at) s))) t (subst (λ x. MayLack x) same tt)
      test false is = asked_at c s t r (subst (λ x. IsThere x c) same is)

  -- a value of its own
  owned_at : (w : Option ℕ) (v : Value) (c : CellId) (s : ActorState) (t : TxState) → k.rel s t → Related k (Completes v s) (if lacks w (Some v) c.number then Waits t else Completes v t)
  owned_at None v c s t r = (refl, r)
  owned_at (Some j) v c s t r = (refl, r)

  -- a ref's value, its own or the world's
  look_at : (c : CellId) (s : ActorState) (t : TxState) → k.rel s t → Related k (res (look c s)) (looked u R c t)
  unfolding look
  look_at c s t r =
      let value_in : PlainTxFrame → Option Value = λ w. own w c.number in
      subst (λ o. Related k (res (look c s)) (if lacks u o c.number then Waits t else Completes (value_or o (R c.number)) t)) (ap value_in r.0) (go (buffered s.done.values c.number))
    where
      go : (o : Option Value) → Related k (res (buffered_or o s (heard value_there (asks (ask.Look c s.at) s)))) (if lacks u o c.number then Waits t else Completes (value_or o (R c.number)) t)
      go (Some v) = owned_at u v c s t r
      go None = wanted_at u refl c s t r

  noted_rel : (c : CellId) (s : ActorState) (t : TxState) (o : Option Value) → k.rel s t → k.rel s (noted c o t)
  noted_rel c s t None r = r
  noted_rel c s t (Some v) r = r

  taken_related : (c : CellId) (s : ActorState) (t : TxState) → k.rel s t → Related k (res (look c s)) (taken_lacking u R c t)
  taken_related c s t r =
      subst (λ x. Related k x (taken_lacking u R c t)) (res_itself (look c s))
      (bind_related ActorState TxState k (res (look c s)) (looked u R c t) (λ v s1. Completes v s1) (λ v t1. Completes v (noted c (own t1.done c.number) t1)) (look_at c s t r)
      (λ v s1 t1 r1. (refl, noted_rel c s1 t1 (own t1.done c.number) r1)))

  -- ---- what a ref gets

  abbrev OkSome : Result PlainTxFrame FaultKind → Type 0
  OkSome (Ok w) = Kept P w
  OkSome (Err e) = Unit {0}

  set_some : (c : CellId) (v : Value) (w : PlainTxFrame) → Kept P w → OkSome (set_ref c v w)
  set_some c v w h = test (is_commuted w c.number)
    where
      test : (b : Bool) → OkSome (if b then Err SetAfterCommute else Ok (record w { values = with_write w.values c v; sets = with_cell w.sets c }))
      test true = tt
      test false = (h.0, owned_set c v w h.1)

  done_related : (rw : Result PlainTxFrame FaultKind) (span : Span) (v : Value) (s : ActorState) (t : TxState) → OkSome rw → k.rel s t → Related k (res (on_step (step_of rw span s) (λ w s1. Continue v (record s1 { done = w })))) (done_as rw span v t)
  done_related (Ok w) span v s t h r = (refl, (refl, h, r.2, r.3))
  done_related (Err e) span v s t h r = (refl, (r.2, r.3))

  set_related : (c : CellId) (span : Span) (v : Value) (s : ActorState) (t : TxState) → k.rel s t → Related k (res (set_own span v c s)) (done_as (set_ref c v t.done) span v t)
  set_related c span v s t r =
      let set : PlainTxFrame → Result PlainTxFrame FaultKind = λ w. set_ref c v w in
      subst (λ rw. Related k (res (set_own span v c s)) (done_as rw span v t)) (ap set r.0) (done_related (set_ref c v s.done) span v s t (set_some c v s.done r.1) r)

  commute_related : (c : CellId) (callee : Callee) (vs : List Value) (span : Span) (w : Value) (s : ActorState) (t : TxState) (used : Bool) → P callee → k.rel s t
      → Related k (res (close_own (Some (record { cell = c; callee = callee; args = vs })) span w c s)) (Completes w (record t { done = commute_ref c callee vs w t.done; used = used }))
  commute_related c callee vs span w s t used p r =
      let now : PlainTxFrame → PlainTxFrame = λ x. commute_ref c callee vs w x in
      (refl, (ap now r.0, (commutes_both P s.done.commutes (record { cell = c; callee = callee; args = vs } ∷ []) r.1.0 (p, tt), owned_commute c callee vs w s.done r.1.1), r.2, r.3))

  -- ---- the forms, whose callees are pure

  module _ (f : Applies ActorState) (g : Applies TxState) (q : Applies (Unit {0}))
      (left : (c : Callee) (vs : List Value) (s : ActorState) → P c → (f c vs s ≡ carried s (q c vs tt)) × IsQuiet (q c vs tt))
      (right : (c : Callee) (vs : List Value) (t : TxState) → P c → (g c vs t ≡ carried t (q c vs tt)) × IsQuiet (q c vs tt)) where
    callee_related : (c : Callee) (vs : List Value) (s : ActorState) (t : TxState) (go1 : Value → ActorState → Completion ActorState Value) (go2 : Value → TxState → Completion TxState Value) → P c → k.rel s t → ((w : Value) → Related k (go1 w s) (go2 w t)) → Related k (bind (f c vs s) go1) (bind (g c vs t) go2)
    callee_related c vs s t go1 go2 p r h =
        let l = left c vs s p in
        subst (λ y. Related k (bind (f c vs s) go1) (bind y go2)) (sym (right c vs t p).0)
        (subst (λ x. Related k (bind x go1) (bind (carried t (q c vs tt)) go2)) (sym l.0)
        (carried_related ActorState TxState k (q c vs tt) go1 go2 s t l.1 r h))

    alter_related : (rc : Result CellId FaultKind) (span : Span) (callee : Callee) (vs : List Value) (s : ActorState) (t : TxState) → P callee → k.rel s t →
        Related k (bind (res (on_step (step_of rc span s) (λ c s1. on_step (look c s1) (λ x s2. Continue x (record s2 { commuting = None }))))) (λ v s1. bind (f callee (v ∷ vs) s1) (λ w s2. res (on_step (step_of rc span s2) (close_own s2.commuting span w)))))
        (bind (result_of rc span t) (λ c t1. bind (taken_lacking u R c t1) (λ v t2. bind (g callee (v ∷ vs) t2) (λ w t3. done_as (set_ref c w t3.done) span w t3))))
    alter_related (Err e) span callee vs s t p r = (refl, (r.2, r.3))
    alter_related (Ok c) span callee vs s t p r =
        let go : Value → ActorState → Completion ActorState Value = λ v s1. bind (f callee (v ∷ vs) s1) (λ w s2. res (close_own s2.commuting span w c s2)) in
        let on : Value → TxState → Completion TxState Value = λ v t2. bind (g callee (v ∷ vs) t2) (λ w t3. done_as (set_ref c w t3.done) span w t3) in
        subst (λ x. Related k x (bind (taken_lacking u R c t) on)) (sym (step_then (look c s) (λ x s2. record s2 { commuting = None }) go))
        (bind_related ActorState TxState k (res (look c s)) (taken_lacking u R c t) (λ v s1. go v (record s1 { commuting = None })) on (taken_related c s t r)
        (λ v s1 t1 r1. callee_related callee (v ∷ vs) (record s1 { commuting = None }) t1 (λ w s2. res (close_own s2.commuting span w c s2)) (λ w t3. done_as (set_ref c w t3.done) span w t3) p r1
        (λ w. set_related c span w (record s1 { commuting = None }) t1 r1)))

    commutes_related : (rc : Result CellId FaultKind) (m : Mark) (callee : Callee) (vs : List Value) (s : ActorState) (t : TxState) → P callee → k.rel s t →
        Related k (bind (res (on_step (step_of rc m.span s) (λ c s1. on_step (look c s1) (λ x s2. Continue x (record s2 { commuting = Some (record { cell = c; callee = callee; args = vs }) }))))) (λ v s1. bind (f callee (v ∷ vs) s1) (λ w s2. res (on_step (step_of rc m.span s2) (close_own s2.commuting m.span w)))))
        (bind (result_of rc m.span t) (λ c t1. tx_update_lacking u R update_of.Commute m c callee vs g t1))
    commutes_related (Err e) m callee vs s t p r = (refl, (r.2, r.3))
    commutes_related (Ok c) m callee vs s t p r =
        let o : Commute = record { cell = c; callee = callee; args = vs } in
        let go : Value → ActorState → Completion ActorState Value = λ v s1. bind (f callee (v ∷ vs) s1) (λ w s2. res (close_own s2.commuting m.span w c s2)) in
        let on : Value → TxState → Completion TxState Value = λ v t2. bind (g callee (v ∷ vs) t2) (λ w t3. Completes w (record t3 { done = commute_ref c callee vs w t3.done; used = t3.used || m.wanted })) in
        subst (λ x. Related k x (tx_update_lacking u R update_of.Commute m c callee vs g t)) (sym (step_then (look c s) (λ x s2. record s2 { commuting = Some o }) go))
        (bind_related ActorState TxState k (res (look c s)) (looked u R c t) (λ v s1. go v (record s1 { commuting = Some o })) on (look_at c s t r)
        (λ v s1 t1 r1. callee_related callee (v ∷ vs) (record s1 { commuting = Some o }) t1 (λ w s2. res (close_own s2.commuting m.span w c s2)) (λ w t3. Completes w (record t3 { done = commute_ref c callee vs w t3.done; used = t3.used || m.wanted })) p r1
        (λ w. commute_related c callee vs m.span w (record s1 { commuting = Some o }) t1 (t1.used || m.wanted) p r1)))

  -- a put in a transaction
  put_related : (m : Mark) (rc : Result CellId FaultKind) (v : Value) (s : ActorState) (t : TxState) → k.rel s t → Related k (res (on_step (step_of rc m.span s) (assign_cell RefSet true m.span v))) (bind (result_of rc m.span t) (λ c t1. tx_put RefSet m.span c v t1))
  put_related m rc v s t r = on_cell_related TxState k rc m.span (assign_cell RefSet true m.span v) (λ c t1. tx_put RefSet m.span c v t1) s t r (λ c e. set_related c m.span v s t r)

  -- a look in a transaction
  ensure_related : (c : CellId) (s : ActorState) (t : TxState) → k.rel s t → Related k (res (read_cell Ensure true c s)) (tx_look_lacking u R Ensure c t)
  ensure_related c s t r =
      let go : Value → ActorState → StepResult Value = λ v s1. Continue v (record s1 { done = ensure_ref c s1.done }) in
      let kept : PlainTxFrame → PlainTxFrame = λ w. ensure_ref c w in
      subst (λ x. Related k x (tx_look_lacking u R Ensure c t)) (sym (res_step (look c s) go))
      (bind_related ActorState TxState k (res (look c s)) (taken_lacking u R c t) (λ v s1. res (go v s1)) (λ v t1. Completes v (record t1 { done = ensure_ref c t1.done })) (taken_related c s t r)
      (λ v s1 t1 r1. (refl, (ap kept r1.0, r1.1, r1.2, r1.3))))

  cell_read : (form : LookForm) (c : CellId) (s : ActorState) (t : TxState) → k.rel s t → Related k (res (read_cell form true c s)) (tx_look_lacking u R form c t)
  cell_read Deref c s t r = taken_related c s t r
  cell_read Ensure c s t r = ensure_related c s t r

  -- a send in a transaction is held
  held_related : (m : Mark) (v : Value) (callee : Callee) (vs : List Value) (s : ActorState) (t : TxState) → k.rel s t → Related k (res (send_to true m.span v callee vs s)) ((in_transaction_lacking u R).send true m v callee vs t)
  held_related m v callee vs s t r =
      let act : CellId → Action = λ c. record { agent = c; callee = callee; args = vs; span = m.span } in
      on_cell_related TxState k (cell_of (rule form_of.Send) true v) m.span (λ c s1. send_action true (act c) s1) (λ c t1. Completes v (record t1 { done = hold_send (act c) t1.done })) s t r
      (λ c e. let held : PlainTxFrame → PlainTxFrame = λ w. hold_send (act c) w in (sym (cell_is (rule form_of.Send) true v c e), (ap held r.0, r.1, r.2, r.3)))

-- the forms of a try, on replies and on its world, which may lack a value, where functions are sound
module _ (cells : List CellDefinition) (F : Fitting) (looks : LooksFit cells F) (u : Option ℕ) (R : World) (out : List ℕ) (sends : Option (List Action)) (es : List SeenEvent) (n : ℕ) (functions : List PlainFunction) (sound : SoundFunctions [] functions) where
  abbrev validators : Validators
  validators = validators_of cells

  abbrev tries_link : Link ActorState TxState
  tries_link = tx_link (IsPure (known functions)) F u R es out sends

  tx_alike : (d : ℕ) → Alike ActorState TxState tries_link (on_replies validators) (in_transaction_lacking u R) (call_at (λ e. on_replies validators) n functions d) (call_at (λ e. in_transaction_lacking u R) n functions d) n n (λ i. i ≡ true) (placed (known functions))
  unfolding print
  tx_alike d = record {
    print = tx_print;
    look = tx_looks;
    put = tx_puts;
    update = tx_updates;
    send = tx_sends;
    dosync = tx_dosync;
  }
    where
      f : Span → Applies ActorState
      f span = apply (call_at (λ e. on_replies validators) n functions d true) span

      g : Span → Applies TxState
      g span = apply (call_at (λ e. in_transaction_lacking u R) n functions d true) span

      left : (span : Span) (c : Callee) (vs : List Value) (s : ActorState) → IsPure (known functions) c → (f span c vs s ≡ carried s (quietly n functions d span c vs tt)) × IsQuiet (quietly n functions d span c vs tt)
      left span c vs s p = callee_carried (λ e. on_replies validators) n true functions sound d span c vs s p

      right : (span : Span) (c : Callee) (vs : List Value) (t : TxState) → IsPure (known functions) c → (g span c vs t ≡ carried t (quietly n functions d span c vs tt)) × IsQuiet (quietly n functions d span c vs tt)
      right span c vs t p = callee_carried (λ e. in_transaction_lacking u R) n true functions sound d span c vs t p

      tx_print : (inside : Bool) (vs : List Value) (s : ActorState) (t : TxState) → inside ≡ true → tries_link.rel s t → Related tries_link ((on_replies validators).print inside vs s) ((in_transaction_lacking u R).print inside vs t)
      tx_print true vs s t m r = tt
      tx_print false vs s t m r = absurd (false≢true m)

      tx_looks : (form : LookForm) (inside : Bool) (m : Mark) (c : Value) (s : ActorState) (t : TxState) → may_stand (rule (form_of.Look form)).stands inside ≡ true → inside ≡ true → tries_link.rel s t → Related tries_link ((on_replies validators).look form inside m c s) ((in_transaction_lacking u R).look form inside m c t)
      tx_looks form true m c s t q i r =
          on_cell_related TxState tries_link (cell_of (rule (form_of.Look form)) true c) m.span (read_cell form true) (tx_look_lacking u R form) s t r (λ x e. cell_read cells F looks (IsPure (known functions)) u R out sends es form x s t r)
      tx_looks form false m c s t q i r = absurd (false≢true i)

      tx_puts : (form : PutForm) (inside : Bool) (m : Mark) (c w : Value) (s : ActorState) (t : TxState) → may_stand (rule (form_of.Put form)).stands inside ≡ true → inside ≡ true → (((x : ℕ) → MayCallAt (known functions) inside x) → Applied ActorState TxState tries_link (apply (call_at (λ e. on_replies validators) n functions d inside) m.span) (apply (call_at (λ e. in_transaction_lacking u R) n functions d inside) m.span)) → tries_link.rel s t
          → Related tries_link ((on_replies validators).put form inside m c w (apply (call_at (λ e. on_replies validators) n functions d inside) m.span) s) ((in_transaction_lacking u R).put form inside m c w (apply (call_at (λ e. in_transaction_lacking u R) n functions d inside) m.span) t)
      tx_puts RefSet true m c w s t q i h r = put_related cells F looks (IsPure (known functions)) u R out sends es m (cell_of (rule (form_of.Put RefSet)) true c) w s t r
      tx_puts Reset true m c w s t q i h r = absurd (false≢true q)
      tx_puts form false m c w s t q i h r = absurd (false≢true i)

      tx_updates : (form : UpdateForm) (inside : Bool) (m : Mark) (c : Value) (callee : Callee) (vs : List Value) (s : ActorState) (t : TxState) → may_stand (rule (form_of.Update form)).stands inside ≡ true → inside ≡ true → IsPure (known functions) callee → (((x : ℕ) → MayCallAt (known functions) inside x) → Applied ActorState TxState tries_link (apply (call_at (λ e. on_replies validators) n functions d inside) m.span) (apply (call_at (λ e. in_transaction_lacking u R) n functions d inside) m.span)) → tries_link.rel s t
          → Related tries_link ((on_replies validators).update form inside m c callee vs (apply (call_at (λ e. on_replies validators) n functions d inside) m.span) s) ((in_transaction_lacking u R).update form inside m c callee vs (apply (call_at (λ e. in_transaction_lacking u R) n functions d inside) m.span) t)
      tx_updates update_of.Alter true m c callee vs s t e i p h r =
          alter_related cells F looks (IsPure (known functions)) u R out sends es (f m.span) (g m.span) (quietly n functions d m.span) (left m.span) (right m.span) (cell_of (rule (form_of.Update update_of.Alter)) true c) m.span callee vs s t p r
      tx_updates update_of.Commute true m c callee vs s t e i p h r =
          commutes_related cells F looks (IsPure (known functions)) u R out sends es (f m.span) (g m.span) (quietly n functions d m.span) (left m.span) (right m.span) (cell_of (rule (form_of.Update update_of.Commute)) true c) m callee vs s t p r
      tx_updates update_of.Swap true m c callee vs s t e i p h r = tt
      tx_updates form false m c callee vs s t e i p h r = absurd (false≢true i)

      tx_sends : (inside : Bool) (m : Mark) (c : Value) (callee : Callee) (vs : List Value) (s : ActorState) (t : TxState) → inside ≡ true → tries_link.rel s t → Related tries_link ((on_replies validators).send inside m c callee vs s) ((in_transaction_lacking u R).send inside m c callee vs t)
      tx_sends true m c callee vs s t i r = held_related cells F looks (IsPure (known functions)) u R out sends es m c callee vs s t r
      tx_sends false m c callee vs s t i r = absurd (false≢true i)

      tx_dosync : (inside : Bool) (m : Mark) (e : Tree) (env : List Value) (s : ActorState) (t : TxState) → inside ≡ true → Keeps (placed (known functions)) true e →
          (true ≡ true → (s1 : ActorState) (t1 : TxState) → tries_link.rel s1 t1 → Related tries_link (closed (eval (on_replies validators) (call_at (λ x. on_replies validators) n functions d) n true e env s1)) (closed (eval (in_transaction_lacking u R) (call_at (λ x. in_transaction_lacking u R) n functions d) n true e env t1))) → (((x : ℕ) → MayCallAt (known functions) true x) → true ≡ true → Applied ActorState TxState tries_link (apply (call_at (λ x. on_replies validators) n functions d true) m.span) (apply (call_at (λ x. in_transaction_lacking u R) n functions d true) m.span)) → tries_link.rel s t →
          Related tries_link ((on_replies validators).dosync inside m e env (λ s1. closed (eval (on_replies validators) (call_at (λ x. on_replies validators) n functions d) n true e env s1)) (apply (call_at (λ x. on_replies validators) n functions d true) m.span) s)
          ((in_transaction_lacking u R).dosync inside m e env (λ t1. closed (eval (in_transaction_lacking u R) (call_at (λ x. in_transaction_lacking u R) n functions d) n true e env t1)) (apply (call_at (λ x. in_transaction_lacking u R) n functions d true) m.span) t)
      tx_dosync true m e env s t i p h a r = h refl s t r
      tx_dosync false m e env s t i p h a r = absurd (false≢true i)

  -- a try on replies of one world is the transaction on that world, up to where it comes to look at a ref whose value the world lacks
  pub tx_related : (d : ℕ) (e : Tree) (env : List Value) (s : ActorState) → Keeps (placed (known functions)) true e → s.done ≡ empty_frame → F (In R) s.todo es → HasPrinted out sends s → Related tries_link (closed (eval (on_replies validators) (call_at (λ x. on_replies validators) n functions d) n true e env s)) (tx_meaning_lacking n functions d e env u R)
  tx_related d e env s p own fits pr =
      let cf = call_at (λ x. on_replies validators) n functions d in
      let cg = call_at (λ x. in_transaction_lacking u R) n functions d in
      let nothing : Kept (IsPure (known functions)) s.done = subst (λ w. Kept (IsPure (known functions)) w) (sym own) (tt, owned_none) in
      closed_related ActorState TxState tries_link (eval (on_replies validators) cf n true e env s) (eval (in_transaction_lacking u R) cg n true e env tx_start)
      (eval_related ActorState TxState tries_link (on_replies validators) (in_transaction_lacking u R) cf cg n n (λ i. i ≡ true) (placed (known functions)) (inl refl) (tx_alike d)
      (calls_related ActorState TxState tries_link (λ x. on_replies validators) (λ x. in_transaction_lacking u R) n n functions (λ i. i ≡ true) (placed (known functions)) (inl refl) tx_alike (function_placed functions sound) d) e true env s tx_start p refl (own, nothing, fits, pr))
