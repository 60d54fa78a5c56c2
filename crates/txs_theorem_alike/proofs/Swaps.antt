-- A swap that has to be made again is back where it was opened.
use Rattle.std.proofs.Common.{◌≡◌, ℕ, zero, suc, Bool, true, false, List, [], ◌∷◌, ◌++◌, Option, Some, None, Result, Ok, Err, refl, sym, ap, ◌∙◌, subst, if◌then◌else◌}
use Rattle.std.specs.Prelude.{◌+◌}
use Rattle.txs_world_protocol.specs.Ask.{Exchange, same_ask}
use Rattle.txs_world_protocol.specs.declared.ask.Ask.{Ask}
use Rattle.txs_world_protocol.specs.declared.ask.Ask.TheVariants as ask
use Rattle.txs_world_protocol.specs.declared.ask.Reply.{Reply}
use Rattle.txs_world_protocol.specs.declared.ask.Reply.TheVariants as reply
use Rattle.txs_value_apply.specs.Core.{core, vector_of}
use Rattle.txs_value_apply.specs.Truth.{choose}
use Rattle.txs_value_cell.specs.Cells.{validator_at}
use Rattle.txs_value_cell.specs.Forms.{rule, cell_of}
use Rattle.txs_value_cell.specs.declared.form.CellForm.TheVariants as form
use Rattle.txs_value_cell.specs.declared.form.UpdateForm.TheVariants as update
use Rattle.txs_value_data.specs.Places.{nth, fault_at}
use Rattle.txs_value_data.specs.declared.fault.Fault.{Fault}
use Rattle.txs_value_data.specs.declared.fault.FaultKind.{FaultKind}
use Rattle.txs_value_data.specs.declared.fault.FaultKind.TheVariants.{InvalidState}
use Rattle.txs_value_data.specs.declared.fault.Span.{Span}
use Rattle.txs_value_data.specs.declared.op.Callee.{Callee}
use Rattle.txs_value_data.specs.declared.op.Callee.TheVariants as callee
use Rattle.txs_value_data.specs.declared.value.CellId.{CellId}
use Rattle.txs_value_data.specs.declared.value.Value.{Value}
use Rattle.txs_code_meaning.specs.declared.instr.OpenForm.TheVariants as open_form
use Rattle.txs_code_meaning.specs.ActorState.{ActorState, InHand, Reception, Replied, Unreplied, receives, asks, StepResult, Continue, Break, Redo, Await, Malformed, on_step, step_of, Reading, Says, SaysRetry, SaysNothing, read_as, heard, just_done, opened, Verdict, Landed, Outdated, Undone, Denied, swap_verdict, SwapInHand, open_atom, close_swap, break_swap, finish, cell_at, open_swap}
use Rattle.txs_code_meaning.specs.Machine.{PlainInstr, Push, Load, Store, Pop, Jump, JumpFalse, CoreOf, CallOf, Return, MakeVector, PrintOf, TxBegin, TxEnd, LookOf, PutOf, OpenOf, CloseOf, SendOf, Halt, TakeOf, RunOf, FinishOf, ThreadCode, fetch, Frame, Savepoint, Activity, Outside, Restarting, Running, Applying, Swapping, Configuration, Turned, Unfinished, back_to, saved, called, answered, put, told, raise, on, found, on_top, on_args, on_two, gives, returns_to, opens, closes_swap, closes, swap_decided, act, ends_with, fails_with, validates, where_accepted, where_valid, Destination, to_stack, to_commutes, to_validation, stack_after, doing_after, state_after, ahead, push_all, first_place, rested}
use Rattle.txs_code_meaning.specs.Opening.{given}
use Rattle.txs_theorem_runs.specs.Run.{exchange}
use Rattle.txs_theorem_alike.specs.Swaps.{still, unswap_in, unswap, IsSwapping, OpensSwap, IsPure, IsOfSwap, KeepsOpen, SwapKeepsOpen, IsBack, ChangedIsBack}

-- ---- steps that leave what counts

module _ (s0 : ActorState) where
  abbrev Same : ActorState → Type 0
  Same t = still t ≡ still s0

  abbrev Received : Reception → Type 0
  Received (Replied r s) = Same s
  Received (Unreplied s) = Unit {0}

  abbrev Step : {A : Type 0} → StepResult A → Type 0
  Step (Continue a s) = Same s
  Step (Break f s) = Unit {0}
  Step (Redo s) = Unit {0}
  Step (Await s) = Unit {0}
  Step Malformed = Unit {0}

  asks_keep : (q : Ask) (s : ActorState) → Same s → Received (asks q s)
  unfolding asks
  asks_keep q s h = go s.todo
    where
      go : (l : List Exchange) → Received (receives q s l)
      go [] = tt
      go (x ∷ l) = test (same_ask q x.ask)
        where
          test : (b : Bool) → Received (if b then Replied x.reply (record s { todo = l }) else Unreplied (record s { wants = Some q }))
          test true = h
          test false = tt

  reading_keeps : {A : Type 0} (r : Reading A) (s : ActorState) → Same s → Step (read_as r s)
  reading_keeps (Says a) s h = h
  reading_keeps SaysRetry s h = tt
  reading_keeps SaysNothing s h = tt

  heard_keeps : {A : Type 0} (reads : Reply → Reading A) (r : Reception) → Received r → Step (heard reads r)
  heard_keeps reads (Replied r s) h = reading_keeps (reads r) s h
  heard_keeps reads (Unreplied s) h = tt

  step_by : {A B : Type 0} (x : StepResult A) (f : A → ActorState → StepResult B) → Step x → ((a : A) (s : ActorState) → Same s → Step (f a s)) → Step (on_step x f)
  step_by (Continue a s) f h k = k a s h
  step_by (Break x s) f h k = tt
  step_by (Redo s) f h k = tt
  step_by (Await s) f h k = tt
  step_by Malformed f h k = tt

  step_of_keeps : {A : Type 0} (r : Result A FaultKind) (span : Span) (s : ActorState) → Same s → Step (step_of r span s)
  step_of_keeps (Ok a) span s h = h
  step_of_keeps (Err k) span s h = tt

  found_keeps : (o : Option Value) (s : ActorState) → Same s → Step (found o s)
  found_keeps None s h = tt
  found_keeps (Some v) s h = h

  open_atom_keeps : (c : CellId) (s : ActorState) → Same s → Step (open_atom c s)
  unfolding open_atom
  open_atom_keeps c s h = step_by (heard opened (asks (ask.OpenAt c) s)) _ (heard_keeps opened (asks (ask.OpenAt c) s) (asks_keep (ask.OpenAt c) s h)) (λ x s1 g. g)

  open_swap_keeps : (span : Span) (v : Value) (s : ActorState) → Same s → Step (open_swap false span v s)
  open_swap_keeps span v s h = step_by (cell_at (form.Update update.Swap) false span v s) open_atom (step_of_keeps (cell_of (rule (form.Update update.Swap)) false v) span s h) open_atom_keeps

-- ---- turns inside of a swap

module _ (from : Savepoint) (s0 : ActorState) where
  abbrev want : Configuration
  want = back_to from Outside (still s0)

  abbrev Keeps : Turned Configuration → Type 0
  Keeps o = KeepsOpen want o

  -- a swap with this savepoint is open
  abbrev Swaps : Activity → Type 0
  Swaps Outside = ⊥
  Swaps (Restarting left) = ⊥
  Swaps (Running left inner f) = ⊥
  Swaps (Applying left f work values) = ⊥
  Swaps (Swapping swap f) = f ≡ from

  there : (D : Activity) (d : Configuration) → Swaps D → Same s0 d.state → unswap_in D d ≡ want
  there Outside d t h = absurd t
  there (Restarting left) d t h = absurd t
  there (Running left inner f) d t h = absurd t
  there (Applying left f work values) d t h = absurd t
  there (Swapping swap f) d t h = ap (λ x. back_to x Outside (still d.state)) t ∙ ap (λ u. back_to from Outside u) h

  told_keeps : (x : StepResult (Unit {0})) (a : ActorState → Turned Configuration) → ((s : ActorState) → Keeps (a s)) → Keeps (told x a)
  told_keeps (Continue u s) a k = k s
  told_keeps (Break f s) a k = tt
  told_keeps (Redo s) a k = tt
  told_keeps (Await s) a k = tt
  told_keeps Malformed a k = tt

  fails_keep : (o : Option InHand) (f : Fault) (s : ActorState) → Keeps (fails_with o f s)
  fails_keep None f s = tt
  fails_keep (Some h) f s = λ z. absurd z

  raise_keeps : (D : Activity) (f : Fault) (s : ActorState) → Swaps D → Keeps (raise D f s)
  raise_keeps Outside f s t = absurd t
  raise_keeps (Restarting left) f s t = absurd t
  raise_keeps (Running left inner g) f s t = absurd t
  raise_keeps (Applying left g work values) f s t = absurd t
  raise_keeps (Swapping swap g) f s t = told_keeps (break_swap swap s) _ (λ s1. fails_keep s1.acting f s1)

  on_by : {A : Type 0} (D : Activity) (x : StepResult A) (a : A → ActorState → Turned Configuration) → Swaps D → Step s0 x → ((v : A) (s : ActorState) → Same s0 s → Keeps (a v s)) → Keeps (on D x a)
  on_by D (Continue v s) a t h k = k v s h
  on_by D (Break f s) a t h k = raise_keeps D f s t
  on_by (Swapping swap g) (Redo s) a t h k = tt
  on_by Outside (Redo s) a t h k = absurd t
  on_by (Restarting left) (Redo s) a t h k = absurd t
  on_by (Running left inner g) (Redo s) a t h k = absurd t
  on_by (Applying left g work values) (Redo s) a t h k = absurd t
  on_by D (Await s) a t h k = tt
  on_by D Malformed a t h k = tt

  gives_keeps : (c : Configuration) (rest : List Value) (x : StepResult Value) → Swaps c.doing → Step s0 x → Keeps (gives c rest x)
  gives_keeps c rest x t h = on_by c.doing x _ t h (λ v s g z. there c.doing (ahead (v ∷ rest) s c) t g)

  top_keeps : (stack : List Value) (a : Value → List Value → Turned Configuration) → ((v : Value) (rest : List Value) → Keeps (a v rest)) → Keeps (on_top stack a)
  top_keeps [] a k = tt
  top_keeps (v ∷ stack) a k = k v stack

  args_keep : (n : ℕ) (stack vs : List Value) (a : List Value → List Value → Turned Configuration) → ((ws rest : List Value) → Keeps (a ws rest)) → Keeps (on_args n stack vs a)
  args_keep zero stack vs a k = k vs stack
  args_keep (suc n) [] vs a k = tt
  args_keep (suc n) (v ∷ stack) vs a k = args_keep n stack (v ∷ vs) a k

  two_keep : (stack : List Value) (a : Value → Value → List Value → Turned Configuration) → ((w v : Value) (rest : List Value) → Keeps (a w v rest)) → Keeps (on_two stack a)
  two_keep stack a k = top_keeps stack _ (λ w under. top_keeps under _ (k w))

  validates_keeps : (code : ThreadCode) (f : Callee) (v : Value) (span : Span) (c : Configuration) → Swaps c.doing → Same s0 c.state → Keeps (validates code f v span c)
  validates_keeps code (callee.Core op) v span c t h = on_by c.doing _ _ t (step_of_keeps s0 (core op (v ∷ [])) span c.state h) (λ a s g z. there c.doing (record c { state = answered a s }) t g)
  validates_keeps code (callee.Function f) v span c t h = λ z. there c.doing (called code f (v ∷ []) to_validation c.place c.stack c) t h

  abbrev clear : Configuration → Configuration
  clear c = record c { state = record c.state { accepted = None } }

  accepted_keeps : (code : ThreadCode) (o : Option Bool) (f : Callee) (v : Value) (span : Span) (c : Configuration) (a : Configuration → Turned Configuration) → Swaps c.doing → Same s0 c.state → Keeps (a (clear c)) → Keeps (where_accepted code o f v span c a)
  accepted_keeps code None f v span c a t h k = validates_keeps code f v span c t h
  accepted_keeps code (Some true) f v span c a t h k = k
  accepted_keeps code (Some false) f v span c a t h k = raise_keeps c.doing (fault_at InvalidState span) (record c.state { accepted = None }) t

  valid_keeps : (code : ThreadCode) (o : Option Callee) (v : Value) (span : Span) (c : Configuration) (a : Configuration → Turned Configuration) → Swaps c.doing → Same s0 c.state → Keeps (a c) → Keeps (a (clear c)) → Keeps (where_valid code o v span c a)
  valid_keeps code None v span c a t h k l = k
  valid_keeps code (Some f) v span c a t h k l = accepted_keeps code c.state.accepted f v span c a t h l

  -- a swap that is closed is open no more
  decided_keeps : (D : Activity) (x : StepResult Verdict) (f : Savepoint) (w : Value) (rest : List Value) (c : Configuration) → Swaps D → Keeps (on D x (λ verdict s. swap_decided verdict f w rest c s))
  decided_keeps D (Continue Landed s) f w rest c t = λ z. absurd z
  decided_keeps D (Continue Outdated s) f w rest c t = λ z. absurd z
  decided_keeps D (Continue Undone s) f w rest c t = tt
  decided_keeps D (Continue Denied s) f w rest c t = tt
  decided_keeps D (Break g s) f w rest c t = raise_keeps D g s t
  decided_keeps (Swapping swap g) (Redo s) f w rest c t = tt
  decided_keeps Outside (Redo s) f w rest c t = absurd t
  decided_keeps (Restarting left) (Redo s) f w rest c t = absurd t
  decided_keeps (Running left inner g) (Redo s) f w rest c t = absurd t
  decided_keeps (Applying left g work values) (Redo s) f w rest c t = absurd t
  decided_keeps D (Await s) f w rest c t = tt
  decided_keeps D Malformed f w rest c t = tt

  closes_keeps : (code : ThreadCode) (D : Activity) (w : Value) (rest : List Value) (c : Configuration) → Swaps D → Swaps c.doing → Same s0 c.state → Keeps (closes_swap code D w rest c)
  closes_keeps code (Swapping swap f) w rest c i t h =
      valid_keeps code (validator_at code.validators swap.cell.number) w f.span c (λ c1. on c1.doing (close_swap swap w c1.state) (λ verdict s. swap_decided verdict f w rest c1 s)) t h
      (decided_keeps c.doing (close_swap swap w c.state) f w rest c t) (decided_keeps c.doing (close_swap swap w (clear c).state) f w rest (clear c) t)
  closes_keeps code Outside w rest c i t h = absurd i
  closes_keeps code (Restarting left) w rest c i t h = absurd i
  closes_keeps code (Running left inner f) w rest c i t h = absurd i
  closes_keeps code (Applying left f work values) w rest c i t h = absurd i

  after_swaps : (d : Destination) (v : Value) (D : Activity) → Swaps D → Swaps (doing_after d v D)
  after_swaps to_stack v D t = t
  after_swaps to_validation v D t = t
  after_swaps to_commutes v Outside t = absurd t
  after_swaps to_commutes v (Restarting left) t = absurd t
  after_swaps to_commutes v (Running left inner f) t = absurd t
  after_swaps to_commutes v (Applying left f work values) t = absurd t
  after_swaps to_commutes v (Swapping swap f) t = t

  after_same : (d : Destination) (v : Value) (s : ActorState) → Same s0 s → Same s0 (state_after d v s)
  after_same to_stack v s h = h
  after_same to_commutes v s h = h
  after_same to_validation v s h = h

  returns_keep : (frames : List Frame) (v : Value) (c : Configuration) → Swaps c.doing → Same s0 c.state → Keeps (returns_to frames v c)
  returns_keep [] v c t h = tt
  returns_keep (f ∷ frames) v c t h = λ z. there (doing_after f.awaits v c.doing)
      (record { body = f.body; place = f.place; stack = stack_after f.awaits v f.stack; locals = f.locals; frames = frames; doing = doing_after f.awaits v c.doing; state = state_after f.awaits v c.state })
      (after_swaps f.awaits v c.doing t) (after_same f.awaits v c.state h)

  act_keeps : (code : ThreadCode) (i : Option PlainInstr) (c : Configuration) → IsPure i → Swaps c.doing → Same s0 c.state → Keeps (act code i c)
  act_keeps code None c n t h = absurd n
  act_keeps code (Some (Push v)) c n t h = λ z. there c.doing (ahead (v ∷ c.stack) c.state c) t h
  act_keeps code (Some (Load i)) c n t h = gives_keeps c c.stack _ t (found_keeps s0 (nth c.locals i) c.state h)
  act_keeps code (Some (Store i)) c n t h = top_keeps c.stack _ (λ v rest z. there c.doing (record (ahead rest c.state c) { locals = put c.locals i v }) t h)
  act_keeps code (Some Pop) c n t h = top_keeps c.stack _ (λ v rest z. there c.doing (ahead rest c.state c) t h)
  act_keeps code (Some (Jump to)) c n t h = λ z. there c.doing (record c { place = to }) t h
  act_keeps code (Some (JumpFalse to)) c n t h = top_keeps c.stack _ (λ v rest z. there c.doing (record c { place = choose v (c.place + 1) to; stack = rest }) t h)
  act_keeps code (Some (CoreOf op args span)) c n t h = args_keep args c.stack [] _ (λ vs rest. gives_keeps c rest _ t (step_of_keeps s0 (core op vs) span c.state h))
  act_keeps code (Some (CallOf f args)) c n t h = args_keep args c.stack [] _ (λ vs rest z. there c.doing (called code f vs to_stack (c.place + 1) rest c) t h)
  act_keeps code (Some Return) c n t h = top_keeps c.stack _ (λ v rest. returns_keep c.frames v c t h)
  act_keeps code (Some (MakeVector items span)) c n t h = args_keep items c.stack [] _ (λ vs rest. gives_keeps c rest _ t (step_of_keeps s0 (vector_of vs) span c.state h))
  act_keeps code (Some (CloseOf update.Swap span)) c n t h = two_keep c.stack _ (λ w cell rest. closes_keeps code c.doing w rest c t t h)
  act_keeps code (Some (CloseOf update.Alter span)) c n t h = absurd n
  act_keeps code (Some (CloseOf update.Commute span)) c n t h = absurd n
  act_keeps code (Some (PrintOf args)) c n t h = absurd n
  act_keeps code (Some (TxBegin span)) c n t h = absurd n
  act_keeps code (Some TxEnd) c n t h = absurd n
  act_keeps code (Some (LookOf f span)) c n t h = absurd n
  act_keeps code (Some (PutOf f span)) c n t h = absurd n
  act_keeps code (Some (OpenOf f args span)) c n t h = absurd n
  act_keeps code (Some (SendOf f args span)) c n t h = absurd n
  act_keeps code (Some Halt) c n t h = absurd n
  act_keeps code (Some (TakeOf g)) c n t h = absurd n
  act_keeps code (Some RunOf) c n t h = absurd n
  act_keeps code (Some (FinishOf g)) c n t h = absurd n

-- ---- a swap that is opened

-- where this is going on
abbrev while : Activity → Configuration → Configuration
while D c = record c { doing = D }

module _ (start : Configuration) where
  over_keeps : (o : Option InHand) (f : Fault) (s : ActorState) → KeepsOpen start (ends_with o f s)
  over_keeps None f s = tt
  over_keeps (Some h) f s = handed (finish h.agent (Err f) [] s)
    where
      handed : (x : StepResult (Unit {0})) → KeepsOpen start (told x (λ s1. Unfinished (first_place [] (rested s1))))
      handed (Continue u s) = λ z. absurd z
      handed (Break g s) = tt
      handed (Redo s) = tt
      handed (Await s) = tt
      handed Malformed = tt

opened_keeps : (span : Span) (vs : List Value) (cell : Value) (rest : List Value) (c : Configuration) (x : StepResult (SwapInHand × Value)) → Step c.state x
    → KeepsOpen (back_to (saved span c) Outside (still c.state)) (on Outside x (λ o s. Unfinished (record (ahead (push_all vs (o.1 ∷ cell ∷ rest)) s c) { doing = Swapping o.0 (saved span c) })))
opened_keeps span vs cell rest c (Continue o s) h = λ z. ap (λ u. back_to (saved span c) Outside u) h
opened_keeps span vs cell rest c (Break f s) h = over_keeps (back_to (saved span c) Outside (still c.state)) s.acting f s
opened_keeps span vs cell rest c (Redo s) h = tt
opened_keeps span vs cell rest c (Await s) h = tt
opened_keeps span vs cell rest c Malformed h = tt

opens_keep : (code : ThreadCode) (i : Option PlainInstr) (c : Configuration) → OpensSwap i → KeepsOpen (unswap_in Outside (while Outside c)) (act code i (while Outside c))
opens_keep code (Some (OpenOf (open_form.Swap f) args span)) c n = stack_keeps args c.stack []
  where
    start : Configuration
    start = unswap_in Outside (while Outside c)

    under_keeps : (vs stack : List Value) → KeepsOpen start (on_top stack (λ cell rest. opens (open_form.Swap f) span vs cell rest (while Outside c)))
    under_keeps vs [] = tt
    under_keeps vs (cell ∷ rest) = opened_keeps span vs cell rest (while Outside c) (open_swap false span cell c.state) (open_swap_keeps c.state span cell c.state refl)

    stack_keeps : (n : ℕ) (stack vs : List Value) → KeepsOpen start (on_args n stack vs (λ ws under. on_top under (λ cell rest. opens (open_form.Swap f) span ws cell rest (while Outside c))))
    stack_keeps zero stack vs = under_keeps vs stack
    stack_keeps (suc n) [] vs = tt
    stack_keeps (suc n) (v ∷ stack) vs = stack_keeps n stack (v ∷ vs)
opens_keep code (Some (OpenOf open_form.Alter args span)) c n = absurd n
opens_keep code (Some (OpenOf (open_form.Commute f) args span)) c n = absurd n
opens_keep code None c n = absurd n
opens_keep code (Some (Push v)) c n = absurd n
opens_keep code (Some (Load i)) c n = absurd n
opens_keep code (Some (Store i)) c n = absurd n
opens_keep code (Some Pop) c n = absurd n
opens_keep code (Some (Jump to)) c n = absurd n
opens_keep code (Some (JumpFalse to)) c n = absurd n
opens_keep code (Some (CoreOf op args span)) c n = absurd n
opens_keep code (Some (CallOf f args)) c n = absurd n
opens_keep code (Some Return) c n = absurd n
opens_keep code (Some (MakeVector items span)) c n = absurd n
opens_keep code (Some (CloseOf f span)) c n = absurd n
opens_keep code (Some (PrintOf args)) c n = absurd n
opens_keep code (Some (TxBegin span)) c n = absurd n
opens_keep code (Some TxEnd) c n = absurd n
opens_keep code (Some (LookOf f span)) c n = absurd n
opens_keep code (Some (PutOf f span)) c n = absurd n
opens_keep code (Some (SendOf f args span)) c n = absurd n
opens_keep code (Some Halt) c n = absurd n
opens_keep code (Some (TakeOf g)) c n = absurd n
opens_keep code (Some RunOf) c n = absurd n
opens_keep code (Some (FinishOf g)) c n = absurd n

of_doing : (code : ThreadCode) (i : Option PlainInstr) (D : Activity) (c : Configuration) → IsOfSwap i D → KeepsOpen (unswap_in D (while D c)) (act code i (while D c))
of_doing code i Outside c h = opens_keep code i c h
of_doing code i (Restarting left) c h = absurd h
of_doing code i (Running left inner from) c h = absurd h
of_doing code i (Applying left from work values) c h = absurd h
of_doing code i (Swapping swap from) c h = act_keeps from c.state code i (while (Swapping swap from) c) h refl refl

pub swap_keeps_open : SwapKeepsOpen
swap_keeps_open code c h = of_doing code (fetch code c.body c.place) c.doing c h

-- ---- a swap whose atom has changed

module _ (swap : SwapInHand) (from : Savepoint) (s0 : ActorState) (q : Ask) (e : CellId) where
  abbrev start : Configuration
  start = back_to from Outside (still s0)

  abbrev Back : Turned Configuration → Type 0
  Back o = IsBack start o

  -- the state, with this one reply to come
  record Comes (s : ActorState) : Type 0 where
    same : still s ≡ still s0
    todo : s.todo ≡ exchange q (reply.Changed e) ∷ []

  -- no fault of a swap hears this
  breaks_back : (s : ActorState) (a : ActorState → Turned Configuration) → Comes s → Back (told (break_swap swap s) a)
  unfolding break_swap asks
  breaks_back s a h = subst (λ l. Back (told (heard just_done (receives (ask.Broke swap.cell swap.at) s l)) a)) (sym h.todo) (test (same_ask (ask.Broke swap.cell swap.at) q))
    where
      test : (b : Bool) → Back (told (heard just_done (if b then Replied (reply.Changed e) (record s { todo = [] }) else Unreplied (record s { wants = Some (ask.Broke swap.cell swap.at) }))) a)
      test true = tt
      test false = tt

  raise_back : (f : Fault) (s : ActorState) → Comes s → Back (raise (Swapping swap from) f s)
  raise_back f s h = breaks_back s (λ s1. fails_with s1.acting f s1) h

  close_back : (w : Value) (rest : List Value) (c : Configuration) → Comes c.state → Back (on (Swapping swap from) (close_swap swap w c.state) (λ verdict s. swap_decided verdict from w rest c s))
  unfolding close_swap asks
  close_back w rest c h =
      subst (λ l. Back (on (Swapping swap from) (heard swap_verdict (receives (ask.CloseAt swap.cell (Some swap.at) w) c.state l)) (λ verdict s. swap_decided verdict from w rest c s))) (sym h.todo)
      (test (same_ask (ask.CloseAt swap.cell (Some swap.at) w) q))
    where
      test : (b : Bool) → Back (on (Swapping swap from) (heard swap_verdict (if b then Replied (reply.Changed e) (record c.state { todo = [] }) else Unreplied (record c.state { wants = Some (ask.CloseAt swap.cell (Some swap.at) w) }))) (λ verdict s. swap_decided verdict from w rest c s))
      test true = ap (λ u. back_to from Outside u) h.same
      test false = tt

  abbrev in_swap : Configuration → Configuration
  in_swap c = record c { doing = Swapping swap from }

  validates_back : (code : ThreadCode) (f : Callee) (v : Value) (span : Span) (c : Configuration) → Comes c.state → Back (validates code f v span (in_swap c))
  validates_back code (callee.Core op) v span c h = by (core op (v ∷ []))
    where
      by : (r : Result Value FaultKind) → Back (on (Swapping swap from) (step_of r span c.state) (λ answer s. Unfinished (record (in_swap c) { state = answered answer s })))
      by (Ok a) = ap (λ u. back_to from Outside u) h.same
      by (Err k) = raise_back (fault_at k span) c.state h
  validates_back code (callee.Function f) v span c h = ap (λ u. back_to from Outside u) h.same

  abbrev cleared : ActorState → ActorState
  cleared s = record s { accepted = None }

  accepted_back : (code : ThreadCode) (o : Option Bool) (f : Callee) (w : Value) (rest : List Value) (span : Span) (c : Configuration) → Comes c.state
      → Back (where_accepted code o f w span (in_swap c) (λ c1. on c1.doing (close_swap swap w c1.state) (λ verdict s. swap_decided verdict from w rest c1 s)))
  accepted_back code None f w rest span c h = validates_back code f w span c h
  accepted_back code (Some true) f w rest span c h = close_back w rest (record (in_swap c) { state = cleared c.state }) (record { same = h.same; todo = h.todo })
  accepted_back code (Some false) f w rest span c h = raise_back (fault_at InvalidState span) (cleared c.state) (record { same = h.same; todo = h.todo })

  valid_back : (code : ThreadCode) (o : Option Callee) (w : Value) (rest : List Value) (span : Span) (c : Configuration) → Comes c.state
      → Back (where_valid code o w span (in_swap c) (λ c1. on c1.doing (close_swap swap w c1.state) (λ verdict s. swap_decided verdict from w rest c1 s)))
  valid_back code None w rest span c h = close_back w rest (in_swap c) h
  valid_back code (Some f) w rest span c h = accepted_back code c.state.accepted f w rest span c h

  closes_back : (code : ThreadCode) (span : Span) (c : Configuration) → Comes c.state → Back (act code (Some (CloseOf update.Swap span)) (in_swap c))
  closes_back code span c h = by c.stack
    where
      by : (stack : List Value) → Back (on_two stack (λ w cell rest. closes code update.Swap span w cell rest (in_swap c)))
      by [] = tt
      by (w ∷ []) = tt
      by (w ∷ cell ∷ rest) = valid_back code (validator_at code.validators swap.cell.number) w rest from.span c h

changed_by : (code : ThreadCode) (D : Activity) (c : Configuration) (span : Span) (q : Ask) (e : CellId) → IsSwapping D → c.state.todo ≡ []
    → IsBack (unswap_in D (while D c)) (act code (Some (CloseOf update.Swap span)) (given (exchange q (reply.Changed e) ∷ []) (while D c)))
changed_by code (Swapping swap from) c span q e i t =
    closes_back swap from c.state q e code span (given (exchange q (reply.Changed e) ∷ []) c) (record { same = refl; todo = ap (λ l. l ++ exchange q (reply.Changed e) ∷ []) t })
changed_by code Outside c span q e i t = absurd i
changed_by code (Restarting left) c span q e i t = absurd i
changed_by code (Running left inner from) c span q e i t = absurd i
changed_by code (Applying left from work values) c span q e i t = absurd i

pub changed_is_back : ChangedIsBack
changed_is_back code c span q e i f t = subst (λ j. IsBack (unswap c) (act code j (given (exchange q (reply.Changed e) ∷ []) c))) (sym f) (changed_by code c.doing c span q e i t)
