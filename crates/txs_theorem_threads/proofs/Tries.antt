-- A transaction on replies that fit is the transaction on their events.
use Rattle.std.proofs.Common.{ℕ, zero, suc, Bool, true, false, List, [], Option, Some, None, refl, sym, ap, subst, ⊎_elim, ◌≡◌, ◌∷◌, ◌++◌, ◌∙◌, ◌==◌, ◌&&◌, nat_lt, if◌then◌else◌}
use Rattle.std.proofs.lemmas.Bool.{false≢true}
use Rattle.txs_world_protocol.proofs.AskLemmas.{same_writes-itself, same_ask-itself}
use Rattle.txs_world_protocol.specs.Ask.{Writes, buffered, with_write, Exchange, same_writes, same_actions}
use Rattle.txs_world_protocol.specs.SeenEvent.{SeenEvent}
use Rattle.txs_world_protocol.specs.declared.ask.Ask.{Ask}
use Rattle.txs_world_protocol.specs.declared.ask.Ask.TheVariants as ask
use Rattle.txs_world_protocol.specs.declared.ask.Reply.TheVariants as reply
use Rattle.txs_world_protocol.specs.declared.ask.Reply.{Reply}
use Rattle.txs_world_protocol.specs.declared.event.Cause.TheVariants as cause
use Rattle.txs_world_protocol.specs.declared.event.EventKind.TheVariants as event
use Rattle.txs_world_protocol.specs.declared.event.EventKind.{EventKind}
use Rattle.txs_frame.specs.Frame.{PlainTxFrame, empty_frame, has_number, cells_in, commuted, set_writes, by_ref, phase_work, sends_of_commit}
use Rattle.txs_frame.specs.declared.frame.Commute.{Commute}
use Rattle.txs_value_data.proofs.SameLemmas.{numbers, number-itself}
use Rattle.txs_value_cell.specs.Cells.{World, Validators}
use Rattle.txs_value_data.specs.Places.{fault_at}
use Rattle.txs_value_cell.specs.declared.action.Action.{Action}
use Rattle.txs_value_cell.specs.declared.cell.CellDefinition.{CellDefinition}
use Rattle.txs_value_data.specs.declared.fault.Fault.{Fault}
use Rattle.txs_value_data.specs.declared.fault.FaultKind.TheVariants.{AgentFailed}
use Rattle.txs_value_data.specs.declared.fault.Span.{Span}
use Rattle.txs_value_data.specs.declared.op.Callee.{Callee}
use Rattle.txs_value_data.specs.declared.value.CellId.{CellId}
use Rattle.txs_value_data.specs.declared.value.Value.{Value}
use Rattle.txs_value_data.specs.declared.value.Value.TheVariants.{Nil}
use Rattle.txs_tree_meaning.specs.Meaning.{Completion, Completes, Recurs, Faults, Retries, Waits, OutOfTurns, Invalid, bind, allowed, Applies}
use Rattle.txs_tree_meaning.specs.Thread.{TxRun, ThreadState, with_tx, holding, meant, faulted, faultless, over, Transacting, run_of, ends_tx, is_retry, is_held, missing, again, uneaten, eats_tx}
use Rattle.txs_tree_meaning.specs.Transaction.{TxState, value_or, valued, merged, redone, accepted, if_accepted, final_writes}
use Rattle.txs_code_meaning.specs.ActorState as actor
use Rattle.txs_code_meaning.specs.ActorState.{ActorState, Replied, held_in, landed, heard, on_step, begin, begun, read_point, fail, just_done, views, with_first, paired, viewed, view, commit, commit_verdict}
use Rattle.txs_theorem_threads.proofs.Accepted.{AllValidators, accepted_carried, if_accepted_carried, final_carried}
use Rattle.txs_theorem_threads.proofs.Account.{Account, IsBeside, begin_of, sends_begin, holds_beside, account_link, after_reply, answered_in, not_retrying}
use Rattle.txs_theorem_threads.proofs.Quiet.{carried, IsQuiet, bind_carried, bind_quiet, AllCommutes, phase_some, redone_carried}
use Rattle.txs_theorem_threads.proofs.Related.{Related, CompletesAs, FaultsAs}
use Rattle.txs_theorem_threads.proofs.Worlds.{IsShort, HasStopped, Kept, WantsOwn, IsOfStore, Fitting, Unless, Reruns, tx_link}
use Rattle.txs_theorem_threads.proofs.Owned.{are_written, Within, within_head, within_tail, write_within, held_there, valued_within, refs_in, phase_within}
use Rattle.txs_theorem_threads.specs.EndsSo.{in_hand}
use Rattle.txs_theorem_threads.specs.Noted.{AreWritten, Commits}
use Rattle.txs_theorem_threads.specs.OnReplies.{res, telling, Start, Anew, Behind, concludes, lands_on, if_all_accepted, closing, attempt, retrying, tries}
use Rattle.txs_theorem_threads.specs.RepliesFit.{Phase, Out, In, Viewed, OnEvent, SaysOutdated, SaysHeld, SaysCommuted, SaysCommit, SaysFail, SaysRefused, Gives, AgreeOn, ReplyFits, halted}

-- ---- views

-- the values that a world gives are the cells' there
pub paired_valued : (Q : World) (cs : List CellId) (vs : List Value) → Gives Q cs vs → paired cs vs ≡ Some (valued cs Q)
paired_valued Q [] [] h = refl
paired_valued Q [] (v ∷ vs) h = absurd h
paired_valued Q (c ∷ cs) [] h = absurd h
paired_valued Q (c ∷ cs) (v ∷ vs) h = ap (with_first c v) (paired_valued Q cs vs h.1) ∙ ap (λ w. Some ((c, w) ∷ valued cs Q)) (sym h.0)

-- a write hides no cell from the comparison of worlds
agree_with : (Q C : World) (ws : Writes) (c : CellId) (v : Value) → AgreeOn (with_write ws c v) Q C → AgreeOn ws Q C
agree_with Q C [] c v h = tt
agree_with Q C (w ∷ ws) c v h = first (agree_with Q C ws c v) (w.0.number == c.number) refl h
  where
    second : (AgreeOn (with_write ws c v) Q C → AgreeOn ws Q C) → (b : Bool) → AgreeOn (if b then (c, v) ∷ w ∷ ws else w ∷ with_write ws c v) Q C → AgreeOn (w ∷ ws) Q C
    second rest true g = g.1
    second rest false g = (g.0, rest g.1)

    first : (AgreeOn (with_write ws c v) Q C → AgreeOn ws Q C) → (b : Bool) → (w.0.number == c.number) ≡ b → AgreeOn (if b then (c, v) ∷ ws else if nat_lt c.number w.0.number then (c, v) ∷ w ∷ ws else w ∷ with_write ws c v) Q C → AgreeOn (w ∷ ws) Q C
    first rest true e g = (subst (λ n. Q n ≡ C n) (sym (numbers w.0.number c.number e)) g.0, g.1)
    first rest false e g = second rest (nat_lt c.number w.0.number) g

abbrev Written : {A : Type 0} → Completion (Unit {0}) A → Type 0
Written (Completes a u) = Unit {0}
Written _ = ⊥

abbrev written : Writes → Completion (Unit {0}) Writes → Writes
written ws (Completes xs u) = xs
written ws _ = ws

-- worlds that agree on what commutes made agree on what they were made of
agree_before : (Q C : World) (q : Applies (Unit {0})) (work : List Commute) (ws xs : Writes) (u : Unit {0}) → redone q work ws tt ≡ Completes xs u → AgreeOn xs Q C → AgreeOn ws Q C
agree_before Q C q [] ws xs u e h = subst (λ l. AgreeOn l Q C) (sym (ap (written ws) e)) h
agree_before Q C q (c ∷ cs) ws xs u e h = step (λ v. agree_before Q C q cs (with_write ws c.cell v) xs u) (q c.callee (value_or (buffered ws c.cell.number) Nil ∷ c.args) tt) e
  where
    made : Value → Unit {0} → Completion (Unit {0}) Writes
    made v t = redone q cs (with_write ws c.cell v) t

    step : ((v : Value) → redone q cs (with_write ws c.cell v) tt ≡ Completes xs u → AgreeOn xs Q C → AgreeOn (with_write ws c.cell v) Q C) → (y : Completion (Unit {0}) Value) → bind y made ≡ Completes xs u → AgreeOn ws Q C
    step rest (Completes v t) k = agree_with Q C ws c.cell v (rest v k h)
    step rest (Recurs vs t) k = absurd (subst Written (sym k) tt)
    step rest (Faults f t) k = absurd (subst Written (sym k) tt)
    step rest (Retries t) k = absurd (subst Written (sym k) tt)
    step rest (Waits t) k = absurd (subst Written (sym k) tt)
    step rest (OutOfTurns t) k = absurd (subst Written (sym k) tt)
    step rest Invalid k = absurd (subst Written (sym k) tt)

-- worlds that agree on cells give them the same values
agree_valued : (Q C : World) (cs : List CellId) → AgreeOn (valued cs Q) Q C → valued cs Q ≡ valued cs C
agree_valued Q C [] h = refl
agree_valued Q C (c ∷ cs) h = ap (λ v. (c, v) ∷ valued cs Q) h.0 ∙ ap (λ l. (c, C c.number) ∷ l) (agree_valued Q C cs h.1)

-- commutes make values of their own refs alone
redone_within : (ds : List CellId) (q : Applies (Unit {0})) (work : List Commute) (ws xs : Writes) (u : Unit {0}) → redone q work ws tt ≡ Completes xs u → Within ds (cells_in ws) → Within ds (refs_in work) → Within ds (cells_in xs)
redone_within ds q [] ws xs u e h all = subst (λ l. Within ds (cells_in l)) (ap (written ws) e) h
redone_within ds q (c ∷ cs) ws xs u e h all =
    step (λ v r. redone_within ds q cs (with_write ws c.cell v) xs u r (write_within ds ws c.cell v (within_head ds (refs_in cs) c.cell all) h) (within_tail ds (refs_in cs) c.cell all)) (q c.callee (value_or (buffered ws c.cell.number) Nil ∷ c.args) tt) e
  where
    made : Value → Unit {0} → Completion (Unit {0}) Writes
    made v t = redone q cs (with_write ws c.cell v) t

    step : ((v : Value) → redone q cs (with_write ws c.cell v) tt ≡ Completes xs u → Within ds (cells_in xs)) → (y : Completion (Unit {0}) Value) → bind y made ≡ Completes xs u → Within ds (cells_in xs)
    step rest (Completes v t) k = rest v k
    step rest (Recurs vs t) k = absurd (subst Written (sym k) tt)
    step rest (Faults f t) k = absurd (subst Written (sym k) tt)
    step rest (Retries t) k = absurd (subst Written (sym k) tt)
    step rest (Waits t) k = absurd (subst Written (sym k) tt)
    step rest (OutOfTurns t) k = absurd (subst Written (sym k) tt)
    step rest Invalid k = absurd (subst Written (sym k) tt)

-- ---- a retry with its cause

-- the body on a world that may lack a value
abbrev pub body_on : Transacting → Option ℕ → World → Completion TxState Value
body_on d None R = d.on R
body_on d (Some j) R = d.lacking j R

-- the try had to run again for the cause that the event says
abbrev pub Passes : Transacting → EventKind → World → Type 0
Passes d kind R = (is_retry kind ≡ true) × ((t : ThreadState) (next : Completion ThreadState Value) → again d kind R t next ≡ next)

abbrev pub PassesAt : Transacting → SeenEvent → Type 0
PassesAt d e = Passes d e.kind e.R

missing_passes : (t : ThreadState) (next : Completion ThreadState Value) (y : Completion TxState Value) → HasStopped (halted y) → missing t y next ≡ next
missing_passes t next (Completes v x) h = absurd h
missing_passes t next (Recurs vs x) h = absurd h
missing_passes t next (Faults f x) h = absurd h
missing_passes t next (Retries x) h = absurd h
missing_passes t next (Waits x) h = refl
missing_passes t next (OutOfTurns x) h = absurd h
missing_passes t next Invalid h = absurd h

outdated_passes : (d : Transacting) (kind : EventKind) (R : World) (c : CellId) → SaysOutdated c kind → HasStopped (halted (d.lacking c.number R)) → Passes d kind R
outdated_passes d (event.Retry since b cause.Outdated) R c says stopped =
    (refl, λ t next. missing_passes t next (d.lacking b.number R) (subst (λ n. HasStopped (halted (d.lacking n.number R))) (sym says) stopped))
outdated_passes d _ R c says stopped = absurd says

-- an event names one such ref
same_outdated : (kind : EventKind) (c d : CellId) → SaysOutdated c kind → SaysOutdated d kind → c ≡ d
same_outdated (event.Retry since b cause.Outdated) c d h g = sym h ∙ g
same_outdated _ c d h g = absurd h

abbrev first_event : SeenEvent → List SeenEvent → SeenEvent
first_event e [] = e
first_event e (x ∷ xs) = x

-- a try that had to run again, since a value was no longer kept, came to look at that ref
read_passes : (d : Transacting) (F : Fitting) (R : World) (es es1 : List SeenEvent) (out : List ℕ) (sends : Option (List Action)) (s : ActorState) (e : SeenEvent) (c : CellId) → es ≡ e ∷ es1 → R ≡ e.R → SaysOutdated c e.kind
    → Unless (Some c.number) (halted (d.lacking c.number R)) (Reruns F (Some c.number) R es out sends s) → PassesAt d e
read_passes d F R es es1 out sends s e c there same says h =
    ⊎_elim (λ stopped. outdated_passes d e.kind e.R c says (subst (λ W. HasStopped (halted (d.lacking c.number W))) same stopped))
    (λ g. let is : e ≡ g.0 = ap (first_event e) (sym there ∙ g.2) in
    let one : g.5.0 ≡ c = same_outdated e.kind g.5.0 c (subst (λ x. SaysOutdated g.5.0 x.kind) (sym is) g.5.1) says in
    absurd (false≢true (sym g.5.2 ∙ ap (λ x. x.number == c.number) one ∙ number-itself c.number))) h

held_passes : (d : Transacting) (kind : EventKind) (R : World) (c : CellId) (v : Value) (x : TxState) → d.on R ≡ Completes v x → SaysHeld c kind → is_held x.done c.number ≡ true → Passes d kind R
held_passes d (event.Retry since b cause.Held) R c v x on says held =
    (refl, λ t next. ap (λ y. over t y (λ w z. allowed (is_held z.done b.number) next) (λ g. Invalid)) on ∙ ap (λ r. allowed r next) (ap (λ n. is_held x.done n.number) says ∙ held))
held_passes d _ R c v x on says held = absurd says

commuted_passes : (d : Transacting) (kind : EventKind) (R : World) (c : CellId) (v : Value) (x : TxState) → d.on R ≡ Completes v x → SaysCommuted c kind → has_number (commuted x.done) c.number ≡ true → Passes d kind R
commuted_passes d (event.Retry since b (cause.Commuted at)) R c v x on says among =
    (refl, λ t next. ap (λ y. over t y (λ w z. allowed (has_number (commuted z.done) b.number) next) (λ g. Invalid)) on ∙ ap (λ r. allowed r next) (ap (λ n. has_number (commuted x.done) n.number) says ∙ among))
commuted_passes d _ R c v x on says among = absurd says

-- an event that has its cause, and what follows it
on_passing : (d : Transacting) (Q : SeenEvent → Type 0) (next next1 : List SeenEvent → Type 0) → ((e : SeenEvent) → Q e → PassesAt d e) → ((es : List SeenEvent) → next es → next1 es) → (es : List SeenEvent) → OnEvent 0 Q next es → OnEvent 0 (PassesAt d) next1 es
on_passing d Q next next1 p h [] m = absurd m
on_passing d Q next next1 p h (e ∷ es) m = (m.0, p e m.1, h es m.2)

-- ---- a transaction's end

same_actions-itself : (xs : List Action) → same_actions xs xs ≡ true
same_actions-itself xs = same_ask-itself (ask.Commit 0 [] [] 0 [] xs)

-- a commit's event tells these writes and sends
same_commit : (ws : Writes) (sends : List Action) → (same_writes ws ws && same_actions sends sends) ≡ true
same_commit ws sends = ap (λ b. b && same_actions sends sends) (same_writes-itself ws) ∙ same_actions-itself sends

-- what needs turns needs them where the event stays to come
uneaten_short : (l : List SeenEvent) (y : Completion ThreadState Value) → IsShort (halted y) → IsShort (halted (uneaten l y))
uneaten_short l (Completes v t) h = absurd h
uneaten_short l (Recurs vs t) h = absurd h
uneaten_short l (Faults g t) h = absurd h
uneaten_short l (Retries t) h = absurd h
uneaten_short l (Waits t) h = absurd h
uneaten_short l (OutOfTurns t) h = tt
uneaten_short l Invalid h = absurd h

module _ (d : Transacting) (f : Applies ThreadState) (R Q C : World) (t : ThreadState) where
  -- the event that ends the transaction so
  abbrev EndsAs : EventKind → Completion ThreadState Value → Type 0
  EndsAs kind r = (is_retry kind ≡ false) × (ends_tx d f kind R Q C t ≡ r)

  commits_as : (kind : EventKind) (v : Value) (x : TxState) (ws : Writes) (sends : List Action) → d.on R ≡ Completes v x → final_writes f d.validators d.mark.span x.done C t ≡ Completes ws t → sends_of_commit t.held x.done.sends ≡ sends → SaysCommit ws sends kind → EndsAs kind (Completes v (holding x.done.sends (with_tx (run_of d v x) t)))
  commits_as (event.Commit at view ws1 sends1) v x ws sends on final held says =
      let told : ThreadState = holding x.done.sends (with_tx (run_of d v x) t) in
      let ended : Completion ThreadState Writes → Completion ThreadState Value = λ y. faultless y (λ xs t1. meant (same_writes xs ws1 && same_actions (sends_of_commit t1.held x.done.sends) sends1) v (holding x.done.sends (with_tx (run_of d v x) t1))) in (
        refl,
        ap (λ r. over t r (λ w y. faultless (final_writes f d.validators d.mark.span y.done C t) (λ xs t1. meant (same_writes xs ws1 && same_actions (sends_of_commit t1.held y.done.sends) sends1) w (holding y.done.sends (with_tx (run_of d w y) t1)))) (λ g. Invalid)) on
            ∙ ap ended final
            ∙ ap (λ l. meant (same_writes l ws1 && same_actions (sends_of_commit t.held x.done.sends) sends1) v told) says.0
            ∙ ap (λ l. meant (same_writes ws1 ws1 && same_actions l sends1) v told) (held ∙ says.1)
            ∙ ap (λ b. meant b v told) (same_commit ws1 sends1),
      )
  commits_as _ v x ws sends on final held says = absurd says

  fails_body : (kind : EventKind) (e : Fault) (x : TxState) → d.on R ≡ Faults e x → SaysFail kind → EndsAs kind (Faults e t)
  fails_body (event.Fail at view) e x on says = (refl, ap (λ r. over t r (λ w y. faulted (final_writes f d.validators d.mark.span y.done Q t) (λ g t1. Faults g t1)) (λ g. Faults g t)) on)
  fails_body _ e x on says = absurd says

  fails_commutes : (kind : EventKind) (v : Value) (x : TxState) (e : Fault) → d.on R ≡ Completes v x → final_writes f d.validators d.mark.span x.done Q t ≡ Faults e t → SaysFail kind → EndsAs kind (Faults e t)
  fails_commutes (event.Fail at view) v x e on final says =
      (refl, ap (λ r. over t r (λ w y. faulted (final_writes f d.validators d.mark.span y.done Q t) (λ g t1. Faults g t1)) (λ g. Faults g t)) on ∙ ap (λ y. faulted y (λ g t1. Faults g t1)) final)
  fails_commutes _ v x e on final says = absurd says

  refuses_as : (kind : EventKind) (v : Value) (x : TxState) (ws : Writes) → d.on R ≡ Completes v x → final_writes f d.validators d.mark.span x.done Q t ≡ Completes ws t → SaysRefused kind → EndsAs kind (Faults (fault_at AgentFailed d.mark.span) (with_tx (run_of d v x) t))
  refuses_as (event.Refused at view agent) v x ws on final says = (
    refl,
    ap (λ r. over t r (λ w y. faultless (final_writes f d.validators d.mark.span y.done Q t) (λ xs t1. Faults (fault_at AgentFailed d.mark.span) (with_tx (run_of d w y) t1))) (λ g. Invalid)) on
        ∙ ap (λ y. faultless y (λ xs t1. Faults (fault_at AgentFailed d.mark.span) (with_tx (run_of d v x) t1))) final,
  )
  refuses_as _ v x ws on final says = absurd says

-- a transaction whose body needs turns needs them whatever ends it
over_short : (x : Completion TxState Value) (t : ThreadState) (go : Value → TxState → Completion ThreadState Value) (broke : Fault → Completion ThreadState Value) → IsShort (halted x) → IsShort (halted (over t x go broke))
over_short (OutOfTurns x) t go broke h = tt
over_short (Completes v x) t go broke h = absurd h
over_short (Recurs vs x) t go broke h = absurd h
over_short (Faults f x) t go broke h = absurd h
over_short (Retries x) t go broke h = absurd h
over_short (Waits x) t go broke h = absurd h
over_short Invalid t go broke h = absurd h

-- the final writes of a transaction that commuted nothing
final_none : (f : Applies ThreadState) (validators : Validators) (span : Span) (w : PlainTxFrame) (C : World) (t : ThreadState) → commuted w ≡ [] → final_writes f validators span w C t ≡ if_accepted f validators span (set_writes w) t
final_none f validators span w C t e = ap (λ cs. bind (redone f (by_ref cs w.commutes) (valued cs C) t) (λ ws t1. if_accepted f validators span (merged (set_writes w) ws) t1)) e

-- what follows a part that goes on with its value alone
bind_map : {S A B C : Type 0} (x : Completion S A) (b : B) (h : B → C) → bind x (λ a s. Completes (h b) s) ≡ bind (bind x (λ a s. Completes b s)) (λ y s. Completes (h y) s)
bind_map (Completes a s) b h = refl
bind_map (Recurs vs s) b h = refl
bind_map (Faults f s) b h = refl
bind_map (Retries s) b h = refl
bind_map (Waits s) b h = refl
bind_map (OutOfTurns s) b h = refl
bind_map Invalid b h = refl

-- ---- tries

-- where a try starts, its body's result on its world among it
abbrev pub StartFits : (cells : List CellDefinition) → Account cells → (Callee → Type 0) → Transacting → List TxRun → Start → ActorState → List SeenEvent → Type 0
StartFits cells a P d txs Anew s es = a.fits txs Out s.todo es
StartFits cells a P d txs (Behind v) s es = (R : World) × (x : TxState) × (d.on R ≡ Completes v x) × (s.done ≡ x.done) × Kept P s.done × a.fits txs (In R) s.todo es

module _ (cells : List CellDefinition) (a : Account cells) (P : Callee → Type 0) (d : Transacting) (body : ActorState → Completion ActorState Value) (f : Applies ActorState) (g : Applies ThreadState) (q : Applies (Unit {0})) (checks : AllValidators P d.validators)
    (left : (c : Callee) (vs : List Value) (s : ActorState) → P c → (f c vs s ≡ carried s (q c vs tt)) × IsQuiet (q c vs tt))
    (right : (c : Callee) (vs : List Value) (t : ThreadState) → P c → (g c vs t ≡ carried t (q c vs tt)) × IsQuiet (q c vs tt)) where
  -- the tries that are left follow the events that are left
  abbrev Follow : ℕ → Type 0
  Follow k = (from : Start) (s : ActorState) (es : List SeenEvent) (t : ThreadState) → IsBeside a.before a.from s t → StartFits cells a P d t.txs from s es → Related (account_link cells a) (tries d.validators k d.mark.span body f from s) (eats_tx k d g (es ++ a.tail) t)

  -- what the commutes made, where each of the writes is accepted
  abbrev checked : PlainTxFrame → Writes → Unit {0} → Completion (Unit {0}) Writes
  checked w xs u = bind (accepted q d.validators d.mark.span (merged (set_writes w) xs) u) (λ v u1. Completes xs u1)

  -- what the commutes make of the refs' values, where each of the writes is accepted
  abbrev phase_on : PlainTxFrame → Writes → Completion (Unit {0}) Writes
  phase_on w ws = bind (redone q (phase_work w) ws tt) (checked w)

  abbrev phase : PlainTxFrame → World → Completion (Unit {0}) Writes
  phase w W = phase_on w (valued (commuted w) W)

  checked_final : (w : PlainTxFrame) (y : Completion (Unit {0}) Writes) → bind y (λ ws u. if_accepted q d.validators d.mark.span (merged (set_writes w) ws) u) ≡ bind (bind y (checked w)) (λ ws u. Completes (merged (set_writes w) ws) u)
  checked_final w (Completes xs u) = bind_map (accepted q d.validators d.mark.span (merged (set_writes w) xs) u) xs (λ ws. merged (set_writes w) ws)
  checked_final w (Recurs vs u) = refl
  checked_final w (Faults e u) = refl
  checked_final w (Retries u) = refl
  checked_final w (Waits u) = refl
  checked_final w (OutOfTurns u) = refl
  checked_final w Invalid = refl

  -- the final writes of a thread are what the phase makes of a world
  final_is : (w : PlainTxFrame) (C : World) (t : ThreadState) → AllCommutes P w.commutes → final_writes g d.validators d.mark.span w C t ≡ carried t (bind (phase w C) (λ ws u. Completes (merged (set_writes w) ws) u))
  final_is w C t all = (final_carried P t g q (λ c vs p. right c vs t p) d.validators checks d.mark.span w all C).0 ∙ ap (carried t) (checked_final w (redone q (phase_work w) (valued (commuted w) C) tt))

  -- the final writes, where the phase on a world made these
  final_made : (w : PlainTxFrame) (C : World) (t : ThreadState) (xs : Writes) (u : Unit {0}) → AllCommutes P w.commutes → phase w C ≡ Completes xs u → final_writes g d.validators d.mark.span w C t ≡ Completes (merged (set_writes w) xs) t
  final_made w C t xs u all e = final_is w C t all ∙ ap (λ y. carried t (bind y (λ ws u1. Completes (merged (set_writes w) ws) u1))) e

  -- or faulted
  final_broke : (w : PlainTxFrame) (C : World) (t : ThreadState) (e : Fault) (u : Unit {0}) → AllCommutes P w.commutes → phase w C ≡ Faults e u → final_writes g d.validators d.mark.span w C t ≡ Faults e t
  final_broke w C t e u all eq = final_is w C t all ∙ ap (λ y. carried t (bind y (λ ws u1. Completes (merged (set_writes w) ws) u1))) eq

  -- or needed turns
  final_short : (w : PlainTxFrame) (C : World) (t : ThreadState) (u : Unit {0}) → AllCommutes P w.commutes → phase w C ≡ OutOfTurns u → final_writes g d.validators d.mark.span w C t ≡ OutOfTurns t
  final_short w C t u all eq = final_is w C t all ∙ ap (λ y. carried t (bind y (λ ws u1. Completes (merged (set_writes w) ws) u1))) eq

  -- what validators make of the refs that were set, where none was commuted
  abbrev plainly : PlainTxFrame → Completion (Unit {0}) (Unit {0})
  plainly w = accepted q d.validators d.mark.span (set_writes w) tt

  final_plain : (w : PlainTxFrame) (C : World) (t : ThreadState) (y : Completion (Unit {0}) (Unit {0})) → commuted w ≡ [] → plainly w ≡ y → final_writes g d.validators d.mark.span w C t ≡ carried t (bind y (λ a u. Completes (set_writes w) u))
  final_plain w C t y none e =
      final_none g d.validators d.mark.span w C t none ∙ (if_accepted_carried P t g q (λ c vs p. right c vs t p) d.validators checks d.mark.span (set_writes w)).0
      ∙ ap (λ z. carried t (bind z (λ a u. Completes (set_writes w) u))) e

  -- the part of the phase in which commutes are redone
  made_so : (w : PlainTxFrame) (xs ws : Writes) (u : Unit {0}) (z : Completion (Unit {0}) (Unit {0})) → bind z (λ v u1. Completes xs u1) ≡ Completes ws u → xs ≡ ws
  made_so w xs ws u (Completes v u1) e = ap (written ws) e
  made_so w xs ws u (Recurs vs u1) e = absurd (subst Written (sym e) tt)
  made_so w xs ws u (Faults f u1) e = absurd (subst Written (sym e) tt)
  made_so w xs ws u (Retries u1) e = absurd (subst Written (sym e) tt)
  made_so w xs ws u (Waits u1) e = absurd (subst Written (sym e) tt)
  made_so w xs ws u (OutOfTurns u1) e = absurd (subst Written (sym e) tt)
  made_so w xs ws u Invalid e = absurd (subst Written (sym e) tt)

  phase_redone : (w : PlainTxFrame) (ws : Writes) (u : Unit {0}) (y : Completion (Unit {0}) Writes) → bind y (checked w) ≡ Completes ws u → (u1 : Unit {0}) × (y ≡ Completes ws u1)
  phase_redone w ws u (Completes xs u1) e = (u1, ap (λ l. Completes l u1) (made_so w xs ws u (accepted q d.validators d.mark.span (merged (set_writes w) xs) u1) e))
  phase_redone w ws u (Recurs vs u1) e = absurd (subst Written (sym e) tt)
  phase_redone w ws u (Faults f u1) e = absurd (subst Written (sym e) tt)
  phase_redone w ws u (Retries u1) e = absurd (subst Written (sym e) tt)
  phase_redone w ws u (Waits u1) e = absurd (subst Written (sym e) tt)
  phase_redone w ws u (OutOfTurns u1) e = absurd (subst Written (sym e) tt)
  phase_redone w ws u Invalid e = absurd (subst Written (sym e) tt)

  -- what the phase writes was commuted
  redone_there : (s : ActorState) (W : World) (ws : Writes) (u : Unit {0}) → phase s.done W ≡ Completes ws u → Within (commuted s.done) (cells_in ws)
  redone_there s W ws u e =
      let r = phase_redone s.done ws u (redone q (phase_work s.done) (valued (commuted s.done) W) tt) e in
      redone_within (commuted s.done) q (phase_work s.done) (valued (commuted s.done) W) ws r.0 r.1 (valued_within (commuted s.done) W) (phase_within s.done)

  -- on replies, with a state that it leaves as it was
  checked_left : (s : ActorState) (xs : Writes) → (if_all_accepted d.validators d.mark.span f xs s ≡ carried s (checked s.done xs tt)) × IsQuiet (checked s.done xs tt)
  checked_left s xs =
      let one = accepted_carried P s f q (λ c vs p. left c vs s p) d.validators checks d.mark.span (merged (set_writes s.done) xs) in
      let all : Completion (Unit {0}) (Unit {0}) = accepted q d.validators d.mark.span (merged (set_writes s.done) xs) tt in (
        ap (λ x. bind x (λ u s1. Completes xs s1)) one.0 ∙ bind_carried s all (λ u s1. Completes xs s1) (λ u t. Completes xs t) (λ u. refl),
        bind_quiet all (λ u t. Completes xs t) one.1 (λ u. tt),
      )

  phase_left : (s : ActorState) → AllCommutes P s.done.commutes → (ws : Writes) → (bind (redone f (phase_work s.done) ws s) (λ xs s1. if_all_accepted d.validators d.mark.span f xs s1) ≡ carried s (phase_on s.done ws)) × IsQuiet (phase_on s.done ws)
  phase_left s all ws =
      let one = redone_carried P s f q (λ c vs p. left c vs s p) (phase_work s.done) (phase_some P s.done all) ws in (
        ap (λ x. bind x (λ xs s1. if_all_accepted d.validators d.mark.span f xs s1)) one.0
            ∙ bind_carried s (redone q (phase_work s.done) ws tt) (λ xs s1. if_all_accepted d.validators d.mark.span f xs s1) (checked s.done) (λ xs. (checked_left s xs).0),
        bind_quiet (redone q (phase_work s.done) ws tt) (checked s.done) one.1 (λ xs. (checked_left s xs).1),
      )

  module _ (k : ℕ) (next : Follow k) where
    -- what a try comes to, before those that are left
    abbrev Comes : Completion ActorState Value → List SeenEvent → ThreadState → Type 0
    Comes x es t = Related (account_link cells a) (retrying x (tries d.validators k d.mark.span body f Anew)) (eats_tx (suc k) d g (es ++ a.tail) t)

    -- it waits, and needs an event of the store's book
    waiting : (ph : Phase) (s : ActorState) (es : List SeenEvent) (t : ThreadState) → WantsOwn s.wants → IsOfStore s.wants → IsBeside a.before a.from s t → a.fits t.txs ph s.todo es → a.waits s (halted (eats_tx (suc k) d g (es ++ a.tail) t))
    waiting ph s es t own of pr fits = a.waiting t.txs ph s es (λ l. eats_tx (suc k) d g l t) own fits (sym (of cells), refl, pr.0, refl)

    -- it needs turns
    shortage : (ph : Phase) (s : ActorState) (es : List SeenEvent) (t : ThreadState) → IsBeside a.before a.from s t → a.fits t.txs ph s.todo es → ((Q : World) → IsShort (halted (eats_tx (suc k) d g (in_hand cells Q ph) t))) → a.short s (halted (eats_tx (suc k) d g (es ++ a.tail) t))
    shortage ph s es t pr fits h = a.shortage t.txs ph s es (λ l. eats_tx (suc k) d g l t) fits (refl, pr.0, refl) h

    -- an event that says to run again, with its cause, is eaten
    eats_retry : (e : SeenEvent) (es : List SeenEvent) (t : ThreadState) → e.book ≡ 0 → PassesAt d e → eats_tx (suc k) d g (e ∷ es) t ≡ eats_tx k d g es t
    eats_retry e es t b p =
        ap (λ n. if n == 0 then (if is_retry e.kind then again d e.kind e.R (record t { todo = e ∷ es }) (eats_tx k d g es t) else uneaten (e ∷ es) (ends_tx d g e.kind e.R e.Q e.C (record t { todo = es }))) else Invalid) b
        ∙ ap (λ z. if z then again d e.kind e.R (record t { todo = e ∷ es }) (eats_tx k d g es t) else uneaten (e ∷ es) (ends_tx d g e.kind e.R e.Q e.C (record t { todo = es }))) p.0
        ∙ p.1 (record t { todo = e ∷ es }) (eats_tx k d g es t)

    -- the event of the end is eaten
    eats_end : (e : SeenEvent) (es : List SeenEvent) (t : ThreadState) (r : Completion ThreadState Value) → e.book ≡ 0 → EndsAs d g e.R e.Q e.C (record t { todo = es }) e.kind r → eats_tx (suc k) d g (e ∷ es) t ≡ uneaten (e ∷ es) r
    eats_end e es t r b h =
        ap (λ n. if n == 0 then (if is_retry e.kind then again d e.kind e.R (record t { todo = e ∷ es }) (eats_tx k d g es t) else uneaten (e ∷ es) (ends_tx d g e.kind e.R e.Q e.C (record t { todo = es }))) else Invalid) b
        ∙ ap (λ z. if z then again d e.kind e.R (record t { todo = e ∷ es }) (eats_tx k d g es t) else uneaten (e ∷ es) (ends_tx d g e.kind e.R e.Q e.C (record t { todo = es }))) h.0
        ∙ ap (uneaten (e ∷ es)) h.1

    -- a try that has to run again
    retry_comes : (from : Start) (s : ActorState) (es : List SeenEvent) (t : ThreadState) → IsBeside a.before a.from s t → OnEvent 0 (PassesAt d) (StartFits cells a P d t.txs from s) es → Related (account_link cells a) (tries d.validators k d.mark.span body f from s) (eats_tx (suc k) d g (es ++ a.tail) t)
    retry_comes from s [] t pr m = absurd m
    retry_comes from s (e ∷ es) t pr m =
        subst (Related (account_link cells a) (tries d.validators k d.mark.span body f from s)) (sym (eats_retry e (es ++ a.tail) t m.0 m.1)) (next from s es t pr m.2)

    -- a value, at the event of the end
    lands_at : (v : Value) (s : ActorState) (e : SeenEvent) (es : List SeenEvent) (t : ThreadState) (x : TxState) → s.done.sends ≡ x.done.sends → IsBeside a.before a.from s t → e.book ≡ 0 → a.fits (t.txs ++ run_of d v x ∷ []) Out s.todo es
        → EndsAs d g e.R e.Q e.C (record t { todo = es ++ a.tail }) e.kind (Completes v (holding x.done.sends (with_tx (run_of d v x) (record t { todo = es ++ a.tail })))) → Comes (Completes v (actor.holding s.done.sends s)) (e ∷ es) t
    lands_at v s e es t x same pr b fits h =
        let told : ThreadState = with_tx (run_of d v x) (record t { todo = es ++ a.tail }) in
        subst (Related (account_link cells a) (Completes v (actor.holding s.done.sends s))) (sym (eats_end e (es ++ a.tail) t (Completes v (holding x.done.sends told)) b h))
        (refl, (holds_beside a.before a.from s told s.done.sends x.done.sends same pr, es, refl, fits))

    -- a fault there
    breaks_at : (y : Fault) (s : ActorState) (e : SeenEvent) (es : List SeenEvent) (t t1 : ThreadState) → t1.todo ≡ es ++ a.tail → IsBeside a.before a.from s t1 → e.book ≡ 0 → a.fits t1.txs Out s.todo es → EndsAs d g e.R e.Q e.C (record t { todo = es ++ a.tail }) e.kind (Faults y t1) → Comes (Faults y s) (e ∷ es) t
    breaks_at y s e es t t1 td pr b fits h = subst (Related (account_link cells a) (Faults y s)) (sym (eats_end e (es ++ a.tail) t (Faults y t1) b h)) (refl, (pr.0, Out, es, td, fits))

    -- ---- the commit

    module _ (R : World) (v : Value) (x : TxState) (on : d.on R ≡ Completes v x) where
      -- what the transaction did is what its meaning did
      abbrev Made : ActorState → Type 0
      Made s = (s.done ≡ x.done) × Kept P s.done

      -- the commit, with these values of the refs that were commuted and not set
      abbrev committing : ActorState → Writes → Ask
      committing s ws = ask.Commit s.at (set_writes s.done) s.done.ensures s.view ws (sends_of_commit (held_in s.acting) s.done.sends)

      -- what fits behind the event of its end: it is that of one more transaction
      abbrev BehindEnd : ActorState → Writes → ThreadState → List SeenEvent → Type 0
      BehindEnd s ws t es = (y : TxRun) → Commits a.from y (committing s ws) → a.fits (t.txs ++ y ∷ []) Out s.todo es

      -- the sends that it asks for are those of the meaning
      sends_there : (s : ActorState) (t : ThreadState) → Made s → IsBeside a.before a.from s t → sends_of_commit (held_in s.acting) s.done.sends ≡ sends_of_commit t.held x.done.sends
      sends_there s t made pr = ap (λ w. sends_of_commit (held_in s.acting) w.sends) made.0 ∙ ap (λ h. sends_of_commit h x.done.sends) pr.1

      -- which is this one
      own_commit : (s : ActorState) (ws : Writes) (t : ThreadState) → Made s → IsBeside a.before a.from s t → Commits a.from (run_of d v x) (committing s ws)
      own_commit s ws t made pr = (
        ap (λ w. set_writes w) made.0,
        subst (λ w. AreWritten w.sets (set_writes s.done)) made.0 (are_written s.done made.1.1),
        ap (λ w. w.ensures) made.0,
        sends_there s t made pr ∙ sends_begin t.held x.done.sends ∙ ap (λ h. sends_of_commit h x.done.sends) pr.2,
      )

      on_there : (W : World) → R ≡ W → d.on W ≡ Completes v x
      on_there W e = subst (λ Z. d.on Z ≡ Completes v x) e on

      -- without a commute phase, where validators accept what was set
      final_fine : (s : ActorState) (W : World) (t : ThreadState) (u : Unit {0}) → Made s → commuted s.done ≡ [] → plainly s.done ≡ Completes tt u → final_writes g d.validators d.mark.span x.done W t ≡ Completes (set_writes s.done) t
      final_fine s W t u made none fine = subst (λ w. final_writes g d.validators d.mark.span w W t ≡ Completes (set_writes s.done) t) made.0 (final_plain s.done W t (Completes tt u) none fine)

      -- a ref that it set or ensured was written
      held_comes : (c : CellId) (s : ActorState) (es : List SeenEvent) (t : ThreadState) → Made s → IsBeside a.before a.from s t
          → OnEvent 0 (λ e. (R ≡ e.R) × SaysHeld c e.kind × (has_number (cells_in (set_writes s.done) ++ s.done.ensures) c.number ≡ true)) (a.fits t.txs Out s.todo) es → Related (account_link cells a) (tries d.validators k d.mark.span body f Anew s) (eats_tx (suc k) d g (es ++ a.tail) t)
      held_comes c s es t made pr m =
          retry_comes Anew s es t pr
          (on_passing d (λ e. (R ≡ e.R) × SaysHeld c e.kind × (has_number (cells_in (set_writes s.done) ++ s.done.ensures) c.number ≡ true)) (a.fits t.txs Out s.todo) (StartFits cells a P d t.txs Anew s)
          (λ e h. held_passes d e.kind e.R c v x (on_there e.R h.0) h.1 (subst (λ w. is_held w c.number ≡ true) made.0 (held_there s.done c.number h.2))) (λ es1 fits. fits) es m)

      plain_done : (ws : Writes) (u : Unit {0}) (s : ActorState) (es : List SeenEvent) (t : ThreadState) → Made s → commuted s.done ≡ [] → plainly s.done ≡ Completes tt u → IsBeside a.before a.from s t
          → OnEvent 0 (λ e. (R ≡ e.R) × (ws ≡ []) × SaysCommit (set_writes s.done) (sends_of_commit (held_in s.acting) s.done.sends) e.kind) (BehindEnd s ws t) es → Comes (Completes v (actor.holding s.done.sends s)) es t
      plain_done ws u s [] t made none fine pr m = absurd m
      plain_done ws u s (e ∷ es) t made none fine pr m =
          let t1 : ThreadState = record t { todo = es ++ a.tail } in
          lands_at v s e es t x (ap (λ w. w.sends) made.0) pr m.0 (m.2 (run_of d v x) (own_commit s ws t made pr))
          (commits_as d g e.R e.Q e.C t1 e.kind v x (set_writes s.done) (sends_of_commit (held_in s.acting) s.done.sends) (on_there e.R m.1.0) (final_fine s e.C t1 u made none fine) (sym (sends_there s t made pr)) m.1.2)

      plain_refused : (ws : Writes) (u : Unit {0}) (s : ActorState) (es : List SeenEvent) (t : ThreadState) → Made s → commuted s.done ≡ [] → plainly s.done ≡ Completes tt u → IsBeside a.before a.from s t
          → OnEvent 0 (λ e. (R ≡ e.R) × (ws ≡ []) × SaysRefused e.kind) (BehindEnd s ws t) es → Comes (Faults (fault_at AgentFailed d.mark.span) s) es t
      plain_refused ws u s [] t made none fine pr m = absurd m
      plain_refused ws u s (e ∷ es) t made none fine pr m =
          let t1 : ThreadState = record t { todo = es ++ a.tail } in
          breaks_at (fault_at AgentFailed d.mark.span) s e es t (with_tx (run_of d v x) t1) refl pr m.0 (m.2 (run_of d v x) (own_commit s ws t made pr)) (refuses_as d g e.R e.Q e.C t1 e.kind v x (set_writes s.done) (on_there e.R m.1.0) (final_fine s e.Q t1 u made none fine) m.1.2)

      -- where one refuses it, or faults
      plain_broken : (y : Fault) (u : Unit {0}) (s : ActorState) (es : List SeenEvent) (t : ThreadState) → Made s → commuted s.done ≡ [] → plainly s.done ≡ Faults y u → IsBeside a.before a.from s t
          → OnEvent 0 (λ e. (R ≡ e.R) × SaysFail e.kind) (a.fits t.txs Out s.todo) es → Comes (Faults y s) es t
      plain_broken y u s [] t made none z pr m = absurd m
      plain_broken y u s (e ∷ es) t made none z pr m =
          let t1 : ThreadState = record t { todo = es ++ a.tail } in
          let final : final_writes g d.validators d.mark.span x.done e.Q t1 ≡ Faults y t1 = subst (λ w. final_writes g d.validators d.mark.span w e.Q t1 ≡ Faults y t1) made.0 (final_plain s.done e.Q t1 (Faults y u) none z) in
          breaks_at y s e es t t1 refl pr m.0 m.2 (fails_commutes d g e.R e.Q e.C t1 e.kind v x y (on_there e.R m.1.0) final m.1.1)

      plain_answered : (u : Unit {0}) (s : ActorState) (es : List SeenEvent) (t : ThreadState) (r : Reply) (xs : List Exchange) → Made s → commuted s.done ≡ [] → plainly s.done ≡ Completes tt u → IsBeside a.before a.from s t
          → ReplyFits cells (In R) (committing s []) r (after_reply a.from a.fits t.txs (committing s []) r xs) es
          → Comes (bind (res (on_step (heard commit_verdict (Replied r (record s { todo = xs }))) landed)) (λ verdict s1. concludes verdict d.mark.span v (tries d.validators k d.mark.span body f) s1)) es t
      plain_answered u s es t reply.Done xs made none fine pr m = plain_done [] u (record s { todo = xs }) es t made none fine pr m
      plain_answered u s es t (reply.Retry c) xs made none fine pr m = held_comes c (record s { todo = xs }) es t made pr m
      plain_answered u s es t (reply.AgentIsFailed a) xs made none fine pr m = plain_refused [] u (record s { todo = xs }) es t made none fine pr m
      plain_answered u s es t (reply.Changed c) xs made none fine pr m = absurd m
      plain_answered u s es t _ xs made none fine pr m = tt

      lands_plainly : (u : Unit {0}) (s : ActorState) (es : List SeenEvent) (t : ThreadState) → Made s → commuted s.done ≡ [] → plainly s.done ≡ Completes tt u → IsBeside a.before a.from s t → a.fits t.txs (In R) s.todo es → Comes (lands_on d.mark.span v (tries d.validators k d.mark.span body f) [] s) es t
      unfolding commit
      lands_plainly u s es t made none fine pr fits =
          answered_in cells a t.txs (In R) es (committing s []) s
          (λ h. Comes (bind (res (on_step (heard commit_verdict h) landed)) (λ verdict s1. concludes verdict d.mark.span v (tries d.validators k d.mark.span body f) s1)) es t) fits
          (waiting (In R) (record s { wants = Some (committing s []) }) es t tt (λ ds. refl) pr fits) (λ r xs m. plain_answered u s es t r xs made none fine pr m)

      plain_fail_answered : (y : Fault) (u : Unit {0}) (s : ActorState) (es : List SeenEvent) (t : ThreadState) (r : Reply) (xs : List Exchange) → Made s → commuted s.done ≡ [] → plainly s.done ≡ Faults y u → IsBeside a.before a.from s t
          → ReplyFits cells (In R) (ask.Fail s.at s.view) r (λ ph1 es1. a.fits t.txs ph1 xs es1) es → Comes (bind (res (heard just_done (Replied r (record s { todo = xs })))) (λ w s1. Faults y s1)) es t
      plain_fail_answered y u s es t reply.Done xs made none z pr m = plain_broken y u (record s { todo = xs }) es t made none z pr m
      plain_fail_answered y u s es t _ xs made none z pr m = tt

      fails_plainly : (y : Fault) (u : Unit {0}) (s : ActorState) (es : List SeenEvent) (t : ThreadState) → Made s → commuted s.done ≡ [] → plainly s.done ≡ Faults y u → IsBeside a.before a.from s t → a.fits t.txs (In R) s.todo es
          → Comes (bind (res (fail s)) (λ w s1. Faults y s1)) es t
      unfolding fail
      fails_plainly y u s es t made none z pr fits =
          answered_in cells a t.txs (In R) es (ask.Fail s.at s.view) s (λ h. Comes (bind (res (heard just_done h)) (λ w s1. Faults y s1)) es t) fits
          (waiting (In R) (record s { wants = Some (ask.Fail s.at s.view) }) es t tt (λ ds. refl) pr fits) (λ r xs m. plain_fail_answered y u s es t r xs made none z pr m)

      -- a transaction whose validators need turns needs them at its failure
      plain_short : (s : ActorState) (t : ThreadState) (u : Unit {0}) → Made s → commuted s.done ≡ [] → plainly s.done ≡ OutOfTurns u → (Q : World) (l : List SeenEvent) → IsShort (halted (uneaten l (ends_tx d g (event.Fail 0 0) R Q Q t)))
      plain_short s t u made none e Q l =
          let final : final_writes g d.validators d.mark.span x.done Q t ≡ OutOfTurns t = subst (λ w. final_writes g d.validators d.mark.span w Q t ≡ OutOfTurns t) made.0 (final_plain s.done Q t (OutOfTurns u) none e) in
          subst (λ y. IsShort (halted (uneaten l y))) (sym (ap (λ r. over t r (λ w y. faulted (final_writes g d.validators d.mark.span y.done Q t) (λ z t1. Faults z t1)) (λ z. Faults z t)) on ∙ ap (λ y. faulted y (λ z t1. Faults z t1)) final)) tt

      -- what was set is committed, or a fault told
      plain_comes : (s : ActorState) (es : List SeenEvent) (t : ThreadState) (z : Completion (Unit {0}) (Unit {0})) → Made s → commuted s.done ≡ [] → plainly s.done ≡ z → IsQuiet z → IsBeside a.before a.from s t → a.fits t.txs (In R) s.todo es
          → Comes (telling fail (bind (carried s z) (λ u s1. Completes [] s1)) (λ xs s1. lands_on d.mark.span v (tries d.validators k d.mark.span body f) xs s1)) es t
      plain_comes s es t (Completes tt u) made none e quiet pr fits = lands_plainly u s es t made none e pr fits
      plain_comes s es t (Recurs vs u) made none e quiet pr fits = tt
      plain_comes s es t (Faults y u) made none e quiet pr fits = fails_plainly y u s es t made none e pr fits
      plain_comes s es t (Retries u) made none e quiet pr fits = absurd quiet
      plain_comes s es t (Waits u) made none e quiet pr fits = absurd quiet
      plain_comes s es t (OutOfTurns u) made none e quiet pr fits = shortage (In R) s es t pr fits (λ W. plain_short s (record t { todo = [] }) u made none e W _)
      plain_comes s es t Invalid made none e quiet pr fits = tt

      ends_plainly : (s : ActorState) (es : List SeenEvent) (t : ThreadState) → Made s → commuted s.done ≡ [] → IsBeside a.before a.from s t → a.fits t.txs (In R) s.todo es
          → Comes (telling fail (if_all_accepted d.validators d.mark.span f [] s) (λ xs s1. lands_on d.mark.span v (tries d.validators k d.mark.span body f) xs s1)) es t
      ends_plainly s es t made none pr fits =
          let r = accepted_carried P s f q (λ c vs p. left c vs s p) d.validators checks d.mark.span (set_writes s.done) in
          subst (λ y. Comes (telling fail (bind y (λ u s1. Completes [] s1)) (λ xs s1. lands_on d.mark.span v (tries d.validators k d.mark.span body f) xs s1)) es t) (sym r.0) (plain_comes s es t (plainly s.done) made none refl r.1 pr fits)

      -- ---- the commute phase

      module _ (Q : World) where
        final_there : (s : ActorState) (W : World) (t : ThreadState) (ws : Writes) (u : Unit {0}) → Made s → phase s.done W ≡ Completes ws u → final_writes g d.validators d.mark.span x.done W t ≡ Completes (merged (set_writes s.done) ws) t
        final_there s W t ws u made e = subst (λ w. final_writes g d.validators d.mark.span w W t ≡ Completes (merged (set_writes s.done) ws) t) made.0 (final_made s.done W t ws u made.1.0 e)

        phase_done : (s : ActorState) (es : List SeenEvent) (t : ThreadState) (ws : Writes) (u : Unit {0}) → Made s → phase s.done Q ≡ Completes ws u → IsBeside a.before a.from s t
            → OnEvent 0 (λ e. (R ≡ e.R) × AgreeOn ws Q e.C × SaysCommit (merged (set_writes s.done) ws) (sends_of_commit (held_in s.acting) s.done.sends) e.kind) (BehindEnd s ws t) es → Comes (Completes v (actor.holding s.done.sends s)) es t
        phase_done s [] t ws u made z pr m = absurd m
        phase_done s (e ∷ es) t ws u made z pr m =
            let t1 : ThreadState = record t { todo = es ++ a.tail } in
            let remade = phase_redone s.done ws u (redone q (phase_work s.done) (valued (commuted s.done) Q) tt) z in
            let same : valued (commuted s.done) Q ≡ valued (commuted s.done) e.C = agree_valued Q e.C (commuted s.done) (agree_before Q e.C q (phase_work s.done) (valued (commuted s.done) Q) ws remade.0 remade.1 m.1.1) in
            let there : phase s.done e.C ≡ Completes ws u = subst (λ l. phase_on s.done l ≡ Completes ws u) same z in
            lands_at v s e es t x (ap (λ w. w.sends) made.0) pr m.0 (m.2 (run_of d v x) (own_commit s ws t made pr))
            (commits_as d g e.R e.Q e.C t1 e.kind v x (merged (set_writes s.done) ws) (sends_of_commit (held_in s.acting) s.done.sends) (on_there e.R m.1.0) (final_there s e.C t1 ws u made there) (sym (sends_there s t made pr)) m.1.2)

        phase_refused : (s : ActorState) (es : List SeenEvent) (t : ThreadState) (ws : Writes) (u : Unit {0}) → Made s → phase s.done Q ≡ Completes ws u → IsBeside a.before a.from s t
            → OnEvent 0 (λ e. (R ≡ e.R) × (Q ≡ e.Q) × SaysRefused e.kind) (BehindEnd s ws t) es → Comes (Faults (fault_at AgentFailed d.mark.span) s) es t
        phase_refused s [] t ws u made z pr m = absurd m
        phase_refused s (e ∷ es) t ws u made z pr m =
            let t1 : ThreadState = record t { todo = es ++ a.tail } in
            let there : phase s.done e.Q ≡ Completes ws u = subst (λ W. phase s.done W ≡ Completes ws u) m.1.1 z in
            breaks_at (fault_at AgentFailed d.mark.span) s e es t (with_tx (run_of d v x) t1) refl pr m.0 (m.2 (run_of d v x) (own_commit s ws t made pr))
            (refuses_as d g e.R e.Q e.C t1 e.kind v x (merged (set_writes s.done) ws) (on_there e.R m.1.0) (final_there s e.Q t1 ws u made there) m.1.2)

        phase_broken : (y : Fault) (s : ActorState) (es : List SeenEvent) (t : ThreadState) (u : Unit {0}) → Made s → phase s.done Q ≡ Faults y u → IsBeside a.before a.from s t
            → OnEvent 0 (λ e. (R ≡ e.R) × (Q ≡ e.Q) × SaysFail e.kind) (a.fits t.txs Out s.todo) es → Comes (Faults y s) es t
        phase_broken y s [] t u made z pr m = absurd m
        phase_broken y s (e ∷ es) t u made z pr m =
            let t1 : ThreadState = record t { todo = es ++ a.tail } in
            let there : phase s.done e.Q ≡ Faults y u = subst (λ W. phase s.done W ≡ Faults y u) m.1.1 z in
            let final : final_writes g d.validators d.mark.span x.done e.Q t1 ≡ Faults y t1 = subst (λ w. final_writes g d.validators d.mark.span w e.Q t1 ≡ Faults y t1) made.0 (final_broke s.done e.Q t1 y u made.1.0 there) in
            breaks_at y s e es t t1 refl pr m.0 m.2 (fails_commutes d g e.R e.Q e.C t1 e.kind v x y (on_there e.R m.1.0) final m.1.2)

        phase_answered : (s : ActorState) (es : List SeenEvent) (t : ThreadState) (ws : Writes) (u : Unit {0}) (r : Reply) (xs : List Exchange) → Made s → phase s.done Q ≡ Completes ws u → IsBeside a.before a.from s t
            → ReplyFits cells (Viewed R Q) (committing s ws) r (after_reply a.from a.fits t.txs (committing s ws) r xs) es
            → Comes (bind (res (on_step (heard commit_verdict (Replied r (record s { todo = xs }))) landed)) (λ verdict s1. concludes verdict d.mark.span v (tries d.validators k d.mark.span body f) s1)) es t
        phase_answered s es t ws u reply.Done xs made z pr m = phase_done (record s { todo = xs }) es t ws u made z pr m
        phase_answered s es t ws u (reply.Retry c) xs made z pr m = held_comes c (record s { todo = xs }) es t made pr m
        phase_answered s es t ws u (reply.AgentIsFailed a) xs made z pr m = phase_refused (record s { todo = xs }) es t ws u made z pr m
        phase_answered s es t ws u (reply.Changed c) xs made z pr m =
            not_retrying cells a (tries d.validators k d.mark.span body f (Behind v) (record s { todo = xs })) (eats_tx (suc k) d g (es ++ a.tail) t) (tries d.validators k d.mark.span body f Anew)
            (retry_comes (Behind v) (record s { todo = xs }) es t pr
            (on_passing d (λ e. (R ≡ e.R) × SaysCommuted c e.kind × (has_number (cells_in ws) c.number ≡ true)) (a.fits t.txs (In R) xs) (StartFits cells a P d t.txs (Behind v) (record s { todo = xs }))
            (λ e h. commuted_passes d e.kind e.R c v x (on_there e.R h.0) h.1 (subst (λ w. has_number (commuted w) c.number ≡ true) made.0 (redone_there s Q ws u z c.number h.2))) (λ es1 fits. (R, x, on, made.0, made.1, fits)) es m))
        phase_answered s es t ws u _ xs made z pr m = tt

        lands_viewed : (s : ActorState) (es : List SeenEvent) (t : ThreadState) (ws : Writes) (u : Unit {0}) → Made s → phase s.done Q ≡ Completes ws u → IsBeside a.before a.from s t → a.fits t.txs (Viewed R Q) s.todo es
            → Comes (lands_on d.mark.span v (tries d.validators k d.mark.span body f) ws s) es t
        unfolding commit
        lands_viewed s es t ws u made z pr fits =
            answered_in cells a t.txs (Viewed R Q) es (committing s ws) s
            (λ h. Comes (bind (res (on_step (heard commit_verdict h) landed)) (λ verdict s1. concludes verdict d.mark.span v (tries d.validators k d.mark.span body f) s1)) es t) fits
            (waiting (Viewed R Q) (record s { wants = Some (committing s ws) }) es t tt (λ ds. refl) pr fits) (λ r xs m. phase_answered s es t ws u r xs made z pr m)

        fail_answered : (y : Fault) (s : ActorState) (es : List SeenEvent) (t : ThreadState) (u : Unit {0}) (r : Reply) (xs : List Exchange) → Made s → phase s.done Q ≡ Faults y u → IsBeside a.before a.from s t
            → ReplyFits cells (Viewed R Q) (ask.Fail s.at s.view) r (λ ph1 es1. a.fits t.txs ph1 xs es1) es
            → Comes (bind (res (heard just_done (Replied r (record s { todo = xs })))) (λ w s1. Faults y s1)) es t
        fail_answered y s es t u reply.Done xs made z pr m = phase_broken y (record s { todo = xs }) es t u made z pr m
        fail_answered y s es t u _ xs made z pr m = tt

        fails_viewed : (y : Fault) (s : ActorState) (es : List SeenEvent) (t : ThreadState) (u : Unit {0}) → Made s → phase s.done Q ≡ Faults y u → IsBeside a.before a.from s t → a.fits t.txs (Viewed R Q) s.todo es
            → Comes (bind (res (fail s)) (λ w s1. Faults y s1)) es t
        unfolding fail
        fails_viewed y s es t u made z pr fits =
            answered_in cells a t.txs (Viewed R Q) es (ask.Fail s.at s.view) s (λ h. Comes (bind (res (heard just_done h)) (λ w s1. Faults y s1)) es t) fits
            (waiting (Viewed R Q) (record s { wants = Some (ask.Fail s.at s.view) }) es t tt (λ ds. refl) pr fits) (λ r xs m. fail_answered y s es t u r xs made z pr m)

        -- a transaction whose commutes need turns needs them at its failure
        phase_short : (s : ActorState) (t : ThreadState) (u : Unit {0}) → Made s → phase s.done Q ≡ OutOfTurns u → (l : List SeenEvent) → IsShort (halted (uneaten l (ends_tx d g (event.Fail 0 0) R Q Q t)))
        phase_short s t u made e l =
            let final : final_writes g d.validators d.mark.span x.done Q t ≡ OutOfTurns t = subst (λ w. final_writes g d.validators d.mark.span w Q t ≡ OutOfTurns t) made.0 (final_short s.done Q t u made.1.0 e) in
            subst (λ y. IsShort (halted (uneaten l y))) (sym (ap (λ r. over t r (λ w y. faulted (final_writes g d.validators d.mark.span y.done Q t) (λ z t1. Faults z t1)) (λ z. Faults z t)) on ∙ ap (λ y. faulted y (λ z t1. Faults z t1)) final)) tt

        -- what the commutes made is committed, or their fault told
        phase_comes : (s : ActorState) (es : List SeenEvent) (t : ThreadState) (z : Completion (Unit {0}) Writes) → Made s → phase s.done Q ≡ z → IsQuiet z → IsBeside a.before a.from s t → a.fits t.txs (Viewed R Q) s.todo es
            → Comes (telling fail (carried s z) (λ xs s1. lands_on d.mark.span v (tries d.validators k d.mark.span body f) xs s1)) es t
        phase_comes s es t (Completes ws u) made e quiet pr fits = lands_viewed s es t ws u made e pr fits
        phase_comes s es t (Recurs vs u) made e quiet pr fits = tt
        phase_comes s es t (Faults y u) made e quiet pr fits = fails_viewed y s es t u made e pr fits
        phase_comes s es t (Retries u) made e quiet pr fits = absurd quiet
        phase_comes s es t (Waits u) made e quiet pr fits = absurd quiet
        phase_comes s es t (OutOfTurns u) made e quiet pr fits = shortage (Viewed R Q) s es t pr fits (λ W. phase_short s (record t { todo = [] }) u made e _)
        phase_comes s es t Invalid made e quiet pr fits = tt

        viewed_comes : (s : ActorState) (es : List SeenEvent) (t : ThreadState) → Made s → IsBeside a.before a.from s t → a.fits t.txs (Viewed R Q) s.todo es
            → Comes (telling fail (bind (redone f (phase_work s.done) (valued (commuted s.done) Q) s) (λ xs s1. if_all_accepted d.validators d.mark.span f xs s1)) (λ xs s1. lands_on d.mark.span v (tries d.validators k d.mark.span body f) xs s1)) es t
        viewed_comes s es t made pr fits =
            let r = phase_left s made.1.0 (valued (commuted s.done) Q) in
            subst (λ y. Comes (telling fail y (λ xs s1. lands_on d.mark.span v (tries d.validators k d.mark.span body f) xs s1)) es t) (sym r.0) (phase_comes s es t (phase s.done Q) made refl r.1 pr fits)

      -- what comes after the view
      abbrev after_view : Writes → ActorState → Completion ActorState Value
      after_view ws s1 = telling fail (bind (redone f (phase_work s1.done) ws s1) (λ xs s2. if_all_accepted d.validators d.mark.span f xs s2)) (λ xs s2. lands_on d.mark.span v (tries d.validators k d.mark.span body f) xs s2)

      view_answered : (s : ActorState) (es : List SeenEvent) (t : ThreadState) (r : Reply) (xs : List Exchange) → Made s → IsBeside a.before a.from s t
          → ReplyFits cells (In R) (ask.View (commuted s.done)) r (λ ph1 es1. a.fits t.txs ph1 xs es1) es
          → Comes (bind (res (on_step (heard views (Replied r (record s { todo = xs }))) (λ y s1. viewed y.0 (paired (commuted s.done) y.1) s1))) after_view) es t
      view_answered s es t (reply.Views p vs) xs made pr m =
          subst (λ o. Comes (bind (res (viewed p o (record s { todo = xs }))) after_view) es t) (sym (paired_valued m.0 (commuted s.done) vs m.1))
          (viewed_comes m.0 (record s { todo = xs; view = p }) es t made pr m.2)
      view_answered s es t _ xs made pr m = tt

      closing_comes : (cs : List CellId) (s : ActorState) (es : List SeenEvent) (t : ThreadState) → commuted s.done ≡ cs → Made s → IsBeside a.before a.from s t → a.fits t.txs (In R) s.todo es → Comes (closing d.validators cs d.mark.span f v (tries d.validators k d.mark.span body f) s) es t
      unfolding view
      closing_comes [] s es t none made pr fits = ends_plainly s es t made none pr fits
      closing_comes (c ∷ cs) s es t some made pr fits =
          answered_in cells a t.txs (In R) es (ask.View (commuted s.done)) s
          (λ h. Comes (bind (res (on_step (heard views h) (λ y s1. viewed y.0 (paired (commuted s.done) y.1) s1))) after_view) es t) fits
          (waiting (In R) (record s { wants = Some (ask.View (commuted s.done)) }) es t tt (λ ds. refl) pr fits) (λ r xs m. view_answered s es t r xs made pr m)

    -- ---- the body

    body_failed : (R : World) (y : Fault) (x : TxState) (s : ActorState) (es : List SeenEvent) (t : ThreadState) → d.on R ≡ Faults y x → IsBeside a.before a.from s t → OnEvent 0 (λ e. (R ≡ e.R) × SaysFail e.kind) (a.fits t.txs Out s.todo) es → Comes (Faults y s) es t
    body_failed R y x s [] t on pr m = absurd m
    body_failed R y x s (e ∷ es) t on pr m =
        let t1 : ThreadState = record t { todo = es ++ a.tail } in
        breaks_at y s e es t t1 refl pr m.0 m.2 (fails_body d g e.R e.Q e.C t1 e.kind y x (subst (λ W. d.on W ≡ Faults y x) m.1.0 on) m.1.1)

    body_fail_answered : (R : World) (y : Fault) (x : TxState) (s : ActorState) (es : List SeenEvent) (t : ThreadState) (r : Reply) (xs : List Exchange) → d.on R ≡ Faults y x → IsBeside a.before a.from s t
        → ReplyFits cells (In R) (ask.Fail s.at s.view) r (λ ph1 es1. a.fits t.txs ph1 xs es1) es → Comes (bind (res (heard just_done (Replied r (record s { todo = xs })))) (λ w s1. Faults y s1)) es t
    body_fail_answered R y x s es t reply.Done xs on pr m = body_failed R y x (record s { todo = xs }) es t on pr m
    body_fail_answered R y x s es t _ xs on pr m = tt

    body_fails : (R : World) (y : Fault) (x : TxState) (s : ActorState) (es : List SeenEvent) (t : ThreadState) → d.on R ≡ Faults y x → IsBeside a.before a.from s t → a.fits t.txs (In R) s.todo es → Comes (bind (res (fail s)) (λ w s1. Faults y s1)) es t
    unfolding fail
    body_fails R y x s es t on pr fits =
        answered_in cells a t.txs (In R) es (ask.Fail s.at s.view) s (λ h. Comes (bind (res (heard just_done h)) (λ w s1. Faults y s1)) es t) fits
        (waiting (In R) (record s { wants = Some (ask.Fail s.at s.view) }) es t tt (λ ds. refl) pr fits) (λ r xs m. body_fail_answered R y x s es t r xs on pr m)

    -- what comes after the body
    abbrev after_body : Value → ActorState → Completion ActorState Value
    after_body v s1 = closing d.validators (commuted s1.done) d.mark.span f v (tries d.validators k d.mark.span body f) s1

    body_completed : (R : World) (v : Value) (s : ActorState) (y : Completion TxState Value) (es : List SeenEvent) (t : ThreadState) (out : List ℕ) (sends : Option (List Action)) → d.on R ≡ y → (a.before ++ t.printed ≡ out) × (sends ≡ t.held) × (begin_of t.held ≡ a.from) → CompletesAs (tx_link P (a.fits t.txs) None R es out sends) v s y → Comes (after_body v s) es t
    body_completed R v s (Completes w x) es t out sends on pr h =
        closing_comes R v x (on ∙ ap (λ z. Completes z x) (sym h.0)) (commuted s.done) s es t refl (h.1.0, h.1.1) (pr.0 ∙ sym h.1.3.0, h.1.3.1 ∙ pr.1, pr.2) h.1.2
    body_completed R v s _ es t out sends on pr h = absurd h

    body_faulted : (R : World) (e : Fault) (s : ActorState) (y : Completion TxState Value) (es : List SeenEvent) (t : ThreadState) (out : List ℕ) (sends : Option (List Action)) → d.on R ≡ y → (a.before ++ t.printed ≡ out) × (sends ≡ t.held) × (begin_of t.held ≡ a.from) → FaultsAs (tx_link P (a.fits t.txs) None R es out sends) e s y → Comes (bind (res (fail s)) (λ w s1. Faults e s1)) es t
    body_faulted R e s (Faults c x) es t out sends on pr h = body_fails R e x s es t (on ∙ ap (λ z. Faults z x) (sym h.0)) (pr.0 ∙ sym h.1.1.0, h.1.1.1 ∙ pr.1, pr.2) h.1.0
    body_faulted R e s _ es t out sends on pr h = absurd h

    body_comes : (R : World) (x : Completion ActorState Value) (es : List SeenEvent) (t : ThreadState) (out : List ℕ) (sends : Option (List Action)) → (a.before ++ t.printed ≡ out) × (sends ≡ t.held) × (begin_of t.held ≡ a.from) → Related (tx_link P (a.fits t.txs) None R es out sends) x (d.on R)
        → ((j : ℕ) → Related (tx_link P (a.fits t.txs) (Some j) R es out sends) x (d.lacking j R)) → Comes (telling fail x after_body) es t
    body_comes R (Completes v s) es t out sends pr h l = body_completed R v s (d.on R) es t out sends refl pr h
    body_comes R (Recurs vs s) es t out sends pr h l = tt
    body_comes R (Faults e s) es t out sends pr h l = body_faulted R e s (d.on R) es t out sends refl pr h
    body_comes R (Retries s) es t out sends pr h l =
        subst (λ xs. Comes (Retries s) xs t) (sym h.2)
        (subst (Related (account_link cells a) (tries d.validators k d.mark.span body f Anew s)) (sym (eats_retry h.0 (h.1 ++ a.tail) t h.3 (read_passes d (a.fits t.txs) R es h.1 out sends s h.0 h.5.0 h.2 h.4 h.5.1 (l h.5.0.number)))) (next Anew s h.1 t (pr.0 ∙ sym h.7.0, h.7.1 ∙ pr.1, pr.2) h.6))
    body_comes R (Waits s) es t out sends pr h l = waiting (In R) s es t h.2 h.3 (pr.0 ∙ sym h.1.0, h.1.1 ∙ pr.1, pr.2) h.0
    body_comes R (OutOfTurns s) es t out sends pr h l = shortage (In R) s es t (pr.0 ∙ sym h.2.0, h.2.1 ∙ pr.1, pr.2) h.1 (λ Q. uneaten_short (in_hand cells Q (In R)) (ends_tx d g (event.Fail 0 0) R Q Q (record t { todo = [] })) (over_short (d.on R) (record t { todo = [] }) _ _ h.0))
    body_comes R Invalid es t out sends pr h l = tt

    -- ---- the begin

    module _ (body_related : (txs : List TxRun) (u : Option ℕ) (R : World) (s : ActorState) (es : List SeenEvent) → s.done ≡ empty_frame → a.fits txs (In R) s.todo es → Related (tx_link P (a.fits txs) u R es s.printed (held_in s.acting)) (body s) (body_on d u R)) where
      -- what comes after the begin
      abbrev after_begin : Unit {0} → ActorState → Completion ActorState Value
      after_begin u s1 = telling fail (body s1) after_body

      begin_answered : (s : ActorState) (es : List SeenEvent) (t : ThreadState) (r : Reply) (xs : List Exchange) → IsBeside a.before a.from s t → ReplyFits cells Out ask.Begin r (λ ph1 es1. a.fits t.txs ph1 xs es1) es
          → Comes (bind (res (on_step (heard read_point (Replied r (record s { todo = xs }))) begun)) after_begin) es t
      begin_answered s es t (reply.At p) xs pr m =
          let s1 : ActorState = record s { todo = xs; at = p; view = p; done = empty_frame; commuting = None } in
          body_comes m.0 (body s1) es t s.printed (held_in s.acting) pr (body_related t.txs None m.0 s1 es refl m.1) (λ j. body_related t.txs (Some j) m.0 s1 es refl m.1)
      begin_answered s es t _ xs pr m = tt

      begin_comes : (s : ActorState) (es : List SeenEvent) (t : ThreadState) → IsBeside a.before a.from s t → a.fits t.txs Out s.todo es → Comes (bind (res (begin s)) after_begin) es t
      unfolding begin
      begin_comes s es t pr fits =
          answered_in cells a t.txs Out es ask.Begin s (λ h. Comes (bind (res (on_step (heard read_point h) begun)) after_begin) es t) fits
          (waiting Out (record s { wants = Some ask.Begin }) es t tt (λ ds. refl) pr fits) (λ r xs m. begin_answered s es t r xs pr m)

      attempt_comes : (from : Start) (s : ActorState) (es : List SeenEvent) (t : ThreadState) → IsBeside a.before a.from s t → StartFits cells a P d t.txs from s es → Comes (attempt d.validators from d.mark.span body f (tries d.validators k d.mark.span body f) s) es t
      attempt_comes Anew s es t pr fits = begin_comes s es t pr fits
      attempt_comes (Behind v) s es t pr fits = closing_comes fits.0 v fits.1 fits.2 (commuted s.done) s es t refl (fits.3, fits.4) pr fits.5

  -- the phase that a try starts in
  start_fits : (txs : List TxRun) (from : Start) (s : ActorState) (es : List SeenEvent) → StartFits cells a P d txs from s es → (ph : Phase) × a.fits txs ph s.todo es
  start_fits txs Anew s es fits = (Out, fits)
  start_fits txs (Behind v) s es fits = (In fits.0, fits.5)

  -- tries whose body is the transaction on each world
  pub tries_related : (body_related : (txs : List TxRun) (u : Option ℕ) (R : World) (s : ActorState) (es : List SeenEvent) → s.done ≡ empty_frame → a.fits txs (In R) s.todo es → Related (tx_link P (a.fits txs) u R es s.printed (held_in s.acting)) (body s) (body_on d u R)) → (k : ℕ) → Follow k
  tries_related br zero from s es t pr fits = let f : (ph : Phase) × a.fits t.txs ph s.todo es = start_fits t.txs from s es fits in (refl, (pr.0, f.0, es, refl, f.1))
  tries_related br (suc k) from s es t pr fits = attempt_comes k (tries_related br k) br from s es t pr fits
