-- What a sound thread means with more turns, beside what it means with fewer. Where fewer suffice it is the same. Where they don't, more
-- turns print no less, eat no fewer events, and note no fewer transactions; and without an event to come nothing is wrong.
use Rattle.std.proofs.Common.{◌≡◌, ◌<◌, ◌≤◌, ℕ, zero, suc, ◌+◌, ◌==◌, ◌&&◌, ◌||◌, Bool, true, false, List, [], ◌∷◌, ◌++◌, length, length-append, take, Option, Some, None, Result, Ok, Err, refl, sym, ap, ◌∙◌, subst, inr, arith, if◌then◌else◌}
use Rattle.std.proofs.lemmas.Bool.{eq-eqb, false≢true}
use Rattle.std.proofs.lemmas.List.{append_assoc, append-nil}
use Rattle.txs_world_protocol.specs.Ask.{Writes, with_write, same_value, same_cell, same_writes, same_action, same_actions}
use Rattle.txs_world_protocol.specs.SeenEvent.{SeenEvent, home}
use Rattle.txs_world_protocol.specs.declared.event.Cause.TheVariants as cause
use Rattle.txs_world_protocol.specs.declared.event.EventKind.{EventKind}
use Rattle.txs_world_protocol.specs.declared.event.EventKind.TheVariants as event
use Rattle.txs_value_cell.specs.Cells.{World, validators_of, validator_at}
use Rattle.txs_value_cell.specs.Forms.{rule, cell_of}
use Rattle.txs_value_cell.specs.declared.action.Action.{Action}
use Rattle.txs_value_cell.specs.declared.form.CellForm.TheVariants as form_of
use Rattle.txs_value_cell.specs.declared.form.LookForm.{LookForm}
use Rattle.txs_value_cell.specs.declared.form.LookForm.TheVariants.{Deref, Ensure}
use Rattle.txs_value_cell.specs.declared.form.PutForm.{PutForm}
use Rattle.txs_value_cell.specs.declared.form.PutForm.TheVariants.{RefSet, Reset}
use Rattle.txs_value_cell.specs.declared.form.UpdateForm.{UpdateForm}
use Rattle.txs_value_cell.specs.declared.form.UpdateForm.TheVariants.{Alter, Commute, Swap}
use Rattle.txs_frame.specs.Frame.{PlainTxFrame, has_number, with_cell, is_commuted, set_ref, ensure_ref, commute_ref, set_writes, commuted, phase_work, sends_of_commit}
use Rattle.txs_value_apply.specs.Core.{core, vector_of}
use Rattle.txs_value_apply.specs.Truth.{choose}
use Rattle.txs_value_data.specs.Places.{nth, fault_at}
use Rattle.txs_value_data.specs.declared.fault.Fault.{Fault}
use Rattle.txs_value_data.specs.declared.fault.FaultKind.{FaultKind}
use Rattle.txs_value_data.specs.declared.fault.FaultKind.TheVariants.{AgentFailed, SetAfterCommute}
use Rattle.txs_value_data.specs.declared.fault.Span.{Span}
use Rattle.txs_value_data.specs.declared.op.Callee.{Callee}
use Rattle.txs_value_data.specs.declared.op.Callee.TheVariants.{Core as CoreOp, Function}
use Rattle.txs_value_data.specs.Limits.{reruns}
use Rattle.txs_value_data.specs.Printed.{printed_line}
use Rattle.txs_value_data.specs.declared.value.CellId.{CellId}
use Rattle.txs_value_data.specs.declared.value.Value.{Value}
use Rattle.txs_value_data.specs.declared.value.Value.TheVariants.{Nil, Truth, Int, Key, Text, Vector, Cell}
use Rattle.txs_tree_meaning.specs.Known.{Known, is_pure, known_of, known}
use Rattle.txs_tree_meaning.specs.Meaning.{Completion, Completes, Recurs, Faults, Retries, Waits, OutOfTurns, Invalid, bind, again, closed, give, result_of, Applies, turns, apply, eval, eval_all, eval_let, eval_do, call_at, allowed}
use Rattle.txs_tree_meaning.specs.Pure.{no_effects, nowhere}
use Rattle.txs_tree_meaning.specs.Sound.{MayStand, MayCall, in_thread, in_dosync, SoundTree, SoundAll, SoundLet, SoundDo, SoundCallee, SoundFunctions, SoundSource, SoundSent}
use Rattle.txs_tree_meaning.specs.Thread.{TxRun, ThreadState, with_tx, holding, uneaten, eats, meant, reads, resets, faulted, faultless, swaps, sends, sends_or_holds, over, Transacting, run_of, ends_tx, is_retry, is_held, missing, again as tried, eats_tx, thread_look, thread_put, thread_update, on_events, around, thread_meaning, from_events, applies_in, action_meaning, accepts}
use Rattle.txs_tree_meaning.specs.Transaction.{TxState, own, current, noted, lacks, looked, taken_lacking, done_as, tx_look_lacking, tx_put, tx_update_lacking, in_transaction_lacking, tx_start, tx_meaning, tx_meaning_lacking, valued, merged, judged, validated, if_accepted, commute_writes, final_writes}
use Rattle.txs_tree_meaning.specs.Tree.{Mark, Tree, Const, Local, If, Do, Let, Loop, Recur, Core, Call, VectorOf, Println, Dosync, Look, Put, Update, Send, Trees, none, more, count, PlainFunction, ThreadSource}
use Rattle.txs_tree_meaning.proofs.Callable.{nth-take, function_at}
use Rattle.txs_theorem_threads.proofs.Accepted.{OfValidator, validator_such, cells_such, validators_pure, validated_related, if_accepted_related, validated_carried, made_carried, final_carried}
use Rattle.txs_theorem_threads.proofs.Callees.{Keeps, IsPure, pure_callees, keeps_in, function_callees, sound_pure}
use Rattle.txs_theorem_threads.proofs.Depth.{pures, others, both_kinds, other_before, known_there}
use Rattle.txs_theorem_threads.proofs.Functions.{there, nth_below, thread_sound}
use Rattle.txs_theorem_threads.proofs.Meant.{Any, none_some, shallow_proper}
use Rattle.txs_theorem_threads.proofs.Quiet.{carried, quietly, callee_carried, AllCommutes, commutes_both}
use Rattle.txs_theorem_threads.proofs.Related.{Link, Related, Turns, bind_related, closed_related, Applied, Alike, apply_related, eval_related, calls_related}
use Rattle.txs_theorem_threads.proofs.Same.{same_link, redone_alike, same_long}
use Rattle.txs_theorem_threads.specs.Behaves.{IsProper}
use Rattle.txs_theorem_threads.specs.RepliesFit.{Halt, Going, Stopped, Short, Rerun}

-- ---- states of a thread

-- a state that comes later: more was printed, events were eaten, and transactions were noted, at most k more than events were eaten
pub record Within (k : ℕ) (s t : ThreadState) : Type 0 where
  pub more : List ℕ
  pub gone : List SeenEvent
  pub runs : List TxRun
  pub prints : t.printed ≡ s.printed ++ more
  pub eats : s.todo ≡ gone ++ t.todo
  pub notes : t.txs ≡ s.txs ++ runs
  pub few : length runs ≤ k + length gone

-- no more transactions than events
abbrev pub Onward : ThreadState → ThreadState → Type 0
Onward s t = Within 0 s t

none_noted : (k : ℕ) → 0 ≤ k + 0
none_noted k = omega arith

pub stays : (s t : ThreadState) → t.printed ≡ s.printed → s.todo ≡ t.todo → t.txs ≡ s.txs → Onward s t
stays s t p e n = record { more = []; gone = []; runs = []; prints = p ∙ sym (append-nil s.printed); eats = e; notes = n ∙ sym (append-nil s.txs); few = none_noted 0 }

pub same : (s : ThreadState) → Onward s s
same s = stays s s refl refl refl

still : (s : ThreadState) → Within 1 s s
still s = record { more = []; gone = []; runs = []; prints = sym (append-nil s.printed); eats = refl; notes = sym (append-nil s.txs); few = none_noted 1 }

pub further : (s t u : ThreadState) → Onward s t → Onward t u → Onward s u
further s t u g h = record {
  more = g.more ++ h.more;
  gone = g.gone ++ h.gone;
  runs = g.runs ++ h.runs;
  prints = h.prints ∙ ap (λ l. l ++ h.more) g.prints ∙ append_assoc s.printed g.more h.more;
  eats = g.eats ∙ ap (λ l. g.gone ++ l) h.eats ∙ sym (append_assoc g.gone h.gone u.todo);
  notes = h.notes ∙ ap (λ l. l ++ h.runs) g.notes ∙ append_assoc s.txs g.runs h.runs;
  few = omega (arith, length-append g.gone h.gone, length-append g.runs h.runs, g.few, h.few);
}

-- an event is eaten, and with it one transaction may be noted
eaten : (e : SeenEvent) (b s u : ThreadState) → b.todo ≡ e ∷ s.todo → s.printed ≡ b.printed → s.txs ≡ b.txs → Within 1 s u → Onward b u
eaten e b s u here p n k = record {
  more = k.more;
  gone = e ∷ k.gone;
  runs = k.runs;
  prints = k.prints ∙ ap (λ l. l ++ k.more) p;
  eats = here ∙ ap (λ l. e ∷ l) k.eats;
  notes = k.notes ∙ ap (λ l. l ++ k.runs) n;
  few = omega (arith, k.few);
}

none_behind : (xs ys : List SeenEvent) → xs ++ ys ≡ [] → ys ≡ []
none_behind [] ys h = h
none_behind (x ∷ xs) ys h = let l : suc (length (xs ++ ys)) ≡ 0 = ap length h in absurd (omega (arith, l))

-- where no event is to come, none is later
pub none_later : (s t : ThreadState) → Onward s t → s.todo ≡ [] → t.todo ≡ []
none_later s t g e = none_behind g.gone t.todo (sym g.eats ∙ e)

some_event : {A : Type 0} (e : SeenEvent) (es : List SeenEvent) → e ∷ es ≡ [] → A
some_event e es h = let l : suc (length es) ≡ 0 = ap length h in absurd (omega (arith, l))

some_same : (n m : ℕ) → Some n ≡ Some m → n ≡ m
some_same n m e = cc

-- ---- parts of a tree

-- Where a part comes to from a state: a later one. Nothing runs again as a whole; a recur has as many values as its loop; and there is a
-- meaning, if no event is to come.
abbrev pub From : {A : Type 0} → Option ℕ → (A → Type 0) → ThreadState → Completion ThreadState A → Type 0
From tail P s (Completes a t) = P a × Onward s t
From tail P s (Recurs vs t) = (tail ≡ Some (length vs)) × Onward s t
From tail P s (Faults f t) = Onward s t
From tail P s (Retries t) = ⊥
From tail P s (Waits t) = Onward s t
From tail P s (OutOfTurns t) = Onward s t
From tail P s Invalid = s.todo ≡ [] → ⊥

-- With more turns it is the same; where fewer don't suffice it comes to what is later still.
abbrev pub Step : {A : Type 0} → Option ℕ → (A → Type 0) → Completion ThreadState A → Completion ThreadState A → Type 0
Step tail P (Completes a t) y = y ≡ Completes a t
Step tail P (Recurs vs t) y = y ≡ Recurs vs t
Step tail P (Faults f t) y = y ≡ Faults f t
Step tail P (Retries t) y = y ≡ Retries t
Step tail P (Waits t) y = y ≡ Waits t
Step tail P (OutOfTurns t) y = From tail P t y
Step tail P Invalid y = y ≡ Invalid

abbrev pub Leads : {A : Type 0} → Option ℕ → (A → Type 0) → ThreadState → Completion ThreadState A → Completion ThreadState A → Type 0
Leads tail P s x y = From tail P s y × Step tail P x y

-- so many values
abbrev pub Many : ℕ → List Value → Type 0
Many n vs = length vs ≡ n

pub onward_from : {A : Type 0} (tail : Option ℕ) (P : A → Type 0) (s t : ThreadState) (y : Completion ThreadState A) → Onward s t → From tail P t y → From tail P s y
onward_from tail P s t (Completes a u) g h = (h.0, further s t u g h.1)
onward_from tail P s t (Recurs vs u) g h = (h.0, further s t u g h.1)
onward_from tail P s t (Faults f u) g h = further s t u g h
onward_from tail P s t (Retries u) g h = h
onward_from tail P s t (Waits u) g h = further s t u g h
onward_from tail P s t (OutOfTurns u) g h = further s t u g h
onward_from tail P s t Invalid g h = λ e. h (none_later s t g e)

pub bind_from : {A B : Type 0} (tail : Option ℕ) (P : A → Type 0) (Q : B → Type 0) (y : Completion ThreadState A) (g : A → ThreadState → Completion ThreadState B) (s : ThreadState) → From None P s y → ((a : A) (u : ThreadState) → P a → From tail Q u (g a u)) → From tail Q s (bind y g)
bind_from tail P Q (Completes a u) g s h each = onward_from tail Q s u (g a u) h.1 (each a u h.0)
bind_from tail P Q (Recurs vs u) g s h each = absurd (none_some (length vs) h.0)
bind_from tail P Q (Faults f u) g s h each = h
bind_from tail P Q (Retries u) g s h each = h
bind_from tail P Q (Waits u) g s h each = h
bind_from tail P Q (OutOfTurns u) g s h each = h
bind_from tail P Q Invalid g s h each = h

bind_step : {A B : Type 0} (tail : Option ℕ) (P : A → Type 0) (Q : B → Type 0) (x y : Completion ThreadState A) (k g : A → ThreadState → Completion ThreadState B) (s : ThreadState) → Leads None P s x y → ((a : A) (t : ThreadState) → P a → Leads tail Q t (k a t) (g a t)) → Step tail Q (bind x k) (bind y g)
bind_step tail P Q (Completes a t) y k g s h each = let here : From None P s (Completes a t) = subst (λ z. From None P s z) h.1 h.0 in subst (λ z. Step tail Q (k a t) (bind z g)) (sym h.1) (each a t here.0).1
bind_step tail P Q (Recurs vs t) y k g s h each = let here : From None P s (Recurs vs t) = subst (λ z. From None P s z) h.1 h.0 in absurd (none_some (length vs) here.0)
bind_step tail P Q (Faults f t) y k g s h each = ap (λ z. bind z g) h.1
bind_step tail P Q (Retries t) y k g s h each = ap (λ z. bind z g) h.1
bind_step tail P Q (Waits t) y k g s h each = ap (λ z. bind z g) h.1
bind_step tail P Q (OutOfTurns t) y k g s h each = bind_from tail P Q y g t h.1 (λ a u p. (each a u p).0)
bind_step tail P Q Invalid y k g s h each = ap (λ z. bind z g) h.1

bind_leads : {A B : Type 0} (tail : Option ℕ) (P : A → Type 0) (Q : B → Type 0) (x y : Completion ThreadState A) (k g : A → ThreadState → Completion ThreadState B) (s : ThreadState) → Leads None P s x y → ((a : A) (t : ThreadState) → P a → Leads tail Q t (k a t) (g a t)) → Leads tail Q s (bind x k) (bind y g)
bind_leads tail P Q x y k g s h each = (bind_from tail P Q y g s h.0 (λ a u p. (each a u p).0), bind_step tail P Q x y k g s h each)

pub again_from : (tail : Option ℕ) (d : ℕ) (y : Completion ThreadState Value) (g : List Value → ThreadState → Completion ThreadState Value) (s : ThreadState) → From (Some d) Any s y → ((ws : List Value) (u : ThreadState) → length ws ≡ d → From tail Any u (g ws u)) → From tail Any s (again y g)
again_from tail d (Completes a u) g s h each = h
again_from tail d (Recurs ws u) g s h each = onward_from tail Any s u (g ws u) h.1 (each ws u (sym (some_same d (length ws) h.0)))
again_from tail d (Faults f u) g s h each = h
again_from tail d (Retries u) g s h each = h
again_from tail d (Waits u) g s h each = h
again_from tail d (OutOfTurns u) g s h each = h
again_from tail d Invalid g s h each = h

again_step : (tail : Option ℕ) (d : ℕ) (x y : Completion ThreadState Value) (k g : List Value → ThreadState → Completion ThreadState Value) (s : ThreadState) → Leads (Some d) Any s x y → ((ws : List Value) (t : ThreadState) → length ws ≡ d → Leads tail Any t (k ws t) (g ws t)) → Step tail Any (again x k) (again y g)
again_step tail d (Completes a t) y k g s h each = ap (λ z. again z g) h.1
again_step tail d (Recurs ws t) y k g s h each =
    let here : From (Some d) Any s (Recurs ws t) = subst (λ z. From (Some d) Any s z) h.1 h.0 in
    subst (λ z. Step tail Any (k ws t) (again z g)) (sym h.1) (each ws t (sym (some_same d (length ws) here.0))).1
again_step tail d (Faults f t) y k g s h each = ap (λ z. again z g) h.1
again_step tail d (Retries t) y k g s h each = ap (λ z. again z g) h.1
again_step tail d (Waits t) y k g s h each = ap (λ z. again z g) h.1
again_step tail d (OutOfTurns t) y k g s h each = again_from tail d y g t h.1 (λ ws u l. (each ws u l).0)
again_step tail d Invalid y k g s h each = ap (λ z. again z g) h.1

again_leads : (tail : Option ℕ) (d : ℕ) (x y : Completion ThreadState Value) (k g : List Value → ThreadState → Completion ThreadState Value) (s : ThreadState) → Leads (Some d) Any s x y → ((ws : List Value) (t : ThreadState) → length ws ≡ d → Leads tail Any t (k ws t) (g ws t)) → Leads tail Any s (again x k) (again y g)
again_leads tail d x y k g s h each = (again_from tail d y g s h.0 (λ ws u l. (each ws u l).0), again_step tail d x y k g s h each)

pub closed_from : (y : Completion ThreadState Value) (s : ThreadState) → From None Any s y → From None Any s (closed y)
closed_from (Completes a u) s h = h
closed_from (Recurs vs u) s h = absurd (none_some (length vs) h.0)
closed_from (Faults f u) s h = h
closed_from (Retries u) s h = h
closed_from (Waits u) s h = h
closed_from (OutOfTurns u) s h = h
closed_from Invalid s h = h

closed_step : (x y : Completion ThreadState Value) → Step None Any x y → Step None Any (closed x) (closed y)
closed_step (Completes a t) y h = ap closed h
closed_step (Recurs vs t) y h = ap closed h
closed_step (Faults f t) y h = ap closed h
closed_step (Retries t) y h = ap closed h
closed_step (Waits t) y h = ap closed h
closed_step (OutOfTurns t) y h = closed_from y t h
closed_step Invalid y h = ap closed h

pub loose_from : (tail : Option ℕ) (y : Completion ThreadState Value) (s : ThreadState) → From None Any s y → From tail Any s y
loose_from tail (Completes a u) s h = h
loose_from tail (Recurs vs u) s h = absurd (none_some (length vs) h.0)
loose_from tail (Faults f u) s h = h
loose_from tail (Retries u) s h = h
loose_from tail (Waits u) s h = h
loose_from tail (OutOfTurns u) s h = h
loose_from tail Invalid s h = h

loose_step : (tail : Option ℕ) (x y : Completion ThreadState Value) → Step None Any x y → Step tail Any x y
loose_step tail (Completes a t) y h = h
loose_step tail (Recurs vs t) y h = h
loose_step tail (Faults f t) y h = h
loose_step tail (Retries t) y h = h
loose_step tail (Waits t) y h = h
loose_step tail (OutOfTurns t) y h = loose_from tail y t h
loose_step tail Invalid y h = h

-- what is in no tail position may stand in one
loose : (tail : Option ℕ) (x y : Completion ThreadState Value) (s : ThreadState) → Leads None Any s x y → Leads tail Any s x y
loose tail x y s h = (loose_from tail y s h.0, loose_step tail x y h.1)

pub turns_from : (tail : Option ℕ) (n d : ℕ) (g : List Value → ThreadState → Completion ThreadState Value) → ((vs : List Value) (s : ThreadState) → length vs ≡ d → From (Some d) Any s (g vs s)) → (vs : List Value) (s : ThreadState) → length vs ≡ d → From tail Any s (turns n d g vs s)
turns_from tail zero d g each vs s e = same s
turns_from tail (suc n) d g each vs s e =
    subst (λ b. From tail Any s (if b then again (g vs s) (turns n d g) else Invalid)) (sym (eq-eqb (length vs) d e)) (again_from tail d (g vs s) (turns n d g) s (each vs s e) (λ ws u l. turns_from tail n d g each ws u l))

turns_leads : (tail : Option ℕ) (nl nr : ℕ) → nl ≤ nr → (d : ℕ) (k g : List Value → ThreadState → Completion ThreadState Value) → ((vs : List Value) (s : ThreadState) → length vs ≡ d → Leads (Some d) Any s (k vs s) (g vs s)) → (vs : List Value) (s : ThreadState) → length vs ≡ d
    → Leads tail Any s (turns nl d k vs s) (turns nr d g vs s)
turns_leads tail zero nr le d k g each vs s e =
    let r = turns_from tail nr d g (λ ws u l. (each ws u l).0) vs s e in
    (r, r)
turns_leads tail (suc nl) zero le d k g each vs s e = absurd (omega (arith, le))
turns_leads tail (suc nl) (suc nr) le d k g each vs s e =
    let less : nl ≤ nr = omega (arith, le) in
    subst (λ b. Leads tail Any s (if b then again (k vs s) (turns nl d k) else Invalid) (if b then again (g vs s) (turns nr d g) else Invalid)) (sym (eq-eqb (length vs) d e))
    (again_leads tail d (k vs s) (g vs s) (turns nl d k) (turns nr d g) s (each vs s e) (λ ws u l. turns_leads tail nl nr less d k g each ws u l))

value_leads : {A : Type 0} (tail : Option ℕ) (P : A → Type 0) (a : A) (s : ThreadState) → P a → Leads tail P s (Completes a s) (Completes a s)
value_leads tail P a s p = ((p, same s), refl)

local_leads : (tail : Option ℕ) (env : List Value) (i : ℕ) (s : ThreadState) → i < length env → Leads {A = Value} tail Any s (give (nth env i) s) (give (nth env i) s)
local_leads tail [] i s lt = absurd (omega (arith, lt))
local_leads tail (v ∷ env) zero s lt = ((tt, same s), refl)
local_leads tail (v ∷ env) (suc i) s lt = local_leads tail env i s (omega (arith, lt))

pub result_leads : (tail : Option ℕ) (r : Result Value FaultKind) (span : Span) (s : ThreadState) → Leads {A = Value} tail Any s (result_of r span s) (result_of r span s)
result_leads tail (Ok v) span s = ((tt, same s), refl)
result_leads tail (Err k) span s = (same s, refl)

pub choose_leads : (tail : Option ℕ) (v : Value) (x y z w : Completion ThreadState Value) (s : ThreadState) → Leads tail Any s x z → Leads tail Any s y w → Leads tail Any s (choose v x y) (choose v z w)
choose_leads tail Nil x y z w s h k = k
choose_leads tail (Truth false) x y z w s h k = k
choose_leads tail (Truth true) x y z w s h k = h
choose_leads tail (Int i) x y z w s h k = h
choose_leads tail (Key bs) x y z w s h k = h
choose_leads tail (Text bs) x y z w s h k = h
choose_leads tail (Vector vs) x y z w s h k = h
choose_leads tail (Cell c) x y z w s h k = h

-- a form on a cell that it takes
on_leads : (r : Result CellId FaultKind) (span : Span) (k g : CellId → ThreadState → Completion ThreadState Value) (s : ThreadState) → ((c : CellId) → Leads None Any s (k c s) (g c s)) → Leads None Any s (bind (result_of r span s) k) (bind (result_of r span s) g)
on_leads (Ok c) span k g s h = h c
on_leads (Err e) span k g s h = (same s, refl)

-- ---- at an event

-- Where it comes to at an event that is being eaten: a later state; where turns don't suffice, the state that it had.
abbrev Inside : {A : Type 0} → ThreadState → Completion ThreadState A → Type 0
Inside s (Completes a t) = Within 1 s t
Inside s (Recurs vs t) = ⊥
Inside s (Faults f t) = Within 1 s t
Inside s (Retries t) = ⊥
Inside s (Waits t) = Within 1 s t
Inside s (OutOfTurns t) = t ≡ s
Inside s Invalid = Unit {0}

abbrev InStep : {A : Type 0} → ThreadState → Completion ThreadState A → Completion ThreadState A → Type 0
InStep s (Completes a t) y = y ≡ Completes a t
InStep s (Recurs vs t) y = y ≡ Recurs vs t
InStep s (Faults f t) y = y ≡ Faults f t
InStep s (Retries t) y = y ≡ Retries t
InStep s (Waits t) y = y ≡ Waits t
InStep s (OutOfTurns t) y = t ≡ s
InStep s Invalid y = y ≡ Invalid

abbrev At : ThreadState → Completion ThreadState Value → Completion ThreadState Value → Type 0
At s x y = Inside s y × InStep s x y

pub at_itself : (s : ThreadState) (x : Completion ThreadState Value) → Inside s x → At s x x
at_itself s (Completes a t) h = (h, refl)
at_itself s (Recurs vs t) h = absurd h
at_itself s (Faults f t) h = (h, refl)
at_itself s (Retries t) h = absurd h
at_itself s (Waits t) h = (h, refl)
at_itself s (OutOfTurns t) h = (h, h)
at_itself s Invalid h = (h, refl)

module _ (tail : Option ℕ) (e : SeenEvent) (es : List SeenEvent) where
  uneaten_from : (b s : ThreadState) → b.todo ≡ e ∷ es → s.todo ≡ es → s.printed ≡ b.printed → s.txs ≡ b.txs → (y : Completion ThreadState Value) → Inside s y → From tail Any b (uneaten (e ∷ es) y)
  uneaten_from b s here left p n y h = go y h
    where
      on : (u : ThreadState) → Within 1 s u → Onward b u
      on u k = eaten e b s u (here ∙ ap (λ l. e ∷ l) (sym left)) p n k

      go : (z : Completion ThreadState Value) → Inside s z → From tail Any b (uneaten (e ∷ es) z)
      go (Completes a u) k = (tt, on u k)
      go (Recurs vs u) k = absurd k
      go (Faults f u) k = on u k
      go (Retries u) k = absurd k
      go (Waits u) k = on u k
      go (OutOfTurns u) k = stays b (record u { todo = e ∷ es }) (ap (λ (z : ThreadState). z.printed) k ∙ p) here (ap (λ (z : ThreadState). z.txs) k ∙ n)
      go Invalid k = λ q. some_event e es (sym here ∙ q)

  uneaten_step : (s : ThreadState) → s.todo ≡ es → (x y : Completion ThreadState Value) → Inside s y → InStep s x y → Step tail Any (uneaten (e ∷ es) x) (uneaten (e ∷ es) y)
  uneaten_step s left (Completes a t) y i h = ap (uneaten (e ∷ es)) h
  uneaten_step s left (Recurs vs t) y i h = ap (uneaten (e ∷ es)) h
  uneaten_step s left (Faults f t) y i h = ap (uneaten (e ∷ es)) h
  uneaten_step s left (Retries t) y i h = ap (uneaten (e ∷ es)) h
  uneaten_step s left (Waits t) y i h = ap (uneaten (e ∷ es)) h
  uneaten_step s left (OutOfTurns t) y i h = uneaten_from (record t { todo = e ∷ es }) s refl left (ap (λ (z : ThreadState). z.printed) (sym h)) (ap (λ (z : ThreadState). z.txs) (sym h)) y i
  uneaten_step s left Invalid y i h = ap (uneaten (e ∷ es)) h

  uneaten_leads : (b s : ThreadState) → b.todo ≡ e ∷ es → s.todo ≡ es → s.printed ≡ b.printed → s.txs ≡ b.txs → (x y : Completion ThreadState Value) → At s x y → Leads tail Any b (uneaten (e ∷ es) x) (uneaten (e ∷ es) y)
  uneaten_leads b s here left p n x y h = (uneaten_from b s here left p n y h.0, uneaten_step s left x y h.0 h.1)

pub eats_leads : (book : ℕ) (k g : SeenEvent → ThreadState → Completion ThreadState Value) → ((e : SeenEvent) (t : ThreadState) → At t (k e t) (g e t)) → (l : List SeenEvent) (t : ThreadState) → t.todo ≡ l → Leads None Any t (eats book k l t) (eats book g l t)
eats_leads book k g each [] t here = (stays t (record t { asks = Some book }) refl refl refl, refl)
eats_leads book k g each (e ∷ es) t here = of_book (e.book == book)
  where
    of_book : (b : Bool) → Leads None Any t (if b then uneaten (e ∷ es) (k e (record t { todo = es })) else Invalid) (if b then uneaten (e ∷ es) (g e (record t { todo = es })) else Invalid)
    of_book true = uneaten_leads None e es t (record t { todo = es }) here refl refl refl (k e (record t { todo = es })) (g e (record t { todo = es })) (each e (record t { todo = es }))
    of_book false = (λ q. some_event e es (sym here ∙ q), refl)

meant_inside : (b : Bool) (v : Value) (s t : ThreadState) → Within 1 s t → Inside s (meant b v t)
meant_inside true v s t g = g
meant_inside false v s t g = tt

pub reads_inside : (c : CellId) (k : EventKind) (C : World) (t : ThreadState) → Inside t (reads c k C t)
reads_inside c (event.Read d) C t = meant_inside (same_cell c d) (C c.number) t t (still t)
reads_inside c _ C t = tt

pub resets_inside : (v : Value) (k : EventKind) (t : ThreadState) → Inside t (resets v k t)
resets_inside v (event.Swap new) t = meant_inside (same_value v new) v t t (still t)
resets_inside v _ t = tt

pub sends_inside : (a : Action) (span : Span) (k : EventKind) (t : ThreadState) → Inside t (sends a span k t)
sends_inside a span (event.Send b) t = meant_inside (same_action a b) (Cell a.agent) t t (still t)
sends_inside a span (event.SendRefused g) t = test (same_cell a.agent g)
  where
    test : (b : Bool) → Inside {A = Value} t (if b then Faults (fault_at AgentFailed span) t else Invalid)
    test true = still t
    test false = tt
sends_inside a span _ t = tt

-- what depends on pure code alone
pure_at : {A : Type 0} (s : ThreadState) (F : Completion (Unit {0}) A → Completion ThreadState Value) (l r : Completion (Unit {0}) A) → Related (same_link (Unit {0})) l r → ((u : Unit {0}) → F (OutOfTurns u) ≡ OutOfTurns s) → ((q : Completion (Unit {0}) A) → Inside s (F q)) → At s (F l) (F r)
pure_at s F (Completes a u) r h short each = subst (λ z. At s (F (Completes a u)) (F z)) (sym (same_long (Unit {0}) (Completes a u) r h tt)) (at_itself s (F (Completes a u)) (each (Completes a u)))
pure_at s F (Recurs vs u) r h short each = subst (λ z. At s (F (Recurs vs u)) (F z)) (sym (same_long (Unit {0}) (Recurs vs u) r h tt)) (at_itself s (F (Recurs vs u)) (each (Recurs vs u)))
pure_at s F (Faults f u) r h short each = subst (λ z. At s (F (Faults f u)) (F z)) (sym (same_long (Unit {0}) (Faults f u) r h tt)) (at_itself s (F (Faults f u)) (each (Faults f u)))
pure_at s F (Retries u) r h short each = subst (λ z. At s (F (Retries u)) (F z)) (sym (same_long (Unit {0}) (Retries u) r h tt)) (at_itself s (F (Retries u)) (each (Retries u)))
pure_at s F (Waits u) r h short each = subst (λ z. At s (F (Waits u)) (F z)) (sym (same_long (Unit {0}) (Waits u) r h tt)) (at_itself s (F (Waits u)) (each (Waits u)))
pure_at s F (OutOfTurns u) r h short each = (each r, subst (λ z. InStep s z (F r)) (sym (short u)) refl)
pure_at s F Invalid r h short each = subst (λ z. At s (F Invalid) (F z)) (sym (same_long (Unit {0}) Invalid r h tt)) (at_itself s (F Invalid) (each Invalid))

faultless_inside : {A : Type 0} (s : ThreadState) (go : A → ThreadState → Completion ThreadState Value) → ((a : A) → Inside s (go a s)) → (q : Completion (Unit {0}) A) → Inside s (faultless (carried s q) go)
faultless_inside s go each (Completes a u) = each a
faultless_inside s go each (Recurs vs u) = tt
faultless_inside s go each (Faults f u) = tt
faultless_inside s go each (Retries u) = tt
faultless_inside s go each (Waits u) = still s
faultless_inside s go each (OutOfTurns u) = refl
faultless_inside s go each Invalid = tt

faulted_inside : {A : Type 0} (s : ThreadState) (q : Completion (Unit {0}) A) → Inside s (faulted (carried s q) (λ g t. Faults g t))
faulted_inside s (Completes a u) = tt
faulted_inside s (Recurs vs u) = tt
faulted_inside s (Faults f u) = still s
faulted_inside s (Retries u) = tt
faulted_inside s (Waits u) = still s
faulted_inside s (OutOfTurns u) = refl
faulted_inside s Invalid = tt

-- a pure part on both sides
both_pure : {A : Type 0} (t : ThreadState) (x y : Completion ThreadState A) (l r : Completion (Unit {0}) A) (F : Completion ThreadState A → Completion ThreadState Value) → x ≡ carried t l → y ≡ carried t r → At t (F (carried t l)) (F (carried t r)) → At t (F x) (F y)
both_pure t x y l r F e f h = subst (λ z. At t (F z) (F y)) (sym e) (subst (λ z. At t (F (carried t l)) (F z)) (sym f) h)

-- a swap, whose callee is pure
pub swaps_at : (c : CellId) (k g : Value → ThreadState → Completion ThreadState Value) (l r : Value → Completion (Unit {0}) Value) → ((v : Value) (t : ThreadState) → k v t ≡ carried t (l v)) → ((v : Value) (t : ThreadState) → g v t ≡ carried t (r v)) → ((v : Value) → Related (same_link (Unit {0})) (l v) (r v))
    → (d : EventKind) (R C : World) (t : ThreadState) → At t (swaps c k d R C t) (swaps c g d R C t)
swaps_at c k g l r left right alike (event.Swap new) R C t =
    let go : Value → ThreadState → Completion ThreadState Value = λ v t1. meant (same_value v new) v t1 in
    let v = C c.number in
    both_pure t (k v t) (g v t) (l v) (r v) (λ z. faultless z go) (left v t) (right v t) (pure_at t (λ q. faultless (carried t q) go) (l v) (r v) (alike v) (λ u. refl) (faultless_inside t go (λ w. meant_inside (same_value w new) w t t (still t))))
swaps_at c k g l r left right alike (event.Broke at) R C t =
    let v = R c.number in
    both_pure t (k v t) (g v t) (l v) (r v) (λ z. faulted z (λ e t1. Faults e t1)) (left v t) (right v t) (pure_at t (λ q. faulted (carried t q) (λ e t1. Faults e t1)) (l v) (r v) (alike v) (λ u. refl) (faulted_inside t))
swaps_at c k g l r left right alike _ R C t = (tt, refl)

-- ---- a transaction on one world

-- with more turns it is the same, unless fewer don't suffice
abbrev TxStep : Completion TxState Value → Completion TxState Value → Type 0
TxStep (Completes v t) y = y ≡ Completes v t
TxStep (Recurs vs t) y = y ≡ Recurs vs t
TxStep (Faults f t) y = y ≡ Faults f t
TxStep (Retries t) y = y ≡ Retries t
TxStep (Waits t) y = y ≡ Waits t
TxStep (OutOfTurns t) y = Unit {0}
TxStep Invalid y = y ≡ Invalid

abbrev TxWait : TxState → Halt TxState → Type 0
TxWait s Going = ⊥
TxWait s (Stopped t) = s ≡ t
TxWait s (Short t) = ⊥
TxWait s (Rerun t) = ⊥

abbrev TxRerun : TxState → Halt TxState → Type 0
TxRerun s Going = ⊥
TxRerun s (Stopped t) = ⊥
TxRerun s (Short t) = ⊥
TxRerun s (Rerun t) = s ≡ t

module _ (functions : List PlainFunction) (sound : SoundFunctions [] functions) where
  -- the commutes of a transaction have pure callees
  abbrev Suited : TxState → Type 0
  Suited t = AllCommutes (IsPure (known functions)) t.done.commutes

  -- equal states with such commutes
  record Alikes (s t : TxState) : Type 0 where
    equal : s ≡ t
    suits : Suited s

  -- where the first needs turns, nothing is said of the second
  abbrev suit : Link TxState TxState
  suit = record {
    rel = Alikes;
    faults = λ s t. s ≡ t;
    waits = TxWait;
    out_of_turns = λ s o. Unit {0};
    retries = TxRerun;
    invalid = λ b. b ≡ true;
    waits_loose = λ s h o. absurd h;
    out_of_turns_loose = λ s h o. tt;
    retries_loose = λ s h o. absurd h;
    faults_of = λ s t r. r.equal;
    out_of_turns_of = λ s t r. tt;
    invalid_both = refl;
    invalid_loose = λ h b. absurd (false≢true h);
    ahead = λ t. ⊥;
    ahead_stops = λ t h s. absurd h;
    ahead_invalid = λ t h. absurd h;
  }

  tx_step : (x y : Completion TxState Value) → Related suit x y → TxStep x y
  tx_step (Completes v s) (Completes w t) h = ap (λ u. Completes u t) (sym h.0) ∙ ap (λ u. Completes v u) (sym h.1.equal)
  tx_step (Completes v s) _ h = absurd h
  tx_step (Recurs vs s) (Recurs ws t) h = ap (λ u. Recurs u t) (sym h.0) ∙ ap (λ u. Recurs vs u) (sym h.1.equal)
  tx_step (Recurs vs s) _ h = absurd h
  tx_step (Faults f s) (Faults g t) h = ap (λ u. Faults u t) (sym h.0) ∙ ap (λ u. Faults f u) (sym h.1)
  tx_step (Faults f s) _ h = absurd h
  tx_step (Retries s) (Retries t) h = ap Retries (sym h)
  tx_step (Retries s) _ h = absurd h
  tx_step (Waits s) (Waits t) h = ap Waits (sym h)
  tx_step (Waits s) _ h = absurd h
  tx_step (OutOfTurns s) y h = tt
  tx_step Invalid Invalid h = refl
  tx_step Invalid _ h = absurd (false≢true h)

  -- the same part from equal states
  from_pair : {A : Type 0} (f g : TxState → Completion TxState A) → ((s : TxState) → Suited s → Related suit (f s) (g s)) → (s t : TxState) → Alikes s t → Related suit (f s) (g t)
  from_pair f g each s t r = subst (λ u. Related suit (f s) (g u)) r.equal (each s r.suits)

  -- the same state
  alike_self : (t : TxState) → Suited t → Alikes t t
  alike_self t h = record { equal = refl; suits = h }

  noted_suits : (c : CellId) (o : Option Value) (t : TxState) → Suited t → Suited (noted c o t)
  noted_suits c None t h = h
  noted_suits c (Some v) t h = h

  set_suits : (c : CellId) (v : Value) (span : Span) (w : Value) (t : TxState) → Suited t → Related suit (done_as (set_ref c v t.done) span w t) (done_as (set_ref c v t.done) span w t)
  set_suits c v span w t h = test (is_commuted t.done c.number)
    where
      set : PlainTxFrame
      set = record t.done { values = with_write t.done.values c v; sets = with_cell t.done.sets c }

      test : (b : Bool) → Related suit (done_as (if b then Err SetAfterCommute else Ok set) span w t) (done_as (if b then Err SetAfterCommute else Ok set) span w t)
      test true = (refl, refl)
      test false = (refl, alike_self (record t { done = set }) h)

  takes_cell : (r : Result CellId FaultKind) (span : Span) (f g : CellId → TxState → Completion TxState Value) (t : TxState) → ((c : CellId) → Related suit (f c t) (g c t)) → Related suit (bind (result_of r span t) f) (bind (result_of r span t) g)
  takes_cell (Ok c) span f g t each = each c
  takes_cell (Err e) span f g t each = (refl, refl)

  -- a look, where the value may not be there
  looked_suits : (lack : Option ℕ) (R : World) (c : CellId) (t : TxState) → Suited t → Related suit (looked lack R c t) (looked lack R c t)
  looked_suits lack R c t h = test (lacks lack (own t.done c.number) c.number)
    where
      test : (b : Bool) → Related suit (if b then Waits t else Completes (current R t.done c) t) (if b then Waits t else Completes (current R t.done c) t)
      test true = refl
      test false = (refl, alike_self t h)

  taken_suits : (lack : Option ℕ) (R : World) (c : CellId) (t : TxState) → Suited t → Related suit (taken_lacking lack R c t) (taken_lacking lack R c t)
  taken_suits lack R c t h =
      let noting : Value → TxState → Completion TxState Value = λ v t1. Completes v (noted c (own t1.done c.number) t1) in
      bind_related TxState TxState suit (looked lack R c t) (looked lack R c t) noting noting (looked_suits lack R c t h) (λ v s1 t1 r1. from_pair (noting v) (noting v) (λ u k. (refl, alike_self _ (noted_suits c (own u.done c.number) u k))) s1 t1 r1)

  looks_suit : (lack : Option ℕ) (R : World) (form : LookForm) (c : CellId) (t : TxState) → Suited t → Related suit (tx_look_lacking lack R form c t) (tx_look_lacking lack R form c t)
  looks_suit lack R Deref c t h = taken_suits lack R c t h
  looks_suit lack R Ensure c t h =
      let ensuring : Value → TxState → Completion TxState Value = λ v t1. Completes v (record t1 { done = ensure_ref c t1.done }) in
      bind_related TxState TxState suit (taken_lacking lack R c t) (taken_lacking lack R c t) ensuring ensuring (taken_suits lack R c t h) (λ v s1 t1 r1. from_pair (ensuring v) (ensuring v) (λ u k. (refl, alike_self _ k)) s1 t1 r1)

  puts_suit : (form : PutForm) (span : Span) (c : CellId) (v : Value) (t : TxState) → Suited t → Related suit (tx_put form span c v t) (tx_put form span c v t)
  puts_suit RefSet span c v t h = set_suits c v span v t h
  puts_suit Reset span c v t h = refl

  updates_suit : (lack : Option ℕ) (R : World) (form : UpdateForm) (m : Mark) (c : CellId) (callee : Callee) → IsPure (known functions) callee → (vs : List Value) (f g : Applies TxState) → Applied TxState TxState suit f g → (t : TxState) → Suited t
      → Related suit (tx_update_lacking lack R form m c callee vs f t) (tx_update_lacking lack R form m c callee vs g t)
  updates_suit lack R Alter m c callee pure vs f g a t h =
      let go : Value → TxState → Completion TxState Value = λ w t2. done_as (set_ref c w t2.done) m.span w t2 in
      bind_related TxState TxState suit (taken_lacking lack R c t) (taken_lacking lack R c t) (λ v t1. bind (f callee (v ∷ vs) t1) go) (λ v t1. bind (g callee (v ∷ vs) t1) go) (taken_suits lack R c t h)
      (λ v s1 t1 r1. bind_related TxState TxState suit (f callee (v ∷ vs) s1) (g callee (v ∷ vs) t1) go go (a callee (v ∷ vs) s1 t1 r1) (λ w s2 t2 r2. from_pair (go w) (go w) (λ u k. set_suits c w m.span w u k) s2 t2 r2))
  updates_suit lack R Commute m c callee pure vs f g a t h =
      let now : Value → TxState → Completion TxState Value = λ w t1. Completes w (record t1 { done = commute_ref c callee vs w t1.done; used = t1.used || m.wanted }) in
      bind_related TxState TxState suit (looked lack R c t) (looked lack R c t) (λ v t1. bind (f callee (v ∷ vs) t1) now) (λ v t1. bind (g callee (v ∷ vs) t1) now) (looked_suits lack R c t h)
      (λ v s1 t1 r1. bind_related TxState TxState suit (f callee (v ∷ vs) s1) (g callee (v ∷ vs) t1) now now (a callee (v ∷ vs) s1 t1 r1)
      (λ w s2 t2 r2. from_pair (now w) (now w) (λ u k. (refl, alike_self _ (commutes_both (IsPure (known functions)) u.done.commutes (record { cell = c; callee = callee; args = vs } ∷ []) k (pure, tt)))) s2 t2 r2))
  updates_suit lack R Swap m c callee pure vs f g a t h = refl

  module _ (nl nr : ℕ) (le : nl ≤ nr) where
    tx_alike : (lack : Option ℕ) (R : World) (d : ℕ) → Alike TxState TxState suit (in_transaction_lacking lack R) (in_transaction_lacking lack R) (call_at (λ e. in_transaction_lacking lack R) nl functions d) (call_at (λ e. in_transaction_lacking lack R) nr functions d) nl nr (λ i. Unit {0}) (pure_callees (known functions))
    tx_alike lack R d = record {
      print = λ inside vs s t m r. refl;
      look = λ form inside m c s t may i r. from_pair (λ u. (in_transaction_lacking lack R).look form inside m c u) (λ u. (in_transaction_lacking lack R).look form inside m c u)
          (λ u h. takes_cell (cell_of (rule (form_of.Look form)) true c) m.span (tx_look_lacking lack R form) (tx_look_lacking lack R form) u (λ x. looks_suit lack R form x u h)) s t r;
      put = λ form inside m c w s t may i a r. from_pair (λ u. (in_transaction_lacking lack R).put form inside m c w (apply (call_at (λ e. in_transaction_lacking lack R) nl functions d inside) m.span) u) (λ u. (in_transaction_lacking lack R).put form inside m c w (apply (call_at (λ e. in_transaction_lacking lack R) nr functions d inside) m.span) u)
          (λ u h. takes_cell (cell_of (rule (form_of.Put form)) true c) m.span (λ x t1. tx_put form m.span x w t1) (λ x t1. tx_put form m.span x w t1) u (λ x. puts_suit form m.span x w u h)) s t r;
      update = λ form inside m c callee vs s t may i pure a r.
          let f : Applies TxState = apply (call_at (λ e. in_transaction_lacking lack R) nl functions d inside) m.span in
          let g : Applies TxState = apply (call_at (λ e. in_transaction_lacking lack R) nr functions d inside) m.span in
          from_pair (λ u. (in_transaction_lacking lack R).update form inside m c callee vs f u) (λ u. (in_transaction_lacking lack R).update form inside m c callee vs g u)
          (λ u h. takes_cell (cell_of (rule (form_of.Update form)) true c) m.span (λ x t1. tx_update_lacking lack R form m x callee vs f t1) (λ x t1. tx_update_lacking lack R form m x callee vs g t1) u (λ x. updates_suit lack R form m x callee pure vs f g (a (λ j. tt)) u h)) s t r;
      send = λ inside m c callee vs s t i r. from_pair (λ u. (in_transaction_lacking lack R).send inside m c callee vs u) (λ u. (in_transaction_lacking lack R).send inside m c callee vs u)
          (λ u h. takes_cell (cell_of (rule form_of.Send) true c) m.span _ _ u (λ x. (refl, alike_self _ h))) s t r;
      dosync = λ inside m e env s t i p b a r. b tt s t r;
    }

    enough_tx : Turns TxState TxState suit nl nr
    enough_tx = inr (le, λ s t r o. tt)

    -- a transaction's body with more turns
    tx_related : (d : ℕ) (e : Tree) (env : List Value) → Keeps (pure_callees (known functions)) true e → (lack : Option ℕ) (R : World) → Related suit (tx_meaning_lacking nl functions d e env lack R) (tx_meaning_lacking nr functions d e env lack R)
    tx_related d e env kept lack R =
        let cf = call_at (λ x. in_transaction_lacking lack R) nl functions d in
        let cg = call_at (λ x. in_transaction_lacking lack R) nr functions d in
        closed_related TxState TxState suit (eval (in_transaction_lacking lack R) cf nl true e env tx_start) (eval (in_transaction_lacking lack R) cg nr true e env tx_start)
        (eval_related TxState TxState suit (in_transaction_lacking lack R) (in_transaction_lacking lack R) cf cg nl nr (λ i. Unit {0}) (pure_callees (known functions)) enough_tx (tx_alike lack R d)
        (calls_related TxState TxState suit (λ x. in_transaction_lacking lack R) (λ x. in_transaction_lacking lack R) nl nr functions (λ i. Unit {0}) (pure_callees (known functions)) enough_tx (tx_alike lack R) (function_callees functions sound) d)
        e true env tx_start tx_start kept tt (alike_self tx_start tt))

    -- ---- pure code

    pure_alike : (d : ℕ) → Alike (Unit {0}) (Unit {0}) (same_link (Unit {0})) no_effects no_effects (call_at (λ b. no_effects) nl functions d) (call_at (λ b. no_effects) nr functions d) nl nr (λ i. Unit {0}) (pure_callees (known functions))
    pure_alike d = record {
      print = λ inside vs s t m r. refl;
      look = λ form inside m c s t may i r. refl;
      put = λ form inside m c w s t may i a r. refl;
      update = λ form inside m c callee vs s t may i p a r. refl;
      send = λ inside m c callee vs s t i r. refl;
      dosync = λ inside m e env s t i p b a r. refl;
    }

    enough : Turns (Unit {0}) (Unit {0}) (same_link (Unit {0})) nl nr
    enough = inr (le, λ s t r o. tt)

    -- a callee with nothing around it
    pub pure_more : (d : ℕ) (span : Span) → Applied (Unit {0}) (Unit {0}) (same_link (Unit {0})) (quietly nl functions d span) (quietly nr functions d span)
    pure_more d span c vs s t r =
        apply_related (Unit {0}) (Unit {0}) (same_link (Unit {0})) (call_at (λ b. no_effects) nl functions d false) (call_at (λ b. no_effects) nr functions d false)
        (λ f us s1 t1 r1. calls_related (Unit {0}) (Unit {0}) (same_link (Unit {0})) (λ b. no_effects) (λ b. no_effects) nl nr functions (λ i. Unit {0}) (pure_callees (known functions)) enough pure_alike (function_callees functions sound) d false f us s1 t1 tt tt r1) span c vs s t r

  -- the commutes of a transaction that came to its end
  suited : (n d : ℕ) (e : Tree) (env : List Value) → Keeps (pure_callees (known functions)) true e → (R : World) (v : Value) (z : TxState) → tx_meaning n functions d e env R ≡ Completes v z → Suited z
  suited n d e env kept R v z h =
      let le : n ≤ n = omega arith in
      let both : Related suit (Completes v z) (Completes v z) = subst (λ y. Related suit y y) h (tx_related n n le d e env kept None R) in
      (both.1).suits

-- a transaction's meaning carried over to a thread's state
over_inside : (t : ThreadState) (x : Completion TxState Value) (F : Value → TxState → Completion ThreadState Value) (broke : Fault → Completion ThreadState Value) → ((v : Value) (z : TxState) → x ≡ Completes v z → Inside t (F v z)) → ((g : Fault) → Inside t (broke g)) → Inside t (over t x F broke)
over_inside t (Completes v z) F broke each b = each v z refl
over_inside t (Recurs vs z) F broke each b = tt
over_inside t (Faults g z) F broke each b = b g
over_inside t (Retries z) F broke each b = tt
over_inside t (Waits z) F broke each b = tt
over_inside t (OutOfTurns z) F broke each b = refl
over_inside t Invalid F broke each b = tt

over_step : (t : ThreadState) (x y : Completion TxState Value) → TxStep x y → (F G : Value → TxState → Completion ThreadState Value) (broke : Fault → Completion ThreadState Value) → ((v : Value) (z : TxState) → y ≡ Completes v z → InStep t (F v z) (G v z)) → ((g : Fault) → Inside t (broke g)) → InStep t (over t x F broke) (over t y G broke)
over_step t (Completes v z) y h F G broke each b = subst (λ c. InStep t (F v z) (over t c G broke)) (sym h) (each v z h)
over_step t (Recurs vs z) y h F G broke each b = ap (λ c. over t c G broke) h
over_step t (Faults g z) y h F G broke each b = subst (λ c. InStep t (broke g) (over t c G broke)) (sym h) (at_itself t (broke g) (b g)).1
over_step t (Retries z) y h F G broke each b = ap (λ c. over t c G broke) h
over_step t (Waits z) y h F G broke each b = ap (λ c. over t c G broke) h
over_step t (OutOfTurns z) y h F G broke each b = refl
over_step t Invalid y h F G broke each b = ap (λ c. over t c G broke) h

over_at : (t : ThreadState) (x y : Completion TxState Value) → TxStep x y → (F G : Value → TxState → Completion ThreadState Value) (broke : Fault → Completion ThreadState Value) → ((v : Value) (z : TxState) → y ≡ Completes v z → At t (F v z) (G v z)) → ((g : Fault) → Inside t (broke g)) → At t (over t x F broke) (over t y G broke)
over_at t x y h F G broke each b = (over_inside t y G broke (λ v z e. (each v z e).0) b, over_step t x y h F G broke (λ v z e. (each v z e).1) b)

-- a transaction's meaning on a try that had to run again, and what follows, where an event is to come
over_from : (t : ThreadState) (y : Completion TxState Value) (G : Value → TxState → Completion ThreadState Value) → ((v : Value) (z : TxState) → From None Any t (G v z)) → (t.todo ≡ [] → ⊥) → From None Any t (over t y G (λ g. Invalid))
over_from t (Completes v z) G each some = each v z
over_from t (Recurs vs z) G each some = some
over_from t (Faults g z) G each some = some
over_from t (Retries z) G each some = some
over_from t (Waits z) G each some = some
over_from t (OutOfTurns z) G each some = same t
over_from t Invalid G each some = some

over_goes : (t : ThreadState) (x y : Completion TxState Value) → TxStep x y → (F G : Value → TxState → Completion ThreadState Value) → ((v : Value) (z : TxState) → Leads None Any t (F v z) (G v z)) → (t.todo ≡ [] → ⊥) → Step None Any (over t x F (λ g. Invalid)) (over t y G (λ g. Invalid))
over_goes t (Completes v z) y h F G each some = subst (λ c. Step None Any (F v z) (over t c G (λ g. Invalid))) (sym h) (each v z).1
over_goes t (Recurs vs z) y h F G each some = ap (λ c. over t c G (λ g. Invalid)) h
over_goes t (Faults g z) y h F G each some = ap (λ c. over t c G (λ g. Invalid)) h
over_goes t (Retries z) y h F G each some = ap (λ c. over t c G (λ g. Invalid)) h
over_goes t (Waits z) y h F G each some = ap (λ c. over t c G (λ g. Invalid)) h
over_goes t (OutOfTurns z) y h F G each some = over_from t y G (λ v z. (each v z).0) some
over_goes t Invalid y h F G each some = ap (λ c. over t c G (λ g. Invalid)) h

over_leads : (t : ThreadState) (x y : Completion TxState Value) → TxStep x y → (F G : Value → TxState → Completion ThreadState Value) → ((v : Value) (z : TxState) → Leads None Any t (F v z) (G v z)) → (t.todo ≡ [] → ⊥) → Leads None Any t (over t x F (λ g. Invalid)) (over t y G (λ g. Invalid))
over_leads t x y h F G each some = (over_from t y G (λ v z. (each v z).0) some, over_goes t x y h F G each some)

missing_from : (t : ThreadState) (z : Completion TxState Value) (y : Completion ThreadState Value) → From None Any t y → (t.todo ≡ [] → ⊥) → From None Any t (missing t z y)
missing_from t (Completes v z) y h some = some
missing_from t (Recurs vs z) y h some = some
missing_from t (Faults g z) y h some = some
missing_from t (Retries z) y h some = some
missing_from t (Waits z) y h some = h
missing_from t (OutOfTurns z) y h some = same t
missing_from t Invalid y h some = some

missing_goes : (t : ThreadState) (z w : Completion TxState Value) → TxStep z w → (x y : Completion ThreadState Value) → Leads None Any t x y → (t.todo ≡ [] → ⊥) → Step None Any (missing t z x) (missing t w y)
missing_goes t (Completes v z) w e x y h some = ap (λ u. missing t u y) e
missing_goes t (Recurs vs z) w e x y h some = ap (λ u. missing t u y) e
missing_goes t (Faults g z) w e x y h some = ap (λ u. missing t u y) e
missing_goes t (Retries z) w e x y h some = ap (λ u. missing t u y) e
missing_goes t (Waits z) w e x y h some = subst (λ u. Step None Any x (missing t u y)) (sym e) h.1
missing_goes t (OutOfTurns z) w e x y h some = missing_from t w y h.0 some
missing_goes t Invalid w e x y h some = ap (λ u. missing t u y) e

missing_leads : (t : ThreadState) (z w : Completion TxState Value) → TxStep z w → (x y : Completion ThreadState Value) → Leads None Any t x y → (t.todo ≡ [] → ⊥) → Leads None Any t (missing t z x) (missing t w y)
missing_leads t z w e x y h some = (missing_from t w y h.0 some, missing_goes t z w e x y h some)

allowed_leads : (b : Bool) (t : ThreadState) (x y : Completion ThreadState Value) → Leads None Any t x y → (t.todo ≡ [] → ⊥) → Leads None Any t (allowed b x) (allowed b y)
allowed_leads true t x y h some = h
allowed_leads false t x y h some = (some, refl)

one_noted : 1 ≤ 1 + 0
one_noted = omega arith

noted_on : (t : ThreadState) (x : TxRun) → Within 1 t (with_tx x t)
noted_on t x = record { more = []; gone = []; runs = x ∷ []; prints = sym (append-nil t.printed); eats = refl; notes = refl; few = one_noted }

-- what an action holds counts for nothing here
held_on : (t : ThreadState) (x : TxRun) (sends : List Action) → Within 1 t (holding sends (with_tx x t))
held_on t x sends = record { more = []; gone = []; runs = x ∷ []; prints = sym (append-nil t.printed); eats = refl; notes = refl; few = one_noted }

-- a callee that is sound among the first functions is pure
pub before_pure : (ks : List Known) (b : ℕ) (c : Callee) (n : ℕ) → SoundCallee (take b ks) c n → IsPure ks c
before_pure ks b (CoreOp op) n h = tt
before_pure ks b (Function f) n h = ap is_pure (nth-take b ks f h.function h.found).1 ∙ h.pure

-- ---- pure parts

-- what comes behind a pure part that gives a value, a fault, or needs turns
carried_from : (z : Completion (Unit {0}) Value) → IsProper z → (g : Value → ThreadState → Completion ThreadState Value) (t : ThreadState) → ((v : Value) → From None Any t (g v t)) → From None Any t (bind (carried t z) g)
carried_from (Completes v u) h g t each = each v
carried_from (Recurs vs u) h g t each = absurd h
carried_from (Faults f u) h g t each = same t
carried_from (Retries u) h g t each = absurd h
carried_from (Waits u) h g t each = absurd h
carried_from (OutOfTurns u) h g t each = same t
carried_from Invalid h g t each = absurd h

carried_leads : (x y : Completion (Unit {0}) Value) → IsProper x → IsProper y → Related (same_link (Unit {0})) x y → (k g : Value → ThreadState → Completion ThreadState Value) (t : ThreadState) → ((v : Value) → Leads None Any t (k v t) (g v t))
    → Leads None Any t (bind (carried t x) k) (bind (carried t y) g)
carried_leads (Completes v u) y h i related k g t each = subst (λ z. Leads None Any t (k v t) (bind (carried t z) g)) (sym (same_long (Unit {0}) (Completes v u) y related tt)) (each v)
carried_leads (Recurs vs u) y h i related k g t each = absurd h
carried_leads (Faults f u) y h i related k g t each = subst (λ z. Leads {A = Value} None Any t (Faults f t) (bind (carried t z) g)) (sym (same_long (Unit {0}) (Faults f u) y related tt)) (same t, refl)
carried_leads (Retries u) y h i related k g t each = absurd h
carried_leads (Waits u) y h i related k g t each = absurd h
carried_leads (OutOfTurns u) y h i related k g t each = let z = carried_from y i g t (λ v. (each v).0) in (z, z)
carried_leads Invalid y h i related k g t each = absurd h

-- a pure part alone
pure_from : (z : Completion (Unit {0}) Value) → IsProper z → (t : ThreadState) → From None Any t (carried t z)
pure_from (Completes v u) h t = (tt, same t)
pure_from (Recurs vs u) h t = absurd h
pure_from (Faults f u) h t = same t
pure_from (Retries u) h t = absurd h
pure_from (Waits u) h t = absurd h
pure_from (OutOfTurns u) h t = same t
pure_from Invalid h t = absurd h

pure_leads : (x y : Completion (Unit {0}) Value) → IsProper x → IsProper y → Related (same_link (Unit {0})) x y → (t : ThreadState) → Leads None Any t (carried t x) (carried t y)
pure_leads (Completes v u) y h i related t = subst (λ z. Leads {A = Value} None Any t (Completes v t) (carried t z)) (sym (same_long (Unit {0}) (Completes v u) y related tt)) ((tt, same t), refl)
pure_leads (Recurs vs u) y h i related t = absurd h
pure_leads (Faults f u) y h i related t = subst (λ z. Leads {A = Value} None Any t (Faults f t) (carried t z)) (sym (same_long (Unit {0}) (Faults f u) y related tt)) (same t, refl)
pure_leads (Retries u) y h i related t = absurd h
pure_leads (Waits u) y h i related t = absurd h
pure_leads (OutOfTurns u) y h i related t = let z = pure_from y i t in (z, z)
pure_leads Invalid y h i related t = absurd h

judged_proper : (answer : Value) (span : Span) (v : Value) → IsProper (judged answer span v tt)
judged_proper Nil span v = tt
judged_proper (Truth false) span v = tt
judged_proper (Truth true) span v = tt
judged_proper (Int z) span v = tt
judged_proper (Key bs) span v = tt
judged_proper (Text bs) span v = tt
judged_proper (Vector vs) span v = tt
judged_proper (Cell c) span v = tt

-- a value that is validated, where its validator is such a part
validated_proper : (q : Applies (Unit {0})) (o : Option Callee) (span : Span) (v : Value) → OfValidator (λ c. IsProper (q c (v ∷ []) tt)) o → IsProper (validated q o span v tt)
validated_proper q None span v h = tt
validated_proper q (Some c) span v h = go (q c (v ∷ []) tt) h
  where
    go : (z : Completion (Unit {0}) Value) → IsProper z → IsProper (bind z (λ answer u. judged answer span v u))
    go (Completes answer u) k = judged_proper answer span v
    go (Recurs vs u) k = absurd k
    go (Faults f u) k = tt
    go (Retries u) k = absurd k
    go (Waits u) k = absurd k
    go (OutOfTurns u) k = tt
    go Invalid k = absurd k

-- ---- a thread

module _ (p : ThreadSource) (sound : SoundSource p) (nl nr : ℕ) (le : nl ≤ nr) where
  abbrev ks : List Known
  ks = known p.functions

  abbrev call : ℕ → ℕ → Bool → ℕ → List Value → ThreadState → Completion ThreadState Value
  call n b = call_at (on_events (around p n)) n p.functions b

  -- ---- a transaction at its events

  module _ (b : ℕ) (m : Mark) (e : Tree) (env : List Value) (kept : Keeps (pure_callees ks) true e) where
    abbrev tx : ℕ → Transacting
    tx n = record { mark = m; body = e; locals = env; on = tx_meaning n p.functions b e env; lacking = λ j. tx_meaning_lacking n p.functions b e env (Some j); validators = validators_of p.cells }

    abbrev f : ℕ → Applies ThreadState
    f n = apply (call n b true) m.span

    abbrev q : ℕ → Applies (Unit {0})
    q n = quietly n p.functions b m.span

    abbrev writes_in : {S : Type 0} → Applies S → PlainTxFrame → World → S → Completion S Writes
    writes_in g w C s = final_writes g (validators_of p.cells) m.span w C s

    -- the final writes leave the state as it was
    pub finals : (n : ℕ) (w : PlainTxFrame) → AllCommutes (IsPure ks) w.commutes → (C : World) (t : ThreadState) → writes_in (f n) w C t ≡ carried t (writes_in (q n) w C tt)
    finals n w suits C t =
        (final_carried (IsPure ks) t (f n) (q n) (λ c us pure. callee_carried (on_events (around p n)) n true p.functions sound.functions b m.span c us t pure) (validators_of p.cells) (validators_pure ks p.cells sound.cells) m.span w suits C).0

    finals_more : (w : PlainTxFrame) (C : World) → Related (same_link (Unit {0})) (writes_in (q nl) w C tt) (writes_in (q nr) w C tt)
    finals_more w C =
        let now : ℕ → Writes → Unit {0} → Completion (Unit {0}) Writes = λ n ws t1. if_accepted (q n) (validators_of p.cells) m.span (merged (set_writes w) ws) t1 in
        bind_related (Unit {0}) (Unit {0}) (same_link (Unit {0})) (commute_writes (q nl) w C tt) (commute_writes (q nr) w C tt) (now nl) (now nr)
        (redone_alike (Unit {0}) (q nl) (q nr) (pure_more p.functions sound.functions nl nr le b m.span) (phase_work w) (valued (commuted w) C) tt)
        (λ ws s1 t1 r1. if_accepted_related (Unit {0}) (Unit {0}) (same_link (Unit {0})) (q nl) (q nr) (pure_more p.functions sound.functions nl nr le b m.span) (validators_of p.cells) m.span (merged (set_writes w) ws) s1 t1 r1)

    finals_at : (w : PlainTxFrame) → AllCommutes (IsPure ks) w.commutes → (C : World) (t : ThreadState) (F : Completion ThreadState Writes → Completion ThreadState Value) → ((u : Unit {0}) → F (OutOfTurns t) ≡ OutOfTurns t) → ((z : Completion (Unit {0}) Writes) → Inside t (F (carried t z))) → At t (F (writes_in (f nl) w C t)) (F (writes_in (f nr) w C t))
    finals_at w suits C t F short each =
        both_pure t (writes_in (f nl) w C t) (writes_in (f nr) w C t) (writes_in (q nl) w C tt) (writes_in (q nr) w C tt) F (finals nl w suits C t) (finals nr w suits C t)
        (pure_at t (λ z. F (carried t z)) (writes_in (q nl) w C tt) (writes_in (q nr) w C tt) (finals_more w C) short each)

    on_step : (R : World) → TxStep ((tx nl).on R) ((tx nr).on R)
    on_step R = tx_step p.functions sound.functions ((tx nl).on R) ((tx nr).on R) (tx_related p.functions sound.functions nl nr le b e env kept None R)

    lack_step : (j : ℕ) (R : World) → TxStep ((tx nl).lacking j R) ((tx nr).lacking j R)
    lack_step j R = tx_step p.functions sound.functions ((tx nl).lacking j R) ((tx nr).lacking j R) (tx_related p.functions sound.functions nl nr le b e env kept (Some j) R)

    pub suits_of : (R : World) (v : Value) (z : TxState) → (tx nr).on R ≡ Completes v z → AllCommutes (IsPure ks) z.done.commutes
    suits_of R v z h = suited p.functions sound.functions nr b e env kept R v z h

    ends_at : (k : EventKind) (R Q C : World) (t : ThreadState) → At t (ends_tx (tx nl) (f nl) k R Q C t) (ends_tx (tx nr) (f nr) k R Q C t)
    ends_at (event.Commit at view writes sent) R Q C t =
        over_at t ((tx nl).on R) ((tx nr).on R) (on_step R) _ _ (λ g. Invalid)
        (λ v z h. finals_at z.done (suits_of R v z h) C t (λ y. faultless y (λ ws t1. meant (same_writes ws writes && same_actions (sends_of_commit t1.held z.done.sends) sent) v (holding z.done.sends (with_tx (run_of (tx nr) v z) t1)))) (λ u. refl)
        (faultless_inside t (λ ws t1. meant (same_writes ws writes && same_actions (sends_of_commit t1.held z.done.sends) sent) v (holding z.done.sends (with_tx (run_of (tx nr) v z) t1))) (λ ws. meant_inside (same_writes ws writes && same_actions (sends_of_commit t.held z.done.sends) sent) v t (holding z.done.sends (with_tx (run_of (tx nr) v z) t)) (held_on t (run_of (tx nr) v z) z.done.sends)))) (λ g. tt)
    ends_at (event.Fail at view) R Q C t =
        over_at t ((tx nl).on R) ((tx nr).on R) (on_step R) _ _ (λ g. Faults g t)
        (λ v z h. finals_at z.done (suits_of R v z h) Q t (λ y. faulted y (λ g t1. Faults g t1)) (λ u. refl) (faulted_inside t)) (λ g. still t)
    ends_at (event.Refused at view agent) R Q C t =
        over_at t ((tx nl).on R) ((tx nr).on R) (on_step R) _ _ (λ g. Invalid)
        (λ v z h. finals_at z.done (suits_of R v z h) Q t (λ y. faultless y (λ ws t1. Faults (fault_at AgentFailed m.span) (with_tx (run_of (tx nr) v z) t1))) (λ u. refl)
        (faultless_inside t (λ ws t1. Faults (fault_at AgentFailed m.span) (with_tx (run_of (tx nr) v z) t1)) (λ ws. noted_on t (run_of (tx nr) v z)))) (λ g. tt)
    ends_at _ R Q C t = (tt, refl)

    -- a try that had to run again, and what follows, where an event is to come
    tried_leads : (k : EventKind) (R : World) (t : ThreadState) (x y : Completion ThreadState Value) → Leads None Any t x y → (t.todo ≡ [] → ⊥) → Leads None Any t (tried (tx nl) k R t x) (tried (tx nr) k R t y)
    tried_leads (event.Retry since c cause.Outdated) R t x y h some = missing_leads t ((tx nl).lacking c.number R) ((tx nr).lacking c.number R) (lack_step c.number R) x y h some
    tried_leads (event.Retry since c cause.Held) R t x y h some = over_leads t ((tx nl).on R) ((tx nr).on R) (on_step R) _ _ (λ v z. allowed_leads (is_held z.done c.number) t x y h some) some
    tried_leads (event.Retry since c (cause.Commuted at)) R t x y h some = over_leads t ((tx nl).on R) ((tx nr).on R) (on_step R) _ _ (λ v z. allowed_leads (has_number (commuted z.done) c.number) t x y h some) some
    tried_leads _ R t x y h some = (some, refl)

    pub eats_tx_leads : (k : ℕ) (l : List SeenEvent) (t : ThreadState) → Leads None Any (record t { todo = l }) (eats_tx k (tx nl) (f nl) l t) (eats_tx k (tx nr) (f nr) l t)
    eats_tx_leads zero l t = (same (record t { todo = l }), refl)
    eats_tx_leads (suc k) [] t = (stays (record t { todo = [] }) (record t { todo = []; asks = Some 0 }) refl refl refl, refl)
    eats_tx_leads (suc k) (d ∷ ds) t = of_book (d.book == 0) (is_retry d.kind) (eats_tx_leads k ds t)
      where
        base : ThreadState
        base = record t { todo = d ∷ ds }

        behind : ThreadState
        behind = record t { todo = ds }

        next : Onward base behind
        next = eaten d base behind behind refl refl refl (still behind)

        of_book : (own retry : Bool) → Leads None Any behind (eats_tx k (tx nl) (f nl) ds t) (eats_tx k (tx nr) (f nr) ds t)
            → Leads None Any base (if own then (if retry then tried (tx nl) d.kind d.R base (eats_tx k (tx nl) (f nl) ds t) else uneaten (d ∷ ds) (ends_tx (tx nl) (f nl) d.kind d.R d.Q d.C behind)) else Invalid)
            (if own then (if retry then tried (tx nr) d.kind d.R base (eats_tx k (tx nr) (f nr) ds t) else uneaten (d ∷ ds) (ends_tx (tx nr) (f nr) d.kind d.R d.Q d.C behind)) else Invalid)
        of_book true true rest =
            tried_leads d.kind d.R base (eats_tx k (tx nl) (f nl) ds t) (eats_tx k (tx nr) (f nr) ds t) (onward_from None Any base behind (eats_tx k (tx nr) (f nr) ds t) next rest.0, rest.1) (λ h. some_event d ds h)
        of_book true false rest =
            uneaten_leads None d ds base behind refl refl refl refl (ends_tx (tx nl) (f nl) d.kind d.R d.Q d.C behind) (ends_tx (tx nr) (f nr) d.kind d.R d.Q d.C behind) (ends_at d.kind d.R d.Q d.C behind)
        of_book false retry rest = (λ h. some_event d ds h, refl)

    dosync_leads : (t : ThreadState) → Leads None Any t (eats_tx (suc reruns) (tx nl) (f nl) t.todo t) (eats_tx (suc reruns) (tx nr) (f nr) t.todo t)
    dosync_leads t =
        let h = eats_tx_leads (suc reruns) t.todo t in
        (onward_from None Any t (record t { todo = t.todo }) (eats_tx (suc reruns) (tx nr) (f nr) t.todo t) (stays t (record t { todo = t.todo }) refl refl refl) h.0, h.1)

  -- ---- trees, where these are the functions that may be called

  module _ (b : ℕ) (js : List Known) (pure : (c : Callee) (n : ℕ) → SoundCallee js c n → IsPure ks c)
      (calls : (i : ℕ) (k : Known) → nth js i ≡ Some k → MayCall in_thread k → (vs : List Value) → k.parameters ≡ length vs → (s : ThreadState) → Leads None Any s (call nl b false i vs s) (call nr b false i vs s))
      (proper : (n : ℕ) (span : Span) (c : Callee) (vs : List Value) → SoundCallee ks c (length vs) → IsProper (quietly n p.functions b span c vs tt)) where
    -- the validator of a cell
    abbrev validator : CellId → Option Callee
    validator c = validator_at (validators_of p.cells) c.number

    abbrev quiet : ℕ → Span → Applies (Unit {0})
    quiet n span = quietly n p.functions b span

    pub is_pure_one : (c : CellId) → OfValidator (IsPure ks) (validator c)
    is_pure_one c = validator_such (IsPure ks) (validators_of p.cells) c.number (validators_pure ks p.cells sound.cells)

    answers : (n : ℕ) (span : Span) (c : CellId) (w : Value) → IsProper (validated (quiet n span) (validator c) span w tt)
    answers n span c w = validated_proper (quiet n span) (validator c) span w (each (validator c) (validator_such (λ f. SoundCallee ks f 1) (validators_of p.cells) c.number (cells_such ks p.cells sound.cells)))
      where
        each : (o : Option Callee) → OfValidator (λ f. SoundCallee ks f 1) o → OfValidator (λ f. IsProper (quiet n span f (w ∷ []) tt)) o
        each None h = tt
        each (Some f) h = proper n span f (w ∷ []) h

    pub validates_so : (n : ℕ) (span : Span) (c : CellId) (w : Value) (t : ThreadState) → validated (apply (call n b false) span) (validator c) span w t ≡ carried t (validated (quiet n span) (validator c) span w tt)
    validates_so n span c w t =
        (validated_carried (IsPure ks) t (apply (call n b false) span) (quiet n span) (λ c1 us pu. callee_carried (on_events (around p n)) n false p.functions sound.functions b span c1 us t pu) (validator c) (is_pure_one c) span w).0

    pub looks_lead : (form : LookForm) (m : Mark) (v : Value) (t : ThreadState) → MayStand in_thread (rule (form_of.Look form)).stands → Leads None Any t ((on_events (around p nl) b).look form false m v t) ((on_events (around p nr) b).look form false m v t)
    looks_lead Deref m v t h =
        on_leads (cell_of (rule (form_of.Look Deref)) false v) m.span (thread_look (around p nl) Deref) (thread_look (around p nr) Deref) t
        (λ c. eats_leads (home p.cells c) (λ e t1. reads c e.kind e.C t1) (λ e t1. reads c e.kind e.C t1) (λ e t1. at_itself t1 (reads c e.kind e.C t1) (reads_inside c e.kind e.C t1)) t.todo t refl)
    looks_lead Ensure m v t h = absurd h

    pub puts_lead : (form : PutForm) (m : Mark) (v w : Value) (t : ThreadState) → MayStand in_thread (rule (form_of.Put form)).stands
        → Leads None Any t ((on_events (around p nl) b).put form false m v w (apply (call nl b false) m.span) t) ((on_events (around p nr) b).put form false m v w (apply (call nr b false) m.span) t)
    puts_lead RefSet m v w t h = absurd h
    puts_lead Reset m v w t h =
        on_leads (cell_of (rule (form_of.Put Reset)) false v) m.span (λ c t1. thread_put (around p nl) Reset m.span c w (apply (call nl b false) m.span) t1) (λ c t1. thread_put (around p nr) Reset m.span c w (apply (call nr b false) m.span) t1) t resets_lead
      where
        resets_lead : (c : CellId) → Leads None Any t (thread_put (around p nl) Reset m.span c w (apply (call nl b false) m.span) t) (thread_put (around p nr) Reset m.span c w (apply (call nr b false) m.span) t)
        resets_lead c =
            let go : Value → ThreadState → Completion ThreadState Value = λ u t1. eats (home p.cells c) (λ e t2. resets u e.kind t2) t1.todo t1 in
            let x : ℕ → Completion (Unit {0}) Value = λ n. validated (quiet n m.span) (validator c) m.span w tt in
            subst (λ z. Leads None Any t (bind z go) (bind (validated (apply (call nr b false) m.span) (validator c) m.span w t) go)) (sym (validates_so nl m.span c w t))
            (subst (λ z. Leads None Any t (bind (carried t (x nl)) go) (bind z go)) (sym (validates_so nr m.span c w t))
            (carried_leads (x nl) (x nr) (answers nl m.span c w) (answers nr m.span c w)
            (validated_related (Unit {0}) (Unit {0}) (same_link (Unit {0})) (quiet nl m.span) (quiet nr m.span) (pure_more p.functions sound.functions nl nr le b m.span) (validator c) m.span w tt tt refl) go go t
            (λ u. eats_leads (home p.cells c) (λ e t1. resets u e.kind t1) (λ e t1. resets u e.kind t1) (λ e t1. at_itself t1 (resets u e.kind t1) (resets_inside u e.kind t1)) t.todo t refl)))

    -- what a swap's callee makes of a value, where the atom's validator accepts it
    abbrev made : ℕ → Span → CellId → Callee → List Value → Value → ThreadState → Completion ThreadState Value
    made n span c callee vs = λ u t2. bind (apply (call n b false) span callee (u ∷ vs) t2) (λ w s1. validated (apply (call n b false) span) (validator c) span w s1)

    abbrev quietly_made : ℕ → Span → CellId → Callee → List Value → Value → Completion (Unit {0}) Value
    quietly_made n span c callee vs = λ u. bind (quiet n span callee (u ∷ vs) tt) (λ w s1. validated (quiet n span) (validator c) span w s1)

    pub made_so : (n : ℕ) (span : Span) (c : CellId) (callee : Callee) → IsPure ks callee → (vs : List Value) (u : Value) (t2 : ThreadState) → made n span c callee vs u t2 ≡ carried t2 (quietly_made n span c callee vs u)
    made_so n span c callee free vs u t2 =
        (made_carried (IsPure ks) t2 (apply (call n b false) span) (quiet n span) (λ c1 us pu. callee_carried (on_events (around p n)) n false p.functions sound.functions b span c1 us t2 pu) (validator c) (is_pure_one c) span callee (u ∷ vs) free).0

    pub made_alike : (span : Span) (c : CellId) (callee : Callee) (vs : List Value) (u : Value) → Related (same_link (Unit {0})) (quietly_made nl span c callee vs u) (quietly_made nr span c callee vs u)
    made_alike span c callee vs u =
        bind_related (Unit {0}) (Unit {0}) (same_link (Unit {0})) (quiet nl span callee (u ∷ vs) tt) (quiet nr span callee (u ∷ vs) tt) (λ w s1. validated (quiet nl span) (validator c) span w s1) (λ w s1. validated (quiet nr span) (validator c) span w s1)
        (pure_more p.functions sound.functions nl nr le b span callee (u ∷ vs) tt tt refl)
        (λ w s1 t1 r1. validated_related (Unit {0}) (Unit {0}) (same_link (Unit {0})) (quiet nl span) (quiet nr span) (pure_more p.functions sound.functions nl nr le b span) (validator c) span w s1 t1 r1)

    pub updates_lead : (form : UpdateForm) (m : Mark) (v : Value) (callee : Callee) → IsPure ks callee → (vs : List Value) (t : ThreadState) → MayStand in_thread (rule (form_of.Update form)).stands
        → Leads None Any t ((on_events (around p nl) b).update form false m v callee vs (apply (call nl b false) m.span) t) ((on_events (around p nr) b).update form false m v callee vs (apply (call nr b false) m.span) t)
    updates_lead Alter m v callee free vs t h = absurd h
    updates_lead Commute m v callee free vs t h = absurd h
    updates_lead Swap m v callee free vs t h =
        on_leads (cell_of (rule (form_of.Update Swap)) false v) m.span (λ c t1. thread_update (around p nl) Swap m.span c callee vs (apply (call nl b false) m.span) t1) (λ c t1. thread_update (around p nr) Swap m.span c callee vs (apply (call nr b false) m.span) t1) t
        (λ c. eats_leads (home p.cells c) (λ e t1. swaps c (made nl m.span c callee vs) e.kind e.R e.C t1) (λ e t1. swaps c (made nr m.span c callee vs) e.kind e.R e.C t1)
        (λ e t1. swaps_at c (made nl m.span c callee vs) (made nr m.span c callee vs) (quietly_made nl m.span c callee vs) (quietly_made nr m.span c callee vs) (made_so nl m.span c callee free vs) (made_so nr m.span c callee free vs) (made_alike m.span c callee vs) e.kind e.R e.C t1) t.todo t refl)

    pub sent_leads : (m : Mark) (v : Value) (callee : Callee) (vs : List Value) (t : ThreadState) → Leads None Any t ((on_events (around p nl) b).send false m v callee vs t) ((on_events (around p nr) b).send false m v callee vs t)
    sent_leads m v callee vs t =
        on_leads (cell_of (rule form_of.Send) false v) m.span (λ c t1. sends_or_holds t1.held (record { agent = c; callee = callee; args = vs; span = m.span }) m.span t1) (λ c t1. sends_or_holds t1.held (record { agent = c; callee = callee; args = vs; span = m.span }) m.span t1) t (λ c. send_at c t.held)
      where
        send_at : (c : CellId) (o : Option (List Action)) → Leads None Any t (sends_or_holds o (record { agent = c; callee = callee; args = vs; span = m.span }) m.span t) (sends_or_holds o (record { agent = c; callee = callee; args = vs; span = m.span }) m.span t)
        send_at c None =
            let a : Action = record { agent = c; callee = callee; args = vs; span = m.span } in
            eats_leads 0 (λ e t2. sends a m.span e.kind t2) (λ e t2. sends a m.span e.kind t2) (λ e t2. at_itself t2 (sends a m.span e.kind t2) (sends_inside a m.span e.kind t2)) t.todo t refl
        send_at c (Some held) = ((tt, stays t _ refl refl refl), refl)

    pub prints_lead : (tail : Option ℕ) (vs : List Value) (t : ThreadState) → Leads tail Any t ((on_events (around p nl) b).print false vs t) ((on_events (around p nr) b).print false vs t)
    prints_lead tail vs t = ((tt, record { more = printed_line vs; gone = []; runs = []; prints = refl; eats = refl; notes = sym (append-nil t.txs); few = none_noted 0 }), refl)

    abbrev on : ℕ → Tree → List Value → ThreadState → Completion ThreadState Value
    on n e env t = eval (on_events (around p n) b) (call n b) n false e env t

    abbrev all : ℕ → Trees → List Value → ThreadState → Completion ThreadState (List Value)
    all n es env t = eval_all (on_events (around p n) b) (call n b) n false es env t

    abbrev lets : ℕ → Trees → List Value → ThreadState → Completion ThreadState (List Value)
    lets n es env t = eval_let (on_events (around p n) b) (call n b) n false es env t

    abbrev dos : ℕ → Trees → List Value → ThreadState → Completion ThreadState Value
    dos n es env t = eval_do (on_events (around p n) b) (call n b) n false es env t

    pub kept_in : (e : Tree) (d : ℕ) → SoundTree js in_dosync d None e → Keeps (pure_callees ks) true e
    kept_in e d h = keeps_in js (pure_callees ks) (λ z i. Unit {0}) tt pure (λ z i form at k. tt) (λ z i g n at k. tt) e in_dosync true d None tt h

    mutual
      pub tree_leads : (e : Tree) (d : ℕ) (tail : Option ℕ) → SoundTree js in_thread d tail e → (env : List Value) → length env ≡ d → (s : ThreadState) → Leads tail Any s (on nl e env s) (on nr e env s)
      tree_leads (Const v m) d tail h env l s = value_leads tail Any v s tt
      tree_leads (Local i m) d tail h env l s = local_leads tail env i s (subst (λ k. i < k) (sym l) h)
      tree_leads (If c x y m) d tail h env l s =
          bind_leads tail Any Any (on nl c env s) (on nr c env s) (λ v t. choose v (on nl x env t) (on nl y env t)) (λ v t. choose v (on nr x env t) (on nr y env t)) s (tree_leads c d None h.0 env l s)
          (λ v t a. choose_leads tail v (on nl x env t) (on nl y env t) (on nr x env t) (on nr y env t) t (tree_leads x d tail h.1 env l t) (tree_leads y d tail h.2 env l t))
      tree_leads (Do items m) d tail h env l s = do_leads items d tail h env l s
      tree_leads (Let values body m) d tail h env l s =
          bind_leads tail (Many (count values)) Any (lets nl values env s) (lets nr values env s) (λ vs t. on nl body (env ++ vs) t) (λ vs t. on nr body (env ++ vs) t) s (let_leads values d h.0 env l s)
          (λ vs t a. tree_leads body (d + count values) tail h.1 (env ++ vs) (omega (arith, length-append env vs, l, a)) t)
      tree_leads (Loop values body m) d tail h env l s =
          bind_leads tail (Many (count values)) Any (lets nl values env s) (lets nr values env s) (λ vs t. turns nl (count values) (λ ws u. on nl body (env ++ ws) u) vs t) (λ vs t. turns nr (count values) (λ ws u. on nr body (env ++ ws) u) vs t) s (let_leads values d h.0 env l s)
          (λ vs t a. turns_leads tail nl nr le (count values) (λ ws u. on nl body (env ++ ws) u) (λ ws u. on nr body (env ++ ws) u)
          (λ ws u a1. tree_leads body (d + count values) (Some (count values)) h.1 (env ++ ws) (omega (arith, length-append env ws, l, a1)) u) vs t a)
      tree_leads (Recur values m) d tail h env l s =
          bind_leads tail (Many (count values)) Any (all nl values env s) (all nr values env s) (λ vs t. Recurs vs t) (λ vs t. Recurs vs t) s (all_lead values d h.1 env l s) (λ vs t a. ((h.0 ∙ ap Some (sym a), same t), refl))
      tree_leads (Core op args m) d tail h env l s =
          bind_leads tail (Many (count args)) Any (all nl args env s) (all nr args env s) (λ vs t. result_of (core op vs) m.span t) (λ vs t. result_of (core op vs) m.span t) s (all_lead args d h.1 env l s) (λ vs t a. result_leads tail (core op vs) m.span t)
      tree_leads (Call i args m) d tail h env l s =
          bind_leads tail (Many (count args)) Any (all nl args env s) (all nr args env s) (λ vs t. call nl b false i vs t) (λ vs t. call nr b false i vs t) s (all_lead args d h.1 env l s)
          (λ vs t a. loose tail (call nl b false i vs t) (call nr b false i vs t) t (calls i h.0.function h.0.found h.0.zoned vs (h.0.arity ∙ sym a) t))
      tree_leads (VectorOf items m) d tail h env l s =
          bind_leads tail (Many (count items)) Any (all nl items env s) (all nr items env s) (λ vs t. result_of (vector_of vs) m.span t) (λ vs t. result_of (vector_of vs) m.span t) s (all_lead items d h.1 env l s) (λ vs t a. result_leads tail (vector_of vs) m.span t)
      tree_leads (Println args m) d tail h env l s =
          bind_leads tail (Many (count args)) Any (all nl args env s) (all nr args env s) (λ vs t. (on_events (around p nl) b).print false vs t) (λ vs t. (on_events (around p nr) b).print false vs t) s (all_lead args d h.2 env l s) (λ vs t a. prints_lead tail vs t)
      tree_leads (Dosync body m) d tail h env l s =
          loose tail (eats_tx (suc reruns) (tx b m body env (kept_in body d h) nl) (f b m body env (kept_in body d h) nl) s.todo s) (eats_tx (suc reruns) (tx b m body env (kept_in body d h) nr) (f b m body env (kept_in body d h) nr) s.todo s) s
          (dosync_leads b m body env (kept_in body d h) s)
      tree_leads (Look form cell m) d tail h env l s =
          bind_leads tail Any Any (on nl cell env s) (on nr cell env s) (λ v t. (on_events (around p nl) b).look form false m v t) (λ v t. (on_events (around p nr) b).look form false m v t) s (tree_leads cell d None h.1 env l s)
          (λ v t a. loose tail ((on_events (around p nl) b).look form false m v t) ((on_events (around p nr) b).look form false m v t) t (looks_lead form m v t h.0))
      tree_leads (Put form cell value m) d tail h env l s =
          let k : Applies ThreadState = apply (call nl b false) m.span in
          let g : Applies ThreadState = apply (call nr b false) m.span in
          bind_leads tail Any Any (on nl cell env s) (on nr cell env s) (λ v t. bind (on nl value env t) (λ w u. (on_events (around p nl) b).put form false m v w k u)) (λ v t. bind (on nr value env t) (λ w u. (on_events (around p nr) b).put form false m v w g u)) s
          (tree_leads cell d None h.1 env l s)
          (λ v t a. bind_leads tail Any Any (on nl value env t) (on nr value env t) (λ w u. (on_events (around p nl) b).put form false m v w k u) (λ w u. (on_events (around p nr) b).put form false m v w g u) t (tree_leads value d None h.2 env l t)
          (λ w u a1. loose tail ((on_events (around p nl) b).put form false m v w k u) ((on_events (around p nr) b).put form false m v w g u) u (puts_lead form m v w u h.0)))
      tree_leads (Update form cell callee args m) d tail h env l s =
          let k : Applies ThreadState = apply (call nl b false) m.span in
          let g : Applies ThreadState = apply (call nr b false) m.span in
          bind_leads tail Any Any (on nl cell env s) (on nr cell env s) (λ v t. bind (all nl args env t) (λ vs u. (on_events (around p nl) b).update form false m v callee vs k u)) (λ v t. bind (all nr args env t) (λ vs u. (on_events (around p nr) b).update form false m v callee vs g u)) s
          (tree_leads cell d None h.1 env l s)
          (λ v t a. bind_leads tail (Many (count args)) Any (all nl args env t) (all nr args env t) (λ vs u. (on_events (around p nl) b).update form false m v callee vs k u) (λ vs u. (on_events (around p nr) b).update form false m v callee vs g u) t (all_lead args d h.3 env l t)
          (λ vs u a1. loose tail ((on_events (around p nl) b).update form false m v callee vs k u) ((on_events (around p nr) b).update form false m v callee vs g u) u (updates_lead form m v callee (pure callee (suc (count args)) h.2) vs u h.0)))
      tree_leads (Send cell callee args m) d tail h env l s =
          bind_leads tail Any Any (on nl cell env s) (on nr cell env s) (λ v t. bind (all nl args env t) (λ vs u. (on_events (around p nl) b).send false m v callee vs u)) (λ v t. bind (all nr args env t) (λ vs u. (on_events (around p nr) b).send false m v callee vs u)) s
          (tree_leads cell d None h.0 env l s)
          (λ v t a. bind_leads tail (Many (count args)) Any (all nl args env t) (all nr args env t) (λ vs u. (on_events (around p nl) b).send false m v callee vs u) (λ vs u. (on_events (around p nr) b).send false m v callee vs u) t (all_lead args d h.2 env l t)
          (λ vs u a1. loose tail ((on_events (around p nl) b).send false m v callee vs u) ((on_events (around p nr) b).send false m v callee vs u) u (sent_leads m v callee vs u)))

      pub all_lead : (es : Trees) (d : ℕ) → SoundAll js in_thread d es → (env : List Value) → length env ≡ d → (s : ThreadState) → Leads None (Many (count es)) s (all nl es env s) (all nr es env s)
      all_lead none d h env l s = value_leads None (Many 0) [] s refl
      all_lead (more e rest) d h env l s =
          bind_leads None Any (Many (suc (count rest))) (on nl e env s) (on nr e env s) (λ v t. bind (all nl rest env t) (λ vs u. Completes (v ∷ vs) u)) (λ v t. bind (all nr rest env t) (λ vs u. Completes (v ∷ vs) u)) s (tree_leads e d None h.0 env l s)
          (λ v t a. bind_leads None (Many (count rest)) (Many (suc (count rest))) (all nl rest env t) (all nr rest env t) (λ vs u. Completes (v ∷ vs) u) (λ vs u. Completes (v ∷ vs) u) t (all_lead rest d h.1 env l t) (λ vs u a1. value_leads None (Many (suc (count rest))) (v ∷ vs) u (ap suc a1)))

      pub let_leads : (es : Trees) (d : ℕ) → SoundLet js in_thread d es → (env : List Value) → length env ≡ d → (s : ThreadState) → Leads None (Many (count es)) s (lets nl es env s) (lets nr es env s)
      let_leads none d h env l s = value_leads None (Many 0) [] s refl
      let_leads (more e rest) d h env l s =
          bind_leads None Any (Many (suc (count rest))) (on nl e env s) (on nr e env s) (λ v t. bind (lets nl rest (env ++ v ∷ []) t) (λ vs u. Completes (v ∷ vs) u)) (λ v t. bind (lets nr rest (env ++ v ∷ []) t) (λ vs u. Completes (v ∷ vs) u)) s (tree_leads e d None h.0 env l s)
          (λ v t a. bind_leads None (Many (count rest)) (Many (suc (count rest))) (lets nl rest (env ++ v ∷ []) t) (lets nr rest (env ++ v ∷ []) t) (λ vs u. Completes (v ∷ vs) u) (λ vs u. Completes (v ∷ vs) u) t
          (let_leads rest (d + 1) h.1 (env ++ v ∷ []) (omega (arith, length-append env (v ∷ []), l)) t) (λ vs u a1. value_leads None (Many (suc (count rest))) (v ∷ vs) u (ap suc a1)))

      pub do_leads : (es : Trees) (d : ℕ) (tail : Option ℕ) → SoundDo js in_thread d tail es → (env : List Value) → length env ≡ d → (s : ThreadState) → Leads tail Any s (dos nl es env s) (dos nr es env s)
      do_leads none d tail h env l s = absurd h
      do_leads (more e none) d tail h env l s = tree_leads e d tail h env l s
      do_leads (more e (more x rest)) d tail h env l s =
          bind_leads tail Any Any (on nl e env s) (on nr e env s) (λ v t. dos nl (more x rest) env t) (λ v t. dos nr (more x rest) env t) s (tree_leads e d None h.0 env l s) (λ v t a. do_leads (more x rest) d tail h.1 env l t)

  -- ---- functions

  some_known : (k l : Known) → Some k ≡ Some l → k ≡ l
  some_known k l e = cc

  -- calls of the first functions
  abbrev pub CallsBefore : ℕ → ℕ → Type 0
  CallsBefore b g = (i : ℕ) (k : Known) → i < g → nth ks i ≡ Some k → MayCall in_thread k → (vs : List Value) → k.parameters ≡ length vs → (s : ThreadState) → Leads None Any s (call nl b false i vs s) (call nr b false i vs s)

  abbrev pures_in_all : ℕ
  pures_in_all = pures ks (length p.functions)

  -- a pure call where there are as many calls left as pure functions
  pure_call : (b : ℕ) → pures_in_all ≤ b → b ≤ length p.functions → (i : ℕ) (k : Known) → nth ks i ≡ Some k → k.pure ≡ true → (vs : List Value) → k.parameters ≡ length vs → (s : ThreadState) → Leads None Any s (call nl b false i vs s) (call nr b false i vs s)
  pure_call b enough most i k e pure vs a s =
      let is : is_pure (nth ks i) ≡ true = ap is_pure e ∙ pure in
      let q : ℕ → Completion (Unit {0}) Value = λ n. quietly n p.functions b nowhere (Function i) vs tt in
      let so : (n : ℕ) → call n b false i vs s ≡ carried s (q n) = λ n. (callee_carried (on_events (around p n)) n false p.functions sound.functions b nowhere (Function i) vs s is).0 in
      let proper : (n : ℕ) → IsProper (q n) = λ n. shallow_proper p.functions sound.functions n b enough most nowhere (Function i) vs (record { function = k; found = e; arity = a; pure = pure }) in
      subst (λ z. Leads None Any s z (call nr b false i vs s)) (sym (so nl))
      (subst (λ z. Leads None Any s (carried s (q nl)) z) (sym (so nr)) (pure_leads (q nl) (q nr) (proper nl) (proper nr) (pure_more p.functions sound.functions nl nr le b nowhere (Function i) vs tt tt refl) s))

  -- another function before one counts there
  pub one_less : (g i : ℕ) (k : Known) → i < g → nth ks i ≡ Some k → k.pure ≡ false → others ks i < others ks g
  one_less g i k l e pure = other_before ks i g l (known_there ks i k e) (ap is_pure e ∙ pure)

  -- a call one deeper
  call_leads : (b : ℕ) → pures_in_all ≤ b → b ≤ length p.functions → (i : ℕ) → CallsBefore b i → (k : Known) → nth ks i ≡ Some k → MayCall in_thread k → (vs : List Value) → k.parameters ≡ length vs → (s : ThreadState) → Leads None Any s (call nl (suc b) false i vs s) (call nr (suc b) false i vs s)
  call_leads b enough most i earlier k e z vs a s =
      let found = there p.functions i k e in
      let fun = found.0 in
      let here = function_at p.functions i fun sound.functions found.1 in
      let before = take i ks in
      let known_so : known_of before fun ≡ k = some_known (known_of before fun) k (sym here.0 ∙ e) in
      let body = thread_sound before fun.body fun.parameters (Some fun.parameters) here.1.1 (subst (λ x. MayCall in_thread x) (sym known_so) z) in
      let deeper : suc nl ≤ suc nr = omega (arith, le) in
      subst (λ o. Leads None Any s (bind (give o s) (λ x t. turns (suc nl) x.parameters (λ ws u. eval (on_events (around p nl) b) (call nl b) nl false x.body ws u) vs t)) (bind (give o s) (λ x t. turns (suc nr) x.parameters (λ ws u. eval (on_events (around p nr) b) (call nr b) nr false x.body ws u) vs t)))
      (sym found.1)
      (turns_leads None (suc nl) (suc nr) deeper fun.parameters (λ ws u. eval (on_events (around p nl) b) (call nl b) nl false fun.body ws u) (λ ws u. eval (on_events (around p nr) b) (call nr b) nr false fun.body ws u)
      (λ ws u many. tree_leads b before (before_pure ks i) (λ j g q y us r t. (let lower = nth-take i ks j g q in earlier j g lower.0 lower.1 y us r t))
      (λ n span c us h. shallow_proper p.functions sound.functions n b enough most span c us h) fun.body fun.parameters (Some fun.parameters) body ws many u)
      vs s (sym a ∙ ap (λ (x : Known). x.parameters) (sym known_so)))

  -- of the functions before one, those that aren't pure call one another, and then pure ones
  pub calls_counted : (b g : ℕ) → pures_in_all + others ks g ≤ b → b ≤ length p.functions → CallsBefore b g
  calls_counted zero g enough most i k l e z vs a s = by k.pure refl
    where
      by : (x : Bool) → k.pure ≡ x → Leads None Any s (call nl zero false i vs s) (call nr zero false i vs s)
      by true pure = pure_call zero (omega (arith, enough)) most i k e pure vs a s
      by false pure = let less = one_less g i k l e pure in absurd (omega (arith, enough, less))
  calls_counted (suc b) g enough most i k l e z vs a s = by k.pure refl (λ m. calls_counted b i m (omega (arith, most)))
    where
      by : (x : Bool) → k.pure ≡ x → (pures_in_all + others ks i ≤ b → CallsBefore b i) → Leads None Any s (call nl (suc b) false i vs s) (call nr (suc b) false i vs s)
      by true pure below = pure_call (suc b) (omega (arith, enough)) most i k e pure vs a s
      by false pure below = let less = one_less g i k l e pure in call_leads b (omega (arith, enough, less)) (omega (arith, most)) i (below (omega (arith, enough, less))) k e z vs a s

  pures_fit : pures_in_all ≤ length p.functions
  pures_fit = let both = both_kinds ks (length p.functions) in omega (arith, both)

  calls_all : CallsBefore (length p.functions) (length p.functions)
  calls_all = let both = both_kinds ks (length p.functions) in calls_counted (length p.functions) (length p.functions) (omega (arith, both)) (omega arith)

  -- before any event
  abbrev pub start : List SeenEvent → ThreadState
  start es = record { todo = es; printed = []; held = None; txs = []; asks = None }

  pub thread_leads : (es : List SeenEvent) → Leads None Any (start es) (thread_meaning p nl es) (thread_meaning p nr es)
  thread_leads es =
      let d = length p.functions in
      let h = tree_leads d ks (sound_pure ks) (λ i k q z vs a s. (let found = there p.functions i k q in calls_all i k (nth_below p.functions i found.0 found.1) q z vs a s)) (λ n span c us h1. shallow_proper p.functions sound.functions n d pures_fit (omega arith) span c us h1) p.main 0 None sound.main [] refl (start es) in (
        closed_from (eval (on_events (around p nr) d) (call nr d) nr false p.main [] (start es)) (start es) h.0,
        closed_step (eval (on_events (around p nl) d) (call nl d) nl false p.main [] (start es)) (eval (on_events (around p nr) d) (call nr d) nr false p.main [] (start es)) h.1,
      )

  -- ---- actions

  abbrev depth : ℕ
  depth = length p.functions

  pub calls_so : (i : ℕ) (k : Known) → nth ks i ≡ Some k → MayCall in_thread k → (vs : List Value) → k.parameters ≡ length vs → (s : ThreadState) → Leads None Any s (call nl depth false i vs s) (call nr depth false i vs s)
  calls_so i k q z vs a s = let found = there p.functions i k q in calls_all i k (nth_below p.functions i found.0 found.1) q z vs a s

  pub proper_so : (n : ℕ) (span : Span) (c : Callee) (vs : List Value) → SoundCallee ks c (length vs) → IsProper (quietly n p.functions depth span c vs tt)
  proper_so n span c vs h = shallow_proper p.functions sound.functions n depth pures_fit (omega arith) span c vs h

  -- a callee that may be sent
  pub applied_leads : (span : Span) (c : Callee) (vs : List Value) → SoundSent ks c (length vs) → (s : ThreadState) → Leads None Any s (applies_in (around p nl) span c vs s) (applies_in (around p nr) span c vs s)
  applied_leads span (CoreOp op) vs h s = result_leads None (core op vs) span s
  applied_leads span (Function f) vs h s = calls_so f h.function h.found h.zoned vs h.arity s

  -- a validator changes no state, and is such a part
  pub accepts_so : (n : ℕ) (span : Span) (g : CellId) (w : Value) (t : ThreadState) → accepts (around p n) (applies_in (around p n) span) g span w t ≡ carried t (validated (quietly n p.functions depth span) (validator_at (validators_of p.cells) g.number) span w tt)
  accepts_so n span g w t = validates_so depth ks (sound_pure ks) calls_so proper_so n span g w t

  pub accepts_proper : (n : ℕ) (span : Span) (g : CellId) (w : Value) → IsProper (validated (quietly n p.functions depth span) (validator_at (validators_of p.cells) g.number) span w tt)
  accepts_proper n span g w = answers depth ks (sound_pure ks) calls_so proper_so n span g w

  -- a state, where the agent's validator accepts it
  pub accepts_lead : (span : Span) (g : CellId) (w : Value) (t : ThreadState) → Leads None Any t (accepts (around p nl) (applies_in (around p nl) span) g span w t) (accepts (around p nr) (applies_in (around p nr) span) g span w t)
  accepts_lead span g w t =
      let o = validator_at (validators_of p.cells) g.number in
      let q : ℕ → Applies (Unit {0}) = λ n. quietly n p.functions depth span in
      let x : ℕ → Completion (Unit {0}) Value = λ n. validated (q n) o span w tt in
      subst (λ z. Leads None Any t z (accepts (around p nr) (applies_in (around p nr) span) g span w t)) (sym (accepts_so nl span g w t))
      (subst (λ z. Leads None Any t (carried t (x nl)) z) (sym (accepts_so nr span g w t))
      (pure_leads (x nl) (x nr) (accepts_proper nl span g w) (accepts_proper nr span g w)
      (validated_related (Unit {0}) (Unit {0}) (same_link (Unit {0})) (q nl) (q nr) (pure_more p.functions sound.functions nl nr le depth span) o span w tt tt refl) t))

  -- an action that a program may send
  pub action_leads : (a : Action) (v : Value) → SoundSent ks a.callee (suc (length a.args)) → (es : List SeenEvent) → Leads None Any (from_events (Some []) es) (action_meaning p.cells p.functions nl a v es) (action_meaning p.cells p.functions nr a v es)
  action_leads a v fits es =
      let f : ℕ → Applies ThreadState = λ n. applies_in (around p n) a.span in
      bind_leads None Any Any (f nl a.callee (v ∷ a.args) (from_events (Some []) es)) (f nr a.callee (v ∷ a.args) (from_events (Some []) es)) (λ w t. accepts (around p nl) (f nl) a.agent a.span w t) (λ w t. accepts (around p nr) (f nr) a.agent a.span w t)
      (from_events (Some []) es) (applied_leads a.span a.callee (v ∷ a.args) fits (from_events (Some []) es)) (λ w t g. accepts_lead a.span a.agent w t)
