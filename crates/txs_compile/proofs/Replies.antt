-- What a thread on replies makes of the forms on cells is alike, where bodies of transactions and callees are; and it is no recur.
use Rattle.std.proofs.Common.{ℕ, zero, suc, Bool, true, false, not, List, [], ◌∷◌, length, refl, subst}
use Rattle.txs_world_protocol.specs.Ask.{Writes}
use Rattle.txs_frame.specs.Frame.{commuted, set_writes, phase_work}
use Rattle.txs_value_data.specs.Limits.{reruns}
use Rattle.txs_value_data.specs.declared.fault.Span.{Span}
use Rattle.txs_value_cell.specs.Cells.{Validators, validator_at}
use Rattle.txs_value_cell.specs.declared.form.CellForm.TheVariants as form_of
use Rattle.txs_value_cell.specs.declared.form.PutForm.{PutForm}
use Rattle.txs_value_cell.specs.declared.form.PutForm.TheVariants.{RefSet, Reset}
use Rattle.txs_value_cell.specs.declared.form.UpdateForm.{UpdateForm}
use Rattle.txs_value_cell.specs.declared.form.UpdateForm.TheVariants.{Alter, Commute, Swap}
use Rattle.txs_value_data.specs.declared.op.Callee.{Callee}
use Rattle.txs_value_data.specs.declared.value.CellId.{CellId}
use Rattle.txs_value_data.specs.declared.value.Value.{Value}
use Rattle.txs_tree_meaning.specs.Meaning.{Completion, Completes, Recurs, Faults, Retries, Waits, OutOfTurns, Invalid, bind, allowed, Applies}
use Rattle.txs_tree_meaning.specs.Transaction.{redone, merged, accepted}
use Rattle.txs_code_meaning.specs.ActorState.{ActorState, StepResult, Continue, Break, Redo, Await, Malformed, begin, fail, view, Verdict, Landed, Outdated, Undone, Denied, commit, open_swap, close_swap, break_swap, read, cell_at, assign, assign_cell, RefUpdate, Alters, Commutes, open_update, close_update, send_to, print}
use Rattle.txs_theorem_threads.specs.OnReplies.{res, telling, Start, Anew, Behind, concludes, lands_on, if_all_accepted, closing, attempt, retrying, tries, joined, swap_concludes, accepts, swaps_on, updates_ref, updates, puts, on_replies}
use Rattle.txs_opt.proofs.Below.{Each}
use Rattle.txs_opt.proofs.Like.{Likeness, Like, PartsLike, AppliesLike, bind_like, loose_any, like_itself, improving}
use Rattle.txs_opt.proofs.OneWorld.{Any, any_callee, any_fine, any_valid, valid_at, redone_like, validated_like, accepted_like}
use Rattle.txs_opt.proofs.Parts.{FormsLike}
use Rattle.txs_opt.proofs.Recurring.{IsEnd, FormsEnd, bind_end}

abbrev pub K : Likeness ActorState
K = improving ActorState

itself : {A : Type 0} (f : ActorState → Completion ActorState A) → PartsLike ActorState K f f
itself f s t r = subst (λ u. Like K (f s) (f u)) r (like_itself ActorState K (λ u. refl) (f s))

telling_like : {A : Type 0} (ask : ActorState → StepResult (Unit {0})) (x y : Completion ActorState A) (f g : A → ActorState → Completion ActorState Value) → Like K x y → ((a : A) → PartsLike ActorState K (f a) (g a)) → Like K (telling ask x f) (telling ask y g)
telling_like ask (Completes a s) (Completes b t) f g h k = subst (λ c. Like K (f a s) (g c t)) h.0 (k a s t h.1)
telling_like ask (Completes a s) _ f g h k = absurd h
telling_like ask (Recurs vs s) (Recurs us t) f g h k = tt
telling_like ask (Recurs vs s) _ f g h k = absurd h
telling_like ask (Faults e s) (Faults d t) f g h k =
    bind_like ActorState K (res (ask s)) (res (ask t)) (λ u s1. Faults e s1) (λ u s1. Faults d s1) (itself (λ u. res (ask u)) s t h.1) (λ u s1 t1 r1. (h.0, r1))
telling_like ask (Faults e s) _ f g h k = absurd h
telling_like ask (Retries s) (Retries t) f g h k = h
telling_like ask (Retries s) _ f g h k = absurd h
telling_like ask (Waits s) (Waits t) f g h k = h
telling_like ask (Waits s) _ f g h k = absurd h
telling_like ask (OutOfTurns s) (OutOfTurns t) f g h k = h
telling_like ask (OutOfTurns s) _ f g h k = absurd h
telling_like ask Invalid y f g h k = loose_any ActorState K (telling ask y g) tt

retrying_like : (x y : Completion ActorState Value) (f g : ActorState → Completion ActorState Value) → Like K x y → PartsLike ActorState K f g → Like K (retrying x f) (retrying y g)
retrying_like (Completes v s) (Completes w t) f g h k = h
retrying_like (Completes v s) _ f g h k = absurd h
retrying_like (Recurs vs s) (Recurs us t) f g h k = tt
retrying_like (Recurs vs s) _ f g h k = absurd h
retrying_like (Faults x s) (Faults y t) f g h k = h
retrying_like (Faults x s) _ f g h k = absurd h
retrying_like (Retries s) (Retries t) f g h k = k s t h
retrying_like (Retries s) _ f g h k = absurd h
retrying_like (Waits s) (Waits t) f g h k = h
retrying_like (Waits s) _ f g h k = absurd h
retrying_like (OutOfTurns s) (OutOfTurns t) f g h k = h
retrying_like (OutOfTurns s) _ f g h k = absurd h
retrying_like Invalid y f g h k = loose_any ActorState K (retrying y g) tt

-- ---- tries

abbrev GoesLike : (Start → ActorState → Completion ActorState Value) → (Start → ActorState → Completion ActorState Value) → Type 0
GoesLike go go1 = (from : Start) → PartsLike ActorState K (go from) (go1 from)

concludes_like : (d : Verdict) (span : Span) (v : Value) (go go1 : Start → ActorState → Completion ActorState Value) → GoesLike go go1 → PartsLike ActorState K (concludes d span v go) (concludes d span v go1)
concludes_like Landed span v go go1 h s t r = (refl, r)
concludes_like Outdated span v go go1 h s t r = h (Behind v) s t r
concludes_like Undone span v go go1 h s t r = r
concludes_like Denied span v go go1 h s t r = (refl, r)

lands_like : (span : Span) (v : Value) (go go1 : Start → ActorState → Completion ActorState Value) → GoesLike go go1 → (ws : Writes) → PartsLike ActorState K (lands_on span v go ws) (lands_on span v go1 ws)
lands_like span v go go1 h ws s t r = bind_like ActorState K (res (commit ws s)) (res (commit ws t)) (λ d s1. concludes d span v go s1) (λ d s1. concludes d span v go1 s1) (itself (λ u. res (commit ws u)) s t r) (λ d. concludes_like d span v go go1 h)

redoing : (f g : Applies ActorState) → AppliesLike ActorState K Each f g → (ws : Writes) → PartsLike ActorState K (λ s. redone f (phase_work s.done) ws s) (λ s. redone g (phase_work s.done) ws s)
redoing f g a ws s t r = subst (λ u. Like K (redone f (phase_work s.done) ws s) (redone g (phase_work u.done) ws u)) r (redone_like ActorState K Each f g a (phase_work s.done) ws (any_fine (phase_work s.done)) s s refl)

all_accepted_like : (va : Validators) (span : Span) (f g : Applies ActorState) → AppliesLike ActorState K Each f g → (xs : Writes) → PartsLike ActorState K (if_all_accepted va span f xs) (if_all_accepted va span g xs)
all_accepted_like va span f g a xs s t r =
    subst (λ u. Like K (if_all_accepted va span f xs s) (if_all_accepted va span g xs u)) r
    (bind_like ActorState K (accepted f va span (merged (set_writes s.done) xs) s) (accepted g va span (merged (set_writes s.done) xs) s) (λ u s1. Completes xs s1) (λ u s1. Completes xs s1)
    (accepted_like ActorState K Each f g a va (any_valid va) span (merged (set_writes s.done) xs) s s refl) (λ u s1 t1 r1. (refl, r1)))

closing_like : (va : Validators) (cs : List CellId) (span : Span) (f g : Applies ActorState) → AppliesLike ActorState K Each f g → (v : Value) (go go1 : Start → ActorState → Completion ActorState Value) → GoesLike go go1 → PartsLike ActorState K (closing va cs span f v go) (closing va cs span g v go1)
closing_like va [] span f g a v go go1 h s t r =
    telling_like fail (if_all_accepted va span f [] s) (if_all_accepted va span g [] t) (λ xs s1. lands_on span v go xs s1) (λ xs s1. lands_on span v go1 xs s1) (all_accepted_like va span f g a [] s t r) (λ xs. lands_like span v go go1 h xs)
closing_like va (c ∷ cs) span f g a v go go1 h s t r =
    bind_like ActorState K (res (view s)) (res (view t))
    (λ ws s1. telling fail (bind (redone f (phase_work s1.done) ws s1) (λ xs s2. if_all_accepted va span f xs s2)) (λ xs s2. lands_on span v go xs s2))
    (λ ws s1. telling fail (bind (redone g (phase_work s1.done) ws s1) (λ xs s2. if_all_accepted va span g xs s2)) (λ xs s2. lands_on span v go1 xs s2))
    (itself (λ u. res (view u)) s t r)
    (λ ws s1 t1 r1. telling_like fail (bind (redone f (phase_work s1.done) ws s1) (λ xs s2. if_all_accepted va span f xs s2)) (bind (redone g (phase_work t1.done) ws t1) (λ xs s2. if_all_accepted va span g xs s2)) (λ xs s2. lands_on span v go xs s2) (λ xs s2. lands_on span v go1 xs s2)
    (bind_like ActorState K (redone f (phase_work s1.done) ws s1) (redone g (phase_work t1.done) ws t1) (λ xs s2. if_all_accepted va span f xs s2) (λ xs s2. if_all_accepted va span g xs s2) (redoing f g a ws s1 t1 r1) (λ xs. all_accepted_like va span f g a xs)) (λ xs. lands_like span v go go1 h xs))

closing_at : (va : Validators) (span : Span) (f g : Applies ActorState) → AppliesLike ActorState K Each f g → (v : Value) (go go1 : Start → ActorState → Completion ActorState Value) → GoesLike go go1 → PartsLike ActorState K (λ s. closing va (commuted s.done) span f v go s) (λ s. closing va (commuted s.done) span g v go1 s)
closing_at va span f g a v go go1 h s t r = subst (λ u. Like K (closing va (commuted s.done) span f v go s) (closing va (commuted u.done) span g v go1 u)) r (closing_like va (commuted s.done) span f g a v go go1 h s s refl)

attempt_like : (va : Validators) (from : Start) (span : Span) (x y : ActorState → Completion ActorState Value) → PartsLike ActorState K x y → (f g : Applies ActorState) → AppliesLike ActorState K Each f g → (go go1 : Start → ActorState → Completion ActorState Value) → GoesLike go go1 → PartsLike ActorState K (attempt va from span x f go) (attempt va from span y g go1)
attempt_like va Anew span x y b f g a go go1 h s t r =
    bind_like ActorState K (res (begin s)) (res (begin t)) (λ u s1. telling fail (x s1) (λ v s2. closing va (commuted s2.done) span f v go s2)) (λ u s1. telling fail (y s1) (λ v s2. closing va (commuted s2.done) span g v go1 s2))
    (itself (λ u. res (begin u)) s t r)
    (λ u s1 t1 r1. telling_like fail (x s1) (y t1) (λ v s2. closing va (commuted s2.done) span f v go s2) (λ v s2. closing va (commuted s2.done) span g v go1 s2) (b s1 t1 r1) (λ v. closing_at va span f g a v go go1 h))
attempt_like va (Behind v) span x y b f g a go go1 h s t r = closing_at va span f g a v go go1 h s t r

tries_like : (va : Validators) (k : ℕ) (span : Span) (x y : ActorState → Completion ActorState Value) → PartsLike ActorState K x y → (f g : Applies ActorState) → AppliesLike ActorState K Each f g → GoesLike (tries va k span x f) (tries va k span y g)
tries_like va zero span x y b f g a from s t r = (refl, r)
tries_like va (suc k) span x y b f g a from s t r =
    retrying_like (attempt va from span x f (tries va k span x f) s) (attempt va from span y g (tries va k span y g) t) (tries va k span x f Anew) (tries va k span y g Anew)
    (attempt_like va from span x y b f g a (tries va k span x f) (tries va k span y g) (tries_like va k span x y b f g a) s t r)
    (tries_like va k span x y b f g a Anew)

joined_like : (va : Validators) (inside : Bool) (k : ℕ) (span : Span) (x y : ActorState → Completion ActorState Value) → PartsLike ActorState K x y → (f g : Applies ActorState) → AppliesLike ActorState K Each f g → PartsLike ActorState K (joined va inside k span x f) (joined va inside k span y g)
joined_like va true k span x y b f g a s t r = b s t r
joined_like va false k span x y b f g a s t r = tries_like va k span x y b f g a Anew s t r

-- ---- updates

swap_concludes_like : (d : Verdict) (w : Value) (go go1 : ActorState → Completion ActorState Value) → PartsLike ActorState K go go1 → PartsLike ActorState K (swap_concludes d w go) (swap_concludes d w go1)
swap_concludes_like Landed w go go1 h s t r = (refl, r)
swap_concludes_like Outdated w go go1 h s t r = h s t r
swap_concludes_like Undone w go go1 h s t r = tt
swap_concludes_like Denied w go go1 h s t r = tt

swaps_like : (k : ℕ) (span : Span) (c : Value) (f g : CellId → Value → ActorState → Completion ActorState Value) → ((d : CellId) (v : Value) → PartsLike ActorState K (f d v) (g d v)) → PartsLike ActorState K (swaps_on k span c f) (swaps_on k span c g)
swaps_like zero span c f g h s t r = tt
swaps_like (suc k) span c f g h s t r =
    bind_like ActorState K (res (open_swap false span c s)) (res (open_swap false span c t))
    (λ o s1. telling (break_swap o.0) (f o.0.cell o.1 s1) (λ w s2. bind (res (close_swap o.0 w s2)) (λ d s3. swap_concludes d w (swaps_on k span c f) s3)))
    (λ o s1. telling (break_swap o.0) (g o.0.cell o.1 s1) (λ w s2. bind (res (close_swap o.0 w s2)) (λ d s3. swap_concludes d w (swaps_on k span c g) s3)))
    (itself (λ u. res (open_swap false span c u)) s t r)
    (λ o s1 t1 r1. telling_like (break_swap o.0) (f o.0.cell o.1 s1) (g o.0.cell o.1 t1)
    (λ w s2. bind (res (close_swap o.0 w s2)) (λ d s3. swap_concludes d w (swaps_on k span c f) s3)) (λ w s2. bind (res (close_swap o.0 w s2)) (λ d s3. swap_concludes d w (swaps_on k span c g) s3)) (h o.0.cell o.1 s1 t1 r1)
    (λ w s2 t2 r2. bind_like ActorState K (res (close_swap o.0 w s2)) (res (close_swap o.0 w t2)) (λ d s3. swap_concludes d w (swaps_on k span c f) s3) (λ d s3. swap_concludes d w (swaps_on k span c g) s3) (itself (λ u. res (close_swap o.0 w u)) s2 t2 r2)
    (λ d. swap_concludes_like d w (swaps_on k span c f) (swaps_on k span c g) (swaps_like k span c f g h))))

updates_ref_like : (u : RefUpdate) (inside : Bool) (span : Span) (c : Value) (callee : Callee) (vs : List Value) (f g : Applies ActorState) → AppliesLike ActorState K Each f g → PartsLike ActorState K (updates_ref u inside span c callee vs f) (updates_ref u inside span c callee vs g)
updates_ref_like u inside span c callee vs f g a s t r =
    bind_like ActorState K (res (open_update u inside span c vs s)) (res (open_update u inside span c vs t)) (λ v s1. bind (f callee (v ∷ vs) s1) (λ w s2. res (close_update span c w s2))) (λ v s1. bind (g callee (v ∷ vs) s1) (λ w s2. res (close_update span c w s2)))
    (itself (λ x. res (open_update u inside span c vs x)) s t r)
    (λ v s1 t1 r1. bind_like ActorState K (f callee (v ∷ vs) s1) (g callee (v ∷ vs) t1) (λ w s2. res (close_update span c w s2)) (λ w s2. res (close_update span c w s2)) (a callee (v ∷ vs) (any_callee callee) s1 t1 r1) (λ w. itself (λ x. res (close_update span c w x))))

accepts_like : (va : Validators) (d : CellId) (span : Span) (f g : Applies ActorState) → AppliesLike ActorState K Each f g → (w : Value) → PartsLike ActorState K (accepts va f d span w) (accepts va g d span w)
accepts_like va d span f g a w = validated_like ActorState K Each f g a (validator_at va d.number) span w (valid_at Each va d.number (any_valid va))

allowed_like : (b : Bool) (x y : Completion ActorState Value) → Like K x y → Like K (allowed b x) (allowed b y)
allowed_like true x y h = h
allowed_like false x y h = tt

updates_like : (va : Validators) (form : UpdateForm) (inside : Bool) (span : Span) (c : Value) (callee : Callee) (vs : List Value) (f g : Applies ActorState) → AppliesLike ActorState K Each f g → PartsLike ActorState K (updates va form inside span c callee vs f) (updates va form inside span c callee vs g)
updates_like va Alter inside span c callee vs f g a s t r = updates_ref_like Alters inside span c callee vs f g a s t r
updates_like va Commute inside span c callee vs f g a s t r = updates_ref_like (Commutes callee) inside span c callee vs f g a s t r
updates_like va Swap inside span c callee vs f g a s t r =
    let made : CellId → Value → ActorState → Completion ActorState Value = λ d v s1. bind (f callee (v ∷ vs) s1) (accepts va f d span) in
    let made1 : CellId → Value → ActorState → Completion ActorState Value = λ d v s1. bind (g callee (v ∷ vs) s1) (accepts va g d span) in
    subst (λ u. Like K (updates va Swap inside span c callee vs f s) (updates va Swap inside span c callee vs g u)) r
    (allowed_like (not inside) (swaps_on (suc (length s.todo)) span c made s) (swaps_on (suc (length s.todo)) span c made1 s)
    (swaps_like (suc (length s.todo)) span c made made1
    (λ d v s1 t1 r1. bind_like ActorState K (f callee (v ∷ vs) s1) (g callee (v ∷ vs) t1) (accepts va f d span) (accepts va g d span) (a callee (v ∷ vs) (any_callee callee) s1 t1 r1) (accepts_like va d span f g a)) s s refl))

puts_like : (va : Validators) (form : PutForm) (inside : Bool) (span : Span) (c v : Value) (f g : Applies ActorState) → AppliesLike ActorState K Each f g → PartsLike ActorState K (puts va form inside span c v f) (puts va form inside span c v g)
puts_like va RefSet inside span c v f g a s t r = itself (λ u. res (assign RefSet inside span c v u)) s t r
puts_like va Reset inside span c v f g a s t r =
    bind_like ActorState K (res (cell_at (form_of.Put Reset) inside span c s)) (res (cell_at (form_of.Put Reset) inside span c t))
    (λ d s1. bind (accepts va f d span v s1) (λ w s2. res (assign_cell Reset inside span w d s2))) (λ d t1. bind (accepts va g d span v t1) (λ w t2. res (assign_cell Reset inside span w d t2)))
    (itself (λ u. res (cell_at (form_of.Put Reset) inside span c u)) s t r)
    (λ d s1 t1 r1. bind_like ActorState K (accepts va f d span v s1) (accepts va g d span v t1) (λ w s2. res (assign_cell Reset inside span w d s2)) (λ w t2. res (assign_cell Reset inside span w d t2)) (accepts_like va d span f g a v s1 t1 r1)
    (λ w. itself (λ u. res (assign_cell Reset inside span w d u))))

pub reply_forms : (va : Validators) → FormsLike ActorState K Each Any (on_replies va) (on_replies va)
reply_forms va = record {
  print = λ inside vs. itself (λ u. res (print inside vs u));
  look = λ form inside m c. itself (λ u. res (read form inside m.span c u));
  put = λ form inside m c v f g here a. puts_like va form inside m.span c v f g a;
  update = λ form inside m c callee vs f g fine here a. updates_like va form inside m.span c callee vs f g a;
  send = λ inside m c callee vs. itself (λ u. res (send_to inside m.span c callee vs u));
  dosync = λ inside m e e1 env env1 b b1 f g linked here parts a. joined_like va inside (suc reruns) m.span b b1 parts f g a;
}

-- ---- no recur

res_end : {A : Type 0} (r : StepResult A) → IsEnd (res r)
res_end (Continue a s) = tt
res_end (Break f s) = tt
res_end (Redo s) = tt
res_end (Await s) = tt
res_end Malformed = tt

telling_end : {A : Type 0} (ask : ActorState → StepResult (Unit {0})) (x : Completion ActorState A) (f : A → ActorState → Completion ActorState Value) → ((a : A) (s : ActorState) → IsEnd (f a s)) → IsEnd (telling ask x f)
telling_end ask (Completes a s) f h = h a s
telling_end ask (Recurs vs s) f h = tt
telling_end ask (Faults e s) f h = bind_end (res (ask s)) (λ u s1. Faults e s1) (λ u s1. tt)
telling_end ask (Retries s) f h = tt
telling_end ask (Waits s) f h = tt
telling_end ask (OutOfTurns s) f h = tt
telling_end ask Invalid f h = tt

retrying_end : (x : Completion ActorState Value) (f : ActorState → Completion ActorState Value) → ((s : ActorState) → IsEnd (f s)) → IsEnd (retrying x f)
retrying_end (Completes v s) f h = tt
retrying_end (Recurs vs s) f h = tt
retrying_end (Faults e s) f h = tt
retrying_end (Retries s) f h = h s
retrying_end (Waits s) f h = tt
retrying_end (OutOfTurns s) f h = tt
retrying_end Invalid f h = tt

tries_end : (va : Validators) (k : ℕ) (span : Span) (x : ActorState → Completion ActorState Value) (f : Applies ActorState) (from : Start) (s : ActorState) → IsEnd (tries va k span x f from s)
tries_end va zero span x f from s = tt
tries_end va (suc k) span x f from s = retrying_end (attempt va from span x f (tries va k span x f) s) (tries va k span x f Anew) (λ t. tries_end va k span x f Anew t)

joined_end : (va : Validators) (inside : Bool) (k : ℕ) (span : Span) (x : ActorState → Completion ActorState Value) (f : Applies ActorState) (s : ActorState) → ((t : ActorState) → IsEnd (x t)) → IsEnd (joined va inside k span x f s)
joined_end va true k span x f s h = h s
joined_end va false k span x f s h = tries_end va k span x f Anew s

swap_concludes_end : (d : Verdict) (w : Value) (go : ActorState → Completion ActorState Value) (s : ActorState) → ((t : ActorState) → IsEnd (go t)) → IsEnd (swap_concludes d w go s)
swap_concludes_end Landed w go s h = tt
swap_concludes_end Outdated w go s h = h s
swap_concludes_end Undone w go s h = tt
swap_concludes_end Denied w go s h = tt

swaps_end : (k : ℕ) (span : Span) (c : Value) (f : CellId → Value → ActorState → Completion ActorState Value) (s : ActorState) → IsEnd (swaps_on k span c f s)
swaps_end zero span c f s = tt
swaps_end (suc k) span c f s =
    bind_end (res (open_swap false span c s)) (λ o s1. telling (break_swap o.0) (f o.0.cell o.1 s1) (λ w s2. bind (res (close_swap o.0 w s2)) (λ d s3. swap_concludes d w (swaps_on k span c f) s3)))
    (λ o s1. telling_end (break_swap o.0) (f o.0.cell o.1 s1) (λ w s2. bind (res (close_swap o.0 w s2)) (λ d s3. swap_concludes d w (swaps_on k span c f) s3))
    (λ w s2. bind_end (res (close_swap o.0 w s2)) (λ d s3. swap_concludes d w (swaps_on k span c f) s3) (λ d s3. swap_concludes_end d w (swaps_on k span c f) s3 (λ t. swaps_end k span c f t))))

updates_ref_end : (u : RefUpdate) (inside : Bool) (span : Span) (c : Value) (callee : Callee) (vs : List Value) (f : Applies ActorState) (s : ActorState) → IsEnd (updates_ref u inside span c callee vs f s)
updates_ref_end u inside span c callee vs f s =
    bind_end (res (open_update u inside span c vs s)) (λ v s1. bind (f callee (v ∷ vs) s1) (λ w s2. res (close_update span c w s2))) (λ v s1. bind_end (f callee (v ∷ vs) s1) (λ w s2. res (close_update span c w s2)) (λ w s2. res_end (close_update span c w s2)))

allowed_end : (b : Bool) (x : Completion ActorState Value) → IsEnd x → IsEnd (allowed b x)
allowed_end true x h = h
allowed_end false x h = tt

updates_end : (va : Validators) (form : UpdateForm) (inside : Bool) (span : Span) (c : Value) (callee : Callee) (vs : List Value) (f : Applies ActorState) (s : ActorState) → IsEnd (updates va form inside span c callee vs f s)
updates_end va Alter inside span c callee vs f s = updates_ref_end Alters inside span c callee vs f s
updates_end va Commute inside span c callee vs f s = updates_ref_end (Commutes callee) inside span c callee vs f s
updates_end va Swap inside span c callee vs f s =
    let made : CellId → Value → ActorState → Completion ActorState Value = λ d v s1. bind (f callee (v ∷ vs) s1) (accepts va f d span) in
    allowed_end (not inside) (swaps_on (suc (length s.todo)) span c made s) (swaps_end (suc (length s.todo)) span c made s)

puts_end : (va : Validators) (form : PutForm) (inside : Bool) (span : Span) (c v : Value) (f : Applies ActorState) (s : ActorState) → IsEnd (puts va form inside span c v f s)
puts_end va RefSet inside span c v f s = res_end (assign RefSet inside span c v s)
puts_end va Reset inside span c v f s =
    bind_end (res (cell_at (form_of.Put Reset) inside span c s)) (λ d s1. bind (accepts va f d span v s1) (λ w s2. res (assign_cell Reset inside span w d s2)))
    (λ d s1. bind_end (accepts va f d span v s1) (λ w s2. res (assign_cell Reset inside span w d s2)) (λ w s2. res_end (assign_cell Reset inside span w d s2)))

pub reply_ends : (va : Validators) → FormsEnd ActorState (on_replies va)
reply_ends va = record {
  print = λ inside vs s. res_end (print inside vs s);
  look = λ form inside m c s. res_end (read form inside m.span c s);
  put = λ form inside m c v f s h. puts_end va form inside m.span c v f s;
  update = λ form inside m c callee vs f s h. updates_end va form inside m.span c callee vs f s;
  send = λ inside m c callee vs s. res_end (send_to inside m.span c callee vs s);
  dosync = λ inside m e env b f s h a. joined_end va inside (suc reruns) m.span b f s h;
}
