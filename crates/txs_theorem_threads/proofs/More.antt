-- More turns change nothing of a tree's answer on replies that needs none.
use Rattle.std.proofs.Common.{ℕ, zero, suc, Bool, true, false, List, [], ◌∷◌, None, refl, subst, length, inr, ◌≡◌, ◌≤◌, not}
use Rattle.txs_theorem_threads.proofs.Accepted.{validated_related, accepted_related}
use Rattle.std.proofs.lemmas.Bool.{false≢true}
use Rattle.txs_world_protocol.specs.Ask.{Writes, Exchange}
use Rattle.txs_frame.specs.Frame.{commuted, phase_work, set_writes}
use Rattle.txs_value_cell.specs.Cells.{Validators, validators_of, validator_at}
use Rattle.txs_value_data.specs.Limits.{reruns}
use Rattle.txs_value_data.specs.declared.fault.Span.{Span}
use Rattle.txs_value_cell.specs.declared.form.CellForm.TheVariants as form_of
use Rattle.txs_value_cell.specs.declared.form.PutForm.{PutForm}
use Rattle.txs_value_cell.specs.declared.form.PutForm.TheVariants.{RefSet, Reset}
use Rattle.txs_value_cell.specs.declared.form.UpdateForm.{UpdateForm}
use Rattle.txs_value_cell.specs.declared.form.UpdateForm.TheVariants.{Alter, Commute, Swap}
use Rattle.txs_value_data.specs.declared.op.Callee.{Callee}
use Rattle.txs_value_data.specs.declared.value.CellId.{CellId}
use Rattle.txs_value_data.specs.declared.value.Value.{Value}
use Rattle.txs_tree_meaning.specs.Known.{known}
use Rattle.txs_tree_meaning.specs.Meaning.{Completion, Completes, Recurs, Faults, Retries, Waits, OutOfTurns, Invalid, bind, allowed, Applies, eval, call_at}
use Rattle.txs_tree_meaning.specs.Sound.{SoundSource, in_thread}
use Rattle.txs_tree_meaning.specs.Transaction.{redone, merged, accepted}
use Rattle.txs_tree_meaning.specs.Tree.{PlainFunction, ThreadSource}
use Rattle.txs_code_meaning.specs.ActorState.{ActorState, StepResult, begin, fail, view, Verdict, Landed, Outdated, Undone, Denied, commit, open_swap, close_swap, break_swap, RefUpdate, Alters, Commutes, open_update, close_update, cell_at, assign_cell}
use Rattle.txs_code_meaning.specs.Opening.{fresh}
use Rattle.txs_theorem_threads.proofs.Callees.{pure_callees, callees_in, function_callees}
use Rattle.txs_theorem_threads.proofs.Related.{Related, Turns, bind_related, closed_related, Applied, Alike, eval_related, calls_related}
use Rattle.txs_theorem_threads.proofs.Same.{same_link, itself, from_same, from_alike, bind_same, redone_alike, IsLong, same_long}
use Rattle.txs_theorem_threads.specs.Behaves.{source, HasEnded}
use Rattle.txs_theorem_threads.specs.OnReplies.{res, telling, Start, Anew, Behind, concludes, lands_on, closing, attempt, retrying, tries, joined, swap_concludes, swaps_on, updates_ref, updates, on_replies, if_all_accepted, accepts, puts}

-- two parts that are alike from each state
abbrev BothAlike : (ActorState → Completion ActorState Value) → (ActorState → Completion ActorState Value) → Type 0
BothAlike f g = (s : ActorState) → Related (same_link ActorState) (f s) (g s)

telling_alike : {A : Type 0} (ask : ActorState → StepResult (Unit {0})) (x y : Completion ActorState A) (f g : A → ActorState → Completion ActorState Value) → Related (same_link ActorState) x y → ((a : A) → BothAlike (f a) (g a)) → Related (same_link ActorState) (telling ask x f) (telling ask y g)
telling_alike ask (Completes a s) (Completes b t) f g h k = subst (λ c. Related (same_link ActorState) (f a s) (g c t)) h.0 (from_alike ActorState (f a) (g a) (k a) s t h.1)
telling_alike ask (Completes a s) _ f g h k = absurd h
telling_alike ask (Recurs vs s) (Recurs us t) f g h k = refl
telling_alike ask (Recurs vs s) _ f g h k = absurd h
telling_alike ask (Faults e s) (Faults d t) f g h k =
    subst (λ c. Related (same_link ActorState) (telling ask (Faults e s) f) (telling ask (Faults c t) g)) h.0
    (subst (λ u. Related (same_link ActorState) (telling ask (Faults e s) f) (telling ask (Faults e u) g)) h.1 (itself ActorState (bind (res (ask s)) (λ u s1. Faults e s1))))
telling_alike ask (Faults e s) _ f g h k = absurd h
telling_alike ask (Retries s) (Retries t) f g h k = h
telling_alike ask (Retries s) _ f g h k = absurd h
telling_alike ask (Waits s) (Waits t) f g h k = h
telling_alike ask (Waits s) _ f g h k = absurd h
telling_alike ask (OutOfTurns s) y f g h k = tt
telling_alike ask Invalid Invalid f g h k = refl
telling_alike ask Invalid _ f g h k = absurd (false≢true h)

retrying_alike : (x y : Completion ActorState Value) (f g : ActorState → Completion ActorState Value) → Related (same_link ActorState) x y → BothAlike f g → Related (same_link ActorState) (retrying x f) (retrying y g)
retrying_alike (Completes v s) (Completes w t) f g h k = h
retrying_alike (Completes v s) _ f g h k = absurd h
retrying_alike (Recurs vs s) (Recurs us t) f g h k = refl
retrying_alike (Recurs vs s) _ f g h k = absurd h
retrying_alike (Faults x s) (Faults y t) f g h k = h
retrying_alike (Faults x s) _ f g h k = absurd h
retrying_alike (Retries s) (Retries t) f g h k = from_alike ActorState f g k s t h
retrying_alike (Retries s) _ f g h k = absurd h
retrying_alike (Waits s) (Waits t) f g h k = h
retrying_alike (Waits s) _ f g h k = absurd h
retrying_alike (OutOfTurns s) y f g h k = tt
retrying_alike Invalid Invalid f g h k = refl
retrying_alike Invalid _ f g h k = absurd (false≢true h)

-- ---- tries

abbrev GoesAlike : (Start → ActorState → Completion ActorState Value) → (Start → ActorState → Completion ActorState Value) → Type 0
GoesAlike go go1 = (from : Start) → BothAlike (go from) (go1 from)

concludes_alike : (d : Verdict) (span : Span) (v : Value) (go go1 : Start → ActorState → Completion ActorState Value) → GoesAlike go go1 → BothAlike (concludes d span v go) (concludes d span v go1)
concludes_alike Landed span v go go1 h s = (refl, refl)
concludes_alike Outdated span v go go1 h s = h (Behind v) s
concludes_alike Undone span v go go1 h s = refl
concludes_alike Denied span v go go1 h s = (refl, refl)

lands_alike : (span : Span) (v : Value) (go go1 : Start → ActorState → Completion ActorState Value) → GoesAlike go go1 → (ws : Writes) → BothAlike (lands_on span v go ws) (lands_on span v go1 ws)
lands_alike span v go go1 h ws s = bind_same ActorState (res (commit ws s)) (λ d s1. concludes d span v go s1) (λ d s1. concludes d span v go1 s1) (λ d s1. concludes_alike d span v go go1 h s1)

all_accepted_alike : (validators : Validators) (span : Span) (f g : Applies ActorState) → Applied ActorState ActorState (same_link ActorState) f g → (xs : Writes) (s : ActorState) → Related (same_link ActorState) (if_all_accepted validators span f xs s) (if_all_accepted validators span g xs s)
all_accepted_alike validators span f g a xs s =
    bind_related ActorState ActorState (same_link ActorState) (accepted f validators span (merged (set_writes s.done) xs) s) (accepted g validators span (merged (set_writes s.done) xs) s) (λ u s1. Completes xs s1) (λ u s1. Completes xs s1)
    (accepted_related ActorState ActorState (same_link ActorState) f g a validators span (merged (set_writes s.done) xs) s s refl) (λ u s1 t1 r1. (refl, r1))

accepts_alike : (validators : Validators) (x : CellId) (span : Span) (f g : Applies ActorState) → Applied ActorState ActorState (same_link ActorState) f g → (v : Value) (s t : ActorState) → s ≡ t → Related (same_link ActorState) (accepts validators f x span v s) (accepts validators g x span v t)
accepts_alike validators x span f g a v s t r = validated_related ActorState ActorState (same_link ActorState) f g a (validator_at validators x.number) span v s t r

closing_alike : (validators : Validators) (cs : List CellId) (span : Span) (f g : Applies ActorState) → Applied ActorState ActorState (same_link ActorState) f g → (v : Value) (go go1 : Start → ActorState → Completion ActorState Value) → GoesAlike go go1 → BothAlike (closing validators cs span f v go) (closing validators cs span g v go1)
closing_alike validators [] span f g a v go go1 h s =
    telling_alike fail (if_all_accepted validators span f [] s) (if_all_accepted validators span g [] s) (λ xs s1. lands_on span v go xs s1) (λ xs s1. lands_on span v go1 xs s1) (all_accepted_alike validators span f g a [] s) (λ xs s1. lands_alike span v go go1 h xs s1)
closing_alike validators (c ∷ cs) span f g a v go go1 h s =
    bind_same ActorState (res (view s)) (λ ws s1. telling fail (bind (redone f (phase_work s1.done) ws s1) (λ xs s2. if_all_accepted validators span f xs s2)) (λ xs s2. lands_on span v go xs s2))
    (λ ws s1. telling fail (bind (redone g (phase_work s1.done) ws s1) (λ xs s2. if_all_accepted validators span g xs s2)) (λ xs s2. lands_on span v go1 xs s2))
    (λ ws s1. telling_alike fail (bind (redone f (phase_work s1.done) ws s1) (λ xs s2. if_all_accepted validators span f xs s2)) (bind (redone g (phase_work s1.done) ws s1) (λ xs s2. if_all_accepted validators span g xs s2)) (λ xs s2. lands_on span v go xs s2) (λ xs s2. lands_on span v go1 xs s2)
    (bind_related ActorState ActorState (same_link ActorState) (redone f (phase_work s1.done) ws s1) (redone g (phase_work s1.done) ws s1) (λ xs s2. if_all_accepted validators span f xs s2) (λ xs s2. if_all_accepted validators span g xs s2) (redone_alike ActorState f g a (phase_work s1.done) ws s1)
    (λ xs s2 t2 r2. from_alike ActorState (λ u. if_all_accepted validators span f xs u) (λ u. if_all_accepted validators span g xs u) (all_accepted_alike validators span f g a xs) s2 t2 r2)) (λ xs s2. lands_alike span v go go1 h xs s2))

attempt_alike : (validators : Validators) (from : Start) (span : Span) (x y : ActorState → Completion ActorState Value) → BothAlike x y → (f g : Applies ActorState) → Applied ActorState ActorState (same_link ActorState) f g → (go go1 : Start → ActorState → Completion ActorState Value) → GoesAlike go go1 → BothAlike (attempt validators from span x f go) (attempt validators from span y g go1)
attempt_alike validators Anew span x y b f g a go go1 h s =
    bind_same ActorState (res (begin s)) (λ u s1. telling fail (x s1) (λ v s2. closing validators (commuted s2.done) span f v go s2)) (λ u s1. telling fail (y s1) (λ v s2. closing validators (commuted s2.done) span g v go1 s2))
    (λ u s1. telling_alike fail (x s1) (y s1) (λ v s2. closing validators (commuted s2.done) span f v go s2) (λ v s2. closing validators (commuted s2.done) span g v go1 s2) (b s1) (λ v s2. closing_alike validators (commuted s2.done) span f g a v go go1 h s2))
attempt_alike validators (Behind v) span x y b f g a go go1 h s = closing_alike validators (commuted s.done) span f g a v go go1 h s

-- tries whose bodies and callees are alike
tries_alike : (validators : Validators) (k : ℕ) (span : Span) (x y : ActorState → Completion ActorState Value) → BothAlike x y → (f g : Applies ActorState) → Applied ActorState ActorState (same_link ActorState) f g → GoesAlike (tries validators k span x f) (tries validators k span y g)
tries_alike validators zero span x y b f g a from s = (refl, refl)
tries_alike validators (suc k) span x y b f g a from s =
    retrying_alike (attempt validators from span x f (tries validators k span x f) s) (attempt validators from span y g (tries validators k span y g) s) (tries validators k span x f Anew) (tries validators k span y g Anew)
    (attempt_alike validators from span x y b f g a (tries validators k span x f) (tries validators k span y g) (tries_alike validators k span x y b f g a) s)
    (tries_alike validators k span x y b f g a Anew)

joined_alike : (validators : Validators) (inside : Bool) (k : ℕ) (span : Span) (x y : ActorState → Completion ActorState Value) → BothAlike x y → (f g : Applies ActorState) → Applied ActorState ActorState (same_link ActorState) f g → BothAlike (joined validators inside k span x f) (joined validators inside k span y g)
joined_alike validators true k span x y b f g a s = b s
joined_alike validators false k span x y b f g a s = tries_alike validators k span x y b f g a Anew s

-- ---- updates

swap_concludes_alike : (d : Verdict) (w : Value) (go go1 : ActorState → Completion ActorState Value) → BothAlike go go1 → BothAlike (swap_concludes d w go) (swap_concludes d w go1)
swap_concludes_alike Landed w go go1 h s = (refl, refl)
swap_concludes_alike Outdated w go go1 h s = h s
swap_concludes_alike Undone w go go1 h s = refl
swap_concludes_alike Denied w go go1 h s = refl

-- swaps whose callees are alike
swaps_alike : (k : ℕ) (span : Span) (c : Value) (f g : CellId → Value → ActorState → Completion ActorState Value) → ((x : CellId) (v : Value) → BothAlike (f x v) (g x v)) → BothAlike (swaps_on k span c f) (swaps_on k span c g)
swaps_alike zero span c f g h s = refl
swaps_alike (suc k) span c f g h s =
    bind_same ActorState (res (open_swap false span c s))
    (λ o s1. telling (break_swap o.0) (f o.0.cell o.1 s1) (λ w s2. bind (res (close_swap o.0 w s2)) (λ d s3. swap_concludes d w (swaps_on k span c f) s3)))
    (λ o s1. telling (break_swap o.0) (g o.0.cell o.1 s1) (λ w s2. bind (res (close_swap o.0 w s2)) (λ d s3. swap_concludes d w (swaps_on k span c g) s3)))
    (λ o s1. telling_alike (break_swap o.0) (f o.0.cell o.1 s1) (g o.0.cell o.1 s1)
    (λ w s2. bind (res (close_swap o.0 w s2)) (λ d s3. swap_concludes d w (swaps_on k span c f) s3)) (λ w s2. bind (res (close_swap o.0 w s2)) (λ d s3. swap_concludes d w (swaps_on k span c g) s3)) (h o.0.cell o.1 s1)
    (λ w s2. bind_same ActorState (res (close_swap o.0 w s2)) (λ d s3. swap_concludes d w (swaps_on k span c f) s3) (λ d s3. swap_concludes d w (swaps_on k span c g) s3)
    (λ d s3. swap_concludes_alike d w (swaps_on k span c f) (swaps_on k span c g) (swaps_alike k span c f g h) s3)))

updates_ref_alike : (u : RefUpdate) (inside : Bool) (span : Span) (c : Value) (callee : Callee) (vs : List Value) (f g : Applies ActorState) → Applied ActorState ActorState (same_link ActorState) f g → BothAlike (updates_ref u inside span c callee vs f) (updates_ref u inside span c callee vs g)
updates_ref_alike u inside span c callee vs f g a s =
    bind_same ActorState (res (open_update u inside span c vs s)) (λ v s1. bind (f callee (v ∷ vs) s1) (λ w s2. res (close_update span c w s2))) (λ v s1. bind (g callee (v ∷ vs) s1) (λ w s2. res (close_update span c w s2)))
    (λ v s1. bind_related ActorState ActorState (same_link ActorState) (f callee (v ∷ vs) s1) (g callee (v ∷ vs) s1) (λ w s2. res (close_update span c w s2)) (λ w s2. res (close_update span c w s2)) (a callee (v ∷ vs) s1 s1 refl)
    (λ w s2 t2 r2. from_same ActorState (λ u1. res (close_update span c w u1)) s2 t2 r2))

allowed_alike : (b : Bool) (x y : Completion ActorState Value) → Related (same_link ActorState) x y → Related (same_link ActorState) (allowed b x) (allowed b y)
allowed_alike true x y h = h
allowed_alike false x y h = refl

updates_alike : (validators : Validators) (form : UpdateForm) (inside : Bool) (span : Span) (c : Value) (callee : Callee) (vs : List Value) (f g : Applies ActorState) → Applied ActorState ActorState (same_link ActorState) f g → BothAlike (updates validators form inside span c callee vs f) (updates validators form inside span c callee vs g)
updates_alike validators Alter inside span c callee vs f g a s = updates_ref_alike Alters inside span c callee vs f g a s
updates_alike validators Commute inside span c callee vs f g a s = updates_ref_alike (Commutes callee) inside span c callee vs f g a s
updates_alike validators Swap inside span c callee vs f g a s =
    allowed_alike (not inside) (swaps_on (suc (length s.todo)) span c (λ x v s1. bind (f callee (v ∷ vs) s1) (accepts validators f x span)) s) (swaps_on (suc (length s.todo)) span c (λ x v s1. bind (g callee (v ∷ vs) s1) (accepts validators g x span)) s)
    (swaps_alike (suc (length s.todo)) span c (λ x v s1. bind (f callee (v ∷ vs) s1) (accepts validators f x span)) (λ x v s1. bind (g callee (v ∷ vs) s1) (accepts validators g x span))
    (λ x v s1. bind_related ActorState ActorState (same_link ActorState) (f callee (v ∷ vs) s1) (g callee (v ∷ vs) s1) (accepts validators f x span) (accepts validators g x span) (a callee (v ∷ vs) s1 s1 refl) (λ w s2 t2 r2. accepts_alike validators x span f g a w s2 t2 r2)) s)

puts_alike : (validators : Validators) (form : PutForm) (inside : Bool) (span : Span) (c w : Value) (f g : Applies ActorState) → Applied ActorState ActorState (same_link ActorState) f g → BothAlike (puts validators form inside span c w f) (puts validators form inside span c w g)
puts_alike validators RefSet inside span c w f g a s = itself ActorState (puts validators RefSet inside span c w f s)
puts_alike validators Reset inside span c w f g a s =
    bind_same ActorState (res (cell_at (form_of.Put Reset) inside span c s)) (λ x s1. bind (accepts validators f x span w s1) (λ v s2. res (assign_cell Reset inside span v x s2))) (λ x s1. bind (accepts validators g x span w s1) (λ v s2. res (assign_cell Reset inside span v x s2)))
    (λ x s1. bind_related ActorState ActorState (same_link ActorState) (accepts validators f x span w s1) (accepts validators g x span w s1) (λ v s2. res (assign_cell Reset inside span v x s2)) (λ v s2. res (assign_cell Reset inside span v x s2)) (accepts_alike validators x span f g a w s1 s1 refl)
    (λ v s2 t2 r2. from_same ActorState (λ u. res (assign_cell Reset inside span v x u)) s2 t2 r2))

-- ---- threads

module _ (validators : Validators) (nl nr : ℕ) (functions : List PlainFunction) where
  -- the forms on replies, whose callees may have more turns
  replies_alike : (d : ℕ) → Alike ActorState ActorState (same_link ActorState) (on_replies validators) (on_replies validators) (call_at (λ e. on_replies validators) nl functions d) (call_at (λ e. on_replies validators) nr functions d) nl nr (λ i. Unit {0}) (pure_callees (known functions))
  replies_alike d = record {
    print = λ inside vs s t m r. from_same ActorState (λ u. (on_replies validators).print inside vs u) s t r;
    look = λ form inside m c s t may i r. from_same ActorState (λ u. (on_replies validators).look form inside m c u) s t r;
    put = λ form inside m c w s t may i a r. from_alike ActorState _ _ (puts_alike validators form inside m.span c w _ _ (a (λ f. tt))) s t r;
    update = λ form inside m c callee vs s t may i p a r. from_alike ActorState _ _ (updates_alike validators form inside m.span c callee vs _ _ (a (λ f. tt))) s t r;
    send = λ inside m c callee vs s t i r. from_same ActorState (λ u. (on_replies validators).send inside m c callee vs u) s t r;
    dosync = λ inside m e env s t i p b a r. from_alike ActorState _ _ (joined_alike validators inside (suc reruns) m.span _ _ (λ s1. b tt s1 s1 refl) _ _ (a (λ f. tt) tt)) s t r;
  }

long_ended : (x : Completion ActorState Value) → HasEnded x → IsLong ActorState x
long_ended (Completes v s) e = tt
long_ended (Recurs vs s) e = tt
long_ended (Faults f s) e = tt
long_ended (Retries s) e = tt
long_ended (Waits s) e = tt
long_ended (OutOfTurns s) e = e
long_ended Invalid e = tt

-- an end of the tree is its end with more turns
pub more_turns : (p : ThreadSource) → SoundSource p → (todo : List Exchange) (nl nr : ℕ) → nl ≤ nr → HasEnded (source p nl todo) → source p nr todo ≡ source p nl todo
more_turns p sound todo nl nr le e =
    let d = length p.functions in
    let w = pure_callees (known p.functions) in
    let validators : Validators = validators_of p.cells in
    let cf = call_at (λ x. on_replies validators) nl p.functions d in
    let cg = call_at (λ x. on_replies validators) nr p.functions d in
    let more : Turns ActorState ActorState (same_link ActorState) nl nr = inr (le, λ s t r o. tt) in
    same_long ActorState (source p nl todo) (source p nr todo)
    (closed_related ActorState ActorState (same_link ActorState) (eval (on_replies validators) cf nl false p.main [] (fresh todo)) (eval (on_replies validators) cg nr false p.main [] (fresh todo))
    (eval_related ActorState ActorState (same_link ActorState) (on_replies validators) (on_replies validators) cf cg nl nr (λ i. Unit {0}) w more (replies_alike validators nl nr p.functions d)
    (calls_related ActorState ActorState (same_link ActorState) (λ x. on_replies validators) (λ x. on_replies validators) nl nr p.functions (λ i. Unit {0}) w more (replies_alike validators nl nr p.functions) (function_callees p.functions sound.functions) d)
    p.main false [] (fresh todo) (fresh todo) (callees_in (known p.functions) p.main in_thread false 0 None sound.main) tt refl))
    (long_ended (source p nl todo) e)
