-- A thread means the same where its pure callees are applied as deep as there are functions: calls go no deeper than they may.
use Rattle.std.proofs.Common.{◌≡◌, ◌<◌, ◌≤◌, ◌+◌, ◌==◌, ◌&&◌, ◌∙◌, ℕ, zero, suc, Bool, true, false, not, if◌then◌else◌, List, [], ◌∷◌, ◌++◌, Option, Some, None, refl, sym, ap, subst, length, take, arith}
use Rattle.std.proofs.lemmas.Bool.{false≢true}
use Rattle.txs_world_protocol.specs.Ask.{same_writes, same_actions}
use Rattle.txs_world_protocol.specs.SeenEvent.{SeenEvent, home}
use Rattle.txs_world_protocol.specs.declared.event.EventKind.{EventKind}
use Rattle.txs_world_protocol.specs.declared.event.EventKind.TheVariants.{Read, Commit, Retry, Fail, Refused, Send as Sent, SendRefused, Act as Acted, Swap as Swapped, Broke}
use Rattle.txs_frame.specs.Frame.{PlainTxFrame, sends_of_commit}
use Rattle.txs_frame.specs.declared.frame.Commute.{Commute}
use Rattle.txs_value_apply.specs.Core.{core, vector_of}
use Rattle.txs_value_apply.specs.Truth.{choose}
use Rattle.txs_value_data.specs.Places.{nth, fault_at}
use Rattle.txs_value_data.specs.declared.fault.Fault.{Fault}
use Rattle.txs_value_data.specs.declared.fault.FaultKind.TheVariants.{AgentFailed}
use Rattle.txs_value_data.specs.declared.fault.Span.{Span}
use Rattle.txs_value_data.specs.declared.op.Callee.{Callee}
use Rattle.txs_value_data.specs.declared.op.Callee.TheVariants.{Core as CoreOp, Function}
use Rattle.txs_value_cell.specs.Cells.{World, validators_of, validator_at}
use Rattle.txs_value_cell.specs.declared.cell.CellDefinition.{CellDefinition}
use Rattle.txs_value_cell.specs.declared.form.CellForm.TheVariants as form_of
use Rattle.txs_value_cell.specs.declared.form.PutForm.{PutForm}
use Rattle.txs_value_cell.specs.declared.form.PutForm.TheVariants.{RefSet, Reset}
use Rattle.txs_value_cell.specs.declared.form.UpdateForm.{UpdateForm}
use Rattle.txs_value_cell.specs.declared.form.UpdateForm.TheVariants.{Alter, Commute as CommuteForm, Swap}
use Rattle.txs_value_data.specs.declared.value.CellId.{CellId}
use Rattle.txs_value_data.specs.declared.value.Value.{Value}
use Rattle.txs_tree_meaning.specs.Known.{Known, is_pure, known_of, known}
use Rattle.txs_tree_meaning.specs.Meaning.{Completion, Completes, Recurs, Faults, Retries, Waits, OutOfTurns, Invalid, bind, closed, give, result_of, Applies, Effects, turns, apply, eval, eval_all, eval_let, eval_do, call_at}
use Rattle.txs_tree_meaning.specs.Pure.{no_effects}
use Rattle.txs_tree_meaning.specs.Sound.{in_thread, in_dosync, SoundCall, SoundCallee, SoundCells, SoundTree, SoundAll, SoundLet, SoundDo, SoundFunctions}
use Rattle.txs_tree_meaning.specs.Thread.{ThreadState, Transacting, Surroundings, with_tx, holding, run_of, uneaten, eats, meant, resets, swaps, over, faulted, faultless, ends_tx, is_retry, again, eats_tx, accepts, thread_put, thread_update, outside_form, on_events}
use Rattle.txs_tree_meaning.specs.Transaction.{TxState, on_cell, in_transaction, tx_start, tx_meaning, tx_meaning_lacking, final_writes}
use Rattle.txs_tree_meaning.specs.Tree.{Mark, Tree, Const, Local, If, Do, Let, Loop, Recur, Core, Call, VectorOf, Println, Dosync, Look, Put, Update, Send, Trees, none, more, count, PlainFunction}
use Rattle.txs_tree_meaning.specs.View.{functions_of}
use Rattle.txs_tree_meaning.specs.declared.node.Function as function
use Rattle.txs_tree_meaning.proofs.Callable.{function_at, nth-length, nth-take, nth-before, same_some, missing, tree-widened, tree-outside, length-known}
use Rattle.txs_tree_meaning.proofs.PureLaw.{Agrees}
use Rattle.txs_theorem_threads.proofs.Accepted.{validators_pure, validator_such, validated_carried, made_carried, final_carried}
use Rattle.txs_theorem_threads.proofs.Callees.{IsPure}
use Rattle.txs_theorem_threads.proofs.Depth.{counted, pures, others, both_kinds, pure_before, other_before, known_there, shallow}
use Rattle.txs_theorem_threads.proofs.Functions.{there, nth_below}
use Rattle.txs_theorem_threads.proofs.Quiet.{carried, IsQuiet, quietly, callee_carried, AllCommutes}
use Rattle.txs_tree_eval_node.specs.Evaluated.{around_it, deeply, in_state, wholly, SoundCommutes}
use Rattle.txs_tree_eval_node.specs.Setting.{Setting, callable}
use Rattle.txs_tree_eval_node.proofs.Recurs.{keeps_sound_on}

-- ---- answers

in_carried : {S A : Type 0} (s : S) (p : Completion (Unit {0}) A) → in_state s p ≡ carried s p
in_carried s (Completes a u) = refl
in_carried s (Recurs vs u) = refl
in_carried s (Faults f u) = refl
in_carried s (Retries u) = refl
in_carried s (Waits u) = refl
in_carried s (OutOfTurns u) = refl
in_carried s Invalid = refl

-- what agrees where there is no state is the same
agrees_same : {A : Type 0} (p c : Completion (Unit {0}) A) → Agrees tt p c → p ≡ c
agrees_same (Completes a tt) c h = sym h
agrees_same (Recurs vs tt) c h = sym h
agrees_same (Faults f tt) c h = sym h
agrees_same (Retries u) c h = absurd h
agrees_same (Waits u) c h = absurd h
agrees_same (OutOfTurns tt) c h = sym h
agrees_same Invalid c h = sym h

-- what is done with a transaction's value
over_same : (t : ThreadState) (c : Completion TxState Value) (go on : Value → TxState → Completion ThreadState Value) (broke : Fault → Completion ThreadState Value) → ((v : Value) (z : TxState) → c ≡ Completes v z → go v z ≡ on v z) → over t c go broke ≡ over t c on broke
over_same t (Completes v z) go on broke h = h v z refl
over_same t (Recurs vs z) go on broke h = refl
over_same t (Faults f z) go on broke h = refl
over_same t (Retries z) go on broke h = refl
over_same t (Waits z) go on broke h = refl
over_same t (OutOfTurns z) go on broke h = refl
over_same t Invalid go on broke h = refl

abbrev IsSome : Completion TxState Value → Type 0
IsSome Invalid = ⊥
IsSome _ = Unit {0}

-- a body that gave a value gave it in no recur
opened : (c : Completion TxState Value) (v : Value) (z : TxState) → closed c ≡ Completes v z → c ≡ Completes v z
opened (Completes w y) v z h = h
opened (Recurs vs y) v z h = absurd (subst IsSome (sym h) tt)
opened (Faults e y) v z h = h
opened (Retries y) v z h = h
opened (Waits y) v z h = h
opened (OutOfTurns y) v z h = h
opened Invalid v z h = h

-- commutes with callees of some functions are pure
commutes_pure : (b : ℕ) (ks : List Known) (cs : List Commute) → SoundCommutes (take b ks) cs → AllCommutes (IsPure ks) cs
commutes_pure b ks [] h = tt
commutes_pure b ks (c ∷ cs) h = (one c.callee (suc (length c.args)) h.0, commutes_pure b ks cs h.1)
  where
    one : (f : Callee) (n : ℕ) → SoundCallee (take b ks) f n → IsPure ks f
    one (CoreOp op) n g = tt
    one (Function f) n g = ap is_pure (nth-take b ks f g.function g.found).1 ∙ g.pure

-- as many functions come before one as pure ones and others before it
index_counts : (ks : List Known) (i m : ℕ) (k : Known) → nth ks i ≡ Some k → i ≤ m → i ≤ pures ks m + others ks i
index_counts [] i m k h le = absurd (missing k h)
index_counts (x ∷ ks) zero m k h le = omega arith
index_counts (x ∷ ks) (suc i) zero k h le = absurd (omega (arith, le))
index_counts (x ∷ ks) (suc i) (suc m) k h le = go x.pure (index_counts ks i m k h (omega (arith, le)))
  where
    go : (b : Bool) → i ≤ pures ks m + others ks i → suc i ≤ counted b (pures ks m) + counted (not b) (others ks i)
    go true r = omega (arith, r)
    go false r = omega (arith, r)

-- ---- two appliers of pure callees

module _ (ks : List Known) (q : Applies (Unit {0})) (f g : Applies ThreadState) (low : (t : ThreadState) (c : Callee) (vs : List Value) → IsPure ks c → (f c vs t ≡ carried t (q c vs tt)) × IsQuiet (q c vs tt))
    (high : (t : ThreadState) (c : Callee) (vs : List Value) → IsPure ks c → (g c vs t ≡ carried t (q c vs tt)) × IsQuiet (q c vs tt)) (x : Surroundings) (cells : SoundCells ks x.cells) where
  accepts_same : (c : CellId) (span : Span) (v : Value) (t : ThreadState) → accepts x f c span v t ≡ accepts x g c span v t
  accepts_same c span v t =
      let o = validator_at (validators_of x.cells) c.number in
      let such = validator_such (IsPure ks) (validators_of x.cells) c.number (validators_pure ks x.cells cells) in
      (validated_carried (IsPure ks) t f q (low t) o such span v).0 ∙ sym (validated_carried (IsPure ks) t g q (high t) o such span v).0

  made_same : (c : CellId) (span : Span) (callee : Callee) (vs : List Value) (t : ThreadState) → IsPure ks callee → bind (f callee vs t) (accepts x f c span) ≡ bind (g callee vs t) (accepts x g c span)
  made_same c span callee vs t pure =
      let o = validator_at (validators_of x.cells) c.number in
      let such = validator_such (IsPure ks) (validators_of x.cells) c.number (validators_pure ks x.cells cells) in
      (made_carried (IsPure ks) t f q (low t) o such span callee vs pure).0 ∙ sym (made_carried (IsPure ks) t g q (high t) o such span callee vs pure).0

  finals_same : (span : Span) (w : PlainTxFrame) (C : World) (t : ThreadState) → AllCommutes (IsPure ks) w.commutes → final_writes f (validators_of x.cells) span w C t ≡ final_writes g (validators_of x.cells) span w C t
  finals_same span w C t pure =
      let all = validators_pure ks x.cells cells in
      (final_carried (IsPure ks) t f q (low t) (validators_of x.cells) all span w pure C).0 ∙ sym (final_carried (IsPure ks) t g q (high t) (validators_of x.cells) all span w pure C).0

  put_same : (form : PutForm) (span : Span) (c : CellId) (v : Value) (t : ThreadState) → thread_put x form span c v f t ≡ thread_put x form span c v g t
  put_same RefSet span c v t = refl
  put_same Reset span c v t = ap (λ r. bind r (λ w t1. eats (home x.cells c) (λ e t2. resets w e.kind t2) t1.todo t1)) (accepts_same c span v t)

  update_same : (form : UpdateForm) (span : Span) (c : CellId) (callee : Callee) (vs : List Value) (t : ThreadState) → IsPure ks callee → thread_update x form span c callee vs f t ≡ thread_update x form span c callee vs g t
  update_same Alter span c callee vs t pure = refl
  update_same CommuteForm span c callee vs t pure = refl
  update_same Swap span c callee vs t pure = (λ i. eats (home x.cells c) (λ e t1. swaps c (λ v t2. made_same c span callee (v ∷ vs) t2 pure i) e.kind e.R e.C t1) t.todo t)

  -- a transaction, of whose body this is known
  module _ (d : Transacting) (are : d.validators ≡ validators_of x.cells) (pure : (R : World) (v : Value) (z : TxState) → d.on R ≡ Completes v z → AllCommutes (IsPure ks) z.done.commutes) where
    last_same : (R C : World) (v : Value) (z : TxState) (t : ThreadState) → d.on R ≡ Completes v z → final_writes f d.validators d.mark.span z.done C t ≡ final_writes g d.validators d.mark.span z.done C t
    last_same R C v z t is = subst (λ vs. final_writes f vs d.mark.span z.done C t ≡ final_writes g vs d.mark.span z.done C t) (sym are) (finals_same d.mark.span z.done C t (pure R v z is))

    ends_same : (k : EventKind) (R Q C : World) (t : ThreadState) → ends_tx d f k R Q C t ≡ ends_tx d g k R Q C t
    ends_same (Commit at view writes sent) R Q C t =
        over_same t (d.on R) (λ v z. faultless (final_writes f d.validators d.mark.span z.done C t) (λ ws t1. meant (same_writes ws writes && same_actions (sends_of_commit t1.held z.done.sends) sent) v (holding z.done.sends (with_tx (run_of d v z) t1))))
        (λ v z. faultless (final_writes g d.validators d.mark.span z.done C t) (λ ws t1. meant (same_writes ws writes && same_actions (sends_of_commit t1.held z.done.sends) sent) v (holding z.done.sends (with_tx (run_of d v z) t1)))) (λ e. Invalid)
        (λ v z is. ap (λ r. faultless r (λ ws t1. meant (same_writes ws writes && same_actions (sends_of_commit t1.held z.done.sends) sent) v (holding z.done.sends (with_tx (run_of d v z) t1)))) (last_same R C v z t is))
    ends_same (Fail at view) R Q C t =
        over_same t (d.on R) (λ v z. faulted (final_writes f d.validators d.mark.span z.done Q t) (λ e t1. Faults e t1)) (λ v z. faulted (final_writes g d.validators d.mark.span z.done Q t) (λ e t1. Faults e t1)) (λ e. Faults e t)
        (λ v z is. ap (λ r. faulted r (λ e t1. Faults e t1)) (last_same R Q v z t is))
    ends_same (Refused at view agent) R Q C t =
        over_same t (d.on R) (λ v z. faultless (final_writes f d.validators d.mark.span z.done Q t) (λ ws t1. Faults (fault_at AgentFailed d.mark.span) (with_tx (run_of d v z) t1)))
        (λ v z. faultless (final_writes g d.validators d.mark.span z.done Q t) (λ ws t1. Faults (fault_at AgentFailed d.mark.span) (with_tx (run_of d v z) t1))) (λ e. Invalid)
        (λ v z is. ap (λ r. faultless r (λ ws t1. Faults (fault_at AgentFailed d.mark.span) (with_tx (run_of d v z) t1))) (last_same R Q v z t is))
    ends_same (Read c) R Q C t = refl
    ends_same (Retry since c b) R Q C t = refl
    ends_same (Sent a) R Q C t = refl
    ends_same (SendRefused c) R Q C t = refl
    ends_same (Acted c n new sends) R Q C t = refl
    ends_same (Swapped new) R Q C t = refl
    ends_same (Broke at) R Q C t = refl

    eats_same : (k : ℕ) (es : List SeenEvent) (t : ThreadState) → eats_tx k d f es t ≡ eats_tx k d g es t
    eats_same zero es t = refl
    eats_same (suc k) [] t = refl
    eats_same (suc k) (e ∷ es) t =
        (λ i. if e.book == 0 then (if is_retry e.kind then again d e.kind e.R (record t { todo = e ∷ es }) (eats_same k es t i) else uneaten (e ∷ es) (ends_same e.kind e.R e.Q e.C (record t { todo = es }) i)) else Invalid)

-- ---- trees

module _ (cells : List CellDefinition) (functions : List function.Function) (n : ℕ) (sound : SoundFunctions [] (functions_of functions)) (known_cells : SoundCells (known (functions_of functions)) cells) where
  abbrev at : ℕ → Setting
  at b = record { cells = cells; functions = functions; depth = b; turns = n; world = None }

  abbrev around : Surroundings
  around = around_it (at 0)

  abbrev fs : List PlainFunction
  fs = functions_of functions

  abbrev ks : List Known
  ks = known fs

  abbrev low_calls : ℕ → Bool → ℕ → List Value → ThreadState → Completion ThreadState Value
  low_calls b = call_at (on_events around) n fs b

  abbrev deep_forms : ℕ → Effects ThreadState
  deep_forms b = deeply around (on_events around b)

  abbrev deep_calls : ℕ → Bool → ℕ → List Value → ThreadState → Completion ThreadState Value
  deep_calls b = call_at deep_forms n fs b

  -- how many functions are pure
  abbrev pure_ones : ℕ
  pure_ones = pures ks (length fs)

  -- a pure callee, where there are as many calls left as pure functions
  abbrev still : Span → Applies (Unit {0})
  still span = quietly n fs (length fs) span

  still_at : (b : ℕ) → pure_ones ≤ b → b ≤ length fs → (span : Span) (c : Callee) (vs : List Value) → IsPure ks c → quietly n fs b span c vs tt ≡ still span c vs tt
  still_at b enough le span (CoreOp op) vs pure = refl
  still_at b enough le span (Function f) vs pure = go (nth ks f) refl pure
    where
      go : (o : Option Known) → nth ks f ≡ o → is_pure o ≡ true → quietly n fs b span (Function f) vs tt ≡ still span (Function f) vs tt
      go None found is = absurd (false≢true is)
      go (Some k) found is =
          let here = there fs f k found in
          let pure1 : is_pure (nth ks f) ≡ true = ap is_pure found ∙ is in
          let before = pure_before ks f (length fs) (nth_below fs f here.0 here.1) pure1 in
          agrees_same (quietly n fs b span (Function f) vs tt) (still span (Function f) vs tt) (shallow n fs sound b (length fs) f vs (omega (arith, before, enough)) le pure1)

  low_carried : (b : ℕ) → pure_ones ≤ b → b ≤ length fs → (inside : Bool) (span : Span) (t : ThreadState) (c : Callee) (vs : List Value) → IsPure ks c
      → (apply (low_calls b inside) span c vs t ≡ carried t (still span c vs tt)) × IsQuiet (still span c vs tt)
  low_carried b enough le inside span t c vs pure =
      let one = callee_carried (on_events around) n inside fs sound b span c vs t pure in
      let same = still_at b enough le span c vs pure in (one.0 ∙ ap (carried t) same, subst IsQuiet same one.1)

  deep_carried : (span : Span) (t : ThreadState) (c : Callee) (vs : List Value) → IsPure ks c → (wholly around span c vs t ≡ carried t (still span c vs tt)) × IsQuiet (still span c vs tt)
  deep_carried span t c vs pure = (in_carried t (still span c vs tt), (callee_carried (λ b. no_effects) n false fs sound (length fs) span c vs tt pure).1)

  -- pure calls are the same at any depth
  pure_same : (b f : ℕ) (vs : List Value) (t : ThreadState) → is_pure (nth ks f) ≡ true → low_calls b false f vs t ≡ deep_calls b false f vs t
  pure_same b f vs t pure =
      let span : Span = record { from = 0; to = 0 } in
      (callee_carried (on_events around) n false fs sound b span (Function f) vs t pure).0 ∙ sym (callee_carried deep_forms n false fs sound b span (Function f) vs t pure).0

  -- where calls go so deep, and the first functions may be called
  module _ (b p : ℕ) (enough : pure_ones + others ks p ≤ b) (le : b ≤ length fs) (before : p ≤ b) (calls : (i k : ℕ) → SoundCall (take p ks) in_thread i k → (vs : List Value) (t : ThreadState) → low_calls b false i vs t ≡ deep_calls b false i vs t) where
    enough_pure : pure_ones ≤ b
    enough_pure = omega (arith, enough)

    callee_is_pure : (c : Callee) (m : ℕ) → SoundCallee (take p ks) c m → IsPure ks c
    callee_is_pure (CoreOp op) m h = tt
    callee_is_pure (Function f) m h = ap is_pure (nth-take p ks f h.function h.found).1 ∙ h.pure

    -- a dosync
    dosync_same : (m : Mark) (body : Tree) (env : List Value) (l : ℕ) (t : ThreadState) (run other : ThreadState → Completion ThreadState Value) → SoundTree (take p ks) in_dosync l None body
        → (on_events around b).dosync false m body env run (apply (low_calls b true) m.span) t ≡ (on_events around b).dosync false m body env other (wholly around m.span) t
    dosync_same m body env l t run other h =
        let d : Transacting = record { mark = m; body = body; locals = env; on = tx_meaning n fs b body env; lacking = λ j. tx_meaning_lacking n fs b body env (Some j); validators = validators_of cells } in
        let wide : SoundTree (callable (at b)) in_dosync l None body = tree-widened (take p ks) (take b ks) (λ f k found. let low = nth-take p ks f k found in nth-before b ks f k (omega (arith, low.0, before)) low.1) body in_dosync l None h in
        let pure : (R : World) (v : Value) (z : TxState) → d.on R ≡ Completes v z → AllCommutes (IsPure ks) z.done.commutes = λ R v z is.
        let first = eval (in_transaction R) (call_at (λ e. in_transaction R) n fs b) n true body env tx_start in
        commutes_pure b ks z.done.commutes (keeps_sound_on (at b) R sound body l env tx_start z v wide tt (opened first v z is)) in
        eats_same ks (still m.span) (apply (low_calls b true) m.span) (wholly around m.span) (low_carried b enough_pure le true m.span) (deep_carried m.span) around known_cells d refl pure around.tries t.todo t

    put_there : (form : PutForm) (m : Mark) (v w : Value) (t : ThreadState) → (on_events around b).put form false m v w (apply (low_calls b false) m.span) t ≡ (on_events around b).put form false m v w (wholly around m.span) t
    put_there form m v w t =
        (λ i. outside_form (form_of.Put form)
        (on_cell (form_of.Put form) false m.span v
        (λ c t1. put_same ks (still m.span) (apply (low_calls b false) m.span) (wholly around m.span) (low_carried b enough_pure le false m.span) (deep_carried m.span) around known_cells form m.span c w t1 i) t))

    update_there : (form : UpdateForm) (m : Mark) (v : Value) (callee : Callee) (vs : List Value) (t : ThreadState) → IsPure ks callee
        → (on_events around b).update form false m v callee vs (apply (low_calls b false) m.span) t ≡ (on_events around b).update form false m v callee vs (wholly around m.span) t
    update_there form m v callee vs t pure =
        (λ i. outside_form (form_of.Update form)
        (on_cell (form_of.Update form) false m.span v
        (λ c t1. update_same ks (still m.span) (apply (low_calls b false) m.span) (wholly around m.span) (low_carried b enough_pure le false m.span) (deep_carried m.span) around known_cells form m.span c callee vs t1 pure i) t))

    abbrev low : Tree → List Value → ThreadState → Completion ThreadState Value
    low e env s = eval (on_events around b) (low_calls b) n false e env s

    abbrev deep : Tree → List Value → ThreadState → Completion ThreadState Value
    deep e env s = eval (deep_forms b) (deep_calls b) n false e env s

    abbrev low_all : Trees → List Value → ThreadState → Completion ThreadState (List Value)
    low_all es env s = eval_all (on_events around b) (low_calls b) n false es env s

    abbrev deep_all : Trees → List Value → ThreadState → Completion ThreadState (List Value)
    deep_all es env s = eval_all (deep_forms b) (deep_calls b) n false es env s

    abbrev low_let : Trees → List Value → ThreadState → Completion ThreadState (List Value)
    low_let es env s = eval_let (on_events around b) (low_calls b) n false es env s

    abbrev deep_let : Trees → List Value → ThreadState → Completion ThreadState (List Value)
    deep_let es env s = eval_let (deep_forms b) (deep_calls b) n false es env s

    abbrev low_do : Trees → List Value → ThreadState → Completion ThreadState Value
    low_do es env s = eval_do (on_events around b) (low_calls b) n false es env s

    abbrev deep_do : Trees → List Value → ThreadState → Completion ThreadState Value
    deep_do es env s = eval_do (deep_forms b) (deep_calls b) n false es env s

    mutual
      tree_same : (e : Tree) (l : ℕ) (tail : Option ℕ) (env : List Value) (s : ThreadState) → SoundTree (take p ks) in_thread l tail e → low e env s ≡ deep e env s
      tree_same (Const v m) l tail env s h = refl
      tree_same (Local i m) l tail env s h = refl
      tree_same (If c a e m) l tail env s h = (λ i. bind (tree_same c l None env s h.0 i) (λ v t. choose v (tree_same a l tail env t h.1 i) (tree_same e l tail env t h.2 i)))
      tree_same (Do items m) l tail env s h = do_same items l tail env s h
      tree_same (Let values body m) l tail env s h = (λ i. bind (let_same values l env s h.0 i) (λ vs t. tree_same body (l + count values) tail (env ++ vs) t h.1 i))
      tree_same (Loop values body m) l tail env s h =
          (λ i. bind (let_same values l env s h.0 i) (λ vs t. turns n (count values) (λ ws u. tree_same body (l + count values) (Some (count values)) (env ++ ws) u h.1 i) vs t))
      tree_same (Recur values m) l tail env s h = (λ i. bind (all_same values l env s h.1 i) (λ vs t. Recurs vs t))
      tree_same (Core op args m) l tail env s h = (λ i. bind (all_same args l env s h.1 i) (λ vs t. result_of (core op vs) m.span t))
      tree_same (Call f args m) l tail env s h = (λ i. bind (all_same args l env s h.1 i) (λ vs t. calls f (count args) h.0 vs t i))
      tree_same (VectorOf items m) l tail env s h = (λ i. bind (all_same items l env s h.1 i) (λ vs t. result_of (vector_of vs) m.span t))
      tree_same (Println args m) l tail env s h = (λ i. bind (all_same args l env s h.2 i) (λ vs t. (on_events around b).print false vs t))
      tree_same (Dosync body m) l tail env s h = dosync_same m body env l s (λ t. closed (eval (on_events around b) (low_calls b) n true body env t)) (λ t. closed (eval (deep_forms b) (deep_calls b) n true body env t)) h
      tree_same (Look form cell m) l tail env s h = (λ i. bind (tree_same cell l None env s h.1 i) (λ v t. (on_events around b).look form false m v t))
      tree_same (Put form cell value m) l tail env s h =
          (λ i. bind (tree_same cell l None env s h.1 i) (λ v t. bind (tree_same value l None env t h.2 i) (λ w u. put_there form m v w u i)))
      tree_same (Update form cell callee args m) l tail env s h =
          let pure = callee_is_pure callee (suc (count args)) h.2 in
          (λ i. bind (tree_same cell l None env s h.1 i) (λ v t. bind (all_same args l env t h.3 i) (λ vs u. update_there form m v callee vs u pure i)))
      tree_same (Send cell callee args m) l tail env s h =
          (λ i. bind (tree_same cell l None env s h.0 i) (λ v t. bind (all_same args l env t h.2 i) (λ vs u. (on_events around b).send false m v callee vs u)))

      all_same : (es : Trees) (l : ℕ) (env : List Value) (s : ThreadState) → SoundAll (take p ks) in_thread l es → low_all es env s ≡ deep_all es env s
      all_same none l env s h = refl
      all_same (more e rest) l env s h = (λ i. bind (tree_same e l None env s h.0 i) (λ v t. bind (all_same rest l env t h.1 i) (λ vs u. Completes (v ∷ vs) u)))

      let_same : (es : Trees) (l : ℕ) (env : List Value) (s : ThreadState) → SoundLet (take p ks) in_thread l es → low_let es env s ≡ deep_let es env s
      let_same none l env s h = refl
      let_same (more e rest) l env s h = (λ i. bind (tree_same e l None env s h.0 i) (λ v t. bind (let_same rest (l + 1) (env ++ v ∷ []) t h.1 i) (λ vs u. Completes (v ∷ vs) u)))

      do_same : (es : Trees) (l : ℕ) (tail : Option ℕ) (env : List Value) (s : ThreadState) → SoundDo (take p ks) in_thread l tail es → low_do es env s ≡ deep_do es env s
      do_same none l tail env s h = absurd h
      do_same (more e none) l tail env s h = tree_same e l tail env s h
      do_same (more e (more a rest)) l tail env s h = (λ i. bind (tree_same e l None env s h.0 i) (λ v t. do_same (more a rest) l tail env t h.1 i))

  -- ---- functions

  -- another function than a pure one before this one counts there
  one_less : (p f : ℕ) (k : Known) → f < p → nth ks f ≡ Some k → k.pure ≡ false → others ks f < others ks p
  one_less p f k l e pure = other_before ks f p l (known_there ks f k e) (ap is_pure e ∙ pure)

  calls_same : (b p : ℕ) → pure_ones + others ks p ≤ b → b ≤ length fs → (i k : ℕ) → SoundCall (take p ks) in_thread i k → (vs : List Value) (t : ThreadState) → low_calls b false i vs t ≡ deep_calls b false i vs t
  calls_same zero p enough le i k h vs t = refl
  calls_same (suc b) p enough le i k h vs t = by h.function.pure refl (λ q suffices j m. calls_same b q suffices (omega (arith, le)) j m)
    where
      found : (i < p) × (nth ks i ≡ Some h.function)
      found = nth-take p ks i h.function h.found

      -- the function's body
      body_same : (fun : PlainFunction) → nth fs i ≡ Some fun → pure_ones + others ks i ≤ b → i ≤ b → ((j m : ℕ) → SoundCall (take i ks) in_thread j m → (us : List Value) (u : ThreadState) → low_calls b false j us u ≡ deep_calls b false j us u) → (ws : List Value) (u : ThreadState)
          → eval (on_events around b) (low_calls b) n false fun.body ws u ≡ eval (deep_forms b) (deep_calls b) n false fun.body ws u
      body_same fun is suffices before below ws u =
          let at_place = function_at fs i fun sound is in
          let known_is : h.function ≡ known_of (take i ks) fun = same_some h.function (known_of (take i ks) fun) (sym found.1 ∙ at_place.0) in
          let stands : SoundTree (take i ks) in_thread fun.parameters (Some fun.parameters) fun.body = tree-outside (take i ks) fun.body fun.parameters (Some fun.parameters) at_place.1.1 (sym (ap (λ l. l.inside) known_is) ∙ h.zoned) in
          tree_same b i suffices (omega (arith, le)) before below fun.body fun.parameters (Some fun.parameters) ws u stands

      by : (pure : Bool) → h.function.pure ≡ pure → ((q : ℕ) → pure_ones + others ks q ≤ b → (j m : ℕ) → SoundCall (take q ks) in_thread j m → (us : List Value) (u : ThreadState) → low_calls b false j us u ≡ deep_calls b false j us u) → low_calls (suc b) false i vs t ≡ deep_calls (suc b) false i vs t
      by true is below = pure_same (suc b) i vs t (ap is_pure found.1 ∙ is)
      by false is below =
          let less = one_less p i h.function found.0 found.1 is in
          let enough_left : pure_ones + others ks i ≤ b = omega (arith, enough, less) in
          let fun = there fs i h.function found.1 in
          let below_all = nth_below fs i fun.0 fun.1 in
          let before : i ≤ b = omega (arith, index_counts ks i (length fs) h.function found.1 (omega (arith, below_all)), enough_left) in
          subst (λ o. bind (give o t) (λ g t1. turns (suc n) g.parameters (λ ws u. eval (on_events around b) (low_calls b) n false g.body ws u) vs t1) ≡ bind (give o t) (λ g t1. turns (suc n) g.parameters (λ ws u. eval (deep_forms b) (deep_calls b) n false g.body ws u) vs t1)) (sym fun.1)
          (λ j. turns (suc n) fun.0.parameters (λ ws u. body_same fun.0 fun.1 enough_left before (below i enough_left) ws u j) vs t)

  -- a thread's body
  pub thread_same : (main : Tree) → SoundTree ks in_thread 0 None main → (s : ThreadState)
      → closed (eval (on_events around (length fs)) (low_calls (length fs)) n false main [] s) ≡ closed (eval (deep_forms (length fs)) (deep_calls (length fs)) n false main [] s)
  thread_same main h s =
      let all = length fs in
      let both = both_kinds ks all in
      let enough : pure_ones + others ks all ≤ all = omega (arith, both) in
      let wide : SoundTree (take all ks) in_thread 0 None main = tree-widened ks (take all ks) (λ f k found. nth-before all ks f k (omega (arith, length-known fs, nth-length ks f k found)) found) main in_thread 0 None h in
      ap closed (tree_same all all enough (omega arith) (omega arith) (calls_same all all enough (omega arith)) main 0 None [] s wide)

  -- a function that is called outside every transaction
  pub call_same : (i k : ℕ) → SoundCall ks in_thread i k → (vs : List Value) (t : ThreadState) → low_calls (length fs) false i vs t ≡ deep_calls (length fs) false i vs t
  call_same i k h vs t =
      let all = length fs in
      let both = both_kinds ks all in
      let enough : pure_ones + others ks all ≤ all = omega (arith, both) in
      let here : nth (take all ks) i ≡ Some h.function = nth-before all ks i h.function (omega (arith, length-known fs, nth-length ks i h.function h.found)) h.found in
      calls_same all all enough (omega arith) i k (record {
        function = h.function;
        found = here;
        arity = h.arity;
        zoned = h.zoned;
      }) vs t
