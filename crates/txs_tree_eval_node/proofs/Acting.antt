-- What the evaluator's parts give is what the meaning says: forms on cells, and the ends of transactions.
use Rattle.std.proofs.Common.{◌≡◌, ℕ, zero, suc, ◌+◌, ◌<◌, ◌==◌, Bool, true, false, if◌then◌else◌, List, [], ◌∷◌, ◌++◌, length, get_or, drop, Some, None, Result, Err, refl, sym, ap, ◌∙◌, subst, arith, Option}
use Rattle.std.proofs.lemmas.List.{drop_more}
use Rattle.txs_world_protocol.specs.Ask.{Writes, buffered, with_write}
use Rattle.txs_frame.specs.Frame.{PlainTxFrame, commuted, set_writes, commutes_of, by_ref, phase_work}
use Rattle.txs_frame.specs.declared.frame.Commute.{Commute}
use Rattle.txs_tree_eval_node.specs.Evaluated.{part, has_all, Yields, SoundCommutes, acts, applied, act_means, inside_means, outside_means, quiet, at_end, accept_means, accepted_means, made_means, redone_means, final_means, thread_state}
use Rattle.txs_tree_eval_transaction.specs.Worked.{Stops, Gives, Told, ToldOf, tx_state}
use Rattle.txs_tree_meaning.specs.Known.{Known}
use Rattle.txs_tree_meaning.specs.Meaning.{Completion, Completes, Faults, bind, Applies}
use Rattle.txs_tree_eval_node.specs.Setting.{Setting, callable, deepest}
use Rattle.txs_tree_meaning.specs.Sound.{SoundCallee, SoundCells, SoundFunctions}
use Rattle.txs_tree_meaning.specs.Thread.{ThreadState}
use Rattle.txs_tree_meaning.specs.Transaction.{value_or, valued, merged, redone, commute_writes, judged, validated, accepted, if_accepted, final_writes}
use Rattle.txs_tree_meaning.specs.Tree.{Mark}
use Rattle.txs_value_cell.specs.Cells.{World, validators_of, validator_at}
use Rattle.txs_tree_meaning.specs.View.{functions_of}
use Rattle.txs_tree_eval_transaction.specs.Views.{PlainView, PlainTxView, is_whole, or_nil, world_of}
use Rattle.txs_tree_eval_node.specs.declared.shape.Act.{Act}
use Rattle.txs_tree_eval_node.specs.declared.state.State.{State}
use Rattle.txs_tree_eval_transaction.specs.declared.stop.ThreadStop.{ThreadStop}
use Rattle.txs_tree_eval_transaction.specs.declared.stop.ThreadStop.TheVariants.{Memory}
use Rattle.txs_value_data.specs.Places.{fault_at}
use Rattle.txs_value_data.specs.declared.fault.FaultKind.TheVariants.{InvalidState}
use Rattle.txs_value_data.specs.declared.fault.Span.{Span}
use Rattle.txs_value_data.specs.declared.op.Callee.{Callee}
use Rattle.txs_value_data.specs.declared.value.CellId.{CellId}
use Rattle.txs_value_data.specs.declared.value.Value.{Value}
use Rattle.txs_value_apply.specs.Core.{is_false}
use Rattle.txs_value_data.specs.declared.value.Value.TheVariants.{Nil, Truth, Int, Key, Text, Vector, Cell}
use Rattle.txs_tree_eval_node.proofs.Applying.{whole_agrees, accepted_agrees}
use Rattle.txs_tree_eval_node.proofs.Called.{callee_deepest}
use Rattle.txs_tree_eval_node.proofs.Evaluation.{bind-bind, stops_bind}
use Rattle.txs_tree_meaning.proofs.PureLaw.{Agrees, bind_agrees}

-- ---- in a transaction or outside

module _ (x : Setting) (act : Act) (m : Mark) (v : Value) (vs : List Value) (r : Result Value ThreadStop) (st st1 : State) where
  pub acted_inside : (w : PlainTxView) → x.world ≡ Some w → Gives (is_whole w.gone) r (tx_state st1.tx) (inside_means x w act m v vs (tx_state st.tx)) → Yields x r st1 (act_means x act m v vs st)
  acted_inside w is h = subst (λ o. Gives (has_all o) r (part o st1) (acts o x act m v vs (part o st))) (sym is) h

  pub acted_outside : x.world ≡ None → Gives false r (thread_state st1.thread) (outside_means x act m v vs (thread_state st.thread)) → Yields x r st1 (act_means x act m v vs st)
  acted_outside is h = subst (λ o. Gives (has_all o) r (part o st1) (acts o x act m v vs (part o st))) (sym is) h

-- ---- commutes again

pub redone-append : {S : Type 0} (f : Applies S) (cs ds : List Commute) (ws : Writes) (s : S) → redone f (cs ++ ds) ws s ≡ bind (redone f cs ws s) (λ us t. redone f ds us t)
redone-append f [] ds ws s = refl
redone-append f (c ∷ cs) ds ws s =
    let step : Value → _ → Completion _ Writes = λ v t. redone f cs (with_write ws c.cell v) t in
    (λ i. bind (f c.callee (value_or (buffered ws c.cell.number) Nil ∷ c.args) s) (λ v t. redone-append f cs ds (with_write ws c.cell v) t i))
    ∙ sym (bind-bind (f c.callee (value_or (buffered ws c.cell.number) Nil ∷ c.args) s) step (λ us t. redone f ds us t))

module _ (ks : List Known) where
  sound_append : (cs ds : List Commute) → SoundCommutes ks cs → SoundCommutes ks ds → SoundCommutes ks (cs ++ ds)
  sound_append [] ds h g = g
  sound_append (c ∷ cs) ds h g = (h.0, sound_append cs ds h.1 g)

  sound_if : (b : Bool) (c : Commute) (cs : List Commute) → SoundCallee ks c.callee (suc (length c.args)) → SoundCommutes ks cs → SoundCommutes ks (if b then c ∷ cs else cs)
  sound_if true c cs h g = (h, g)
  sound_if false c cs h g = g

  sound_of : (k : ℕ) (cs : List Commute) → SoundCommutes ks cs → SoundCommutes ks (commutes_of k cs)
  sound_of k [] h = h
  sound_of k (c ∷ cs) h = sound_if (c.cell.number == k) c (commutes_of k cs) h.0 (sound_of k cs h.1)

  sound_by : (ds : List CellId) (cs : List Commute) → SoundCommutes ks cs → SoundCommutes ks (by_ref ds cs)
  sound_by [] cs h = tt
  sound_by (d ∷ ds) cs h = sound_append (commutes_of d.number cs) (by_ref ds cs) (sound_of d.number cs h) (sound_by ds cs h)

  pub sound_at : (cs : List Commute) (i : ℕ) (c : Commute) → SoundCommutes ks cs → i < length cs → c ≡ get_or cs i c → SoundCallee ks c.callee (suc (length c.args))
  sound_at [] i c h lt is = absurd (omega (arith, lt))
  sound_at (d ∷ ds) zero c h lt is = subst (λ e. SoundCallee ks e.callee (suc (length e.args))) (sym is) h.0
  sound_at (d ∷ ds) (suc i) c h lt is = sound_at ds i c h.1 (omega (arith, lt)) is

-- commutes and validators may be applied where calls may go as deep as there are functions
pub commutes_deepest : (x : Setting) (cs : List Commute) → SoundCommutes (callable x) cs → SoundCommutes (callable (deepest x)) cs
commutes_deepest x [] h = tt
commutes_deepest x (c ∷ cs) h = (callee_deepest x c.callee (suc (length c.args)) h.0, commutes_deepest x cs h.1)

-- the final writes, as the thread makes them
module _ (t : ThreadState) (x : Setting) (sound : SoundFunctions [] (functions_of x.functions)) (cells : SoundCells (callable (deepest x)) x.cells) (span : Span) where
  abbrev pub real : Applies ThreadState
  real = at_end x span

  abbrev pub still : Applies (Unit {0})
  still = quiet (deepest x) span

  redone_agrees : (cs : List Commute) (ws : Writes) → SoundCommutes (callable (deepest x)) cs → Agrees t (redone still cs ws tt) (redone real cs ws t)
  redone_agrees [] ws h = refl
  redone_agrees (c ∷ cs) ws h =
      let vs = value_or (buffered ws c.cell.number) Nil ∷ c.args in
      bind_agrees t (still c.callee vs tt) (real c.callee vs t) (λ v u. redone still cs (with_write ws c.cell v) u) (λ v u. redone real cs (with_write ws c.cell v) u)
      (whole_agrees x sound span c.callee (suc (length c.args)) vs t h.0) (λ v. redone_agrees cs (with_write ws c.cell v) h.1)

  each_accepted : (ws : Writes) → Agrees t (if_accepted still (validators_of x.cells) span ws tt) (if_accepted real (validators_of x.cells) span ws t)
  each_accepted ws =
      bind_agrees t (accepted still (validators_of x.cells) span ws tt) (accepted real (validators_of x.cells) span ws t) (λ o u. Completes ws u) (λ o u. Completes ws u)
      (accepted_agrees (callable (deepest x)) still real (λ c k vs s h. whole_agrees x sound span c k vs s h) x.cells cells span ws t) (λ o. refl)

  pub finals_agree_on : (w : PlainTxFrame) (C : World) → SoundCommutes (callable (deepest x)) w.commutes → Agrees t (final_writes still (validators_of x.cells) span w C tt) (final_writes real (validators_of x.cells) span w C t)
  finals_agree_on w C h =
      bind_agrees t (commute_writes still w C tt) (commute_writes real w C t) (λ ws u. if_accepted still (validators_of x.cells) span (merged (set_writes w) ws) u) (λ ws u. if_accepted real (validators_of x.cells) span (merged (set_writes w) ws) u)
      (redone_agrees (phase_work w) (valued (commuted w) C) (sound_by (callable (deepest x)) (commuted w) w.commutes h)) (λ ws. each_accepted (merged (set_writes w) ws))

  pub finals_agree : (w : PlainTxFrame) (r : PlainView) → SoundCommutes (callable (deepest x)) w.commutes → Agrees t (final_means (deepest x) w r span) (final_writes real (validators_of x.cells) span w (world_of r) t)
  finals_agree w r h = finals_agree_on w (world_of r) h

-- one commute more
module _ (x : Setting) (span : Span) (cs : List Commute) (i : ℕ) (c : Commute) (lt : i < length cs) (is : c ≡ get_or cs i c) (ws : Writes) where
  redone_next : redone_means x span (drop i cs) ws ≡ bind (redone_means x span (c ∷ []) ws) (λ us t. redone (quiet x span) (drop (i + 1) cs) us t)
  redone_next =
      ap (λ l. redone_means x span l ws) (drop_more cs i c lt ∙ ap (λ d. d ∷ drop (i + 1) cs) (sym is))
      ∙ redone-append (quiet x span) (c ∷ []) (drop (i + 1) cs) ws tt

  pub redone_stop : (y : ThreadStop) → Told {A = Writes} (Err y) (redone_means x span (c ∷ []) ws) → Told {A = Writes} (Err y) (redone_means x span (drop i cs) ws)
  redone_stop y h =
      subst (λ d. Told {A = Writes} (Err y) d) (sym redone_next) (stops_bind true y tt (redone_means x span (c ∷ []) ws) (λ us t. redone (quiet x span) (drop (i + 1) cs) us t) h)

  pub redone_more : (us : Writes) → redone_means x span (c ∷ []) ws ≡ Completes us tt → redone_means x span (drop i cs) ws ≡ redone_means x span (drop (i + 1) cs) us
  redone_more us h = redone_next ∙ ap (λ d. bind d (λ vs t. redone (quiet x span) (drop (i + 1) cs) vs t)) h

nil_same : (o : Option Value) → or_nil o ≡ value_or o Nil
nil_same None = refl
nil_same (Some v) = refl

-- one commute, whose callee stops or gives this
module _ (x : Setting) (span : Span) (c : Commute) (ws : Writes) where
  abbrev begun_with : Value
  begun_with = value_or (buffered ws c.cell.number) Nil

  pub redone_unmade : (v : Value) (y : ThreadStop) → v ≡ or_nil (buffered ws c.cell.number) → Told {A = Value} (Err y) (applied x c.callee (v ∷ c.args) span) → Told {A = Writes} (Err y) (redone_means x span (c ∷ []) ws)
  redone_unmade v y is h =
      stops_bind true y tt (applied x c.callee (begun_with ∷ c.args) span) (λ w t. Completes (with_write ws c.cell w) t) (subst (λ u. Told {A = Value} (Err y) (applied x c.callee (u ∷ c.args) span)) (is ∙ nil_same (buffered ws c.cell.number)) h)

  pub redone_made : (v w : Value) (now : Writes) → v ≡ or_nil (buffered ws c.cell.number) → applied x c.callee (v ∷ c.args) span ≡ Completes w tt → now ≡ with_write ws c.cell w → redone_means x span (c ∷ []) ws ≡ Completes now tt
  redone_made v w now is made put =
      ap (λ d. bind d (λ u t. Completes (with_write ws c.cell u) t)) (ap (λ u. applied x c.callee (u ∷ c.args) span) (sym (is ∙ nil_same (buffered ws c.cell.number))) ∙ made) ∙ ap (λ us. Completes us tt) (sym put)

-- the commutes of the phase are among all
pub phase_sound : (ks : List Known) (w : PlainTxFrame) (cs : List Commute) → cs ≡ phase_work w → SoundCommutes ks w.commutes → SoundCommutes ks cs
phase_sound ks w cs are h = subst (λ l. SoundCommutes ks l) (sym are) (sound_by ks (commuted w) w.commutes h)

-- the whole phase, and then the writes
module _ (x : Setting) (span : Span) (w : PlainTxFrame) (r : PlainView) (first : Writes) (begin : first ≡ valued (commuted w) (world_of r)) where
  abbrev phase : Completion (Unit {0}) Writes
  phase = redone_means x span (phase_work w) first

  -- all writes, where each is accepted
  abbrev checked : Writes → Completion (Unit {0}) Writes
  checked ws = if_accepted (quiet x span) (validators_of x.cells) span (merged (set_writes w) ws) tt

  finals_are : final_means x w r span ≡ bind phase (λ ws t. if_accepted (quiet x span) (validators_of x.cells) span (merged (set_writes w) ws) t)
  finals_are = ap (λ us. bind (redone_means x span (phase_work w) us) (λ ws t. if_accepted (quiet x span) (validators_of x.cells) span (merged (set_writes w) ws) t)) (sym begin)

  pub finals_stop : (y : ThreadStop) → Told {A = Writes} (Err y) phase → Told {A = Writes} (Err y) (final_means x w r span)
  finals_stop y h =
      subst (λ c. Told {A = Writes} (Err y) c) (sym finals_are) (stops_bind true y tt phase (λ ws t. if_accepted (quiet x span) (validators_of x.cells) span (merged (set_writes w) ws) t) h)

  module _ (ws : Writes) (done : phase ≡ Completes ws tt) where
    finals_from : final_means x w r span ≡ checked ws
    finals_from = finals_are ∙ ap (λ c. bind c (λ us t. if_accepted (quiet x span) (validators_of x.cells) span (merged (set_writes w) us) t)) done

    -- there was no memory for all writes
    pub finals_full : (y : ThreadStop) → y ≡ Memory → Told {A = Writes} (Err y) (final_means x w r span)
    finals_full y is = subst (λ z. Stops true z tt (final_means x w r span)) (sym is) tt

    -- some write isn't accepted
    pub finals_refused : (last : Writes) → last ≡ merged (set_writes w) ws → (y : ThreadStop) → Told {A = Unit {0}} (Err y) (accepted_means x span last) → Told {A = Writes} (Err y) (final_means x w r span)
    finals_refused last is y h =
        subst (λ c. Told {A = Writes} (Err y) c) (sym finals_from)
        (stops_bind true y tt (accepted_means x span (merged (set_writes w) ws)) (λ o t. Completes (merged (set_writes w) ws) t) (subst (λ l. Told {A = Unit {0}} (Err y) (accepted_means x span l)) is h))

    -- each is
    pub finals_done : (last : Writes) → last ≡ merged (set_writes w) ws → accepted_means x span last ≡ Completes tt tt → final_means x w r span ≡ Completes last tt
    finals_done last is h =
        finals_from ∙ ap (λ c. bind c (λ o t. Completes (merged (set_writes w) ws) t)) (ap (λ l. accepted_means x span l) (sym is) ∙ h) ∙ ap (λ l. Completes l tt) (sym is)

-- ---- validators

-- a value that is refused, or not
abbrev pub judged_if : Bool → Span → Value → Completion (Unit {0}) Value
judged_if true span v = Faults (fault_at InvalidState span) tt
judged_if false span v = Completes v tt

-- what a validator's answer makes of a value
pub judged_as : (answer : Value) (span : Span) (v : Value) → judged answer span v tt ≡ judged_if (is_false answer) span v
judged_as Nil span v = refl
judged_as (Truth true) span v = refl
judged_as (Truth false) span v = refl
judged_as (Int z) span v = refl
judged_as (Key bs) span v = refl
judged_as (Text bs) span v = refl
judged_as (Vector vs) span v = refl
judged_as (Cell c) span v = refl

-- the validator's answer
module _ (x : Setting) (c : CellId) (span : Span) (v : Value) where
  abbrev asked : Option Callee → Completion (Unit {0}) Value
  asked o = validated (quiet x span) o span v tt

  module _ (o : Option Callee) (is : o ≡ validator_at (validators_of x.cells) c.number) (f : Callee) (some : o ≡ Some f) where
    accept_by : accept_means x c span v ≡ bind (applied x f (v ∷ []) span) (λ answer u. judged answer span v u)
    accept_by = ap asked (sym is ∙ some)

    -- it gives no answer
    pub accept_stop : (y : ThreadStop) → Told {A = Value} (Err y) (applied x f (v ∷ []) span) → Told {A = Value} (Err y) (accept_means x c span v)
    accept_stop y h = subst (λ d. Told {A = Value} (Err y) d) (sym accept_by) (stops_bind true y tt (applied x f (v ∷ []) span) (λ answer u. judged answer span v u) h)

    -- it gives this one
    pub accept_answer : (answer : Value) → applied x f (v ∷ []) span ≡ Completes answer tt → {V : Type 0} (g : V → Value) (r : Result V ThreadStop) → ToldOf g r (judged answer span v tt) → ToldOf g r (accept_means x c span v)
    accept_answer answer h g r told = subst (λ d. ToldOf g r d) (sym (accept_by ∙ ap (λ d. bind d (λ a u. judged a span v u)) h)) told

-- one write more
module _ (x : Setting) (span : Span) (ws : Writes) (i : ℕ) (w : CellId × Value) (lt : i < length ws) (is : w ≡ get_or ws i w) where
  accepted_next : accepted_means x span (drop i ws) ≡ bind (accept_means x w.0 span w.1) (λ v u. accepted (quiet x span) (validators_of x.cells) span (drop (i + 1) ws) u)
  accepted_next = ap (λ l. accepted_means x span l) (drop_more ws i w lt ∙ ap (λ d. d ∷ drop (i + 1) ws) (sym is))

  pub accepted_stop : (y : ThreadStop) → Told {A = Value} (Err y) (accept_means x w.0 span w.1) → Told {A = Unit {0}} (Err y) (accepted_means x span (drop i ws))
  accepted_stop y h =
      subst (λ d. Told {A = Unit {0}} (Err y) d) (sym accepted_next) (stops_bind true y tt (accept_means x w.0 span w.1) (λ v u. accepted (quiet x span) (validators_of x.cells) span (drop (i + 1) ws) u) h)

  pub accepted_more : (v : Value) → accept_means x w.0 span w.1 ≡ Completes v tt → accepted_means x span (drop i ws) ≡ accepted_means x span (drop (i + 1) ws)
  accepted_more v h = accepted_next ∙ ap (λ d. bind d (λ a u. accepted (quiet x span) (validators_of x.cells) span (drop (i + 1) ws) u)) h

-- what a callee makes, where the cell's validator accepts it
module _ (x : Setting) (callee : Callee) (c : CellId) (vs : List Value) (span : Span) where
  pub made_stop : (y : ThreadStop) → Told {A = Value} (Err y) (applied x callee vs span) → Told {A = Value} (Err y) (made_means x callee c vs span)
  made_stop y h = stops_bind true y tt (applied x callee vs span) (λ v u. accept_means x c span v) h

  pub made_then : (v : Value) → applied x callee vs span ≡ Completes v tt → {V : Type 0} (g : V → Value) (r : Result V ThreadStop) → ToldOf g r (accept_means x c span v) → ToldOf g r (made_means x callee c vs span)
  made_then v h g r told = subst (λ d. ToldOf g r d) (sym (ap (λ d. bind d (λ w u. accept_means x c span w)) h)) told
