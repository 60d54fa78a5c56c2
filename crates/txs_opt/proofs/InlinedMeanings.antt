-- What a program with calls inlined means to pure code, to transactions and to threads.
use Rattle.std.proofs.Common.{◌≡◌, ℕ, zero, suc, ◌<◌, ◌≤◌, Bool, true, false, List, [], length, Option, Some, None, refl, ap, ◌∙◌, sym, subst, arith}
use Rattle.txs_world_protocol.specs.SeenEvent.{SeenEvent}
use Rattle.txs_value_cell.specs.Cells.{World, validators_of}
use Rattle.txs_value_data.specs.Places.{nth}
use Rattle.txs_value_data.specs.declared.op.Callee.{Callee}
use Rattle.txs_value_data.specs.declared.op.Callee.TheVariants.{Core as CoreOp, Function}
use Rattle.txs_value_data.specs.declared.value.Value.{Value}
use Rattle.txs_tree_meaning.specs.Meaning.{Invalid, bind, closed, give, Effects, turns, eval, call_at}
use Rattle.txs_tree_meaning.specs.Pure.{no_effects, pure_calls, pure_meaning}
use Rattle.txs_tree_meaning.specs.Thread.{ThreadState, on_events, around, thread_meaning}
use Rattle.txs_tree_meaning.specs.Transaction.{TxState, in_transaction_lacking, tx_start, tx_meaning, tx_meaning_lacking}
use Rattle.txs_tree_meaning.specs.Tree.{Tree, PlainFunction, ThreadSource}
use Rattle.txs_tree_meaning.specs.Shift.{shifted}
use Rattle.txs_opt.specs.Inline.{inlined, functions_inlined}
use Rattle.txs_opt.specs.Keeps.{inlined_source}
use Rattle.txs_opt.specs.Observed.{observed_end}
use Rattle.txs_opt.proofs.Below.{Kind, Lower, Below, wider_below}
use Rattle.txs_opt.proofs.Events.{observing_same, SameTx, event_forms, observing_end}
use Rattle.txs_opt.proofs.InlinedFunctions.{Within, Under, lower_wider, under_there, under_inlined, inlined_missing, length_inlined}
use Rattle.txs_opt.proofs.InlinedProgram.{Bodies, calls_inlined, bodies_inlined, own_body, deep_body, moved_body}
use Rattle.txs_opt.proofs.Like.{Likeness, Like, closed_like, forget, exact, exactly}
use Rattle.txs_opt.proofs.NoRecur.{pure_ends, tx_ends, event_ends}
use Rattle.txs_opt.proofs.OneWorld.{Any, AllFine, AllValid, fine_states, pure_forms, tx_forms}
use Rattle.txs_opt.proofs.Shifting.{Wider}

-- a call of a function that isn't there
pub call_missing : {S : Type 0} (fx : ℕ → Effects S) (n : ℕ) (fs : List PlainFunction) (d : ℕ) (inside : Bool) (f : ℕ) (vs : List Value) (s : S) → nth fs f ≡ None → call_at fx n fs d inside f vs s ≡ Invalid
call_missing fx n fs zero inside f vs s is = refl
call_missing fx n fs (suc d) inside f vs s is = ap (λ o. bind (give o s) (λ fun s1. turns (suc n) fun.parameters (λ ws s2. eval (fx d) (call_at fx n fs d) n inside fun.body ws s2) vs s1)) is

-- Functions that weigh so much, of which each calls such alone that weigh less. Forms stand where calls go p deep.
module _ (weight : ℕ → ℕ) (p : ℕ) where
  abbrev pub Low : ℕ → Kind
  Low d = Lower weight p d

  pub lower_none : (f : ℕ) → (Low 0).calls f → ⊥
  lower_none f h = omega (arith, h)

  pub lower_more : (d f : ℕ) → (Low d).calls f → (Low (suc d)).calls f
  lower_more d f h = omega (arith, h)

  pub lower_bodies : (gs : List PlainFunction) → Under weight p 0 gs → Bodies Low gs
  lower_bodies gs under d f fun found may = lower_wider weight p (weight f) d (omega (arith, may)) fun.body (under_there weight p gs f fun under found)

  -- in a transaction at the depth D: the functions that may be called there, and where calls go no deeper
  abbrev pub Both : ℕ → ℕ → Kind
  Both D d = record { calls = λ f. (weight f < d) × (weight f < D); forms = Unit {0} }

  pub both_none : (D f : ℕ) → (Both D 0).calls f → ⊥
  both_none D f h = omega (arith, h.0)

  pub both_more : (D d f : ℕ) → (Both D d).calls f → (Both D (suc d)).calls f
  both_more D d f h = (omega (arith, h.0), h.1)

  pub both_bodies : (D : ℕ) (gs : List PlainFunction) → Under weight p 0 gs → Bodies (Both D) gs
  both_bodies D gs under d f fun found may =
      wider_below (Low (weight f)) (Both D d) (λ g lt. (omega (arith, lt, may.0), omega (arith, lt, may.1))) (λ h. tt) fun.body (under_there weight p gs f fun under found)

  pub both_of : (D : ℕ) (e : Tree) → Below (Low D) e → Below (Both D D) e
  both_of D e low = wider_below (Low D) (Both D D) (λ f lt. (lt, lt)) (λ h. tt) e low

  abbrev pub K : ℕ → Likeness TxState
  K D = fine_states (Low D) ⊥

  pub same_fine : (D : ℕ) (s t : TxState) → (K D).rel s t → (K D).rel t t
  same_fine D s t r = (refl, subst (λ u. AllFine (Low D) u.done.commutes) r.0 r.1)

  pub trans_fine : (D : ℕ) (s t u : TxState) → (K D).rel s t → (K D).rel t u → (K D).rel s u
  trans_fine D s t u h j = (h.0 ∙ j.0, h.1)

module _ (weight : ℕ → ℕ) (p : ℕ) (m : ℕ) (fs : List PlainFunction) (budget : ℕ) (under : Under weight p 0 fs) where
  abbrev G : List PlainFunction
  G = (functions_inlined [] budget fs).functions

  pub same_length : length G ≡ length fs
  same_length = omega (arith, length_inlined fs [] budget)

  own_under : Under weight p 0 G
  own_under = under_inlined weight p fs [] budget tt under

  -- a callee as pure code, of functions that are there and weigh less than all are
  pub pure_inlined : ((f : ℕ) (fun : PlainFunction) → nth fs f ≡ Some fun → weight f < length fs) → (callee : Callee) (vs : List Value) → pure_meaning m G callee vs ≡ pure_meaning m fs callee vs
  pure_inlined light (CoreOp op) vs = refl
  pure_inlined light (Function f) vs = ap (λ j. pure_calls m G j false f vs tt) same_length ∙ go (nth fs f) refl
    where
      go : (o : Option PlainFunction) → nth fs f ≡ o → pure_calls m G (length fs) false f vs tt ≡ pure_calls m fs (length fs) false f vs tt
      go None is =
          let there : nth G f ≡ None = inlined_missing fs budget f is in
          call_missing (λ b. no_effects) m G (length fs) false f vs tt there ∙ sym (call_missing (λ b. no_effects) m fs (length fs) false f vs tt is)
      go (Some fun) is =
          exactly (Unit {0}) (pure_calls m fs (length fs) false f vs tt) (pure_calls m G (length fs) false f vs tt)
          (calls_inlined (Unit {0}) (exact (Unit {0})) (Low weight p) (lower_none weight p) (lower_more weight p) (λ s t r. refl) (λ s t u p q. p ∙ q) (λ j. Any) (λ j. Any) (λ j. Any) (λ j. no_effects) (λ j. no_effects) m fs budget (lower_bodies weight p fs under) (lower_bodies weight p G own_under)
          (λ j. pure_forms ⊥ (Low weight p j)) (λ j front within c left e env low is1. tt) (λ j. pure_forms ⊥ (Low weight p j)) (λ j e env low. tt) (λ j c i e env env1 low w. tt) (λ j. pure_forms ⊥ (Low weight p j)) (λ j e env low. tt) (λ j. pure_ends)
          (length fs) false f vs (light f fun is) tt tt refl)

  module _ (lack : Option ℕ) (R : World) where
    abbrev F : ℕ → Effects TxState
    F j = in_transaction_lacking lack R

    pub tx_bodies : (d : ℕ) (front : List PlainFunction) → Within front G → (e : Tree) (env : List Value) (c left : ℕ) → Below (Low weight p d) e → length env ≡ c → Like (K weight p d) (tx_meaning_lacking m fs d e env lack R) (tx_meaning_lacking m G d (inlined front c left e).tree env lack R)
    tx_bodies d front within e env c left low is =
        closed_like TxState (K weight p d) (eval (in_transaction_lacking lack R) (call_at F m fs d) m true e env tx_start) (eval (in_transaction_lacking lack R) (call_at F m G d) m true (inlined front c left e).tree env tx_start)
        (bodies_inlined TxState (K weight p d) (Both weight p d) (both_none weight p d) (both_more weight p d) (same_fine weight p d) (trans_fine weight p d) (λ j. Any) (λ j. Any) (λ j. Any) F F m fs budget (both_bodies weight p d fs under) (both_bodies weight p d G own_under)
        (λ j. tx_forms ⊥ (Low weight p d) (Both weight p d j) (λ f h. h.1) lack R) (λ j front1 within1 c1 left1 e1 env1 low1 is1. tt) (λ j. tx_forms ⊥ (Low weight p d) (Both weight p d j) (λ f h. h.1) lack R) (λ j e1 env1 low1. tt) (λ j c1 i e1 env1 env2 low1 w. tt)
        (λ j. tx_forms ⊥ (Low weight p d) (Both weight p d j) (λ f h. h.1) lack R) (λ j e1 env1 low1. tt) (λ j. tx_ends lack R) d front within true e env c left (both_of weight p d e low) is tx_start tx_start (refl, tt))

    pub tx_own : (d : ℕ) (e : Tree) (env : List Value) → Below (Low weight p d) e → Like (K weight p d) (tx_meaning_lacking m G d e env lack R) (tx_meaning_lacking m G d e env lack R)
    tx_own d e env low =
        closed_like TxState (K weight p d) (eval (in_transaction_lacking lack R) (call_at F m G d) m true e env tx_start) (eval (in_transaction_lacking lack R) (call_at F m G d) m true e env tx_start)
        (own_body TxState (K weight p d) (Both weight p d) (both_none weight p d) (both_more weight p d) (λ i. Any) (λ i. Any) F m G (both_bodies weight p d G own_under) (λ i. tx_forms ⊥ (Low weight p d) (Both weight p d i) (λ f h. h.1) lack R) (λ i e1 env1 low1. tt)
        (λ i. tx_forms ⊥ (Low weight p d) (Both weight p d i) (λ f h. h.1) lack R) (λ i e1 env1 low1. tt) (λ i. tx_ends lack R) d true e env (both_of weight p d e low) tx_start tx_start (refl, tt))

    pub tx_moved : (d c j : ℕ) (e : Tree) (env env1 : List Value) → Below (Low weight p d) e → Wider c j env env1 → Like (K weight p d) (tx_meaning_lacking m G d e env lack R) (tx_meaning_lacking m G d (shifted c j e) env1 lack R)
    tx_moved d c j e env env1 low w =
        closed_like TxState (K weight p d) (eval (in_transaction_lacking lack R) (call_at F m G d) m true e env tx_start) (eval (in_transaction_lacking lack R) (call_at F m G d) m true (shifted c j e) env1 tx_start)
        (moved_body TxState (K weight p d) (Both weight p d) (both_none weight p d) (both_more weight p d) (λ i. Any) (λ i. Any) F m G (both_bodies weight p d G own_under) (λ i. tx_forms ⊥ (Low weight p d) (Both weight p d i) (λ f h. h.1) lack R) (λ i e1 env2 low1. tt)
        (λ i. tx_forms ⊥ (Low weight p d) (Both weight p d i) (λ f h. h.1) lack R) (λ i e1 env2 low1. tt) (λ i. tx_ends lack R) (λ d1 c1 i e1 env2 env3 low1 w1. tt) d true c j e env env1 (both_of weight p d e low) w tx_start tx_start (refl, tt))

    pub tx_deep : (d : ℕ) (e : Tree) (env : List Value) → Below (Low weight p d) e → Like (K weight p d) (tx_meaning_lacking m G d e env lack R) (tx_meaning_lacking m G (suc d) e env lack R)
    tx_deep d e env low =
        closed_like TxState (K weight p d) (eval (in_transaction_lacking lack R) (call_at F m G d) m true e env tx_start) (eval (in_transaction_lacking lack R) (call_at F m G (suc d)) m true e env tx_start)
        (deep_body TxState (K weight p d) (Both weight p d) (both_none weight p d) (both_more weight p d) (λ i. Any) (λ i. Any) F m G (both_bodies weight p d G own_under) (λ i. tx_forms ⊥ (Low weight p d) (Both weight p d i) (λ f h. h.1) lack R) (λ i e1 env2 low1. tt)
        (λ i. tx_forms ⊥ (Low weight p d) (Both weight p d i) (λ f h. h.1) lack R) (λ i e1 env2 low1. tt) (λ i. tx_ends lack R) d true e env (both_of weight p d e low) tx_start tx_start (refl, tt))

  -- a transaction's body with its locals
  pub tx_inlined : (d : ℕ) (front : List PlainFunction) → Within front G → (e : Tree) (env : List Value) (c left : ℕ) (R : World) → Below (Low weight p d) e → length env ≡ c → tx_meaning m G d (inlined front c left e).tree env R ≡ tx_meaning m fs d e env R
  tx_inlined d front within e env c left R low is =
      let x = tx_meaning m fs d e env R in
      let y = tx_meaning m G d (inlined front c left e).tree env R in
      exactly TxState x y (forget (K weight p d) (exact TxState) (λ s t r. r.0) (λ h. h) x y (tx_bodies None R d front within e env c left low is))

-- A thread, where calls go so deep that forms stand there, and what validators weigh is less.
pub thread_inlined : (weight : ℕ → ℕ) (p : ℕ) (q : ThreadSource) (budget left m : ℕ) (es : List SeenEvent) → Under weight p 0 q.functions → ((d : ℕ) → p ≤ d → AllValid (Low weight p d) (validators_of q.cells)) → Below (Low weight p (length q.functions)) q.main
    → observed_end (thread_meaning (inlined_source budget left q) m es) ≡ observed_end (thread_meaning q m es)
thread_inlined weight p q budget left m es under valid low =
    let fs = q.functions in
    let gs = (functions_inlined [] budget fs).functions in
    let own = under_inlined weight p fs [] budget tt under in
    let x = around q m in
    let y = around (inlined_source budget left q) m in
    let start : ThreadState = record { todo = es; printed = []; held = None; txs = []; asks = None } in
    let fxs : ℕ → Effects ThreadState = on_events x in
    let gxs : ℕ → Effects ThreadState = on_events y in
    let d = length fs in
    let main = (inlined gs 0 left q.main).tree in
    let L = Low weight p in
    ap (λ j. observed_end (closed (eval (gxs j) (call_at gxs m gs j) m false main [] start))) (same_length weight p m fs budget under)
    ∙ observing_end (thread_meaning q m es) (closed (eval (gxs d) (call_at gxs m gs d) m false main [] start))
    (closed_like ThreadState (observing_same ⊥) (eval (fxs d) (call_at fxs m fs d) m false q.main [] start) (eval (gxs d) (call_at gxs m gs d) m false main [] start)
    (bodies_inlined ThreadState (observing_same ⊥) L (lower_none weight p) (lower_more weight p) (λ s t r. refl) (λ s t u p1 q1. p1 ∙ q1) (λ j. SameTx ⊥ L x gs valid j j) (λ j. SameTx ⊥ L y gs valid j j) (λ j. SameTx ⊥ L y gs valid j (suc j)) fxs gxs m fs budget (lower_bodies weight p fs under) (lower_bodies weight p gs own)
    (λ j. event_forms ⊥ L x gs valid j j) (λ j front within c l e env low1 is lack R. tx_bodies weight p m fs budget under lack R j front within e env c l low1 is)
    (λ j. event_forms ⊥ L y gs valid j j) (λ j e env low1 lack R. tx_own weight p m fs budget under lack R j e env low1) (λ j c i e env env1 low1 w lack R. tx_moved weight p m fs budget under lack R j c i e env env1 low1 w)
    (λ j. event_forms ⊥ L y gs valid j (suc j)) (λ j e env low1 lack R. tx_deep weight p m fs budget under lack R j e env low1) (λ j. event_ends y j) d gs (λ f fun is. is) false q.main [] 0 left low refl start start refl))
