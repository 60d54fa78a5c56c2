-- A folded program means what the program meant.
use Rattle.std.proofs.Common.{◌≡◌, ℕ, zero, suc, Bool, true, false, List, [], ◌∷◌, length, Option, Some, None, refl, sym, ap, ◌∙◌, subst}
use Rattle.txs_world_protocol.specs.SeenEvent.{SeenEvent}
use Rattle.txs_value_cell.specs.Cells.{World, validators_of}
use Rattle.txs_value_data.specs.Places.{nth}
use Rattle.txs_value_data.specs.declared.op.Callee.{Callee}
use Rattle.txs_value_data.specs.declared.value.Value.{Value}
use Rattle.txs_tree_meaning.specs.Meaning.{bind, closed, give, Effects, turns, eval, call_at, apply}
use Rattle.txs_tree_meaning.specs.Pure.{no_effects, nowhere, pure_calls, pure_meaning}
use Rattle.txs_tree_meaning.specs.Thread.{ThreadState, on_events, around, thread_meaning}
use Rattle.txs_tree_meaning.specs.Transaction.{TxState, in_transaction_lacking, tx_start, tx_meaning, tx_meaning_lacking}
use Rattle.txs_tree_meaning.specs.Tree.{Tree, PlainFunction, ThreadSource}
use Rattle.txs_opt.specs.Fold.{folded, folded_function, folded_functions}
use Rattle.txs_opt.specs.Keeps.{folded_source}
use Rattle.txs_opt.specs.Observed.{observed_end}
use Rattle.txs_opt.proofs.Below.{Each, any_below}
use Rattle.txs_opt.proofs.Events.{observing_same, SameTx, event_forms, observing_end}
use Rattle.txs_opt.proofs.Folding.{folded_like}
use Rattle.txs_opt.proofs.Like.{Likeness, Like, PartsLike, closed_like, turns_like, apply_like, forget, exact, exactly}
use Rattle.txs_opt.proofs.OneWorld.{Any, any_callee, any_valid, fine_states, pure_forms, tx_forms}
use Rattle.txs_opt.proofs.Parts.{FormsLike, CallsLike}

abbrev fold_some : Option PlainFunction → Option PlainFunction
fold_some None = None
fold_some (Some fun) = Some (folded_function fun)

pub nth_folded : (fs : List PlainFunction) (f : ℕ) → nth (folded_functions fs) f ≡ fold_some (nth fs f)
nth_folded [] f = refl
nth_folded (g ∷ fs) zero = refl
nth_folded (g ∷ fs) (suc f) = nth_folded fs f

pub length_folded : (fs : List PlainFunction) → length (folded_functions fs) ≡ length fs
length_folded [] = refl
length_folded (f ∷ fs) = ap suc (length_folded fs)

module _ (S : Type 0) (k : Likeness S) (Linked : ℕ → Tree → List Value → Tree → List Value → Type 0) (fxs gxs : ℕ → Effects S) (n : ℕ) (fs : List PlainFunction)
    (forms : (d : ℕ) → FormsLike S k Each (Linked d) (fxs d) (gxs d)) (linked : (d : ℕ) (e : Tree) (env : List Value) → Linked d e env (folded e) env) where
  one_deeper : (d : ℕ) → CallsLike S k Each (call_at fxs n fs d) (call_at gxs n (folded_functions fs) d) → CallsLike S k Each (call_at fxs n fs (suc d)) (call_at gxs n (folded_functions fs) (suc d))
  one_deeper d below inside f vs may s t r =
      subst (λ o. Like k (call_at fxs n fs (suc d) inside f vs s) (bind (give o t) (λ fun t1. turns (suc n) fun.parameters (λ ws t2. eval (gxs d) (call_at gxs n (folded_functions fs) d) n inside fun.body ws t2) vs t1))) (sym (nth_folded fs f)) (go (nth fs f))
    where
      go : (o : Option PlainFunction) → Like k (bind (give o s) (λ fun s1. turns (suc n) fun.parameters (λ ws s2. eval (fxs d) (call_at fxs n fs d) n inside fun.body ws s2) vs s1))
          (bind (give (fold_some o) t) (λ fun t1. turns (suc n) fun.parameters (λ ws t2. eval (gxs d) (call_at gxs n (folded_functions fs) d) n inside fun.body ws t2) vs t1))
      go None = tt
      go (Some fun) =
          turns_like S k (suc n) fun.parameters (λ ws s2. eval (fxs d) (call_at fxs n fs d) n inside fun.body ws s2) (λ ws t2. eval (gxs d) (call_at gxs n (folded_functions fs) d) n inside (folded fun.body) ws t2)
          (λ ws are. folded_like S k Each (Linked d) (fxs d) (gxs d) (call_at fxs n fs d) (call_at gxs n (folded_functions fs) d) n (forms d) below (λ e env low. linked d e env) inside fun.body ws (any_below fun.body)) vs s t r

  pub calls_folded : (d : ℕ) → CallsLike S k Each (call_at fxs n fs d) (call_at gxs n (folded_functions fs) d)
  calls_folded zero inside f vs may s t r = tt
  calls_folded (suc d) inside f vs may s t r = one_deeper d (calls_folded d) inside f vs may s t r

  pub bodies_folded : (d : ℕ) (inside : Bool) (e : Tree) (env : List Value) → PartsLike S k (eval (fxs d) (call_at fxs n fs d) n inside e env) (eval (gxs d) (call_at gxs n (folded_functions fs) d) n inside (folded e) env)
  bodies_folded d inside e env = folded_like S k Each (Linked d) (fxs d) (gxs d) (call_at fxs n fs d) (call_at gxs n (folded_functions fs) d) n (forms d) (calls_folded d) (λ e1 env1 low. linked d e1 env1) inside e env (any_below e)

-- ---- pure code, transactions, threads

pub pure_folded : (n : ℕ) (fs : List PlainFunction) (callee : Callee) (vs : List Value) → pure_meaning n (folded_functions fs) callee vs ≡ pure_meaning n fs callee vs
pure_folded n fs callee vs =
    let d = length fs in
    ap (λ j. apply (pure_calls n (folded_functions fs) j false) nowhere callee vs tt) (length_folded fs)
    ∙ exactly (Unit {0}) (apply (pure_calls n fs d false) nowhere callee vs tt) (apply (pure_calls n (folded_functions fs) d false) nowhere callee vs tt)
    (apply_like (Unit {0}) (exact (Unit {0})) Each (pure_calls n fs d false) (pure_calls n (folded_functions fs) d false)
    (λ f. calls_folded (Unit {0}) (exact (Unit {0})) (λ j. Any) (λ j. no_effects) (λ j. no_effects) n fs (λ j. pure_forms ⊥ Each) (λ j e env. tt) d false f) nowhere callee vs (any_callee callee) tt tt refl)

pub tx_like : (n : ℕ) (fs : List PlainFunction) (d : ℕ) (e : Tree) (env : List Value) (lack : Option ℕ) (R : World) → Like (fine_states Each ⊥) (tx_meaning_lacking n fs d e env lack R) (tx_meaning_lacking n (folded_functions fs) d (folded e) env lack R)
tx_like n fs d e env lack R =
    closed_like TxState (fine_states Each ⊥) (eval (in_transaction_lacking lack R) (call_at (λ j. in_transaction_lacking lack R) n fs d) n true e env tx_start) (eval (in_transaction_lacking lack R) (call_at (λ j. in_transaction_lacking lack R) n (folded_functions fs) d) n true (folded e) env tx_start)
    (bodies_folded TxState (fine_states Each ⊥) (λ j. Any) (λ j. in_transaction_lacking lack R) (λ j. in_transaction_lacking lack R) n fs (λ j. tx_forms ⊥ Each Each (λ f h. h) lack R) (λ j e1 env1. tt) d true e env tx_start tx_start (refl, tt))

pub tx_folded : (n : ℕ) (fs : List PlainFunction) (d : ℕ) (e : Tree) (env : List Value) (R : World) → tx_meaning n (folded_functions fs) d (folded e) env R ≡ tx_meaning n fs d e env R
tx_folded n fs d e env R =
    let x = tx_meaning n fs d e env R in
    let y = tx_meaning n (folded_functions fs) d (folded e) env R in
    exactly TxState x y (forget (fine_states Each ⊥) (exact TxState) (λ s t r. r.0) (λ h. h) x y (tx_like n fs d e env None R))

pub thread_folded : (p : ThreadSource) (n : ℕ) (es : List SeenEvent) → observed_end (thread_meaning (folded_source p) n es) ≡ observed_end (thread_meaning p n es)
thread_folded p n es =
    let fs = folded_functions p.functions in
    let x = around p n in
    let y = around (folded_source p) n in
    let start : ThreadState = record { todo = es; printed = []; held = None; txs = []; asks = None } in
    let fxs : ℕ → Effects ThreadState = on_events x in
    let gxs : ℕ → Effects ThreadState = on_events y in
    let d = length p.functions in
    ap (λ j. observed_end (closed (eval (gxs j) (call_at gxs n fs j) n false (folded p.main) [] start))) (length_folded p.functions)
    ∙ observing_end (thread_meaning p n es) (closed (eval (gxs d) (call_at gxs n fs d) n false (folded p.main) [] start))
    (closed_like ThreadState (observing_same ⊥) (eval (fxs d) (call_at fxs n p.functions d) n false p.main [] start) (eval (gxs d) (call_at gxs n fs d) n false (folded p.main) [] start)
    (bodies_folded ThreadState (observing_same ⊥) (λ j. SameTx ⊥ (λ i. Each) x fs (λ i here. any_valid (validators_of x.cells)) j j) fxs gxs n p.functions (λ j. event_forms ⊥ (λ i. Each) x fs (λ i here. any_valid (validators_of x.cells)) j j) (λ j e env lack R. tx_like n p.functions j e env lack R) d false p.main [] start start refl))
