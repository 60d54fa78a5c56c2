-- An actor before its first turn.
use Rattle.std.proofs.Common.{◌≡◌, ℕ, zero, suc, ◌+◌, ◌-◌, ◌<◌, List, [], ◌∷◌, length, take, drop, get_or, reverse, Option, Some, None, refl, sym, ap, ◌∙◌, subst, arith}
use Rattle.std.proofs.lemmas.List.{take_all, drop_all}
use Rattle.txs_value_data.specs.Places.{nth}
use Rattle.txs_value_data.specs.declared.value.Value.{Value}
use Rattle.txs_code_meaning.specs.Machine.{Outside, nils}
use Rattle.txs_code_meaning.specs.PlainCode.{PlainCode, CodeBody, thread_code, function_codes}
use Rattle.txs_code_meaning.specs.WellTyped.{Functions, a_thread, WellTypedBody, WellTypedThreads, WellTyped}
use Rattle.txs_code_meaning.specs.Opening.{opening}
use Rattle.txs_frame.specs.Frame.{PlainTxFrame, empty_frame}
use Rattle.txs_code_meaning.specs.WellTyped.{plain}
use Rattle.txs_machine_actor.specs.PlainActor.{frames_of, own_body, functions_of, setting_of, Callers, IsFirst, AllApply, GoesOn, Runs}
use Rattle.txs_machine_loop.specs.Ready.{Ready}
use Rattle.txs_machine_stack.specs.PlainFrame.{PlainFrame}
use Rattle.txs_machine_actor.specs.Turns.{IsNew}
use Rattle.txs_machine_loop.proofs.Lists.{index_nth, length_nils}
use Rattle.txs_machine_transaction.specs.declared.state.Transaction.TheVariants as transaction
use Rattle.txs_machine_transaction.specs.declared.role.Role.TheVariants.{Thread}
use Rattle.txs_machine_actor.proofs.Effects.{it}
use Rattle.txs_machine_actor.proofs.Meaning.{configuration, stated, placed}
use Rattle.txs_value_cell.specs.Cells.{validators_of}

pub rooms_as_many : (fs : Functions) (ks : List Value) (bs : List CodeBody) (rooms : List ℕ) → WellTypedThreads fs ks bs rooms → length rooms ≡ length bs
rooms_as_many fs ks [] rooms w = ap length w
rooms_as_many fs ks (b ∷ bs) [] w = absurd w
rooms_as_many fs ks (b ∷ bs) (r ∷ rooms) w = ap suc (rooms_as_many fs ks bs rooms w.2)

well_typed_at : (fs : Functions) (ks : List Value) (bs : List CodeBody) (rooms : List ℕ) (k : ℕ) (b : CodeBody) → WellTypedThreads fs ks bs rooms → nth bs k ≡ Some b → WellTypedBody fs a_thread (length fs.parameters) ks b (get_or rooms k 0)
well_typed_at fs ks [] rooms k b w e = cc
well_typed_at fs ks (c ∷ bs) [] k b w e = absurd w
well_typed_at fs ks (c ∷ bs) (r ∷ rooms) zero b w e = subst (λ (x : CodeBody). WellTypedBody fs a_thread (length fs.parameters) ks x r) (some e) w.1
  where
    some : {A : Type 0} {x y : A} → Some x ≡ Some y → x ≡ y
    some g = cc
well_typed_at fs ks (c ∷ bs) (r ∷ rooms) (suc k) b w e = well_typed_at fs ks bs rooms k b w.2 e

-- the place of an actor with its locals alone
opens : (l : ℕ) → placed 0 [] Outside [] 0 0 empty_frame None None None l 0 (nils l) [] ≡ configuration 0 0 [] (nils l) [] Outside (stated [] [] 0 0 empty_frame None None None)
opens l =
    let none : reverse (drop l (nils l)) ≡ [] = ap reverse (drop_all l (nils l) (omega (arith, length_nils l))) in
    let all : take l (nils l) ≡ nils l = take_all l (nils l) (omega (arith, length_nils l)) in
    ap (λ st. configuration 0 0 st (take l (nils l)) [] Outside (stated [] [] 0 0 empty_frame None None None)) none ∙ ap (λ ls. configuration 0 0 [] ls [] Outside (stated [] [] 0 0 empty_frame None None None)) all

module _ (d : PlainCode) (k l limit room : ℕ) (vs : List Value) (fs : List PlainFrame) (out : List ℕ) (own : PlainTxFrame) (b : CodeBody) (is : b ≡ get_or d.threads k b) (lt : k < length d.threads)
    (sized : l ≡ b.locals) (made : vs ≡ nils l) (uncalled : fs ≡ []) (unprinted : out ≡ []) (undone : own ≡ empty_frame) where
  body_there : nth d.threads k ≡ Some b
  body_there = index_nth d.threads k b lt ∙ ap Some (sym is)

  opens_so : placed 0 [] Outside [] 0 0 own None None None l 0 vs out ≡ opening (thread_code d b) []
  opens_so =
      ap (λ x. placed 0 [] Outside [] 0 0 x None None None l 0 vs out) undone ∙ ap (λ x. placed 0 [] Outside [] 0 0 empty_frame None None None l 0 x out) made ∙ ap (λ x. placed 0 [] Outside [] 0 0 empty_frame None None None l 0 (nils l) x) unprinted ∙ opens l
      ∙ ap (λ n. configuration 0 0 [] (nils n) [] Outside (stated [] [] 0 0 empty_frame None None None)) (sized ∙ sym less)
    where
      less : b.locals - 0 ≡ b.locals
      less = omega arith

  pub is_new : IsNew d k limit (it k Thread 0 fs l 0 vs out 0 0 own None None 0 limit room transaction.Outside None)
  is_new = record {
    number = refl;
    opens = ap (λ (x : List PlainFrame). placed 0 (frames_of x) Outside [] 0 0 own None None None l 0 vs out) uncalled ∙ opens_so ∙ ap (λ (o : Option CodeBody). opening (record { functions = function_codes d; validators = validators_of d.cells; main = own_body d k o }) []) (sym body_there);
    unended = refl;
    unasking = refl;
    unused = refl;
    limited = refl;
  }

  pub new_runs : (function_rooms rooms : List ℕ) → WellTyped d function_rooms rooms → room ≡ l + get_or rooms k 0 → Runs d (it k Thread 0 fs l 0 vs out 0 0 own None None 0 limit room transaction.Outside None)
  new_runs function_rooms rooms w roomy =
      let t = well_typed_at (functions_of d w.kinds) d.constants d.threads rooms k b w.threads body_there in
      let size : length vs ≡ l = ap length made ∙ length_nils l in
      let empty : 0 ≡ length vs - l = omega arith in
      let r : Ready (setting_of d w.kinds 0) d.constants b l 0 vs room (0, 0) =
      record {
        most = get_or rooms k 0;
        callable = length (functions_of d w.kinds).parameters;
        depths = t.table.0;
        stages = t.staging.0;
        lawful = t.lawful;
        table = t.table.1;
        staging = t.staging.1;
        here = t.table.1.first ∙ ap Some empty;
        stage = plain 0;
        staged = t.staging.1.first;
        owns = refl;
        sized = sized;
        deep = omega arith;
        roomy = omega arith;
      } in
      let g : GoesOn d w.kinds b (it k Thread 0 fs l 0 vs out 0 0 own None None 0 limit room transaction.Outside None) =
      record {
        own = (0, 0);
        base = (0, 0);
        ready = r;
        enters = record { inside = λ e. absurd e; outside = λ e. refl; swapping = λ lt. absurd (omega (arith, lt)) };
        callers = subst (λ (x : List PlainFrame). Callers d w.kinds k x (0, 0) (0, 0)) (sym uncalled) refl;
        is_first = subst (λ (x : List PlainFrame). IsFirst w.kinds [] x 0) (sym uncalled) refl;
        counted = refl;
        swaps = refl;
        began = tt;
        shallow = omega arith;
        commutes = subst (λ (x : PlainTxFrame). AllApply (functions_of d w.kinds) x.commutes) (sym undone) tt;
        opened = tt;
        serves = tt;
        applies = tt;
      } in
      record { kinds = w.kinds; rooms = function_rooms; functions = w.functions; validators = w.validators; body = b; is = body_there; goes = g }
