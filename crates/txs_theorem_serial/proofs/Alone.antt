-- A covered transaction is serial.
use Rattle.std.proofs.Common.{◌≡◌, ℕ, Bool, true, false, ◌||◌, ◌==◌, List, [], ◌∷◌, length, refl, sym, ap, ◌∙◌, subst, Option}
use Rattle.std.specs.Prelude.{not}
use Rattle.std.proofs.lemmas.Bool.{eqb-true, false≢true}
use Rattle.txs_world_protocol.specs.Ask.{Writes}
use Rattle.txs_value_cell.specs.Cells.{World, Validators}
use Rattle.txs_value_cell.specs.declared.action.Action.{Action}
use Rattle.txs_frame.specs.Frame.{PlainTxFrame, has_number}
use Rattle.txs_value_data.specs.declared.op.Callee.{Callee}
use Rattle.txs_tree_meaning.specs.Known.{known}
use Rattle.txs_tree_meaning.specs.Meaning.{Completion, Completes, Recurs, Faults, Retries, Waits, OutOfTurns, Invalid, bind, closed, Applies, eval}
use Rattle.txs_tree_meaning.specs.Pure.{nowhere}
use Rattle.txs_tree_meaning.specs.Sound.{SoundFunctions}
use Rattle.txs_tree_meaning.specs.Thread.{TxRun, is_held}
use Rattle.txs_tree_meaning.specs.Transaction.{TxState, in_transaction, tx_start, tx_meaning, merged, commute_writes, if_accepted}
use Rattle.txs_tree_meaning.specs.Tree.{PlainFunction}
use Rattle.txs_tree_meaning.proofs.Callable.{both}
use Rattle.txs_value_data.specs.declared.value.CellId.{CellId}
use Rattle.txs_value_data.specs.declared.value.Value.{Value}
use Rattle.txs_theorem_threads.proofs.Callees.{IsPure}
use Rattle.txs_theorem_threads.proofs.Quiet.{carried, quietly, AllCommutes}
use Rattle.txs_theorem_serial.specs.Laws.{CoveredIsSerial}
use Rattle.txs_tree_meaning.specs.Marked.{MarkedFunctions}
use Rattle.txs_theorem_serial.specs.Serial.{are_held, is_covered, purely, IsSerial, Met, Committed, AgreeOn}
use Rattle.txs_theorem_serial.proofs.Bodies.{body_within, callR, callC, tree_carried, calls_carried}
use Rattle.txs_theorem_serial.proofs.Carrying.{moved, Carried, closed_carried, Goes, Stays, Suits, FineAt, NearAt}
use Rattle.txs_theorem_serial.proofs.Nearly.{loose, set_tight, alike_sets}
use Rattle.txs_theorem_serial.proofs.Remakes.{remakes}

-- what is read is held
held_at : (w : PlainTxFrame) (cs : List CellId) (k : ℕ) → are_held w cs ≡ true → has_number cs k ≡ true → is_held w k ≡ true
held_at w [] k h there = absurd (false≢true there)
held_at w (c ∷ cs) k h there =
    let parts = both (is_held w c.number) (are_held w cs) h in
    test (c.number == k) refl there parts.0 (held_at w cs k parts.1)
  where
    test : (b : Bool) → (c.number == k) ≡ b → (b || has_number cs k) ≡ true → is_held w c.number ≡ true → (has_number cs k ≡ true → is_held w k ≡ true) → is_held w k ≡ true
    test true e g here rest = subst (λ n. is_held w n ≡ true) (eqb-true c.number k e) here
    test false e g here rest = rest g

not_used : (b : Bool) → not b ≡ true → b ≡ false
not_used true h = absurd (false≢true h)
not_used false h = refl

-- a pure answer is carried by no state
itself_carried : {A : Type 0} (x : Completion (Unit {0}) A) → x ≡ carried tt x
itself_carried (Completes a tt) = refl
itself_carried (Recurs vs tt) = refl
itself_carried (Faults f tt) = refl
itself_carried (Retries tt) = refl
itself_carried (Waits tt) = refl
itself_carried (OutOfTurns tt) = refl
itself_carried Invalid = refl

-- the commutes of a transaction have pure callees
pub met_suits : (functions : List PlainFunction) (n : ℕ) (x : TxRun) (R : World) → SoundFunctions [] functions → MarkedFunctions functions → Met functions n x R → AllCommutes (IsPure (known functions)) x.state.done.commutes
met_suits functions n x R sound marks met =
    let q : Applies (Unit {0}) = quietly n functions (length functions) nowhere in
    let P : Callee → Type 0 = IsPure (known functions) in
    let h =
    closed_carried q R R P x.wanted tx_start (eval (in_transaction R) (callR n functions sound marks R R (length functions)) n true x.body x.locals tx_start) (λ xs. eval (in_transaction R) (callC n functions sound marks R R (length functions)) n true x.body x.locals (moved xs tx_start))
    (tree_carried n functions sound marks R R (length functions) (calls_carried n functions sound marks R R (length functions)) x.body true x.wanted x.locals tx_start (body_within functions x.body (length x.locals) met.body_sound) met.body_marked) in
    subst (Stays q R R P tx_start) met.means h.2 tt

module _ (functions : List PlainFunction) (validators : Validators) (held : Option (List Action)) (n : ℕ) (x : TxRun) (R C : World) (writes : Writes) (sends : List Action) (sound : SoundFunctions [] functions) (marks : MarkedFunctions functions)
    (did : Committed functions validators held n x R C writes sends) (covered : is_covered x.state ≡ true) (agree : AgreeOn x.state.done R C) where
  abbrev q : Applies (Unit {0})
  q = quietly n functions (length functions) nowhere

  abbrev P : Callee → Type 0
  P = IsPure (known functions)

  abbrev meaning : World → Completion TxState Value
  meaning W = tx_meaning n functions (length functions) x.body x.locals W

  body_carried : Carried q R C P x.wanted tx_start (meaning R) (λ xs. closed (eval (in_transaction C) (callC n functions sound marks R C (length functions)) n true x.body x.locals (moved xs tx_start)))
  body_carried =
      closed_carried q R C P x.wanted tx_start (eval (in_transaction R) (callR n functions sound marks R C (length functions)) n true x.body x.locals tx_start) (λ xs. eval (in_transaction C) (callC n functions sound marks R C (length functions)) n true x.body x.locals (moved xs tx_start))
      (tree_carried n functions sound marks R C (length functions) (calls_carried n functions sound marks R C (length functions)) x.body true x.wanted x.locals tx_start (body_within functions x.body (length x.locals) did.met.body_sound) did.met.body_marked)

  near_start : NearAt q R C P tx_start []
  near_start = record { kept = λ k. refl; alike = tt; remakes = λ k h. absurd (false≢true h) }

  suits : Suits q R C P x.state
  suits = met_suits functions n x R sound marks did.met

  fine : FineAt q R C P x.state
  fine =
      let parts = both (not x.state.used) (are_held x.state.done x.state.reads) covered in record {
        unused = not_used x.state.used parts.0;
        agree = λ k there. agree k (held_at x.state.done x.state.reads k parts.1 there);
        remakes = λ k there.
            remakes P validators nowhere (purely n functions) (λ c us u. q c us u) q (λ c us s p. itself_carried (q c us tt)) (λ c us v p e. e) x.state.done C writes tt tt suits did.writes_same k there;
      }

  goes : Goes q R C P x.wanted (Completes x.result x.state) (meaning C)
  goes = subst (λ z. Goes q R C P x.wanted z (meaning C)) did.met.means (body_carried.1 [] near_start)

  pub serial : IsSerial functions validators n x C writes x.state.done.sends
  serial =
      let r = goes fine in record {
        result = r.0;
        state = moved r.1 x.state;
        means = r.2;
        writes_same =
            ap (λ (ws : Writes). bind (commute_writes (purely n functions) x.state.done C tt) (λ vs u. if_accepted (purely n functions) validators nowhere (merged ws vs) u))
            (sym (alike_sets (loose x.state.done.sets x.state.done.commutes) x.state.done.sets (λ k h. set_tight x.state.done.sets x.state.done.commutes k h) x.state.done.values r.1 r.4.alike))
            ∙ did.writes_same;
        sends_same = refl;
        result_same = λ w. sym (r.3 w);
      }

pub covered_is_serial : CoveredIsSerial
covered_is_serial functions validators n held x R C writes sends sound marks did covered agree = serial functions validators held n x R C writes sends sound marks did covered agree
