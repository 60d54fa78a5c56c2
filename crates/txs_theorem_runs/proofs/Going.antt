-- Where code comes to that asks for entries one after another: it was told these, each ask came in its stage, and what it sent is what it may send.
use Rattle.std.proofs.Common.{◌≡◌, ℕ, zero, suc, Bool, List, [], ◌∷◌, ◌++◌, map, Option, Some, None, refl, sym, ap, ◌∙◌, subst, append_assoc}
use Rattle.txs_world_protocol.specs.Ask.{Exchange}
use Rattle.txs_world_protocol.specs.declared.ask.Ask.{Ask}
use Rattle.txs_world_protocol.specs.declared.ask.Reply.{Reply}
use Rattle.txs_tree_meaning.specs.Tree.{PlainFunction}
use Rattle.txs_code_meaning.specs.ActorState.{ActorState}
use Rattle.txs_code_meaning.specs.Machine.{ThreadCode, Configuration, Turned, Ended, Failed, Asking, Unfinished, Stuck, and_then, turn, run}
use Rattle.txs_code_meaning.specs.Opening.{given, opening}
use Rattle.txs_code_meaning.proofs.Acts.{run_more}
use Rattle.txs_code_meaning.proofs.Later.{more_to_come}
use Rattle.txs_theorem_threads.specs.Sends.{CodeSendsSound}
use Rattle.txs_theorem_runs.specs.Goes.{AsksNothing, WalksTo, AsksAt, GoesTo}
use Rattle.txs_theorem_runs.specs.Run.{exchange}
use Rattle.txs_theorem_runs.specs.Staged.{StagedActor, IsStaged, StagedFrom, HandsIn}
use Rattle.txs_theorem_runs.specs.Stages.{Stage, AsksIn, stage_after}
use Rattle.txs_theorem_runs.specs.Told.{Entry, exchange_of}
use Rattle.txs_theorem_runs.proofs.Acting.{append_nil}
use Rattle.txs_theorem_runs.proofs.Keeping.{Holds}
use Rattle.txs_theorem_runs.proofs.Sending.{HoldsSound}

abbrev ask_or : Ask → Option Ask → Ask
ask_or q None = q
ask_or q (Some r) = r

-- one ask is wanted
same_want : (s : ActorState) (p q : Ask) → s.wants ≡ Some p → s.wants ≡ Some q → p ≡ q
same_want s p q e f = ap (ask_or p) (sym e ∙ f)

module _ (code : ThreadCode) where
  -- the code came there on what it was told
  pub record Came (xs : List Exchange) (o : Turned Configuration) : Type 0 where
    pub turns : ℕ
    pub ran : run code turns (opening code xs) ≡ o

  pub starts : Came [] (Unfinished (opening code []))
  starts = record { turns = 0; ran = refl }

  -- one turn more
  pub step : (xs : List Exchange) (c : Configuration) → Came xs (Unfinished c) → Came xs (turn code c)
  step xs c h = record { turns = suc h.turns; ran = run_more code h.turns (opening code xs) ∙ ap (λ r. and_then r (turn code)) h.ran }

  pub walked : (xs : List Exchange) (n : ℕ) (at there : Turned Configuration) → Came xs at → WalksTo code n at there → Came xs there
  walked xs zero at there h w = subst (Came xs) w h
  walked xs (suc n) at there h w = walked xs n (turn code w.0) there (step xs w.0 (subst (Came xs) w.1 h)) w.3

  -- one exchange more
  pub heard : (xs : List Exchange) (c : Configuration) (x : Exchange) → Came xs (Unfinished c) → Came (xs ++ x ∷ []) (turn code (given (x ∷ []) c))
  heard xs c x h = record {
    turns = suc h.turns;
    ran = run_more code h.turns (opening code (xs ++ x ∷ [])) ∙ ap (λ o. and_then o (turn code)) (more_to_come code h.turns (opening code xs) c (x ∷ []) h.ran);
  }

  -- all these exchanges more
  pub went : (es : List Entry) (xs : List Exchange) (at there : Turned Configuration) → Came xs at → GoesTo code at es there → Came (xs ++ map exchange_of es) there
  went [] xs at there h g = subst (λ l. Came l there) (sym (append_nil xs)) (walked xs g.0 at there h g.1)
  went (e ∷ es) xs at there h g =
      subst (λ l. Came l there) (append_assoc xs (exchange_of e ∷ []) (map exchange_of es))
      (went es (xs ++ exchange_of e ∷ []) (turn code (given (exchange_of e ∷ []) g.1)) there (heard xs g.1 (exchange_of e) (walked xs g.0 at (Unfinished g.1) h g.2)) g.4)

  -- ---- stages

  module _ (agent : Bool) (staged : StagedActor agent code) where
    pub turn_staged : (st : Stage) (o : Turned Configuration) (go : Ask → Reply → Turned Configuration) → AsksNothing o → StagedFrom agent st o go → IsStaged agent st o
    turn_staged st (Ended s) go n h = h
    turn_staged st (Failed f s) go n h = h
    turn_staged st (Asking s) go n h = absurd n
    turn_staged st (Unfinished d) go n h = h
    turn_staged st Stuck go n h = tt

    -- the turn from here, as it is staged
    pub turn_in : (xs : List Exchange) (st : Stage) (c : Configuration) → Came xs (Unfinished c) → IsStaged agent st (Unfinished c) → StagedFrom agent st (turn code c) (λ q r. turn code (given (exchange q r ∷ []) c))
    turn_in xs st c h s = staged h.turns xs c h.ran s.0 st s.1

    pub asked_staged : (st : Stage) (c : Configuration) (q : Ask) → AsksAt code c q → StagedFrom agent st (turn code c) (λ q r. turn code (given (exchange q r ∷ []) c))
        → (s : ActorState) × (turn code c ≡ Asking s) × AsksIn agent st q × ((r : Reply) → IsStaged agent (stage_after st q r) (turn code (given (exchange q r ∷ []) c))) × HandsIn s q (λ q r. turn code (given (exchange q r ∷ []) c))
    asked_staged st c q a h =
        let t : StagedFrom agent st (Asking a.0) (λ q r. turn code (given (exchange q r ∷ []) c)) = subst (λ o. StagedFrom agent st o (λ q r. turn code (given (exchange q r ∷ []) c))) a.1 h in
        let x = (
        subst (λ p. AsksIn agent st p × ((r : Reply) → IsStaged agent (stage_after st p r) (turn code (given (exchange p r ∷ []) c))) × HandsIn a.0 p (λ q r. turn code (given (exchange q r ∷ []) c)))
        (same_want a.0 t.0 q t.1 a.2) (t.2, t.3, t.4)
        ) in
        (a.0, a.1, x.0, x.1, x.2)

  -- ---- what is sent

  module _ (functions : List PlainFunction) (by : CodeSendsSound functions code) where
    abbrev Sound : Turned Configuration → Type 0
    Sound o = Holds (HoldsSound functions) (HoldsSound functions) o
