-- The places that actors of runs hold are in the journals.
use Rattle.std.proofs.Common.{◌≡◌, ◌≤◌, ℕ, zero, suc, Bool, true, false, List, [], ◌∷◌, length, take, Some, None, sym, subst, arith}
use Rattle.txs_world_protocol.specs.Ask.{Writes}
use Rattle.txs_world_protocol.specs.SeenEvent.{home}
use Rattle.txs_world_protocol.specs.declared.ask.Ask.{Ask}
use Rattle.txs_world_protocol.specs.declared.ask.Ask.TheVariants as ask
use Rattle.txs_world_protocol.specs.declared.ask.Reply.{Reply}
use Rattle.txs_world_protocol.specs.declared.ask.Reply.TheVariants as reply
use Rattle.txs_value_data.specs.declared.value.CellId.{CellId}
use Rattle.txs_value_cell.specs.declared.action.Action.{Action}
use Rattle.txs_value_cell.specs.declared.cell.CellDefinition.{CellDefinition}
use Rattle.txs_theorem_runs.specs.Shared.{Shared, book_for, serve_on}
use Rattle.txs_theorem_runs.specs.Stages.{Stage, Resting, Idle, Open, Viewing, Swapping, AsksIn, first_stage, stage_after}
use Rattle.txs_theorem_runs.specs.Told.{Entry, AllHold, AreStaged, ToldBy}
use Rattle.txs_theorem_alike.specs.Unseen.{IsWithin, PlacesAreWithin}

taken_less : {A : Type 0} (k : ℕ) (xs : List A) → length (take k xs) ≤ length xs
taken_less zero xs = omega arith
taken_less (suc k) [] = omega arith
taken_less (suc k) (x ∷ xs) = let h = taken_less k xs in omega (arith, h)

module _ (cells : List CellDefinition) (sh : Shared) where
  abbrev In : Stage → Type 0
  In st = IsWithin cells sh st

  -- ---- the stages after replies

  rest_in : (g : CellId) (r : Reply) → Unit {0} → In (stage_after Resting (ask.Take g) r)
  rest_in g (reply.At i) h = tt
  rest_in g (reply.Is u) h = tt
  rest_in g (reply.Views i vs) h = tt
  rest_in g reply.Done h = tt
  rest_in g (reply.Retry d) h = tt
  rest_in g (reply.Changed d) h = tt
  rest_in g (reply.AgentIsFailed i) h = tt
  rest_in g (reply.Action i x u) h = tt
  rest_in g reply.Idle h = tt
  rest_in g (reply.Opened i u) h = tt
  rest_in g reply.Full h = tt
  rest_in g reply.Memory h = tt

  look_in : (at : ℕ) (c : CellId) (p : ℕ) (r : Reply) → In (Open at) → In (stage_after (Open at) (ask.Look c p) r)
  look_in at c p (reply.At i) h = tt
  look_in at c p (reply.Is u) h = h
  look_in at c p (reply.Views i vs) h = tt
  look_in at c p reply.Done h = tt
  look_in at c p (reply.Retry d) h = tt
  look_in at c p (reply.Changed d) h = tt
  look_in at c p (reply.AgentIsFailed i) h = tt
  look_in at c p (reply.Action i x u) h = tt
  look_in at c p reply.Idle h = tt
  look_in at c p (reply.Opened i u) h = tt
  look_in at c p reply.Full h = tt
  look_in at c p reply.Memory h = tt

  pub commit_in : (at p q : ℕ) (sets commuted : Writes) (ensured : List CellId) (sends : List Action) (r : Reply) → In (Open at) → In (stage_after (Open at) (ask.Commit p sets ensured q commuted sends) r)
  commit_in at p q sets commuted ensured sends (reply.At i) h = tt
  commit_in at p q sets commuted ensured sends (reply.Is u) h = tt
  commit_in at p q sets commuted ensured sends (reply.Views i vs) h = tt
  commit_in at p q sets commuted ensured sends reply.Done h = tt
  commit_in at p q sets commuted ensured sends (reply.Retry d) h = tt
  commit_in at p q sets commuted ensured sends (reply.Changed d) h = h
  commit_in at p q sets commuted ensured sends (reply.AgentIsFailed i) h = tt
  commit_in at p q sets commuted ensured sends (reply.Action i x u) h = tt
  commit_in at p q sets commuted ensured sends reply.Idle h = tt
  commit_in at p q sets commuted ensured sends (reply.Opened i u) h = tt
  commit_in at p q sets commuted ensured sends reply.Full h = tt
  commit_in at p q sets commuted ensured sends reply.Memory h = tt

  pub redo_in : (at view p q : ℕ) (sets commuted : Writes) (ensured : List CellId) (sends : List Action) (r : Reply) → In (Viewing at view) → In (stage_after (Viewing at view) (ask.Commit p sets ensured q commuted sends) r)
  redo_in at view p q sets commuted ensured sends (reply.At i) h = tt
  redo_in at view p q sets commuted ensured sends (reply.Is u) h = tt
  redo_in at view p q sets commuted ensured sends (reply.Views i vs) h = tt
  redo_in at view p q sets commuted ensured sends reply.Done h = tt
  redo_in at view p q sets commuted ensured sends (reply.Retry d) h = tt
  redo_in at view p q sets commuted ensured sends (reply.Changed d) h = h.0
  redo_in at view p q sets commuted ensured sends (reply.AgentIsFailed i) h = tt
  redo_in at view p q sets commuted ensured sends (reply.Action i x u) h = tt
  redo_in at view p q sets commuted ensured sends reply.Idle h = tt
  redo_in at view p q sets commuted ensured sends (reply.Opened i u) h = tt
  redo_in at view p q sets commuted ensured sends reply.Full h = tt
  redo_in at view p q sets commuted ensured sends reply.Memory h = tt

  module _ (agent : Bool) (a : ℕ) where
    after_in : (st : Stage) (q : Ask) (r : Reply) (k : ℕ) → In st → AsksIn agent st q → r ≡ (serve_on cells a q (take k (sh.books (book_for cells q)))).reply → In (stage_after st q r)
    after_in Resting ask.Begin r k h ok e = absurd ok
    after_in Resting (ask.Look c p) r k h ok e = absurd ok
    after_in Resting (ask.View cs) r k h ok e = absurd ok
    after_in Resting (ask.Commit p sets ensured q commuted sends) r k h ok e = absurd ok
    after_in Resting (ask.Fail p q) r k h ok e = absurd ok
    after_in Resting (ask.Peek c) r k h ok e = absurd ok
    after_in Resting (ask.Send x) r k h ok e = absurd ok
    after_in Resting (ask.Take g) r k h ok e = rest_in g r tt
    after_in Resting (ask.Finish g new sends) r k h ok e = absurd ok
    after_in Resting (ask.OpenAt c) r k h ok e = absurd ok
    after_in Resting (ask.CloseAt c None v) r k h ok e = absurd ok
    after_in Resting (ask.CloseAt c (Some p) v) r k h ok e = absurd ok
    after_in Resting (ask.Broke c p) r k h ok e = absurd ok
    after_in Idle ask.Begin r k h ok e = subst (λ s. In (stage_after Idle ask.Begin s)) (sym e) (taken_less k (sh.books 0))
    after_in Idle (ask.Look c p) r k h ok e = absurd ok
    after_in Idle (ask.View cs) r k h ok e = absurd ok
    after_in Idle (ask.Commit p sets ensured q commuted sends) r k h ok e = absurd ok
    after_in Idle (ask.Fail p q) r k h ok e = absurd ok
    after_in Idle (ask.Peek c) r k h ok e = tt
    after_in Idle (ask.Send x) r k h ok e = tt
    after_in Idle (ask.Take g) r k h ok e = absurd ok
    after_in Idle (ask.Finish g new sends) r k h ok e = tt
    after_in Idle (ask.OpenAt c) r k h ok e = subst (λ s. In (stage_after Idle (ask.OpenAt c) s)) (sym e) (taken_less k (sh.books (home cells c)))
    after_in Idle (ask.CloseAt c None v) r k h ok e = tt
    after_in Idle (ask.CloseAt c (Some p) v) r k h ok e = absurd ok
    after_in Idle (ask.Broke c p) r k h ok e = absurd ok
    after_in (Open at) ask.Begin r k h ok e = absurd ok
    after_in (Open at) (ask.Look c p) r k h ok e = look_in at c p r h
    after_in (Open at) (ask.View cs) r k h ok e = subst (λ s. In (stage_after (Open at) (ask.View cs) s)) (sym e) (h, taken_less k (sh.books 0))
    after_in (Open at) (ask.Commit p sets ensured q commuted sends) r k h ok e = commit_in at p q sets commuted ensured sends r h
    after_in (Open at) (ask.Fail p q) r k h ok e = tt
    after_in (Open at) (ask.Peek c) r k h ok e = absurd ok
    after_in (Open at) (ask.Send x) r k h ok e = absurd ok
    after_in (Open at) (ask.Take g) r k h ok e = absurd ok
    after_in (Open at) (ask.Finish g new sends) r k h ok e = tt
    after_in (Open at) (ask.OpenAt c) r k h ok e = absurd ok
    after_in (Open at) (ask.CloseAt c None v) r k h ok e = absurd ok
    after_in (Open at) (ask.CloseAt c (Some p) v) r k h ok e = absurd ok
    after_in (Open at) (ask.Broke c p) r k h ok e = absurd ok
    after_in (Viewing at view) ask.Begin r k h ok e = absurd ok
    after_in (Viewing at view) (ask.Look c p) r k h ok e = absurd ok
    after_in (Viewing at view) (ask.View cs) r k h ok e = absurd ok
    after_in (Viewing at view) (ask.Commit p sets ensured q commuted sends) r k h ok e = redo_in at view p q sets commuted ensured sends r h
    after_in (Viewing at view) (ask.Fail p q) r k h ok e = tt
    after_in (Viewing at view) (ask.Peek c) r k h ok e = absurd ok
    after_in (Viewing at view) (ask.Send x) r k h ok e = absurd ok
    after_in (Viewing at view) (ask.Take g) r k h ok e = absurd ok
    after_in (Viewing at view) (ask.Finish g new sends) r k h ok e = absurd ok
    after_in (Viewing at view) (ask.OpenAt c) r k h ok e = absurd ok
    after_in (Viewing at view) (ask.CloseAt c None v) r k h ok e = absurd ok
    after_in (Viewing at view) (ask.CloseAt c (Some p) v) r k h ok e = absurd ok
    after_in (Viewing at view) (ask.Broke c p) r k h ok e = absurd ok
    after_in (Swapping d at) q r k h ok e = tt

    all_in : (threads : ℕ) (es : List Entry) (st end : Stage) → In st → AllHold cells threads sh.books a es → AreStaged agent st es end → In end
    all_in threads [] st end h hold staged = subst In staged h
    all_in threads (e ∷ es) st end h hold staged = all_in threads es (stage_after st e.ask e.reply) end (after_in st e.ask e.reply e.at h staged.0 hold.0.replied) hold.1 staged.1

    pub told_in : (threads : ℕ) (es : List Entry) (st : Stage) → ToldBy cells threads sh.books agent a es st → In st
    told_in threads es st t = all_in threads es (first_stage agent) st first t.hold t.staged
      where
        first : In (first_stage agent)
        first = by agent
          where
            by : (i : Bool) → In (first_stage i)
            by false = tt
            by true = tt

pub places_are_within : PlacesAreWithin
places_are_within cells threads codes st h agent b asks = told_in cells st.shared agent b threads (st.actors b).entries (h.actors agent b asks).stage (h.actors agent b asks).told
