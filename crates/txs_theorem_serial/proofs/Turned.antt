-- What an agent's actor did, by its trace, is what was done for its actions, one after another.
use Rattle.std.proofs.Common.{◌≡◌, ℕ, List, [], ◌∷◌, ◌++◌, append-nil, append_assoc, take, Option, Some, None, Result, Ok, Err, sym, ap, ◌∙◌, subst, if◌then◌else◌}
use Rattle.txs_value_data.specs.Places.{nth}
use Rattle.txs_value_data.specs.declared.fault.Fault.{Fault}
use Rattle.txs_value_cell.specs.Cells.{Validators, validators_of}
use Rattle.txs_value_cell.specs.declared.action.Action.{Action}
use Rattle.txs_value_cell.specs.declared.cell.CellDefinition.{CellDefinition}
use Rattle.txs_value_data.specs.declared.value.CellId.{CellId}
use Rattle.txs_value_data.specs.declared.value.Value.{Value}
use Rattle.txs_world_protocol.specs.SeenEvent.{SeenEvent}
use Rattle.txs_world_protocol.specs.declared.event.Event.{Event}
use Rattle.txs_world_protocol.specs.declared.event.EventKind.{EventKind}
use Rattle.txs_world_protocol.specs.declared.event.EventKind.TheVariants.{Read, Commit, Retry, Fail, Refused, Send, SendRefused, Act, Swap, Broke}
use Rattle.txs_world_book.specs.Book.{newest}
use Rattle.txs_world_book.specs.Book as world
use Rattle.txs_world_book.specs.Served.{cells_of}
use Rattle.txs_tree_meaning.specs.Known.{known}
use Rattle.txs_tree_meaning.specs.Marked.{MarkedFunctions}
use Rattle.txs_tree_meaning.specs.Meaning.{Completion, Completes, Recurs, Faults, Retries, Waits, OutOfTurns, Invalid}
use Rattle.txs_tree_meaning.specs.Sound.{SoundCells, SoundFunctions}
use Rattle.txs_tree_meaning.specs.Thread.{TxRun, ThreadState}
use Rattle.txs_tree_meaning.specs.Tree.{PlainFunction}
use Rattle.txs_theorem_threads.specs.FollowsAgent.{IsHandedIn, SoundAction}
use Rattle.txs_theorem_threads.specs.Noted.{txs_of}
use Rattle.txs_theorem_threads.specs.RepliesFit.{HasEatenAll}
use Rattle.txs_theorem_runs.specs.Agents.{ActionDid, EventMeans, OfEvent, ActsInTurn, meaning_after}
use Rattle.txs_theorem_runs.specs.Told.{Place, seen_of}
use Rattle.txs_theorem_serial.specs.Serial.{RunsOf, Noted, EndsNoted}
use Rattle.txs_theorem_serial.specs.Whole.{is_act, is_act_kind, without_acts, all_traces, ActionsDid}
use Rattle.txs_theorem_serial.proofs.Noting.{actions_note}

module _ (functions : List PlainFunction) (vs : Validators) (held : Option (List Action)) (n : ℕ) (es : List SeenEvent) where
  -- all events are eaten, so each commit and refusal has its transaction
  whole : (todo : List SeenEvent) (txs : List TxRun) → Noted functions vs held n es todo txs → todo ≡ [] → RunsOf functions vs held n es txs
  whole todo txs h e = subst (λ l. RunsOf functions vs held n l txs) (sym (h.split ∙ ap (λ l. h.eaten ++ l) e ∙ append-nil h.eaten)) h.runs

  runs_eaten : (out : List ℕ) (m : Completion ThreadState Value) → HasEatenAll out m → EndsNoted functions vs held n es m → RunsOf functions vs held n es (txs_of m)
  runs_eaten out (Completes v t) h k = whole t.todo t.txs k h.0
  runs_eaten out (Recurs us t) h k = absurd h
  runs_eaten out (Faults f t) h k = whole t.todo t.txs k h.0
  runs_eaten out (Retries t) h k = absurd h
  runs_eaten out (Waits t) h k = whole t.todo t.txs k h.0
  runs_eaten out (OutOfTurns t) h k = whole t.todo t.txs k h.0
  runs_eaten out Invalid h k = absurd h

-- what is handed in has eaten all
pub handed_eaten : (new : Result Value Fault) (sends : List Action) (out : List ℕ) (m : Completion ThreadState Value) → IsHandedIn new sends out m → HasEatenAll out m
handed_eaten (Ok v) sends out m h = subst (HasEatenAll out) (sym h.1) (h.2, h.3)
handed_eaten (Err f) sends out m h = subst (HasEatenAll out) (sym h.1) (h.2, h.3)

module _ (cells : List CellDefinition) (functions : List PlainFunction) (books : ℕ → List Event) (g : CellId) (sound : SoundFunctions [] functions) (sound_cells : SoundCells (known functions) cells) (marks : MarkedFunctions functions) where
  -- of each commit of an action there is a transaction
  pub runs_did : (done : List Event) (d : ActionDid) (x : Action) (out : List ℕ) → SoundAction functions x → HasEatenAll out (meaning_after cells functions books done g d.turns x d.trace) → d.txs ≡ txs_of (meaning_after cells functions books done g d.turns x d.trace)
      → RunsOf functions (validators_of cells) (Some []) d.turns (seen_of cells books d.trace) d.txs
  runs_did done d x out fits h noted =
      let m = meaning_after cells functions books done g d.turns x d.trace in
      let es = seen_of cells books d.trace in
      subst (RunsOf functions (validators_of cells) (Some []) d.turns es) (sym noted)
      (runs_eaten functions (validators_of cells) (Some []) d.turns es out m h (actions_note cells functions d.turns x (newest (world.opening (cells_of cells)) done g.number) es sound sound_cells marks fits))

  -- the trace but for its acts is that of the actions, and of each of these is what it did
  abbrev pub Turned : List Place → List Place → List ActionDid → Type 0
  Turned qs since ds = (since ++ without_acts books qs ≡ all_traces ds) × ActionsDid functions cells books ds

  abbrev InTurn : List Place → List Place → List ℕ → List ActionDid → Type 0
  InTurn qs since out ds = ActsInTurn cells functions books g qs since out ds

  end_turned : (since : List Place) (out : List ℕ) (ds : List ActionDid) → InTurn [] since out ds → Turned [] since ds
  end_turned since out [] h = (append-nil since ∙ h.0, tt)
  end_turned since out (d ∷ []) h =
      let x = h.1 in
      (append-nil since ∙ sym h.0 ∙ sym (append-nil d.trace), (runs_did (books 0) d x.action (out ++ x.rest) x.sound x.means x.noted, x.calm, tt))
  end_turned since out (d ∷ e ∷ ds) h = absurd h

  module _ (p : Place) (ps : List Place) (next : (since : List Place) (out : List ℕ) (ds : List ActionDid) → InTurn ps since out ds → Turned ps since ds) where
    -- an event that is no act joins those since the last one
    joined : (since : List Place) (out : List ℕ) (ds : List ActionDid) → InTurn ps (since ++ p ∷ []) out ds → (since ++ p ∷ without_acts books ps ≡ all_traces ds) × ActionsDid functions cells books ds
    joined since out ds m = let r = next (since ++ p ∷ []) out ds m in (sym (append_assoc since (p ∷ []) (without_acts books ps)) ∙ r.0, r.1)

    -- an event of this kind
    kind_turned : (d : EventKind) (since : List Place) (out : List ℕ) (ds : List ActionDid) → EventMeans cells functions books g p d since out ds (λ since1 out1 ds1. InTurn ps since1 out1 ds1)
        → (since ++ (if is_act_kind d then without_acts books ps else p ∷ without_acts books ps) ≡ all_traces ds) × ActionsDid functions cells books ds
    kind_turned (Act h n new sends) since out [] m = absurd m
    kind_turned (Act h n new sends) since out (d ∷ ds) m =
        let x = m.4 in
        let r = next [] m.2 ds m.5 in (
          ap (λ l. since ++ l) r.0 ∙ ap (λ l. l ++ all_traces ds) (sym m.0),
          (
            runs_did (take p.at (books p.book)) d x.action m.1 x.sound (handed_eaten x.result x.held m.1 (meaning_after cells functions books (take p.at (books p.book)) g d.turns x.action d.trace) x.means) x.noted,
            x.calm,
            r.1,
          ),
        )
    kind_turned (Read c) since out ds m = joined since out ds m
    kind_turned (Commit at view ws sends) since out ds m = joined since out ds m
    kind_turned (Retry from c cause) since out ds m = joined since out ds m
    kind_turned (Fail at view) since out ds m = joined since out ds m
    kind_turned (Refused at view h) since out ds m = joined since out ds m
    kind_turned (Send x) since out ds m = joined since out ds m
    kind_turned (SendRefused h) since out ds m = joined since out ds m
    kind_turned (Swap new) since out ds m = joined since out ds m
    kind_turned (Broke at) since out ds m = joined since out ds m

  pub acts_turned : (ps since : List Place) (out : List ℕ) (ds : List ActionDid) → InTurn ps since out ds → Turned ps since ds
  acts_turned [] since out ds h = end_turned since out ds h
  acts_turned (p ∷ ps) since out ds h = go (nth (books p.book) p.at) (λ since1 out1 ds1 k. acts_turned ps since1 out1 ds1 k) h
    where
      go : (o : Option Event) → ((since1 : List Place) (out1 : List ℕ) (ds1 : List ActionDid) → InTurn ps since1 out1 ds1 → Turned ps since1 ds1) → OfEvent o (λ e. EventMeans cells functions books g p e.kind since out ds (λ since1 out1 ds1. InTurn ps since1 out1 ds1)) → (since ++ (if is_act o then without_acts books ps else p ∷ without_acts books ps) ≡ all_traces ds) × ActionsDid functions cells books ds
      go None next m = absurd m
      go (Some e) next m = kind_turned p ps next e.kind since out ds m
