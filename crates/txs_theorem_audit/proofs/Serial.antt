-- Each covered commit of a report that a program explains is serial.
use Rattle.std.proofs.Common.{◌≡◌, ℕ, zero, suc, List, [], ◌∷◌, ◌++◌, length, Some, None, sym, ap, ◌∙◌, subst}
use Rattle.std.proofs.lemmas.List.{append-nil}
use Rattle.txs_value_data.specs.Places.{nth}
use Rattle.txs_value_cell.specs.declared.cell.CellDefinition.{CellDefinition}
use Rattle.txs_world_protocol.specs.SeenEvent.{SeenEvent}
use Rattle.txs_world_protocol.specs.declared.event.Event.{Event}
use Rattle.txs_value_cell.specs.Cells.{Validators, validators_of}
use Rattle.txs_value_data.specs.declared.value.Value.{Value}
use Rattle.txs_tree_meaning.specs.Meaning.{Completion, Completes, Recurs, Faults, Retries, Waits, OutOfTurns, Invalid}
use Rattle.txs_tree_meaning.specs.Thread.{TxRun, ThreadState}
use Rattle.txs_tree_meaning.specs.Tree.{PlainFunction}
use Rattle.txs_theorem_threads.specs.FollowsAll.{source_of}
use Rattle.txs_theorem_threads.specs.Noted.{txs_of}
use Rattle.txs_theorem_serial.proofs.Noting.{threads_note}
use Rattle.txs_theorem_runs.specs.Agents.{ActionDid}
use Rattle.txs_theorem_runs.specs.Told.{seen_of}
use Rattle.txs_theorem_runs.specs.Transactions.{SaidOf, undisturbed}
use Rattle.txs_theorem_serial.proofs.Together.{commits_serial, action_serial}
use Rattle.txs_theorem_serial.proofs.Turned.{acts_turned}
use Rattle.txs_theorem_serial.specs.Serial.{RunsOf, Noted, EndsNoted}
use Rattle.txs_theorem_serial.specs.Whole.{ActionsDid, ThreadDid}
use Rattle.txs_theorem_audit.specs.Audited.{books_of}
use Rattle.txs_theorem_audit.specs.Explained.{events_of, meaning_of}
use Rattle.txs_theorem_audit.specs.Laws.{ExplainedIsSerial, ExplainedActionsAreSerial}
use Rattle.txs_theorem_audit.proofs.Agreeing.{sound_thread, marked_thread}
use Rattle.txs_theorem_audit.proofs.Waiting.{HasEatenUp, ends_up}
use Rattle.txs_theorem_audit.proofs.Findings.{not_there}
use Rattle.txs_theorem_audit.proofs.Listing.{in_front}

module _ (functions : List PlainFunction) (validators : Validators) (n : ℕ) (es : List SeenEvent) where
  noted_all : (todo : List SeenEvent) (txs : List TxRun) → Noted functions validators None n es todo txs → todo ≡ [] → RunsOf functions validators None n es txs
  noted_all todo txs h e = subst (λ l. RunsOf functions validators None n l txs) (sym (h.split ∙ ap (λ l. h.eaten ++ l) e ∙ append-nil h.eaten)) h.runs

  -- where all events are eaten, each commit and refusal has its transaction
  runs_up : (m : Completion ThreadState Value) → HasEatenUp m → EndsNoted functions validators None n es m → RunsOf functions validators None n es (txs_of m)
  runs_up (Completes v t) h k = noted_all t.todo t.txs k h
  runs_up (Recurs vs t) h k = absurd h
  runs_up (Faults f t) h k = noted_all t.todo t.txs k h
  runs_up (Retries t) h k = absurd h
  runs_up (Waits t) h k = noted_all t.todo t.txs k h
  runs_up (OutOfTurns t) h k = noted_all t.todo t.txs k h
  runs_up Invalid h k = absurd h

pub explained_is_serial : ExplainedIsSerial
explained_is_serial p w r sound marks x a t ran there here =
    let e = x.threads a t ran there here in
    let s = source_of p t in
    let m = meaning_of p r t ran e.turns in
    let main = sound_thread p.functions p.threads a t sound.threads there in
    let noted = threads_note s e.turns (events_of p r ran) (record { functions = sound.functions; cells = sound.cells; main = main.0 }) marks.functions (marked_thread p.threads a t marks.threads there) in
    let did : ThreadDid p.functions e.turns p.cells (books_of r) a ran.trace (txs_of m) = record {
      traced = x.traced a ran (in_front r.threads r.agents a ran here);
      runs = runs_up p.functions (validators_of p.cells) e.turns (events_of p r ran) m (ends_up ran.outcome ran.printed m e.ends) noted;
      calm = e.calm;
    } in
    commits_serial p.functions e.turns p.cells _ (books_of r) a ran.trace (txs_of m) sound.functions marks.functions x.legal did

-- what was done for one of these actions
did_at : (functions : List PlainFunction) (cells : List CellDefinition) (books : ℕ → List Event) (ds : List ActionDid) (j : ℕ) (d : ActionDid) → ActionsDid functions cells books ds → nth ds j ≡ Some d
    → RunsOf functions (validators_of cells) (Some []) d.turns (seen_of cells books d.trace) d.txs × SaidOf (undisturbed cells books) books d.trace d.txs
did_at functions cells books [] j d h there = not_there there
did_at functions cells books (x ∷ xs) zero d h there =
    let same : x ≡ d = cc in
    subst (λ (y : ActionDid). RunsOf functions (validators_of cells) (Some []) y.turns (seen_of cells books y.trace) y.txs × SaidOf (undisturbed cells books) books y.trace y.txs) same (h.0, h.1)
did_at functions cells books (x ∷ xs) (suc j) d h there = did_at functions cells books xs j d h.2 there

pub explained_actions_are_serial : ExplainedActionsAreSerial
explained_actions_are_serial p w r sound marks x i g ran there here j d at =
    let e = x.agents i g ran there here in
    let turned = acts_turned p.cells p.functions (books_of r) g sound.functions sound.cells marks.functions ran.trace [] ran.printed e.did e.acts in
    let one = did_at p.functions p.cells (books_of r) e.did j d turned.1 at in
    action_serial p.functions d.turns p.cells (length p.threads) (books_of r) d.trace d.txs sound.functions marks.functions x.legal one.0 one.1
