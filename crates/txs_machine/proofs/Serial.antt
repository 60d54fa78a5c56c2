-- The commits of a report that a program explains are as if its transactions had run one after the other, where all are covered.
use Rattle.std.proofs.Common.{◌≡◌, ◌<◌, ◌≤◌, ◌+◌, ◌-◌, ℕ, zero, suc, true, false, nat_lt, List, [], ◌∷◌, ◌++◌, length, Option, Some, None, refl, sym, ap, ◌∙◌, subst, arith}
use Rattle.std.proofs.lemmas.List.{append-nil}
use Rattle.std.proofs.lemmas.Bool.Decides.{nat_tests}
use Rattle.txs_world_protocol.specs.SeenEvent.{SeenEvent}
use Rattle.txs_world_protocol.specs.declared.event.Event.{Event}
use Rattle.txs_world_protocol.specs.declared.event.Outcome.{Outcome}
use Rattle.txs_world_protocol.specs.declared.event.Outcome.TheVariants as outcome
use Rattle.txs_value_data.specs.Places.{nth}
use Rattle.txs_value_cell.specs.Cells.{Validators, validators_of}
use Rattle.txs_value_cell.specs.Agents.{agents_from}
use Rattle.txs_value_cell.specs.declared.cell.CellDefinition.{CellDefinition}
use Rattle.txs_value_data.specs.declared.value.CellId.{CellId}
use Rattle.txs_value_data.specs.declared.value.Value.{Value}
use Rattle.txs_tree_meaning.specs.Known.{known}
use Rattle.txs_tree_meaning.specs.Marked.{Marked, MarkedThreads, MarkedProgram}
use Rattle.txs_tree_meaning.specs.Meaning.{Completion, Completes, Recurs, Faults, Retries, Waits, OutOfTurns, Invalid}
use Rattle.txs_tree_meaning.specs.Sound.{Sound, SoundThread, SoundThreads}
use Rattle.txs_tree_meaning.specs.Thread.{TxRun, ThreadState}
use Rattle.txs_tree_meaning.specs.Tree.{PlainFunction, PlainThread, PlainProgram}
use Rattle.txs_theorem_threads.specs.FollowsAll.{source_of}
use Rattle.txs_theorem_threads.specs.Noted.{txs_of}
use Rattle.txs_theorem_threads.specs.RepliesFit.{HasEatenAll}
use Rattle.txs_world_book.specs.Book.{actors}
use Rattle.txs_world_book.specs.Served.{cells_of}
use Rattle.txs_theorem_runs.proofs.Asker.{agent_of}
use Rattle.txs_theorem_runs.specs.Agents.{ActionDid}
use Rattle.txs_theorem_runs.specs.Shared.{Shared}
use Rattle.txs_theorem_runs.specs.Told as told_by
use Rattle.txs_theorem_runs.specs.Told.{seen_of}
use Rattle.txs_theorem_runs.specs.Transactions.{Says, SaidOf, undisturbed}
use Rattle.txs_theorem_serial.specs.Serial.{RunsOf, Noted, EndsNoted}
use Rattle.txs_theorem_serial.specs.Whole.{all_covered, serial_if_covered, all_traces, all_txs, without_acts, ActionsDid, AgentDid, ThreadDid}
use Rattle.txs_theorem_serial.proofs.Noting.{threads_note}
use Rattle.txs_theorem_serial.proofs.Together.{action_serial, agents_many, commits_serial, runs_are_serial, said_both}
use Rattle.txs_theorem_serial.proofs.Turned.{acts_turned}
use Rattle.txs_machine.specs.RunOver.{places_of}
use Rattle.txs_machine.specs.RunTheorem.{meant_by, ExplainsSo, ExplainsThread, ExplainsAgent, Explains, ExplainsAll}
use Rattle.txs_machine.specs.Serial.{transactions, SaidOfAll, SaidOfActions, CoveredAreSerial, InOrder, ReportsAreSerial}
use Rattle.txs_world_protocol.specs.declared.report.ActorReport.{ActorReport}
use Rattle.txs_machine.proofs.Together.{agent_indexed}

abbrev IsThere : {A : Type 0} → Option A → Type 0
IsThere None = ⊥
IsThere (Some a) = Unit {0}

-- ---- a thread

-- the meaning of a thread that it explains has eaten all events
abbrev HasEatenUp : Completion ThreadState Value → Type 0
HasEatenUp (Completes v t) = t.todo ≡ []
HasEatenUp (Recurs vs t) = ⊥
HasEatenUp (Faults f t) = t.todo ≡ []
HasEatenUp (Retries t) = ⊥
HasEatenUp (Waits t) = t.todo ≡ []
HasEatenUp (OutOfTurns t) = t.todo ≡ []
HasEatenUp Invalid = ⊥

eaten_up : (out : List ℕ) (r : Completion ThreadState Value) → HasEatenAll out r → HasEatenUp r
eaten_up out (Completes v t) h = h.0
eaten_up out (Recurs vs t) h = absurd h
eaten_up out (Faults f t) h = h.0
eaten_up out (Retries t) h = absurd h
eaten_up out (Waits t) h = h.0
eaten_up out (OutOfTurns t) h = h.0
eaten_up out Invalid h = absurd h

explained_up : (o : Option Outcome) (out : List ℕ) (r : Completion ThreadState Value) → ExplainsSo o out r → HasEatenUp r
explained_up None out r h = eaten_up (out ++ h.0) r h.1
explained_up (Some outcome.Done) out r h = subst HasEatenUp (sym h.2) h.3
explained_up (Some (outcome.Failed f)) out r h = subst HasEatenUp (sym h.1) h.2
explained_up (Some outcome.StepsSpent) out r h = eaten_up (out ++ h.0) r h.1
explained_up (Some outcome.JournalFull) out r h = eaten_up (out ++ h.0) r h.1
explained_up (Some outcome.Memory) out r h = eaten_up (out ++ h.0) r h.1

-- so each commit and refusal has its transaction
noted_all : (functions : List PlainFunction) (validators : Validators) (n : ℕ) (es todo : List SeenEvent) (txs : List TxRun) → Noted functions validators None n es todo txs → todo ≡ [] → RunsOf functions validators None n es txs
noted_all functions validators n es todo txs h e = subst (λ l. RunsOf functions validators None n l txs) (sym (h.split ∙ ap (λ l. h.eaten ++ l) e ∙ append-nil h.eaten)) h.runs

runs_of : (functions : List PlainFunction) (validators : Validators) (n : ℕ) (es : List SeenEvent) (r : Completion ThreadState Value) → HasEatenUp r → EndsNoted functions validators None n es r → RunsOf functions validators None n es (txs_of r)
runs_of functions validators n es (Completes v t) h k = noted_all functions validators n es t.todo t.txs k h
runs_of functions validators n es (Recurs vs t) h k = absurd h
runs_of functions validators n es (Faults f t) h k = noted_all functions validators n es t.todo t.txs k h
runs_of functions validators n es (Retries t) h k = absurd h
runs_of functions validators n es (Waits t) h k = noted_all functions validators n es t.todo t.txs k h
runs_of functions validators n es (OutOfTurns t) h k = noted_all functions validators n es t.todo t.txs k h
runs_of functions validators n es Invalid h k = absurd h

-- ---- the threads of a program

sound_thread : (fs : List PlainFunction) (ts : List PlainThread) (i : ℕ) (t : PlainThread) → SoundThreads (known fs) ts → nth ts i ≡ Some t → SoundThread (known fs) t
sound_thread fs [] i t h there = absurd (subst IsThere (sym there) tt)
sound_thread fs (u ∷ ts) zero t h there = let same : u ≡ t = cc in subst (SoundThread (known fs)) same h.0
sound_thread fs (u ∷ ts) (suc i) t h there = sound_thread fs ts i t h.1 there

marked_thread : (ts : List PlainThread) (i : ℕ) (t : PlainThread) → MarkedThreads ts → nth ts i ≡ Some t → Marked false t.body
marked_thread [] i t h there = absurd (subst IsThere (sym there) tt)
marked_thread (u ∷ ts) zero t h there = let same : u ≡ t = cc in subst (λ (x : PlainThread). Marked false x.body) same h.0
marked_thread (u ∷ ts) (suc i) t h there = marked_thread ts i t h.1 there

there_is : {A : Type 0} (xs : List A) (i : ℕ) → i < length xs → (x : A) × (nth xs i ≡ Some x)
there_is [] i lt = absurd (omega (arith, lt))
there_is (x ∷ xs) zero lt = (x, refl)
there_is (x ∷ xs) (suc i) lt = there_is xs i (omega (arith, lt))

abbrev or_else : {A : Type 0} → A → Option A → A
or_else d None = d
or_else d (Some a) = a

module _ (p : PlainProgram) (sh : Shared) (rans : List ActorReport) (sound : Sound p) (marks : MarkedProgram p) (e : Explains p sh rans) where
  -- what a thread did, by what explains it
  did_one : (k : ℕ) (t : PlainThread) (ran : ActorReport) (there : nth p.threads k ≡ Some t) (x : ExplainsThread p k t sh.books ran) → ThreadDid p.functions x.turns p.cells sh.books k (places_of ran.trace.items) (transactions p t sh ran x.turns)
  did_one k t ran there x =
      let s = source_of p t in
      let es = seen_of p.cells sh.books (places_of ran.trace.items) in
      let m = meant_by p t sh.books ran.trace.items x.turns in
      let main = sound_thread p.functions p.threads k t sound.threads there in
      let noted = threads_note s x.turns es (record { functions = sound.functions; cells = sound.cells; main = main.0 }) marks.functions (marked_thread p.threads k t marks.threads there) in
      record { traced = x.traced; runs = runs_of p.functions (validators_of p.cells) x.turns es m (explained_up ran.outcome ran.printed.items m x.means) noted; calm = x.calm }

  covered_serial : SaidOfAll (λ n. serial_if_covered p.functions n p.cells sh.books) p sh rans e
  covered_serial k t ran there here =
      let x = e.each k t ran there here in
      commits_serial p.functions x.turns p.cells (length p.threads) sh.books k (places_of ran.trace.items) (transactions p t sh ran x.turns) sound.functions marks.functions e.books.legal (did_one k t ran there x)

-- ---- its agents

past_end : {A : Type 0} (xs : List A) (i : ℕ) → nth xs (length xs + i) ≡ None
past_end [] i = refl
past_end (x ∷ xs) i = let e : suc (length xs) + i ≡ suc (length xs + i) = omega arith in ap (nth (x ∷ xs)) e ∙ past_end xs i

none_past : {A : Type 0} (xs : List A) (k : ℕ) → nth xs k ≡ None → length xs ≤ k
none_past [] k e = omega arith
none_past (x ∷ xs) zero e = absurd (subst IsThere e tt)
none_past (x ∷ xs) (suc k) e = let r = none_past xs k e in omega (arith, r)

there_within : {A : Type 0} (xs : List A) (i : ℕ) (x : A) → nth xs i ≡ Some x → i < length xs
there_within [] i x e = absurd (subst IsThere (sym e) tt)
there_within (y ∷ xs) zero x e = omega arith
there_within (y ∷ xs) (suc i) x e = let r = there_within xs i x e in omega (arith, r)

-- what was done for each action
did_at : (functions : List PlainFunction) (cells : List CellDefinition) (books : ℕ → List Event) (ds : List ActionDid) (j : ℕ) (d : ActionDid) → ActionsDid functions cells books ds → nth ds j ≡ Some d
    → RunsOf functions (validators_of cells) (Some []) d.turns (seen_of cells books d.trace) d.txs × SaidOf (undisturbed cells books) books d.trace d.txs
did_at functions cells books [] j d h there = absurd (subst IsThere (sym there) tt)
did_at functions cells books (c ∷ ds) zero d h there =
    subst (λ (x : ActionDid). RunsOf functions (validators_of cells) (Some []) x.turns (seen_of cells books x.trace) x.txs × SaidOf (undisturbed cells books) books x.trace x.txs) (ap (or_else c) there) (h.0, h.1)
did_at functions cells books (c ∷ ds) (suc j) d h there = did_at functions cells books ds j d h.2 there

-- what is said of each action is said of all that the agent did
all_said : (S : Says) (books : ℕ → List Event) (ds : List ActionDid) → ((j : ℕ) (d : ActionDid) → nth ds j ≡ Some d → SaidOf S books d.trace d.txs) → SaidOf S books (all_traces ds) (all_txs ds)
all_said S books [] h = tt
all_said S books (d ∷ ds) h = said_both S books d.trace (all_traces ds) d.txs (all_txs ds) (h 0 d refl) (all_said S books ds (λ j c there. h (suc j) c there))

module _ (p : PlainProgram) (sh : Shared) (rans agents : List ActorReport) (sound : Sound p) (marks : MarkedProgram p) (e : ExplainsAll p sh rans agents) where
  -- what an agent did, by what explains it
  agent_did : (k : ℕ) (g : CellId) (ran : ActorReport) (x : ExplainsAgent p k g sh.books ran) → AgentDid p.functions p.cells sh.books k (places_of ran.trace.items) x.did
  agent_did k g ran x =
      let t = acts_turned p.cells p.functions sh.books g sound.functions sound.cells marks.functions (places_of ran.trace.items) [] ran.printed.items x.did x.acts in
      record { traced = x.traced; parted = t.0; did = t.1 }

  actions_serial : SaidOfActions (λ n. serial_if_covered p.functions n p.cells sh.books) p sh rans agents e
  actions_serial i g ran there here j d found =
      let h = did_at p.functions p.cells sh.books (e.each i g ran there here).did j d (agent_did (length p.threads + i) g ran (e.each i g ran there here)).did found in
      action_serial p.functions d.turns p.cells (length p.threads) sh.books d.trace d.txs sound.functions marks.functions e.by_threads.books.legal h.0 h.1

  -- the trace and the transactions of an actor's entry, and of a thread's the bound
  record Picked (k : ℕ) : Type 0 where
    turns : ℕ
    trace : List told_by.Place
    runs : List TxRun
    noted : (t : PlainThread) (ran : ActorReport) → nth p.threads k ≡ Some t → nth rans k ≡ Some ran → (x : ExplainsThread p k t sh.books ran) × (runs ≡ transactions p t sh ran x.turns)
    by_actions : (j : ℕ) (g : CellId) (ran : ActorReport) → k ≡ length p.threads + j → nth (agents_from 0 p.cells) j ≡ Some g → nth agents j ≡ Some ran → (x : ExplainsAgent p (length p.threads + j) g sh.books ran) × (runs ≡ all_txs x.did)
    did : k < length p.threads → ThreadDid p.functions turns p.cells sh.books k trace runs × SaidOf all_covered sh.books trace runs
    acted : length p.threads ≤ k → k < actors (length p.threads) (cells_of p.cells)
        → (ds : List ActionDid) × AgentDid p.functions p.cells sh.books k trace ds × (runs ≡ all_txs ds) × SaidOf all_covered sh.books (without_acts sh.books trace) runs
    beyond : actors (length p.threads) (cells_of p.cells) ≤ k → runs ≡ []

  module _ (covered : SaidOfAll (λ n. all_covered) p sh rans e.by_threads) (covered_acts : SaidOfActions (λ n. all_covered) p sh rans agents e) where
    -- an agent's
    picked_agent : (i : ℕ) → Picked (length p.threads + i)
    picked_agent i = go (nth (agents_from 0 p.cells) i) refl (nth agents i) refl
      where
        k : ℕ
        k = length p.threads + i

        no_thread : nth p.threads (length p.threads + i) ≡ None
        no_thread = past_end p.threads i

        -- the agent is there
        some_agent : length p.threads ≤ length p.threads + i → length p.threads + i < actors (length p.threads) (cells_of p.cells) → (g : CellId) × (nth (agents_from 0 p.cells) i ≡ Some g)
        some_agent le lt =
            let no : nat_lt (length p.threads + i) (length p.threads) ≡ false = not_less (length p.threads + i) (length p.threads) le in
            let x = agent_of p.cells (length p.threads) (length p.threads + i) no (is_less (length p.threads + i) (actors (length p.threads) (cells_of p.cells)) lt) in
            let a = agent_indexed p.cells (length p.threads) x.agent x.has in
            let is = x.is ∙ a.2 in
            let same : a.0 ≡ i = omega (arith, is) in
            (x.agent, subst (λ m. nth (agents_from 0 p.cells) m ≡ Some x.agent) same a.1)
          where
            not_less : (m n : ℕ) → n ≤ m → nat_lt m n ≡ false
            not_less m n h = grind (arith, nat_tests, h)

            is_less : (m n : ℕ) → m < n → nat_lt m n ≡ true
            is_less m n h = grind (arith, nat_tests, h)

        index_same : (j : ℕ) → length p.threads + i ≡ length p.threads + j → i ≡ j
        index_same j same = omega (arith, same)

        go : (a : Option CellId) → nth (agents_from 0 p.cells) i ≡ a → (b : Option ActorReport) → nth agents i ≡ b → Picked (length p.threads + i)
        go None f b h = record {
          turns = 0;
          trace = [];
          runs = [];
          noted = λ t ran there here. absurd (subst IsThere (sym there ∙ no_thread) tt);
          by_actions = λ j g ran same there here. absurd (subst IsThere (sym there ∙ ap (nth (agents_from 0 p.cells)) (sym (index_same j same)) ∙ f) tt);
          did = λ lt. absurd (omega (arith, lt));
          acted = λ le lt. (let x = some_agent le lt in absurd (subst IsThere (sym x.1 ∙ f) tt));
          beyond = λ le. refl;
        }
        go (Some g) f None h = record {
          turns = 0;
          trace = [];
          runs = [];
          noted = λ t ran there here. absurd (subst IsThere (sym there ∙ no_thread) tt);
          by_actions = λ j d ran same there here. absurd (subst IsThere (sym here ∙ ap (nth agents) (sym (index_same j same)) ∙ h) tt);
          did = λ lt. absurd (omega (arith, lt));
          acted = λ le lt. (
              let many = e.one_each in
              let w = there_within (agents_from 0 p.cells) i g f in
              let x = there_is agents i (omega (arith, many, w)) in
              absurd (subst IsThere (sym x.1 ∙ h) tt));
          beyond = λ le. refl;
        }
        go (Some g) f (Some ran) h =
            let x = e.each i g ran f h in
            let w = agent_did (length p.threads + i) g ran x in
            record {
              turns = 0;
              trace = places_of ran.trace.items;
              runs = all_txs x.did;
              noted = λ t r there here. absurd (subst IsThere (sym there ∙ no_thread) tt);
              by_actions = λ j d r same there here. (
                  let is = index_same j same in
                  let one : g ≡ d = ap (or_else g) (sym f ∙ ap (nth (agents_from 0 p.cells)) is ∙ there) in
                  let two : ran ≡ r = ap (or_else ran) (sym h ∙ ap (nth agents) is ∙ here) in
                  subst (λ m. (y : ExplainsAgent p (length p.threads + m) d sh.books r) × (all_txs x.did ≡ all_txs y.did)) is
                  (subst (λ c. (y : ExplainsAgent p (length p.threads + i) c sh.books r) × (all_txs x.did ≡ all_txs y.did)) one
                  (subst (λ (u : ActorReport). (y : ExplainsAgent p (length p.threads + i) g sh.books u) × (all_txs x.did ≡ all_txs y.did)) two (x, refl))));
              did = λ lt. absurd (omega (arith, lt));
              acted = λ le lt. (
                x.did,
                w,
                refl,
                subst (λ ps. SaidOf all_covered sh.books ps (all_txs x.did)) (sym w.parted) (all_said all_covered sh.books x.did (λ j d found. covered_acts i g ran f h j d found)),
              );
              beyond = λ le. (let lt = there_within (agents_from 0 p.cells) i g f in let many = agents_many 0 p.cells in absurd (omega (arith, le, lt, many)));
            }

    picked : (k : ℕ) → Picked k
    picked k = go (nth p.threads k) refl (nth rans k) refl
      where
        no_agent : (t : PlainThread) → nth p.threads k ≡ Some t → (j : ℕ) → k ≡ length p.threads + j → ⊥
        no_agent t f j same = subst IsThere (sym f ∙ ap (nth p.threads) same ∙ past_end p.threads j) tt

        not_behind : (t : PlainThread) → nth p.threads k ≡ Some t → length p.threads ≤ k → ⊥
        not_behind t f le = let w = there_within p.threads k t f in absurd (omega (arith, w, le))

        go : (a : Option PlainThread) → nth p.threads k ≡ a → (b : Option ActorReport) → nth rans k ≡ b → Picked k
        go None f b g =
            let le = none_past p.threads k f in
            let is : length p.threads + (k - length p.threads) ≡ k = omega (arith, le) in
            subst Picked is (picked_agent (k - length p.threads))
        go (Some t) f None g = record {
          turns = 0;
          trace = [];
          runs = [];
          noted = λ u ran there here. absurd (subst IsThere (sym here ∙ g) tt);
          by_actions = λ j d ran same there here. absurd (no_agent t f j same);
          did = λ lt. (let many = e.by_threads.one_each in let x = there_is rans k (omega (arith, lt, many)) in absurd (subst IsThere (sym x.1 ∙ g) tt));
          acted = λ le lt. absurd (not_behind t f le);
          beyond = λ le. refl;
        }
        go (Some t) f (Some ran) g =
            let x = e.by_threads.each k t ran f g in
            record {
              turns = x.turns;
              trace = places_of ran.trace.items;
              runs = transactions p t sh ran x.turns;
              noted = λ u r there here. (
                  let one : t ≡ u = ap (or_else t) (sym f ∙ there) in
                  let two : ran ≡ r = ap (or_else ran) (sym g ∙ here) in
                  subst (λ (v : PlainThread). (y : ExplainsThread p k v sh.books r) × (transactions p t sh ran x.turns ≡ transactions p v sh r y.turns)) one
                  (subst (λ (w : ActorReport). (y : ExplainsThread p k t sh.books w) × (transactions p t sh ran x.turns ≡ transactions p t sh w y.turns)) two (x, refl)));
              by_actions = λ j d r same there here. absurd (no_agent t f j same);
              did = λ lt. (did_one p sh rans sound marks e.by_threads k t ran f x, covered k t ran f g);
              acted = λ le lt. absurd (not_behind t f le);
              beyond = λ le. absurd (not_behind t f (omega (arith, le)));
            }

    in_order : InOrder p sh rans agents
    in_order = record {
      runs = λ k. (picked k).runs;
      noted = λ k t ran there here. (picked k).noted t ran there here;
      noted_by_actions = λ i g ran there here. (picked (length p.threads + i)).by_actions i g ran refl there here;
      one_by_one = runs_are_serial p.functions p.cells (length p.threads) sh.books (λ k. (picked k).turns) (λ k. (picked k).trace) (λ k. (picked k).runs) sound.functions marks.functions e.by_threads.books.legal (λ k lt. (picked k).did lt) (λ k le lt. (picked k).acted le lt) (λ k le. (picked k).beyond le);
    }

pub covered_are_serial : CoveredAreSerial
covered_are_serial p sh threads agents sound marks e = (covered_serial p sh threads sound marks e.by_threads, actions_serial p sh threads agents sound marks e)

pub reports_are_serial : ReportsAreSerial
reports_are_serial p sh threads agents sound marks e covered covered_acts = in_order p sh threads agents sound marks e covered covered_acts
