-- Where an audit agrees and all commits are covered, these are as if the transactions had run one after the other.
use Rattle.std.proofs.Common.{◌≡◌, ◌<◌, ℕ, zero, suc, ◌+◌, ◌&&◌, ◌||◌, Bool, true, false, List, [], ◌∷◌, ◌++◌, length, length-append, Option, Some, None, refl, sym, ap, ◌∙◌, subst, arith, if◌then◌else◌, ◌≤◌, take, append_assoc}
use Rattle.std.specs.Prelude.{not, nat_lt, ◌-◌}
use Rattle.txs_value_data.specs.Places.{nth}
use Rattle.txs_value_cell.specs.Cells.{validators_of}
use Rattle.txs_value_cell.specs.declared.cell.CellDefinition.{CellDefinition}
use Rattle.txs_value_data.specs.declared.value.Value.{Value}
use Rattle.txs_world_protocol.specs.declared.event.Event.{Event}
use Rattle.txs_world_protocol.specs.declared.event.EventKind.{EventKind}
use Rattle.txs_world_protocol.specs.declared.event.EventKind.TheVariants.{Read, Commit, Retry, Fail, Refused, Send, SendRefused, Act, Swap, Broke}
use Rattle.txs_world_book.specs.Book.{opening, actors}
use Rattle.txs_world_book.specs.Served.{cells_of}
use Rattle.txs_tree_meaning.proofs.Callable.{both}
use Rattle.txs_tree_meaning.specs.Marked.{MarkedProgram}
use Rattle.txs_tree_meaning.specs.Sound.{Sound}
use Rattle.txs_tree_meaning.specs.Thread.{TxRun}
use Rattle.txs_tree_meaning.specs.Tree.{PlainFunction, PlainProgram, PlainThread}
use Rattle.txs_theorem_threads.specs.Noted.{txs_of}
use Rattle.txs_theorem_runs.specs.Shared.{seen_in}
use Rattle.txs_theorem_runs.specs.Told.{Place, TraceHolds, seen_before, seen_of}
use Rattle.txs_theorem_runs.specs.Transactions.{SaidAt, SaidIf, SaidOf}
use Rattle.txs_theorem_serial.proofs.Together.{agents_many, runs_are_serial, said_both, with_acts}
use Rattle.txs_theorem_serial.specs.Serial.{is_covered, RunOf, RunsOf}
use Rattle.txs_theorem_serial.specs.Whole.{all_covered, ThreadDid, OneByOne, all_txs, is_act, is_act_kind, without_acts, AgentDid}
use Rattle.std.proofs.lemmas.Bool.{lt-ltb, le-ltb}
use Rattle.std.proofs.lemmas.Bool.Decides.{nat_tests}
use Rattle.txs_value_cell.specs.Agents.{agents_from}
use Rattle.txs_value_cell.specs.declared.action.Action.{Action}
use Rattle.txs_value_data.specs.declared.value.CellId.{CellId}
use Rattle.txs_world.specs.Store.{next_action}
use Rattle.txs_theorem_threads.specs.FollowsAgent.{SoundAction}
use Rattle.txs_theorem_threads.specs.RepliesFit.{HasEatenAll}
use Rattle.txs_theorem_runs.specs.Agents.{ActionDid, EventMeans, OfEvent, ActsUpTo, ActsInTurn, meaning_after}
use Rattle.txs_theorem_runs.specs.Full.{EndsFull}
use Rattle.txs_theorem_serial.proofs.Turned.{runs_did, handed_eaten, acts_turned}
use Rattle.txs_theorem_audit.specs.Audited.{PlainActorReport, PlainReport, PlainTerms, books_of, Agrees, Finding, Fine, and_then, check}
use Rattle.txs_theorem_audit.specs.Explained.{meaning_of, ThreadExplained, AgentExplained}
use Rattle.txs_theorem_audit.specs.Laws.{OwnRuns, AllCovered, SerialIsOneByOne}
use Rattle.txs_theorem_audit.specs.Verdict.{atoms_from, fits_sizes, traces_found, store_found, atoms_found, ends_found, order_found, threads_found, agents_found, is_end, is_full_stop, is_commit, covered_if, covered_all, are_serial, found, verdict, action_after, agents_serial, action_covered, kind_covered, event_covered, acts_covered}
use Rattle.txs_theorem_audit.proofs.Agreeing.{traces_hold, store_legal, thread_parts, each_fine, sized_of, trace_named, EachTurns, acts_mean, acts_told, full_told, agents_fine}
use Rattle.txs_theorem_audit.proofs.Findings.{answer_fine, and_fine, check_fine, not_there}
use Rattle.txs_theorem_audit.proofs.Listing.{there_is, within, in_front, behind}

-- ---- one thread, or one action

module _ (functions : List PlainFunction) (held : Option (List Action)) (n : ℕ) (cells : List CellDefinition) (books : ℕ → List Event) where
  abbrev Runs : List Place → List TxRun → Type 0
  Runs ps xs = RunsOf functions (validators_of cells) held n (seen_of cells books ps) xs

  abbrev Covered : List Place → List TxRun → Type 0
  Covered ps xs = SaidOf all_covered books ps xs

  covered_none : (e : Event) (rest : List TxRun → Bool) (xs : List TxRun) → is_end e.kind ≡ false → covered_if (Some e) rest xs ≡ true → rest xs ≡ true
  covered_none e rest [] k h = h
  covered_none e rest (x ∷ xs) k h = sym (ap (λ b. if b then (not (is_commit e.kind) || is_covered x.state) && rest xs else rest (x ∷ xs)) k) ∙ h

  covered_one : (e : Event) (rest : List TxRun → Bool) (x : TxRun) (xs : List TxRun) → is_end e.kind ≡ true → covered_if (Some e) rest (x ∷ xs) ≡ true → ((not (is_commit e.kind) || is_covered x.state) ≡ true) × (rest xs ≡ true)
  covered_one e rest x xs k h = both (not (is_commit e.kind) || is_covered x.state) (rest xs) (sym (ap (λ b. if b then (not (is_commit e.kind) || is_covered x.state) && rest xs else rest (x ∷ xs)) k) ∙ h)

  covered_step : (p : Place) (ps : List Place) (e : Event) (d : EventKind) → e.kind ≡ d → (R Q C : ℕ → Value) → ((ys : List TxRun) → Runs ps ys → covered_all books ps ys ≡ true → Covered ps ys) → (xs : List TxRun)
      → RunOf functions (validators_of cells) held n p.book d R Q C (λ ys. Runs ps ys) xs → covered_if (Some e) (λ ys. covered_all books ps ys) xs ≡ true → SaidAt all_covered p d (λ ys. Covered ps ys) xs
  covered_step p ps e (Read c) k R Q C next xs r u = next xs r (covered_none e (λ ys. covered_all books ps ys) xs (ap is_end k) u)
  covered_step p ps e (Commit at view ws sends) k R Q C next [] r u = absurd r
  covered_step p ps e (Commit at view ws sends) k R Q C next (x ∷ xs) r u =
      let y = covered_one e (λ ys. covered_all books ps ys) x xs (ap is_end k) u in
      (sym (ap (λ b. not b || is_covered x.state) (ap is_commit k)) ∙ y.0, next xs r.1 y.1)
  covered_step p ps e (Retry since c cause) k R Q C next xs r u = next xs r (covered_none e (λ ys. covered_all books ps ys) xs (ap is_end k) u)
  covered_step p ps e (Fail at view) k R Q C next xs r u = next xs r (covered_none e (λ ys. covered_all books ps ys) xs (ap is_end k) u)
  covered_step p ps e (Refused at view g) k R Q C next [] r u = absurd r
  covered_step p ps e (Refused at view g) k R Q C next (x ∷ xs) r u = (tt, next xs r.1 (covered_one e (λ ys. covered_all books ps ys) x xs (ap is_end k) u).1)
  covered_step p ps e (Send x) k R Q C next xs r u = next xs r (covered_none e (λ ys. covered_all books ps ys) xs (ap is_end k) u)
  covered_step p ps e (SendRefused g) k R Q C next xs r u = next xs r (covered_none e (λ ys. covered_all books ps ys) xs (ap is_end k) u)
  covered_step p ps e (Act g j new sends) k R Q C next xs r u = next xs r (covered_none e (λ ys. covered_all books ps ys) xs (ap is_end k) u)
  covered_step p ps e (Swap new) k R Q C next xs r u = next xs r (covered_none e (λ ys. covered_all books ps ys) xs (ap is_end k) u)
  covered_step p ps e (Broke at) k R Q C next xs r u = next xs r (covered_none e (λ ys. covered_all books ps ys) xs (ap is_end k) u)

  covered_said : (ps : List Place) (xs : List TxRun) → Runs ps xs → covered_all books ps xs ≡ true → Covered ps xs
  covered_said [] xs r u = r
  covered_said (p ∷ ps) xs r u = go (nth (books p.book) p.at) r u (λ ys s v. covered_said ps ys s v)
    where
      go : (o : Option Event) → RunsOf functions (validators_of cells) held n (seen_before cells books p o (seen_of cells books ps)) xs → covered_if o (λ ys. covered_all books ps ys) xs ≡ true
          → ((ys : List TxRun) → Runs ps ys → covered_all books ps ys ≡ true → Covered ps ys) → SaidIf all_covered p o (λ ys. Covered ps ys) xs
      go None s v next = next xs s v
      go (Some e) s v next = covered_step p ps e e.kind refl (seen_in cells p.book (books p.book) p.at e.kind).R (seen_in cells p.book (books p.book) p.at e.kind).Q (seen_in cells p.book (books p.book) p.at e.kind).C next xs s v

-- each commit of these threads is covered
covered_each : (p : PlainProgram) (r : PlainReport) (n : ℕ) (ts : List PlainThread) (rans : List PlainActorReport) → are_serial p r n ts rans ≡ true → (i : ℕ) (t : PlainThread) (ran : PlainActorReport) → nth ts i ≡ Some t → nth rans i ≡ Some ran
    → covered_all (books_of r) ran.trace (txs_of (meaning_of p r t ran n)) ≡ true
covered_each p r n [] rans s i t ran there here = not_there there
covered_each p r n (u ∷ ts) [] s i t ran there here = not_there here
covered_each p r n (u ∷ ts) (x ∷ xs) s zero t ran there here =
    let c = both (covered_all (books_of r) x.trace (txs_of (meaning_of p r u x n))) (are_serial p r n ts xs) s in
    let one : u ≡ t = cc in
    let two : x ≡ ran = cc in
    subst (λ (w : PlainActorReport). covered_all (books_of r) w.trace (txs_of (meaning_of p r t w n)) ≡ true) two (subst (λ (v : PlainThread). covered_all (books_of r) x.trace (txs_of (meaning_of p r v x n)) ≡ true) one c.0)
covered_each p r n (u ∷ ts) (x ∷ xs) s (suc i) t ran there here =
    covered_each p r n ts xs (both (covered_all (books_of r) x.trace (txs_of (meaning_of p r u x n))) (are_serial p r n ts xs) s).1 i t ran there here

-- ---- the actions of an agent

-- each commit of the actions of these agents is covered
covered_agents : (p : PlainProgram) (r : PlainReport) (n : ℕ) (gs : List CellId) (rans : List PlainActorReport) → agents_serial p r n gs rans ≡ true → (i : ℕ) (g : CellId) (ran : PlainActorReport) → nth gs i ≡ Some g → nth rans i ≡ Some ran → acts_covered p r n g [] ran.trace ≡ true
covered_agents p r n [] rans s i g ran there here = not_there there
covered_agents p r n (f ∷ fs) [] s i g ran there here = not_there here
covered_agents p r n (f ∷ fs) (x ∷ xs) s zero g ran there here =
    let c = both (acts_covered p r n f [] x.trace) (agents_serial p r n fs xs) s in
    let one : f ≡ g = cc in
    let two : x ≡ ran = cc in
    subst (λ (w : PlainActorReport). acts_covered p r n g [] w.trace ≡ true) two (subst (λ (v : CellId). acts_covered p r n v [] x.trace ≡ true) one c.0)
covered_agents p r n (f ∷ fs) (x ∷ xs) s (suc i) g ran there here = covered_agents p r n fs xs (both (acts_covered p r n f [] x.trace) (agents_serial p r n fs xs) s).1 i g ran there here

module _ (p : PlainProgram) (r : PlainReport) (n : ℕ) (sound : Sound p) (marks : MarkedProgram p) (g : CellId) where
  abbrev InTurn : List Place → List Place → List ℕ → List ActionDid → Type 0
  InTurn qs since out ds = ActsInTurn p.cells p.functions (books_of r) g qs since out ds

  abbrev Said : List Place → List TxRun → Type 0
  Said ps xs = SaidOf all_covered (books_of r) ps xs

  abbrev without : List Place → List Place
  without ps = without_acts (books_of r) ps

  -- one action, after these events of the store's book
  one_covered : (done : List Event) (d : ActionDid) (x : Action) (since : List Place) (out : List ℕ) → SoundAction p.functions x → HasEatenAll out (meaning_after p.cells p.functions (books_of r) done g d.turns x d.trace)
      → d.txs ≡ txs_of (meaning_after p.cells p.functions (books_of r) done g d.turns x d.trace) → d.trace ≡ since → d.turns ≡ n → action_covered p r n done g since (Some x) ≡ true → Said since d.txs
  one_covered done d x since out fits eats noted at few covered =
      let runs : RunsOf p.functions (validators_of p.cells) (Some []) d.turns (seen_of p.cells (books_of r) d.trace) d.txs = runs_did p.cells p.functions (books_of r) g sound.functions sound.cells marks.functions done d x out fits eats noted in
      let same : d.txs ≡ txs_of (action_after p n done g x (seen_of p.cells (books_of r) since)) =
      noted ∙ ap (λ ps. txs_of (action_after p d.turns done g x (seen_of p.cells (books_of r) ps))) at ∙ ap (λ m. txs_of (action_after p m done g x (seen_of p.cells (books_of r) since))) few in
      let moved : RunsOf p.functions (validators_of p.cells) (Some []) n (seen_of p.cells (books_of r) since) d.txs =
      subst (λ m. RunsOf p.functions (validators_of p.cells) (Some []) m (seen_of p.cells (books_of r) since) d.txs) few (subst (λ ps. RunsOf p.functions (validators_of p.cells) (Some []) d.turns (seen_of p.cells (books_of r) ps) d.txs) at runs) in
      covered_said p.functions (Some []) n p.cells (books_of r) since d.txs moved (ap (covered_all (books_of r) since) same ∙ covered)

  end_covered : (since : List Place) (out : List ℕ) (ds : List ActionDid) → InTurn [] since out ds → EachTurns n ds → acts_covered p r n g since [] ≡ true → Said (since ++ []) (all_txs ds)
  end_covered since out [] h few c = subst (λ l. Said (l ++ []) []) (sym h.0) tt
  end_covered since out (d ∷ []) h few c =
      let x = h.1 in
      said_both all_covered (books_of r) since [] d.txs [] (one_covered r.book d x.action since (out ++ x.rest) x.sound x.means x.noted h.0 few.0 (subst (λ o. action_covered p r n r.book g since o ≡ true) x.next c)) tt
  end_covered since out (d ∷ e ∷ ds) h few c = absurd h

  module _ (q : Place) (qs : List Place) (next : (since : List Place) (out : List ℕ) (ds : List ActionDid) → InTurn qs since out ds → EachTurns n ds → acts_covered p r n g since qs ≡ true → Said (since ++ without qs) (all_txs ds)) where
    abbrev go_covered : List Place → Bool
    go_covered since = acts_covered p r n g since qs

    joined : (since : List Place) (out : List ℕ) (ds : List ActionDid) → InTurn qs (since ++ q ∷ []) out ds → EachTurns n ds → go_covered (since ++ q ∷ []) ≡ true → Said (since ++ q ∷ without qs) (all_txs ds)
    joined since out ds m few c = subst (λ l. Said l (all_txs ds)) (append_assoc since (q ∷ []) (without qs)) (next (since ++ q ∷ []) out ds m few c)

    kind_covers : (d : EventKind) (since : List Place) (out : List ℕ) (ds : List ActionDid) → EventMeans p.cells p.functions (books_of r) g q d since out ds (λ since1 out1 ds1. InTurn qs since1 out1 ds1) → EachTurns n ds → kind_covered p r n q g since d go_covered ≡ true
        → Said (since ++ (if is_act_kind d then without qs else q ∷ without qs)) (all_txs ds)
    kind_covers (Act h number new sends) since out [] m few c = absurd m
    kind_covers (Act h number new sends) since out (d ∷ ds) m few c =
        let done = take q.at (books_of r q.book) in
        let x = m.4 in
        let z = both (action_covered p r n done g since (next_action (cells_of p.cells) done g)) (go_covered []) c in
        let eats = handed_eaten x.result x.held m.1 (meaning_after p.cells p.functions (books_of r) done g d.turns x.action d.trace) x.means in
        said_both all_covered (books_of r) since (without qs) d.txs (all_txs ds) (one_covered done d x.action since m.1 x.sound eats x.noted m.0 few.0 (subst (λ o. action_covered p r n done g since o ≡ true) x.next z.0)) (next [] m.2 ds m.5 few.1 z.1)
    kind_covers (Read c) since out ds m few h = joined since out ds m few h
    kind_covers (Commit at view ws sends) since out ds m few h = joined since out ds m few h
    kind_covers (Retry from c cause) since out ds m few h = joined since out ds m few h
    kind_covers (Fail at view) since out ds m few h = joined since out ds m few h
    kind_covers (Refused at view f) since out ds m few h = joined since out ds m few h
    kind_covers (Send x) since out ds m few h = joined since out ds m few h
    kind_covers (SendRefused f) since out ds m few h = joined since out ds m few h
    kind_covers (Swap new) since out ds m few h = joined since out ds m few h
    kind_covers (Broke at) since out ds m few h = joined since out ds m few h

  acts_said : (qs since : List Place) (out : List ℕ) (ds : List ActionDid) → InTurn qs since out ds → EachTurns n ds → acts_covered p r n g since qs ≡ true → Said (since ++ without qs) (all_txs ds)
  acts_said [] since out ds h few c = end_covered since out ds h few c
  acts_said (q ∷ qs) since out ds h few c = go (nth (books_of r q.book) q.at) (λ since1 out1 ds1 k f d. acts_said qs since1 out1 ds1 k f d) h c
    where
      go : (o : Option Event) → ((since1 : List Place) (out1 : List ℕ) (ds1 : List ActionDid) → InTurn qs since1 out1 ds1 → EachTurns n ds1 → acts_covered p r n g since1 qs ≡ true → Said (since1 ++ without qs) (all_txs ds1)) → OfEvent o (λ e. EventMeans p.cells p.functions (books_of r) g q e.kind since out ds (λ since1 out1 ds1. InTurn qs since1 out1 ds1)) → event_covered p r n q g since o (λ since1. acts_covered p r n g since1 qs) ≡ true
          → Said (since ++ (if is_act o then without qs else q ∷ without qs)) (all_txs ds)
      go None next m c1 = absurd m
      go (Some e) next m c1 = kind_covers q qs next e.kind since out ds m few c1

-- ---- all actors

-- the trace of a thread, and its transactions
trace_at : Option PlainActorReport → List Place
trace_at None = []
trace_at (Some ran) = ran.trace

runs_at : PlainProgram → PlainReport → ℕ → Option PlainThread → Option PlainActorReport → List TxRun
runs_at p r n None o = []
runs_at p r n (Some t) None = []
runs_at p r n (Some t) (Some ran) = txs_of (meaning_of p r t ran n)

module _ (p : PlainProgram) (w : PlainTerms) (r : PlainReport) (n : ℕ) (sound : Sound p) (marks : MarkedProgram p) (agrees : verdict p w r n ≡ Agrees true) where
  abbrev traces : Finding
  traces = traces_found (books_of r) (suc (length r.atom_books)) 0 (r.threads ++ r.agents)

  abbrev threads : Finding
  threads = threads_found p r n 0 p.threads r.threads

  abbrev agents : Finding
  agents = agents_found p r n (length p.threads) (agents_from 0 p.cells) r.agents

  abbrev atoms : Finding
  atoms = atoms_found p r (atoms_from 0 p.cells)

  -- the tests behind the books
  abbrev last : Finding
  last = and_then (ends_found p w r) (and_then (order_found p r) (and_then threads agents))

  all_fine : (found p w r n ≡ Fine) × ((are_serial p r n p.threads r.threads && agents_serial p r n (agents_from 0 p.cells) r.agents) ≡ true)
  all_fine = answer_fine (found p w r n) (are_serial p r n p.threads r.threads && agents_serial p r n (agents_from 0 p.cells) r.agents) true agrees

  all_serial : (are_serial p r n p.threads r.threads ≡ true) × (agents_serial p r n (agents_from 0 p.cells) r.agents ≡ true)
  all_serial = both (are_serial p r n p.threads r.threads) (agents_serial p r n (agents_from 0 p.cells) r.agents) all_fine.1

  both_sized : (check (fits_sizes p r) 0 0 ≡ Fine) × (and_then traces (and_then (store_found p r) (and_then atoms last)) ≡ Fine)
  both_sized = and_fine (check (fits_sizes p r) 0 0) (and_then traces (and_then (store_found p r) (and_then atoms last))) all_fine.0

  both_traced : (traces ≡ Fine) × (and_then (store_found p r) (and_then atoms last) ≡ Fine)
  both_traced = and_fine traces (and_then (store_found p r) (and_then atoms last)) both_sized.1

  both_stored : (store_found p r ≡ Fine) × (and_then atoms last ≡ Fine)
  both_stored = and_fine (store_found p r) (and_then atoms last) both_traced.1

  both_last : (threads ≡ Fine) × (agents ≡ Fine)
  both_last =
      and_fine threads agents
      (and_fine (order_found p r) (and_then threads agents) (and_fine (ends_found p w r) (and_then (order_found p r) (and_then threads agents)) (and_fine atoms last both_stored.1).1).1).1

  abbrev gs : List CellId
  gs = agents_from 0 p.cells

  -- what an agent did for its actions
  agent_did : (i : ℕ) (g : CellId) (ran : PlainActorReport) → nth gs i ≡ Some g → nth r.agents i ≡ Some ran
      → (x : AgentExplained p r g ran) × AgentDid p.functions p.cells (books_of r) (length p.threads + i) ran.trace x.did × SaidOf all_covered (books_of r) (without_acts (books_of r) ran.trace) (all_txs x.did)
  agent_did i g ran there here =
      let many = (sized_of p r (check_fine (fits_sizes p r) 0 0 both_sized.0)).threads in
      let z : 0 + (length r.threads + i) ≡ length p.threads + i = omega (arith, many) in
      let entry : nth (r.threads ++ r.agents) (length r.threads + i) ≡ Some ran = behind r.threads r.agents i ∙ here in
      let traced : TraceHolds (books_of r) (length p.threads + i) ran.trace = subst (λ b. TraceHolds (books_of r) b ran.trace) z (traces_hold r 0 (r.threads ++ r.agents) both_traced.0 (length r.threads + i) ran entry) in
      let f = agents_fine p r n (length p.threads) gs r.agents both_last.1 i g ran there here in
      let y = acts_mean p r n f.0 sound marks g 0 ran.trace [] [] ran (trace_named (books_of r) (length p.threads + i) ran.trace traced) tt f.1 in
      let full = is_full_stop ran.outcome in
      let told = acts_told p r n f.0 sound marks g full ran.trace [] y.1 y.3 y.4 in
      let turned = acts_turned p.cells p.functions (books_of r) g sound.functions sound.cells marks.functions ran.trace [] y.1 y.3 told in (
        record {
          unended = y.0;
          did = y.3;
          acts = subst (λ l. ActsInTurn p.cells p.functions (books_of r) g ran.trace [] l y.3) (sym y.2) told;
          full = λ e. subst (λ l. ActsUpTo p.cells p.functions (books_of r) g (EndsFull p.cells p.functions (books_of r) g) ran.trace [] l y.3) (sym y.2) (full_told p r n f.0 sound marks g full (ap is_full_stop e) ran.trace [] y.1 y.3 y.4);
        },
        record { traced = traced; parted = turned.0; did = turned.1 },
        acts_said p r n sound marks g ran.trace [] y.1 y.3 told y.5 (covered_agents p r n gs r.agents all_serial.1 i g ran there here),
      )

  -- the same by number, where there is such an agent
  agent_txs : (i : ℕ) (o : Option CellId) (e : Option PlainActorReport) → nth gs i ≡ o → nth r.agents i ≡ e → List TxRun
  agent_txs i None e there here = []
  agent_txs i (Some g) None there here = []
  agent_txs i (Some g) (Some ran) there here = all_txs (agent_did i g ran there here).0.did

  abbrev trace : ℕ → List Place
  trace a = trace_at (nth (r.threads ++ r.agents) a)

  runs : ℕ → List TxRun
  runs a = if nat_lt a (length p.threads) then runs_at p r n (nth p.threads a) (nth r.threads a) else agent_txs (a - length p.threads) (nth gs (a - length p.threads)) (nth r.agents (a - length p.threads)) refl refl

  below_so : (a : ℕ) → a < length p.threads → runs a ≡ runs_at p r n (nth p.threads a) (nth r.threads a)
  unfolding runs
  below_so a lt = ap (λ b. if b then runs_at p r n (nth p.threads a) (nth r.threads a) else agent_txs (a - length p.threads) (nth gs (a - length p.threads)) (nth r.agents (a - length p.threads)) refl refl) (lt-ltb a (length p.threads) lt)

  behind_so : (i : ℕ) → runs (length p.threads + i) ≡ agent_txs i (nth gs i) (nth r.agents i) refl refl
  unfolding runs
  behind_so i =
      let z : (length p.threads + i) - length p.threads ≡ i = omega arith in
      ap (λ b. if b then runs_at p r n (nth p.threads (length p.threads + i)) (nth r.threads (length p.threads + i)) else agent_txs ((length p.threads + i) - length p.threads) (nth gs ((length p.threads + i) - length p.threads)) (nth r.agents ((length p.threads + i) - length p.threads)) refl refl)
      (le-ltb (length p.threads + i) (length p.threads) (omega arith)) ∙ ap (λ j. agent_txs j (nth gs j) (nth r.agents j) refl refl) z

  abbrev Did : ℕ → List Place → List TxRun → Type 0
  Did a ps xs = ThreadDid p.functions n p.cells (books_of r) a ps xs × SaidOf all_covered (books_of r) ps xs

  did_one : (a : ℕ) (t : PlainThread) (ran : PlainActorReport) → nth p.threads a ≡ Some t → nth r.threads a ≡ Some ran → Did a ran.trace (txs_of (meaning_of p r t ran n))
  did_one a t ran there here =
      let f = each_fine p r n 0 p.threads r.threads both_last.0 a t ran there here in
      let parts = thread_parts p r sound marks n f.0 a t ran there f.1 in
      let covered = covered_each p r n p.threads r.threads all_serial.0 a t ran there here in
      let z : 0 + a ≡ a = omega arith in (
        record {
          traced = subst (λ b. TraceHolds (books_of r) b ran.trace) z (traces_hold r 0 (r.threads ++ r.agents) both_traced.0 a ran (in_front r.threads r.agents a ran here));
          runs = parts.runs;
          calm = parts.calm;
        },
        covered_said p.functions None n p.cells (books_of r) ran.trace (txs_of (meaning_of p r t ran n)) parts.runs covered,
      )

  did : (a : ℕ) → a < length p.threads → Did a (trace a) (runs a)
  unfolding trace_at runs_at
  did a lt =
      let t = there_is p.threads a lt in
      let sizes = (sized_of p r (check_fine (fits_sizes p r) 0 0 both_sized.0)).threads in
      let ran = there_is r.threads a (omega (arith, lt, sizes)) in
      let entry : nth (r.threads ++ r.agents) a ≡ Some ran.0 = in_front r.threads r.agents a ran.0 ran.1 in
      subst (λ xs. Did a (trace a) xs) (sym (below_so a lt))
      (subst (λ o. Did a (trace_at o) (runs_at p r n (nth p.threads a) (nth r.threads a))) (sym entry)
      (subst (λ o. Did a ran.0.trace (runs_at p r n (nth p.threads a) o)) (sym ran.1) (subst (λ o. Did a ran.0.trace (runs_at p r n o (Some ran.0))) (sym t.1) (did_one a t.0 ran.0 t.1 ran.1))))

  -- an agent, by its number
  abbrev ActsDid : ℕ → List Place → List TxRun → Type 0
  ActsDid a ps xs = (ds : List ActionDid) × AgentDid p.functions p.cells (books_of r) a ps ds × (xs ≡ all_txs ds) × SaidOf all_covered (books_of r) (without_acts (books_of r) ps) xs

  by_number : (i : ℕ) (o : Option CellId) (e : Option PlainActorReport) (there : nth gs i ≡ o) (here : nth r.agents i ≡ e) → i < length gs → i < length r.agents → ActsDid (length p.threads + i) (trace_at e) (agent_txs i o e there here)
  unfolding trace_at agent_txs
  by_number i None e there here lt few = let g = there_is gs i lt in not_there (sym there ∙ g.1)
  by_number i (Some g) None there here lt few = let x = there_is r.agents i few in not_there (sym here ∙ x.1)
  by_number i (Some g) (Some ran) there here lt few = let d = agent_did i g ran there here in (d.0.did, d.1, refl, d.2)

  acted : (a : ℕ) → length p.threads ≤ a → a < actors (length p.threads) (cells_of p.cells) → ActsDid a (trace a) (runs a)
  acted a le lt =
      let i = a - length p.threads in
      let z : length p.threads + i ≡ a = omega (arith, le) in
      let sizes = sized_of p r (check_fine (fits_sizes p r) 0 0 both_sized.0) in
      let many = agents_many 0 p.cells in
      let few : i < length gs = omega (arith, lt, le, many) in
      let entries = sizes.agents in
      let threads_many = sizes.threads in
      let w : length r.threads + i ≡ length p.threads + i = omega (arith, threads_many) in
      let entry : nth (r.threads ++ r.agents) (length p.threads + i) ≡ nth r.agents i = sym (ap (nth (r.threads ++ r.agents)) w) ∙ behind r.threads r.agents i in
      subst (λ b. ActsDid b (trace b) (runs b)) z
      (subst (λ o. ActsDid (length p.threads + i) (trace_at o) (runs (length p.threads + i))) (sym entry)
      (subst (λ xs. ActsDid (length p.threads + i) (trace_at (nth r.agents i)) xs) (sym (behind_so i)) (by_number i (nth gs i) (nth r.agents i) refl refl few (omega (arith, few, entries)))))

  -- there are no other transactions
  none_behind : (i : ℕ) (o : Option CellId) (e : Option PlainActorReport) (there : nth gs i ≡ o) (here : nth r.agents i ≡ e) → length gs ≤ i → agent_txs i o e there here ≡ []
  unfolding agent_txs
  none_behind i None e there here le = refl
  none_behind i (Some g) None there here le = refl
  none_behind i (Some g) (Some ran) there here le = let lt = within gs i g there in absurd (omega (arith, le, lt))

  others : (a : ℕ) → actors (length p.threads) (cells_of p.cells) ≤ a → runs a ≡ []
  others a le =
      let i = a - length p.threads in
      let many = agents_many 0 p.cells in
      let z : length p.threads + i ≡ a = omega (arith, le) in
      subst (λ b. runs b ≡ []) z (behind_so i ∙ none_behind i (nth gs i) (nth r.agents i) refl refl (omega (arith, le, many)))

  -- these are the program's own
  own_thread : (a : ℕ) (t : PlainThread) (ran : PlainActorReport) → nth p.threads a ≡ Some t → nth r.threads a ≡ Some ran → (x : ThreadExplained p r t ran) × (runs a ≡ txs_of (meaning_of p r t ran x.turns))
  unfolding runs_at
  own_thread a t ran there here =
      let f = each_fine p r n 0 p.threads r.threads both_last.0 a t ran there here in
      let parts = thread_parts p r sound marks n f.0 a t ran there f.1 in (
        record { turns = n; ends = parts.ends; least = parts.least; calm = parts.calm; full = λ e. (n, parts.full e) },
        below_so a (within p.threads a t there) ∙ ap (λ o. runs_at p r n o (nth r.threads a)) there ∙ ap (λ o. runs_at p r n (Some t) o) here,
      )

  own_acts : (i : ℕ) (o : Option CellId) (e : Option PlainActorReport) (there : nth gs i ≡ o) (here : nth r.agents i ≡ e) (g : CellId) (ran : PlainActorReport) → o ≡ Some g → e ≡ Some ran → (x : AgentExplained p r g ran) × (agent_txs i o e there here ≡ all_txs x.did)
  unfolding agent_txs
  own_acts i None e there here g ran is was = not_there is
  own_acts i (Some f) None there here g ran is was = not_there was
  own_acts i (Some f) (Some u) there here g ran is was =
      let one : f ≡ g = cc in
      let two : u ≡ ran = cc in
      let txs = all_txs (agent_did i f u there here).0.did in
      subst (λ (w : PlainActorReport). (x : AgentExplained p r g w) × (txs ≡ all_txs x.did)) two
      (subst (λ (v : CellId). (x : AgentExplained p r v u) × (txs ≡ all_txs x.did)) one ((agent_did i f u there here).0, refl))

  own : OwnRuns p r runs
  own = record {
    threads = own_thread;
    agents = λ i g ran there here.
        (let x = own_acts i (nth gs i) (nth r.agents i) refl refl g ran there here in
        (x.0, behind_so i ∙ x.1));
  }

  -- and each commit is covered
  covered_trace : (a : ℕ) → a < actors (length p.threads) (cells_of p.cells) → SaidOf all_covered (books_of r) (trace a) (runs a)
  covered_trace a lt = test (nat_lt a (length p.threads)) refl
    where
      test : (b : Bool) → nat_lt a (length p.threads) ≡ b → SaidOf all_covered (books_of r) (trace a) (runs a)
      test true it = (did a (grind (arith, nat_tests, it))).1
      test false it =
          let h = acted a (grind (arith, nat_tests, it)) lt in
          with_acts all_covered (books_of r) (trace a) (runs a) h.3

  covered : AllCovered r runs
  unfolding trace_at
  covered a ran there =
      let sizes = sized_of p r (check_fine (fits_sizes p r) 0 0 both_sized.0) in
      let threads_many = sizes.threads in
      let agents_entries = sizes.agents in
      let many = agents_many 0 p.cells in
      let lt = within (r.threads ++ r.agents) a ran there in
      let sum = length-append r.threads r.agents in
      subst (λ o. SaidOf all_covered (books_of r) (trace_at o) (runs a)) there (covered_trace a (omega (arith, lt, sum, threads_many, agents_entries, many)))

  in_order : OneByOne p.functions (validators_of p.cells) (length p.threads) runs (opening (cells_of p.cells)) r.book
  in_order = runs_are_serial p.functions p.cells (length p.threads) (books_of r) (λ a. n) trace runs sound.functions marks.functions (store_legal p r both_stored.0) did acted others

pub serial_is_one_by_one : SerialIsOneByOne
serial_is_one_by_one p w r n sound marks agrees = (runs p w r n sound marks agrees, own p w r n sound marks agrees, covered p w r n sound marks agrees, in_order p w r n sound marks agrees)
