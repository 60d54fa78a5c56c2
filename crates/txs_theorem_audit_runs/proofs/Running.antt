-- The report of a run that a program explains is explained as an audit asks.
use Rattle.std.proofs.Common.{◌≡◌, ◌≤◌, ℕ, zero, suc, ◌+◌, Bool, true, false, List, [], ◌∷◌, ◌++◌, length, map, Option, Some, None, refl, sym, ap, ◌∙◌, subst, arith, ⊎_elim, if◌then◌else◌}
use Rattle.std.proofs.lemmas.Bool.{false≢true, cases_lt}
use Rattle.txs_value_data.specs.Places.{nth}
use Rattle.txs_value_data.specs.declared.fault.Fault.{Fault}
use Rattle.txs_value_cell.specs.Agents.{agents_from, with_agent}
use Rattle.txs_value_cell.specs.Forms.{same_kind}
use Rattle.txs_value_cell.specs.declared.cell.CellDefinition.{CellDefinition}
use Rattle.txs_value_data.specs.declared.value.CellId.{CellId}
use Rattle.txs_value_data.specs.declared.value.CellKind.{CellKind}
use Rattle.txs_value_data.specs.declared.value.CellKind.TheVariants.{Ref, Atom, Agent}
use Rattle.txs_value_data.specs.declared.value.Value.{Value}
use Rattle.txs_world_protocol.specs.SeenEvent.{SeenEvent, atoms_below, home}
use Rattle.txs_world_protocol.specs.declared.event.Event.{Event}
use Rattle.txs_world_protocol.specs.declared.event.Outcome.{Outcome}
use Rattle.txs_world_protocol.specs.declared.event.Outcome.TheVariants as outcome
use Rattle.txs_world_protocol.specs.declared.report.ActorReport.{ActorReport}
use Rattle.txs_world_protocol.specs.declared.report.Report.{Report}
use Rattle.txs_world_book.specs.Atom.{LegalAtom, atom_after}
use Rattle.txs_world_book.specs.Book.{Legal, actors, has_cell, is_of_kind, mail_after, newest, opening}
use Rattle.txs_world_book.specs.Served.{cells_of}
use Rattle.txs_tree_meaning.proofs.Callable.{both}
use Rattle.txs_tree_meaning.specs.Meaning.{Completion, Completes, Recurs, Faults, Retries, Waits, OutOfTurns, Invalid}
use Rattle.txs_tree_meaning.specs.Sound.{Sound, SoundSource}
use Rattle.txs_tree_meaning.specs.Thread.{ThreadState, thread_meaning}
use Rattle.txs_tree_meaning.specs.Tree.{PlainProgram, PlainThread, ThreadSource}
use Rattle.txs_theorem_threads.specs.FollowsAll.{source_of}
use Rattle.txs_theorem_threads.specs.Noted.{txs_of}
use Rattle.txs_theorem_threads.specs.RepliesFit.{halted, HasWaited}
use Rattle.txs_theorem_runs.specs.Agents.{ActsUpTo, ActsInTurn}
use Rattle.txs_theorem_runs.specs.Full.{WaitsFull, EndsFull}
use Rattle.txs_theorem_runs.specs.Explains.{AreActors}
use Rattle.txs_theorem_runs.specs.Shared.{has_atom, is_atom, world_of}
use Rattle.txs_theorem_runs.specs.Told.{Place, TraceHolds, seen_of}
use Rattle.txs_theorem_runs.specs.Transactions.{SaidOf, undisturbed}
use Rattle.txs_world_shared.specs.Parts.{values_from, with_fault, faults_from}
use Rattle.txs_world_shared.specs.SharedState.{PlainShared, shared_of}
use Rattle.txs_machine.specs.Reported.{IsReportOf}
use Rattle.txs_machine.specs.RunOver.{places_of}
use Rattle.txs_machine.specs.RunTheorem.{meant_by, ExplainsSo, HasPrintedLeast, NeverEnds, ExplainsAll}
use Rattle.txs_theorem_audit.specs.Audited.{PlainActorReport, PlainReport, PlainTerms, place_of, ran_as, report_as, books_of}
use Rattle.txs_theorem_audit.specs.Explained.{Begins, Stopped, EndsAs, ThreadExplained, AtomExplained, AgentExplained, EndsTruly, IsExplained}
use Rattle.txs_theorem_audit.specs.Verdict.{atoms_from, printed_by, but_last, least_printed, report_links}
use Rattle.txs_theorem_audit.proofs.Agreeing.{sound_thread}
use Rattle.txs_theorem_audit.proofs.Beginning.{cut}
use Rattle.txs_theorem_audit.proofs.Differing.{settles}
use Rattle.txs_theorem_audit.specs.Laws.{DiffersIsNotExplained}
use Rattle.txs_theorem_serial.specs.Order.{IsOrdered}
use Rattle.txs_theorem_audit_runs.specs.OrderedRuns.{RunsAreOrdered}
use Rattle.txs_theorem_audit.proofs.Waiting.{HasEatenUp, ends_up, waits_front}
use Rattle.txs_theorem_audit.proofs.Findings.{not_there}
use Rattle.txs_theorem_audit.proofs.Listing.{there_is, within}
use Rattle.txs_theorem_audit_runs.specs.Runs.{RunsAreExplained, RunsNeverDiffer}
use Rattle.txs_theorem_audit_runs.proofs.Numbered as numbered
use Rattle.txs_theorem_audit_runs.proofs.Numbered.{many, mapped, either, places_same, many_atoms}
use Rattle.txs_theorem_audit_runs.proofs.Ending.{ends_truly}
use Rattle.txs_theorem_audit_runs.proofs.Ordering.{is_ordered}

-- ---- values and faults by number

nth_values : (value : CellId → Value) (n : ℕ) (ds : List CellDefinition) (k : ℕ) (d : CellDefinition) → nth ds k ≡ Some d → nth (values_from value n ds) k ≡ Some (value (record { kind = d.kind; number = n + k }))
nth_values value n [] k d h = not_there h
nth_values value n (c ∷ cs) zero d h =
    let same : c ≡ d = cc in
    let z : n ≡ n + 0 = omega arith in
    ap (λ (x : CellDefinition). Some (value (record { kind = x.kind; number = n }))) same ∙ ap (λ j. Some (value (record { kind = d.kind; number = j }))) z
nth_values value n (c ∷ cs) (suc k) d h =
    let z : suc n + k ≡ n + suc k = omega arith in
    nth_values value (suc n) cs k d h ∙ ap (λ j. Some (value (record { kind = d.kind; number = j }))) z

many_values : (value : CellId → Value) (n : ℕ) (ds : List CellDefinition) → length (values_from value n ds) ≡ length ds
many_values value n [] = refl
many_values value n (d ∷ ds) = ap suc (many_values value (suc n) ds)

nth_faults : (fault : ℕ → Option Fault) (n : ℕ) (ds : List CellDefinition) (i : ℕ) (g : CellId) → nth (agents_from n ds) i ≡ Some g → nth (faults_from fault n ds) i ≡ Some (fault g.number)
nth_faults fault n [] i g h = not_there h
nth_faults fault n (d ∷ ds) i g h = go d.kind i h (λ j k. nth_faults fault (suc n) ds j g k)
  where
    go : (k : CellKind) (i : ℕ) → nth (with_agent k n (agents_from (suc n) ds)) i ≡ Some g → ((j : ℕ) → nth (agents_from (suc n) ds) j ≡ Some g → nth (faults_from fault (suc n) ds) j ≡ Some (fault g.number)) → nth (with_fault fault k n (faults_from fault (suc n) ds)) i ≡ Some (fault g.number)
    go Ref i h next = next i h
    go Atom i h next = next i h
    go Agent zero h next = let same : record { kind = Agent; number = n } ≡ g = cc in ap (λ (x : CellId). Some (fault x.number)) same
    go Agent (suc i) h next = next i h

many_faults : (fault : ℕ → Option Fault) (n : ℕ) (ds : List CellDefinition) → length (faults_from fault n ds) ≡ length (agents_from n ds)
many_faults fault n [] = refl
many_faults fault n (d ∷ ds) = go d.kind (many_faults fault (suc n) ds)
  where
    go : (k : CellKind) → length (faults_from fault (suc n) ds) ≡ length (agents_from (suc n) ds) → length (with_fault fault k n (faults_from fault (suc n) ds)) ≡ length (with_agent k n (agents_from (suc n) ds))
    go Ref h = h
    go Atom h = h
    go Agent h = ap suc h

-- the definition of a cell that is there
cell_there : (ds : List CellDefinition) (k : CellKind) (j : ℕ) → is_of_kind k (nth (cells_of ds) j) ≡ true → (d : CellDefinition) × (nth ds j ≡ Some d) × (same_kind k d.kind ≡ true)
cell_there [] k j h = absurd (false≢true h)
cell_there (d ∷ ds) k zero h = (d, refl, h)
cell_there (d ∷ ds) k (suc j) h = cell_there ds k j h

atom_is : (k : CellKind) → same_kind k Atom ≡ true → k ≡ Atom
atom_is Ref h = absurd (false≢true h)
atom_is Atom h = refl
atom_is Agent h = absurd (false≢true h)

is_atom_too : (k : CellKind) → same_kind Atom k ≡ true → k ≡ Atom
is_atom_too Ref h = absurd (false≢true h)
is_atom_too Atom h = refl
is_atom_too Agent h = absurd (false≢true h)

-- ---- threads

ends_so : (o : Option Outcome) (out : List ℕ) (m : Completion ThreadState Value) → ExplainsSo o out m → EndsAs o out m
ends_so None out m h = h
ends_so (Some outcome.Done) out m h = h
ends_so (Some (outcome.Failed f)) out m h = h
ends_so (Some outcome.StepsSpent) out m h = h
ends_so (Some outcome.JournalFull) out m h = h
ends_so (Some outcome.Memory) out m h = h

never_ends : (o : Option Outcome) → NeverEnds o → Stopped o
never_ends None h = tt
never_ends (Some outcome.Done) h = absurd h
never_ends (Some (outcome.Failed f)) h = absurd h
never_ends (Some outcome.StepsSpent) h = tt
never_ends (Some outcome.JournalFull) h = tt
never_ends (Some outcome.Memory) h = tt

last_left : (hs : List SeenEvent) (e : SeenEvent) → but_last (hs ++ e ∷ []) ≡ hs
last_left [] e = refl
last_left (d ∷ []) e = refl
last_left (d ∷ c ∷ hs) e = ap (λ l. d ∷ l) (last_left (c ∷ hs) e)

least_before : (s : ThreadSource) (n : ℕ) (hs : List SeenEvent) (e : SeenEvent) → least_printed s n (hs ++ e ∷ []) ≡ printed_by (thread_meaning s n hs)
least_before s n [] e = refl
least_before s n (d ∷ hs) e = ap (λ l. printed_by (thread_meaning s n l)) (last_left (d ∷ hs) e)

-- a thread that has waited
waited : (least : List ℕ) (m : Completion ThreadState Value) → HasWaited least (halted m) → (u : ThreadState) × (m ≡ Waits u) × (printed_by m ≡ least)
waited least (Completes v u) h = absurd h
waited least (Recurs vs u) h = absurd h
waited least (Faults f u) h = absurd h
waited least (Retries u) h = absurd h
waited least (Waits u) h = (u, refl, h.1)
waited least (OutOfTurns u) h = absurd h
waited least Invalid h = absurd h

module _ (s : ThreadSource) (sound : SoundSource s) (n : ℕ) (out : List ℕ) where
  -- before the last event it has printed what this says, whatever the bound on loops
  same_least : (hs : List SeenEvent) (e : SeenEvent) (m : ℕ) (least : List ℕ) → HasEatenUp (thread_meaning s n (hs ++ e ∷ [])) → HasWaited least (halted (thread_meaning s m hs)) → least_printed s n (hs ++ e ∷ []) ≡ least
  same_least hs e m least up h =
      let w = waited least (thread_meaning s m hs) h in
      let u = waits_front e (thread_meaning s n hs) (thread_meaning s n (hs ++ e ∷ [])) (cut (e ∷ []) s n sound hs) up in
      let same : printed_by (thread_meaning s n hs) ≡ printed_by (thread_meaning s m hs) =
      ⊎_elim (λ lt. (let le : n ≤ m = omega (arith, lt) in ap printed_by (sym (settles s sound n m hs u.0 le u.1)))) (λ le. ap printed_by (settles s sound m n hs w.0 le w.1)) (cases_lt n m) in
      least_before s n hs e ∙ same ∙ w.2

  printed_least : (p : PlainProgram) (t : PlainThread) → s ≡ source_of p t → (es : List SeenEvent) → HasEatenUp (thread_meaning s n es) → HasPrintedLeast p t es out → Begins out (least_printed s n es)
  printed_least p t is es up h =
      ⊎_elim (λ e. subst (λ l. Begins out (least_printed s n l)) (sym e) (out, refl))
      (λ x.
      (let here : HasWaited x.4 (halted (thread_meaning s x.3 x.0)) = subst (λ (z : ThreadSource). HasWaited x.4 (halted (thread_meaning z x.3 x.0))) (sym is) x.5 in
      let least = same_least x.0 x.1 x.3 x.4 (subst (λ l. HasEatenUp (thread_meaning s n l)) x.2 up) here in
      subst (λ l. Begins out (least_printed s n l)) (sym x.2) (x.6, x.7 ∙ ap (λ l. l ++ x.6) (sym least)))) h

-- ---- the report

module _ (p : PlainProgram) (s : PlainShared) (r : Report) (sound : Sound p) (cells : s.cells ≡ p.cells) (of : IsReportOf s r) (x : ExplainsAll p (shared_of s) r.threads.items r.agents.items) where
  abbrev rep : PlainReport
  rep = report_as r

  abbrev N : ℕ → List Event
  N = (shared_of s).books

  same_books : N ≡ books_of rep
  same_books = numbered.same_books s r of

  -- ---- threads and agents

  thread_is : (a : ℕ) (t : PlainThread) (ran : ActorReport) → nth p.threads a ≡ Some t → nth r.threads.items a ≡ Some ran → ThreadExplained p rep t (ran_as ran)
  thread_is a t ran there here =
      let e = x.by_threads.each a t ran there here in
      let src = source_of p t in
      let main = sound_thread p.functions p.threads a t sound.threads there in
      let source_sound : SoundSource src = record { functions = sound.functions; cells = sound.cells; main = main.0 } in
      let n = e.turns in
      let o = ran.outcome in
      let out = ran.printed.items in
      let tr = places_same ran.trace.items in
      let on : (ℕ → List Event) → List Place → List SeenEvent = λ b ps. seen_of p.cells b ps in
      let ends : EndsAs o out (thread_meaning src n (on (books_of rep) (map place_of ran.trace.items))) =
      subst (λ b. EndsAs o out (thread_meaning src n (on b (map place_of ran.trace.items)))) same_books (subst (λ ps. EndsAs o out (thread_meaning src n (on N ps))) tr (ends_so o out (meant_by p t N ran.trace.items n) e.means)) in
      let least : HasPrintedLeast p t (on (books_of rep) (map place_of ran.trace.items)) out = subst (λ b. HasPrintedLeast p t (on b (map place_of ran.trace.items)) out) same_books (subst (λ ps. HasPrintedLeast p t (on N ps) out) tr e.least) in
      record {
        turns = n;
        ends = ends;
        least = λ st. printed_least src source_sound n out p t refl (on (books_of rep) (map place_of ran.trace.items)) (ends_up o out (thread_meaning src n (on (books_of rep) (map place_of ran.trace.items))) ends) least;
        calm = subst (λ b. SaidOf (undisturbed p.cells b) b (map place_of ran.trace.items) (txs_of (thread_meaning src n (on b (map place_of ran.trace.items))))) same_books
            (subst (λ ps. SaidOf (undisturbed p.cells N) N ps (txs_of (thread_meaning src n (on N ps)))) tr e.calm);
        full = λ stop. (let f = e.full stop in
            (f.0, subst (λ b. WaitsFull b out (thread_meaning src f.0 (on b (map place_of ran.trace.items)))) same_books (subst (λ ps. WaitsFull N out (thread_meaning src f.0 (on N ps))) tr f.1)));
      }

  trace_is : (a : ℕ) (ran : ActorReport) → TraceHolds N a (places_of ran.trace.items) → TraceHolds (books_of rep) a (map place_of ran.trace.items)
  trace_is a ran h = subst (λ b. TraceHolds b a (map place_of ran.trace.items)) same_books (subst (λ ps. TraceHolds N a ps) (places_same ran.trace.items) h)

  thread_traced : (a : ℕ) (ran : PlainActorReport) → nth rep.threads a ≡ Some ran → TraceHolds (books_of rep) a ran.trace
  thread_traced a ran h =
      let m = mapped ran_as r.threads.items a ran h in
      let lt = within r.threads.items a m.0 m.1 in
      let same = x.by_threads.one_each in
      let t = there_is p.threads a (omega (arith, lt, same)) in
      subst (λ (z : PlainActorReport). TraceHolds (books_of rep) a z.trace) m.2 (trace_is a m.0 (x.by_threads.each a t.0 m.0 t.1 m.1).traced)

  agent_traced : (a i : ℕ) (ran : PlainActorReport) → a ≡ length rep.threads + i → nth rep.agents i ≡ Some ran → TraceHolds (books_of rep) a ran.trace
  agent_traced a i ran e h =
      let m = mapped ran_as r.agents.items i ran h in
      let one = many ran_as r.threads.items in
      let same = x.by_threads.one_each in
      let z : length p.threads + i ≡ a = omega (arith, e, one, same) in
      let lt = within r.agents.items i m.0 m.1 in
      let agents = x.one_each in
      let g = there_is (agents_from 0 p.cells) i (omega (arith, lt, agents)) in
      subst (λ b. TraceHolds (books_of rep) b ran.trace) z (subst (λ (y : PlainActorReport). TraceHolds (books_of rep) (length p.threads + i) y.trace) m.2 (trace_is (length p.threads + i) m.0 (x.each i g.0 m.0 g.1 m.1).traced))

  -- ---- cells

  abbrev value : CellId → Value
  value c = world_of p.cells (home p.cells c) (N (home p.cells c)) (length (N (home p.cells c))) c.number

  abbrev fault : ℕ → Option Fault
  fault n = (mail_after (cells_of p.cells) (N 0) n).fault

  values_same : rep.cells ≡ values_from value 0 p.cells
  values_same = of.cells ∙ ap (λ ds. values_from (λ c. world_of ds (home ds c) (N (home ds c)) (length (N (home ds c))) c.number) 0 ds) cells

  faults_same : rep.failed ≡ faults_from fault 0 p.cells
  faults_same = of.failed ∙ ap (λ ds. faults_from (λ n. (mail_after (cells_of ds) (N 0) n).fault) 0 ds) cells

  value_is : (k : ℕ) (d : CellDefinition) → nth p.cells k ≡ Some d → same_kind d.kind Atom ≡ false → nth rep.cells k ≡ Some (newest (opening (cells_of p.cells)) rep.book k)
  value_is k d there kind =
      let z : 0 + k ≡ k = omega arith in
      let home_of : Bool → ℕ → ℕ = λ b j. if b then suc (atoms_below p.cells j) else 0 in
      ap (λ l. nth l k) values_same ∙ nth_values value 0 p.cells k d there ∙ ap (λ j. Some (value (record { kind = d.kind; number = j }))) z
      ∙ ap (λ b. Some (world_of p.cells (home_of b k) (N (home_of b k)) (length (N (home_of b k))) k)) kind
      ∙ ap (λ (b : ℕ → List Event). Some (newest (opening (cells_of p.cells)) (b 0) k)) same_books

  atom_value : (c : CellId) → has_atom p.cells c ≡ true → nth rep.cells c.number ≡ Some (atom_after (opening (cells_of p.cells) c.number) (books_of rep (home p.cells c)) (length (books_of rep (home p.cells c))))
  atom_value c has =
      let g = both (is_atom c) (has_cell (cells_of p.cells) c) has in
      let kind = atom_is c.kind g.0 in
      let d = cell_there p.cells Atom c.number (subst (λ k. is_of_kind k (nth (cells_of p.cells) c.number) ≡ true) kind g.1) in
      let own : d.0.kind ≡ c.kind = is_atom_too d.0.kind d.2 ∙ sym kind in
      let z : 0 + c.number ≡ c.number = omega arith in
      let at : home p.cells c ≡ suc (atoms_below p.cells c.number) = ap (λ k. if same_kind k Atom then suc (atoms_below p.cells c.number) else 0) kind in
      ap (λ l. nth l c.number) values_same ∙ nth_values value 0 p.cells c.number d.0 d.1 ∙ ap (λ j. Some (value (record { kind = d.0.kind; number = j }))) z ∙ ap (λ k. Some (value (record { kind = k; number = c.number }))) own
      ∙ ap (λ h. Some (world_of p.cells h (N h) (length (N h)) c.number)) at
      ∙ ap (λ h. Some (atom_after (opening (cells_of p.cells) c.number) (N h) (length (N h)))) (sym at)
      ∙ ap (λ (b : ℕ → List Event). Some (atom_after (opening (cells_of p.cells) c.number) (b (home p.cells c)) (length (b (home p.cells c))))) same_books

  atom_is_explained : (c : CellId) → has_atom p.cells c ≡ true → AtomExplained p rep c
  atom_is_explained c has = record {
    legal = subst (λ (b : ℕ → List Event). LegalAtom c (b (home p.cells c))) same_books (x.by_threads.books.atoms c has);
    by_actors = subst (λ (b : ℕ → List Event). AreActors (actors (length p.threads) (cells_of p.cells)) (b (home p.cells c))) same_books (x.by_threads.books.by_threads c has);
    value = atom_value c has;
  }

  -- ---- agents

  agent_is : (i : ℕ) (g : CellId) (ran : ActorReport) → nth (agents_from 0 p.cells) i ≡ Some g → nth r.agents.items i ≡ Some ran → AgentExplained p rep g (ran_as ran)
  agent_is i g ran there here =
      let e = x.each i g ran there here in
      let out = ran.printed.items in
      record {
        unended = never_ends ran.outcome e.unended;
        did = e.did;
        acts = subst (λ b. ActsInTurn p.cells p.functions b g (map place_of ran.trace.items) [] out e.did) same_books (subst (λ ps. ActsInTurn p.cells p.functions N g ps [] out e.did) (places_same ran.trace.items) e.acts);
        full = λ stop. subst (λ b. ActsUpTo p.cells p.functions b g (EndsFull p.cells p.functions b g) (map place_of ran.trace.items) [] out e.did) same_books
            (subst (λ ps. ActsUpTo p.cells p.functions N g (EndsFull p.cells p.functions N g) ps [] out e.did) (places_same ran.trace.items) (e.full stop));
      }

  is_explained : (w : PlainTerms) → EndsTruly p w rep → IsOrdered (books_of rep) (report_links p rep) → IsExplained p w rep
  is_explained w ends ordered = record {
    sized = record {
      threads = many ran_as r.threads.items ∙ x.by_threads.one_each;
      agents = many ran_as r.agents.items ∙ x.one_each;
      atoms = of.atoms ∙ many_atoms 0 s.cells ∙ ap (λ ds. length (atoms_from 0 ds)) cells;
      cells = ap length values_same ∙ many_values value 0 p.cells;
      failed = ap length faults_same ∙ many_faults fault 0 p.cells;
    };
    traced = λ a ran h. ⊎_elim (λ l. thread_traced a ran l) (λ e. agent_traced a e.0 ran e.1 e.2) (either rep.threads rep.agents a ran h);
    legal = subst (λ (b : ℕ → List Event). Legal (cells_of p.cells) (length p.threads) (b 0)) same_books x.by_threads.books.legal;
    values = value_is;
    failures = λ i g there. ap (λ l. nth l i) faults_same ∙ nth_faults fault 0 p.cells i g there ∙ ap (λ (b : ℕ → List Event). Some (mail_after (cells_of p.cells) (b 0) g.number).fault) same_books;
    atoms = atom_is_explained;
    ends = ends;
    ordered = ordered;
    threads = λ a t ran there h. (let m = mapped ran_as r.threads.items a ran h in subst (λ z. ThreadExplained p rep t z) m.2 (thread_is a t m.0 there m.1));
    agents = λ i g ran there h. (let m = mapped ran_as r.agents.items i ran h in subst (λ z. AgentExplained p rep g z) m.2 (agent_is i g m.0 there m.1));
  }

pub runs_are_explained : RunsAreOrdered → RunsAreExplained
runs_are_explained law p code w s r sound cells staged run x =
    is_explained p s r sound (run.state.cells ∙ cells) run.of x w (ends_truly p code w s r cells run) (is_ordered law p code w s r cells staged run)

pub runs_never_differ : DiffersIsNotExplained → RunsAreExplained → RunsNeverDiffer
runs_never_differ differs explained p code w s r n a i sound cells staged run x h = differs p w (report_as r) n a i sound h (explained p code w s r sound cells staged run x)
