-- What is found of a thread, by what its evaluator answers.
use Rattle.std.proofs.Common.{◌≡◌, ℕ, suc, zero, ◌<◌, ◌==◌, ◌&&◌, nat_lt, Bool, true, false, List, [], ◌∷◌, length, get_or, map, Some, Result, Ok, Err, IfOk, IfSome, refl, sym, ap, ◌∙◌, subst, arith, if◌then◌else◌}
use Rattle.std.proofs.lemmas.Bool.{eqb-true, ltb-true}
use Rattle.txs_value_data.specs.Places.{nth}
use Rattle.txs_value_data.specs.declared.value.Value.{Value}
use Rattle.txs_world_protocol.specs.SeenEvent.{SeenEvent}
use Rattle.txs_world_protocol.specs.declared.event.Event.{Event}
use Rattle.txs_world_protocol.specs.declared.event.Place as event
use Rattle.txs_world_protocol.specs.declared.report.ActorReport.{ActorReport}
use Rattle.txs_world_protocol.specs.declared.report.Report.{Report}
use Rattle.txs_world_book.specs.Served.{cells_of}
use Rattle.txs_world_book.specs.declared.cell.StoreCell.{StoreCell}
use Rattle.txs_tree_meaning.specs.Meaning.{Completion, Completes, Recurs, Faults, Retries, Waits, OutOfTurns, Invalid}
use Rattle.txs_tree_meaning.specs.Right.{is_wrong, right_meaning}
use Rattle.txs_tree_meaning.specs.Sound.{Sound}
use Rattle.txs_tree_meaning.specs.Thread.{ThreadState, thread_meaning}
use Rattle.txs_tree_meaning.specs.Tree.{PlainProgram, PlainThread, ThreadSource}
use Rattle.txs_tree_meaning.specs.View.{Parts, program_of, threads_of}
use Rattle.txs_tree_meaning.specs.declared.node.Thread.{Thread}
use Rattle.txs_tree_eval.specs.Told.{Tells, thread_source}
use Rattle.txs_tree_eval_node.specs.Events.{seen_events}
use Rattle.txs_tree_eval_node.specs.declared.seen.Seen.{Seen}
use Rattle.txs_tree_eval.specs.declared.meaning.ThreadMeaning.{ThreadMeaning}
use Rattle.txs_tree_eval.specs.declared.transaction.TxMeaning.{TxMeaning}
use Rattle.txs_theorem_runs.specs.Told.{seen_of}
use Rattle.txs_theorem_threads.specs.FollowsAll.{source_of}
use Rattle.txs_theorem_threads.specs.Noted.{txs_of}
use Rattle.txs_theorem_audit.specs.Audited.{PlainActorReport, PlainReport, books_of, place_of, ran_as, report_as, Finding, Fine, Off, Short, and_then}
use Rattle.txs_theorem_audit.specs.Pieces.{OfThread, piece_finding, piece_serial, thread_finding, thread_serial}
use Rattle.txs_theorem_audit.specs.Verdict.{calm_found, covered_all, end_found, fits_sizes, full_found, is_full_book, is_full_stop, noted_by, thread_ends, thread_found}
use Rattle.txs_theorem_audit.specs.Evaluated.{CalmBy, CoveredBy, FullBy, NotedBy, calm_found_by, covered_all_by, full_by}
use Rattle.txs_audit_book.specs.Judged.{is_fine}
use Rattle.txs_audit_book.proofs.Sources.{source_sound, source_told}

-- ---- findings

-- what is fine is Fine
pub fine_is : (f : Finding) → is_fine f ≡ true → f ≡ Fine
fine_is Fine e = refl
fine_is (Off a i) e = absurd cc
fine_is (Short a i) e = absurd cc

pub no_fine : {A : Type 0} (f : Finding) → is_fine f ≡ false → f ≡ Fine → A
no_fine Fine n e = absurd cc
no_fine (Off a i) n e = absurd cc
no_fine (Short a i) n e = absurd cc

-- what isn't fine is found first
pub first_found : (f g : Finding) → is_fine f ≡ false → and_then f g ≡ f
first_found Fine g e = absurd cc
first_found (Off a i) g e = refl
first_found (Short a i) g e = refl

-- a thread whose end is fine has a meaning
full_means : (books : ℕ → List Event) (s : ThreadSource) (n a : ℕ) (es : List SeenEvent) (out : List ℕ) (m : Completion ThreadState Value) → full_found books s n a es out m ≡ Fine → is_wrong m ≡ false
full_means books s n a es out (Completes v t) e = refl
full_means books s n a es out (Recurs vs t) e = absurd cc
full_means books s n a es out (Faults f t) e = refl
full_means books s n a es out (Retries t) e = absurd cc
full_means books s n a es out (Waits t) e = refl
full_means books s n a es out (OutOfTurns t) e = refl
full_means books s n a es out Invalid e = absurd cc

end_means : (s : ThreadSource) (n a : ℕ) (es : List SeenEvent) (ran : PlainActorReport) (m : Completion ThreadState Value) → end_found s n a es ran m ≡ Fine → is_wrong m ≡ false
end_means s n a es ran (Completes v t) e = refl
end_means s n a es ran (Recurs vs t) e = absurd cc
end_means s n a es ran (Faults f t) e = refl
end_means s n a es ran (Retries t) e = absurd cc
end_means s n a es ran (Waits t) e = refl
end_means s n a es ran (OutOfTurns t) e = refl
end_means s n a es ran Invalid e = absurd cc

ends_mean : (books : ℕ → List Event) (s : ThreadSource) (n a : ℕ) (es : List SeenEvent) (ran : PlainActorReport) (m : Completion ThreadState Value) → thread_ends books s n a es ran m ≡ Fine → is_wrong m ≡ false
ends_mean books s n a es ran m = go (is_full_stop ran.outcome)
  where
    go : (b : Bool) → (if b then full_found books s n a es ran.printed m else end_found s n a es ran m) ≡ Fine → is_wrong m ≡ false
    go true = full_means books s n a es ran.printed m
    go false = end_means s n a es ran m

-- what is found of transactions by another spelling of the trace and of what is answered
pub told_found : (cells : List StoreCell) (books : ℕ → List Event) (a : ℕ) (f : Finding) (ps qs : List event.Place) (ms ns : List TxMeaning) → ps ≡ qs → ms ≡ ns
    → f ≡ calm_found_by cells books a 0 (map place_of ps) ms → f ≡ calm_found_by cells books a 0 (map place_of qs) ns
told_found cells books a f ps qs ms ns p m is = is ∙ ap (λ l. calm_found_by cells books a 0 (map place_of l) ms) p ∙ ap (λ l. calm_found_by cells books a 0 (map place_of qs) l) m

pub told_covered : (books : ℕ → List Event) (b : Bool) (ps qs : List event.Place) (ms ns : List TxMeaning) → ps ≡ qs → ms ≡ ns → b ≡ covered_all_by books (map place_of ps) ms → b ≡ covered_all_by books (map place_of qs) ns
told_covered books b ps qs ms ns p m is = is ∙ ap (λ l. covered_all_by books (map place_of l) ms) p ∙ ap (λ l. covered_all_by books (map place_of qs) l) m

-- ---- a thread and its entry

module _ (p : PlainProgram) (r : PlainReport) (n a : ℕ) (t : PlainThread) (ran : PlainActorReport) where
  abbrev source : ThreadSource
  source = source_of p t

  abbrev events : List SeenEvent
  events = seen_of p.cells (books_of r) ran.trace

  abbrev meaning : Completion ThreadState Value
  meaning = thread_meaning source n events

  -- the transactions that are found are those that are answered
  calm_is : CalmBy → NotedBy → (m : ThreadMeaning) → Tells m source n events
      → calm_found (cells_of p.cells) (books_of r) a 0 ran.trace (noted_by source n events meaning) ≡ calm_found_by (cells_of p.cells) (books_of r) a 0 ran.trace m.txs
  calm_is calm noted m tells =
      calm (cells_of p.cells) (books_of r) a 0 ran.trace (noted_by source n events meaning)
      ∙ ap (λ ms. calm_found_by (cells_of p.cells) (books_of r) a 0 ran.trace ms) (sym (noted source n events m tells))

  -- where they aren't fine, that is what is found of the thread
  pub off_found : CalmBy → NotedBy → (m : ThreadMeaning) → Tells m source n events → (f : Finding) → f ≡ calm_found_by (cells_of p.cells) (books_of r) a 0 ran.trace m.txs → is_fine f ≡ false
      → f ≡ thread_found p r n a t ran
  off_found calm noted m tells f is not =
      let all = is ∙ sym (calm_is calm noted m tells) in
      all ∙ sym (first_found (calm_found (cells_of p.cells) (books_of r) a 0 ran.trace (noted_by source n events meaning)) (thread_ends (books_of r) source n a events ran meaning) (ap is_fine (sym all) ∙ not))

  -- where they are, it is what is found of its end
  pub end_found_last : CalmBy → NotedBy → (m : ThreadMeaning) → Tells m source n events → (f : Finding) → f ≡ calm_found_by (cells_of p.cells) (books_of r) a 0 ran.trace m.txs → is_fine f ≡ true
      → (g : Finding) → g ≡ thread_ends (books_of r) source n a events ran meaning → g ≡ thread_found p r n a t ran
  end_found_last calm noted m tells f is fine g ends =
      ends ∙ ap (λ h. and_then h (thread_ends (books_of r) source n a events ran meaning)) (sym (fine_is f fine) ∙ is ∙ sym (calm_is calm noted m tells))

  -- where that is fine, its commits are covered if those are that are answered
  pub covered_found : CoveredBy → NotedBy → (m : ThreadMeaning) → Tells m source n events → (g : Finding) → g ≡ thread_ends (books_of r) source n a events ran meaning → g ≡ Fine
      → covered_all_by (books_of r) ran.trace m.txs ≡ covered_all (books_of r) ran.trace (txs_of meaning)
  covered_found covered noted m tells g ends fine =
      ap (λ ms. covered_all_by (books_of r) ran.trace ms) (noted source n events m tells)
      ∙ sym (covered (books_of r) ran.trace (noted_by source n events meaning))
      ∙ ap (λ b. covered_all (books_of r) ran.trace (if b then txs_of (right_meaning source n events) else txs_of meaning)) (ends_mean (books_of r) source n a events ran meaning (sym ends ∙ fine))

-- ---- ends

-- as many events are told of as there are
pub many_seen : (es : List Seen) → length (seen_events es) ≡ length es
many_seen [] = refl
many_seen (e ∷ es) = ap suc (many_seen es)

-- that of one that wasn't stopped for a full book, by another spelling of the program
pub other_end : (p q : Parts) → p ≡ q → (books : ℕ → List Event) (es : List SeenEvent) (n a : ℕ) (ran : PlainActorReport) → is_full_stop ran.outcome ≡ false → (m : ThreadMeaning) (g : Finding)
    → ((t : PlainThread) → nth (program_of p).threads a ≡ Some t → Tells m (source_of (program_of p) t) n es → g ≡ end_found (source_of (program_of p) t) n a es ran (thread_meaning (source_of (program_of p) t) n es))
    → (t : PlainThread) → nth (program_of q).threads a ≡ Some t → Tells m (source_of (program_of q) t) n es → g ≡ thread_ends books (source_of (program_of q) t) n a es ran (thread_meaning (source_of (program_of q) t) n es)
other_end p q same books es n a ran other m g ends t there tells =
    let s = source_of (program_of q) t in
    subst (λ (x : Parts). (u : PlainThread) → nth (program_of x).threads a ≡ Some u → Tells m (source_of (program_of x) u) n es → g ≡ end_found (source_of (program_of x) u) n a es ran (thread_meaning (source_of (program_of x) u) n es)) same ends t there tells
    ∙ sym (ap (λ b. if b then full_found books s n a es ran.printed (thread_meaning s n es) else end_found s n a es ran (thread_meaning s n es)) other)

-- that of one that was, by what is answered of it
pub full_end_is : FullBy → (books : ℕ → List Event) (p : PlainProgram) → Sound p → (n a : ℕ) (t : PlainThread) → nth p.threads a ≡ Some t → (es : List Seen) (ran : PlainActorReport) → is_full_stop ran.outcome ≡ true
    → (m : ThreadMeaning) (full : Bool) → full ≡ is_full_book books m.asks → (out : List ℕ) → out ≡ ran.printed → Tells m (source_of p t) n (seen_events es)
    → full_by a (length es) out m.needs full m.printed m.eaten ≡ thread_ends books (source_of p t) n a (seen_events es) ran (thread_meaning (source_of p t) n (seen_events es))
full_end_is law books p sound n a t there es ran stop m full is out printed tells =
    let s = source_of p t in
    let ds = seen_events es in
    ap (λ l. full_by a (length es) l m.needs full m.printed m.eaten) printed
    ∙ ap (λ b. full_by a (length es) ran.printed m.needs b m.printed m.eaten) is
    ∙ ap (λ q. full_by a q ran.printed m.needs (is_full_book books m.asks) m.printed m.eaten) (sym (many_seen es))
    ∙ sym (law books s n a ds ran.printed m (source_sound p sound a t there) tells)
    ∙ sym (ap (λ b. if b then full_found books s n a ds ran.printed (thread_meaning s n ds) else end_found s n a ds ran (thread_meaning s n ds)) stop)

-- an end that is found by another spelling of the events
pub end_so : (p : PlainProgram) (books : ℕ → List Event) (es ds : List SeenEvent) → es ≡ ds → (n a : ℕ) (ran : PlainActorReport) (m : ThreadMeaning) (g : Finding)
    → ((t : PlainThread) → nth p.threads a ≡ Some t → Tells m (source_of p t) n es → g ≡ thread_ends books (source_of p t) n a es ran (thread_meaning (source_of p t) n es))
    → (t : PlainThread) → nth p.threads a ≡ Some t → Tells m (source_of p t) n es → g ≡ thread_ends books (source_of p t) n a ds ran (thread_meaning (source_of p t) n ds)
end_so p books es ds are n a ran m g ends t there tells = ends t there tells ∙ ap (λ l. thread_ends books (source_of p t) n a l ran (thread_meaning (source_of p t) n l)) are

-- ---- a piece

-- a property of what is answered, by another one
pub so : {A E : Type 0} {P Q : A → Type 0} (r : Result A E) → IfOk r P → ((x : A) → P x → Q x) → IfOk r Q
so (Ok x) h f = f x h
so (Err e) h f = tt

-- the entry with this number
entry_at : (xs : List ActorReport) (i : ℕ) (x : ActorReport) → i < length xs → x ≡ get_or xs i x → nth (map ran_as xs) i ≡ Some (ran_as x)
entry_at [] i x lt is = absurd (omega (arith, lt))
entry_at (y ∷ xs) zero x lt is = ap (λ z. Some (ran_as z)) (sym is)
entry_at (y ∷ xs) (suc i) x lt is = entry_at xs i x (omega (arith, lt)) is

pub entry_there : (r : Report) (p : PlainReport) → report_as r ≡ p → (xs : List ActorReport) → xs ≡ r.threads.items → (i k : ℕ) → i ≡ k → (x : ActorReport) → true ≡ nat_lt i (length xs) → x ≡ get_or xs i x → nth p.threads k ≡ Some (ran_as x)
entry_there r p is xs same i k number x lt here =
    ap (λ (q : PlainReport). nth q.threads k) (sym is)
    ∙ ap (λ l. nth (map ran_as l) k) (sym same)
    ∙ ap (nth (map ran_as xs)) (sym number)
    ∙ entry_at xs i x (ltb-true i (length xs) (sym lt)) here

-- where there is one, there is a thread
nth_many : {A : Type 0} (xs : List A) (k : ℕ) (x : A) → nth xs k ≡ Some x → k < length xs
nth_many [] k x is = absurd cc
nth_many (y ∷ xs) zero x is = omega arith
nth_many (y ∷ xs) (suc k) x is = (let i = nth_many xs k x is in omega (arith, i))

many_nth : {A : Type 0} (xs : List A) (k : ℕ) → k < length xs → (x : A) × (nth xs k ≡ Some x)
many_nth [] k lt = absurd (omega (arith, lt))
many_nth (y ∷ xs) zero lt = (y, refl)
many_nth (y ∷ xs) (suc k) lt = many_nth xs k (omega (arith, lt))

many_threads : (ts : List Thread) → length (threads_of ts) ≡ length ts
many_threads [] = refl
many_threads (t ∷ ts) = ap suc (many_threads ts)

and_left : (a b : Bool) → (a && b) ≡ true → a ≡ true
and_left true b e = refl
and_left false b e = e

-- a report of the right sizes has as many threads as the program
fits_threads : (p : Parts) (r : PlainReport) → fits_sizes (program_of p) r ≡ true → length r.threads ≡ length p.threads
fits_threads p r fits = eqb-true (length r.threads) (length (threads_of p.threads)) (and_left (length r.threads == length (threads_of p.threads)) _ fits) ∙ many_threads p.threads

pub thread_below : (p : Parts) (r : PlainReport) → fits_sizes (program_of p) r ≡ true → (k : ℕ) (ran : PlainActorReport) → nth r.threads k ≡ Some ran → k < length p.threads
thread_below p r fits k ran is = (let lt = nth_many r.threads k ran is in let e = fits_threads p r fits in omega (arith, lt, e))

pub thread_there : (p : Parts) (k : ℕ) → k < length p.threads → (t : PlainThread) × (nth (program_of p).threads k ≡ Some t)
thread_there p k lt = many_nth (threads_of p.threads) k (let e = many_threads p.threads in omega (arith, lt, e))

-- what is found of a thread and its entry is what is found of the piece
pub some_finding : (p : PlainProgram) (r : PlainReport) (n a : ℕ) (t : PlainThread) (ran : PlainActorReport) → nth p.threads a ≡ Some t → nth r.threads a ≡ Some ran → thread_found p r n a t ran ≡ piece_finding p r n (OfThread a)
some_finding p r n a t ran e is = sym (ap (λ o. thread_finding p r n a o (nth r.threads a)) e ∙ ap (thread_finding p r n a (Some t)) is)

pub some_serial : (p : PlainProgram) (r : PlainReport) (n a : ℕ) (t : PlainThread) (ran : PlainActorReport) → nth p.threads a ≡ Some t → nth r.threads a ≡ Some ran → thread_serial p r n (Some t) (Some ran) ≡ piece_serial p r n (OfThread a)
some_serial p r n a t ran e is = sym (ap (λ o. thread_serial p r n o (nth r.threads a)) e ∙ ap (thread_serial p r n (Some t)) is)

-- what is judged of the thread with this number is what is found of the piece
pub finding_so : {A E : Type 0} (q : A → Finding) (p : Parts) (r : PlainReport) (n a : ℕ) (ran : PlainActorReport) (m : ThreadMeaning) (es : List SeenEvent) (o : Result A E) → a < length p.threads → nth r.threads a ≡ Some ran
    → ((t : PlainThread) → nth (program_of p).threads a ≡ Some t → Tells m (source_of (program_of p) t) n es)
    → IfOk o (λ f. (t : PlainThread) → nth (program_of p).threads a ≡ Some t → Tells m (source_of (program_of p) t) n es → q f ≡ thread_found (program_of p) r n a t ran)
    → IfOk o (λ f. q f ≡ piece_finding (program_of p) r n (OfThread a))
finding_so q p r n a ran m es o lt here tells h =
    let there = thread_there p a lt in
    so o h (λ f k. k there.0 there.1 (tells there.0 there.1) ∙ some_finding (program_of p) r n a there.0 ran there.1 here)

pub serial_so : {A E : Type 0} (q : A → Finding) (s : A → Bool) (p : Parts) (r : PlainReport) (n a : ℕ) (ran : PlainActorReport) (m : ThreadMeaning) (es : List SeenEvent) (o : Result A E) → a < length p.threads → nth r.threads a ≡ Some ran
    → ((t : PlainThread) → nth (program_of p).threads a ≡ Some t → Tells m (source_of (program_of p) t) n es)
    → IfOk o (λ f. (t : PlainThread) → nth (program_of p).threads a ≡ Some t → Tells m (source_of (program_of p) t) n es → q f ≡ Fine → s f ≡ thread_serial (program_of p) r n (Some t) (Some ran))
    → IfOk o (λ f. q f ≡ Fine → s f ≡ piece_serial (program_of p) r n (OfThread a))
serial_so q s p r n a ran m es o lt here tells h =
    let there = thread_there p a lt in
    so o h (λ f k fine. k there.0 there.1 (tells there.0 there.1) fine ∙ some_serial (program_of p) r n a there.0 ran there.1 here)

-- what the evaluator tells of a thread, in the program by another spelling
pub tells_so : (p q : Parts) → p ≡ q → (i k : ℕ) → i ≡ k → (n : ℕ) (m : ThreadMeaning) (es : List SeenEvent) → IfSome (thread_source (program_of p) i) (λ s. Tells m s n es)
    → (t : PlainThread) → nth (program_of q).threads k ≡ Some t → Tells m (source_of (program_of q) t) n es
tells_so p q same i k number n m es h t there =
    source_told (program_of q) k t there (λ s. Tells m s n es) (subst (λ j. IfSome (thread_source (program_of q) j) (λ s. Tells m s n es)) number (subst (λ (x : Parts). IfSome (thread_source (program_of x) i) (λ s. Tells m s n es)) same h))
