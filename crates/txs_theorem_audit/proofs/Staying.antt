-- What an audit has decided with some turns of each loop it decides so with more.
use Rattle.std.proofs.Common.{◌≡◌, ◌≤◌, ℕ, suc, ◌+◌, ◌==◌, ◌&&◌, Bool, true, false, List, [], ◌∷◌, ◌++◌, length, take, Option, Some, None, Result, refl, sym, ap, ◌∙◌, subst, append_assoc, ⊎_elim, if◌then◌else◌}
use Rattle.std.specs.Prelude.{◌-◌}
use Rattle.std.proofs.lemmas.Bool.{false≢true}
use Rattle.txs_value_data.specs.Places.{nth}
use Rattle.txs_value_data.specs.declared.fault.Fault.{Fault}
use Rattle.txs_value_data.specs.declared.fault.Span.{Span}
use Rattle.txs_value_cell.specs.declared.action.Action.{Action}
use Rattle.txs_value_data.specs.declared.value.CellId.{CellId}
use Rattle.txs_value_data.specs.declared.value.Value.{Value}
use Rattle.txs_world.specs.Store.{next_action}
use Rattle.txs_world_book.specs.Book.{newest, opening}
use Rattle.txs_world_book.specs.Served.{cells_of}
use Rattle.txs_world_book.specs.declared.cell.StoreCell.{StoreCell}
use Rattle.txs_world_protocol.specs.SeenEvent.{SeenEvent}
use Rattle.txs_world_protocol.specs.declared.event.Event.{Event}
use Rattle.txs_world_protocol.specs.declared.event.Outcome.{Outcome}
use Rattle.txs_world_protocol.specs.declared.event.Outcome.TheVariants.{Done, Failed, StepsSpent, JournalFull, Memory}
use Rattle.txs_tree_meaning.proofs.Callable.{both}
use Rattle.txs_tree_meaning.specs.Known.{known}
use Rattle.txs_tree_meaning.specs.Meaning.{Completion, Completes, Recurs, Faults, Retries, Waits, OutOfTurns, Invalid}
use Rattle.txs_tree_meaning.specs.Right.{is_wrong, right_events, eats_right, right_meaning}
use Rattle.txs_tree_meaning.specs.Sound.{Sound, SoundSource}
use Rattle.txs_tree_meaning.specs.Thread.{TxRun, ThreadState, thread_meaning, from_events}
use Rattle.txs_tree_meaning.specs.Tree.{PlainProgram, PlainThread, ThreadSource}
use Rattle.txs_theorem_threads.proofs.Meant.{Any, none_some}
use Rattle.txs_theorem_threads.specs.EndsSo.{NeedsTurns}
use Rattle.txs_theorem_threads.specs.FollowsAgent.{SoundAction}
use Rattle.txs_theorem_threads.specs.FollowsAll.{source_of}
use Rattle.txs_theorem_threads.specs.Noted.{txs_of}
use Rattle.txs_theorem_runs.specs.Told.{Place, seen_of}
use Rattle.txs_theorem_audit.specs.Audited.{PlainActorReport, PlainReport, books_of, Finding, Fine, Off, Short, and_then, check}
use Rattle.txs_theorem_audit.specs.Explained.{events_of, meaning_of}
use Rattle.txs_theorem_audit.specs.Stays.{IsDecided, ThreadStays, ActionStays, RestStays}
use Rattle.txs_theorem_audit.specs.Verdict.{begins, same_numbers, is_calm, is_end, with_run, calm_at, calm_found, is_stopped, is_done, has_faulted, least_printed, end_found, is_full_stop, full_found, thread_ends, noted_by, thread_found, printed_by, noted_in, least_of, part_printed, act_ends, action_after, is_sent_call, action_prints, action_covered, still_ends, full_ends, rest_ends, still_found, rest_found, covered_all}
use Rattle.txs_theorem_audit.proofs.Agreeing.{sound_thread, sent_of}
use Rattle.txs_theorem_audit.proofs.Beginning.{cut, action_cut}
use Rattle.txs_theorem_audit.proofs.Differing.{begins_true, left_none, source, source_sound}
use Rattle.txs_theorem_audit.proofs.Findings.{and_fine, off_fine, short_fine, and_true, begins_sound, empty}
use Rattle.txs_theorem_audit.proofs.Least.{least_is}
use Rattle.txs_theorem_audit.proofs.Onward.{Onward, From, Step, none_later, thread_leads, action_leads}
use Rattle.txs_theorem_audit.proofs.Resuming.{thread_resumes, action_resumes}
use Rattle.txs_theorem_audit.proofs.Settling.{Turned, long_or_short, same_whole, same_right, same_noted, same_least, short_least, short_noted, short_same}

-- ---- findings

abbrev IsOff : Finding → Type 0
IsOff Fine = ⊥
IsOff (Off a i) = Unit {0}
IsOff (Short a i) = ⊥

-- of two tests
both_stay : (f f1 g g1 : Finding) → (IsOff f → f1 ≡ f) → (f ≡ Fine → IsDecided g → (f1 ≡ Fine) × (g1 ≡ g)) → IsDecided (and_then f g) → and_then f1 g1 ≡ and_then f g
both_stay Fine f1 g g1 h k d = let z = k refl d in ap (λ e. and_then e g1) z.0 ∙ z.1
both_stay (Off a i) f1 g g1 h k d = ap (λ e. and_then e g1) (h tt)
both_stay (Short a i) f1 g g1 h k d = absurd d

decided_true : (b : Bool) (a i : ℕ) → IsDecided (if b then Fine else Short a i) → b ≡ true
decided_true true a i h = refl
decided_true false a i h = absurd h

two_checks : (todo : List SeenEvent) (b : Bool) (a j i : ℕ) → todo ≡ [] → b ≡ true → and_then (check (length todo == 0) a j) (check b a i) ≡ Fine
two_checks todo b a j i e h = ap (λ c. and_then (check c a j) (check b a i)) (left_none todo e) ∙ ap (λ c. check c a i) h

-- ---- transactions

module _ (cells : List StoreCell) (books : ℕ → List Event) (a : ℕ) where
  at_event : (e : Event) (i : ℕ) (p : Place) (rest : List TxRun → Finding) (ys : List TxRun) → ((zs : List TxRun) → IsOff (rest zs) → rest (zs ++ ys) ≡ rest zs) → (b : Bool) (xs : List TxRun)
      → IsOff (if b then with_run xs (λ x zs. and_then (check (is_calm cells (take p.at (books p.book)) e.kind x) a i) (rest zs)) else rest xs)
      → (if b then with_run (xs ++ ys) (λ x zs. and_then (check (is_calm cells (take p.at (books p.book)) e.kind x) a i) (rest zs)) else rest (xs ++ ys))
      ≡ (if b then with_run xs (λ x zs. and_then (check (is_calm cells (take p.at (books p.book)) e.kind x) a i) (rest zs)) else rest xs)
  at_event e i p rest ys next true [] h = absurd h
  at_event e i p rest ys next true (x ∷ xs) h = checked (is_calm cells (take p.at (books p.book)) e.kind x) h
    where
      checked : (c : Bool) → IsOff (and_then (check c a i) (rest xs)) → and_then (check c a i) (rest (xs ++ ys)) ≡ and_then (check c a i) (rest xs)
      checked true g = next xs g
      checked false g = refl
  at_event e i p rest ys next false xs h = next xs h

  -- what is off among these transactions is so among more
  calm_longer : (i : ℕ) (ps : List Place) (xs ys : List TxRun) → IsOff (calm_found cells books a i ps xs) → calm_found cells books a i ps (xs ++ ys) ≡ calm_found cells books a i ps xs
  calm_longer i [] xs ys h = absurd h
  calm_longer i (p ∷ ps) xs ys h = go (nth (books p.book) p.at) h (λ zs g. calm_longer (suc i) ps zs ys g)
    where
      go : (o : Option Event) → IsOff (calm_at cells books a i p o (λ zs. calm_found cells books a (suc i) ps zs) xs) → ((zs : List TxRun) → IsOff (calm_found cells books a (suc i) ps zs) → calm_found cells books a (suc i) ps (zs ++ ys) ≡ calm_found cells books a (suc i) ps zs)
          → calm_at cells books a i p o (λ zs. calm_found cells books a (suc i) ps zs) (xs ++ ys) ≡ calm_at cells books a i p o (λ zs. calm_found cells books a (suc i) ps zs) xs
      go None g next = next xs g
      go (Some e) g next = at_event e i p (λ zs. calm_found cells books a (suc i) ps zs) ys next (is_end e.kind) xs g

-- ---- what is printed

-- where this was part of what was printed, it is part of what is printed later
printed_later : (u w : ThreadState) (out : List ℕ) → Onward u w → begins out u.printed ≡ true → begins out w.printed ≡ true
printed_later u w out g h = let b = begins_sound out u.printed h in begins_true w.printed out (b.0 ++ g.more, g.prints ∙ ap (λ l. l ++ g.more) b.1 ∙ append_assoc out b.0 g.more)

not_wrong : (u : ThreadState) (c : Completion ThreadState Value) → From None Any u c → u.todo ≡ [] → is_wrong c ≡ false
not_wrong u (Completes v t) h e = refl
not_wrong u (Recurs vs t) h e = absurd (none_some (length vs) h.0)
not_wrong u (Faults f t) h e = refl
not_wrong u (Retries t) h e = absurd h
not_wrong u (Waits t) h e = refl
not_wrong u (OutOfTurns t) h e = refl
not_wrong u Invalid h e = absurd (h e)

-- ---- the end of a thread

undone : (o : Option Outcome) → is_stopped o ≡ true → is_done o ≡ false
undone None h = refl
undone (Some Done) h = absurd (false≢true h)
undone (Some (Failed f)) h = refl
undone (Some StepsSpent) h = refl
undone (Some JournalFull) h = refl
undone (Some Memory) h = refl

unfaulted : (f : Fault) (o : Option Outcome) → is_stopped o ≡ true → has_faulted f o ≡ false
unfaulted f None h = refl
unfaulted f (Some Done) h = refl
unfaulted f (Some (Failed g)) h = absurd (false≢true h)
unfaulted f (Some StepsSpent) h = refl
unfaulted f (Some JournalFull) h = refl
unfaulted f (Some Memory) h = refl

module _ (s : ThreadSource) (n m a : ℕ) (es : List SeenEvent) (ran : PlainActorReport) where
  abbrev shown : List ℕ
  shown = ran.printed

  abbrev how : Option Outcome
  how = ran.outcome

  -- it depends on the turns by how many events are right and by what was printed at least
  end_same : eats_right s m [] es ≡ eats_right s n [] es → least_printed s m es ≡ least_printed s n es → (c : Completion ThreadState Value) → end_found s m a es ran c ≡ end_found s n a es ran c
  end_same right least (Completes v t) =
      ap (λ l. and_then (check (length t.todo == 0) a (length es - length t.todo)) (check (if is_done how then same_numbers shown t.printed else is_stopped how && (begins shown t.printed && begins l shown)) a (length es))) least
  end_same right least (Recurs vs t) = ap (λ i. Off a i) right
  end_same right least (Faults f t) =
      ap (λ l. and_then (check (length t.todo == 0) a (length es - length t.todo)) (check (if has_faulted f how then same_numbers shown t.printed else is_stopped how && (begins shown t.printed && begins l shown)) a (length es))) least
  end_same right least (Retries t) = ap (λ i. Off a i) right
  end_same right least (Waits t) = ap (λ l. and_then (check (length t.todo == 0) a (length es - length t.todo)) (check (is_stopped how && (begins shown t.printed && begins l shown)) a (length es))) least
  end_same right least (OutOfTurns t) = ap (λ l. if length t.todo == 0 && (is_stopped how && (begins shown t.printed && begins l shown)) then Fine else Short a (length es - length t.todo)) least
  end_same right least Invalid = ap (λ i. Off a i) right

  -- a thread that was stopped where turns didn't suffice
  module _ (u : ThreadState) (left : u.todo ≡ []) (stopped : is_stopped how ≡ true) (printed : begins shown u.printed ≡ true) (least : begins (least_printed s m es) shown ≡ true) where
    part : (w : ThreadState) → Onward u w → (is_stopped how && (begins shown w.printed && begins (least_printed s m es) shown)) ≡ true
    part w g = and_true (is_stopped how) _ stopped (and_true (begins shown w.printed) (begins (least_printed s m es) shown) (printed_later u w shown g printed) least)

    later_end : (c : Completion ThreadState Value) → From None Any u c → end_found s m a es ran c ≡ Fine
    later_end (Completes v w) h =
        two_checks w.todo (if is_done how then same_numbers shown w.printed else is_stopped how && (begins shown w.printed && begins (least_printed s m es) shown)) a (length es - length w.todo) (length es) (none_later u w h.1 left)
        (ap (λ b. if b then same_numbers shown w.printed else is_stopped how && (begins shown w.printed && begins (least_printed s m es) shown)) (undone how stopped) ∙ part w h.1)
    later_end (Recurs vs w) h = absurd (none_some (length vs) h.0)
    later_end (Faults f w) h =
        two_checks w.todo (if has_faulted f how then same_numbers shown w.printed else is_stopped how && (begins shown w.printed && begins (least_printed s m es) shown)) a (length es - length w.todo) (length es) (none_later u w h left)
        (ap (λ b. if b then same_numbers shown w.printed else is_stopped how && (begins shown w.printed && begins (least_printed s m es) shown)) (unfaulted f how stopped) ∙ part w h)
    later_end (Retries w) h = absurd h
    later_end (Waits w) h = two_checks w.todo (is_stopped how && (begins shown w.printed && begins (least_printed s m es) shown)) a (length es - length w.todo) (length es) (none_later u w h left) (part w h)
    later_end (OutOfTurns w) h = ap (λ b. if b then Fine else Short a (length es - length w.todo)) (and_true (length w.todo == 0) _ (left_none w.todo (none_later u w h left)) (part w h))
    later_end Invalid h = absurd (h left)

-- a thread that was stopped for a full book
full_same : (books : ℕ → List Event) (s : ThreadSource) (n m a : ℕ) (es : List SeenEvent) (out : List ℕ) → eats_right s m [] es ≡ eats_right s n [] es → (c : Completion ThreadState Value) → full_found books s m a es out c ≡ full_found books s n a es out c
full_same books s n m a es out right (Completes v t) = refl
full_same books s n m a es out right (Recurs vs t) = ap (λ i. Off a i) right
full_same books s n m a es out right (Faults f t) = refl
full_same books s n m a es out right (Retries t) = ap (λ i. Off a i) right
full_same books s n m a es out right (Waits t) = refl
full_same books s n m a es out right (OutOfTurns t) = refl
full_same books s n m a es out right Invalid = ap (λ i. Off a i) right

-- ---- what is found

-- the transactions of a meaning, and then its end, with fewer turns and with more
module _ (x y : List SeenEvent → Completion ThreadState Value) (turned : Turned x y) (es : List SeenEvent) (on : List TxRun → Finding) (on_longer : (xs ys : List TxRun) → IsOff (on xs) → on (xs ++ ys) ≡ on xs) (ends_x ends_y : Completion ThreadState Value → Finding)
    (same_end : (NeedsTurns (x es) → ⊥) → ends_y (x es) ≡ ends_x (x es)) (later_ends : (u : ThreadState) → x es ≡ OutOfTurns u → IsDecided (ends_x (OutOfTurns u)) → (u.todo ≡ []) × (ends_y (y es) ≡ ends_x (OutOfTurns u))) where
  abbrev found_x : Finding
  found_x = and_then (on (noted_in x es)) (ends_x (x es))

  abbrev found_y : Finding
  found_y = and_then (on (noted_in y es)) (ends_y (y es))

  -- it is the same, and where nothing is found, so are the transactions
  abbrev SameFound : Type 0
  SameFound = (found_y ≡ found_x) × (found_x ≡ Fine → txs_of (y es) ≡ txs_of (x es))

  long_stays : (NeedsTurns (x es) → ⊥) → SameFound
  long_stays enough =
      let whole : y es ≡ x es = same_whole x y turned es enough in
      (ap (λ xs. and_then (on xs) (ends_y (y es))) (same_noted x y turned es enough) ∙ ap (and_then (on (noted_in x es))) (ap ends_y whole ∙ same_end enough), λ fine. ap txs_of whole)

  module _ (u : ThreadState) (short : x es ≡ OutOfTurns u) where
    noted_short : noted_in x es ≡ u.txs
    noted_short = ap (λ c. txs_of (if is_wrong c then x (take (right_events x [] es) es) else c)) short

    off_stays : IsOff (on (noted_in x es)) → on (noted_in y es) ≡ on (noted_in x es)
    off_stays off = let z = short_noted x y turned es u short in ap on z.1 ∙ on_longer u.txs z.0 (subst (λ xs. IsOff (on xs)) noted_short off) ∙ ap on (sym noted_short)

    later : IsDecided (ends_x (x es)) → (u.todo ≡ []) × (ends_y (y es) ≡ ends_x (OutOfTurns u))
    later decided = later_ends u short (subst (λ c. IsDecided (ends_x c)) short decided)

    fine_stays : on (noted_in x es) ≡ Fine → IsDecided (ends_x (x es)) → (on (noted_in y es) ≡ Fine) × (ends_y (y es) ≡ ends_x (x es))
    fine_stays fine decided = let z = later decided in (ap on ((short_same x y turned es u short z.0).0 ∙ sym noted_short) ∙ fine, z.1 ∙ sym (ap ends_x short))

    short_stays : IsDecided found_x → SameFound
    short_stays decided = (
      both_stay (on (noted_in x es)) (on (noted_in y es)) (ends_x (x es)) (ends_y (y es)) off_stays fine_stays decided,
      λ fine.
          (let parts = and_fine (on (noted_in x es)) (ends_x (x es)) fine in
          let z = later (subst IsDecided (sym parts.1) tt) in
          (short_same x y turned es u short z.0).1 ∙ sym (ap txs_of short)),
    )

  found_stays : IsDecided found_x → SameFound
  found_stays decided = ⊎_elim (λ enough. long_stays enough) (λ z. short_stays z.0 z.1 decided) (long_or_short (x es))

-- ---- threads

noted_if : (b : Bool) (c d : Completion ThreadState Value) → (if b then txs_of c else txs_of d) ≡ txs_of (if b then c else d)
noted_if true c d = refl
noted_if false c d = refl

module _ (p : PlainProgram) (r : PlainReport) (sound : Sound p) (n m : ℕ) (le : n ≤ m) (a i : ℕ) (t : PlainThread) (there : nth p.threads i ≡ Some t) (ran : PlainActorReport) where
  abbrev s : ThreadSource
  s = source_of p t

  abbrev es : List SeenEvent
  es = events_of p r ran

  abbrev x : List SeenEvent → Completion ThreadState Value
  x = thread_meaning s n

  abbrev y : List SeenEvent → Completion ThreadState Value
  y = thread_meaning s m

  thread_source : SoundSource s
  thread_source = record { functions = sound.functions; cells = sound.cells; main = (sound_thread p.functions p.threads i t sound.threads there).0 }

  turned : Turned x y
  turned = record {
    steps = λ l. (thread_leads s thread_source n m le l).1;
    cuts = λ l fs. cut fs s n thread_source l;
    resumes = λ l fs. thread_resumes fs s thread_source n l;
    first = not_wrong _ (y []) (thread_leads s thread_source n m le []).0 refl;
  }

  abbrev on : List TxRun → Finding
  on xs = calm_found (cells_of p.cells) (books_of r) a 0 ran.trace xs

  abbrev ended : ℕ → Completion ThreadState Value → Finding
  ended j c = thread_ends (books_of r) s j a es ran c

  noted_is : (j : ℕ) → noted_by s j es (thread_meaning s j es) ≡ noted_in (thread_meaning s j) es
  noted_is j = noted_if (is_wrong (thread_meaning s j es)) (right_meaning s j es) (thread_meaning s j es)

  later_end_found : (u : ThreadState) → x es ≡ OutOfTurns u → IsDecided (end_found s n a es ran (OutOfTurns u)) → (u.todo ≡ []) × (end_found s m a es ran (y es) ≡ end_found s n a es ran (OutOfTurns u))
  later_end_found u short decided =
      let held = decided_true (length u.todo == 0 && (is_stopped ran.outcome && (begins ran.printed u.printed && begins (least_printed s n es) ran.printed))) a (length es - length u.todo) decided in
      let first = both (length u.todo == 0) _ held in
      let second = both (is_stopped ran.outcome) _ first.1 in
      let third = both (begins ran.printed u.printed) (begins (least_printed s n es) ran.printed) second.1 in
      let left : u.todo ≡ [] = empty u.todo first.0 in
      let least : least_printed s n es ≡ least_printed s m es = least_is s n es ∙ sym (short_least x y turned es u short left) ∙ sym (least_is s m es) in
      let from : From None Any u (y es) = subst (λ c. Step None Any c (y es)) short (turned.steps es) in
      (left, later_end s n m a es ran u left second.0 third.0 (subst (λ l. begins l ran.printed ≡ true) least third.1) (y es) from ∙ sym (ap (λ b. if b then Fine else Short a (length es - length u.todo)) held))

  same_ended : (NeedsTurns (x es) → ⊥) → ended m (x es) ≡ ended n (x es)
  same_ended enough = by (is_full_stop ran.outcome)
    where
      least : least_printed s m es ≡ least_printed s n es
      least = least_is s m es ∙ same_least x y turned es enough ∙ sym (least_is s n es)

      by : (b : Bool) → (if b then full_found (books_of r) s m a es ran.printed (x es) else end_found s m a es ran (x es)) ≡ (if b then full_found (books_of r) s n a es ran.printed (x es) else end_found s n a es ran (x es))
      by true = full_same (books_of r) s n m a es ran.printed (same_right x y turned es enough) (x es)
      by false = end_same s n m a es ran (same_right x y turned es enough) least (x es)

  later_ended : (u : ThreadState) → x es ≡ OutOfTurns u → IsDecided (ended n (OutOfTurns u)) → (u.todo ≡ []) × (ended m (y es) ≡ ended n (OutOfTurns u))
  later_ended u short decided = by (is_full_stop ran.outcome) decided
    where
      by : (b : Bool) → IsDecided (if b then full_found (books_of r) s n a es ran.printed (OutOfTurns u) else end_found s n a es ran (OutOfTurns u))
          → (u.todo ≡ []) × ((if b then full_found (books_of r) s m a es ran.printed (y es) else end_found s m a es ran (y es)) ≡ (if b then full_found (books_of r) s n a es ran.printed (OutOfTurns u) else end_found s n a es ran (OutOfTurns u)))
      by true d = absurd d
      by false d = later_end_found u short d

  -- what is found of a thread of the program
  stays_there : IsDecided (thread_found p r n a t ran)
      → (thread_found p r m a t ran ≡ thread_found p r n a t ran)
      × (thread_found p r n a t ran ≡ Fine → covered_all (books_of r) ran.trace (txs_of (meaning_of p r t ran m)) ≡ covered_all (books_of r) ran.trace (txs_of (meaning_of p r t ran n)))
  stays_there decided =
      let found : (j : ℕ) → thread_found p r j a t ran ≡ and_then (on (noted_in (thread_meaning s j) es)) (ended j (thread_meaning s j es)) = λ j. ap (λ xs. and_then (on xs) (ended j (thread_meaning s j es))) (noted_is j) in
      let z = found_stays x y turned es on (λ xs ys h. calm_longer (cells_of p.cells) (books_of r) a 0 ran.trace xs ys h) (ended n) (ended m) same_ended later_ended (subst IsDecided (found n) decided) in
      (found m ∙ z.0 ∙ sym (found n), λ fine. ap (covered_all (books_of r) ran.trace) (z.1 (sym (found n) ∙ fine)))

-- the law of the program's threads
pub thread_stays : ThreadStays
thread_stays p r n m a i t ran sound le there decided = stays_there p r sound n m le a i t there ran decided

-- ---- the end of an action

module _ (cells : List StoreCell) (done : List Event) (span : Span) (a i k : ℕ) (x y : List SeenEvent → Completion ThreadState Value) (es : List SeenEvent) (new : Result Value Fault) (sends : List Action) where
  act_same : right_events y [] es ≡ right_events x [] es → (c : Completion ThreadState Value) → act_ends cells done span a i k y es new sends c ≡ act_ends cells done span a i k x es new sends c
  act_same right (Completes v t) = refl
  act_same right (Recurs vs t) = ap (λ j. Off a (i + j)) right
  act_same right (Faults f t) = refl
  act_same right (Retries t) = ap (λ j. Off a (i + j)) right
  act_same right (Waits t) = refl
  act_same right (OutOfTurns t) = refl
  act_same right Invalid = ap (λ j. Off a (i + j)) right

module _ (a i k : ℕ) (x y : List SeenEvent → Completion ThreadState Value) (es : List SeenEvent) (out : List ℕ) where
  still_same : right_events y [] es ≡ right_events x [] es → least_of y es ≡ least_of x es → (c : Completion ThreadState Value) → still_ends a i k y es out c ≡ still_ends a i k x es out c
  still_same right least (Completes v t) = ap (λ l. and_then (check (length t.todo == 0) a (i + (length es - length t.todo))) (check (begins out t.printed && begins l out) a k)) least
  still_same right least (Recurs vs t) = ap (λ j. Off a (i + j)) right
  still_same right least (Faults f t) = ap (λ l. and_then (check (length t.todo == 0) a (i + (length es - length t.todo))) (check (begins out t.printed && begins l out) a k)) least
  still_same right least (Retries t) = ap (λ j. Off a (i + j)) right
  still_same right least (Waits t) = ap (λ l. and_then (check (length t.todo == 0) a (i + (length es - length t.todo))) (check (begins out t.printed && begins l out) a k)) least
  still_same right least (OutOfTurns t) = ap (λ l. if length t.todo == 0 && (begins out t.printed && begins l out) then Fine else Short a (i + (length es - length t.todo))) least
  still_same right least Invalid = ap (λ j. Off a (i + j)) right

  full_ends_same : (books : ℕ → List Event) → right_events y [] es ≡ right_events x [] es → (c : Completion ThreadState Value) → full_ends books a i k y es out c ≡ full_ends books a i k x es out c
  full_ends_same books right (Completes v t) = refl
  full_ends_same books right (Recurs vs t) = ap (λ j. Off a (i + j)) right
  full_ends_same books right (Faults f t) = refl
  full_ends_same books right (Retries t) = ap (λ j. Off a (i + j)) right
  full_ends_same books right (Waits t) = refl
  full_ends_same books right (OutOfTurns t) = refl
  full_ends_same books right Invalid = ap (λ j. Off a (i + j)) right

  rest_same : (books : ℕ → List Event) (full : Bool) → right_events y [] es ≡ right_events x [] es → least_of y es ≡ least_of x es → (c : Completion ThreadState Value) → rest_ends books full a i k y es out c ≡ rest_ends books full a i k x es out c
  rest_same books true right least c = full_ends_same books right c
  rest_same books false right least c = still_same right least c

  -- an action for which turns didn't suffice
  module _ (u : ThreadState) (left : u.todo ≡ []) (printed : begins out u.printed ≡ true) (least : begins (least_of y es) out ≡ true) where
    still_part : (w : ThreadState) → Onward u w → part_printed y es out w.printed ≡ true
    still_part w g = and_true (begins out w.printed) (begins (least_of y es) out) (printed_later u w out g printed) least

    later_still : (c : Completion ThreadState Value) → From None Any u c → still_ends a i k y es out c ≡ Fine
    later_still (Completes v w) h = two_checks w.todo (part_printed y es out w.printed) a (i + (length es - length w.todo)) k (none_later u w h.1 left) (still_part w h.1)
    later_still (Recurs vs w) h = absurd (none_some (length vs) h.0)
    later_still (Faults f w) h = two_checks w.todo (part_printed y es out w.printed) a (i + (length es - length w.todo)) k (none_later u w h left) (still_part w h)
    later_still (Retries w) h = absurd h
    later_still (Waits w) h = two_checks w.todo (part_printed y es out w.printed) a (i + (length es - length w.todo)) k (none_later u w h left) (still_part w h)
    later_still (OutOfTurns w) h = ap (λ b. if b then Fine else Short a (i + (length es - length w.todo))) (and_true (length w.todo == 0) _ (left_none w.todo (none_later u w h left)) (still_part w h))
    later_still Invalid h = absurd (h left)

-- ---- actions

-- what is found of a call that may be sent
if_stays : (b : Bool) (f1 f : Finding) (a k : ℕ) (P : Type 0) → (b ≡ true → IsDecided f → (f1 ≡ f) × (f ≡ Fine → P)) → IsDecided (if b then f else Off a k) → ((if b then f1 else Off a k) ≡ (if b then f else Off a k)) × ((if b then f else Off a k) ≡ Fine → P)
if_stays true f1 f a k P h d = h refl d
if_stays false f1 f a k P h d = (refl, λ fine. off_fine a k fine)

module _ (p : PlainProgram) (r : PlainReport) (a i k : ℕ) (done : List Event) (g : CellId) (since : List Place) (act : Action) where
  abbrev acts : ℕ → List SeenEvent → Completion ThreadState Value
  acts j = action_after p j done g act

  abbrev seen : List SeenEvent
  seen = seen_of p.cells (books_of r) since

  abbrev calm : List TxRun → Finding
  calm xs = calm_found (cells_of p.cells) (books_of r) a i since xs

  calm_more : (xs ys : List TxRun) → IsOff (calm xs) → calm (xs ++ ys) ≡ calm xs
  calm_more xs ys h = calm_longer (cells_of p.cells) (books_of r) a i since xs ys h

  abbrev over : Result Value Fault → List Action → ℕ → Completion ThreadState Value → Finding
  over new sends j c = act_ends (cells_of p.cells) done act.span a i k (acts j) seen new sends c

  abbrev not_over : Bool → List ℕ → ℕ → Completion ThreadState Value → Finding
  not_over full out j c = rest_ends (books_of r) full a i k (acts j) seen out c

  abbrev looks : (ℕ → Completion ThreadState Value → Finding) → ℕ → Finding
  looks ends j = and_then (calm (noted_in (acts j) seen)) (ends j (acts j seen))

  module _ (sound : Sound p) (n m : ℕ) (le : n ≤ m) (fits : SoundAction p.functions act) where
    abbrev state : Value
    state = newest (opening (cells_of p.cells)) done g.number

    turned_action : Turned (acts n) (acts m)
    turned_action = record {
      steps = λ l. (action_leads (source p sound act state fits) (source_sound p sound act state fits) n m le act state fits l).1;
      cuts = λ l fs. action_cut fs (source p sound act state fits) n sound.functions act state l;
      resumes = λ l fs. action_resumes fs (source p sound act state fits) (source_sound p sound act state fits) n act state fits l;
      first = not_wrong (from_events (Some []) []) (acts m []) (action_leads (source p sound act state fits) (source_sound p sound act state fits) n m le act state fits []).0 refl;
    }

    abbrev SameLooks : (ℕ → Completion ThreadState Value → Finding) → Type 0
    SameLooks ends = (looks ends m ≡ looks ends n) × (looks ends n ≡ Fine → txs_of (acts m seen) ≡ txs_of (acts n seen))

    -- an action that is over
    over_stays : (new : Result Value Fault) (sends : List Action) → IsDecided (looks (over new sends) n) → SameLooks (over new sends)
    over_stays new sends decided =
        found_stays (acts n) (acts m) turned_action seen calm calm_more (over new sends n) (over new sends m)
        (λ enough. act_same (cells_of p.cells) done act.span a i k (acts n) (acts m) seen new sends (same_right (acts n) (acts m) turned_action seen enough) (acts n seen)) (λ u short h. absurd h) decided

    -- where nothing is found, turns suffice
    over_same : (new : Result Value Fault) (sends : List Action) → looks (over new sends) n ≡ Fine → acts m seen ≡ acts n seen
    over_same new sends fine =
        let ended = (and_fine (calm (noted_in (acts n) seen)) (over new sends n (acts n seen)) fine).1 in
        ⊎_elim (λ enough. same_whole (acts n) (acts m) turned_action seen enough) (λ z. short_fine a (i + (length seen - length z.0.todo)) (sym (ap (over new sends n) z.1) ∙ ended)) (long_or_short (acts n seen))

    -- an action that isn't over
    later_not_over : (full : Bool) (out : List ℕ) (u : ThreadState) → acts n seen ≡ OutOfTurns u → IsDecided (not_over full out n (OutOfTurns u)) → (u.todo ≡ []) × (not_over full out m (acts m seen) ≡ not_over full out n (OutOfTurns u))
    later_not_over true out u short decided = absurd decided
    later_not_over false out u short decided =
        let held = decided_true (length u.todo == 0 && part_printed (acts n) seen out u.printed) a (i + (length seen - length u.todo)) decided in
        let first = both (length u.todo == 0) _ held in
        let second = both (begins out u.printed) (begins (least_of (acts n) seen) out) first.1 in
        let left : u.todo ≡ [] = empty u.todo first.0 in
        let least = short_least (acts n) (acts m) turned_action seen u short left in
        let from : From None Any u (acts m seen) = subst (λ c. Step None Any c (acts m seen)) short (turned_action.steps seen) in
        (left, later_still a i k (acts n) (acts m) seen out u left second.0 (subst (λ l. begins l out ≡ true) (sym least) second.1) (acts m seen) from ∙ sym (ap (λ b. if b then Fine else Short a (i + (length seen - length u.todo))) held))

    still_stays : (full : Bool) (out : List ℕ) → IsDecided (looks (not_over full out) n) → SameLooks (not_over full out)
    still_stays full out decided =
        found_stays (acts n) (acts m) turned_action seen calm calm_more (not_over full out n) (not_over full out m)
        (λ enough. rest_same a i k (acts n) (acts m) seen out (books_of r) full (same_right (acts n) (acts m) turned_action seen enough) (same_least (acts n) (acts m) turned_action seen enough) (acts n seen)) (later_not_over full out) decided

pub action_stays : ActionStays
action_stays p r n m a i k done g since new sends None sound le decided = (refl, λ fine. off_fine a k fine)
action_stays p r n m a i k done g since new sends (Some act) sound le decided =
    if_stays (is_sent_call (known p.functions) act.callee (suc (length act.args))) (looks p r a i k done g since act (over p r a i k done g since act new sends) m) (looks p r a i k done g since act (over p r a i k done g since act new sends) n) a k
    ((action_prints p r m done g since (Some act) ≡ action_prints p r n done g since (Some act)) × (action_covered p r m done g since (Some act) ≡ action_covered p r n done g since (Some act)))
    (λ yes d.
    (let fits = sent_of (known p.functions) act.callee (suc (length act.args)) yes in (
      (over_stays p r a i k done g since act sound n m le fits new sends d).0,
      λ fine.
          (let whole = over_same p r a i k done g since act sound n m le fits new sends fine in (
            ap (λ c. if is_sent_call (known p.functions) act.callee (suc (length act.args)) then printed_by c else []) whole,
            ap (λ c. covered_all (books_of r) since (txs_of c)) whole,
          )),
    ))) decided

-- findings that are these
stays_by : (f f1 g g1 : Finding) (P : Type 0) → f ≡ g → f1 ≡ g1 → (IsDecided g → (g1 ≡ g) × (g ≡ Fine → P)) → IsDecided f → (f1 ≡ f) × (f ≡ Fine → P)
stays_by f f1 g g1 P e e1 h d = let z = h (subst IsDecided e d) in (e1 ∙ z.0 ∙ sym e, λ fine. z.1 (sym e ∙ fine))

still_found_stays : (p : PlainProgram) (r : PlainReport) (n m a i k : ℕ) (full : Bool) (g : CellId) (since : List Place) (out : List ℕ) (o : Option Action) → Sound p → n ≤ m → IsDecided (still_found p r n full a i k g since out o)
    → (still_found p r m full a i k g since out o ≡ still_found p r n full a i k g since out o) × (still_found p r n full a i k g since out o ≡ Fine → action_covered p r m r.book g since o ≡ action_covered p r n r.book g since o)
still_found_stays p r n m a i k full g since out None sound le decided = (refl, λ fine. off_fine a i fine)
still_found_stays p r n m a i k full g since out (Some act) sound le decided =
    if_stays (is_sent_call (known p.functions) act.callee (suc (length act.args))) (looks p r a i k r.book g since act (not_over p r a i k r.book g since act full out) m) (looks p r a i k r.book g since act (not_over p r a i k r.book g since act full out) n) a i
    (action_covered p r m r.book g since (Some act) ≡ action_covered p r n r.book g since (Some act))
    (λ yes d. (let z = still_stays p r a i k r.book g since act sound n m le (sent_of (known p.functions) act.callee (suc (length act.args)) yes) full out d in (z.0, λ fine. ap (covered_all (books_of r) since) (z.1 fine)))) decided

-- of no event nothing has to be covered
none_covered : (p : PlainProgram) (r : PlainReport) (n m : ℕ) (done : List Event) (g : CellId) (o : Option Action) → action_covered p r m done g [] o ≡ action_covered p r n done g [] o
none_covered p r n m done g None = refl
none_covered p r n m done g (Some act) = refl

-- what is looked at where there was an event, or something was printed, or the actor was stopped for a full book
rest_printed : (p : PlainProgram) (r : PlainReport) (n a i k : ℕ) (g : CellId) (b : ℕ) (bs : List ℕ) → rest_found p r n false a i k g [] (b ∷ bs) ≡ still_found p r n false a i k g [] (b ∷ bs) (next_action (cells_of p.cells) r.book g)
rest_printed p r n a i k g b bs = refl

rest_named : (p : PlainProgram) (r : PlainReport) (n a i k : ℕ) (g : CellId) (q : Place) (qs : List Place) (out : List ℕ) → rest_found p r n false a i k g (q ∷ qs) out ≡ still_found p r n false a i k g (q ∷ qs) out (next_action (cells_of p.cells) r.book g)
rest_named p r n a i k g q qs out = refl

rest_full : (p : PlainProgram) (r : PlainReport) (n a i k : ℕ) (g : CellId) (since : List Place) (out : List ℕ) → rest_found p r n true a i k g since out ≡ still_found p r n true a i k g since out (next_action (cells_of p.cells) r.book g)
rest_full p r n a i k g since out = refl

-- so it is what is found of the first action
rest_by : (p : PlainProgram) (r : PlainReport) (n m a i k : ℕ) (full : Bool) (g : CellId) (since : List Place) (out : List ℕ) → Sound p → n ≤ m
    → ((j : ℕ) → rest_found p r j full a i k g since out ≡ still_found p r j full a i k g since out (next_action (cells_of p.cells) r.book g)) → IsDecided (rest_found p r n full a i k g since out)
    → (rest_found p r m full a i k g since out ≡ rest_found p r n full a i k g since out)
    × (rest_found p r n full a i k g since out ≡ Fine → action_covered p r m r.book g since (next_action (cells_of p.cells) r.book g) ≡ action_covered p r n r.book g since (next_action (cells_of p.cells) r.book g))
rest_by p r n m a i k full g since out sound le same decided =
    let next = next_action (cells_of p.cells) r.book g in
    stays_by (rest_found p r n full a i k g since out) (rest_found p r m full a i k g since out) (still_found p r n full a i k g since out next) (still_found p r m full a i k g since out next)
    (action_covered p r m r.book g since next ≡ action_covered p r n r.book g since next) (same n) (same m) (still_found_stays p r n m a i k full g since out next sound le) decided

pub rest_stays : RestStays
rest_stays p r n m a i k true g since out sound le decided = rest_by p r n m a i k true g since out sound le (λ j. rest_full p r j a i k g since out) decided
rest_stays p r n m a i k false g [] [] sound le decided = (refl, λ fine. none_covered p r n m r.book g (next_action (cells_of p.cells) r.book g))
rest_stays p r n m a i k false g [] (b ∷ bs) sound le decided = rest_by p r n m a i k false g [] (b ∷ bs) sound le (λ j. rest_printed p r j a i k g b bs) decided
rest_stays p r n m a i k false g (q ∷ qs) out sound le decided = rest_by p r n m a i k false g (q ∷ qs) out sound le (λ j. rest_named p r j a i k g q qs out) decided
