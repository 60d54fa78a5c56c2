-- What the actions of a trace print, one entry after the other.
use Rattle.std.proofs.Common.{◌≡◌, ◌≤◌, ◌<◌, ◌+◌, ◌-◌, ◌==◌, ◌&&◌, ◌⊎◌, inl, inr, ℕ, zero, suc, Bool, true, false, List, [], ◌∷◌, ◌++◌, append_assoc, append-nil, length, take, drop, get_or, Option, Some, None, refl, sym, ap, ◌∙◌, arith}
use Rattle.std.specs.Prelude.{not}
use Rattle.std.proofs.lemmas.Bool.{eqb-true, false≢true}
use Rattle.std.proofs.lemmas.List.{drop-append-le, drop_all, length-drop, length-map}
use Rattle.txs_value_data.specs.Places.{nth}
use Rattle.txs_value_data.specs.declared.value.CellId.{CellId}
use Rattle.txs_world.specs.Store.{next_action}
use Rattle.txs_world_book.specs.Served.{cells_of}
use Rattle.txs_world_protocol.specs.declared.event.Event.{Event}
use Rattle.txs_world_protocol.specs.declared.event.EventKind.{EventKind}
use Rattle.txs_world_protocol.specs.declared.event.EventKind.TheVariants.{Read, Commit, Retry, Fail, Refused, Send, SendRefused, Act, Swap, Broke}
use Rattle.txs_world_protocol.specs.declared.event.Place as event
use Rattle.txs_tree_meaning.proofs.Callable.{both}
use Rattle.txs_tree_meaning.specs.Tree.{PlainProgram}
use Rattle.txs_tree_meaning.specs.View.{program_of}
use Rattle.txs_theorem_runs.specs.Told.{Place}
use Rattle.txs_theorem_serial.specs.Whole.{is_act, is_act_kind}
use Rattle.txs_theorem_audit.specs.Audited.{PlainActorReport, PlainReport, books_of, place_of, Finding, Fine, Off, and_then, check}
use Rattle.txs_theorem_audit.specs.Pieces.{act_finding, acts_print, end_finding, end_serial, event_serial, kind_finding, kind_prints, kind_serial, part_of, prints_at}
use Rattle.txs_theorem_audit.specs.Verdict.{action_covered, action_found, action_prints, agent_end, begins, is_full_stop, is_stopped, rest_found, still_found}
use Rattle.txs_theorem_audit.proofs.Findings.{not_there}
use Rattle.txs_audit_evidence.specs.Acted.{NamesAct, PrintsOn}
use Rattle.txs_audit_evidence.specs.Evidence.{PlainBooks}
use Rattle.txs_audit_order.specs.Named.{plain_trace}
use Rattle.txs_audit_evidence.specs.declared.acts.Act as act

-- ---- parts of a trace

drop_there : {A : Type 0} (xs : List A) (k : ℕ) (x : A) → nth xs k ≡ Some x → drop k xs ≡ x ∷ drop (suc k) xs
drop_there [] k x there = not_there there
drop_there (y ∷ xs) zero x there = ap (λ z. z ∷ xs) (some_is y x there)
  where
    some_is : {A : Type 0} (a b : A) → Some a ≡ Some b → a ≡ b
    some_is a b e = cc
drop_there (y ∷ xs) (suc k) x there = drop_there xs k x there

take_there : {A : Type 0} (xs : List A) (k : ℕ) (x : A) → nth xs k ≡ Some x → take (suc k) xs ≡ take k xs ++ x ∷ []
take_there [] k x there = not_there there
take_there (y ∷ xs) zero x there = ap (λ z. z ∷ []) (some_is y x there)
  where
    some_is : {A : Type 0} (a b : A) → Some a ≡ Some b → a ≡ b
    some_is a b e = cc
take_there (y ∷ xs) (suc k) x there = ap (λ l. y ∷ l) (take_there xs k x there)

take_long : {A : Type 0} (xs : List A) (k : ℕ) → k ≤ length xs → length (take k xs) ≡ k
take_long xs zero le = refl
take_long [] (suc k) le = absurd (omega (arith, le))
take_long (x ∷ xs) (suc k) le = ap suc (take_long xs k (omega (arith, le)))

drop_past : {A : Type 0} (xs : List A) → drop (length xs) xs ≡ []
drop_past [] = refl
drop_past (x ∷ xs) = drop_past xs

pub there_below : {A : Type 0} (xs : List A) (k : ℕ) (x : A) → nth xs k ≡ Some x → k < length xs
there_below [] k x there = not_there there
there_below (y ∷ xs) zero x there = omega arith
there_below (y ∷ xs) (suc k) x there = let lt = there_below xs k x there in omega (arith, lt)

-- a part of a trace by its pieces
map_take : (k : ℕ) (ps : List event.Place) → plain_trace (take k ps) ≡ take k (plain_trace ps)
map_take zero ps = refl
map_take (suc k) [] = refl
map_take (suc k) (p ∷ ps) = ap (λ l. place_of p ∷ l) (map_take k ps)

pub map_drop : (k : ℕ) (ps : List event.Place) → plain_trace (drop k ps) ≡ drop k (plain_trace ps)
map_drop zero ps = refl
map_drop (suc k) [] = refl
map_drop (suc k) (p ∷ ps) = map_drop k ps

pub part_plain : (trace front part : List event.Place) (i k : ℕ) → front ≡ take k trace → part ≡ drop i front → plain_trace part ≡ part_of i k (plain_trace trace)
part_plain trace front part i k first second = ap plain_trace second ∙ map_drop i front ∙ ap (drop i) (ap plain_trace first ∙ map_take k trace)

pub part_many : (trace front part : List event.Place) (i k : ℕ) → i ≤ k → k ≤ length trace → front ≡ take k trace → part ≡ drop i front → length part ≡ k - i
part_many trace front part i k le within first second = ap length second ∙ length-drop i front ∙ ap (λ m. m - i) (ap length first ∙ take_long trace k within)

-- the entry at an index
pub entry_plain : (trace : List event.Place) (k : ℕ) (q : event.Place) → k < length trace → q ≡ get_or trace k q → nth (plain_trace trace) k ≡ Some (place_of q)
entry_plain [] k q lt is = absurd (omega (arith, lt))
entry_plain (p ∷ ps) zero q lt is = ap (λ x. Some (place_of x)) (sym is)
entry_plain (p ∷ ps) (suc k) q lt is = entry_plain ps k q (omega (arith, lt)) is

pub got_place : (trace : List event.Place) (k : ℕ) (q : event.Place) → Some q ≡ nth trace k → nth (plain_trace trace) k ≡ Some (place_of q)
got_place [] k q is = not_there (sym is)
got_place (p ∷ ps) zero q is = ap (λ x. Some (place_of x)) (some_is p q (sym is))
  where
    some_is : (a b : event.Place) → Some a ≡ Some b → a ≡ b
    some_is a b e = cc
got_place (p ∷ ps) (suc k) q is = got_place ps k q is

pub got_no_place : (trace : List event.Place) (k : ℕ) → None ≡ nth trace k → nth (plain_trace trace) k ≡ None
got_no_place [] k is = refl
got_no_place (p ∷ ps) zero is = not_there is
got_no_place (p ∷ ps) (suc k) is = got_no_place ps k is

-- ---- what an entry says

kind_nothing : (p : PlainProgram) (r : PlainReport) (n a k : ℕ) (q : Place) (since : List Place) (d : EventKind) → is_act_kind d ≡ false → (kind_finding p r n a since k q d ≡ Fine) × (kind_serial p r n q since d ≡ true)
kind_nothing p r n a k q since (Read c) h = (refl, refl)
kind_nothing p r n a k q since (Commit at view ws sends) h = (refl, refl)
kind_nothing p r n a k q since (Retry from c cause) h = (refl, refl)
kind_nothing p r n a k q since (Fail at view) h = (refl, refl)
kind_nothing p r n a k q since (Refused at view g) h = (refl, refl)
kind_nothing p r n a k q since (Send x) h = (refl, refl)
kind_nothing p r n a k q since (SendRefused g) h = (refl, refl)
kind_nothing p r n a k q since (Act g number new sends) h = absurd (false≢true (sym h))
kind_nothing p r n a k q since (Swap new) h = (refl, refl)
kind_nothing p r n a k q since (Broke at) h = (refl, refl)

-- of an entry that names no act nothing is found
pub nothing_found : (p : PlainProgram) (r : PlainReport) (n a k : ℕ) (q : Place) (since : List Place) (o : Option Event) → is_act o ≡ false → (act_finding p r n a since k q o ≡ Fine) × (event_serial p r n q since o ≡ true)
nothing_found p r n a k q since None h = (refl, refl)
nothing_found p r n a k q since (Some e) h = kind_nothing p r n a k q since e.kind h

kind_silent : (p : PlainProgram) (r : PlainReport) (n : ℕ) (q : Place) (since : List Place) (d : EventKind) (go : List Place → List ℕ) → is_act_kind d ≡ false → kind_prints p r n q since d go ≡ go (since ++ q ∷ [])
kind_silent p r n q since (Read c) go h = refl
kind_silent p r n q since (Commit at view ws sends) go h = refl
kind_silent p r n q since (Retry from c cause) go h = refl
kind_silent p r n q since (Fail at view) go h = refl
kind_silent p r n q since (Refused at view g) go h = refl
kind_silent p r n q since (Send x) go h = refl
kind_silent p r n q since (SendRefused g) go h = refl
kind_silent p r n q since (Act g number new sends) go h = absurd (false≢true (sym h))
kind_silent p r n q since (Swap new) go h = refl
kind_silent p r n q since (Broke at) go h = refl

silent : (p : PlainProgram) (r : PlainReport) (n : ℕ) (q : Place) (since : List Place) (o : Option Event) (go : List Place → List ℕ) → is_act o ≡ false → prints_at p r n q since o go ≡ go (since ++ q ∷ [])
silent p r n q since None go h = refl
silent p r n q since (Some e) go h = kind_silent p r n q since e.kind go h

-- an act of the store's book
module _ (b : PlainBooks) (n : ℕ) (q : Place) (a : act.Act) (names : NamesAct b q (Some a)) where
  abbrev p : PlainProgram
  p = program_of b.program

  abbrev r : PlainReport
  r = b.report

  abbrev done : List Event
  done = take a.at r.book

  there : nth (books_of r q.book) q.at ≡ Some names.2.0
  there = ap (λ k. nth (books_of r k) q.at) names.0 ∙ ap (nth r.book) (sym names.1) ∙ names.2.1

  its_done : take q.at (books_of r q.book) ≡ done
  its_done = ap (λ k. take q.at (books_of r k)) names.0 ∙ ap (λ k. take k r.book) (sym names.1)

  pub act_found_is : (c k : ℕ) (since : List Place) → act_finding p r n c since k q (nth (books_of r q.book) q.at) ≡ action_found p r n c (k - length since) k done a.agent since a.new.now a.sends.now (next_action (cells_of p.cells) done a.agent)
  act_found_is c k since =
      ap (act_finding p r n c since k q) there ∙ ap (kind_finding p r n c since k q) names.2.2
      ∙ ap (λ (l : List Event). action_found p r n c (k - length since) k l a.agent since a.new.now a.sends.now (next_action (cells_of p.cells) l a.agent)) its_done

  pub act_covered_is : (since : List Place) → event_serial p r n q since (nth (books_of r q.book) q.at) ≡ action_covered p r n done a.agent since (next_action (cells_of p.cells) done a.agent)
  act_covered_is since =
      ap (event_serial p r n q since) there ∙ ap (kind_serial p r n q since) names.2.2 ∙ ap (λ (l : List Event). action_covered p r n l a.agent since (next_action (cells_of p.cells) l a.agent)) its_done

  act_prints_is : (since : List Place) (go : List Place → List ℕ) → prints_at p r n q since (nth (books_of r q.book) q.at) go ≡ action_prints p r n done a.agent since (next_action (cells_of p.cells) done a.agent) ++ go []
  act_prints_is since go =
      ap (λ o. prints_at p r n q since o go) there ∙ ap (λ d. kind_prints p r n q since d go) names.2.2 ∙ ap (λ (l : List Event). action_prints p r n l a.agent since (next_action (cells_of p.cells) l a.agent) ++ go []) its_done

  -- what is found of it, where its events are those of this part of the trace
  pub act_here : (c k first : ℕ) (part since : List Place) → part ≡ since → first ≡ k - length since → (f : Finding)
      → f ≡ action_found p r n c first k done a.agent part a.new.now a.sends.now (next_action (cells_of p.cells) done a.agent) → f ≡ act_finding p r n c since k q (nth (books_of r q.book) q.at)
  act_here c k first part since same begin f is =
      is ∙ ap (λ (l : List Place). action_found p r n c first k done a.agent l a.new.now a.sends.now (next_action (cells_of p.cells) done a.agent)) same
      ∙ ap (λ m. action_found p r n c m k done a.agent since a.new.now a.sends.now (next_action (cells_of p.cells) done a.agent)) begin
      ∙ sym (act_found_is c k since)

  pub covered_here : (part since : List Place) → part ≡ since → (t : Bool) → t ≡ action_covered p r n done a.agent part (next_action (cells_of p.cells) done a.agent) → t ≡ event_serial p r n q since (nth (books_of r q.book) q.at)
  covered_here part since same t is = is ∙ ap (λ (l : List Place). action_covered p r n done a.agent l (next_action (cells_of p.cells) done a.agent)) same ∙ sym (act_covered_is since)

-- ---- one entry more

module _ (b : PlainBooks) (n : ℕ) (trace : List Place) (i k : ℕ) (le : i ≤ k) (q : Place) (here : nth trace k ≡ Some q) where
  abbrev prints : List Place → List Place → List ℕ
  prints since qs = acts_print (program_of b.program) b.report n since qs

  abbrev rest : List Place
  rest = drop (suc k) trace

  from_here : (since : List Place) → prints since (drop k trace) ≡ prints_at (program_of b.program) b.report n q since (nth (books_of b.report q.book) q.at) (λ since1. prints since1 rest)
  from_here since = ap (prints since) (drop_there trace k q here)

  longer : part_of i (suc k) trace ≡ part_of i k trace ++ q ∷ []
  longer =
      let lt = there_below trace k q here in
      let long = take_long trace k (omega (arith, lt)) in
      ap (drop i) (take_there trace k q here) ∙ drop-append-le i (take k trace) (q ∷ []) (omega (arith, long, le))

  -- that names no act
  pub prints_same : (old : List ℕ) → NamesAct b q None → PrintsOn (program_of b.program) b.report n trace i k old i old
  prints_same old none = record {
    began = omega (arith, le);
    prints = ap (λ l. old ++ prints l rest) longer ∙ ap (λ l. old ++ l) (sym (from_here (part_of i k trace) ∙ silent (program_of b.program) b.report n q (part_of i k trace) (nth (books_of b.report q.book) q.at) (λ since1. prints since1 rest) none));
  }

  -- that names one
  pub prints_more : (old new printed : List ℕ) (j : ℕ) (a : act.Act) → NamesAct b q (Some a) → j ≡ k + 1
      → printed ≡ action_prints (program_of b.program) b.report n (take a.at b.report.book) a.agent (part_of i k trace) (next_action (cells_of b.program.cells) (take a.at b.report.book) a.agent)
      → new ≡ old ++ printed → PrintsOn (program_of b.program) b.report n trace i k old j new
  prints_more old new printed j a names next is all =
      let end : j ≡ suc k = omega (arith, next) in
      let none : part_of j (suc k) trace ≡ [] = ap (λ m. part_of m (suc k) trace) end ∙ nothing_left in
      record {
        began = omega (arith, end);
        prints = ap (λ l. new ++ prints l rest) none ∙ ap (λ l. l ++ prints [] rest) all ∙ append_assoc old printed (prints [] rest)
            ∙ ap (λ l. old ++ (l ++ prints [] rest)) is ∙ ap (λ l. old ++ l) (sym (from_here (part_of i k trace) ∙ act_prints_is b n q a names (part_of i k trace) (λ since1. prints since1 rest)));
      }
    where
      nothing_left : part_of (suc k) (suc k) trace ≡ []
      nothing_left = (let lt = there_below trace k q here in let long = take_long trace (suc k) (omega (arith, lt)) in drop_all (suc k) (take (suc k) trace) (omega (arith, long)))

-- ---- the loop over a trace

pub prints_first : (p : PlainProgram) (r : PlainReport) (n : ℕ) (trace : List Place) (all : List ℕ) → all ≡ [] → all ++ acts_print p r n (part_of 0 0 trace) (drop 0 trace) ≡ acts_print p r n [] trace
prints_first p r n trace all none = ap (λ l. l ++ acts_print p r n (part_of 0 0 trace) (drop 0 trace)) none ∙ ap (λ l. acts_print p r n l trace) nothing
  where
    nothing : part_of 0 0 trace ≡ []
    nothing = refl

pub prints_next : (p : PlainProgram) (r : PlainReport) (n : ℕ) (trace : List Place) (i k : ℕ) (old : List ℕ) (j : ℕ) (new whole : List ℕ) → PrintsOn p r n trace i k old j new → old ++ acts_print p r n (part_of i k trace) (drop k trace) ≡ whole
    → (j ≤ k + 1) × (new ++ acts_print p r n (part_of j (k + 1) trace) (drop (k + 1) trace) ≡ whole)
prints_next p r n trace i k old j new whole h before =
    let z : k + 1 ≡ suc k = omega arith in
    let le = h.began in
    (omega (arith, le), ap (λ m. new ++ acts_print p r n (part_of j m trace) (drop m trace)) z ∙ h.prints ∙ before)

pub prints_end : (p : PlainProgram) (r : PlainReport) (n : ℕ) (trace : List Place) (i k : ℕ) (all whole : List ℕ) → length trace ≤ k → all ++ acts_print p r n (part_of i k trace) (drop k trace) ≡ whole → all ≡ whole
prints_end p r n trace i k all whole end h = sym (append-nil all) ∙ ap (λ l. all ++ acts_print p r n (part_of i k trace) l) (sym (drop_all k trace end)) ∙ h

-- ---- ends

-- what begins others is no longer
pub begins_few : (xs ys : List ℕ) → begins xs ys ≡ true → length xs ≤ length ys
begins_few [] ys h = omega arith
begins_few (x ∷ xs) [] h = absurd (false≢true h)
begins_few (x ∷ xs) (y ∷ ys) h = (let le = begins_few xs ys (second (x == y) (begins xs ys) h) in omega (arith, le))
  where
    second : (a b : Bool) → (a && b) ≡ true → b ≡ true
    second true b e = e
    second false b e = absurd (false≢true e)

-- where there is something behind the last act, or its actor was stopped for a full book
pub rest_still : (p : PlainProgram) (r : PlainReport) (n : ℕ) (full : Bool) (a i k : ℕ) (g : CellId) (since : List Place) (out : List ℕ) → (not full && (length since == 0 && length out == 0)) ≡ false
    → still_found p r n full a i k g since out (next_action (cells_of p.cells) r.book g) ≡ rest_found p r n full a i k g since out
rest_still p r n true a i k g since out h = refl
rest_still p r n false a i k g [] [] h = absurd (false≢true (sym h))
rest_still p r n false a i k g [] (o ∷ os) h = refl
rest_still p r n false a i k g (q ∷ qs) out h = refl

pub rest_nothing : (p : PlainProgram) (r : PlainReport) (n : ℕ) (full : Bool) (a i k : ℕ) (g : CellId) (since : List Place) (out : List ℕ) → (not full && (length since == 0 && length out == 0)) ≡ true
    → (since ≡ []) × (Fine ≡ rest_found p r n full a i k g since out)
rest_nothing p r n true a i k g since out h = absurd (false≢true h)
rest_nothing p r n false a i k g [] [] h = (refl, refl)
rest_nothing p r n false a i k g [] (o ∷ os) h = (let z = eqb-true (length (o ∷ os)) 0 h in absurd (omega (arith, z)))
rest_nothing p r n false a i k g (q ∷ qs) out h = (let z = eqb-true (length (q ∷ qs)) 0 (both (length (q ∷ qs) == 0) (length out == 0) h).0 in absurd (omega (arith, z)))

pub and_no : (b : Bool) → (b && false) ≡ false
and_no true = refl
and_no false = refl

-- the end of an agent that ended, or printed something else; and of one that didn't
module _ (p : PlainProgram) (r : PlainReport) (n a : ℕ) (g : CellId) (since : List Place) (outs : List ℕ) (ran : PlainActorReport) where
  abbrev rest_of : Finding
  rest_of = rest_found p r n (is_full_stop ran.outcome) a (length ran.trace - length since) (length ran.trace) g since (drop (length outs) ran.printed)

  pub end_off : (is_stopped ran.outcome && begins outs ran.printed) ≡ false → Off a (length ran.trace) ≡ agent_end p r n a g since outs ran
  end_off not = sym (ap (λ t. and_then (check t a (length ran.trace)) rest_of) not)

  pub end_holds : (is_stopped ran.outcome && begins outs ran.printed) ≡ true → rest_of ≡ agent_end p r n a g since outs ran
  end_holds both_so = sym (ap (λ t. and_then (check t a (length ran.trace)) rest_of) both_so)

-- whether there is nothing, by another spelling of the entries
pub nothing_is : (ps : List event.Place) (since : List Place) → plain_trace ps ≡ since → (full : Bool) (out : List ℕ) (none : Bool) → none ≡ (not full && (length ps == 0 && length out == 0)) → (not full && (length since == 0 && length out == 0)) ≡ none
nothing_is ps since same full out none is = sym (is ∙ ap (λ m. not full && (m == 0 && length out == 0)) (sym (length-map ps place_of) ∙ ap (λ (l : List Place). length l) same))

-- from an index on a trace has as many entries as are left
pub left_long : (trace : List Place) (i : ℕ) → i ≤ length trace → length trace - length (drop i trace) ≡ i
left_long trace i le = (let long = length-drop i trace in omega (arith, long, le))

-- what is dropped from no further on is the same
pub drop_least : (trace : List Place) (i j : ℕ) → (i ≤ length trace → j ≡ i) → (length trace ≤ i → j ≡ length trace) → drop j trace ≡ drop i trace
drop_least trace i j below past = go (either_way i (length trace))
  where
    either_way : (m k : ℕ) → (m ≤ k) ⊎ (k ≤ m)
    either_way zero k = inl (omega arith)
    either_way (suc m) zero = inr (omega arith)
    either_way (suc m) (suc k) = more (either_way m k)
      where
        more : (m ≤ k) ⊎ (k ≤ m) → (suc m ≤ suc k) ⊎ (suc k ≤ suc m)
        more (inl h) = inl (omega (arith, h))
        more (inr h) = inr (omega (arith, h))

    go : (i ≤ length trace) ⊎ (length trace ≤ i) → drop j trace ≡ drop i trace
    go (inl le) = ap (λ m. drop m trace) (below le)
    go (inr le) = ap (λ m. drop m trace) (past le) ∙ drop_past trace ∙ sym (drop_all i trace le)

-- a part up to an index that begins no later than there
pub part_least : (trace : List Place) (i j k : ℕ) → k ≤ length trace → (i ≤ k → j ≡ i) → (k ≤ i → j ≡ k) → part_of j k trace ≡ part_of i k trace
part_least trace i j k within below past =
    let long = take_long trace k within in
    drop_least (take k trace) i j (λ le. below (omega (arith, le, long))) (λ le. past (omega (arith, le, long)) ∙ sym long)

pub no_later : (i j k : ℕ) → (i ≤ k → j ≡ i) → (k ≤ i → j ≡ k) → j ≤ k
no_later i j k below past = go (which_way i k)
  where
    which_way : (m n : ℕ) → (m ≤ n) ⊎ (n ≤ m)
    which_way zero n = inl (omega arith)
    which_way (suc m) zero = inr (omega arith)
    which_way (suc m) (suc n) = more (which_way m n)
      where
        more : (m ≤ n) ⊎ (n ≤ m) → (suc m ≤ suc n) ⊎ (suc n ≤ suc m)
        more (inl h) = inl (omega (arith, h))
        more (inr h) = inr (omega (arith, h))

    go : (i ≤ k) ⊎ (k ≤ i) → j ≤ k
    go (inl le) = let e = below le in omega (arith, le, e)
    go (inr le) = let e = past le in omega (arith, e)

-- where such a part begins
pub begins_at : (part : List event.Place) (since : List Place) (j k : ℕ) → j ≤ k → length part ≡ k - j → plain_trace part ≡ since → j ≡ k - length since
begins_at part since j k le many same =
    let long = length-map part place_of in
    let all = ap (λ (l : List Place). length l) same in
    omega (arith, le, many, long, all)

-- of an agent without an entry nothing is found
pub no_end_found : (p : PlainProgram) (r : PlainReport) (n a i : ℕ) (o : Option CellId) (x : Option PlainActorReport) → x ≡ None → (Fine ≡ end_finding p r n a i o x) × (true ≡ end_serial p r n i o x)
no_end_found p r n a i None x none = (refl, refl)
no_end_found p r n a i (Some g) x none = (sym (ap (end_finding p r n a i (Some g)) none), sym (ap (end_serial p r n i (Some g)) none))
