-- What a sentence says is so.
use Rattle.std.proofs.Common.{◌≡◌, ℕ, zero, suc, ◌+◌, ◌==◌, ◌||◌, ◌-◌, nat_lt, Bool, true, false, List, [], ◌∷◌, ◌++◌, take, drop, append_assoc, Option, Some, None, Result, refl, sym, ap, ◌∙◌, subst, arith, if◌then◌else◌}
use Rattle.std.proofs.lemmas.Bool.{eqb-true, false≢true}
use Rattle.txs_value_data.specs.Places.{nth}
use Rattle.txs_value_data.specs.declared.fault.Fault.{Fault}
use Rattle.txs_value_data.specs.declared.fault.Span.{Span}
use Rattle.txs_value_cell.specs.declared.action.Action.{Action}
use Rattle.txs_value_data.specs.declared.value.CellId.{CellId}
use Rattle.txs_value_data.specs.declared.value.Value.{Value}
use Rattle.txs_world_protocol.specs.Ask.{Writes, same_cell, same_new, same_value}
use Rattle.txs_world_protocol.specs.declared.event.Event.{Event}
use Rattle.txs_world_protocol.specs.declared.event.EventKind.{EventKind}
use Rattle.txs_world_protocol.specs.declared.event.EventKind.TheVariants.{Read, Commit, Retry, Fail, Refused, Send, SendRefused, Act, Swap, Broke}
use Rattle.txs_world_protocol.specs.declared.event.Outcome.{Outcome}
use Rattle.txs_world_book.specs.Book.{first_failed, written, writes_of, writes_to}
use Rattle.txs_world_book.specs.Served.{cells_of}
use Rattle.txs_world_book.specs.declared.cell.StoreCell.{StoreCell}
use Rattle.txs_frame.specs.Frame.{PlainTxFrame, sends_of_commit}
use Rattle.txs_tree_meaning.proofs.Callable.{both}
use Rattle.txs_tree_meaning.specs.Right.{is_wrong}
use Rattle.txs_tree_meaning.specs.Tree.{PlainProgram}
use Rattle.txs_theorem_audit.specs.Audited.{PlainActorReport}
use Rattle.txs_theorem_audit.specs.Verdict.{begins, is_full_book, is_full_stop, is_stopped}
use Rattle.txs_theorem_audit.specs.Evaluated.{same_end}
use Rattle.txs_audit_event.specs.Lines.{end_what, events_in, full_end, full_what, line_from, line_of, line_what, outcome_of, part_what, printed_what, stop_what}
use Rattle.txs_audit_event.specs.Transactions.{Asked, asked_on, asked_what, booked_what, break, by_what, calm_at, calm_what, cause_what, changed_what, commit_run, commit_what, committed_run, committed_what, disturbed_what, dosync_what, ended_what, fail_what, failure, fault_what, first_written, is_sent_at, late_what, or_else, or_what, other_what, place_what, refusal, refused_run, refused_what, send_what, sent_what, write_what, writer_of, writes_meant, wrong_what, wrote_what}
use Rattle.txs_audit_event.specs.Truth.{ActTrue, AreFirst, EndTrue, EventTrue, IsWritten, LineTrue, before_line, is_failure, is_send, lines, refused_by, refused_for, retried_for, same_sent, same_there, sends_in}
use Rattle.txs_audit_event.specs.declared.asking.Faulted.{Faulted}
use Rattle.txs_audit_event.specs.declared.what.What.{What}
use Rattle.txs_audit_event.specs.declared.what.What.TheVariants as what

-- ---- lines

-- none of these bytes ends a line
abbrev NoEnd : List ℕ → Type 0
NoEnd [] = Unit {0}
NoEnd (x ∷ xs) = ((x == 10) ≡ false) × NoEnd xs

no_end_on : (front : List ℕ) (x : ℕ) → NoEnd front → (x == 10) ≡ false → NoEnd (front ++ x ∷ [])
no_end_on [] x h e = (e, tt)
no_end_on (y ∷ front) x h e = (h.0, no_end_on front x h.1 e)

-- a whole line, and the lines behind it
line_first : (front : List ℕ) (x : ℕ) (xs : List ℕ) → NoEnd front → (x == 10) ≡ true → lines (front ++ x ∷ xs) ≡ front ∷ lines xs
line_first [] x xs h e = ap (λ b. if b then [] ∷ lines xs else before_line x (lines xs)) e
line_first (y ∷ front) x xs h e =
    ap (λ b. if b then [] ∷ lines (front ++ x ∷ xs) else before_line y (lines (front ++ x ∷ xs))) h.0 ∙ ap (before_line y) (line_first front x xs h.1 e)

abbrev with_byte : ℕ → Option (List ℕ) → Option (List ℕ)
with_byte x None = Some (x ∷ [])
with_byte x (Some l) = Some (x ∷ l)

first_before : (x : ℕ) (ls : List (List ℕ)) → nth (before_line x ls) 0 ≡ with_byte x (nth ls 0)
first_before x [] = refl
first_before x (l ∷ ls) = refl

-- the first line of a text
abbrev first_of : List ℕ → Option (List ℕ)
first_of [] = None
first_of (x ∷ xs) = Some (line_of (x ∷ xs))

first_by : (x : ℕ) (xs : List ℕ) → nth (lines xs) 0 ≡ first_of xs → nth (lines (x ∷ xs)) 0 ≡ first_of (x ∷ xs)
first_by x xs rest = test (x == 10)
  where
    more : (ys : List ℕ) → with_byte x (first_of ys) ≡ Some (x ∷ line_of ys)
    more [] = refl
    more (y ∷ ys) = refl

    test : (b : Bool) → nth (if b then [] ∷ lines xs else before_line x (lines xs)) 0 ≡ Some (if b then [] else x ∷ line_of xs)
    test true = refl
    test false = first_before x (lines xs) ∙ ap (with_byte x) rest ∙ more xs

first_line : (xs : List ℕ) → nth (lines xs) 0 ≡ first_of xs
first_line [] = refl
first_line (x ∷ xs) = first_by x xs (first_line xs)

line_from_so : (front rest : List ℕ) → NoEnd front → line_from front rest ≡ nth (lines (front ++ rest)) 0
line_from_so [] [] h = refl
line_from_so [] (y ∷ ys) h = sym (first_line (y ∷ ys))
line_from_so (x ∷ front) rest h =
    sym (ap (λ b. nth (if b then [] ∷ lines (front ++ rest) else before_line x (lines (front ++ rest))) 0) h.0 ∙ first_before x (lines (front ++ rest)) ∙ ap (with_byte x) (sym (line_from_so front rest h.1)) ∙ more front rest)
  where
    more : (fs rs : List ℕ) → with_byte x (line_from fs rs) ≡ Some (x ∷ (fs ++ line_of rs))
    more [] [] = refl
    more [] (r ∷ rs) = refl
    more (f ∷ fs) rs = refl

-- a line that is told behind n others
pub record IsTold (n : ℕ) (w : What) (xs ys : List ℕ) : Type 0 where
  pub number : ℕ
  pub expected : Option (List ℕ)
  pub found : Option (List ℕ)
  pub is : w ≡ what.Line (n + number) expected found
  pub are : AreFirst xs ys number expected found

told_here : (n : ℕ) (front xs ys : List ℕ) → NoEnd front → IsTold n (what.Line n (line_from front xs) (line_from front ys)) (front ++ xs) (front ++ ys)
told_here n front xs ys h =
    let e : n ≡ n + 0 = omega arith in
    record {
      number = 0;
      expected = line_from front xs;
      found = line_from front ys;
      is = ap (λ k. what.Line k (line_from front xs) (line_from front ys)) e;
      are = record { expected = line_from_so front xs h; found = line_from_so front ys h; before = refl };
    }

told_on : (n : ℕ) (w : What) (front xs ys : List ℕ) (x y : ℕ) → NoEnd front → (x == 10) ≡ true → (y == 10) ≡ true → IsTold (suc n) w xs ys → IsTold n w (front ++ x ∷ xs) (front ++ y ∷ ys)
told_on n w front xs ys x y h ex ey told =
    let m = told.number in
    let many : suc n + m ≡ n + suc m = omega arith in
    let left : lines (front ++ x ∷ xs) ≡ front ∷ lines xs = line_first front x xs h ex in
    let right : lines (front ++ y ∷ ys) ≡ front ∷ lines ys = line_first front y ys h ey in
    record {
      number = suc m;
      expected = told.expected;
      found = told.found;
      is = told.is ∙ ap (λ k. what.Line k told.expected told.found) many;
      are = record {
        expected = told.are.expected ∙ sym (ap (λ l. nth l (suc m)) left);
        found = told.are.found ∙ sym (ap (λ l. nth l (suc m)) right);
        before = ap (take (suc m)) left ∙ ap (λ l. front ∷ l) told.are.before ∙ sym (ap (take (suc m)) right);
      };
    }

told_along : (n : ℕ) (w : What) (xs ys xs1 ys1 : List ℕ) → xs ≡ xs1 → ys ≡ ys1 → IsTold n w xs ys → IsTold n w xs1 ys1
told_along n w xs ys xs1 ys1 e f told = subst (λ l. IsTold n w l ys1) e (subst (λ l. IsTold n w xs l) f told)

line_told : (n : ℕ) (front xs ys : List ℕ) → NoEnd front → IsTold n (line_what n front xs ys) (front ++ xs) (front ++ ys)
line_told n front [] [] h = told_here n front [] [] h
line_told n front [] (y ∷ ys) h = told_here n front [] (y ∷ ys) h
line_told n front (x ∷ xs) [] h = told_here n front (x ∷ xs) [] h
line_told n front (x ∷ xs) (y ∷ ys) h = test (x == y) refl (x == 10) refl (line_told (suc n) [] xs ys tt) (λ c. line_told n (front ++ x ∷ []) xs ys (no_end_on front x h c))
  where
    behind : (zs : List ℕ) → (front ++ x ∷ []) ++ zs ≡ front ++ x ∷ zs
    behind zs = append_assoc front (x ∷ []) zs

    test : (b : Bool) → (x == y) ≡ b → (c : Bool) → (x == 10) ≡ c → IsTold (suc n) (line_what (suc n) [] xs ys) xs ys → ((x == 10) ≡ false → IsTold n (line_what n (front ++ x ∷ []) xs ys) ((front ++ x ∷ []) ++ xs) ((front ++ x ∷ []) ++ ys))
        → IsTold n (if b then (if c then line_what (suc n) [] xs ys else line_what n (front ++ x ∷ []) xs ys) else what.Line n (line_from front (x ∷ xs)) (line_from front (y ∷ ys))) (front ++ x ∷ xs) (front ++ y ∷ ys)
    test true e true c next on =
        let same : (y == 10) ≡ true = ap (λ z. z == 10) (sym (eqb-true x y e)) ∙ c in
        told_on n (line_what (suc n) [] xs ys) front xs ys x y h c same next
    test true e false c next on =
        told_along n (line_what n (front ++ x ∷ []) xs ys) ((front ++ x ∷ []) ++ xs) ((front ++ x ∷ []) ++ ys) (front ++ x ∷ xs) (front ++ y ∷ ys) (behind xs) (behind ys ∙ ap (λ z. front ++ z ∷ ys) (eqb-true x y e)) (on c)
    test false e c f next on = told_here n front (x ∷ xs) (y ∷ ys) h

-- of one behind none
told_first : (w : What) (xs ys : List ℕ) → (told : IsTold 0 w xs ys) → w ≡ what.Line told.number told.expected told.found
told_first w xs ys told = let none : 0 + told.number ≡ told.number = omega arith in told.is ∙ ap (λ k. what.Line k told.expected told.found) none

pub lines_true : (xs ys : List ℕ) → LineTrue xs ys (printed_what xs ys)
lines_true xs ys = let told = line_told 0 [] xs ys tt in subst (LineTrue xs ys) (sym (told_first (printed_what xs ys) xs ys told)) told.are

-- ---- ends

module _ (books : ℕ → List Event) (ends : Option Outcome) (needed : Option ℕ) (whole least : List ℕ) (ran : PlainActorReport) where
  abbrev Says : What → Type 0
  Says w = EndTrue books ends needed whole least ran w

  pub line_says : (xs : List ℕ) → Says (printed_what xs ran.printed)
  line_says xs = let told = line_told 0 [] xs ran.printed tt in subst Says (sym (told_first (printed_what xs ran.printed) xs ran.printed told)) told.are.found

  pub part_says : Says (part_what whole least ran.printed)
  part_says = test (begins ran.printed whole)
    where
      test : (b : Bool) → Says (if b then printed_what least ran.printed else printed_what whole ran.printed)
      test true = line_says least
      test false = line_says whole

  end_says : Says (end_what ends whole least ran)
  end_says = test (same_end ends ran.outcome) (is_stopped ran.outcome)
    where
      test : (b c : Bool) → Says (if b then printed_what whole ran.printed else if c then part_what whole least ran.printed else what.Ended ends ran.outcome)
      test true c = line_says whole
      test false true = part_says
      test false false = (refl, refl)

  pub full_says : Says (full_what books needed whole ran.printed)
  full_says = test (is_full_book books needed) refl
    where
      test : (b : Bool) → is_full_book books needed ≡ b → Says (if b then printed_what whole ran.printed else what.NotFull needed (events_in books needed))
      test true e = line_says whole
      test false e = (refl, e, refl)

  full_end_says : (o : Option Outcome) → o ≡ ends → Says (full_end books o needed whole ran)
  full_end_says None e = full_says
  full_end_says (Some x) e = (e, refl)

  pub ends_true : Says (stop_what books ends needed whole least ran)
  ends_true = test (is_full_stop ran.outcome)
    where
      test : (b : Bool) → Says (if b then full_end books ends needed whole ran else end_what ends whole least ran)
      test true = full_end_says ends refl
      test false = end_says

-- ---- writes

-- two cells that are the same have the same number
same_number : (c d : CellId) → same_cell c d ≡ true → c.number ≡ d.number
same_number c d e = eqb-true c.number d.number (both _ (c.number == d.number) e).1

at_first : (c : CellId) (v : Value) (ws : Writes) → IsWritten ((c, v) ∷ ws) c (Some v)
at_first c v ws = (0, c, refl, refl)

written_on : (w : CellId × Value) (ws : Writes) (c : CellId) (v : Option Value) → IsWritten ws c v → IsWritten (w ∷ ws) c v
written_on w ws c None h = tt
written_on w ws c (Some v) h = (suc h.0, h.1, h.2, h.3)

written_behind : (ws : Writes) (c : CellId) (v : Option Value) → IsWritten (drop 1 ws) c v → IsWritten ws c v
written_behind [] c None h = tt
written_behind [] c (Some v) h = h
written_behind (w ∷ ws) c v h = written_on w ws c v h

-- what is told of a write
pub record Wrote (xs ys : Writes) (w : What) : Type 0 where
  pub cell : CellId
  pub expected : Option Value
  pub found : Option Value
  pub span : Span
  pub is : w ≡ what.Wrote cell expected found span
  pub meant : IsWritten xs cell expected
  pub wrote : IsWritten ys cell found
  pub differ : same_there expected found ≡ false

abbrev IfWrote : Writes → Writes → Option What → Type 0
IfWrote xs ys None = Unit {0}
IfWrote xs ys (Some w) = Wrote xs ys w

module _ (span : Span) where
  lost_true : (x : CellId × Value) (xs ys : Writes) → IfWrote (x ∷ xs) ys (Some (what.Wrote x.0 (Some x.1) None span))
  lost_true x xs ys = record { cell = x.0; expected = Some x.1; found = None; span = span; is = refl; meant = at_first x.0 x.1 xs; wrote = tt; differ = refl }

  more_true : (y : CellId × Value) (xs ys : Writes) → IfWrote xs (y ∷ ys) (Some (what.Wrote y.0 None (Some y.1) span))
  more_true y xs ys = record { cell = y.0; expected = None; found = Some y.1; span = span; is = refl; meant = tt; wrote = at_first y.0 y.1 ys; differ = refl }

  changed_true : (x y : CellId × Value) (xs ys : Writes) → same_cell x.0 y.0 ≡ true → IfWrote (x ∷ xs) (y ∷ ys) (changed_what span x y)
  changed_true x y xs ys same = test (same_value x.1 y.1) refl
    where
      test : (b : Bool) → same_value x.1 y.1 ≡ b → IfWrote (x ∷ xs) (y ∷ ys) (if b then None else Some (what.Wrote x.0 (Some x.1) (Some y.1) span))
      test true e = tt
      test false e =
          record { cell = x.0; expected = Some x.1; found = Some y.1; span = span; is = refl; meant = at_first x.0 x.1 xs; wrote = (0, y.0, refl, same_number x.0 y.0 same); differ = e }

  write_true : (x y : CellId × Value) (xs ys : Writes) → IfWrote (x ∷ xs) (y ∷ ys) (write_what span x y)
  write_true x y xs ys = test (same_cell x.0 y.0) refl (nat_lt y.0.number x.0.number)
    where
      test : (b : Bool) → same_cell x.0 y.0 ≡ b → (c : Bool)
          → IfWrote (x ∷ xs) (y ∷ ys) (if b then changed_what span x y else if c then Some (what.Wrote y.0 None (Some y.1) span) else Some (what.Wrote x.0 (Some x.1) None span))
      test true e c = changed_true x y xs ys e
      test false e true = more_true y (x ∷ xs) ys
      test false e false = lost_true x xs (y ∷ ys)

  -- what is true of the writes behind these is true of all
  behind_true : (x : CellId × Value) (xs ys : Writes) (o : Option What) → IfWrote xs (drop 1 ys) o → IfWrote (x ∷ xs) ys o
  behind_true x xs ys None h = tt
  behind_true x xs ys (Some w) h =
      record {
        cell = h.cell;
        expected = h.expected;
        found = h.found;
        span = h.span;
        is = h.is;
        meant = written_on x xs h.cell h.expected h.meant;
        wrote = written_behind ys h.cell h.found h.wrote;
        differ = h.differ;
      }

  first_true : (x : CellId × Value) (xs ys : Writes) → IfWrote (x ∷ xs) ys (place_what span x (nth ys 0))
  first_true x xs [] = lost_true x xs []
  first_true x xs (y ∷ ys) = write_true x y xs ys

  either_true : (xs ys : Writes) (o u : Option What) → IfWrote xs ys o → IfWrote xs ys u → IfWrote xs ys (or_else o u)
  either_true xs ys None u h g = g
  either_true xs ys (Some w) u h g = h

  wrote_true : (xs ys : Writes) → IfWrote xs ys (wrote_what span xs ys)
  wrote_true [] [] = tt
  wrote_true [] (y ∷ ys) = more_true y [] ys
  wrote_true (x ∷ xs) ys = either_true (x ∷ xs) ys (place_what span x (nth ys 0)) (wrote_what span xs (drop 1 ys)) (first_true x xs ys) (behind_true x xs ys (wrote_what span xs (drop 1 ys)) (wrote_true xs (drop 1 ys)))

-- ---- sends

-- what is told of an action behind k others
pub record Sends (k : ℕ) (xs ys : List Action) (w : What) : Type 0 where
  pub number : ℕ
  pub expected : Option Action
  pub found : Option Action
  pub span : Span
  pub is : w ≡ what.Sends (k + number) expected found span
  pub meant : expected ≡ nth xs number
  pub sent : found ≡ nth ys number
  pub differ : same_sent expected found ≡ false

abbrev IfSends : ℕ → List Action → List Action → Option What → Type 0
IfSends k xs ys None = Unit {0}
IfSends k xs ys (Some w) = Sends k xs ys w

nth_behind : (ys : List Action) (i : ℕ) → nth (drop 1 ys) i ≡ nth ys (suc i)
nth_behind [] i = refl
nth_behind (y ∷ ys) i = refl

module _ (span : Span) where
  sends_here : (k : ℕ) (xs ys : List Action) → same_sent (nth xs 0) (nth ys 0) ≡ false → IfSends k xs ys (Some (what.Sends k (nth xs 0) (nth ys 0) span))
  sends_here k xs ys e =
      let none : k ≡ k + 0 = omega arith in
      record { number = 0; expected = nth xs 0; found = nth ys 0; span = span; is = ap (λ n. what.Sends n (nth xs 0) (nth ys 0) span) none; meant = refl; sent = refl; differ = e }

  sends_on : (k : ℕ) (x : Action) (xs ys : List Action) (o : Option What) → IfSends (suc k) xs (drop 1 ys) o → IfSends k (x ∷ xs) ys o
  sends_on k x xs ys None h = tt
  sends_on k x xs ys (Some w) h =
      let many : suc k + h.number ≡ k + suc h.number = omega arith in
      record {
        number = suc h.number;
        expected = h.expected;
        found = h.found;
        span = h.span;
        is = h.is ∙ ap (λ n. what.Sends n h.expected h.found h.span) many;
        meant = h.meant;
        sent = h.sent ∙ nth_behind ys h.number;
        differ = h.differ;
      }

  other_sent : (x : Action) (o : Option Action) → is_sent_at x o ≡ false → same_sent (Some x) o ≡ false
  other_sent x None e = refl
  other_sent x (Some y) e = e

  sends_true : (k : ℕ) (xs ys : List Action) → IfSends k xs ys (sent_what span k xs ys)
  sends_true k [] [] = tt
  sends_true k [] (y ∷ ys) = sends_here k [] (y ∷ ys) refl
  sends_true k (x ∷ xs) ys = test (is_sent_at x (nth ys 0)) refl (sends_true (suc k) xs (drop 1 ys))
    where
      test : (b : Bool) → is_sent_at x (nth ys 0) ≡ b → IfSends (suc k) xs (drop 1 ys) (sent_what span (suc k) xs (drop 1 ys)) → IfSends k (x ∷ xs) ys (if b then sent_what span (suc k) xs (drop 1 ys) else Some (what.Sends k (Some x) (nth ys 0) span))
      test true e rest = sends_on k x xs ys (sent_what span (suc k) xs (drop 1 ys)) rest
      test false e rest = sends_here k (x ∷ xs) ys (other_sent x (nth ys 0) e)

-- of one behind none
sends_first : (xs ys : List Action) (w : What) → (h : Sends 0 xs ys w) → w ≡ what.Sends h.number h.expected h.found h.span
sends_first xs ys w h = let none : 0 + h.number ≡ h.number = omega arith in h.is ∙ ap (λ n. what.Sends n h.expected h.found h.span) none

-- ---- events

-- who wrote a cell that was written
written_there : (k p : ℕ) (es : List Event) → written k p es ≡ true → (d : Event) × (nth es (writer_of k p es) ≡ Some d) × (writes_to d.kind k ≡ true)
written_there k p [] e = absurd (false≢true e)
written_there k zero (x ∷ es) e = test (writes_to x.kind k) refl (λ f. written_there k zero es f)
  where
    test : (b : Bool) → writes_to x.kind k ≡ b → (written k zero es ≡ true → (d : Event) × (nth es (writer_of k zero es) ≡ Some d) × (writes_to d.kind k ≡ true)) → (d : Event) × (nth (x ∷ es) (if b then 0 else suc (writer_of k zero es)) ≡ Some d) × (writes_to d.kind k ≡ true)
    test true w rest = (x, refl, w)
    test false w rest = rest (sym (ap (λ b. b || written k zero es) w) ∙ e)
written_there k (suc p) (x ∷ es) e = written_there k p es e

first_there : (done : List Event) (p : ℕ) (cs : List CellId) (c : CellId) → first_written done p cs ≡ Some c → written c.number p done ≡ true
first_there done p [] c e = absurd cc
first_there done p (x ∷ cs) c e = test (written x.number p done) refl e (λ f. first_there done p cs c f)
  where
    some : Some x ≡ Some c → x ≡ c
    some e = cc

    test : (b : Bool) → written x.number p done ≡ b → (if b then Some x else first_written done p cs) ≡ Some c → (first_written done p cs ≡ Some c → written c.number p done ≡ true) → written c.number p done ≡ true
    test true w e rest = subst (λ (y : CellId). written y.number p done ≡ true) (some e) w
    test false w e rest = rest e

module _ (done : List Event) (o : Option Event) (x : Asked) where
  abbrev True : What → Type 0
  True w = EventTrue done o x w

  abbrev IfTrue : Option What → Type 0
  IfTrue None = Unit {0}
  IfTrue (Some w) = True w

  other_true : True (other_what x)
  other_true = refl

  or_other : (w : Option What) → IfTrue w → True (or_what w (other_what x))
  or_other None h = other_true
  or_other (Some w) h = h

  or_true : (v w : Option What) → IfTrue v → IfTrue w → IfTrue (or_else v w)
  or_true None w h g = g
  or_true (Some v) w h g = h

  fault_true : (f : Option Faulted) → True (fault_what x f)
  fault_true None = other_true
  fault_true (Some f) = tt

  dosync_true : (f : Option Faulted) → True (dosync_what x f)
  dosync_true None = other_true
  dosync_true (Some f) = tt

  -- a commit
  module _ (ws : Writes) (sends : List Action) (same : ws ≡ writes_of x.event.kind) (sent : sends ≡ sends_in x.event.kind) where
    wrote_is : (span : Span) (xs : Writes) → IfTrue (wrote_what span xs ws)
    wrote_is span xs = by (wrote_what span xs ws) (wrote_true span xs ws)
      where
        by : (w : Option What) → IfWrote xs ws w → IfTrue w
        by None h = tt
        by (Some w) h = subst True (sym h.is) (subst (λ l. IsWritten l h.cell h.found) same h.wrote, h.differ)

    sends_is : (span : Span) (xs : List Action) → IfTrue (sent_what span 0 xs sends)
    sends_is span xs = by (sent_what span 0 xs sends) (sends_true span 0 xs sends)
      where
        by : (w : Option What) → IfSends 0 xs sends w → IfTrue w
        by None h = tt
        by (Some w) h = subst True (sym (sends_first xs sends w h)) (h.sent ∙ ap (λ l. nth l h.number) sent, h.differ)

    ended_is : (span : Span) (meant : Option Writes) (held : List Action) → IfTrue (ended_what span meant held ws sends)
    ended_is span None held = sends_is span held
    ended_is span (Some m) held = or_true (wrote_what span m ws) (sent_what span 0 held sends) (wrote_is span m) (sends_is span held)

    run_is : (p : PlainProgram) (n : ℕ) (span : Span) (w : Option PlainTxFrame) → True (commit_run p n x ws sends span w)
    run_is p n span None = other_true
    run_is p n span (Some w) = or_other (ended_what span (writes_meant n p.functions w x.event.C) (sends_of_commit x.held w.sends) ws sends) (ended_is span (writes_meant n p.functions w x.event.C) (sends_of_commit x.held w.sends))

    commit_is : (p : PlainProgram) (n : ℕ) (f : Option Faulted) → True (commit_what p n x ws sends f)
    commit_is p n None = fault_true (asked_on x x.event.R x.event.C failure)
    commit_is p n (Some f) = run_is p n f.fault.span f.done

  cause_is : (c : CellId) → retried_for x.event.kind ≡ Some c → (f : Option Faulted) → True (cause_what x c f)
  cause_is c e None = fault_true (asked_on x x.event.R x.event.Q failure)
  cause_is c e (Some f) = e

  fail_is : is_failure x.event.kind ≡ true → (f : Option Faulted) → True (fail_what x f)
  fail_is e None = other_true
  fail_is e (Some f) = e

  send_is : is_send x.event.kind ≡ true → (f : Option Faulted) → True (send_what x f)
  send_is e None = dosync_true (asked_on x x.event.R x.event.Q refusal)
  send_is e (Some f) = e

  wrong_is : (p : PlainProgram) (n : ℕ) (k : EventKind) → k ≡ x.event.kind → True (wrong_what p n x k)
  wrong_is p n (Read c) e = dosync_true (asked_on x x.event.R x.event.Q refusal)
  wrong_is p n (Commit at view ws sends) e = commit_is ws sends (ap writes_of e) (ap sends_in e) p n (asked_on x x.event.R x.event.C refusal)
  wrong_is p n (Retry since c cause) e = cause_is c (sym (ap retried_for e)) (asked_on x x.event.R x.event.Q refusal)
  wrong_is p n (Fail at view) e = fail_is (sym (ap is_failure e)) (asked_on x x.event.R x.event.Q refusal)
  wrong_is p n (Refused at view g) e = fault_true (asked_on x x.event.R x.event.Q failure)
  wrong_is p n (Send a) e = send_is (sym (ap is_send e)) (asked_on x x.event.R x.event.Q (SendRefused a.agent))
  wrong_is p n (SendRefused g) e = dosync_true (asked_on x x.event.R x.event.Q refusal)
  wrong_is p n (Act g number new sends) e = other_true
  wrong_is p n (Swap new) e = fault_true (asked_on x x.event.C x.event.C break)
  wrong_is p n (Broke at) e = other_true

  -- who disturbed it
  by_is : (at : ℕ) (span : Span) (set : Bool) (c : Option CellId) → (cs : List CellId) → first_written done at cs ≡ c → IfTrue (by_what done at span set c)
  by_is at span set None cs e = tt
  by_is at span set (Some c) cs e = written_there c.number at done (first_there done at cs c e)

  disturbed_is : (at : ℕ) (span : Span) (w : PlainTxFrame) → IfTrue (disturbed_what done at span w)
  disturbed_is at span w =
      or_true (by_what done at span true (first_written done at w.sets)) (by_what done at span false (first_written done at w.ensures)) (by_is at span true (first_written done at w.sets) w.sets refl)
      (by_is at span false (first_written done at w.ensures) w.ensures refl)

  committed_run_is : (at : ℕ) (span : Span) (w : Option PlainTxFrame) → True (committed_run done at x span w)
  committed_run_is at span None = other_true
  committed_run_is at span (Some w) = or_other (disturbed_what done at span w) (disturbed_is at span w)

  committed_is : (at : ℕ) (f : Option Faulted) → True (committed_what done at x f)
  committed_is at None = other_true
  committed_is at (Some f) = committed_run_is at f.fault.span f.done

  or_refusal : (v : Option What) (a : Option CellId) (g : CellId) (span : Span) → refused_by o ≡ Some g → IfTrue v → True (or_what v (what.Refusal a g span))
  or_refusal None a g span e h = e
  or_refusal (Some v) a g span e h = h

  refused_run_is : (cells : List StoreCell) (at : ℕ) (g : CellId) → refused_by o ≡ Some g → (span : Span) (w : Option PlainTxFrame) → True (refused_run cells done at g x span w)
  refused_run_is cells at g e span None = other_true
  refused_run_is cells at g e span (Some w) = or_refusal (disturbed_what done at span w) (first_failed cells done w.sends) g span e (disturbed_is at span w)

  refused_is : (cells : List StoreCell) (at : ℕ) (g : CellId) → refused_by o ≡ Some g → (f : Option Faulted) → True (refused_what cells done at g x f)
  refused_is cells at g e None = other_true
  refused_is cells at g e (Some f) = refused_run_is cells at g e f.fault.span f.done

  calm_is : (cells : List StoreCell) (d : Event) → Some d ≡ o → (k : EventKind) → k ≡ d.kind → True (calm_what cells done x k)
  calm_is cells d there (Read c) e = other_true
  calm_is cells d there (Commit at view ws sends) e = committed_is at (asked_on x x.event.R x.event.C refusal)
  calm_is cells d there (Retry since c cause) e = other_true
  calm_is cells d there (Fail at view) e = other_true
  calm_is cells d there (Refused at view g) e = refused_is cells at g (sym (ap refused_by there) ∙ sym (ap refused_for e)) (asked_on x x.event.R x.event.Q refusal)
  calm_is cells d there (Send a) e = other_true
  calm_is cells d there (SendRefused g) e = other_true
  calm_is cells d there (Act g number new sends) e = other_true
  calm_is cells d there (Swap new) e = other_true
  calm_is cells d there (Broke at) e = other_true

  calm_at_is : (cells : List StoreCell) (d : Option Event) → d ≡ o → True (calm_at cells done x d)
  calm_at_is cells None e = other_true
  calm_at_is cells (Some d) e = calm_is cells d e d.kind refl

  late_is : (cells : List StoreCell) (q : Option Outcome) → q ≡ outcome_of (x.means x.front) → True (late_what cells done x o q)
  late_is cells None e = calm_at_is cells o refl
  late_is cells (Some q) e = sym e

pub events_true : (p : PlainProgram) (n : ℕ) (done : List Event) (e : Option Event) (x : Asked) → EventTrue done e x (asked_what p n done e x)
events_true p n done e x = test (is_wrong (x.means (x.front ++ x.event ∷ [])))
  where
    test : (b : Bool) → EventTrue done e x (if b then wrong_what p n x x.event.kind else late_what (cells_of p.cells) done x e (outcome_of (x.means x.front)))
    test true = wrong_is done e x p n x.event.kind refl
    test false = late_is done e x (cells_of p.cells) (outcome_of (x.means x.front)) refl

-- ---- acts

pub acts_true : (span : Span) (meant : Result Value Fault) (held : List Action) (new : Result Value Fault) (sends : List Action) → ActTrue meant held new sends (booked_what span meant held new sends)
acts_true span meant held new sends = test (same_new meant new) refl
  where
    by : (w : Option What) → IfSends 0 held sends w → ActTrue meant held new sends (or_what w (what.Event None))
    by None h = refl
    by (Some w) h = subst (ActTrue meant held new sends) (sym (sends_first held sends w h)) (h.meant, h.sent, h.differ)

    test : (b : Bool) → same_new meant new ≡ b → ActTrue meant held new sends (if b then or_what (sent_what span 0 held sends) (what.Event None) else what.Gave meant new)
    test true e = by (sent_what span 0 held sends) (sends_true span 0 held sends)
    test false e = (refl, refl, e)
