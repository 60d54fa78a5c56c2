-- Commits on different refs may be exchanged.
use Rattle.std.proofs.Common.{◌≡◌, ◌≤◌, ◌<◌, inl, inr, ◌⊎◌, ℕ, suc, Bool, true, false, ◌||◌, ◌==◌, nat_lt, List, [], ◌∷◌, ◌++◌, length, Option, Some, None, refl, sym, ap, subst, ◌∙◌, arith, if◌then◌else◌, length-append}
use Rattle.std.proofs.lemmas.Bool.{false≢true}
use Rattle.std.proofs.lemmas.Bool.Decides.{nat_tests}
use Rattle.txs_world_protocol.specs.Ask.{Writes, buffered, with_write}
use Rattle.txs_world_protocol.specs.SeenEvent.{home, atoms_below}
use Rattle.txs_world_protocol.specs.declared.ask.Reply.{Reply}
use Rattle.txs_world_protocol.specs.declared.ask.Reply.TheVariants as reply
use Rattle.txs_world_protocol.specs.declared.event.Event.{Event}
use Rattle.txs_world_protocol.specs.declared.event.Cause.TheVariants as cause
use Rattle.txs_world_protocol.specs.declared.event.EventKind.{EventKind}
use Rattle.txs_world_protocol.specs.declared.event.EventKind.TheVariants as event
use Rattle.txs_value_cell.specs.declared.action.Action.{Action}
use Rattle.txs_value_cell.specs.declared.cell.CellDefinition.{CellDefinition}
use Rattle.txs_value_data.proofs.SameLemmas.{numbers, number-itself}
use Rattle.txs_value_data.specs.Limits.{most_events}
use Rattle.txs_value_data.specs.Places.{nth}
use Rattle.txs_value_data.specs.declared.fault.Fault.{Fault}
use Rattle.txs_value_data.specs.declared.value.CellId.{CellId}
use Rattle.txs_value_data.specs.declared.value.Value.{Value}
use Rattle.txs_world_book.proofs.Outcomes.{both}
use Rattle.txs_world.proofs.Merging.{eqb_no}
use Rattle.txs_world_book.specs.Atom.{is_swap, swapped_since, atom_newest}
use Rattle.txs_world_book.proofs.Growth.{neither, after_front, after_last, unwritten_more, mail_last}
use Rattle.txs_world_book.specs.Book.{has_cell, cells_in, value_or, is_there, writes_of, writes_to, written, times_written, least, least_written, sent_to, Mail, mail_changed, mail_after, no_mail, goes_on, is_failed, first_failed, opening, after, newest}
use Rattle.txs_world_book.specs.Served.{Served, served, adds, cells_of, event_of}
use Rattle.txs_world_book.specs.declared.cell.StoreCell.{StoreCell}
use Rattle.txs_world.specs.Store.{is_among, merged, commits}
use Rattle.txs_theorem_runs.specs.Shared.{Shared, atom_of, is_atom, has_atom, serve_on}
use Rattle.txs_theorem_runs.specs.Stages.{Stage, Resting, Idle, Open, Viewing, Swapping}
use Rattle.txs_theorem_alike.specs.Books.{up_to_eleven, SamePoint, SameView, SameSwap, SameMail, Alike}
use Rattle.txs_theorem_alike.specs.Commits.{CommitAsk, ask_of, writes_in, uses_in, AreApart, AreIndependent, Exchanged, CommitsExchange}
use Rattle.txs_theorem_alike.specs.Stages.{SameStage, Rests, Idles, Tries, Redoes, Swaps, behind}
use Rattle.txs_theorem_alike.specs.Unseen.{IsWithin}
use Rattle.txs_theorem_alike.proofs.Answering.{adds_room}
use Rattle.txs_theorem_alike.proofs.Growing.{more, more_both, times_more, written_more, swapped_more, longer}

-- ---- what a commit doesn't write

written_other : (ws : Writes) (c : CellId) (v : Value) (k : ℕ) → (c.number == k) ≡ false → buffered (with_write ws c v) k ≡ buffered ws k
written_other [] c v k h = ap (λ t. if t then Some v else None) h
written_other (w ∷ ws) c v k h = by (written_other ws c v k h) (w.0.number == c.number) (nat_lt c.number w.0.number) refl
  where
    first : buffered ((c, v) ∷ ws) k ≡ buffered ws k
    first = ap (λ t. if t then Some v else buffered ws k) h

    same : (w.0.number == c.number) ≡ true → buffered (w ∷ ws) k ≡ buffered ws k
    same e = ap (λ t. if t then Some w.1 else buffered ws k) (ap (λ i. i == k) (numbers w.0.number c.number e) ∙ h)

    by : buffered (with_write ws c v) k ≡ buffered ws k → (s t : Bool) → (w.0.number == c.number) ≡ s → buffered (if s then (c, v) ∷ ws else if t then (c, v) ∷ w ∷ ws else w ∷ with_write ws c v) k ≡ buffered (w ∷ ws) k
    by g true t e = first ∙ sym (same e)
    by g false true e = ap (λ t. if t then Some v else buffered (w ∷ ws) k) h
    by g false false e = ap (λ o. if w.0.number == k then Some w.1 else o) g

merged_other : (ws xs : Writes) (k : ℕ) → is_among k (cells_in xs) ≡ false → buffered (merged ws xs) k ≡ buffered ws k
merged_other ws [] k h = refl
merged_other ws (x ∷ xs) k h =
    let n = neither (x.0.number == k) (is_among k (cells_in xs)) h in
    merged_other (with_write ws x.0 x.1) xs k n.1 ∙ written_other ws x.0 x.1 k n.0

unset : (ws : Writes) (k : ℕ) → is_among k (cells_in ws) ≡ false → buffered ws k ≡ None
unset [] k h = refl
unset (w ∷ ws) k h =
    let n = neither (w.0.number == k) (is_among k (cells_in ws)) h in
    ap (λ t. if t then Some w.1 else buffered ws k) n.0 ∙ unset ws k n.1

or_assoc : (a b c : Bool) → ((a || b) || c) ≡ (a || (b || c))
or_assoc true b c = refl
or_assoc false b c = refl

among_append : (k : ℕ) (cs ds : List CellId) → is_among k (cs ++ ds) ≡ (is_among k cs || is_among k ds)
among_append k [] ds = refl
among_append k (c ∷ cs) ds = ap (λ t. c.number == k || t) (among_append k cs ds) ∙ sym (or_assoc (c.number == k) (is_among k cs) (is_among k ds))

-- a commit writes no other refs
writes_none : (q : CommitAsk) (k : ℕ) → is_among k (writes_in q) ≡ false → buffered (merged q.sets q.commuted) k ≡ None
writes_none q k h =
    let n = neither (is_among k (cells_in q.sets)) (is_among k (cells_in q.commuted)) (sym (among_append k (cells_in q.sets) (cells_in q.commuted)) ∙ h) in
    merged_other q.sets q.commuted k n.1 ∙ unset q.sets k n.0

-- ---- what becomes of a commit

abbrev kind_by : Option CellId → Option CellId → Option CellId → CommitAsk → EventKind
kind_by (Some c) o g q = event.Retry q.at c cause.Held
kind_by None (Some c) g q = event.Retry q.view c (cause.Commuted q.at)
kind_by None None (Some g) q = event.Refused q.at q.view g
kind_by None None None q = event.Commit q.at q.view (merged q.sets q.commuted) q.sends

abbrev reply_by : Option CellId → Option CellId → Option CellId → Reply
reply_by (Some c) o g = reply.Retry c
reply_by None (Some c) g = reply.Changed c
reply_by None None (Some g) = reply.AgentIsFailed g
reply_by None None None = reply.Done

abbrev sends_by : Option CellId → Option CellId → Option CellId → CommitAsk → List Action
sends_by (Some c) o g q = []
sends_by None (Some c) g q = []
sends_by None None (Some g) q = []
sends_by None None None q = q.sends

commits_by : (o1 o2 o3 : Option CellId) (a : ℕ) (q : CommitAsk) (book : List Event) → commits o1 o2 o3 a q.at q.view (merged q.sets q.commuted) q.sends book ≡ adds a (kind_by o1 o2 o3 q) (reply_by o1 o2 o3) book
commits_by (Some c) o2 o3 a q book = refl
commits_by None (Some c) o3 a q book = refl
commits_by None None (Some g) a q book = refl
commits_by None None None a q book = refl

kind_writes : (o1 o2 o3 : Option CellId) (q : CommitAsk) (k : ℕ) → is_among k (writes_in q) ≡ false → writes_to (kind_by o1 o2 o3 q) k ≡ false
kind_writes (Some c) o2 o3 q k h = refl
kind_writes None (Some c) o3 q k h = refl
kind_writes None None (Some g) q k h = refl
kind_writes None None None q k h = ap is_there (writes_none q k h)

nothing_more : {A : Type 0} (xs : List A) → xs ++ [] ≡ xs
nothing_more [] = refl
nothing_more (x ∷ xs) = ap (λ l. x ∷ l) (nothing_more xs)

kind_mails : (o1 o2 o3 : Option CellId) (q : CommitAsk) (goes : Bool) (k : ℕ) (m : Mail) → (mail_changed goes k (kind_by o1 o2 o3 q) m).actions ≡ m.actions ++ sent_to k (sends_by o1 o2 o3 q)
kind_mails (Some c) o2 o3 q goes k m = sym (nothing_more m.actions)
kind_mails None (Some c) o3 q goes k m = sym (nothing_more m.actions)
kind_mails None None (Some g) q goes k m = sym (nothing_more m.actions)
kind_mails None None None q goes k m = refl

kind_fault : (o1 o2 o3 : Option CellId) (q : CommitAsk) (goes : Bool) (k : ℕ) (m : Mail) → (mail_changed goes k (kind_by o1 o2 o3 q) m).fault ≡ m.fault
kind_fault (Some c) o2 o3 q goes k m = refl
kind_fault None (Some c) o3 q goes k m = refl
kind_fault None None (Some g) q goes k m = refl
kind_fault None None None q goes k m = refl

sends_none : (o1 o2 o3 : Option CellId) (q : CommitAsk) (k : ℕ) → sent_to k q.sends ≡ [] → sent_to k (sends_by o1 o2 o3 q) ≡ []
sends_none (Some c) o2 o3 q k h = refl
sends_none None (Some c) o3 q k h = refl
sends_none None None (Some g) q k h = refl
sends_none None None None q k h = h

-- ---- two events of a book in both orders

or_swap : (a b c : Bool) → ((a || b) || c) ≡ ((a || c) || b)
or_swap true b c = refl
or_swap false true true = refl
or_swap false true false = refl
or_swap false false true = refl
or_swap false false false = refl

swap_values : (D E : Option Value) (v : Value) → (is_there D ≡ false) ⊎ (is_there E ≡ false) → value_or E (value_or D v) ≡ value_or D (value_or E v)
swap_values None E v h = refl
swap_values (Some x) None v h = refl
swap_values (Some x) (Some y) v (inl h) = absurd (false≢true (sym h))
swap_values (Some x) (Some y) v (inr h) = absurd (false≢true (sym h))

swap_lists : {A : Type 0} (xs ys zs : List A) → (ys ≡ []) ⊎ (zs ≡ []) → (xs ++ ys) ++ zs ≡ (xs ++ zs) ++ ys
swap_lists xs ys zs (inl e) = ap (λ l. (xs ++ l) ++ zs) e ∙ ap (λ l. l ++ zs) (nothing_more xs) ∙ sym (ap (λ l. (xs ++ zs) ++ l) e ∙ nothing_more (xs ++ zs))
swap_lists xs ys zs (inr e) = ap (λ l. (xs ++ ys) ++ l) e ∙ nothing_more (xs ++ ys) ∙ sym (ap (λ l. (xs ++ l) ++ ys) e ∙ ap (λ l. l ++ ys) (nothing_more xs))

module _ (cells : List StoreCell) (b : List Event) (d e : Event) where
  abbrev one : List Event
  one = (b ++ d ∷ []) ++ e ∷ []

  abbrev other : List Event
  other = (b ++ e ∷ []) ++ d ∷ []

  within : (x y : Event) (p : ℕ) → p ≤ length b → p ≤ length ((b ++ x ∷ []) ++ y ∷ [])
  within x y p le = longer p (b ++ x ∷ []) y (longer p b x le)

  times_both : (x y : Event) (k p : ℕ) → p ≤ length b → times_written k p ((b ++ x ∷ []) ++ y ∷ []) ≡ more (writes_to y.kind k) (more (writes_to x.kind k) (times_written k p b))
  times_both x y k p le = times_more k p (b ++ x ∷ []) y (longer p b x le) ∙ ap (more (writes_to y.kind k)) (times_more k p b x le)

  written_both : (x y : Event) (k p : ℕ) → p ≤ length b → written k p ((b ++ x ∷ []) ++ y ∷ []) ≡ ((written k p b || writes_to x.kind k) || writes_to y.kind k)
  written_both x y k p le = written_more k p (b ++ x ∷ []) y (longer p b x le) ∙ ap (λ t. t || writes_to y.kind k) (written_more k p b x le)

  value_both : (x y : Event) (k p : ℕ) → p ≤ length b → after (opening cells) ((b ++ x ∷ []) ++ y ∷ []) p k ≡ after (opening cells) b p k
  value_both x y k p le = ap (λ w. w k) (after_front (opening cells) (b ++ x ∷ []) (y ∷ []) p (longer p b x le) ∙ after_front (opening cells) b (x ∷ []) p le)

  newest_both : (x y : Event) (k : ℕ) → newest (opening cells) ((b ++ x ∷ []) ++ y ∷ []) k ≡ value_or (buffered (writes_of y.kind) k) (value_or (buffered (writes_of x.kind) k) (newest (opening cells) b k))
  newest_both x y k = ap (λ w. w k) (after_last (opening cells) (b ++ x ∷ []) y) ∙ ap (value_or (buffered (writes_of y.kind) k)) (ap (λ w. w k) (after_last (opening cells) b x))

  mail_both : (x y : Event) (k : ℕ) → mail_after cells ((b ++ x ∷ []) ++ y ∷ []) k ≡ mail_changed (goes_on (nth cells k)) k y.kind (mail_changed (goes_on (nth cells k)) k x.kind (mail_after cells b k))
  mail_both x y k = mail_last (goes_on (nth cells k)) k no_mail (b ++ x ∷ []) y ∙ ap (mail_changed (goes_on (nth cells k)) k y.kind) (mail_last (goes_on (nth cells k)) k no_mail b x)

  swaps_both : (x y : Event) (p : ℕ) → p ≤ length b → swapped_since p ((b ++ x ∷ []) ++ y ∷ []) ≡ ((swapped_since p b || is_swap x.kind) || is_swap y.kind)
  swaps_both x y p le = swapped_more p (b ++ x ∷ []) y (longer p b x le) ∙ ap (λ t. t || is_swap y.kind) (swapped_more p b x le)

  point_both : (p : ℕ) → p ≤ length b → SamePoint cells one other p p
  point_both p le = record {
    in_first = within d e p le;
    in_other = within e d p le;
    refs = λ r i. record {
      times = ap up_to_eleven (times_both d e r.number p le ∙ more_both (writes_to e.kind r.number) (writes_to d.kind r.number) (times_written r.number p b) ∙ sym (times_both e d r.number p le));
      value = λ f. value_both d e r.number p le ∙ sym (value_both e d r.number p le);
    };
  }

  view_both : (p : ℕ) → p ≤ length b → SameView cells one other p p
  view_both p le = record {
    in_first = within d e p le;
    in_other = within e d p le;
    refs = λ r i. written_both d e r.number p le ∙ or_swap (written r.number p b) (writes_to d.kind r.number) (writes_to e.kind r.number) ∙ sym (written_both e d r.number p le);
  }

  swap_both : (p : ℕ) → p ≤ length b → SameSwap one other p p
  swap_both p le = record {
    in_first = within d e p le;
    in_other = within e d p le;
    since = swaps_both d e p le ∙ or_swap (swapped_since p b) (is_swap d.kind) (is_swap e.kind) ∙ sym (swaps_both e d p le);
  }

  newest_same : (k : ℕ) → (writes_to d.kind k ≡ false) ⊎ (writes_to e.kind k ≡ false) → newest (opening cells) one k ≡ newest (opening cells) other k
  newest_same k h = newest_both d e k ∙ swap_values (buffered (writes_of d.kind) k) (buffered (writes_of e.kind) k) (newest (opening cells) b k) h ∙ sym (newest_both e d k)

  mail_same : (k : ℕ)
      → ((goes : Bool) (m : Mail) → SameMail (mail_changed goes k e.kind (mail_changed goes k d.kind m)) (mail_changed goes k d.kind (mail_changed goes k e.kind m)))
      → SameMail (mail_after cells one k) (mail_after cells other k)
  mail_same k h =
      let s = h (goes_on (nth cells k)) (mail_after cells b k) in
      record {
        actions = ap (λ m. m.actions) (mail_both d e k) ∙ s.actions ∙ sym (ap (λ m. m.actions) (mail_both e d k));
        fault = ap (λ m. m.fault) (mail_both d e k) ∙ s.fault ∙ sym (ap (λ m. m.fault) (mail_both e d k));
      }

-- ---- the tests of a commit behind the other

least_stays : (book : List Event) (e : Event) (p : ℕ) (cs : List CellId) → ((k : ℕ) → is_among k cs ≡ true → writes_to e.kind k ≡ false) → least_written (book ++ e ∷ []) p cs ≡ least_written book p cs
least_stays book e p [] h = refl
least_stays book e p (c ∷ cs) h =
    ap (λ t. if t then least (Some c) (least_written (book ++ e ∷ []) p cs) else least_written (book ++ e ∷ []) p cs)
    (unwritten_more c.number p book e (h c.number (ap (λ t. t || is_among c.number cs) (number-itself c.number))))
    ∙ ap (λ (o : Option CellId). if written c.number p book then least (Some c) o else o) (least_stays book e p cs (λ k i. h k (behind_it (c.number == k) (is_among k cs) i)))
  where
    behind_it : (s t : Bool) → t ≡ true → (s || t) ≡ true
    behind_it true t i = refl
    behind_it false t i = i

failed_stays : (cells : List StoreCell) (book : List Event) (a : ℕ) (o1 o2 o3 : Option CellId) (q : CommitAsk) (xs : List Action)
    → first_failed cells (book ++ event_of a (kind_by o1 o2 o3 q) ∷ []) xs ≡ first_failed cells book xs
failed_stays cells book a o1 o2 o3 q [] = refl
failed_stays cells book a o1 o2 o3 q (x ∷ xs) =
    ap (λ (o : Option Fault). if is_there o then Some x.agent else first_failed cells (book ++ event_of a (kind_by o1 o2 o3 q) ∷ []) xs)
    (ap (λ m. m.fault) (mail_last (goes_on (nth cells x.agent.number)) x.agent.number no_mail book (event_of a (kind_by o1 o2 o3 q)))
    ∙ kind_fault o1 o2 o3 q (goes_on (nth cells x.agent.number)) x.agent.number (mail_after cells book x.agent.number))
    ∙ ap (λ (o : Option CellId). if is_failed cells book x.agent then Some x.agent else o) (failed_stays cells book a o1 o2 o3 q xs)

-- no ref that another commit wrote is among these
apart_from : (cs ds : List CellId) → AreApart cs ds → (k : ℕ) → is_among k ds ≡ true → is_among k cs ≡ false
apart_from cs ds h k i = by (is_among k cs) refl
  where
    by : (t : Bool) → is_among k cs ≡ t → is_among k cs ≡ false
    by true e = absurd (false≢true (sym (h k e) ∙ i))
    by false e = e

-- what the three tests of a commit find
record Tests : Type 0 where
  held : Option CellId
  changed : Option CellId
  failed : Option CellId

abbrev tests : Option CellId → Option CellId → Option CellId → Tests
tests o1 o2 o3 = record { held = o1; changed = o2; failed = o3 }

abbrev tests_in : List StoreCell → CommitAsk → List Event → Tests
tests_in cells q book = tests (least_written book q.at (cells_in q.sets ++ q.ensured)) (least_written book q.view (cells_in q.commuted)) (first_failed cells book q.sends)

abbrev kind_of : Tests → CommitAsk → EventKind
kind_of t q = kind_by t.held t.changed t.failed q

abbrev says : Tests → Reply
says t = reply_by t.held t.changed t.failed

or_true : (t : Bool) → (t || true) ≡ true
or_true true = refl
or_true false = refl

-- they find the same behind a commit that wrote no ref on which the answer depends
tests_stay : (cells : List StoreCell) (book : List Event) (b : ℕ) (q r : CommitAsk) (u : Tests) → AreApart (writes_in r) (uses_in q) → tests_in cells q (book ++ event_of b (kind_of u r) ∷ []) ≡ tests_in cells q book
tests_stay cells book b q r u h =
    ap (λ o. tests o (least_written later q.view (cells_in q.commuted)) (first_failed cells later q.sends))
    (least_stays book (event_of b (kind_of u r)) q.at (cells_in q.sets ++ q.ensured) (λ k i. unwritten k (in_uses k i)))
    ∙ ap (λ o. tests (least_written book q.at (cells_in q.sets ++ q.ensured)) o (first_failed cells later q.sends))
    (least_stays book (event_of b (kind_of u r)) q.view (cells_in q.commuted) (λ k i. unwritten k (in_later k i)))
    ∙ ap (λ o. tests (least_written book q.at (cells_in q.sets ++ q.ensured)) (least_written book q.view (cells_in q.commuted)) o)
    (failed_stays cells book b u.held u.changed u.failed r q.sends)
  where
    later : List Event
    later = book ++ event_of b (kind_of u r) ∷ []

    unwritten : (k : ℕ) → is_among k (uses_in q) ≡ true → writes_to (kind_of u r) k ≡ false
    unwritten k i = kind_writes u.held u.changed u.failed r k (apart_from (writes_in r) (uses_in q) h k i)

    in_uses : (k : ℕ) → is_among k (cells_in q.sets ++ q.ensured) ≡ true → is_among k (uses_in q) ≡ true
    in_uses k i = among_append k (cells_in q.sets ++ q.ensured) (cells_in q.commuted) ∙ ap (λ t. t || is_among k (cells_in q.commuted)) i

    in_later : (k : ℕ) → is_among k (cells_in q.commuted) ≡ true → is_among k (uses_in q) ≡ true
    in_later k i =
        among_append k (cells_in q.sets ++ q.ensured) (cells_in q.commuted)
        ∙ ap (λ t. is_among k (cells_in q.sets ++ q.ensured) || t) i
        ∙ or_true (is_among k (cells_in q.sets ++ q.ensured))

-- ---- both

room_of : (n : ℕ) → n < most_events → nat_lt n most_events ≡ true
room_of n h = by (nat_lt n most_events) refl
  where
    by : (t : Bool) → nat_lt n most_events ≡ t → t ≡ true
    by true e = refl
    by false e = absurd (grind (arith, nat_tests, e, h))

-- a commit's answer, where there is room
pub serves : (cells : List CellDefinition) (a : ℕ) (q : CommitAsk) (book : List Event) → length book < most_events
    → serve_on cells a (ask_of q) book ≡ served (says (tests_in (cells_of cells) q book)) (book ++ event_of a (kind_of (tests_in (cells_of cells) q book) q) ∷ [])
serves cells a q book h =
    let t = tests_in (cells_of cells) q book in
    commits_by t.held t.changed t.failed a q book ∙ adds_room a (kind_of t q) (says t) book (room_of (length book) h)

wide : (s t u : Bool) → (s || u) ≡ true → ((s || t) || u) ≡ true
wide true t u i = refl
wide false true u i = refl
wide false false u i = i

-- a commit depends on what it writes
uses_more : (r : CommitAsk) (k : ℕ) → is_among k (writes_in r) ≡ true → is_among k (uses_in r) ≡ true
uses_more r k i =
    among_append k (cells_in r.sets ++ r.ensured) (cells_in r.commuted)
    ∙ ap (λ x. x || is_among k (cells_in r.commuted)) (among_append k (cells_in r.sets) r.ensured)
    ∙ wide (is_among k (cells_in r.sets)) (is_among k r.ensured) (is_among k (cells_in r.commuted)) (sym (among_append k (cells_in r.sets) (cells_in r.commuted)) ∙ i)

module _ (cells : List CellDefinition) (a b : ℕ) (q r : CommitAsk) (sh : Shared) (apart : AreIndependent q r) (room : suc (length (sh.books 0)) < most_events) where
  abbrev book : List Event
  book = sh.books 0

  abbrev tq : Tests
  tq = tests_in (cells_of cells) q book

  abbrev tr : Tests
  tr = tests_in (cells_of cells) r book

  abbrev d : Event
  d = event_of a (kind_of tq q)

  abbrev e : Event
  e = event_of b (kind_of tr r)

  low : length book < most_events
  low = omega (arith, room)

  first_q : serve_on cells a (ask_of q) book ≡ served (says tq) (book ++ d ∷ [])
  first_q = serves cells a q book low

  first_r : serve_on cells b (ask_of r) book ≡ served (says tr) (book ++ e ∷ [])
  first_r = serves cells b r book low

  one_more : (x : Event) → length (book ++ x ∷ []) < most_events
  one_more x = let l = length-append book (x ∷ []) in omega (arith, room, l)

  -- behind the other
  then_r : serve_on cells b (ask_of r) (serve_on cells a (ask_of q) book).book ≡ served (says tr) ((book ++ d ∷ []) ++ e ∷ [])
  then_r =
      ap (λ v. serve_on cells b (ask_of r) v.book) first_q
      ∙ serves cells b r (book ++ d ∷ []) (one_more d)
      ∙ ap (λ t. served (says t) ((book ++ d ∷ []) ++ event_of b (kind_of t r) ∷ [])) (tests_stay (cells_of cells) book a r q tq apart.first)

  then_q : serve_on cells a (ask_of q) (serve_on cells b (ask_of r) book).book ≡ served (says tq) ((book ++ e ∷ []) ++ d ∷ [])
  then_q =
      ap (λ v. serve_on cells a (ask_of q) v.book) first_r
      ∙ serves cells a q (book ++ e ∷ []) (one_more e)
      ∙ ap (λ t. served (says t) ((book ++ e ∷ []) ++ event_of a (kind_of t q) ∷ [])) (tests_stay (cells_of cells) book b q r tr apart.second)

  abbrev qr : Shared
  qr = behind cells b (ask_of r) (behind cells a (ask_of q) sh)

  abbrev rq : Shared
  rq = behind cells a (ask_of q) (behind cells b (ask_of r) sh)

  book_qr : qr.books 0 ≡ (book ++ d ∷ []) ++ e ∷ []
  book_qr = ap (λ v. v.book) then_r

  book_rq : rq.books 0 ≡ (book ++ e ∷ []) ++ d ∷ []
  book_rq = ap (λ v. v.book) then_q

  -- the other books are as before
  untouched : (v w : Served) (n : ℕ) → (n == 0) ≡ false → (if n == 0 then v.book else if n == 0 then w.book else sh.books n) ≡ sh.books n
  untouched v w n h = ap (λ t. if t then v.book else if t then w.book else sh.books n) h

  others_qr : (n : ℕ) → (n == 0) ≡ false → qr.books n ≡ sh.books n
  others_qr n h = untouched (serve_on cells b (ask_of r) (serve_on cells a (ask_of q) book).book) (serve_on cells a (ask_of q) book) n h

  others_rq : (n : ℕ) → (n == 0) ≡ false → rq.books n ≡ sh.books n
  others_rq n h = untouched (serve_on cells a (ask_of q) (serve_on cells b (ask_of r) book).book) (serve_on cells b (ask_of r) book) n h

  one_writes : (k : ℕ) → (writes_to d.kind k ≡ false) ⊎ (writes_to e.kind k ≡ false)
  one_writes k = by (is_among k (writes_in q)) refl
    where
      no_r : is_among k (writes_in q) ≡ true → (t : Bool) → is_among k (writes_in r) ≡ t → is_among k (writes_in r) ≡ false
      no_r h true i = absurd (false≢true (sym (apart.first k h) ∙ uses_more r k i))
      no_r h false i = i

      by : (t : Bool) → is_among k (writes_in q) ≡ t → (writes_to d.kind k ≡ false) ⊎ (writes_to e.kind k ≡ false)
      by true h = inr (kind_writes tr.held tr.changed tr.failed r k (no_r h (is_among k (writes_in r)) refl))
      by false h = inl (kind_writes tq.held tq.changed tq.failed q k h)

  abbrev sent_q : ℕ → List Action
  sent_q k = sent_to k (sends_by tq.held tq.changed tq.failed q)

  abbrev sent_r : ℕ → List Action
  sent_r k = sent_to k (sends_by tr.held tr.changed tr.failed r)

  one_sends : (k : ℕ) → (sent_q k ≡ []) ⊎ (sent_r k ≡ [])
  one_sends k = by (apart.sends k)
    where
      by : (sent_to k q.sends ≡ []) ⊎ (sent_to k r.sends ≡ []) → (sent_q k ≡ []) ⊎ (sent_r k ≡ [])
      by (inl h) = inl (sends_none tq.held tq.changed tq.failed q k h)
      by (inr h) = inr (sends_none tr.held tr.changed tr.failed r k h)

  mails : (k : ℕ) (goes : Bool) (m : Mail) → SameMail (mail_changed goes k e.kind (mail_changed goes k d.kind m)) (mail_changed goes k d.kind (mail_changed goes k e.kind m))
  mails k goes m = record {
    actions =
        kind_mails tr.held tr.changed tr.failed r goes k (mail_changed goes k d.kind m) ∙ ap (λ l. l ++ sent_r k) (kind_mails tq.held tq.changed tq.failed q goes k m)
        ∙ swap_lists m.actions (sent_q k) (sent_r k) (one_sends k)
        ∙ sym (kind_mails tq.held tq.changed tq.failed q goes k (mail_changed goes k e.kind m) ∙ ap (λ l. l ++ sent_q k) (kind_mails tr.held tr.changed tr.failed r goes k m));
    fault =
        kind_fault tr.held tr.changed tr.failed r goes k (mail_changed goes k d.kind m) ∙ kind_fault tq.held tq.changed tq.failed q goes k m
        ∙ sym (kind_fault tq.held tq.changed tq.failed q goes k (mail_changed goes k e.kind m) ∙ kind_fault tr.held tr.changed tr.failed r goes k m);
  }

  -- an atom has a book of its own
  own_home : (c : CellId) → has_atom cells c ≡ true → (home cells c == 0) ≡ false
  own_home c h =
      let at : home cells c ≡ suc (atoms_below cells c.number) = ap (λ t. if t then suc (atoms_below cells c.number) else 0) (both (is_atom c) (has_cell (cells_of cells) c) h).0 in
      ap (λ n. n == 0) at ∙ eqb_no (suc (atoms_below cells c.number)) 0 (λ i. omega (arith, i))

  alike : Alike cells qr rq
  alike = record {
    store = λ c i. ap (λ l. newest (opening (cells_of cells)) l c.number) book_qr ∙ newest_same (cells_of cells) book d e c.number (one_writes c.number) ∙ sym (ap (λ l. newest (opening (cells_of cells)) l c.number) book_rq);
    mail = λ g i. subst (λ l. SameMail (mail_after (cells_of cells) l g.number) (mail_after (cells_of cells) (rq.books 0) g.number)) (sym book_qr)
        (subst (λ l. SameMail (mail_after (cells_of cells) ((book ++ d ∷ []) ++ e ∷ []) g.number) (mail_after (cells_of cells) l g.number)) (sym book_rq) (mail_same (cells_of cells) book d e g.number (mails g.number)));
    atoms = λ c i. ap (λ l. atom_newest (atom_of cells c l)) (others_qr (home cells c) (own_home c i) ∙ sym (others_rq (home cells c) (own_home c i)));
    taken = refl;
  }

  swap_at : (n p : ℕ) → p ≤ length (sh.books n) → SameSwap (qr.books n) (rq.books n) p p
  swap_at n p le = by (n == 0) refl
    where
      in_store : (j : ℕ) → j ≡ 0 → p ≤ length (sh.books j) → SameSwap (qr.books j) (rq.books j) p p
      in_store j z l = subst (λ i. SameSwap (qr.books i) (rq.books i) p p) (sym z)
          (subst (λ x. SameSwap x (rq.books 0) p p) (sym book_qr) (subst (λ x. SameSwap ((book ++ d ∷ []) ++ e ∷ []) x p p) (sym book_rq) (swap_both (cells_of cells) book d e p (subst (λ i. p ≤ length (sh.books i)) z l))))

      by : (t : Bool) → (n == 0) ≡ t → SameSwap (qr.books n) (rq.books n) p p
      by true h = in_store n (numbers n 0 h) le
      by false h = subst (λ x. SameSwap x (rq.books n) p p) (sym (others_qr n h)) (subst (λ x. SameSwap (sh.books n) x p p) (sym (others_rq n h)) (record { in_first = le; in_other = le; since = refl }))

  point_at : (p : ℕ) → p ≤ length book → SamePoint (cells_of cells) (qr.books 0) (rq.books 0) p p
  point_at p le = subst (λ x. SamePoint (cells_of cells) x (rq.books 0) p p) (sym book_qr) (subst (λ x. SamePoint (cells_of cells) ((book ++ d ∷ []) ++ e ∷ []) x p p) (sym book_rq) (point_both (cells_of cells) book d e p le))

  view_at : (p : ℕ) → p ≤ length book → SameView (cells_of cells) (qr.books 0) (rq.books 0) p p
  view_at p le = subst (λ x. SameView (cells_of cells) x (rq.books 0) p p) (sym book_qr) (subst (λ x. SameView (cells_of cells) ((book ++ d ∷ []) ++ e ∷ []) x p p) (sym book_rq) (view_both (cells_of cells) book d e p le))

  places_at : (st : Stage) → IsWithin cells sh st → SameStage cells qr rq st st
  places_at Resting h = Rests
  places_at Idle h = Idles
  places_at (Open p) h = Tries p p (point_at p h)
  places_at (Viewing p v) h = Redoes p p v v (point_at p h.0) (view_at v h.1)
  places_at (Swapping c p) h = Swaps c p p (swap_at (home cells c) p h)

  pub exchanged : Exchanged cells a b (ask_of q) (ask_of r) sh
  exchanged = record {
    first = ap (λ v. v.reply) then_q ∙ sym (ap (λ v. v.reply) first_q);
    second = ap (λ v. v.reply) then_r ∙ sym (ap (λ v. v.reply) first_r);
    shared = alike;
    places = places_at;
  }

pub commits_exchange : CommitsExchange
commits_exchange cells a b q r sh apart room = exchanged cells a b q r sh apart room
