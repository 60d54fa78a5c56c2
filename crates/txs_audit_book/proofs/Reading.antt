-- What is kept, as it is read.
use Rattle.std.proofs.Common.{◌≡◌, ◌≤◌, ◌<◌, ◌-◌, ◌+◌, ◌==◌, ℕ, zero, suc, Bool, true, false, not, ◌&&◌, nat_eq, nat_le, nat_lt, List, [], ◌∷◌, length, map, take, get_or, Option, Some, None, refl, sym, ap, ◌∙◌, subst, arith, if◌then◌else◌}
use Rattle.std.specs.Prelude.{is_some}
use Rattle.std.proofs.lemmas.Bool.{le-ltb, lt-ltb, ltb-true}
use Rattle.std.proofs.lemmas.Bool.Decides.{nat_tests}
use Rattle.std.proofs.lemmas.List.{take_all}
use Rattle.txs_tree_eval_transaction.specs.Pasts.{Ascend, entry_at, entry_from, latest}
use Rattle.txs_value_data.specs.Places.{nth}
use Rattle.txs_value_data.specs.declared.fault.Fault.{Fault}
use Rattle.txs_value_data.specs.declared.value.Value.{Value}
use Rattle.txs_value_data.specs.declared.value.Value.TheVariants.{Nil}
use Rattle.txs_world_book.specs.Book.{Mail, after, goes_on, is_failed, is_there, mail_after, value_or, opening, waits, written}
use Rattle.txs_world_book.specs.declared.cell.StoreCell.{StoreCell}
use Rattle.txs_world_protocol.specs.declared.event.Event.{Event}
use Rattle.txs_value_data.specs.declared.value.CellId.{CellId}
use Rattle.txs_audit_book.specs.Gone.{IsGone, IsHistory, IsInbox, IsPast, PlainInbox, index_in, no_inbox, plain_inbox, plain_inboxes}
use Rattle.txs_audit_book.specs.declared.inbox.Inbox.{Inbox}
use Rattle.txs_audit_book.proofs.Boxes.{old_plain, plain_many}
use Rattle.txs_audit_book.proofs.Earlier.{past_open}
use Rattle.txs_audit_book.proofs.Histories.{history_open}
use Rattle.txs_audit_book.proofs.Mailing.{waiting}
use Rattle.txs_tree_eval_transaction.specs.Views.{held, held_in, or_else, or_nil, world_of}
use Rattle.txs_value_cell.specs.Cells.{World}

-- the last one's index is that of the whole
pub last_index : (ws : List (ℕ × Value)) (p : ℕ) → Ascend 0 ws → latest 0 ws ≤ p → index_in (entry_at ws p) ≡ latest 0 ws
last_index ws p a le = go None 0 ws refl a le
  where
    least : (n : ℕ) (l : List (ℕ × Value)) → Ascend n l → n ≤ latest n l
    least n [] h = omega arith
    least n (w ∷ l) h = (let r = least w.0 l h.1 in let o = h.0 in omega (arith, o, r))

    go : (f : Option (ℕ × Value)) (n : ℕ) (l : List (ℕ × Value)) → index_in f ≡ n → Ascend n l → latest n l ≤ p → index_in (entry_from f l p) ≡ latest n l
    go f n [] e h i = e
    go f n (w ∷ l) e h i =
        let r = least w.0 l h.1 in
        ap (λ b. index_in (entry_from (if b then f else Some w) l p)) (le-ltb p w.0 (omega (arith, r, i))) ∙ go (Some w) w.0 l refl h.1 i

default_free : {A : Type 0} (xs : List A) (k : ℕ) (d e : A) → k < length xs → get_or xs k d ≡ get_or xs k e
default_free [] k d e lt = absurd (omega (arith, lt))
default_free (x ∷ xs) zero d e lt = refl
default_free (x ∷ xs) (suc k) d e lt = default_free xs k d e (omega (arith, lt))

module _ (cells : List StoreCell) (histories : List (List (ℕ × Value))) (bs : List Inbox) (views tries : List ℕ) (done : List Event) (g : IsGone cells histories (plain_inboxes bs) views tries done) where
  -- a history that was read
  pub history_is : (k i : ℕ) (h : List (ℕ × Value)) → k < length cells → i ≡ k → h ≡ get_or histories i h → IsHistory (opening cells) done k h
  history_is k i h lt is at =
      let many = g.many in
      let below : k < length histories = omega (arith, lt, many) in
      subst (IsHistory (opening cells) done k) (default_free histories k [] h below ∙ sym (subst (λ j. h ≡ get_or histories j h) is at)) (g.values k below)

  -- whether its cell was written at an index or later
  pub written_read : (k i p : ℕ) (h : List (ℕ × Value)) → k < length cells → i ≡ k → h ≡ get_or histories i h → nat_lt p (latest 0 h) ≡ written k p done
  written_read k i p h lt is at =
      let x = history_is k i h lt is at in
      sym (ap (written k p) (sym (take_all (length done) done (omega arith))) ∙ x.moved (length done) (omega arith) p ∙ ap (nat_lt p) (last_index h (length done) x.ascend x.within))

  in_boxes : (k : ℕ) → k < length cells → k < length bs
  in_boxes k lt = (let m = g.as_many in let n = plain_many bs in omega (arith, lt, m, n))

  pub boxes_many : length bs ≡ length cells
  boxes_many = sym (plain_many bs) ∙ g.as_many

  -- an inbox that was read
  pub inbox_is : (k i : ℕ) (b : Inbox) → k < length cells → i ≡ k → b ≡ get_or bs i b → IsInbox (mail_after cells done k) (plain_inbox b)
  inbox_is k i b lt is at =
      let below = in_boxes k lt in
      subst (IsInbox (mail_after cells done k)) (sym (old_plain bs i k b at is below)) (g.mail k (let n = plain_many bs in omega (arith, below, n)))

  -- whether its agent has failed
  pub failed_read : (c : CellId) (i : ℕ) (b : Inbox) → c.number < length cells → i ≡ c.number → b ≡ get_or bs i b → is_some b.fault ≡ is_failed cells done c
  failed_read c i b lt is at = ap is_some (inbox_is c.number i b lt is at).fault ∙ some_there (mail_after cells done c.number).fault
    where
      some_there : (o : Option Fault) → is_some o ≡ is_there o
      some_there None = refl
      some_there (Some f) = refl

  -- whether its agent had failed behind so many events
  pub had_failed : (k i j : ℕ) (b : Inbox) → k < length cells → j ≤ length done → i ≡ k → b ≡ get_or bs i b → (is_some b.fault && nat_le b.failed j) ≡ is_there (mail_after cells (take j done) k).fault
  had_failed k i j b lt le is at =
      let below = in_boxes k lt in
      let p = subst (IsPast (goes_on (nth cells k)) k done) (sym (old_plain bs i k b at is below)) (g.past k (let n = plain_many bs in omega (arith, below, n))) in
      ap (λ x. x && nat_le b.failed j) (some_there b.fault) ∙ sym (p.failed j le)
    where
      some_there : (o : Option Fault) → is_some o ≡ is_there o
      some_there None = refl
      some_there (Some f) = refl

-- ---- the opening

-- what a history opens with
abbrev start : StoreCell → List (ℕ × Value)
start c = (0, c.opening) ∷ []

abbrev start_at : Value → List (ℕ × Value)
start_at v = (0, v) ∷ []

-- no inbox has anything
abbrev nobody : StoreCell → PlainInbox
nobody c = no_inbox

open_many : {A B : Type 0} (f : A → B) (xs : List A) → length (map f xs) ≡ length xs
open_many f [] = refl
open_many f (x ∷ xs) = ap suc (open_many f xs)

open_history : (cells : List StoreCell) (k : ℕ) → k < length cells → get_or (map start cells) k [] ≡ start_at (opening cells k)
open_history [] k lt = absurd (omega (arith, lt))
open_history (c ∷ cells) zero lt = refl
open_history (c ∷ cells) (suc k) lt = open_history cells k (omega (arith, lt))

open_inbox : (cells : List StoreCell) (k : ℕ) → get_or (map nobody cells) k no_inbox ≡ no_inbox
open_inbox [] k = refl
open_inbox (c ∷ cells) zero = refl
open_inbox (c ∷ cells) (suc k) = open_inbox cells k

opened_beyond : (cells : List StoreCell) (k : ℕ) → length cells ≤ k → opening cells k ≡ Nil
opened_beyond [] k le = refl
opened_beyond (c ∷ cells) zero le = absurd (omega (arith, le))
opened_beyond (c ∷ cells) (suc k) le = opened_beyond cells k (omega (arith, le))

opening_gone : (cells : List StoreCell) → IsGone cells (map start cells) (map nobody cells) [] [] []
opening_gone cells = record {
  few = omega arith;
  many = open_many start cells;
  as_many = open_many nobody cells;
  values = λ k lt. subst (IsHistory (opening cells) [] k) (sym (open_history cells k (let m = open_many start cells in omega (arith, lt, m)))) (history_open (opening cells) k);
  mail = λ k lt. subst (IsInbox (mail_after cells [] k)) (sym (open_inbox cells k)) (record { fault = refl; acts = refl; queue = refl; enough = omega arith });
  past = λ k lt. subst (IsPast (goes_on (nth cells k)) k []) (sym (open_inbox cells k)) (past_open (goes_on (nth cells k)) k);
  beyond = λ k le p. opened_beyond cells k le;
  all = λ a. record { stands = λ p h. refl; passed = λ p h. absurd (omega (arith, h)) };
  some = λ a. record { stands = λ p h. refl; passed = λ p h. absurd (omega (arith, h)) };
}

pub gone_open : (cells ds es : List StoreCell) (histories : List (List (ℕ × Value))) (bs : List PlainInbox) (views tries : List ℕ) → ds ≡ cells → es ≡ cells
    → histories ≡ map start ds → bs ≡ map nobody es → views ≡ [] → tries ≡ [] → IsGone cells histories bs views tries []
gone_open cells ds es histories bs views tries same too values boxes no_views no_tries =
    subst (λ u. IsGone cells u bs views tries []) (sym (values ∙ ap (map start) same))
    (subst (λ u. IsGone cells (map start cells) u views tries []) (sym (boxes ∙ ap (map nobody) too))
    (subst (λ u. IsGone cells (map start cells) (map nobody cells) u tries []) (sym no_views)
    (subst (λ u. IsGone cells (map start cells) (map nobody cells) [] u []) (sym no_tries) (opening_gone cells))))

-- ---- what is looked up at an index

funext : {A B : Type 0} (f g : A → B) → ((x : A) → f x ≡ g x) → f ≡ g
funext f g h = λ i. λ x. h x i

none_yet : (w : World) (es : List Event) → after w es 0 ≡ w
none_yet w [] = refl
none_yet w (e ∷ es) = refl

nth_or : {A : Type 0} (xs : List A) (k : ℕ) (d : A) → k < length xs → nth xs k ≡ Some (get_or xs k d)
nth_or [] k d lt = absurd (omega (arith, lt))
nth_or (x ∷ xs) zero d lt = refl
nth_or (x ∷ xs) (suc k) d lt = nth_or xs k d (omega (arith, lt))

nth_none : {A : Type 0} (xs : List A) (k : ℕ) → length xs ≤ k → nth xs k ≡ None
nth_none [] k le = refl
nth_none (x ∷ xs) zero le = absurd (omega (arith, le))
nth_none (x ∷ xs) (suc k) le = nth_none xs k (omega (arith, le))

module _ (cells : List StoreCell) (histories : List (List (ℕ × Value))) (bs : List PlainInbox) (views tries : List ℕ) (done : List Event) (g : IsGone cells histories bs views tries done) where
  lt_of : (k n : ℕ) → nat_lt k n ≡ true → k < n
  lt_of k n q = ltb-true k n q

  ge_of : (k n : ℕ) → nat_lt k n ≡ false → n ≤ k
  ge_of k n q = grind (arith, nat_tests, q)

  value_there : (k p : ℕ) → k < length cells → held_in (nth histories k) p ≡ Some (after (opening cells) done p k)
  value_there k p lt =
      let many = g.many in
      let below : k < length histories = omega (arith, lt, many) in
      ap (λ o. held_in o p) (nth_or histories k [] below) ∙ (g.values k below).at p

  -- the worlds at the indexes of the store's book
  pub store_world : (p : ℕ) → world_of (record { cells = histories; swaps = None; place = p }) ≡ after (opening cells) done p
  store_world p = funext (world_of (record { cells = histories; swaps = None; place = p })) (after (opening cells) done p) (λ k. go k (nat_lt k (length cells)) refl)
    where
      go : (k : ℕ) (b : Bool) → nat_lt k (length cells) ≡ b → or_nil (held_in (nth histories k) p) ≡ after (opening cells) done p k
      go k true q = ap or_nil (value_there k p (lt_of k (length cells) q))
      go k false q =
          let le = ge_of k (length cells) q in
          let many = g.many in
          ap (λ o. or_nil (held_in o p)) (nth_none histories k (omega (arith, le, many))) ∙ sym (g.beyond k le p)

  -- and of an atom's, whose swaps stand for every cell
  pub atom_world : (h : List (ℕ × Value)) (p : ℕ) → world_of (record { cells = histories; swaps = Some h; place = p }) ≡ (λ k. value_or (held h p) (opening cells k))
  atom_world h p = funext (world_of (record { cells = histories; swaps = Some h; place = p })) (λ k. value_or (held h p) (opening cells k)) (λ k. over k (held h p))
    where
      opened : (k : ℕ) (b : Bool) → nat_lt k (length cells) ≡ b → or_nil (held_in (nth histories k) 0) ≡ opening cells k
      opened k true q = ap or_nil (value_there k 0 (lt_of k (length cells) q)) ∙ ap (λ (R : World). R k) (none_yet (opening cells) done)
      opened k false q =
          let le = ge_of k (length cells) q in
          let many = g.many in
          ap (λ o. or_nil (held_in o 0)) (nth_none histories k (omega (arith, le, many))) ∙ sym (opened_beyond cells k le)

      over : (k : ℕ) (o : Option Value) → or_nil (or_else o (held_in (nth histories k) 0)) ≡ value_or o (opening cells k)
      over k None = opened k (nat_lt k (length cells)) refl
      over k (Some v) = refl

  read_is : (k i : ℕ) (h : List (ℕ × Value)) → i ≡ k → i < length histories → h ≡ get_or histories i h → IsHistory (opening cells) done k h
  read_is k i h is lt at =
      let below : k < length histories = subst (λ j. j < length histories) is lt in
      subst (IsHistory (opening cells) done k) (default_free histories k [] h below ∙ sym (subst (λ j. h ≡ get_or histories j h) is at)) (g.values k below)

  -- a value that was looked up
  pub value_read : (k i p : ℕ) (h : List (ℕ × Value)) → i ≡ k → i < length histories → h ≡ get_or histories i h → held h p ≡ (if nat_lt k (length cells) then Some (after (opening cells) done p k) else None)
  value_read k i p h is lt at =
      let many = g.many in
      (read_is k i h is lt at).at p ∙ sym (ap (λ b. if b then Some (after (opening cells) done p k) else None) (lt-ltb k (length cells) (omega (arith, lt, is, many))))

  -- where there is none
  pub none_read : (k i p : ℕ) → i ≡ k → length histories ≤ i → None ≡ (if nat_lt k (length cells) then Some (after (opening cells) done p k) else None)
  none_read k i p is le =
      let many = g.many in
      sym (ap (λ b. if b then Some (after (opening cells) done p k) else None) (le-ltb k (length cells) (omega (arith, le, is, many))))

  pub moved_read : (k i p j : ℕ) (h : List (ℕ × Value)) → i ≡ k → i < length histories → j ≤ length done → h ≡ get_or histories i h → nat_lt p (index_in (entry_at h j)) ≡ written k p (take j done)
  moved_read k i p j h is lt le at = sym ((read_is k i h is lt at).moved j le p)

-- of an inbox that has no fault, and of one that has
pub none_failed : (o : Option Fault) (r b t : Bool) → is_some o ≡ not r → r ≡ true → (is_some o && b) ≡ t → false ≡ t
none_failed o r b t e q h = sym (ap (λ x. x && b) (e ∙ ap not q)) ∙ h

pub some_failed : (o : Option Fault) (r b t : Bool) → is_some o ≡ not r → r ≡ false → (is_some o && b) ≡ t → b ≡ t
some_failed o r b t e q h = sym (ap (λ x. x && b) (e ∙ ap not q)) ∙ h

-- ---- an agent's next action

pub next_waits : (m : Mail) (b : PlainInbox) (number len : ℕ) → IsInbox m b → len ≡ length b.sent → b.acts < len → nat_eq number (b.acts + 1) ≡ (waits m.actions && (number == suc m.acts))
next_waits m b number len h size lt =
    let one : b.acts + 1 ≡ suc m.acts = (let a = h.acts in omega (arith, a)) in
    let there : waits m.actions ≡ true = sym (waiting m b h) ∙ lt-ltb b.acts (length b.sent) (omega (arith, lt, size)) in
    ap (nat_eq number) one ∙ sym (ap (λ t. t && (number == suc m.acts)) there)

pub none_waits : (m : Mail) (b : PlainInbox) (number len : ℕ) → IsInbox m b → len ≡ length b.sent → len ≤ b.acts → nat_lt b.acts len ≡ (waits m.actions && (number == suc m.acts))
none_waits m b number len h size le =
    let none : waits m.actions ≡ false = sym (waiting m b h) ∙ le-ltb b.acts (length b.sent) (omega (arith, le, size)) in
    le-ltb b.acts len le ∙ sym (ap (λ t. t && (number == suc m.acts)) none)
