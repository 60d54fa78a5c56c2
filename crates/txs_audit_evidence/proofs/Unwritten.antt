-- What a legal book says of numbers that no cell has: nothing is written to them, and no such agent fails. An atom's book has no commits.
use Rattle.std.proofs.Common.{◌≡◌, ◌≤◌, ◌<◌, ℕ, zero, suc, Bool, true, false, ◌&&◌, ◌||◌, ◌==◌, nat_lt, List, [], ◌∷◌, ◌++◌, length, take, Option, Some, None, refl, sym, ap, ◌∙◌, arith, if◌then◌else◌}
use Rattle.std.proofs.lemmas.Bool.{false≢true, ltb-true}
use Rattle.txs_value_data.specs.Places.{nth}
use Rattle.txs_value_data.specs.Limits.{most_events}
use Rattle.txs_value_data.specs.declared.value.CellId.{CellId}
use Rattle.txs_world_book.specs.Book.{Mail, acted, goes_on, is_there, mail_after, mail_changed, mail_from, makes, no_mail, written, writes_of}
use Rattle.txs_world_book.specs.declared.cell.StoreCell.{StoreCell}
use Rattle.txs_world_book.proofs.Outcomes.{both}
use Rattle.txs_world_protocol.specs.Ask.{Writes, buffered}
use Rattle.txs_world_protocol.specs.declared.event.Event.{Event}
use Rattle.txs_world_protocol.specs.declared.event.EventKind.{EventKind}
use Rattle.txs_world_protocol.specs.declared.event.EventKind.TheVariants.{Read, Commit, Retry, Fail, Refused, Send, SendRefused, Act, Swap, Broke}
use Rattle.txs_theorem_audit.specs.Audited.{Finding, Fine, Off, Short, and_then, check}
use Rattle.txs_theorem_audit.specs.Verdict.{book_found, is_end, is_legal_kind, is_legal_swap}
use Rattle.txs_audit_book.specs.Moves.{all_below}
use Rattle.txs_audit_book.specs.Replayed.{IsLegalBook}
use Rattle.txs_audit_book.specs.Swapped.{atom_test}
use Rattle.txs_audit_book.specs.Tests.{store_test}
use Rattle.txs_audit_book.proofs.Mailing.{act_stands, equal}
use Rattle.txs_audit_book.proofs.Stepping.{legal_below}
use Rattle.txs_world.proofs.Kept.{agent_in}

-- ---- one event of a legal book

fine_first : (f g : Finding) → and_then f g ≡ Fine → f ≡ Fine
fine_first Fine g e = refl
fine_first (Off a i) g e = e
fine_first (Short a i) g e = e

fine_rest : (f g : Finding) → and_then f g ≡ Fine → g ≡ Fine
fine_rest Fine g e = e
fine_rest (Off a i) g e = absurd cc
fine_rest (Short a i) g e = absurd cc

fine_check : (b : Bool) (a i : ℕ) → check b a i ≡ Fine → b ≡ true
fine_check true a i e = refl
fine_check false a i e = absurd cc

-- whatever tells the indexes
abbrev no_index : ℕ → ℕ → ℕ
no_index a k = 0

module _ (test : List Event → Event → Bool) (done : List Event) (e : Event) (es : List Event) (h : book_found test no_index done (e ∷ es) ≡ Fine) where
  -- the first event passes the test
  pub first_passes : test done e ≡ true
  first_passes = (both (nat_lt (length done) most_events) (test done e) (fine_check (nat_lt (length done) most_events && test done e) e.actor 0 (fine_first (check (nat_lt (length done) most_events && test done e) e.actor 0) (book_found test no_index (done ++ e ∷ []) es) h))).1

  -- and so do the others, behind it
  pub rest_passes : book_found test no_index (done ++ e ∷ []) es ≡ Fine
  rest_passes = fine_rest (check (nat_lt (length done) most_events && test done e) e.actor 0) (book_found test no_index (done ++ e ∷ []) es) h

-- ---- no cell

-- what isn't below a bound isn't among what is
unbuffered : (n k : ℕ) (ws : Writes) → n ≤ k → all_below n ws ≡ true → buffered ws k ≡ None
unbuffered n k [] le h = refl
unbuffered n k (w ∷ ws) le h =
    let m = both (nat_lt w.0.number n) (all_below n ws) h in
    go (ltb-true w.0.number n m.0) (unbuffered n k ws le m.1) (w.0.number == k) refl
  where
    go : w.0.number < n → buffered ws k ≡ None → (t : Bool) → (w.0.number == k) ≡ t → (if t then Some w.1 else buffered ws k) ≡ None
    go lt r true e = let same = equal w.0.number k e in absurd (omega (arith, same, lt, le))
    go lt r false e = r

module _ (cells : List StoreCell) (threads k : ℕ) (none : length cells ≤ k) where
  abbrev legal : List Event → List Event → Type 0
  legal done es = book_found (store_test cells threads) no_index done es ≡ Fine

  kind_legal : (done : List Event) (e : Event) → store_test cells threads done e ≡ true → is_legal_kind cells done e.actor e.kind ≡ true
  kind_legal done e h = (both (makes cells threads e.actor e.kind) (is_legal_kind cells done e.actor e.kind) h).1

  -- an event that may stand there writes nothing to it
  off_there : (done : List Event) (e : Event) → store_test cells threads done e ≡ true → is_there (buffered (writes_of e.kind) k) ≡ false
  off_there done e h = ap is_there (unbuffered (length cells) k (writes_of e.kind) none (legal_below cells done e.actor (length cells) e.kind refl (kind_legal done e h)))

  unwritten_from : (done es : List Event) → legal done es → (p j : ℕ) → written k p (take j es) ≡ false
  unwritten_from done [] h p zero = refl
  unwritten_from done [] h p (suc j) = refl
  unwritten_from done (e ∷ es) h p zero = refl
  unwritten_from done (e ∷ es) h zero (suc j) =
      ap (λ b. b || written k zero (take j es)) (off_there done e (first_passes (store_test cells threads) done e es h))
      ∙ unwritten_from (done ++ e ∷ []) es (rest_passes (store_test cells threads) done e es h) zero j
  unwritten_from done (e ∷ es) h (suc p) (suc j) = unwritten_from (done ++ e ∷ []) es (rest_passes (store_test cells threads) done e es h) p j

  -- no event makes such an agent fail
  faultless_after : (goes : Bool) (done : List Event) (a : ℕ) (d : EventKind) (m : Mail) → is_legal_kind cells done a d ≡ true → (mail_changed goes k d m).fault ≡ m.fault
  faultless_after goes done a (Read c) m h = refl
  faultless_after goes done a (Commit at view ws sends) m h = refl
  faultless_after goes done a (Retry since c cause) m h = refl
  faultless_after goes done a (Fail at view) m h = refl
  faultless_after goes done a (Refused at view g) m h = refl
  faultless_after goes done a (Send x) m h = refl
  faultless_after goes done a (SendRefused g) m h = refl
  faultless_after goes done a (Act g number new sends) m h = go (g.number == k) refl
    where
      go : (t : Bool) → (g.number == k) ≡ t → (if t then acted goes new m else m).fault ≡ m.fault
      go true e =
          let same = equal g.number k e in
          let lt = agent_in cells g (act_stands cells done a g number new sends h).has in
          absurd (omega (arith, same, lt, none))
      go false e = refl
  faultless_after goes done a (Swap new) m h = refl
  faultless_after goes done a (Broke at) m h = refl

  faultless_from : (goes : Bool) (done es : List Event) → legal done es → (m : Mail) → m.fault ≡ None → (j : ℕ) → (mail_from goes k m (take j es)).fault ≡ None
  faultless_from goes done [] h m e zero = e
  faultless_from goes done [] h m e (suc j) = e
  faultless_from goes done (d ∷ es) h m e zero = e
  faultless_from goes done (d ∷ es) h m e (suc j) =
      faultless_from goes (done ++ d ∷ []) es (rest_passes (store_test cells threads) done d es h) (mail_changed goes k d.kind m)
      (faultless_after goes done d.actor d.kind m (kind_legal done d (first_passes (store_test cells threads) done d es h)) ∙ e) j

-- In a legal book a number that no cell has is never written.
pub unwritten : (cells : List StoreCell) (threads : ℕ) (book : List Event) → IsLegalBook (store_test cells threads) book → (k p j : ℕ) → length cells ≤ k → written k p (take j book) ≡ false
unwritten cells threads book h k p j none = unwritten_from cells threads k none [] book (h no_index) p j

-- No agent that isn't there fails in it.
pub faultless : (cells : List StoreCell) (threads : ℕ) (book : List Event) → IsLegalBook (store_test cells threads) book → (k j : ℕ) → length cells ≤ k → (mail_after cells (take j book) k).fault ≡ None
faultless cells threads book h k j none = faultless_from cells threads k none (goes_on (nth cells k)) [] book (h no_index) no_mail refl j

-- ---- atoms

-- an event that may stand in an atom's book has no transaction
swap_no_end : (cell : CellId) (done : List Event) (a : ℕ) (d : EventKind) → is_legal_swap cell done a d ≡ true → is_end d ≡ false
swap_no_end cell done a (Read c) h = refl
swap_no_end cell done a (Commit at view ws sends) h = absurd (false≢true h)
swap_no_end cell done a (Retry since c cause) h = refl
swap_no_end cell done a (Fail at view) h = refl
swap_no_end cell done a (Refused at view g) h = absurd (false≢true h)
swap_no_end cell done a (Send x) h = refl
swap_no_end cell done a (SendRefused g) h = refl
swap_no_end cell done a (Act g n new sends) h = refl
swap_no_end cell done a (Swap new) h = refl
swap_no_end cell done a (Broke at) h = refl

no_end_from : (cell : CellId) (threads : ℕ) (done es : List Event) → book_found (atom_test cell threads) no_index done es ≡ Fine → (at : ℕ) (e : Event) → nth es at ≡ Some e → is_end e.kind ≡ false
no_end_from cell threads done [] h at e is = absurd cc
no_end_from cell threads done (d ∷ es) h zero e is =
    ap (λ (x : Option Event). end_in x) (sym is) ∙ swap_no_end cell done d.actor d.kind (both (nat_lt d.actor threads) (is_legal_swap cell done d.actor d.kind) (first_passes (atom_test cell threads) done d es h)).1
  where
    end_in : Option Event → Bool
    end_in None = false
    end_in (Some x) = is_end x.kind
no_end_from cell threads done (d ∷ es) h (suc at) e is = no_end_from cell threads (done ++ d ∷ []) es (rest_passes (atom_test cell threads) done d es h) at e is

-- In a legal book of an atom no event has a transaction.
pub no_end : (cell : CellId) (threads : ℕ) (book : List Event) → IsLegalBook (atom_test cell threads) book → (at : ℕ) (e : Event) → nth book at ≡ Some e → is_end e.kind ≡ false
no_end cell threads book h at e is = no_end_from cell threads [] book (h no_index) at e is
