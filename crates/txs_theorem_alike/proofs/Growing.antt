-- Two books, each with one more event, where both events do the same.
use Rattle.std.proofs.Common.{◌≡◌, ◌≤◌, ℕ, zero, suc, Bool, true, false, ◌||◌, ◌==◌, nat_lt, List, [], ◌∷◌, ◌++◌, length, Result, Ok, Err, refl, sym, ap, ◌∙◌, arith, length-append, drop, if◌then◌else◌}
use Rattle.std.proofs.lemmas.Bool.Decides.{nat_tests}
use Rattle.txs_world_protocol.specs.Ask.{buffered}
use Rattle.txs_value_cell.specs.declared.action.Action.{Action}
use Rattle.txs_world_protocol.specs.declared.event.Event.{Event}
use Rattle.txs_world_protocol.specs.declared.event.Cause.TheVariants.{Outdated}
use Rattle.txs_world_protocol.specs.declared.event.EventKind.{EventKind}
use Rattle.txs_world_protocol.specs.declared.event.EventKind.TheVariants.{Read, Commit, Retry, Fail, Refused, Send, SendRefused, Act, Swap, Broke}
use Rattle.txs_value_data.specs.declared.fault.Fault.{Fault}
use Rattle.txs_value_data.specs.declared.value.CellId.{CellId}
use Rattle.txs_value_data.specs.declared.value.Value.{Value}
use Rattle.txs_world_book.specs.Atom.{swapped_to, atom_after, is_swap, swapped_since}
use Rattle.txs_world_book.specs.Book.{value_or, newest, is_there, writes_of, writes_to, written, times_written, most_older, has_ref, opening, goes_on, sent_to, mailed, acted, Mail, mail_changed, mail_after, no_mail}
use Rattle.txs_value_data.specs.Places.{nth}
use Rattle.txs_world_book.specs.declared.cell.StoreCell.{StoreCell}
use Rattle.txs_world_book.proofs.Growth.{after_front, after_last, mail_last, written_end}
use Rattle.txs_world_book.proofs.Older.{times_end}
use Rattle.txs_theorem_alike.specs.Books.{up_to_eleven, SameSince, SamePoint, SameView, SameSwap, SameMail}
use Rattle.txs_theorem_alike.proofs.Eleven.{one_more}

-- ---- what an event does

-- an event without its places, and without the number of an action
abbrev pub deed : EventKind → EventKind
deed (Read c) = Read c
deed (Commit at view ws sends) = Commit 0 0 ws sends
deed (Retry since c cause) = Retry 0 c Outdated
deed (Fail at view) = Fail 0 0
deed (Refused at view g) = Refused 0 0 g
deed (Send x) = Send x
deed (SendRefused g) = SendRefused g
deed (Act g n new sends) = Act g 0 new sends
deed (Swap new) = Swap new
deed (Broke at) = Broke 0

deed_writes : (d : EventKind) → writes_of (deed d) ≡ writes_of d
deed_writes (Read c) = refl
deed_writes (Commit at view ws sends) = refl
deed_writes (Retry since c cause) = refl
deed_writes (Fail at view) = refl
deed_writes (Refused at view g) = refl
deed_writes (Send x) = refl
deed_writes (SendRefused g) = refl
deed_writes (Act g n new sends) = refl
deed_writes (Swap new) = refl
deed_writes (Broke at) = refl

deed_swaps : (d : EventKind) → swapped_to (deed d) ≡ swapped_to d
deed_swaps (Read c) = refl
deed_swaps (Commit at view ws sends) = refl
deed_swaps (Retry since c cause) = refl
deed_swaps (Fail at view) = refl
deed_swaps (Refused at view g) = refl
deed_swaps (Send x) = refl
deed_swaps (SendRefused g) = refl
deed_swaps (Act g n new sends) = refl
deed_swaps (Swap new) = refl
deed_swaps (Broke at) = refl

deed_is_swap : (d : EventKind) → is_swap (deed d) ≡ is_swap d
deed_is_swap (Read c) = refl
deed_is_swap (Commit at view ws sends) = refl
deed_is_swap (Retry since c cause) = refl
deed_is_swap (Fail at view) = refl
deed_is_swap (Refused at view g) = refl
deed_is_swap (Send x) = refl
deed_is_swap (SendRefused g) = refl
deed_is_swap (Act g n new sends) = refl
deed_is_swap (Swap new) = refl
deed_is_swap (Broke at) = refl

deed_mail : (goes : Bool) (k : ℕ) (d : EventKind) (m : Mail) → mail_changed goes k (deed d) m ≡ mail_changed goes k d m
deed_mail goes k (Read c) m = refl
deed_mail goes k (Commit at view ws sends) m = refl
deed_mail goes k (Retry since c cause) m = refl
deed_mail goes k (Fail at view) m = refl
deed_mail goes k (Refused at view g) m = refl
deed_mail goes k (Send x) m = refl
deed_mail goes k (SendRefused g) m = refl
deed_mail goes k (Act g n new sends) m = refl
deed_mail goes k (Swap new) m = refl
deed_mail goes k (Broke at) m = refl

-- events that do the same write the same
same_writes : (d e : EventKind) → deed d ≡ deed e → writes_of d ≡ writes_of e
same_writes d e h = sym (deed_writes d) ∙ ap writes_of h ∙ deed_writes e

same_writes_to : (d e : EventKind) (k : ℕ) → deed d ≡ deed e → writes_to d k ≡ writes_to e k
same_writes_to d e k h = ap (λ ws. is_there (buffered ws k)) (same_writes d e h)

same_swapped : (d e : EventKind) → deed d ≡ deed e → swapped_to d ≡ swapped_to e
same_swapped d e h = sym (deed_swaps d) ∙ ap swapped_to h ∙ deed_swaps e

same_is_swap : (d e : EventKind) → deed d ≡ deed e → is_swap d ≡ is_swap e
same_is_swap d e h = sym (deed_is_swap d) ∙ ap is_swap h ∙ deed_is_swap e

-- ---- the same mail

both_mailed : (xs : List Action) (m n : Mail) → SameMail m n → SameMail (mailed xs m) (mailed xs n)
both_mailed xs m n h = record { actions = ap (λ l. l ++ xs) h.actions; fault = h.fault }

both_acted : (goes : Bool) (r : Result Value Fault) (m n : Mail) → SameMail m n → SameMail (acted goes r m) (acted goes r n)
both_acted true (Ok v) m n h = record { actions = ap (drop 1) h.actions; fault = h.fault }
both_acted false (Ok v) m n h = record { actions = ap (drop 1) h.actions; fault = h.fault }
both_acted true (Err f) m n h = record { actions = ap (drop 1) h.actions; fault = h.fault }
both_acted false (Err f) m n h = record { actions = ap (drop 1) h.actions; fault = refl }

both_if : (b : Bool) (m n x y : Mail) → SameMail m n → SameMail x y → SameMail (if b then m else x) (if b then n else y)
both_if true m n x y h g = h
both_if false m n x y h g = g

both_changed : (goes : Bool) (k : ℕ) (d : EventKind) (m n : Mail) → SameMail m n → SameMail (mail_changed goes k d m) (mail_changed goes k d n)
both_changed goes k (Read c) m n h = h
both_changed goes k (Commit at view ws sends) m n h = both_mailed (sent_to k sends) m n h
both_changed goes k (Retry since c cause) m n h = h
both_changed goes k (Fail at view) m n h = h
both_changed goes k (Refused at view g) m n h = h
both_changed goes k (Send x) m n h = both_mailed (sent_to k (x ∷ [])) m n h
both_changed goes k (SendRefused g) m n h = h
both_changed goes k (Act g i new sends) m n h =
    both_mailed (sent_to k sends) (if g.number == k then acted goes new m else m) (if g.number == k then acted goes new n else n)
    (both_if (g.number == k) (acted goes new m) (acted goes new n) m n (both_acted goes new m n h) h)
both_changed goes k (Swap new) m n h = h
both_changed goes k (Broke at) m n h = h

-- ---- one more event of one book

abbrev pub more : Bool → ℕ → ℕ
more true n = suc n
more false n = n

more_if : (b : Bool) (n : ℕ) → (if b then suc n else n) ≡ more b n
more_if true n = refl
more_if false n = refl

pub more_both : (b c : Bool) (n : ℕ) → more b (more c n) ≡ more c (more b n)
more_both true true n = refl
more_both true false n = refl
more_both false true n = refl
more_both false false n = refl

pub times_more : (k p : ℕ) (es : List Event) (e : Event) → p ≤ length es → times_written k p (es ++ e ∷ []) ≡ more (writes_to e.kind k) (times_written k p es)
times_more k zero [] e le = more_if (writes_to e.kind k) 0
times_more k (suc p) [] e le = absurd (omega (arith, le))
times_more k zero (d ∷ es) e le =
    more_if (writes_to d.kind k) (times_written k zero (es ++ e ∷ []))
    ∙ ap (more (writes_to d.kind k)) (times_more k zero es e (omega arith))
    ∙ more_both (writes_to d.kind k) (writes_to e.kind k) (times_written k zero es)
    ∙ ap (more (writes_to e.kind k)) (sym (more_if (writes_to d.kind k) (times_written k zero es)))
times_more k (suc p) (d ∷ es) e le = times_more k p es e (omega (arith, le))

or_assoc : (a b c : Bool) → (a || (b || c)) ≡ ((a || b) || c)
or_assoc true b c = refl
or_assoc false b c = refl

pub or_false : (a : Bool) → (a || false) ≡ a
or_false true = refl
or_false false = refl

pub written_more : (k p : ℕ) (es : List Event) (e : Event) → p ≤ length es → written k p (es ++ e ∷ []) ≡ (written k p es || writes_to e.kind k)
written_more k zero [] e le = or_false (writes_to e.kind k)
written_more k (suc p) [] e le = absurd (omega (arith, le))
written_more k zero (d ∷ es) e le = ap (λ b. writes_to d.kind k || b) (written_more k zero es e (omega arith)) ∙ or_assoc (writes_to d.kind k) (written k zero es) (writes_to e.kind k)
written_more k (suc p) (d ∷ es) e le = written_more k p es e (omega (arith, le))

pub swapped_more : (p : ℕ) (es : List Event) (e : Event) → p ≤ length es → swapped_since p (es ++ e ∷ []) ≡ (swapped_since p es || is_swap e.kind)
swapped_more zero [] e le = or_false (is_swap e.kind)
swapped_more (suc p) [] e le = absurd (omega (arith, le))
swapped_more zero (d ∷ es) e le = ap (λ b. is_swap d.kind || b) (swapped_more zero es e (omega arith)) ∙ or_assoc (is_swap d.kind) (swapped_since zero es) (is_swap e.kind)
swapped_more (suc p) (d ∷ es) e le = swapped_more p es e (omega (arith, le))

swapped_end : (p : ℕ) (es : List Event) → length es ≤ p → swapped_since p es ≡ false
swapped_end p [] le = refl
swapped_end zero (e ∷ es) le = absurd (omega (arith, le))
swapped_end (suc p) (e ∷ es) le = swapped_end p es (omega (arith, le))

pub atom_last : (v : Value) (es : List Event) (e : Event) → atom_after v (es ++ e ∷ []) (length (es ++ e ∷ [])) ≡ value_or (swapped_to e.kind) (atom_after v es (length es))
atom_last v [] e = refl
atom_last v (d ∷ es) e = atom_last (value_or (swapped_to d.kind) v) es e

pub longer : (p : ℕ) (es : List Event) (e : Event) → p ≤ length es → p ≤ length (es ++ e ∷ [])
longer p es e le = omega (arith, le, length-append es (e ∷ []))

-- ---- one more event of both books

eleven_more : (b : Bool) (m n : ℕ) → up_to_eleven m ≡ up_to_eleven n → up_to_eleven (more b m) ≡ up_to_eleven (more b n)
eleven_more true m n h = one_more m n h
eleven_more false m n h = h

-- what isn't above a bound with one more isn't without
below_more : (b : Bool) (j m : ℕ) → nat_lt j (more b m) ≡ false → nat_lt j m ≡ false
below_more true j m h = by (nat_lt j m) refl
  where
    by : (x : Bool) → nat_lt j m ≡ x → x ≡ false
    by true e = absurd (grind (arith, nat_tests, e, h))
    by false e = refl
below_more false j m h = h

module _ (cells : List StoreCell) (b c : List Event) (d e : Event) (h : deed d.kind ≡ deed e.kind) where
  since_stays : (p q k : ℕ) → p ≤ length b → q ≤ length c → SameSince cells b c p q k → SameSince cells (b ++ d ∷ []) (c ++ e ∷ []) p q k
  since_stays p q k le lf s =
      let one = times_more k p b d le in
      let other = times_more k q c e lf in
      let w = same_writes_to d.kind e.kind k h in
      record {
        times = ap up_to_eleven one ∙ eleven_more (writes_to d.kind k) (times_written k p b) (times_written k q c) s.times ∙ ap (λ x. up_to_eleven (more x (times_written k q c))) w ∙ sym (ap up_to_eleven other);
        value = λ f. ap (λ u. u k) (after_front (opening cells) b (d ∷ []) p le)
            ∙ s.value (below_more (writes_to d.kind k) most_older (times_written k p b) (sym (ap (nat_lt most_older) one) ∙ f))
            ∙ sym (ap (λ u. u k) (after_front (opening cells) c (e ∷ []) q lf));
      }

  pub point_stays : (p q : ℕ) → SamePoint cells b c p q → SamePoint cells (b ++ d ∷ []) (c ++ e ∷ []) p q
  point_stays p q s = record {
    in_first = longer p b d s.in_first;
    in_other = longer q c e s.in_other;
    refs = λ r i. since_stays p q r.number s.in_first s.in_other (s.refs r i);
  }

  pub view_stays : (p q : ℕ) → SameView cells b c p q → SameView cells (b ++ d ∷ []) (c ++ e ∷ []) p q
  view_stays p q s = record {
    in_first = longer p b d s.in_first;
    in_other = longer q c e s.in_other;
    refs = λ r i. written_more r.number p b d s.in_first ∙ ap (λ x. x || writes_to d.kind r.number) (s.refs r i) ∙ ap (λ x. written r.number q c || x) (same_writes_to d.kind e.kind r.number h) ∙ sym (written_more r.number q c e s.in_other);
  }

  pub swap_stays : (p q : ℕ) → SameSwap b c p q → SameSwap (b ++ d ∷ []) (c ++ e ∷ []) p q
  swap_stays p q s = record {
    in_first = longer p b d s.in_first;
    in_other = longer q c e s.in_other;
    since = swapped_more p b d s.in_first ∙ ap (λ x. x || is_swap d.kind) s.since ∙ ap (λ x. swapped_since q c || x) (same_is_swap d.kind e.kind h) ∙ sym (swapped_more q c e s.in_other);
  }

  pub newest_stays : (k : ℕ) → newest (opening cells) b k ≡ newest (opening cells) c k → newest (opening cells) (b ++ d ∷ []) k ≡ newest (opening cells) (c ++ e ∷ []) k
  newest_stays k s =
      ap (λ u. u k) (after_last (opening cells) b d)
      ∙ ap (value_or (buffered (writes_of d.kind) k)) s
      ∙ ap (λ ws. value_or (buffered ws k) (newest (opening cells) c k)) (same_writes d.kind e.kind h)
      ∙ sym (ap (λ u. u k) (after_last (opening cells) c e))

  pub mail_stays : (k : ℕ) → SameMail (mail_after cells b k) (mail_after cells c k) → SameMail (mail_after cells (b ++ d ∷ []) k) (mail_after cells (c ++ e ∷ []) k)
  mail_stays k s =
      let goes = goes_on (nth cells k) in
      let one = mail_last goes k no_mail b d in
      let other = mail_last goes k no_mail c e in
      let m = mail_after cells b k in
      let n = mail_after cells c k in
      let same : mail_changed goes k d.kind n ≡ mail_changed goes k e.kind n = sym (deed_mail goes k d.kind n) ∙ ap (λ x. mail_changed goes k x n) h ∙ deed_mail goes k e.kind n in
      let r = both_changed goes k d.kind m n s in
      record {
        actions = ap (λ x. x.actions) one ∙ r.actions ∙ ap (λ x. x.actions) same ∙ sym (ap (λ x. x.actions) other);
        fault = ap (λ x. x.fault) one ∙ r.fault ∙ ap (λ x. x.fault) same ∙ sym (ap (λ x. x.fault) other);
      }

  pub atom_stays : (v : Value) → atom_after v b (length b) ≡ atom_after v c (length c) → atom_after v (b ++ d ∷ []) (length (b ++ d ∷ [])) ≡ atom_after v (c ++ e ∷ []) (length (c ++ e ∷ []))
  atom_stays v s = atom_last v b d ∙ ap (value_or (swapped_to d.kind)) s ∙ ap (λ o. value_or o (atom_after v c (length c))) (same_swapped d.kind e.kind h) ∙ sym (atom_last v c e)

-- ---- places at the books' ends

pub point_begins : (cells : List StoreCell) (b c : List Event) → ((r : CellId) → has_ref cells r ≡ true → newest (opening cells) b r.number ≡ newest (opening cells) c r.number) → SamePoint cells b c (length b) (length c)
point_begins cells b c h = record {
  in_first = omega arith;
  in_other = omega arith;
  refs = λ r i. record {
    times = ap up_to_eleven (times_end r.number (length b) b (omega arith) ∙ sym (times_end r.number (length c) c (omega arith)));
    value = λ f. h r i;
  };
}

pub view_begins : (cells : List StoreCell) (b c : List Event) → SameView cells b c (length b) (length c)
view_begins cells b c = record {
  in_first = omega arith;
  in_other = omega arith;
  refs = λ r i. written_end r.number (length b) b (omega arith) ∙ sym (written_end r.number (length c) c (omega arith));
}

pub swap_begins : (b c : List Event) → SameSwap b c (length b) (length c)
swap_begins b c = record { in_first = omega arith; in_other = omega arith; since = swapped_end (length b) b (omega arith) ∙ sym (swapped_end (length c) c (omega arith)) }
