-- What is known of agents at earlier indexes, behind one more event.
use Rattle.std.proofs.Common.{◌≡◌, ◌≤◌, ◌<◌, ℕ, zero, suc, Bool, true, false, ◌&&◌, ◌==◌, nat_le, List, [], ◌∷◌, ◌++◌, length, take, drop, Option, Some, None, Result, Ok, Err, refl, sym, ap, ◌∙◌, subst, arith, append-nil, append_assoc, length-append, if◌then◌else◌}
use Rattle.std.proofs.lemmas.Bool.{false≢true, le-leb, lt-leb, leb-true, leb-false}
use Rattle.std.proofs.lemmas.List.{drop-append-le, take_all, take-append-le}
use Rattle.txs_value_data.specs.Places.{nth}
use Rattle.txs_value_data.specs.declared.fault.Fault.{Fault}
use Rattle.txs_value_cell.specs.declared.action.Action.{Action}
use Rattle.txs_value_data.specs.declared.value.Value.{Value}
use Rattle.txs_world_book.specs.Book.{Mail, goes_on, is_there, mail_after, mail_from, no_mail, sent_to}
use Rattle.txs_world_book.specs.Served.{event_of}
use Rattle.txs_world_book.specs.declared.cell.StoreCell.{StoreCell}
use Rattle.txs_world_book.proofs.Growth.{mail_last}
use Rattle.txs_world_protocol.specs.declared.event.Event.{Event}
use Rattle.txs_world_protocol.specs.declared.event.EventKind.{EventKind}
use Rattle.txs_world_protocol.specs.declared.event.EventKind.TheVariants.{Read, Commit, Retry, Fail, Refused, Send, SendRefused, Act, Swap, Broke}
use Rattle.txs_audit_book.specs.Gone.{PlainInbox, IsInbox, IsPast, Queued, no_inbox}
use Rattle.txs_theorem_audit.specs.Verdict.{is_legal_kind}
use Rattle.txs_audit_book.specs.Moves.{acted_in, entered, inbox_changed}
use Rattle.txs_audit_book.proofs.Mailing.{act_stands, equal, inbox_more}

-- more is sent, and what was sent stays
record Grows (b c : PlainInbox) : Type 0 where
  more : List Action
  sent : c.sent ≡ b.sent ++ more

same_grows : (b : PlainInbox) → Grows b b
same_grows b = record { more = []; sent = sym (append-nil b.sent) }

acted_grows : (goes : Bool) (n : ℕ) (new : Result Value Fault) (b : PlainInbox) → Grows b (acted_in goes n new b)
acted_grows goes n (Ok v) b = record { more = []; sent = sym (append-nil b.sent) }
acted_grows true n (Err f) b = record { more = []; sent = sym (append-nil b.sent) }
acted_grows false n (Err f) b = record { more = []; sent = sym (append-nil b.sent) }

entered_grows : (b c : PlainInbox) (xs : List Action) → Grows b c → Grows b (entered xs c)
entered_grows b c xs g = record { more = g.more ++ xs; sent = ap (λ l. l ++ xs) g.sent ∙ append_assoc b.sent g.more xs }

grows : (goes : Bool) (k n : ℕ) (d : EventKind) (b : PlainInbox) → Grows b (inbox_changed goes k n d b)
grows goes k n (Read c) b = same_grows b
grows goes k n (Commit at view ws sends) b = record { more = sent_to k sends; sent = refl }
grows goes k n (Retry since c cause) b = same_grows b
grows goes k n (Fail at view) b = same_grows b
grows goes k n (Refused at view g) b = same_grows b
grows goes k n (Send x) b = record { more = sent_to k (x ∷ []); sent = refl }
grows goes k n (SendRefused g) b = same_grows b
grows goes k n (Act g number new sends) b = entered_grows b (if g.number == k then acted_in goes n new b else b) (sent_to k sends) (go (g.number == k))
  where
    go : (t : Bool) → Grows b (if t then acted_in goes n new b else b)
    go true = acted_grows goes n new b
    go false = same_grows b
grows goes k n (Swap new) b = same_grows b
grows goes k n (Broke at) b = same_grows b

queued_grows : (m : Mail) (b c : PlainInbox) → Grows b c → Queued m b → Queued m c
queued_grows m b c g q = record {
  enough = (let l = ap length g.sent in let n = length-append b.sent g.more in let e = q.enough in omega (arith, l, n, e));
  rest = q.rest ++ g.more;
  queue = ap (drop m.acts) g.sent ∙ drop-append-le m.acts b.sent g.more q.enough ∙ ap (λ l. l ++ g.more) q.queue ∙ append_assoc m.actions q.rest g.more;
}

-- ---- the fault

-- an inbox keeps its fault, or gets one at this event where it had none
data Keeps (n : ℕ) (b c : PlainInbox) : Type 0 where
  kept : (fault : c.fault ≡ b.fault) (failed : c.failed ≡ b.failed) → Keeps n b c
  got : (none : b.fault ≡ None) (failed : c.failed ≡ n) → Keeps n b c

no_fault : (o : Option Fault) → is_there o ≡ false → o ≡ None
no_fault None e = refl
no_fault (Some f) e = absurd (false≢true (sym e))

acted_keeps : (goes : Bool) (n : ℕ) (new : Result Value Fault) (b : PlainInbox) → b.fault ≡ None → Keeps n b (acted_in goes n new b)
acted_keeps goes n (Ok v) b e = kept refl refl
acted_keeps true n (Err f) b e = kept refl refl
acted_keeps false n (Err f) b e = got e refl

entered_keeps : (n : ℕ) (b c : PlainInbox) (xs : List Action) → Keeps n b c → Keeps n b (entered xs c)
entered_keeps n b c xs (kept f g) = kept f g
entered_keeps n b c xs (got f g) = got f g

keeps : (cells : List StoreCell) (done : List Event) (a k n : ℕ) (d : EventKind) (b : PlainInbox) → is_legal_kind cells done a d ≡ true → IsInbox (mail_after cells done k) b → Keeps n b (inbox_changed (goes_on (nth cells k)) k n d b)
keeps cells done a k n (Read c) b l h = kept refl refl
keeps cells done a k n (Commit at view ws sends) b l h = kept refl refl
keeps cells done a k n (Retry since c cause) b l h = kept refl refl
keeps cells done a k n (Fail at view) b l h = kept refl refl
keeps cells done a k n (Refused at view g) b l h = kept refl refl
keeps cells done a k n (Send x) b l h = kept refl refl
keeps cells done a k n (SendRefused g) b l h = kept refl refl
keeps cells done a k n (Act g number new sends) b l h = entered_keeps n b (if g.number == k then acted_in (goes_on (nth cells k)) n new b else b) (sent_to k sends) (go (g.number == k) refl)
  where
    go : (t : Bool) → (g.number == k) ≡ t → Keeps n b (if t then acted_in (goes_on (nth cells k)) n new b else b)
    go true e =
        let runs : is_there (mail_after cells done k).fault ≡ false = subst (λ j. is_there (mail_after cells done j).fault ≡ false) (equal g.number k e) (act_stands cells done a g number new sends l).runs in
        acted_keeps (goes_on (nth cells k)) n new b (h.fault ∙ no_fault (mail_after cells done k).fault runs)
    go false e = kept refl refl
keeps cells done a k n (Swap new) b l h = absurd (false≢true l)
keeps cells done a k n (Broke at) b l h = absurd (false≢true l)

earlier : (n j : ℕ) (b c : PlainInbox) → j < n → Keeps n b c → (is_there b.fault && nat_le b.failed j) ≡ (is_there c.fault && nat_le c.failed j)
earlier n j b c lt (kept f g) = sym (ap (λ o. is_there o && nat_le c.failed j) f ∙ ap (λ i. is_there b.fault && nat_le i j) g)
earlier n j b c lt (got none g) = ap (λ o. is_there o && nat_le b.failed j) none ∙ sym (ap (λ t. is_there c.fault && t) (ap (λ i. nat_le i j) g ∙ lt-leb n j lt) ∙ and_none (is_there c.fault))
  where
    and_none : (t : Bool) → (t && false) ≡ false
    and_none true = refl
    and_none false = refl

bounded : (n : ℕ) (b c : PlainInbox) (most : ℕ) → most ≤ n → (is_there b.fault ≡ true → b.failed ≤ most) → Keeps n b c → is_there c.fault ≡ true → c.failed ≤ n
bounded n b c most le h (kept f g) e = (let r = h (ap is_there (sym f) ∙ e) in omega (arith, r, g, le))
bounded n b c most le h (got none g) e = omega (arith, g)

-- ---- one more event

pub past_more : (cells : List StoreCell) (done : List Event) (a k : ℕ) (d : EventKind) (b : PlainInbox) → is_legal_kind cells done a d ≡ true → IsInbox (mail_after cells done k) b → IsPast (goes_on (nth cells k)) k done b
    → IsPast (goes_on (nth cells k)) k (done ++ event_of a d ∷ []) (inbox_changed (goes_on (nth cells k)) k (suc (length done)) d b)
past_more cells done a k d b l h p = record {
  bound = λ e. (let r = bounded (suc (length done)) b c (length done) (omega arith) p.bound keep e in omega (arith, r, longer));
  failed = λ j le. failed j le (nat_le j (length done)) refl;
  queued = λ j le. queued j le (nat_le j (length done)) refl;
}
  where
    e : Event
    e = event_of a d

    goes : Bool
    goes = goes_on (nth cells k)

    c : PlainInbox
    c = inbox_changed (goes_on (nth cells k)) k (suc (length done)) d b

    keep : Keeps (suc (length done)) b (inbox_changed (goes_on (nth cells k)) k (suc (length done)) d b)
    keep = keeps cells done a k (suc (length done)) d b l h

    longer : length (done ++ event_of a d ∷ []) ≡ suc (length done)
    longer = length-append done (event_of a d ∷ []) ∙ omega arith

    front : (j : ℕ) → j ≤ length done → take j (done ++ event_of a d ∷ []) ≡ take j done
    front j le = take-append-le j done (event_of a d ∷ []) le

    whole : (j : ℕ) → length done < j → take j (done ++ event_of a d ∷ []) ≡ done ++ event_of a d ∷ []
    whole j lt = take_all j (done ++ event_of a d ∷ []) (omega (arith, lt, longer))

    now : IsInbox (mail_from (goes_on (nth cells k)) k no_mail (done ++ event_of a d ∷ [])) (inbox_changed (goes_on (nth cells k)) k (suc (length done)) d b)
    now = subst (λ m. IsInbox m (inbox_changed (goes_on (nth cells k)) k (suc (length done)) d b)) (sym (mail_last (goes_on (nth cells k)) k no_mail done (event_of a d))) (inbox_more cells done a k (suc (length done)) d b l h)

    there : (o : Option Fault) (i j : ℕ) → (is_there o ≡ true → i ≤ j) → is_there o ≡ (is_there o && nat_le i j)
    there None i j g = refl
    there (Some f) i j g = sym (le-leb i j (g refl))

    failed : (j : ℕ) → j ≤ length (done ++ event_of a d ∷ []) → (t : Bool) → nat_le j (length done) ≡ t
        → is_there (mail_from (goes_on (nth cells k)) k no_mail (take j (done ++ event_of a d ∷ []))).fault ≡ (is_there (inbox_changed (goes_on (nth cells k)) k (suc (length done)) d b).fault && nat_le (inbox_changed (goes_on (nth cells k)) k (suc (length done)) d b).failed j)
    failed j le true q =
        let small = leb-true j (length done) q in
        ap (λ es. is_there (mail_from (goes_on (nth cells k)) k no_mail es).fault) (front j small) ∙ p.failed j small
        ∙ earlier (suc (length done)) j b (inbox_changed (goes_on (nth cells k)) k (suc (length done)) d b) (omega (arith, small)) keep
    failed j le false q =
        let lt = leb-false j (length done) q in
        ap (λ es. is_there (mail_from (goes_on (nth cells k)) k no_mail es).fault) (whole j lt) ∙ sym (ap is_there now.fault)
        ∙ there (inbox_changed (goes_on (nth cells k)) k (suc (length done)) d b).fault (inbox_changed (goes_on (nth cells k)) k (suc (length done)) d b).failed j
        (λ x. (let r = bounded (suc (length done)) b (inbox_changed (goes_on (nth cells k)) k (suc (length done)) d b) (length done) (omega arith) p.bound keep x in omega (arith, r, lt)))

    queued : (j : ℕ) → j ≤ length (done ++ event_of a d ∷ []) → (t : Bool) → nat_le j (length done) ≡ t
        → Queued (mail_from (goes_on (nth cells k)) k no_mail (take j (done ++ event_of a d ∷ []))) (inbox_changed (goes_on (nth cells k)) k (suc (length done)) d b)
    queued j le true q =
        let small = leb-true j (length done) q in
        subst (λ es. Queued (mail_from (goes_on (nth cells k)) k no_mail es) (inbox_changed (goes_on (nth cells k)) k (suc (length done)) d b)) (sym (front j small))
        (queued_grows (mail_from (goes_on (nth cells k)) k no_mail (take j done)) b (inbox_changed (goes_on (nth cells k)) k (suc (length done)) d b) (grows (goes_on (nth cells k)) k (suc (length done)) d b) (p.queued j small))
    queued j le false q =
        let lt = leb-false j (length done) q in
        subst (λ es. Queued (mail_from (goes_on (nth cells k)) k no_mail es) (inbox_changed (goes_on (nth cells k)) k (suc (length done)) d b)) (sym (whole j lt))
        (record {
          enough = subst (λ i. i ≤ length (inbox_changed (goes_on (nth cells k)) k (suc (length done)) d b).sent) now.acts now.enough;
          rest = [];
          queue = ap (λ i. drop i (inbox_changed (goes_on (nth cells k)) k (suc (length done)) d b).sent) (sym now.acts) ∙ now.queue ∙ sym (append-nil (mail_from (goes_on (nth cells k)) k no_mail (done ++ event_of a d ∷ [])).actions);
        })

pub past_open : (goes : Bool) (k : ℕ) → IsPast goes k [] no_inbox
past_open goes k = record { bound = λ e. absurd (false≢true e); failed = failed; queued = queued }
  where
    failed : (j : ℕ) → j ≤ 0 → is_there (mail_from goes k no_mail (take j [])).fault ≡ false
    failed zero le = refl
    failed (suc j) le = absurd (omega (arith, le))

    queued : (j : ℕ) → j ≤ 0 → Queued (mail_from goes k no_mail (take j [])) no_inbox
    queued zero le = record { enough = omega arith; rest = []; queue = refl }
    queued (suc j) le = absurd (omega (arith, le))
