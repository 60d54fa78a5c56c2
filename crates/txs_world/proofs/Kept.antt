-- The store's parts agree from its opening on, and after each event.
use Rattle.std.proofs.Common.{◌≡◌, ◌≢◌, ◌<◌, ℕ, zero, suc, Bool, true, false, ◌&&◌, ◌==◌, nat_lt, nat_le, List, [], ◌∷◌, ◌++◌, length, get_or, set, Option, Some, None, Result, Ok, Err, refl, ap, subst, sym, ◌∙◌, arith, if◌then◌else◌}
use Rattle.std.proofs.lemmas.Bool.{ltb-true, false≢true}
use Rattle.std.proofs.lemmas.Bool.Decides.{nat_tests}
use Rattle.std.proofs.lemmas.List.{get_or-set_same, get_or-set_other, length-set}
use Rattle.txs_world_protocol.specs.Ask.{Writes, buffered}
use Rattle.txs_world.specs.Mailbox.{IsMailbox}
use Rattle.txs_value_cell.specs.Cells.{World}
use Rattle.txs_value_cell.specs.Forms.{same_kind}
use Rattle.txs_value_data.specs.Places.{nth}
use Rattle.txs_world_protocol.specs.declared.event.Event.{Event}
use Rattle.txs_world_protocol.specs.declared.event.EventKind.{EventKind}
use Rattle.txs_world_protocol.specs.declared.event.EventKind.TheVariants.{Read, Commit, Retry, Fail, Refused, Send, SendRefused, Act, Swap, Broke}
use Rattle.txs_value_cell.specs.declared.action.Action.{Action}
use Rattle.txs_value_data.specs.declared.fault.Fault.{Fault}
use Rattle.txs_value_data.specs.declared.value.CellId.{CellId}
use Rattle.txs_value_data.specs.declared.value.CellKind.TheVariants.{Ref, Agent}
use Rattle.txs_value_data.specs.declared.value.Value.{Value}
use Rattle.txs_world_book.specs.Book.{is_of_kind, goes_on, opening, are_refs, are_sends, cells_in, state_of, writes_of, is_there, counts, no_mail, Mail, waits, acted, mailed, sent_to, mail_after, mail_changed, has_cell, has_ref, has_agent, makes, LegalKind, Guarded}
use Rattle.txs_value_data.specs.Limits.{most_events}
use Rattle.txs_world.specs.Inboxes.{PlainInbox, no_inbox, open_inboxes, inbox_of, mailed_all, all_sent_below, finished, fault_of, taken_up}
use Rattle.txs_world.specs.Kept.{version, slot_of, no_slot, IsSlot, open_slots, put_version, put_one, put_all, all_below, IsInbox, ChangesNothing, IsKept}
use Rattle.txs_world.specs.Places.{Ascend}
use Rattle.txs_world_book.specs.Stands.{StandsAt, Marked, StandAsBefore}
use Rattle.txs_world_book.specs.Served.{event_of}
use Rattle.txs_world_book.specs.declared.cell.StoreCell.{StoreCell}
use Rattle.txs_world.specs.declared.slot.Slot.{Slot}
use Rattle.txs_world_book.proofs.Growth.{mail_last}
use Rattle.txs_world.proofs.Mailing.{equal, unequal, mailed_many, mailed_at, is_inbox, inbox_entered, inbox_taken, inbox_finished, no_fault, failed_is}
use Rattle.txs_world_book.proofs.Outcomes.{both}
use Rattle.txs_world_book.proofs.Standing.{actor_more}
use Rattle.txs_world.proofs.Serves.{keeps}
use Rattle.txs_world.proofs.Versions.{slot_same, slot_put}
use Rattle.txs_world.proofs.Zipping.{ascend_refs}

-- ---- the opening

slots_many : (cells : List StoreCell) → length (open_slots cells) ≡ length cells
slots_many [] = refl
slots_many (c ∷ cs) = ap suc (slots_many cs)

slots_open : (cells : List StoreCell) (k : ℕ) → get_or (open_slots cells) k no_slot ≡ slot_of (version (opening cells k) 0 ∷ [])
slots_open [] k = refl
slots_open (c ∷ cs) zero = refl
slots_open (c ∷ cs) (suc k) = slots_open cs k

inboxes_many : (cells : List StoreCell) → length (open_inboxes cells) ≡ length cells
inboxes_many [] = refl
inboxes_many (c ∷ cs) = ap suc (inboxes_many cs)

inboxes_open : (cells : List StoreCell) (k : ℕ) → get_or (open_inboxes cells) k no_inbox ≡ inbox_of (goes_on (nth cells k)) false no_mail
inboxes_open [] k = refl
inboxes_open (c ∷ cs) zero = refl
inboxes_open (c ∷ cs) (suc k) = inboxes_open cs k

opening_kept : (cells : List StoreCell) (threads : ℕ) → IsKept cells threads (open_slots cells) (open_inboxes cells) [] [] []
opening_kept cells threads =
    record {
      many = slots_many cells;
      as_many = inboxes_many cells;
      values = λ k lt. subst (λ s. IsSlot (opening cells) [] k s) (sym (slots_open cells k)) (record { is = refl });
      mail = λ k lt. subst (λ b. IsInbox (goes_on (nth cells k)) no_mail b) (sym (inboxes_open cells k)) refl;
      all = λ a. record { stands = λ p h. refl; passed = λ p h. absurd (omega (arith, h)) };
      some = λ a. record { stands = λ p h. refl; passed = λ p h. absurd (omega (arith, h)) };
      legal = record { few = omega arith; made = tt; each = tt };
      undisturbed = tt;
    }

pub opened_kept : (cells : List StoreCell) (threads : ℕ) (slots : List Slot) (inboxes : List PlainInbox) (views tries : List ℕ) (book : List Event) → slots ≡ open_slots cells → inboxes ≡ open_inboxes cells → views ≡ [] → tries ≡ [] → book ≡ [] → IsKept cells threads slots inboxes views tries book
opened_kept cells threads slots inboxes views tries book is boxes no_views no_tries empty =
    subst (λ u. IsKept cells threads u inboxes views tries book) (sym is)
    (subst (λ u. IsKept cells threads (open_slots cells) u views tries book) (sym boxes)
    (subst (λ u. IsKept cells threads (open_slots cells) (open_inboxes cells) u tries book) (sym no_views)
    (subst (λ u. IsKept cells threads (open_slots cells) (open_inboxes cells) [] u book) (sym no_tries)
    (subst (IsKept cells threads (open_slots cells) (open_inboxes cells) [] []) (sym empty) (opening_kept cells threads)))))

-- ---- one more event

-- the slot of a cell after an event
abbrev pub put_in : Option Value → ℕ → Slot → Slot
put_in None n s = s
put_in (Some v) n s = put_version v n s

slot_more : (w : World) (es : List Event) (e : Event) (k : ℕ) (s : Slot) → IsSlot w es k s → IsSlot w (es ++ e ∷ []) k (put_in (buffered (writes_of e.kind) k) (suc (length es)) s)
slot_more w es e k s h = go (buffered (writes_of e.kind) k) refl
  where
    go : (o : Option Value) → buffered (writes_of e.kind) k ≡ o → IsSlot w (es ++ e ∷ []) k (put_in o (suc (length es)) s)
    go None q = slot_same w es e k s q h
    go (Some v) q = slot_put w es e k v s q h

-- an inbox after an event
abbrev pub InboxMoves : List StoreCell → List PlainInbox → List PlainInbox → List Event → EventKind → Type 0
InboxMoves cells old new book d =
    (k : ℕ) → k < length old → IsInbox (goes_on (nth cells k)) (mail_after cells book k) (get_or old k no_inbox) → IsInbox (goes_on (nth cells k)) (mail_changed (goes_on (nth cells k)) k d (mail_after cells book k)) (get_or new k no_inbox)

-- a slot after an event
abbrev pub SlotsMove : List Slot → List Slot → List Event → EventKind → Type 0
SlotsMove old new book d = (k : ℕ) → k < length old → get_or new k no_slot ≡ put_in (buffered (writes_of d) k) (suc (length book)) (get_or old k no_slot)

pub kept_more : (cells : List StoreCell) (threads : ℕ) (slots now : List Slot) (inboxes boxes : List PlainInbox) (views tries vs ts : List ℕ) (book more : List Event) (a : ℕ) (d : EventKind)
    → IsKept cells threads slots inboxes views tries book → length book < most_events → makes cells threads a d ≡ true → LegalKind cells book a d → Guarded book d
    → length now ≡ length slots → SlotsMove slots now book d → length boxes ≡ length inboxes → InboxMoves cells inboxes boxes book d
    → Marked true a (suc (length book)) views vs → Marked (counts false d) a (suc (length book)) tries ts → more ≡ book ++ event_of a d ∷ []
    → IsKept cells threads now boxes vs ts more
kept_more cells threads slots now inboxes boxes views tries vs ts book more a d h lt by l g size slots_are boxes_size boxes_are all some is =
    let k2 = keeps cells threads book a d (h.legal, h.undisturbed) lt by l g in
    subst (IsKept cells threads now boxes vs ts) (sym is) (record {
      many = size ∙ h.many;
      as_many = boxes_size ∙ h.as_many;
      values = λ k in_now. let in_slots : k < length slots = omega (arith, in_now, size) in
          subst (λ s. IsSlot (opening cells) (book ++ event_of a d ∷ []) k s) (sym (slots_are k in_slots)) (slot_more (opening cells) book (event_of a d) k (get_or slots k no_slot) (h.values k in_slots));
      mail = λ k in_now. let in_boxes : k < length inboxes = omega (arith, in_now, boxes_size) in
          subst (λ m. IsInbox (goes_on (nth cells k)) m (get_or boxes k no_inbox)) (sym (mail_last (goes_on (nth cells k)) k no_mail book (event_of a d))) (boxes_are k in_boxes (h.mail k in_boxes));
      all = λ b. actor_more true views vs book a d b all (h.all b);
      some = λ b. actor_more false tries ts book a d b some (h.some b);
      legal = k2.0;
      undisturbed = k2.1;
    })

-- an event that changes nothing leaves slots and inboxes as they are
quiet_slots : (slots : List Slot) (book : List Event) (d : EventKind) → ChangesNothing d → SlotsMove slots slots book d
quiet_slots slots book (Read c) q k lt = refl
quiet_slots slots book (Commit at view ws sends) q k lt = absurd q
quiet_slots slots book (Retry since c cause) q k lt = refl
quiet_slots slots book (Fail at view) q k lt = refl
quiet_slots slots book (Refused at view g) q k lt = refl
quiet_slots slots book (Send x) q k lt = absurd q
quiet_slots slots book (SendRefused g) q k lt = refl
quiet_slots slots book (Act g n new sends) q k lt = absurd q
quiet_slots slots book (Swap new) q k lt = absurd q
quiet_slots slots book (Broke at) q k lt = absurd q

quiet_inboxes : (cells : List StoreCell) (boxes : List PlainInbox) (book : List Event) (d : EventKind) → ChangesNothing d → InboxMoves cells boxes boxes book d
quiet_inboxes cells boxes book (Read c) q k lt h = h
quiet_inboxes cells boxes book (Commit at view ws sends) q k lt h = absurd q
quiet_inboxes cells boxes book (Retry since c cause) q k lt h = h
quiet_inboxes cells boxes book (Fail at view) q k lt h = h
quiet_inboxes cells boxes book (Refused at view g) q k lt h = h
quiet_inboxes cells boxes book (Send x) q k lt h = absurd q
quiet_inboxes cells boxes book (SendRefused g) q k lt h = h
quiet_inboxes cells boxes book (Act g n new sends) q k lt h = absurd q
quiet_inboxes cells boxes book (Swap new) q k lt h = absurd q
quiet_inboxes cells boxes book (Broke at) q k lt h = absurd q

quiet_guarded : (book : List Event) (d : EventKind) → ChangesNothing d → Guarded book d
quiet_guarded book (Read c) q = tt
quiet_guarded book (Commit at view ws sends) q = absurd q
quiet_guarded book (Retry since c cause) q = tt
quiet_guarded book (Fail at view) q = tt
quiet_guarded book (Refused at view g) q = tt
quiet_guarded book (Send x) q = tt
quiet_guarded book (SendRefused g) q = tt
quiet_guarded book (Act g n new sends) q = tt
quiet_guarded book (Swap new) q = tt
quiet_guarded book (Broke at) q = tt

pub kept_quiet : (cells : List StoreCell) (threads : ℕ) (slots : List Slot) (inboxes : List PlainInbox) (views tries vs ts : List ℕ) (book more : List Event) (a : ℕ) (d : EventKind)
    → IsKept cells threads slots inboxes views tries book → length book < most_events → makes cells threads a d ≡ true → LegalKind cells book a d → ChangesNothing d
    → Marked true a (suc (length book)) views vs → Marked (counts false d) a (suc (length book)) tries ts → more ≡ book ++ event_of a d ∷ []
    → IsKept cells threads slots inboxes vs ts more
kept_quiet cells threads slots inboxes views tries vs ts book more a d h lt by l q all some is =
    kept_more cells threads slots slots inboxes inboxes views tries vs ts book more a d h lt by l (quiet_guarded book d q) refl (quiet_slots slots book d q) refl (quiet_inboxes cells inboxes book d q) all some is

-- only where each actor stands matters
pub same_stands : (cells : List StoreCell) (threads : ℕ) (slots : List Slot) (inboxes boxes : List PlainInbox) (views tries vs ts : List ℕ) (book more : List Event) → boxes ≡ inboxes → StandAsBefore views vs → StandAsBefore tries ts → more ≡ book
    → IsKept cells threads slots inboxes views tries book → IsKept cells threads slots boxes vs ts more
same_stands cells threads slots inboxes boxes views tries vs ts book more boxes_are all some is h =
    subst (IsKept cells threads slots boxes vs ts) (sym is) (subst (λ b. IsKept cells threads slots b vs ts book) (sym boxes_are) (record {
      many = h.many;
      as_many = h.as_many;
      values = h.values;
      mail = h.mail;
      all = λ a. subst (StandsAt true book a) (sym (all a)) (h.all a);
      some = λ a. subst (StandsAt false book a) (sym (some a)) (h.some a);
      legal = h.legal;
      undisturbed = h.undisturbed;
    }))

-- ---- what an event wrote

pub put_many : (n : ℕ) (slots : List Slot) (ws : Writes) → length (put_all n slots ws) ≡ length slots
put_many n slots [] = refl
put_many n slots (w ∷ ws) = length-set (put_all n slots ws) w.0.number (put_version w.1 n (get_or (put_all n slots ws) w.0.number no_slot)) ∙ put_many n slots ws

-- a cell whose number is below those that are written isn't written
unset_below : (k n : ℕ) (ws : Writes) → k < n → Ascend n ws → buffered ws k ≡ None
unset_below k n [] lt h = refl
unset_below k n (w ∷ ws) lt h =
    let le = h.0 in
    let off : (w.0.number == k) ≡ false = other w.0.number k (omega (arith, lt, le)) in
    ap (λ b. if b then Some w.1 else buffered ws k) off ∙ unset_below k (suc w.0.number) ws (omega (arith, lt, le)) h.1
  where
    other : (i j : ℕ) → j < i → (i == j) ≡ false
    other i j less = grind (arith, nat_tests, less)

pub put_moves : (n m : ℕ) (slots : List Slot) (ws : Writes) → Ascend m ws → (k : ℕ) → k < length slots → get_or (put_all n slots ws) k no_slot ≡ put_in (buffered ws k) n (get_or slots k no_slot)
put_moves n m slots [] h k lt = refl
put_moves n m slots (w ∷ ws) h k lt = go (put_moves n (suc w.0.number) slots ws h.1 k lt) (w.0.number == k) refl
  where
    old : Slot
    old = get_or (put_all n slots ws) w.0.number no_slot

    go : get_or (put_all n slots ws) k no_slot ≡ put_in (buffered ws k) n (get_or slots k no_slot) → (t : Bool) → (w.0.number == k) ≡ t
        → get_or (set (put_all n slots ws) w.0.number (put_version w.1 n old)) k no_slot ≡ put_in (if t then Some w.1 else buffered ws k) n (get_or slots k no_slot)
    go r true e =
        let same = equal w.0.number k e in
        let in_now : w.0.number < length (put_all n slots ws) = omega (arith, put_many n slots ws, same, lt) in
        let none : buffered ws k ≡ None = unset_below k (suc w.0.number) ws (omega (arith, same)) h.1 in
        ap (λ i. get_or (set (put_all n slots ws) w.0.number (put_version w.1 n old)) i no_slot) (sym same) ∙ get_or-set_same (put_all n slots ws) w.0.number (put_version w.1 n old) no_slot in_now
        ∙ ap (λ i. put_version w.1 n (get_or (put_all n slots ws) i no_slot)) same ∙ ap (put_version w.1 n) (r ∙ ap (λ o. put_in o n (get_or slots k no_slot)) none)
    go r false e = let off : k ≢ w.0.number = λ q. unequal w.0.number k e (sym q) in get_or-set_other (put_all n slots ws) w.0.number k (put_version w.1 n old) no_slot off ∙ r

-- the last one put first
pub put_back : (n : ℕ) (slots : List Slot) (ws : Writes) (w : CellId × Value) → put_all n slots (ws ++ w ∷ []) ≡ put_all n (put_one n slots w) ws
put_back n slots [] w = refl
put_back n slots (x ∷ ws) w = ap (λ l. put_one n l x) (put_back n slots ws w)

pub below_back : (n : ℕ) (ws : Writes) (w : CellId × Value) → all_below n (ws ++ w ∷ []) ≡ true → (w.0.number < n) × (all_below n ws ≡ true)
below_back n [] w h = (ltb-true w.0.number n (both (nat_lt w.0.number n) true h).0, refl)
below_back n (x ∷ ws) w h =
    let m = both (nat_lt x.0.number n) (all_below n (ws ++ w ∷ [])) h in
    let r = below_back n ws w m.1 in
    (r.0, ap (λ t. t && all_below n ws) m.0 ∙ r.1)

-- ---- commits, sends and actions

below : (k n : ℕ) → k < n → nat_lt k n ≡ true
below k n lt = grind (arith, nat_tests)

-- a cell of the store has its number below theirs
pub cell_in : (cells : List StoreCell) (c : CellId) → has_cell cells c ≡ true → c.number < length cells
cell_in cells c h = go cells c.number h
  where
    go : (cs : List StoreCell) (k : ℕ) → is_of_kind c.kind (nth cs k) ≡ true → k < length cs
    go [] k e = absurd (false≢true e)
    go (d ∷ cs) zero e = omega arith
    go (d ∷ cs) (suc k) e = let r = go cs k e in omega (arith, r)

pub ref_in : (cells : List StoreCell) (c : CellId) → has_ref cells c ≡ true → c.number < length cells
ref_in cells c h = cell_in cells c (both (same_kind c.kind Ref) (has_cell cells c) h).1

pub agent_in : (cells : List StoreCell) (c : CellId) → has_agent cells c ≡ true → c.number < length cells
agent_in cells c h = cell_in cells c (both (same_kind c.kind Agent) (has_cell cells c) h).1

pub refs_below : (cells : List StoreCell) (n m : ℕ) (ws : Writes) → n ≡ length cells → are_refs cells m (cells_in ws) ≡ true → all_below n ws ≡ true
refs_below cells n m [] e h = refl
refs_below cells n m (w ∷ ws) e h =
    let a = both (has_ref cells w.0) (nat_le m w.0.number && are_refs cells (suc w.0.number) (cells_in ws)) h in
    let b = both (nat_le m w.0.number) (are_refs cells (suc w.0.number) (cells_in ws)) a.1 in
    let lt = ref_in cells w.0 a.0 in
    ap (λ t. t && all_below n ws) (below w.0.number n (omega (arith, e, lt))) ∙ refs_below cells n (suc w.0.number) ws e b.1

pub sends_below : (cells : List StoreCell) (n : ℕ) (xs : List Action) → n ≡ length cells → are_sends cells xs ≡ true → all_sent_below n xs ≡ true
sends_below cells n [] e h = refl
sends_below cells n (x ∷ xs) e h =
    let a = both (has_agent cells x.agent) (are_sends cells xs) h in
    let lt = agent_in cells x.agent a.0 in
    ap (λ t. t && all_sent_below n xs) (below x.agent.number n (omega (arith, e, lt))) ∙ sends_below cells n xs e a.1

pub state_below : (n : ℕ) (g : CellId) (new : Result Value Fault) → g.number < n → all_below n (state_of g new) ≡ true
state_below n g (Ok v) lt = ap (λ t. t && true) (below g.number n lt)
state_below n g (Err f) lt = refl

state_ascends : (g : CellId) (new : Result Value Fault) → Ascend 0 (state_of g new)
state_ascends g (Ok v) = (omega arith, tt)
state_ascends g (Err f) = tt

moves_mailed : (cells : List StoreCell) (bs : List PlainInbox) (book : List Event) (xs : List Action) (k : ℕ) → k < length bs → IsInbox (goes_on (nth cells k)) (mail_after cells book k) (get_or bs k no_inbox)
    → IsInbox (goes_on (nth cells k)) (mailed (sent_to k xs) (mail_after cells book k)) (get_or (mailed_all bs xs) k no_inbox)
moves_mailed cells bs book xs k lt h =
    subst (λ b. IsInbox (goes_on (nth cells k)) (mailed (sent_to k xs) (mail_after cells book k)) b) (sym (mailed_at bs xs k lt)) (inbox_entered (goes_on (nth cells k)) (mail_after cells book k) (get_or bs k no_inbox) (sent_to k xs) h)

-- one more commit
pub committed : (cells : List StoreCell) (threads : ℕ) (slots put : List Slot) (inboxes boxes : List PlainInbox) (views tries vs ts : List ℕ) (book more : List Event) (a n at view : ℕ) (ws : Writes) (sends : List Action)
    → IsKept cells threads slots inboxes views tries book → length book < most_events → makes cells threads a (Commit at view ws sends) ≡ true → LegalKind cells book a (Commit at view ws sends) → Guarded book (Commit at view ws sends)
    → Marked true a (suc (length book)) views vs → Marked true a (suc (length book)) tries ts → more ≡ book ++ event_of a (Commit at view ws sends) ∷ []
    → n ≡ suc (length book) → put ≡ put_all n slots ws → boxes ≡ mailed_all inboxes sends → IsKept cells threads put boxes vs ts more
committed cells threads slots put inboxes boxes views tries vs ts book more a n at view ws sends h lt by l g all some is many put_is boxes_are =
    let to : put ≡ put_all (suc (length book)) slots ws = put_is ∙ ap (λ i. put_all i slots ws) many in
    subst (λ u. IsKept cells threads u boxes vs ts more) (sym to)
    (subst (λ u. IsKept cells threads (put_all (suc (length book)) slots ws) u vs ts more) (sym boxes_are)
    (kept_more cells threads slots (put_all (suc (length book)) slots ws) inboxes (mailed_all inboxes sends) views tries vs ts book more a (Commit at view ws sends) h lt by l g
    (put_many (suc (length book)) slots ws) (put_moves (suc (length book)) 0 slots ws (ascend_refs cells 0 ws l.0)) (mailed_many inboxes sends) (λ k in_old i. moves_mailed cells inboxes book sends k in_old i) all some is))

-- one more send
pub sent : (cells : List StoreCell) (threads : ℕ) (slots : List Slot) (inboxes boxes : List PlainInbox) (views tries vs ts : List ℕ) (book more : List Event) (a : ℕ) (x : Action)
    → IsKept cells threads slots inboxes views tries book → length book < most_events → makes cells threads a (Send x) ≡ true → LegalKind cells book a (Send x)
    → Marked true a (suc (length book)) views vs → Marked true a (suc (length book)) tries ts → more ≡ book ++ event_of a (Send x) ∷ []
    → boxes ≡ mailed_all inboxes (x ∷ []) → IsKept cells threads slots boxes vs ts more
sent cells threads slots inboxes boxes views tries vs ts book more a x h lt by l all some is boxes_are =
    subst (λ u. IsKept cells threads slots u vs ts more) (sym boxes_are)
    (kept_more cells threads slots slots inboxes (mailed_all inboxes (x ∷ [])) views tries vs ts book more a (Send x) h lt by l tt
    refl (λ k lt2. refl) (mailed_many inboxes (x ∷ [])) (λ k in_old i. moves_mailed cells inboxes book (x ∷ []) k in_old i) all some is)

-- one more action that is over, with what it sends
pub acted_on : (cells : List StoreCell) (threads : ℕ) (slots put : List Slot) (inboxes boxes : List PlainInbox) (views tries vs ts : List ℕ) (book more : List Event) (a n i : ℕ) (g : CellId) (new : Result Value Fault) (sends : List Action)
    → IsKept cells threads slots inboxes views tries book → length book < most_events → makes cells threads a (Act g i new sends) ≡ true → LegalKind cells book a (Act g i new sends)
    → Marked true a (suc (length book)) views vs → Marked true a (suc (length book)) tries ts → more ≡ book ++ event_of a (Act g i new sends) ∷ []
    → n ≡ suc (length book) → put ≡ put_all n slots (state_of g new) → boxes ≡ mailed_all (set inboxes g.number (finished (fault_of new) (get_or inboxes g.number no_inbox))) sends → IsKept cells threads put boxes vs ts more
acted_on cells threads slots put inboxes boxes views tries vs ts book more a n i g new sends h lt by l all some is many put_is boxes_are =
    let to : put ≡ put_all (suc (length book)) slots (state_of g new) = put_is ∙ ap (λ j. put_all j slots (state_of g new)) many in
    subst (λ u. IsKept cells threads u boxes vs ts more) (sym to)
    (subst (λ u. IsKept cells threads (put_all (suc (length book)) slots (state_of g new)) u vs ts more) (sym boxes_are)
    (kept_more cells threads slots (put_all (suc (length book)) slots (state_of g new)) inboxes (mailed_all (set inboxes g.number over) sends) views tries vs ts book more a (Act g i new sends) h lt by l tt
    (put_many (suc (length book)) slots (state_of g new)) (put_moves (suc (length book)) 0 slots (state_of g new) (state_ascends g new)) (mailed_many (set inboxes g.number over) sends ∙ length-set inboxes g.number over)
    (λ k in_old e. sends_more k in_old (go k in_old e (g.number == k) refl)) all some is))
  where
    over : PlainInbox
    over = finished (fault_of new) (get_or inboxes g.number no_inbox)

    none : (mail_after cells book g.number).fault ≡ None
    none = no_fault (mail_after cells book g.number).fault l.1

    mail_acted : ℕ → Mail
    mail_acted k = if g.number == k then acted (goes_on (nth cells k)) new (mail_after cells book k) else mail_after cells book k

    -- what is sent enters behind what waits once the action is over
    sends_more : (k : ℕ) → k < length inboxes → IsInbox (goes_on (nth cells k)) (mail_acted k) (get_or (set inboxes g.number over) k no_inbox)
        → IsInbox (goes_on (nth cells k)) (mailed (sent_to k sends) (mail_acted k)) (get_or (mailed_all (set inboxes g.number over) sends) k no_inbox)
    sends_more k in_old e =
        subst (λ b. IsInbox (goes_on (nth cells k)) (mailed (sent_to k sends) (mail_acted k)) b) (sym (mailed_at (set inboxes g.number over) sends k (omega (arith, in_old, length-set inboxes g.number over))))
        (inbox_entered (goes_on (nth cells k)) (mail_acted k) (get_or (set inboxes g.number over) k no_inbox) (sent_to k sends) e)

    go : (k : ℕ) → k < length inboxes → IsInbox (goes_on (nth cells k)) (mail_after cells book k) (get_or inboxes k no_inbox) → (t : Bool) → (g.number == k) ≡ t
        → IsInbox (goes_on (nth cells k)) (if t then acted (goes_on (nth cells k)) new (mail_after cells book k) else mail_after cells book k) (get_or (set inboxes g.number over) k no_inbox)
    go k in_old e true q =
        let same = equal g.number k q in
        let there : get_or (set inboxes g.number over) k no_inbox ≡ finished (fault_of new) (get_or inboxes k no_inbox) =
        ap (λ j. get_or (set inboxes g.number over) j no_inbox) (sym same) ∙ get_or-set_same inboxes g.number over no_inbox (subst (λ j. j < length inboxes) (sym same) in_old) ∙ ap (λ j. finished (fault_of new) (get_or inboxes j no_inbox)) same in
        let gone = subst (λ j. (mail_after cells book j).fault ≡ None) same none in
        is_inbox (goes_on (nth cells k)) false (acted (goes_on (nth cells k)) new (mail_after cells book k)) (get_or (set inboxes g.number over) k no_inbox)
        (there ∙ inbox_finished (goes_on (nth cells k)) (mail_after cells book k) (get_or inboxes k no_inbox) new gone e)
    go k in_old e false q =
        let off : k ≢ g.number = λ p. unequal g.number k q (sym p) in
        subst (λ b. IsInbox (goes_on (nth cells k)) (mail_after cells book k) b) (sym (get_or-set_other inboxes g.number k over no_inbox off)) e

-- an action that is taken
pub taken_on : (cells : List StoreCell) (threads : ℕ) (slots : List Slot) (inboxes boxes : List PlainInbox) (views tries : List ℕ) (book : List Event) (g : CellId)
    → IsKept cells threads slots inboxes views tries book → boxes ≡ set inboxes g.number (taken_up (get_or inboxes g.number no_inbox)) → IsKept cells threads slots boxes views tries book
taken_on cells threads slots inboxes boxes views tries book g h boxes_are =
    subst (λ u. IsKept cells threads slots u views tries book) (sym boxes_are) (record {
      many = h.many;
      as_many = length-set inboxes g.number up ∙ h.as_many;
      values = h.values;
      mail = λ k lt. let in_old : k < length inboxes = omega (arith, lt, length-set inboxes g.number up) in go k in_old (h.mail k in_old) (g.number == k) refl;
      all = h.all;
      some = h.some;
      legal = h.legal;
      undisturbed = h.undisturbed;
    })
  where
    up : PlainInbox
    up = taken_up (get_or inboxes g.number no_inbox)

    go : (k : ℕ) → k < length inboxes → IsInbox (goes_on (nth cells k)) (mail_after cells book k) (get_or inboxes k no_inbox) → (t : Bool) → (g.number == k) ≡ t
        → IsInbox (goes_on (nth cells k)) (mail_after cells book k) (get_or (set inboxes g.number up) k no_inbox)
    go k in_old e true q =
        let same = equal g.number k q in
        let there : get_or (set inboxes g.number up) k no_inbox ≡ taken_up (get_or inboxes k no_inbox) =
        ap (λ j. get_or (set inboxes g.number up) j no_inbox) (sym same) ∙ get_or-set_same inboxes g.number up no_inbox (subst (λ j. j < length inboxes) (sym same) in_old) ∙ ap (λ j. taken_up (get_or inboxes j no_inbox)) same in
        subst (λ b. IsInbox (goes_on (nth cells k)) (mail_after cells book k) b) (sym there) (inbox_taken (goes_on (nth cells k)) (mail_after cells book k) (get_or inboxes k no_inbox) e)
    go k in_old e false q =
        let off : k ≢ g.number = λ p. unequal g.number k q (sym p) in
        subst (λ b. IsInbox (goes_on (nth cells k)) (mail_after cells book k) b) (sym (get_or-set_other inboxes g.number k up no_inbox off)) e

-- an agent whose action is taken has one, and hasn't failed
pub taken_waits : (goes : Bool) (m : Mail) (b : PlainInbox) → b ≡ inbox_of goes b.mailbox.is_taken m → IsMailbox b.mailbox → b.mailbox.is_taken ≡ true → (is_there m.fault ≡ false) × (waits m.actions ≡ true)
taken_waits goes m b is box taken =
    let runs : b.mailbox.has_failed ≡ false = box.runs taken in
    let some : 0 < length b.mailbox.actions = box.waits taken in (
      sym (failed_is m.fault) ∙ sym (ap (λ (x : PlainInbox). x.mailbox.has_failed) is) ∙ runs,
      go m.actions (subst (λ xs. 0 < length xs) (ap (λ (x : PlainInbox). x.mailbox.actions) is) some),
    )
  where
    go : (xs : List Action) → 0 < length xs → waits xs ≡ true
    go [] lt = absurd (omega (arith, lt))
    go (x ∷ xs) lt = refl
