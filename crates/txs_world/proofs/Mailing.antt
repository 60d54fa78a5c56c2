-- Agents' mail and inboxes.
use Rattle.std.proofs.Common.{◌≡◌, ◌≢◌, ◌≤◌, ◌<◌, ◌+◌, ℕ, zero, suc, Bool, true, false, ◌==◌, List, [], ◌∷◌, ◌++◌, length, take, drop, get_or, set, Option, Some, None, Result, Ok, Err, refl, sym, ap, ◌∙◌, subst, arith, append_assoc, if◌then◌else◌}
use Rattle.std.specs.Prelude.{nat_lt, is_some}
use Rattle.std.proofs.lemmas.Bool.{false≢true, ltb-true}
use Rattle.std.proofs.lemmas.Bool.Decides.{nat_tests}
use Rattle.std.proofs.lemmas.List.{get_or-set_same, get_or-set_other, length-set, take_more}
use Rattle.txs_world_protocol.specs.declared.event.Event.{Event}
use Rattle.txs_world_protocol.specs.declared.event.EventKind.{EventKind}
use Rattle.txs_world_protocol.specs.declared.event.EventKind.TheVariants.{Read, Commit, Retry, Fail, Refused, Send, SendRefused, Act, Swap, Broke}
use Rattle.txs_world.specs.Mailbox.{PlainMailbox, RoomedMailbox, first, next}
use Rattle.txs_value_cell.specs.declared.action.Action.{Action}
use Rattle.txs_value_data.specs.Places.{nth}
use Rattle.txs_value_data.specs.declared.fault.Fault.{Fault}
use Rattle.txs_value_data.specs.declared.value.Value.{Value}
use Rattle.txs_world_book.specs.Book.{goes_on, is_there, Mail, no_mail, mail_after, sent_to, mailed, acted, mail_changed, mail_from}
use Rattle.txs_world.specs.Inboxes.{PlainInbox, plain_inbox, plain_inboxes, with_action, taken_up, fault_of, finished, no_inbox, mailed_all, all_sent_below, rooms, HaveRoom, RoomFor, promises, Promised, open_inboxes, inbox_of, taken_of}
use Rattle.txs_world.specs.Kept.{IsKept}
use Rattle.txs_world.specs.Store.{first_action, none_taken}
use Rattle.txs_world_book.specs.declared.cell.StoreCell.{StoreCell}
use Rattle.txs_world.specs.declared.slot.Slot.{Slot}
use Rattle.txs_world.specs.declared.inbox.Inbox.{Inbox}
use Rattle.txs_world_book.proofs.Outcomes.{both}

pub equal : (a b : ℕ) → (a == b) ≡ true → a ≡ b
equal a b e = grind (arith, nat_tests)

pub unequal : (a b : ℕ) → (a == b) ≡ false → a ≢ b
unequal a b e = grind (arith, nat_tests)

append_nil : {A : Type 0} (xs : List A) → xs ++ [] ≡ xs
append_nil [] = refl
append_nil (x ∷ xs) = ap (λ l. x ∷ l) (append_nil xs)

-- these actions enter an inbox behind the others
abbrev pub entered : List Action → PlainInbox → PlainInbox
entered xs b = record b { mailbox = record { actions = b.mailbox.actions ++ xs; is_taken = b.mailbox.is_taken; has_failed = b.mailbox.has_failed; goes_on = b.mailbox.goes_on } }

with_actions : PlainInbox → List Action → PlainInbox
with_actions b xs = record b { mailbox = record { actions = xs; is_taken = b.mailbox.is_taken; has_failed = b.mailbox.has_failed; goes_on = b.mailbox.goes_on } }

entered_none : (b : PlainInbox) → entered [] b ≡ b
unfolding with_actions
entered_none b = ap (with_actions b) (append_nil b.mailbox.actions)

entered_more : (x : Action) (xs : List Action) (b : PlainInbox) → entered xs (with_action x b) ≡ entered (x ∷ xs) b
unfolding with_actions
entered_more x xs b = ap (with_actions b) (append_assoc b.mailbox.actions (x ∷ []) xs)

pub mailed_many : (bs : List PlainInbox) (xs : List Action) → length (mailed_all bs xs) ≡ length bs
mailed_many bs [] = refl
mailed_many bs (x ∷ xs) = mailed_many (set bs x.agent.number (with_action x (get_or bs x.agent.number no_inbox))) xs ∙ length-set bs x.agent.number (with_action x (get_or bs x.agent.number no_inbox))

-- what enters an inbox is what is for its agent, in order
pub mailed_at : (bs : List PlainInbox) (xs : List Action) (k : ℕ) → k < length bs → get_or (mailed_all bs xs) k no_inbox ≡ entered (sent_to k xs) (get_or bs k no_inbox)
mailed_at bs [] k lt = sym (entered_none (get_or bs k no_inbox))
mailed_at bs (x ∷ xs) k lt =
    let b = with_action x (get_or bs x.agent.number no_inbox) in
    go (mailed_at (set bs x.agent.number b) xs k (omega (arith, lt, length-set bs x.agent.number b))) (x.agent.number == k) refl
  where
    b : PlainInbox
    b = with_action x (get_or bs x.agent.number no_inbox)

    go : get_or (mailed_all (set bs x.agent.number b) xs) k no_inbox ≡ entered (sent_to k xs) (get_or (set bs x.agent.number b) k no_inbox) → (t : Bool) → (x.agent.number == k) ≡ t → get_or (mailed_all (set bs x.agent.number b) xs) k no_inbox ≡ entered (if t then x ∷ sent_to k xs else sent_to k xs) (get_or bs k no_inbox)
    go rest true e =
        let same = equal x.agent.number k e in
        let there : get_or (set bs x.agent.number b) k no_inbox ≡ with_action x (get_or bs k no_inbox) =
        ap (λ i. get_or (set bs x.agent.number b) i no_inbox) (sym same) ∙ get_or-set_same bs x.agent.number b no_inbox (subst (λ i. i < length bs) (sym same) lt) ∙ ap (λ i. with_action x (get_or bs i no_inbox)) same in
        rest ∙ ap (entered (sent_to k xs)) there ∙ entered_more x (sent_to k xs) (get_or bs k no_inbox)
    go rest false e =
        let off : k ≢ x.agent.number = λ q. unequal x.agent.number k e (sym q) in
        rest ∙ ap (entered (sent_to k xs)) (get_or-set_other bs x.agent.number k b no_inbox off)

-- ---- an agent's inbox and its mail

-- an inbox that is that of an agent, whether its action is taken or not
pub is_inbox : (goes taken : Bool) (m : Mail) (b : PlainInbox) → b ≡ inbox_of goes taken m → b ≡ inbox_of goes b.mailbox.is_taken m
is_inbox goes taken m b e = e ∙ ap (λ t. inbox_of goes t m) (sym (ap (λ (x : PlainInbox). x.mailbox.is_taken) e))

pub inbox_entered : (goes : Bool) (m : Mail) (b : PlainInbox) (xs : List Action) → b ≡ inbox_of goes b.mailbox.is_taken m → entered xs b ≡ inbox_of goes b.mailbox.is_taken (mailed xs m)
inbox_entered goes m b xs e = ap (entered xs) e

pub inbox_taken : (goes : Bool) (m : Mail) (b : PlainInbox) → b ≡ inbox_of goes b.mailbox.is_taken m → taken_up b ≡ inbox_of goes (taken_up b).mailbox.is_taken m
inbox_taken goes m b e = is_inbox goes _ m (taken_up b) (ap taken_up e)

inbox_over : (goes taken : Bool) (m : Mail) (new : Result Value Fault) → m.fault ≡ None → finished (fault_of new) (inbox_of goes taken m) ≡ inbox_of goes false (acted goes new m)
inbox_over goes taken m new e = go m.fault e goes new
  where
    go : (o : Option Fault) → o ≡ None → (g : Bool) (r : Result Value Fault) →
        finished (fault_of r) (inbox_of g taken (record { actions = m.actions; fault = o; acts = m.acts })) ≡ inbox_of g false (acted g r (record { actions = m.actions; fault = o; acts = m.acts }))
    go None q g (Ok v) = refl
    go None q true (Err f) = refl
    go None q false (Err f) = refl
    go (Some f) q g r = absurd cc

pub inbox_finished : (goes : Bool) (m : Mail) (b : PlainInbox) (new : Result Value Fault) → m.fault ≡ None → b ≡ inbox_of goes b.mailbox.is_taken m → finished (fault_of new) b ≡ inbox_of goes false (acted goes new m)
inbox_finished goes m b new none e = ap (finished (fault_of new)) e ∙ inbox_over goes b.mailbox.is_taken m new none

-- what an agent runs next, of its inbox
pub next_is : (goes taken : Bool) (m : Mail) → next (inbox_of goes taken m).mailbox ≡ first_action (is_there m.fault) m.actions
next_is goes taken m = go m.fault m.actions
  where
    go : (o : Option Fault) (xs : List Action) → (if is_some o then None else first xs) ≡ first_action (is_there o) xs
    go None [] = refl
    go None (x ∷ xs) = refl
    go (Some f) xs = refl

pub failed_is : (o : Option Fault) → is_some o ≡ is_there o
failed_is None = refl
failed_is (Some f) = refl

pub no_fault : (o : Option Fault) → is_there o ≡ false → o ≡ None
no_fault None e = refl
no_fault (Some f) e = absurd (false≢true (sym e))

-- ---- room

pub rooms_many : (bs : List Inbox) → length (rooms bs) ≡ length bs
rooms_many [] = refl
rooms_many (b ∷ bs) = ap suc (rooms_many bs)

pub plain_many : (bs : List Inbox) → length (plain_inboxes bs) ≡ length bs
plain_many [] = refl
plain_many (b ∷ bs) = ap suc (plain_many bs)

pub rooms_set : (bs : List Inbox) (i : ℕ) (b : Inbox) → rooms (set bs i b) ≡ set (rooms bs) i b.mailbox.room
rooms_set [] i b = refl
rooms_set (x ∷ bs) zero b = refl
rooms_set (x ∷ bs) (suc i) b = ap (λ l. x.mailbox.room ∷ l) (rooms_set bs i b)

pub plain_at : (bs : List Inbox) (i : ℕ) (d : Inbox) → i < length bs → get_or (plain_inboxes bs) i no_inbox ≡ plain_inbox (get_or bs i d)
plain_at [] i d lt = absurd (omega (arith, lt))
plain_at (x ∷ bs) zero d lt = refl
plain_at (x ∷ bs) (suc i) d lt = plain_at bs i d (omega (arith, lt))

pub room_at : (bs : List Inbox) (i : ℕ) (d : Inbox) → i < length bs → get_or (rooms bs) i 0 ≡ (get_or bs i d).mailbox.room
room_at [] i d lt = absurd (omega (arith, lt))
room_at (x ∷ bs) zero d lt = refl
room_at (x ∷ bs) (suc i) d lt = room_at bs i d (omega (arith, lt))

-- an item put where it stood
pub set_same : {A : Type 0} (xs : List A) (i : ℕ) (d : A) → set xs i (get_or xs i d) ≡ xs
set_same [] i d = refl
set_same (x ∷ xs) zero d = refl
set_same (x ∷ xs) (suc i) d = ap (λ l. x ∷ l) (set_same xs i d)

-- whose action is taken, with another inbox in a place
pub taken_set : (bs : List PlainInbox) (i : ℕ) (b : PlainInbox) → taken_of (set bs i b) ≡ set (taken_of bs) i b.mailbox.is_taken
taken_set [] i b = refl
taken_set (x ∷ bs) zero b = refl
taken_set (x ∷ bs) (suc i) b = ap (λ l. x.mailbox.is_taken ∷ l) (taken_set bs i b)

pub taken_at : (bs : List PlainInbox) (i : ℕ) → get_or (taken_of bs) i false ≡ (get_or bs i no_inbox).mailbox.is_taken
taken_at [] i = refl
taken_at (x ∷ bs) zero = refl
taken_at (x ∷ bs) (suc i) = taken_at bs i

-- what enters leaves what is taken
pub taken_mailed : (bs : List PlainInbox) (xs : List Action) → taken_of (mailed_all bs xs) ≡ taken_of bs
taken_mailed bs [] = refl
taken_mailed bs (x ∷ xs) =
    taken_mailed (set bs x.agent.number (with_action x (get_or bs x.agent.number no_inbox))) xs
    ∙ taken_set bs x.agent.number (with_action x (get_or bs x.agent.number no_inbox))
    ∙ ap (set (taken_of bs) x.agent.number) (sym (taken_at bs x.agent.number))
    ∙ set_same (taken_of bs) x.agent.number false

-- ---- how many actions an agent has run

acts_changed : (goes : Bool) (k : ℕ) (d : EventKind) (m : Mail) → (mail_changed goes k d m).acts ≤ suc m.acts
acts_changed goes k (Read c) m = omega arith
acts_changed goes k (Commit at view ws sends) m = omega arith
acts_changed goes k (Retry since c cause) m = omega arith
acts_changed goes k (Fail at view) m = omega arith
acts_changed goes k (Refused at view g) m = omega arith
acts_changed goes k (Send x) m = omega arith
acts_changed goes k (SendRefused g) m = omega arith
acts_changed goes k (Act g n new sends) m = go (g.number == k) goes new
  where
    go : (t s : Bool) (r : Result Value Fault) → (if t then acted s r m else m).acts ≤ suc m.acts
    go true s (Ok v) = omega arith
    go true true (Err f) = omega arith
    go true false (Err f) = omega arith
    go false s r = omega arith
acts_changed goes k (Swap new) m = omega arith
acts_changed goes k (Broke at) m = omega arith

pub acts_few : (goes : Bool) (k : ℕ) (m : Mail) (es : List Event) → (mail_from goes k m es).acts ≤ m.acts + length es
acts_few goes k m [] = omega arith
acts_few goes k m (e ∷ es) = let r = acts_few goes k (mail_changed goes k e.kind m) es in let s = acts_changed goes k e.kind m in omega (arith, r, s)

-- ---- an inbox of the store

-- how many inboxes there are
pub many_inboxes : (cells : List StoreCell) (threads : ℕ) (slots : List Slot) (bs : List Inbox) (views tries : List ℕ) (book : List Event) → IsKept cells threads slots (plain_inboxes bs) views tries book → length bs ≡ length cells
many_inboxes cells threads slots bs views tries book h = sym (plain_many bs) ∙ h.as_many

pub taken_is : (bs : List Inbox) (i : ℕ) (d : Inbox) → i < length bs → (get_or bs i d).mailbox.plain.is_taken ≡ get_or (taken_of (plain_inboxes bs)) i false
taken_is bs i d lt = sym (ap (λ (b : PlainInbox). b.mailbox.is_taken) (plain_at bs i d lt)) ∙ sym (taken_at (plain_inboxes bs) i)

-- how many actions an agent has run
pub few_acts : (cells : List StoreCell) (book : List Event) (k : ℕ) → (mail_after cells book k).acts ≤ length book
few_acts cells book k = let r = acts_few (goes_on (nth cells k)) k no_mail book in omega (arith, r)

pub none_open : (cells : List StoreCell) → taken_of (open_inboxes cells) ≡ none_taken cells
none_open [] = refl
none_open (c ∷ cs) = ap (λ l. false ∷ l) (none_open cs)

-- an inbox that was read at a place, of the agent that stands there
pub inbox_is : (cells : List StoreCell) (threads : ℕ) (slots : List Slot) (bs : List Inbox) (views tries : List ℕ) (book : List Event) (n i : ℕ) (b : Inbox) → IsKept cells threads slots (plain_inboxes bs) views tries book → n < length cells → i ≡ n → b ≡ get_or bs i b
    → plain_inbox b ≡ inbox_of (goes_on (nth cells n)) b.mailbox.plain.is_taken (mail_after cells book n)
inbox_is cells threads slots bs views tries book n i b h lt is at =
    let e : b ≡ get_or bs n b = subst (λ k. b ≡ get_or bs k b) is at in
    let many = h.as_many in
    let size = plain_many bs in
    let below : n < length bs = omega (arith, lt, many, size) in
    let plain_below : n < length (plain_inboxes bs) = omega (arith, lt, many) in
    let there : plain_inbox (get_or bs n b) ≡ inbox_of (goes_on (nth cells n)) (get_or bs n b).mailbox.plain.is_taken (mail_after cells book n) =
    subst (λ (y : PlainInbox). y ≡ inbox_of (goes_on (nth cells n)) y.mailbox.is_taken (mail_after cells book n)) (plain_at bs n b below) (h.mail n plain_below) in
    subst (λ (y : Inbox). plain_inbox y ≡ inbox_of (goes_on (nth cells n)) y.mailbox.plain.is_taken (mail_after cells book n)) (sym e) there

-- ---- one inbox of a list, which was read and has become another

-- an inbox with another mailbox
abbrev pub with_mailbox : Inbox → RoomedMailbox → Inbox
with_mailbox b m = record { mailbox = m; fault = b.fault; acts = b.acts; promised = b.promised }

-- the same without its room
pub plain_mailbox : (b : Inbox) (m : RoomedMailbox) (p : PlainMailbox) → m.plain ≡ p → plain_inbox (with_mailbox b m) ≡ record { mailbox = p; fault = b.fault; acts = b.acts }
plain_mailbox b m p e = ap (λ (q : PlainMailbox). let x : PlainInbox = record { mailbox = q; fault = b.fault; acts = b.acts } in x) e

-- what was read, without its room
pub old_plain : (bs : List Inbox) (i n : ℕ) (old : Inbox) → old ≡ get_or bs i old → i ≡ n → n < length bs → plain_inbox old ≡ get_or (plain_inboxes bs) n no_inbox
old_plain bs i n old at is lt = ap plain_inbox (subst (λ k. old ≡ get_or bs k old) is at) ∙ sym (plain_at bs n old lt)

pub old_room : (bs : List Inbox) (i n : ℕ) (old : Inbox) → old ≡ get_or bs i old → i ≡ n → n < length bs → old.mailbox.room ≡ get_or (rooms bs) n 0
old_room bs i n old at is lt = ap (λ (b : Inbox). b.mailbox.room) (subst (λ k. old ≡ get_or bs k old) is at) ∙ sym (room_at bs n old lt)

set_plain : (f : PlainInbox → PlainInbox) (bs : List Inbox) (i : ℕ) (old new : Inbox) → old ≡ get_or bs i old → plain_inbox new ≡ f (plain_inbox old) → plain_inboxes (set bs i new) ≡ set (plain_inboxes bs) i (f (get_or (plain_inboxes bs) i no_inbox))
set_plain f [] i old new at e = refl
set_plain f (b ∷ bs) zero old new at e = ap (λ p. p ∷ plain_inboxes bs) (e ∙ ap (λ (y : Inbox). f (plain_inbox y)) at)
set_plain f (b ∷ bs) (suc i) old new at e = ap (λ l. plain_inbox b ∷ l) (set_plain f bs i old new at e)

-- what it has become, without its room
pub new_plain : (f : PlainInbox → PlainInbox) (bs : List Inbox) (i n : ℕ) (old new : Inbox) → old ≡ get_or bs i old → i ≡ n → plain_inbox new ≡ f (plain_inbox old) → plain_inboxes (set bs i new) ≡ set (plain_inboxes bs) n (f (get_or (plain_inboxes bs) n no_inbox))
new_plain f bs i n old new at is e = set_plain f bs i old new at e ∙ ap (λ k. set (plain_inboxes bs) k (f (get_or (plain_inboxes bs) k no_inbox))) is

pub same_plain : (bs : List Inbox) (i : ℕ) (old new : Inbox) → old ≡ get_or bs i old → plain_inbox new ≡ plain_inbox old → plain_inboxes (set bs i new) ≡ plain_inboxes bs
same_plain [] i old new at e = refl
same_plain (b ∷ bs) zero old new at e = ap (λ p. p ∷ plain_inboxes bs) (e ∙ ap plain_inbox at)
same_plain (b ∷ bs) (suc i) old new at e = ap (λ l. plain_inbox b ∷ l) (same_plain bs i old new at e)

pub no_less_room : (bs : List Inbox) (i : ℕ) (old new : Inbox) → old ≡ get_or bs i old → old.mailbox.room ≤ new.mailbox.room → (k : ℕ) → get_or (rooms bs) k 0 ≤ get_or (rooms (set bs i new)) k 0
no_less_room [] i old new at le k = omega arith
no_less_room (b ∷ bs) zero old new at le zero = let e : old.mailbox.room ≡ b.mailbox.room = ap (λ (y : Inbox). y.mailbox.room) at in omega (arith, le, e)
no_less_room (b ∷ bs) zero old new at le (suc k) = omega arith
no_less_room (b ∷ bs) (suc i) old new at le zero = omega arith
no_less_room (b ∷ bs) (suc i) old new at le (suc k) = no_less_room bs i old new at le k

pub new_room : (bs : List Inbox) (i n m : ℕ) (new : Inbox) → i ≡ n → n < length bs → m ≤ new.mailbox.room → m ≤ get_or (rooms (set bs i new)) n 0
new_room bs i n m new is lt le = subst (λ k. m ≤ get_or (rooms (set bs k new)) n 0) (sym is) (go bs n lt)
  where
    go : (cs : List Inbox) (k : ℕ) → k < length cs → m ≤ get_or (rooms (set cs k new)) k 0
    go [] k l = absurd (omega (arith, l))
    go (c ∷ cs) zero l = le
    go (c ∷ cs) (suc k) l = go cs k (omega (arith, l))

-- an inbox that has one action more, in the place of the one that was read
pub put_room : (bs : List Inbox) (i : ℕ) (x : Action) (old new : Inbox) → old ≡ get_or bs i old → i ≡ x.agent.number → x.agent.number < length bs → new.mailbox.room + 1 ≡ old.mailbox.room
    → (k : ℕ) → get_or (rooms bs) k 0 ≤ length (sent_to k (x ∷ [])) + get_or (rooms (set bs i new)) k 0
put_room bs i x old new at is lt e k = subst (λ l. get_or (rooms bs) k 0 ≤ length (sent_to k (x ∷ [])) + get_or l k 0) (sym now) (go (x.agent.number == k) refl)
  where
    n : ℕ
    n = x.agent.number

    now : rooms (set bs i new) ≡ set (rooms bs) n new.mailbox.room
    now = rooms_set bs i new ∙ ap (λ j. set (rooms bs) j new.mailbox.room) is

    here : get_or (rooms bs) n 0 ≤ 1 + get_or (set (rooms bs) n new.mailbox.room) n 0
    here =
        let many = rooms_many bs in
        let a = get_or-set_same (rooms bs) n new.mailbox.room 0 (omega (arith, lt, many)) in
        let b = old_room bs i n old at is lt in
        omega (arith, a, b, e)

    go : (t : Bool) → (n == k) ≡ t → get_or (rooms bs) k 0 ≤ length (if t then x ∷ [] else []) + get_or (set (rooms bs) n new.mailbox.room) k 0
    go true q = subst (λ j. get_or (rooms bs) j 0 ≤ 1 + get_or (set (rooms bs) n new.mailbox.room) j 0) (equal n k q) here
    go false q = let a = get_or-set_other (rooms bs) n k new.mailbox.room 0 (λ p. unequal n k q (sym p)) in omega (arith, a)

-- room for those that are left
pub room_used : (ns ms : List ℕ) (a : Action) (rest : List Action) → ((k : ℕ) → get_or ns k 0 ≤ length (sent_to k (a ∷ [])) + get_or ms k 0) → HaveRoom ns (a ∷ rest) → HaveRoom ms rest
room_used ns ms a rest f h = λ k. go k (a.agent.number == k) (f k) (h k)
  where
    go : (k : ℕ) (t : Bool) → get_or ns k 0 ≤ length (if t then a ∷ [] else []) + get_or ms k 0 → length (if t then a ∷ sent_to k rest else sent_to k rest) ≤ get_or ns k 0 → length (sent_to k rest) ≤ get_or ms k 0
    go k true p q = omega (arith, p, q)
    go k false p q = omega (arith, p, q)

-- where no inbox has less room, they have it still
pub room_stays : (ns ms : List ℕ) (xs : List Action) → ((k : ℕ) → get_or ns k 0 ≤ get_or ms k 0) → HaveRoom ns xs → HaveRoom ms xs
room_stays ns ms xs f h = λ k. let p = f k in let q = h k in omega (arith, p, q)

-- the inboxes after an action is over, and behind that what it sent has entered
pub mails_so : (old mid over now : List PlainInbox) (n : ℕ) (f g : Option Fault) (queue sends : List Action) → mid ≡ old → over ≡ set mid n (finished f (get_or mid n no_inbox)) → now ≡ mailed_all over queue → f ≡ g → queue ≡ sends
    → now ≡ mailed_all (set old n (finished g (get_or old n no_inbox))) sends
mails_so old mid over now n f g queue sends same gone put fault is =
    put ∙ ap (λ b. mailed_all b queue) (gone ∙ ap (λ b. set b n (finished f (get_or b n no_inbox))) same ∙ ap (λ e. set old n (finished e (get_or old n no_inbox))) fault)
    ∙ ap (mailed_all (set old n (finished g (get_or old n no_inbox)))) is

own_number : (n : ℕ) → (n == n) ≡ true
own_number n = grind (arith, nat_tests)

-- the first of some that have room has it
pub room_first : (ns : List ℕ) (a : Action) (rest : List Action) → HaveRoom ns (a ∷ rest) → 0 < get_or ns a.agent.number 0
room_first ns a rest h =
    let n = a.agent.number in
    let room = h n in
    let e : length (sent_to n (a ∷ rest)) ≡ suc (length (sent_to n rest)) = ap (λ t. length (if t then a ∷ sent_to n rest else sent_to n rest)) (own_number n) in
    omega (arith, room, e)

-- ---- what is promised

pub promises_set : (bs : List Inbox) (i : ℕ) (b : Inbox) → promises (set bs i b) ≡ set (promises bs) i b.promised
promises_set [] i b = refl
promises_set (x ∷ bs) zero b = refl
promises_set (x ∷ bs) (suc i) b = ap (λ l. x.promised ∷ l) (promises_set bs i b)

pub promises_many : (bs : List Inbox) → length (promises bs) ≡ length bs
promises_many [] = refl
promises_many (b ∷ bs) = ap suc (promises_many bs)

promise_at : (bs : List Inbox) (i : ℕ) (d : Inbox) → i < length bs → get_or (promises bs) i 0 ≡ (get_or bs i d).promised
promise_at [] i d lt = absurd (omega (arith, lt))
promise_at (x ∷ bs) zero d lt = refl
promise_at (x ∷ bs) (suc i) d lt = promise_at bs i d (omega (arith, lt))

-- what the inbox that was read was promised
pub old_promise : (bs : List Inbox) (i n : ℕ) (old : Inbox) → old ≡ get_or bs i old → i ≡ n → n < length bs → old.promised ≡ get_or (promises bs) n 0
old_promise bs i n old at is lt = ap (λ (b : Inbox). b.promised) (subst (λ k. old ≡ get_or bs k old) is at) ∙ sym (promise_at bs n old lt)

-- one more is promised
pub new_promise : (bs : List Inbox) (i n : ℕ) (old new : Inbox) → old ≡ get_or bs i old → i ≡ n → n < length bs → new.promised ≡ suc old.promised → promises (set bs i new) ≡ set (promises bs) n (suc (get_or (promises bs) n 0))
new_promise bs i n old new at is lt e =
    promises_set bs i new ∙ ap (λ k. set (promises bs) k new.promised) is ∙ ap (set (promises bs) n) (e ∙ ap suc (old_promise bs i n old at is lt))

pub sent_more : (k : ℕ) (xs : List Action) (a : Action) → length (sent_to k (xs ++ a ∷ [])) ≡ length (sent_to k (a ∷ [])) + length (sent_to k xs)
sent_more k [] a = omega arith
sent_more k (x ∷ xs) a = go (x.agent.number == k) (sent_more k xs a)
  where
    go : (t : Bool) → length (sent_to k (xs ++ a ∷ [])) ≡ length (sent_to k (a ∷ [])) + length (sent_to k xs)
        → length (if t then x ∷ sent_to k (xs ++ a ∷ []) else sent_to k (xs ++ a ∷ [])) ≡ length (sent_to k (a ∷ [])) + length (if t then x ∷ sent_to k xs else sent_to k xs)
    go true r = omega (arith, r)
    go false r = r

-- no more are sent to an agent than there are
pub sent_few : (k i : ℕ) (xs : List Action) → length (sent_to k (take i xs)) ≤ i
sent_few k zero [] = omega arith
sent_few k zero (x ∷ xs) = omega arith
sent_few k (suc i) [] = omega arith
sent_few k (suc i) (x ∷ xs) = go (x.agent.number == k) (sent_few k i xs)
  where
    go : (t : Bool) → length (sent_to k (take i xs)) ≤ i → length (if t then x ∷ sent_to k (take i xs) else sent_to k (take i xs)) ≤ suc i
    go true r = omega (arith, r)
    go false r = omega (arith, r)

pub promised_at : (ps : List ℕ) (earlier xs : List Action) (i : ℕ) (a : Action) → i < length xs → a ≡ get_or xs i a → Promised ps earlier xs → get_or ps a.agent.number 0 ≡ length (sent_to a.agent.number earlier)
promised_at ps earlier [] i a lt at h = absurd (omega (arith, lt))
promised_at ps earlier (x ∷ xs) zero a lt at h = subst (λ (y : Action). get_or ps y.agent.number 0 ≡ length (sent_to y.agent.number earlier)) (sym at) h.0
promised_at ps earlier (x ∷ xs) (suc i) a lt at h = promised_at ps earlier xs i a (omega (arith, lt)) at h.1

promised_more : (ps : List ℕ) (earlier xs : List Action) (a : Action) → a.agent.number < length ps → get_or ps a.agent.number 0 ≡ length (sent_to a.agent.number earlier) → Promised ps earlier xs → Promised (set ps a.agent.number (suc (get_or ps a.agent.number 0))) (earlier ++ a ∷ []) xs
promised_more ps earlier [] a lt e h = tt
promised_more ps earlier (x ∷ xs) a lt e h = (go (n == x.agent.number) refl (sent_more x.agent.number earlier a), promised_more ps earlier xs a lt e h.1)
  where
    n : ℕ
    n = a.agent.number

    here : get_or (set ps n (suc (get_or ps n 0))) n 0 ≡ suc (length (sent_to n earlier))
    here = get_or-set_same ps n (suc (get_or ps n 0)) 0 lt ∙ ap suc e

    go : (t : Bool) → (n == x.agent.number) ≡ t → length (sent_to x.agent.number (earlier ++ a ∷ [])) ≡ length (if t then a ∷ [] else []) + length (sent_to x.agent.number earlier) → get_or (set ps n (suc (get_or ps n 0))) x.agent.number 0 ≡ length (sent_to x.agent.number (earlier ++ a ∷ []))
    go true q m =
        let now : suc (length (sent_to x.agent.number earlier)) ≡ length (sent_to x.agent.number (earlier ++ a ∷ [])) = omega (arith, m) in
        subst (λ k. get_or (set ps n (suc (get_or ps n 0))) k 0 ≡ suc (length (sent_to k earlier))) (equal n x.agent.number q) here ∙ now
    go false q m = get_or-set_other ps n x.agent.number (suc (get_or ps n 0)) 0 (λ p. unequal n x.agent.number q (sym p)) ∙ h.0 ∙ omega (arith, m)

-- one more of some actions: as much is promised as these need
pub promised_next : (ps qs : List ℕ) (xs : List Action) (i : ℕ) (a : Action) → i < length xs → a ≡ get_or xs i a → a.agent.number < length ps → qs ≡ set ps a.agent.number (suc (get_or ps a.agent.number 0))
    → Promised ps (take i xs) xs → Promised qs (take (i + 1) xs) xs
promised_next ps qs xs i a lt at in_ps is h =
    subst (λ l. Promised l (take (i + 1) xs) xs) (sym is)
    (subst (λ l. Promised (set ps a.agent.number (suc (get_or ps a.agent.number 0))) l xs) (sym (take_more xs i a lt ∙ ap (λ y. take i xs ++ y ∷ []) (sym at)))
    (promised_more ps (take i xs) xs a in_ps (promised_at ps (take i xs) xs i a lt at h) h))

room_kept : (ns ms : List ℕ) (all xs : List Action) → ((k : ℕ) → get_or ns k 0 ≤ get_or ms k 0) → RoomFor ns all xs → RoomFor ms all xs
room_kept ns ms all [] f h = tt
room_kept ns ms all (x ∷ xs) f h = (let r = f x.agent.number in let s = h.0 in omega (arith, r, s), room_kept ns ms all xs f h.1)

room_last : (ns : List ℕ) (all xs : List Action) (a : Action) → RoomFor ns all xs → length (sent_to a.agent.number all) ≤ get_or ns a.agent.number 0 → RoomFor ns all (xs ++ a ∷ [])
room_last ns all [] a h le = (le, tt)
room_last ns all (x ∷ xs) a h le = (h.0, room_last ns all xs a h.1 le)

-- one more agent that has the room that was promised
pub room_next : (ns ms ps : List ℕ) (xs : List Action) (i : ℕ) (a : Action) → i < length xs → a ≡ get_or xs i a → ((k : ℕ) → get_or ns k 0 ≤ get_or ms k 0) → Promised ps xs xs → RoomFor ns xs (take i xs)
    → get_or ps a.agent.number 0 ≤ get_or ms a.agent.number 0 → RoomFor ms xs (take (i + 1) xs)
room_next ns ms ps xs i a lt at f p h le =
    subst (RoomFor ms xs) (sym (take_more xs i a lt ∙ ap (λ y. take i xs ++ y ∷ []) (sym at)))
    (room_last ms xs (take i xs) a (room_kept ns ms xs (take i xs) f h) (subst (λ n. n ≤ get_or ms a.agent.number 0) (promised_at ps xs xs i a lt at p) le))

room_of : (ns : List ℕ) (all xs : List Action) (k : ℕ) → RoomFor ns all xs → 0 < length (sent_to k xs) → length (sent_to k all) ≤ get_or ns k 0
room_of ns all [] k h lt = absurd (omega (arith, lt))
room_of ns all (x ∷ xs) k h lt = go (room_of ns all xs k h.1) (x.agent.number == k) refl lt
  where
    go : (0 < length (sent_to k xs) → length (sent_to k all) ≤ get_or ns k 0) → (t : Bool) → (x.agent.number == k) ≡ t → 0 < length (if t then x ∷ sent_to k xs else sent_to k xs) → length (sent_to k all) ≤ get_or ns k 0
    go r true q l = subst (λ j. length (sent_to j all) ≤ get_or ns j 0) (equal x.agent.number k q) h.0
    go r false q l = r l

-- where the agent of each has room, there is room for all
room_all : (ns : List ℕ) (xs : List Action) → RoomFor ns xs xs → HaveRoom ns xs
room_all ns xs h = λ k. go k (length (sent_to k xs)) refl
  where
    go : (k n : ℕ) → length (sent_to k xs) ≡ n → n ≤ get_or ns k 0
    go k zero e = omega arith
    go k (suc n) e = subst (λ m. m ≤ get_or ns k 0) e (room_of ns xs xs k h (omega (arith, e)))

take_past : (xs : List Action) (i : ℕ) → length xs ≤ i → take i xs ≡ xs
take_past [] zero le = refl
take_past [] (suc i) le = refl
take_past (x ∷ xs) zero le = absurd (omega (arith, le))
take_past (x ∷ xs) (suc i) le = ap (λ l. x ∷ l) (take_past xs i (omega (arith, le)))

-- where all were gone through
pub room_last_all : (ns : List ℕ) (xs : List Action) (i : ℕ) → length xs ≤ i → RoomFor ns xs (take i xs) → HaveRoom ns xs
room_last_all ns xs i le h = room_all ns xs (subst (RoomFor ns xs) (take_past xs i le) h)

-- an inbox that was promised as much as the one that was read
pub same_promises : (bs : List Inbox) (i : ℕ) (old new : Inbox) → old ≡ get_or bs i old → new.promised ≡ old.promised → promises (set bs i new) ≡ promises bs
same_promises [] i old new at e = refl
same_promises (b ∷ bs) zero old new at e = ap (λ p. p ∷ promises bs) (e ∙ ap (λ (y : Inbox). y.promised) at)
same_promises (b ∷ bs) (suc i) old new at e = ap (λ l. b.promised ∷ l) (same_promises bs i old new at e)

none_more : (ps : List ℕ) (xs : List Action) (a : Action) → a.agent.number < length ps → Promised ps [] xs → Promised (set ps a.agent.number 0) [] (xs ++ a ∷ [])
none_more ps [] a lt h = (get_or-set_same ps a.agent.number 0 0 lt, tt)
none_more ps (x ∷ xs) a lt h = (go (a.agent.number == x.agent.number) refl, none_more ps xs a lt h.1)
  where
    go : (t : Bool) → (a.agent.number == x.agent.number) ≡ t → get_or (set ps a.agent.number 0) x.agent.number 0 ≡ 0
    go true q = subst (λ k. get_or (set ps a.agent.number 0) k 0 ≡ 0) (equal a.agent.number x.agent.number q) (get_or-set_same ps a.agent.number 0 0 lt)
    go false q = get_or-set_other ps a.agent.number x.agent.number 0 0 (λ p. unequal a.agent.number x.agent.number q (sym p)) ∙ h.0

-- one more agent to which nothing is promised
pub none_next : (bs cs : List Inbox) (j : ℕ) (b : Inbox) (xs : List Action) (i : ℕ) (a : Action) → i < length xs → a ≡ get_or xs i a → a.agent.number < length bs → cs ≡ set bs j b → j ≡ a.agent.number → b.promised ≡ 0
    → Promised (promises bs) [] (take i xs) → Promised (promises cs) [] (take (i + 1) xs)
none_next bs cs j b xs i a lt at in_bs is place zero_is h =
    let many = promises_many bs in
    subst (λ l. Promised l [] (take (i + 1) xs)) (sym (ap promises is ∙ promises_set bs j b ∙ ap (λ k. set (promises bs) k b.promised) place ∙ ap (set (promises bs) a.agent.number) zero_is))
    (subst (Promised (set (promises bs) a.agent.number 0) []) (sym (take_more xs i a lt ∙ ap (λ y. take i xs ++ y ∷ []) (sym at))) (none_more (promises bs) (take i xs) a (omega (arith, in_bs, many)) h))

-- ---- actions in their places

pub below_at : (n : ℕ) (xs : List Action) (i : ℕ) (a : Action) → i < length xs → a ≡ get_or xs i a → all_sent_below n (drop i xs) ≡ true → a.agent.number < n
below_at n [] i a lt at h = absurd (omega (arith, lt))
below_at n (x ∷ xs) zero a lt at h = subst (λ (y : Action). y.agent.number < n) (sym at) (ltb-true x.agent.number n (both (nat_lt x.agent.number n) (all_sent_below n xs) h).0)
below_at n (x ∷ xs) (suc i) a lt at h = below_at n xs i a (omega (arith, lt)) at h

below_suc : (n : ℕ) (xs : List Action) (i : ℕ) → all_sent_below n (drop i xs) ≡ true → all_sent_below n (drop (suc i) xs) ≡ true
below_suc n [] i h = refl
below_suc n (x ∷ xs) zero h = (both (nat_lt x.agent.number n) (all_sent_below n xs) h).1
below_suc n (x ∷ xs) (suc i) h = below_suc n xs i h

pub below_next : (n : ℕ) (xs : List Action) (i : ℕ) → all_sent_below n (drop i xs) ≡ true → all_sent_below n (drop (i + 1) xs) ≡ true
below_next n xs i h =
    let e : suc i ≡ i + 1 = omega arith in
    subst (λ k. all_sent_below n (drop k xs) ≡ true) e (below_suc n xs i h)

-- no actions enter
pub none_mailed : (bs : List PlainInbox) (xs : List Action) → length xs ≡ 0 → mailed_all bs xs ≡ bs
none_mailed bs [] e = refl
none_mailed bs (x ∷ xs) e = absurd (omega (arith, e))

-- as many inboxes, where they are the same without their room
pub plain_same_many : (bs cs : List Inbox) → plain_inboxes bs ≡ plain_inboxes cs → length bs ≡ length cs
plain_same_many bs cs e = sym (plain_many bs) ∙ ap length e ∙ plain_many cs
