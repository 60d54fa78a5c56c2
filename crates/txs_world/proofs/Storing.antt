-- What becomes of a store's book and of what is taken.
use Rattle.std.proofs.Common.{◌≡◌, ◌≤◌, ◌<◌, ◌+◌, ℕ, zero, suc, Bool, nat_lt, true, false, List, [], ◌∷◌, ◌++◌, length, get_or, set, Option, Some, None, Result, refl, sym, ap, ◌∙◌, subst, arith, Fits, w32}
use Rattle.std.specs.Prelude.{is_some}
use Rattle.std.proofs.lemmas.Bool.{false≢true, ltb-true}
use Rattle.std.proofs.lemmas.Bool.Decides.{nat_tests}
use Rattle.txs_world_protocol.specs.declared.event.Event.{Event}
use Rattle.txs_world_protocol.specs.declared.event.EventKind.TheVariants.{Act}
use Rattle.txs_world.specs.Mailbox.{IsMailbox, first, next}
use Rattle.txs_value_data.specs.Limits.{most_events}
use Rattle.txs_value_data.specs.Places.{nth}
use Rattle.txs_value_cell.specs.declared.action.Action.{Action}
use Rattle.txs_value_data.specs.declared.fault.Fault.{Fault}
use Rattle.txs_value_data.specs.declared.fault.Span.{Span}
use Rattle.txs_value_data.specs.declared.value.CellId.{CellId}
use Rattle.txs_value_data.specs.declared.value.Value.{Value}
use Rattle.txs_world_book.specs.Book.{goes_on, has_agent, has_cell, has_ref, is_failed, is_there, mail_after, newest, opening, waits, written}
use Rattle.txs_world.specs.Inboxes.{PlainInbox, plain_inbox, plain_inboxes, no_inbox, open_inboxes, mailed_all, finished, taken_up, taken_of}
use Rattle.circular_buffer.specs.Buffer.{last_item}
use Rattle.txs_value_cell.specs.Cells.{World}
use Rattle.txs_value_cell.specs.Forms.{same_kind}
use Rattle.txs_value_data.specs.declared.value.CellKind.TheVariants.{Ref}
use Rattle.txs_world.specs.Kept.{IsKept, IsSlot, no_slot}
use Rattle.txs_world.specs.Store.{PlainStore, store_with, is_taken, next_action, none_taken, span_of}
use Rattle.txs_world_book.specs.Served.{event_of}
use Rattle.txs_world_book.specs.declared.cell.StoreCell.{StoreCell}
use Rattle.txs_world.specs.declared.inbox.Inbox.{Inbox}
use Rattle.txs_world.specs.declared.slot.Slot.{Slot}
use Rattle.txs_world.specs.declared.slot.Version.{Version}
use Rattle.txs_world.proofs.Kept.{agent_in, cell_in, taken_waits}
use Rattle.txs_world.proofs.Versions.{Newest, newest_kept}
use Rattle.txs_world.proofs.Mailing.{inbox_is, next_is, few_acts, taken_is, taken_set, taken_mailed, none_open, many_inboxes}
use Rattle.txs_world_book.proofs.Outcomes.{both}
use Rattle.txs_world_book.proofs.Sizes.{fits_next}

-- a store as it opens
pub opened_store : (cells ds : List StoreCell) (threads : ℕ) (book : List Event) (bs : List PlainInbox) → cells ≡ ds → book ≡ [] → bs ≡ open_inboxes cells → store_with cells threads book (taken_of bs) ≡ store_with ds threads [] (none_taken ds)
opened_store cells ds threads book bs same empty boxes =
    ap (λ b. store_with cells threads b (taken_of bs)) empty ∙ ap (λ u. store_with cells threads [] (taken_of u)) boxes ∙ ap (store_with cells threads []) (none_open cells) ∙ ap (λ u. store_with u threads [] (none_taken u)) same

-- one more event, by which nothing is taken or over
pub stored : (s : PlainStore) (cells : List StoreCell) (threads : ℕ) (book more : List Event) (old now : List PlainInbox) (e : Event) → store_with cells threads book (taken_of old) ≡ s → more ≡ book ++ e ∷ [] → taken_of now ≡ taken_of old
    → store_with cells threads more (taken_of now) ≡ store_with s.cells s.threads (s.book ++ e ∷ []) s.taken
stored s cells threads book more old now e is added same =
    subst (λ (u : PlainStore). store_with cells threads more (taken_of now) ≡ store_with u.cells u.threads (u.book ++ e ∷ []) u.taken) is
    (ap (λ b. store_with cells threads b (taken_of now)) added ∙ ap (store_with cells threads (book ++ e ∷ [])) same)

-- no event, and inboxes as they were
pub unstored : (s : PlainStore) (cells : List StoreCell) (threads : ℕ) (book more : List Event) (old now : List PlainInbox) → store_with cells threads book (taken_of old) ≡ s → more ≡ book → now ≡ old → store_with cells threads more (taken_of now) ≡ s
unstored s cells threads book more old now is none same = ap (λ b. store_with cells threads b (taken_of now)) none ∙ ap (λ u. store_with cells threads book (taken_of u)) same ∙ is

-- actions that enter leave what is taken
pub entered_leaves : (old mid now : List PlainInbox) (xs : List Action) → mid ≡ old → now ≡ mailed_all mid xs → taken_of now ≡ taken_of old
entered_leaves old mid now xs same put = ap taken_of put ∙ taken_mailed mid xs ∙ ap taken_of same

-- an action that is over, with what it sends
pub over : (s : PlainStore) (cells : List StoreCell) (threads : ℕ) (book more : List Event) (old now : List PlainInbox) (a n : ℕ) (g : CellId) (new : Result Value Fault) (sends : List Action) (f : Option Fault) → store_with cells threads book (taken_of old) ≡ s
    → more ≡ book ++ event_of a (Act g n new sends) ∷ [] → now ≡ mailed_all (set old g.number (finished f (get_or old g.number no_inbox))) sends → n ≡ suc (mail_after s.cells s.book g.number).acts
    → store_with cells threads more (taken_of now) ≡ store_with s.cells s.threads (s.book ++ event_of a (Act g (suc (mail_after s.cells s.book g.number).acts) new sends) ∷ []) (set s.taken g.number false)
over s cells threads book more old now a n g new sends f is added gone number =
    subst (λ (u : PlainStore). store_with cells threads more (taken_of now) ≡ store_with u.cells u.threads (u.book ++ event_of a (Act g n new sends) ∷ []) (set u.taken g.number false)) is
    (ap (λ b. store_with cells threads b (taken_of now)) added
    ∙ ap (store_with cells threads (book ++ event_of a (Act g n new sends) ∷ [])) (ap taken_of gone ∙ taken_mailed (set old g.number (finished f (get_or old g.number no_inbox))) sends ∙ taken_set old g.number (finished f (get_or old g.number no_inbox))))
    ∙ ap (λ m. store_with s.cells s.threads (s.book ++ event_of a (Act g m new sends) ∷ []) (set s.taken g.number false)) number

-- an action that is taken
pub handed : (s : PlainStore) (cells : List StoreCell) (threads : ℕ) (book : List Event) (old now : List PlainInbox) (g : CellId) → store_with cells threads book (taken_of old) ≡ s
    → now ≡ set old g.number (taken_up (get_or old g.number no_inbox)) → is_some (next (get_or old g.number no_inbox).mailbox) ≡ true
    → store_with cells threads book (taken_of now) ≡ store_with s.cells s.threads s.book (set s.taken g.number true)
handed s cells threads book old now g is up some =
    subst (λ (u : PlainStore). store_with cells threads book (taken_of now) ≡ store_with u.cells u.threads u.book (set u.taken g.number true)) is
    (ap (store_with cells threads book) (ap taken_of up ∙ taken_set old g.number (taken_up (get_or old g.number no_inbox)) ∙ ap (set (taken_of old) g.number) some))

-- ---- an inbox that was read

-- how many actions its agent has run
pub acts_read : (s : PlainStore) (cells : List StoreCell) (threads : ℕ) (slots : List Slot) (bs : List Inbox) (views tries : List ℕ) (book : List Event) (i : ℕ) (b : Inbox) (g : CellId) → store_with cells threads book (taken_of (plain_inboxes bs)) ≡ s
    → IsKept cells threads slots (plain_inboxes bs) views tries book → has_agent s.cells g ≡ true → i ≡ g.number → b ≡ get_or bs i b → b.acts ≡ (mail_after s.cells s.book g.number).acts
acts_read s cells threads slots bs views tries book i b g is h has at there =
    let in_cells = agent_in cells g (subst (λ (u : PlainStore). has_agent u.cells g ≡ true) (sym is) has) in
    ap (λ (y : PlainInbox). y.acts) (inbox_is cells threads slots bs views tries book g.number i b h in_cells at there) ∙ ap (λ (u : PlainStore). (mail_after u.cells u.book g.number).acts) is

-- the fault that its agent keeps
pub fault_read : (s : PlainStore) (cells : List StoreCell) (threads : ℕ) (slots : List Slot) (bs : List Inbox) (views tries : List ℕ) (book : List Event) (i : ℕ) (b : Inbox) (g : CellId) → store_with cells threads book (taken_of (plain_inboxes bs)) ≡ s
    → IsKept cells threads slots (plain_inboxes bs) views tries book → has_agent s.cells g ≡ true → i ≡ g.number → b ≡ get_or bs i b → b.fault ≡ (mail_after s.cells s.book g.number).fault
fault_read s cells threads slots bs views tries book i b g is h has at there =
    let in_cells = agent_in cells g (subst (λ (u : PlainStore). has_agent u.cells g ≡ true) (sym is) has) in
    ap (λ (y : PlainInbox). y.fault) (inbox_is cells threads slots bs views tries book g.number i b h in_cells at there) ∙ ap (λ (u : PlainStore). (mail_after u.cells u.book g.number).fault) is

-- the actions that wait in it
pub actions_read : (s : PlainStore) (cells : List StoreCell) (threads : ℕ) (slots : List Slot) (bs : List Inbox) (views tries : List ℕ) (book : List Event) (i : ℕ) (b : Inbox) (g : CellId) → store_with cells threads book (taken_of (plain_inboxes bs)) ≡ s
    → IsKept cells threads slots (plain_inboxes bs) views tries book → has_agent s.cells g ≡ true → i ≡ g.number → b ≡ get_or bs i b → b.mailbox.plain.actions ≡ (mail_after s.cells s.book g.number).actions
actions_read s cells threads slots bs views tries book i b g is h has at there =
    let in_cells = agent_in cells g (subst (λ (u : PlainStore). has_agent u.cells g ≡ true) (sym is) has) in
    ap (λ (y : PlainInbox). y.mailbox.actions) (inbox_is cells threads slots bs views tries book g.number i b h in_cells at there) ∙ ap (λ (u : PlainStore). (mail_after u.cells u.book g.number).actions) is

-- the span of the first of them
pub span_first : (xs : List Action) (x : Action) → Some x ≡ first xs → x.span ≡ span_of xs
span_first [] x e = absurd (false≢true (sym (ap is_there e)))
span_first (y ∷ xs) x e = ap (λ (o : Option Action). span_or y o) e
  where
    span_or : Action → Option Action → Span
    span_or z None = z.span
    span_or z (Some w) = w.span

pub span_none : (xs : List Action) → None ≡ first xs → span_of [] ≡ span_of xs
span_none [] e = refl
span_none (y ∷ xs) e = absurd (false≢true (ap is_there e))

-- how many actions wait in it
pub waiting_read : (s : PlainStore) (cells : List StoreCell) (threads : ℕ) (slots : List Slot) (bs : List Inbox) (views tries : List ℕ) (book : List Event) (i : ℕ) (b : Inbox) (g : CellId) → store_with cells threads book (taken_of (plain_inboxes bs)) ≡ s
    → IsKept cells threads slots (plain_inboxes bs) views tries book → has_agent s.cells g ≡ true → i ≡ g.number → b ≡ get_or bs i b → length b.mailbox.plain.actions ≡ length (mail_after s.cells s.book g.number).actions
waiting_read s cells threads slots bs views tries book i b g is h has at there =
    let in_cells = agent_in cells g (subst (λ (u : PlainStore). has_agent u.cells g ≡ true) (sym is) has) in
    ap (λ (y : PlainInbox). length y.mailbox.actions) (inbox_is cells threads slots bs views tries book g.number i b h in_cells at there) ∙ ap (λ (u : PlainStore). length (mail_after u.cells u.book g.number).actions) is

-- what it runs next
pub next_of : (s : PlainStore) (cells : List StoreCell) (threads : ℕ) (slots : List Slot) (bs : List Inbox) (views tries : List ℕ) (book : List Event) (g : CellId) → store_with cells threads book (taken_of (plain_inboxes bs)) ≡ s
    → IsKept cells threads slots (plain_inboxes bs) views tries book → has_agent s.cells g ≡ true → next (get_or (plain_inboxes bs) g.number no_inbox).mailbox ≡ next_action s.cells s.book g
next_of s cells threads slots bs views tries book g is h has =
    let in_cells = agent_in cells g (subst (λ (u : PlainStore). has_agent u.cells g ≡ true) (sym is) has) in
    let many = h.as_many in
    let below : g.number < length (plain_inboxes bs) = omega (arith, in_cells, many) in
    ap (λ (p : PlainInbox). next p.mailbox) (h.mail g.number below)
    ∙ next_is (goes_on (nth cells g.number)) (get_or (plain_inboxes bs) g.number no_inbox).mailbox.is_taken (mail_after cells book g.number)
    ∙ ap (λ (u : PlainStore). next_action u.cells u.book g) is

-- there is a number for its next one
pub next_fits : (s : PlainStore) (cells : List StoreCell) (threads : ℕ) (slots : List Slot) (bs : List Inbox) (views tries : List ℕ) (book : List Event) (i : ℕ) (b : Inbox) (g : CellId) → store_with cells threads book (taken_of (plain_inboxes bs)) ≡ s
    → IsKept cells threads slots (plain_inboxes bs) views tries book → has_agent s.cells g ≡ true → i ≡ g.number → b ≡ get_or bs i b → Fits w32 (b.acts + 1)
next_fits s cells threads slots bs views tries book i b g is h has at there =
    let acts = acts_read s cells threads slots bs views tries book i b g is h has at there in
    let few = few_acts s.cells s.book g.number in
    let most : length s.book ≤ most_events = subst (λ (u : PlainStore). length u.book ≤ most_events) is h.legal.few in
    fits_next b.acts (omega (arith, acts, few, most))

-- it has run no more than there may be events
pub acts_few : (s : PlainStore) (cells : List StoreCell) (threads : ℕ) (slots : List Slot) (bs : List Inbox) (views tries : List ℕ) (book : List Event) (g : CellId) → store_with cells threads book (taken_of (plain_inboxes bs)) ≡ s
    → IsKept cells threads slots (plain_inboxes bs) views tries book → has_agent s.cells g ≡ true → (get_or (plain_inboxes bs) g.number no_inbox).acts ≤ most_events
acts_few s cells threads slots bs views tries book g is h has =
    let in_cells = agent_in cells g (subst (λ (u : PlainStore). has_agent u.cells g ≡ true) (sym is) has) in
    let many = h.as_many in
    let below : g.number < length (plain_inboxes bs) = omega (arith, in_cells, many) in
    let acts : (get_or (plain_inboxes bs) g.number no_inbox).acts ≡ (mail_after cells book g.number).acts = ap (λ (p : PlainInbox). p.acts) (h.mail g.number below) in
    let few = few_acts cells book g.number in
    let most : length book ≤ most_events = h.legal.few in
    omega (arith, acts, few, most)

-- where its first action is taken, it is there, and the agent hasn't failed
pub taken_stands : (s : PlainStore) (cells : List StoreCell) (threads : ℕ) (slots : List Slot) (bs : List Inbox) (views tries : List ℕ) (book : List Event) (i : ℕ) (b : Inbox) (g : CellId) → store_with cells threads book (taken_of (plain_inboxes bs)) ≡ s
    → IsKept cells threads slots (plain_inboxes bs) views tries book → has_agent s.cells g ≡ true → i ≡ g.number → b ≡ get_or bs i b → IsMailbox b.mailbox.plain → is_taken s.taken g ≡ true
    → (is_failed s.cells s.book g ≡ false) × (waits (mail_after s.cells s.book g.number).actions ≡ true)
taken_stands s cells threads slots bs views tries book i b g is h has at there box taken =
    let in_cells = agent_in cells g (subst (λ (u : PlainStore). has_agent u.cells g ≡ true) (sym is) has) in
    let many = many_inboxes cells threads slots bs views tries book h in
    let in_boxes : i < length bs = omega (arith, in_cells, many, at) in
    let up : b.mailbox.plain.is_taken ≡ true =
    ap (λ (y : Inbox). y.mailbox.plain.is_taken) there ∙ taken_is bs i b in_boxes ∙ ap (λ k. get_or (taken_of (plain_inboxes bs)) k false) at ∙ ap (λ (u : PlainStore). get_or u.taken g.number false) is ∙ taken in
    let r = taken_waits (goes_on (nth cells g.number)) (mail_after cells book g.number) (plain_inbox b) (inbox_is cells threads slots bs views tries book g.number i b h in_cells at there) box up in
    subst (λ (u : PlainStore). (is_failed u.cells u.book g ≡ false) × (waits (mail_after u.cells u.book g.number).actions ≡ true)) is r

-- ---- a slot that was read

default_free : {A : Type 0} (xs : List A) (k : ℕ) (d e : A) → k < length xs → get_or xs k d ≡ get_or xs k e
default_free [] k d e lt = absurd (omega (arith, lt))
default_free (x ∷ xs) zero d e lt = refl
default_free (x ∷ xs) (suc k) d e lt = default_free xs k d e (omega (arith, lt))

slot_is : (cells : List StoreCell) (threads : ℕ) (slots : List Slot) (boxes : List PlainInbox) (views tries : List ℕ) (book : List Event) (n i : ℕ) (x : Slot) → IsKept cells threads slots boxes views tries book → n < length cells → i ≡ n → x ≡ get_or slots i x → IsSlot (opening cells) book n x
slot_is cells threads slots boxes views tries book n i x h lt is at =
    let many = h.many in
    let below : n < length slots = omega (arith, lt, many) in
    subst (IsSlot (opening cells) book n) (default_free slots n no_slot x below ∙ sym (subst (λ k. x ≡ get_or slots k x) is at)) (h.values n below)

-- the slot of a cell of the store
pub slot_read : (s : PlainStore) (cells : List StoreCell) (threads : ℕ) (slots : List Slot) (boxes : List PlainInbox) (views tries : List ℕ) (book : List Event) (i : ℕ) (x : Slot) (c : CellId) → store_with cells threads book (taken_of boxes) ≡ s
    → IsKept cells threads slots boxes views tries book → has_cell s.cells c ≡ true → i ≡ c.number → x ≡ get_or slots i x → IsSlot (opening s.cells) s.book c.number x
slot_read s cells threads slots boxes views tries book i x c is h has at there =
    let in_cells = cell_in cells c (subst (λ (u : PlainStore). has_cell u.cells c ≡ true) (sym is) has) in
    subst (λ (u : PlainStore). IsSlot (opening u.cells) u.book c.number x) is (slot_is cells threads slots boxes views tries book c.number i x h in_cells at there)

-- a cell that is a ref is one
pub ref_is_cell : (cells : List StoreCell) (c : CellId) → has_ref cells c ≡ true → has_cell cells c ≡ true
ref_is_cell cells c h = (both (same_kind c.kind Ref) (has_cell cells c) h).1

-- the newest value of its cell
pub newest_read : (w : World) (book : List Event) (k : ℕ) (s : Slot) (x : Version) → IsSlot w book k s → last_item s.ring.items ≡ Some x → x.value ≡ newest w book k
newest_read w book k s x h last = let n = newest_kept w book k s h in ap (λ o. value_in o n.mid) (sym last ∙ n.last) ∙ n.value
  where
    value_in : Option Version → Version → Value
    value_in None y = y.value
    value_in (Some y) z = y.value

-- whether its cell was written at a place or later
pub written_read : (w : World) (book : List Event) (k p : ℕ) (s : Slot) (x : Version) → IsSlot w book k s → last_item s.ring.items ≡ Some x → nat_lt p x.written ≡ written k p book
written_read w book k p s x h last = go (nat_lt p x.written) refl
  where
    n : Newest w book k s.ring.items
    n = newest_kept w book k s h

    written_in : Option Version → Version → ℕ
    written_in None y = y.written
    written_in (Some y) z = y.written

    same : x.written ≡ n.mid.written
    same = ap (λ o. written_in o n.mid) (sym last ∙ n.last)

    no_less : nat_lt p x.written ≡ false → x.written ≤ p
    no_less q = grind (arith, nat_tests)

    go : (t : Bool) → nat_lt p x.written ≡ t → t ≡ written k p book
    go true q = sym (n.since p (subst (λ m. p < m) same (ltb-true p x.written q)))
    go false q = sym (n.not_since p (subst (λ m. m ≤ p) same (no_less q)))
