-- What an event makes of what is known of agents.
use Rattle.std.proofs.Common.{◌≡◌, ◌≢◌, ◌<◌, ◌+◌, ℕ, suc, Bool, true, false, not, ◌&&◌, ◌==◌, nat_lt, List, [], ◌∷◌, ◌++◌, length, drop, get_or, set, Result, Ok, Err, refl, sym, ap, ◌∙◌, subst, arith, append-nil, append_assoc, length-append, if◌then◌else◌}
use Rattle.std.proofs.lemmas.Bool.{false≢true, lt-ltb, le-ltb}
use Rattle.std.proofs.lemmas.Bool.Decides.{nat_tests}
use Rattle.std.proofs.lemmas.List.{get_or-set_same, get_or-set_other, length-set, length-drop, drop-drop, drop-append-le}
use Rattle.txs_value_data.specs.Places.{nth}
use Rattle.txs_value_data.specs.declared.fault.Fault.{Fault}
use Rattle.txs_value_cell.specs.declared.action.Action.{Action}
use Rattle.txs_value_data.specs.declared.value.CellId.{CellId}
use Rattle.txs_value_data.specs.declared.value.Value.{Value}
use Rattle.txs_world_book.specs.Book.{Mail, acted, are_sends, first_failed, goes_on, has_agent, is_failed, is_there, may_send, mail_after, mail_changed, mailed, sent_to, waits}
use Rattle.txs_world_book.specs.declared.cell.StoreCell.{StoreCell}
use Rattle.txs_world_book.proofs.Outcomes.{both}
use Rattle.txs_world_protocol.specs.declared.event.Event.{Event}
use Rattle.txs_world_protocol.specs.declared.event.EventKind.{EventKind}
use Rattle.txs_world_protocol.specs.declared.event.EventKind.TheVariants.{Read, Commit, Retry, Fail, Refused, Send, SendRefused, Act, Swap, Broke}
use Rattle.txs_audit_book.specs.Gone.{PlainInbox, IsInbox, no_inbox}
use Rattle.txs_theorem_audit.specs.Verdict.{is_legal_kind}
use Rattle.txs_audit_book.specs.Moves.{entered, acted_in, entered_all, inbox_changed, mail_put}

pub equal : (a b : ℕ) → (a == b) ≡ true → a ≡ b
equal a b e = grind (arith, nat_tests)

unequal : (a b : ℕ) → (a == b) ≡ false → a ≢ b
unequal a b e = grind (arith, nat_tests)

-- ---- one inbox

-- whether an action waits
pub waiting : (m : Mail) (b : PlainInbox) → IsInbox m b → nat_lt b.acts (length b.sent) ≡ waits m.actions
waiting m b h = go m.actions h.queue
  where
    go : (xs : List Action) → drop b.acts b.sent ≡ xs → nat_lt b.acts (length b.sent) ≡ waits xs
    go [] q = let n = length-drop b.acts b.sent in let z = ap length q in le-ltb b.acts (length b.sent) (omega (arith, n, z))
    go (x ∷ xs) q = let n = length-drop b.acts b.sent in let z = ap length q in lt-ltb b.acts (length b.sent) (omega (arith, n, z))

pub acts_left : (m : Mail) (b : PlainInbox) → IsInbox m b → waits m.actions ≡ true → b.acts < length b.sent
acts_left m b h w = go m.actions h.queue w
  where
    go : (xs : List Action) → drop b.acts b.sent ≡ xs → waits xs ≡ true → b.acts < length b.sent
    go [] q e = absurd (false≢true e)
    go (x ∷ xs) q e = let n = length-drop b.acts b.sent in let z = ap length q in omega (arith, n, z)

inbox_entered : (m : Mail) (b : PlainInbox) (xs : List Action) → IsInbox m b → IsInbox (mailed xs m) (entered xs b)
inbox_entered m b xs h = record {
  fault = h.fault;
  acts = h.acts;
  queue = drop-append-le b.acts b.sent xs h.enough ∙ ap (λ l. l ++ xs) h.queue;
  enough = (let e = h.enough in let n = length-append b.sent xs in omega (arith, e, n));
}

-- the queue without its first action
shorter : (m : Mail) (b : PlainInbox) → IsInbox m b → drop (suc b.acts) b.sent ≡ drop 1 m.actions
shorter m b h = let one : suc b.acts ≡ b.acts + 1 = omega arith in ap (λ n. drop n b.sent) one ∙ sym (drop-drop 1 b.acts b.sent) ∙ ap (drop 1) h.queue

inbox_acted : (goes : Bool) (n : ℕ) (new : Result Value Fault) (m : Mail) (b : PlainInbox) → waits m.actions ≡ true → IsInbox m b → IsInbox (acted goes new m) (acted_in goes n new b)
inbox_acted goes n (Ok v) m b w h = record { fault = h.fault; acts = ap suc h.acts; queue = shorter m b h; enough = (let l = acts_left m b h w in omega (arith, l)) }
inbox_acted true n (Err f) m b w h = record { fault = h.fault; acts = ap suc h.acts; queue = shorter m b h; enough = (let l = acts_left m b h w in omega (arith, l)) }
inbox_acted false n (Err f) m b w h = record { fault = refl; acts = ap suc h.acts; queue = shorter m b h; enough = (let l = acts_left m b h w in omega (arith, l)) }

-- what a legal action tells
pub record ActStands (cells : List StoreCell) (done : List Event) (g : CellId) (number : ℕ) (sends : List Action) : Type 0 where
  pub has : has_agent cells g ≡ true
  pub runs : is_failed cells done g ≡ false
  pub waits_there : waits (mail_after cells done g.number).actions ≡ true
  pub theirs : are_sends cells sends ≡ true

not_true : (b : Bool) → not b ≡ true → b ≡ false
not_true true e = absurd (false≢true e)
not_true false e = refl

pub act_stands : (cells : List StoreCell) (done : List Event) (a : ℕ) (g : CellId) (number : ℕ) (new : Result Value Fault) (sends : List Action) → is_legal_kind cells done a (Act g number new sends) ≡ true → ActStands cells done g number sends
act_stands cells done a g number new sends h =
    let m = mail_after cells done g.number in
    let last = not (is_there (first_failed cells done sends)) in
    let p = both (has_agent cells g) (not (is_failed cells done g) && (waits m.actions && ((number == suc m.acts) && (may_send new sends && (are_sends cells sends && last))))) h in
    let q = both (not (is_failed cells done g)) (waits m.actions && ((number == suc m.acts) && (may_send new sends && (are_sends cells sends && last)))) p.1 in
    let r = both (waits m.actions) ((number == suc m.acts) && (may_send new sends && (are_sends cells sends && last))) q.1 in
    let s = both (number == suc m.acts) (may_send new sends && (are_sends cells sends && last)) r.1 in
    let t = both (may_send new sends) (are_sends cells sends && last) s.1 in
    record { has = p.0; runs = not_true (is_failed cells done g) q.0; waits_there = r.0; theirs = (both (are_sends cells sends) last t.1).0 }

-- an inbox after an event that may stand behind those that were gone through
pub inbox_more : (cells : List StoreCell) (done : List Event) (a k n : ℕ) (d : EventKind) (b : PlainInbox) → is_legal_kind cells done a d ≡ true → IsInbox (mail_after cells done k) b → IsInbox (mail_changed (goes_on (nth cells k)) k d (mail_after cells done k)) (inbox_changed (goes_on (nth cells k)) k n d b)
inbox_more cells done a k n (Read c) b l h = h
inbox_more cells done a k n (Commit at view ws sends) b l h = inbox_entered (mail_after cells done k) b (sent_to k sends) h
inbox_more cells done a k n (Retry since c cause) b l h = h
inbox_more cells done a k n (Fail at view) b l h = h
inbox_more cells done a k n (Refused at view g) b l h = h
inbox_more cells done a k n (Send x) b l h = inbox_entered (mail_after cells done k) b (sent_to k (x ∷ [])) h
inbox_more cells done a k n (SendRefused g) b l h = h
inbox_more cells done a k n (Act g number new sends) b l h =
    inbox_entered (if g.number == k then acted goes new (mail_after cells done k) else mail_after cells done k) (if g.number == k then acted_in goes n new b else b) (sent_to k sends) (go (g.number == k) refl)
  where
    goes : Bool
    goes = goes_on (nth cells k)

    stands : ActStands cells done g number sends
    stands = act_stands cells done a g number new sends l

    go : (t : Bool) → (g.number == k) ≡ t → IsInbox (if t then acted (goes_on (nth cells k)) new (mail_after cells done k) else mail_after cells done k) (if t then acted_in (goes_on (nth cells k)) n new b else b)
    go true e = inbox_acted (goes_on (nth cells k)) n new (mail_after cells done k) b (subst (λ j. waits (mail_after cells done j).actions ≡ true) (equal g.number k e) stands.waits_there) h
    go false e = h
inbox_more cells done a k n (Swap new) b l h = absurd (false≢true l)
inbox_more cells done a k n (Broke at) b l h = absurd (false≢true l)

-- ---- all of them

pub entered_many : (bs : List PlainInbox) (xs : List Action) → length (entered_all bs xs) ≡ length bs
entered_many bs [] = refl
entered_many bs (x ∷ xs) = entered_many (set bs x.agent.number (entered (x ∷ []) (get_or bs x.agent.number no_inbox))) xs ∙ length-set bs x.agent.number (entered (x ∷ []) (get_or bs x.agent.number no_inbox))

entered_none : (b : PlainInbox) → entered [] b ≡ b
entered_none b = ap (λ l. record { sent = l; acts = b.acts; fault = b.fault; failed = b.failed }) (append-nil b.sent)

entered_more : (x : Action) (xs : List Action) (b : PlainInbox) → entered xs (entered (x ∷ []) b) ≡ entered (x ∷ xs) b
entered_more x xs b = ap (λ l. record { sent = l; acts = b.acts; fault = b.fault; failed = b.failed }) (append_assoc b.sent (x ∷ []) xs)

pub entered_at : (bs : List PlainInbox) (xs : List Action) (k : ℕ) → k < length bs → get_or (entered_all bs xs) k no_inbox ≡ entered (sent_to k xs) (get_or bs k no_inbox)
entered_at bs [] k lt = sym (entered_none (get_or bs k no_inbox))
entered_at bs (x ∷ xs) k lt =
    let b = entered (x ∷ []) (get_or bs x.agent.number no_inbox) in
    go (entered_at (set bs x.agent.number b) xs k (omega (arith, lt, length-set bs x.agent.number b))) (x.agent.number == k) refl
  where
    b : PlainInbox
    b = entered (x ∷ []) (get_or bs x.agent.number no_inbox)

    go : get_or (entered_all (set bs x.agent.number b) xs) k no_inbox ≡ entered (sent_to k xs) (get_or (set bs x.agent.number b) k no_inbox) → (t : Bool) → (x.agent.number == k) ≡ t
        → get_or (entered_all (set bs x.agent.number b) xs) k no_inbox ≡ entered (if t then x ∷ sent_to k xs else sent_to k xs) (get_or bs k no_inbox)
    go rest true e =
        let same = equal x.agent.number k e in
        let there : get_or (set bs x.agent.number b) k no_inbox ≡ entered (x ∷ []) (get_or bs k no_inbox) =
        ap (λ i. get_or (set bs x.agent.number b) i no_inbox) (sym same) ∙ get_or-set_same bs x.agent.number b no_inbox (subst (λ i. i < length bs) (sym same) lt) ∙ ap (λ i. entered (x ∷ []) (get_or bs i no_inbox)) same in
        rest ∙ ap (entered (sent_to k xs)) there ∙ entered_more x (sent_to k xs) (get_or bs k no_inbox)
    go rest false e =
        let off : k ≢ x.agent.number = λ q. unequal x.agent.number k e (sym q) in
        rest ∙ ap (entered (sent_to k xs)) (get_or-set_other bs x.agent.number k b no_inbox off)

pub put_many : (cells : List StoreCell) (n : ℕ) (d : EventKind) (bs : List PlainInbox) → length (mail_put cells n d bs) ≡ length bs
put_many cells n (Read c) bs = refl
put_many cells n (Commit at view ws sends) bs = entered_many bs sends
put_many cells n (Retry since c cause) bs = refl
put_many cells n (Fail at view) bs = refl
put_many cells n (Refused at view g) bs = refl
put_many cells n (Send x) bs = entered_many bs (x ∷ [])
put_many cells n (SendRefused g) bs = refl
put_many cells n (Act g number new sends) bs =
    entered_many (set bs g.number (acted_in (goes_on (nth cells g.number)) n new (get_or bs g.number no_inbox))) sends ∙ length-set bs g.number (acted_in (goes_on (nth cells g.number)) n new (get_or bs g.number no_inbox))
put_many cells n (Swap new) bs = refl
put_many cells n (Broke at) bs = refl

pub put_moves : (cells : List StoreCell) (n : ℕ) (d : EventKind) (bs : List PlainInbox) (k : ℕ) → k < length bs → get_or (mail_put cells n d bs) k no_inbox ≡ inbox_changed (goes_on (nth cells k)) k n d (get_or bs k no_inbox)
put_moves cells n (Read c) bs k lt = refl
put_moves cells n (Commit at view ws sends) bs k lt = entered_at bs sends k lt
put_moves cells n (Retry since c cause) bs k lt = refl
put_moves cells n (Fail at view) bs k lt = refl
put_moves cells n (Refused at view g) bs k lt = refl
put_moves cells n (Send x) bs k lt = entered_at bs (x ∷ []) k lt
put_moves cells n (SendRefused g) bs k lt = refl
put_moves cells n (Act g number new sends) bs k lt =
    entered_at (set bs g.number over) sends k (subst (λ i. k < i) (sym (length-set bs g.number over)) lt) ∙ ap (entered (sent_to k sends)) (go (g.number == k) refl)
  where
    over : PlainInbox
    over = acted_in (goes_on (nth cells g.number)) n new (get_or bs g.number no_inbox)

    go : (t : Bool) → (g.number == k) ≡ t → get_or (set bs g.number over) k no_inbox ≡ (if t then acted_in (goes_on (nth cells k)) n new (get_or bs k no_inbox) else get_or bs k no_inbox)
    go true e =
        let same = equal g.number k e in
        ap (λ j. get_or (set bs g.number over) j no_inbox) (sym same) ∙ get_or-set_same bs g.number over no_inbox (subst (λ j. j < length bs) (sym same) lt)
        ∙ ap (λ j. acted_in (goes_on (nth cells j)) n new (get_or bs j no_inbox)) same
    go false e = let off : k ≢ g.number = λ q. unequal g.number k e (sym q) in get_or-set_other bs g.number k over no_inbox off
put_moves cells n (Swap new) bs k lt = refl
put_moves cells n (Broke at) bs k lt = refl
