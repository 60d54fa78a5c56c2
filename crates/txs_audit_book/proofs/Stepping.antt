-- What is kept agrees with one more event.
use Rattle.std.proofs.Common.{◌≡◌, ◌≤◌, ◌<◌, ℕ, zero, suc, Bool, true, false, ◌&&◌, ◌==◌, nat_lt, nat_le, List, [], ◌∷◌, ◌++◌, length, get_or, Some, None, Result, Ok, Err, refl, sym, ap, ◌∙◌, subst, arith, length-append, if◌then◌else◌}
use Rattle.std.proofs.lemmas.Bool.{leb-true, leb-false, ltb-true}
use Rattle.std.proofs.lemmas.Bool.Decides.{nat_tests}
use Rattle.txs_tree_eval_transaction.specs.Pasts.{latest}
use Rattle.txs_value_data.specs.Places.{nth}
use Rattle.txs_value_data.specs.declared.fault.Fault.{Fault}
use Rattle.txs_value_cell.specs.Cells.{World}
use Rattle.txs_value_cell.specs.declared.action.Action.{Action}
use Rattle.txs_value_data.specs.Limits.{most_events}
use Rattle.txs_value_data.specs.declared.value.CellId.{CellId}
use Rattle.txs_value_data.specs.declared.value.Value.{Value}
use Rattle.txs_value_data.specs.declared.value.Value.TheVariants.{Nil}
use Rattle.txs_world_book.specs.Book.{after, are_refs, are_sends, cells_in, counts, goes_on, has_agent, has_ref, mail_after, mail_changed, no_mail, opening, state_of, value_or, writes_of}
use Rattle.txs_world_book.specs.Served.{event_of}
use Rattle.txs_world_book.specs.Stands.{Marked}
use Rattle.txs_world_book.specs.declared.cell.StoreCell.{StoreCell}
use Rattle.txs_world.proofs.Kept.{ref_in, agent_in}
use Rattle.txs_world_book.proofs.Growth.{after_front, mail_last}
use Rattle.txs_world_book.proofs.Outcomes.{both}
use Rattle.txs_world_book.proofs.Standing.{actor_more}
use Rattle.txs_world_protocol.specs.Ask.{Writes, buffered}
use Rattle.txs_world_protocol.specs.declared.event.Event.{Event}
use Rattle.txs_world_protocol.specs.declared.event.EventKind.{EventKind}
use Rattle.txs_world_protocol.specs.declared.event.EventKind.TheVariants.{Read, Commit, Retry, Fail, Refused, Send, SendRefused, Act, Swap, Broke}
use Rattle.txs_audit_book.specs.Gone.{PlainInbox, IsGone, IsHistory, IsInbox, IsPast, no_inbox}
use Rattle.txs_theorem_audit.specs.Verdict.{is_legal_kind}
use Rattle.txs_audit_book.specs.Moves.{written_all, all_below, all_sent_below, AllWithin, inbox_changed, mail_put, MayPut}
use Rattle.txs_audit_book.proofs.Earlier.{past_more}
use Rattle.txs_audit_book.proofs.Mailing.{act_stands, acts_left, equal, inbox_more, put_many, put_moves}
use Rattle.txs_audit_book.proofs.Histories.{Apart, after_end, history_more, refs_apart, written_many, written_moves}

below : (k n : ℕ) → k < n → nat_lt k n ≡ true
below k n lt = grind (arith, nat_tests)

refs_below : (cells : List StoreCell) (n m : ℕ) (ws : Writes) → n ≡ length cells → are_refs cells m (cells_in ws) ≡ true → all_below n ws ≡ true
refs_below cells n m [] e h = refl
refs_below cells n m (w ∷ ws) e h =
    let a = both (has_ref cells w.0) (nat_le m w.0.number && are_refs cells (suc w.0.number) (cells_in ws)) h in
    let b = both (nat_le m w.0.number) (are_refs cells (suc w.0.number) (cells_in ws)) a.1 in
    let lt = ref_in cells w.0 a.0 in
    ap (λ t. t && all_below n ws) (below w.0.number n (omega (arith, e, lt))) ∙ refs_below cells n (suc w.0.number) ws e b.1

sends_below : (cells : List StoreCell) (n : ℕ) (xs : List Action) → n ≡ length cells → are_sends cells xs ≡ true → all_sent_below n xs ≡ true
sends_below cells n [] e h = refl
sends_below cells n (x ∷ xs) e h =
    let a = both (has_agent cells x.agent) (are_sends cells xs) h in
    let lt = agent_in cells x.agent a.0 in
    ap (λ t. t && all_sent_below n xs) (below x.agent.number n (omega (arith, e, lt))) ∙ sends_below cells n xs e a.1

state_below : (n : ℕ) (g : CellId) (new : Result Value Fault) → g.number < n → all_below n (state_of g new) ≡ true
state_below n g (Ok v) lt = ap (λ t. t && true) (below g.number n lt)
state_below n g (Err f) lt = refl

state_apart : (g : CellId) (new : Result Value Fault) → Apart (state_of g new)
state_apart g (Ok v) = (refl, tt)
state_apart g (Err f) = tt

-- what a legal event writes is there, and no cell twice
pub legal_below : (cells : List StoreCell) (done : List Event) (a n : ℕ) (d : EventKind) → n ≡ length cells → is_legal_kind cells done a d ≡ true → all_below n (writes_of d) ≡ true
legal_below cells done a n (Read c) e h = refl
legal_below cells done a n (Commit at view ws sends) e h = refs_below cells n 0 ws e (both (are_refs cells 0 (cells_in ws)) _ h).0
legal_below cells done a n (Retry since c cause) e h = refl
legal_below cells done a n (Fail at view) e h = refl
legal_below cells done a n (Refused at view g) e h = refl
legal_below cells done a n (Send x) e h = refl
legal_below cells done a n (SendRefused g) e h = refl
legal_below cells done a n (Act g number new sends) e h = let lt = agent_in cells g (act_stands cells done a g number new sends h).has in state_below n g new (omega (arith, e, lt))
legal_below cells done a n (Swap new) e h = refl
legal_below cells done a n (Broke at) e h = refl

legal_apart : (cells : List StoreCell) (done : List Event) (a : ℕ) (d : EventKind) → is_legal_kind cells done a d ≡ true → Apart (writes_of d)
legal_apart cells done a (Read c) h = tt
legal_apart cells done a (Commit at view ws sends) h = refs_apart cells 0 ws (both (are_refs cells 0 (cells_in ws)) _ h).0
legal_apart cells done a (Retry since c cause) h = tt
legal_apart cells done a (Fail at view) h = tt
legal_apart cells done a (Refused at view g) h = tt
legal_apart cells done a (Send x) h = tt
legal_apart cells done a (SendRefused g) h = tt
legal_apart cells done a (Act g number new sends) h = state_apart g new
legal_apart cells done a (Swap new) h = tt
legal_apart cells done a (Broke at) h = tt

pub may_put : (cells : List StoreCell) (histories : List (List (ℕ × Value))) (bs : List PlainInbox) (views tries : List ℕ) (done : List Event) (a : ℕ) (d : EventKind) → IsGone cells histories bs views tries done → is_legal_kind cells done a d ≡ true → MayPut cells bs d
may_put cells histories bs views tries done a (Read c) g h = tt
may_put cells histories bs views tries done a (Commit at view ws sends) g h =
    sends_below cells (length bs) sends g.as_many (both (are_sends cells sends) _ (both (are_refs cells 0 (cells_in ws)) _ h).1).0
may_put cells histories bs views tries done a (Retry since c cause) g h = tt
may_put cells histories bs views tries done a (Fail at view) g h = tt
may_put cells histories bs views tries done a (Refused at view agent) g h = tt
may_put cells histories bs views tries done a (Send x) g h =
    sends_below cells (length bs) (x ∷ []) g.as_many (ap (λ b. b && true) (both (has_agent cells x.agent) _ h).0)
may_put cells histories bs views tries done a (SendRefused agent) g h = tt
may_put cells histories bs views tries done a (Act agent number new sends) g h =
    let s = act_stands cells done a agent number new sends h in
    let lt = agent_in cells agent s.has in
    let many = g.as_many in
    let there : agent.number < length bs = omega (arith, lt, many) in
    (lt, there, acts_left (mail_after cells done agent.number) (get_or bs agent.number no_inbox) (g.mail agent.number there) s.waits_there, sends_below cells (length bs) sends many s.theirs)
may_put cells histories bs views tries done a (Swap new) g h = tt
may_put cells histories bs views tries done a (Broke at) g h = tt

pub all_within : (cells : List StoreCell) (histories : List (List (ℕ × Value))) (bs : List PlainInbox) (views tries : List ℕ) (done : List Event) → IsGone cells histories bs views tries done → AllWithin (suc (length done)) histories
all_within cells histories bs views tries done g k = go (nat_lt k (length histories)) refl
  where
    beyond : (hs : List (List (ℕ × Value))) (i : ℕ) → length hs ≤ i → get_or hs i [] ≡ []
    beyond [] i le = refl
    beyond (h ∷ hs) zero le = absurd (omega (arith, le))
    beyond (h ∷ hs) (suc i) le = beyond hs i (omega (arith, le))

    lt_of : nat_lt k (length histories) ≡ true → k < length histories
    lt_of q = grind (arith, nat_tests, q)

    ge_of : nat_lt k (length histories) ≡ false → length histories ≤ k
    ge_of q = grind (arith, nat_tests, q)

    go : (b : Bool) → nat_lt k (length histories) ≡ b → latest 0 (get_or histories k []) ≤ suc (length done)
    go true q = let w = (g.values k (lt_of q)).within in omega (arith, w)
    go false q = subst (λ h. latest 0 h ≤ suc (length done)) (sym (beyond histories k (ge_of q))) (omega arith)

-- what isn't written stays
unwritten_beyond : (n k : ℕ) (ws : Writes) → n ≤ k → all_below n ws ≡ true → buffered ws k ≡ None
unwritten_beyond n k [] le h = refl
unwritten_beyond n k (w ∷ ws) le h =
    let m = both (nat_lt w.0.number n) (all_below n ws) h in
    go (ltb-true w.0.number n m.0) (unwritten_beyond n k ws le m.1) (w.0.number == k) refl
  where
    go : w.0.number < n → buffered ws k ≡ None → (t : Bool) → (w.0.number == k) ≡ t → (if t then Some w.1 else buffered ws k) ≡ None
    go lt r true e = let same = equal w.0.number k e in absurd (omega (arith, same, lt, le))
    go lt r false e = r

nothing_more : (cells : List StoreCell) (done : List Event) (e : Event) (k p : ℕ) → buffered (writes_of e.kind) k ≡ None → ((q : ℕ) → after (opening cells) done q k ≡ Nil) → after (opening cells) (done ++ e ∷ []) p k ≡ Nil
nothing_more cells done e k p none h = go (nat_le p (length done)) refl
  where
    go : (b : Bool) → nat_le p (length done) ≡ b → after (opening cells) (done ++ e ∷ []) p k ≡ Nil
    go true q = ap (λ (R : World). R k) (after_front (opening cells) done (e ∷ []) p (leb-true p (length done) q)) ∙ h p
    go false q =
        ap (λ (R : World). R k) (after_end (opening cells) done e p (leb-false p (length done) q))
        ∙ ap (λ o. value_or o (after (opening cells) done (length done) k)) none ∙ h (length done)

-- one more event that may stand there
pub gone_more : (cells : List StoreCell) (histories now : List (List (ℕ × Value))) (bs boxes : List PlainInbox) (views tries vs ts : List ℕ) (done more : List Event) (a n : ℕ) (d : EventKind)
    → IsGone cells histories bs views tries done → length done < most_events → is_legal_kind cells done a d ≡ true → n ≡ suc (length done)
    → now ≡ written_all n histories (writes_of d) → boxes ≡ mail_put cells n d bs → Marked true a n views vs → Marked (counts false d) a n tries ts → more ≡ done ++ event_of a d ∷ []
    → IsGone cells now boxes vs ts more
gone_more cells histories now bs boxes views tries vs ts done more a n d g few h is values mail all some to =
    subst (IsGone cells now boxes vs ts) (sym to) (record {
      few = (let l = length-append done (event_of a d ∷ []) in omega (arith, few, l));
      many = ap length values ∙ written_many n histories (writes_of d) ∙ g.many;
      as_many = ap length mail ∙ put_many cells n d bs ∙ g.as_many;
      values = λ k lt.
          let in_old : k < length histories = (let e = ap length values ∙ written_many n histories (writes_of d) in omega (arith, lt, e)) in
          subst (λ x. IsHistory (opening cells) (done ++ event_of a d ∷ []) k x)
          (sym (ap (λ l. get_or l k []) values ∙ ap (λ i. get_or (written_all i histories (writes_of d)) k []) is ∙ written_moves (suc (length done)) histories (writes_of d) k (legal_apart cells done a d h) in_old))
          (history_more (opening cells) done (event_of a d) k (get_or histories k []) (g.values k in_old));
      mail = λ k lt.
          let in_old : k < length bs = (let e = ap length mail ∙ put_many cells n d bs in omega (arith, lt, e)) in
          subst (λ x. IsInbox x (get_or boxes k no_inbox)) (sym (mail_last (goes_on (nth cells k)) k no_mail done (event_of a d)))
          (subst (λ x. IsInbox (mail_changed (goes_on (nth cells k)) k d (mail_after cells done k)) x) (sym (ap (λ l. get_or l k no_inbox) mail ∙ put_moves cells n d bs k in_old)) (inbox_more cells done a k n d (get_or bs k no_inbox) h (g.mail k in_old)));
      past = λ k lt.
          let in_old : k < length bs = (let e = ap length mail ∙ put_many cells n d bs in omega (arith, lt, e)) in
          subst (IsPast (goes_on (nth cells k)) k (done ++ event_of a d ∷ []))
          (sym (ap (λ l. get_or l k no_inbox) mail ∙ put_moves cells n d bs k in_old ∙ ap (λ i. inbox_changed (goes_on (nth cells k)) k i d (get_or bs k no_inbox)) is))
          (past_more cells done a k d (get_or bs k no_inbox) h (g.mail k in_old) (g.past k in_old));
      beyond = λ k le p. nothing_more cells done (event_of a d) k p (unwritten_beyond (length cells) k (writes_of d) le (legal_below cells done a (length cells) d refl h)) (g.beyond k le);
      all = λ b. actor_more true views vs done a d b (subst (λ i. Marked true a i views vs) is all) (g.all b);
      some = λ b. actor_more false tries ts done a d b (subst (λ i. Marked (counts false d) a i tries ts) is some) (g.some b);
    })
