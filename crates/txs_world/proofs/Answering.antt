-- What the store answers, by what was found.
use Rattle.std.proofs.Common.{◌≡◌, ◌<◌, ◌≤◌, ℕ, suc, Bool, true, false, nat_lt, List, [], ◌∷◌, ◌++◌, length, set, Option, Some, None, Result, Err, refl, sym, ap, subst, ◌∙◌, arith, if◌then◌else◌}
use Rattle.std.specs.Prelude.{is_some, ◌↔◌}
use Rattle.std.proofs.lemmas.Bool.{false≢true, ltb-true}
use Rattle.std.proofs.lemmas.Bool.Decides.{nat_tests}
use Rattle.txs_world_protocol.specs.Ask.{Writes}
use Rattle.txs_world_protocol.specs.declared.ask.Ask.TheVariants as ask
use Rattle.txs_world_protocol.specs.declared.ask.Reply.{Reply}
use Rattle.txs_world_protocol.specs.declared.ask.Reply.TheVariants as reply
use Rattle.txs_world_protocol.specs.declared.event.Event.{Event}
use Rattle.txs_world_protocol.specs.declared.event.Cause.TheVariants as cause
use Rattle.txs_world_protocol.specs.declared.event.EventKind.{EventKind}
use Rattle.txs_world_protocol.specs.declared.event.EventKind.TheVariants.{Commit, Retry, Refused, Act}
use Rattle.txs_value_cell.specs.Cells.{World}
use Rattle.txs_value_data.specs.Limits.{most_events}
use Rattle.txs_value_cell.specs.declared.action.Action.{Action}
use Rattle.txs_value_data.specs.Places.{fault_at}
use Rattle.txs_value_data.specs.declared.fault.Fault.{Fault}
use Rattle.txs_value_data.specs.declared.fault.FaultKind.TheVariants.{AgentFailed}
use Rattle.txs_value_data.specs.declared.fault.Span.{Span}
use Rattle.txs_value_data.specs.declared.value.CellId.{CellId}
use Rattle.txs_value_data.specs.declared.value.Value.{Value}
use Rattle.txs_world_book.specs.Book.{actors, has_ref, may_name, is_empty, cells_in, opening, after, newest, is_outdated, is_there, value_or, least_written, first_failed, is_failed, mail_after, LegalKind, Guarded}
use Rattle.txs_world.specs.Kept.{IsEnd, kept_at, end_reply, Ends}
use Rattle.txs_world.specs.Store.{PlainStore, store_with, merged, is_lawful, looks, commits, first_action, next_action, takes, span_of, finishes, hands_out, is_over, serve, store_after, TakesMemory, sends_to, Answers, Replies}
use Rattle.txs_world_book.specs.Served.{Served, served, adds, event_of}
use Rattle.txs_world.specs.declared.commit.End.{End}
use Rattle.txs_world.specs.declared.commit.End.TheVariants.{Reruns, Redoes, Refuses, Commits}
use Rattle.txs_world.proofs.Merging.{joined, ltb_yes, ltb_no, refs_has, Finds, finds, untouched_parts}
use Rattle.txs_world_book.proofs.Older.{ends, outdated_written}
use Rattle.txs_world.proofs.Serves.{actor_in, sender_in, Lawful, lawful_commit, refs_tested, legal_commit, guarded_commit, FindsFailed, finds_failed}

-- ---- reads

-- a value that is looked up
pub looked : (s : PlainStore) (w : World) (a : ℕ) (c : CellId) (p : ℕ) (v : Value) → kept_at w c.number p s.book ≡ Some v → Replies s (looks (is_outdated c.number p s.book) w a c p s.book) (reply.Is v) s
looked s w a c p v is = go (is_outdated c.number p s.book) is
  where
    go : (b : Bool) → (if b then None else Some (after w s.book p c.number)) ≡ Some v → Replies s (looks b w a c p s.book) (reply.Is v) s
    go true q = absurd (false≢true (ap is_there q))
    go false q = (sym (ap (λ o. reply.Is (value_or o v)) q), refl)

-- no memory for it
pub looked_not : (s : PlainStore) (w : World) (a : ℕ) (c : CellId) (p : ℕ) (v : Value) → kept_at w c.number p s.book ≡ Some v → Replies s (looks (is_outdated c.number p s.book) w a c p s.book) reply.Memory s
looked_not s w a c p v is = go (is_outdated c.number p s.book) is
  where
    go : (b : Bool) → (if b then None else Some (after w s.book p c.number)) ≡ Some v → Replies s (looks b w a c p s.book) reply.Memory s
    go true q = absurd (false≢true (ap is_there q))
    go false q = (tt, refl)

-- a value that isn't kept
pub looked_lost : (s : PlainStore) (w : World) (a : ℕ) (c : CellId) (p : ℕ) (r : Reply) (t : PlainStore) → kept_at w c.number p s.book ≡ None → Replies s (adds a (Retry p c cause.Outdated) (reply.Retry c) s.book) r t
    → Replies s (looks (is_outdated c.number p s.book) w a c p s.book) r t
looked_lost s w a c p r t is h = go (is_outdated c.number p s.book) is
  where
    go : (b : Bool) → (if b then None else Some (after w s.book p c.number)) ≡ None → Replies s (looks b w a c p s.book) r t
    go true q = h
    go false q = absurd (false≢true (sym (ap is_there q)))

-- the retry for it may stand
pub lost_legal : (s : PlainStore) (w : World) (a : ℕ) (c : CellId) (p : ℕ) → has_ref s.cells c ≡ true → may_name false s.book a p ≡ true → kept_at w c.number p s.book ≡ None → LegalKind s.cells s.book a (Retry p c cause.Outdated)
lost_legal s w a c p has named is = go (is_outdated c.number p s.book) refl is
  where
    go : (b : Bool) → is_outdated c.number p s.book ≡ b → (if b then None else Some (after w s.book p c.number)) ≡ None → LegalKind s.cells s.book a (Retry p c cause.Outdated)
    go true e q = (has, joined (may_name false s.book a p) (is_outdated c.number p s.book) named e, outdated_written c.number p s.book e)
    go false e q = absurd (false≢true (sym (ap is_there q)))

-- ---- an event that the book may have room for

-- a reply that takes memory
answers_so : (s : PlainStore) (v : Served) (next : PlainStore) (r : Reply) (t : PlainStore) → TakesMemory r → r ≡ v.reply → t ≡ next → Answers s v next r t
answers_so s v next (reply.At p) t m e is = absurd m
answers_so s v next (reply.Is x) t m e is = (e, is)
answers_so s v next (reply.Views p xs) t m e is = (e, is)
answers_so s v next reply.Done t m e is = (e, is)
answers_so s v next (reply.Retry c) t m e is = (e, is)
answers_so s v next (reply.Changed c) t m e is = (e, is)
answers_so s v next (reply.AgentIsFailed g) t m e is = (e, is)
answers_so s v next (reply.Action n x w) t m e is = (e, is)
answers_so s v next reply.Idle t m e is = absurd m
answers_so s v next (reply.Opened p x) t m e is = (e, is)
answers_so s v next reply.Full t m e is = absurd m
answers_so s v next reply.Memory t m e is = absurd m

-- it stands in the book, which has room
pub told : (s t : PlainStore) (a : ℕ) (d : EventKind) (r : Reply) → TakesMemory r → length s.book < most_events → t ≡ store_with s.cells s.threads (s.book ++ event_of a d ∷ []) s.taken → Replies s (adds a d r s.book) r t
told s t a d r m lt is =
    subst (λ b. Replies s (if b then served r (s.book ++ event_of a d ∷ []) else served reply.Full s.book) r t) (sym (ltb_yes (length s.book) most_events lt))
    (answers_so s (served r (s.book ++ event_of a d ∷ [])) (store_with s.cells s.threads (s.book ++ event_of a d ∷ []) s.taken) r t m refl is)

-- there is no memory for it
pub told_not : (s t : PlainStore) (a : ℕ) (d : EventKind) (r : Reply) → TakesMemory r → length s.book < most_events → t ≡ s → Replies s (adds a d r s.book) reply.Memory t
told_not s t a d r m lt is = subst (λ b. Replies s (if b then served r (s.book ++ event_of a d ∷ []) else served reply.Full s.book) reply.Memory t) (sym (ltb_yes (length s.book) most_events lt)) (m, is)

-- the book has no room
pub told_full : (s : PlainStore) (a : ℕ) (d : EventKind) (r : Reply) → most_events ≤ length s.book → Replies s (adds a d r s.book) reply.Full s
told_full s a d r le = subst (λ b. Replies s (if b then served r (s.book ++ event_of a d ∷ []) else served reply.Full s.book) reply.Full s) (sym (ltb_no (length s.book) most_events le)) (refl, refl)

-- where it isn't said to be full
pub has_room : (b : Bool) (n most : ℕ) → (b ≡ true) ↔ (most ≤ n) → b ≡ false → n < most
has_room b n most h e = go (nat_lt n most) refl
  where
    no_less : nat_lt n most ≡ false → most ≤ n
    no_less q = grind (arith, nat_tests)

    go : (t : Bool) → nat_lt n most ≡ t → n < most
    go true q = ltb-true n most q
    go false q = absurd (false≢true (sym e ∙ h.1 (no_less q)))

-- the reply to the end of an action takes memory, and says that it is over
end_takes : (o : Option CellId) → TakesMemory (end_reply o)
end_takes None = tt
end_takes (Some h) = tt

end_over : (o : Option CellId) → is_over (end_reply o) ≡ true
end_over None = refl
end_over (Some h) = refl

-- the event of an action with this state or fault and these sends
abbrev pub act_event : PlainStore → ℕ → CellId → Result Value Fault → List Action → Event
act_event s a g new sends = event_of a (Act g (suc (mail_after s.cells s.book g.number).acts) new sends)

-- the same store and action, where the book has room or hasn't
abbrev pub EndsAs : PlainStore → CellId → Reply → Event → Bool → Reply → PlainStore → Type 0
EndsAs s g p e b r t =
    Answers s (if b then served p (s.book ++ e ∷ []) else served reply.Full s.book)
    (store_with s.cells s.threads (if b then served p (s.book ++ e ∷ []) else served reply.Full s.book).book (if is_over (if b then served p (s.book ++ e ∷ []) else served reply.Full s.book).reply then set s.taken g.number false else s.taken)) r t

-- an action is over
pub acted_so : (s t : PlainStore) (a : ℕ) (g : CellId) (new : Result Value Fault) (sends : List Action) (o : Option CellId) → length s.book < most_events
    → t ≡ store_with s.cells s.threads (s.book ++ act_event s a g new sends ∷ []) (set s.taken g.number false)
    → Ends s a g new sends o (end_reply o) t
acted_so s t a g new sends o lt is =
    let e = act_event s a g new sends in
    subst (λ b. EndsAs s g (end_reply o) e b (end_reply o) t) (sym (ltb_yes (length s.book) most_events lt))
    (answers_so s (served (end_reply o) (s.book ++ e ∷ [])) (store_with s.cells s.threads (s.book ++ e ∷ []) (if is_over (end_reply o) then set s.taken g.number false else s.taken)) (end_reply o) t (end_takes o) refl
    (is ∙ ap (λ b. store_with s.cells s.threads (s.book ++ e ∷ []) (if b then set s.taken g.number false else s.taken)) (sym (end_over o))))

-- there is no memory for that
pub acted_not : (s t : PlainStore) (a : ℕ) (g : CellId) (new : Result Value Fault) (sends : List Action) (o : Option CellId) → length s.book < most_events → t ≡ s → Ends s a g new sends o reply.Memory t
acted_not s t a g new sends o lt is = subst (λ b. EndsAs s g (end_reply o) (act_event s a g new sends) b reply.Memory t) (sym (ltb_yes (length s.book) most_events lt)) (end_takes o, is)

-- there is no room for that
pub acted_full : (s : PlainStore) (a : ℕ) (g : CellId) (new : Result Value Fault) (sends : List Action) (o : Option CellId) → most_events ≤ length s.book → Ends s a g new sends o reply.Full s
acted_full s a g new sends o le = subst (λ b. EndsAs s g (end_reply o) (act_event s a g new sends) b reply.Full s) (sym (ltb_no (length s.book) most_events le)) (refl, refl)

-- what is served where no agent of its sends has failed
pub finishes_so : (s t : PlainStore) (a : ℕ) (g : CellId) (new : Result Value Fault) (sends : List Action) (r : Reply) → first_failed s.cells s.book sends ≡ None → Ends s a g new sends None r t
    → Answers s (serve s.cells a (ask.Finish g new sends) s.book) (store_after s (ask.Finish g new sends) (serve s.cells a (ask.Finish g new sends) s.book)) r t
finishes_so s t a g new sends r none h =
    let n = suc (mail_after s.cells s.book g.number).acts in
    let span = span_of (mail_after s.cells s.book g.number).actions in
    subst (λ o. Answers s (finishes o a g n new sends span s.book) (store_after s (ask.Finish g new sends) (finishes o a g n new sends span s.book)) r t) (sym none) h

-- and where one has
pub finishes_failed : (s t : PlainStore) (a : ℕ) (g x : CellId) (new : Result Value Fault) (sends nothing : List Action) (span : Span) (r : Reply) → first_failed s.cells s.book sends ≡ Some x → span ≡ span_of (mail_after s.cells s.book g.number).actions → nothing ≡ []
    → Ends s a g (Err (fault_at AgentFailed span)) nothing (Some x) r t
    → Answers s (serve s.cells a (ask.Finish g new sends) s.book) (store_after s (ask.Finish g new sends) (serve s.cells a (ask.Finish g new sends) s.book)) r t
finishes_failed s t a g x new sends nothing span r some at empty h =
    let n = suc (mail_after s.cells s.book g.number).acts in
    let here = span_of (mail_after s.cells s.book g.number).actions in
    subst (λ o. Answers s (finishes o a g n new sends here s.book) (store_after s (ask.Finish g new sends) (finishes o a g n new sends here s.book)) r t) (sym some)
    (subst (λ p. Ends s a g (Err (fault_at AgentFailed p)) [] (Some x) r t) at (subst (λ l. Ends s a g (Err (fault_at AgentFailed span)) l (Some x) r t) empty h))

-- a send, by whether its agent has failed
pub sends_so : (s t : PlainStore) (a : ℕ) (x : Action) (r : Reply) (b : Bool) → is_failed s.cells s.book x.agent ≡ b → Replies s (sends_to b a x s.book) r t → Replies s (sends_to (is_failed s.cells s.book x.agent) a x s.book) r t
sends_so s t a x r b e h = subst (λ f. Replies s (sends_to f a x s.book) r t) (sym e) h

-- ---- the end of a transaction

-- what a commit's tests come to
abbrev pub Ended : PlainStore → ℕ → ℕ → ℕ → Writes → Writes → List Action → End → Type 0
Ended s a at view sets commuted sends (Reruns c) = LegalKind s.cells s.book a (Retry at c cause.Held)
Ended s a at view sets commuted sends (Redoes c) = LegalKind s.cells s.book a (Retry view c (cause.Commuted at))
Ended s a at view sets commuted sends (Refuses g) = LegalKind s.cells s.book a (Refused at view g)
Ended s a at view sets commuted sends Commits = LegalKind s.cells s.book a (Commit at view (merged sets commuted) sends) × Guarded s.book (Commit at view (merged sets commuted) sends)

ended_by : (s : PlainStore) (a at view : ℕ) (sets commuted : Writes) (ensured : List CellId) (sends : List Action) (o1 o2 o3 : Option CellId) (e : End) → Lawful s a at view sets commuted ensured sends
    → Finds s.cells s.book at (cells_in sets ++ ensured) o1 → Finds s.cells s.book view (cells_in commuted) o2 → FindsFailed s.cells s.book sends o3 → IsEnd o1 o2 o3 e → Ended s a at view sets commuted sends e
ended_by s a at view sets commuted ensured sends o1 o2 o3 (Reruns c) l f1 f2 f3 e =
    let f = subst (Finds s.cells s.book at (cells_in sets ++ ensured)) e f1 in
    (f.0, (ends s.book a at view l.end).tried, f.1)
ended_by s a at view sets commuted ensured sends o1 o2 o3 (Redoes c) l f1 f2 f3 e =
    let f = subst (Finds s.cells s.book view (cells_in commuted)) e.1 f2 in
    (f.0, l.end, f.1)
ended_by s a at view sets commuted ensured sends o1 o2 o3 (Refuses g) l f1 f2 f3 e =
    let f = subst (FindsFailed s.cells s.book sends) e.2 f3 in
    (f.0, l.end, f.1)
ended_by s a at view sets commuted ensured sends o1 o2 o3 Commits l f1 f2 f3 e =
    let f = untouched_parts s.book at (cells_in sets) ensured (subst (Finds s.cells s.book at (cells_in sets ++ ensured)) e.0 f1) in
    let g = subst (Finds s.cells s.book view (cells_in commuted)) e.1 f2 in
    let h = subst (FindsFailed s.cells s.book sends) e.2 f3 in
    (legal_commit s.cells s.book a at view sets commuted sends l.refs_set l.refs_commuted l.to_agents l.end h, guarded_commit s.book a at view sets commuted sends l.end f.0 g)

pub ended : (s : PlainStore) (a at view : ℕ) (sets commuted : Writes) (ensured : List CellId) (sends : List Action) (e : End) → is_lawful s a (ask.Commit at sets ensured view commuted sends) ≡ true
    → IsEnd (least_written s.book at (cells_in sets ++ ensured)) (least_written s.book view (cells_in commuted)) (first_failed s.cells s.book sends) e → Ended s a at view sets commuted sends e
ended s a at view sets commuted ensured sends e h is =
    let l = lawful_commit s a at view sets commuted ensured sends h in
    ended_by s a at view sets commuted ensured sends _ _ _ e l
    (finds s.cells s.book at (cells_in sets ++ ensured) (refs_tested s a at view sets commuted ensured sends l))
    (finds s.cells s.book view (cells_in commuted) (refs_has s.cells 0 (cells_in commuted) l.refs_commuted)) (finds_failed s.cells s.book sends l.to_agents) is

-- the same, where the lists are those of slices
pub ended_as : (s : PlainStore) (a at view : ℕ) (sets ws commuted : Writes) (ensured : List CellId) (sends xs : List Action) (e : End) → is_lawful s a (ask.Commit at sets ensured view commuted sends) ≡ true → ws ≡ sets → xs ≡ sends
    → IsEnd (least_written s.book at (cells_in ws ++ ensured)) (least_written s.book view (cells_in commuted)) (first_failed s.cells s.book xs) e → Ended s a at view sets commuted sends e
ended_as s a at view sets ws commuted ensured sends xs e h sets_are sends_are is =
    ended s a at view sets commuted ensured sends e h
    (subst (λ l. IsEnd (least_written s.book at (cells_in l ++ ensured)) (least_written s.book view (cells_in commuted)) (first_failed s.cells s.book sends) e) sets_are
    (subst (λ l. IsEnd (least_written s.book at (cells_in ws ++ ensured)) (least_written s.book view (cells_in commuted)) (first_failed s.cells s.book l) e) sends_are is))

-- a transaction that is refused for an agent that has failed is a thread's
pub refused_by_thread : (s : PlainStore) (a at view : ℕ) (sets commuted : Writes) (ensured : List CellId) (sends xs : List Action) (g : CellId) → is_lawful s a (ask.Commit at sets ensured view commuted sends) ≡ true → xs ≡ sends
    → first_failed s.cells s.book xs ≡ Some g → nat_lt a s.threads ≡ true
refused_by_thread s a at view sets commuted ensured sends xs g h same is =
    let l = lawful_commit s a at view sets commuted ensured sends h in
    let f = subst (FindsFailed s.cells s.book sends) (ap (first_failed s.cells s.book) (sym same) ∙ is) (finds_failed s.cells s.book sends l.to_agents) in
    sender_in s.cells s.threads a (is_empty sends) l.maker f.2

-- who ends a transaction is an actor
pub ended_by_actor : (s : PlainStore) (a at view : ℕ) (sets commuted : Writes) (ensured : List CellId) (sends : List Action) → is_lawful s a (ask.Commit at sets ensured view commuted sends) ≡ true → nat_lt a (actors s.threads s.cells) ≡ true
ended_by_actor s a at view sets commuted ensured sends h = actor_in s.cells s.threads a (is_empty sends) (lawful_commit s a at view sets commuted ensured sends h).maker

-- what is served then
abbrev pub by_end : End → ℕ → ℕ → ℕ → Writes → List Action → List Event → Served
by_end (Reruns c) a at view ws sends book = adds a (Retry at c cause.Held) (reply.Retry c) book
by_end (Redoes c) a at view ws sends book = adds a (Retry view c (cause.Commuted at)) (reply.Changed c) book
by_end (Refuses g) a at view ws sends book = adds a (Refused at view g) (reply.AgentIsFailed g) book
by_end Commits a at view ws sends book = adds a (Commit at view ws sends) reply.Done book

pub commits_by : (o1 o2 o3 : Option CellId) (e : End) (a at view : ℕ) (ws : Writes) (sends : List Action) (book : List Event) → IsEnd o1 o2 o3 e → by_end e a at view ws sends book ≡ commits o1 o2 o3 a at view ws sends book
commits_by o1 o2 o3 (Reruns c) a at view ws sends book h = ap (λ x. commits x o2 o3 a at view ws sends book) (sym h)
commits_by o1 o2 o3 (Redoes c) a at view ws sends book h = ap (λ x. commits x (Some c) o3 a at view ws sends book) (sym h.0) ∙ ap (λ x. commits o1 x o3 a at view ws sends book) (sym h.1)
commits_by o1 o2 o3 (Refuses g) a at view ws sends book h =
    ap (λ x. commits x None (Some g) a at view ws sends book) (sym h.0) ∙ ap (λ x. commits o1 x (Some g) a at view ws sends book) (sym h.1) ∙ ap (λ x. commits o1 o2 x a at view ws sends book) (sym h.2)
commits_by o1 o2 o3 Commits a at view ws sends book h =
    ap (λ x. commits x None None a at view ws sends book) (sym h.0) ∙ ap (λ x. commits o1 x None a at view ws sends book) (sym h.1) ∙ ap (λ x. commits o1 o2 x a at view ws sends book) (sym h.2)

-- the reply to it
pub ends_so : (s t : PlainStore) (r : Reply) (o1 o2 o3 : Option CellId) (e : End) (a at view : ℕ) (ws : Writes) (sends : List Action) → IsEnd o1 o2 o3 e → Replies s (by_end e a at view ws sends s.book) r t → Replies s (commits o1 o2 o3 a at view ws sends s.book) r t
ends_so s t r o1 o2 o3 e a at view ws sends h g = subst (λ v. Replies s v r t) (commits_by o1 o2 o3 e a at view ws sends s.book h) g

-- the reply to a commit, where the lists are those of slices
pub commit_ends : (s t : PlainStore) (r : Reply) (a at view : ℕ) (sets ws commuted : Writes) (ensured : List CellId) (sends xs : List Action) (e : End) → ws ≡ sets → xs ≡ sends
    → IsEnd (least_written s.book at (cells_in ws ++ ensured)) (least_written s.book view (cells_in commuted)) (first_failed s.cells s.book xs) e → Replies s (by_end e a at view (merged sets commuted) sends s.book) r t
    → Replies s (serve s.cells a (ask.Commit at sets ensured view commuted sends) s.book) r t
commit_ends s t r a at view sets ws commuted ensured sends xs e sets_are sends_are is g =
    ends_so s t r (least_written s.book at (cells_in sets ++ ensured)) (least_written s.book view (cells_in commuted)) (first_failed s.cells s.book sends) e a at view (merged sets commuted) sends
    (subst (λ l. IsEnd (least_written s.book at (cells_in l ++ ensured)) (least_written s.book view (cells_in commuted)) (first_failed s.cells s.book sends) e) sets_are
    (subst (λ l. IsEnd (least_written s.book at (cells_in ws ++ ensured)) (least_written s.book view (cells_in commuted)) (first_failed s.cells s.book l) e) sends_are is)) g

-- ---- agents

-- nothing to run
pub idles : (s : PlainStore) (a : ℕ) (g : CellId) → next_action s.cells s.book g ≡ None → Answers s (serve s.cells a (ask.Take g) s.book) (store_after s (ask.Take g) (serve s.cells a (ask.Take g) s.book)) reply.Idle s
idles s a g e =
    let n = suc (mail_after s.cells s.book g.number).acts in
    let v = newest (opening s.cells) s.book g.number in
    subst (λ o. Answers s (served (takes o n v) s.book) (store_with s.cells s.threads s.book (if hands_out (takes o n v) then set s.taken g.number true else s.taken)) reply.Idle s) (sym e) (refl, refl)

-- an action to run
pub hands : (s t : PlainStore) (a : ℕ) (g : CellId) (x : Action) (n : ℕ) (v : Value) → next_action s.cells s.book g ≡ Some x → n ≡ suc (mail_after s.cells s.book g.number).acts → v ≡ newest (opening s.cells) s.book g.number
    → t ≡ store_with s.cells s.threads s.book (set s.taken g.number true) → Answers s (serve s.cells a (ask.Take g) s.book) (store_after s (ask.Take g) (serve s.cells a (ask.Take g) s.book)) (reply.Action n x v) t
hands s t a g x n v e number state after =
    let n1 = suc (mail_after s.cells s.book g.number).acts in
    let v1 = newest (opening s.cells) s.book g.number in
    subst (λ o. Answers s (served (takes o n1 v1) s.book) (store_with s.cells s.threads s.book (if hands_out (takes o n1 v1) then set s.taken g.number true else s.taken)) (reply.Action n x v) t) (sym e)
    (ap (λ m. reply.Action m x v) number ∙ ap (λ u. reply.Action n1 x u) state, after)

-- no memory for it
pub hands_not : (s t : PlainStore) (a : ℕ) (g : CellId) → is_some (next_action s.cells s.book g) ≡ true → t ≡ s → Answers s (serve s.cells a (ask.Take g) s.book) (store_after s (ask.Take g) (serve s.cells a (ask.Take g) s.book)) reply.Memory t
hands_not s t a g e same = go (next_action s.cells s.book g) refl e
  where
    n : ℕ
    n = suc (mail_after s.cells s.book g.number).acts

    v : Value
    v = newest (opening s.cells) s.book g.number

    go : (o : Option Action) → next_action s.cells s.book g ≡ o → is_some o ≡ true → Answers s (served (takes o n v) s.book) (store_with s.cells s.threads s.book (if hands_out (takes o n v) then set s.taken g.number true else s.taken)) reply.Memory t
    go None q f = absurd (false≢true f)
    go (Some x) q f = (tt, same)

pub none_of : (o : Option Action) → is_some o ≡ false → o ≡ None
none_of None e = refl
none_of (Some x) e = absurd (false≢true (sym e))

-- whether there is something to run
pub has_action : (failed : Bool) (xs : List Action) (n : ℕ) → n ≡ length xs → is_some (first_action failed xs) ≡ (if failed then false else nat_lt 0 n)
has_action true xs n e = refl
has_action false [] n e = sym (ap (nat_lt 0) e)
has_action false (x ∷ xs) n e = let more : nat_lt 0 n ≡ true = ltb_yes 0 n (omega (arith, e)) in sym more
