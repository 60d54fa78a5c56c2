-- What the store does keeps its book legal, its commits undisturbed, and what is taken waiting.
use Rattle.std.proofs.Common.{◌≡◌, ◌<◌, ℕ, zero, suc, Bool, true, false, not, ◌&&◌, ◌==◌, nat_lt, nat_le, ◌||◌, ◌+◌, List, [], ◌∷◌, ◌++◌, length, get_or, set, Option, Some, None, Result, Err, refl, sym, ap, subst, ◌∙◌, arith, length-append, if◌then◌else◌}
use Rattle.std.proofs.lemmas.Bool.{ltb-true, false≢true}
use Rattle.std.proofs.lemmas.List.{get_or-set_other}
use Rattle.txs_world_protocol.specs.Ask.{Writes}
use Rattle.txs_world_protocol.specs.declared.ask.Ask.{Ask}
use Rattle.txs_world_protocol.specs.declared.ask.Ask.TheVariants as ask
use Rattle.txs_world_protocol.specs.declared.ask.Reply.{Reply}
use Rattle.txs_world_protocol.specs.declared.ask.Reply.TheVariants as reply
use Rattle.txs_world_protocol.specs.declared.event.Event.{Event}
use Rattle.txs_world_protocol.specs.declared.event.Cause.TheVariants as cause
use Rattle.txs_world_protocol.specs.declared.event.EventKind.{EventKind}
use Rattle.txs_world_protocol.specs.declared.event.EventKind.TheVariants.{Read, Commit, Retry, Fail, Refused, Send, SendRefused, Act, Swap, Broke}
use Rattle.txs_value_cell.specs.declared.action.Action.{Action}
use Rattle.txs_value_data.specs.declared.value.CellId.{CellId}
use Rattle.txs_value_data.specs.declared.value.Value.{Value}
use Rattle.txs_value_data.specs.Limits.{most_events}
use Rattle.txs_value_data.specs.Places.{nth, fault_at}
use Rattle.txs_value_data.specs.declared.fault.Fault.{Fault}
use Rattle.txs_value_data.specs.declared.fault.FaultKind.TheVariants.{AgentFailed}
use Rattle.txs_value_data.specs.declared.fault.Span.{Span}
use Rattle.txs_world_book.specs.Book.{has_ref, has_agent, cells_in, are_refs, has_refs, are_sends, actor_of, actors, agents_below, may_send, makes, least, least_written, goes_on, is_there, Mail, no_mail, sent_to, acted, mail_after, mail_changed, is_failed, first_failed, waits, is_empty, may_name, may_end, written, LegalKind, Untouched, Guarded, Legal, Undisturbed, opening, is_outdated}
use Rattle.txs_world.specs.Laws.{TakenWait, StoreStands}
use Rattle.txs_world.specs.Store.{PlainStore, store_with, may_ask, has_named, is_lawful, is_taken, are_apart, merged, looks, commits, sends_to, first_action, takes, span_of, finishes, hands_out, is_over, serve, store_after}
use Rattle.txs_world_book.specs.Served.{event_of, adds, served}
use Rattle.txs_world_book.specs.declared.cell.StoreCell.{StoreCell}
use Rattle.txs_world_book.proofs.Growth.{each_more, mail_last}
use Rattle.txs_world.proofs.Mailing.{equal, unequal}
use Rattle.txs_world_book.proofs.Outcomes.{both}
use Rattle.txs_world.proofs.Merging.{joined, ltb_yes, Finds, finds, refs_has, refs_joined, untouched_parts, refs_merged, untouched_merged, untouched_later}
use Rattle.txs_world_book.proofs.Older.{ends, outdated_written}

abbrev pub Kept : List StoreCell → ℕ → List Event → Type 0
Kept cells threads book = Legal cells threads book × Undisturbed book

-- one more event that may stand there
pub keeps : (cells : List StoreCell) (threads : ℕ) (book : List Event) (a : ℕ) (d : EventKind) → Kept cells threads book → length book < most_events → makes cells threads a d ≡ true → LegalKind cells book a d → Guarded book d
    → Kept cells threads (book ++ event_of a d ∷ [])
keeps cells threads book a d h lt by l g =
    let e = event_of a d in (
      record {
        few = omega (arith, lt, length-append book (e ∷ []));
        made = each_more (λ done x. makes cells threads x.actor x.kind ≡ true) [] book e h.0.made by;
        each = each_more (λ done x. LegalKind cells done x.actor x.kind) [] book e h.0.each l;
      },
      each_more (λ done x. Guarded done x.kind) [] book e h.1 g,
    )

adds_kept : (cells : List StoreCell) (threads : ℕ) (book : List Event) (a : ℕ) (d : EventKind) (r : Reply) → Kept cells threads book → makes cells threads a d ≡ true → LegalKind cells book a d → Guarded book d → Kept cells threads (adds a d r book).book
adds_kept cells threads book a d r h by l g = go (nat_lt (length book) most_events) refl
  where
    go : (b : Bool) → nat_lt (length book) most_events ≡ b → Kept cells threads (if b then served r (book ++ event_of a d ∷ []) else served reply.Full book).book
    go true e = keeps cells threads book a d h (ltb-true (length book) most_events e) by l g
    go false e = h

looks_kept : (cells : List StoreCell) (threads : ℕ) (b : Bool) (a : ℕ) (c : CellId) (p : ℕ) (book : List Event) → is_outdated c.number p book ≡ b → has_ref cells c ≡ true → may_name false book a p ≡ true → nat_lt a (actors threads cells) ≡ true → Kept cells threads book
    → Kept cells threads (looks b (opening cells) a c p book).book
looks_kept cells threads true a c p book e has n by h = adds_kept cells threads book a (Retry p c cause.Outdated) _ h by (has, joined (may_name false book a p) (is_outdated c.number p book) n e, outdated_written c.number p book e) tt
looks_kept cells threads false a c p book e has n by h = h

-- who makes a commit with sends or without is an actor
pub actor_in : (cells : List StoreCell) (threads a : ℕ) (e : Bool) → (nat_lt a threads || (e && nat_lt a (actors threads cells))) ≡ true → nat_lt a (actors threads cells) ≡ true
actor_in cells threads a e h = go (nat_lt a threads) refl h
  where
    more : a < threads → a < threads + agents_below cells (length cells)
    more lt = omega (arith, lt)

    go : (t : Bool) → nat_lt a threads ≡ t → (t || (e && nat_lt a (actors threads cells))) ≡ true → nat_lt a (actors threads cells) ≡ true
    go true q r = ltb_yes a (actors threads cells) (more (ltb-true a threads q))
    go false q r = (both e (nat_lt a (actors threads cells)) r).1

-- who makes one with sends is a thread
pub sender_in : (cells : List StoreCell) (threads a : ℕ) (e : Bool) → (nat_lt a threads || (e && nat_lt a (actors threads cells))) ≡ true → e ≡ false → nat_lt a threads ≡ true
sender_in cells threads a true h none = absurd (false≢true (sym none))
sender_in cells threads a false h none = go (nat_lt a threads) h
  where
    go : (t : Bool) → (t || false) ≡ true → t ≡ true
    go true q = refl
    go false q = q

-- a failed agent of a send is one of the store's
abbrev pub FindsFailed : List StoreCell → List Event → List Action → Option CellId → Type 0
FindsFailed cells book xs None = first_failed cells book xs ≡ None
FindsFailed cells book xs (Some g) = (has_agent cells g ≡ true) × (is_failed cells book g ≡ true) × (is_empty xs ≡ false)

pub finds_failed : (cells : List StoreCell) (book : List Event) (xs : List Action) → are_sends cells xs ≡ true → FindsFailed cells book xs (first_failed cells book xs)
finds_failed cells book [] h = refl
finds_failed cells book (x ∷ xs) h = go (finds_failed cells book xs m.1) (is_failed cells book x.agent) refl
  where
    m : (has_agent cells x.agent ≡ true) × (are_sends cells xs ≡ true)
    m = both (has_agent cells x.agent) (are_sends cells xs) h

    rest : (o : Option CellId) → first_failed cells book xs ≡ o → is_failed cells book x.agent ≡ false → FindsFailed cells book xs o → FindsFailed cells book (x ∷ xs) o
    rest None q e d = ap (λ t. if t then Some x.agent else first_failed cells book xs) e ∙ d
    rest (Some g) q e d = (d.0, d.1, refl)

    go : FindsFailed cells book xs (first_failed cells book xs) → (t : Bool) → is_failed cells book x.agent ≡ t → FindsFailed cells book (x ∷ xs) (if t then Some x.agent else first_failed cells book xs)
    go d true e = (m.0, e, refl)
    go d false e = rest (first_failed cells book xs) refl e d

-- what a lawful commit tells
pub record Lawful (s : PlainStore) (a at view : ℕ) (sets commuted : Writes) (ensured : List CellId) (sends : List Action) : Type 0 where
  pub maker : (nat_lt a s.threads || (is_empty sends && nat_lt a (actors s.threads s.cells))) ≡ true
  pub refs_set : are_refs s.cells 0 (cells_in sets) ≡ true
  pub refs_ensured : has_refs s.cells ensured ≡ true
  pub refs_commuted : are_refs s.cells 0 (cells_in commuted) ≡ true
  pub apart : are_apart (cells_in commuted) (cells_in sets) ≡ true
  pub to_agents : are_sends s.cells sends ≡ true
  pub end : may_end s.book a at view ≡ true

pub lawful_commit : (s : PlainStore) (a at view : ℕ) (sets commuted : Writes) (ensured : List CellId) (sends : List Action) → is_lawful s a (ask.Commit at sets ensured view commuted sends) ≡ true → Lawful s a at view sets commuted ensured sends
lawful_commit s a at view sets commuted ensured sends h =
    let m0 = both (nat_lt a s.threads || (is_empty sends && nat_lt a (actors s.threads s.cells))) _ h in
    let m1 = both (are_refs s.cells 0 (cells_in sets)) _ m0.1 in
    let m2 = both (has_refs s.cells ensured) _ m1.1 in
    let m3 = both (are_refs s.cells 0 (cells_in commuted)) _ m2.1 in
    let m4 = both (are_apart (cells_in commuted) (cells_in sets)) _ m3.1 in
    let m5 = both (are_sends s.cells sends) _ m4.1 in
    record { maker = m0.0; refs_set = m1.0; refs_ensured = m2.0; refs_commuted = m3.0; apart = m4.0; to_agents = m5.0; end = m5.1 }

-- what was set or ensured are refs of the store
pub refs_tested : (s : PlainStore) (a at view : ℕ) (sets commuted : Writes) (ensured : List CellId) (sends : List Action) → Lawful s a at view sets commuted ensured sends → has_refs s.cells (cells_in sets ++ ensured) ≡ true
refs_tested s a at view sets commuted ensured sends l = refs_joined s.cells (cells_in sets) ensured (refs_has s.cells 0 (cells_in sets) l.refs_set) l.refs_ensured

-- a commit that passes its tests may stand
pub legal_commit : (cells : List StoreCell) (book : List Event) (a at view : ℕ) (sets commuted : Writes) (sends : List Action) → are_refs cells 0 (cells_in sets) ≡ true → are_refs cells 0 (cells_in commuted) ≡ true → are_sends cells sends ≡ true
    → may_end book a at view ≡ true → first_failed cells book sends ≡ None → LegalKind cells book a (Commit at view (merged sets commuted) sends)
legal_commit cells book a at view sets commuted sends h g n m f = (refs_merged cells sets commuted 0 h g, n, m, f)

pub guarded_commit : (book : List Event) (a at view : ℕ) (sets commuted : Writes) (sends : List Action) → may_end book a at view ≡ true → Untouched book at (cells_in sets) → Untouched book view (cells_in commuted) → Guarded book (Commit at view (merged sets commuted) sends)
guarded_commit book a at view sets commuted sends m u v = untouched_merged book view sets commuted (untouched_later book at view (cells_in sets) (ends book a at view m).order u) v

commits_kept : (s : PlainStore) (a at view : ℕ) (sets commuted : Writes) (ensured : List CellId) (sends : List Action) (o1 o2 o3 : Option CellId) → Lawful s a at view sets commuted ensured sends
    → Finds s.cells s.book at (cells_in sets ++ ensured) o1 → Finds s.cells s.book view (cells_in commuted) o2 → FindsFailed s.cells s.book sends o3 → Kept s.cells s.threads s.book
    → Kept s.cells s.threads (commits o1 o2 o3 a at view (merged sets commuted) sends s.book).book
commits_kept s a at view sets commuted ensured sends (Some c) o2 o3 l f1 f2 f3 h =
    adds_kept s.cells s.threads s.book a (Retry at c cause.Held) _ h (actor_in s.cells s.threads a (is_empty sends) l.maker) (f1.0, (ends s.book a at view l.end).tried, f1.1) tt
commits_kept s a at view sets commuted ensured sends None (Some c) o3 l f1 f2 f3 h =
    adds_kept s.cells s.threads s.book a (Retry view c (cause.Commuted at)) _ h (actor_in s.cells s.threads a (is_empty sends) l.maker) (f2.0, l.end, f2.1) tt
commits_kept s a at view sets commuted ensured sends None None (Some g) l f1 f2 f3 h =
    adds_kept s.cells s.threads s.book a (Refused at view g) _ h (sender_in s.cells s.threads a (is_empty sends) l.maker f3.2) (f3.0, l.end, f3.1) tt
commits_kept s a at view sets commuted ensured sends None None None l f1 f2 f3 h =
    let free = untouched_parts s.book at (cells_in sets) ensured f1 in
    adds_kept s.cells s.threads s.book a (Commit at view (merged sets commuted) sends) _ h l.maker (legal_commit s.cells s.book a at view sets commuted sends l.refs_set l.refs_commuted l.to_agents l.end f3)
    (guarded_commit s.book a at view sets commuted sends l.end free.0 f2)

commit_kept : (s : PlainStore) (a at view : ℕ) (sets commuted : Writes) (ensured : List CellId) (sends : List Action) → Lawful s a at view sets commuted ensured sends → Kept s.cells s.threads s.book
    → Kept s.cells s.threads (serve s.cells a (ask.Commit at sets ensured view commuted sends) s.book).book
commit_kept s a at view sets commuted ensured sends l h =
    commits_kept s a at view sets commuted ensured sends (least_written s.book at (cells_in sets ++ ensured)) (least_written s.book view (cells_in commuted)) (first_failed s.cells s.book sends)
    l (finds s.cells s.book at (cells_in sets ++ ensured) (refs_tested s a at view sets commuted ensured sends l)) (finds s.cells s.book view (cells_in commuted) (refs_has s.cells 0 (cells_in commuted) l.refs_commuted)) (finds_failed s.cells s.book sends l.to_agents) h

sends_kept : (cells : List StoreCell) (threads : ℕ) (b : Bool) (a : ℕ) (x : Action) (book : List Event) → is_failed cells book x.agent ≡ b → nat_lt a threads ≡ true → has_agent cells x.agent ≡ true → Kept cells threads book → Kept cells threads (sends_to b a x book).book
sends_kept cells threads true a x book e by has h = adds_kept cells threads book a (SendRefused x.agent) _ h by (has, e) tt
sends_kept cells threads false a x book e by has h = adds_kept cells threads book a (Send x) _ h by (has, e) tt

-- what a lawful ask tells: its actor makes such asks, and the store has what it names
pub lawful : (s : PlainStore) (a : ℕ) (q : Ask) → is_lawful s a q ≡ true → (may_ask s.cells s.threads a q ≡ true) × (has_named s a q ≡ true)
lawful s a q h = both (may_ask s.cells s.threads a q) (has_named s a q) h

-- what a lawful end of an action tells
pub record LawfulEnd (s : PlainStore) (g : CellId) (new : Result Value Fault) (sends : List Action) : Type 0 where
  pub agent : has_agent s.cells g ≡ true
  pub taken : is_taken s.taken g ≡ true
  pub held : may_send new sends ≡ true
  pub to_agents : are_sends s.cells sends ≡ true

pub lawful_end : (s : PlainStore) (a : ℕ) (g : CellId) (new : Result Value Fault) (sends : List Action) → has_named s a (ask.Finish g new sends) ≡ true → LawfulEnd s g new sends
lawful_end s a g new sends h =
    let n = both (has_agent s.cells g) (is_taken s.taken g && (may_send new sends && are_sends s.cells sends)) h in
    let k = both (is_taken s.taken g) (may_send new sends && are_sends s.cells sends) n.1 in
    let m = both (may_send new sends) (are_sends s.cells sends) k.1 in
    record { agent = n.0; taken = k.0; held = m.0; to_agents = m.1 }

finishes_kept : (s : PlainStore) (a : ℕ) (g : CellId) (new : Result Value Fault) (sends : List Action) (span : Span) (o : Option CellId) → (a == actor_of s.threads s.cells g) ≡ true → has_agent s.cells g ≡ true
    → is_there (mail_after s.cells s.book g.number).fault ≡ false → waits (mail_after s.cells s.book g.number).actions ≡ true → may_send new sends ≡ true → are_sends s.cells sends ≡ true → first_failed s.cells s.book sends ≡ o → Kept s.cells s.threads s.book
    → Kept s.cells s.threads (finishes o a g (suc (mail_after s.cells s.book g.number).acts) new sends span s.book).book
finishes_kept s a g new sends span None own has runs wait held to f h =
    adds_kept s.cells s.threads s.book a (Act g (suc (mail_after s.cells s.book g.number).acts) new sends) _ h own (has, runs, wait, refl, held, to, f) tt
finishes_kept s a g new sends span (Some x) own has runs wait held to f h =
    adds_kept s.cells s.threads s.book a (Act g (suc (mail_after s.cells s.book g.number).acts) (Err (fault_at AgentFailed span)) []) _ h own (has, runs, wait, refl, refl, refl, refl) tt

pub serve_kept : (s : PlainStore) (a : ℕ) (q : Ask) → is_lawful s a q ≡ true → StoreStands s → Kept s.cells s.threads (serve s.cells a q s.book).book
serve_kept s a ask.Begin l h = (h.legal, h.undisturbed)
serve_kept s a (ask.Look c p) l h =
    let m = lawful s a (ask.Look c p) l in
    let n = both (has_ref s.cells c) (may_name false s.book a p) m.1 in
    looks_kept s.cells s.threads (is_outdated c.number p s.book) a c p s.book refl n.0 n.1 m.0 (h.legal, h.undisturbed)
serve_kept s a (ask.View cs) l h = (h.legal, h.undisturbed)
serve_kept s a (ask.Commit at sets ensured view commuted sends) l h = commit_kept s a at view sets commuted ensured sends (lawful_commit s a at view sets commuted ensured sends l) (h.legal, h.undisturbed)
serve_kept s a (ask.Fail p q) l h = let m = lawful s a (ask.Fail p q) l in adds_kept s.cells s.threads s.book a (Fail p q) _ (h.legal, h.undisturbed) m.0 m.1 tt
serve_kept s a (ask.Peek c) l h = let m = lawful s a (ask.Peek c) l in adds_kept s.cells s.threads s.book a (Read c) _ (h.legal, h.undisturbed) m.0 m.1 tt
serve_kept s a (ask.Send x) l h = let m = lawful s a (ask.Send x) l in sends_kept s.cells s.threads (is_failed s.cells s.book x.agent) a x s.book refl m.0 m.1 (h.legal, h.undisturbed)
serve_kept s a (ask.Take g) l h = (h.legal, h.undisturbed)
serve_kept s a (ask.Finish g new sends) l h =
    let m = lawful s a (ask.Finish g new sends) l in
    let n = lawful_end s a g new sends m.1 in
    let t = h.taken g.number n.taken in
    finishes_kept s a g new sends (span_of (mail_after s.cells s.book g.number).actions) (first_failed s.cells s.book sends) m.0 n.agent t.0 t.1 n.held n.to_agents refl (h.legal, h.undisturbed)
serve_kept s a (ask.OpenAt c) l h = absurd (false≢true (lawful s a (ask.OpenAt c) l).1)
serve_kept s a (ask.CloseAt c at new) l h = absurd (false≢true (lawful s a (ask.CloseAt c at new) l).1)
serve_kept s a (ask.Broke c at) l h = absurd (false≢true (lawful s a (ask.Broke c at) l).1)

-- ---- what is taken

abbrev pub Held : List StoreCell → List Event → ℕ → Type 0
Held cells book k = (is_there (mail_after cells book k).fault ≡ false) × (waits (mail_after cells book k).actions ≡ true)

-- whether an event isn't an action of the agent with this number
abbrev pub no_act : EventKind → ℕ → Bool
no_act (Act g n new sends) k = not (g.number == k)
no_act _ k = true

waits_more : (xs ys : List Action) → waits xs ≡ true → waits (xs ++ ys) ≡ true
waits_more [] ys h = absurd (false≢true h)
waits_more (x ∷ xs) ys h = refl

held_changed : (goes : Bool) (k : ℕ) (d : EventKind) (m : Mail) → no_act d k ≡ true → (is_there m.fault ≡ false) × (waits m.actions ≡ true) → (is_there (mail_changed goes k d m).fault ≡ false) × (waits (mail_changed goes k d m).actions ≡ true)
held_changed goes k (Read c) m n h = h
held_changed goes k (Commit at view ws sends) m n h = (h.0, waits_more m.actions (sent_to k sends) h.1)
held_changed goes k (Retry since c cause) m n h = h
held_changed goes k (Fail at view) m n h = h
held_changed goes k (Refused at view g) m n h = h
held_changed goes k (Send x) m n h = (h.0, waits_more m.actions (sent_to k (x ∷ [])) h.1)
held_changed goes k (SendRefused g) m n h = h
held_changed goes k (Act g i new sends) m n h = let r = go (g.number == k) n in (r.0, waits_more (if g.number == k then acted goes new m else m).actions (sent_to k sends) r.1)
  where
    go : (t : Bool) → not t ≡ true → (is_there (if t then acted goes new m else m).fault ≡ false) × (waits (if t then acted goes new m else m).actions ≡ true)
    go true e = absurd (false≢true e)
    go false e = h
held_changed goes k (Swap new) m n h = h
held_changed goes k (Broke at) m n h = h

held_more : (cells : List StoreCell) (book : List Event) (a : ℕ) (d : EventKind) (k : ℕ) → no_act d k ≡ true → Held cells book k → Held cells (book ++ event_of a d ∷ []) k
held_more cells book a d k n h =
    subst (λ (m : Mail). (is_there m.fault ≡ false) × (waits m.actions ≡ true)) (sym (mail_last (goes_on (nth cells k)) k no_mail book (event_of a d)))
    (held_changed (goes_on (nth cells k)) k d (mail_after cells book k) n h)

held_adds : (cells : List StoreCell) (book : List Event) (a : ℕ) (d : EventKind) (r : Reply) (k : ℕ) → no_act d k ≡ true → Held cells book k → Held cells (adds a d r book).book k
held_adds cells book a d r k n h = go (nat_lt (length book) most_events)
  where
    go : (b : Bool) → Held cells (if b then served r (book ++ event_of a d ∷ []) else served reply.Full book).book k
    go true = held_more cells book a d k n h
    go false = h

looks_waits : (s : PlainStore) (b : Bool) (a : ℕ) (c : CellId) (p : ℕ) → TakenWait s → TakenWait (store_with s.cells s.threads (looks b (opening s.cells) a c p s.book).book s.taken)
looks_waits s true a c p h k t = held_adds s.cells s.book a (Retry p c cause.Outdated) _ k refl (h k t)
looks_waits s false a c p h k t = h k t

commits_waits : (s : PlainStore) (o1 o2 o3 : Option CellId) (a at view : ℕ) (ws : Writes) (sends : List Action) → TakenWait s → TakenWait (store_with s.cells s.threads (commits o1 o2 o3 a at view ws sends s.book).book s.taken)
commits_waits s (Some c) o2 o3 a at view ws sends h k t = held_adds s.cells s.book a (Retry at c cause.Held) _ k refl (h k t)
commits_waits s None (Some c) o3 a at view ws sends h k t = held_adds s.cells s.book a (Retry view c (cause.Commuted at)) _ k refl (h k t)
commits_waits s None None (Some g) a at view ws sends h k t = held_adds s.cells s.book a (Refused at view g) _ k refl (h k t)
commits_waits s None None None a at view ws sends h k t = held_adds s.cells s.book a (Commit at view ws sends) _ k refl (h k t)

sends_waits : (s : PlainStore) (b : Bool) (a : ℕ) (x : Action) → TakenWait s → TakenWait (store_with s.cells s.threads (sends_to b a x s.book).book s.taken)
sends_waits s true a x h k t = held_adds s.cells s.book a (SendRefused x.agent) _ k refl (h k t)
sends_waits s false a x h k t = held_adds s.cells s.book a (Send x) _ k refl (h k t)

-- another item of a list
other_item : (xs : List Bool) (i k : ℕ) (b : Bool) → (i == k) ≡ false → get_or (set xs i b) k false ≡ get_or xs k false
other_item xs i k b e = get_or-set_other xs i k b false (λ q. unequal i k e (sym q))

put_false : (xs : List Bool) (i : ℕ) → get_or (set xs i false) i false ≡ false
put_false [] i = refl
put_false (x ∷ xs) zero = refl
put_false (x ∷ xs) (suc i) = put_false xs i

takes_waits : (s : PlainStore) (g : CellId) (failed : Bool) (xs : List Action) (n : ℕ) (v : Value) → is_failed s.cells s.book g ≡ failed → (mail_after s.cells s.book g.number).actions ≡ xs → TakenWait s
    → TakenWait (store_with s.cells s.threads s.book (if hands_out (takes (first_action failed xs) n v) then set s.taken g.number true else s.taken))
takes_waits s g true xs n v f e h = h
takes_waits s g false [] n v f e h = h
takes_waits s g false (x ∷ xs) n v f e h = λ k t. go k (g.number == k) refl t
  where
    go : (k : ℕ) (b : Bool) → (g.number == k) ≡ b → get_or (set s.taken g.number true) k false ≡ true → Held s.cells s.book k
    go k true q t = subst (Held s.cells s.book) (equal g.number k q) (f, ap waits e)
    go k false q t = h k (sym (other_item s.taken g.number k true q) ∙ t)

finish_waits : (s : PlainStore) (a : ℕ) (g : CellId) (d : EventKind) (r : Reply) → is_over r ≡ true → ((k : ℕ) → (g.number == k) ≡ false → no_act d k ≡ true) → TakenWait s
    → TakenWait (store_with s.cells s.threads (adds a d r s.book).book (if is_over (adds a d r s.book).reply then set s.taken g.number false else s.taken))
finish_waits s a g d r is n h = go (nat_lt (length s.book) most_events)
  where
    other : (k : ℕ) (b : Bool) → (g.number == k) ≡ b → get_or (set s.taken g.number false) k false ≡ true → Held s.cells (s.book ++ event_of a d ∷ []) k
    other k true q t = absurd (false≢true (sym (put_false s.taken g.number) ∙ ap (λ i. get_or (set s.taken g.number false) i false) (equal g.number k q) ∙ t))
    other k false q t = held_more s.cells s.book a d k (n k q) (h k (sym (other_item s.taken g.number k false q) ∙ t))

    go : (b : Bool) → TakenWait (store_with s.cells s.threads (if b then served r (s.book ++ event_of a d ∷ []) else served reply.Full s.book).book
        (if is_over (if b then served r (s.book ++ event_of a d ∷ []) else served reply.Full s.book).reply then set s.taken g.number false else s.taken))
    go true = subst (λ t. TakenWait (store_with s.cells s.threads (s.book ++ event_of a d ∷ []) (if t then set s.taken g.number false else s.taken))) (sym is) (λ k t. other k (g.number == k) refl t)
    go false = h

-- the end of an action, by whether an agent of its sends has failed
finishes_waits : (s : PlainStore) (a : ℕ) (g : CellId) (n : ℕ) (new : Result Value Fault) (sends : List Action) (span : Span) (o : Option CellId) → TakenWait s
    → TakenWait (store_with s.cells s.threads (finishes o a g n new sends span s.book).book (if is_over (finishes o a g n new sends span s.book).reply then set s.taken g.number false else s.taken))
finishes_waits s a g n new sends span None h = finish_waits s a g (Act g n new sends) reply.Done refl (λ k e. ap not e) h
finishes_waits s a g n new sends span (Some x) h = finish_waits s a g (Act g n (Err (fault_at AgentFailed span)) []) (reply.AgentIsFailed x) refl (λ k e. ap not e) h

pub serve_waits : (s : PlainStore) (a : ℕ) (q : Ask) → is_lawful s a q ≡ true → TakenWait s → TakenWait (store_after s q (serve s.cells a q s.book))
serve_waits s a ask.Begin l h = h
serve_waits s a (ask.Look c p) l h = looks_waits s (is_outdated c.number p s.book) a c p h
serve_waits s a (ask.View cs) l h = h
serve_waits s a (ask.Commit at sets ensured view commuted sends) l h =
    commits_waits s (least_written s.book at (cells_in sets ++ ensured)) (least_written s.book view (cells_in commuted)) (first_failed s.cells s.book sends) a at view (merged sets commuted) sends h
serve_waits s a (ask.Fail p q) l h = λ k t. held_adds s.cells s.book a (Fail p q) _ k refl (h k t)
serve_waits s a (ask.Peek c) l h = λ k t. held_adds s.cells s.book a (Read c) _ k refl (h k t)
serve_waits s a (ask.Send x) l h = sends_waits s (is_failed s.cells s.book x.agent) a x h
serve_waits s a (ask.Take g) l h = takes_waits s g (is_failed s.cells s.book g) (mail_after s.cells s.book g.number).actions _ _ refl refl h
serve_waits s a (ask.Finish g new sends) l h = finishes_waits s a g (suc (mail_after s.cells s.book g.number).acts) new sends (span_of (mail_after s.cells s.book g.number).actions) (first_failed s.cells s.book sends) h
serve_waits s a (ask.OpenAt c) l h = h
serve_waits s a (ask.CloseAt c at new) l h = h
serve_waits s a (ask.Broke c at) l h = h

pub serve_stands : (s : PlainStore) (a : ℕ) (q : Ask) → is_lawful s a q ≡ true → StoreStands s → StoreStands (store_after s q (serve s.cells a q s.book))
serve_stands s a q l h = let k = serve_kept s a q l h in record { legal = k.0; undisturbed = k.1; taken = serve_waits s a q l h.taken }

-- ---- a commit that is done

some_none : (c : CellId) → Some c ≡ None → ⊥
some_none c e = false≢true (sym (ap (λ (o : Option CellId). is_there o) e))

least_some : (c : CellId) (o : Option CellId) → least (Some c) o ≡ None → ⊥
least_some c None h = some_none c h
least_some c (Some d) h = go (nat_le c.number d.number) h
  where
    go : (t : Bool) → (if t then Some c else Some d) ≡ None → ⊥
    go true f = some_none c f
    go false f = some_none d f

done_none : (book : List Event) (p : ℕ) (cs : List CellId) → least_written book p cs ≡ None → Untouched book p cs
done_none book p [] h = tt
done_none book p (c ∷ cs) h = go (λ e. done_none book p cs e) (written c.number p book) refl h
  where
    go : (least_written book p cs ≡ None → Untouched book p cs) → (t : Bool) → written c.number p book ≡ t → (if t then least (Some c) (least_written book p cs) else least_written book p cs) ≡ None → (written c.number p book ≡ false) × Untouched book p cs
    go r true e f = absurd (least_some c (least_written book p cs) f)
    go r false e f = (e, r f)

-- whether a reply says that what was asked is done
abbrev is_done : Reply → Bool
is_done reply.Done = true
is_done _ = false

not_done : (a : ℕ) (d : EventKind) (r : Reply) (book : List Event) → is_done r ≡ false → (adds a d r book).reply ≡ reply.Done → ⊥
not_done a d r book n h = go (nat_lt (length book) most_events) h
  where
    go : (b : Bool) → (if b then served r (book ++ event_of a d ∷ []) else served reply.Full book).reply ≡ reply.Done → ⊥
    go true e = false≢true (sym n ∙ ap is_done e)
    go false e = false≢true (ap is_done e)

pub done_is_undisturbed : (cells : List StoreCell) (a at view : ℕ) (sets commuted : Writes) (ensured : List CellId) (sends : List Action) (book : List Event) → (serve cells a (ask.Commit at sets ensured view commuted sends) book).reply ≡ reply.Done
    → Untouched book at (cells_in sets) × Untouched book at ensured × Untouched book view (cells_in commuted)
done_is_undisturbed cells a at view sets commuted ensured sends book h = go (least_written book at (cells_in sets ++ ensured)) (least_written book view (cells_in commuted)) (first_failed cells book sends) refl refl h
  where
    go : (o1 o2 o3 : Option CellId) → least_written book at (cells_in sets ++ ensured) ≡ o1 → least_written book view (cells_in commuted) ≡ o2
        → (commits o1 o2 o3 a at view (merged sets commuted) sends book).reply ≡ reply.Done → Untouched book at (cells_in sets) × Untouched book at ensured × Untouched book view (cells_in commuted)
    go (Some c) o2 o3 e f g = absurd (not_done a (Retry at c cause.Held) (reply.Retry c) book refl g)
    go None (Some c) o3 e f g = absurd (not_done a (Retry view c (cause.Commuted at)) (reply.Changed c) book refl g)
    go None None o3 e f g =
        let l = untouched_parts book at (cells_in sets) ensured (done_none book at (cells_in sets ++ ensured) e) in
        (l.0, l.1, done_none book view (cells_in commuted) f)

-- ---- a commit that is refused for an agent that has failed

-- the agent that a reply names as failed
failed_in : Reply → Option CellId
failed_in (reply.AgentIsFailed g) = Some g
failed_in _ = None

not_refused : (a : ℕ) (d : EventKind) (r : Reply) (book : List Event) (g : CellId) → failed_in r ≡ None → (adds a d r book).reply ≡ reply.AgentIsFailed g → ⊥
unfolding failed_in
not_refused a d r book g n h = go (nat_lt (length book) most_events) h
  where
    go : (b : Bool) → (if b then served r (book ++ event_of a d ∷ []) else served reply.Full book).reply ≡ reply.AgentIsFailed g → ⊥
    go true e = some_none g (sym (ap failed_in e) ∙ n)
    go false e = some_none g (sym (ap failed_in e))

refused_agent : (a : ℕ) (d : EventKind) (book : List Event) (h g : CellId) → (adds a d (reply.AgentIsFailed h) book).reply ≡ reply.AgentIsFailed g → Some h ≡ Some g
unfolding failed_in
refused_agent a d book h g e = go (nat_lt (length book) most_events) e
  where
    go : (b : Bool) → (if b then served (reply.AgentIsFailed h) (book ++ event_of a d ∷ []) else served reply.Full book).reply ≡ reply.AgentIsFailed g → Some h ≡ Some g
    go true f = ap failed_in f
    go false f = absurd (some_none g (sym (ap failed_in f)))

pub refused_is_undisturbed : (cells : List StoreCell) (a at view : ℕ) (sets commuted : Writes) (ensured : List CellId) (sends : List Action) (book : List Event) (g : CellId)
    → (serve cells a (ask.Commit at sets ensured view commuted sends) book).reply ≡ reply.AgentIsFailed g
    → Untouched book at (cells_in sets) × Untouched book at ensured × Untouched book view (cells_in commuted) × (first_failed cells book sends ≡ Some g)
unfolding failed_in
refused_is_undisturbed cells a at view sets commuted ensured sends book g h = go (least_written book at (cells_in sets ++ ensured)) (least_written book view (cells_in commuted)) (first_failed cells book sends) refl refl refl h
  where
    go : (o1 o2 o3 : Option CellId) → least_written book at (cells_in sets ++ ensured) ≡ o1 → least_written book view (cells_in commuted) ≡ o2 → first_failed cells book sends ≡ o3
        → (commits o1 o2 o3 a at view (merged sets commuted) sends book).reply ≡ reply.AgentIsFailed g → Untouched book at (cells_in sets) × Untouched book at ensured × Untouched book view (cells_in commuted) × (first_failed cells book sends ≡ Some g)
    go (Some c) o2 o3 e f i h = absurd (not_refused a (Retry at c cause.Held) (reply.Retry c) book g refl h)
    go None (Some c) o3 e f i h = absurd (not_refused a (Retry view c (cause.Commuted at)) (reply.Changed c) book g refl h)
    go None None (Some c) e f i h =
        let l = untouched_parts book at (cells_in sets) ensured (done_none book at (cells_in sets ++ ensured) e) in
        (l.0, l.1, done_none book view (cells_in commuted) f, i ∙ refused_agent a (Refused at view c) book c g h)
    go None None None e f i h = absurd (not_refused a (Commit at view (merged sets commuted) sends) reply.Done book g refl h)
