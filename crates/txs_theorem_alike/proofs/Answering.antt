-- Alike states answer alike, ask by ask.
use Rattle.std.proofs.Common.{◌≡◌, ℕ, zero, suc, Bool, true, false, not, ◌&&◌, ◌||◌, ◌==◌, nat_lt, nat_le, List, [], ◌∷◌, ◌++◌, length, map, Option, Some, None, Result, Err, refl, sym, ap, subst, ◌∙◌, if◌then◌else◌}
use Rattle.std.specs.Prelude.{set}
use Rattle.std.proofs.lemmas.Bool.{false≢true}
use Rattle.txs_world_protocol.specs.Ask.{Writes}
use Rattle.txs_world_protocol.specs.SeenEvent.{home, atoms_below}
use Rattle.txs_world_protocol.specs.declared.ask.Ask.{Ask}
use Rattle.txs_world_protocol.specs.declared.ask.Ask.TheVariants as ask
use Rattle.txs_world_protocol.specs.declared.ask.Reply.{Reply}
use Rattle.txs_world_protocol.specs.declared.ask.Reply.TheVariants as reply
use Rattle.txs_world_protocol.specs.declared.event.Event.{Event}
use Rattle.txs_world_protocol.specs.declared.event.Cause.TheVariants as cause
use Rattle.txs_world_protocol.specs.declared.event.EventKind.{EventKind}
use Rattle.txs_world_protocol.specs.declared.event.EventKind.TheVariants as event
use Rattle.txs_value_data.specs.Limits.{most_events}
use Rattle.txs_value_data.specs.Places.{fault_at}
use Rattle.txs_value_data.specs.declared.fault.Fault.{Fault}
use Rattle.txs_value_data.specs.declared.fault.FaultKind.TheVariants.{AgentFailed}
use Rattle.txs_value_data.specs.declared.fault.Span.{Span}
use Rattle.txs_value_data.specs.declared.value.CellId.{CellId}
use Rattle.txs_value_data.specs.declared.value.CellKind.{CellKind}
use Rattle.txs_value_data.specs.declared.value.CellKind.TheVariants.{Ref, Atom, Agent}
use Rattle.txs_value_data.specs.declared.value.Value.{Value}
use Rattle.txs_value_cell.specs.Forms.{same_kind}
use Rattle.txs_value_cell.specs.declared.action.Action.{Action}
use Rattle.txs_value_cell.specs.declared.cell.CellDefinition.{CellDefinition}
use Rattle.txs_world_book.specs.Atom.{swapped_since, closes_at}
use Rattle.txs_world_book.specs.Book.{has_ref, has_refs, has_cell, has_agent, actor_of, may_send, are_refs, are_sends, cells_in, actors, opening, after, newest, written, writes_to, times_written, least, least_written, is_outdated, is_failed, is_there, first_failed, mail_after, may_name, may_end, is_empty}
use Rattle.txs_world_book.specs.Served.{Served, served, adds, cells_of, event_of}
use Rattle.txs_world_book.specs.declared.cell.StoreCell.{StoreCell}
use Rattle.txs_world_book.proofs.Outcomes.{both}
use Rattle.txs_world.specs.Store.{are_apart, is_taken, looks, commits, sends_to, takes, first_action, next_action, span_of, finishes, merged, hands_out, is_over, taken_after}
use Rattle.txs_theorem_runs.specs.Shared.{Shared, atom_of, is_atom, has_atom, book_for, serve_on, serve_atom, may_ask, shared_after}
use Rattle.txs_theorem_alike.specs.Books.{SameSince, SameMail, Alike, ViewServes, SameAsk, Begins, Looks, Views, Commits, Fails, Peeks, Sends, Takes, Finishes, Opens, Closes, Resets, Breaks, SameReply, HasRoom, StayAlike}
use Rattle.txs_theorem_alike.specs.Answers.{Answers}
use Rattle.txs_theorem_alike.proofs.Eleven.{above_none, outdated_of, any_of}
use Rattle.txs_theorem_alike.proofs.Growing.{deed, point_begins, view_begins, swap_begins}
use Rattle.txs_theorem_alike.proofs.Staying.{Grown, Still, Added, stay}

-- ---- what is looked at

-- a cell is written since a place where it is written once at least
written_is : (k p : ℕ) (es : List Event) → written k p es ≡ nat_lt 0 (times_written k p es)
written_is k p [] = refl
written_is k zero (e ∷ es) = by (writes_to e.kind k) (written_is k zero es)
  where
    by : (b : Bool) → written k zero es ≡ nat_lt 0 (times_written k zero es) → (b || written k zero es) ≡ nat_lt 0 (if b then suc (times_written k zero es) else times_written k zero es)
    by true h = sym (above_none (times_written k zero es))
    by false h = h
written_is k (suc p) (e ∷ es) = written_is k p es

since_written : (cells : List StoreCell) (b c : List Event) (p q k : ℕ) → SameSince cells b c p q k → written k p b ≡ written k q c
since_written cells b c p q k h = written_is k p b ∙ any_of (times_written k p b) (times_written k q c) h.times ∙ sym (written_is k q c)

least_same : (cells : List StoreCell) (b c : List Event) (p q : ℕ) → ((r : CellId) → has_ref cells r ≡ true → written r.number p b ≡ written r.number q c)
    → (cs : List CellId) → has_refs cells cs ≡ true → least_written b p cs ≡ least_written c q cs
least_same cells b c p q h [] l = refl
least_same cells b c p q h (x ∷ xs) l =
    let m = both (has_ref cells x) (has_refs cells xs) l in
    ap (λ t. if t then least (Some x) (least_written b p xs) else least_written b p xs) (h x m.0)
    ∙ ap (λ (o : Option CellId). if written x.number q c then least (Some x) o else o) (least_same cells b c p q h xs m.1)

refs_are : (cells : List StoreCell) (n : ℕ) (cs : List CellId) → are_refs cells n cs ≡ true → has_refs cells cs ≡ true
refs_are cells n [] h = refl
refs_are cells n (x ∷ xs) h =
    let m = both (has_ref cells x) (nat_le n x.number && are_refs cells (suc x.number) xs) h in
    ap (λ t. t && has_refs cells xs) m.0 ∙ refs_are cells (suc x.number) xs (both (nat_le n x.number) (are_refs cells (suc x.number) xs) m.1).1

refs_append : (cells : List StoreCell) (cs ds : List CellId) → has_refs cells cs ≡ true → has_refs cells ds ≡ true → has_refs cells (cs ++ ds) ≡ true
refs_append cells [] ds h g = g
refs_append cells (x ∷ xs) ds h g =
    let m = both (has_ref cells x) (has_refs cells xs) h in
    ap (λ t. t && has_refs cells (xs ++ ds)) m.0 ∙ refs_append cells xs ds m.1 g

commuted_same : (cells : List StoreCell) (b c : List Event) (p q : ℕ) (ws : Writes) → ViewServes cells b c p q ws → are_refs cells 0 (cells_in ws) ≡ true → least_written b p (cells_in ws) ≡ least_written c q (cells_in ws)
commuted_same cells b c p q [] v l = refl
commuted_same cells b c p q (w ∷ ws) v l = least_same cells b c p q v.refs (cells_in (w ∷ ws)) (refs_are cells 0 (cells_in (w ∷ ws)) l)

failed_same : (cells : List StoreCell) (b c : List Event) → ((g : CellId) → has_agent cells g ≡ true → SameMail (mail_after cells b g.number) (mail_after cells c g.number))
    → (xs : List Action) → are_sends cells xs ≡ true → first_failed cells b xs ≡ first_failed cells c xs
failed_same cells b c h [] l = refl
failed_same cells b c h (x ∷ xs) l =
    let m = both (has_agent cells x.agent) (are_sends cells xs) l in
    ap (λ f. if is_there f then Some x.agent else first_failed cells b xs) (h x.agent m.0).fault
    ∙ ap (λ o. if is_failed cells c x.agent then Some x.agent else o) (failed_same cells b c h xs m.1)

-- refs and agents are cells of the store
ref_readable : (k : CellKind) (t : Bool) → (same_kind k Ref && t) ≡ true → (not (same_kind k Atom) && t) ≡ true
ref_readable Ref t h = h
ref_readable Atom t h = absurd (false≢true h)
ref_readable Agent t h = absurd (false≢true h)

agent_readable : (k : CellKind) (t : Bool) → (same_kind k Agent && t) ≡ true → (not (same_kind k Atom) && t) ≡ true
agent_readable Ref t h = absurd (false≢true h)
agent_readable Atom t h = absurd (false≢true h)
agent_readable Agent t h = h

views_same : (cells : List StoreCell) (w u : ℕ → Value) → ((r : CellId) → has_ref cells r ≡ true → w r.number ≡ u r.number)
    → (cs : List CellId) → has_refs cells cs ≡ true → map (λ (c : CellId). w c.number) cs ≡ map (λ (c : CellId). u c.number) cs
views_same cells w u h [] l = refl
views_same cells w u h (x ∷ xs) l =
    let m = both (has_ref cells x) (has_refs cells xs) l in
    ap (λ v. v ∷ map (λ (c : CellId). w c.number) xs) (h x m.0) ∙ ap (λ y. u x.number ∷ y) (views_same cells w u h xs m.1)

-- ---- one ask

-- the replies are the same, and the book for the ask stays or gets one event more, that does the same
record Answered (cells : List CellDefinition) (a : ℕ) (sh th : Shared) (n : ℕ) (v w : Served) : Type 0 where
  reply : SameReply cells sh th n v.reply w.reply
  grown : Grown a (sh.books n) (th.books n) v.book w.book

pub adds_room : (a : ℕ) (d : EventKind) (r : Reply) (book : List Event) → nat_lt (length book) most_events ≡ true → adds a d r book ≡ served r (book ++ event_of a d ∷ [])
adds_room a d r book h = ap (λ t. if t then served r (book ++ event_of a d ∷ []) else served reply.Full book) h

module _ (cells : List CellDefinition) (a : ℕ) (sh th : Shared) where
  still : (n : ℕ) (r s : Reply) → SameReply cells sh th n r s → Answered cells a sh th n (served r (sh.books n)) (served s (th.books n))
  still n r s h = record { reply = h; grown = Still }

  -- both books have room for an event
  record Rooms (n : ℕ) : Type 0 where
    one : nat_lt (length (sh.books n)) most_events ≡ true
    other : nat_lt (length (th.books n)) most_events ≡ true

  add : (n : ℕ) → Rooms n → (d e : EventKind) → deed d ≡ deed e → (r s : Reply) → SameReply cells sh th n r s → Answered cells a sh th n (adds a d r (sh.books n)) (adds a e s (th.books n))
  add n rooms d e h r s same =
      subst (λ v. Answered cells a sh th n v (adds a e s (th.books n))) (sym (adds_room a d r (sh.books n) rooms.one))
      (subst (λ w. Answered cells a sh th n (served r (sh.books n ++ event_of a d ∷ [])) w) (sym (adds_room a e s (th.books n) rooms.other))
      (record { reply = same; grown = Added d e h }))

  look : Rooms 0 → (t : Bool) (c : CellId) (p q : ℕ) → (t ≡ false → after (opening (cells_of cells)) (sh.books 0) p c.number ≡ after (opening (cells_of cells)) (th.books 0) q c.number)
      → Answered cells a sh th 0 (looks t (opening (cells_of cells)) a c p (sh.books 0)) (looks t (opening (cells_of cells)) a c q (th.books 0))
  look rooms true c p q h = add 0 rooms (event.Retry p c cause.Outdated) (event.Retry q c cause.Outdated) refl (reply.Retry c) (reply.Retry c) refl
  look rooms false c p q h = still 0 _ _ (ap reply.Is (sym (h refl)))

  commit : Rooms 0 → (o1 o2 o3 : Option CellId) (p q v w : ℕ) (ws : Writes) (sends : List Action)
      → Answered cells a sh th 0 (commits o1 o2 o3 a p v ws sends (sh.books 0)) (commits o1 o2 o3 a q w ws sends (th.books 0))
  commit rooms (Some c) o2 o3 p q v w ws sends = add 0 rooms (event.Retry p c cause.Held) (event.Retry q c cause.Held) refl (reply.Retry c) (reply.Retry c) refl
  commit rooms None (Some c) o3 p q v w ws sends = add 0 rooms (event.Retry v c (cause.Commuted p)) (event.Retry w c (cause.Commuted q)) refl (reply.Changed c) (reply.Changed c) refl
  commit rooms None None (Some g) p q v w ws sends = add 0 rooms (event.Refused p v g) (event.Refused q w g) refl (reply.AgentIsFailed g) (reply.AgentIsFailed g) refl
  commit rooms None None None p q v w ws sends = add 0 rooms (event.Commit p v ws sends) (event.Commit q w ws sends) refl reply.Done reply.Done refl

  send : Rooms 0 → (t : Bool) (x : Action) → Answered cells a sh th 0 (sends_to t a x (sh.books 0)) (sends_to t a x (th.books 0))
  send rooms true x = add 0 rooms (event.SendRefused x.agent) (event.SendRefused x.agent) refl (reply.AgentIsFailed x.agent) (reply.AgentIsFailed x.agent) refl
  send rooms false x = add 0 rooms (event.Send x) (event.Send x) refl reply.Done reply.Done refl

  take : (o : Option Action) (n m : ℕ) (v : Value) → SameReply cells sh th 0 (takes o n v) (takes o m v)
  take None n m v = refl
  take (Some x) n m v = (m, refl)

  finish : Rooms 0 → (o : Option CellId) (g : CellId) (n m : ℕ) (new : Result Value Fault) (sends : List Action) (span : Span)
      → Answered cells a sh th 0 (finishes o a g n new sends span (sh.books 0)) (finishes o a g m new sends span (th.books 0))
  finish rooms None g n m new sends span = add 0 rooms (event.Act g n new sends) (event.Act g m new sends) refl reply.Done reply.Done refl
  finish rooms (Some h) g n m new sends span =
      add 0 rooms (event.Act g n (Err (fault_at AgentFailed span)) []) (event.Act g m (Err (fault_at AgentFailed span)) []) refl (reply.AgentIsFailed h) (reply.AgentIsFailed h) refl

  close : (n : ℕ) → Rooms n → (t : Bool) (c : CellId) (v : Value) → Answered cells a sh th n (closes_at t a c v (sh.books n)) (closes_at t a c v (th.books n))
  close n rooms true c v = still n (reply.Changed c) (reply.Changed c) refl
  close n rooms false c v = add n rooms (event.Swap v) (event.Swap v) refl reply.Done reply.Done refl

  module _ (h : Alike cells sh th) where
    abbrev peeked : Bool → CellId → List Event → Served
    peeked t c book = if t then serve_atom (atom_of cells c book) a (ask.Peek c) else adds a (event.Read c) (reply.Is (newest (opening (cells_of cells)) book c.number)) book

    peek : (c : CellId) → has_cell (cells_of cells) c ≡ true → Rooms (home cells c)
        → Answered cells a sh th (home cells c) (serve_on cells a (ask.Peek c) (sh.books (home cells c))) (serve_on cells a (ask.Peek c) (th.books (home cells c)))
    peek c l rooms = by (is_atom c) refl
      where
        by : (t : Bool) → is_atom c ≡ t → Answered cells a sh th (home cells c) (peeked t c (sh.books (home cells c))) (peeked t c (th.books (home cells c)))
        by true e = add (home cells c) rooms (event.Read c) (event.Read c) refl _ _ (ap reply.Is (sym (h.atoms c (ap (λ t. t && has_cell (cells_of cells) c) e ∙ l))))
        by false e =
            let at : home cells c ≡ 0 = ap (λ t. if t then suc (atoms_below cells c.number) else 0) e in
            add (home cells c) rooms (event.Read c) (event.Read c) refl _ _
            (ap reply.Is (sym (subst (λ i. newest (opening (cells_of cells)) (sh.books i) c.number ≡ newest (opening (cells_of cells)) (th.books i) c.number) (sym at) (h.store c (ap (λ t. not t && has_cell (cells_of cells) c) e ∙ l)))))

    pub refs_newest : (r : CellId) → has_ref (cells_of cells) r ≡ true → newest (opening (cells_of cells)) (sh.books 0) r.number ≡ newest (opening (cells_of cells)) (th.books 0) r.number
    refs_newest r i = h.store r (ref_readable r.kind (has_cell (cells_of cells) r) i)

    answered : (threads : ℕ) (q r : Ask) → SameAsk cells sh th q r → may_ask cells threads sh.taken a q (sh.books (book_for cells q)) ≡ true → HasRoom cells q sh → HasRoom cells r th
        → Answered cells a sh th (book_for cells q) (serve_on cells a q (sh.books (book_for cells q))) (serve_on cells a r (th.books (book_for cells r)))
    answered threads _ _ Begins l f g = still 0 _ _ (length (th.books 0), refl, point_begins (cells_of cells) (sh.books 0) (th.books 0) refs_newest)
    answered threads _ _ (Looks c p q s) l f g =
        let named = both (nat_lt a (actors threads (cells_of cells))) (has_ref (cells_of cells) c && may_name false (sh.books 0) a p) l in
        let since = s.refs c (both (has_ref (cells_of cells) c) (may_name false (sh.books 0) a p) named.1).0 in
        subst (λ t. Answered cells a sh th 0 (looks (is_outdated c.number p (sh.books 0)) (opening (cells_of cells)) a c p (sh.books 0)) (looks t (opening (cells_of cells)) a c q (th.books 0))) (outdated_of (times_written c.number p (sh.books 0)) (times_written c.number q (th.books 0)) since.times)
        (look (record { one = f; other = g }) (is_outdated c.number p (sh.books 0)) c p q since.value)
    answered threads _ _ (Views cs) l f g =
        let named = both (nat_lt a (actors threads (cells_of cells))) (has_refs (cells_of cells) cs) l in
        still 0 _ _ (length (th.books 0), ap (reply.Views (length (th.books 0))) (sym (views_same (cells_of cells) (newest (opening (cells_of cells)) (sh.books 0)) (newest (opening (cells_of cells)) (th.books 0)) refs_newest cs named.1)), view_begins (cells_of cells) (sh.books 0) (th.books 0))
    answered threads _ _ (Commits sets commuted ensured sends p q v w s t) l f g =
        let b = sh.books 0 in
        let c = th.books 0 in
        let k = cells_of cells in
        let e1 = are_refs k 0 (cells_in sets) in
        let e2 = has_refs k ensured in
        let e3 = are_refs k 0 (cells_in commuted) in
        let e4 = are_apart (cells_in commuted) (cells_in sets) && (are_sends k sends && may_end b a p v) in
        let named = both (nat_lt a threads || (is_empty sends && nat_lt a (actors threads k))) (e1 && (e2 && (e3 && e4))) l in
        let l1 = both e1 (e2 && (e3 && e4)) named.1 in
        let l2 = both e2 (e3 && e4) l1.1 in
        let l3 = both e3 e4 l2.1 in
        let o1 = least_same k b c p q (λ r i. since_written k b c p q r.number (s.refs r i)) (cells_in sets ++ ensured) (refs_append k (cells_in sets) ensured (refs_are k 0 (cells_in sets) l1.0) l2.0) in
        let o2 = commuted_same k b c v w commuted t l3.0 in
        let l4 = both (are_apart (cells_in commuted) (cells_in sets)) (are_sends k sends && may_end b a p v) l3.1 in
        let o3 = failed_same k b c h.mail sends (both (are_sends k sends) (may_end b a p v) l4.1).0 in
        let x1 = least_written b p (cells_in sets ++ ensured) in
        let x2 = least_written b v (cells_in commuted) in
        let x3 = first_failed k b sends in
        let ws = merged sets commuted in
        subst (λ y1. Answered cells a sh th 0 (commits x1 x2 x3 a p v ws sends b) (commits y1 (least_written c w (cells_in commuted)) (first_failed k c sends) a q w ws sends c)) o1
        (subst (λ y2. Answered cells a sh th 0 (commits x1 x2 x3 a p v ws sends b) (commits x1 y2 (first_failed k c sends) a q w ws sends c)) o2
        (subst (λ y3. Answered cells a sh th 0 (commits x1 x2 x3 a p v ws sends b) (commits x1 x2 y3 a q w ws sends c)) o3
        (commit (record { one = f; other = g }) x1 x2 x3 p q v w ws sends)))
    answered threads _ _ (Fails p q v w) l f g = add 0 (record { one = f; other = g }) (event.Fail p v) (event.Fail q w) refl reply.Done reply.Done refl
    answered threads _ _ (Peeks c) l f g = peek c (both (nat_lt a (actors threads (cells_of cells))) (has_cell (cells_of cells) c) l).1 (record { one = f; other = g })
    answered threads _ _ (Sends x) l f g =
        let named = both (nat_lt a threads) (has_agent (cells_of cells) x.agent) l in
        subst (λ (o : Option Fault). Answered cells a sh th 0 (sends_to (is_failed (cells_of cells) (sh.books 0) x.agent) a x (sh.books 0)) (sends_to (is_there o) a x (th.books 0))) (h.mail x.agent named.1).fault
        (send (record { one = f; other = g }) (is_failed (cells_of cells) (sh.books 0) x.agent) x)
    answered threads _ _ (Takes i) l f g =
        let m = mail_after (cells_of cells) (sh.books 0) i.number in
        let n = mail_after (cells_of cells) (th.books 0) i.number in
        let named = both (a == actor_of threads (cells_of cells) i) (has_agent (cells_of cells) i && not (is_taken sh.taken i)) l in
        let here = (both (has_agent (cells_of cells) i) (not (is_taken sh.taken i)) named.1).0 in
        let mail = h.mail i here in
        let next : next_action (cells_of cells) (sh.books 0) i ≡ next_action (cells_of cells) (th.books 0) i = ap (λ (o : Option Fault). first_action (is_there o) m.actions) mail.fault ∙ ap (first_action (is_there n.fault)) mail.actions in
        let v = newest (opening (cells_of cells)) (sh.books 0) i.number in
        still 0 _ _ (subst (λ (o : Option Action). SameReply cells sh th 0 (takes (next_action (cells_of cells) (sh.books 0) i) (suc m.acts) v) (takes o (suc n.acts) (newest (opening (cells_of cells)) (th.books 0) i.number))) next
        (subst (λ u. SameReply cells sh th 0 (takes (next_action (cells_of cells) (sh.books 0) i) (suc m.acts) v) (takes (next_action (cells_of cells) (sh.books 0) i) (suc n.acts) u)) (h.store i (agent_readable i.kind (has_cell (cells_of cells) i) here))
        (take (next_action (cells_of cells) (sh.books 0) i) (suc m.acts) (suc n.acts) v)))
    answered threads _ _ (Finishes i new sends) l f g =
        let m = mail_after (cells_of cells) (sh.books 0) i.number in
        let n = mail_after (cells_of cells) (th.books 0) i.number in
        let o = first_failed (cells_of cells) (sh.books 0) sends in
        let e1 = is_taken sh.taken i in
        let e2 = may_send new sends in
        let e3 = are_sends (cells_of cells) sends in
        let l1 = both (a == actor_of threads (cells_of cells) i) (has_agent (cells_of cells) i && (e1 && (e2 && e3))) l in
        let l2 = both (has_agent (cells_of cells) i) (e1 && (e2 && e3)) l1.1 in
        let l3 = both e1 (e2 && e3) l2.1 in
        subst (λ x. Answered cells a sh th 0 (finishes o a i (suc m.acts) new sends (span_of m.actions) (sh.books 0)) (finishes x a i (suc n.acts) new sends (span_of n.actions) (th.books 0))) (failed_same (cells_of cells) (sh.books 0) (th.books 0) h.mail sends (both e2 e3 l3.1).1)
        (subst (λ x. Answered cells a sh th 0 (finishes o a i (suc m.acts) new sends (span_of m.actions) (sh.books 0)) (finishes o a i (suc n.acts) new sends (span_of x) (th.books 0))) (h.mail i l2.0).actions
        (finish (record { one = f; other = g }) o i (suc m.acts) (suc n.acts) new sends (span_of m.actions)))
    answered threads _ _ (Opens c) l f g =
        let named = both (nat_lt a (actors threads (cells_of cells))) (has_atom cells c) l in
        still (home cells c) _ _ (length (th.books (home cells c)), ap (reply.Opened (length (th.books (home cells c)))) (sym (h.atoms c named.1)), swap_begins (sh.books (home cells c)) (th.books (home cells c)))
    answered threads _ _ (Closes c p q v s) l f g =
        subst (λ t. Answered cells a sh th (home cells c) (closes_at (swapped_since p (sh.books (home cells c))) a c v (sh.books (home cells c))) (closes_at t a c v (th.books (home cells c)))) s.since
        (close (home cells c) (record { one = f; other = g }) (swapped_since p (sh.books (home cells c))) c v)
    answered threads _ _ (Resets c v) l f g = close (home cells c) (record { one = f; other = g }) false c v
    answered threads _ _ (Breaks c p q) l f g = add (home cells c) (record { one = f; other = g }) (event.Broke p) (event.Broke q) refl reply.Done reply.Done refl

-- ---- what is shared after it

same_home : (cells : List CellDefinition) (sh th : Shared) (q r : Ask) → SameAsk cells sh th q r → book_for cells q ≡ book_for cells r
same_home cells sh th _ _ Begins = refl
same_home cells sh th _ _ (Looks c p q s) = refl
same_home cells sh th _ _ (Views cs) = refl
same_home cells sh th _ _ (Commits sets commuted ensured sends p q v w s t) = refl
same_home cells sh th _ _ (Fails p q v w) = refl
same_home cells sh th _ _ (Peeks c) = refl
same_home cells sh th _ _ (Sends x) = refl
same_home cells sh th _ _ (Takes i) = refl
same_home cells sh th _ _ (Finishes i new sends) = refl
same_home cells sh th _ _ (Opens c) = refl
same_home cells sh th _ _ (Closes c p q v s) = refl
same_home cells sh th _ _ (Resets c v) = refl
same_home cells sh th _ _ (Breaks c p q) = refl

-- the same reply hands out an action, or says that one is over
record SameKind (r s : Reply) : Type 0 where
  hands : hands_out s ≡ hands_out r
  ends : is_over s ≡ is_over r

same_kind_of : (r s t : Reply) → s ≡ t → SameKind r t → SameKind r s
same_kind_of r s t e k = record { hands = ap hands_out e ∙ k.hands; ends = ap is_over e ∙ k.ends }

kinds : (cells : List CellDefinition) (sh th : Shared) (n : ℕ) (r s : Reply) → SameReply cells sh th n r s → SameKind r s
kinds cells sh th n (reply.At p) s h = same_kind_of (reply.At p) s (reply.At h.0) h.1 (record { hands = refl; ends = refl })
kinds cells sh th n (reply.Is v) s h = same_kind_of (reply.Is v) s (reply.Is v) h (record { hands = refl; ends = refl })
kinds cells sh th n (reply.Views p vs) s h = same_kind_of (reply.Views p vs) s (reply.Views h.0 vs) h.1 (record { hands = refl; ends = refl })
kinds cells sh th n reply.Done s h = same_kind_of reply.Done s reply.Done h (record { hands = refl; ends = refl })
kinds cells sh th n (reply.Retry c) s h = same_kind_of (reply.Retry c) s (reply.Retry c) h (record { hands = refl; ends = refl })
kinds cells sh th n (reply.Changed c) s h = same_kind_of (reply.Changed c) s (reply.Changed c) h (record { hands = refl; ends = refl })
kinds cells sh th n (reply.AgentIsFailed g) s h = same_kind_of (reply.AgentIsFailed g) s (reply.AgentIsFailed g) h (record { hands = refl; ends = refl })
kinds cells sh th n (reply.Action k x v) s h = same_kind_of (reply.Action k x v) s (reply.Action h.0 x v) h.1 (record { hands = refl; ends = refl })
kinds cells sh th n reply.Idle s h = same_kind_of reply.Idle s reply.Idle h (record { hands = refl; ends = refl })
kinds cells sh th n (reply.Opened p v) s h = same_kind_of (reply.Opened p v) s (reply.Opened h.0 v) h.1 (record { hands = refl; ends = refl })
kinds cells sh th n reply.Full s h = same_kind_of reply.Full s reply.Full h (record { hands = refl; ends = refl })
kinds cells sh th n reply.Memory s h = same_kind_of reply.Memory s reply.Memory h (record { hands = refl; ends = refl })

same_taken : (cells : List CellDefinition) (sh th : Shared) (q r : Ask) → SameAsk cells sh th q r → (x y : Reply) → SameKind x y → sh.taken ≡ th.taken → taken_after q x sh.taken ≡ taken_after r y th.taken
same_taken cells sh th _ _ Begins x y k h = h
same_taken cells sh th _ _ (Looks c p q s) x y k h = h
same_taken cells sh th _ _ (Views cs) x y k h = h
same_taken cells sh th _ _ (Commits sets commuted ensured sends p q v w s t) x y k h = h
same_taken cells sh th _ _ (Fails p q v w) x y k h = h
same_taken cells sh th _ _ (Peeks c) x y k h = h
same_taken cells sh th _ _ (Sends z) x y k h = h
same_taken cells sh th _ _ (Takes i) x y k h = ap (λ t. if hands_out x then set t i.number true else t) h ∙ ap (λ b. if b then set th.taken i.number true else th.taken) (sym k.hands)
same_taken cells sh th _ _ (Finishes i new sends) x y k h = ap (λ t. if is_over x then set t i.number false else t) h ∙ ap (λ b. if b then set th.taken i.number false else th.taken) (sym k.ends)
same_taken cells sh th _ _ (Opens c) x y k h = h
same_taken cells sh th _ _ (Closes c p q v s) x y k h = h
same_taken cells sh th _ _ (Resets c v) x y k h = h
same_taken cells sh th _ _ (Breaks c p q) x y k h = h

-- replies that are the same stay so
reply_stays : (cells : List CellDefinition) (sh th sh2 th2 : Shared) (n : ℕ) (r s : Reply) → StayAlike cells sh th sh2 th2 → SameReply cells sh th n r s → SameReply cells sh2 th2 n r s
reply_stays cells sh th sh2 th2 n (reply.At p) s k h = (h.0, h.1, k.points p h.0 h.2)
reply_stays cells sh th sh2 th2 n (reply.Is v) s k h = h
reply_stays cells sh th sh2 th2 n (reply.Views p vs) s k h = (h.0, h.1, k.views p h.0 h.2)
reply_stays cells sh th sh2 th2 n reply.Done s k h = h
reply_stays cells sh th sh2 th2 n (reply.Retry c) s k h = h
reply_stays cells sh th sh2 th2 n (reply.Changed c) s k h = h
reply_stays cells sh th sh2 th2 n (reply.AgentIsFailed g) s k h = h
reply_stays cells sh th sh2 th2 n (reply.Action i x v) s k h = h
reply_stays cells sh th sh2 th2 n reply.Idle s k h = h
reply_stays cells sh th sh2 th2 n (reply.Opened p v) s k h = (h.0, h.1, k.swaps n p h.0 h.2)
reply_stays cells sh th sh2 th2 n reply.Full s k h = h
reply_stays cells sh th sh2 th2 n reply.Memory s k h = h

pub answers : (cells : List CellDefinition) (threads a : ℕ) (q r : Ask) (sh th : Shared) → Alike cells sh th → SameAsk cells sh th q r
    → may_ask cells threads sh.taken a q (sh.books (book_for cells q)) ≡ true → HasRoom cells q sh → HasRoom cells r th → Answers cells a q r sh th
answers cells threads a q r sh th h s l f g =
    let v = serve_on cells a q (sh.books (book_for cells q)) in
    let w = serve_on cells a r (th.books (book_for cells r)) in
    let x = answered cells a sh th h threads q r s l f g in
    let k = stay cells a q r v w sh th (same_home cells sh th q r s) x.grown (same_taken cells sh th q r s v.reply w.reply (kinds cells sh th (book_for cells q) v.reply w.reply x.reply) h.taken) h in
    record { reply = reply_stays cells sh th (shared_after cells q v sh) (shared_after cells r w th) (book_for cells q) v.reply w.reply k x.reply; after = k }
