-- What an agent's actor did for an action grows by the event of each ask that doesn't hand the action in.
use Rattle.std.proofs.lemmas.Bool.{false≢true}
use Rattle.std.proofs.Common.{◌≡◌, ◌≤◌, ℕ, suc, Bool, true, false, nat_lt, List, [], ◌∷◌, ◌++◌, if◌then◌else◌, length, take, map, Option, Some, None, refl, sym, ap, subst, arith}
use Rattle.std.proofs.lemmas.Bool.Decides.{nat_tests}
use Rattle.txs_world_protocol.specs.Ask.{Writes}
use Rattle.txs_world_protocol.specs.declared.ask.Ask.{Ask}
use Rattle.txs_world_protocol.specs.declared.ask.Ask.TheVariants as ask
use Rattle.txs_world_protocol.specs.declared.ask.Reply.{Reply}
use Rattle.txs_world_protocol.specs.declared.ask.Reply.TheVariants as reply
use Rattle.txs_world_protocol.specs.declared.event.Event.{Event}
use Rattle.txs_world_protocol.specs.declared.event.EventKind.{EventKind}
use Rattle.txs_world_protocol.specs.declared.event.Cause.TheVariants as cause
use Rattle.txs_world_protocol.specs.declared.event.EventKind.TheVariants as event
use Rattle.txs_value_data.specs.Limits.{most_events}
use Rattle.txs_value_data.specs.Places.{nth}
use Rattle.txs_value_cell.specs.declared.action.Action.{Action}
use Rattle.txs_value_cell.specs.declared.cell.CellDefinition.{CellDefinition}
use Rattle.txs_value_data.specs.declared.value.CellId.{CellId}
use Rattle.txs_value_data.specs.declared.value.Value.{Value}
use Rattle.txs_tree_meaning.specs.Tree.{PlainFunction}
use Rattle.txs_world_book.specs.Atom.{atom_newest, closes_at, swapped_since}
use Rattle.txs_world_book.specs.Book.{opening, after, newest, is_outdated, least_written, cells_in, is_failed, first_failed, mail_after}
use Rattle.txs_world_book.specs.Served.{Served, served, adds, event_of, cells_of}
use Rattle.txs_world.specs.Store.{looks, commits, sends_to, takes, next_action, merged}
use Rattle.txs_theorem_runs.specs.Agents.{ActionDid, AtEnd, EventMeans, OfEvent, ActsUpTo}
use Rattle.txs_theorem_runs.specs.Finished.{is_finish}
use Rattle.txs_theorem_runs.specs.Shared.{atom_of, is_atom, book_for, serve_on}
use Rattle.txs_theorem_runs.specs.Told.{Entry, Place, IsExchanged, EntryHolds, adding}
use Rattle.txs_theorem_runs.proofs.Replayed.{length_taken, stands_there}

module _ (cells : List CellDefinition) (functions : List PlainFunction) (books : ℕ → List Event) (g : CellId) (a : ℕ) (end : AtEnd) (out : List ℕ) (ds : List ActionDid) (since ps : List Place) where
  -- what the places mean, with these events since the last act
  abbrev pub Acts : List Place → List Place → Type 0
  Acts qs done = ActsUpTo cells functions books g end qs done out ds

  -- one entry: an ask with its reply and its place
  module _ (q : Ask) (k : ℕ) (within : k ≤ length (books (book_for cells q))) where
    abbrev pub done : List Event
    done = take k (books (book_for cells q))

    abbrev pub here : Place
    here = record { book = book_for cells q; at = k }

    abbrev pub place_before : Served → List Place → List Place
    place_before v qs = if nat_lt k (length v.book) then here ∷ qs else qs

    -- what holds of the entry, where this was served
    abbrev pub Goal : Served → Type 0
    Goal v = IsExchanged v.reply → take (length v.book) (books (book_for cells q)) ≡ v.book → Acts ps (since ++ place_before v []) → Acts (place_before v ps) since

    append_nil : (xs : List Place) → xs ++ [] ≡ xs
    append_nil [] = refl
    append_nil (x ∷ xs) = ap (λ l. x ∷ l) (append_nil xs)

    -- without an event
    pub quietly : (rr : Reply) → Goal (served rr done)
    quietly rr ex stands h = go (nat_lt k (length done)) refl h
      where
        go : (b : Bool) → nat_lt k (length done) ≡ b → Acts ps (since ++ (if b then here ∷ [] else [])) → Acts (if b then here ∷ ps else ps) since
        go false e h = subst (Acts ps) (append_nil since) h
        go true e h = absurd (let l = length_taken k (books (book_for cells q)) within in grind (arith, nat_tests, e, l))

    -- with an event; of one that is there, this follows
    pub with_event : (kind : EventKind) (rr : Reply) (P : Type 0) → (P → EventMeans cells functions books g here kind since out ds (λ since1 out1 ds1. ActsUpTo cells functions books g end ps since1 out1 ds1))
        → (IsExchanged rr → Acts ps (since ++ here ∷ []) → P) → Goal (adds a kind rr done)
    with_event kind rr P f p = go (nat_lt (length done) most_events)
      where
        go : (b : Bool) → Goal (if b then served rr (done ++ event_of a kind ∷ []) else served reply.Full done)
        go false ex stands h = absurd ex
        go true ex stands h = place (nat_lt k (length (done ++ event_of a kind ∷ []))) refl h
          where
            there : nth (books (book_for cells q)) k ≡ Some (event_of a kind)
            there = stands_there (books (book_for cells q)) k (event_of a kind) within stands

            longer : (es : List Event) (d : Event) → length (es ++ d ∷ []) ≡ suc (length es)
            longer [] d = refl
            longer (x ∷ es) d = ap suc (longer es d)

            place : (b : Bool) → nat_lt k (length (done ++ event_of a kind ∷ [])) ≡ b → Acts ps (since ++ (if b then here ∷ [] else [])) → Acts (if b then here ∷ ps else ps) since
            place true e h =
                subst (λ o. OfEvent o (λ d. EventMeans cells functions books g here d.kind since out ds (λ since1 out1 ds1. ActsUpTo cells functions books g end ps since1 out1 ds1))) (sym there) (f (p ex h))
            place false e h = absurd (let l = length_taken k (books (book_for cells q)) within in let m = longer done (event_of a kind) in grind (arith, nat_tests, e, l, m))

    -- with an event that is no act
    adding_so : (kind : EventKind) (rr : Reply) → (Acts ps (since ++ here ∷ []) → EventMeans cells functions books g here kind since out ds (λ since1 out1 ds1. ActsUpTo cells functions books g end ps since1 out1 ds1)) → Goal (adds a kind rr done)
    adding_so kind rr f = with_event kind rr (Acts ps (since ++ here ∷ [])) f (λ ex h. h)

  -- ---- each ask

  module _ (k : ℕ) where
    abbrev AskSteps : Ask → Type 0
    AskSteps q = (within : k ≤ length (books (book_for cells q))) → Goal q k within (serve_on cells a q (take k (books (book_for cells q))))

    looks_step : (b : Bool) (c : CellId) (p : ℕ) (within : k ≤ length (books 0)) → Goal (ask.Look c p) k within (looks b (opening (cells_of cells)) a c p (take k (books 0)))
    looks_step true c p within = adding_so (ask.Look c p) k within (event.Retry p c cause.Outdated) (reply.Retry c) (λ h. h)
    looks_step false c p within = quietly (ask.Look c p) k within (reply.Is (after (opening (cells_of cells)) (take k (books 0)) p c.number))

    sends_step : (b : Bool) (x : Action) (within : k ≤ length (books 0)) → Goal (ask.Send x) k within (sends_to b a x (take k (books 0)))
    sends_step true x within = adding_so (ask.Send x) k within (event.SendRefused x.agent) (reply.AgentIsFailed x.agent) (λ h. h)
    sends_step false x within = adding_so (ask.Send x) k within (event.Send x) reply.Done (λ h. h)

    commits_step : (o c f : Option CellId) (p v : ℕ) (sets commuted ws : Writes) (ensured : List CellId) (sends : List Action) (within : k ≤ length (books 0))
        → Goal (ask.Commit p sets ensured v commuted sends) k within (commits o c f a p v ws sends (take k (books 0)))
    commits_step (Some d) c f p v sets commuted ws ensured sends within = adding_so (ask.Commit p sets ensured v commuted sends) k within (event.Retry p d cause.Held) (reply.Retry d) (λ h. h)
    commits_step None (Some d) f p v sets commuted ws ensured sends within = adding_so (ask.Commit p sets ensured v commuted sends) k within (event.Retry v d (cause.Commuted p)) (reply.Changed d) (λ h. h)
    commits_step None None (Some d) p v sets commuted ws ensured sends within = adding_so (ask.Commit p sets ensured v commuted sends) k within (event.Refused p v d) (reply.AgentIsFailed d) (λ h. h)
    commits_step None None None p v sets commuted ws ensured sends within = adding_so (ask.Commit p sets ensured v commuted sends) k within (event.Commit p v ws sends) reply.Done (λ h. h)

    closes_step : (b : Bool) (c : CellId) (p : Option ℕ) (v : Value) (within : k ≤ length (books (book_for cells (ask.CloseAt c p v)))) → Goal (ask.CloseAt c p v) k within (closes_at b a c v (take k (books (book_for cells (ask.CloseAt c p v)))))
    closes_step true c p v within = quietly (ask.CloseAt c p v) k within (reply.Changed c)
    closes_step false c p v within = adding_so (ask.CloseAt c p v) k within (event.Swap v) reply.Done (λ h. h)

    peek_step : (b : Bool) (c : CellId) (v w : Value) (within : k ≤ length (books (book_for cells (ask.Peek c)))) (book : List Event) → book ≡ take k (books (book_for cells (ask.Peek c)))
        → Goal (ask.Peek c) k within (if b then adds a (event.Read c) (reply.Is v) book else adds a (event.Read c) (reply.Is w) book)
    peek_step true c v w within book e = subst (λ l. Goal (ask.Peek c) k within (adds a (event.Read c) (reply.Is v) l)) (sym e) (adding_so (ask.Peek c) k within (event.Read c) (reply.Is v) (λ h. h))
    peek_step false c v w within book e = subst (λ l. Goal (ask.Peek c) k within (adds a (event.Read c) (reply.Is w) l)) (sym e) (adding_so (ask.Peek c) k within (event.Read c) (reply.Is w) (λ h. h))

    ask_steps : (q : Ask) → is_finish q ≡ false → AskSteps q
    ask_steps ask.Begin isnt within = quietly ask.Begin k within (reply.At (length (take k (books 0))))
    ask_steps (ask.Look c p) isnt within = looks_step (is_outdated c.number p (take k (books 0))) c p within
    ask_steps (ask.View cs) isnt within = quietly (ask.View cs) k within (reply.Views (length (take k (books 0))) (map (λ c. newest (opening (cells_of cells)) (take k (books 0)) c.number) cs))
    ask_steps (ask.Commit p sets ensured v commuted sends) isnt within =
        commits_step (least_written (take k (books 0)) p (cells_in sets ++ ensured)) (least_written (take k (books 0)) v (cells_in commuted)) (first_failed (cells_of cells) (take k (books 0)) sends) p v sets commuted (merged sets commuted) ensured sends within
    ask_steps (ask.Fail p v) isnt within = adding_so (ask.Fail p v) k within (event.Fail p v) reply.Done (λ h. h)
    ask_steps (ask.Peek c) isnt within =
        peek_step (is_atom c) c (atom_newest (atom_of cells c (take k (books (book_for cells (ask.Peek c)))))) (newest (opening (cells_of cells)) (take k (books (book_for cells (ask.Peek c)))) c.number) within (take k (books (book_for cells (ask.Peek c)))) refl
    ask_steps (ask.Send x) isnt within = sends_step (is_failed (cells_of cells) (take k (books 0)) x.agent) x within
    ask_steps (ask.Take h) isnt within =
        quietly (ask.Take h) k within (takes (next_action (cells_of cells) (take k (books 0)) h) (suc (mail_after (cells_of cells) (take k (books 0)) h.number).acts) (newest (opening (cells_of cells)) (take k (books 0)) h.number))
    ask_steps (ask.Finish h new sends) isnt within = absurd (false≢true (sym isnt))
    ask_steps (ask.OpenAt c) isnt within = quietly (ask.OpenAt c) k within (reply.Opened (length (take k (books (book_for cells (ask.OpenAt c))))) (atom_newest (atom_of cells c (take k (books (book_for cells (ask.OpenAt c)))))))
    ask_steps (ask.CloseAt c None v) isnt within = closes_step false c None v within
    ask_steps (ask.CloseAt c (Some p) v) isnt within = closes_step (swapped_since p (take k (books (book_for cells (ask.CloseAt c (Some p) v))))) c (Some p) v within
    ask_steps (ask.Broke c p) isnt within = adding_so (ask.Broke c p) k within (event.Broke p) reply.Done (λ h. h)

  -- an entry that holds and doesn't hand the action in
  pub entry_steps : (threads : ℕ) (e : Entry) → EntryHolds cells threads books a e → is_finish e.ask ≡ false → Acts ps (since ++ adding cells books a e []) → Acts (adding cells books a e ps) since
  entry_steps threads e h isnt acts = ask_steps e.at e.ask isnt h.within (subst IsExchanged h.replied h.exchanged) h.stands acts
