-- The transactions of what an actor did were undisturbed, where its commits were.
use Rattle.std.proofs.Common.{◌≡◌, ◌≤◌, ℕ, suc, Bool, true, false, ◌==◌, nat_lt, List, [], ◌∷◌, ◌++◌, if◌then◌else◌, length, take, map, Option, Some, None, Result, Err, refl, sym, ap, ◌∙◌, subst, arith}
use Rattle.std.proofs.lemmas.Bool.Decides.{nat_tests}
use Rattle.std.proofs.lemmas.Bool.{eqb-true}
use Rattle.txs_world_protocol.specs.Ask.{Writes, buffered}
use Rattle.txs_world_protocol.specs.declared.ask.Ask.{Ask}
use Rattle.txs_world_protocol.specs.declared.ask.Ask.TheVariants as ask
use Rattle.txs_world_protocol.specs.declared.ask.Reply.{Reply}
use Rattle.txs_world_protocol.specs.declared.ask.Reply.TheVariants as reply
use Rattle.txs_world_protocol.specs.declared.event.Event.{Event}
use Rattle.txs_world_protocol.specs.declared.event.EventKind.{EventKind}
use Rattle.txs_world_protocol.specs.declared.event.Cause.TheVariants as cause
use Rattle.txs_world_protocol.specs.declared.event.EventKind.TheVariants as event
use Rattle.txs_value_data.specs.Limits.{most_events}
use Rattle.txs_frame.specs.Frame.{sends_of_commit}
use Rattle.txs_value_data.specs.Places.{nth, fault_at}
use Rattle.txs_value_data.specs.declared.fault.Fault.{Fault}
use Rattle.txs_value_data.specs.declared.fault.FaultKind.TheVariants.{AgentFailed}
use Rattle.txs_value_data.specs.declared.fault.Span.{Span}
use Rattle.txs_value_cell.specs.declared.action.Action.{Action}
use Rattle.txs_value_cell.specs.declared.cell.CellDefinition.{CellDefinition}
use Rattle.txs_value_data.specs.declared.value.CellId.{CellId}
use Rattle.txs_value_data.specs.declared.value.Value.{Value}
use Rattle.txs_tree_meaning.specs.Thread.{TxRun}
use Rattle.txs_theorem_threads.specs.Noted.{Front, AreWritten, Commits, NotedAt, AreNoted}
use Rattle.txs_world_book.specs.Atom.{atom_newest, closes_at, swapped_since}
use Rattle.txs_world_book.specs.Book.{opening, after, newest, is_outdated, written, least_written, cells_in, is_failed, first_failed, mail_after, Untouched}
use Rattle.txs_world_book.specs.Served.{Served, served, adds, event_of, cells_of}
use Rattle.txs_world.specs.Store.{looks, commits, sends_to, takes, finishes, span_of, next_action, merged}
use Rattle.txs_theorem_runs.specs.Explains.{CommitUndisturbed, CommitsUndisturbed}
use Rattle.txs_theorem_runs.specs.Refused.{RefusalUndisturbed, RefusalsUndisturbed}
use Rattle.txs_theorem_runs.specs.Shared.{atom_of, is_atom, book_for, serve_on}
use Rattle.txs_theorem_runs.specs.Told.{Entry, exchange_of, Place, IsExchanged, AllHold, trace_of}
use Rattle.txs_theorem_runs.specs.Transactions.{SaidAt, SaidIf, SaidOf, undisturbed}
use Rattle.txs_theorem_runs.proofs.Replayed.{length_taken, stands_there}

-- ---- what is written is set

-- of these writes each is of a cell that wasn't written
untouched_one : (done : List Event) (p : ℕ) (ws : Writes) (k : ℕ) (v : Value) → Untouched done p (cells_in ws) → buffered ws k ≡ Some v → written k p done ≡ false
untouched_one done p [] k v h e = absurd (subst Nothing e tt)
  where
    Nothing : Option Value → Type 0
    Nothing None = Unit {0}
    Nothing (Some x) = ⊥
untouched_one done p (w ∷ ws) k v h e = test (w.0.number == k) refl (λ f. untouched_one done p ws k v h.1 f) e
  where
    test : (b : Bool) → (w.0.number == k) ≡ b → (buffered ws k ≡ Some v → written k p done ≡ false) → (if b then Some w.1 else buffered ws k) ≡ Some v → written k p done ≡ false
    test true q rest f = subst (λ n. written n p done ≡ false) (eqb-true w.0.number k q) h.0
    test false q rest f = rest f

-- so are all cells that are written
untouched_all : (done : List Event) (p : ℕ) (ws : Writes) (cs : List CellId) → Untouched done p (cells_in ws) → AreWritten cs ws → Untouched done p cs
untouched_all done p ws [] h w = tt
untouched_all done p ws (c ∷ cs) h w = (untouched_one done p ws c.number w.0.0 h w.0.1, untouched_all done p ws cs h w.1)

-- the same of what a transaction set or ensured, by its commit
module _ (held : Option (List Action)) (done : List Event) (x : TxRun) (at view : ℕ) (sets commuted : Writes) (ensured : List CellId) (sends : List Action) (own : Commits held x (ask.Commit at sets ensured view commuted sends)) where
  sets_untouched : Untouched done at (cells_in sets) → Untouched done at x.state.done.sets
  sets_untouched h = untouched_all done at sets x.state.done.sets h own.1

  ensures_untouched : Untouched done at ensured → Untouched done at x.state.done.ensures
  ensures_untouched h = subst (Untouched done at) own.2 h

module _ (held : Option (List Action)) (cells : List CellDefinition) (books : ℕ → List Event) (a : ℕ) where
  -- the transactions of these events are undisturbed
  abbrev Calm : List Place → List TxRun → Type 0
  Calm ps xs = SaidOf (undisturbed cells books) books ps xs

  -- one entry: an ask with its reply and its place
  module _ (q : Ask) (k : ℕ) (within : k ≤ length (books (book_for cells q))) where
    abbrev done : List Event
    done = take k (books (book_for cells q))

    -- the entry's place, before others, where this was served
    abbrev place_before : Served → List Place → List Place
    place_before v ps = if nat_lt k (length v.book) then record { book = book_for cells q; at = k } ∷ ps else ps

    module _ (Rest : List TxRun → Type 0) (ps : List Place) (rest : (xs : List TxRun) → Rest xs → Calm ps xs) (xs : List TxRun) where
      -- what holds of the entry, where this was served
      abbrev Goal : Served → Type 0
      Goal v = IsExchanged v.reply → take (length v.book) (books (book_for cells q)) ≡ v.book → NotedAt held q v.reply Rest xs → CommitUndisturbed (take k (books 0)) q v.reply → RefusalUndisturbed cells (take k (books 0)) q v.reply
          → Calm (place_before v ps) xs

      -- without an event
      quietly : (rr : Reply) → (NotedAt held q rr Rest xs → Rest xs) → Goal (served rr done)
      quietly rr f ex stands n c r = go (nat_lt k (length done)) refl
        where
          go : (b : Bool) → nat_lt k (length done) ≡ b → Calm (if b then record { book = book_for cells q; at = k } ∷ ps else ps) xs
          go false e = rest xs (f n)
          go true e = absurd (let l = length_taken k (books (book_for cells q)) within in grind (arith, nat_tests, e, l))

      -- with an event
      adding : (kind : EventKind) (rr : Reply)
          → (NotedAt held q rr Rest xs → CommitUndisturbed (take k (books 0)) q rr → RefusalUndisturbed cells (take k (books 0)) q rr → SaidAt (undisturbed cells books) (record { book = book_for cells q; at = k }) kind (λ ys. Calm ps ys) xs) → Goal (adds a kind rr done)
      adding kind rr f = go (nat_lt (length done) most_events)
        where
          go : (b : Bool) → Goal (if b then served rr (done ++ event_of a kind ∷ []) else served reply.Full done)
          go false ex stands n c r = absurd ex
          go true ex stands n c r = place (nat_lt k (length (done ++ event_of a kind ∷ []))) refl
            where
              there : nth (books (book_for cells q)) k ≡ Some (event_of a kind)
              there = stands_there (books (book_for cells q)) k (event_of a kind) within stands

              longer : (es : List Event) (d : Event) → length (es ++ d ∷ []) ≡ suc (length es)
              longer [] d = refl
              longer (x ∷ es) d = ap suc (longer es d)

              place : (b : Bool) → nat_lt k (length (done ++ event_of a kind ∷ [])) ≡ b → Calm (if b then record { book = book_for cells q; at = k } ∷ ps else ps) xs
              place true e = subst (λ o. SaidIf (undisturbed cells books) (record { book = book_for cells q; at = k }) o (λ ys. Calm ps ys) xs) (sym there) (f n c r)
              place false e = absurd (let l = length_taken k (books (book_for cells q)) within in let m = longer done (event_of a kind) in grind (arith, nat_tests, e, l, m))

  -- the agent of a refusal is that of the first send that the transaction holds
  failed_of : (o : Option (List Action)) (book : List Event) (y : TxRun) (sends : List Action) (g : CellId) → sends ≡ sends_of_commit o y.state.done.sends → first_failed (cells_of cells) book sends ≡ Some g → first_failed (cells_of cells) book y.state.done.sends ≡ Some g
  failed_of None book y sends g e r = ap (first_failed (cells_of cells) book) (sym e) ∙ r
  failed_of (Some xs) book y sends g e r = absurd (subst is_some_agent (ap (first_failed (cells_of cells) book) e) (subst is_some_agent (sym r) tt))
    where
      is_some_agent : Option CellId → Type 0
      is_some_agent None = ⊥
      is_some_agent (Some h) = Unit {0}

  -- ---- each ask

  module _ (k : ℕ) (Rest : List TxRun → Type 0) (ps : List Place) (rest : (xs : List TxRun) → Rest xs → Calm ps xs) (xs : List TxRun) where
    -- an ask at its place
    abbrev AskCalm : Ask → Type 0
    AskCalm q = (within : k ≤ length (books (book_for cells q))) → Goal q k within Rest ps rest xs (serve_on cells a q (take k (books (book_for cells q))))

    looks_calm : (b : Bool) (c : CellId) (p : ℕ) (within : k ≤ length (books 0)) → Goal (ask.Look c p) k within Rest ps rest xs (looks b (opening (cells_of cells)) a c p (take k (books 0)))
    looks_calm true c p within = adding (ask.Look c p) k within Rest ps rest xs (event.Retry p c cause.Outdated) (reply.Retry c) (λ n u r. rest xs n)
    looks_calm false c p within = quietly (ask.Look c p) k within Rest ps rest xs (reply.Is (after (opening (cells_of cells)) (take k (books 0)) p c.number)) (λ n. n)

    sends_calm : (b : Bool) (x : Action) (within : k ≤ length (books 0)) → Goal (ask.Send x) k within Rest ps rest xs (sends_to b a x (take k (books 0)))
    sends_calm true x within = adding (ask.Send x) k within Rest ps rest xs (event.SendRefused x.agent) (reply.AgentIsFailed x.agent) (λ n u r. rest xs n)
    sends_calm false x within = adding (ask.Send x) k within Rest ps rest xs (event.Send x) reply.Done (λ n u r. rest xs n)

    commits_calm : (o c g : Option CellId) (p v : ℕ) (sets commuted ws : Writes) (ensured : List CellId) (sends : List Action) (within : k ≤ length (books 0))
        → Goal (ask.Commit p sets ensured v commuted sends) k within Rest ps rest xs (commits o c g a p v ws sends (take k (books 0)))
    commits_calm (Some d) c g p v sets commuted ws ensured sends within =
        adding (ask.Commit p sets ensured v commuted sends) k within Rest ps rest xs (event.Retry p d cause.Held) (reply.Retry d) (λ n u r. rest xs n)
    commits_calm None (Some d) g p v sets commuted ws ensured sends within =
        adding (ask.Commit p sets ensured v commuted sends) k within Rest ps rest xs (event.Retry v d (cause.Commuted p)) (reply.Changed d) (λ n u r. rest xs n)
    commits_calm None None (Some g) p v sets commuted ws ensured sends within =
        adding (ask.Commit p sets ensured v commuted sends) k within Rest ps rest xs (event.Refused p v g) (reply.AgentIsFailed g) (λ n u r. first xs n r)
      where
        first : (ys : List TxRun) → Front (λ x. Commits held x (ask.Commit p sets ensured v commuted sends)) Rest ys → RefusalUndisturbed cells (take k (books 0)) (ask.Commit p sets ensured v commuted sends) (reply.AgentIsFailed g)
            → SaidAt (undisturbed cells books) (record { book = 0; at = k }) (event.Refused p v g) (λ zs. Calm ps zs) ys
        first [] n r = absurd n
        first (y ∷ ys) n r = (
          (
            sets_untouched held (take k (books 0)) y p v sets commuted ensured sends n.0 r.0,
            ensures_untouched held (take k (books 0)) y p v sets commuted ensured sends n.0 r.1,
            failed_of held (take k (books 0)) y sends g n.0.3 r.3,
          ),
          rest ys n.1,
        )
    commits_calm None None None p v sets commuted ws ensured sends within =
        adding (ask.Commit p sets ensured v commuted sends) k within Rest ps rest xs (event.Commit p v ws sends) reply.Done (λ n u r. first xs n u)
      where
        first : (ys : List TxRun) → Front (λ x. Commits held x (ask.Commit p sets ensured v commuted sends)) Rest ys → CommitUndisturbed (take k (books 0)) (ask.Commit p sets ensured v commuted sends) reply.Done
            → SaidAt (undisturbed cells books) (record { book = 0; at = k }) (event.Commit p v ws sends) (λ zs. Calm ps zs) ys
        first [] n u = absurd n
        first (y ∷ ys) n u =
            ((sets_untouched held (take k (books 0)) y p v sets commuted ensured sends n.0 u.0, ensures_untouched held (take k (books 0)) y p v sets commuted ensured sends n.0 u.1), rest ys n.1)

    closes_calm : (b : Bool) (c : CellId) (p : Option ℕ) (v : Value) (within : k ≤ length (books (book_for cells (ask.CloseAt c p v)))) → Goal (ask.CloseAt c p v) k within Rest ps rest xs (closes_at b a c v (take k (books (book_for cells (ask.CloseAt c p v)))))
    closes_calm true c p v within = quietly (ask.CloseAt c p v) k within Rest ps rest xs (reply.Changed c) (λ n. n)
    closes_calm false c p v within = adding (ask.CloseAt c p v) k within Rest ps rest xs (event.Swap v) reply.Done (λ n u r. rest xs n)

    peek_calm : (b : Bool) (c : CellId) (v w : Value) (within : k ≤ length (books (book_for cells (ask.Peek c)))) (book : List Event) → book ≡ take k (books (book_for cells (ask.Peek c)))
        → Goal (ask.Peek c) k within Rest ps rest xs (if b then adds a (event.Read c) (reply.Is v) book else adds a (event.Read c) (reply.Is w) book)
    peek_calm true c v w within book e = subst (λ l. Goal (ask.Peek c) k within Rest ps rest xs (adds a (event.Read c) (reply.Is v) l)) (sym e) (adding (ask.Peek c) k within Rest ps rest xs (event.Read c) (reply.Is v) (λ n u r. rest xs n))
    peek_calm false c v w within book e = subst (λ l. Goal (ask.Peek c) k within Rest ps rest xs (adds a (event.Read c) (reply.Is w) l)) (sym e) (adding (ask.Peek c) k within Rest ps rest xs (event.Read c) (reply.Is w) (λ n u r. rest xs n))

    finishes_calm : (o : Option CellId) (g : CellId) (n : ℕ) (new : Result Value Fault) (sends : List Action) (span : Span) (within : k ≤ length (books 0)) → Goal (ask.Finish g new sends) k within Rest ps rest xs (finishes o a g n new sends span (take k (books 0)))
    finishes_calm None g n new sends span within = adding (ask.Finish g new sends) k within Rest ps rest xs (event.Act g n new sends) reply.Done (λ m u r. rest xs m)
    finishes_calm (Some h) g n new sends span within = adding (ask.Finish g new sends) k within Rest ps rest xs (event.Act g n (Err (fault_at AgentFailed span)) []) (reply.AgentIsFailed h) (λ m u r. rest xs m)

    ask_calm : (q : Ask) → AskCalm q
    ask_calm ask.Begin within = quietly ask.Begin k within Rest ps rest xs (reply.At (length (take k (books 0)))) (λ n. n)
    ask_calm (ask.Look c p) within = looks_calm (is_outdated c.number p (take k (books 0))) c p within
    ask_calm (ask.View cs) within = quietly (ask.View cs) k within Rest ps rest xs (reply.Views (length (take k (books 0))) (map (λ c. newest (opening (cells_of cells)) (take k (books 0)) c.number) cs)) (λ n. n)
    ask_calm (ask.Commit p sets ensured v commuted sends) within =
        commits_calm (least_written (take k (books 0)) p (cells_in sets ++ ensured)) (least_written (take k (books 0)) v (cells_in commuted)) (first_failed (cells_of cells) (take k (books 0)) sends) p v sets commuted (merged sets commuted) ensured sends within
    ask_calm (ask.Fail p v) within = adding (ask.Fail p v) k within Rest ps rest xs (event.Fail p v) reply.Done (λ n u r. rest xs n)
    ask_calm (ask.Peek c) within =
        peek_calm (is_atom c) c (atom_newest (atom_of cells c (take k (books (book_for cells (ask.Peek c)))))) (newest (opening (cells_of cells)) (take k (books (book_for cells (ask.Peek c)))) c.number) within (take k (books (book_for cells (ask.Peek c)))) refl
    ask_calm (ask.Send x) within = sends_calm (is_failed (cells_of cells) (take k (books 0)) x.agent) x within
    ask_calm (ask.Take g) within =
        quietly (ask.Take g) k within Rest ps rest xs (takes (next_action (cells_of cells) (take k (books 0)) g) (suc (mail_after (cells_of cells) (take k (books 0)) g.number).acts) (newest (opening (cells_of cells)) (take k (books 0)) g.number)) (λ n. n)
    ask_calm (ask.Finish g new sends) within =
        finishes_calm (first_failed (cells_of cells) (take k (books 0)) sends) g (suc (mail_after (cells_of cells) (take k (books 0)) g.number).acts) new sends (span_of (mail_after (cells_of cells) (take k (books 0)) g.number).actions) within
    ask_calm (ask.OpenAt c) within =
        quietly (ask.OpenAt c) k within Rest ps rest xs (reply.Opened (length (take k (books (book_for cells (ask.OpenAt c))))) (atom_newest (atom_of cells c (take k (books (book_for cells (ask.OpenAt c))))))) (λ n. n)
    ask_calm (ask.CloseAt c None v) within = closes_calm false c None v within
    ask_calm (ask.CloseAt c (Some p) v) within = closes_calm (swapped_since p (take k (books (book_for cells (ask.CloseAt c (Some p) v))))) c (Some p) v within
    ask_calm (ask.Broke c p) within = adding (ask.Broke c p) k within Rest ps rest xs (event.Broke p) reply.Done (λ n u r. rest xs n)

  -- entries that hold, whose commits and refusals were undisturbed, by the transactions of their asks
  pub entries_undisturbed : (threads : ℕ) (es : List Entry) (xs : List TxRun) → AllHold cells threads books a es → CommitsUndisturbed books es → RefusalsUndisturbed cells books es → AreNoted held (map exchange_of es) xs → SaidOf (undisturbed cells books) books (trace_of cells books a es) xs
  entries_undisturbed threads [] xs hold commits refusals noted = noted
  entries_undisturbed threads (e ∷ es) xs hold commits refusals noted =
      let h = hold.0 in
      ask_calm e.at (λ ys. AreNoted held (map exchange_of es) ys) (trace_of cells books a es) (λ ys n. entries_undisturbed threads es ys hold.1 commits.1 refusals.1 n) xs e.ask h.within
      (subst IsExchanged h.replied h.exchanged) h.stands
      (subst (λ r. NotedAt held e.ask r (λ ys. AreNoted held (map exchange_of es) ys) xs) h.replied noted)
      (subst (λ r. CommitUndisturbed (take e.at (books 0)) e.ask r) h.replied commits.0)
      (subst (λ r. RefusalUndisturbed cells (take e.at (books 0)) e.ask r) h.replied refusals.0)
