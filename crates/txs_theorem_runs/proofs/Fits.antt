-- What an actor was told fits what it did.
use Rattle.std.proofs.Common.{◌≡◌, ◌≤◌, ℕ, suc, Bool, true, false, ◌&&◌, ◌||◌, nat_lt, List, [], ◌∷◌, ◌++◌, if◌then◌else◌, length, take, map, Option, Some, None, refl, sym, ap, ◌∙◌, subst, arith}
use Rattle.std.proofs.lemmas.Bool.{false≢true}
use Rattle.std.proofs.lemmas.Bool.Decides.{nat_tests}
use Rattle.txs_world_protocol.specs.Ask.{Writes, Exchange, with_write}
use Rattle.txs_world_protocol.specs.SeenEvent.{SeenEvent, home, atoms_below}
use Rattle.txs_world_protocol.specs.declared.ask.Ask.{Ask}
use Rattle.txs_world_protocol.specs.declared.ask.Ask.TheVariants as ask
use Rattle.txs_world_protocol.specs.declared.ask.Reply.{Reply}
use Rattle.txs_world_protocol.specs.declared.ask.Reply.TheVariants as reply
use Rattle.txs_world_protocol.specs.declared.event.Event.{Event}
use Rattle.txs_world_protocol.specs.declared.event.EventKind.{EventKind}
use Rattle.txs_world_protocol.specs.declared.event.Cause.TheVariants as cause
use Rattle.txs_world_protocol.specs.declared.event.EventKind.TheVariants as event
use Rattle.txs_value_data.proofs.SameLemmas.{and_both}
use Rattle.txs_value_cell.specs.Cells.{World}
use Rattle.txs_value_cell.specs.Forms.{same_kind}
use Rattle.txs_value_data.specs.Limits.{most_events}
use Rattle.txs_value_data.specs.Places.{nth}
use Rattle.txs_value_cell.specs.declared.action.Action.{Action}
use Rattle.txs_value_cell.specs.declared.cell.CellDefinition.{CellDefinition}
use Rattle.txs_value_data.specs.declared.value.CellId.{CellId}
use Rattle.txs_value_data.specs.declared.value.CellKind.TheVariants.{Atom}
use Rattle.txs_value_data.specs.declared.value.Value.{Value}
use Rattle.txs_frame.specs.Frame.{has_number}
use Rattle.txs_theorem_threads.specs.RepliesFit.{Phase, Out, belongs, PhaseFits, Gives, AgreeOn}
use Rattle.txs_theorem_threads.specs.RepliesFitTo.{RepliesFitTo}
use Rattle.txs_world_book.specs.Atom.{atom_after, swapped_since, closes_at}
use Rattle.txs_world_book.specs.Book.{opening, after, newest, is_outdated, least_written, cells_in, actors, may_name, may_end, has_cell, is_failed, first_failed, has_ref, has_refs, are_refs, are_sends, is_empty}
use Rattle.txs_tree_meaning.specs.Transaction as tree
use Rattle.txs_world_book.specs.Laws.{UnwrittenStays}
use Rattle.txs_world_book.specs.Served.{Served, served, adds, event_of, cells_of}
use Rattle.txs_world.specs.Store.{looks, commits, sends_to, merged, are_apart, serve}
use Rattle.txs_theorem_runs.specs.Shared.{book_for, serve_on, may_ask, is_atom, has_atom, world_of, seen_in}
use Rattle.txs_theorem_runs.specs.Stages.{Stage, Resting, Idle, Open, Viewing, Swapping, AsksIn, stage_after, phase_of}
use Rattle.txs_theorem_runs.specs.Told.{Entry, exchange_of, Place, IsExchanged, AllHold, AreStaged, trace_of, seen_before, seen_of, history_of}
use Rattle.txs_theorem_runs.proofs.Replayed.{length_taken, after_taken, newest_taken, atom_taken, atom_newest_taken, atom_unswapped, stands_there, named, ended, gives_all, unwritten_agree, least_among}

-- an event added where there is room
abbrev pub added : Bool → ℕ → EventKind → Reply → List Event → Served
added b a kind r es = if b then served r (es ++ event_of a kind ∷ []) else served reply.Full es

module _ (stays : UnwrittenStays) (cells : List CellDefinition) (threads : ℕ) (books : ℕ → List Event) (a : ℕ) where
  abbrev w : World
  w = opening (cells_of cells)

  -- one entry: an ask with its reply and its place
  module _ (q : Ask) (k : ℕ) (within : k ≤ length (books (book_for cells q))) where
    abbrev n : ℕ
    n = book_for cells q

    abbrev done : List Event
    done = take k (books (book_for cells q))

    -- the entry's place, before others, where this was served
    abbrev place_before : Served → List Place → List Place
    place_before v ps = if nat_lt k (length v.book) then record { book = book_for cells q; at = k } ∷ ps else ps

    no_place : (ps : List Place) (rr : Reply) → place_before (served rr done) ps ≡ ps
    no_place ps rr = go (nat_lt k (length done)) refl
      where
        go : (b : Bool) → nat_lt k (length done) ≡ b → (if b then record { book = book_for cells q; at = k } ∷ ps else ps) ≡ ps
        go false e = refl
        go true e = absurd (let l = length_taken k (books (book_for cells q)) within in grind (arith, nat_tests, e, l))

    module _ (xs : List Exchange) (end : Phase) (ps : List Place) where
      abbrev hs : List SeenEvent
      hs = seen_of cells books ps

      -- what goes on after the entry
      abbrev Goes : Phase → List SeenEvent → Type 0
      Goes ph es = RepliesFitTo cells ph xs es end

      -- the entry fits these events
      abbrev Fits : Stage → Reply → List SeenEvent → Type 0
      Fits st rr es = (belongs (phase_of cells books st) q ≡ true) × PhaseFits cells (phase_of cells books st) q rr Goes es

      -- the entry fits, where this was served
      abbrev Fitting : Stage → Served → Type 0
      Fitting st v = IsExchanged v.reply → take (length v.book) (books (book_for cells q)) ≡ v.book
          → Goes (phase_of cells books (stage_after st q v.reply)) hs → Fits st v.reply (seen_of cells books (place_before v ps))

      -- without an event
      quietly : (st : Stage) (rr : Reply) → (Goes (phase_of cells books (stage_after st q rr)) hs → Fits st rr hs) → Fitting st (served rr done)
      quietly st rr f ex stands g = subst (λ l. Fits st rr (seen_of cells books l)) (sym (no_place ps rr)) (f g)

      -- with an event
      adding : (st : Stage) (kind : EventKind) (rr : Reply)
          → (Goes (phase_of cells books (stage_after st q rr)) hs → Fits st rr (seen_in cells (book_for cells q) (books (book_for cells q)) k kind ∷ hs)) → Fitting st (adds a kind rr done)
      adding st kind rr f = go (nat_lt (length done) most_events)
        where
          go : (b : Bool) → Fitting st (added b a kind rr done)
          go false ex stands g = absurd ex
          go true ex stands g = place (nat_lt k (length (done ++ event_of a kind ∷ []))) refl
            where
              there : nth (books (book_for cells q)) k ≡ Some (event_of a kind)
              there = stands_there (books (book_for cells q)) k (event_of a kind) within stands

              place : (b : Bool) → nat_lt k (length (done ++ event_of a kind ∷ [])) ≡ b → Fits st rr (seen_of cells books (if b then record { book = book_for cells q; at = k } ∷ ps else ps))
              place true e = subst (λ o. Fits st rr (seen_before cells books (record { book = book_for cells q; at = k }) o hs)) (sym there) (f g)
              place false e = absurd (let l = length_taken k (books (book_for cells q)) within in longer done (event_of a kind) l e)
                where
                  longer : (es : List Event) (d : Event) → length es ≡ k → nat_lt k (length (es ++ d ∷ [])) ≡ false → ⊥
                  longer es d l h = let m = more es d in grind (arith, nat_tests, h, l, m)
                    where
                      more : (es : List Event) (d : Event) → length (es ++ d ∷ []) ≡ suc (length es)
                      more [] d = refl
                      more (x ∷ es) d = ap suc (more es d)

  -- ---- what an atom's book tells

  -- the world of an atom has its value
  atom_world : (c : CellId) → is_atom c ≡ true → (es : List Event) (p : ℕ) → world_of cells (home cells c) es p c.number ≡ atom_after (w c.number) es p
  atom_world c h es p = subst (λ b. world_of cells (if b then suc (atoms_below cells c.number) else 0) es p c.number ≡ atom_after (w c.number) es p) (sym h) refl

  -- what is tested behind the actor's number
  tested : (b : Bool) → (nat_lt a (actors threads (cells_of cells)) && b) ≡ true → b ≡ true
  tested b h = (and_both (nat_lt a (actors threads (cells_of cells))) b h).1

  atom_there : (c : CellId) → has_atom cells c ≡ true → is_atom c ≡ true
  atom_there c h = (and_both (is_atom c) (has_cell (cells_of cells) c) h).0

  -- the book of a cell, by whether it is an atom
  abbrev book_if : CellId → Bool → ℕ
  book_if c b = if b then suc (atoms_below cells c.number) else 0

  -- a read of any cell
  peek_served : (c : CellId) (k : ℕ) → k ≤ length (books (home cells c))
      → serve_on cells a (ask.Peek c) (take k (books (home cells c)))
      ≡ adds a (event.Read c) (reply.Is (world_of cells (home cells c) (books (home cells c)) k c.number)) (take k (books (home cells c)))
  peek_served c k within = go (same_kind c.kind Atom) within
    where
      go : (b : Bool) → k ≤ length (books (book_if c b))
          → (if b then adds a (event.Read c) (reply.Is (atom_after (w c.number) (take k (books (book_if c b))) (length (take k (books (book_if c b)))))) (take k (books (book_if c b))) else serve (cells_of cells) a (ask.Peek c) (take k (books (book_if c b))))
          ≡ adds a (event.Read c) (reply.Is (world_of cells (book_if c b) (books (book_if c b)) k c.number)) (take k (books (book_if c b)))
      go true le = ap (λ v. adds a (event.Read c) (reply.Is v) (take k (books (book_if c true)))) (atom_newest_taken (w c.number) (books (book_if c true)) k le)
      go false le = ap (λ (u : World). adds a (event.Read c) (reply.Is (u c.number)) (take k (books 0))) (newest_taken w (books 0) k le)

  -- ---- the stages

  module _ (k : ℕ) (xs : List Exchange) (end : Phase) (ps : List Place) (taken : List Bool) where
    -- an ask that might be asked fits in this stage
    abbrev pub AskFits : Stage → Ask → Type 0
    AskFits st q = (within : k ≤ length (books (book_for cells q))) → may_ask cells threads taken a q (take k (books (book_for cells q))) ≡ true → Fitting q k within xs end ps st (serve_on cells a q (take k (books (book_for cells q))))

    sends_fit : (b : Bool) (x : Action) (within : k ≤ length (books 0)) → Fitting (ask.Send x) k within xs end ps Idle (sends_to b a x (take k (books 0)))
    sends_fit true x within = adding (ask.Send x) k within xs end ps Idle (event.SendRefused x.agent) (reply.AgentIsFailed x.agent) (λ g. (refl, (refl, (refl, refl), g)))
    sends_fit false x within = adding (ask.Send x) k within xs end ps Idle (event.Send x) reply.Done (λ g. (refl, (refl, refl, g)))

    idle_fits : (q : Ask) → AsksIn false Idle q → AskFits Idle q
    idle_fits ask.Begin ok within may = quietly ask.Begin k within xs end ps Idle (reply.At (length (take k (books 0)))) (λ g. (refl, (world_of cells 0 (books 0) (length (take k (books 0))), g)))
    idle_fits (ask.Peek c) ok within may =
        subst (λ v. Fitting (ask.Peek c) k within xs end ps Idle v) (sym (peek_served c k within))
        (adding (ask.Peek c) k within xs end ps Idle (event.Read c) (reply.Is (world_of cells (home cells c) (books (home cells c)) k c.number)) (λ g. (refl, (refl, (refl, refl), g))))
    idle_fits (ask.Send x) ok within may = sends_fit (is_failed (cells_of cells) (take k (books 0)) x.agent) x within
    idle_fits (ask.OpenAt c) ok within may =
        quietly (ask.OpenAt c) k within xs end ps Idle (reply.Opened (length (take k (books (home cells c)))) (atom_after (w c.number) (take k (books (home cells c))) (length (take k (books (home cells c))))))
        (λ g. (refl, (world_of cells (home cells c) (books (home cells c)) (length (take k (books (home cells c)))), there, g)))
      where
        there : world_of cells (home cells c) (books (home cells c)) (length (take k (books (home cells c)))) c.number ≡ atom_after (w c.number) (take k (books (home cells c))) (length (take k (books (home cells c))))
        there =
            atom_world c (atom_there c (tested (has_atom cells c) may)) (books (home cells c)) (length (take k (books (home cells c))))
            ∙ ap (atom_after (w c.number) (books (home cells c))) (length_taken k (books (home cells c)) within)
            ∙ sym (atom_newest_taken (w c.number) (books (home cells c)) k within)
    idle_fits (ask.CloseAt c None v) ok within may = adding (ask.CloseAt c None v) k within xs end ps Idle (event.Swap v) reply.Done (λ g. (refl, (refl, refl, g)))
    idle_fits (ask.CloseAt c (Some p) v) ok within may = absurd ok
    idle_fits (ask.Look c p) ok within may = absurd ok
    idle_fits (ask.View cs) ok within may = absurd ok
    idle_fits (ask.Commit p sets ensured q commuted sends) ok within may = absurd ok
    idle_fits (ask.Fail p q) ok within may = absurd ok
    idle_fits (ask.Take g) ok within may = absurd ok
    idle_fits (ask.Finish g new sends) ok within may = absurd (false≢true ok)
    idle_fits (ask.Broke c p) ok within may = absurd ok

    looks_fit : (b : Bool) (c : CellId) (p : ℕ) (within : k ≤ length (books 0)) → p ≤ k → Fitting (ask.Look c p) k within xs end ps (Open p) (looks b w a c p (take k (books 0)))
    looks_fit true c p within le = adding (ask.Look c p) k within xs end ps (Open p) (event.Retry p c cause.Outdated) (reply.Retry c) (λ g. (refl, (refl, (refl, refl), g)))
    looks_fit false c p within le =
        quietly (ask.Look c p) k within xs end ps (Open p) (reply.Is (after w (take k (books 0)) p c.number)) (λ g. (refl, (ap (λ (u : World). u c.number) (sym (after_taken w (books 0) k p le)), g)))

    commit_fits : (o g : Option CellId) (p q : ℕ) (sets : Writes) (ensured : List CellId) (sends : List Action) (within : k ≤ length (books 0))
        → ((c : CellId) → o ≡ Some c → has_number (cells_in sets ++ ensured) c.number ≡ true)
        → Fitting (ask.Commit p sets ensured q [] sends) k within xs end ps (Open p) (commits o None g a p q sets sends (take k (books 0)))
    commit_fits (Some c) g p q sets ensured sends within held =
        adding (ask.Commit p sets ensured q [] sends) k within xs end ps (Open p) (event.Retry p c cause.Held) (reply.Retry c) (λ f. (refl, (refl, (refl, refl, held c refl), f)))
    commit_fits None (Some g) p q sets ensured sends within held =
        adding (ask.Commit p sets ensured q [] sends) k within xs end ps (Open p) (event.Refused p q g) (reply.AgentIsFailed g) (λ f. (refl, (refl, (refl, refl, tt), f)))
    commit_fits None None p q sets ensured sends within held =
        adding (ask.Commit p sets ensured q [] sends) k within xs end ps (Open p) (event.Commit p q sets sends) reply.Done (λ f. (refl, (refl, (refl, refl, (refl, refl)), f)))

    in_place : (all : Bool) (p : ℕ) → k ≤ length (books 0) → may_name all (take k (books 0)) a p ≡ true → p ≤ k
    in_place all p within h = subst (λ j. p ≤ j) (length_taken k (books 0) within) (named all (take k (books 0)) a p h)

    -- in a try on the world at this read point
    open_fits : (at : ℕ) (q : Ask) → AsksIn false (Open at) q → AskFits (Open at) q
    open_fits at (ask.Look c p) ok within may =
        subst (λ i. Fitting (ask.Look c p) k within xs end ps (Open i) (looks (is_outdated c.number p (take k (books 0))) w a c p (take k (books 0)))) (sym ok)
        (looks_fit (is_outdated c.number p (take k (books 0))) c p within (in_place false p within (and_both (has_ref (cells_of cells) c) (may_name false (take k (books 0)) a p) (tested (has_ref (cells_of cells) c && may_name false (take k (books 0)) a p) may)).1))
    open_fits at (ask.View cs) ok within may =
        quietly (ask.View cs) k within xs end ps (Open at) (reply.Views (length (take k (books 0))) (map (λ c. newest w (take k (books 0)) c.number) cs))
        (λ g. (
          refl,
          (
            after w (books 0) (length (take k (books 0))),
            subst (λ (u : World). Gives (after w (books 0) (length (take k (books 0)))) cs (map (λ c. u c.number) cs)) (sym same) (gives_all (after w (books 0) (length (take k (books 0)))) cs),
            g,
          ),
        ))
      where
        same : newest w (take k (books 0)) ≡ after w (books 0) (length (take k (books 0)))
        same = newest_taken w (books 0) k within ∙ ap (after w (books 0)) (sym (length_taken k (books 0) within))
    open_fits at (ask.Commit p sets ensured q commuted sends) ok within may =
        subst (λ i. Fitting (ask.Commit p sets ensured q commuted sends) k within xs end ps (Open i) (serve (cells_of cells) a (ask.Commit p sets ensured q commuted sends) (take k (books 0)))) (sym ok.0)
        (subst (λ cs. Fitting (ask.Commit p sets ensured q cs sends) k within xs end ps (Open p) (serve (cells_of cells) a (ask.Commit p sets ensured q cs sends) (take k (books 0)))) (sym ok.1)
        (commit_fits (least_written (take k (books 0)) p (cells_in sets ++ ensured)) (first_failed (cells_of cells) (take k (books 0)) sends) p q sets ensured sends within
        (λ c e. least_among (take k (books 0)) p (cells_in sets ++ ensured) c e)))
    open_fits at (ask.Fail p q) ok within may =
        subst (λ i. Fitting (ask.Fail p q) k within xs end ps (Open i) (adds a (event.Fail p q) reply.Done (take k (books 0)))) (sym ok)
        (adding (ask.Fail p q) k within xs end ps (Open p) (event.Fail p q) reply.Done (λ g. (refl, (refl, (refl, tt), g))))
    open_fits at ask.Begin ok within may = absurd ok
    open_fits at (ask.Peek c) ok within may = absurd ok
    open_fits at (ask.Send x) ok within may = absurd ok
    open_fits at (ask.Take g) ok within may = absurd ok
    open_fits at (ask.Finish g new sends) ok within may = absurd (false≢true ok)
    open_fits at (ask.OpenAt c) ok within may = absurd ok
    open_fits at (ask.CloseAt c p v) ok within may = absurd ok
    open_fits at (ask.Broke c p) ok within may = absurd ok

    merged_alike : (ws xs : Writes) → tree.merged ws xs ≡ merged ws xs
    merged_alike ws [] = refl
    merged_alike ws (x ∷ xs) = merged_alike (with_write ws x.0 x.1) xs

    -- the test of the commuted refs, in a commit with a commute phase
    phased_fits : (o c g : Option CellId) (p q : ℕ) (sets commuted : Writes) (ensured : List CellId) (sends : List Action) (within : k ≤ length (books 0))
        → ((d : CellId) → o ≡ Some d → has_number (cells_in sets ++ ensured) d.number ≡ true) → ((d : CellId) → c ≡ Some d → has_number (cells_in commuted) d.number ≡ true)
        → (c ≡ None → AgreeOn commuted (after w (books 0) q) (after w (books 0) k))
        → Fitting (ask.Commit p sets ensured q commuted sends) k within xs end ps (Viewing p q) (commits o c g a p q (merged sets commuted) sends (take k (books 0)))
    phased_fits (Some d) c g p q sets commuted ensured sends within held redone same =
        adding (ask.Commit p sets ensured q commuted sends) k within xs end ps (Viewing p q) (event.Retry p d cause.Held) (reply.Retry d) (λ f. (refl, (refl, (refl, refl, held d refl), f)))
    phased_fits None (Some d) g p q sets commuted ensured sends within held redone same =
        adding (ask.Commit p sets ensured q commuted sends) k within xs end ps (Viewing p q) (event.Retry q d (cause.Commuted p)) (reply.Changed d) (λ f. (refl, (refl, (refl, refl, redone d refl), f)))
    phased_fits None None (Some g) p q sets commuted ensured sends within held redone same =
        adding (ask.Commit p sets ensured q commuted sends) k within xs end ps (Viewing p q) (event.Refused p q g) (reply.AgentIsFailed g) (λ f. (refl, (refl, (refl, refl, tt), f)))
    phased_fits None None None p q sets commuted ensured sends within held redone same =
        adding (ask.Commit p sets ensured q commuted sends) k within xs end ps (Viewing p q) (event.Commit p q (merged sets commuted) sends) reply.Done
        (λ f. (refl, (refl, (refl, same refl, (merged_alike sets commuted, refl)), f)))

    -- in a commute phase
    viewing_fits : (at view : ℕ) (q : Ask) → AsksIn false (Viewing at view) q → AskFits (Viewing at view) q
    viewing_fits at view (ask.Commit p sets ensured q commuted sends) ok within may =
        subst (λ i. Fitting (ask.Commit p sets ensured q commuted sends) k within xs end ps (Viewing i view) (serve (cells_of cells) a (ask.Commit p sets ensured q commuted sends) (take k (books 0)))) (sym ok.0)
        (subst (λ i. Fitting (ask.Commit p sets ensured q commuted sends) k within xs end ps (Viewing p i) (serve (cells_of cells) a (ask.Commit p sets ensured q commuted sends) (take k (books 0)))) (sym ok.1)
        (phased_fits (least_written (take k (books 0)) p (cells_in sets ++ ensured)) (least_written (take k (books 0)) q (cells_in commuted)) (first_failed (cells_of cells) (take k (books 0)) sends) p q sets commuted ensured sends within
        (λ d e. least_among (take k (books 0)) p (cells_in sets ++ ensured) d e) (λ d e. least_among (take k (books 0)) q (cells_in commuted) d e) same))
      where
        ends_may : may_end (take k (books 0)) a p q ≡ true
        ends_may =
            let h0 = (and_both (nat_lt a threads || (is_empty sends && nat_lt a (actors threads (cells_of cells)))) _ may).1 in
            let h1 = (and_both (are_refs (cells_of cells) 0 (cells_in sets)) _ h0).1 in
            let h2 = (and_both (has_refs (cells_of cells) ensured) _ h1).1 in
            let h3 = (and_both (are_refs (cells_of cells) 0 (cells_in commuted)) _ h2).1 in
            let h4 = (and_both (are_apart (cells_in commuted) (cells_in sets)) _ h3).1 in
            (and_both (are_sends (cells_of cells) sends) (may_end (take k (books 0)) a p q) h4).1

        le : q ≤ k
        le = subst (λ j. q ≤ j) (length_taken k (books 0) within) (ended (take k (books 0)) a p q ends_may).1

        same : least_written (take k (books 0)) q (cells_in commuted) ≡ None → AgreeOn commuted (after w (books 0) q) (after w (books 0) k)
        same h =
            subst (λ (u : World). AgreeOn commuted u (after w (books 0) k)) (after_taken w (books 0) k q le)
            (subst (λ (u : World). AgreeOn commuted (after w (take k (books 0)) q) u) (newest_taken w (books 0) k within) (unwritten_agree stays w (take k (books 0)) q commuted h))
    viewing_fits at view (ask.Fail p q) ok within may =
        subst (λ i. Fitting (ask.Fail p q) k within xs end ps (Viewing i view) (adds a (event.Fail p q) reply.Done (take k (books 0)))) (sym ok.0)
        (subst (λ i. Fitting (ask.Fail p q) k within xs end ps (Viewing p i) (adds a (event.Fail p q) reply.Done (take k (books 0)))) (sym ok.1)
        (adding (ask.Fail p q) k within xs end ps (Viewing p q) (event.Fail p q) reply.Done (λ g. (refl, (refl, (refl, refl, tt), g)))))
    viewing_fits at view ask.Begin ok within may = absurd ok
    viewing_fits at view (ask.Look c p) ok within may = absurd ok
    viewing_fits at view (ask.View cs) ok within may = absurd ok
    viewing_fits at view (ask.Peek c) ok within may = absurd ok
    viewing_fits at view (ask.Send x) ok within may = absurd ok
    viewing_fits at view (ask.Take g) ok within may = absurd ok
    viewing_fits at view (ask.Finish g new sends) ok within may = absurd ok
    viewing_fits at view (ask.OpenAt c) ok within may = absurd ok
    viewing_fits at view (ask.CloseAt c p v) ok within may = absurd ok
    viewing_fits at view (ask.Broke c p) ok within may = absurd ok

    -- the end of a swap, by whether its atom was swapped since
    closes_fit : (b : Bool) (c : CellId) (p : ℕ) (v : Value) (within : k ≤ length (books (home cells c))) → (b ≡ false → world_of cells (home cells c) (books (home cells c)) p c.number ≡ world_of cells (home cells c) (books (home cells c)) k c.number)
        → Fitting (ask.CloseAt c (Some p) v) k within xs end ps (Swapping c p) (closes_at b a c v (take k (books (home cells c))))
    closes_fit true c p v within same = quietly (ask.CloseAt c (Some p) v) k within xs end ps (Swapping c p) (reply.Changed c) (λ g. (refl, g))
    closes_fit false c p v within same = adding (ask.CloseAt c (Some p) v) k within xs end ps (Swapping c p) (event.Swap v) reply.Done (λ g. (refl, (refl, (refl, same refl, refl), g)))

    -- with a swap in hand
    swapping_fits : (c : CellId) (at : ℕ) (q : Ask) → AsksIn false (Swapping c at) q → AskFits (Swapping c at) q
    swapping_fits c at (ask.CloseAt d (Some p) v) ok within may =
        subst (λ i. Fitting (ask.CloseAt d (Some p) v) k within xs end ps (Swapping i at) (closes_at (swapped_since p (take k (books (home cells d)))) a d v (take k (books (home cells d))))) (sym ok.0)
        (subst (λ i. Fitting (ask.CloseAt d (Some p) v) k within xs end ps (Swapping d i) (closes_at (swapped_since p (take k (books (home cells d)))) a d v (take k (books (home cells d))))) (sym ok.1)
        (closes_fit (swapped_since p (take k (books (home cells d)))) d p v within same))
      where
        mays : (has_atom cells d ≡ true) × (may_name true (take k (books (home cells d))) a p ≡ true)
        mays = and_both (has_atom cells d) (may_name true (take k (books (home cells d))) a p) (tested (has_atom cells d && may_name true (take k (books (home cells d))) a p) may)

        le : p ≤ k
        le = subst (λ j. p ≤ j) (length_taken k (books (home cells d)) within) (named true (take k (books (home cells d))) a p mays.1)

        same : swapped_since p (take k (books (home cells d))) ≡ false → world_of cells (home cells d) (books (home cells d)) p d.number ≡ world_of cells (home cells d) (books (home cells d)) k d.number
        same h =
            atom_world d (atom_there d mays.0) (books (home cells d)) p
            ∙ sym (atom_taken (w d.number) (books (home cells d)) k p le)
            ∙ sym (atom_unswapped (w d.number) (take k (books (home cells d))) p h)
            ∙ atom_newest_taken (w d.number) (books (home cells d)) k within
            ∙ sym (atom_world d (atom_there d mays.0) (books (home cells d)) k)
    swapping_fits c at (ask.Broke d p) ok within may =
        subst (λ i. Fitting (ask.Broke d p) k within xs end ps (Swapping i at) (adds a (event.Broke p) reply.Done (take k (books (home cells d))))) (sym ok.0)
        (subst (λ i. Fitting (ask.Broke d p) k within xs end ps (Swapping d i) (adds a (event.Broke p) reply.Done (take k (books (home cells d))))) (sym ok.1)
        (adding (ask.Broke d p) k within xs end ps (Swapping d p) (event.Broke p) reply.Done (λ g. (refl, (refl, (refl, refl, tt), g)))))
    swapping_fits c at (ask.CloseAt d None v) ok within may = absurd ok
    swapping_fits c at ask.Begin ok within may = absurd ok
    swapping_fits c at (ask.Look d p) ok within may = absurd ok
    swapping_fits c at (ask.View cs) ok within may = absurd ok
    swapping_fits c at (ask.Commit p sets ensured q commuted sends) ok within may = absurd ok
    swapping_fits c at (ask.Fail p q) ok within may = absurd ok
    swapping_fits c at (ask.Peek d) ok within may = absurd ok
    swapping_fits c at (ask.Send x) ok within may = absurd ok
    swapping_fits c at (ask.Take g) ok within may = absurd ok
    swapping_fits c at (ask.Finish g new sends) ok within may = absurd ok
    swapping_fits c at (ask.OpenAt d) ok within may = absurd ok

    resting_fits : (q : Ask) → AsksIn false Resting q → AskFits Resting q
    resting_fits ask.Begin ok = absurd ok
    resting_fits (ask.Look c p) ok = absurd ok
    resting_fits (ask.View cs) ok = absurd ok
    resting_fits (ask.Commit p sets ensured q commuted sends) ok = absurd ok
    resting_fits (ask.Fail p q) ok = absurd ok
    resting_fits (ask.Peek c) ok = absurd ok
    resting_fits (ask.Send x) ok = absurd ok
    resting_fits (ask.Finish g new sends) ok = absurd ok
    resting_fits (ask.OpenAt c) ok = absurd ok
    resting_fits (ask.CloseAt c p v) ok = absurd ok
    resting_fits (ask.Broke c p) ok = absurd ok
    resting_fits (ask.Take g) ok = absurd (false≢true ok)

    ask_fits : (st : Stage) (q : Ask) → AsksIn false st q → AskFits st q
    ask_fits Idle q ok = idle_fits q ok
    ask_fits Resting q ok = resting_fits q ok
    ask_fits (Open at) q ok = open_fits at q ok
    ask_fits (Viewing at view) q ok = viewing_fits at view q ok
    ask_fits (Swapping c at) q ok = swapping_fits c at q ok

  -- ---- all entries

  -- entries that hold, each in its stage, fit the events that they added
  pub entries_fit : (st end : Stage) (es : List Entry) → AllHold cells threads books a es → AreStaged false st es end
      → RepliesFitTo cells (phase_of cells books st) (map exchange_of es) (seen_of cells books (trace_of cells books a es)) (phase_of cells books end)
  entries_fit st end [] hold staged = (refl, ap (phase_of cells books) staged)
  entries_fit st end (e ∷ es) hold staged =
      let h = hold.0 in
      let v = serve_on cells a e.ask (take e.at (books (book_for cells e.ask))) in
      let rest = entries_fit (stage_after st e.ask e.reply) end es hold.1 staged.1 in
      subst (λ r. Fits e.ask e.at h.within (map exchange_of es) (phase_of cells books end) (trace_of cells books a es) st r (seen_of cells books (trace_of cells books a (e ∷ es)))) (sym h.replied)
      (ask_fits e.at (map exchange_of es) (phase_of cells books end) (trace_of cells books a es) h.asked.0 st e.ask staged.0 h.within h.asked.1
      (subst IsExchanged h.replied h.exchanged) h.stands
      (subst (λ r. Goes e.ask e.at h.within (map exchange_of es) (phase_of cells books end) (trace_of cells books a es) (phase_of cells books (stage_after st e.ask r)) (seen_of cells books (trace_of cells books a es))) h.replied rest))

  -- what an actor was told fits what it did
  pub told_fits : (es : List Entry) (st : Stage) → AllHold cells threads books a es → AreStaged false Idle es st → RepliesFitTo cells Out (map exchange_of es) (history_of cells books a es) (phase_of cells books st)
  told_fits es st hold staged = entries_fit Idle st es hold staged
