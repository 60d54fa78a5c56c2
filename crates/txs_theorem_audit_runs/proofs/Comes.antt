-- What is served in a stage: it leaves the book, or adds an event whose read point is the stage's.
use Rattle.std.proofs.Common.{◌≡◌, ℕ, suc, Bool, true, false, nat_lt, List, [], ◌∷◌, ◌++◌, length, Option, Some, None, Result, Err, ◌⊎◌, inl, inr, if◌then◌else◌, refl, sym, ap, ◌∙◌, subst, arith}
use Rattle.std.proofs.lemmas.Bool.{false≢true}
use Rattle.txs_value_data.specs.Places.{fault_at}
use Rattle.txs_value_data.specs.declared.fault.Fault.{Fault}
use Rattle.txs_value_data.specs.declared.fault.FaultKind.TheVariants.{AgentFailed}
use Rattle.txs_value_data.specs.declared.fault.Span.{Span}
use Rattle.txs_value_cell.specs.declared.action.Action.{Action}
use Rattle.txs_value_cell.specs.declared.cell.CellDefinition.{CellDefinition}
use Rattle.txs_value_data.specs.Limits.{most_events}
use Rattle.txs_value_data.specs.declared.value.CellId.{CellId}
use Rattle.txs_value_data.specs.declared.value.Value.{Value}
use Rattle.txs_world_protocol.specs.Ask.{Writes}
use Rattle.txs_world_protocol.specs.SeenEvent.{home}
use Rattle.txs_world_protocol.specs.declared.ask.Ask.{Ask}
use Rattle.txs_world_protocol.specs.declared.ask.Ask.TheVariants as ask
use Rattle.txs_world_protocol.specs.declared.ask.Reply.{Reply}
use Rattle.txs_world_protocol.specs.declared.ask.Reply.TheVariants as reply
use Rattle.txs_world_protocol.specs.declared.event.Event.{Event}
use Rattle.txs_world_protocol.specs.declared.event.EventKind.{EventKind}
use Rattle.txs_world_protocol.specs.declared.event.Cause.TheVariants as cause
use Rattle.txs_world_protocol.specs.declared.event.EventKind.TheVariants as event
use Rattle.txs_world_book.specs.Atom.{atom_newest, closes_at, swapped_since}
use Rattle.txs_world_book.specs.Book.{cells_in, opening, newest, least_written, is_failed, first_failed, mail_after, is_outdated, is_redo}
use Rattle.txs_world_book.specs.Served.{Served, served, adds, event_of, cells_of}
use Rattle.txs_world.specs.Store.{looks, commits, sends_to, finishes, span_of, merged, next_action, takes}
use Rattle.txs_theorem_runs.specs.Shared.{atom_of, is_atom, book_for, serve_on}
use Rattle.txs_theorem_runs.specs.Stages.{Stage, Resting, Idle, Open, Viewing, Swapping, AsksIn, stage_after}
use Rattle.txs_theorem_runs.specs.Told.{Place, IsExchanged}
use Rattle.txs_theorem_runs.proofs.Busy.{IsBusy}
use Rattle.txs_theorem_serial.specs.Order.{point_of, is_over}
use Rattle.txs_theorem_audit_runs.proofs.Times.{Time, AllBefore, AllPast, Times, past_before}
use Rattle.txs_theorem_audit_runs.proofs.Walk.{PointHolds}

abbrev pub place : ℕ → ℕ → Place
place b k = record { book = b; at = k }

-- behind what an actor is, that came before what its book has at the places of its stage
abbrev pub StageHolds : List CellDefinition → Time → List Place → Stage → Type 0
StageHolds cells time behind Resting = Unit {0}
StageHolds cells time behind Idle = Unit {0}
StageHolds cells time behind (Open at) = AllBefore time behind (place 0 at)
StageHolds cells time behind (Viewing at view) = AllBefore time behind (place 0 at) × AllBefore time behind (place 0 view)
StageHolds cells time behind (Swapping c at) = AllBefore time behind (place (home cells c) at)

-- a stage that has no place
abbrev pub IsCalm : Stage → Type 0
IsCalm Resting = Unit {0}
IsCalm Idle = Unit {0}
IsCalm _ = ⊥

pub calm_holds : (cells : List CellDefinition) (time : Time) (behind : List Place) (st : Stage) → IsCalm st → StageHolds cells time behind st
calm_holds cells time behind Resting h = tt
calm_holds cells time behind Idle h = tt
calm_holds cells time behind (Open at) h = absurd h
calm_holds cells time behind (Viewing at view) h = absurd h
calm_holds cells time behind (Swapping c at) h = absurd h

-- an agent takes what it runs next
abbrev pub TakesNext : List CellDefinition → (ℕ → List Event) → Ask → Type 0
TakesNext cells books (ask.Take g) = (x : Action) × (next_action (cells_of cells) (books 0) g ≡ Some x)
TakesNext cells books _ = ⊥

-- an ask that leaves the book
pub record Leaves (cells : List CellDefinition) (books : ℕ → List Event) (q : Ask) (st : Stage) (r : Reply) : Type 0 where
  pub next : (time : Time) (now : ℕ) (behind : List Place) → Times books time now → AllPast time now behind → StageHolds cells time behind st → StageHolds cells time behind (stage_after st q r)
  pub busy : IsBusy (stage_after st q r) → IsBusy st ⊎ TakesNext cells books q

-- an ask that adds an event of this kind
pub record Adds (cells : List CellDefinition) (q : Ask) (st : Stage) (kind : EventKind) (r : Reply) : Type 0 where
  pub point : (time : Time) (behind : List Place) → StageHolds cells time behind st → PointHolds time behind (book_for cells q) (point_of kind)
  pub redo : is_redo kind ≡ true → (time : Time) (behind : List Place) → StageHolds cells time behind st → StageHolds cells time behind (stage_after st q r)
  pub calm : is_redo kind ≡ false → IsCalm (stage_after st q r)
  pub busy : IsBusy st
  pub home : is_over kind ≡ true → book_for cells q ≡ 0
  pub rests : is_over kind ≡ true → stage_after st q r ≡ Resting

pub data Comes (cells : List CellDefinition) (books : ℕ → List Event) (a : ℕ) (q : Ask) (st : Stage) (v : Served) : Type 0 where
  nothing : v.book ≡ books (book_for cells q) → Leaves cells books q st v.reply → Comes cells books a q st v
  one : (kind : EventKind) → v.book ≡ books (book_for cells q) ++ event_of a kind ∷ [] → Adds cells q st kind v.reply → Comes cells books a q st v

module _ (cells : List CellDefinition) (books : ℕ → List Event) (a : ℕ) where
  adds_comes : (q : Ask) (st : Stage) (kind : EventKind) (r : Reply) → Adds cells q st kind r → IsExchanged (adds a kind r (books (book_for cells q))).reply → Comes cells books a q st (adds a kind r (books (book_for cells q)))
  adds_comes q st kind r h = go (nat_lt (length (books (book_for cells q))) most_events)
    where
      go : (b : Bool) → IsExchanged (if b then served r (books (book_for cells q) ++ event_of a kind ∷ []) else served reply.Full (books (book_for cells q))).reply
          → Comes cells books a q st (if b then served r (books (book_for cells q) ++ event_of a kind ∷ []) else served reply.Full (books (book_for cells q)))
      go true ex = one kind refl h
      go false ex = absurd ex

  -- an event that has no read point, behind which no place is kept
  pointless : (q : Ask) (st : Stage) (kind : EventKind) (r : Reply) → point_of kind ≡ None → is_redo kind ≡ false → is_over kind ≡ false → IsBusy st → IsCalm (stage_after st q r) → Adds cells q st kind r
  pointless q st kind r p d o b c = record {
    point = λ time behind h. subst (PointHolds time behind (book_for cells q)) (sym p) tt;
    redo = λ e. absurd (false≢true (sym d ∙ e));
    calm = λ e. c;
    busy = b;
    home = λ e. absurd (false≢true (sym o ∙ e));
    rests = λ e. absurd (false≢true (sym o ∙ e));
  }

  -- one that has, and ends what began there
  pointed : (q : Ask) (st : Stage) (kind : EventKind) (r : Reply) (k : ℕ) → point_of kind ≡ Some k → ((time : Time) (behind : List Place) → StageHolds cells time behind st → AllBefore time behind (place (book_for cells q) k)) → is_redo kind ≡ false → is_over kind ≡ false
      → IsBusy st → IsCalm (stage_after st q r) → Adds cells q st kind r
  pointed q st kind r k p at d o b c = record {
    point = λ time behind h. subst (PointHolds time behind (book_for cells q)) (sym p) (at time behind h);
    redo = λ e. absurd (false≢true (sym d ∙ e));
    calm = λ e. c;
    busy = b;
    home = λ e. absurd (false≢true (sym o ∙ e));
    rests = λ e. absurd (false≢true (sym o ∙ e));
  }

  -- ---- the end of a transaction

  abbrev Has : Stage → ℕ → Type 0
  Has st k = (time : Time) (behind : List Place) → StageHolds cells time behind st → AllBefore time behind (place 0 k)

  -- the last read point of these ends it; where commutes are made again there is a view
  module _ (st : Stage) (at view : ℕ) (sets commuted : Writes) (ensured : List CellId) (sends : List Action) (has : Has st at) (busy : IsBusy st) where
    abbrev q : Ask
    q = ask.Commit at sets ensured view commuted sends

    commits_come : (o c g : Option CellId) (ws : Writes)
        → ((d : CellId) → IsCalm (stage_after st q (reply.Retry d))) → ((d : CellId) → c ≡ Some d → Adds cells q st (event.Retry view d (cause.Commuted at)) (reply.Changed d)) → ((d : CellId) → IsCalm (stage_after st q (reply.AgentIsFailed d))) → IsCalm (stage_after st q reply.Done)
        → IsExchanged (commits o c g a at view ws sends (books 0)).reply → Comes cells books a q st (commits o c g a at view ws sends (books 0))
    commits_come (Some d) c g ws retried changed refused ended ex = adds_comes q st (event.Retry at d cause.Held) (reply.Retry d) (pointed q st (event.Retry at d cause.Held) (reply.Retry d) at refl has refl refl busy (retried d)) ex
    commits_come None (Some d) g ws retried changed refused ended ex = adds_comes q st (event.Retry view d (cause.Commuted at)) (reply.Changed d) (changed d refl) ex
    commits_come None None (Some g) ws retried changed refused ended ex = adds_comes q st (event.Refused at view g) (reply.AgentIsFailed g) (pointed q st (event.Refused at view g) (reply.AgentIsFailed g) at refl has refl refl busy (refused g)) ex
    commits_come None None None ws retried changed refused ended ex = adds_comes q st (event.Commit at view ws sends) reply.Done (pointed q st (event.Commit at view ws sends) reply.Done at refl has refl refl busy ended) ex

  none_written : (book : List Event) (p : ℕ) (ws : Writes) → ws ≡ [] → least_written book p (cells_in ws) ≡ None
  none_written book p ws e = ap (λ l. least_written book p (cells_in l)) e

  not_some : (o : Option CellId) (d : CellId) → o ≡ None → o ≡ Some d → ⊥
  not_some o d e f = elim_none (sym e ∙ f)
    where
      is_none : Option CellId → Type 0
      is_none None = Unit {0}
      is_none (Some x) = ⊥

      elim_none : None ≡ Some d → ⊥
      elim_none h = subst is_none h tt

  -- ---- other asks

  looks_come : (b : Bool) (p at : ℕ) (c : CellId) → p ≡ at → IsExchanged (looks b (opening (cells_of cells)) a c at (books 0)).reply → Comes cells books a (ask.Look c at) (Open p) (looks b (opening (cells_of cells)) a c at (books 0))
  looks_come true p at c e ex =
      adds_comes (ask.Look c at) (Open p) (event.Retry at c cause.Outdated) (reply.Retry c)
      (pointed (ask.Look c at) (Open p) (event.Retry at c cause.Outdated) (reply.Retry c) at refl (λ time behind h. subst (λ k. AllBefore time behind (place 0 k)) e h) refl refl tt tt) ex
  looks_come false p at c e ex = nothing refl (record { next = λ time now behind t past h. h; busy = λ b. inl b })

  sends_come : (b : Bool) (x : Action) → IsExchanged (sends_to b a x (books 0)).reply → Comes cells books a (ask.Send x) Idle (sends_to b a x (books 0))
  sends_come true x ex = adds_comes (ask.Send x) Idle (event.SendRefused x.agent) (reply.AgentIsFailed x.agent) (pointless (ask.Send x) Idle (event.SendRefused x.agent) (reply.AgentIsFailed x.agent) refl refl refl tt tt) ex
  sends_come false x ex = adds_comes (ask.Send x) Idle (event.Send x) reply.Done (pointless (ask.Send x) Idle (event.Send x) reply.Done refl refl refl tt tt) ex

  -- an action that is handed in
  over : (g : CellId) (new new1 : Result Value Fault) (sends sends1 : List Action) (n : ℕ) (st : Stage) (r : Reply) → IsBusy st → stage_after st (ask.Finish g new sends) r ≡ Resting → Adds cells (ask.Finish g new sends) st (event.Act g n new1 sends1) r
  over g new new1 sends sends1 n st r busy rests = record {
    point = λ time behind h. tt;
    redo = λ e. absurd (false≢true e);
    calm = λ e. subst IsCalm (sym rests) tt;
    busy = busy;
    home = λ e. refl;
    rests = λ e. rests;
  }

  finishes_come : (st : Stage) (busy : IsBusy st) (g : CellId) (new : Result Value Fault) (sends : List Action) (o : Option CellId) (n : ℕ) (span : Span) → ((r : Reply) → stage_after st (ask.Finish g new sends) r ≡ Resting)
      → IsExchanged (finishes o a g n new sends span (books 0)).reply → Comes cells books a (ask.Finish g new sends) st (finishes o a g n new sends span (books 0))
  finishes_come st busy g new sends None n span rests ex = adds_comes (ask.Finish g new sends) st (event.Act g n new sends) reply.Done (over g new new sends sends n st reply.Done busy (rests reply.Done)) ex
  finishes_come st busy g new sends (Some h) n span rests ex =
      adds_comes (ask.Finish g new sends) st (event.Act g n (Err (fault_at AgentFailed span)) []) (reply.AgentIsFailed h)
      (over g new (Err (fault_at AgentFailed span)) sends [] n st (reply.AgentIsFailed h) busy (rests (reply.AgentIsFailed h))) ex

  takes_come : (g : CellId) (o : Option Action) (n : ℕ) (w : Value) → next_action (cells_of cells) (books 0) g ≡ o → IsExchanged (takes o n w) → Comes cells books a (ask.Take g) Resting (served (takes o n w) (books 0))
  takes_come g None n w e ex = absurd ex
  takes_come g (Some x) n w e ex = nothing refl (record { next = λ time now behind t past h. tt; busy = λ b. inr (x, e) })

  peeks_come : (b : Bool) (c : CellId) (u w : Value) (d : CellId)
      → IsExchanged (if b then adds a (event.Read d) (reply.Is u) (books (home cells c)) else adds a (event.Read c) (reply.Is w) (books (home cells c))).reply
      → Comes cells books a (ask.Peek c) Idle (if b then adds a (event.Read d) (reply.Is u) (books (home cells c)) else adds a (event.Read c) (reply.Is w) (books (home cells c)))
  peeks_come true c u w d ex = adds_comes (ask.Peek c) Idle (event.Read d) (reply.Is u) (pointless (ask.Peek c) Idle (event.Read d) (reply.Is u) refl refl refl tt tt) ex
  peeks_come false c u w d ex = adds_comes (ask.Peek c) Idle (event.Read c) (reply.Is w) (pointless (ask.Peek c) Idle (event.Read c) (reply.Is w) refl refl refl tt tt) ex

  closes_come : (b : Bool) (c d : CellId) (at p : ℕ) (v : Value) → IsExchanged (closes_at b a d v (books (home cells d))).reply → Comes cells books a (ask.CloseAt d (Some p) v) (Swapping c at) (closes_at b a d v (books (home cells d)))
  closes_come true c d at p v ex = nothing refl (record { next = λ time now behind t past h. tt; busy = λ b. inl tt })
  closes_come false c d at p v ex =
      adds_comes (ask.CloseAt d (Some p) v) (Swapping c at) (event.Swap v) reply.Done (pointless (ask.CloseAt d (Some p) v) (Swapping c at) (event.Swap v) reply.Done refl refl refl tt tt) ex

  -- what is now there is behind all that is past
  at_end : (b : ℕ) (time : Time) (now : ℕ) (behind : List Place) → Times books time now → AllPast time now behind → AllBefore time behind (place b (length (books b)))
  at_end b time now behind t past = past_before time now behind (place b (length (books b))) (t.beyond b (length (books b)) (omega arith)) past

  -- so it is of every ask in its stage
  pub comes : (agent : Bool) (st : Stage) (q : Ask) → AsksIn agent st q → IsExchanged (serve_on cells a q (books (book_for cells q))).reply → Comes cells books a q st (serve_on cells a q (books (book_for cells q)))
  comes agent Idle ask.Begin ok ex = nothing refl (record { next = λ time now behind t past h. at_end 0 time now behind t past; busy = λ b. inl tt })
  comes agent Idle (ask.Look c p) ok ex = absurd ok
  comes agent Idle (ask.View cs) ok ex = absurd ok
  comes agent Idle (ask.Commit p sets ensured q commuted sends) ok ex = absurd ok
  comes agent Idle (ask.Fail p q) ok ex = absurd ok
  comes agent Idle (ask.Peek c) ok ex = peeks_come (is_atom c) c (atom_newest (atom_of cells c (books (home cells c)))) (newest (opening (cells_of cells)) (books (home cells c)) c.number) c ex
  comes agent Idle (ask.Send x) ok ex = sends_come (is_failed (cells_of cells) (books 0) x.agent) x ex
  comes agent Idle (ask.Take g) ok ex = absurd ok
  comes agent Idle (ask.Finish g new sends) ok ex =
      finishes_come Idle tt g new sends (first_failed (cells_of cells) (books 0) sends) (suc (mail_after (cells_of cells) (books 0) g.number).acts) (span_of (mail_after (cells_of cells) (books 0) g.number).actions) (λ r. refl) ex
  comes agent Idle (ask.OpenAt c) ok ex = nothing refl (record { next = λ time now behind t past h. at_end (home cells c) time now behind t past; busy = λ b. inl tt })
  comes agent Idle (ask.CloseAt c None v) ok ex = adds_comes (ask.CloseAt c None v) Idle (event.Swap v) reply.Done (pointless (ask.CloseAt c None v) Idle (event.Swap v) reply.Done refl refl refl tt tt) ex
  comes agent Idle (ask.CloseAt c (Some p) v) ok ex = absurd ok
  comes agent Idle (ask.Broke c p) ok ex = absurd ok
  comes agent Resting (ask.Take g) ok ex =
      takes_come g (next_action (cells_of cells) (books 0) g) (suc (mail_after (cells_of cells) (books 0) g.number).acts) (newest (opening (cells_of cells)) (books 0) g.number) refl ex
  comes agent Resting ask.Begin ok ex = absurd ok
  comes agent Resting (ask.Look c p) ok ex = absurd ok
  comes agent Resting (ask.View cs) ok ex = absurd ok
  comes agent Resting (ask.Commit p sets ensured q commuted sends) ok ex = absurd ok
  comes agent Resting (ask.Fail p q) ok ex = absurd ok
  comes agent Resting (ask.Peek c) ok ex = absurd ok
  comes agent Resting (ask.Send x) ok ex = absurd ok
  comes agent Resting (ask.Finish g new sends) ok ex = absurd ok
  comes agent Resting (ask.OpenAt c) ok ex = absurd ok
  comes agent Resting (ask.CloseAt c p v) ok ex = absurd ok
  comes agent Resting (ask.Broke c p) ok ex = absurd ok
  comes agent (Open at) (ask.Look c p) ok ex = looks_come (is_outdated c.number p (books 0)) at p c ok ex
  comes agent (Open at) (ask.View cs) ok ex = nothing refl (record { next = λ time now behind t past h. (h, at_end 0 time now behind t past); busy = λ b. inl tt })
  comes agent (Open at) (ask.Commit p sets ensured q commuted sends) ok ex =
      commits_come (Open at) p q sets commuted ensured sends (λ time behind h. subst (λ k. AllBefore time behind (place 0 k)) ok.0 h) tt
      (least_written (books 0) p (cells_in sets ++ ensured)) (least_written (books 0) q (cells_in commuted)) (first_failed (cells_of cells) (books 0) sends) (merged sets commuted)
      (λ d. tt) (λ d e. absurd (not_some (least_written (books 0) q (cells_in commuted)) d (none_written (books 0) q commuted ok.1) e)) (λ d. tt) tt ex
  comes agent (Open at) (ask.Fail p q) ok ex =
      adds_comes (ask.Fail p q) (Open at) (event.Fail p q) reply.Done
      (pointed (ask.Fail p q) (Open at) (event.Fail p q) reply.Done p refl (λ time behind h. subst (λ k. AllBefore time behind (place 0 k)) ok h) refl refl tt tt) ex
  comes agent (Open at) (ask.Finish g new sends) ok ex =
      finishes_come (Open at) tt g new sends (first_failed (cells_of cells) (books 0) sends) (suc (mail_after (cells_of cells) (books 0) g.number).acts) (span_of (mail_after (cells_of cells) (books 0) g.number).actions) (λ r. refl) ex
  comes agent (Open at) ask.Begin ok ex = absurd ok
  comes agent (Open at) (ask.Peek c) ok ex = absurd ok
  comes agent (Open at) (ask.Send x) ok ex = absurd ok
  comes agent (Open at) (ask.Take g) ok ex = absurd ok
  comes agent (Open at) (ask.OpenAt c) ok ex = absurd ok
  comes agent (Open at) (ask.CloseAt c p v) ok ex = absurd ok
  comes agent (Open at) (ask.Broke c p) ok ex = absurd ok
  comes agent (Viewing at view) (ask.Commit p sets ensured q commuted sends) ok ex =
      commits_come (Viewing at view) p q sets commuted ensured sends (λ time behind h. subst (λ k. AllBefore time behind (place 0 k)) ok.0 h.0) tt
      (least_written (books 0) p (cells_in sets ++ ensured)) (least_written (books 0) q (cells_in commuted)) (first_failed (cells_of cells) (books 0) sends) (merged sets commuted)
      (λ d. tt)
      (λ d e. record {
        point = λ time behind h. subst (λ k. AllBefore time behind (place 0 k)) ok.0 h.0;
        redo = λ r time behind h. h.0;
        calm = λ r. absurd (false≢true (sym r));
        busy = tt;
        home = λ r. refl;
        rests = λ r. absurd (false≢true r);
      })
      (λ d. tt) tt ex
  comes agent (Viewing at view) (ask.Fail p q) ok ex =
      adds_comes (ask.Fail p q) (Viewing at view) (event.Fail p q) reply.Done
      (pointed (ask.Fail p q) (Viewing at view) (event.Fail p q) reply.Done p refl (λ time behind h. subst (λ k. AllBefore time behind (place 0 k)) ok.0 h.0) refl refl tt tt) ex
  comes agent (Viewing at view) ask.Begin ok ex = absurd ok
  comes agent (Viewing at view) (ask.Look c p) ok ex = absurd ok
  comes agent (Viewing at view) (ask.View cs) ok ex = absurd ok
  comes agent (Viewing at view) (ask.Peek c) ok ex = absurd ok
  comes agent (Viewing at view) (ask.Send x) ok ex = absurd ok
  comes agent (Viewing at view) (ask.Take g) ok ex = absurd ok
  comes agent (Viewing at view) (ask.Finish g new sends) ok ex = absurd ok
  comes agent (Viewing at view) (ask.OpenAt c) ok ex = absurd ok
  comes agent (Viewing at view) (ask.CloseAt c p v) ok ex = absurd ok
  comes agent (Viewing at view) (ask.Broke c p) ok ex = absurd ok
  comes agent (Swapping c at) (ask.CloseAt d (Some p) v) ok ex = closes_come (swapped_since p (books (home cells d))) c d at p v ex
  comes agent (Swapping c at) (ask.CloseAt d None v) ok ex = absurd ok
  comes agent (Swapping c at) (ask.Broke d p) ok ex =
      adds_comes (ask.Broke d p) (Swapping c at) (event.Broke p) reply.Done
      (pointed (ask.Broke d p) (Swapping c at) (event.Broke p) reply.Done p refl (λ time behind h. subst (λ k. AllBefore time behind (place (home cells d) k)) ok.1 (subst (λ e. AllBefore time behind (place (home cells e) at)) ok.0 h)) refl refl tt tt) ex
  comes agent (Swapping c at) ask.Begin ok ex = absurd ok
  comes agent (Swapping c at) (ask.Look d p) ok ex = absurd ok
  comes agent (Swapping c at) (ask.View cs) ok ex = absurd ok
  comes agent (Swapping c at) (ask.Commit p sets ensured q commuted sends) ok ex = absurd ok
  comes agent (Swapping c at) (ask.Fail p q) ok ex = absurd ok
  comes agent (Swapping c at) (ask.Peek d) ok ex = absurd ok
  comes agent (Swapping c at) (ask.Send x) ok ex = absurd ok
  comes agent (Swapping c at) (ask.Take g) ok ex = absurd ok
  comes agent (Swapping c at) (ask.Finish g new sends) ok ex = absurd ok
  comes agent (Swapping c at) (ask.OpenAt d) ok ex = absurd ok
