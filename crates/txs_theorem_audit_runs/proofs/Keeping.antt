-- What holds of the times between the plays of a run, and that one event more keeps it.
use Rattle.std.proofs.Common.{◌≡◌, ◌<◌, ℕ, suc, Bool, true, false, ◌==◌, nat_lt, List, [], ◌∷◌, ◌++◌, length, take, Some, ◌⊎◌, inl, inr, if◌then◌else◌, refl, sym, ap, ◌∙◌, subst, arith}
use Rattle.std.proofs.lemmas.List.{append-nil}
use Rattle.std.proofs.lemmas.Bool.{false≢true}
use Rattle.std.proofs.lemmas.Bool.Decides.{nat_tests}
use Rattle.txs_value_data.specs.Places.{nth}
use Rattle.txs_value_cell.specs.declared.cell.CellDefinition.{CellDefinition}
use Rattle.txs_value_data.specs.declared.value.CellId.{CellId}
use Rattle.txs_value_data.proofs.SameLemmas.{numbers, number-itself}
use Rattle.txs_world_protocol.specs.SeenEvent.{home as home_of}
use Rattle.txs_world_protocol.specs.declared.ask.Ask.{Ask}
use Rattle.txs_world_protocol.specs.declared.ask.Ask.TheVariants as ask
use Rattle.txs_world_protocol.specs.declared.event.Event.{Event}
use Rattle.txs_world_protocol.specs.declared.event.EventKind.{EventKind}
use Rattle.txs_world_book.specs.Book.{has_agent, mail_after, is_redo, Legal}
use Rattle.txs_world_book.specs.Book as world
use Rattle.txs_world_book.specs.Served.{event_of, cells_of}
use Rattle.txs_world_book.proofs.Outcomes.{both}
use Rattle.txs_world.specs.Store.{next_action}
use Rattle.txs_theorem_runs.specs.Shared.{book_for, may_ask}
use Rattle.txs_theorem_runs.specs.Stages.{Stage, Resting, Idle, Open, Viewing, Swapping, first_stage, stage_after}
use Rattle.txs_theorem_runs.specs.Told.{Entry, Place, AllHold, adding, trace_of}
use Rattle.txs_theorem_runs.proofs.Acting.{one_agent, others_act_not}
use Rattle.txs_theorem_runs.proofs.Busy.{IsBusy}
use Rattle.txs_theorem_runs.proofs.Growing.{AreOwn, Grown, taken_more, taken_whole, trace_stays}
use Rattle.txs_theorem_serial.specs.Order.{is_over, acts_behind, behind_event, sender_of, no_sender}
use Rattle.txs_theorem_audit_runs.proofs.Comes.{place, StageHolds, calm_holds, TakesNext, Leaves, Adds}
use Rattle.txs_theorem_audit_runs.proofs.Plays.{answer, entry_served}
use Rattle.txs_theorem_audit_runs.proofs.Senders.{nth_front, nth_within, nth_last, sender_stays, sender_past, next_sent, acts_stay, acts_own}
use Rattle.txs_theorem_audit_runs.proofs.Times.{Time, AllBefore, IsPast, AllPast, Times, AreKept, all_kept, past_before, next_time, OneMore, length_more, next_new, next_kept, next_times}
use Rattle.txs_theorem_audit_runs.proofs.Traces.{stage_by, stage_more, trace_more, served_adds}
use Rattle.txs_theorem_audit_runs.proofs.Walk.{IsSent, EventHolds, Along, along_more, GoesOn, past_after, along_later, along_ends}

-- ---- actors by what they are

-- a thread by its number, or an agent
pub data Role : Type 0 where
  Thread : (number : ℕ) → Role
  AgentOf : (agent : CellId) → Role

abbrev pub is_agent : Role → Bool
is_agent (Thread a) = false
is_agent (AgentOf g) = true

abbrev pub IsRole : List CellDefinition → ℕ → Role → Type 0
IsRole cells threads (Thread a) = a < threads
IsRole cells threads (AgentOf g) = has_agent (cells_of cells) g ≡ true

-- the number of the actor
abbrev pub number_of : List CellDefinition → ℕ → Role → ℕ
number_of cells threads (Thread a) = a
number_of cells threads (AgentOf g) = world.actor_of threads (cells_of cells) g

abbrev pub sender_for : Role → (ℕ → List Event) → ℕ → List Place
sender_for (Thread a) books = no_sender
sender_for (AgentOf g) books = sender_of g.number (books 0)

-- how many actions of it are over
abbrev pub acts_of : List CellDefinition → Role → (ℕ → List Event) → ℕ
acts_of cells (Thread a) books = 0
acts_of cells (AgentOf g) books = (mail_after (cells_of cells) (books 0) g.number).acts

-- At the end of an actor's trace, in a stage: so many of an agent's actions are over, all that is named is past, the action that it runs was sent, and what it is behind
-- came before what its book has at the places of the stage.
pub record AtEnd (cells : List CellDefinition) (agent : Bool) (acts : ℕ) (time : Time) (now : ℕ) (sender : ℕ → List Place) (st : Stage) (j : ℕ) (last behind : List Place) : Type 0 where
  pub counted : agent ≡ true → j ≡ acts
  pub last_past : AllPast time now last
  pub behind_past : AllPast time now behind
  pub sent : IsBusy st → IsSent agent (sender j)
  pub stands : StageHolds cells time behind st

abbrev pub stage_for : Role → List Entry → Stage
stage_for r es = stage_by (first_stage (is_agent r)) es

abbrev pub EndOf : List CellDefinition → (ℕ → List Event) → Time → ℕ → Role → List Entry → ℕ → List Place → List Place → Type 0
EndOf cells books time now r es = AtEnd cells (is_agent r) (acts_of cells r books) time now (sender_for r books) (stage_for r es)

-- so it is along the trace of an actor that was told this
abbrev pub Walks : List CellDefinition → ℕ → (ℕ → List Event) → Time → ℕ → Role → List Entry → Type 0
Walks cells threads books time now r es = Along books time (is_agent r) (sender_for r books) (EndOf cells books time now r es) 0 [] (sender_for r books 0) (trace_of cells books (number_of cells threads r) es)

-- a stage stands in later times, behind the same where the actor is busy
stands_later : (cells : List CellDefinition) (time next : Time) → AreKept time next → (behind now_behind : List Place) (st : Stage) → (IsBusy st → now_behind ≡ behind) → StageHolds cells time behind st → StageHolds cells next now_behind st
stands_later cells time next kept behind now_behind Resting same h = tt
stands_later cells time next kept behind now_behind Idle same h = tt
stands_later cells time next kept behind now_behind (Open at) same h = subst (λ ps. AllBefore next ps (place 0 at)) (sym (same tt)) (all_kept time next kept behind (place 0 at) h)
stands_later cells time next kept behind now_behind (Viewing at view) same h = (
  subst (λ ps. AllBefore next ps (place 0 at)) (sym (same tt)) (all_kept time next kept behind (place 0 at) h.0),
  subst (λ ps. AllBefore next ps (place 0 view)) (sym (same tt)) (all_kept time next kept behind (place 0 view) h.1),
)
stands_later cells time next kept behind now_behind (Swapping c at) same h = subst (λ ps. AllBefore next ps (place (home_of cells c) at)) (sym (same tt)) (all_kept time next kept behind (place (home_of cells c) at) h)

before_past : (time : Time) (now : ℕ) (ps : List Place) (q : Place) → time q.book q.at < now → AllBefore time ps q → AllPast time now ps
before_past time now [] q l h = tt
before_past time now (p ∷ ps) q l h = (omega (arith, l, h.0), before_past time now ps q l h.1)

-- ---- one more event

module _ (cells : List CellDefinition) (threads : ℕ) (books later : ℕ → List Event) (time : Time) (now home : ℕ) (t : Times books time now) (e : Event) (m : OneMore books later home e) where
  abbrev next : Time
  next = next_time books time now home

  abbrev new : Place
  new = place home (length (books home))

  abbrev more_in : ℕ → List Event
  more_in n = if n == home then e ∷ [] else []

  grows : (n : ℕ) → later n ≡ books n ++ more_in n
  grows n = go (n == home) refl
    where
      go : (b : Bool) → (n == home) ≡ b → later n ≡ books n ++ (if b then e ∷ [] else [])
      go true is = let same : n ≡ home = numbers n home is in ap later same ∙ m.here ∙ ap (λ i. books i ++ e ∷ []) (sym same)
      go false is = m.others n is ∙ sym (append-nil (books n))

  owns : (n : ℕ) → AreOwn e.actor (more_in n)
  owns n = go (n == home)
    where
      go : (b : Bool) → AreOwn e.actor (if b then e ∷ [] else [])
      go true = (refl, tt)
      go false = tt

  grown : Grown e.actor books later
  grown = record { more = more_in; grown = grows; own = owns }

  times_later : Times later next (suc now)
  times_later = next_times books time now home t later e m

  new_now : next home (length (books home)) ≡ now
  new_now = next_new books time now home t

  -- the new event is later than all that is past
  past_new : (ps : List Place) → AllPast time now ps → AllBefore next ps new
  past_new ps h = all_kept time next (next_kept books time now home t) ps new (past_before time now ps new (t.beyond home (length (books home)) (omega arith)) h)

  past_later : (ps : List Place) → AllPast time now ps → AllPast next (suc now) ps
  past_later ps h = let e = new_now in before_past next (suc now) ps new (omega (arith, e)) (past_new ps h)

  senders_later : (r : Role) (j : ℕ) → IsSent (is_agent r) (sender_for r books j) → sender_for r later j ≡ sender_for r books j
  senders_later (Thread a) j h = refl
  senders_later (AgentOf g) j h = ap (λ b. sender_of g.number b j) (grows 0) ∙ sender_stays g.number (books 0) (more_in 0) j h

  senders_past : (r : Role) (j : ℕ) → AllPast next (suc now) (sender_for r later j)
  senders_past (Thread a) j = tt
  senders_past (AgentOf g) j = sender_past next (suc now) g.number (later 0) j (λ i l. times_later.there 0 i l)

  goes_on : (r : Role) → GoesOn books later time next (suc now) (is_agent r) (sender_for r books) (sender_for r later)
  goes_on r = record {
    stays = λ p x h. ap (λ b. nth b p.at) (grows p.book) ∙ nth_front (books p.book) (more_in p.book) p.at x h;
    kept = next_kept books time now home t;
    past = λ p x h. times_later.there p.book p.at (nth_within (later p.book) p.at x h);
    senders = senders_later r;
    sent_past = senders_past r;
  }

  -- ---- of another actor

  module _ (legal : Legal (cells_of cells) threads (later 0)) where
    acts_later : (r : Role) → IsRole cells threads r → (e.actor ≡ number_of cells threads r → ⊥) → acts_of cells r later ≡ acts_of cells r books
    acts_later (Thread a) is n = refl
    acts_later (AgentOf g) is n =
        ap (λ b. (mail_after (cells_of cells) b g.number).acts) (grows 0)
        ∙ acts_stay (cells_of cells) (books 0) (more_in 0) g.number
        (others_act_not (cells_of cells) threads g e.actor (books 0) (more_in 0) n (owns 0) (subst (Legal (cells_of cells) threads) (grows 0) legal))

    pub others_walk : (r : Role) → IsRole cells threads r → (e.actor ≡ number_of cells threads r → ⊥) → (es : List Entry) → AllHold cells threads books (number_of cells threads r) es → Walks cells threads books time now r es → Walks cells threads later next (suc now) r es
    others_walk r is n es hold h =
        subst (Along later next (is_agent r) (sender_for r later) (EndOf cells later next (suc now) r es) 0 [] (sender_for r later 0)) (sym (trace_stays cells threads e.actor (number_of cells threads r) books later grown es hold))
        (along_later books later time next (suc now) (is_agent r) (sender_for r books) (sender_for r later) (goes_on r) (EndOf cells books time now r es) (EndOf cells later next (suc now) r es) ends 0 [] (sender_for r books 0) (sender_for r later 0)
        (trace_of cells books (number_of cells threads r) es) (senders_later r 0) (senders_past r 0) h)
      where
        ends : (j : ℕ) (last behind now_behind : List Place) → (IsSent (is_agent r) (sender_for r books j) → now_behind ≡ behind) → AllPast next (suc now) now_behind
            → EndOf cells books time now r es j last behind → EndOf cells later next (suc now) r es j last now_behind
        ends j last behind now_behind same past k = record {
          counted = λ a. k.counted a ∙ sym (acts_later r is n);
          last_past = past_later last k.last_past;
          behind_past = past;
          sent = λ b. subst (IsSent (is_agent r)) (sym (senders_later r j (k.sent b))) (k.sent b);
          stands = stands_later cells time next (next_kept books time now home t) behind now_behind (stage_for r es) (λ b. same (k.sent b)) k.stands;
        }

-- ---- the actor's own event

acts_behind_not : (j : ℕ) (kind : EventKind) → is_over kind ≡ false → acts_behind j kind ≡ j
acts_behind_not j kind e = ap (λ b. if b then suc j else j) e

module _ (cells : List CellDefinition) (threads : ℕ) (books later : ℕ → List Event) (time : Time) (now : ℕ) (t : Times books time now) (r : Role) (is : IsRole cells threads r) (q : Ask) (kind : EventKind)
    (m : OneMore books later (book_for cells q) (event_of (number_of cells threads r) kind)) (legal : Legal (cells_of cells) threads (later 0)) where
  abbrev a : ℕ
  a = number_of cells threads r

  abbrev e : Event
  e = event_of (number_of cells threads r) kind

  abbrev at_home : ℕ
  at_home = book_for cells q

  abbrev time1 : Time
  time1 = next_time books time now (book_for cells q)

  abbrev q1 : Place
  q1 = place (book_for cells q) (length (books (book_for cells q)))

  -- how many actions are over behind it
  acts_counted : (o : Role) → IsRole cells threads o → number_of cells threads o ≡ a → is_agent o ≡ true → (is_over kind ≡ true → at_home ≡ 0) → acts_behind (acts_of cells o books) kind ≡ acts_of cells o later
  acts_counted (Thread i) ok own agent h = absurd (false≢true agent)
  acts_counted (AgentOf g) ok own agent h = go (0 == at_home) refl (is_over kind) refl
    where
      go : (b : Bool) → (0 == at_home) ≡ b → (c : Bool) → is_over kind ≡ c → acts_behind (mail_after (cells_of cells) (books 0) g.number).acts kind ≡ (mail_after (cells_of cells) (later 0) g.number).acts
      go true f c o =
          let same : 0 ≡ at_home = numbers 0 at_home f in
          let here : later 0 ≡ books 0 ++ e ∷ [] = ap later same ∙ m.here ∙ ap (λ i. books i ++ e ∷ []) (sym same) in
          sym (ap (λ b. (mail_after (cells_of cells) b g.number).acts) here ∙ acts_own (cells_of cells) threads (books 0) e g ok (sym own) (subst (Legal (cells_of cells) threads) here legal))
      go false f true o = absurd (false≢true (sym f ∙ ap (λ i. 0 == i) (h o) ∙ number-itself 0))
      go false f false o =
          acts_behind_not (mail_after (cells_of cells) (books 0) g.number).acts kind o ∙ ap (λ b. (mail_after (cells_of cells) b g.number).acts) (sym (m.others 0 f))

  module _ (es : List Entry) (hold : AllHold cells threads books a es) (grows_so : (answer cells threads a books q).book ≡ books at_home ++ e ∷ [])
      (adds : Adds cells q (stage_for r es) kind (answer cells threads a books q).reply) where
    abbrev fs : List Entry
    fs = es ++ entry_served cells threads a books q ∷ []

    stage_is : stage_for r fs ≡ stage_after (stage_for r es) q (answer cells threads a books q).reply
    stage_is = stage_more (first_stage (is_agent r)) es (entry_served cells threads a books q)

    before : take (length (books at_home)) (later at_home) ≡ books at_home
    before = ap (take (length (books at_home))) m.here ∙ taken_more (length (books at_home)) (books at_home) (e ∷ []) (omega arith) ∙ taken_whole (books at_home)

    longer : nat_lt (length (books at_home)) (length (answer cells threads a books q).book) ≡ true
    longer = let l = ap length grows_so ∙ length_more (books at_home) e in grind (arith, nat_tests, l)

    trace_is : trace_of cells later a fs ≡ trace_of cells books a es ++ q1 ∷ []
    trace_is =
        trace_more cells later a es (entry_served cells threads a books q)
        ∙ ap (λ ps. ps ++ adding cells later a (entry_served cells threads a books q) []) (trace_stays cells threads a a books later (grown cells threads books later time now at_home t e m) es hold)
        ∙ ap (λ ps. trace_of cells books a es ++ ps) (served_adds cells threads a books later q before true longer)

    there : nth (later at_home) (length (books at_home)) ≡ Some e
    there = ap (λ b. nth b (length (books at_home))) m.here ∙ nth_last (books at_home) e

    ends : (j : ℕ) (last behind now_behind : List Place) → (IsSent (is_agent r) (sender_for r books j) → now_behind ≡ behind) → AllPast time1 (suc now) now_behind
        → EndOf cells books time now r es j last behind → EventHolds time1 (is_agent r) (sender_for r later) j last now_behind q1 (nth (later at_home) (length (books at_home))) (EndOf cells later time1 (suc now) r fs)
    ends j last behind now_behind same past k = subst (λ o. EventHolds time1 (is_agent r) (sender_for r later) j last now_behind q1 o (EndOf cells later time1 (suc now) r fs)) (sym there) (
      past_new cells threads books later time now at_home t e m last k.last_past,
      subst (λ ps. AllBefore time1 ps q1) (sym is_same) (past_new cells threads books later time now at_home t e m behind k.behind_past),
      adds.point time1 now_behind now_stands,
      now_sent,
      record {
        counted = λ agent. ap (λ i. acts_behind i kind) (k.counted agent) ∙ acts_counted r is refl agent adds.home;
        last_past = (new_past, tt);
        behind_past = past_after books later time time1 (suc now) (is_agent r) (sender_for r books) (sender_for r later) (goes_on cells threads books later time now at_home t e m r) j now_behind q1 kind new_past past;
        sent = λ b. sends (is_over kind) refl b;
        stands = stays (is_redo kind) refl;
      },
    )
      where
        sent : IsSent (is_agent r) (sender_for r books j)
        sent = k.sent adds.busy

        is_same : now_behind ≡ behind
        is_same = same sent

        now_sent : IsSent (is_agent r) (sender_for r later j)
        now_sent = subst (IsSent (is_agent r)) (sym (senders_later cells threads books later time now at_home t e m r j sent)) sent

        now_stands : StageHolds cells time1 now_behind (stage_for r es)
        now_stands = stands_later cells time time1 (next_kept books time now at_home t) behind now_behind (stage_for r es) (λ b. is_same) k.stands

        new_past : IsPast time1 (suc now) q1
        new_past = let n = new_now cells threads books later time now at_home t e m in omega (arith, n)

        sends : (c : Bool) → is_over kind ≡ c → IsBusy (stage_for r fs) → IsSent (is_agent r) (sender_for r later (acts_behind j kind))
        sends true o b = absurd (subst IsBusy (stage_is ∙ adds.rests o) b)
        sends false o b = subst (λ i. IsSent (is_agent r) (sender_for r later i)) (sym (acts_behind_not j kind o)) now_sent

        stays : (c : Bool) → is_redo kind ≡ c → StageHolds cells time1 (behind_event (sender_for r later) j now_behind q1 kind) (stage_for r fs)
        stays true o =
            subst (StageHolds cells time1 (behind_event (sender_for r later) j now_behind q1 kind)) (sym stage_is)
            (subst (λ b. StageHolds cells time1 (if b then now_behind else q1 ∷ (if is_over kind then sender_for r later (suc j) else [])) (stage_after (stage_for r es) q (answer cells threads a books q).reply)) (sym o)
            (adds.redo o time1 now_behind now_stands))
        stays false o = subst (StageHolds cells time1 (behind_event (sender_for r later) j now_behind q1 kind)) (sym stage_is) (calm_holds cells time1 (behind_event (sender_for r later) j now_behind q1 kind) (stage_after (stage_for r es) q (answer cells threads a books q).reply) (adds.calm o))

    -- so the actor's trace with its event
    pub own_walks : Walks cells threads books time now r es → Walks cells threads later time1 (suc now) r fs
    own_walks h =
        subst (Along later time1 (is_agent r) (sender_for r later) (EndOf cells later time1 (suc now) r fs) 0 [] (sender_for r later 0)) (sym trace_is)
        (along_more later time1 (is_agent r) (sender_for r later) (EndOf cells later time1 (suc now) r fs) q1 0 [] (sender_for r later 0) (trace_of cells books a es)
        (along_later books later time time1 (suc now) (is_agent r) (sender_for r books) (sender_for r later) (goes_on cells threads books later time now at_home t e m r) (EndOf cells books time now r es)
        (λ j last behind. EventHolds time1 (is_agent r) (sender_for r later) j last behind q1 (nth (later at_home) (length (books at_home))) (EndOf cells later time1 (suc now) r fs)) ends 0 [] (sender_for r books 0) (sender_for r later 0)
        (trace_of cells books a es) (senders_later cells threads books later time now at_home t e m r 0) (senders_past cells threads books later time now at_home t e m r 0) h))

-- ---- the actor's own ask that leaves the books

module _ (cells : List CellDefinition) (threads : ℕ) (books : ℕ → List Event) (time : Time) (now : ℕ) (t : Times books time now) (r : Role) (is : IsRole cells threads r) (q : Ask) (es : List Entry)
    (taken : List Bool) (may : may_ask cells threads taken (number_of cells threads r) q (books (book_for cells q)) ≡ true) (legal : Legal (cells_of cells) threads (books 0)) (left : (answer cells threads (number_of cells threads r) books q).book ≡ books (book_for cells q))
    (leaves : Leaves cells books q (stage_for r es) (answer cells threads (number_of cells threads r) books q).reply) where
  abbrev gs : List Entry
  gs = es ++ entry_served cells threads (number_of cells threads r) books q ∷ []

  -- an agent's actor takes the agent's actions
  takes_sent : (o : Role) → IsRole cells threads o → number_of cells threads o ≡ number_of cells threads r → (p : Ask) → p ≡ q → TakesNext cells books p → IsSent (is_agent o) (sender_for o books (acts_of cells o books))
  takes_sent (Thread i) ok own p e n = tt
  takes_sent (AgentOf g) ok own (ask.Take h) e n =
      let lawful = subst (λ (x : Ask). may_ask cells threads taken (number_of cells threads r) x (books (book_for cells x)) ≡ true) (sym e) may in
      let b = both (number_of cells threads r == world.actor_of threads (cells_of cells) h) _ lawful in
      let has = (both (has_agent (cells_of cells) h) _ b.1).0 in
      let same : h ≡ g = one_agent (cells_of cells) threads h g has ok (sym (numbers (number_of cells threads r) (world.actor_of threads (cells_of cells) h) b.0) ∙ sym own) in
      next_sent (cells_of cells) threads (books 0) g n.0 legal (ap (next_action (cells_of cells) (books 0)) (sym same) ∙ n.1)
  takes_sent (AgentOf g) ok own ask.Begin e n = absurd n
  takes_sent (AgentOf g) ok own (ask.Look c p) e n = absurd n
  takes_sent (AgentOf g) ok own (ask.View cs) e n = absurd n
  takes_sent (AgentOf g) ok own (ask.Commit p sets ensured v commuted sends) e n = absurd n
  takes_sent (AgentOf g) ok own (ask.Fail p v) e n = absurd n
  takes_sent (AgentOf g) ok own (ask.Peek c) e n = absurd n
  takes_sent (AgentOf g) ok own (ask.Send x) e n = absurd n
  takes_sent (AgentOf g) ok own (ask.Finish h v sends) e n = absurd n
  takes_sent (AgentOf g) ok own (ask.OpenAt c) e n = absurd n
  takes_sent (AgentOf g) ok own (ask.CloseAt c p v) e n = absurd n
  takes_sent (AgentOf g) ok own (ask.Broke c p) e n = absurd n

  -- what sent the action that comes next sent the one behind so many
  counted_sent : (o : Role) (j : ℕ) → (is_agent o ≡ true → j ≡ acts_of cells o books) → IsSent (is_agent o) (sender_for o books (acts_of cells o books)) → IsSent (is_agent o) (sender_for o books j)
  counted_sent (Thread i) j c h = tt
  counted_sent (AgentOf g) j c h = subst (λ i. IsSent true (sender_of g.number (books 0) i)) (sym (c refl)) h

  quiet_ends : (j : ℕ) (last behind : List Place) → EndOf cells books time now r es j last behind → EndOf cells books time now r gs j last behind
  quiet_ends j last behind k = record {
    counted = k.counted;
    last_past = k.last_past;
    behind_past = k.behind_past;
    sent = λ b. sends (leaves.busy (subst IsBusy stage_is b));
    stands = subst (StageHolds cells time behind) (sym stage_is) (leaves.next time now behind t k.behind_past k.stands);
  }
    where
      stage_is : stage_for r gs ≡ stage_after (stage_for r es) q (answer cells threads (number_of cells threads r) books q).reply
      stage_is = stage_more (first_stage (is_agent r)) es (entry_served cells threads (number_of cells threads r) books q)

      sends : IsBusy (stage_for r es) ⊎ TakesNext cells books q → IsSent (is_agent r) (sender_for r books j)
      sends (inl b) = k.sent b
      sends (inr n) = counted_sent r j k.counted (takes_sent r is refl q refl n)

  quiet_trace : trace_of cells books (number_of cells threads r) gs ≡ trace_of cells books (number_of cells threads r) es
  quiet_trace =
      trace_more cells books (number_of cells threads r) es (entry_served cells threads (number_of cells threads r) books q)
      ∙ ap (λ ps. trace_of cells books (number_of cells threads r) es ++ ps) (served_adds cells threads (number_of cells threads r) books books q (taken_whole (books (book_for cells q))) false same_long)
      ∙ append-nil (trace_of cells books (number_of cells threads r) es)
    where
      same_long : nat_lt (length (books (book_for cells q))) (length (answer cells threads (number_of cells threads r) books q).book) ≡ false
      same_long = let l = ap length left in grind (arith, nat_tests, l)

  pub quiet_walks : Walks cells threads books time now r es → Walks cells threads books time now r gs
  quiet_walks h =
      subst (Along books time (is_agent r) (sender_for r books) (EndOf cells books time now r gs) 0 [] (sender_for r books 0)) (sym quiet_trace)
      (along_ends books time (is_agent r) (sender_for r books) (EndOf cells books time now r es) (EndOf cells books time now r gs) quiet_ends 0 [] (sender_for r books 0) (trace_of cells books (number_of cells threads r) es) h)
