-- Which places of the books an actor may name: those of its stage.
use Rattle.std.proofs.Common.{◌≡◌, ◌≤◌, ℕ, zero, suc, Bool, true, false, not, ◌&&◌, ◌||◌, ◌==◌, nat_le, nat_lt, List, [], ◌∷◌, ◌++◌, length, Option, Some, None, refl, sym, ap, ◌∙◌, subst, arith, if◌then◌else◌, ◌⊎◌, inl, inr}
use Rattle.std.proofs.lemmas.Bool.Decides.{nat_tests}
use Rattle.txs_world_protocol.specs.Ask.{Writes}
use Rattle.txs_world_protocol.specs.SeenEvent.{home}
use Rattle.txs_world_protocol.specs.declared.ask.Ask.{Ask}
use Rattle.txs_world_protocol.specs.declared.ask.Ask.TheVariants as ask
use Rattle.txs_world_protocol.specs.declared.ask.Reply.{Reply}
use Rattle.txs_world_protocol.specs.declared.ask.Reply.TheVariants as reply
use Rattle.txs_world_protocol.specs.declared.event.Event.{Event}
use Rattle.txs_world_protocol.specs.declared.event.EventKind.{EventKind}
use Rattle.txs_world_protocol.specs.declared.event.Cause.TheVariants as cause
use Rattle.txs_world_protocol.specs.declared.event.EventKind.TheVariants as event
use Rattle.txs_value_data.proofs.SameLemmas.{number-itself}
use Rattle.txs_value_data.specs.Limits.{most_events}
use Rattle.txs_value_cell.specs.declared.action.Action.{Action}
use Rattle.txs_value_cell.specs.declared.cell.CellDefinition.{CellDefinition}
use Rattle.txs_value_data.specs.declared.value.CellId.{CellId}
use Rattle.txs_world_book.proofs.Outcomes.{both}
use Rattle.txs_world.proofs.Merging.{joined}
use Rattle.txs_world_book.specs.Book.{cells_in, opening, is_outdated, least_written, first_failed, counts, all_before, may_name, may_end}
use Rattle.txs_world_book.specs.Served.{Served, event_of, cells_of}
use Rattle.txs_world.specs.Store.{looks, commits, merged}
use Rattle.txs_theorem_runs.specs.Shared.{book_for, serve_on}
use Rattle.txs_theorem_runs.specs.Stages.{Stage, Resting, Idle, Open, Viewing, Swapping, AsksIn, stage_after}
use Rattle.txs_theorem_runs.proofs.Growing.{AreOwn, Grown, differ}

-- an event added where there is room
abbrev added : Bool → ℕ → EventKind → Reply → List Event → Served
added b a kind r book = if b then record { reply = r; book = book ++ event_of a kind ∷ [] } else record { reply = reply.Full; book = book }

-- none of these events counts for the actor
abbrev Skips : Bool → ℕ → List Event → Type 0
Skips all a [] = Unit {0}
Skips all a (e ∷ es) = ((e.actor == a && counts all e.kind) ≡ false) × Skips all a es

skips_before : (all : Bool) (a p : ℕ) (es : List Event) → Skips all a es → all_before all a p es ≡ true
skips_before all a p [] h = refl
skips_before all a zero (e ∷ es) h = joined (not (e.actor == a && counts all e.kind)) (all_before all a zero es) (ap not h.0) (skips_before all a zero es h.1)
skips_before all a (suc p) (e ∷ es) h = skips_before all a p es h.1

before_more : (all : Bool) (a p : ℕ) (es more : List Event) → Skips all a more → all_before all a p es ≡ true → all_before all a p (es ++ more) ≡ true
before_more all a p [] more h g = skips_before all a p more h
before_more all a zero (e ∷ es) more h g =
    let b = both (not (e.actor == a && counts all e.kind)) (all_before all a zero es) g in
    joined (not (e.actor == a && counts all e.kind)) (all_before all a zero (es ++ more)) b.0 (before_more all a zero es more h b.1)
before_more all a (suc p) (e ∷ es) more h g = before_more all a p es more h g

length_more : (k : ℕ) (es more : List Event) → k ≤ length es → k ≤ length (es ++ more)
length_more zero es more le = omega arith
length_more (suc k) [] more le = absurd (omega (arith, le))
length_more (suc k) (e ∷ es) more le = let h = length_more k es more (omega (arith, le)) in omega (arith, h)

le_more : (k : ℕ) (es more : List Event) → nat_le k (length es) ≡ true → nat_le k (length (es ++ more)) ≡ true
le_more k es more h = let n = length_more k es more (grind (arith, nat_tests, h)) in grind (arith, nat_tests, n)

-- a place goes on to be one that may be named
named_more : (all : Bool) (a p : ℕ) (es more : List Event) → Skips all a more → may_name all es a p ≡ true → may_name all (es ++ more) a p ≡ true
named_more all a p es more h g =
    let b = both (nat_le p (length es)) (all_before all a p es) g in
    joined (nat_le p (length (es ++ more))) (all_before all a p (es ++ more)) (le_more p es more b.0) (before_more all a p es more h b.1)

-- the end of a book may be named
all_at_end : (all : Bool) (a : ℕ) (es : List Event) → all_before all a (length es) es ≡ true
all_at_end all a [] = refl
all_at_end all a (e ∷ es) = all_at_end all a es

pub end_named : (all : Bool) (a : ℕ) (es : List Event) → may_name all es a (length es) ≡ true
end_named all a es = joined (nat_le (length es) (length es)) (all_before all a (length es) es) (whole (length es)) (all_at_end all a es)
  where
    whole : (n : ℕ) → nat_le n n ≡ true
    whole n = grind (arith, nat_tests)

others_skip : (all : Bool) (a b : ℕ) (es : List Event) → (a ≡ b → ⊥) → AreOwn a es → Skips all b es
others_skip all a b [] n own = tt
others_skip all a b (e ∷ es) n own = (ap (λ t. t && counts all e.kind) (differ e.actor b (λ h. n (sym own.0 ∙ h))), others_skip all a b es n own.1)

-- the actor may name the places of its stage
abbrev pub MayName : List CellDefinition → (ℕ → List Event) → ℕ → Stage → Type 0
MayName cells books a Resting = Unit {0}
MayName cells books a Idle = Unit {0}
MayName cells books a (Open at) = may_name false (books 0) a at ≡ true
MayName cells books a (Viewing at view) = may_end (books 0) a at view ≡ true
MayName cells books a (Swapping c at) = may_name true (books (home cells c)) a at ≡ true

-- the actor may name a try's read point as a view, too
abbrev pub NamesView : (ℕ → List Event) → ℕ → Stage → Type 0
NamesView books a Resting = Unit {0}
NamesView books a Idle = Unit {0}
NamesView books a (Open at) = may_name true (books 0) a at ≡ true
NamesView books a (Viewing at view) = Unit {0}
NamesView books a (Swapping c at) = Unit {0}

abbrev pub IsView : Ask → Type 0
IsView (ask.View cs) = Unit {0}
IsView _ = ⊥

abbrev pub IsViewing : Stage → Type 0
IsViewing (Viewing at view) = Unit {0}
IsViewing _ = ⊥

module _ (cells : List CellDefinition) (a b : ℕ) (books later : ℕ → List Event) (n : a ≡ b → ⊥) (g : Grown a books later) where
  pub still_named : (all : Bool) (i p : ℕ) → may_name all (books i) b p ≡ true → may_name all (later i) b p ≡ true
  still_named all i p h = subst (λ l. may_name all l b p ≡ true) (sym (g.grown i)) (named_more all b p (books i) (g.more i) (others_skip all a b (g.more i) n (g.own i)) h)

  -- another actor's events leave what an actor may name
  pub names_stay : (st : Stage) → MayName cells books b st → MayName cells later b st
  names_stay Resting h = tt
  names_stay Idle h = tt
  names_stay (Open at) h = still_named false 0 at h
  names_stay (Viewing at view) h =
      let x = both (nat_le at view) (may_name false (books 0) b at && may_name true (books 0) b view) h in
      let y = both (may_name false (books 0) b at) (may_name true (books 0) b view) x.1 in
      joined (nat_le at view) (may_name false (later 0) b at && may_name true (later 0) b view) x.0
      (joined (may_name false (later 0) b at) (may_name true (later 0) b view) (still_named false 0 at y.0) (still_named true 0 view y.1))
  names_stay (Swapping c at) h = still_named true (home cells c) at h

-- where the books are as before, so is what may be named
pub names_same : (cells : List CellDefinition) (a : ℕ) (books later : ℕ → List Event) → ((i : ℕ) → later i ≡ books i) → (st : Stage) → MayName cells books a st → MayName cells later a st
names_same cells a books later e Resting h = tt
names_same cells a books later e Idle h = tt
names_same cells a books later e (Open at) h = subst (λ l. may_name false l a at ≡ true) (sym (e 0)) h
names_same cells a books later e (Viewing at view) h = subst (λ l. may_end l a at view ≡ true) (sym (e 0)) h
names_same cells a books later e (Swapping c at) h = subst (λ l. may_name true l a at ≡ true) (sym (e (home cells c))) h

module _ (cells : List CellDefinition) (a : ℕ) (books : ℕ → List Event) where
  abbrev pub later : Ask → Served → ℕ → List Event
  later q v i = if i == book_for cells q then v.book else books i

  -- after this was served, the actor may name the places of its next stage
  abbrev NamesAfter : Stage → Ask → Served → Type 0
  NamesAfter st q v = MayName cells (later q v) a (stage_after st q v.reply)

  look_named : (at : ℕ) (c : CellId) (p : ℕ) → may_name false (books 0) a at ≡ true → (t : Bool) → NamesAfter (Open at) (ask.Look c p) (looks t (opening (cells_of cells)) a c p (books 0))
  look_named at c p h true = go (nat_lt (length (books 0)) most_events)
    where
      go : (t : Bool) → NamesAfter (Open at) (ask.Look c p) (added t a (event.Retry p c cause.Outdated) (reply.Retry c) (books 0))
      go true = tt
      go false = tt
  look_named at c p h false = h

  viewed_named : (at : ℕ) → may_name false (books 0) a at ≡ true → may_end (books 0) a at (length (books 0)) ≡ true
  viewed_named at h =
      let b = both (nat_le at (length (books 0))) (all_before false a at (books 0)) h in
      joined (nat_le at (length (books 0))) (may_name false (books 0) a at && may_name true (books 0) a (length (books 0))) b.0
      (joined (may_name false (books 0) a at) (may_name true (books 0) a (length (books 0))) h (end_named true a (books 0)))

  -- the read point may be named behind a redone commute phase
  redo_named : (at p q : ℕ) (d : CellId) → may_name false (books 0) a at ≡ true → may_name false (books 0 ++ event_of a (event.Retry q d (cause.Commuted p)) ∷ []) a at ≡ true
  redo_named at p q d h = named_more false a at (books 0) (event_of a (event.Retry q d (cause.Commuted p)) ∷ []) (skipped (a == a), tt) h
    where
      skipped : (t : Bool) → (t && (false || not true)) ≡ false
      skipped true = refl
      skipped false = refl

  module _ (p q : ℕ) (sets commuted : Writes) (ensured : List CellId) (sends : List Action) where
    abbrev commit : Ask
    commit = ask.Commit p sets ensured q commuted sends

    -- a commit's end, by its tests, outside a commute phase
    tried_named : (at : ℕ) (o g : Option CellId) (ws : Writes) → NamesAfter (Open at) commit (commits o None g a p q ws sends (books 0))
    tried_named at (Some d) g ws = go (nat_lt (length (books 0)) most_events)
      where
        go : (t : Bool) → NamesAfter (Open at) commit (added t a (event.Retry p d cause.Held) (reply.Retry d) (books 0))
        go true = tt
        go false = tt
    tried_named at None (Some g) ws = go (nat_lt (length (books 0)) most_events)
      where
        go : (t : Bool) → NamesAfter (Open at) commit (added t a (event.Refused p q g) (reply.AgentIsFailed g) (books 0))
        go true = tt
        go false = tt
    tried_named at None None ws = go (nat_lt (length (books 0)) most_events)
      where
        go : (t : Bool) → NamesAfter (Open at) commit (added t a (event.Commit p q ws sends) reply.Done (books 0))
        go true = tt
        go false = tt

    -- and in one
    phased_named : (at view : ℕ) (o c g : Option CellId) (ws : Writes) → may_name false (books 0) a at ≡ true → NamesAfter (Viewing at view) commit (commits o c g a p q ws sends (books 0))
    phased_named at view (Some d) c g ws h = go (nat_lt (length (books 0)) most_events)
      where
        go : (t : Bool) → NamesAfter (Viewing at view) commit (added t a (event.Retry p d cause.Held) (reply.Retry d) (books 0))
        go true = tt
        go false = tt
    phased_named at view None (Some d) g ws h = go (nat_lt (length (books 0)) most_events)
      where
        go : (t : Bool) → NamesAfter (Viewing at view) commit (added t a (event.Retry q d (cause.Commuted p)) (reply.Changed d) (books 0))
        go true = redo_named at p q d h
        go false = tt
    phased_named at view None None (Some g) ws h = go (nat_lt (length (books 0)) most_events)
      where
        go : (t : Bool) → NamesAfter (Viewing at view) commit (added t a (event.Refused p q g) (reply.AgentIsFailed g) (books 0))
        go true = tt
        go false = tt
    phased_named at view None None None ws h = go (nat_lt (length (books 0)) most_events)
      where
        go : (t : Bool) → NamesAfter (Viewing at view) commit (added t a (event.Commit p q ws sends) reply.Done (books 0))
        go true = tt
        go false = tt

  -- an agent that takes an action names nothing
  rest_named : (bs : ℕ → List Event) (g : CellId) (r : Reply) → MayName cells bs a (stage_after Resting (ask.Take g) r)
  rest_named bs g (reply.At i) = tt
  rest_named bs g (reply.Is v) = tt
  rest_named bs g (reply.Views i vs) = tt
  rest_named bs g reply.Done = tt
  rest_named bs g (reply.Retry d) = tt
  rest_named bs g (reply.Changed d) = tt
  rest_named bs g (reply.AgentIsFailed h) = tt
  rest_named bs g (reply.Action n x v) = tt
  rest_named bs g reply.Idle = tt
  rest_named bs g (reply.Opened i v) = tt
  rest_named bs g reply.Full = tt
  rest_named bs g reply.Memory = tt

  rest_viewed : (bs : ℕ → List Event) (g : CellId) (r : Reply) → NamesView bs a (stage_after Resting (ask.Take g) r)
  rest_viewed bs g (reply.At i) = tt
  rest_viewed bs g (reply.Is v) = tt
  rest_viewed bs g (reply.Views i vs) = tt
  rest_viewed bs g reply.Done = tt
  rest_viewed bs g (reply.Retry d) = tt
  rest_viewed bs g (reply.Changed d) = tt
  rest_viewed bs g (reply.AgentIsFailed h) = tt
  rest_viewed bs g (reply.Action n x v) = tt
  rest_viewed bs g reply.Idle = tt
  rest_viewed bs g (reply.Opened i v) = tt
  rest_viewed bs g reply.Full = tt
  rest_viewed bs g reply.Memory = tt

  pub names_after : (agent : Bool) (st : Stage) (q : Ask) → AsksIn agent st q → MayName cells books a st → NamesAfter st q (serve_on cells a q (books (book_for cells q)))
  names_after agent Resting (ask.Take g) ok h = rest_named (later (ask.Take g) (serve_on cells a (ask.Take g) (books 0))) g (serve_on cells a (ask.Take g) (books 0)).reply
  names_after agent Resting ask.Begin ok h = absurd ok
  names_after agent Resting (ask.Look c p) ok h = absurd ok
  names_after agent Resting (ask.View cs) ok h = absurd ok
  names_after agent Resting (ask.Commit p sets ensured q commuted sends) ok h = absurd ok
  names_after agent Resting (ask.Fail p q) ok h = absurd ok
  names_after agent Resting (ask.Peek c) ok h = absurd ok
  names_after agent Resting (ask.Send x) ok h = absurd ok
  names_after agent Resting (ask.Finish g new sends) ok h = absurd ok
  names_after agent Resting (ask.OpenAt c) ok h = absurd ok
  names_after agent Resting (ask.CloseAt c p v) ok h = absurd ok
  names_after agent Resting (ask.Broke c p) ok h = absurd ok
  names_after agent Idle ask.Begin ok h = end_named false a (books 0)
  names_after agent Idle (ask.Peek c) ok h = tt
  names_after agent Idle (ask.Send x) ok h = tt
  names_after agent Idle (ask.OpenAt c) ok h =
      subst (λ t. may_name true (if t then books (home cells c) else books (home cells c)) a (length (books (home cells c))) ≡ true) (sym (number-itself (home cells c))) (end_named true a (books (home cells c)))
  names_after agent Idle (ask.CloseAt c None v) ok h = tt
  names_after agent Idle (ask.CloseAt c (Some p) v) ok h = absurd ok
  names_after agent Idle (ask.Look c p) ok h = absurd ok
  names_after agent Idle (ask.View cs) ok h = absurd ok
  names_after agent Idle (ask.Commit p sets ensured q commuted sends) ok h = absurd ok
  names_after agent Idle (ask.Fail p q) ok h = absurd ok
  names_after agent Idle (ask.Take g) ok h = absurd ok
  names_after agent Idle (ask.Finish g new sends) ok h = tt
  names_after agent Idle (ask.Broke c p) ok h = absurd ok
  names_after agent (Open at) (ask.Look c p) ok h = look_named at c p h (is_outdated c.number p (books 0))
  names_after agent (Open at) (ask.View cs) ok h = viewed_named at h
  names_after agent (Open at) (ask.Commit p sets ensured q commuted sends) ok h =
      subst (λ ws. NamesAfter (Open at) (ask.Commit p sets ensured q ws sends) (commits (least_written (books 0) p (cells_in sets ++ ensured)) (least_written (books 0) q (cells_in ws)) (first_failed (cells_of cells) (books 0) sends) a p q (merged sets ws) sends (books 0))) (sym ok.1)
      (tried_named p q sets [] ensured sends at (least_written (books 0) p (cells_in sets ++ ensured)) (first_failed (cells_of cells) (books 0) sends) (merged sets []))
  names_after agent (Open at) (ask.Fail p q) ok h = tt
  names_after agent (Open at) ask.Begin ok h = absurd ok
  names_after agent (Open at) (ask.Peek c) ok h = absurd ok
  names_after agent (Open at) (ask.Send x) ok h = absurd ok
  names_after agent (Open at) (ask.Take g) ok h = absurd ok
  names_after agent (Open at) (ask.Finish g new sends) ok h = tt
  names_after agent (Open at) (ask.OpenAt c) ok h = absurd ok
  names_after agent (Open at) (ask.CloseAt c p v) ok h = absurd ok
  names_after agent (Open at) (ask.Broke c p) ok h = absurd ok
  names_after agent (Viewing at view) (ask.Commit p sets ensured q commuted sends) ok h =
      let x = both (nat_le at view) (may_name false (books 0) a at && may_name true (books 0) a view) h in
      let y = both (may_name false (books 0) a at) (may_name true (books 0) a view) x.1 in
      phased_named p q sets commuted ensured sends at view (least_written (books 0) p (cells_in sets ++ ensured)) (least_written (books 0) q (cells_in commuted)) (first_failed (cells_of cells) (books 0) sends) (merged sets commuted) y.0
  names_after agent (Viewing at view) (ask.Fail p q) ok h = tt
  names_after agent (Viewing at view) ask.Begin ok h = absurd ok
  names_after agent (Viewing at view) (ask.Look c p) ok h = absurd ok
  names_after agent (Viewing at view) (ask.View cs) ok h = absurd ok
  names_after agent (Viewing at view) (ask.Peek c) ok h = absurd ok
  names_after agent (Viewing at view) (ask.Send x) ok h = absurd ok
  names_after agent (Viewing at view) (ask.Take g) ok h = absurd ok
  names_after agent (Viewing at view) (ask.Finish g new sends) ok h = absurd ok
  names_after agent (Viewing at view) (ask.OpenAt c) ok h = absurd ok
  names_after agent (Viewing at view) (ask.CloseAt c p v) ok h = absurd ok
  names_after agent (Viewing at view) (ask.Broke c p) ok h = absurd ok
  names_after agent (Swapping c at) q ok h = tt

  -- ---- a try that was not begun again from its view

  -- where the commit of a try without commutes is answered, no try goes on
  tried_ends : (p q at : ℕ) (sets : Writes) (ensured : List CellId) (sends : List Action) (o g : Option CellId) (ws : Writes) → stage_after (Open at) (ask.Commit p sets ensured q [] sends) (commits o None g a p q ws sends (books 0)).reply ≡ Idle
  tried_ends p q at sets ensured sends (Some d) g ws = go (nat_lt (length (books 0)) most_events)
    where
      go : (t : Bool) → stage_after (Open at) (ask.Commit p sets ensured q [] sends) (added t a (event.Retry p d cause.Held) (reply.Retry d) (books 0)).reply ≡ Idle
      go true = refl
      go false = refl
  tried_ends p q at sets ensured sends None (Some g) ws = go (nat_lt (length (books 0)) most_events)
    where
      go : (t : Bool) → stage_after (Open at) (ask.Commit p sets ensured q [] sends) (added t a (event.Refused p q g) (reply.AgentIsFailed g) (books 0)).reply ≡ Idle
      go true = refl
      go false = refl
  tried_ends p q at sets ensured sends None None ws = go (nat_lt (length (books 0)) most_events)
    where
      go : (t : Bool) → stage_after (Open at) (ask.Commit p sets ensured q [] sends) (added t a (event.Commit p q ws sends) reply.Done (books 0)).reply ≡ Idle
      go true = refl
      go false = refl

  abbrev ViewAfter : Stage → Ask → Served → Type 0
  ViewAfter st q v = NamesView (later q v) a (stage_after st q v.reply)

  look_viewed : (at : ℕ) (c : CellId) (p : ℕ) → may_name true (books 0) a at ≡ true → (t : Bool) → ViewAfter (Open at) (ask.Look c p) (looks t (opening (cells_of cells)) a c p (books 0))
  look_viewed at c p h true = go (nat_lt (length (books 0)) most_events)
    where
      go : (t : Bool) → ViewAfter (Open at) (ask.Look c p) (added t a (event.Retry p c cause.Outdated) (reply.Retry c) (books 0))
      go true = tt
      go false = tt
  look_viewed at c p h false = h

  -- outside a commute phase, each try after an ask may be viewed at its read point
  pub view_after : (agent : Bool) (st : Stage) (q : Ask) → AsksIn agent st q → (IsViewing st → ⊥) → NamesView books a st ⊎ IsView q → ViewAfter st q (serve_on cells a q (books (book_for cells q)))
  view_after agent (Viewing at view) q ok n h = absurd (n tt)
  view_after agent Resting (ask.Take g) ok n h = rest_viewed (later (ask.Take g) (serve_on cells a (ask.Take g) (books 0))) g (serve_on cells a (ask.Take g) (books 0)).reply
  view_after agent Resting ask.Begin ok n h = absurd ok
  view_after agent Resting (ask.Look c p) ok n h = absurd ok
  view_after agent Resting (ask.View cs) ok n h = absurd ok
  view_after agent Resting (ask.Commit p sets ensured q commuted sends) ok n h = absurd ok
  view_after agent Resting (ask.Fail p q) ok n h = absurd ok
  view_after agent Resting (ask.Peek c) ok n h = absurd ok
  view_after agent Resting (ask.Send x) ok n h = absurd ok
  view_after agent Resting (ask.Finish g new sends) ok n h = absurd ok
  view_after agent Resting (ask.OpenAt c) ok n h = absurd ok
  view_after agent Resting (ask.CloseAt c p v) ok n h = absurd ok
  view_after agent Resting (ask.Broke c p) ok n h = absurd ok
  view_after agent Idle ask.Begin ok n h = end_named true a (books 0)
  view_after agent Idle (ask.Peek c) ok n h = tt
  view_after agent Idle (ask.Send x) ok n h = tt
  view_after agent Idle (ask.OpenAt c) ok n h = tt
  view_after agent Idle (ask.CloseAt c None v) ok n h = tt
  view_after agent Idle (ask.CloseAt c (Some p) v) ok n h = absurd ok
  view_after agent Idle (ask.Look c p) ok n h = absurd ok
  view_after agent Idle (ask.View cs) ok n h = absurd ok
  view_after agent Idle (ask.Commit p sets ensured q commuted sends) ok n h = absurd ok
  view_after agent Idle (ask.Fail p q) ok n h = absurd ok
  view_after agent Idle (ask.Take g) ok n h = absurd ok
  view_after agent Idle (ask.Finish g new sends) ok n h = tt
  view_after agent Idle (ask.Broke c p) ok n h = absurd ok
  view_after agent (Open at) (ask.Look c p) ok n (inl h) = look_viewed at c p h (is_outdated c.number p (books 0))
  view_after agent (Open at) (ask.Look c p) ok n (inr h) = absurd h
  view_after agent (Open at) (ask.View cs) ok n h = tt
  view_after agent (Open at) (ask.Commit p sets ensured q commuted sends) ok n h =
      subst (λ ws. ViewAfter (Open at) (ask.Commit p sets ensured q ws sends) (commits (least_written (books 0) p (cells_in sets ++ ensured)) (least_written (books 0) q (cells_in ws)) (first_failed (cells_of cells) (books 0) sends) a p q (merged sets ws) sends (books 0))) (sym ok.1)
      (subst (λ st. NamesView (later (ask.Commit p sets ensured q [] sends) (commits (least_written (books 0) p (cells_in sets ++ ensured)) None (first_failed (cells_of cells) (books 0) sends) a p q (merged sets []) sends (books 0))) a st)
      (sym (tried_ends p q at sets ensured sends (least_written (books 0) p (cells_in sets ++ ensured)) (first_failed (cells_of cells) (books 0) sends) (merged sets []))) tt)
  view_after agent (Open at) (ask.Fail p q) ok n h = tt
  view_after agent (Open at) ask.Begin ok n h = absurd ok
  view_after agent (Open at) (ask.Peek c) ok n h = absurd ok
  view_after agent (Open at) (ask.Send x) ok n h = absurd ok
  view_after agent (Open at) (ask.Take g) ok n h = absurd ok
  view_after agent (Open at) (ask.Finish g new sends) ok n h = tt
  view_after agent (Open at) (ask.OpenAt c) ok n h = absurd ok
  view_after agent (Open at) (ask.CloseAt c p v) ok n h = absurd ok
  view_after agent (Open at) (ask.Broke c p) ok n h = absurd ok
  view_after agent (Swapping c at) q ok n h = tt
