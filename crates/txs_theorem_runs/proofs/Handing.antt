-- What an agent was handed out is what it runs next, up to where it hands it in, whatever the actors do: so it is between the plays of a run, with where
-- the agent's code leads.
use Rattle.std.proofs.lemmas.Bool.{false≢true}
use Rattle.std.proofs.lemmas.Bool.Decides.{nat_tests}
use Rattle.std.proofs.Common.{◌≡◌, ◌≤◌, ◌+◌, ◌&&◌, not, ℕ, zero, suc, Bool, true, false, nat_lt, List, [], ◌∷◌, ◌++◌, if◌then◌else◌, length, take, Some, refl, sym, ap, ◌∙◌, subst, ◌⊎◌, inl, inr, arith}
use Rattle.txs_world_protocol.specs.declared.ask.Ask.{Ask}
use Rattle.txs_world_protocol.specs.declared.ask.Ask.TheVariants as ask
use Rattle.txs_world_protocol.specs.declared.ask.Reply.{Reply}
use Rattle.txs_world_protocol.specs.declared.ask.Reply.TheVariants as reply
use Rattle.txs_world_protocol.specs.declared.event.Event.{Event}
use Rattle.txs_world_protocol.specs.declared.event.EventKind.{EventKind}
use Rattle.txs_world_protocol.specs.declared.event.EventKind.TheVariants as event
use Rattle.txs_value_cell.specs.declared.action.Action.{Action}
use Rattle.txs_value_cell.specs.declared.cell.CellDefinition.{CellDefinition}
use Rattle.txs_value_data.specs.declared.value.CellId.{CellId}
use Rattle.txs_value_data.specs.declared.value.Value.{Value}
use Rattle.txs_code_meaning.specs.Machine.{ThreadCode, Configuration, Turned, Unfinished, turn}
use Rattle.txs_code_meaning.specs.Opening.{given}
use Rattle.txs_world_book.specs.Book.{Each, Legal, newest, has_agent}
use Rattle.txs_world_book.specs.Book as world
use Rattle.txs_world_book.specs.Served.{cells_of}
use Rattle.txs_world.specs.Laws.{ActionStays, acts_for, no_acts}
use Rattle.txs_world.specs.Store.{next_action}
use Rattle.txs_theorem_runs.specs.Goes.{AsksNothing, WalksTo, AsksAt, GoesTo}
use Rattle.txs_theorem_runs.specs.Finished.{is_finish, finished_at}
use Rattle.txs_theorem_runs.specs.Shared.{book_for, serve_on}
use Rattle.txs_theorem_runs.specs.Told.{Entry, exchange_of, AllHold}
use Rattle.txs_theorem_runs.proofs.Acting.{each_behind}
use Rattle.txs_theorem_runs.proofs.Adding.{IsQuiet, Brings, served_such}
use Rattle.txs_theorem_runs.proofs.Growing.{taken_more, taken_whole}
use Rattle.txs_theorem_runs.proofs.Rounds.{HandedSo, OutSo, TakesSo}

-- ---- where code leads

module _ (code : ThreadCode) where
  walk_more : (n : ℕ) (at : Turned Configuration) (c : Configuration) → AsksNothing (turn code c) → WalksTo code n at (Unfinished c) → WalksTo code (suc n) at (turn code c)
  walk_more zero at c quiet w = (c, w, quiet, refl)
  walk_more (suc n) at c quiet w = (w.0, w.1, w.2, walk_more n (turn code w.0) c quiet w.3)

  -- one more turn that asks nothing
  pub goes_walk : (es : List Entry) (at : Turned Configuration) (c : Configuration) → AsksNothing (turn code c) → GoesTo code at es (Unfinished c) → GoesTo code at es (turn code c)
  goes_walk [] at c quiet g = (suc g.0, walk_more g.0 at c quiet g.1)
  goes_walk (e ∷ es) at c quiet g = (g.0, g.1, g.2, g.3, goes_walk es (turn code (given (exchange_of e ∷ []) g.1)) c quiet g.4)

  -- one more ask with its reply
  pub goes_hear : (es : List Entry) (at : Turned Configuration) (c : Configuration) (e : Entry) → AsksAt code c e.ask → GoesTo code at es (Unfinished c) → GoesTo code at (es ++ e ∷ []) (turn code (given (exchange_of e ∷ []) c))
  goes_hear [] at c e asks g = (g.0, c, g.1, asks, (0, refl))
  goes_hear (x ∷ es) at c e asks g = (g.0, g.1, g.2, g.3, goes_hear es (turn code (given (exchange_of x ∷ []) g.1)) c e asks g.4)

-- ---- an ask that hands no action in adds no act

module _ (k n : ℕ) where
  -- an event behind so many is no act of this agent
  abbrev NoAct : List Event → EventKind → Type 0
  NoAct done kind = (nat_lt (length done) n ≡ true) ⊎ (acts_for k kind ≡ false)

  quiet_none : (done : List Event) (kind : EventKind) → IsQuiet kind → NoAct done kind
  quiet_none done (event.Read c) h = inr refl
  quiet_none done (event.Commit at view ws sends) h = absurd h
  quiet_none done (event.Retry since c cause) h = inr refl
  quiet_none done (event.Fail at view) h = inr refl
  quiet_none done (event.Refused at view g) h = inr refl
  quiet_none done (event.Send x) h = absurd h
  quiet_none done (event.SendRefused g) h = inr refl
  quiet_none done (event.Act g i new sends) h = absurd h
  quiet_none done (event.Swap new) h = inr refl
  quiet_none done (event.Broke at) h = inr refl

  brings_none : (book : List Event) (q : Ask) → is_finish q ≡ false → Brings NoAct book q
  brings_none book ask.Begin isnt = tt
  brings_none book (ask.Look c p) isnt = tt
  brings_none book (ask.View cs) isnt = tt
  brings_none book (ask.Commit p sets ensured q commuted sends) isnt = λ ws. inr refl
  brings_none book (ask.Fail p q) isnt = tt
  brings_none book (ask.Peek c) isnt = tt
  brings_none book (ask.Send x) isnt = inr refl
  brings_none book (ask.Take g) isnt = tt
  brings_none book (ask.Finish g new sends) isnt = absurd (false≢true (sym isnt))
  brings_none book (ask.OpenAt c) isnt = tt
  brings_none book (ask.CloseAt c p v) isnt = tt
  brings_none book (ask.Broke c p) isnt = tt

  one_longer : (xs : List Event) (x : Event) → length (xs ++ x ∷ []) ≡ suc (length xs)
  one_longer [] x = refl
  one_longer (y ∷ xs) x = ap suc (one_longer xs x)

  each_short : (done es : List Event) → length done + length es ≡ n → Each (λ d e. NoAct d e.kind) done es
  each_short done [] h = tt
  each_short done (e ∷ es) h = (inl (grind (arith, nat_tests, h)), each_short (done ++ e ∷ []) es (let m = one_longer done e in omega (arith, h, m)))

  none_behind : (done es : List Event) → n ≤ length done → Each (λ d e. NoAct d e.kind) done es → no_acts k es ≡ true
  none_behind done [] le h = refl
  none_behind done (e ∷ es) le h = by h.0 (none_behind (done ++ e ∷ []) es (let m = one_longer done e in omega (arith, le, m)) h.1)
    where
      by : NoAct done e.kind → no_acts k es ≡ true → (not (acts_for k e.kind) && no_acts k es) ≡ true
      by (inl l) r = absurd (grind (arith, nat_tests, l, le))
      by (inr f) r = ap (λ t. not t && no_acts k es) f ∙ r

-- so it is of what was served
pub none_served : (cells : List CellDefinition) (k a : ℕ) (q : Ask) (book more : List Event) → is_finish q ≡ false → (serve_on cells a q book).book ≡ book ++ more → no_acts k more ≡ true
none_served cells k a q book more isnt e =
    let n = length book in
    none_behind k n book more (omega arith)
    (each_behind (λ d y. NoAct k n d y.kind) [] book more
    (subst (λ l. Each (λ d y. NoAct k n d y.kind) [] l) e (served_such (NoAct k n) (quiet_none k n) cells a book (each_short k n [] book (omega arith)) q (brings_none k n book q isnt))))

-- what holds of each event of a book holds of those before an index
pub each_taken : (P : List Event → Event → Type 0) (k : ℕ) (done es : List Event) → Each P done es → Each P done (take k es)
each_taken P zero done [] h = tt
each_taken P zero done (e ∷ es) h = tt
each_taken P (suc k) done [] h = tt
each_taken P (suc k) done (e ∷ es) h = (h.0, each_taken P k (done ++ e ∷ []) es h.1)

-- ---- what was handed out

module _ (cells : List CellDefinition) (g : CellId) where
  -- an ask that hands no action in leaves where the actions are handed in
  finished_more : (end : ℕ) (es : List Entry) (e : Entry) → is_finish e.ask ≡ false → finished_at end (es ++ e ∷ []) ≡ finished_at end es
  finished_more end [] e isnt = ap (λ b. if b then e.at else end) isnt
  finished_more end (x ∷ es) e isnt = ap (λ k. if is_finish x.ask then x.at else k) (finished_more end es e isnt)

  -- one that hands one in ends it there
  finished_now : (end : ℕ) (es : List Entry) (e : Entry) → is_finish e.ask ≡ true → finished_at end (es ++ e ∷ []) ≡ finished_at e.at es
  finished_now end [] e does = ap (λ b. if b then e.at else end) does
  finished_now end (x ∷ es) e does = ap (λ k. if is_finish x.ask then x.at else k) (finished_now end es e does)

  out_at : (books : ℕ → List Event) (q : Ask) (r : Reply) (j k : ℕ) → j ≡ k → OutSo cells books g q r j → OutSo cells books g q r k
  out_at books q r j k e h = subst (OutSo cells books g q r) e h

  -- one more entry that hands no action in
  pub takes_append : (books : ℕ → List Event) (end : ℕ) (es : List Entry) (e : Entry) → is_finish e.ask ≡ false → OutSo cells books g e.ask e.reply end → TakesSo cells books g end es → TakesSo cells books g end (es ++ e ∷ [])
  takes_append books end [] e isnt so h = (so, tt)
  takes_append books end (x ∷ es) e isnt so h = (out_at books x.ask x.reply (finished_at end es) (finished_at end (es ++ e ∷ [])) (sym (finished_more end es e isnt)) h.0, takes_append books end es e isnt so h.1)

  nothing_out : (books : ℕ → List Event) (q : Ask) (r : Reply) (k : ℕ) → is_finish q ≡ true → OutSo cells books g q r k
  nothing_out books ask.Begin r k h = tt
  nothing_out books (ask.Look c p) r k h = tt
  nothing_out books (ask.View cs) r k h = tt
  nothing_out books (ask.Commit p sets ensured q commuted sends) r k h = tt
  nothing_out books (ask.Fail p q) r k h = tt
  nothing_out books (ask.Peek c) r k h = tt
  nothing_out books (ask.Send x) r k h = tt
  nothing_out books (ask.Take i) r k h = absurd (false≢true h)
  nothing_out books (ask.Finish i new sends) r k h = tt
  nothing_out books (ask.OpenAt c) r k h = tt
  nothing_out books (ask.CloseAt c p v) r k h = tt
  nothing_out books (ask.Broke c p) r k h = tt

  -- one more entry that hands the action in
  pub takes_finish : (books : ℕ → List Event) (end : ℕ) (es : List Entry) (e : Entry) → is_finish e.ask ≡ true → TakesSo cells books g e.at es → TakesSo cells books g end (es ++ e ∷ [])
  takes_finish books end [] e does h = (nothing_out books e.ask e.reply end does, tt)
  takes_finish books end (x ∷ es) e does h = (out_at books x.ask x.reply (finished_at e.at es) (finished_at end (es ++ e ∷ [])) (sym (finished_now end es e does)) h.0, takes_finish books end es e does h.1)

  -- what is handed in is at an index of the store's book
  pub home_of : (q : Ask) → is_finish q ≡ true → book_for cells q ≡ 0
  home_of ask.Begin h = absurd (false≢true h)
  home_of (ask.Look c p) h = absurd (false≢true h)
  home_of (ask.View cs) h = absurd (false≢true h)
  home_of (ask.Commit p sets ensured q commuted sends) h = absurd (false≢true h)
  home_of (ask.Fail p q) h = absurd (false≢true h)
  home_of (ask.Peek c) h = absurd (false≢true h)
  home_of (ask.Send x) h = absurd (false≢true h)
  home_of (ask.Take i) h = absurd (false≢true h)
  home_of (ask.Finish i new sends) h = refl
  home_of (ask.OpenAt c) h = absurd (false≢true h)
  home_of (ask.CloseAt c p v) h = absurd (false≢true h)
  home_of (ask.Broke c p) h = absurd (false≢true h)

  module _ (threads a : ℕ) (books later : ℕ → List Event) (more : List Event) (grown : later 0 ≡ books 0 ++ more) where
    -- at an index that was there
    as_before : (k : ℕ) (x : Action) (v : Value) → k ≤ length (books 0) → HandedSo cells books g k x v → HandedSo cells later g k x v
    as_before k x v le h = subst (λ l. (next_action (cells_of cells) l g ≡ Some x) × (newest (world.opening (cells_of cells)) l g.number ≡ v)) (sym (ap (take k) grown ∙ taken_more k (books 0) more le)) h

    -- at the end, where none of the events is an act of the agent
    pub at_end : ActionStays → has_agent (cells_of cells) g ≡ true → Legal (cells_of cells) threads (later 0) → no_acts g.number more ≡ true → (x : Action) (v : Value) → HandedSo cells books g (length (books 0)) x v → HandedSo cells later g (length (later 0)) x v
    at_end stays has legal none x v h =
        let l = subst (Legal (cells_of cells) threads) grown legal in
        let w = taken_whole (books 0) in
        let r = stays (cells_of cells) threads (books 0) more g x l has none (subst (λ b. next_action (cells_of cells) b g ≡ Some x) w h.0) in
        subst (λ b. (next_action (cells_of cells) b g ≡ Some x) × (newest (world.opening (cells_of cells)) b g.number ≡ v)) (sym (taken_whole (later 0) ∙ grown))
        (r.0, r.2 ∙ subst (λ b. newest (world.opening (cells_of cells)) b g.number ≡ v) w h.1)

    -- wherever the action is handed in
    handed_on : ((x : Action) (v : Value) → HandedSo cells books g (length (books 0)) x v → HandedSo cells later g (length (later 0)) x v) → (es : List Entry) → AllHold cells threads books a es
        → (x : Action) (v : Value) → HandedSo cells books g (finished_at (length (books 0)) es) x v → HandedSo cells later g (finished_at (length (later 0)) es) x v
    handed_on ends [] hold x v h = ends x v h
    handed_on ends (e ∷ es) hold x v h = go (is_finish e.ask) refl (handed_on ends es hold.1 x v) h
      where
        go : (b : Bool) → is_finish e.ask ≡ b → (HandedSo cells books g (finished_at (length (books 0)) es) x v → HandedSo cells later g (finished_at (length (later 0)) es) x v)
            → HandedSo cells books g (if b then e.at else finished_at (length (books 0)) es) x v → HandedSo cells later g (if b then e.at else finished_at (length (later 0)) es) x v
        go true i r h = as_before e.at x v (subst (λ n. e.at ≤ length (books n)) (home_of e.ask i) hold.0.within) h
        go false i r h = r h

    out_on : (es : List Entry) (k j : ℕ) (q : Ask) (r : Reply) → ((x : Action) (v : Value) → HandedSo cells books g k x v → HandedSo cells later g j x v) → OutSo cells books g q r k → OutSo cells later g q r j
    out_on es k j (ask.Take i) (reply.Action n x v) f h = f x v h
    out_on es k j (ask.Take i) (reply.At p) f h = tt
    out_on es k j (ask.Take i) (reply.Is v) f h = tt
    out_on es k j (ask.Take i) (reply.Views p vs) f h = tt
    out_on es k j (ask.Take i) reply.Done f h = tt
    out_on es k j (ask.Take i) (reply.Retry d) f h = tt
    out_on es k j (ask.Take i) (reply.Changed d) f h = tt
    out_on es k j (ask.Take i) (reply.AgentIsFailed d) f h = tt
    out_on es k j (ask.Take i) reply.Idle f h = tt
    out_on es k j (ask.Take i) (reply.Opened p v) f h = tt
    out_on es k j (ask.Take i) reply.Full f h = tt
    out_on es k j (ask.Take i) reply.Memory f h = tt
    out_on es k j ask.Begin r f h = tt
    out_on es k j (ask.Look c p) r f h = tt
    out_on es k j (ask.View cs) r f h = tt
    out_on es k j (ask.Commit p sets ensured q commuted sends) r f h = tt
    out_on es k j (ask.Fail p q) r f h = tt
    out_on es k j (ask.Peek c) r f h = tt
    out_on es k j (ask.Send x) r f h = tt
    out_on es k j (ask.Finish i new sends) r f h = tt
    out_on es k j (ask.OpenAt c) r f h = tt
    out_on es k j (ask.CloseAt c p v) r f h = tt
    out_on es k j (ask.Broke c p) r f h = tt

    -- the books grow by events that are no acts of the agent
    pub takes_stay : ((x : Action) (v : Value) → HandedSo cells books g (length (books 0)) x v → HandedSo cells later g (length (later 0)) x v) → (es : List Entry) → AllHold cells threads books a es
        → TakesSo cells books g (length (books 0)) es → TakesSo cells later g (length (later 0)) es
    takes_stay ends [] hold h = tt
    takes_stay ends (e ∷ es) hold h =
        (out_on es (finished_at (length (books 0)) es) (finished_at (length (later 0)) es) e.ask e.reply (handed_on ends es hold.1) h.0, takes_stay ends es hold.1 h.1)

    -- and by anything, where what is read is at indexes that were there
    in_bounds : (es : List Entry) → AllHold cells threads books a es → finished_at (length (books 0)) es ≤ length (books 0)
    in_bounds [] hold = omega arith
    in_bounds (e ∷ es) hold = go (is_finish e.ask) refl (in_bounds es hold.1)
      where
        go : (b : Bool) → is_finish e.ask ≡ b → finished_at (length (books 0)) es ≤ length (books 0) → (if b then e.at else finished_at (length (books 0)) es) ≤ length (books 0)
        go true i r = subst (λ n. e.at ≤ length (books n)) (home_of e.ask i) hold.0.within
        go false i r = r

    pub takes_fixed : (es : List Entry) → AllHold cells threads books a es → TakesSo cells books g (length (books 0)) es → TakesSo cells later g (length (books 0)) es
    takes_fixed [] hold h = tt
    takes_fixed (e ∷ es) hold h =
        (out_on es (finished_at (length (books 0)) es) (finished_at (length (books 0)) es) e.ask e.reply (λ x v k. as_before (finished_at (length (books 0)) es) x v (in_bounds es hold.1) k) h.0, takes_fixed es hold.1 h.1)
