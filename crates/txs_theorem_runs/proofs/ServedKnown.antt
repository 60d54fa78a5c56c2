-- What is answered to known asks from known books is known, and so are the books after it.
use Rattle.std.proofs.Common.{ℕ, zero, suc, Bool, true, false, ◌==◌, nat_lt, List, [], ◌∷◌, ◌++◌, length, map, drop, Option, Some, None, Result, Ok, Err, if◌then◌else◌}
use Rattle.txs_world_protocol.specs.Ask.{Writes, buffered, with_write}
use Rattle.txs_world_protocol.specs.declared.ask.Ask.{Ask}
use Rattle.txs_world_protocol.specs.declared.ask.Ask.TheVariants as ask
use Rattle.txs_world_protocol.specs.declared.ask.Reply.{Reply}
use Rattle.txs_world_protocol.specs.declared.ask.Reply.TheVariants as reply
use Rattle.txs_world_protocol.specs.declared.event.Event.{Event}
use Rattle.txs_world_protocol.specs.declared.event.EventKind.{EventKind}
use Rattle.txs_world_protocol.specs.declared.event.Cause.TheVariants as cause
use Rattle.txs_world_protocol.specs.declared.event.EventKind.TheVariants as event
use Rattle.txs_value_cell.specs.Cells.{World}
use Rattle.txs_value_data.specs.Limits.{most_events}
use Rattle.txs_value_cell.specs.declared.action.Action.{Action}
use Rattle.txs_value_cell.specs.declared.cell.CellDefinition.{CellDefinition}
use Rattle.txs_value_data.specs.Places.{fault_at}
use Rattle.txs_value_data.specs.declared.fault.Fault.{Fault}
use Rattle.txs_value_data.specs.declared.fault.FaultKind.TheVariants.{AgentFailed}
use Rattle.txs_value_data.specs.declared.fault.Span.{Span}
use Rattle.txs_value_data.specs.declared.value.CellId.{CellId}
use Rattle.txs_value_data.specs.declared.value.Value.{Value}
use Rattle.txs_code_meaning.specs.Machine.{ThreadCode}
use Rattle.txs_world_book.specs.Atom.{swapped_to, atom_after, atom_newest, swapped_since, closes_at}
use Rattle.txs_world_book.specs.Book.{cells_in, opening, value_or, state_of, writes_of, changed, after, newest, is_outdated, least_written, Mail, no_mail, sent_to, acted, mail_changed, mail_from, mail_after, is_failed, first_failed}
use Rattle.txs_world_book.specs.Served.{Served, event_of, cells_of, adds}
use Rattle.txs_world.specs.Store.{looks, commits, sends_to, takes, first_action, merged, serve, finishes, span_of}
use Rattle.txs_world_book.specs.declared.cell.StoreCell.{StoreCell}
use Rattle.txs_theorem_runs.specs.Lawful.{IsKnown, OpeningIsKnown}
use Rattle.txs_theorem_runs.specs.Shared.{is_atom, atom_of, serve_atom, serve_on}
use Rattle.txs_theorem_runs.proofs.CoreKnown.{AllKnown}
use Rattle.txs_theorem_runs.proofs.Values.{ValuesKnown, ActionKnown, SendsKnown, ReplyKnown, ResultKnown, AskKnown, OptionKnown, buffered_known, values_put, sends_append}

-- an event added where there is room
abbrev added : Bool → ℕ → EventKind → Reply → List Event → Served
added b a kind r book = if b then record { reply = r; book = book ++ event_of a kind ∷ [] } else record { reply = reply.Full; book = book }

module _ (cells : List CellDefinition) (opens : OpeningIsKnown cells) where
  abbrev store : List StoreCell
  store = cells_of cells

  abbrev KindKnown : EventKind → Type 0
  KindKnown (event.Read c) = Unit {0}
  KindKnown (event.Commit at view ws sends) = ValuesKnown cells ws × SendsKnown cells sends
  KindKnown (event.Retry since c cause) = Unit {0}
  KindKnown (event.Fail at view) = Unit {0}
  KindKnown (event.Refused at view g) = Unit {0}
  KindKnown (event.Send x) = ActionKnown cells x
  KindKnown (event.SendRefused g) = Unit {0}
  KindKnown (event.Act g n new sends) = ResultKnown cells new × SendsKnown cells sends
  KindKnown (event.Swap new) = IsKnown cells new
  KindKnown (event.Broke at) = Unit {0}

  -- the values that were written and sent are known
  abbrev pub BookKnown : List Event → Type 0
  BookKnown [] = Unit {0}
  BookKnown (e ∷ es) = KindKnown e.kind × BookKnown es

  book_more : (es : List Event) (e : Event) → BookKnown es → KindKnown e.kind → BookKnown (es ++ e ∷ [])
  book_more [] e h k = (k, tt)
  book_more (d ∷ es) e h k = (h.0, book_more es e h.1 k)

  -- ---- worlds

  or_known : (o : Option Value) (v : Value) → OptionKnown cells o → IsKnown cells v → IsKnown cells (value_or o v)
  or_known None v h g = g
  or_known (Some w) v h g = h

  state_known : (g : CellId) (new : Result Value Fault) → ResultKnown cells new → ValuesKnown cells (state_of g new)
  state_known g (Ok v) h = (h, tt)
  state_known g (Err f) h = tt

  writes_known : (kind : EventKind) → KindKnown kind → ValuesKnown cells (writes_of kind)
  writes_known (event.Read c) h = tt
  writes_known (event.Commit at view ws sends) h = h.0
  writes_known (event.Retry since c cause) h = tt
  writes_known (event.Fail at view) h = tt
  writes_known (event.Refused at view g) h = tt
  writes_known (event.Send x) h = tt
  writes_known (event.SendRefused g) h = tt
  writes_known (event.Act g n new sends) h = state_known g new h.0
  writes_known (event.Swap new) h = tt
  writes_known (event.Broke at) h = tt

  changed_known : (kind : EventKind) (R : World) → KindKnown kind → ((k : ℕ) → IsKnown cells (R k)) → (k : ℕ) → IsKnown cells (changed kind R k)
  changed_known kind R h g k = or_known (buffered (writes_of kind) k) (R k) (buffered_known cells (writes_of kind) k (writes_known kind h)) (g k)

  after_known : (R : World) (es : List Event) (p : ℕ) → ((k : ℕ) → IsKnown cells (R k)) → BookKnown es → (k : ℕ) → IsKnown cells (after R es p k)
  after_known R [] p g h k = g k
  after_known R (e ∷ es) zero g h k = g k
  after_known R (e ∷ es) (suc p) g h k = after_known (changed e.kind R) es p (changed_known e.kind R h.0 g) h.1 k

  swapped_known : (kind : EventKind) → KindKnown kind → OptionKnown cells (swapped_to kind)
  swapped_known (event.Read c) h = tt
  swapped_known (event.Commit at view ws sends) h = tt
  swapped_known (event.Retry since c cause) h = tt
  swapped_known (event.Fail at view) h = tt
  swapped_known (event.Refused at view g) h = tt
  swapped_known (event.Send x) h = tt
  swapped_known (event.SendRefused g) h = tt
  swapped_known (event.Act g n new sends) h = tt
  swapped_known (event.Swap new) h = h
  swapped_known (event.Broke at) h = tt

  atom_known : (v : Value) (es : List Event) (p : ℕ) → IsKnown cells v → BookKnown es → IsKnown cells (atom_after v es p)
  atom_known v [] p g h = g
  atom_known v (e ∷ es) zero g h = g
  atom_known v (e ∷ es) (suc p) g h = atom_known (value_or (swapped_to e.kind) v) es p (or_known (swapped_to e.kind) v (swapped_known e.kind h.0) g) h.1

  -- ---- mail

  sent_known : (k : ℕ) (xs : List Action) → SendsKnown cells xs → SendsKnown cells (sent_to k xs)
  sent_known k [] h = tt
  sent_known k (x ∷ xs) h = go (sent_known k xs h.1) (x.agent.number == k)
    where
      go : SendsKnown cells (sent_to k xs) → (b : Bool) → SendsKnown cells (if b then x ∷ sent_to k xs else sent_to k xs)
      go r true = (h.0, r)
      go r false = r

  dropped_known : (xs : List Action) → SendsKnown cells xs → SendsKnown cells (drop 1 xs)
  dropped_known [] h = tt
  dropped_known (x ∷ xs) h = h.1

  acted_known : (goes : Bool) (new : Result Value Fault) (m : Mail) → SendsKnown cells m.actions → SendsKnown cells (acted goes new m).actions
  acted_known goes (Ok v) m h = dropped_known m.actions h
  acted_known true (Err f) m h = dropped_known m.actions h
  acted_known false (Err f) m h = dropped_known m.actions h

  mail_kept : (goes : Bool) (k : ℕ) (kind : EventKind) (m : Mail) → KindKnown kind → SendsKnown cells m.actions → SendsKnown cells (mail_changed goes k kind m).actions
  mail_kept goes k (event.Read c) m g h = h
  mail_kept goes k (event.Commit at view ws sends) m g h = sends_append cells m.actions (sent_to k sends) h (sent_known k sends g.1)
  mail_kept goes k (event.Retry since c cause) m g h = h
  mail_kept goes k (event.Fail at view) m g h = h
  mail_kept goes k (event.Refused at view a) m g h = h
  mail_kept goes k (event.Send x) m g h = sends_append cells m.actions (sent_to k (x ∷ [])) h (sent_known k (x ∷ []) (g, tt))
  mail_kept goes k (event.SendRefused a) m g h = h
  mail_kept goes k (event.Act a n new sends) m g h = sends_append cells (if a.number == k then acted goes new m else m).actions (sent_to k sends) (go (a.number == k)) (sent_known k sends g.1)
    where
      go : (b : Bool) → SendsKnown cells (if b then acted goes new m else m).actions
      go true = acted_known goes new m h
      go false = h
  mail_kept goes k (event.Swap new) m g h = h
  mail_kept goes k (event.Broke at) m g h = h

  mail_known : (goes : Bool) (k : ℕ) (m : Mail) (es : List Event) → BookKnown es → SendsKnown cells m.actions → SendsKnown cells (mail_from goes k m es).actions
  mail_known goes k m [] g h = h
  mail_known goes k m (e ∷ es) g h = mail_known goes k (mail_changed goes k e.kind m) es g.1 (mail_kept goes k e.kind m g.0 h)

  -- ---- what is answered

  abbrev pub ServedKnown : Served → Type 0
  ServedKnown v = ReplyKnown cells v.reply × BookKnown v.book

  merged_known : (ws xs : Writes) → ValuesKnown cells ws → ValuesKnown cells xs → ValuesKnown cells (merged ws xs)
  merged_known ws [] h g = h
  merged_known ws (x ∷ xs) h g = merged_known (with_write ws x.0 x.1) xs (values_put cells ws x.0 x.1 h g.0) g.1

  module _ (a : ℕ) (es : List Event) (h : BookKnown es) where
    adds_known : (kind : EventKind) (r : Reply) → KindKnown kind → ReplyKnown cells r → ServedKnown (adds a kind r es)
    adds_known kind r k g = go (nat_lt (length es) most_events)
      where
        go : (b : Bool) → ServedKnown (added b a kind r es)
        go true = (g, book_more es (event_of a kind) h k)
        go false = (tt, h)

    looks_known : (b : Bool) (c : CellId) (p : ℕ) → ServedKnown (looks b (opening store) a c p es)
    looks_known true c p = adds_known (event.Retry p c cause.Outdated) (reply.Retry c) tt tt
    looks_known false c p = (after_known (opening store) es p opens h c.number, h)

    commits_known : (o c g : Option CellId) (p q : ℕ) (ws : Writes) (sends : List Action) → ValuesKnown cells ws → SendsKnown cells sends → ServedKnown (commits o c g a p q ws sends es)
    commits_known (Some d) c g p q ws sends k l = adds_known (event.Retry p d cause.Held) (reply.Retry d) tt tt
    commits_known None (Some d) g p q ws sends k l = adds_known (event.Retry q d (cause.Commuted p)) (reply.Changed d) tt tt
    commits_known None None (Some g) p q ws sends k l = adds_known (event.Refused p q g) (reply.AgentIsFailed g) tt tt
    commits_known None None None p q ws sends k l = adds_known (event.Commit p q ws sends) reply.Done (k, l) tt

    sends_known : (b : Bool) (x : Action) → ActionKnown cells x → ServedKnown (sends_to b a x es)
    sends_known true x k = adds_known (event.SendRefused x.agent) (reply.AgentIsFailed x.agent) tt tt
    sends_known false x k = adds_known (event.Send x) reply.Done k tt

    closes_known : (b : Bool) (c : CellId) (v : Value) → IsKnown cells v → ServedKnown (closes_at b a c v es)
    closes_known true c v k = (tt, h)
    closes_known false c v k = adds_known (event.Swap v) reply.Done k tt

    all_newest : (cs : List CellId) → AllKnown cells (map (λ c. newest (opening store) es c.number) cs)
    all_newest [] = tt
    all_newest (c ∷ cs) = (after_known (opening store) es (length es) opens h c.number, all_newest cs)

    first_known : (b : Bool) (xs : List Action) (n : ℕ) (v : Value) → SendsKnown cells xs → IsKnown cells v → ReplyKnown cells (takes (first_action b xs) n v)
    first_known true xs n v k g = tt
    first_known false [] n v k g = tt
    first_known false (x ∷ xs) n v k g = (k.0.1, g)

    there : (c : CellId) → IsKnown cells (atom_newest (atom_of cells c es))
    there c = atom_known (opening store c.number) es (length es) (opens c.number) h

    peeks_known : (b : Bool) (c : CellId) → ServedKnown (if b then serve_atom (atom_of cells c es) a (ask.Peek c) else serve store a (ask.Peek c) es)
    peeks_known true c = adds_known (event.Read c) (reply.Is (atom_newest (atom_of cells c es))) tt (there c)
    peeks_known false c = adds_known (event.Read c) (reply.Is (newest (opening store) es c.number)) tt (after_known (opening store) es (length es) opens h c.number)

    finishes_known : (o : Option CellId) (g : CellId) (n : ℕ) (new : Result Value Fault) (sends : List Action) (span : Span) → ResultKnown cells new × SendsKnown cells sends → ServedKnown (finishes o a g n new sends span es)
    finishes_known None g n new sends span k = adds_known (event.Act g n new sends) reply.Done k tt
    finishes_known (Some x) g n new sends span k = adds_known (event.Act g n (Err (fault_at AgentFailed span)) []) (reply.AgentIsFailed x) (tt, tt) tt

    pub serve_known : (Tidy Fresh Clean : Type 0) (Own : CellId → Type 0) (code : ThreadCode) (q : Ask) → AskKnown cells Tidy Fresh Clean Own code q → ServedKnown (serve_on cells a q es)
    serve_known Tidy Fresh Clean Own code ask.Begin k = (tt, h)
    serve_known Tidy Fresh Clean Own code (ask.Look c p) k = looks_known (is_outdated c.number p es) c p
    serve_known Tidy Fresh Clean Own code (ask.View cs) k = (all_newest cs, h)
    serve_known Tidy Fresh Clean Own code (ask.Commit p sets ensured q commuted sends) k =
        commits_known (least_written es p (cells_in sets ++ ensured)) (least_written es q (cells_in commuted)) (first_failed store es sends) p q (merged sets commuted) sends (merged_known sets commuted k.0.1 k.2.1) k.3
    serve_known Tidy Fresh Clean Own code (ask.Fail p q) k = adds_known (event.Fail p q) reply.Done tt tt
    serve_known Tidy Fresh Clean Own code (ask.Peek c) k = peeks_known (is_atom c) c
    serve_known Tidy Fresh Clean Own code (ask.Send x) k = sends_known (is_failed store es x.agent) x k
    serve_known Tidy Fresh Clean Own code (ask.Take g) k = (first_known (is_failed store es g) (mail_after store es g.number).actions _ (newest (opening store) es g.number) (mail_known _ g.number no_mail es h tt) (after_known (opening store) es (length es) opens h g.number), h)
    serve_known Tidy Fresh Clean Own code (ask.Finish g new sends) k =
        finishes_known (first_failed store es sends) g (suc (mail_after store es g.number).acts) new sends (span_of (mail_after store es g.number).actions) (k.0, k.1)
    serve_known Tidy Fresh Clean Own code (ask.OpenAt c) k = (there c, h)
    serve_known Tidy Fresh Clean Own code (ask.CloseAt c None v) k = closes_known false c v k.1
    serve_known Tidy Fresh Clean Own code (ask.CloseAt c (Some p) v) k = closes_known (swapped_since p es) c v k.1
    serve_known Tidy Fresh Clean Own code (ask.Broke c p) k = adds_known (event.Broke p) reply.Done tt tt
