-- What nobody sees: an ask that only looks or comes to nothing leaves a state that is alike.
use Rattle.std.proofs.Common.{◌≡◌, ◌≤◌, ℕ, Bool, true, false, not, ◌||◌, ◌==◌, nat_lt, List, [], ◌∷◌, ◌++◌, length, Option, Some, None, refl, sym, ap, subst, ◌∙◌, if◌then◌else◌}
use Rattle.std.proofs.lemmas.Bool.{false≢true}
use Rattle.std.specs.Prelude.{set}
use Rattle.txs_world_protocol.specs.Ask.{Writes, buffered}
use Rattle.txs_world_protocol.specs.SeenEvent.{home}
use Rattle.txs_world_protocol.specs.declared.ask.Ask.{Ask}
use Rattle.txs_world_protocol.specs.declared.ask.Ask.TheVariants as ask
use Rattle.txs_world_protocol.specs.declared.ask.Reply.{Reply}
use Rattle.txs_world_protocol.specs.declared.ask.Reply.TheVariants as reply
use Rattle.txs_world_protocol.specs.declared.event.Event.{Event}
use Rattle.txs_world_protocol.specs.declared.event.Cause.TheVariants as cause
use Rattle.txs_world_protocol.specs.declared.event.EventKind.{EventKind}
use Rattle.txs_world_protocol.specs.declared.event.EventKind.TheVariants as event
use Rattle.txs_value_data.proofs.SameLemmas.{numbers}
use Rattle.txs_value_data.specs.Limits.{most_events}
use Rattle.txs_value_data.specs.declared.value.CellId.{CellId}
use Rattle.txs_value_data.specs.declared.value.Value.{Value}
use Rattle.txs_value_cell.specs.Cells.{World}
use Rattle.txs_value_cell.specs.declared.action.Action.{Action}
use Rattle.txs_value_cell.specs.declared.cell.CellDefinition.{CellDefinition}
use Rattle.txs_world_book.specs.Atom.{atom_after, swapped_to, is_swap, swapped_since, closes_at, atom_newest}
use Rattle.txs_world_book.specs.Book.{value_or, is_there, writes_of, written, times_written, opening, newest, goes_on, Mail, mail_changed, mail_after, no_mail, least_written, is_outdated, first_failed, is_failed, cells_in}
use Rattle.txs_value_data.specs.Places.{nth}
use Rattle.txs_world_book.specs.Served.{served, adds, cells_of, event_of}
use Rattle.txs_world_book.specs.declared.cell.StoreCell.{StoreCell}
use Rattle.txs_world_book.proofs.Growth.{after_front, after_last, mail_last}
use Rattle.txs_world.specs.Store.{looks, commits, sends_to, merged, hands_out, taken_after}
use Rattle.txs_theorem_runs.specs.Shared.{Shared, atom_of, is_atom, book_for, serve_on}
use Rattle.txs_theorem_runs.specs.Stages.{Stage, Resting, Idle, Open, Viewing, Swapping}
use Rattle.txs_theorem_alike.specs.Books.{up_to_eleven, SamePoint, SameView, SameSwap, SameMail}
use Rattle.txs_theorem_alike.specs.Stages.{SameStage, Rests, Idles, Tries, Redoes, Swaps, AllAlike, behind}
use Rattle.txs_theorem_alike.specs.Unseen.{IsWithin, is_unseen}
use Rattle.txs_theorem_alike.proofs.Growing.{more, times_more, written_more, swapped_more, or_false, longer, atom_last}

-- whether an event gives no cell a value, and changes no agent
abbrev is_quiet : EventKind → Bool
is_quiet (event.Read c) = true
is_quiet (event.Commit at view ws sends) = false
is_quiet (event.Retry since c why) = true
is_quiet (event.Fail at view) = true
is_quiet (event.Refused at view g) = true
is_quiet (event.Send x) = false
is_quiet (event.SendRefused g) = true
is_quiet (event.Act g n new sends) = false
is_quiet (event.Swap new) = false
is_quiet (event.Broke at) = true

record DoesNothing (d : EventKind) : Type 0 where
  writes : writes_of d ≡ []
  swaps : swapped_to d ≡ None
  is_no_swap : is_swap d ≡ false
  mail : (goes : Bool) (k : ℕ) (m : Mail) → mail_changed goes k d m ≡ m

quiet : (d : EventKind) → is_quiet d ≡ true → DoesNothing d
quiet (event.Read c) h = record { writes = refl; swaps = refl; is_no_swap = refl; mail = λ goes k m. refl }
quiet (event.Commit at view ws sends) h = absurd (false≢true h)
quiet (event.Retry since c why) h = record { writes = refl; swaps = refl; is_no_swap = refl; mail = λ goes k m. refl }
quiet (event.Fail at view) h = record { writes = refl; swaps = refl; is_no_swap = refl; mail = λ goes k m. refl }
quiet (event.Refused at view g) h = record { writes = refl; swaps = refl; is_no_swap = refl; mail = λ goes k m. refl }
quiet (event.Send x) h = absurd (false≢true h)
quiet (event.SendRefused g) h = record { writes = refl; swaps = refl; is_no_swap = refl; mail = λ goes k m. refl }
quiet (event.Act g n new sends) h = absurd (false≢true h)
quiet (event.Swap new) h = absurd (false≢true h)
quiet (event.Broke at) h = record { writes = refl; swaps = refl; is_no_swap = refl; mail = λ goes k m. refl }

-- a book after an ask that nobody sees: as it was, or with one event more that does nothing
data Hardly (a : ℕ) (b : List Event) : List Event → Type 0 where
  Still : Hardly a b b
  Added : (d : EventKind) → is_quiet d ≡ true → Hardly a b (b ++ event_of a d ∷ [])

module _ (cells : List StoreCell) (a : ℕ) (b : List Event) where
  point_hardly : (c : List Event) → Hardly a b c → (p : ℕ) → p ≤ length b → SamePoint cells b c p p
  point_hardly _ Still p le = record { in_first = le; in_other = le; refs = λ r i. record { times = refl; value = λ f. refl } }
  point_hardly _ (Added d h) p le = record {
    in_first = le;
    in_other = longer p b (event_of a d) le;
    refs = λ r i. record {
      times = sym (ap up_to_eleven (times_more r.number p b (event_of a d) le ∙ ap (λ ws. more (is_there (buffered ws r.number)) (times_written r.number p b)) (quiet d h).writes));
      value = λ f. sym (ap (λ w. w r.number) (after_front (opening cells) b (event_of a d ∷ []) p le));
    };
  }

  view_hardly : (c : List Event) → Hardly a b c → (p : ℕ) → p ≤ length b → SameView cells b c p p
  view_hardly _ Still p le = record { in_first = le; in_other = le; refs = λ r i. refl }
  view_hardly _ (Added d h) p le = record {
    in_first = le;
    in_other = longer p b (event_of a d) le;
    refs = λ r i. sym (written_more r.number p b (event_of a d) le ∙ ap (λ ws. written r.number p b || is_there (buffered ws r.number)) (quiet d h).writes ∙ or_false (written r.number p b));
  }

  swap_hardly : (c : List Event) → Hardly a b c → (p : ℕ) → p ≤ length b → SameSwap b c p p
  swap_hardly _ Still p le = record { in_first = le; in_other = le; since = refl }
  swap_hardly _ (Added d h) p le = record {
    in_first = le;
    in_other = longer p b (event_of a d) le;
    since = sym (swapped_more p b (event_of a d) le ∙ ap (λ t. swapped_since p b || t) (quiet d h).is_no_swap ∙ or_false (swapped_since p b));
  }

  newest_hardly : (c : List Event) → Hardly a b c → (k : ℕ) → newest (opening cells) b k ≡ newest (opening cells) c k
  newest_hardly _ Still k = refl
  newest_hardly _ (Added d h) k = sym (ap (λ w. w k) (after_last (opening cells) b (event_of a d)) ∙ ap (λ ws. value_or (buffered ws k) (newest (opening cells) b k)) (quiet d h).writes)

  mail_hardly : (c : List Event) → Hardly a b c → (k : ℕ) → SameMail (mail_after cells b k) (mail_after cells c k)
  mail_hardly _ Still k = record { actions = refl; fault = refl }
  mail_hardly _ (Added d h) k =
      let e = sym (mail_last (goes_on (nth cells k)) k no_mail b (event_of a d) ∙ (quiet d h).mail (goes_on (nth cells k)) k (mail_after cells b k)) in
      record { actions = ap (λ m. m.actions) e; fault = ap (λ m. m.fault) e }

  atom_hardly : (c : List Event) → Hardly a b c → (v : Value) → atom_after v b (length b) ≡ atom_after v c (length c)
  atom_hardly _ Still v = refl
  atom_hardly _ (Added d h) v = sym (atom_last v b (event_of a d) ∙ ap (λ o. value_or o (atom_after v b (length b))) (quiet d h).swaps)

books_hardly : (a m : ℕ) (f : ℕ → List Event) (x : List Event) → Hardly a (f m) x → (n : ℕ) → Hardly a (f n) (if n == m then x else f n)
books_hardly a m f x h n = by (n == m) refl
  where
    by : (z : Bool) → (n == m) ≡ z → Hardly a (f n) (if z then x else f n)
    by true e = subst (λ i. Hardly a (f i) x) (sym (numbers n m e)) h
    by false e = Still

-- ---- each ask

add : (a : ℕ) (d : EventKind) (r : Reply) (b : List Event) → is_quiet d ≡ true → Hardly a b (adds a d r b).book
add a d r b h = by (nat_lt (length b) most_events)
  where
    by : (t : Bool) → Hardly a b (if t then served r (b ++ event_of a d ∷ []) else served reply.Full b).book
    by true = Added d h
    by false = Still

-- what is done where there is room can be seen
done : (a : ℕ) (d : EventKind) (b : List Event) (f : Reply → Bool) → f reply.Done ≡ false → f (adds a d reply.Done b).reply ≡ true → Hardly a b (adds a d reply.Done b).book
done a d b f h = by (nat_lt (length b) most_events)
  where
    by : (t : Bool) → f (if t then served reply.Done (b ++ event_of a d ∷ []) else served reply.Full b).reply ≡ true → Hardly a b (if t then served reply.Done (b ++ event_of a d ∷ []) else served reply.Full b).book
    by true e = absurd (false≢true (sym h ∙ e))
    by false e = Still

look : (t : Bool) (w : World) (a : ℕ) (c : CellId) (p : ℕ) (b : List Event) → Hardly a b (looks t w a c p b).book
look true w a c p b = add a (event.Retry p c cause.Outdated) (reply.Retry c) b refl
look false w a c p b = Still

commit : (o1 o2 o3 : Option CellId) (a p v : ℕ) (ws : Writes) (sends : List Action) (b : List Event) (f : Reply → Bool) → f reply.Done ≡ false → f (commits o1 o2 o3 a p v ws sends b).reply ≡ true → Hardly a b (commits o1 o2 o3 a p v ws sends b).book
commit (Some c) o2 o3 a p v ws sends b f h e = add a (event.Retry p c cause.Held) (reply.Retry c) b refl
commit None (Some c) o3 a p v ws sends b f h e = add a (event.Retry v c (cause.Commuted p)) (reply.Changed c) b refl
commit None None (Some g) a p v ws sends b f h e = add a (event.Refused p v g) (reply.AgentIsFailed g) b refl
commit None None None a p v ws sends b f h e = done a (event.Commit p v ws sends) b f h e

send : (t : Bool) (a : ℕ) (x : Action) (b : List Event) (f : Reply → Bool) → f reply.Done ≡ false → f (sends_to t a x b).reply ≡ true → Hardly a b (sends_to t a x b).book
send true a x b f h e = add a (event.SendRefused x.agent) (reply.AgentIsFailed x.agent) b refl
send false a x b f h e = done a (event.Send x) b f h e

close : (t : Bool) (a : ℕ) (c : CellId) (v : Value) (b : List Event) (f : Reply → Bool) → f reply.Done ≡ false → f (closes_at t a c v b).reply ≡ true → Hardly a b (closes_at t a c v b).book
close true a c v b f h e = Still
close false a c v b f h e = done a (event.Swap v) b f h e

peek : (t : Bool) (a : ℕ) (c : CellId) (v w : Value) (b : List Event) → Hardly a b (if t then adds a (event.Read c) (reply.Is v) b else adds a (event.Read c) (reply.Is w) b).book
peek true a c v w b = add a (event.Read c) (reply.Is v) b refl
peek false a c v w b = add a (event.Read c) (reply.Is w) b refl

hardly : (cells : List CellDefinition) (a : ℕ) (q : Ask) (b : List Event) → is_unseen q (serve_on cells a q b).reply ≡ true → Hardly a b (serve_on cells a q b).book
hardly cells a ask.Begin b h = Still
hardly cells a (ask.Look c p) b h = look (is_outdated c.number p b) (opening (cells_of cells)) a c p b
hardly cells a (ask.View cs) b h = Still
hardly cells a (ask.Commit p sets ensured v commuted sends) b h =
    commit (least_written b p (cells_in sets ++ ensured)) (least_written b v (cells_in commuted)) (first_failed (cells_of cells) b sends) a p v (merged sets commuted) sends b (is_unseen (ask.Commit p sets ensured v commuted sends)) refl h
hardly cells a (ask.Fail p v) b h = add a (event.Fail p v) reply.Done b refl
hardly cells a (ask.Peek c) b h = peek (is_atom c) a c (atom_newest (atom_of cells c b)) (newest (opening (cells_of cells)) b c.number) b
hardly cells a (ask.Send x) b h = send (is_failed (cells_of cells) b x.agent) a x b (is_unseen (ask.Send x)) refl h
hardly cells a (ask.Take g) b h = Still
hardly cells a (ask.Finish g new sends) b h = absurd (false≢true h)
hardly cells a (ask.OpenAt c) b h = Still
hardly cells a (ask.CloseAt c None v) b h = close false a c v b (is_unseen (ask.CloseAt c None v)) refl h
hardly cells a (ask.CloseAt c (Some p) v) b h = close (swapped_since p b) a c v b (is_unseen (ask.CloseAt c (Some p) v)) refl h
hardly cells a (ask.Broke c p) b h = add a (event.Broke p) reply.Done b refl

not_taken : (b : Bool) (x y : List Bool) → not b ≡ true → x ≡ (if b then y else x)
not_taken true x y h = absurd (false≢true h)
not_taken false x y h = refl

taken : (q : Ask) (r : Reply) (t : List Bool) → is_unseen q r ≡ true → t ≡ taken_after q r t
taken ask.Begin r t h = refl
taken (ask.Look c p) r t h = refl
taken (ask.View cs) r t h = refl
taken (ask.Commit p sets ensured v commuted sends) r t h = refl
taken (ask.Fail p v) r t h = refl
taken (ask.Peek c) r t h = refl
taken (ask.Send x) r t h = refl
taken (ask.Take g) r t h = not_taken (hands_out r) t (set t g.number true) h
taken (ask.Finish g new sends) r t h = absurd (false≢true h)
taken (ask.OpenAt c) r t h = refl
taken (ask.CloseAt c p v) r t h = refl
taken (ask.Broke c p) r t h = refl

pub unseen : (cells : List CellDefinition) (a : ℕ) (q : Ask) (sh : Shared) (x : ℕ → Stage) → ((b : ℕ) → IsWithin cells sh (x b))
    → is_unseen q (serve_on cells a q (sh.books (book_for cells q))).reply ≡ true → AllAlike cells sh (behind cells a q sh) x x
unseen cells a q sh x within h = record {
  shared = record {
    store = λ c i. newest_hardly (cells_of cells) a (sh.books 0) (later 0) (all 0) c.number;
    mail = λ g i. mail_hardly (cells_of cells) a (sh.books 0) (later 0) (all 0) g.number;
    atoms = λ c i. atom_hardly (cells_of cells) a (sh.books (home cells c)) (later (home cells c)) (all (home cells c)) (opening (cells_of cells) c.number);
    taken = taken q (serve_on cells a q (sh.books (book_for cells q))).reply sh.taken h;
  };
  stages = λ b. by (x b) (within b);
}
  where
    later : ℕ → List Event
    later n = (behind cells a q sh).books n

    all : (n : ℕ) → Hardly a (sh.books n) (later n)
    all n = books_hardly a (book_for cells q) sh.books (serve_on cells a q (sh.books (book_for cells q))).book (hardly cells a q (sh.books (book_for cells q)) h) n

    by : (st : Stage) → IsWithin cells sh st → SameStage cells sh (behind cells a q sh) st st
    by Resting w = Rests
    by Idle w = Idles
    by (Open p) w = Tries p p (point_hardly (cells_of cells) a (sh.books 0) (later 0) (all 0) p w)
    by (Viewing p v) w = Redoes p p v v (point_hardly (cells_of cells) a (sh.books 0) (later 0) (all 0) p w.0) (view_hardly (cells_of cells) a (sh.books 0) (later 0) (all 0) v w.1)
    by (Swapping c p) w = Swaps c p p (swap_hardly (cells_of cells) a (sh.books (home cells c)) (later (home cells c)) (all (home cells c)) p w)
