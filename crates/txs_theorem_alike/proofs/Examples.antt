-- States and actors that can be told apart, by one part of the relation alone.
use Rattle.std.proofs.Common.{◌≡◌, ℕ, zero, suc, Bool, true, false, ◌&&◌, ◌||◌, ◌==◌, List, [], ◌∷◌, Option, Some, None, refl, sym, ap, ◌∙◌, arith, subst, if◌then◌else◌}
use Rattle.std.proofs.lemmas.Bool.{true≢false, false≢true}
use Rattle.txs_world_protocol.specs.Ask.{buffered}
use Rattle.txs_world_protocol.specs.declared.event.Event.{Event}
use Rattle.txs_world_protocol.specs.declared.event.EventKind.TheVariants as event
use Rattle.txs_value_cell.specs.Cells.{World}
use Rattle.txs_value_cell.specs.Forms.{same_kind}
use Rattle.txs_value_cell.specs.declared.action.Action.{Action}
use Rattle.txs_value_cell.specs.declared.cell.CellDefinition.{CellDefinition}
use Rattle.txs_value_data.proofs.SameLemmas.{numbers}
use Rattle.txs_value_data.specs.Limits.{most_events, reruns}
use Rattle.txs_value_data.specs.Places.{nth}
use Rattle.txs_value_data.specs.declared.fault.Span.{Span}
use Rattle.txs_value_data.specs.declared.op.Callee.{Callee}
use Rattle.txs_value_data.specs.declared.op.Callee.TheVariants as callee
use Rattle.txs_value_data.specs.declared.value.CellId.{CellId}
use Rattle.txs_value_data.specs.declared.value.CellKind.{CellKind}
use Rattle.txs_value_data.specs.declared.value.CellKind.TheVariants.{Ref, Atom, Agent}
use Rattle.txs_value_data.specs.declared.value.Value.{Value}
use Rattle.txs_value_data.specs.declared.value.Value.TheVariants.{Nil}
use Rattle.txs_world_book.specs.Book.{is_of_kind, value_or, writes_of, writes_to, changed, opening, newest, written}
use Rattle.txs_world_book.specs.Served.{cells_of, event_of}
use Rattle.txs_code_meaning.specs.Machine.{ThreadCode, TxBegin, Activity, Outside, Restarting, Running, Applying, Swapping, Configuration, first_place}
use Rattle.txs_code_meaning.specs.Opening.{fresh}
use Rattle.txs_theorem_runs.specs.Shared.{Shared}
use Rattle.txs_theorem_alike.specs.Needed.{one_ref, CountsAreNeeded, ViewsAreNeeded, SinceIsNeeded, SendsAreNeeded, OrderIsNeeded, TriesTell}
use Rattle.txs_theorem_alike.proofs.Anew.{new_at, while, hears_in}

-- what is shared, with this book of the store
abbrev with_book : List Event → Shared
with_book book = record { books = λ n. book; taken = [] }

abbrev pub a_ref : CellId
a_ref = record { kind = Ref; number = 0 }

abbrev an_agent : CellId
an_agent = record { kind = Agent; number = 0 }

-- ---- counts

-- the same event so many times
abbrev copies : ℕ → Event → List Event
copies zero e = []
copies (suc n) e = e ∷ copies n e

-- a commit of another actor, that sets the ref
abbrev sets_it : Event
sets_it = event_of 1 (event.Commit 0 0 ((a_ref, Nil) ∷ []) [])

or_itself : (a : Bool) → (a || a) ≡ a
or_itself true = refl
or_itself false = refl

or_none : (a : Bool) → (a || false) ≡ a
or_none true = refl
or_none false = refl

copies_written : (n k : ℕ) (e : Event) → written k 0 (copies (suc n) e) ≡ writes_to e.kind k
copies_written zero k e = or_none (writes_to e.kind k)
copies_written (suc n) k e = ap (λ t. writes_to e.kind k || t) (copies_written n k e) ∙ or_itself (writes_to e.kind k)

value_twice : (o : Option Value) (v : Value) → value_or o (value_or o v) ≡ value_or o v
value_twice None v = refl
value_twice (Some w) v = refl

copies_newest : (n k : ℕ) (e : Event) (w : World) → newest w (copies (suc n) e) k ≡ value_or (buffered (writes_of e.kind) k) (w k)
copies_newest zero k e w = refl
copies_newest (suc n) k e w = copies_newest n k e (changed e.kind w) ∙ value_twice (buffered (writes_of e.kind) k) (w k)

-- a script with one ref has no agent and no atom
no_other : (d : CellDefinition) (kind : CellKind) (n : ℕ) → same_kind kind Ref ≡ false → is_of_kind kind (nth (cells_of (one_ref d)) n) ≡ true → ⊥
no_other d kind zero h e = true≢false (sym e ∙ h)
no_other d kind (suc n) h e = false≢true e

no_agent : (d : CellDefinition) (kind : CellKind) (n : ℕ) → (same_kind kind Agent && is_of_kind kind (nth (cells_of (one_ref d)) n)) ≡ true → ⊥
no_agent d Ref n h = false≢true h
no_agent d Atom n h = false≢true h
no_agent d Agent n h = no_other d Agent n refl h

no_atom : (d : CellDefinition) (kind : CellKind) (n : ℕ) → (same_kind kind Atom && is_of_kind kind (nth (cells_of (one_ref d)) n)) ≡ true → ⊥
no_atom d Ref n h = false≢true h
no_atom d Atom n h = no_other d Atom n refl h
no_atom d Agent n h = false≢true h

pub counts_are_needed : CountsAreNeeded
unfolding most_events
counts_are_needed d = record {
  one = with_book (copies 11 sets_it);
  other = with_book (copies 1 sets_it);
  p = 0;
  q = 0;
  cell = a_ref;
  alike = record {
    store = λ c i. copies_newest 10 c.number sets_it (opening (cells_of (one_ref d))) ∙ sym (copies_newest 0 c.number sets_it (opening (cells_of (one_ref d))));
    mail = λ g i. absurd (no_agent d g.kind g.number i);
    atoms = λ c i. absurd (no_atom d c.kind c.number i);
    taken = refl;
  };
  values = λ k. refl;
  since = λ k. copies_written 10 k sets_it ∙ sym (copies_written 0 k sets_it);
  retries = refl;
  value = d.opening;
  looks = refl;
}

-- ---- views

pub views_are_needed : ViewsAreNeeded
unfolding most_events
views_are_needed d = record {
  shared = with_book (sets_it ∷ []);
  p = 0;
  v = 1;
  w = 0;
  cell = a_ref;
  commuted = (a_ref, Nil) ∷ [];
  alike = record { in_first = omega arith; in_other = omega arith; refs = λ r i. record { times = refl; value = λ f. refl } };
  commits = refl;
  changed = refl;
}

pub since_is_needed : SinceIsNeeded
unfolding most_events
since_is_needed d = record {
  shared = with_book (event_of 1 (event.Commit 0 0 ((a_ref, d.opening) ∷ []) []) ∷ []);
  p = 0;
  q = 1;
  cell = a_ref;
  sets = (a_ref, Nil) ∷ [];
  values = λ k. by k (0 == k) refl;
  retries = refl;
  commits = refl;
}
  where
    by : (k : ℕ) (t : Bool) → (0 == k) ≡ t → opening (cells_of (one_ref d)) k ≡ value_or (if t then Some d.opening else None) (opening (cells_of (one_ref d)) k)
    by k true e = subst (λ j. opening (cells_of (one_ref d)) j ≡ d.opening) (numbers 0 k e) refl
    by k false e = refl

-- ---- sends

abbrev an_action : ℕ → Action
an_action f = record { agent = an_agent; callee = callee.Function f; args = []; span = record { from = 0; to = 0 } }

pub sends_are_needed : SendsAreNeeded
unfolding most_events
sends_are_needed d = record {
  shared = with_book [];
  agent = an_agent;
  sent = an_action 0;
  commits = refl;
  sends = refl;
  idle = refl;
  value = d.opening;
  takes = refl;
}

-- ---- order

abbrev is_first : Callee → Bool
is_first (callee.Core op) = false
is_first (callee.Function f) = f == 0

pub order_is_needed : OrderIsNeeded
order_is_needed d = record {
  one = with_book (event_of 0 (event.Send (an_action 0)) ∷ event_of 0 (event.Send (an_action 1)) ∷ []);
  other = with_book (event_of 0 (event.Send (an_action 1)) ∷ event_of 0 (event.Send (an_action 0)) ∷ []);
  agent = an_agent;
  x = an_action 0;
  y = an_action 1;
  differ = λ e. true≢false (ap (λ (x : Action). is_first x.callee) e);
  values = λ k. refl;
  wait = refl;
  wait_too = refl;
  value = d.opening;
  first = refl;
  second = refl;
}

-- ---- tries

abbrev pub no_span : Span
no_span = record { from = 0; to = 0 }

-- code that begins a transaction at once
abbrev begins_it : ThreadCode
begins_it = record { functions = []; validators = []; main = record { locals = 0; instrs = TxBegin no_span ∷ [] } }

abbrev at_first : Configuration
at_first = first_place [] (fresh [])

abbrev tries_in : Activity → ℕ
tries_in Outside = 0
tries_in (Restarting left) = left
tries_in (Running left inner from) = left
tries_in (Applying left from work values) = left
tries_in (Swapping swap from) = 0

pub tries_tell : TriesTell
unfolding reruns
tries_tell = record {
  code = begins_it;
  span = no_span;
  fresh = while Outside at_first;
  again = while (Restarting 0) at_first;
  begins = refl;
  start = refl;
  one = new_at no_span 0 (while Outside at_first);
  other = new_at no_span 0 (while (Restarting 0) at_first);
  goes = hears_in no_span 0 Outside at_first tt refl;
  goes_again = hears_in no_span 0 (Restarting 0) at_first tt refl;
  alike = refl;
  differ = λ e. some_tries (ap (λ (c : Configuration). tries_in c.doing) e);
}
  where
    some_tries : reruns ≡ 0 → ⊥
    some_tries e = omega (arith, e)
