-- Which book an ask is for, and that this book answers it as the laws of runs say.
use Rattle.std.proofs.Common.{◌≡◌, ℕ, suc, Bool, true, false, not, ◌&&◌, nat_lt, List, Option, Some, None, refl, sym, ap, subst, ◌∙◌, if◌then◌else◌}
use Rattle.std.proofs.lemmas.Bool.{false≢true}
use Rattle.txs_world_protocol.specs.SeenEvent.{home, atoms_below}
use Rattle.txs_world_protocol.specs.declared.ask.Ask.{Ask}
use Rattle.txs_world_protocol.specs.declared.ask.Ask.TheVariants as ask
use Rattle.txs_world_protocol.specs.declared.ask.Reply.{Reply}
use Rattle.txs_world_protocol.specs.declared.event.Event.{Event}
use Rattle.txs_value_data.proofs.SameLemmas.{and_both, number-itself}
use Rattle.txs_value_cell.specs.declared.cell.CellDefinition.{CellDefinition}
use Rattle.txs_value_data.specs.declared.value.CellId.{CellId}
use Rattle.txs_value_data.specs.declared.value.Value.{Value}
use Rattle.txs_world_book.specs.Atom as world
use Rattle.txs_world_book.specs.Book.{is_there, actors, has_cell, may_name, opening}
use Rattle.txs_world.specs.Store.{store_with, is_lawful, serve, taken_after}
use Rattle.txs_world_book.specs.Served.{cells_of}
use Rattle.txs_theorem_runs.specs.Shared.{is_atom, has_atom, atom_of, book_for, serve_atom, serve_on, may_close, may_ask}
use Rattle.txs_world_shared.specs.Kept.{atom_named, names_place}

abbrev the_cell : CellId → Option CellId → CellId
the_cell d None = d
the_cell d (Some c) = c

none : {A : Type 0} (c : CellId) → None ≡ Some c → A
none c h = absurd (false≢true (ap is_there h))

also : (b : Bool) → (b && true) ≡ b
also true = refl
also false = refl

-- an ask that is for the book of an atom
pub record AsksAtom (cells : List CellDefinition) (threads : ℕ) (taken : List Bool) (a : ℕ) (q : Ask) (book : List Event) (c : CellId) : Type 0 where
  pub book_is : book_for cells q ≡ home cells c
  pub may : (nat_lt a (actors threads (cells_of cells)) && (has_atom cells c && names_place a q book)) ≡ may_ask cells threads taken a q book
  pub lawful : may_ask cells threads taken a q book ≡ true → world.is_lawful_atom c a q book ≡ true
  pub served : serve_on cells a q book ≡ world.serve_atom c (opening (cells_of cells) c.number) a q book
  pub untaken : (r : Reply) → taken_after q r taken ≡ taken

-- an ask that is for the store's book
pub record AsksStore (cells : List CellDefinition) (threads : ℕ) (taken : List Bool) (a : ℕ) (q : Ask) (book : List Event) : Type 0 where
  pub book_is : book_for cells q ≡ 0
  pub may : may_ask cells threads taken a q book ≡ is_lawful (store_with (cells_of cells) threads book taken) a q
  pub served : serve_on cells a q book ≡ serve (cells_of cells) a q book

closes_same : (book : List Event) (a : ℕ) (p : Option ℕ) → may_close book a p ≡ world.may_close book a p
closes_same book a None = refl
closes_same book a (Some p) = refl

module _ (cells : List CellDefinition) (threads : ℕ) (taken : List Bool) (a : ℕ) (book : List Event) where
  asks_of : (q : Ask) (d c : CellId) → Some d ≡ Some c → AsksAtom cells threads taken a q book d → AsksAtom cells threads taken a q book c
  asks_of q d c h r = subst (AsksAtom cells threads taken a q book) (ap (the_cell d) h) r

  peeks : (c : CellId) → is_atom c ≡ true → AsksAtom cells threads taken a (ask.Peek c) book c
  peeks c e = record {
    book_is = refl;
    may = ap (λ b. nat_lt a (actors threads (cells_of cells)) && b) (also (has_atom cells c) ∙ ap (λ b. b && has_cell (cells_of cells) c) e);
    lawful = λ h. number-itself c.number;
    served = ap (λ b. if b then serve_atom (atom_of cells c book) a (ask.Peek c) else serve (cells_of cells) a (ask.Peek c) book) e;
    untaken = λ r. refl;
  }

  opens_at : (c : CellId) → AsksAtom cells threads taken a (ask.OpenAt c) book c
  opens_at c = record { book_is = refl; may = ap (λ b. nat_lt a (actors threads (cells_of cells)) && b) (also (has_atom cells c)); lawful = λ h. number-itself c.number; served = refl; untaken = λ r. refl }

  closes_at : (c : CellId) (p : Option ℕ) (v : Value) → AsksAtom cells threads taken a (ask.CloseAt c p v) book c
  closes_at c p v = record {
    book_is = refl;
    may = refl;
    lawful = λ h. ap (λ b. b && world.may_close book a p) (number-itself c.number) ∙ sym (closes_same book a p) ∙ (and_both (has_atom cells c) (may_close book a p) (and_both (nat_lt a (actors threads (cells_of cells))) (has_atom cells c && may_close book a p) h).1).1;
    served = refl;
    untaken = λ r. refl;
  }

  breaks : (c : CellId) (p : ℕ) → AsksAtom cells threads taken a (ask.Broke c p) book c
  breaks c p = record {
    book_is = refl;
    may = refl;
    lawful = λ h. ap (λ b. b && may_name true book a p) (number-itself c.number) ∙ (and_both (has_atom cells c) (may_name true book a p) (and_both (nat_lt a (actors threads (cells_of cells))) (has_atom cells c && may_name true book a p) h).1).1;
    served = refl;
    untaken = λ r. refl;
  }

  pub asks_atom : (q : Ask) (c : CellId) → atom_named q ≡ Some c → AsksAtom cells threads taken a q book c
  asks_atom ask.Begin c h = none c h
  asks_atom (ask.Look d p) c h = none c h
  asks_atom (ask.View ds) c h = none c h
  asks_atom (ask.Commit p sets ensured q commuted sends) c h = none c h
  asks_atom (ask.Fail p q) c h = none c h
  asks_atom (ask.Peek d) c h = go (is_atom d) refl h
    where
      go : (b : Bool) → is_atom d ≡ b → (if b then Some d else None) ≡ Some c → AsksAtom cells threads taken a (ask.Peek d) book c
      go true e r = asks_of (ask.Peek d) d c r (peeks d e)
      go false e r = none c r
  asks_atom (ask.Send x) c h = none c h
  asks_atom (ask.Take g) c h = none c h
  asks_atom (ask.Finish g new sends) c h = none c h
  asks_atom (ask.OpenAt d) c h = asks_of (ask.OpenAt d) d c h (opens_at d)
  asks_atom (ask.CloseAt d p v) c h = asks_of (ask.CloseAt d p v) d c h (closes_at d p v)
  asks_atom (ask.Broke d p) c h = asks_of (ask.Broke d p) d c h (breaks d p)

  peeks_store : (c : CellId) → is_atom c ≡ false → AsksStore cells threads taken a (ask.Peek c) book
  peeks_store c e = record {
    book_is = ap (λ b. if b then suc (atoms_below cells c.number) else 0) e;
    may = ap (λ b. nat_lt a (actors threads (cells_of cells)) && (not b && has_cell (cells_of cells) c)) (sym e);
    served = ap (λ b. if b then serve_atom (atom_of cells c book) a (ask.Peek c) else serve (cells_of cells) a (ask.Peek c) book) e;
  }

  some : {A : Type 0} (c : CellId) → Some c ≡ None → A
  some c h = none c (sym h)

  pub asks_store : (q : Ask) → atom_named q ≡ None → AsksStore cells threads taken a q book
  asks_store ask.Begin h = record { book_is = refl; may = refl; served = refl }
  asks_store (ask.Look d p) h = record { book_is = refl; may = refl; served = refl }
  asks_store (ask.View ds) h = record { book_is = refl; may = refl; served = refl }
  asks_store (ask.Commit p sets ensured q commuted sends) h = record { book_is = refl; may = refl; served = refl }
  asks_store (ask.Fail p q) h = record { book_is = refl; may = refl; served = refl }
  asks_store (ask.Peek d) h = go (is_atom d) refl h
    where
      go : (b : Bool) → is_atom d ≡ b → (if b then Some d else None) ≡ None → AsksStore cells threads taken a (ask.Peek d) book
      go true e r = some d r
      go false e r = peeks_store d e
  asks_store (ask.Send x) h = record { book_is = refl; may = refl; served = refl }
  asks_store (ask.Take g) h = record { book_is = refl; may = refl; served = refl }
  asks_store (ask.Finish g new sends) h = record { book_is = refl; may = refl; served = refl }
  asks_store (ask.OpenAt d) h = some d h
  asks_store (ask.CloseAt d p v) h = some d h
  asks_store (ask.Broke d p) h = some d h
