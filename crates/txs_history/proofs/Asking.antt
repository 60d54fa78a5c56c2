-- Which asks the store serves, and which an atom; others nobody may make there.
use Rattle.std.proofs.Common.{◌≡◌, ℕ, zero, suc, Bool, true, false, not, ◌&&◌, ◌==◌, nat_lt, List, [], ◌∷◌, Option, Some, None, refl, sym, ap, subst, ◌∙◌, arith, if◌then◌else◌}
use Rattle.std.proofs.lemmas.Bool.{false≢true}
use Rattle.txs_world_protocol.specs.SeenEvent.{home, atoms_below}
use Rattle.txs_world_protocol.specs.declared.ask.Ask.{Ask}
use Rattle.txs_world_protocol.specs.declared.ask.Ask.TheVariants as ask
use Rattle.txs_world_protocol.specs.declared.event.Event.{Event}
use Rattle.txs_value_data.proofs.SameLemmas.{and_both, numbers, number-itself}
use Rattle.txs_value_data.specs.Places.{nth}
use Rattle.txs_value_cell.specs.Forms.{same_kind}
use Rattle.txs_value_cell.specs.declared.cell.CellDefinition.{CellDefinition}
use Rattle.txs_value_data.specs.declared.value.CellId.{CellId}
use Rattle.txs_value_data.specs.declared.value.CellKind.{CellKind}
use Rattle.txs_value_data.specs.declared.value.CellKind.TheVariants.{Ref, Atom, Agent}
use Rattle.txs_world_book.specs.Atom.{PlainAtom}
use Rattle.txs_world_book.specs.Book.{actors, has_cell, is_of_kind}
use Rattle.txs_world_book.specs.Served.{cells_of}
use Rattle.txs_world.specs.Store as store
use Rattle.txs_world.specs.Store.{PlainStore, store_with, is_lawful, has_named}
use Rattle.txs_theorem_runs.specs.Shared.{is_atom, has_atom, book_for, may_ask, may_close}
use Rattle.txs_world_book.specs.Book.{may_name}
use Rattle.txs_world_shared.specs.Apart.{is_cell, may_ask_atom}
use Rattle.txs_world_shared.specs.Kept.{atom_named, names_place}
use Rattle.txs_world_shared.proofs.Asking.{AsksAtom, asks_atom, asks_store}

-- ---- truth values

never : (b : Bool) → (b && false) ≡ false
never true = refl
never false = refl

-- ---- the store

-- what the store may be asked names no atom
pub of_store : (s : PlainStore) (a : ℕ) (q : Ask) → is_lawful s a q ≡ true → atom_named q ≡ None
of_store s a ask.Begin h = refl
of_store s a (ask.Look c at) h = refl
of_store s a (ask.View cs) h = refl
of_store s a (ask.Commit at sets ensured view commuted sends) h = refl
of_store s a (ask.Fail at view) h = refl
of_store s a (ask.Peek c) h = go (is_atom c) (and_both (not (is_atom c)) (has_cell s.cells c) (and_both (store.may_ask s.cells s.threads a (ask.Peek c)) (has_named s a (ask.Peek c)) h).1).0
  where
    go : (b : Bool) → not b ≡ true → (if b then Some c else None) ≡ None
    go true h = absurd (false≢true h)
    go false h = refl
of_store s a (ask.Send x) h = refl
of_store s a (ask.Take g) h = refl
of_store s a (ask.Finish g new sends) h = refl
of_store s a (ask.OpenAt c) h = absurd (false≢true (and_both (store.may_ask s.cells s.threads a (ask.OpenAt c)) false h).1)
of_store s a (ask.CloseAt c at new) h = absurd (false≢true (and_both (store.may_ask s.cells s.threads a (ask.CloseAt c at new)) false h).1)
of_store s a (ask.Broke c at) h = absurd (false≢true (and_both (store.may_ask s.cells s.threads a (ask.Broke c at)) false h).1)

-- what is under the store's lock is about no atom
not_atom : (cells : List CellDefinition) (c : CellId) → 0 ≡ home cells c → is_atom c ≡ false
not_atom cells c h = go (is_atom c) refl h
  where
    go : (b : Bool) → is_atom c ≡ b → 0 ≡ (if b then suc (atoms_below cells c.number) else 0) → is_atom c ≡ false
    go true e r = absurd (omega (arith, r))
    go false e r = e

module _ (cells : List CellDefinition) (threads : ℕ) (taken : List Bool) (a : ℕ) (book : List Event) where
  -- no actor may ask what names an atom that isn't there
  no_atom_there : (c : CellId) (b : Bool) → 0 ≡ home cells c → (nat_lt a (actors threads (cells_of cells)) && (has_atom cells c && b)) ≡ false
  no_atom_there c b h = ap (λ t. nat_lt a (actors threads (cells_of cells)) && ((t && has_cell (cells_of cells) c) && b)) (not_atom cells c h) ∙ never (nat_lt a (actors threads (cells_of cells)))

  -- what is under the store's lock, and the store may not be asked, no actor may ask
  pub not_of_store : (q : Ask) → 0 ≡ book_for cells q → is_lawful (store_with (cells_of cells) threads book taken) a q ≡ false → may_ask cells threads taken a q book ≡ false
  not_of_store ask.Begin k h = h
  not_of_store (ask.Look c at) k h = h
  not_of_store (ask.View cs) k h = h
  not_of_store (ask.Commit at sets ensured view commuted sends) k h = h
  not_of_store (ask.Fail at view) k h = h
  not_of_store (ask.Peek c) k h = (asks_store cells threads taken a book (ask.Peek c) (ap (λ b. if b then Some c else None) (not_atom cells c k))).may ∙ h
  not_of_store (ask.Send x) k h = h
  not_of_store (ask.Take g) k h = h
  not_of_store (ask.Finish g new sends) k h = h
  not_of_store (ask.OpenAt c) k h =
      ap (λ t. nat_lt a (actors threads (cells_of cells)) && (t && has_cell (cells_of cells) c)) (not_atom cells c k) ∙ never (nat_lt a (actors threads (cells_of cells)))
  not_of_store (ask.CloseAt c at new) k h = no_atom_there c (may_close book a at) k
  not_of_store (ask.Broke c at) k h = no_atom_there c (may_name true book a at) k

-- ---- an atom

kinds : (k l : CellKind) → same_kind k l ≡ true → k ≡ l
kinds Ref Ref h = refl
kinds Ref Atom h = absurd (false≢true h)
kinds Ref Agent h = absurd (false≢true h)
kinds Atom Ref h = absurd (false≢true h)
kinds Atom Atom h = refl
kinds Atom Agent h = absurd (false≢true h)
kinds Agent Ref h = absurd (false≢true h)
kinds Agent Atom h = absurd (false≢true h)
kinds Agent Agent h = refl

kind_itself : (k : CellKind) → same_kind k k ≡ true
kind_itself Ref = refl
kind_itself Atom = refl
kind_itself Agent = refl

turned_kind : (k l : CellKind) → same_kind k l ≡ true → same_kind l k ≡ true
turned_kind k l h = subst (λ j. same_kind l j ≡ true) (sym (kinds k l h)) (kind_itself l)

-- a cell is its kind and its number
cell_is : (c d : CellId) → c.kind ≡ d.kind → c.number ≡ d.number → c ≡ d
cell_is c d kind number = λ i. record { kind = kind i; number = number i }

same_cell : (c d : CellId) → (same_kind c.kind d.kind && c.number == d.number) ≡ true → c ≡ d
same_cell c d h = let both = and_both (same_kind c.kind d.kind) (c.number == d.number) h in cell_is c d (kinds c.kind d.kind both.0) (numbers c.number d.number both.1)

named_is : (o : Option CellId) (d : CellId) → is_cell o d ≡ true → o ≡ Some d
named_is None d h = absurd (false≢true h)
named_is (Some c) d h = ap Some (same_cell c d h)

-- what an atom may be asked names it
pub of_atom : (n a : ℕ) (q : Ask) (x : PlainAtom) → may_ask_atom n a q x ≡ true → (atom_named q ≡ Some x.cell) × (nat_lt a n ≡ true) × (names_place a q x.book ≡ true)
of_atom n a q x h =
    let first = and_both (nat_lt a n) (is_cell (atom_named q) x.cell && names_place a q x.book) h in
    let rest = and_both (is_cell (atom_named q) x.cell) (names_place a q x.book) first.1 in
    (named_is (atom_named q) x.cell rest.0, first.0, rest.1)

-- before an atom there are fewer atoms than before one behind it
below_same : (cells : List CellDefinition) (j k : ℕ) → is_of_kind Atom (nth (cells_of cells) j) ≡ true → is_of_kind Atom (nth (cells_of cells) k) ≡ true
    → atoms_below cells j ≡ atoms_below cells k → j ≡ k
below_same [] j k p q same = absurd (false≢true p)
below_same (d ∷ ds) zero zero p q same = refl
below_same (d ∷ ds) zero (suc k) p q same =
    absurd (omega (arith, same ∙ ap (λ b. if b then suc (atoms_below ds k) else atoms_below ds k) (turned_kind Atom d.kind p)))
below_same (d ∷ ds) (suc j) zero p q same =
    absurd (omega (arith, sym same ∙ ap (λ b. if b then suc (atoms_below ds j) else atoms_below ds j) (turned_kind Atom d.kind q)))
below_same (d ∷ ds) (suc j) (suc k) p q same = ap suc (below_same ds j k p q (go (same_kind d.kind Atom) same))
  where
    go : (b : Bool) → (if b then suc (atoms_below ds j) else atoms_below ds j) ≡ (if b then suc (atoms_below ds k) else atoms_below ds k) → atoms_below ds j ≡ atoms_below ds k
    go true h = omega (arith, h)
    go false h = h

-- an atom of the code: its kind, its place, and its lock
pub record AtomThere (cells : List CellDefinition) (c : CellId) : Type 0 where
  pub kind : c.kind ≡ Atom
  pub there : is_of_kind Atom (nth (cells_of cells) c.number) ≡ true
  pub home_is : home cells c ≡ suc (atoms_below cells c.number)

pub atom_there : (cells : List CellDefinition) (c : CellId) → has_atom cells c ≡ true → AtomThere cells c
atom_there cells c h =
    let both = and_both (is_atom c) (has_cell (cells_of cells) c) h in
    let kind = kinds c.kind Atom both.0 in
    record {
      kind = kind;
      there = subst (λ k. is_of_kind k (nth (cells_of cells) c.number) ≡ true) kind both.1;
      home_is = ap (λ b. if b then suc (atoms_below cells c.number) else 0) both.0;
    }

-- each atom has a lock of its own
home_same : (cells : List CellDefinition) (c d : CellId) → has_atom cells c ≡ true → has_atom cells d ≡ true → home cells c ≡ home cells d → c ≡ d
home_same cells c d p q same =
    let x = atom_there cells c p in
    let y = atom_there cells d q in
    let below : atoms_below cells c.number ≡ atoms_below cells d.number = omega (arith, sym x.home_is ∙ (same ∙ y.home_is)) in
    cell_is c d (x.kind ∙ sym y.kind) (below_same cells c.number d.number x.there y.there below)

cell_itself : (c : CellId) → is_cell (Some c) c ≡ true
cell_itself c = rw (kind_itself c.kind, number-itself c.number) refl

-- what is under an atom's lock, and the atom may not be asked, no actor may ask
pub not_of_atom : (cells : List CellDefinition) (threads : ℕ) (taken : List Bool) (a : ℕ) (q : Ask) (x : PlainAtom) → has_atom cells x.cell ≡ true → home cells x.cell ≡ book_for cells q
    → may_ask_atom (actors threads (cells_of cells)) a q x ≡ false → may_ask cells threads taken a q x.book ≡ false
not_of_atom cells threads taken a q x has key h = go (atom_named q) refl
  where
    go : (o : Option CellId) → atom_named q ≡ o → may_ask cells threads taken a q x.book ≡ false
    go None e = absurd (omega (arith, sym (atom_there cells x.cell has).home_is ∙ (key ∙ (asks_store cells threads taken a x.book q e).book_is)))
    go (Some c) e = sym r.may ∙ other (has_atom cells c) refl
      where
        r : AsksAtom cells threads taken a q x.book c
        r = asks_atom cells threads taken a x.book q c e

        other : (b : Bool) → has_atom cells c ≡ b → (nat_lt a (actors threads (cells_of cells)) && (b && names_place a q x.book)) ≡ false
        other true is =
            let same : x.cell ≡ c = home_same cells x.cell c has is (key ∙ r.book_is) in
            let named : is_cell (atom_named q) x.cell ≡ true = subst (λ o. is_cell o x.cell ≡ true) (ap Some same ∙ sym e) (cell_itself x.cell) in
            ap (λ t. nat_lt a (actors threads (cells_of cells)) && (t && names_place a q x.book)) (sym named) ∙ h
        other false is = never (nat_lt a (actors threads (cells_of cells)))
