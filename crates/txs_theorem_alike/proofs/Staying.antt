-- Alike states stay alike where each book stays, or gets one more event that does the same in both.
use Rattle.std.proofs.Common.{◌≡◌, ℕ, Bool, true, false, ◌==◌, List, [], ◌∷◌, ◌++◌, length, refl, sym, subst, if◌then◌else◌}
use Rattle.txs_world_protocol.specs.SeenEvent.{home}
use Rattle.txs_world_protocol.specs.declared.ask.Ask.{Ask}
use Rattle.txs_world_protocol.specs.declared.event.Event.{Event}
use Rattle.txs_world_protocol.specs.declared.event.EventKind.{EventKind}
use Rattle.txs_value_data.proofs.SameLemmas.{numbers}
use Rattle.txs_value_data.specs.declared.value.Value.{Value}
use Rattle.txs_value_cell.specs.declared.cell.CellDefinition.{CellDefinition}
use Rattle.txs_world_book.specs.Atom.{atom_after}
use Rattle.txs_world_book.specs.Book.{opening, newest, mail_after}
use Rattle.txs_world_book.specs.Served.{Served, cells_of, event_of}
use Rattle.txs_world_book.specs.declared.cell.StoreCell.{StoreCell}
use Rattle.txs_theorem_runs.specs.Shared.{Shared, shared_after, book_for}
use Rattle.txs_theorem_alike.specs.Books.{SamePoint, SameView, SameSwap, SameMail, Alike, StayAlike}
use Rattle.txs_theorem_alike.proofs.Growing.{deed, point_stays, view_stays, swap_stays, newest_stays, mail_stays, atom_stays}

-- two books, and the same two books after an actor's ask: as they were, or each with one more event that does the same
pub data Grown (a : ℕ) (b c : List Event) : List Event → List Event → Type 0 where
  Still : Grown a b c b c
  Added : (d e : EventKind) → deed d ≡ deed e → Grown a b c (b ++ event_of a d ∷ []) (c ++ event_of a e ∷ [])

module _ (cells : List StoreCell) (a : ℕ) (b c : List Event) where
  point_grown : (x y : List Event) → Grown a b c x y → (p q : ℕ) → SamePoint cells b c p q → SamePoint cells x y p q
  point_grown _ _ Still p q s = s
  point_grown _ _ (Added d e h) p q s = point_stays cells b c (event_of a d) (event_of a e) h p q s

  view_grown : (x y : List Event) → Grown a b c x y → (p q : ℕ) → SameView cells b c p q → SameView cells x y p q
  view_grown _ _ Still p q s = s
  view_grown _ _ (Added d e h) p q s = view_stays cells b c (event_of a d) (event_of a e) h p q s

  swap_grown : (x y : List Event) → Grown a b c x y → (p q : ℕ) → SameSwap b c p q → SameSwap x y p q
  swap_grown _ _ Still p q s = s
  swap_grown _ _ (Added d e h) p q s = swap_stays cells b c (event_of a d) (event_of a e) h p q s

  newest_grown : (x y : List Event) → Grown a b c x y → (k : ℕ) → newest (opening cells) b k ≡ newest (opening cells) c k → newest (opening cells) x k ≡ newest (opening cells) y k
  newest_grown _ _ Still k s = s
  newest_grown _ _ (Added d e h) k s = newest_stays cells b c (event_of a d) (event_of a e) h k s

  mail_grown : (x y : List Event) → Grown a b c x y → (k : ℕ) → SameMail (mail_after cells b k) (mail_after cells c k) → SameMail (mail_after cells x k) (mail_after cells y k)
  mail_grown _ _ Still k s = s
  mail_grown _ _ (Added d e h) k s = mail_stays cells b c (event_of a d) (event_of a e) h k s

  atom_grown : (x y : List Event) → Grown a b c x y → (v : Value) → atom_after v b (length b) ≡ atom_after v c (length c) → atom_after v x (length x) ≡ atom_after v y (length y)
  atom_grown _ _ Still v s = s
  atom_grown _ _ (Added d e h) v s = atom_stays cells b c (event_of a d) (event_of a e) h v s

-- where one book of both has grown, all have
books_grown : (a m : ℕ) (f g : ℕ → List Event) (x y : List Event) → Grown a (f m) (g m) x y → (n : ℕ) → Grown a (f n) (g n) (if n == m then x else f n) (if n == m then y else g n)
books_grown a m f g x y h n = by (n == m) refl
  where
    by : (z : Bool) → (n == m) ≡ z → Grown a (f n) (g n) (if z then x else f n) (if z then y else g n)
    by true e = subst (λ i. Grown a (f i) (g i) x y) (sym (numbers n m e)) h
    by false e = Still

pub stay : (cells : List CellDefinition) (a : ℕ) (q r : Ask) (v w : Served) (sh th : Shared)
    → book_for cells q ≡ book_for cells r → Grown a (sh.books (book_for cells q)) (th.books (book_for cells q)) v.book w.book → (shared_after cells q v sh).taken ≡ (shared_after cells r w th).taken
    → Alike cells sh th → StayAlike cells sh th (shared_after cells q v sh) (shared_after cells r w th)
stay cells a q r v w sh th same grown taken h = record {
  alike = record {
    store = λ c i. newest_grown (cells_of cells) a (sh.books 0) (th.books 0) (later_one 0) (later_other 0) (all 0) c.number (h.store c i);
    mail = λ g i. mail_grown (cells_of cells) a (sh.books 0) (th.books 0) (later_one 0) (later_other 0) (all 0) g.number (h.mail g i);
    atoms = λ c i. atom_grown (cells_of cells) a (sh.books (home cells c)) (th.books (home cells c)) (later_one (home cells c)) (later_other (home cells c)) (all (home cells c)) (opening (cells_of cells) c.number) (h.atoms c i);
    taken = taken;
  };
  points = λ p o s. point_grown (cells_of cells) a (sh.books 0) (th.books 0) (later_one 0) (later_other 0) (all 0) p o s;
  views = λ p o s. view_grown (cells_of cells) a (sh.books 0) (th.books 0) (later_one 0) (later_other 0) (all 0) p o s;
  swaps = λ n p o s. swap_grown (cells_of cells) a (sh.books n) (th.books n) (later_one n) (later_other n) (all n) p o s;
}
  where
    later_one : ℕ → List Event
    later_one n = (shared_after cells q v sh).books n

    later_other : ℕ → List Event
    later_other n = (shared_after cells r w th).books n

    all : (n : ℕ) → Grown a (sh.books n) (th.books n) (later_one n) (later_other n)
    all n = subst (λ m. Grown a (sh.books n) (th.books n) (if n == book_for cells q then v.book else sh.books n) (if n == m then w.book else th.books n)) same (books_grown a (book_for cells q) sh.books th.books v.book w.book grown n)
