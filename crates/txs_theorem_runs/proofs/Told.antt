-- The laws of what an actor was told.
use Rattle.std.proofs.lemmas.Bool.{false≢true}
use Rattle.std.proofs.Common.{◌≡◌, ℕ, zero, suc, arith, get_or, Bool, true, false, ◌==◌, List, [], ◌∷◌, ◌++◌, if◌then◌else◌, refl, sym, ap}
use Rattle.txs_value_data.proofs.SameLemmas.{numbers}
use Rattle.txs_world_book.specs.Laws.{UnwrittenStays}
use Rattle.txs_world_book.specs.Served.{cells_of}
use Rattle.txs_world.specs.Store.{none_taken}
use Rattle.txs_world_book.specs.declared.cell.StoreCell.{StoreCell}
use Rattle.txs_theorem_runs.specs.Shared.{book_for, serve_on}
use Rattle.txs_theorem_runs.specs.Laws.{ToldFits, ServedIsTold, OthersLeaveTold}
use Rattle.txs_theorem_runs.proofs.Fits as fits
use Rattle.txs_theorem_runs.proofs.Growing.{Grown, own_told, told_stays, AreOwn}
use Rattle.txs_theorem_runs.proofs.Serving.{serves}
use Rattle.txs_theorem_runs.proofs.Whole.{FreshStands}

append_nil : {A : Type 0} (xs : List A) → xs ++ [] ≡ xs
append_nil [] = refl
append_nil (x ∷ xs) = ap (λ l. x ∷ l) (append_nil xs)

pub told_fits : UnwrittenStays → ToldFits
told_fits stays cells threads books a es st hold staged = fits.told_fits stays cells threads books a es st hold staged

pub served_is_told : ServedIsTold
served_is_told cells threads books taken agent a q es st may ok t ex =
    own_told cells threads a books q taken may (serve_on cells a q (books (book_for cells q))) refl (serves a (books (book_for cells q)) cells q) ex agent es st ok t

pub others_leave_told : OthersLeaveTold
others_leave_told cells threads books agent k a e es st n t = told_stays cells threads e.actor a books (λ i. if i == k then books k ++ e ∷ [] else books i) grown n agent es st t
  where
    grown : Grown e.actor books (λ i. if i == k then books k ++ e ∷ [] else books i)
    grown = record { more = λ i. if i == k then e ∷ [] else []; grown = λ i. grows i (i == k) refl; own = λ i. owns (i == k) }
      where
        grows : (i : ℕ) (b : Bool) → (i == k) ≡ b → (if b then books k ++ e ∷ [] else books i) ≡ books i ++ (if b then e ∷ [] else [])
        grows i true h = ap (λ j. books j ++ e ∷ []) (sym (numbers i k h))
        grows i false h = sym (append_nil (books i))

        owns : (b : Bool) → AreOwn e.actor (if b then e ∷ [] else [])
        owns true = (refl, tt)
        owns false = tt

-- nothing is taken of a store that wasn't used
none_is_taken : (cells : List StoreCell) (k : ℕ) → get_or (none_taken cells) k false ≡ true → ⊥
none_is_taken [] k h = false≢true h
none_is_taken (c ∷ cells) zero h = false≢true h
none_is_taken (c ∷ cells) (suc k) h = none_is_taken cells k h

pub fresh_stands : FreshStands
fresh_stands cells threads = record {
  legal = record { few = omega arith; made = tt; each = tt };
  undisturbed = tt;
  taken = λ k h. absurd (none_is_taken (cells_of cells) k h);
}
