use Rattle.std.proofs.Common.{◌≡◌, ◌==◌, ◌∙◌, ℕ, suc, Bool, true, false, List, [], ◌∷◌, arith, length, refl}
use Rattle.std.proofs.lemmas.Bool.Decides.{nat_tests}
use Rattle.txs_value_cell.specs.declared.action.Action.{Action}
use Rattle.txs_world_book.specs.Book.{is_empty}
use Rattle.txs_world_book.proofs.named.sends_nothing.Goals as goal

equal : (a b : ℕ) → (a == b) ≡ true → a ≡ b
equal a b e = grind (arith, nat_tests)

some_more : (n : ℕ) → (suc n == 0) ≡ false
some_more n = go (suc n == 0) refl
  where
    go : (b : Bool) → (suc n == 0) ≡ b → (suc n == 0) ≡ false
    go true e = let none = equal (suc n) 0 e in absurd (omega (arith, none))
    go false e = e

counted : (xs : List Action) → (length xs == 0) ≡ is_empty xs
counted [] = refl
counted (x ∷ xs) = some_more (length xs)

pub returns : goal.returns
returns c = c.is_empty.ensures ∙ counted c.args.sends.now
