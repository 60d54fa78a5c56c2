use Rattle.std.proofs.Common.{◌≡◌, ◌==◌, ◌∙◌, ◌∷◌, [], ap, arith, length, refl, subst, suc, sym, true}
use Rattle.txs_world_protocol.specs.Ask.{Writes}
use Rattle.txs_world_book.specs.Book.{cells_in}
use Rattle.txs_world.specs.Store.{are_apart, merged}
use Rattle.txs_world.proofs.Mailing.{equal}
use Rattle.txs_world.proofs.slot.join_writes.Goals as goal

-- where nothing was commuted, what was set is all
merged_none : (ws xs : Writes) → (length xs == 0) ≡ true → ws ≡ merged ws xs
merged_none ws [] e = refl
merged_none ws (x ∷ xs) e = let none = equal (suc (length xs)) 0 e in absurd (omega (arith, none))

pub merge-requires-clause-apart : goal.merge-requires-clause-apart
merge-requires-clause-apart c = subst (λ l. are_apart (cells_in c.args.commuted.now) (cells_in l) ≡ true) (sym c.as_slice.ensures) c.requires.apart

pub merge-requires-clause-empty : goal.merge-requires-clause-empty
merge-requires-clause-empty c = c.new-joined.ensures.items

pub returns-then-is_empty : goal.returns-then-is_empty
returns-then-is_empty c = merged_none c.args.sets c.args.commuted.now (sym c.is_empty.ensures ∙ c.if-is_empty.true)

pub returns-in-Ok : goal.returns-in-Ok
returns-in-Ok c = c.from_vec.ensures ∙ c.in-Ok.ensures ∙ ap (λ l. merged l c.args.commuted.now) c.as_slice.ensures
