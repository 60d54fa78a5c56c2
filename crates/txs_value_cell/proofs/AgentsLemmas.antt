-- How many agents cells are, and which.
use Rattle.std.proofs.Common.{◌≡◌, ◌≤◌, ◌<◌, ◌+◌, ℕ, suc, List, [], ◌∷◌, length, drop, get_or, refl, sym, ap, ◌∙◌, arith}
use Rattle.std.proofs.lemmas.List.{drop_more}
use Rattle.txs_value_cell.specs.declared.cell.CellDefinition.{CellDefinition}
use Rattle.txs_value_data.specs.declared.value.CellId.{CellId}
use Rattle.txs_value_data.specs.declared.value.CellKind.{CellKind}
use Rattle.txs_value_data.specs.declared.value.CellKind.TheVariants.{Ref, Atom, Agent}
use Rattle.txs_value_cell.specs.Agents.{agents_from, with_agent}

-- one more, or not
one_more : (k : CellKind) (n : ℕ) (gs : List CellId) → length (with_agent k n gs) ≡ length (with_agent k 0 []) + length gs
one_more Ref n gs = omega arith
one_more Atom n gs = omega arith
one_more Agent n gs = omega arith

-- wherever the first is counted from
as_many : (n m : ℕ) (ds : List CellDefinition) → length (agents_from n ds) ≡ length (agents_from m ds)
as_many n m [] = refl
as_many n m (d ∷ ds) = one_more d.kind n (agents_from (suc n) ds) ∙ ap (λ l. length (with_agent d.kind 0 []) + l) (as_many (suc n) (suc m) ds) ∙ sym (one_more d.kind m (agents_from (suc m) ds))

-- a cell before the others
pub agents_next : (ds : List CellDefinition) (i : ℕ) (d : CellDefinition) → i < length ds → d ≡ get_or ds i d → length (agents_from 0 (drop i ds)) ≡ length (with_agent d.kind 0 []) + length (agents_from 0 (drop (i + 1) ds))
agents_next ds i d within read =
    ap (λ l. length (agents_from 0 l)) (drop_more ds i d within ∙ ap (λ x. x ∷ drop (i + 1) ds) (sym read))
    ∙ one_more d.kind 0 (agents_from 1 (drop (i + 1) ds)) ∙ ap (λ l. length (with_agent d.kind 0 []) + l) (as_many 1 0 (drop (i + 1) ds))

one_at_most : (k : CellKind) → length (with_agent k 0 []) ≤ 1
one_at_most Ref = omega arith
one_at_most Atom = omega arith
one_at_most Agent = omega arith

-- there are no more than cells
pub agents_few : (n : ℕ) (ds : List CellDefinition) → length (agents_from n ds) ≤ length ds
agents_few n [] = omega arith
agents_few n (d ∷ ds) = let one = one_more d.kind n (agents_from (suc n) ds) in let most = one_at_most d.kind in let rest = agents_few (suc n) ds in omega (arith, one, most, rest)
