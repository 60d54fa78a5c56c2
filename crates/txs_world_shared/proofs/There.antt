-- The cells of a state made of definitions are there.
use Rattle.std.proofs.Common.{◌≡◌, ◌<◌, ℕ, zero, suc, List, [], ◌∷◌, length, get_or, true, arith, ap, sym}
use Rattle.txs_world_book.specs.Book.{has_cell}
use Rattle.txs_world_book.specs.Served.{cells_of}
use Rattle.txs_value_cell.specs.Forms.{same_kind}
use Rattle.txs_value_cell.specs.declared.cell.CellDefinition.{CellDefinition}
use Rattle.txs_value_data.specs.declared.value.CellKind.{CellKind}
use Rattle.txs_value_data.specs.declared.value.CellKind.TheVariants.{Ref, Atom, Agent}

first_there : (x : CellDefinition) (k : CellKind) (ds : List CellDefinition) → x.kind ≡ k → has_cell (cells_of (x ∷ ds)) (record { kind = k; number = zero }) ≡ true
first_there x Ref ds e = ap (λ (k : CellKind). same_kind Ref k) e
first_there x Atom ds e = ap (λ (k : CellKind). same_kind Atom k) e
first_there x Agent ds e = ap (λ (k : CellKind). same_kind Agent k) e

-- that with this number, which is of its kind
pub there : (ds : List CellDefinition) (i : ℕ) (d : CellDefinition) → i < length ds → d ≡ get_or ds i d → has_cell (cells_of ds) (record { kind = d.kind; number = i }) ≡ true
there [] i d l e = absurd (omega arith)
there (x ∷ ds) zero d l e = first_there x d.kind ds (sym (ap (λ (c : CellDefinition). c.kind) e))
there (x ∷ ds) (suc i) d l e = there ds i d (omega arith) e
