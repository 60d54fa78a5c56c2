use Rattle.std.proofs.Common.{◌≡◌, ◌<◌, ◌+◌, ◌++◌, ◌∷◌, ◌∙◌, ℕ, suc, Bool, true, false, List, [], length, drop, get_or, ap, sym, rules, append_assoc, drop-cons, add-one, if◌then◌else◌}
use Rattle.txs_value_cell.specs.declared.cell.CellDefinition.{CellDefinition}
use Rattle.txs_world_book.specs.Atom.{PlainAtom}
use Rattle.txs_world_shared.specs.Kept.{opens_atom, new_atom, atoms_of}
use Rattle.txs_world_shared.proofs.atoms.open_atoms.Goals as goal

opened : (b : Bool) (x : PlainAtom) (xs ys zs : List PlainAtom) → ys ≡ (if b then xs ++ x ∷ [] else xs) → ys ++ zs ≡ xs ++ (if b then x ∷ zs else zs)
opened true x xs ys zs h = ap (λ l. l ++ zs) h ∙ append_assoc xs (x ∷ []) zs
opened false x xs ys zs h = ap (λ l. l ++ zs) h

-- one cell more
opened_on : (cells : List CellDefinition) (i : ℕ) (d : CellDefinition) (xs ys : List PlainAtom) → i < length cells → d ≡ get_or cells i d → ys ≡ (if opens_atom i d then xs ++ new_atom i d ∷ [] else xs)
    → xs ++ atoms_of i (drop i cells) ≡ atoms_of 0 cells → ys ++ atoms_of (i + 1) (drop (i + 1) cells) ≡ atoms_of 0 cells
opened_on cells i d xs ys lt read is all =
    ap (λ (k : ℕ). ys ++ atoms_of k (drop k cells)) (add-one i)
    ∙ opened (opens_atom i d) (new_atom i d) xs ys (atoms_of (suc i) (drop (suc i) cells)) is
    ∙ ap (λ l. xs ++ atoms_of i l) (sym (drop-cons cells i d lt ∙ ap (λ x. x ∷ drop (suc i) cells) (sym read)))
    ∙ all

pub loop-number-preserved : goal.loop-number-preserved
loop-number-preserved c =
    let cells = c.args.cells.now in
    let l = c.loop-number in
    let d = c.index-cells-number.result in
    let lt : l.number < length cells = search rules in
    let read : d ≡ get_or cells l.number d = search rules in
    opened_on cells l.number d l.atoms.items c.open_atom.new.atoms.items lt read c.in_ok-open_atom.ensures l.invariant
