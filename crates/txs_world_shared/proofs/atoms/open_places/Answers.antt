use Rattle.std.proofs.Common.{◌≡◌, ◌<◌, ◌≤◌, ◌+◌, ◌++◌, ◌∷◌, ◌∙◌, ℕ, suc, Bool, true, false, List, [], length, drop, get_or, ap, sym, arith, append_assoc, length-append, drop-cons, add-one, if◌then◌else◌}
use Rattle.txs_value_cell.specs.Forms.{same_kind}
use Rattle.txs_value_cell.specs.declared.cell.CellDefinition.{CellDefinition}
use Rattle.txs_value_data.specs.declared.value.CellKind.TheVariants.{Atom}
use Rattle.txs_world_shared.specs.Kept.{places_of}
use Rattle.txs_world_shared.proofs.atoms.open_places.Goals as goal

counted : (b : Bool) (n m : ℕ) → m ≡ n + (if b then 1 else 0) → (if b then suc n else n) ≡ m
counted true n m h = omega (arith, h)
counted false n m h = omega (arith, h)

-- one cell more
placed_on : (cells : List CellDefinition) (i : ℕ) (d : CellDefinition) (n m : ℕ) (ps qs : List ℕ) → i < length cells → d ≡ get_or cells i d → qs ≡ ps ++ n ∷ [] → m ≡ n + (if same_kind d.kind Atom then 1 else 0)
    → ps ++ places_of n (drop i cells) ≡ places_of 0 cells → qs ++ places_of m (drop (i + 1) cells) ≡ places_of 0 cells
placed_on cells i d n m ps qs lt read is next all =
    ap (λ l. l ++ places_of m (drop (i + 1) cells)) is
    ∙ append_assoc ps (n ∷ []) (places_of m (drop (i + 1) cells))
    ∙ ap (λ (k : ℕ). ps ++ n ∷ places_of m (drop k cells)) (add-one i)
    ∙ ap (λ (k : ℕ). ps ++ n ∷ places_of k (drop (suc i) cells)) (sym (counted (same_kind d.kind Atom) n m next))
    ∙ ap (λ l. ps ++ places_of n l) (sym (drop-cons cells i d lt ∙ ap (λ x. x ∷ drop (suc i) cells) (sym read)))
    ∙ all

one_at_most : (b : Bool) (k : ℕ) → k ≡ (if b then 1 else 0) → k ≤ 1
one_at_most true k h = omega (arith, h)
one_at_most false k h = omega (arith, h)

pub loop-cell-preserved : goal.loop-cell-preserved
loop-cell-preserved c =
    let cells = c.args.cells.now in
    let l = c.loop-cell in
    let i = l.cell-index in
    let d = c.cell-item.result in
    let lt = c.loop-cell-test.true in
    let one = one_at_most (same_kind d.kind Atom) c.atoms_in-atoms.result c.atoms_in-atoms.ensures in
    let few = l.invariant.few in
    record {
      many = ap length c.push_reserved.ensures.items ∙ length-append l.places.items (l.atoms ∷ []) ∙ ap (λ k. k + 1) l.invariant.many;
      within = omega (arith, lt);
      room = c.push_reserved.ensures.capacity ∙ l.invariant.room;
      all = placed_on cells i d l.atoms (l.atoms + c.atoms_in-atoms.result) l.places.items c.push_reserved.new.self.items lt c.cell-item.is c.push_reserved.ensures.items (ap (λ k. l.atoms + k) c.atoms_in-atoms.ensures) l.invariant.all;
      few = omega (arith, one, few);
    }
