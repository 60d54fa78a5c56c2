-- The cells of a kind.
use Rattle.std.proofs.Common.{◌≡◌, ◌≤◌, ◌<◌, ◌+◌, ℕ, zero, suc, Bool, true, false, List, [], ◌∷◌, ◌++◌, length, Some, refl, sym, ap, ◌∙◌, subst, arith, if◌then◌else◌}
use Rattle.std.proofs.lemmas.List.{length-append}
use Rattle.txs_value_data.specs.Places.{nth}
use Rattle.txs_value_cell.specs.Agents.{agents_from, with_agent}
use Rattle.txs_value_cell.specs.Forms.{same_kind}
use Rattle.txs_value_cell.specs.declared.cell.CellDefinition.{CellDefinition}
use Rattle.txs_value_data.specs.declared.value.CellId.{CellId}
use Rattle.txs_value_data.specs.declared.value.CellKind.{CellKind}
use Rattle.txs_value_data.specs.declared.value.CellKind.TheVariants.{Ref, Atom, Agent}
use Rattle.txs_tree_meaning.specs.Sound.{Sound}
use Rattle.txs_tree_meaning.specs.Tree.{PlainProgram}
use Rattle.txs_theorem_audit.specs.Audited.{PlainReport, Off, books_of}
use Rattle.txs_theorem_audit.specs.Verdict.{atoms_from, fits_sizes, traces_found}
use Rattle.txs_theorem_audit.proofs.Agreeing.{sized_of}
use Rattle.txs_theorem_audit.proofs.Findings.{not_there, off_within}
use Rattle.txs_audit_book.specs.Numbered.{of_kind}

pub kind_atoms : (n : ℕ) (ds : List CellDefinition) → of_kind Atom n ds ≡ atoms_from n ds
kind_atoms n [] = refl
kind_atoms n (d ∷ ds) = ap (λ rest. if same_kind d.kind Atom then record { kind = Atom; number = n } ∷ rest else rest) (kind_atoms (suc n) ds)

pub kind_agents : (n : ℕ) (ds : List CellDefinition) → of_kind Agent n ds ≡ agents_from n ds
kind_agents n [] = refl
kind_agents n (d ∷ ds) =
    ap (λ rest. if same_kind d.kind Agent then record { kind = Agent; number = n } ∷ rest else rest) (kind_agents (suc n) ds) ∙ go d.kind (agents_from (suc n) ds)
  where
    go : (k : CellKind) (rest : List CellId) → (if same_kind k Agent then record { kind = Agent; number = n } ∷ rest else rest) ≡ with_agent k n rest
    go Ref rest = refl
    go Atom rest = refl
    go Agent rest = refl

-- a cell that is found has a number of a cell
kind_inside : (k : CellKind) (n : ℕ) (ds : List CellDefinition) (i : ℕ) (c : CellId) → nth (of_kind k n ds) i ≡ Some c → c.number < n + length ds
kind_inside k n [] i c h = not_there h
kind_inside k n (d ∷ ds) i c h = go (same_kind d.kind k) i h (λ m x. kind_inside k (suc n) ds m c x)
  where
    go : (b : Bool) (i : ℕ) → nth (if b then record { kind = k; number = n } ∷ of_kind k (suc n) ds else of_kind k (suc n) ds) i ≡ Some c → ((m : ℕ) → nth (of_kind k (suc n) ds) m ≡ Some c → c.number < suc n + length ds) → c.number < n + suc (length ds)
    go true zero h more =
        let same : record { kind = k; number = n } ≡ c = cc in
        let here : c.number ≡ n = ap (λ (x : CellId). x.number) (sym same) in
        omega (arith, here)
    go true (suc i) h more = let lt = more i h in omega (arith, lt)
    go false i h more = let lt = more i h in omega (arith, lt)

pub atom_inside : (ds : List CellDefinition) (i : ℕ) (c : CellId) → nth (atoms_from 0 ds) i ≡ Some c → c.number < length ds
atom_inside ds i c h = let lt = kind_inside Atom 0 ds i c (ap (λ l. nth l i) (kind_atoms 0 ds) ∙ h) in omega (arith, lt)

pub agent_inside : (ds : List CellDefinition) (i : ℕ) (c : CellId) → nth (agents_from 0 ds) i ≡ Some c → c.number < length ds
agent_inside ds i c h = let lt = kind_inside Agent 0 ds i c (ap (λ l. nth l i) (kind_agents 0 ds) ∙ h) in omega (arith, lt)

-- there are no more than cells
kind_few : (k : CellKind) (n : ℕ) (ds : List CellDefinition) → length (of_kind k n ds) ≤ length ds
kind_few k n [] = omega arith
kind_few k n (d ∷ ds) = go (same_kind d.kind k) (kind_few k (suc n) ds)
  where
    go : (b : Bool) → length (of_kind k (suc n) ds) ≤ length ds → length (if b then record { kind = k; number = n } ∷ of_kind k (suc n) ds else of_kind k (suc n) ds) ≤ suc (length ds)
    go true e = omega (arith, e)
    go false e = omega (arith, e)

pub atoms_few : (ds : List CellDefinition) → length (atoms_from 0 ds) ≤ length ds
atoms_few ds = subst (λ l. length l ≤ length ds) (kind_atoms 0 ds) (kind_few Atom 0 ds)

pub agents_few : (ds : List CellDefinition) → length (agents_from 0 ds) ≤ length ds
agents_few ds = subst (λ l. length l ≤ length ds) (kind_agents 0 ds) (kind_few Agent 0 ds)

-- an actor whose trace is off has a small number
pub few_off : (p : PlainProgram) (r : PlainReport) → Sound p → fits_sizes p r ≡ true → (a i : ℕ) → Off a i ≡ traces_found (books_of r) (suc (length r.atom_books)) 0 (r.threads ++ r.agents) → a < 65536
few_off p r sound fits a i off =
    let sized = sized_of p r fits in
    let within = off_within (books_of r) (suc (length r.atom_books)) (r.threads ++ r.agents) a i off in
    let many = length-append r.threads r.agents in
    let few = agents_few p.cells in
    omega (arith, within, many, few, sized.threads, sized.agents, sound.scoped.few_cells, sound.scoped.few_threads)
