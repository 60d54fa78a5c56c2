-- How many entries a report is to have.
use Rattle.std.proofs.Common.{◌≡◌, ◌≤◌, ◌<◌, ◌+◌, ℕ, suc, Bool, true, false, List, [], ◌∷◌, length, drop, get_or, map, refl, sym, ap, ◌∙◌, arith, ◌&&◌, ◌==◌, if◌then◌else◌}
use Rattle.std.proofs.lemmas.Bool.{eq-eqb, ne_eqb}
use Rattle.std.proofs.lemmas.List.{drop_more}
use Rattle.txs_theorem_audit.specs.Audited.{ran_as, report_as}
use Rattle.txs_theorem_audit.specs.Verdict.{atoms_from, fits_sizes}
use Rattle.txs_tree_meaning.specs.View.{Parts, program_of, threads_of}
use Rattle.txs_tree_meaning.specs.declared.node.Thread.{Thread}
use Rattle.txs_value_cell.specs.Agents.{agents_from, with_agent}
use Rattle.txs_value_cell.specs.Forms.{same_kind}
use Rattle.txs_value_cell.specs.declared.cell.CellDefinition.{CellDefinition}
use Rattle.txs_value_data.specs.declared.value.CellId.{CellId}
use Rattle.txs_value_data.specs.declared.value.CellKind.{CellKind}
use Rattle.txs_value_data.specs.declared.value.CellKind.TheVariants.{Ref, Atom, Agent}
use Rattle.txs_world_protocol.specs.declared.report.ActorReport.{ActorReport}
use Rattle.txs_world_protocol.specs.declared.report.Report.{Report}
use Rattle.txs_audit_order.specs.Many.{many_of}

one_agent : (k : CellKind) (n : ℕ) (gs : List CellId) → length (with_agent k n gs) ≡ (if same_kind k Agent then 1 else 0) + length gs
one_agent Ref n gs = omega arith
one_agent Atom n gs = omega arith
one_agent Agent n gs = omega arith

pub agents_many : (n : ℕ) (ds : List CellDefinition) → length (agents_from n ds) ≡ many_of Agent ds
agents_many n [] = refl
agents_many n (d ∷ ds) = one_agent d.kind n (agents_from (suc n) ds) ∙ ap (λ m. (if same_kind d.kind Agent then 1 else 0) + m) (agents_many (suc n) ds)

pub atoms_many : (n : ℕ) (ds : List CellDefinition) → length (atoms_from n ds) ≡ many_of Atom ds
atoms_many n [] = refl
atoms_many n (d ∷ ds) = go (same_kind d.kind Atom) (atoms_many (suc n) ds)
  where
    go : (b : Bool) → length (atoms_from (suc n) ds) ≡ many_of Atom ds → length (if b then record { kind = Atom; number = n } ∷ atoms_from (suc n) ds else atoms_from (suc n) ds) ≡ (if b then 1 else 0) + many_of Atom ds
    go true e = omega (arith, e)
    go false e = omega (arith, e)

-- a cell before the others
pub many_next : (k : CellKind) (ds : List CellDefinition) (i : ℕ) (d : CellDefinition) → i < length ds → d ≡ get_or ds i d → many_of k (drop i ds) ≡ (if same_kind d.kind k then 1 else 0) + many_of k (drop (i + 1) ds)
many_next k ds i d lt is = ap (many_of k) (drop_more ds i d lt ∙ ap (λ x. x ∷ drop (i + 1) ds) (sym is))

-- there are no more than cells
pub many_few : (k : CellKind) (ds : List CellDefinition) → many_of k ds ≤ length ds
many_few k [] = omega arith
many_few k (d ∷ ds) = go (same_kind d.kind k) (many_few k ds)
  where
    go : (b : Bool) → many_of k ds ≤ length ds → (if b then 1 else 0) + many_of k ds ≤ suc (length ds)
    go true e = omega (arith, e)
    go false e = omega (arith, e)

pub threads_many : (ts : List Thread) → length (threads_of ts) ≡ length ts
threads_many [] = refl
threads_many (t ∷ ts) = ap suc (threads_many ts)

rans_many : (xs : List ActorReport) → length (map ran_as xs) ≡ length xs
rans_many [] = refl
rans_many (x ∷ xs) = ap suc (rans_many xs)

-- whether five pairs of numbers are equal
abbrev pub five : ℕ → ℕ → ℕ → ℕ → ℕ → ℕ → ℕ → ℕ → ℕ → ℕ → Bool
five a b c d e f g h i j = a == b && (c == d && (e == f && (g == h && i == j)))

-- what the code compares is what an audit asks for
pub sizes_are : (p : Parts) (r : Report) → fits_sizes (program_of p) (report_as r)
    ≡ five (length r.threads.items) (length p.threads) (length r.agents.items) (many_of Agent p.cells) (length r.atom_books.items) (many_of Atom p.cells) (length r.cells.items) (length p.cells) (length r.failed.items) (many_of Agent p.cells)
sizes_are p r =
    ap (λ n. five n (length (threads_of p.threads)) (length (map ran_as r.agents.items)) (length (agents_from 0 p.cells)) (length r.atom_books.items) (length (atoms_from 0 p.cells)) (length r.cells.items) (length p.cells) (length r.failed.items) (length (agents_from 0 p.cells))) (rans_many r.threads.items)
    ∙ ap (λ n. five (length r.threads.items) n (length (map ran_as r.agents.items)) (length (agents_from 0 p.cells)) (length r.atom_books.items) (length (atoms_from 0 p.cells)) (length r.cells.items) (length p.cells) (length r.failed.items) (length (agents_from 0 p.cells))) (threads_many p.threads)
    ∙ ap (λ n. five (length r.threads.items) (length p.threads) n (length (agents_from 0 p.cells)) (length r.atom_books.items) (length (atoms_from 0 p.cells)) (length r.cells.items) (length p.cells) (length r.failed.items) (length (agents_from 0 p.cells))) (rans_many r.agents.items)
    ∙ ap (λ n. five (length r.threads.items) (length p.threads) (length r.agents.items) n (length r.atom_books.items) (length (atoms_from 0 p.cells)) (length r.cells.items) (length p.cells) (length r.failed.items) n) (agents_many 0 p.cells)
    ∙ ap (λ n. five (length r.threads.items) (length p.threads) (length r.agents.items) (many_of Agent p.cells) (length r.atom_books.items) n (length r.cells.items) (length p.cells) (length r.failed.items) (many_of Agent p.cells)) (atoms_many 0 p.cells)

-- two that differ
pub five_1 : (a b c d e f g h i j : ℕ) → (a ≡ b → ⊥) → five a b c d e f g h i j ≡ false
five_1 a b c d e f g h i j off = ap (λ x. x && (c == d && (e == f && (g == h && i == j)))) (ne_eqb a b off)

pub five_2 : (a b c d e f g h i j : ℕ) → a ≡ b → (c ≡ d → ⊥) → five a b c d e f g h i j ≡ false
five_2 a b c d e f g h i j one off = ap (λ x. x && (c == d && (e == f && (g == h && i == j)))) (eq-eqb a b one) ∙ ap (λ x. x && (e == f && (g == h && i == j))) (ne_eqb c d off)

pub five_3 : (a b c d e f g h i j : ℕ) → a ≡ b → c ≡ d → (e ≡ f → ⊥) → five a b c d e f g h i j ≡ false
five_3 a b c d e f g h i j one two off =
    ap (λ x. x && (c == d && (e == f && (g == h && i == j)))) (eq-eqb a b one) ∙ ap (λ x. x && (e == f && (g == h && i == j))) (eq-eqb c d two) ∙ ap (λ x. x && (g == h && i == j)) (ne_eqb e f off)

-- or only the last two may
pub five_5 : (a b c d e f g h i j : ℕ) → a ≡ b → c ≡ d → e ≡ f → g ≡ h → five a b c d e f g h i j ≡ (i == j)
five_5 a b c d e f g h i j one two three four =
    ap (λ x. x && (c == d && (e == f && (g == h && i == j)))) (eq-eqb a b one) ∙ ap (λ x. x && (e == f && (g == h && i == j))) (eq-eqb c d two) ∙ ap (λ x. x && (g == h && i == j)) (eq-eqb e f three)
    ∙ ap (λ x. x && i == j) (eq-eqb g h four)
