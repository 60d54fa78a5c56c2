-- Books, atoms and agents by number and by cell, and the events that a trace names.
use Rattle.std.proofs.Common.{◌≡◌, ◌<◌, ◌≤◌, ℕ, zero, suc, ◌+◌, ◌==◌, ◌&&◌, ◌||◌, Bool, true, false, List, [], ◌∷◌, ◌++◌, length, take, Some, refl, sym, ap, ◌∙◌, subst, arith, if◌then◌else◌}
use Rattle.std.proofs.lemmas.Bool.{false≢true}
use Rattle.std.proofs.lemmas.List.{append-nil}
use Rattle.txs_value_data.specs.Places.{nth}
use Rattle.txs_value_cell.specs.Agents.{agents_from, with_agent}
use Rattle.txs_value_cell.specs.Forms.{same_kind}
use Rattle.txs_value_cell.specs.declared.cell.CellDefinition.{CellDefinition}
use Rattle.txs_value_data.specs.declared.value.CellId.{CellId}
use Rattle.txs_value_data.specs.declared.value.CellKind.{CellKind}
use Rattle.txs_value_data.specs.declared.value.CellKind.TheVariants.{Ref, Atom, Agent}
use Rattle.txs_tree_meaning.proofs.Callable.{both}
use Rattle.txs_world_protocol.specs.SeenEvent.{atoms_below, home}
use Rattle.txs_world_protocol.specs.declared.event.Event.{Event}
use Rattle.txs_world_book.specs.Book.{Each, agents_below, has_agent, has_cell, is_of_kind}
use Rattle.txs_world_book.specs.Served.{cells_of}
use Rattle.txs_theorem_runs.specs.Shared.{is_atom, has_atom}
use Rattle.txs_theorem_serial.specs.Order.{book_or_none}
use Rattle.txs_theorem_audit.specs.Audited.{PlainReport, books_of}
use Rattle.txs_theorem_audit.specs.Verdict.{atoms_from}
use Rattle.txs_theorem_audit.proofs.Findings.{not_there, nth_beyond}

-- ---- members of lists

pub there_is : {A : Type 0} (xs : List A) (i : ℕ) → i < length xs → (x : A) × (nth xs i ≡ Some x)
there_is [] i lt = absurd (omega (arith, lt))
there_is (x ∷ xs) zero lt = (x, refl)
there_is (x ∷ xs) (suc i) lt = there_is xs i (omega (arith, lt))

pub within : {A : Type 0} (xs : List A) (i : ℕ) (x : A) → nth xs i ≡ Some x → i < length xs
within [] i x h = not_there h
within (y ∷ ys) zero x h = omega arith
within (y ∷ ys) (suc i) x h = let lt = within ys i x h in omega (arith, lt)

pub in_front : {A : Type 0} (xs ys : List A) (i : ℕ) (x : A) → nth xs i ≡ Some x → nth (xs ++ ys) i ≡ Some x
in_front [] ys i x h = not_there h
in_front (y ∷ xs) ys zero x h = h
in_front (y ∷ xs) ys (suc i) x h = in_front xs ys i x h

pub behind : {A : Type 0} (xs ys : List A) (i : ℕ) → nth (xs ++ ys) (length xs + i) ≡ nth ys i
behind [] ys i = let z : 0 + i ≡ i = omega arith in ap (nth ys) z
behind (x ∷ xs) ys i = let e : suc (length xs) + i ≡ suc (length xs + i) = omega arith in ap (nth (x ∷ xs ++ ys)) e ∙ behind xs ys i

-- ---- books

-- the books behind the last atom's are empty
pub no_book : (r : PlainReport) (n : ℕ) → suc (length r.atom_books) ≤ n → books_of r n ≡ []
no_book r zero le = absurd (omega (arith, le))
no_book r (suc n) le = ap book_or_none (nth_beyond r.atom_books n (omega (arith, le)))

-- ---- events with those before them

snoc : (done : List Event) (e : Event) (es : List Event) → (done ++ e ∷ []) ++ es ≡ done ++ e ∷ es
snoc [] e es = refl
snoc (d ∷ done) e es = ap (λ l. d ∷ l) (snoc done e es)

pub each_one : (P : List Event → Event → Type 0) (done es : List Event) → Each P done es → (k : ℕ) (e : Event) → nth es k ≡ Some e → P (done ++ take k es) e
each_one P done [] h k e there = not_there there
each_one P done (d ∷ es) h zero e there = let same : d ≡ e = cc in subst (λ l. P l e) (sym (append-nil done)) (subst (P done) same h.0)
each_one P done (d ∷ es) h (suc k) e there = subst (λ l. P l e) (snoc done d (take k es)) (each_one P (done ++ d ∷ []) es h.1 k e there)

-- ---- atoms

is_atom_kind : (k : CellKind) → same_kind k Atom ≡ true → k ≡ Atom
is_atom_kind Ref h = absurd (false≢true h)
is_atom_kind Atom h = refl
is_atom_kind Agent h = absurd (false≢true h)

turned_kind : (k : CellKind) → same_kind Atom k ≡ true → same_kind k Atom ≡ true
turned_kind Ref h = absurd (false≢true h)
turned_kind Atom h = refl
turned_kind Agent h = absurd (false≢true h)

-- an atom among the cells is listed
listed : (n : ℕ) (ds : List CellDefinition) (j : ℕ) → is_of_kind Atom (nth (cells_of ds) j) ≡ true → (i : ℕ) × (nth (atoms_from n ds) i ≡ Some (record { kind = Atom; number = n + j }))
listed n [] j h = absurd (false≢true h)
listed n (d ∷ ds) zero h =
    let z : n ≡ n + 0 = omega arith in
    (0, ap (λ b. nth (if b then record { kind = Atom; number = n } ∷ atoms_from (suc n) ds else atoms_from (suc n) ds) 0) (turned_kind d.kind h) ∙ ap (λ k. Some (record { kind = Atom; number = k })) z)
listed n (d ∷ ds) (suc j) h =
    let r = listed (suc n) ds j h in
    let z : suc n + j ≡ n + suc j = omega arith in
    let at : nth (atoms_from (suc n) ds) r.0 ≡ Some (record { kind = Atom; number = n + suc j }) = r.1 ∙ ap (λ k. Some (record { kind = Atom; number = k })) z in
    one_more (same_kind d.kind Atom) r.0 at
  where
    one_more : (b : Bool) (i : ℕ) → nth (atoms_from (suc n) ds) i ≡ Some (record { kind = Atom; number = n + suc j })
        → (i1 : ℕ) × (nth (if b then record { kind = Atom; number = n } ∷ atoms_from (suc n) ds else atoms_from (suc n) ds) i1 ≡ Some (record { kind = Atom; number = n + suc j }))
    one_more true i at = (suc i, at)
    one_more false i at = (i, at)

same_id : (c d : CellId) → c.kind ≡ d.kind → c.number ≡ d.number → c ≡ d
same_id c d p q = rw (p, q) refl

pub atom_listed : (cells : List CellDefinition) (c : CellId) → has_atom cells c ≡ true → (i : ℕ) × (nth (atoms_from 0 cells) i ≡ Some c)
atom_listed cells c h =
    let g = both (is_atom c) (has_cell (cells_of cells) c) h in
    let k = is_atom_kind c.kind g.0 in
    let z : 0 + c.number ≡ c.number = omega arith in
    let r = listed 0 cells c.number (subst (λ i. is_of_kind i (nth (cells_of cells) c.number) ≡ true) k g.1) in
    (r.0, r.1 ∙ ap Some (same_id (record { kind = Atom; number = 0 + c.number }) c (sym k) z))

-- the atom is among these cells, of which the first has this number, and so many atoms are before it
abbrev Found : ℕ → List CellDefinition → ℕ → CellId → Type 0
Found n ds i c = (j : ℕ) × (c.kind ≡ Atom) × (c.number ≡ n + j) × (is_of_kind Atom (nth (cells_of ds) j) ≡ true) × (atoms_below ds j ≡ i)

turned_atom : (k : CellKind) → same_kind k Atom ≡ true → same_kind Atom k ≡ true
turned_atom Ref h = absurd (false≢true h)
turned_atom Atom h = refl
turned_atom Agent h = absurd (false≢true h)

atom_found : (n : ℕ) (ds : List CellDefinition) (i : ℕ) (c : CellId) → nth (atoms_from n ds) i ≡ Some c → Found n ds i c
atom_found n [] i c h = not_there h
atom_found n (d ∷ ds) i c h = go (same_kind d.kind Atom) refl i h (λ m k. atom_found (suc n) ds m c k)
  where
    later : (b : Bool) (m : ℕ) → same_kind d.kind Atom ≡ b → Found (suc n) ds m c → Found n (d ∷ ds) (if b then suc m else m) c
    later b m e f =
        let many = f.2 in
        let z : c.number ≡ n + suc f.0 = omega (arith, many) in
        (suc f.0, f.1, z, f.3, ap (λ k. if k then suc (atoms_below ds f.0) else atoms_below ds f.0) e ∙ ap (λ k. if b then suc k else k) f.4)

    go : (b : Bool) → same_kind d.kind Atom ≡ b → (i : ℕ) → nth (if b then record { kind = Atom; number = n } ∷ atoms_from (suc n) ds else atoms_from (suc n) ds) i ≡ Some c → ((m : ℕ) → nth (atoms_from (suc n) ds) m ≡ Some c → Found (suc n) ds m c) → Found n (d ∷ ds) i c
    go true e zero h more =
        let same : record { kind = Atom; number = n } ≡ c = cc in
        let here : c.number ≡ n = ap (λ (x : CellId). x.number) (sym same) in
        let z : c.number ≡ n + 0 = omega (arith, here) in
        (0, ap (λ (x : CellId). x.kind) (sym same), z, turned_atom d.kind e, refl)
    go true e (suc i) h more = later true i e (more i h)
    go false e i h more = later false i e (more i h)

-- what is listed is an atom
pub listed_atom : (cells : List CellDefinition) (i : ℕ) (c : CellId) → nth (atoms_from 0 cells) i ≡ Some c → has_atom cells c ≡ true
listed_atom cells i c h =
    let r = atom_found 0 cells i c h in
    let many = r.2 in
    let n : r.0 ≡ c.number = omega (arith, many) in
    let here : is_of_kind Atom (nth (cells_of cells) c.number) ≡ true = subst (λ k. is_of_kind Atom (nth (cells_of cells) k) ≡ true) n r.3 in
    ap (λ k. same_kind k Atom && is_of_kind k (nth (cells_of cells) c.number)) r.1 ∙ here

-- and the i-th has the i-th book behind the store's
pub listed_home : (cells : List CellDefinition) (i : ℕ) (c : CellId) → nth (atoms_from 0 cells) i ≡ Some c → home cells c ≡ suc i
listed_home cells i c h =
    let r = atom_found 0 cells i c h in
    let many = r.2 in
    let n : c.number ≡ r.0 = omega (arith, many) in
    ap (λ k. if same_kind k Atom then suc (atoms_below cells c.number) else 0) r.1 ∙ ap (λ j. suc (atoms_below cells j)) n ∙ ap suc r.4

-- ---- agents

is_agent_kind : (k : CellKind) → same_kind k Agent ≡ true → k ≡ Agent
is_agent_kind Ref h = absurd (false≢true h)
is_agent_kind Atom h = absurd (false≢true h)
is_agent_kind Agent h = refl

-- an agent among the cells is the one that is listed where as many are before it
agent_there : (n : ℕ) (ds : List CellDefinition) (j : ℕ) → is_of_kind Agent (nth (cells_of ds) j) ≡ true → nth (agents_from n ds) (agents_below (cells_of ds) j) ≡ Some (record { kind = Agent; number = n + j })
agent_there n [] j h = absurd (false≢true h)
agent_there n (d ∷ ds) zero h = go d.kind h
  where
    go : (k : CellKind) → same_kind Agent k ≡ true → nth (with_agent k n (agents_from (suc n) ds)) 0 ≡ Some (record { kind = Agent; number = n + 0 })
    go Ref h = absurd (false≢true h)
    go Atom h = absurd (false≢true h)
    go Agent h = let z : n ≡ n + 0 = omega arith in ap (λ k. Some (record { kind = Agent; number = k })) z
agent_there n (d ∷ ds) (suc j) h =
    let z : suc n + j ≡ n + suc j = omega arith in
    go d.kind (agent_there (suc n) ds j h ∙ ap (λ k. Some (record { kind = Agent; number = k })) z)
  where
    go : (k : CellKind) → nth (agents_from (suc n) ds) (agents_below (cells_of ds) j) ≡ Some (record { kind = Agent; number = n + suc j })
        → nth (with_agent k n (agents_from (suc n) ds)) (if same_kind k Agent then suc (agents_below (cells_of ds) j) else agents_below (cells_of ds) j) ≡ Some (record { kind = Agent; number = n + suc j })
    go Ref h = h
    go Atom h = h
    go Agent h = h

pub agent_listed : (cells : List CellDefinition) (g : CellId) → has_agent (cells_of cells) g ≡ true → nth (agents_from 0 cells) (agents_below (cells_of cells) g.number) ≡ Some g
agent_listed cells g h =
    let b = both (same_kind g.kind Agent) (is_of_kind g.kind (nth (cells_of cells) g.number)) h in
    let k = is_agent_kind g.kind b.0 in
    let z : 0 + g.number ≡ g.number = omega arith in
    agent_there 0 cells g.number (subst (λ i. is_of_kind i (nth (cells_of cells) g.number) ≡ true) k b.1) ∙ ap Some (same_id (record { kind = Agent; number = 0 + g.number }) g (sym k) z)

-- ---- the events that a trace names

-- whether a number is among these
abbrev pub among : ℕ → List ℕ → Bool
among k [] = false
among k (n ∷ ns) = n == k || among k ns

or_true : (b : Bool) → (b || true) ≡ true
or_true true = refl
or_true false = refl
