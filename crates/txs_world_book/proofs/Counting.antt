-- How many agents there are before a cell.
use Rattle.std.proofs.Common.{◌≡◌, ◌≤◌, ◌<◌, ◌+◌, ℕ, zero, suc, Bool, true, false, List, [], ◌∷◌, ◌++◌, length, take, get_or, refl, sym, ap, ◌∙◌, subst, arith, length-append, nat_lt, if◌then◌else◌}
use Rattle.std.proofs.lemmas.Bool.{ltb-true}
use Rattle.std.proofs.lemmas.Bool.Decides.{nat_tests}
use Rattle.std.proofs.lemmas.List.{take_more, get_or_append_left, get_or_push}
use Rattle.txs_value_cell.specs.Forms.{same_kind}
use Rattle.txs_value_data.specs.declared.value.CellKind.TheVariants.{Agent}
use Rattle.txs_world_book.specs.Book.{agents_below}
use Rattle.txs_world_book.specs.Stands.{AreCounted}
use Rattle.txs_world_book.specs.declared.cell.StoreCell.{StoreCell}

-- no more agents are before a cell than cells
pub agents_few : (cells : List StoreCell) (k : ℕ) → agents_below cells k ≤ k
agents_few [] k = omega arith
agents_few (c ∷ cs) zero = omega arith
agents_few (c ∷ cs) (suc k) = go (same_kind c.kind Agent) (agents_few cs k)
  where
    go : (t : Bool) → agents_below cs k ≤ k → (if t then suc (agents_below cs k) else agents_below cs k) ≤ suc k
    go true r = omega (arith, r)
    go false r = omega (arith, r)

-- from the end on there are as many as there are
pub agents_past : (cells : List StoreCell) (k : ℕ) → length cells ≤ k → agents_below cells (length cells) ≡ agents_below cells k
agents_past [] k le = refl
agents_past (c ∷ cs) zero le = absurd (omega (arith, le))
agents_past (c ∷ cs) (suc k) le = ap (λ n. if same_kind c.kind Agent then suc n else n) (agents_past cs k (omega (arith, le)))

-- a cell behind some leaves their counts
agents_more : (cells : List StoreCell) (c : StoreCell) (k : ℕ) → k ≤ length cells → agents_below (cells ++ c ∷ []) k ≡ agents_below cells k
agents_more [] c zero le = refl
agents_more [] c (suc k) le = absurd (omega (arith, le))
agents_more (d ∷ ds) c zero le = refl
agents_more (d ∷ ds) c (suc k) le = ap (λ n. if same_kind d.kind Agent then suc n else n) (agents_more ds c k (omega (arith, le)))

-- 1 for an agent, 0 for another cell
abbrev pub one_of : StoreCell → ℕ
one_of c = if same_kind c.kind Agent then 1 else 0

agents_last : (cells : List StoreCell) (c : StoreCell) → agents_below (cells ++ c ∷ []) (length (cells ++ c ∷ [])) ≡ agents_below cells (length cells) + one_of c
agents_last [] c = go (same_kind c.kind Agent)
  where
    go : (t : Bool) → (if t then 1 else 0) ≡ 0 + (if t then 1 else 0)
    go true = refl
    go false = refl
agents_last (d ∷ ds) c = go (same_kind d.kind Agent) (agents_last ds c)
  where
    go : (t : Bool) → agents_below (ds ++ c ∷ []) (length (ds ++ c ∷ [])) ≡ agents_below ds (length ds) + one_of c
        → (if t then suc (agents_below (ds ++ c ∷ []) (length (ds ++ c ∷ []))) else agents_below (ds ++ c ∷ []) (length (ds ++ c ∷ []))) ≡ (if t then suc (agents_below ds (length ds)) else agents_below ds (length ds)) + one_of c
    go true r = omega (arith, r)
    go false r = r

counted_last : (cells : List StoreCell) (c : StoreCell) (before : List ℕ) (agents : ℕ) → AreCounted cells before agents → AreCounted (cells ++ c ∷ []) (before ++ agents ∷ []) (agents + one_of c)
counted_last cells c before agents h =
    let many = h.many in
    let size = length-append cells (c ∷ []) in
    let counts = length-append before (agents ∷ []) in
    record {
      many = omega (arith, many, size, counts);
      each = λ k lt. go k (nat_lt k (length before)) refl (omega (arith, lt, counts));
      all = ap (λ n. n + one_of c) h.all ∙ sym (agents_last cells c);
    }
  where
    go : (k : ℕ) (t : Bool) → nat_lt k (length before) ≡ t → k ≤ length before → get_or (before ++ agents ∷ []) k 0 ≡ agents_below (cells ++ c ∷ []) k
    go k true e le =
        let lt : k < length before = ltb-true k (length before) e in
        let many = h.many in
        get_or_append_left before (agents ∷ []) 0 k lt ∙ h.each k lt ∙ sym (agents_more cells c k (omega (arith, le, many)))
    go k false e le =
        let many = h.many in
        let end : length before ≡ k = grind (arith, nat_tests) in
        let all : k ≡ length cells = omega (arith, end, many) in
        get_or_push before agents 0 k end ∙ h.all ∙ ap (agents_below cells) (sym all) ∙ sym (agents_more cells c k (omega (arith, all)))

-- one more cell
pub counted_next : (cells : List StoreCell) (i : ℕ) (c : StoreCell) (before more : List ℕ) (agents n : ℕ) → i < length cells → c ≡ get_or cells i c → more ≡ before ++ agents ∷ [] → n ≡ one_of c
    → AreCounted (take i cells) before agents → AreCounted (take (i + 1) cells) more (agents + n)
counted_next cells i c before more agents n lt at is one h =
    subst (λ l. AreCounted l more (agents + n)) (sym (take_more cells i c lt ∙ ap (λ y. take i cells ++ y ∷ []) (sym at)))
    (subst (λ l. AreCounted (take i cells ++ c ∷ []) l (agents + n)) (sym is)
    (subst (λ m. AreCounted (take i cells ++ c ∷ []) (before ++ agents ∷ []) (agents + m)) (sym one) (counted_last (take i cells) c before agents h)))

-- no cell counts for more than one
pub one_few : (c : StoreCell) → one_of c ≤ 1
one_few c = go (same_kind c.kind Agent)
  where
    go : (t : Bool) → (if t then 1 else 0) ≤ 1
    go true = omega arith
    go false = omega arith
