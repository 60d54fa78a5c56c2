-- Worlds after the first events of a book, and what stands at an entry's place.
use Rattle.std.proofs.Common.{◌≡◌, ◌≤◌, ℕ, zero, suc, Bool, true, false, ◌&&◌, ◌||◌, ◌==◌, nat_le, List, [], ◌∷◌, ◌++◌, if◌then◌else◌, length, take, drop, map, Option, Some, None, refl, sym, ap, ◌∙◌, subst, arith}
use Rattle.std.proofs.lemmas.Bool.{false≢true}
use Rattle.std.proofs.lemmas.Bool.Decides.{nat_tests}
use Rattle.std.proofs.lemmas.List.{length-take-le}
use Rattle.txs_world_protocol.specs.declared.event.Event.{Event}
use Rattle.txs_world_protocol.specs.declared.event.EventKind.{EventKind}
use Rattle.txs_world_protocol.specs.declared.event.EventKind.TheVariants.{Read, Commit, Retry, Fail, Refused, Send, SendRefused, Act, Swap, Broke}
use Rattle.txs_value_data.proofs.SameLemmas.{and_both}
use Rattle.txs_value_cell.specs.Cells.{World}
use Rattle.txs_value_data.specs.Places.{nth}
use Rattle.txs_value_data.specs.declared.value.CellId.{CellId}
use Rattle.txs_value_data.specs.declared.value.Value.{Value}
use Rattle.txs_frame.specs.Frame.{has_number}
use Rattle.txs_theorem_threads.specs.RepliesFit.{Gives, AgreeOn}
use Rattle.txs_world_protocol.specs.Ask.{Writes}
use Rattle.txs_world_book.specs.Atom.{atom_after, swapped_to, is_swap, swapped_since}
use Rattle.txs_world_book.specs.Book.{changed, value_or, is_there, after, newest, written, least, least_written, cells_in, all_before, may_name, may_end}
use Rattle.txs_world_book.specs.Laws.{UnwrittenStays}

pub length_taken : {A : Type 0} (k : ℕ) (xs : List A) → k ≤ length xs → length (take k xs) ≡ k
length_taken k xs le = length-take-le k xs le

-- the first events alone make the world
pub after_taken : (w : World) (es : List Event) (k p : ℕ) → p ≤ k → after w (take k es) p ≡ after w es p
after_taken w [] zero p le = refl
after_taken w [] (suc k) p le = refl
after_taken w (e ∷ es) zero zero le = refl
after_taken w (e ∷ es) zero (suc p) le = absurd (omega (arith, le))
after_taken w (e ∷ es) (suc k) zero le = refl
after_taken w (e ∷ es) (suc k) (suc p) le = after_taken (changed e.kind w) es k p (omega (arith, le))

pub newest_taken : (w : World) (es : List Event) (k : ℕ) → k ≤ length es → newest w (take k es) ≡ after w es k
newest_taken w es k le = ap (after w (take k es)) (length_taken k es le) ∙ after_taken w es k k (omega arith)

pub atom_taken : (v : Value) (es : List Event) (k p : ℕ) → p ≤ k → atom_after v (take k es) p ≡ atom_after v es p
atom_taken v [] zero p le = refl
atom_taken v [] (suc k) p le = refl
atom_taken v (e ∷ es) zero zero le = refl
atom_taken v (e ∷ es) zero (suc p) le = absurd (omega (arith, le))
atom_taken v (e ∷ es) (suc k) zero le = refl
atom_taken v (e ∷ es) (suc k) (suc p) le = atom_taken (value_or (swapped_to e.kind) v) es k p (omega (arith, le))

pub atom_newest_taken : (v : Value) (es : List Event) (k : ℕ) → k ≤ length es → atom_after v (take k es) (length (take k es)) ≡ atom_after v es k
atom_newest_taken v es k le = ap (atom_after v (take k es)) (length_taken k es le) ∙ atom_taken v es k k (omega arith)

neither : (a b : Bool) → (a || b) ≡ false → (a ≡ false) × (b ≡ false)
neither true b h = absurd (false≢true (sym h))
neither false b h = (refl, h)

-- an atom that wasn't swapped since has its value of then
pub atom_unswapped : (v : Value) (es : List Event) (p : ℕ) → swapped_since p es ≡ false → atom_after v es (length es) ≡ atom_after v es p
atom_unswapped v [] p h = refl
atom_unswapped v (e ∷ es) (suc p) h = atom_unswapped (value_or (swapped_to e.kind) v) es p h
atom_unswapped v (e ∷ es) zero h =
    let g = neither (is_swap e.kind) (swapped_since 0 es) h in
    atom_unswapped (value_or (swapped_to e.kind) v) es 0 g.1 ∙ first (value_or (swapped_to e.kind) v) es ∙ quiet e.kind g.0
  where
    first : (u : Value) (fs : List Event) → atom_after u fs 0 ≡ u
    first u [] = refl
    first u (f ∷ fs) = refl

    quiet : (d : EventKind) → is_swap d ≡ false → value_or (swapped_to d) v ≡ v
    quiet (Read c) i = refl
    quiet (Commit at view ws sends) i = refl
    quiet (Retry since c cause) i = refl
    quiet (Fail at view) i = refl
    quiet (Refused at view g) i = refl
    quiet (Send x) i = refl
    quiet (SendRefused g) i = refl
    quiet (Act g n new sends) i = refl
    quiet (Swap new) i = absurd (false≢true (sym i))
    quiet (Broke at) i = refl

-- what was added behind the first events stands there
pub stands_there : (es : List Event) (k : ℕ) (e : Event) → k ≤ length es → take (length (take k es ++ e ∷ [])) es ≡ take k es ++ e ∷ [] → nth es k ≡ Some e
stands_there [] zero e le h = absurd (subst is_empty h tt)
  where
    is_empty : List Event → Type 0
    is_empty [] = Unit {0}
    is_empty (x ∷ xs) = ⊥
stands_there [] (suc k) e le h = absurd (omega (arith, le))
stands_there (d ∷ es) zero e le h = ap (λ l. nth l 0) h
stands_there (d ∷ es) (suc k) e le h = stands_there es k e (omega (arith, le)) (ap (drop 1) h)

-- a place that may be named is one of the events' or their end
pub named : (all : Bool) (done : List Event) (a p : ℕ) → may_name all done a p ≡ true → p ≤ length done
named all done a p h = let le : nat_le p (length done) ≡ true = (and_both (nat_le p (length done)) (all_before all a p done) h).0 in grind (arith, nat_tests, le)

-- so are a read point and a view
pub ended : (done : List Event) (a at view : ℕ) → may_end done a at view ≡ true → (at ≤ length done) × (view ≤ length done)
ended done a at view h =
    let g = and_both (nat_le at view) (may_name false done a at && may_name true done a view) h in
    let n = and_both (may_name false done a at) (may_name true done a view) g.1 in
    (named false done a at n.0, named true done a view n.1)

-- the values of a view
pub gives_all : (w : World) (cs : List CellId) → Gives w cs (map (λ c. w c.number) cs)
gives_all w [] = tt
gives_all w (c ∷ cs) = (refl, gives_all w cs)

abbrev is_none : Option CellId → Type 0
is_none None = Unit {0}
is_none (Some c) = ⊥

one_is_least : (c : CellId) (o : Option CellId) → least (Some c) o ≡ None → ⊥
one_is_least c None h = subst is_none (sym h) tt
one_is_least c (Some d) h = pick (nat_le c.number d.number) h
  where
    pick : (b : Bool) → (if b then Some c else Some d) ≡ None → ⊥
    pick true h = subst is_none (sym h) tt
    pick false h = subst is_none (sym h) tt

-- refs that weren't written since a view have the values of the view
pub unwritten_agree : UnwrittenStays → (w : World) (done : List Event) (view : ℕ) (ws : Writes) → least_written done view (cells_in ws) ≡ None → AgreeOn ws (after w done view) (after w done (length done))
unwritten_agree stays w done view [] h = tt
unwritten_agree stays w done view (x ∷ ws) h = go (unwritten_agree stays w done view ws) (written x.0.number view done) refl h
  where
    go : (least_written done view (cells_in ws) ≡ None → AgreeOn ws (after w done view) (after w done (length done))) → (b : Bool) → written x.0.number view done ≡ b
        → (if b then least (Some x.0) (least_written done view (cells_in ws)) else least_written done view (cells_in ws)) ≡ None → AgreeOn (x ∷ ws) (after w done view) (after w done (length done))
    go more true e i = absurd (one_is_least x.0 (least_written done view (cells_in ws)) i)
    go more false e i = (sym (stays w done view x.0.number e), more i)

-- what is found among refs is one of them
pub least_among : (book : List Event) (p : ℕ) (cs : List CellId) (d : CellId) → least_written book p cs ≡ Some d → has_number cs d.number ≡ true
least_among book p [] d h = absurd (false≢true (ap is_there h))
least_among book p (c ∷ cs) d h = go (written c.number p book) (least_written book p cs) (λ x e. least_among book p cs x e) h
  where
    behind : (b t : Bool) → t ≡ true → (b || t) ≡ true
    behind true t e = refl
    behind false t e = e

    some_same : (x y : CellId) → Some x ≡ Some y → x ≡ y
    some_same x y e = cc

    itself : (n : ℕ) → (n == n) ≡ true
    itself n = grind (arith, nat_tests)

    first : Some c ≡ Some d → (c.number == d.number || has_number cs d.number) ≡ true
    first e = subst (λ (x : CellId). (c.number == x.number || has_number cs x.number) ≡ true) (some_same c d e) (ap (λ b. b || has_number cs c.number) (itself c.number))

    picked : (t : Bool) (x : CellId) → ((y : CellId) → Some x ≡ Some y → has_number cs y.number ≡ true) → (if t then Some c else Some x) ≡ Some d → (c.number == d.number || has_number cs d.number) ≡ true
    picked true x f e = first e
    picked false x f e = behind (c.number == d.number) (has_number cs d.number) (f d e)

    go : (t : Bool) (o : Option CellId) → ((x : CellId) → o ≡ Some x → has_number cs x.number ≡ true) → (if t then least (Some c) o else o) ≡ Some d → (c.number == d.number || has_number cs d.number) ≡ true
    go false o f e = behind (c.number == d.number) (has_number cs d.number) (f d e)
    go true None f e = first e
    go true (Some x) f e = picked (nat_le c.number x.number) x f e
