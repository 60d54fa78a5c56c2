-- An act that an agent's trace names is of that agent.
use Rattle.std.proofs.Common.{◌≡◌, ◌<◌, ℕ, zero, suc, ◌+◌, ◌==◌, ◌||◌, Bool, true, false, List, [], ◌∷◌, ◌++◌, length, take, Some, Result, refl, sym, ap, ◌∙◌, subst, arith, if◌then◌else◌}
use Rattle.std.proofs.lemmas.Bool.{eqb-true, false≢true}
use Rattle.txs_value_data.specs.Places.{nth}
use Rattle.txs_value_data.specs.declared.fault.Fault.{Fault}
use Rattle.txs_value_cell.specs.Agents.{agents_from}
use Rattle.txs_value_cell.specs.declared.action.Action.{Action}
use Rattle.txs_value_data.specs.declared.value.CellId.{CellId}
use Rattle.txs_value_data.specs.declared.value.Value.{Value}
use Rattle.txs_world_protocol.specs.declared.event.Event.{Event}
use Rattle.txs_world_protocol.specs.declared.event.EventKind.TheVariants.{Act}
use Rattle.txs_world_book.specs.Atom.{LegalAtomKind}
use Rattle.txs_world_book.specs.Book.{LegalKind, actor_of, agents_below, has_agent, makes}
use Rattle.txs_world_book.specs.Served.{cells_of}
use Rattle.txs_tree_meaning.specs.Tree.{PlainProgram}
use Rattle.txs_theorem_runs.specs.Told.{Place, TraceHolds, places_by, places_in}
use Rattle.txs_theorem_serial.specs.Order.{book_or_none}
use Rattle.txs_theorem_audit.specs.Audited.{PlainActorReport, PlainReport, books_of, Fine}
use Rattle.txs_theorem_audit.specs.Verdict.{atoms_from, atoms_found, fits_sizes, store_found, traces_found}
use Rattle.txs_theorem_audit.proofs.Agreeing.{among_first, among_more, atoms_mean, sized_of, store_legal, traces_hold}
use Rattle.txs_theorem_audit.proofs.Findings.{not_there}
use Rattle.txs_theorem_audit.proofs.Listing.{agent_listed, among, behind, each_one, listed_home, there_is}

-- ---- the actor of an event that a trace names

differ : (m k : ℕ) → k < m → (m == k) ≡ false
differ m k lt = go (m == k) refl
  where
    go : (b : Bool) → (m == k) ≡ b → (m == k) ≡ false
    go true e = let same = eqb-true m k e in absurd (omega (arith, same, lt))
    go false e = e

-- an index before these events isn't among an actor's
not_before : (a from : ℕ) (es : List Event) (k : ℕ) → k < from → among k (places_by a from es) ≡ false
not_before a from [] k lt = refl
not_before a from (d ∷ es) k lt = go (d.actor == a) (not_before a (suc from) es k (omega (arith, lt)))
  where
    go : (b : Bool) → among k (places_by a (suc from) es) ≡ false → among k (if b then from ∷ places_by a (suc from) es else places_by a (suc from) es) ≡ false
    go true h = ap (λ c. c || among k (places_by a (suc from) es)) (differ from k lt) ∙ h
    go false h = h

-- an event whose index is among an actor's is the actor's
by_actor : (a from : ℕ) (es : List Event) (j : ℕ) (e : Event) → nth es j ≡ Some e → among (from + j) (places_by a from es) ≡ true → e.actor ≡ a
by_actor a from [] j e there h = not_there there
by_actor a from (d ∷ es) zero e there h = go (d.actor == a) refl h
  where
    same : d ≡ e
    same = cc

    go : (b : Bool) → (d.actor == a) ≡ b → among (from + 0) (if b then from ∷ places_by a (suc from) es else places_by a (suc from) es) ≡ true → e.actor ≡ a
    go true i l = ap (λ (x : Event). x.actor) (sym same) ∙ eqb-true d.actor a i
    go false i l = absurd (false≢true (sym (not_before a (suc from) es (from + 0) (omega arith)) ∙ l))
by_actor a from (d ∷ es) (suc j) e there h =
    let n : from + suc j ≡ suc from + j = omega arith in
    go (d.actor == a) h (λ l. by_actor a (suc from) es j e there (subst (λ k. among k (places_by a (suc from) es) ≡ true) n l))
  where
    go : (b : Bool) → among (from + suc j) (if b then from ∷ places_by a (suc from) es else places_by a (suc from) es) ≡ true → (among (from + suc j) (places_by a (suc from) es) ≡ true → e.actor ≡ a) → e.actor ≡ a
    go true l rest = rest (ap (λ c. c || among (from + suc j) (places_by a (suc from) es)) (sym (equal from j)) ∙ l)
      where
        equal : (m i : ℕ) → (m == m + suc i) ≡ false
        equal m i = test (m == m + suc i) refl
          where
            test : (c : Bool) → (m == m + suc i) ≡ c → (m == m + suc i) ≡ false
            test true k = let e = eqb-true m (m + suc i) k in absurd (omega (arith, e))
            test false k = k
    go false l rest = rest l

-- an entry of a trace is among those of its book
among_entry : (trace : List Place) (k : ℕ) (q : Place) → nth trace k ≡ Some q → among q.at (places_in q.book trace) ≡ true
among_entry [] k q there = not_there there
among_entry (x ∷ xs) zero q there = let same : x ≡ q = cc in subst (λ (y : Place). among q.at (places_in q.book (y ∷ xs)) ≡ true) (sym same) (among_first q xs)
among_entry (x ∷ xs) (suc k) q there = among_more q.at q.book x xs (among_entry xs k q there)

entry_actor : (books : ℕ → List Event) (a : ℕ) (trace : List Place) → TraceHolds books a trace → (k : ℕ) (q : Place) → nth trace k ≡ Some q → (e : Event) → nth (books q.book) q.at ≡ Some e → e.actor ≡ a
entry_actor books a trace holds k q here e there =
    let z : q.at ≡ 0 + q.at = omega arith in
    by_actor a 0 (books q.book) q.at e there (subst (λ m. among m (places_by a 0 (books q.book)) ≡ true) z (subst (λ l. among q.at l ≡ true) (holds q.book) (among_entry trace k q here)))

-- ---- acts in legal books

no_book : (books : List (List Event)) (m at : ℕ) (e : Event) → nth (book_or_none (nth books m)) at ≡ Some e → m < length books
no_book [] m at e h = not_there h
no_book (x ∷ xs) zero at e h = omega arith
no_book (x ∷ xs) (suc m) at e h = let lt = no_book xs m at e h in omega (arith, lt)

-- who did an act: the actor of its agent, which is an agent of the program
abbrev IsActs : PlainProgram → CellId → ℕ → Type 0
IsActs p h actor = (has_agent (cells_of p.cells) h ≡ true) × (actor ≡ length p.threads + agents_below (cells_of p.cells) h.number)

module _ (p : PlainProgram) (r : PlainReport) (fits : fits_sizes p r ≡ true) (store : store_found p r ≡ Fine) (atoms : atoms_found p r (atoms_from 0 p.cells) ≡ Fine)
    (at : ℕ) (e : Event) (h : CellId) (n : ℕ) (new : Result Value Fault) (sends : List Action) (is : e.kind ≡ Act h n new sends) where
  in_store : nth r.book at ≡ Some e → IsActs p h e.actor
  in_store there =
      let legal = store_legal p r store in
      let made = each_one (λ done d. makes (cells_of p.cells) (length p.threads) d.actor d.kind ≡ true) [] r.book legal.made at e there in
      let kind = each_one (λ done d. LegalKind (cells_of p.cells) done d.actor d.kind) [] r.book legal.each at e there in
      let its : LegalKind (cells_of p.cells) ([] ++ take at r.book) e.actor (Act h n new sends) = subst (LegalKind (cells_of p.cells) ([] ++ take at r.book) e.actor) is kind in
      (its.0, eqb-true e.actor (actor_of (length p.threads) (cells_of p.cells) h) (subst (λ d. makes (cells_of p.cells) (length p.threads) e.actor d ≡ true) is made))

  in_atom : (m : ℕ) → nth (books_of r (suc m)) at ≡ Some e → IsActs p h e.actor
  in_atom m there =
      let lt = no_book r.atom_books m at e there in
      let many = (sized_of p r fits).atoms in
      let c = there_is (atoms_from 0 p.cells) m (omega (arith, lt, many)) in
      let legal = (atoms_mean p r (atoms_from 0 p.cells) atoms m c.0 c.1).legal in
      let home_is = listed_home p.cells m c.0 c.1 in
      let kind = each_one (λ done d. LegalAtomKind c.0 done d.actor d.kind) [] _ legal.each at e (ap (λ b. nth (books_of r b) at) home_is ∙ there) in
      absurd (subst (LegalAtomKind c.0 _ e.actor) is kind)

  in_book : (b : ℕ) → nth (books_of r b) at ≡ Some e → IsActs p h e.actor
  in_book zero there = in_store there
  in_book (suc m) there = in_atom m there

same_member : {A : Type 0} (x y : A) → Some x ≡ Some y → x ≡ y
same_member x y e = cc

-- an act that the trace of the i-th agent names is of that agent
pub own_act : (p : PlainProgram) (r : PlainReport) → fits_sizes p r ≡ true → traces_found (books_of r) (suc (length r.atom_books)) 0 (r.threads ++ r.agents) ≡ Fine → store_found p r ≡ Fine → atoms_found p r (atoms_from 0 p.cells) ≡ Fine
    → (i : ℕ) (g : CellId) (ran : PlainActorReport) → nth (agents_from 0 p.cells) i ≡ Some g → nth r.agents i ≡ Some ran → (k : ℕ) (q : Place) → nth ran.trace k ≡ Some q → (e : Event) → nth (books_of r q.book) q.at ≡ Some e
    → (h : CellId) (n : ℕ) (new : Result Value Fault) (sends : List Action) → e.kind ≡ Act h n new sends → h ≡ g
own_act p r fits traces store atoms i g ran agent entry k q here e there h n new sends is =
    let holds = traces_hold r 0 (r.threads ++ r.agents) traces (length r.threads + i) ran (behind r.threads r.agents i ∙ entry) in
    let actor = entry_actor (books_of r) (0 + (length r.threads + i)) ran.trace holds k q here e there in
    let acts = in_book p r fits store atoms q.at e h n new sends is q.book there in
    let threads = (sized_of p r fits).threads in
    let its = acts.1 in
    let same : agents_below (cells_of p.cells) h.number ≡ i = omega (arith, actor, its, threads) in
    same_member h g (sym (agent_listed p.cells h acts.0) ∙ ap (nth (agents_from 0 p.cells)) same ∙ agent)
