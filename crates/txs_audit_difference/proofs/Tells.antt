-- Something is told exactly where an audit differs, and of that place.
use Rattle.std.specs.Prelude.{nat_lt}
use Rattle.std.proofs.Common.{◌≡◌, ℕ, suc, ◌-◌, Result, Bool, true, false, ◌&&◌, if◌then◌else◌, take, drop, List, [], ◌∷◌, ◌++◌, length, Option, Some, None, refl, sym, ap, ◌∙◌, subst}
use Rattle.txs_value_data.specs.Places.{nth}
use Rattle.txs_value_cell.specs.Agents.{agents_from}
use Rattle.txs_value_cell.specs.declared.action.Action.{Action}
use Rattle.txs_value_data.specs.declared.fault.Fault.{Fault}
use Rattle.txs_value_data.specs.declared.value.CellId.{CellId}
use Rattle.txs_value_data.specs.declared.value.Value.{Value}
use Rattle.txs_world_protocol.specs.SeenEvent.{home}
use Rattle.txs_world_protocol.specs.declared.event.Event.{Event}
use Rattle.txs_world_protocol.specs.declared.event.EventKind.{EventKind}
use Rattle.txs_world_protocol.specs.declared.event.EventKind.TheVariants.{Read, Commit, Retry, Fail, Refused, Send, SendRefused, Act, Swap, Broke}
use Rattle.txs_world_book.specs.Book.{actors, makes}
use Rattle.txs_world_book.specs.Served.{cells_of}
use Rattle.txs_world.specs.Store.{next_action}
use Rattle.txs_theorem_runs.specs.Told.{Place}
use Rattle.txs_tree_meaning.specs.Tree.{PlainProgram}
use Rattle.txs_theorem_audit.specs.Audited.{PlainActorReport, PlainReport, PlainTerms, books_of, entry_of, Verdict, Agrees, Differs, Undecided, Finding, Fine, Off, Short, and_then, answer, check}
use Rattle.txs_theorem_audit.specs.Pieces.{Piece, PiecesAreAll, OfThread, OfAct, OfEnd, acts_print, part_of, piece_finding, pieces_finding, pieces_of, pieces_serial}
use Rattle.txs_theorem_audit.specs.Verdict.{has_failed, has_values, index_if, is_legal_kind, is_legal_swap, is_value, length_if, agents_found, agents_serial, are_serial, atom_found, atoms_found, atoms_from, begins, book_found, ends_found, fits_sizes, is_full_stop, is_stopped, order_found, store_found, threads_found, traces_found, verdict}
use Rattle.txs_theorem_audit.proofs.Findings.{check_fine}
use Rattle.txs_audit_book.specs.Judged.{is_fine}
use Rattle.txs_audit_difference.specs.Difference.{ToldWhereItDiffers, difference_of, atom_leaves, atom_what, illegal_at, left_what, stopped_what_in, actors_told, all_told, atom_told, atoms_told, book_told, books_told, difference_in, first, order_told, pieces_told, place_of, store_told, tells}
use Rattle.txs_audit_event.specs.Lines.{printed_what}
use Rattle.txs_audit_difference.specs.Pieces.{act_what, at_event, act_what_at, act_what_in, end_of_agent, end_what_in, kind_what, over_what, piece_what, still_what}
use Rattle.txs_audit_difference.specs.declared.told.Told.{Told}
use Rattle.txs_audit_difference.specs.declared.told.Told.TheVariants as told
use Rattle.txs_audit_difference.specs.declared.told.Difference.{Difference}
use Rattle.txs_audit_event.specs.declared.what.What.TheVariants as what

-- ---- what is told, and what is found

-- this is told of what was found: of the same place, where something differs
abbrev pub Of : Told → Finding → Type 0
Of told.Clear Fine = Unit {0}
Of told.Clear (Off a i) = ⊥
Of told.Clear (Short a i) = ⊥
Of told.Open Fine = ⊥
Of told.Open (Off a i) = ⊥
Of told.Open (Short a i) = Unit {0}
Of (told.So d) Fine = ⊥
Of (told.So d) (Off a i) = (d.actor ≡ a) × (d.event ≡ i)
Of (told.So d) (Short a i) = ⊥

of_both : (t u : Told) (f g : Finding) → Of t f → Of u g → Of (first t u) (and_then f g)
of_both told.Clear u Fine g h k = k
of_both told.Clear u (Off a i) g h k = absurd h
of_both told.Clear u (Short a i) g h k = absurd h
of_both told.Open u Fine g h k = absurd h
of_both told.Open u (Off a i) g h k = absurd h
of_both told.Open u (Short a i) g h k = tt
of_both (told.So d) u Fine g h k = absurd h
of_both (told.So d) u (Off a i) g h k = h
of_both (told.So d) u (Short a i) g h k = absurd h

-- it is told of the place that is asked for
abbrev Placed : (ℕ → ℕ → Difference) → Type 0
Placed d = (a i : ℕ) → ((d a i).actor ≡ a) × ((d a i).event ≡ i)

of_test : (d : ℕ → ℕ → Difference) → Placed d → (f : Finding) → Of (tells d f) f
of_test d h Fine = tt
of_test d h (Off a i) = h a i
of_test d h (Short a i) = tt

-- ---- pieces

module _ (p : PlainProgram) (r : PlainReport) (n : ℕ) where
  over_placed : (i : ℕ) (done : List Event) (g : CellId) (since : List Place) (new : Result Value Fault) (sends : List Action) (x : Option Action) → Placed (λ a j. over_what p r n a j i done g since new sends x)
  over_placed i done g since new sends None a j = (refl, refl)
  over_placed i done g since new sends (Some x) a j = (refl, refl)

  kind_placed : (since : List Place) (k : ℕ) (q : Place) (kind : EventKind) → Placed (λ a j. kind_what p r n a j since k q kind)
  kind_placed since k q (Act g number new sends) a j =
      over_placed (j - (k - length since)) (take q.at (books_of r q.book)) g since new sends (next_action (cells_of p.cells) (take q.at (books_of r q.book)) g) a j
  kind_placed since k q (Read c) a j = (refl, refl)
  kind_placed since k q (Commit at view ws sends) a j = (refl, refl)
  kind_placed since k q (Retry at c cause) a j = (refl, refl)
  kind_placed since k q (Fail at view) a j = (refl, refl)
  kind_placed since k q (Refused at view g) a j = (refl, refl)
  kind_placed since k q (Send x) a j = (refl, refl)
  kind_placed since k q (SendRefused g) a j = (refl, refl)
  kind_placed since k q (Swap new) a j = (refl, refl)
  kind_placed since k q (Broke at) a j = (refl, refl)

  act_placed : (since : List Place) (k : ℕ) (q : Place) (o : Option Event) → Placed (λ a j. act_what p r n a j since k q o)
  act_placed since k q None a j = (refl, refl)
  act_placed since k q (Some e) a j = kind_placed since k q e.kind a j

  act_at_placed : (i k : ℕ) (ran : PlainActorReport) (o : Option Place) → Placed (λ a j. act_what_at p r n a j i k ran o)
  act_at_placed i k ran None a j = (refl, refl)
  act_at_placed i k ran (Some q) a j = act_placed (part_of i k ran.trace) k q (nth (books_of r q.book) q.at) a j

  act_in_placed : (i k : ℕ) (o : Option PlainActorReport) → Placed (λ a j. act_what_in p r n a j i k o)
  act_in_placed i k None a j = (refl, refl)
  act_in_placed i k (Some ran) a j = act_at_placed i k ran (nth ran.trace k) a j

  still_placed : (full : Bool) (i : ℕ) (g : CellId) (since : List Place) (outs out : List ℕ) (x : Option Action) → Placed (λ a j. still_what p r n full a j i g since outs out x)
  still_placed full i g since outs out None a j = (refl, refl)
  still_placed full i g since outs out (Some x) a j = (refl, refl)

  end_placed : (g : CellId) (since : List Place) (outs : List ℕ) (ran : PlainActorReport) → Placed (λ a j. end_of_agent p r n a j g since outs ran)
  end_placed g since outs ran a j = stops (is_stopped ran.outcome)
    where
      begun : (b : Bool) → let d = (if b then still_what p r n (is_full_stop ran.outcome) a j (j - (length ran.trace - length since)) g since outs ran.printed (next_action (cells_of p.cells) r.book g) else at_event (printed_what outs ran.printed) a j) in (d.actor ≡ a) × (d.event ≡ j)
      begun true = still_placed (is_full_stop ran.outcome) (j - (length ran.trace - length since)) g since outs ran.printed (next_action (cells_of p.cells) r.book g) a j
      begun false = (refl, refl)

      stops : (b : Bool)
          → let d = (if b then (if begins outs ran.printed then still_what p r n (is_full_stop ran.outcome) a j (j - (length ran.trace - length since)) g since outs ran.printed (next_action (cells_of p.cells) r.book g) else at_event (printed_what outs ran.printed) a j) else at_event (what.Ended None ran.outcome) a j) in
          (d.actor ≡ a) × (d.event ≡ j)
      stops true = begun (begins outs ran.printed)
      stops false = (refl, refl)

  end_in_placed : (i : ℕ) (g : Option CellId) (o : Option PlainActorReport) → Placed (λ a j. end_what_in p r n a j i g o)
  end_in_placed i None o a j = (refl, refl)
  end_in_placed i (Some g) None a j = (refl, refl)
  end_in_placed i (Some g) (Some ran) a j = end_placed g (drop i ran.trace) (acts_print p r n [] ran.trace) ran a j

  piece_placed : (x : Piece) → Placed (piece_what p r n x)
  piece_placed (OfThread i) a j = (refl, refl)
  piece_placed (OfAct i from at) a j = act_in_placed from at (nth r.agents i) a j
  piece_placed (OfEnd i from) a j = end_in_placed from (nth (agents_from 0 p.cells) i) (nth r.agents i) a j

  pub of_pieces : (xs : List Piece) → Of (pieces_told p r n xs) (pieces_finding p r n xs)
  of_pieces [] = tt
  of_pieces (x ∷ xs) = of_both (tells (piece_what p r n x) (piece_finding p r n x)) (pieces_told p r n xs) (piece_finding p r n x) (pieces_finding p r n xs) (of_test (piece_what p r n x) (piece_placed x) (piece_finding p r n x)) (of_pieces xs)

-- ---- books

of_book : (test : List Event → Event → Bool) (index : ℕ → ℕ → ℕ) (b : ℕ) (book : List Event) → Of (book_told test index b book) (book_found test index [] book)
of_book test index b book = of_test (at_event (what.Illegal b (illegal_at test book))) (λ a i. (refl, refl)) (book_found test index [] book)

module _ (p : PlainProgram) (r : PlainReport) where
  abbrev pub store_is : List Event → Event → Bool
  store_is done e = makes (cells_of p.cells) (length p.threads) e.actor e.kind && is_legal_kind (cells_of p.cells) done e.actor e.kind

  abbrev pub store_at : ℕ → ℕ → ℕ
  store_at a k = index_if 0 k (entry_of r a)

  abbrev pub store_leaves : Finding
  store_leaves = check (has_values p.cells r 0 p.cells r.cells && has_failed (cells_of p.cells) r.book (agents_from 0 p.cells) r.failed) 0 (length_if (entry_of r 0))

  of_store : Of (store_told p r) (store_found p r)
  of_store =
      of_both (book_told store_is store_at 0 r.book) (tells (at_event (left_what p r)) store_leaves) (book_found store_is store_at [] r.book) store_leaves (of_book store_is store_at 0 r.book)
      (of_test (at_event (left_what p r)) (λ a i. (refl, refl)) store_leaves)

  module _ (c : CellId) where
    abbrev pub atom_is : List Event → Event → Bool
    atom_is done e = nat_lt e.actor (actors (length p.threads) (cells_of p.cells)) && is_legal_swap c done e.actor e.kind

    abbrev pub atom_at : ℕ → ℕ → ℕ
    atom_at a k = index_if (home p.cells c) k (entry_of r a)

    abbrev pub atom_has : Finding
    atom_has = check (is_value (atom_leaves p r c) (nth r.cells c.number)) 0 (length_if (entry_of r 0))

    abbrev pub atom_differs : ℕ → ℕ → Difference
    atom_differs = at_event (atom_what c (atom_leaves p r c) (nth r.cells c.number))

    of_atom : Of (atom_told p r c) (atom_found p r c)
    of_atom =
        of_both (book_told atom_is atom_at (home p.cells c) (books_of r (home p.cells c))) (tells atom_differs atom_has) (book_found atom_is atom_at [] (books_of r (home p.cells c))) atom_has (of_book atom_is atom_at (home p.cells c) (books_of r (home p.cells c)))
        (of_test atom_differs (λ a i. (refl, refl)) atom_has)

  of_atoms : (cs : List CellId) → Of (atoms_told p r cs) (atoms_found p r cs)
  of_atoms [] = tt
  of_atoms (c ∷ cs) = of_both (atom_told p r c) (atoms_told p r cs) (atom_found p r c) (atoms_found p r cs) (of_atom c) (of_atoms cs)

-- ---- all

-- what the tests find, where the last of them go through the pieces
abbrev found_by : PlainProgram → PlainTerms → PlainReport → ℕ → Finding
found_by p w r n =
    and_then (check (fits_sizes p r) 0 0)
    (and_then (traces_found (books_of r) (suc (length r.atom_books)) 0 (r.threads ++ r.agents))
    (and_then (and_then (store_found p r) (atoms_found p r (atoms_from 0 p.cells)))
    (and_then (ends_found p w r) (and_then (order_found p r) (pieces_finding p r n (pieces_of r))))))

module _ (p : PlainProgram) (w : PlainTerms) (r : PlainReport) (n : ℕ) where
  abbrev sizes : Finding
  sizes = check (fits_sizes p r) 0 0

  abbrev traces : Finding
  traces = traces_found (books_of r) (suc (length r.atom_books)) 0 (r.threads ++ r.agents)

  abbrev books_found : Finding
  books_found = and_then (store_found p r) (atoms_found p r (atoms_from 0 p.cells))

  abbrev last_found : Finding
  last_found = and_then (order_found p r) (pieces_finding p r n (pieces_of r))

  of_order : Of (order_told p r n) last_found
  of_order = of_both (tells (at_event what.Order) (order_found p r)) (pieces_told p r n (pieces_of r)) (order_found p r) (pieces_finding p r n (pieces_of r)) (of_test (at_event what.Order) (λ a i. (refl, refl)) (order_found p r)) (of_pieces p r n (pieces_of r))

  abbrev stops : ℕ → ℕ → Difference
  stops a i = at_event (stopped_what_in w (entry_of r a)) a i

  of_actors : Of (actors_told p w r n) (and_then (ends_found p w r) last_found)
  of_actors = of_both (tells stops (ends_found p w r)) (order_told p r n) (ends_found p w r) last_found (of_test stops (λ a i. (refl, refl)) (ends_found p w r)) of_order

  pub of_books : Of (books_told p r) books_found
  of_books = of_both (store_told p r) (atoms_told p r (atoms_from 0 p.cells)) (store_found p r) (atoms_found p r (atoms_from 0 p.cells)) (of_store p r) (of_atoms p r (atoms_from 0 p.cells))

  pub of_behind : Of (first (books_told p r) (actors_told p w r n)) (and_then books_found (and_then (ends_found p w r) last_found))
  of_behind = of_both (books_told p r) (actors_told p w r n) books_found (and_then (ends_found p w r) last_found) of_books of_actors

  of_traces : Of (first (tells (at_event what.Trace) traces) (first (books_told p r) (actors_told p w r n))) (and_then traces (and_then books_found (and_then (ends_found p w r) last_found)))
  of_traces =
      of_both (tells (at_event what.Trace) traces) (first (books_told p r) (actors_told p w r n)) traces (and_then books_found (and_then (ends_found p w r) last_found)) (of_test (at_event what.Trace) (λ a i. (refl, refl)) traces) of_behind

  of_all : Of (all_told p w r n) (found_by p w r n)
  of_all =
      of_both (tells (at_event what.Sizes) sizes) (first (tells (at_event what.Trace) traces) (first (books_told p r) (actors_told p w r n))) sizes (and_then traces (and_then books_found (and_then (ends_found p w r) last_found)))
      (of_test (at_event what.Sizes) (λ a i. (refl, refl)) sizes) of_traces

-- what comes behind a test counts only where that is fine
behind : (f g h : Finding) (s t : Bool) → (f ≡ Fine → answer g s ≡ answer h t) → answer (and_then f g) s ≡ answer (and_then f h) t
behind Fine g h s t e = e refl
behind (Off a i) g h s t e = refl
behind (Short a i) g h s t e = refl

together : (f g h : Finding) → and_then (and_then f g) h ≡ and_then f (and_then g h)
together Fine g h = refl
together (Off a i) g h = refl
together (Short a i) g h = refl

module _ (law : PiecesAreAll) (p : PlainProgram) (w : PlainTerms) (r : PlainReport) (n : ℕ) where
  abbrev serial : Bool
  serial = are_serial p r n p.threads r.threads && agents_serial p r n (agents_from 0 p.cells) r.agents

  abbrev last : Finding
  last = and_then (threads_found p r n 0 p.threads r.threads) (agents_found p r n (length p.threads) (agents_from 0 p.cells) r.agents)

  abbrev covered : Bool
  covered = pieces_serial p r n (pieces_of r)

  abbrev F1 : Finding
  F1 = check (fits_sizes p r) 0 0

  abbrev F2 : Finding
  F2 = traces_found (books_of r) (suc (length r.atom_books)) 0 (r.threads ++ r.agents)

  abbrev F3 : Finding
  F3 = store_found p r

  abbrev F4 : Finding
  F4 = atoms_found p r (atoms_from 0 p.cells)

  abbrev F5 : Finding
  F5 = ends_found p w r

  abbrev F6 : Finding
  F6 = order_found p r

  abbrev ends_with : Finding → Finding → Finding → Finding → Finding → Finding → Finding → Verdict
  ends_with a b c d e f g = answer (and_then a (and_then b (and_then c (and_then d (and_then e (and_then f g)))))) serial

  at_last : F1 ≡ Fine → F2 ≡ Fine → F3 ≡ Fine → F4 ≡ Fine → F5 ≡ Fine → F6 ≡ Fine → answer last serial ≡ answer (pieces_finding p r n (pieces_of r)) covered
  at_last e1 e2 e3 e4 e5 e6 =
      sym
      (ap (λ x. ends_with x F2 F3 F4 F5 F6 last) e1 ∙ ap (λ x. ends_with Fine x F3 F4 F5 F6 last) e2 ∙ ap (λ x. ends_with Fine Fine x F4 F5 F6 last) e3 ∙ ap (λ x. ends_with Fine Fine Fine x F5 F6 last) e4
      ∙ ap (λ x. ends_with Fine Fine Fine Fine x F6 last) e5 ∙ ap (λ x. ends_with Fine Fine Fine Fine Fine x last) e6)
      ∙ law p w r n (check_fine (fits_sizes p r) 0 0 e1) e2 e3 e4 e5 e6

  abbrev R6 : Finding
  R6 = and_then F6 (pieces_finding p r n (pieces_of r))

  abbrev R5 : Finding
  R5 = and_then F5 R6

  abbrev L6 : Finding
  L6 = and_then F6 last

  abbrev L5 : Finding
  L5 = and_then F5 L6

  ends_so : F1 ≡ Fine → F2 ≡ Fine → F3 ≡ Fine → F4 ≡ Fine → answer L5 serial ≡ answer R5 covered
  ends_so e1 e2 e3 e4 = behind F5 L6 R6 serial covered (λ e5. behind F6 last (pieces_finding p r n (pieces_of r)) serial covered (λ e6. at_last e1 e2 e3 e4 e5 e6))

  books_so : F1 ≡ Fine → F2 ≡ Fine → answer (and_then F3 (and_then F4 L5)) serial ≡ answer (and_then (and_then F3 F4) R5) covered
  books_so e1 e2 =
      behind F3 (and_then F4 L5) (and_then F4 R5) serial covered (λ e3. behind F4 L5 R5 serial covered (λ e4. ends_so e1 e2 e3 e4)) ∙ ap (λ f. answer f covered) (sym (together F3 F4 R5))

  verdict_by : verdict p w r n ≡ answer (found_by p w r n) covered
  verdict_by =
      behind F1 (and_then F2 (and_then F3 (and_then F4 L5))) (and_then F2 (and_then (and_then F3 F4) R5)) serial covered
      (λ e1. behind F2 (and_then F3 (and_then F4 L5)) (and_then (and_then F3 F4) R5) serial covered (λ e2. books_so e1 e2))

-- ---- the law

abbrev place_in : Verdict → Option (ℕ × ℕ)
place_in (Agrees s) = None
place_in (Differs a i) = Some (a, i)
place_in (Undecided a i) = None

same_place : (t : Told) (f : Finding) (s : Bool) → Of t f → place_of (difference_in t) ≡ place_in (answer f s)
same_place told.Clear Fine s h = refl
same_place told.Clear (Off a i) s h = absurd h
same_place told.Clear (Short a i) s h = absurd h
same_place told.Open Fine s h = absurd h
same_place told.Open (Off a i) s h = absurd h
same_place told.Open (Short a i) s h = refl
same_place (told.So d) Fine s h = absurd h
same_place (told.So d) (Off a i) s h = ap (λ (x : ℕ). Some (x, d.event)) h.0 ∙ ap (λ (x : ℕ). Some (a, x)) h.1
same_place (told.So d) (Short a i) s h = absurd h

abbrev IsThere : Option (ℕ × ℕ) → Type 0
IsThere None = ⊥
IsThere (Some x) = Unit {0}

abbrev pair_in : Option (ℕ × ℕ) → ℕ × ℕ → ℕ × ℕ
pair_in None x = x
pair_in (Some y) x = y

differs_there : (v : Verdict) (a i : ℕ) → place_in v ≡ Some (a, i) → v ≡ Differs a i
differs_there (Agrees s) a i e = absurd (subst IsThere (sym e) tt)
differs_there (Differs b j) a i e = let x : (b, j) ≡ (a, i) = ap (λ o. pair_in o (a, i)) e in ap (λ (z : ℕ). Differs z j) (ap (λ (z : ℕ × ℕ). z.0) x) ∙ ap (λ (z : ℕ). Differs a z) (ap (λ (z : ℕ × ℕ). z.1) x)
differs_there (Undecided b j) a i e = absurd (subst IsThere (sym e) tt)

pub told_where : PiecesAreAll → ToldWhereItDiffers
told_where law p w r n a i =
    let here : place_of (difference_in (all_told p w r n)) ≡ place_in (verdict p w r n) = same_place (all_told p w r n) (found_by p w r n) (pieces_serial p r n (pieces_of r)) (of_all p w r n) ∙ ap place_in (sym (verdict_by law p w r n)) in
    ((λ e. here ∙ ap place_in e), (λ e. differs_there (verdict p w r n) a i (sym here ∙ e)))

-- ---- the tests, one after the other

module _ (p : PlainProgram) (w : PlainTerms) (r : PlainReport) (n : ℕ) where
  pub sizes_off : fits_sizes p r ≡ false → difference_of p w r n ≡ Some (at_event what.Sizes 0 0)
  sizes_off e =
      ap
      (λ b. difference_in
      (first (tells (at_event what.Sizes) (check b 0 0)) (first (tells (at_event what.Trace) (traces_found (books_of r) (suc (length r.atom_books)) 0 (r.threads ++ r.agents))) (first (books_told p r) (actors_told p w r n)))))
      e

  -- behind the sizes, where traces find this
  abbrev behind_sizes : Finding → Option Difference
  behind_sizes f = difference_in (first (tells (at_event what.Trace) f) (first (books_told p r) (actors_told p w r n)))

  sizes_fine : fits_sizes p r ≡ true → difference_of p w r n ≡ behind_sizes (traces_found (books_of r) (suc (length r.atom_books)) 0 (r.threads ++ r.agents))
  sizes_fine e =
      ap
      (λ b. difference_in
      (first (tells (at_event what.Sizes) (check b 0 0)) (first (tells (at_event what.Trace) (traces_found (books_of r) (suc (length r.atom_books)) 0 (r.threads ++ r.agents))) (first (books_told p r) (actors_told p w r n)))))
      e

  pub traces_off : (a i : ℕ) → fits_sizes p r ≡ true → traces_found (books_of r) (suc (length r.atom_books)) 0 (r.threads ++ r.agents) ≡ Off a i → difference_of p w r n ≡ Some (at_event what.Trace a i)
  traces_off a i fits e = sizes_fine fits ∙ ap behind_sizes e

  pub traces_fine : fits_sizes p r ≡ true → traces_found (books_of r) (suc (length r.atom_books)) 0 (r.threads ++ r.agents) ≡ Fine → difference_of p w r n ≡ difference_in (first (books_told p r) (actors_told p w r n))
  traces_fine fits e = sizes_fine fits ∙ ap behind_sizes e

  clear_if : (t u : Told) (f : Finding) → Of t f → f ≡ Fine → first t u ≡ u
  clear_if told.Clear u f h e = refl
  clear_if told.Open u Fine h e = absurd h
  clear_if told.Open u (Off a i) h e = absurd h
  clear_if told.Open u (Short a i) h e = absurd cc
  clear_if (told.So d) u Fine h e = absurd h
  clear_if (told.So d) u (Off a i) h e = absurd cc
  clear_if (told.So d) u (Short a i) h e = absurd h

  stop_if : (t u : Told) (f : Finding) → Of t f → is_fine f ≡ false → first t u ≡ t
  stop_if told.Clear u Fine h e = absurd cc
  stop_if told.Clear u (Off a i) h e = absurd h
  stop_if told.Clear u (Short a i) h e = absurd h
  stop_if told.Open u f h e = refl
  stop_if (told.So d) u f h e = refl

  pub books_fine : store_found p r ≡ Fine → atoms_found p r (atoms_from 0 p.cells) ≡ Fine → first (books_told p r) (actors_told p w r n) ≡ actors_told p w r n
  books_fine store atoms =
      clear_if (books_told p r) (actors_told p w r n) (and_then (store_found p r) (atoms_found p r (atoms_from 0 p.cells))) (of_books p w r n)
      (ap (λ f. and_then f (atoms_found p r (atoms_from 0 p.cells))) store ∙ atoms)

  pub books_off : (f : Finding) → f ≡ and_then (store_found p r) (atoms_found p r (atoms_from 0 p.cells)) → is_fine f ≡ false → first (books_told p r) (actors_told p w r n) ≡ books_told p r
  books_off f e off = stop_if (books_told p r) (actors_told p w r n) (and_then (store_found p r) (atoms_found p r (atoms_from 0 p.cells))) (of_books p w r n) (sym (ap is_fine e) ∙ off)

  pub ends_off : (a i : ℕ) → ends_found p w r ≡ Off a i → actors_told p w r n ≡ told.So (at_event (stopped_what_in w (entry_of r a)) a i)
  ends_off a i e = ap (λ f. first (tells (λ b j. at_event (stopped_what_in w (entry_of r b)) b j) f) (order_told p r n)) e

  pub ends_fine : ends_found p w r ≡ Fine → actors_told p w r n ≡ order_told p r n
  ends_fine e = ap (λ f. first (tells (λ b j. at_event (stopped_what_in w (entry_of r b)) b j) f) (order_told p r n)) e

module _ (p : PlainProgram) (r : PlainReport) (n : ℕ) where
  pub order_off : (a i : ℕ) → order_found p r ≡ Off a i → order_told p r n ≡ told.So (at_event what.Order a i)
  order_off a i e = ap (λ f. first (tells (at_event what.Order) f) (pieces_told p r n (pieces_of r))) e

  pub order_fine : order_found p r ≡ Fine → order_told p r n ≡ pieces_told p r n (pieces_of r)
  order_fine e = ap (λ f. first (tells (at_event what.Order) f) (pieces_told p r n (pieces_of r))) e
