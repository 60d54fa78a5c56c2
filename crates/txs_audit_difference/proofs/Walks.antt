-- What the tests of pieces tell, one after the other.
use Rattle.std.proofs.Common.{◌≡◌, ◌≤◌, ◌<◌, ◌+◌, ℕ, zero, suc, Bool, true, false, List, [], ◌∷◌, ◌++◌, length, drop, get_or, map, Some, refl, sym, ap, ◌∙◌, arith, if◌then◌else◌}
use Rattle.std.proofs.lemmas.List.{drop_all, length-map}
use Rattle.txs_value_data.specs.Places.{nth}
use Rattle.txs_theorem_serial.specs.Whole.{is_act}
use Rattle.txs_theorem_runs.specs.Told.{Place}
use Rattle.txs_tree_meaning.specs.Sound.{Sound}
use Rattle.txs_tree_meaning.specs.Tree.{PlainProgram}
use Rattle.txs_tree_meaning.specs.View.{program_of}
use Rattle.txs_world_protocol.specs.declared.event.Place as event
use Rattle.txs_world_protocol.specs.declared.report.ActorReport.{ActorReport}
use Rattle.txs_audit_evidence.specs.Evidence.{AreLegal, PlainBooks}
use Rattle.txs_audit_book.proofs.Numbering.{agents_few}
use Rattle.txs_theorem_audit.specs.Audited.{Finding, Fine, Off, Short, PlainActorReport, PlainReport, books_of, place_of, ran_as}
use Rattle.txs_theorem_audit.proofs.Agreeing.{sized_of}
use Rattle.txs_theorem_audit.proofs.Findings.{not_there}
use Rattle.txs_theorem_audit.specs.Pieces.{Piece, OfAct, OfEnd, OfThread, act_pieces, agent_pieces, piece_finding, pieces_of, thread_pieces}
use Rattle.txs_audit_difference.specs.Difference.{first, pieces_told, tells}
use Rattle.txs_audit_difference.specs.Pieces.{piece_what}
use Rattle.txs_audit_difference.specs.Walked.{IsNext, one_told}
use Rattle.txs_audit_difference.specs.declared.told.Difference.{Difference}
use Rattle.txs_audit_difference.specs.declared.told.Told.{Told}
use Rattle.txs_audit_difference.specs.declared.told.Told.TheVariants as told
use Rattle.txs_audit_difference.specs.declared.walking.Step.TheVariants.{Begins, Ends}

first_together : (t u v : Told) → first (first t u) v ≡ first t (first u v)
first_together told.Clear u v = refl
first_together told.Open u v = refl
first_together (told.So d) u v = refl

some_same : {A : Type 0} (x y : A) → Some x ≡ Some y → x ≡ y
some_same x y e = cc

-- a list from an index on, by its member there
behind : {A : Type 0} (xs : List A) (i : ℕ) (x : A) → nth xs i ≡ Some x → drop i xs ≡ x ∷ drop (i + 1) xs
behind [] i x there = not_there there
behind (y ∷ xs) zero x there = (let one : 0 + 1 ≡ suc zero = omega arith in ap (λ z. z ∷ xs) (some_same y x there) ∙ ap (λ m. x ∷ drop m (y ∷ xs)) (sym one))
behind (y ∷ xs) (suc i) x there =
    let on : suc i + 1 ≡ suc (i + 1) = omega arith in
    behind xs i x there ∙ ap (λ m. x ∷ drop m (y ∷ xs)) (sym on)

module _ (p : PlainProgram) (r : PlainReport) (n : ℕ) where
  abbrev all : List Piece → Told
  all xs = pieces_told p r n xs

  abbrev one : Piece → Told
  one x = one_told p r n x

  pub pieces_both : (xs ys : List Piece) → all (xs ++ ys) ≡ first (all xs) (all ys)
  pieces_both [] ys = refl
  pieces_both (x ∷ xs) ys = ap (first (one x)) (pieces_both xs ys) ∙ sym (first_together (one x) (all xs) (all ys))

  -- ---- threads

  module _ (rans : List PlainActorReport) (i : ℕ) where
    thread_at : i < length rans → all (thread_pieces i (drop i rans)) ≡ first (one (OfThread i)) (all (thread_pieces (i + 1) (drop (i + 1) rans)))
    thread_at lt =
        let next : suc i ≡ i + 1 = omega arith in
        there rans i i lt ∙ ap (λ k. first (one (OfThread i)) (all (thread_pieces k (drop (i + 1) rans)))) next
      where
        there : (rs : List PlainActorReport) (j k : ℕ) → j < length rs → all (thread_pieces k (drop j rs)) ≡ first (one (OfThread k)) (all (thread_pieces (suc k) (drop (j + 1) rs)))
        there [] j k lt = absurd (omega (arith, lt))
        there (x ∷ rs) zero k lt = refl
        there (x ∷ rs) (suc j) k lt = let on : suc j + 1 ≡ suc (j + 1) = omega arith in there rs j k (omega (arith, lt)) ∙ ap (λ m. first (one (OfThread k)) (all (thread_pieces (suc k) (drop m (x ∷ rs))))) (sym on)

    pub thread_on : i < length rans → told.Clear ≡ one (OfThread i) → all (thread_pieces (i + 1) (drop (i + 1) rans)) ≡ all (thread_pieces i (drop i rans))
    thread_on lt e = sym (thread_at lt ∙ ap (λ t. first t (all (thread_pieces (i + 1) (drop (i + 1) rans)))) (sym e))

    pub thread_open : i < length rans → told.Open ≡ one (OfThread i) → told.Open ≡ all (thread_pieces i (drop i rans))
    thread_open lt e = sym (thread_at lt ∙ ap (λ t. first t (all (thread_pieces (i + 1) (drop (i + 1) rans)))) (sym e))

    pub thread_so : (d : Difference) → i < length rans → told.So d ≡ one (OfThread i) → told.So d ≡ all (thread_pieces i (drop i rans))
    thread_so d lt e = sym (thread_at lt ∙ ap (λ t. first t (all (thread_pieces (i + 1) (drop (i + 1) rans)))) (sym e))

    pub thread_end : length rans ≤ i → told.Clear ≡ all (thread_pieces i (drop i rans))
    thread_end le = sym (ap (λ l. all (thread_pieces i l)) (drop_all i rans le))

  -- ---- the entries of an agent

  module _ (a i k : ℕ) (q : Place) where
    abbrev its : Bool
    its = is_act (nth (books_of r q.book) q.at)

    abbrev here : List Place → Bool → List Piece
    here qs b = if b then OfAct a i k ∷ act_pieces (books_of r) a (suc k) (suc k) qs else act_pieces (books_of r) a i (suc k) qs

    pub no_act : its ≡ false → IsNext p r n a i k q (Begins i)
    no_act e qs = ap (λ b. all (here qs b)) e

    act_so : its ≡ true → (qs : List Place) → all (act_pieces (books_of r) a i k (q ∷ qs)) ≡ first (one (OfAct a i k)) (all (act_pieces (books_of r) a (suc k) (suc k) qs))
    act_so e qs = ap (λ b. all (here qs b)) e

    pub act_fine : its ≡ true → told.Clear ≡ one (OfAct a i k) → IsNext p r n a i k q (Begins (k + 1))
    act_fine e fine qs =
        let next : suc k ≡ k + 1 = omega arith in
        act_so e qs ∙ ap (λ t. first t (all (act_pieces (books_of r) a (suc k) (suc k) qs))) (sym fine) ∙ ap (λ j. all (act_pieces (books_of r) a j (suc k) qs)) next

    pub act_open : its ≡ true → told.Open ≡ one (OfAct a i k) → IsNext p r n a i k q (Ends told.Open)
    act_open e open1 qs = act_so e qs ∙ ap (λ t. first t (all (act_pieces (books_of r) a (suc k) (suc k) qs))) (sym open1)

    pub act_off : (d : Difference) → its ≡ true → told.So d ≡ one (OfAct a i k) → IsNext p r n a i k q (Ends (told.So d))
    act_off d e off qs = act_so e qs ∙ ap (λ t. first t (all (act_pieces (books_of r) a (suc k) (suc k) qs))) (sym off)

  -- what comes of an entry at its index of a trace
  module _ (a i k : ℕ) (trace : List Place) (q : Place) (there : nth trace k ≡ Some q) where
    pub entry_on : (j : ℕ) → IsNext p r n a i k q (Begins j) → all (act_pieces (books_of r) a j (k + 1) (drop (k + 1) trace)) ≡ all (act_pieces (books_of r) a i k (drop k trace))
    entry_on j h =
        let next : k + 1 ≡ suc k = omega arith in
        ap (λ m. all (act_pieces (books_of r) a j m (drop (k + 1) trace))) next ∙ sym (ap (λ l. all (act_pieces (books_of r) a i k l)) (behind trace k q there) ∙ h (drop (k + 1) trace))

    pub entry_ends : (t : Told) → IsNext p r n a i k q (Ends t) → all (act_pieces (books_of r) a i k (drop k trace)) ≡ t
    entry_ends t h = ap (λ l. all (act_pieces (books_of r) a i k l)) (behind trace k q there) ∙ h (drop (k + 1) trace)

  first_clear : (t : Told) → first t told.Clear ≡ t
  first_clear told.Clear = refl
  first_clear told.Open = refl
  first_clear (told.So d) = refl

  pub entries_end : (a i k : ℕ) (trace : List Place) → length trace ≤ k → all (act_pieces (books_of r) a i k (drop k trace)) ≡ one (OfEnd a i)
  entries_end a i k trace le = ap (λ l. all (act_pieces (books_of r) a i k l)) (drop_all k trace le) ∙ first_clear (one (OfEnd a i))

  -- ---- agents

  module _ (rans : List PlainActorReport) (i : ℕ) (ran : PlainActorReport) (there : nth rans i ≡ Some ran) where
    abbrev rest : Told
    rest = all (agent_pieces (books_of r) (i + 1) (drop (i + 1) rans))

    abbrev its_own : Told
    its_own = all (act_pieces (books_of r) i 0 0 ran.trace)

    agent_at : all (agent_pieces (books_of r) i (drop i rans)) ≡ first its_own rest
    agent_at =
        let next : suc i ≡ i + 1 = omega arith in
        ap (λ l. all (agent_pieces (books_of r) i l)) (behind rans i ran there)
        ∙ pieces_both (act_pieces (books_of r) i 0 0 ran.trace) (agent_pieces (books_of r) (suc i) (drop (i + 1) rans))
        ∙ ap (λ k. first its_own (all (agent_pieces (books_of r) k (drop (i + 1) rans)))) next

    pub agent_on : told.Clear ≡ its_own → rest ≡ all (agent_pieces (books_of r) i (drop i rans))
    agent_on e = sym (agent_at ∙ ap (λ t. first t rest) (sym e))

    pub agent_open : told.Open ≡ its_own → told.Open ≡ all (agent_pieces (books_of r) i (drop i rans))
    agent_open e = sym (agent_at ∙ ap (λ t. first t rest) (sym e))

    pub agent_so : (d : Difference) → told.So d ≡ its_own → told.So d ≡ all (agent_pieces (books_of r) i (drop i rans))
    agent_so d e = sym (agent_at ∙ ap (λ t. first t rest) (sym e))

  pub agents_end : (rans : List PlainActorReport) (i : ℕ) → length rans ≤ i → told.Clear ≡ all (agent_pieces (books_of r) i (drop i rans))
  agents_end rans i le = sym (ap (λ l. all (agent_pieces (books_of r) i l)) (drop_all i rans le))

  -- ---- one piece

  -- what is told where this is found
  pub fine_told : (x : Piece) (f : Finding) → f ≡ piece_finding p r n x → f ≡ Fine → told.Clear ≡ one x
  fine_told x f is e = sym (ap (tells (piece_what p r n x)) (sym is ∙ e))

  pub short_told : (x : Piece) (f : Finding) (a i : ℕ) → f ≡ piece_finding p r n x → f ≡ Short a i → told.Open ≡ one x
  short_told x f a i is e = sym (ap (tells (piece_what p r n x)) (sym is ∙ e))

  pub off_told : (x : Piece) (f : Finding) (a i : ℕ) → f ≡ piece_finding p r n x → f ≡ Off a i → told.So (piece_what p r n x a i) ≡ one x
  off_told x f a i is e = sym (ap (tells (piece_what p r n x)) (sym is ∙ e))

-- ---- entries, by those of the report

-- an entry that is read is one of the plain report's
pub ran_read : (xs : List ActorReport) (ys : List PlainActorReport) (i : ℕ) (x : ActorReport) → map ran_as xs ≡ ys → i < length xs → x ≡ get_or xs i x → nth ys i ≡ Some (ran_as x)
ran_read xs ys i x same lt is = ap (λ l. nth l i) (sym same) ∙ go xs i lt is
  where
    go : (zs : List ActorReport) (k : ℕ) → k < length zs → x ≡ get_or zs k x → nth (map ran_as zs) k ≡ Some (ran_as x)
    go [] k lt is = absurd (omega (arith, lt))
    go (z ∷ zs) zero lt is = ap (λ y. Some (ran_as y)) (sym is)
    go (z ∷ zs) (suc k) lt is = go zs k (omega (arith, lt)) is

-- there are as many
pub rans_many : (xs : List ActorReport) (ys : List PlainActorReport) → map ran_as xs ≡ ys → length ys ≡ length xs
rans_many xs ys same = ap length (sym same) ∙ length-map xs ran_as

pub places_many : (xs : List event.Place) → length (map place_of xs) ≡ length xs
places_many xs = length-map xs place_of

-- a place that is read is one of the plain trace
pub place_read : (xs : List event.Place) (k : ℕ) (q : event.Place) → k < length xs → q ≡ get_or xs k q → nth (map place_of xs) k ≡ Some (place_of q)
place_read [] k q lt is = absurd (omega (arith, lt))
place_read (x ∷ xs) zero q lt is = ap (λ y. Some (place_of y)) (sym is)
place_read (x ∷ xs) (suc k) q lt is = place_read xs k q (omega (arith, lt)) is

-- there are few
pub few_threads : (b : PlainBooks) → AreLegal b → Sound (program_of b.program) → (rans : List ActorReport) → map ran_as rans ≡ b.report.threads → length rans ≤ 65535
few_threads b legal sound rans is =
    let threads = (sized_of (program_of b.program) b.report legal.fits).threads in
    let few = sound.scoped.few_threads in
    let many = rans_many rans b.report.threads is in
    omega (arith, threads, few, many)

pub few_agents : (b : PlainBooks) → AreLegal b → Sound (program_of b.program) → (rans : List ActorReport) → map ran_as rans ≡ b.report.agents → length rans ≤ 65535
few_agents b legal sound rans is =
    let agents = (sized_of (program_of b.program) b.report legal.fits).agents in
    let few = agents_few b.program.cells in
    let cells = sound.scoped.few_cells in
    let many = rans_many rans b.report.agents is in
    omega (arith, agents, few, cells, many)

-- ---- all pieces

module _ (p : PlainProgram) (r : PlainReport) (n : ℕ) where
  abbrev of_threads : Told
  of_threads = pieces_told p r n (thread_pieces 0 r.threads)

  abbrev of_agents : Told
  of_agents = pieces_told p r n (agent_pieces (books_of r) 0 r.agents)

  pub both_told : pieces_told p r n (pieces_of r) ≡ first of_threads of_agents
  both_told = pieces_both p r n (thread_pieces 0 r.threads) (agent_pieces (books_of r) 0 r.agents)

  pub threads_clear : told.Clear ≡ of_threads → of_agents ≡ pieces_told p r n (pieces_of r)
  threads_clear e = sym (both_told ∙ ap (λ t. first t of_agents) (sym e))

  pub threads_open : told.Open ≡ of_threads → told.Open ≡ pieces_told p r n (pieces_of r)
  threads_open e = sym (both_told ∙ ap (λ t. first t of_agents) (sym e))

  pub threads_so : (d : Difference) → told.So d ≡ of_threads → told.So d ≡ pieces_told p r n (pieces_of r)
  threads_so d e = sym (both_told ∙ ap (λ t. first t of_agents) (sym e))
