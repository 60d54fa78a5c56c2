-- The pieces of a report, counted.
use Rattle.std.proofs.Common.{◌≡◌, ◌≤◌, ◌<◌, ℕ, zero, suc, ◌+◌, Bool, true, false, List, [], ◌∷◌, ◌++◌, if◌then◌else◌, drop, get_or, length, refl, sym, ap, ◌∙◌, append_assoc, append-nil, arith, Some}
use Rattle.std.specs.Prelude.{map}
use Rattle.std.proofs.lemmas.List.{drop_all, drop_more}
use Rattle.txs_value_cell.specs.Agents.{agents_from, with_agent}
use Rattle.txs_value_cell.specs.declared.cell.CellDefinition.{CellDefinition}
use Rattle.txs_value_data.specs.declared.value.CellKind.{CellKind}
use Rattle.txs_value_data.specs.declared.value.CellKind.TheVariants.{Agent, Atom, Ref}
use Rattle.txs_tree_meaning.specs.Sound.{Sound}
use Rattle.txs_tree_meaning.specs.View.{program_of}
use Rattle.txs_value_data.specs.Places.{nth}
use Rattle.txs_theorem_runs.specs.Told as runs
use Rattle.txs_theorem_serial.specs.Whole.{is_act}
use Rattle.txs_world_protocol.specs.declared.event.Event.{Event}
use Rattle.txs_world_protocol.specs.declared.event.Place.{Place}
use Rattle.txs_world_protocol.specs.declared.report.ActorReport.{ActorReport}
use Rattle.txs_theorem_audit.specs.Audited.{place_of, ran_as}
use Rattle.txs_theorem_audit.specs.Pieces as plain
use Rattle.txs_theorem_audit.specs.Pieces.{act_pieces, agent_pieces, thread_pieces}
use Rattle.txs_theorem_audit.proofs.Agreeing.{sized_of}
use Rattle.txs_theorem_audit.proofs.Findings.{not_there}
use Rattle.txs_audit_evidence.specs.Evidence.{PlainBooks, AreLegal}
use Rattle.txs_audit.specs.Pieced.{acts_left, piece_as, pieces_as}
use Rattle.txs_audit.specs.declared.pieces.Piece.{Piece}
use Rattle.txs_audit.specs.declared.pieces.Piece.TheVariants as piece

-- one more piece
one_more : (xs : List Piece) (x : Piece) (ys : List plain.Piece) → pieces_as (xs ++ x ∷ []) ++ ys ≡ pieces_as xs ++ piece_as x ∷ ys
one_more [] x ys = refl
one_more (z ∷ xs) x ys = ap (λ l. piece_as z ∷ l) (one_more xs x ys)

next_is : (i : ℕ) → i + 1 ≡ suc i
next_is i = omega arith

-- what is left of a list that isn't at its end
drop_there : {A : Type 0} (xs : List A) (i : ℕ) → i < length xs → (x : A) × (drop i xs ≡ x ∷ drop (i + 1) xs)
drop_there [] i lt = absurd (omega (arith, lt))
drop_there (x ∷ xs) i lt = (get_or (x ∷ xs) i x, drop_more (x ∷ xs) i x lt)

-- ---- threads

pub threads_next : (xs : List Piece) (rans : List ActorReport) (i : ℕ) (whole : List plain.Piece) → i < length rans
    → pieces_as xs ++ thread_pieces i (map ran_as (drop i rans)) ≡ whole → pieces_as (xs ++ piece.Thread i ∷ []) ++ thread_pieces (i + 1) (map ran_as (drop (i + 1) rans)) ≡ whole
threads_next xs rans i whole lt h =
    one_more xs (piece.Thread i) (thread_pieces (i + 1) (map ran_as (drop (i + 1) rans)))
    ∙ ap (λ k. pieces_as xs ++ plain.OfThread i ∷ thread_pieces k (map ran_as (drop (i + 1) rans))) (next_is i)
    ∙ ap (λ l. pieces_as xs ++ thread_pieces i (map ran_as l)) (sym (drop_there rans i lt).1)
    ∙ h

pub threads_end : (xs : List plain.Piece) (rans : List ActorReport) (i : ℕ) (whole : List plain.Piece) → length rans ≤ i → xs ++ thread_pieces i (map ran_as (drop i rans)) ≡ whole → xs ≡ whole
threads_end xs rans i whole le h = sym (append-nil xs) ∙ ap (λ l. xs ++ thread_pieces i (map ran_as l)) (sym (drop_all i rans le)) ∙ h

-- ---- entries of an agent's trace

-- the entry at an index, and those behind it
entries_there : (trace : List runs.Place) (k : ℕ) (q : runs.Place) → nth trace k ≡ Some q → drop k trace ≡ q ∷ drop (k + 1) trace
entries_there [] k q there = not_there there
entries_there (x ∷ xs) zero q there = (let z : 0 + 1 ≡ suc zero = omega arith in ap (λ y. y ∷ xs) (some_is x q there) ∙ ap (λ m. q ∷ drop m (x ∷ xs)) (sym z))
  where
    some_is : (a b : runs.Place) → Some a ≡ Some b → a ≡ b
    some_is a b e = cc
entries_there (x ∷ xs) (suc k) q there =
    let z : suc k + 1 ≡ suc (k + 1) = omega arith in
    entries_there xs k q there ∙ ap (λ m. q ∷ drop m (x ∷ xs)) (sym z)

module _ (books : ℕ → List Event) (a : ℕ) (trace : List Place) (i k : ℕ) (q : Place) (there : nth (map place_of trace) k ≡ Some (place_of q)) where
  abbrev plain_trace : List runs.Place
  plain_trace = map place_of trace

  abbrev left : List plain.Piece → ℕ → ℕ → List plain.Piece
  left ps j m = acts_left books ps a j m plain_trace

  one_entry : (ps : List plain.Piece) → left ps i k ≡ ps ++ (if is_act (nth (books q.book) q.at) then plain.OfAct a i k ∷ act_pieces books a (suc k) (suc k) (drop (k + 1) plain_trace) else act_pieces books a i (suc k) (drop (k + 1) plain_trace))
  one_entry ps = ap (λ l. ps ++ act_pieces books a i k l) (entries_there plain_trace k (place_of q) there)

  -- an entry that names no act
  pub entry_joins : (ps : List plain.Piece) (act : Bool) → act ≡ is_act (nth (books q.book) q.at) → act ≡ false → left ps i (k + 1) ≡ left ps i k
  entry_joins ps act told isnt =
      ap (λ m. ps ++ act_pieces books a i m (drop (k + 1) plain_trace)) (next_is k)
      ∙ sym (one_entry ps ∙ ap (λ b. ps ++ (if b then plain.OfAct a i k ∷ act_pieces books a (suc k) (suc k) (drop (k + 1) plain_trace) else act_pieces books a i (suc k) (drop (k + 1) plain_trace))) (sym told ∙ isnt))

  -- an entry that names one
  pub act_joins : (xs ys : List Piece) (j : ℕ) (act : Bool) → act ≡ is_act (nth (books q.book) q.at) → act ≡ true → j ≡ k + 1 → ys ≡ xs ++ piece.Act a i k ∷ [] → left (pieces_as ys) j (k + 1) ≡ left (pieces_as xs) i k
  act_joins xs ys j act told it_is next pushed =
      let rest = act_pieces books a (suc k) (suc k) (drop (k + 1) plain_trace) in
      ap (λ l. pieces_as l ++ act_pieces books a j (k + 1) (drop (k + 1) plain_trace)) pushed
      ∙ ap (λ m. pieces_as (xs ++ piece.Act a i k ∷ []) ++ act_pieces books a m (k + 1) (drop (k + 1) plain_trace)) (next ∙ next_is k)
      ∙ ap (λ m. pieces_as (xs ++ piece.Act a i k ∷ []) ++ act_pieces books a (suc k) m (drop (k + 1) plain_trace)) (next_is k)
      ∙ one_more xs (piece.Act a i k) rest
      ∙ sym (one_entry (pieces_as xs) ∙ ap (λ b. pieces_as xs ++ (if b then plain.OfAct a i k ∷ rest else act_pieces books a i (suc k) (drop (k + 1) plain_trace))) (sym told ∙ it_is))

-- before the first entry, and behind the last
pub acts_begin : (books : ℕ → List Event) (a : ℕ) (trace : List Place) (ps : List plain.Piece) → acts_left books ps a 0 0 (map place_of trace) ≡ ps ++ act_pieces books a 0 0 (map place_of trace)
acts_begin books a trace ps = refl

many_entries : (trace : List Place) → length (map place_of trace) ≡ length trace
many_entries [] = refl
many_entries (x ∷ xs) = ap suc (many_entries xs)

pub acts_end : (books : ℕ → List Event) (a : ℕ) (trace : List Place) (xs ys : List Piece) (i k : ℕ) (whole : List plain.Piece) → length trace ≤ k → acts_left books (pieces_as xs) a i k (map place_of trace) ≡ whole → ys ≡ xs ++ piece.End a i ∷ [] → pieces_as ys ≡ whole
acts_end books a trace xs ys i k whole le h pushed =
    let many = many_entries trace in
    ap pieces_as pushed ∙ sym (append-nil (pieces_as (xs ++ piece.End a i ∷ []))) ∙ one_more xs (piece.End a i) []
    ∙ ap (λ l. pieces_as xs ++ act_pieces books a i k l) (sym (drop_all k (map place_of trace) (omega (arith, le, many)))) ∙ h

-- ---- agents

pub agents_next : (books : ℕ → List Event) (olds news : List plain.Piece) (rans : List ActorReport) (i : ℕ) (r : ActorReport) (whole : List plain.Piece) → i < length rans → r ≡ get_or rans i r → news ≡ olds ++ act_pieces books i 0 0 (ran_as r).trace
    → olds ++ agent_pieces books i (map ran_as (drop i rans)) ≡ whole → news ++ agent_pieces books (i + 1) (map ran_as (drop (i + 1) rans)) ≡ whole
agents_next books olds news rans i r whole lt is more h =
    let acts = act_pieces books i 0 0 (ran_as r).trace in
    let rest = agent_pieces books (suc i) (map ran_as (drop (i + 1) rans)) in
    ap (λ k. news ++ agent_pieces books k (map ran_as (drop (i + 1) rans))) (next_is i)
    ∙ ap (λ l. l ++ rest) more
    ∙ append_assoc olds acts rest
    ∙ ap (λ l. olds ++ agent_pieces books i (map ran_as l)) (ap (λ y. y ∷ drop (i + 1) rans) is ∙ sym (drop_more rans i r lt))
    ∙ h

pub agents_end : (books : ℕ → List Event) (xs : List plain.Piece) (rans : List ActorReport) (i : ℕ) (whole : List plain.Piece) → length rans ≤ i → xs ++ agent_pieces books i (map ran_as (drop i rans)) ≡ whole → xs ≡ whole
agents_end books xs rans i whole le h = sym (append-nil xs) ∙ ap (λ l. xs ++ agent_pieces books i (map ran_as l)) (sym (drop_all i rans le)) ∙ h

-- ---- few entries

agents_few : (n : ℕ) (ds : List CellDefinition) → length (agents_from n ds) ≤ length ds
agents_few n [] = omega arith
agents_few n (d ∷ ds) = go d.kind (agents_few (suc n) ds)
  where
    go : (k : CellKind) → length (agents_from (suc n) ds) ≤ length ds → length (with_agent k n (agents_from (suc n) ds)) ≤ suc (length ds)
    go Ref le = omega (arith, le)
    go Atom le = omega (arith, le)
    go Agent le = omega (arith, le)

many_as : (rans : List ActorReport) → length (map ran_as rans) ≡ length rans
many_as [] = refl
many_as (x ∷ xs) = ap suc (many_as xs)

pub few_threads : (b : PlainBooks) → AreLegal b → Sound (program_of b.program) → (rans : List ActorReport) → map ran_as rans ≡ b.report.threads → length rans ≤ 65535
few_threads b legal sound rans is =
    let threads = (sized_of (program_of b.program) b.report legal.fits).threads in
    let few = sound.scoped.few_threads in
    let many = ap length is in
    let same = many_as rans in
    omega (arith, threads, few, many, same)

pub few_agents : (b : PlainBooks) → AreLegal b → Sound (program_of b.program) → (rans : List ActorReport) → map ran_as rans ≡ b.report.agents → length rans ≤ 65535
few_agents b legal sound rans is =
    let agents = (sized_of (program_of b.program) b.report legal.fits).agents in
    let few = agents_few 0 b.program.cells in
    let cells = sound.scoped.few_cells in
    let many = ap length is in
    let same = many_as rans in
    omega (arith, agents, few, cells, many, same)
