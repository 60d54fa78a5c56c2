-- The last tests of an audit in pieces.
use Rattle.std.proofs.Common.{◌≡◌, ◌≤◌, ℕ, suc, ◌+◌, ◌&&◌, Bool, true, false, List, [], ◌∷◌, ◌++◌, length, length-append, append-nil, append_assoc, take, drop, Option, Some, None, Result, refl, sym, ap, ◌∙◌, subst, arith, if◌then◌else◌}
use Rattle.std.specs.Prelude.{◌-◌}
use Rattle.std.proofs.lemmas.List.{drop-append-le}
use Rattle.txs_value_data.specs.Places.{nth}
use Rattle.txs_value_cell.specs.Agents.{agents_from}
use Rattle.txs_value_data.specs.declared.fault.Fault.{Fault}
use Rattle.txs_value_cell.specs.declared.action.Action.{Action}
use Rattle.txs_value_data.specs.declared.value.CellId.{CellId}
use Rattle.txs_value_data.specs.declared.value.Value.{Value}
use Rattle.txs_world_protocol.specs.declared.event.Event.{Event}
use Rattle.txs_world_protocol.specs.declared.event.EventKind.{EventKind}
use Rattle.txs_world_protocol.specs.declared.event.EventKind.TheVariants.{Read, Commit, Retry, Fail, Refused, Send, SendRefused, Act, Swap, Broke}
use Rattle.txs_world_book.specs.Served.{cells_of}
use Rattle.txs_world.specs.Store.{next_action}
use Rattle.txs_tree_meaning.specs.Tree.{PlainProgram, PlainThread}
use Rattle.txs_theorem_threads.specs.Noted.{txs_of}
use Rattle.txs_theorem_runs.specs.Told.{Place}
use Rattle.txs_theorem_serial.specs.Whole.{is_act, is_act_kind}
use Rattle.txs_theorem_audit.specs.Audited.{PlainActorReport, PlainReport, books_of, Finding, Fine, Off, Short, and_then, check, answer}
use Rattle.txs_theorem_audit.specs.Explained.{meaning_of}
use Rattle.txs_theorem_audit.specs.Pieces.{Piece, OfAct, OfEnd, thread_finding, thread_serial, kind_finding, act_finding, part_of, act_finding_at, act_finding_in, kind_prints, prints_at, acts_print, end_finding, piece_finding, kind_serial, event_serial, serial_at, end_serial, act_serial, piece_serial, pieces_finding, pieces_serial, thread_pieces, act_pieces, agent_pieces, pieces_of, HalvesAreWhole, PiecesAreAll}
use Rattle.txs_theorem_audit.specs.Verdict.{atoms_from, traces_found, store_found, atoms_found, ends_found, order_found, thread_found, threads_found, action_found, action_prints, agent_end, kind_found, event_found, acts_found, agents_found, covered_all, are_serial, action_covered, kind_covered, event_covered, acts_covered, agents_serial}
use Rattle.txs_theorem_audit.proofs.Agreeing.{sized_of}
use Rattle.txs_theorem_audit.proofs.Owning.{own_act}

three : (f g h : Finding) → and_then (and_then f g) h ≡ and_then f (and_then g h)
three Fine g h = refl
three (Off a i) g h = refl
three (Short a i) g h = refl

and_three : (a b c : Bool) → ((a && b) && c) ≡ (a && (b && c))
and_three true b c = refl
and_three false b c = refl

module _ (p : PlainProgram) (r : PlainReport) (n : ℕ) where
  found_both : (xs ys : List Piece) → pieces_finding p r n (xs ++ ys) ≡ and_then (pieces_finding p r n xs) (pieces_finding p r n ys)
  found_both [] ys = refl
  found_both (x ∷ xs) ys = ap (and_then (piece_finding p r n x)) (found_both xs ys) ∙ sym (three (piece_finding p r n x) (pieces_finding p r n xs) (pieces_finding p r n ys))

  serial_both : (xs ys : List Piece) → pieces_serial p r n (xs ++ ys) ≡ (pieces_serial p r n xs && pieces_serial p r n ys)
  serial_both [] ys = refl
  serial_both (x ∷ xs) ys = ap (λ b. piece_serial p r n x && b) (serial_both xs ys) ∙ sym (and_three (piece_serial p r n x) (pieces_serial p r n xs) (pieces_serial p r n ys))

  -- ---- threads

  next_of : {A : Type 0} (xs : List A) (a : ℕ) (y : A) (ys : List A) → ((i : ℕ) → nth xs (a + i) ≡ nth (y ∷ ys) i) → (i : ℕ) → nth xs (suc a + i) ≡ nth ys i
  next_of xs a y ys h i = let z : suc a + i ≡ a + suc i = omega arith in ap (nth xs) z ∙ h (suc i)

  here_of : {A : Type 0} (xs : List A) (a : ℕ) (y : A) (ys : List A) → ((i : ℕ) → nth xs (a + i) ≡ nth (y ∷ ys) i) → nth xs a ≡ Some y
  here_of xs a y ys h = let z : a ≡ a + 0 = omega arith in ap (nth xs) z ∙ h 0

  threads_whole : (a : ℕ) (ts : List PlainThread) (rans : List PlainActorReport) → length rans ≡ length ts → ((i : ℕ) → nth p.threads (a + i) ≡ nth ts i) → ((i : ℕ) → nth r.threads (a + i) ≡ nth rans i)
      → (pieces_finding p r n (thread_pieces a rans) ≡ threads_found p r n a ts rans) × (pieces_serial p r n (thread_pieces a rans) ≡ are_serial p r n ts rans)
  threads_whole a [] [] many h g = (refl, refl)
  threads_whole a [] (x ∷ xs) many h g = absurd (omega (arith, many))
  threads_whole a (t ∷ ts) [] many h g = absurd (omega (arith, many))
  threads_whole a (t ∷ ts) (x ∷ xs) many h g =
      let fewer : length xs ≡ length ts = omega (arith, many) in
      let rest = threads_whole (suc a) ts xs fewer (next_of p.threads a t ts h) (next_of r.threads a x xs g) in
      let e = here_of p.threads a t ts h in
      let f = here_of r.threads a x xs g in
      let finding : thread_finding p r n a (nth p.threads a) (nth r.threads a) ≡ thread_found p r n a t x = ap (λ o. thread_finding p r n a o (nth r.threads a)) e ∙ ap (thread_finding p r n a (Some t)) f in
      let serial : thread_serial p r n (nth p.threads a) (nth r.threads a) ≡ covered_all (books_of r) x.trace (txs_of (meaning_of p r t x n)) = ap (λ o. thread_serial p r n o (nth r.threads a)) e ∙ ap (thread_serial p r n (Some t)) f in (
        ap (λ z. and_then z (pieces_finding p r n (thread_pieces (suc a) xs))) finding ∙ ap (and_then (thread_found p r n a t x)) rest.0,
        ap (λ z. z && pieces_serial p r n (thread_pieces (suc a) xs)) serial ∙ ap (λ z. covered_all (books_of r) x.trace (txs_of (meaning_of p r t x n)) && z) rest.1,
      )

  -- ---- agents

  fine_after : (f : Finding) → and_then f Fine ≡ f
  fine_after Fine = refl
  fine_after (Off a i) = refl
  fine_after (Short a i) = refl

  true_after : (b : Bool) → (b && true) ≡ b
  true_after true = refl
  true_after false = refl

  nth_behind_all : {A : Type 0} (xs : List A) (y : A) (ys : List A) → nth (xs ++ y ∷ ys) (length xs) ≡ Some y
  nth_behind_all [] y ys = refl
  nth_behind_all (x ∷ xs) y ys = nth_behind_all xs y ys

  take_front : {A : Type 0} (xs ys : List A) → take (length xs) (xs ++ ys) ≡ xs
  take_front [] ys = refl
  take_front (x ∷ xs) ys = ap (λ l. x ∷ l) (take_front xs ys)

  drop_joined : {A : Type 0} (k : ℕ) (xs ys : List A) → k ≤ length xs → drop k (xs ++ ys) ≡ drop k xs ++ ys
  drop_joined k xs ys le = drop-append-le k xs ys le

  drop_whole : {A : Type 0} (xs : List A) → drop (length xs) xs ≡ []
  drop_whole [] = refl
  drop_whole (x ∷ xs) = drop_whole xs

  -- each act that a trace names is of this agent
  abbrev IsOwn : CellId → List Place → Type 0
  IsOwn g trace =
      (k : ℕ) (q : Place) → nth trace k ≡ Some q → (e : Event) → nth (books_of r q.book) q.at ≡ Some e → (h : CellId) (m : ℕ) (new : Result Value Fault) (sends : List Action) → e.kind ≡ Act h m new sends → h ≡ g

  -- an entry of an agent's trace
  module _ (i : ℕ) (g : CellId) (ran : PlainActorReport) (agent : nth (agents_from 0 p.cells) i ≡ Some g) (entry : nth r.agents i ≡ Some ran) (own : IsOwn g ran.trace) where
    abbrev a : ℕ
    a = length p.threads + i

    abbrev prints : List Place → List Place → List ℕ
    prints since qs = acts_print p r n since qs

    -- these entries come first, of which those from the j-th on are of the action that isn't over there
    record At (j : ℕ) (front qs since : List Place) (outs : List ℕ) : Type 0 where
      whole : ran.trace ≡ front ++ qs
      begun : j ≤ length front
      part : since ≡ drop j front
      printed : prints [] ran.trace ≡ outs ++ prints since qs

    abbrev Same : ℕ → List Place → List Place → List Place → List ℕ → Type 0
    Same j front qs since outs =
        (pieces_finding p r n (act_pieces (books_of r) i j (length front) qs) ≡ acts_found p r n a (length front) g since outs qs ran)
        × (pieces_serial p r n (act_pieces (books_of r) i j (length front) qs) ≡ acts_covered p r n g since qs)

    -- one entry more, of the same action
    longer_front : (front : List Place) (q : Place) → length (front ++ q ∷ []) ≡ suc (length front)
    longer_front front q = length-append front (q ∷ []) ∙ add_one
      where
        add_one : length front + 1 ≡ suc (length front)
        add_one = omega arith

    end_same : (j : ℕ) (front since : List Place) (outs : List ℕ) → At j front [] since outs → Same j front [] since outs
    end_same j front since outs at =
        let all : ran.trace ≡ front = at.whole ∙ append-nil front in
        let left : drop j ran.trace ≡ since = ap (drop j) all ∙ sym at.part in
        let out : prints [] ran.trace ≡ outs = at.printed ∙ append-nil outs in
        let found : piece_finding p r n (OfEnd i j) ≡ agent_end p r n a g since outs ran =
        ap (λ o. end_finding p r n a j o (nth r.agents i)) agent ∙ ap (λ o. end_finding p r n a j (Some g) o) entry
        ∙ ap (λ l. agent_end p r n a g l (prints [] ran.trace) ran) left ∙ ap (λ l. agent_end p r n a g since l ran) out in
        let covered : piece_serial p r n (OfEnd i j) ≡ acts_covered p r n g since [] =
        ap (λ o. end_serial p r n j o (nth r.agents i)) agent ∙ ap (λ o. end_serial p r n j (Some g) o) entry ∙ ap (λ l. action_covered p r n r.book g l (next_action (cells_of p.cells) r.book g)) left in
        (fine_after (piece_finding p r n (OfEnd i j)) ∙ found, true_after (piece_serial p r n (OfEnd i j)) ∙ covered)

    module _ (j : ℕ) (front : List Place) (q : Place) (qs since : List Place) (outs : List ℕ) (at : At j front (q ∷ qs) since outs)
        (next : (j1 : ℕ) (since1 : List Place) (outs1 : List ℕ) → At j1 (front ++ q ∷ []) qs since1 outs1 → Same j1 (front ++ q ∷ []) qs since1 outs1) where
      abbrev k : ℕ
      k = length front

      abbrev go : List Place → List ℕ → Finding
      go since1 outs1 = acts_found p r n a (suc k) g since1 outs1 qs ran

      abbrev go_covered : List Place → Bool
      go_covered since1 = acts_covered p r n g since1 qs

      whole_on : ran.trace ≡ (front ++ q ∷ []) ++ qs
      whole_on = at.whole ∙ sym (append_assoc front (q ∷ []) qs)

      -- what is said of the rest of the entries
      abbrev Rest : ℕ → List Place → List ℕ → Type 0
      Rest j1 since1 outs1 = (pieces_finding p r n (act_pieces (books_of r) i j1 (suc k) qs) ≡ go since1 outs1) × (pieces_serial p r n (act_pieces (books_of r) i j1 (suc k) qs) ≡ go_covered since1)

      rest_of : (j1 : ℕ) (since1 : List Place) (outs1 : List ℕ) → At j1 (front ++ q ∷ []) qs since1 outs1 → Rest j1 since1 outs1
      rest_of j1 since1 outs1 h =
          subst (λ m. (pieces_finding p r n (act_pieces (books_of r) i j1 m qs) ≡ acts_found p r n a m g since1 outs1 qs ran) × (pieces_serial p r n (act_pieces (books_of r) i j1 m qs) ≡ go_covered since1)) (longer_front front q) (next j1 since1 outs1 h)

      -- where the entry is no act
      joined : prints [] ran.trace ≡ outs ++ prints (since ++ q ∷ []) qs → Rest j (since ++ q ∷ []) outs
      joined e =
          rest_of j (since ++ q ∷ []) outs
          (record {
            whole = whole_on;
            begun = (let le = at.begun in let l = longer_front front q in omega (arith, le, l));
            part = ap (λ l. l ++ q ∷ []) at.part ∙ sym (drop_joined j front (q ∷ []) at.begun);
            printed = e;
          })

      here : nth ran.trace k ≡ Some q
      here = ap (λ l. nth l k) at.whole ∙ nth_behind_all front q qs

      its_part : part_of j k ran.trace ≡ since
      its_part = ap (λ l. drop j (take k l)) at.whole ∙ ap (drop j) (take_front front (q ∷ qs)) ∙ sym at.part

      act_found_so : (e : Event) → nth (books_of r q.book) q.at ≡ Some e → piece_finding p r n (OfAct i j k) ≡ kind_finding p r n a since k q e.kind
      act_found_so e there =
          ap (λ o. act_finding_in p r n a j k o) entry ∙ ap (λ o. act_finding_at p r n a j k ran o) here ∙ ap (λ l. act_finding p r n a l k q (nth (books_of r q.book) q.at)) its_part
          ∙ ap (λ o. act_finding p r n a since k q o) there

      act_covered_so : (e : Event) → nth (books_of r q.book) q.at ≡ Some e → piece_serial p r n (OfAct i j k) ≡ kind_serial p r n q since e.kind
      act_covered_so e there =
          ap (λ o. act_serial p r n j k o) entry ∙ ap (λ o. serial_at p r n (part_of j k ran.trace) o) here ∙ ap (λ l. event_serial p r n q l (nth (books_of r q.book) q.at)) its_part
          ∙ ap (λ o. event_serial p r n q since o) there

      -- an event of this kind
      abbrev Kind : EventKind → List Piece → Type 0
      Kind d xs = (pieces_finding p r n xs ≡ kind_found p r n a k q g since outs d go) × (pieces_serial p r n xs ≡ kind_covered p r n q g since d go_covered)

      abbrev told : EventKind → List ℕ
      told d = kind_prints p r n q since d (λ since1. prints since1 qs)

      by_kind : (e : Event) → nth (books_of r q.book) q.at ≡ Some e → (d : EventKind) → e.kind ≡ d → prints [] ran.trace ≡ outs ++ told d → Kind d (if is_act_kind d then OfAct i j k ∷ act_pieces (books_of r) i (suc k) (suc k) qs else act_pieces (books_of r) i j (suc k) qs)
      by_kind e there (Act h number new sends) is h1 =
          let done = take q.at (books_of r q.book) in
          let o = next_action (cells_of p.cells) done g in
          let found = action_found p r n a (k - length since) k done g since new sends o in
          let covered = action_covered p r n done g since o in
          let out = action_prints p r n done g since o in
          let its : h ≡ g = own k q here e there h number new sends is in
          let more = rest_of (suc k) [] (outs ++ out)
          (record {
            whole = whole_on;
            begun = (let l = longer_front front q in omega (arith, l));
            part = sym (subst (λ m. drop m (front ++ q ∷ []) ≡ []) (longer_front front q) (drop_whole (front ++ q ∷ [])));
            printed = h1 ∙ ap (λ (c : CellId). outs ++ (action_prints p r n done c since (next_action (cells_of p.cells) done c) ++ prints [] qs)) its ∙ sym (append_assoc outs out (prints [] qs));
          }) in
          let one : piece_finding p r n (OfAct i j k) ≡ found =
          act_found_so e there ∙ ap (kind_finding p r n a since k q) is ∙ ap (λ (c : CellId). action_found p r n a (k - length since) k done c since new sends (next_action (cells_of p.cells) done c)) its in
          let two : piece_serial p r n (OfAct i j k) ≡ covered = act_covered_so e there ∙ ap (kind_serial p r n q since) is ∙ ap (λ (c : CellId). action_covered p r n done c since (next_action (cells_of p.cells) done c)) its in
          let tail = act_pieces (books_of r) i (suc k) (suc k) qs in (
            ap (λ f. and_then f (pieces_finding p r n tail)) one ∙ ap (and_then found) more.0,
            ap (λ b. b && pieces_serial p r n tail) two ∙ ap (λ b. covered && b) more.1,
          )
      by_kind e there (Read c) is h1 = joined h1
      by_kind e there (Commit at1 view ws sends) is h1 = joined h1
      by_kind e there (Retry from c cause) is h1 = joined h1
      by_kind e there (Fail at1 view) is h1 = joined h1
      by_kind e there (Refused at1 view h) is h1 = joined h1
      by_kind e there (Send x) is h1 = joined h1
      by_kind e there (SendRefused h) is h1 = joined h1
      by_kind e there (Swap new) is h1 = joined h1
      by_kind e there (Broke at1) is h1 = joined h1

      step_same : (o : Option Event) → nth (books_of r q.book) q.at ≡ o → prints [] ran.trace ≡ outs ++ prints_at p r n q since o (λ since1. prints since1 qs)
          → (pieces_finding p r n (if is_act o then OfAct i j k ∷ act_pieces (books_of r) i (suc k) (suc k) qs else act_pieces (books_of r) i j (suc k) qs) ≡ event_found p r n a k q g since outs o go)
          × (pieces_serial p r n (if is_act o then OfAct i j k ∷ act_pieces (books_of r) i (suc k) (suc k) qs else act_pieces (books_of r) i j (suc k) qs) ≡ event_covered p r n q g since o go_covered)
      step_same None there h1 = joined h1
      step_same (Some e) there h1 = by_kind e there e.kind refl h1

    acts_whole : (j : ℕ) (front qs since : List Place) (outs : List ℕ) → At j front qs since outs → Same j front qs since outs
    acts_whole j front [] since outs at = end_same j front since outs at
    acts_whole j front (q ∷ qs) since outs at =
        step_same j front q qs since outs at (λ j1 since1 outs1 h. acts_whole j1 (front ++ q ∷ []) qs since1 outs1 h) (nth (books_of r q.book) q.at) refl at.printed

    all_acts : (pieces_finding p r n (act_pieces (books_of r) i 0 0 ran.trace) ≡ acts_found p r n a 0 g [] [] ran.trace ran) × (pieces_serial p r n (act_pieces (books_of r) i 0 0 ran.trace) ≡ acts_covered p r n g [] ran.trace)
    all_acts = acts_whole 0 [] ran.trace [] [] (record { whole = refl; begun = omega arith; part = refl; printed = refl })

  abbrev AllOwn : Type 0
  AllOwn = (i : ℕ) (g : CellId) (ran : PlainActorReport) → nth (agents_from 0 p.cells) i ≡ Some g → nth r.agents i ≡ Some ran → IsOwn g ran.trace

  agents_whole : AllOwn → (i : ℕ) (gs : List CellId) (rans : List PlainActorReport) → length rans ≡ length gs → ((k : ℕ) → nth (agents_from 0 p.cells) (i + k) ≡ nth gs k) → ((k : ℕ) → nth r.agents (i + k) ≡ nth rans k)
      → (pieces_finding p r n (agent_pieces (books_of r) i rans) ≡ agents_found p r n (length p.threads + i) gs rans) × (pieces_serial p r n (agent_pieces (books_of r) i rans) ≡ agents_serial p r n gs rans)
  agents_whole own i [] [] many h e = (refl, refl)
  agents_whole own i [] (x ∷ xs) many h e = absurd (omega (arith, many))
  agents_whole own i (g ∷ gs) [] many h e = absurd (omega (arith, many))
  agents_whole own i (g ∷ gs) (x ∷ xs) many h e =
      let a = length p.threads + i in
      let fewer : length xs ≡ length gs = omega (arith, many) in
      let z : length p.threads + suc i ≡ suc (length p.threads + i) = omega arith in
      let rest = agents_whole own (suc i) gs xs fewer (next_of (agents_from 0 p.cells) i g gs h) (next_of r.agents i x xs e) in
      let agent = here_of (agents_from 0 p.cells) i g gs h in
      let entry = here_of r.agents i x xs e in
      let acts = all_acts i g x agent entry (own i g x agent entry) in
      let one = act_pieces (books_of r) i 0 0 x.trace in
      let others = agent_pieces (books_of r) (suc i) xs in
      let behind : pieces_finding p r n others ≡ agents_found p r n (suc a) gs xs = rest.0 ∙ ap (λ b. agents_found p r n b gs xs) z in (
        found_both one others ∙ ap (λ f. and_then f (pieces_finding p r n others)) acts.0 ∙ ap (and_then (acts_found p r n a 0 g [] [] x.trace x)) behind,
        serial_both one others ∙ ap (λ b. b && pieces_serial p r n others) acts.1 ∙ ap (λ b. acts_covered p r n g [] x.trace && b) rest.1,
      )

pub halves_are_whole : HalvesAreWhole
halves_are_whole p r n xs ys = (found_both p r n xs ys, serial_both p r n xs ys)

from_first : {A : Type 0} (xs : List A) (i : ℕ) → nth xs (0 + i) ≡ nth xs i
from_first xs i = let w : 0 + i ≡ i = omega arith in ap (nth xs) w

pub pieces_are_all : PiecesAreAll
pieces_are_all p w r n sizes traces store atoms ends order =
    let sized = sized_of p r sizes in
    let gs = agents_from 0 p.cells in
    let threads = threads_whole p r n 0 p.threads r.threads sized.threads (from_first p.threads) (from_first r.threads) in
    let z : length p.threads + 0 ≡ length p.threads = omega arith in
    let agents = agents_whole p r n (own_act p r sizes traces store atoms) 0 gs r.agents sized.agents (from_first gs) (from_first r.agents) in
    let found_agents = agents.0 ∙ ap (λ a. agents_found p r n a gs r.agents) z in
    let ours = thread_pieces 0 r.threads in
    let theirs = agent_pieces (books_of r) 0 r.agents in
    let tail : Finding = and_then (threads_found p r n 0 p.threads r.threads) (agents_found p r n (length p.threads) gs r.agents) in
    let whole : pieces_finding p r n (pieces_of r) ≡ tail = found_both p r n ours theirs ∙ ap (λ f. and_then f (pieces_finding p r n theirs)) threads.0 ∙ ap (and_then (threads_found p r n 0 p.threads r.threads)) found_agents in
    let s = are_serial p r n p.threads r.threads && agents_serial p r n gs r.agents in
    let serial : pieces_serial p r n (pieces_of r) ≡ s = serial_both p r n ours theirs ∙ ap (λ b. b && pieces_serial p r n theirs) threads.1 ∙ ap (λ b. are_serial p r n p.threads r.threads && b) agents.1 in
    let tr : Finding = traces_found (books_of r) (suc (length r.atom_books)) 0 (r.threads ++ r.agents) in
    let st : Finding = store_found p r in
    let at : Finding = atoms_found p r (atoms_from 0 p.cells) in
    let fin : Finding = ends_found p w r in
    let ord : Finding = order_found p r in
    let last : Finding = and_then fin (and_then ord tail) in
    ap (λ b. answer (and_then (check b 0 0) (and_then tr (and_then st (and_then at last)))) s) sizes
    ∙ ap (λ f. answer (and_then f (and_then st (and_then at last))) s) traces
    ∙ ap (λ f. answer (and_then f (and_then at last)) s) store
    ∙ ap (λ f. answer (and_then f last) s) atoms
    ∙ ap (λ f. answer (and_then f (and_then ord tail)) s) ends
    ∙ ap (λ f. answer (and_then f tail) s) order
    ∙ sym (ap (λ f. answer f (pieces_serial p r n (pieces_of r))) whole ∙ ap (answer tail) serial)
