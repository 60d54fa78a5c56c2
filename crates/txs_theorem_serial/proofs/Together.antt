-- The commits of a run are as if its transactions had run one after the other.
use Rattle.std.proofs.Common.{◌≡◌, ◌<◌, ◌≤◌, ℕ, zero, suc, ◌+◌, ◌==◌, ◌&&◌, ◌||◌, nat_lt, Bool, true, false, List, [], ◌∷◌, ◌++◌, length, take, Option, Some, None, refl, sym, ap, ◌∙◌, subst, arith, append_assoc, if◌then◌else◌}
use Rattle.std.specs.Prelude.{drop}
use Rattle.std.proofs.lemmas.Bool.{eq-eqb, eqb-true, false≢true}
use Rattle.std.proofs.lemmas.Bool.Decides.{nat_tests}
use Rattle.txs_world_protocol.specs.Ask.{Writes}
use Rattle.txs_world_protocol.specs.declared.event.Event.{Event}
use Rattle.txs_world_protocol.specs.declared.event.EventKind.{EventKind}
use Rattle.txs_world_protocol.specs.declared.event.EventKind.TheVariants.{Read, Commit, Retry, Fail, Refused, Send, SendRefused, Act, Swap, Broke}
use Rattle.txs_world_book.specs.Book.{Each, Legal, LegalKind, Untouched, actors, agents_below, after, changed, is_empty, makes, opening, written}
use Rattle.txs_world_book.specs.Served.{cells_of}
use Rattle.txs_world_book.proofs.Growth.{after_front}
use Rattle.txs_world_book.proofs.Older.{after_unwritten, named, ends}
use Rattle.txs_value_cell.specs.Agents.{agents_from, with_agent}
use Rattle.txs_value_cell.specs.Cells.{World, validators_of}
use Rattle.txs_value_cell.specs.Forms.{same_kind}
use Rattle.txs_value_cell.specs.declared.action.Action.{Action}
use Rattle.txs_value_cell.specs.declared.cell.CellDefinition.{CellDefinition}
use Rattle.txs_frame.specs.Frame.{PlainTxFrame, has_number, sends_of_commit}
use Rattle.txs_value_data.specs.Places.{nth}
use Rattle.txs_tree_meaning.specs.Sound.{SoundFunctions}
use Rattle.txs_tree_meaning.specs.Thread.{TxRun, is_held}
use Rattle.txs_tree_meaning.specs.Tree.{PlainFunction}
use Rattle.txs_value_data.specs.declared.value.CellId.{CellId}
use Rattle.txs_value_data.specs.declared.value.CellKind.{CellKind}
use Rattle.txs_value_data.specs.declared.value.CellKind.TheVariants.{Ref, Atom, Agent}
use Rattle.txs_theorem_threads.specs.Noted.{IsNone}
use Rattle.txs_theorem_runs.specs.Agents.{ActionDid}
use Rattle.txs_theorem_runs.specs.Shared.{world_of, seen_in}
use Rattle.txs_theorem_runs.specs.Told.{Place, TraceHolds, places_in, places_by, seen_before, seen_of}
use Rattle.txs_theorem_serial.specs.Laws.{CommitsSerial, RunsAreSerial}
use Rattle.txs_tree_meaning.specs.Marked.{MarkedFunctions}
use Rattle.txs_theorem_serial.specs.Serial.{is_covered, IsSerial, Committed, AgreeOn, RunOf, RunsOf}
use Rattle.txs_theorem_runs.specs.Transactions.{Says, SaidAt, SaidIf, SaidOf, undisturbed}
use Rattle.txs_theorem_serial.specs.Whole.{all_covered, serial_if_covered, all_traces, all_txs, is_act, is_act_kind, without_acts, holds_sends, with_runs, ActionsDid, AgentDid, ThreadDid, CommitAlone, EventAlone, OneByOne}
use Rattle.txs_tree_meaning.proofs.Callable.{both}
use Rattle.txs_theorem_serial.proofs.Alone.{covered_is_serial}

abbrev IsThere : {A : Type 0} → Option A → Type 0
IsThere None = ⊥
IsThere (Some a) = Unit {0}

-- ---- a place of a book

-- the events before a place, and from it on
parted : (k : ℕ) (es : List Event) → es ≡ take k es ++ drop k es
parted zero es = refl
parted (suc k) [] = refl
parted (suc k) (e ∷ es) = ap (λ l. e ∷ l) (parted k es)

many_before : (k : ℕ) (es : List Event) (e : Event) → nth es k ≡ Some e → length (take k es) ≡ k
many_before k [] e h = absurd (subst IsThere (sym h) tt)
many_before zero (d ∷ es) e h = refl
many_before (suc k) (d ∷ es) e h = let r = many_before k es e h in omega (arith, r)

-- what holds of each event holds of this one
each_at : (P : List Event → Event → Type 0) (done es : List Event) (k : ℕ) (e : Event) → Each P done es → nth es k ≡ Some e → P (done ++ take k es) e
each_at P done [] k e h there = absurd (subst IsThere (sym there) tt)
each_at P done (d ∷ es) zero e h there =
    let same : d ≡ e = cc in
    subst (λ l. P l e) (sym (append_none done)) (subst (P done) same h.0)
  where
    append_none : (xs : List Event) → xs ++ [] ≡ xs
    append_none [] = refl
    append_none (x ∷ xs) = ap (λ l. x ∷ l) (append_none xs)
each_at P done (d ∷ es) (suc k) e h there = subst (λ l. P l e) (append_assoc done (d ∷ []) (take k es)) (each_at P (done ++ d ∷ []) es k e h.1 there)

-- ---- what a transaction held

untouched_at : (done : List Event) (p : ℕ) (cs : List CellId) (k : ℕ) → Untouched done p cs → has_number cs k ≡ true → written k p done ≡ false
untouched_at done p [] k h there = absurd (false≢true there)
untouched_at done p (c ∷ cs) k h there = test (c.number == k) refl there (untouched_at done p cs k h.1)
  where
    test : (b : Bool) → (c.number == k) ≡ b → (b || has_number cs k) ≡ true → (has_number cs k ≡ true → written k p done ≡ false) → written k p done ≡ false
    test true e g rest = ap (λ j. written j p done) (sym (eqb-true c.number k e)) ∙ h.0
    test false e g rest = rest g

held_untouched : (done : List Event) (p : ℕ) (w : PlainTxFrame) (k : ℕ) → Untouched done p w.sets → Untouched done p w.ensures → is_held w k ≡ true → written k p done ≡ false
held_untouched done p w k sets ensures held = test (has_number w.sets k) refl held
  where
    test : (b : Bool) → has_number w.sets k ≡ b → (b || has_number w.ensures k) ≡ true → written k p done ≡ false
    test true e g = untouched_at done p w.sets k sets e
    test false e g = untouched_at done p w.ensures k ensures g

-- the worlds of a read point and of a place agree on what wasn't written between them
worlds_agree : (W : World) (book : List Event) (at k : ℕ) (e : Event) (w : PlainTxFrame) → nth book k ≡ Some e → at ≤ k → Untouched (take k book) at w.sets → Untouched (take k book) at w.ensures → AgreeOn w (after W book at) (after W book k)
worlds_agree W book at k e w there le sets ensures j held =
    let done = take k book in
    let rest = drop k book in
    let many : length done ≡ k = many_before k book e there in
    let whole : book ≡ done ++ rest = parted k book in
    let early : after W book at ≡ after W done at = ap (λ l. after W l at) whole ∙ after_front W done rest at (omega (arith, many, le)) in
    let late : after W book k ≡ after W done (length done) =
    ap (λ l. after W l k) whole ∙ after_front W done rest k (omega (arith, many)) ∙ ap (after W done) (sym many) in
    ap (λ (V : World). V j) early ∙ sym (after_unwritten W done at j (held_untouched done at w j sets ensures held)) ∙ sym (ap (λ (V : World). V j) late)

-- ---- one thread, or one action

module _ (functions : List PlainFunction) (turns : ℕ) (held : Option (List Action)) (cells : List CellDefinition) (threads : ℕ) (books : ℕ → List Event) (sound : SoundFunctions [] functions) (marks : MarkedFunctions functions) (legal : Legal (cells_of cells) threads (books 0)) where
  -- a commit of the store's book names an earlier place
  earlier : (k at view : ℕ) (ws : Writes) (sends : List Action) (e : Event) → nth (books 0) k ≡ Some e → e.kind ≡ Commit at view ws sends → at ≤ k
  earlier k at view ws sends e there is =
      let h = each_at (λ done d. LegalKind (cells_of cells) done d.actor d.kind) [] (books 0) k e legal.each there in
      let l = subst (λ d. LegalKind (cells_of cells) (take k (books 0)) e.actor d) is h in
      let x = ends (take k (books 0)) e.actor at view l.2 in
      let bound = named true (take k (books 0)) e.actor view x.viewed in
      let order = x.order in
      omega (arith, bound, order, many_before k (books 0) e there)

  abbrev DidCommit : ℕ → ℕ → ℕ → Writes → List Action → TxRun → Type 0
  DidCommit n k at ws sends x = Committed functions (validators_of cells) held turns x (world_of cells n (books n) at) (world_of cells n (books n) k) ws sends

  -- a commit at its place
  commit_serial : (n k at view : ℕ) (ws : Writes) (sends : List Action) (e : Event) (x : TxRun) → nth (books n) k ≡ Some e → e.kind ≡ Commit at view ws sends
      → n ≡ 0 → DidCommit n k at ws sends x → Untouched (take k (books n)) at x.state.done.sets × Untouched (take k (books n)) at x.state.done.ensures
      → is_covered x.state ≡ true → IsSerial functions (validators_of cells) turns x (world_of cells 0 (books 0) k) ws x.state.done.sends
  commit_serial zero k at view ws sends e x there is home did calm covered =
      covered_is_serial functions (validators_of cells) turns held x (world_of cells 0 (books 0) at) (world_of cells 0 (books 0) k) ws sends sound marks did covered
      (worlds_agree (opening (cells_of cells)) (books 0) at k e x.state.done there (earlier k at view ws sends e there is) calm.0 calm.1)
  commit_serial (suc n) k at view ws sends e x there is home did calm covered = absurd (omega (arith, home))

  abbrev Rest : List Place → List TxRun → Type 0
  Rest ps xs = RunsOf functions (validators_of cells) held turns (seen_of cells books ps) xs × SaidOf (undisturbed cells books) books ps xs

  -- what follows of each commit
  module _ (S : Says) (gives : (n k at view : ℕ) (ws : Writes) (sends : List Action) (e : Event) (x : TxRun) → nth (books n) k ≡ Some e → e.kind ≡ Commit at view ws sends
      → n ≡ 0 → DidCommit n k at ws sends x → Untouched (take k (books n)) at x.state.done.sets × Untouched (take k (books n)) at x.state.done.ensures → S.commit n k at ws sends x) (refused : (n k at : ℕ) (g : CellId) (x : TxRun) → n ≡ 0 → S.refusal n k at g x) where
    abbrev Serial : List Place → List TxRun → Type 0
    Serial ps xs = SaidOf S books ps xs

    -- the event at a place, and then those behind it
    step : (p : Place) (ps : List Place) (e : Event) → nth (books p.book) p.at ≡ Some e → ((ys : List TxRun) → RunsOf functions (validators_of cells) held turns (seen_of cells books ps) ys → SaidOf (undisturbed cells books) books ps ys → Serial ps ys) → (d : EventKind) → e.kind ≡ d → (xs : List TxRun)
        → RunOf functions (validators_of cells) held turns p.book d (seen_in cells p.book (books p.book) p.at d).R (seen_in cells p.book (books p.book) p.at d).Q (seen_in cells p.book (books p.book) p.at d).C (λ ys. RunsOf functions (validators_of cells) held turns (seen_of cells books ps) ys) xs
        → SaidAt (undisturbed cells books) p d (λ ys. SaidOf (undisturbed cells books) books ps ys) xs → SaidAt S p d (λ ys. Serial ps ys) xs
    step p ps e there next (Read c) is xs r u = next xs r u
    step p ps e there next (Commit at view ws sends) is [] r u = absurd r
    step p ps e there next (Commit at view ws sends) is (x ∷ xs) r u = (gives p.book p.at at view ws sends e x there is r.0.0 r.0.1 u.0, next xs r.1 u.1)
    step p ps e there next (Retry since c cause) is xs r u = next xs r u
    step p ps e there next (Fail at view) is xs r u = next xs r u
    step p ps e there next (Refused at view g) is [] r u = absurd r
    step p ps e there next (Refused at view g) is (x ∷ xs) r u = (refused p.book p.at at g x r.0.0, next xs r.1 u.1)
    step p ps e there next (Send x) is xs r u = next xs r u
    step p ps e there next (SendRefused g) is xs r u = next xs r u
    step p ps e there next (Act g n new sends) is xs r u = next xs r u
    step p ps e there next (Swap new) is xs r u = next xs r u
    step p ps e there next (Broke at) is xs r u = next xs r u

    serial_runs : (ps : List Place) (xs : List TxRun) → RunsOf functions (validators_of cells) held turns (seen_of cells books ps) xs → SaidOf (undisturbed cells books) books ps xs → Serial ps xs
    serial_runs [] xs r u = r
    serial_runs (p ∷ ps) xs r u = go (nth (books p.book) p.at) refl r u (λ ys s v. serial_runs ps ys s v)
      where
        go : (o : Option Event) → nth (books p.book) p.at ≡ o → RunsOf functions (validators_of cells) held turns (seen_before cells books p o (seen_of cells books ps)) xs → SaidIf (undisturbed cells books) p o (λ ys. SaidOf (undisturbed cells books) books ps ys) xs
            → ((ys : List TxRun) → RunsOf functions (validators_of cells) held turns (seen_of cells books ps) ys → SaidOf (undisturbed cells books) books ps ys → Serial ps ys) → SaidIf S p o (λ ys. Serial ps ys) xs
        go None e s v next = next xs s v
        go (Some d) e s v next = step p ps d e next d.kind refl xs s v

pub commits_serial : CommitsSerial
commits_serial functions turns cells threads books a trace xs sound marks legal did =
    serial_runs functions turns None cells threads books sound marks legal (serial_if_covered functions turns cells books)
    (λ n k at view ws sends e x there is home d calm. (home, commit_serial functions turns None cells threads books sound marks legal n k at view ws sends e x there is home d calm)) (λ n k at g x home. home) trace xs did.runs did.calm

-- the same of an action
pub action_serial : (functions : List PlainFunction) (turns : ℕ) (cells : List CellDefinition) (threads : ℕ) (books : ℕ → List Event) (trace : List Place) (xs : List TxRun) → SoundFunctions [] functions → MarkedFunctions functions → Legal (cells_of cells) threads (books 0)
    → RunsOf functions (validators_of cells) (Some []) turns (seen_of cells books trace) xs → SaidOf (undisturbed cells books) books trace xs → SaidOf (serial_if_covered functions turns cells books) books trace xs
action_serial functions turns cells threads books trace xs sound marks legal runs calm =
    serial_runs functions turns (Some []) cells threads books sound marks legal (serial_if_covered functions turns cells books)
    (λ n k at view ws sends e x there is home d calm1. (home, commit_serial functions turns (Some []) cells threads books sound marks legal n k at view ws sends e x there is home d calm1)) (λ n k at g x home. home) trace xs runs calm

-- what is said of one trace and then another
module _ (S : Says) (books : ℕ → List Event) where
  said_at : (p : Place) (d : EventKind) (rest next : List TxRun → Type 0) (xs ys : List TxRun) → ((zs : List TxRun) → rest zs → next (zs ++ ys)) → SaidAt S p d rest xs → SaidAt S p d next (xs ++ ys)
  said_at p (Read c) rest next xs ys h r = h xs r
  said_at p (Commit at view ws sends) rest next [] ys h r = absurd r
  said_at p (Commit at view ws sends) rest next (x ∷ xs) ys h r = (r.0, h xs r.1)
  said_at p (Retry since c cause) rest next xs ys h r = h xs r
  said_at p (Fail at view) rest next xs ys h r = h xs r
  said_at p (Refused at view g) rest next [] ys h r = absurd r
  said_at p (Refused at view g) rest next (x ∷ xs) ys h r = (r.0, h xs r.1)
  said_at p (Send x) rest next xs ys h r = h xs r
  said_at p (SendRefused g) rest next xs ys h r = h xs r
  said_at p (Act g n new sends) rest next xs ys h r = h xs r
  said_at p (Swap new) rest next xs ys h r = h xs r
  said_at p (Broke at) rest next xs ys h r = h xs r

  said_if : (p : Place) (o : Option Event) (rest next : List TxRun → Type 0) (xs ys : List TxRun) → ((zs : List TxRun) → rest zs → next (zs ++ ys)) → SaidIf S p o rest xs → SaidIf S p o next (xs ++ ys)
  said_if p None rest next xs ys h r = h xs r
  said_if p (Some e) rest next xs ys h r = said_at p e.kind rest next xs ys h r

  pub said_both : (ps qs : List Place) (xs ys : List TxRun) → SaidOf S books ps xs → SaidOf S books qs ys → SaidOf S books (ps ++ qs) (xs ++ ys)
  said_both [] qs [] ys h k = k
  said_both [] qs (x ∷ xs) ys h k = absurd h
  said_both (p ∷ ps) qs xs ys h k = said_if p (nth (books p.book) p.at) (λ zs. SaidOf S books ps zs) (λ zs. SaidOf S books (ps ++ qs) zs) xs ys (λ zs r. said_both ps qs zs ys r k) h

-- ---- what is said of the transactions of a trace

-- what is said of the events behind may be carried over
said_on : (S : Says) (p : Place) (d : EventKind) (rest next : List TxRun → Type 0) (xs : List TxRun) → ((zs : List TxRun) → rest zs → next zs) → SaidAt S p d rest xs → SaidAt S p d next xs
said_on S p (Read c) rest next xs h r = h xs r
said_on S p (Commit at view ws sends) rest next [] h r = absurd r
said_on S p (Commit at view ws sends) rest next (x ∷ xs) h r = (r.0, h xs r.1)
said_on S p (Retry since c cause) rest next xs h r = h xs r
said_on S p (Fail at view) rest next xs h r = h xs r
said_on S p (Refused at view g) rest next [] h r = absurd r
said_on S p (Refused at view g) rest next (x ∷ xs) h r = (r.0, h xs r.1)
said_on S p (Send x) rest next xs h r = h xs r
said_on S p (SendRefused g) rest next xs h r = h xs r
said_on S p (Act g n new sends) rest next xs h r = h xs r
said_on S p (Swap new) rest next xs h r = h xs r
said_on S p (Broke at) rest next xs h r = h xs r

-- what follows of two things that are said of each transaction
module _ (S T U : Says) (commit : (n k at : ℕ) (ws : Writes) (sends : List Action) (x : TxRun) → S.commit n k at ws sends x → T.commit n k at ws sends x → U.commit n k at ws sends x)
    (refusal : (n k at : ℕ) (g : CellId) (x : TxRun) → S.refusal n k at g x → T.refusal n k at g x → U.refusal n k at g x) (books : ℕ → List Event) where
  follows_at : (p : Place) (d : EventKind) (ps : List Place) (xs : List TxRun) → ((ys : List TxRun) → SaidOf S books ps ys → SaidOf T books ps ys → SaidOf U books ps ys)
      → SaidAt S p d (λ ys. SaidOf S books ps ys) xs → SaidAt T p d (λ ys. SaidOf T books ps ys) xs → SaidAt U p d (λ ys. SaidOf U books ps ys) xs
  follows_at p (Read c) ps xs next s t = next xs s t
  follows_at p (Commit at view ws sends) ps [] next s t = absurd s
  follows_at p (Commit at view ws sends) ps (x ∷ xs) next s t = (commit p.book p.at at ws sends x s.0 t.0, next xs s.1 t.1)
  follows_at p (Retry since c cause) ps xs next s t = next xs s t
  follows_at p (Fail at view) ps xs next s t = next xs s t
  follows_at p (Refused at view g) ps [] next s t = absurd s
  follows_at p (Refused at view g) ps (x ∷ xs) next s t = (refusal p.book p.at at g x s.0 t.0, next xs s.1 t.1)
  follows_at p (Send x) ps xs next s t = next xs s t
  follows_at p (SendRefused g) ps xs next s t = next xs s t
  follows_at p (Act g n new sends) ps xs next s t = next xs s t
  follows_at p (Swap new) ps xs next s t = next xs s t
  follows_at p (Broke at) ps xs next s t = next xs s t

  follows : (ps : List Place) (xs : List TxRun) → SaidOf S books ps xs → SaidOf T books ps xs → SaidOf U books ps xs
  follows [] xs s t = s
  follows (p ∷ ps) xs s t = go (nth (books p.book) p.at) s t (λ ys u v. follows ps ys u v)
    where
      go : (o : Option Event) → SaidIf S p o (λ ys. SaidOf S books ps ys) xs → SaidIf T p o (λ ys. SaidOf T books ps ys) xs → ((ys : List TxRun) → SaidOf S books ps ys → SaidOf T books ps ys → SaidOf U books ps ys) → SaidIf U p o (λ ys. SaidOf U books ps ys) xs
      go None u v next = next xs u v
      go (Some d) u v next = follows_at p d.kind ps xs next u v

-- acts have no transactions
module _ (S : Says) (books : ℕ → List Event) where
  act_says : (p : Place) (d : EventKind) (rest : List TxRun → Type 0) (xs : List TxRun) → is_act_kind d ≡ true → rest xs → SaidAt S p d rest xs
  act_says p (Act g n new sends) rest xs h r = r
  act_says p _ rest xs h r = absurd (false≢true h)

  module _ (p : Place) (ps : List Place) (next : (ys : List TxRun) → SaidOf S books (without_acts books ps) ys → SaidOf S books ps ys) (xs : List TxRun) where
    abbrev Without : List TxRun → Type 0
    Without ys = SaidOf S books (without_acts books ps) ys

    abbrev Whole : List TxRun → Type 0
    Whole ys = SaidOf S books ps ys

    with_one : (e : Event) → nth (books p.book) p.at ≡ Some e → (act : Bool) → is_act_kind e.kind ≡ act → SaidOf S books (if act then without_acts books ps else p ∷ without_acts books ps) xs → SaidAt S p e.kind Whole xs
    with_one e there true is r = act_says p e.kind Whole xs is (next xs r)
    with_one e there false is r = said_on S p e.kind Without Whole xs next (subst (λ o. SaidIf S p o Without xs) there r)

    with_first : (o : Option Event) → nth (books p.book) p.at ≡ o → SaidOf S books (if is_act o then without_acts books ps else p ∷ without_acts books ps) xs → SaidIf S p o Whole xs
    with_first None there r = next xs (subst (λ o. SaidIf S p o Without xs) there r)
    with_first (Some e) there r = with_one e there (is_act_kind e.kind) refl r

  pub with_acts : (ps : List Place) (xs : List TxRun) → SaidOf S books (without_acts books ps) xs → SaidOf S books ps xs
  with_acts [] xs s = s
  with_acts (p ∷ ps) xs s = with_first p ps (λ ys r. with_acts ps ys r) xs (nth (books p.book) p.at) refl s

-- ---- the transactions in the store's book

-- an index of the store's book
store : ℕ → Place
store k = record { book = 0; at = k }

in_own : List ℕ → List Place
in_own [] = []
in_own (k ∷ ks) = store k ∷ in_own ks

module _ (S : Says) (books : ℕ → List Event) (commit_home : (n k at : ℕ) (ws : Writes) (sends : List Action) (x : TxRun) → S.commit n k at ws sends x → n ≡ 0) (refusal_home : (n k at : ℕ) (g : CellId) (x : TxRun) → S.refusal n k at g x → n ≡ 0) where
  -- an event of another book has no transaction
  elsewhere : (p : Place) (d : EventKind) (rest : List TxRun → Type 0) (xs : List TxRun) → (p.book == 0) ≡ false → SaidAt S p d rest xs → rest xs
  elsewhere p (Commit at view ws sends) rest [] other s = absurd s
  elsewhere p (Commit at view ws sends) rest (x ∷ xs) other s = absurd (false≢true (sym other ∙ eq-eqb p.book 0 (commit_home p.book p.at at ws sends x s.0)))
  elsewhere p (Refused at view g) rest [] other s = absurd s
  elsewhere p (Refused at view g) rest (x ∷ xs) other s = absurd (false≢true (sym other ∙ eq-eqb p.book 0 (refusal_home p.book p.at at g x s.0)))
  elsewhere p _ rest xs other s = s

  -- so the transactions are those of the trace's places in the store's book
  module _ (p : Place) (ps : List Place) (next : (ys : List TxRun) → SaidOf S books ps ys → SaidOf S books (in_own (places_in 0 ps)) ys) (xs : List TxRun) where
    abbrev All : List TxRun → Type 0
    All ys = SaidOf S books ps ys

    abbrev Stored : List TxRun → Type 0
    Stored ys = SaidOf S books (in_own (places_in 0 ps)) ys

    abbrev at_book : ℕ → Place
    at_book b = record { book = b; at = p.at }

    own_first : (o : Option Event) → SaidIf S p o All xs → SaidIf S p o Stored xs
    own_first None r = next xs r
    own_first (Some e) r = said_on S p e.kind All Stored xs next r

    other_first : (o : Option Event) → (p.book == 0) ≡ false → SaidIf S p o All xs → All xs
    other_first None other r = r
    other_first (Some e) other r = elsewhere p e.kind All xs other r

    first_in_store : (b : Bool) → (p.book == 0) ≡ b → SaidOf S books (p ∷ ps) xs → SaidOf S books (in_own (if b then p.at ∷ places_in 0 ps else places_in 0 ps)) xs
    unfolding store in_own
    first_in_store true e s = subst (λ b. SaidIf S (at_book b) (nth (books b) p.at) Stored xs) (eqb-true p.book 0 e) (own_first (nth (books p.book) p.at) s)
    first_in_store false e s = next xs (other_first (nth (books p.book) p.at) e s)

  in_store : (ps : List Place) (xs : List TxRun) → SaidOf S books ps xs → SaidOf S books (in_own (places_in 0 ps)) xs
  unfolding in_own
  in_store [] xs s = s
  in_store (p ∷ ps) xs s = first_in_store p ps (λ ys r. in_store ps ys r) xs (p.book == 0) refl s

-- ---- one after the other

none_left : (xs : List TxRun) → IsNone xs → xs ≡ []
none_left [] h = refl
none_left (x ∷ xs) h = absurd h

module _ (functions : List PlainFunction) (cells : List CellDefinition) (threads : ℕ) (books : ℕ → List Event) where
  -- each transaction came to its end in the store's book, and a commit is what it does alone there
  abbrev alone : ℕ → Says
  alone a = record {
    commit = λ n k at ws sends x. (n ≡ 0) × CommitAlone functions (validators_of cells) threads a (world_of cells 0 (books 0) k) ws sends x;
    refusal = λ n k at g x. n ≡ 0;
  }

  -- the same of a covered one
  abbrev alone_if_covered : ℕ → Says
  alone_if_covered a = record {
    commit = λ n k at ws sends x. (n ≡ 0) × (is_covered x.state ≡ true → CommitAlone functions (validators_of cells) threads a (world_of cells 0 (books 0) k) ws sends x);
    refusal = λ n k at g x. n ≡ 0;
  }

  -- these are the transactions of an actor's events among these, which are those of the store's book from a place on
  abbrev Own : ℕ → ℕ → List Event → List TxRun → Type 0
  Own a k es xs = SaidOf (alone a) books (in_own (places_by a k es)) xs

  abbrev Standing : ℕ → List Event → Type 0
  Standing k es = (j : ℕ) (e : Event) → nth es j ≡ Some e → nth (books 0) (k + j) ≡ Some e

  further : (k : ℕ) (e : Event) (es : List Event) → Standing k (e ∷ es) → Standing (suc k) es
  further k e es stands j d there = let z : k + suc j ≡ suc k + j = omega arith in subst (λ i. nth (books 0) i ≡ Some d) z (stands (suc j) d there)

  first : (k : ℕ) (e : Event) (es : List Event) → Standing k (e ∷ es) → nth (books 0) k ≡ Some e
  first k e es stands = let z : k + 0 ≡ k = omega arith in subst (λ i. nth (books 0) i ≡ Some e) z (stands 0 e refl)

  -- the actor's own event is the first
  at_own : (k : ℕ) (e : Event) (es : List Event) (xs : List TxRun) → Standing k (e ∷ es) → Own e.actor k (e ∷ es) xs → SaidAt (alone e.actor) (store k) e.kind (λ ys. Own e.actor (suc k) es ys) xs
  unfolding store in_own
  at_own k e es xs stands h =
      let here = subst (λ (b : Bool). SaidOf (alone e.actor) books (in_own (if b then k ∷ places_by e.actor (suc k) es else places_by e.actor (suc k) es)) xs) (eq-eqb e.actor e.actor refl) h in
      subst (λ o. SaidIf (alone e.actor) (store k) o (λ ys. Own e.actor (suc k) es ys) xs) (first k e es stands) here

  -- the first is another actor's
  at_other : (a k : ℕ) (e : Event) (es : List Event) (xs : List TxRun) → (e.actor == a) ≡ false → Own a k (e ∷ es) xs → Own a (suc k) es xs
  at_other a k e es xs other h = subst (λ (b : Bool). SaidOf (alone a) books (in_own (if b then k ∷ places_by a (suc k) es else places_by a (suc k) es)) xs) other h

  module _ (k : ℕ) (e : Event) (es : List Event) (W : World) (runs : ℕ → List TxRun) (world : (j : ℕ) → after (opening (cells_of cells)) (books 0) (k + j) ≡ after W (e ∷ es) j) (h : (a : ℕ) → Own a k (e ∷ es) (runs a)) where
    abbrev Next : Type 0
    Next = (V : World) (left : ℕ → List TxRun) → ((j : ℕ) → after (opening (cells_of cells)) (books 0) (suc k + j) ≡ after V es j) → ((a : ℕ) → Own a (suc k) es (left a)) → OneByOne functions (validators_of cells) threads left V es

    here : world_of cells 0 (books 0) k ≡ W
    here = let z : k + 0 ≡ k = omega arith in subst (λ i. after (opening (cells_of cells)) (books 0) i ≡ W) z (world 0)

    behind : (d : EventKind) → e.kind ≡ d → (j : ℕ) → after (opening (cells_of cells)) (books 0) (suc k + j) ≡ after (changed d W) es j
    behind d is j =
        let z : k + suc j ≡ suc k + j = omega arith in
        subst (λ i. after (opening (cells_of cells)) (books 0) i ≡ after (changed d W) es j) z (world (suc j) ∙ ap (λ c. after (changed c W) es j) is)

    -- where the actor's transactions to come are these
    left_own : (xs : List TxRun) → Own e.actor (suc k) es xs → (a : ℕ) → Own a (suc k) es (with_runs e.actor xs runs a)
    left_own xs own a = test (e.actor == a) refl
      where
        test : (b : Bool) → (e.actor == a) ≡ b → Own a (suc k) es (if b then xs else runs a)
        test true same = subst (λ i. Own i (suc k) es xs) (eqb-true e.actor a same) own
        test false other = at_other a k e es (runs a) other (h a)

    -- where they are as they were
    all_own : Own e.actor (suc k) es (runs e.actor) → (a : ℕ) → Own a (suc k) es (runs a)
    all_own own a = test (e.actor == a) refl
      where
        test : (b : Bool) → (e.actor == a) ≡ b → Own a (suc k) es (runs a)
        test true same = subst (λ i. Own i (suc k) es (runs i)) (eqb-true e.actor a same) own
        test false other = at_other a k e es (runs a) other (h a)

    untaken : (d : EventKind) → e.kind ≡ d → (xs : List TxRun) → runs e.actor ≡ xs → Own e.actor (suc k) es xs → Next → OneByOne functions (validators_of cells) threads runs (changed d W) es
    untaken d is xs same own next = next (changed d W) runs (behind d is) (all_own (subst (λ ys. Own e.actor (suc k) es ys) (sym same) own))

    first_event : (d : EventKind) → e.kind ≡ d → (xs : List TxRun) → runs e.actor ≡ xs → SaidAt (alone e.actor) (store k) d (λ ys. Own e.actor (suc k) es ys) xs → Next
        → EventAlone functions (validators_of cells) threads e.actor W d runs (λ rest. OneByOne functions (validators_of cells) threads rest (changed d W) es)
    unfolding store
    first_event (Read c) is xs same s next = untaken (Read c) is xs same s next
    first_event (Commit at view ws sends) is [] same s next = absurd s
    first_event (Commit at view ws sends) is (x ∷ xs) same s next =
        (x, xs, same, subst (λ V. CommitAlone functions (validators_of cells) threads e.actor V ws sends x) here s.0.1, next (changed (Commit at view ws sends) W) (with_runs e.actor xs runs) (behind (Commit at view ws sends) is) (left_own xs s.1))
    first_event (Retry since c cause) is xs same s next = untaken (Retry since c cause) is xs same s next
    first_event (Fail at view) is xs same s next = untaken (Fail at view) is xs same s next
    first_event (Refused at view g) is [] same s next = absurd s
    first_event (Refused at view g) is (x ∷ xs) same s next = (x, xs, same, tt, next (changed (Refused at view g) W) (with_runs e.actor xs runs) (behind (Refused at view g) is) (left_own xs s.1))
    first_event (Send y) is xs same s next = untaken (Send y) is xs same s next
    first_event (SendRefused g) is xs same s next = untaken (SendRefused g) is xs same s next
    first_event (Act g n new sends) is xs same s next = untaken (Act g n new sends) is xs same s next
    first_event (Swap new) is xs same s next = untaken (Swap new) is xs same s next
    first_event (Broke at) is xs same s next = untaken (Broke at) is xs same s next

  one_by_one : (k : ℕ) (es : List Event) (W : World) (runs : ℕ → List TxRun) → Standing k es → ((j : ℕ) → after (opening (cells_of cells)) (books 0) (k + j) ≡ after W es j) → ((a : ℕ) → Own a k es (runs a)) → OneByOne functions (validators_of cells) threads runs W es
  unfolding in_own
  one_by_one k [] W runs stands world h = λ a. none_left (runs a) (h a)
  one_by_one k (e ∷ es) W runs stands world h =
      first_event k e es W runs world h e.kind refl (runs e.actor) refl (at_own k e es (runs e.actor) stands (h e.actor)) (λ V left w g. one_by_one (suc k) es V left (further k e es stands) w g)

  -- ---- those who aren't actors

  -- a transaction of the store's book is that of an actor
  thread_below : (a : ℕ) → nat_lt a threads ≡ true → a < actors threads (cells_of cells)
  thread_below a it = let lt : a < threads = grind (arith, nat_tests, it) in omega (arith, lt)

  commit_below : (a : ℕ) (b : Bool) → (nat_lt a threads || (b && nat_lt a (actors threads (cells_of cells)))) ≡ true → a < actors threads (cells_of cells)
  commit_below a b h = test (nat_lt a threads) refl
    where
      test : (c : Bool) → nat_lt a threads ≡ c → a < actors threads (cells_of cells)
      test true it = thread_below a it
      test false it =
          let rest : (b && nat_lt a (actors threads (cells_of cells))) ≡ true = sym (ap (λ (c : Bool). c || (b && nat_lt a (actors threads (cells_of cells)))) it) ∙ h in
          let last = (both b (nat_lt a (actors threads (cells_of cells))) rest).1 in
          grind (arith, nat_tests, last)

  no_others : (a : ℕ) → actors threads (cells_of cells) ≤ a → (k : ℕ) (es : List Event) → Standing k es → ((j : ℕ) (e : Event) → nth es j ≡ Some e → makes (cells_of cells) threads e.actor e.kind ≡ true) → Own a k es []
  unfolding store in_own
  no_others a le k [] stands made = tt
  no_others a le k (e ∷ es) stands made = test (e.actor == a) refl (no_others a le (suc k) es (further k e es stands) (λ j d there. made (suc j) d there))
    where
      past : e.actor ≡ a → e.actor < actors threads (cells_of cells) → ⊥
      past same lt = absurd (omega (arith, same, lt, le))

      takes_none : e.actor ≡ a → (d : EventKind) → makes (cells_of cells) threads e.actor d ≡ true → Own a (suc k) es [] → SaidAt (alone a) (store k) d (λ ys. Own a (suc k) es ys) []
      takes_none same (Commit at view ws sends) m rest = past same (commit_below e.actor (is_empty sends) m)
      takes_none same (Refused at view g) m rest = past same (thread_below e.actor m)
      takes_none same _ m rest = rest

      test : (b : Bool) → (e.actor == a) ≡ b → Own a (suc k) es [] → SaidOf (alone a) books (in_own (if b then k ∷ places_by a (suc k) es else places_by a (suc k) es)) []
      test true same rest = subst (λ o. SaidIf (alone a) (store k) o (λ ys. Own a (suc k) es ys) []) (sym (first k e es stands)) (takes_none (eqb-true e.actor a same) e.kind (made 0 e refl) rest)
      test false other rest = rest

-- ---- all actors

-- there are as many agents as the actors behind the threads
pub agents_many : (n : ℕ) (ds : List CellDefinition) → length (agents_from n ds) ≡ agents_below (cells_of ds) (length (cells_of ds))
agents_many n [] = refl
agents_many n (d ∷ ds) = go d.kind (agents_many (suc n) ds)
  where
    go : (k : CellKind) → length (agents_from (suc n) ds) ≡ agents_below (cells_of ds) (length (cells_of ds)) → length (with_agent k n (agents_from (suc n) ds)) ≡ (if same_kind k Agent then suc (agents_below (cells_of ds) (length (cells_of ds))) else agents_below (cells_of ds) (length (cells_of ds)))
    go Ref h = h
    go Atom h = h
    go Agent h = ap suc h

module _ (functions : List PlainFunction) (cells : List CellDefinition) (threads : ℕ) (books : ℕ → List Event) (turns : ℕ → ℕ) (traces : ℕ → List Place) (runs : ℕ → List TxRun)
    (sound : SoundFunctions [] functions) (marks : MarkedFunctions functions) (legal : Legal (cells_of cells) threads (books 0))
    (did : (a : ℕ) → a < threads → ThreadDid functions (turns a) cells books a (traces a) (runs a) × SaidOf all_covered books (traces a) (runs a))
    (agents : (a : ℕ) → threads ≤ a → a < actors threads (cells_of cells) → (ds : List ActionDid) × AgentDid functions cells books a (traces a) ds × (runs a ≡ all_txs ds) × SaidOf all_covered books (without_acts books (traces a)) (runs a))
    (others : (a : ℕ) → actors threads (cells_of cells) ≤ a → runs a ≡ []) where
  abbrev Alone : ℕ → Says
  Alone a = alone functions cells threads books a

  abbrev IfCovered : ℕ → Says
  IfCovered a = alone_if_covered functions cells threads books a

  -- what is said of the transactions of a thread or an action
  if_covered : (n a : ℕ) (held : Option (List Action)) → held ≡ holds_sends threads a → (ps : List Place) (xs : List TxRun) → RunsOf functions (validators_of cells) held n (seen_of cells books ps) xs → SaidOf (undisturbed cells books) books ps xs → SaidOf (IfCovered a) books ps xs
  if_covered n a held is ps xs r u =
      serial_runs functions n held cells threads books sound marks legal (IfCovered a)
      (λ b k at view ws sends e x there kind home d calm. (
        home,
        λ covered. (
          n,
          commit_serial functions n held cells threads books sound marks legal b k at view ws sends e x there kind home d calm covered,
          sym d.sends_same ∙ ap (λ (h : Option (List Action)). sends_of_commit h x.state.done.sends) is,
        ),
      )) (λ b k at g x home. home) ps xs r u

  -- of all actions of an agent
  actions_said : (a : ℕ) → Some [] ≡ holds_sends threads a → (ds : List ActionDid) → ActionsDid functions cells books ds → SaidOf (IfCovered a) books (all_traces ds) (all_txs ds)
  actions_said a is [] h = tt
  actions_said a is (d ∷ ds) h = said_both (IfCovered a) books d.trace (all_traces ds) d.txs (all_txs ds) (if_covered d.turns a (Some []) is d.trace d.txs h.0 h.1) (actions_said a is ds h.2)

  -- of an actor's trace
  own_of : (a : ℕ) → TraceHolds books a (traces a) → SaidOf (IfCovered a) books (traces a) (runs a) → SaidOf all_covered books (traces a) (runs a) → Own functions cells threads books a 0 (books 0) (runs a)
  own_of a traced said covered =
      let whole = follows (IfCovered a) all_covered (Alone a) (λ n k at ws sends x s c. (s.0, s.1 c)) (λ n k at g x s c. s) books (traces a) (runs a) said covered in
      subst (λ ks. SaidOf (Alone a) books (in_own ks) (runs a)) (traced 0) (in_store (Alone a) books (λ n k at ws sends x s. s.0) (λ n k at g x s. s) (traces a) (runs a) whole)

  own : (a : ℕ) → Own functions cells threads books a 0 (books 0) (runs a)
  own a = thread (nat_lt a threads) refl
    where
      behind : (b : Bool) → nat_lt a (actors threads (cells_of cells)) ≡ b → nat_lt a threads ≡ false → Own functions cells threads books a 0 (books 0) (runs a)
      behind true it other =
          let le : threads ≤ a = grind (arith, nat_tests, other) in
          let lt : a < actors threads (cells_of cells) = grind (arith, nat_tests, it) in
          let h = agents a le lt in
          let is : Some [] ≡ holds_sends threads a = sym (ap (λ (b : Bool). if b then None else Some []) other) in
          let said = subst (λ ps. SaidOf (IfCovered a) books ps (all_txs h.0)) (sym h.1.parted) (actions_said a is h.0 h.1.did) in
          own_of a h.1.traced (with_acts (IfCovered a) books (traces a) (runs a) (subst (λ xs. SaidOf (IfCovered a) books (without_acts books (traces a)) xs) (sym h.2) said)) (with_acts all_covered books (traces a) (runs a) h.3)
      behind false it other =
          let le : actors threads (cells_of cells) ≤ a = grind (arith, nat_tests, it) in
          subst (λ xs. Own functions cells threads books a 0 (books 0) xs) (sym (others a le))
          (no_others functions cells threads books a le 0 (books 0) (λ j e there. (let z : j ≡ 0 + j = omega arith in subst (λ i. nth (books 0) i ≡ Some e) z there))
          (λ j e there. each_at (λ done d. makes (cells_of cells) threads d.actor d.kind ≡ true) [] (books 0) j e legal.made there))

      thread : (b : Bool) → nat_lt a threads ≡ b → Own functions cells threads books a 0 (books 0) (runs a)
      thread true it =
          let lt : a < threads = grind (arith, nat_tests, it) in
          let h = did a lt in
          let is : None ≡ holds_sends threads a = sym (ap (λ (b : Bool). if b then None else Some []) it) in
          own_of a h.0.traced (if_covered (turns a) a None is (traces a) (runs a) h.0.runs h.0.calm) h.1
      thread false it = behind (nat_lt a (actors threads (cells_of cells))) refl it

pub runs_are_serial : RunsAreSerial
runs_are_serial functions cells threads books turns traces runs sound marks legal did agents others =
    one_by_one functions cells threads books 0 (books 0) (opening (cells_of cells)) runs (λ j e there. (let z : j ≡ 0 + j = omega arith in subst (λ i. nth (books 0) i ≡ Some e) z there))
    (λ j. (let z : 0 + j ≡ j = omega arith in ap (λ i. after (opening (cells_of cells)) (books 0) i) z)) (own functions cells threads books turns traces runs sound marks legal did agents others)
