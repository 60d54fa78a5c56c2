-- What actors did over what they share is what a report says of them, and what each program that the code follows means.
use Rattle.std.proofs.Common.{◌≡◌, ◌≤◌, ◌+◌, ℕ, zero, suc, List, [], ◌∷◌, ◌++◌, length, map, Option, Some, None, refl, sym, ap, subst, ◌∙◌, ◌⊎◌, inl, inr, arith}
use Rattle.txs_world_protocol.specs.Ask.{Exchange}
use Rattle.txs_world_protocol.specs.SeenEvent.{SeenEvent}
use Rattle.txs_world_protocol.specs.declared.ask.Ask.{Ask}
use Rattle.txs_world_protocol.specs.declared.event.Event.{Event}
use Rattle.txs_world_protocol.specs.declared.event.Outcome.{Outcome}
use Rattle.txs_world_protocol.specs.declared.event.Outcome.TheVariants as outcome
use Rattle.txs_value_data.specs.Places.{nth}
use Rattle.txs_value_data.specs.declared.value.Value.{Value}
use Rattle.txs_value_cell.specs.declared.cell.CellDefinition.{CellDefinition}
use Rattle.txs_tree_meaning.specs.Meaning.{Completion}
use Rattle.txs_tree_meaning.specs.Thread.{ThreadState, thread_meaning}
use Rattle.txs_tree_meaning.specs.Tree.{PlainThread, PlainProgram, ThreadSource}
use Rattle.txs_code_meaning.proofs.Acts.{stated, run_more, exec_run}
use Rattle.txs_code_meaning.specs.ActorState.{ActorState}
use Rattle.txs_code_meaning.specs.Machine.{Asking, and_then, turn, run}
use Rattle.txs_code_meaning.specs.Opening.{opening}
use Rattle.txs_code_meaning.specs.PlainCode.{CodeBody, PlainCode, thread_code, function_codes}
use Rattle.txs_theorem_threads.specs.Follows.{Follows}
use Rattle.txs_theorem_threads.specs.FollowsAll.{source_of, FollowsAll}
use Rattle.txs_theorem_threads.specs.Noted.{txs_of}
use Rattle.txs_theorem_threads.specs.RepliesFit.{Out, RepliesFit, Explained, book_asked, halted, HasWaited, HasWaitedFor}
use Rattle.txs_theorem_threads.specs.RepliesFitTo.{FittingToFits}
use Rattle.txs_machine_actor.specs.PlainActor.{PlainActor, own_body, code_of, state_of, configuration_of, standing, stands_at, unanswered}
use Rattle.txs_world_book.specs.Laws.{UnwrittenStays}
use Rattle.txs_world.specs.Laws.{DoneIsUndisturbed, RefusedIsUndisturbed}
use Rattle.txs_theorem_runs.specs.Explains.{BooksStand, CommitsUndisturbed}
use Rattle.txs_theorem_runs.specs.Full.{WaitsFull}
use Rattle.txs_theorem_runs.specs.Invariant.{SharedStands}
use Rattle.txs_theorem_runs.specs.Laws.{ToldFits}
use Rattle.txs_theorem_runs.specs.Refused.{RefusalsUndisturbed}
use Rattle.txs_theorem_runs.specs.Shared.{Shared, book_for}
use Rattle.txs_theorem_runs.specs.Printed.{Prints, HasPrinted, PrintedBeforeLast}
use Rattle.txs_theorem_runs.specs.Run.{Actor}
use Rattle.txs_theorem_runs.specs.Told.{Entry, exchange_of, trace_of, TraceHolds, seen_of}
use Rattle.txs_theorem_runs.specs.Told as told_by
use Rattle.txs_theorem_runs.specs.Transactions.{SaidOf, undisturbed}
use Rattle.txs_theorem_runs.proofs.Lasts.{EachWaits, printed_before}
use Rattle.txs_theorem_runs.proofs.Refused.{all_refused}
use Rattle.txs_theorem_runs.proofs.Undisturbed.{entries_undisturbed}
use Rattle.txs_theorem_runs.proofs.Whole.{all_undisturbed}
use Rattle.txs_machine.specs.Followed.{ActorsExplained, told}
use Rattle.txs_machine.specs.RunOver.{RunOver, AtFullBook, places_of}
use Rattle.txs_machine.specs.Playing.{IsBetween, AreBetween, HaveSteps, AllEnded, IsReported, AreReported}
use Rattle.txs_machine.specs.RunTheorem.{HasDone, ExplainsSo, HasPrintedLeast, ExplainsThread}
use Rattle.txs_machine.specs.Schedule.{plays_of, AreDone, ArePlayed, HaveEnded, IsExplainedBy}
use Rattle.txs_world_protocol.specs.declared.event.Place.{Place}
use Rattle.txs_machine.specs.declared.player.Player.{Player}
use Rattle.txs_machine.specs.declared.schedule.Play.{Play}
use Rattle.txs_world_protocol.specs.declared.report.ActorReport.{ActorReport}
use Rattle.txs_machine.proofs.Playing.{between_of}
use Rattle.txs_machine.proofs.RunOver.{trace_holds}
use Rattle.txs_value_cell.specs.Cells.{validators_of}

abbrev is_some : {A : Type 0} → Option A → Type 0
is_some None = ⊥
is_some (Some x) = Unit {0}

-- ---- the entries of a report

abbrev report_or : ActorReport → Option ActorReport → ActorReport
report_or d None = d
report_or d (Some r) = r

-- the actor of an entry
pub reported_at : (code : PlainCode) (xs : List Player) (rs : List ActorReport) (k : ℕ) (r : ActorReport) → AreReported code xs rs → nth rs k ≡ Some r → (x : Player) × (nth xs k ≡ Some x) × IsReported code x r
reported_at code [] [] k r h e = absurd (subst is_some (sym e) tt)
reported_at code [] (s ∷ rs) k r h e = absurd h
reported_at code (x ∷ xs) [] k r h e = absurd h
reported_at code (x ∷ xs) (s ∷ rs) zero r h e = (x, refl, subst (IsReported code x) (ap (report_or s) e) h.0)
reported_at code (x ∷ xs) (s ∷ rs) (suc k) r h e = reported_at code xs rs k r h.1 e

pub as_many : (code : PlainCode) (xs : List Player) (rs : List ActorReport) → AreReported code xs rs → length rs ≡ length xs
as_many code [] [] h = refl
as_many code [] (s ∷ rs) h = absurd h
as_many code (x ∷ xs) [] h = absurd h
as_many code (x ∷ xs) (s ∷ rs) h = ap suc (as_many code xs rs h.1)

done_so : DoneIsUndisturbed → RefusedIsUndisturbed → (code : PlainCode) (k limit : ℕ) (books : ℕ → List Event) (x : Player) (r : ActorReport) → IsBetween code k limit books x → IsReported code x r → HasDone code k limit books r
done_so done refused code k limit books x r h p = record {
  actor = x.actor;
  over = h.over.over;
  waits = h.free;
  limited = h.limited;
  ended = p.ended;
  printed = p.printed;
  counted = p.counted;
  placed = p.placed;
  traced = ap places_of (sym p.traced) ∙ h.over.traced;
  undisturbed = all_undisturbed done code.cells (length code.threads) books k h.over.over.entries h.over.over.told.hold;
  refused = all_refused refused code.cells (length code.threads) books k h.over.over.entries h.over.over.told.hold;
}

-- what all actors did is what the report says
pub all_done : DoneIsUndisturbed → RefusedIsUndisturbed → (code : PlainCode) (limit : ℕ) (books : ℕ → List Event) (xs : List Player) (rs : List ActorReport) → length xs ≡ length code.threads → AreBetween code limit books 0 xs → AreReported code xs rs → AreDone code limit books rs
all_done done refused code limit books xs rs many h p = record {
  one_each = as_many code xs rs p ∙ many;
  each = λ k r e. (let x = reported_at code xs rs k r p e in done_so done refused code k limit books x.0 r (between_of code limit books k xs x.0 x.1 h) x.2);
}

steps_at : (ys : List Play) (j i : ℕ) (xs : List Player) (x : Player) → nth xs i ≡ Some x → HaveSteps ys j xs → x.actor.outcome ≡ None → plays_of (j + i) ys ≤ x.actor.steps
steps_at ys j i [] x e h n = absurd (subst is_some (sym e) tt)
steps_at ys j zero (y ∷ xs) x e h n =
    subst (λ m. plays_of m ys ≤ x.actor.steps) (omega arith) (subst (λ (z : Player). z.actor.outcome ≡ None → plays_of j ys ≤ z.actor.steps) (ap or_first e) h.0 n)
  where
    or_first : Option Player → Player
    or_first None = y
    or_first (Some z) = z
steps_at ys j (suc i) (y ∷ xs) x e h n = subst (λ m. plays_of m ys ≤ x.actor.steps) (omega arith) (steps_at ys (suc j) i xs x e h.1 n)

pub all_played : (code : PlainCode) (ys : List Play) (xs : List Player) (rs : List ActorReport) → HaveSteps ys 0 xs → AreReported code xs rs → ArePlayed ys rs
all_played code ys xs rs h p k r e n =
    let x = reported_at code xs rs k r p e in
    let same : 0 + k ≡ k = omega arith in
    subst (λ m. plays_of k ys ≤ m) x.2.counted (subst (λ m. plays_of m ys ≤ x.0.actor.steps) same (steps_at ys 0 k xs x.0 x.1 h (x.2.ended ∙ n)))

ended_at : (xs : List Player) (k : ℕ) (x : Player) → nth xs k ≡ Some x → AllEnded xs → x.actor.outcome ≡ None → ⊥
ended_at [] k x e h n = absurd (subst is_some (sym e) tt)
ended_at (y ∷ xs) zero x e h n = h.0 (ap (λ (z : Player). z.actor.outcome) (ap or_first e) ∙ n)
  where
    or_first : Option Player → Player
    or_first None = y
    or_first (Some z) = z
ended_at (y ∷ xs) (suc k) x e h n = ended_at xs k x e h.1 n

pub all_ended : (code : PlainCode) (xs : List Player) (rs : List ActorReport) → AllEnded xs → AreReported code xs rs → HaveEnded rs
all_ended code xs rs h p k r e n = let x = reported_at code xs rs k r p e in ended_at xs k x.0 x.1 h (x.2.ended ∙ n)

-- ---- what sources say

pub so_explained : (a : PlainActor) (o : Option Outcome) (r : Completion ThreadState Value) → Explained (told a o None) r → ExplainsSo o a.printed r
so_explained a None r h = h
so_explained a (Some outcome.Done) r h = h
so_explained a (Some (outcome.Failed f)) r h = h
so_explained a (Some outcome.StepsSpent) r h = h
so_explained a (Some outcome.JournalFull) r h = h
so_explained a (Some outcome.Memory) r h = h

-- where an actor is, it has printed what it has
prints_there : (out : List ℕ) (a : PlainActor) (o : Option Outcome) → Prints out (state_of a) → HasPrinted out (standing o (configuration_of a) (state_of a))
prints_there out a None h = h
prints_there out a (Some outcome.Done) h = h
prints_there out a (Some (outcome.Failed f)) h = h
prints_there out a (Some outcome.StepsSpent) h = h
prints_there out a (Some outcome.JournalFull) h = h
prints_there out a (Some outcome.Memory) h = h

printed_there : (out : List ℕ) (a : PlainActor) (o : Option Outcome) → HasPrinted out (standing o (configuration_of a) (state_of a)) → Prints out (state_of a)
printed_there out a None h = h
printed_there out a (Some outcome.Done) h = h
printed_there out a (Some (outcome.Failed f)) h = h
printed_there out a (Some outcome.StepsSpent) h = h
printed_there out a (Some outcome.JournalFull) h = h
printed_there out a (Some outcome.Memory) h = h

-- an actor as runs of many speak of one
abbrev in_run : List Entry → PlainActor → Actor
in_run es a = record { at = stands_at a; entries = es; turns = a.steps; stopped = None }

pub record Known : Type 0 where
  pub explained : ActorsExplained
  pub stays : UnwrittenStays
  pub done : DoneIsUndisturbed
  pub fit : FittingToFits
  pub fits : ToldFits

module _ (by : Known) (code : PlainCode) (k : ℕ) (books : ℕ → List Event) (trace : List Place) (a : PlainActor) (free : unanswered a ≡ None) (h : RunOver code k books a) (traced : places_of trace ≡ trace_of code.cells books k h.entries) (p : ThreadSource) (same : p.cells ≡ code.cells) (follows : Follows (code_of code k) p) where
  abbrev seen : List SeenEvent
  seen = seen_of code.cells books (places_of trace)

  past : told_by.history_of code.cells books k h.entries ≡ seen
  past = ap (seen_of code.cells books) (sym traced)

  -- what the actor was answered are the events of its trace
  fitted : RepliesFit code.cells Out (map exchange_of h.entries) seen
  fitted =
      subst (RepliesFit code.cells Out (map exchange_of h.entries)) past
      (by.fit code.cells Out (map exchange_of h.entries) _ _ (by.fits code.cells (length code.threads) books k h.entries h.stage h.told.hold h.told.staged))

  -- the source means what the actor printed, and how it ended, and its transactions were undisturbed, where the actor's commits were
  pub part_explained : CommitsUndisturbed books h.entries → RefusalsUndisturbed code.cells books h.entries
      → (n : ℕ) × ExplainsSo a.outcome a.printed (thread_meaning p n seen) × SaidOf (undisturbed code.cells books) books (places_of trace) (txs_of (thread_meaning p n seen))
  part_explained commits refusals =
      let xs = map exchange_of h.entries in
      let m = by.explained code xs seen a p h.ran (subst (λ n. Follows (code_of code n) p) (sym h.number) follows) (subst (λ cs. RepliesFit cs Out xs seen) (sym same) fitted) in
      let txs = txs_of (thread_meaning p m.0 seen) in (
        m.0,
        so_explained a a.outcome (thread_meaning p m.0 seen) (subst (λ q. Explained (told a a.outcome q) (thread_meaning p m.0 seen)) free m.2),
        subst (λ ps. SaidOf (undisturbed code.cells books) books ps txs) (sym traced)
            (entries_undisturbed None code.cells books k (length code.threads) h.entries txs h.told.hold commits refusals m.3),
      )

  abbrev x : Actor
  x = in_run h.entries a

  each_waits : EachWaits (code_of code k) x
  each_waits before e rest s =
      let w = h.asked before e rest s in
      record { waiting = w.waiting; asking = w.asking; consumed = w.consumed; printed = prints_there w.waiting.printed a a.outcome w.printed }

  -- the actor has printed what the source means on all that the actor did but the last
  pub part_printed : (seen ≡ []) ⊎ ((hs : List SeenEvent) × (e : SeenEvent) × (seen ≡ hs ++ e ∷ []) × (n : ℕ) × (least : List ℕ) × HasWaited least (halted (thread_meaning p n hs)) × (rest : List ℕ) × (a.printed ≡ least ++ rest))
  part_printed = go (printed_before code.cells (length code.threads) books k (record { stays = by.stays; done = by.done; fit = by.fit }) (code_of code k) x h.stage h.told each_waits)
    where
      go : PrintedBeforeLast code.cells (code_of code k) books k x
          → (seen ≡ []) ⊎ ((hs : List SeenEvent) × (e : SeenEvent) × (seen ≡ hs ++ e ∷ []) × (n : ℕ) × (least : List ℕ) × HasWaited least (halted (thread_meaning p n hs)) × (rest : List ℕ) × (a.printed ≡ least ++ rest))
      go (inl none) = inl (sym past ∙ none)
      go (inr d) =
          let on = d.3 p same follows in
          let prints = printed_there on.0 a a.outcome on.2 in
          inr (d.0, d.1, sym past ∙ d.2, a.steps, on.0, on.1, prints.0, prints.1)

  -- where it was stopped for a full book, the source needs an event of that book
  pub part_full : a.outcome ≡ Some outcome.JournalFull → (n : ℕ) × WaitsFull books a.printed (thread_meaning p n seen)
  part_full e = (n, (book_for code.cells q, f.full, subst (λ cs. HasWaitedFor (book_asked cs q) a.printed (halted (thread_meaning p n seen))) same waits))
    where
      xs : List Exchange
      xs = map exchange_of h.entries

      f : AtFullBook code.cells (code_of code k) books xs a
      f = h.full e

      q : Ask
      q = f.ask

      n : ℕ
      n = suc f.asked.1.others

      s : ActorState
      s = record (state_of a) { wants = Some q }

      asking : run (code_of code k) n (opening (code_of code k) xs) ≡ Asking s
      asking = run_more (code_of code k) f.asked.1.others (opening (code_of code k) xs) ∙ ap (λ o. and_then o (turn (code_of code k))) f.asked.1.came ∙ f.asked.3

      waits : HasWaitedFor (book_asked p.cells q) a.printed (halted (thread_meaning p n seen))
      waits =
          follows.asks_so xs seen n s q (subst (λ cs. RepliesFit cs Out xs seen) (sym same) fitted) (exec_run (code_of code k) n (opening (code_of code k) xs) ∙ ap (λ o. and_then o stated) asking) refl refl

-- the code of a program's thread
pub code_at : (code : PlainCode) (bs : List CodeBody) (ts : List PlainThread) (n k : ℕ) (t : PlainThread) → length (map (thread_code code) bs) ≡ length ts → nth ts k ≡ Some t
    → nth (map (thread_code code) bs) k ≡ Some (record { functions = function_codes code; validators = validators_of code.cells; main = own_body code n (nth bs k) })
code_at code [] [] n k t e h = absurd (subst is_some (sym h) tt)
code_at code [] (u ∷ ts) n k t e h = absurd (omega (arith, e))
code_at code (b ∷ bs) [] n k t e h = absurd (omega (arith, e))
code_at code (b ∷ bs) (u ∷ ts) n zero t e h = refl
code_at code (b ∷ bs) (u ∷ ts) n (suc k) t e h = code_at code bs ts n k t (omega (arith, e)) h

pub length_map : {A B : Type 0} (f : A → B) (xs : List A) → length (map f xs) ≡ length xs
length_map f [] = refl
length_map f (x ∷ xs) = ap suc (length_map f xs)

-- where these are the cells, a thread's meaning explains an entry, and its transactions were undisturbed
abbrev pub MeansSo : PlainProgram → PlainThread → (ℕ → List Event) → Option Outcome → List ℕ → List Place → List CellDefinition → Type 0
MeansSo p t books o out trace cells =
    (n : ℕ) × ExplainsSo o out (thread_meaning (source_of p t) n (seen_of cells books (places_of trace)))
    × SaidOf (undisturbed cells books) books (places_of trace) (txs_of (thread_meaning (source_of p t) n (seen_of cells books (places_of trace))))

-- and the thread has printed the least
abbrev pub LeastSo : PlainProgram → PlainThread → (ℕ → List Event) → List ℕ → List Place → List CellDefinition → Type 0
LeastSo p t books out trace cells = HasPrintedLeast p t (seen_of cells books (places_of trace)) out

-- where the thread was stopped for a full book its meaning needs an event of such a book
abbrev pub FullSo : PlainProgram → PlainThread → (ℕ → List Event) → Option Outcome → List ℕ → List Place → List CellDefinition → Type 0
FullSo p t books o out trace cells = o ≡ Some outcome.JournalFull → (n : ℕ) × WaitsFull books out (thread_meaning (source_of p t) n (seen_of cells books (places_of trace)))

-- so an entry is explained
pub entry_explained : (p : PlainProgram) (k : ℕ) (t : PlainThread) (books : ℕ → List Event) (r : ActorReport) → TraceHolds books k (places_of r.trace.items) → MeansSo p t books r.outcome r.printed.items r.trace.items p.cells → LeastSo p t books r.printed.items r.trace.items p.cells
    → FullSo p t books r.outcome r.printed.items r.trace.items p.cells → ExplainsThread p k t books r
entry_explained p k t books r traced means least full = record { traced = traced; turns = means.0; means = means.1; calm = means.2; least = least; full = full }

thread_explained : Known → RefusedIsUndisturbed → (code : PlainCode) (k limit : ℕ) (books : ℕ → List Event) (x : Player) (r : ActorReport) → IsBetween code k limit books x → IsReported code x r
    → (p : PlainProgram) (t : PlainThread) → p.cells ≡ code.cells → FollowsAll (map (thread_code code) code.threads) p → nth p.threads k ≡ Some t → ExplainsThread p k t books r
thread_explained by refused code k limit books x r h rep p t same follows e =
    let a = x.actor in
    let tr = x.trace.items in
    let f : Follows (code_of code k) (source_of p t) = follows.each k (code_of code k) t (code_at code code.threads p.threads k k t follows.as_many e) e in
    let means : MeansSo p t books a.outcome a.printed tr code.cells =
    part_explained by code k books tr a h.free h.over.over h.over.traced (source_of p t) same f
    (all_undisturbed by.done code.cells (length code.threads) books k h.over.over.entries h.over.over.told.hold) (all_refused refused code.cells (length code.threads) books k h.over.over.entries h.over.over.told.hold) in
    let least : LeastSo p t books a.printed tr code.cells = part_printed by code k books tr a h.free h.over.over h.over.traced (source_of p t) same f in
    let full : FullSo p t books a.outcome a.printed tr code.cells = part_full by code k books tr a h.free h.over.over h.over.traced (source_of p t) same f in
    entry_explained p k t books r (subst (λ ps. TraceHolds books k (places_of ps)) rep.traced (trace_holds code k books tr a h.over))
    (subst (λ o. MeansSo p t books o r.printed.items r.trace.items p.cells) rep.ended
    (subst (λ out. MeansSo p t books a.outcome out r.trace.items p.cells) rep.printed
    (subst (λ ps. MeansSo p t books a.outcome a.printed ps p.cells) rep.traced (subst (MeansSo p t books a.outcome a.printed tr) (sym same) means))))
    (subst (λ out. LeastSo p t books out r.trace.items p.cells) rep.printed
    (subst (λ ps. LeastSo p t books a.printed ps p.cells) rep.traced (subst (LeastSo p t books a.printed tr) (sym same) least)))
    (subst (λ o. FullSo p t books o r.printed.items r.trace.items p.cells) rep.ended
    (subst (λ out. FullSo p t books a.outcome out r.trace.items p.cells) rep.printed
    (subst (λ ps. FullSo p t books a.outcome a.printed ps p.cells) rep.traced (subst (FullSo p t books a.outcome a.printed tr) (sym same) full))))

-- what is shared stands: so do its books
pub books_stand : (cells : List CellDefinition) (threads : ℕ) (sh : Shared) → SharedStands cells threads sh → BooksStand cells threads sh
books_stand cells threads sh h = record { legal = h.store.legal; undisturbed = h.store.undisturbed; atoms = h.atoms; by_threads = h.by_threads }

-- each program that the code follows explains the run
pub all_explained : Known → RefusedIsUndisturbed → (code : PlainCode) (limit : ℕ) (sh : Shared) (xs : List Player) (rs : List ActorReport) → length xs ≡ length code.threads → SharedStands code.cells (length code.threads) sh
    → AreBetween code limit sh.books 0 xs → AreReported code xs rs → IsExplainedBy code sh rs
all_explained by refused code limit sh xs rs many stands h rep p same follows = record {
  one_each = as_many code xs rs rep ∙ many ∙ threads;
  books = subst (λ cs. BooksStand cs (length p.threads) sh) (sym same) (subst (λ n. BooksStand code.cells n sh) threads (books_stand code.cells (length code.threads) sh stands));
  each = λ k t r e f. (let x = reported_at code xs rs k r rep f in thread_explained by refused code k limit sh.books x.0 r (between_of code limit sh.books k xs x.0 x.1 h) x.2 p t same follows e);
}
  where
    threads : length code.threads ≡ length p.threads
    threads = sym (length_map (thread_code code) code.threads) ∙ follows.as_many
