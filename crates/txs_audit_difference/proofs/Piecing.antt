-- What differs in a piece, by what is answered of it.
use Rattle.std.proofs.Common.{◌≡◌, ◌==◌, ◌-◌, ℕ, zero, suc, Bool, true, false, List, [], ◌∷◌, length, take, Option, Some, None, Result, refl, sym, ap, ◌∙◌, arith, if◌then◌else◌}
use Rattle.std.proofs.lemmas.Bool.{eqb-true}
use Rattle.txs_value_data.specs.Places.{nth}
use Rattle.txs_value_data.specs.declared.fault.Fault.{Fault}
use Rattle.txs_value_cell.specs.declared.action.Action.{Action}
use Rattle.txs_value_data.specs.declared.value.CellId.{CellId}
use Rattle.txs_value_data.specs.declared.value.Value.{Value}
use Rattle.txs_world_protocol.specs.SeenEvent.{SeenEvent}
use Rattle.txs_world_protocol.specs.declared.event.Event.{Event}
use Rattle.txs_world_book.specs.Served.{cells_of}
use Rattle.txs_world.specs.Store.{next_action}
use Rattle.txs_tree_eval_node.specs.Events.{seen_event, seen_events}
use Rattle.txs_tree_eval_node.specs.declared.seen.Seen.{Seen}
use Rattle.txs_tree_meaning.specs.Known.{known}
use Rattle.txs_tree_meaning.specs.Meaning.{Completion}
use Rattle.txs_tree_meaning.specs.Thread.{ThreadState}
use Rattle.txs_tree_meaning.specs.Tree.{PlainProgram}
use Rattle.txs_theorem_runs.specs.Told.{Place, seen_of}
use Rattle.txs_theorem_audit.specs.Audited.{PlainActorReport, PlainReport, books_of}
use Rattle.txs_theorem_audit.specs.Pieces.{part_of}
use Rattle.txs_theorem_audit.specs.Verdict.{begins, is_full_stop, is_sent_call, is_stopped, least_of, printed_by}
use Rattle.txs_audit_book.proofs.Sources.{all_but_last}
use Rattle.txs_audit_event.specs.Lines.{outcome_of, printed_what, stop_what}
use Rattle.txs_audit_event.specs.Meant.{TellsMeant}
use Rattle.txs_audit_event.specs.Transactions.{asked_what, awaited, or_what}
use Rattle.txs_audit_event.specs.declared.meant.Meant.{Meant}
use Rattle.txs_audit_event.specs.declared.what.What.{What}
use Rattle.txs_audit_event.specs.declared.what.What.TheVariants as what
use Rattle.txs_audit_event.proofs.Meaning.{asks_so, ended_so}
use Rattle.txs_audit_difference.specs.Pieces.{act_what, act_what_at, acted_what, at_event, at_or_behind, end_of_agent, end_what_in, in_action, over_what, part_at, state_after, still_what, thread_what, waiting_what}
use Rattle.txs_audit_difference.specs.declared.told.Difference.{Difference}

-- ---- the events of a part

abbrev seen_there : Option Seen → Option SeenEvent
seen_there None = None
seen_there (Some e) = Some (seen_event e)

pub seen_nth : (xs : List Seen) (i : ℕ) → nth (seen_events xs) i ≡ seen_there (nth xs i)
seen_nth [] i = refl
seen_nth (x ∷ xs) zero = refl
seen_nth (x ∷ xs) (suc i) = seen_nth xs i

pub seen_front : (xs : List Seen) (i : ℕ) → seen_events (take i xs) ≡ take i (seen_events xs)
seen_front xs zero = refl
seen_front [] (suc i) = refl
seen_front (x ∷ xs) (suc i) = ap (λ l. seen_event x ∷ l) (seen_front xs i)

-- what differs at an event with this index, or behind all
module _ (p : PlainProgram) (r : PlainReport) (n : ℕ) (m : List SeenEvent → Completion ThreadState Value) (held : Option (List Action)) (xs : List Seen) (i : ℕ) where
  abbrev at : Option SeenEvent → Option Place → What → What
  at e q behind = at_or_behind p r n m held (seen_events xs) i e q behind

  pub at_end : (q : Option Place) (behind : What) → nth xs i ≡ None → behind ≡ at (nth (seen_events xs) i) q behind
  at_end q behind none = sym (ap (λ e. at e q behind) (seen_nth xs i ∙ ap seen_there none))

  pub at_no_place : (x : Seen) (q : Option Place) (behind : What) → nth xs i ≡ Some x → q ≡ None → what.Event None ≡ at (nth (seen_events xs) i) q behind
  at_no_place x q behind some none = sym (ap (λ e. at e q behind) (seen_nth xs i ∙ ap seen_there some) ∙ ap (λ z. at (Some (seen_event x)) z behind) none)

  pub at_place : (x : Seen) (q : Place) (o : Option Place) (behind w : What) (front : List Seen) → nth xs i ≡ Some x → o ≡ Some q → front ≡ take i xs
      → w ≡ asked_what p n (take q.at (books_of r q.book)) (nth (books_of r q.book) q.at) (record { means = m; held = held; front = seen_events front; event = seen_event x }) → w ≡ at (nth (seen_events xs) i) o behind
  at_place x q o behind w front some there cut is =
      is
      ∙ ap (λ f. asked_what p n (take q.at (books_of r q.book)) (nth (books_of r q.book) q.at) (record { means = m; held = held; front = f; event = seen_event x })) (ap seen_events cut ∙ seen_front xs i)
      ∙ sym (ap (λ e. at e o behind) (seen_nth xs i ∙ ap seen_there some) ∙ ap (λ z. at (Some (seen_event x)) z behind) there)

-- ---- threads

-- how a thread ends, by what is answered of it
pub stops_so : (books : ℕ → List Event) (m : Meant) (k : ℕ) (c : Completion ThreadState Value) (whole least : List ℕ) (ran : PlainActorReport) → TellsMeant m k c → whole ≡ printed_by c
    → stop_what books m.ended m.asks whole least ran ≡ stop_what books (outcome_of c) (awaited c) (printed_by c) least ran
stops_so books m k c whole least ran tells prints =
    ap (λ o. stop_what books o m.asks whole least ran) (ended_so m k c tells) ∙ ap (λ o. stop_what books (outcome_of c) o whole least ran) (asks_so m k c tells) ∙ ap (λ l. stop_what books (outcome_of c) (awaited c) l least ran) prints

-- the events of a part, as they were seen
module _ (p : PlainProgram) (r : PlainReport) (n : ℕ) (m : List SeenEvent → Completion ThreadState Value) (held : Option (List Action)) (since : List Place) (i : ℕ) (es : List SeenEvent) (same : es ≡ seen_of p.cells (books_of r) since) where
  pub part_so : (behind : What) → at_or_behind p r n m held es i (nth es i) (nth since i) behind ≡ part_at p r n m held since i behind
  part_so behind = ap (λ l. at_or_behind p r n m held l i (nth l i) (nth since i) behind) same

-- what is told at an event, and what behind all
module _ (p : PlainProgram) (r : PlainReport) (n : ℕ) (m : List SeenEvent → Completion ThreadState Value) (held : Option (List Action)) (here since : List Place) (i : ℕ) (es : List SeenEvent) (o : Option What) (same : es ≡ seen_of p.cells (books_of r) here)
    (is : here ≡ since) (told : (b : What) → or_what o b ≡ at_or_behind p r n m held es i (nth es i) (nth here i) b) where
  part_told : (b : What) → or_what o b ≡ part_at p r n m held since i b
  part_told b = told b ∙ part_so p r n m held here i es same b ∙ ap (λ l. part_at p r n m held l i b) is

  pub part_there : (w b : What) → o ≡ Some w → w ≡ part_at p r n m held since i b
  part_there w b e = sym (ap (λ z. or_what z b) e) ∙ part_told b

  pub part_else : (b : What) → o ≡ None → b ≡ part_at p r n m held since i b
  part_else b e = sym (ap (λ z. or_what z b) e) ∙ part_told b

pub no_thread : (p : PlainProgram) (r : PlainReport) (n : ℕ) (m : List SeenEvent → Completion ThreadState Value) (i : ℕ) (o : Option PlainActorReport) → o ≡ None → what.Event None ≡ thread_what p r n m i o
no_thread p r n m i o none = sym (ap (thread_what p r n m i) none)

-- ---- actions that are over

-- the state that was looked up
pub some_state : (p : PlainProgram) (done : List Event) (g : CellId) (v : Value) → Some v ≡ Some (state_after p done g) → v ≡ state_after p done g
some_state p done g v e = some v (state_after p done g) e
  where
    some : (x y : Value) → Some x ≡ Some y → x ≡ y
    some x y e = cc

module _ (p : PlainProgram) (r : PlainReport) (n a j i : ℕ) (done : List Event) (g : CellId) (since : List Place) (new : Result Value Fault) (sends : List Action) where
  abbrev over : Option Action → Difference
  over o = over_what p r n a j i done g since new sends o

  pub none_over : (o : Option Action) → o ≡ None → at_event (what.Event None) a j ≡ over o
  none_over o none = sym (ap over none)

  module _ (o : Option Action) (x : Action) (there : o ≡ Some x) where
    abbrev sent_by : What → Bool → Difference
    sent_by w b = in_action x.span (if b then w else what.Event None) a j

    pub unsent_over : is_sent_call (known p.functions) x.callee (suc (length x.args)) ≡ false → in_action x.span (what.Event None) a j ≡ over o
    unsent_over e = sym (ap over there ∙ ap (sent_by (acted_what p r n done x (state_after p done g) since i new sends)) e)

    pub sent_over : (v : Value) → v ≡ state_after p done g → is_sent_call (known p.functions) x.callee (suc (length x.args)) ≡ true → (w : What) → w ≡ acted_what p r n done x v since i new sends → in_action x.span w a j ≡ over o
    sent_over v state e w is =
        ap (λ u. in_action x.span u a j) (is ∙ ap (λ s. acted_what p r n done x s since i new sends) state) ∙ sym (ap over there ∙ ap (sent_by (acted_what p r n done x (state_after p done g) since i new sends)) e)

-- the act at an entry of a trace
module _ (p : PlainProgram) (r : PlainReport) (n a j i k : ℕ) (ran : PlainActorReport) where
  pub no_entry : (o : Option Place) → o ≡ None → at_event (what.Event None) a j ≡ act_what_at p r n a j i k ran o
  no_entry o none = sym (ap (act_what_at p r n a j i k ran) none)

  abbrev since_act : List Place
  since_act = part_of i k ran.trace

  pub entry_there : (o : Option Place) (q : Place) → o ≡ Some q → (d : Difference) → d ≡ act_what p r n a j since_act k q (nth (books_of r q.book) q.at) → d ≡ act_what_at p r n a j i k ran o
  entry_there o q there d is = is ∙ sym (ap (act_what_at p r n a j i k ran) there)

-- ---- ends

module _ (p : PlainProgram) (r : PlainReport) (n : ℕ) (full : Bool) (a j i : ℕ) (g : CellId) (since : List Place) (outs out : List ℕ) where
  abbrev still : Option Action → Difference
  still o = still_what p r n full a j i g since outs out o

  pub none_still : (o : Option Action) → o ≡ None → at_event what.Idle a j ≡ still o
  none_still o none = sym (ap still none)

  module _ (o : Option Action) (x : Action) (there : o ≡ Some x) where
    abbrev waits_by : What → Bool → Difference
    waits_by w b = in_action x.span (if b then w else what.Event None) a j

    pub unsent_still : is_sent_call (known p.functions) x.callee (suc (length x.args)) ≡ false → in_action x.span (what.Event None) a j ≡ still o
    unsent_still e = sym (ap still there ∙ ap (waits_by (waiting_what p r n full x (state_after p r.book g) since i outs out)) e)

    pub sent_still : (v : Value) → v ≡ state_after p r.book g → is_sent_call (known p.functions) x.callee (suc (length x.args)) ≡ true → (w : What) → w ≡ waiting_what p r n full x v since i outs out → in_action x.span w a j ≡ still o
    sent_still v state e w is =
        ap (λ u. in_action x.span u a j) (is ∙ ap (λ s. waiting_what p r n full x s since i outs out) state) ∙ sym (ap still there ∙ ap (waits_by (waiting_what p r n full x (state_after p r.book g) since i outs out)) e)

-- the same by other spellings of what is known
pub still_so : (p : PlainProgram) (r : PlainReport) (n : ℕ) (full full2 : Bool) (a j i i2 : ℕ) (g : CellId) (since since2 : List Place) (outs outs2 out out2 : List ℕ) (o : Option Action) → full ≡ full2 → i ≡ i2 → since ≡ since2 → outs ≡ outs2
    → out ≡ out2 → still_what p r n full a j i g since outs out o ≡ still_what p r n full2 a j i2 g since2 outs2 out2 o
still_so p r n full full2 a j i i2 g since since2 outs outs2 out out2 o stop at part acted printed =
    ap (λ b. still_what p r n b a j i g since outs out o) stop
    ∙ ap (λ k. still_what p r n full2 a j k g since outs out o) at
    ∙ ap (λ l. still_what p r n full2 a j i2 g l outs out o) part
    ∙ ap (λ l. still_what p r n full2 a j i2 g since2 l out o) acted
    ∙ ap (λ l. still_what p r n full2 a j i2 g since2 outs2 l o) printed

-- how an agent ended
module _ (p : PlainProgram) (r : PlainReport) (n a j : ℕ) (g : CellId) (since : List Place) (outs : List ℕ) (ran : PlainActorReport) where
  abbrev waits : Difference
  waits = still_what p r n (is_full_stop ran.outcome) a j (j - (length ran.trace - length since)) g since outs ran.printed (next_action (cells_of p.cells) r.book g)

  abbrev ended_by : Bool → Bool → Difference
  ended_by b c = if b then (if c then waits else at_event (printed_what outs ran.printed) a j) else at_event (what.Ended None ran.outcome) a j

  pub not_stopped : is_stopped ran.outcome ≡ false → at_event (what.Ended None ran.outcome) a j ≡ end_of_agent p r n a j g since outs ran
  not_stopped e = sym (ap (λ b. ended_by b (begins outs ran.printed)) e)

  pub not_begun : is_stopped ran.outcome ≡ true → begins outs ran.printed ≡ false → at_event (printed_what outs ran.printed) a j ≡ end_of_agent p r n a j g since outs ran
  not_begun e f = sym (ap (λ b. ended_by b (begins outs ran.printed)) e ∙ ap (ended_by true) f)

  pub begun : is_stopped ran.outcome ≡ true → begins outs ran.printed ≡ true → waits ≡ end_of_agent p r n a j g since outs ran
  begun e f = sym (ap (λ b. ended_by b (begins outs ran.printed)) e ∙ ap (ended_by true) f)

pub no_end : (p : PlainProgram) (r : PlainReport) (n a j i : ℕ) (g : Option CellId) (o : Option PlainActorReport) → o ≡ None → at_event (what.Event None) a j ≡ end_what_in p r n a j i g o
no_end p r n a j i None o none = refl
no_end p r n a j i (Some g) o none = sym (ap (end_what_in p r n a j i (Some g)) none)

-- ---- what is printed at least

pub front_none : (m : List SeenEvent → Completion ThreadState Value) (xs : List Seen) → (length xs == 0) ≡ true → [] ≡ least_of m (seen_events xs)
front_none m [] none = refl
front_none m (x ∷ xs) none = (let z = eqb-true (length (x ∷ xs)) 0 none in absurd (omega (arith, z)))

pub front_some : (m : List SeenEvent → Completion ThreadState Value) (xs before : List Seen) → (length xs == 0) ≡ false → before ≡ take (length xs - 1) xs → printed_by (m (seen_events before)) ≡ least_of m (seen_events xs)
front_some m [] before some is = absurd cc
front_some m (x ∷ xs) before some is = ap (λ l. printed_by (m l)) (ap seen_events is ∙ all_but_last x xs)
