-- A transaction that begins anew: nothing is left of the tries that failed.
use Rattle.std.proofs.Common.{◌≡◌, inl, ℕ, Bool, true, false, ◌==◌, List, [], ◌∷◌, ◌++◌, length, Option, Some, None, if◌then◌else◌, refl, sym, ap, ◌∙◌, subst}
use Rattle.txs_world_protocol.specs.declared.ask.Ask.{Ask}
use Rattle.txs_world_protocol.specs.declared.ask.Ask.TheVariants as ask
use Rattle.txs_world_protocol.specs.declared.ask.Reply.TheVariants as reply
use Rattle.txs_value_cell.specs.declared.cell.CellDefinition.{CellDefinition}
use Rattle.txs_value_data.proofs.SameLemmas.{numbers}
use Rattle.txs_value_data.specs.Limits.{reruns}
use Rattle.txs_value_data.specs.declared.fault.Span.{Span}
use Rattle.txs_frame.specs.Frame.{empty_frame}
use Rattle.txs_code_meaning.specs.ActorState.{ActorState, Continue, Await, on_step, asks, receives, heard, read_point, begun, begin}
use Rattle.txs_code_meaning.specs.Machine.{ThreadCode, Activity, Outside, Restarting, Running, Applying, Swapping, Configuration, Turned, Ended, Failed, Asking, Unfinished, Stuck, saved, ahead, on, begins, act, turn}
use Rattle.txs_code_meaning.specs.Opening.{given}
use Rattle.txs_theorem_runs.specs.Invariant.{PlayHolds}
use Rattle.txs_theorem_runs.specs.Run.{Actor, Moved, moved, exchange, hears, asked, turned, turns_from}
use Rattle.txs_theorem_runs.specs.Shared.{Shared, may_ask}
use Rattle.txs_theorem_runs.specs.Staged.{IsStaged, StandsIn}
use Rattle.txs_theorem_runs.specs.Stages.{Stage, Idle, Open, AsksIn, stage_after}
use Rattle.txs_theorem_alike.specs.Actors.{none, plain_at, plain, ActorsAlike}
use Rattle.txs_theorem_alike.specs.Beginnings.{at_start, undo_in, undo}
use Rattle.txs_theorem_alike.specs.Turns.{AsksFreely}
use Rattle.txs_theorem_alike.specs.Anew.{IsOutside, StandsAtBegin, AlikeStands, BeginsAnew, FailedTriesAreNothing}
use Rattle.txs_theorem_alike.specs.Books.{HasRoom}
use Rattle.txs_theorem_alike.specs.Stages.{AllAlike, behind, stages_after, StepsAlike}
use Rattle.txs_theorem_alike.specs.Stages as staged
use Rattle.txs_theorem_alike.specs.Renaming.{wants_with}
use Rattle.txs_theorem_alike.proofs.Actors.{wants_twice}
use Rattle.txs_theorem_alike.proofs.Leaving.{failed_try_leaves_nothing}
use Rattle.txs_theorem_alike.proofs.Stages.{steps}

-- ---- what a begin makes of an actor

-- it waits with its ask
begin_waits : (s : ActorState) → s.todo ≡ [] → begin s ≡ Await (record s { wants = Some ask.Begin })
unfolding begin asks
begin_waits s e = ap (λ l. on_step (heard read_point (receives ask.Begin s l)) begun) e

abbrev begun_at : ℕ → ActorState → ActorState
begun_at p s = record s { todo = []; at = p; view = p; done = empty_frame; commuting = None }

-- it hears its read point
begin_hears : (p : ℕ) (s : ActorState) → s.todo ≡ [] → begin (record s { todo = s.todo ++ exchange ask.Begin (reply.At p) ∷ [] }) ≡ Continue tt (begun_at p s)
unfolding begin asks
begin_hears p s e = ap (λ l. on_step (heard read_point (receives ask.Begin (record s { todo = l ++ exchange ask.Begin (reply.At p) ∷ [] }) (l ++ exchange ask.Begin (reply.At p) ∷ []))) begun) e

-- how often a transaction may run again that begins
abbrev left_in : Activity → ℕ
left_in Outside = reruns
left_in (Restarting left) = left
left_in (Running left inner from) = 0
left_in (Applying left from work values) = 0
left_in (Swapping swap from) = 0

-- where it is once it has begun
abbrev pub new_at : Span → ℕ → Configuration → Configuration
new_at span p c = record (ahead c.stack (begun_at p c.state) c) { doing = Running (left_in c.doing) 0 (saved span c) }

abbrev pub while : Activity → Configuration → Configuration
while D c = record c { doing = D }

module _ (span : Span) where
  waits_in : (D : Activity) (c : Configuration) → IsOutside D → c.state.todo ≡ [] → begins D span (while D c) ≡ Asking (record c.state { wants = Some ask.Begin })
  waits_in Outside c o e = ap (λ x. on Outside x (λ u s. Unfinished (record (ahead c.stack s c) { doing = Running reruns 0 (saved span c) }))) (begin_waits c.state e)
  waits_in (Restarting left) c o e = ap (λ x. on (Restarting left) x (λ u s. Unfinished (record (ahead c.stack s c) { doing = Running left 0 (saved span c) }))) (begin_waits c.state e)
  waits_in (Running left inner from) c o e = absurd o
  waits_in (Applying left from work values) c o e = absurd o
  waits_in (Swapping swap from) c o e = absurd o

  pub hears_in : (p : ℕ) (D : Activity) (c : Configuration) → IsOutside D → c.state.todo ≡ [] → begins D span (given (exchange ask.Begin (reply.At p) ∷ []) (while D c)) ≡ Unfinished (new_at span p (while D c))
  hears_in p Outside c o e = ap (λ x. on Outside x (λ u s. Unfinished (record (ahead c.stack s c) { doing = Running reruns 0 (saved span c) }))) (begin_hears p c.state e)
  hears_in p (Restarting left) c o e = ap (λ x. on (Restarting left) x (λ u s. Unfinished (record (ahead c.stack s c) { doing = Running left 0 (saved span c) }))) (begin_hears p c.state e)
  hears_in p (Running left inner from) c o e = absurd o
  hears_in p (Applying left from work values) c o e = absurd o
  hears_in p (Swapping swap from) c o e = absurd o

  -- the same by where it begins alone
  abbrev anew : Configuration → Configuration
  anew z = record (ahead z.stack z.state z) { doing = Running 1 0 (saved span z) }

  abbrev told_state : Option Bool → Option Ask → ActorState → ActorState
  told_state j w s = record (at_start s) { accepted = j; wants = w }

  plain_new : (p : ℕ) (D : Activity) (c : Configuration) → IsOutside D → c.state.accepted ≡ None → plain_at (new_at span p (while D c)) ≡ anew (undo_in D c)
  plain_new p D c o j = by D o
    where
      z : Option Bool → Configuration
      z x = record (ahead c.stack (told_state x (wants_with none c.state.wants) c.state) c) { doing = Running 1 0 (saved span c) }

      same : z c.state.accepted ≡ z None
      same = ap z j

      by : (E : Activity) → IsOutside E → plain_at (new_at span p (while E c)) ≡ anew (undo_in E c)
      by Outside h = same
      by (Restarting left) h = same
      by (Running left inner from) h = absurd h
      by (Applying left from work values) h = absurd h
      by (Swapping swap from) h = absurd h

abbrev pub here_or : Configuration → Turned Configuration → Configuration
here_or c (Ended s) = c
here_or c (Failed f s) = c
here_or c (Asking s) = c
here_or c (Unfinished d) = d
here_or c Stuck = c

-- ---- its turn

module _ (cells : List CellDefinition) (threads : ℕ) (code : ThreadCode) (a : ℕ) (span : Span) (x : Actor) (sh : Shared) (h : StandsAtBegin code span x) (free : AsksFreely cells threads code a x.at sh) where
  abbrev c : Configuration
  c = h.here

  abbrev p : ℕ
  p = length (sh.books 0)

  pub waits : turn code c ≡ Asking (record c.state { wants = Some ask.Begin })
  waits = ap (λ i. act code i c) h.begins ∙ waits_in span c.doing c h.outside h.heard

  hears_it : turn code (given (exchange ask.Begin (reply.At p) ∷ []) c) ≡ Unfinished (new_at span p c)
  hears_it = ap (λ i. act code i (given (exchange ask.Begin (reply.At p) ∷ []) c)) h.begins ∙ hears_in span p c.doing c h.outside h.heard

  may : (may_ask cells threads sh.taken a ask.Begin (sh.books 0) ≡ true) × HasRoom cells ask.Begin sh
  may = free ask.Begin (c, h.is_here, (record c.state { wants = Some ask.Begin }, waits, refl))

  took : turns_from cells threads code a x.at x.stopped x sh ≡ moved (hears code c ask.Begin (reply.At p) p x) (behind cells a ask.Begin sh)
  took =
      ap (λ o. turns_from cells threads code a o x.stopped x sh) h.is_here
      ∙ ap (λ w. turns_from cells threads code a (Unfinished c) w x sh) h.goes
      ∙ ap (λ o. turned cells threads code a c o x sh) waits
      ∙ ap (λ b. asked b cells code a c ask.Begin x sh) may.0

  took_plain : plain (turn code (given (exchange ask.Begin (reply.At p) ∷ []) c)) ≡ Unfinished (anew span (undo c))
  took_plain = ap plain hears_it ∙ ap (λ d. Unfinished d) (plain_new span p c.doing c h.outside h.judged)

  -- in the stage behind its begin
  took_staged : (agent : Bool) (st : Stage) → st ≡ Idle → IsStaged agent (stage_after st ask.Begin (reply.At p)) (turn code (given (exchange ask.Begin (reply.At p) ∷ []) c))
  took_staged agent st e = subst (λ s. IsStaged agent (stage_after s ask.Begin (reply.At p)) (turn code (given (exchange ask.Begin (reply.At p) ∷ []) c))) (sym e)
      (subst (λ o. IsStaged agent (Open p) o) (sym hears_it) (refl, by agent))
    where
      by : (i : Bool) → StandsIn i (Open p) (new_at span p c)
      by false = refl
      by true = inl refl

pub begins_anew : BeginsAnew
begins_anew cells threads codes agent a st other alike both = record {
  first = stages_after cells a ask.Begin st.shared alike.first;
  second = stages_after cells a ask.Begin other.shared alike.second;
  all = subst (λ u. AllAlike cells u n.shared (stages_after cells a ask.Begin st.shared alike.first) (stages_after cells a ask.Begin other.shared alike.second)) (sym (ap (λ w. w.shared) one))
      (subst (λ u. AllAlike cells (behind cells a ask.Begin st.shared) u (stages_after cells a ask.Begin st.shared alike.first) (stages_after cells a ask.Begin other.shared alike.second)) (sym (ap (λ w. w.shared) two)) stepped.all);
  actors = λ b. acts b (a == b) refl;
  in_first = λ b. stands b (a == b) refl;
  in_other = λ b. stand b (a == b) refl;
}
  where
    k : Actor
    k = st.actors a

    l : Actor
    l = other.actors a

    m : Moved
    m = turns_from cells threads (codes a) a k.at k.stopped k st.shared

    n : Moved
    n = turns_from cells threads (codes a) a l.at l.stopped l other.shared

    one : m ≡ moved (hears (codes a) both.one.here ask.Begin (reply.At (length (st.shared.books 0))) (length (st.shared.books 0)) k) (behind cells a ask.Begin st.shared)
    one = took cells threads (codes a) a both.span k st.shared both.one both.asks_one

    two : n ≡ moved (hears (codes a) both.two.here ask.Begin (reply.At (length (other.shared.books 0))) (length (other.shared.books 0)) l) (behind cells a ask.Begin other.shared)
    two = took cells threads (codes a) a both.span l other.shared both.two both.asks_two

    begins_in : (s : Stage) → s ≡ Idle → AsksIn (agent a) s ask.Begin
    begins_in s e = subst (λ z. AsksIn (agent a) z ask.Begin) (sym e) tt

    stepped : StepsAlike cells a ask.Begin ask.Begin st.shared other.shared alike.first alike.second
    stepped =
        steps cells threads a (agent a) ask.Begin ask.Begin st.shared other.shared alike.first alike.second alike.all (begins_in (alike.first a) alike.out_first) (begins_in (alike.second a) alike.out_other)
        staged.Begins (may cells threads (codes a) a both.span k st.shared both.one both.asks_one).0 (may cells threads (codes a) a both.span k st.shared both.one both.asks_one).1
        (may cells threads (codes a) a both.span l other.shared both.two both.asks_two).1

    starts : undo both.one.here ≡ undo both.two.here
    starts =
        ap undo (ap (here_or both.one.here) (sym both.one.is_here ∙ alike.tries.1)) ∙ alike.tries.2
        ∙ sym (ap undo (ap (here_or both.two.here) (sym both.two.is_here ∙ alike.waits.1)) ∙ alike.waits.2)

    same : ActorsAlike m.actor n.actor
    same = subst (λ w. ActorsAlike w.actor n.actor) (sym one) (subst (λ w. ActorsAlike (hears (codes a) both.one.here ask.Begin (reply.At (length (st.shared.books 0))) (length (st.shared.books 0)) k) w.actor) (sym two) (
      took_plain cells threads (codes a) a both.span k st.shared both.one both.asks_one
          ∙ ap (λ d. Unfinished (anew both.span d)) starts
          ∙ sym (took_plain cells threads (codes a) a both.span l other.shared both.two both.asks_two),
      both.one.goes ∙ sym both.two.goes,
    ))

    acts : (b : ℕ) (i : Bool) → (a == b) ≡ i → ActorsAlike (if i then m.actor else st.actors b) (if i then n.actor else other.actors b)
    acts b true e = same
    acts b false e = alike.actors b e

    in_one : IsStaged (agent a) (stage_after (alike.first a) ask.Begin (reply.At (length (st.shared.books 0)))) m.actor.at
    in_one = subst (λ w. IsStaged (agent a) (stage_after (alike.first a) ask.Begin (reply.At (length (st.shared.books 0)))) w.actor.at) (sym one)
        (took_staged cells threads (codes a) a both.span k st.shared both.one both.asks_one (agent a) (alike.first a) alike.out_first)

    in_two : IsStaged (agent a) (stage_after (alike.second a) ask.Begin (reply.At (length (other.shared.books 0)))) n.actor.at
    in_two = subst (λ w. IsStaged (agent a) (stage_after (alike.second a) ask.Begin (reply.At (length (other.shared.books 0)))) w.actor.at) (sym two)
        (took_staged cells threads (codes a) a both.span l other.shared both.two both.asks_two (agent a) (alike.second a) alike.out_other)

    stands : (b : ℕ) (i : Bool) → (a == b) ≡ i → (if i then m.actor else st.actors b).stopped ≡ None
        → IsStaged (agent b) (if i then stage_after (alike.first a) ask.Begin (reply.At (length (st.shared.books 0))) else alike.first b) (if i then m.actor else st.actors b).at
    stands b true e z = subst (λ d. IsStaged (agent d) (stage_after (alike.first a) ask.Begin (reply.At (length (st.shared.books 0)))) m.actor.at) (numbers a b e) in_one
    stands b false e z = alike.in_first b e z

    stand : (b : ℕ) (i : Bool) → (a == b) ≡ i → (if i then n.actor else other.actors b).stopped ≡ None
        → IsStaged (agent b) (if i then stage_after (alike.second a) ask.Begin (reply.At (length (other.shared.books 0))) else alike.second b) (if i then n.actor else other.actors b).at
    stand b true e z = subst (λ d. IsStaged (agent d) (stage_after (alike.second a) ask.Begin (reply.At (length (other.shared.books 0)))) n.actor.at) (numbers a b e) in_two
    stand b false e z = alike.in_other b e z

-- ---- from alike states

undo_plain : (D : Activity) (c : Configuration) → IsOutside D → undo (plain_at (while D c)) ≡ undo_in D c
undo_plain D c o = by D o
  where
    z : Option Ask → Configuration
    z y = record c { doing = Outside; state = record (at_start c.state) { wants = y } }

    same : z (wants_with none (wants_with none c.state.wants)) ≡ z (wants_with none c.state.wants)
    same = ap z (wants_twice c.state.wants)

    by : (E : Activity) → IsOutside E → undo (plain_at (while E c)) ≡ undo_in E c
    by Outside h = same
    by (Restarting left) h = same
    by (Running left inner from) h = absurd h
    by (Applying left from work values) h = absurd h
    by (Swapping swap from) h = absurd h

pub alike_stands : AlikeStands
alike_stands cells threads codes agent a st other alike both e f = record {
  first = alike.first;
  second = alike.second;
  all = alike.all;
  actors = λ b i. alike.actors b;
  in_first = λ b i. alike.in_first b;
  in_other = λ b i. alike.in_other b;
  out_first = e;
  out_other = f;
  start = undo both.one.here;
  tries = (both.one.here, both.one.is_here, refl, both.one.goes);
  waits = (both.two.here, both.two.is_here, starts, both.two.goes);
}
  where
    starts : undo both.two.here ≡ undo both.one.here
    starts =
        sym (undo_plain both.two.here.doing both.two.here both.two.outside)
        ∙ ap (λ o. undo (here_or both.one.here o)) (sym (ap plain (sym both.one.is_here) ∙ (alike.actors a).0 ∙ ap plain both.two.is_here))
        ∙ undo_plain both.one.here.doing both.one.here both.one.outside

pub failed_tries_are_nothing : PlayHolds → FailedTriesAreNothing
failed_tries_are_nothing holds cells threads codes agent a turns st other h g alike e f both among ends =
    begins_anew cells threads codes agent a _ _ (failed_try_leaves_nothing holds cells threads codes agent a turns st other h g (alike_stands cells threads codes agent a st other alike both e f) among) ends
