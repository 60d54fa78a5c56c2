-- Actors that are the same but for places and tries run alike.
use Rattle.std.proofs.Common.{◌≡◌, ℕ, Bool, true, false, List, [], ◌∷◌, ◌++◌, map, length, Option, Some, None, refl, sym, ap, ◌∙◌, subst}
use Rattle.txs_world_protocol.specs.Ask.{Exchange}
use Rattle.txs_world_protocol.specs.declared.ask.Ask.{Ask}
use Rattle.txs_world_protocol.specs.declared.ask.Ask.TheVariants as ask
use Rattle.txs_world_protocol.specs.declared.ask.Reply.{Reply}
use Rattle.txs_world_protocol.specs.declared.ask.Reply.TheVariants as reply
use Rattle.txs_value_cell.specs.declared.cell.CellDefinition.{CellDefinition}
use Rattle.txs_code_meaning.specs.ActorState.{ActorState}
use Rattle.txs_code_meaning.specs.Machine.{ThreadCode, Activity, Outside, Restarting, Running, Applying, Swapping, Configuration, Turned, Ended, Failed, Asking, Unfinished, Stuck, turn}
use Rattle.txs_code_meaning.specs.Opening.{given}
use Rattle.txs_theorem_runs.specs.Goes.{AsksNothing, AsksAt}
use Rattle.txs_theorem_runs.specs.Run.{Stop, JournalFull, Memory, Actor, exchange, stop, comes_to, hears, replied, asked, asks_for, turned, turns_from}
use Rattle.txs_theorem_runs.specs.Shared.{Shared, book_for, serve_on, may_ask}
use Rattle.txs_theorem_runs.specs.Staged.{IsStaged, StagedFrom}
use Rattle.txs_theorem_runs.specs.Stages.{Stage, stage_after}
use Rattle.txs_theorem_runs.proofs.Consuming.{HasConsumed, turn_consumed}
use Rattle.txs_theorem_alike.specs.Renaming.{ask_with, reply_with, exchange_with, wants_with, state_with, doing_with, with_places, turned_with, ComesAs}
use Rattle.txs_theorem_alike.specs.TriesLeft.{tries_with, HasTry, TriesAs}
use Rattle.txs_theorem_alike.specs.Actors.{none, plain_at, plain, SameButPlaces, SameAsk, SameReply, IsClear, TurnsAlike, RepliesAlike, TakesReply, StagedTakes, printed_in, ended_in, wanted_in, ToldAlike, ActorsAlike, IsReady, AsksNext, AnswersAlike, ActorsRunAlike}
use Rattle.txs_theorem_alike.proofs.Natural.{turn_is_natural}
use Rattle.txs_theorem_alike.proofs.TriesLeft.{tries_dont_count}

-- ---- forgetting twice is forgetting once

ask_twice : (q : Ask) → ask_with none (ask_with none q) ≡ ask_with none q
ask_twice ask.Begin = refl
ask_twice (ask.Look c p) = refl
ask_twice (ask.View cs) = refl
ask_twice (ask.Commit p sets ensured q commuted sends) = refl
ask_twice (ask.Fail p q) = refl
ask_twice (ask.Peek c) = refl
ask_twice (ask.Send a) = refl
ask_twice (ask.Take g) = refl
ask_twice (ask.Finish g new sends) = refl
ask_twice (ask.OpenAt c) = refl
ask_twice (ask.CloseAt c None v) = refl
ask_twice (ask.CloseAt c (Some p) v) = refl
ask_twice (ask.Broke c p) = refl

reply_twice : (r : Reply) → reply_with none (reply_with none r) ≡ reply_with none r
reply_twice (reply.At p) = refl
reply_twice (reply.Is v) = refl
reply_twice (reply.Views p vs) = refl
reply_twice reply.Done = refl
reply_twice (reply.Retry c) = refl
reply_twice (reply.Changed c) = refl
reply_twice (reply.AgentIsFailed g) = refl
reply_twice (reply.Action n a v) = refl
reply_twice reply.Idle = refl
reply_twice (reply.Opened p v) = refl
reply_twice reply.Full = refl
reply_twice reply.Memory = refl

pub wants_twice : (o : Option Ask) → wants_with none (wants_with none o) ≡ wants_with none o
wants_twice None = refl
wants_twice (Some q) = ap (λ p. Some p) (ask_twice q)

exchange_twice : (x : Exchange) → exchange_with none (exchange_with none x) ≡ exchange_with none x
exchange_twice x =
    ap (λ q. exchange q (reply_with none (reply_with none x.reply))) (ask_twice x.ask)
    ∙ ap (λ r. exchange (ask_with none x.ask) r) (reply_twice x.reply)

exchanges_twice : (xs : List Exchange) → map (exchange_with none) (map (exchange_with none) xs) ≡ map (exchange_with none) xs
exchanges_twice [] = refl
exchanges_twice (x ∷ xs) =
    ap (λ y. y ∷ map (exchange_with none) (map (exchange_with none) xs)) (exchange_twice x)
    ∙ ap (λ ys. exchange_with none x ∷ ys) (exchanges_twice xs)

state_twice : (s : ActorState) → state_with none (state_with none s) ≡ state_with none s
state_twice s =
    let so : List Exchange → Option Ask → ActorState = λ l o. record s { todo = l; at = 0; view = 0; wants = o } in
    ap (λ l. so l (wants_with none (wants_with none s.wants))) (exchanges_twice s.todo)
    ∙ ap (λ o. so (map (exchange_with none) s.todo) o) (wants_twice s.wants)

doing_twice : (doing : Activity) → tries_with 1 (doing_with none (doing_with none doing)) ≡ tries_with 1 (doing_with none doing)
doing_twice Outside = refl
doing_twice (Restarting left) = refl
doing_twice (Running left inner from) = refl
doing_twice (Applying left from work values) = refl
doing_twice (Swapping swap from) = refl

plain_twice : (t : Turned Configuration) → plain (turned_with none t) ≡ plain t
plain_twice (Ended s) = ap (λ u. Ended u) (state_twice s)
plain_twice (Failed f s) = ap (λ u. Failed f u) (state_twice s)
plain_twice (Asking s) = ap (λ u. Asking u) (state_twice s)
plain_twice (Unfinished c) =
    let so : Activity → ActorState → Turned Configuration = λ a u. Unfinished (record c { doing = a; state = u }) in
    ap (λ a. so a (state_with none (state_with none c.state))) (doing_twice c.doing)
    ∙ ap (λ u. so (tries_with 1 (doing_with none c.doing)) u) (state_twice c.state)
plain_twice Stuck = refl

tries_twice : (k : ℕ) (doing : Activity) → tries_with 1 (doing_with none (tries_with k doing)) ≡ tries_with 1 (doing_with none doing)
tries_twice k Outside = refl
tries_twice k (Restarting left) = refl
tries_twice k (Running left inner from) = refl
tries_twice k (Applying left from work values) = refl
tries_twice k (Swapping swap from) = refl

as_plain : (t u : Turned Configuration) → TriesAs t u → plain u ≡ plain t
as_plain (Ended s) u e = ap plain e
as_plain (Failed f s) u e = ap plain e
as_plain (Asking s) u e = ap plain e
as_plain (Unfinished d) u e = ap plain e.1 ∙ ap (λ a. Unfinished (record (plain_at d) { doing = a })) (tries_twice e.0 d.doing)
as_plain Stuck u e = ap plain e

-- ---- a turn without places and tries

-- where it waits, no exchange is to come
abbrev WaitsBare : Turned Configuration → Type 0
WaitsBare (Ended s) = Unit {0}
WaitsBare (Failed f s) = Unit {0}
WaitsBare (Asking s) = s.todo ≡ []
WaitsBare (Unfinished c) = Unit {0}
WaitsBare Stuck = Unit {0}

consumed_bare : (t : Turned Configuration) → HasConsumed t → WaitsBare t
consumed_bare (Ended s) h = tt
consumed_bare (Failed f s) h = tt
consumed_bare (Asking s) h = h
consumed_bare (Unfinished c) h = tt
consumed_bare Stuck h = tt

quiet_bare : (t : Turned Configuration) → AsksNothing t → WaitsBare t
quiet_bare (Ended s) h = tt
quiet_bare (Failed f s) h = tt
quiet_bare (Asking s) h = absurd h
quiet_bare (Unfinished c) h = tt
quiet_bare Stuck h = tt

natural : (t o : Turned Configuration) → ComesAs none t o → WaitsBare t → o ≡ turned_with none t
natural (Ended s) o e h = e
natural (Failed f s) o e h = e
natural (Asking s) o e h = e h
natural (Unfinished c) o e h = e
natural Stuck o e h = e

try_kept : (doing : Activity) → HasTry doing → HasTry (doing_with none doing)
try_kept Outside h = h
try_kept (Restarting left) h = h
try_kept (Running left inner from) h = h
try_kept (Applying left from work values) h = h
try_kept (Swapping swap from) h = h

-- the turn of what is left without places and tries is the turn, without them
plain_turn : (code : ThreadCode) (c : Configuration) → HasTry c.doing → WaitsBare (turn code c) → plain (turn code (plain_at c)) ≡ plain (turn code c)
plain_turn code c h w =
    let there = with_places none c in
    as_plain (turn code there) (turn code (plain_at c)) (tries_dont_count 0 code there (try_kept c.doing h))
    ∙ ap plain (natural (turn code c) (turn code there) (turn_is_natural none code c) w)
    ∙ plain_twice (turn code c)

both : (code : ThreadCode) (c d : Configuration) → HasTry c.doing → HasTry d.doing → WaitsBare (turn code c) → WaitsBare (turn code d) → plain_at c ≡ plain_at d → SameButPlaces (turn code c) (turn code d)
both code c d h g w v e = sym (plain_turn code c h w) ∙ ap (λ u. plain (turn code u)) e ∙ plain_turn code d g v

pub turns_alike : TurnsAlike
turns_alike code c d h g e =
    both code c d h.1 g.1 (consumed_bare (turn code c) (turn_consumed code c h.0)) (consumed_bare (turn code d) (turn_consumed code d g.0)) e

-- with these exchanges to come, and no others
abbrev only : List Exchange → Configuration → Configuration
only xs c = record c { state = record c.state { todo = xs } }

told_plain : (xs : List Exchange) (c : Configuration) → c.state.todo ≡ [] → plain_at (given xs c) ≡ only (map (exchange_with none) xs) (plain_at c)
told_plain xs c e = ap (λ l. only (map (exchange_with none) (l ++ xs)) (plain_at c)) e

pub replies_alike : RepliesAlike
replies_alike code c d q p r t h g e asks says n m =
    let one : Ask → Reply → List Exchange = λ a b. exchange a b ∷ [] in
    both code (given (one q r) c) (given (one p t) d) h.1 g.1 (quiet_bare (turn code (given (one q r) c)) n) (quiet_bare (turn code (given (one p t) d)) m)
    (told_plain (one q r) c h.0
    ∙ ap (λ u. only (map (exchange_with none) (one q r)) u) e
    ∙ ap (λ a. only (exchange a (reply_with none r) ∷ []) (plain_at d)) asks
    ∙ ap (λ b. only (exchange (ask_with none p) b ∷ []) (plain_at d)) says
    ∙ sym (told_plain (one p t) d g.0))

-- ---- replies are taken

staged_quiet : (agent : Bool) (st : Stage) (t : Turned Configuration) → IsStaged agent st t → AsksNothing t
staged_quiet agent st (Ended s) h = tt
staged_quiet agent st (Failed f s) h = tt
staged_quiet agent st (Asking s) h = absurd h
staged_quiet agent st (Unfinished c) h = tt
staged_quiet agent st Stuck h = tt

-- one ask is wanted
abbrev pub ask_or : Ask → Option Ask → Ask
ask_or q None = q
ask_or q (Some p) = p

pub same_want : (s : ActorState) (p q : Ask) → s.wants ≡ Some p → s.wants ≡ Some q → p ≡ q
same_want s p q e f = ap (ask_or p) (sym e ∙ f)

pub staged_takes : StagedTakes
staged_takes agent code c st staged stands q r a =
    let t : StagedFrom agent st (Asking a.0) (λ q r. turn code (given (exchange q r ∷ []) c)) = subst (λ o. StagedFrom agent st o (λ q r. turn code (given (exchange q r ∷ []) c))) a.1 (staged st stands) in
    subst (λ p. AsksNothing (turn code (given (exchange p r ∷ []) c))) (same_want a.0 t.0 q t.1 a.2)
    (staged_quiet agent (stage_after st t.0 r) (turn code (given (exchange t.0 r ∷ []) c)) (t.3 r))

-- ---- what is told

printed_plain : (o : Turned Configuration) → printed_in (plain o) ≡ printed_in o
printed_plain (Ended s) = refl
printed_plain (Failed f s) = refl
printed_plain (Asking s) = refl
printed_plain (Unfinished c) = refl
printed_plain Stuck = refl

ended_plain : (o : Turned Configuration) → ended_in (plain o) ≡ ended_in o
ended_plain (Ended s) = refl
ended_plain (Failed f s) = refl
ended_plain (Asking s) = refl
ended_plain (Unfinished c) = refl
ended_plain Stuck = refl

wanted_plain : (o : Turned Configuration) → wanted_in (plain o) ≡ wants_with none (wanted_in o)
wanted_plain (Ended s) = refl
wanted_plain (Failed f s) = refl
wanted_plain (Asking s) = refl
wanted_plain (Unfinished c) = refl
wanted_plain Stuck = refl

pub told_alike : ToldAlike
told_alike o p e = (
  sym (printed_plain o) ∙ ap printed_in e ∙ printed_plain p,
  sym (ended_plain o) ∙ ap ended_in e ∙ ended_plain p,
  sym (wanted_plain o) ∙ ap wanted_in e ∙ wanted_plain p,
)

-- ---- actors of a run

-- what becomes of an actor by the kind of its reply
pub data Kind : Type 0 where
  takes_it stays is_full no_memory : Kind

abbrev pub kind_of : Reply → Kind
kind_of (reply.At p) = takes_it
kind_of (reply.Is v) = takes_it
kind_of (reply.Views p vs) = takes_it
kind_of reply.Done = takes_it
kind_of (reply.Retry c) = takes_it
kind_of (reply.Changed c) = takes_it
kind_of (reply.AgentIsFailed g) = takes_it
kind_of (reply.Action n a v) = takes_it
kind_of reply.Idle = stays
kind_of (reply.Opened p v) = takes_it
kind_of reply.Full = is_full
kind_of reply.Memory = no_memory

pub same_kind : (r : Reply) → kind_of (reply_with none r) ≡ kind_of r
same_kind (reply.At p) = refl
same_kind (reply.Is v) = refl
same_kind (reply.Views p vs) = refl
same_kind reply.Done = refl
same_kind (reply.Retry c) = refl
same_kind (reply.Changed c) = refl
same_kind (reply.AgentIsFailed g) = refl
same_kind (reply.Action n a v) = refl
same_kind reply.Idle = refl
same_kind (reply.Opened p v) = refl
same_kind reply.Full = refl
same_kind reply.Memory = refl

abbrev pub by_kind : Kind → Actor → Actor → Actor
by_kind takes_it heard x = heard
by_kind stays heard x = x
by_kind is_full heard x = stop JournalFull x
by_kind no_memory heard x = stop Memory x

pub replied_by : (code : ThreadCode) (c : Configuration) (q : Ask) (r : Reply) (k : ℕ) (x : Actor) → replied code c q r k x ≡ by_kind (kind_of r) (hears code c q r k x) x
replied_by code c q (reply.At p) k x = refl
replied_by code c q (reply.Is v) k x = refl
replied_by code c q (reply.Views p vs) k x = refl
replied_by code c q reply.Done k x = refl
replied_by code c q (reply.Retry d) k x = refl
replied_by code c q (reply.Changed d) k x = refl
replied_by code c q (reply.AgentIsFailed g) k x = refl
replied_by code c q (reply.Action n a v) k x = refl
replied_by code c q reply.Idle k x = refl
replied_by code c q (reply.Opened p v) k x = refl
replied_by code c q reply.Full k x = refl
replied_by code c q reply.Memory k x = refl

pub kinds_alike : (k : Kind) (v w x y : Actor) → ActorsAlike v w → ActorsAlike x y → ActorsAlike (by_kind k v x) (by_kind k w y)
kinds_alike takes_it v w x y h g = h
kinds_alike stays v w x y h g = g
kinds_alike is_full v w x y h g = (g.0, refl)
kinds_alike no_memory v w x y h g = (g.0, refl)

-- whether an actor rests there
abbrev pub rests : Turned Configuration → Bool
rests (Ended s) = true
rests (Failed f s) = true
rests (Asking s) = true
rests (Unfinished c) = false
rests Stuck = true

pub rests_plain : (t : Turned Configuration) → rests (plain t) ≡ rests t
rests_plain (Ended s) = refl
rests_plain (Failed f s) = refl
rests_plain (Asking s) = refl
rests_plain (Unfinished c) = refl
rests_plain Stuck = refl

-- whether it waits with an ask, and with which
abbrev pub waits : Turned Configuration → Bool
waits (Ended s) = false
waits (Failed f s) = false
waits (Asking s) = true
waits (Unfinished c) = false
waits Stuck = false

pub waits_plain : (t : Turned Configuration) → waits (plain t) ≡ waits t
waits_plain (Ended s) = refl
waits_plain (Failed f s) = refl
waits_plain (Asking s) = refl
waits_plain (Unfinished c) = refl
waits_plain Stuck = refl

abbrev IsTrueThat : Bool → Type 0
IsTrueThat true = Unit {0}
IsTrueThat false = ⊥

pub absurdly : {A : Type 0} → true ≡ false → A
absurdly e = absurd (subst IsTrueThat e tt)

abbrev pub at_or : Configuration → Turned Configuration → Configuration
at_or c (Ended s) = c
at_or c (Failed f s) = c
at_or c (Asking s) = c
at_or c (Unfinished d) = d
at_or c Stuck = c

abbrev pub wants_or : Option Ask → Turned Configuration → Option Ask
wants_or o (Ended s) = o
wants_or o (Failed f s) = o
wants_or o (Asking s) = s.wants
wants_or o (Unfinished d) = o
wants_or o Stuck = o

abbrev pub is_some : Option Ask → Bool
is_some None = false
is_some (Some p) = true

module _ (cells : List CellDefinition) (threads : ℕ) (code : ThreadCode) (a : ℕ) (x y : Actor) (sh other : Shared) (alike : ActorsAlike x y) where
  module _ (c d : Configuration) (here : x.at ≡ Unfinished c) (there : y.at ≡ Unfinished d) (h : IsClear c) (g : IsClear d) (took : TakesReply code c) (takes : TakesReply code d)
      (answers : (q p : Ask) → AsksAt code c q → AsksAt code d p → SameAsk q p → AnswersAlike cells threads a sh other q p) (same : plain_at c ≡ plain_at d) where
    -- an ask that is answered or isn't lawful
    asked_alike : (q p : Ask) → AsksAt code c q → AsksAt code d p → SameAsk q p
        → ActorsAlike (asked (may_ask cells threads sh.taken a q (sh.books (book_for cells q))) cells code a c q x sh).actor (asked (may_ask cells threads other.taken a p (other.books (book_for cells p))) cells code a d p y other).actor
    asked_alike q p aq ap2 e = by (may_ask cells threads sh.taken a q (sh.books (book_for cells q))) (may_ask cells threads other.taken a p (other.books (book_for cells p))) (answers q p aq ap2 e).0
      where
        r : Reply
        r = (serve_on cells a q (sh.books (book_for cells q))).reply

        t : Reply
        t = (serve_on cells a p (other.books (book_for cells p))).reply

        k : ℕ
        k = length (sh.books (book_for cells q))

        j : ℕ
        j = length (other.books (book_for cells p))

        says : SameReply r t
        says = (answers q p aq ap2 e).1

        hear : ActorsAlike (hears code c q r k x) (hears code d p t j y)
        hear = (replies_alike code c d q p r t h g same e says (took q r aq) (takes p t ap2), alike.1)

        kinds : kind_of t ≡ kind_of r
        kinds = sym (same_kind t) ∙ ap kind_of (sym says) ∙ same_kind r

        answered_so : ActorsAlike (replied code c q r k x) (replied code d p t j y)
        answered_so =
            subst (λ v. ActorsAlike v (replied code d p t j y)) (sym (replied_by code c q r k x))
            (subst (λ w. ActorsAlike (by_kind (kind_of r) (hears code c q r k x) x) w) (sym (replied_by code d p t j y ∙ ap (λ i. by_kind i (hears code d p t j y) y) kinds))
            (kinds_alike (kind_of r) (hears code c q r k x) (hears code d p t j y) x y hear alike))

        by : (b i : Bool) → b ≡ i → ActorsAlike (asked b cells code a c q x sh).actor (asked i cells code a d p y other).actor
        by true true z = answered_so
        by false false z = (alike.0, refl)
        by true false z = absurdly z
        by false true z = absurdly (sym z)

    wants_alike : (s u : ActorState) (o i : Option Ask) → turn code c ≡ Asking s → turn code d ≡ Asking u → s.wants ≡ o → u.wants ≡ i → wants_with none o ≡ wants_with none i → SameButPlaces (Asking s) (Asking u)
        → ActorsAlike (asks_for cells threads code a c s o x sh).actor (asks_for cells threads code a d u i y other).actor
    wants_alike s u None None e f w v z n = (n, alike.1)
    wants_alike s u (Some q) (Some p) e f w v z n = asked_alike q p (s, e, w) (u, f, v) (ap (ask_or (ask_with none q)) z)
    wants_alike s u None (Some p) e f w v z n = absurdly (sym (ap is_some z))
    wants_alike s u (Some q) None e f w v z n = absurdly (ap is_some z)

    quietly : (t : Turned Configuration) → waits t ≡ false → (turned cells threads code a c t x sh).actor ≡ comes_to t x
    quietly (Ended s) e = refl
    quietly (Failed f s) e = refl
    quietly (Asking s) e = absurdly e
    quietly (Unfinished b) e = refl
    quietly Stuck e = refl

    calmly : (t : Turned Configuration) → waits t ≡ false → (turned cells threads code a d t y other).actor ≡ comes_to t y
    calmly (Ended s) e = refl
    calmly (Failed f s) e = refl
    calmly (Asking s) e = absurdly e
    calmly (Unfinished b) e = refl
    calmly Stuck e = refl

    quiet_alike : (t u : Turned Configuration) → waits t ≡ false → SameButPlaces t u → ActorsAlike (turned cells threads code a c t x sh).actor (turned cells threads code a d u y other).actor
    quiet_alike t u z n =
        subst (λ v. ActorsAlike v (turned cells threads code a d u y other).actor) (sym (quietly t z))
        (subst (λ w. ActorsAlike (comes_to t x) w) (sym (calmly u (sym (sym (waits_plain t) ∙ ap waits n ∙ waits_plain u) ∙ z))) (n, alike.1))

    asking_alike : (s : ActorState) (u : Turned Configuration) → turn code c ≡ Asking s → turn code d ≡ u → SameButPlaces (Asking s) u → ActorsAlike (turned cells threads code a c (Asking s) x sh).actor (turned cells threads code a d u y other).actor
    asking_alike s (Asking u) e f n = wants_alike s u s.wants u.wants e f refl refl (ap (wants_or None) n) n
    asking_alike s (Ended u) e f n = absurdly (ap waits n)
    asking_alike s (Failed w u) e f n = absurdly (ap waits n)
    asking_alike s (Unfinished b) e f n = absurdly (ap waits n)
    asking_alike s Stuck e f n = absurdly (ap waits n)

    turned_alike : (t u : Turned Configuration) → turn code c ≡ t → turn code d ≡ u → SameButPlaces t u → ActorsAlike (turned cells threads code a c t x sh).actor (turned cells threads code a d u y other).actor
    turned_alike (Asking s) u e f n = asking_alike s u e f n
    turned_alike (Ended s) u e f n = quiet_alike (Ended s) u refl n
    turned_alike (Failed w s) u e f n = quiet_alike (Failed w s) u refl n
    turned_alike (Unfinished b) u e f n = quiet_alike (Unfinished b) u refl n
    turned_alike Stuck u e f n = quiet_alike Stuck u refl n

    moved_alike : ActorsAlike (turned cells threads code a c (turn code c) x sh).actor (turned cells threads code a d (turn code d) y other).actor
    moved_alike = turned_alike (turn code c) (turn code d) refl refl (turns_alike code c d h g same)

  resting : (o : Turned Configuration) (w : Option Stop) → rests o ≡ true → (turns_from cells threads code a o w x sh).actor ≡ x
  resting (Ended s) w e = refl
  resting (Failed f s) w e = refl
  resting (Asking s) w e = refl
  resting (Unfinished c) w e = absurdly (sym e)
  resting Stuck w e = refl

  sleeping : (o : Turned Configuration) (w : Option Stop) → rests o ≡ true → (turns_from cells threads code a o w y other).actor ≡ y
  sleeping (Ended s) w e = refl
  sleeping (Failed f s) w e = refl
  sleeping (Asking s) w e = refl
  sleeping (Unfinished c) w e = absurdly (sym e)
  sleeping Stuck w e = refl

  rest_alike : (o p : Turned Configuration) (w : Option Stop) → rests o ≡ true → SameButPlaces o p → ActorsAlike (turns_from cells threads code a o w x sh).actor (turns_from cells threads code a p w y other).actor
  rest_alike o p w z n =
      subst (λ v. ActorsAlike v (turns_from cells threads code a p w y other).actor) (sym (resting o w z))
      (subst (λ v. ActorsAlike x v) (sym (sleeping p w (sym (sym (rests_plain o) ∙ ap rests n ∙ rests_plain p) ∙ z))) alike)

  module _ (answers : (q p : Ask) → AsksNext code x.at q → AsksNext code y.at p → SameAsk q p → AnswersAlike cells threads a sh other q p) where
    going_alike : (c : Configuration) (p : Turned Configuration) (w : Option Stop) → x.at ≡ Unfinished c → y.at ≡ p → IsReady code (Unfinished c) → IsReady code p → SameButPlaces (Unfinished c) p
        → ActorsAlike (turns_from cells threads code a (Unfinished c) w x sh).actor (turns_from cells threads code a p w y other).actor
    going_alike c (Unfinished d) None e f h g n = moved_alike c d e f h.0 g.0 h.1 g.1 (λ q p aq ap2. answers q p (c, e, aq) (d, f, ap2)) (ap (at_or c) n)
    going_alike c (Unfinished d) (Some why) e f h g n = alike
    going_alike c (Ended s) w e f h g n = absurdly (sym (ap rests n))
    going_alike c (Failed b s) w e f h g n = absurdly (sym (ap rests n))
    going_alike c (Asking s) w e f h g n = absurdly (sym (ap rests n))
    going_alike c Stuck w e f h g n = absurdly (sym (ap rests n))

    here_alike : (o p : Turned Configuration) (w : Option Stop) → x.at ≡ o → y.at ≡ p → IsReady code o → IsReady code p → SameButPlaces o p
        → ActorsAlike (turns_from cells threads code a o w x sh).actor (turns_from cells threads code a p w y other).actor
    here_alike (Unfinished c) p w e f h g n = going_alike c p w e f h g n
    here_alike (Ended s) p w e f h g n = rest_alike (Ended s) p w refl n
    here_alike (Failed b s) p w e f h g n = rest_alike (Failed b s) p w refl n
    here_alike (Asking s) p w e f h g n = rest_alike (Asking s) p w refl n
    here_alike Stuck p w e f h g n = rest_alike Stuck p w refl n

pub actors_run_alike : ActorsRunAlike
actors_run_alike cells threads code a x y sh other alike h g answers =
    subst (λ w. ActorsAlike (turns_from cells threads code a x.at x.stopped x sh).actor (turns_from cells threads code a y.at w y other).actor) alike.1
    (here_alike cells threads code a x y sh other alike answers x.at y.at x.stopped refl refl h g alike.0)
