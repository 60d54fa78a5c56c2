-- The actors that a search goes through: one that may not go on changes nothing, and two whose asks are apart may be exchanged.
use Rattle.std.proofs.Common.{◌≡◌, ◌<◌, ◌≤◌, ◌+◌, ℕ, zero, suc, Bool, true, false, not, ◌&&◌, ◌==◌, nat_lt, ◌∷◌, length, Option, Some, None, if◌then◌else◌, refl, sym, ap, subst, ◌∙◌, arith}
use Rattle.std.proofs.lemmas.Bool.{false≢true}
use Rattle.std.proofs.lemmas.Bool.Decides.{nat_tests}
use Rattle.txs_world_protocol.specs.declared.ask.Ask.{Ask}
use Rattle.txs_world_protocol.specs.declared.ask.Ask.TheVariants as ask
use Rattle.txs_world_protocol.specs.declared.ask.Reply.{Reply}
use Rattle.txs_world_protocol.specs.declared.ask.Reply.TheVariants as reply
use Rattle.txs_value_data.proofs.SameLemmas.{and_both, numbers}
use Rattle.txs_value_data.specs.declared.value.CellId.{CellId}
use Rattle.txs_code_meaning.specs.ActorState.{ActorState}
use Rattle.txs_code_meaning.specs.Machine.{ThreadCode, Configuration, Turned, Ended, Failed, Asking, Unfinished, Stuck, turn}
use Rattle.txs_world_book.specs.Book.{is_there, mail_after, newest, opening}
use Rattle.txs_world_book.specs.Served.{Served, served, cells_of}
use Rattle.txs_world.specs.Store.{takes, next_action}
use Rattle.txs_theorem_runs.specs.Shared.{Shared, book_for, may_ask, shared_after}
use Rattle.txs_theorem_runs.specs.Run.{Stop, Unlawful, replied, asked, asks_for, turned, turns_from, stop}
use Rattle.txs_explore.specs.System.{has}
use Rattle.txs_explore.specs.Actors.{Next, Quiet, Asks, Rests, Answered, All, put, does, instruction}
use Rattle.txs_explore.specs.Runners.{Runner, runner_of, as_actor, next_wait, next_turned, next_within, next_from, answered_of, wanted, next_ask, is_idle, is_due, those, are_apart, Explored, many, runners}
use Rattle.txs_explore.proofs.Calming.{IsCalm, same_all}
use Rattle.txs_explore.proofs.Careful.{AreCalm, AreCareful, turned_about, exchanged_asks, rested}
use Rattle.txs_explore.proofs.Exchanging.{Exchange, may, gets, leaves, behind, exchange}
use Rattle.txs_explore.proofs.Running.{falls}

-- ---- what an actor asks

-- the actor's next instruction asks this
pub record AsksNow (code : ThreadCode) (l : Runner) (q : Ask) : Type 0 where
  pub place : Configuration
  pub state : ActorState
  pub here : l.at ≡ Unfinished place
  pub going : l.stopped ≡ None
  pub comes : turn code place ≡ Asking state
  pub wants : state.wants ≡ Some q

pub none_some : {P : Type 0} (q : Ask) → None ≡ Some q → P
none_some q e = absurd (false≢true (ap is_there e))

pub asks_now : (code : ThreadCode) (l : Runner) (q : Ask) → next_ask code l.at l.stopped ≡ Some q → AsksNow code l q
asks_now code l q e = by l.at l.stopped refl refl e
  where
    by_turn : (c : Configuration) → l.at ≡ Unfinished c → l.stopped ≡ None → (t : Turned Configuration) → turn code c ≡ t → wanted t ≡ Some q → AsksNow code l q
    by_turn c h g (Ended s) r e = none_some q e
    by_turn c h g (Failed f s) r e = none_some q e
    by_turn c h g (Asking s) r e = record { place = c; state = s; here = h; going = g; comes = r; wants = e }
    by_turn c h g (Unfinished d) r e = none_some q e
    by_turn c h g Stuck r e = none_some q e

    by : (at : Turned Configuration) (o : Option Stop) → l.at ≡ at → l.stopped ≡ o → next_ask code at o ≡ Some q → AsksNow code l q
    by (Ended s) o h g e = none_some q e
    by (Failed f s) o h g e = none_some q e
    by (Asking s) o h g e = none_some q e
    by (Unfinished c) None h g e = by_turn c h g (turn code c) refl e
    by (Unfinished c) (Some why) h g e = none_some q e
    by Stuck o h g e = none_some q e

abbrev does_ask : Next Runner → Bool
does_ask (Quiet m) = false
does_ask Asks = true
does_ask Rests = false

-- what asks has an ask
abbrev HasAsk : Option Ask → Next Runner → Type 0
HasAsk o (Quiet m) = Unit {0}
HasAsk o Asks = (q : Ask) × (o ≡ Some q)
HasAsk o Rests = Unit {0}

has_ask : (code : ThreadCode) (b : Bool) (at : Turned Configuration) (o : Option Stop) (l : Runner) → HasAsk (next_ask code at o) (next_from code b at o l)
has_ask code b (Ended s) o l = tt
has_ask code b (Failed f s) o l = tt
has_ask code b (Asking s) o l = tt
has_ask code b (Unfinished c) None l = by b
  where
    by_wait : (s : ActorState) (w : Option Ask) → HasAsk w (next_wait s w l)
    by_wait s None = tt
    by_wait s (Some q) = (q, refl)

    by_turned : (t : Turned Configuration) → HasAsk (wanted t) (next_turned t l)
    by_turned (Ended s) = tt
    by_turned (Failed f s) = tt
    by_turned (Asking s) = by_wait s s.wants
    by_turned (Unfinished d) = tt
    by_turned Stuck = tt

    by : (b : Bool) → HasAsk (wanted (turn code c)) (next_within code b c l)
    by true = by_turned (turn code c)
    by false = tt
has_ask code b (Unfinished c) (Some why) l = tt
has_ask code b Stuck o l = tt

-- ---- what it becomes

module _ (x : Explored) (a : ℕ) (l : Runner) (q : Ask) (n : AsksNow (x.codes a) l q) where
  -- with a reply, or stopped for what it asked
  abbrev hears : Bool → Reply → Runner
  hears true r = runner_of (replied (x.codes a) n.place q r 0 (as_actor l))
  hears false r = runner_of (stop Unlawful (as_actor l))

  replied_so : (r : Reply) (k : ℕ) → runner_of (replied (x.codes a) n.place q r k (as_actor l)) ≡ hears true r
  replied_so (reply.At p) k = refl
  replied_so (reply.Is v) k = refl
  replied_so (reply.Views p vs) k = refl
  replied_so reply.Done k = refl
  replied_so (reply.Retry d) k = refl
  replied_so (reply.Changed d) k = refl
  replied_so (reply.AgentIsFailed g) k = refl
  replied_so (reply.Action i y v) k = refl
  replied_so (reply.Opened p v) k = refl
  replied_so reply.Idle k = refl
  replied_so reply.Full k = refl
  replied_so reply.Memory k = refl

  asked_so : (b : Bool) (sh : Shared) → answered_of (asked b x.cells (x.codes a) a n.place q (as_actor l) sh)
      ≡ record { actor = hears b (gets x.cells x.threads a q sh).reply; shared = leaves x.cells x.threads b q (gets x.cells x.threads a q sh) sh }
  asked_so true sh = ap (λ m. record { actor = m; shared = shared_after x.cells q (gets x.cells x.threads a q sh) sh }) (replied_so (gets x.cells x.threads a q sh).reply (length (sh.books (book_for x.cells q))))
  asked_so false sh = refl

  -- an actor is answered by the book for its ask
  answer_is : (sh : Shared) → (runners x).answer a l sh
      ≡ record { actor = hears (may x.cells x.threads a q sh) (gets x.cells x.threads a q sh).reply; shared = behind x.cells x.threads a q sh }
  answer_is sh =
      ap (λ o. answered_of (turns_from x.cells x.threads (x.codes a) a o l.stopped (as_actor l) sh)) n.here
      ∙ ap (λ o. answered_of (turns_from x.cells x.threads (x.codes a) a (Unfinished n.place) o (as_actor l) sh)) n.going
      ∙ ap (λ o. answered_of (turned x.cells x.threads (x.codes a) a n.place o (as_actor l) sh)) n.comes
      ∙ ap (λ o. answered_of (asks_for x.cells x.threads (x.codes a) a n.place n.state o (as_actor l) sh)) n.wants
      ∙ asked_so (may x.cells x.threads a q sh) sh

-- ---- who may not go on

those_have : (f : ℕ → Bool) (k n m : ℕ) → f m ≡ true → k ≤ m → m < k + n → has m (those f k n) ≡ true
those_have f k zero m t g h = absurd (omega (arith, g, h))
those_have f k (suc n) m t g h = by (λ u v. those_have f (suc k) n m t u v) (m == k) refl
  where
    first : (b : Bool) → f k ≡ b → (m == k) ≡ true → has m (if b then k ∷ those f (suc k) n else those f (suc k) n) ≡ true
    first true e q = ap (λ z. if z then true else has m (those f (suc k) n)) q
    first false e q = absurd (false≢true (sym e ∙ ap f (sym (numbers m k q)) ∙ t))

    later : (b : Bool) → has m (those f (suc k) n) ≡ true → has m (if b then k ∷ those f (suc k) n else those f (suc k) n) ≡ true
    later true e = one (m == k)
      where
        one : (z : Bool) → (if z then true else has m (those f (suc k) n)) ≡ true
        one true = refl
        one false = e
    later false e = e

    more : (m == k) ≡ false → suc k ≤ m
    more q = grind (arith, nat_tests, q, g)

    by : (suc k ≤ m → m < suc k + n → has m (those f (suc k) n) ≡ true) → (b : Bool) → (m == k) ≡ b → has m (those f k (suc n)) ≡ true
    by again true q = first (f k) refl q
    by again false q = later (f k) (again (more q) (omega (arith, h)))

below : (m n : ℕ) → nat_lt m n ≡ true → m < n
below m n h = grind (arith, nat_tests, h)

not_there : {A : Type 0} (o : Option A) → not (is_there o) ≡ true → o ≡ None
not_there None h = refl
not_there (Some y) h = absurd (false≢true h)

-- an ask that is answered Idle changes nothing
module _ (x : Explored) (a : ℕ) (l : Runner) (sh : Shared) where
  -- that an answer leaves both
  abbrev Leaves : Type 0
  Leaves = (runners x).answer a l sh ≡ record { actor = l; shared = sh }

  takes_none : (g : CellId) → AsksNow (x.codes a) l (ask.Take g) → may_ask x.cells x.threads sh.taken a (ask.Take g) (sh.books 0) ≡ true → next_action (cells_of x.cells) (sh.books 0) g ≡ None → Leaves
  takes_none g n m e =
      answer_is x a l (ask.Take g) n sh
      ∙ ap (λ b. record { actor = hears x a l (ask.Take g) n b (gets x.cells x.threads a (ask.Take g) sh).reply; shared = leaves x.cells x.threads b (ask.Take g) (gets x.cells x.threads a (ask.Take g) sh) sh }) m
      ∙ ap (λ (v : Served). record { actor = hears x a l (ask.Take g) n true v.reply; shared = leaves x.cells x.threads true (ask.Take g) v sh })
      (ap (λ o. served (takes o (suc (mail_after (cells_of x.cells) (sh.books 0) g.number).acts) (newest (opening (cells_of x.cells)) (sh.books 0) g.number)) (sh.books 0)) e)
      ∙ ap (λ s. record { actor = l; shared = s }) (λ i. record { books = λ k. same k (k == 0) refl i; taken = sh.taken })
    where
      same : (k : ℕ) (b : Bool) → (k == 0) ≡ b → (if b then sh.books 0 else sh.books k) ≡ sh.books k
      same k true q = ap sh.books (sym (numbers k 0 q))
      same k false q = refl

  idle_leaves : (q : Ask) → AsksNow (x.codes a) l q → is_idle x.cells x.threads sh a q ≡ true → Leaves
  idle_leaves ask.Begin n e = absurd (false≢true e)
  idle_leaves (ask.Look c at) n e = absurd (false≢true e)
  idle_leaves (ask.View cs) n e = absurd (false≢true e)
  idle_leaves (ask.Commit at sets ensured view commuted sends) n e = absurd (false≢true e)
  idle_leaves (ask.Fail at view) n e = absurd (false≢true e)
  idle_leaves (ask.Peek c) n e = absurd (false≢true e)
  idle_leaves (ask.Send y) n e = absurd (false≢true e)
  idle_leaves (ask.Take g) n e =
      let h = and_both (may_ask x.cells x.threads sh.taken a (ask.Take g) (sh.books 0)) (not (is_there (next_action (cells_of x.cells) (sh.books 0) g))) e in
      takes_none g n h.0 (not_there (next_action (cells_of x.cells) (sh.books 0) g) h.1)
  idle_leaves (ask.Finish g new sends) n e = absurd (false≢true e)
  idle_leaves (ask.OpenAt c) n e = absurd (false≢true e)
  idle_leaves (ask.CloseAt c at new) n e = absurd (false≢true e)
  idle_leaves (ask.Broke c at) n e = absurd (false≢true e)

not_not : (b : Bool) → not b ≡ false → b ≡ true
not_not true h = refl
not_not false h = absurd (false≢true (sym h))

module _ (x : Explored) where
  -- whether an actor may go on, where it asks or rests
  abbrev due : All (runners x) → ℕ → Bool
  due s k = is_due x.cells x.threads s.shared k (next_ask (x.codes k) (s.actors k).at (s.actors k).stopped)

  unlisted : (k : ℕ) (s : All (runners x)) → nat_lt k (many x) ≡ true → has k ((runners x).live s.shared s.actors) ≡ false → due s k ≡ false
  unlisted k s b h = by (due s k) refl
    where
      by : (c : Bool) → due s k ≡ c → c ≡ false
      by true e = absurd (false≢true (sym h ∙ those_have (due s) 0 (many x) k e (omega arith) (omega (arith, below k (many x) b))))
      by false e = refl

  is_calm_here : (k : ℕ) (s : All (runners x)) → (n : Next Runner) → (runners x).next k (s.actors k) ≡ n → IsCalm n → nat_lt k (many x) ≡ true → HasAsk (next_ask (x.codes k) (s.actors k).at (s.actors k).stopped) n
  is_calm_here k s n e c b =
      subst (HasAsk (next_ask (x.codes k) (s.actors k).at (s.actors k).stopped))
      (sym (ap (λ z. if z then next_from (x.codes k) (nat_lt (s.actors k).turns x.limit) (s.actors k).at (s.actors k).stopped (s.actors k) else Rests) b) ∙ e)
      (has_ask (x.codes k) (nat_lt (s.actors k).turns x.limit) (s.actors k).at (s.actors k).stopped (s.actors k))

  -- one that asks is one of those that there are
  is_one : (k : ℕ) (l : Runner) → (runners x).next k l ≡ Asks → nat_lt k (many x) ≡ true
  is_one k l e = by (nat_lt k (many x)) refl e
    where
      by : (b : Bool) → nat_lt k (many x) ≡ b → (if b then next_from (x.codes k) (nat_lt l.turns x.limit) l.at l.stopped l else Rests) ≡ Asks → b ≡ true
      by true q e = refl
      by false q e = absurd (false≢true (ap does_ask e))

  rests : (k : ℕ) (s : All (runners x)) → AreCalm (runners x) s → has k ((runners x).live s.shared s.actors) ≡ false → instruction (runners x) k s ≡ s
  rests k s c h = by ((runners x).next k (s.actors k)) refl (c k)
    where
      stays : (runners x).answer k (s.actors k) s.shared ≡ record { actor = s.actors k; shared = s.shared } → does (runners x) k Asks s ≡ s
      stays e =
          ap (λ (v : Answered Runner Shared). record { shared = v.shared; actors = put k v.actor s.actors }) e
          ∙ same_all (runners x) (record { shared = s.shared; actors = put k (s.actors k) s.actors }) s refl (λ j. at j (k == j) refl)
        where
          at : (j : ℕ) (b : Bool) → (k == j) ≡ b → (if b then s.actors k else s.actors j) ≡ s.actors j
          at j true q = ap s.actors (numbers k j q)
          at j false q = refl

      idle : (q : Ask) → next_ask (x.codes k) (s.actors k).at (s.actors k).stopped ≡ Some q → due s k ≡ false → does (runners x) k Asks s ≡ s
      idle q w u = stays (idle_leaves x k (s.actors k) s.shared q (asks_now (x.codes k) (s.actors k) q w) (not_not (is_idle x.cells x.threads s.shared k q) (sym (ap (is_due x.cells x.threads s.shared k) w) ∙ u)))

      by : (n : Next Runner) → (runners x).next k (s.actors k) ≡ n → IsCalm n → instruction (runners x) k s ≡ s
      by (Quiet m) e c = absurd c
      by Asks e c =
          let b = is_one k (s.actors k) e in
          let w = is_calm_here k s Asks e tt b in
          ap (λ n. does (runners x) k n s) e ∙ idle w.0 w.1 (unlisted k s b h)
      by Rests e c = ap (λ n. does (runners x) k n s) e

  -- ---- which asks may be exchanged

  -- whether the asks of two are apart
  abbrev apart : ℕ → ℕ → All (runners x) → Bool
  apart k j s = are_apart x.cells s.shared (next_ask (x.codes k) (s.actors k).at (s.actors k).stopped) (next_ask (x.codes j) (s.actors j).at (s.actors j).stopped)

  differs : (k j : ℕ) (o : Bool) → (not (k == j) && o) ≡ true → (k == j) ≡ false
  differs k j o h = by (k == j) refl (and_both (not (k == j)) o h).0
    where
      by : (b : Bool) → (k == j) ≡ b → not b ≡ true → b ≡ false
      by true e h = absurd (false≢true h)
      by false e h = refl

  -- both ask
  asks_exchanged : (k j : ℕ) (s : All (runners x)) → (k == j) ≡ false → (p q : Ask) → AsksNow (x.codes k) (s.actors k) p → AsksNow (x.codes j) (s.actors j) q
      → (runners x).next k (s.actors k) ≡ Asks → (runners x).next j (s.actors j) ≡ Asks → Exchange x.cells x.threads k j p q s.shared
      → instruction (runners x) j (instruction (runners x) k s) ≡ instruction (runners x) k (instruction (runners x) j s)
  asks_exchanged k j s d p q m n e f h = exchanged_asks (runners x) k j s d e f first second both
    where
      shared_k : (sh : Shared) → ((runners x).answer k (s.actors k) sh).shared ≡ behind x.cells x.threads k p sh
      shared_k sh = ap (λ (v : Answered Runner Shared). v.shared) (answer_is x k (s.actors k) p m sh)

      shared_j : (sh : Shared) → ((runners x).answer j (s.actors j) sh).shared ≡ behind x.cells x.threads j q sh
      shared_j sh = ap (λ (v : Answered Runner Shared). v.shared) (answer_is x j (s.actors j) q n sh)

      actor_k : (sh : Shared) → ((runners x).answer k (s.actors k) sh).actor ≡ hears x k (s.actors k) p m (may x.cells x.threads k p sh) (gets x.cells x.threads k p sh).reply
      actor_k sh = ap (λ (v : Answered Runner Shared). v.actor) (answer_is x k (s.actors k) p m sh)

      actor_j : (sh : Shared) → ((runners x).answer j (s.actors j) sh).actor ≡ hears x j (s.actors j) q n (may x.cells x.threads j q sh) (gets x.cells x.threads j q sh).reply
      actor_j sh = ap (λ (v : Answered Runner Shared). v.actor) (answer_is x j (s.actors j) q n sh)

      first : ((runners x).answer k (s.actors k) ((runners x).answer j (s.actors j) s.shared).shared).actor ≡ ((runners x).answer k (s.actors k) s.shared).actor
      first =
          ap (λ sh. ((runners x).answer k (s.actors k) sh).actor) (shared_j s.shared)
          ∙ actor_k (behind x.cells x.threads j q s.shared)
          ∙ ap (λ b. hears x k (s.actors k) p m b (gets x.cells x.threads k p (behind x.cells x.threads j q s.shared)).reply) h.first.lawful
          ∙ ap (hears x k (s.actors k) p m (may x.cells x.threads k p s.shared)) h.first.heard
          ∙ sym (actor_k s.shared)

      second : ((runners x).answer j (s.actors j) ((runners x).answer k (s.actors k) s.shared).shared).actor ≡ ((runners x).answer j (s.actors j) s.shared).actor
      second =
          ap (λ sh. ((runners x).answer j (s.actors j) sh).actor) (shared_k s.shared)
          ∙ actor_j (behind x.cells x.threads k p s.shared)
          ∙ ap (λ b. hears x j (s.actors j) q n b (gets x.cells x.threads j q (behind x.cells x.threads k p s.shared)).reply) h.second.lawful
          ∙ ap (hears x j (s.actors j) q n (may x.cells x.threads j q s.shared)) h.second.heard
          ∙ sym (actor_j s.shared)

      both : ((runners x).answer j (s.actors j) ((runners x).answer k (s.actors k) s.shared).shared).shared ≡ ((runners x).answer k (s.actors k) ((runners x).answer j (s.actors j) s.shared).shared).shared
      both =
          ap (λ sh. ((runners x).answer j (s.actors j) sh).shared) (shared_k s.shared)
          ∙ shared_j (behind x.cells x.threads k p s.shared)
          ∙ h.shared
          ∙ sym (ap (λ sh. ((runners x).answer k (s.actors k) sh).shared) (shared_j s.shared) ∙ shared_k (behind x.cells x.threads j q s.shared))

  both_ask : (k j : ℕ) (s : All (runners x)) → (k == j) ≡ false → (runners x).next k (s.actors k) ≡ Asks → (runners x).next j (s.actors j) ≡ Asks → (o r : Option Ask)
      → next_ask (x.codes k) (s.actors k).at (s.actors k).stopped ≡ o → next_ask (x.codes j) (s.actors j).at (s.actors j).stopped ≡ r → are_apart x.cells s.shared o r ≡ true
      → instruction (runners x) j (instruction (runners x) k s) ≡ instruction (runners x) k (instruction (runners x) j s)
  both_ask k j s d e f None r u v h = absurd (false≢true h)
  both_ask k j s d e f (Some p) None u v h = absurd (false≢true h)
  both_ask k j s d e f (Some p) (Some q) u v h =
      asks_exchanged k j s d p q (asks_now (x.codes k) (s.actors k) p u) (asks_now (x.codes j) (s.actors j) q v) e f (exchange x.cells x.threads k j d p q s.shared h)

  exchanged : (k j : ℕ) (s : All (runners x)) → AreCalm (runners x) s → (runners x).apart s.shared s.actors k j ≡ true
      → instruction (runners x) j (instruction (runners x) k s) ≡ instruction (runners x) k (instruction (runners x) j s)
  exchanged k j s c h = by ((runners x).next k (s.actors k)) ((runners x).next j (s.actors j)) refl refl (c k) (c j)
    where
      d : (k == j) ≡ false
      d = differs k j (apart k j s) h

      by : (n m : Next Runner) → (runners x).next k (s.actors k) ≡ n → (runners x).next j (s.actors j) ≡ m → IsCalm n → IsCalm m
          → instruction (runners x) j (instruction (runners x) k s) ≡ instruction (runners x) k (instruction (runners x) j s)
      by (Quiet l) m e f g i = absurd g
      by Asks (Quiet l) e f g i = absurd i
      by Asks Asks e f g i =
          both_ask k j s d e f (next_ask (x.codes k) (s.actors k).at (s.actors k).stopped) (next_ask (x.codes j) (s.actors j).at (s.actors j).stopped) refl refl (and_both (not (k == j)) (apart k j s) h).1
      by Asks Rests e f g i = sym (rested (runners x) j k s (turned_about k j d) f)
      by Rests m e f g i = rested (runners x) k j s d e

  pub careful : AreCareful (runners x)
  careful = record {
    falls = falls x;
    rests = rests;
    differ = λ k j s h. differs k j (apart k j s) h;
    exchanged = exchanged;
  }
