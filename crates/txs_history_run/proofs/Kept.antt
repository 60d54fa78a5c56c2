-- What an actor is to do next, by what is kept of it.
use Rattle.std.proofs.Common.{◌≡◌, ℕ, Bool, true, false, Option, None, Some, IfSome, refl, sym, ap, subst, ◌∙◌, vec_capacity, vec_len}
use Rattle.txs_world_protocol.specs.declared.ask.Ask.{Ask}
use Rattle.txs_machine_actor.specs.PlainActor.{PlainActor, unanswered}
use Rattle.txs_machine_actor.specs.declared.outcome.Turn.{Turn}
use Rattle.txs_machine_actor.specs.declared.outcome.Turn.TheVariants as turned
use Rattle.txs_code_meaning.specs.PlainCode.{PlainCode}
use Rattle.txs_history.specs.Asked.{History, asked_by}
use Rattle.txs_machine.specs.declared.player.Player.{Player}
use Rattle.txs_history_run.specs.Actor.{HasRoom, IsFollowing, IsInStep, IsLogged, IsReady, IsTaken, ask_or, asked_of, step_of}
use Rattle.txs_history_run.specs.declared.step.Step.{Step}
use Rattle.txs_history_run.specs.declared.step.Step.TheVariants as step

-- it runs, where its last turn says so, and it isn't broken
pub runs_so : (b : Bool) (t : Turn) → b ≡ false → t ≡ turned.Went → step_of b t ≡ step.Runs
runs_so b t e f = ap (λ c. step_of c t) e ∙ ap (step_of false) f

-- where its last turn came to an ask, that is what it is to do next: the ask wasn't taken
pub asks_so : (b : Bool) (t : Turn) (q : Ask) → IsTaken b t → t ≡ turned.Asks q → step_of b t ≡ step.Asks q
asks_so false t q k e = ap (step_of false) e
asks_so true t q k e = absurd (cc (k, e))

-- what waits with an ask came to it in its last turn
pub asked_so : (b : Bool) (t : Turn) (q : Ask) → step_of b t ≡ step.Asks q → t ≡ turned.Asks q
asked_so false turned.Went q e = absurd (cc e)
asked_so false (turned.Asks p) q e = ap turned.Asks (cc e)
asked_so false (turned.Ended o) q e = absurd (cc e)
asked_so true t q e = absurd (cc e)

-- where it isn't broken, it asks what its last turn came to
pub waits_so : (b : Bool) (t : Turn) (q : Ask) → b ≡ false → t ≡ turned.Asks q → step_of b t ≡ step.Asks q
waits_so b t q e f = ap (λ c. step_of c t) e ∙ ap (step_of false) f

-- where it isn't broken, nothing is to be known of the last turn
pub unbroken_taken : (b : Bool) (t : Turn) → b ≡ false → IsTaken b t
unbroken_taken b t e = subst (λ c. IsTaken c t) (sym e) tt

-- where the ask of the last turn was taken, nothing else is
pub went_taken : (b : Bool) (t : Turn) → t ≡ turned.Went → IsTaken b t
went_taken false t e = tt
went_taken true t e = e

-- what is kept is what holds of the step that it says
pub kept : (code : PlainCode) (limit : ℕ) (p : Player) (m : ℕ) (h : History) (was is : Step) → was ≡ is → p.actor.limit ≡ limit → IsInStep code p.actor p.trace.items m h is → HasRoom (vec_len p.trace) (vec_capacity p.trace) is
    → IsLogged code limit (record { player = p; asks = m; past = h; step = was })
kept code limit p m h was is e l s r = record {
  limit_is = l;
  in_step = subst (IsInStep code p.actor p.trace.items m h) (sym e) s;
  room = subst (HasRoom (vec_len p.trace) (vec_capacity p.trace)) (sym e) r;
}

-- an actor whose last turn came to an ask is ready to make it
pub ready_so : (code : PlainCode) (limit : ℕ) (p : Player) (m : ℕ) (h : History) (b : Bool) (t : Turn) → IsLogged code limit (record { player = p; asks = m; past = h; step = step_of b t }) → IsTaken b t → (q : Ask) → t ≡ turned.Asks q → IsReady code p q m h
ready_so code limit p m h b t l k q e = record {
  waiting = subst (IsInStep code p.actor p.trace.items m h) (asks_so b t q k e) l.in_step;
  room = subst (HasRoom (vec_len p.trace) (vec_capacity p.trace)) (asks_so b t q k e) l.room;
}

-- what is kept of an actor whose ask was taken: it follows the history, unless it is broken
pub kept_after : (code : PlainCode) (limit : ℕ) (p : Player) (m : ℕ) (h : History) (b : Bool) (t : Turn) → t ≡ turned.Went → p.actor.limit ≡ limit → (b ≡ false → IsFollowing code p.actor p.trace.items m h) → IsLogged code limit (record { player = p; asks = m; past = h; step = step_of b t })
kept_after code limit p m h false t e l f = kept code limit p m h (step_of false t) step.Runs (ap (step_of false) e) l (f refl) tt
kept_after code limit p m h true t e l f = kept code limit p m h (step_of true t) step.Broken refl l tt tt

-- what holds of each that is so holds of the one, if there is one
pub some_so : {A : Type 0} (o : Option A) (P Q : A → Type 0) → ((x : A) → P x → Q x) → IfSome o P → IfSome o Q
some_so None P Q f h = tt
some_so (Some x) P Q f h = f x h

-- an actor stands for the ask that it waits with
pub asked_was : (a : PlainActor) (q : Ask) (n : ℕ) → n ≡ a.number → unanswered a ≡ Some q → asked_of a ≡ asked_by n q
asked_was a q n same waits = ap (λ (o : Option Ask). asked_by a.number (ask_or o)) waits ∙ ap (λ (k : ℕ). asked_by k q) (sym same)

-- a turn comes to one ask
pub same_ask : (t : Turn) (p q : Ask) → t ≡ turned.Asks p → t ≡ turned.Asks q → p ≡ q
same_ask t p q e f = cc (e, f)
