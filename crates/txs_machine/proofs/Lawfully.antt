-- Where code names its own cells alone, an actor asks nothing that it may not ask.
use Rattle.std.proofs.Common.{◌≡◌, ◌==◌, ◌<◌, ℕ, Bool, true, false, nat_lt, List, [], ◌∷◌, ◌++◌, map, Option, Some, None, refl, sym, ap, ◌∙◌, subst, if◌then◌else◌, arith}
use Rattle.std.proofs.lemmas.Bool.Decides.{nat_tests}
use Rattle.txs_world_protocol.specs.Ask.{Exchange}
use Rattle.txs_world_protocol.specs.declared.ask.Ask.{Ask}
use Rattle.txs_world_protocol.specs.declared.ask.Reply.{Reply}
use Rattle.txs_world_protocol.specs.declared.event.Event.{Event}
use Rattle.txs_world_protocol.specs.declared.event.Outcome.{Outcome}
use Rattle.txs_value_cell.specs.declared.cell.CellDefinition.{CellDefinition}
use Rattle.txs_code_meaning.specs.Machine.{ThreadCode, turn}
use Rattle.txs_code_meaning.specs.Opening.{given}
use Rattle.txs_machine_actor.specs.PlainActor.{PlainActor, MayAnswer, Stops, answered, configuration_of, state_of, standing}
use Rattle.txs_world_book.specs.Served.{Served}
use Rattle.txs_theorem_runs.specs.Lawful.{CodeIsKnown, OpeningIsKnown}
use Rattle.txs_theorem_runs.specs.Run.{exchange}
use Rattle.txs_theorem_runs.specs.Shared.{book_for, serve_on, may_ask}
use Rattle.txs_theorem_runs.specs.Stages.{Stage, AsksIn, stage_after}
use Rattle.txs_theorem_runs.specs.Standing.{StandingCode}
use Rattle.txs_theorem_runs.specs.Told.{Entry, exchange_of, IsExchanged, ToldBy}
use Rattle.txs_theorem_runs.proofs.Growing.{Grown}
use Rattle.txs_theorem_runs.proofs.Lawful.{todo_more}
use Rattle.txs_theorem_runs.proofs.Naming.{MayName, later, names_stay, names_same, names_after}
use Rattle.txs_theorem_runs.proofs.OneActor.{Asks, ask_is_lawful, answer_views, may_view_same, may_view_stays, served_known}
use Rattle.txs_theorem_runs.proofs.ServedKnown.{BookKnown, ServedKnown}
use Rattle.txs_theorem_runs.proofs.Values.{ReplyKnown, TodoKnown}
use Rattle.txs_machine.specs.Lawfully.{AskedFrom, HasStood, ToldLawfully}

-- ---- numbers of threads

pub is_below : (m n : ℕ) → m < n → nat_lt m n ≡ true
is_below m n h = grind (arith, nat_tests, h)

-- ---- what others add

-- what another actor adds to the books leaves what makes asks lawful, where all its values name defined cells alone
pub others_lawfully : (cells : List CellDefinition) (k j : ℕ) (books more : ℕ → List Event) (es : List Entry) (st : Stage) → (k ≡ j → ⊥) → Grown k books more → ((opened : OpeningIsKnown cells) (n : ℕ) → BookKnown cells opened (more n))
    → ToldLawfully cells j books es st → ToldLawfully cells j more es st
others_lawfully cells k j books more es st n g values h = record {
  replies = h.replies;
  values = values;
  places = names_stay cells k j books more n g st h.places;
}

-- and where the actor stood
pub others_stood : (cells : List CellDefinition) (code : ThreadCode) (k j : ℕ) (books more : ℕ → List Event) (xs : List Exchange) (a : PlainActor) (st : Stage) (o : Option Outcome) (q : Option Ask) → (k ≡ j → ⊥) → Grown k books more
    → HasStood cells code j books xs a st o q → HasStood cells code j more xs a st o q
others_stood cells code k j books more xs a st None None n g h = may_view_stays cells code k j books more (configuration_of a) n g h
others_stood cells code k j books more xs a st None (Some q) n g h = record {
  turns = h.turns;
  before = h.before;
  ran = h.ran;
  consumed = h.consumed;
  here = h.here;
  awaits = h.awaits;
  views = may_view_stays cells code k j books more h.before n g h.views;
}
others_stood cells code k j books more xs a st (Some o) q n g h = tt

-- ---- an actor's ask, and its answer

map_append : (xs : List Entry) (e : Entry) → map exchange_of (xs ++ e ∷ []) ≡ map exchange_of xs ++ exchange_of e ∷ []
map_append [] e = refl
map_append (x ∷ xs) e = ap (λ l. exchange_of x ∷ l) (map_append xs e)

module _ (cells : List CellDefinition) (threads : ℕ) (code : ThreadCode) (k : ℕ) (books : ℕ → List Event) (es : List Entry) (st : Stage) (a : PlainActor) (q : Ask) (opened : OpeningIsKnown cells) (known : CodeIsKnown cells code) (t : StandingCode code)
    (below : nat_lt k threads ≡ true) (told : ToldBy cells threads books false k es st) (asked : AskedFrom cells code k books (map exchange_of es) a st q) (law : ToldLawfully cells k books es st) where
  abbrev asks : Asks cells threads code books k es st q
  asks = record {
    turns = asked.turns;
    before = asked.before;
    waiting = record (state_of a) { wants = Some q };
    ran = asked.ran;
    consumed = asked.consumed;
    here = asked.here;
    asks = asked.awaits.asks;
    wants = refl;
    views = asked.views;
    told = told;
    replies = law.replies;
    places = law.places;
  }

  -- the ask of an actor is lawful
  pub ask_lawful : (taken : List Bool) → may_ask cells threads taken k q (books (book_for cells q)) ≡ true
  ask_lawful taken = ask_is_lawful cells threads opened code known t books k es st q below (law.values opened) asks taken

  abbrev w : Served
  w = serve_on cells k q (books (book_for cells q))

  module _ (more : ℕ → List Event) (r : Reply) (after : (i : ℕ) → more i ≡ later cells k books q w i) (answer : r ≡ w.reply) where
    served : (o : OpeningIsKnown cells) → ServedKnown cells o w
    served o = served_known cells threads o code known t books k es st q below (law.values o) asks

    -- all values of the books after the answer name defined cells alone
    values_after : (o : OpeningIsKnown cells) (i : ℕ) → BookKnown cells o (more i)
    values_after o i = subst (BookKnown cells o) (sym (after i)) (go (i == book_for cells q))
      where
        go : (b : Bool) → BookKnown cells o (if b then w.book else books i)
        go true = (served o).1
        go false = law.values o i

    -- what is served keeps what makes asks lawful
    pub heard_lawfully : (n : ℕ) → AsksIn false st q → ToldLawfully cells k more (es ++ record { ask = q; reply = r; at = n } ∷ []) (stage_after st q r)
    heard_lawfully n ok = record {
      replies =
          subst (TodoKnown cells) (sym (map_append es (record { ask = q; reply = r; at = n })))
          (todo_more cells threads opened code known (map exchange_of es) (record { ask = q; reply = r }) law.replies (subst (ReplyKnown cells) (sym answer) (served opened).0));
      values = values_after;
      places =
          subst (λ s. MayName cells more k (stage_after st q s)) (sym answer)
          (names_same cells k (later cells k books q w) more after (stage_after st q w.reply) (names_after cells k books false st q ok law.places));
    }

    -- an actor that goes on after the answer may view where it is
    stood_after : (xs : List Exchange) (b : PlainActor) (next : Stage) (o : Option Outcome) → IsExchanged w.reply → turn code (given (exchange q w.reply ∷ []) asked.before) ≡ standing o (configuration_of b) (state_of b) → HasStood cells code k more xs b next o None
    stood_after xs b next (Some o) ex e = tt
    stood_after xs b next None ex e =
        may_view_same cells code k (later cells k books q w) more (configuration_of b) after
        (answer_views cells threads opened code known t books k es st q below (law.values opened) asks (configuration_of b) ex e)

    pub heard_stood : (xs : List Exchange) (next : Stage) → MayAnswer q r → (Stops r → ⊥) → IsExchanged r → HasStood cells code k more xs (answered a r) next (answered a r).outcome None
    heard_stood xs next may on ex =
        stood_after xs (answered a r) next (answered a r).outcome (subst IsExchanged answer ex) (ap (λ s. turn code (given (exchange q s ∷ []) asked.before)) (sym answer) ∙ asked.awaits.leads r may on)
