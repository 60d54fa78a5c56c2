-- Room for the place of an event that an ask may add.
use Rattle.std.proofs.Common.{◌≡◌, ◌<◌, ℕ, Bool, true, false, nat_lt, List, length, Vec, Global, sym, subst, ◌∙◌, refl, arith, vec_capacity, vec_len}
use Rattle.std.proofs.lemmas.Bool.Decides.{nat_tests}
use Rattle.txs_world_protocol.specs.Ask.{may_add_event}
use Rattle.txs_world_protocol.specs.declared.ask.Ask.{Ask}
use Rattle.txs_world_protocol.specs.declared.ask.Ask.TheVariants as ask
use Rattle.txs_world_protocol.specs.declared.event.Event.{Event}
use Rattle.txs_world_protocol.specs.declared.event.Place.{Place}
use Rattle.txs_value_cell.specs.declared.cell.CellDefinition.{CellDefinition}
use Rattle.txs_history.specs.Asked.{History, shared_by}
use Rattle.txs_theorem_runs.specs.Shared.{serve_on}
use Rattle.txs_history.specs.Logged.{WasDone, WasServed, is_memory}
use Rattle.txs_history.specs.declared.serve.Served.{Served}
use Rattle.txs_history_run.specs.Actor.{HasRoom}
use Rattle.txs_history_run.specs.declared.step.Step.{Step}
use Rattle.txs_history_run.specs.declared.step.Step.TheVariants as step

-- nothing is longer than itself
not_longer : (n : ℕ) → nat_lt n n ≡ true → ⊥
not_longer n h = grind (arith, nat_tests, h)

-- what made a book longer is an ask that may add an event
longer_adds : (cells : List CellDefinition) (a : ℕ) (q : Ask) (book : List Event) → nat_lt (length book) (length (serve_on cells a q book).book) ≡ true → may_add_event q ≡ true
longer_adds cells a ask.Begin book h = absurd (not_longer (length book) h)
longer_adds cells a (ask.Look c p) book h = refl
longer_adds cells a (ask.View cs) book h = absurd (not_longer (length book) h)
longer_adds cells a (ask.Commit p ws rs q cs xs) book h = refl
longer_adds cells a (ask.Fail p q) book h = refl
longer_adds cells a (ask.Peek c) book h = refl
longer_adds cells a (ask.Send x) book h = refl
longer_adds cells a (ask.Take g) book h = absurd (not_longer (length book) h)
longer_adds cells a (ask.Finish g new xs) book h = refl
longer_adds cells a (ask.OpenAt c) book h = absurd (not_longer (length book) h)
longer_adds cells a (ask.CloseAt c p v) book h = refl
longer_adds cells a (ask.Broke c p) book h = refl

-- an answer with an event is that to an ask that may add one
pub served_adds : (cells : List CellDefinition) (threads k a : ℕ) (q : Ask) (old new : History) (v : Served) → WasServed cells threads k a q old new v → v.added ≡ true → may_add_event q ≡ true
served_adds cells threads k a q old new v s added = go (is_memory v.reply) s.done
  where
    go : (b : Bool) → WasDone b cells k a q old s.before new v → may_add_event q ≡ true
    go true d = absurd (cc (d.0, added))
    go false d = longer_adds cells a q ((shared_by cells s.before).books k) (sym d.0.added ∙ added)

-- an actor that asks has the room of its step
pub asked_room : (trace : Vec Place Global) (st : Step) (q : Ask) → st ≡ step.Asks q → HasRoom (vec_len trace) (vec_capacity trace) st → may_add_event q ≡ true → vec_len trace < vec_capacity trace
asked_room trace st q e h = subst (HasRoom (vec_len trace) (vec_capacity trace)) e h
