-- What is consumed stays so: a turn leaves no exchange to come where there was none.
use Rattle.std.proofs.Common.{◌≡◌, List, [], ◌∷◌, sym, ◌∙◌, subst}
use Rattle.txs_world_protocol.specs.Ask.{Exchange}
use Rattle.txs_code_meaning.specs.ActorState.{ActorState}
use Rattle.txs_code_meaning.specs.Machine.{ThreadCode, Configuration, Turned, Ended, Failed, Asking, Unfinished, Stuck, turn}
use Rattle.txs_theorem_runs.proofs.Keeping.{IsKept, Any, Holds, turn_keeps}

-- wherever a turn came to, all replies are consumed
abbrev pub HasConsumed : Turned Configuration → Type 0
HasConsumed (Ended s) = s.todo ≡ []
HasConsumed (Failed f s) = s.todo ≡ []
HasConsumed (Asking s) = s.todo ≡ []
HasConsumed (Unfinished c) = c.state.todo ≡ []
HasConsumed Stuck = Unit {0}

abbrev Empty : ActorState → Type 0
Empty s = s.todo ≡ []

abbrev IsNone : List Exchange → Type 0
IsNone [] = Unit {0}
IsNone (x ∷ xs) = ⊥

empty_kept : IsKept Any Empty
empty_kept = record {
  on_reply = λ s x xs e h. absurd (subst IsNone (sym h ∙ e) tt);
  on_begin = λ s p h. h;
  on_work = λ s view w o e h. h;
  on_hold = λ s x such h. h;
  on_take = λ s g x h. h;
  on_rest = λ s h. h;
  on_fault = λ s x f e h. h;
  on_held = λ s x such h. h;
  on_land = λ s h. h;
  on_accepted = λ s o h. h;
  on_wait = λ s q own h. h;
}

consumed : (o : Turned Configuration) → Holds Empty Empty o → HasConsumed o
consumed (Ended s) h = h
consumed (Failed f s) h = h
consumed (Asking s) h = h
consumed (Unfinished c) h = h
consumed Stuck h = tt

pub turn_consumed : (code : ThreadCode) (c : Configuration) → c.state.todo ≡ [] → HasConsumed (turn code c)
turn_consumed code c h = consumed (turn code c) (turn_keeps Any Empty Empty empty_kept (λ s k. k) (λ s out k. k) code c h (λ f n span e g vs many. tt))
