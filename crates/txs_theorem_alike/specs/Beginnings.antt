-- Where a try begins, and that a try which has to run again is back there.
use Rattle.std.specs.Prelude.{◌≡◌, [], Option, Some, None}
use Rattle.txs_frame.specs.Frame.{empty_frame}
use Rattle.txs_value_data.specs.declared.fault.Span.{Span}
use Rattle.txs_code_meaning.specs.ActorState.{ActorState}
use Rattle.txs_code_meaning.specs.Machine.{ThreadCode, PlainInstr, TxBegin, TakeOf, fetch, Activity, Outside, Restarting, Running, Applying, Swapping, Configuration, back_to, Turned, Ended, Failed, Asking, Unfinished, Stuck, turn}
use Rattle.txs_theorem_alike.specs.Actors.{none}
use Rattle.txs_theorem_alike.specs.Renaming.{wants_with}

-- What counts of an actor's state where a transaction begins: what it has printed, the action in hand, and what it waits for, but for places. All else its begin puts anew, but for a validator's answer, which is none there.
abbrev pub at_start : ActorState → ActorState
at_start s = record { todo = []; printed = s.printed; at = 0; view = 0; done = empty_frame; commuting = None; acting = s.acting; accepted = None; wants = wants_with none s.wants }

-- the configuration with the try that is open not begun
abbrev pub undo_in : Activity → Configuration → Configuration
undo_in Outside c = record c { doing = Outside; state = at_start c.state }
undo_in (Restarting left) c = record c { doing = Outside; state = at_start c.state }
undo_in (Running left inner from) c = back_to from Outside (at_start c.state)
undo_in (Applying left from work values) c = back_to from Outside (at_start c.state)
undo_in (Swapping swap from) c = back_to from Outside (at_start c.state)

abbrev pub undo : Configuration → Configuration
undo c = undo_in c.doing c

-- a transaction is open, or begins anew
abbrev pub IsTrying : Activity → Type 0
IsTrying Outside = ⊥
IsTrying (Restarting left) = Unit {0}
IsTrying (Running left inner from) = Unit {0}
IsTrying (Applying left from work values) = Unit {0}
IsTrying (Swapping swap from) = ⊥

-- an instruction that isn't to take an action (no code of a transaction is)
abbrev pub IsNoTake : Option PlainInstr → Type 0
IsNoTake (Some (TakeOf g)) = ⊥
IsNoTake i = Unit {0}

-- a turn begins a transaction, or is one inside of it
abbrev pub IsOfTry : Option PlainInstr → Activity → Type 0
IsOfTry i Outside = (span : Span) × (i ≡ Some (TxBegin span))
IsOfTry i (Restarting left) = (span : Span) × (i ≡ Some (TxBegin span))
IsOfTry i (Running left inner from) = IsNoTake i
IsOfTry i (Applying left from work values) = IsNoTake i
IsOfTry i (Swapping swap from) = ⊥

-- what a turn came to, where it is still in a transaction or begins it anew, is with that transaction not begun this configuration
abbrev pub KeepsStart : Configuration → Turned Configuration → Type 0
KeepsStart start (Ended s) = Unit {0}
KeepsStart start (Failed f s) = Unit {0}
KeepsStart start (Asking s) = Unit {0}
KeepsStart start (Unfinished d) = IsTrying d.doing → undo d ≡ start
KeepsStart start Stuck = Unit {0}

-- A turn that begins a transaction, or is one of it, whatever it is answered, leaves its beginning as it was: also where it has to run again, from its view or from the beginning.
abbrev pub TurnKeepsStart : Type 0
TurnKeepsStart = (code : ThreadCode) (c : Configuration) → IsOfTry (fetch code c.body c.place) c.doing → KeepsStart (undo c) (turn code c)
