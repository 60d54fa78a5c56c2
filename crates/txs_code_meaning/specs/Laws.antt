-- What a turn takes of the exchanges that are to come.
use Rattle.std.specs.Prelude.{◌≡◌, ◌≤◌, List, ◌++◌, length, Option, Some}
use Rattle.txs_world_protocol.specs.Ask.{Exchange}
use Rattle.txs_code_meaning.specs.Machine.{PlainInstr, SendOf, ThreadCode, fetch, Activity, Outside, Restarting, Running, Applying, Swapping, Configuration, Turned, Ended, Failed, Asking, Unfinished, Stuck, turn}

-- of some exchanges the first one is taken at most, and these are left
abbrev pub TakesOne : List Exchange → List Exchange → Type 0
TakesOne before after = (first : List Exchange) × (length first ≤ 1) × (before ≡ first ++ after)

-- whatever a turn comes to, it takes the first of some exchanges at most; where it waits with an ask it takes none
abbrev pub TurnTakesOne : List Exchange → Turned Configuration → Type 0
TurnTakesOne before (Ended s) = TakesOne before s.todo
TurnTakesOne before (Failed f s) = TakesOne before s.todo
TurnTakesOne before (Asking s) = s.todo ≡ before
TurnTakesOne before (Unfinished c) = TakesOne before c.state.todo
TurnTakesOne before Stuck = Unit {0}

-- the callees of swaps send nothing, as they are pure; the sends of an action are held
abbrev pub MaySend : Activity → Type 0
MaySend Outside = Unit {0}
MaySend (Restarting left) = Unit {0}
MaySend (Running left inner from) = Unit {0}
MaySend (Applying left from work values) = Unit {0}
MaySend (Swapping swap from) = ⊥

-- a send is where it may
abbrev pub SendsLawfully : Option PlainInstr → Activity → Type 0
SendsLawfully (Some (SendOf callee args span)) doing = MaySend doing
SendsLawfully _ doing = Unit {0}

-- no turn asks twice: it takes one exchange at most, and none where it waits
abbrev pub AsksOnce : Type 0
AsksOnce = (code : ThreadCode) (c : Configuration) → SendsLawfully (fetch code c.body c.place) c.doing → TurnTakesOne c.state.todo (turn code c)
