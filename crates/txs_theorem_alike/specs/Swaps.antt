-- Where a swap begins, and that a swap which has to be made again is back there.
use Rattle.std.specs.Prelude.{◌≡◌, [], ◌∷◌, Option, Some, None}
use Rattle.txs_world_protocol.specs.declared.ask.Ask.{Ask}
use Rattle.txs_world_protocol.specs.declared.ask.Reply.TheVariants as reply
use Rattle.txs_value_cell.specs.declared.form.UpdateForm.TheVariants as update
use Rattle.txs_value_data.specs.declared.fault.Span.{Span}
use Rattle.txs_value_data.specs.declared.value.CellId.{CellId}
use Rattle.txs_code_meaning.specs.declared.instr.OpenForm.TheVariants as open_form
use Rattle.txs_code_meaning.specs.ActorState.{ActorState}
use Rattle.txs_code_meaning.specs.Machine.{ThreadCode, PlainInstr, Push, Load, Store, Pop, Jump, JumpFalse, CoreOf, CallOf, Return, MakeVector, OpenOf, CloseOf, fetch, Activity, Outside, Restarting, Running, Applying, Swapping, Configuration, back_to, Turned, Ended, Failed, Asking, Unfinished, Stuck, turn}
use Rattle.txs_code_meaning.specs.Opening.{given}
use Rattle.txs_theorem_runs.specs.Run.{exchange}

-- what counts of an actor's state outside of swaps: all but a reply that is to come and a validator's answer
abbrev pub still : ActorState → ActorState
still s = record s { todo = []; accepted = None }

-- the configuration with the swap that is open not begun
abbrev pub unswap_in : Activity → Configuration → Configuration
unswap_in Outside c = record c { state = still c.state }
unswap_in (Restarting left) c = record c { state = still c.state }
unswap_in (Running left inner from) c = record c { state = still c.state }
unswap_in (Applying left from work values) c = record c { state = still c.state }
unswap_in (Swapping swap from) c = back_to from Outside (still c.state)

abbrev pub unswap : Configuration → Configuration
unswap c = unswap_in c.doing c

-- a swap is open
abbrev pub IsSwapping : Activity → Type 0
IsSwapping Outside = ⊥
IsSwapping (Restarting left) = ⊥
IsSwapping (Running left inner from) = ⊥
IsSwapping (Applying left from work values) = ⊥
IsSwapping (Swapping swap from) = Unit {0}

-- an instruction opens a swap
abbrev pub OpensSwap : Option PlainInstr → Type 0
OpensSwap (Some (OpenOf (open_form.Swap callee) args span)) = Unit {0}
OpensSwap _ = ⊥

-- an instruction is one of a pure function, or closes a swap
abbrev pub IsPure : Option PlainInstr → Type 0
IsPure (Some (Push v)) = Unit {0}
IsPure (Some (Load i)) = Unit {0}
IsPure (Some (Store i)) = Unit {0}
IsPure (Some Pop) = Unit {0}
IsPure (Some (Jump to)) = Unit {0}
IsPure (Some (JumpFalse to)) = Unit {0}
IsPure (Some (CoreOf op args span)) = Unit {0}
IsPure (Some (CallOf f args)) = Unit {0}
IsPure (Some Return) = Unit {0}
IsPure (Some (MakeVector items span)) = Unit {0}
IsPure (Some (CloseOf update.Swap span)) = Unit {0}
IsPure _ = ⊥

-- a turn opens a swap, or is one inside of it
abbrev pub IsOfSwap : Option PlainInstr → Activity → Type 0
IsOfSwap i Outside = OpensSwap i
IsOfSwap i (Restarting left) = ⊥
IsOfSwap i (Running left inner from) = ⊥
IsOfSwap i (Applying left from work values) = ⊥
IsOfSwap i (Swapping swap from) = IsPure i

-- what a turn came to, where a swap is open, is with that swap not begun this configuration
abbrev pub KeepsOpen : Configuration → Turned Configuration → Type 0
KeepsOpen start (Ended s) = Unit {0}
KeepsOpen start (Failed f s) = Unit {0}
KeepsOpen start (Asking s) = Unit {0}
KeepsOpen start (Unfinished d) = IsSwapping d.doing → unswap d ≡ start
KeepsOpen start Stuck = Unit {0}

-- a turn that opens a swap, or is one of it, leaves where the swap was opened as it was
abbrev pub SwapKeepsOpen : Type 0
SwapKeepsOpen = (code : ThreadCode) (c : Configuration) → IsOfSwap (fetch code c.body c.place) c.doing → KeepsOpen (unswap c) (turn code c)

-- what a turn came to, if it goes on, is with the swap not begun this configuration
abbrev pub IsBack : Configuration → Turned Configuration → Type 0
IsBack start (Ended s) = Unit {0}
IsBack start (Failed f s) = Unit {0}
IsBack start (Asking s) = Unit {0}
IsBack start (Unfinished d) = unswap d ≡ start
IsBack start Stuck = Unit {0}

-- a swap whose close is answered that the atom has changed is back where it was opened
abbrev pub ChangedIsBack : Type 0
ChangedIsBack = (code : ThreadCode) (c : Configuration) (span : Span) (q : Ask) (e : CellId)
    → IsSwapping c.doing → fetch code c.body c.place ≡ Some (CloseOf update.Swap span) → c.state.todo ≡ [] → IsBack (unswap c) (turn code (given (exchange q (reply.Changed e) ∷ []) c))
