-- Where code leads, ask by ask.
use Rattle.std.specs.Prelude.{◌≡◌, ℕ, zero, suc, List, [], ◌∷◌, Some}
use Rattle.txs_world_protocol.specs.declared.ask.Ask.{Ask}
use Rattle.txs_code_meaning.specs.ActorState.{ActorState}
use Rattle.txs_code_meaning.specs.Machine.{ThreadCode, Configuration, Turned, Ended, Failed, Asking, Unfinished, Stuck, turn}
use Rattle.txs_code_meaning.specs.Opening.{given}
use Rattle.txs_theorem_runs.specs.Told.{Entry, exchange_of}

-- an instruction asks nothing
abbrev pub AsksNothing : Turned Configuration → Type 0
AsksNothing (Ended s) = Unit {0}
AsksNothing (Failed f s) = Unit {0}
AsksNothing (Asking s) = ⊥
AsksNothing (Unfinished c) = Unit {0}
AsksNothing Stuck = Unit {0}

-- so many instructions, each of which asks nothing, lead from one place to another
abbrev pub WalksTo : ThreadCode → ℕ → Turned Configuration → Turned Configuration → Type 0
WalksTo code zero at there = at ≡ there
WalksTo code (suc n) at there = (c : Configuration) × (at ≡ Unfinished c) × AsksNothing (turn code c) × WalksTo code n (turn code c) there

-- the instruction at a place asks this
abbrev pub AsksAt : ThreadCode → Configuration → Ask → Type 0
AsksAt code c q = (s : ActorState) × (turn code c ≡ Asking s) × (s.wants ≡ Some q)

-- From one place the code asks for these entries, one after another and each after some instructions that ask nothing, continues with the reply of each, and
-- comes to another place.
abbrev pub GoesTo : ThreadCode → Turned Configuration → List Entry → Turned Configuration → Type 0
GoesTo code at [] there = (n : ℕ) × WalksTo code n at there
GoesTo code at (e ∷ es) there = (n : ℕ) × (c : Configuration) × WalksTo code n at (Unfinished c) × AsksAt code c e.ask × GoesTo code (turn code (given (exchange_of e ∷ []) c)) es there
