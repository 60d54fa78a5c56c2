-- Why a body whose instructions are each lawful is refused: what a path of it comes to.
use Rattle.std.specs.Prelude.{◌≡◌, ◌⊎◌, ℕ, ◌<◌, List, [], Some, None}
use Rattle.txs_value_data.specs.Places.{nth}
use Rattle.txs_code_meaning.specs.declared.instr.Instr.{Instr}
use Rattle.txs_verify.specs.declared.error.VerifyErrorKind.{VerifyErrorKind}
use Rattle.txs_verify.specs.declared.error.VerifyErrorKind.TheVariants.{JumpOut, StackLow, StackDiffers, LocalOut, ArityWrong, CallOrder, TxNesting, FallsOff, Memory}
use Rattle.txs_verify.specs.Paths.{wants, MayEnd, Steps, ComesIn}

-- a path comes to a place with so many values and open transactions
abbrev pub Comes : List ℕ → List Instr → ℕ → ℕ → ℕ → Type 0
Comes ps is p d t = (n : ℕ) × ComesIn ps is n p d t

-- a path comes to an instruction
pub record IsMet (ps : List ℕ) (is : List Instr) (p d t : ℕ) (i : Instr) : Type 0 where
  pub comes : Comes ps is p d t
  pub stands : nth is p ≡ Some i

-- the stack is low: an instruction is met with fewer values than it takes
abbrev pub IsLow : List ℕ → List Instr → ℕ → Type 0
IsLow ps is p = (d : ℕ) × (t : ℕ) × (i : Instr) × IsMet ps is p d t i × (d < wants ps i)

-- two depths at one place
abbrev pub HasTwoDepths : List ℕ → List Instr → ℕ → Type 0
HasTwoDepths ps is p = (d : ℕ) × (t : ℕ) × (e : ℕ) × (u : ℕ) × Comes ps is p d t × Comes ps is p e u × (d ≡ e → ⊥)

-- two numbers of open transactions at one place
abbrev pub HasTwoNestings : List ℕ → List Instr → ℕ → Type 0
HasTwoNestings ps is p = (d : ℕ) × (t : ℕ) × (e : ℕ) × (u : ℕ) × Comes ps is p d t × Comes ps is p e u × (t ≡ u → ⊥)

-- an end outside every transaction of the body
abbrev pub EndsNothing : List ℕ → List Instr → ℕ → Type 0
EndsNothing ps is p = (d : ℕ) × (t : ℕ) × (i : Instr) × IsMet ps is p d t i × (MayEnd i t → ⊥)

-- A body continues past its end: a path comes to the instruction that leads there; a body without instructions does so at 0.
pub data GoesPast (ps : List ℕ) (is : List Instr) (p : ℕ) : Type 0 where
  of_none : (empty : is ≡ []) (first : p ≡ 0) → GoesPast ps is p
  behind : (d t q e u : ℕ) (comes : Comes ps is p d t) (leads : Steps ps is p d t q e u) (past : nth is q ≡ None) → GoesPast ps is p

-- why no path may go on as the paths of a body do
abbrev pub BreaksOff : List ℕ → List Instr → VerifyErrorKind → ℕ → Type 0
BreaksOff ps is JumpOut p = ⊥
BreaksOff ps is StackLow p = IsLow ps is p
BreaksOff ps is StackDiffers p = HasTwoDepths ps is p
BreaksOff ps is LocalOut p = ⊥
BreaksOff ps is ArityWrong p = ⊥
BreaksOff ps is CallOrder p = ⊥
BreaksOff ps is TxNesting p = HasTwoNestings ps is p ⊎ EndsNothing ps is p
BreaksOff ps is FallsOff p = GoesPast ps is p
BreaksOff ps is Memory p = ⊥
