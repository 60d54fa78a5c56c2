-- The verdict on code.
use Rattle.std.specs.Prelude.{◌≡◌, ◌⊎◌, ℕ, zero, suc, ◌<◌, ◌≤◌, Bool, true, false, List, [], ◌∷◌, length, Some}
use Rattle.txs_value_data.specs.Places.{nth}
use Rattle.txs_value_cell.specs.Cells.{Validators, validators_of}
use Rattle.txs_code_meaning.specs.PlainCode.{CodeBody, PlainCode, parameters_of}
use Rattle.txs_code_meaning.specs.WellTyped.{WellTyped}
use Rattle.txs_code_meaning.specs.declared.instr.Instr.{Instr}
use Rattle.txs_verify.specs.Alone.{HasConstant, IsRight, IsRightBody, IsWrongAlone}
use Rattle.txs_verify.specs.Going.{AreReached}
use Rattle.txs_verify.specs.Marks.{Marks, mark_at, IsClosed}
use Rattle.txs_verify.specs.Refused.{BreaksOff}
use Rattle.txs_verify.specs.Standing.{IsKindOf, IsSeen, StandsWrongly}
use Rattle.txs_verify.specs.Validators.{EachValidator, IsPure, IsRefusedValidator, TakesOne}
use Rattle.txs_verify.specs.declared.error.BodyName.{BodyName}
use Rattle.txs_verify.specs.declared.error.BodyName.TheVariants.{Function, Thread}
use Rattle.txs_verify.specs.declared.error.Stop.{Stop}
use Rattle.txs_verify.specs.declared.error.Stop.TheVariants as stop
use Rattle.txs_verify.specs.declared.error.VerifyError.{VerifyError}
use Rattle.txs_verify.specs.declared.error.VerifyErrorKind.{VerifyErrorKind}
use Rattle.txs_verify.specs.declared.error.VerifyErrorKind.TheVariants.{JumpOut, StackLow, StackDiffers, LocalOut, ArityWrong, CallOrder, TxNesting, FallsOff, Memory}
use Rattle.txs_verify.specs.declared.standing.Kind.{Kind}
use Rattle.txs_verify.specs.declared.walk.Mark.{Mark}

-- ---- what the form of code gives

-- a body has fewer than 2^32 - 1 instructions, each of which names one of so many constants
pub record BodyInForm (constants : ℕ) (b : CodeBody) : Type 0 where
  pub few : length b.instrs < 4294967295
  pub known : (at : ℕ) (i : Instr) → nth b.instrs at ≡ Some i → HasConstant constants i

-- So of all bodies; and threads have no parameters. All code that has a byte form is so.
pub record IsInForm (code : PlainCode) : Type 0 where
  pub functions : (n : ℕ) (b : CodeBody) → nth code.functions n ≡ Some b → BodyInForm (length code.constants) b
  pub threads : (n : ℕ) (b : CodeBody) → nth code.threads n ≡ Some b → BodyInForm (length code.constants) b
  pub parameters : (n : ℕ) (b : CodeBody) → nth code.threads n ≡ Some b → b.parameters ≡ 0

-- ---- bodies

-- the name of a body: a thread's, or a function's
abbrev pub name_of : Bool → ℕ → BodyName
name_of true n = Thread n
name_of false n = Function n

-- how many functions the n-th body may call, of so many: a thread all, a function those before it
abbrev pub callable : Bool → ℕ → ℕ → ℕ
callable true all n = all
callable false all n = n

-- each instruction of the first so many bodies is right alone
abbrev pub AreRightBodies : Bool → List CodeBody → List CodeBody → ℕ → Type 0
AreRightBodies thread fs bs k = (n : ℕ) (b : CodeBody) → n < k → nth bs n ≡ Some b → IsRightBody (callable thread (length fs) n) (parameters_of fs) b

-- ---- paths

-- the kinds of the first so many functions
abbrev pub kinds_before : ℕ → List Kind → List Kind
kinds_before zero ks = []
kinds_before (suc n) [] = []
kinds_before (suc n) (k ∷ ks) = k ∷ kinds_before n ks

-- there is room for what is on the stack at each marked place
abbrev pub IsRoomFor : Marks → ℕ → Type 0
IsRoomFor ms room = (p : ℕ) (m : Mark) → mark_at ms p ≡ Some m → m.depth ≤ room

-- no room for that is less
abbrev pub IsLeastRoom : Marks → ℕ → Type 0
IsLeastRoom ms room = (other : ℕ) → IsRoomFor ms other → room ≤ other

-- A body whose paths were looked at: its marks are closed, a path comes to each, nothing is wrong there, and there is room, as little as may be.
pub record IsWalked (ks : List Kind) (thread : Bool) (ps : List ℕ) (is : List Instr) (kind : Kind) (room : ℕ) : Type 0 where
  pub marks : Marks
  pub closed : IsClosed ps is marks
  pub reached : AreReached ps is marks
  pub seen : IsSeen ks thread is marks (length is) kind
  pub roomy : IsRoomFor marks room
  pub least : IsLeastRoom marks room

-- why a body is refused for what its paths come to, where functions before it are of these kinds
abbrev pub IsWrongOnPaths : List Kind → Bool → List ℕ → List Instr → VerifyErrorKind → ℕ → Type 0
IsWrongOnPaths ks thread ps is kind at = BreaksOff ps is kind at ⊎ StandsWrongly ks thread ps is kind at

-- functions whose paths were looked at, each with the kinds of those before it
pub record AreWalked (ps : List ℕ) (bs : List CodeBody) (ks : List Kind) (rooms : List ℕ) : Type 0 where
  pub many : length rooms ≡ length ks
  pub each : (n : ℕ) (b : CodeBody) (k : Kind) (room : ℕ) → nth bs n ≡ Some b → nth ks n ≡ Some k → nth rooms n ≡ Some room → IsWalked (kinds_before n ks) false ps b.instrs k room

-- threads whose paths were looked at
pub record AreWalkedThreads (ks : List Kind) (ps : List ℕ) (bs : List CodeBody) (rooms : List ℕ) : Type 0 where
  pub each : (n : ℕ) (b : CodeBody) (room : ℕ) → nth bs n ≡ Some b → nth rooms n ≡ Some room → (k : Kind) × IsWalked ks true ps b.instrs k room

-- each function's kind is that of its body, where those before it are of their kinds
abbrev pub AreKinds : List ℕ → List CodeBody → List Kind → Type 0
AreKinds ps bs ks = (n : ℕ) (b : CodeBody) (k : Kind) → nth bs n ≡ Some b → nth ks n ≡ Some k → IsKindOf (kinds_before n ks) ps b.instrs k

-- ---- refusals

-- this, unless it is running out of memory
abbrev pub OrMemory : VerifyErrorKind → Type 0 → Type 0
OrMemory JumpOut P = P
OrMemory StackLow P = P
OrMemory StackDiffers P = P
OrMemory LocalOut P = P
OrMemory ArityWrong P = P
OrMemory CallOrder P = P
OrMemory TxNesting P = P
OrMemory FallsOff P = P
OrMemory Memory P = Unit {0}

-- a body of these is refused for an instruction alone, and all before it are right, the body's own and those of the bodies before
pub record IsRefusedAlone (thread : Bool) (fs bs : List CodeBody) (e : VerifyError) : Type 0 where
  pub number : ℕ
  pub body : CodeBody
  pub name : e.body ≡ name_of thread number
  pub stands : nth bs number ≡ Some body
  pub wrong : IsWrongAlone (callable thread (length fs) number) (parameters_of fs) body e.kind e.at
  pub first : (at : ℕ) (i : Instr) → at < e.at → nth body.instrs at ≡ Some i → IsRight (callable thread (length fs) number) (parameters_of fs) body at i
  pub before : AreRightBodies thread fs bs number

-- a body of these is refused for what its paths come to
pub record IsRefusedOnPaths (ks : List Kind) (thread : Bool) (ps : List ℕ) (bs : List CodeBody) (e : VerifyError) : Type 0 where
  pub number : ℕ
  pub body : CodeBody
  pub name : e.body ≡ name_of thread number
  pub stands : nth bs number ≡ Some body
  pub wrong : IsWrongOnPaths ks thread ps body.instrs e.kind e.at

-- a function is refused for what its paths come to, where those before it are of their kinds
pub record IsRefusedFunction (fs : List CodeBody) (e : VerifyError) : Type 0 where
  pub kinds : List Kind
  pub are : AreKinds (parameters_of fs) fs kinds
  pub refused : IsRefusedOnPaths kinds false (parameters_of fs) fs e
  pub before : length kinds ≡ refused.number

-- a function is so refused, where these are the kinds of the functions before it
abbrev pub IsRefusedBehind : List CodeBody → List Kind → VerifyError → Type 0
IsRefusedBehind fs ks e = (r : IsRefusedFunction fs e) × (r.kinds ≡ ks)

-- what functions are for as far as it is known: all functions, or those before one that is refused for what its paths come to
pub data AreKnownKinds (fs : List CodeBody) (ks : List Kind) : Type 0 where
  of_all : AreKinds (parameters_of fs) fs ks → length ks ≡ length fs → AreKnownKinds fs ks
  up_to_a_refused : (e : VerifyError) (r : IsRefusedFunction fs e) → r.kinds ≡ ks → AreKnownKinds fs ks

-- A validator isn't pure by what functions are for as far as it is known; or a function is refused for what its paths come to, where no
-- validator is so refused.
pub data IsRefusedWalk (fs : List CodeBody) (vs : Validators) (e : VerifyError) : Type 0 where
  of_a_validator : (ks : List Kind) → AreKnownKinds fs ks → IsRefusedValidator (IsPure ks) TxNesting vs e → IsRefusedWalk fs vs e
  of_a_function : (r : IsRefusedFunction fs e) → EachValidator (IsPure r.kinds) vs → IsRefusedWalk fs vs e

-- each validator takes one value
abbrev pub ValidatorsTakeOne : PlainCode → Type 0
ValidatorsTakeOne code = EachValidator (TakesOne (parameters_of code.functions)) (validators_of code.cells)

-- Each validator takes one value, and all instructions of all bodies are right alone.
abbrev pub AllAreRight : PlainCode → Type 0
AllAreRight code = ValidatorsTakeOne code × AreRightBodies false code.functions code.functions (length code.functions) × AreRightBodies true code.functions code.threads (length code.threads)

-- Why code is refused. The first validator that doesn't take one value comes before all else. The first instruction that is wrong alone is
-- looked for in functions and then in threads. Where there is none, a validator isn't pure, or in a body something is wrong that a path comes
-- to, by what the functions before it are for.
pub data IsRefused (code : PlainCode) (e : VerifyError) : Type 0 where
  in_a_cell : IsRefusedValidator (TakesOne (parameters_of code.functions)) ArityWrong (validators_of code.cells) e → IsRefused code e
  in_a_function : ValidatorsTakeOne code → IsRefusedAlone false code.functions code.functions e → IsRefused code e
  in_a_thread : ValidatorsTakeOne code → AreRightBodies false code.functions code.functions (length code.functions) → IsRefusedAlone true code.functions code.threads e → IsRefused code e
  on_paths_of_functions : AllAreRight code → IsRefusedWalk code.functions (validators_of code.cells) e → IsRefused code e
  on_paths_of_a_thread : AllAreRight code → (ks : List Kind) → AreKinds (parameters_of code.functions) code.functions ks → length ks ≡ length code.functions → EachValidator (IsPure ks) (validators_of code.cells) → IsRefusedOnPaths ks true (parameters_of code.functions) code.threads e → IsRefused code e

-- With no rooms for stacks is the code well typed.
abbrev pub IsIllTyped : PlainCode → Type 0
IsIllTyped code = (function_rooms thread_rooms : List ℕ) → WellTyped code function_rooms thread_rooms → ⊥

-- none of these rooms is more than the other at its place
abbrev pub AreAtMost : List ℕ → List ℕ → Type 0
AreAtMost rooms others = (n a b : ℕ) → nth rooms n ≡ Some a → nth others n ≡ Some b → a ≤ b

-- With no less room for a stack is the code well typed.
abbrev pub AreLeastRooms : PlainCode → List ℕ → List ℕ → Type 0
AreLeastRooms code function_rooms thread_rooms = (others other_threads : List ℕ) → WellTyped code others other_threads → AreAtMost function_rooms others × AreAtMost thread_rooms other_threads

-- the error that a stop is, of a body
abbrev pub stopped : Bool → ℕ → Stop → VerifyError
stopped thread n (stop.Refused r) = record { kind = r.kind; body = name_of thread n; at = r.at }
stopped thread n stop.Memory = record { kind = Memory; body = name_of thread n; at = 0 }
