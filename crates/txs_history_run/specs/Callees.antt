-- Which functions an action may call.
use Rattle.std.specs.Prelude.{◌≡◌, ◌⊎◌, ◌↔◌, ℕ, suc, ◌<◌, Bool, true, List, length, Option, Some, None}
use Rattle.txs_world_protocol.specs.declared.ask.Reply.{Reply}
use Rattle.txs_world_protocol.specs.declared.ask.Reply.TheVariants as reply
use Rattle.txs_value_apply.specs.Core.{takes}
use Rattle.txs_value_data.specs.Places.{nth}
use Rattle.txs_value_data.specs.declared.op.Callee.{Callee}
use Rattle.txs_value_data.specs.declared.op.Callee.TheVariants.{Core, Function}
use Rattle.txs_code_meaning.specs.PlainCode.{CodeBody, PlainCode, parameters_of}
use Rattle.txs_code_meaning.specs.declared.instr.Instr.{Instr}
use Rattle.txs_code_meaning.specs.declared.instr.Instr.TheVariants.{Send}
use Rattle.txs_verify.specs.Marks.{Marks, mark_at}
use Rattle.txs_verify.specs.Refused.{IsMet}
use Rattle.txs_verify.specs.declared.walk.Mark.{Mark}

-- ---- what code sends

-- the function that an instruction sends, if it sends one
abbrev pub sent_by : Instr → Option ℕ
sent_by (Send (Function f) n) = Some f
sent_by _ = None

-- A path of a body comes to a send of this function. The body has fewer than 4,294,967,295 instructions, as each of code that has a byte form.
pub record IsSentIn (code : PlainCode) (b : CodeBody) (f : ℕ) : Type 0 where
  pub few : length b.instrs < 4294967295
  pub place : ℕ
  pub depth : ℕ
  pub txs : ℕ
  pub instr : Instr
  pub met : IsMet (parameters_of code.functions) b.instrs place depth txs instr
  pub sends : sent_by instr ≡ Some f

-- so it is in one of the first so many of these bodies
pub record IsSentAmong (code : PlainCode) (bodies : List CodeBody) (n f : ℕ) : Type 0 where
  pub number : ℕ
  pub within : number < n
  pub body : CodeBody
  pub there : nth bodies number ≡ Some body
  pub sent : IsSentIn code body f

-- a body is a function's or a thread's
abbrev pub IsBodyOf : PlainCode → CodeBody → Type 0
IsBodyOf code b = ((f : ℕ) × (nth code.functions f ≡ Some b)) ⊎ ((k : ℕ) × (nth code.threads k ≡ Some b))

-- a function is the callee of a send to which a path of the code comes
abbrev pub IsCallee : PlainCode → ℕ → Type 0
IsCallee code f = (b : CodeBody) × IsBodyOf code b × IsSentIn code b f

-- just these are marked
abbrev pub AreCallees : PlainCode → List Bool → Type 0
AreCallees code marks = (f : ℕ) → (nth marks f ≡ Some true) ↔ IsCallee code f

-- ---- what an agent may be given to run

-- so many values can have been sent to a callee: an operation that takes them, or a function with so many parameters that the code sends
abbrev pub TakesSent : PlainCode → Callee → ℕ → Type 0
TakesSent code (Core op) n = takes op n ≡ true
TakesSent code (Function f) n = IsCallee code f × (nth (parameters_of code.functions) f ≡ Some n)

-- a reply hands out no action but one that the code can have sent: its callee takes the agent's state and the arguments
abbrev pub HandsOutSent : PlainCode → Reply → Type 0
HandsOutSent code (reply.Action n x v) = TakesSent code x.callee (suc (length x.args))
HandsOutSent code _ = Unit {0}

-- ---- how they are found

-- besides what was marked, just what is so is marked
pub record MarksMore (IsSo : ℕ → Type 0) (before later : List Bool) : Type 0 where
  pub many : length later ≡ length before
  pub marked : (f : ℕ) → (nth later f ≡ Some true) ↔ ((nth before f ≡ Some true) ⊎ IsSo f)

-- each function that one of these instructions sends is one of so many
abbrev pub SendWithin : ℕ → List Instr → Type 0
SendWithin n is = (p f : ℕ) (i : Instr) → nth is p ≡ Some i → sent_by i ≡ Some f → f < n

-- the instruction at a marked place sends this function
pub record IsSentAt (is : List Instr) (places : Marks) (at f : ℕ) : Type 0 where
  pub instr : Instr
  pub mark : Mark
  pub stands : nth is at ≡ Some instr
  pub marked : mark_at places at ≡ Some mark
  pub sends : sent_by instr ≡ Some f

-- so does one at the first so many places
pub record IsSentBefore (is : List Instr) (places : Marks) (n f : ℕ) : Type 0 where
  pub place : ℕ
  pub within : place < n
  pub sent : IsSentAt is places place f
