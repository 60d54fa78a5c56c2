-- Where instructions may be, what functions are for, and what is wrong with an instruction where a path comes to it.
use Rattle.std.specs.Prelude.{◌≡◌, ◌↔◌, ℕ, suc, ◌-◌, ◌<◌, Bool, true, false, not, ◌&&◌, ◌||◌, nat_eq, if◌then◌else◌, is_some, List, [], ◌∷◌, Option, Some, None, Result, Ok, Err}
use Rattle.txs_value_cell.specs.Forms.{rule}
use Rattle.txs_value_data.specs.Places.{nth}
use Rattle.txs_value_cell.specs.declared.form.CellForm.TheVariants as form
use Rattle.txs_value_cell.specs.declared.form.Standing.{Standing}
use Rattle.txs_value_cell.specs.declared.form.Standing.TheVariants.{Anywhere, Inside, Outside}
use Rattle.txs_value_data.specs.declared.op.Callee.{Callee}
use Rattle.txs_value_data.specs.declared.op.Callee.TheVariants as callee
use Rattle.txs_code_meaning.specs.WellTyped.{FunctionKind, form_of}
use Rattle.txs_code_meaning.specs.declared.instr.Instr.{Instr}
use Rattle.txs_code_meaning.specs.declared.instr.Instr.TheVariants.{Call, Return, Print, Look, Put, TxBegin, Open, Send, Halt}
use Rattle.txs_code_meaning.specs.declared.instr.OpenForm.{OpenForm}
use Rattle.txs_verify.specs.declared.error.Refusal.{Refusal}
use Rattle.txs_verify.specs.declared.error.VerifyErrorKind.{VerifyErrorKind}
use Rattle.txs_verify.specs.declared.error.VerifyErrorKind.TheVariants.{JumpOut, StackLow, StackDiffers, LocalOut, ArityWrong, CallOrder, TxNesting, FallsOff, Memory}
use Rattle.txs_verify.specs.declared.standing.Kind.{Kind}
use Rattle.txs_verify.specs.declared.walk.Mark.{Mark}
use Rattle.txs_verify.specs.Marks.{Marks, mark_at}
use Rattle.txs_verify.specs.Paths.{opens, before}
use Rattle.txs_verify.specs.Refused.{IsMet}
use Rattle.txs_verify.specs.Walk.{refusal}

-- ---- what instructions and functions are for

-- a kind, as the definition of well-typed code has it
abbrev pub kind_from : Kind → FunctionKind
kind_from k = record { inside = k.inside; outside = k.outside; pure = not k.impure }

-- each of these
abbrev pub kinds_from : List Kind → List FunctionKind
kinds_from [] = []
kinds_from (k ∷ ks) = kind_from k ∷ kinds_from ks

-- what is pure may be anywhere
abbrev pub pure_kind : Kind
pure_kind = record { inside = false; outside = false; impure = false }

-- the kind of what has a form on cells, a print or a transaction, and may be so
abbrev pub impure_kind : Standing → Kind
impure_kind Anywhere = record { inside = false; outside = false; impure = true }
impure_kind Inside = record { inside = true; outside = false; impure = true }
impure_kind Outside = record { inside = false; outside = true; impure = true }

-- the kind of a function, if there is one
abbrev pub or_pure : Option Kind → Kind
or_pure None = pure_kind
or_pure (Some k) = k

-- the kind of an instruction: that of the function that it calls, and else by the table of forms
abbrev pub kind_of : List Kind → Instr → Kind
kind_of ks (Call f) = or_pure (nth ks f)
kind_of ks (Print n) = impure_kind Outside
kind_of ks (Look look) = impure_kind (rule (form.Look look)).stands
kind_of ks (Put put) = impure_kind (rule (form.Put put)).stands
kind_of ks TxBegin = impure_kind Anywhere
kind_of ks (Open by n) = impure_kind (rule (form.Update (form_of by))).stands
kind_of ks (Send callee n) = impure_kind (rule form.Send).stands
kind_of ks _ = pure_kind

-- of both together
abbrev pub joined : Kind → Kind → Kind
joined a b = record { inside = a.inside || b.inside; outside = a.outside || b.outside; impure = a.impure || b.impure }

-- what is in transactions of the body doesn't make the body one for inside or outside alone
abbrev pub seen_from : ℕ → Kind → Kind
seen_from t k = record { inside = nat_eq t 0 && k.inside; outside = nat_eq t 0 && k.outside; impure = k.impure }

-- what a function may be: for transactions alone, for outside alone, or impure
pub data Flag : Type 0 where
  for_inside : Flag
  for_outside : Flag
  not_pure : Flag

-- it is so
abbrev pub has : Flag → Kind → Bool
has for_inside k = k.inside
has for_outside k = k.outside
has not_pure k = k.impure

-- a path comes to what makes a body so
abbrev pub Meets : Flag → List Kind → List ℕ → List Instr → Type 0
Meets flag ks ps is = (p : ℕ) × (d : ℕ) × (t : ℕ) × (i : Instr) × IsMet ps is p d t i × (has flag (seen_from t (kind_of ks i)) ≡ true)

-- A body is for transactions alone, for outside alone, or impure, where a path comes to what makes it so, and not otherwise.
abbrev pub IsKindOf : List Kind → List ℕ → List Instr → Kind → Type 0
IsKindOf ks ps is kind = (flag : Flag) → (has flag kind ≡ true) ↔ Meets flag ks ps is

-- ---- what is wrong

-- a body ends here: a thread by a halt, a function by a return
abbrev pub IsEnd : Instr → Type 0
IsEnd Return = Unit {0}
IsEnd Halt = Unit {0}
IsEnd _ = ⊥

-- the end is one for such a body
abbrev pub EndsSo : Bool → Instr → Type 0
EndsSo thread Return = thread ≡ false
EndsSo thread Halt = thread ≡ true
EndsSo thread _ = Unit {0}

-- a function of this number is for transactions alone
abbrev pub IsInsideCallee : List Kind → Callee → Type 0
IsInsideCallee ks (callee.Core op) = ⊥
IsInsideCallee ks (callee.Function f) = (or_pure (nth ks f)).inside ≡ true

-- What is wrong with transactions at a place of a body that a path comes to.
pub data NestsWrongly (ks : List Kind) (thread : Bool) (ps : List ℕ) (is : List Instr) (p : ℕ) : Type 0 where
  -- the body ends in a transaction
  ends_within : (d t : ℕ) (i : Instr) → IsMet ps is p d t i → IsEnd i → (t ≡ 0 → ⊥) → NestsWrongly ks thread ps is p
  -- in a transaction stands what is for outside alone
  outside_within : (d t : ℕ) (i : Instr) → IsMet ps is p d t i → (t ≡ 0 → ⊥) → (kind_of ks i).outside ≡ true → NestsWrongly ks thread ps is p
  -- in a thread, outside transactions, stands what is for transactions alone
  inside_without : (d t : ℕ) (i : Instr) → IsMet ps is p d t i → t ≡ 0 → thread ≡ true → (kind_of ks i).inside ≡ true → NestsWrongly ks thread ps is p
  -- a callee that is for transactions alone is sent
  sends_inside : (d t : ℕ) (c : Callee) (n : ℕ) → IsMet ps is p d t (Send c n) → IsInsideCallee ks c → NestsWrongly ks thread ps is p
  -- behind an open, a function that isn't pure is called
  opens_impure : (x : OpenForm × ℕ) (d t f : ℕ) → opens (nth is p) ≡ Some x → IsMet ps is (suc p) d t (Call f) → (or_pure (nth ks f)).impure ≡ true → NestsWrongly ks thread ps is p

-- why a body is refused for what is at a place that a path comes to
abbrev pub StandsWrongly : List Kind → Bool → List ℕ → List Instr → VerifyErrorKind → ℕ → Type 0
StandsWrongly ks thread ps is JumpOut p = ⊥
StandsWrongly ks thread ps is StackLow p = ⊥
StandsWrongly ks thread ps is StackDiffers p = (d : ℕ) × (t : ℕ) × (i : Instr) × IsMet ps is p d t i × IsEnd i × (d ≡ 1 → ⊥)
StandsWrongly ks thread ps is LocalOut p = ⊥
StandsWrongly ks thread ps is ArityWrong p = ⊥
StandsWrongly ks thread ps is CallOrder p = ⊥
StandsWrongly ks thread ps is TxNesting p = NestsWrongly ks thread ps is p
StandsWrongly ks thread ps is FallsOff p = (d : ℕ) × (t : ℕ) × (i : Instr) × IsMet ps is p d t i × (EndsSo thread i → ⊥)
StandsWrongly ks thread ps is Memory p = ⊥

-- ---- the same, of a place with a mark

-- a refusal, unless this holds
abbrev pub unless : Bool → VerifyErrorKind → ℕ → Option Refusal
unless true kind p = None
unless false kind p = Some (refusal kind p)

-- the first refusal
abbrev pub first : Option Refusal → Option Refusal → Option Refusal
first None o = o
first (Some r) o = Some r

-- an end, which is such a body's or not
abbrev pub end_wrong : Bool → ℕ → Mark → Option Refusal
end_wrong so p m = first (unless so FallsOff p) (first (unless (nat_eq m.depth 1) StackDiffers p) (unless (nat_eq m.txs 0) TxNesting p))

-- what is wrong with a body's end
abbrev pub ends_wrong : Bool → ℕ → Mark → Instr → Option Refusal
ends_wrong thread p m Return = end_wrong (not thread) p m
ends_wrong thread p m Halt = end_wrong thread p m
ends_wrong thread p m _ = None

-- what is wrong with an instruction of this kind
abbrev pub kind_wrong : Bool → ℕ → Mark → Kind → Option Refusal
kind_wrong thread p m k = if nat_eq m.txs 0 then unless (not (thread && k.inside)) TxNesting p else unless (not k.outside) TxNesting p

-- a callee is pure
abbrev pub is_pure : List Kind → Callee → Bool
is_pure ks (callee.Core op) = true
is_pure ks (callee.Function f) = not (or_pure (nth ks f)).impure

-- whether a callee may be sent: it isn't for transactions alone
abbrev pub may_be_sent : List Kind → Callee → Bool
may_be_sent ks (callee.Core op) = true
may_be_sent ks (callee.Function f) = not (or_pure (nth ks f)).inside

-- what is wrong with a callee that is sent
abbrev pub send_wrong : List Kind → ℕ → Instr → Option Refusal
send_wrong ks p (Send c n) = unless (may_be_sent ks c) TxNesting p
send_wrong ks p _ = None

-- what is wrong with a call behind an open, told at the open
abbrev pub call_wrong : List Kind → Bool → ℕ → Instr → Option Refusal
call_wrong ks false p i = None
call_wrong ks true p (Call f) = unless (not (or_pure (nth ks f)).impure) TxNesting (p - 1)
call_wrong ks true p _ = None

-- what is wrong with an instruction at a place with a mark
abbrev pub wrong : List Kind → Bool → List Instr → ℕ → Mark → Instr → Option Refusal
wrong ks thread is p m i = first (ends_wrong thread p m i) (first (kind_wrong thread p m (kind_of ks i)) (first (send_wrong ks p i) (call_wrong ks (is_some (opens (before is p))) p i)))

-- the kind so far, or the refusal
abbrev pub unless_wrong : Option Refusal → Kind → Result Kind Refusal
unless_wrong None k = Ok k
unless_wrong (Some r) k = Err r

-- what the body is for as far as this place, where it has a mark
abbrev pub judged : List Kind → Bool → List Instr → ℕ → Option Mark → Instr → Kind → Result Kind Refusal
judged ks thread is p None i kind = Ok kind
judged ks thread is p (Some m) i kind = unless_wrong (wrong ks thread is p m i) (joined kind (seen_from m.txs (kind_of ks i)))

-- an instruction is at a place with a mark
pub record IsMarked (is : List Instr) (ms : Marks) (p : ℕ) (m : Mark) (i : Instr) : Type 0 where
  pub mark : mark_at ms p ≡ Some m
  pub stands : nth is p ≡ Some i

-- Nothing is wrong with the marked ones of the first n places, and the kind is what they make the body.
pub record IsSeen (ks : List Kind) (thread : Bool) (is : List Instr) (ms : Marks) (n : ℕ) (kind : Kind) : Type 0 where
  pub right : (p : ℕ) (m : Mark) (i : Instr) → p < n → IsMarked is ms p m i → wrong ks thread is p m i ≡ None
  pub from : (flag : Flag) → has flag kind ≡ true → (p : ℕ) × (m : Mark) × (i : Instr) × IsMarked is ms p m i × (has flag (seen_from m.txs (kind_of ks i)) ≡ true)
  pub all : (flag : Flag) (p : ℕ) (m : Mark) (i : Instr) → p < n → IsMarked is ms p m i → has flag (seen_from m.txs (kind_of ks i)) ≡ true → has flag kind ≡ true

-- this is wrong with a marked place
abbrev pub IsWrong : List Kind → Bool → List Instr → Marks → Refusal → Type 0
IsWrong ks thread is ms r = (p : ℕ) × (m : Mark) × (i : Instr) × IsMarked is ms p m i × (wrong ks thread is p m i ≡ Some r)
