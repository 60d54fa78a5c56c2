-- Code whose instructions have spans of a script.
use Rattle.std.specs.Prelude.{◌≤◌, List, [], ◌∷◌}
use Rattle.txs_value_data.specs.Limits.{most_script}
use Rattle.txs_value_data.specs.declared.fault.Span.{Span}
use Rattle.txs_code_meaning.specs.PlainCode.{CodeBody, PlainCode}

-- a span ends where it begins or behind that, and within the longest script
abbrev pub IsOrdered : Span → Type 0
IsOrdered span = (span.from ≤ span.to) × (span.to ≤ most_script)

-- each of these does
abbrev pub AreOrdered : List Span → Type 0
AreOrdered [] = Unit {0}
AreOrdered (span ∷ spans) = IsOrdered span × AreOrdered spans

-- so does each span in these bodies
abbrev pub BodiesAreOrdered : List CodeBody → Type 0
BodiesAreOrdered [] = Unit {0}
BodiesAreOrdered (b ∷ bs) = AreOrdered b.spans × BodiesAreOrdered bs

-- The span of each instruction ends where it begins or behind that, and within the longest script.
pub record HasOrderedSpans (code : PlainCode) : Type 0 where
  pub functions : BodiesAreOrdered code.functions
  pub threads : BodiesAreOrdered code.threads
