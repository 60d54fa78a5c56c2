-- What an audit is told of a run, and its answer, as its definition has them.
use Rattle.std.specs.Prelude.{◌^◌, ℕ, nat_lt, true, if◌then◌else◌}
use Rattle.txs_theorem_audit.specs.Audited as audited
use Rattle.txs_audit_book.specs.declared.verdict.Terms.{Terms}
use Rattle.txs_audit_book.specs.declared.verdict.Verdict.{Verdict}
use Rattle.txs_audit_book.specs.declared.verdict.Verdict.TheVariants as verdict

-- an answer as the definition of an audit has it
abbrev pub as_verdict : Verdict → audited.Verdict
as_verdict (verdict.Agrees serial) = audited.Agrees serial
as_verdict (verdict.Differs actor event) = audited.Differs actor event
as_verdict (verdict.Undecided actor event) = audited.Undecided actor event

-- what a run was to do, as the definition of an audit has it
abbrev pub terms_as : Terms → audited.PlainTerms
terms_as w = record { finishes = w.finishes; limit = w.steps }

-- what a run of the program is to do: to go on up to its end, with so many steps of each actor at most
abbrev pub finishing : ℕ → Terms
finishing steps = record { finishes = true; steps = steps }

-- how many turns an audit allows each loop: as many as an actor may make steps, but no more than a number of 32 bits says
abbrev pub audit_turns : ℕ → ℕ
audit_turns steps = if nat_lt steps (2 ^ 32) then steps else 4294967295
