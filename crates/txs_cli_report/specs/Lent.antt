-- What is lent to the program's parts, as plain data.
use Rattle.std.specs.Prelude.{ℕ, List, [], ◌++◌, Option, Some, None, Result, codes}
use Rattle.std.specs.Borrow.{Bor}
use Rattle.std.specs.declared.result.Result.TheVariants.{Ok, Err}
use Rattle.txs_cli_report.specs.Lines.{Script, agent_front, all_printed, thread_front}
use Rattle.txs_cli_report.specs.Told.{Told, behind_bytes}
use Rattle.txs_cli_report.specs.declared.explain.Script as lent
use Rattle.txs_cli_report.specs.declared.told.Front.{Front}
use Rattle.txs_cli_report.specs.declared.told.Front.TheVariants as lent_front
use Rattle.txs_cli_report.specs.declared.told.Told as owned

-- a text that is lent, if one is
abbrev pub text_in : Option (Bor (List ℕ)) → Option (List ℕ)
text_in None = None
text_in (Some text) = Some text.now

-- a script that is lent
abbrev pub script_of : lent.Script → Script
script_of s = record { text = s.text.now; file = text_in s.file }

-- what is told by lines, without what threads and agents printed
abbrev pub lines_of : owned.Told → Told
lines_of t = record { output = t.output.items; errors = t.errors.items; status = t.status }

-- what is told, as plain data: what the threads printed, behind that what the agents printed, and then the lines
abbrev pub told_of : owned.Told → Told
told_of t = behind_bytes (all_printed (t.threads.items ++ t.agents.items)) (lines_of t)

-- what is told of an answer, which may be that there was no memory for it
abbrev pub answer_of : {E : Type 0} → Result owned.Told E → Told
answer_of (Ok t) = told_of t
answer_of (Err e) = record { output = []; errors = codes "out of memory\n"; status = 4 }

-- how the line begins that tells of one
abbrev pub front_of : Front → List ℕ
front_of (lent_front.Thread k) = thread_front k
front_of (lent_front.Agent name) = agent_front name.now
