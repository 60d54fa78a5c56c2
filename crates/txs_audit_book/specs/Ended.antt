-- The end of a thread, where it is known whether it was stopped and printed a part.
use Rattle.std.specs.Prelude.{ℕ, Bool, ◌&&◌, ◌==◌, List, Option, if◌then◌else◌}
use Rattle.txs_world_protocol.specs.declared.event.Outcome.{Outcome}
use Rattle.txs_tree_eval.specs.declared.meaning.Needs.{Needs}
use Rattle.txs_tree_eval.specs.declared.meaning.Needs.TheVariants as needs
use Rattle.txs_theorem_audit.specs.Audited.{Finding, Fine, Off, Short, and_then, check}
use Rattle.txs_theorem_audit.specs.Verdict.{same_numbers}
use Rattle.txs_theorem_audit.specs.Evaluated.{same_end}

-- whether a thread ended so and printed all, or was stopped and printed a part
abbrev pub ended_with : Option Outcome → List ℕ → Bool → Option Outcome → List ℕ → Bool
ended_with o out part ends whole = if same_end ends o then same_numbers out whole else part

-- The end of a thread that lacks this, ends so, prints this, and eats so many of k events, where it is known whether it was stopped and
-- printed a part.
abbrev pub end_with : ℕ → ℕ → Option Outcome → List ℕ → Bool → Needs → Option Outcome → List ℕ → ℕ → Finding
end_with a k o out part needs.Nothing ends whole eaten = and_then (check (eaten == k) a eaten) (check (ended_with o out part ends whole) a k)
end_with a k o out part needs.Event ends whole eaten = and_then (check (eaten == k) a eaten) (check (ended_with o out part ends whole) a k)
end_with a k o out part needs.Turns ends whole eaten = if eaten == k && part then Fine else Short a eaten
end_with a k o out part needs.Wrong ends whole eaten = Off a eaten
