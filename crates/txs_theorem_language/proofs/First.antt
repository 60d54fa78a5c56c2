-- The refusal of a script's program is the first in its text.
use Rattle.std.proofs.Common.{ℕ, ◌≤◌, List, length}
use Rattle.txs_reader.specs.Script.{Reads}
use Rattle.txs_reader.specs.Tree.{PlainForm as Form}
use Rattle.txs_tree_meaning.specs.Known.{known}
use Rattle.txs_tree_meaning.specs.Tree.{PlainProgram}
use Rattle.txs_check.specs.Faulty.{FaultIn, FaultOfValidator, IsBody}
use Rattle.txs_check.specs.Refused.{Body, CheckStops, in_order, validators_in}
use Rattle.txs_check.specs.declared.error.CheckError.{CheckError}
use Rattle.txs_resolve.specs.Names.{Resolves}
use Rattle.txs_theorem_language.proofs.Bodies.{each_lies}
use Rattle.txs_theorem_language.proofs.Earliest.{earliest, earliest_validator}

pub checks_first : (bytes : List ℕ) (forms : List Form) (p : PlainProgram) (e : CheckError) → Reads bytes forms → Resolves forms p → CheckStops p e
    → (b : Body) → IsBody b (in_order p.functions p.threads) → (d : CheckError) → FaultIn (known p.functions) b.zone b.target b.tree d → e.at.from ≤ d.at.from
checks_first bytes forms p e reads resolves stops b is d fault = earliest p (length bytes) (each_lies bytes forms p reads resolves) e stops d b is fault

pub validators_first : (bytes : List ℕ) (forms : List Form) (p : PlainProgram) (e : CheckError) → Reads bytes forms → Resolves forms p → CheckStops p e
    → (d : CheckError) → FaultOfValidator (known p.functions) (validators_in p.cells p.validator_spans) d → e.at.from ≤ d.at.from
validators_first bytes forms p e reads resolves stops d fault = earliest_validator p (length bytes) (each_lies bytes forms p reads resolves) e stops d fault
