-- The code of a script has a byte form.
use Rattle.std.specs.Prelude.{ℕ, List}
use Rattle.txs_reader.specs.Script.{Reads}
use Rattle.txs_reader.specs.Tree.{PlainForm as Form}
use Rattle.txs_resolve.specs.Names.{Resolves}
use Rattle.txs_tree_meaning.specs.Sound.{Sound}
use Rattle.txs_tree_meaning.specs.Tree.{PlainProgram}
use Rattle.txs_code_meaning.specs.OwnCells.{NamesOwnCells}
use Rattle.txs_code_meaning.specs.PlainCode.{PlainCode}
use Rattle.txs_code_meaning.specs.WellTyped.{WellTyped}
use Rattle.txs_opt.specs.Optimised.{optimised}
use Rattle.txs_gen.specs.Generated.{IsCodeOf}
use Rattle.txs_code_decode.specs.CodeForm.{HasForm}

-- Code that is that of the sound program of a script's forms, optimised, that is well typed, and that names its own cells alone, has a
-- byte form.
abbrev pub ScriptsHaveForms : Type 0
ScriptsHaveForms =
    (bytes : List ℕ) (forms : List Form) (p : PlainProgram) (limit : ℕ) (code : PlainCode) (function_rooms thread_rooms : List ℕ)
    → Reads bytes forms → Resolves forms p → Sound p → IsCodeOf code (optimised limit p) → NamesOwnCells code → WellTyped code function_rooms thread_rooms → HasForm code
