-- When the lines of the standard error are explained.
use Rattle.std.specs.Prelude.{Bool, true, false}
use Rattle.txs_cli_args.specs.declared.request.Explain.{Explain}
use Rattle.txs_cli_args.specs.declared.request.Explain.TheVariants.{Always, Never, Auto}

-- whether they are, where the standard error is a terminal or isn't
abbrev pub is_explained : Explain → Bool → Bool
is_explained Always is_terminal = true
is_explained Never is_terminal = false
is_explained Auto is_terminal = is_terminal
