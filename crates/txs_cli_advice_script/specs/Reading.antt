-- What is said of scripts that aren't read.
use Rattle.std.specs.Prelude.{ℕ, Bool, true, false, not, ◌||◌, List}
use Rattle.txs_reader.specs.declared.error.ReadErrorKind.{ReadErrorKind}
use Rattle.txs_reader.specs.declared.error.ReadErrorKind.TheVariants.{NotUtf8, Unclosed, Unopened, BadToken, NumberTooLarge, BadEscape, TooDeep, TooLarge, LeftOut, Memory}
use Rattle.txs_cli_advice_script.specs.Language.{count_shown, form_shape}
use Rattle.txs_cli_advice_script.specs.Forms.{is_empty}

-- whether the script at the span says more than the kind of the refusal does
abbrev pub is_seen : ReadErrorKind → Bool
is_seen NotUtf8 = true
is_seen Unclosed = true
is_seen Unopened = true
is_seen BadToken = true
is_seen LeftOut = true
is_seen NumberTooLarge = false
is_seen BadEscape = false
is_seen TooDeep = false
is_seen TooLarge = false
is_seen Memory = false

-- whether a form or a core operation has the name
abbrev pub of_language : List ℕ → Bool
of_language name = not (is_empty (form_shape name)) || not (is_empty (count_shown name))
