-- What the forms and the core operations of the language are, by their tables.
use Rattle.std.specs.Prelude.{ℕ, List, [], map}
use Rattle.txs_cli_advice_script.specs.Rows.{said_in}
use Rattle.txs_cli_advice_script.specs.declared.shapes.TheConstants.{INSIDE, OPERATIONS}

-- what to write of a form below the top of a script
unfoldable pub form_shape : List ℕ → List ℕ
form_shape name = said_in (map (λ row. (row.0.now, row.1.now)) INSIDE) name []

-- how many arguments a core operation takes, as it is shown
unfoldable pub count_shown : List ℕ → List ℕ
count_shown name = said_in (map (λ row. (row.0.now, row.1.1.now)) OPERATIONS) name []
