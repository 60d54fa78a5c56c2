-- What a refusal tells.
use Rattle.std.specs.Prelude.{◌≡◌, ◌<◌, ℕ, List, Err, length}
use Rattle.txs_value_data.specs.declared.fault.Span.{Span}
use Rattle.txs_reader.specs.declared.error.ReadErrorKind.{ReadErrorKind}
use Rattle.txs_reader.specs.declared.error.ReadErrorKind.TheVariants.{Memory, TooLarge}
use Rattle.txs_reader.specs.declared.error.ReadError.{ReadError}
use Rattle.txs_reader.specs.Bytes.{meaning}
use Rattle.txs_reader.specs.Script.{between, StopsWithin}

-- there was no memory; no byte of the script is at fault
abbrev pub out_of_memory : ReadError
out_of_memory = record { kind = Memory; at = between 0 0 }

-- why a word at this place is refused, unless memory ran out
abbrev pub RefusedAs : List ℕ → Span → ReadErrorKind → Span → Type 0
RefusedAs w span Memory at = at ≡ between 0 0
RefusedAs w span kind at = (meaning w ≡ Err kind) × (at ≡ span)

-- the error tells why this word is refused
abbrev pub IsWordRefusal : List ℕ → Span → ReadError → Type 0
IsWordRefusal w span e = RefusedAs w span e.kind e.at

-- why a name is refused, unless memory ran out
abbrev pub NameRefusedAs : List ℕ → Span → ReadErrorKind → Span → Type 0
NameRefusedAs name span Memory at = at ≡ between 0 0
NameRefusedAs name span kind at = (255 < length name) × (kind ≡ TooLarge) × (at ≡ span)

-- the error tells why this name is refused
abbrev pub IsNameRefusal : List ℕ → Span → ReadError → Type 0
IsNameRefusal name span e = NameRefusedAs name span e.kind e.at

-- why a text is refused, unless memory ran out
abbrev pub StopsAs : List ℕ → ReadErrorKind → Span → Type 0
StopsAs bytes Memory at = at ≡ between 0 0
StopsAs bytes kind at = StopsWithin bytes kind at

-- the error says where the reading of these bytes stops
abbrev pub IsRefusal : List ℕ → ReadError → Type 0
IsRefusal bytes e = StopsAs bytes e.kind e.at
