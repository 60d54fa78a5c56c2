-- What the words of a command line ask for.
use Rattle.std.specs.Prelude.{◌≡◌, true, false}
use Rattle.txs_cli_args.specs.declared.request.Input.{Input}
use Rattle.txs_cli_args.specs.declared.request.Request.{Request}
use Rattle.txs_cli_args.specs.declared.request.Request.TheVariants.{Check, List, Build, Run, Record, Schedule, Replay, Show, CheckJson, Explore, Shown, Faulty}

-- Lines are explained of a script alone: of code in its byte form there is no line to show.
abbrev pub OfScripts : Input → Type 0
OfScripts input = input.code ≡ true → input.explain ≡ false

-- so it is of what a request works on
abbrev pub ExplainsScripts : Request → Type 0
ExplainsScripts (Check input) = OfScripts input
ExplainsScripts (List input) = OfScripts input
ExplainsScripts (Build input out) = OfScripts input
ExplainsScripts (Run input workers options) = OfScripts input
ExplainsScripts (Record input workers options out) = OfScripts input
ExplainsScripts (Schedule input plays options) = OfScripts input
ExplainsScripts (Replay input from options) = OfScripts input
ExplainsScripts (Show input scheduling options showing) = OfScripts input
ExplainsScripts (CheckJson input) = OfScripts input
ExplainsScripts (Explore input exploring timeline) = OfScripts input
ExplainsScripts (Shown text) = Unit {0}
ExplainsScripts (Faulty text) = Unit {0}
