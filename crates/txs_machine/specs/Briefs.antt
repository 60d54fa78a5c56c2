-- What a transaction asks before its end, in few words.
use Rattle.txs_world_protocol.specs.declared.ask.Ask.{Ask}
use Rattle.txs_world_protocol.specs.declared.ask.Ask.TheVariants as ask
use Rattle.txs_machine.specs.declared.run.Brief.{Brief}
use Rattle.txs_machine.specs.declared.run.Brief.TheVariants as brief

-- the ask that these words mean
abbrev pub ask_of : Brief → Ask
ask_of brief.Begin = ask.Begin
ask_of (brief.Look c at) = ask.Look c at
