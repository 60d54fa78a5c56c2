-- Of which kind an ask is.
use Rattle.txs_world_protocol.specs.declared.ask.Ask.{Ask}
use Rattle.txs_world_protocol.specs.declared.ask.Ask.TheVariants as ask
use Rattle.txs_gate.specs.declared.gate.AskKind.{AskKind}
use Rattle.txs_gate.specs.declared.gate.AskKind.TheVariants as kind

-- each ask has the kind of its name
abbrev pub kind_of : Ask → AskKind
kind_of ask.Begin = kind.Begin
kind_of (ask.Look c at) = kind.Look
kind_of (ask.View cs) = kind.View
kind_of (ask.Commit at sets ensured view commuted sends) = kind.Commit
kind_of (ask.Fail at view) = kind.Fail
kind_of (ask.Peek c) = kind.Peek
kind_of (ask.Send x) = kind.Send
kind_of (ask.Take g) = kind.Take
kind_of (ask.Finish g new sends) = kind.Finish
kind_of (ask.OpenAt c) = kind.OpenAt
kind_of (ask.CloseAt c at new) = kind.CloseAt
kind_of (ask.Broke c at) = kind.Broke
