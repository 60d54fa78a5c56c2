-- Answers to an actor's asks, by how often they come.
use Rattle.txs_world_protocol.specs.declared.ask.Reply.{Reply}
use Rattle.txs_world_protocol.specs.declared.ask.Reply.TheVariants as reply

-- an answer that neither each transaction gets nor each swap: no read point, no value, not that an atom is open, and not that it is done
abbrev pub IsRareAnswer : Reply → Type 0
IsRareAnswer (reply.At p) = ⊥
IsRareAnswer (reply.Is v) = ⊥
IsRareAnswer (reply.Opened p v) = ⊥
IsRareAnswer reply.Done = ⊥
IsRareAnswer _ = Unit {0}
