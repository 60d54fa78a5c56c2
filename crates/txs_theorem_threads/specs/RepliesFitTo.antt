-- Exchanges that fit events, with the phase that they end in, and one more exchange.
use Rattle.std.specs.Prelude.{◌≡◌, true, List, [], ◌∷◌, ◌++◌}
use Rattle.txs_world_protocol.specs.Ask.{Exchange}
use Rattle.txs_world_protocol.specs.SeenEvent.{SeenEvent}
use Rattle.txs_value_cell.specs.declared.cell.CellDefinition.{CellDefinition}
use Rattle.txs_theorem_threads.specs.RepliesFit.{Phase, belongs, PhaseFits, RepliesFit}

-- these exchanges are those of these events, each ask belongs to its phase, and the phase after them is the given one
abbrev pub RepliesFitTo : List CellDefinition → Phase → List Exchange → List SeenEvent → Phase → Type 0
RepliesFitTo cells ph [] es end = (es ≡ []) × (ph ≡ end)
RepliesFitTo cells ph (x ∷ xs) es end =
    (belongs ph x.ask ≡ true) × PhaseFits cells ph x.ask x.reply (λ ph1 es1. RepliesFitTo cells ph1 xs es1 end) es

-- one exchange is that of these events, its ask belongs to its phase, and the phase after it is the given one
abbrev pub ReplyFitsTo : List CellDefinition → Phase → Exchange → List SeenEvent → Phase → Type 0
ReplyFitsTo cells ph x es end = (belongs ph x.ask ≡ true) × PhaseFits cells ph x.ask x.reply (λ ph1 es1. (es1 ≡ []) × (ph1 ≡ end)) es

-- what fits up to a phase fits
abbrev pub FittingToFits : Type 0
FittingToFits = (cells : List CellDefinition) (ph : Phase) (xs : List Exchange) (es : List SeenEvent) (end : Phase) → RepliesFitTo cells ph xs es end → RepliesFit cells ph xs es

-- one more exchange with its events, behind those that fit
abbrev pub OneMoreFits : Type 0
OneMoreFits = (cells : List CellDefinition) (ph : Phase) (xs : List Exchange) (es : List SeenEvent) (mid : Phase) (x : Exchange) (fs : List SeenEvent) (end : Phase) → RepliesFitTo cells ph xs es mid → ReplyFitsTo cells mid x fs end → RepliesFitTo cells ph (xs ++ x ∷ []) (es ++ fs) end
