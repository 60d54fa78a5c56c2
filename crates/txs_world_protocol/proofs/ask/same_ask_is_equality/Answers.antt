use Rattle.txs_world_protocol.proofs.AskLemmas.{same_ask-sound, same_ask-itself}
use Rattle.txs_world_protocol.proofs.ask.same_ask_is_equality.Goals as goal

pub returns : goal.returns
returns c = λ a b. (same_ask-sound a b, λ e. rw e (same_ask-itself b))
