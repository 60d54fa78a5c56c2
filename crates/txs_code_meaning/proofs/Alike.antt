-- One turn, before two ways of going on that are alike.
use Rattle.txs_code_meaning.specs.Machine.{Configuration, Turned, Ended, Failed, Asking, Unfinished, Stuck, Outcome, and_then}

pub then_alike : (P : Outcome → Outcome → Type 0) → ((o : Outcome) → P o o) → (f g : Configuration → Outcome) → ((c : Configuration) → P (f c) (g c)) → (t : Turned Configuration) → P (and_then t f) (and_then t g)
then_alike P same f g h (Ended s) = same (Ended s)
then_alike P same f g h (Failed x s) = same (Failed x s)
then_alike P same f g h (Asking s) = same (Asking s)
then_alike P same f g h (Unfinished c) = h c
then_alike P same f g h Stuck = same Stuck
