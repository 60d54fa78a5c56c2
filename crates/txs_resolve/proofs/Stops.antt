-- What becomes of a stop that is handed on.
use Rattle.std.proofs.Common.{◌≡◌, Err}
use Rattle.txs_resolve_expand.specs.declared.error.ResolveError.{ResolveError}
use Rattle.txs_resolve_expand.specs.Expressions.{Answer}
use Rattle.txs_resolve.specs.declared.stop.Stop.{Stop}
use Rattle.txs_resolve.specs.declared.stop.Stop.TheVariants.{Refused, Memory}
use Rattle.txs_resolve.specs.BodyGiven.{Gives}

-- a stop that was handed on
pub failed : {A B C D : Type 0} (f : A → B) (g : C → D) (s : Stop) (a : Answer B) (b : Answer D) → Gives f (Err s) a → ((e : ResolveError) → a ≡ Err e → b ≡ Err e) → Gives g (Err s) b
failed f g (Refused e) a b h go = go e h
failed f g Memory a b h go = tt
