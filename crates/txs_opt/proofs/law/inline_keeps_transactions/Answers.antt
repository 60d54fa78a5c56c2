use Rattle.std.proofs.Common.{length, refl}
use Rattle.txs_opt.proofs.InlinedMeanings.{tx_inlined}
use Rattle.txs_opt.proofs.ScopedOf.{number, sound_under, scoped_lower}
use Rattle.txs_opt.proofs.law.inline_keeps_transactions.Goals as goal

pub returns : goal.returns
returns c n budget left fs front sound within d e env R scoped = tx_inlined number 0 n fs budget (sound_under fs sound) d front within e env (length env) left R (scoped_lower fs d (length env) e scoped) refl
