use Rattle.txs_tree_meaning.proofs.Callable.{nth-length}
use Rattle.txs_opt.proofs.InlinedMeanings.{pure_inlined}
use Rattle.txs_opt.proofs.ScopedOf.{number, sound_under}
use Rattle.txs_opt.proofs.law.inline_keeps_pure.Goals as goal

pub returns : goal.returns
returns c n budget fs sound callee vs = pure_inlined number 0 n fs budget (sound_under fs sound) (λ f fun is. nth-length fs f fun is) callee vs
