use Rattle.txs_compile.proofs.Agents.{agents_before, sent_after}
use Rattle.txs_compile.proofs.optimised_code.optimised_code_follows_agents.Goals as goal

pub returns : goal.returns
returns c code limit p sound same b = c.sound_follows_agents.ensures code p.cells p.functions sound.functions sound.cells same (λ g a is fits. agents_before code limit p g a (b g a is (sent_after limit p sound a fits)))
