use Rattle.txs_opt.proofs.InlinedMeanings.{thread_inlined}
use Rattle.txs_opt.proofs.Weights.{weight, pure_ones, weighs_under, main_below, validators_light}
use Rattle.txs_opt.proofs.law.inline_keeps_threads.Goals as goal

pub returns : goal.returns
returns c p sound budget left n es =
    let fs = p.functions in
    thread_inlined (weight fs) (pure_ones fs) p budget left n es (weighs_under fs sound.functions) (validators_light fs p.cells sound.cells) (main_below fs sound.functions p.main sound.main)
