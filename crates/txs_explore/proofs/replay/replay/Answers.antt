use Rattle.std.proofs.Common.{◌<◌, ◌≤◌, ◌++◌, ◌∷◌, ℕ, [], List, length, get_or, take, rules, sym, subst}
use Rattle.std.proofs.lemmas.List.{take_more, take_all}
use Rattle.txs_explore.specs.Runners.{many}
use Rattle.txs_explore.specs.Told.{explored}
use Rattle.txs_explore.specs.Looked.{IsStageAt}
use Rattle.txs_explore.proofs.Tests.{below_at}
use Rattle.txs_explore.proofs.replay.replay.Goals as goal

pub play_ask-requires-clause-one : goal.play_ask-requires-clause-one
play_ask-requires-clause-one c =
    let within : c.loop-k.k-index < length c.args.asks.now = search rules in
    let below = below_at (many (explored c.args.code.now c.args.max_steps)) c.args.asks.now c.loop-k.k-index c.requires.named within in
    search (rules, below)

pub play_ask-requires-clause-at : goal.play_ask-requires-clause-at
play_ask-requires-clause-at c = (take c.loop-k.k-index c.args.asks.now, c.loop-k.invariant)

pub loop-k-preserved : goal.loop-k-preserved
loop-k-preserved c =
    let within : c.loop-k.k-index < length c.args.asks.now = search rules in
    let k = get_or c.args.asks.now c.loop-k.k-index 0 in
    let played : (ks : List ℕ) → IsStageAt c.args.code.now c.args.max_steps ks c.loop-k.stage → IsStageAt c.args.code.now c.args.max_steps (ks ++ k ∷ []) c.play_ask.new.stage = search (rules, c.in_ok-play_ask.ensures) in
    subst (λ ks. IsStageAt c.args.code.now c.args.max_steps ks c.play_ask.new.stage) (sym (take_more c.args.asks.now c.loop-k.k-index 0 within)) (played (take c.loop-k.k-index c.args.asks.now) c.loop-k.invariant)

pub returns : goal.returns
returns c =
    let past : length c.args.asks.now ≤ c.loop-k.k-index = search rules in
    subst (λ ks. IsStageAt c.args.code.now c.args.max_steps ks c.loop-k.stage) (take_all c.loop-k.k-index c.args.asks.now past) c.loop-k.invariant
