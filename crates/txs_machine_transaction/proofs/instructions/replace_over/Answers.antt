use Rattle.std.proofs.Common.{◌≡◌, ◌+◌, ◌-◌, ◌++◌, ◌∷◌, [], ℕ, List, length, ap, ◌∙◌, arith, rules}
use Rattle.txs_machine_stack.specs.PlainFrame.{PlainStack}
use Rattle.txs_value_data.specs.declared.value.Value.{Value}
use Rattle.txs_machine_loop.specs.Values.{below, but_last}
use Rattle.txs_machine_loop.proofs.Lists.{length_below}
use Rattle.txs_machine_transaction.proofs.Keeping.{but_one_more}
use Rattle.txs_machine_transaction.proofs.instructions.replace_over.Goals as goal

pub take_last-requires : goal.take_last-requires
take_last-requires c =
    let vs = c.args.stack.now.values in
    let i = c.loop-taken.taken in
    let many : length c.loop-taken.stack.values ≡ length vs - i = ap (λ (s : PlainStack). length s.values) c.loop-taken.invariant ∙ length_below i vs in
    omega (arith, many, c.loop-taken-test.true, c.requires.0)

pub loop-taken-preserved : goal.loop-taken-preserved
loop-taken-preserved c =
    let s = c.args.stack.now in
    let vs = s.values in
    let i = c.loop-taken.taken in
    c.take_last.ensures.rest ∙ ap (λ (x : PlainStack). record x { values = but_last x.values }) c.loop-taken.invariant
    ∙ ap (λ (us : List Value). record s { values = us }) (but_one_more vs i (omega (arith, c.loop-taken-test.true, c.requires.0)))

pub replace_last-requires : goal.replace_last-requires
replace_last-requires c =
    let vs = c.args.stack.now.values in
    let i = c.loop-taken.taken in
    let ended : i ≡ c.args.n = search rules in
    let many : length c.loop-taken.stack.values ≡ length vs - i = ap (λ (s : PlainStack). length s.values) c.loop-taken.invariant ∙ length_below i vs in
    let room : c.loop-taken.stack.room ≡ c.args.stack.now.room = ap (λ (s : PlainStack). s.room) c.loop-taken.invariant in
    (omega (arith, many, ended, c.requires.0), omega (arith, many, room, c.requires.1))

pub returns : goal.returns
returns c =
    let s = c.args.stack.now in
    let vs = s.values in
    let i = c.loop-taken.taken in
    let ended : i ≡ c.args.n = search rules in
    let same : but_last (below i vs) ≡ below (c.args.n + 1) vs = ap (λ (k : ℕ). but_last (below k vs)) ended ∙ but_one_more vs c.args.n c.requires.0 in
    c.replace_last.ensures ∙ ap (λ (x : PlainStack). record x { values = but_last x.values ++ c.args.value ∷ [] }) c.loop-taken.invariant
    ∙ ap (λ (us : List Value). record s { values = us ++ c.args.value ∷ [] }) same
