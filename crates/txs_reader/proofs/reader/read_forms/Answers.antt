use Rattle.std.proofs.Common.{ℕ, ◌≡◌, List, length, subst, arith, drop}
use Rattle.std.proofs.lemmas.List.{drop_all}
use Rattle.txs_reader.specs.OpenForms.{opens, inner}
use Rattle.txs_reader.specs.Script.{Open, Holds}
use Rattle.txs_reader.specs.Tree.{trees}
use Rattle.txs_reader.proofs.Rows.{divided-fold, all_whole}
use Rattle.txs_reader.proofs.Steps.{stop_unclosed}
use Rattle.txs_reader.proofs.reader.read_forms.Goals as goal

pub returns-in-Some-clause-err : goal.returns-in-Some-clause-err
returns-in-Some-clause-err c =
    let bytes = c.args.script.now in
    let state = c.loop-at.state in
    let popped = divided-fold state.open.items c.pop.new.self.items c.in-Some.last (trees state.forms.items) c.in-Some.ensures.items in
    let ends : c.loop-at.at ≡ length bytes = omega arith in
    let Q : ℕ → Type 0 = λ n. Holds bytes (opens state) (inner state) (drop n bytes) in
    stop_unclosed bytes _ (inner state) _ (subst (λ (os : List Open). Holds bytes os (inner state) (drop (length bytes) bytes)) popped (subst Q ends c.loop-at.invariant.reached))

pub returns-clause-ok : goal.returns-clause-ok
returns-clause-ok c =
    let bytes = c.args.script.now in
    let state = c.loop-at.state in
    let none : length state.open.items ≡ 0 = omega (arith, c.in-None.ensures.cases.0, state.open.ok) in
    all_whole bytes (drop c.loop-at.at bytes) state.open.items (trees state.forms.items) state.start c.loop-at.invariant.reached none state.counted (drop_all c.loop-at.at bytes (omega arith))
