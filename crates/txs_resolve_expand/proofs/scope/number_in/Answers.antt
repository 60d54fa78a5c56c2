use Rattle.std.proofs.Common.{◌≡◌, ◌<◌, ◌-◌, ◌+◌, bytes_eq, ℕ, List, [], length, Some, cond, map, take, reverse, get_or, sym, ap, ◌∙◌, arith}
use Rattle.std.specs.Borrow.{Bor}
use Rattle.txs_resolve_expand.specs.Scope.{number_in}
use Rattle.txs_resolve_expand.proofs.Scopes.{local_more}
use Rattle.txs_resolve_expand.proofs.scope.number_in.Goals as goal
use Rattle.txs_resolve_expand.proofs.scope.number_in.Goals.{After-eq}

-- the locals up to this one, by whether the name is its
local_here : (c : After-eq) → number_in c.args.name.now (reverse (map (λ n. n.now) c.args.names.now)) ≡ cond c.eq.result (Some (c.loop-i.i - 1)) (number_in c.args.name.now (reverse (take (c.loop-i.i - 1) (map (λ n. n.now) c.args.names.now))))
local_here c =
    let name = c.args.name.now in
    let xs = c.args.names.now in
    let j = c.loop-i.i - 1 in
    let step : c.loop-i.i ≡ j + 1 = omega arith in
    let lt : j < length xs = omega (arith, c.loop-i.invariant.within) in
    let rest = number_in name (reverse (take j (map (λ n. n.now) xs))) in
    let d : Bor (List ℕ) = record { ref_ptr = (0, 0); now = [] } in
    let same : bytes_eq name (get_or xs j d).now ≡ c.eq.result =
    ap (λ l. bytes_eq l (get_or xs j d).now) (sym c.as_bytes.ensures.value) ∙ sym c.eq.ensures in
    c.loop-i.invariant.same
    ∙ ap (λ k. number_in name (reverse (take k (map (λ n. n.now) xs)))) step
    ∙ local_more (λ n. n.now) name xs j d lt
    ∙ ap (λ b. cond b (Some j) rest) same

pub returns-then-eq-clause-number : goal.returns-then-eq-clause-number
returns-then-eq-clause-number c =
    let d = (goal.at.returns-then-eq-clause-number c).After-eq in
    let rest = number_in c.args.name.now (reverse (take (c.loop-i.i - 1) (map (λ n. n.now) c.args.names.now))) in
    sym (local_here d ∙ ap (λ b. cond b (Some (c.loop-i.i - 1)) rest) c.if-eq.true)

pub loop-i-preserved : goal.loop-i-preserved
loop-i-preserved c =
    let d = (goal.at.loop-i-preserved c).After-eq in
    let rest = number_in c.args.name.now (reverse (take (c.loop-i.i - 1) (map (λ n. n.now) c.args.names.now))) in
    record {
      within = omega (arith, c.loop-i.invariant.within);
      same = local_here d ∙ ap (λ b. cond b (Some (c.loop-i.i - 1)) rest) c.if-eq.false;
    }
