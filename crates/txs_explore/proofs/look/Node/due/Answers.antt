use Rattle.std.proofs.Common.{◌≡◌, ◌<◌, ℕ, Bool, get_or, length, rules, sym, ap, subst, ◌∙◌}
use Rattle.txs_explore.specs.Runners.{is_due, those}
use Rattle.txs_world_shared.specs.SharedState.{shared_of}
use Rattle.txs_explore.specs.Node.{asks_in}
use Rattle.txs_explore.proofs.Tests.{asks_read, those_next}
use Rattle.txs_explore.proofs.look.Node.due.Goals as goal

pub loop-k-preserved : goal.loop-k-preserved
loop-k-preserved c =
    let v = c.args.self.now in
    let k = c.loop-k.k in
    let l = c.index.result.now in
    let f : ℕ → Bool = λ i. is_due v.shared.cells v.shared.threads (shared_of v.shared) i (asks_in v.looks.items i) in
    let within : k < length v.looks.items = search rules in
    let read : l ≡ get_or v.looks.items k l = search rules in
    let wanted : c.is_due-wanted.result ≡ f k =
    c.is_due-wanted.ensures ∙ ap (is_due v.shared.cells v.shared.threads (shared_of v.shared) k) (sym (asks_read v.looks.items k l within read))
    in
    those_next f k c.loop-k.due.items c.push_if.new.list.items c.is_due-wanted.result wanted c.loop-k.invariant c.in_ok-push_if.ensures

pub returns : goal.returns
returns c =
    let v = c.args.self.now in
    let all : c.loop-k.k ≡ length v.looks.items = search rules in
    subst (λ n. c.loop-k.due.items ≡ those (λ i. is_due v.shared.cells v.shared.threads (shared_of v.shared) i (asks_in v.looks.items i)) 0 n) all c.loop-k.invariant
