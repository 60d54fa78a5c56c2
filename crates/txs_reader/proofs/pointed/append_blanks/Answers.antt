use Rattle.std.proofs.Common.{◌++◌, sym, ap, ◌∙◌, append-nil, arith}
use Rattle.std.proofs.lemmas.Bool.Decides.{nat_tests}
use Rattle.std.specs.List.{flat_map}
use Rattle.txs_reader.specs.Sign.{blank}
use Rattle.txs_reader.proofs.Signs.{signs-empty}
use Rattle.txs_reader.proofs.pointed.append_blanks.Goals as goal

pub returns-clause-ok : goal.returns-clause-ok
returns-clause-ok c =
    let out = c.loop-rest.out.items in
    let none = signs-empty c.loop-rest.rest.now (grind (arith, nat_tests)) in
    sym (append-nil out) ∙ ap (λ ss. out ++ flat_map blank ss) (sym none) ∙ c.loop-rest.invariant.rest
