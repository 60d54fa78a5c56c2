use Rattle.std.proofs.Common.{◌&&◌, ◌∙◌, ap, sym}
use Rattle.txs_audit.proofs.Parting.{found_both}
use Rattle.txs_audit.proofs.joining.both.Goals as goal

pub returns-then-first : goal.returns-then-first
returns-then-first c s t x y =
    let f = c.args.first in
    let g = c.args.second in
    found_both s t f g (record { finding = c.and_then.result; serial = g.serial }) x y c.and_then.ensures (ap (λ b. b && g.serial) (sym c.if-first.true))

pub returns-else-first : goal.returns-else-first
returns-else-first c s t x y =
    let f = c.args.first in
    let g = c.args.second in
    found_both s t f g (record { finding = c.and_then.result; serial = f.serial }) x y c.and_then.ensures (c.if-first.false ∙ ap (λ b. b && g.serial) (sym c.if-first.false))
