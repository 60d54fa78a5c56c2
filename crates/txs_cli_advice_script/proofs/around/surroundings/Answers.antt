use Rattle.txs_reader.specs.Tree.{trees}
use Rattle.txs_cli_advice_script.proofs.Nearby.{Surrounds-first, Surrounds-next}
use Rattle.txs_cli_advice_script.proofs.around.surroundings.Goals as goal

pub loop-init : goal.loop-init
loop-init c = Surrounds-first c.args.forms.now c.args.at c.args.none c.within-here.result c.within-here.ensures.parts c.within-here.ensures.index c.within-here.ensures.near

pub loop-preserved : goal.loop-preserved
loop-preserved c =
    Surrounds-next (trees c.args.forms.now) c.args.at c.args.none c.loop.here c.within-here-in-Some.result c.in-Some.inner.now c.in-Some.bracket c.in-Some.span c.loop.invariant c.in-Some.ensures
    c.within-here-in-Some.ensures.parts c.within-here-in-Some.ensures.index c.within-here-in-Some.ensures.near
