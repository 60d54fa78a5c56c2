use Rattle.std.proofs.Common.{sym, ap, ◌∙◌}
use Rattle.std.specs.Option.{option_map}
use Rattle.txs_reader.specs.Tree.{trees}
use Rattle.txs_cli_advice_script.proofs.Nearby.{Inside-first, Inside-items_in, NearestInside-of}
use Rattle.txs_cli_advice_script.proofs.around.nearest_in.Goals as goal

pub returns-in-Some : goal.returns-in-Some
returns-in-Some c =
    NearestInside-of (trees c.args.parts.now) (trees c.in-Some.items.now) c.args.best c.nearest_bound.result
    (Inside-items_in (trees c.args.parts.now) 1 (trees c.in-Some.items.now) (sym c.items_at.ensures ∙ ap (option_map (λ items. trees items.now)) c.in-Some.is))
    c.nearest_bound.ensures

pub returns-in-Some-first_vector : goal.returns-in-Some-first_vector
returns-in-Some-first_vector c =
    let items = c.in-Some-first_vector.items in
    NearestInside-of (trees c.args.parts.now) (trees items.now) c.args.best c.nearest_of.result
    (Inside-first (trees c.args.parts.now) (trees items.now) (sym c.first_vector.ensures ∙ ap (option_map (λ l. trees l.now)) c.in-Some-first_vector.is))
    c.nearest_of.ensures
