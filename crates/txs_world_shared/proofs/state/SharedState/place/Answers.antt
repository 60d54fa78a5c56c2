use Rattle.std.proofs.Common.{◌<◌, ◌≤◌, sym, ◌∙◌, ap, subst}
use Rattle.std.specs.Prelude.{min}
use Rattle.std.proofs.lemmas.List.{get_or_default}
use Rattle.txs_world_protocol.specs.SeenEvent.{atoms_below}
use Rattle.txs_world_shared.proofs.Placing.{place_is, few_below}
use Rattle.txs_world_shared.specs.SharedState.{PlainShared}
use Rattle.txs_world_shared.proofs.state.SharedState.place.Goals as goal

pub index-requires : goal.index-requires
index-requires c =
    let x = c.self.inside in
    let least = c.min-number.ensures ∙ ap (λ n. min n c.len.result) c.from.ensures ∙ ap (min c.args.number) (c.len.ensures ∙ x.cells.ok.0) in
    subst (λ n. c.min-number.result < n) (sym x.places.ok.0) (place_is x.cells.items x.places.items c.args.number c.min-number.result c.self.invariant.places_are least).0

pub returns-clause-place : goal.returns-clause-place
returns-clause-place c =
    let x = c.self.inside in
    let i = c.min-number.result in
    let least = c.min-number.ensures ∙ ap (λ n. min n c.len.result) c.from.ensures ∙ ap (min c.args.number) (c.len.ensures ∙ x.cells.ok.0) in
    let p = place_is x.cells.items x.places.items c.args.number i c.self.invariant.places_are least in
    c.index.ensures ∙ get_or_default x.places.items i c.index.result.now 0 p.0 ∙ p.1 ∙ ap (λ (s : PlainShared). atoms_below s.cells c.args.number) c.self.view_is

pub returns-clause-few : goal.returns-clause-few
returns-clause-few c =
    let x = c.self.inside in
    let i = c.min-number.result in
    let least = c.min-number.ensures ∙ ap (λ n. min n c.len.result) c.from.ensures ∙ ap (min c.args.number) (c.len.ensures ∙ x.cells.ok.0) in
    let p = place_is x.cells.items x.places.items c.args.number i c.self.invariant.places_are least in
    subst (λ n. n ≤ c.args.number) (sym (c.index.ensures ∙ get_or_default x.places.items i c.index.result.now 0 p.0 ∙ p.1)) (few_below x.cells.items c.args.number)
