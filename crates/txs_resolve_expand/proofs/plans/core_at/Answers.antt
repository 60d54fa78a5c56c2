use Rattle.std.proofs.Common.{◌≡◌, true, false, refl, sym, ap, ◌∙◌}
use Rattle.txs_value_data.specs.declared.fault.Span.{Span}
use Rattle.txs_reader.specs.Tree.{PlainForm as FormTree, place}
use Rattle.txs_resolve_expand.specs.declared.parts.Part.{Part}
use Rattle.txs_resolve_expand.specs.declared.parts.Part.TheVariants as part
use Rattle.txs_resolve_expand.specs.declared.shapes.Spot.{Spot}
use Rattle.txs_resolve_expand.specs.Expansions.{expand_once}
use Rattle.txs_resolve_expand.specs.Expressions.{core_of, spot_at}
use Rattle.txs_resolve_expand.specs.Parts.{own_spot, part_form}
use Rattle.txs_resolve_expand.proofs.plans.core_at.Goals as goal

-- what an expansion makes has one place
part_same : (at : Span) (p : Part) → part_form (place (part_form at p)) p ≡ part_form at p
part_same at (part.Written f) = refl
part_same at (part.List name fs) = refl
part_same at (part.Prefix fs) = refl
part_same at part.Nil = refl
part_same at (part.Hidden n) = refl
part_same at (part.Choice n false rest) = refl
part_same at (part.Choice n true rest) = refl

pub plan-requires-clause-fits : goal.plan-requires-clause-fits
plan-requires-clause-fits c = c.alone-part.ensures.fits c.args.scope.now c.requires

pub returns-clause-core : goal.returns-clause-core
returns-clause-core c =
    let here = c.args.spot in
    let scope = c.args.scope.now in
    let p = c.alone-part.result in
    let same = c.alone-part.ensures.form here.span in
    let own = own_spot here (part_form here.span c.args.part) in
    let is : spot_at here.room c.place_of.result here.wanted ≡ own = ap (λ (at : Span). spot_at here.room at here.wanted) (c.place_of.ensures ∙ ap place (sym same)) in
    c.in_ok-plan.ensures.core
    ∙ ap (λ (z : Spot). core_of scope z (expand_once (part_form z.span p))) is
    ∙ ap (λ (f : FormTree). core_of scope own (expand_once f)) (ap (λ (f : FormTree). part_form (place f) p) same ∙ part_same here.span p ∙ sym same)
