use Rattle.std.proofs.Common.{sym, ap, ◌∙◌}
use Rattle.std.proofs.lemmas.Bool.{false≢true}
use Rattle.txs_explore.specs.declared.ending.Ending.{Ending}
use Rattle.txs_explore.proofs.Tests.{ending_same}
use Rattle.txs_explore.proofs.ending.same_ending.Goals as goal

pub returns-then-not-same_ends : goal.returns-then-not-same_ends
returns-then-not-same_ends c = (
  λ t. absurd (false≢true t),
  λ e. absurd (false≢true (sym c.if-not-same_ends.true ∙ c.same_ends.ensures.1 (c.as_slice.ensures ∙ ap (λ (z : Ending). z.actors) e ∙ sym c.as_slice-2.ensures))),
)

pub returns-then-not-same_values : goal.returns-then-not-same_values
returns-then-not-same_values c = (
  λ t. absurd (false≢true t),
  λ e. absurd (false≢true (sym c.if-not-same_values.true ∙ c.same_values.ensures.equal.1 (c.as_slice-3.ensures ∙ ap (λ (z : Ending). z.cells) e ∙ sym c.as_slice-4.ensures))),
)

pub returns : goal.returns
returns c =
    let actors = sym c.as_slice.ensures ∙ c.same_ends.ensures.0 c.if-not-same_ends.false ∙ c.as_slice-2.ensures in
    let cells = sym c.as_slice-3.ensures ∙ c.same_values.ensures.equal.0 c.if-not-same_values.false ∙ c.as_slice-4.ensures in (
      λ t. ending_same c.args.a.now c.args.b.now actors cells (sym c.as_slice-5.ensures ∙ c.same_failures.ensures.0 t ∙ c.as_slice-6.ensures),
      λ e. c.same_failures.ensures.1 (c.as_slice-5.ensures ∙ ap (λ (z : Ending). z.failed) e ∙ sym c.as_slice-6.ensures),
    )
