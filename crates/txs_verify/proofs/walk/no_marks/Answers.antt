use Rattle.std.proofs.Common.{rules, ◌∙◌, ◌++◌, ◌∷◌, [], ap, None}
use Rattle.txs_verify.proofs.Going.{no_more}
use Rattle.txs_verify.proofs.walk.no_marks.Goals as goal

pub loop-at-preserved : goal.loop-at-preserved
loop-at-preserved c =
    record {
      items = c.push_reserved.ensures.items ∙ ap (λ ms. ms ++ None ∷ []) c.loop-at.invariant.items ∙ no_more c.loop-at.at;
      long = search rules;
      room = search rules;
    }
