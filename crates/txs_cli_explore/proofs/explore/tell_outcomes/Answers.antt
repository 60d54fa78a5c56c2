use Rattle.std.proofs.Common.{◌++◌, ◌∙◌, ℕ, List, ap, length}
use Rattle.txs_cli_explore.specs.Explored.{last_line}
use Rattle.txs_cli_explore.proofs.explore.tell_outcomes.Goals as goal

pub returns : goal.returns
returns c =
    let h = c.in_ok-add_outcomes.ensures in
    let e = c.args.explored.now in
    record {
      text = h.0;
      written = h.1;
      output = c.answer-told.ensures.whole ∙ c.in_ok-add_last.ensures ∙ ap (λ (l : List ℕ). l ++ last_line e.whole e.within c.args.asks (length c.args.outcomes.now)) (h.2 ∙ ap (λ (l : List ℕ). l ++ h.0) c.new-output.ensures.items);
      errors = c.answer-told.ensures.errors;
      status = c.status_of.ensures;
    }
