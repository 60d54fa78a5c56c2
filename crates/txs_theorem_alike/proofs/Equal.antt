-- To be alike is an equivalence of states of runs.
use Rattle.std.proofs.Common.{refl, sym, ◌∙◌}
use Rattle.txs_theorem_alike.specs.Equal.{StatesItself, StatesBack, StatesOn}
use Rattle.txs_theorem_alike.specs.States.{holds}
use Rattle.txs_theorem_alike.proofs.Relating.{itself, alike_back, stage_back, alike_on, stage_on}
use Rattle.txs_theorem_alike.proofs.States.{stages_are_alike}
use Rattle.txs_theorem_alike.proofs.Within.{places_are_within}

pub states_itself : StatesItself
states_itself cells threads codes agent st h asks = stages_are_alike cells agent st st (record {
  first = λ b. (h.actors (agent b) b (asks b)).stage;
  second = λ b. (h.actors (agent b) b (asks b)).stage;
  all = itself cells st.shared (λ b. (h.actors (agent b) b (asks b)).stage) (λ b. places_are_within cells threads codes st h (agent b) b (asks b));
  actors = λ b. (refl, refl);
  in_first = λ b e. (h.actors (agent b) b (asks b)).staged;
  in_other = λ b e. (h.actors (agent b) b (asks b)).staged;
})

pub states_back : StatesBack
states_back cells agent st other h = record {
  shared = alike_back cells st.shared other.shared h.shared;
  actors = λ b. (sym (h.actors b).0, sym (h.actors b).1);
  places = λ b. stage_back cells st.shared other.shared (holds (agent b) (st.actors b)) (holds (agent b) (other.actors b)) (h.places b);
}

pub states_on : StatesOn
states_on cells agent st other third h g = record {
  shared = alike_on cells st.shared other.shared third.shared h.shared g.shared;
  actors = λ b. ((h.actors b).0 ∙ (g.actors b).0, (h.actors b).1 ∙ (g.actors b).1);
  places = λ b. stage_on cells st.shared other.shared third.shared (holds (agent b) (st.actors b)) (holds (agent b) (other.actors b)) (holds (agent b) (third.actors b)) (h.places b) (g.places b);
}
