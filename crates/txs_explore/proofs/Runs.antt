-- What searches say of all runs: the laws, of the actors of a script.
use Rattle.std.proofs.Common.{◌≡◌, ◌<◌, ◌+◌, ℕ, [], map, None, sym, ap, subst, ◌∙◌}
use Rattle.txs_theorem_runs.specs.Run.{State, actor_of}
use Rattle.txs_explore.specs.System.{turns}
use Rattle.txs_explore.specs.Search.{Way, search, Tells, IsWay}
use Rattle.txs_explore.specs.Actors.{All, calm}
use Rattle.txs_explore.specs.Runners.{Explored, runners, asking, seen, played, told_of}
use Rattle.txs_explore.specs.SearchLaws.{RunsAreFound, IsRunBy, WaysAreRuns, FewAreFound, FewAreRuns, RunsComeByAsks, AsksAreAlike, SearchesAgree}
use Rattle.txs_explore.proofs.Agreeing.{same_search, same_search_few}
use Rattle.txs_explore.proofs.Asking.{careful}
use Rattle.txs_explore.proofs.Calming.{come}
use Rattle.txs_explore.proofs.Careful.{asks_are_alike as careful_are_alike}
use Rattle.txs_explore.proofs.FewSwitches.{few_complete, few_sound}
use Rattle.txs_explore.proofs.Playing.{turns_are_plays}
use Rattle.txs_explore.proofs.Running.{falls, plays_are_instructions}
use Rattle.txs_explore.proofs.Searching.{complete}
use Rattle.txs_explore.proofs.Sound.{sound}

pub asks_are_alike : AsksAreAlike
asks_are_alike x = careful_are_alike (runners x) (careful x)

pub searches_agree : SearchesAgree
searches_agree x st end e = (
  (λ n asleep. same_search (asking x) (λ s t. calm (runners x) s ≡ calm (runners x) t) (asks_are_alike x) n asleep (seen x st) (seen x end) e),
  (λ n most last. same_search_few (asking x) (λ s t. calm (runners x) s ≡ calm (runners x) t) (asks_are_alike x) n most last (seen x st) (seen x end) e),
)

pub runs_come_by_asks : RunsComeByAsks
runs_come_by_asks x ys st w =
    let c = come (runners x) (falls x) (map actor_of ys) (seen x st) in
    (c.by, c.there ∙ ap (calm (runners x)) (sym (plays_are_instructions x ys st w)))

-- states that are the same where all wait are over together, and the same is told of them
pub runs_are_found : RunsAreFound
runs_are_found x n st whole ys w over =
    let c = runs_come_by_asks x ys st w in
    let s : All (runners x) = turns (asking x) c.0 (seen x st) in
    let ends : (asking x).enabled s ≡ [] = ap (λ (u : All (runners x)). (runners x).live u.shared u.actors) c.1 ∙ over in
    let told : (asking x).outcome s ≡ told_of x (played x ys st) = ap (λ (u : All (runners x)). (runners x).told u.shared u.actors) c.1 in
    subst (λ o. Tells (asking x) o (search (asking x) n [] (seen x st)).ways) told
    (complete (asking x) (λ s t. calm (runners x) s ≡ calm (runners x) t) (asks_are_alike x) n (seen x st) whole c.0 ends)

-- a way is a run by its asks
pub way_is_run : (x : Explored) (m : ℕ) (st : State) (w : Way (asking x)) → x.limit + 1 < m → IsWay (asking x) (seen x st) w → IsRunBy x m st w
way_is_run x m st w few h =
    let p = turns_are_plays x m w.turns st few h.may in
    record { within = p.0; over = ap (asking x).enabled p.1 ∙ h.ends; outcome = h.outcome ∙ sym (ap (asking x).outcome p.1) }

pub ways_are_runs : WaysAreRuns
ways_are_runs x n m st w few i = way_is_run x m st w few (sound (asking x) n [] (seen x st) w i)

pub few_are_found : FewAreFound
few_are_found x n most st whole ks few over = few_complete (asking x) (λ s t. calm (runners x) s ≡ calm (runners x) t) (asks_are_alike x) n most (seen x st) whole ks few over

pub few_are_runs : FewAreRuns
few_are_runs x n m most st w few i =
    let h = few_sound (asking x) n most None (seen x st) w i in
    (way_is_run x m st w few h.way, h.few)
