-- What searches found is what an exploration promises.
use Rattle.std.proofs.Common.{◌≡◌, ◌⊎◌, inl, inr, ◌<◌, ◌≤◌, ◌+◌, ℕ, List, [], ◌∷◌, map, None, refl, sym, ap, subst, ◌∙◌}
use Rattle.txs_code_meaning.specs.PlainCode.{PlainCode}
use Rattle.txs_explore.specs.System.{IsIn, turns}
use Rattle.txs_explore.specs.Search as searched
use Rattle.txs_explore.specs.Search.{IsWay, Tells}
use Rattle.txs_explore.specs.Runners as runs
use Rattle.txs_explore.specs.Runners.{asking, seen, played, told_of}
use Rattle.txs_explore.proofs.Runs.{runs_are_found, few_are_found, way_is_run}
use Rattle.txs_explore.specs.declared.ways.Way.{Way}
use Rattle.txs_explore.specs.Told.{explored, begins}
use Rattle.txs_explore.specs.Ways.{AreAll, AreAllOfFew, AreRuns, IsListed, as_ending, as_way, as_ways}
use Rattle.txs_explore.specs.Found.{AreWays, HasEnding, HasSearched, HasSearchedFew}

in_mapped : (code : PlainCode) (limit : ℕ) (w : Way) (ws : List Way) → IsIn w ws → IsIn (as_way code limit w) (as_ways code limit ws)
in_mapped code limit w [] i = absurd i
in_mapped code limit w (v ∷ ws) (inl e) = inl (ap (as_way code limit) e)
in_mapped code limit w (v ∷ ws) (inr i) = inr (in_mapped code limit w ws i)

of_mapped : (code : PlainCode) (limit : ℕ) (w : searched.Way (asking (explored code limit))) (ws : List Way) → IsIn w (as_ways code limit ws) → (v : Way) × IsIn v ws × (w ≡ as_way code limit v)
of_mapped code limit w [] i = absurd i
of_mapped code limit w (v ∷ ws) (inl e) = (v, inl refl, e)
of_mapped code limit w (v ∷ ws) (inr i) = let t = of_mapped code limit w ws i in (t.0, inr t.1, t.2)

listed : (code : PlainCode) (limit : ℕ) (e : runs.Ending) (ws : List Way) → HasEnding e ws → IsListed code limit e ws
listed code limit e ws h = (as_way code limit h.0, in_mapped code limit h.0 ws h.1, h.2)

pub ways_are_runs : (code : PlainCode) (limit : ℕ) (ws : List Way) → AreWays code limit ws → AreRuns code limit ws
ways_are_runs code limit ws h w i m few =
    let t = of_mapped code limit w ws i in
    way_is_run (explored code limit) m (begins code) w few
    (subst (λ (v : searched.Way (asking (explored code limit))). IsWay (asking (explored code limit)) (seen (explored code limit) (begins code)) v) (sym t.2) (h t.0 t.1))

pub all_are_found : (code : PlainCode) (limit n : ℕ) (ws : List Way) → HasSearched code limit n [] [] ws → AreAll code limit ws
all_are_found code limit n ws h ys within over =
    listed code limit _ ws (h.told (told_of (explored code limit) (played (explored code limit) ys (begins code))) (runs_are_found (explored code limit) n (begins code) h.whole ys within over))

pub few_are_all : (code : PlainCode) (limit n most : ℕ) (ws : List Way) → HasSearchedFew code limit n most None [] ws → AreAllOfFew code limit most ws
few_are_all code limit n most ws h ks few over =
    listed code limit _ ws (h.told _ (few_are_found (explored code limit) n most (begins code) h.whole ks few over))

pub no_ways : (code : PlainCode) (limit : ℕ) → AreWays code limit []
no_ways code limit = λ w i. absurd i
