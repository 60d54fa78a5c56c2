-- The search through the schedules with few switches. A switch is a turn of one actor where the one that had the last turn may go on.
use Rattle.std.specs.Prelude.{ℕ, zero, suc, ◌+◌, ◌-◌, Bool, true, false, not, ◌&&◌, ◌==◌, nat_le, List, [], ◌∷◌, Option, Some, None, if◌then◌else◌}
use Rattle.txs_explore.specs.System.{System, has}
use Rattle.txs_explore.specs.Search.{Found, joined, ended, cut}

-- whether a turn of this actor is a switch there, behind the last turn
abbrev pub is_switch : (y : System) → y.State → Option ℕ → ℕ → Bool
is_switch y s None k = false
is_switch y s (Some j) k = not (j == k) && has j (y.enabled s)

-- how many switches it is: one or none
abbrev pub switched : (y : System) → y.State → Option ℕ → ℕ → ℕ
switched y s last k = if is_switch y s last k then 1 else 0

-- how many switches are in these turns, behind the last one
abbrev pub switches : (y : System) → Option ℕ → List ℕ → y.State → ℕ
switches y last [] s = 0
switches y last (k ∷ ks) s = switched y s last k + switches y (Some k) ks (y.turn k s)

-- what is found behind a turn of each of these actors for which enough switches are left
abbrev pub affordable : (y : System) → (ℕ → ℕ → Found y) → y.State → ℕ → Option ℕ → List ℕ → Found y
affordable y go s left last [] = record { ways = []; whole = true }
affordable y go s left last (k ∷ ks) =
    if nat_le (switched y s last k) left then joined y k (go k (left - switched y s last k)) (affordable y go s left last ks) else affordable y go s left last ks

-- what is found where these may go on
abbrev pub among_few : (y : System) → (ℕ → ℕ → Found y) → y.State → ℕ → Option ℕ → List ℕ → Found y
among_few y go s left last [] = ended y s
among_few y go s left last (k ∷ ks) = affordable y go s left last (k ∷ ks)

-- what is found by at most so many turns with at most so many switches, behind the last turn
abbrev pub search_few : (y : System) → ℕ → ℕ → Option ℕ → y.State → Found y
search_few y zero left last s = cut y s (y.enabled s)
search_few y (suc n) left last s = among_few y (λ k l. search_few y n l (Some k) (y.turn k s)) s left last (y.enabled s)
