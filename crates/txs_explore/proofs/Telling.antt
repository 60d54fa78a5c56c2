-- What was compared of a report so far, one item further; and asks in a row.
use Rattle.std.proofs.Common.{◌≡◌, ◌<◌, ◌≤◌, ◌+◌, ℕ, zero, suc, List, [], ◌∷◌, ◌++◌, length, map, take, get_or, replicate, Some, append_assoc, sym, ap, subst, ◌∙◌, arith}
use Rattle.std.proofs.lemmas.List.{map-append, replicate_more, take_all}
use Rattle.txs_world_protocol.specs.declared.report.ActorReport.{ActorReport}
use Rattle.txs_value_data.specs.Places.{nth}
use Rattle.txs_machine.specs.Schedule.{spread}
use Rattle.txs_machine.specs.declared.schedule.Play.TheVariants as play
use Rattle.txs_machine.specs.declared.schedule.Repeated.{Repeated}
use Rattle.txs_machine.proofs.Repeats.{spread_last}
use Rattle.txs_explore.specs.Runners as runs
use Rattle.txs_explore.specs.declared.ending.End.{End}
use Rattle.txs_explore.specs.declared.ending.Ending.{Ending}
use Rattle.txs_explore.specs.Reported.{entry_end, plays_of}
use Rattle.txs_explore.specs.Ways.{as_end, as_ending}
use Rattle.txs_explore.proofs.Lists.{is_some, same_some}
use Rattle.txs_explore.proofs.Tests.{taken}

-- ---- ends

-- an item by its index was read there
pub nth_get : {A : Type 0} (xs : List A) (i : ℕ) (x : A) → nth xs i ≡ Some x → (i < length xs) × (x ≡ get_or xs i x)
nth_get [] i x e = absurd (subst is_some (sym e) tt)
nth_get (y ∷ xs) zero x e = (omega arith, sym (same_some y x e))
nth_get (y ∷ xs) (suc i) x e = let r = nth_get xs i x e in let l = r.0 in (omega (arith, l), r.1)

pub ends_more : (es : List End) (rs : List ActorReport) (i : ℕ) (e : End) (r : ActorReport) → i < length es → e ≡ get_or es i e → nth rs i ≡ Some r → as_end e ≡ entry_end r
    → map as_end (take i es) ≡ map entry_end (take i rs) → map as_end (take (i + 1) es) ≡ map entry_end (take (i + 1) rs)
ends_more es rs i e r l read there same so_far =
    let g = nth_get rs i r there in
    ap (map as_end) (taken es i e l read)
    ∙ map-append as_end (take i es) (e ∷ [])
    ∙ ap (λ xs. xs ++ as_end e ∷ []) so_far
    ∙ ap (λ x. map entry_end (take i rs) ++ x ∷ []) same
    ∙ sym (map-append entry_end (take i rs) (r ∷ []))
    ∙ sym (ap (map entry_end) (taken rs i r g.0 g.1))

pub ends_all : (es : List End) (rs : List ActorReport) (i : ℕ) → length es ≤ i → length es ≡ length rs → map as_end (take i es) ≡ map entry_end (take i rs) → map as_end es ≡ map entry_end rs
ends_all es rs i past many so_far =
    sym (ap (map as_end) (take_all i es past)) ∙ so_far ∙ ap (map entry_end) (take_all i rs (subst (λ n. n ≤ i) many past))

-- an end of which each part was compared
pub ending_is : (e : Ending) (r : runs.Ending) → map as_end e.actors ≡ r.actors → e.cells ≡ r.cells → e.failed ≡ r.failed → as_ending e ≡ r
ending_is e r a b c = λ i. record { actors = a i; cells = b i; failed = c i }

-- ---- asks in a row

-- one more of the last
pub ask_more : (old rest new : List Repeated) (last more : Repeated) (k : ℕ) → old ≡ rest ++ last ∷ [] → new ≡ rest ++ more ∷ [] → last.play ≡ play.Ask k → more.play ≡ last.play → more.times ≡ last.times + 1 → spread new ≡ spread old ++ play.Ask k ∷ []
ask_more old rest new last more k was is same plays times =
    ap spread is
    ∙ spread_last rest more
    ∙ ap (λ n. spread rest ++ replicate n more.play) times
    ∙ ap (λ y. spread rest ++ replicate (last.times + 1) y) (plays ∙ same)
    ∙ ap (λ l. spread rest ++ l) (sym (replicate_more last.times (play.Ask k)))
    ∙ sym (append_assoc (spread rest) (replicate last.times (play.Ask k)) (play.Ask k ∷ []))
    ∙ ap (λ y. (spread rest ++ replicate last.times y) ++ play.Ask k ∷ []) (sym same)
    ∙ sym (ap (λ l. l ++ play.Ask k ∷ []) (ap spread was ∙ spread_last rest last))

-- one that is made once behind others
pub ask_once : (old new : List Repeated) (once : Repeated) (k : ℕ) → new ≡ old ++ once ∷ [] → once.play ≡ play.Ask k → once.times ≡ 1 → spread new ≡ spread old ++ play.Ask k ∷ []
ask_once old new once k is plays times =
    ap spread is ∙ spread_last old once ∙ ap (λ n. spread old ++ replicate n once.play) times ∙ ap (λ y. spread old ++ y ∷ []) plays

pub asks_more : (ks : List ℕ) (i k : ℕ) (old new : List Repeated) → i < length ks → k ≡ get_or ks i k → spread old ≡ plays_of (take i ks) → spread new ≡ spread old ++ play.Ask k ∷ [] → spread new ≡ plays_of (take (i + 1) ks)
asks_more ks i k old new l read so_far more =
    more
    ∙ ap (λ ys. ys ++ play.Ask k ∷ []) so_far
    ∙ sym (map-append (λ j. play.Ask j) (take i ks) (k ∷ []))
    ∙ sym (ap plays_of (taken ks i k l read))

pub asks_all : (ks : List ℕ) (i : ℕ) (runs : List Repeated) → length ks ≤ i → spread runs ≡ plays_of (take i ks) → spread runs ≡ plays_of ks
asks_all ks i runs past so_far = so_far ∙ ap plays_of (take_all i ks past)
