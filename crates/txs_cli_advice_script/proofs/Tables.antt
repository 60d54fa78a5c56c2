-- Laws of tables.
use Rattle.std.proofs.Common.{◌≡◌, ℕ, true, false, List, [], ◌∷◌, refl, ap, ◌∙◌, if◌then◌else◌, map}
use Rattle.std.proofs.lemmas.Simd.{map-map}
use Rattle.txs_cli_advice_script.specs.Rows.{has_word, said_in}

-- What is said, seen by a function, is what is said so seen.
pub said_in-view : {T U : Type 0} (view : T → U) (rows : List (List ℕ × T)) (word : List ℕ) (otherwise : T)
    → view (said_in rows word otherwise) ≡ said_in (map (λ row. (row.0, view row.1)) rows) word (view otherwise)
unfolding said_in
said_in-view view [] word otherwise = refl
said_in-view view (row ∷ rows) word otherwise =
    elim (has_word row.0 word) as (λ b. view (if b then row.1 else said_in rows word otherwise) ≡ (if b then view row.1 else said_in (map (λ row. (row.0, view row.1)) rows) word (view otherwise)))
    [ true ↦ refl | false ↦ said_in-view view rows word otherwise ]

-- the same of a result
pub said_in-seen : {T U : Type 0} (view : T → U) (rows : List (List ℕ × T)) (word : List ℕ) (otherwise result : T)
    → result ≡ said_in rows word otherwise → view result ≡ said_in (map (λ row. (row.0, view row.1)) rows) word (view otherwise)
said_in-seen view rows word otherwise result is = ap view is ∙ said_in-view view rows word otherwise

-- the same of a table that is seen by a function of its rows
pub said_in-rows : {R T U : Type 0} (view : T → U) (row_of : R → List ℕ × T) (rows : List R) (word : List ℕ) (otherwise result : T)
    → result ≡ said_in (map row_of rows) word otherwise → view result ≡ said_in (map (λ row. ((row_of row).0, view (row_of row).1)) rows) word (view otherwise)
said_in-rows view row_of rows word otherwise result is =
    said_in-seen view (map row_of rows) word otherwise result is ∙ ap (λ them. said_in them word (view otherwise)) (map-map (λ row. (row.0, view row.1)) row_of rows)

-- what five tables say, one after the other
pub said_in-five : (a b c d e : List (List ℕ × List ℕ)) (word u v w x y : List ℕ)
    → u ≡ said_in a word v → v ≡ said_in b word w → w ≡ said_in c word x → x ≡ said_in d word y → y ≡ said_in e word []
    → u ≡ said_in a word (said_in b word (said_in c word (said_in d word (said_in e word []))))
said_in-five a b c d e word u v w x y first second third fourth fifth =
    first ∙ ap (λ o. said_in a word o) (second ∙ ap (λ o. said_in b word o) (third ∙ ap (λ o. said_in c word o) (fourth ∙ ap (λ o. said_in d word o) fifth)))
