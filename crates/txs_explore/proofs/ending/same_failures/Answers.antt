use Rattle.std.proofs.Common.{◌≡◌, Bool, List, Decides, rules}
use Rattle.std.specs.Cmp.Lexicographic.{pointwise}
use Rattle.std.proofs.lemmas.Slice.Eq.{slice_eq-Decides}
use Rattle.txs_explore.proofs.ending.same_failures.Goals as goal

-- what `==` says of two lists, where it says whether items are equal
decided : {A : Type 0} {E : A → A → Bool} (xs ys : List A) (r : Bool) → r ≡ pointwise E xs ys → ((x y : A) → Decides (E x y) (x ≡ y)) → Decides r (xs ≡ ys)
decided xs ys r e items = slice_eq-Decides items xs ys r e

pub returns : goal.returns
returns c = decided c.args.a.now c.args.b.now c.eq.result c.eq.ensures (λ x y. search rules)
