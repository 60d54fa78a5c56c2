-- What is put into an object fits where the object and the value do.
use Rattle.std.proofs.Common.{◌≡◌, ℕ, ◌≤◌, ◌++◌, ◌∷◌, [], List, Ordering, Less, Equal, Greater, Bool, true, false, ◌||◌, refl, arith}
use Rattle.std.specs.Ordering.{match_ordering}
use Rattle.std.proofs.lemmas.Bool.{or_parts}
use Rattle.serde_json.specs.Data.{Data, Members, no_members, member, put, depth, items_depth, members_depth}
use Rattle.serde_json.specs.View.{view, items_view}
use Rattle.serde_json.specs.declared.value.Value.{Value}
use Rattle.serde_json.specs.Written.{has_float, items_have_float, members_have_float}
use Rattle.std.proofs.Common.{Result}
use Rattle.std.specs.declared.result.Result.TheVariants.{Ok, Err}
use Rattle.std.specs.declared.alloc.AllocError.{AllocError}
use Rattle.std.specs.Prelude.{⊤, OnOk, OnErr, if◌then◌else◌}
use Rattle.txs_cli_json.specs.Json.{Fits}

shallow_at : (o : Ordering) (a b c : Members) (n : ℕ) → members_depth a ≤ n → members_depth b ≤ n → members_depth c ≤ n → members_depth (match_ordering o a b c) ≤ n
shallow_at Less a b c n p q r = p
shallow_at Equal a b c n p q r = q
shallow_at Greater a b c n p q r = r

-- an object nests no deeper for a value that doesn't
pub shallow_put : (k : List ℕ) (d : Data) (ms : Members) (n : ℕ) → depth d ≤ n → members_depth ms ≤ n → members_depth (put k d ms) ≤ n
shallow_put k d no_members n p q = omega arith
shallow_put k d (member l e ms) n p q =
    shallow_at _ (member k d (member l e ms)) (member l d ms) (member l e (put k d ms)) n (omega arith) (omega arith) (omega (arith, shallow_put k d ms n p (omega arith)))

whole_at : (o : Ordering) (a b c : Members) → members_have_float a ≡ false → members_have_float b ≡ false → members_have_float c ≡ false → members_have_float (match_ordering o a b c) ≡ false
whole_at Less a b c p q r = p
whole_at Equal a b c p q r = q
whole_at Greater a b c p q r = r

neither : (a b : Bool) → a ≡ false → b ≡ false → (a || b) ≡ false
neither true b p q = p
neither false b p q = q

-- an object has no fraction in it for a value that has none
pub whole_put : (k : List ℕ) (d : Data) (ms : Members) → has_float d ≡ false → members_have_float ms ≡ false → members_have_float (put k d ms) ≡ false
whole_put k d no_members p q = neither (has_float d) false p refl
whole_put k d (member l e ms) p q =
    let parts = or_parts (has_float e) (members_have_float ms) q in
    whole_at _ (member k d (member l e ms)) (member l d ms) (member l e (put k d ms))
    (neither (has_float d) _ p q) (neither (has_float d) _ p parts.1) (neither (has_float e) _ parts.0 (whole_put k d ms p parts.1))

-- so is it of an object before and behind a call that may put one in
pub fits_put : (n : ℕ) (k : List ℕ) (d : Data) (r : Result ⊤ AllocError) (old new : Members) → OnOk r (new ≡ put k d old) → OnErr r (new ≡ old) → Fits n d
    → members_depth old ≤ n → members_have_float old ≡ false → (members_depth new ≤ n) × (members_have_float new ≡ false)
fits_put n k d (Ok u) old new ok err f p q = rw ok (shallow_put k d old n f.shallow p, whole_put k d old f.whole q)
fits_put n k d (Err e) old new ok err f p q = rw err (p, q)

-- an array nests no deeper for an item that doesn't
shallow_push : (vs : List Value) (v : Value) (n : ℕ) → items_depth (items_view vs) ≤ n → depth (view v) ≤ n → items_depth (items_view (vs ++ v ∷ [])) ≤ n
shallow_push [] v n p q = omega (arith, q)
shallow_push (w ∷ vs) v n p q = omega (arith, p, shallow_push vs v n (omega (arith, p)) q)

-- an array has no fraction in it for an item that has none
whole_push : (vs : List Value) (v : Value) → items_have_float (items_view vs) ≡ false → has_float (view v) ≡ false → items_have_float (items_view (vs ++ v ∷ [])) ≡ false
whole_push [] v p q = neither (has_float (view v)) false q refl
whole_push (w ∷ vs) v p q =
    let parts = or_parts (has_float (view w)) (items_have_float (items_view vs)) p in
    neither (has_float (view w)) _ parts.0 (whole_push vs v parts.1 q)

-- so is it of an array before and behind a call that may put one behind
pub fits_push : (n : ℕ) (b : Bool) (old new : List Value) (v : Value) → new ≡ (if b then old ++ v ∷ [] else old) → depth (view v) ≤ n → has_float (view v) ≡ false
    → items_depth (items_view old) ≤ n → items_have_float (items_view old) ≡ false → (items_depth (items_view new) ≤ n) × (items_have_float (items_view new) ≡ false)
fits_push n true old new v is small plain p q = rw is (shallow_push old v n p small, whole_push old v q plain)
fits_push n false old new v is small plain p q = rw is (p, q)
