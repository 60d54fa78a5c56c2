-- What holds of a transaction's end from its beginning on.
use Rattle.std.proofs.Common.{◌≡◌, ℕ, zero, suc, ◌+◌, slice_index_or, ◌<◌, ◌≤◌, ◌==◌, Bool, true, false, if◌then◌else◌, List, [], ◌∷◌, ◌++◌, length, map, take, set, get_or, Option, Some, None, Result, Ok, Err, is_some, refl, sym, ap, subst, ◌∙◌, arith}
use Rattle.std.specs.Prelude.{nat_lt, drop}
use Rattle.std.proofs.lemmas.Bool.{eq-eqb, eqb-true, ltb-true, ltb-false, false≢true}
use Rattle.txs_world_protocol.specs.Ask.{Writes, buffered, with_write}
use Rattle.txs_value_data.specs.declared.op.Callee.{Callee}
use Rattle.txs_value_data.specs.declared.value.CellId.{CellId}
use Rattle.txs_value_data.specs.declared.value.Value.{Value}
use Rattle.txs_value_data.specs.declared.value.Value.TheVariants.{Nil}
use Rattle.txs_frame.specs.Frame.{PlainTxFrame, with_cell, with_cells, has_number, outside_of, refs_of, commuted, written, commutes_of, by_ref, phase_work}
use Rattle.txs_frame.specs.Kept.{Ascends, IsPlaceOf, item_of, with_item, cell_number}
use Rattle.txs_frame.specs.Phase.{with_validation, validations, tasks_of, blank, filled, callee_of, next_callee, value_or_nil, first_of, to_write, write_number, behind_next, AreViewed, IsPhase}
use Rattle.txs_frame.specs.declared.frame.Commute.{Commute}
use Rattle.txs_frame.specs.declared.phase.Task.{Task}
use Rattle.txs_frame.specs.declared.phase.Task.TheVariants.{Redoes, Validates}
use Rattle.txs_value_cell.specs.Cells.{Validators, validators_of, validator_at}
use Rattle.txs_value_cell.specs.declared.cell.CellDefinition.{CellDefinition}
use Rattle.txs_frame.proofs.Places.{ascends_with, cells_ascend, get_there}

-- ---- lists by ascending number

module _ {X : Type 0} (n : X → ℕ) where
  pub ascends_from : (l m : ℕ) (xs : List X) → l ≤ m → Ascends n m xs → Ascends n l xs
  ascends_from l m [] le up = tt
  ascends_from l m (x ∷ xs) le up = let h = up.0 in (omega (arith, le, h), up.1)

  pub there_more : (x : X) (xs : List X) (k : ℕ) → is_some (item_of n xs k) ≡ true → is_some (item_of n (x ∷ xs) k) ≡ true
  there_more x xs k h = test (n x == k)
    where
      test : (b : Bool) → is_some (if b then Some x else item_of n xs k) ≡ true
      test true = refl
      test false = h

  -- where an item joins, the numbers that were there stay there
  pub stays_there : (xs : List X) (y : X) (k : ℕ) → is_some (item_of n xs k) ≡ true → is_some (item_of n (with_item n xs y) k) ≡ true
  stays_there [] y k h = absurd (false≢true h)
  stays_there (x ∷ xs) y k h = test (n x == n y) (nat_lt (n y) (n x)) refl (stays_there xs y k)
    where
      same : n x ≡ n y → (b : Bool) → (n x == k) ≡ b → is_some (if b then Some x else item_of n xs k) ≡ true → is_some (if b then Some y else item_of n xs k) ≡ true
      same e true f g = refl
      same e false f g = g

      behind : (b : Bool) → (is_some (item_of n xs k) ≡ true → is_some (item_of n (with_item n xs y) k) ≡ true) → is_some (if b then Some x else item_of n xs k) ≡ true → is_some (if b then Some x else item_of n (with_item n xs y) k) ≡ true
      behind true more g = refl
      behind false more g = more g

      test : (a b : Bool) → (n x == n y) ≡ a → (is_some (item_of n xs k) ≡ true → is_some (item_of n (with_item n xs y) k) ≡ true) → is_some (item_of n (if a then y ∷ xs else if b then y ∷ x ∷ xs else x ∷ with_item n xs y) k) ≡ true
      test true b e more =
          let equal = eqb-true (n x) (n y) e in
          subst (λ m. is_some (if m == k then Some y else item_of n xs k) ≡ true) equal (same equal (n x == k) refl h)
      test false true e more = there_more y (x ∷ xs) k h
      test false false e more = behind (n x == k) more h

-- ---- the refs that were commuted and not set

refs_ascend : (ds cs : List CellId) → Ascends cell_number 0 ds → Ascends cell_number 0 (with_cells ds cs)
refs_ascend ds [] up = up
refs_ascend ds (c ∷ cs) up = refs_ascend (with_cell ds c) cs (cells_ascend 0 ds c up (omega arith))

outside_ascend : (l : ℕ) (ds cs : List CellId) → Ascends cell_number l cs → Ascends cell_number l (outside_of ds cs)
outside_ascend l ds [] up = tt
outside_ascend l ds (c ∷ cs) up = test (has_number ds c.number) (outside_ascend (suc c.number) ds cs up.1)
  where
    test : (b : Bool) → Ascends cell_number (suc c.number) (outside_of ds cs) → Ascends cell_number l (if b then outside_of ds cs else c ∷ outside_of ds cs)
    test true more = let h = up.0 in ascends_from cell_number l (suc c.number) (outside_of ds cs) (omega (arith, h)) more
    test false more = (up.0, more)

pub commuted_ascend : (w : PlainTxFrame) → Ascends cell_number 0 (commuted w)
commuted_ascend w = outside_ascend 0 w.sets (refs_of w.commutes) (refs_ascend [] (map (λ c. c.cell) w.commutes) tt)

-- ---- refs without a value yet

blank_ascends : (l : ℕ) (cs : List CellId) → Ascends cell_number l cs → Ascends write_number l (blank cs)
blank_ascends l [] up = tt
blank_ascends l (c ∷ cs) up = (up.0, blank_ascends (suc c.number) cs up.1)

AreThere : Writes → List CellId → Type 0
AreThere ws [] = Unit {0}
AreThere ws (d ∷ ds) = (is_some (item_of write_number ws d.number) ≡ true) × AreThere ws ds

there_all : (w : CellId × Value) (ws : Writes) (ds : List CellId) → AreThere ws ds → AreThere (w ∷ ws) ds
unfolding AreThere
there_all w ws [] h = tt
there_all w ws (d ∷ ds) h = (there_more write_number w ws d.number h.0, there_all w ws ds h.1)

blank_there : (cs : List CellId) → AreThere (blank cs) cs
unfolding AreThere
blank_there [] = tt
blank_there (c ∷ cs) =
    (ap (λ (b : Bool). is_some (if b then Some (c, Nil) else item_of write_number (blank cs) c.number)) (eq-eqb c.number c.number refl), there_all (c, Nil) (blank cs) cs (blank_there cs))

Redone : Writes → List Commute → Type 0
Redone ws cs = AreViewed ws (map Redoes cs)

viewed_of : (ws : Writes) (k : ℕ) (cs : List Commute) → is_some (item_of write_number ws k) ≡ true → Redone ws (commutes_of k cs)
unfolding Redone
viewed_of ws k [] h = tt
viewed_of ws k (c ∷ cs) h = test (c.cell.number == k) refl (viewed_of ws k cs h)
  where
    test : (b : Bool) → (c.cell.number == k) ≡ b → AreViewed ws (map Redoes (commutes_of k cs)) → AreViewed ws (map Redoes (if b then c ∷ commutes_of k cs else commutes_of k cs))
    test true e more = (subst (λ m. is_some (item_of write_number ws m) ≡ true) (sym (eqb-true c.cell.number k e)) h, more)
    test false e more = more

redone_both : (ws : Writes) (ks js : List Commute) → Redone ws ks → Redone ws js → Redone ws (ks ++ js)
unfolding Redone
redone_both ws [] js h g = g
redone_both ws (k ∷ ks) js h g = (h.0, redone_both ws ks js h.1 g)

redone_all : (ws : Writes) (ds : List CellId) (cs : List Commute) → AreThere ws ds → Redone ws (by_ref ds cs)
unfolding AreThere Redone
redone_all ws [] cs h = tt
redone_all ws (d ∷ ds) cs h = redone_both ws (commutes_of d.number cs) (by_ref ds cs) (viewed_of ws d.number cs h.0) (redone_all ws ds cs h.1)

viewed_both : (ws : Writes) (xs ys : List Task) → AreViewed ws xs → AreViewed ws ys → AreViewed ws (xs ++ ys)
viewed_both ws [] ys h g = g
viewed_both ws (x ∷ xs) ys h g = (h.0, viewed_both ws xs ys h.1 g)

validations_viewed : (ws : Writes) (vs : Validators) (cs : List CellId) → AreViewed ws (validations vs cs)
validations_viewed ws vs [] = tt
validations_viewed ws vs (c ∷ cs) = test (validator_at vs c.number) (validations_viewed ws vs cs)
  where
    test : (o : Option Callee) → AreViewed ws (validations vs cs) → AreViewed ws (with_validation c o (validations vs cs))
    test None more = more
    test (Some f) more = (tt, more)

-- the phase of a transaction, before its refs are viewed
pub begins : (vs : Validators) (w : PlainTxFrame) → IsPhase (blank (commuted w)) (tasks_of vs w)
unfolding Redone
begins vs w =
    let ws = blank (commuted w) in
    record {
      ascends = blank_ascends 0 (commuted w) (commuted_ascend w);
      viewed = viewed_both ws (map Redoes (phase_work w)) (validations vs (written w)) (redone_all ws (commuted w) w.commutes (blank_there (commuted w))) (validations_viewed ws vs (written w));
    }

-- validators, ref by ref
pub validations_more : (vs : Validators) (ds : List CellId) (d : CellId) → validations vs (ds ++ d ∷ []) ≡ validations vs ds ++ with_validation d (validator_at vs d.number) []
validations_more vs [] d = refl
validations_more vs (e ∷ ds) d = test (validator_at vs e.number) (validations_more vs ds d)
  where
    test : (o : Option Callee) → validations vs (ds ++ d ∷ []) ≡ validations vs ds ++ with_validation d (validator_at vs d.number) []
        → with_validation e o (validations vs (ds ++ d ∷ [])) ≡ with_validation e o (validations vs ds) ++ with_validation d (validator_at vs d.number) []
    test None more = more
    test (Some f) more = ap (λ (xs : List Task). Validates e f ∷ xs) more

-- ---- values that are viewed

filled_ascends : (l : ℕ) (ws : Writes) (vs : List Value) → Ascends write_number l ws → Ascends write_number l (filled ws vs)
filled_ascends l [] vs up = tt
filled_ascends l (w ∷ ws) [] up = tt
filled_ascends l (w ∷ ws) (v ∷ vs) up = (up.0, filled_ascends (suc w.0.number) ws vs up.1)

filled_there : (ws : Writes) (vs : List Value) (k : ℕ) → length vs ≡ length ws → is_some (item_of write_number (filled ws vs) k) ≡ is_some (item_of write_number ws k)
filled_there [] vs k e = refl
filled_there (w ∷ ws) [] k e = absurd (omega (arith, e))
filled_there (w ∷ ws) (v ∷ vs) k e = test (w.0.number == k) (filled_there ws vs k (omega (arith, e)))
  where
    test : (b : Bool) → is_some (item_of write_number (filled ws vs) k) ≡ is_some (item_of write_number ws k) → is_some (if b then Some (w.0, v) else item_of write_number (filled ws vs) k) ≡ is_some (if b then Some w else item_of write_number ws k)
    test true same = refl
    test false same = same

filled_viewed : (ws : Writes) (vs : List Value) (ks : List Task) → length vs ≡ length ws → AreViewed ws ks → AreViewed (filled ws vs) ks
filled_viewed ws vs [] e h = tt
filled_viewed ws vs (Redoes k ∷ ks) e h = (filled_there ws vs k.cell.number e ∙ h.0, filled_viewed ws vs ks e h.1)
filled_viewed ws vs (Validates c f ∷ ks) e h = (tt, filled_viewed ws vs ks e h.1)

pub fills : (ws : Writes) (vs : List Value) (ks : List Task) → length vs ≡ length ws → IsPhase ws ks → IsPhase (filled ws vs) ks
fills ws vs ks e h = record { ascends = filled_ascends 0 ws vs h.ascends; viewed = filled_viewed ws vs ks e h.viewed }

-- ---- a ref's value

pub write_joins : (ws : Writes) (c : CellId) (v : Value) → with_write ws c v ≡ with_item write_number ws (c, v)
write_joins [] c v = refl
write_joins (w ∷ ws) c v = ap (λ (zs : Writes). if w.0.number == c.number then (c, v) ∷ ws else if nat_lt c.number w.0.number then (c, v) ∷ w ∷ ws else w ∷ zs) (write_joins ws c v)

-- the value of a write, if there is one
pub value_in : Option (CellId × Value) → Option Value
value_in None = None
value_in (Some w) = Some w.1

pub buffered_in : (ws : Writes) (k : ℕ) → buffered ws k ≡ value_in (item_of write_number ws k)
unfolding value_in
buffered_in [] k = refl
buffered_in (w ∷ ws) k = test (w.0.number == k) (buffered_in ws k)
  where
    test : (b : Bool) → buffered ws k ≡ value_in (item_of write_number ws k) → (if b then Some w.1 else buffered ws k) ≡ value_in (if b then Some w else item_of write_number ws k)
    test true same = refl
    test false same = same

-- what a search for a ref's value found
pub write_there : (ws : Writes) (k : ℕ) (r : Result ℕ ℕ) (i : ℕ) (x : CellId × Value) → IsPlaceOf write_number ws k r → r ≡ Ok i → x ≡ get_or ws i x → value_or_nil (buffered ws k) ≡ x.1
unfolding value_in
write_there ws k r i x p e is =
    let q : IsPlaceOf write_number ws k (Ok i) = subst (IsPlaceOf write_number ws k) e p in
    ap value_or_nil (buffered_in ws k ∙ ap value_in (q.is ∙ get_there ws i x q.within ∙ ap Some (sym is)))

pub no_write : (ws : Writes) (k : ℕ) (r : Result ℕ ℕ) (i : ℕ) → IsPlaceOf write_number ws k r → r ≡ Err i → value_or_nil (buffered ws k) ≡ Nil
unfolding value_in
no_write ws k r i p e =
    let q : IsPlaceOf write_number ws k (Err i) = subst (IsPlaceOf write_number ws k) e p in
    ap value_or_nil (buffered_in ws k ∙ ap value_in q.is)

stay_viewed : (ws : Writes) (y : CellId × Value) (ks : List Task) → AreViewed ws ks → AreViewed (with_item write_number ws y) ks
stay_viewed ws y [] h = tt
stay_viewed ws y (Validates c f ∷ ks) h = (tt, stay_viewed ws y ks h.1)
stay_viewed ws y (Redoes k ∷ ks) h = (stays_there write_number ws y k.cell.number h.0, stay_viewed ws y ks h.1)

-- the phase behind its next task
pub accepts : (ws : Writes) (xs : List Task) → IsPhase ws xs → IsPhase ws (behind_next xs)
accepts ws [] h = h
accepts ws (x ∷ xs) h = record { ascends = h.ascends; viewed = h.viewed.1 }

pub gives : (ws : Writes) (k : Commute) (ks : List Task) (v : Value) → IsPhase ws (Redoes k ∷ ks) → IsPhase (with_write ws k.cell v) ks
gives ws k ks v h =
    subst (λ (zs : Writes). IsPhase zs ks) (sym (write_joins ws k.cell v)) (record {
      ascends = ascends_with write_number 0 ws (k.cell, v) h.ascends (omega arith);
      viewed = stay_viewed ws (k.cell, v) ks h.viewed.1;
    })

-- ---- what is left of a list

-- the callee of a task, if there is one
pub callee_in : Option Task → Option Callee
callee_in None = None
callee_in (Some x) = Some (callee_of x)

-- where no callee is next no task is left
pub none_left : (ks : List Task) → next_callee ks ≡ None → ks ≡ []
none_left [] e = refl
none_left (k ∷ ks) e = absurd (false≢true (sym (ap (λ (o : Option Callee). is_some o) e)))

callee_or : Callee → Option Callee → Callee
callee_or d None = d
callee_or d (Some c) = c

-- the task whose callee is next, and those behind it
pub next_left : (ks : List Task) (c : Callee) → next_callee ks ≡ Some c → (k : Task) × (rest : List Task) × (ks ≡ k ∷ rest) × (callee_of k ≡ c)
unfolding callee_or
next_left [] c e = absurd (false≢true (ap (λ (o : Option Callee). is_some o) e))
next_left (k ∷ ks) c e = (k, ks, refl, ap (callee_or c) e)

pub blank_more : (cs : List CellId) (c : CellId) → blank (cs ++ c ∷ []) ≡ blank cs ++ (c, Nil) ∷ []
blank_more [] c = refl
blank_more (d ∷ cs) c = ap (λ (ws : Writes). (d, Nil) ∷ ws) (blank_more cs c)

-- refs of which those from this place on are filled
pub filled_from : ℕ → Writes → List Value → Writes
filled_from n ws vs = take n ws ++ filled (drop n ws) (drop n vs)

pub fill_next : (n : ℕ) (ws : Writes) (vs : List Value) (w : CellId × Value) (v : Value) → n < length ws → n < length vs → set (filled_from (suc n) ws vs) n ((get_or ws n w).0, get_or vs n v) ≡ filled_from n ws vs
unfolding filled_from
fill_next n [] vs w v lt le = absurd (omega (arith, lt))
fill_next n (x ∷ ws) [] w v lt le = absurd (omega (arith, le))
fill_next zero (x ∷ ws) (y ∷ vs) w v lt le = refl
fill_next (suc n) (x ∷ ws) (y ∷ vs) w v lt le = ap (λ (zs : Writes). x ∷ zs) (fill_next n ws vs w v (omega (arith, lt)) (omega (arith, le)))

pub unfilled_at : (n : ℕ) (ws : Writes) (vs : List Value) (w : CellId × Value) → n < length ws → get_or (filled_from (suc n) ws vs) n w ≡ get_or ws n w
unfolding filled_from
unfilled_at n [] vs w lt = absurd (omega (arith, lt))
unfilled_at zero (x ∷ ws) vs w lt = refl
unfilled_at (suc n) (x ∷ ws) [] w lt = unfilled_at n ws [] w (omega (arith, lt))
unfilled_at (suc n) (x ∷ ws) (y ∷ vs) w lt = unfilled_at n ws vs w (omega (arith, lt))

filled_length : (ws : Writes) (vs : List Value) → length vs ≡ length ws → length (filled ws vs) ≡ length ws
filled_length [] vs e = refl
filled_length (w ∷ ws) [] e = absurd (omega (arith, e))
filled_length (w ∷ ws) (v ∷ vs) e = ap suc (filled_length ws vs (omega (arith, e)))

pub filled_from_length : (n : ℕ) (ws : Writes) (vs : List Value) → length vs ≡ length ws → length (filled_from n ws vs) ≡ length ws
unfolding filled_from
filled_from_length zero ws vs e = filled_length ws vs e
filled_from_length (suc n) [] [] e = refl
filled_from_length (suc n) [] (v ∷ vs) e = absurd (omega (arith, e))
filled_from_length (suc n) (w ∷ ws) [] e = absurd (omega (arith, e))
filled_from_length (suc n) (w ∷ ws) (v ∷ vs) e = ap suc (filled_from_length n ws vs (omega (arith, e)))

length_more : (xs : List Value) (y : Value) → length (xs ++ y ∷ []) ≡ suc (length xs)
length_more [] y = refl
length_more (x ∷ xs) y = ap suc (length_more xs y)

beginning : (new vs : List Value) (v : Value) → new ++ v ∷ [] ≡ take (suc (length new)) vs → (new ≡ take (length new) vs) × (v ≡ get_or vs (length new) v) × (length new < length vs)
beginning [] [] v e = let h : 1 ≡ 0 = ap length e in absurd (omega (arith, h))
beginning [] (y ∷ vs) v e = (refl, ap (λ (xs : List Value). get_or xs 0 v) e, omega arith)
beginning (x ∷ new) [] v e = let h : suc (length (new ++ v ∷ [])) ≡ 0 = ap length e in absurd (omega (arith, h))
beginning (x ∷ new) (y ∷ vs) v e =
    let r = beginning new vs v (ap (drop 1) e) in
    let lt = r.2 in
    (ap (λ (z : Value). z ∷ new) (ap (λ (xs : List Value). get_or xs 0 x) e) ∙ ap (λ (zs : List Value). y ∷ zs) r.0, r.1, omega (arith, lt))

-- what is left of the values, and the refs that aren't filled yet
pub IsFilling : Writes → List Value → List Value → Writes → Type 0
IsFilling old vs left ws = (left ≡ take (length left) vs) × (length left ≤ length vs) × (ws ≡ filled_from (length left) old vs)

pub filling_begins : (old : Writes) (vs left : List Value) → left ≡ vs → length vs ≡ length old → IsFilling old vs left old
unfolding IsFilling filled_from
filling_begins old vs left e same = subst (λ (l : List Value). (l ≡ take (length l) vs) × (length l ≤ length vs) × (old ≡ filled_from (length l) old vs)) (sym e) (whole vs, omega arith, none old vs same)
  where
    whole : (xs : List Value) → xs ≡ take (length xs) xs
    whole [] = refl
    whole (x ∷ xs) = ap (λ (ys : List Value). x ∷ ys) (whole xs)

    none : (ws : Writes) (xs : List Value) → length xs ≡ length ws → ws ≡ take (length xs) ws ++ filled (drop (length xs) ws) (drop (length xs) xs)
    none [] [] f = refl
    none [] (x ∷ xs) f = absurd (omega (arith, f))
    none (w ∷ ws) [] f = absurd (omega (arith, f))
    none (w ∷ ws) (x ∷ xs) f = ap (λ (zs : Writes). w ∷ zs) (none ws xs (omega (arith, f)))

pub filling_within : (old : Writes) (vs left new : List Value) (v : Value) (ws : Writes) → length vs ≡ length old → left ≡ new ++ v ∷ [] → IsFilling old vs left ws → length new < length ws
unfolding IsFilling
filling_within old vs left new v ws same e h =
    let long : length left ≡ suc (length new) = ap length e ∙ length_more new v in
    let many : length ws ≡ length old = ap length h.2 ∙ filled_from_length (length left) old vs same in
    let le = h.1 in
    omega (arith, long, many, le, same)

pub filling_goes_on : (old : Writes) (vs left new : List Value) (v : Value) (ws : Writes) (w : CellId × Value) → length vs ≡ length old → left ≡ new ++ v ∷ [] → IsFilling old vs left ws → w ≡ get_or ws (length new) w → IsFilling old vs new (set ws (length new) (w.0, v))
unfolding IsFilling
filling_goes_on old vs left new v ws w same e h is =
    let n = length new in
    let long : length left ≡ suc n = ap length e ∙ length_more new v in
    let r = beginning new vs v (sym e ∙ h.0 ∙ ap (λ m. take m vs) long) in
    let lt = r.2 in
    let so : ws ≡ filled_from (suc n) old vs = h.2 ∙ ap (λ m. filled_from m old vs) long in
    let at : w ≡ get_or old n w = is ∙ ap (λ (zs : Writes). get_or zs n w) so ∙ unfilled_at n old vs w (omega (arith, lt, same)) in (
      r.0,
      omega (arith, lt),
      ap (λ (zs : Writes). set zs n (w.0, v)) so
          ∙ ap (λ (x : CellId × Value). set (filled_from (suc n) old vs) n (x.0, v)) at
          ∙ ap (λ (x : Value). set (filled_from (suc n) old vs) n ((get_or old n w).0, x)) r.1
          ∙ fill_next n old vs w v (omega (arith, lt, same)) lt,
    )

pub filling_ends : (old : Writes) (vs left : List Value) (ws : Writes) → length left ≡ 0 → IsFilling old vs left ws → ws ≡ filled old vs
unfolding IsFilling filled_from
filling_ends old vs left ws e h = h.2 ∙ ap (λ n. filled_from n old vs) e

-- ---- validators

there_is : (ds : List CellDefinition) (k : ℕ) (d : CellDefinition) → k < length ds → (slice_index_or ds k d).validator ≡ validator_at (validators_of ds) k
there_is [] k d h = absurd (omega (arith, h))
there_is (x ∷ ds) zero d h = refl
there_is (x ∷ ds) (suc k) d h = there_is ds k d (omega (arith, h))

none_is : (ds : List CellDefinition) (k : ℕ) → length ds ≤ k → None ≡ validator_at (validators_of ds) k
none_is [] zero h = refl
none_is [] (suc k) h = refl
none_is (x ∷ ds) zero h = absurd (omega (arith, h))
none_is (x ∷ ds) (suc k) h = none_is ds k (omega (arith, h))

pub validator_found : (ds : List CellDefinition) (k : ℕ) (d : CellDefinition) → nat_lt k (length ds) ≡ true → (slice_index_or ds k d).validator ≡ validator_at (validators_of ds) k
validator_found ds k d h = there_is ds k d (ltb-true k (length ds) h)

pub no_validator : (ds : List CellDefinition) (k : ℕ) → nat_lt k (length ds) ≡ false → None ≡ validator_at (validators_of ds) k
no_validator ds k h = none_is ds k (ltb-false k (length ds) h)

-- ---- the tasks behind the next one

behind_by : (xs : List Task) (n : ℕ) → behind_next (drop n xs) ≡ drop (suc n) xs
behind_by [] zero = refl
behind_by [] (suc n) = refl
behind_by (x ∷ xs) zero = refl
behind_by (x ∷ xs) (suc n) = behind_by xs n

pub behind_drop : (xs : List Task) (n : ℕ) → behind_next (drop n xs) ≡ drop (n + 1) xs
behind_drop xs n = let e : suc n ≡ n + 1 = omega arith in behind_by xs n ∙ ap (λ m. drop m xs) e

next_by : (xs : List Task) (n : ℕ) (d : Task) → n < length xs → drop n xs ≡ slice_index_or xs n d ∷ drop (suc n) xs
next_by [] n d h = absurd (omega (arith, h))
next_by (x ∷ xs) zero d h = refl
next_by (x ∷ xs) (suc n) d h = next_by xs n d (omega (arith, h))

-- a task that is there, and those behind it
pub next_task : (xs : List Task) (n : ℕ) (d : Task) → nat_lt n (length xs) ≡ true → drop n xs ≡ slice_index_or xs n d ∷ drop (n + 1) xs
next_task xs n d h = let e : suc n ≡ n + 1 = omega arith in next_by xs n d (ltb-true n (length xs) h) ∙ ap (λ m. slice_index_or xs n d ∷ drop m xs) e

-- what a ref is to get, where its commutes made a value, and where they didn't
pub write_made : (ws : Writes) (w : PlainTxFrame) (k : ℕ) (r : Result ℕ ℕ) (i : ℕ) (x : CellId × Value) → IsPlaceOf write_number ws k r → r ≡ Ok i → x ≡ get_or ws i x → to_write ws w k ≡ x.1
unfolding value_in
write_made ws w k r i x p e is =
    let q : IsPlaceOf write_number ws k (Ok i) = subst (IsPlaceOf write_number ws k) e p in
    ap (λ (o : Option Value). value_or_nil (first_of o (buffered w.values k))) (buffered_in ws k ∙ ap value_in (q.is ∙ get_there ws i x q.within ∙ ap Some (sym is)))

pub write_set : (ws : Writes) (w : PlainTxFrame) (k : ℕ) (r : Result ℕ ℕ) (i : ℕ) (o : Option Value) → IsPlaceOf write_number ws k r → r ≡ Err i → o ≡ buffered w.values k → to_write ws w k ≡ value_or_nil o
unfolding value_in
write_set ws w k r i o p e is =
    let q : IsPlaceOf write_number ws k (Err i) = subst (IsPlaceOf write_number ws k) e p in
    ap (λ (a : Option Value). value_or_nil (first_of a (buffered w.values k))) (buffered_in ws k ∙ ap value_in q.is) ∙ ap value_or_nil (sym is)
