-- Whoever takes events in any order comes to the same cut, where none may be taken.
use Rattle.std.proofs.Common.{◌≡◌, ◌<◌, ◌≤◌, ◌+◌, ◌==◌, ◌&&◌, nat_lt, ℕ, zero, suc, Bool, true, false, List, length, length-set, replicate, Option, Some, None, refl, sym, ap, subst, ◌∙◌, arith}
use Rattle.std.proofs.lemmas.Bool.Decides.{nat_tests}
use Rattle.std.proofs.lemmas.Bool.{false≢true}
use Rattle.std.proofs.lemmas.Grind.{same_number_lists}
use Rattle.std.proofs.lemmas.List.{length-replicate}
use Rattle.txs_tree_meaning.proofs.Callable.{both}
use Rattle.txs_world_protocol.specs.declared.event.Event.{Event}
use Rattle.txs_theorem_serial.specs.Order.{Link}
use Rattle.txs_theorem_serial.specs.Taken.{taken_of, is_free, may_take, with_next, first_free, take_next, take_some, events_in, last_cut, IsReached, none_taken, one_more, OneLastCut}
use Rattle.txs_theorem_serial.proofs.Cuts.{none_taken_of, next_own, next_other, each_count, free_more, first_is, free_first, IsStuck, none_stuck}

-- how many events are taken of the first so many books
abbrev taken_in : List ℕ → ℕ → ℕ
taken_in cut zero = 0
taken_in cut (suc n) = taken_in cut n + taken_of cut n

module _ (cut : List ℕ) (b : ℕ) (less : b < length cut) where
  taken_same : (k : ℕ) → k ≤ b → taken_in (with_next cut b) k ≡ taken_in cut k
  taken_same zero le = refl
  taken_same (suc k) le = omega (arith, taken_same k (omega (arith, le)), next_other cut b k (grind (arith, nat_tests, le)))

  more_case : (k : ℕ) → b < suc k → (b < k → taken_in (with_next cut b) k ≡ suc (taken_in cut k)) → (t : Bool) → (k == b) ≡ t → taken_in (with_next cut b) (suc k) ≡ suc (taken_in cut (suc k))
  more_case k before rest true is =
      let at : b ≡ k = grind (arith, nat_tests, is) in
      let own : taken_of (with_next cut b) k ≡ suc (taken_of cut k) = subst (λ (j : ℕ). taken_of (with_next cut b) j ≡ suc (taken_of cut j)) at (next_own cut b less) in
      omega (arith, taken_same k (omega (arith, at)), own)
  more_case k before rest false is =
      let lower : b < k = grind (arith, nat_tests, is, before) in
      omega (arith, rest lower, next_other cut b k is)

  taken_more : (k : ℕ) → b < k → taken_in (with_next cut b) k ≡ suc (taken_in cut k)
  taken_more zero before = absurd (omega (arith, before))
  taken_more (suc k) before = more_case k before (taken_more k) (k == b) refl

module _ (books : ℕ → List Event) (ls : List Link) (n : ℕ) where
  abbrev Reached : List ℕ → Type 0
  Reached cut = IsReached books ls n cut

  abbrev Stuck : List ℕ → Type 0
  Stuck cut = IsStuck books ls n cut

  pub reached_length : (cut : List ℕ) → Reached cut → length cut ≡ n
  reached_length cut none_taken = length-replicate {A = ℕ} n 0
  reached_length cut (one_more c b r less may) = length-set c b (suc (taken_of c b)) ∙ reached_length c r

  -- what is taken is there
  pub reached_within : (cut : List ℕ) → Reached cut → (c : ℕ) → taken_of cut c ≤ length (books c)
  reached_within cut none_taken c = omega (arith, none_taken_of n c)
  reached_within cut (one_more d b r less may) c =
      let size = reached_length d r in
      let there = (both (nat_lt (taken_of d b) (length (books b))) (is_free ls d b (taken_of d b)) may).0 in
      each_count (λ e k. k ≤ length (books e)) d b (omega (arith, less, size)) (grind (arith, nat_tests, there)) (λ e away. reached_within d r e) c

  -- ---- the last cut is reached

  reached_case : (m : ℕ) (cut : List ℕ) → Reached cut → ((c : List ℕ) → Reached c → Reached (take_some books ls m c)) → (o : Option ℕ) → first_free books ls cut 0 (length cut) ≡ o → Reached (take_next (take_some books ls m) cut o)
  reached_case m cut r rest None is = r
  reached_case m cut r rest (Some b) is =
      let f = first_is (may_take books ls cut) 0 (length cut) b (sym (free_first books ls cut 0 (length cut)) ∙ is) in
      let less = f.1 in
      let size = reached_length cut r in
      rest (with_next cut b) (one_more cut b r (omega (arith, less, size)) f.0)

  some_reached : (m : ℕ) (cut : List ℕ) → Reached cut → Reached (take_some books ls m cut)
  some_reached zero cut r = r
  some_reached (suc m) cut r = reached_case m cut r (some_reached m) (first_free books ls cut 0 (length cut)) refl

  pub last_reached : Reached (last_cut books ls n)
  last_reached = some_reached (events_in books n) (replicate n 0) none_taken

  -- ---- and behind it none may be taken

  taken_most : (k : ℕ) (cut : List ℕ) → Reached cut → taken_in cut k ≤ events_in books k
  taken_most zero cut r = omega arith
  taken_most (suc k) cut r = omega (arith, taken_most k cut r, reached_within cut r k)

  all_case : (k : ℕ) (cut : List ℕ) → Reached cut → events_in books (suc k) ≤ taken_in cut (suc k) → (c : ℕ) → c < suc k → (c < k → taken_of cut c ≡ length (books c)) → (t : Bool) → (c == k) ≡ t → taken_of cut c ≡ length (books c)
  all_case k cut r le c less rest true is =
      let at : k ≡ c = grind (arith, nat_tests, is) in
      let last : taken_of cut k ≡ length (books k) = omega (arith, le, taken_most k cut r, reached_within cut r k) in
      subst (λ (d : ℕ). taken_of cut d ≡ length (books d)) at last
  all_case k cut r le c less rest false is = rest (grind (arith, nat_tests, is, less))

  -- where as many events are taken as there are, all of each book are
  all_taken : (k : ℕ) (cut : List ℕ) → Reached cut → events_in books k ≤ taken_in cut k → (c : ℕ) → c < k → taken_of cut c ≡ length (books c)
  all_taken zero cut r le c less = absurd (omega (arith, less))
  all_taken (suc k) cut r le c less = all_case k cut r le c less (all_taken k cut r (omega (arith, le, reached_within cut r k)) c) (c == k) refl

  none_more : (cut : List ℕ) (c : ℕ) → taken_of cut c ≡ length (books c) → may_take books ls cut c ≡ false
  none_more cut c all =
      let past : nat_lt (taken_of cut c) (length (books c)) ≡ false = grind (arith, nat_tests, all) in
      ap (λ t. t && is_free ls cut c (taken_of cut c)) past

  stuck_case : (m : ℕ) (cut : List ℕ) → Reached cut → events_in books n ≤ taken_in cut n + suc m → ((c : List ℕ) → Reached c → events_in books n ≤ taken_in c n + m → Stuck (take_some books ls m c))
      → (o : Option ℕ) → first_free books ls cut 0 (length cut) ≡ o → Stuck (take_next (take_some books ls m) cut o)
  stuck_case m cut r le rest None is = none_stuck books ls n cut (subst (λ (k : ℕ). first_free books ls cut 0 k ≡ None) (reached_length cut r) is)
  stuck_case m cut r le rest (Some b) is =
      let f = first_is (may_take books ls cut) 0 (length cut) b (sym (free_first books ls cut 0 (length cut)) ∙ is) in
      let less = f.1 in
      let size = reached_length cut r in
      let lower : b < n = omega (arith, less, size) in
      rest (with_next cut b) (one_more cut b r lower f.0) (omega (arith, le, taken_more cut b (omega (arith, less)) n lower))

  some_stuck : (m : ℕ) (cut : List ℕ) → Reached cut → events_in books n ≤ taken_in cut n + m → Stuck (take_some books ls m cut)
  some_stuck zero cut r le = λ c less. none_more cut c (all_taken n cut r (omega (arith, le)) c less)
  some_stuck (suc m) cut r le = stuck_case m cut r le (some_stuck m) (first_free books ls cut 0 (length cut)) refl

  pub last_stuck : Stuck (last_cut books ls n)
  last_stuck = some_stuck (events_in books n) (replicate n 0) none_taken (omega arith)

  -- ---- there is no other

  own_case : (end cut : List ℕ) (b : ℕ) → Stuck end → b < n → may_take books ls cut b ≡ true → ((c : ℕ) → taken_of cut c ≤ taken_of end c) → (t : Bool) → nat_lt (taken_of cut b) (taken_of end b) ≡ t → suc (taken_of cut b) ≤ taken_of end b
  own_case end cut b stuck less may le true is = grind (arith, nat_tests, is)
  own_case end cut b stuck less may le false is =
      let here = le b in
      let same : taken_of cut b ≡ taken_of end b = grind (arith, nat_tests, is, here) in
      let parts = both (nat_lt (taken_of cut b) (length (books b))) (is_free ls cut b (taken_of cut b)) may in
      let free = free_more ls cut end b (taken_of cut b) le parts.1 in
      let so : (nat_lt (taken_of cut b) (length (books b)) && is_free ls end b (taken_of cut b)) ≡ true = rw (parts.0, free) in
      absurd (false≢true (sym (stuck b less) ∙ subst (λ (k : ℕ). (nat_lt k (length (books b)) && is_free ls end b k) ≡ true) same so))

  -- what is taken anywhere on the way is taken where none may be taken
  taken_before : (end : List ℕ) → Stuck end → (cut : List ℕ) → Reached cut → (c : ℕ) → taken_of cut c ≤ taken_of end c
  taken_before end stuck cut none_taken c = omega (arith, none_taken_of n c)
  taken_before end stuck cut (one_more d b r less may) c =
      let size = reached_length d r in
      each_count (λ e k. k ≤ taken_of end e) d b (omega (arith, less, size)) (own_case end d b stuck less may (taken_before end stuck d r) (nat_lt (taken_of d b) (taken_of end b)) refl) (λ e away. taken_before end stuck d r e) c

  same_end : (one two : List ℕ) → Reached one → Reached two → Stuck one → Stuck two → one ≡ two
  same_end one two r s stuck stays =
      same_number_lists one two (reached_length one r ∙ sym (reached_length two s)) (λ k less. omega (arith, taken_before one stuck two s k, taken_before two stays one r k))

pub one_end : OneLastCut
one_end books n ls cut within r none = same_end books ls n cut (last_cut books ls n) r (last_reached books ls n) (none_stuck books ls n cut none) (last_stuck books ls n)
