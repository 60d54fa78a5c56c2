-- Rows put end to end: what stands at a place, and what a write, a push and a pop do.
use Rattle.std.proofs.Common.{◌≡◌, ℕ, zero, suc, ◌+◌, ◌*◌, ◌-◌, ◌/◌, ◌%◌, ◌<◌, ◌≤◌, ◌++◌, List, [], ◌∷◌, length, get_or, set, take, drop, refl, sym, ap, ◌∙◌, append_assoc, add-one, suc-mul, zero-mul, mod-lt, div-lt_iff_lt-mul, arith}
use Rattle.std.proofs.lemmas.Nat.{div-add-mod'}
use Rattle.std.proofs.lemmas.List.{length-append, length-take, length-drop, append-nil, length-set}
use Rattle.std.specs.List.{slice_get}
use Rattle.txs_value_data.specs.Rows.{joined, AreFull, AreRows}

-- a place in the first row of a width, and in a later one
at_first : (w r k : ℕ) → k ≡ zero * w + r → k ≡ r
at_first w r k e = omega (arith, zero-mul w)

at_next : (w q r k n : ℕ) → k ≡ suc q * w + r → n ≡ w → k ≡ n + (q * w + r)
at_next w q r k n e is = omega (arith, suc-mul q w)

module _ {A : Type 0} where
  -- a list with one item put in the place of another
  abbrev put : List A → ℕ → A → List A
  put xs n y = take n xs ++ y ∷ drop (suc n) xs

  pub length-put : (xs : List A) (n : ℕ) (y : A) → n < length xs → length (take n xs ++ y ∷ drop (n + 1) xs) ≡ length xs
  length-put xs n y lt = omega (arith, length-append (take n xs) (y ∷ drop (n + 1) xs), length-take n xs, length-drop (n + 1) xs)

  put-left : (xs ys : List A) (n : ℕ) (y : A) → n < length xs → put (xs ++ ys) n y ≡ put xs n y ++ ys
  put-left [] ys n y lt = absurd (omega arith)
  put-left (x ∷ xs) ys zero y lt = refl
  put-left (x ∷ xs) ys (suc n) y lt = ap (λ zs. x ∷ zs) (put-left xs ys n y (omega arith))

  put-right : (xs ys : List A) (n k : ℕ) (y : A) → k ≡ length xs + n → put (xs ++ ys) k y ≡ xs ++ put ys n y
  put-right [] ys n k y e = rw (sum_of_none n k e) refl
    where
      sum_of_none : (n k : ℕ) → k ≡ 0 + n → k ≡ n
      sum_of_none n k e = omega arith
  put-right (x ∷ xs) ys n zero y e = absurd (omega arith)
  put-right (x ∷ xs) ys n (suc k) y e = ap (λ zs. x ∷ zs) (put-right xs ys n k y (omega arith))

  pub put-before : (xs ys : List A) (n : ℕ) (y : A) → n < length xs → take n (xs ++ ys) ++ y ∷ drop (n + 1) (xs ++ ys) ≡ (take n xs ++ y ∷ drop (n + 1) xs) ++ ys
  put-before xs ys n y lt = rw add-one (put-left xs ys n y lt)

  pub put-behind : (xs ys : List A) (k : ℕ) (y : A) → length xs ≤ k → take k (xs ++ ys) ++ y ∷ drop (k + 1) (xs ++ ys) ≡ xs ++ (take (k - length xs) ys ++ y ∷ drop (k - length xs + 1) ys)
  put-behind xs ys k y le = rw (add-one, add-one) (put-right xs ys (k - length xs) k y (omega arith))

  take-right : (xs ys : List A) (n k : ℕ) → k ≡ length xs + n → take k (xs ++ ys) ≡ xs ++ take n ys
  take-right [] ys n k e = ap (λ m. take m ys) (sum_of_none n k e)
    where
      sum_of_none : (n k : ℕ) → k ≡ 0 + n → k ≡ n
      sum_of_none n k e = omega arith
  take-right (x ∷ xs) ys n zero e = absurd (omega arith)
  take-right (x ∷ xs) ys n (suc k) e = ap (λ zs. x ∷ zs) (take-right xs ys n k (omega arith))

  pub take-behind : (xs ys : List A) (n k : ℕ) → k ≡ length xs + n → take k (xs ++ ys) ≡ xs ++ take n ys
  take-behind xs ys n k e = take-right xs ys n k e

  pub get-before : (xs ys : List A) (n : ℕ) → n < length xs → slice_get (xs ++ ys) n ≡ slice_get xs n
  get-before [] ys n lt = absurd (omega arith)
  get-before (x ∷ xs) ys zero lt = refl
  get-before (x ∷ xs) ys (suc n) lt = get-before xs ys n (omega arith)

  get-right : (xs ys : List A) (n k : ℕ) → k ≡ length xs + n → slice_get (xs ++ ys) k ≡ slice_get ys n
  get-right [] ys n k e = ap (λ m. slice_get ys m) (sum_of_none n k e)
    where
      sum_of_none : (n k : ℕ) → k ≡ 0 + n → k ≡ n
      sum_of_none n k e = omega arith
  get-right (x ∷ xs) ys n zero e = absurd (omega arith)
  get-right (x ∷ xs) ys n (suc k) e = get-right xs ys n k (omega arith)

  pub get-behind : (xs ys : List A) (k : ℕ) → length xs ≤ k → slice_get (xs ++ ys) k ≡ slice_get ys (k - length xs)
  get-behind xs ys k le = get-right xs ys (k - length xs) k (omega arith)

  joined-push : (cs : List (List A)) (c : List A) → joined (cs ++ c ∷ []) ≡ joined cs ++ c
  joined-push [] c = append-nil c
  joined-push (b ∷ cs) c = ap (λ xs. b ++ xs) (joined-push cs c) ∙ sym (append_assoc b (joined cs) c)

  -- rows of a width
  module _ (w : ℕ) where
    pub length-joined : (cs : List (List A)) → AreFull w cs → length (joined cs) ≡ length cs * w
    length-joined [] h = omega (arith, zero-mul w)
    length-joined (c ∷ cs) h = omega (arith, length-append c (joined cs), length-joined cs h.1, h.0, suc-mul (length cs) w)

    AreFull-push : (cs : List (List A)) (c : List A) → AreFull w cs → length c ≡ w → AreFull w (cs ++ c ∷ [])
    AreFull-push [] c h e = (e, tt)
    AreFull-push (b ∷ cs) c h e = (h.0, AreFull-push cs c h.1 e)

    AreFull-last : (cs : List (List A)) (c : List A) → AreFull w (cs ++ c ∷ []) → AreFull w cs × (length c ≡ w)
    AreFull-last [] c h = (tt, h.0)
    AreFull-last (b ∷ cs) c h =
        let rest = AreFull-last cs c h.1 in
        ((h.0, rest.0), rest.1)

    AreFull-set : (cs : List (List A)) (q : ℕ) (c : List A) → AreFull w cs → length c ≡ w → AreFull w (set cs q c)
    AreFull-set [] q c h e = h
    AreFull-set (b ∷ cs) zero c h e = (e, h.1)
    AreFull-set (b ∷ cs) (suc q) c h e = (h.0, AreFull-set cs q c h.1 e)

    AreFull-at : (cs : List (List A)) (q : ℕ) (c : List A) → AreFull w cs → q < length cs → c ≡ get_or cs q c → length c ≡ w
    AreFull-at [] q c h lt is = absurd (omega arith)
    AreFull-at (b ∷ cs) zero c h lt is = rw is h.0
    AreFull-at (b ∷ cs) (suc q) c h lt is = AreFull-at cs q c h.1 (omega arith) is

    put-joined : (cs : List (List A)) (q r k : ℕ) (c : List A) (y : A) → AreFull w cs → q < length cs → r < w → c ≡ get_or cs q c → k ≡ q * w + r → joined (set cs q (put c r y)) ≡ put (joined cs) k y
    put-joined [] q r k c y h lt small is e = absurd (omega arith)
    put-joined (b ∷ cs) zero r k c y h lt small is e = rw (at_first w r k e, is) (sym (put-left b (joined cs) r y (omega (arith, h.0))))
    put-joined (b ∷ cs) (suc q) r k c y h lt small is e =
        ap (λ xs. b ++ xs) (put-joined cs q r (q * w + r) c y h.1 (omega arith) small is refl) ∙ sym (put-right b (joined cs) (q * w + r) k y (at_next w q r k (length b) e h.0))

    get-joined : (cs : List (List A)) (q r k : ℕ) (c : List A) → AreFull w cs → q < length cs → r < w → c ≡ get_or cs q c → k ≡ q * w + r → slice_get (joined cs) k ≡ slice_get c r
    get-joined [] q r k c h lt small is e = absurd (omega arith)
    get-joined (b ∷ cs) zero r k c h lt small is e = rw (at_first w r k e, is) (get-before b (joined cs) r (omega (arith, h.0)))
    get-joined (b ∷ cs) (suc q) r k c h lt small is e =
        get-right b (joined cs) (q * w + r) k (at_next w q r k (length b) e h.0) ∙ get-joined cs q r (q * w + r) c h.1 (omega arith) small is refl

  module _ (w m : ℕ) (some : 0 < w) (cs : List (List A)) (ds : List A) (before : AreRows w m cs) (seen : joined cs ≡ ds) where
    pub length-rows : length cs * w ≡ length ds
    length-rows = rw (sym seen) (sym (length-joined w cs before.0))

    pub AreRows-push : (us : List (List A)) (c : List A) → us ≡ cs ++ c ∷ [] → length c ≡ w → length cs < m → AreRows w m us
    AreRows-push us c is full room = rw is (AreFull-push w cs c before.0 full, omega (arith, length-append cs (c ∷ [])))

    pub AreRows-pop : (us : List (List A)) (c : List A) → cs ≡ us ++ c ∷ [] → AreRows w m us
    AreRows-pop us c is =
        let h : AreFull w (us ++ c ∷ []) = rw (sym is) before.0 in
        ((AreFull-last w us c h).0, omega (arith, before.1, ap length is, length-append us (c ∷ [])))

    pub full-pop : (us : List (List A)) (c : List A) → cs ≡ us ++ c ∷ [] → length c ≡ w
    full-pop us c is =
        let h : AreFull w (us ++ c ∷ []) = rw (sym is) before.0 in
        (AreFull-last w us c h).1

    module _ (k : ℕ) (lt : k < length ds) where
      rest_small : k % w < w
      rest_small = mod-lt k some

      pub row_there : k / w < length cs
      row_there = (div-lt_iff_lt-mul some).1 (rw (length-rows) lt)

      pub place_there : (c : List A) → c ≡ get_or cs (k / w) c → k % w < length c
      place_there c is = omega (arith, AreFull-at w cs (k / w) c before.0 row_there is, rest_small)

      pub rows-get : (c : List A) → c ≡ get_or cs (k / w) c → slice_get ds k ≡ slice_get c (k % w)
      rows-get c is = rw (sym seen) (get-joined w cs (k / w) (k % w) k c before.0 row_there rest_small is (sym (div-add-mod' k w)))

      pub AreRows-set : (us : List (List A)) (c e : List A) (y : A) → us ≡ set cs (k / w) e → c ≡ get_or cs (k / w) c → e ≡ take (k % w) c ++ y ∷ drop (k % w + 1) c → AreRows w m us
      AreRows-set us c e y is at put_in =
          let full : length e ≡ w = rw put_in (length-put c (k % w) y (place_there c at) ∙ AreFull-at w cs (k / w) c before.0 row_there at) in
          rw is (AreFull-set w cs (k / w) e before.0 full, omega (arith, before.1, length-set cs (k / w) e))

      pub rows-set : (us : List (List A)) (c e : List A) (y : A) → us ≡ set cs (k / w) e → c ≡ get_or cs (k / w) c → e ≡ take (k % w) c ++ y ∷ drop (k % w + 1) c → joined us ≡ take k ds ++ y ∷ drop (k + 1) ds
      rows-set us c e y is at put_in =
          let put_at : e ≡ put c (k % w) y = rw add-one at put_in in
          rw (is, put_at, sym seen, add-one) (put-joined w cs (k / w) (k % w) k c y before.0 row_there rest_small at (sym (div-add-mod' k w)))

-- branches, and leaves behind them
module _ {A : Type 0} (bs cs : List (List A)) (ds : List A) (full_b : AreRows 1024 64 bs) (full_c : AreRows 32 32 cs) (seen : joined bs ++ joined cs ≡ ds) where
  length-branches : length (joined bs) ≡ length bs * 1024
  length-branches = length-joined 1024 bs full_b.0

  pub length-both : length bs * 1024 + length cs * 32 ≡ length ds
  length-both = omega (arith, length-branches, length-joined 32 cs full_c.0, ap length seen, length-append (joined bs) (joined cs))

  module _ (k m : ℕ) (at : m ≡ length bs * 1024) where
    module _ (lt : k < m) where
      in_branches : k < length (joined bs)
      in_branches = omega (arith, length-branches)

      pub branch_place : (c : List A) → c ≡ get_or bs (k / 1024) c → k % 1024 < length c
      branch_place c is = place_there 1024 64 (omega arith) bs (joined bs) full_b refl k in_branches c is

      pub both-get : (c : List A) → c ≡ get_or bs (k / 1024) c → slice_get ds k ≡ slice_get c (k % 1024)
      both-get c is = rw (sym seen) (get-before (joined bs) (joined cs) k in_branches ∙ rows-get 1024 64 (omega arith) bs (joined bs) full_b refl k in_branches c is)

      pub branches-set : (us : List (List A)) (c e : List A) (y : A) → us ≡ set bs (k / 1024) e → c ≡ get_or bs (k / 1024) c → e ≡ take (k % 1024) c ++ y ∷ drop (k % 1024 + 1) c → AreRows 1024 64 us
      branches-set us c e y is is_c put_in = AreRows-set 1024 64 (omega arith) bs (joined bs) full_b refl k in_branches us c e y is is_c put_in

      pub both-set : (us : List (List A)) (c e : List A) (y : A) → us ≡ set bs (k / 1024) e → c ≡ get_or bs (k / 1024) c → e ≡ take (k % 1024) c ++ y ∷ drop (k % 1024 + 1) c
          → joined us ++ joined cs ≡ take k ds ++ y ∷ drop (k + 1) ds
      both-set us c e y is is_c put_in =
          ap (λ xs. xs ++ joined cs) (rows-set 1024 64 (omega arith) bs (joined bs) full_b refl k in_branches us c e y is is_c put_in)
          ∙ sym (put-before (joined bs) (joined cs) k y in_branches)
          ∙ ap (λ xs. take k xs ++ y ∷ drop (k + 1) xs) seen

    module _ (le : m ≤ k) where
      behind : length (joined bs) ≤ k
      behind = omega (arith, length-branches)

      same_place : k - length (joined bs) ≡ k - m
      same_place = omega (arith, length-branches)

      pub leaf_place : k < length ds → k - m < length (joined cs)
      leaf_place lt = omega (arith, length-branches, ap length seen, length-append (joined bs) (joined cs))

      pub leaves-get : slice_get ds k ≡ slice_get (joined cs) (k - m)
      leaves-get = rw (sym seen) (get-behind (joined bs) (joined cs) k behind ∙ ap (λ n. slice_get (joined cs) n) same_place)

      pub leaves-set : (us : List (List A)) (y : A) → joined us ≡ take (k - m) (joined cs) ++ y ∷ drop (k - m + 1) (joined cs) → joined bs ++ joined us ≡ take k ds ++ y ∷ drop (k + 1) ds
      leaves-set us y is =
          ap (λ xs. joined bs ++ xs) is
          ∙ ap (λ n. joined bs ++ (take n (joined cs) ++ y ∷ drop (n + 1) (joined cs))) (sym same_place)
          ∙ sym (put-behind (joined bs) (joined cs) k y behind)
          ∙ ap (λ xs. take k xs ++ y ∷ drop (k + 1) xs) seen

  pub leaves-push : (us : List (List A)) (c : List A) → us ≡ cs ++ c ∷ [] → joined bs ++ joined us ≡ ds ++ c
  leaves-push us c is = rw (is, joined-push cs c) (sym (append_assoc (joined bs) (joined cs) c) ∙ ap (λ xs. xs ++ c) seen)

  pub leaves_full : (us : List (List A)) (c : List A) → us ≡ cs ++ c ∷ [] → length c ≡ 32 → length cs < 32 → AreRows 32 32 us
  leaves_full us c is full room = AreRows-push 32 32 (omega arith) cs (joined cs) full_c refl us c is full room

  -- a full row of leaves becomes a branch
  pub branches-push : (us ls : List (List A)) (b c : List A) → us ≡ bs ++ b ∷ [] → b ≡ joined cs → ls ≡ c ∷ [] → joined us ++ joined ls ≡ ds ++ c
  branches-push us ls b c is is_b is_l =
      rw (is, is_l, joined-push bs b, is_b) (ap (λ xs. (joined bs ++ joined cs) ++ xs) (append-nil c) ∙ ap (λ xs. xs ++ c) seen)

  pub branches_full : (us : List (List A)) (b : List A) → us ≡ bs ++ b ∷ [] → b ≡ joined cs → 32 ≤ length cs → length ds < 65536 → AreRows 1024 64 us
  branches_full us b is is_b many room =
      let full : length b ≡ 1024 = omega (arith, ap length is_b, length-joined 32 cs full_c.0, full_c.1) in
      AreRows-push 1024 64 (omega arith) bs (joined bs) full_b refl us b is full (omega (arith, length-both))

  pub leaves-pop : (us : List (List A)) (c : List A) → cs ≡ us ++ c ∷ [] → ds ≡ (joined bs ++ joined us) ++ c
  leaves-pop us c is = sym seen ∙ ap (λ xs. joined bs ++ xs) (ap joined is ∙ joined-push us c) ∙ sym (append_assoc (joined bs) (joined us) c)

  pub leaves_popped : (us : List (List A)) (c : List A) → cs ≡ us ++ c ∷ [] → AreRows 32 32 us
  leaves_popped us c is = AreRows-pop 32 32 (omega arith) cs (joined cs) full_c refl us c is

  pub leaf_popped : (us : List (List A)) (c : List A) → cs ≡ us ++ c ∷ [] → length c ≡ 32
  leaf_popped us c is = full-pop 32 32 (omega arith) cs (joined cs) full_c refl us c is

  -- where there is no leaf the last branch's are taken
  module _ (none : cs ≡ []) where
    pub branches_popped : (us : List (List A)) (b : List A) → bs ≡ us ++ b ∷ [] → AreRows 1024 64 us
    branches_popped us b is = AreRows-pop 1024 64 (omega arith) bs (joined bs) full_b refl us b is

    module _ (us ls : List (List A)) (b : List A) (is : bs ≡ us ++ b ∷ []) (full_l : AreRows 32 32 ls) (is_b : joined ls ≡ b) where
      pub leaf_left : 0 < length ls
      leaf_left = omega (arith, full-pop 1024 64 (omega arith) bs (joined bs) full_b refl us b is, ap length is_b, length-joined 32 ls full_l.0)

      module _ (vs : List (List A)) (c : List A) (is_l : ls ≡ vs ++ c ∷ []) where
        pub branches-pop : ds ≡ (joined us ++ joined vs) ++ c
        branches-pop =
            sym seen ∙ (λ i. joined (is i) ++ joined (none i)) ∙ append-nil (joined (us ++ b ∷ [])) ∙ joined-push us b
            ∙ ap (λ xs. joined us ++ xs) (sym is_b ∙ ap joined is_l ∙ joined-push vs c) ∙ sym (append_assoc (joined us) (joined vs) c)

        pub branch_leaves : AreRows 32 32 vs
        branch_leaves = AreRows-pop 32 32 (omega arith) ls b full_l is_b vs c is_l

        pub branch_leaf : length c ≡ 32
        branch_leaf = full-pop 32 32 (omega arith) ls b full_l is_b vs c is_l

-- one row
pub row_alone : {A : Type 0} (ls : List (List A)) (c : List A) → ls ≡ c ∷ [] → length c ≡ 32 → AreRows 32 32 ls
row_alone ls c is full = rw is ((full, tt), omega arith)
