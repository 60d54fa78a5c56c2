-- The text of outcomes, one more at a time.
use Rattle.std.proofs.Common.{◌≡◌, ◌<◌, ◌≤◌, ◌+◌, ◌++◌, ◌∙◌, ℕ, zero, suc, List, [], ◌∷◌, length, take, get_or, Result, Ok, Err, OnOk, refl, sym, ap, subst, append_assoc, arith}
use Rattle.std.proofs.lemmas.List.{append-nil, take_all, length-take}
use Rattle.txs_cli_explore.specs.Changes.{IsChange, lines_in}
use Rattle.txs_cli_explore.specs.Outcomes.{AreBlocks, AreWritten, IsBlock, head}
use Rattle.txs_cli_explore.specs.declared.outcomes.Outcome.{Outcome}
use Rattle.txs_cli_explore.proofs.Lines.{taken}

-- what follows from what holds where an answer is one
on_ok : {A E : Type 0} (r : Result A E) (P Q : Type 0) → (P → Q) → OnOk r P → OnOk r Q
on_ok (Ok x) P Q f h = f h
on_ok (Err e) P Q f h = tt

-- a head and a change
pub block_is : {A E : Type 0} (r : Result A E) (first o : Outcome) (n : ℕ) (a b list old mid new : List ℕ) → list ≡ o.list.items → a ≡ first.lines.items → b ≡ o.lines.items → mid ≡ old ++ head n list
    → OnOk r ((change : List ℕ) × IsChange (lines_in a) (lines_in b) change × (new ≡ mid ++ change)) → OnOk r ((block : List ℕ) × IsBlock first n o block × (new ≡ old ++ block))
block_is r first o n a b list old mid new l p q m h =
    on_ok r ((change : List ℕ) × IsChange (lines_in a) (lines_in b) change × (new ≡ mid ++ change)) ((block : List ℕ) × IsBlock first n o block × (new ≡ old ++ block))
    (λ k. (
      head n o.list.items ++ k.0,
      record { change = k.0; is_change = subst (λ z. IsChange (lines_in first.lines.items) (lines_in z) k.0) q (subst (λ z. IsChange (lines_in z) (lines_in b) k.0) p k.1); written = refl },
      k.2 ∙ ap (λ z. z ++ k.0) m ∙ append_assoc old (head n list) k.0 ∙ ap (λ z. old ++ (head n z ++ k.0)) l,
    )) h

blocks_more : (first : Outcome) (n k : ℕ) (os : List Outcome) (x : Outcome) (text block : List ℕ) → k ≡ n + length os → AreBlocks first n os text → IsBlock first k x block → AreBlocks first n (os ++ x ∷ []) (text ++ block)
blocks_more first n k [] x text block e h is =
    let at : k ≡ n = omega (arith, e) in
    (block, [], subst (λ j. IsBlock first j x block) at is, ap (λ t. t ++ block) h ∙ sym (append-nil block), refl)
blocks_more first n k (o ∷ os) x text block e h is =
    let b = h.0 in
    let r = h.1 in
    (b, r ++ block, h.2, ap (λ t. t ++ block) h.3 ∙ append_assoc b r block, blocks_more first (suc n) k os x r block (omega (arith, e)) h.4 is)

-- the first outcome alone
pub first_written : (os : List Outcome) (first : Outcome) (text : List ℕ) → 0 < length os → first ≡ get_or os 0 first → text ≡ head 1 first.list.items ++ first.lines.items → AreWritten (take 1 os) text
first_written [] first text l is e = absurd (omega (arith, l))
first_written (o ∷ os) first text l is e = ([], e ∙ ap (λ (z : Outcome). head 1 z.list.items ++ z.lines.items) is ∙ sym (append-nil (head 1 o.list.items ++ o.lines.items)), refl)

-- one more behind it
pub written_more : (os : List Outcome) (i : ℕ) (first x : Outcome) (text block : List ℕ) → 1 ≤ i → i < length os → first ≡ get_or os 0 first → x ≡ get_or os i x → AreWritten (take i os) text → IsBlock first (i + 1) x block
    → AreWritten (take (i + 1) os) (text ++ block)
written_more [] i first x text block p l is at h b = absurd (omega (arith, l))
written_more (o ∷ os) zero first x text block p l is at h b = absurd (omega (arith, p))
written_more (o ∷ os) (suc j) first x text block p l is at h b =
    let on : suc (j + 1) ≡ suc j + 1 = omega arith in
    let below : j < length os = omega (arith, l) in
    let long : length (take j os) ≡ j = let t = length-take j os in omega (arith, t, below) in
    let number : suc j + 1 ≡ 2 + length (take j os) = omega (arith, long) in
    let it : IsBlock o (suc j + 1) x block = subst (λ z. IsBlock z (suc j + 1) x block) is b in
    subst (λ n. AreWritten (take n (o ∷ os)) (text ++ block)) on
    (subst (λ xs. AreWritten (o ∷ xs) (text ++ block)) (sym (taken os j x below at))
    (h.0 ++ block, ap (λ t. t ++ block) h.1 ∙ append_assoc (head 1 o.list.items ++ o.lines.items) h.0 block, blocks_more o 2 (suc j + 1) (take j os) x h.0 block number h.2 it))

-- all of them
pub written_done : (os : List Outcome) (i : ℕ) (text : List ℕ) → length os ≤ i → AreWritten (take i os) text → AreWritten os text
written_done os i text le h = subst (λ xs. AreWritten xs text) (take_all i os le) h
