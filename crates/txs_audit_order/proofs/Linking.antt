-- Rows of links.
use Rattle.std.proofs.Common.{◌≡◌, ◌<◌, ◌==◌, ℕ, Bool, true, false, List, [], ◌∷◌, ◌++◌, length, get_or, set, replicate, refl, sym, ap, ◌∙◌, subst, arith, append-nil, if◌then◌else◌}
use Rattle.std.proofs.lemmas.Bool.{eqb-true, eq-eqb, false≢true}
use Rattle.std.proofs.lemmas.List.{append_assoc, get_or-replicate, get_or-set_other, get_or-set_same, length-replicate, length-set}
use Rattle.txs_theorem_serial.specs.Order.{Link}
use Rattle.txs_audit_order.specs.declared.links.Before.{Before}
use Rattle.txs_audit_order.specs.Linked.{AreLinks, AreSorted, IsSorted, before_of, row_of, with_link, with_links}

-- links join one after the other
pub links_append : (rows : List (List Before)) (xs ys : List Link) → with_links rows (xs ++ ys) ≡ with_links (with_links rows xs) ys
links_append rows [] ys = refl
links_append rows (l ∷ xs) ys = links_append (with_link rows l) xs ys

-- three groups of links
pub three_join : (rows one two now : List (List Before)) (xs ys zs : List Link) → one ≡ with_links rows xs → two ≡ with_links one ys → now ≡ with_links two zs → now ≡ with_links rows (xs ++ (ys ++ zs))
three_join rows one two now xs ys zs a b c =
    c ∙ ap (λ r. with_links r zs) (b ∙ ap (λ r. with_links r ys) a) ∙ sym (links_append rows xs (ys ++ zs) ∙ links_append (with_links rows xs) ys zs)

-- two groups of links
pub two_join : (rows one now : List (List Before)) (xs ys : List Link) → one ≡ with_links rows xs → now ≡ with_links one ys → now ≡ with_links rows (xs ++ ys)
two_join rows one now xs ys a b = b ∙ ap (λ r. with_links r ys) a ∙ sym (links_append rows xs ys)

links_many : (rows : List (List Before)) (ls : List Link) → length (with_links rows ls) ≡ length rows
links_many rows [] = refl
links_many rows (l ∷ ls) = links_many (with_link rows l) ls ∙ length-set rows l.later.book (get_or rows l.later.book [] ++ before_of l ∷ [])

-- a row after one link more
one_link : (rows : List (List Before)) (l : Link) (b : ℕ) → b < length rows → (t : Bool) → (l.later.book == b) ≡ t → get_or (with_link rows l) b [] ≡ (if t then get_or rows b [] ++ before_of l ∷ [] else get_or rows b [])
one_link rows l b lt true e =
    let same : l.later.book ≡ b = eqb-true l.later.book b e in
    subst (λ k. get_or (set rows k (get_or rows k [] ++ before_of l ∷ [])) b [] ≡ get_or rows b [] ++ before_of l ∷ []) (sym same)
    (get_or-set_same rows b (get_or rows b [] ++ before_of l ∷ []) [] lt)
one_link rows l b lt false e = get_or-set_other rows l.later.book b (get_or rows l.later.book [] ++ before_of l ∷ []) [] (λ s. false≢true (sym e ∙ eq-eqb l.later.book b (sym s)))

-- a row after these links more
row_links : (rows : List (List Before)) (ls : List Link) (b : ℕ) → b < length rows → get_or (with_links rows ls) b [] ≡ get_or rows b [] ++ row_of b ls
row_links rows [] b lt = sym (append-nil (get_or rows b []))
row_links rows (l ∷ ls) b lt =
    row_links (with_link rows l) ls b (let many = length-set rows l.later.book (get_or rows l.later.book [] ++ before_of l ∷ []) in omega (arith, lt, many))
    ∙ go (l.later.book == b) refl
  where
    go : (t : Bool) → (l.later.book == b) ≡ t → get_or (with_link rows l) b [] ++ row_of b ls ≡ get_or rows b [] ++ (if t then before_of l ∷ row_of b ls else row_of b ls)
    go true e = ap (λ r. r ++ row_of b ls) (one_link rows l b lt true e) ∙ append_assoc (get_or rows b []) (before_of l ∷ []) (row_of b ls)
    go false e = ap (λ r. r ++ row_of b ls) (one_link rows l b lt false e)

-- rows that held nothing hold these links, in order once they are sorted
pub are_links : (ls : List Link) (n : ℕ) (rows sorted : List (List Before)) → rows ≡ with_links (replicate n []) ls → AreSorted rows sorted → AreLinks ls n sorted
are_links ls n rows sorted is h = record {
  many = h.many ∙ many;
  each = λ b lt. subst (λ r. IsSorted r (get_or sorted b [])) (here b lt) (h.each b (omega (arith, lt, many)));
}
  where
    empty : List (List Before)
    empty = replicate n []

    size : length empty ≡ n
    size = length-replicate n []

    many : length rows ≡ n
    many = ap length is ∙ links_many empty ls ∙ size

    here : (b : ℕ) → b < n → get_or rows b [] ≡ row_of b ls
    here b lt = ap (λ r. get_or r b []) is ∙ row_links empty ls b (omega (arith, lt, size)) ∙ ap (λ r. r ++ row_of b ls) (get_or-replicate n b [] [] lt)
