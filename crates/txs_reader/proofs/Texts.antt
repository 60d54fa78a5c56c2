-- The inside of a text is parts in one way.
use Rattle.std.proofs.Common.{◌≡◌, ℕ, List, [], ◌∷◌, ◌++◌, None, length, refl, sym, ap, ◌∙◌, append_assoc, arith}
use Rattle.std.specs.List.{AllByRecursion, flat_map}
use Rattle.txs_reader.specs.Quoted.{Part, Plain, Short, Code, short_value, part_text, IsPart, IsAtPart}

no_short : short_value 117 ≡ None
unfolding short_value
no_short = refl

same_length : (a b x y : List ℕ) → length a ≡ length b → a ++ x ≡ b ++ y → (a ≡ b) × (x ≡ y)
same_length [] [] x y l e = (refl, e)
same_length [] (d ∷ b) x y l e = absurd (omega (arith, l))
same_length (c ∷ a) [] x y l e = absurd (omega (arith, l))
same_length (c ∷ a) (d ∷ b) x y l e =
    let heads : c ≡ d = cc in
    let tails : a ++ x ≡ b ++ y = cc in
    let rest = same_length a b x y (omega (arith, l)) tails in
    (let k : a ≡ b = rest.0 in cc, rest.1)

one_part : (p q : Part) (x y : List ℕ) → part_text p ++ x ≡ part_text q ++ y → IsPart p → IsPart q → (p ≡ q) × (x ≡ y)
one_part (Plain b) (Plain c) x y e is_p is_q = (let k : b ≡ c = cc in ap Plain k, cc)
one_part (Plain b) (Short c) x y e is_p is_q = absurd (is_p.1 cc)
one_part (Plain b) (Code c) x y e is_p is_q = absurd (is_p.1 cc)
one_part (Short b) (Plain c) x y e is_p is_q = absurd (is_q.1 cc)
one_part (Code b) (Plain c) x y e is_p is_q = absurd (is_q.1 cc)
one_part (Short b) (Short c) x y e is_p is_q = (let k : b ≡ c = cc in ap Short k, cc)
one_part (Short b) (Code c) x y e is_p is_q = let k : b ≡ 117 = cc in absurd (is_p (ap short_value k ∙ no_short))
one_part (Code b) (Short c) x y e is_p is_q = let k : c ≡ 117 = cc in absurd (is_q (ap short_value k ∙ no_short))
one_part (Code b) (Code c) x y e is_p is_q =
    let tails : b ++ x ≡ c ++ y = cc in
    let one = same_length b c x y (is_p.0 ∙ sym is_q.0) tails in
    (ap Code one.0, one.1)

-- neither the end nor a quote begins a part
abbrev first_of_all : List ℕ → ℕ
first_of_all [] = 0
first_of_all (b ∷ bs) = b

pub end_no_part : ¬ IsAtPart []
end_no_part (Plain b, after, is, e) = absurd cc
end_no_part (Short b, after, is, e) = absurd cc
end_no_part (Code ds, after, is, e) = absurd cc

pub quote_no_part : (x : List ℕ) → ¬ IsAtPart (34 ∷ x)
quote_no_part x (Plain b, after, is, e) = is.0 cc
quote_no_part x (Short b, after, is, e) = absurd (omega (arith, ap first_of_all e))
quote_no_part x (Code ds, after, is, e) = absurd (omega (arith, ap first_of_all e))

-- parts with none behind them are one list of parts alone
pub one_text : (ps qs : List Part) (x y : List ℕ) → flat_map part_text ps ++ x ≡ flat_map part_text qs ++ y → AllByRecursion IsPart ps → AllByRecursion IsPart qs → ¬ IsAtPart x → ¬ IsAtPart y → (ps ≡ qs) × (x ≡ y)
one_text [] [] x y e all_p all_q no_x no_y = (refl, e)
one_text [] (q ∷ qs) x y e all_p all_q no_x no_y = absurd (no_x (q, flat_map part_text qs ++ y, all_q.0, e ∙ append_assoc (part_text q) _ _))
one_text (p ∷ ps) [] x y e all_p all_q no_x no_y = absurd (no_y (p, flat_map part_text ps ++ x, all_p.0, sym e ∙ append_assoc (part_text p) _ _))
one_text (p ∷ ps) (q ∷ qs) x y e all_p all_q no_x no_y =
    let one = one_part p q _ _ (sym (append_assoc (part_text p) _ _) ∙ e ∙ append_assoc (part_text q) _ _) all_p.0 all_q.0 in
    let rest = one_text ps qs x y one.1 all_p.1 all_q.1 no_x no_y in
    (ap (λ (r : Part). r ∷ ps) one.0 ∙ ap (λ (rs : List Part). q ∷ rs) rest.0, rest.1)
