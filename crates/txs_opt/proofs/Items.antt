-- Nodes folded, one after the other.
use Rattle.std.proofs.Common.{◌≡◌, ℕ, zero, suc, ◌+◌, ◌<◌, nat_eq, Bool, true, false, List, [], ◌∷◌, ◌++◌, length, get_or, take, drop, Option, Some, None, refl, sym, ap, ◌∙◌, arith}
use Rattle.std.proofs.lemmas.List.{take_more}
use Rattle.txs_value_data.specs.declared.value.Value.{Value}
use Rattle.txs_tree_meaning.proofs.Soundness.{trees_from}
use Rattle.txs_tree_meaning.specs.Tree.{Mark, Tree, Trees, Do, none, more, is_none}
use Rattle.txs_tree_meaning.specs.View.{tree_of, trees_of}
use Rattle.txs_tree_meaning.specs.declared.node.Node.{Node}
use Rattle.txs_opt.specs.Fold.{value_of, before, seen_items, whole, folded, folded_all}
use Rattle.txs_opt.specs.Items.{joined, kept_item, stays}
use Rattle.txs_tree_meaning.proofs.Rows.{behind, trees_behind}

folded_behind : (es : Trees) (e : Tree) → folded_all (behind es e) ≡ behind (folded_all es) (folded e)
folded_behind none e = refl
folded_behind (more f es) e = ap (more (folded f)) (folded_behind es e)

-- one more node folded
pub pushed_folded : (ns anew later : List Node) (i : ℕ) (n made : Node) → i < length ns → n ≡ get_or ns i n → trees_of anew ≡ folded_all (trees_of (take i ns)) → later ≡ anew ++ made ∷ [] → tree_of made ≡ folded (tree_of n)
    → trees_of later ≡ folded_all (trees_of (take (i + 1) ns))
pushed_folded ns anew later i n made lt at so_far put same =
    ap trees_of put ∙ trees_behind anew made ∙ ap (λ es. behind es (tree_of made)) so_far ∙ ap (behind (folded_all (trees_of (take i ns)))) same ∙ sym (folded_behind (trees_of (take i ns)) (tree_of n))
    ∙ ap folded_all (sym (trees_behind (take i ns) n)) ∙ ap (λ l. folded_all (trees_of l)) (ap (λ (x : Node). take i ns ++ x ∷ []) at ∙ sym (take_more ns i n lt))

-- ---- items of which something is seen

joined_none : (es : Trees) → joined es none ≡ es
joined_none none = refl
joined_none (more e es) = ap (more e) (joined_none es)

joined_both : (es fs gs : Trees) → joined (joined es fs) gs ≡ joined es (joined fs gs)
joined_both none fs gs = refl
joined_both (more e es) fs gs = ap (more e) (joined_both es fs gs)

before_joined : (o : Option Value) (e : Tree) (es : Trees) → before o e es ≡ joined (before o e none) es
before_joined None e es = refl
before_joined (Some v) e es = refl

seen_joined : (e : Tree) (es : Trees) → seen_items (more e es) ≡ joined (kept_item (is_none es) e) (seen_items es)
seen_joined e none = refl
seen_joined e (more f es) = before_joined (value_of e) e (seen_items (more f es))

none_folded : (es : Trees) → is_none (folded_all es) ≡ is_none es
none_folded none = refl
none_folded (more e es) = refl

none_last : (ns : List Node) (i : ℕ) → i + 1 ≡ length ns → is_none (trees_of (drop (i + 1) ns)) ≡ true
none_last [] i is = absurd (omega (arith, is))
none_last (m ∷ []) zero is = refl
none_last (m ∷ n ∷ ns) zero is = absurd (omega (arith, is))
none_last (m ∷ ns) (suc i) is =
    let e : suc i + 1 ≡ suc (i + 1) = omega arith in
    ap (λ j. is_none (trees_of (drop j (m ∷ ns)))) e ∙ none_last ns i (omega (arith, is))

none_middle : (ns : List Node) (i : ℕ) → i + 1 < length ns → is_none (trees_of (drop (i + 1) ns)) ≡ false
none_middle [] i lt = absurd (omega (arith, lt))
none_middle (m ∷ []) zero lt = absurd (omega (arith, lt))
none_middle (m ∷ n ∷ ns) zero lt = refl
none_middle (m ∷ ns) (suc i) lt =
    let e : suc i + 1 ≡ suc (i + 1) = omega arith in
    ap (λ j. is_none (trees_of (drop j (m ∷ ns)))) e ∙ none_middle ns i (omega (arith, lt))

same_number : (a b : ℕ) → nat_eq a b ≡ true → a ≡ b
same_number a b h = grind (arith, h)

other_number : (a b : ℕ) → nat_eq a b ≡ false → a ≡ b → ⊥
other_number a b h e = grind (arith, h, e)

none_from : (ns : List Node) (i : ℕ) → i < length ns → is_none (trees_of (drop (i + 1) ns)) ≡ nat_eq (i + 1) (length ns)
none_from ns i lt = go (nat_eq (i + 1) (length ns)) refl
  where
    go : (b : Bool) → nat_eq (i + 1) (length ns) ≡ b → is_none (trees_of (drop (i + 1) ns)) ≡ b
    go true is = none_last ns i (same_number (i + 1) (length ns) is)
    go false is =
        let other = other_number (i + 1) (length ns) is in
        none_middle ns i (omega (arith, lt, other))

-- one more item
pub items_more : (ns : List Node) (i : ℕ) (n : Node) (kept later made : Trees) (item : Tree) (last : Bool) → i < length ns → n ≡ get_or ns i n → joined kept (seen_items (folded_all (trees_of (drop i ns)))) ≡ made → last ≡ nat_eq (i + 1) (length ns) → item ≡ folded (tree_of n)
    → later ≡ joined kept (kept_item last item) → joined later (seen_items (folded_all (trees_of (drop (i + 1) ns)))) ≡ made
items_more ns i n kept later made item last lt at so_far ends same put =
    let rest = folded_all (trees_of (drop (i + 1) ns)) in
    let is_last : last ≡ is_none rest = ends ∙ sym (none_folded (trees_of (drop (i + 1) ns)) ∙ none_from ns i lt) in
    ap (λ es. joined es (seen_items rest)) put ∙ joined_both kept (kept_item last item) (seen_items rest)
    ∙ ap (λ b. joined kept (joined (kept_item b item) (seen_items rest))) is_last ∙ ap (λ e. joined kept (joined (kept_item (is_none rest) e) (seen_items rest))) same
    ∙ ap (joined kept) (sym (seen_joined (folded (tree_of n)) rest)) ∙ ap (λ es. joined kept (seen_items (folded_all es))) (sym (trees_from ns i n lt at)) ∙ so_far

pub items_end : (ns : List Node) (i : ℕ) (kept made : Trees) → drop i ns ≡ [] → joined kept (seen_items (folded_all (trees_of (drop i ns)))) ≡ made → kept ≡ made
items_end ns i kept made is so_far = sym (joined_none kept) ∙ ap (λ l. joined kept (seen_items (folded_all (trees_of l)))) (sym is) ∙ so_far

pub item_goes : (es kept : Trees) (e : Tree) (b : Bool) → kept ≡ stays b e → b ≡ true → es ≡ joined es kept
item_goes es kept e b is so = sym (ap (joined es) (is ∙ ap (λ x. stays x e) so) ∙ joined_none es)

joined_one : (es : Trees) (e : Tree) → joined es (more e none) ≡ behind es e
joined_one none e = refl
joined_one (more f es) e = ap (more f) (joined_one es e)

pub item_stays : (ns later : List Node) (n : Node) (kept : Trees) (b : Bool) → kept ≡ stays b (tree_of n) → b ≡ false → later ≡ ns ++ n ∷ [] → trees_of later ≡ joined (trees_of ns) kept
item_stays ns later n kept b is so put =
    ap trees_of put ∙ trees_behind ns n ∙ sym (ap (joined (trees_of ns)) (is ∙ ap (λ x. stays x (tree_of n)) so) ∙ joined_one (trees_of ns) (tree_of n))

pub whole_of : (ns : List Node) (m : Mark) → (length ns ≡ 1 → ⊥) → whole (trees_of ns) m ≡ Do (trees_of ns) m
whole_of [] m h = refl
whole_of (n ∷ []) m h = absurd (h refl)
whole_of (n ∷ k ∷ ns) m h = refl
