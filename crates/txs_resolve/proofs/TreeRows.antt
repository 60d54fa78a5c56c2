-- Nodes, seen as the row of their trees.
use Rattle.std.proofs.Common.{◌≡◌, ◌++◌, Bool, true, false, List, [], ◌∷◌, Option, Some, None, IfSome, OnSome, is_some, Result, Ok, Err, IfOk, is_ok, if◌then◌else◌, map, refl, sym, subst, ap, ◌∙◌}
use Rattle.std.specs.Result.{result_ok}
use Rattle.std.proofs.lemmas.List.{map-append}
use Rattle.txs_tree_meaning.specs.Tree.{Mark, Tree, more}
use Rattle.txs_tree_meaning.specs.View.{tree_of, trees_of}
use Rattle.txs_tree_meaning.specs.declared.node.Node.{Node}
use Rattle.txs_resolve_expand.specs.Expressions.{binding_node, choice_node, sequence_node, single_node}
use Rattle.txs_resolve_expand.specs.declared.parts.Special.{Special}
use Rattle.txs_resolve_expand.specs.declared.parts.Special.TheVariants as special
use Rattle.txs_resolve.specs.BodyGiven.{row, IsBehind}
use Rattle.txs_resolve.specs.Made.{IsMade, Makes, couple_node}

pub row_trees : (ns : List Node) → row (map tree_of ns) ≡ trees_of ns
row_trees [] = refl
row_trees (n ∷ ns) = ap (more (tree_of n)) (row_trees ns)

-- one more node, as a tree
pub put_behind : (before now : List Node) (t : Tree) → IsBehind before now t → map tree_of now ≡ map tree_of before ++ t ∷ []
put_behind before now t h = ap (map tree_of) h.1 ∙ map-append tree_of before (h.0 ∷ []) ∙ ap (λ (x : Tree). map tree_of before ++ x ∷ []) h.2

-- what is told of an answer's value, where it is forgotten why there is none
pub some_of : {A E : Type 0} (r : Result A E) (o : Option A) (P Q : A → Type 0) → o ≡ result_ok r → ((x : A) → P x → Q x) → IfOk r P → IfSome o Q
some_of (Ok x) o P Q is go h = subst (λ z. IfSome z Q) (sym is) (go x h)
some_of (Err e) o P Q is go h = subst (λ z. IfSome z Q) (sym is) tt

-- what is told of a value that is there
pub was_some : {A : Type 0} (o : Option A) (P : Type 0) → is_some o ≡ true → OnSome o P → P
was_some (Some x) P h p = p
was_some None P h p = absurd cc

-- one more node, where there was memory for it
pub behind : {E : Type 0} (r : Result (Unit {0}) E) (o : Option (Unit {0})) (before now : List Node) (n : Node) (t : Tree) → o ≡ result_ok r → now ≡ (if is_ok r then before ++ n ∷ [] else before) → tree_of n ≡ t → OnSome o (IsBehind before now t)
behind (Ok u) o before now n t is items made = subst (λ z. OnSome z (IsBehind before now t)) (sym is) (n, items, made)
behind (Err e) o before now n t is items made = subst (λ z. OnSome z (IsBehind before now t)) (sym is) tt

-- ---- the nodes of some trees

no_node : (ns : List Node) → map tree_of ns ≡ [] → ns ≡ []
no_node [] h = refl
no_node (n ∷ ns) h = absurd cc

pub first_node : (ns : List Node) (t : Tree) (ts : List Tree) → map tree_of ns ≡ t ∷ ts → (n : Node) × (rest : List Node) × (ns ≡ n ∷ rest) × (tree_of n ≡ t) × (map tree_of rest ≡ ts)
first_node [] t ts h = absurd cc
first_node (n ∷ ns) t ts h = (n, ns, refl, cc, cc)

last_node : (vs : List Tree) (ns : List Node) (x : Tree) → map tree_of ns ≡ vs ++ x ∷ [] → (ms : List Node) × (n : Node) × (ns ≡ ms ++ n ∷ []) × (map tree_of ms ≡ vs) × (tree_of n ≡ x)
last_node [] ns x h =
    let a = first_node ns x [] h in
    ([], a.0, a.2 ∙ ap (λ l. a.0 ∷ l) (no_node a.1 a.4), refl, a.3)
last_node (v ∷ vs) ns x h =
    let a = first_node ns v (vs ++ x ∷ []) h in
    let b = last_node vs a.1 x a.4 in
    (a.0 ∷ b.0, b.1, a.2 ∙ ap (λ l. a.0 ∷ l) b.2, ap (λ l. tree_of a.0 ∷ l) b.3 ∙ ap (λ (z : Tree). z ∷ vs) a.3, b.4)

bound_made : (is_loop : Bool) (m : Mark) (ns : List Node) (vs : List Tree) (x t : Tree) → map tree_of ns ≡ vs ++ x ∷ [] → t ≡ binding_node is_loop (row vs) x m
    → (ms : List Node) × (n : Node) × (ns ≡ ms ++ n ∷ []) × (t ≡ binding_node is_loop (trees_of ms) (tree_of n) m)
bound_made is_loop m ns vs x t is h =
    let a = last_node vs ns x is in (
      a.0,
      a.1,
      a.2,
      h
          ∙ ap (λ (l : List Tree). binding_node is_loop (row l) x m) (sym a.3)
          ∙ ap (λ l. binding_node is_loop l x m) (row_trees a.0)
          ∙ ap (λ (z : Tree). binding_node is_loop (trees_of a.0) z m) (sym a.4),
    )

-- ---- what is put together of trees is put together of their nodes

pub made_of : (form : Special) (ns : List Node) (m : Mark) (t : Tree) → Makes form (map tree_of ns) m t → IsMade form ns m t
made_of (special.Row k fs) ns m t h = h ∙ ap (λ l. sequence_node k l m) (row_trees ns)
made_of (special.Single k p) ns m t h =
    let a = first_node ns h.0 [] h.1 in
    (a.0, a.2 ∙ ap (λ l. a.0 ∷ l) (no_node a.1 a.4), h.2 ∙ ap (λ (x : Tree). single_node k x m) (sym a.3))
made_of (special.Pair k p f) ns m t h =
    let a = first_node ns h.0 (h.1 ∷ []) h.2 in
    let b = first_node a.1 h.1 [] a.4 in (
      a.0,
      b.0,
      a.2 ∙ ap (λ l. a.0 ∷ l) (b.2 ∙ ap (λ l. b.0 ∷ l) (no_node b.1 b.4)),
      h.3 ∙ ap (λ (x : Tree). couple_node k x h.1 m) (sym a.3) ∙ ap (λ (y : Tree). couple_node k (tree_of a.0) y m) (sym b.3),
    )
made_of (special.Choice turned c d e) ns m t h =
    let a = first_node ns h.0 (h.1 ∷ h.2 ∷ []) h.3 in
    let b = first_node a.1 h.1 (h.2 ∷ []) a.4 in
    let z = first_node b.1 h.2 [] b.4 in (
      a.0,
      b.0,
      z.0,
      a.2 ∙ ap (λ l. a.0 ∷ l) (b.2 ∙ ap (λ l. b.0 ∷ l) (z.2 ∙ ap (λ l. z.0 ∷ l) (no_node z.1 z.4))),
      h.4
          ∙ ap (λ (x : Tree). choice_node turned x h.1 h.2 m) (sym a.3)
          ∙ ap (λ (y : Tree). choice_node turned (tree_of a.0) y h.2 m) (sym b.3)
          ∙ ap (λ (w : Tree). choice_node turned (tree_of a.0) (tree_of b.0) w m) (sym z.3),
    )
made_of (special.Binding is_loop pairs fs) ns m t h = bound_made is_loop m ns h.0 h.1 t h.2 h.3
made_of (special.Hidden is_or f rest) ns m t h = bound_made false m ns h.0 h.1 t h.2 h.3
