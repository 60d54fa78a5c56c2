-- Nodes, functions and threads from a place on.
use Rattle.std.proofs.Common.{◌≡◌, ℕ, zero, suc, ◌+◌, ◌<◌, List, [], ◌∷◌, ◌++◌, length, get_or, map, take, drop, refl, sym, ap, ◌∙◌}
use Rattle.std.proofs.lemmas.List.{drop_more}
use Rattle.txs_tree_meaning.specs.Tree.{Mark, count}
use Rattle.txs_tree_meaning.specs.View.{kind_tree, mark_of, tree_of, trees_of, function_of, functions_of, thread_of, threads_of}
use Rattle.txs_tree_meaning.specs.declared.node.Function.{Function}
use Rattle.txs_tree_meaning.specs.declared.node.Node.{Node}
use Rattle.txs_tree_meaning.specs.declared.node.NodeKind.{NodeKind, Const, Local, If', Do', Let', Loop', Recur', Core', Vector', Println', Dosync', Look', Put', Update', Send', Call'}
use Rattle.txs_tree_meaning.specs.declared.node.Thread.{Thread}
use Rattle.txs_check.specs.Refused.{◌>>=◌, place_of, before, function_body, thread_body, in_order, taken, room}
use Rattle.txs_check.proofs.Order.{room_append}

pub functions_left : (fs : List Function) (i : ℕ) (f : Function) → i < length fs → f ≡ get_or fs i f → functions_of (drop i fs) ≡ function_of f ∷ functions_of (drop (i + 1) fs)
functions_left fs i f lt is = ap functions_of (drop_more fs i f lt) ∙ ap (λ g. function_of g ∷ functions_of (drop (i + 1) fs)) (sym is)

pub count_nodes : (ns : List Node) → count (trees_of ns) ≡ length ns
count_nodes [] = refl
count_nodes (n ∷ ns) = ap suc (count_nodes ns)

pub threads_take : (n : ℕ) (ts : List Thread) → threads_of (take n ts) ≡ take n (threads_of ts)
threads_take zero ts = refl
threads_take (suc n) [] = refl
threads_take (suc n) (t ∷ ts) = ap (λ l. thread_of t ∷ l) (threads_take n ts)

pub threads_drop : (n : ℕ) (ts : List Thread) → threads_of (drop n ts) ≡ drop n (threads_of ts)
threads_drop zero ts = refl
threads_drop (suc n) [] = refl
threads_drop (suc n) (t ∷ ts) = threads_drop n ts

-- a node's tree stands where the node does
place_kind : (k : NodeKind) (m : Mark) → place_of (kind_tree k m) ≡ m.span
place_kind (Const v) m = refl
place_kind (Local i) m = refl
place_kind (If' q test span wanted r first span1 wanted1 s second span2 wanted2) m = refl
place_kind (Do' shape items) m = refl
place_kind (Let' shape values q body span wanted) m = refl
place_kind (Loop' shape values q body span wanted) m = refl
place_kind (Recur' shape values) m = refl
place_kind (Core' op shape args) m = refl
place_kind (Call' f shape args) m = refl
place_kind (Vector' shape items) m = refl
place_kind (Println' shape args) m = refl
place_kind (Dosync' q body span wanted) m = refl
place_kind (Look' form q cell span wanted) m = refl
place_kind (Put' form q cell span wanted r value span1 wanted1) m = refl
place_kind (Update' form q cell span wanted callee shape args) m = refl
place_kind (Send' q cell span wanted callee shape args) m = refl

pub place_node : (n : Node) → place_of (tree_of n) ≡ n.span
place_node n = place_kind n.kind (mark_of n.span n.wanted)

-- a step of a walk over the bodies in script order: the threads before the next function, and the function
module _ (fs : List Function) (i : ℕ) (f : Function) (lt : i < length fs) (is : f ≡ get_or fs i f) (ts : List Thread) (n : ℕ) (many : n ≡ before f.span.from (threads_of ts)) where
  pub order_of : in_order (functions_of (drop i fs)) (threads_of ts)
      ≡ map thread_body (threads_of (take n ts)) ++ function_body (function_of f) ∷ in_order (functions_of (drop (i + 1) fs)) (threads_of (drop n ts))
  order_of =
      let g = function_of f in
      let rest = functions_of (drop (i + 1) fs) in
      ap (λ l. in_order l (threads_of ts)) (functions_left fs i f lt is)
      ∙ ap (λ k. map thread_body (take k (threads_of ts)) ++ function_body g ∷ in_order rest (drop k (threads_of ts))) (sym many)
      ∙ ap (λ l. map thread_body l ++ function_body g ∷ in_order rest (drop n (threads_of ts))) (sym (threads_take n ts))
      ∙ ap (λ l. map thread_body (threads_of (take n ts)) ++ function_body g ∷ in_order rest l) (sym (threads_drop n ts))

  pub room_step : (left : ℕ) → room left (in_order (functions_of (drop i fs)) (threads_of ts))
      ≡ room left (map thread_body (threads_of (take n ts))) >>= (λ x. taken x (tree_of f.body) f.span >>= (λ y. room y (in_order (functions_of (drop (i + 1) fs)) (threads_of (drop n ts)))))
  room_step left = ap (λ l. room left l) order_of ∙ room_append left (map thread_body (threads_of (take n ts))) (function_body (function_of f) ∷ in_order (functions_of (drop (i + 1) fs)) (threads_of (drop n ts)))
