-- What is sound of nodes is sound of those from a place on.
use Rattle.std.proofs.Common.{◌≡◌, ℕ, zero, suc, ◌+◌, ◌<◌, List, [], ◌∷◌, ◌++◌, Option, length, get_or, drop, None, refl, sym, ap, ◌∙◌, subst, arith}
use Rattle.txs_tree_meaning.specs.Known.{Known}
use Rattle.txs_tree_meaning.specs.Sound.{nodes, Zone, SoundTree, SoundAll, SoundDo, SoundLet, SoundThread, SoundThreads}
use Rattle.txs_tree_meaning.specs.Tree.{Tree, Const, Local, If, Do, Let, Loop, Recur, Core, Call, VectorOf, Println, Dosync, Look, Put, Update, Send, more, count}
use Rattle.txs_tree_meaning.specs.View.{tree_of, trees_of, thread_of, threads_of}
use Rattle.txs_tree_meaning.specs.declared.node.Node.{Node}
use Rattle.std.proofs.lemmas.List.{drop_more}
use Rattle.txs_tree_meaning.specs.declared.node.Thread.{Thread}

-- the nodes from a place on: the one at the place, and those after it
pub trees_from : (ns : List Node) (i : ℕ) (n : Node) → i < length ns → n ≡ get_or ns i n → trees_of (drop i ns) ≡ more (tree_of n) (trees_of (drop (i + 1) ns))
trees_from ns i n lt is = ap trees_of (drop_more ns i n lt) ∙ ap (λ m. more (tree_of m) (trees_of (drop (i + 1) ns))) (sym is)

pub count-trees_of : (ns : List Node) → count (trees_of ns) ≡ length ns
count-trees_of [] = refl
count-trees_of (n ∷ ns) = ap suc (count-trees_of ns)

module _ (ns : List Node) (i : ℕ) (n : Node) (lt : i < length ns) (is : n ≡ get_or ns i n) where
  pub SoundAll-from : (ks : List Known) (zone : Zone) (d : ℕ) → SoundAll ks zone d (trees_of (drop i ns)) → SoundTree ks zone d None (tree_of n) × SoundAll ks zone d (trees_of (drop (i + 1) ns))
  SoundAll-from ks zone d h = subst (λ es. SoundAll ks zone d es) (trees_from ns i n lt is) h

  pub SoundLet-from : (ks : List Known) (zone : Zone) (d : ℕ) → SoundLet ks zone d (trees_of (drop i ns)) → SoundTree ks zone d None (tree_of n) × SoundLet ks zone (d + 1) (trees_of (drop (i + 1) ns))
  SoundLet-from ks zone d h = subst (λ es. SoundLet ks zone d es) (trees_from ns i n lt is) h

  pub count-from : count (trees_of (drop i ns)) ≡ suc (count (trees_of (drop (i + 1) ns)))
  count-from = ap count (trees_from ns i n lt is)

-- the nodes before a last one, and the last one
pub SoundDo-parts : (ks : List Known) (zone : Zone) (d : ℕ) (tail : Option ℕ) (ns : List Node) (x : Node) → SoundDo ks zone d tail (trees_of (ns ++ x ∷ [])) → SoundAll ks zone d (trees_of ns) × SoundTree ks zone d tail (tree_of x)
SoundDo-parts ks zone d tail [] x h = (tt, h)
SoundDo-parts ks zone d tail (m ∷ []) x h = ((h.0, tt), h.1)
SoundDo-parts ks zone d tail (m ∷ k ∷ ns) x h =
    let later : SoundAll ks zone d (trees_of (k ∷ ns)) × SoundTree ks zone d tail (tree_of x) = SoundDo-parts ks zone d tail (k ∷ ns) x h.1 in
    ((h.0, later.0), later.1)

pub threads_from : (ts : List Thread) (i : ℕ) (t : Thread) → i < length ts → t ≡ get_or ts i t → threads_of (drop i ts) ≡ thread_of t ∷ threads_of (drop (i + 1) ts)
threads_from ts i t lt is = ap threads_of (drop_more ts i t lt) ∙ ap (λ u. thread_of u ∷ threads_of (drop (i + 1) ts)) (sym is)

pub threads-length : (ts : List Thread) → length (threads_of ts) ≡ length ts
threads-length [] = refl
threads-length (t ∷ ts) = ap suc (threads-length ts)

pub SoundThread-at : (ks : List Known) (ts : List Thread) (i : ℕ) (t : Thread) → SoundThreads ks (threads_of ts) → i < length ts → t ≡ get_or ts i t → SoundThread ks (thread_of t)
SoundThread-at ks [] i t h lt is = absurd (omega arith)
SoundThread-at ks (u ∷ ts) zero t h lt is = subst (λ x. SoundThread ks (thread_of x)) (sym is) h.0
SoundThread-at ks (u ∷ ts) (suc i) t h lt is = SoundThread-at ks ts i t h.1 (omega arith) is

-- a tree has a node
pub nodes-some : (e : Tree) → 0 < nodes e
nodes-some (Const v m) = omega arith
nodes-some (Local i m) = omega arith
nodes-some (If c a b m) = omega arith
nodes-some (Do items m) = omega arith
nodes-some (Let values body m) = omega arith
nodes-some (Loop values body m) = omega arith
nodes-some (Recur values m) = omega arith
nodes-some (Core op args m) = omega arith
nodes-some (Call f args m) = omega arith
nodes-some (VectorOf items m) = omega arith
nodes-some (Println args m) = omega arith
nodes-some (Dosync body m) = omega arith
nodes-some (Look form cell m) = omega arith
nodes-some (Put form cell value m) = omega arith
nodes-some (Update form cell callee args m) = omega arith
nodes-some (Send cell callee args m) = omega arith
