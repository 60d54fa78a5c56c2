-- A tree in which no locals come in is the tree.
use Rattle.std.proofs.Common.{◌≡◌, ℕ, ◌+◌, nat_lt, Bool, true, false, if◌then◌else◌, refl, ap, arith}
use Rattle.txs_tree_meaning.specs.Tree.{Tree, Const, Local, If, Do, Let, Loop, Recur, Core, Call, VectorOf, Println, Dosync, Look, Put, Update, Send, Trees, none, more}
use Rattle.txs_tree_meaning.specs.Shift.{shifted, all_shifted}

same_number : (i : ℕ) (b : Bool) → (if b then i else i + 0) ≡ i
same_number i true = refl
same_number i false = omega arith

module _ (c : ℕ) where
  mutual
    pub unshifted : (e : Tree) → shifted c 0 e ≡ e
    unshifted (Const v m) = refl
    unshifted (Local i m) = ap (λ j. Local j m) (same_number i (nat_lt i c))
    unshifted (If t a b m) =
        let p = unshifted t in
        let q = unshifted a in
        let r = unshifted b in
        cc
    unshifted (Do es m) = ap (λ x. Do x m) (all_unshifted es)
    unshifted (Let es body m) =
        let p = all_unshifted es in
        let q = unshifted body in
        cc
    unshifted (Loop es body m) =
        let p = all_unshifted es in
        let q = unshifted body in
        cc
    unshifted (Recur es m) = ap (λ x. Recur x m) (all_unshifted es)
    unshifted (Core op es m) = ap (λ x. Core op x m) (all_unshifted es)
    unshifted (Call f es m) = ap (λ x. Call f x m) (all_unshifted es)
    unshifted (VectorOf es m) = ap (λ x. VectorOf x m) (all_unshifted es)
    unshifted (Println es m) = ap (λ x. Println x m) (all_unshifted es)
    unshifted (Dosync body m) = ap (λ x. Dosync x m) (unshifted body)
    unshifted (Look form cell m) = ap (λ x. Look form x m) (unshifted cell)
    unshifted (Put form cell value m) =
        let p = unshifted cell in
        let q = unshifted value in
        cc
    unshifted (Update form cell callee es m) =
        let p = unshifted cell in
        let q = all_unshifted es in
        cc
    unshifted (Send cell callee es m) =
        let p = unshifted cell in
        let q = all_unshifted es in
        cc

    all_unshifted : (es : Trees) → all_shifted c 0 es ≡ es
    all_unshifted none = refl
    all_unshifted (more e es) =
        let p = unshifted e in
        let q = all_unshifted es in
        cc
