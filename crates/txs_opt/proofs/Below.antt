-- Trees whose calls, and the callees of whose forms on cells, are all of some kind, as of functions before one of them, and which have
-- forms on cells only where that may be.
use Rattle.std.proofs.Common.{◌≡◌, ℕ, suc, ◌+◌, ◌<◌, ◌≤◌, Bool, true, false, ◌&&◌, List, length, Option, Some, None, refl}
use Rattle.txs_value_data.specs.Places.{nth}
use Rattle.txs_value_data.specs.declared.op.Callee.{Callee}
use Rattle.txs_value_data.specs.declared.op.Callee.TheVariants.{Core as CoreOp, Function}
use Rattle.std.proofs.lemmas.Bool.{false≢true}
use Rattle.txs_tree_meaning.specs.Known.{Known, is_pure, pure_in, all_pure}
use Rattle.txs_tree_meaning.specs.Scoped.{ScopedCallee, ScopedTree, ScopedAll, ScopedLet}
use Rattle.txs_tree_meaning.specs.Tree.{Mark, Tree, Const, Local, If, Do, Let, Loop, Recur, Core, Call, VectorOf, Println, Dosync, Look, Put, Update, Send, Trees, none, more, count, PlainFunction}
use Rattle.txs_tree_meaning.specs.Shift.{shifted, all_shifted}
use Rattle.txs_opt.specs.Inline.{bound, may_inline, opened, called, inlined, all_inlined, let_inlined}

-- which functions a tree calls and names, and what holds where it has a form whose values validators look at
pub record Kind : Type 1 where
  pub calls : ℕ → Type 0
  pub forms : Type 0

-- a callee of this kind: an operation, or such a function
abbrev pub Fine : Kind → Callee → Type 0
Fine May (CoreOp op) = Unit {0}
Fine May (Function f) = May.calls f

abbrev mutual
  pub Below : Kind → Tree → Type 0
  Below May (Const v m) = Unit {0}
  Below May (Local i m) = Unit {0}
  Below May (If c a b m) = Below May c × Below May a × Below May b
  Below May (Do es m) = AllBelow May es
  Below May (Let es body m) = AllBelow May es × Below May body
  Below May (Loop es body m) = AllBelow May es × Below May body
  Below May (Recur es m) = AllBelow May es
  Below May (Core op es m) = AllBelow May es
  Below May (Call f es m) = AllBelow May es × May.calls f
  Below May (VectorOf es m) = AllBelow May es
  Below May (Println es m) = AllBelow May es
  Below May (Dosync body m) = Below May body × May.forms
  Below May (Look form cell m) = Below May cell
  Below May (Put form cell value m) = Below May cell × Below May value × May.forms
  Below May (Update form cell callee es m) = Below May cell × AllBelow May es × Fine May callee × May.forms
  Below May (Send cell callee es m) = Below May cell × AllBelow May es

  pub AllBelow : Kind → Trees → Type 0
  AllBelow May none = Unit {0}
  AllBelow May (more e es) = Below May e × AllBelow May es

-- each function, and any form
abbrev pub Each : Kind
Each = record { calls = λ f. Unit {0}; forms = Unit {0} }

-- Where functions weigh so much: those that weigh less than d. Forms stand where d is no less than p, which is more than what each
-- validator weighs.
abbrev pub Lower : (ℕ → ℕ) → ℕ → ℕ → Kind
Lower weight p d = record { calls = λ f. weight f < d; forms = p ≤ d }

module _ (May : Kind) (all : (f : ℕ) → May.calls f) (here : May.forms) where
  pub all_fine : (callee : Callee) → Fine May callee
  all_fine (CoreOp op) = tt
  all_fine (Function f) = all f

  mutual
    -- where all functions are of the kind
    pub below_any : (e : Tree) → Below May e
    below_any (Const v m) = tt
    below_any (Local i m) = tt
    below_any (If c a b m) = (below_any c, below_any a, below_any b)
    below_any (Do es m) = all_below_any es
    below_any (Let es body m) = (all_below_any es, below_any body)
    below_any (Loop es body m) = (all_below_any es, below_any body)
    below_any (Recur es m) = all_below_any es
    below_any (Core op es m) = all_below_any es
    below_any (Call f es m) = (all_below_any es, all f)
    below_any (VectorOf es m) = all_below_any es
    below_any (Println es m) = all_below_any es
    below_any (Dosync body m) = (below_any body, here)
    below_any (Look form cell m) = below_any cell
    below_any (Put form cell value m) = (below_any cell, below_any value, here)
    below_any (Update form cell callee es m) = (below_any cell, all_below_any es, all_fine callee, here)
    below_any (Send cell callee es m) = (below_any cell, all_below_any es)

    pub all_below_any : (es : Trees) → AllBelow May es
    all_below_any none = tt
    all_below_any (more e es) = (below_any e, all_below_any es)

pub any_below : (e : Tree) → Below Each e
any_below e = below_any Each (λ f. tt) tt e

module _ (May Might : Kind) (more_may : (f : ℕ) → May.calls f → Might.calls f) where
  pub wider_fine : (callee : Callee) → Fine May callee → Fine Might callee
  wider_fine (CoreOp op) h = h
  wider_fine (Function f) h = more_may f h

  module _ (more_forms : May.forms → Might.forms) where
    mutual
      -- where the kind has more functions, and forms stand there too
      pub wider_below : (e : Tree) → Below May e → Below Might e
      wider_below (Const v m) h = tt
      wider_below (Local i m) h = tt
      wider_below (If c a b m) h = (wider_below c h.0, wider_below a h.1, wider_below b h.2)
      wider_below (Do es m) h = all_wider_below es h
      wider_below (Let es body m) h = (all_wider_below es h.0, wider_below body h.1)
      wider_below (Loop es body m) h = (all_wider_below es h.0, wider_below body h.1)
      wider_below (Recur es m) h = all_wider_below es h
      wider_below (Core op es m) h = all_wider_below es h
      wider_below (Call f es m) h = (all_wider_below es h.0, more_may f h.1)
      wider_below (VectorOf es m) h = all_wider_below es h
      wider_below (Println es m) h = all_wider_below es h
      wider_below (Dosync body m) h = (wider_below body h.0, more_forms h.1)
      wider_below (Look form cell m) h = wider_below cell h
      wider_below (Put form cell value m) h = (wider_below cell h.0, wider_below value h.1, more_forms h.2)
      wider_below (Update form cell callee es m) h = (wider_below cell h.0, all_wider_below es h.1, wider_fine callee h.2, more_forms h.3)
      wider_below (Send cell callee es m) h = (wider_below cell h.0, all_wider_below es h.1)

      all_wider_below : (es : Trees) → AllBelow May es → AllBelow Might es
      all_wider_below none h = tt
      all_wider_below (more e es) h = (wider_below e h.0, all_wider_below es h.1)

module _ (May : Kind) (c k : ℕ) where
  mutual
    -- where more locals come in
    pub shifted_below : (e : Tree) → Below May e → Below May (shifted c k e)
    shifted_below (Const v m) h = tt
    shifted_below (Local i m) h = tt
    shifted_below (If t a b m) h = (shifted_below t h.0, shifted_below a h.1, shifted_below b h.2)
    shifted_below (Do es m) h = all_shifted_below es h
    shifted_below (Let es body m) h = (all_shifted_below es h.0, shifted_below body h.1)
    shifted_below (Loop es body m) h = (all_shifted_below es h.0, shifted_below body h.1)
    shifted_below (Recur es m) h = all_shifted_below es h
    shifted_below (Core op es m) h = all_shifted_below es h
    shifted_below (Call f es m) h = (all_shifted_below es h.0, h.1)
    shifted_below (VectorOf es m) h = all_shifted_below es h
    shifted_below (Println es m) h = all_shifted_below es h
    shifted_below (Dosync body m) h = (shifted_below body h.0, h.1)
    shifted_below (Look form cell m) h = shifted_below cell h
    shifted_below (Put form cell value m) h = (shifted_below cell h.0, shifted_below value h.1, h.2)
    shifted_below (Update form cell callee es m) h = (shifted_below cell h.0, all_shifted_below es h.1, h.2, h.3)
    shifted_below (Send cell callee es m) h = (shifted_below cell h.0, all_shifted_below es h.1)

    all_shifted_below : (es : Trees) → AllBelow May es → AllBelow May (all_shifted c k es)
    all_shifted_below none h = tt
    all_shifted_below (more e es) h = (shifted_below e h.0, all_shifted_below es h.1)

pub bound_below : (May : Kind) (d j : ℕ) (es : Trees) → AllBelow May es → AllBelow May (bound d j es)
bound_below May d j none h = tt
bound_below May d j (more e es) h = (shifted_below May d j e h.0, bound_below May d (suc j) es h.1)

-- with calls inlined, where the bodies of the functions of the kind are so
module _ (May : Kind) (fs : List PlainFunction) (bodies : (f : ℕ) (fun : PlainFunction) → nth fs f ≡ Some fun → May.calls f → Below May fun.body) where
  called_below : (f d budget : ℕ) (es : Trees) (m : Mark) → May.calls f → AllBelow May es → Below May (called (nth fs f) d f es m budget).tree
  called_below f d budget es m may h = go (nth fs f) refl
    where
      test : (fun : PlainFunction) → nth fs f ≡ Some fun → (b : Bool) → Below May (opened b d f fun es m budget).tree
      test fun found true = (bound_below May d 0 es h, shifted_below May 0 d fun.body (bodies f fun found may))
      test fun found false = (h, may)

      go : (o : Option PlainFunction) → nth fs f ≡ o → Below May (called o d f es m budget).tree
      go None found = (h, may)
      go (Some fun) found = test fun found (may_inline d fun es m budget)

  mutual
    pub inlined_below : (d budget : ℕ) (e : Tree) → Below May e → Below May (inlined fs d budget e).tree
    inlined_below d budget (Const v m) h = tt
    inlined_below d budget (Local i m) h = tt
    inlined_below d budget (If c a b m) h =
        let x = inlined fs d budget c in
        let y = inlined fs d x.budget a in
        (inlined_below d budget c h.0, inlined_below d x.budget a h.1, inlined_below d y.budget b h.2)
    inlined_below d budget (Do es m) h = all_inlined_below d budget es h
    inlined_below d budget (Let es body m) h = (let_inlined_below d budget es h.0, inlined_below (d + count es) (let_inlined fs d budget es).budget body h.1)
    inlined_below d budget (Loop es body m) h = (let_inlined_below d budget es h.0, inlined_below (d + count es) (let_inlined fs d budget es).budget body h.1)
    inlined_below d budget (Recur es m) h = all_inlined_below d budget es h
    inlined_below d budget (Core op es m) h = all_inlined_below d budget es h
    inlined_below d budget (Call f es m) h =
        let x = all_inlined fs d budget es in
        called_below f d x.budget x.trees m h.1 (all_inlined_below d budget es h.0)
    inlined_below d budget (VectorOf es m) h = all_inlined_below d budget es h
    inlined_below d budget (Println es m) h = all_inlined_below d budget es h
    inlined_below d budget (Dosync body m) h = (inlined_below d budget body h.0, h.1)
    inlined_below d budget (Look form cell m) h = inlined_below d budget cell h
    inlined_below d budget (Put form cell value m) h =
        let x = inlined fs d budget cell in
        (inlined_below d budget cell h.0, inlined_below d x.budget value h.1, h.2)
    inlined_below d budget (Update form cell callee es m) h =
        let x = inlined fs d budget cell in
        (inlined_below d budget cell h.0, all_inlined_below d x.budget es h.1, h.2, h.3)
    inlined_below d budget (Send cell callee es m) h =
        let x = inlined fs d budget cell in
        (inlined_below d budget cell h.0, all_inlined_below d x.budget es h.1)

    pub all_inlined_below : (d budget : ℕ) (es : Trees) → AllBelow May es → AllBelow May (all_inlined fs d budget es).trees
    all_inlined_below d budget none h = tt
    all_inlined_below d budget (more e es) h = (inlined_below d budget e h.0, all_inlined_below d (inlined fs d budget e).budget es h.1)

    let_inlined_below : (d budget : ℕ) (es : Trees) → AllBelow May es → AllBelow May (let_inlined fs d budget es).trees
    let_inlined_below d budget none h = tt
    let_inlined_below d budget (more e es) h = (inlined_below d budget e h.0, let_inlined_below (d + 1) (inlined fs d budget e).budget es h.1)

-- a scoped tree calls functions that are defined
module _ (ks : List Known) where
  abbrev pub Defined : Kind
  Defined = record { calls = λ f. f < length ks; forms = Unit {0} }

  scoped_fine : (callee : Callee) → ScopedCallee ks callee → Fine Defined callee
  scoped_fine (CoreOp op) h = h
  scoped_fine (Function f) h = h

  mutual
    pub scoped_below : (e : Tree) (d : ℕ) → ScopedTree ks d e → Below Defined e
    scoped_below (Const v m) d h = tt
    scoped_below (Local i m) d h = tt
    scoped_below (If c a b m) d h = (scoped_below c d h.0, scoped_below a d h.1, scoped_below b d h.2)
    scoped_below (Do es m) d h = all_scoped_below es d h.1
    scoped_below (Let es body m) d h = (let_scoped_below es d h.0, scoped_below body (d + count es) h.1)
    scoped_below (Loop es body m) d h = (let_scoped_below es d h.0, scoped_below body (d + count es) h.1)
    scoped_below (Recur es m) d h = all_scoped_below es d h
    scoped_below (Core op es m) d h = all_scoped_below es d h.1
    scoped_below (Call f es m) d h = (all_scoped_below es d h.1, h.0)
    scoped_below (VectorOf es m) d h = all_scoped_below es d h.1
    scoped_below (Println es m) d h = all_scoped_below es d h.1
    scoped_below (Dosync body m) d h = (scoped_below body d h, tt)
    scoped_below (Look form cell m) d h = scoped_below cell d h
    scoped_below (Put form cell value m) d h = (scoped_below cell d h.0, scoped_below value d h.1, tt)
    scoped_below (Update form cell callee es m) d h = (scoped_below cell d h.0, all_scoped_below es d h.3, scoped_fine callee h.1, tt)
    scoped_below (Send cell callee es m) d h = (scoped_below cell d h.0, all_scoped_below es d h.3)

    all_scoped_below : (es : Trees) (d : ℕ) → ScopedAll ks d es → AllBelow Defined es
    all_scoped_below none d h = tt
    all_scoped_below (more e es) d h = (scoped_below e d h.0, all_scoped_below es d h.1)

    let_scoped_below : (es : Trees) (d : ℕ) → ScopedLet ks d es → AllBelow Defined es
    let_scoped_below none d h = tt
    let_scoped_below (more e es) d h = (scoped_below e d h.0, let_scoped_below es (d + 1) h.1)

both_first : (a b : Bool) → (a && b) ≡ true → a ≡ true
both_first true b e = refl
both_first false b e = absurd (false≢true e)

both_second : (a b : Bool) → (a && b) ≡ true → b ≡ true
both_second true b e = e
both_second false b e = absurd (false≢true e)

-- a pure tree calls pure functions, and has no form on cells
module _ (ks : List Known) where
  abbrev pub Pure : Kind
  Pure = record { calls = λ f. is_pure (nth ks f) ≡ true; forms = ⊥ }

  mutual
    pub pure_below : (e : Tree) → pure_in ks e ≡ true → Below Pure e
    pure_below (Const v m) h = tt
    pure_below (Local i m) h = tt
    pure_below (If c a b m) h =
        let rest = both_second (pure_in ks c) (pure_in ks a && pure_in ks b) h in
        (pure_below c (both_first (pure_in ks c) (pure_in ks a && pure_in ks b) h), pure_below a (both_first (pure_in ks a) (pure_in ks b) rest), pure_below b (both_second (pure_in ks a) (pure_in ks b) rest))
    pure_below (Do es m) h = all_pure_below es h
    pure_below (Let es body m) h = (all_pure_below es (both_first (all_pure ks es) (pure_in ks body) h), pure_below body (both_second (all_pure ks es) (pure_in ks body) h))
    pure_below (Loop es body m) h = (all_pure_below es (both_first (all_pure ks es) (pure_in ks body) h), pure_below body (both_second (all_pure ks es) (pure_in ks body) h))
    pure_below (Recur es m) h = all_pure_below es h
    pure_below (Core op es m) h = all_pure_below es h
    pure_below (Call f es m) h = (all_pure_below es (both_second (is_pure (nth ks f)) (all_pure ks es) h), both_first (is_pure (nth ks f)) (all_pure ks es) h)
    pure_below (VectorOf es m) h = all_pure_below es h
    pure_below (Println es m) h = absurd (false≢true h)
    pure_below (Dosync body m) h = absurd (false≢true h)
    pure_below (Look form cell m) h = absurd (false≢true h)
    pure_below (Put form cell value m) h = absurd (false≢true h)
    pure_below (Update form cell callee es m) h = absurd (false≢true h)
    pure_below (Send cell callee es m) h = absurd (false≢true h)

    all_pure_below : (es : Trees) → all_pure ks es ≡ true → AllBelow Pure es
    all_pure_below none h = tt
    all_pure_below (more e es) h = (pure_below e (both_first (pure_in ks e) (all_pure ks es) h), all_pure_below es (both_second (pure_in ks e) (all_pure ks es) h))
