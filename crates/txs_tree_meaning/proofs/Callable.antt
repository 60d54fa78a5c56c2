-- What is sound of a function's body where more functions may be called, in a transaction or outside.
use Rattle.std.proofs.Common.{◌≡◌, ℕ, zero, suc, ◌+◌, ◌<◌, Bool, true, false, ◌||◌, ◌&&◌, List, [], ◌∷◌, ◌++◌, Option, Some, None, length, take, get_or, refl, sym, ap, ◌∙◌, subst, append_assoc, length-append, arith}
use Rattle.std.proofs.Math.Seq.{take-append_seam}
use Rattle.std.proofs.lemmas.Bool.{false≢true}
use Rattle.std.proofs.lemmas.List.{append-nil}
use Rattle.txs_value_cell.specs.Forms.{rule}
use Rattle.txs_value_data.specs.Places.{nth}
use Rattle.txs_value_cell.specs.declared.form.CellForm.TheVariants as form_of
use Rattle.txs_value_cell.specs.declared.form.Standing.{Standing}
use Rattle.txs_value_cell.specs.declared.form.Standing.TheVariants.{Anywhere, Inside, Outside}
use Rattle.txs_value_data.specs.declared.op.Callee.{Callee}
use Rattle.txs_value_data.specs.declared.op.Callee.TheVariants.{Core as CoreOp, Function}
use Rattle.txs_tree_meaning.specs.Known.{Known, only_inside, only_outside, is_inside, is_outside, is_pure, inside_in, outside_in, any_inside, any_outside, pure_in, all_pure, known_of, known_from, known}
use Rattle.txs_tree_meaning.specs.Sound.{Zone, in_function, in_thread, in_dosync, MayStand, SoundCall, SoundCallee, SoundSent, SoundTree, SoundAll, SoundDo, SoundLet, SoundFunction, SoundFunctions}
use Rattle.txs_tree_meaning.specs.Tree.{Tree, Const, Local, If, Do, Let, Loop, Recur, Core, Call, VectorOf, Println, Dosync, Look, Put, Update, Send, Trees, none, more, count, PlainFunction}
use Rattle.txs_tree_meaning.specs.View.{function_of, functions_of}
use Rattle.txs_tree_meaning.specs.declared.node.Function as function

-- ---- truth values

neither : (a b : Bool) → (a || b) ≡ false → (a ≡ false) × (b ≡ false)
neither true b h = absurd (false≢true (sym h))
neither false b h = (refl, h)

nor : (a b : Bool) → a ≡ false → b ≡ false → (a || b) ≡ false
nor true b p q = p
nor false b p q = q

pub both : (a b : Bool) → (a && b) ≡ true → (a ≡ true) × (b ≡ true)
both true b h = (refl, h)
both false b h = absurd (false≢true h)

-- ---- places of lists

abbrev IsSome : {A : Type 0} → Option A → Type 0
IsSome None = ⊥
IsSome (Some a) = Unit {0}

pub missing : {A : Type 0} (a : A) → None ≡ Some a → ⊥
missing a h = subst IsSome (sym h) tt

abbrev or_else : {A : Type 0} → A → Option A → A
or_else a None = a
or_else a (Some b) = b

pub same_some : {A : Type 0} (a b : A) → Some a ≡ Some b → a ≡ b
same_some a b h = ap (or_else a) h

pub nth-length : {A : Type 0} (xs : List A) (i : ℕ) (x : A) → nth xs i ≡ Some x → i < length xs
nth-length [] i x h = absurd (missing x h)
nth-length (y ∷ ys) zero x h = omega arith
nth-length (y ∷ ys) (suc i) x h = omega (arith, nth-length ys i x h)

nth-seam : {A : Type 0} (xs : List A) (y : A) (ys : List A) → nth (xs ++ y ∷ ys) (length xs) ≡ Some y
nth-seam [] y ys = refl
nth-seam (x ∷ xs) y ys = nth-seam xs y ys

-- what stands in the first items stands in the whole
pub nth-take : {A : Type 0} (n : ℕ) (xs : List A) (i : ℕ) (x : A) → nth (take n xs) i ≡ Some x → (i < n) × (nth xs i ≡ Some x)
nth-take zero [] i x h = absurd (missing x h)
nth-take zero (y ∷ ys) i x h = absurd (missing x h)
nth-take (suc n) [] i x h = absurd (missing x h)
nth-take (suc n) (y ∷ ys) zero x h = (omega arith, h)
nth-take (suc n) (y ∷ ys) (suc i) x h =
    let there = nth-take n ys i x h in
    (omega (arith, there.0), there.1)

pub nth-before : {A : Type 0} (n : ℕ) (xs : List A) (i : ℕ) (x : A) → i < n → nth xs i ≡ Some x → nth (take n xs) i ≡ Some x
nth-before zero xs i x lt h = absurd (omega (arith, lt))
nth-before (suc n) [] i x lt h = absurd (missing x h)
nth-before (suc n) (y ∷ ys) zero x lt h = h
nth-before (suc n) (y ∷ ys) (suc i) x lt h = nth-before n ys i x (omega (arith, lt)) h

-- ---- where more functions are defined

module _ (ks ls : List Known) (grows : (f : ℕ) (k : Known) → nth ks f ≡ Some k → nth ls f ≡ Some k) where
  call-widened : (zone : Zone) (f n : ℕ) → SoundCall ks zone f n → SoundCall ls zone f n
  call-widened zone f n h = record { function = h.function; found = grows f h.function h.found; arity = h.arity; zoned = h.zoned }

  pub callee-widened : (callee : Callee) (n : ℕ) → SoundCallee ks callee n → SoundCallee ls callee n
  callee-widened (CoreOp op) n h = h
  callee-widened (Function f) n h = record { function = h.function; found = grows f h.function h.found; arity = h.arity; pure = h.pure }

  pub sent-widened : (callee : Callee) (n : ℕ) → SoundSent ks callee n → SoundSent ls callee n
  sent-widened (CoreOp op) n h = h
  sent-widened (Function f) n h = record { function = h.function; found = grows f h.function h.found; arity = h.arity; zoned = h.zoned }

  mutual
    pub tree-widened : (e : Tree) (zone : Zone) (d : ℕ) (tail : Option ℕ) → SoundTree ks zone d tail e → SoundTree ls zone d tail e
    tree-widened (Const v m) zone d tail h = h
    tree-widened (Local i m) zone d tail h = h
    tree-widened (If c a b m) zone d tail h = (tree-widened c zone d None h.0, tree-widened a zone d tail h.1, tree-widened b zone d tail h.2)
    tree-widened (Do items m) zone d tail h = do-widened items zone d tail h
    tree-widened (Let values body m) zone d tail h = (let-widened values zone d h.0, tree-widened body zone (d + count values) tail h.1)
    tree-widened (Loop values body m) zone d tail h = (let-widened values zone d h.0, tree-widened body zone (d + count values) (Some (count values)) h.1)
    tree-widened (Recur values m) zone d tail h = (h.0, all-widened values zone d h.1)
    tree-widened (Core op args m) zone d tail h = (h.0, all-widened args zone d h.1)
    tree-widened (Call f args m) zone d tail h = (call-widened zone f (count args) h.0, all-widened args zone d h.1)
    tree-widened (VectorOf items m) zone d tail h = (h.0, all-widened items zone d h.1)
    tree-widened (Println args m) zone d tail h = (h.0, h.1, all-widened args zone d h.2)
    tree-widened (Dosync body m) zone d tail h = tree-widened body in_dosync d None h
    tree-widened (Look form cell m) zone d tail h = (h.0, tree-widened cell zone d None h.1)
    tree-widened (Put form cell value m) zone d tail h = (h.0, tree-widened cell zone d None h.1, tree-widened value zone d None h.2)
    tree-widened (Update form cell callee args m) zone d tail h =
        (h.0, tree-widened cell zone d None h.1, callee-widened callee (suc (count args)) h.2, all-widened args zone d h.3)
    tree-widened (Send cell callee args m) zone d tail h =
        (tree-widened cell zone d None h.0, sent-widened callee (suc (count args)) h.1, all-widened args zone d h.2)

    all-widened : (es : Trees) (zone : Zone) (d : ℕ) → SoundAll ks zone d es → SoundAll ls zone d es
    all-widened none zone d h = h
    all-widened (more e rest) zone d h = (tree-widened e zone d None h.0, all-widened rest zone d h.1)

    let-widened : (es : Trees) (zone : Zone) (d : ℕ) → SoundLet ks zone d es → SoundLet ls zone d es
    let-widened none zone d h = h
    let-widened (more e rest) zone d h = (tree-widened e zone d None h.0, let-widened rest zone (d + 1) h.1)

    do-widened : (es : Trees) (zone : Zone) (d : ℕ) (tail : Option ℕ) → SoundDo ks zone d tail es → SoundDo ls zone d tail es
    do-widened none zone d tail h = h
    do-widened (more e none) zone d tail h = tree-widened e zone d tail h
    do-widened (more e (more f rest)) zone d tail h = (tree-widened e zone d None h.0, do-widened (more f rest) zone d tail h.1)

-- ---- a body that isn't for transactions alone may run outside

stands-outside : (s : Standing) → only_inside s ≡ false → MayStand in_thread s
stands-outside Anywhere out = tt
stands-outside Inside out = absurd (false≢true (sym out))
stands-outside Outside out = tt

module _ (ks : List Known) where
  mutual
    pub tree-outside : (e : Tree) (d : ℕ) (tail : Option ℕ) → SoundTree ks in_function d tail e → inside_in ks e ≡ false → SoundTree ks in_thread d tail e
    tree-outside (Const v m) d tail h out = h
    tree-outside (Local i m) d tail h out = h
    tree-outside (If c a b m) d tail h out =
        let test = neither (inside_in ks c) (inside_in ks a || inside_in ks b) out in
        let branches = neither (inside_in ks a) (inside_in ks b) test.1 in
        (tree-outside c d None h.0 test.0, tree-outside a d tail h.1 branches.0, tree-outside b d tail h.2 branches.1)
    tree-outside (Do items m) d tail h out = do-outside items d tail h out
    tree-outside (Let values body m) d tail h out =
        let parts = neither (any_inside ks values) (inside_in ks body) out in
        (let-outside values d h.0 parts.0, tree-outside body (d + count values) tail h.1 parts.1)
    tree-outside (Loop values body m) d tail h out =
        let parts = neither (any_inside ks values) (inside_in ks body) out in
        (let-outside values d h.0 parts.0, tree-outside body (d + count values) (Some (count values)) h.1 parts.1)
    tree-outside (Recur values m) d tail h out = (h.0, all-outside values d h.1 out)
    tree-outside (Core op args m) d tail h out = (h.0, all-outside args d h.1 out)
    tree-outside (Call f args m) d tail h out =
        let parts = neither (is_inside (nth ks f)) (any_inside ks args) out in
        let call = h.0 in
        (record { function = call.function; found = call.found; arity = call.arity; zoned = sym (ap is_inside call.found) ∙ parts.0 }, all-outside args d h.1 parts.1)
    tree-outside (VectorOf items m) d tail h out = (h.0, all-outside items d h.1 out)
    tree-outside (Println args m) d tail h out = (tt, h.1, all-outside args d h.2 out)
    tree-outside (Dosync body m) d tail h out = h
    tree-outside (Look form cell m) d tail h out =
        let stands = (rule (form_of.Look form)).stands in
        let parts = neither (only_inside stands) (inside_in ks cell) out in
        (stands-outside stands parts.0, tree-outside cell d None h.1 parts.1)
    tree-outside (Put form cell value m) d tail h out =
        let stands = (rule (form_of.Put form)).stands in
        let parts = neither (only_inside stands) (inside_in ks cell || inside_in ks value) out in
        let operands = neither (inside_in ks cell) (inside_in ks value) parts.1 in
        (stands-outside stands parts.0, tree-outside cell d None h.1 operands.0, tree-outside value d None h.2 operands.1)
    tree-outside (Update form cell callee args m) d tail h out =
        let stands = (rule (form_of.Update form)).stands in
        let parts = neither (only_inside stands) (inside_in ks cell || any_inside ks args) out in
        let operands = neither (inside_in ks cell) (any_inside ks args) parts.1 in
        (stands-outside stands parts.0, tree-outside cell d None h.1 operands.0, h.2, all-outside args d h.3 operands.1)
    tree-outside (Send cell callee args m) d tail h out =
        let operands = neither (inside_in ks cell) (any_inside ks args) out in
        (tree-outside cell d None h.0 operands.0, h.1, all-outside args d h.2 operands.1)

    all-outside : (es : Trees) (d : ℕ) → SoundAll ks in_function d es → any_inside ks es ≡ false → SoundAll ks in_thread d es
    all-outside none d h out = h
    all-outside (more e rest) d h out =
        let parts = neither (inside_in ks e) (any_inside ks rest) out in
        (tree-outside e d None h.0 parts.0, all-outside rest d h.1 parts.1)

    let-outside : (es : Trees) (d : ℕ) → SoundLet ks in_function d es → any_inside ks es ≡ false → SoundLet ks in_thread d es
    let-outside none d h out = h
    let-outside (more e rest) d h out =
        let parts = neither (inside_in ks e) (any_inside ks rest) out in
        (tree-outside e d None h.0 parts.0, let-outside rest (d + 1) h.1 parts.1)

    do-outside : (es : Trees) (d : ℕ) (tail : Option ℕ) → SoundDo ks in_function d tail es → any_inside ks es ≡ false → SoundDo ks in_thread d tail es
    do-outside none d tail h out = h
    do-outside (more e none) d tail h out = tree-outside e d tail h (neither (inside_in ks e) false out).0
    do-outside (more e (more f rest)) d tail h out =
        let parts = neither (inside_in ks e) (any_inside ks (more f rest)) out in
        (tree-outside e d None h.0 parts.0, do-outside (more f rest) d tail h.1 parts.1)

-- ---- a body that isn't for outside alone may run in a transaction

stands-inside : (s : Standing) → only_outside s ≡ false → MayStand in_dosync s
stands-inside Anywhere out = tt
stands-inside Inside out = tt
stands-inside Outside out = absurd (false≢true (sym out))

module _ (ks : List Known) where
  mutual
    pub tree-inside : (e : Tree) (d : ℕ) (tail : Option ℕ) → SoundTree ks in_function d tail e → outside_in ks e ≡ false → SoundTree ks in_dosync d tail e
    tree-inside (Const v m) d tail h out = h
    tree-inside (Local i m) d tail h out = h
    tree-inside (If c a b m) d tail h out =
        let test = neither (outside_in ks c) (outside_in ks a || outside_in ks b) out in
        let branches = neither (outside_in ks a) (outside_in ks b) test.1 in
        (tree-inside c d None h.0 test.0, tree-inside a d tail h.1 branches.0, tree-inside b d tail h.2 branches.1)
    tree-inside (Do items m) d tail h out = do-inside items d tail h out
    tree-inside (Let values body m) d tail h out =
        let parts = neither (any_outside ks values) (outside_in ks body) out in
        (let-inside values d h.0 parts.0, tree-inside body (d + count values) tail h.1 parts.1)
    tree-inside (Loop values body m) d tail h out =
        let parts = neither (any_outside ks values) (outside_in ks body) out in
        (let-inside values d h.0 parts.0, tree-inside body (d + count values) (Some (count values)) h.1 parts.1)
    tree-inside (Recur values m) d tail h out = (h.0, all-inside values d h.1 out)
    tree-inside (Core op args m) d tail h out = (h.0, all-inside args d h.1 out)
    tree-inside (Call f args m) d tail h out =
        let parts = neither (is_outside (nth ks f)) (any_outside ks args) out in
        let call = h.0 in
        (record { function = call.function; found = call.found; arity = call.arity; zoned = sym (ap is_outside call.found) ∙ parts.0 }, all-inside args d h.1 parts.1)
    tree-inside (VectorOf items m) d tail h out = (h.0, all-inside items d h.1 out)
    tree-inside (Println args m) d tail h out = absurd (false≢true (sym out))
    tree-inside (Dosync body m) d tail h out = h
    tree-inside (Look form cell m) d tail h out =
        let stands = (rule (form_of.Look form)).stands in
        let parts = neither (only_outside stands) (outside_in ks cell) out in
        (stands-inside stands parts.0, tree-inside cell d None h.1 parts.1)
    tree-inside (Put form cell value m) d tail h out =
        let stands = (rule (form_of.Put form)).stands in
        let parts = neither (only_outside stands) (outside_in ks cell || outside_in ks value) out in
        let operands = neither (outside_in ks cell) (outside_in ks value) parts.1 in
        (stands-inside stands parts.0, tree-inside cell d None h.1 operands.0, tree-inside value d None h.2 operands.1)
    tree-inside (Update form cell callee args m) d tail h out =
        let stands = (rule (form_of.Update form)).stands in
        let parts = neither (only_outside stands) (outside_in ks cell || any_outside ks args) out in
        let operands = neither (outside_in ks cell) (any_outside ks args) parts.1 in
        (stands-inside stands parts.0, tree-inside cell d None h.1 operands.0, h.2, all-inside args d h.3 operands.1)
    tree-inside (Send cell callee args m) d tail h out =
        let operands = neither (outside_in ks cell) (any_outside ks args) out in
        (tree-inside cell d None h.0 operands.0, h.1, all-inside args d h.2 operands.1)

    all-inside : (es : Trees) (d : ℕ) → SoundAll ks in_function d es → any_outside ks es ≡ false → SoundAll ks in_dosync d es
    all-inside none d h out = h
    all-inside (more e rest) d h out =
        let parts = neither (outside_in ks e) (any_outside ks rest) out in
        (tree-inside e d None h.0 parts.0, all-inside rest d h.1 parts.1)

    let-inside : (es : Trees) (d : ℕ) → SoundLet ks in_function d es → any_outside ks es ≡ false → SoundLet ks in_dosync d es
    let-inside none d h out = h
    let-inside (more e rest) d h out =
        let parts = neither (outside_in ks e) (any_outside ks rest) out in
        (tree-inside e d None h.0 parts.0, let-inside rest (d + 1) h.1 parts.1)

    do-inside : (es : Trees) (d : ℕ) (tail : Option ℕ) → SoundDo ks in_function d tail es → any_outside ks es ≡ false → SoundDo ks in_dosync d tail es
    do-inside none d tail h out = h
    do-inside (more e none) d tail h out = tree-inside e d tail h (neither (outside_in ks e) false out).0
    do-inside (more e (more f rest)) d tail h out =
        let parts = neither (outside_in ks e) (any_outside ks (more f rest)) out in
        (tree-inside e d None h.0 parts.0, do-inside (more f rest) d tail h.1 parts.1)

-- ---- a pure body isn't for transactions alone

abbrev Tame : Known → Type 0
Tame k = k.pure ≡ true → k.inside ≡ false

abbrev AllTame : List Known → Type 0
AllTame [] = Unit {0}
AllTame (k ∷ ks) = Tame k × AllTame ks

AllTame-push : (ks : List Known) (k : Known) → AllTame ks → Tame k → AllTame (ks ++ k ∷ [])
AllTame-push [] k all one = (one, tt)
AllTame-push (l ∷ ks) k all one = (all.0, AllTame-push ks k all.1 one)

module _ where
  call-tame : (ks : List Known) (f : ℕ) → AllTame ks → is_pure (nth ks f) ≡ true → is_inside (nth ks f) ≡ false
  call-tame [] f all pure = refl
  call-tame (k ∷ ks) zero all pure = all.0 pure
  call-tame (k ∷ ks) (suc f) all pure = call-tame ks f all.1 pure

module _ (ks : List Known) (all : AllTame ks) where
  mutual
    tree-tame : (e : Tree) → pure_in ks e ≡ true → inside_in ks e ≡ false
    tree-tame (Const v m) pure = refl
    tree-tame (Local i m) pure = refl
    tree-tame (If c a b m) pure =
        let test = both (pure_in ks c) (pure_in ks a && pure_in ks b) pure in
        let branches = both (pure_in ks a) (pure_in ks b) test.1 in
        nor (inside_in ks c) (inside_in ks a || inside_in ks b) (tree-tame c test.0) (nor (inside_in ks a) (inside_in ks b) (tree-tame a branches.0) (tree-tame b branches.1))
    tree-tame (Do items m) pure = all-tame items pure
    tree-tame (Let values body m) pure =
        let parts = both (all_pure ks values) (pure_in ks body) pure in
        nor (any_inside ks values) (inside_in ks body) (all-tame values parts.0) (tree-tame body parts.1)
    tree-tame (Loop values body m) pure =
        let parts = both (all_pure ks values) (pure_in ks body) pure in
        nor (any_inside ks values) (inside_in ks body) (all-tame values parts.0) (tree-tame body parts.1)
    tree-tame (Recur values m) pure = all-tame values pure
    tree-tame (Core op args m) pure = all-tame args pure
    tree-tame (Call f args m) pure =
        let parts = both (is_pure (nth ks f)) (all_pure ks args) pure in
        nor (is_inside (nth ks f)) (any_inside ks args) (call-tame ks f all parts.0) (all-tame args parts.1)
    tree-tame (VectorOf items m) pure = all-tame items pure
    tree-tame (Println args m) pure = absurd (false≢true pure)
    tree-tame (Dosync body m) pure = absurd (false≢true pure)
    tree-tame (Look form cell m) pure = absurd (false≢true pure)
    tree-tame (Put form cell value m) pure = absurd (false≢true pure)
    tree-tame (Update form cell callee args m) pure = absurd (false≢true pure)
    tree-tame (Send cell callee args m) pure = absurd (false≢true pure)

    all-tame : (es : Trees) → all_pure ks es ≡ true → any_inside ks es ≡ false
    all-tame none pure = refl
    all-tame (more e rest) pure =
        let parts = both (pure_in ks e) (all_pure ks rest) pure in
        nor (inside_in ks e) (any_inside ks rest) (tree-tame e parts.0) (all-tame rest parts.1)

known-tame : (ks : List Known) (fs : List PlainFunction) → AllTame ks → AllTame (known_from ks fs)
known-tame ks [] all = all
known-tame ks (f ∷ fs) all = known-tame (ks ++ known_of ks f ∷ []) fs (AllTame-push ks (known_of ks f) all (tree-tame ks all f.body))

pub pure_outside : (fs : List PlainFunction) (f : ℕ) → is_pure (nth (known fs) f) ≡ true → is_inside (nth (known fs) f) ≡ false
pure_outside fs f pure = call-tame (known fs) f (known-tame [] fs tt) pure

-- ---- nor is it for outside alone

abbrev Free : Known → Type 0
Free k = k.pure ≡ true → k.outside ≡ false

abbrev AllFree : List Known → Type 0
AllFree [] = Unit {0}
AllFree (k ∷ ks) = Free k × AllFree ks

AllFree-push : (ks : List Known) (k : Known) → AllFree ks → Free k → AllFree (ks ++ k ∷ [])
AllFree-push [] k all one = (one, tt)
AllFree-push (l ∷ ks) k all one = (all.0, AllFree-push ks k all.1 one)

module _ where
  call-free : (ks : List Known) (f : ℕ) → AllFree ks → is_pure (nth ks f) ≡ true → is_outside (nth ks f) ≡ false
  call-free [] f all pure = refl
  call-free (k ∷ ks) zero all pure = all.0 pure
  call-free (k ∷ ks) (suc f) all pure = call-free ks f all.1 pure

module _ (ks : List Known) (all : AllFree ks) where
  mutual
    tree-free : (e : Tree) → pure_in ks e ≡ true → outside_in ks e ≡ false
    tree-free (Const v m) pure = refl
    tree-free (Local i m) pure = refl
    tree-free (If c a b m) pure =
        let test = both (pure_in ks c) (pure_in ks a && pure_in ks b) pure in
        let branches = both (pure_in ks a) (pure_in ks b) test.1 in
        nor (outside_in ks c) (outside_in ks a || outside_in ks b) (tree-free c test.0) (nor (outside_in ks a) (outside_in ks b) (tree-free a branches.0) (tree-free b branches.1))
    tree-free (Do items m) pure = all-free items pure
    tree-free (Let values body m) pure =
        let parts = both (all_pure ks values) (pure_in ks body) pure in
        nor (any_outside ks values) (outside_in ks body) (all-free values parts.0) (tree-free body parts.1)
    tree-free (Loop values body m) pure =
        let parts = both (all_pure ks values) (pure_in ks body) pure in
        nor (any_outside ks values) (outside_in ks body) (all-free values parts.0) (tree-free body parts.1)
    tree-free (Recur values m) pure = all-free values pure
    tree-free (Core op args m) pure = all-free args pure
    tree-free (Call f args m) pure =
        let parts = both (is_pure (nth ks f)) (all_pure ks args) pure in
        nor (is_outside (nth ks f)) (any_outside ks args) (call-free ks f all parts.0) (all-free args parts.1)
    tree-free (VectorOf items m) pure = all-free items pure
    tree-free (Println args m) pure = absurd (false≢true pure)
    tree-free (Dosync body m) pure = absurd (false≢true pure)
    tree-free (Look form cell m) pure = absurd (false≢true pure)
    tree-free (Put form cell value m) pure = absurd (false≢true pure)
    tree-free (Update form cell callee args m) pure = absurd (false≢true pure)
    tree-free (Send cell callee args m) pure = absurd (false≢true pure)

    all-free : (es : Trees) → all_pure ks es ≡ true → any_outside ks es ≡ false
    all-free none pure = refl
    all-free (more e rest) pure =
        let parts = both (pure_in ks e) (all_pure ks rest) pure in
        nor (outside_in ks e) (any_outside ks rest) (tree-free e parts.0) (all-free rest parts.1)

known-free : (ks : List Known) (fs : List PlainFunction) → AllFree ks → AllFree (known_from ks fs)
known-free ks [] all = all
known-free ks (f ∷ fs) all = known-free (ks ++ known_of ks f ∷ []) fs (AllFree-push ks (known_of ks f) all (tree-free ks all f.body))

pub pure_inside : (fs : List PlainFunction) (f : ℕ) → is_pure (nth (known fs) f) ≡ true → is_outside (nth (known fs) f) ≡ false
pure_inside fs f pure = call-free (known fs) f (known-free [] fs tt) pure

-- ---- what is known of a function stands at its place

abbrev later : List Known → List PlainFunction → List Known
later ks [] = []
later ks (f ∷ fs) = known_of ks f ∷ later (ks ++ known_of ks f ∷ []) fs

known_from-is : (ks : List Known) (fs : List PlainFunction) → known_from ks fs ≡ ks ++ later ks fs
known_from-is ks [] = sym (append-nil ks)
known_from-is ks (f ∷ fs) = known_from-is (ks ++ known_of ks f ∷ []) fs ∙ append_assoc ks (known_of ks f ∷ []) (later (ks ++ known_of ks f ∷ []) fs)

length-known_from : (ks : List Known) (fs : List PlainFunction) → length (known_from ks fs) ≡ length ks + length fs
length-known_from ks [] = omega arith
length-known_from ks (f ∷ fs) = omega (arith, length-known_from (ks ++ known_of ks f ∷ []) fs, length-append ks (known_of ks f ∷ []))

pub length-known : (fs : List PlainFunction) → length (known fs) ≡ length fs
length-known fs = omega (arith, length-known_from [] fs)

-- the functions before it are all that a function's body rests on
abbrev pub FunctionAt : List Known → ℕ → PlainFunction → List Known → Type 0
FunctionAt all f fun before = (nth all f ≡ Some (known_of before fun)) × SoundFunction before fun

function_from : (fs : List PlainFunction) (ks : List Known) (f i : ℕ) (fun : PlainFunction) → SoundFunctions ks fs → f ≡ length ks + i → nth fs i ≡ Some fun → FunctionAt (known_from ks fs) f fun (take f (known_from ks fs))
function_from [] ks f i fun sound place found = absurd (missing fun found)
function_from (g ∷ fs) ks f zero fun sound place found =
    let rest = later (ks ++ known_of ks g ∷ []) fs in
    let here : f ≡ length ks = omega (arith, place) in
    let same : g ≡ fun = same_some g fun found in
    let seam : nth (ks ++ known_of ks g ∷ rest) (length ks) ≡ Some (known_of ks g) = nth-seam ks (known_of ks g) rest in
    let parts : FunctionAt (ks ++ known_of ks g ∷ rest) (length ks) fun ks = subst (λ x. FunctionAt (ks ++ known_of ks g ∷ rest) (length ks) x ks) same (seam, sound.0) in
    let before : take (length ks) (ks ++ known_of ks g ∷ rest) ≡ ks = take-append_seam ks (known_of ks g ∷ rest) in
    let there : FunctionAt (ks ++ known_of ks g ∷ rest) (length ks) fun (take (length ks) (ks ++ known_of ks g ∷ rest)) = subst (λ l. FunctionAt (ks ++ known_of ks g ∷ rest) (length ks) fun l) (sym before) parts in
    let whole = subst (λ l. FunctionAt l (length ks) fun (take (length ks) l)) (sym (known_from-is ks (g ∷ fs))) there in
    subst (λ k. FunctionAt (known_from ks (g ∷ fs)) k fun (take k (known_from ks (g ∷ fs)))) (sym here) whole
function_from (g ∷ fs) ks f (suc i) fun sound place found =
    function_from fs (ks ++ known_of ks g ∷ []) f i fun sound.1 (omega (arith, place, length-append ks (known_of ks g ∷ []))) found

pub function_at : (fs : List PlainFunction) (f : ℕ) (fun : PlainFunction) → SoundFunctions [] fs → nth fs f ≡ Some fun → FunctionAt (known fs) f fun (take f (known fs))
function_at fs f fun sound found = function_from fs [] f f fun sound (omega arith) found

pub length-functions_of : (fs : List function.Function) → length (functions_of fs) ≡ length fs
length-functions_of [] = refl
length-functions_of (f ∷ fs) = ap suc (length-functions_of fs)

pub functions_of-at : (fs : List function.Function) (i : ℕ) (f : function.Function) → i < length fs → f ≡ get_or fs i f → nth (functions_of fs) i ≡ Some (function_of f)
functions_of-at [] i f lt is = absurd (omega (arith, lt))
functions_of-at (g ∷ fs) zero f lt is = ap (λ x. Some (function_of x)) (sym is)
functions_of-at (g ∷ fs) (suc i) f lt is = functions_of-at fs i f (omega (arith, lt)) is
