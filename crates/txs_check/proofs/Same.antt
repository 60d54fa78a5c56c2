-- What is said of a tree rests on the functions that it names alone, and not on how deep they are.
use Rattle.std.proofs.Common.{◌≡◌, ℕ, zero, suc, ◌+◌, ◌<◌, ◌&&◌, ◌||◌, true, List, [], ◌∷◌, ◌++◌, length, Option, Some, None, refl, sym, ap, ◌∙◌, append_assoc, arith}
use Rattle.std.proofs.lemmas.List.{append-nil, map-append}
use Rattle.txs_value_cell.specs.Forms.{rule}
use Rattle.txs_value_data.specs.Places.{nth}
use Rattle.txs_value_data.specs.declared.fault.Span.{Span}
use Rattle.txs_value_cell.specs.declared.form.CellForm.TheVariants as form_of
use Rattle.txs_value_cell.specs.declared.form.Standing.TheVariants.{Outside}
use Rattle.txs_value_data.specs.declared.op.Callee.{Callee}
use Rattle.txs_value_data.specs.declared.op.Callee.TheVariants.{Core as CoreOp, Function}
use Rattle.txs_tree_meaning.specs.Known.{Known, only_inside, only_outside, is_inside, is_outside, is_pure, inside_in, any_inside, outside_in, any_outside, pure_in, all_pure, known_of, known_from}
use Rattle.txs_tree_meaning.specs.Scoped.{ScopedTree, ScopedAll, ScopedLet, ScopedCallee}
use Rattle.txs_tree_meaning.specs.Tree.{Tree, Const, Local, If, Do, Let, Loop, Recur, Core, Call, VectorOf, Println, Dosync, Look, Put, Update, Send, Trees, none, more, count, PlainFunction}
use Rattle.txs_check.specs.declared.class.Class.{Class}
use Rattle.txs_check.specs.declared.class.Signature.{Signature}
use Rattle.txs_check.specs.declared.error.CheckErrorKind.TheVariants.{Arity, NotPure}
use Rattle.txs_check.specs.declared.place.Target.{Target}
use Rattle.txs_check.specs.declared.place.Target.TheVariants.{Nearest}
use Rattle.txs_check.specs.declared.place.Zone.{Zone}
use Rattle.txs_check.specs.declared.place.Zone.TheVariants.{InFunction, InFuture, InDosync}
use Rattle.txs_check.specs.Refused.{◌>>◌, only, inner, across, operates, recurs, accepts, zoned, calls, called, sent, sent_zoned, placed, formed, turned_in, in_turn, checked, checked_all, checked_do, validates, Checkable, of_body, of_validator, checked_one, checked_each}
use Rattle.txs_check.specs.Signatures.{bare_one, bare, class_in, known_row, known_as}

abbrev pub signature : ℕ → Class → Signature
signature n class = record { parameters = n; class = class }

abbrev pub bare_if : Option Known → Option Known
bare_if None = None
bare_if (Some k) = Some (bare_one k)

pub nth_bare : (ks : List Known) (f : ℕ) → nth (bare ks) f ≡ bare_if (nth ks f)
nth_bare [] f = refl
nth_bare (k ∷ ks) zero = refl
nth_bare (k ∷ ks) (suc f) = nth_bare ks f

inside_bare : (o : Option Known) → is_inside (bare_if o) ≡ is_inside o
inside_bare None = refl
inside_bare (Some k) = refl

outside_bare : (o : Option Known) → is_outside (bare_if o) ≡ is_outside o
outside_bare None = refl
outside_bare (Some k) = refl

pure_bare : (o : Option Known) → is_pure (bare_if o) ≡ is_pure o
pure_bare None = refl
pure_bare (Some k) = refl

accepts_bare : (o : Option Known) (n : ℕ) → accepts (bare_if o) n ≡ accepts o n
accepts_bare None n = refl
accepts_bare (Some k) n = refl

zoned_bare : (z : Zone) (o : Option Known) (at : Span) → zoned z (bare_if o) at ≡ zoned z o at
zoned_bare z None at = refl
zoned_bare InFunction (Some k) at = refl
zoned_bare InFuture (Some k) at = refl
zoned_bare InDosync (Some k) at = refl

sent_zoned_bare : (o : Option Known) (at : Span) → sent_zoned (bare_if o) at ≡ sent_zoned o at
sent_zoned_bare None at = refl
sent_zoned_bare (Some k) at = refl

module _ (ks ls : List Known) (same : bare ls ≡ bare ks) where
  at : (f : ℕ) → bare_if (nth ls f) ≡ bare_if (nth ks f)
  at f = sym (nth_bare ls f) ∙ ap (λ l. nth l f) same ∙ nth_bare ks f

  inside_at : (f : ℕ) → is_inside (nth ls f) ≡ is_inside (nth ks f)
  inside_at f = sym (inside_bare (nth ls f)) ∙ ap is_inside (at f) ∙ inside_bare (nth ks f)

  outside_at : (f : ℕ) → is_outside (nth ls f) ≡ is_outside (nth ks f)
  outside_at f = sym (outside_bare (nth ls f)) ∙ ap is_outside (at f) ∙ outside_bare (nth ks f)

  pure_at : (f : ℕ) → is_pure (nth ls f) ≡ is_pure (nth ks f)
  pure_at f = sym (pure_bare (nth ls f)) ∙ ap is_pure (at f) ∙ pure_bare (nth ks f)

  accepts_at : (f n : ℕ) → accepts (nth ls f) n ≡ accepts (nth ks f) n
  accepts_at f n = sym (accepts_bare (nth ls f) n) ∙ ap (λ o. accepts o n) (at f) ∙ accepts_bare (nth ks f) n

  zoned_at : (z : Zone) (f : ℕ) (s : Span) → zoned z (nth ls f) s ≡ zoned z (nth ks f) s
  zoned_at z f s = sym (zoned_bare z (nth ls f) s) ∙ ap (λ o. zoned z o s) (at f) ∙ zoned_bare z (nth ks f) s

  sent_zoned_at : (f : ℕ) (s : Span) → sent_zoned (nth ls f) s ≡ sent_zoned (nth ks f) s
  sent_zoned_at f s = sym (sent_zoned_bare (nth ls f) s) ∙ ap (λ o. sent_zoned o s) (at f) ∙ sent_zoned_bare (nth ks f) s

  mutual
    pub inside_same : (e : Tree) → inside_in ls e ≡ inside_in ks e
    inside_same (Const v m) = refl
    inside_same (Local i m) = refl
    inside_same (If c a b m) = λ i. inside_same c i || (inside_same a i || inside_same b i)
    inside_same (Do items m) = any_inside_same items
    inside_same (Let values body m) = λ i. any_inside_same values i || inside_same body i
    inside_same (Loop values body m) = λ i. any_inside_same values i || inside_same body i
    inside_same (Recur values m) = any_inside_same values
    inside_same (Core op args m) = any_inside_same args
    inside_same (Call f args m) = λ i. inside_at f i || any_inside_same args i
    inside_same (VectorOf items m) = any_inside_same items
    inside_same (Println args m) = any_inside_same args
    inside_same (Dosync body m) = refl
    inside_same (Look form cell m) = λ i. only_inside (rule (form_of.Look form)).stands || inside_same cell i
    inside_same (Put form cell value m) = λ i. only_inside (rule (form_of.Put form)).stands || (inside_same cell i || inside_same value i)
    inside_same (Update form cell callee args m) = λ i. only_inside (rule (form_of.Update form)).stands || (inside_same cell i || any_inside_same args i)
    inside_same (Send cell callee args m) = λ i. inside_same cell i || any_inside_same args i

    pub any_inside_same : (es : Trees) → any_inside ls es ≡ any_inside ks es
    any_inside_same none = refl
    any_inside_same (more e rest) = λ i. inside_same e i || any_inside_same rest i

  mutual
    pub outside_same : (e : Tree) → outside_in ls e ≡ outside_in ks e
    outside_same (Const v m) = refl
    outside_same (Local i m) = refl
    outside_same (If c a b m) = λ i. outside_same c i || (outside_same a i || outside_same b i)
    outside_same (Do items m) = any_outside_same items
    outside_same (Let values body m) = λ i. any_outside_same values i || outside_same body i
    outside_same (Loop values body m) = λ i. any_outside_same values i || outside_same body i
    outside_same (Recur values m) = any_outside_same values
    outside_same (Core op args m) = any_outside_same args
    outside_same (Call f args m) = λ i. outside_at f i || any_outside_same args i
    outside_same (VectorOf items m) = any_outside_same items
    outside_same (Println args m) = refl
    outside_same (Dosync body m) = outside_same body
    outside_same (Look form cell m) = λ i. only_outside (rule (form_of.Look form)).stands || outside_same cell i
    outside_same (Put form cell value m) = λ i. only_outside (rule (form_of.Put form)).stands || (outside_same cell i || outside_same value i)
    outside_same (Update form cell callee args m) = λ i. only_outside (rule (form_of.Update form)).stands || (outside_same cell i || any_outside_same args i)
    outside_same (Send cell callee args m) = λ i. outside_same cell i || any_outside_same args i

    pub any_outside_same : (es : Trees) → any_outside ls es ≡ any_outside ks es
    any_outside_same none = refl
    any_outside_same (more e rest) = λ i. outside_same e i || any_outside_same rest i

  mutual
    pub pure_same : (e : Tree) → pure_in ls e ≡ pure_in ks e
    pure_same (Const v m) = refl
    pure_same (Local i m) = refl
    pure_same (If c a b m) = λ i. pure_same c i && (pure_same a i && pure_same b i)
    pure_same (Do items m) = all_pure_same items
    pure_same (Let values body m) = λ i. all_pure_same values i && pure_same body i
    pure_same (Loop values body m) = λ i. all_pure_same values i && pure_same body i
    pure_same (Recur values m) = all_pure_same values
    pure_same (Core op args m) = all_pure_same args
    pure_same (Call f args m) = λ i. pure_at f i && all_pure_same args i
    pure_same (VectorOf items m) = all_pure_same items
    pure_same (Println args m) = refl
    pure_same (Dosync body m) = refl
    pure_same (Look form cell m) = refl
    pure_same (Put form cell value m) = refl
    pure_same (Update form cell callee args m) = refl
    pure_same (Send cell callee args m) = refl

    pub all_pure_same : (es : Trees) → all_pure ls es ≡ all_pure ks es
    all_pure_same none = refl
    all_pure_same (more e rest) = λ i. pure_same e i && all_pure_same rest i

  calls_same : (z : Zone) (f n : ℕ) (s : Span) → calls ls z f n s ≡ calls ks z f n s
  calls_same z f n s = λ i. only (accepts_at f n i) Arity s >> zoned_at z f s i

  called_same : (c : Callee) (n : ℕ) (s : Span) → called ls c n s ≡ called ks c n s
  called_same (CoreOp op) n s = refl
  called_same (Function f) n s = λ i. only (accepts_at f n i) Arity s >> only (pure_at f i) NotPure s

  sent_same : (c : Callee) (n : ℕ) (s : Span) → sent ls c n s ≡ sent ks c n s
  sent_same (CoreOp op) n s = refl
  sent_same (Function f) n s = λ i. only (accepts_at f n i) Arity s >> sent_zoned_at f s i

  mutual
    pub checked_same : (z : Zone) (t : Target) (e : Tree) → checked ls z t e ≡ checked ks z t e
    checked_same z t (Const v m) = refl
    checked_same z t (Local i m) = refl
    checked_same z t (If c a b m) = λ i. checked_same z (inner t) c i >> in_turn (turned_in m a b) (checked_same z t a i) (checked_same z t b i)
    checked_same z t (Do items m) = do_same z t items
    checked_same z t (Let values body m) = λ i. all_same z (inner t) values i >> checked_same z t body i
    checked_same z t (Loop values body m) = λ i. all_same z (inner t) values i >> checked_same z (Nearest (count values) true) body i
    checked_same z t (Recur values m) = λ i. recurs t (count values) m.span >> all_same z (inner t) values i
    checked_same z t (Core op args m) = λ i. operates op (count args) m.span >> all_same z (inner t) args i
    checked_same z t (Call f args m) = λ i. calls_same z f (count args) m.span i >> all_same z (inner t) args i
    checked_same z t (VectorOf items m) = all_same z (inner t) items
    checked_same z t (Println args m) = λ i. placed z Outside m.span >> all_same z (inner t) args i
    checked_same z t (Dosync body m) = checked_same InDosync (across t) body
    checked_same z t (Look form cell m) = λ i. formed z (form_of.Look form) m.span >> checked_same z (inner t) cell i
    checked_same z t (Put form cell value m) = λ i. formed z (form_of.Put form) m.span >> (checked_same z (inner t) cell i >> checked_same z (inner t) value i)
    checked_same z t (Update form cell callee args m) = λ i. (called_same callee (suc (count args)) m.span i >> formed z (form_of.Update form) m.span) >> (checked_same z (inner t) cell i >> all_same z (inner t) args i)
    checked_same z t (Send cell callee args m) = λ i. (sent_same callee (suc (count args)) m.span i >> formed z form_of.Send m.span) >> (checked_same z (inner t) cell i >> all_same z (inner t) args i)

    pub all_same : (z : Zone) (t : Target) (es : Trees) → checked_all ls z t es ≡ checked_all ks z t es
    all_same z t none = refl
    all_same z t (more e rest) = λ i. checked_same z t e i >> all_same z t rest i

    pub do_same : (z : Zone) (t : Target) (es : Trees) → checked_do ls z t es ≡ checked_do ks z t es
    do_same z t none = refl
    do_same z t (more e none) = checked_same z t e
    do_same z t (more e (more f rest)) = λ i. checked_same z (inner t) e i >> do_same z t (more f rest) i

  validates_same : (o : Option Callee) (s : Span) → validates ls o s ≡ validates ks o s
  validates_same None s = refl
  validates_same (Some c) s = called_same c 1 s

  one_same : (c : Checkable) → checked_one ls c ≡ checked_one ks c
  one_same (of_body b) = checked_same b.zone b.target b.tree
  one_same (of_validator v) = validates_same v.callee v.span

  pub each_same : (cs : List Checkable) → checked_each ls cs ≡ checked_each ks cs
  each_same [] = refl
  each_same (c ∷ cs) = λ i. one_same c i >> each_same cs i

  pub known_same : (f : PlainFunction) → bare_one (known_of ls f) ≡ bare_one (known_of ks f)
  known_same f = λ i. record { parameters = f.parameters; inside = inside_same f.body i; outside = outside_same f.body i; pure = pure_same f.body i; levels = 0 }

-- further functions, after functions of which as much is known
pub from_same : (ks ls : List Known) (fs : List PlainFunction) → bare ls ≡ bare ks → bare (known_from ls fs) ≡ bare (known_from ks fs)
from_same ks ls [] same = same
from_same ks ls (f ∷ fs) same =
    from_same (ks ++ known_of ks f ∷ []) (ls ++ known_of ls f ∷ []) fs
    (map-append bare_one ls (known_of ls f ∷ []) ∙ (λ i. same i ++ known_same ks ls same f i ∷ []) ∙ sym (map-append bare_one ks (known_of ks f ∷ [])))

-- functions that come later change nothing
nth_front : (ks ms : List Known) (f : ℕ) → f < length ks → nth (ks ++ ms) f ≡ nth ks f
nth_front [] ms f lt = absurd (omega (arith, lt))
nth_front (k ∷ ks) ms zero lt = refl
nth_front (k ∷ ks) ms (suc f) lt = nth_front ks ms f (omega (arith, lt))

module _ (ks ms : List Known) where
  front : (f : ℕ) → f < length ks → nth (ks ++ ms) f ≡ nth ks f
  front f lt = nth_front ks ms f lt

  called_front : (c : Callee) (n : ℕ) (s : Span) → ScopedCallee ks c → called (ks ++ ms) c n s ≡ called ks c n s
  called_front (CoreOp op) n s lt = refl
  called_front (Function f) n s lt = ap (λ o. only (accepts o n) Arity s >> only (is_pure o) NotPure s) (front f lt)

  sent_front : (c : Callee) (n : ℕ) (at : Span) → ScopedCallee ks c → sent (ks ++ ms) c n at ≡ sent ks c n at
  sent_front (CoreOp op) n at s = refl
  sent_front (Function f) n at s = λ i. only (accepts (front f s i) n) Arity at >> sent_zoned (front f s i) at

  mutual
    pub checked_front : (z : Zone) (t : Target) (d : ℕ) (e : Tree) → ScopedTree ks d e → checked (ks ++ ms) z t e ≡ checked ks z t e
    checked_front z t d (Const v m) s = refl
    checked_front z t d (Local i m) s = refl
    checked_front z t d (If c a b m) s = λ i. checked_front z (inner t) d c s.0 i >> in_turn (turned_in m a b) (checked_front z t d a s.1 i) (checked_front z t d b s.2 i)
    checked_front z t d (Do items m) s = do_front z t d items s.1
    checked_front z t d (Let values body m) s = λ i. let_front z (inner t) d values s.0 i >> checked_front z t (d + count values) body s.1 i
    checked_front z t d (Loop values body m) s = λ i. let_front z (inner t) d values s.0 i >> checked_front z (Nearest (count values) true) (d + count values) body s.1 i
    checked_front z t d (Recur values m) s = λ i. recurs t (count values) m.span >> all_front z (inner t) d values s i
    checked_front z t d (Core op args m) s = λ i. operates op (count args) m.span >> all_front z (inner t) d args s.1 i
    checked_front z t d (Call f args m) s = λ i. (only (accepts (front f s.0 i) (count args)) Arity m.span >> zoned z (front f s.0 i) m.span) >> all_front z (inner t) d args s.1 i
    checked_front z t d (VectorOf items m) s = all_front z (inner t) d items s.1
    checked_front z t d (Println args m) s = λ i. placed z Outside m.span >> all_front z (inner t) d args s.1 i
    checked_front z t d (Dosync body m) s = checked_front InDosync (across t) d body s
    checked_front z t d (Look form cell m) s = λ i. formed z (form_of.Look form) m.span >> checked_front z (inner t) d cell s i
    checked_front z t d (Put form cell value m) s = λ i. formed z (form_of.Put form) m.span >> (checked_front z (inner t) d cell s.0 i >> checked_front z (inner t) d value s.1 i)
    checked_front z t d (Update form cell callee args m) s = λ i. (called_front callee (suc (count args)) m.span s.1 i >> formed z (form_of.Update form) m.span) >> (checked_front z (inner t) d cell s.0 i >> all_front z (inner t) d args s.3 i)
    checked_front z t d (Send cell callee args m) s = λ i. (sent_front callee (suc (count args)) m.span s.1 i >> formed z form_of.Send m.span) >> (checked_front z (inner t) d cell s.0 i >> all_front z (inner t) d args s.3 i)

    all_front : (z : Zone) (t : Target) (d : ℕ) (es : Trees) → ScopedAll ks d es → checked_all (ks ++ ms) z t es ≡ checked_all ks z t es
    all_front z t d none s = refl
    all_front z t d (more e rest) s = λ i. checked_front z t d e s.0 i >> all_front z t d rest s.1 i

    let_front : (z : Zone) (t : Target) (d : ℕ) (es : Trees) → ScopedLet ks d es → checked_all (ks ++ ms) z t es ≡ checked_all ks z t es
    let_front z t d none s = refl
    let_front z t d (more e rest) s = λ i. checked_front z t d e s.0 i >> let_front z t (d + 1) rest s.1 i

    do_front : (z : Zone) (t : Target) (d : ℕ) (es : Trees) → ScopedAll ks d es → checked_do (ks ++ ms) z t es ≡ checked_do ks z t es
    do_front z t d none s = refl
    do_front z t d (more e none) s = checked_front z t d e s.0
    do_front z t d (more e (more f rest)) s = λ i. checked_front z (inner t) d e s.0 i >> do_front z t d (more f rest) s.1 i

-- all functions are those so far, and later ones
pub known_front : (ks : List Known) (fs : List PlainFunction) → (ms : List Known) × (known_from ks fs ≡ ks ++ ms)
known_front ks [] = ([], sym (append-nil ks))
known_front ks (f ∷ fs) =
    let k = known_of ks f in
    let r = known_front (ks ++ k ∷ []) fs in
    (k ∷ r.0, r.1 ∙ append_assoc ks (k ∷ []) r.0)

-- one more row of the table, which says what is known of the function
pub row_same : (ss : List Signature) (f : PlainFunction) (class : Class) → class ≡ class_in (known_as ss) f.body →
    bare (known_as (ss ++ signature f.parameters class ∷ [])) ≡ bare (known_as ss ++ known_of (known_as ss) f ∷ [])
row_same ss f class same =
    let ks = known_as ss in
    ap bare (map-append known_row ss (signature f.parameters class ∷ []))
    ∙ map-append bare_one ks (known_row (signature f.parameters class) ∷ [])
    ∙ ap (λ x. bare ks ++ bare_one (known_row (signature f.parameters x)) ∷ []) same
    ∙ sym (map-append bare_one ks (known_of ks f ∷ []))
