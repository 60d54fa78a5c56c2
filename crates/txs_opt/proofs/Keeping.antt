-- Trees and functions that are no worse than others: for transactions alone or outside alone only where those are, pure where those
-- are, and of no more levels.
use Rattle.std.proofs.Common.{◌≡◌, ℕ, zero, suc, ◌≤◌, Bool, true, false, ◌||◌, ◌&&◌, List, [], ◌∷◌, ◌++◌, Option, Some, None, refl, sym, arith}
use Rattle.std.proofs.lemmas.Bool.{false≢true}
use Rattle.txs_value_data.specs.Places.{nth}
use Rattle.txs_value_cell.specs.Forms.{rule}
use Rattle.txs_value_cell.specs.declared.form.CellForm.TheVariants as form_of
use Rattle.txs_value_cell.specs.declared.form.LookForm.{LookForm}
use Rattle.txs_value_cell.specs.declared.form.PutForm.{PutForm}
use Rattle.txs_value_cell.specs.declared.form.UpdateForm.{UpdateForm}
use Rattle.txs_value_data.specs.declared.op.Op.{Op}
use Rattle.txs_value_data.specs.declared.op.Callee.{Callee}
use Rattle.txs_value_data.specs.declared.op.Callee.TheVariants.{Core as CoreOp, Function}
use Rattle.txs_value_data.specs.declared.value.Value.{Value}
use Rattle.txs_tree_meaning.proofs.Callable.{both}
use Rattle.txs_tree_meaning.specs.Known.{Known, only_inside, only_outside, is_inside, is_outside, is_pure, levels_of, callee_levels, inside_in, any_inside, outside_in, any_outside, pure_in, all_pure, levels, levels_in}
use Rattle.txs_tree_meaning.specs.Tree.{Mark, Tree, Const, Local, If, Do, Let, Loop, Recur, Core, Call, VectorOf, Println, Dosync, Look, Put, Update, Send, Trees, none, more}

pub neither : (a b : Bool) → (a || b) ≡ false → (a ≡ false) × (b ≡ false)
neither true b h = absurd (false≢true (sym h))
neither false b h = (refl, h)

pub nor : (a b : Bool) → a ≡ false → b ≡ false → (a || b) ≡ false
nor true b p q = p
nor false b p q = q

pub also : (a b : Bool) → a ≡ true → b ≡ true → (a && b) ≡ true
also true b p q = q
also false b p q = p

-- a function that is no worse than another
pub record Eases (k l : Known) : Type 0 where
  pub parameters : l.parameters ≡ k.parameters
  pub inside : k.inside ≡ false → l.inside ≡ false
  pub outside : k.outside ≡ false → l.outside ≡ false
  pub pure : k.pure ≡ true → l.pure ≡ true
  pub levels : l.levels ≤ k.levels

abbrev pub EasesAt : Option Known → Option Known → Type 0
EasesAt None None = Unit {0}
EasesAt None (Some l) = ⊥
EasesAt (Some k) None = ⊥
EasesAt (Some k) (Some l) = Eases k l

-- functions that are no worse than others, place by place
abbrev pub AllEase : List Known → List Known → Type 0
AllEase [] [] = Unit {0}
AllEase [] (l ∷ ls) = ⊥
AllEase (k ∷ ks) [] = ⊥
AllEase (k ∷ ks) (l ∷ ls) = Eases k l × AllEase ks ls

pub eases_at : (ks ls : List Known) → AllEase ks ls → (f : ℕ) → EasesAt (nth ks f) (nth ls f)
eases_at [] [] h f = tt
eases_at [] (l ∷ ls) h f = absurd h
eases_at (k ∷ ks) [] h f = absurd h
eases_at (k ∷ ks) (l ∷ ls) h zero = h.0
eases_at (k ∷ ks) (l ∷ ls) h (suc f) = eases_at ks ls h.1 f

pub all_ease_push : (ks ls : List Known) (k l : Known) → AllEase ks ls → Eases k l → AllEase (ks ++ k ∷ []) (ls ++ l ∷ [])
all_ease_push [] [] k l h one = (one, tt)
all_ease_push [] (y ∷ ls) k l h one = absurd h
all_ease_push (x ∷ ks) [] k l h one = absurd h
all_ease_push (x ∷ ks) (y ∷ ls) k l h one = (h.0, all_ease_push ks ls k l h.1 one)

pub inside_at : (o p : Option Known) → EasesAt o p → is_inside o ≡ false → is_inside p ≡ false
inside_at None None h e = e
inside_at None (Some l) h e = absurd h
inside_at (Some k) None h e = absurd h
inside_at (Some k) (Some l) h e = h.inside e

pub outside_at : (o p : Option Known) → EasesAt o p → is_outside o ≡ false → is_outside p ≡ false
outside_at None None h e = e
outside_at None (Some l) h e = absurd h
outside_at (Some k) None h e = absurd h
outside_at (Some k) (Some l) h e = h.outside e

pub pure_at : (o p : Option Known) → EasesAt o p → is_pure o ≡ true → is_pure p ≡ true
pure_at None None h e = e
pure_at None (Some l) h e = absurd h
pure_at (Some k) None h e = absurd h
pure_at (Some k) (Some l) h e = h.pure e

pub levels_at : (o p : Option Known) → EasesAt o p → levels_of p ≤ levels_of o
levels_at None None h = omega arith
levels_at None (Some l) h = absurd h
levels_at (Some k) None h = absurd h
levels_at (Some k) (Some l) h = h.levels

pub callee_at : (ks ls : List Known) → ((f : ℕ) → EasesAt (nth ks f) (nth ls f)) → (c : Callee) → callee_levels ls c ≤ callee_levels ks c
callee_at ks ls at (CoreOp op) = omega arith
callee_at ks ls at (Function f) = levels_at (nth ks f) (nth ls f) (at f)

module _ (ks ls : List Known) where
  -- a tree that is no worse than another
  pub record Kept (e e1 : Tree) : Type 0 where
    pub inside : inside_in ks e ≡ false → inside_in ls e1 ≡ false
    pub outside : outside_in ks e ≡ false → outside_in ls e1 ≡ false
    pub pure : pure_in ks e ≡ true → pure_in ls e1 ≡ true
    pub deep : levels ls e1 ≤ levels ks e

  -- trees that are no worse than others
  pub record AllKept (es es1 : Trees) : Type 0 where
    pub inside : any_inside ks es ≡ false → any_inside ls es1 ≡ false
    pub outside : any_outside ks es ≡ false → any_outside ls es1 ≡ false
    pub pure : all_pure ks es ≡ true → all_pure ls es1 ≡ true
    pub deep : levels_in ls es1 ≤ levels_in ks es

  pub none_kept : AllKept none none
  none_kept = record { inside = λ h. h; outside = λ h. h; pure = λ h. h; deep = omega arith }

  pub more_kept : (e e1 : Tree) (es es1 : Trees) → Kept e e1 → AllKept es es1 → AllKept (more e es) (more e1 es1)
  more_kept e e1 es es1 a b = record {
    inside = λ h. let p = neither (inside_in ks e) (any_inside ks es) h in nor (inside_in ls e1) (any_inside ls es1) (a.inside p.0) (b.inside p.1);
    outside = λ h. let p = neither (outside_in ks e) (any_outside ks es) h in nor (outside_in ls e1) (any_outside ls es1) (a.outside p.0) (b.outside p.1);
    pure = λ h. let p = both (pure_in ks e) (all_pure ks es) h in also (pure_in ls e1) (all_pure ls es1) (a.pure p.0) (b.pure p.1);
    deep = omega (arith, a.deep, b.deep);
  }

  -- an item of a Do may go
  pub less_kept : (e : Tree) (es es1 : Trees) → AllKept es es1 → AllKept (more e es) es1
  less_kept e es es1 b = record {
    inside = λ h. let p = neither (inside_in ks e) (any_inside ks es) h in b.inside p.1;
    outside = λ h. let p = neither (outside_in ks e) (any_outside ks es) h in b.outside p.1;
    pure = λ h. let p = both (pure_in ks e) (all_pure ks es) h in b.pure p.1;
    deep = omega (arith, b.deep);
  }

  module _ (m m1 : Mark) where
    pub const_kept : (v : Value) → Kept (Const v m) (Const v m1)
    const_kept v = record { inside = λ h. h; outside = λ h. h; pure = λ h. h; deep = omega arith }

    pub local_kept : (i j : ℕ) → Kept (Local i m) (Local j m1)
    local_kept i j = record { inside = λ h. h; outside = λ h. h; pure = λ h. h; deep = omega arith }

    pub if_kept : (c a b c1 a1 b1 : Tree) → Kept c c1 → Kept a a1 → Kept b b1 → Kept (If c a b m) (If c1 a1 b1 m1)
    if_kept c a b c1 a1 b1 x y z = record {
      inside = λ h.
          let p = neither (inside_in ks c) (inside_in ks a || inside_in ks b) h in
          let q = neither (inside_in ks a) (inside_in ks b) p.1 in
          nor (inside_in ls c1) (inside_in ls a1 || inside_in ls b1) (x.inside p.0) (nor (inside_in ls a1) (inside_in ls b1) (y.inside q.0) (z.inside q.1));
      outside = λ h.
          let p = neither (outside_in ks c) (outside_in ks a || outside_in ks b) h in
          let q = neither (outside_in ks a) (outside_in ks b) p.1 in
          nor (outside_in ls c1) (outside_in ls a1 || outside_in ls b1) (x.outside p.0) (nor (outside_in ls a1) (outside_in ls b1) (y.outside q.0) (z.outside q.1));
      pure = λ h.
          let p = both (pure_in ks c) (pure_in ks a && pure_in ks b) h in
          let q = both (pure_in ks a) (pure_in ks b) p.1 in
          also (pure_in ls c1) (pure_in ls a1 && pure_in ls b1) (x.pure p.0) (also (pure_in ls a1) (pure_in ls b1) (y.pure q.0) (z.pure q.1));
      deep = omega (arith, x.deep, y.deep, z.deep);
    }

    pub do_kept : (es es1 : Trees) → AllKept es es1 → Kept (Do es m) (Do es1 m1)
    do_kept es es1 a = record { inside = a.inside; outside = a.outside; pure = a.pure; deep = omega (arith, a.deep) }

    pub recur_kept : (es es1 : Trees) → AllKept es es1 → Kept (Recur es m) (Recur es1 m1)
    recur_kept es es1 a = record { inside = a.inside; outside = a.outside; pure = a.pure; deep = omega (arith, a.deep) }

    pub core_kept : (op : Op) (es es1 : Trees) → AllKept es es1 → Kept (Core op es m) (Core op es1 m1)
    core_kept op es es1 a = record { inside = a.inside; outside = a.outside; pure = a.pure; deep = omega (arith, a.deep) }

    pub vector_kept : (es es1 : Trees) → AllKept es es1 → Kept (VectorOf es m) (VectorOf es1 m1)
    vector_kept es es1 a = record { inside = a.inside; outside = a.outside; pure = a.pure; deep = omega (arith, a.deep) }

    pub println_kept : (es es1 : Trees) → AllKept es es1 → Kept (Println es m) (Println es1 m1)
    println_kept es es1 a = record { inside = a.inside; outside = λ h. h; pure = λ h. h; deep = omega (arith, a.deep) }

    pub dosync_kept : (e e1 : Tree) → Kept e e1 → Kept (Dosync e m) (Dosync e1 m1)
    dosync_kept e e1 a = record { inside = λ h. h; outside = a.outside; pure = λ h. h; deep = omega (arith, a.deep) }

    pub call_kept : (f : ℕ) (es es1 : Trees) → EasesAt (nth ks f) (nth ls f) → AllKept es es1 → Kept (Call f es m) (Call f es1 m1)
    call_kept f es es1 at a =
        record {
          inside = λ h. let p = neither (is_inside (nth ks f)) (any_inside ks es) h in nor (is_inside (nth ls f)) (any_inside ls es1) (inside_at (nth ks f) (nth ls f) at p.0) (a.inside p.1);
          outside = λ h. let p = neither (is_outside (nth ks f)) (any_outside ks es) h in nor (is_outside (nth ls f)) (any_outside ls es1) (outside_at (nth ks f) (nth ls f) at p.0) (a.outside p.1);
          pure = λ h. let p = both (is_pure (nth ks f)) (all_pure ks es) h in also (is_pure (nth ls f)) (all_pure ls es1) (pure_at (nth ks f) (nth ls f) at p.0) (a.pure p.1);
          deep = omega (arith, levels_at (nth ks f) (nth ls f) at, a.deep);
        }

    pub let_kept : (es es1 : Trees) (e e1 : Tree) → AllKept es es1 → Kept e e1 → Kept (Let es e m) (Let es1 e1 m1)
    let_kept es es1 e e1 a b = record {
      inside = λ h. let p = neither (any_inside ks es) (inside_in ks e) h in nor (any_inside ls es1) (inside_in ls e1) (a.inside p.0) (b.inside p.1);
      outside = λ h. let p = neither (any_outside ks es) (outside_in ks e) h in nor (any_outside ls es1) (outside_in ls e1) (a.outside p.0) (b.outside p.1);
      pure = λ h. let p = both (all_pure ks es) (pure_in ks e) h in also (all_pure ls es1) (pure_in ls e1) (a.pure p.0) (b.pure p.1);
      deep = omega (arith, a.deep, b.deep);
    }

    pub loop_kept : (es es1 : Trees) (e e1 : Tree) → AllKept es es1 → Kept e e1 → Kept (Loop es e m) (Loop es1 e1 m1)
    loop_kept es es1 e e1 a b = record {
      inside = λ h. let p = neither (any_inside ks es) (inside_in ks e) h in nor (any_inside ls es1) (inside_in ls e1) (a.inside p.0) (b.inside p.1);
      outside = λ h. let p = neither (any_outside ks es) (outside_in ks e) h in nor (any_outside ls es1) (outside_in ls e1) (a.outside p.0) (b.outside p.1);
      pure = λ h. let p = both (all_pure ks es) (pure_in ks e) h in also (all_pure ls es1) (pure_in ls e1) (a.pure p.0) (b.pure p.1);
      deep = omega (arith, a.deep, b.deep);
    }

    pub look_kept : (form : LookForm) (e e1 : Tree) → Kept e e1 → Kept (Look form e m) (Look form e1 m1)
    look_kept form e e1 a =
        let stands = (rule (form_of.Look form)).stands in
        record {
          inside = λ h. let p = neither (only_inside stands) (inside_in ks e) h in nor (only_inside stands) (inside_in ls e1) p.0 (a.inside p.1);
          outside = λ h. let p = neither (only_outside stands) (outside_in ks e) h in nor (only_outside stands) (outside_in ls e1) p.0 (a.outside p.1);
          pure = λ h. h;
          deep = omega (arith, a.deep);
        }

    pub put_kept : (form : PutForm) (e v e1 v1 : Tree) → Kept e e1 → Kept v v1 → Kept (Put form e v m) (Put form e1 v1 m1)
    put_kept form e v e1 v1 a b =
        let stands = (rule (form_of.Put form)).stands in
        record {
          inside = λ h.
              let p = neither (only_inside stands) (inside_in ks e || inside_in ks v) h in
              let q = neither (inside_in ks e) (inside_in ks v) p.1 in
              nor (only_inside stands) (inside_in ls e1 || inside_in ls v1) p.0 (nor (inside_in ls e1) (inside_in ls v1) (a.inside q.0) (b.inside q.1));
          outside = λ h.
              let p = neither (only_outside stands) (outside_in ks e || outside_in ks v) h in
              let q = neither (outside_in ks e) (outside_in ks v) p.1 in
              nor (only_outside stands) (outside_in ls e1 || outside_in ls v1) p.0 (nor (outside_in ls e1) (outside_in ls v1) (a.outside q.0) (b.outside q.1));
          pure = λ h. h;
          deep = omega (arith, a.deep, b.deep);
        }

    pub update_kept : (form : UpdateForm) (e e1 : Tree) (c : Callee) (es es1 : Trees) → callee_levels ls c ≤ callee_levels ks c → Kept e e1 → AllKept es es1 → Kept (Update form e c es m) (Update form e1 c es1 m1)
    update_kept form e e1 c es es1 at a b =
        let stands = (rule (form_of.Update form)).stands in
        record {
          inside = λ h.
              let p = neither (only_inside stands) (inside_in ks e || any_inside ks es) h in
              let q = neither (inside_in ks e) (any_inside ks es) p.1 in
              nor (only_inside stands) (inside_in ls e1 || any_inside ls es1) p.0 (nor (inside_in ls e1) (any_inside ls es1) (a.inside q.0) (b.inside q.1));
          outside = λ h.
              let p = neither (only_outside stands) (outside_in ks e || any_outside ks es) h in
              let q = neither (outside_in ks e) (any_outside ks es) p.1 in
              nor (only_outside stands) (outside_in ls e1 || any_outside ls es1) p.0 (nor (outside_in ls e1) (any_outside ls es1) (a.outside q.0) (b.outside q.1));
          pure = λ h. h;
          deep = omega (arith, at, a.deep, b.deep);
        }

    pub send_kept : (e e1 : Tree) (c : Callee) (es es1 : Trees) → callee_levels ls c ≤ callee_levels ks c → Kept e e1 → AllKept es es1 → Kept (Send e c es m) (Send e1 c es1 m1)
    send_kept e e1 c es es1 at a b = record {
      inside = λ h. let q = neither (inside_in ks e) (any_inside ks es) h in nor (inside_in ls e1) (any_inside ls es1) (a.inside q.0) (b.inside q.1);
      outside = λ h. let q = neither (outside_in ks e) (any_outside ks es) h in nor (outside_in ls e1) (any_outside ls es1) (a.outside q.0) (b.outside q.1);
      pure = λ h. h;
      deep = omega (arith, at, a.deep, b.deep);
    }

pub all_kept_trans : (ks ls ms : List Known) (e e1 e2 : Trees) → AllKept ks ls e e1 → AllKept ls ms e1 e2 → AllKept ks ms e e2
all_kept_trans ks ls ms e e1 e2 a b = record {
  inside = λ h. b.inside (a.inside h);
  outside = λ h. b.outside (a.outside h);
  pure = λ h. b.pure (a.pure h);
  deep = omega (arith, a.deep, b.deep);
}

pub eases_itself : (o : Option Known) → EasesAt o o
eases_itself None = tt
eases_itself (Some k) = record { parameters = refl; inside = λ h. h; outside = λ h. h; pure = λ h. h; levels = omega arith }
