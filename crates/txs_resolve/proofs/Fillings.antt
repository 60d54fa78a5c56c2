-- What the nodes of a form's parts are put together to.
use Rattle.std.proofs.Common.{◌≡◌, ◌<◌, ◌≤◌, ◌+◌, ◌-◌, ◌||◌, ℕ, zero, suc, Bool, true, false, List, [], ◌∷◌, ◌++◌, Result, Ok, Err, if◌then◌else◌, cond, length, map, nat_lt, refl, sym, ap, ◌∙◌, subst, arith, Bor}
use Rattle.std.proofs.lemmas.Bool.Decides.{nat_tests}
use Rattle.txs_value_data.specs.declared.fault.Span.{Span}
use Rattle.txs_value_data.specs.declared.op.Callee.{Callee}
use Rattle.txs_reader.specs.declared.form.Form.{Form}
use Rattle.txs_reader.specs.Tree.{PlainForm as FormTree, first, place, tree, parts}
use Rattle.txs_reader.specs.Tree.{none as no_forms}
use Rattle.txs_tree_meaning.specs.Tree.{Tree, Trees, Mark, Let, Put, more, none, Core as CoreNode}
use Rattle.txs_tree_meaning.specs.View.{tree_of}
use Rattle.txs_tree_meaning.specs.declared.node.Node.{Node}
use Rattle.txs_resolve_expand.specs.declared.names.FormName.TheVariants as kind
use Rattle.txs_resolve_expand.specs.Scope.{Scope, may_bind, with_local}
use Rattle.txs_resolve_expand.specs.declared.error.ResolveError.{ResolveError}
use Rattle.txs_resolve_expand.specs.declared.error.ResolveErrorKind.TheVariants.{TooMany}
use Rattle.txs_resolve.specs.declared.nodes.Nodes.{Nodes}
use Rattle.txs_resolve_expand.specs.declared.shapes.Change.{Change}
use Rattle.txs_resolve_expand.specs.declared.shapes.Couple.{Couple}
use Rattle.txs_resolve_expand.specs.declared.shapes.Couple.TheVariants as couple
use Rattle.txs_resolve_expand.specs.declared.shapes.Sequence.{Sequence}
use Rattle.txs_resolve_expand.specs.declared.shapes.Single.{Single}
use Rattle.txs_resolve_expand.specs.declared.shapes.Spot.{Spot}
use Rattle.txs_resolve_expand.specs.declared.parts.Part.{Part}
use Rattle.txs_resolve_expand.specs.declared.parts.Part.TheVariants as part
use Rattle.txs_resolve_expand.specs.declared.parts.Special.{Special}
use Rattle.txs_resolve_expand.specs.declared.parts.Special.TheVariants as special
use Rattle.txs_resolve_expand.specs.Answers.{◌>>=◌, refuse}
use Rattle.txs_resolve_expand.specs.Expansions.{alone, body, expand_once, hidden}
use Rattle.txs_resolve_expand.specs.Expressions.{Answer, Bound, Core, whole, parted, Resolver, are_wanted, bound_name, binding_node, callee_of, change_node, changing, choice_node, core_of, is_wanted, made, named, named_all, named_bindings, narrow, put_together, resolved, sequence_node, single_node, spot_at, spot_mark}
use Rattle.txs_resolve.specs.Walk.{Fills, PushesAll}
use Rattle.txs_resolve.specs.BodyGiven.{row, Pushes, Puts, Shows}
use Rattle.txs_resolve.specs.Made.{Makes, couple_node}
use Rattle.txs_resolve.proofs.Building.{puts_more}
use Rattle.txs_resolve_expand.specs.Parts.{core_at, own_spot, hidden_choice, part_form, plain, special_form}
use Rattle.txs_resolve_expand.proofs.Rows.{parts_plain, roomy}

-- ---- the definition, one level at a time

bind_same : {A B : Type 0} (a : Answer A) (f g : A → Answer B) → ((x : A) → f x ≡ g x) → (a >>= f) ≡ (a >>= g)
bind_same (Ok x) f g h = h x
bind_same (Err e) f g h = refl

-- below the last level nothing is asked
pub named_is : (room : ℕ) (scope : Scope) (wanted : Bool) (form : FormTree) → named room scope wanted form ≡ resolved (named (room - 1)) room scope wanted (alone form)
unfolding named
named_is zero scope wanted form =
    let f = alone form in
    let s = spot_at 0 (place f) wanted in
    bind_same (core_of scope s (expand_once f)) (made (λ _ _ e. refuse TooMany (place e)) scope s) (made (named 0) scope s) (same s) where
      same : (s : Spot) (c : Core) → made (λ _ _ e. refuse TooMany (place e)) scope (spot_at 0 s.span s.wanted) c ≡ made (named 0) scope (spot_at 0 s.span s.wanted) c
      same s (whole x) = refl
      same s (parted form) = refl
named_is (suc room) scope wanted form =
    let low : room ≡ suc room - 1 = omega arith in
    ap (λ (k : ℕ). resolved (named k) (suc room) scope wanted (alone form)) low

pub named_alone : (room : ℕ) (scope : Scope) (wanted : Bool) (form : FormTree) (at : Span) → named room scope wanted (body (first form no_forms) at) ≡ named room scope wanted form
named_alone room scope wanted form at = named_is room scope wanted (body (first form no_forms) at) ∙ sym (named_is room scope wanted form)

-- what is made of a form at its own spot
pub named_core : (here : Spot) (scope : Scope) (form : FormTree) (s : Spot) (k : Core) → s ≡ own_spot here form → Ok k ≡ core_at scope here form
    → named here.room scope here.wanted form ≡ made (named (s.room - 1)) scope s k
named_core here scope form s k is core =
    let own = own_spot here form in
    named_is here.room scope here.wanted form
    ∙ ap (λ (o : Answer Core). o >>= made (named (here.room - 1)) scope own) (sym core)
    ∙ ap (λ (z : Spot). made (named (z.room - 1)) scope z k) (sym is)

-- a form that is refused itself
pub named_stop : (here : Spot) (scope : Scope) (form : FormTree) (e : ResolveError) → Err e ≡ core_at scope here form → named here.room scope here.wanted form ≡ Err e
named_stop here scope form e core =
    named_is here.room scope here.wanted form ∙ ap (λ (o : Answer Core). o >>= made (named (here.room - 1)) scope (own_spot here form)) (sym core)

-- the node of a part, where its spot is told
pub at_spot : (i : Spot) (room : ℕ) (at : Span) (wanted : Bool) (scope : Scope) (p : Part) → i ≡ spot_at room at wanted → named i.room scope i.wanted (part_form i.span p) ≡ named room scope wanted (part_form at p)
at_spot i room at wanted scope p is = ap (λ (s : Spot). named s.room scope s.wanted (part_form s.span p)) is

-- ---- trees in a row

-- what stands behind no nodes is all there is
pub shown : (new now : Nodes) (ts : List Tree) → new.items.items ≡ [] → Puts new now ts → Shows now ts
shown new now ts empty put = λ kept. (put kept).1 ∙ ap (λ (l : List Node). map tree_of l ++ ts) empty

pub remade : (form : Special) (ts : List Tree) (m n : Mark) (t : Tree) → Makes form ts m t → (u : Tree) × Makes form ts n u
remade (special.Row k fs) ts m n t h = (sequence_node k (row ts) n, refl)
remade (special.Single k p) ts m n t h = (single_node k h.0 n, (h.0, h.1, refl))
remade (special.Pair k p f) ts m n t h = (couple_node k h.0 h.1 n, (h.0, h.1, h.2, refl))
remade (special.Choice turned a b c) ts m n t h = (choice_node turned h.0 h.1 h.2 n, (h.0, h.1, h.2, h.3, refl))
remade (special.Binding is_loop pairs fs) ts m n t h = (binding_node is_loop (row h.0) h.1 n, (h.0, h.1, h.2, refl))
remade (special.Hidden is_or f rest) ts m n t h = (binding_node false (row h.0) h.1 n, (h.0, h.1, h.2, refl))

-- ---- one form after the other, put together

row_by : (r : Result (Unit {0}) ResolveError) (k : Sequence) (fs : Bor (List Form)) (before now : Nodes) (m : Mark) (a : Answer Trees) → PushesAll r before now a
    → Fills r (special.Row k fs) before now m (a >>= λ nodes. Ok (sequence_node k nodes m))
row_by (Ok u) k fs before now m a h = (h.0, sequence_node k (row h.0) m, refl, ap (λ (o : Answer Trees). o >>= λ nodes. Ok (sequence_node k nodes m)) h.1, h.2)
row_by (Err e) k fs before now m a h = ap (λ (o : Answer Trees). o >>= λ nodes. Ok (sequence_node k nodes m)) h

module _ (s : Spot) (scope : Scope) where
  abbrev by : Resolver
  by = named (s.room - 1)

  -- what is told of the form that a special form is
  pub of_form : {f g : Special} (r : Result (Unit {0}) ResolveError) (before now : Nodes) → f ≡ g → Fills r g before now (spot_mark s) (put_together by scope s (special_form s.span g))
      → Fills r f before now (spot_mark s) (put_together by scope s (special_form s.span f))
  of_form r before now is h = subst (λ x. Fills r x before now (spot_mark s) (put_together by scope s (special_form s.span x))) (sym is) h

  pub of_form_stops : {f g : Special} {e : ResolveError} → f ≡ g → put_together by scope s (special_form s.span g) ≡ Err e → put_together by scope s (special_form s.span f) ≡ Err e
  of_form_stops is h = ap (λ x. put_together by scope s (special_form s.span x)) is ∙ h

  pub row_filled : (r : Result (Unit {0}) ResolveError) (k : Sequence) (fs : Bor (List Form)) (before now : Nodes) (w l : Bool) → w ≡ are_wanted k → l ≡ (are_wanted k || s.wanted)
      → PushesAll r before now (narrow (0 + length fs.now) s (named_all by scope w l (plain fs.now)))
      → Fills r (special.Row k fs) before now (spot_mark s) (put_together by scope s (special_form s.span (special.Row k fs)))
  row_filled r k fs before now w l w_is l_is h =
      let count : 0 + length fs.now ≡ parts (plain fs.now) = omega (arith, parts_plain fs.now) in
      row_by r k fs before now (spot_mark s) (narrow (parts (plain fs.now)) s (named_all by scope (are_wanted k) (are_wanted k || s.wanted) (plain fs.now)))
      (subst (PushesAll r before now)
      (ap (λ (n : ℕ). narrow n s (named_all by scope w l (plain fs.now))) count
      ∙ ap (λ (b : Bool). narrow (parts (plain fs.now)) s (named_all by scope b l (plain fs.now))) w_is
      ∙ ap (λ (b : Bool). narrow (parts (plain fs.now)) s (named_all by scope (are_wanted k) b (plain fs.now))) l_is) h)

  single_by : (r : Result (Unit {0}) ResolveError) (k : Single) (p : Part) (before now : Nodes) (m : Mark) (a : Answer Tree) → Pushes r before now a
      → Fills r (special.Single k p) before now m (a >>= λ node. Ok (single_node k node m))
  single_by (Ok u) k p before now m a h =
      (h.0 ∷ [], single_node k h.0 m, (h.0, refl, refl), ap (λ (o : Answer Tree). o >>= λ node. Ok (single_node k node m)) h.1, h.2)
  single_by (Err e) k p before now m a h = ap (λ (o : Answer Tree). o >>= λ node. Ok (single_node k node m)) h

  pub single_filled : (r : Result (Unit {0}) ResolveError) (k : Single) (p : Part) (before now : Nodes) (i : Spot) (w : Bool) → w ≡ (is_wanted k || s.wanted) → i ≡ spot_at (s.room - 1) s.span w
      → Pushes r before now (named i.room scope i.wanted (part_form i.span p))
      → Fills r (special.Single k p) before now (spot_mark s) (put_together by scope s (special_form s.span (special.Single k p)))
  single_filled r k p before now i w w_is is h =
      single_by r k p before now (spot_mark s) (by scope (is_wanted k || s.wanted) (part_form s.span p))
      (subst (Pushes r before now) (at_spot i (s.room - 1) s.span w scope p is ∙ ap (λ (b : Bool). by scope b (part_form s.span p)) w_is) h)

  -- two parts
  abbrev pair_by : Couple → Answer Tree → Answer Tree → Answer Tree
  pair_by (couple.Core op) a b = (a >>= λ x. (b >>= λ y. Ok (more y none)) >>= λ ys. Ok (more x ys)) >>= λ nodes. Ok (CoreNode op nodes (spot_mark s))
  pair_by (couple.Put form) a b = a >>= λ x. b >>= λ y. Ok (Put form x y (spot_mark s))

  pair_whole : (k : Couple) (p : Part) (f : Bor Form) → put_together by scope s (special_form s.span (special.Pair k p f)) ≡ pair_by k (by scope true (part_form s.span p)) (by scope true (tree f.now))
  pair_whole (couple.Core op) p f = refl
  pair_whole (couple.Put form) p f = refl

  pair_ok : (k : Couple) (x y : Tree) → pair_by k (Ok x) (Ok y) ≡ Ok (couple_node k x y (spot_mark s))
  pair_ok (couple.Core op) x y = refl
  pair_ok (couple.Put form) x y = refl

  pair_err : (k : Couple) (x : Tree) (e : ResolveError) → pair_by k (Ok x) (Err e) ≡ Err e
  pair_err (couple.Core op) x e = refl
  pair_err (couple.Put form) x e = refl

  pair_stop : (k : Couple) (b : Answer Tree) (e : ResolveError) → pair_by k (Err e) b ≡ Err e
  pair_stop (couple.Core op) b e = refl
  pair_stop (couple.Put form) b e = refl

  pub pair_stops : (k : Couple) (p : Part) (f : Bor Form) (i : Spot) (e : ResolveError) → i ≡ spot_at (s.room - 1) s.span true
      → named i.room scope i.wanted (part_form i.span p) ≡ Err e → put_together by scope s (special_form s.span (special.Pair k p f)) ≡ Err e
  pair_stops k p f i e is h =
      pair_whole k p f ∙ ap (λ (z : Answer Tree). pair_by k z (by scope true (tree f.now))) (sym (at_spot i (s.room - 1) s.span true scope p is) ∙ h) ∙ pair_stop k (by scope true (tree f.now)) e

  pair_last : (r : Result (Unit {0}) ResolveError) (k : Couple) (p : Part) (f : Bor Form) (p0 p1 p2 : Nodes) (x : Tree) (b : Answer Tree) → Puts p0 p1 (x ∷ []) → Pushes r p1 p2 b
      → Fills r (special.Pair k p f) p0 p2 (spot_mark s) (pair_by k (Ok x) b)
  pair_last (Ok u) k p f p0 p1 p2 x b put h = (
    x ∷ h.0 ∷ [],
    couple_node k x h.0 (spot_mark s),
    (x, h.0, refl, refl),
    ap (pair_by k (Ok x)) h.1 ∙ pair_ok k x h.0,
    puts_more p0 p1 p2 (x ∷ []) (h.0 ∷ []) put h.2,
  )
  pair_last (Err e) k p f p0 p1 p2 x b put h = ap (pair_by k (Ok x)) h ∙ pair_err k x e

  pub pair_filled : (r : Result (Unit {0}) ResolveError) (k : Couple) (p : Part) (f : Bor Form) (one : Scope) (p0 p1 p2 : Nodes) (i : Spot) (x : Tree)
      → i ≡ spot_at (s.room - 1) s.span true → one ≡ scope
      → named i.room scope i.wanted (part_form i.span p) ≡ Ok x → Puts p0 p1 (x ∷ [])
      → Pushes r p1 p2 (named i.room one i.wanted (part_form i.span (part.Written f)))
      → Fills r (special.Pair k p f) p0 p2 (spot_mark s) (put_together by scope s (special_form s.span (special.Pair k p f)))
  pair_filled r k p f one p0 p1 p2 i x i_is kept a put h =
      let second = subst (Pushes r p1 p2) (at_spot i (s.room - 1) s.span true one (part.Written f) i_is ∙ ap (λ z. by z true (tree f.now)) kept) h in
      subst (Fills r (special.Pair k p f) p0 p2 (spot_mark s))
      (sym (pair_whole k p f ∙ ap (λ (z : Answer Tree). pair_by k z (by scope true (tree f.now))) (sym (at_spot i (s.room - 1) s.span true scope p i_is) ∙ a)))
      (pair_last r k p f p0 p1 p2 x (by scope true (tree f.now)) put second)

  -- the two branches of a choice behind its test
  abbrev choice_by : Bool → Answer Tree → Answer Tree → Answer Tree → Answer Tree
  choice_by turned a b c = a >>= λ test. b >>= λ one. c >>= λ other. Ok (choice_node turned test one other (spot_mark s))

  choice_first : (turned : Bool) (p q o : Part) (i : Spot) (a : Answer Tree) → i ≡ spot_at (s.room - 1) s.span true → named i.room scope i.wanted (part_form i.span p) ≡ a
      → put_together by scope s (special_form s.span (special.Choice turned p q o)) ≡ choice_by turned a (by scope s.wanted (part_form s.span q)) (by scope s.wanted (part_form s.span o))
  choice_first turned p q o i a is h =
      ap (λ (z : Answer Tree). choice_by turned z (by scope s.wanted (part_form s.span q)) (by scope s.wanted (part_form s.span o))) (sym (at_spot i (s.room - 1) s.span true scope p is) ∙ h)

  -- the test is refused
  pub choice_stops : (turned : Bool) (p q o : Part) (i : Spot) (e : ResolveError) → i ≡ spot_at (s.room - 1) s.span true
      → named i.room scope i.wanted (part_form i.span p) ≡ Err e → put_together by scope s (special_form s.span (special.Choice turned p q o)) ≡ Err e
  choice_stops turned p q o i e is h = choice_first turned p q o i (Err e) is h

  -- the first branch is refused
  pub choice_halts : (turned : Bool) (p q o : Part) (one : Scope) (i j : Spot) (x : Tree) (e : ResolveError)
      → i ≡ spot_at (s.room - 1) s.span true → j ≡ spot_at (s.room - 1) s.span s.wanted → one ≡ scope
      → named i.room scope i.wanted (part_form i.span p) ≡ Ok x → named j.room one j.wanted (part_form j.span q) ≡ Err e
      → put_together by scope s (special_form s.span (special.Choice turned p q o)) ≡ Err e
  choice_halts turned p q o one i j x e i_is j_is kept a b =
      choice_first turned p q o i (Ok x) i_is a
      ∙ ap (λ (z : Answer Tree). choice_by turned (Ok x) z (by scope s.wanted (part_form s.span o)))
      (ap (λ z. by z s.wanted (part_form s.span q)) (sym kept) ∙ sym (at_spot j (s.room - 1) s.span s.wanted one q j_is) ∙ b)

  choice_last : (r : Result (Unit {0}) ResolveError) (turned : Bool) (p q o : Part) (p0 p2 p3 : Nodes) (x y : Tree) (c : Answer Tree) → Puts p0 p2 (x ∷ y ∷ []) → Pushes r p2 p3 c
      → Fills r (special.Choice turned p q o) p0 p3 (spot_mark s) (choice_by turned (Ok x) (Ok y) c)
  choice_last (Ok u) turned p q o p0 p2 p3 x y c put h = (
    x ∷ y ∷ h.0 ∷ [],
    choice_node turned x y h.0 (spot_mark s),
    (x, y, h.0, refl, refl),
    ap (choice_by turned (Ok x) (Ok y)) h.1,
    puts_more p0 p2 p3 (x ∷ y ∷ []) (h.0 ∷ []) put h.2,
  )
  choice_last (Err e) turned p q o p0 p2 p3 x y c put h = ap (choice_by turned (Ok x) (Ok y)) h

  pub choice_filled : (r : Result (Unit {0}) ResolveError) (turned : Bool) (p q o : Part) (one later : Scope) (p0 p1 p2 p3 : Nodes) (i j : Spot) (x y : Tree)
      → i ≡ spot_at (s.room - 1) s.span true → j ≡ spot_at (s.room - 1) s.span s.wanted → one ≡ scope → later ≡ one
      → named i.room scope i.wanted (part_form i.span p) ≡ Ok x → Puts p0 p1 (x ∷ [])
      → named j.room one j.wanted (part_form j.span q) ≡ Ok y → Puts p1 p2 (y ∷ [])
      → Pushes r p2 p3 (named j.room later j.wanted (part_form j.span o))
      → Fills r (special.Choice turned p q o) p0 p3 (spot_mark s) (put_together by scope s (special_form s.span (special.Choice turned p q o)))
  choice_filled r turned p q o one later p0 p1 p2 p3 i j x y i_is j_is kept kept2 a put1 b put2 h =
      let first_is = sym (at_spot i (s.room - 1) s.span true scope p i_is) ∙ a in
      let second_is = ap (λ z. by z s.wanted (part_form s.span q)) (sym kept) ∙ sym (at_spot j (s.room - 1) s.span s.wanted one q j_is) ∙ b in
      let third = subst (Pushes r p2 p3) (at_spot j (s.room - 1) s.span s.wanted later o j_is ∙ ap (λ z. by z s.wanted (part_form s.span o)) (kept2 ∙ kept)) h in
      subst (Fills r (special.Choice turned p q o) p0 p3 (spot_mark s))
      (sym (ap (λ (z : Answer Tree). choice_by turned z (by scope s.wanted (part_form s.span q)) (by scope s.wanted (part_form s.span o))) first_is
      ∙ ap (λ (z : Answer Tree). choice_by turned (Ok x) z (by scope s.wanted (part_form s.span o))) second_is))
      (choice_last r turned p q o p0 p2 p3 x y (by scope s.wanted (part_form s.span o)) (puts_more p0 p1 p2 (x ∷ []) (y ∷ []) put1 put2) third)

  -- a form that calls something
  abbrev change_by : Change → Answer Tree → Answer Callee → Answer Trees → Answer Tree
  change_by k a called b = a >>= λ cell. called >>= λ callee. b >>= λ nodes. Ok (change_node k cell callee nodes (spot_mark s))

  module _ (some : s.room ≡ 0 → ⊥) (k : Change) (r f : Bor Form) (args : Bor (List Form)) where
    abbrev pub changed_whole : Answer Tree
    changed_whole = made by scope s (parted (changing k (tree r.now) (tree f.now) (plain args.now)))

    abbrev row_of : Scope → ℕ → Answer Trees
    row_of one n = narrow n s (named_all by one true true (plain args.now))

    changed_is : changed_whole ≡ change_by k (by scope true (tree r.now)) (callee_of scope s (tree f.now)) (row_of scope (suc (parts (plain args.now))))
    changed_is = roomy s (change_by k (by scope true (tree r.now)) (callee_of scope s (tree f.now)) (row_of scope (suc (parts (plain args.now))))) some

    module _ (i : Spot) (i_is : i ≡ spot_at (s.room - 1) s.span true) where
      cell_is : (o : Answer Tree) → named i.room scope i.wanted (part_form i.span (part.Written r)) ≡ o → by scope true (tree r.now) ≡ o
      cell_is o h = sym (at_spot i (s.room - 1) s.span true scope (part.Written r) i_is) ∙ h

      pub cell_stops : (e : ResolveError) → named i.room scope i.wanted (part_form i.span (part.Written r)) ≡ Err e → changed_whole ≡ Err e
      cell_stops e h =
          changed_is ∙ ap (λ (z : Answer Tree). change_by k z (callee_of scope s (tree f.now)) (row_of scope (suc (parts (plain args.now))))) (cell_is (Err e) h)

      module _ (x : Tree) (a : named i.room scope i.wanted (part_form i.span (part.Written r)) ≡ Ok x) (one : Scope) (kept : one ≡ scope) where
        called_is : (o : Answer Callee) → callee_of one s (tree f.now) ≡ o → changed_whole ≡ change_by k (Ok x) o (row_of scope (suc (parts (plain args.now))))
        called_is o h =
            changed_is
            ∙ ap (λ (z : Answer Tree). change_by k z (callee_of scope s (tree f.now)) (row_of scope (suc (parts (plain args.now))))) (cell_is (Ok x) a)
            ∙ ap (λ (z : Answer Callee). change_by k (Ok x) z (row_of scope (suc (parts (plain args.now))))) (ap (λ z. callee_of z s (tree f.now)) (sym kept) ∙ h)

        pub callee_stops : (e : ResolveError) → callee_of one s (tree f.now) ≡ Err e → changed_whole ≡ Err e
        callee_stops e h = called_is (Err e) h

        pub args_then : (callee : Callee) (o : Answer Trees) (n : ℕ) → callee_of one s (tree f.now) ≡ Ok callee → n ≡ suc (length args.now) → row_of one n ≡ o
            → changed_whole ≡ (o >>= λ nodes. Ok (change_node k x callee nodes (spot_mark s)))
        args_then callee o n called count h =
            called_is (Ok callee) called
            ∙ ap (change_by k (Ok x) (Ok callee))
            (ap (row_of scope) (ap suc (parts_plain args.now) ∙ sym count) ∙ ap (λ z. row_of z n) (sym kept) ∙ h)

  abbrev binding_by : Bool → FormTree → Answer Bound → Answer Tree
  binding_by is_loop forms a = a >>= λ bound. by bound.scope s.wanted forms >>= λ node. Ok (binding_node is_loop bound.values node (spot_mark s))

  abbrev let_by : Bool → Trees → Answer Tree → Answer Tree
  let_by is_loop values a = a >>= λ node. Ok (binding_node is_loop values node (spot_mark s))

  -- a value or a name is refused
  pub bound_stops : (is_loop : Bool) (pairs fs : Bor (List Form)) (e : ResolveError) → named_bindings by scope (plain pairs.now) ≡ Err e
      → put_together by scope s (special_form s.span (special.Binding is_loop pairs fs)) ≡ Err e
  bound_stops is_loop pairs fs e a = ap (binding_by is_loop (body (plain fs.now) s.span)) a

  -- the body is refused
  pub bound_halts : (is_loop : Bool) (pairs fs : Bor (List Form)) (one : Scope) (ts : List Tree) (i : Spot) (e : ResolveError)
      → i ≡ spot_at (s.room - 1) s.span s.wanted → named_bindings by scope (plain pairs.now) ≡ Ok (record { values = row ts; scope = one })
      → named i.room one i.wanted (part_form i.span (part.List kind.Do fs)) ≡ Err e
      → put_together by scope s (special_form s.span (special.Binding is_loop pairs fs)) ≡ Err e
  bound_halts is_loop pairs fs one ts i e i_is a b =
      ap (binding_by is_loop (body (plain fs.now) s.span)) a
      ∙ ap (let_by is_loop (row ts)) (sym (at_spot i (s.room - 1) s.span s.wanted one (part.List kind.Do fs) i_is) ∙ b)

  pub bound_filled : (is_loop : Bool) (pairs fs : Bor (List Form)) (one : Scope) (p0 p1 p2 : Nodes) (ts : List Tree) (i : Spot) (x : Tree)
      → i ≡ spot_at (s.room - 1) s.span s.wanted
      → named_bindings by scope (plain pairs.now) ≡ Ok (record { values = row ts; scope = one }) → Puts p0 p1 ts
      → named i.room one i.wanted (part_form i.span (part.List kind.Do fs)) ≡ Ok x → Puts p1 p2 (x ∷ [])
      → Fills (Ok tt) (special.Binding is_loop pairs fs) p0 p2 (spot_mark s) (put_together by scope s (special_form s.span (special.Binding is_loop pairs fs)))
  bound_filled is_loop pairs fs one p0 p1 p2 ts i x i_is a put1 b put2 = (
    ts ++ x ∷ [],
    binding_node is_loop (row ts) x (spot_mark s),
    (ts, x, refl, refl),
    ap (binding_by is_loop (body (plain fs.now) s.span)) a
        ∙ ap (let_by is_loop (row ts)) (sym (at_spot i (s.room - 1) s.span s.wanted one (part.List kind.Do fs) i_is) ∙ b),
    puts_more p0 p1 p2 ts (x ∷ []) put1 put2,
  )

  -- ---- hidden locals

  hidden_bound : bound_name scope (hidden s.span) ≡ (if nat_lt (length scope.locals) 200 then Ok [] else refuse TooMany s.span)
  unfolding may_bind
  hidden_bound = refl

  abbrev one_bound : Tree → List ℕ → Bound
  one_bound value name = record { values = more value none; scope = with_local name scope }

  abbrev name_by : FormTree → Tree → Answer (List ℕ) → Answer Tree
  name_by forms value a =
      (a >>= λ name. Ok (one_bound value name)) >>= λ bound. by bound.scope s.wanted forms >>= λ node. Ok (binding_node false bound.values node (spot_mark s))

  abbrev value_by : FormTree → Answer Tree → Answer Tree
  value_by forms a =
      (a >>= λ value. bound_name scope (hidden s.span) >>= λ name. Ok (one_bound value name)) >>= λ bound. by bound.scope s.wanted forms >>= λ node. Ok (binding_node false bound.values node (spot_mark s))

  -- the first form is refused
  pub hidden_unvalued : (is_or : Bool) (f : Bor Form) (rest : Bor (List Form)) (i : Spot) (e : ResolveError) → i ≡ spot_at (s.room - 1) s.span true
      → named i.room scope i.wanted (part_form i.span (part.Written f)) ≡ Err e → put_together by scope s (special_form s.span (special.Hidden is_or f rest)) ≡ Err e
  hidden_unvalued is_or f rest i e i_is a =
      ap (value_by (body (first (hidden_choice is_or (plain rest.now) s.span) no_forms) s.span)) (sym (at_spot i (s.room - 1) s.span true scope (part.Written f) i_is) ∙ a)

  module _ (is_or : Bool) (f : Bor Form) (rest : Bor (List Form)) (i : Spot) (x : Tree) (i_is : i ≡ spot_at (s.room - 1) s.span true) (a : named i.room scope i.wanted (part_form i.span (part.Written f)) ≡ Ok x) where
    abbrev pub hidden_whole : Answer Tree
    hidden_whole = put_together by scope s (special_form s.span (special.Hidden is_or f rest))

    abbrev choice_form : FormTree
    choice_form = hidden_choice is_or (plain rest.now) s.span

    hidden_named : hidden_whole ≡ name_by (body (first choice_form no_forms) s.span) x (if nat_lt (length scope.locals) 200 then Ok [] else refuse TooMany s.span)
    hidden_named =
        ap (value_by (body (first choice_form no_forms) s.span)) (sym (at_spot i (s.room - 1) s.span true scope (part.Written f) i_is) ∙ a)
        ∙ ap (name_by (body (first choice_form no_forms) s.span) x) hidden_bound

    many : (n : ℕ) → 200 ≤ n → nat_lt n 200 ≡ false
    many n le = grind (arith, nat_tests)

    few : (n : ℕ) → n < 200 → nat_lt n 200 ≡ true
    few n lt = grind (arith, nat_tests)

    pub hidden_full : 200 ≤ length scope.locals → hidden_whole ≡ refuse TooMany s.span
    hidden_full le = hidden_named ∙ ap (λ (b : Bool). name_by (body (first choice_form no_forms) s.span) x (if b then Ok [] else refuse TooMany s.span)) (many (length scope.locals) le)

    module _ (j : Spot) (inner : Scope) (n : ℕ) (j_is : j ≡ spot_at (s.room - 1) s.span s.wanted) (inner_is : inner ≡ with_local [] scope) (lt : length scope.locals < 200) where
      hidden_then : (o : Answer Tree) → named j.room inner j.wanted (part_form j.span (part.Choice n is_or rest)) ≡ o → hidden_whole ≡ let_by false (more x none) o
      hidden_then o b =
          hidden_named ∙ ap (λ (b : Bool). name_by (body (first choice_form no_forms) s.span) x (if b then Ok [] else refuse TooMany s.span)) (few (length scope.locals) lt)
          ∙ ap (let_by false (more x none))
          (named_alone (s.room - 1) (with_local [] scope) s.wanted choice_form s.span
          ∙ ap (λ z. by z s.wanted choice_form) (sym inner_is)
          ∙ sym (at_spot j (s.room - 1) s.span s.wanted inner (part.Choice n is_or rest) j_is) ∙ b)

      pub hidden_stops : (e : ResolveError) → named j.room inner j.wanted (part_form j.span (part.Choice n is_or rest)) ≡ Err e → hidden_whole ≡ Err e
      hidden_stops e b = hidden_then (Err e) b

      pub hidden_filled : (p0 p1 p2 : Nodes) (y : Tree) → Puts p0 p1 (x ∷ []) → named j.room inner j.wanted (part_form j.span (part.Choice n is_or rest)) ≡ Ok y → Puts p1 p2 (y ∷ [])
          → Fills (Ok tt) (special.Hidden is_or f rest) p0 p2 (spot_mark s) hidden_whole
      hidden_filled p0 p1 p2 y put1 b put2 =
          (x ∷ y ∷ [], Let (more x none) y (spot_mark s), (x ∷ [], y, refl, refl), hidden_then (Ok y) b, puts_more p0 p1 p2 (x ∷ []) (y ∷ []) put1 put2)

pub narrow_ok : (n : ℕ) (s : Spot) (a : Answer Trees) → n ≤ 65535 → narrow n s a ≡ a
narrow_ok n s a le = ap (λ b. cond b (refuse TooMany s.span) a) (small n le) where
  small : (n : ℕ) → n ≤ 65535 → nat_lt 65535 n ≡ false
  small n le = grind (arith, nat_tests)

pub narrow_wide : (n : ℕ) (s : Spot) (a : Answer Trees) → 65535 < n → narrow n s a ≡ refuse TooMany s.span
narrow_wide n s a lt = ap (λ b. cond b (refuse TooMany s.span) a) (wide n lt) where
  wide : (n : ℕ) → 65535 < n → nat_lt 65535 n ≡ true
  wide n lt = grind (arith, nat_tests)
