-- What the resolver's loops have built, and what is left of the definition behind them.
use Rattle.std.specs.Prelude.{OnOk}
use Rattle.std.proofs.Common.{Result, ◌≡◌, ◌<◌, ◌≤◌, ◌+◌, ◌-◌, ℕ, suc, Bool, true, List, [], ◌∷◌, ◌++◌, Ok, Err, length, map, drop, get_or, append_assoc, append-nil, refl, sym, ap, ◌∙◌, arith}
use Rattle.txs_reader.specs.declared.form.Form.{Form}
use Rattle.txs_reader.specs.Tree.{tree, first, place, PlainForms as Forms}
use Rattle.txs_tree_meaning.specs.Tree.{Tree, Trees, more, none}
use Rattle.txs_tree_meaning.specs.View.{tree_of}
use Rattle.txs_resolve.specs.BodyGiven.{row, Puts}
use Rattle.txs_resolve.specs.declared.nodes.Nodes.{Nodes}
use Rattle.txs_resolve_expand.specs.declared.error.ResolveError.{ResolveError}
use Rattle.txs_resolve_expand.specs.declared.error.ResolveErrorKind.TheVariants.{BadForm}
use Rattle.txs_resolve_expand.specs.Expressions.{Answer, Bound, Resolver, bound_name, flag, named_all, named_bindings}
use Rattle.txs_resolve.specs.Walk.{IsWithin}
use Rattle.txs_resolve_expand.specs.Parts.{plain}
use Rattle.txs_resolve_expand.proofs.Rows.{drop_all, plain_at}
use Rattle.txs_resolve_expand.specs.Answers.{◌>>=◌, refuse}
use Rattle.txs_resolve_expand.specs.Scope.{Scope, with_local, with_locals}

-- these trees, and then those
abbrev pub ahead : List Tree → Trees → Trees
ahead [] ts = ts
ahead (n ∷ ns) ts = more n (ahead ns ts)

abbrev pub all_after : List Tree → Answer Trees → Answer Trees
all_after ns (Err e) = Err e
all_after ns (Ok ts) = Ok (ahead ns ts)

abbrev pub bound_after : List Tree → Answer Bound → Answer Bound
bound_after ns (Err e) = Err e
bound_after ns (Ok b) = Ok (record { values = ahead ns b.values; scope = b.scope })

ahead_none : (ns : List Tree) → ahead ns none ≡ row ns
ahead_none [] = refl
ahead_none (n ∷ ns) = ap (more n) (ahead_none ns)

ahead_snoc : (ns : List Tree) (n : Tree) (ts : Trees) → ahead ns (more n ts) ≡ ahead (ns ++ n ∷ []) ts
ahead_snoc [] n ts = refl
ahead_snoc (m ∷ ns) n ts = ap (more (m)) (ahead_snoc ns n ts)

all_snoc : (ns : List Tree) (n : Tree) (a : Answer Trees) → all_after ns (a >>= λ ts. Ok (more n ts)) ≡ all_after (ns ++ n ∷ []) a
all_snoc ns n (Err e) = refl
all_snoc ns n (Ok ts) = ap (λ x. Ok x) (ahead_snoc ns n ts)

bound_snoc : (ns : List Tree) (n : Tree) (a : Answer Bound) → bound_after ns (a >>= λ b. Ok (record { values = more n b.values; scope = b.scope })) ≡ bound_after (ns ++ n ∷ []) a
bound_snoc ns n (Err e) = refl
bound_snoc ns n (Ok b) = ap (λ (x : Trees). Ok (record { values = x; scope = b.scope })) (ahead_snoc ns n b.values)

-- ---- forms one after the other

module _ (by : Resolver) (scope : Scope) (inner last : Bool) (fs : List Form) (i : ℕ) where
  pub all_step : (d : Form) (n : Tree) (ns : List Tree) → i < length fs → by scope (flag inner last (plain (drop (i + 1) fs))) (tree (get_or fs i d)) ≡ Ok n → all_after ns (named_all by scope inner last (plain (drop i fs))) ≡ all_after (ns ++ n ∷ []) (named_all by scope inner last (plain (drop (i + 1) fs)))
  all_step d n ns lt e =
      let rest = named_all by scope inner last (plain (drop (i + 1) fs)) in
      ap (λ l. all_after ns (named_all by scope inner last l)) (plain_at fs i d lt)
      ∙ ap (λ (o : Answer Tree). all_after ns (o >>= λ node. rest >>= λ nodes. Ok (more node nodes))) e
      ∙ all_snoc ns n rest

  pub all_stop : (d : Form) (ns : List Tree) (x : ResolveError) → i < length fs → by scope (flag inner last (plain (drop (i + 1) fs))) (tree (get_or fs i d)) ≡ Err x → all_after ns (named_all by scope inner last (plain (drop i fs))) ≡ Err x
  all_stop d ns x lt e =
      let rest = named_all by scope inner last (plain (drop (i + 1) fs)) in
      ap (λ l. all_after ns (named_all by scope inner last l)) (plain_at fs i d lt)
      ∙ ap (λ (o : Answer Tree). all_after ns (o >>= λ node. rest >>= λ nodes. Ok (more node nodes))) e

  pub all_end : (ns : List Tree) → length fs ≤ i → all_after ns (named_all by scope inner last (plain (drop i fs))) ≡ Ok (row ns)
  all_end ns le =
      ap (λ l. all_after ns (named_all by scope inner last (plain l))) (drop_all fs i le) ∙ ap (λ x. Ok x) (ahead_none ns)

-- ---- bindings

-- the bindings behind a value and a name
abbrev pub bindings_of : Resolver → Scope → Forms → Answer Tree → Answer (List ℕ) → Answer Bound
bindings_of by scope rest v b = v >>= λ value. b >>= λ name. named_bindings by (with_local name scope) rest >>= λ bound. Ok (record { values = more value bound.values; scope = bound.scope })

pub bindings_pair : (by : Resolver) (scope : Scope) (fs : List Form) (i : ℕ) (d e : Form) → i + 1 < length fs → named_bindings by scope (plain (drop i fs)) ≡ bindings_of by scope (plain (drop (i + 2) fs)) (by scope true (tree (get_or fs (i + 1) e))) (bound_name scope (tree (get_or fs i d)))
bindings_pair by scope fs i d e lt =
    let rest = plain (drop (i + 2) fs) in
    ap (named_bindings by scope)
    (plain_at fs i d (omega arith) ∙ ap (first (tree (get_or fs i d))) (plain_at fs (i + 1) e lt ∙ ap (λ (k : ℕ). first (tree (get_or fs (i + 1) e)) (plain (drop k fs))) (omega arith)))

module _ (by : Resolver) (scope : Scope) (fs : List Form) (i : ℕ) (ns : List Tree) where
  pub bindings_step : (d e : Form) (name : List ℕ) (n : Tree) → i + 1 < length fs → by scope true (tree (get_or fs (i + 1) e)) ≡ Ok n → bound_name scope (tree (get_or fs i d)) ≡ Ok name → bound_after ns (named_bindings by scope (plain (drop i fs))) ≡ bound_after (ns ++ n ∷ []) (named_bindings by (with_local name scope) (plain (drop (i + 2) fs)))
  bindings_step d e name n lt value bind =
      let rest = plain (drop (i + 2) fs) in
      ap (bound_after ns) (bindings_pair by scope fs i d e lt)
      ∙ ap (λ o. bound_after ns (bindings_of by scope rest o (bound_name scope (tree (get_or fs i d))))) value
      ∙ ap (λ o. bound_after ns (bindings_of by scope rest (Ok n) o)) bind
      ∙ bound_snoc ns n (named_bindings by (with_local name scope) rest)

  pub bindings_unvalued : (d e : Form) (x : ResolveError) → i + 1 < length fs → by scope true (tree (get_or fs (i + 1) e)) ≡ Err x → bound_after ns (named_bindings by scope (plain (drop i fs))) ≡ Err x
  bindings_unvalued d e x lt value =
      ap (bound_after ns) (bindings_pair by scope fs i d e lt)
      ∙ ap (λ o. bound_after ns (bindings_of by scope (plain (drop (i + 2) fs)) o (bound_name scope (tree (get_or fs i d))))) value

  pub bindings_unbound : (d e : Form) (n : Tree) (x : ResolveError) → i + 1 < length fs → by scope true (tree (get_or fs (i + 1) e)) ≡ Ok n → bound_name scope (tree (get_or fs i d)) ≡ Err x → bound_after ns (named_bindings by scope (plain (drop i fs))) ≡ Err x
  bindings_unbound d e n x lt value bind =
      let rest = plain (drop (i + 2) fs) in
      ap (bound_after ns) (bindings_pair by scope fs i d e lt)
      ∙ ap (λ o. bound_after ns (bindings_of by scope rest o (bound_name scope (tree (get_or fs i d))))) value
      ∙ ap (λ o. bound_after ns (bindings_of by scope rest (Ok n) o)) bind

  pub bindings_odd : (d : Form) → i + 1 ≡ length fs → bound_after ns (named_bindings by scope (plain (drop i fs))) ≡ refuse BadForm (place (tree (get_or fs i d)))
  bindings_odd d one =
      ap (λ l. bound_after ns (named_bindings by scope l)) (plain_at fs i d (omega (arith, one)) ∙ ap (λ l. first (tree (get_or fs i d)) (plain l)) (drop_all fs (i + 1) (omega (arith, one))))

  pub bindings_end : length fs ≤ i → bound_after ns (named_bindings by scope (plain (drop i fs))) ≡ Ok (record { values = row ns; scope = scope })
  bindings_end le =
      ap (λ l. bound_after ns (named_bindings by scope (plain l))) (drop_all fs i le) ∙ ap (λ (x : Trees). Ok (record { values = x; scope = scope })) (ahead_none ns)

-- ---- scopes

pub within_push : (outer inner : Scope) (name : List ℕ) → IsWithin outer inner → IsWithin outer (with_local name inner)
within_push outer inner name w =
    let count : suc (length inner.locals) - length outer.locals ≡ suc (length inner.locals - length outer.locals) = omega (arith, w.0) in
    (omega (arith, w.0), ap (λ (k : ℕ). with_locals (drop k (name ∷ inner.locals)) inner) count ∙ w.1)

-- behind a hidden local, which goes out of scope again
pub unhidden : (s before : Scope) (n : ℕ) → s ≡ with_local [] before → n ≡ length before.locals → with_locals (drop (length s.locals - n) s.locals) s ≡ before
unhidden s before n is same =
    let count : suc (length before.locals) - length before.locals ≡ 1 = omega arith in
    (λ i. with_locals (drop (length (is i).locals - same i) (is i).locals) (is i)) ∙ ap (λ (k : ℕ). with_locals (drop k ([] ∷ before.locals)) before) count

-- what a call keeps is kept behind what was kept
pub then_kept : {T E A : Type 0} (r : Result T E) (x y z : A) → OnOk r (x ≡ y) → y ≡ z → OnOk r (x ≡ z)
then_kept (Ok u) x y z h e = h ∙ e
then_kept (Err u) x y z h e = tt

-- what isn't touched is kept
pub kept_here : {T E A : Type 0} (r : Result T E) (x : A) → OnOk r (x ≡ x)
kept_here (Ok u) x = refl
kept_here (Err u) x = tt

-- ---- nodes that are lost, or have these trees

pub puts_none : (a : Nodes) → Puts a a []
puts_none a = λ kept. (kept, sym (append-nil (map tree_of a.items.items)))

pub puts_more : (a b c : Nodes) (ts us : List Tree) → Puts a b ts → Puts b c us → Puts a c (ts ++ us)
puts_more a b c ts us one two =
    λ kept.
    let q = two kept in
    let p = one q.0 in
    (p.0, q.1 ∙ ap (λ (l : List Tree). l ++ us) p.1 ∙ append_assoc (map tree_of a.items.items) ts us)

pub all_nil : (a : Answer Trees) → a ≡ all_after [] a
all_nil (Ok ts) = refl
all_nil (Err e) = refl

pub bound_nil : (a : Answer Bound) → a ≡ bound_after [] a
bound_nil (Ok b) = refl
bound_nil (Err e) = refl
