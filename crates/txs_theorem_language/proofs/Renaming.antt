-- A form with a renamed local has the same tree, or the same refusal.
use Rattle.std.proofs.Common.{◌≡◌, ◌≢◌, ℕ, zero, suc, Bool, true, false, not, ◌&&◌, ◌||◌, bytes_eq, nat_lt, List, length, Option, Some, None, Ok, Err, refl, sym, ap, subst, ◌∙◌, if◌then◌else◌}
use Rattle.std.proofs.lemmas.Slice.Eq.{bytes_eq-Decides}
use Rattle.std.specs.List.{list_any}
use Rattle.txs_value_data.specs.declared.fault.Span.{Span}
use Rattle.txs_value_data.specs.declared.op.Callee.{Callee}
use Rattle.txs_value_data.specs.declared.op.Callee.TheVariants.{Core as CoreOp, Function as TheFunction}
use Rattle.txs_value_cell.specs.declared.form.CellForm.{CellForm}
use Rattle.txs_value_cell.specs.declared.form.CellForm.TheVariants as on_cell
use Rattle.txs_reader.specs.declared.form.Bracket.TheVariants.{Round, Square}
use Rattle.txs_reader.specs.Tree.{Leaf, PlainForm as Form, PlainForms as Forms, leaf, group, first, place, symbol, parts}
use Rattle.txs_reader.specs.Tree.{none as no_forms}
use Rattle.txs_tree_meaning.specs.Tree.{Tree, Put, more}
use Rattle.txs_resolve_expand.specs.declared.names.FormName.{FormName}
use Rattle.txs_resolve_expand.specs.declared.names.FormName.TheVariants as kind
use Rattle.txs_value_data.specs.Places.{with_name}
use Rattle.txs_resolve_expand.specs.Scope.{Scope, a_local, dotted, form_name, form_names, is_dot, local_number, may_bind, meaning, or_form, with_local}
use Rattle.txs_resolve_expand.specs.declared.error.ResolveErrorKind.TheVariants.{BadForm, TooMany}
use Rattle.txs_resolve_expand.specs.declared.shapes.Sequence.TheVariants as sequence
use Rattle.txs_resolve_expand.specs.declared.shapes.Single.TheVariants as single
use Rattle.txs_resolve_expand.specs.declared.shapes.Spot.{Spot}
use Rattle.txs_resolve_expand.specs.Answers.{◌>>=◌, refuse}
use Rattle.txs_resolve_expand.specs.Expansions.{alone, body, expand_once, form_at}
use Rattle.txs_resolve_expand.specs.Expressions.{Answer, Bound, Special, row, one_part, putting, choice, binding, changing, Core as ACore, whole, parted, Resolver, spot_at, spot_mark, some_room, in_room, narrow, symbol_node, leaf_node, callee_at, callee_of, flag, sequence_node, are_wanted, choice_node, single_node, is_wanted, change_node, binding_node, are_pairs, is_symbol, bound_in, cell_form, of_family, special, is_chain, all_but_last, last_of, applied, list_core, core_of, bound_name, named_all, named_bindings, put_together, made, resolved, named}
use Rattle.txs_theorem_language.specs.Renaming.{name_renamed, leaf_renamed, is_named, binds, is_binding, renamed, all_renamed, scope_renamed, pairs_renamed, LeafLacks, Lacks, AllLack, MayRename, joined, binding_form}
use Rattle.txs_theorem_language.proofs.Names.{IsTrue, and_second, equal, differs, with_number, by_number, bound_name_is, others_stay}
use Rattle.txs_theorem_language.proofs.Renamed.{no_keyword, form_at_same, place_same, parts_same, flag_same, are_pairs_same, args_renamed, body_stays, expanded, alone_renamed, all_but_last_renamed, last_renamed, lacks_alone, lacks_expanded}

-- ---- answers

pub bind_same : {A B : Type 0} (x y : Answer A) (f g : A → Answer B) → y ≡ x → ((v : A) → g v ≡ f v) → (y >>= g) ≡ (x >>= f)
bind_same {A} {B} x y f g e h = ap (λ a. a >>= g) e ∙ by x
  where
    by : (a : Answer A) → (a >>= g) ≡ (a >>= f)
    by (Ok v) = h v
    by (Err e) = refl

abbrev on_ok : {A B : Type 0} → (A → B) → Answer A → Answer B
on_ok f (Ok v) = Ok (f v)
on_ok f (Err e) = Err e

-- what an answer gives, if it gives something
abbrev IfGives : {A : Type 0} → (A → Type 0) → Answer A → Type 0
IfGives P (Ok v) = P v
IfGives P (Err e) = Unit {0}

narrow_same : {A : Type 0} (m n : ℕ) (s : Spot) (x y : Answer A) → m ≡ n → y ≡ x → narrow m s y ≡ narrow n s x
narrow_same m n s x y e h = ap (λ k. narrow k s y) e ∙ ap (narrow n s) h

-- ---- a name in a scope

-- the nearest local, whatever the scope
nearest_is : (name : List ℕ) (scope : Scope) → meaning name (with_local name scope) ≡ or_form (with_name form_name name form_names) (if list_any is_dot name then dotted else a_local (length scope.locals))
nearest_is name scope =
    by_number name (with_local name scope)
    ∙ ap (λ (y : Bool). with_number name scope (if y then Some (length scope.locals) else local_number name scope)) (equal name)

nearest_same : (name : List ℕ) (a b : Scope) → length a.locals ≡ length b.locals → meaning name (with_local name b) ≡ meaning name (with_local name a)
nearest_same name a b e =
    nearest_is name b
    ∙ ap (λ n. or_form (with_name form_name name form_names) (if list_any is_dot name then dotted else a_local n)) (sym e)
    ∙ sym (nearest_is name a)

module _ (old new : List ℕ) (may : MayRename old new) where
  -- ---- in reach of the renamed local, and where an inner one hides it

  -- a form, a name, and so on: renamed where the old name means the local
  abbrev pub turned : Bool → Form → Form
  turned true f = renamed old new f
  turned false f = f

  abbrev pub all_turned : Bool → Forms → Forms
  all_turned true fs = all_renamed old new fs
  all_turned false fs = fs

  abbrev pub pairs_turned : Bool → Forms → Forms
  pairs_turned true fs = pairs_renamed old new fs
  pairs_turned false fs = fs

  abbrev pub name_turned : Bool → List ℕ → List ℕ
  name_turned true n = name_renamed old new n
  name_turned false n = n

  abbrev pub leaf_turned : Bool → Leaf → Leaf
  leaf_turned true x = leaf_renamed old new x
  leaf_turned false x = x

  -- two scopes in which each name means the same, once it is renamed
  pub record Matches (on : Bool) (a b : Scope) : Type 0 where
    pub same : length a.locals ≡ length b.locals
    pub names : (n : List ℕ) → n ≢ new → meaning (name_turned on n) b ≡ meaning n a

  unequal : (xs ys : List ℕ) → bytes_eq xs ys ≡ false → xs ≢ ys
  unequal xs ys is e = subst IsTrue (sym ((bytes_eq-Decides xs ys).1 e) ∙ is) tt

  other_name : (n : List ℕ) → n ≢ old → name_renamed old new n ≡ n
  other_name n h = ap (λ (y : Bool). if y then new else n) (differs n old h)

  renamed_differs : (n k : List ℕ) → n ≢ new → k ≢ n → name_renamed old new k ≢ n
  renamed_differs n k lacks apart = by (bytes_eq k old)
    where
      by : (y : Bool) → (if y then new else k) ≢ n
      by true = λ e. lacks (sym e)
      by false = apart

  pub matches_behind : (on : Bool) (a b : Scope) → Matches on a b → (n : List ℕ) → n ≢ new → Matches (on && not (bytes_eq n old)) (with_local n a) (with_local n b)
  matches_behind false a b m n lacks = record { same = ap suc m.same; names = λ k other. by k other (bytes_eq k n) refl }
    where
      by : (k : List ℕ) → k ≢ new → (y : Bool) → bytes_eq k n ≡ y → meaning k (with_local n b) ≡ meaning k (with_local n a)
      by k other true is = subst (λ z. meaning k (with_local z b) ≡ meaning k (with_local z a)) ((bytes_eq-Decides k n).0 is) (nearest_same k a b m.same)
      by k other false is = others_stay n k b (unequal k n is) ∙ m.names k other ∙ sym (others_stay n k a (unequal k n is))
  matches_behind true a b m n lacks = split (bytes_eq n old) refl
    where
      nearest : (k : List ℕ) → k ≡ n → meaning k (with_local n b) ≡ meaning k (with_local n a)
      nearest k is = subst (λ z. meaning k (with_local z b) ≡ meaning k (with_local z a)) is (nearest_same k a b m.same)

      hidden : n ≡ old → (k : List ℕ) → k ≢ new → (y : Bool) → bytes_eq k n ≡ y → meaning k (with_local n b) ≡ meaning k (with_local n a)
      hidden same k other true is = nearest k ((bytes_eq-Decides k n).0 is)
      hidden same k other false is =
          let apart : k ≢ n = unequal k n is in
          let plain : name_renamed old new k ≡ k = other_name k (λ e. apart (e ∙ sym same)) in
          others_stay n k b apart ∙ ap (λ z. meaning z b) (sym plain) ∙ m.names k other ∙ sym (others_stay n k a apart)

      seen : n ≢ old → (k : List ℕ) → k ≢ new → (y : Bool) → bytes_eq k n ≡ y → meaning (name_renamed old new k) (with_local n b) ≡ meaning k (with_local n a)
      seen apart k other true is =
          let same : k ≡ n = (bytes_eq-Decides k n).0 is in
          ap (λ z. meaning z (with_local n b)) (other_name k (λ e. apart (sym same ∙ e))) ∙ nearest k same
      seen apart k other false is =
          others_stay n (name_renamed old new k) b (renamed_differs n k lacks (unequal k n is)) ∙ m.names k other ∙ sym (others_stay n k a (unequal k n is))

      split : (y : Bool) → bytes_eq n old ≡ y → Matches (true && not y) (with_local n a) (with_local n b)
      split true is = record { same = ap suc m.same; names = λ k other. hidden ((bytes_eq-Decides n old).0 is) k other (bytes_eq k n) refl }
      split false is = record { same = ap suc m.same; names = λ k other. seen (unequal n old is) k other (bytes_eq k n) refl }

  -- ---- what has no more to expand

  abbrev special_turned : Bool → Special → Special
  special_turned on (row k fs) = row k (all_turned on fs)
  special_turned on (one_part k f) = one_part k (turned on f)
  special_turned on (putting k r e) = putting k (turned on r) (turned on e)
  special_turned on (choice t c x y) = choice t (turned on c) (turned on x) (turned on y)
  special_turned on (binding l pairs f) = binding l (pairs_turned on pairs) (turned (on && not (binds old pairs)) f)
  special_turned on (changing k r f args) = changing k (turned on r) (turned on f) (all_turned on args)

  abbrev core_turned : Bool → ACore → ACore
  core_turned on (whole x) = whole (leaf_turned on x)
  core_turned on (parted s) = parted (special_turned on s)

  abbrev SpecialLacks : Special → Type 0
  SpecialLacks (row k fs) = AllLack new fs
  SpecialLacks (one_part k f) = Lacks new f
  SpecialLacks (putting k r e) = Lacks new r × Lacks new e
  SpecialLacks (choice t c x y) = Lacks new c × Lacks new x × Lacks new y
  SpecialLacks (binding l pairs f) = AllLack new pairs × Lacks new f
  SpecialLacks (changing k r f args) = Lacks new r × Lacks new f × AllLack new args

  abbrev CoreLacks : ACore → Type 0
  CoreLacks (whole x) = LeafLacks new x
  CoreLacks (parted s) = SpecialLacks s

  unturned : (c : ACore) → core_turned false c ≡ c
  unturned (whole x) = refl
  unturned (parted (row k fs)) = refl
  unturned (parted (one_part k f)) = refl
  unturned (parted (putting k r e)) = refl
  unturned (parted (choice t c x y)) = refl
  unturned (parted (binding l pairs f)) = refl
  unturned (parted (changing k r f args)) = refl

  all_unturned : (x : Answer ACore) → x ≡ on_ok (core_turned false) x
  all_unturned (Ok c) = ap Ok (sym (unturned c))
  all_unturned (Err e) = refl

  family_turned : (o : Option CellForm) (at : Span) (args : Forms) → of_family o at (all_renamed old new args) ≡ on_ok (core_turned true) (of_family o at args)
  family_turned (Some (on_cell.Look form)) at (first r no_forms) = refl
  family_turned (Some (on_cell.Put form)) at (first r (first e no_forms)) = refl
  family_turned (Some (on_cell.Update form)) at (first r (first f args)) = refl
  family_turned (Some on_cell.Send) at (first r (first f args)) = refl
  family_turned o at args = refl

  bound_turned : (l : Bool) (s : Spot) (pairs forms : Forms) → bound_in l s (pairs_renamed old new pairs) (if binds old pairs then forms else all_renamed old new forms) ≡ on_ok (core_turned true) (bound_in l s pairs forms)
  bound_turned l s pairs forms =
      ap (λ (y : Bool). if y then Ok (parted (binding l (pairs_renamed old new pairs) (body (if binds old pairs then forms else all_renamed old new forms) s.span))) else refuse BadForm s.span) (are_pairs_same old new may pairs)
      ∙ by (are_pairs pairs)
    where
      seen : (y : Bool) → body (if y then forms else all_renamed old new forms) s.span ≡ turned (true && not y) (body forms s.span)
      seen true = refl
      seen false = sym (body_stays old new may forms s.span)

      by : (y : Bool) → (if y then Ok (parted (binding l (pairs_renamed old new pairs) (body (if binds old pairs then forms else all_renamed old new forms) s.span))) else refuse BadForm s.span)
          ≡ on_ok (core_turned true) (if y then Ok (parted (binding l pairs (body forms s.span))) else refuse BadForm s.span)
      by true = ap (λ f. Ok (parted (binding l (pairs_renamed old new pairs) f))) (seen (binds old pairs))
      by false = refl

  special_is : (k : FormName) (s : Spot) (args : Forms) → special k s (args_renamed old new may (Some k) args) ≡ on_ok (core_turned true) (special k s args)
  special_is kind.If s (first c (first x no_forms)) = refl
  special_is kind.If s (first c (first x (first y no_forms))) = refl
  special_is kind.IfNot s (first c (first x no_forms)) = refl
  special_is kind.IfNot s (first c (first x (first y no_forms))) = refl
  special_is kind.Do s (first e rest) = refl
  special_is kind.Let s (first (group Square pairs at) forms) = bound_turned false s pairs forms
  special_is kind.Loop s (first (group Square pairs at) forms) = bound_turned true s pairs forms
  special_is kind.Recur s args = refl
  special_is kind.Println s args = refl
  special_is kind.Dosync s forms = ap (λ f. Ok (parted (one_part single.Dosync f))) (sym (body_stays old new may forms s.span))
  special_is kind.Let s no_forms = refl
  special_is kind.Let s (first (leaf x at) forms) = refl
  special_is kind.Let s (first (group Round pairs at) forms) = refl
  special_is kind.Loop s no_forms = refl
  special_is kind.Loop s (first (leaf x at) forms) = refl
  special_is kind.Loop s (first (group Round pairs at) forms) = refl
  special_is k s args = family_turned (cell_form k) s.span args

  applied_is : (c : Callee) (head : Form) (args : Forms) (at : Span) → form_at head ≡ None → applied c (renamed old new head) (all_renamed old new args) at ≡ core_turned true (applied c head args at)
  applied_is (CoreOp op) head args at is =
      ap (λ n. parted (row (sequence.Core op) (if is_chain op n then first (group Round (first (renamed old new head) (all_but_last (all_renamed old new args))) at) (first (last_of (renamed old new head) (all_renamed old new args)) no_forms) else all_renamed old new args))) (parts_same old new may args)
      ∙ ap (λ fs. parted (row (sequence.Core op) fs)) (by (is_chain op (parts args)))
    where
      by : (y : Bool) → (if y then first (group Round (first (renamed old new head) (all_but_last (all_renamed old new args))) at) (first (last_of (renamed old new head) (all_renamed old new args)) no_forms) else all_renamed old new args)
          ≡ all_renamed old new (if y then first (group Round (first head (all_but_last args)) at) (first (last_of head args) no_forms) else args)
      by true =
          ap (λ fs. first (group Round (first (renamed old new head) fs) at) (first (last_of (renamed old new head) (all_renamed old new args)) no_forms)) (all_but_last_renamed old new may args)
          ∙ ap (λ f. first (group Round (first (renamed old new head) (all_renamed old new (all_but_last args))) at) (first f no_forms)) (last_renamed old new may head args)
          ∙ sym (ap (λ o. first (group Round (first (renamed old new head) (if is_binding o then scope_renamed old new (all_but_last args) else all_renamed old new (all_but_last args))) at) (first (renamed old new (last_of head args)) no_forms)) is)
      by false = refl
  applied_is (TheFunction n) head args at is = refl

  callee_is : (on : Bool) (a b : Scope) → Matches on a b → (s : Spot) (f : Form) → Lacks new f → callee_of b s (turned on f) ≡ callee_of a s f
  callee_is true a b m s (leaf (symbol n) at) h = ap (λ k. callee_at k s at) (m.names n h)
  callee_is true a b m s f h = refl
  callee_is false a b m s (leaf (symbol n) at) h = ap (λ k. callee_at k s at) (m.names n h)
  callee_is false a b m s f h = refl

  room_is : (n : ℕ) (at : Span) (t : ACore → ACore) (x y : Answer ACore) → y ≡ on_ok t x → some_room n (refuse TooMany at) y ≡ on_ok t (some_room n (refuse TooMany at) x)
  room_is zero at t x y h = refl
  room_is (suc n) at t x y h = h

  -- what is called, with its arguments
  call_is : (c d : Answer Callee) (f g : Callee → ACore) (t : ACore → ACore) → d ≡ c → ((v : Callee) → g v ≡ t (f v)) → (d >>= λ v. Ok (g v)) ≡ on_ok t (c >>= λ v. Ok (f v))
  call_is c d f g t e h = ap (λ x. x >>= λ v. Ok (g v)) e ∙ by c
    where
      by : (x : Answer Callee) → (x >>= λ v. Ok (g v)) ≡ on_ok t (x >>= λ v. Ok (f v))
      by (Ok v) = ap Ok (h v)
      by (Err k) = refl

  core_is : (on : Bool) (a b : Scope) → Matches on a b → (s : Spot) (f : Form) → Lacks new f → core_of b s (turned on f) ≡ on_ok (core_turned on) (core_of a s f)
  core_is true a b m s (leaf x at) h = refl
  core_is true a b m s (group Square no_forms at) h = refl
  core_is true a b m s (group Square (first e rest) at) h = refl
  core_is true a b m s (group Round no_forms at) h = refl
  core_is true a b m s (group Round (first head args) at) h =
      ap (λ o. list_core o b s (renamed old new head) (args_renamed old new may (form_at head) args)) (form_at_same old new may head) ∙ by (form_at head) refl
    where
      by : (o : Option FormName) → form_at head ≡ o → list_core o b s (renamed old new head) (args_renamed old new may o args) ≡ on_ok (core_turned true) (list_core o a s head args)
      by (Some k) is = special_is k s args
      by None is =
          room_is s.room s.span (core_turned true) (callee_of a s head >>= λ callee. Ok (applied callee head args s.span)) (callee_of b s (renamed old new head) >>= λ callee. Ok (applied callee (renamed old new head) (all_renamed old new args) s.span))
          (call_is (callee_of a s head) (callee_of b s (renamed old new head)) (λ c. applied c head args s.span) (λ c. applied c (renamed old new head) (all_renamed old new args) s.span) (core_turned true) (callee_is true a b m s head h.0) (λ c. applied_is c head args s.span is))
  core_is false a b m s (leaf x at) h = refl
  core_is false a b m s (group Square fs at) h = refl
  core_is false a b m s (group Round no_forms at) h = refl
  core_is false a b m s (group Round (first head args) at) h = by (form_at head)
    where
      by : (o : Option FormName) → list_core o b s head args ≡ on_ok (core_turned false) (list_core o a s head args)
      by (Some k) = all_unturned (special k s args)
      by None =
          room_is s.room s.span (core_turned false) (callee_of a s head >>= λ callee. Ok (applied callee head args s.span)) (callee_of b s head >>= λ callee. Ok (applied callee head args s.span))
          (call_is (callee_of a s head) (callee_of b s head) (λ c. applied c head args s.span) (λ c. applied c head args s.span) (core_turned false) (callee_is false a b m s head h.0) (λ c. sym (unturned (applied c head args s.span))))

  -- ---- the new name stands in no part

  family_lacks : (o : Option CellForm) (at : Span) (args : Forms) → AllLack new args → IfGives CoreLacks (of_family o at args)
  family_lacks (Some (on_cell.Look form)) at (first r no_forms) h = h.0
  family_lacks (Some (on_cell.Put form)) at (first r (first e no_forms)) h = (h.0, h.1.0)
  family_lacks (Some (on_cell.Update form)) at (first r (first f args)) h = (h.0, h.1.0, h.1.1)
  family_lacks (Some on_cell.Send) at (first r (first f args)) h = (h.0, h.1.0, h.1.1)
  family_lacks o at args h = tt

  pub body_lacks : (forms : Forms) (at : Span) → AllLack new forms → Lacks new (body forms at)
  body_lacks forms at h = (no_keyword new may.new_binds kind.Do refl, h)

  bound_lacks : (l : Bool) (s : Spot) (pairs forms : Forms) → AllLack new pairs → AllLack new forms → IfGives CoreLacks (bound_in l s pairs forms)
  bound_lacks l s pairs forms h k = by (are_pairs pairs)
    where
      by : (y : Bool) → IfGives CoreLacks (if y then Ok (parted (binding l pairs (body forms s.span))) else refuse BadForm s.span)
      by true = (h, body_lacks forms s.span k)
      by false = tt

  special_lacks : (k : FormName) (s : Spot) (args : Forms) → AllLack new args → IfGives CoreLacks (special k s args)
  special_lacks kind.If s (first c (first x no_forms)) h = (h.0, h.1.0, tt)
  special_lacks kind.If s (first c (first x (first y no_forms))) h = (h.0, h.1.0, h.1.1.0)
  special_lacks kind.IfNot s (first c (first x no_forms)) h = (h.0, h.1.0, tt)
  special_lacks kind.IfNot s (first c (first x (first y no_forms))) h = (h.0, h.1.0, h.1.1.0)
  special_lacks kind.Do s (first e rest) h = h
  special_lacks kind.Let s (first (group Square pairs at) forms) h = bound_lacks false s pairs forms h.0 h.1
  special_lacks kind.Loop s (first (group Square pairs at) forms) h = bound_lacks true s pairs forms h.0 h.1
  special_lacks kind.Recur s args h = h
  special_lacks kind.Println s args h = h
  special_lacks kind.Dosync s forms h = body_lacks forms s.span h
  special_lacks k s args h = family_lacks (cell_form k) s.span args h

  but_last_lacks : (fs : Forms) → AllLack new fs → AllLack new (all_but_last fs)
  but_last_lacks no_forms h = tt
  but_last_lacks (first e no_forms) h = tt
  but_last_lacks (first e (first f rest)) h = (h.0, but_last_lacks (first f rest) h.1)

  last_lacks : (e : Form) (fs : Forms) → Lacks new e → AllLack new fs → Lacks new (last_of e fs)
  last_lacks e no_forms h k = h
  last_lacks e (first f rest) h k = last_lacks f rest k.0 k.1

  applied_lacks : (c : Callee) (head : Form) (args : Forms) (at : Span) → Lacks new head → AllLack new args → CoreLacks (applied c head args at)
  applied_lacks (CoreOp op) head args at h k = by (is_chain op (parts args))
    where
      by : (y : Bool) → AllLack new (if y then first (group Round (first head (all_but_last args)) at) (first (last_of head args) no_forms) else args)
      by true = ((h, but_last_lacks args k), (last_lacks head args h k, tt))
      by false = k
  applied_lacks (TheFunction n) head args at h k = k

  core_lacks : (a : Scope) (s : Spot) (f : Form) → Lacks new f → IfGives CoreLacks (core_of a s f)
  core_lacks a s (leaf x at) h = h
  core_lacks a s (group Square fs at) h = h
  core_lacks a s (group Round no_forms at) h = tt
  core_lacks a s (group Round (first head args) at) h = by (form_at head)
    where
      called : (c : Answer Callee) → IfGives CoreLacks (c >>= λ callee. Ok (applied callee head args s.span))
      called (Ok c) = applied_lacks c head args s.span h.0 h.1
      called (Err e) = tt

      roomy : (n : ℕ) (x : Answer ACore) → IfGives CoreLacks x → IfGives CoreLacks (some_room n (refuse TooMany s.span) x)
      roomy zero x k = tt
      roomy (suc n) x k = k

      by : (o : Option FormName) → IfGives CoreLacks (list_core o a s head args)
      by (Some k) = special_lacks k s args h.1
      by None = roomy s.room (callee_of a s head >>= λ callee. Ok (applied callee head args s.span)) (called (callee_of a s head))

  -- ---- trees

  -- the names of a binding, and what is in scope behind it
  abbrev BoundFits : Bool → Answer Bound → Answer Bound → Type 0
  BoundFits on (Ok x) y = (z : Scope) × (y ≡ Ok (record { values = x.values; scope = z })) × Matches on x.scope z
  BoundFits on (Err e) y = y ≡ Err e

  bound_bind : {A : Type 0} (on : Bool) (x y : Answer A) (f g : A → Answer Bound) → y ≡ x → ((v : A) → BoundFits on (f v) (g v)) → BoundFits on (x >>= f) (y >>= g)
  bound_bind {A} on x y f g e h = subst (λ z. BoundFits on (x >>= f) (z >>= g)) (sym e) (by x)
    where
      by : (z : Answer A) → BoundFits on (z >>= f) (z >>= g)
      by (Ok v) = h v
      by (Err k) = refl

  values_fit : (on : Bool) (v : Tree) (x y : Answer Bound) → BoundFits on x y
      → BoundFits on (x >>= λ bound. Ok (record { values = more v bound.values; scope = bound.scope })) (y >>= λ bound. Ok (record { values = more v bound.values; scope = bound.scope }))
  values_fit on v (Ok p) y h = (h.0, ap (λ a. a >>= λ bound. Ok (record { values = more v bound.values; scope = bound.scope })) h.1, h.2)
  values_fit on v (Err e) y h = ap (λ a. a >>= λ bound. Ok (record { values = more v bound.values; scope = bound.scope })) h

  binder_fits : (on : Bool) (a b : Scope) → Matches on a b → (binder : Form) → Lacks new binder → (f g : List ℕ → Answer Bound) (behind : Bool)
      → ((name : List ℕ) → Matches (on && not (is_named old binder)) (with_local name a) (with_local name b) → BoundFits behind (f name) (g name))
      → BoundFits behind (bound_name a binder >>= f) (bound_name b binder >>= g)
  binder_fits on a b m (leaf (symbol n) at) h f g behind k =
      subst (λ l. BoundFits behind (bound_name a (leaf (symbol n) at) >>= f) ((if may_bind n then (if nat_lt l 200 then Ok n else refuse TooMany at) else refuse BadForm at) >>= g)) m.same
      (by (may_bind n) (nat_lt (length a.locals) 200))
    where
      by : (y z : Bool) → BoundFits behind ((if y then (if z then Ok n else refuse TooMany at) else refuse BadForm at) >>= f) ((if y then (if z then Ok n else refuse TooMany at) else refuse BadForm at) >>= g)
      by true true = k n (matches_behind on a b m n h)
      by true false = refl
      by false z = refl
  binder_fits on a b m binder h f g behind k = refl

  and_not : (on y z : Bool) → (on && not (y || z)) ≡ ((on && not y) && not z)
  and_not true true z = refl
  and_not true false z = refl
  and_not false y z = refl

  pairs_step : (on : Bool) (binder e : Form) (rest : Forms) → pairs_turned on (first binder (first e rest)) ≡ first binder (first (turned on e) (pairs_turned (on && not (is_named old binder)) rest))
  pairs_step true binder e rest = by (is_named old binder)
    where
      by : (y : Bool) → first binder (first (renamed old new e) (if y then rest else pairs_renamed old new rest)) ≡ first binder (first (renamed old new e) (pairs_turned (true && not y) rest))
      by true = refl
      by false = refl
  pairs_step false binder e rest = refl

  -- what the parts are resolved by
  module _ (by_a by_b : Resolver) (agree : (on : Bool) (a b : Scope) → Matches on a b → (wanted : Bool) (f : Form) → Lacks new f → by_b b wanted (turned on f) ≡ by_a a wanted f) where
    bindings_fit : (on : Bool) (a b : Scope) → Matches on a b → (fs : Forms) → AllLack new fs → BoundFits (on && not (binds old fs)) (named_bindings by_a a fs) (named_bindings by_b b (pairs_turned on fs))
    bindings_fit true a b m no_forms h = (b, refl, m)
    bindings_fit false a b m no_forms h = (b, refl, m)
    bindings_fit true a b m (first binder no_forms) h = refl
    bindings_fit false a b m (first binder no_forms) h = refl
    bindings_fit on a b m (first binder (first e rest)) h =
        let on1 = on && not (is_named old binder) in
        subst (λ fs. BoundFits (on && not (is_named old binder || binds old rest)) (named_bindings by_a a (first binder (first e rest))) (named_bindings by_b b fs)) (sym (pairs_step on binder e rest))
        (subst (λ o. BoundFits o (named_bindings by_a a (first binder (first e rest))) (named_bindings by_b b (first binder (first (turned on e) (pairs_turned on1 rest))))) (sym (and_not on (is_named old binder) (binds old rest)))
        (bound_bind (on1 && not (binds old rest)) (by_a a true e) (by_b b true (turned on e))
        (λ value. bound_name a binder >>= λ name. named_bindings by_a (with_local name a) rest >>= λ bound. Ok (record { values = more value bound.values; scope = bound.scope }))
        (λ value. bound_name b binder >>= λ name. named_bindings by_b (with_local name b) (pairs_turned on1 rest) >>= λ bound. Ok (record { values = more value bound.values; scope = bound.scope }))
        (agree on a b m true e h.1.0)
        (λ value. binder_fits on a b m binder h.0
        (λ name. named_bindings by_a (with_local name a) rest >>= λ bound. Ok (record { values = more value bound.values; scope = bound.scope }))
        (λ name. named_bindings by_b (with_local name b) (pairs_turned on1 rest) >>= λ bound. Ok (record { values = more value bound.values; scope = bound.scope }))
        (on1 && not (binds old rest))
        (λ name m1. values_fit (on1 && not (binds old rest)) value (named_bindings by_a (with_local name a) rest) (named_bindings by_b (with_local name b) (pairs_turned on1 rest))
        (bindings_fit on1 (with_local name a) (with_local name b) m1 rest h.1.1)))))

    all_fit : (on : Bool) (a b : Scope) → Matches on a b → (inner last : Bool) (fs : Forms) → AllLack new fs → named_all by_b b inner last (all_turned on fs) ≡ named_all by_a a inner last fs
    all_fit true a b m inner last no_forms h = refl
    all_fit false a b m inner last no_forms h = refl
    all_fit true a b m inner last (first e rest) h =
        bind_same (by_a a (flag inner last rest) e) (by_b b (flag inner last (all_renamed old new rest)) (renamed old new e))
        (λ node. named_all by_a a inner last rest >>= λ nodes. Ok (more node nodes)) (λ node. named_all by_b b inner last (all_renamed old new rest) >>= λ nodes. Ok (more node nodes))
        (ap (λ w. by_b b w (renamed old new e)) (flag_same old new may inner last rest) ∙ agree true a b m (flag inner last rest) e h.0)
        (λ node. ap (λ x. x >>= λ nodes. Ok (more node nodes)) (all_fit true a b m inner last rest h.1))
    all_fit false a b m inner last (first e rest) h =
        bind_same (by_a a (flag inner last rest) e) (by_b b (flag inner last rest) e)
        (λ node. named_all by_a a inner last rest >>= λ nodes. Ok (more node nodes)) (λ node. named_all by_b b inner last rest >>= λ nodes. Ok (more node nodes))
        (agree false a b m (flag inner last rest) e h.0)
        (λ node. ap (λ x. x >>= λ nodes. Ok (more node nodes)) (all_fit false a b m inner last rest h.1))

    parts_turned : (on : Bool) (fs : Forms) → parts (all_turned on fs) ≡ parts fs
    parts_turned true fs = parts_same old new may fs
    parts_turned false fs = refl

    body_fit : (on l : Bool) (wanted : Bool) (f : Form) → Lacks new f → (s : Spot) (x y : Answer Bound) → BoundFits on x y
        → (y >>= λ bound. by_b bound.scope wanted (turned on f) >>= λ node. Ok (binding_node l bound.values node (spot_mark s)))
        ≡ (x >>= λ bound. by_a bound.scope wanted f >>= λ node. Ok (binding_node l bound.values node (spot_mark s)))
    body_fit on l wanted f lacks s (Ok p) y h =
        ap (λ a. a >>= λ bound. by_b bound.scope wanted (turned on f) >>= λ node. Ok (binding_node l bound.values node (spot_mark s))) h.1
        ∙ ap (λ a. a >>= λ node. Ok (binding_node l p.values node (spot_mark s))) (agree on p.scope h.0 h.2 wanted f lacks)
    body_fit on l wanted f lacks s (Err e) y h = ap (λ a. a >>= λ bound. by_b bound.scope wanted (turned on f) >>= λ node. Ok (binding_node l bound.values node (spot_mark s))) h

    put_fit : (on : Bool) (a b : Scope) → Matches on a b → (s : Spot) (sp : Special) → SpecialLacks sp → put_together by_b b s (special_turned on sp) ≡ put_together by_a a s sp
    put_fit on a b m s (row k fs) h =
        ap (λ x. x >>= λ nodes. Ok (sequence_node k nodes (spot_mark s)))
        (narrow_same (parts (all_turned on fs)) (parts fs) s (named_all by_a a (are_wanted k) (are_wanted k || s.wanted) fs) (named_all by_b b (are_wanted k) (are_wanted k || s.wanted) (all_turned on fs))
        (parts_turned on fs) (all_fit on a b m (are_wanted k) (are_wanted k || s.wanted) fs h))
    put_fit on a b m s (one_part k f) h = ap (λ x. x >>= λ node. Ok (single_node k node (spot_mark s))) (agree on a b m (is_wanted k || s.wanted) f h)
    put_fit on a b m s (putting k r e) h =
        bind_same (by_a a true r) (by_b b true (turned on r)) (λ cell. by_a a true e >>= λ value. Ok (Put k cell value (spot_mark s))) (λ cell. by_b b true (turned on e) >>= λ value. Ok (Put k cell value (spot_mark s)))
        (agree on a b m true r h.0) (λ cell. ap (λ x. x >>= λ value. Ok (Put k cell value (spot_mark s))) (agree on a b m true e h.1))
    put_fit on a b m s (choice t c x y) h =
        bind_same (by_a a true c) (by_b b true (turned on c))
        (λ test. by_a a s.wanted x >>= λ one. by_a a s.wanted y >>= λ other. Ok (choice_node t test one other (spot_mark s)))
        (λ test. by_b b s.wanted (turned on x) >>= λ one. by_b b s.wanted (turned on y) >>= λ other. Ok (choice_node t test one other (spot_mark s)))
        (agree on a b m true c h.0)
        (λ test. bind_same (by_a a s.wanted x) (by_b b s.wanted (turned on x))
        (λ one. by_a a s.wanted y >>= λ other. Ok (choice_node t test one other (spot_mark s))) (λ one. by_b b s.wanted (turned on y) >>= λ other. Ok (choice_node t test one other (spot_mark s)))
        (agree on a b m s.wanted x h.1) (λ one. ap (λ z. z >>= λ other. Ok (choice_node t test one other (spot_mark s))) (agree on a b m s.wanted y h.2)))
    put_fit on a b m s (binding l pairs f) h = body_fit (on && not (binds old pairs)) l s.wanted f h.1 s (named_bindings by_a a pairs) (named_bindings by_b b (pairs_turned on pairs)) (bindings_fit on a b m pairs h.0)
    put_fit on a b m s (changing k r f args) h =
        bind_same (by_a a true r) (by_b b true (turned on r))
        (λ cell. callee_of a s f >>= λ callee. narrow (suc (parts args)) s (named_all by_a a true true args) >>= λ nodes. Ok (change_node k cell callee nodes (spot_mark s)))
        (λ cell. callee_of b s (turned on f) >>= λ callee. narrow (suc (parts (all_turned on args))) s (named_all by_b b true true (all_turned on args)) >>= λ nodes. Ok (change_node k cell callee nodes (spot_mark s)))
        (agree on a b m true r h.0)
        (λ cell. bind_same (callee_of a s f) (callee_of b s (turned on f))
        (λ callee. narrow (suc (parts args)) s (named_all by_a a true true args) >>= λ nodes. Ok (change_node k cell callee nodes (spot_mark s)))
        (λ callee. narrow (suc (parts (all_turned on args))) s (named_all by_b b true true (all_turned on args)) >>= λ nodes. Ok (change_node k cell callee nodes (spot_mark s)))
        (callee_is on a b m s f h.1)
        (λ callee. ap (λ x. x >>= λ nodes. Ok (change_node k cell callee nodes (spot_mark s)))
        (narrow_same (suc (parts (all_turned on args))) (suc (parts args)) s (named_all by_a a true true args) (named_all by_b b true true (all_turned on args)) (ap suc (parts_turned on args)) (all_fit on a b m true true args h.2))))

    leaf_fit : (on : Bool) (a b : Scope) → Matches on a b → (s : Spot) (x : Leaf) → LeafLacks new x → leaf_node b (leaf_turned on x) s ≡ leaf_node a x s
    leaf_fit true a b m s (symbol n) h = ap (λ k. symbol_node k s) (m.names n h)
    leaf_fit true a b m s x h = refl
    leaf_fit false a b m s (symbol n) h = ap (λ k. symbol_node k s) (m.names n h)
    leaf_fit false a b m s x h = refl

    made_fit : (on : Bool) (a b : Scope) → Matches on a b → (s : Spot) (c : ACore) → CoreLacks c → made by_b b s (core_turned on c) ≡ made by_a a s c
    made_fit on a b m s (whole x) h = leaf_fit on a b m s x h
    made_fit on a b m s (parted sp) h = ap (in_room s) (put_fit on a b m s sp h)

    place_turned : (on : Bool) (f : Form) → place (turned on f) ≡ place f
    place_turned true f = place_same old new may f
    place_turned false f = refl

    expanded_turned : (on : Bool) (f : Form) → expand_once (turned on f) ≡ turned on (expand_once f)
    expanded_turned true f = expanded old new may f
    expanded_turned false f = refl

    resolved_fit : (room : ℕ) (on : Bool) (a b : Scope) → Matches on a b → (wanted : Bool) (f : Form) → Lacks new f → resolved by_b room b wanted (turned on f) ≡ resolved by_a room a wanted f
    resolved_fit room on a b m wanted f h =
        let s = spot_at room (place f) wanted in
        let inner : Lacks new (expand_once f) = lacks_expanded new may.new_binds may.new_written f h in
        ap (λ at. core_of b (spot_at room at wanted) (expand_once (turned on f)) >>= made by_b b (spot_at room at wanted)) (place_turned on f)
        ∙ ap (λ e. core_of b s e >>= made by_b b s) (expanded_turned on f)
        ∙ ap (λ x. x >>= made by_b b s) (core_is on a b m s (expand_once f) inner)
        ∙ by s (core_of a s (expand_once f)) (core_lacks a s (expand_once f) inner)
      where
        by : (s : Spot) (x : Answer ACore) → IfGives CoreLacks x → (on_ok (core_turned on) x >>= made by_b b s) ≡ (x >>= made by_a a s)
        by s (Ok c) k = made_fit on a b m s c k
        by s (Err e) k = refl

  alone_turned : (on : Bool) (f : Form) → alone (turned on f) ≡ turned on (alone f)
  alone_turned true f = alone_renamed old new may f
  alone_turned false f = refl

  -- a form has the same answer in matching scopes
  pub named_fit : (room : ℕ) (on : Bool) (a b : Scope) → Matches on a b → (wanted : Bool) (f : Form) → Lacks new f → named room b wanted (turned on f) ≡ named room a wanted f
  unfolding named
  named_fit zero on a b m wanted f h =
      ap (resolved (λ _ _ e. refuse TooMany (place e)) 0 b wanted) (alone_turned on f)
      ∙ resolved_fit (λ _ _ e. refuse TooMany (place e)) (λ _ _ e. refuse TooMany (place e)) (λ on1 a1 b1 m1 w e k. ap (refuse TooMany) (place_here on1 e)) 0 on a b m wanted (alone f) (lacks_alone new f h)
    where
      place_here : (on : Bool) (e : Form) → place (turned on e) ≡ place e
      place_here true e = place_same old new may e
      place_here false e = refl
  named_fit (suc room) on a b m wanted f h =
      ap (resolved (named room) (suc room) b wanted) (alone_turned on f)
      ∙ resolved_fit (named room) (named room) (λ on1 a1 b1 m1 w e k. named_fit room on1 a1 b1 m1 w e k) (suc room) on a b m wanted (alone f) (lacks_alone new f h)

  -- ---- the local itself

  -- behind the binding
  pub matches_here : (a b : Scope) → length a.locals ≡ length b.locals → ((n : List ℕ) → meaning n a ≡ meaning n b) → Matches true (with_local old a) (with_local new b)
  matches_here a b same alike = record { same = ap suc same; names = λ n other. by n other (bytes_eq n old) refl }
    where
      by : (n : List ℕ) → n ≢ new → (y : Bool) → bytes_eq n old ≡ y → meaning (if y then new else n) (with_local new b) ≡ meaning n (with_local old a)
      by n other true is =
          bound_name_is new b may.new_binds ∙ ap a_local (sym same) ∙ sym (bound_name_is old a may.old_binds)
          ∙ ap (λ z. meaning z (with_local old a)) (sym ((bytes_eq-Decides n old).0 is))
      by n other false is = others_stay new n b other ∙ sym (alike n) ∙ sym (others_stay old n a (unequal n old is))

  -- the parts of a `let` or `loop`: this binding stands among others
  module _ (by : Resolver) (agree : (on : Bool) (a b : Scope) → Matches on a b → (wanted : Bool) (f : Form) → Lacks new f → by b wanted (turned on f) ≡ by a wanted f)
      (here : Span) (e : Form) (behind : Forms) (lacks : AllLack new behind) where
    -- names and values with this one among them, whose name is given, and what stands behind it
    abbrev among : Forms → List ℕ → Forms → Forms
    among before name rest = joined before (first (leaf (symbol name) here) (first e rest))

    this_fits : (a : Scope) → BoundFits (not (binds old behind)) (named_bindings by a (among no_forms old behind)) (named_bindings by a (among no_forms new (pairs_renamed old new behind)))
    this_fits a = bound_bind (not (binds old behind)) (by a true e) (by a true e)
        (λ value. bound_name a (leaf (symbol old) here) >>= λ name. named_bindings by (with_local name a) behind >>= λ bound. Ok (record { values = more value bound.values; scope = bound.scope }))
        (λ value. bound_name a (leaf (symbol new) here) >>= λ name. named_bindings by (with_local name a) (pairs_renamed old new behind) >>= λ bound. Ok (record { values = more value bound.values; scope = bound.scope }))
        refl
        (λ value. subst (λ z. BoundFits (not (binds old behind)) ((if z then (if nat_lt (length a.locals) 200 then Ok old else refuse TooMany here) else refuse BadForm here) >>= λ name. named_bindings by (with_local name a) behind >>= λ bound. Ok (record { values = more value bound.values; scope = bound.scope }))
        (bound_name a (leaf (symbol new) here) >>= λ name. named_bindings by (with_local name a) (pairs_renamed old new behind) >>= λ bound. Ok (record { values = more value bound.values; scope = bound.scope }))) (sym may.old_binds)
        (subst (λ z. BoundFits (not (binds old behind)) ((if nat_lt (length a.locals) 200 then Ok old else refuse TooMany here) >>= λ name. named_bindings by (with_local name a) behind >>= λ bound. Ok (record { values = more value bound.values; scope = bound.scope }))
        ((if z then (if nat_lt (length a.locals) 200 then Ok new else refuse TooMany here) else refuse BadForm here) >>= λ name. named_bindings by (with_local name a) (pairs_renamed old new behind) >>= λ bound. Ok (record { values = more value bound.values; scope = bound.scope }))) (sym may.new_binds)
        (by_room (nat_lt (length a.locals) 200) value)))
      where
        by_room : (y : Bool) (value : Tree) → BoundFits (not (binds old behind)) ((if y then Ok old else refuse TooMany here) >>= λ name. named_bindings by (with_local name a) behind >>= λ bound. Ok (record { values = more value bound.values; scope = bound.scope }))
            ((if y then Ok new else refuse TooMany here) >>= λ name. named_bindings by (with_local name a) (pairs_renamed old new behind) >>= λ bound. Ok (record { values = more value bound.values; scope = bound.scope }))
        by_room true value = values_fit (not (binds old behind)) value (named_bindings by (with_local old a) behind) (named_bindings by (with_local new a) (pairs_renamed old new behind))
            (bindings_fit by by agree true (with_local old a) (with_local new a) (matches_here a a refl (λ n. refl)) behind lacks)
        by_room false value = refl

    front_fits : (before : Forms) → are_pairs before ≡ true → (a : Scope) → BoundFits (not (binds old behind)) (named_bindings by a (among before old behind)) (named_bindings by a (among before new (pairs_renamed old new behind)))
    front_fits no_forms pairs a = this_fits a
    front_fits (first x no_forms) pairs a = absurd (subst IsTrue (sym pairs) tt)
    front_fits (first x (first y rest)) pairs a = bound_bind (not (binds old behind)) (by a true y) (by a true y)
        (λ value. bound_name a x >>= λ name. named_bindings by (with_local name a) (among rest old behind) >>= λ bound. Ok (record { values = more value bound.values; scope = bound.scope }))
        (λ value. bound_name a x >>= λ name. named_bindings by (with_local name a) (among rest new (pairs_renamed old new behind)) >>= λ bound. Ok (record { values = more value bound.values; scope = bound.scope }))
        refl
        (λ value. bound_bind (not (binds old behind)) (bound_name a x) (bound_name a x)
        (λ name. named_bindings by (with_local name a) (among rest old behind) >>= λ bound. Ok (record { values = more value bound.values; scope = bound.scope }))
        (λ name. named_bindings by (with_local name a) (among rest new (pairs_renamed old new behind)) >>= λ bound. Ok (record { values = more value bound.values; scope = bound.scope }))
        refl
        (λ name. values_fit (not (binds old behind)) value (named_bindings by (with_local name a) (among rest old behind)) (named_bindings by (with_local name a) (among rest new (pairs_renamed old new behind)))
        (front_fits rest (and_second (is_symbol x) (are_pairs rest) pairs) (with_local name a))))

    among_pairs : (before : Forms) → are_pairs before ≡ true → are_pairs (among before new (pairs_renamed old new behind)) ≡ are_pairs (among before old behind)
    among_pairs no_forms pairs = are_pairs_same old new may behind
    among_pairs (first x no_forms) pairs = absurd (subst IsTrue (sym pairs) tt)
    among_pairs (first x (first y rest)) pairs = ap (λ (z : Bool). is_symbol x && z) (among_pairs rest (and_second (is_symbol x) (are_pairs rest) pairs))

    -- the tree of the whole
    binding_fits : (before : Forms) → are_pairs before ≡ true → (l : Bool) (forms : Forms) → AllLack new forms → (s : Spot) (a : Scope)
        → (bound_in l s (among before new (pairs_renamed old new behind)) (if binds old behind then forms else all_renamed old new forms) >>= made by a s) ≡ (bound_in l s (among before old behind) forms >>= made by a s)
    binding_fits before pairs l forms free s a =
        ap (λ (y : Bool). (if y then Ok (parted (binding l (among before new (pairs_renamed old new behind)) (body (if binds old behind then forms else all_renamed old new forms) s.span))) else refuse BadForm s.span) >>= made by a s) (among_pairs before pairs)
        ∙ split (are_pairs (among before old behind))
      where
        seen : (y : Bool) → body (if y then forms else all_renamed old new forms) s.span ≡ turned (not y) (body forms s.span)
        seen true = refl
        seen false = sym (body_stays old new may forms s.span)

        split : (y : Bool) → ((if y then Ok (parted (binding l (among before new (pairs_renamed old new behind)) (body (if binds old behind then forms else all_renamed old new forms) s.span))) else refuse BadForm s.span) >>= made by a s)
            ≡ ((if y then Ok (parted (binding l (among before old behind) (body forms s.span))) else refuse BadForm s.span) >>= made by a s)
        split true =
            ap (λ f. made by a s (parted (binding l (among before new (pairs_renamed old new behind)) f))) (seen (binds old behind))
            ∙ ap (in_room s) (body_fit by by agree (not (binds old behind)) l s.wanted (body forms s.span) (body_lacks forms s.span free) s
            (named_bindings by a (among before old behind)) (named_bindings by a (among before new (pairs_renamed old new behind))) (front_fits before pairs a))
        split false = refl

  refusing : Resolver
  refusing = λ _ _ e. refuse TooMany (place e)

  refusing_agrees : (on : Bool) (a b : Scope) → Matches on a b → (wanted : Bool) (f : Form) → Lacks new f → refusing b wanted (turned on f) ≡ refusing a wanted f
  unfolding refusing
  refusing_agrees true a b m wanted f h = ap (refuse TooMany) (place_same old new may f)
  refusing_agrees false a b m wanted f h = refl

  let_alone : (pairs : Forms) (there : Span) (forms : Forms) (at : Span) → alone (binding_form kind.Let pairs there forms at) ≡ binding_form kind.Let pairs there forms at
  let_alone pairs there no_forms at = refl
  let_alone pairs there (first f rest) at = refl

  loop_alone : (pairs : Forms) (there : Span) (forms : Forms) (at : Span) → alone (binding_form kind.Loop pairs there forms at) ≡ binding_form kind.Loop pairs there forms at
  loop_alone pairs there no_forms at = refl
  loop_alone pairs there (first f rest) at = refl

  pub let_renamed : (room : ℕ) (scope : Scope) (wanted : Bool) (before : Forms) (here : Span) (e : Form) (behind : Forms) (there : Span) (forms : Forms) (at : Span)
      → are_pairs before ≡ true → AllLack new behind → AllLack new forms
      → named room scope wanted (binding_form kind.Let (joined before (first (leaf (symbol new) here) (first e (pairs_renamed old new behind)))) there (if binds old behind then forms else all_renamed old new forms) at)
      ≡ named room scope wanted (binding_form kind.Let (joined before (first (leaf (symbol old) here) (first e behind))) there forms at)
  unfolding named refusing
  let_renamed zero scope wanted before here e behind there forms at pairs lacks free =
      ap (resolved refusing 0 scope wanted) (let_alone (joined before (first (leaf (symbol new) here) (first e (pairs_renamed old new behind)))) there (if binds old behind then forms else all_renamed old new forms) at)
      ∙ binding_fits refusing refusing_agrees here e behind lacks before pairs false forms free (spot_at 0 at wanted) scope
      ∙ sym (ap (resolved refusing 0 scope wanted) (let_alone (joined before (first (leaf (symbol old) here) (first e behind))) there forms at))
  let_renamed (suc room) scope wanted before here e behind there forms at pairs lacks free =
      ap (resolved (named room) (suc room) scope wanted) (let_alone (joined before (first (leaf (symbol new) here) (first e (pairs_renamed old new behind)))) there (if binds old behind then forms else all_renamed old new forms) at)
      ∙ binding_fits (named room) (named_fit room) here e behind lacks before pairs false forms free (spot_at (suc room) at wanted) scope
      ∙ sym (ap (resolved (named room) (suc room) scope wanted) (let_alone (joined before (first (leaf (symbol old) here) (first e behind))) there forms at))

  pub loop_renamed : (room : ℕ) (scope : Scope) (wanted : Bool) (before : Forms) (here : Span) (e : Form) (behind : Forms) (there : Span) (forms : Forms) (at : Span)
      → are_pairs before ≡ true → AllLack new behind → AllLack new forms
      → named room scope wanted (binding_form kind.Loop (joined before (first (leaf (symbol new) here) (first e (pairs_renamed old new behind)))) there (if binds old behind then forms else all_renamed old new forms) at)
      ≡ named room scope wanted (binding_form kind.Loop (joined before (first (leaf (symbol old) here) (first e behind))) there forms at)
  unfolding named refusing
  loop_renamed zero scope wanted before here e behind there forms at pairs lacks free =
      ap (resolved refusing 0 scope wanted) (loop_alone (joined before (first (leaf (symbol new) here) (first e (pairs_renamed old new behind)))) there (if binds old behind then forms else all_renamed old new forms) at)
      ∙ binding_fits refusing refusing_agrees here e behind lacks before pairs true forms free (spot_at 0 at wanted) scope
      ∙ sym (ap (resolved refusing 0 scope wanted) (loop_alone (joined before (first (leaf (symbol old) here) (first e behind))) there forms at))
  loop_renamed (suc room) scope wanted before here e behind there forms at pairs lacks free =
      ap (resolved (named room) (suc room) scope wanted) (loop_alone (joined before (first (leaf (symbol new) here) (first e (pairs_renamed old new behind)))) there (if binds old behind then forms else all_renamed old new forms) at)
      ∙ binding_fits (named room) (named_fit room) here e behind lacks before pairs true forms free (spot_at (suc room) at wanted) scope
      ∙ sym (ap (resolved (named room) (suc room) scope wanted) (loop_alone (joined before (first (leaf (symbol old) here) (first e behind))) there forms at))
