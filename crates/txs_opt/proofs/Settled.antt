-- Trees in which nothing is left to fold: a folded tree is one, and folding one changes nothing.
use Rattle.std.proofs.Common.{◌≡◌, Bool, true, false, List, [], ◌∷◌, length, Option, Some, None, Result, Ok, Err, refl, sym, ap, ◌∙◌, subst}
use Rattle.txs_value_apply.specs.Core.{core, takes, vector_of}
use Rattle.txs_value_apply.specs.Truth.{choose}
use Rattle.txs_value_data.specs.declared.fault.FaultKind.{FaultKind}
use Rattle.txs_value_data.specs.declared.op.Op.{Op}
use Rattle.txs_value_data.specs.declared.value.Value.{Value}
use Rattle.txs_value_data.specs.declared.value.Value.TheVariants.{Nil, Truth, Int, Key, Text, Vector, Cell}
use Rattle.txs_tree_meaning.specs.Tree.{Mark, Tree, Const, Local, If, Do, Let, Loop, Recur, Core, Call, VectorOf, Println, Dosync, Look, Put, Update, Send, Trees, none, more, PlainFunction, PlainThread, PlainProgram}
use Rattle.txs_opt.specs.Fold.{value_of, constants, settled, settled_on, settled_core, settled_vector, chosen, before, seen_items, whole, folded, folded_all, folded_functions, folded_threads, folded_program}

-- ---- what stays

-- a fault stays in the program
abbrev pub IsFault : Result Value FaultKind → Type 0
IsFault (Ok v) = ⊥
IsFault (Err k) = Unit {0}

abbrev pub StaysOn : Bool → Result Value FaultKind → Type 0
StaysOn false r = Unit {0}
StaysOn true r = IsFault r

-- an operation stays where its arguments aren't all constants, or it faults on them
abbrev pub CoreStays : Option (List Value) → Op → Type 0
CoreStays None op = Unit {0}
CoreStays (Some vs) op = StaysOn (takes op (length vs)) (core op vs)

-- so does a vector
abbrev pub VectorStays : Option (List Value) → Type 0
VectorStays None = Unit {0}
VectorStays (Some vs) = IsFault (vector_of vs)

-- the items of a do aren't one alone
abbrev pub Several : Trees → Type 0
Several none = Unit {0}
Several (more e none) = ⊥
Several (more e (more f rest)) = Unit {0}

-- none of them but the last is a constant
abbrev pub AllSeen : Trees → Type 0
AllSeen none = Unit {0}
AllSeen (more e none) = Unit {0}
AllSeen (more e (more f rest)) = (value_of e ≡ None) × AllSeen (more f rest)

abbrev mutual
  -- nothing is left to fold
  pub IsSettled : Tree → Type 0
  IsSettled (Const v m) = Unit {0}
  IsSettled (Local i m) = Unit {0}
  IsSettled (If c a b m) = (value_of c ≡ None) × IsSettled c × IsSettled a × IsSettled b
  IsSettled (Do items m) = Several items × AllSeen items × AreSettled items
  IsSettled (Let values body m) = AreSettled values × IsSettled body
  IsSettled (Loop values body m) = AreSettled values × IsSettled body
  IsSettled (Recur values m) = AreSettled values
  IsSettled (Core op args m) = CoreStays (constants args) op × AreSettled args
  IsSettled (Call f args m) = AreSettled args
  IsSettled (VectorOf items m) = VectorStays (constants items) × AreSettled items
  IsSettled (Println args m) = AreSettled args
  IsSettled (Dosync body m) = IsSettled body
  IsSettled (Look form cell m) = IsSettled cell
  IsSettled (Put form cell value m) = IsSettled cell × IsSettled value
  IsSettled (Update form cell callee args m) = IsSettled cell × AreSettled args
  IsSettled (Send cell callee args m) = IsSettled cell × AreSettled args

  pub AreSettled : Trees → Type 0
  AreSettled none = Unit {0}
  AreSettled (more e rest) = IsSettled e × AreSettled rest

-- ---- folding changes nothing of such a tree

settled_same : (r : Result Value FaultKind) (m : Mark) (e : Tree) → IsFault r → settled r m e ≡ e
settled_same (Ok v) m e h = absurd h
settled_same (Err k) m e h = refl

settled_on_same : (b : Bool) (vs : List Value) (op : Op) (es : Trees) (m : Mark) → StaysOn b (core op vs) → settled_on b vs op es m ≡ Core op es m
settled_on_same false vs op es m h = refl
settled_on_same true vs op es m h = settled_same (core op vs) m (Core op es m) h

settled_core_same : (o : Option (List Value)) (op : Op) (es : Trees) (m : Mark) → CoreStays o op → settled_core o op es m ≡ Core op es m
settled_core_same None op es m h = refl
settled_core_same (Some vs) op es m h = settled_on_same (takes op (length vs)) vs op es m h

settled_vector_same : (o : Option (List Value)) (es : Trees) (m : Mark) → VectorStays o → settled_vector o es m ≡ VectorOf es m
settled_vector_same None es m h = refl
settled_vector_same (Some vs) es m h = settled_same (vector_of vs) m (VectorOf es m) h

seen_same : (es : Trees) → AllSeen es → seen_items es ≡ es
seen_same none h = refl
seen_same (more e none) h = refl
seen_same (more e (more f rest)) h = ap (λ o. before o e (seen_items (more f rest))) h.0 ∙ ap (λ x. more e x) (seen_same (more f rest) h.1)

whole_same : (es : Trees) (m : Mark) → Several es → whole es m ≡ Do es m
whole_same none m h = refl
whole_same (more e none) m h = absurd h
whole_same (more e (more f rest)) m h = refl

mutual
  pub folded_same : (e : Tree) → IsSettled e → folded e ≡ e
  folded_same (Const v m) h = refl
  folded_same (Local i m) h = refl
  folded_same (If c a b m) h =
      let p = folded_same c h.1 in
      let q = folded_same a h.2 in
      let r = folded_same b h.3 in
      (λ i. chosen (value_of (p i)) (p i) (q i) (r i) m) ∙ ap (λ o. chosen o c a b m) h.0
  folded_same (Do items m) h = ap (λ es. whole (seen_items es) m) (all_same items h.2) ∙ ap (λ es. whole es m) (seen_same items h.1) ∙ whole_same items m h.0
  folded_same (Let values body m) h = let p = all_same values h.0 in let q = folded_same body h.1 in λ i. Let (p i) (q i) m
  folded_same (Loop values body m) h = let p = all_same values h.0 in let q = folded_same body h.1 in λ i. Loop (p i) (q i) m
  folded_same (Recur values m) h = ap (λ es. Recur es m) (all_same values h)
  folded_same (Core op args m) h = ap (λ es. settled_core (constants es) op es m) (all_same args h.1) ∙ settled_core_same (constants args) op args m h.0
  folded_same (Call f args m) h = ap (λ es. Call f es m) (all_same args h)
  folded_same (VectorOf items m) h = ap (λ es. settled_vector (constants es) es m) (all_same items h.1) ∙ settled_vector_same (constants items) items m h.0
  folded_same (Println args m) h = ap (λ es. Println es m) (all_same args h)
  folded_same (Dosync body m) h = ap (λ e. Dosync e m) (folded_same body h)
  folded_same (Look form cell m) h = ap (λ e. Look form e m) (folded_same cell h)
  folded_same (Put form cell value m) h = let p = folded_same cell h.0 in let q = folded_same value h.1 in λ i. Put form (p i) (q i) m
  folded_same (Update form cell callee args m) h = let p = folded_same cell h.0 in let q = all_same args h.1 in λ i. Update form (p i) callee (q i) m
  folded_same (Send cell callee args m) h = let p = folded_same cell h.0 in let q = all_same args h.1 in λ i. Send (p i) callee (q i) m

  all_same : (es : Trees) → AreSettled es → folded_all es ≡ es
  all_same none h = refl
  all_same (more e rest) h = let p = folded_same e h.0 in let q = all_same rest h.1 in λ i. more (p i) (q i)

-- ---- a folded tree is such a one

branch_settled : (v : Value) (a b : Tree) → IsSettled a → IsSettled b → IsSettled (choose v a b)
branch_settled Nil a b y z = z
branch_settled (Truth true) a b y z = y
branch_settled (Truth false) a b y z = z
branch_settled (Int n) a b y z = y
branch_settled (Key bs) a b y z = y
branch_settled (Text bs) a b y z = y
branch_settled (Vector vs) a b y z = y
branch_settled (Cell x) a b y z = y

chosen_settled : (o : Option Value) (c a b : Tree) (m : Mark) → value_of c ≡ o → IsSettled c → IsSettled a → IsSettled b → IsSettled (chosen o c a b m)
chosen_settled None c a b m is x y z = (is, x, y, z)
chosen_settled (Some v) c a b m is x y z = branch_settled v a b y z

core_settled : (r : Result Value FaultKind) (op : Op) (es : Trees) (m : Mark) → (IsFault r → IsSettled (Core op es m)) → IsSettled (settled r m (Core op es m))
core_settled (Ok v) op es m k = tt
core_settled (Err f) op es m k = k tt

core_on_settled : (b : Bool) (vs : List Value) (op : Op) (es : Trees) (m : Mark) → (StaysOn b (core op vs) → IsSettled (Core op es m)) → IsSettled (settled_on b vs op es m)
core_on_settled false vs op es m k = k tt
core_on_settled true vs op es m k = core_settled (core op vs) op es m k

settled_core_settled : (o : Option (List Value)) (op : Op) (es : Trees) (m : Mark) → constants es ≡ o → AreSettled es → IsSettled (settled_core o op es m)
settled_core_settled None op es m is h = (subst (λ p. CoreStays p op) (sym is) tt, h)
settled_core_settled (Some vs) op es m is h = core_on_settled (takes op (length vs)) vs op es m (λ stays. (subst (λ p. CoreStays p op) (sym is) stays, h))

vector_settled : (r : Result Value FaultKind) (es : Trees) (m : Mark) → (IsFault r → IsSettled (VectorOf es m)) → IsSettled (settled r m (VectorOf es m))
vector_settled (Ok v) es m k = tt
vector_settled (Err f) es m k = k tt

settled_vector_settled : (o : Option (List Value)) (es : Trees) (m : Mark) → constants es ≡ o → AreSettled es → IsSettled (settled_vector o es m)
settled_vector_settled None es m is h = (subst VectorStays (sym is) tt, h)
settled_vector_settled (Some vs) es m is h = vector_settled (vector_of vs) es m (λ stays. (subst VectorStays (sym is) stays, h))

front_seen : (e : Tree) (es : Trees) → value_of e ≡ None → AllSeen es → AllSeen (more e es)
front_seen e none is h = tt
front_seen e (more f rest) is h = (is, h)

before_seen : (o : Option Value) (e : Tree) (es : Trees) → value_of e ≡ o → AllSeen es → AllSeen (before o e es)
before_seen None e es is h = front_seen e es is h
before_seen (Some v) e es is h = h

seen_all : (es : Trees) → AllSeen (seen_items es)
seen_all none = tt
seen_all (more e none) = tt
seen_all (more e (more f rest)) = before_seen (value_of e) e (seen_items (more f rest)) refl (seen_all (more f rest))

before_settled : (o : Option Value) (e : Tree) (es : Trees) → IsSettled e → AreSettled es → AreSettled (before o e es)
before_settled None e es h k = (h, k)
before_settled (Some v) e es h k = k

seen_settled : (es : Trees) → AreSettled es → AreSettled (seen_items es)
seen_settled none h = tt
seen_settled (more e none) h = h
seen_settled (more e (more f rest)) h = before_settled (value_of e) e (seen_items (more f rest)) h.0 (seen_settled (more f rest) h.1)

whole_settled : (es : Trees) (m : Mark) → AllSeen es → AreSettled es → IsSettled (whole es m)
whole_settled none m s h = (tt, s, h)
whole_settled (more e none) m s h = h.0
whole_settled (more e (more f rest)) m s h = (tt, s, h)

mutual
  pub folded_settled : (e : Tree) → IsSettled (folded e)
  folded_settled (Const v m) = tt
  folded_settled (Local i m) = tt
  folded_settled (If c a b m) = chosen_settled (value_of (folded c)) (folded c) (folded a) (folded b) m refl (folded_settled c) (folded_settled a) (folded_settled b)
  folded_settled (Do items m) = whole_settled (seen_items (folded_all items)) m (seen_all (folded_all items)) (seen_settled (folded_all items) (all_settled items))
  folded_settled (Let values body m) = (all_settled values, folded_settled body)
  folded_settled (Loop values body m) = (all_settled values, folded_settled body)
  folded_settled (Recur values m) = all_settled values
  folded_settled (Core op args m) = settled_core_settled (constants (folded_all args)) op (folded_all args) m refl (all_settled args)
  folded_settled (Call f args m) = all_settled args
  folded_settled (VectorOf items m) = settled_vector_settled (constants (folded_all items)) (folded_all items) m refl (all_settled items)
  folded_settled (Println args m) = all_settled args
  folded_settled (Dosync body m) = folded_settled body
  folded_settled (Look form cell m) = folded_settled cell
  folded_settled (Put form cell value m) = (folded_settled cell, folded_settled value)
  folded_settled (Update form cell callee args m) = (folded_settled cell, all_settled args)
  folded_settled (Send cell callee args m) = (folded_settled cell, all_settled args)

  all_settled : (es : Trees) → AreSettled (folded_all es)
  all_settled none = tt
  all_settled (more e rest) = (folded_settled e, all_settled rest)

-- ---- programs

abbrev pub FunctionsSettled : List PlainFunction → Type 0
FunctionsSettled [] = Unit {0}
FunctionsSettled (f ∷ fs) = IsSettled f.body × FunctionsSettled fs

abbrev pub ThreadsSettled : List PlainThread → Type 0
ThreadsSettled [] = Unit {0}
ThreadsSettled (t ∷ ts) = IsSettled t.body × ThreadsSettled ts

pub functions_settled : (fs : List PlainFunction) → FunctionsSettled (folded_functions fs)
functions_settled [] = tt
functions_settled (f ∷ fs) = (folded_settled f.body, functions_settled fs)

pub threads_settled : (ts : List PlainThread) → ThreadsSettled (folded_threads ts)
threads_settled [] = tt
threads_settled (t ∷ ts) = (folded_settled t.body, threads_settled ts)

functions_same : (fs : List PlainFunction) → FunctionsSettled fs → folded_functions fs ≡ fs
functions_same [] h = refl
functions_same (f ∷ fs) h = let p = folded_same f.body h.0 in let q = functions_same fs h.1 in λ i. record f { body = p i } ∷ q i

threads_same : (ts : List PlainThread) → ThreadsSettled ts → folded_threads ts ≡ ts
threads_same [] h = refl
threads_same (t ∷ ts) h = let p = folded_same t.body h.0 in let q = threads_same ts h.1 in λ i. record t { body = p i } ∷ q i

pub program_same : (p : PlainProgram) → FunctionsSettled p.functions → ThreadsSettled p.threads → folded_program p ≡ p
program_same p f t = let x = functions_same p.functions f in let y = threads_same p.threads t in λ i. record { functions = x i; cells = p.cells; validator_spans = p.validator_spans; threads = y i }
