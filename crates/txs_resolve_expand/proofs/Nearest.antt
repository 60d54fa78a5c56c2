-- The local that a search finds is the nearest of its name.
use Rattle.std.proofs.Common.{◌≡◌, ◌≢◌, ℕ, Bool, true, false, bytes_eq, List, [], ◌∷◌, ◌++◌, length, Option, Some, None, if◌then◌else◌, refl, sym, ap, ◌∙◌, subst}
use Rattle.std.proofs.lemmas.Slice.Eq.{bytes_eq-Decides}
use Rattle.std.proofs.lemmas.Bool.Decides.{not_from_Decides}
use Rattle.txs_resolve_expand.specs.Nearest.{IsNearest, NoneNamed}
use Rattle.txs_resolve_expand.specs.Scope.{Scope, number_in, local_number}

abbrev Holds : Bool → Type 0
Holds true = Unit {0}
Holds false = ⊥

abbrev IsThere : Option ℕ → Type 0
IsThere None = ⊥
IsThere (Some i) = Unit {0}

abbrev the_number : Option ℕ → ℕ
the_number None = 0
the_number (Some i) = i

differs : (xs ys : List ℕ) → xs ≢ ys → bytes_eq xs ys ≡ false
differs xs ys h = by (bytes_eq xs ys) refl where
  by : (b : Bool) → bytes_eq xs ys ≡ b → bytes_eq xs ys ≡ false
  by true e = absurd (h ((bytes_eq-Decides xs ys).0 e))
  by false e = e

-- the number of a name among these
abbrev Split : List ℕ → ℕ → List (List ℕ) → Type 0
Split name i ns = (nearer : List (List ℕ)) × (outer : List (List ℕ)) × (ns ≡ nearer ++ name ∷ outer) × (i ≡ length outer) × NoneNamed name nearer

found_in : (name : List ℕ) (ns : List (List ℕ)) (i : ℕ) → number_in name ns ≡ Some i → Split name i ns
found_in name [] i h = absurd (subst IsThere (sym h) tt)
found_in name (n ∷ ns) i h = by (λ g. found_in name ns i g) (bytes_eq name n) refl h where
  by : (number_in name ns ≡ Some i → Split name i ns) → (b : Bool) → bytes_eq name n ≡ b → (if b then Some (length ns) else number_in name ns) ≡ Some i → Split name i (n ∷ ns)
  by rest true e g = ([], ns, ap (λ m. m ∷ ns) (sym ((bytes_eq-Decides name n).0 e)), sym (ap the_number g), tt)
  by rest false e g =
      let s = rest g in
      (n ∷ s.0, s.1, ap (λ l. n ∷ l) s.2, s.3, (not_from_Decides (bytes_eq name n) (bytes_eq-Decides name n) e, s.4))

missing_in : (name : List ℕ) (ns : List (List ℕ)) → number_in name ns ≡ None → NoneNamed name ns
missing_in name [] h = tt
missing_in name (n ∷ ns) h = by (λ g. missing_in name ns g) (bytes_eq name n) refl h where
  by : (number_in name ns ≡ None → NoneNamed name ns) → (b : Bool) → bytes_eq name n ≡ b → (if b then Some (length ns) else number_in name ns) ≡ None → NoneNamed name (n ∷ ns)
  by rest true e g = absurd (subst IsThere g tt)
  by rest false e g = (not_from_Decides (bytes_eq name n) (bytes_eq-Decides name n) e, rest g)

nowhere_in : (name : List ℕ) (ns : List (List ℕ)) → NoneNamed name ns → number_in name ns ≡ None
nowhere_in name [] h = refl
nowhere_in name (n ∷ ns) h = ap (λ b. if b then Some (length ns) else number_in name ns) (differs name n h.0) ∙ nowhere_in name ns h.1

behind : (name : List ℕ) (nearer outer : List (List ℕ)) → NoneNamed name nearer → number_in name (nearer ++ name ∷ outer) ≡ Some (length outer)
behind name [] outer h = ap (λ b. if b then Some (length outer) else number_in name outer) ((bytes_eq-Decides name name).1 refl)
behind name (n ∷ ns) outer h =
    ap (λ b. if b then Some (length (ns ++ name ∷ outer)) else number_in name (ns ++ name ∷ outer)) (differs name n h.0) ∙ behind name ns outer h.1

pub found : (name : List ℕ) (scope : Scope) (i : ℕ) → local_number name scope ≡ Some i → IsNearest name i scope
found name scope i h =
    let s = found_in name scope.locals i h in
    record { nearer = s.0; outer = s.1; whole = s.2; number = s.3; hides = s.4 }

pub alone : (name : List ℕ) (scope : Scope) (i : ℕ) → IsNearest name i scope → local_number name scope ≡ Some i
alone name scope i h = ap (number_in name) h.whole ∙ behind name h.nearer h.outer h.hides ∙ ap (λ k. Some k) (sym h.number)

pub missing : (name : List ℕ) (scope : Scope) → local_number name scope ≡ None → NoneNamed name scope.locals
missing name scope h = missing_in name scope.locals h

pub nowhere : (name : List ℕ) (scope : Scope) → NoneNamed name scope.locals → local_number name scope ≡ None
nowhere name scope h = nowhere_in name scope.locals h
