-- The tree of a form, by cases.
use Rattle.std.proofs.Common.{◌≡◌, Bool, List, [], ◌∷◌, ◌++◌, ℤ, Vec, ap, ◌∙◌, rules, ℕ, Global}
use Rattle.std.proofs.lemmas.List.{map-append}
use Rattle.txs_value_data.specs.declared.fault.Span.{Span}
use Rattle.txs_reader.specs.declared.form.Bracket.{Bracket}
use Rattle.txs_reader.specs.declared.form.Form.{Form, Nil, Truth, Number, Text, Keyword, Symbol, Group, the_lemmas}
use Rattle.txs_reader.specs.Tree.{text, nil, truth, number, keyword, symbol, PlainForm, leaf, group, tree, trees, trees_of}

pub tree-Nil : (span : Span) → tree (Nil span) ≡ leaf nil span
tree-Nil span = search (rules, the_lemmas)

pub tree-Truth : (b : Bool) (span : Span) → tree (Truth b span) ≡ leaf (truth b) span
tree-Truth b span = search (rules, the_lemmas)

pub tree-Keyword : (name : List ℕ) (span : Span) → tree (Keyword name span) ≡ leaf (keyword name) span
tree-Keyword name span = search (rules, the_lemmas)

pub tree-Number : (z : ℤ) (span : Span) → tree (Number z span) ≡ leaf (number z) span
tree-Number z span = search (rules, the_lemmas)

pub tree-Symbol : (name : List ℕ) (span : Span) → tree (Symbol name span) ≡ leaf (symbol name) span
tree-Symbol name span = search (rules, the_lemmas)

pub tree-Group : (b : Bracket) (v : Vec Form Global) (span : Span) → tree (Group b v span) ≡ group b (trees_of (trees v.items)) span
tree-Group b v span = search (rules, the_lemmas)

pub trees_sugar : (old mid new : List Form) (name : List ℕ) (span : Span) (form : Form) → trees old ≡ [] → mid ≡ old ++ Symbol name span ∷ [] → new ≡ mid ++ form ∷ [] → trees new ≡ leaf (symbol name) span ∷ tree form ∷ []
trees_sugar old mid new name span form none p q =
    ap trees q ∙ map-append tree mid _
    ∙ ap (λ (ts : List PlainForm). ts ++ tree form ∷ []) (ap trees p ∙ map-append tree old _ ∙ ap (λ (ts : List PlainForm). ts ++ tree (Symbol name span) ∷ []) none ∙ ap (λ (t : PlainForm). t ∷ []) (tree-Symbol name span))

pub tree-Text : (bytes : List ℕ) (span : Span) → tree (Text bytes span) ≡ leaf (text bytes) span
tree-Text bytes span = search (rules, the_lemmas)
