-- The row of forms that openings divide.
use Rattle.std.proofs.Common.{◌≡◌, ℕ, suc, ◌+◌, ◌-◌, ◌≤◌, List, [], ◌∷◌, ◌++◌, length, length-drop, take, drop, refl, sym, ap, subst, ◌∙◌, arith}
use Rattle.std.proofs.lemmas.List.{take_all, take-append-le, drop-append-le, take-append-drop, drop-drop, drop-take, length-take-le, take-map, length-map}
use Rattle.txs_reader.specs.declared.open_form.OpenForm.{OpenForm}
use Rattle.txs_reader.specs.declared.form.Form.{Form}
use Rattle.txs_reader.specs.Rows.{before_all, divided}
use Rattle.txs_reader.specs.Tree.{PlainForm, tree, trees}
use Rattle.txs_reader.specs.Script.{Open, opened, Holds}

pub before_all-push : (os : List OpenForm) (o : OpenForm) → before_all (os ++ o ∷ []) ≡ before_all os + o.before
before_all-push [] o = omega arith
before_all-push (p ∷ os) o = omega (arith, before_all-push os o)

-- one opening more
pub divided-push : (os : List OpenForm) (o : OpenForm) (ts : List PlainForm) → divided (os ++ o ∷ []) ts ≡ divided os ts ++ opened o.bracket o.from (take o.before (drop (before_all os) ts)) ∷ []
divided-push [] o ts = refl
divided-push (p ∷ os) o ts =
    ap (λ (ps : List Open). opened p.bracket p.from (take p.before ts) ∷ ps)
    (divided-push os o (drop p.before ts)
    ∙ ap (λ (us : List PlainForm). divided os (drop p.before ts) ++ opened o.bracket o.from (take o.before us) ∷ []) (drop-drop (before_all os) p.before ts))

-- forms behind them change nothing
pub divided-more : (os : List OpenForm) (ts us : List PlainForm) → before_all os ≤ length ts → divided os (ts ++ us) ≡ divided os ts
divided-more [] ts us le = refl
divided-more (o ∷ os) ts us le =
    ap (λ (vs : List PlainForm). opened o.bracket o.from vs ∷ divided os (drop o.before (ts ++ us))) (take-append-le o.before ts us (omega arith))
    ∙ ap (λ (vs : List PlainForm). opened o.bracket o.from (take o.before ts) ∷ divided os vs) (drop-append-le o.before ts us (omega arith))
    ∙ ap (λ (ps : List Open). opened o.bracket o.from (take o.before ts) ∷ ps) (divided-more os (drop o.before ts) us (omega (arith, length-drop o.before ts)))

-- forms up to the innermost opening suffice
pub divided-front : (os : List OpenForm) (ts : List PlainForm) (n : ℕ) → before_all os ≤ n → n ≤ length ts → divided os ts ≡ divided os (take n ts)
divided-front os ts n le short =
    ap (divided os) (sym (take-append-drop n ts))
    ∙ divided-more os (take n ts) (drop n ts) (omega (arith, length-take-le n ts short))

-- an opening more, which has all forms before it that stand behind the innermost one
pub divided-open : (os new : List OpenForm) (o : OpenForm) (ts : List PlainForm) (start len : ℕ) → new ≡ os ++ o ∷ [] → start ≡ before_all os → len ≡ length ts → o.before ≡ len - start → divided new ts ≡ divided os ts ++ opened o.bracket o.from (drop start ts) ∷ []
divided-open os new o ts start len is count all rest =
    ap (λ (xs : List OpenForm). divided xs ts) is
    ∙ divided-push os o ts
    ∙ ap (λ (us : List PlainForm). divided os ts ++ opened o.bracket o.from us ∷ [])
    (take_all o.before (drop (before_all os) ts) (omega (arith, length-drop (before_all os) ts, count, all, rest))
    ∙ ap (λ (n : ℕ). drop n ts) (sym count))

pub length-divided : (os : List OpenForm) (ts : List PlainForm) → length (divided os ts) ≡ length os
length-divided [] ts = refl
length-divided (o ∷ os) ts = ap suc (length-divided os (drop o.before ts))

-- the innermost opening, whose parts are taken out of the row
pub divided-close : (os new : List OpenForm) (o : OpenForm) (fs left : List Form) (start : ℕ) → os ≡ new ++ o ∷ [] → left ≡ take start fs → start ≡ before_all os → start ≤ length fs → divided os (trees fs) ≡ divided new (trees left) ++ opened o.bracket o.from (drop (start - o.before) (trees left)) ∷ []
divided-close os new o fs left start is rest count short =
    let ts = trees fs in
    let sum : start ≡ before_all new + o.before = count ∙ ap before_all is ∙ before_all-push new o in
    let long : start ≤ length ts = omega (arith, length-map fs tree, short) in
    let less : before_all new ≡ start - o.before = omega (arith, sum) in
    let front : take start ts ≡ trees left = take-map tree start fs ∙ ap trees (sym rest) in
    let made = λ (us : List PlainForm) (vs : List PlainForm). divided new us ++ opened o.bracket o.from vs ∷ [] in
    ap (λ (xs : List OpenForm). divided xs ts) is
    ∙ divided-push new o ts
    ∙ ap (λ (ps : List Open). ps ++ opened o.bracket o.from (take o.before (drop (before_all new) ts)) ∷ []) (divided-front new ts start (omega (arith, sum)) long)
    ∙ ap (made (take start ts))
    (sym (drop-take (before_all new) o.before ts)
    ∙ ap (λ (n : ℕ). drop (before_all new) (take n ts)) (sym sum)
    ∙ ap (λ (n : ℕ). drop n (take start ts)) less)
    ∙ ap (λ (us : List PlainForm). made us (drop (start - o.before) us)) front

-- the innermost opening, behind which no form stands
pub divided-fold : (os new : List OpenForm) (o : OpenForm) (ts : List PlainForm) → os ≡ new ++ o ∷ [] → divided os ts ≡ divided new ts ++ opened o.bracket o.from (take o.before (drop (before_all new) ts)) ∷ []
divided-fold os new o ts is = ap (λ (xs : List OpenForm). divided xs ts) is ∙ divided-push new o ts

pub alone : (os new : List OpenForm) (o : OpenForm) (ts : List PlainForm) (start : ℕ) → os ≡ new ++ o ∷ [] → start ≡ before_all os → drop start ts ≡ [] → drop (start - o.before) ts ≡ take o.before (drop (before_all new) ts)
alone os new o ts start is count none =
    let sum : start ≡ before_all new + o.before = count ∙ ap before_all is ∙ before_all-push new o in
    let less : start - o.before ≡ before_all new = omega (arith, sum) in
    let few : length (drop (before_all new) ts) ≤ o.before = omega (arith, sum, length-drop (before_all new) ts, length-drop start ts, ap length none) in
    ap (λ (n : ℕ). drop n ts) less ∙ sym (take_all o.before (drop (before_all new) ts) few)

-- where nothing is open, all forms of the row are whole
pub all_whole : (bytes rest : List ℕ) (os : List OpenForm) (ts : List PlainForm) (start : ℕ) → Holds bytes (divided os ts) (drop start ts) rest → length os ≡ 0 → start ≡ before_all os → rest ≡ [] → Holds bytes [] ts []
all_whole bytes rest [] ts start h none count ends = subst (λ (n : ℕ). Holds bytes [] (drop n ts) []) count (subst (λ (bs : List ℕ). Holds bytes [] (drop start ts) bs) ends h)
all_whole bytes rest (o ∷ os) ts start h none count ends = absurd (omega (arith, none))
