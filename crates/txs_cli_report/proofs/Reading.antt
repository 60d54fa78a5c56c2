-- Lists of plays, read item by item: the plays so far, and those that the rest says, are those of the whole text.
use Rattle.std.proofs.Common.{◌≡◌, ◌≢◌, ◌⊎◌, inl, inr, ◌≤◌, ℕ, ◌+◌, true, false, eqb, List, [], ◌∷◌, ◌++◌, length, Option, Some, None, Result, Ok, Err, refl, sym, ap, subst, ◌∙◌, append_assoc, arith}
use Rattle.std.proofs.lemmas.Bool.{true≢false}
use Rattle.std.proofs.lemmas.List.{append-nil}
use Rattle.txs_machine.specs.declared.schedule.Play.{Play}
use Rattle.txs_cli_report.specs.declared.plays.WrongPlay.{WrongPlay}
use Rattle.txs_cli_report.specs.declared.plays.ListError.{ListError}
use Rattle.txs_cli_report.specs.declared.plays.ListError.TheVariants.{Wrong, Memory}
use Rattle.txs_cli_report.specs.Plays.{item_in, items_in, followed, with_item, plays_of, plays_in, BeginsWithPlay, IsListError, IsItemError}
use Rattle.txs_cli_report.proofs.Cutting.{IsWithout, one_item, first_item}

abbrev Said : Type 0
Said = Result (List Play) WrongPlay

abbrev said : List Play → Said
said ps = Ok ps

abbrev wrong : WrongPlay → Said
wrong w = Err w

abbrev pub wrong_at : ℕ → List ℕ → WrongPlay
wrong_at from text = record { from = from; length = length text }

-- a text that isn't empty says what its items say
pub text_said : (text : List ℕ) → eqb (length text) 0 ≡ false → plays_in text ≡ plays_of 0 (items_in text)
text_said [] h = absurd (true≢false h)
text_said (b ∷ bs) h = refl

followed_twice : (ps qs : List Play) (r : Said) → followed ps (followed qs r) ≡ followed (ps ++ qs) r
followed_twice ps qs (Ok rs) = ap said (sym (append_assoc ps qs rs))
followed_twice ps qs (Err w) = refl

-- one more item is read
pub said_more : (plays ps new : List Play) (k next : ℕ) (rest item later : List ℕ) (whole : Said) → rest ≡ item ++ 44 ∷ later → IsWithout 44 item → item_in item ≡ Some ps → new ≡ plays ++ ps
    → next ≡ k + length item + 1 → followed plays (plays_of k (items_in rest)) ≡ whole → followed new (plays_of next (items_in later)) ≡ whole
said_more plays ps new k next rest item later whole cut without says pushed is before =
    let left : Said = plays_of (k + length item + 1) (items_in later) in
    ap (λ (n : ℕ). followed new (plays_of n (items_in later))) is ∙ ap (λ (l : List Play). followed l left) pushed ∙ sym (followed_twice plays ps left)
    ∙ ap (λ (o : Option (List Play)). followed plays (with_item k item o left)) (sym says)
    ∙ ap (λ (ts : List (List ℕ)). followed plays (plays_of k ts)) (sym (ap items_in cut ∙ first_item item later without)) ∙ before

-- the last item is read
pub said_last : (plays ps new : List Play) (k : ℕ) (rest : List ℕ) (whole : Said) → IsWithout 44 rest → item_in rest ≡ Some ps → new ≡ plays ++ ps → followed plays (plays_of k (items_in rest)) ≡ whole → whole ≡ Ok new
said_last plays ps new k rest whole without says pushed before =
    sym before ∙ ap (λ (ts : List (List ℕ)). followed plays (plays_of k ts)) (one_item rest without)
    ∙ ap (λ (o : Option (List Play)). followed plays (with_item k rest o (said []))) says
    ∙ ap (λ (l : List Play). said (plays ++ l)) (append-nil ps) ∙ ap said (sym pushed)

-- an item says no play
said_wrong : (plays : List Play) (k : ℕ) (rest item : List ℕ) (ts : List (List ℕ)) (whole : Said) → items_in rest ≡ item ∷ ts → item_in item ≡ None → followed plays (plays_of k (items_in rest)) ≡ whole → whole ≡ Err (wrong_at k item)
said_wrong plays k rest item ts whole parts none before =
    sym before ∙ ap (λ (l : List (List ℕ)). followed plays (plays_of k l)) parts ∙ ap (λ (o : Option (List Play)). followed plays (with_item k item o (plays_of (k + length item + 1) ts))) none

-- ---- errors

-- an item is the first of these, or the first says a play
abbrev pub HasBegun : List ℕ → List ℕ → Type 0
HasBegun text rest = (rest ≡ text) ⊎ BeginsWithPlay (items_in text)

begun : (text rest item : List ℕ) (ts : List (List ℕ)) → items_in rest ≡ item ∷ ts → (item_in item ≡ None → ⊥) → HasBegun text rest → BeginsWithPlay (items_in text)
begun text rest item ts parts says (inl is) = subst (λ xs. BeginsWithPlay (items_in xs)) is (subst BeginsWithPlay (sym parts) says)
begun text rest item ts parts says (inr h) = h

list_error : (text : List ℕ) (k : ℕ) (rest item : List ℕ) (ts : List (List ℕ)) (e : ListError) → items_in rest ≡ item ∷ ts → (item_in item ≡ None → plays_in text ≡ Err (wrong_at k item)) → HasBegun text rest → IsItemError k item e → IsListError text e
list_error text k rest item ts (Wrong w) parts f so h = f h.0 ∙ ap wrong (sym h.1)
list_error text k rest item ts Memory parts f so h = begun text rest item ts parts h so

-- the item before a comma says no play, or there is no memory
pub item_wrong : (plays : List Play) (k : ℕ) (text rest item later : List ℕ) (e : ListError) → rest ≡ item ++ 44 ∷ later → IsWithout 44 item → followed plays (plays_of k (items_in rest)) ≡ plays_in text → HasBegun text rest → IsItemError k item e → IsListError text e
item_wrong plays k text rest item later e cut without before so h =
    let parts = ap items_in cut ∙ first_item item later without in
    list_error text k rest item (items_in later) e parts (λ none. said_wrong plays k rest item (items_in later) (plays_in text) parts none before) so h

-- so does the last item
pub last_wrong : (plays : List Play) (k : ℕ) (text rest : List ℕ) (e : ListError) → IsWithout 44 rest → followed plays (plays_of k (items_in rest)) ≡ plays_in text → HasBegun text rest → IsItemError k rest e → IsListError text e
last_wrong plays k text rest e without before so h =
    list_error text k rest rest [] e (one_item rest without) (λ none. said_wrong plays k rest rest [] (plays_in text) (one_item rest without) none before) so h

none_is : (x : List Play) → None ≡ Some x → ⊥
none_is x e = absurd cc

-- behind an item that says plays
pub begun_on : (ps : List Play) (text rest item later more : List ℕ) → rest ≡ item ++ 44 ∷ later → IsWithout 44 item → item_in item ≡ Some ps → HasBegun text rest → HasBegun text more
begun_on ps text rest item later more cut without says so =
    inr (begun text rest item (items_in later) (ap items_in cut ∙ first_item item later without) (λ none. none_is ps (sym none ∙ says)) so)

-- the last item isn't empty where it says a play
pub some_last : (ps : List Play) (rest : List ℕ) → item_in rest ≡ Some ps → 1 ≤ length rest
some_last ps [] says = absurd (none_is ps says)
some_last ps (b ∷ bs) says = omega arith
