-- The bodies of functions and threads are theirs, and well typed.
use Rattle.std.proofs.Common.{◌≡◌, ℕ, zero, suc, ◌+◌, ◌<◌, ◌≤◌, max, true, false, List, [], ◌∷◌, ◌++◌, length, map, get_or, drop, Option, Some, None, refl, sym, ap, ◌∙◌, subst, length-append, append_assoc, arith}
use Rattle.std.proofs.Math.Seq.{drop-cons}
use Rattle.std.proofs.lemmas.List.{append-nil, drop_all}
use Rattle.std.specs.List.{range_with_len}
use Rattle.txs_value_data.specs.Places.{nth}
use Rattle.txs_value_data.specs.declared.op.Callee.{Callee}
use Rattle.txs_value_data.specs.declared.op.Callee.TheVariants.{Core as CoreOp, Function as FunctionOf}
use Rattle.txs_value_cell.specs.Cells.{Validators, validators_of}
use Rattle.txs_value_cell.specs.declared.cell.CellDefinition.{CellDefinition}
use Rattle.txs_value_data.specs.declared.fault.Span.{Span}
use Rattle.txs_value_data.specs.declared.value.Value.{Value}
use Rattle.txs_tree_meaning.specs.Known.{Known, inside_in, outside_in, pure_in, known_of, known_from, known}
use Rattle.txs_tree_meaning.specs.Sound.{Zone, in_function, in_thread, SoundTree, SoundFunction, SoundFunctions, SoundThreads, SoundValidator, SoundCells, nodes_of_functions}
use Rattle.txs_tree_meaning.specs.Tree.{Tree, PlainFunction, PlainThread, PlainProgram}
use Rattle.txs_tree_meaning.specs.View.{function_of, functions_of, thread_of, threads_of}
use Rattle.txs_tree_meaning.specs.declared.node.Function.{Function}
use Rattle.txs_tree_meaning.specs.declared.node.Thread.{Thread}
use Rattle.txs_code_meaning.specs.declared.instr.Instr.{Instr}
use Rattle.txs_code_meaning.specs.declared.instr.Instr.TheVariants.{Return, Halt}
use Rattle.txs_code_meaning.specs.Machine.{PlainInstr, PlainBody}
use Rattle.txs_code_meaning.specs.Machine as machine
use Rattle.txs_code_meaning.specs.PlainCode.{CodeBody, PlainCode, parameters_of, plain_instr, plain_instrs}
use Rattle.txs_code_meaning.specs.WellTyped.{Functions, FunctionKind, Owner, a_function, a_thread, plain, IsLawful, Fits, FitsStage, WellTyped, WellTypedBody, WellTypedFunctions, WellTypedThreads, WellTypedValidators, Depths, Stages}
use Rattle.txs_theorem_threads.proofs.Functions.{at_end, free_tree, known_front, nth_below}
use Rattle.txs_gen.specs.Bodies.{fresh, finished, made_at, functions_from, function_rooms, threads_from, thread_rooms}
use Rattle.txs_gen.specs.Emission.{Emission, AreLawful, emits, instrs_of, stored, top}
use Rattle.txs_gen.specs.Gen.{gen, locals_in}
use Rattle.txs_gen.specs.Generated.{spans_of, constants_of, constants_of_functions, constants_of_threads, numbers_in, numbers_in_all, AreFunctionsOf, AreBodiesOf, IsCodeOf}
use Rattle.txs_gen.proofs.Emissions.{make, constants_nodes}
use Rattle.txs_gen.proofs.Generation.{afters, tree_segment, locals_stored, Nested, Loops, Tells, kind_of}
use Rattle.txs_gen.proofs.Segments.{At, at_first, at_rest, at_middle, Lawful, lawful_append, within_all, within_first, Whole, plain_append, numbers_append, range_append, state, Here, Setting, depths_of, stages_of, depths_length, stages_length, tables_on, stand_append, stand_well_typed}

abbrev IsThere : {A : Type 0} → Option A → Type 0
IsThere None = ⊥
IsThere (Some a) = Unit {0}

-- what ends a body
abbrev pub ending : Owner → Instr
ending (a_function kind) = Return
ending a_thread = Halt

abbrev plain_ending : Owner → PlainInstr
plain_ending (a_function kind) = machine.Return
plain_ending a_thread = machine.Halt

ending_seen : (owner : Owner) (ps : List ℕ) (cs : List Value) (span : Span) → plain_instr ps cs (ending owner) span ≡ plain_ending owner
ending_seen (a_function kind) ps cs span = refl
ending_seen a_thread ps cs span = refl

ending_fits : (owner : Owner) (ps : List ℕ) (ds : Depths) (most at : ℕ) → Fits owner ps ds most at 1 (ending owner)
ending_fits (a_function kind) ps ds most at = (tt, refl)
ending_fits a_thread ps ds most at = (tt, refl)

ending_stage : (owner : Owner) (fs : Functions) (ss : Stages) (at : ℕ) → FitsStage fs owner ss at (plain 0) (ending owner)
ending_stage (a_function kind) fs ss at = refl
ending_stage a_thread fs ss at = refl

ending_lawful : (owner : Owner) (n : ℕ) (ps : List ℕ) (cs : List Value) (b : CodeBody) (at : ℕ) → IsLawful n ps cs b at (ending owner)
ending_lawful (a_function kind) n ps cs b at = tt
ending_lawful a_thread n ps cs b at = tt

ending_numbers : (owner : Owner) → numbers_in (ending owner ∷ []) ≡ []
ending_numbers (a_function kind) = refl
ending_numbers a_thread = refl

-- at the start of a body its parameters are there, and a recur in its tail position has as many values
abbrev pub Tail : ℕ → Option ℕ → Type 0
Tail d None = Unit {0}
Tail d (Some n) = d ≡ n

loops_at_start : (ds : Depths) (ss : Stages) (d : ℕ) (tail : Option ℕ) → Tail d tail → Here ds ss 0 0 (plain 0) → Loops ds ss 0 0 d 0 0 tail
loops_at_start ds ss d None t h = tt
loops_at_start ds ss d (Some n) t h = (omega (arith, t), h)

abbrev body : ℕ → List PlainInstr → PlainBody
body n is = record { locals = n; instrs = is }

-- the body of a tree
pub record IsRight (fs : Functions) (owner : Owner) (callable : ℕ) (cs : List Value) (t : Tree) (d : ℕ) (span : Span) (k : ℕ) : Type 0 where
  pub code : body (max d (stored t d)) (plain_instrs fs.parameters cs (made_at d t (ending owner) span k).instrs (made_at d t (ending owner) span k).spans) ≡ body (locals_in t d) (gen t d 0 0 0 ++ plain_ending owner ∷ [])
  pub as_many : length (made_at d t (ending owner) span k).spans ≡ length (made_at d t (ending owner) span k).instrs
  pub typed : WellTypedBody fs owner callable cs (made_at d t (ending owner) span k) (max 0 (top t 0))
  pub numbers : numbers_in (made_at d t (ending owner) span k).instrs ≡ range_with_len k (length (constants_of t))

tree_right : (fs : Functions) (owner : Owner) (callable : ℕ) (cs : List Value) (ks : List Known) → Tells fs callable ks → (zone : Zone) (t : Tree) → Nested owner 0 zone (inside_in ks t) (outside_in ks t) (pure_in ks t) → (d : ℕ) (tail : Option ℕ) → Tail d tail → SoundTree ks zone d tail t → (span : Span) (k : ℕ) → At cs k (constants_of t) → IsRight fs owner callable cs t d span k
tree_right fs owner callable cs ks told zone t j d tail w p span k a =
    let b = made_at d t (ending owner) span k in
    let hs = state 0 (plain 0) ∷ afters t 0 0 in
    let x : Setting = record { functions = fs; owner = owner; callable = callable; constants = cs; body = b; most = max 0 (top t 0); depths = depths_of hs; stages = stages_of hs } in
    let o = tables_on hs in
    let s = tree_segment x ks told t zone 0 d k 0 0 0 0 tail j p a (omega arith) (omega arith) (omega arith) (omega arith) o.0 o.1 (loops_at_start x.depths x.stages d tail w o.0) in
    let is = instrs_of t d 0 0 0 k in
    let last = ending owner ∷ [] in
    let whole : Whole x = record {
      same = omega (arith, depths_length hs, s.places, length-append is last);
      alike = omega (arith, stages_length hs, s.places, length-append is last);
      stand = stand_append x 0 is last s.stand (((1, s.leaves.0, s.high, ending_fits owner fs.parameters x.depths x.most (0 + length is)), (plain 0, s.leaves.1, ending_stage owner fs x.stages (0 + length is))), tt);
    } in
    let lawful : Lawful x 0 b.instrs = lawful_append x 0 is last (s.lawful whole (within_first x 0 is last (within_all x))) (ending_lawful owner callable fs.parameters cs b (0 + length is), tt) in
    let code = plain_append fs.parameters cs is last (spans_of t) (span ∷ []) s.as_many ∙ ap (λ l. l ++ plain_instr fs.parameters cs (ending owner) span ∷ []) s.seen ∙ ap (λ i. gen t d 0 0 0 ++ i ∷ []) (ending_seen owner fs.parameters cs span) in
    record {
      code = ap (λ n. body n (plain_instrs fs.parameters cs b.instrs b.spans)) (sym (locals_stored t ks zone d tail p)) ∙ ap (λ l. body (locals_in t d) l) code;
      as_many = omega (arith, length-append (spans_of t) (span ∷ []), length-append is last, s.as_many);
      typed = stand_well_typed x whole (omega arith) o.0 lawful;
      numbers = numbers_append is last ∙ ap (λ l. numbers_in is ++ l) (ending_numbers owner) ∙ append-nil (numbers_in is) ∙ s.numbers;
    }

-- the body of a function is that of a function of its kind
function_right : (fs : Functions) (callable : ℕ) (cs : List Value) (ks : List Known) → Tells fs callable ks → (f : PlainFunction) → SoundFunction ks f → (k : ℕ) → At cs k (constants_of f.body) → IsRight fs (a_function (kind_of (known_of ks f))) callable cs f.body f.parameters f.span k
function_right fs callable cs ks told f p k a =
    tree_right fs (a_function (kind_of (known_of ks f))) callable cs ks told in_function f.body (refl, (λ e. e), (λ e. e), λ e. e) f.parameters (Some f.parameters) refl p.1 f.span k a

thread_right : (fs : Functions) (callable : ℕ) (cs : List Value) (ks : List Known) → Tells fs callable ks → (t : PlainThread) → SoundTree ks in_thread 0 None t.body → (k : ℕ) → At cs k (constants_of t.body) → IsRight fs a_thread callable cs t.body 0 t.span k
thread_right fs callable cs ks told t p k a = tree_right fs a_thread callable cs ks told in_thread t.body (refl, refl) 0 None tt p t.span k a

-- of each function, one thing that is known of it
abbrev pub known_map : {A : Type 0} → (Known → A) → List Known → List PlainFunction → List A
known_map g ks [] = []
known_map g ks (f ∷ fs) = g (known_of ks f) ∷ known_map g (ks ++ known_of ks f ∷ []) fs

abbrev pub takes_many : Known → ℕ
takes_many k = k.parameters

map_append : {A : Type 0} (g : Known → A) (ks ls : List Known) → map g (ks ++ ls) ≡ map g ks ++ map g ls
map_append g [] ls = refl
map_append g (k ∷ ks) ls = ap (λ l. g k ∷ l) (map_append g ks ls)

map_known : {A : Type 0} (g : Known → A) (ks : List Known) (fs : List PlainFunction) → map g (known_from ks fs) ≡ map g ks ++ known_map g ks fs
map_known g ks [] = sym (append-nil (map g ks))
map_known g ks (f ∷ fs) =
    map_known g (ks ++ known_of ks f ∷ []) fs ∙ ap (λ l. l ++ known_map g (ks ++ known_of ks f ∷ []) fs) (map_append g ks (known_of ks f ∷ [])) ∙ append_assoc (map g ks) (g (known_of ks f) ∷ []) (known_map g (ks ++ known_of ks f ∷ []) fs)

nth_map : {A : Type 0} (g : Known → A) (ks : List Known) (f : ℕ) (k : Known) → nth ks f ≡ Some k → nth (map g ks) f ≡ Some (g k)
nth_map g [] f k e = absurd (subst IsThere (sym e) tt)
nth_map g (l ∷ ks) zero k e = let same : l ≡ k = cc in ap (λ x. Some (g x)) same
nth_map g (l ∷ ks) (suc f) k e = nth_map g ks f k e

-- what is known tells of itself
told_of : (all ks : List Known) (callable : ℕ) → ((f : ℕ) (k : Known) → nth ks f ≡ Some k → (f < callable) × (nth all f ≡ Some k)) → Tells (record { parameters = map takes_many all; kinds = map kind_of all }) callable ks
told_of all ks callable h = λ f k e. let r = h f k e in (r.0, nth_map takes_many all f k r.1, nth_map kind_of all f k r.1)

-- one more function is known
pub lawful_more : (ks : List Known) → AreLawful ks → (f : PlainFunction) → SoundFunction ks f → AreLawful (ks ++ known_of ks f ∷ [])
lawful_more ks w f p =
    at_end (λ k. (k.parameters ≤ 20) × (k.pure ≡ true → (k.inside ≡ false) × (k.outside ≡ false))) ks (known_of ks f) w (p.0, λ q. free_tree ks (λ g k e. (w g k e).1) f.body q)

pub lawful_from : (ks : List Known) → AreLawful ks → (fs : List PlainFunction) → SoundFunctions ks fs → AreLawful (known_from ks fs)
lawful_from ks w [] p = w
lawful_from ks w (f ∷ fs) p = lawful_from (ks ++ known_of ks f ∷ []) (lawful_more ks w f p.0) fs p.1

pub lawful_none : AreLawful []
lawful_none f k e = absurd (subst IsThere (sym e) tt)

-- a function's body has a span for each instruction
pub function_as_many : (f : PlainFunction) (cs : List Value) (ks : List Known) → AreLawful ks → SoundFunction ks f → length (made_at f.parameters f.body Return f.span (length cs)).spans ≡ length (made_at f.parameters f.body Return f.span (length cs)).instrs
function_as_many f cs ks w p =
    (function_right (record { parameters = map takes_many ks; kinds = map kind_of ks }) (length ks) (cs ++ (constants_of f.body ++ [])) ks (told_of ks ks (length ks) (λ g k e. (nth_below ks g k e, e))) f p (length cs) (at_middle cs (constants_of f.body) [])).as_many

pub thread_as_many : (t : PlainThread) (cs : List Value) (ks : List Known) → AreLawful ks → SoundTree ks in_thread 0 None t.body → length (made_at 0 t.body Halt t.span (length cs)).spans ≡ length (made_at 0 t.body Halt t.span (length cs)).instrs
thread_as_many t cs ks w p =
    (thread_right (record { parameters = map takes_many ks; kinds = map kind_of ks }) (length ks) (cs ++ (constants_of t.body ++ [])) ks (told_of ks ks (length ks) (λ g k e. (nth_below ks g k e, e))) t p (length cs) (at_middle cs (constants_of t.body) [])).as_many

-- what is right of functions, or of threads
pub record AreRight (P T : Type 0) (bodies : List CodeBody) (k n : ℕ) : Type 0 where
  pub are : P
  pub typed : T
  pub numbers : numbers_in_all bodies ≡ range_with_len k n

numbers_more : (cs ds : List Value) (is : List Instr) (bs : List CodeBody) (k : ℕ) → numbers_in is ≡ range_with_len k (length cs) → numbers_in_all bs ≡ range_with_len (k + length cs) (length ds) → numbers_in is ++ numbers_in_all bs ≡ range_with_len k (length (cs ++ ds))
numbers_more cs ds is bs k e f =
    ap (λ x. x ++ numbers_in_all bs) e ∙ ap (λ x. range_with_len k (length cs) ++ x) f ∙ range_append k (length cs) (length ds) ∙ ap (λ n. range_with_len k n) (sym (length-append cs ds))

-- the functions from one on, where those before it are known
functions_right : (all : List Known) (cs : List Value) (fs : List PlainFunction) (ks : List Known) (n k : ℕ) → AreLawful ks → known_from ks fs ≡ all → n ≡ length ks → SoundFunctions ks fs → At cs k (constants_of_functions fs) →
    AreRight (AreFunctionsOf (map takes_many all) cs (functions_from fs k) fs) (WellTypedFunctions (record { parameters = map takes_many all; kinds = map kind_of all }) n cs (functions_from fs k) (known_map kind_of ks fs) (function_rooms fs)) (functions_from fs k) k (length (constants_of_functions fs))
functions_right all cs [] ks n k w e m p a = record { are = tt; typed = (refl, refl); numbers = refl }
functions_right all cs (f ∷ fs) ks n k w e m p a =
    let told : Tells (record { parameters = map takes_many all; kinds = map kind_of all }) n ks =
    told_of all ks n (λ g l q. (omega (arith, m, nth_below ks g l q), subst (λ x. nth x g ≡ Some l) e (known_front ks (f ∷ fs) g l q))) in
    let first = function_right (record { parameters = map takes_many all; kinds = map kind_of all }) n cs ks told f p.0 k (at_first cs k (constants_of f.body) (constants_of_functions fs) a) in
    let rest = functions_right all cs fs (ks ++ known_of ks f ∷ []) (suc n) (k + length (constants_of f.body)) (lawful_more ks w f p.0) e (omega (arith, m, length-append ks (known_of ks f ∷ []))) p.1 (at_rest cs k (constants_of f.body) (constants_of_functions fs) a) in
    record {
      are = (record { parameters = refl; code = first.code; spans = refl; as_many = first.as_many }, rest.are);
      typed = (λ q. free_tree ks (λ g l e1. (w g l e1).1) f.body q, first.typed, rest.typed);
      numbers = numbers_more (constants_of f.body) (constants_of_functions fs) (made_at f.parameters f.body Return f.span k).instrs (functions_from fs (k + length (constants_of f.body))) k first.numbers rest.numbers;
    }

threads_right : (fs : Functions) (cs : List Value) (ks : List Known) → Tells fs (length fs.parameters) ks → (ts : List PlainThread) (k : ℕ) → SoundThreads ks ts → At cs k (constants_of_threads ts) →
    AreRight (AreBodiesOf fs.parameters cs (threads_from ts k) ts) (WellTypedThreads fs cs (threads_from ts k) (thread_rooms ts)) (threads_from ts k) k (length (constants_of_threads ts))
threads_right fs cs ks told [] k p a = record { are = tt; typed = refl; numbers = refl }
threads_right fs cs ks told (t ∷ ts) k p a =
    let first = thread_right fs (length fs.parameters) cs ks told t p.0.0 k (at_first cs k (constants_of t.body) (constants_of_threads ts) a) in
    let rest = threads_right fs cs ks told ts (k + length (constants_of t.body)) p.1 (at_rest cs k (constants_of t.body) (constants_of_threads ts) a) in
    record {
      are = (record { parameters = refl; code = first.code; spans = refl; as_many = first.as_many }, rest.are);
      typed = (refl, first.typed, rest.typed);
      numbers = numbers_more (constants_of t.body) (constants_of_threads ts) (made_at 0 t.body Halt t.span k).instrs (threads_from ts (k + length (constants_of t.body))) k first.numbers rest.numbers;
    }

-- the code of functions and threads
abbrev pub code_with : List CellDefinition → List Value → List CodeBody → List CodeBody → PlainCode
code_with zs cs fs ts = record { cells = zs; constants = cs; functions = fs; threads = ts }

abbrev pub code_from : List CellDefinition → List PlainFunction → List PlainThread → PlainCode
code_from zs fs ts = code_with zs (constants_of_functions fs ++ constants_of_threads ts) (functions_from fs 0) (threads_from ts (length (constants_of_functions fs)))

-- how many parameters each function has is known
parameters_known : (fs : List PlainFunction) (ks : List Known) (k : ℕ) → known_map takes_many ks fs ≡ parameters_of (functions_from fs k)
parameters_known [] ks k = refl
parameters_known (f ∷ fs) ks k = ap (λ l. f.parameters ∷ l) (parameters_known fs (ks ++ known_of ks f ∷ []) (k + length (constants_of f.body)))

all_parameters : (fs : List PlainFunction) → map takes_many (known fs) ≡ parameters_of (functions_from fs 0)
all_parameters fs = map_known takes_many [] fs ∙ parameters_known fs [] 0

all_kinds : (fs : List PlainFunction) → map kind_of (known fs) ≡ known_map kind_of [] fs
all_kinds fs = map_known kind_of [] fs

map_length : {A : Type 0} (g : Known → A) (ks : List Known) → length (map g ks) ≡ length ks
map_length g [] = refl
map_length g (k ∷ ks) = ap suc (map_length g ks)

-- a validator that is sound is well typed
validator_typed : (ks : List Known) (o : Option Callee) (vs : Validators) → SoundValidator ks o → WellTypedValidators (record { parameters = map takes_many ks; kinds = map kind_of ks }) vs → WellTypedValidators (record { parameters = map takes_many ks; kinds = map kind_of ks }) (o ∷ vs)
validator_typed ks None vs h rest = rest
validator_typed ks (Some (CoreOp op)) vs h rest = (h.0, tt, rest)
validator_typed ks (Some (FunctionOf f)) vs h rest =
    let told = told_of ks ks (length (map takes_many ks)) (λ g k e. (omega (arith, nth_below ks g k e, map_length takes_many ks), e)) f h.function h.found in
    ((told.0, told.1 ∙ ap (λ n. Some n) h.arity), (kind_of h.function, told.2, h.pure), rest)

-- so are those of sound cells
validators_typed : (ks : List Known) (ds : List CellDefinition) → SoundCells ks ds → WellTypedValidators (record { parameters = map takes_many ks; kinds = map kind_of ks }) (validators_of ds)
validators_typed ks [] h = tt
validators_typed ks (d ∷ ds) h = validator_typed ks d.validator (validators_of ds) h.0 (validators_typed ks ds h.1)

abbrev tells_of : List ℕ → List FunctionKind → Functions
tells_of ps is = record { parameters = ps; kinds = is }

module _ (zs : List CellDefinition) (fs : List PlainFunction) (ts : List PlainThread) (sound : SoundFunctions [] fs) (threads : SoundThreads (known fs) ts) where
  all_constants : List Value
  all_constants = constants_of_functions fs ++ constants_of_threads ts

  functions_are : AreRight (AreFunctionsOf (map takes_many (known fs)) all_constants (functions_from fs 0) fs) (WellTypedFunctions (record { parameters = map takes_many (known fs); kinds = map kind_of (known fs) }) 0 all_constants (functions_from fs 0) (known_map kind_of [] fs) (function_rooms fs)) (functions_from fs 0) 0 (length (constants_of_functions fs))
  unfolding all_constants
  functions_are = functions_right (known fs) all_constants fs [] 0 0 lawful_none refl refl sound (at_middle [] (constants_of_functions fs) (constants_of_threads ts))

  threads_are : AreRight (AreBodiesOf (map takes_many (known fs)) all_constants (threads_from ts (length (constants_of_functions fs))) ts) (WellTypedThreads (record { parameters = map takes_many (known fs); kinds = map kind_of (known fs) }) all_constants (threads_from ts (length (constants_of_functions fs))) (thread_rooms ts)) (threads_from ts (length (constants_of_functions fs))) (length (constants_of_functions fs)) (length (constants_of_threads ts))
  unfolding all_constants
  threads_are =
      let all = known fs in
      let told = told_of all all (length (map takes_many all)) (λ g k e. (omega (arith, nth_below all g k e, map_length takes_many all), e)) in
      threads_right (record { parameters = map takes_many all; kinds = map kind_of all }) all_constants all told ts (length (constants_of_functions fs)) threads
      (subst (λ l. At l (length (constants_of_functions fs)) (constants_of_threads ts)) (ap (λ l. constants_of_functions fs ++ l) (append-nil (constants_of_threads ts))) (at_middle (constants_of_functions fs) (constants_of_threads ts) []))

  pub code_right : (p : PlainProgram) → p.cells ≡ zs → p.functions ≡ fs → p.threads ≡ ts → IsCodeOf (code_from zs fs ts) p
  unfolding all_constants
  code_right p a b c =
      let n = length (constants_of_functions fs) in
      let m = length (constants_of_threads ts) in
      let from : n ≡ 0 + n = omega arith in
      let q : IsCodeOf (code_from zs fs ts) (record { functions = fs; cells = zs; validator_spans = p.validator_spans; threads = ts }) = record {
        cells = refl;
        functions = subst (λ l. AreFunctionsOf l all_constants (functions_from fs 0) fs) (all_parameters fs) functions_are.are;
        threads = subst (λ l. AreBodiesOf l all_constants (threads_from ts n) ts) (all_parameters fs) threads_are.are;
        constants = refl;
        entries = ap (λ l. l ++ numbers_in_all (threads_from ts n)) functions_are.numbers
            ∙ ap (λ l. range_with_len 0 n ++ l) threads_are.numbers
            ∙ ap (λ k. range_with_len 0 n ++ range_with_len k m) from
            ∙ range_append 0 n m
            ∙ ap (λ k. range_with_len 0 k) (sym (length-append (constants_of_functions fs) (constants_of_threads ts)));
      } in
      subst (λ x. IsCodeOf (code_from zs fs ts) (record { functions = p.functions; cells = p.cells; validator_spans = p.validator_spans; threads = x })) (sym c)
      (subst (λ x. IsCodeOf (code_from zs fs ts) (record { functions = p.functions; cells = x; validator_spans = p.validator_spans; threads = ts })) (sym a)
      (subst (λ x. IsCodeOf (code_from zs fs ts) (record { functions = x; cells = zs; validator_spans = p.validator_spans; threads = ts })) (sym b) q))

  pub code_well_typed : SoundCells (known fs) zs → WellTyped (code_from zs fs ts) (function_rooms fs) (thread_rooms ts)
  unfolding all_constants
  code_well_typed cells =
      let n = length (constants_of_functions fs) in
      let is = known_map kind_of [] fs in
      record {
        kinds = is;
        validators = subst (λ l. WellTypedValidators (tells_of (parameters_of (functions_from fs 0)) l) (validators_of zs)) (all_kinds fs)
            (subst (λ l. WellTypedValidators (tells_of l (map kind_of (known fs))) (validators_of zs)) (all_parameters fs) (validators_typed (known fs) zs cells));
        functions = subst (λ l. WellTypedFunctions (tells_of (parameters_of (functions_from fs 0)) l) 0 all_constants (functions_from fs 0) is (function_rooms fs)) (all_kinds fs)
            (subst (λ l. WellTypedFunctions (tells_of l (map kind_of (known fs))) 0 all_constants (functions_from fs 0) is (function_rooms fs)) (all_parameters fs) functions_are.typed);
        threads = subst (λ l. WellTypedThreads (tells_of (parameters_of (functions_from fs 0)) l) all_constants (threads_from ts n) (thread_rooms ts)) (all_kinds fs)
            (subst (λ l. WellTypedThreads (tells_of l (map kind_of (known fs))) all_constants (threads_from ts n) (thread_rooms ts)) (all_parameters fs) threads_are.typed);
      }

-- the code of all, from its parts
pub code_is : (ys zs : List CellDefinition) (cs ds : List Value) (fs gs ts us : List CodeBody) → ys ≡ zs → cs ≡ ds → fs ≡ gs → ts ≡ us → code_with ys cs fs ts ≡ code_with zs ds gs us
code_is ys zs cs ds fs gs ts us a b c d = ap (λ l. code_with l cs fs ts) a ∙ ap (λ l. code_with zs l fs ts) b ∙ ap (λ l. code_with zs ds l ts) c ∙ ap (λ l. code_with zs ds gs l) d

-- what is made of a body
abbrev pub made_body : ℕ → Emission → CodeBody
made_body d e = record { parameters = d; locals = e.locals; instrs = e.instrs; spans = e.spans }

module _ (d : ℕ) (t : Tree) (last : Instr) (span : Span) (cs : List Value) where
  pub finished_body : made_body d (finished d t last span cs) ≡ made_at d t last span (length cs)
  unfolding finished emits
  finished_body = refl

  pub finished_constants : (finished d t last span cs).constants ≡ cs ++ constants_of t
  unfolding finished emits
  finished_constants = refl

  pub finished_room : (finished d t last span cs).room ≡ max 0 (top t 0)
  unfolding finished emits
  finished_room = refl

  pub finished_spans : length (finished d t last span cs).spans ≡ length (made_at d t last span (length cs)).spans
  unfolding finished emits
  finished_spans = refl

  pub finished_instrs : length (finished d t last span cs).instrs ≡ length (made_at d t last span (length cs)).instrs
  unfolding finished emits
  finished_instrs = refl

-- no more constants come of functions than there are nodes
pub functions_nodes : (fs : List PlainFunction) → length (constants_of_functions fs) ≤ nodes_of_functions fs
functions_nodes [] = omega arith
functions_nodes (f ∷ fs) = omega (arith, length-append (constants_of f.body) (constants_of_functions fs), constants_nodes f.body, functions_nodes fs)

-- a step of a loop over functions
pub functions_left : (fs : List Function) (i : ℕ) (f : Function) → i < length fs → f ≡ get_or fs i f → functions_of (drop i fs) ≡ function_of f ∷ functions_of (drop (i + 1) fs)
functions_left fs i f l e =
    let g : suc i ≡ i + 1 = omega arith in
    ap functions_of (drop-cons fs i f l) ∙ ap (λ x. function_of x ∷ functions_of (drop (suc i) fs)) (sym e) ∙ ap (λ k. function_of f ∷ functions_of (drop k fs)) g

pub no_functions_left : (fs : List Function) (i : ℕ) → length fs ≤ i → functions_of (drop i fs) ≡ []
no_functions_left fs i l = ap functions_of (drop_all i fs l)

-- a step of a loop over threads
pub threads_left : (ts : List Thread) (i : ℕ) (t : Thread) → i < length ts → t ≡ get_or ts i t → threads_of (drop i ts) ≡ thread_of t ∷ threads_of (drop (i + 1) ts)
threads_left ts i t l e =
    let f : suc i ≡ i + 1 = omega arith in
    ap threads_of (drop-cons ts i t l) ∙ ap (λ x. thread_of x ∷ threads_of (drop (suc i) ts)) (sym e) ∙ ap (λ k. thread_of t ∷ threads_of (drop k ts)) f

pub no_threads_left : (ts : List Thread) (i : ℕ) → length ts ≤ i → threads_of (drop i ts) ≡ []
no_threads_left ts i l = ap threads_of (drop_all i ts l)

-- nothing but constants and locals, where two lists are empty
pub fresh_is : (is : List Instr) (ss : List Span) (d : ℕ) (cs : List Value) → is ≡ [] → ss ≡ [] → make is ss cs d 0 ≡ fresh d cs
fresh_is is ss d cs e f = ap (λ l. make l ss cs d 0) e ∙ ap (λ l. make [] l cs d 0) f
