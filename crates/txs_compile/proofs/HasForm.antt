-- The code of a script has a byte form.
use Rattle.std.proofs.Common.{◌≡◌, ℕ, suc, ◌+◌, ◌-◌, ◌*◌, ◌≤◌, Bool, true, false, not, ◌||◌, List, [], ◌∷◌, ◌++◌, length, map, None, refl, sym, ap, subst, ◌∙◌, arith}
use Rattle.std.specs.Prelude.{nat_le, ◌==◌}
use Rattle.std.specs.List.{AllByRecursion}
use Rattle.std.proofs.lemmas.Bool.Decides.{nat_tests}
use Rattle.txs_value_data.specs.Limits.{most_locals, most_nodes}
use Rattle.txs_value_data.specs.declared.fault.Span.{Span}
use Rattle.txs_value_data.specs.declared.value.Value.{Value}
use Rattle.txs_tree_meaning.proofs.Callable.{length-known}
use Rattle.txs_tree_meaning.specs.Known.{Known, known, known_of}
use Rattle.txs_tree_meaning.specs.Scoped.{ScopedFunctions, ScopedThreads}
use Rattle.txs_tree_meaning.specs.Sound.{nodes_of_functions, nodes_of_all}
use Rattle.txs_tree_meaning.specs.Tree.{PlainFunction, PlainThread}
use Rattle.txs_code_meaning.specs.declared.instr.Instr.{Instr}
use Rattle.txs_code_meaning.specs.Machine.{PlainInstr, PlainBody, Return, Halt}
use Rattle.txs_code_meaning.specs.PlainCode.{CodeBody, PlainCode, parameters_of, plain_instrs}
use Rattle.txs_code_meaning.specs.Spans.{AreOrdered}
use Rattle.txs_code_meaning.specs.WellTyped.{FunctionKind, Functions, IsLawful, Owner, WellTypedBody, WellTypedFunctions, WellTypedThreads}
use Rattle.txs_gen.specs.Generated.{constants_of_functions, constants_of_threads, AreFunctionsOf, AreBodiesOf}
use Rattle.txs_gen.proofs.Segments.{plain_length}
use Rattle.txs_code_decode.specs.declared.error.CodeErrorKind.TheVariants.{BadOperand, TooLarge}
use Rattle.txs_code_decode.specs.CellForm.{cell_format, constant_format, kinds_of}
use Rattle.txs_code_meaning.specs.Validating.{has_validator}
use Rattle.txs_code_decode.specs.CodeForm.{paired, body_of, body_parts, body_format, instructions, all_instructions, magic_format, cells_format, told_cells_format, constants_format, functions_format, threads_format, program_format, code_format, HasForm}
use Rattle.txs_code_decode.specs.Format.{SharingFits}
use Rattle.txs_code_decode.specs.ValueForm.{must}
use Rattle.txs_opt.specs.Optimised.{optimised}
use Rattle.txs_compile.proofs.Programs.{optimised_sound, optimised_has}
use Rattle.txs_compile.specs.ReadProgram.{IsLiteral, is_read, CellIsRead, FunctionIsRead, ThreadIsRead}
use Rattle.txs_compile.specs.Law.{ScriptsHaveForms}
use Rattle.txs_compile.proofs.Cells.{AreThere, cells_there, cells_fit}
use Rattle.txs_compile.proofs.Counts.{AreFew, body_short}
use Rattle.txs_compile.proofs.Instrs.{Named, IsSized, all_named, placed_fit}
use Rattle.txs_compile.proofs.Literals.{literals_kept}
use Rattle.txs_compile.proofs.ReadForms.{forms_are_read}
use Rattle.txs_compile.proofs.ReadProgram.{program_read}
use Rattle.txs_compile.proofs.Values.{must_true, is_within, constants_fit}
use Rattle.txs_compile.proofs.Written.{literals_cat, functions_literals, threads_literals, body_ordered}

-- ---- bodies

-- a body that has a byte form, where there are so many constants and functions, and it is at most so long
record BodyFits (ks fs n : ℕ) (b : CodeBody) : Type 0 where
  parameters : b.parameters ≤ b.locals
  locals : b.locals ≤ most_locals
  as_many : length b.spans ≡ length b.instrs
  short : length b.instrs ≤ n
  named : AllByRecursion (Named (record { constants = ks; functions = fs; locals = b.locals; instrs = length b.instrs })) b.instrs
  ordered : AreOrdered b.spans

paired_length : (is : List Instr) (ss : List Span) → length ss ≡ length is → length (paired is ss) ≡ length is
paired_length [] ss e = refl
paired_length (i ∷ is) [] e = absurd (omega (arith, e))
paired_length (i ∷ is) (s ∷ ss) e = ap suc (paired_length is ss (omega (arith, e)))

firsts : (is : List Instr) (ss : List Span) → length ss ≡ length is → map (λ x. x.0) (paired is ss) ≡ is
firsts [] ss e = refl
firsts (i ∷ is) [] e = absurd (omega (arith, e))
firsts (i ∷ is) (s ∷ ss) e = ap (λ js. i ∷ js) (firsts is ss (omega (arith, e)))

seconds : (is : List Instr) (ss : List Span) → length ss ≡ length is → map (λ x. x.1) (paired is ss) ≡ ss
seconds [] [] e = refl
seconds [] (s ∷ ss) e = absurd (omega (arith, e))
seconds (i ∷ is) [] e = absurd (omega (arith, e))
seconds (i ∷ is) (s ∷ ss) e = ap (λ ts. s ∷ ts) (seconds is ss (omega (arith, e)))

again : (b : CodeBody) → length b.spans ≡ length b.instrs → body_of (body_parts b) ≡ b
again b e = λ i. record { parameters = b.parameters; locals = b.locals; instrs = firsts b.instrs b.spans e i; spans = seconds b.instrs b.spans e i }

is_nought : (n : ℕ) → n ≡ 0 → (n == 0) ≡ true
is_nought n e = grind (arith, nat_tests)

sized : (ks fs n : ℕ) (b : CodeBody) → ks ≤ 1000000 → fs ≤ 1000 → n ≤ 1000000 → BodyFits ks fs n b → IsSized (record { constants = ks; functions = fs; locals = b.locals; instrs = length b.instrs })
sized ks fs n b many few le h = record { constants = many; functions = few; locals = h.locals; instrs = omega (arith, h.short, le) }

-- the parameters of a thread are none
abbrev IsOwned : Bool → CodeBody → Type 0
IsOwned true b = b.parameters ≡ 0
IsOwned false b = Unit {0}

-- such bodies, of threads or of functions
abbrev Bodies : ℕ → ℕ → Bool → List CodeBody → Type 0
Bodies ks fs thread bs = AllByRecursion (λ b. IsOwned thread b × BodyFits ks fs (length b.instrs) b) bs

module _ (ks fs : ℕ) (many : ks ≤ 1000000) (few : fs ≤ 1000) where
  body_fits : (thread : Bool) (left : ℕ) (b : CodeBody) → left ≤ 1000000 → IsOwned thread b → BodyFits ks fs left b → (body_format thread ks fs left).fits b
  unfolding body_format
  body_fits true left b le own h =
      let ps = paired b.instrs b.spans in
      let long = paired_length b.instrs b.spans h.as_many in (
        (
          (omega (arith, own), must_true BadOperand (b.parameters == 0) (is_nought b.parameters own)),
          (
            omega (arith, h.locals),
            (((omega (arith, long, h.short, le), must_true TooLarge (nat_le (length ps) left) (is_within (length ps) left (omega (arith, long, h.short)))), (refl, placed_fit _ (sized ks fs left b many few le h) b.instrs b.spans h.named h.ordered)), refl),
          ),
        ),
        again b h.as_many,
      )
  body_fits false left b le own h =
      let ps = paired b.instrs b.spans in
      let long = paired_length b.instrs b.spans h.as_many in (
        (
          omega (arith, h.parameters, h.locals),
          (
            omega (arith, h.locals),
            (((omega (arith, long, h.short, le), must_true TooLarge (nat_le (length ps) left) (is_within (length ps) left (omega (arith, long, h.short)))), (refl, placed_fit _ (sized ks fs left b many few le h) b.instrs b.spans h.named h.ordered)), refl),
          ),
        ),
        again b h.as_many,
      )

  sharing_fits : (thread : Bool) (bs : List CodeBody) (left : ℕ) → left ≤ 1000000 → all_instructions bs ≤ left → Bodies ks fs thread bs → SharingFits instructions (body_format thread ks fs) (length bs) left bs
  unfolding SharingFits
  sharing_fits thread [] left le sum h = tt
  sharing_fits thread (b ∷ bs) left le sum h =
      let fits = h.0.1 in (
        body_fits thread left b le h.0.0 (record { parameters = fits.parameters; locals = fits.locals; as_many = fits.as_many; short = omega (arith, sum); named = fits.named; ordered = fits.ordered }),
        sharing_fits thread bs (left - length b.instrs) (omega (arith, le)) (omega (arith, sum)) h.1,
      )

-- ---- the bodies of a program

from_nought : (n : ℕ) → n ≡ 0 + n
from_nought n = omega arith

parameters_length : (bs : List CodeBody) → length (parameters_of bs) ≡ length bs
parameters_length [] = refl
parameters_length (b ∷ bs) = ap suc (parameters_length bs)

module _ (code : PlainCode) where
  abbrev ps : List ℕ
  ps = parameters_of code.functions

  abbrev kinds_with : List FunctionKind → Functions
  kinds_with kinds = record { parameters = ps; kinds = kinds }

  abbrev constants : ℕ
  constants = length code.constants

  abbrev functions : ℕ
  functions = length code.functions

  record Made (thread : Bool) (n : ℕ) (bs : List CodeBody) : Type 0 where
    each : Bodies constants functions thread bs
    sum : all_instructions bs ≤ 3 * n

  body_made : (fns : Functions) (owner : Owner) (callable room : ℕ) (b : CodeBody) (ks : List Known) (d : ℕ) (is : List PlainInstr) → fns.parameters ≡ ps → callable ≤ functions
      → WellTypedBody fns owner callable code.constants b room → length b.spans ≡ length b.instrs → plain_instrs ps code.constants b.instrs b.spans ≡ is → AreFew is → b.locals ≤ most_locals → AreOrdered b.spans
      → BodyFits constants functions (length b.instrs) b
  body_made fns owner callable room b ks d is same le typed many made few locals ordered = record {
    parameters = typed.parameters;
    locals = locals;
    as_many = many;
    short = omega arith;
    named =
        all_named callable functions fns.parameters code.constants b le 0 b.instrs b.spans many (λ at i there. subst (λ (m : ℕ). IsLawful callable fns.parameters code.constants b m i) (from_nought at) (typed.lawful at i there))
        (subst AreFew (sym made ∙ ap (λ (qs : List ℕ). plain_instrs qs code.constants b.instrs b.spans) (sym same)) few);
    ordered = ordered;
  }

  functions_made : (kinds : List FunctionKind) (n : ℕ) (bs : List CodeBody) (fs : List PlainFunction) (ks : List Known) (some : List FunctionKind) (rooms : List ℕ) → n + length bs ≤ functions
      → AreFunctionsOf ps code.constants bs fs → ScopedFunctions ks fs → AllByRecursion FunctionIsRead fs → WellTypedFunctions (kinds_with kinds) n code.constants bs some rooms → Made false (nodes_of_functions fs) bs
  functions_made kinds n [] [] ks some rooms le made scoped read typed = record { each = tt; sum = omega arith }
  functions_made kinds n [] (f ∷ fs) ks some rooms le made scoped read typed = absurd made
  functions_made kinds n (b ∷ bs) [] ks some rooms le made scoped read typed = absurd made
  functions_made kinds n (b ∷ bs) (f ∷ fs) ks [] rooms le made scoped read typed = absurd typed
  functions_made kinds n (b ∷ bs) (f ∷ fs) ks (k ∷ some) [] le made scoped read typed = absurd typed
  functions_made kinds n (b ∷ bs) (f ∷ fs) ks (k ∷ some) (room ∷ rooms) le made scoped read typed =
      let is = made.0 in
      let instrs = ap (λ (x : PlainBody). x.instrs) is.code in
      let locals = ap (λ (x : PlainBody). x.locals) is.code in
      let slim = body_short ks f.body f.parameters Return scoped.0.1 (omega (arith, scoped.0.0)) tt in
      let rest = functions_made kinds (suc n) bs fs (ks ++ known_of ks f ∷ []) some rooms (omega (arith, le)) made.1 scoped.1 read.1 typed.2 in
      let long = plain_length ps code.constants b.instrs b.spans is.as_many in
      record {
        each = (
          (
            tt,
            body_made (kinds_with kinds) _ n room b ks f.parameters _ refl (omega (arith, le)) typed.1 is.as_many instrs slim.few (subst (λ (m : ℕ). m ≤ most_locals) (sym locals) slim.locals)
                (subst AreOrdered (sym is.spans) (body_ordered f.body f.span read.0.0 read.0.1)),
          ),
          rest.each,
        );
        sum = omega (arith, rest.sum, slim.short, long, ap length instrs);
      }

  threads_made : (kinds : List FunctionKind) (bs : List CodeBody) (ts : List PlainThread) (ks : List Known) (rooms : List ℕ) → AreBodiesOf ps code.constants bs ts → ScopedThreads ks ts → AllByRecursion ThreadIsRead ts
      → WellTypedThreads (kinds_with kinds) code.constants bs rooms → Made true (nodes_of_all ts) bs
  threads_made kinds [] [] ks rooms made scoped read typed = record { each = tt; sum = omega arith }
  threads_made kinds [] (t ∷ ts) ks rooms made scoped read typed = absurd made
  threads_made kinds (b ∷ bs) [] ks rooms made scoped read typed = absurd made
  threads_made kinds (b ∷ bs) (t ∷ ts) ks [] made scoped read typed = absurd typed
  threads_made kinds (b ∷ bs) (t ∷ ts) ks (room ∷ rooms) made scoped read typed =
      let is = made.0 in
      let instrs = ap (λ (x : PlainBody). x.instrs) is.code in
      let locals = ap (λ (x : PlainBody). x.locals) is.code in
      let slim = body_short ks t.body 0 Halt scoped.0.0 (omega arith) tt in
      let rest = threads_made kinds bs ts ks rooms made.1 scoped.1 read.1 typed.2 in
      let long = plain_length ps code.constants b.instrs b.spans is.as_many in
      record {
        each = (
          (
            is.parameters,
            body_made (kinds_with kinds) _ (length ps) room b ks 0 _ refl (omega (arith, parameters_length code.functions)) typed.1 is.as_many instrs slim.few
                (subst (λ (m : ℕ). m ≤ most_locals) (sym locals) slim.locals) (subst AreOrdered (sym is.spans) (body_ordered t.body t.span read.0.0 read.0.1)),
          ),
          rest.each,
        );
        sum = omega (arith, rest.sum, slim.short, long, ap length instrs);
      }

functions_as_many : (qs : List ℕ) (ks : List Value) (bs : List CodeBody) (fs : List PlainFunction) → AreFunctionsOf qs ks bs fs → length bs ≡ length fs
functions_as_many qs ks [] [] h = refl
functions_as_many qs ks [] (f ∷ fs) h = absurd h
functions_as_many qs ks (b ∷ bs) [] h = absurd h
functions_as_many qs ks (b ∷ bs) (f ∷ fs) h = ap suc (functions_as_many qs ks bs fs h.1)

threads_as_many : (qs : List ℕ) (ks : List Value) (bs : List CodeBody) (ts : List PlainThread) → AreBodiesOf qs ks bs ts → length bs ≡ length ts
threads_as_many qs ks [] [] h = refl
threads_as_many qs ks [] (t ∷ ts) h = absurd h
threads_as_many qs ks (b ∷ bs) [] h = absurd h
threads_as_many qs ks (b ∷ bs) (t ∷ ts) h = ap suc (threads_as_many qs ks bs ts h.1)

-- ---- code

magic_fits : (validated : Bool) → magic_format.fits validated
unfolding magic_format
magic_fits false = ((omega arith, refl), refl)
magic_fits true = ((omega arith, refl), refl)

-- cells tell what the magic tells of them
told_fits : (validated : Bool) → must BadOperand (not validated || validated) ≡ None
told_fits false = refl
told_fits true = refl

-- what the parts of code need
record Parts (code : PlainCode) : Type 0 where
  few_cells : length code.cells ≤ 1000
  few_constants : length code.constants ≤ 1000000
  few_functions : length code.functions ≤ 1000
  few_threads : length code.threads ≤ 64
  cells : AllByRecursion (cell_format (has_validator code.cells)).fits code.cells
  constants : AllByRecursion (constant_format true (kinds_of code.cells)).fits code.constants
  functions : Bodies (length code.constants) (length code.functions) false code.functions
  threads : Bodies (length code.constants) (length code.functions) true code.threads
  sum : all_instructions code.functions + all_instructions code.threads ≤ 1000000

few_test : (n m : ℕ) → n ≤ m → must TooLarge (nat_le n m) ≡ None
few_test n m le = must_true TooLarge (nat_le n m) (is_within n m le)

parts_fit : (code : PlainCode) → Parts code → HasForm code
unfolding code_format told_cells_format cells_format constants_format program_format functions_format threads_format
parts_fit code p =
    let ks = length code.constants in
    let fs = length code.functions in (
      (
        magic_fits (has_validator code.cells),
        (
          ((((omega (arith, p.few_cells), few_test (length code.cells) 1000 p.few_cells), (refl, p.cells)), refl), told_fits (has_validator code.cells)),
          (
            (((omega (arith, p.few_constants), few_test ks 1000000 p.few_constants), (refl, p.constants)), refl),
            (
              (((omega (arith, p.few_functions), few_test fs 1000 p.few_functions), sharing_fits ks fs p.few_constants p.few_functions false code.functions 1000000 (omega arith) (omega (arith, p.sum)) p.functions), refl),
              (
                (
                  (omega (arith, p.few_threads), few_test (length code.threads) 64 p.few_threads),
                  sharing_fits ks fs p.few_constants p.few_functions true code.threads (1000000 - all_instructions code.functions) (omega arith) (omega (arith, p.sum)) p.threads,
                ),
                refl,
              ),
            ),
          ),
        ),
      ),
      refl,
    )

pub scripts_have_forms : ScriptsHaveForms
scripts_have_forms bytes forms p limit code function_rooms thread_rooms reads resolves sound made names typed =
    let from = program_read forms p (forms_are_read bytes forms reads) resolves in
    let q = optimised limit p in
    let kept = optimised_sound limit p sound in
    let read = optimised_has is_read literals_kept limit p (record { functions = from.functions; threads = from.threads }) in
    let scoped = kept.scoped in
    let literals = literals_cat most_nodes (constants_of_functions q.functions) (constants_of_threads q.threads) (functions_literals q.functions read.functions) (threads_literals q.threads read.threads) kept.few_nodes in
    let several : length code.constants ≤ 200000 = omega (arith, literals.few, ap length made.constants) in
    let fs = functions_made code typed.kinds 0 code.functions q.functions [] typed.kinds function_rooms (omega arith) made.functions scoped.functions read.functions typed.functions in
    let ts = threads_made code typed.kinds code.threads q.threads (known q.functions) thread_rooms made.threads scoped.threads read.threads typed.threads in
    let few_cells : length code.cells ≤ 1000 = omega (arith, scoped.few_cells, ap length made.cells) in
    let few_known : length (known q.functions) ≤ 1000 = omega (arith, scoped.few_functions, length-known q.functions) in
    let there = subst (AreThere (length (known q.functions))) (sym made.cells) (cells_there (known q.functions) q.cells scoped.cells) in
    parts_fit code (record {
      few_cells = few_cells;
      few_constants = omega (arith, several);
      few_functions = omega (arith, scoped.few_functions, functions_as_many (parameters_of code.functions) code.constants code.functions q.functions made.functions);
      few_threads = omega (arith, scoped.few_threads, threads_as_many (parameters_of code.functions) code.constants code.threads q.threads made.threads);
      cells = cells_fit (has_validator code.cells) (length (known q.functions)) code.cells few_known (λ e. e) there (subst (AllByRecursion CellIsRead) (sym made.cells) from.cells) names.openings;
      constants = constants_fit code.cells few_cells code.constants (subst (AllByRecursion IsLiteral) (sym made.constants) literals.each) names.constants;
      functions = fs.each;
      threads = ts.each;
      sum = omega (arith, fs.sum, ts.sum, kept.few_nodes);
    })
