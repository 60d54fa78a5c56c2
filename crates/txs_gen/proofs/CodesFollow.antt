-- The code of a program follows it, since it is generated from its trees.
use Rattle.std.proofs.Common.{◌≡◌, ℕ, zero, suc, List, [], ◌∷◌, length, map, Some, refl, sym, ap, ◌∙◌, subst}
use Rattle.txs_value_data.specs.declared.value.Value.{Value}
use Rattle.txs_value_data.specs.Places.{nth}
use Rattle.txs_tree_meaning.proofs.Callable.{missing, same_some}
use Rattle.txs_tree_meaning.specs.Known.{known}
use Rattle.txs_tree_meaning.specs.Sound.{SoundFunctions, SoundCells, SoundThreads}
use Rattle.txs_tree_meaning.specs.Tree.{PlainFunction, PlainThread, PlainProgram}
use Rattle.txs_code_meaning.specs.Machine.{PlainBody, ThreadCode}
use Rattle.txs_code_meaning.specs.PlainCode.{CodeBody, PlainCode, parameters_of, plain_bodies, thread_code}
use Rattle.txs_theorem_threads.specs.Behaves.{Behaves}
use Rattle.txs_theorem_threads.specs.FollowsAll.{BehavesAll, FollowsAll, GeneratedFollows, source_of}
use Rattle.txs_gen.specs.CodeFollows.{CodeFollows, CodeOfProgramBehaves}
use Rattle.txs_gen.specs.Gen.{function_code, body_code, functions_code, generated}
use Rattle.txs_gen.specs.Generated.{AreFunctionsOf, AreBodiesOf, IsBodyOf}
use Rattle.txs_gen.proofs.Ends.{code_behaves}
use Rattle.txs_value_cell.specs.Cells.{validators_of}
use Rattle.txs_value_cell.specs.declared.cell.CellDefinition.{CellDefinition}

abbrev with_main : List PlainBody → List CellDefinition → PlainBody → ThreadCode
with_main fs cells b = record { functions = fs; validators = validators_of cells; main = b }

pub functions_are : (ps : List ℕ) (cs : List Value) (bs : List CodeBody) (fs : List PlainFunction) → AreFunctionsOf ps cs bs fs → plain_bodies ps cs bs ≡ functions_code fs
functions_are ps cs [] [] h = refl
functions_are ps cs [] (f ∷ fs) h = absurd h
functions_are ps cs (b ∷ bs) [] h = absurd h
functions_are ps cs (b ∷ bs) (f ∷ fs) h = ap (λ x. x ∷ plain_bodies ps cs bs) h.0.code ∙ ap (λ l. function_code f ∷ l) (functions_are ps cs bs fs h.1)

pub thread_is : (code : PlainCode) (p : PlainProgram) (b : CodeBody) (t : PlainThread) → code.cells ≡ p.cells → AreFunctionsOf (parameters_of code.functions) code.constants code.functions p.functions → IsBodyOf (parameters_of code.functions) code.constants b t → thread_code code b ≡ generated (source_of p t)
thread_is code p b t c e h =
    ap (λ x. with_main (plain_bodies (parameters_of code.functions) code.constants code.functions) code.cells x) h.code
    ∙ ap (λ cells. with_main (plain_bodies (parameters_of code.functions) code.constants code.functions) cells (body_code t.body)) c ∙ ap (λ fs. with_main fs p.cells (body_code t.body)) (functions_are (parameters_of code.functions) code.constants code.functions p.functions e)

threads_are : (code : PlainCode) (p : PlainProgram) (bs : List CodeBody) (ts : List PlainThread) → code.cells ≡ p.cells → AreFunctionsOf (parameters_of code.functions) code.constants code.functions p.functions → AreBodiesOf (parameters_of code.functions) code.constants bs ts → map (λ b. thread_code code b) bs ≡ map (λ t. generated (source_of p t)) ts
threads_are code p [] [] c e h = refl
threads_are code p [] (t ∷ ts) c e h = absurd h
threads_are code p (b ∷ bs) [] c e h = absurd h
threads_are code p (b ∷ bs) (t ∷ ts) c e h =
    ap (λ x. x ∷ map (λ b. thread_code code b) bs) (thread_is code p b t c e h.0) ∙ ap (λ l. generated (source_of p t) ∷ l) (threads_are code p bs ts c e h.1)

module _ (p : PlainProgram) (functions : SoundFunctions [] p.functions) (cells : SoundCells (known p.functions) p.cells) where
  abbrev code_for : PlainThread → ThreadCode
  code_for t = generated (source_of p t)

  as_many : (ts : List PlainThread) → length (map code_for ts) ≡ length ts
  as_many [] = refl
  as_many (t ∷ ts) = ap suc (as_many ts)

  each_behaves : (ts : List PlainThread) → SoundThreads (known p.functions) ts → (i : ℕ) (c : ThreadCode) (t : PlainThread) → nth (map code_for ts) i ≡ Some c → nth ts i ≡ Some t → Behaves c (source_of p t)
  each_behaves [] sound i c t e k = absurd (missing t k)
  each_behaves (u ∷ ts) sound zero c t e k =
      let one : code_for u ≡ c = same_some (code_for u) c e in
      let two : u ≡ t = same_some u t k in
      subst (λ x. Behaves c (source_of p x)) two (subst (λ x. Behaves x (source_of p u)) one (code_behaves (source_of p u) (record { functions = functions; cells = cells; main = sound.0.0 })))
  each_behaves (u ∷ ts) sound (suc i) c t e k = each_behaves ts sound.1 i c t e k

pub code_of_program_behaves : CodeOfProgramBehaves
code_of_program_behaves code p sound h =
    subst (λ l. BehavesAll l p) (sym (threads_are code p code.threads p.threads h.cells h.functions h.threads)) (record {
      as_many = as_many p sound.functions sound.cells p.threads;
      each = each_behaves p sound.functions sound.cells p.threads sound.threads;
    })

pub code_follows : GeneratedFollows → CodeFollows
code_follows law code p sound h =
    subst (λ l. FollowsAll l p) (sym (threads_are code p code.threads p.threads h.cells h.functions h.threads)) (law generated code_behaves p sound)
