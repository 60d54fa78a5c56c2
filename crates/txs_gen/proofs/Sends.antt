-- Each send in generated code is that of a tree, and so names a callee that a program may send.
use Rattle.std.specs.List.{AllByRecursion}
use Rattle.std.proofs.Common.{◌≡◌, ℕ, zero, suc, ◌+◌, List, [], ◌∷◌, ◌++◌, map, Option, Some, None, refl, sym, subst}
use Rattle.txs_value_data.specs.Places.{nth}
use Rattle.txs_value_data.specs.declared.fault.Span.{Span}
use Rattle.txs_value_data.specs.declared.op.Callee.{Callee}
use Rattle.txs_value_data.specs.declared.op.Callee.TheVariants as callee
use Rattle.txs_value_data.specs.declared.value.CellId.{CellId}
use Rattle.txs_tree_meaning.specs.Known.{Known, known_of, known_from, known}
use Rattle.txs_tree_meaning.specs.Sound.{Zone, in_function, in_thread, in_dosync, SoundSent, SoundTree, SoundAll, SoundLet, SoundDo, SoundFunctions, SoundThreads}
use Rattle.txs_tree_meaning.specs.Tree.{Tree, Const, Local, If, Do, Let, Loop, Recur, Core, Call, VectorOf, Println, Dosync, Look, Put, Update, Send, Trees, none, more, count, PlainFunction, PlainThread, PlainProgram}
use Rattle.txs_tree_meaning.specs.Everywhere.{Everywhere, EverywhereIn, InFunction, InThread}
use Rattle.txs_code_meaning.specs.Machine.{PlainInstr, Push, Load, Store, Pop, Jump, JumpFalse, CoreOf, CallOf, Return, MakeVector, PrintOf, TxBegin, TxEnd, LookOf, PutOf, OpenOf, CloseOf, SendOf, Halt, TakeOf, RunOf, FinishOf, ThreadCode, agent_code, fetch, instr_at}
use Rattle.txs_code_meaning.specs.PlainCode.{CodeBody, PlainCode, parameters_of, thread_code, library_of}
use Rattle.txs_theorem_threads.specs.FollowsAll.{source_of}
use Rattle.txs_theorem_threads.specs.Sends.{CodeSendsSound}
use Rattle.txs_theorem_threads.proofs.Functions.{known_front}
use Rattle.txs_gen.specs.Gen.{stores, callee_code, gen, gen_all, gen_let, gen_do, functions_code, generated}
use Rattle.txs_gen.specs.Generated.{AreFunctionsOf, AreBodiesOf}
use Rattle.txs_gen.specs.Sends.{sound_sends, SoundProgramSendsSound, CodeOfProgramSendsSound}
use Rattle.txs_gen.proofs.CodesFollow.{functions_are, thread_is}

-- where more functions are defined, a callee goes on to be sound
wider : (ks ls : List Known) → ((f : ℕ) (k : Known) → nth ks f ≡ Some k → nth ls f ≡ Some k) → (f : Callee) (n : ℕ) → SoundSent ks f n → SoundSent ls f n
wider ks ls grows (callee.Core op) n h = h
wider ks ls grows (callee.Function f) n h = record { function = h.function; found = grows f h.function h.found; arity = h.arity; zoned = h.zoned }

module _ (ls : List Known) where
  -- a send's callee is sound
  abbrev SendFits : PlainInstr → Type 0
  SendFits (SendOf f n span) = SoundSent ls f (suc n)
  SendFits (Push v) = Unit {0}
  SendFits (Load i) = Unit {0}
  SendFits (Store i) = Unit {0}
  SendFits Pop = Unit {0}
  SendFits (Jump to) = Unit {0}
  SendFits (JumpFalse to) = Unit {0}
  SendFits (CoreOf op n span) = Unit {0}
  SendFits (CallOf f n) = Unit {0}
  SendFits Return = Unit {0}
  SendFits (MakeVector n span) = Unit {0}
  SendFits (PrintOf n) = Unit {0}
  SendFits (TxBegin span) = Unit {0}
  SendFits TxEnd = Unit {0}
  SendFits (LookOf f span) = Unit {0}
  SendFits (PutOf f span) = Unit {0}
  SendFits (OpenOf f n span) = Unit {0}
  SendFits (CloseOf f span) = Unit {0}
  SendFits Halt = Unit {0}
  SendFits (TakeOf g) = Unit {0}
  SendFits RunOf = Unit {0}
  SendFits (FinishOf g) = Unit {0}

  abbrev SendsFit : List PlainInstr → Type 0
  SendsFit [] = Unit {0}
  SendsFit (i ∷ is) = SendFits i × SendsFit is

  abbrev FitsThere : Option PlainInstr → Type 0
  FitsThere None = Unit {0}
  FitsThere (Some i) = SendFits i

  fits_at : (is : List PlainInstr) (k : ℕ) → SendsFit is → FitsThere (nth is k)
  fits_at [] k h = tt
  fits_at (i ∷ is) zero h = h.0
  fits_at (i ∷ is) (suc k) h = fits_at is k h.1

  -- ---- the code of trees

  both_fit : (is js : List PlainInstr) → SendsFit is → SendsFit js → SendsFit (is ++ js)
  both_fit [] js h k = k
  both_fit (i ∷ is) js h k = (h.0, both_fit is js h.1 k)

  stores_fit : (i n : ℕ) → SendsFit (stores i n)
  stores_fit i zero = tt
  stores_fit i (suc n) = both_fit (stores (i + 1) n) (Store i ∷ []) (stores_fit (i + 1) n) (tt, tt)

  callee_fits : (f : Callee) (n : ℕ) (span : Span) → SendFits (callee_code f n span)
  callee_fits (callee.Core op) n span = tt
  callee_fits (callee.Function f) n span = tt

  mutual
    gen_fits : (e : Tree) → Everywhere (sound_sends ls) e → (depth base start pc : ℕ) → SendsFit (gen e depth base start pc)
    gen_fits (Const v m) h depth base start pc = (tt, tt)
    gen_fits (Local i m) h depth base start pc = (tt, tt)
    gen_fits (If c a b m) h depth base start pc =
        both_fit (gen c depth base start pc) _ (gen_fits c h.0 depth base start pc)
        (tt, both_fit (gen a depth base start _) _ (gen_fits a h.1 depth base start _) (tt, gen_fits b h.2 depth base start _))
    gen_fits (Do items m) h depth base start pc = gen_do_fits items h.0 depth base start pc
    gen_fits (Let values body m) h depth base start pc =
        both_fit (gen_let values depth base start pc) _ (gen_let_fits values h.0 depth base start pc) (gen_fits body h.1 (depth + count values) base start _)
    gen_fits (Loop values body m) h depth base start pc =
        both_fit (gen_let values depth base start pc) _ (gen_let_fits values h.0 depth base start pc) (gen_fits body h.1 (depth + count values) depth _ _)
    gen_fits (Recur values m) h depth base start pc =
        both_fit (gen_all values depth base start pc) _ (gen_all_fits values h.0 depth base start pc) (both_fit (stores base (count values)) (Jump start ∷ []) (stores_fit base (count values)) (tt, tt))
    gen_fits (Core op args m) h depth base start pc = both_fit (gen_all args depth base start pc) _ (gen_all_fits args h.0 depth base start pc) (tt, tt)
    gen_fits (Call f args m) h depth base start pc = both_fit (gen_all args depth base start pc) _ (gen_all_fits args h.0 depth base start pc) (tt, tt)
    gen_fits (VectorOf items m) h depth base start pc = both_fit (gen_all items depth base start pc) _ (gen_all_fits items h.0 depth base start pc) (tt, tt)
    gen_fits (Println args m) h depth base start pc = both_fit (gen_all args depth base start pc) _ (gen_all_fits args h.0 depth base start pc) (tt, tt)
    gen_fits (Dosync body m) h depth base start pc = (tt, both_fit (gen body depth base start (pc + 1)) _ (gen_fits body h.0 depth base start (pc + 1)) (tt, tt))
    gen_fits (Look form cell m) h depth base start pc = both_fit (gen cell depth base start pc) _ (gen_fits cell h.0 depth base start pc) (tt, tt)
    gen_fits (Put form cell value m) h depth base start pc =
        both_fit (gen cell depth base start pc) _ (gen_fits cell h.0 depth base start pc) (both_fit (gen value depth base start _) _ (gen_fits value h.1 depth base start _) (tt, tt))
    gen_fits (Update form cell callee args m) h depth base start pc =
        both_fit (gen cell depth base start pc) _ (gen_fits cell h.0 depth base start pc)
        (both_fit (gen_all args depth base start _) _ (gen_all_fits args h.1 depth base start _) (tt, (callee_fits callee (suc (count args)) m.span, (tt, tt))))
    gen_fits (Send cell callee args m) h depth base start pc =
        both_fit (gen cell depth base start pc) _ (gen_fits cell h.0 depth base start pc)
        (both_fit (gen_all args depth base start _) _ (gen_all_fits args h.1 depth base start _) (h.2, tt))

    gen_all_fits : (es : Trees) → EverywhereIn (sound_sends ls) es → (depth base start pc : ℕ) → SendsFit (gen_all es depth base start pc)
    gen_all_fits none h depth base start pc = tt
    gen_all_fits (more e rest) h depth base start pc = both_fit (gen e depth base start pc) _ (gen_fits e h.0 depth base start pc) (gen_all_fits rest h.1 depth base start _)

    gen_let_fits : (es : Trees) → EverywhereIn (sound_sends ls) es → (depth base start pc : ℕ) → SendsFit (gen_let es depth base start pc)
    gen_let_fits none h depth base start pc = tt
    gen_let_fits (more e rest) h depth base start pc = both_fit (gen e depth base start pc) _ (gen_fits e h.0 depth base start pc) (tt, gen_let_fits rest h.1 (depth + 1) base start _)

    gen_do_fits : (es : Trees) → EverywhereIn (sound_sends ls) es → (depth base start pc : ℕ) → SendsFit (gen_do es depth base start pc)
    gen_do_fits none h depth base start pc = tt
    gen_do_fits (more e none) h depth base start pc = gen_fits e h.0 depth base start pc
    gen_do_fits (more e (more f rest)) h depth base start pc = both_fit (gen e depth base start pc) _ (gen_fits e h.0 depth base start pc) (tt, gen_do_fits (more f rest) h.1 depth base start _)

  -- ---- the code of functions

  functions_fit : (fs : List PlainFunction) → AllByRecursion (InFunction (sound_sends ls)) fs → (k at : ℕ) → FitsThere (instr_at (nth (functions_code fs) k) at)
  functions_fit [] h k at = tt
  functions_fit (f ∷ fs) h zero at =
      fits_at (gen f.body f.parameters 0 0 0 ++ Return ∷ []) at (both_fit (gen f.body f.parameters 0 0 0) (Return ∷ []) (gen_fits f.body h.0.0 f.parameters 0 0 0) (tt, tt))
  functions_fit (f ∷ fs) h (suc k) at = functions_fit fs h.1 k at

  -- ---- sound trees

  module _ (ks : List Known) (wide : (f : Callee) (n : ℕ) → SoundSent ks f n → SoundSent ls f n) where
    mutual
      tree_sends : (e : Tree) (zone : Zone) (d : ℕ) (tail : Option ℕ) → SoundTree ks zone d tail e → Everywhere (sound_sends ls) e
      tree_sends (Const v m) zone d tail h = (tt, tt)
      tree_sends (Local i m) zone d tail h = tt
      tree_sends (If c a b m) zone d tail h = (tree_sends c zone d None h.0, tree_sends a zone d tail h.1, tree_sends b zone d tail h.2, tt)
      tree_sends (Do items m) zone d tail h = (do_sends items zone d tail h, tt)
      tree_sends (Let values body m) zone d tail h = (let_sends values zone d h.0, tree_sends body zone (d + count values) tail h.1, tt)
      tree_sends (Loop values body m) zone d tail h = (let_sends values zone d h.0, tree_sends body zone (d + count values) (Some (count values)) h.1, tt)
      tree_sends (Recur values m) zone d tail h = (all_sends values zone d h.1, tt)
      tree_sends (Core op args m) zone d tail h = (all_sends args zone d h.1, tt)
      tree_sends (Call f args m) zone d tail h = (all_sends args zone d h.1, tt)
      tree_sends (VectorOf items m) zone d tail h = (all_sends items zone d h.1, tt)
      tree_sends (Println args m) zone d tail h = (all_sends args zone d h.2, tt)
      tree_sends (Dosync body m) zone d tail h = (tree_sends body in_dosync d None h, tt)
      tree_sends (Look form cell m) zone d tail h = (tree_sends cell zone d None h.1, tt)
      tree_sends (Put form cell value m) zone d tail h = (tree_sends cell zone d None h.1, tree_sends value zone d None h.2, tt)
      tree_sends (Update form cell callee args m) zone d tail h = (tree_sends cell zone d None h.1, all_sends args zone d h.3, tt)
      tree_sends (Send cell callee args m) zone d tail h = (tree_sends cell zone d None h.0, all_sends args zone d h.2, wide callee (suc (count args)) h.1)

      all_sends : (es : Trees) (zone : Zone) (d : ℕ) → SoundAll ks zone d es → EverywhereIn (sound_sends ls) es
      all_sends none zone d h = tt
      all_sends (more e rest) zone d h = (tree_sends e zone d None h.0, all_sends rest zone d h.1)

      let_sends : (es : Trees) (zone : Zone) (d : ℕ) → SoundLet ks zone d es → EverywhereIn (sound_sends ls) es
      let_sends none zone d h = tt
      let_sends (more e rest) zone d h = (tree_sends e zone d None h.0, let_sends rest zone (d + 1) h.1)

      do_sends : (es : Trees) (zone : Zone) (d : ℕ) (tail : Option ℕ) → SoundDo ks zone d tail es → EverywhereIn (sound_sends ls) es
      do_sends none zone d tail h = tt
      do_sends (more e none) zone d tail h = (tree_sends e zone d tail h, tt)
      do_sends (more e (more f rest)) zone d tail h = (tree_sends e zone d None h.0, do_sends (more f rest) zone d tail h.1)

-- ---- sound programs

functions_send : (ks : List Known) (fs all : List PlainFunction) → known all ≡ known_from ks fs → SoundFunctions ks fs → AllByRecursion (InFunction (sound_sends (known all))) fs
functions_send ks [] all same h = tt
functions_send ks (f ∷ fs) all same h =
    let ls = known_from ks (f ∷ fs) in
    let one = subst (λ l. Everywhere (sound_sends l) f.body) (sym same) (tree_sends ls ks (wider ks ls (known_front ks (f ∷ fs))) f.body in_function f.parameters (Some f.parameters) h.0.1) in
    ((one, tt), functions_send (ks ++ known_of ks f ∷ []) fs all same h.1)

sound_threads_send : (ks : List Known) (ts : List PlainThread) → SoundThreads ks ts → AllByRecursion (InThread (sound_sends ks)) ts
sound_threads_send ks [] h = tt
sound_threads_send ks (t ∷ ts) h = ((tree_sends ks ks (λ f n k. k) t.body in_thread 0 None h.0.0, tt), sound_threads_send ks ts h.1)

pub sound_program_sends_sound : SoundProgramSendsSound
sound_program_sends_sound p h = record { functions = functions_send [] p.functions p.functions refl h.functions; threads = sound_threads_send (known p.functions) p.threads h.threads }

-- ---- the code of a program

module _ (functions : List PlainFunction) (p : PlainProgram) (sends : AllByRecursion (InFunction (sound_sends (known functions))) p.functions) where
  abbrev all : List Known
  all = known functions

  fetched_fits : (t : PlainThread) → InThread (sound_sends all) t → (b at : ℕ) → FitsThere all (fetch (generated (source_of p t)) b at)
  fetched_fits t h zero at = fits_at all (gen t.body 0 0 0 0 ++ Halt ∷ []) at (both_fit all (gen t.body 0 0 0 0) (Halt ∷ []) (gen_fits all t.body h.0 0 0 0 0) (tt, tt))
  fetched_fits t h (suc f) at = functions_fit all p.functions sends f at

  source_sends_sound : (t : PlainThread) → InThread (sound_sends all) t → CodeSendsSound functions (generated (source_of p t))
  source_sends_sound t h b at n f span e = subst (FitsThere all) e (fetched_fits t h b at)

  module _ (code : PlainCode) (same_cells : code.cells ≡ p.cells) (made : AreFunctionsOf (parameters_of code.functions) code.constants code.functions p.functions) where
    abbrev Sends : Option ThreadCode → Type 0
    Sends None = Unit {0}
    Sends (Some c) = CodeSendsSound functions c

    threads_send : (bs : List CodeBody) (ts : List PlainThread) → AreBodiesOf (parameters_of code.functions) code.constants bs ts → AllByRecursion (InThread (sound_sends all)) ts → (i : ℕ) → Sends (nth (map (thread_code code) bs) i)
    threads_send [] ts h s i = tt
    threads_send (b ∷ bs) [] h s i = absurd h
    threads_send (b ∷ bs) (t ∷ ts) h s zero = subst (CodeSendsSound functions) (sym (thread_is code p b t same_cells made h.0)) (source_sends_sound t s.0)
    threads_send (b ∷ bs) (t ∷ ts) h s (suc i) = threads_send bs ts h.1 s.1 i

    -- the code of agents has no sends but those of the functions
    agent_fits : (g : CellId) (b at : ℕ) → FitsThere all (fetch (agent_code (library_of code) g) b at)
    agent_fits g zero at = fits_at all (TakeOf g ∷ RunOf ∷ FinishOf g ∷ []) at (tt, (tt, (tt, tt)))
    agent_fits g (suc f) at =
        subst (λ l. FitsThere all (instr_at (nth l f) at)) (sym (functions_are (parameters_of code.functions) code.constants code.functions p.functions made)) (functions_fit all p.functions sends f at)

    agents_send : (g : CellId) → CodeSendsSound functions (agent_code (library_of code) g)
    agents_send g b at n f span e = subst (FitsThere all) e (agent_fits g b at)

pub code_sends_sound : CodeOfProgramSendsSound
code_sends_sound code functions p sends made =
    let threads = threads_send functions p sends.functions code made.cells made.functions code.threads p.threads made.threads sends.threads in (
      λ i c e. subst (Sends functions p sends.functions code made.cells made.functions) e (threads i),
      agents_send functions p sends.functions code made.cells made.functions,
    )
