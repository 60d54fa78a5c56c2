-- The code of a tree whose names are resolved is short, its instructions count few arguments, and its locals are few.
use Rattle.std.proofs.Common.{◌≡◌, ℕ, zero, suc, ◌+◌, ◌*◌, ◌≤◌, List, [], ◌∷◌, ◌++◌, length, length-append, refl, ◌∙◌, arith}
use Rattle.txs_value_data.specs.Limits.{most_items, most_locals}
use Rattle.txs_value_data.specs.declared.fault.Span.{Span}
use Rattle.txs_value_data.specs.declared.op.Callee.{Callee}
use Rattle.txs_value_data.specs.declared.op.Callee.TheVariants as callee
use Rattle.txs_tree_meaning.specs.Known.{Known}
use Rattle.txs_tree_meaning.specs.Scoped.{ScopedTree, ScopedAll, ScopedLet}
use Rattle.txs_tree_meaning.specs.Sound.{nodes, nodes_in}
use Rattle.txs_tree_meaning.specs.Tree.{Tree, Const, Local, If, Do, Let, Loop, Recur, Core, Call, VectorOf, Println, Dosync, Look, Put, Update, Send, Trees, none, more, count}
use Rattle.txs_code_meaning.specs.Machine.{PlainInstr, Push, Load, Store, Pop, Jump, JumpFalse, CoreOf, CallOf, Return, MakeVector, PrintOf, TxBegin, TxEnd, LookOf, PutOf, OpenOf, CloseOf, SendOf, Halt, TakeOf, RunOf, FinishOf}
use Rattle.txs_gen.specs.Gen.{stores, opening, callee_code, gen, gen_all, gen_let, gen_do, locals_in, locals_in_all, locals_in_let}

-- an instruction counts few arguments, if it counts any
abbrev pub IsFew : PlainInstr → Type 0
IsFew (CoreOf op n span) = n ≤ most_items
IsFew (MakeVector n span) = n ≤ most_items
IsFew (PrintOf n) = n ≤ most_items
IsFew (OpenOf f n span) = n ≤ most_items
IsFew (SendOf f n span) = n ≤ most_items
IsFew (Push v) = Unit {0}
IsFew (Load i) = Unit {0}
IsFew (Store i) = Unit {0}
IsFew Pop = Unit {0}
IsFew (Jump to) = Unit {0}
IsFew (JumpFalse to) = Unit {0}
IsFew (CallOf f n) = Unit {0}
IsFew Return = Unit {0}
IsFew (TxBegin span) = Unit {0}
IsFew TxEnd = Unit {0}
IsFew (LookOf f span) = Unit {0}
IsFew (PutOf f span) = Unit {0}
IsFew (CloseOf f span) = Unit {0}
IsFew Halt = Unit {0}
IsFew (TakeOf g) = Unit {0}
IsFew RunOf = Unit {0}
IsFew (FinishOf g) = Unit {0}

abbrev pub AreFew : List PlainInstr → Type 0
AreFew [] = Unit {0}
AreFew (i ∷ is) = IsFew i × AreFew is

pub both_few : (is js : List PlainInstr) → AreFew is → AreFew js → AreFew (is ++ js)
both_few [] js h k = k
both_few (i ∷ is) js h k = (h.0, both_few is js h.1 k)

-- instructions that count few arguments, k fewer at least than three for each of n nodes
record Slim (k n : ℕ) (is : List PlainInstr) : Type 0 where
  few : AreFew is
  short : length is + k ≤ 3 * n

slim_cat : {k l m n : ℕ} (is js : List PlainInstr) → Slim k m is → Slim l n js → Slim (k + l) (m + n) (is ++ js)
slim_cat {k} {l} {m} {n} is js h i = record { few = both_few is js h.few i.few; short = omega (arith, h.short, i.short, length-append is js) }

slim_cons : {k n : ℕ} (i : PlainInstr) (is : List PlainInstr) → IsFew i → Slim (suc k) n is → Slim k n (i ∷ is)
slim_cons {k} {n} i is f h = record { few = (f, h.few); short = omega (arith, h.short) }

slim_end : {k n : ℕ} (is : List PlainInstr) (i : PlainInstr) → IsFew i → Slim (suc k) n is → Slim k n (is ++ i ∷ [])
slim_end {k} {n} is i f h = record { few = both_few is (i ∷ []) h.few (f, tt); short = omega (arith, h.short, length-append is (i ∷ [])) }

slim_wide : {k m : ℕ} (l n : ℕ) (is : List PlainInstr) → Slim k m is → l + 3 * m ≤ k + 3 * n → Slim l n is
slim_wide {k} {m} l n is h le = record { few = h.few; short = omega (arith, h.short, le) }

stores_few : (i n : ℕ) → AreFew (stores i n)
stores_few i zero = tt
stores_few i (suc n) = both_few (stores (i + 1) n) (Store i ∷ []) (stores_few (i + 1) n) (tt, tt)

stores_length : (i n : ℕ) → length (stores i n) ≡ n
stores_length i zero = refl
stores_length i (suc n) = length-append (stores (i + 1) n) (Store i ∷ []) ∙ omega (arith, stores_length (i + 1) n)

callee_few : (f : Callee) (n : ℕ) (span : Span) → n ≤ most_items → IsFew (callee_code f n span)
callee_few (callee.Core op) n span h = h
callee_few (callee.Function f) n span h = tt

slim_applied : {k n : ℕ} (is : List PlainInstr) (i : PlainInstr) → IsFew i → Slim k n is → Slim 1 (suc n) (is ++ i ∷ [])
slim_applied {k} {n} is i f h = slim_end is i f (slim_wide 2 (suc n) is h (omega arith))

three : (i j k : PlainInstr) → IsFew i → IsFew j → IsFew k → Slim 0 1 (i ∷ j ∷ k ∷ [])
three i j k h l m = record { few = (h, (l, (m, tt))); short = omega arith }

module _ (ks : List Known) where
  mutual
    gen_slim : (e : Tree) (d : ℕ) → ScopedTree ks d e → (depth base start pc : ℕ) → Slim 1 (nodes e) (gen e depth base start pc)
    gen_slim (Const v m) d h depth base start pc = record { few = (tt, tt); short = omega arith }
    gen_slim (Local i m) d h depth base start pc = record { few = (tt, tt); short = omega arith }
    gen_slim (If c a b m) d h depth base start pc =
        slim_wide 1 (suc (nodes c + (nodes a + nodes b))) _ (slim_cat (gen c depth base start pc) _ (gen_slim c d h.0 depth base start pc)
        (slim_cons (JumpFalse _) _ tt (slim_cat (gen a depth base start _) _ (gen_slim a d h.1 depth base start _) (slim_cons (Jump _) (gen b depth base start _) tt (gen_slim b d h.2 depth base start _))))) (omega arith)
    gen_slim (Do items m) d h depth base start pc = slim_wide 1 (suc (nodes_in items)) _ (do_slim items d h.1 depth base start pc) (omega arith)
    gen_slim (Let values body m) d h depth base start pc =
        slim_wide 1 (suc (nodes_in values + nodes body)) _ (slim_cat (gen_let values depth base start pc) _ (let_slim values d h.0 depth base start pc) (gen_slim body (d + count values) h.1 (depth + count values) base start _)) (omega arith)
    gen_slim (Loop values body m) d h depth base start pc =
        slim_wide 1 (suc (nodes_in values + nodes body)) _ (slim_cat (gen_let values depth base start pc) _ (let_slim values d h.0 depth base start pc) (gen_slim body (d + count values) h.1 (depth + count values) depth _ _)) (omega arith)
    gen_slim (Recur values m) d h depth base start pc =
        let all = all_slim values d h depth base start pc in
        let k = count values in
        let is = gen_all values depth base start pc in
        record {
          few = both_few is _ all.few (both_few (stores base k) (Jump start ∷ []) (stores_few base k) (tt, tt));
          short = omega (arith, all.short, length-append is (stores base k ++ Jump start ∷ []), length-append (stores base k) (Jump start ∷ []), stores_length base k);
        }
    gen_slim (Core op args m) d h depth base start pc = slim_applied (gen_all args depth base start pc) (CoreOf op (count args) m.span) h.0 (all_slim args d h.1 depth base start pc)
    gen_slim (Call f args m) d h depth base start pc = slim_applied (gen_all args depth base start pc) (CallOf f (count args)) tt (all_slim args d h.1 depth base start pc)
    gen_slim (VectorOf items m) d h depth base start pc = slim_applied (gen_all items depth base start pc) (MakeVector (count items) m.span) h.0 (all_slim items d h.1 depth base start pc)
    gen_slim (Println args m) d h depth base start pc = slim_applied (gen_all args depth base start pc) (PrintOf (count args)) h.0 (all_slim args d h.1 depth base start pc)
    gen_slim (Dosync body m) d h depth base start pc =
        slim_cons (TxBegin m.span) _ tt (slim_end (gen body depth base start (pc + 1)) TxEnd tt (slim_wide 3 (suc (nodes body)) _ (gen_slim body d h depth base start (pc + 1)) (omega arith)))
    gen_slim (Look form cell m) d h depth base start pc = slim_end (gen cell depth base start pc) (LookOf form m.span) tt (slim_wide 2 (suc (nodes cell)) _ (gen_slim cell d h depth base start pc) (omega arith))
    gen_slim (Put form cell value m) d h depth base start pc =
        slim_wide 1 (suc (nodes cell + nodes value)) _ (slim_cat (gen cell depth base start pc) _ (gen_slim cell d h.0 depth base start pc)
        (slim_end (gen value depth base start _) (PutOf form m.span) tt (gen_slim value d h.1 depth base start _))) (omega arith)
    gen_slim (Update form cell callee args m) d h depth base start pc =
        let n = count args in
        let le : n ≤ most_items = omega (arith, h.2) in
        slim_wide 1 (suc (nodes cell + nodes_in args)) _ (slim_cat (gen cell depth base start pc) _ (gen_slim cell d h.0 depth base start pc)
        (slim_cat (gen_all args depth base start _) _ (all_slim args d h.3 depth base start _) (three (OpenOf (opening form callee) n m.span) (callee_code callee (suc n) m.span) (CloseOf form m.span) le (callee_few callee (suc n) m.span (omega (arith, h.2))) tt))) (omega arith)
    gen_slim (Send cell callee args m) d h depth base start pc =
        let le : count args ≤ most_items = omega (arith, h.2) in
        slim_wide 1 (suc (nodes cell + nodes_in args)) _ (slim_cat (gen cell depth base start pc) _ (gen_slim cell d h.0 depth base start pc)
        (slim_end (gen_all args depth base start _) (SendOf callee (count args) m.span) le (slim_wide 1 (suc (nodes_in args)) _ (all_slim args d h.3 depth base start _) (omega arith)))) (omega arith)

    all_slim : (es : Trees) (d : ℕ) → ScopedAll ks d es → (depth base start pc : ℕ) → Slim (count es) (nodes_in es) (gen_all es depth base start pc)
    all_slim none d h depth base start pc = record { few = tt; short = omega arith }
    all_slim (more e rest) d h depth base start pc =
        slim_wide (suc (count rest)) (nodes e + nodes_in rest) _ (slim_cat (gen e depth base start pc) _ (gen_slim e d h.0 depth base start pc) (all_slim rest d h.1 depth base start _)) (omega arith)

    let_slim : (es : Trees) (d : ℕ) → ScopedLet ks d es → (depth base start pc : ℕ) → Slim 0 (nodes_in es) (gen_let es depth base start pc)
    let_slim none d h depth base start pc = record { few = tt; short = omega arith }
    let_slim (more e rest) d h depth base start pc =
        let is = gen e depth base start pc in
        let js = gen_let rest (depth + 1) base start (pc + length is + 1) in
        let x = gen_slim e d h.0 depth base start pc in
        let y = let_slim rest (d + 1) h.1 (depth + 1) base start (pc + length is + 1) in
        record { few = both_few is (Store depth ∷ js) x.few (tt, y.few); short = omega (arith, x.short, y.short, length-append is (Store depth ∷ js)) }

    do_slim : (es : Trees) (d : ℕ) → ScopedAll ks d es → (depth base start pc : ℕ) → Slim 0 (nodes_in es) (gen_do es depth base start pc)
    do_slim none d h depth base start pc = record { few = tt; short = omega arith }
    do_slim (more e none) d h depth base start pc = slim_wide 0 (nodes e + 0) _ (gen_slim e d h.0 depth base start pc) (omega arith)
    do_slim (more e (more f rest)) d h depth base start pc =
        let is = gen e depth base start pc in
        let js = gen_do (more f rest) depth base start (pc + length is + 1) in
        let x = gen_slim e d h.0 depth base start pc in
        let y = do_slim (more f rest) d h.1 depth base start (pc + length is + 1) in
        record { few = both_few is (Pop ∷ js) x.few (tt, y.few); short = omega (arith, x.short, y.short, length-append is (Pop ∷ js)) }

  -- ---- locals

  let_depth : (es : Trees) (d : ℕ) → ScopedLet ks d es → d + count es ≤ most_locals
  let_depth none d h = omega (arith, h)
  let_depth (more e rest) d h = omega (arith, let_depth rest (d + 1) h.1)

  mutual
    locals_few : (e : Tree) (d : ℕ) → ScopedTree ks d e → d ≤ most_locals → locals_in e d ≤ most_locals
    locals_few (Const v m) d h le = le
    locals_few (Local i m) d h le = le
    locals_few (If c a b m) d h le = omega (arith, locals_few c d h.0 le, locals_few a d h.1 le, locals_few b d h.2 le)
    locals_few (Do items m) d h le = all_locals items d h.1 le
    locals_few (Let values body m) d h le = omega (arith, let_locals values d h.0 le, locals_few body (d + count values) h.1 (let_depth values d h.0))
    locals_few (Loop values body m) d h le = omega (arith, let_locals values d h.0 le, locals_few body (d + count values) h.1 (let_depth values d h.0))
    locals_few (Recur values m) d h le = all_locals values d h le
    locals_few (Core op args m) d h le = all_locals args d h.1 le
    locals_few (Call f args m) d h le = all_locals args d h.1 le
    locals_few (VectorOf items m) d h le = all_locals items d h.1 le
    locals_few (Println args m) d h le = all_locals args d h.1 le
    locals_few (Dosync body m) d h le = locals_few body d h le
    locals_few (Look form cell m) d h le = locals_few cell d h le
    locals_few (Put form cell value m) d h le = omega (arith, locals_few cell d h.0 le, locals_few value d h.1 le)
    locals_few (Update form cell callee args m) d h le = omega (arith, locals_few cell d h.0 le, all_locals args d h.3 le)
    locals_few (Send cell callee args m) d h le = omega (arith, locals_few cell d h.0 le, all_locals args d h.3 le)

    all_locals : (es : Trees) (d : ℕ) → ScopedAll ks d es → d ≤ most_locals → locals_in_all es d ≤ most_locals
    all_locals none d h le = le
    all_locals (more e rest) d h le = omega (arith, locals_few e d h.0 le, all_locals rest d h.1 le)

    let_locals : (es : Trees) (d : ℕ) → ScopedLet ks d es → d ≤ most_locals → locals_in_let es d ≤ most_locals
    let_locals none d h le = le
    let_locals (more e rest) d h le = omega (arith, locals_few e d h.0 le, let_locals rest (d + 1) h.1 (omega (arith, let_depth rest (d + 1) h.1)))

-- the code of a whole body, with the instruction that ends it
pub record IsShort (ks : List Known) (e : Tree) (d : ℕ) (last : PlainInstr) : Type 0 where
  pub few : AreFew (gen e d 0 0 0 ++ last ∷ [])
  pub short : length (gen e d 0 0 0 ++ last ∷ []) ≤ 3 * nodes e
  pub locals : locals_in e d ≤ most_locals

pub body_short : (ks : List Known) (e : Tree) (d : ℕ) (last : PlainInstr) → ScopedTree ks d e → d ≤ most_locals → IsFew last → IsShort ks e d last
body_short ks e d last h le f =
    let slim = gen_slim ks e d h d 0 0 0 in
    record {
      few = both_few (gen e d 0 0 0) (last ∷ []) slim.few (f, tt);
      short = omega (arith, slim.short, length-append (gen e d 0 0 0) (last ∷ []));
      locals = locals_few ks e d h le;
    }
