-- A table of depths has at each place that the code comes to the depth of the path.
use Rattle.std.proofs.Common.{arith, inl, inr, ◌≡◌, ◌+◌, ◌-◌, ◌≤◌, ℕ, zero, suc, List, Some, sym, ap, subst, ◌∙◌}
use Rattle.txs_code_meaning.specs.PlainCode.{CodeBody}
use Rattle.txs_code_meaning.specs.WellTyped.{Owner, Depths, depth_at, Fits, IsTable}
use Rattle.txs_code_meaning.specs.declared.instr.Instr.{Instr}
use Rattle.txs_code_meaning.specs.declared.instr.Instr.TheVariants.{Const, Local, Store, Pop, Jump, JumpFalse, Core, Call, Return, Vector, Print, Look, Put, TxBegin, TxEnd, Open, Close, Send, Halt}
use Rattle.txs_verify.specs.Paths.{or_none, wants, depth_behind, LeadsTo, Steps, ComesIn}

some_is : {A : Type 0} (x y : A) → Some x ≡ Some y → x ≡ y
some_is x y e = cc

-- where an instruction fits, it finds what it takes
pub enough_of : (owner : Owner) (ps : List ℕ) (ds : Depths) (most at d : ℕ) (i : Instr) → Fits owner ps ds most at d i → wants ps i ≤ d
enough_of owner ps ds most at d (Const k) f = omega (arith)
enough_of owner ps ds most at d (Local i) f = omega (arith)
enough_of owner ps ds most at d (Store i) f = omega (arith, f.0)
enough_of owner ps ds most at d Pop f = omega (arith, f.0)
enough_of owner ps ds most at d (Jump to) f = omega (arith)
enough_of owner ps ds most at d (JumpFalse to) f = omega (arith, f.0)
enough_of owner ps ds most at d (Core op n) f = f.0
enough_of owner ps ds most at d (Call g) f = subst (λ x. or_none x ≤ d) (sym f.0.found) f.0.enough
enough_of owner ps ds most at d Return f = omega (arith)
enough_of owner ps ds most at d (Vector n) f = f.0
enough_of owner ps ds most at d (Print n) f = f.0
enough_of owner ps ds most at d (Look look) f = omega (arith, f.0)
enough_of owner ps ds most at d (Put put) f = omega (arith, f.0)
enough_of owner ps ds most at d TxBegin f = omega (arith)
enough_of owner ps ds most at d TxEnd f = omega (arith)
enough_of owner ps ds most at d (Open by n) f = omega (arith, f.0)
enough_of owner ps ds most at d (Close by) f = omega (arith, f.0)
enough_of owner ps ds most at d (Send callee n) f = omega (arith, f.0)
enough_of owner ps ds most at d Halt f = omega (arith)

-- and the table has what it leads to
pub depth_of : (owner : Owner) (ps : List ℕ) (ds : Depths) (most at d q : ℕ) (i : Instr) → Fits owner ps ds most at d i → LeadsTo at i q → depth_at ds q ≡ Some (depth_behind ps i d)
depth_of owner ps ds most at d q (Const k) f e = ap (depth_at ds) e ∙ f.1
depth_of owner ps ds most at d q (Local i) f e = ap (depth_at ds) e ∙ f.1
depth_of owner ps ds most at d q (Store i) f e = ap (depth_at ds) e ∙ f.1
depth_of owner ps ds most at d q Pop f e = ap (depth_at ds) e ∙ f.1
depth_of owner ps ds most at d q (Jump to) f e = ap (depth_at ds) e ∙ f
depth_of owner ps ds most at d q (JumpFalse to) f (inl e) = ap (depth_at ds) e ∙ f.1
depth_of owner ps ds most at d q (JumpFalse to) f (inr e) = ap (depth_at ds) e ∙ f.2
depth_of owner ps ds most at d q (Core op n) f e = ap (depth_at ds) e ∙ f.2
depth_of owner ps ds most at d q (Call g) f e = ap (depth_at ds) e ∙ f.1 ∙ ap (λ x. Some (d - or_none x + 1)) (sym f.0.found)
depth_of owner ps ds most at d q Return f e = absurd e
depth_of owner ps ds most at d q (Vector n) f e = ap (depth_at ds) e ∙ f.2
depth_of owner ps ds most at d q (Print n) f e = ap (depth_at ds) e ∙ f.2
depth_of owner ps ds most at d q (Look look) f e = ap (depth_at ds) e ∙ f.1
depth_of owner ps ds most at d q (Put put) f e = ap (depth_at ds) e ∙ f.1
depth_of owner ps ds most at d q TxBegin f e = ap (depth_at ds) e ∙ f
depth_of owner ps ds most at d q TxEnd f e = ap (depth_at ds) e ∙ f
depth_of owner ps ds most at d q (Open by n) f e = ap (depth_at ds) e ∙ f.2
depth_of owner ps ds most at d q (Close by) f e = ap (depth_at ds) e ∙ f.1
depth_of owner ps ds most at d q (Send callee n) f e = ap (depth_at ds) e ∙ f.1
depth_of owner ps ds most at d q Halt f e = absurd e

-- a path comes to a place with the depth that the table has there
pub has_depth : (owner : Owner) (ps : List ℕ) (b : CodeBody) (most : ℕ) (ds : Depths) → IsTable owner ps b most ds → (n q e u : ℕ) → ComesIn ps b.instrs n q e u → depth_at ds q ≡ Some e
unfolding ComesIn
has_depth owner ps b most ds table zero q e u c = ap (depth_at ds) c.0 ∙ table.first ∙ ap Some (sym c.1)
has_depth owner ps b most ds table (suc n) q e u c =
    let p = c.0 in
    let d = c.1 in
    let t = c.2 in
    let before : ComesIn ps b.instrs n p d t = c.3 in
    let step : Steps ps b.instrs p d t q e u = c.4 in
    let fit = table.fits p d (has_depth owner ps b most ds table n p d t before) in
    let same : fit.0 ≡ step.instr = some_is fit.0 step.instr (sym fit.1 ∙ step.stands) in
    let fits = subst (λ i. Fits owner ps ds most p d i) same fit.2 in
    depth_of owner ps ds most p d q step.instr fits step.leads ∙ ap Some (sym step.depth)
