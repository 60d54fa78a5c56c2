-- What a refusal adds.
use Rattle.std.proofs.Common.{◌≡◌, ◌++◌, ◌∷◌, [], ℕ, List, Result, Ok, Err, codes, refl, subst}
use Rattle.std.specs.Prelude.{OnOk}
use Rattle.serde_json.specs.Data.{Data, Members, no_members, put}
use Rattle.txs_cli_json.specs.Json.{IsLineOf, refusal_kinds, typed}
use Rattle.txs_cli_json.specs.Members.{AddsRefusal, with_refused}
use Rattle.txs_compile.specs.declared.compile_error.CompileError.{CompileError}
use Rattle.txs_compile.specs.declared.compile_error.CompileError.TheVariants.{Read, Resolve, Check, Memory}

-- where there was no memory nothing is added
pub adds_none : (text : List ℕ) (e : CompileError) (old : List ℕ) → refusal_kinds e ≡ [] → AddsRefusal text e old old
adds_none text (Read x) old k = absurd cc
adds_none text (Resolve x) old k = absurd cc
adds_none text (Check x) old k = absurd cc
adds_none text Memory old k = refl

-- else the line of the refusal
adds_refusal : (text : List ℕ) (e : CompileError) (advice : Data) (old new : List ℕ) → refusal_kinds e ≡ codes "refused" ∷ []
    → ((line : List ℕ) × IsLineOf (typed (codes "refused") (with_refused text e (put (codes "advice") advice no_members))) line × (new ≡ old ++ line)) → AddsRefusal text e old new
adds_refusal text (Read x) advice old new k h = (advice, h.0, h.1, h.2)
adds_refusal text (Resolve x) advice old new k h = (advice, h.0, h.1, h.2)
adds_refusal text (Check x) advice old new k h = (advice, h.0, h.1, h.2)
adds_refusal text Memory advice old new k h = absurd cc

-- the same of a line that is written, or for which there is no memory
pub adds_line : {A E : Type 0} (r : Result A E) (text : List ℕ) (e : CompileError) (advice : Data) (ms : Members) (old new : List ℕ) → refusal_kinds e ≡ codes "refused" ∷ [] → ms ≡ with_refused text e (put (codes "advice") advice no_members)
    → OnOk r ((line : List ℕ) × IsLineOf (typed (codes "refused") ms) line × (new ≡ old ++ line)) → OnOk r (AddsRefusal text e old new)
adds_line (Ok x) text e advice ms old new k same h = adds_refusal text e advice old new k (h.0, subst (λ m. IsLineOf (typed (codes "refused") m) h.0) same h.1, h.2)
adds_line (Err x) text e advice ms old new k same h = tt
