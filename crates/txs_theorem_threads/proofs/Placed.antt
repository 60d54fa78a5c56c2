-- In a sound thread each form stands where the table says, each function is called where it may be, and callees are pure.
use Rattle.std.proofs.Common.{◌≡◌, ◌∙◌, ℕ, Bool, true, false, List, [], Option, Some, refl, sym, ap}
use Rattle.txs_value_cell.specs.Forms.{rule, may_stand}
use Rattle.txs_value_data.specs.Places.{nth}
use Rattle.txs_value_cell.specs.declared.form.Standing.{Standing}
use Rattle.txs_value_cell.specs.declared.form.Standing.TheVariants.{Anywhere, Inside, Outside}
use Rattle.txs_value_data.specs.declared.op.Callee.{Callee}
use Rattle.txs_value_data.specs.declared.op.Callee.TheVariants.{Core as CoreOp, Function}
use Rattle.txs_tree_meaning.specs.Known.{Known, is_inside, is_outside, is_pure, known}
use Rattle.txs_tree_meaning.specs.Sound.{Zone, in_function, in_thread, in_dosync, MayStand, SoundTree, SoundCall, SoundCallee, SoundFunctions}
use Rattle.txs_tree_meaning.specs.Tree.{Tree, PlainFunction}
use Rattle.txs_theorem_threads.proofs.Callees.{Rules, Keeps, keeps_in, IsPure}
use Rattle.txs_theorem_threads.proofs.Functions.{defined, thread_sound, dosync_sound}

-- a function that may be called inside a transaction, or outside
abbrev pub MayCallAt : List Known → Bool → ℕ → Type 0
MayCallAt ks true f = is_outside (nth ks f) ≡ false
MayCallAt ks false f = is_inside (nth ks f) ≡ false

-- the rules that sound trees keep
abbrev pub placed : List Known → Rules
placed ks = record {
  callee = IsPure ks;
  form = λ inside form. may_stand (rule form).stands inside ≡ true;
  call = MayCallAt ks;
}

-- a thread stands outside of transactions
abbrev StandsAt : Zone → Bool → Type 0
StandsAt in_function inside = ⊥
StandsAt in_thread true = ⊥
StandsAt in_thread false = Unit {0}
StandsAt in_dosync true = Unit {0}
StandsAt in_dosync false = ⊥

stands : (zone : Zone) (inside : Bool) (s : Standing) → StandsAt zone inside → MayStand zone s → may_stand s inside ≡ true
stands in_function inside s at h = absurd at
stands in_thread true s at h = absurd at
stands in_thread false Anywhere at h = refl
stands in_thread false Inside at h = absurd h
stands in_thread false Outside at h = refl
stands in_dosync true Anywhere at h = refl
stands in_dosync true Inside at h = refl
stands in_dosync true Outside at h = absurd h
stands in_dosync false s at h = absurd at

-- what is known of functions, some of which are known to stand where they stand among all
abbrev Among : List Known → List Known → Type 0
Among ks all = (g : ℕ) (k : Known) → nth ks g ≡ Some k → nth all g ≡ Some k

called_at : (ks all : List Known) → Among ks all → (zone : Zone) (inside : Bool) (f n : ℕ) → StandsAt zone inside → SoundCall ks zone f n → MayCallAt all inside f
called_at ks all h in_function inside f n at c = absurd at
called_at ks all h in_thread true f n at c = absurd at
called_at ks all h in_thread false f n at c = ap is_inside (h f c.function c.found) ∙ c.zoned
called_at ks all h in_dosync true f n at c = ap is_outside (h f c.function c.found) ∙ c.zoned
called_at ks all h in_dosync false f n at c = absurd at

pure_among : (ks all : List Known) → Among ks all → (c : Callee) (n : ℕ) → SoundCallee ks c n → IsPure all c
pure_among ks all h (CoreOp op) n s = tt
pure_among ks all h (Function f) n s = ap is_pure (h f s.function s.found) ∙ s.pure

-- a sound part outside of transactions, or inside
placed_at : (ks all : List Known) → Among ks all → (e : Tree) (zone : Zone) (inside : Bool) (d : ℕ) (tail : Option ℕ) → StandsAt zone inside → SoundTree ks zone d tail e → Keeps (placed all) inside e
placed_at ks all h e zone inside d tail at s =
    keeps_in ks (placed all) StandsAt tt (pure_among ks all h) (λ z i form at1 m. stands z i (rule form).stands at1 m) (called_at ks all h) e zone inside d tail at s

-- a thread's body
pub thread_placed : (ks : List Known) (e : Tree) (d : ℕ) (tail : Option ℕ) → SoundTree ks in_thread d tail e → Keeps (placed ks) false e
thread_placed ks e d tail s = placed_at ks ks (λ g k q. q) e in_thread false d tail tt s

-- the body of a function that may be called there
pub function_placed : (fs : List PlainFunction) → SoundFunctions [] fs → (inside : Bool) (f : ℕ) (fun : PlainFunction) → nth fs f ≡ Some fun → MayCallAt (known fs) inside f → Keeps (placed (known fs)) inside fun.body
function_placed fs sound true f fun found may =
    let d = defined fs sound f fun found in
    placed_at d.before (known fs) (λ g k q. (d.earlier g k q).1) fun.body in_dosync true fun.parameters (Some fun.parameters) tt
    (dosync_sound d.before fun.body fun.parameters (Some fun.parameters) d.sound.1 (sym (ap is_outside d.found) ∙ may))
function_placed fs sound false f fun found may =
    let d = defined fs sound f fun found in
    placed_at d.before (known fs) (λ g k q. (d.earlier g k q).1) fun.body in_thread false fun.parameters (Some fun.parameters) tt
    (thread_sound d.before fun.body fun.parameters (Some fun.parameters) d.sound.1 (sym (ap is_inside d.found) ∙ may))
