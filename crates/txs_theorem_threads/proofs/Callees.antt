-- What stands in a tree, by rules: callees of updates, forms on cells, and calls. In a sound tree these callees are pure.
use Rattle.std.proofs.Common.{◌≡◌, ◌+◌, ℕ, suc, Bool, true, List, [], Option, Some, None, take, ap, ◌∙◌}
use Rattle.txs_value_cell.specs.Forms.{rule}
use Rattle.txs_value_data.specs.Places.{nth}
use Rattle.txs_value_cell.specs.declared.form.CellForm.{CellForm}
use Rattle.txs_value_cell.specs.declared.form.CellForm.TheVariants as form_of
use Rattle.txs_value_data.specs.declared.op.Callee.{Callee}
use Rattle.txs_value_data.specs.declared.op.Callee.TheVariants.{Core as CoreOp, Function}
use Rattle.txs_tree_meaning.specs.Known.{Known, is_pure, known}
use Rattle.txs_tree_meaning.specs.Sound.{Zone, in_function, in_dosync, MayStand, SoundTree, SoundAll, SoundLet, SoundDo, SoundCall, SoundCallee, SoundFunctions}
use Rattle.txs_tree_meaning.specs.Tree.{Tree, Const, Local, If, Do, Let, Loop, Recur, Core, Call, VectorOf, Println, Dosync, Look, Put, Update, Send, Trees, none, more, count, PlainFunction}
use Rattle.txs_tree_meaning.proofs.Callable.{function_at, nth-take}

-- what may stand in a tree: such callees of updates, and inside a transaction or not such forms on cells and calls of such
-- functions; what is sent is run elsewhere
pub record Rules : Type 1 where
  pub callee : Callee → Type 0
  pub form : Bool → CellForm → Type 0
  pub call : Bool → ℕ → Type 0

abbrev mutual
  -- nothing else stands in it
  pub Keeps : Rules → Bool → Tree → Type 0
  Keeps w inside (Const v m) = Unit {0}
  Keeps w inside (Local i m) = Unit {0}
  Keeps w inside (If c a b m) = Keeps w inside c × Keeps w inside a × Keeps w inside b
  Keeps w inside (Do items m) = KeepAll w inside items
  Keeps w inside (Let values body m) = KeepAll w inside values × Keeps w inside body
  Keeps w inside (Loop values body m) = KeepAll w inside values × Keeps w inside body
  Keeps w inside (Recur values m) = KeepAll w inside values
  Keeps w inside (Core op args m) = KeepAll w inside args
  Keeps w inside (Call f args m) = w.call inside f × KeepAll w inside args
  Keeps w inside (VectorOf items m) = KeepAll w inside items
  Keeps w inside (Println args m) = KeepAll w inside args
  Keeps w inside (Dosync body m) = Keeps w true body
  Keeps w inside (Look form cell m) = w.form inside (form_of.Look form) × Keeps w inside cell
  Keeps w inside (Put form cell value m) = w.form inside (form_of.Put form) × Keeps w inside cell × Keeps w inside value
  Keeps w inside (Update form cell callee args m) = w.form inside (form_of.Update form) × Keeps w inside cell × w.callee callee × KeepAll w inside args
  Keeps w inside (Send cell callee args m) = Keeps w inside cell × KeepAll w inside args

  -- nor in these
  pub KeepAll : Rules → Bool → Trees → Type 0
  KeepAll w inside none = Unit {0}
  KeepAll w inside (more e rest) = Keeps w inside e × KeepAll w inside rest

module _ (ks : List Known) (w : Rules) (At : Zone → Bool → Type 0) (dosync : At in_dosync true) (callees : (c : Callee) (n : ℕ) → SoundCallee ks c n → w.callee c)
    (forms : (zone : Zone) (inside : Bool) (form : CellForm) → At zone inside → MayStand zone (rule form).stands → w.form inside form)
    (calls : (zone : Zone) (inside : Bool) (f n : ℕ) → At zone inside → SoundCall ks zone f n → w.call inside f) where
  mutual
    -- a sound tree keeps rules that hold where each part stands
    pub keeps_in : (e : Tree) (zone : Zone) (inside : Bool) (d : ℕ) (tail : Option ℕ) → At zone inside → SoundTree ks zone d tail e → Keeps w inside e
    keeps_in (Const v m) zone i d tail at h = tt
    keeps_in (Local x m) zone i d tail at h = tt
    keeps_in (If c a b m) zone i d tail at h = (keeps_in c zone i d None at h.0, keeps_in a zone i d tail at h.1, keeps_in b zone i d tail at h.2)
    keeps_in (Do items m) zone i d tail at h = keeps_do items zone i d tail at h
    keeps_in (Let values body m) zone i d tail at h = (keeps_let values zone i d at h.0, keeps_in body zone i (d + count values) tail at h.1)
    keeps_in (Loop values body m) zone i d tail at h = (keeps_let values zone i d at h.0, keeps_in body zone i (d + count values) (Some (count values)) at h.1)
    keeps_in (Recur values m) zone i d tail at h = keeps_all values zone i d at h.1
    keeps_in (Core op args m) zone i d tail at h = keeps_all args zone i d at h.1
    keeps_in (Call f args m) zone i d tail at h = (calls zone i f (count args) at h.0, keeps_all args zone i d at h.1)
    keeps_in (VectorOf items m) zone i d tail at h = keeps_all items zone i d at h.1
    keeps_in (Println args m) zone i d tail at h = keeps_all args zone i d at h.2
    keeps_in (Dosync body m) zone i d tail at h = keeps_in body in_dosync true d None dosync h
    keeps_in (Look form cell m) zone i d tail at h = (forms zone i (form_of.Look form) at h.0, keeps_in cell zone i d None at h.1)
    keeps_in (Put form cell value m) zone i d tail at h = (forms zone i (form_of.Put form) at h.0, keeps_in cell zone i d None at h.1, keeps_in value zone i d None at h.2)
    keeps_in (Update form cell callee args m) zone i d tail at h =
        (forms zone i (form_of.Update form) at h.0, keeps_in cell zone i d None at h.1, callees callee (suc (count args)) h.2, keeps_all args zone i d at h.3)
    keeps_in (Send cell callee args m) zone i d tail at h = (keeps_in cell zone i d None at h.0, keeps_all args zone i d at h.2)

    keeps_all : (es : Trees) (zone : Zone) (inside : Bool) (d : ℕ) → At zone inside → SoundAll ks zone d es → KeepAll w inside es
    keeps_all none zone i d at h = tt
    keeps_all (more e rest) zone i d at h = (keeps_in e zone i d None at h.0, keeps_all rest zone i d at h.1)

    keeps_let : (es : Trees) (zone : Zone) (inside : Bool) (d : ℕ) → At zone inside → SoundLet ks zone d es → KeepAll w inside es
    keeps_let none zone i d at h = tt
    keeps_let (more e rest) zone i d at h = (keeps_in e zone i d None at h.0, keeps_let rest zone i (d + 1) at h.1)

    keeps_do : (es : Trees) (zone : Zone) (inside : Bool) (d : ℕ) (tail : Option ℕ) → At zone inside → SoundDo ks zone d tail es → KeepAll w inside es
    keeps_do none zone i d tail at h = absurd h
    keeps_do (more e none) zone i d tail at h = (keeps_in e zone i d tail at h, tt)
    keeps_do (more e (more f rest)) zone i d tail at h = (keeps_in e zone i d None at h.0, keeps_do (more f rest) zone i d tail at h.1)

-- an operation, or a pure function
abbrev pub IsPure : List Known → Callee → Type 0
IsPure ks (CoreOp op) = Unit {0}
IsPure ks (Function f) = is_pure (nth ks f) ≡ true

pub sound_pure : (ks : List Known) (c : Callee) (n : ℕ) → SoundCallee ks c n → IsPure ks c
sound_pure ks (CoreOp op) n h = tt
sound_pure ks (Function f) n h = ap is_pure h.found ∙ h.pure

before_pure : (ks : List Known) (b : ℕ) (c : Callee) (n : ℕ) → SoundCallee (take b ks) c n → IsPure ks c
before_pure ks b (CoreOp op) n h = tt
before_pure ks b (Function f) n h = ap is_pure (nth-take b ks f h.function h.found).1 ∙ h.pure

-- pure callees, and any form and call
abbrev pub pure_callees : List Known → Rules
pure_callees ks = record {
  callee = IsPure ks;
  form = λ inside form. Unit {0};
  call = λ inside f. Unit {0};
}

-- the callees in a sound tree are pure
pub callees_in : (ks : List Known) (e : Tree) (zone : Zone) (inside : Bool) (d : ℕ) (tail : Option ℕ) → SoundTree ks zone d tail e → Keeps (pure_callees ks) inside e
callees_in ks e zone inside d tail h =
    keeps_in ks (pure_callees ks) (λ z i. Unit {0}) tt (sound_pure ks) (λ z i form at m. tt) (λ z i f n at m. tt) e zone inside d tail tt h

-- so are those in the body of a function of sound ones
pub function_callees : (fs : List PlainFunction) → SoundFunctions [] fs → (inside : Bool) (f : ℕ) (fun : PlainFunction) → nth fs f ≡ Some fun → Unit {0} → Keeps (pure_callees (known fs)) inside fun.body
function_callees fs sound inside f fun found may =
    let here = function_at fs f fun sound found in
    keeps_in (take f (known fs)) (pure_callees (known fs)) (λ z i. Unit {0}) tt (before_pure (known fs) f) (λ z i form at m. tt) (λ z i g n at m. tt) fun.body in_function inside fun.parameters (Some fun.parameters) tt here.1.1
