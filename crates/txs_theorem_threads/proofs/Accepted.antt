-- What validators make of two meanings that go together, and of pure ones.
use Rattle.std.proofs.Common.{◌≡◌, ℕ, zero, suc, true, false, List, [], ◌∷◌, Option, Some, None, refl, ap, ◌∙◌}
use Rattle.txs_world_protocol.specs.Ask.{Writes}
use Rattle.txs_value_data.specs.Places.{fault_at}
use Rattle.txs_value_data.specs.declared.fault.FaultKind.TheVariants.{InvalidState}
use Rattle.txs_value_data.specs.declared.fault.Span.{Span}
use Rattle.txs_value_data.specs.declared.op.Callee.{Callee}
use Rattle.txs_frame.specs.Frame.{PlainTxFrame, commuted, set_writes, phase_work}
use Rattle.txs_value_cell.specs.Cells.{World, Validators, validator_at, validators_of}
use Rattle.txs_value_cell.specs.declared.cell.CellDefinition.{CellDefinition}
use Rattle.txs_value_data.specs.declared.value.Value.{Value}
use Rattle.txs_value_data.specs.declared.value.Value.TheVariants.{Nil, Truth, Int, Key, Text, Vector, Cell}
use Rattle.txs_tree_meaning.specs.Known.{Known}
use Rattle.txs_tree_meaning.specs.Meaning.{Completes, Faults, bind, Applies}
use Rattle.txs_tree_meaning.specs.Sound.{SoundCallee, SoundCells, SoundValidator}
use Rattle.txs_tree_meaning.specs.Transaction.{judged, validated, accepted, if_accepted, valued, merged, redone, final_writes}
use Rattle.txs_theorem_threads.proofs.Callees.{IsPure, sound_pure}
use Rattle.txs_theorem_threads.proofs.Quiet.{carried, IsQuiet, bind_carried, bind_quiet, AllCommutes, phase_some, redone_carried}
use Rattle.txs_theorem_threads.proofs.Related.{Link, Related, bind_related, choose_related, Applied}

-- ---- what holds of validators

-- this holds of a validator, if there is one
abbrev pub OfValidator : (Callee → Type 0) → Option Callee → Type 0
OfValidator P None = Unit {0}
OfValidator P (Some f) = P f

-- so of each cell's
abbrev pub AllValidators : (Callee → Type 0) → Validators → Type 0
AllValidators P [] = Unit {0}
AllValidators P (o ∷ vs) = OfValidator P o × AllValidators P vs

-- then of that of the cell with this number
pub validator_such : (P : Callee → Type 0) (vs : Validators) (k : ℕ) → AllValidators P vs → OfValidator P (validator_at vs k)
validator_such P [] k h = tt
validator_such P (o ∷ vs) zero h = h.0
validator_such P (o ∷ vs) (suc k) h = validator_such P vs k h.1

-- the validators of sound cells are callees of one value
pub cells_such : (ks : List Known) (ds : List CellDefinition) → SoundCells ks ds → AllValidators (λ f. SoundCallee ks f 1) (validators_of ds)
cells_such ks [] h = tt
cells_such ks (d ∷ ds) h = (one d.validator h.0, cells_such ks ds h.1)
  where
    one : (o : Option Callee) → SoundValidator ks o → OfValidator (λ f. SoundCallee ks f 1) o
    one None g = tt
    one (Some f) g = g

-- so they are pure
pub validators_pure : (ks : List Known) (ds : List CellDefinition) → SoundCells ks ds → AllValidators (IsPure ks) (validators_of ds)
validators_pure ks [] h = tt
validators_pure ks (d ∷ ds) h = (one d.validator h.0, validators_pure ks ds h.1)
  where
    one : (o : Option Callee) → SoundValidator ks o → OfValidator (IsPure ks) o
    one None g = tt
    one (Some f) g = sound_pure ks f 1 g

-- ---- two meanings that go together

module _ (S T : Type 0) (k : Link S T) where
  pub judged_related : (answer : Value) (span : Span) (v : Value) (s : S) (t : T) → k.rel s t → Related k (judged answer span v s) (judged answer span v t)
  judged_related answer span v s t r = choose_related S T k answer (Completes v s) (Faults (fault_at InvalidState span) s) (Completes v t) (Faults (fault_at InvalidState span) t) (refl, r) (refl, k.faults_of s t r)

  pub validated_related : (f : Applies S) (g : Applies T) → Applied S T k f g → (o : Option Callee) (span : Span) (v : Value) (s : S) (t : T) → k.rel s t → Related k (validated f o span v s) (validated g o span v t)
  validated_related f g h None span v s t r = (refl, r)
  validated_related f g h (Some c) span v s t r =
      bind_related S T k (f c (v ∷ []) s) (g c (v ∷ []) t) (λ answer s1. judged answer span v s1) (λ answer t1. judged answer span v t1) (h c (v ∷ []) s t r) (λ answer s1 t1 r1. judged_related answer span v s1 t1 r1)

  pub accepted_related : (f : Applies S) (g : Applies T) → Applied S T k f g → (vs : Validators) (span : Span) (ws : Writes) (s : S) (t : T) → k.rel s t → Related k (accepted f vs span ws s) (accepted g vs span ws t)
  accepted_related f g h vs span [] s t r = (refl, r)
  accepted_related f g h vs span (w ∷ ws) s t r =
      let o = validator_at vs w.0.number in
      bind_related S T k (validated f o span w.1 s) (validated g o span w.1 t) (λ v s1. accepted f vs span ws s1) (λ v t1. accepted g vs span ws t1) (validated_related f g h o span w.1 s t r)
      (λ v s1 t1 r1. accepted_related f g h vs span ws s1 t1 r1)

  pub if_accepted_related : (f : Applies S) (g : Applies T) → Applied S T k f g → (vs : Validators) (span : Span) (ws : Writes) (s : S) (t : T) → k.rel s t → Related k (if_accepted f vs span ws s) (if_accepted g vs span ws t)
  if_accepted_related f g h vs span ws s t r =
      bind_related S T k (accepted f vs span ws s) (accepted g vs span ws t) (λ u s1. Completes ws s1) (λ u t1. Completes ws t1) (accepted_related f g h vs span ws s t r) (λ u s1 t1 r1. (refl, r1))

-- ---- pure validators

pub judged_carried : {S : Type 0} (s : S) (answer : Value) (span : Span) (v : Value) → (judged answer span v s ≡ carried s (judged answer span v tt)) × IsQuiet (judged answer span v tt)
judged_carried s Nil span v = (refl, tt)
judged_carried s (Truth false) span v = (refl, tt)
judged_carried s (Truth true) span v = (refl, tt)
judged_carried s (Int z) span v = (refl, tt)
judged_carried s (Key bs) span v = (refl, tt)
judged_carried s (Text bs) span v = (refl, tt)
judged_carried s (Vector vs) span v = (refl, tt)
judged_carried s (Cell c) span v = (refl, tt)

module _ {S : Type 0} (P : Callee → Type 0) (s : S) (f : Applies S) (q : Applies (Unit {0})) (h : (c : Callee) (vs : List Value) → P c → (f c vs s ≡ carried s (q c vs tt)) × IsQuiet (q c vs tt)) where
  pub validated_carried : (o : Option Callee) → OfValidator P o → (span : Span) (v : Value) → (validated f o span v s ≡ carried s (validated q o span v tt)) × IsQuiet (validated q o span v tt)
  validated_carried None p span v = (refl, tt)
  validated_carried (Some c) p span v =
      let one = h c (v ∷ []) p in (
        ap (λ x. bind x (λ answer s1. judged answer span v s1)) one.0
            ∙ bind_carried s (q c (v ∷ []) tt) (λ answer s1. judged answer span v s1) (λ answer u. judged answer span v u) (λ answer. (judged_carried s answer span v).0),
        bind_quiet (q c (v ∷ []) tt) (λ answer u. judged answer span v u) one.1 (λ answer. (judged_carried s answer span v).1),
      )

  -- what a pure callee gives, where the validator accepts it
  pub made_carried : (o : Option Callee) → OfValidator P o → (span : Span) (c : Callee) (args : List Value) → P c → (bind (f c args s) (λ v s1. validated f o span v s1) ≡ carried s (bind (q c args tt) (λ v u. validated q o span v u))) × IsQuiet (bind (q c args tt) (λ v u. validated q o span v u))
  made_carried o p span c args pure =
      let one = h c args pure in (
        ap (λ x. bind x (λ v s1. validated f o span v s1)) one.0 ∙ bind_carried s (q c args tt) (λ v s1. validated f o span v s1) (λ v u. validated q o span v u) (λ v. (validated_carried o p span v).0),
        bind_quiet (q c args tt) (λ v u. validated q o span v u) one.1 (λ v. (validated_carried o p span v).1),
      )

  pub accepted_carried : (vs : Validators) → AllValidators P vs → (span : Span) (ws : Writes) → (accepted f vs span ws s ≡ carried s (accepted q vs span ws tt)) × IsQuiet (accepted q vs span ws tt)
  accepted_carried vs all span [] = (refl, tt)
  accepted_carried vs all span (w ∷ ws) =
      let o = validator_at vs w.0.number in
      let one = validated_carried o (validator_such P vs w.0.number all) span w.1 in
      let rest = accepted_carried vs all span ws in (
        ap (λ x. bind x (λ v s1. accepted f vs span ws s1)) one.0
            ∙ bind_carried s (validated q o span w.1 tt) (λ v s1. accepted f vs span ws s1) (λ v u. accepted q vs span ws u) (λ v. rest.0),
        bind_quiet (validated q o span w.1 tt) (λ v u. accepted q vs span ws u) one.1 (λ v. rest.1),
      )

  pub if_accepted_carried : (vs : Validators) → AllValidators P vs → (span : Span) (ws : Writes) → (if_accepted f vs span ws s ≡ carried s (if_accepted q vs span ws tt)) × IsQuiet (if_accepted q vs span ws tt)
  if_accepted_carried vs all span ws =
      let one = accepted_carried vs all span ws in (
        ap (λ x. bind x (λ u s1. Completes ws s1)) one.0 ∙ bind_carried s (accepted q vs span ws tt) (λ u s1. Completes ws s1) (λ u t. Completes ws t) (λ u. refl),
        bind_quiet (accepted q vs span ws tt) (λ u t. Completes ws t) one.1 (λ u. tt),
      )

  -- the final writes of a transaction whose commutes and validators are pure
  pub final_carried : (vs : Validators) → AllValidators P vs → (span : Span) (w : PlainTxFrame) → AllCommutes P w.commutes → (C : World) → (final_writes f vs span w C s ≡ carried s (final_writes q vs span w C tt)) × IsQuiet (final_writes q vs span w C tt)
  final_carried vs all span w commutes C =
      let ks = phase_work w in
      let start = valued (commuted w) C in
      let one = redone_carried P s f q h ks (phase_some P w commutes) start in
      let rest : (ws : Writes) → (if_accepted f vs span (merged (set_writes w) ws) s ≡ carried s (if_accepted q vs span (merged (set_writes w) ws) tt)) × IsQuiet (if_accepted q vs span (merged (set_writes w) ws) tt) =
      λ ws. if_accepted_carried vs all span (merged (set_writes w) ws) in (
        ap (λ x. bind x (λ ws s1. if_accepted f vs span (merged (set_writes w) ws) s1)) one.0
            ∙ bind_carried s (redone q ks start tt) (λ ws s1. if_accepted f vs span (merged (set_writes w) ws) s1) (λ ws u. if_accepted q vs span (merged (set_writes w) ws) u) (λ ws. (rest ws).0),
        bind_quiet (redone q ks start tt) (λ ws u. if_accepted q vs span (merged (set_writes w) ws) u) one.1 (λ ws. (rest ws).1),
      )
