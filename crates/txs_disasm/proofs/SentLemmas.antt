-- How what a writer got of some bytes grows, from page to page and from line to line.
use Rattle.std.proofs.Common.{◌≡◌, ℕ, ◌+◌, ◌<◌, ◌≤◌, List, [], ◌++◌, length, length-drop, drop, take, refl, sym, ap, ◌∙◌, append_assoc, append-nil, length-append, arith, subst}
use Rattle.std.specs.Prelude.{Option, Result, Ok, Err, OnOk, OnErr}
use Rattle.std.proofs.lemmas.List.{take-append-drop}
use Rattle.std.proofs.KnownBytes.{Appends-nil, Appends-trans}
use Rattle.std.specs.Io.KnownBytes.{Appends}
use Rattle.txs_disasm.specs.Sent.{Sent, IsCut}

-- nothing is written yet
pub Sent-none : (a : Option (List ℕ)) (all : List ℕ) → Sent a a all all
Sent-none a all = record { bytes = []; got = Appends-nil a; whole = refl }

-- all is written
pub Sent-all : (a b : Option (List ℕ)) (all : List ℕ) → Appends a b all → Sent a b all []
Sent-all a b all p = record { bytes = all; got = p; whole = sym (append-nil all) }

pub Sent-whole : (a b : Option (List ℕ)) (all left : List ℕ) → left ≡ [] → Sent a b all left → Appends a b all
Sent-whole a b all left none s = subst (λ l. Appends a b l) (sym (s.whole ∙ ap (λ l. s.bytes ++ l) none ∙ append-nil s.bytes)) s.got

-- what a beginning is of some bytes, it is also of these with more behind them
pub Sent-longer : (a b : Option (List ℕ)) (all left more : List ℕ) → Sent a b all left → Sent a b (all ++ more) (left ++ more)
Sent-longer a b all left more s = record { bytes = s.bytes; got = s.got; whole = ap (λ l. l ++ more) s.whole ∙ append_assoc s.bytes left more }

pub Sent-trans : (a b c : Option (List ℕ)) (all mid left : List ℕ) → Sent a b all mid → Sent b c mid left → Sent a c all left
Sent-trans a b c all mid left s t = record {
  bytes = s.bytes ++ t.bytes;
  got = Appends-trans a b c s.bytes t.bytes s.got t.got;
  whole = s.whole ∙ ap (λ l. s.bytes ++ l) t.whole ∙ sym (append_assoc s.bytes t.bytes left);
}

pub IsCut-after : (a b c : Option (List ℕ)) (all mid : List ℕ) → Sent a b all mid → IsCut b c mid → IsCut a c all
IsCut-after a b c all mid s k = record { left = k.left; some = k.some; sent = Sent-trans a b c all mid k.left s k.sent }

pub IsCut-longer : (a b : Option (List ℕ)) (all more : List ℕ) → IsCut a b all → IsCut a b (all ++ more)
IsCut-longer a b all more k = record {
  left = k.left ++ more;
  some = rw (length-append k.left more) (omega (arith, k.some));
  sent = Sent-longer a b all k.left more k.sent;
}

-- one write took so many bytes of what was left
pub Sent-took : (a b c : Option (List ℕ)) (all mid left : List ℕ) (n : ℕ) → left ≡ drop n mid → Sent a b all mid → Appends b c (take n mid) → Sent a c all left
Sent-took a b c all mid left n e s p = Sent-trans a b c all mid left s (record { bytes = take n mid; got = p; whole = sym (take-append-drop n mid) ∙ ap (λ l. take n mid ++ l) (sym e) })

-- and less is left, or it may be interrupted less often
pub took_less : (mid left : List ℕ) (n p q : ℕ) → left ≡ drop n mid → n ≤ length mid → q < n + p → length left + q < length mid + p
took_less mid left n p q e le lt = rw (e, length-drop n mid) (omega (arith, le, lt))

-- ---- of an answer

pub on_err : {A E : Type 0} (r : Result A E) {P : Type 0} → P → OnErr r P
on_err (Ok x) p = tt
on_err (Err e) p = p

pub err_maps : {A E : Type 0} (r : Result A E) {P Q : Type 0} → (P → Q) → OnErr r P → OnErr r Q
err_maps (Ok x) f h = tt
err_maps (Err e) f h = f h

pub ok_maps : {A E : Type 0} (r : Result A E) {P Q : Type 0} → (P → Q) → OnOk r P → OnOk r Q
ok_maps (Ok x) f h = f h
ok_maps (Err e) f h = tt
