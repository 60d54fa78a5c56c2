-- Lines of a listing, one more at a time, and what a writer got of them.
use Rattle.std.proofs.Common.{◌≡◌, ℕ, zero, suc, ◌<◌, ◌≤◌, ◌+◌, List, [], ◌∷◌, ◌++◌, length, drop, get_or, refl, sym, ap, ◌∙◌, append_assoc, length-append, add-one, arith, subst}
use Rattle.std.specs.Prelude.{IsTrue, OnErr, OnOk, Option, Result, Ok, Err, is_ok, if◌then◌else◌, slice_index_or}
use Rattle.std.proofs.lemmas.Bool.{false≢true}
use Rattle.std.proofs.Math.Seq.{drop-cons}
use Rattle.std.proofs.lemmas.List.{append-nil, drop_all}
use Rattle.txs_value_data.specs.declared.fault.Span.{Span}
use Rattle.txs_code_meaning.specs.PlainCode.{CodeBody}
use Rattle.txs_code_meaning.specs.declared.instr.Instr.{Instr}
use Rattle.txs_disasm.specs.declared.lines.BodyKind.{BodyKind}
use Rattle.txs_disasm.specs.declared.lines.BodyKind.TheVariants.{Function, Thread}
use Rattle.txs_disasm.specs.Listing.{numbered, instr_line, instr_lines, body_line}
use Rattle.txs_disasm.specs.Sent.{Sent, IsCut}
use Rattle.txs_disasm.proofs.SentLemmas.{Sent-trans, Sent-longer, IsCut-after, IsCut-longer}

-- ---- the next line of a list

pub numbered-at : {A : Type 0} (lines : ℕ → A → List ℕ) (xs : List A) (i : ℕ) (x : A) → i < length xs → x ≡ get_or xs i x
    → numbered lines i (drop i xs) ≡ lines i x ++ numbered lines (i + 1) (drop (i + 1) xs)
numbered-at lines xs i x lt is =
    rw add-one
    (ap (numbered lines i) (drop-cons xs i x lt)
    ∙ ap (λ y. lines i y ++ numbered lines (suc i) (drop (suc i) xs)) (sym is))

instr_lines-suc : (is : List Instr) (ss : List Span) (p i : ℕ) (a : Instr) (s : Span) → i < length is → i < length ss
    → instr_lines p (drop i is) (drop i ss) ≡ instr_line p (slice_index_or is i a) (slice_index_or ss i s) ++ instr_lines (suc p) (drop (suc i) is) (drop (suc i) ss)
instr_lines-suc [] ss p i a s lt lt2 = absurd (omega (arith, lt))
instr_lines-suc (b ∷ is) [] p i a s lt lt2 = absurd (omega (arith, lt2))
instr_lines-suc (b ∷ is) (t ∷ ss) p zero a s lt lt2 = refl
instr_lines-suc (b ∷ is) (t ∷ ss) p (suc i) a s lt lt2 = instr_lines-suc is ss p i a s (omega (arith, lt)) (omega (arith, lt2))

pub instr_lines-at : (is : List Instr) (ss : List Span) (i : ℕ) (a : Instr) (s : Span) → i < length is → length ss ≡ length is
    → instr_lines i (drop i is) (drop i ss) ≡ instr_line i (slice_index_or is i a) (slice_index_or ss i s) ++ instr_lines (i + 1) (drop (i + 1) is) (drop (i + 1) ss)
instr_lines-at is ss i a s lt n = rw add-one (instr_lines-suc is ss i i a s lt (omega (arith, n, lt)))

pub body_line-some : (kind : BodyKind) (k : ℕ) (b : CodeBody) → 0 < length (body_line kind k b)
body_line-some Function k b = omega arith
body_line-some Thread k b = omega arith

-- ---- what stands on a page

-- two parts, one behind the other
pub two_put : (old a mid b new : List ℕ) → mid ≡ old ++ a → new ≡ mid ++ b → new ≡ old ++ (a ++ b)
two_put old a mid b new front n = n ∙ ap (λ l. l ++ b) front ∙ append_assoc old a b

-- the last of two parts, for which there is memory or isn't
pub last_put : {A E : Type 0} (put : Result A E) (old a mid b new : List ℕ) → mid ≡ old ++ a → new ≡ (if is_ok put then mid ++ b else mid) → OnOk put (new ≡ old ++ (a ++ b))
last_put (Ok x) old a mid b new front n = two_put old a mid b new front n
last_put (Err x) old a mid b new front n = tt

-- ---- what a writer got

module _ (a b : Option (List ℕ)) (all page left line rest : List ℕ) (split : left ≡ line ++ rest) (so_far : Sent a b all (page ++ left)) where
  joined : Sent a b all ((page ++ line) ++ rest)
  joined = subst (λ l. Sent a b all l) (ap (λ l. page ++ l) split ∙ sym (append_assoc page line rest)) so_far

  -- the next lines were written or stand on the page
  pub Sent-on : (c : Option (List ℕ)) (after : List ℕ) → Sent b c (page ++ line) after → Sent a c all (after ++ rest)
  Sent-on c after t = Sent-trans a b c all ((page ++ line) ++ rest) (after ++ rest) joined (Sent-longer b c (page ++ line) after rest t)

  -- of the page and the next lines not all could be written
  pub IsCut-on : (c : Option (List ℕ)) → IsCut b c (page ++ line) → IsCut a c all
  IsCut-on c k = IsCut-after a b c all ((page ++ line) ++ rest) joined (IsCut-longer b c (page ++ line) rest k)

  -- there was no memory for the next line
  pub IsCut-here : 0 < length line → IsCut a b all
  IsCut-here some = record { left = (page ++ line) ++ rest; some = rw (length-append (page ++ line) rest, length-append page line) (omega (arith, some)); sent = joined }

  module _ {A E : Type 0} (c : Option (List ℕ)) (new : List ℕ) where
    -- the next line stands on the page, and some of the page may have been written
    pub Sent-line : (put : Result A E) (after : List ℕ) → IsTrue (is_ok put) → OnOk put (new ≡ page ++ line) → Sent b c new after → Sent a c all (after ++ rest)
    Sent-line (Ok x) after ok e t = Sent-on c after (subst (λ l. Sent b c l after) e t)
    Sent-line (Err x) after ok e t = absurd (false≢true ok)

    -- there was no memory for the next line, or the page couldn't be written
    pub IsCut-line : (put : Result A E) → 0 < length line → OnOk put (new ≡ page ++ line) → OnOk put (IsCut b c new) → OnErr put (c ≡ b) → IsCut a c all
    IsCut-line (Ok x) some e k h = IsCut-on c (subst (λ l. IsCut b c l) e k)
    IsCut-line (Err x) some e k h = subst (λ d. IsCut a d all) (sym h) (IsCut-here some)

-- the line of a body stands on the page, and those of its instructions come behind it
module _ (a b : Option (List ℕ)) (all page left line instrs rest : List ℕ) (split : left ≡ (line ++ instrs) ++ rest) (so_far : Sent a b all (page ++ left)) (c : Option (List ℕ)) (mid : List ℕ) (put : mid ≡ page ++ line) where
  both : mid ++ instrs ≡ page ++ (line ++ instrs)
  both = ap (λ l. l ++ instrs) put ∙ append_assoc page line instrs

  pub IsCut-body : IsCut b c (mid ++ instrs) → IsCut a c all
  IsCut-body k = IsCut-on a b all page left (line ++ instrs) rest split so_far c (subst (λ l. IsCut b c l) both k)

  pub Sent-body : (after : List ℕ) → Sent b c (mid ++ instrs) after → Sent a c all (after ++ rest)
  Sent-body after t = Sent-on a b all page left (line ++ instrs) rest split so_far c after (subst (λ l. Sent b c l after) both t)

-- behind the last of a list no lines are to come
pub Sent-end : {A : Type 0} (lines : ℕ → A → List ℕ) (xs : List A) (i : ℕ) (a b : Option (List ℕ)) (all page : List ℕ) → length xs ≤ i → Sent a b all (page ++ numbered lines i (drop i xs)) → Sent a b all page
Sent-end lines xs i a b all page past s = subst (λ l. Sent a b all l) (ap (λ ys. page ++ numbered lines i ys) (drop_all i xs past) ∙ append-nil page) s

-- the same of instructions with their spans
pub Sent-instrs_end : (is : List Instr) (ss : List Span) (i : ℕ) (a b : Option (List ℕ)) (all page : List ℕ) → length is ≤ i → Sent a b all (page ++ instr_lines i (drop i is) (drop i ss)) → Sent a b all page
Sent-instrs_end is ss i a b all page past s = subst (λ l. Sent a b all l) (ap (λ xs. page ++ instr_lines i xs (drop i ss)) (drop_all i is past) ∙ append-nil page) s
