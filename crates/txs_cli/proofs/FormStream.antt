-- Bytes that are read of a stream: enough of all that it has.
use Rattle.std.proofs.Common.{◌≡◌, ◌≢◌, ◌<◌, ◌≤◌, ◌+◌, ◌-◌, ◌^◌, ℕ, Bool, true, false, List, [], ◌++◌, length, take, Option, Some, None, length-append, refl, sym, ap, subst, ◌∙◌, arith}
use Rattle.std.specs.Io.KnownBytes.{Consumes, Keeps}
use Rattle.std.specs.Option.{IfSome}
use Rattle.std.proofs.lemmas.List.{take_at}
use Rattle.txs_code_decode.specs.CodeForm.{code_format, magic_format}
use Rattle.txs_code_decode.specs.Format.{number_at}
use Rattle.txs_code_decode.proofs.Decoded.{is_read}
use Rattle.txs_verify.proofs.NoForm.{refusals_stay, unsettled}
use Rattle.txs_verify.specs.Load.{IsFormOf, IsRefusal, is_settled}
use Rattle.txs_verify.specs.declared.load_error.LoadError.{LoadError}
use Rattle.txs_verify.specs.declared.load_error.LoadError.TheVariants.{Bytes, Code, Memory}
use Rattle.txs_code_meaning.specs.PlainCode.{PlainCode}
use Rattle.txs_cli.specs.CodeStream.{IsNoFurther, IsRead, goal_after}
use Rattle.txs_cli.specs.Source.{IsEnoughOf}

-- ---- reading

-- an interrupted read, and one behind it
pub kept_then : (a b c : Option (List ℕ)) (xs : List ℕ) → Keeps a b → Consumes b c xs → Consumes a c xs
kept_then None b c xs k p = tt
kept_then (Some x) None c xs k p = absurd k
kept_then (Some x) (Some y) None xs k p = absurd p
kept_then (Some x) (Some y) (Some z) xs k p = sym k ∙ p

pub keeps_trans : (a b c : Option (List ℕ)) → Keeps a b → Keeps b c → Keeps a c
keeps_trans None b c k l = tt
keeps_trans (Some x) None c k l = absurd k
keeps_trans (Some x) (Some y) None k l = absurd l
keeps_trans (Some x) (Some y) (Some z) k l = l ∙ k

-- ---- what is known of it

-- enough is read of the whole
pub enough_of : (old new : Option (List ℕ)) (bytes : List ℕ) → IsRead old new bytes → IfSome old (λ input. IsEnoughOf input bytes)
enough_of None new bytes r = tt
enough_of (Some input) None bytes r = absurd r.first
enough_of (Some input) (Some rest) bytes r = record { rest = rest; is = r.first; enough = r.enough }

-- where no form begins with bytes, they are none
pub not_form : {A : Type 0} (bytes : List ℕ) (code : PlainCode) → is_settled bytes ≡ true → IsFormOf bytes code → A
not_form bytes code settled of = absurd (unsettled bytes code (is_read bytes code of.fits of.is) settled)

-- and are refused so whatever is behind them
pub refused_on : (bytes rest : List ℕ) (e : LoadError) → is_settled bytes ≡ true → e ≢ Memory → IsRefusal bytes e → IsRefusal (bytes ++ rest) e
refused_on bytes rest (Bytes b) settled told r = refusals_stay bytes rest settled ∙ r
refused_on bytes rest (Code b) settled told r = not_form bytes r.code settled r.of
refused_on bytes rest Memory settled told r = absurd (told refl)

-- ---- how far is read

pub no_further : (old got new : List ℕ) → new ≡ old ++ got → is_settled old ≡ false → length new ≤ goal_after (length old) → IsNoFurther new
no_further old got new is unsettled few = record {
  before = length old;
  within = omega (arith, ap length is, length-append old got);
  open_yet = subst (λ l. is_settled l ≡ false) (sym (ap (take (length old)) is ∙ take_at old got (length old) refl)) unsettled;
  few = few;
}

-- how often may be read on, where no more bytes fit into memory
abbrev pub left_to_read : Bool → ℕ → ℕ
left_to_read true n = 1 + (2 ^ 64 - n)
left_to_read false n = 0

pub fewer_left : (more : Bool) (old new : ℕ) → (more ≡ true → old < new) → new ≤ 2 ^ 64 → left_to_read more new < left_to_read true old
fewer_left true old new longer most = omega (arith, longer refl, most)
fewer_left false old new longer most = omega arith

-- no byte may be the beginning of a form
pub none_settled : is_settled [] ≡ false
unfolding code_format magic_format number_at
none_settled = refl
