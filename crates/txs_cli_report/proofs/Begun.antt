-- Beginnings of what is to be written to a stream.
use Rattle.std.proofs.Common.{◌⊎◌, inl, inr, ℕ, List, [], ◌++◌, Option, Result, Ok, Err, OnOk, OnErr, sym, ap, ◌∙◌, append_assoc}
use Rattle.std.proofs.KnownBytes.{Appends-trans, Appends-kept}
use Rattle.std.specs.Io.KnownBytes.{Appends, Keeps}
use Rattle.txs_disasm.proofs.SentLemmas.{Sent-all}
use Rattle.txs_cli_report.specs.Told.{IsBegun}

-- all is written
pub begun_all : (a b : Option (List ℕ)) (all : List ℕ) → Appends a b all → IsBegun a b all
begun_all a b all p = record { left = []; sent = Sent-all a b all p }

-- all is written, and nothing since then
pub begun_kept : (a b c : Option (List ℕ)) (all : List ℕ) → Appends a b all → Keeps b c → IsBegun a c all
begun_kept a b c all p k = begun_all a c all (Appends-kept a b c all p k)

-- all is written, and a beginning of what is behind it
pub begun_more : (a b c : Option (List ℕ)) (all more : List ℕ) → Appends a b all → IsBegun b c more → IsBegun a c (all ++ more)
begun_more a b c all more p k = record {
  left = k.left;
  sent = record {
    bytes = all ++ k.sent.bytes;
    got = Appends-trans a b c all k.sent.bytes p k.sent.got;
    whole = ap (λ (l : List ℕ). all ++ l) k.sent.whole ∙ sym (append_assoc all k.sent.bytes k.left);
  };
}

-- a beginning of these bytes, and of more behind them
pub begun_longer : (a b : Option (List ℕ)) (all more : List ℕ) → IsBegun a b all → IsBegun a b (all ++ more)
begun_longer a b all more k = record {
  left = k.left ++ more;
  sent = record {
    bytes = k.sent.bytes;
    got = k.sent.got;
    whole = ap (λ (l : List ℕ). l ++ more) k.sent.whole ∙ append_assoc k.sent.bytes k.left more;
  };
}

-- all is written, or a beginning
pub begun_either : {A E : Type 0} (r : Result A E) (a b : Option (List ℕ)) (all : List ℕ) → OnOk r (Appends a b all) → OnErr r (IsBegun a b all) → IsBegun a b all
begun_either (Ok x) a b all p k = begun_all a b all p
begun_either (Err e) a b all p k = k

-- the standard error is whole, or couldn't be written
pub errors_either : {A E : Type 0} (r : Result A E) {P Q : Type 0} → OnOk r P → OnErr r Q → P ⊎ Q
errors_either (Ok x) p q = inl p
errors_either (Err e) p q = inr q
