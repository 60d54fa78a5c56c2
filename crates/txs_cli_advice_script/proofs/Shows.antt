-- A text that passes the test is safe.
use Rattle.std.proofs.Common.{◌≡◌, ℕ, true, List, IsUtf8, Option, Some, None, refl}
use Rattle.std.specs.Option.{option_map}
use Rattle.std.specs.Str.{chars}
use Rattle.std.proofs.lemmas.Str.{encodes-chars, scalars-chars}
use Rattle.txs_reader.specs.Safe.{Safe}
use Rattle.txs_cli_advice_script.specs.Sentences.{is_safe}

pub Safe-from_is_safe : (text : List ℕ) → IsUtf8 text → is_safe text ≡ true → Safe text
unfolding is_safe
Safe-from_is_safe text utf8 is = record {
  chars = chars text;
  spells = encodes-chars text utf8;
  scalars = scalars-chars text utf8;
  unescaped = is;
}

-- where nothing is seen, nothing is there
pub none_from_option_map : {X Y : Type 0} (f : X → Y) (o : Option X) → option_map f o ≡ None → o ≡ None
none_from_option_map f None is = refl
none_from_option_map f (Some x) is = absurd (cc)
