-- How refusals are reported.
use Rattle.std.specs.Prelude.{ℕ, List, codes}
use Rattle.txs_reader.specs.declared.error.ReadErrorKind.{ReadErrorKind}
use Rattle.txs_reader.specs.declared.error.ReadErrorKind.TheVariants.{NotUtf8, Unclosed, Unopened, BadToken, NumberTooLarge, BadEscape, TooDeep, TooLarge, LeftOut, Memory}

-- the number of each reason
abbrev pub report_number : ReadErrorKind → ℕ
report_number NotUtf8 = 1
report_number Unclosed = 2
report_number Unopened = 3
report_number BadToken = 4
report_number NumberTooLarge = 5
report_number BadEscape = 6
report_number TooDeep = 7
report_number TooLarge = 8
report_number LeftOut = 9
report_number Memory = 10

-- its name
abbrev pub report_name : ReadErrorKind → List ℕ
report_name NotUtf8 = codes "NotUtf8"
report_name Unclosed = codes "Unclosed"
report_name Unopened = codes "Unopened"
report_name BadToken = codes "BadToken"
report_name NumberTooLarge = codes "NumberTooLarge"
report_name BadEscape = codes "BadEscape"
report_name TooDeep = codes "TooDeep"
report_name TooLarge = codes "TooLarge"
report_name LeftOut = codes "LeftOut"
report_name Memory = codes "Memory"
