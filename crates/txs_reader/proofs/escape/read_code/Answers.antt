use Rattle.std.proofs.Common.{sym, subst, ◌∙◌, arith}
use Rattle.std.specs.Char.{IsScalar}
use Rattle.txs_reader.proofs.Escapes.{code_begins, code_cut, code_not_digits, code_not_scalar}
use Rattle.txs_reader.proofs.escape.read_code.Goals as goal

pub returns-then-bytes-lt6-clause-none : goal.returns-then-bytes-lt6-clause-none
returns-then-bytes-lt6-clause-none c = code_cut c.args.bytes.now c.requires.some (omega arith) c.requires.begins c.requires.letter

pub returns-in-Some-from_u32-clause-some : goal.returns-in-Some-from_u32-clause-some
returns-in-Some-from_u32-clause-some c =
    let f = c.in-Some-from_u32.ensures.value in
    code_begins c.args.bytes.now c.in-Some-from_u32.value (omega arith) c.requires.begins c.requires.letter c.in-Some.ensures.0 (subst IsScalar (sym f.1) f.0) (f.1 ∙ c.in-Some.ensures.1)

pub returns-in-None-from_u32-clause-none : goal.returns-in-None-from_u32-clause-none
returns-in-None-from_u32-clause-none c = code_not_scalar c.args.bytes.now c.in-Some.code (omega arith) c.requires.begins c.requires.letter c.in-None-from_u32.ensures.value c.in-Some.ensures.1

pub returns-in-None-clause-none : goal.returns-in-None-clause-none
returns-in-None-clause-none c = code_not_digits c.args.bytes.now (omega arith) c.requires.begins c.requires.letter c.in-None.ensures
