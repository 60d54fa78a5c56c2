-- What code that has a form is fit for.
use Rattle.std.proofs.Common.{arith, ◌≤◌, ◌+◌, ℕ, length}
use Rattle.txs_code_decode.specs.CodeForm.{HasForm}
use Rattle.txs_verify.proofs.Formed.{few_cells, few_threads}
use Rattle.txs_code_meaning.specs.PlainCode.{PlainCode}

fits : (n m : ℕ) → n ≤ 64 → m ≤ 1000 → n + m ≤ 65535
fits n m h k = omega (arith, h, k)

-- it has few actors
pub is_runnable : (code : PlainCode) → HasForm code → length code.threads + length code.cells ≤ 65535
is_runnable code form = fits (length code.threads) (length code.cells) (few_threads code form) (few_cells code form)

within : (n : ℕ) → n ≤ 1000 → n ≤ 65535
within n h = omega (arith, h)

-- and few cells
pub has_few_cells : (code : PlainCode) → HasForm code → length code.cells ≤ 65535
has_few_cells code form = within (length code.cells) (few_cells code form)
