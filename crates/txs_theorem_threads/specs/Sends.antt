-- Code that sends only what a program may send.
use Rattle.std.specs.Prelude.{◌≡◌, ℕ, suc, List, Some}
use Rattle.txs_value_data.specs.Places.{nth}
use Rattle.txs_value_data.specs.declared.fault.Span.{Span}
use Rattle.txs_value_data.specs.declared.op.Callee.{Callee}
use Rattle.txs_value_data.specs.declared.value.CellId.{CellId}
use Rattle.txs_tree_meaning.specs.Known.{known}
use Rattle.txs_tree_meaning.specs.Sound.{SoundSent}
use Rattle.txs_tree_meaning.specs.Tree.{PlainFunction}
use Rattle.txs_code_meaning.specs.Machine.{SendOf, ThreadCode, Library, agent_code, fetch}

-- Each send of the code, wherever it is, names a callee that isn't for transactions alone, and takes the agent's state and the arguments
-- (Clojure's docstring of `send`).
abbrev pub CodeSendsSound : List PlainFunction → ThreadCode → Type 0
CodeSendsSound functions code = (b at n : ℕ) (f : Callee) (span : Span) → fetch code b at ≡ Some (SendOf f n span) → SoundSent (known functions) f (suc n)

-- so does each of these codes
abbrev pub CodesSendSound : List PlainFunction → List ThreadCode → Type 0
CodesSendSound functions codes = (i : ℕ) (code : ThreadCode) → nth codes i ≡ Some code → CodeSendsSound functions code

-- so does the code of each agent
abbrev pub AgentsSendSound : List PlainFunction → Library → Type 0
AgentsSendSound functions code = (g : CellId) → CodeSendsSound functions (agent_code code g)
