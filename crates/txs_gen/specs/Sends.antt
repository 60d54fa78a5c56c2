-- The code of a program sends only what a program may send.
use Rattle.std.specs.Prelude.{suc, List, map}
use Rattle.txs_tree_meaning.specs.Known.{Known, known}
use Rattle.txs_tree_meaning.specs.Sound.{Sound, SoundSent}
use Rattle.txs_tree_meaning.specs.Tree.{PlainFunction, PlainProgram}
use Rattle.txs_tree_meaning.specs.Everywhere.{Facts, InProgram}
use Rattle.txs_code_meaning.specs.PlainCode.{PlainCode, thread_code, library_of}
use Rattle.txs_theorem_threads.specs.Sends.{CodesSendSound, AgentsSendSound}
use Rattle.txs_gen.specs.Generated.{IsCodeOf}

-- the callee of a send isn't for transactions alone, by what is known of these functions, and takes the agent's state and the arguments
abbrev pub sound_sends : List Known → Facts
sound_sends ks = record { constant = λ v. Unit {0}; span = λ s. Unit {0}; send = λ f n s. SoundSent ks f (suc n) }

-- so it is of each send of a sound program
abbrev pub SoundProgramSendsSound : Type 0
SoundProgramSendsSound = (p : PlainProgram) → Sound p → InProgram (sound_sends (known p.functions)) p

-- Where so it is of each send of a program, by what is known of these functions, so it is of each send in its code. The functions
-- may be others than the program's own.
abbrev pub CodeOfProgramSendsSound : Type 0
CodeOfProgramSendsSound =
    (code : PlainCode) (functions : List PlainFunction) (p : PlainProgram) → InProgram (sound_sends (known functions)) p → IsCodeOf code p → CodesSendSound functions (map (thread_code code) code.threads) × AgentsSendSound functions (library_of code)
