use Rattle.txs_gen.proofs.Sends.{code_sends_sound, sound_program_sends_sound}
use Rattle.txs_gen.proofs.follows.code_of_program_sends_sound.Goals as goal

pub returns-clause-program : goal.returns-clause-program
returns-clause-program c = sound_program_sends_sound

pub returns-clause-code : goal.returns-clause-code
returns-clause-code c = code_sends_sound
