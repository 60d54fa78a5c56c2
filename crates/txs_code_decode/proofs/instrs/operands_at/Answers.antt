use Rattle.txs_code_decode.proofs.instrs.operands_at.Goals as goal

pub returns-in-Const : goal.returns-in-Const
returns-in-Const c = rw c.in-Const.is c.const_at.ensures

pub returns-in-Core : goal.returns-in-Core
returns-in-Core c = rw c.in-Core.is c.core_at.ensures

pub returns-in-Call : goal.returns-in-Call
returns-in-Call c = rw c.in-Call.is c.call_at.ensures
