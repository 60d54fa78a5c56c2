-- The words by which faults are named, and their numbers in the order of their table.
use Rattle.std.specs.Prelude.{ℕ, List, codes}
use Rattle.txs_value_data.specs.declared.fault.FaultKind.{FaultKind}
use Rattle.txs_value_data.specs.declared.fault.FaultKind.TheVariants.{Overflow, DivideByZero, NotANumber, NotAVector, IndexOut, PopEmpty, NotACell, NotARef, NotAnAtom, NotAnAgent, OutsideOnly, SetAfterCommute, RetryLimit, AgentFailed, InvalidState, TooDeep, TooLong}

-- the word of each kind of fault
abbrev pub fault_name : FaultKind → List ℕ
fault_name Overflow = codes "Overflow"
fault_name DivideByZero = codes "DivideByZero"
fault_name NotANumber = codes "NotANumber"
fault_name NotAVector = codes "NotAVector"
fault_name IndexOut = codes "IndexOut"
fault_name PopEmpty = codes "PopEmpty"
fault_name NotACell = codes "NotACell"
fault_name NotARef = codes "NotARef"
fault_name NotAnAtom = codes "NotAnAtom"
fault_name NotAnAgent = codes "NotAnAgent"
fault_name OutsideOnly = codes "OutsideOnly"
fault_name SetAfterCommute = codes "SetAfterCommute"
fault_name RetryLimit = codes "RetryLimit"
fault_name AgentFailed = codes "AgentFailed"
fault_name InvalidState = codes "InvalidState"
fault_name TooDeep = codes "TooDeep"
fault_name TooLong = codes "TooLong"

-- the number of each kind of fault
abbrev pub fault_number : FaultKind → ℕ
fault_number Overflow = 0
fault_number DivideByZero = 1
fault_number NotANumber = 2
fault_number NotAVector = 3
fault_number IndexOut = 4
fault_number PopEmpty = 5
fault_number NotACell = 6
fault_number NotARef = 7
fault_number NotAnAtom = 8
fault_number NotAnAgent = 9
fault_number OutsideOnly = 10
fault_number SetAfterCommute = 11
fault_number RetryLimit = 12
fault_number AgentFailed = 13
fault_number InvalidState = 14
fault_number TooDeep = 15
fault_number TooLong = 16
