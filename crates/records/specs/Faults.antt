-- Number, name and failure class of each fault.
use Rattle.std.specs.Prelude.{ℕ, cond, ◌&&◌, ◌||◌, List, codes, ◌==◌, nat_le}
use Rattle.records.specs.declared.fault.Fault.{Fault}
use Rattle.records.specs.declared.fault.FailureClass.{FailureClass}
use Rattle.records.specs.declared.fault.FailureClass.TheVariants.{NoClass, InvalidData, WrongState, LinkFailed, Other}
use Rattle.records.specs.declared.fault.FaultKind.{FaultKind}
use Rattle.records.specs.declared.fault.FaultKind.TheVariants.{InvalidFunction, InvalidActivity, InvalidSid, InvalidParameter, InvalidWatched, UnitStopped, LinkUsed, LinkWorn, InvalidProcedure, IllegalLoad, TooManyParameters, InvalidStep, EmptyProcedure, RunningProcedure, IllegalParameterId, ExpectFailed, ProcedureStopped, Nack, Odd, NoAck}

abbrev pub fault_number : FaultKind → ℕ
fault_number InvalidFunction = 14
fault_number InvalidActivity = 15
fault_number InvalidSid = 16
fault_number InvalidParameter = 17
fault_number InvalidWatched = 18
fault_number UnitStopped = 19
fault_number LinkUsed = 20
fault_number LinkWorn = 21
fault_number InvalidProcedure = 22
fault_number IllegalLoad = 23
fault_number TooManyParameters = 24
fault_number InvalidStep = 25
fault_number EmptyProcedure = 26
fault_number RunningProcedure = 27
fault_number IllegalParameterId = 28
fault_number ExpectFailed = 29
fault_number ProcedureStopped = 30
fault_number Nack = 31
fault_number Odd = 32
fault_number NoAck = 33

abbrev pub fault_name : FaultKind → List ℕ
fault_name InvalidFunction = codes "INVALID FUN-ID"
fault_name InvalidActivity = codes "INVALID ACT-ID"
fault_name InvalidSid = codes "INVALID SID"
fault_name InvalidParameter = codes "INVALID PARAM"
fault_name InvalidWatched = codes "INVALID AF"
fault_name UnitStopped = codes "UNIT STOPPED"
fault_name LinkUsed = codes "LINK USED"
fault_name LinkWorn = codes "LINK WORN"
fault_name InvalidProcedure = codes "INVALID PROCID"
fault_name IllegalLoad = codes "ILLEGAL LOAD"
fault_name TooManyParameters = codes "TOO MUCH PARAM"
fault_name InvalidStep = codes "INVALID DATUM"
fault_name EmptyProcedure = codes "START DEL OBCP"
fault_name RunningProcedure = codes "RUNNING OBCP"
fault_name IllegalParameterId = codes "ILLEGAL PAR-ID"
fault_name ExpectFailed = codes "EXPECT FAILED"
fault_name ProcedureStopped = codes "OBCP STOPPED"
fault_name Nack = codes "NACK"
fault_name Odd = codes "ODD"
fault_name NoAck = codes "NO ACK"

abbrev pub class_number : FailureClass → ℕ
class_number NoClass = 0
class_number InvalidData = 5
class_number WrongState = 16
class_number LinkFailed = 17
class_number (Other number) = number

-- invalid data: a value of the telecommand is not allowed; wrong state: the state forbids it, or the run was ended; link failed: a link is worn, or its unit did not acknowledge; no class: no fault has the number
abbrev pub class_of : ℕ → FailureClass
class_of n =
    cond (nat_le 14 n && nat_le n 18 || n == 22 || n == 24 || n == 25 || n == 28) InvalidData
    (cond (n == 21 || nat_le 31 n && nat_le n 33) LinkFailed (cond (nat_le 19 n && nat_le n 30) WrongState NoClass))

-- a fault with no step and no NACK's data; its class is that of its number
abbrev pub fault_of : FaultKind → ℕ → Fault
fault_of kind parameter =
    record { kind = kind; class = class_of (fault_number kind); parameter = parameter; step = 0; code = 0; detail = 0 }

-- the fault that a NACK brings, with its code and detail
abbrev pub nack_fault : ℕ → ℕ → ℕ → Fault
nack_fault link code detail =
    record { kind = Nack; class = class_of 31; parameter = link; step = 0; code = code; detail = detail }

-- the same fault, met at a step of a run
abbrev pub at_step : ℕ → Fault → Fault
at_step step f =
    record { kind = f.kind; class = f.class; parameter = f.parameter; step = step; code = f.code; detail = f.detail }
