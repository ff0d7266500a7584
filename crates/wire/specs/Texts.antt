-- What is printed of a fault, and of why a packet is not written.
use Rattle.std.specs.Prelude.{ℕ, List, ◌++◌, codes}
use Rattle.wire.specs.declared.fault.Fault.{Fault}
use Rattle.wire.specs.declared.fault.Fault.TheVariants.{Shape, Check, Zero, Range}
use Rattle.wire.specs.declared.fault.WriteError.{WriteError}
use Rattle.wire.specs.declared.fault.WriteError.TheVariants.{LongText, Refused, ShortRoom}

abbrev pub fault_text : Fault → List ℕ
fault_text Shape = codes "no known kind, or another length than the count says"
fault_text Check = codes "the check is wrong"
fault_text Zero = codes "what must be 0 is not, or a tag is 0"
fault_text Range = codes "a place or an edge that no stream has"

abbrev pub error_text : WriteError → List ℕ
error_text LongText = codes "the text is too long"
error_text (Refused fault) = codes "the reader would refuse it: " ++ fault_text fault
error_text ShortRoom = codes "too little room"
