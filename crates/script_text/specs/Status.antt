-- How a run ends: the number that its process gives, and what is written in place of the output.
use Rattle.std.specs.Prelude.{ℕ, List, [], ◌∷◌, ◌++◌, codes}
use Rattle.script_text.specs.declared.status.Status.{Status}
use Rattle.script_text.specs.declared.status.Status.TheVariants.{Done, Usage, BadScript, ReadFault, WriteFault}
use Rattle.script_text.specs.declared.status.Status.TheVariants.{NoMemory}

-- the number that the process gives
abbrev pub number_of_status : Status → ℕ
number_of_status Done = 0
number_of_status Usage = 2
number_of_status BadScript = 3
number_of_status ReadFault = 5
number_of_status WriteFault = 6
number_of_status NoMemory = 7

-- nothing where the output is printed, and where no write is left to make
abbrev pub message_of : Status → List ℕ
message_of Done = []
message_of Usage = codes "usage: vold run | vold rehearse <number> | vold threads" ++ 10 ∷ []
message_of BadScript = codes "badscript" ++ 10 ∷ []
message_of ReadFault = codes "readfault" ++ 10 ∷ []
message_of WriteFault = []
message_of NoMemory = []
