-- The statuses of the program.
use Rattle.std.specs.Prelude.{ℕ, List, Option, Some, None, codes}
use Rattle.mc_next.specs.declared.ended.Ended.{Ended as SessionEnded}
use Rattle.mc_next.specs.declared.ended.Ended.TheVariants as ended
use Rattle.mc_top.specs.declared.status.Status.{Status}
use Rattle.mc_top.specs.declared.status.Status.TheVariants.{Ended, BadWords, NoMemory, ReadFault, WriteFault, TooMuch, EndedInside}

-- what is said of a status on standard error
abbrev pub text_of : Status → Option (List ℕ)
text_of Ended = None
text_of BadWords = Some (codes "trustmc: bad words")
text_of NoMemory = Some (codes "trustmc: no memory")
text_of ReadFault = Some (codes "trustmc: read fault")
text_of WriteFault = Some (codes "trustmc: write fault")
text_of TooMuch = Some (codes "trustmc: too much input")
text_of EndedInside = Some (codes "trustmc: input ended inside a command")

-- the exit status of the process
abbrev pub number_of : Status → ℕ
number_of Ended = 0
number_of BadWords = 1
number_of NoMemory = 2
number_of ReadFault = 3
number_of WriteFault = 4
number_of TooMuch = 7
number_of EndedInside = 8

-- the status of a run whose session ended so
abbrev pub status_of : SessionEnded → Status
status_of ended.AtEnd = Ended
status_of ended.Quit = Ended
status_of ended.Inside = EndedInside
status_of ended.ReadFault = ReadFault
status_of ended.WriteFault = WriteFault
status_of ended.TooMuch = TooMuch
status_of ended.NoMemory = NoMemory
