-- The bytes of what is shown: the words of memcached's protocol.txt, and after CLIENT_ERROR and SERVER_ERROR words of our own.
use Rattle.std.specs.Prelude.{ℕ, Bool, if◌then◌else◌, List, [], ◌∷◌, ◌++◌, length, codes}
use Rattle.std.specs.List.{flat_map}
use Rattle.std.specs.Fmt.{decimal}
use Rattle.mc_model.specs.declared.shown.Said.{Said}
use Rattle.mc_model.specs.declared.shown.Said.TheVariants as said
use Rattle.mc_model.specs.declared.shown.Shown.{Shown}
use Rattle.mc_model.specs.declared.shown.Shown.TheVariants.{Nothing, Line, Number, Values, Stats}
use Rattle.mc_model.specs.declared.shown.ShownItem.{ShownItem}

-- the end of a line
abbrev pub crlf : List ℕ
crlf = 13 ∷ 10 ∷ []

-- the bytes of each line
unfoldable pub said_bytes : Said → List ℕ
said_bytes said.Stored = codes "STORED\r\n"
said_bytes said.NotStored = codes "NOT_STORED\r\n"
said_bytes said.Exists = codes "EXISTS\r\n"
said_bytes said.NotFound = codes "NOT_FOUND\r\n"
said_bytes said.Deleted = codes "DELETED\r\n"
said_bytes said.Touched = codes "TOUCHED\r\n"
said_bytes said.Ok = codes "OK\r\n"
said_bytes said.Version = codes "VERSION 1.0.0-trust\r\n"
said_bytes said.Error = codes "ERROR\r\n"
said_bytes said.BadLine = codes "CLIENT_ERROR bad command line format\r\n"
said_bytes said.BadChunk = codes "CLIENT_ERROR bad data chunk\r\n"
said_bytes said.LineTooLong = codes "CLIENT_ERROR line too long\r\n"
said_bytes said.BadDelta = codes "CLIENT_ERROR invalid numeric delta argument\r\n"
said_bytes said.NonNumeric = codes "CLIENT_ERROR cannot increment or decrement non-numeric value\r\n"
said_bytes said.TooLarge = codes "SERVER_ERROR object too large for cache\r\n"
said_bytes said.NoMemory = codes "SERVER_ERROR out of memory storing object\r\n"
said_bytes said.OutOfCas = codes "SERVER_ERROR out of cas numbers\r\n"

-- a space and the cas number, where it is asked for
unfoldable pub cas_bytes : Bool → ℕ → List ℕ
cas_bytes with_cas cas = if with_cas then 32 ∷ decimal cas else []

-- an item: its line, its value and a line end
unfoldable pub item_bytes : Bool → ShownItem → List ℕ
item_bytes with_cas item =
    codes "VALUE " ++ item.key ++ 32 ∷ decimal item.flags ++ 32 ∷ decimal (length item.value) ++ cas_bytes with_cas item.cas ++ crlf
    ++ item.value ++ crlf

-- the bytes of what is shown
unfoldable pub bytes_of : Shown → List ℕ
bytes_of Nothing = []
bytes_of (Line line) = said_bytes line
bytes_of (Number n) = decimal n ++ crlf
bytes_of (Values items with_cas) = flat_map (item_bytes with_cas) items ++ codes "END\r\n"
bytes_of (Stats held stored) =
    codes "STAT curr_items " ++ decimal held ++ crlf ++ codes "STAT total_items " ++ decimal stored ++ crlf ++ codes "END\r\n"

-- the bytes of all that is shown, in order
abbrev pub rendered : List Shown → List ℕ
rendered shown = flat_map bytes_of shown
