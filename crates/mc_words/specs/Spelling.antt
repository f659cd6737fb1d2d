-- The options: how each is spelled, which values it may have, and which text spells a value.
use Rattle.std.specs.Prelude.{◌≡◌, ℕ, ◌+◌, ◌≤◌, Bool, List, ◌∷◌, Option, Some, None, is_some, codes}
use Rattle.mc_item.specs.Numbers.{digits_below}
use Rattle.mc_item.specs.declared.limits.TheConstants.{MOST_ITEMS}
use Rattle.tm_batch.specs.declared.limits.TheConstants.{FEWEST_TRUSTEES, MOST_TRUSTEES}
use Rattle.mc_words.specs.declared.limits.TheConstants.{LONGEST_VALUE, FEWEST_BYTES, MOST_BYTES, FEWEST_ITEMS, FEWEST_WORKERS, MOST_WORKERS, MOST_CONNECTIONS, MOST_SEED, MOST_OPS, FEWEST_CLIENTS, MOST_CLIENTS}
use Rattle.mc_words.specs.declared.names.Name.{Name}
use Rattle.mc_words.specs.declared.names.Name.TheVariants.{Trustees, MaxBytes, Items, Turns, Port, Workers, Connections, Seed, Ops, Clients}
use Rattle.mc_words.specs.declared.names.Range.{Range}

abbrev pub label : Name → List ℕ
label Trustees = codes "trustees"
label MaxBytes = codes "max-bytes"
label Items = codes "items"
label Turns = codes "turns"
label Port = codes "port"
label Workers = codes "workers"
label Connections = codes "connections"
label Seed = codes "seed"
label Ops = codes "ops"
label Clients = codes "clients"

-- two hyphens stand before the label, where 45 is `-`
abbrev pub spelled : Name → List ℕ
spelled name = 45 ∷ 45 ∷ label name

abbrev pub between : ℕ → ℕ → Option Range
between least most = Some (record { least = least; most = most })

-- the values that an option may have, or nothing where it stands alone
abbrev pub range_of : Name → Option Range
range_of Trustees = between FEWEST_TRUSTEES MOST_TRUSTEES
range_of MaxBytes = between FEWEST_BYTES MOST_BYTES
range_of Items = between FEWEST_ITEMS MOST_ITEMS
range_of Turns = None
range_of Port = between 0 65535
range_of Workers = between FEWEST_WORKERS MOST_WORKERS
range_of Connections = between 0 MOST_CONNECTIONS
range_of Seed = between 0 MOST_SEED
range_of Ops = between 0 MOST_OPS
range_of Clients = between FEWEST_CLIENTS MOST_CLIENTS

abbrev pub takes_value : Name → Bool
takes_value name = is_some (range_of name)

-- A text of 1 to 19 digits spells a value of the range. Zeros may lead.
abbrev pub IsValue : Option Range → List ℕ → ℕ → Type 0
IsValue None text value = ⊥
IsValue (Some range) text value = (digits_below LONGEST_VALUE (range.most + 1) text ≡ Some value) × (range.least ≤ value)

-- the values that an option may have, where one that stands alone has the value 0
abbrev pub LiesIn : Option Range → ℕ → Type 0
LiesIn None value = value ≡ 0
LiesIn (Some range) value = (range.least ≤ value) × (value ≤ range.most)
