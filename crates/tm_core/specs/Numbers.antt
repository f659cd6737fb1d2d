-- Logs of the slots over numbers.
use Rattle.std.specs.Prelude.{◌≡◌, ℕ, ◌+◌, ◌==◌, cond, List, [], ◌∷◌, ◌++◌, length}
use Rattle.std.specs.List.{range_with_len}
use Rattle.tm_model.specs.GoodSlots.{Mark, Ran, Left, ran_by}
use Rattle.tm_model.specs.Slots.{Box, Slot, Core}

-- what stands in a log: the k-th request of a place was run, with its answer, or the answers to a batch of a place left
pub data Logged : Type 0 where
  By : ℕ → ℕ → ℕ → ℕ → Logged
  Sent : ℕ → Logged

-- boxes, slots and cores over numbers
abbrev pub NumberBox : Type 0
NumberBox = Box ℕ (List ℕ) Logged

abbrev pub NumberSlot : Type 0
NumberSlot = Slot ℕ (List ℕ) Logged

abbrev pub NumberCore : Type 0
NumberCore = Core ℕ (List ℕ) Logged

-- what an entry is to the slots: batches have no room
abbrev pub mark_of : Logged → Mark ℕ
mark_of (By c k q a) = Ran c q
mark_of (Sent c) = Left c 0

-- the requests that a log ran for place c
abbrev pub ran : ℕ → List Logged → List ℕ
ran c log = ran_by mark_of c log

-- the numbers of the requests that a log ran for place c
abbrev pub numbers : ℕ → List Logged → List ℕ
numbers c [] = []
numbers c (By d k q a ∷ es) = cond (d == c) (k ∷ numbers c es) (numbers c es)
numbers c (Sent d ∷ es) = numbers c es

-- the requests of each place are numbered from 0
abbrev pub IsNumbered : List Logged → Type 0
IsNumbered log = (c : ℕ) → numbers c log ≡ range_with_len 0 (length (ran c log))

-- the lists of answers that leave for place c by some entries, where `waiting` has not left before them
abbrev pub batches_from : ℕ → List ℕ → List Logged → List (List ℕ)
batches_from c waiting [] = []
batches_from c waiting (By d k q a ∷ es) = batches_from c (cond (d == c) (waiting ++ a ∷ []) waiting) es
batches_from c waiting (Sent d ∷ es) = cond (d == c) (waiting ∷ batches_from c [] es) (batches_from c waiting es)

-- the lists of answers that left for place c by a log, one for each batch
abbrev pub batches : ℕ → List Logged → List (List ℕ)
batches c log = batches_from c [] log

-- the requests of a batch of place c with their answers, numbered from k
abbrev pub entries_by : ℕ → ℕ → List ℕ → List ℕ → List Logged
entries_by c k [] answers = []
entries_by c k (q ∷ qs) [] = []
entries_by c k (q ∷ qs) (a ∷ answers) = By c k q a ∷ entries_by c (k + 1) qs answers

-- the entries of the batch b of place c behind a log, with its answers
abbrev pub batch_entries : List Logged → ℕ → List ℕ → List ℕ → List Logged
batch_entries log c b answers = entries_by c (length (ran c log)) b answers ++ Sent c ∷ []
