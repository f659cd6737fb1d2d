-- What holds of the slots and the log between any two steps, whatever is asked and answered.
use Rattle.std.specs.Prelude.{◌≡◌, ◌≢◌, ℕ, ◌+◌, ◌<◌, ◌≤◌, ◌==◌, cond, List, [], ◌∷◌, ◌++◌, length, map}
use Rattle.std.specs.List.{AllByRecursion}
use Rattle.tm_model.specs.Lists.{IsPrefix}
use Rattle.tm_model.specs.Slots.{Box, Empty, Asked, Taken, Answered, Slot, Core, slot_of, MayPublish, publish, see, MayAnswer, answer, collect, first_core}

-- what an entry of a log is to the slots: a request of a place was run, the answers to a batch of a place and a room left, or neither
pub data Mark (Q : Type 0) : Type 0 where
  Ran : ℕ → Q → Mark Q
  Left : ℕ → ℕ → Mark Q
  Other : Mark Q

module _ {Q : Type 0} where
  abbrev pub run_before : ℕ → Mark Q → List Q → List Q
  run_before c (Ran d q) qs = cond (d == c) (q ∷ qs) qs
  run_before c (Left d room) qs = qs
  run_before c Other qs = qs

  abbrev pub left_before : ℕ → Mark Q → ℕ → ℕ
  left_before c (Ran d q) n = n
  left_before c (Left d room) n = cond (d == c) (n + 1) n
  left_before c Other n = n

  -- a mark is that of a request of place c
  abbrev pub IsRunOf : ℕ → Mark Q → Type 0
  IsRunOf c (Ran d q) = d ≡ c
  IsRunOf c (Left d room) = ⊥
  IsRunOf c Other = ⊥

  -- a mark is one of place c
  abbrev pub IsOf : ℕ → Mark Q → Type 0
  IsOf c (Ran d q) = d ≡ c
  IsOf c (Left d room) = d ≡ c
  IsOf c Other = ⊥

-- entries are read by their marks
module _ {Q E : Type 0} (mark : E → Mark Q) where
  -- the requests that a log ran for place c
  abbrev pub ran_by : ℕ → List E → List Q
  ran_by c [] = []
  ran_by c (e ∷ es) = run_before c (mark e) (ran_by c es)

  -- how many batches of place c left in a log
  abbrev pub left_by : ℕ → List E → ℕ
  left_by c [] = 0
  left_by c (e ∷ es) = left_before c (mark e) (left_by c es)

  -- the answers to each request of place c have left: behind its entry stands one by which a batch of c left
  abbrev pub IsSettled : ℕ → List E → Type 0
  IsSettled c [] = Unit {0}
  IsSettled c (e ∷ es) = (IsRunOf c (mark e) → 0 < left_by c es) × IsSettled c es

  -- the entries of the last batch of place c, behind which no further batch of c leaves, stand at or after the floor
  abbrev pub IsLastBehind : ℕ → ℕ → List E → Type 0
  IsLastBehind floor c log =
      (before after : List E) (e : E) → log ≡ before ++ e ∷ after → IsOf c (mark e) → left_by c (e ∷ after) ≡ 1 → floor ≤ length before

  -- entries are those of the batch b of place c: its requests in order, and one by which it left
  abbrev pub IsBatchOf : ℕ → List Q → ℕ → List E → Type 0
  IsBatchOf c b room own = map mark own ≡ map (λ q. Ran c q) b ++ Left c room ∷ []

  -- entries of no place
  abbrev pub AreOfNone : List E → Type 0
  AreOfNone es = AllByRecursion (λ e. mark e ≡ Other) es

-- beside the marks: what left for a place, and which logs are legal
module _ {Q G E : Type 0} (mark : E → Mark Q) (out : ℕ → List E → List G) (legal : List E → Type 0) where
  -- the words are equal exactly where the slot is the client's; all that was sent was run, but for a batch that is asked or taken
  abbrev pub Agrees : Box Q G E → Slot Q G E → ℕ → List E → Type 0
  Agrees Empty slot c log = (slot.request_word ≡ slot.response_word) × (slot.sent ≡ ran_by mark c log)
  Agrees (Answered _ _ _) slot c log = (slot.request_word ≡ slot.response_word) × (slot.sent ≡ ran_by mark c log)
  Agrees (Asked b _) slot c log = (slot.request_word ≢ slot.response_word) × (slot.sent ≡ ran_by mark c log ++ b)
  Agrees (Taken b _) slot c log = (slot.request_word ≢ slot.response_word) × (slot.sent ≡ ran_by mark c log ++ b)

  -- all that left was got, but for answers in the slot
  abbrev pub Reached : Box Q G E → Slot Q G E → ℕ → List E → Type 0
  Reached (Answered a _ _) slot c log = out c log ≡ slot.got ++ a ∷ []
  Reached Empty slot c log = out c log ≡ slot.got
  Reached (Asked _ _) slot c log = out c log ≡ slot.got
  Reached (Taken _ _) slot c log = out c log ≡ slot.got

  -- a log ends by the leaving of a batch of place c, or is empty where nothing was got
  abbrev pub IsCutAt : ℕ → List G → List E → Type 0
  IsCutAt c [] seen = seen ≡ []
  IsCutAt c (g ∷ gs) seen = (front : List E) × (e : E) × (room : ℕ) × (seen ≡ front ++ e ∷ []) × (mark e ≡ Left c room)

  -- the seen log ran all that was sent, but for the batch that is out
  abbrev pub HasSeen : Box Q G E → Slot Q G E → ℕ → Type 0
  HasSeen Empty slot c = slot.sent ≡ ran_by mark c slot.seen
  HasSeen (Asked b _) slot c = slot.sent ≡ ran_by mark c slot.seen ++ b
  HasSeen (Taken b _) slot c = slot.sent ≡ ran_by mark c slot.seen ++ b
  HasSeen (Answered _ _ _) slot c = IsPrefix (ran_by mark c slot.seen) slot.sent

  -- the seen log of place c: it begins the log, is legal, and is all that the place got, cut at the last of it
  pub record IsSeen (log : List E) (c : ℕ) (slot : Slot Q G E) : Type 0 where
    pub prefix : IsPrefix slot.seen log
    pub is_legal : legal slot.seen
    pub leaves : out c slot.seen ≡ slot.got
    pub cut : IsCutAt c slot.got slot.seen
    pub runs : HasSeen slot.box slot c

  -- the log up to the answers a in a slot: it goes on from the seen log by entries of other places, and ends with those of the batch
  pub record IsUpTo (log : List E) (c : ℕ) (slot : Slot Q G E) (a : G) (upto : List E) (room : ℕ) : Type 0 where
    pub prefix : IsPrefix upto log
    pub is_legal : legal upto
    pub runs : slot.sent ≡ ran_by mark c upto
    pub leaves : out c upto ≡ slot.got ++ a ∷ []
    pub grown : (others own : List E) × (b : List Q) × (upto ≡ slot.seen ++ others ++ own) × IsBatchOf mark c b room own
        × (slot.sent ≡ ran_by mark c (slot.seen ++ others) ++ b)

  abbrev pub Shows : Box Q G E → Slot Q G E → ℕ → List E → Type 0
  Shows (Answered a upto room) slot c log = IsUpTo log c slot a upto room
  Shows Empty slot c log = Unit {0}
  Shows (Asked _ _) slot c log = Unit {0}
  Shows (Taken _ _) slot c log = Unit {0}

  -- where no batch waits to be answered, the last batch of place c stands at or after the floor
  abbrev pub IsLate : Box Q G E → Slot Q G E → ℕ → List E → Type 0
  IsLate Empty slot c log = IsLastBehind mark slot.floor c log
  IsLate (Answered _ _ _) slot c log = IsLastBehind mark slot.floor c log
  IsLate (Asked _ _) slot c log = Unit {0}
  IsLate (Taken _ _) slot c log = Unit {0}

  -- a place is good behind a log
  pub record IsGoodSlot (log : List E) (c : ℕ) (slot : Slot Q G E) : Type 0 where
    pub agrees : Agrees slot.box slot c log
    pub reached : Reached slot.box slot c log
    pub seen : IsSeen log c slot
    pub shows : Shows slot.box slot c log
    pub floor : slot.floor ≤ length log
    pub late : IsLate slot.box slot c log
    pub settled : IsSettled mark c log

  -- the slots and their log are good
  pub record AreGoodSlots (core : Core Q G E) : Type 0 where
    pub is_legal : legal core.log
    pub slots : (c : ℕ) → c < length core.slots → IsGoodSlot core.log c (slot_of core c)

  -- a log grows by entries of no place and then by those of a batch of place c, whose answers are a
  pub record Adds (c : ℕ) (b : List Q) (room : ℕ) (a : G) (log es : List E) : Type 0 where
    pub is_legal : legal (log ++ es)
    pub grows : (more own : List E) × (es ≡ more ++ own) × AreOfNone mark more × IsBatchOf mark c b room own
    pub leaves : out c (log ++ es) ≡ out c log ++ a ∷ []
    pub leaves_other : (d : ℕ) → d ≢ c → out d (log ++ es) ≡ out d log

  -- the first slots are good
  abbrev pub FirstSlotsAreGood : Type 0
  FirstSlotsAreGood = (places : ℕ) → legal [] → ((c : ℕ) → out c [] ≡ []) → AreGoodSlots (first_core places)

  -- a publish keeps the slots good
  abbrev pub PublishKeepsSlots : Type 0
  PublishKeepsSlots =
      (core : Core Q G E) (c : ℕ) (b : List Q) (room : ℕ) → MayPublish core c b room → AreGoodSlots core → AreGoodSlots (publish c b room core)

  -- a look of the trustee keeps the slots good
  abbrev pub SeeKeepsSlots : Type 0
  SeeKeepsSlots = (core : Core Q G E) (c : ℕ) → c < length core.slots → AreGoodSlots core → AreGoodSlots (see c core)

  -- an answer keeps the slots good
  abbrev pub AnswerKeepsSlots : Type 0
  AnswerKeepsSlots =
      (core : Core Q G E) (c : ℕ) (b : List Q) (room : ℕ) (a : G) (es : List E)
      → MayAnswer core c b room → Adds c b room a core.log es → AreGoodSlots core → AreGoodSlots (answer c a es room core)

  -- a look of a client keeps the slots good
  abbrev pub CollectKeepsSlots : Type 0
  CollectKeepsSlots = (core : Core Q G E) (c : ℕ) → c < length core.slots → AreGoodSlots core → AreGoodSlots (collect c core)
