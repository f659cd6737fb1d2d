-- What a place holds, by what it sent and got.
use Rattle.std.specs.Prelude.{◌≡◌, ℕ, ◌+◌, ◌-◌, ◌==◌, Bool, true, false, cond, List, [], ◌∷◌, length}
use Rattle.std.specs.List.{flat_map}
use Rattle.tm_batch.specs.declared.message.Name.{Name}
use Rattle.tm_batch.specs.declared.message.Request.{Request}
use Rattle.tm_batch.specs.declared.message.Request.TheVariants.{Entrust, Apply, Launch, Grant, Release, Reclaim, Bye}
use Rattle.tm_batch.specs.declared.message.Answer.{Answer}
use Rattle.tm_batch.specs.declared.message.Answer.TheVariants.{Entrusted, TicketsSpent, Shared}
use Rattle.tm_batch.specs.declared.message.AnswerBatch.{AnswerBatch}
use Rattle.tm_model.specs.State.{Work, Object, State, holds_at}

-- how many of some names are of an id
abbrev pub gifts_of : ℕ → List Name → ℕ
gifts_of id [] = 0
gifts_of id (n ∷ ns) = cond (n.id == id) 1 0 + gifts_of id ns

module _ {V O R T : Type 0} where
  -- a request names an id
  abbrev pub Names : Request V O R T → ℕ → Type 0
  Names (Entrust v) id = ⊥
  Names (Apply n op) id = n.id ≡ id
  Names (Launch n task) id = n.id ≡ id
  Names (Grant n d) id = n.id ≡ id
  Names (Release n) id = n.id ≡ id
  Names (Reclaim n) id = n.id ≡ id
  Names Bye id = ⊥

  -- whether there is a Bye among some requests
  abbrev pub has_bye : List (Request V O R T) → Bool
  has_bye [] = false
  has_bye (Bye ∷ qs) = true
  has_bye (_ ∷ qs) = has_bye qs

  -- how many of some requests are launches
  abbrev pub launches_in : List (Request V O R T) → ℕ
  launches_in [] = 0
  launches_in (Launch n task ∷ qs) = 1 + launches_in qs
  launches_in (_ ∷ qs) = launches_in qs

  -- how many holds on an id some requests give away
  abbrev pub gave : ℕ → List (Request V O R T) → ℕ
  gave id [] = 0
  gave id (Release n ∷ qs) = cond (n.id == id) 1 0 + gave id qs
  gave id (Reclaim n ∷ qs) = cond (n.id == id) 1 0 + gave id qs
  gave id (_ ∷ qs) = gave id qs

  -- how many holds on an id the answer to a request brings: that of an object that was taken, or one that was not given away after all
  abbrev pub brought : ℕ → Request V O R T → Answer V O R T → ℕ
  brought id (Entrust v) (Entrusted n) = cond (n.id == id) 1 0
  brought id (Reclaim n) Shared = cond (n.id == id) 1 0
  brought id _ _ = 0

  -- how many holds on an id the answers bring to the requests of the same positions
  abbrev pub brought_by : ℕ → List (Request V O R T) → List (Answer V O R T) → ℕ
  brought_by id [] answers = 0
  brought_by id (q ∷ qs) [] = 0
  brought_by id (q ∷ qs) (a ∷ answers) = brought id q a + brought_by id qs answers

  -- how many of some answers refuse a launch
  abbrev pub spent_in : List (Answer V O R T) → ℕ
  spent_in [] = 0
  spent_in (TicketsSpent task ∷ answers) = 1 + spent_in answers
  spent_in (_ ∷ answers) = spent_in answers

  -- the answers and the gifts of some answer batches, in order
  abbrev pub answers_in : List (AnswerBatch V O R T) → List (Answer V O R T)
  answers_in got = flat_map (λ a. a.answers.items) got

  abbrev pub gifts_in : List (AnswerBatch V O R T) → List Name
  gifts_in got = flat_map (λ a. a.gifts.items) got

  -- how many launches some answer batches end: by a completion, or by a refusal
  abbrev pub ended_in : List (AnswerBatch V O R T) → ℕ
  ended_in [] = 0
  ended_in (a ∷ got) = (length a.completions.items + spent_in a.answers.items) + ended_in got

  -- how many holds on an id came to place c: at the opening, and by the answers and gifts that it got to what it sent
  abbrev pub came : State V O R T → ℕ → List (Request V O R T) → List (AnswerBatch V O R T) → ℕ → ℕ
  came opening c sent got id = holds_at opening c id + (brought_by id sent (answers_in got) + gifts_of id (gifts_in got))

  -- how many holds place c has on an id by what it sent and got: what came, less what it gave away
  abbrev pub held : State V O R T → ℕ → List (Request V O R T) → List (AnswerBatch V O R T) → ℕ → ℕ
  held opening c sent got id = came opening c sent got id - gave id sent

-- how many of some launches are of place c
abbrev pub works_of : {T : Type 0} → ℕ → List (Work T) → ℕ
works_of c [] = 0
works_of c (w ∷ ws) = cond (w.place == c) 1 0 + works_of c ws

-- how many unfinished launches of place c some objects have
abbrev pub unfinished : {V T : Type 0} → ℕ → List (Object V T) → ℕ
unfinished c [] = 0
unfinished c (o ∷ live) = works_of c o.works + unfinished c live
