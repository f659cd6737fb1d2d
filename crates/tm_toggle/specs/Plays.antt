-- What each step tells: of the step, the seat before, the number found and the seat after.
use Rattle.std.specs.Prelude.{◌≡◌, ◌≢◌, ℕ, ◌+◌, ◌⊎◌, Bool, true, false, not, List, [], ◌∷◌}
use Rattle.std.specs.declared.option.Option.TheVariants.{None, Some}
use Rattle.atomic_table.specs.Table.{Me, Step, rest}
use Rattle.tm_seq.specs.Kind.{Kind}
use Rattle.tm_batch.specs.declared.batch.Batch.{Batch}
use Rattle.tm_batch.specs.declared.message.Request.{Request}
use Rattle.tm_batch.specs.declared.message.AnswerBatch.{AnswerBatch}
use Rattle.tm_model.specs.declared.entry.Entry.{Entry}
use Rattle.tm_model.specs.State.{State}
use Rattle.tm_model.specs.Lists.{IsPrefix}
use Rattle.tm_model.specs.Ran.{ran}
use Rattle.tm_model.specs.Slots.{slot_of}
use Rattle.tm_pair.specs.Calls.{Publishes, Collects, SeesNothing, Takes, HasAnswered}
use Rattle.tm_pair.specs.Sides.{IsGoodClient, IsGoodTrustee}
use Rattle.tm_pair.specs.Moves.{core_after, answer_of, answers_found}
use Rattle.tm_pair.specs.declared.moves.Move.{Move}
use Rattle.tm_pair.specs.declared.moves.Move.TheVariants.{Open, Publish, See, Collect}
use Rattle.tm_pair.specs.declared.table.Collected.{Collected}
use Rattle.tm_pair.specs.declared.table.Collected.TheVariants.{Answers, Pending}
use Rattle.tm_toggle.specs.Contents.{batch_in, answers_in, HasNoRequests, HasNoAnswers, IsClear}
use Rattle.tm_toggle.specs.Ruled.{listed, r_of, s_of, bit, opening_in, client_in, trustee_in, IsByClient, IsByTrustee, IsNext}
use Rattle.tm_toggle.specs.declared.content.Content.{Content}
use Rattle.tm_toggle.specs.declared.view.View.{View}
use Rattle.tm_toggle.specs.declared.sides.Key.{Key}

abbrev pub Sat : Type 0 → Type 0 → Type 0 → Type 0 → Type 0
Sat V O R T = Me (Content V O R T) (View V O R T)

abbrev pub PlayOf : Type 0 → Type 0 → Type 0 → Type 0 → Type 1
PlayOf V O R T = Step (Content V O R T) → Sat V O R T → ℕ → Sat V O R T → Type 0

module _ {V O R T : Type 0} where
  -- the view of the trustee's seat at first
  abbrev pub first_view : Key V O R T → View V O R T
  first_view key = record {
    number = key.number;
    config = key.config;
    first = key.first;
    trustee = true;
    note = false;
    place = 0;
    settled = false;
    up = 0;
    made = 0;
    past = listed (Open (key.config.clients + key.number) ∷ []);
    noted = listed [];
  }

  -- the request word of place c, after some calls
  abbrev pub asks : List (Move V O R T) → ℕ → Bool
  asks past c = (slot_of (core_after past) c).request_word

  -- its response word
  abbrev pub replies : List (Move V O R T) → ℕ → Bool
  replies past c = (slot_of (core_after past) c).response_word

module _ {V O R T : Type 0} (kind : Kind V O R T) (opening : State V O R T) where
  pub record HasPublished (c : ℕ) (batch : Batch V O R T) (old new : List (Move V O R T)) : Type 0 where
    pub publishes : Publishes batch.requests.items batch.room (client_in c old) (client_in c new)
    pub next : IsNext (IsByClient c) old new (Publish c batch)
    pub word : asks new c ≡ not (asks old c)
    pub good : IsGoodClient kind opening (client_in c new)

  pub record HasCollected (c : ℕ) (found : Collected V O R T) (old new : List (Move V O R T)) : Type 0 where
    pub collects : Collects (client_in c old) (client_in c new) found
    pub next : IsNext (IsByClient c) old new (Collect c (answers_found found))
    pub word : asks new c ≡ asks old c
    pub good : IsGoodClient kind opening (client_in c new)

  pub record HasMissed (c : ℕ) (old new : List (Move V O R T)) : Type 0 where
    pub sees : SeesNothing c (trustee_in old) (trustee_in new)
    pub next : IsNext IsByTrustee old new (See c None)
    pub words : (d : ℕ) → replies new d ≡ replies old d
    pub good : IsGoodTrustee kind opening (trustee_in new)

  pub record HasTaken (c : ℕ) (batch : Batch V O R T) (old new : List (Move V O R T)) : Type 0 where
    pub takes : Takes kind opening c batch.requests.items batch.room (trustee_in old) (trustee_in new)
    pub next : IsNext IsByTrustee old new (See c (Some batch))
    pub words : (d : ℕ) → replies new d ≡ replies old d
    pub good : IsGoodTrustee kind opening (trustee_in new)

  pub record HasReplied (c : ℕ) (resumes : List (Entry V O R T)) (a : AnswerBatch V O R T) (old new : List (Move V O R T)) : Type 0 where
    pub answers : HasAnswered c resumes a (trustee_in old) (trustee_in new)
    pub next : IsNext IsByTrustee old new (answer_of c resumes a)
    pub word : replies new c ≡ not (replies old c)
    pub words : (d : ℕ) → d ≢ c → replies new d ≡ replies old d
    pub good : IsGoodTrustee kind opening (trustee_in new)

module _ {V O R T : Type 0} (kind : Kind V O R T) where
  abbrev pub publishes : PlayOf V O R T
  publishes st m found n = (y : Content V O R T) → m.1 ≡ (m.0.place, y) ∷ []
      → (past : List (Move V O R T)) × (n ≡ (record m.0 { past = listed past }, [])) × HasPublished kind (opening_in m.0) m.0.place (batch_in y) m.0.past.items past

  abbrev pub collects : PlayOf V O R T
  collects st m found n =
      (found ≡ bit (asks m.0.past.items m.0.place)
      → (past : List (Move V O R T)) × (y : Content V O R T) × (n ≡ (record m.0 { past = listed past }, (m.0.place, y) ∷ m.1)) × HasNoRequests y
      × HasCollected kind (opening_in m.0) m.0.place (Answers (answers_in y)) m.0.past.items past)
      × (found ≢ bit (asks m.0.past.items m.0.place)
      → (past : List (Move V O R T)) × (n ≡ (record m.0 { past = listed past }, m.1)) × HasCollected kind (opening_in m.0) m.0.place Pending m.0.past.items past)

  -- what a look of the trustee at place c tells
  abbrev pub SeesAt : ℕ → Sat V O R T → ℕ → Sat V O R T → Type 0
  SeesAt c m found n =
      (found ≡ bit (replies m.0.past.items c) → (past : List (Move V O R T)) × (n ≡ (record m.0 { past = listed past }, m.1)) × HasMissed kind (opening_in m.0) c m.0.past.items past)
      × (found ≢ bit (replies m.0.past.items c)
      → (past : List (Move V O R T)) × (y : Content V O R T) × (n ≡ (record m.0 { past = listed past; up = c + 1 }, (c, y) ∷ m.1)) × HasNoAnswers y
      × HasTaken kind (opening_in m.0) c (batch_in y) m.0.past.items past)

  abbrev pub sees : PlayOf V O R T
  sees st m found n = (c : ℕ) → st.word ≡ r_of c → SeesAt c m found n

  -- what an answer of place c by what stands in its slot tells, after some resumes
  abbrev pub AnswersAt : List (Entry V O R T) → ℕ → Content V O R T → Sat V O R T → Sat V O R T → Type 0
  AnswersAt resumes c y m n =
      (past : List (Move V O R T)) × (n ≡ (record m.0 { past = listed past; up = 0 }, [])) × HasReplied kind (opening_in m.0) c resumes (answers_in y) m.0.past.items past

  abbrev pub answers : List (Entry V O R T) → PlayOf V O R T
  answers resumes st m found n = (c : ℕ) (y : Content V O R T) → st.word ≡ s_of c → m.1 ≡ (c, y) ∷ [] → AnswersAt resumes c y m n

module _ {V O R T : Type 0} where
  -- the trustee lays a slot back, and lifts it again
  abbrev pub lays : PlayOf V O R T
  lays st m found n = n ≡ (record m.0 { up = 0 }, rest m.1)

  abbrev pub lifts : PlayOf V O R T
  lifts st m found n = (c : ℕ) → st.word ≡ s_of c → (y : Content V O R T) × (n ≡ (record m.0 { up = c + 1 }, (c, y) ∷ m.1)) × IsClear y

  -- a client's seat takes its slot
  abbrev pub settles : PlayOf V O R T
  settles st m found n = (y : Content V O R T) × (n ≡ (record m.0 { settled = true }, (m.0.place, y) ∷ m.1)) × IsClear y

  -- the trustee's view with one client more, and that client's
  abbrev pub with_client : View V O R T → View V O R T
  with_client v = record v { made = v.made + 1 }

  abbrev pub new_client : View V O R T → View V O R T
  new_client v = record v { trustee = false; note = false; place = v.made; settled = false; up = 0; made = 0; past = listed []; noted = listed [] }

  -- the view of a client's seat at first
  abbrev pub client_first : Key V O R T → ℕ → View V O R T
  client_first key c = record {
    number = key.number;
    config = key.config;
    first = key.first;
    trustee = false;
    note = false;
    place = c;
    settled = true;
    up = 0;
    made = 0;
    past = listed [];
    noted = listed [];
  }

  -- a note of a log, and a seat's view with a note taken in
  abbrev pub note_of : View V O R T → List (Entry V O R T) → View V O R T
  note_of v log = record v { trustee = false; note = true; place = 0; settled = false; up = 0; made = 0; past = listed []; noted = listed log }

  abbrev pub client_note : View V O R T → View V O R T
  client_note v = note_of v (client_in v.place v.past.items).seen

  abbrev pub trustee_note : View V O R T → View V O R T
  trustee_note v = note_of v (trustee_in v.past.items).log

  abbrev pub noted : View V O R T → View V O R T → View V O R T
  noted v w = record v { noted = w.noted }

  -- a note that was taken in
  abbrev pub spent : View V O R T
  spent = record {
    number = 0;
    config = record { clients = 0; trustees = 0; objects = 0; trusts = 0; last_id = 0 };
    first = listed [];
    trustee = false;
    note = true;
    place = 0;
    settled = false;
    up = 0;
    made = 0;
    past = listed [];
    noted = listed [];
  }

  -- of a seen log of place c and a noted one, one begins the other, and what the noted one ran for c begins what c sent
  abbrev pub Compares : ℕ → List (Entry V O R T) → List (Request V O R T) → List (Entry V O R T) → Type 0
  Compares c seen sent log = (IsPrefix seen log ⊎ IsPrefix log seen) × IsPrefix (ran c log) sent

  abbrev pub compares : PlayOf V O R T
  compares st m found n =
      (n ≡ m) × Compares m.0.place (client_in m.0.place m.0.past.items).seen (client_in m.0.place m.0.past.items).sent m.0.noted.items

  abbrev pub follows : PlayOf V O R T
  follows st m found n = (n ≡ m) × IsPrefix m.0.noted.items (trustee_in m.0.past.items).log
