-- What a trustee keeps of a greater one.
use Rattle.std.specs.Prelude.{◌≡◌, ◌≢◌, ℕ, ◌+◌, ◌-◌, ◌≤◌, ◌⊎◌, ◌==◌, nat_lt, cond, false, List, [], ◌++◌, length, map, filter, take, drop, slice_get}
use Rattle.std.specs.List.{AllByRecursion, AllZip}
use Rattle.std.specs.declared.option.Option.{Option}
use Rattle.std.specs.declared.option.Option.TheVariants.{None, Some}
use Rattle.circular_buffer.specs.Buffer.{buffer}
use Rattle.tm_seq.specs.Kind.{Kind}
use Rattle.tm_batch.specs.declared.message.Name.{Name}
use Rattle.tm_batch.specs.declared.limits.TheConstants.{MOST_REQUESTS}
use Rattle.tm_batch.specs.declared.message.Request.{Request}
use Rattle.tm_batch.specs.declared.message.Answer.{Answer}
use Rattle.tm_model.specs.declared.entry.Entry.{Entry}
use Rattle.tm_model.specs.State.{State, ids_above}
use Rattle.tm_model.specs.Holds.{has_bye}
use Rattle.tm_model.specs.Serve.{state_after}
use Rattle.tm_model.specs.Legal.{HasFirst}
use Rattle.tm_model.specs.Lists.{IsPrefix}
use Rattle.tm_model.specs.Ran.{answered}
use Rattle.tm_latch.specs.declared.ticket.Ticket.{Ticket}
use Rattle.tm_state.specs.Launches.{Pending, work_of}
use Rattle.tm_pair.specs.Views.{BatchView, ClientView}
use Rattle.tm_trustee.specs.NestedAsks.{NestedAsk, target, asks_of, replies_of, pending_of, works_at, asked_by, replied_in, AppliesAmong, EndsInBye}
use Rattle.tm_trustee.specs.declared.stage.Stage.{Stage}
use Rattle.tm_trustee.specs.declared.stage.Stage.TheVariants.{Before, Out, Over}
use Rattle.tm_trustee.specs.declared.lane.Lane.{Lane}

-- where the answer to a Bye came, it is over
abbrev pub after_answers_lem : Stage → Stage
after_answers_lem Before = Before
after_answers_lem Out = Over
after_answers_lem Over = Over

module _ {V O R T : Type 0} where
  -- a launch that was handed out is the first of its object, and made an ask
  abbrev pub IsAsker : State V O R T → Ticket (Pending T) → NestedAsk O → Type 0
  IsAsker s t a = (t.id ≡ a.by) × HasFirst (works_at s t.id) (λ w. w ≡ work_of t)

  -- what a lane has is what the work of a trustee that has done so much asked of trustee u and was told, by what its side there stands for
  pub record IsLane (kind : Kind V O R T) (opening : State V O R T) (done : List (Entry V O R T)) (u : ℕ) (up : ClientView V O R T)
      (lane : Lane V O R T) : Type 0 where
    -- it has the names of the objects that are held there
    pub names : map (λ n. n.id) lane.names.items ≡ ids_above opening.setup u
    -- all that was asked was sent or waits
    pub asks : map target (asks_of opening.setup u done) ≡ asked_by (up.sent ++ lane.waits.items)
    pub only : AllByRecursion (AppliesAmong (ids_above opening.setup u)) lane.waits.items
    pub last : (has_bye up.sent ≡ false) ⊎ (EndsInBye up.sent × (lane.waits.items ≡ []))
    -- a batch that is out has a request
    pub full : (b : BatchView V O R T) → up.out ≡ Some b → b.requests ≢ []
    -- the replies that were told, and those that came and were not, are those among the answers that were seen; there are no more than were
    -- sent, and none where nothing was sent
    pub answers : ((up.sent ≡ []) × (replies_of kind opening u done ≡ []) × (lane.came.items ≡ []))
        ⊎ (map (λ t. t.reply) (replies_of kind opening u done) ++ lane.came.items ≡ replied_in (answered up.place up.seen))
    pub due : length (replies_of kind opening u done) + length lane.came.items ≤ length (asked_by up.sent)
    -- each was told to the ticket that made the ask, and it has the launches that made the others, in order
    pub tickets : IsPrefix (map (λ t. t.ticket) (replies_of kind opening u done)) (map (λ a. a.ticket) (asks_of opening.setup u done))
    pub askers : AllZip (IsAsker (state_after kind opening done)) lane.askers.items (pending_of kind opening u done)
    -- there is room for an ask of each object, and for the replies to a batch
    pub askers_room : lane.askers.capacity ≡ opening.setup.config.objects
    pub waits_room : lane.waits.capacity ≡ opening.setup.config.objects
    pub came_room : lane.came.capacity ≡ MOST_REQUESTS

  -- answers came: the replies among them are to be told
  pub record TakesIn (answers : List (Answer V O R T)) (lane becomes : Lane V O R T) : Type 0 where
    pub stage : becomes.stage ≡ after_answers_lem lane.stage
    pub names : becomes.names ≡ lane.names
    pub askers : becomes.askers ≡ lane.askers
    pub waits : becomes.waits ≡ lane.waits
    pub came : becomes.came.items ≡ lane.came.items ++ replied_in answers
    pub room : becomes.came.capacity ≡ lane.came.capacity

  -- the first asks that wait were sent, at most 16
  pub record LetsGo (batch : List (Request V O R T)) (lane becomes : Lane V O R T) : Type 0 where
    pub is_first : batch ≡ take MOST_REQUESTS lane.waits.items
    pub stage : becomes.stage ≡ lane.stage
    pub names : becomes.names ≡ lane.names
    pub askers : becomes.askers ≡ lane.askers
    pub waits : becomes.waits.items ≡ drop MOST_REQUESTS lane.waits.items
    pub room : becomes.waits.capacity ≡ lane.waits.capacity
    pub came : becomes.came ≡ lane.came

  -- a lane of trustee u at first, with the names of the objects there and room for so many asks
  pub record IsNewLane (u room : ℕ) (nested : List (ℕ × Name)) (lane : Lane V O R T) : Type 0 where
    pub stage : lane.stage ≡ Before
    pub names : lane.names.items ≡ map (λ n. n.1) (filter (λ n. n.0 == u) nested)
    pub askers : lane.askers ≡ buffer [] room
    pub waits : lane.waits ≡ buffer [] room
    pub came : lane.came ≡ buffer [] MOST_REQUESTS

  -- one for each of so many trustees from number u on
  pub record AreNewLanes (u room : ℕ) (nested : List (ℕ × Name)) (count : ℕ) (lanes : List (Lane V O R T)) : Type 0 where
    pub as_many : length lanes ≡ count
    pub each : (i : ℕ) (lane : Lane V O R T) → slice_get lanes i ≡ Some lane → IsNewLane (u + i) room nested lane

  -- how many names a lane has that is there
  abbrev pub names_in : Option (Lane V O R T) → ℕ
  names_in None = 0
  names_in (Some lane) = length lane.names.items

  -- how many objects trustee `number` holds at trustee u, by its lanes
  abbrev pub names_held : ℕ → List (Lane V O R T) → ℕ → ℕ
  names_held number lanes u = cond (nat_lt number u) (names_in (slice_get lanes (u - (number + 1)))) 0

  -- so many numbers are those, from trustee 0 on
  pub record AreCounted (number : ℕ) (lanes : List (Lane V O R T)) (count : ℕ) (held : List ℕ) : Type 0 where
    pub as_many : length held ≡ count
    pub each : (u x : ℕ) → slice_get held u ≡ Some x → x ≡ names_held number lanes u
