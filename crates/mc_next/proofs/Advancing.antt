-- What is before a session is less after each deed of a step.
use Rattle.std.proofs.Common.{◌≡◌, ◌≢◌, ℕ, ◌+◌, ◌<◌, ◌≤◌, ◌⊎◌, inl, inr, false, List, [], ◌∷◌, ◌++◌, length, Option, Some, None, refl, sym, ap, subst, ◌∙◌, arith, length-append}
use Rattle.std.proofs.lemmas.Bool.{cases_eq}
use Rattle.std.proofs.lemmas.List.{length-take}
use Rattle.mc_model.specs.declared.message.Command.{Command}
use Rattle.mc_model.specs.declared.message.Message.{Message}
use Rattle.mc_intake.specs.declared.intake.Intake.{Intake}
use Rattle.mc_intake.specs.declared.intake.Came.{Came}
use Rattle.mc_intake.specs.declared.intake.Came.TheVariants as came
use Rattle.mc_intake.specs.Intake.{unfed, IsIntake, HasRead}
use Rattle.mc_route.specs.Plans.{frame_of}
use Rattle.mc_next.specs.declared.ended.Ended.{Ended}
use Rattle.mc_next.specs.declared.ended.Ended.TheVariants.{ReadFault, WriteFault, NoMemory}
use Rattle.mc_next.specs.declared.piece.Piece.{Piece}
use Rattle.mc_next.specs.declared.session.Session.{Session}
use Rattle.mc_next.specs.declared.work.Work.{Work}
use Rattle.mc_next.specs.Parts.{StoreView}
use Rattle.mc_next.specs.Clients.{StoreBooks}
use Rattle.mc_next.specs.Deeds.{told_by, HasFinished, HasTakenOne, FeedsOnly, HasNoMore, HasWritten, HasReadOnce, HasGoneIdle}
use Rattle.mc_next.specs.Works.{left_of}
use Rattle.mc_next.specs.Steps.{pending_in, one_unless, one_where_none, one_where_some, before_of, IsLess, MayRead, IsCaused}

some_first : (xs : List ℕ) → xs ≢ [] → one_where_some xs ≡ 1
some_first [] ne = absurd (ne refl)
some_first (x ∷ xs) ne = refl

some_pieces : (pieces : List Piece) → pieces ≢ [] → 0 < length pieces
some_pieces [] ne = absurd (ne refl)
some_pieces (p ∷ pieces) ne = omega arith

-- where it stopped, that alone is less
pub stops_less : (old new : Session) (why : Ended) → old.stopped ≡ None → new.stopped ≡ Some why → IsLess (before_of new) (before_of old)
stops_less old new why running stopped =
    let was = ap one_where_none running in
    let is = ap one_where_none stopped in
    inl (omega (arith, was, is))

pub less_by : (old new also : Session) → new ≡ also → IsLess (before_of also) (before_of old) → IsLess (before_of new) (before_of old)
less_by old new also e less = subst (λ session. IsLess (before_of session) (before_of old)) (sym e) less

-- what was gathered was written, and some bytes in hand were fed before
module _ (old : Session) (fed : Intake) (feeds : FeedsOnly old.intake fed) (some : old.gathered ≢ []) where
  all_written_less : IsLess (before_of (record old { intake = fed; gathered = [] })) (before_of old)
  all_written_less =
      let one = some_first old.gathered some in
      inr (
        refl,
        inr (
          ap (λ n. n + one_unless old.too_much + one_unless old.at_end) feeds.left,
          elim (cases_eq (length (unfed fed)) (length (unfed old.intake))) [
            | inl same ↦ inr (same, inr (refl, inl (omega (arith, one))))
            | inr other ↦ let le = feeds.fed in inl (omega (arith, le, other))
          ],
        ),
      )

  pub writes_less : (told told_now : Option (List ℕ)) (faults faults_now : ℕ) (new : Session) → old.stopped ≡ None
      → HasWritten told told_now faults faults_now (record old { intake = fed }) new → IsLess (before_of new) (before_of old)
  writes_less told told_now faults faults_now new running (inl (grows, e, calm)) = less_by old new (record old { intake = fed; gathered = [] }) e all_written_less
  writes_less told told_now faults faults_now new running (inr (front, e, rose)) = stops_less old new WriteFault running (ap (λ session. session.stopped) e)

-- a message was taken
pub takes_less : (old new : Session) → old.stopped ≡ None → HasTakenOne old new → IsLess (before_of new) (before_of old)
takes_less old new running t =
    elim t.falls [
      | inl stopped ↦ stops_less old new NoMemory running stopped
      | inr (same, lt) ↦
          let reads : new.intake.left + one_unless new.too_much + one_unless new.at_end ≡ old.intake.left + one_unless old.too_much + one_unless old.at_end =
          ap (λ n. n + one_unless new.too_much + one_unless new.at_end) t.left ∙ ap (λ b. old.intake.left + one_unless b + one_unless new.at_end) t.too_much
          ∙ ap (λ b. old.intake.left + one_unless old.too_much + one_unless b) t.at_end in
          inr (ap one_where_none same, inr (reads, inl lt))
    ]

-- how many bytes are still within the limit, after more came
module _ (limit : ℕ) (text bytes : List ℕ) (messages : List Message) (old new : Intake) (was : IsIntake limit text messages old)
    (is : IsIntake limit (text ++ bytes) messages new) where
  pub left_no_more : new.left ≤ old.left
  left_no_more =
      let one = length-take limit text in
      let two = length-take limit (text ++ bytes) in
      let all = length-append text bytes in
      let before = was.left in
      let after = is.left in
      omega (arith, one, two, all, before, after)

  pub left_less : 1 ≤ length bytes → length (text ++ bytes) ≤ limit → new.left < old.left
  left_less some within =
      let one = length-take limit text in
      let two = length-take limit (text ++ bytes) in
      let all = length-append text bytes in
      let before = was.left in
      let after = is.left in
      omega (arith, one, two, all, before, after, some, within)

-- a read was made, after what was in hand was fed
module _ (told told_now : Option (List ℕ)) (old : Session) (fed : Intake) (left : fed.left ≡ old.intake.left) (no_end : old.at_end ≡ false) (within : old.too_much ≡ false)
    (limit : ℕ) (text : List ℕ) (messages : List Message) (was : IsIntake limit text messages fed) where
  came_less : (said : Came) (intake : Intake) → HasRead limit text messages said told told_now intake
      → IsLess (before_of (told_by said intake (record old { intake = fed }))) (before_of old)
  came_less came.Some intake r =
      let less = left_less limit text r.bytes messages fed intake was r.is r.says.0 r.says.2 in
      inr (refl, inl (omega (arith, less, left)))
  came_less came.TooMuch intake r =
      let no_more = left_no_more limit text r.bytes messages fed intake was r.is in
      let one = ap one_unless within in
      inr (refl, inl (omega (arith, no_more, one, left)))
  came_less came.End intake r =
      let no_more = left_no_more limit text r.bytes messages fed intake was r.is in
      let one = ap one_unless no_end in
      inr (refl, inl (omega (arith, no_more, one, left)))

pub reads_less : (told told_now : Option (List ℕ)) (faults faults_now : ℕ) (old new : Session) (fed : Intake) → MayRead old → HasNoMore old.intake fed
    → ((limit : ℕ) × (text : List ℕ) × (messages : List Message) × IsIntake limit text messages old.intake)
    → HasReadOnce told told_now faults faults_now (record old { intake = fed }) new → IsLess (before_of new) (before_of old)
reads_less told told_now faults faults_now old new fed may none (limit, text, messages, is) (inl (said, intake, e, calm, end, reads)) =
    let was = none.keeps limit text messages is in
    less_by old new (told_by said intake (record old { intake = fed })) e
    (came_less told told_now old fed none.left may.no_end may.within limit text messages was said intake (reads limit text messages was))
reads_less told told_now faults faults_now old new fed may none (limit, text, messages, is) (inr (intake, e, rose, stays, nothing, kept)) =
    stops_less old new ReadFault may.running (ap (λ session. session.stopped) e)

-- what a step does where nothing is at work
module _ {A B W : Type 0} (left left_now : Option (List ℕ)) (read_faults read_faults_now : ℕ) (written written_now : Option (List ℕ)) (write_faults write_faults_now : ℕ)
    (source source_now : A) (sink sink_now : B) (clock clock_now : W) (old new : Session) (running : old.stopped ≡ None) where
  pub idle_less : HasGoneIdle left left_now read_faults read_faults_now written written_now write_faults write_faults_now source source_now sink sink_now clock clock_now old new
      → IsLess (before_of new) (before_of old)
  idle_less (inl wrote) = writes_less old wrote.fed wrote.feeds wrote.some written written_now write_faults write_faults_now new running wrote.written
  idle_less (inr (inl took)) = takes_less old new running took.taken
  idle_less (inr (inr read)) = reads_less left left_now read_faults read_faults_now old new read.fed read.may read.none read.has_intake read.reads

  pub idle_reads : HasGoneIdle left left_now read_faults read_faults_now written written_now write_faults write_faults_now source source_now sink sink_now clock clock_now old new
      → (source_now ≡ source) ⊎ MayRead old
  idle_reads (inl wrote) = inl wrote.source_is
  idle_reads (inr (inl took)) = inl took.source_is
  idle_reads (inr (inr read)) = inr read.may

  pub idle_writes : HasGoneIdle left left_now read_faults read_faults_now written written_now write_faults write_faults_now source source_now sink sink_now clock clock_now old new
      → (sink_now ≡ sink) ⊎ (old.gathered ≢ [])
  idle_writes (inl wrote) = inr wrote.some
  idle_writes (inr (inl took)) = inl took.sink_is
  idle_writes (inr (inr read)) = inl read.sink_is

  caused_by : (stopped : Option Ended) → new.stopped ≡ stopped → IsCaused stopped read_faults read_faults_now write_faults write_faults_now
      → IsCaused new.stopped read_faults read_faults_now write_faults write_faults_now
  caused_by stopped e cause = subst (λ o. IsCaused o read_faults read_faults_now write_faults write_faults_now) (sym e) cause

  wrote_cause : (fed : Intake) → HasWritten written written_now write_faults write_faults_now (record old { intake = fed }) new
      → read_faults_now ≡ read_faults → IsCaused new.stopped read_faults read_faults_now write_faults write_faults_now
  wrote_cause fed (inl (grows, e, calm)) no_reads = caused_by None (ap (λ session. session.stopped) e ∙ running) (no_reads, calm)
  wrote_cause fed (inr (front, e, rose)) no_reads = caused_by (Some WriteFault) (ap (λ session. session.stopped) e) (rose, no_reads)

  told_stopped : (said : Came) (intake fed : Intake) → (told_by said intake (record old { intake = fed })).stopped ≡ None
  told_stopped came.Some intake fed = running
  told_stopped came.TooMuch intake fed = running
  told_stopped came.End intake fed = running

  read_cause : (fed : Intake) → HasReadOnce left left_now read_faults read_faults_now (record old { intake = fed }) new
      → write_faults_now ≡ write_faults → IsCaused new.stopped read_faults read_faults_now write_faults write_faults_now
  read_cause fed (inl (said, intake, e, calm, end, reads)) no_writes = caused_by None (ap (λ session. session.stopped) e ∙ told_stopped said intake fed) (calm, no_writes)
  read_cause fed (inr (intake, e, rose, stays, nothing, kept)) no_writes = caused_by (Some ReadFault) (ap (λ session. session.stopped) e) (rose, no_writes)

  -- a device that was not used has its count of faults
  pub idle_cause : (source_now ≡ source → read_faults_now ≡ read_faults) → (sink_now ≡ sink → write_faults_now ≡ write_faults)
      → HasGoneIdle left left_now read_faults read_faults_now written written_now write_faults write_faults_now source source_now sink sink_now clock clock_now old new
      → IsCaused new.stopped read_faults read_faults_now write_faults write_faults_now
  idle_cause reads writes (inl wrote) = wrote_cause wrote.fed wrote.written (reads wrote.source_is)
  idle_cause reads writes (inr (inl took)) =
      let calm : (read_faults_now ≡ read_faults) × (write_faults_now ≡ write_faults) = (reads took.source_is, writes took.sink_is) in
      elim took.taken.falls [
        | inl stopped ↦ caused_by (Some NoMemory) stopped calm
        | inr (same, lt) ↦ caused_by None (same ∙ running) calm
      ]
  idle_cause reads writes (inr (inr read)) = read_cause read.fed read.reads (writes read.sink_is)

  told_over : (said : Came) (intake fed : Intake) → (told_by said intake (record old { intake = fed })).over ≡ old.over
  told_over came.Some intake fed = refl
  told_over came.TooMuch intake fed = refl
  told_over came.End intake fed = refl

  wrote_over : (fed : Intake) → HasWritten written written_now write_faults write_faults_now (record old { intake = fed }) new → new.over ≡ old.over
  wrote_over fed (inl (grows, e, calm)) = ap (λ session. session.over) e
  wrote_over fed (inr (front, e, rose)) = ap (λ session. session.over) e

  read_over : (fed : Intake) → HasReadOnce left left_now read_faults read_faults_now (record old { intake = fed }) new → new.over ≡ old.over
  read_over fed (inl (said, intake, e, calm, end, reads)) = ap (λ session. session.over) e ∙ told_over said intake fed
  read_over fed (inr (intake, e, rose, stays, nothing, kept)) = ap (λ session. session.over) e

  pub idle_over : HasGoneIdle left left_now read_faults read_faults_now written written_now write_faults write_faults_now source source_now sink sink_now clock clock_now old new
      → new.over ≡ old.over
  idle_over (inl wrote) = wrote_over wrote.fed wrote.written
  idle_over (inr (inl took)) = took.taken.over
  idle_over (inr (inr read)) = read_over read.fed read.reads

-- what is done for the command at work
module _ (old : Session) (w becomes : Work) where
  pub asked_less : (pieces : List Piece) → pieces ≢ [] → left_of w.todo ≡ pieces ++ left_of becomes.todo
      → IsLess (before_of (record old { work = Some becomes })) (before_of (record old { work = Some w }))
  asked_less pieces some left =
      let all = ap length left ∙ length-append pieces (left_of becomes.todo) in
      let one = some_pieces pieces some in
      inr (refl, inr (refl, inr (refl, inr (refl, inr (refl, inl (omega (arith, all, one)))))))

  pub same_before : left_of becomes.todo ≡ left_of w.todo → before_of (record old { work = Some becomes }) ≡ before_of (record old { work = Some w })
  same_before left =
      ap (λ n. one_where_none old.stopped ∷ (old.intake.left + one_unless old.too_much + one_unless old.at_end) ∷ length (unfed old.intake) ∷ 1 ∷ one_where_some old.gathered ∷ n ∷ []) (ap length left)

pub finished_less : {D : Type 0} (view : D → StoreView) (w v : Work) (old new : Session) (books : StoreBooks D) (command : Command) → old.work ≡ None → old.stopped ≡ None
    → v.frame ≡ frame_of command → HasFinished view v old new books → IsLess (before_of new) (before_of (record old { work = Some w }))
finished_less view w v old new books command idle running frame f =
    elim (f.shows command frame) [
      | inl e ↦
          let none = ap (λ session. pending_in session.work) e ∙ ap pending_in idle in
          inr (
            ap (λ session. one_where_none session.stopped) e,
            inr (
              ap (λ session. session.intake.left + one_unless session.too_much + one_unless session.at_end) e,
              inr (ap (λ session. length (unfed session.intake)) e, inl (omega (arith, none))),
            ),
          )
      | inr e ↦ stops_less (record old { work = Some w }) new NoMemory running (ap (λ session. session.stopped) e)
    ]
