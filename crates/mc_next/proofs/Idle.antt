-- What a step did where nothing was at work and no message was taken.
use Rattle.std.proofs.Common.{◌≡◌, ◌≢◌, ℕ, ◌<◌, inl, inr, Bool, true, false, List, [], ◌∷◌, length, Option, None, refl, sym, ap, subst, ◌∙◌, arith}
use Rattle.mc_model.specs.declared.message.Message.{Message}
use Rattle.mc_intake.specs.Intake.{unfed, IsIntake}
use Rattle.mc_next.specs.declared.session.Session.{Session}
use Rattle.mc_next.specs.Sessions.{IsNotOver}
use Rattle.mc_next.specs.Deeds.{HasTakenOne, FeedsOnly, HasNoMore, HasWritten, HasReadOnce, HasGoneIdle}
use Rattle.mc_next.specs.Parts.{StoreView}
use Rattle.mc_next.specs.Clients.{StoreBooks}
use Rattle.mc_next.specs.Runs.{Setting, SessionView}
use Rattle.mc_next.specs.Sessions.{IsOn, IsGoing, seen}
use Rattle.mc_next.proofs.Finished.{goes_on, goes_as}
use Rattle.mc_next.proofs.Written.{written as all_or_part}
use Rattle.mc_next.proofs.Came.{has_read}
use Rattle.mc_next.proofs.Turned.{seen_going}

some_bytes : (xs : List ℕ) → xs ≢ [] → 0 < length xs
some_bytes [] ne = absurd (ne refl)
some_bytes (x ∷ xs) ne = omega arith

-- its next message was looked for, of which there is none, and then it wrote or read, or neither
module _ {A B W : Type 0} (left left_now : Option (List ℕ)) (read_faults read_faults_now : ℕ) (written written_now : Option (List ℕ)) (write_faults write_faults_now : ℕ)
    (source source_now : A) (sink sink_now : B) (clock clock_now : W) (old mid new : Session) (rests : mid ≡ record old { intake = mid.intake })
    (feeds : FeedsOnly old.intake mid.intake) (more : old.quit ≡ false → HasNoMore old.intake mid.intake) (same_clock : clock_now ≡ clock)
    (idle : old.work ≡ None) (running : old.stopped ≡ None) (not_over : IsNotOver old)
    (has_intake : (limit : ℕ) × (text : List ℕ) × (messages : List Message) × IsIntake limit text messages old.intake)
    (wrote : mid.gathered ≢ [] → (source_now ≡ source) × HasWritten written written_now write_faults write_faults_now mid new)
    (read : mid.gathered ≡ [] → mid.too_much ≡ false → (sink_now ≡ sink) × HasReadOnce left left_now read_faults read_faults_now mid new)
    (stays : mid.gathered ≡ [] → mid.too_much ≡ true → (sink_now ≡ sink) × (source_now ≡ source) × (new ≡ mid)) where
  abbrev HasGone : Type 0
  HasGone = HasGoneIdle left left_now read_faults read_faults_now written written_now write_faults write_faults_now source source_now sink sink_now clock clock_now old new

  same_gathered : mid.gathered ≡ old.gathered
  same_gathered = ap (λ session. session.gathered) rests

  same_much : mid.too_much ≡ old.too_much
  same_much = ap (λ session. session.too_much) rests

  did_write : old.gathered ≢ [] → HasGone
  did_write some =
      let (same_source, has) = wrote (λ e. some (sym same_gathered ∙ e)) in
      inl (record {
        some = some;
        fed = mid.intake;
        feeds = feeds;
        written = subst (λ session. HasWritten written written_now write_faults write_faults_now session new) rests has;
        source_is = same_source;
        clock_is = same_clock;
      })

  module _ (none : old.gathered ≡ []) where
    ended : (old.quit ≡ false) × (old.at_end ≡ false) × (old.too_much ≡ true → unfed old.intake ≢ [])
    ended = not_over idle none

    no_more : HasNoMore old.intake mid.intake
    no_more = more ended.0

    did_read : old.too_much ≡ false → HasGone
    did_read within =
        let (same_sink, has) = read (same_gathered ∙ none) (same_much ∙ within) in
        inr (inr (record {
          may = record {
            running = running;
            idle = idle;
            is_written = none;
            no_quit = ended.0;
            no_end = ended.1;
            within = within;
            all_taken = λ limit text messages is. (mid.intake, no_more.keeps limit text messages is, no_more.fed);
          };
          fed = mid.intake;
          none = no_more;
          has_intake = has_intake;
          reads = subst (λ session. HasReadOnce left left_now read_faults read_faults_now session new) rests has;
          sink_is = same_sink;
          clock_is = same_clock;
        }))

    did_feed : old.too_much ≡ true → HasGone
    did_feed much =
        let (same_sink, same_source, same) = stays (same_gathered ∙ none) (same_much ∙ much) in
        let new_is : new ≡ record old { intake = mid.intake } = same ∙ rests in
        let some = some_bytes (unfed old.intake) (ended.2 much) in
        let empty = ap length no_more.fed in
        inr (inl (record {
          taken = subst (λ session. HasTakenOne old session) (sym new_is) (record {
            left = no_more.left;
            at_end = refl;
            too_much = refl;
            over = refl;
            falls = inr (refl, omega (arith, some, empty));
          });
          source_is = same_source;
          sink_is = same_sink;
        }))

    by_much : (b : Bool) → old.too_much ≡ b → HasGone
    by_much true e = did_feed e
    by_much false e = did_read e

  by_gathered : (xs : List ℕ) → old.gathered ≡ xs → HasGone
  by_gathered [] e = by_much e old.too_much refl
  by_gathered (x ∷ xs) e = did_write (λ none. let both : x ∷ xs ≡ [] = sym e ∙ none in cc)

  pub did_rest : HasGoneIdle left left_now read_faults read_faults_now written written_now write_faults write_faults_now source source_now sink sink_now clock clock_now old new
  did_rest = by_gathered old.gathered refl

-- and so it goes on
module _ {D A B : Type 0} (view : D → StoreView) (s : Setting) (marks : List (ℕ → StoreView)) (first : SessionView) (books : StoreBooks D) (left left_now readings written written_now : Option (List ℕ))
    (read_faults read_faults_now write_faults write_faults_now : ℕ) (source source_now : A) (sink sink_now : B) (same_left : source_now ≡ source → left_now ≡ left)
    (same_written : sink_now ≡ sink → written_now ≡ written) (mid new : Session) (on : IsOn view s marks mid first (seen view books left readings written) books) (idle : mid.work ≡ None)
    (running : mid.stopped ≡ None) (not_ended : mid.gathered ≡ [] → (mid.quit ≡ false) × (mid.at_end ≡ false))
    (wrote : mid.gathered ≢ [] → (source_now ≡ source) × HasWritten written written_now write_faults write_faults_now mid new)
    (read : mid.gathered ≡ [] → mid.too_much ≡ false → (sink_now ≡ sink) × HasReadOnce left left_now read_faults read_faults_now mid new)
    (stays : mid.gathered ≡ [] → mid.too_much ≡ true → (sink_now ≡ sink) × (source_now ≡ source) × (new ≡ mid)) where
  abbrev Goes : Type 0
  Goes = IsGoing view s marks new.stopped new first (seen view books left_now readings written_now) books

  goes_written : mid.gathered ≢ [] → Goes
  goes_written some =
      let (same, has) = wrote some in
      all_or_part view s marks first (seen view books left readings written) (seen view books left_now readings written_now) books mid on (same_left same) refl write_faults write_faults_now
      running new has

  goes_read : mid.gathered ≡ [] → mid.too_much ≡ false → Goes
  goes_read none within =
      let (same, has) = read none within in
      let (no_quit, no_end) = not_ended none in
      has_read view s marks first (seen view books left readings written) (seen view books left_now readings written_now) books mid on refl (same_written same) running no_end within idle
      none no_quit read_faults read_faults_now new has

  goes_fed : mid.gathered ≡ [] → mid.too_much ≡ true → Goes
  goes_fed none much =
      let (same_sink, same_source, same) = stays none much in
      seen_going view s marks new first books (seen view books left readings written) (seen view books left_now readings written_now) (same_left same_source) refl (same_written same_sink)
      new.stopped (goes_as view s marks first (seen view books left readings written) books mid new same (goes_on view s marks first (seen view books left readings written) books mid running on))

  goes_by_much : (b : Bool) → mid.gathered ≡ [] → mid.too_much ≡ b → Goes
  goes_by_much true none e = goes_fed none e
  goes_by_much false none e = goes_read none e

  goes_by : (xs : List ℕ) → mid.gathered ≡ xs → Goes
  goes_by [] e = goes_by_much mid.too_much e refl
  goes_by (x ∷ xs) e = goes_written (λ none. let both : x ∷ xs ≡ [] = sym e ∙ none in cc)

  pub goes_rest : IsGoing view s marks new.stopped new first (seen view books left_now readings written_now) books
  goes_rest = goes_by mid.gathered refl
