-- A read brings bytes, the end, or a fault.
use Rattle.std.proofs.Common.{◌≡◌, ℕ, inl, inr, Bool, true, false, List, [], ◌++◌, length, take, drop, Option, Some, None, refl, sym, ap, subst, ◌∙◌, arith, append_assoc, append-nil}
use Rattle.std.proofs.lemmas.Bool.{false≢true}
use Rattle.std.proofs.lemmas.List.{take_all}
use Rattle.tm_base.specs.Visible.{Gives, Grows, Stays}
use Rattle.mc_model.specs.declared.message.Message.{Message}
use Rattle.mc_intake.specs.declared.intake.Intake.{Intake}
use Rattle.mc_intake.specs.declared.intake.Came.{Came}
use Rattle.mc_intake.specs.declared.intake.Came.TheVariants as came
use Rattle.mc_intake.specs.Intake.{unfed, IsIntake, HasRead}
use Rattle.mc_next.specs.declared.ended.Ended.TheVariants.{ReadFault}
use Rattle.mc_next.specs.declared.session.Session.{Session}
use Rattle.mc_next.specs.Parts.{StoreView}
use Rattle.mc_next.specs.Clients.{StoreBooks}
use Rattle.mc_next.specs.Runs.{Setting, SessionView, CameSoFar, CameWhole}
use Rattle.mc_next.specs.Sessions.{taken, HasCome, HasTicked, HasAskedOn, IsOn, IsGoing, HasStoppedFor}
use Rattle.mc_next.specs.Deeds.{told_by, HasReadOnce}
use Rattle.mc_next.proofs.Finished.{goes_on, goes_as}

-- bytes came behind a text
pub came_more : (before now later : Option (List ℕ)) (text bytes : List ℕ) → CameSoFar before now text → Gives now later (length bytes) bytes → CameSoFar before later (text ++ bytes)
came_more before now later text bytes c g = λ all is.
    let (rest, parts, told) = c all is in
    let (more, left) = g rest told in
    let whole : take (length bytes) bytes ≡ bytes = take_all (length bytes) bytes (omega arith) in
    (drop (length bytes) rest, parts ∙ ap (λ l. text ++ l) (more ∙ ap (λ l. l ++ drop (length bytes) rest) whole) ∙ sym (append_assoc text bytes (drop (length bytes) rest)), left)

-- nothing came, and nothing was left
pub came_end : (before now later : Option (List ℕ)) (text : List ℕ) → CameSoFar before now text → Stays now later → ((items : List ℕ) → now ≡ Some items → items ≡ [])
    → CameWhole before later text
came_end before now later text c stays none = λ all is.
    let (rest, parts, told) = c all is in
    let empty = none rest told in
    (parts ∙ ap (λ l. text ++ l) empty ∙ append-nil text, stays rest told ∙ ap (λ l. Some l) empty)

pub came_still : (before now later : Option (List ℕ)) (text : List ℕ) → CameSoFar before now text → Stays now later → CameSoFar before later text
came_still before now later text c stays = λ all is. let (rest, parts, told) = c all is in (rest, parts, stays rest told)

-- what a read brought stands in its place already
pub told_same : (said : Came) (intake : Intake) (old : Session) → told_by said intake (record old { intake = intake }) ≡ told_by said intake old
told_same came.Some intake old = refl
told_same came.TooMuch intake old = refl
told_same came.End intake old = refl

module _ (limit : ℕ) (text : List ℕ) (messages : List Message) (intake intake_new : Intake) (quit : Bool) (before now later : Option (List ℕ))
    (h : HasCome limit text messages intake quit false false before now) where
  read_some : (r : HasRead limit text messages came.Some now later intake_new) → HasCome limit (text ++ r.bytes) messages intake_new quit false false before later
  read_some r = record {
    came = came_more before now later text r.bytes h.came r.gives;
    ended = λ e. absurd (false≢true e);
    fits = λ e. r.says.2;
    above = λ e. absurd (false≢true e);
    is_intake = r.is;
    until = h.until;
    quit_is = h.quit_is;
  }

  read_too_much : (r : HasRead limit text messages came.TooMuch now later intake_new) → HasCome limit (text ++ r.bytes) messages intake_new quit false true before later
  read_too_much r = record {
    came = came_more before now later text r.bytes h.came r.gives;
    ended = λ e. absurd (false≢true e);
    fits = λ e. absurd (false≢true (sym e));
    above = λ e. r.says;
    is_intake = r.is;
    until = h.until;
    quit_is = h.quit_is;
  }

  -- nothing came, so what was fed whole is so still
  read_end : (r : HasRead limit text messages came.End now later intake_new) → unfed intake_new ≡ [] → HasCome limit text messages intake_new quit true false before later
  read_end r fed =
      let none : r.bytes ≡ [] = r.says.0 in
      let stays : Stays now later = λ items e. let (parts, left) = r.gives items e in left ∙ ap (λ bytes. Some (drop (length bytes) items)) none in record {
        came = came_still before now later text h.came stays;
        ended = λ e. (came_end before now later text h.came stays r.says.1, fed, refl);
        fits = h.fits;
        above = λ e. absurd (false≢true e);
        is_intake = subst (λ t. IsIntake limit t messages intake_new) (ap (λ bytes. text ++ bytes) none ∙ append-nil text) r.is;
        until = h.until;
        quit_is = h.quit_is;
      }

module _ {D : Type 0} (view : D → StoreView) (s : Setting) (marks : List (ℕ → StoreView)) (first now later : SessionView) (books : StoreBooks D) (old : Session) (on : IsOn view s marks old first now books)
    (same_clock : later.clock ≡ now.clock) (same_output : later.output ≡ now.output) (running : old.stopped ≡ None)
    (not_ended : old.at_end ≡ false) (not_much : old.too_much ≡ false) where
  flags : (text : List ℕ) (messages : List Message) (intake : Intake) (told : Option (List ℕ)) → HasCome s.limit text messages intake old.quit false false first.input told
      → HasCome s.limit text messages intake old.quit old.at_end old.too_much first.input told
  flags text messages intake told h =
      subst (λ ended. HasCome s.limit text messages intake old.quit ended old.too_much first.input told) (sym not_ended)
      (subst (λ much. HasCome s.limit text messages intake old.quit false much first.input told) (sym not_much) h)

  input : HasCome s.limit on.past.text (taken on.past) old.intake old.quit false false first.input now.input
  input =
      subst (λ ended. HasCome s.limit on.past.text (taken on.past) old.intake old.quit ended false first.input now.input) not_ended
      (subst (λ much. HasCome s.limit on.past.text (taken on.past) old.intake old.quit old.at_end much first.input now.input) not_much on.input)

  clock_still : HasTicked on.past.readings (taken on.past) old.moment first.clock later.clock
  clock_still = subst (λ told. HasTicked on.past.readings (taken on.past) old.moment first.clock told) (sym same_clock) on.clock

  is_written : Grows first.output later.output on.past.written
  is_written = subst (λ told. Grows first.output told on.past.written) (sym same_output) on.output.is_written

  module _ (text : List ℕ) (new : Session) (gathered : new.gathered ≡ old.gathered) (moment : new.moment ≡ old.moment) (work : new.work ≡ old.work)
      (come : HasCome s.limit text (taken on.past) new.intake new.quit new.at_end new.too_much first.input later.input) where
    with_text : IsOn view s marks new first later books
    with_text = record {
      past = record on.past { text = text };
      input = come;
      clock = subst (λ m. HasTicked on.past.readings (taken on.past) m first.clock later.clock) (sym moment) clock_still;
      output = record { each = on.output.each; is_written = is_written; gathered_is = ap (λ g. on.past.written ++ g) gathered ∙ on.output.gathered_is };
      client =
          subst (λ m. HasAskedOn view s marks (record on.past { text = text }) m new.work first.sides books) (sym moment)
          (subst (λ w. HasAskedOn view s marks (record on.past { text = text }) old.moment w first.sides books) (sym work)
          (record { was = on.client.was; answered = on.client.answered; in_turn = on.client.in_turn; was_is = on.client.was_is; asked = on.client.asked; asks = on.client.asks; at_work = on.client.at_work }));
    }

  told : (said : Came) (intake : Intake) → (said ≡ came.End → unfed intake ≡ []) → HasRead s.limit on.past.text (taken on.past) said now.input later.input intake
      → IsOn view s marks (told_by said intake old) first later books
  told came.Some intake none r =
      with_text (on.past.text ++ r.bytes) (record old { intake = intake }) refl refl refl
      (flags (on.past.text ++ r.bytes) (taken on.past) intake later.input (read_some s.limit on.past.text (taken on.past) old.intake intake old.quit first.input now.input later.input input r))
  told came.TooMuch intake none r =
      with_text (on.past.text ++ r.bytes) (record old { intake = intake; too_much = true }) refl refl refl
      (subst (λ ended. HasCome s.limit (on.past.text ++ r.bytes) (taken on.past) intake old.quit ended true first.input later.input) (sym not_ended)
      (read_too_much s.limit on.past.text (taken on.past) old.intake intake old.quit first.input now.input later.input input r))
  told came.End intake none r =
      with_text on.past.text (record old { intake = intake; at_end = true }) refl refl refl
      (subst (λ much. HasCome s.limit on.past.text (taken on.past) intake old.quit true much first.input later.input) (sym not_much)
      (read_end s.limit on.past.text (taken on.past) old.intake intake old.quit first.input now.input later.input input r (none refl)))

  still_running : (said : Came) (intake : Intake) → (told_by said intake old).stopped ≡ None
  still_running came.Some intake = running
  still_running came.TooMuch intake = running
  still_running came.End intake = running

  -- all that came is answered and written before a read that fails
  module _ (idle : old.work ≡ None) (none_gathered : old.gathered ≡ []) (no_quit : old.quit ≡ false) where
    failed : (intake : Intake) → Stays now.input later.input → unfed intake ≡ [] → IsIntake s.limit on.past.text (taken on.past) intake
        → HasStoppedFor view s marks ReadFault (record old { intake = intake; stopped = Some ReadFault }) first later books
    failed intake stays none is = (
      with_text on.past.text (record old { intake = intake; stopped = Some ReadFault }) refl refl refl
          (flags on.past.text (taken on.past) intake later.input (record {
            came = came_still first.input now.input later.input on.past.text on.input.came stays;
            ended = λ e. absurd (false≢true e);
            fits = λ e. on.input.fits not_much;
            above = λ e. absurd (false≢true e);
            is_intake = is;
            until = on.input.until;
            quit_is = on.input.quit_is;
          })),
      idle,
      none_gathered,
      none,
      no_quit,
      not_much,
    )

    pub has_read : (faults faults_now : ℕ) (new : Session) → HasReadOnce now.input later.input faults faults_now old new → IsGoing view s marks new.stopped new first later books
    has_read faults faults_now new h =
        elim h [
          | inl (said, intake, e, calm, none, reads) ↦
              goes_as view s marks first later books (told_by said intake old) new e
              (goes_on view s marks first later books (told_by said intake old) (still_running said intake)
              (told said intake none (reads s.limit on.past.text (taken on.past) on.input.is_intake)))
          | inr (intake, e, rose, stays, none, kept) ↦
              goes_as view s marks first later books (record old { intake = intake; stopped = Some ReadFault }) new e
              (failed intake stays none (kept s.limit on.past.text (taken on.past) on.input.is_intake))
        ]
