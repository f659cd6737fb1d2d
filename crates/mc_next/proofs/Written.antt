-- What was gathered is written, or a front of it.
use Rattle.std.proofs.Common.{◌≡◌, ℕ, ◌+◌, inl, inr, List, [], ◌++◌, length, take, Option, Some, None, sym, ap, subst, ◌∙◌, append_assoc, append-nil}
use Rattle.std.specs.Prelude.{map}
use Rattle.std.proofs.Math.Seq.{take-append-add}
use Rattle.tm_base.specs.Visible.{Grows, GrowsByFront}
use Rattle.mc_model.specs.Showing.{commands_of}
use Rattle.mc_next.specs.declared.ended.Ended.TheVariants.{WriteFault, NoMemory}
use Rattle.mc_next.specs.declared.session.Session.{Session}
use Rattle.mc_next.specs.declared.work.Work.{Work}
use Rattle.mc_next.specs.Parts.{StoreQuestion, StoreView, questions_of}
use Rattle.mc_next.specs.Clients.{StoreBooks}
use Rattle.mc_next.specs.Runs.{Setting, SessionView, WritesFront, asked_for, all_of}
use Rattle.mc_next.specs.Works.{left_of, question_of}
use Rattle.mc_next.specs.Sessions.{Past, taken, latest_of, HasCome, HasTicked, IsAtWork, IsOn, HasGivenUp, IsGoing}
use Rattle.mc_next.specs.Deeds.{HasWritten}
use Rattle.mc_next.proofs.Streams.{grows_more}
use Rattle.mc_next.proofs.Answered.{all_asked}
use Rattle.mc_next.proofs.Finished.{front_of, goes_on, goes_as}
use Rattle.mc_next.proofs.Marked.{few_at_work}
use Rattle.mc_next.proofs.Took.{idle_taken}

-- behind what was written a front of what was gathered
pub front_more : (before now later : Option (List ℕ)) (written gathered whole : List ℕ) → Grows before now written → GrowsByFront now later gathered
    → written ++ gathered ≡ whole → WritesFront before later whole
front_more before now later written gathered whole g h e = λ old is.
    let (n, lt, end) = h (old ++ written) (g old is) in (
      length written + n,
      end ∙ ap (λ l. Some l) (append_assoc old written (take n gathered))
          ∙ ap (λ l. Some (old ++ l)) (sym (take-append-add written gathered n) ∙ ap (λ l. take (length written + n) l) e),
    )

module _ {D : Type 0} (view : D → StoreView) (s : Setting) (p : Past) (before : ℕ → StoreView) (books : StoreBooks D) where
  -- of the questions of what is at work some were asked, and the others follow
  pub others_of :
      (moment : ℕ) (asked : List StoreQuestion) (work : Option Work) → IsAtWork s p.begun moment asked work books → length p.readings ≡ length (commands_of (taken p))
      → moment ≡ latest_of 0 p.readings
      → (others : List StoreQuestion) × (all_of (asked_for s p.answered p.readings) ++ (asked ++ others) ≡ all_of (asked_for s (taken p) p.readings))
  others_of moment asked None (begun, none, counts) once latest =
      ([], ap (λ qs. all_of (asked_for s p.answered p.readings) ++ (qs ++ [])) none ∙ append-nil _ ∙ ap (λ ms. all_of (asked_for s ms p.readings)) (sym (idle_taken p begun)))
  others_of moment asked (Some w) (command, begun, is) once latest = (
    map (question_of s.named s.trustees) (left_of w.todo),
    ap (λ qs. all_of (asked_for s p.answered p.readings) ++ qs) (is.questions ∙ ap (λ m. questions_of s.named s.trustees command m) latest)
        ∙ sym (all_asked s p command begun once),
  )

module _ {D : Type 0} (view : D → StoreView) (s : Setting) (marks : List (ℕ → StoreView)) (first now later : SessionView) (books : StoreBooks D) (old : Session) (on : IsOn view s marks old first now books)
    (same_input : later.input ≡ now.input) (same_clock : later.clock ≡ now.clock) where
  input_still : HasCome s.limit on.past.text (taken on.past) old.intake old.quit old.at_end old.too_much first.input later.input
  input_still = subst (λ told. HasCome s.limit on.past.text (taken on.past) old.intake old.quit old.at_end old.too_much first.input told) (sym same_input) on.input

  clock_still : HasTicked on.past.readings (taken on.past) old.moment first.clock later.clock
  clock_still = subst (λ told. HasTicked on.past.readings (taken on.past) old.moment first.clock told) (sym same_clock) on.clock

  all_written : Grows now.output later.output old.gathered → IsOn view s marks (record old { gathered = [] }) first later books
  all_written g = record {
    past = record on.past { written = on.past.written ++ old.gathered };
    input = input_still;
    clock = clock_still;
    output = record {
      each = on.output.each;
      is_written = grows_more first.output now.output later.output on.past.written old.gathered on.output.is_written g;
      gathered_is = append-nil (on.past.written ++ old.gathered) ∙ on.output.gathered_is;
    };
    client = record { was = on.client.was; answered = on.client.answered; in_turn = on.client.in_turn; was_is = on.client.was_is; asked = on.client.asked; asks = on.client.asks; at_work = on.client.at_work };
  }

  part_written : GrowsByFront now.output later.output old.gathered → HasGivenUp view s marks (record old { stopped = Some WriteFault }) first later books
  part_written g =
      let (others, questions) = others_of view s on.past first.sides books old.moment on.client.asked old.work on.client.at_work on.clock.once on.clock.latest_is in record {
        past = on.past;
        input = input_still;
        clock = clock_still;
        each = on.output.each;
        is_written = front_more first.output now.output later.output on.past.written old.gathered _ on.output.is_written g on.output.gathered_is;
        was = on.client.was;
        answered = on.client.answered;
        in_turn = on.client.in_turn;
        was_is = on.client.was_is;
        few = few_at_work s on.past.begun old.moment on.client.asked old.work books on.client.at_work;
        asked = on.client.asked;
        others = others;
        questions = questions;
        asks = on.client.asks;
      }

  pub written : (faults faults_now : ℕ) (running : old.stopped ≡ None) (new : Session) → HasWritten now.output later.output faults faults_now old new → IsGoing view s marks new.stopped new first later books
  written faults faults_now running new h =
      elim h [
        | inl (g, e, calm) ↦ goes_as view s marks first later books (record old { gathered = [] }) new e (goes_on view s marks first later books (record old { gathered = [] }) running (all_written g))
        | inr (g, e, rose) ↦ goes_as view s marks first later books (record old { stopped = Some WriteFault }) new e (part_written g)
      ]

  -- memory was wanting, and nothing was done
  pub lost : later.output ≡ now.output → HasGivenUp view s marks (record old { stopped = Some NoMemory }) first later books
  lost same_output =
      let (others, questions) = others_of view s on.past first.sides books old.moment on.client.asked old.work on.client.at_work on.clock.once on.clock.latest_is in record {
        past = on.past;
        input = input_still;
        clock = clock_still;
        each = on.output.each;
        is_written = front_of first.output later.output on.past.written old.gathered _ (subst (λ told. Grows first.output told on.past.written) (sym same_output) on.output.is_written) on.output.gathered_is;
        was = on.client.was;
        answered = on.client.answered;
        in_turn = on.client.in_turn;
        was_is = on.client.was_is;
        few = few_at_work s on.past.begun old.moment on.client.asked old.work books on.client.at_work;
        asked = on.client.asked;
        others = others;
        questions = questions;
        asks = on.client.asks;
      }
