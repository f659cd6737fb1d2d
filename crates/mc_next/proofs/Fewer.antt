-- Where a message was taken fewer bytes are to be fed, or memory was wanting.
use Rattle.std.proofs.Common.{◌≡◌, ◌≢◌, ℕ, ◌<◌, inl, inr, Bool, true, false, List, [], length, Option, Some, refl, sym, ap, subst, ◌∙◌, arith}
use Rattle.std.proofs.lemmas.Bool.{false≢true}
use Rattle.mc_grammar.specs.declared.reader.Next.{Next}
use Rattle.mc_grammar.specs.declared.reader.Next.TheVariants as next
use Rattle.mc_model.specs.declared.message.Command.{Command}
use Rattle.mc_model.specs.declared.message.Message.{Message}
use Rattle.mc_model.specs.declared.shown.Shown.{Shown}
use Rattle.mc_intake.specs.declared.intake.Intake.{Intake}
use Rattle.mc_intake.specs.Intake.{unfed, IsIntake, Takes}
use Rattle.mc_next.specs.declared.ended.Ended.TheVariants.{NoMemory}
use Rattle.mc_next.specs.declared.session.Session.{Session}
use Rattle.mc_next.specs.Parts.{StoreView}
use Rattle.mc_next.specs.Clients.{StoreBooks}
use Rattle.mc_next.specs.Deeds.{without_memory, with_command, HasGathered, HasBegun, HasMet, HasTakenOne, HasNoMore}

took_by : (old new also : Session) → new ≡ also → HasTakenOne old also → HasTakenOne old new
took_by old new also e t = subst (λ session. HasTakenOne old session) (sym e) t

module _ (old : Session) (intake : Intake) (left : intake.left ≡ old.intake.left) (fewer : length (unfed intake) < length (unfed old.intake)) where
  gathered_fewer : (shown : Shown) (mid new : Session) → mid.intake ≡ intake → mid.at_end ≡ old.at_end → mid.too_much ≡ old.too_much → mid.over ≡ old.over
      → mid.stopped ≡ old.stopped → HasGathered shown mid new → HasTakenOne old new
  gathered_fewer shown mid new same at_end too_much over stopped (inl e) = record {
    left = ap (λ session. session.intake.left) e ∙ ap (λ i. i.left) same ∙ left;
    at_end = ap (λ session. session.at_end) e ∙ at_end;
    too_much = ap (λ session. session.too_much) e ∙ too_much;
    over = ap (λ session. session.over) e ∙ over;
    falls = inr (ap (λ session. session.stopped) e ∙ stopped, let is = ap (λ session. length (unfed session.intake)) e ∙ ap (λ i. length (unfed i)) same in omega (arith, is, fewer));
  }
  gathered_fewer shown mid new same at_end too_much over stopped (inr e) = record {
    left = ap (λ session. session.intake.left) e ∙ ap (λ i. i.left) same ∙ left;
    at_end = ap (λ session. session.at_end) e ∙ at_end;
    too_much = ap (λ session. session.too_much) e ∙ too_much;
    over = ap (λ session. session.over) e ∙ over;
    falls = inl (ap (λ session. session.stopped) e);
  }

  pub fault_fewer : (shown : Shown) (new : Session) → HasGathered shown (record old { intake = intake }) new → HasTakenOne old new
  fault_fewer shown new h = gathered_fewer shown (record old { intake = intake }) new refl refl refl refl refl h

  pub command_fewer : {D : Type 0} (view : D → StoreView) (command : Command) (trustees reading : ℕ) (new : Session) (books : StoreBooks D)
      → HasBegun view command trustees (with_command command reading (record old { intake = intake })) new books → HasTakenOne old new
  command_fewer view command trustees reading new books (inl (w, is, some, e)) =
      took_by old new (record (with_command command reading (record old { intake = intake })) { work = Some w }) e
      (record { left = left; at_end = refl; too_much = refl; over = refl; falls = inr (refl, fewer) })
  command_fewer view command trustees reading new books (inr (inl (w, is, none, f))) =
      gathered_fewer _ (with_command command reading (record old { intake = intake })) new refl refl refl refl refl
      (f.shows command (is (λ i. record { id = 0; place = 0 })).frame)
  command_fewer view command trustees reading new books (inr (inr e)) =
      took_by old new (without_memory (with_command command reading (record old { intake = intake }))) e
      (record { left = left; at_end = refl; too_much = refl; over = refl; falls = inl refl })

pub lost_fewer : (old new : Session) → new ≡ record old { stopped = Some NoMemory } → HasTakenOne old new
lost_fewer old new e = took_by old new (record old { stopped = Some NoMemory }) e (record { left = refl; at_end = refl; too_much = refl; over = refl; falls = inl refl })

-- of what the intake gave
module _ {D W : Type 0} (view : D → StoreView) (trustees : ℕ) (told told_now : Option (List ℕ)) (clock clock_now : W) (old new : Session) (intake : Intake)
    (books : StoreBooks D) (went : Bool) where
  pub met_fewer :
      (n : Next) → intake.left ≡ old.intake.left → (unfed old.intake ≡ [] → n ≡ next.More) → (unfed old.intake ≢ [] → length (unfed intake) < length (unfed old.intake))
      → HasMet view trustees n told told_now clock clock_now (record old { intake = intake }) new books went → went ≡ true → HasTakenOne old new
  met_fewer (next.Command command) left none fewer (e, (reading, read, begun)) is =
      command_fewer old intake left (fewer (λ empty. let no = none empty in absurd cc)) view command trustees reading new books begun
  met_fewer (next.Fault fault) left none fewer (e, gathered, same) is =
      fault_fewer old intake left (fewer (λ empty. let no = none empty in absurd cc)) _ new gathered
  met_fewer next.More left none fewer (e, same, still) is = absurd (false≢true (sym e ∙ is))

  pub met_rests : (n : Next) → HasMet view trustees n told told_now clock clock_now (record old { intake = intake }) new books went → went ≡ false
      → (n ≡ next.More) × (new ≡ record old { intake = intake }) × (clock_now ≡ clock)
  met_rests (next.Command command) (e, (reading, read, begun)) is = absurd (false≢true (sym is ∙ e))
  met_rests (next.Fault fault) (e, gathered, same) is = absurd (false≢true (sym is ∙ e))
  met_rests next.More (e, same, still) is = (refl, same, still)

-- where it gave no message, all is fed
pub met_no_more : (n : Next) (old new : Intake) → n ≡ next.More → new.left ≡ old.left
    → ((limit : ℕ) × (text : List ℕ) × (messages : List Message) × IsIntake limit text messages old)
    → ((limit : ℕ) (text : List ℕ) (messages : List Message) → IsIntake limit text messages old → Takes limit text messages n new) → HasNoMore old new
met_no_more (next.Command command) old new e left is takes = absurd cc
met_no_more (next.Fault fault) old new e left is takes = absurd cc
met_no_more next.More old new e left (limit, text, messages, is) takes = record {
  left = left;
  fed = (takes limit text messages is).more refl;
  keeps = λ limit text messages is. (takes limit text messages is).is;
}
