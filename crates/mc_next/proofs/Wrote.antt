-- What turns and a write of a session at work say of themselves.
use Rattle.std.proofs.Common.{◌≡◌, ◌≢◌, ℕ, inl, inr, List, [], length, Option, Some, None, refl, sym, ap, subst, ◌∙◌, arith}
use Rattle.tm_pair.specs.Theory.{Theory}
use Rattle.tm_asking.specs.declared.turning.Turned.{Turned}
use Rattle.tm_asking.specs.declared.turning.Turned.TheVariants.{Moved, Pending}
use Rattle.tm_asking.specs.Asking.{NoneCounts}
use Rattle.tm_asking.specs.Turning.{IsAtTables, TurnsBelow}
use Rattle.mc_model.specs.declared.reply.ShardReply.{ShardReply}
use Rattle.mc_shard.specs.declared.op.ShardOp.{ShardOp}
use Rattle.mc_route.specs.Places.{StoreValue}
use Rattle.mc_next.specs.declared.session.Session.{Session}
use Rattle.mc_next.specs.declared.work.Work.{Work}
use Rattle.mc_next.specs.Parts.{StoreTask, store_kind}
use Rattle.mc_next.specs.Clients.{StoreBooks}
use Rattle.mc_next.specs.Works.{StoreState}
use Rattle.mc_next.specs.Deeds.{HasWritten}
use Rattle.mc_next.specs.Steps.{pending_in, before_of, IsLess, AllPending, NextIsFull, MayDoNothing, HasAdvanced, KeepsMarks, AsksNothing, IsCaused}
use Rattle.mc_next.proofs.Advancing.{writes_less}
use Rattle.mc_next.proofs.Keeping.{turns_keep}
use Rattle.mc_next.proofs.Resting.{turns_rest, turns_pend}
use Rattle.mc_next.proofs.Looked.{next_full, still_counts}

-- what was gathered was written, or a front of it
module _ (told told_now : Option (List ℕ)) (faults faults_now : ℕ) (old new : Session) (running : old.stopped ≡ None) (h : HasWritten told told_now faults faults_now old new) where
  pub write_cause : (reads : ℕ) → IsCaused new.stopped reads reads faults faults_now
  write_cause reads =
      elim h [
        | inl (grows, e, calm) ↦ subst (λ o. IsCaused o reads reads faults faults_now) (sym (ap (λ session. session.stopped) e ∙ running)) (refl, calm)
        | inr (front, e, rose) ↦ subst (λ o. IsCaused o reads reads faults faults_now) (sym (ap (λ session. session.stopped) e)) (rose, refl)
      ]

  pub write_over : new.over ≡ old.over
  write_over = elim h [ inl (grows, e, calm) ↦ ap (λ session. session.over) e | inr (front, e, rose) ↦ ap (λ session. session.over) e ]

  pub write_less : old.gathered ≢ [] → IsLess (before_of new) (before_of old)
  write_less some = writes_less old old.intake (record { left = refl; fed = omega arith; keeps = λ limit text messages is. is }) some told told_now faults faults_now new running h

module _ {D Table Owner : Type 0} (theory : Theory StoreValue ShardOp ShardReply StoreTask Table D Owner) (told : Turned)
    (tables tables_new : List Table) (old new : StoreBooks D) (turns : TurnsBelow theory store_kind (length tables) told tables old tables_new new) where
  pub turned_marks : KeepsMarks old new
  turned_marks = (turns_keep theory store_kind (length tables) told tables tables_new old new turns).0

  pub turned_asks : AsksNothing theory.client_view old new
  turned_asks = (turns_keep theory store_kind (length tables) told tables tables_new old new turns).1

  pub turned_moved : (was session : Session) → before_of session ≡ before_of was → told ≡ Moved → HasAdvanced theory was session tables old tables_new new
  turned_moved was session same e = inr (same, inr (subst (λ t. TurnsBelow theory store_kind (length tables) t tables old tables_new new) e turns))

  module _ (openings : ℕ → StoreState) (home : IsAtTables theory openings tables old) (none : old.arrived.items ≡ []) (still : told ≢ Moved) where
    pub turned_none : AllPending theory.client_view old new
    turned_none = turns_rest theory store_kind openings old home.client none told tables tables_new new home.as_many turns still

    pub turned_pends : ¬ (NoneCounts old) → TurnsBelow theory store_kind (length tables) Pending tables old tables_new new
    turned_pends counts =
        subst (λ t. TurnsBelow theory store_kind (length tables) t tables old tables_new new)
        (turns_pend theory store_kind openings old home.client none told tables tables_new new home.as_many turns still counts) turns

    pub turned_counts : ¬ (NoneCounts old) → ¬ (NoneCounts new)
    turned_counts counts = still_counts theory.client_view old new turned_none counts

    pub turned_nothing : (session : Session) (w : Work) → session.work ≡ Some w → NextIsFull session.work old → session.gathered ≡ [] → MayDoNothing session new
    turned_nothing session w e full written = record { busy = ap pending_in e; full = next_full theory.client_view old new turned_none session.work full; is_written = written }
