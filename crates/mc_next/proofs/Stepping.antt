-- What a step says of itself, by what its parts did.
use Rattle.std.proofs.Common.{◌≡◌, ◌⊎◌, inl, inr, Bool, true, false, ◌||◌, List, length, Some, None, refl, sym, ap, subst, ◌∙◌}
use Rattle.tm_pair.specs.Theory.{Theory}
use Rattle.tm_asking.specs.Asking.{NoneCounts}
use Rattle.tm_asking.specs.declared.turning.Turned.{Turned}
use Rattle.tm_asking.specs.Turning.{TurnsBelow}
use Rattle.mc_model.specs.declared.reply.ShardReply.{ShardReply}
use Rattle.mc_shard.specs.declared.op.ShardOp.{ShardOp}
use Rattle.mc_route.specs.Places.{StoreValue}
use Rattle.mc_next.specs.declared.ended.Ended.{Ended}
use Rattle.mc_next.specs.declared.session.Session.{Session}
use Rattle.mc_next.specs.declared.work.Work.{Work}
use Rattle.mc_next.specs.Parts.{StoreTask, StoreView, store_kind}
use Rattle.mc_next.specs.Clients.{StoreBooks}
use Rattle.mc_next.specs.Steps.{shown_by, before_of, IsLess, AllPending, MayDoNothing, IsWaiting, HasTakenSome, HasTurnedSome, HasWorkedOn, HasAdvanced, AsksOrTurns}
use Rattle.mc_next.proofs.Clients.{keeps_none}
use Rattle.mc_next.proofs.Looked.{client_still}

-- a session whose command at work was taken out and put back
pub shown_with : (old : Session) (w : Work) → old.work ≡ Some w → shown_by (record old { work = Some w }) ≡ shown_by old
shown_with old w e = ap (λ work. shown_by (record old { work = work })) (sym e)

pub before_with : (old : Session) (w : Work) → old.work ≡ Some w → before_of (record old { work = Some w }) ≡ before_of old
before_with old w e = ap (λ work. before_of (record old { work = work })) (sym e)

-- one of two things was done
pub either_did : (one other : Bool) (P : Type 0) → (one || other) ≡ true → (one ≡ true → P) → (one ≡ false → other ≡ true → P) → P
either_did true other P e f h = f refl
either_did false other P e f h = h refl e

pub neither_did : (one other : Bool) → (one || other) ≡ false → (one ≡ false) × (other ≡ false)
neither_did true other e = absurd cc
neither_did false other e = (refl, e)

module _ {D A B W : Type 0} (view : D → StoreView) (old : Session) (books books_new : StoreBooks D) (source : A) (clock : W) (p : AllPending view books books_new)
    (counts : ¬ (NoneCounts books_new)) where
  pub drained_waits : (new : Session) (why : Ended) (sink : B) → old.stopped ≡ Some why → new ≡ old → IsWaiting view old new books books_new source source sink sink clock clock
  drained_waits new why sink stopped same = record {
    still = record { shown = ap shown_by same; client = client_still view books books_new p; source_is = refl; sink_is = refl; clock_is = refl };
    looked = p;
    counts = counts;
    waits = λ e. let both : Some why ≡ None = sym stopped ∙ sym (ap (λ session. session.stopped) same) ∙ e in absurd cc;
  }

  pub worked_waits : (new : Session) (w : Work) (sink sink_new : B) → old.work ≡ Some w → sink_new ≡ sink → shown_by new ≡ shown_by (record old { work = Some w })
      → MayDoNothing new books_new → IsWaiting view old new books books_new source source sink sink_new clock clock
  worked_waits new w sink sink_new e same_sink shown nothing = record {
    still = record { shown = shown ∙ shown_with old w e; client = client_still view books books_new p; source_is = refl; sink_is = same_sink; clock_is = refl };
    looked = p;
    counts = counts;
    waits = λ running. nothing;
  }

module _ {D Table Owner : Type 0} (theory : Theory StoreValue ShardOp ShardReply StoreTask Table D Owner) where
  pub advanced_with : (old new : Session) (w : Work) (tables : List Table) (books : StoreBooks D) (tables_new : List Table) (books_new : StoreBooks D) → old.work ≡ Some w
      → HasAdvanced theory (record old { work = Some w }) new tables books tables_new books_new → HasAdvanced theory old new tables books tables_new books_new
  advanced_with old new w tables books tables_new books_new e h =
      subst (λ before. IsLess (before_of new) before
      ⊎ ((before_of new ≡ before) × ((HasTakenSome books books_new × (tables_new ≡ tables)) ⊎ HasTurnedSome theory tables books tables_new books_new)))
      (before_with old w e) h

  -- of what was still before a session when it rested
  pub advanced_from : (old mid new : Session) (tables : List Table) (books : StoreBooks D) (tables_new : List Table) (books_new : StoreBooks D) → before_of mid ≡ before_of old
      → HasAdvanced theory mid new tables books tables_new books_new → HasAdvanced theory old new tables books tables_new books_new
  advanced_from old mid new tables books tables_new books_new e h =
      subst (λ before. IsLess (before_of new) before
      ⊎ ((before_of new ≡ before) × ((HasTakenSome books books_new × (tables_new ≡ tables)) ⊎ HasTurnedSome theory tables books tables_new books_new)))
      e h

  -- turns of a client that stood so
  pub turns_from : (mid old : StoreBooks D) (tables tables_new : List Table) (new : StoreBooks D) (told : Turned) → mid ≡ old
      → TurnsBelow theory store_kind (length tables) told tables mid tables_new new → AsksOrTurns theory tables old tables_new new
  turns_from mid old tables tables_new new told same turns =
      inr (told, subst (λ b. TurnsBelow theory store_kind (length tables) told tables b tables_new new) same turns)

  -- a client that was not touched called nothing
  pub called_none : (tables : List Table) (books : StoreBooks D) → AsksOrTurns theory tables books tables books
  called_none tables books = inl (refl, record { keeps = keeps_none books; client = λ openings is. is })

  -- of the command at work, before any turn
  pub advanced_by : (old new : Session) (tables : List Table) (books books_new : StoreBooks D) → HasWorkedOn old new books books_new
      → HasAdvanced theory old new tables books tables books_new
  advanced_by old new tables books books_new (inl less) = inl less
  advanced_by old new tables books books_new (inr (same, took)) = inr (same, inl (took, refl))
