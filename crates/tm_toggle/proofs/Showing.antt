-- A state that the rule allows shows one good core.
use Rattle.std.proofs.Common.{◌≡◌, ℕ, ◌+◌, ◌==◌, Bool, true, false, List, refl, sym, ◌∙◌, ap}
use mathlib.Core.Option.{some}
use mathlib.Core.Option as maybe
use lib.ListN.{get_elem?}
use Rattle.atomic_table.specs.Table.{State as TableState}
use Rattle.tm_seq.specs.Kind.{Kind}
use Rattle.tm_model.specs.State.{State}
use Rattle.tm_model.specs.Slots.{Empty, Asked, Taken, Answered, slot_of}
use Rattle.tm_model.specs.Good.{FullBox}
use Rattle.tm_pair.specs.Moves.{core_after}
use Rattle.tm_toggle.specs.Ruled.{IsHome, Course, Stands, Delegates}
use Rattle.tm_toggle.specs.OneCore.{StandsIn, ShowsOneCore}
use Rattle.tm_toggle.specs.declared.content.Content.{Content}
use Rattle.tm_toggle.specs.declared.view.View.{View}

module _ {V O R T : Type 0} where
  stands_in :
      (homes : List (maybe.Option (Content V O R T))) (c : ℕ) (held up : Bool) (home : maybe.Option (Content V O R T)) (box : FullBox V O R T)
      → get_elem? homes c ≡ some home → IsHome held up home box → StandsIn homes c box
  stands_in homes c held up home Empty at h = tt
  stands_in homes c held up home (Asked b room) at h = (h.0, at ∙ ap some h.1, h.2.0, h.2.1)
  stands_in homes c held up home (Taken b room) at h = tt
  stands_in homes c held up home (Answered a upto room) at h = (h.0, at ∙ ap some h.1, h.2.0)

  -- two seats of one place, or of the trustee, are one
  one_seat :
      (kind : Kind V O R T) (opening : State V O R T) (s : TableState (Content V O R T) (View V O R T)) (k : Course V O R T) → Stands kind opening (core_after k.past) k s
      → (role : Bool) (i j : ℕ) (u v : View V O R T) → get_elem? s.views i ≡ some u → get_elem? s.views j ≡ some v → u.note ≡ false → v.note ≡ false
      → u.trustee ≡ role → v.trustee ≡ role → u.place ≡ v.place → i ≡ j
  one_seat kind opening s k h true i j u v at there plain unnoted mine yours place = ((h.seats i u at).log mine).number ∙ sym ((h.seats j v there).log yours).number
  one_seat kind opening s k h false i j u v at there plain unnoted mine yours place =
      ((h.seats i u at).own mine plain).number ∙ ap k.seat place ∙ sym ((h.seats j v there).own yours unnoted).number

  pub shows : (kind : Kind V O R T) (opening : State V O R T) (s : TableState (Content V O R T) (View V O R T)) → Delegates kind opening s → ShowsOneCore kind opening s
  shows kind opening s r =
      let k = r.0 in let h = r.1 in
      let core = core_after k.past in (
        k.past,
        record {
          come = h.calls;
          good = h.good;
          places = h.places;
          requests = h.requests;
          responses = h.responses;
          slots = λ c l. let was = h.homes c l in stands_in s.homes c (k.held c) (k.up == c + 1) was.0 (slot_of core c).box was.1 was.2;
          clients = λ id v at mine plain. let o = (h.seats id v at).own mine plain in record { view = o.view; calls = o.calls };
          trustee = λ id v at all. let o = (h.seats id v at).log all in record { view = o.view; calls = o.calls };
          alone = λ i j u v at there plain unnoted role place. one_seat kind opening s k h v.trustee i j u v at there plain unnoted role refl place;
        },
      )
