-- What holds while a trustee tells replies that came and begins launches, one after another.
use Rattle.std.proofs.Common.{◌≡◌, ℕ, ◌+◌, ◌<◌, ◌≤◌, List, [], length, inl, inr, refl, sym, ◌∙◌, ap, subst, arith, length-set}
use Rattle.std.specs.Prelude.{slice_get}
use Rattle.std.specs.declared.option.Option.TheVariants.{Some}
use Rattle.std.proofs.lemmas.Bool.{cases_eq}
use Rattle.std.proofs.lemmas.Option.{slice_get_within}
use Rattle.tm_seq.specs.Kind.{Kind}
use Rattle.tm_seq.specs.declared.kind.Event.TheVariants.{Begin, Reply}
use Rattle.tm_model.specs.declared.entry.Entry.{Entry}
use Rattle.tm_model.specs.State.{Start}
use Rattle.tm_latch.specs.declared.ticket.Ticket.{Ticket}
use Rattle.tm_latch.specs.Tickets.{first_of}
use Rattle.tm_state.specs.Launches.{Pending}
use Rattle.tm_state.specs.Resuming.{Makes, HasGoneOn, KeepsOn}
use Rattle.tm_state.specs.StateView.{StateView}
use Rattle.tm_state.specs.declared.made.Made.{Made}
use Rattle.tm_state.specs.declared.resumed.Resumed.{Resumed}
use Rattle.tm_trustee.specs.Serving.{AreTold}
use Rattle.tm_trustee.specs.Tasks.{TakesAt, HasAskers, IsToldAt, MayNote, Notes, IsGoingOn, GoesOnWith, SameCame, MadeMore}
use Rattle.tm_trustee.specs.declared.lane.Lane.{Lane}
use Rattle.tm_trustee.proofs.Elements.{same_element, there_as}
use Rattle.tm_trustee.proofs.GoingOn.{noted_many}
use Rattle.tm_trustee.proofs.GoingLoops as loops

module _ {V O R T : Type 0} where
  -- it went on from what it had at first
  pub record GoesFrom (kind : Kind V O R T) (number : ℕ) (held : List ℕ) (first now : Made V O R T) (h new : StateView V O R T)
      (lanes becomes : List (Lane V O R T)) : Type 0 where
    pub going : IsGoingOn V O R T kind number held now.entries.items new becomes
    pub goes : GoesOnWith kind number held first.entries.items now.entries.items h new lanes becomes
    pub made : MadeMore first now
    pub as_many : length becomes ≡ length lanes

  module _ (kind : Kind V O R T) (number : ℕ) (held : List ℕ) where
    pub from_first :
        (made : Made V O R T) (h : StateView V O R T) (lanes : List (Lane V O R T)) → IsGoingOn V O R T kind number held made.entries.items h lanes → GoesFrom kind number held made made h h lanes lanes
    from_first made h lanes going = record { going = going; goes = λ opening log ups are. are; made = loops.made_none made; as_many = refl }

    -- it went on from there
    pub from_on :
        (first mid last : Made V O R T) (h on new : StateView V O R T) (lanes mids becomes : List (Lane V O R T))
        → GoesFrom kind number held first mid h on lanes mids
        → GoesOnWith kind number held mid.entries.items last.entries.items on new mids becomes → MadeMore mid last → length becomes ≡ length mids
        → GoesFrom kind number held first last h new lanes becomes
    from_on first mid last h on new lanes mids becomes from then made many =
        let (opening, log, ups, are) = from.going in
        record {
          going = (opening, log, ups, then opening log ups are);
          goes = λ opening log ups are. then opening log ups (from.goes opening log ups are);
          made = loops.made_twice first mid last from.made made;
          as_many = many ∙ from.as_many;
        }

    -- what it has is named otherwise
    pub from_same :
        (first now last : Made V O R T) (h new on : StateView V O R T) (lanes becomes final : List (Lane V O R T))
        → GoesFrom kind number held first now h new lanes becomes → last ≡ now → on ≡ new → final ≡ becomes
        → GoesFrom kind number held first last h on lanes final
    from_same first now last h new on lanes becomes final from made state many =
        subst (λ m. GoesFrom kind number held first m h on lanes final) (sym made)
        (subst (λ s. GoesFrom kind number held first now h s lanes final) (sym state)
        (subst (λ v. GoesFrom kind number held first now h new lanes v) (sym many) from))

    pub has_askers :
        (made : Made V O R T) (h : StateView V O R T) (lanes : List (Lane V O R T)) (i : ℕ) → IsGoingOn V O R T kind number held made.entries.items h lanes → HasAskers i lanes
    has_askers made h lanes i (opening, log, ups, are) lane at =
        loops.enough_askers kind opening log made.entries.items ups number held h lanes are i lane at

    -- a launch was told the first reply that came at lane i
    module _ (i : ℕ) (launch : Ticket (Pending T)) (reply : R) (old : Made V O R T) (h : StateView V O R T) (lanes mids : List (Lane V O R T))
        (takes : TakesAt i launch reply lanes mids) where
      pub told_first : IsGoingOn V O R T kind number held old.entries.items h lanes → first_of launch.id h.launched ≡ Some launch
      told_first (opening, log, ups, are) =
          let (lane, mid, at, took, is) = takes in
          loops.is_first kind opening log old.entries.items ups number held h lanes are i lane mid launch reply at took

      pub told_begun : IsGoingOn V O R T kind number held old.entries.items h lanes → launch.task.awaits ≡ Start → ⊥
      told_begun (opening, log, ups, are) =
          let (lane, mid, at, took, is) = takes in
          loops.has_begun kind opening log old.entries.items ups number held h lanes are i lane mid launch reply at took

      module _ (made : Made V O R T) (new : StateView V O R T) (result : Resumed V O R T)
          (goes : (es : List (Entry V O R T)) × Makes es old made × HasGoneOn kind held launch (Reply reply) es result h new)
          (keeps : KeepsOn kind held old.entries.items made.entries.items h new) where
        pub told_note : IsGoingOn V O R T kind number held old.entries.items h lanes → MayNote number result mids
        told_note (opening, log, ups, are) =
            let (lane, mid, at, took, is) = takes in
            let (es, makes, gone) = goes in
            subst (λ v. MayNote number result v) (sym is)
            (loops.reply_noted kind opening log old.entries.items ups number held h lanes are i lane mid launch reply at took old made refl es makes new result gone keeps)

        module _ (final : List (Lane V O R T)) (notes : Notes number result mids final) where
          told_goes : GoesOnWith kind number held old.entries.items made.entries.items h new lanes final
          told_goes opening log ups are =
              let (lane, mid, at, took, is) = takes in
              let (es, makes, gone) = goes in
              loops.reply_goes kind opening log old.entries.items ups number held h lanes are i lane mid launch reply at took old made refl es makes new result gone keeps
              final (subst (λ v. Notes number result v final) is notes)

          told_made : IsGoingOn V O R T kind number held old.entries.items h lanes → MadeMore old made
          told_made (opening, log, ups, are) =
              let (lane, mid, at, took, is) = takes in
              let (es, makes, gone) = goes in
              loops.made_one old made es
              (loops.reply_resumes kind opening log old.entries.items ups number held h lanes are i lane mid launch reply at took old made refl es makes new result gone keeps)
              makes

          told_many : length final ≡ length lanes
          told_many =
              let (lane, mid, at, took, is) = takes in
              noted_many number result mids final notes ∙ ap (λ v. length v) is ∙ length-set lanes i mid

          pub from_told :
              (first : Made V O R T) (at_first : StateView V O R T) (firsts : List (Lane V O R T)) → GoesFrom kind number held first old at_first h firsts lanes
              → GoesFrom kind number held first made at_first new firsts final
          from_told first at_first firsts from =
              from_on first old made at_first h new firsts lanes final from told_goes (told_made from.going) told_many

          pub others_told : (firsts : List (Lane V O R T)) → length lanes ≡ length firsts → SameCame i firsts lanes → SameCame i firsts final
          others_told firsts many same =
              let (lane, mid, at, took, is) = takes in
              loops.taken_others number i result firsts lanes final mid many same (subst (λ v. Notes number result v final) is notes)

          pub fewer_left : loops.came_in (slice_get final i) < loops.came_in (slice_get lanes i)
          fewer_left =
              let (lane, mid, at, took, is) = takes in
              loops.taken_fewer number i result lanes final lane mid launch reply at took (subst (λ v. Notes number result v final) is notes)

    -- a launch that had not begun was told to
    module _ (old made : Made V O R T) (h new : StateView V O R T) (lanes : List (Lane V O R T)) (result : Resumed V O R T)
        (goes : (l : Ticket (Pending T)) × (es : List (Entry V O R T)) × (first_of l.id h.launched ≡ Some l) × (l.task.awaits ≡ Start) × Makes es old made × HasGoneOn kind held l Begin es result h new)
        (keeps : KeepsOn kind held old.entries.items made.entries.items h new) where
      pub begun_note : IsGoingOn V O R T kind number held old.entries.items h lanes → MayNote number result lanes
      begun_note (opening, log, ups, are) =
          let (l, es, first, start, makes, gone) = goes in
          loops.begin_noted kind opening log old.entries.items ups number held h lanes are l first start old made refl es makes new result gone keeps

      module _ (final : List (Lane V O R T)) (notes : Notes number result lanes final) where
        begun_goes : GoesOnWith kind number held old.entries.items made.entries.items h new lanes final
        begun_goes opening log ups are =
            let (l, es, first, start, makes, gone) = goes in
            loops.begin_goes kind opening log old.entries.items ups number held h lanes are l first start old made refl es makes new result gone keeps final notes

        begun_made : IsGoingOn V O R T kind number held old.entries.items h lanes → MadeMore old made
        begun_made (opening, log, ups, are) =
            let (l, es, first, start, makes, gone) = goes in
            loops.made_one old made es
            (loops.begin_resumes kind opening log old.entries.items ups number held h lanes are l first start old made refl es makes new result gone keeps)
            makes

        pub from_begun :
            (first : Made V O R T) (at_first : StateView V O R T) (firsts : List (Lane V O R T)) → GoesFrom kind number held first old at_first h firsts lanes
            → GoesFrom kind number held first made at_first new firsts final
        from_begun first at_first firsts from =
            from_on first old made at_first h new firsts lanes final from begun_goes (begun_made from.going) (noted_many number result lanes final notes)

  -- the replies that came at the lanes below i were told
  abbrev pub AreToldBelow : ℕ → List (Lane V O R T) → Type 0
  AreToldBelow i lanes = (k : ℕ) (lane : Lane V O R T) → k < i → slice_get lanes k ≡ Some lane → lane.came.items ≡ []

  pub same_came : (i : ℕ) (lanes : List (Lane V O R T)) → SameCame i lanes lanes
  same_came i lanes k was now at_was at_now ne = ap (λ (x : Lane V O R T). x.came.items) (same_element lanes k was now at_was at_now)

  -- the replies of the lanes below i + 1 were told, where those below i were and those at i
  pub told_next :
      (i : ℕ) (lanes becomes : List (Lane V O R T)) → length becomes ≡ length lanes
      → AreToldBelow i lanes → IsToldAt i becomes → SameCame i lanes becomes → AreToldBelow (i + 1) becomes
  told_next i lanes becomes many below here same k lane lt at =
      elim (cases_eq k i) [
        | inl e ↦ here lane (subst (λ n. slice_get becomes n ≡ Some lane) e at)
        | inr ne ↦
            let (was, at_was) = there_as becomes lanes k lane (sym many) at in
            same k was lane at_was at ne ∙ below k was (omega (arith, lt, ne)) at_was
      ]

  -- all were told, where those of all lanes were
  pub told_all : (i : ℕ) (lanes : List (Lane V O R T)) → length lanes ≤ i → AreToldBelow i lanes → AreTold lanes
  told_all i lanes all below k lane at =
      let within = slice_get_within lanes k lane at in
      below k lane (omega (arith, within, all)) at
