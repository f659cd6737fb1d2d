-- The trustee lays the slot of a batch in hand back, and lifts it again.
use Rattle.std.proofs.Common.{◌≡◌, ◌≢◌, ℕ, ◌+◌, ◌<◌, ◌==◌, Bool, false, true, List, [], ◌∷◌, length, slice_set, refl, sym, ◌∙◌, ap, subst, arith, length-set, eq-eqb, ne_eqb}
use Rattle.std.specs.declared.option.Option.TheVariants.{Some}
use mathlib.Core.Option.{some, none}
use mathlib.Core.Option as maybe
use lib.ListN.{get_elem?}
use Rattle.atomic_table.specs.Table.{State as TableState, step, takes, gives, Allows}
use Rattle.atomic_table.proofs.Lists.{set_here, set_else}
use Rattle.tm_seq.specs.Kind.{Kind}
use Rattle.tm_batch.specs.declared.message.Request.{Request}
use Rattle.tm_model.specs.State.{State}
use Rattle.tm_model.specs.Slots.{Taken, slot_of}
use Rattle.tm_model.specs.Good.{FullBox}
use Rattle.tm_pair.specs.Views.{BatchView, TrusteeView, hand_of}
use Rattle.tm_pair.specs.Moves.{core_after}
use Rattle.tm_pair.proofs.Standing.{is_in_hand, hand_at}
use Rattle.tm_toggle.specs.Contents.{IsClear}
use Rattle.tm_toggle.specs.Ruled.{s_of, trustee_in, IsHome, Course, Stands, Delegates}
use Rattle.tm_toggle.specs.Plays.{Sat, lays, lifts}
use Rattle.tm_toggle.specs.declared.content.Content.{Content}
use Rattle.tm_toggle.specs.declared.view.View.{View}
use Rattle.tm_toggle.proofs.Facts.{off, same_s, prefix_self}
use Rattle.tm_toggle.proofs.Keeps.{SameClients, SameElse, after_trustee, moved, loaded}

module _ {V O R T : Type 0} where
  abbrev lifted_to : View V O R T → ℕ → Content V O R T → Sat V O R T
  lifted_to v c y = (record v { up = c + 1 }, (c, y) ∷ [])

  -- what stands in the slot of a box that was taken
  laid_home :
      (held up : Bool) (home : maybe.Option (Content V O R T)) (box : FullBox V O R T) (b : List (Request V O R T)) (room : ℕ)
      → IsHome held up home box → box ≡ Taken b room → up ≡ false → (y : Content V O R T) × (home ≡ some y) × IsClear y
  laid_home held up home box b room h e down =
      let t : FullBox V O R T = Taken b room in
      subst (λ z. IsHome held z home t) down (subst (λ (x : FullBox V O R T). IsHome held up home x) e h)

  home_of :
      (held up : Bool) (home : maybe.Option (Content V O R T)) (box t : FullBox V O R T) (now : Bool)
      → box ≡ t → up ≡ now → IsHome held now home t → IsHome held up home box
  home_of held up home box t now e is h = subst (λ (x : FullBox V O R T). IsHome held up home x) (sym e) (subst (λ z. IsHome held z home t) (sym is) h)

module _ {V O R T : Type 0} (kind : Kind V O R T) (opening : State V O R T) where
  raised :
      (s : TableState (Content V O R T) (View V O R T)) (k : Course V O R T) (up' c id : ℕ) (v : View V O R T) (home : maybe.Option (Content V O R T))
      → Stands kind opening (core_after k.past) k s → get_elem? s.views id ≡ some v → v.trustee ≡ true → c < length s.homes
      → IsHome (k.held c) (up' == c + 1) home (slot_of (core_after k.past) c).box
      → ((d : ℕ) → d ≢ c → (k.up == d + 1) ≡ (up' == d + 1))
      → Delegates kind opening record { words = s.words; homes = slice_set s.homes c home; views = slice_set s.views id (record v { up = up' }) }
  unfolding SameClients SameElse
  raised s k up' c id v home h at all inside shown ups =
      let core = core_after k.past in
      let know = h.seats id v at in let own = know.log all in
      let k' : Course V O R T = record k { up = up' } in (
        k',
        moved kind opening s core core k k.past up' c s.words (slice_set s.homes c home) id (record v { up = up' }) h h.calls h.good refl
            (λ d ne. refl) ups (λ d l was. record { view = was.view; word = was.word; held = was.held; calls = was.calls })
            refl (length-set s.homes c home) (λ d ne. (refl, refl))
            (h.requests c inside, h.responses c inside)
            (λ d ne. set_else s.homes c d home ne)
            (home, set_here s.homes c home inside, shown)
            (record {
              noted = know.noted;
              opening_is = know.opening_is;
              log = λ _. record {
                number = own.number;
                view = own.view;
                words = own.words;
                up_is = refl;
                made = own.made;
                calls = own.calls;
              };
              own = λ z _. absurd (off (sym all ∙ z));
            })
            (λ j u apart there. after_trustee opening core core k k.past up' j u (λ d. (refl, refl)) (prefix_self core.log) (λ d front has. has)
            (λ z. apart (z ∙ sym own.number)) (h.seats j u there)),
      )

  lays_at :
      (slots id : ℕ) (v : View V O R T) (i c : ℕ) (y : Content V O R T) (hand : BatchView V O R T) → v.trustee ≡ true → c < slots
      → hand_of (trustee_in v.past.items) c ≡ Some hand → v.up ≡ c + 1 → IsClear y
      → Allows (Delegates kind opening) slots id (v, (c, y) ∷ []) i (λ n. n) (lays (step slots i 0 0 none) (v, (c, y) ∷ []))
  lays_at slots id v i c y hand all near has high clear s r deep at _ =
      let k = r.0 in let h = r.1 in
      let core = core_after k.past in
      let own = (h.seats id v at).log all in
      let inside : c < length s.homes = omega arith in
      let box = is_in_hand (slot_of core c).box hand (sym (hand_at core c) ∙ ap (λ (x : TrusteeView V O R T). hand_of x c) (sym own.view) ∙ has) in
      let up_is = own.up_is in (
        record v { up = 0 },
        gives,
        tt,
        loaded kind opening s i (slice_set s.homes c (some y)) (slice_set s.views id (record v { up = 0 }))
            (raised s k 0 c id v (some y) h at all inside
            (home_of (k.held c) (0 == c + 1) (some y) (slot_of core c).box (Taken hand.requests hand.room) false box (ne_eqb 0 (c + 1) (λ z. omega arith)) (y, refl, clear))
            (λ d other. ne_eqb k.up (d + 1) (λ z. other (omega arith)) ∙ sym (ne_eqb 0 (d + 1) (λ z. omega arith)))),
        refl,
      )

  pub lays_as :
      (slots id : ℕ) (m : Sat V O R T) (v : View V O R T) (i c : ℕ) (y : Content V O R T) (hand : BatchView V O R T) → m ≡ (v, (c, y) ∷ []) → v.trustee ≡ true → c < slots
      → hand_of (trustee_in v.past.items) c ≡ Some hand → v.up ≡ c + 1 → IsClear y
      → Allows (Delegates kind opening) slots id m i (λ n. n) (lays (step slots i 0 0 none) m)
  lays_as slots id m v i c y hand e all near has high clear =
      subst (λ (z : Sat V O R T). Allows (Delegates kind opening) slots id z i (λ n. n) (lays (step slots i 0 0 none) z)) (sym e)
      (lays_at slots id v i c y hand all near has high clear)

  lifts_at :
      (slots id : ℕ) (v : View V O R T) (i c : ℕ) (hand : BatchView V O R T) → v.trustee ≡ true → i ≡ s_of c → c < slots
      → hand_of (trustee_in v.past.items) c ≡ Some hand → v.up ≡ 0
      → Allows (Delegates kind opening) slots id (v, []) i (λ n. n) (lifts (step slots i 0 0 none) (v, []))
  lifts_at slots id v i c hand all is near has down s r deep at _ =
      let k = r.0 in let h = r.1 in
      let core = core_after k.past in
      let own = (h.seats id v at).log all in
      let inside : c < length s.homes = omega arith in
      let box = is_in_hand (slot_of core c).box hand (sym (hand_at core c) ∙ ap (λ (x : TrusteeView V O R T). hand_of x c) (sym own.view) ∙ has) in
      let up_is = own.up_is in
      let was = h.homes c inside in
      let home = laid_home (k.held c) (k.up == c + 1) was.0 (slot_of core c).box hand.requests hand.room was.2 box (ne_eqb k.up (c + 1) (λ z. omega arith)) in
      let y = home.0 in
      let w : View V O R T = record v { up = c + 1 } in (
        w,
        takes c y,
        was.1 ∙ ap some home.1,
        loaded kind opening s i (slice_set s.homes c none) (slice_set s.views id w)
            (raised s k (c + 1) c id v none h at all inside
            (home_of (k.held c) (c + 1 == c + 1) none (slot_of core c).box (Taken hand.requests hand.room) true box (eq-eqb (c + 1) (c + 1) refl) refl)
            (λ d other. ne_eqb k.up (d + 1) (λ z. omega arith) ∙ sym (ne_eqb (c + 1) (d + 1) (λ z. other (omega arith))))),
        λ d z. (y, ap (λ (o : ℕ). lifted_to v o y) (same_s c d (sym is ∙ z)), home.2),
      )

  pub lifts_as :
      (slots id : ℕ) (m : Sat V O R T) (i c : ℕ) (hand : BatchView V O R T) → m.1 ≡ [] → m.0.trustee ≡ true → i ≡ s_of c → c < slots
      → hand_of (trustee_in m.0.past.items) c ≡ Some hand → m.0.up ≡ 0
      → Allows (Delegates kind opening) slots id m i (λ n. n) (lifts (step slots i 0 0 none) m)
  lifts_as slots id m i c hand e all is near has down =
      subst (λ (z : List (ℕ × Content V O R T)). Allows (Delegates kind opening) slots id (m.0, z) i (λ n. n) (lifts (step slots i 0 0 none) (m.0, z))) (sym e)
      (lifts_at slots id m.0 i c hand all is near has down)
