-- A note of what a seat has seen, and what it tells the seat that takes it in.
use Rattle.std.proofs.Common.{◌≡◌, ◌≢◌, ℕ, ◌<◌, true, false, List, [], ◌∷◌, ◌++◌, length, slice_index_or, slice_set, ⊎_elim, refl, sym, ◌∙◌, ap, subst, arith}
use mathlib.Core.Option.{some, none}
use lib.ListN.{get_elem?}
use lib.Seq.{set-get_or}
use Rattle.atomic_table.specs.Table.{State as TableState, step, keeps, Allows, Splits, Joins}
use Rattle.atomic_table.proofs.Lists.{at_set, set_else, set_again}
use Rattle.tm_seq.specs.Kind.{Kind}
use Rattle.tm_model.specs.declared.entry.Entry.{Entry}
use Rattle.tm_model.specs.State.{State}
use Rattle.tm_model.specs.Lists.{IsPrefix}
use Rattle.tm_model.specs.Slots.{slot_of}
use Rattle.tm_model.specs.Good.{FullCore}
use Rattle.tm_core.proofs.Agreeing.{fronts_agree}
use Rattle.tm_pair.specs.Views.{ClientView, TrusteeView}
use Rattle.tm_pair.specs.Moves.{core_after}
use Rattle.tm_toggle.specs.Ruled.{client_in, trustee_in, Course, Knows, Stands, Delegates}
use Rattle.tm_toggle.specs.Plays.{Sat, note_of, noted, spent, Compares, compares, follows}
use Rattle.tm_toggle.specs.declared.content.Content.{Content}
use Rattle.tm_toggle.specs.declared.view.View.{View}
use Rattle.tm_toggle.proofs.Facts.{off, prefix_self}
use Rattle.tm_toggle.proofs.Starting.{at_end}

module _ {V O R T : Type 0} (kind : Kind V O R T) (opening : State V O R T) where
  -- a note of a front of the log
  notes :
      (s : TableState (Content V O R T) (View V O R T)) (id : ℕ) (v : View V O R T) (log : List (Entry V O R T)) → Delegates kind opening s → get_elem? s.views id ≡ some v
      → ((core : FullCore V O R T) → ((k : Course V O R T) × (core ≡ core_after k.past) × Stands kind opening core k s) → IsPrefix log core.log)
      → Delegates kind opening record { words = s.words; homes = s.homes; views = slice_set s.views id v ++ note_of v log ∷ [] }
  notes s id v log r at begins =
      let k = r.0 in let h = r.1 in
      let core = core_after k.past in (
        k,
        record {
          opens = h.opens;
          calls = h.calls;
          good = h.good;
          places = h.places;
          wide = h.wide;
          few = h.few;
          requests = h.requests;
          responses = h.responses;
          homes = h.homes;
          later = h.later;
          seats = λ j u there. ⊎_elim
              (λ (old : get_elem? (slice_set s.views id v) j ≡ some u). h.seats j u (subst (λ (l : List (View V O R T)). get_elem? l j ≡ some u) (set_again s.views id v at) old))
              (λ (new : (j ≡ length (slice_set s.views id v)) × (note_of v log ≡ u)). subst (λ (z : View V O R T). Knows opening core k j z) new.1 (record {
                noted = begins core (k, refl, h);
                opening_is = λ n. absurd (off n);
                log = λ z. absurd (off (sym z));
                own = λ _ n. absurd (off n);
              }))
              (at_end (slice_set s.views id v) (note_of v log) u j there);
        },
      )

  client_notes : (id : ℕ) (v : View V O R T) → v.trustee ≡ false → v.note ≡ false → Splits (Delegates kind opening) id v v (note_of v (client_in v.place v.past.items).seen)
  client_notes id v mine plain s r at =
      notes s id v (client_in v.place v.past.items).seen r at (λ core t.
      let k = t.0 in let h = t.2 in
      let own = (h.seats id v at).own mine plain in
      let few = h.few in let low = own.inside in
      let lt : v.place < length core.slots = subst (λ n. v.place < n) (sym h.places) (omega arith) in
      subst (λ l. IsPrefix l core.log) (sym (ap (λ (x : ClientView V O R T). x.seen) own.view)) (h.good.slots.slots v.place lt).seen.prefix)

  trustee_notes : (id : ℕ) (v : View V O R T) → v.trustee ≡ true → Splits (Delegates kind opening) id v v (note_of v (trustee_in v.past.items).log)
  trustee_notes id v all s r at =
      notes s id v (trustee_in v.past.items).log r at (λ core t.
      let own = (t.2.seats id v at).log all in
      subst (λ l. IsPrefix l core.log) (sym (ap (λ (x : TrusteeView V O R T). x.log) own.view)) (prefix_self core.log))

  pub client_notes_as : (id : ℕ) (m : Sat V O R T) → m.0.trustee ≡ false → m.0.note ≡ false → Splits (Delegates kind opening) id m.0 m.0 (note_of m.0 (client_in m.0.place m.0.past.items).seen)
  client_notes_as id m mine plain = client_notes id m.0 mine plain

  pub trustee_notes_as : (id : ℕ) (m : Sat V O R T) → m.0.trustee ≡ true → Splits (Delegates kind opening) id m.0 m.0 (note_of m.0 (trustee_in m.0.past.items).log)
  trustee_notes_as id m all = trustee_notes id m.0 all

  -- a seat takes a note in
  pub joins : (id : ℕ) (v : View V O R T) (other : ℕ) (w : View V O R T) → Joins (Delegates kind opening) id v other w (noted v w) spent
  joins id v other w s r at apart there =
      let k = r.0 in let h = r.1 in
      let core = core_after k.past in
      let both = noted v w in
      let know = h.seats id v at in
      let told : IsPrefix w.noted.items core.log = (h.seats other w (sym (set_else s.views id other both apart) ∙ there)).noted in (
        k,
        record {
          opens = h.opens;
          calls = h.calls;
          good = h.good;
          places = h.places;
          wide = h.wide;
          few = h.few;
          requests = h.requests;
          responses = h.responses;
          homes = h.homes;
          later = h.later;
          seats = λ j u e. ⊎_elim
              (λ (t : (j ≡ other) × (spent ≡ u)). subst (λ (z : View V O R T). Knows opening core k j z) t.1 (record {
                noted = (core.log, refl);
                opening_is = λ n. absurd (off n);
                log = λ z. absurd (off (sym z));
                own = λ _ n. absurd (off n);
              }))
              (λ (t : (j ≢ other) × (get_elem? (slice_set s.views id both) j ≡ some u)). ⊎_elim
              (λ (q : (j ≡ id) × (both ≡ u)). subst (λ (z : ℕ × View V O R T). Knows opening core k z.0 z.1) (λ i. (sym q.0 i, q.1 i)) (record {
                noted = told;
                opening_is = know.opening_is;
                log = λ z. let o = know.log z in record { number = o.number; view = o.view; words = o.words; up_is = o.up_is; made = o.made; calls = o.calls };
                own = λ z y. let o = know.own z y in record {
                  number = o.number;
                  inside = o.inside;
                  view = o.view;
                  word = o.word;
                  settled = o.settled;
                  calls = o.calls;
                };
              }))
              (λ (q : (j ≢ id) × (get_elem? s.views j ≡ some u)). h.seats j u q.1)
              (at_set s.views id j both u t.1))
              (at_set (slice_set s.views id both) other j spent u e);
        },
      )

  -- a load that changes nothing
  unmoved : (s : TableState (Content V O R T) (View V O R T)) (i id : ℕ) (v : View V O R T) → get_elem? s.views id ≡ some v → Delegates kind opening s
      → Delegates kind opening record { words = slice_set s.words i (slice_index_or s.words i 0); homes = s.homes; views = slice_set s.views id v }
  unmoved s i id v at r =
      subst (λ (z : List ℕ × List (View V O R T)). Delegates kind opening record { words = z.0; homes = s.homes; views = z.1 })
      (λ j. (sym (set-get_or s.words i 0) j, sym (set_again s.views id v at) j)) r

  -- a load tells a client what the rule says of the log that it noted
  pub compares_as : (slots id : ℕ) (m : Sat V O R T) (i : ℕ) → m.0.trustee ≡ false → m.0.note ≡ false
      → Allows (Delegates kind opening) slots id m i (λ n. n) (compares (step slots i 0 0 none) m)
  compares_as slots id m i mine plain s r deep at _ =
      let v = m.0 in
      let k = r.0 in let h = r.1 in
      let core = core_after k.past in let p = v.place in
      let know = h.seats id v at in
      let own = know.own mine plain in
      let few = h.few in let low = own.inside in
      let lt : p < length core.slots = subst (λ n. p < n) (sym h.places) (omega arith) in
      let seen = (h.good.slots.slots p lt).seen.prefix in
      let agree = fronts_agree kind opening core (slot_of core p).seen v.noted.items p h.good seen know.noted lt in
      let back = fronts_agree kind opening core v.noted.items (slot_of core p).seen p h.good know.noted seen lt in (
        v,
        keeps,
        tt,
        unmoved s i id v at r,
        (
          refl,
          subst (λ (x : ClientView V O R T). Compares p x.seen x.sent v.noted.items) (sym own.view) (agree.0, back.2),
        ),
      )

  -- and the trustee
  pub follows_as : (slots id : ℕ) (m : Sat V O R T) (i : ℕ) → m.0.trustee ≡ true → Allows (Delegates kind opening) slots id m i (λ n. n) (follows (step slots i 0 0 none) m)
  follows_as slots id m i all s r deep at _ =
      let v = m.0 in
      let know = r.1.seats id v at in
      let own = know.log all in (
        v,
        keeps,
        tt,
        unmoved s i id v at r,
        (refl, subst (λ (x : TrusteeView V O R T). IsPrefix v.noted.items x.log) (sym own.view) know.noted),
      )
