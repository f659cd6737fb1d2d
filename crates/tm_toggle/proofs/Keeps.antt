-- A step that changes one place of the core keeps the rule.
use Rattle.std.proofs.Common.{◌≡◌, ◌≢◌, ℕ, ◌+◌, ◌*◌, ◌<◌, ◌≤◌, ◌==◌, Bool, List, length, slice_index_or, slice_set, inl, inr, ⊎_elim, sym, ◌∙◌, ap, subst}
use Rattle.std.proofs.lemmas.Bool.{cases_eq}
use mathlib.Core.Option.{some, none}
use mathlib.Core.Option as maybe
use lib.ListN.{get_elem?}
use lib.Seq.{set-get_or}
use Rattle.atomic_table.specs.Table.{State as TableState}
use Rattle.atomic_table.proofs.Lists.{at_set}
use Rattle.tm_seq.specs.Kind.{Kind}
use Rattle.tm_model.specs.State.{State}
use Rattle.tm_model.specs.Lists.{IsPrefix}
use Rattle.tm_model.specs.Slots.{slot_of, first_core}
use Rattle.tm_model.specs.Good.{FullSlot, FullCore, IsGood}
use Rattle.tm_pair.specs.SideViews.{client_of, trustee_of}
use Rattle.tm_pair.specs.Moves.{core_after}
use Rattle.tm_pair.specs.declared.moves.Move.{Move}
use Rattle.tm_toggle.specs.Ruled.{r_of, s_of, bit, IsByClient, IsByTrustee, AreOfOthers, HasAll, HaveCome, IsHome, Course, IsUntouched, Knows, Stands, Delegates}
use Rattle.tm_toggle.specs.declared.content.Content.{Content}
use Rattle.tm_toggle.specs.declared.view.View.{View}
use Rattle.tm_toggle.proofs.Facts.{prefix_on}

module _ {V O R T : Type 0} where
  -- what a step leaves of all clients, and of all places but p
  unfoldable pub SameClients : FullCore V O R T → FullCore V O R T → Type 0
  SameClients core core' = (d : ℕ) → (client_of d (slot_of core' d) ≡ client_of d (slot_of core d)) × ((slot_of core' d).request_word ≡ (slot_of core d).request_word)

  unfoldable pub SameElse : ℕ → FullCore V O R T → FullCore V O R T → Type 0
  SameElse p core core' = (d : ℕ) → d ≢ p → slot_of core' d ≡ slot_of core d

  -- what the clients' seats know, after a step of the trustee
  pub after_trustee :
      (opening : State V O R T) (core core' : FullCore V O R T) (k : Course V O R T) (past' : List (Move V O R T)) (up' j : ℕ) (u : View V O R T)
      → SameClients core core' → IsPrefix core.log core'.log
      → ((c : ℕ) (front : List (Move V O R T)) → HasAll (IsByClient c) front k.past → HasAll (IsByClient c) front past')
      → j ≢ 0 → Knows opening core k j u → Knows opening core' (record k { past = past'; up = up' }) j u
  unfolding SameClients
  after_trustee opening core core' k past' up' j u same longer calls apart know = record {
    noted = prefix_on u.noted.items core.log core'.log know.noted longer;
    opening_is = know.opening_is;
    log = λ t. absurd (apart (know.log t).number);
    own = λ t n. let o = know.own t n in record {
      number = o.number;
      inside = o.inside;
      view = o.view ∙ sym (same u.place).0;
      word = o.word ∙ sym (same u.place).1;
      settled = o.settled;
      calls = calls u.place u.past.items o.calls;
    };
  }

  -- what the other seats know, after a step of the client of place p
  pub after_client :
      (opening : State V O R T) (core core' : FullCore V O R T) (k : Course V O R T) (past' : List (Move V O R T)) (p j : ℕ) (u : View V O R T)
      → SameElse p core core' → IsPrefix core.log core'.log → trustee_of core' ≡ trustee_of core
      → ((d : ℕ) → (slot_of core' d).response_word ≡ (slot_of core d).response_word)
      → ((c : ℕ) (front : List (Move V O R T)) → c ≢ p → HasAll (IsByClient c) front k.past → HasAll (IsByClient c) front past')
      → ((front : List (Move V O R T)) → HasAll IsByTrustee front k.past → HasAll IsByTrustee front past')
      → j ≢ k.seat p → Knows opening core k j u → Knows opening core' (record k { past = past' }) j u
  unfolding SameElse
  after_client opening core core' k past' p j u else longer same words calls log_calls apart know = record {
    noted = prefix_on u.noted.items core.log core'.log know.noted longer;
    opening_is = know.opening_is;
    log = λ t. let o = know.log t in record {
      number = o.number;
      view = o.view ∙ sym same;
      words = λ c. o.words c ∙ sym (words c);
      up_is = o.up_is;
      made = o.made;
      calls = log_calls u.past.items o.calls;
    };
    own = λ t n. let o = know.own t n in let ne : u.place ≢ p = λ z. apart (o.number ∙ ap k.seat z) in let e = else u.place ne in record {
      number = o.number;
      inside = o.inside;
      view = o.view ∙ sym (ap (λ (x : FullSlot V O R T). client_of u.place x) e);
      word = o.word ∙ sym (ap (λ (x : FullSlot V O R T). x.request_word) e);
      settled = o.settled;
      calls = calls u.place u.past.items ne o.calls;
    };
  }

  -- a place whose seat is not made stays so
  pub untouched_on :
      (core core' : FullCore V O R T) (k : Course V O R T) (past' : List (Move V O R T)) (up' c : ℕ) → client_of c (slot_of core' c) ≡ client_of c (slot_of core c)
      → (slot_of core' c).request_word ≡ (slot_of core c).request_word → AreOfOthers (IsByClient c) past'
      → IsUntouched core k c → IsUntouched core' (record k { past = past'; up = up' }) c
  untouched_on core core' k past' up' c view word calls was = record { view = view ∙ was.view; word = word ∙ was.word; held = was.held; calls = calls }

  module _ (kind : Kind V O R T) (opening : State V O R T) where
    -- a change at place p
    pub moved :
        (s : TableState (Content V O R T) (View V O R T)) (core core' : FullCore V O R T) (k : Course V O R T) (past' : List (Move V O R T)) (up' p : ℕ)
        (ws : List ℕ) (hs : List (maybe.Option (Content V O R T))) (id : ℕ) (w : View V O R T)
        → Stands kind opening core k s → HaveCome past' (first_core 0) → IsGood kind opening core' → length core'.slots ≡ length core.slots
        → SameElse p core core' → ((d : ℕ) → d ≢ p → (k.up == d + 1) ≡ (up' == d + 1))
        → ((c : ℕ) → k.made ≤ c → IsUntouched core k c → IsUntouched core' (record k { past = past'; up = up' }) c)
        → length ws ≡ length s.words → length hs ≡ length s.homes
        → ((d : ℕ) → d ≢ p → (slice_index_or ws (r_of d) 0 ≡ slice_index_or s.words (r_of d) 0) × (slice_index_or ws (s_of d) 0 ≡ slice_index_or s.words (s_of d) 0))
        → (slice_index_or ws (r_of p) 0 ≡ bit (slot_of core' p).request_word) × (slice_index_or ws (s_of p) 0 ≡ bit (slot_of core' p).response_word)
        → ((d : ℕ) → d ≢ p → get_elem? hs d ≡ get_elem? s.homes d)
        → (home : maybe.Option (Content V O R T)) × (get_elem? hs p ≡ some home) × IsHome (k.held p) (up' == p + 1) home (slot_of core' p).box
        → Knows opening core' (record k { past = past'; up = up' }) id w
        → ((j : ℕ) (u : View V O R T) → j ≢ id → get_elem? s.views j ≡ some u → Knows opening core' (record k { past = past'; up = up' }) j u)
        → Stands kind opening core' (record k { past = past'; up = up' }) record { words = ws; homes = hs; views = slice_set s.views id w }
    unfolding SameElse
    moved s core core' k past' up' p ws hs id w h come good len else ups later as_wide as_deep words words_p homes homes_p mine others =
        let n = length s.homes in
        let k' : Course V O R T = record k { past = past'; up = up' } in
        let back : (c : ℕ) → c < length hs → c < n = λ c l. subst (λ (z : ℕ). c < z) as_deep l in
        record {
          opens = h.opens;
          calls = come;
          good = good;
          places = len ∙ h.places ∙ sym as_deep;
          wide = as_wide ∙ h.wide ∙ ap (λ (z : ℕ). 32 * z + 48) (sym as_deep);
          few = subst (λ (z : ℕ). k.made ≤ z) (sym as_deep) h.few;
          requests = λ c l. elim (cases_eq c p) [
            | inl e ↦ subst (λ d. slice_index_or ws (r_of d) 0 ≡ bit (slot_of core' d).request_word) (sym e) words_p.0
            | inr ne ↦ (words c ne).0 ∙ h.requests c (back c l) ∙ ap (λ (x : FullSlot V O R T). bit x.request_word) (sym (else c ne))
          ];
          responses = λ c l. elim (cases_eq c p) [
            | inl e ↦ subst (λ d. slice_index_or ws (s_of d) 0 ≡ bit (slot_of core' d).response_word) (sym e) words_p.1
            | inr ne ↦ (words c ne).1 ∙ h.responses c (back c l) ∙ ap (λ (x : FullSlot V O R T). bit x.response_word) (sym (else c ne))
          ];
          homes = λ c l. elim (cases_eq c p) [
            | inl e ↦ subst (λ d. (home : maybe.Option (Content V O R T)) × (get_elem? hs d ≡ some home) × IsHome (k.held d) (up' == d + 1) home (slot_of core' d).box) (sym e) homes_p
            | inr ne ↦ let was = h.homes c (back c l) in (
              was.0,
              homes c ne ∙ was.1,
              subst (λ (x : FullSlot V O R T). IsHome (k.held c) (up' == c + 1) was.0 x.box) (sym (else c ne))
                  (subst (λ (x : Bool). IsHome (k.held c) x was.0 (slot_of core c).box) (ups c ne) was.2),
            )
          ];
          later = λ c l. later c l (h.later c l);
          seats = λ j u e. ⊎_elim (λ (t : (j ≡ id) × (w ≡ u)). subst (λ (z : ℕ × View V O R T). Knows opening core' k' z.0 z.1) (λ i. (sym t.0 i, t.1 i)) mine)
              (λ (t : (j ≢ id) × (get_elem? s.views j ≡ some u)). others j u t.0 t.1) (at_set s.views id j w u e);
        }

    pub loaded : (s : TableState (Content V O R T) (View V O R T)) (i : ℕ) (hs : List (maybe.Option (Content V O R T))) (vs : List (View V O R T))
        → Delegates kind opening record { words = s.words; homes = hs; views = vs }
        → Delegates kind opening record { words = slice_set s.words i (slice_index_or s.words i 0); homes = hs; views = vs }
    loaded s i hs vs r = subst (λ (z : List ℕ). Delegates kind opening record { words = z; homes = hs; views = vs }) (sym (set-get_or s.words i 0)) r

    -- a core by a path
    pub delegates : (k : Course V O R T) (core : FullCore V O R T) (s : TableState (Content V O R T) (View V O R T))
        → core_after k.past ≡ core → Stands kind opening core k s → Delegates kind opening s
    delegates k core s e h = (k, subst (λ c. Stands kind opening c k s) (sym e) h)
