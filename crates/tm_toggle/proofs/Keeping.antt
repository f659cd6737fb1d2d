-- What stays true of a side over a step.
use Rattle.std.proofs.Common.{inl, inr, get_or-set_same, get_or-set_other, ◌≡◌, ℕ, zero, suc, ◌-◌, ◌<◌, true, false, List, [], ◌∷◌, length, slice_index_or, slice_set, refl, sym, ◌∙◌, ap, subst, arith}
use Rattle.std.specs.Prelude.{vec_len}
use Rattle.std.specs.declared.option.Option.TheVariants.{None, Some}
use Rattle.std.specs.declared.option.Option.{Option as RustOption}
use Rattle.std.proofs.lemmas.List.{get_or_past}
use Rattle.std.proofs.lemmas.Bool.{cases_lt, cases_eq}
use Rattle.atomic_table.specs.Table.{rest, step}
use mathlib.Core.Option.{none}
use Rattle.tm_seq.specs.Kind.{Kind}
use Rattle.tm_batch.specs.declared.batch.Batch.{Batch}
use Rattle.tm_batch.specs.declared.message.AnswerBatch.{AnswerBatch}
use Rattle.tm_model.specs.declared.entry.Entry.{Entry}
use Rattle.tm_model.specs.State.{place_count}
use Rattle.tm_pair.specs.Views.{BatchView, ClientView, TrusteeView, hand_of}
use Rattle.tm_pair.specs.Sides.{IsGoodClient, IsGoodTrustee}
use Rattle.tm_pair.specs.Theory.{KeepsSides, KeepsClients}
use Rattle.tm_pair.specs.declared.moves.Move.{Move}
use Rattle.tm_pair.specs.declared.table.Collected.TheVariants.{Answers, Pending}
use Rattle.tm_toggle.specs.Contents.{batch_in, IsClear}
use Rattle.tm_toggle.specs.Ruled.{listed, bit, s_of, opening_in, client_in, trustee_in}
use Rattle.tm_toggle.specs.Plays.{Sat, asks, replies, HasPublished, HasCollected, HasTaken, HasReplied, publishes, AnswersAt, answers}
use Rattle.tm_toggle.specs.Shared.{opening_at, id_of, client_knows, trustee_knows, client_at, trustee_at, IsClientOf, IsTrusteeOf, shared_theory}
use Rattle.tm_toggle.specs.declared.content.Content.{Content}
use Rattle.tm_toggle.specs.declared.view.View.{View}
use Rattle.tm_toggle.specs.declared.sides.SharedClient.{SharedClient}
use Rattle.tm_toggle.specs.declared.sides.SharedTrustee.{SharedTrustee}
use Rattle.tm_toggle.specs.declared.shared.SharedTable.{SharedTable}
use Rattle.tm_toggle.proofs.Facts.{off, flips}

pub held : {A : Type 0} (l : List (ℕ × A)) (k : ℕ) (y : A) (more : List (ℕ × A)) → l ≡ (k, y) ∷ more → l ≡ (k, y) ∷ rest l
held {A} l k y more e = e ∙ ap (λ (z : List (ℕ × A)). (k, y) ∷ rest z) (sym e)

pub any_default : {A : Type 0} (l : List A) (i : ℕ) (a b : A) → i < length l → slice_index_or l i a ≡ slice_index_or l i b
any_default [] i a b h = absurd (omega arith)
any_default (x ∷ xs) zero a b h = refl
any_default (x ∷ xs) (suc i) a b h = any_default xs i a b (omega arith)

module _ {V O R T : Type 0} where
  -- a call at a client's side, and at the trustee's, that keeps the side
  pub keeps_sides :
      (kind : Kind V O R T) (table : SharedTable V O R T) (before after : SharedClient V O R T) → IsClientOf kind table after → KeepsSides (shared_theory kind) table table before after
  keeps_sides kind table before after mine = record {
    same = record { id = refl; key = refl };
    opening = refl;
    mine = mine;
    clients = λ other apart has. has;
    trustee = λ other has. has;
  }

  pub keeps_clients :
      (kind : Kind V O R T) (table : SharedTable V O R T) (after : SharedTrustee V O R T) → IsTrusteeOf kind table after → KeepsClients (shared_theory kind) table table after
  keeps_clients kind table after mine = record {
    same = record { id = refl; key = refl };
    opening = refl;
    mine = mine;
    clients = λ other has. has;
  }

  module _ (kind : Kind V O R T) (table : SharedTable V O R T) where
    -- a client's side after a step of its own
    stepped :
        (side new : SharedClient V O R T) (past : List (Move V O R T)) (carried : List (ℕ × Content V O R T)) → IsClientOf kind table side
        → new.seat.table_id ≡ side.seat.table_id → new.seat.me ≡ (record (client_knows side) { past = listed past }, carried) → new.place ≡ side.place
        → new.word ≡ bit (asks past (client_knows side).place)
        → (new.out ≡ false → ((client_in (client_knows side).place past).out ≡ None) × ((y : Content V O R T) × (carried ≡ (side.place, y) ∷ []) × IsClear y))
        → (new.out ≡ true → ((batch : BatchView V O R T) × ((client_in (client_knows side).place past).out ≡ Some batch)) × (carried ≡ []))
        → IsGoodClient kind (opening_in (client_knows side)) (client_in (client_knows side).place past)
        → IsClientOf kind table new
    stepped side new past carried k z e pl word free away good =
        let v = client_knows side in
        let seen : client_at new ≡ client_in v.place past = ap (λ (x : Sat V O R T). client_in x.0.place x.0.past.items) e in
        record {
          same = z ∙ k.same;
          opening_is = ap (λ (x : Sat V O R T). opening_in x.0) e ∙ k.opening_is;
          sized = k.sized;
          client = ap (λ (x : Sat V O R T). x.0.trustee) e ∙ k.client;
          plain = ap (λ (x : Sat V O R T). x.0.note) e ∙ k.plain;
          settled = ap (λ (x : Sat V O R T). x.0.settled) e ∙ k.settled;
          place = ap (λ (x : Sat V O R T). x.0.place) e ∙ k.place ∙ sym pl;
          in_range = subst (λ (n : ℕ). n < (id_of table).slots) (sym pl) k.in_range;
          word = word ∙ ap (λ (n : ℕ). bit (asks past n)) (k.place ∙ sym pl) ∙ ap (λ (x : Sat V O R T). bit (asks x.0.past.items new.place)) (sym e);
          free = λ o. let f = free o in (
            ap (λ (x : ClientView V O R T). x.out) seen ∙ f.0,
            (f.1.0, ap (λ (x : Sat V O R T). x.1) e ∙ f.1.1 ∙ ap (λ (n : ℕ). (n, f.1.0) ∷ []) (sym pl), f.1.2),
          );
          away = λ o. let f = away o in ((f.0.0, ap (λ (x : ClientView V O R T). x.out) seen ∙ f.0.1), ap (λ (x : Sat V O R T). x.1) e ∙ f.1);
          good = subst (λ o. IsGoodClient kind o (client_at new)) k.opening_is (subst (λ x. IsGoodClient kind (opening_in v) x) (sym seen) good);
        }

    pub published_side :
        (side new : SharedClient V O R T) (batch : Batch V O R T) (past : List (Move V O R T)) → IsClientOf kind table side
        → new.seat.table_id ≡ side.seat.table_id → new.seat.me ≡ (record (client_knows side) { past = listed past }, []) → new.place ≡ side.place
        → new.out ≡ true → new.word ≡ 1 - side.word
        → HasPublished kind (opening_in (client_knows side)) (client_knows side).place batch (client_knows side).past.items past
        → IsClientOf kind table new
    published_side side new batch past k z e pl out word h =
        let v = client_knows side in
        stepped side new past [] k z e pl
        (word ∙ ap (λ (n : ℕ). 1 - n) (k.word ∙ ap (λ (n : ℕ). bit (asks v.past.items n)) (sym k.place)) ∙ sym (flips (asks v.past.items v.place)) ∙ ap bit (sym h.word))
        (λ o. absurd (off (sym out ∙ o)))
        (λ _. ((record { requests = batch.requests.items; room = batch.room }, h.publishes.out), refl))
        h.good

    pub collected_side :
        (side new : SharedClient V O R T) (a : AnswerBatch V O R T) (y : Content V O R T) (past : List (Move V O R T)) → IsClientOf kind table side
        → new.seat.table_id ≡ side.seat.table_id → new.seat.me ≡ (record (client_knows side) { past = listed past }, (side.place, y) ∷ []) → IsClear y → new.place ≡ side.place
        → new.out ≡ false → new.word ≡ side.word
        → HasCollected kind (opening_in (client_knows side)) (client_knows side).place (Answers a) (client_knows side).past.items past
        → IsClientOf kind table new
    collected_side side new a y past k z e clear pl out word h =
        let v = client_knows side in
        stepped side new past ((side.place, y) ∷ []) k z e pl
        (word ∙ (k.word ∙ ap (λ (n : ℕ). bit (asks v.past.items n)) (sym k.place)) ∙ ap bit (sym h.word))
        (λ _. (h.collects.out, (y, refl, clear)))
        (λ o. absurd (off (sym o ∙ out)))
        h.good

    pub pending_side :
        (side new : SharedClient V O R T) (past : List (Move V O R T)) → IsClientOf kind table side
        → new.seat.table_id ≡ side.seat.table_id → new.seat.me ≡ (record (client_knows side) { past = listed past }, side.seat.me.1) → new.place ≡ side.place
        → side.out ≡ true → new.out ≡ true → new.word ≡ side.word
        → HasCollected kind (opening_in (client_knows side)) (client_knows side).place Pending (client_knows side).past.items past
        → IsClientOf kind table new
    pending_side side new past k z e pl was out word h =
        let v = client_knows side in
        stepped side new past side.seat.me.1 k z e pl
        (word ∙ (k.word ∙ ap (λ (n : ℕ). bit (asks v.past.items n)) (sym k.place)) ∙ ap bit (sym h.word))
        (λ o. absurd (off (sym out ∙ o)))
        (λ _. let o = h.collects.out in ((o.0, o.2), (k.away was).1))
        h.good

  pub told_published :
      (kind : Kind V O R T) (m n : Sat V O R T) (v : View V O R T) (y : Content V O R T) → m ≡ (v, (v.place, y) ∷ [])
      → publishes kind (step 0 0 0 0 none) m 0 n
      → (past : List (Move V O R T)) × (n ≡ (record v { past = listed past }, [])) × HasPublished kind (opening_in v) v.place (batch_in y) v.past.items past
  told_published kind m n v y e told = (subst (λ (z : Sat V O R T). publishes kind (step 0 0 0 0 none) z 0 n) e told) y refl

  -- what is in hand of a place is of a place of the table
  pub hand_below : (view : TrusteeView V O R T) (c : ℕ) (hand : BatchView V O R T) → hand_of view c ≡ Some hand → c < length view.hands
  hand_below view c hand e =
      elim (cases_lt c (length view.hands)) [
        | inl lt ↦ lt
        | inr ge ↦ let no : None ≡ Some hand = sym (get_or_past view.hands c None ge) ∙ e in absurd cc
      ]

  pub told_answered :
      (kind : Kind V O R T) (resumes : List (Entry V O R T)) (m n : Sat V O R T) (v : View V O R T) (c : ℕ) (y : Content V O R T) → m ≡ (v, (c, y) ∷ [])
      → answers kind resumes (step 0 (s_of c) 0 0 none) m 0 n → AnswersAt kind resumes c y (v, (c, y) ∷ []) n
  told_answered kind resumes m n v c y e told = (subst (λ (z : Sat V O R T). answers kind resumes (step 0 (s_of c) 0 0 none) z 0 n) e told) c y refl refl

  -- something was put into the one slot that a seat has
  pub put_in :
      (n k : Sat V O R T) (w : View V O R T) (c d : ℕ) (x y : Content V O R T) (l : List (ℕ × Content V O R T)) → l ≡ [] → n ≡ (w, (d, x) ∷ l)
      → k ≡ (n.0, (c, y) ∷ rest n.1) → k ≡ (w, (c, y) ∷ [])
  put_in n k w c d x y l none_else is put = put ∙ (λ j. ((is j).0, (c, y) ∷ rest (is j).1)) ∙ (λ j. (w, (c, y) ∷ none_else j))

  abbrev pub put_down : Sat V O R T → Sat V O R T
  put_down m = (record m.0 { up = 0 }, rest m.1)

  pub laid : (m : Sat V O R T) (w : View V O R T) (l : List (ℕ × Content V O R T)) → m ≡ (w, l) → put_down m ≡ put_down (w, l)
  laid m w l e = ap put_down e

  module _ (kind : Kind V O R T) (table : SharedTable V O R T) where
    -- the trustee's side after a step of its own
    pub stepped_trustee :
        (side new : SharedTrustee V O R T) (past : List (Move V O R T)) → IsTrusteeOf kind table side → new.seat.table_id ≡ side.seat.table_id
        → new.seat.me ≡ (record (trustee_knows side) { past = listed past; up = 0 }, []) → length new.words.items ≡ length side.words.items → vec_len new.words ≡ vec_len side.words
        → ((c : ℕ) → c < (id_of table).slots → slice_index_or new.words.items c 0 ≡ bit (replies past c))
        → IsGoodTrustee kind (opening_in (trustee_knows side)) (trustee_in past)
        → IsTrusteeOf kind table new
    stepped_trustee side new past k z e count len words good =
        let v = trustee_knows side in
        record {
          same = z ∙ k.same;
          opening_is = ap (λ (x : Sat V O R T). opening_in x.0) e ∙ k.opening_is;
          sized = k.sized;
          trustee = ap (λ (x : Sat V O R T). x.0.trustee) e ∙ k.trustee;
          plain = ap (λ (x : Sat V O R T). x.0.note) e ∙ k.plain;
          down = ap (λ (x : Sat V O R T). x.0.up) e;
          nothing = ap (λ (x : Sat V O R T). x.1) e;
          count = count ∙ k.count;
          len = len ∙ k.len;
          words = λ c l. words c l ∙ ap (λ (x : Sat V O R T). bit (replies x.0.past.items c)) (sym e);
          good = subst (λ o. IsGoodTrustee kind o (trustee_at new)) k.opening_is
              (subst (λ (x : Sat V O R T). IsGoodTrustee kind (opening_in v) (trustee_in x.0.past.items)) (sym e) good);
        }

    pub in_table : (side : SharedTrustee V O R T) (c : ℕ) → IsTrusteeOf kind table side → c < place_count (opening_at table).setup → c < (id_of table).slots
    in_table side c k lt = subst (λ n. c < n) (sym k.sized.slots) lt

    pub in_table_hand : (side : SharedTrustee V O R T) (c : ℕ) (hand : BatchView V O R T) → IsTrusteeOf kind table side → hand_of (trustee_at side) c ≡ Some hand → c < (id_of table).slots
    in_table_hand side c hand k has = in_table side c k (subst (λ n. c < n) k.good.hands (hand_below (trustee_at side) c hand has))

    pub word_at : (side : SharedTrustee V O R T) (c found : ℕ) → IsTrusteeOf kind table side → c < (id_of table).slots → found ≡ slice_index_or side.words.items c found
        → found ≡ bit (replies (trustee_knows side).past.items c)
    word_at side c found k lt is = is ∙ any_default side.words.items c found 0 (subst (λ n. c < n) (sym k.count) lt) ∙ k.words c lt

    pub taken_hand : (side : SharedTrustee V O R T) (c : ℕ) (batch : Batch V O R T) (past : List (Move V O R T)) → IsTrusteeOf kind table side → c < (id_of table).slots
        → HasTaken kind (opening_in (trustee_knows side)) c batch (trustee_knows side).past.items past
        → hand_of (trustee_in past) c ≡ Some (record { requests = batch.requests.items; room = batch.room })
    taken_hand side c batch past k lt h =
        ap (λ (l : List (RustOption (BatchView V O R T))). slice_index_or l c None) h.takes.hands
        ∙ get_or-set_same (trustee_at side).hands c (Some (record { requests = batch.requests.items; room = batch.room })) None
        (subst (λ n. c < n) (k.sized.slots ∙ sym k.good.hands) lt)

    -- the words after an answer
    pub words_set : (side : SharedTrustee V O R T) (c word : ℕ) (resumes : List (Entry V O R T)) (a : AnswerBatch V O R T) (past : List (Move V O R T)) → IsTrusteeOf kind table side
        → c < (id_of table).slots → word ≡ 1 - bit (replies (trustee_knows side).past.items c)
        → HasReplied kind (opening_in (trustee_knows side)) c resumes a (trustee_knows side).past.items past
        → (d : ℕ) → d < (id_of table).slots → slice_index_or (slice_set side.words.items c word) d 0 ≡ bit (replies past d)
    words_set side c word resumes a past k lt flip h d l =
        elim (cases_eq d c) [
          | inl e ↦ subst (λ z. slice_index_or (slice_set side.words.items c word) z 0 ≡ bit (replies past z)) (sym e)
              (get_or-set_same side.words.items c word 0 (subst (λ n. c < n) (sym k.count) lt) ∙ flip ∙ sym (flips (replies (trustee_knows side).past.items c)) ∙ ap bit (sym h.word))
          | inr ne ↦ get_or-set_other side.words.items c d word 0 ne ∙ k.words d l ∙ ap bit (sym (h.words d ne))
        ]

-- the slot that a seat took last
first_or : {A : Type 0} → A → List (ℕ × A) → A
first_or d [] = d
first_or d (x ∷ xs) = x.1

pub same_first : {A : Type 0} (l : List (ℕ × A)) (k j : ℕ) (x y : A) (more more' : List (ℕ × A)) → l ≡ (k, x) ∷ more → l ≡ (j, y) ∷ more' → x ≡ y
unfolding first_or
same_first l k j x y more more' e e' = ap (first_or x) (sym e ∙ e')
