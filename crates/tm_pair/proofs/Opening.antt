-- A table at first is one, and its sides are its.
use Rattle.std.proofs.Common.{◌≡◌, ℕ, ◌+◌, ◌<◌, List, [], ◌∷◌, ◌++◌, length, slice_index_or, inl, inr, refl, sym, ◌∙◌, ap, subst, arith, length-append}
use Rattle.std.proofs.Math.ListN.{length-replicate, get_or-replicate, get_or-append}
use Rattle.std.proofs.Math.Seq.{get_or-append_seam}
use Rattle.std.proofs.lemmas.Bool.{cases_eq}
use Rattle.tm_seq.specs.Kind.{Kind}
use Rattle.tm_model.specs.Opening.{IsBuildable}
use Rattle.tm_model.specs.Slots.{no_slot, slot_of, first_core}
use Rattle.tm_model.specs.Laws.{IsOpening, first_of}
use Rattle.tm_core.proofs.First.{first_is_good}
use Rattle.tm_pair.specs.SideViews.{client_of, trustee_of}
use Rattle.tm_pair.specs.Moves.{core_after}
use Rattle.tm_pair.specs.Places.{IsNewPlace}
use Rattle.tm_pair.specs.Shown.{ShowsCore}
use Rattle.tm_pair.specs.Plain.{opening_at, core_at, IsTable, plain_theory}
use Rattle.tm_pair.specs.Theory.{IsNewTable}
use Rattle.tm_pair.specs.Opened.{AreNewPlaces, IsNewClient, AreNewClients}
use Rattle.tm_pair.specs.declared.moves.Move.TheVariants.{Open}
use Rattle.tm_pair.specs.declared.place.Place.{Place}
use Rattle.tm_pair.specs.declared.plain.PlainTable.{PlainTable}
use Rattle.tm_pair.specs.declared.plain.PlainClient.{PlainClient}
use Rattle.tm_pair.specs.declared.plain.PlainTrustee.{PlainTrustee}
use Rattle.tm_pair.proofs.Calling.{first_client, first_trustee}
use Rattle.tm_pair.proofs.Owing.{is_client, is_trustee}

module _ {V O R T : Type 0} where
  pub no_places : (places : List (Place V O R T)) → places ≡ [] → AreNewPlaces places
  unfolding AreNewPlaces
  no_places places e = rw e (λ c place lt is. absurd (omega (arith, lt)))

  pub one_more_place :
      (old : List (Place V O R T)) (place : Place V O R T) (new : List (Place V O R T)) → new ≡ old ++ place ∷ [] → AreNewPlaces old → IsNewPlace place
      → AreNewPlaces new
  unfolding AreNewPlaces
  one_more_place old place new e all own = rw e (λ c d lt is.
      elim (cases_eq c (length old)) [
        | inl at ↦
            let there : d ≡ place = is ∙ ap (λ k. slice_index_or (old ++ place ∷ []) k d) at ∙ get_or-append_seam old place [] d in
            subst (λ p. IsNewPlace p) (sym there) own
        | inr ne ↦
            let before : c < length old = omega (arith, lt, length-append old (place ∷ []), ne) in
            all c d before (is ∙ get_or-append old (place ∷ []) d c before)
      ])

  pub no_clients : (places : ℕ) (sides : List (PlainClient V O R T)) → sides ≡ [] → AreNewClients places sides
  unfolding AreNewClients
  no_clients places sides e = rw e (λ c side lt is. absurd (omega (arith, lt)))

  pub one_more_client :
      (places : ℕ) (old : List (PlainClient V O R T)) (side : PlainClient V O R T) (new : List (PlainClient V O R T)) → new ≡ old ++ side ∷ []
      → AreNewClients places old → IsNewClient places (length old) side → AreNewClients places new
  unfolding AreNewClients
  one_more_client places old side new e all own = rw e (λ c d lt is.
      elim (cases_eq c (length old)) [
        | inl at ↦
            let there : d ≡ side = is ∙ ap (λ k. slice_index_or (old ++ side ∷ []) k d) at ∙ get_or-append_seam old side [] d in
            subst (λ k. IsNewClient places k d) (sym at) (subst (λ s. IsNewClient places (length old) s) (sym there) own)
        | inr ne ↦
            let before : c < length old = omega (arith, lt, length-append old (side ∷ []), ne) in
            all c d before (is ∙ get_or-append old (side ∷ []) d c before)
      ])

  new_shows : (places : List (Place V O R T)) (count : ℕ) → length places ≡ count → AreNewPlaces places → ShowsCore places (first_core count)
  unfolding AreNewPlaces
  new_shows places count many new = record {
    count = length-replicate count no_slot ∙ sym many;
    slots = λ c place lt is.
        let own = new c place lt is in
        rw (get_or-replicate count c no_slot no_slot (subst (λ n. c < n) many lt))
        (record { request_word = own.request_word; response_word = own.response_word; box = rw own.content tt });
  }

  module _ (kind : Kind V O R T) (table : PlainTable V O R T) where
    is_table :
        IsBuildable table.config table.first.items → table.number < table.config.trustees → table.past.items ≡ Open (table.config.clients + table.number) ∷ []
        → length table.places.items ≡ table.config.clients + table.number → AreNewPlaces table.places.items → IsTable kind table
    is_table buildable number past count new =
        let core : core_at table ≡ first_core (table.config.clients + table.number) = ap (λ l. core_after l) past in
        let opens : IsOpening (opening_at table) = (table.number, table.config, table.first.items, buildable, number, refl) in
        record {
          buildable = buildable;
          number = number;
          good = rw core (first_is_good kind (opening_at table) opens);
          shows = rw core (new_shows table.places.items _ count new);
        }

    pub opened :
        (clients : List (PlainClient V O R T)) (trustee : PlainTrustee V O R T) → IsBuildable table.config table.first.items
        → table.number < table.config.trustees → table.past.items ≡ Open (table.config.clients + table.number) ∷ []
        → length table.places.items ≡ table.config.clients + table.number → AreNewPlaces table.places.items
        → length clients ≡ table.config.clients + table.number → AreNewClients (table.config.clients + table.number) clients
        → trustee.past.items ≡ Open (table.config.clients + table.number) ∷ []
        → IsNewTable (plain_theory kind) (opening_at table) table clients trustee × (core_at table ≡ first_of (opening_at table))
    unfolding AreNewClients
    opened clients trustee buildable number past count new many sides own =
        let places = table.config.clients + table.number in
        let is = is_table buildable number past count new in
        let core : core_at table ≡ first_core places = ap (λ l. core_after l) past in
        let its : core_after trustee.past.items ≡ first_core places = ap (λ l. core_after l) own in (
          record {
            opens = refl;
            count = many;
            clients_are = λ c side lt at.
                let has = sides c side lt at in
                let within : c < places = subst (λ n. c < n) many lt in
                let knows : core_after side.past.items ≡ first_core places = ap (λ l. core_after l) has.past in
                record {
                  mine = is_client kind table is side (subst (λ k. k < places) (sym has.place) within)
                      (ap (λ k. client_of side.place (slot_of k side.place)) (knows ∙ sym core));
                  view = ap (λ k. client_of k (slot_of (core_after side.past.items) k)) has.place
                      ∙ ap (λ k. client_of c (slot_of k c)) knows ∙ first_client places c within;
                };
            mine = is_trustee kind table is trustee (ap (λ k. trustee_of k) (its ∙ sym core));
            view = ap (λ k. trustee_of k) its ∙ first_trustee places;
          },
          core,
        )
