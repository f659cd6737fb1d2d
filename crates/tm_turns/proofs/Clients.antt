-- Calls at each client alone: what they keep of the whole.
use Rattle.std.proofs.Common.{◌≡◌, ◌≢◌, ℕ, ◌+◌, ◌≤◌, ◌<◌, inl, inr, length, length-set, refl, sym, ◌∙◌, ap, subst, arith}
use Rattle.std.specs.Prelude.{slice_get, slice_set, vec_capacity}
use Rattle.std.specs.declared.option.Option.TheVariants.{Some}
use Rattle.std.proofs.lemmas.Option.{slice_get_within}
use Rattle.tm_seq.specs.Kind.{Kind}
use Rattle.tm_model.specs.Opening.{opening_of}
use Rattle.tm_pair.specs.Plain.{IsClientOf, plain_theory}
use Rattle.tm_trustee.specs.Tables.{IsReady}
use Rattle.tm_trustee.proofs.Elements.{there_too, same_element, set_cases, set_other}
use Rattle.tm_turns.specs.Whole.{OneClient, OneLane, Keeps, SameSides, StillClient, EachClient, CallsKeep}
use Rattle.tm_turns.specs.declared.turns.Turns.{Turns}

module _ {V C O R T : Type 0} where
  -- the first n clients did this, and the others are as they were
  pub record EachBelow (Did : OneClient V C O R T → OneClient V C O R T → Type 0) (n : ℕ) (old new : Turns V C O R T) : Type 0 where
    pub as_many : length new.clients.items ≡ length old.clients.items
    pub done : (c : ℕ) (client becomes : OneClient V C O R T) → c < n → slice_get old.clients.items c ≡ Some client
        → slice_get new.clients.items c ≡ Some becomes → Did client becomes
    pub rest : (c : ℕ) → n ≤ c → slice_get new.clients.items c ≡ slice_get old.clients.items c
    pub tables : new.tables ≡ old.tables
    pub trustees : new.trustees ≡ old.trustees
    pub counts : new.counts ≡ old.counts

  module _ (Did : OneClient V C O R T → OneClient V C O R T → Type 0) where
    pub each_none : (s : Turns V C O R T) → EachBelow Did 0 s s
    each_none s = record {
      as_many = refl;
      done = λ c client becomes lt at e. absurd (omega (arith, lt));
      rest = λ c le. refl;
      tables = refl;
      trustees = refl;
      counts = refl;
    }

    pub each_more :
        (n : ℕ) (old mid new : Turns V C O R T) (client becomes : OneClient V C O R T) → EachBelow Did n old mid → slice_get mid.clients.items n ≡ Some client
        → Did client becomes → new.clients.items ≡ slice_set mid.clients.items n becomes → new.tables ≡ mid.tables → new.trustees ≡ mid.trustees
        → new.counts ≡ mid.counts → EachBelow Did (n + 1) old new
    each_more n old mid new client becomes are at did clients tables trustees counts = record {
      as_many = ap (λ xs. length xs) clients ∙ length-set mid.clients.items n becomes ∙ are.as_many;
      done = λ c was now lt e en.
          elim (set_cases mid.clients.items n c becomes now (subst (λ xs. slice_get xs c ≡ Some now) clients en)) [
            | inl h ↦
                let le : n ≤ c = let e = h.0 in omega (arith, e) in
                let same : Some was ≡ Some client =
                sym e ∙ sym (are.rest c le) ∙ ap (λ k. slice_get mid.clients.items k) h.0 ∙ at in
                let was_is : was ≡ client = cc in
                subst (λ x. Did x now) (sym was_is) (subst (λ x. Did client x) (sym h.1) did)
            | inr h ↦ let ne = h.0 in are.done c was now (omega (arith, lt, ne)) e h.1
          ];
      rest = λ c le.
          let ne : c ≢ n = omega (arith, le) in
          ap (λ xs. slice_get xs c) clients ∙ set_other mid.clients.items n c becomes ne ∙ are.rest c (omega (arith, le));
      tables = tables ∙ are.tables;
      trustees = trustees ∙ are.trustees;
      counts = counts ∙ are.counts;
    }

    pub each_all : (n : ℕ) (old new : Turns V C O R T) → length old.clients.items ≤ n → EachBelow Did n old new → EachClient Did old new
    each_all n old new le are = record {
      as_many = are.as_many;
      each = λ c client becomes at e.
          let lt = slice_get_within old.clients.items c client at in are.done c client becomes (omega (arith, lt, le)) at e;
      tables = are.tables;
      trustees = are.trustees;
      counts = are.counts;
    }

    pub each_weaker :
        (Then : OneClient V C O R T → OneClient V C O R T → Type 0) (old new : Turns V C O R T)
        → ((client becomes : OneClient V C O R T) → Did client becomes → Then client becomes) → EachClient Did old new → EachClient Then old new
    each_weaker S old new to are = record {
      as_many = are.as_many;
      each = λ c client becomes at e. to client becomes (are.each c client becomes at e);
      tables = are.tables;
      trustees = are.trustees;
      counts = are.counts;
    }

  module _ (kind : Kind V O R T) where
    -- clients that have the same sides, and are clients still, keep the whole
    pub clients_keep :
        (old new : Turns V C O R T) → EachClient (λ client becomes. SameSides client.books becomes.books × StillClient kind client becomes) old new → Keeps kind old new
    clients_keep old new is config first are =
        let tables_same : new.tables.items ≡ old.tables.items = ap (λ xs. xs.items) is.tables in
        let before : (c : ℕ) (becomes : OneClient V C O R T) → slice_get new.clients.items c ≡ Some becomes
        → (client : OneClient V C O R T) × (slice_get old.clients.items c ≡ Some client) =
        λ c becomes e. there_too new.clients.items old.clients.items c becomes (sym is.as_many) e in
        record {
          buildable = are.buildable;
          as_many_clients = is.as_many ∙ are.as_many_clients;
          as_many_tables = ap (λ xs. length xs) tables_same ∙ are.as_many_tables;
          as_many_trustees = ap (λ xs. length xs.items) is.trustees ∙ are.as_many_trustees;
          tables = λ t table e. are.tables t table (subst (λ xs. slice_get xs t ≡ Some table) tables_same e);
          trustees = λ t trustee e.
              let (number, ready) = are.trustees t trustee (subst (λ xs. slice_get xs.items t ≡ Some trustee) is.trustees e) in
              (number, subst (λ xs. IsReady (plain_theory kind) kind xs trustee) (sym tables_same) ready);
          clients = λ c becomes e.
              let (client, at) = before c becomes e in
              let (same, still) = is.each c client becomes at e in
              let (number, many, client_is) = are.clients c client at in
              (same.number ∙ number, same.as_many ∙ many, still (λ t. opening_of t config first) client_is);
          seated = λ c t lane table has e.
              let (client, at) = before c has.client has.of_client in
              let (same, still) = is.each c client has.client at has.of_client in
              let (was, at_lane) = there_too has.client.books.lanes.items client.books.lanes.items t lane (sym same.as_many) has.of_lane in
              let of = are.seated c t was table (record { client = client; of_client = at; of_lane = at_lane })
              (subst (λ xs. slice_get xs t ≡ Some table) tables_same e) in
              subst (λ s. IsClientOf kind table s) (sym (same.sides t was lane at_lane has.of_lane)) of;
          counts = ap (λ xs. xs.items) is.counts ∙ are.counts;
          counts_room = subst (λ xs. config.trustees ≤ vec_capacity xs) (sym is.counts) are.counts_room;
        }

    -- so does a call of one client alone
    pub calls_keep : CallsKeep C kind
    calls_keep c client becomes old new calls same still =
        clients_keep old new (record {
          as_many = ap (λ xs. length xs) calls.clients ∙ length-set old.clients.items c becomes;
          each = λ k was now at e.
              elim (set_cases old.clients.items c k becomes now (subst (λ xs. slice_get xs k ≡ Some now) calls.clients e)) [
                | inl h ↦
                    let here : slice_get old.clients.items c ≡ Some was = subst (λ n. slice_get old.clients.items n ≡ Some was) h.0 at in
                    let was_is : was ≡ client = same_element old.clients.items c client was calls.of_client here in
                    subst (λ (x : OneClient V C O R T). SameSides x.books now.books × StillClient kind x now) (sym was_is)
                    (subst (λ (x : OneClient V C O R T). SameSides client.books x.books × StillClient kind client x) (sym h.1) (same, still))
                | inr h ↦
                    let now_is : now ≡ was = same_element old.clients.items k was now at h.1 in
                    subst (λ (x : OneClient V C O R T). SameSides was.books x.books × StillClient kind was x) (sym now_is) (
                      record {
                        number = refl;
                        as_many = refl;
                        sides = λ t lane other at_lane e_lane.
                            ap (λ (l : OneLane V C O R T). l.side) (same_element was.books.lanes.items t lane other at_lane e_lane);
                      },
                      λ openings is. is,
                    )
              ];
          tables = calls.tables;
          trustees = calls.trustees;
          counts = calls.counts;
        })
