-- New clients and trustees, one more of each.
use Rattle.std.proofs.Common.{◌≡◌, ℕ, zero, suc, ◌+◌, ◌<◌, inl, inr, List, [], ◌∷◌, ◌++◌, length, length-append, slice_index_or, refl, sym, ◌∙◌, ap, subst, arith}
use Rattle.std.specs.Prelude.{slice_get, All}
use Rattle.std.specs.List.{AllByRecursion, AllZip}
use Rattle.std.specs.declared.option.Option.{Option}
use Rattle.std.specs.declared.option.Option.TheVariants.{None, Some}
use Rattle.std.proofs.Math.ListN.{replicate}
use Rattle.std.proofs.lemmas.List.Elements.{All-from_recursion}
use Rattle.std.proofs.lemmas.Option.{slice_get_within, get_or_from_slice_get}
use Rattle.tm_seq.specs.Kind.{Kind}
use Rattle.tm_batch.specs.declared.config.Config.{Config}
use Rattle.tm_batch.specs.declared.config.First.{First}
use Rattle.tm_batch.specs.declared.message.Name.{Name}
use Rattle.tm_model.specs.Opening.{IsBuildable, opening_of}
use Rattle.tm_pair.specs.Views.{BatchView, ClientView, TrusteeView, new_trustee, hand_of}
use Rattle.tm_pair.specs.Plain.{client_at, trustee_at, plain_theory}
use Rattle.tm_pair.specs.declared.plain.PlainClient.{PlainClient}
use Rattle.tm_pair.specs.declared.plain.PlainTrustee.{PlainTrustee}
use Rattle.tm_trustee.specs.Begun.{MayBegin, IsNewHome, IsNewSeat, HasBegun as HasBegunTrustee}
use Rattle.tm_client.specs.Begun.{HasBegun, IsFirstTrust, IsFirstClient}
use Rattle.tm_client.specs.declared.trust.Trust.{Trust}
use Rattle.tm_build.specs.Holding.{held_of, ids_in}
use Rattle.tm_turns.specs.Whole.{OneClient, OneTrustee}
use Rattle.tm_turns.specs.Making.{AreNew, IsNewClient, AreNewClients, IsPart, AreParts, IsNewTrustee, AreNewTrustees}
use Rattle.tm_turns.proofs.Fronts.{last_cases}
use Rattle.tm_turns.proofs.Holdings.{nested_are}
use Rattle.tm_turns.proofs.Given.{may_begin}

none_held : {X : Type 0} (n c : ℕ) → slice_index_or (replicate {A = Option X} n None) c None ≡ None
none_held zero c = refl
none_held (suc n) zero = refl
none_held (suc n) (suc c) = none_held n c

-- no list of what a trustee holds above
pub nested_none :
    {V : Type 0} (config : Config) (first : List (First V)) (nested : List (List (ℕ × Name))) → nested ≡ [] → (t : ℕ) (names : List (ℕ × Name))
    → slice_get nested t ≡ Some names → ids_in names ≡ held_of (config.clients + t) first
nested_none config first nested is t names e = let none : None ≡ Some names = sym (ap (λ xs. slice_get xs t) is) ∙ e in absurd cc

-- one more list of what a trustee holds above
pub nested_more :
    {V : Type 0} (config : Config) (first : List (First V)) (n : ℕ) (nested news : List (List (ℕ × Name))) (names : List (ℕ × Name)) → length nested ≡ n
    → ((t : ℕ) (list : List (ℕ × Name)) → slice_get nested t ≡ Some list → ids_in list ≡ held_of (config.clients + t) first)
    → news ≡ nested ++ names ∷ [] → ids_in names ≡ held_of (config.clients + n) first
    → (t : ℕ) (list : List (ℕ × Name)) → slice_get news t ≡ Some list → ids_in list ≡ held_of (config.clients + t) first
nested_more config first n nested news names many each is here t list e =
    elim (last_cases nested names t list (subst (λ xs. slice_get xs t ≡ Some list) is e)) [
      | inl before ↦ each t list before
      | inr h ↦ ap (λ l. ids_in l) h.1 ∙ here ∙ ap (λ k. held_of (config.clients + k) first) (sym (h.0 ∙ many))
    ]

module _ {V O R T : Type 0} where
  -- a trustee's side as its table gave it
  pub home_new : (home : PlainTrustee V O R T) (places : ℕ) → trustee_at home ≡ new_trustee places → IsNewHome (trustee_at home)
  home_new home places is = record {
    log = ap (λ (v : TrusteeView V O R T). v.log) is;
    free = λ c. ap (λ (v : TrusteeView V O R T). hand_of v c) is ∙ none_held {X = BatchView V O R T} places c;
  }

  -- its sides above
  seats_new : (p : ℕ) (seats : List (PlainClient V O R T)) → AreNew p seats → AllByRecursion (λ seat. IsNewSeat p (client_at seat)) seats
  seats_new p [] all = tt
  seats_new p (s ∷ seats) all = (
    record {
      place = ap (λ (v : ClientView V O R T). v.place) all.0;
      sent = ap (λ (v : ClientView V O R T). v.sent) all.0;
      out = ap (λ (v : ClientView V O R T). v.out) all.0;
    },
    seats_new p seats all.1,
  )

  pub all_seats_new : (p : ℕ) (seats : List (PlainClient V O R T)) → AreNew p seats → All (λ seat. IsNewSeat p (client_at seat)) seats
  all_seats_new p seats all = All-from_recursion (λ seat. IsNewSeat p (client_at seat)) seats (seats_new p seats all)

  module _ (config : Config) (first : List (First V)) where
    -- a part is what a trustee may begin with
    pub part_begins :
        (t : ℕ) (placed : List (First V)) (home : PlainTrustee V O R T) (seats : List (PlainClient V O R T)) (nested : List (ℕ × Name))
        → IsPart config first t placed home seats nested
        → MayBegin (opening_of {V = V} {O = O} {R = R} {T = T} t config first) t config first placed nested (length seats)
    part_begins t placed home seats nested part =
        let many = part.as_many in
        record {
          opens = record { buildable = part.buildable; in_range = omega (arith, many); placed = part.placed_is };
          opening = refl;
          nested = nested_are O R T config first t nested part.buildable part.nested_is;
          sides = part.as_many;
        }

    -- the parts of each trustee
    pub part_at :
        (homes : List (PlainTrustee V O R T)) (seats : List (List (PlainClient V O R T))) (nested : List (List (ℕ × Name))) (placed : List (List (First V)))
        (t : ℕ) (home : PlainTrustee V O R T) (seat : List (PlainClient V O R T)) (names : List (ℕ × Name)) (objects : List (First V))
        → AreParts config first homes seats nested placed → slice_get homes t ≡ Some home → slice_get seats t ≡ Some seat → slice_get nested t ≡ Some names
        → slice_get placed t ≡ Some objects → IsPart config first t objects home seat names
    part_at homes seats nested placed t home seat names objects parts at_home at_seat at_names at_objects =
        let lt = slice_get_within homes t home at_home in
        let many = parts.as_many_homes in
        record {
          buildable = parts.buildable;
          placed_is = sym (get_or_from_slice_get placed t objects [] at_objects) ∙ parts.placed_are.each t (omega (arith, lt, many));
          home_is = parts.homes_are t home at_home;
          as_many = (parts.seats_are t seat at_seat).0;
          seats_are = (parts.seats_are t seat at_seat).1;
          nested_is = parts.nested_are.each t names at_names;
        }

  module _ (kind : Kind V O R T) (config : Config) (first : List (First V)) where
    -- what a trustee's `new` says of a trustee that was made of a part
    pub trustee_made :
        (t : ℕ) (placed : List (First V)) (home : PlainTrustee V O R T) (seats : List (PlainClient V O R T)) (nested : List (ℕ × Name))
        (trustee : OneTrustee V O R T) → IsPart config first t placed home seats nested → HasBegunTrustee (plain_theory kind) kind t config placed trustee
        → trustee.side ≡ home → trustee.above.items ≡ seats → trustee.nested.items ≡ nested → trustee.moved ≡ 0
        → IsNewTrustee kind config first t home seats trustee
    trustee_made t placed home seats nested trustee part begun side above names none = record {
      serving =
          begun (opening_of t config first) first
          (
          subst (λ ns. MayBegin (opening_of {V = V} {O = O} {R = R} {T = T} t config first) t config first placed ns (length trustee.above.items)) (sym names)
          (
          subst (λ xs. MayBegin (opening_of {V = V} {O = O} {R = R} {T = T} t config first) t config first placed nested (length xs)) (sym above)
          (part_begins config first t placed home seats nested part)
          )
          );
      side = side;
      above = above;
      nested = ap (λ ns. ids_in ns) names ∙ part.nested_is;
      moved = none;
    }

    pub trustees_none :
        (homes : List (PlainTrustee V O R T)) (seats : List (List (PlainClient V O R T))) (trustees : List (OneTrustee V O R T)) → trustees ≡ []
        → AreNewTrustees kind config first 0 homes seats trustees
    trustees_none homes seats trustees is = record {
      as_many = ap (λ xs. length xs) is;
      each = λ t trustee e. let none : None ≡ Some trustee = sym (ap (λ xs. slice_get xs t) is) ∙ e in absurd cc;
    }

    pub trustees_more :
        (n : ℕ) (homes : List (PlainTrustee V O R T)) (seats : List (List (PlainClient V O R T))) (trustees news : List (OneTrustee V O R T))
        (home : PlainTrustee V O R T) (seat : List (PlainClient V O R T)) (trustee : OneTrustee V O R T)
        → AreNewTrustees kind config first n homes seats trustees → slice_get homes n ≡ Some home → slice_get seats n ≡ Some seat
        → IsNewTrustee kind config first n home seat trustee → news ≡ trustees ++ trustee ∷ []
        → AreNewTrustees kind config first (n + 1) homes seats news
    trustees_more n homes seats trustees news home seat trustee are at_home at_seat new is =
        let many = are.as_many in
        record {
          as_many = ap (λ xs. length xs) is ∙ length-append trustees (trustee ∷ []) ∙ ap (λ k. k + 1) many;
          each = λ t x e.
              elim (last_cases trustees trustee t x (subst (λ xs. slice_get xs t ≡ Some x) is e)) [
                | inl before ↦ are.each t x before
                | inr h ↦
                    let at : n ≡ t = sym (h.0 ∙ many) in (
                      home,
                      seat,
                      subst (λ k. slice_get homes k ≡ Some home) at at_home,
                      subst (λ k. slice_get seats k ≡ Some seat) at at_seat,
                      subst (λ y. IsNewTrustee kind config first t home seat y) (sym h.1)
                          (subst (λ k. IsNewTrustee kind config first k home seat trustee) at new),
                    )
              ];
        }

module _ {V C O R T : Type 0} (kind : Kind V O R T) (config : Config) (first : List (First V)) where
  -- what a client's `new` says of a client that was made of these parts
  pub client_made :
      (c : ℕ) (held : List (ℕ × Name)) (sides : List (PlainClient V O R T)) (client : OneClient V C O R T) (trusts : List Trust) → IsBuildable config first
      → c < config.clients → length sides ≡ config.trustees → ids_in held ≡ held_of c first → HasBegun c config sides held client.books
      → AllZip (IsFirstTrust client.books) held trusts → IsFirstClient (plain_theory kind).client_view c config (length sides) held client.books
      → IsNewClient kind config first c sides client trusts
  client_made c held sides client trusts can lt many names begun trusts_are is_first = record {
    held = held;
    named = names;
    begun = begun;
    is_client = is_first first (λ t. opening_of t config first) (may_begin kind config first c held (length sides) can lt many names) (λ t below. refl);
    trusts_are = trusts_are;
  }

  pub clients_none :
      (seats : List (List (PlainClient V O R T))) (clients : List (OneClient V C O R T)) (trusts : List (List Trust)) → clients ≡ [] → trusts ≡ []
      → AreNewClients kind config first 0 seats clients trusts
  clients_none seats clients trusts is are = record {
    as_many = ap (λ xs. length xs) is;
    as_many_trusts = ap (λ xs. length xs) are;
    each = λ c client of_client e of. let none : None ≡ Some client = sym (ap (λ xs. slice_get xs c) is) ∙ e in absurd cc;
  }

  pub clients_more :
      (n : ℕ) (seats : List (List (PlainClient V O R T))) (clients news : List (OneClient V C O R T)) (trusts more : List (List Trust))
      (sides : List (PlainClient V O R T)) (client : OneClient V C O R T) (of_client : List Trust)
      → AreNewClients kind config first n seats clients trusts → slice_get seats n ≡ Some sides → IsNewClient kind config first n sides client of_client
      → news ≡ clients ++ client ∷ [] → more ≡ trusts ++ of_client ∷ [] → AreNewClients kind config first (n + 1) seats news more
  clients_more n seats clients news trusts more sides client of_client are at new is also =
      let many = are.as_many in
      let many_trusts = are.as_many_trusts in
      record {
        as_many = ap (λ xs. length xs) is ∙ length-append clients (client ∷ []) ∙ ap (λ k. k + 1) many;
        as_many_trusts = ap (λ xs. length xs) also ∙ length-append trusts (of_client ∷ []) ∙ ap (λ k. k + 1) many_trusts;
        each = λ c x ts ex et.
            elim (last_cases clients client c x (subst (λ xs. slice_get xs c ≡ Some x) is ex)) [
              | inl before ↦
                  elim (last_cases trusts of_client c ts (subst (λ xs. slice_get xs c ≡ Some ts) also et)) [
                    | inl too ↦ are.each c x ts before too
                    | inr h ↦ let lt = slice_get_within clients c x before in let e = h.0 in absurd (omega (arith, lt, e, many, many_trusts))
                  ]
              | inr last ↦
                  elim (last_cases trusts of_client c ts (subst (λ xs. slice_get xs c ≡ Some ts) also et)) [
                    | inl too ↦ let lt = slice_get_within trusts c ts too in let e = last.0 in absurd (omega (arith, lt, e, many, many_trusts))
                    | inr h ↦
                        let here : n ≡ c = sym (last.0 ∙ many) in (
                          sides,
                          subst (λ k. slice_get seats k ≡ Some sides) here at,
                          subst (λ y. IsNewClient kind config first c sides y ts) (sym last.1)
                              (
                              subst (λ l. IsNewClient kind config first c sides client l) (sym h.1)
                              (subst (λ k. IsNewClient kind config first k sides client of_client) here new)
                              ),
                        )
                  ]
            ];
      }
