-- That a client at which no request counts may begin a message.
use Rattle.std.proofs.Common.{◌≡◌, ℕ, true, false, List, [], ◌++◌, map, refl, sym, ◌∙◌, ap, subst, arith, append-nil}
use Rattle.std.specs.Prelude.{Bool, slice_get}
use Rattle.std.specs.List.{AllByRecursion}
use Rattle.std.specs.declared.option.Option.TheVariants.{Some}
use Rattle.std.proofs.lemmas.Option.{slice_get_within}
use Rattle.tm_seq.specs.Kind.{Kind}
use Rattle.tm_model.specs.State.{State}
use Rattle.tm_model.specs.Holds.{has_bye}
use Rattle.tm_model.specs.Ran.{ran}
use Rattle.tm_pair.specs.Theory.{Theory, TheoryLaws}
use Rattle.tm_client.specs.declared.lane.Lane.{Lane}
use Rattle.tm_client.specs.declared.books.Books.{Books}
use Rattle.tm_client.specs.Lanes.{out_requests, IsLane}
use Rattle.tm_client.specs.Clients.{come_of}
use Rattle.tm_client.proofs.Arriving.{no_bye_asks, bye_behind}
use Rattle.tm_client.proofs.Elements.{element_at}
use Rattle.tm_client.proofs.Living.{sent_is, answers_are}
use Rattle.tm_asking.specs.Asking.{HasReply, IsCome, IsTold, IsAskedAt, IsAsking, side_in, sides_of, NoneCounts, AllOpen}
use Rattle.tm_asking.specs.Turning.{IsAtTables}
use Rattle.tm_asking.proofs.Replied.{IsLaneAtRest, lane_at_rest}

is_false : (b : Bool) → (b ≡ true → ⊥) → b ≡ false
is_false true never = absurd (never refl)
is_false false never = refl

module _ {V O R T D Table Owner : Type 0} (theory : Theory V O R T Table D Owner) (kind : Kind V O R T) (laws : TheoryLaws theory kind)
    (openings : ℕ → State V O R T) (tables : List Table) (books : Books V ℕ D O R T) (home : IsAtTables theory openings tables books)
    (none : NoneCounts books) (open_all : AllOpen books) (missing : R) (replies : List R) where
  module _ (t : ℕ) (lane : Lane V ℕ D O R T) (there : slice_get books.lanes.items t ≡ Some lane) where
    is : IsLane theory.client_view (openings t) books.number (come_of t books.arrived.items) lane
    is = home.client.lanes t lane there

    rest : IsLaneAtRest theory.client_view t books.arrived.items lane
    rest = lane_at_rest theory.client_view (openings t) books.number t books.arrived.items lane is (none t lane there)

    no_bye : has_bye (out_requests (theory.client_view lane.side).out) ≡ false
    no_bye =
        is_false _ (λ bye.
        let within = slice_get_within books.lanes.items t lane there in
        let many = home.as_many in
        let (table, at) = element_at tables t (omega (arith, within, many)) in
        let good = laws.client_is_good table lane.side (home.mine t table lane at there) in
        let all = sent_is kind (theory.opening table) (theory.client_view lane.side) good in
        let sent : has_bye (theory.client_view lane.side).sent ≡ true =
        ap has_bye all ∙ bye_behind (ran (theory.client_view lane.side).place (theory.client_view lane.side).seen) (out_requests (theory.client_view lane.side).out) bye in
        let closing = (is.last (is.said ∙ sent)).0 in
        let still = open_all t lane there in
        cc)

    nothing_out : out_requests (theory.client_view lane.side).out ≡ []
    nothing_out = sym (no_bye_asks (out_requests (theory.client_view lane.side).out) no_bye) ∙ rest.out

    begins_at : IsAskedAt theory.client_view missing t (theory.client_view lane.side) [] replies books.arrived.items lane
    begins_at =
        let within = slice_get_within books.lanes.items t lane there in
        let many = home.as_many in
        let (table, at) = element_at tables t (omega (arith, within, many)) in
        let good = laws.client_is_good table lane.side (home.mine t table lane at there) in
        let runs = sent_is kind (theory.opening table) (theory.client_view lane.side) good in
        let entries = answers_are kind (theory.opening table) (theory.client_view lane.side) good in record {
          side = record {
            settled = record {
              runs = runs ∙ ap (λ l. ran (theory.client_view lane.side).place (theory.client_view lane.side).seen ++ l) nothing_out ∙ append-nil _;
              entries = entries;
            };
            place = refl;
            grown = [];
            seen = sym (append-nil _);
            runs = runs;
            entries = entries;
            out_reply = subst (λ l. AllByRecursion HasReply l) (sym nothing_out) tt;
          };
          is_open = open_all t lane there;
          sent = ap (λ l. (theory.client_view lane.side).sent ++ l) rest.waits;
          waits_reply = subst (λ l. AllByRecursion HasReply l) (sym rest.waits) tt;
          told = [];
          numbers = ap (λ ws. map (λ w. w.after) ws) rest.afters;
          got = sym (append-nil _);
          dealt = tt;
          come = subst (λ cs. AllByRecursion (IsCome [] []) cs) (sym rest.come) tt;
          unfinished = subst (λ ls. AllByRecursion (IsTold {V = V} {O = O} {R = R} {T = T} []) ls) (sym rest.launched) tt;
        }

  pub begins : IsAsking theory.client_view missing (sides_of theory.client_view books) [] replies books
  begins = record {
    few = omega arith;
    known = tt;
    lanes = λ t lane there.
        subst (λ o. IsAskedAt theory.client_view missing t (side_in theory.client_view t o) [] replies books.arrived.items lane) (sym there) (begins_at t lane there);
  }
