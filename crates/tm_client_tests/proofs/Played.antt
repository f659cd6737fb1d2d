-- Two clients and a trustee go on through calls of theirs.
use Rattle.std.proofs.Common.{◌≡◌, ◌≢◌, ℕ, ◌+◌, ◌<◌, inl, inr, List, length, length-set, refl, sym, ◌∙◌, ap, subst, arith}
use Rattle.std.specs.Prelude.{slice_get, slice_set, slice_index_or, IsSomeAnd, OnOk, OnErr, MatchOption}
use Rattle.std.specs.declared.option.Option.{Option}
use Rattle.std.specs.declared.option.Option.TheVariants.{None, Some}
use Rattle.std.specs.declared.result.Result.{Result}
use Rattle.std.specs.declared.result.Result.TheVariants.{Ok, Err}
use Rattle.std.proofs.lemmas.Bool.{cases_eq}
use Rattle.std.proofs.lemmas.Option.{slice_get_within}
use Rattle.tm_seq.specs.Kind.{Kind}
use Rattle.tm_pair.specs.Theory.{Theory}
use Rattle.tm_trustee.specs.Serving.{IsServing}
use Rattle.tm_trustee.specs.Tables.{IsReady, KeepsTables}
use Rattle.tm_trustee.specs.Turn.{KeepsParts}
use Rattle.tm_trustee.specs.declared.trustee.Trustee.{Trustee}
use Rattle.tm_trustee.proofs.Elements.{set_cases, set_here, set_other, same_element, there_too, there, read_at}
use Rattle.tm_client.specs.declared.answers.Turn.{Turn}
use Rattle.tm_client.specs.declared.lane.Lane.{Lane}
use Rattle.tm_client.specs.declared.client.Client.{Client}
use Rattle.tm_client.specs.Clients.{IsClient}
use Rattle.tm_client.specs.Turns.{HasTurned}
use Rattle.tm_client_tests.specs.Playing.{IsOne, IsPlaying}

-- what follows from each outcome follows
pub by_result : {A B P Q X : Type 0} (r : Result A B) → OnOk r P → OnErr r Q → (P → X) → (Q → X) → X
by_result (Ok x) ok err f g = f ok
by_result (Err e) ok err f g = g err

pub by_option : {A P X : Type 0} {Q : A → Type 0} (o : Option A) → MatchOption o P Q → (P → X) → ((x : A) → Q x → X) → X
by_option None h f g = f h
by_option (Some x) h f g = g x h

pub is_some : {X : Type 0} (o : Option X) (P : X → Type 0) (x : X) → o ≡ Some x → P x → IsSomeAnd o P
is_some o P x e h = subst (λ r. IsSomeAnd r P) (sym e) h

-- what holds of an element holds still
pub some_too : {X : Type 0} (o : Option X) (P Q : X → Type 0) → ((x : X) → o ≡ Some x → P x → Q x) → IsSomeAnd o P → IsSomeAnd o Q
some_too None P Q f h = absurd h
some_too (Some x) P Q f h = f x refl h

-- what holds at an index holds still where an element was changed to one of which it holds
set_too :
    {X : Type 0} (xs : List X) (u n : ℕ) (was becomes : X) (P : X → Type 0) → slice_get xs u ≡ Some was → (P was → P becomes)
    → IsSomeAnd (slice_get xs n) P → IsSomeAnd (slice_get (slice_set xs u becomes) n) P
set_too xs u n was becomes P at keeps h =
    let (mine, here, holds) = there P (slice_get xs n) h in
    elim (cases_eq n u) [
      | inl same ↦
          let is : slice_get xs n ≡ Some was = subst (λ k. slice_get xs k ≡ Some was) (sym same) at in
          let one : was ≡ mine = same_element xs n mine was here is in
          let now : slice_get (slice_set xs u becomes) n ≡ Some becomes =
          ap (λ k. slice_get (slice_set xs k becomes) n) (sym same) ∙ set_here xs n becomes (slice_get_within xs n mine here) in
          is_some (slice_get (slice_set xs u becomes) n) P becomes now (keeps (subst P (sym one) holds))
      | inr other ↦ is_some (slice_get (slice_set xs u becomes) n) P mine (set_other xs u n becomes other ∙ here) holds
    ]

module _ {V O R T Table Side Owner : Type 0} (theory : Theory V O R T Table Side Owner) (kind : Kind V O R T) where
  -- trustee 1 is ready still where its table was changed to one that opened as it did and has its side
  ready_still :
      (tables : List Table) (t : Trustee V Table O R T Side Owner) (was now : Table) → slice_get tables 1 ≡ Some was
      → t.number ≡ 1 → theory.opening now ≡ theory.opening was → (theory.HasTrustee was t.side → theory.HasTrustee now t.side)
      → IsReady theory kind tables t → IsReady theory kind (slice_set tables 1 now) t
  ready_still tables t was now at one opens keeps ready =
      let (config, whole, built) = ready.built.built in
      record {
        home =
            set_too tables 1 t.number was now (λ table. theory.HasTrustee table t.side × IsServing theory kind (theory.opening table) t) at
            (λ (has, serving). (keeps has, subst (λ s. IsServing theory kind s t) (sym opens) serving)) ready.home;
        built = record {
          built = (
            config,
            whole,
            λ n table e.
                elim (set_cases tables 1 n now table e) [
                  | inl h ↦ ap theory.opening h.1 ∙ opens ∙ built n was (subst (λ k. slice_get tables k ≡ Some was) (sym h.0) at)
                  | inr h ↦ built n table h.1
                ],
          );
        };
        above = record {
          as_many = ready.above.as_many ∙ sym (length-set tables 1 now);
          mine = λ i table seat e of.
              elim (set_cases tables 1 (t.number + 1 + i) now table e) [
                | inl h ↦ absurd (let no = h.0 in omega (arith, no, one))
                | inr h ↦ ready.above.mine i table seat h.1 of
              ];
        };
      }

  module _ (tables : List Table) (t : Trustee V Table O R T Side Owner)
      (clients : List (Client V ℕ Table O R T Side Owner)) (plays : IsPlaying theory kind tables t clients) where
    pub is_there : (i : ℕ) → i < 2 → i < length clients
    is_there i lt = let two = plays.count in omega (arith, lt, two)

    pub table_there : 1 < length tables
    table_there = slice_get_within tables 1 plays.high plays.at

    -- the table that is read at 1 is that of trustee 1
    pub is_high : (table : Table) → table ≡ slice_index_or tables 1 table → plays.high ≡ table
    is_high table read = same_element tables 1 table plays.high (read_at tables 1 table table_there read) plays.at

    module _ (i : ℕ) (was : Client V ℕ Table O R T Side Owner) (lt : i < 2)
        (read : was ≡ slice_index_or clients i was) where
      is_read : slice_get clients i ≡ Some was
      is_read = read_at clients i was (is_there i lt) read

      pub one : IsOne theory plays.openings plays.high i was.books
      one = plays.each i was is_read

      pub lane_there : 1 < length was.books.lanes.items
      lane_there =
          let (lane, at, seated) = there (λ lane. theory.HasClient plays.high lane.side) (slice_get was.books.lanes.items 1) one.seated in
          slice_get_within was.books.lanes.items 1 lane at

      -- a client became one whose side is of the table still
      called :
          (now : Client V ℕ Table O R T Side Owner) → IsOne theory plays.openings plays.high i now.books
          → IsPlaying theory kind tables t (slice_set clients i now)
      called now is = record {
        openings = plays.openings;
        high = plays.high;
        at = plays.at;
        opens = plays.opens;
        ready = plays.ready;
        number = plays.number;
        count = length-set clients i now ∙ plays.count;
        each = λ j c e.
            elim (set_cases clients i j now c e) [
              | inl h ↦
                  subst (λ (x : Client V ℕ Table O R T Side Owner). IsOne theory plays.openings plays.high j x.books) (sym h.1)
                  (subst (λ k. IsOne theory plays.openings plays.high k now.books) (sym h.0) is)
              | inr h ↦ plays.each j c h.1
            ];
      }

      -- after a call of the client that changed what it keeps for one trustee, but for its side there
      pub one_lane :
          (now : Client V ℕ Table O R T Side Owner) (u : ℕ) (lane becomes : Lane V ℕ Side O R T)
          → slice_get was.books.lanes.items u ≡ Some lane → becomes.side ≡ lane.side → now.books.lanes.items ≡ slice_set was.books.lanes.items u becomes
          → now.books.number ≡ was.books.number → IsClient theory.client_view plays.openings now.books → IsPlaying theory kind tables t (slice_set clients i now)
      one_lane now u lane becomes of side lanes number is = called now (record {
        number = number ∙ one.number;
        client = is;
        seated =
            subst (λ ls. IsSomeAnd (slice_get ls 1) (λ l. theory.HasClient plays.high l.side)) (sym lanes)
            (set_too was.books.lanes.items u 1 lane becomes (λ l. theory.HasClient plays.high l.side) of
            (λ has. subst (λ s. theory.HasClient plays.high s) (sym side) has) one.seated);
      })

      -- and after one that changed nothing there
      pub same_lanes :
          (now : Client V ℕ Table O R T Side Owner) → now.books.lanes ≡ was.books.lanes
          → now.books.number ≡ was.books.number → IsClient theory.client_view plays.openings now.books → IsPlaying theory kind tables t (slice_set clients i now)
      same_lanes now lanes number is = called now (record {
        number = number ∙ one.number;
        client = is;
        seated = subst (λ ls. IsSomeAnd (slice_get ls.items 1) (λ l. theory.HasClient plays.high l.side)) (sym lanes) one.seated;
      })

      -- and after one that changed nothing
      pub same_client :
          (now : Client V ℕ Table O R T Side Owner) → now ≡ was → IsPlaying theory kind tables t (slice_set clients i now)
      same_client now same =
          called now (subst (λ (x : Client V ℕ Table O R T Side Owner). IsOne theory plays.openings plays.high i x.books) (sym same) one)

      -- a side of another client's stays one of the table's through the client's turn
      others_seated :
          (high' : Table) (turned : Lane V ℕ Side O R T) (place : (theory.client_view turned.side).place ≡ i)
          → ((other : Side) → (theory.client_view other).place ≢ (theory.client_view turned.side).place → theory.HasClient plays.high other → theory.HasClient high' other)
          → (j : ℕ) (c : Client V ℕ Table O R T Side Owner) → j ≢ i → IsOne theory plays.openings plays.high j c.books
          → IsOne theory plays.openings high' j c.books
      others_seated high' turned place keeps j c other is = record {
        number = is.number;
        client = is.client;
        seated =
            some_too (slice_get c.books.lanes.items 1) (λ l. theory.HasClient plays.high l.side) (λ l. theory.HasClient high' l.side)
            (λ l at has.
            let its : (theory.client_view l.side).place ≡ c.books.number = (is.client.lanes 1 l at).place in
            keeps l.side (λ same. other (sym is.number ∙ sym its ∙ same ∙ place)) has) is.seated;
      }

      -- after the client's turn
      pub turned :
          (answer : Turn) (high' : Table) (now : Client V ℕ Table O R T Side Owner)
          → HasTurned theory kind 1 answer plays.high high' was.books now.books
          → IsClient theory.client_view plays.openings now.books → IsPlaying theory kind (slice_set tables 1 high') t (slice_set clients i now)
      turned answer high' now turns is =
          let lane = one.client.lanes 1 turns.lane turns.turns.of_lane in
          let place : (theory.client_view turns.lane.side).place ≡ i = lane.place ∙ one.number in
          let mine : IsOne theory plays.openings high' i now.books = record {
            number = turns.turns.number ∙ one.number;
            client = is;
            seated =
                is_some (slice_get now.books.lanes.items 1) (λ l. theory.HasClient high' l.side) turns.becomes
                (ap (λ xs. slice_get xs 1) turns.turns.lanes ∙ set_here was.books.lanes.items 1 turns.becomes lane_there) turns.keeps.mine;
          } in
          record {
            openings = plays.openings;
            high = high';
            at = set_here tables 1 high' table_there;
            opens = plays.opens ∙ sym turns.keeps.opening;
            ready = ready_still tables t plays.high high' plays.at plays.number turns.keeps.opening (turns.keeps.trustee t.side) plays.ready;
            number = plays.number;
            count = length-set clients i now ∙ plays.count;
            each = λ j c e.
                elim (set_cases clients i j now c e) [
                  | inl h ↦
                      subst (λ (x : Client V ℕ Table O R T Side Owner). IsOne theory plays.openings high' j x.books) (sym h.1)
                      (subst (λ k. IsOne theory plays.openings high' k now.books) (sym h.0) mine)
                  | inr h ↦ others_seated high' turns.lane place turns.keeps.clients j c h.0 (plays.each j c h.1)
                ];
          }

    -- after a turn of the trustee
    pub served :
        (tables' : List Table) (t' : Trustee V Table O R T Side Owner) (place : ℕ) → IsReady theory kind tables' t'
        → KeepsTables theory tables tables' t.number place → KeepsParts t t' → IsPlaying theory kind tables' t' clients
    served tables' t' place ready keeps parts =
        let (high', at') = there_too tables tables' 1 plays.high keeps.as_many plays.at in
        let is = plays.number in
        record {
          openings = plays.openings;
          high = high';
          at = at';
          opens = plays.opens ∙ sym (keeps.openings 1 plays.high high' plays.at at');
          ready = ready;
          number = parts.number ∙ is;
          count = plays.count;
          each = λ i c e.
              let its = plays.each i c e in
              record {
                number = its.number;
                client = its.client;
                seated =
                    some_too (slice_get c.books.lanes.items 1) (λ l. theory.HasClient plays.high l.side) (λ l. theory.HasClient high' l.side)
                    (λ l at has.
                    keeps.clients_here plays.high high' (subst (λ n. slice_get tables n ≡ Some plays.high) (sym is) plays.at)
                    (subst (λ n. slice_get tables' n ≡ Some high') (sym is) at') l.side has) its.seated;
              };
        }
