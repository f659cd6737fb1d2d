-- A turn, from its parts: it exchanges above, goes on with launched work, serves its own table, and says Bye above.
use Rattle.std.proofs.Common.{◌≡◌, ℕ, ◌+◌, ◌-◌, ◌^◌, ◌↔◌, min, IsTrue, Bool, true, List, [], ◌∷◌, ◌++◌, length, map, refl, sym, ◌∙◌, ap, subst, arith, append_assoc}
use Rattle.std.specs.Prelude.{All, slice_get}
use Rattle.std.specs.declared.option.Option.TheVariants.{Some}
use Rattle.tm_seq.specs.Kind.{Kind}
use Rattle.tm_model.specs.declared.entry.Entry.{Entry}
use Rattle.tm_model.specs.Entries.{AreResumes}
use Rattle.tm_model.specs.Holds.{has_bye}
use Rattle.tm_model.specs.declared.entry.Entry.TheVariants.{By, Resume, Sent}
use Rattle.tm_model.specs.Legal.{IsLegal}
use Rattle.tm_model.specs.Serve.{state_after}
use Rattle.tm_model.specs.State.{State, place_count}
use Rattle.tm_core.proofs.Joins.{state-append}
use Rattle.tm_state.specs.Represents.{Represents}
use Rattle.tm_state.specs.Asking.{HaveAllEnded, TellsEnd}
use Rattle.tm_pair.specs.Theory.{Theory, TheoryLaws}
use Rattle.tm_trustee.specs.Above.{unsent, Exchanges, SaysBye, SaysByeAt, GoesUpAt, Each, all_moves_up}
use Rattle.tm_trustee.specs.Awaiting.{IsWaiting, AreCaughtUp}
use Rattle.tm_trustee.specs.NestedAsks.{works_at}
use Rattle.tm_trustee.specs.AboveAt.{EachAt}
use Rattle.tm_trustee.specs.Places.{ServesBelow, found_below}
use Rattle.tm_trustee.specs.Serving.{resumes_in, GoesOn, IsGoing, done_by, ups_of}
use Rattle.tm_trustee.specs.Tables.{KeepsAbove, KeepsOwn, KeepsTables, IsReady, IsMidway}
use Rattle.tm_trustee.specs.Turn.{ExchangesAll, HasEnded, HasGoneUp, HasResumed, HasTurned, KeepsParts, Tells}
use Rattle.tm_trustee.specs.declared.served.Served.{Served}
use Rattle.tm_trustee.specs.declared.stage.Stage.TheVariants.{Over}
use Rattle.tm_trustee.specs.declared.trustee.Trustee.{Trustee}
use Rattle.tm_trustee.proofs.Awaited.{quiet_caught}
use Rattle.tm_trustee.proofs.Elements.{there_too, pairwise_on}
use Rattle.tm_trustee.proofs.Keeping.{others_on}
use Rattle.tm_trustee.proofs.Resuming.{same_ran, resumes_in-append}
use Rattle.tm_trustee.proofs.TurningAbove.{goes_up, all_moves_join, all_say_as, over_exactly, tells_as, looks_seen, says_seen}
use Rattle.tm_trustee.proofs.TurningLooks.{looked_below, below_grows}
use Rattle.tm_trustee.proofs.TurningMoved.{all_say_at, goes_up_at}
use Rattle.tm_trustee.proofs.Works.{log_tickets}
use Rattle.tm_trustee.proofs.TurningReady.{IsHome, at_home, at_mid, is_above}

resumes_all : {V O R T : Type 0} (es : List (Entry V O R T)) → AreResumes es → resumes_in es ≡ length es
resumes_all [] only = refl
resumes_all (Resume id ticket event next ∷ es) only = let more = resumes_all es only in omega (arith, more)
resumes_all (By c k q a ∷ es) only = absurd only
resumes_all (Sent c room ∷ es) only = absurd only

-- every place has said Bye by a log and some resumes exactly where it has by the log
ended_behind :
    {V O R T : Type 0} (opening : State V O R T) (log since : List (Entry V O R T)) → AreResumes since
    → HaveAllEnded opening (log ++ since) ↔ HaveAllEnded opening log
ended_behind opening log since only = (
  λ all c lt. subst (λ l. has_bye l ≡ true) (same_ran c log since only) (all c lt),
  λ all c lt. subst (λ l. has_bye l ≡ true) (sym (same_ran c log since only)) (all c lt),
)

module _ {V O R T Table Client Owner : Type 0} (theory : Theory V O R T Table Client Owner) (kind : Kind V O R T) (laws : TheoryLaws theory kind) where
  -- the parts of a turn from the trustee t and the tables a to r and d, by p and b, then w, then q and c
  pub record AreParts (a b c d : List Table) (t p w q r : Trustee V Table O R T Client Owner) (all : Bool) (collected resumed found said : ℕ) : Type 0 where
    pub ready : IsReady theory kind a t
    pub midway : IsMidway theory kind b p
    pub looks : (was : Table) → slice_get a t.number ≡ Some was → ExchangesAll theory (theory.opening was) a b t p
    pub looks_many : length p.above.items ≡ length t.above.items
    pub collects : collected ≡ all_moves_up (ups_of theory t) (ups_of theory p)
    pub looks_keep : KeepsAbove theory a b (t.number + 1) (t.clients + t.number)
    pub looks_only : p ≡ record t { above = p.above; lanes = p.lanes }
    pub goes : HasResumed theory kind p w resumed
    pub goes_only : w ≡ record p { state = w.state; since = w.since; lanes = w.lanes }
    pub going : IsReady theory kind b w
    pub serves : (was now : Table) → slice_get b w.number ≡ Some was → slice_get c w.number ≡ Some now
        → ServesBelow theory kind (theory.opening was) (place_count (theory.opening was).setup) was now w.side q.side
    pub goes_on : GoesOn (done_by theory w) (done_by theory q)
    pub finds : found ≡ found_below (w.clients + w.number) (theory.trustee_view q.side)
    pub serves_keep : KeepsOwn theory b c w.number
    pub serves_only : q ≡ record w { side = q.side; state = q.state; since = q.since }
    pub served : IsReady theory kind c q
    pub closed : TellsEnd kind q.state all
    pub says : EachAt (λ n was now before after. SaysByeAt theory (IsTrue all) was now before after) (q.number + 1) c d q.above.items r.above.items
    pub says_many : length r.above.items ≡ length q.above.items
    pub says_are : said ≡ all_moves_up (ups_of theory q) (ups_of theory r)
    pub says_keep : KeepsAbove theory c d (q.number + 1) (q.clients + q.number)
    pub says_only : r ≡ record q { above = r.above; lanes = r.lanes }
    pub last : IsReady theory kind d r

  module _ (a b c d : List Table) (t p w q r : Trustee V Table O R T Client Owner) (all : Bool) (collected resumed found said : ℕ)
      (parts : AreParts a b c d t p w q r all collected resumed found said) where
    number_is : p.number ≡ t.number
    number_is = ap (λ (x : Trustee V Table O R T Client Owner). x.number) parts.looks_only

    number_goes : w.number ≡ t.number
    number_goes = ap (λ (x : Trustee V Table O R T Client Owner). x.number) parts.goes_only ∙ number_is

    number_then : q.number ≡ t.number
    number_then = ap (λ (x : Trustee V Table O R T Client Owner). x.number) parts.serves_only ∙ number_goes

    place_is : w.clients + w.number ≡ t.clients + t.number
    place_is =
        ap (λ (x : Trustee V Table O R T Client Owner). x.clients + x.number) parts.goes_only
        ∙ ap (λ (x : Trustee V Table O R T Client Owner). x.clients + x.number) parts.looks_only

    place_then : q.clients + q.number ≡ t.clients + t.number
    place_then = ap (λ (x : Trustee V Table O R T Client Owner). x.clients + x.number) parts.serves_only ∙ place_is

    above_then : q.above ≡ p.above
    above_then = ap (λ (x : Trustee V Table O R T Client Owner). x.above) parts.serves_only ∙ ap (λ (x : Trustee V Table O R T Client Owner). x.above) parts.goes_only

    side_is : w.side ≡ t.side
    side_is = ap (λ (x : Trustee V Table O R T Client Owner). x.side) parts.goes_only ∙ ap (λ (x : Trustee V Table O R T Client Owner). x.side) parts.looks_only

    side_last : r.side ≡ q.side
    side_last = ap (λ (x : Trustee V Table O R T Client Owner). x.side) parts.says_only

    done_is : done_by theory p ≡ done_by theory t
    done_is = ap (λ (x : Trustee V Table O R T Client Owner). (theory.trustee_view x.side).log ++ x.since.items) parts.looks_only

    done_last : done_by theory r ≡ done_by theory q
    done_last = ap (λ (x : Trustee V Table O R T Client Owner). (theory.trustee_view x.side).log ++ x.since.items) parts.says_only

    -- what the parts leave of the tables, by the trustee's own number and place
    own_keeps : KeepsOwn theory b c t.number
    own_keeps = subst (λ n. KeepsOwn theory b c n) number_goes parts.serves_keep

    last_keep : KeepsAbove theory c d (t.number + 1) (t.clients + t.number)
    last_keep =
        subst (λ n. KeepsAbove theory c d (n + 1) (t.clients + t.number)) number_then
        (subst (λ m. KeepsAbove theory c d (q.number + 1) m) place_then parts.says_keep)

    pub parts_kept : KeepsParts t r
    parts_kept = record {
      number = ap (λ (x : Trustee V Table O R T Client Owner). x.number) parts.says_only ∙ number_then;
      clients =
          ap (λ (x : Trustee V Table O R T Client Owner). x.clients) parts.says_only ∙ ap (λ (x : Trustee V Table O R T Client Owner). x.clients) parts.serves_only
          ∙ ap (λ (x : Trustee V Table O R T Client Owner). x.clients) parts.goes_only ∙ ap (λ (x : Trustee V Table O R T Client Owner). x.clients) parts.looks_only;
      nested =
          ap (λ (x : Trustee V Table O R T Client Owner). x.nested) parts.says_only ∙ ap (λ (x : Trustee V Table O R T Client Owner). x.nested) parts.serves_only
          ∙ ap (λ (x : Trustee V Table O R T Client Owner). x.nested) parts.goes_only ∙ ap (λ (x : Trustee V Table O R T Client Owner). x.nested) parts.looks_only;
    }

    pub tables_kept : KeepsTables theory a d t.number (t.clients + t.number)
    tables_kept =
        let looks = parts.looks_keep in
        let own = own_keeps in
        let says = last_keep in
        record {
          as_many = says.as_many ∙ own.as_many ∙ looks.as_many;
          same =
              pairwise_on theory.Same laws.same_trans a c d (own.as_many ∙ looks.as_many)
              (pairwise_on theory.Same laws.same_trans a b c looks.as_many (λ k x y ex ey. (looks.others k x y ex ey).same) own.same)
              (λ k x y ex ey. (says.others k x y ex ey).same);
          openings =
              pairwise_on (λ was now. theory.opening now ≡ theory.opening was) (λ x y z first then. then ∙ first) a c d (own.as_many ∙ looks.as_many)
              (pairwise_on (λ was now. theory.opening now ≡ theory.opening was) (λ x y z first then. then ∙ first) a b c looks.as_many
              (λ k x y ex ey. (looks.others k x y ex ey).opening) own.openings)
              (λ k x y ex ey. (says.others k x y ex ey).opening);
          lower = λ k lt.
              says.lower k (omega (arith, lt)) ∙ own.others k (λ e. absurd (omega (arith, lt, e))) ∙ looks.lower k (omega (arith, lt));
          clients_here = λ was now is is_now.
              own.clients was now (looks.lower t.number (omega arith) ∙ is) (sym (says.lower t.number (omega arith)) ∙ is_now);
          others_above = λ k was now lt is is_now.
              let (mid, is_mid) = there_too a b k was looks.as_many is in
              let still : slice_get c k ≡ Some mid = own.others k (λ e. absurd (omega (arith, lt, e))) ∙ is_mid in
              others_on theory kind laws (t.clients + t.number) was mid now (looks.others k was mid is is_mid) (says.others k mid now still is_now);
        }

    module _ (was now : Table) (is : slice_get a t.number ≡ Some was) (is_now : slice_get d t.number ≡ Some now) where
      is_looked : slice_get b t.number ≡ Some was
      is_looked = parts.looks_keep.lower t.number (omega arith) ∙ is

      is_served : slice_get c t.number ≡ Some now
      is_served = sym (last_keep.lower t.number (omega arith)) ∙ is_now

      opening_is : theory.opening now ≡ theory.opening was
      opening_is = own_keeps.openings t.number was now is_looked is_served

      abbrev opening : State V O R T
      opening = theory.opening was

      home : IsHome theory kind t was
      home = at_home theory kind a t was parts.ready is

      places_are : t.clients + t.number ≡ place_count opening.setup
      places_are = ap (λ m. m + t.number) home.1.clients ∙ ap (λ n. opening.setup.config.clients + n) home.1.number

      served_all : ServesBelow theory kind opening (place_count opening.setup) was now t.side r.side
      served_all =
          let serves = parts.serves was now (subst (λ n. slice_get b n ≡ Some was) (sym number_goes) is_looked) (subst (λ n. slice_get c n ≡ Some now) (sym number_goes) is_served) in
          subst (λ s. ServesBelow theory kind opening (place_count opening.setup) was now s r.side) side_is
          (subst (λ s. ServesBelow theory kind opening (place_count opening.setup) was now w.side s) (sym side_last) serves)

      -- whether all below have said Bye
      exactly : IsTrue all ↔ HaveAllEnded opening (theory.trustee_view r.side).log
      exactly =
          let home_then = at_home theory kind c q now parts.served (subst (λ n. slice_get c n ≡ Some now) (sym number_then) is_served) in
          let current = home_then.1.current in
          let log = (theory.trustee_view q.side).log in
          let tells = parts.closed (theory.opening now) (log ++ q.since.items) current.represents in
          let behind = ended_behind (theory.opening now) log q.since.items current.only in
          let here : IsTrue all ↔ HaveAllEnded (theory.opening now) log = (λ holds. behind.0 (tells.0 holds), λ ended. tells.1 (behind.1 ended)) in
          subst (λ (s : Owner). IsTrue all ↔ HaveAllEnded opening (theory.trustee_view s).log) (sym side_last)
          (subst (λ s. IsTrue all ↔ HaveAllEnded s log) opening_is here)

      says_here : EachAt (λ n x y before after. SaysByeAt theory (IsTrue all) x y before after) (t.number + 1) c d p.above.items r.above.items
      says_here =
          subst (λ l. EachAt (λ n x y before after. SaysByeAt theory (IsTrue all) x y before after) (t.number + 1) c d l r.above.items) (ap (λ l. l.items) above_then)
          (subst (λ n. EachAt (λ k x y before after. SaysByeAt theory (IsTrue all) x y before after) (n + 1) c d q.above.items r.above.items) number_then parts.says)

      pub gone_up :
          EachAt
          (λ n x y from to. GoesUpAt theory (unsent opening.setup (done_by theory t) n (theory.client_view from)) (HaveAllEnded opening (theory.trustee_view r.side).log) x y from to)
          (t.number + 1) a d t.above.items r.above.items
      gone_up =
          goes_up_at theory (λ n from. unsent opening.setup (done_by theory t) n (theory.client_view from)) (HaveAllEnded opening (theory.trustee_view r.side).log) t.number a b c d
          t.above.items p.above.items r.above.items parts.looks_keep.as_many parts.looks_many own_keeps.others (parts.looks was is)
          (all_say_at theory (IsTrue all) (HaveAllEnded opening (theory.trustee_view r.side).log) exactly.0 exactly.1 (t.number + 1) c d p.above.items r.above.items
          says_here)

      views_looked : Each (λ n x y. Exchanges (unsent opening.setup (done_by theory t) n x) x y) (t.number + 1) (ups_of theory t) (ups_of theory p)
      views_looked =
          looks_seen theory (λ n x. unsent opening.setup (done_by theory t) n x) (t.number + 1) a b t.above.items p.above.items parts.looks_many parts.looks_keep.as_many
          parts.ready.above.as_many (parts.looks was is)

      views_said : Each (λ n x y. SaysBye (IsTrue all) x y) (t.number + 1) (ups_of theory p) (ups_of theory r)
      views_said =
          let sides = parts.looks_many in
          let among = parts.ready.above.as_many in
          let first = parts.looks_keep.as_many in
          let then = own_keeps.as_many in
          let again = ap (λ l. length l.items) above_then in
          let last = parts.says_many in
          says_seen theory (IsTrue all) (t.number + 1) c d p.above.items r.above.items (omega (arith, again, last)) last_keep.as_many
          (omega (arith, sides, among, first, then)) says_here

      -- what was resumed, and what the work awaits then
      going : IsGoing theory kind opening p
      going = (at_mid theory kind b p was parts.midway (subst (λ n. slice_get b n ≡ Some was) (sym number_is) is_looked)).1

      done_goes : (es : List (Entry V O R T)) × (done_by theory w ≡ done_by theory t ++ es) × (resumes_in es ≡ length es) × (resumed ≡ min (length es) (2 ^ 64 - 1)) × AreResumes es
      done_goes =
          let (es, grows, only, count) = (parts.goes opening going).0 in
          let log = ap (λ (x : Trustee V Table O R T Client Owner). (theory.trustee_view x.side).log) parts.goes_only in (
            es,
            ap (λ l. l ++ w.since.items) log ∙ ap (λ l. (theory.trustee_view p.side).log ++ l) grows
                ∙ sym (append_assoc (theory.trustee_view p.side).log p.since.items es) ∙ ap (λ l. l ++ es) done_is,
            resumes_all es only,
            count,
            only,
          )

      caught_up : AreCaughtUp kind opening (state_after kind opening (done_by theory t)).next_ticket (done_by theory r)
      caught_up id x xs at lt =
          let (es, grows, none) = parts.goes_on in
          let (first, grew, all_resumed, count, only) = done_goes in
          let last = at_home theory kind c q now parts.served (subst (λ n. slice_get c n ≡ Some now) (sym number_then) is_served) in
          let represents = subst (λ s. Represents kind s (done_by theory q) q.state) opening_is last.1.current.represents in
          let legal : IsLegal kind opening (done_by theory w ++ es) = subst (λ l. IsLegal kind opening l) grows represents.is_legal in
          let tickets = log_tickets kind (state_after kind opening (done_by theory t)) first in
          let lands = ap (λ (s : State V O R T). s.next_ticket) (ap (state_after kind opening) grew ∙ state-append kind opening (done_by theory t) first) in
          let same : done_by theory r ≡ done_by theory w ++ es = done_last ∙ grows in
          subst (λ l. IsWaiting kind opening l id x) (sym same)
          (quiet_caught kind opening represents.opens (done_by theory w) es legal none (parts.goes opening going).1 id x xs
          (subst (λ l. works_at (state_after kind opening l) id ≡ x ∷ xs) same at) (omega (arith, tickets, lands, lt)))

      module _ (over both : Bool) (moved : ℕ) (served : Served)
          (over_is : IsTrue over ↔ All (λ lane. lane.stage ≡ Over) r.lanes.items) (both_is : IsTrue both ↔ IsTrue all × IsTrue over)
          (moved_is : moved ≡ min (resumed + (collected + found + said)) (2 ^ 64 - 1)) (tells : Tells served (IsTrue both) moved) where
        says_is : said ≡ all_moves_up (ups_of theory p) (ups_of theory r)
        says_is = parts.says_are ∙ ap (λ (l : List Client). all_moves_up (map theory.client_view l) (ups_of theory r)) (ap (λ l. l.items) above_then)

        finds_is : found ≡ found_below (place_count opening.setup) (theory.trustee_view r.side)
        finds_is =
            parts.finds ∙ ap (λ n. found_below n (theory.trustee_view q.side)) (place_is ∙ places_are)
            ∙ ap (λ (s : Owner). found_below (place_count opening.setup) (theory.trustee_view s)) (sym side_last)

        all_resumed : (m : ℕ) × (resumes_in (done_by theory r) - resumes_in (done_by theory t) ≡ m) × (resumed ≡ min m (2 ^ 64 - 1))
        all_resumed =
            let (es, grows, none) = parts.goes_on in
            let (first, grew, many, count, only) = done_goes in
            let joined = resumes_in-append (done_by theory w) es in
            let joined_first = resumes_in-append (done_by theory t) first in
            let one = ap resumes_in grew in
            let then = ap resumes_in grows in
            let last = ap resumes_in done_last in (
              length first,
              omega (arith, joined, joined_first, one, then, last, none, many),
              count,
            )

        pub has_turned : HasTurned theory kind was now t (record r { moved = moved }) served
        has_turned =
            let good = laws.trustee_is_good was t.side home.0 in
            let n = place_count opening.setup in
            let ended = HaveAllEnded opening (theory.trustee_view r.side).log in
            let many = good.looks in
            let moves = all_moves_join (λ n x. unsent opening.setup (done_by theory t) n x) (IsTrue all) (t.number + 1) (ups_of theory t) (ups_of theory p) (ups_of theory r) views_looked views_said in
            let collects = parts.collects in
            let finds = finds_is in
            let byes = says_is in
            let (m, difference, count) = all_resumed in
            let (first, grew, many_resumed, counted, only) = done_goes in
            let over_at = over_exactly (r.clients + r.number) r.lanes.items (ups_of theory r) (is_above theory kind d r parts.last) in
            let (es, grows, none) = parts.goes_on in
            let to : IsTrue both → HasEnded opening (theory.trustee_view r.side) (ups_of theory r) =
            λ holds. record { below = exactly.0 (both_is.0 holds).0; above = over_at.0 (over_is.0 (both_is.0 holds).1) } in
            let from : HasEnded opening (theory.trustee_view r.side) (ups_of theory r) → IsTrue both =
            λ has. both_is.1 (exactly.1 has.below, over_is.1 (over_at.1 has.above)) in
            record {
              serves = served_all;
              looks = λ c lt. looked_below theory kind opening n c was now t.side r.side served_all (omega (arith, many)) lt;
              log = below_grows theory kind opening n was now t.side r.side served_all;
              done = (first, es, done_last ∙ grows ∙ ap (λ l. l ++ es) grew ∙ append_assoc (done_by theory t) first es, only, none);
              above = goes_up (λ n x. unsent opening.setup (done_by theory t) n x) ended (t.number + 1) (ups_of theory t) (ups_of theory p) (ups_of theory r) views_looked
                  (all_say_as (IsTrue all) ended exactly.0 exactly.1 (t.number + 1) (ups_of theory p) (ups_of theory r) views_said);
              caught_up = caught_up;
              moved = omega (arith, moves, collects, finds, byes, difference, count, moved_is);
              tells = tells_as served (IsTrue both) (HasEnded opening (theory.trustee_view r.side) (ups_of theory r)) moved to from tells;
            }

    pub has_gone_up : HasGoneUp theory a d t r
    has_gone_up was is =
        let (now, is_now) = there_too a d t.number was tables_kept.as_many is in gone_up was now is is_now
