-- `IsBounded`, kept by each entry; with `IsOrdered` it makes the state that a legal log leaves sound.
-- Other crates import from this file.
use Rattle.std.proofs.Common.{◌≡◌, ◌≢◌, ℕ, ◌+◌, ◌-◌, ◌^◌, ◌<◌, ◌≤◌, true, not, List, [], ◌∷◌, ◌++◌, length, map, slice_index_or, slice_set, inl, inr, refl, ◌∙◌, subst, arith, length-set, length-append, length-drop, get_or-set_same}
use Rattle.std.specs.Prelude.{◌==◌}
use Rattle.std.specs.List.{AllByRecursion}
use Rattle.std.proofs.lemmas.Bool.{cases_lt}
use Rattle.std.proofs.lemmas.List.{length-map}
use Rattle.std.proofs.lemmas.List.Sums.{get_or-le-sum_by}
use Rattle.std.proofs.lemmas.Map.Keys.{IsStrictlyIncreasing-from_sorted}
use Rattle.tm_seq.specs.Kind.{Kind}
use Rattle.tm_seq.specs.declared.kind.Next.{Next}
use Rattle.tm_seq.specs.declared.kind.Next.TheVariants.{Done}
use Rattle.tm_batch.specs.declared.limits.TheConstants.{MOST_GIFTS, MOST_HOLDS}
use Rattle.tm_batch.specs.declared.message.Request.{Request}
use Rattle.tm_batch.specs.declared.message.Request.TheVariants.{Entrust, Apply, Launch, Grant, Release, Reclaim, Bye}
use Rattle.tm_batch.specs.declared.message.Answer.{Answer}
use Rattle.tm_batch.specs.declared.message.Answer.TheVariants.{Entrusted, Replied, Launched, Granted, Released, Reclaimed, ByeDone}
use Rattle.tm_model.specs.declared.entry.Entry.{Entry}
use Rattle.tm_model.specs.declared.entry.Entry.TheVariants.{By, Resume, Sent}
use Rattle.tm_model.specs.State.{Work, Setup, Object, Place, State, no_place, place_of, place_count, holds_of, with_holds, total, change, without, object_of}
use Rattle.tm_model.specs.Opening.{placed_on}
use Rattle.tm_model.specs.Serve.{served, completed, works_in, works_resumed, value_advanced, after, state_after}
use Rattle.tm_model.specs.Legal.{Serves, MayCome, IsLegal, IsGiftRefused}
use Rattle.tm_model.specs.Laws.{IsOpening, StatesAreSound}
use Rattle.tm_core.proofs.CallerLemmas.{is_same, found, all_map, all_replicate, all_weaker, all_both, all_filter, all-append, all_set, all_at}
use Rattle.tm_core.proofs.Bounds.{HasBounds, IsBoundedObject, filter_shorter, resumed_works, all_change, bounds_of, kept_bounded, change_as_long, granted_bounded, released_bounded, closed_bounded, launched_bounded, rises_all, rises_sorted, opened_long, opened_bounded}
use Rattle.tm_core.proofs.Ordered.{IsOrdered, after_ordered, log_ordered, opening_ordered}

module _ {V O R T : Type 0} where
  -- ids and tickets are given out up to the last, and what a state has stays within the config
  pub record IsBounded (n : ℕ) (built : Setup) (s : State V O R T) : Type 0 where
    pub setup : s.setup ≡ built
    pub next_id : (1 ≤ s.next_id) × (s.next_id ≤ built.config.last_id + 1)
    pub next_ticket : (1 ≤ s.next_ticket) × (s.next_ticket ≤ built.config.last_id + 1)
    pub most : length s.live ≤ built.config.objects
    pub objects : AllByRecursion (IsBoundedObject n s.next_ticket) s.live
    pub gifts : AllByRecursion (λ p. length p.gifts ≤ MOST_GIFTS) s.places

  place_few : (s : State V O R T) (c : ℕ) → AllByRecursion (λ p. length p.gifts ≤ MOST_GIFTS) s.places → length (place_of s c).gifts ≤ MOST_GIFTS
  place_few s c h = all_at (λ (p : Place V O R T). length p.gifts ≤ MOST_GIFTS) s.places c no_place (omega arith) h

  entrusted_bounded :
      (n c id : ℕ) (built : Setup) (v : V) (s : State V O R T) → c < n → length s.live < built.config.objects → s.next_id ≤ built.config.last_id
      → IsOrdered n s → IsBounded n built s
      → AllByRecursion (IsBoundedObject n s.next_ticket) (s.live ++ record { id = id; value = v; holds = slice_set (map (λ _. 0) s.places) c 1; works = [] } ∷ [])
  entrusted_bounded n c id built v s lt room spent ordered h =
      let none : List ℕ = map (λ _. 0) s.places in
      let holds = slice_set none c 1 in
      let long : length none ≡ n = length-map s.places (λ _. 0) ∙ ordered.places in
      let within : c < length holds = let same = length-set none c 1 in omega (arith, same, long, lt) in
      let le = get_or-le-sum_by (λ x. x) holds c 0 within in
      let own : slice_index_or holds c 0 ≡ 1 = get_or-set_same none c 1 0 (omega (arith, long, lt)) in
      all-append (IsBoundedObject n s.next_ticket) s.live _ h.objects (
        (
          record {
            holds = all_set (λ k. k < 2 ^ 32) none c 1 (omega arith)
                (all_map (λ (p : Place V O R T). length p.gifts ≤ MOST_GIFTS) (λ k. k < 2 ^ 32) (λ _. 0) s.places (λ p k. omega arith) h.gifts);
            works = tt;
          },
          omega (arith, le, own),
        ),
        tt,
      )

  served_bounded :
      (kind : Kind V O R T) (n c : ℕ) (built : Setup) (q : Request V O R T) (a : Answer V O R T) (s : State V O R T)
      → n ≡ place_count built → c < n → Serves kind s c q a → IsOrdered n s → IsBounded n built s → IsBounded n built (served kind c q a s)
  served_bounded kind n c built (Entrust v) (Entrusted name) s e lt may ordered h =
      let room : length s.live < built.config.objects = subst (λ x. length s.live < x.config.objects) h.setup may.1 in
      let spent : s.next_id ≤ built.config.last_id = subst (λ x. s.next_id ≤ x.config.last_id) h.setup may.2 in
      record {
        setup = h.setup;
        next_id = (omega arith, omega (arith, spent));
        next_ticket = h.next_ticket;
        most = let long = length-append s.live (record { id = name.id; value = v; holds = slice_set (map (λ _. 0) s.places) c 1; works = [] } ∷ []) in omega (arith, long, room);
        objects = entrusted_bounded n c name.id built v s lt room spent ordered h;
        gifts = h.gifts;
      }
  served_bounded kind n c built (Apply i op) (Replied r) s e lt may ordered h = record {
    setup = h.setup;
    next_id = h.next_id;
    next_ticket = h.next_ticket;
    most = rw (change_as_long i.id _ s.live) h.most;
    objects = all_change (IsBoundedObject n s.next_ticket) (IsBoundedObject n s.next_ticket) i.id _ s.live (λ o k. k)
        (λ o k. (record { holds = k.0.holds; works = k.0.works }, k.1)) h.objects;
    gifts = h.gifts;
  }
  served_bounded kind n c built (Launch i task) (Launched ticket) s e lt may ordered h =
      let spent : s.next_ticket ≤ built.config.last_id = subst (λ x. s.next_ticket ≤ x.config.last_id) h.setup may.1.1 in
      record {
        setup = h.setup;
        next_id = h.next_id;
        next_ticket = (omega arith, omega (arith, spent));
        most = rw (change_as_long i.id _ s.live) h.most;
        objects = rw may.1.0 (launched_bounded n c i.id s.next_ticket task s.live lt h.objects);
        gifts = h.gifts;
      }
  served_bounded kind n c built (Grant i d) Granted s e lt may ordered h =
      let (x, at, free) = found (object_of s.live i.id) (λ o. ¬ IsGiftRefused s d o) may.2.1 in
      let within : d < n = let less : d < built.config.clients = subst (λ x. d < x.config.clients) h.setup may.1 in omega (arith, less, e) in
      let few : length (place_of s d).gifts < MOST_GIFTS = elim (cases_lt (length (place_of s d).gifts) MOST_GIFTS) [ inl l ↦ l | inr g ↦ absurd (free (inl g)) ] in
      let holds : holds_of x d < MOST_HOLDS = elim (cases_lt (holds_of x d) MOST_HOLDS) [ inl l ↦ l | inr g ↦ absurd (free (inr g)) ] in
      record {
        setup = h.setup;
        next_id = h.next_id;
        next_ticket = h.next_ticket;
        most = rw (change_as_long i.id _ s.live) h.most;
        objects = granted_bounded n d i.id s.next_ticket s.next_id s.live x within ordered.rises at holds h.objects;
        gifts = all_set (λ (p : Place V O R T). length p.gifts ≤ MOST_GIFTS) s.places d _ (let long = length-append (place_of s d).gifts (i ∷ []) in omega (arith, long, few)) h.gifts;
      }
  served_bounded kind n c built (Release i) Released s e lt may ordered h = record {
    setup = h.setup;
    next_id = h.next_id;
    next_ticket = h.next_ticket;
    most =
        let less = filter_shorter (λ o. not (total o == 0)) (change i.id (λ o. with_holds c (holds_of o c - 1) o) s.live) in
        let same = change_as_long i.id (λ o. with_holds c (holds_of o c - 1) o) s.live in
        let most = h.most in
        omega (arith, less, same, most);
    objects = released_bounded n c i.id s.next_ticket s.live h.objects;
    gifts = h.gifts;
  }
  served_bounded kind n c built (Reclaim i) (Reclaimed v) s e lt may ordered h = record {
    setup = h.setup;
    next_id = h.next_id;
    next_ticket = h.next_ticket;
    most = let less = filter_shorter (λ o. not (o.id == i.id)) s.live in let most = h.most in omega (arith, less, most);
    objects = all_weaker (λ o. IsBoundedObject n s.next_ticket o × (not (o.id == i.id) ≡ true)) _ (without i.id s.live) (λ o k. k.0)
        (all_filter (IsBoundedObject n s.next_ticket) _ s.live h.objects);
    gifts = h.gifts;
  }
  served_bounded kind n c built Bye ByeDone s e lt may ordered h = record {
    setup = h.setup;
    next_id = h.next_id;
    next_ticket = h.next_ticket;
    most =
        let less = filter_shorter (λ o. not (total o == 0)) (map (λ o. with_holds c 0 o) s.live) in
        let same = length-map s.live (λ o. with_holds c 0 o) in
        let most = h.most in
        omega (arith, less, same, most);
    objects = closed_bounded n c s.next_ticket s.live h.objects;
    gifts = all_set (λ (p : Place V O R T). length p.gifts ≤ MOST_GIFTS) s.places c _ (omega arith) h.gifts;
  }
  served_bounded kind n c built _ _ s e lt may ordered h = h

  completed_bounded :
      (n : ℕ) (built : Setup) (ws : List (Work T)) (ticket : ℕ) (next : Next O T R) (s : State V O R T) → IsBounded n built s → IsBounded n built (completed ws ticket next s)
  completed_bounded n built (w ∷ ws) ticket (Done r) s h = record {
    setup = h.setup;
    next_id = h.next_id;
    next_ticket = h.next_ticket;
    most = h.most;
    objects = h.objects;
    gifts = all_set (λ (p : Place V O R T). length p.gifts ≤ MOST_GIFTS) s.places w.place _ (place_few s w.place h.gifts) h.gifts;
  }
  completed_bounded n built _ ticket _ s h = h

  pub after_bounded :
      (kind : Kind V O R T) (n : ℕ) (built : Setup) (s : State V O R T) (e : Entry V O R T)
      → n ≡ place_count built → MayCome kind s e → IsOrdered n s → IsBounded n built s → IsBounded n built (after kind s e)
  after_bounded kind n built s (By c k q a) is may ordered h =
      let lt : c < n = let less : c < place_count built = subst (λ x. c < place_count x) h.setup may.0 in omega (arith, less, is) in
      let more = served_bounded kind n c built q a s is lt may.2 ordered h in
      record {
        setup = more.setup;
        next_id = more.next_id;
        next_ticket = more.next_ticket;
        most = more.most;
        objects = more.objects;
        gifts = all_set (λ (p : Place V O R T). length p.gifts ≤ MOST_GIFTS) (served kind c q a s).places c _ (place_few (served kind c q a s) c more.gifts) more.gifts;
      }
  after_bounded kind n built s (Resume id ticket event next) is may ordered h =
      completed_bounded n built (works_in (object_of s.live id)) ticket next _
      (record {
        setup = h.setup;
        next_id = h.next_id;
        next_ticket = h.next_ticket;
        most =
            let f : Object V T → Object V T = λ o. record o { value = value_advanced kind o.value o.works event next; works = works_resumed o.works next } in
            let less = filter_shorter (λ o. not (total o == 0)) (change id f s.live) in
            let same = change_as_long id f s.live in
            let most = h.most in
            omega (arith, less, same, most);
        objects = kept_bounded n s.next_ticket _
            (all_change (HasBounds n s.next_ticket) (HasBounds n s.next_ticket) id _ s.live (λ o k. k)
            (λ o k. record { holds = k.holds; works = resumed_works n s.next_ticket o.works next k.works }) (bounds_of n s.next_ticket s.live h.objects));
        gifts = h.gifts;
      })
  after_bounded kind n built s (Sent c room) is may ordered h = record {
    setup = h.setup;
    next_id = h.next_id;
    next_ticket = h.next_ticket;
    most = h.most;
    objects = h.objects;
    gifts = all_set (λ (p : Place V O R T). length p.gifts ≤ MOST_GIFTS) s.places c _
        (let long = length-drop room (place_of s c).gifts in let few = place_few s c h.gifts in omega (arith, long, few)) h.gifts;
  }

  log_bounded :
      (kind : Kind V O R T) (n : ℕ) (built : Setup) (s : State V O R T) (log : List (Entry V O R T))
      → n ≡ place_count built → IsLegal kind s log → IsOrdered n s → IsBounded n built s → IsBounded n built (state_after kind s log)
  log_bounded kind n built s [] is legal ordered h = h
  log_bounded kind n built s (e ∷ es) is legal ordered h =
      log_bounded kind n built (after kind s e) es is legal.1 (after_ordered kind n s e legal.0 ordered) (after_bounded kind n built s e is legal.0 ordered h)

module _ {V O R T : Type 0} where
  pub opening_bounded : (opening : State V O R T) → IsOpening opening → IsBounded (place_count opening.setup) opening.setup opening
  opening_bounded opening (number, config, first, can, below, is) =
      let n = config.clients + number in
      let here = placed_on number first in
      let on : AllByRecursion (λ f. ((f.holders ≢ []) × AllByRecursion (λ h. h < config.clients + f.trustee) f.holders) × ((f.trustee == number) ≡ true)) here =
      all_filter _ (λ f. f.trustee == number) first (all_both _ _ first can.held can.below) in
      rw is (record {
        setup = refl;
        next_id = (omega arith, let few = can.ids number in omega (arith, few));
        next_ticket = (omega arith, let last = can.last_id in omega (arith, last));
        most = let same = opened_long T n 1 here in let few = can.room number in omega (arith, same, few);
        objects = opened_bounded T n 1 here
            (all_weaker _ (λ f. (f.holders ≢ []) × AllByRecursion (λ h. h < n) f.holders) here
            (λ f k. (
              k.0.0,
              all_weaker (λ h. h < config.clients + f.trustee) (λ h. h < n) f.holders
                  (λ h lt. let e = is_same f.trustee number k.1 in omega (arith, lt, e)) k.0.1,
            )) on);
        gifts = all_replicate (λ (p : Place V O R T). length p.gifts ≤ MOST_GIFTS) n no_place (omega arith);
      })

  pub states_are_sound : (kind : Kind V O R T) → StatesAreSound kind
  states_are_sound kind opening log is legal =
      let n = place_count opening.setup in
      let s = state_after kind opening log in
      let start = opening_ordered opening is in
      let ordered : IsOrdered n s = log_ordered kind n opening log legal start in
      let h : IsBounded n opening.setup s = log_bounded kind n opening.setup opening log refl legal start (opening_bounded opening is) in
      record {
        setup = h.setup;
        next_id = rw h.setup h.next_id;
        next_ticket = rw h.setup h.next_ticket;
        ids = IsStrictlyIncreasing-from_sorted _ (rises_sorted n 1 s.next_id s.live ordered.rises);
        objects = all_weaker _ _ s.live
            (λ o k. record { id = k.1.0; total = k.0.1; places = k.1.1; holds = k.0.0.holds; works = k.0.0.works })
            (all_both _ _ s.live h.objects (rises_all n 1 s.next_id s.live ordered.rises));
        most = rw h.setup h.most;
        places = ordered.places;
        gifts = h.gifts;
      }
