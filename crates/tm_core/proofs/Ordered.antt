-- `IsOrdered`: ids rise, each object has holds for all places, and there are as many places as ever; it is so after each legal log.
-- Other crates import from this file.
use Rattle.std.proofs.Common.{◌≡◌, ℕ, suc, ◌+◌, List, [], ◌∷◌, length, map, refl, ◌∙◌, subst, arith, length-set}
use Rattle.std.proofs.lemmas.List.{length-map}
use Rattle.std.proofs.lemmas.List.FromFn.{length-map-range_with_len}
use Rattle.std.proofs.Math.ListN.{length-replicate}
use Rattle.tm_seq.specs.Kind.{Kind}
use Rattle.tm_seq.specs.declared.kind.Next.{Next}
use Rattle.tm_seq.specs.declared.kind.Next.TheVariants.{Done}
use Rattle.tm_batch.specs.declared.config.First.{First}
use Rattle.tm_batch.specs.declared.message.Request.{Request}
use Rattle.tm_batch.specs.declared.message.Request.TheVariants.{Entrust, Apply, Launch, Grant, Release, Reclaim, Bye}
use Rattle.tm_batch.specs.declared.message.Answer.{Answer}
use Rattle.tm_batch.specs.declared.message.Answer.TheVariants.{Entrusted, Replied, Launched, Granted, Released, Reclaimed, ByeDone}
use Rattle.tm_model.specs.declared.entry.Entry.{Entry}
use Rattle.tm_model.specs.declared.entry.Entry.TheVariants.{By, Resume, Sent}
use Rattle.tm_model.specs.State.{Work, State, place_count, object_of}
use Rattle.tm_model.specs.Opening.{opened, placed_on}
use Rattle.tm_model.specs.Serve.{served, completed, works_in, after, state_after}
use Rattle.tm_model.specs.Legal.{Serves, MayCome, IsLegal}
use Rattle.tm_model.specs.Laws.{IsOpening}
use Rattle.tm_core.proofs.Rising.{RisesTo, rises_change, rises_filter, rises_map, rises-append}

module _ {V O R T : Type 0} where
  -- ids rise below the next one, and each object has holds for n places, of which there are n
  pub record IsOrdered (n : ℕ) (s : State V O R T) : Type 0 where
    pub rises : RisesTo n 1 s.next_id s.live
    pub places : length s.places ≡ n
    pub count : place_count s.setup ≡ n

  served_ordered :
      (kind : Kind V O R T) (n c : ℕ) (q : Request V O R T) (a : Answer V O R T) (s : State V O R T)
      → Serves kind s c q a → IsOrdered n s → IsOrdered n (served kind c q a s)
  served_ordered kind n c (Entrust v) (Entrusted name) s may h = record {
    rises = rises-append n 1 s.next_id s.live _ may.0 (length-set (map (λ _. 0) s.places) c 1 ∙ length-map s.places _ ∙ h.places) h.rises;
    places = h.places;
    count = h.count;
  }
  served_ordered kind n c (Apply i op) (Replied r) s may h =
      record { rises = rises_change n 1 s.next_id i.id _ s.live (λ o. refl) (λ o. refl) h.rises; places = h.places; count = h.count }
  served_ordered kind n c (Launch i task) (Launched ticket) s may h =
      record { rises = rises_change n 1 s.next_id i.id _ s.live (λ o. refl) (λ o. refl) h.rises; places = h.places; count = h.count }
  served_ordered kind n c (Grant i d) Granted s may h = record {
    rises = rises_change n 1 s.next_id i.id _ s.live (λ o. refl) (λ o. length-set o.holds d _) h.rises;
    places = length-set s.places d _ ∙ h.places;
    count = h.count;
  }
  served_ordered kind n c (Release i) Released s may h = record {
    rises = rises_filter n 1 s.next_id _ _ (rises_change n 1 s.next_id i.id _ s.live (λ o. refl) (λ o. length-set o.holds c _) h.rises);
    places = h.places;
    count = h.count;
  }
  served_ordered kind n c (Reclaim i) (Reclaimed v) s may h =
      record { rises = rises_filter n 1 s.next_id _ s.live h.rises; places = h.places; count = h.count }
  served_ordered kind n c Bye ByeDone s may h = record {
    rises = rises_filter n 1 s.next_id _ _ (rises_map n 1 s.next_id _ s.live (λ o. refl) (λ o. length-set o.holds c 0) h.rises);
    places = length-set s.places c _ ∙ h.places;
    count = h.count;
  }
  served_ordered kind n c _ _ s may h = h

  completed_ordered :
      (n : ℕ) (ws : List (Work T)) (ticket : ℕ) (next : Next O T R) (s : State V O R T) → IsOrdered n s → IsOrdered n (completed ws ticket next s)
  completed_ordered n (w ∷ ws) ticket (Done r) s h = record { rises = h.rises; places = length-set s.places w.place _ ∙ h.places; count = h.count }
  completed_ordered n _ ticket _ s h = h

  pub after_ordered : (kind : Kind V O R T) (n : ℕ) (s : State V O R T) (e : Entry V O R T) → MayCome kind s e → IsOrdered n s → IsOrdered n (after kind s e)
  after_ordered kind n s (By c k q a) may h =
      let more = served_ordered kind n c q a s may.2 h in
      record { rises = more.rises; places = length-set (served kind c q a s).places c _ ∙ more.places; count = more.count }
  after_ordered kind n s (Resume id ticket event next) may h =
      completed_ordered n (works_in (object_of s.live id)) ticket next _
      (record {
        rises = rises_filter n 1 s.next_id _ _ (rises_change n 1 s.next_id id _ s.live (λ o. refl) (λ o. refl) h.rises);
        places = h.places;
        count = h.count;
      })
  after_ordered kind n s (Sent c room) may h = record { rises = h.rises; places = length-set s.places c _ ∙ h.places; count = h.count }

  pub log_ordered : (kind : Kind V O R T) (n : ℕ) (s : State V O R T) (log : List (Entry V O R T)) → IsLegal kind s log → IsOrdered n s → IsOrdered n (state_after kind s log)
  log_ordered kind n s [] legal h = h
  log_ordered kind n s (e ∷ es) legal h = log_ordered kind n (after kind s e) es legal.1 (after_ordered kind n s e legal.0 h)

opened_rise : {V : Type 0} (T : Type 0) (places id : ℕ) (first : List (First V)) → RisesTo {V = V} {T = T} places id (id + length first) (opened places id first)
opened_rise T places id [] = omega arith
opened_rise {V} T places id (f ∷ first) =
    let e : id + 1 + length first ≡ id + suc (length first) = omega arith in
    (omega arith, length-map-range_with_len _ 0 places, subst (λ m. RisesTo {V = V} {T = T} places (id + 1) m (opened places (id + 1) first)) e (opened_rise T places (id + 1) first))

module _ {V O R T : Type 0} where
  pub opening_ordered : (opening : State V O R T) → IsOpening opening → IsOrdered (place_count opening.setup) opening
  opening_ordered opening (number, config, first, can, below, is) =
      rw is (record {
        rises = let e : 1 + length (placed_on number first) ≡ length (placed_on number first) + 1 = omega arith in
            subst (λ m. RisesTo {V = V} {T = T} (config.clients + number) 1 m (opened (config.clients + number) 1 (placed_on number first))) e (opened_rise T (config.clients + number) 1 (placed_on number first));
        places = length-replicate (config.clients + number) _;
        count = refl;
      })
