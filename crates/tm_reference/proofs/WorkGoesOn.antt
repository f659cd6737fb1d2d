-- What a resumed launch leaves: of its object, of its place, and of the state.
use Rattle.std.proofs.Common.{◌≡◌, ◌≢◌, ◌↔◌, IsTrue, ℕ, ◌+◌, ◌<◌, zero, suc, Bool, true, false, List, [], ◌∷◌, ◌++◌, length, slice_index_or, slice_set, IsSomeAnd, inl, inr, refl, sym, ◌∙◌, ap, subst, arith}
use Rattle.std.specs.List.{AllByRecursion, remove}
use Rattle.std.specs.declared.option.Option.{Option}
use Rattle.std.proofs.lemmas.List.{get_or_default, set-get_or}
use Rattle.tm_seq.specs.Kind.{Kind, KindLaws, IsResume}
use Rattle.tm_seq.specs.declared.kind.Event.{Event}
use Rattle.tm_seq.specs.declared.kind.Next.{Next}
use Rattle.tm_seq.specs.declared.kind.Next.TheVariants.{Ask, Done}
use Rattle.tm_batch.specs.declared.config.Config.{Config}
use Rattle.tm_model.specs.declared.entry.Entry.TheVariants.{Resume}
use Rattle.tm_model.specs.State.{Awaits, Work, Object, Place, State, change, kept, object_of, no_place, place_of, with_live}
use Rattle.tm_model.specs.Serve.{value_resumed, value_advanced, works_resumed, works_in, completed}
use Rattle.tm_model.specs.Legal.{IsAwaited, HasFirst, MayCome}
use Rattle.tm_reference.specs.declared.resumed.Resumed.{Resumed}
use Rattle.tm_reference.specs.declared.resumed.Resumed.TheVariants.{Asked, Ended}
use Rattle.tm_reference.specs.declared.resumed.Advance.{Advance}
use Rattle.tm_reference.specs.declared.resumed.Advance.TheVariants.{Asks, Ends}
use Rattle.tm_reference.specs.Live.{Rises, StandsAt}
use Rattle.tm_reference.specs.Kept.{IsKept}
use Rattle.tm_reference.specs.Resumed.{Shows, Tells, advanced, told, IsAdvanced, IsTold, IsResumed}
use Rattle.tm_reference.proofs.Keeping.{ArePlaced, kept_set, kept_filter, kept_place}
use Rattle.tm_reference.proofs.RowsServe.{some_and}

module _ {T : Type 0} where
  -- the first of some launches
  first_of :
      (works : List (Work T)) (P : Work T → Type 0) → HasFirst works P → (w : Work T) × (ws : List (Work T)) × (works ≡ w ∷ ws) × P w
  first_of [] P h = absurd h
  first_of (w ∷ ws) P h = (w, ws, refl, h)

  at_first : {works ws : List (Work T)} {w : Work T} (P : Work T → Type 0) → works ≡ w ∷ ws → HasFirst works P → P w
  at_first P e h = subst (λ (l : List (Work T)). HasFirst l P) e h

  has_first : {works ws : List (Work T)} {w : Work T} (P : Work T → Type 0) → works ≡ w ∷ ws → P w → HasFirst works P
  has_first P e h = subst (λ (l : List (Work T)). HasFirst l P) (sym e) h

  -- the launch that was taken out, and the others
  taken_out : (works : List (Work T)) → works ≢ [] → (w : Work T) → w ≡ slice_index_or works 0 w → works ≡ w ∷ remove works 0
  taken_out [] some w h = absurd (some refl)
  taken_out (y ∷ ys) some w h = ap (λ (z : Work T). z ∷ ys) (sym h)

  placed_resumed :
      {O R : Type 0} (n : ℕ) (works : List (Work T)) (next : Next O T R) → AllByRecursion (λ w. w.place < n) works
      → AllByRecursion (λ w. w.place < n) (works_resumed works next)
  placed_resumed n [] next h = tt
  placed_resumed n (w ∷ ws) (Ask u i op task) h = h
  placed_resumed n (w ∷ ws) (Done r) h = h.1

module _ {V O R T : Type 0} (kind : Kind V O R T) (laws : KindLaws kind) where
  done_value :
      (v w : V) (task : T) (event : Event R) (r : R) (t : Bool) → kind.lacks r ≡ t → w ≡ (kind.advance v task event).0
      → Done r ≡ (kind.advance v task event).1 → w ≡ value_resumed kind v task event (Done r)
  done_value v w task event r true lacks value next =
      let none : r ≡ kind.no_memory = (laws.lacks_is r).0 lacks in
      let ended : (kind.advance v task event).1 ≡ Done kind.no_memory = sym next ∙ ap (λ (z : R). Done z) none in
      rw lacks (value ∙ laws.advance_kept v task event ended)
  done_value v w task event r false lacks value next = rw lacks value

  -- the value after a lawful resume is that of the state's step
  resume_value :
      (v w : V) (task : T) (event : Event R) (next : Next O T R) → IsResume kind v task event w next → w ≡ value_resumed kind v task event next
  resume_value v w task event (Ask u i op after) run =
      elim run [
        | inl e ↦ ap (λ (p : V × Next O T R). p.0) e
        | inr e ↦ let not : Ask u i op after ≡ Done kind.no_memory = e.1 in cc
      ]
  resume_value v w task event (Done r) run =
      elim run [
        | inl e ↦
            done_value v w task event r (kind.lacks r) refl (ap (λ (p : V × Next O T R). p.0) e) (ap (λ (p : V × Next O T R). p.1) e)
        | inr e ↦
            let none : Done r ≡ Done kind.no_memory = e.1 in
            let reply : r ≡ kind.no_memory = cc in
            let lacks : kind.lacks r ≡ true = (laws.lacks_is r).1 reply in
            rw lacks e.0
      ]

  advance-core :
      (v : Object V T) (x : Work T) (rest new : List (Work T)) (event : Event R) (value : V) (next : Next O T R) (shown : Advance V O R T)
      → v.works ≡ x ∷ rest → IsResume kind v.value x.task event value next → new ≡ works_resumed (x ∷ rest) next → Shows x.ticket next shown
      → IsAdvanced kind v event (record v { value = value; works = new }) shown
  advance-core v x rest new event value next shown e run works shows =
      let is : value ≡ value_resumed kind v.value x.task event next = resume_value v.value value x.task event next run in
      record {
        next = next;
        lawful =
            has_first (λ (w : Work T). IsResume kind v.value w.task event (value_resumed kind v.value w.task event next) next) e
            (subst (λ (z : V). IsResume kind v.value x.task event z next) is run);
        is =
            ap (λ (z : V). record v { value = z; works = new }) is
            ∙ ap (λ (l : List (Work T)). record v { value = value_resumed kind v.value x.task event next; works = l }) works
            ∙ ap (λ (l : List (Work T)). record v { value = value_advanced kind v.value l event next; works = works_resumed l next }) (sym e);
        shows = has_first (λ (w : Work T). Shows w.ticket next shown) e shows;
      }

  pub advance-row :
      {v old : Object V T} → v ≡ old → old.works ≢ [] → {x w : Work T} → x ≡ w → w ≡ slice_index_or v.works 0 w
      → (rest new : List (Work T)) → rest ≡ remove v.works 0 → (event : Event R) (value : V) (next : Next O T R) (shown : Advance V O R T)
      → IsResume kind v.value x.task event value next → new ≡ works_resumed (x ∷ rest) next → Shows x.ticket next shown
      → IsAdvanced kind old event (record v { value = value; works = new }) shown
  advance-row {v} {old} e some {x} {w} same here rest new others event value next shown run works shows =
      let there : v.works ≢ [] = λ none. some (ap (λ (o : Object V T). o.works) (sym e) ∙ none) in
      let all : v.works ≡ x ∷ rest =
      taken_out v.works there w here ∙ ap (λ (z : Work T). z ∷ remove v.works 0) (sym same) ∙ ap (λ (l : List (Work T)). x ∷ l) (sym others) in
      subst (λ (o : Object V T). IsAdvanced kind o event (record v { value = value; works = new }) shown) e
      (advance-core v x rest new event value next shown all run works shows)

module _ {V T : Type 0} where
  -- the launches of an object that stands there are of places of the table
  placed_at :
      (n low next i : ℕ) (live : List (Object V T)) (x : Object V T) → Rises n low next live → i < length live → x ≡ slice_index_or live i x
      → ArePlaced n x
  placed_at n low next i [] x h lt at = absurd (omega (arith, lt))
  placed_at n low next zero (o ∷ live) x h lt at = subst (ArePlaced n) (sym at) h.1
  placed_at n low next (suc i) (o ∷ live) x h lt at = placed_at n (o.id + 1) next i live x h.2 (omega (arith, lt)) at

module _ {T : Type 0} where
  first_placed : (n : ℕ) (works : List (Work T)) (P : Work T → Type 0) → AllByRecursion (λ w. w.place < n) works → HasFirst works P → (w : Work T) × P w × (w.place < n)
  first_placed n [] P all h = absurd h
  first_placed n (w ∷ ws) P all h = (w, h, all.0)

module _ {R : Type 0} where
  pub may_be :
      (b : Bool) (config : Config) (number : ℕ) {above from : List (List ℕ)} (a : Awaits) (event : Event R) → above ≡ from
      → IsTrue b ↔ IsAwaited (record { config = config; number = number; above = above }) a event → b ≡ true
      → IsAwaited (record { config = config; number = number; above = from }) a event
  may_be b config number a event same both is = subst (λ (l : List (List ℕ)). IsAwaited (record { config = config; number = number; above = l }) a event) same (both.0 is)

  pub may_not_be :
      (b : Bool) (config : Config) (number : ℕ) {above from : List (List ℕ)} (a : Awaits) (event : Event R) → above ≡ from
      → IsTrue b ↔ IsAwaited (record { config = config; number = number; above = above }) a event → b ≡ false
      → ¬ IsAwaited (record { config = config; number = number; above = from }) a event
  may_not_be b config number a event same both is may =
      let yes : b ≡ true = both.1 (subst (λ (l : List (List ℕ)). IsAwaited (record { config = config; number = number; above = l }) a event) (sym same) may) in
      cc

module _ {V O R T : Type 0} where
  tells_asked :
      (works : List (Work T)) (next : Next O T R) (t u i : ℕ) (op : O) → HasFirst works (λ w. Shows {V = V} w.ticket next (Asks t u i op))
      → HasFirst works (λ w. Tells {V = V} w.ticket next (Asked t u i op)) × ((p : Place V O R T) → told next works p ≡ p)
  tells_asked [] next t u i op h = absurd h
  tells_asked (w ∷ ws) (Ask u' i' op' task) t u i op h = (h, λ p. refl)
  tells_asked (w ∷ ws) (Done r) t u i op h = absurd h

  tells_ended :
      (works : List (Work T)) (next : Next O T R) (t : ℕ) (reply : R) → HasFirst works (λ w. Shows {V = V} w.ticket next (Ends t reply))
      → HasFirst works (λ w. Tells {V = V} w.ticket next (Ended t))
      × ((p : Place V O R T) → told next works p ≡ record p { ready = p.ready ++ record { ticket = t; reply = reply } ∷ [] })
  tells_ended [] next t reply h = absurd h
  tells_ended (w ∷ ws) (Ask u i op task) t reply h = absurd h
  tells_ended (w ∷ ws) (Done r) t reply h = (
    h.0,
    λ p.
        ap (λ n. record p { ready = p.ready ++ record { ticket = n; reply = r } ∷ [] }) (sym h.0)
        ∙ ap (λ (z : R). record p { ready = p.ready ++ record { ticket = t; reply = z } ∷ [] }) (sym h.1),
  )

  pub asked_told :
      (kind : Kind V O R T) (old new : Object V T) (event : Event R) (t u i : ℕ) (op : O) {p q : Place V O R T} → p ≡ q
      → IsAdvanced kind old event new (Asks t u i op) → (after : Place V O R T) → after ≡ p → IsTold kind old q event new after (Asked t u i op)
  asked_told kind old new event t u i op {p} {q} e a after same =
      let tells = tells_asked old.works a.next t u i op a.shows in
      record { next = a.next; lawful = a.lawful; object = a.is; place_is = same ∙ e ∙ sym (tells.1 q); tells = tells.0 }

  pub ended_told :
      (kind : Kind V O R T) (old new : Object V T) (event : Event R) (t : ℕ) (reply : R) {p q : Place V O R T} → p ≡ q
      → IsAdvanced kind old event new (Ends t reply) → (after : Place V O R T)
      → after ≡ record p { ready = p.ready ++ record { ticket = t; reply = reply } ∷ [] } → IsTold kind old q event new after (Ended t)
  ended_told kind old new event t reply {p} {q} e a after same =
      let tells = tells_ended old.works a.next t reply a.shows in
      record {
        next = a.next;
        lawful = a.lawful;
        object = a.is;
        place_is = same ∙ ap (λ (z : Place V O R T). record z { ready = z.ready ++ record { ticket = t; reply = reply } ∷ [] }) e ∙ sym (tells.1 q);
        tells = tells.0;
      }

  pub place_of_first :
      (count next i place : ℕ) (places : List (Place V O R T)) {live from : List (Object V T)} → live ≡ from → (id : ℕ) (awaits : Awaits)
      (h : (o : Object V T) × StandsAt live id i o) (x : Object V T) → IsKept count next places from → x ≡ slice_index_or from i x
      → HasFirst x.works (λ w. (w.place ≡ place) × (w.awaits ≡ awaits)) → place < length places
  place_of_first count next i place places {live} {from} same id awaits h x k at first =
      let within : i < length from = subst (λ (l : List (Object V T)). i < length l) same h.1.in_range in
      let all = placed_at count 1 next i from x k.rises within at in
      let one = first_placed count x.works (λ w. (w.place ≡ place) × (w.awaits ≡ awaits)) all first in
      omega (arith, one.2, one.1.0, k.as_many)

  pub not_awaited :
      (kind : Kind V O R T) {v s : State V O R T} → v ≡ s → {live : List (Object V T)} → live ≡ v.live → (id i place : ℕ) (awaits : Awaits)
      (event : Event R) → (h : (o : Object V T) × StandsAt live id i o) (x : Object V T) → x ≡ slice_index_or v.live i x
      → HasFirst x.works (λ w. (w.place ≡ place) × (w.awaits ≡ awaits)) → ¬ IsAwaited v.setup awaits event
      → (ticket : ℕ) (next : Next O T R) → ¬ MayCome kind s (Resume id ticket event next)
  not_awaited kind {v} {s} e same id i place awaits event h x here first not ticket next may =
      let there = subst (λ (l : List (Object V T)). StandsAt l id i h.0) same h.1 in
      let may_v : MayCome kind v (Resume id ticket event next) =
      subst (λ (t : State V O R T). MayCome kind t (Resume id ticket event next)) (sym e) may in
      let Q : Work T → Type 0 =
      λ w. (w.ticket ≡ ticket) × IsAwaited v.setup w.awaits event
      × IsResume kind h.0.value w.task event (value_resumed kind h.0.value w.task event next) next in
      let found : HasFirst h.0.works Q =
      subst (λ (r : Option (Object V T)). IsSomeAnd r (λ o. HasFirst o.works (λ w. (w.ticket ≡ ticket) × IsAwaited v.setup w.awaits event
      × IsResume kind o.value w.task event (value_resumed kind o.value w.task event next) next))) there.found may_v in
      let is : x ≡ h.0 = here ∙ there.here x in
      let one = first_of x.works (λ w. (w.place ≡ place) × (w.awaits ≡ awaits)) first in
      let works : h.0.works ≡ one.0 ∷ one.1 = ap (λ (o : Object V T). o.works) (sym is) ∙ one.2 in
      let told : Q one.0 = at_first Q works found in
      not (subst (λ (a : Awaits). IsAwaited v.setup a event) one.3.1 told.1)

  completes :
      (next : Next O T R) (v : State V O R T) (place : ℕ) (p q : Place V O R T) (w : Work T) (ws : List (Work T)) → w.place ≡ place
      → p ≡ place_of v place → q ≡ told next (w ∷ ws) p
      → record v { places = slice_set v.places place q } ≡ completed (w ∷ ws) w.ticket next v
  completes (Ask u i op task) v place p q w ws e at is =
      ap (λ (z : Place V O R T). record v { places = slice_set v.places place z }) (is ∙ at)
      ∙ ap (λ (l : List (Place V O R T)). record v { places = l }) (set-get_or v.places place no_place)
  completes (Done r) v place p q w ws e at is =
      ap (λ (z : Place V O R T). record v { places = slice_set v.places place z })
      (is ∙ ap (λ (z : Place V O R T). record z { ready = z.ready ++ record { ticket = w.ticket; reply = r } ∷ [] }) at)
      ∙ ap (λ k. record v { places = slice_set v.places k (record (place_of v k) { ready = (place_of v k).ready ++ record { ticket = w.ticket; reply = r } ∷ [] }) })
      (sym e)

  resumed-core :
      (kind : Kind V O R T) (v : State V O R T) (id i place : ℕ) (awaits : Awaits) (event : Event R) (o x y : Object V T) (p q : Place V O R T)
      (result : Resumed V O R T) (new : List (Object V T)) → StandsAt v.live id i o → x ≡ slice_index_or v.live i x
      → HasFirst x.works (λ w. (w.place ≡ place) × (w.awaits ≡ awaits)) → IsAwaited v.setup awaits event → place < length v.places
      → p ≡ slice_index_or v.places place p → IsTold kind x p event y q result → new ≡ kept (slice_set v.live i y)
      → IsResumed kind v id event (record v { places = slice_set v.places place q; live = new }) result
  resumed-core kind v id i place awaits event o x y p q result new there here first may place_in at told_all keeps =
      let is : x ≡ o = here ∙ there.here x in
      let one = first_of x.works (λ w. (w.place ≡ place) × (w.awaits ≡ awaits)) first in
      let w = one.0 in
      let ws = one.1 in
      let next = told_all.next in
      let works : o.works ≡ one.0 ∷ one.1 = ap (λ (z : Object V T). z.works) (sym is) ∙ one.2 in
      let L : Object V T → Work T → Type 0 = λ z k. IsResume kind z.value k.task event (value_resumed kind z.value k.task event told_all.next) told_all.next in
      let lawful : L o one.0 = subst (λ (z : Object V T). L z one.0) is (at_first (L x) one.2 told_all.lawful) in
      let F : Object V T → Type 0 =
      λ z. HasFirst z.works (λ k. (k.ticket ≡ one.0.ticket) × IsAwaited v.setup k.awaits event × L z k) in
      let f : Object V T → Object V T = advanced kind event told_all.next in
      let changed : y ≡ f o = told_all.object ∙ ap f is in
      let live : new ≡ kept (change id f v.live) = keeps ∙ ap kept (ap (slice_set v.live i) changed ∙ sym (there.alone f)) in
      let q_is : q ≡ told told_all.next (one.0 ∷ one.1) p = told_all.place_is ∙ ap (λ (l : List (Work T)). told told_all.next l p) one.2 in
      let found : works_in (object_of v.live id) ≡ one.0 ∷ one.1 = ap (λ (r : Option (Object V T)). works_in r) there.found ∙ works in (
        one.0.ticket,
        told_all.next,
        some_and F o there.found
            (has_first (λ k. (k.ticket ≡ one.0.ticket) × IsAwaited v.setup k.awaits event × L o k) works
            (refl, subst (λ (a : Awaits). IsAwaited v.setup a event) (sym one.3.1) may, lawful)),
        completes told_all.next (with_live new v) place p q one.0 one.1 one.3.0 (at ∙ get_or_default v.places place p no_place place_in) q_is
            ∙ ap (λ (l : List (Object V T)). completed (one.0 ∷ one.1) one.0.ticket told_all.next (with_live l v)) live
            ∙ ap (λ (l : List (Work T)). completed l one.0.ticket told_all.next (with_live (kept (change id f v.live)) v)) (sym found),
        at_first (λ k. Tells k.ticket told_all.next result) one.2 told_all.tells,
      )

  pub resumed-row :
      (kind : Kind V O R T) {v s : State V O R T} → v ≡ s → {live : List (Object V T)} → live ≡ v.live → (id i place : ℕ) (awaits : Awaits)
      (event : Event R) (h : (o : Object V T) × StandsAt live id i o) (x y : Object V T) (p q : Place V O R T) (result : Resumed V O R T)
      (new : List (Object V T)) → x ≡ slice_index_or v.live i x → HasFirst x.works (λ w. (w.place ≡ place) × (w.awaits ≡ awaits))
      → IsAwaited v.setup awaits event → place < length v.places → p ≡ slice_index_or v.places place p → IsTold kind x p event y q result
      → new ≡ kept (slice_set v.live i y) → IsResumed kind s id event (record v { places = slice_set v.places place q; live = new }) result
  resumed-row kind {v} {s} e same id i place awaits event h x y p q result new here first may place_in at told_all keeps =
      let there = subst (λ (l : List (Object V T)). StandsAt l id i h.0) same h.1 in
      subst (λ (t : State V O R T). IsResumed kind t id event (record v { places = slice_set v.places place q; live = new }) result) e
      (resumed-core kind v id i place awaits event h.0 x y p q result new there here first may place_in at told_all keeps)

  pub kept_resumed :
      (kind : Kind V O R T) (count next i d : ℕ) (places : List (Place V O R T)) (live : List (Object V T)) {new : List (Object V T)}
      (x y : Object V T) (p q : Place V O R T) (event : Event R) (result : Resumed V O R T) → IsKept count next places live
      → x ≡ slice_index_or live i x → IsTold kind x p event y q result → new ≡ kept (slice_set live i y)
      → IsKept count next (slice_set places d q) new
  kept_resumed kind count next i d places live x y p q event result k here told_all keeps =
      kept_place count next d places q _
      (kept_filter count next places (slice_set live i y) _ _
      (kept_set count next i places live x y k here (ap (λ (z : Object V T). z.id) told_all.object)
      (λ all. subst (λ (z : Object V T). ArePlaced count z) (sym told_all.object) (placed_resumed count x.works told_all.next all)))
      keeps)
