-- What a trustee has once a launch has gone on.
use Rattle.std.proofs.Common.{◌≡◌, ℕ, ◌+◌, ◌<◌, ◌≤◌, true, false, cond, List, [], ◌∷◌, ◌++◌, length, map, slice_index_or, slice_set, inl, inr, refl, sym, ◌∙◌, ap, subst, arith, eq-eqb, ne_eqb, length-append, length-set, get_or-set_same, get_or-set_other}
use Rattle.std.specs.Prelude.{◌==◌, IsSome}
use Rattle.std.specs.List.{AllByRecursion}
use Rattle.std.specs.declared.option.Option.TheVariants.{Some}
use Rattle.std.proofs.Math.ListN.{get_or-map}
use Rattle.std.proofs.Math.Seq.{map-set_same}
use Rattle.std.proofs.lemmas.Bool.{cases_eq}
use Rattle.std.proofs.lemmas.List.{length-map, map-set}
use Rattle.tm_seq.specs.declared.kind.Next.TheVariants.{Ask, Done}
use Rattle.tm_batch.specs.declared.limits.TheConstants.{WINDOW}
use Rattle.tm_batch.specs.declared.message.Completion.{Completion}
use Rattle.tm_batch.specs.declared.message.Name.{Name}
use Rattle.tm_latch.specs.declared.ticket.Ticket.{Ticket}
use Rattle.tm_latch.specs.Tickets.{first_of, tickets_of, with_first, without_first}
use Rattle.tm_latch.proofs.Listed.{left_own, left_other, with_own, with_other}
use Rattle.tm_model.specs.State.{AskOf, Work, Object, Place, State, no_place, place_of, place_count, object_of, change, kept, with_place, with_live}
use Rattle.tm_model.specs.Serve.{works_resumed, works_in, completed}
use Rattle.tm_model.specs.Holds.{works_of, unfinished}
use Rattle.tm_model.specs.Laws.{IsSound, IsSoundObject}
use Rattle.tm_objects.specs.Live.{Live, HasLive}
use Rattle.tm_objects.specs.Live as live
use Rattle.tm_objects.specs.Stock.{Stock, changed, finished}
use Rattle.tm_objects.specs.Standing.{live_of, stock_of}
use Rattle.tm_objects.proofs.Alike.{changes_alike, finishes_alike}
use Rattle.tm_core.proofs.CallerLemmas.{all_weaker}
use Rattle.tm_core.proofs.Finding.{found_id, all_found}
use Rattle.tm_core.proofs.Unfinished.{unfinished_kept, unfinished_changed, unfinished_without}
use Rattle.tm_state.specs.Launches.{Pending, AwaitsAny, work_of, works_at}
use Rattle.tm_state.specs.StateView.{StateView}
use Rattle.tm_state.specs.Represents.{Keeps}
use Rattle.tm_state.proofs.LaunchTickets.{head_of}
use Rattle.tm_state.proofs.ResumeLands.{ask_next, done_next, gone, settled, settled_ask, change_twice, held_total, works_as_many}
use Rattle.tm_state.proofs.RowsLaunch.{all_change}
use Rattle.tm_state.proofs.RowsLive.{found_alike}
use Rattle.tm_state.proofs.RowsOrder.{sound_ordered}
use Rattle.tm_state.proofs.RowsWorks.{some_of, map_some, stay_kept}

module _ {K : Type 0} where
  -- what holds of the first launch of an object
  pub all_first : (P : Ticket K → Type 0) (id : ℕ) (ts : List (Ticket K)) (t : Ticket K) → first_of id ts ≡ Some t → AllByRecursion P ts → P t
  all_first P id [] t e all = absurd cc
  all_first P id (u ∷ ts) t e all =
      elim (cases_eq u.id id) [
        | inl here ↦ let f = rw (eq-eqb u.id id here) at e in let same : u ≡ t = cc in subst P same all.0
        | inr ne ↦ all_first P id ts t (rw (ne_eqb u.id id ne) at e) all.1
      ]

  -- what holds of all, where the first of an object has another task, or is gone
  pub all_with : (P : Ticket K → Type 0) (id : ℕ) (k : K) (ts : List (Ticket K)) → ((t : Ticket K) → t.id ≡ id → P t → P (record t { task = k })) → AllByRecursion P ts → AllByRecursion P (with_first id k ts)
  unfolding with_first
  all_with P id k [] step all = tt
  all_with P id k (t ∷ ts) step all =
      elim (cases_eq t.id id) [
        | inl e ↦ rw (eq-eqb t.id id e) (step t e all.0, all.1)
        | inr ne ↦ rw (ne_eqb t.id id ne) (all.0, all_with P id k ts step all.1)
      ]

  pub all_without : (P : Ticket K → Type 0) (id : ℕ) (ts : List (Ticket K)) → AllByRecursion P ts → AllByRecursion P (without_first id ts)
  unfolding without_first
  all_without P id [] all = tt
  all_without P id (t ∷ ts) all =
      elim (cases_eq t.id id) [
        | inl e ↦ rw (eq-eqb t.id id e) all.1
        | inr ne ↦ rw (ne_eqb t.id id ne) (all.0, all_without P id ts all.1)
      ]

module _ {O T : Type 0} where
  works_of_ask : (R : Type 0) (c : ℕ) (ws : List (Work T)) (u x : ℕ) (op : O) (task : T) → works_of c (works_resumed ws (ask_next R u x op task)) ≡ works_of c ws
  works_of_ask R c [] u x op task = refl
  works_of_ask R c (w ∷ ws) u x op task = refl

module _ {V T : Type 0} where
  -- two changes of one id that are alike to the stock
  live_change :
      (id : ℕ) (f g : Object V T → Object V T) (objects : List (Object V T)) → ((o : Object V T) → live_of (f o) ≡ live_of (g o))
      → map live_of (change id f objects) ≡ map live_of (change id g objects)
  live_change id f g [] same = refl
  live_change id f g (o ∷ objects) same =
      let more = live_change id f g objects same in
      elim (cases_eq o.id id) [
        | inl e ↦ rw (eq-eqb o.id id e, same o, more) refl
        | inr ne ↦ rw (ne_eqb o.id id ne, more) refl
      ]

  unfinished_same :
      (c id : ℕ) (f : Object V T → Object V T) (objects : List (Object V T)) → ((o : Object V T) → works_of c (f o).works ≡ works_of c o.works)
      → unfinished c (change id f objects) ≡ unfinished c objects
  unfinished_same c id f [] same = refl
  unfinished_same c id f (o ∷ objects) same =
      let more = unfinished_same c id f objects same in
      elim (o.id == id) as (λ t. works_of c (cond t (f o) o).works + unfinished c (change id f objects) ≡ works_of c o.works + unfinished c objects) [
        | true ↦ rw (same o, more) refl
        | false ↦ ap (λ n. works_of c o.works + n) more
      ]

module _ {V : Type 0} where
  -- an object that has launches has them with another value
  changed_has :
      (w : V) (id : ℕ) (objects : List (Live V)) (o : Live V) → live.object_of objects id ≡ Some o → 1 ≤ o.launches
      → HasLive (live.change id (λ o. live.with_value w o) objects) id (λ o. 1 ≤ o.launches)
  changed_has w id [] o e many = absurd cc
  changed_has w id (x ∷ objects) o e many =
      elim (cases_eq x.id id) [
        | inl here ↦
            let f = rw (eq-eqb x.id id here) at e in
            let same : x ≡ o = cc in
            rw (eq-eqb x.id id here, eq-eqb x.id id here) (subst (λ (y : Live V). 1 ≤ y.launches) (sym same) many)
        | inr ne ↦ rw (ne_eqb x.id id ne, ne_eqb x.id id ne) (changed_has w id objects o (rw (ne_eqb x.id id ne) at e) many)
      ]

module _ {V O R T : Type 0} where
  -- a launch that is the first of its object, in what is kept and in the state
  pub record FirstAt (s : State V O R T) (h : StateView V O R T) (l : Ticket (Pending T)) : Type 0 where
    pub object : Object V T
    pub found : object_of s.live l.id ≡ Some object
    pub rest : List (Ticket (Pending T))
    pub tickets : tickets_of l.id h.launched ≡ l ∷ rest
    pub works : object.works ≡ work_of l ∷ map work_of rest
    pub has : live.object_of h.stock.live l.id ≡ Some (live_of object)

  pub first_at : (s : State V O R T) (h : StateView V O R T) (l : Ticket (Pending T)) → Keeps s h → first_of l.id h.launched ≡ Some l → FirstAt s h l
  first_at s h l k first =
      let (o, at) = some_of (object_of s.live l.id) (all_first (λ t. IsSome (object_of s.live t.id)) l.id h.launched l first k.live) in
      let (rest, is) = head_of l.id h.launched l first in
      let kept_works = all_found (λ x. works_at x.id h.launched ≡ x.works) l.id s.live o at k.works in
      let own = found_id s.live l.id o at in
      record {
        object = o;
        found = at;
        rest = rest;
        tickets = is;
        works = sym kept_works ∙ ap (λ i. works_at i h.launched) own ∙ ap (λ ts. map work_of ts) is;
        has = ap (λ (x : Stock V). live.object_of x.live l.id) k.stock ∙ found_alike s.live l.id o at;
      }

  module _ (opening s : State V O R T) (sound : IsSound opening s) (h : StateView V O R T) (k : Keeps s h) (l : Ticket (Pending T)) (first : first_of l.id h.launched ≡ Some l) (w : V) where
    at : FirstAt s h l
    at = first_at s h l k first

    -- the object of a launch counts it
    pub launch_counts : HasLive (changed l.id h.stock w).live l.id (λ o. 1 ≤ o.launches)
    launch_counts =
        let many : 1 ≤ length at.object.works = let e = ap length at.works in omega (arith, e) in
        changed_has w l.id h.stock.live (live_of at.object) at.has many

    -- its place is one, where so many completions are not ready
    pub place_is : l.task.place < length s.places
    place_is =
        let all = all_found (IsSoundObject opening s) l.id s.live at.object at.found sound.objects in
        let own = (subst (λ ws. AllByRecursion (λ w. (w.place < place_count opening.setup) × (w.ticket < s.next_ticket)) ws) at.works all.works).0.0 in
        let long = sound.places in
        omega (arith, own, long)

    pub ready_place : l.task.place < length h.ready
    ready_place =
        let long : length h.ready ≡ length s.places = ap length k.ready ∙ length-map s.places (λ (p : Place V O R T). p.ready) in
        let lt = place_is in
        omega (arith, long, lt)

    seen : slice_index_or h.ready l.task.place [] ≡ (place_of s l.task.place).ready
    seen = ap (λ r. slice_index_or r l.task.place []) k.ready ∙ get_or-map (λ (p : Place V O R T). p.ready) s.places l.task.place no_place

    counted : 1 ≤ unfinished l.task.place s.live
    counted =
        let gone = unfinished_without (place_count opening.setup) 1 s.next_id l.task.place l.id s.live at.object (sound_ordered opening s sound).rises at.found in
        let own : works_of l.task.place at.object.works ≡ 1 + works_of l.task.place (map work_of at.rest) =
        ap (works_of l.task.place) at.works ∙ ap (λ t. cond t 1 0 + works_of l.task.place (map work_of at.rest)) (eq-eqb l.task.place l.task.place refl) in
        omega (arith, gone, own)

    pub ready_room : length (slice_index_or h.ready l.task.place []) < WINDOW
    ready_room =
        let most = k.most l.task.place place_is in
        let one = counted in
        let long = ap length seen in
        omega (arith, most, one, long)

    named : at.object.id ≡ l.id
    named = found_id s.live l.id at.object at.found

    live_now : (f : Object V T → Object V T) (ts : List (Ticket (Pending T))) → ((o : Object V T) → (f o).id ≡ o.id) → AllByRecursion (λ t. IsSome (object_of s.live t.id)) ts → AllByRecursion (λ t. IsSome (object_of (change l.id f s.live) t.id)) ts
    live_now f ts same all =
        all_weaker _ _ ts
        (λ t some. map_some (λ o. cond (o.id == l.id) (f o) o) s.live t.id
        (λ o. elim (o.id == l.id) as (λ b. (cond b (f o) o).id ≡ o.id) [ true ↦ same o | false ↦ refl ]) some) all

    -- it goes on as the task of an ask
    module _ (u x : ℕ) (op : O) (task : T) where
      works_then : (o : Object V T) → o.id ≡ l.id → works_at o.id h.launched ≡ o.works → works_at o.id (with_first l.id (record { place = l.task.place; task = task; awaits = AskOf u x }) h.launched) ≡ works_resumed o.works (ask_next R u x op task)
      works_then o own e =
          let to : Pending T = record { place = l.task.place; task = task; awaits = AskOf u x } in
          let now = with_own l.id to h.launched l at.rest at.tickets in
          let was : o.works ≡ work_of l ∷ map work_of at.rest = sym e ∙ ap (λ i. works_at i h.launched) own ∙ ap (λ ts. map work_of ts) at.tickets in
          ap (λ i. works_at i (with_first l.id to h.launched)) own ∙ ap (λ ts. map work_of ts) now ∙ sym (ap (λ ws. works_resumed ws (ask_next R u x op task)) was)

      pub keeps_ask :
          (stock : Stock V) (launched : List (Ticket (Pending T))) (ready : List (List (Completion V O R T))) (entries : ℕ) → AwaitsAny s.setup (AskOf u x)
          → stock ≡ changed l.id h.stock w → launched ≡ with_first l.id (record { place = l.task.place; task = task; awaits = AskOf u x }) h.launched → ready ≡ h.ready
          → Keeps (settled l.id l.number w (Ask u x op task) s) (record h { stock = stock; launched = launched; ready = ready; entries = entries })
      keeps_ask stock launched ready entries awaits is_stock is_launched is_ready =
          let to : Pending T = record { place = l.task.place; task = task; awaits = AskOf u x } in
          let f : Object V T → Object V T = gone w (ask_next R u x op task) in
          let objects : map live_of (change l.id f s.live) ≡ map live_of (change l.id (λ o. record o { value = w }) s.live) =
          live_change l.id f (λ o. record o { value = w }) s.live
          (λ o. ap (λ n. record { id = o.id; value = w; holds = o.holds; launches = n }) (works_as_many R o.works u x op task)) in
          let stocks : stock ≡ stock_of (with_live (change l.id f s.live) s) =
          is_stock ∙ ap (λ (y : Stock V). changed l.id y w) k.stock ∙ sym (changes_alike V O R T l.id w s)
          ∙ ap (λ (ls : List (Live V)). record (stock_of s) { live = ls }) (sym objects) in
          subst (λ z. Keeps z (record h { stock = stock; launched = launched; ready = ready; entries = entries }))
          (sym (settled_ask l.id l.number u x op task w s (held_total opening s sound)))
          (rw is_launched (record {
            config = k.config;
            number = k.number;
            stock = stocks;
            closed = k.closed;
            next_ticket = k.next_ticket;
            works = all_change _ _ l.id f s.live (λ o own e. works_then o own e) (λ o other e. ap (λ ts. map work_of ts) (with_other l.id to h.launched o.id other) ∙ e) k.works;
            live = live_now f (with_first l.id to h.launched) (λ o. refl) (all_with (λ t. IsSome (object_of s.live t.id)) l.id to h.launched (λ t own some. some) k.live);
            awaits = all_with (λ t. AwaitsAny s.setup t.task.awaits) l.id to h.launched (λ t own any. awaits) k.awaits;
            ready = is_ready ∙ k.ready;
            most = λ c lt.
                let same = unfinished_same c l.id f s.live (λ o. works_of_ask R c o.works u x op task) in
                let most = k.most c lt in
                omega (arith, same, most);
          }))

    -- it ends
    module _ (r : R) where
      works_end : (o : Object V T) → o.id ≡ l.id → works_at o.id h.launched ≡ o.works → works_at o.id (without_first l.id h.launched) ≡ works_resumed {O = O} o.works (Done r)
      works_end o own e =
          let now = left_own l.id h.launched l at.rest at.tickets in
          let was : o.works ≡ work_of l ∷ map work_of at.rest = sym e ∙ ap (λ i. works_at i h.launched) own ∙ ap (λ ts. map work_of ts) at.tickets in
          ap (λ i. works_at i (without_first l.id h.launched)) own ∙ ap (λ ts. map work_of ts) now ∙ sym (ap (λ ws. works_resumed {O = O} ws (Done r)) was)

      lands : settled l.id l.number w (Done r) s
          ≡ with_place l.task.place (record (place_of s l.task.place) { ready = (place_of s l.task.place).ready ++ record { ticket = l.number; reply = r } ∷ [] })
          (with_live (kept (change l.id (gone w (done_next O r)) s.live)) s)
      lands =
          let to : State V O R T = with_live (kept (change l.id (gone w (done_next O r)) s.live)) s in
          ap (λ y. completed (works_in y) l.number (Done r) to) at.found ∙ ap (λ ws. completed ws l.number (Done r) to) at.works

      objects_end : kept (change l.id (gone w (done_next O r)) s.live) ≡ kept (change l.id (λ o. record o { works = works_resumed {O = O} o.works (Done r) }) (change l.id (λ o. record o { value = w }) s.live))
      objects_end =
          ap kept (sym (change_twice l.id (λ o. record o { value = w }) (λ o. record o { works = works_resumed {O = O} o.works (Done r) }) (gone w (done_next O r)) s.live (λ o. refl) (λ o. refl)))

      -- one launch of the place is unfinished no more, and its completion is ready
      most_end :
          (c : ℕ) → c < length s.places
          → unfinished c (kept (change l.id (gone w (done_next O r)) s.live))
          + length (slice_index_or (slice_set s.places l.task.place (record (place_of s l.task.place) { ready = (place_of s l.task.place).ready ++ record { ticket = l.number; reply = r } ∷ [] })) c no_place).ready ≤ WINDOW
      most_end c lt =
          let f : Object V T → Object V T = gone w (done_next O r) in
          let p : Place V O R T = record (place_of s l.task.place) { ready = (place_of s l.task.place).ready ++ record { ticket = l.number; reply = r } ∷ [] } in
          let stay = unfinished_kept c (change l.id f s.live) in
          let less = unfinished_changed (place_count opening.setup) 1 s.next_id c l.id f s.live at.object (sound_ordered opening s sound).rises at.found in
          let own : works_of c at.object.works ≡ cond (l.task.place == c) 1 0 + works_of c (map work_of at.rest) = ap (works_of c) at.works in
          let left : works_of c (works_resumed {O = O} at.object.works (Done r)) ≡ works_of c (map work_of at.rest) = ap (λ ws. works_of c (works_resumed {O = O} ws (Done r))) at.works in
          let most = k.most c lt in
          elim (cases_eq l.task.place c) [
            | inl here ↦
                let within : l.task.place < length s.places = place_is in
                let is : slice_index_or (slice_set s.places l.task.place p) c no_place ≡ p = ap (λ i. slice_index_or (slice_set s.places l.task.place p) i no_place) (sym here) ∙ get_or-set_same s.places l.task.place p no_place within in
                let now : length (slice_index_or (slice_set s.places l.task.place p) c no_place).ready ≡ length (place_of s l.task.place).ready + 1 =
                ap (λ (q : Place V O R T). length q.ready) is ∙ length-append (place_of s l.task.place).ready _ in
                let was : length (place_of s c).ready ≡ length (place_of s l.task.place).ready = ap (λ i. length (place_of s i).ready) (sym here) in
                let one : works_of c at.object.works ≡ 1 + works_of c (map work_of at.rest) = own ∙ ap (λ t. cond t 1 0 + works_of c (map work_of at.rest)) (eq-eqb l.task.place c here) in
                omega (arith, stay, less, one, left, most, now, was)
            | inr ne ↦
                let now : length (slice_index_or (slice_set s.places l.task.place p) c no_place).ready ≡ length (place_of s c).ready =
                ap (λ (q : Place V O R T). length q.ready) (get_or-set_other s.places l.task.place c p no_place (λ e. ne (sym e))) in
                let none : works_of c at.object.works ≡ 0 + works_of c (map work_of at.rest) = own ∙ ap (λ t. cond t 1 0 + works_of c (map work_of at.rest)) (ne_eqb l.task.place c ne) in
                omega (arith, stay, less, none, left, most, now)
          ]

      pub keeps_done :
          (stock : Stock V) (launched : List (Ticket (Pending T))) (ready : List (List (Completion V O R T))) (entries : ℕ)
          → stock ≡ finished l.id (changed l.id h.stock w) → launched ≡ without_first l.id h.launched
          → ready ≡ slice_set h.ready l.task.place (slice_index_or h.ready l.task.place [] ++ record { ticket = l.number; reply = r } ∷ [])
          → Keeps (settled l.id l.number w (Done r) s) (record h { stock = stock; launched = launched; ready = ready; entries = entries })
      keeps_done stock launched ready entries is_stock is_launched is_ready =
          let f : Object V T → Object V T = gone w (done_next O r) in
          let c = l.task.place in
          let done : Completion V O R T = record { ticket = l.number; reply = r } in
          let p : Place V O R T = record (place_of s c) { ready = (place_of s c).ready ++ done ∷ [] } in
          let to : State V O R T = with_live (kept (change l.id f s.live)) s in
          let valued : State V O R T = with_live (change l.id (λ o. record o { value = w }) s.live) s in
          let gifts = map-set_same (λ (q : Place V O R T). q.gifts) s.places c p no_place refl in
          let closed = map-set_same (λ (q : Place V O R T). q.is_closed) s.places c p no_place refl in
          let long : length (slice_set s.places c p) ≡ length s.places = length-set s.places c p in
          let stocks : stock ≡ stock_of (with_place c p to) =
          is_stock ∙ ap (λ (y : Stock V). finished l.id (changed l.id y w)) k.stock ∙ ap (finished l.id) (sym (changes_alike V O R T l.id w s))
          ∙ sym (finishes_alike V O R T l.id r valued)
          ∙ ap (λ ls. stock_of (with_live ls s)) (sym objects_end)
          ∙ ap (λ (g : List (List Name)). record (stock_of to) { gifts = g }) (sym gifts) in
          let now : ready ≡ map (λ q. q.ready) (slice_set s.places c p) =
          is_ready ∙ ap (λ xs. slice_set h.ready c (xs ++ done ∷ [])) seen ∙ ap (λ rs. slice_set rs c ((place_of s c).ready ++ done ∷ [])) k.ready
          ∙ sym (map-set (λ (q : Place V O R T). q.ready) s.places c p) in
          let kept_now = stay_kept (change l.id f s.live) (without_first l.id h.launched)
          (record {
            works = all_change _ _ l.id f s.live (λ o own e. works_end o own e) (λ o other e. ap (λ ts. map work_of ts) (left_other l.id h.launched o.id other) ∙ e) k.works;
            known = live_now f (without_first l.id h.launched) (λ o. refl) (all_without (λ t. IsSome (object_of s.live t.id)) l.id h.launched k.live);
          }) in
          subst (λ z. Keeps z (record h { stock = stock; launched = launched; ready = ready; entries = entries })) (sym lands)
          (rw is_launched (record {
            config = k.config;
            number = k.number;
            stock = stocks;
            closed = k.closed ∙ sym closed;
            next_ticket = k.next_ticket;
            works = kept_now.works;
            live = kept_now.known;
            awaits = all_without (λ t. AwaitsAny s.setup t.task.awaits) l.id h.launched k.awaits;
            ready = now;
            most = λ d lt. most_end d (omega (arith, long, lt));
          }))
