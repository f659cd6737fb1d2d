-- Each row: what a body reads and writes serves the request.
use Rattle.std.proofs.Common.{◌≡◌, ℕ, ◌+◌, ◌-◌, ◌<◌, ◌≤◌, true, false, List, [], ◌∷◌, ◌++◌, length, map, slice_index_or, slice_set, IsSomeAnd, inl, inr, refl, sym, ◌∙◌, ap, subst, arith}
use Rattle.std.specs.List.{remove}
use Rattle.std.proofs.Math.ListN.{replicate}
use Rattle.std.specs.declared.option.Option.{Option}
use Rattle.std.specs.declared.option.Option.TheVariants.{Some}
use Rattle.std.specs.declared.result.Result.TheVariants.{Ok}
use Rattle.std.proofs.lemmas.List.{get_or_default}
use Rattle.tm_seq.specs.Kind.{Kind, KindLaws, IsRun}
use Rattle.tm_batch.specs.declared.limits.TheConstants.{MOST_GIFTS, MOST_HOLDS}
use Rattle.tm_batch.specs.declared.message.Name.{Name}
use Rattle.tm_batch.specs.declared.message.Request.TheVariants.{Entrust, Apply, Launch, Grant, Release, Reclaim}
use Rattle.tm_batch.specs.declared.message.Answer.TheVariants.{Entrusted, Replied, Launched, Granted, Released, Reclaimed}
use Rattle.tm_model.specs.State.{Start, Work, Object, Place, State, holds_of, with_holds, total, change, kept, object_of, no_place, place_of, with_place, with_live}
use Rattle.tm_model.specs.Serve.{value_run, closed}
use Rattle.tm_model.specs.Legal.{IsGiftRefused}
use Rattle.tm_model.proofs.Running.{run_value}
use Rattle.tm_reference.specs.Live.{with_work, Holds}
use Rattle.tm_reference.specs.Served.{IsServed}

pub some_and : {X : Type 0} {r : Option X} (P : X → Type 0) (x : X) → r ≡ Some x → P x → IsSomeAnd r P
some_and P x e h = subst (λ t. IsSomeAnd t P) (sym e) h

zeros : {X : Type 0} (xs : List X) → replicate {A = ℕ} (length xs) 0 ≡ map (λ _. 0) xs
zeros [] = refl
zeros (x ∷ xs) = ap (λ (ns : List ℕ). 0 ∷ ns) (zeros xs)

module _ {V T : Type 0} where
  moved : {live from : List (Object V T)} (c id i : ℕ) → live ≡ from → Holds live c id i → Holds from c id i
  moved c id i same h = subst (λ (l : List (Object V T)). Holds l c id i) same h

  -- what holds of the object that stands at a position holds of the one of that id
  of_object : {live : List (Object V T)} {c id i : ℕ} (P : Object V T → Type 0) (h : Holds live c id i) → P h.0 → IsSomeAnd (object_of live id) P
  of_object P h p = some_and P h.0 h.1.found p

module _ {V O R T : Type 0} where
  apply-core :
      (kind : Kind V O R T) → KindLaws kind → (s : State V O R T) (c i : ℕ) (n : Name) (op : O) (r : R) (x y : Object V T)
      → Holds s.live c n.id i → x ≡ slice_index_or s.live i x → IsRun kind x.value op y.value r → y ≡ record x { value = y.value }
      → IsServed kind s c (Apply n op) (Ok (Replied r)) (with_live (slice_set s.live i y) s)
  apply-core kind laws s c i n op r x y h here run is =
      let o = h.0 in
      let same : x ≡ h.0 = here ∙ h.1.here x in
      let lawful : IsRun kind h.0.value op y.value r = subst (λ (z : Object V T). IsRun kind z.value op y.value r) same run in
      let value : y.value ≡ value_run kind h.0.value op r = run_value kind laws h.0.value y.value op r lawful in
      let f : Object V T → Object V T = λ z. record z { value = value_run kind z.value op r } in
      let new : y ≡ f h.0 =
      is ∙ ap (λ (z : Object V T). record z { value = y.value }) same ∙ ap (λ (v : V). record h.0 { value = v }) value in (
        (
          of_object (λ (z : Object V T). 1 ≤ holds_of z c) h h.2,
          of_object (λ (z : Object V T). IsRun kind z.value op (value_run kind z.value op r) r) h
              (subst (λ (v : V). IsRun kind h.0.value op v r) value lawful),
        ),
        ap (λ (l : List (Object V T)). with_live l s) (ap (slice_set s.live i) new ∙ sym (h.1.alone f)),
      )

  pub apply-row :
      (kind : Kind V O R T) → KindLaws kind → {v s : State V O R T} → v ≡ s → {live : List (Object V T)} → live ≡ v.live
      → (c i : ℕ) (n : Name) (op : O) (r : R) (x y : Object V T)
      → Holds live c n.id i → x ≡ slice_index_or v.live i x → IsRun kind x.value op y.value r → y ≡ record x { value = y.value }
      → IsServed kind s c (Apply n op) (Ok (Replied r)) (with_live (slice_set v.live i y) v)
  apply-row kind laws {v} {s} e same c i n op r x y h here run is =
      subst (λ (t : State V O R T). IsServed kind t c (Apply n op) (Ok (Replied r)) (with_live (slice_set v.live i y) v)) e
      (apply-core kind laws v c i n op r x y (moved c n.id i same h) here run is)

  launch-core :
      (kind : Kind V O R T) (s : State V O R T) (c i : ℕ) (n : Name) (task : T) (x y : Object V T)
      → Holds s.live c n.id i → x ≡ slice_index_or s.live i x → s.next_ticket ≤ s.setup.config.last_id
      → y ≡ with_work (record { place = c; ticket = s.next_ticket; task = task; awaits = Start }) x
      → IsServed kind s c (Launch n task) (Ok (Launched s.next_ticket)) (record s { next_ticket = s.next_ticket + 1; live = slice_set s.live i y })
  launch-core kind s c i n task x y h here room is =
      let w : Work T = record { place = c; ticket = s.next_ticket; task = task; awaits = Start } in
      let new : y ≡ with_work w h.0 = is ∙ ap (with_work w) (here ∙ h.1.here x) in (
        (of_object (λ (z : Object V T). 1 ≤ holds_of z c) h h.2, (refl, room)),
        ap (λ (l : List (Object V T)). record s { next_ticket = s.next_ticket + 1; live = l })
            (ap (slice_set s.live i) new ∙ sym (h.1.alone (with_work w))),
      )

  pub launch-row :
      (kind : Kind V O R T) {v s : State V O R T} → v ≡ s → {live : List (Object V T)} → live ≡ v.live
      → (c i : ℕ) (n : Name) (task : T) (x y : Object V T)
      → Holds live c n.id i → x ≡ slice_index_or v.live i x → v.next_ticket ≤ v.setup.config.last_id
      → y ≡ with_work (record { place = c; ticket = v.next_ticket; task = task; awaits = Start }) x
      → IsServed kind s c (Launch n task) (Ok (Launched v.next_ticket)) (record v { next_ticket = v.next_ticket + 1; live = slice_set v.live i y })
  launch-row kind {v} {s} e same c i n task x y h here room is =
      subst
      (λ (t : State V O R T). IsServed kind t c (Launch n task) (Ok (Launched v.next_ticket))
      (record v { next_ticket = v.next_ticket + 1; live = slice_set v.live i y }))
      e
      (launch-core kind v c i n task x y (moved c n.id i same h) here room is)

  grant-core :
      (kind : Kind V O R T) (s : State V O R T) (c i d m : ℕ) (n : Name) (x y : Object V T) (p q : Place V O R T)
      → Holds s.live c n.id i → x ≡ slice_index_or s.live i x → d < s.setup.config.clients → d < length s.places
      → p ≡ slice_index_or s.places d p → p.is_closed ≡ false → m ≡ holds_of x d → length p.gifts < MOST_GIFTS → m < MOST_HOLDS
      → q ≡ record p { gifts = p.gifts ++ n ∷ [] } → y ≡ with_holds d (m + 1) x
      → IsServed kind s c (Grant n d) (Ok Granted) (record s { places = slice_set s.places d q; live = slice_set s.live i y })
  grant-core kind s c i d m n x y p q h here client place stands is_open holds few less gave more =
      let same : x ≡ h.0 = here ∙ h.1.here x in
      let at : p ≡ place_of s d = stands ∙ get_or_default s.places d p no_place place in
      let count : m ≡ holds_of h.0 d = holds ∙ ap (λ (z : Object V T). holds_of z d) same in
      let f : Object V T → Object V T = λ z. with_holds d (holds_of z d + 1) z in
      let new : y ≡ f h.0 = more ∙ ap (λ (z : Object V T). with_holds d (m + 1) z) same ∙ ap (λ k. with_holds d (k + 1) h.0) count in
      let gifts : q ≡ record (place_of s d) { gifts = (place_of s d).gifts ++ n ∷ [] } =
      gave ∙ ap (λ (z : Place V O R T). record z { gifts = z.gifts ++ n ∷ [] }) at in
      let length_same : length p.gifts ≡ length (place_of s d).gifts = ap (λ (z : Place V O R T). length z.gifts) at in (
        (
          of_object (λ (z : Object V T). 1 ≤ holds_of z c) h h.2,
          client,
          (
            ap (λ (z : Place V O R T). z.is_closed) (sym at) ∙ is_open,
            of_object (λ (z : Object V T). ¬ IsGiftRefused s d z) h
                (elim [ inl full ↦ omega (arith, full, few, length_same) | inr full ↦ omega (arith, full, less, count) ]),
          ),
        ),
        ap (λ (l : List (Object V T)). record s { places = slice_set s.places d q; live = l })
            (ap (slice_set s.live i) new ∙ sym (h.1.alone f))
            ∙ ap (λ (z : Place V O R T). with_place d z (with_live (change n.id f s.live) s)) gifts,
      )

  pub grant-row :
      (kind : Kind V O R T) {v s : State V O R T} → v ≡ s → {live : List (Object V T)} → live ≡ v.live
      → (c i d m : ℕ) (n : Name) (x y : Object V T) (p q : Place V O R T)
      → Holds live c n.id i → x ≡ slice_index_or v.live i x → d < v.setup.config.clients → d < length v.places
      → p ≡ slice_index_or v.places d p → p.is_closed ≡ false → m ≡ holds_of x d → length p.gifts < MOST_GIFTS → m < MOST_HOLDS
      → q ≡ record p { gifts = p.gifts ++ n ∷ [] } → y ≡ with_holds d (m + 1) x
      → IsServed kind s c (Grant n d) (Ok Granted) (record v { places = slice_set v.places d q; live = slice_set v.live i y })
  grant-row kind {v} {s} e same c i d m n x y p q h here client place stands is_open holds few less gave more =
      subst
      (λ (t : State V O R T). IsServed kind t c (Grant n d) (Ok Granted)
      (record v { places = slice_set v.places d q; live = slice_set v.live i y }))
      e
      (grant-core kind v c i d m n x y p q (moved c n.id i same h) here client place stands is_open holds few less gave more)

  release-core :
      (kind : Kind V O R T) (s : State V O R T) (c i m : ℕ) (n : Name) (x y : Object V T) (new : List (Object V T))
      → Holds s.live c n.id i → x ≡ slice_index_or s.live i x → m ≡ holds_of x c → y ≡ with_holds c (m - 1) x
      → new ≡ kept (slice_set s.live i y)
      → IsServed kind s c (Release n) (Ok Released) (with_live new s)
  release-core kind s c i m n x y new h here holds less is =
      let same : x ≡ h.0 = here ∙ h.1.here x in
      let count : m ≡ holds_of h.0 c = holds ∙ ap (λ (z : Object V T). holds_of z c) same in
      let f : Object V T → Object V T = λ z. with_holds c (holds_of z c - 1) z in
      let one : y ≡ f h.0 = less ∙ ap (λ (z : Object V T). with_holds c (m - 1) z) same ∙ ap (λ k. with_holds c (k - 1) h.0) count in (
        (of_object (λ (z : Object V T). 1 ≤ holds_of z c) h h.2, refl),
        ap (λ (l : List (Object V T)). with_live l s) (is ∙ ap kept (ap (slice_set s.live i) one ∙ sym (h.1.alone f))),
      )

  pub release-row :
      (kind : Kind V O R T) {v s : State V O R T} → v ≡ s → {live : List (Object V T)} → live ≡ v.live
      → (c i m : ℕ) (n : Name) (x y : Object V T) (new : List (Object V T))
      → Holds live c n.id i → x ≡ slice_index_or v.live i x → m ≡ holds_of x c → y ≡ with_holds c (m - 1) x
      → new ≡ kept (slice_set v.live i y)
      → IsServed kind s c (Release n) (Ok Released) (with_live new v)
  release-row kind {v} {s} e same c i m n x y new h here holds less is =
      subst (λ (t : State V O R T). IsServed kind t c (Release n) (Ok Released) (with_live new v)) e
      (release-core kind v c i m n x y new (moved c n.id i same h) here holds less is)

  reclaim-core :
      (kind : Kind V O R T) (s : State V O R T) (c i : ℕ) (n : Name) (w : V) (x y : Object V T) (new : List (Object V T))
      → Holds s.live c n.id i → x ≡ slice_index_or s.live i x → total x ≡ 1 → y ≡ slice_index_or s.live i y → w ≡ y.value
      → new ≡ remove s.live i → IsServed kind s c (Reclaim n) (Ok (Reclaimed w)) (with_live new s)
  reclaim-core kind s c i n w x y new h here last there value is =
      let same : x ≡ h.0 = here ∙ h.1.here x in
      let taken : w ≡ h.0.value = value ∙ ap (λ (z : Object V T). z.value) (there ∙ h.1.here y) in (
        (
          of_object (λ (z : Object V T). 1 ≤ holds_of z c) h h.2,
          of_object (λ (z : Object V T). (total z ≡ 1) × (w ≡ z.value)) h
              (subst (λ (z : Object V T). total z ≡ 1) same last, taken),
        ),
        ap (λ (l : List (Object V T)). with_live l s) (is ∙ sym h.1.others),
      )

  pub reclaim-row :
      (kind : Kind V O R T) {v s : State V O R T} → v ≡ s → {live : List (Object V T)} → live ≡ v.live
      → (c i : ℕ) (n : Name) (w : V) (x y : Object V T) (new : List (Object V T))
      → Holds live c n.id i → x ≡ slice_index_or v.live i x → total x ≡ 1 → y ≡ slice_index_or v.live i y → w ≡ y.value
      → new ≡ remove v.live i → IsServed kind s c (Reclaim n) (Ok (Reclaimed w)) (with_live new v)
  reclaim-row kind {v} {s} e same c i n w x y new h here last there value is =
      subst (λ (t : State V O R T). IsServed kind t c (Reclaim n) (Ok (Reclaimed w)) (with_live new v)) e
      (reclaim-core kind v c i n w x y new (moved c n.id i same h) here last there value is)

  entrust-core :
      (kind : Kind V O R T) (s : State V O R T) (c place : ℕ) (v : V) (holds : List ℕ) (new : List (Object V T))
      → length s.live < s.setup.config.objects → s.next_id ≤ s.setup.config.last_id
      → holds ≡ slice_set (replicate (length s.places) 0) c 1
      → new ≡ s.live ++ record { id = s.next_id; value = v; holds = holds; works = [] } ∷ []
      → IsServed kind s c (Entrust v) (Ok (Entrusted (record { id = s.next_id; place = place }))) (record s { next_id = s.next_id + 1; live = new })
  entrust-core kind s c place v holds new room left one is =
      let hs : holds ≡ slice_set (map (λ _. 0) s.places) c 1 = one ∙ ap (λ (ns : List ℕ). slice_set ns c 1) (zeros s.places) in (
        (refl, room, left),
        ap (λ (l : List (Object V T)). record s { next_id = s.next_id + 1; live = l })
            (is ∙ ap (λ (ns : List ℕ). s.live ++ record { id = s.next_id; value = v; holds = ns; works = [] } ∷ []) hs),
      )

  pub entrust-row :
      (kind : Kind V O R T) {u s : State V O R T} → u ≡ s
      → (c place : ℕ) (v : V) (holds : List ℕ) (new : List (Object V T))
      → length u.live < u.setup.config.objects → u.next_id ≤ u.setup.config.last_id
      → holds ≡ slice_set (replicate (length u.places) 0) c 1
      → new ≡ u.live ++ record { id = u.next_id; value = v; holds = holds; works = [] } ∷ []
      → IsServed kind s c (Entrust v) (Ok (Entrusted (record { id = u.next_id; place = place }))) (record u { next_id = u.next_id + 1; live = new })
  entrust-row kind {u} {s} e c place v holds new room left one is =
      subst
      (λ (t : State V O R T). IsServed kind t c (Entrust v) (Ok (Entrusted (record { id = u.next_id; place = place })))
      (record u { next_id = u.next_id + 1; live = new }))
      e
      (entrust-core kind u c place v holds new room left one is)

  pub closes :
      {v s : State V O R T} → v ≡ s → (c : ℕ) (p q : Place V O R T) (live new : List (Object V T)) → c < length v.places
      → p ≡ slice_index_or v.places c p → q ≡ record p { is_closed = true; gifts = [] } → live ≡ map (with_holds c 0) v.live → new ≡ kept live
      → record v { places = slice_set v.places c q; live = new } ≡ closed c s
  closes {v} {s} e c p q live new place stands is dropped keeps =
      let at : p ≡ place_of v c = stands ∙ get_or_default v.places c p no_place place in
      let gone : q ≡ record (place_of v c) { is_closed = true; gifts = [] } =
      is ∙ ap (λ (z : Place V O R T). record z { is_closed = true; gifts = [] }) at in
      ap (λ (l : List (Object V T)). record v { places = slice_set v.places c q; live = l }) (keeps ∙ ap kept dropped)
      ∙ ap (λ (z : Place V O R T). with_place c z (with_live (kept (map (with_holds c 0) v.live)) v)) gone
      ∙ ap (closed c) e
