-- What a change of one node does to the buckets.
use Rattle.std.proofs.Common.{◌≡◌, ◌≢◌, ℕ, ◌+◌, ◌%◌, ◌<◌, List, [], ◌∷◌, ◌++◌, length, get_or, set, replicate, cond, Option, Some, None, is_some, IsSome, refl, sym, ap, subst, ◌∙◌, inl, inr, arith, append_assoc}
use Rattle.std.specs.Prelude.{⊤}
use Rattle.std.proofs.lemmas.Bool.{cases_eq}
use Rattle.std.proofs.lemmas.List.{get_or-set_same, get_or-set_other, length-set, length-replicate, get_or-replicate}
use Rattle.std.proofs.lemmas.List.Sums.{sum_by-set}
use Rattle.slab.proofs.SlabLemmas.{ContainsKey-within, Updates-with_value}
use Rattle.slab.specs.Slab.{Slab, get as at_key, slab_len, Updates, with_value}
use Rattle.tm_latch.specs.declared.lines.Line.{Line}
use Rattle.tm_latch.specs.declared.lines.Node.{Node}
use Rattle.tm_latch.specs.declared.lines.Spot.{Spot}
use Rattle.tm_latch.specs.Lines.{Pairs, get, AreDistinct, node_of, Reaches, in_bucket, IsTable, IsBefore, IsSpot}
use Rattle.tm_latch.proofs.Pairs.{AllIds, all_front, all_back, all_first, all_both, all_from, none_all, all_none, distinct_split, of_bucket, get_bucket, get_at, bucket_distinct, bucket_cons_own, bucket_cons_other, put, change, bucket_change_own, bucket_change_other, change_at, distinct_change}
use Rattle.tm_latch.proofs.Chains.{some_same}
use Rattle.tm_latch.proofs.Table.{Stays, reaches_same, reaches_append, reaches_one, reaches_cons, before_reaches}

-- every id is an id
all_any : (l : Pairs) → AllIds (λ i. ⊤) l
unfolding AllIds
all_any [] = tt
all_any (p ∷ l) = (tt, all_any l)

-- the node that is changed or goes has this id, so nodes of other ids stay
stays_other : (id key : ℕ) (n : Node) (old new : Slab Node) (slot : Option Node) → at_key old key ≡ Some n → n.id ≡ id → Updates old new key slot → Stays (λ i. i ≢ id) old new
stays_other id key n old new slot here mine updates k m there differs =
    updates.others k (λ same.
    let one : n ≡ m = some_same _ _ (sym here ∙ (ap (λ (i : ℕ). at_key old i) (sym same) ∙ there)) in
    differs (ap (λ (x : Node). x.id) (sym one) ∙ mine)) ∙ there

-- a write over a node leaves their number
pub written_len : (nodes : Slab Node) (key : ℕ) (old new : Node) → at_key nodes key ≡ Some old → slab_len (with_value nodes key new) ≡ slab_len nodes
written_len nodes key old new there =
    let within = ContainsKey-within nodes key (rw there refl) in
    let sums = sum_by-set (λ (slot : Option Node). cond (is_some slot) 1 0) nodes.slots key (Some new) None within in
    omega (arith, rw there at sums)

-- no bucket has a node
pub table_none : (n : ℕ) (firsts : List (Option ℕ)) (nodes : Slab Node) → 0 < n → firsts ≡ replicate n None → nodes.slots ≡ [] → IsTable firsts nodes []
unfolding Reaches AreDistinct
table_none n firsts nodes some none empty =
    let len : length firsts ≡ n = ap (λ (l : List (Option ℕ)). length l) none ∙ length-replicate n None in
    record {
      some = rw len some;
      chains = λ b in_range. rw none (get_or-replicate n b None None (rw len at in_range));
      distinct = tt;
      count = rw empty refl;
    }

module _ (firsts : List (Option ℕ)) (nodes : Slab Node) (pairs : Pairs) (table : IsTable firsts nodes pairs) (id : ℕ) where
  -- the bucket of the id
  abbrev own : ℕ
  own = id % length firsts

  -- one pair more
  module _ (key : ℕ) (v : Line) (new : Slab Node) (within : own < length firsts) (absent : get pairs id ≡ None) (vacant : at_key nodes key ≡ None)
      (added : Updates nodes new key (Some (node_of (id, v) (get_or firsts own None)))) (more : slab_len new ≡ slab_len nodes + 1) where
    all_stay : Stays (λ i. ⊤) nodes new
    all_stay k m there any =
        added.others k (λ same. let none : None ≡ Some m = sym vacant ∙ (ap (λ (i : ℕ). at_key nodes i) (sym same) ∙ there) in absurd (cc)) ∙ there

    old_chain : (b : ℕ) → b < length firsts → Reaches new (get_or firsts b None) (in_bucket (length firsts) b pairs) None
    old_chain b in_range = reaches_same (λ i. ⊤) nodes new all_stay (in_bucket (length firsts) b pairs) (all_any (in_bucket (length firsts) b pairs)) (get_or firsts b None) None (table.chains b in_range)

    added_own : Reaches new (Some key) (in_bucket (length firsts) own ((id, v) ∷ pairs)) None
    added_own =
        subst (λ (l : Pairs). Reaches new (Some key) l None) (sym (bucket_cons_own (length firsts) id v pairs))
        (reaches_cons new key (id, v) (get_or firsts own None) (in_bucket (length firsts) own pairs) None added.changed (old_chain own within))

    added_other : (b : ℕ) → b < length firsts → b ≢ own → Reaches new (get_or firsts b None) (in_bucket (length firsts) b ((id, v) ∷ pairs)) None
    added_other b in_range differs =
        subst (λ (l : Pairs). Reaches new (get_or firsts b None) l None) (sym (bucket_cons_other (length firsts) b id v pairs differs)) (old_chain b in_range)

    added_chain : (b : ℕ) → b < length firsts → Reaches new (get_or (set firsts own (Some key)) b None) (in_bucket (length firsts) b ((id, v) ∷ pairs)) None
    added_chain b in_range = elim (cases_eq b own) [
      | inl same ↦
          subst (λ (i : ℕ). Reaches new (get_or (set firsts own (Some key)) i None) (in_bucket (length firsts) i ((id, v) ∷ pairs)) None) (sym same)
          (subst (λ (f : Option ℕ). Reaches new f (in_bucket (length firsts) own ((id, v) ∷ pairs)) None) (sym (get_or-set_same firsts own (Some key) None within)) added_own)
      | inr differs ↦
          subst (λ (f : Option ℕ). Reaches new f (in_bucket (length firsts) b ((id, v) ∷ pairs)) None) (sym (get_or-set_other firsts own b (Some key) None differs))
          (added_other b in_range differs)
    ]

    added_chains :
        (n : ℕ) → n ≡ length firsts → (b : ℕ) → b < n → Reaches new (get_or (set firsts own (Some key)) b None) (in_bucket n b ((id, v) ∷ pairs)) None
    added_chains n len b in_range =
        subst (λ (m : ℕ). Reaches new (get_or (set firsts own (Some key)) b None) (in_bucket m b ((id, v) ∷ pairs)) None) (sym len) (added_chain b (rw len at in_range))

    adds_distinct : AreDistinct ((id, v) ∷ pairs)
    unfolding AreDistinct
    adds_distinct = (absent, table.distinct)

    pub table_add : IsTable (set firsts own (Some key)) new ((id, v) ∷ pairs)
    table_add = record {
      some = rw (length-set firsts own (Some key)) table.some;
      chains = added_chains (length (set firsts own (Some key))) (length-set firsts own (Some key));
      distinct = adds_distinct;
      count = omega (arith, more, table.count);
    }

  -- the line of the id changes, or goes
  module _ (spot : Spot) (is_spot : IsSpot nodes (get_or firsts own None) (in_bucket (length firsts) own pairs) id spot) where
    chain_distinct : AreDistinct (is_spot.front ++ (id, is_spot.line) ∷ is_spot.back)
    chain_distinct = rw is_spot.parts at (bucket_distinct (length firsts) own pairs table.distinct)

    alone : (get is_spot.front id ≡ None) × (get is_spot.back id ≡ None)
    alone = distinct_split is_spot.front (id, is_spot.line) is_spot.back chain_distinct

    -- it is the line of the id
    pub spot_line : get pairs id ≡ Some is_spot.line
    spot_line = sym (get_bucket (length firsts) id pairs) ∙ (ap (λ (l : Pairs). get l id) is_spot.parts ∙ get_at id is_spot.front is_spot.line is_spot.back alone.0)

    -- where the pairs of its bucket are so and other buckets stay, all are
    table_change :
        (slot : Option Line) (firsts' : List (Option ℕ)) (new : Slab Node) → length firsts' ≡ length firsts
        → ((b : ℕ) → b ≢ own → get_or firsts' b None ≡ get_or firsts b None) → Stays (λ i. i % length firsts ≢ own) nodes new
        → Reaches new (get_or firsts' own None) (is_spot.front ++ put id slot is_spot.back) None → slab_len new ≡ length (change id slot pairs)
        → IsTable firsts' new (change id slot pairs)
    table_change slot firsts' new len others stays chain count =
        let n = length firsts in
        record {
          some = rw len table.some;
          chains = λ b in_range. rw len (elim (cases_eq b own) [
            | inl same ↦ rw (same, bucket_change_own id n slot pairs, is_spot.parts, change_at id slot is_spot.front is_spot.line is_spot.back alone.0) chain
            | inr differs ↦
                rw (others b differs, bucket_change_other id n b slot pairs differs)
                (reaches_same _ nodes new stays (in_bucket n b pairs)
                (all_from (λ i. i % n ≡ b) (λ i. i % n ≢ own) (λ i is away. differs (sym is ∙ away)) (in_bucket n b pairs) (of_bucket n b pairs))
                (get_or firsts b None) None (table.chains b (rw len at in_range)))
          ]);
          distinct = distinct_change id slot pairs table.distinct;
          count = count;
        }

    -- nodes of other buckets have other ids
    away_other : (i : ℕ) → i % length firsts ≢ own → i ≢ id
    away_other i away same = away (ap (λ (j : ℕ). j % length firsts) same)

    front_stays : (new : Slab Node) → Stays (λ i. i ≢ id) nodes new → Reaches new (get_or firsts own None) is_spot.front (Some spot.key)
    front_stays new stays =
        reaches_same (λ i. i ≢ id) nodes new stays is_spot.front (none_all is_spot.front id alone.0) (get_or firsts own None) (Some spot.key)
        (before_reaches nodes (get_or firsts own None) is_spot.front spot.before (Some spot.key) is_spot.before)

    back_stays : (new : Slab Node) → Stays (λ i. i ≢ id) nodes new → Reaches new is_spot.next is_spot.back None
    back_stays new stays = reaches_same (λ i. i ≢ id) nodes new stays is_spot.back (none_all is_spot.back id alone.1) is_spot.next None is_spot.behind

    -- its node has another line
    pub table_set :
        (v : Line) (new : Slab Node) → Updates nodes new spot.key (Some (node_of (id, v) is_spot.next)) → slab_len new ≡ slab_len nodes → length (change id (Some v) pairs) ≡ length pairs
        → IsTable firsts new (change id (Some v) pairs)
    table_set v new updates count len =
        let stays = stays_other id spot.key (node_of (id, is_spot.line) is_spot.next) nodes new (Some (node_of (id, v) is_spot.next)) is_spot.here refl updates in
        table_change (Some v) firsts new refl (λ b differs. refl) (λ k m there away. stays k m there (away_other m.id away))
        (reaches_append new is_spot.front ((id, v) ∷ is_spot.back) (get_or firsts own None) (Some spot.key) None (front_stays new stays)
        (reaches_cons new spot.key (id, v) is_spot.next is_spot.back None updates.changed (back_stays new stays)))
        (omega (arith, count, len, table.count))

    pub table_write :
        (v : Line) (r : Node) → at_key nodes spot.key ≡ Some r → length (change id (Some v) pairs) ≡ length pairs
        → IsTable firsts (with_value nodes spot.key (record { id = r.id; line = v; next = r.next })) (change id (Some v) pairs)
    table_write v r read len =
        let wrote : Node = record { id = r.id; line = v; next = r.next } in
        let is : wrote ≡ node_of (id, v) is_spot.next = ap (λ (n : Node). record n { line = v }) (some_same _ _ (sym read ∙ is_spot.here)) in
        table_set v (with_value nodes spot.key wrote)
        (subst (λ (n : Node). Updates nodes (with_value nodes spot.key wrote) spot.key (Some n)) is (Updates-with_value nodes spot.key wrote (rw read refl)))
        (written_len nodes spot.key r wrote read) len

    -- its node goes
    module _ (new : Slab Node) (updates : Updates nodes new spot.key None) (count : slab_len new + 1 ≡ slab_len nodes) (len : length (change id None pairs) + 1 ≡ length pairs) where
      gone_stays : Stays (λ i. i ≢ id) nodes new
      gone_stays = stays_other id spot.key (node_of (id, is_spot.line) is_spot.next) nodes new None is_spot.here refl updates

      -- it was the first of its bucket
      pub table_lose_first : (within : own < length firsts) → spot.before ≡ None → IsTable (set firsts own is_spot.next) new (change id None pairs)
      unfolding IsBefore
      table_lose_first within is =
          let before = rw is at is_spot.before in
          table_change None (set firsts own is_spot.next) new (length-set firsts own is_spot.next) (λ b differs. get_or-set_other firsts own b is_spot.next None differs)
          (λ k m there away. gone_stays k m there (away_other m.id away))
          (rw (get_or-set_same firsts own is_spot.next None within, before.0) (back_stays new gone_stays))
          (omega (arith, count, len, table.count))

      -- or stood behind another node, which now has the next
      module _ (at : ℕ) (is : spot.before ≡ Some at) where
        behind : IsBefore nodes (get_or firsts own None) is_spot.front (Some at) (Some spot.key)
        behind = rw is at is_spot.before

        -- that node
        last : record {
          ahead : Pairs;
          p : ℕ × Line;
          front : is_spot.front ≡ ahead ++ p ∷ [];
          reach : Reaches nodes (get_or firsts own None) ahead (Some at);
          there : at_key nodes at ≡ Some (node_of p (Some spot.key));
        }
        unfolding IsBefore
        last = record { ahead = behind.0; p = behind.1; front = behind.2; reach = behind.3; there = behind.4 }

        others_not_id : AllIds (λ i. i ≢ id) (last.ahead ++ last.p ∷ [])
        others_not_id = rw last.front at (none_all is_spot.front id alone.0)

        last_not_id : last.p.0 ≢ id
        last_not_id = all_first (λ i. i ≢ id) last.p [] (all_back (λ i. i ≢ id) last.ahead (last.p ∷ []) others_not_id)

        last_own : last.p.0 % length firsts ≡ own
        last_own =
            let all = rw (is_spot.parts, last.front) at (of_bucket (length firsts) own pairs) in
            all_first _ last.p [] (all_back _ last.ahead (last.p ∷ []) (all_front _ (last.ahead ++ last.p ∷ []) ((id, is_spot.line) ∷ is_spot.back) all))

        apart : (get last.ahead last.p.0 ≡ None) × (get ((id, is_spot.line) ∷ is_spot.back) last.p.0 ≡ None)
        apart =
            let whole = rw (last.front, append_assoc last.ahead (last.p ∷ []) ((id, is_spot.line) ∷ is_spot.back)) at chain_distinct in
            distinct_split last.ahead last.p ((id, is_spot.line) ∷ is_spot.back) whole

        still_there : at_key new at ≡ Some (node_of last.p (Some spot.key))
        still_there = gone_stays at (node_of last.p (Some spot.key)) last.there last_not_id

        pub before_there : IsSome (at_key new at)
        before_there = rw still_there refl

        module _ (r : Node) (read : at_key new at ≡ Some r) where
          -- it with the next
          abbrev pub relinked : Node
          relinked = record { id = r.id; line = r.line; next = is_spot.next }

          module _ (newer : Slab Node) (linked : Updates new newer at (Some relinked)) (same_count : slab_len newer ≡ slab_len new) where
            is_last : Some relinked ≡ Some (node_of last.p is_spot.next)
            is_last = ap (λ (m : Node). Some (record m { next = is_spot.next })) (some_same _ _ (sym read ∙ still_there))

            both_stay : Stays (λ i. (i ≢ id) × (i ≢ last.p.0)) nodes newer
            both_stay k m there differs =
                stays_other last.p.0 at (node_of last.p (Some spot.key)) new newer (Some relinked) still_there refl linked k m (gone_stays k m there differs.0) differs.1

            both_reach : (l : Pairs) → AllIds (λ i. i ≢ id) l → get l last.p.0 ≡ None → (from to : Option ℕ) → Reaches nodes from l to → Reaches newer from l to
            both_reach l not_id not_last from to =
                reaches_same (λ i. (i ≢ id) × (i ≢ last.p.0)) nodes newer both_stay l (all_both (λ i. i ≢ id) (λ i. i ≢ last.p.0) l not_id (none_all l last.p.0 not_last)) from to

            back_apart : get is_spot.back last.p.0 ≡ None
            back_apart =
                all_none is_spot.back last.p.0
                (all_back (λ i. i ≢ last.p.0) ((id, is_spot.line) ∷ []) is_spot.back (none_all ((id, is_spot.line) ∷ is_spot.back) last.p.0 apart.1))

            front_reach : Reaches newer (get_or firsts own None) (last.ahead ++ last.p ∷ []) is_spot.next
            front_reach =
                reaches_append newer last.ahead (last.p ∷ []) (get_or firsts own None) (Some at) is_spot.next
                (both_reach last.ahead (all_front (λ i. i ≢ id) last.ahead (last.p ∷ []) others_not_id) apart.0 (get_or firsts own None) (Some at) last.reach)
                (reaches_one newer at last.p is_spot.next (linked.changed ∙ is_last))

            lost_chain : Reaches newer (get_or firsts own None) (is_spot.front ++ is_spot.back) None
            lost_chain =
                rw last.front
                (reaches_append newer (last.ahead ++ last.p ∷ []) is_spot.back (get_or firsts own None) is_spot.next None front_reach
                (both_reach is_spot.back (none_all is_spot.back id alone.1) back_apart is_spot.next None is_spot.behind))

            pub table_lose_behind : IsTable firsts newer (change id None pairs)
            table_lose_behind =
                table_change None firsts newer refl (λ b differs. refl)
                (λ k m there away. both_stay k m there (away_other m.id away, λ same. away (ap (λ (j : ℕ). j % length firsts) same ∙ last_own)))
                lost_chain
                (omega (arith, count, same_count, len, table.count))
