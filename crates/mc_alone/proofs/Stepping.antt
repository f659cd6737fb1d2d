-- From one state between two commands to the next: each class goes on by just what it was asked.
use Rattle.std.proofs.Common.{◌≡◌, ℕ, ◌+◌, ◌<◌, ◌≤◌, inl, inr, List, [], ◌++◌, length, map, sym, ◌∙◌, ap, subst, arith}
use Rattle.std.specs.Prelude.{slice_get}
use Rattle.std.specs.List.{AllByRecursion, range_with_len}
use Rattle.std.specs.declared.option.Option.TheVariants.{Some}
use Rattle.std.proofs.lemmas.Bool.{cases_lt}
use Rattle.std.proofs.lemmas.List.FromFn.{get_or-map-range_with_len, length-map-range_with_len}
use Rattle.tm_seq.specs.declared.sum.Sum.TheVariants as sum
use Rattle.tm_laws.specs.Objects.{runs_of, value_by, HaveRun, ObjectsRun}
use Rattle.tm_model.specs.Latched.{tickets_of}
use Rattle.tm_pair.specs.Plain.{client_at, trustee_at}
use Rattle.tm_asking.specs.Questions.{requests_at, replies_at, HasAskedAll}
use Rattle.tm_rest.specs.Resting.{NothingCounts}
use Rattle.tm_trustee.specs.NestedAsks.{IsApply}
use Rattle.tm_turns.specs.Whole.{HasLane}
use Rattle.mc_item.specs.declared.limits.TheConstants.{CLASSES}
use Rattle.mc_model.specs.declared.reply.ShardReply.{ShardReply}
use Rattle.mc_model.specs.declared.reply.ShardReply.TheVariants.{Missing}
use Rattle.mc_model.specs.Class.{Class, new_class}
use Rattle.mc_laws.specs.Classes.{class_at}
use Rattle.mc_shard.specs.declared.op.ShardOp.{ShardOp}
use Rattle.mc_route.specs.Laws.{ClassesAreFound}
use Rattle.mc_route.specs.Places.{trustee_of, index_of}
use Rattle.mc_next.specs.Parts.{StoreQuestion, store_kind}
use Rattle.mc_solo.specs.Serving.{StoreTurns, LogsGrow}
use Rattle.mc_store_laws.specs.Parts.{ClassRuns, ValuesAreClasses}
use Rattle.mc_alone.specs.Classes.{StoreLane, StoreTrustee, IsLaunch, StandsAt}
use Rattle.mc_alone.proofs.Openings.{opening, trustee_within, class_opens}
use Rattle.mc_alone.proofs.Grown.{OfStore, trustee_at_number, is_opening, quiet_trustee, applies_all, seen_now, grew}

module _ (trustees bound : ℕ) (fewest : 2 ≤ trustees) (found : ClassesAreFound) (objects_run : ObjectsRun store_kind) (values_are : ValuesAreClasses)
    (n : ℕ) (classes : List Class) (old new : StoreTurns) (st : StandsAt trustees bound n classes old) (are : OfStore trustees bound new) (none : NothingCounts new) (logs : LogsGrow old new)
    (qs : List StoreQuestion) (replies : List ShardReply)
    (asked : (t : ℕ) (lane becomes : StoreLane) → HasLane old 0 t lane → HasLane new 0 t becomes
    → HasAskedAll Missing (requests_at t qs) (replies_at t qs replies) (client_at lane.side) (client_at becomes.side))
    (applies_more : (t : ℕ) → 1 ≤ t → AllByRecursion IsApply (requests_at t qs))
    (launches_now : (lane : StoreLane) → HasLane new 0 0 lane → AllByRecursion IsLaunch (client_at lane.side).sent × (length (client_at lane.side).sent ≤ n + 1))
    (own : ℕ → List (ShardOp × ShardReply))
    (own_is : (class : ℕ) (x y : StoreTrustee) (lt : trustee_of class trustees < trustees) → class < CLASSES → (of_x : slice_get old.trustees.items (trustee_of class trustees) ≡ Some x)
    → (of_y : slice_get new.trustees.items (trustee_of class trustees) ≡ Some y)
    → runs_of (index_of class trustees + 1) (grew trustees bound n classes old new st are none logs qs replies asked applies_more (trustee_of class trustees) x y lt of_x of_y).es ≡ own class) where
  -- a class was led to another state
  record IsLed (class : ℕ) (w : Class) : Type 0 where
    pub value : (y : StoreTrustee) → slice_get new.trustees.items (trustee_of class trustees) ≡ Some y
        → value_by store_kind (sum.First (new_class class 0 bound)) (index_of class trustees + 1) (trustee_at y.side).log ≡ sum.First w
    pub runs : ClassRuns (class_at classes class) (own class) w

  led : (class : ℕ) → class < CLASSES → (w : Class) × IsLed class w
  led class below =
      let t = trustee_of class trustees in
      let id = index_of class trustees + 1 in
      let (above, lt) = trustee_within trustees bound found fewest class in
      let (x, of_x) = trustee_at_number trustees bound old st.are t lt in
      let (y, of_y) = trustee_at_number trustees bound new are t lt in
      let g = grew trustees bound n classes old new st are none logs qs replies asked applies_more t x y lt of_x of_y in
      let (o, opens, value) = class_opens trustees bound found fewest class below in
      let quiet = quiet_trustee trustees bound new are none (applies_all trustees bound n classes old new st are none logs qs replies asked applies_more) t y above lt of_y in
      let first = new_class class 0 bound in
      let tickets = subst (λ l. tickets_of id l ≡ []) g.log (quiet.tickets id) in
      let went = objects_run (opening trustees bound t) (trustee_at x.side).log g.es id o (is_opening trustees bound new are t lt) g.legal opens tickets in
      let went_so : HaveRun store_kind (value_by store_kind (sum.First first) id (trustee_at x.side).log) (own class) (value_by store_kind (sum.First first) id ((trustee_at x.side).log ++ g.es)) =
      subst (λ runs. HaveRun store_kind (value_by store_kind (sum.First first) id (trustee_at x.side).log) runs (value_by store_kind (sum.First first) id ((trustee_at x.side).log ++ g.es))) (own_is class x y lt below of_x of_y)
      (subst (λ v. HaveRun store_kind (value_by store_kind v id (trustee_at x.side).log) (runs_of id g.es) (value_by store_kind v id ((trustee_at x.side).log ++ g.es))) value went) in
      let from = subst (λ v. HaveRun store_kind v (own class) (value_by store_kind (sum.First first) id ((trustee_at x.side).log ++ g.es))) (st.values class x below of_x) went_so in
      let (w, leaves, runs) = values_are (class_at classes class) (own class) (value_by store_kind (sum.First first) id ((trustee_at x.side).log ++ g.es)) from in (
        w,
        record {
          value = λ z of_z.
              let both : Some y ≡ Some z = sym of_y ∙ of_z in
              let same : y ≡ z = cc in
              ap (λ (u : StoreTrustee). value_by store_kind (sum.First first) id (trustee_at u.side).log) (sym same) ∙ ap (value_by store_kind (sum.First first) id) g.log ∙ leaves;
          runs = runs;
        },
      )

  chosen : (class : ℕ) → (w : Class) × (class < CLASSES → IsLed class w)
  chosen class = elim (cases_lt class CLASSES) [ inl lt ↦ ((led class lt).0, λ below. (led class lt).1) | inr not ↦ (new_class 0 0 0, λ below. absurd (omega (arith, below, not))) ]

  new_list : List Class
  new_list = map (λ class. (chosen class).0) (range_with_len 0 CLASSES)

  many_new : length new_list ≡ CLASSES
  unfolding new_list
  many_new = length-map-range_with_len (λ class. (chosen class).0) 0 64

  new_at : (class : ℕ) → class < CLASSES → class_at new_list class ≡ (chosen class).0
  unfolding new_list
  new_at class below = get_or-map-range_with_len (λ class. (chosen class).0) 0 64 class class (new_class class 0 0) below (omega arith)

  -- the classes after the command
  pub record Stepped : Type 0 where
    pub after : List Class
    pub many : length after ≡ CLASSES
    pub stands : StandsAt trustees bound (n + 1) after new
    pub runs : (class : ℕ) → class < CLASSES → ClassRuns (class_at classes class) (own class) (class_at after class)

  pub stepped : Stepped
  stepped = record {
    after = new_list;
    many = many_new;
    stands = record {
      are = are;
      none = none;
      seen = seen_now trustees bound n classes old new st are none logs qs replies asked applies_more;
      applies = applies_all trustees bound n classes old new st are none logs qs replies asked applies_more;
      launches = launches_now;
      many = many_new;
      values = λ class y below of_y. ((chosen class).1 below).value y of_y ∙ ap sum.First (sym (new_at class below));
    };
    runs = λ class below. subst (λ w. ClassRuns (class_at classes class) (own class) w) (sym (new_at class below)) ((chosen class).1 below).runs;
  }
