-- The logs of the trustees only grow, whoever makes turns.
use Rattle.std.proofs.Common.{◌≡◌, ℕ, zero, suc, inl, inr, Bool, List, [], ◌∷◌, length, length-set, sym, ◌∙◌, ap, subst, arith, append-nil}
use Rattle.std.specs.Prelude.{slice_get}
use Rattle.std.specs.declared.option.Option.TheVariants.{Some}
use Rattle.std.proofs.lemmas.Option.{slice_get_within}
use Rattle.tm_seq.specs.Kind.{Kind}
use Rattle.tm_batch.specs.declared.config.Config.{Config}
use Rattle.tm_batch.specs.declared.config.First.{First}
use Rattle.tm_model.specs.Lists.{IsPrefix}
use Rattle.tm_pair.specs.Plain.{trustee_at}
use Rattle.tm_trustee.specs.declared.served.Served.{Served}
use Rattle.tm_trustee.proofs.Elements.{set_cases, element_at, same_element, there_too}
use Rattle.tm_turns.specs.Whole.{OneTrustee, AreOf}
use Rattle.tm_turns.specs.Going.{TurnsBelow, ServesAt, Goes, AllGo}
use Rattle.tm_turns.specs.declared.turns.Turns.{Turns}
use Rattle.tm_turns.proofs.Falling.{goes_keeps}
use Rattle.tm_turns.proofs.Following.{prefix_on}
use Rattle.mc_solo.specs.Serving.{LogsGrow}

prefix_same : {X : Type 0} (xs : List X) → IsPrefix xs xs
prefix_same xs = ([], sym (append-nil xs))

-- a trustee's log is a front of itself
log_same : {V O R T : Type 0} (trustee becomes : OneTrustee V O R T) → becomes ≡ trustee → IsPrefix (trustee_at trustee.side).log (trustee_at becomes.side).log
log_same trustee becomes e = subst (λ x. IsPrefix (trustee_at trustee.side).log (trustee_at x.side).log) (sym e) (prefix_same (trustee_at trustee.side).log)

module _ {V C O R T : Type 0} where
  -- the trustees stayed
  pub grow_same : (old new : Turns V C O R T) → new.trustees ≡ old.trustees → LogsGrow old new
  grow_same old new e = record {
    as_many = ap (λ xs. length xs.items) e;
    grow = λ t trustee becomes at at_new.
        log_same trustee becomes (same_element old.trustees.items t trustee becomes at (subst (λ xs. slice_get xs.items t ≡ Some becomes) e at_new));
  }

  pub grow_on : (old mid new : Turns V C O R T) → LogsGrow old mid → LogsGrow mid new → LogsGrow old new
  grow_on old mid new f g = record {
    as_many = g.as_many ∙ f.as_many;
    grow = λ t trustee becomes at at_new.
        let (between, at_mid) = there_too old.trustees.items mid.trustees.items t trustee f.as_many at in
        prefix_on (trustee_at trustee.side).log (trustee_at between.side).log (trustee_at becomes.side).log
        (f.grow t trustee between at at_mid) (g.grow t between becomes at_mid at_new);
  }

  module _ (kind : Kind V O R T) where
    -- a client's turns leave the trustees
    below_trustees : (c n : ℕ) (moved : Bool) (old new : Turns V C O R T) → TurnsBelow kind c n moved old new → new.trustees ≡ old.trustees
    unfolding TurnsBelow
    below_trustees c zero moved old new (none, same) = ap (λ (x : Turns V C O R T). x.trustees) same
    below_trustees c (suc n) moved old new (mid, before, answer, below, here, is) = here.trustees ∙ below_trustees c n before old mid below

    module _ (config : Config) (first : List (First V)) where
      serve_grows : (t : ℕ) (served : Served) (old new : Turns V C O R T) → AreOf kind config first old → ServesAt kind t served old new → LogsGrow old new
      serve_grows t served old new are is =
          let (number, ready) = are.trustees t is.trustee is.of_trustee in
          let lt = slice_get_within old.trustees.items t is.trustee is.of_trustee in
          let trustees = are.as_many_trustees in
          let tables = are.as_many_tables in
          let (was, at) = element_at old.tables.items is.trustee.number (omega (arith, lt, trustees, tables, number)) in
          let (now, e) = there_too old.tables.items new.tables.items is.trustee.number was is.tables.as_many at in
          let turned = is.turned was now at e in
          record {
            as_many = ap length is.trustees ∙ length-set old.trustees.items t is.becomes;
            grow = λ s trustee becomes of of_new.
                elim (set_cases old.trustees.items t s is.becomes becomes (subst (λ xs. slice_get xs s ≡ Some becomes) is.trustees of_new)) [
                  | inl (here, same_new) ↦
                      let of_t : slice_get old.trustees.items t ≡ Some trustee = subst (λ k. slice_get old.trustees.items k ≡ Some trustee) here of in
                      let same : trustee ≡ is.trustee = same_element old.trustees.items t is.trustee trustee is.of_trustee of_t in
                      subst (λ (x : OneTrustee V O R T). IsPrefix (trustee_at x.side).log (trustee_at becomes.side).log) (sym same)
                      (subst (λ (x : OneTrustee V O R T). IsPrefix (trustee_at is.trustee.side).log (trustee_at x.side).log) (sym same_new) turned.log)
                  | inr (ne, still) ↦ log_same trustee becomes (same_element old.trustees.items s trustee becomes of still)
                ];
          }

      goes_grow : (k : ℕ) (moved : Bool) (old new : Turns V C O R T) → AreOf kind config first old → Goes kind k moved old new → LogsGrow old new
      goes_grow k moved old new are (inl client) = grow_same old new (below_trustees k (length old.tables.items) moved old new client.1)
      goes_grow k moved old new are (inr (inl (t, at, lt, (served, serves, is)))) = serve_grows t served old new are serves
      goes_grow k moved old new are (inr (inr (beyond, none, same))) = grow_same old new (ap (λ (x : Turns V C O R T). x.trustees) same)

      -- all of some numbers had their turns
      pub all_grow : (ks : List ℕ) (n : ℕ) (old new : Turns V C O R T) → AreOf kind config first old → AllGo kind ks n old new → LogsGrow old new
      unfolding AllGo
      all_grow [] n old new are (none, same) = grow_same old new (ap (λ (x : Turns V C O R T). x.trustees) same)
      all_grow (k ∷ ks) n old new are (mid, moved, more, goes, rest, is) =
          grow_on old mid new (goes_grow k moved old mid are goes) (all_grow ks more mid new (goes_keeps kind k moved old mid goes config first are) rest)
