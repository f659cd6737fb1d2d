-- A side of one handle is a side of each handle of the same table.
use Rattle.std.proofs.Common.{◌≡◌, ◌<◌, sym, ◌∙◌, ap, subst}
use Rattle.tm_seq.specs.Kind.{Kind}
use Rattle.tm_pair.specs.Sides.{IsGoodClient, IsGoodTrustee}
use Rattle.tm_toggle.specs.Ruled.{opening_by}
use Rattle.tm_toggle.specs.Shared.{opening_at, id_of, client_at, trustee_at, IsSized, IsClientOf, IsTrusteeOf, IsSame}
use Rattle.tm_toggle.specs.declared.sides.SharedClient.{SharedClient}
use Rattle.tm_toggle.specs.declared.sides.SharedTrustee.{SharedTrustee}
use Rattle.tm_toggle.specs.declared.shared.SharedTable.{SharedTable}

module _ {V O R T : Type 0} (kind : Kind V O R T) (a b : SharedTable V O R T) (same : IsSame a b) where
  opens : opening_at a ≡ opening_at b
  opens = ap opening_by (sym same.key)

  sized : IsSized (opening_at a) (id_of a) → IsSized (opening_at b) (id_of b)
  sized h = subst (λ o. IsSized o (id_of b)) opens (subst (λ z. IsSized (opening_at a) z) (sym same.id) h)

  pub carries_client : (side : SharedClient V O R T) → IsClientOf kind a side → IsClientOf kind b side
  carries_client side h = record {
    same = h.same ∙ sym same.id;
    opening_is = h.opening_is ∙ opens;
    sized = sized h.sized;
    client = h.client;
    plain = h.plain;
    settled = h.settled;
    place = h.place;
    in_range = subst (λ z. side.place < z.slots) (sym same.id) h.in_range;
    word = h.word;
    free = h.free;
    away = h.away;
    good = subst (λ o. IsGoodClient kind o (client_at side)) opens h.good;
  }

  pub carries_trustee : (side : SharedTrustee V O R T) → IsTrusteeOf kind a side → IsTrusteeOf kind b side
  carries_trustee side h = record {
    same = h.same ∙ sym same.id;
    opening_is = h.opening_is ∙ opens;
    sized = sized h.sized;
    trustee = h.trustee;
    plain = h.plain;
    down = h.down;
    nothing = h.nothing;
    count = h.count ∙ ap (λ z. z.slots) (sym same.id);
    len = h.len ∙ ap (λ z. z.slots) (sym same.id);
    words = λ c l. h.words c (subst (λ z. c < z.slots) same.id l);
    good = subst (λ o. IsGoodTrustee kind o (trustee_at side)) opens h.good;
  }
