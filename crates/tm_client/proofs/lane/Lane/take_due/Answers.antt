use Rattle.std.proofs.Common.{inr, refl}
use Rattle.tm_client.proofs.Fronts.{empty_of}
use Rattle.tm_client.proofs.lane.Lane.take_due.Goals as goal

pub is_bye_due-requires : goal.is_bye_due-requires
is_bye_due-requires g c = empty_of c.args.self.now.waits.items c.if-not-is_empty.ensures

pub is_fetch_due-requires-clause-waits : goal.is_fetch_due-requires-clause-waits
is_fetch_due-requires-clause-waits g c = empty_of c.args.self.now.waits.items c.if-not-is_empty.ensures

pub returns-clause-due : goal.returns-clause-due
returns-clause-due g c = (
  (
    empty_of c.args.self.now.waits.items c.if-not-is_empty.ensures,
    λ due. absurd (let no = c.if-is_bye_due.ensures.1 due in cc),
    λ due. absurd (let no = c.if-is_fetch_due.ensures.1 due in cc),
  ),
  refl,
)

pub returns-then-is_fetch_due-clause-due : goal.returns-then-is_fetch_due-clause-due
returns-then-is_fetch_due-clause-due g c =
    let due = c.if-is_fetch_due.ensures.0 refl in
    record {
      leaves = inr (inr (due, c.new.ensures.requests, due.0, refl));
      side = refl;
      waits_room = refl;
      afters = refl;
      launched = refl;
      counting = refl;
      fetching = refl;
      closing = refl;
      out = refl;
      room = refl;
    }
