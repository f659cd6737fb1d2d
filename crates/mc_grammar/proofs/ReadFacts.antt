-- Reading on.
use Rattle.std.proofs.Common.{◌≡◌, ℕ, List, [], ◌∷◌, ◌++◌, refl, sym, ap, subst, ◌∙◌, append_assoc}
use Rattle.std.proofs.lemmas.List.{append-nil}
use Rattle.mc_model.specs.declared.message.Message.{Message}
use Rattle.mc_model.specs.Stream.{Spells}
use Rattle.mc_grammar.specs.declared.progress.Progress.{Progress}
use Rattle.mc_grammar.specs.declared.progress.Progress.TheVariants.{Ready}
use Rattle.mc_grammar.specs.Progress.{Goes, Start, IsUnfinished, Finishes}
use Rattle.mc_grammar.specs.Reading.{IsRead, ReadsOn, ReadsItem, ReadsRest}
use Rattle.mc_grammar.proofs.Spellings.{spelled_more}
use Rattle.mc_grammar.proofs.Steps.{Goes-then, Goes-stay}

pub none_read : IsRead [] [] Start
none_read = record { front = []; held = []; parts = refl; spelled = refl; goes = Goes-stay Start }

pub reads_on : (p q : Progress) (taken : List ℕ) → Goes p taken q → ReadsOn p taken q
unfolding ReadsOn
reads_on p q taken g bytes messages r = record {
  front = r.front;
  held = r.held ++ taken;
  parts = ap (λ b. b ++ taken) r.parts ∙ append_assoc r.front r.held taken;
  spelled = r.spelled;
  goes = Goes-then Start p q r.held taken r.goes g;
}

pub reads_item : (p : Progress) (m : Message) (q : Progress) → p ≡ Ready m → q ≡ Start → ReadsItem p m q
unfolding ReadsItem Goes
reads_item p m q e k bytes messages r =
    let whole : Spells (r.held ++ []) m = (r.goes [] m).1 (subst (λ s. Finishes s [] m) (sym e) (refl, refl)) in
    subst (IsRead bytes (messages ++ m ∷ [])) (sym k) (record {
      front = r.front ++ r.held;
      held = [];
      parts = r.parts ∙ sym (append-nil (r.front ++ r.held));
      spelled = spelled_more messages r.front r.held m r.spelled (subst (λ b. Spells b m) (append-nil r.held) whole);
      goes = Goes-stay Start;
    })

pub reads_rest : (p : Progress) → IsUnfinished p → ReadsRest p
unfolding ReadsRest IsUnfinished Goes
reads_rest p u bytes messages r = record {
  front = r.front;
  parts = r.parts;
  spelled = r.spelled;
  partial = (u.0, u.1, u.2, (r.goes u.0 u.1).1 u.3);
}
