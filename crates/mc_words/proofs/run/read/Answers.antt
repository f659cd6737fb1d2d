use Rattle.std.proofs.Common.{◌≡◌, ◌∙◌, ap, is_some, rules, unwrap_or}
use Rattle.clap.specs.Words.{found_of, one_of, rows_of}
use Rattle.mc_item.specs.declared.limits.TheConstants.{USUAL_ITEMS}
use Rattle.mc_words.specs.declared.names.Name.TheVariants.{Turns}
use Rattle.mc_words.specs.Spelling.{label}
use Rattle.mc_words.proofs.TextFacts.{flag_text}
use Rattle.mc_words.proofs.run.read.Goals as goal

pub returns-clause-says : goal.returns-clause-says
returns-clause-says c =
    let items = c.in_ok-setting-3.ensures.says in
    let usual : c.from.result ≡ USUAL_ITEMS = search rules in
    record {
      trustees = c.in_ok-setting.ensures.says;
      max_bytes = c.in_ok-setting-2.ensures.says;
      items = (items.0, items.1, items.2 ∙ ap (λ usual. unwrap_or items.0 usual) usual);
      turns = (
        c.requires.0,
        c.requires.1,
        c.flag.ensures (is_some c.requires.0) (flag_text (one_of (label Turns) (rows_of (found_of c.args.matches.now))) c.requires.0 c.requires.1),
      );
    }
