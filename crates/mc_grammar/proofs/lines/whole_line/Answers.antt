use Rattle.std.proofs.Common.{sym, ◌∙◌}
use Rattle.std.proofs.lemmas.Result.{IfOk-weaker}
use Rattle.mc_grammar.proofs.Steps.{said_alone, said_block}
use Rattle.mc_grammar.proofs.Taking.{takes_done, takes_first}
use Rattle.mc_grammar.proofs.lines.whole_line.Goals as goal

pub returns-in-Alone : goal.returns-in-Alone
returns-in-Alone c =
    takes_done _ _ c.args.from.now (said_alone c.args.line.now c.in-Alone.message c.requires (sym c.in_ok-message.ensures ∙ c.in-Alone.is)) tt tt

pub returns-in-Awaits : goal.returns-in-Awaits
returns-in-Awaits c =
    IfOk-weaker c.begin.result _ _
    (λ r t. takes_first _ _ r.0 c.args.from.now r.1 (said_block c.args.line.now c.in-Awaits.header c.requires (sym c.in_ok-message.ensures ∙ c.in-Awaits.is)) t)
    c.begin.ensures
