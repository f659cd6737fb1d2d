use Rattle.std.proofs.Common.{◌∙◌, Result, Ok, Err, OnErr, ap, option_map, rules}
use Rattle.std.specs.Borrow.{Bor}
use Rattle.clap.specs.Words.{Text, found_of, rows_of, subcommand_rows_of}
use Rattle.clap.specs.declared.parser.matches.ArgMatches.{ArgMatches}
use Rattle.clap.specs.declared.parser.matches.ArgMatches.TheViews.{out-ArgMatches}
use Rattle.mc_words.proofs.SayingFacts.{handed_out, run_refused, load_refused}
use Rattle.mc_words.proofs.reading.said_by.Goals as goal

told : {T E : Type 0} {P : Type 0} (result : Result T E) → P → OnErr result P
told (Ok x) p = tt
told (Err e) p = p

pub returns-in_err-read-in-run-clause-refused : goal.returns-in_err-read-in-run-clause-refused
returns-in_err-read-in-run-clause-refused c =
    let found = handed_out (out-ArgMatches c.args.matches.now).subcommand c.subcommand.result c.subcommand.ensures.name c.subcommand.ensures.rows in
    let none = run_refused (subcommand_rows_of c.args.matches.now) c.in-Some.command.now (rows_of (found_of c.in-Some.options.now))
    (found ∙ ap (option_map (λ (p : Bor Text × Bor ArgMatches). (p.0.now, rows_of (found_of p.1.now)))) c.in-Some.is) (search rules) c.in_err-read-in-run.ensures.refused in
    told c.from_residual.result none

pub returns-in_err-read-in-load-clause-refused : goal.returns-in_err-read-in-load-clause-refused
returns-in_err-read-in-load-clause-refused c =
    let found = handed_out (out-ArgMatches c.args.matches.now).subcommand c.subcommand.result c.subcommand.ensures.name c.subcommand.ensures.rows in
    let none = load_refused (subcommand_rows_of c.args.matches.now) c.in-Some.command.now (rows_of (found_of c.in-Some.options.now))
    (found ∙ ap (option_map (λ (p : Bor Text × Bor ArgMatches). (p.0.now, rows_of (found_of p.1.now)))) c.in-Some.is) (search rules) c.in_err-read-in-load.ensures.refused in
    told c.from_residual-in_err-read-in-load.result none
