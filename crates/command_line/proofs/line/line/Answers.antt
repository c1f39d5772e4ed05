use Rattle.std.proofs.Common.{rules, ◌≡◌, map, ℕ, List}
use Rattle.clap.specs.Words.{app_of, subcommand_rows_of}
use Rattle.command_line.specs.Line.{app}
use Rattle.command_line.proofs.LineLemmas.{has_kind, line_taken, no_fault, none_taken, same_entered}
use Rattle.command_line.proofs.line.line.Goals as goal

pub returns-in-Some-clause-line : goal.returns-in-Some-clause-line
returns-in-Some-clause-line c =
    let words : List (List ℕ) = map (λ w. w.now) c.args.words.now in
    let is : app_of c.in_ok-command.command ≡ app = c.in_ok-command.ensures in
    let same = same_entered _ words _ (subcommand_rows_of c.in-Ok.matches) is c.in-Ok.ensures.matches in
    line_taken words _ (c.in-Some.ensures words (no_fault _ words is c.in-Ok.ensures.kinds) same)

pub unreachable-requires : goal.unreachable-requires
unreachable-requires c =
    let words : List (List ℕ) = map (λ w. w.now) c.args.words.now in
    let is : app_of c.in_ok-command.command ≡ app = c.in_ok-command.ensures in
    let same = same_entered _ words _ (subcommand_rows_of c.in-Ok.matches) is c.in-Ok.ensures.matches in
    none_taken words (c.in-None.ensures words (no_fault _ words is c.in-Ok.ensures.kinds) same)

pub returns : goal.returns
returns c =
    let words : List (List ℕ) = map (λ w. w.now) c.args.words.now in
    let is : app_of c.in_ok-command.command ≡ app = search rules in
    let kind = has_kind _ words c.in-Err.error is c.in-Err.ensures.kinds in
    search (rules, kind)
