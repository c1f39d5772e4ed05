use Rattle.std.proofs.Common.{◌∙◌, refl, sym}
use Rattle.clap.specs.Words.{found_of, rows_of, subcommand_rows_of}
use Rattle.clap.proofs.WalkLemmas.{first_value-rows}
use Rattle.command_line.proofs.LineLemmas.{path_of-entered, name_of_rows}
use Rattle.command_line.proofs.line.path.Goals as goal

pub returns : goal.returns
returns c =
    let found = c.in_ok-subcommand_matches.field-0.now in
    c.get_str.ensures ∙ first_value-rows (found_of found) c.args.id.now
    ∙ sym (path_of-entered c.args.name.now c.args.id.now (rows_of (found_of found)) (subcommand_rows_of c.args.matches.now)
    (sym (name_of_rows c.args.matches.now) ∙ c.in_ok-subcommand_matches.ensures.found.0 refl)
    c.in_ok-subcommand_matches.ensures.rows)
