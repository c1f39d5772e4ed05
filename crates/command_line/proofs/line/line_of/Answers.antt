use Rattle.std.proofs.Common.{refl}
use Rattle.command_line.proofs.LineLemmas.{are_make_paths, is_flagged, no_make_paths, no_path, no_path_of, path_line, path_named, told_line}
use Rattle.command_line.proofs.line.line_of.Goals as goal

pub returns-in-Some : goal.returns-in-Some
returns-in-Some c = λ words none same. (_, refl, path_line words _ _ _ _ _ none same c.in-Some.ensures c.is_asked-explain.ensures)

pub returns-in-Some-path : goal.returns-in-Some-path
returns-in-Some-path c = λ words none same.
    (_, refl, told_line words _ _ _ _ _ none same c.in-Some-path.ensures c.is_asked-explain-in-Some-path.ensures c.is_asked-registers.ensures)

pub returns-in-Some-path-2 : goal.returns-in-Some-path-2
returns-in-Some-path-2 c = λ words none same.
    (_, refl, told_line words _ _ _ _ _ none same c.in-Some-path-2.ensures c.is_asked-explain-in-Some-path-2.ensures c.is_asked-registers-in-Some-path-2.ensures)

pub returns-in-Some-path-3 : goal.returns-in-Some-path-3
returns-in-Some-path-3 c = λ words none same. (_, refl, path_line words _ _ _ _ _ none same c.in-Some-path-3.ensures c.is_asked-explain-in-Some-path-3.ensures)

pub returns-in-Some-make_paths : goal.returns-in-Some-make_paths
returns-in-Some-make_paths c = λ words none same.
    (_, refl, (are_make_paths words c.in-Some-make_paths.paths _ none same c.in-Some-make_paths.ensures, is_flagged words _ _ _ _ same c.is_asked-explain-in-Some-make_paths.ensures))

pub returns-in_default-make_paths : goal.returns-in_default-make_paths
returns-in_default-make_paths c = λ words none same.
    let no_image = no_path_of words _ _ _ same c.in_default.ensures in
    let no_job = no_path_of words _ _ _ same c.in_default-path.ensures in
    let no_try = no_path_of words _ _ _ same c.in_default-path-2.ensures in
    let no_mon = no_path_of words _ _ _ same c.in_default-path-3.ensures in
    absurd (no_path _ (path_named words none no_image no_job no_try no_mon) (no_make_paths words _ same c.in_default-make_paths.ensures))
