-- Words of the user, as they are told.
use Rattle.std.specs.Prelude.{◌++◌, codes, encode_utf8, ℕ, List, if◌then◌else◌}
use Rattle.std.specs.Char.{is_control}
use Rattle.std.specs.Fmt.{digits}
use Rattle.std.specs.List.{flat_map}
use Rattle.std.specs.Prelude.{false}
use Rattle.std.specs.Str.{chars}

-- a character; a control character by its code, as `\u{1b}`
abbrev pub shown_text : ℕ → List ℕ
shown_text c =
    if is_control c then codes "\\u{" ++ (digits 16 false c ++ codes "}") else encode_utf8 c

abbrev pub escaped_text : List ℕ → List ℕ
escaped_text text = flat_map shown_text (chars text)
