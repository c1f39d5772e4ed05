-- Elements that are extended to a wider width ("Vector Integer Extension"; sources of widening
-- instructions), and cut to a narrower one (results of narrowing instructions).
use Rattle.std.specs.Prelude.{ℕ, ◌%◌, ◌^◌, Bool, if◌then◌else◌}
use Rattle.std.specs.Int.{Width, cast_signed, cast_unsigned}
use mir.Val.{bits}

-- by its sign or by zeros
unfoldable pub extended_to : Bool → Width → Width → ℕ → ℕ
extended_to is_signed narrow wide n =
    if is_signed then cast_unsigned wide (cast_signed narrow n) else n

-- its lowest bits
unfoldable pub cut_to : Width → ℕ → ℕ
cut_to w n = n % 2 ^ bits w
