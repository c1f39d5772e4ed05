-- Reductions: a fold over the active elements ("Vector Reduction Operations"). Numbers are below
-- 2^SEW; signed ones are read by two's complement.
use Rattle.std.specs.Prelude.{ℕ, ◌+◌, ◌%◌, ◌^◌, min, max, Bool, if◌then◌else◌, List, [], ◌∷◌}
use Rattle.std.specs.List.{fold}
use Rattle.std.specs.Int.{Width, w32, cast_signed, cast_unsigned, int_min, int_max}
use Rattle.std.specs.Int.RustNames.{bit_and, bit_or, bit_xor}
use mir.Val.{bits}
use Rattle.rv_decode.specs.declared.instructions.FoldOp.{FoldOp}
use Rattle.rv_decode.specs.declared.instructions.FoldOp.TheVariants.{Sum, And, Or, Xor, Minu, Min, Maxu, Max}

-- the value so far and one more element
unfoldable pub joined : FoldOp → Width → ℕ → ℕ → ℕ
joined Sum w a b = (a + b) % 2 ^ bits w
joined And w a b = bit_and a b
joined Or w a b = bit_or a b
joined Xor w a b = bit_xor a b
joined Minu w a b = min a b
joined Min w a b = cast_unsigned w (int_min (cast_signed w a) (cast_signed w b))
joined Maxu w a b = max a b
joined Max w a b = cast_unsigned w (int_max (cast_signed w a) (cast_signed w b))

-- the elements whose bit is set, in order
unfoldable pub kept : {A : Type 0} → List Bool → List A → List A
kept [] values = []
kept (is_kept ∷ bits) [] = []
kept (is_kept ∷ bits) (value ∷ values) =
    if is_kept then value ∷ kept bits values else kept bits values

-- the fold of vs1's element 0 with the active elements
unfoldable pub fold_of : FoldOp → Width → ℕ → List Bool → List ℕ → ℕ
fold_of op w start active values = fold (joined op w) start (kept active values)

-- an element that is extended to a wider width, by zeros or by its sign
unfoldable pub extended : Bool → Width → Width → ℕ → ℕ
extended is_signed narrow wide n =
    (if is_signed then cast_unsigned w32 (cast_signed narrow n) else n) % 2 ^ bits wide
