-- That vl fits the type that an instruction works under, and what room a body takes.
use Rattle.std.proofs.Common.{ap, ℕ, ◌≡◌, ◌≤◌, ◌*◌, ◌/◌, Option, Some, None, arith}
use Rattle.std.proofs.Math.Nat.{mul-le-mul_left, mul-div-le}
use Rattle.rv_decode.specs.Instructions.{bits_of_width, bytes_of_width}
use Rattle.rv_decode.specs.declared.extents.Eew.{Eew}
use Rattle.std.specs.Prelude.{MatchOption}
use Rattle.vreg_groups.specs.Legality.{eew_bits, group_count}
use Rattle.vreg_groups.specs.VectorType.{type_in, vlmax_of, eighths_of}
use Rattle.vreg_groups.specs.VectorLength.{no_config, IsLength, IsVlenb}
use Rattle.vreg_groups.specs.declared.vector_type.Lmul.{Lmul}
use Rattle.vreg_groups.specs.declared.vector_type.Lmul.TheVariants.{Quarter, Half, One, Two, Four, Eight}
use Rattle.vreg_groups.specs.declared.vector_type.Vtype.{Vtype}
use Rattle.vreg_groups.specs.declared.vector_length.Vconfig.{Vconfig}
use Rattle.vreg_groups.specs.SizeLemmas.{bytes_fit, group_room, vlmax_small, body_small}

-- under a supported type vl is at most VLMAX, and under vill it is 0
pub length_fits : (o : Option Vtype) (config : Vconfig) (vlenb : ℕ) → IsVlenb vlenb →
    MatchOption o (config ≡ no_config) (λ t. config.vl ≤ vlmax_of vlenb t) → IsLength vlenb (type_in o) config.vl
length_fits None config vlenb v h =
    let vl : config.vl ≡ 0 = ap (λ (c : Vconfig). c.vl) h in
    record { within = omega arith; bits = omega arith; bytes = omega arith }
length_fits (Some t) config vlenb v h =
    record { within = h; bits = vlmax_small t vlenb config.vl h; bytes = body_small t vlenb config.vl v h }

eighths_small : (l : Lmul) → eighths_of l ≤ 64
eighths_small Quarter = omega arith
eighths_small Half = omega arith
eighths_small One = omega arith
eighths_small Two = omega arith
eighths_small Four = omega arith
eighths_small Eight = omega arith

-- eight registers hold a body of elements of SEW
pub body_room : (t : Vtype) (vlenb vl : ℕ) → vl ≤ vlmax_of vlenb t → bytes_of_width t.sew * vl ≤ 8 * vlenb
unfolding vlmax_of
body_room t vlenb vl h =
    let sew = bits_of_width t.sew in
    let body : sew * vl ≤ sew * (eighths_of t.lmul * vlenb / sew) = mul-le-mul_left sew h in
    let whole : sew * (eighths_of t.lmul * vlenb / sew) ≤ eighths_of t.lmul * vlenb = mul-div-le (eighths_of t.lmul * vlenb) sew in
    let most : vlenb * eighths_of t.lmul ≤ vlenb * 64 = mul-le-mul_left vlenb (eighths_small t.lmul) in
    bytes_fit sew vl (8 * vlenb) (omega (arith, body, whole, most))

-- and one of elements of another width, where its group has no more
pub group_body_room : (t : Vtype) (e : Eew) (vlenb vl : ℕ) → vl ≤ vlmax_of vlenb t → group_count t e ≤ 8 →
    eew_bits t.sew e / 8 * vl ≤ 8 * vlenb
group_body_room t e vlenb vl h small =
    let most : vlenb * group_count t e ≤ vlenb * 8 = mul-le-mul_left vlenb small in
    bytes_fit (eew_bits t.sew e) vl (8 * vlenb) (omega (arith, group_room t e vlenb vl h, most))
