use Rattle.std.proofs.Common.{◌≡◌, ◌+◌, ◌*◌, ◌<◌, ◌≤◌, ℕ, ap, ap₂, sym, ◌∙◌, arith, true, false, get_or}
use Rattle.std.proofs.lemmas.List.{get_or-replicate}
use Rattle.std.proofs.Math.Nat.{mul-le-mul_left}
use Rattle.byteorder.specs.Endian.{little_from}
use Rattle.lane_fixed.specs.Chunks.{lane_flag, lane_saturates}
use Rattle.lane_file.specs.InPlace.{holds_at, is_active, other_of}
use Rattle.lane_file.proofs.AnyLemmas.{any_told, clear_told, few_of, set_told}
use Rattle.lane_file.proofs.Steps.{lane_read, place_in, some}
use Rattle.lane_file.proofs.saturation.in_part.Goals as goal

pub returns : goal.returns
returns g c = λ k is.
    let v = g.row.VLENB in
    let s = g.E.Lane.size in
    let n = g.E.Lane.count in
    let w = g.E.Lane.width in
    let m = c.args.m in
    let op = c.args.op in
    let file = c.args.registers.now in
    let saturated = c.fixed-both.result.1 in
    let lanes = c.written_lanes-lanes.result in
    let t = λ (j : ℕ). holds_at v s g.E.Lane.number (lane_saturates op w) c.args.a c.args.b c.args.masked file (n * m + j) in
    let x = λ (j : ℕ). little_from (c.args.a + s * (n * m + j)) s file in
    let y = λ (j : ℕ). other_of v s g.E.Lane.number c.args.b (s * (n * m + j)) file in
    let early : (j : ℕ) → j < k → j < n = λ j lt. let few = few_of s n k c.args.n g.E.Lane.sizes is c.requires.some in omega (arith, few, lt) in
    let within : (j q : ℕ) → j < k → q < s → s * j + q < c.args.n = λ j q lt less. let e : s * (j + 1) ≤ s * k = mul-le-mul_left s (omega (arith, lt)) in omega (arith, e, is, less) in
    let flag : (j : ℕ) → j < k → little_from (s * j) s saturated ≡ lane_flag op w (x j) (y j) = λ j lt.
    let at : s * (n * m + j) ≡ 16 * m + s * j = place_in s n m j g.E.Lane.sizes in
    c.fixed-both.ensures.flags j (early j lt)
    ∙ ap₂ (lane_flag op w)
    (lane_read s n j (c.args.a + 16 * m) file c.sixteen-values.result g.E.Lane.sizes (early j lt) c.sixteen-values.ensures ∙ ap (λ z. little_from z s file) (omega (arith, at)))
    (c.other-others.ensures j (early j lt) ∙ ap (λ z. other_of v s g.E.Lane.number c.args.b z file) (sym at)) in
    let on : (j : ℕ) → j < k → is_active v c.args.masked (n * m + j) file ≡ true → (q : ℕ) → q < s → get_or lanes (s * j + q) 0 ≡ get_or saturated (s * j + q) 0 = λ j lt yes q less.
    c.written_lanes-lanes.ensures.active (s * j + q) (omega (arith, within j q lt less, c.requires.some)) (c.first_flags.ensures.set (s * j + q) (within j q lt less)) (c.active_flags-flags.ensures.set j q (early j lt) less yes) in
    let off : (j : ℕ) → j < k → is_active v c.args.masked (n * m + j) file ≡ false → (q : ℕ) → q < s → get_or lanes (s * j + q) 0 ≡ 0 = λ j lt no q less.
    let low : s * j + q < 16 = omega (arith, within j q lt less, c.requires.some) in
    c.written_lanes-lanes.ensures.inactive (s * j + q) low (c.first_flags.ensures.set (s * j + q) (within j q lt less)) (c.active_flags-flags.ensures.clear j q (early j lt) less no)
    ∙ get_or-replicate 16 (s * j + q) 0 0 low in
    any_told s k c.args.n t lanes c.is_set.result (some s n g.E.Lane.sizes) is c.requires.some
    (λ p lt past. c.written_lanes-lanes.ensures.rest p lt (c.first_flags.ensures.clear p past) ∙ get_or-replicate 16 p 0 0 lt)
    (λ j lt zeros. clear_told w op s j (x j) (y j) (is_active v c.args.masked (n * m + j) file) saturated lanes (flag j lt) (on j lt) zeros)
    (λ j lt no. set_told w op s j (x j) (y j) (is_active v c.args.masked (n * m + j) file) saturated lanes (flag j lt) (on j lt) (off j lt) no)
    c.is_set.ensures.none c.is_set.ensures.all
