use Rattle.std.proofs.Common.{◌≡◌, ◌∙◌, ◌%◌, ◌^◌, ◌+◌, ◌<◌, ℕ, Bool, true, false, List, get_or, sym, refl, arith, length, map, take, ap}
use mir.Val.{bits}
use mir.Val.{bool_byte}
use Rattle.std.proofs.lemmas.List.{length-map}
use Rattle.std.proofs.lemmas.List.Sums.{count_by_more_yes, count_by_more_no}
use Rattle.lane_masks.specs.Masks.{iota_of, set_count}
use Rattle.lane_masks.proofs.OverlayLemmas.{number_more, place_all}
use Rattle.lane_masks.proofs.counts.iota.Goals as goal

count_step : (mask : List Bool) (i : ℕ) (b : Bool) → i < length mask → get_or mask i false ≡ b → set_count (take (i + 1) mask) ≡ set_count (take i mask) + bool_byte b
count_step mask i true lt e = count_by_more_yes (λ bit. bit) mask i false lt e
count_step mask i false lt e = count_by_more_no (λ bit. bit) mask i false lt e ∙ omega arith

-- the bits below one more
one_more : (mask : List Bool) (i below bit : ℕ) → i < length mask → below ≡ set_count (take i mask) → bit ≡ bool_byte (get_or mask i false) → below + bit ≡ set_count (take (i + 1) mask)
one_more mask i below bit lt e f = rw (e, f) (sym (count_step mask i (get_or mask i false) lt refl))

pub loop-i-preserved : goal.loop-i-preserved
loop-i-preserved g c =
    let number = g.T.FoldLane.number in
    let long : length (map number c.args.out.now) ≡ length c.args.out.now = length-map c.args.out.now number in
    (number_more number (λ i. set_count (take i c.args.mask.now) % 2 ^ bits g.T.FoldLane.width) (length c.args.mask.now) c.loop-i.i (map number c.args.out.now) c.loop-i.out c.low.result c.loop-i.invariant.0 (omega arith) (c.requires.same ∙ sym long) (c.low.ensures ∙ ap (λ n. n % 2 ^ bits g.T.FoldLane.width) c.loop-i.invariant.1), one_more c.args.mask.now c.loop-i.i c.loop-i.below c.from-below.result (omega (arith, c.requires.same)) c.loop-i.invariant.1 c.from-below.ensures)

pub returns : goal.returns
unfolding iota_of
returns g c =
    let number = g.T.FoldLane.number in
    let long : length (map number c.args.out.now) ≡ length c.args.out.now = length-map c.args.out.now number in
    place_all (λ i. set_count (take i c.args.mask.now) % 2 ^ bits g.T.FoldLane.width) (length c.args.mask.now) c.loop-i.i (map number c.args.out.now) (map number c.loop-i.out) c.loop-i.invariant.0 (omega arith) (c.requires.same ∙ sym long)
