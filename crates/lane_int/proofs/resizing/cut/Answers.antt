use Rattle.std.proofs.Common.{◌≡◌, ◌∙◌, ℕ, sym, arith, length, map}
use Rattle.std.specs.Int.{Width}
use Rattle.std.proofs.lemmas.List.{length-map}
use Rattle.lane_int.specs.Resizing.{cut_to}
use Rattle.lane_int.proofs.Overlay.{overlaid_all}
use Rattle.lane_int.proofs.ResizingLemmas.{each_more}
use Rattle.lane_int.proofs.resizing.cut.Goals as goal

abbrev number_of : {X : Type 0} → Width → (X → ℕ) → X → ℕ
number_of narrow number x = cut_to narrow (number x)

pub loop-i-preserved : goal.loop-i-preserved
loop-i-preserved g c =
    let number = g.N.Lane.number in
    let long : length (map number c.args.out.now) ≡ length c.args.out.now = length-map c.args.out.now number in
    each_more number (number_of g.N.Lane.width g.W.Lane.number) c.args.values.now c.loop-i.i c.index-values-i.result (map number c.args.out.now) c.loop-i.out c.cut.result c.loop-i.invariant (omega arith) (c.requires ∙ sym long) c.index-values-i.is c.cut.ensures

pub returns : goal.returns
returns g c =
    let number = g.N.Lane.number in
    let f = number_of g.N.Lane.width g.W.Lane.number in
    let long : length (map number c.args.out.now) ≡ length c.args.out.now = length-map c.args.out.now number in
    overlaid_all c.loop-i.i (map f c.args.values.now) (map number c.args.out.now) (map number c.loop-i.out) c.loop-i.invariant (omega arith) (length-map c.args.values.now f ∙ c.requires ∙ sym long)
