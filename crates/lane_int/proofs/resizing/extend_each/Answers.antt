use Rattle.std.proofs.Common.{◌≡◌, ◌∙◌, ℕ, Bool, sym, arith, length, map}
use Rattle.std.specs.Int.{Width}
use Rattle.std.proofs.lemmas.List.{length-map}
use Rattle.lane_int.specs.Resizing.{extended_to}
use Rattle.lane_int.proofs.Overlay.{overlaid_all}
use Rattle.lane_int.proofs.ResizingLemmas.{each_more}
use Rattle.lane_int.proofs.resizing.extend_each.Goals as goal

abbrev number_of : {X : Type 0} → Bool → Width → Width → (X → ℕ) → X → ℕ
number_of is_signed narrow wide number x = extended_to is_signed narrow wide (number x)

pub loop-i-preserved : goal.loop-i-preserved
loop-i-preserved g c =
    let number = g.W.Lane.number in
    let long : length (map number c.args.out.now) ≡ length c.args.out.now = length-map c.args.out.now number in
    each_more number (number_of c.args.is_signed g.N.Lane.width g.W.Lane.width g.N.Lane.number) c.args.values.now c.loop-i.i c.index-values-i.result (map number c.args.out.now) c.loop-i.out c.extended.result c.loop-i.invariant (omega arith) (c.requires ∙ sym long) c.index-values-i.is c.extended.ensures

pub returns : goal.returns
returns g c =
    let number = g.W.Lane.number in
    let f = number_of c.args.is_signed g.N.Lane.width g.W.Lane.width g.N.Lane.number in
    let long : length (map number c.args.out.now) ≡ length c.args.out.now = length-map c.args.out.now number in
    overlaid_all c.loop-i.i (map f c.args.values.now) (map number c.args.out.now) (map number c.loop-i.out) c.loop-i.invariant (omega arith) (length-map c.args.values.now f ∙ c.requires ∙ sym long)
