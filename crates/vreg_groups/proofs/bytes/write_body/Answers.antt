use Rattle.std.proofs.Common.{ap, sym, refl, ◌∙◌, ◌≡◌, length, map, arith}
use Rattle.std.proofs.lemmas.List.{length-map}
use Rattle.vreg_groups.specs.NewElements.{replaced, new_bytes, new_element}
use Rattle.vreg_groups.specs.PartLemmas.{put_is}
use Rattle.vreg_groups.specs.PlaceLemmas.{begins_inside, replaced_none, written_more, new_element_in_body}
use Rattle.vreg_groups.proofs.bytes.write_body.Goals as goal

pub returns-then-are_all : goal.returns-then-are_all
returns-then-are_all g c =
    let results = map g.E.Element.number c.args.values.now in
    let len : length results ≡ length c.args.values.now = length-map c.args.values.now g.E.Element.number in
    c.put_elements.ensures
    ∙ put_is g.E.Element.SIZE c.args.at c.args.policy results c.args.active.now c.args.bytes.now (sym c.are_all.ensures ∙ c.if-are_all.true)
    (omega arith)
    ∙ ap (λ n. replaced g.E.Element.SIZE c.args.at n
    (new_bytes g.E.Element.SIZE c.args.at c.args.policy results c.args.active.now c.args.bytes.now) c.args.bytes.now) len

pub loop-i-init : goal.loop-i-init
loop-i-init g c = replaced_none _ _ _ _

pub loop-i-preserved : goal.loop-i-preserved
loop-i-preserved g c =
    let room = begins_inside g.E.Element.SIZE c.args.at c.loop-i.i (length c.args.values.now) (length c.args.bytes.now) (omega arith) c.requires.room in
    let is : c.body_element-new.result
    ≡ new_element c.args.policy c.ones.result c.args.values.now c.args.active.now c.loop-i.i c.get-old.result =
    new_element_in_body c.args.policy c.ones.result c.args.values.now c.args.active.now c.loop-i.i c.get-old.result _ _
    c.body_element-new.result (omega arith) c.index-values-i.is refl c.body_element-new.ensures in
    written_more g.E.Element.number g.E.Element.SIZE c.args.at c.loop-i.i c.SIZE.result c.args.policy c.args.values.now
    c.args.active.now c.args.bytes.now c.loop-i.bytes c.put.new.bytes c.ones.result c.get-old.result
    c.body_element-new.result c.SIZE.ensures room c.ones.ensures c.get-old.ensures is c.loop-i.invariant
    c.put.ensures
