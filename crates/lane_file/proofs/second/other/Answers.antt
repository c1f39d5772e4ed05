use Rattle.std.proofs.Common.{◌+◌, ◌*◌, ap, sym, ◌∙◌, arith}
use Rattle.byteorder.specs.Endian.{little_from}
use Rattle.lane_file.specs.InPlace.{other_of}
use Rattle.lane_file.proofs.Steps.{lane_read}
use Rattle.lane_file.proofs.second.other.Goals.{in-Group, in-Splat}
use Rattle.lane_file.proofs.second.other.Goals as goal

pub returns : goal.returns
returns g c = λ j lt.
    let s = g.E.Lane.size in
    let file = c.args.registers.now in
    elim c.match-b.branch [
      | in-Group w ↦
          ap (little_from (s * j) s) w.result-is
          ∙ lane_read s g.E.Lane.count j (w.place_of.result + c.args.at) file w.sixteen.result g.E.Lane.sizes lt w.sixteen.ensures
          ∙ ap (λ z. little_from z s file) (omega (arith, w.place_of.ensures.meaning))
          ∙ ap (λ b. other_of g.row.VLENB s g.E.Lane.number b (c.args.at + s * j) file) (sym w.in-Group.is)
      | in-Splat w ↦
          ap (little_from (s * j) s) w.result-is
          ∙ w.byte_splat.ensures j lt
          ∙ ap (λ b. other_of g.row.VLENB s g.E.Lane.number b (c.args.at + s * j) file) (sym w.in-Splat.is)
    ]
