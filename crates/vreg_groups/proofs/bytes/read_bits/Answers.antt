use Rattle.std.proofs.Common.{arith, length, false, ◌+◌, ◌*◌, refl}
use Rattle.std.proofs.lemmas.List.{length-set}
use Rattle.std.proofs.lemmas.List.FromFn.{fill_by_all}
use Rattle.vreg_groups.specs.Elements.{bit_at}
use Rattle.vreg_groups.specs.PlaceLemmas.{bits_more}
use Rattle.vreg_groups.proofs.bytes.read_bits.Goals as goal

pub loop-k-preserved : goal.loop-k-preserved
loop-k-preserved c = record {
  size = omega (arith, length-set c.loop-k.out (8 * c.loop-j.j + c.loop-k.k) c.bit_of.result);
  bits =
      bits_more c.args.at c.args.bytes.now c.loop-k.out c.loop-j.j c.loop-k.k _ c.bit_of.result (omega arith) (omega arith)
      c.bit_of.ensures refl c.loop-k.invariant.bits;
}

pub returns : goal.returns
returns c =
    fill_by_all (bit_at c.args.at c.args.bytes.now) c.loop-i.out (length c.args.out.now) false (omega arith)
    (λ k lt. c.loop-i.invariant.bits k false (omega arith))
