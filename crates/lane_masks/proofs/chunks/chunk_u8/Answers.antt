use Rattle.std.proofs.Common.{refl, ◌∙◌}
use Rattle.lane_masks.specs.Chunks.{byte_of}
use Rattle.lane_masks.proofs.ChunkLemmas.{same_lanes, after_zip2, before_zip2, bits_of_chunk}
use Rattle.lane_masks.proofs.chunks.chunk_u8.Goals.{in-And, in-Nand, in-Andn, in-Xor, in-Or, in-Nor, in-Orn, in-Xnor}
use Rattle.lane_masks.proofs.chunks.chunk_u8.Goals as goal

pub returns-clause-bytes : goal.returns-clause-bytes
unfolding byte_of
returns-clause-bytes c =
    elim c.match-op.branch [
      | in-And w ↦ rw w.in-And.is (w.result-is ∙ same_lanes _ _ (λ a b. refl) _ _)
      | in-Nand w ↦ rw w.in-Nand.is (w.result-is ∙ after_zip2 _ _ _ _ ∙ same_lanes _ _ (λ a b. refl) _ _)
      | in-Andn w ↦ rw w.in-Andn.is (w.result-is ∙ before_zip2 _ _ _ _ ∙ same_lanes _ _ (λ a b. refl) _ _)
      | in-Xor w ↦ rw w.in-Xor.is (w.result-is ∙ same_lanes _ _ (λ a b. refl) _ _)
      | in-Or w ↦ rw w.in-Or.is (w.result-is ∙ same_lanes _ _ (λ a b. refl) _ _)
      | in-Nor w ↦ rw w.in-Nor.is (w.result-is ∙ after_zip2 _ _ _ _ ∙ same_lanes _ _ (λ a b. refl) _ _)
      | in-Orn w ↦ rw w.in-Orn.is (w.result-is ∙ before_zip2 _ _ _ _ ∙ same_lanes _ _ (λ a b. refl) _ _)
      | in-Xnor w ↦ rw w.in-Xnor.is (w.result-is ∙ after_zip2 _ _ _ _ ∙ same_lanes _ _ (λ a b. refl) _ _)
    ]

pub returns-clause-bits : goal.returns-clause-bits
returns-clause-bits c = bits_of_chunk c.args.op c.args.values c.args.b c.match-op.result c.fits-values c.fits-b (returns-clause-bytes c)
