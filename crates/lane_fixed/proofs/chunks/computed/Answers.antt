use Rattle.std.proofs.Common.{◌-◌, ◌%◌, ◌^◌, ◌∙◌, arith, refl}
use mir.Val.{bits, hbits}
use Rattle.std.proofs.lemmas.Nat.{mod_below, pow_pos}
use Rattle.lane_fixed.specs.FixedPoint.{clipped}
use Rattle.rv_decode.specs.declared.instructions.FixedOp.TheVariants as fixed
use Rattle.lane_fixed.proofs.ChunkLemmas.{add_u_lane, add_lane, sub_u_lane, sub_lane}
use Rattle.lane_fixed.proofs.RoundedLaneLemmas.{average_add, average_add_u, average_sub, average_sub_u, shift_signed, shift_u, top_fits, top_whole, unflagged}
use Rattle.lane_fixed.proofs.chunks.computed.Goals as goal

pub returns-in-Saddu-clause-results : goal.returns-in-Saddu-clause-results
returns-in-Saddu-clause-results g c i lt = rw (c.in-Saddu.is, c.flagged.ensures.result, c.saturating_sum.ensures i lt) (add_u_lane g.T.Chunk.width (g.T.Chunk.lane c.args.a i) (g.T.Chunk.lane c.args.b i) (c.requires.a_fits i lt) (c.requires.b_fits i lt)).0

pub returns-in-Saddu-clause-flags : goal.returns-in-Saddu-clause-flags
returns-in-Saddu-clause-flags g c i lt = rw (c.in-Saddu.is, c.flagged.ensures.flags i lt, c.saturating_sum.ensures i lt, c.sum.ensures i lt) (add_u_lane g.T.Chunk.width (g.T.Chunk.lane c.args.a i) (g.T.Chunk.lane c.args.b i) (c.requires.a_fits i lt) (c.requires.b_fits i lt)).1

pub returns-in-Sadd-clause-results : goal.returns-in-Sadd-clause-results
returns-in-Sadd-clause-results g c i lt = rw (c.in-Sadd.is, c.flagged-in-Sadd.ensures.result) (add_lane g.T.Chunk.width (g.T.Chunk.lane c.args.a i) (g.T.Chunk.lane c.args.b i) (g.T.Chunk.lane c.signed_sum.result i) (c.requires.a_fits i lt) (c.requires.b_fits i lt) (c.signed_sum.ensures i lt)).0

pub returns-in-Sadd-clause-flags : goal.returns-in-Sadd-clause-flags
returns-in-Sadd-clause-flags g c i lt = rw (c.in-Sadd.is, c.flagged-in-Sadd.ensures.flags i lt, c.sum-in-Sadd.ensures i lt) (add_lane g.T.Chunk.width (g.T.Chunk.lane c.args.a i) (g.T.Chunk.lane c.args.b i) (g.T.Chunk.lane c.signed_sum.result i) (c.requires.a_fits i lt) (c.requires.b_fits i lt) (c.signed_sum.ensures i lt)).1

pub returns-in-Ssubu-clause-results : goal.returns-in-Ssubu-clause-results
returns-in-Ssubu-clause-results g c i lt = rw (c.in-Ssubu.is, c.flagged-in-Ssubu.ensures.result, c.saturating_difference.ensures i lt) (sub_u_lane g.T.Chunk.width (g.T.Chunk.lane c.args.a i) (g.T.Chunk.lane c.args.b i) (c.requires.a_fits i lt) (c.requires.b_fits i lt)).0

pub returns-in-Ssubu-clause-flags : goal.returns-in-Ssubu-clause-flags
returns-in-Ssubu-clause-flags g c i lt = rw (c.in-Ssubu.is, c.flagged-in-Ssubu.ensures.flags i lt, c.saturating_difference.ensures i lt, c.difference.ensures i lt) (sub_u_lane g.T.Chunk.width (g.T.Chunk.lane c.args.a i) (g.T.Chunk.lane c.args.b i) (c.requires.a_fits i lt) (c.requires.b_fits i lt)).1

pub returns-in-Ssub-clause-results : goal.returns-in-Ssub-clause-results
returns-in-Ssub-clause-results g c i lt = rw (c.in-Ssub.is, c.flagged-in-Ssub.ensures.result) (sub_lane g.T.Chunk.width (g.T.Chunk.lane c.args.a i) (g.T.Chunk.lane c.args.b i) (g.T.Chunk.lane c.signed_difference.result i) (c.requires.a_fits i lt) (c.requires.b_fits i lt) (c.signed_difference.ensures i lt)).0

pub returns-in-Ssub-clause-flags : goal.returns-in-Ssub-clause-flags
returns-in-Ssub-clause-flags g c i lt = rw (c.in-Ssub.is, c.flagged-in-Ssub.ensures.flags i lt, c.difference-in-Ssub.ensures i lt) (sub_lane g.T.Chunk.width (g.T.Chunk.lane c.args.a i) (g.T.Chunk.lane c.args.b i) (g.T.Chunk.lane c.signed_difference.result i) (c.requires.a_fits i lt) (c.requires.b_fits i lt) (c.signed_difference.ensures i lt)).1

pub returns-in-Aaddu-clause-results : goal.returns-in-Aaddu-clause-results
returns-in-Aaddu-clause-results g c i lt = rw (c.in-Aaddu.is) (c.average.ensures i lt (rw (c.zero.ensures i lt) (pow_pos (bits g.T.Chunk.width))) ∙ average_add_u g.T.Chunk.width c.in-Aaddu.mode (g.T.Chunk.lane c.args.a i) (g.T.Chunk.lane c.args.b i) (g.T.Chunk.lane c.zero.result i) (c.zero.ensures i lt))

pub returns-in-Aaddu-clause-flags : goal.returns-in-Aaddu-clause-flags
unfolding clipped
returns-in-Aaddu-clause-flags g c i lt = rw (c.in-Aaddu.is) (c.zero-in-Aaddu.ensures i lt ∙ unflagged fixed.Aaddu g.T.Chunk.width c.in-Aaddu.mode (g.T.Chunk.lane c.args.a i) (g.T.Chunk.lane c.args.b i) (2 ^ bits g.T.Chunk.width - 1) (λ v. refl))

pub returns-in-Aadd-clause-results : goal.returns-in-Aadd-clause-results
returns-in-Aadd-clause-results g c i lt = rw (c.in-Aadd.is) (c.average-in-Aadd.ensures i lt (rw (c.top.ensures i lt) (top_fits g.T.Chunk.width)) ∙ average_add g.T.Chunk.width c.in-Aadd.mode (g.T.Chunk.lane c.args.a i) (g.T.Chunk.lane c.args.b i) (g.T.Chunk.lane c.turned.result i) (g.T.Chunk.lane c.turned-in-Aadd.result i) (g.T.Chunk.lane c.top.result i) (c.requires.a_fits i lt) (c.requires.b_fits i lt) (c.turned.ensures i lt) (c.turned-in-Aadd.ensures i lt) (c.top.ensures i lt))

pub returns-in-Aadd-clause-flags : goal.returns-in-Aadd-clause-flags
unfolding clipped
returns-in-Aadd-clause-flags g c i lt = rw (c.in-Aadd.is) (c.zero-in-Aadd.ensures i lt ∙ unflagged fixed.Aadd g.T.Chunk.width c.in-Aadd.mode (g.T.Chunk.lane c.args.a i) (g.T.Chunk.lane c.args.b i) (2 ^ bits g.T.Chunk.width - 1) (λ v. refl))

pub returns-in-Asubu-clause-results : goal.returns-in-Asubu-clause-results
returns-in-Asubu-clause-results g c i lt = rw (c.in-Asubu.is) (c.average-in-Asubu.ensures i lt (c.requires.b_fits i lt) ∙ average_sub_u g.T.Chunk.width c.in-Asubu.mode (g.T.Chunk.lane c.args.a i) (g.T.Chunk.lane c.args.b i))

pub returns-in-Asubu-clause-flags : goal.returns-in-Asubu-clause-flags
unfolding clipped
returns-in-Asubu-clause-flags g c i lt = rw (c.in-Asubu.is) (c.zero-in-Asubu.ensures i lt ∙ unflagged fixed.Asubu g.T.Chunk.width c.in-Asubu.mode (g.T.Chunk.lane c.args.a i) (g.T.Chunk.lane c.args.b i) (2 ^ bits g.T.Chunk.width - 1) (λ v. refl))

pub returns-in-Asub-clause-results : goal.returns-in-Asub-clause-results
returns-in-Asub-clause-results g c i lt = rw (c.in-Asub.is) (c.average-in-Asub.ensures i lt (rw (c.turned-in-Asub-3.ensures i lt) (mod_below _ (2 ^ bits g.T.Chunk.width) (pow_pos (bits g.T.Chunk.width)))) ∙ average_sub g.T.Chunk.width c.in-Asub.mode (g.T.Chunk.lane c.args.a i) (g.T.Chunk.lane c.args.b i) (g.T.Chunk.lane c.turned-in-Asub.result i) (g.T.Chunk.lane c.turned-in-Asub-2.result i) (g.T.Chunk.lane c.turned-in-Asub-3.result i) (c.requires.a_fits i lt) (c.requires.b_fits i lt) (c.turned-in-Asub.ensures i lt) (c.turned-in-Asub-2.ensures i lt) (c.turned-in-Asub-3.ensures i lt))

pub returns-in-Asub-clause-flags : goal.returns-in-Asub-clause-flags
unfolding clipped
returns-in-Asub-clause-flags g c i lt = rw (c.in-Asub.is) (c.zero-in-Asub.ensures i lt ∙ unflagged fixed.Asub g.T.Chunk.width c.in-Asub.mode (g.T.Chunk.lane c.args.a i) (g.T.Chunk.lane c.args.b i) (2 ^ bits g.T.Chunk.width - 1) (λ v. refl))

pub returns-in-Ssrl-clause-results : goal.returns-in-Ssrl-clause-results
returns-in-Ssrl-clause-results g c i lt = rw (c.in-Ssrl.is) (c.scaled.ensures i 0 lt (rw (c.zero-in-Ssrl.ensures i lt) (pow_pos (bits g.T.Chunk.width))) (omega (arith, c.zero-in-Ssrl.ensures i lt)) ∙ shift_u g.T.Chunk.width c.in-Ssrl.mode (g.T.Chunk.lane c.args.a i) (g.T.Chunk.lane c.args.b i) (g.T.Chunk.lane c.zero-in-Ssrl.result i) (c.zero-in-Ssrl.ensures i lt))

pub returns-in-Ssrl-clause-flags : goal.returns-in-Ssrl-clause-flags
unfolding clipped
returns-in-Ssrl-clause-flags g c i lt = rw (c.in-Ssrl.is) (c.zero-in-Ssrl-2.ensures i lt ∙ unflagged fixed.Ssrl g.T.Chunk.width c.in-Ssrl.mode (g.T.Chunk.lane c.args.a i) (g.T.Chunk.lane c.args.b i) (2 ^ bits g.T.Chunk.width - 1) (λ v. refl))

pub returns-in-Ssra-clause-results : goal.returns-in-Ssra-clause-results
returns-in-Ssra-clause-results g c i lt = rw (c.in-Ssra.is) (c.scaled-in-Ssra.ensures i (2 ^ (hbits g.T.Chunk.width - g.T.Chunk.lane c.args.b i % bits g.T.Chunk.width)) lt (rw (c.top-in-Ssra.ensures i lt) (top_fits g.T.Chunk.width)) (c.top-in-Ssra.ensures i lt ∙ top_whole g.T.Chunk.width (g.T.Chunk.lane c.args.b i)) ∙ shift_signed g.T.Chunk.width c.in-Ssra.mode (g.T.Chunk.lane c.args.a i) (g.T.Chunk.lane c.args.b i) (g.T.Chunk.lane c.turned-in-Ssra.result i) (g.T.Chunk.lane c.top-in-Ssra.result i) (c.requires.a_fits i lt) (c.turned-in-Ssra.ensures i lt) (c.top-in-Ssra.ensures i lt))

pub returns-in-Ssra-clause-flags : goal.returns-in-Ssra-clause-flags
unfolding clipped
returns-in-Ssra-clause-flags g c i lt = rw (c.in-Ssra.is) (c.zero-in-Ssra.ensures i lt ∙ unflagged fixed.Ssra g.T.Chunk.width c.in-Ssra.mode (g.T.Chunk.lane c.args.a i) (g.T.Chunk.lane c.args.b i) (2 ^ bits g.T.Chunk.width - 1) (λ v. refl))
