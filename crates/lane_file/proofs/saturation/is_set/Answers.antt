use Rattle.std.proofs.Common.{◌==◌, not, map, arith, w8}
use lib.Lanes.{mask_l}
use Rattle.std.proofs.lemmas.Simd.{bitmask_splat}
use Rattle.lane_file.proofs.AnyLemmas.{all_clear, is_unset, no_bit, unset}
use Rattle.lane_file.proofs.saturation.is_set.Goals as goal

pub returns-clause-none : goal.returns-clause-none
returns-clause-none c = λ clear k lt.
    no_bit c.args.lanes k (unset (mask_l (map (λ f. not (f == 0)) c.args.lanes)) (bitmask_splat w8 (λ a b. not (a == b)) c.args.lanes 16 0 c.fits-lanes.0 (omega arith)) clear)

pub returns-clause-all : goal.returns-clause-all
returns-clause-all c = λ zeros.
    is_unset (mask_l (map (λ f. not (f == 0)) c.args.lanes)) (bitmask_splat w8 (λ a b. not (a == b)) c.args.lanes 16 0 c.fits-lanes.0 (omega arith)) (all_clear 16 c.args.lanes c.fits-lanes.0 zeros)
