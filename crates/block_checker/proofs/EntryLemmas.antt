-- What passes the check has a block at its entry.
use Rattle.std.proofs.Common.{◌≡◌, ◌==◌, Bool, true, false, Option, None, Ok, Err, subst, if◌then◌else◌}
use Rattle.block_checker.specs.Passes.{Checked, block_at, blocks_pass, both, checked, entry_passes, entry_passes_to}
use Rattle.block_checker.specs.declared.errors.CheckError.TheVariants.{WrongVlen}
use Rattle.block_checker.specs.Words.{CertificateView, ImageView, Vlen, Block}
use Rattle.vreg_groups.specs.VectorLength.{vlenb_of}

pub has_entry : (image : ImageView) (certificate : CertificateView) (vlen : Vlen) → checked image certificate vlen ≡ Ok tt
    → block_at image.entry certificate.blocks ≡ None → ⊥
unfolding checked entry_passes entry_passes_to
has_entry image certificate vlen passes none =
    by (vlenb_of certificate.vlen == vlenb_of vlen) (subst (λ (o : Option Block). asked (vlenb_of certificate.vlen == vlenb_of vlen) o ≡ Ok tt) none passes)
  where
    asked : Bool → Option Block → Checked
    asked b o = if b then both (entry_passes_to image certificate o) (blocks_pass image certificate certificate.blocks) else Err WrongVlen

    by : (b : Bool) → asked b None ≡ Ok tt → ⊥
    by true e = cc
    by false e = cc
