-- What is kept behind a word gives the way out that is refused there.
use Rattle.std.proofs.Common.{◌≡◌, ℕ, sym, ap, ◌∙◌, subst, Some}
use Rattle.std.specs.Option.{option_and_then}
use Rattle.elf_image.specs.Image.{ImageView, code_at}
use Rattle.cert_note.specs.Certificate.{CertificateView}
use Rattle.vreg_groups.specs.declared.vector_length.Vlen.{Vlen}
use Rattle.abs_state.specs.State.{AbstractView}
use Rattle.block_checker.specs.Explained.{IsKept, IsStop, behind_in}
use Rattle.block_checker.specs.declared.errors.CheckError.{CheckError}
use Rattle.block_checker.specs.declared.refused.Kept.{Kept}
use Rattle.block_checker.specs.declared.refused.Kept.TheVariants as kept
use Rattle.block_checker.specs.declared.refused.Part.{Part}
use Rattle.block_checker.specs.declared.refused.Part.TheVariants as part
use Rattle.block_checker.specs.declared.refused.Stop.{Stop}
use Rattle.check_reasons.specs.Check.{IsWantedAt, IsWantedBy, if_edge, spot_of}
use Rattle.check_reasons.specs.Edge.{edge_at, edge_from}
use Rattle.check_reasons.specs.declared.check.Wanted.{Wanted}

behind_kept : (image : ImageView) (certificate : CertificateView) (p : Part) (pc : ℕ) (a : AbstractView)
    → IsKept image certificate p pc kept.Behind a → behind_in image certificate p pc ≡ Some a
unfolding behind_in
behind_kept image certificate part.Entry pc a known = ap Some (sym known.1)
behind_kept image certificate (part.Block start) pc a known = known.1

edge_kept : (image : ImageView) (certificate : CertificateView) (e : CheckError) (p : Part) (pc : ℕ) (a : AbstractView)
    → IsKept image certificate p pc kept.Behind a → edge_at image certificate e p pc ≡ edge_from certificate e p pc (code_at pc image) a
unfolding edge_at
edge_kept image certificate e p pc a known =
    ap (option_and_then (edge_from certificate e p pc (code_at pc image))) (behind_kept image certificate p pc a known)

pub behind_wanted : {A : Type 0} (image : ImageView) (certificate : CertificateView) (bits : Vlen) (e : CheckError) (stop : Stop A) (told : Wanted)
    → IsStop image certificate e stop.part stop.pc stop.kept stop.state → stop.kept ≡ kept.Behind
    → told ≡ if_edge (edge_from certificate e stop.part stop.pc (code_at stop.pc image) stop.state)
    → IsWantedBy image certificate bits e (Some (spot_of image stop)) told
behind_wanted image certificate bits e stop told stopped is edge =
    let known : IsKept image certificate stop.part stop.pc kept.Behind stop.state =
    subst (λ (k : Kept). IsKept image certificate stop.part stop.pc k stop.state) is stopped.known in
    subst (λ (k : Kept). IsWantedAt image certificate bits e stop.part stop.pc k told) (sym is)
    (edge ∙ ap if_edge (sym (edge_kept image certificate e stop.part stop.pc stop.state known)))
