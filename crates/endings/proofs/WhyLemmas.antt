-- The explanation of a check that is refused.
use Rattle.std.proofs.Common.{◌≡◌, Option, Some, None, ap, refl, subst, sym}
use Rattle.std.specs.Global.{Global}
use Rattle.block_checker.specs.Explained.{Explains, IsStopped}
use Rattle.block_checker.specs.declared.refused.Explanation.{Explanation}
use Rattle.block_checker.specs.declared.refused.Stop.{Stop as StopView}
use Rattle.check_reasons.specs.Check.{IsListed, IsWanted, explanation_of}
use Rattle.check_reasons.specs.declared.check.CheckReason.{CheckReason}
use Rattle.endings.specs.Halt.{IfExplained}
use Rattle.endings.specs.Why.{IsCheckReason}
use Rattle.endings.specs.Words.{CertificateView, CheckError, Halt, ImageView, Why}
use Rattle.endings.specs.declared.halt.Halt.TheVariants as halt
use Rattle.vreg_groups.specs.declared.vector_length.Vlen.{Vlen}

-- the place where a check stops explains its error
explained : {A : Type 0} (image : ImageView) (certificate : CertificateView) (error : CheckError) (at : Option (StopView A))
    → IsStopped image certificate error at → Explains image certificate (explanation_of image error at)
explained image certificate error None is = is
explained image certificate error (Some at) is = record { word = refl; state = at.state; stop = is }

-- and so does the reason that is told of it
pub check_told : {A : Type 0} (image : ImageView) (certificate : CertificateView) (vlen : Vlen) (error : CheckError) (at : Option (StopView A))
    (reason : CheckReason Global) → IsStopped image certificate error at → reason.explanation ≡ explanation_of image error at
    → IsListed reason.explanation.stop reason.listing → IsWanted image certificate vlen reason.explanation reason.wanted
    → IsCheckReason image certificate vlen error reason
check_told image certificate vlen error at reason is explains listed wants = record {
  fault = ap (λ (e : Explanation). e.error) explains;
  stop = subst (Explains image certificate) (sym explains) (explained image certificate error at is);
  listing = listed;
  wanted = wants;
}

-- what is kept means what that means which was to be kept
pub explained_as : (h : Halt) (w : Why) (means : Why → Type 0) → IfExplained h (λ kept. kept ≡ w) → means w → IfExplained h means
explained_as (halt.Plain s) w means is holds = tt
explained_as (halt.Parameters reason) w means is holds = absurd is
explained_as (halt.Unopened told) w means is holds = absurd is
explained_as (halt.Explained kept) w means is holds = subst means (sym is) holds
