-- Stops of runs, and what a session keeps of them.
use Rattle.std.proofs.Common.{◌≡◌, ◌∙◌, ℕ, ◌+◌, ◌≤◌, inl, inr, true, false, List, length, Ok, refl, ap, arith, add-one, below_more}
use Rattle.std.proofs.lemmas.Bool.{cases_lt}
use Rattle.cert_note.specs.Certificate.{CertificateView, IsCertificate}
use Rattle.cert_note.specs.ParameterLemmas.{valid_all}
use Rattle.elf_image.specs.Image.{ImageView, IsImage}
use Rattle.region_mem.specs.Memory.{args_of}
use Rattle.region_mem.specs.Parameter.{Argument, AreArguments}
use Rattle.region_mem.specs.Start.{start_memory}
use Rattle.region_mem.specs.declared.parameter.Param.{Param}
use Rattle.region_mem.specs.StartLemmas.{gives_arguments_back}
use Rattle.block_checker.specs.Sound.{IsWellBehaved}
use Rattle.vreg_groups.specs.declared.policies.Agnostic.{Agnostic}
use Rattle.machine.specs.Kept.{RunsKeep}
use Rattle.machine.specs.Machine.{Machine}
use Rattle.machine.specs.MachineStep.{step}
use Rattle.machine.specs.Permitted.{RunsArePermitted}
use Rattle.machine.specs.Run.{after, has_ended, GoesOnUntil}
use Rattle.machine.specs.Start.{start}
use Rattle.sandbox_run.specs.Session.{HandsBack, SessionView}
use Rattle.sandbox_run.specs.Back.{ComesBack}
use Rattle.sandbox_run.specs.Stops.{IsStop, StopsWell}
use Rattle.sandbox_run.proofs.Back.{starts_come_back}
use Rattle.sandbox_run.proofs.PermittedLemmas.{permitted_in}

-- A run does not go on past its end.
pub within_end : (vlenb : ℕ) (first : Machine) (steps k : ℕ) (last : Machine) → GoesOnUntil vlenb first steps → after vlenb first k ≡ Ok last
    → has_ended last ≡ true → steps ≤ k
within_end vlenb first steps k last goes is ended =
    elim (cases_lt k steps) [
      | inl below ↦
          let (t, there, going) = goes k below in
          let same : last ≡ t = cc (is, there) in
          absurd (cc (same, ended, going))
      | inr above ↦ above
    ]

pub stops_well : RunsArePermitted → RunsKeep → (vlenb n : ℕ) (first : Machine) (steps : ℕ) (m : Machine) → IsWellBehaved vlenb n first → IsStop vlenb first steps m
    → StopsWell vlenb n first steps m
stops_well permit keep vlenb n first steps m (k, last, least, leads, ended) (is, goes) =
    let before : steps ≤ k = within_end vlenb first steps k last goes leads ended in
    record {
      within = omega (arith, before, least);
      permitted = λ j below u there.
          permitted_in vlenb first.memory u (keep vlenb first u j there).extents (permit vlenb first m steps is j below u there);
      keeps = keep vlenb first m steps is;
    }

-- A run stops at its start,
pub stop_at_start : (vlenb : ℕ) (m : Machine) → IsStop vlenb m 0 m
unfolding after
stop_at_start vlenb m = (refl, λ j below. absurd (omega (arith, below)))

-- and after a step more.
pub stop_after_step : (vlenb steps : ℕ) (first m t : Machine) → IsStop vlenb first steps m → has_ended m ≡ false → step vlenb m ≡ Ok t
    → IsStop vlenb first (steps + 1) t
unfolding after
stop_after_step vlenb steps first m t (is, goes) going next =
    ((rw (add-one, is) next), below_more (λ j. (u : Machine) × (after vlenb first j ≡ Ok u) × (has_ended u ≡ false)) steps goes (m, is, going))

-- ---- what a session is opened with

memory_of_start : (vlenb : ℕ) (agnostic : Agnostic) (image : ImageView) (params : List Param) (args : List Argument)
    → (start vlenb agnostic image params args).memory ≡ start_memory image params args
unfolding start
memory_of_start vlenb agnostic image params args = refl

module _ (vlenb : ℕ) (agnostic : Agnostic) (image : ImageView) (certificate : CertificateView) (args : List Argument) (m : Machine)
    (is : IsImage image) (stated : IsCertificate certificate) (eight : length args ≡ 8)
    (matching : AreArguments certificate.parameters args) (starts : m ≡ start vlenb agnostic image certificate.parameters args) where
  memory_is : m.memory ≡ start_memory image certificate.parameters args
  memory_is = ap (λ (t : Machine). t.memory) starts ∙ memory_of_start vlenb agnostic image certificate.parameters args

  pub passed_back : args_of m.memory ≡ args
  passed_back =
      ap args_of memory_is
      ∙ gives_arguments_back image certificate.parameters args is (valid_all _ stated.parameters) stated.eight eight matching

  pub hands_back : HandsBack certificate.parameters m.memory
  hands_back =
      rw passed_back (
        matching,
        λ next keeps. starts_come_back image certificate.parameters args is (valid_all _ stated.parameters) stated.eight eight matching next
            (rw (← memory_is) keeps),
      )

-- What a session was passed comes back from where it stands.
pub comes_back_here : RunsKeep → (vlenb : ℕ) (s : SessionView) → IsStop vlenb s.first s.steps s.machine → HandsBack s.parameters s.first.memory
    → ComesBack s.parameters (args_of s.first.memory) (args_of s.machine.memory)
comes_back_here keep vlenb s (is, goes) (matching, back) = back s.machine.memory (keep vlenb s.first s.machine s.steps is)
