-- Parameters as they are lent, place by place.
use Rattle.std.proofs.Common.{◌≡◌, ◌+◌, ◌≤◌, ◌∙◌, ℕ, zero, suc, List, [], ◌∷◌, None, Option, arith, inl, inr, map, refl, slice_index_or, sym}
use Rattle.std.proofs.Math.Nat.{eq-or-lt_of_le}
use Rattle.std.specs.Borrow.{Bor}
use Rattle.job_file.specs.Job.{Text, param_lent}
use Rattle.job_file.specs.declared.keys.JobKey.{JobKey}
use Rattle.job_file.specs.declared.values.JobParam.{JobParam}
use Rattle.job_file.specs.declared.values.JobParam.TheVariants as param
use Rattle.job_reasons.specs.Job.{LackNone, param_lacks, place_lacks}
use Rattle.job_reasons.specs.declared.job.Command.{Command}

pub lent_at : (params : List (JobParam (Bor Text))) (k : ℕ) → slice_index_or (map param_lent params) k param.None ≡ param_lent (slice_index_or params k param.None)
lent_at [] k = refl
lent_at (p ∷ ps) zero = refl
lent_at (p ∷ ps) (suc k) = lent_at ps k

-- one place more lacks none
pub one_more : (c : Command) (params : List (JobParam (Bor Text))) (end : ℕ) (found : Option JobKey) → LackNone c (map param_lent params) end
    → found ≡ param_lacks c (param_lent (slice_index_or params end param.None)) → found ≡ None → LackNone c (map param_lent params) (end + 1)
one_more c params end found before at none = λ place below.
    let within : place ≤ end = omega (arith, below) in
    elim (eq-or-lt_of_le {n = place} {m = end} within) as (λ _. place_lacks c (map param_lent params) place ≡ None) [
      | inl equal ↦ rw (equal, lent_at params end) (sym at ∙ none)
      | inr less ↦ before place less
    ]
