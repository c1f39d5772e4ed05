-- What the run left is put back, and what refuses it is told. A run that was done has the status 0; one that was not has left all as it was.
use Rattle.std.proofs.Common.{◌≡◌, ◌∙◌, ◌⊎◌, inl, inr, ap, refl, subst, sym, List, ℕ, IsSomeAnd, Option, Some}
use Rattle.rvvbox_c.specs.Forms.{eight}
use Rattle.rvvbox_c.specs.Runs.{HasRun}
use Rattle.rvvbox_c.specs.Slots.{image_kept}
use Rattle.rvvbox_c.specs.Status.{IsThisOrWant, plain, told_of}
use Rattle.rvvbox_c.specs.declared.status.Refusal.{Refusal}
use Rattle.rvvbox_c.specs.declared.status.Status.TheVariants.{NoMemory}
use Rattle.rvvbox_c.proofs.runs.rvvbox_run_raw.Goals as goal

told_or_want : (x : Option Refusal) (told : Refusal) → (x ≡ Some told) ⊎ (told ≡ plain NoMemory) → IsThisOrWant (told_of x) told
told_or_want x told (inl e) = inl (ap told_of (sym e))
told_or_want x told (inr want) = inr want

pub returns-in-Ok-clause-ran : goal.returns-in-Ok-clause-ran
returns-in-Ok-clause-ran c = λ done. subst
    (λ (new : List (List ℕ)). IsSomeAnd (image_kept c.args.kernel.now.kept) (λ a. HasRun c.args.agnostic a c.args.forms.now
    (eight c.args.r0.now c.args.r1.now c.args.r2.now c.args.r3.now c.args.r4.now c.args.r5.now c.args.r6.now c.args.r7.now)
    (eight c.args.b0.now c.args.b1.now c.args.b2.now c.args.b3.now c.args.b4.now c.args.b5.now c.args.b6.now c.args.b7.now) new c.in-Ok.done))
    (sym c.put_all.ensures) c.in-Ok.ensures.ran

pub returns-in-Ok-clause-answer : goal.returns-in-Ok-clause-answer
returns-in-Ok-clause-answer c = inl (c.of.ensures.plain ∙ ap told_of (sym c.in-Ok.ensures.refused))

pub returns-in-Err-clause-at_once : goal.returns-in-Err-clause-at_once
returns-in-Err-clause-at_once c = c.in-Err.ensures.at_once

pub returns-in-Err-clause-answer : goal.returns-in-Err-clause-answer
returns-in-Err-clause-answer c = told_or_want _ _ c.in-Err.ensures.refused

pub returns-in-Ok-clause-steps : goal.returns-in-Ok-clause-steps
returns-in-Ok-clause-steps c = λ fails. absurd (fails (c.code.ensures.done refl))

pub returns-in-Ok-clause-kept0 : goal.returns-in-Ok-clause-kept0
returns-in-Ok-clause-kept0 c = λ fails. absurd (fails (c.code.ensures.done refl))

pub returns-in-Ok-clause-kept1 : goal.returns-in-Ok-clause-kept1
returns-in-Ok-clause-kept1 c = λ fails. absurd (fails (c.code.ensures.done refl))

pub returns-in-Ok-clause-kept2 : goal.returns-in-Ok-clause-kept2
returns-in-Ok-clause-kept2 c = λ fails. absurd (fails (c.code.ensures.done refl))

pub returns-in-Ok-clause-kept3 : goal.returns-in-Ok-clause-kept3
returns-in-Ok-clause-kept3 c = λ fails. absurd (fails (c.code.ensures.done refl))

pub returns-in-Ok-clause-kept4 : goal.returns-in-Ok-clause-kept4
returns-in-Ok-clause-kept4 c = λ fails. absurd (fails (c.code.ensures.done refl))

pub returns-in-Ok-clause-kept5 : goal.returns-in-Ok-clause-kept5
returns-in-Ok-clause-kept5 c = λ fails. absurd (fails (c.code.ensures.done refl))

pub returns-in-Ok-clause-kept6 : goal.returns-in-Ok-clause-kept6
returns-in-Ok-clause-kept6 c = λ fails. absurd (fails (c.code.ensures.done refl))

pub returns-in-Ok-clause-kept7 : goal.returns-in-Ok-clause-kept7
returns-in-Ok-clause-kept7 c = λ fails. absurd (fails (c.code.ensures.done refl))

pub returns-in-Err-clause-steps : goal.returns-in-Err-clause-steps
returns-in-Err-clause-steps c = λ fails. refl

pub returns-in-Err-clause-kept0 : goal.returns-in-Err-clause-kept0
returns-in-Err-clause-kept0 c = λ fails. refl

pub returns-in-Err-clause-kept1 : goal.returns-in-Err-clause-kept1
returns-in-Err-clause-kept1 c = λ fails. refl

pub returns-in-Err-clause-kept2 : goal.returns-in-Err-clause-kept2
returns-in-Err-clause-kept2 c = λ fails. refl

pub returns-in-Err-clause-kept3 : goal.returns-in-Err-clause-kept3
returns-in-Err-clause-kept3 c = λ fails. refl

pub returns-in-Err-clause-kept4 : goal.returns-in-Err-clause-kept4
returns-in-Err-clause-kept4 c = λ fails. refl

pub returns-in-Err-clause-kept5 : goal.returns-in-Err-clause-kept5
returns-in-Err-clause-kept5 c = λ fails. refl

pub returns-in-Err-clause-kept6 : goal.returns-in-Err-clause-kept6
returns-in-Err-clause-kept6 c = λ fails. refl

pub returns-in-Err-clause-kept7 : goal.returns-in-Err-clause-kept7
returns-in-Err-clause-kept7 c = λ fails. refl
