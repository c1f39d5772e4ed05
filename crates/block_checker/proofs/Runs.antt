-- A run of what passes goes from block to block, each with a smaller budget, until it ends.
use Rattle.std.proofs.Common.{◌≡◌, ◌<◌, ◌+◌, ◌%◌, ◌==◌, ℕ, zero, suc, Bool, true, false, arith, refl, sym, ap, ◌∙◌, subst, inl, inr, Some, None, Result, Ok, Err}
use Rattle.std.specs.Prelude.{if◌then◌else◌}
use Rattle.std.proofs.lemmas.Bool.Decides.{nat_tests}
use Rattle.elf_image.specs.Image.{ImageView}
use Rattle.scalar_core.specs.Hart.{exit}
use Rattle.machine.specs.Machine.{Machine}
use Rattle.machine.specs.MachineStep.{step}
use Rattle.machine.specs.Run.{after}
use Rattle.machine.specs.RunLemmas.{after-plus}
use Rattle.cert_note.specs.declared.values.Block.{Block}
use Rattle.cert_note.specs.Certificate.{CertificateView}
use Rattle.abs_state.specs.declared.state.TheConstants.{MOST_WORDS}
use Rattle.abs_state.specs.State.{AbstractView}
use Rattle.abs_state.specs.Blocks.{at_block_of, at_entry_of}
use Rattle.abs_state.specs.Branches.{EdgeView, refined}
use Rattle.abs_state.specs.Edges.{implied_by}
use Rattle.block_checker.specs.declared.errors.CheckError.{CheckError}
use Rattle.block_checker.specs.Passes.{block_at, block_for, edge_passes, possible_passes, Progress, Ended, On, then_on, word_passes, walk, block_passes, blocks_pass, entry_passes_to, entry_passes}
use Rattle.block_checker.specs.Sound.{IsWellBehaved}
use Rattle.block_checker.proofs.Finding.{block-begins, block-passes}
use Rattle.block_checker.proofs.StepLaws.{Laws, budget_in}
use Rattle.block_checker.proofs.Words.{Arrives, told-ok, word-leads}

after-first : (vlenb : ℕ) (s t : Machine) → step vlenb s ≡ Ok t → after vlenb s (suc zero) ≡ Ok t
unfolding after
after-first vlenb s t e = e

-- a step and the run from there
after-step : (vlenb k : ℕ) (s t u : Machine) → step vlenb s ≡ Ok t → after vlenb t k ≡ Ok u → after vlenb s (suc k) ≡ Ok u
after-step vlenb k s t u e more =
    let sum : suc zero + k ≡ suc k = omega arith in
    let whole : after vlenb s (suc zero + k) ≡ Ok u = after-plus vlenb s (suc zero) k t (after-first vlenb s t e) ∙ more in
    subst (λ m. after vlenb s m ≡ Ok u) sum whole

module _ (image : ImageView) (certificate : CertificateView) (vlenb : ℕ) (begin : Machine)
    (Held : ℕ → AbstractView → Machine → Type 0) (Goes : ℕ → EdgeView → Machine → Type 0)
    (Fits : Block → Machine → Type 0) (laws : Laws image certificate vlenb begin Held Goes Fits) where
  -- After at least one step a walk's end is reached.
  abbrev Reaches : ℕ → AbstractView → Machine → Type 0
  Reaches n a s = (m : ℕ) × (t : Machine) × (after vlenb s (suc m) ≡ Ok t) × Arrives certificate Fits n (a.words + suc m) t

  ended-reaches : (n : ℕ) (a : AbstractView) (s t : Machine) → step vlenb s ≡ Ok t → Arrives certificate Fits n (a.words + 1) t
      → Reaches n a s
  ended-reaches n a s t e arrives =
      let sum : a.words + 1 ≡ a.words + suc zero = omega arith in
      (zero, t, after-first vlenb s t e, subst (λ d. Arrives certificate Fits n d t) sum arrives)

  on-reaches : (n : ℕ) (a b : AbstractView) (s t : Machine) → step vlenb s ≡ Ok t → b.words ≡ a.words + 1
      → Reaches n b t → Reaches n a s
  on-reaches n a b s t e count more =
      let sum : b.words + suc more.0 ≡ a.words + suc (suc more.0) = omega (arith, count) in
      (suc more.0, more.1, after-step vlenb (suc more.0) s t more.1 e more.2, subst (λ d. Arrives certificate Fits n d more.1) sum more.3)

  walked-word : (n more : ℕ) (a : AbstractView) (s : Machine) (r : Result Progress CheckError) → Held n a s → s.hart.pc % 4 ≡ 0
      → word_passes image certificate s.hart.pc a ≡ r
      → then_on r (λ next. walk image certificate more (s.hart.pc + 4) next) ≡ Ok tt
      → ((b : AbstractView) (t : Machine) → Held n b t → t.hart.pc % 4 ≡ 0 → walk image certificate more t.hart.pc b ≡ Ok tt → Reaches n b t)
      → Reaches n a s
  walked-word n more a s (Err error) held aligned word passes on = absurd (let bad : ⊥ = cc in bad)
  walked-word n more a s (Ok Ended) held aligned word passes on =
      let leads = word-leads image certificate vlenb begin Held Goes Fits laws n a s Ended held aligned word in
      ended-reaches n a s leads.0 leads.1 leads.2
  walked-word n more a s (Ok (On b)) held aligned word passes on =
      let leads = word-leads image certificate vlenb begin Held Goes Fits laws n a s (On b) held aligned word in
      let next = leads.2 in
      let there : leads.0.hart.pc ≡ s.hart.pc + 4 = next.1 in
      let walks : walk image certificate more leads.0.hart.pc b ≡ Ok tt = ap (λ pc. walk image certificate more pc b) there ∙ passes in
      on-reaches n a b s leads.0 leads.1 next.2 (on b leads.0 next.0 (omega (arith, there, aligned)) walks)

  walk-leads : (n more : ℕ) (a : AbstractView) (s : Machine) → Held n a s → s.hart.pc % 4 ≡ 0
      → walk image certificate more s.hart.pc a ≡ Ok tt → Reaches n a s
  unfolding walk
  walk-leads n zero a s held aligned passes = absurd (let bad : ⊥ = cc in bad)
  walk-leads n (suc more) a s held aligned passes =
      walked-word n more a s (word_passes image certificate s.hart.pc a) held aligned refl passes
      (λ b t held aligned passes. walk-leads n more b t held aligned passes)

  -- the walk of the block that is entered
  block-leads : (b : Block) (s : Machine) → blocks_pass image certificate certificate.blocks ≡ Ok tt
      → block_at s.hart.pc certificate.blocks ≡ Some b → Fits b s
      → (m : ℕ) × (t : Machine) × (after vlenb s (suc m) ≡ Ok t) × Arrives certificate Fits (budget_in b s) (suc m) t
  unfolding block_passes
  block-leads b s passes found fits =
      let held = laws.block b s found fits in
      let start : b.start ≡ s.hart.pc = grind (arith, nat_tests, block-begins s.hart.pc certificate.blocks b found) in
      let here : walk image certificate MOST_WORDS b.start (at_block_of image certificate b) ≡ Ok tt = block-passes image certificate s.hart.pc b found passes in
      let walks : walk image certificate MOST_WORDS s.hart.pc (at_block_of image certificate b) ≡ Ok tt =
      ap (λ pc. walk image certificate MOST_WORDS pc (at_block_of image certificate b)) (sym start) ∙ here in
      let reaches = walk-leads (budget_in b s) MOST_WORDS (at_block_of image certificate b) s held (laws.aligned s.hart.pc b found) walks in
      let sum : (at_block_of image certificate b).words + suc reaches.0 ≡ suc reaches.0 = omega (arith, laws.begins b) in
      (reaches.0, reaches.1, reaches.2, subst (λ d. Arrives certificate Fits (budget_in b s) d reaches.1) sum reaches.3)

  abbrev Runs : ℕ → Type 0
  Runs bound = (b : Block) (s : Machine) → block_at s.hart.pc certificate.blocks ≡ Some b → Fits b s
      → budget_in b s < bound → IsWellBehaved vlenb (budget_in b s) s

  arrived-ends : (n bound m : ℕ) (s t : Machine) → n < suc bound → after vlenb s (suc m) ≡ Ok t → Arrives certificate Fits n (suc m) t
      → Runs bound → IsWellBehaved vlenb n s
  arrived-ends n bound m s t below e (inl h) runs = (suc m, t, h.1, e, h.0)
  arrived-ends n bound m s t below e (inr h) runs =
      let less : budget_in h.0 t < bound = omega (arith, below, h.3) in
      let rest = runs h.0 t h.1 h.2 less in
      (suc m + rest.0, rest.1, omega (arith, rest.2, h.3), after-plus vlenb s (suc m) rest.0 t e ∙ rest.3, rest.4)

  run-ends : blocks_pass image certificate certificate.blocks ≡ Ok tt → (bound : ℕ) → Runs bound
  run-ends passes zero b s found fits below = absurd (omega (arith, below))
  run-ends passes (suc bound) b s found fits below =
      let leads = block-leads b s passes found fits in
      arrived-ends (budget_in b s) bound leads.0 s leads.1 below leads.2 leads.3 (run-ends passes bound)

  -- ---- the entry

  goes-on : (address : ℕ) (b : Block) → (address == exit) ≡ false → block_at address certificate.blocks ≡ Some b
      → block_for (Some address) certificate.blocks ≡ Some b
  unfolding block_for
  goes-on address b on found = ap (λ t. if t then None else block_at address certificate.blocks) on ∙ found

  entry-shown : (b : Block) (edge : EdgeView) → edge.target ≡ Some image.entry → (image.entry == exit) ≡ false
      → block_at image.entry certificate.blocks ≡ Some b → edge_passes certificate image.entry edge ≡ Ok tt → implied_by edge (Some b) ≡ Ok tt
  unfolding edge_passes
  entry-shown b edge target on found passes =
      let shown : implied_by edge (block_for edge.target certificate.blocks) ≡ Ok tt = told-ok image.entry _ passes in
      let block : block_for edge.target certificate.blocks ≡ Some b = ap (λ o. block_for o certificate.blocks) target ∙ goes-on image.entry b on found in
      ap (implied_by edge) (sym block) ∙ shown

  entry-fits : (b : Block) → (image.entry == exit) ≡ false → block_at image.entry certificate.blocks ≡ Some b
      → entry_passes image certificate ≡ Ok tt → Fits b begin
  unfolding entry_passes entry_passes_to possible_passes
  entry-fits b on found passes =
      let way = laws.entry_edge in
      let here : possible_passes certificate image.entry (refined false (at_entry_of image certificate)) ≡ Ok tt =
      ap (entry_passes_to image certificate) (sym found) ∙ passes in
      let edge : edge_passes certificate image.entry way.0 ≡ Ok tt =
      ap (possible_passes certificate image.entry) (sym way.1) ∙ here in
      laws.entry way.0 b way.1 found (entry-shown b way.0 way.2 on found edge)

  pub passing-ends : (b : Block) → begin.hart.pc ≡ image.entry → block_at image.entry certificate.blocks ≡ Some b
      → entry_passes image certificate ≡ Ok tt → blocks_pass image certificate certificate.blocks ≡ Ok tt
      → IsWellBehaved vlenb (budget_in b begin) begin
  unfolding after
  passing-ends b starts found entry passes = by_end (image.entry == exit) refl
    where
      -- a run that begins at its end
      by_end : (t : Bool) → (image.entry == exit) ≡ t → IsWellBehaved vlenb (budget_in b begin) begin
      by_end true h = (0, begin, omega arith, refl, ap (λ pc. pc == exit) starts ∙ h)
      by_end false h =
          let here : block_at begin.hart.pc certificate.blocks ≡ Some b = ap (λ pc. block_at pc certificate.blocks) starts ∙ found in
          run-ends passes (suc (budget_in b begin)) b begin here (entry-fits b h found entry) (omega arith)
