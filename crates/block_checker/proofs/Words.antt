-- A word that passes leads, without a fault, to the next word, to a block that may be entered, or to the end of the run.
use Rattle.std.proofs.Common.{◌≡◌, ◌<◌, ◌≤◌, ◌+◌, ◌%◌, ◌^◌, ◌==◌, ℕ, Bool, true, false, arith, refl, sym, ap, ◌∙◌, subst, inl, inr, ◌⊎◌, Option, Some, None, Result, Ok, Err}
use Rattle.std.specs.Prelude.{◌||◌, is_some, if◌then◌else◌}
use Rattle.std.proofs.lemmas.Bool.Decides.{nat_tests}
use Rattle.elf_image.specs.Image.{ImageView, code_at}
use Rattle.rv_decode.specs.declared.instructions.Insn.{Insn}
use Rattle.rv_decode.specs.Decode.{meaning_of}
use Rattle.region_mem.specs.declared.faults.Fault.{Fault}
use Rattle.region_mem.specs.Memory.{fetch_of}
use Rattle.scalar_core.specs.Hart.{exit}
use Rattle.machine.specs.Machine.{Machine}
use Rattle.machine.specs.MachineStep.{step, carry_out, unless_misaligned}
use Rattle.machine.specs.Run.{has_ended}
use Rattle.cert_note.specs.declared.values.Block.{Block}
use Rattle.cert_note.specs.Certificate.{CertificateView}
use Rattle.abs_domain.specs.declared.why.Why.{Why}
use Rattle.abs_state.specs.State.{AbstractView}
use Rattle.abs_state.specs.After.{after_of}
use Rattle.abs_state.specs.Branches.{EdgeView, refined}
use Rattle.abs_state.specs.Edges.{implied_by}
use Rattle.abs_state.specs.StepLaws.{jumps}
use Rattle.block_checker.specs.Passes.{Checked, both, block_at, block_for, is_branch, told_at, edge_passes, possible_passes, edges_pass, Progress, Ended, On, ends, followed, decoded, fetched, word_passes}
use Rattle.block_checker.proofs.Finding.{both_first, both_second}
use Rattle.block_checker.proofs.StepLaws.{Laws, budget_in}

-- ---- what the answers say

pub told-ok : (pc : ℕ) (r : Result (Unit {0}) Why) → told_at pc r ≡ Ok tt → r ≡ Ok tt
told-ok pc (Ok done) e = refl
told-ok pc (Err why) e = cc

ends-ok : (r : Checked) (p : Progress) → ends r ≡ Ok p → (r ≡ Ok tt) × (p ≡ Ended)
ends-ok (Ok done) p e = (refl, cc)
ends-ok (Err error) p e = absurd (let bad : ⊥ = cc in bad)

or-first : (x y : Bool) → (x || y) ≡ false → x ≡ false
or-first true y e = e
or-first false y e = refl

-- ---- steps

steps : (vlenb word : ℕ) (insn : Insn) (s : Machine) (r : Result Machine Fault) → fetch_of s.hart.pc s.memory ≡ Some word
    → meaning_of word ≡ Some insn → carry_out vlenb word s insn ≡ r → step vlenb s ≡ r
unfolding step
steps vlenb word insn s r f m c = rw (f, m) c

aligned-is : (t : Machine) → t.hart.pc % 4 ≡ 0 → unless_misaligned t ≡ Ok t
unfolding unless_misaligned
aligned-is t e = rw e refl

-- ---- where a walk ends

-- A walk's end: the run has ended, or a block may be entered whose budget is left.
abbrev pub Arrives : CertificateView → (Block → Machine → Type 0) → ℕ → ℕ → Machine → Type 0
Arrives certificate Fits n done t =
    ((has_ended t ≡ true) × (done ≤ n))
    ⊎ ((b : Block) × (block_at t.hart.pc certificate.blocks ≡ Some b) × Fits b t × (budget_in b t + done ≤ n))

-- What a word leads to: where the block ends, or on to the next word.
abbrev pub Next : CertificateView → (ℕ → AbstractView → Machine → Type 0) → (Block → Machine → Type 0)
    → ℕ → AbstractView → ℕ → Machine → Progress → Type 0
Next certificate Held Fits n a pc t Ended = Arrives certificate Fits n (a.words + 1) t
Next certificate Held Fits n a pc t (On b) = Held n b t × (t.hart.pc ≡ pc + 4) × (b.words ≡ a.words + 1)

module _ (image : ImageView) (certificate : CertificateView) (vlenb : ℕ) (begin : Machine)
    (Held : ℕ → AbstractView → Machine → Type 0) (Goes : ℕ → EdgeView → Machine → Type 0)
    (Fits : Block → Machine → Type 0) (laws : Laws image certificate vlenb begin Held Goes Fits) where
  abbrev Leads : ℕ → AbstractView → Machine → Progress → Type 0
  Leads n a s p = (t : Machine) × (step vlenb s ≡ Ok t) × Next certificate Held Fits n a s.hart.pc t p

  -- ---- edges

  ended-there : (n : ℕ) (edge : EdgeView) (t : Machine) (taken : Bool) (b : AbstractView) → Held n b t → refined taken b ≡ Some edge
      → Goes n edge t → implied_by edge None ≡ Ok tt → Arrives certificate Fits n b.words t
  ended-there n edge t taken b held e goes shown =
      let end = laws.ends n edge t taken b held e goes shown in
      let same : edge.state.words ≡ b.words = laws.keeps taken b edge e in
      inl (rw end.0 refl, omega (arith, end.1, same))

  entered : (n : ℕ) (edge : EdgeView) (t : Machine) (taken : Bool) (b : AbstractView) → Held n b t → refined taken b ≡ Some edge
      → Goes n edge t → (found : Option Block) → block_at t.hart.pc certificate.blocks ≡ found
      → implied_by edge found ≡ Ok tt → Arrives certificate Fits n b.words t
  entered n edge t taken b held e goes None h shown = ended-there n edge t taken b held e goes shown
  entered n edge t taken b held e goes (Some block) h shown =
      let there = laws.fits n edge block t taken b held e goes h shown in
      let same : edge.state.words ≡ b.words = laws.keeps taken b edge e in
      inr (block, h, there.0, omega (arith, there.1, same))

  towards : (n : ℕ) (edge : EdgeView) (t : Machine) (taken : Bool) (b : AbstractView) → Held n b t → refined taken b ≡ Some edge
      → Goes n edge t → (pc : ℕ) → t.hart.pc ≡ pc → (is_end : Bool)
      → implied_by edge (if is_end then None else block_at pc certificate.blocks) ≡ Ok tt → Arrives certificate Fits n b.words t
  towards n edge t taken b held e goes pc here true shown = ended-there n edge t taken b held e goes shown
  towards n edge t taken b held e goes pc here false shown =
      entered n edge t taken b held e goes (block_at pc certificate.blocks) (ap (λ (p : ℕ). block_at p certificate.blocks) here) shown

  targeted : (n : ℕ) (edge : EdgeView) (t : Machine) (taken : Bool) (b : AbstractView) → Held n b t → refined taken b ≡ Some edge
      → Goes n edge t → (target : Option ℕ) → edge.target ≡ target
      → implied_by edge (block_for target certificate.blocks) ≡ Ok tt → Arrives certificate Fits n b.words t
  unfolding block_for
  targeted n edge t taken b held e goes None h shown = ended-there n edge t taken b held e goes shown
  targeted n edge t taken b held e goes (Some pc) h shown =
      let here : t.hart.pc ≡ pc = laws.at n pc edge t goes h in
      towards n edge t taken b held e goes pc here (pc == exit) shown

  -- an edge that passes, and is taken, arrives
  edge-arrives : (n pc : ℕ) (edge : EdgeView) (t : Machine) (taken : Bool) (b : AbstractView) → Held n b t → refined taken b ≡ Some edge
      → Goes n edge t → edge_passes certificate pc edge ≡ Ok tt → Arrives certificate Fits n b.words t
  unfolding edge_passes
  edge-arrives n pc edge t taken b held e goes passes =
      targeted n edge t taken b held e goes edge.target refl (told-ok pc _ passes)

  possible-arrives : (n pc : ℕ) (edge : EdgeView) (t : Machine) (taken : Bool) (b : AbstractView) → Held n b t → refined taken b ≡ Some edge
      → Goes n edge t → possible_passes certificate pc (refined taken b) ≡ Ok tt → Arrives certificate Fits n b.words t
  unfolding possible_passes
  possible-arrives n pc edge t taken b held e goes passes =
      let here : possible_passes certificate pc (Some edge) ≡ Ok tt = ap (possible_passes certificate pc) (sym e) ∙ passes in
      edge-arrives n pc edge t taken b held e goes here

  of-both : (pc : ℕ) (b : AbstractView) (taken : Bool)
      → both (possible_passes certificate pc (refined true b)) (possible_passes certificate pc (refined false b)) ≡ Ok tt
      → possible_passes certificate pc (refined taken b) ≡ Ok tt
  of-both pc b true h = both_first _ _ h
  of-both pc b false h = both_second _ _ h

  taken-passes : (pc : ℕ) (insn : Insn) (a b : AbstractView) (taken t : Bool) → is_branch insn ≡ t → after_of pc insn a ≡ Ok b
      → (if t then both (possible_passes certificate pc (refined true b)) (possible_passes certificate pc (refined false b))
      else possible_passes certificate pc (refined false b)) ≡ Ok tt
      → possible_passes certificate pc (refined taken b) ≡ Ok tt
  taken-passes pc insn a b taken true h e passes = of-both pc b taken passes
  taken-passes pc insn a b taken false h e passes =
      ap (possible_passes certificate pc) (laws.one_edge pc insn a b taken h e) ∙ passes

  -- the edges of a word pass: the one that is taken arrives
  edges-arrive : (n pc : ℕ) (insn : Insn) (a b : AbstractView) (t : Machine) → Held n b t → after_of pc insn a ≡ Ok b
      → edges_pass certificate pc insn b ≡ Ok tt → Arrives certificate Fits n b.words t
  unfolding edges_pass
  edges-arrive n pc insn a b t held e passes =
      let way = laws.edge n b t held in
      possible-arrives n pc way.1 t way.0 b held way.2 way.3 (taken-passes pc insn a b way.0 (is_branch insn) refl e passes)

  -- ---- words

  arrives-aligned : (n done : ℕ) (t : Machine) → Arrives certificate Fits n done t → t.hart.pc % 4 ≡ 0
  arrives-aligned n done t (inl h) =
      let there : t.hart.pc ≡ exit = grind (arith, nat_tests, h.0) in
      rw there refl
  arrives-aligned n done t (inr h) = laws.aligned t.hart.pc h.0 h.1

  -- the machine after a word that is not refused, if it stands at a multiple of 4
  stepped : (n word : ℕ) (insn : Insn) (a : AbstractView) (s t : Machine) → Held n a s → code_at s.hart.pc image ≡ Some word
      → meaning_of word ≡ Some insn → carry_out vlenb word s insn ≡ unless_misaligned t → t.hart.pc % 4 ≡ 0 → step vlenb s ≡ Ok t
  stepped n word insn a s t held code means is aligned =
      steps vlenb word insn s (Ok t) (laws.code n word a s held code) means (is ∙ aligned-is t aligned)

  ended-leads : (n word : ℕ) (insn : Insn) (a b : AbstractView) (s : Machine) → Held n a s → s.hart.pc % 4 ≡ 0
      → code_at s.hart.pc image ≡ Some word → meaning_of word ≡ Some insn → after_of s.hart.pc insn a ≡ Ok b
      → edges_pass certificate s.hart.pc insn b ≡ Ok tt → Leads n a s Ended
  ended-leads n word insn a b s held aligned code means e passes =
      let next = laws.step n word insn a b s held aligned means e in
      let arrives = edges-arrive n s.hart.pc insn a b next.0 next.2 e passes in
      let count : b.words ≡ a.words + 1 = laws.counts s.hart.pc insn a b e in (
        next.0,
        stepped n word insn a s next.0 held code means next.1 (arrives-aligned n b.words next.0 arrives),
        subst (λ done. Arrives certificate Fits n done next.0) count arrives,
      )

  on-leads : (n word : ℕ) (insn : Insn) (a b : AbstractView) (s : Machine) → Held n a s → s.hart.pc % 4 ≡ 0
      → code_at s.hart.pc image ≡ Some word → meaning_of word ≡ Some insn → after_of s.hart.pc insn a ≡ Ok b
      → jumps insn ≡ false → Leads n a s (On b)
  on-leads n word insn a b s held aligned code means e straight =
      let next = laws.step n word insn a b s held aligned means e in
      let way = laws.edge n b next.0 next.2 in
      let low : s.hart.pc + 4 < 2 ^ 32 = laws.low s.hart.pc word code in
      let target = laws.straight s.hart.pc insn a b way.0 way.1 straight low e way.2 in
      let there : next.0.hart.pc ≡ s.hart.pc + 4 = laws.at n (s.hart.pc + 4) way.1 next.0 way.3 target in (
        next.0,
        stepped n word insn a s next.0 held code means next.1 (omega (arith, there, aligned)),
        (next.2, there, laws.counts s.hart.pc insn a b e),
      )

  followed-cases : (n word : ℕ) (insn : Insn) (a b : AbstractView) (s : Machine) (p : Progress) (t : Bool) → Held n a s → s.hart.pc % 4 ≡ 0
      → code_at s.hart.pc image ≡ Some word → meaning_of word ≡ Some insn → after_of s.hart.pc insn a ≡ Ok b
      → (jumps insn || is_some (block_at (s.hart.pc + 4) certificate.blocks)) ≡ t
      → (if t then ends (edges_pass certificate s.hart.pc insn b) else Ok (On b)) ≡ Ok p → Leads n a s p
  followed-cases n word insn a b s p true held aligned code means e test h =
      let both = ends-ok (edges_pass certificate s.hart.pc insn b) p h in
      subst (Leads n a s) (sym both.1) (ended-leads n word insn a b s held aligned code means e both.0)
  followed-cases n word insn a b s p false held aligned code means e test h =
      let same : On b ≡ p = cc in
      subst (Leads n a s) same (on-leads n word insn a b s held aligned code means e (or-first _ _ test))

  followed-leads : (n word : ℕ) (insn : Insn) (a : AbstractView) (s : Machine) (p : Progress) (r : Result AbstractView Why) → Held n a s
      → s.hart.pc % 4 ≡ 0 → code_at s.hart.pc image ≡ Some word → meaning_of word ≡ Some insn → after_of s.hart.pc insn a ≡ r
      → followed certificate s.hart.pc insn r ≡ Ok p → Leads n a s p
  unfolding followed
  followed-leads n word insn a s p (Err why) held aligned code means e h = absurd (let bad : ⊥ = cc in bad)
  followed-leads n word insn a s p (Ok b) held aligned code means e h =
      followed-cases n word insn a b s p (jumps insn || is_some (block_at (s.hart.pc + 4) certificate.blocks)) held aligned code means e refl h

  decoded-leads : (n word : ℕ) (a : AbstractView) (s : Machine) (p : Progress) (o : Option Insn) → Held n a s → s.hart.pc % 4 ≡ 0
      → code_at s.hart.pc image ≡ Some word → meaning_of word ≡ o → decoded certificate s.hart.pc a o ≡ Ok p → Leads n a s p
  unfolding decoded
  decoded-leads n word a s p None held aligned code means h = absurd (let bad : ⊥ = cc in bad)
  decoded-leads n word a s p (Some insn) held aligned code means h =
      followed-leads n word insn a s p (after_of s.hart.pc insn a) held aligned code means refl h

  fetched-leads : (n : ℕ) (a : AbstractView) (s : Machine) (p : Progress) (o : Option ℕ) → Held n a s → s.hart.pc % 4 ≡ 0
      → code_at s.hart.pc image ≡ o → fetched certificate s.hart.pc a o ≡ Ok p → Leads n a s p
  unfolding fetched
  fetched-leads n a s p None held aligned code h = absurd (let bad : ⊥ = cc in bad)
  fetched-leads n a s p (Some word) held aligned code h =
      decoded-leads n word a s p (meaning_of word) held aligned code refl h

  pub word-leads : (n : ℕ) (a : AbstractView) (s : Machine) (p : Progress) → Held n a s → s.hart.pc % 4 ≡ 0
      → word_passes image certificate s.hart.pc a ≡ Ok p
      → (t : Machine) × (step vlenb s ≡ Ok t) × Next certificate Held Fits n a s.hart.pc t p
  unfolding word_passes
  word-leads n a s p held aligned h = fetched-leads n a s p (code_at s.hart.pc image) held aligned refl h
