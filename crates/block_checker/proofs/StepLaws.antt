-- What the induction over a run needs of single steps, edges and blocks. `Held n a s`: what is known, a, is true of the
-- state s, and the budget came to n where the block began. `Goes n edge t`: the edge leads to t. `Fits block t`: the block
-- may be entered in t.
use Rattle.std.proofs.Common.{◌≡◌, ◌≤◌, ◌<◌, ◌+◌, ◌%◌, ◌^◌, ℕ, Bool, false, Some, None, Ok}
use Rattle.rv_decode.specs.declared.instructions.Insn.{Insn}
use Rattle.rv_decode.specs.Decode.{meaning_of}
use Rattle.elf_image.specs.Image.{ImageView, code_at}
use Rattle.region_mem.specs.Memory.{fetch_of}
use Rattle.scalar_core.specs.Hart.{exit, reg_of}
use Rattle.machine.specs.Machine.{Machine}
use Rattle.machine.specs.MachineStep.{carry_out, unless_misaligned}
use Rattle.cert_note.specs.declared.values.Block.{Block}
use Rattle.cert_note.specs.Certificate.{CertificateView}
use Rattle.abs_state.specs.State.{AbstractView}
use Rattle.abs_state.specs.After.{after_of}
use Rattle.abs_state.specs.Blocks.{at_block_of, at_entry_of}
use Rattle.abs_state.specs.Branches.{EdgeView, refined}
use Rattle.abs_state.specs.Edges.{implied_by}
use Rattle.abs_state.specs.StepLaws.{jumps}
use Rattle.block_checker.specs.Passes.{block_at, is_branch}
use Rattle.abs_state.specs.Held.{budget_at}

-- what the block's budget comes to in a state
abbrev pub budget_in : Block → Machine → ℕ
budget_in block t = budget_at block.budget (λ r. reg_of r t.hart)

pub record Laws (image : ImageView) (certificate : CertificateView) (vlenb : ℕ) (begin : Machine)
    (Held : ℕ → AbstractView → Machine → Type 0) (Goes : ℕ → EdgeView → Machine → Type 0)
    (Fits : Block → Machine → Type 0) : Type 0 where
  pub low : (pc word : ℕ) → code_at pc image ≡ Some word → pc + 4 < 2 ^ 32
  pub aligned : (pc : ℕ) (b : Block) → block_at pc certificate.blocks ≡ Some b → pc % 4 ≡ 0
  pub code : (n word : ℕ) (a : AbstractView) (s : Machine) → Held n a s
      → code_at s.hart.pc image ≡ Some word → fetch_of s.hart.pc s.memory ≡ Some word
  pub block : (b : Block) (s : Machine) → block_at s.hart.pc certificate.blocks ≡ Some b → Fits b s
      → Held (budget_in b s) (at_block_of image certificate b) s
  pub step : (n word : ℕ) (insn : Insn) (a b : AbstractView) (s : Machine) → Held n a s
      → s.hart.pc % 4 ≡ 0 → meaning_of word ≡ Some insn → after_of s.hart.pc insn a ≡ Ok b
      → (t : Machine) × (carry_out vlenb word s insn ≡ unless_misaligned t) × Held n b t
  pub edge : (n : ℕ) (a : AbstractView) (t : Machine) → Held n a t
      → (taken : Bool) × (edge : EdgeView) × (refined taken a ≡ Some edge) × Goes n edge t
  pub one_edge : (pc : ℕ) (insn : Insn) (a b : AbstractView) (taken : Bool) → is_branch insn ≡ false
      → after_of pc insn a ≡ Ok b → refined taken b ≡ refined false b
  pub straight : (pc : ℕ) (insn : Insn) (a b : AbstractView) (taken : Bool) (edge : EdgeView)
      → jumps insn ≡ false → pc + 4 < 2 ^ 32 → after_of pc insn a ≡ Ok b
      → refined taken b ≡ Some edge → edge.target ≡ Some (pc + 4)
  pub counts : (pc : ℕ) (insn : Insn) (a b : AbstractView) → after_of pc insn a ≡ Ok b
      → b.words ≡ a.words + 1
  pub keeps : (taken : Bool) (a : AbstractView) (edge : EdgeView) → refined taken a ≡ Some edge
      → edge.state.words ≡ a.words
  pub begins : (b : Block) → (at_block_of image certificate b).words ≡ 0
  pub at : (n pc : ℕ) (edge : EdgeView) (t : Machine) → Goes n edge t → edge.target ≡ Some pc
      → t.hart.pc ≡ pc
  pub fits : (n : ℕ) (edge : EdgeView) (b : Block) (t : Machine) (taken : Bool) (a : AbstractView)
      → Held n a t → refined taken a ≡ Some edge → Goes n edge t
      → block_at t.hart.pc certificate.blocks ≡ Some b → implied_by edge (Some b) ≡ Ok tt
      → Fits b t × (budget_in b t + edge.state.words ≤ n)
  pub ends : (n : ℕ) (edge : EdgeView) (t : Machine) (taken : Bool) (a : AbstractView)
      → Held n a t → refined taken a ≡ Some edge → Goes n edge t → implied_by edge None ≡ Ok tt
      → (t.hart.pc ≡ exit) × (edge.state.words ≤ n)
  pub entry : (edge : EdgeView) (b : Block) → refined false (at_entry_of image certificate) ≡ Some edge
      → block_at image.entry certificate.blocks ≡ Some b → implied_by edge (Some b) ≡ Ok tt → Fits b begin
  pub entry_edge : (edge : EdgeView) × (refined false (at_entry_of image certificate) ≡ Some edge)
      × (edge.target ≡ Some image.entry)
