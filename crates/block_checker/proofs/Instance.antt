-- The laws on single steps, from those of what is known.
use Rattle.std.proofs.Common.{◌≡◌, ◌<◌, ◌≤◌, ◌+◌, ◌%◌, ◌^◌, ◌==◌, ℕ, Bool, true, false, arith, refl, sym, ap, ◌∙◌, subst, inl, inr, List, [], ◌∷◌, get_or, length, Option, Some, None, Result, Ok, Err, IsTrue, IfSome}
use Rattle.std.specs.Prelude.{find, if◌then◌else◌, ◌&&◌, nat_le}
use Rattle.std.specs.List.{AllByRecursion}
use Rattle.std.specs.Option.{option_map}
use Rattle.std.proofs.Math.ListN.{get_or-eq_default}
use Rattle.std.proofs.lemmas.Bool.Decides.{nat_tests}
use Rattle.elf_image.specs.Image.{ImageView, SegmentView, IsImage, IsSegment, holds_code, word_in, code_at}
use Rattle.rv_decode.specs.declared.instructions.Insn.{Insn}
use Rattle.rv_decode.specs.declared.instructions.VSet as vset
use Rattle.rv_decode.specs.declared.instructions.Insn.TheVariants.{Scalar, Csr, VSet, VArith, VMask, VPerm, VReduce, VMem, VMove}
use Rattle.rv_decode.specs.declared.instructions.ScalarInsn.{ScalarInsn}
use Rattle.rv_decode.specs.declared.instructions.ScalarInsn.TheVariants.{Lui, Auipc, Jal, Jalr, Branch, Load, Store, Immediate, ShiftImmediate, Register, Fence, Ecall}
use Rattle.region_mem.specs.declared.arguments.Arg.TheVariants as argument
use Rattle.region_mem.specs.declared.parameter.Param.{Param}
use Rattle.region_mem.specs.Parameter.{Argument}
use Rattle.vreg_groups.specs.declared.vector_length.Vlen.{Vlen}
use Rattle.cert_note.specs.declared.values.Version.{Version}
use Rattle.scalar_core.specs.Hart.{exit}
use Rattle.machine.specs.Machine.{Machine}
use Rattle.cert_note.specs.declared.values.Budget.{Budget}
use Rattle.cert_note.specs.declared.values.Block.{Block}
use Rattle.cert_note.specs.Certificate.{CertificateView, IsCertificate, IsBlock, AllFrom, after_block}
use Rattle.abs_domain.specs.declared.why.Why.{Why}
use Rattle.abs_state.specs.declared.state.Way.{Way}
use Rattle.abs_state.specs.declared.state.Way.TheVariants.{To}
use Rattle.abs_domain.specs.Numbers.{NumbersView}
use Rattle.abs_state.specs.State.{AbstractView}
use Rattle.abs_state.specs.After.{access_check, after_of, jump_way, passed, taken, vector_after, vset_after, way_of}
use Rattle.abs_transfer.specs.Legal.{legal_check}
use Rattle.abs_state.specs.Blocks.{at_block_of, at_entry_of}
use Rattle.abs_state.specs.Branches.{EdgeView, refined}
use Rattle.abs_state.specs.Edges.{implied_by}
use Rattle.abs_state.specs.Held.{Setting, vlenb_in, Held, Goes, Fits}
use Rattle.abs_state.specs.StepLaws.{StepsAreHeld, StepsCount, StepsGoOn, jumps}
use Rattle.abs_state.specs.EdgeLaws.{EdgesAreTaken, EdgesKeep, ImpliedEnds, ImpliedFits, OneEdge, StraightEdges, block_of, is_fork}
use Rattle.abs_domain.specs.BlockLaws.{ArePassed}
use Rattle.abs_state.specs.StartLaws.{ArePassedBy, BlocksAreHeld, EntriesAreHeld, IsSetting}
use Rattle.block_checker.specs.Passes.{block_at, is_branch, is_branch_insn}
use Rattle.vreg_groups.specs.VectorLength.{vlenb_of}
use Rattle.machine.specs.Start.{passed_at, passed_number, start as start_of}
use Rattle.block_checker.specs.Sound.{PassingRunsEnd}
use Rattle.block_checker.proofs.Finding.{block-begins}
use Rattle.block_checker.proofs.StepLaws.{Laws, budget_in}
use Rattle.block_checker.proofs.Passing.{LawsAt, LawsHold, passing-runs-end}

-- the laws of what is known of a machine, each promised by a function of the crate below
pub record StateLaws : Type 0 where
  pub blocks_are_held : BlocksAreHeld
  pub entries_are_held : EntriesAreHeld
  pub steps_are_held : StepsAreHeld
  pub steps_count : StepsCount
  pub steps_go_on : StepsGoOn
  pub edges_are_taken : EdgesAreTaken
  pub edges_keep : EdgesKeep
  pub one_edge : OneEdge
  pub straight_edges : StraightEdges
  pub implied_ends : ImpliedEnds
  pub implied_fits : ImpliedFits

-- ---- code and blocks

low-in : (pc : ℕ) (s : SegmentView) → IsSegment s → holds_code pc s ≡ true → pc + 4 < 2 ^ 32
low-in pc s is holds = elim (is.in_place) as (λ h. pc + 4 < 2 ^ 32) [
  | inl h ↦ grind (arith, nat_tests, holds, h.1)
  | inr h ↦ grind (arith, nat_tests, holds, h.1)
]

code-low : (segments : List SegmentView) (pc word : ℕ) → AllByRecursion IsSegment segments
    → option_map (word_in pc) (find (holds_code pc) segments) ≡ Some word → pc + 4 < 2 ^ 32
code-low [] pc word are e = absurd (let bad : ⊥ = cc in bad)
code-low (s ∷ ss) pc word are e = go (holds_code pc s) refl e (code-low ss pc word are.1)
  where
    go : (t : Bool) → holds_code pc s ≡ t → option_map (word_in pc) (if t then Some s else find (holds_code pc) ss) ≡ Some word
        → (option_map (word_in pc) (find (holds_code pc) ss) ≡ Some word → pc + 4 < 2 ^ 32) → pc + 4 < 2 ^ 32
    go true h e more = low-in pc s are.0 h
    go false h e more = more e

image-low : (image : ImageView) (pc word : ℕ) → IsImage image → code_at pc image ≡ Some word → pc + 4 < 2 ^ 32
unfolding code_at
image-low image pc word is e = code-low image.segments pc word is.each e

start-aligned : (from start : ℕ) → IsTrue (nat_le from start && (start % 4 == 0)) → start % 4 ≡ 0
start-aligned from start h = grind (arith, nat_tests, h)

found-aligned : (version : Version) (vlen : Vlen) (params : List Param) (from address : ℕ) (blocks : List Block) (b : Block)
    → AllFrom (IsBlock version vlen params) after_block from blocks → find (λ block. block.start == address) blocks ≡ Some b → b.start % 4 ≡ 0
found-aligned version vlen params from address [] b all e = absurd (let bad : ⊥ = cc in bad)
found-aligned version vlen params from address (x ∷ xs) b all e =
    go (x.start == address) e (found-aligned version vlen params (after_block x) address xs b all.1)
  where
    go : (t : Bool) → (if t then Some x else find (λ block. block.start == address) xs) ≡ Some b
        → (find (λ block. block.start == address) xs ≡ Some b → b.start % 4 ≡ 0) → b.start % 4 ≡ 0
    go true e more =
        let same : x ≡ b = cc in
        subst (λ (y : Block). y.start % 4 ≡ 0) same (start-aligned from x.start all.0.start)
    go false e more = more e

block-aligned : (certificate : CertificateView) (address : ℕ) (b : Block) → IsCertificate certificate
    → block_at address certificate.blocks ≡ Some b → address % 4 ≡ 0
unfolding block_at
block-aligned certificate address b is e =
    let start : b.start ≡ address = grind (arith, nat_tests, block-begins address certificate.blocks b e) in
    let even : b.start % 4 ≡ 0 = found-aligned certificate.version certificate.vlen certificate.parameters 0 address certificate.blocks b is.blocks e in
    subst (λ (k : ℕ). k % 4 ≡ 0) start even

-- ---- what an instruction leaves, and where it leads

taken-budget : (way : Way) (a b : AbstractView) (r : Result NumbersView Why) → taken way a r ≡ Ok b → b.budget ≡ a.budget
unfolding taken
taken-budget way a b (Ok numbers) e =
    let same : record a { numbers = numbers; words = a.words + 1; way = way } ≡ b = cc in
    ap (λ (k : AbstractView). k.budget) (sym same)
taken-budget way a b (Err why) e = absurd (let bad : ⊥ = cc in bad)

taken-way : (way : Way) (a b : AbstractView) (r : Result NumbersView Why) → taken way a r ≡ Ok b → b.way ≡ way
unfolding taken
taken-way way a b (Ok numbers) e =
    let same : record a { numbers = numbers; words = a.words + 1; way = way } ≡ b = cc in
    ap (λ (k : AbstractView). k.way) (sym same)
taken-way way a b (Err why) e = absurd (let bad : ⊥ = cc in bad)

passed-budget : (first second : Result (Unit {0}) Why) (budget : Option Budget) (a b : AbstractView) → a.budget ≡ budget → passed first second a ≡ Ok b
    → b.budget ≡ budget
unfolding passed
passed-budget (Ok first) (Ok second) budget a b is e = cc
passed-budget (Ok first) (Err why) budget a b is e = absurd (let bad : ⊥ = cc in bad)
passed-budget (Err why) second budget a b is e = absurd (let bad : ⊥ = cc in bad)

vector-budget : (pc : ℕ) (insn : Insn) (a b : AbstractView) → vector_after pc insn a ≡ Ok b → b.budget ≡ a.budget
unfolding vector_after
vector-budget pc insn a b e = passed-budget (legal_check a.vtype insn) (access_check a insn) a.budget _ b refl e

vset-budget : (pc : ℕ) (insn : vset.VSet) (a : AbstractView) → (vset_after pc insn a).budget ≡ a.budget
unfolding vset_after
vset-budget pc insn a = refl

after-budget : (pc : ℕ) (insn : Insn) (a b : AbstractView) → after_of pc insn a ≡ Ok b → b.budget ≡ a.budget
unfolding after_of
after-budget pc (Scalar insn) a b e = taken-budget _ a b _ e
after-budget pc (Csr insn) a b e = taken-budget _ a b _ e
after-budget pc (VSet insn) a b e =
    let same : vset_after pc insn a ≡ b = cc in
    ap (λ (k : AbstractView). k.budget) (sym same) ∙ vset-budget pc insn a
after-budget pc (VArith insn) a b e = vector-budget pc (VArith insn) a b e
after-budget pc (VMask insn) a b e = vector-budget pc (VMask insn) a b e
after-budget pc (VPerm insn) a b e = vector-budget pc (VPerm insn) a b e
after-budget pc (VReduce insn) a b e = vector-budget pc (VReduce insn) a b e
after-budget pc (VMem insn) a b e = vector-budget pc (VMem insn) a b e
after-budget pc (VMove insn) a b e = vector-budget pc (VMove insn) a b e

jump-single : (o : Option ℕ) → is_fork (jump_way o) ≡ false
unfolding jump_way
jump-single None = refl
jump-single (Some address) = refl

way-single : (pc : ℕ) (insn : ScalarInsn) (s : NumbersView) → is_branch_insn insn ≡ false → is_fork (way_of pc insn s) ≡ false
unfolding way_of is_branch_insn
way-single pc (Branch condition rs1 rs2 offset) s h = absurd (let bad : ⊥ = cc in bad)
way-single pc (Lui rd imm) s h = refl
way-single pc (Auipc rd imm) s h = refl
way-single pc (Jal rd offset) s h = refl
way-single pc (Jalr rd rs1 offset) s h = jump-single _
way-single pc (Load kind rd rs1 offset) s h = refl
way-single pc (Store size rs1 rs2 offset) s h = refl
way-single pc (Immediate op rd rs1 imm) s h = refl
way-single pc (ShiftImmediate op rd rs1 amount) s h = refl
way-single pc (Register op rd rs1 rs2) s h = refl
way-single pc Fence s h = refl
way-single pc Ecall s h = refl

after-single : StateLaws → (pc : ℕ) (insn : Insn) (a b : AbstractView) → is_branch insn ≡ false → after_of pc insn a ≡ Ok b → is_fork b.way ≡ false
unfolding after_of is_branch jumps
after-single laws pc (Scalar insn) a b h e = ap is_fork (taken-way _ a b _ e) ∙ way-single pc insn a.numbers h
after-single laws pc (Csr insn) a b h e = ap is_fork (taken-way _ a b _ e)
after-single laws pc (VSet insn) a b h e = ap is_fork (laws.steps_go_on pc (VSet insn) a b refl e)
after-single laws pc (VArith insn) a b h e = ap is_fork (laws.steps_go_on pc (VArith insn) a b refl e)
after-single laws pc (VMask insn) a b h e = ap is_fork (laws.steps_go_on pc (VMask insn) a b refl e)
after-single laws pc (VPerm insn) a b h e = ap is_fork (laws.steps_go_on pc (VPerm insn) a b refl e)
after-single laws pc (VReduce insn) a b h e = ap is_fork (laws.steps_go_on pc (VReduce insn) a b refl e)
after-single laws pc (VMem insn) a b h e = ap is_fork (laws.steps_go_on pc (VMem insn) a b refl e)
after-single laws pc (VMove insn) a b h e = ap is_fork (laws.steps_go_on pc (VMove insn) a b refl e)

-- ---- the record

module _ (laws : StateLaws) (e : Setting) (begin : Machine) (is_image : IsImage e.image) (is_certificate : IsCertificate e.certificate) (passed : ArePassed e.certificate.parameters e.passed)
    (start : Held e 0 (at_entry_of e.image e.certificate) begin) where
  -- A state that is known in a block, which has a budget.
  pub record HeldIn (n : ℕ) (a : AbstractView) (s : Machine) : Type 0 where
    pub held : Held e n a s
    pub own : Budget
    pub budget : a.budget ≡ Some own

  given : IsSetting e
  given = record { image = is_image; certificate = is_certificate; passed = passed }

  block-held : (b : Block) (s : Machine) → block_at s.hart.pc e.certificate.blocks ≡ Some b → Fits e b s
      → HeldIn (budget_in b s) (at_block_of e.image e.certificate b) s
  unfolding block_at at_block_of
  block-held b s found fits = record { held = laws.blocks_are_held e b s given found fits; own = b.budget; budget = refl }

  paid : (own : Budget) (o : Option Budget) (P : Type 0) → o ≡ Some own → IfSome o (λ b. P) → P
  paid own None P h k = absurd (let bad : ⊥ = cc in bad)
  paid own (Some b) P h k = k

  edge-budget : (n : ℕ) (a : AbstractView) (t : Machine) (taken : Bool) (edge : EdgeView) (h : HeldIn n a t) → refined taken a ≡ Some edge
      → edge.state.budget ≡ Some h.own
  edge-budget n a t taken edge h is = ap (λ (k : AbstractView). k.budget) (laws.edges_keep taken a edge is) ∙ h.budget

  entry-way : (at_entry_of e.image e.certificate).way ≡ To e.image.entry
  unfolding at_entry_of
  entry-way = refl

  entry-edges : (taken : Bool) → refined taken (at_entry_of e.image e.certificate) ≡ refined false (at_entry_of e.image e.certificate)
  entry-edges taken = laws.one_edge taken (at_entry_of e.image e.certificate) (ap is_fork entry-way)

  shown-fits : (n : ℕ) (edge : EdgeView) (b : Block) (t : Machine) (taken : Bool) (a : AbstractView) → HeldIn n a t
      → refined taken a ≡ Some edge → Goes e n edge t → block_at t.hart.pc e.certificate.blocks ≡ Some b
      → implied_by edge (Some b) ≡ Ok tt → Fits e b t × (budget_in b t + edge.state.words ≤ n)
  unfolding block_at
  shown-fits n edge b t taken a h is goes found shown =
      let there = laws.implied_fits e n edge b t goes found is_certificate shown in
      (there.0, paid h.own edge.state.budget (budget_in b t + edge.state.words ≤ n) (edge-budget n a t taken edge h is) there.1)

  shown-ends : (n : ℕ) (edge : EdgeView) (t : Machine) (taken : Bool) (a : AbstractView) → HeldIn n a t
      → refined taken a ≡ Some edge → Goes e n edge t → implied_by edge None ≡ Ok tt → (t.hart.pc ≡ exit) × (edge.state.words ≤ n)
  shown-ends n edge t taken a h is goes shown =
      let there = laws.implied_ends e n edge t goes shown in
      (there.0, paid h.own edge.state.budget (edge.state.words ≤ n) (edge-budget n a t taken edge h is) there.1)

  target-is : (pc : ℕ) (o : Option ℕ) (P : ℕ → Type 0) → o ≡ Some pc → IfSome o P → P pc
  target-is pc None P h k = absurd (let bad : ⊥ = cc in bad)
  target-is pc (Some q) P h k = let same : q ≡ pc = cc in subst P same k

  starts-there : begin.hart.pc ≡ e.image.entry
  unfolding at_entry_of
  starts-there = start.way

  entry-shows : (edge : EdgeView) (b : Block) → refined false (at_entry_of e.image e.certificate) ≡ Some edge
      → block_at e.image.entry e.certificate.blocks ≡ Some b → implied_by edge (Some b) ≡ Ok tt → Fits e b begin
  unfolding block_at
  entry-shows edge b is found shown =
      let way = laws.edges_are_taken e 0 (at_entry_of e.image e.certificate) begin start in
      let one : Some way.edge ≡ Some edge = sym way.is ∙ entry-edges way.taken ∙ is in
      let same : way.edge ≡ edge = cc in
      let goes : Goes e 0 edge begin = subst (λ (k : EdgeView). Goes e 0 k begin) same way.goes in
      let here : block_of e begin ≡ Some b = ap (λ (p : ℕ). block_at p e.certificate.blocks) starts-there ∙ found in
      let there = laws.implied_fits e 0 edge b begin goes here is_certificate shown in
      there.0

  first-edge : (edge : EdgeView) × (refined false (at_entry_of e.image e.certificate) ≡ Some edge) × (edge.target ≡ Some e.image.entry)
  first-edge =
      let way = laws.edges_are_taken e 0 (at_entry_of e.image e.certificate) begin start in
      (way.edge, sym (entry-edges way.taken) ∙ way.is, laws.straight_edges way.taken (at_entry_of e.image e.certificate) e.image.entry way.edge entry-way way.is)

  straight-on : (pc : ℕ) (insn : Insn) (a b : AbstractView) (taken : Bool) (edge : EdgeView) → jumps insn ≡ false → pc + 4 < 2 ^ 32
      → after_of pc insn a ≡ Ok b → refined taken b ≡ Some edge → edge.target ≡ Some (pc + 4)
  straight-on pc insn a b taken edge h low after is =
      let next : (pc + 4) % 2 ^ 32 ≡ pc + 4 = omega (arith, low) in
      laws.straight_edges taken b ((pc + 4) % 2 ^ 32) edge (laws.steps_go_on pc insn a b h after) is ∙ ap (λ (k : ℕ). Some k) next

  begins-none : (b : Block) → (at_block_of e.image e.certificate b).words ≡ 0
  unfolding at_block_of
  begins-none b = refl

  pub laws-hold : Laws e.image e.certificate (vlenb_in e) begin HeldIn (Goes e) (Fits e)
  laws-hold = record {
    low = λ pc word c. image-low e.image pc word is_image c;
    aligned = λ pc b c. block-aligned e.certificate pc b is_certificate c;
    code = λ n word a s h c. h.held.known.proper.code s.hart.pc word c;
    block = block-held;
    step = λ n word insn a b s h even means after.
        let next = laws.steps_are_held e n a b s word insn is_image is_certificate h.held even means after in
        (next.t, next.is, record { held = next.held; own = h.own; budget = after-budget s.hart.pc insn a b after ∙ h.budget });
    edge = λ n a t h. let way = laws.edges_are_taken e n a t h.held in (way.taken, way.edge, way.is, way.goes);
    one_edge = λ pc insn a b taken h after. laws.one_edge taken b (after-single laws pc insn a b h after);
    straight = straight-on;
    counts = laws.steps_count;
    keeps = λ taken a edge is. ap (λ (k : AbstractView). k.words) (laws.edges_keep taken a edge is);
    begins = begins-none;
    at = λ n pc edge t goes target. target-is pc edge.target (λ q. t.hart.pc ≡ q) target goes.target;
    fits = shown-fits;
    ends = shown-ends;
    entry = entry-shows;
    entry_edge = first-edge;
  }

  pub laws-at : LawsAt e.image e.certificate begin
  laws-at = record { held = HeldIn; goes = Goes e; fits = Fits e; laws = laws-hold }

-- the setting in which the numbers are those that the arguments pass
abbrev setting_by : ImageView → CertificateView → List Argument → Setting
setting_by image certificate args = record {
  image = image;
  certificate = certificate;
  passed = passed_at certificate.parameters args;
}

passed_by_them : (image : ImageView) (certificate : CertificateView) (args : List Argument) → length args ≡ 8
    → ArePassedBy (setting_by image certificate args) args
unfolding passed_number
passed_by_them image certificate args eight = record {
  each = λ place l. refl;
  past = λ place l. (
      let none : get_or args place argument.None ≡ argument.None = get_or-eq_default args argument.None (omega (arith, eight, l)) in
      subst (λ (arg : Argument). passed_number certificate.parameters place arg < 2 ^ 32) (sym none) (omega arith));
}

-- the laws hold at each start
laws-everywhere : StateLaws → LawsHold
laws-everywhere laws image certificate args agnostic is_image is_certificate eight matching bytes =
    let e = setting_by image certificate args in
    let entry = laws.entries_are_held e 0 agnostic args is_image is_certificate eight matching bytes (passed_by_them image certificate args eight) in
    laws-at laws e (start_of (vlenb_of certificate.vlen) agnostic image certificate.parameters args) is_image is_certificate entry.0.passed entry.1

pub passing-ends-everywhere : StateLaws → PassingRunsEnd
passing-ends-everywhere laws = passing-runs-end (laws-everywhere laws)
