-- What is made of a loop passes the check.
use Rattle.std.proofs.Common.{◌≡◌, ◌≢◌, ℕ, ◌+◌, ◌*◌, ◌<◌, ◌≤◌, inl, inr, refl, sym, ap, ◌∙◌, subst, arith, Some, None, List, [], ◌∷◌}
use Rattle.std.specs.Prelude.{ℤ, Ok}
use Rattle.std.proofs.lemmas.Bool.{cases_eq, ne_eqb, eq-eqb}
use Rattle.elf_image.specs.Image.{ImageView, IsImage}
use Rattle.rv_decode.specs.declared.instructions.Condition.TheVariants.{Eq}
use Rattle.rv_decode.specs.declared.instructions.Insn.{Insn}
use Rattle.rv_decode.specs.declared.instructions.Insn.TheVariants.{Scalar, VSet}
use Rattle.rv_decode.specs.declared.instructions.ScalarInsn.TheVariants.{Branch}
use Rattle.rv_decode.specs.declared.instructions.VSet.TheVariants.{Vsetvli}
use Rattle.rv_decode.specs.Encodings.{MeaningsFit}
use Rattle.region_mem.specs.declared.parameter.Param.{Param}
use Rattle.scalar_core.specs.Hart.{exit}
use Rattle.scalar_core.specs.Step.{offset_by}
use Rattle.vreg_groups.specs.VectorLength.{vlenb_of}
use Rattle.vreg_groups.specs.VectorType.{vtype_of}
use Rattle.vreg_groups.specs.declared.vector_length.Vlen.{Vlen}
use Rattle.cert_note.specs.Certificate.{CertificateView}
use Rattle.cert_note.specs.declared.values.Block.{Block}
use Rattle.abs_state.specs.declared.state.Way.TheVariants.{Fork}
use Rattle.abs_state.specs.State.{AbstractView}
use Rattle.abs_transfer.specs.Scalar.{scalar_after}
use Rattle.abs_state.specs.StepLaws.{jumps}
use Rattle.abs_state.specs.After.{after_of, next_word, taken, way_of}
use Rattle.abs_state.specs.Blocks.{at_block_of, at_entry_of}
use Rattle.abs_state.specs.Branches.{edge_by, refined}
use Rattle.block_checker.specs.Passes.{block_at, block_passes, blocks_pass, checked, edges_pass, entry_passes, entry_passes_to, possible_passes, then_on, walk}
use Rattle.cert_maker.specs.declared.loops.Loop.{Loop}
use Rattle.cert_maker.specs.declared.loops.Reading.TheVariants.{Works}
use Rattle.cert_maker.specs.Loops.{insn_at}
use Rattle.cert_maker.specs.Certificates.{block, budget, certificate_of, entry_facts, facts_by, loop_facts}
use Rattle.cert_maker.specs.Known.{Round, IsCertified}
use Rattle.cert_maker.specs.Laws.{CertificatesPass}
use Rattle.cert_maker.specs.Make.{AreParameters}
use Rattle.cert_maker.proofs.CodePlaces.{insn_low}
use Rattle.cert_maker.proofs.Ending.{passes_both}
use Rattle.cert_maker.proofs.Entrances.{block_entry, run_entry}
use Rattle.cert_maker.proofs.Entries.{AreThere, IsFirst, branch_passes, way_in_passes}
use Rattle.cert_maker.proofs.IsCertificateLemmas.{view_of}
use Rattle.cert_maker.proofs.IsRounds.{IsEntered, IsRead, count_same, end_is, entered, is_round, keeps, limit_of, read_all, round_at, whole}
use Rattle.cert_maker.proofs.LoopBlocks.{loop_passes}
use Rattle.cert_maker.proofs.LoopWalks.{inside, stops, word_is}
use Rattle.cert_maker.proofs.Returns.{returns-pass}

-- ---- the blocks of a certificate

found : (address : ℕ) (b : Block) (blocks : List Block) → b.start ≡ address → block_at address (b ∷ blocks) ≡ Some b
unfolding block_at
found address b blocks e = rw (eq-eqb b.start address e) refl

past : (address : ℕ) (b : Block) (blocks : List Block) → b.start ≢ address → block_at address (b ∷ blocks) ≡ block_at address blocks
unfolding block_at
past address b blocks ne = rw (ne_eqb b.start address ne) refl

no_block : (address : ℕ) → block_at address [] ≡ None
unfolding block_at
no_block address = refl

two_pass : (image : ImageView) (certificate : CertificateView) (b c : Block) → block_passes image certificate b ≡ Ok tt
    → block_passes image certificate c ≡ Ok tt → blocks_pass image certificate (b ∷ c ∷ []) ≡ Ok tt
unfolding blocks_pass
two_pass image certificate b c e f = passes_both _ _ e (passes_both _ _ f refl)

three_pass : (image : ImageView) (certificate : CertificateView) (b c d : Block) → block_passes image certificate b ≡ Ok tt
    → block_passes image certificate c ≡ Ok tt → block_passes image certificate d ≡ Ok tt → blocks_pass image certificate (b ∷ c ∷ d ∷ []) ≡ Ok tt
unfolding blocks_pass
three_pass image certificate b c d e f g = passes_both _ _ e (passes_both _ _ f (passes_both _ _ g refl))

-- ---- the entry

module _ (k : Round) (is : IsEntered k) (vlen : Vlen) (blocks : List Block) (entry : ℕ) (offset : ℤ) where
  abbrev certificate : CertificateView
  certificate = view_of vlen k.params blocks

  abbrev first_block : Block
  first_block = block entry (budget 2 k.words k.loop.count) (entry_facts k.params k.loop)

  abbrev begin : AbstractView
  begin = at_block_of k.image certificate first_block

  is_first : IsFirst k begin
  unfolding at_block_of
  is_first = record {
    numbers = block_entry k is;
    budget = refl;
    paid = (block_entry k is).count;
    second_paid = (block_entry k is).zero;
    words = refl;
  }

  branched : AbstractView
  branched = record begin { words = begin.words + 1; way = Fork Eq k.loop.count 0 (offset_by entry offset) (next_word entry) }

  branch_after : after_of entry (Scalar (Branch Eq k.loop.count 0 offset)) begin ≡ Ok branched
  unfolding after_of taken way_of scalar_after branched
  branch_after = refl

  branch_edges : AreThere certificate k (offset_by entry offset) (next_word entry)
      → edges_pass certificate entry (Scalar (Branch Eq k.loop.count 0 offset)) branched ≡ Ok tt
  unfolding branched
  branch_edges c = branch_passes k is entry begin is_first (offset_by entry offset) (next_word entry) certificate offset c

  pub first_passes : insn_at entry k.image ≡ Some (Scalar (Branch Eq k.loop.count 0 offset))
      → AreThere certificate k (offset_by entry offset) (next_word entry) → block_passes k.image certificate first_block ≡ Ok tt
  unfolding block_passes walk jumps
  first_passes at c =
      ap (λ x. then_on x (λ next. walk k.image certificate 4095 (entry + 4) next))
      (word_is k.image certificate entry (Scalar (Branch Eq k.loop.count 0 offset)) begin branched at branch_after
      ∙ stops certificate entry (Scalar (Branch Eq k.loop.count 0 offset)) branched refl (branch_edges c))

-- ---- the way in

entered_there : (k : Round) → IsEntered k → (vlen : Vlen) (blocks : List Block) → k.image.entry ≢ exit
    → block_at k.image.entry blocks ≡ Some (block k.image.entry (budget 2 k.words k.loop.count) (entry_facts k.params k.loop))
    → entry_passes k.image (view_of vlen k.params blocks) ≡ Ok tt
unfolding entry_passes entry_passes_to refined edge_by possible_passes at_entry_of
entered_there k is vlen blocks ne at =
    rw at
    (way_in_passes k is k.image.entry (at_entry_of k.image (view_of vlen k.params blocks)) (run_entry k is) refl (view_of vlen k.params blocks) ne at)

all_checked : (image : ImageView) (vlen : Vlen) (params : List Param) (blocks : List Block) → entry_passes image (view_of vlen params blocks) ≡ Ok tt
    → blocks_pass image (view_of vlen params blocks) blocks ≡ Ok tt → checked image (view_of vlen params blocks) vlen ≡ Ok tt
unfolding checked
all_checked image vlen params blocks e f = rw (eq-eqb (vlenb_of vlen) (vlenb_of vlen) refl) (passes_both _ _ e f)

-- ---- a loop that was read

module _ (fit : MeaningsFit) (image : ImageView) (params : List Param) (vlen : Vlen) (through : Loop × ℕ) (is : IsImage image)
    (are : AreParameters params) (read : IsRead image params through) where
  abbrev k : Round
  k = round_at image params through read (limit_of image params through read are vlen)

  abbrev words : ℕ
  words = through.1

  abbrev start : ℕ
  start = image.entry + 4

  is_entered : IsEntered k
  is_entered = entered image params through read are (limit_of image params through read are vlen)

  first_block_of : Block
  first_block_of = block image.entry (budget 2 words through.0.count) (entry_facts params through.0)

  loop_block_of : Block
  loop_block_of = block start (budget 1 words through.0.count) (loop_facts params through.0)

  last_block_of : Block
  last_block_of = block (start + 4 * words) (budget 1 0 0) (facts_by (λ place. None))

  low : start + 4 * words + 4 ≤ 3221225472
  low = insn_low image (start + 4 * words) read.last is read.last_at

  enough : 2 ≤ words
  enough =
      let far = inside image params start read.fuel (start + 4) (Works read.of) through (omega arith) read.rest in
      omega (arith, far)

  few : words ≤ 1025
  few = (whole image params through read are fit is).0

  end_there : offset_by image.entry read.first_is.offset ≡ start + 4 * words
  end_there = sym (end_is image params through read) ∙ (whole image params through read are fit is).1

  next_there : next_word image.entry ≡ start
  next_there = (let small = low in omega (arith, small))

  first_at : insn_at image.entry image ≡ Some (Scalar (Branch Eq through.0.count 0 read.first_is.offset))
  first_at =
      read.first_at
      ∙ (ap (λ (i : Insn). Some i) read.first_is.is
      ∙ ap (λ (c : ℕ). Some (Scalar (Branch Eq c 0 read.first_is.offset))) (sym (count_same image params through read)))

  second_at : insn_at start image ≡ Some (VSet (Vsetvli through.0.length through.0.count through.0.vtype))
  second_at =
      let kept = keeps image params through read in
      read.second_at
      ∙ (ap (λ (i : Insn). Some i) read.second_is.is
      ∙ (ap (λ (r : ℕ). Some (VSet (Vsetvli r read.of.count read.of.vtype))) (sym kept.alike.length)
      ∙ (ap (λ (r : ℕ). Some (VSet (Vsetvli through.0.length r read.of.vtype))) (sym kept.alike.count)
      ∙ ap (λ (r : ℕ). Some (VSet (Vsetvli through.0.length through.0.count r))) (sym kept.alike.vtype))))

  type_there : vtype_of through.0.vtype ≡ Some read.second_is.vector_type
  type_there =
      let kept = keeps image params through read in
      ap (λ (v : ℕ). vtype_of v) kept.alike.vtype ∙ read.second_is.type_is

  returns : (blocks : List Block) → block_passes image (view_of vlen params blocks) last_block_of ≡ Ok tt
  unfolding last_block_of
  returns blocks = returns-pass image (view_of vlen params blocks) (start + 4 * words) read.last read.last_at read.last_is

  -- ---- of blocks whose first leads to the loop, where it is entered, and to the last

  there : (blocks : List Block) → block_at (start + 4 * words) blocks ≡ Some last_block_of → (1 ≤ through.0.most → block_at start blocks ≡ Some loop_block_of)
      → AreThere (view_of vlen params blocks) k (offset_by image.entry read.first_is.offset) (next_word image.entry)
  unfolding loop_block_of last_block_of
  there blocks last loop = record {
    end = end_there;
    end_at = last;
    end_other = λ e. (let small = low in omega (arith, e, small));
    loop = next_there;
    loop_at = loop;
    loop_other = λ e. (let small = low in omega (arith, e, small));
  }

  first_goes : (blocks : List Block) → AreThere (view_of vlen params blocks) k (offset_by image.entry read.first_is.offset) (next_word image.entry)
      → block_passes image (view_of vlen params blocks) first_block_of ≡ Ok tt
  unfolding first_block_of
  first_goes blocks are_there = first_passes k is_entered vlen blocks image.entry read.first_is.offset first_at are_there

  enters : (blocks : List Block) → block_at image.entry blocks ≡ Some first_block_of → entry_passes image (view_of vlen params blocks) ≡ Ok tt
  unfolding first_block_of
  enters blocks first = entered_there k is_entered vlen blocks (λ e. (let small = low in omega (arith, e, small))) first

  pass : (blocks : List Block) → certificate_of image params vlen through.0 words ≡ view_of vlen params blocks → block_at image.entry blocks ≡ Some first_block_of
      → blocks_pass image (view_of vlen params blocks) blocks ≡ Ok tt → checked image (certificate_of image params vlen through.0 words) vlen ≡ Ok tt
  pass blocks same first go =
      subst (λ (c : CertificateView). checked image c vlen ≡ Ok tt) (sym same) (all_checked image vlen params blocks (enters blocks first) go)

  -- ---- where there is something to do

  module _ (some : 1 ≤ through.0.most) where
    three : List Block
    three = first_block_of ∷ loop_block_of ∷ last_block_of ∷ []

    first_found : block_at image.entry three ≡ Some first_block_of
    unfolding three first_block_of
    first_found = found image.entry first_block_of (loop_block_of ∷ last_block_of ∷ []) refl

    loop_found : block_at start three ≡ Some loop_block_of
    unfolding three first_block_of loop_block_of
    loop_found =
        past start first_block_of (loop_block_of ∷ last_block_of ∷ []) (λ e. omega (arith, e))
        ∙ found start loop_block_of (last_block_of ∷ []) refl

    last_found : block_at (start + 4 * words) three ≡ Some last_block_of
    unfolding three first_block_of loop_block_of last_block_of
    last_found =
        past (start + 4 * words) first_block_of (loop_block_of ∷ last_block_of ∷ []) (λ e. omega (arith, e))
        ∙ (past (start + 4 * words) loop_block_of (last_block_of ∷ []) (λ e. (let two = enough in omega (arith, e, two)))
        ∙ found (start + 4 * words) last_block_of [] refl)

    none_found : (at : ℕ) → start < at → at < start + 4 * words → block_at at three ≡ None
    unfolding three first_block_of loop_block_of last_block_of
    none_found at l g =
        past at first_block_of (loop_block_of ∷ last_block_of ∷ []) (λ e. omega (arith, e, l))
        ∙ (past at loop_block_of (last_block_of ∷ []) (λ e. omega (arith, e, l))
        ∙ (past at last_block_of [] (λ e. omega (arith, e, g)) ∙ no_block at))

    certified : IsCertified (view_of vlen params three) k
    unfolding loop_block_of last_block_of
    certified = record {
      loop_at = loop_found;
      end_at = last_found;
      start_other = λ e. (let small = low in omega (arith, e, small));
      end_other = λ e. (let small = low in omega (arith, e, small));
    }

    loop_goes : block_passes image (view_of vlen params three) loop_block_of ≡ Ok tt
    unfolding loop_block_of
    loop_goes =
        loop_passes k (is_round image params through read are fit vlen some) vlen read.second_is.vector_type type_there refl three
        fit read.fuel read.of second_at certified read.rest enough few none_found

    blocks_go : blocks_pass image (view_of vlen params three) three ≡ Ok tt
    unfolding three
    blocks_go =
        three_pass image (view_of vlen params three) first_block_of loop_block_of last_block_of
        (first_goes three (there three last_found (λ l. loop_found))) loop_goes (returns three)

    three_are : certificate_of image params vlen through.0 words ≡ view_of vlen params three
    unfolding certificate_of three first_block_of loop_block_of last_block_of
    three_are = rw (ne_eqb through.0.most 0 (λ e. omega (arith, e, some))) refl

    pub some_pass : checked image (certificate_of image params vlen through.0 words) vlen ≡ Ok tt
    some_pass = pass three three_are first_found blocks_go

  -- ---- where there is nothing

  module _ (none : through.0.most ≡ 0) where
    two : List Block
    two = first_block_of ∷ last_block_of ∷ []

    first_of_two : block_at image.entry two ≡ Some first_block_of
    unfolding two first_block_of
    first_of_two = found image.entry first_block_of (last_block_of ∷ []) refl

    last_of_two : block_at (start + 4 * words) two ≡ Some last_block_of
    unfolding two first_block_of last_block_of
    last_of_two =
        past (start + 4 * words) first_block_of (last_block_of ∷ []) (λ e. omega (arith, e))
        ∙ found (start + 4 * words) last_block_of [] refl

    never : {A : Type 0} → 1 ≤ through.0.most → A
    never l = absurd (omega (arith, l, none))

    two_go : blocks_pass image (view_of vlen params two) two ≡ Ok tt
    unfolding two
    two_go =
        two_pass image (view_of vlen params two) first_block_of last_block_of
        (first_goes two (there two last_of_two (λ l. never l))) (returns two)

    two_are : certificate_of image params vlen through.0 words ≡ view_of vlen params two
    unfolding certificate_of two first_block_of last_block_of
    two_are = rw (eq-eqb through.0.most 0 none) refl

    pub none_pass : checked image (certificate_of image params vlen through.0 words) vlen ≡ Ok tt
    none_pass = pass two two_are first_of_two two_go

pub certificates-pass : MeaningsFit → CertificatesPass
certificates-pass fit image params vlen through is are e =
    let read = read_all image params through e in
    elim (cases_eq through.0.most 0) [
      | inl none ↦ none_pass fit image params vlen through is are read none
      | inr more ↦ some_pass fit image params vlen through is are read (omega (arith, more))
    ]
